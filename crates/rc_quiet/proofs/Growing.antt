-- What fits still fits as messages are added.
use Rattle.std.proofs.Common.{ℕ, List, [], ◌∷◌, ◌++◌, inl, inr, ⊎_elim}
use Rattle.rc_ids.specs.Tables.{In}
use Rattle.rc_ids.specs.Cluster.{Layout}
use Rattle.rc_ids.specs.declared.names.Party.{Party}
use Rattle.rc_body.specs.declared.entry.Entry.{Entry}
use Rattle.rc_body.specs.declared.decision.Decision.{Decision}
use Rattle.rc_msg.specs.declared.msg.Envelope.{Envelope}
use Rattle.rc_msg.specs.declared.msg.Msg.{Msg}
use Rattle.rc_msg.specs.declared.msg.Msg.TheVariants.{ReadAsk, Granted, Propose, Prepare, Prepared, Voted, Ask, Decided, Finish, CatchPage}
use Rattle.rc_protocol.specs.Messages.{Posts}
use Rattle.rc_protocol.specs.Client.{Client}
use Rattle.rc_protocol.specs.Nodes.{CoordNode, ShardNode}
use Rattle.rc_runs.specs.World.{envelopes}
use Rattle.rc_agreement.proofs.Tables.{in_left, in_right}
use Rattle.rc_quiet.proofs.Parts.{Sent, Own, HasTold, Told, Preparing, Answering, Fits, CoordFits, ShardFits, Answers, SaysYes}

-- what an act says is sent with it
pub posted_in : (sent : List Envelope) (from : Party) (ms : Posts) (to : Party) (m : Msg) → In (to, m) ms → Sent (sent ++ envelopes from ms) from to m
posted_in sent from ms to m i = in_right _ sent (envelopes from ms) (new ms i)
  where
    new : (ms : Posts) → In (to, m) ms → In (record { from = from; to = to; msg = m }) (envelopes from ms)
    new [] i = i
    new (x ∷ xs) (inl e) = inl (λ k. record { from = from; to = (e k).0; msg = (e k).1 })
    new (x ∷ xs) (inr i) = inr (new xs i)

pub more_in : (sent : List Envelope) (from : Party) (ms : Posts) (e : Envelope) → In e sent → In e (sent ++ envelopes from ms)
more_in sent from ms e i = in_left e sent (envelopes from ms) i

module _ (t : ℕ) (c : Layout) (sent now : List Envelope) (all : (e : Envelope) → In e sent → In e now) where
  pub own_on : (o : Decision) → Own t sent o → Own t now o
  own_on o h = (h.0, (h.1.0, all _ h.1.1))

  pub told_vote_on : (d : ℕ) → HasTold t sent d → HasTold t now d
  told_vote_on d h = (h.0, all _ h.1)

  pub told_on : (o : Decision) → Told t c sent o → Told t c now o
  told_on o h = (own_on o h.0, record { set = h.1.set; enough = h.1.enough; each = λ d i. told_vote_on d (h.1.each d i) })

  preparing_on : (from to : Party) (p : List Entry) → Preparing t c sent from to p → Preparing t c now from to p
  preparing_on from to p h = record { dc = h.dc; shard = h.shard; from_it = h.from_it; to_it = h.to_it; body = h.body; own = own_on _ h.own; is = h.is; touched = h.touched }

  answering_on : (from to : Party) (sh : ℕ) → Answering t sent from to sh → Answering t now from to sh
  answering_on from to sh h = record { dc = h.dc; from_it = h.from_it; to_it = h.to_it; part = h.part; asked = all _ h.asked }

  pub fits_on : (from to : Party) (m : Msg) → Fits t c sent from to m → Fits t c now from to m
  fits_on from to (ReadAsk u k) h = h
  fits_on from to (Granted u k e n y) h = λ is. let f = h is in (f.0, f.1, all _ f.2, f.3)
  fits_on from to (Propose u b o) h = h
  fits_on from to (Prepare u p) h = λ is. preparing_on from to p (h is)
  fits_on from to (Prepared u sh r) h = λ is. answering_on from to sh (h is)
  fits_on from to (Voted u b e o) h = λ is. let f = h is in (f.0, f.1, f.2, own_on o f.3, all _ f.4, f.5)
  fits_on from to (Ask u b) h = h
  fits_on from to (Decided u o) h = λ is. told_on o (h is)
  fits_on from to (Finish u o) h = λ is. let f = h is in (f.0, (f.1.0, own_on f.1.0 f.1.1))
  fits_on from to (CatchPage e place page) h = λ o i. told_on o (h o i)
  fits_on from to _ h = tt

  pub coord_on : (x : CoordNode) → CoordFits t c sent x → CoordFits t c now x
  coord_on x h =
      record {
        accepted = λ b o is. let f = h.accepted b o is in (f.0, own_on o f.1);
        gathers = λ g i. let f = h.gathers g i in (f.0, own_on _ f.1);
        listed = λ o i. told_on o (h.listed o i);
        tally = λ tl i e o j. told_vote_on e (h.tally tl i e o j);
      }

  pub shard_on : (d sh : ℕ) (x : ShardNode) → ShardFits t c sent d sh x → ShardFits t c now d sh x
  shard_on d sh x h =
      record {
        parts = λ p i. all _ (h.parts p i);
        finished = λ outcome is. let f = h.finished outcome is in (f.0, (f.1.0, own_on f.1.0 f.1.1));
        marks = λ k i. let f = h.marks k i in (f.0, all _ f.1);
      }

  pub answers_on : (x : Client) (d sh : ℕ) (k : List ℕ) → Answers t sent x d sh k → Answers t now x d sh k
  answers_on x d sh k h = ⊎_elim (λ g. inl (g.0, g.1, all _ g.2)) inr h

  pub yes_on : (d sh : ℕ) (x : ShardNode) → SaysYes t sent d sh x → SaysYes t now d sh x
  yes_on d sh x h = ⊎_elim (λ g. inl (all _ g)) inr h
