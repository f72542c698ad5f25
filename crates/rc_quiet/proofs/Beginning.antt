-- Where nothing names t, all that a quiet stretch keeps of it holds.
use Rattle.std.proofs.Common.{◌≡◌, ℕ, List, refl, sym, ◌∙◌, None, inl, ⊎_elim}
use Rattle.std.specs.Ordering.{nat_cmp}
use Rattle.rc_ids.specs.Tables.{found}
use Rattle.rc_ids.specs.Cluster.{Layout}
use Rattle.rc_ids.specs.declared.names.Party.{Party}
use Rattle.rc_msg.specs.declared.msg.Envelope.{Envelope}
use Rattle.rc_msg.specs.declared.msg.Msg.{Msg}
use Rattle.rc_msg.specs.declared.msg.Msg.TheVariants.{ReadAsk, Granted, Propose, Prepare, Prepared, Voted, Ask, Decided, Finish, CatchPage}
use Rattle.rc_protocol.specs.Nodes.{CoordNode, ShardNode}
use Rattle.rc_runs.specs.World.{Parties}
use Rattle.rc_agreement.proofs.Cases.{never}
use Rattle.rc_quiet.proofs.Parts.{Fits, CoordFits, ShardFits}
use Rattle.rc_quiet.proofs.Ending.{in_message}
use Rattle.rc_quiet.proofs.Kept.{Kept}
use Rattle.rc_quiet.proofs.Arrivals.{AreSent}
use Rattle.rc_quiet.proofs.CoordBlankRows.{Blank, CoordBlank}
use Rattle.rc_quiet.proofs.ShardBlankRows.{ShardBlank}
use Rattle.rc_quiet.proofs.Unknown.{Unknown}
use Rattle.rc_quiet.proofs.Steps.{Holds}

blank_fits : (t : ℕ) (c : Layout) (sent : List Envelope) (from to : Party) (m : Msg) → Blank t m → Fits t c sent from to m
blank_fits t c sent from to (ReadAsk u k) h = λ e. absurd (h e)
blank_fits t c sent from to (Granted u k d n y) h = λ e. absurd (h e)
blank_fits t c sent from to (Propose u b o) h = λ e. absurd (h e)
blank_fits t c sent from to (Prepare u p) h = λ e. absurd (h e)
blank_fits t c sent from to (Prepared u sh r) h = λ e. absurd (h e)
blank_fits t c sent from to (Voted u b d o) h = λ e. absurd (h e)
blank_fits t c sent from to (Ask u b) h = h
blank_fits t c sent from to (Decided u o) h = λ e. absurd (h e)
blank_fits t c sent from to (Finish u o) h = λ e. absurd (h e)
blank_fits t c sent from to (CatchPage d place page) h = λ o i. absurd (h o i)
blank_fits t c sent from to _ h = tt

module _ (members : List ℕ) (t : ℕ) (w : Parties) (sent : List Envelope) (delivered : List ℕ) (none : found nat_cmp w.clients t ≡ None) (u : Unknown t w sent) (are_sent : AreSent sent delivered) where
  coord_starts : (x : CoordNode) → CoordBlank t x → CoordFits t w.layout sent x
  coord_starts x b =
      record {
        accepted = λ n o is. absurd (b.accepted (n, o) is);
        gathers = λ g i. absurd (b.gathers g i);
        listed = λ o i. absurd (b.listed o i);
        tally = λ tl i. absurd (b.votes tl i);
      }

  shard_starts : (d sh : ℕ) (x : ShardNode) → ShardBlank t x → ShardFits t w.layout sent d sh x
  shard_starts d sh x b =
      record {
        parts = λ p i. absurd (b.durable.parts p i);
        finished = λ o is. absurd (b.durable.finished o is);
        marks = λ k i. absurd (⊎_elim (b.marks.plain k) (b.marks.waiting k) i);
      }

  kept_first : Kept members t w sent
  kept_first =
      record {
        fits = λ e i. blank_fits t w.layout sent e.from e.to e.msg (u.sent_blank e i);
        coords = λ d x is. coord_starts x (u.coords d x is);
        shards = λ d sh x is. shard_starts d sh x (u.shards d sh x is);
        shape = λ x is. never x (sym none ∙ is);
        said = λ x is. never x (sym none ∙ is);
        unasked = λ _ from to k i. u.sent_blank _ i refl;
        unproposed = λ _ from to o i. u.sent_blank _ i refl;
        low = λ d x m is. (u.coords d x is).promise;
        lost = λ d sh x k m is. (u.shards d sh x is).marks.lost k;
        never_no = λ p d sh n reason m i. u.sent_blank _ i refl;
      }

  pub holds_first : Holds members t w sent delivered
  holds_first =
      record {
        kept = kept_first;
        sent_before = are_sent;
        counted = λ x p b d o is. never x (sym none ∙ is);
        grants = λ x p n version k value is. never x (sym none ∙ is);
        answered = λ x p d sh k is. never x (sym none ∙ is);
        goes = λ d x m is. inl (record { proposal = λ p b o c. u.sent_blank _ (in_message sent c.0 _ c.2) refl; prepares = λ to p i. u.sent_blank _ i refl });
        yes = λ p d sh q x m is c. absurd (u.sent_blank _ (in_message sent c.0 _ c.2) refl);
      }
