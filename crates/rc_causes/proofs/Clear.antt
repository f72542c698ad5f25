-- While nobody takes a transaction over or gives it up, no vote to abort it is cast.
use Rattle.std.proofs.Common.{◌≡◌, ℕ, List, [], ◌∷◌, ◌++◌, refl, sym, ap, ◌∙◌, subst, Option, Some, None, ⊎_elim}
use Rattle.rc_ids.specs.Tables.{In}
use Rattle.rc_ids.specs.declared.names.Party.{Party}
use Rattle.rc_body.specs.declared.decision.Decision.TheVariants.{Abort}
use Rattle.rc_msg.specs.declared.msg.Envelope.{Envelope}
use Rattle.rc_msg.specs.declared.msg.Msg.{Msg}
use Rattle.rc_msg.specs.declared.msg.Msg.TheVariants.{Propose, Abandon}
use Rattle.rc_record.specs.declared.record.Record.{Record}
use Rattle.rc_record.specs.declared.record.Record.TheVariants.{Accepted}
use Rattle.rc_runs.specs.declared.event.Event.{Event}
use Rattle.rc_protocol.specs.Messages.{Posts, coordinator}
use Rattle.rc_protocol.specs.Coordinator.{TakeoverState, do_catch, new_volatile as new_coord_volatile}
use Rattle.rc_protocol.specs.Nodes.{CoordNode, logged, coord_after, coord_started, coord_stopped}
use Rattle.rc_protocol.specs.Acts.{NodeCause, Came, Catches, Takes, coord_act}
use Rattle.rc_runs.specs.World.{Parties, coord_at, envelopes, with_coord}
use Rattle.rc_agreement.proofs.Cases.{nat_dec, some_is}
use Rattle.rc_agreement.proofs.Tables.{in_either}
use Rattle.rc_agreement.proofs.Places.{coord_set, coord_set_other}
use Rattle.rc_agreement.proofs.Sends.{in_sent}
use Rattle.rc_causes.proofs.Says.{Dull}
use Rattle.rc_causes.proofs.Moves.{Delivers, CoordWhy}
use Rattle.rc_causes.proofs.CoordSays.{CoordRow, CoordSay, OpensFor, Aborts, coord_row_of, catch_dull}
use Rattle.rc_causes.proofs.Refusing.{delivered_sent}

-- the message proposes to abort t, or gives t up
abbrev pub Pushes : ℕ → Msg → Type 0
Pushes t (Propose u b Abort) = u ≡ t
Pushes t (Abandon u) = u ≡ t
Pushes t _ = ⊥

-- the coordinator has no take-over of t, and has not voted to abort it
pub record NodeClear (t : ℕ) (x : CoordNode) : Type 0 where
  pub takes : (n : TakeoverState) → In (t, n) x.volatile.takeovers → ⊥
  pub votes : (b : ℕ) → In (Accepted t b Abort) x.log → ⊥

pub record Clear (t : ℕ) (w : Parties) (sent : List Envelope) : Type 0 where
  pub nodes : (d : ℕ) (x : CoordNode) → coord_at w d ≡ Some x → NodeClear t x
  pub asked : (e : Envelope) → In e sent → Pushes t e.msg → ⊥

-- one node is set
pub set_clear : (t : ℕ) (w : Parties) (d : ℕ) (x y : CoordNode) (r : Option Record) → coord_at w d ≡ Some x → ((e : ℕ) (z : CoordNode) → coord_at w e ≡ Some z → NodeClear t z) → NodeClear t y
    → (e : ℕ) (z : CoordNode) → coord_at (with_coord w d y r) e ≡ Some z → NodeClear t z
set_clear t w d x y r there all new e z is =
    ⊎_elim
    (λ (same : e ≡ d).
    let at : coord_at (with_coord w d y r) d ≡ Some z = subst (λ (n : ℕ). coord_at (with_coord w d y r) n ≡ Some z) same is in
    subst (NodeClear t) (some_is y z (sym (coord_set w d x y r there) ∙ at)) new)
    (λ (n : e ≡ d → ⊥). all e z (sym (coord_set_other w d e x y r there n) ∙ is))
    (nat_dec e d)

-- more messages, none of which pushes t
pub more_asked : (t : ℕ) (sent : List Envelope) (from : Party) (ms : Posts) → ((e : Envelope) → In e sent → Pushes t e.msg → ⊥) → ((to : Party) (m : Msg) → In (to, m) ms → Pushes t m → ⊥)
    → (e : Envelope) → In e (sent ++ envelopes from ms) → Pushes t e.msg → ⊥
more_asked t sent from ms old new e i = ⊎_elim (λ k. old e k) (λ k. new e.to e.msg k.0) (in_sent sent from ms e i)

pub dull_pushes : (t : ℕ) (to : Party) (m : Msg) → Dull to m → Pushes t m → ⊥
dull_pushes t to (Propose u b Abort) h p = h
dull_pushes t to (Abandon u) h p = h
dull_pushes t to _ h p = p

-- the log after a record, or none, that is no vote to abort t
logged_clear : (t : ℕ) (log : List Record) (r : Option Record) → ((b : ℕ) → In (Accepted t b Abort) log → ⊥) → ((b : ℕ) → r ≡ Some (Accepted t b Abort) → ⊥) → (b : ℕ) → In (Accepted t b Abort) (logged log r) → ⊥
logged_clear t log None old new b i = old b i
logged_clear t log (Some r) old new b i =
    ⊎_elim (λ k. old b k) (λ (k : In (Accepted t b Abort) (r ∷ [])). ⊎_elim (λ (e : r ≡ Accepted t b Abort). new b (ap Some e)) (λ n. n) k) (in_either (Accepted t b Abort) log (r ∷ []) i)

module _ (t : ℕ) (w : Parties) (sent : List Envelope) (e : Event) (clear : Clear t w sent) (d : ℕ) (x : CoordNode) (k : NodeCause) (there : coord_at w d ≡ Some x) (why : CoordWhy sent e d k) where
  row : CoordRow d x.durable x.volatile k (coord_act w.layout d x.durable x.volatile k)
  row = coord_row_of w.layout d x.durable x.volatile k

  -- its record is no vote to abort t, which nobody proposed
  pub no_vote : (b : ℕ) → (coord_act w.layout d x.durable x.volatile k).logs ≡ Some (Accepted t b Abort) → ⊥
  no_vote b is =
      let h : (from : Party) × (k ≡ Came from (Propose t b Abort)) = subst (Aborts k) is row.votes in
      let came : Delivers sent e (coordinator d) (Propose t b Abort) = subst (CoordWhy sent e d) h.1 why in
      let s = delivered_sent sent e (coordinator d) (Propose t b Abort) came in
      clear.asked _ s.1 refl

  -- a take-over of t opens by command alone: nobody gave t up
  pub opens_by : OpensFor k t → k ≡ Takes t
  opens_by h = go k why h
    where
      go : (k : NodeCause) → CoordWhy sent e d k → OpensFor k t → k ≡ Takes t
      go (Takes u) why h = ap Takes h
      go (Came from (Abandon u)) why h = let s = delivered_sent sent e (coordinator d) (Abandon u) why in absurd (clear.asked _ s.1 h)
      go Catches why h = absurd h
      go (Came from _) why h = absurd h

  no_push : (to : Party) (m : Msg) → CoordSay d x.durable x.volatile k to m → Pushes t m → ⊥
  no_push to (Propose u b Abort) h p = (clear.nodes d x there).takes h.0 (subst (λ (n : ℕ). In (n, h.0) x.volatile.takeovers) p h.1)
  no_push to (Abandon u) h p = h
  no_push to _ h p = p

  -- where it opens none of t, all stays clear
  pub turn_clear : (from : Party) → (OpensFor k t → ⊥) → Clear t (with_coord w d (coord_after x (coord_act w.layout d x.durable x.volatile k)) (coord_act w.layout d x.durable x.volatile k).logs)
      (sent ++ envelopes from (coord_act w.layout d x.durable x.volatile k).sends)
  turn_clear from not_opened =
      record {
        nodes = set_clear t w d x _ (coord_act w.layout d x.durable x.volatile k).logs there clear.nodes (record {
          takes = λ n i. ⊎_elim (λ old. (clear.nodes d x there).takes old.0 old.1) not_opened (row.takes t n i);
          votes = logged_clear t x.log (coord_act w.layout d x.durable x.volatile k).logs (clear.nodes d x there).votes no_vote;
        });
        asked = more_asked t sent from _ clear.asked (λ to m i. no_push to m (row.sends.each to m i));
      }

-- a node that stops has forgotten its take-overs, and so has one that starts again
pub halt_clear : (t : ℕ) (w : Parties) (sent : List Envelope) → Clear t w sent → (d : ℕ) (x : CoordNode) → coord_at w d ≡ Some x → (kept : Option Record) → ((b : ℕ) → kept ≡ Some (Accepted t b Abort) → ⊥)
    → Clear t (with_coord w d (coord_stopped x kept) kept) sent
halt_clear t w sent clear d x there kept none = record {
  nodes = set_clear t w d x _ kept there clear.nodes (record { takes = λ n i. absurd i; votes = logged_clear t x.log kept (clear.nodes d x there).votes none });
  asked = clear.asked;
}

pub wake_clear : (t : ℕ) (w : Parties) (sent : List Envelope) → Clear t w sent → (d : ℕ) (x : CoordNode) → coord_at w d ≡ Some x → (from : Party)
    → Clear t (with_coord w d (coord_after (coord_started x.log) (do_catch w.layout d new_coord_volatile)) None) (sent ++ envelopes from (do_catch w.layout d new_coord_volatile).sends)
wake_clear t w sent clear d x there from = record {
  nodes = set_clear t w d x _ None there clear.nodes (record { takes = λ n i. absurd i; votes = (clear.nodes d x there).votes });
  asked = more_asked t sent from _ clear.asked (λ to m i. dull_pushes t to m ((catch_dull w.layout d new_coord_volatile).each to m i));
}
