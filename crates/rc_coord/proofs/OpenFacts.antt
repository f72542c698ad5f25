-- A take-over opens.
use Rattle.std.proofs.Common.{◌≡◌, ℕ, ◌≤◌, ◌^◌, nat_le, max, Bool, true, false, cond, IsTrue, List, [], length, Option, Some, None, refl, sym, ap, subst, ◌∙◌, arith}
use Rattle.std.specs.Ordering.{nat_cmp}
use Rattle.std.specs.Option.{option_map}
use Rattle.rc_ids.specs.Tables.{Table, put, maybe}
use Rattle.rc_ids.specs.Cluster.{Layout, next_ballot, next_number}
use Rattle.rc_log.specs.Journals.{State, would_pass_limit}
use Rattle.rc_msg.specs.declared.msg.Msg.TheVariants.{Ask}
use Rattle.rc_msg.specs.Outboxes.{Outbox}
use Rattle.rc_msg.specs.Posts.{posted_all}
use Rattle.rc_record.specs.declared.record.Record.{Record}
use Rattle.rc_record.specs.declared.record.Record.TheVariants.{Promised}
use Rattle.rc_record.specs.Spelling.{record_bytes}
use Rattle.rc_protocol.specs.Messages.{to_all}
use Rattle.rc_protocol.specs.Coordinator.{TakeoverState, CoordDurable, CoordVolatile, CoordAct, promise_of, opening, opens, takes_over}
use Rattle.rc_takeover.specs.TakeOvers.{KeptTakeOver, kept}
use Rattle.rc_node.specs.declared.fault.NodeFault.{NodeFault}
use Rattle.rc_node.specs.declared.fault.NodeFault.TheVariants.{NoMemory, Failed, Full, BallotsSpent}
use Rattle.rc_node.specs.Acts.{Site, Acts, Refuses, Stays, Enters, Breaks, coord_does}
use Rattle.rc_coord.specs.Rows.{StaysAt}
use Rattle.rc_coord.proofs.PromiseFacts.{with_takeovers}

abbrev pub with_promises : CoordDurable → Table ℕ ℕ → CoordDurable
with_promises s table = record { promises = table; accepted = s.accepted; outcomes = s.outcomes }

larger : (a b : ℕ) → a ≤ b → b ≡ max a b
larger a b le = grind arith

module _ (c : Layout) (old : Site CoordDurable CoordVolatile) (t b : ℕ) (is_eager : Bool) where
  abbrev act : CoordAct
  act = opens c old.volatile t is_eager b

  pub opens-acts : (promises : Table ℕ ℕ) (takeovers : Table ℕ TakeoverState) (journal : State) (after : Outbox) → promise_of old.durable.promises t ≤ b
      → promises ≡ put nat_cmp old.durable.promises t b → takeovers ≡ put nat_cmp old.volatile.takeovers t (opening b is_eager)
      → Enters old.journal journal (record_bytes (Promised t b)) → after ≡ posted_all old.out (to_all c (Ask t b))
      → Acts old (record { durable = with_promises old.durable promises; volatile = with_takeovers old.volatile takeovers; journal = journal; out = after }) (coord_does old.durable act)
  opens-acts promises takeovers journal after above raised opened enters sends = record {
    durable =
        ap (with_promises old.durable)
        (raised ∙ ap (put nat_cmp old.durable.promises t) (larger (promise_of old.durable.promises t) b above));
    volatile = ap (with_takeovers old.volatile) opened;
    logs = enters;
    sends = sends;
    left = refl;
  }

  stays-opens : (fault : NodeFault) (may_leave : List ℕ → Type 0) (j k : State) → StaysAt fault may_leave j k (Promised t b)
      → Stays fault may_leave j k (coord_does old.durable act)
  stays-opens NoMemory may_leave j k stays = stays
  stays-opens Failed may_leave j k stays = stays
  stays-opens Full may_leave j k stays = stays
  stays-opens BallotsSpent may_leave j k stays = stays

  pub opens-refuses : (fault : NodeFault) (may_leave : List ℕ → Type 0) (new : Site CoordDurable CoordVolatile) → new.durable ≡ old.durable → new.volatile ≡ old.volatile
      → StaysAt fault may_leave old.journal new.journal (Promised t b) → new.out ≡ old.out → Refuses fault may_leave old new (coord_does old.durable act)
  opens-refuses fault may_leave new durable volatile stays out = record {
    durable = durable;
    volatile = volatile;
    journal = stays-opens fault may_leave old.journal new.journal stays;
    sends = out;
  }

-- what a fault of an append says of the journal
pub stays-from : (fault : NodeFault) (may_leave : List ℕ → Type 0) (j k : State) (bytes : List ℕ) (r : Record) → bytes ≡ record_bytes r
    → (fault ≡ Failed → Breaks may_leave j k bytes) → (fault ≡ Full → IsTrue (would_pass_limit j (length bytes))) → (fault ≡ Full → k ≡ j) → (fault ≡ NoMemory → k ≡ j)
    → (fault ≡ BallotsSpent → ⊥) → StaysAt fault may_leave j k r
stays-from NoMemory may_leave j k bytes r is failed full full_same no_memory no_ballots = no_memory refl
stays-from Failed may_leave j k bytes r is failed full full_same no_memory no_ballots = subst (λ (b : List ℕ). Breaks may_leave j k b) is (failed refl)
stays-from Full may_leave j k bytes r is failed full full_same no_memory no_ballots = record {
  same = full_same refl;
  reason = subst (λ (b : List ℕ). IsTrue (would_pass_limit j (length b))) is (full refl);
}
stays-from BallotsSpent may_leave j k bytes r is failed full full_same no_memory no_ballots = absurd (no_ballots refl)

-- THE BALLOT
-- it is above the promise
pub next-above : (c : Layout) (d p b : ℕ) → next_ballot c d p ≡ Some b → p ≤ b
next-above c d p b is = by (nat_le (next_number c d p) (2 ^ 31)) is
  where
    by : (x : Bool) → cond x (Some (next_number c d p)) None ≡ Some b → p ≤ b
    by true e = let same : next_number c d p ≡ b = cc in omega (arith, same)
    by false e = absurd cc

-- the take-over that opens, and its ballot
pub record IsOpened (c : Layout) (d p : ℕ) (is_eager : Bool) (k : KeptTakeOver) : Type 0 where
  pub next : next_ballot c d p ≡ Some k.state.ballot
  pub same : k ≡ kept c (opening k.state.ballot is_eager)

pub opened-from : (c : Layout) (d p q : ℕ) (is_eager : Bool) (k : KeptTakeOver) → q ≡ p
    → Some k ≡ option_map (λ b. kept c (opening b is_eager)) (next_ballot c d q) → IsOpened c d p is_eager k
opened-from c d p q is_eager k same is = by (next_ballot c d p) refl (is ∙ ap (λ (n : ℕ). option_map (λ b. kept c (opening b is_eager)) (next_ballot c d n)) same)
  where
    by : (o : Option ℕ) → next_ballot c d p ≡ o → Some k ≡ option_map (λ b. kept c (opening b is_eager)) o → IsOpened c d p is_eager k
    by None o_is e = absurd cc
    by (Some b) o_is e =
        let here : k ≡ kept c (opening b is_eager) = cc in
        let ballot : b ≡ k.state.ballot = sym (ap (λ (x : KeptTakeOver). x.state.ballot) here) in record {
          next = o_is ∙ ap (λ (n : ℕ). let o : Option ℕ = Some n in o) ballot;
          same = here ∙ ap (λ (n : ℕ). kept c (opening n is_eager)) ballot;
        }

pub spent-from : (c : Layout) (d p q : ℕ) (is_eager : Bool) → q ≡ p → None ≡ option_map (λ b. kept c (opening b is_eager)) (next_ballot c d q) → next_ballot c d p ≡ None
spent-from c d p q is_eager same is = by (next_ballot c d p) (is ∙ ap (λ (n : ℕ). option_map (λ b. kept c (opening b is_eager)) (next_ballot c d n)) same)
  where
    by : (o : Option ℕ) → None ≡ option_map (λ b. kept c (opening b is_eager)) o → o ≡ None
    by None e = refl
    by (Some b) e = absurd cc

-- the row at a next ballot, and at none
abbrev takes_at : Layout → CoordVolatile → ℕ → Bool → Option ℕ → CoordAct
takes_at c v t is_eager o = maybe o (record { logs = None; after = v; sends = []; spent = true }) (λ b. opens c v t is_eager b)

pub takes-next : (c : Layout) (d : ℕ) (s : CoordDurable) (v : CoordVolatile) (t b : ℕ) (is_eager : Bool) → next_ballot c d (promise_of s.promises t) ≡ Some b
    → opens c v t is_eager b ≡ takes_over c d s v t is_eager
takes-next c d s v t b is_eager is = sym (ap (takes_at c v t is_eager) is)

takes-none : (c : Layout) (d : ℕ) (s : CoordDurable) (v : CoordVolatile) (t : ℕ) (is_eager : Bool) → next_ballot c d (promise_of s.promises t) ≡ None
    → (takes_over c d s v t is_eager).spent ≡ true
takes-none c d s v t is_eager is = ap (λ (o : Option ℕ). (takes_at c v t is_eager o).spent) is

pub takes-refuses : (c : Layout) (d : ℕ) (old : Site CoordDurable CoordVolatile) (t : ℕ) (is_eager : Bool) (may_leave : List ℕ → Type 0) → next_ballot c d (promise_of old.durable.promises t) ≡ None
    → Refuses BallotsSpent may_leave old old (coord_does old.durable (takes_over c d old.durable old.volatile t is_eager))
takes-refuses c d old t is_eager may_leave is = record {
  durable = refl;
  volatile = refl;
  journal = record { same = refl; reason = takes-none c d old.durable old.volatile t is_eager is };
  sends = refl;
}
