use Rattle.std.proofs.Common.{◌≡◌, ◌||◌, ℕ, List, is_some, not, Option, true, false, if◌then◌else◌, sym, ap, ◌∙◌}
use Rattle.std.specs.Ordering.{nat_cmp}
use Rattle.rc_ids.specs.Tables.{found, member}
use Rattle.rc_protocol.specs.Shard.{mark_cmp, is_free}
use Rattle.rc_locks.specs.declared.answers.Asked.TheVariants.{Granted, Waits, Ignored}
use Rattle.rc_locks.specs.Flags.{lost_at, lost_marks}
use Rattle.rc_locks.proofs.MoveFacts.{lost_member}
use Rattle.rc_locks.proofs.FreeFacts.{free_is}
use Rattle.rc_locks.proofs.indexed.LocksLockTable.would_ask.Goals as goal

pub returns-then-ignores : goal.returns-then-ignores
returns-then-ignores c =
    let locks = c.args.self.now in
    let t = c.args.tx in
    let k : List ℕ = c.args.key.now in
    let test : (is_some (found nat_cmp locks.parts.items t) || member mark_cmp (lost_marks locks.marks.entries) (k, t)) ≡ true =
    (λ i. is_some (found nat_cmp (sym c.deref.ensures.value i) t) || (lost_member locks.marks.entries locks.rises (k, t) ∙ ap (λ (x : List ℕ). lost_at locks.marks.entries (x, t)) (sym c.new.ensures)) i)
    ∙ sym c.ignores.ensures ∙ c.if-ignores.true in
    sym (ap (λ b. if b then Ignored else (if is_free locks.parts.items (k, t) then Granted else Waits)) test)

pub returns-then-is_none : goal.returns-then-is_none
returns-then-is_none c =
    let locks = c.args.self.now in
    let t = c.args.tx in
    let k : List ℕ = c.args.key.now in
    let test : (is_some (found nat_cmp locks.parts.items t) || member mark_cmp (lost_marks locks.marks.entries) (k, t)) ≡ false =
    (λ i. is_some (found nat_cmp (sym c.deref.ensures.value i) t) || (lost_member locks.marks.entries locks.rises (k, t) ∙ ap (λ (x : List ℕ). lost_at locks.marks.entries (x, t)) (sym c.new.ensures)) i)
    ∙ sym c.ignores.ensures ∙ c.if-ignores.false in
    let free = sym (free_is locks.parts.items locks.cells.entries locks.indexed (k, t)) ∙ sym (ap (λ (o : Option ℕ). not (is_some o)) c.holder.ensures) ∙ ap not c.is_none.ensures ∙ ap (λ b. not (not b)) c.if-is_none.true in
    sym (ap (λ b. if b then Ignored else (if is_free locks.parts.items (k, t) then Granted else Waits)) test ∙ ap (λ b. if b then Granted else Waits) free)

pub returns : goal.returns
returns c =
    let locks = c.args.self.now in
    let t = c.args.tx in
    let k : List ℕ = c.args.key.now in
    let test : (is_some (found nat_cmp locks.parts.items t) || member mark_cmp (lost_marks locks.marks.entries) (k, t)) ≡ false =
    (λ i. is_some (found nat_cmp (sym c.deref.ensures.value i) t) || (lost_member locks.marks.entries locks.rises (k, t) ∙ ap (λ (x : List ℕ). lost_at locks.marks.entries (x, t)) (sym c.new.ensures)) i)
    ∙ sym c.ignores.ensures ∙ c.if-ignores.false in
    let free = sym (free_is locks.parts.items locks.cells.entries locks.indexed (k, t)) ∙ sym (ap (λ (o : Option ℕ). not (is_some o)) c.holder.ensures) ∙ ap not c.is_none.ensures ∙ ap (λ b. not (not b)) c.if-is_none.false in
    sym (ap (λ b. if b then Ignored else (if is_free locks.parts.items (k, t) then Granted else Waits)) test ∙ ap (λ b. if b then Granted else Waits) free)
