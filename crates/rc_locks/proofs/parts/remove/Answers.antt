use Rattle.std.proofs.Common.{◌≡◌, ◌<◌, ℕ, List, length, remove, ap, ◌∙◌, arith}
use Rattle.std.specs.Ordering.{nat_cmp, is_eq}
use Rattle.rc_body.specs.declared.entry.Entry.{Entry}
use Rattle.rc_locks.specs.Places.{place_where}
use Rattle.rc_locks.proofs.PlaceFacts.{without_at, without_none}
use Rattle.rc_locks.proofs.parts.remove.Goals as goal

pub returns-then-place-len : goal.returns-then-place-len
returns-then-place-len c =
    let parts : List (ℕ × List Entry) = c.args.parts.now.items in
    let first : List (ℕ × List Entry) → ℕ = place_where (λ (p : ℕ × List Entry). is_eq (nat_cmp c.args.tx p.0)) in
    let at : c.first_of-place.result ≡ first parts = c.first_of-place.ensures.place ∙ ap first c.deref.ensures.value in
    let same : length c.deref.result.now ≡ length parts = ap length c.deref.ensures.value in
    let none : first parts ≡ length parts = omega (arith, at, same, c.first_of-place.ensures.few, c.deref.ensures.len, c.len.ensures, c.if-place-len.true) in
    without_none c.args.tx parts none

pub returns : goal.returns
returns c =
    let parts : List (ℕ × List Entry) = c.args.parts.now.items in
    let first : List (ℕ × List Entry) → ℕ = place_where (λ (p : ℕ × List Entry). is_eq (nat_cmp c.args.tx p.0)) in
    let at : c.first_of-place.result ≡ first parts = c.first_of-place.ensures.place ∙ ap first c.deref.ensures.value in
    let same : length c.deref.result.now ≡ length parts = ap length c.deref.ensures.value in
    let there : first parts < length parts = omega (arith, at, same, c.deref.ensures.len, c.len.ensures, c.if-place-len.false) in
    c.remove-removed.ensures.items ∙ ap (λ (i : ℕ). remove parts i) at ∙ without_at c.args.tx parts there
