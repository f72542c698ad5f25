-- A piece of what is to be written, taken by a sink, and a piece of what a source has left.
use Rattle.std.proofs.Common.{◌≡◌, ℕ, ◌+◌, ◌-◌, ◌≤◌, List, ◌++◌, length, take, drop, Option, None, Some, sym, refl, ◌∙◌, ap, arith, append_assoc, length-drop}
use Rattle.std.proofs.Math.Seq.{take-add}
use Rattle.std.proofs.lemmas.List.{drop-drop}
use Rattle.std.specs.Prelude.{Result, Ok, Err, OnErr}
use Rattle.std.specs.Io.KnownBytes.{Consumes}
use Rattle.rc_ports.specs.Streams.{grown}

grown-grown : (a b : List ℕ) (x : Option (List ℕ)) → grown b (grown a x) ≡ grown (a ++ b) x
grown-grown a b None = refl
grown-grown a b (Some x) = ap Some (append_assoc x a b)

-- the rest of the bytes is known by its length, and what is before it was taken
pub record IsTakenTo (bytes rest : List ℕ) (start now : Option (List ℕ)) : Type 0 where
  pub small : length rest ≤ length bytes
  pub rest_is : rest ≡ drop (length bytes - length rest) bytes
  pub taken : now ≡ grown (take (length bytes - length rest) bytes) start

pub taken_on : (bytes rest next : List ℕ) (n : ℕ) (x y z : Option (List ℕ)) → IsTakenTo bytes rest x y → n ≤ length rest → next ≡ drop n rest
    → z ≡ grown (take n rest) y → IsTakenTo bytes next x z
taken_on bytes rest next n x y z before within is more =
    let shorter : length next ≡ length rest - n = ap length is ∙ length-drop n rest in
    let i = length bytes - length rest in
    let small = before.small in
    let further : length bytes - length next ≡ i + n = omega arith in
    record {
      small = omega arith;
      rest_is = is ∙ ap (drop n) before.rest_is ∙ drop-drop n i bytes ∙ ap (λ (k : ℕ). drop k bytes) (sym further);
      taken = more ∙ ap (grown (take n rest)) before.taken ∙ grown-grown (take i bytes) (take n rest) x
          ∙ ap (λ (l : List ℕ). grown l x) (ap (λ (l : List ℕ). take i bytes ++ take n l) before.rest_is ∙ sym (take-add i n bytes) ∙ ap (λ (k : ℕ). take k bytes) (sym further));
    }

-- one piece lost after another
pub lost_on : (x y z : Option (List ℕ)) (a b : List ℕ) → Consumes x y a → Consumes y z b → Consumes x z (a ++ b)
lost_on None y z a b first second = tt
lost_on (Some x) None z a b first second = absurd first
lost_on (Some x) (Some y) None a b first second = absurd second
lost_on (Some x) (Some y) (Some z) a b first second = first ∙ ap (λ (l : List ℕ). a ++ l) second ∙ sym (append_assoc a b z)

-- a failure after pieces were lost
pub part_lost : {T E : Type 0} (x z : Option (List ℕ)) (lost : List ℕ) (r : Result T E) → Consumes x z lost → OnErr r ((l : List ℕ) × Consumes x z l)
part_lost x z lost (Ok _) all = tt
part_lost x z lost (Err _) all = (lost, all)
