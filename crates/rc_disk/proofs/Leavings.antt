-- Each image after a call comes from one before it.
use Rattle.std.proofs.Common.{◌≡◌, ◌⊎◌, inl, inr, ℕ, zero, suc, ◌+◌, ◌-◌, ◌≤◌, ◌==◌, Bool, true, false, List, [], ◌∷◌, ◌++◌, length, take, drop, map, min, max, Option, None, Some, refl, sym, ◌∙◌, ap, subst, arith, if◌then◌else◌, length-append, length-drop, append_assoc}
use Rattle.std.proofs.Math.Seq.{take-length}
use Rattle.std.proofs.lemmas.List.{length-take, take-append-drop, drop-drop}
use Rattle.rc_disk.specs.Calls.{Images, Call, Writes, Shortens, Syncs, effect, made, all_synced, image, images_done, images_failed, filled}
use Rattle.rc_disk.specs.Crashes.{Patches, Trims, Stems, AddsNone}
use Rattle.rc_disk.specs.Past.{IsOne, fits, images_after}
use Rattle.rc_disk.specs.Steps.{Steps}

-- bytes that stay are a middle too
patched_same : (place count : ℕ) (old : List ℕ) → Patches place count old old
patched_same place count old =
    let middle = take count (drop place old) in
    let back : drop (place + count) old ≡ drop count (drop place old) = sym (drop-drop count place old) in
    record {
      middle = middle;
      parts = sym (append_assoc (take place old) middle (drop (place + count) old)
          ∙ ap (λ (l : List ℕ). take place old ++ (middle ++ l)) back
          ∙ ap (λ (l : List ℕ). take place old ++ l) (take-append-drop count (drop place old)) ∙ take-append-drop place old);
      at_most = omega (arith, length-take count (drop place old));
      at_least = omega (arith, length-take count (drop place old), length-drop place old);
    }

patched : (place count : ℕ) (bytes old : List ℕ) → length bytes ≡ count → Patches place count old (take place old ++ bytes ++ drop (place + count) old)
patched place count bytes old is = record { middle = bytes; parts = refl; at_most = omega (arith, is); at_least = omega (arith, is) }

length-filled : (byte : ℕ) (bytes : List ℕ) → length (filled byte bytes) ≡ length bytes
length-filled byte [] = refl
length-filled byte (b ∷ bytes) = omega (arith, length-filled byte bytes)

patched_filled : (byte place : ℕ) (bytes old : List ℕ) → Patches place (length bytes) old (effect (Writes place (filled byte bytes)) old)
patched_filled byte place bytes old =
    subst (λ (n : ℕ). Patches place (length bytes) old (take place old ++ filled byte bytes ++ drop (place + n) old)) (sym (length-filled byte bytes))
    (patched place (length bytes) (filled byte bytes) old (length-filled byte bytes))

trimmed_same : (len : ℕ) (old : List ℕ) → Trims len old old
trimmed_same len old = record { kept = length old; front = sym (take-length old); at_least = omega arith }

trimmed : (len : ℕ) (old : List ℕ) → Trims len old (take len old)
trimmed len old = record { kept = len; front = refl; at_least = omega arith }

-- by one image of the four, and a step to each after it
by_one : (step : List ℕ → List ℕ → Type 0) (im im' : Images) → step im.synced im'.synced → step im.plain im'.plain → step im.full im'.full → step im.ones im'.ones
    → (left : List ℕ) → IsOne im' left → (old : List ℕ) × IsOne im old × step old left
by_one step im im' synced plain full ones left (inl is) = (im.synced, inl refl, subst (step im.synced) (sym is) synced)
by_one step im im' synced plain full ones left (inr (inl is)) = (im.plain, inr (inl refl), subst (step im.plain) (sym is) plain)
by_one step im im' synced plain full ones left (inr (inr (inl is))) = (im.full, inr (inr (inl refl)), subst (step im.full) (sym is) full)
by_one step im im' synced plain full ones left (inr (inr (inr is))) = (im.ones, inr (inr (inr refl)), subst (step im.ones) (sym is) ones)

steps_made : (call : Call) (im : Images) → Steps call (IsOne im) (IsOne (made call im))
steps_made (Writes place bytes) im = record {
  source = by_one (Patches place (length bytes)) im (made (Writes place bytes) im) (patched_same place (length bytes) im.synced)
      (patched place (length bytes) bytes im.plain refl) (patched_filled 255 place bytes im.full) (patched_filled 1 place bytes im.ones);
}
steps_made (Shortens len) im = record {
  source = by_one (Trims len) im (made (Shortens len) im) (trimmed_same len im.synced) (trimmed len im.plain) (trimmed len im.full) (trimmed len im.ones);
}
steps_made Syncs im = record { source = λ left one. one }

pub steps_same : (call : Call) (im : Images) → Steps call (IsOne im) (IsOne im)
steps_same (Writes place bytes) im = record { source = λ left one. (left, one, patched_same place (length bytes) left) }
steps_same (Shortens len) im = record { source = λ left one. (left, one, trimmed_same len left) }
steps_same Syncs im = record { source = λ left one. one }

-- fewer may be left
fewer : (call : Call) (before now less : List ℕ → Type 0) → ((left : List ℕ) → less left → now left) → Steps call before now → Steps call before less
fewer (Writes place bytes) before now less sub steps = record { source = λ left is. steps.source left (sub left is) }
fewer (Shortens len) before now less sub steps = record { source = λ left is. steps.source left (sub left is) }
fewer Syncs before now less sub steps = record { source = λ left is. steps.source left (sub left is) }

all_same : (bytes left : List ℕ) → IsOne (all_synced bytes) left → left ≡ bytes
all_same bytes left (inl is) = is
all_same bytes left (inr (inl is)) = is
all_same bytes left (inr (inr (inl is))) = is
all_same bytes left (inr (inr (inr is))) = is

image_one : (pick : ℕ) (im : Images) (left : List ℕ) → IsOne (all_synced (image pick im)) left → IsOne im left
image_one pick im left one = of_image (pick == 0) (pick == 1) (pick == 3) (all_same (image pick im) left one)
  where
    of_image : (a b d : Bool) → left ≡ (if a then im.synced else (if b then im.plain else (if d then im.ones else im.full))) → IsOne im left
    of_image true b d is = inl is
    of_image false true d is = inr (inl is)
    of_image false false true is = inr (inr (inr is))
    of_image false false false is = inr (inr (inl is))

plain_one : (im : Images) (left : List ℕ) → IsOne (all_synced im.plain) left → IsOne im left
plain_one im left one = inr (inl (all_same im.plain left one))

-- after a change
pub steps_after : (fell : Option ℕ) (call : Call) (im : Images) → Steps call (IsOne im) (IsOne (images_after fell call im))
steps_after None (Writes place bytes) im = steps_made (Writes place bytes) im
steps_after None (Shortens len) im = steps_made (Shortens len) im
steps_after None Syncs im = record { source = plain_one im }
steps_after (Some pick) call im = fewer call (IsOne im) (IsOne (made call im)) (IsOne (all_synced (image pick (made call im)))) (image_one pick (made call im)) (steps_made call im)

-- nothing but the bytes may be left
pub settled_only : (bytes left : List ℕ) → IsOne (all_synced bytes) left → Some bytes ≡ Some left
settled_only bytes left one = ap Some (sym (all_same bytes left one))
