-- What is posted, and taken back.
use Rattle.std.proofs.Common.{◌≡◌, ℕ, zero, suc, ◌≤◌, ◌+◌, List, [], ◌∷◌, ◌++◌, length, take, drop, map, slice_get, Some, refl, sym, ap, ◌∙◌, arith, length-append, add-one}
use Rattle.std.proofs.lemmas.List.{take-append-le}
use Rattle.rc_ids.specs.declared.names.Party.{Party}
use Rattle.rc_ids.specs.declared.sends.Letter.{Letter}
use Rattle.rc_msg.specs.declared.msg.Msg.{Msg}
use Rattle.rc_msg.specs.Outboxes.{Outbox, posted, letter}
use Rattle.rc_msg.specs.Posts.{posted_all, Grows}

take-whole : {X : Type 0} (xs : List X) → take (length xs) xs ≡ xs
take-whole [] = refl
take-whole (x ∷ xs) = ap (λ ys. x ∷ ys) (take-whole xs)

abbrev with_letters : Outbox → List Letter → Outbox
with_letters o ls = record { from = o.from; letters = ls }

-- nothing posted
pub Grows-refl : (o : Outbox) → Grows o o
Grows-refl o = record { longer = omega arith; back = ap (with_letters o) (take-whole o.letters) }

-- one message more
pub Grows-posted : (old new : Outbox) (to : Party) (m : Msg) → Grows old new → Grows old (posted new to m)
Grows-posted old new to m grows =
    let longer : length old.letters ≤ length new.letters = grows.longer in record {
      longer = omega (arith, length-append new.letters (letter new.from to m ∷ []));
      back = ap (with_letters new) (rw take-append-le refl) ∙ grows.back;
    }

-- several messages more
pub Grows-posted_all : (old new : Outbox) (ms : List (Party × Msg)) → Grows old new → Grows old (posted_all new ms)
Grows-posted_all old new [] grows = grows
Grows-posted_all old new (m ∷ ms) grows = Grows-posted_all old (posted new m.0 m.1) ms (Grows-posted old new m.0 m.1 grows)

-- some, and then more
pub posted_all-append : (o : Outbox) (ms ns : List (Party × Msg)) → posted_all o (ms ++ ns) ≡ posted_all (posted_all o ms) ns
posted_all-append o [] ns = refl
posted_all-append o (m ∷ ms) ns = posted_all-append (posted o m.0 m.1) ms ns

drop_suc : {X : Type 0} (xs : List X) (i : ℕ) (x : X) → slice_get xs i ≡ Some x → drop i xs ≡ x ∷ drop (suc i) xs
drop_suc [] i x at = cc
drop_suc (y ∷ ys) zero x at = cc
drop_suc (y ∷ ys) (suc i) x at = drop_suc ys i x at

-- a loop that posts a message for each item: one of the items less
pub posted-next : {X : Type 0} (f : X → Party × Msg) (o p end : Outbox) (xs : List X) (i : ℕ) (x : X) → slice_get xs i ≡ Some x
    → p ≡ posted o (f x).0 (f x).1 → posted_all o (map f (drop i xs)) ≡ end → posted_all p (map f (drop (i + 1) xs)) ≡ end
posted-next {X} f o p end xs i x at is before =
    let step : drop i xs ≡ x ∷ drop (i + 1) xs = rw add-one (drop_suc xs i x at) in
    ap (λ (q : Outbox). posted_all q (map f (drop (i + 1) xs))) is ∙ sym (ap (λ (ys : List X). posted_all o (map f ys)) step) ∙ before

take-within : {X : Type 0} (n m : ℕ) (xs : List X) → n ≤ m → take n (take m xs) ≡ take n xs
take-within zero m xs le = refl
take-within (suc n) zero xs le = absurd (omega arith)
take-within (suc n) (suc m) [] le = refl
take-within (suc n) (suc m) (x ∷ xs) le = ap (λ ys. x ∷ ys) (take-within n m xs (omega arith))

-- posts, and then more
pub Grows-trans : (a b c : Outbox) → Grows a b → Grows b c → Grows a c
Grows-trans a b c first second =
    let le : length a.letters ≤ length b.letters = first.longer in
    let more : length b.letters ≤ length c.letters = second.longer in
    let letters : take (length b.letters) c.letters ≡ b.letters = ap (λ (o : Outbox). o.letters) second.back in
    let from : c.from ≡ b.from = ap (λ (o : Outbox). o.from) second.back in record {
      longer = omega arith;
      back =
          ap (with_letters c) (sym (take-within (length a.letters) (length b.letters) c.letters le) ∙ ap (take (length a.letters)) letters)
          ∙ ap (λ (p : Party). let z : Outbox = record { from = p; letters = take (length a.letters) b.letters } in z) from ∙ first.back;
    }
