-- The pending messages, one after another.
use Rattle.std.proofs.Common.{◌≡◌, ℕ, suc, ◌-◌, ◌<◌, ◌≤◌, Bool, true, false, nat_lt, List, [], ◌∷◌, ◌++◌, Option, None, Some, refl, sym, ap, subst, ◌∙◌, arith, append_assoc}
use Rattle.std.specs.Prelude.{slice_get, find, cond}
use Rattle.std.specs.List.{flat_map}
use Rattle.std.proofs.lemmas.List.{append-nil, flat_map_more}
use Rattle.rc_ids.specs.Sets.{IsRisingWithin}
use Rattle.rc_ids.specs.Tables.{maybe}
use Rattle.rc_net.specs.Network.{Network}
use Rattle.rc_report.specs.declared.line.Line.{Line}
use Rattle.rc_runs.specs.World.{World}
use Rattle.rc_runs.specs.Script.{pending_lines}
use Rattle.rc_world.specs.Mail.{IsMail}
use Rattle.rc_world.specs.Shown.{pending_line}

-- these lines are of the pending messages before the next one
pub record Shows (n : Network) (before lines : List Line) (next : Option ℕ) : Type 0 where
  pub done : List ℕ
  pub left : List ℕ
  pub split : n.pending ≡ done ++ left
  pub next_is : next ≡ slice_get left 0
  pub lines_are : (w : World) → IsMail n w → lines ≡ before ++ flat_map (pending_line w.sent) done

pub shows_none : (n : Network) (lines : List Line) (next : Option ℕ) → next ≡ slice_get n.pending 0 → Shows n lines lines next
shows_none n lines next is = record { done = []; left = n.pending; split = refl; next_is = is; lines_are = λ w mail. sym (append-nil lines) }

-- in a list that rises those before are below
above_low : (low high n : ℕ) (xs rest : List ℕ) → IsRisingWithin low high (xs ++ n ∷ rest) → low ≤ n
above_low low high n [] rest rises = rises.0
above_low low high n (x ∷ xs) rest rises = let k = above_low (suc x) high n xs rest rises.2 in omega (arith, k, rises.0)

below_high : (low high n : ℕ) (xs rest : List ℕ) → IsRisingWithin low high (xs ++ n ∷ rest) → n ≤ high
below_high low high n [] rest rises = rises.1
below_high low high n (x ∷ xs) rest rises = below_high (suc x) high n xs rest rises.2

not_below : (n k : ℕ) → k ≤ n → nat_lt n k ≡ false
not_below n k le = grind arith

is_below : (n k : ℕ) → suc n ≤ k → nat_lt n k ≡ true
is_below n k le = grind arith

find_skips : (n x : ℕ) (xs : List ℕ) → nat_lt n x ≡ false → find (nat_lt n) (x ∷ xs) ≡ find (nat_lt n) xs
find_skips n x xs e = ap (λ b. cond b (Some x) (find (nat_lt n) xs)) e

find_takes : (n x : ℕ) (xs : List ℕ) → nat_lt n x ≡ true → find (nat_lt n) (x ∷ xs) ≡ Some x
find_takes n x xs e = ap (λ b. cond b (Some x) (find (nat_lt n) xs)) e

find_first : (low high n : ℕ) (rest : List ℕ) → suc n ≤ low → IsRisingWithin low high rest → find (nat_lt n) rest ≡ slice_get rest 0
find_first low high n [] le rises = refl
find_first low high n (x ∷ xs) le rises = find_takes n x xs (is_below n x (omega (arith, le, rises.0)))

find_after : (low high n : ℕ) (done rest : List ℕ) → IsRisingWithin low high (done ++ n ∷ rest) → find (nat_lt n) (done ++ n ∷ rest) ≡ slice_get rest 0
find_after low high n [] rest rises = find_skips n n rest (not_below n n (omega arith)) ∙ find_first (suc n) high n rest (omega arith) rises.2
find_after low high n (x ∷ xs) rest rises =
    let k : suc x ≤ n = above_low (suc x) high n xs rest rises.2 in
    find_skips n x (xs ++ n ∷ rest) (not_below n x (omega (arith, k))) ∙ find_after (suc x) high n xs rest rises.2

-- what is left begins with the next one
begins_with : (left : List ℕ) (n : ℕ) → Some n ≡ slice_get left 0 → (rest : List ℕ) × (left ≡ n ∷ rest)
begins_with [] n is = absurd (cc)
begins_with (x ∷ xs) n is = let e : n ≡ x = (cc) in (xs, ap (λ (y : ℕ). y ∷ xs) (sym e))

none_left : (left : List ℕ) → None ≡ slice_get left 0 → left ≡ []
none_left [] is = refl
none_left (x ∷ xs) is = absurd (cc)

module _ (net : Network) (before lines : List Line) (high : ℕ) (rises : IsRisingWithin 1 high net.pending) where
  pub shows_next : (n : ℕ) (now : List Line) → Shows net before lines (Some n) → ((w : World) → IsMail net w → now ≡ lines ++ pending_line w.sent n)
      → (next : Option ℕ) → next ≡ find (nat_lt n) net.pending → Shows net before now next
  shows_next n now s more next is =
      let b = begins_with s.left n s.next_is in
      let split : net.pending ≡ s.done ++ n ∷ b.0 = s.split ∙ ap (λ (ks : List ℕ). s.done ++ ks) b.1 in
      record {
        done = s.done ++ n ∷ [];
        left = b.0;
        split = split ∙ sym (append_assoc s.done (n ∷ []) b.0);
        next_is = is ∙ ap (find (nat_lt n)) split ∙ find_after 1 high n s.done b.0 (subst (IsRisingWithin 1 high) split rises);
        lines_are = λ w mail. more w mail ∙ ap (λ (ls : List Line). ls ++ pending_line w.sent n) (s.lines_are w mail) ∙ flat_map_more (pending_line w.sent) before s.done n;
      }

  pub shows_all : Shows net before lines None → (w : World) → IsMail net w → lines ≡ before ++ pending_lines w
  shows_all s w mail =
      let all : s.done ≡ net.pending = sym (append-nil s.done) ∙ ap (λ (ks : List ℕ). s.done ++ ks) (sym (none_left s.left s.next_is)) ∙ sym s.split in
      s.lines_are w mail ∙ ap (λ (ks : List ℕ). before ++ flat_map (pending_line w.sent) ks) (all ∙ mail.pending)

  -- what is next is a message
  pub next_within : (n : ℕ) → Shows net before lines (Some n) → n ≤ high
  next_within n s =
      let b = begins_with s.left n s.next_is in
      below_high 1 high n s.done b.0 (subst (IsRisingWithin 1 high) (s.split ∙ ap (λ (ks : List ℕ). s.done ++ ks) b.1) rises)

-- how many messages are left at most
abbrev pub left_at_most : ℕ → Option ℕ → ℕ
left_at_most sent next = maybe next 0 (λ n. suc sent - n)

above_found : (n k x : ℕ) → nat_lt n x ≡ true → x ≡ k → n < k
above_found n k x e same = let lt : n < x = grind arith in omega (arith, lt, same)

found_by : (n k x : ℕ) (xs : List ℕ) (b : Bool) → nat_lt n x ≡ b → find (nat_lt n) (x ∷ xs) ≡ Some k → (find (nat_lt n) xs ≡ Some k → n < k) → n < k
found_by n k x xs true e is later = let s : Some x ≡ Some k = sym (find_takes n x xs e) ∙ is in above_found n k x e (cc)
found_by n k x xs false e is later = later (sym (find_skips n x xs e) ∙ is)

found_above : (n k : ℕ) (ks : List ℕ) → find (nat_lt n) ks ≡ Some k → n < k
found_above n k [] is = absurd (cc)
found_above n k (x ∷ xs) is = found_by n k x xs (nat_lt n x) refl is (found_above n k xs)

pub fewer_left : (sent n : ℕ) (ks : List ℕ) (next : Option ℕ) → n ≤ sent → next ≡ find (nat_lt n) ks → left_at_most sent next < left_at_most sent (Some n)
fewer_left sent n ks None le is = omega arith
fewer_left sent n ks (Some k) le is = let above = found_above n k ks (sym is) in omega (arith, above, le)
