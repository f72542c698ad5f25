-- Messages that arrive one after another, under the rules.
use Rattle.std.proofs.Common.{◌≡◌, ℕ, zero, suc, ◌+◌, ◌-◌, ◌<◌, ◌≤◌, Bool, true, false, not, ◌||◌, cond, List, [], ◌∷◌, ◌++◌, refl, ap, sym, ◌∙◌, subst, arith, append_assoc}
use Rattle.std.specs.Prelude.{filter}
use Rattle.std.proofs.lemmas.List.{append-nil}
use Rattle.std.specs.Ordering.{nat_cmp, is_eq}
use Rattle.rc_ids.specs.Marks.{apart, tied}
use Rattle.rc_ids.specs.Sets.{IsRisingWithin}
use Rattle.rc_ids.specs.Tables.{member, removed}
use Rattle.rc_net.specs.Network.{Message, numbers_after}
use Rattle.rc_wire.specs.declared.rules.Rules.{Rules}
use Rattle.rc_wire.specs.Traffic.{Traffic, is_lost, is_repeated, arrived, arriving, repeated}
use Rattle.rc_wire.proofs.Walks.{rises_low}

pub is_member : (n : ℕ) (front back : List ℕ) → member nat_cmp (front ++ n ∷ back) n ≡ true
is_member n [] back = ap (λ b. b || member nat_cmp back n) (tied n)
is_member n (a ∷ front) back = by (is_eq (nat_cmp n a)) (member nat_cmp (front ++ n ∷ back) n) (is_member n front back)
  where
    by : (b c : Bool) → c ≡ true → b || c ≡ true
    by true c e = refl
    by false c e = e

-- of numbers that rise, the one is taken out
pub taken_out : (low high n : ℕ) (front back : List ℕ) → IsRisingWithin low high (front ++ n ∷ back) → removed nat_cmp (front ++ n ∷ back) n ≡ front ++ back
taken_out low high n [] back r = ap (λ b. cond b back (n ∷ removed nat_cmp back n)) (tied n)
taken_out low high n (a ∷ front) back r =
    let m = rises_low (suc a) high n front back r.2 in
    ap (λ b. cond b (front ++ n ∷ back) (a ∷ removed nat_cmp (front ++ n ∷ back) n)) (apart n a (λ e. absurd (omega (arith, m.0)))) ∙ ap (λ xs. a ∷ xs) (taken_out (suc a) high n front back r.2)

filter_last : (f : ℕ → Bool) (xs : List ℕ) (n : ℕ) → filter f (xs ++ n ∷ []) ≡ filter f xs ++ cond (f n) (n ∷ []) []
filter_last f [] n = refl
filter_last f (x ∷ xs) n = by (f x) (filter_last f xs n)
  where
    by : (b : Bool) → filter f (xs ++ n ∷ []) ≡ filter f xs ++ cond (f n) (n ∷ []) [] → cond b (x ∷ filter f (xs ++ n ∷ [])) (filter f (xs ++ n ∷ [])) ≡ cond b (x ∷ filter f xs) (filter f xs) ++ cond (f n) (n ∷ []) []
    by true e = ap (λ ys. x ∷ ys) e
    by false e = e

numbers_last : (first k : ℕ) → numbers_after first (suc k) ≡ numbers_after first k ++ (suc (first + k)) ∷ []
numbers_last first zero = let e : suc first ≡ suc (first + 0) = omega arith in ap (λ n. n ∷ []) e
numbers_last first (suc k) =
    let e : suc (suc first + k) ≡ suc (first + suc k) = omega arith in
    ap (λ ns. suc first ∷ ns) (numbers_last (suc first) k ∙ ap (λ n. numbers_after (suc first) k ++ n ∷ []) e)

numbers_first : (n k : ℕ) → 0 < k → numbers_after n k ≡ suc n ∷ numbers_after (suc n) (k - 1)
numbers_first n zero lt = absurd (omega arith)
numbers_first n (suc k) lt = let e : suc k - 1 ≡ k = omega arith in ap (λ m. suc n ∷ numbers_after (suc n) m) (sym e)

-- the traffic of a post, once its messages up to a number have arrived
abbrev pub half : Rules → Traffic → List Message → ℕ → ℕ → ℕ → Traffic
half rules t sent first number last = record {
  sent = sent;
  pending = (t.pending ++ arriving rules (numbers_after first (number - first))) ++ numbers_after number (last - number);
  again = t.again ++ repeated rules (numbers_after first (number - first));
}

module _ (rules : Rules) (t : Traffic) (sent : List Message) (first number last n : ℕ) (next : n ≡ suc number) (low : first ≤ number) (high : number < last) where
  abbrev before : List ℕ
  before = numbers_after first (number - first)

  abbrev after : List ℕ
  after = numbers_after n (last - n)

  one_more : numbers_after first (n - first) ≡ before ++ n ∷ []
  one_more =
      let k : n - first ≡ suc (number - first) = omega arith in
      let m : suc (first + (number - first)) ≡ n = omega arith in
      ap (numbers_after first) k ∙ numbers_last first (number - first) ∙ ap (λ x. before ++ x ∷ []) m

  pub one_less : numbers_after number (last - number) ≡ n ∷ after
  one_less =
      let k : (last - number) - 1 ≡ last - n = omega arith in
      numbers_first number (last - number) (omega arith) ∙ (λ j. sym next j ∷ numbers_after (sym next j) (k j))

  abbrev front : List ℕ
  front = t.pending ++ arriving rules before

  arriving_more : (b : Bool) → is_lost rules n ≡ b → arriving rules (numbers_after first (n - first)) ≡ arriving rules before ++ cond (not b) (n ∷ []) []
  arriving_more b is = ap (arriving rules) one_more ∙ filter_last (λ x. not (is_lost rules x)) before n ∙ ap (λ c. arriving rules before ++ cond (not c) (n ∷ []) []) is

  pending_more : (b : Bool) → is_lost rules n ≡ b → (b ≡ true → (top : ℕ) × IsRisingWithin 1 top (front ++ numbers_after number (last - number)))
      → cond b (removed nat_cmp (front ++ numbers_after number (last - number)) n) (front ++ numbers_after number (last - number)) ≡ (t.pending ++ arriving rules (numbers_after first (n - first))) ++ after
  pending_more true is rising =
      let r = rising refl in
      ap (λ xs. removed nat_cmp (front ++ xs) n) one_less
      ∙ taken_out 1 r.0 n front after (subst (λ xs. IsRisingWithin 1 r.0 (front ++ xs)) one_less r.1)
      ∙ ap (λ xs. (t.pending ++ xs) ++ after) (sym (arriving_more true is ∙ append-nil (arriving rules before)))
  pending_more false is rising =
      ap (λ xs. front ++ xs) one_less
      ∙ sym (append_assoc front (n ∷ []) after)
      ∙ ap (λ xs. xs ++ after) (append_assoc t.pending (arriving rules before) (n ∷ []))
      ∙ ap (λ xs. (t.pending ++ xs) ++ after) (sym (arriving_more false is))

  again_more : (b : Bool) → is_repeated rules n ≡ b → cond b ((t.again ++ repeated rules before) ++ n ∷ []) (t.again ++ repeated rules before) ≡ t.again ++ repeated rules (numbers_after first (n - first))
  again_more b is = by b ∙ ap (λ xs. t.again ++ xs) (sym (ap (repeated rules) one_more ∙ filter_last (is_repeated rules) before n ∙ ap (λ c. repeated rules before ++ cond c (n ∷ []) []) is))
    where
      by : (b : Bool) → cond b ((t.again ++ repeated rules before) ++ n ∷ []) (t.again ++ repeated rules before) ≡ t.again ++ (repeated rules before ++ cond b (n ∷ []) [])
      by true = append_assoc t.again (repeated rules before) (n ∷ [])
      by false = ap (λ xs. t.again ++ xs) (sym (append-nil (repeated rules before)))

  -- one message more has arrived
  pub half_more : (is_lost rules n ≡ true → (top : ℕ) × IsRisingWithin 1 top (half rules t sent first number last).pending) → arrived rules (half rules t sent first number last) n ≡ half rules t sent first n last
  half_more rising =
      let p = pending_more (is_lost rules n) refl rising in
      let a = again_more (is_repeated rules n) refl in
      λ j. record { sent = sent; pending = p j; again = a j }

  -- the next message is pending
  pub half_has : member nat_cmp (half rules t sent first number last).pending n ≡ true
  half_has = ap (λ xs. member nat_cmp (front ++ xs) n) one_less ∙ is_member n front after

-- before the first message has arrived, and after the last
pub half_first : (rules : Rules) (t : Traffic) (sent : List Message) (first last count : ℕ) → last ≡ first + count
    → record { sent = sent; pending = t.pending ++ numbers_after first count; again = t.again } ≡ half rules t sent first first last
half_first rules t sent first last count is =
    let none : first - first ≡ 0 = omega arith in
    let all : last - first ≡ count = omega arith in
    let p : t.pending ++ numbers_after first count ≡ (t.pending ++ arriving rules (numbers_after first (first - first))) ++ numbers_after first (last - first)
    = (λ j. sym (append-nil t.pending) j ++ numbers_after first (sym all j)) ∙ ap (λ k. (t.pending ++ arriving rules (numbers_after first k)) ++ numbers_after first (last - first)) (sym none) in
    let a : t.again ≡ t.again ++ repeated rules (numbers_after first (first - first)) = sym (append-nil t.again) ∙ ap (λ k. t.again ++ repeated rules (numbers_after first k)) (sym none) in
    λ j. record { sent = sent; pending = p j; again = a j }

pub half_last : (rules : Rules) (t : Traffic) (sent : List Message) (first last count : ℕ) → last ≡ first + count
    → half rules t sent first last last ≡ record { sent = sent; pending = t.pending ++ arriving rules (numbers_after first count); again = t.again ++ repeated rules (numbers_after first count) }
half_last rules t sent first last count is =
    let none : last - last ≡ 0 = omega arith in
    let all : last - first ≡ count = omega arith in
    let p : (t.pending ++ arriving rules (numbers_after first (last - first))) ++ numbers_after last (last - last) ≡ t.pending ++ arriving rules (numbers_after first count)
    = (λ j. (t.pending ++ arriving rules (numbers_after first (all j))) ++ numbers_after last (none j)) ∙ append-nil (t.pending ++ arriving rules (numbers_after first count)) in
    λ j. record { sent = sent; pending = p j; again = t.again ++ repeated rules (numbers_after first (all j)) }
