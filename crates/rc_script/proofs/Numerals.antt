-- A number that is read is spelled so, and what spells a number is read.
use Rattle.std.proofs.Common.{◌≡◌, ◌≢◌, ℕ, ◌+◌, ◌*◌, ◌-◌, ◌/◌, ◌%◌, ◌^◌, ◌<◌, ◌≤◌, eqb, leb, Bool, true, false, ◌&&◌, cond, List, [], ◌∷◌, ◌++◌, Option, Some, None, refl, sym, ap, ◌∙◌, arith, inl, inr, append_assoc, append-nil}
use Rattle.std.specs.Char.{is_ascii_digit}
use Rattle.std.specs.Fmt.{decimal}
use Rattle.std.proofs.lemmas.Bool.{cases_Bool, leb-true, le-leb, eqb-true, eq-eqb}
use Rattle.std.proofs.lemmas.Bool.Decides.{nat_tests}
use Rattle.std.proofs.lemmas.Option.{none-some, same_Some}
use Rattle.std.proofs.lemmas.Fmt.{decimal_digit, decimal_step, decimal_by_steps}
use Rattle.rc_script.specs.Words.{◌>>=◌, only_if, with_digit, with_digits, number_up_to, number_in, named}
use Rattle.rc_script.specs.Spelling.{IsIn}
use Rattle.rc_script.proofs.Steps.{bind_some, only_if_some, and_second, number_in_fits}

and_first : (a b : Bool) → (a && b) ≡ true → a ≡ true
and_first true b e = refl
and_first false b e = absurd cc

-- a digit that was taken
digit_taken : (limit n byte m : ℕ) → with_digit limit n byte ≡ Some m → (48 ≤ byte) × (byte ≤ 57) × (m ≡ 10 * n + (byte - 48)) × (m ≤ limit)
digit_taken limit n byte m e =
    let b = only_if_some (is_ascii_digit byte && leb (10 * n + (byte - 48)) limit) (10 * n + (byte - 48)) m e in
    let digit : is_ascii_digit byte ≡ true = and_first _ _ b.0 in
    let low : leb 48 byte ≡ true = and_first (leb 48 byte) (leb byte 57) digit in
    let high : leb byte 57 ≡ true = and_second (leb 48 byte) (leb byte 57) digit in
    let within = leb-true _ _ (and_second (is_ascii_digit byte) (leb (10 * n + (byte - 48)) limit) b.0) in
    (leb-true _ _ low, leb-true _ _ high, sym b.1, rw (← b.1) within)

digit_again : (limit n digit : ℕ) → digit < 10 → 10 * n + digit ≤ limit → with_digit limit n (48 + digit) ≡ Some (10 * n + digit)
digit_again limit n digit small within =
    let value : (48 + digit) - 48 ≡ digit = omega arith in
    let low : leb 48 (48 + digit) ≡ true = le-leb _ _ (omega arith) in
    let high : leb (48 + digit) 57 ≡ true = le-leb _ _ (omega arith) in
    let fits : leb (10 * n + digit) limit ≡ true = le-leb _ _ within in
    rw (value, low, high, fits) refl

-- further digits behind a number that is not 0
digits_taken : (limit m : ℕ) (digits : List ℕ) (n : ℕ) → limit < 2 ^ 64 → 0 < m → with_digits limit m digits ≡ Some n → decimal n ≡ decimal m ++ digits
digits_taken limit m [] n small some e = ap decimal (sym (same_Some _ _ e)) ∙ sym (append-nil (decimal m))
digits_taken limit m (byte ∷ bytes) n small some e =
    let a = bind_some (with_digit limit m byte) (λ k. with_digits limit k bytes) n e in
    let d = digit_taken limit m byte a.0 a.1 in
    let high : a.0 / 10 ≡ m = omega arith in
    let low : 48 + a.0 % 10 ≡ byte = omega arith in
    let one : decimal a.0 ≡ decimal m ++ byte ∷ [] = rw (decimal_step a.0 (omega arith) (omega arith), high, low) refl in
    digits_taken limit a.0 bytes n small (omega arith) a.2 ∙ rw (one, append_assoc (decimal m) (byte ∷ []) bytes) refl

not_zero : (byte : ℕ) (read : Option ℕ) (n : ℕ) → cond (eqb byte 48) None read ≡ Some n → (byte ≢ 48) × (read ≡ Some n)
not_zero byte read n e =
    elim (cases_Bool (eqb byte 48)) [
      | inl zero_first ↦ absurd (none-some n (rw zero_first at e))
      | inr other ↦ (λ same. absurd (grind (arith, nat_tests)), rw other at e)
    ]

pub number_taken : (limit : ℕ) (word : List ℕ) (n : ℕ) → limit < 2 ^ 64 → number_up_to limit word ≡ Some n → word ≡ decimal n
number_taken limit [] n small e = absurd (none-some n e)
number_taken limit (byte ∷ []) n small e =
    let a = bind_some (with_digit limit 0 byte) (λ k. with_digits limit k []) n e in
    let d = digit_taken limit 0 byte a.0 a.1 in
    let same : a.0 ≡ n = same_Some _ _ a.2 in
    let whole : 48 + n ≡ byte = omega arith in
    rw (decimal_digit n (omega arith), whole) refl
number_taken limit (byte ∷ next ∷ bytes) n small e =
    let leads = not_zero byte (with_digits limit 0 (byte ∷ next ∷ bytes)) n e in
    let a = bind_some (with_digit limit 0 byte) (λ k. with_digits limit k (next ∷ bytes)) n leads.1 in
    let d = digit_taken limit 0 byte a.0 a.1 in
    let whole : 48 + a.0 ≡ byte = omega arith in
    let first : decimal a.0 ≡ byte ∷ [] = rw (decimal_digit a.0 (omega arith), whole) refl in
    sym (digits_taken limit a.0 (next ∷ bytes) n small (omega (arith, leads.0)) a.2 ∙ rw first refl)

-- ---- again

bind_last : (o : Option ℕ) → (o >>= λ m. Some m) ≡ o
bind_last (Some m) = refl
bind_last None = refl

appended : (limit : ℕ) (o : Option ℕ) (digits : List ℕ) (byte : ℕ) → ((m : ℕ) → with_digits limit m (digits ++ byte ∷ []) ≡ (with_digits limit m digits >>= λ k. with_digit limit k byte))
    → (o >>= λ m. with_digits limit m (digits ++ byte ∷ [])) ≡ ((o >>= λ m. with_digits limit m digits) >>= λ k. with_digit limit k byte)
appended limit (Some m) digits byte more = more m
appended limit None digits byte more = refl

with_digits-append : (limit n : ℕ) (digits : List ℕ) (byte : ℕ) → with_digits limit n (digits ++ byte ∷ []) ≡ (with_digits limit n digits >>= λ m. with_digit limit m byte)
with_digits-append limit n [] byte = bind_last (with_digit limit n byte)
with_digits-append limit n (first ∷ digits) byte = appended limit (with_digit limit n first) digits byte (λ m. with_digits-append limit m digits byte)

-- no other digit stands behind a 0 that leads
abbrev Leads : ℕ → List ℕ → Type 0
Leads n [] = ⊥
Leads n (byte ∷ digits) = 0 < n → byte ≢ 48

abbrev IsPlain : List ℕ → Type 0
IsPlain [] = ⊥
IsPlain (byte ∷ []) = Unit {0}
IsPlain (byte ∷ next ∷ digits) = byte ≢ 48

record Reads (n : ℕ) (digits : List ℕ) : Type 0 where
  leads : Leads n digits
  plain : IsPlain digits
  value : (limit : ℕ) → n ≤ limit → with_digits limit 0 digits ≡ Some n

leads_further : (n m : ℕ) (digits : List ℕ) (byte : ℕ) → 0 < m → Leads m digits → Leads n (digits ++ byte ∷ []) × IsPlain (digits ++ byte ∷ [])
leads_further n m [] byte some leads = absurd leads
leads_further n m (first ∷ []) byte some leads = (λ _. leads some, leads some)
leads_further n m (first ∷ second ∷ digits) byte some leads = (λ _. leads some, leads some)

read_one : (n : ℕ) → n < 10 → Reads n ((48 + n) ∷ [])
read_one n small = record {
  leads = λ some same. absurd (omega arith);
  plain = tt;
  value = λ limit within. let one : with_digit limit 0 (48 + n) ≡ Some (10 * 0 + n) = digit_again limit 0 n small (omega arith) in let same : 10 * 0 + n ≡ n = omega arith in rw one (ap (λ (k : ℕ). Some k) same);
}

read_more : (n : ℕ) (digits : List ℕ) → 10 ≤ n → Reads (n / 10) digits → Reads n (digits ++ (48 + n % 10) ∷ [])
read_more n digits long r =
    let some : 0 < n / 10 = omega arith in
    let shape = leads_further n (n / 10) digits (48 + n % 10) some r.leads in
    record {
      leads = shape.0;
      plain = shape.1;
      value = λ limit within.
          let front = r.value limit (omega arith) in
          let one : with_digit limit (n / 10) (48 + n % 10) ≡ Some (10 * (n / 10) + n % 10) = digit_again limit (n / 10) (n % 10) (omega arith) (omega arith) in
          let same : 10 * (n / 10) + n % 10 ≡ n = omega arith in
          rw (with_digits-append limit 0 digits (48 + n % 10), front, one) (ap (λ (k : ℕ). Some k) same);
    }

reads : (n : ℕ) → n < 2 ^ 64 → Reads n (decimal n)
reads n small = decimal_by_steps Reads read_one read_more n small

plain_read : (limit : ℕ) (digits : List ℕ) → IsPlain digits → number_up_to limit digits ≡ with_digits limit 0 digits
plain_read limit [] plain = absurd plain
plain_read limit (byte ∷ []) plain = refl
plain_read limit (byte ∷ next ∷ digits) plain = let other : eqb byte 48 ≡ false = grind (arith, nat_tests) in rw other refl

pub number_again : (limit n : ℕ) → limit < 2 ^ 64 → n ≤ limit → number_up_to limit (decimal n) ≡ Some n
number_again limit n small within = let r = reads n (omega arith) in plain_read limit (decimal n) r.plain ∙ r.value limit within

-- ---- in a range, and behind a letter

pub number_in_taken : (low high : ℕ) (word : List ℕ) (n : ℕ) → high < 2 ^ 64 → number_in low high word ≡ Some n → (word ≡ decimal n) × IsIn low high n
number_in_taken low high word n small e =
    let a = bind_some (number_up_to high word) (λ k. only_if (leb low k) k) n e in
    let b = only_if_some (leb low a.0) a.0 n a.2 in
    (number_taken high word a.0 small a.1 ∙ ap decimal b.1, number_in_fits low high word n e)

pub number_in_again : (low high n : ℕ) → high < 2 ^ 64 → IsIn low high n → number_in low high (decimal n) ≡ Some n
number_in_again low high n small within =
    let above : leb low n ≡ true = le-leb _ _ within.0 in
    rw (number_again high n small within.1, above) refl

pub named_taken : (letter limit : ℕ) (word : List ℕ) (n : ℕ) → limit < 2 ^ 64 → named letter limit word ≡ Some n → (word ≡ letter ∷ decimal n) × IsIn 1 limit n
named_taken letter limit [] n small e = absurd (none-some n e)
named_taken letter limit (byte ∷ bytes) n small e =
    elim (cases_Bool (eqb byte letter)) [
      | inl same ↦ let r = number_in_taken 1 limit bytes n small (rw same at e) in let first : byte ≡ letter = eqb-true _ _ same in (rw (first, ← r.0) refl, r.1)
      | inr other ↦ absurd (none-some n (rw other at e))
    ]

pub named_again : (letter limit n : ℕ) → limit < 2 ^ 64 → IsIn 1 limit n → named letter limit (letter ∷ decimal n) ≡ Some n
named_again letter limit n small within = let same : eqb letter letter ≡ true = eq-eqb letter letter refl in rw same (number_in_again 1 limit n small within)
