-- What was written is read again, so no spelling begins another.
use Rattle.std.proofs.Common.{◌≡◌, ℕ, ◌^◌, ◌<◌, ◌≤◌, false, ltb, List, ◌++◌, length, Result, Ok, refl, sym, ap, ◌∙◌, append_assoc, arith}
use Rattle.std.specs.Int.{Width, w16, w32, w64, byte_len, from_be_bytes, to_be_bytes}
use Rattle.std.proofs.lemmas.Bool.{le-ltb}
use Rattle.std.proofs.lemmas.List.{take_at, drop_at, length-append}
use Rattle.std.proofs.lemmas.Nat.{from_be_bytes-to_be_bytes_2, from_be_bytes-to_be_bytes_4, from_be_bytes-to_be_bytes_8}
use Rattle.rc_fields.specs.declared.fault.FieldFault.{FieldFault}
use Rattle.rc_fields.specs.Spelling.{u16_bytes, u32_bytes, u64_bytes, key_bytes, val_bytes}
use Rattle.rc_fields.specs.Reading.{bytes_at, number_at, u16_at, u32_at, u64_at, counted_at}
use Rattle.rc_fields.specs.Laws.{IsKind}

abbrev read : {A : Type 0} → A → List ℕ → Result (A × List ℕ) FieldFault
read a rest = Ok (a, rest)

same_read : {A : Type 0} (a b : A) (x y : List ℕ) → read a x ≡ read b y → ◌≡◌ {A = A × List ℕ} (a, x) (b, y)
same_read a b x y e = cc

-- what reading gives back, the spelling tells
pub told_by_reading : {A : Type 0} (spelled : A → List ℕ) (fits : A → Type 0) (at : List ℕ → Result (A × List ℕ) FieldFault)
    → ((v : A) (rest : List ℕ) → fits v → at (spelled v ++ rest) ≡ Ok (v, rest)) → IsKind spelled fits
told_by_reading {A} spelled fits at again =
    record {
      told = λ a b x y fa fb e.
          let both = same_read a b x y (sym (again a x fa) ∙ ap at e ∙ again b y fb) in
          (ap (λ (p : A × List ℕ). p.0) both, ap (λ (p : A × List ℕ). p.1) both);
    }

number_again : (w : Width) (n : ℕ) (rest : List ℕ) → length (to_be_bytes w n) ≡ byte_len w
    → from_be_bytes w (to_be_bytes w n) ≡ n → number_at w (to_be_bytes w n ++ rest) ≡ Ok (n, rest)
number_again w n rest len back =
    let long : ltb (length (to_be_bytes w n ++ rest)) (byte_len w) ≡ false = le-ltb _ _ (omega (arith, length-append (to_be_bytes w n) rest)) in
    rw (long, take_at (to_be_bytes w n) rest (byte_len w) len, drop_at (to_be_bytes w n) rest (byte_len w) len, back) refl

pub u16_again : (n : ℕ) (rest : List ℕ) → n < 2 ^ 16 → u16_at (u16_bytes n ++ rest) ≡ Ok (n, rest)
u16_again n rest lt = number_again w16 n rest refl (from_be_bytes-to_be_bytes_2 n lt)

pub u32_again : (n : ℕ) (rest : List ℕ) → n < 2 ^ 32 → u32_at (u32_bytes n ++ rest) ≡ Ok (n, rest)
u32_again n rest lt = number_again w32 n rest refl (from_be_bytes-to_be_bytes_4 n lt)

pub u64_again : (n : ℕ) (rest : List ℕ) → n < 2 ^ 64 → u64_at (u64_bytes n ++ rest) ≡ Ok (n, rest)
u64_again n rest lt = number_again w64 n rest refl (from_be_bytes-to_be_bytes_8 n lt)

-- the bytes behind their number
bytes_again : (text rest : List ℕ) → bytes_at (length text) (text ++ rest) ≡ Ok (text, rest)
bytes_again text rest =
    let long : ltb (length (text ++ rest)) (length text) ≡ false = le-ltb _ _ (omega (arith, length-append text rest)) in
    rw (long, take_at text rest (length text) refl, drop_at text rest (length text) refl) refl

pub key_again : (k rest : List ℕ) → length k ≤ 64 → counted_at 64 (key_bytes k ++ rest) ≡ Ok (k, rest)
key_again k rest le =
    let few : ltb 64 (length k) ≡ false = le-ltb _ _ le in
    rw (few, bytes_again k rest) refl

pub val_again : (v rest : List ℕ) → length v ≤ 1024 → counted_at 1024 (val_bytes v ++ rest) ≡ Ok (v, rest)
val_again v rest le =
    let few : ltb 1024 (length v) ≡ false = le-ltb _ _ le in
    let front : val_bytes v ++ rest ≡ u16_bytes (length v) ++ (v ++ rest) = append_assoc (u16_bytes (length v)) v rest in
    ap (counted_at 1024) front ∙ rw (u16_again (length v) (v ++ rest) (omega arith), few, bytes_again v rest) refl
