-- How records are read from bytes.
use Rattle.std.proofs.Common.{◌≡◌, ◌≢◌, inl, inr, ℕ, zero, suc, ◌+◌, ◌*◌, ◌^◌, ◌<◌, ◌≤◌, Bool, true, false, ltb, List, [], ◌∷◌, ◌++◌, length, take, drop, Result, Ok, Err, refl, sym, ap, ◌∙◌, subst, append_assoc, arith}
use Rattle.std.specs.Int.{w32, from_be_bytes, to_be_bytes}
use Rattle.std.proofs.lemmas.Bool.{le-ltb, ltb-false, cases_eq}
use Rattle.std.proofs.lemmas.Bool.Decides.{nat_tests}
use Rattle.std.proofs.lemmas.List.{append-nil, take_at, drop_at, take-take, take-append-le, drop-append-le, drop-take, length-append, length-take-le, length-drop, take-append-drop, drop-drop}
use Rattle.std.proofs.lemmas.List.Sums.{sum_by-append}
use Rattle.std.proofs.lemmas.Nat.{from_be_bytes-to_be_bytes_4}
use Rattle.rc_fields.specs.declared.fault.FieldFault.{FieldFault}
use Rattle.rc_fields.specs.declared.fault.FieldFault.TheVariants.{Short}
use Rattle.rc_fields.specs.Spelling.{u32_bytes}
use Rattle.rc_log.specs.Records.{frame_at, with_front, framed, records_from, records, size_of, behind_gate}

-- the bytes that are passed over have no meaning
pub records_from-skip : (place skip : ℕ) (bytes : List ℕ) → records_from place skip bytes ≡ records_from place 0 (drop skip bytes)
unfolding records_from
records_from-skip place zero [] = refl
records_from-skip place (suc skip) [] = refl
records_from-skip place zero (b ∷ bytes) = refl
records_from-skip place (suc skip) (b ∷ bytes) = records_from-skip place skip bytes

pub records_from-none : (place : ℕ) → records_from place 0 [] ≡ Err place
unfolding records_from
records_from-none place = refl

-- a closed gate is the end
pub records_from-shut : (place gate : ℕ) (bytes : List ℕ) → gate ≢ 1 → records_from place 0 (gate ∷ bytes) ≡ Ok []
unfolding records_from
records_from-shut place gate bytes shut = grind (arith, nat_tests)

opened : (place : ℕ) (bytes : List ℕ) → records_from place 0 (1 ∷ bytes) ≡ framed place (frame_at bytes) (λ r. records_from (place + 5 + length r) (4 + length r) bytes)
unfolding records_from
opened place bytes = refl

-- FRAMES

-- a frame's length, the record and what follows it, as parts of the bytes
pub record HasFrame (bytes : List ℕ) (frame : List ℕ × List ℕ) : Type 0 where
  pub long : 4 + length frame.0 ≤ length bytes
  pub number : from_be_bytes w32 (take 4 bytes) ≡ length frame.0
  pub text : take (length frame.0) (drop 4 bytes) ≡ frame.0
  pub rest : drop (4 + length frame.0) bytes ≡ frame.1

pub frame_at-made : (n : ℕ) (bytes : List ℕ) → 4 + n ≤ length bytes → from_be_bytes w32 (take 4 bytes) ≡ n
    → frame_at bytes ≡ Ok (take n (drop 4 bytes), drop n (drop 4 bytes))
frame_at-made n bytes long number =
    let first : ltb (length bytes) 4 ≡ false = le-ltb _ _ (omega arith) in
    let second : ltb (length (drop 4 bytes)) n ≡ false = le-ltb _ _ (omega (arith, length-drop 4 bytes)) in
    rw (first, number, second) refl

pub has_frame : (bytes : List ℕ) (frame : List ℕ × List ℕ) → frame_at bytes ≡ Ok frame → HasFrame bytes frame
has_frame bytes frame is = by_first (ltb (length bytes) 4) (ltb (length (drop 4 bytes)) (from_be_bytes w32 (take 4 bytes))) refl refl
  where
    by_first : (short cut : Bool) → ltb (length bytes) 4 ≡ short → ltb (length (drop 4 bytes)) (from_be_bytes w32 (take 4 bytes)) ≡ cut → HasFrame bytes frame
    by_first true cut first second = let none : frame_at bytes ≡ Err Short = rw first refl in absurd (cc (none, is))
    by_first false true first second = let none : frame_at bytes ≡ Err Short = rw (first, second) refl in absurd (cc (none, is))
    by_first false false first second =
        let n = from_be_bytes w32 (take 4 bytes) in
        let all : frame_at bytes ≡ Ok (take n (drop 4 bytes), drop n (drop 4 bytes)) = rw (first, second) refl in
        let parts : ◌≡◌ {A = List ℕ × List ℕ} frame (take n (drop 4 bytes), drop n (drop 4 bytes)) = cc (all, is) in
        let low : 4 ≤ length bytes = ltb-false _ _ first in
        let high : n ≤ length (drop 4 bytes) = ltb-false _ _ second in
        let text : frame.0 ≡ take n (drop 4 bytes) = ap (λ (p : List ℕ × List ℕ). p.0) parts in
        let size : length frame.0 ≡ n = ap length text ∙ length-take-le n (drop 4 bytes) high in
        record {
          long = omega (arith, low, high, size, length-drop 4 bytes);
          number = sym size;
          text = ap (λ (k : ℕ). take k (drop 4 bytes)) size ∙ sym text;
          rest = ap (λ (k : ℕ). drop (4 + k) bytes) size ∙ sym (drop-drop n 4 bytes) ∙ sym (ap (λ (p : List ℕ × List ℕ). p.1) parts);
        }

abbrev given_at : ℕ → List ℕ → Result (List ℕ × List ℕ) FieldFault
given_at n bytes = Ok (take n bytes, drop n bytes)

given_at-is : (r rest : List ℕ) → given_at (length r) (r ++ rest) ≡ Ok (r, rest)
given_at-is r rest = rw (take_at r rest (length r) refl, drop_at r rest (length r) refl) refl

-- only the bytes of a frame have a say in it
frame_at-local : (bytes : List ℕ) (frame : List ℕ × List ℕ) (rest : List ℕ) → frame_at bytes ≡ Ok frame
    → frame_at (take (4 + length frame.0) bytes ++ rest) ≡ Ok (frame.0, rest)
frame_at-local bytes frame rest is =
    let h = has_frame bytes frame is in
    let n = length frame.0 in
    let front : List ℕ = take (4 + n) bytes in
    let size : length front ≡ 4 + n = length-take-le (4 + n) bytes h.long in
    let first : take 4 (front ++ rest) ≡ take 4 bytes = take-append-le 4 front rest (omega (arith, size)) ∙ take-take 4 (4 + n) bytes (omega arith) in
    let whole : frame_at (front ++ rest) ≡ Ok (take n (drop 4 (front ++ rest)), drop n (drop 4 (front ++ rest))) =
    frame_at-made n (front ++ rest) (omega (arith, length-append front rest, size)) (ap (from_be_bytes w32) first ∙ h.number) in
    let behind_length : drop 4 (front ++ rest) ≡ frame.0 ++ rest =
    drop-append-le 4 front rest (omega (arith, size)) ∙ ap (λ (l : List ℕ). l ++ rest) (drop-take 4 n bytes ∙ h.text) in
    whole ∙ ap (given_at n) behind_length ∙ given_at-is frame.0 rest

-- the frame of a record that was just made
pub frame_at-new : (r rest : List ℕ) → length r < 2 ^ 32 → frame_at (u32_bytes (length r) ++ (r ++ rest)) ≡ Ok (r, rest)
frame_at-new r rest lt =
    let n = length r in
    let front : List ℕ = to_be_bytes w32 n in
    let size : length front ≡ 4 = refl in
    let first : take 4 (front ++ (r ++ rest)) ≡ front = take_at front (r ++ rest) 4 refl in
    let rest_is : drop 4 (front ++ (r ++ rest)) ≡ r ++ rest = drop_at front (r ++ rest) 4 refl in
    frame_at-made n (front ++ (r ++ rest)) (omega (arith, length-append front (r ++ rest), length-append r rest, size)) (ap (from_be_bytes w32) first ∙ from_be_bytes-to_be_bytes_4 n lt)
    ∙ ap (given_at n) rest_is ∙ given_at-is r rest

-- an open gate with a whole frame behind it
pub records_from-open : (place : ℕ) (bytes : List ℕ) (frame : List ℕ × List ℕ) → frame_at bytes ≡ Ok frame
    → records_from place 0 (1 ∷ bytes) ≡ with_front frame.0 (records_from (place + 5 + length frame.0) 0 frame.1)
records_from-open place bytes frame is =
    opened place bytes
    ∙ ap (λ (f : Result (List ℕ × List ℕ) FieldFault). framed place f (λ r. records_from (place + 5 + length r) (4 + length r) bytes)) is
    ∙ ap (with_front frame.0) (records_from-skip (place + 5 + length frame.0) (4 + length frame.0) bytes ∙ ap (records_from (place + 5 + length frame.0) 0) (has_frame bytes frame is).rest)

-- an open gate with a frame that goes past the end
pub records_from-broken : (place : ℕ) (bytes : List ℕ) (fault : FieldFault) → frame_at bytes ≡ Err fault → records_from place 0 (1 ∷ bytes) ≡ Err place
records_from-broken place bytes fault is =
    opened place bytes
    ∙ ap (λ (f : Result (List ℕ × List ℕ) FieldFault). framed place f (λ r. records_from (place + 5 + length r) (4 + length r) bytes)) is

-- FRONTS

-- these records stand before all others
abbrev pub ahead : List (List ℕ) → Result (List (List ℕ)) ℕ → Result (List (List ℕ)) ℕ
ahead rs (Ok more) = Ok (rs ++ more)
ahead rs (Err place) = Err place

pub ahead-none : (found : Result (List (List ℕ)) ℕ) → ahead [] found ≡ found
ahead-none (Ok more) = refl
ahead-none (Err place) = refl

pub ahead-push : (rs : List (List ℕ)) (r : List ℕ) (found : Result (List (List ℕ)) ℕ) → ahead (rs ++ r ∷ []) found ≡ ahead rs (with_front r found)
ahead-push rs r (Ok more) = ap (λ (l : List (List ℕ)). Ok l) (append_assoc rs (r ∷ []) more)
ahead-push rs r (Err place) = refl

ahead-cons : (r : List ℕ) (rs : List (List ℕ)) (found : Result (List (List ℕ)) ℕ) → with_front r (ahead rs found) ≡ ahead (r ∷ rs) found
ahead-cons r rs (Ok more) = refl
ahead-cons r rs (Err place) = refl

-- the front of a log: it stands for these records, whatever comes behind it
pub record Fronts (front : List ℕ) (rs : List (List ℕ)) : Type 0 where
  pub goes_on : (place : ℕ) (rest : List ℕ) → records_from place 0 (front ++ rest) ≡ ahead rs (records_from (place + size_of rs) 0 rest)
  pub size : length front ≡ size_of rs

-- a log: its front, a closed gate, and what has no meaning
pub record Parts (bytes : List ℕ) (rs : List (List ℕ)) : Type 0 where
  pub front : List ℕ
  pub gate : ℕ
  pub tail : List ℕ
  pub is : bytes ≡ front ++ gate ∷ tail
  pub shut : gate ≢ 1
  pub fronts : Fronts front rs

-- the first record of those found
record First (r : List ℕ) (found : Result (List (List ℕ)) ℕ) (rs : List (List ℕ)) : Type 0 where
  pub others : List (List ℕ)
  pub found_is : found ≡ Ok others
  pub all : rs ≡ r ∷ others

first_of_found : (r : List ℕ) (found : Result (List (List ℕ)) ℕ) (rs : List (List ℕ)) → with_front r found ≡ Ok rs → First r found rs
first_of_found r (Ok others) rs is = record { others = others; found_is = refl; all = cc }
first_of_found r (Err place) rs is = absurd (cc)

pub size_of-cons : (r : List ℕ) (rs : List (List ℕ)) → size_of (r ∷ rs) ≡ length r + 5 + size_of rs
size_of-cons r rs = let two = sum_by-append (λ (l : List ℕ). length l + 5) (r ∷ []) rs in omega (arith, two)

-- bytes in two parts, of which the second has parts
joined : (k gate : ℕ) (bytes front tail : List ℕ) → drop k bytes ≡ front ++ gate ∷ tail → bytes ≡ take k bytes ++ front ++ gate ∷ tail
joined k gate bytes front tail is =
    sym (take-append-drop k bytes) ∙ ap (λ (l : List ℕ). take k bytes ++ l) is ∙ sym (append_assoc (take k bytes) front (gate ∷ tail))

whole_frame : (place gate : ℕ) (bytes : List ℕ) (frame : List ℕ × List ℕ) (rs : List (List ℕ)) → frame_at bytes ≡ Ok frame → gate ≡ 1 → records_from place 0 (gate ∷ bytes) ≡ Ok rs
    → with_front frame.0 (records_from (place + 5 + length frame.0) (4 + length frame.0) bytes) ≡ Ok rs
whole_frame place gate bytes frame rs at is_open is =
    ap (with_front frame.0) (records_from-skip (place + 5 + length frame.0) (4 + length frame.0) bytes ∙ ap (records_from (place + 5 + length frame.0) 0) (has_frame bytes frame at).rest)
    ∙ sym (records_from-open place bytes frame at) ∙ ap (λ (g : ℕ). records_from place 0 (g ∷ bytes)) (sym is_open) ∙ is

fronts_cons : (bytes : List ℕ) (frame : List ℕ × List ℕ) (front : List ℕ) (rs : List (List ℕ)) → frame_at bytes ≡ Ok frame → Fronts front rs
    → Fronts (1 ∷ (take (4 + length frame.0) bytes ++ front)) (frame.0 ∷ rs)
fronts_cons bytes frame front rs is fronts =
    let n = length frame.0 in
    let part : List ℕ = take (4 + n) bytes in
    record {
      goes_on = λ place rest.
          ap (λ (l : List ℕ). records_from place 0 (1 ∷ l)) (append_assoc part front rest)
          ∙ records_from-open place (part ++ (front ++ rest)) (frame.0, front ++ rest) (frame_at-local bytes frame (front ++ rest) is)
          ∙ ap (with_front frame.0) (fronts.goes_on (place + 5 + n) rest)
          ∙ ahead-cons frame.0 rs (records_from (place + 5 + n + size_of rs) 0 rest)
          ∙ ap (λ (p : ℕ). ahead (frame.0 ∷ rs) (records_from p 0 rest)) (omega (arith, size_of-cons frame.0 rs));
      size = omega (arith, length-append part front, length-take-le (4 + n) bytes (has_frame bytes frame is).long, fronts.size, size_of-cons frame.0 rs);
    }

at_gate : (place gate : ℕ) (bytes : List ℕ) (rs : List (List ℕ)) → records_from place 0 (gate ∷ bytes) ≡ Ok rs
    → ((p skip : ℕ) (more : List (List ℕ)) → records_from p skip bytes ≡ Ok more → Parts (drop skip bytes) more) → Parts (gate ∷ bytes) rs
at_gate place gate bytes rs is later = elim (cases_eq gate 1) [
  | inl is_open ↦ by_frame (frame_at bytes) refl is_open
  | inr shut ↦
      let none : rs ≡ [] = let e = sym (records_from-shut place gate bytes shut) ∙ is in cc (e) in
      record {
        front = [];
        gate = gate;
        tail = bytes;
        is = refl;
        shut = shut;
        fronts = subst (Fronts []) (sym none) nothing;
      }
]
  where
    nothing : Fronts [] []
    nothing = record { goes_on = λ p rest. ap (λ (q : ℕ). records_from q 0 rest) (omega arith) ∙ sym (ahead-none (records_from (p + 0) 0 rest)); size = refl }

    by_frame : (found : Result (List ℕ × List ℕ) FieldFault) → frame_at bytes ≡ found → gate ≡ 1 → Parts (gate ∷ bytes) rs
    by_frame (Err fault) at is_open =
        let broken : records_from place 0 (gate ∷ bytes) ≡ Err place = ap (λ (g : ℕ). records_from place 0 (g ∷ bytes)) is_open ∙ records_from-broken place bytes fault at in
        absurd (cc (broken, is))
    by_frame (Ok frame) at is_open =
        let n = length frame.0 in
        let found = first_of_found frame.0 (records_from (place + 5 + n) (4 + n) bytes) rs (whole_frame place gate bytes frame rs at is_open is) in
        let more = later (place + 5 + n) (4 + n) found.others found.found_is in
        let part : List ℕ = take (4 + n) bytes in
        record {
          front = 1 ∷ (part ++ more.front);
          gate = more.gate;
          tail = more.tail;
          is = λ i. is_open i ∷ joined (4 + n) more.gate bytes more.front more.tail more.is i;
          shut = more.shut;
          fronts = subst (Fronts (1 ∷ (part ++ more.front))) (sym found.all) (fronts_cons bytes frame more.front found.others at more.fronts);
        }

parts_from : (place skip : ℕ) (bytes : List ℕ) (rs : List (List ℕ)) → records_from place skip bytes ≡ Ok rs → Parts (drop skip bytes) rs
unfolding records_from
parts_from place zero [] rs is = absurd (cc)
parts_from place (suc skip) [] rs is = absurd (cc)
parts_from place zero (gate ∷ bytes) rs is = at_gate place gate bytes rs is (λ p skip more. parts_from p skip bytes more)
parts_from place (suc skip) (b ∷ bytes) rs is = parts_from place skip bytes rs is

pub parts_of : (bytes : List ℕ) (rs : List (List ℕ)) → records bytes ≡ Ok rs → Parts bytes rs
parts_of bytes rs is = parts_from 0 0 bytes rs is

pub length-behind_gate : (r : List ℕ) → length (behind_gate r) ≡ length r + 5
length-behind_gate r =
    let number : length (u32_bytes (length r)) ≡ 4 = refl in
    omega (arith, number, length-append (u32_bytes (length r) ++ r) (0 ∷ []), length-append (u32_bytes (length r)) r)

-- READING ONE FRAME AFTER THE OTHER

module _ (all : List (List ℕ)) (place : ℕ) (bytes rest : List ℕ) (found : ahead all (records_from place 0 rest) ≡ records bytes) where
  pub found_none : rest ≡ [] → records bytes ≡ Err place
  found_none none = sym found ∙ ap (ahead all) (ap (records_from place 0) none ∙ records_from-none place)

  pub found_shut : (gate : ℕ) (behind_it : List ℕ) → rest ≡ gate ∷ behind_it → gate ≢ 1 → records bytes ≡ Ok all
  found_shut gate behind_it is shut =
      sym found ∙ ap (ahead all) (ap (records_from place 0) is ∙ records_from-shut place gate behind_it shut) ∙ ap (λ (l : List (List ℕ)). Ok l) (append-nil all)

  pub found_broken : (gate : ℕ) (behind_it : List ℕ) (fault : FieldFault) → rest ≡ gate ∷ behind_it → gate ≡ 1 → frame_at behind_it ≡ Err fault → records bytes ≡ Err place
  found_broken gate behind_it fault is is_open broken =
      sym found ∙ ap (ahead all) (ap (records_from place 0) (is ∙ ap (λ (g : ℕ). g ∷ behind_it) is_open) ∙ records_from-broken place behind_it fault broken)

  pub found_next : (gate : ℕ) (behind_it r after : List ℕ) → rest ≡ gate ∷ behind_it → gate ≡ 1 → frame_at behind_it ≡ Ok (r, after)
      → ahead (all ++ r ∷ []) (records_from (place + (5 + length r)) 0 after) ≡ records bytes
  found_next gate behind_it r after is is_open whole =
      ap (λ (p : ℕ). ahead (all ++ r ∷ []) (records_from p 0 after)) (omega arith)
      ∙ ahead-push all r (records_from (place + 5 + length r) 0 after)
      ∙ ap (ahead all) (sym (ap (records_from place 0) (is ∙ ap (λ (g : ℕ). g ∷ behind_it) is_open) ∙ records_from-open place behind_it (r, after) whole))
      ∙ found

  pub passed_next : (gate : ℕ) (behind_it r after : List ℕ) → rest ≡ gate ∷ behind_it → frame_at behind_it ≡ Ok (r, after)
      → place + length rest ≡ length bytes → place + (5 + length r) + length after ≡ length bytes
  passed_next gate behind_it r after is whole passed =
      let h = has_frame behind_it (r, after) whole in
      omega (arith, h.long, ap length h.rest, length-drop (4 + length r) behind_it, ap length is, passed)

pub size_of-push : (rs : List (List ℕ)) (r : List ℕ) → size_of (rs ++ r ∷ []) ≡ size_of rs + (5 + length r)
size_of-push rs r = let two = sum_by-append (λ (l : List ℕ). length l + 5) rs (r ∷ []) in omega (arith, two)

pub few_records : (rs : List (List ℕ)) → 5 * length rs ≤ size_of rs
few_records [] = omega arith
few_records (r ∷ rs) = omega (arith, few_records rs, size_of-cons r rs)
