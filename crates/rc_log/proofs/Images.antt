-- What the writes of an append make of a log, whole or in part.
use Rattle.std.proofs.Common.{◌≡◌, ◌≢◌, inl, inr, ℕ, ◌+◌, ◌^◌, ◌<◌, ◌==◌, List, [], ◌∷◌, ◌++◌, length, take, drop, Ok, sym, ap, ◌∙◌, append_assoc, arith}
use Rattle.std.proofs.lemmas.Bool.{cases_eq}
use Rattle.std.proofs.lemmas.Bool.Decides.{nat_tests}
use Rattle.std.proofs.lemmas.List.{append-nil, take_at, drop_at, length-append}
use Rattle.rc_fields.specs.Spelling.{u32_bytes}
use Rattle.rc_disk.specs.Calls.{effect, Writes}
use Rattle.rc_log.specs.Records.{records, size_of, with_front, behind_gate}
use Rattle.rc_log.specs.Append.{with_or_without}
use Rattle.rc_log.proofs.Frames.{Parts, ahead, frame_at-new, records_from-shut, records_from-open}

module _ (c : List ℕ) (rs : List (List ℕ)) (r : List ℕ) (place : ℕ) (parts : Parts c rs) (at : place ≡ size_of rs) (short : length r < 2 ^ 32) where
  abbrev pub tail : List ℕ
  tail = drop (place + 1 + length (behind_gate r)) c

  -- the log with the frame behind its closed gate
  abbrev pub staged : List ℕ
  staged = effect (Writes (place + 1) (behind_gate r)) c

  to_gate : take (place + 1) c ≡ parts.front ++ parts.gate ∷ []
  to_gate =
      ap (take (place + 1)) (parts.is ∙ sym (append_assoc parts.front (parts.gate ∷ []) parts.tail))
      ∙ take_at (parts.front ++ parts.gate ∷ []) parts.tail (place + 1) (omega (arith, length-append parts.front (parts.gate ∷ []), parts.fronts.size))

  behind_shut : (rest : List ℕ) → records (parts.front ++ parts.gate ∷ rest) ≡ Ok rs
  behind_shut rest =
      parts.fronts.goes_on 0 (parts.gate ∷ rest)
      ∙ ap (ahead rs) (records_from-shut (0 + size_of rs) parts.gate rest parts.shut)
      ∙ ap (λ (l : List (List ℕ)). Ok l) (append-nil rs)

  -- whatever stands behind the closed gate has no meaning
  pub still : (middle rest : List ℕ) → records (take (place + 1) c ++ middle ++ rest) ≡ Ok rs
  still middle rest =
      ap records (ap (λ (l : List ℕ). l ++ middle ++ rest) to_gate
      ∙ append_assoc (parts.front ++ parts.gate ∷ []) middle rest ∙ append_assoc parts.front (parts.gate ∷ []) (middle ++ rest))
      ∙ behind_shut (middle ++ rest)

  pub staged_is : staged ≡ parts.front ++ parts.gate ∷ (behind_gate r ++ tail)
  staged_is =
      ap (λ (l : List ℕ). l ++ behind_gate r ++ tail) to_gate
      ∙ append_assoc (parts.front ++ parts.gate ∷ []) (behind_gate r) tail
      ∙ append_assoc parts.front (parts.gate ∷ []) (behind_gate r ++ tail)

  to_place : take place staged ≡ parts.front
  to_place = ap (take place) staged_is ∙ take_at parts.front (parts.gate ∷ (behind_gate r ++ tail)) place (omega (arith, parts.fronts.size))

  past_gate : drop (place + 1) staged ≡ behind_gate r ++ tail
  past_gate =
      ap (drop (place + 1)) (staged_is ∙ sym (append_assoc parts.front (parts.gate ∷ []) (behind_gate r ++ tail)))
      ∙ drop_at (parts.front ++ parts.gate ∷ []) (behind_gate r ++ tail) (place + 1) (omega (arith, length-append parts.front (parts.gate ∷ []), parts.fronts.size))

  frame_is : behind_gate r ++ tail ≡ u32_bytes (length r) ++ (r ++ 0 ∷ tail)
  frame_is =
      append_assoc (u32_bytes (length r) ++ r) (0 ∷ []) tail ∙ append_assoc (u32_bytes (length r)) r (0 ∷ tail)

  opened : records (parts.front ++ 1 ∷ (behind_gate r ++ tail)) ≡ Ok (rs ++ r ∷ [])
  opened =
      ap (λ (l : List ℕ). records (parts.front ++ 1 ∷ l)) frame_is
      ∙ parts.fronts.goes_on 0 (1 ∷ (u32_bytes (length r) ++ (r ++ 0 ∷ tail)))
      ∙ ap (ahead rs) (records_from-open (0 + size_of rs) (u32_bytes (length r) ++ (r ++ 0 ∷ tail)) (r, 0 ∷ tail) (frame_at-new r (0 ∷ tail) short)
      ∙ ap (with_front r) (records_from-shut (0 + size_of rs + 5 + length r) 0 tail (omega arith)))

  -- with any byte in the place of the gate
  pub gated : (m : ℕ) → records (take place staged ++ (m ∷ []) ++ drop (place + 1) staged) ≡ Ok (with_or_without (m == 1) rs r)
  gated m = ap records parts_are ∙ elim (cases_eq m 1) [
    | inl is_open ↦ ap (λ (g : ℕ). records (parts.front ++ g ∷ (behind_gate r ++ tail))) is_open ∙ opened ∙ ap (λ (l : List (List ℕ)). Ok l) (kept is_open)
    | inr closed ↦ shut_gate closed ∙ ap (λ (l : List (List ℕ)). Ok l) (lost closed)
  ]
    where
      parts_are : take place staged ++ (m ∷ []) ++ drop (place + 1) staged ≡ parts.front ++ m ∷ (behind_gate r ++ tail)
      parts_are = (λ i. to_place i ++ (m ∷ []) ++ past_gate i) ∙ append_assoc parts.front (m ∷ []) (behind_gate r ++ tail)

      kept : m ≡ 1 → rs ++ r ∷ [] ≡ with_or_without (m == 1) rs r
      kept is = grind (arith, nat_tests)

      lost : m ≢ 1 → rs ≡ with_or_without (m == 1) rs r
      lost is = grind (arith, nat_tests)

      shut_gate : m ≢ 1 → records (parts.front ++ m ∷ (behind_gate r ++ tail)) ≡ Ok rs
      shut_gate closed =
          parts.fronts.goes_on 0 (m ∷ (behind_gate r ++ tail))
          ∙ ap (ahead rs) (records_from-shut (0 + size_of rs) m (behind_gate r ++ tail) closed)
          ∙ ap (λ (l : List (List ℕ)). Ok l) (append-nil rs)
