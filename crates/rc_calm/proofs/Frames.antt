-- A body of at most 32 keys and values that are no longer than a script's fits into frames of 40,000 bytes.
use Rattle.std.proofs.Common.{◌≡◌, ℕ, suc, ◌+◌, ◌*◌, ◌≤◌, List, [], ◌∷◌, ◌++◌, refl, arith, Bool, true, false, cond, Option, Some, None, inl, inr}
use Rattle.std.specs.Prelude.{length, filter, ◌==◌}
use Rattle.std.specs.List.{flat_map}
use Rattle.rc_ids.specs.Tables.{In}
use Rattle.rc_ids.specs.Cluster.{Layout, shard_of}
use Rattle.rc_fields.specs.Spelling.{u32_bytes, u64_bytes, u16_bytes, key_bytes}
use Rattle.rc_body.specs.Bodies.{part}
use Rattle.rc_body.specs.Spelling.{held_bytes, entry_bytes, body_bytes, decision_bytes, outcome_bytes}
use Rattle.rc_body.specs.declared.entry.Entry.{Entry}
use Rattle.rc_body.specs.declared.decision.Decision.TheVariants.{Commit}
use Rattle.rc_record.specs.declared.record.Record.TheVariants.{Accepted, Decided, Prepared, Finished}
use Rattle.rc_runs.specs.Devices.{record_length}
use Rattle.rc_calm_batches.proofs.ReadDrains.{length_both}
use Rattle.rc_calm_batches.proofs.Sizes.{Ready, most_frame}
use Rattle.rc_calm_batches.proofs.Stages.{in_filter}

-- a value of a script, or none
abbrev pub Short : Option (List ℕ) → Type 0
Short None = Unit {0}
Short (Some value) = length value ≤ 1024

pub held_length : (w : Option (List ℕ)) → Short w → length (held_bytes w) ≤ 1027
held_length None h = omega arith
held_length (Some value) h = let l = length_both (u16_bytes (length value)) value in let k : length (u16_bytes (length value)) ≡ 2 = refl in omega (arith, l, k, h)

pub entry_length : (e : Entry) → length e.key ≤ 64 → Short e.write → length (entry_bytes e) ≤ 1100
entry_length e k w =
    let h = held_length e.write w in
    let a = length_both (key_bytes e.key ++ u64_bytes e.version) (held_bytes e.write) in
    let b = length_both (key_bytes e.key) (u64_bytes e.version) in
    let n : length (u64_bytes e.version) ≡ 8 = refl in
    omega (arith, h, a, b, n, k)

entries_length : (n : ℕ) (es : List Entry) → ((e : Entry) → In e es → length (entry_bytes e) ≤ n) → length (flat_map entry_bytes es) ≤ length es * n
entries_length n [] h = omega arith
entries_length n (e ∷ es) h =
    let now = h e (inl refl) in
    let more = entries_length n es (λ f i. h f (inr i)) in
    let l = length_both (entry_bytes e) (flat_map entry_bytes es) in
    let z : suc (length es) * n ≡ n + length es * n = grind (arith) in
    omega (arith, now, more, l, z)

-- 32 entries
whole_length : (es : List Entry) → length es ≤ 32 → ((e : Entry) → In e es → length (entry_bytes e) ≤ 1100) → length (body_bytes es) ≤ 35201
whole_length es few h = let l = entries_length 1100 es h in omega (arith, l, few)

pub fewer : {A : Type 0} (f : A → Bool) (xs : List A) → length (filter f xs) ≤ length xs
fewer f [] = omega arith
fewer f (x ∷ xs) = go (f x) (fewer f xs)
  where
    go : (v : Bool) → length (filter f xs) ≤ length xs → length (cond v (x ∷ filter f xs) (filter f xs)) ≤ suc (length xs)
    go true h = omega (arith, h)
    go false h = omega (arith, h)

prepared_length : (t : ℕ) (es : List Entry) → length (body_bytes es) ≤ 35201 → 5 + record_length (Prepared t es) ≤ most_frame
prepared_length t es h = let l = length_both (u32_bytes t) (body_bytes es) in let n : length (u32_bytes t) ≡ 4 = refl in omega (arith, l, n, h)

accepted_length : (t : ℕ) (es : List Entry) → length (body_bytes es) ≤ 35201 → 5 + record_length (Accepted t 0 (Commit es)) ≤ most_frame
accepted_length t es h =
    let a = length_both (u32_bytes t) (u32_bytes 0 ++ decision_bytes (Commit es)) in
    let b = length_both (u32_bytes 0) (decision_bytes (Commit es)) in
    let n : length (u32_bytes t) ≡ 4 = refl in
    let k : length (u32_bytes 0) ≡ 4 = refl in
    omega (arith, a, b, n, k, h)

page_length : (t : ℕ) (es : List Entry) → length (body_bytes es) ≤ 35201 → length (flat_map outcome_bytes ((t, Commit es) ∷ [])) ≤ 35206
page_length t es h =
    let a = length_both (u32_bytes t ++ decision_bytes (Commit es)) [] in
    let b = length_both (u32_bytes t) (decision_bytes (Commit es)) in
    let n : length (u32_bytes t) ≡ 4 = refl in
    omega (arith, a, b, n, h)

finished_length : (t : ℕ) (es : List Entry) → length (body_bytes es) ≤ 35201 → 5 + record_length (Finished ((t, Commit es) ∷ [])) ≤ most_frame
finished_length t es h = let p = page_length t es h in omega (arith, p)

decided_length : (t : ℕ) (es : List Entry) → length (body_bytes es) ≤ 35201 → 5 + record_length (Decided ((t, Commit es) ∷ [])) ≤ most_frame
decided_length t es h = let p = page_length t es h in omega (arith, p)

-- whose key is of the shard
abbrev in_part : Layout → ℕ → Entry → Bool
in_part c s e = shard_of c e.key == s

pub ready_is : (over : List ℕ) (t : ℕ) (body : List Entry) → (In t over → ⊥) → length body ≤ 32 → ((e : Entry) → In e body → length (entry_bytes e) ≤ 1100) → Ready over t body
ready_is over t body new few h =
    let all = whole_length body few h in
    let parts : (c : Layout) (s : ℕ) → length (body_bytes (part c s body)) ≤ 35201 = λ c s.
    let f = fewer (in_part c s) body in whole_length (part c s body) (omega (arith, f, few)) (λ e i. h e (in_filter (in_part c s) e body i)) in
    record {
      new = new;
      accepted = accepted_length t body all;
      decided = decided_length t body all;
      prepared = λ c s. prepared_length t (part c s body) (parts c s);
      finished = λ c s. finished_length t (part c s body) (parts c s);
    }
