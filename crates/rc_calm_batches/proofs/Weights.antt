-- How many bytes the messages of a read and of a commit have.
use Rattle.std.proofs.Common.{◌≡◌, ℕ, zero, suc, ◌+◌, ◌*◌, ◌≤◌, List, [], ◌∷◌, ◌++◌, refl, ap, ◌∙◌, arith, Bool, true, false, cond, Option, None}
use Rattle.std.specs.Prelude.{length, if◌then◌else◌, ◌==◌, ◌-◌, nat_le}
use Rattle.std.specs.List.{flat_map}
use Rattle.std.proofs.lemmas.List.Sums.{sum_by-cons, sum_by-append}
use Rattle.rc_ids.specs.Cluster.{Layout, shard_of}
use Rattle.rc_fields.specs.Spelling.{u8_bytes, u64_bytes}
use Rattle.rc_body.specs.Bodies.{part}
use Rattle.rc_body.specs.Spelling.{held_bytes, entry_bytes, body_bytes}
use Rattle.rc_body.specs.declared.entry.Entry.{Entry}
use Rattle.rc_body.specs.declared.decision.Decision.TheVariants.{Commit}
use Rattle.rc_msg.specs.declared.msg.Envelope.{Envelope}
use Rattle.rc_msg.specs.declared.msg.Msg.TheVariants.{ReadAsk, ReadCancel, Granted, Propose, Prepare, Prepared, Voted, Finish}
use Rattle.rc_msg.specs.Spelling.{envelope_bytes}
use Rattle.rc_protocol.specs.Messages.{client_of, coordinator, shard_server}
use Rattle.rc_runs.specs.World.{bytes_of}
use Rattle.rc_calm_batches.proofs.Passes.{each}
use Rattle.rc_calm_batches.proofs.ReadDrains.{length_both, length_ones, length_rest}

pub bytes_cons : (e : Envelope) (es : List Envelope) → bytes_of (e ∷ es) ≡ length (envelope_bytes e) + bytes_of es
bytes_cons e es = sum_by-cons (λ (x : Envelope). length (envelope_bytes x)) e es

pub bytes_both : (a b : List Envelope) → bytes_of (a ++ b) ≡ bytes_of a + bytes_of b
bytes_both a b = sum_by-append (λ (x : Envelope). length (envelope_bytes x)) a b

-- none has more bytes
abbrev pub Light : ℕ → List Envelope → Type 0
Light w [] = Unit {0}
Light w (e ∷ es) = (length (envelope_bytes e) ≤ w) × Light w es

pub light_both : (w : ℕ) (a b : List Envelope) → Light w a → Light w b → Light w (a ++ b)
light_both w [] b f g = g
light_both w (e ∷ a) b f g = (f.0, light_both w a b f.1 g)

pub light_each : (w n : ℕ) (f : ℕ → List Envelope) → ((d : ℕ) → Light w (f d)) → Light w (each n f)
light_each w zero f h = tt
light_each w (suc n) f h = light_both w (each n f) (f (suc n)) (light_each w n f h) (h (suc n))

pub light_if : (w : ℕ) (v : Bool) (e : Envelope) → length (envelope_bytes e) ≤ w → Light w (if v then e ∷ [] else [])
light_if w true e h = (h, tt)
light_if w false e h = tt

pub light_unless : (w : ℕ) (v : Bool) (e : Envelope) → length (envelope_bytes e) ≤ w → Light w (if v then [] else e ∷ [])
light_unless w true e h = tt
light_unless w false e h = (h, tt)

pub light_bytes : (w : ℕ) (es : List Envelope) → Light w es → bytes_of es ≤ length es * w
light_bytes w [] h = omega arith
light_bytes w (e ∷ es) h =
    let now = h.0 in
    let more = light_bytes w es h.1 in
    let c = bytes_cons e es in
    let z : suc (length es) * w ≡ w + length es * w = grind (arith) in
    omega (arith, now, more, c, z)

-- so many light ones
pub light_some : (w n most : ℕ) (es : List Envelope) → n ≤ most → Light w es → length es ≡ n → bytes_of es ≤ most * w
light_some w n most es le f l =
    let b = light_bytes w es f in
    let e : most ≡ length es + (most - length es) = omega (arith, le, l) in
    let z : most * w ≡ length es * w + (most - length es) * w = ap (λ (x : ℕ). x * w) e ∙ grind (arith) in
    omega (arith, b, z)

-- READS
pub ask_bytes : (t : ℕ) (k : List ℕ) (d s : ℕ) → length k ≤ 64 → length (envelope_bytes (record { from = client_of t; to = shard_server d s; msg = ReadAsk t k })) ≤ 100
ask_bytes t k d s h = omega (arith, h)

pub cancel_bytes : (t : ℕ) (k : List ℕ) (d s : ℕ) → length k ≤ 64 → length (envelope_bytes (record { from = client_of t; to = shard_server d s; msg = ReadCancel t k })) ≤ 100
cancel_bytes t k d s h = omega (arith, h)

pub grant_bytes : (t : ℕ) (k : List ℕ) (d s version : ℕ) (value : Option (List ℕ)) → length k ≤ 64 → length (held_bytes value) ≤ 1027
    → length (envelope_bytes (record { from = shard_server d s; to = client_of t; msg = Granted t k d version value })) ≤ 1200
grant_bytes t k d s version value h v =
    let l1 = length_both ((k ++ u8_bytes d) ++ u64_bytes version) (held_bytes value) in
    let l2 = length_both (k ++ u8_bytes d) (u64_bytes version) in
    let l3 = length_both k (u8_bytes d) in
    let n : length (u64_bytes version) ≡ 8 = refl in
    omega (arith, h, v, l1, l2, l3, n)

-- all of a read
pub read_bytes : (n q t : ℕ) (k : List ℕ) (s version : ℕ) (value : Option (List ℕ)) → n ≤ 7 → length k ≤ 64 → length (held_bytes value) ≤ 1027
    → bytes_of
    (each n (λ d. record { from = client_of t; to = shard_server d s; msg = ReadAsk t k } ∷ [])
    ++ (each n (λ d. record { from = shard_server d s; to = client_of t; msg = Granted t k d version value } ∷ [])
    ++ (each n (λ d. if nat_le d q then [] else record { from = client_of t; to = shard_server d s; msg = ReadCancel t k } ∷ []) ++ []))) ≤ 9800
read_bytes n q t k s version value few h v =
    let asks = each n (λ d. record { from = client_of t; to = shard_server d s; msg = ReadAsk t k } ∷ []) in
    let grants = each n (λ d. record { from = shard_server d s; to = client_of t; msg = Granted t k d version value } ∷ []) in
    let cancels = each n (λ d. if nat_le d q then [] else record { from = client_of t; to = shard_server d s; msg = ReadCancel t k } ∷ []) in
    let a = light_some 100 n 7 asks few (light_each 100 n _ (λ d. (ask_bytes t k d s h, tt))) (length_ones n _) in
    let g = light_some 1200 n 7 grants few (light_each 1200 n _ (λ d. (grant_bytes t k d s version value h v, tt))) (length_ones n _) in
    let c = light_some 100 (n - q) 7 cancels (omega (arith, few)) (light_each 100 n _ (λ d. light_unless 100 (nat_le d q) _ (cancel_bytes t k d s h))) (length_rest q n _) in
    let l1 = bytes_both asks (grants ++ (cancels ++ [])) in
    let l2 = bytes_both grants (cancels ++ []) in
    let l3 = bytes_both cancels [] in
    omega (arith, a, g, c, l1, l2, l3)

-- COMMITS
pub part_bytes : (c : Layout) (s : ℕ) (body : List Entry) → length (body_bytes (part c s body)) ≤ length (body_bytes body)
part_bytes c s body = let h = go body in omega (arith, h)
  where
    go : (es : List Entry) → length (flat_map entry_bytes (part c s es)) ≤ length (flat_map entry_bytes es)
    go [] = omega arith
    go (e ∷ es) = by (shard_of c e.key == s) (go es)
      where
        by : (v : Bool) → length (flat_map entry_bytes (part c s es)) ≤ length (flat_map entry_bytes es)
            → length (flat_map entry_bytes (cond v (e ∷ part c s es) (part c s es))) ≤ length (entry_bytes e ++ flat_map entry_bytes es)
        by true h = let a = length_both (entry_bytes e) (flat_map entry_bytes (part c s es)) in let b = length_both (entry_bytes e) (flat_map entry_bytes es) in omega (arith, h, a, b)
        by false h = let b = length_both (entry_bytes e) (flat_map entry_bytes es) in omega (arith, h, b)

module _ (t : ℕ) (body : List Entry) (d : ℕ) where
  pub propose_bytes : length (envelope_bytes (record { from = client_of t; to = coordinator d; msg = Propose t 0 (Commit body) })) ≤ length (body_bytes body) + 30
  propose_bytes = omega arith

  pub vote_bytes : (e : ℕ) → length (envelope_bytes (record { from = coordinator d; to = coordinator e; msg = Voted t 0 d (Commit body) })) ≤ length (body_bytes body) + 30
  vote_bytes e = omega arith

  pub told_bytes : length (envelope_bytes (record { from = coordinator d; to = client_of t; msg = Voted t 0 d (Commit body) })) ≤ length (body_bytes body) + 30
  told_bytes = omega arith

  pub prepared_bytes : (s : ℕ) → length (envelope_bytes (record { from = shard_server d s; to = coordinator d; msg = Prepared t s None })) ≤ length (body_bytes body) + 30
  prepared_bytes s = omega arith

  pub prepare_bytes : (c : Layout) (s : ℕ) → length (envelope_bytes (record { from = coordinator d; to = shard_server d s; msg = Prepare t (part c s body) })) ≤ length (body_bytes body) + 30
  prepare_bytes c s = let p = part_bytes c s body in omega (arith, p)

  pub finish_bytes : (c : Layout) (s : ℕ) → length (envelope_bytes (record { from = coordinator d; to = shard_server d s; msg = Finish t (Commit (part c s body)) })) ≤ length (body_bytes body) + 30
  finish_bytes c s = let p = part_bytes c s body in omega (arith, p)

-- messages es, and then others that are light
pub weigh : (es now rest : List Envelope) (n w : ℕ) → length ((es ++ now) ++ rest) ≡ length es + n → Light w now → Light w rest → bytes_of ((es ++ now) ++ rest) ≤ bytes_of es + n * w
weigh es now rest n w total f g =
    let a = light_bytes w now f in
    let b = light_bytes w rest g in
    let l = length_both (es ++ now) rest in
    let l2 = length_both es now in
    let k : n ≡ length now + length rest = omega (arith, total, l, l2) in
    let z : n * w ≡ length now * w + length rest * w = ap (λ (x : ℕ). x * w) k ∙ grind (arith) in
    let c = bytes_both (es ++ now) rest in
    let c2 = bytes_both es now in
    omega (arith, a, b, z, c, c2)

pub light_none : (w : ℕ) (es : List Envelope) → Light w es → Light w (es ++ [])
light_none w es f = light_both w es [] f tt
