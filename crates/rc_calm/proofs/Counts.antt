-- The deliveries of a commit as the one map counts them.
use Rattle.std.proofs.Common.{◌≡◌, ℕ, suc, ◌+◌, ◌-◌, ◌*◌, List, [], ◌∷◌, refl, sym, ap, ◌∙◌, arith, Bool, true, false, cond, inl, inr}
use Rattle.std.specs.Prelude.{length, if◌then◌else◌, ◌&&◌, not, is_some, count_by}
use Rattle.std.proofs.lemmas.List.Sums.{sum_by-cons}
use Rattle.rc_ids.specs.Tables.{In, added}
use Rattle.rc_ids.specs.Texts.{key_cmp}
use Rattle.rc_ids.specs.Cluster.{Layout}
use Rattle.rc_body.specs.Bodies.{touched}
use Rattle.rc_serial.specs.OneMap.{Map}
use Rattle.rc_protocol.specs.Client.{is_unread, unread_keys}
use Rattle.rc_claims.specs.Calm.{Touched, least_quorum, shards_held, commit_deliveries}
use Rattle.rc_calm.proofs.Unreads.{added_length, apart_key}
use Rattle.rc_calm.proofs.Touching.{slot_from, slots_from, read_of, body_from, OnceTouched, slots_once, held_is}

-- each touched key was read or written
abbrev pub Used : List Touched → Type 0
Used xs = (x : Touched) → In x xs → x.is_read ≡ false → is_some x.write ≡ true

abbrev pub unread_count : List Touched → ℕ
unread_count xs = count_by (λ (k : Touched). is_some k.write && not k.is_read) xs

pub unread_is : (m : Map) (xs : List Touched) → OnceTouched xs → Used xs → length (unread_keys (slots_from m xs)) ≡ unread_count xs
unread_is m [] o u = refl
unread_is m (x ∷ xs) o u = go x.is_read refl (unread_is m xs o.1 (λ z i. u z (inr i))) ∙ sym (sum_by-cons (λ (k : Touched). cond (is_some k.write && not k.is_read) 1 0) x xs)
  where
    go : (v : Bool) → x.is_read ≡ v → length (unread_keys (slots_from m xs)) ≡ unread_count xs
        → length (if is_unread (read_of m v x.key) then added key_cmp (unread_keys (slots_from m xs)) x.key else unread_keys (slots_from m xs)) ≡ cond (is_some x.write && not v) 1 0 + unread_count xs
    go true e h = let w = read (is_some x.write) in rw w (h ∙ sym (zero_plus (unread_count xs)))
      where
        read : (w : Bool) → (w && false) ≡ false
        read true = refl
        read false = refl

        zero_plus : (n : ℕ) → 0 + n ≡ n
        zero_plus n = omega arith
    go false e h =
        let w = u x (inl refl) e in
        let l = added_length x.key (unread_keys (slots_from m xs)) (apart_key (slot_from m x) (slots_from m xs) (slots_once m (x ∷ xs) o)) in
        let k : suc (unread_count xs) ≡ 1 + unread_count xs = omega arith in
        rw w (l ∙ (ap suc h ∙ k))

-- what a whole commit takes
pub commit_takes : (c : Layout) (m : Map) (xs : List Touched) → OnceTouched xs → Used xs
    → length (unread_keys (slots_from m xs)) * (3 * c.dcs - least_quorum c) + (c.dcs + 3 * length (touched c (body_from m xs)) * c.dcs + c.dcs * (c.dcs + 1)) ≡ commit_deliveries c xs
commit_takes c m xs o u =
    let a = unread_is m xs o u in
    let h = held_is m c xs in
    let e : length (unread_keys (slots_from m xs)) * (3 * c.dcs - least_quorum c) ≡ unread_count xs * (3 * c.dcs - least_quorum c) = ap (λ (n : ℕ). n * (3 * c.dcs - least_quorum c)) a in
    let f : 3 * length (touched c (body_from m xs)) * c.dcs ≡ 3 * shards_held c xs * c.dcs = ap (λ (n : ℕ). 3 * n * c.dcs) h in
    omega (arith, e, f)
