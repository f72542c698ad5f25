-- The least ballot of a datacentre above another.
use Rattle.std.proofs.Common.{◌≡◌, ◌≢◌, ℕ, ◌+◌, ◌-◌, ◌%◌, ◌<◌, ◌≤◌, true, ⊎_elim, sym, ◌∙◌, ap, arith}
use Rattle.std.proofs.Math.Nat.{add-mod-mod, mod-add-mod, add-mod_right, mod-eq_of_lt, mod-eq-sub-mod, mod-lt}
use Rattle.std.proofs.lemmas.Bool.{cases_lt}
use Rattle.rc_ids.specs.Cluster.{Layout, IsLayout, is_dc, next_number}
use Rattle.rc_ids.specs.Ballots.{IsLeastBallot}
use Rattle.rc_ids.proofs.LayoutFacts.{dc_count_range}

-- going on from a to the next number of rest r reaches that rest
reaches : (n a r : ℕ) → 0 < n → r < n → (a + (r + (n - a % n)) % n) % n ≡ r
reaches n a r some lt =
    let below : a % n < n = mod-lt a some in
    let whole : a % n + (r + (n - a % n)) ≡ r + n = omega arith in
    add-mod-mod a (r + (n - a % n)) n
    ∙ sym (mod-add-mod a n (r + (n - a % n)))
    ∙ ap (λ (x : ℕ). x % n) whole
    ∙ add-mod_right r n
    ∙ mod-eq_of_lt lt

-- a step of less than n changes the rest
moves : (n e m : ℕ) → e < n → 0 < m → m < n → (e + m) % n ≡ e → ⊥
moves n e m lt some few same =
    ⊎_elim
    (λ (in_range : e + m < n). let v = mod-eq_of_lt in_range in absurd (omega arith))
    (λ (past : n ≤ e + m).
    let v = mod-eq-sub-mod past in
    let low : e + m - n < n = omega arith in
    let u = mod-eq_of_lt low in absurd (omega arith))
    (cases_lt (e + m) n)

-- no number on the way has that rest
first_reach : (n a r j : ℕ) → 0 < n → r < n → j < (r + (n - a % n)) % n → (a + j) % n ≡ r → ⊥
first_reach n a r j some lt before same =
    let k : ℕ = (r + (n - a % n)) % n in
    let small : k < n = mod-lt (r + (n - a % n)) some in
    let there : (a + k) % n ≡ r = reaches n a r some lt in
    let way : (a + j) + (k - j) ≡ a + k = omega arith in
    let moved : ((a + j) % n + (k - j)) % n ≡ r =
    mod-add-mod (a + j) n (k - j) ∙ ap (λ (x : ℕ). x % n) way ∙ there in
    let again : (r + (k - j)) % n ≡ r = ap (λ (x : ℕ). (x + (k - j)) % n) (sym same) ∙ moved in
    moves n r (k - j) lt (omega arith) (omega arith) again

-- the next number is the least ballot of d above, for any number of datacentres
least : (n d above : ℕ) → 0 < n → 1 ≤ d → d ≤ n
    → (above < above + 1 + (d - 1 + (n - above % n)) % n)
    × ((above + 1 + (d - 1 + (n - above % n)) % n - 1) % n + 1 ≡ d)
    × ((k : ℕ) → above < k → k < above + 1 + (d - 1 + (n - above % n)) % n → (k - 1) % n + 1 ≢ d)
least n d above some low high =
    (omega arith, own, others)
  where
    own : (above + 1 + (d - 1 + (n - above % n)) % n - 1) % n + 1 ≡ d
    own =
        let there = reaches n above (d - 1) some (omega arith) in
        let before : above + 1 + (d - 1 + (n - above % n)) % n - 1 ≡ above + (d - 1 + (n - above % n)) % n = omega arith in
        let rest : (above + 1 + (d - 1 + (n - above % n)) % n - 1) % n ≡ d - 1 = ap (λ (x : ℕ). x % n) before ∙ there in
        omega (arith, rest)

    others : (k : ℕ) → above < k → k < above + 1 + (d - 1 + (n - above % n)) % n → (k - 1) % n + 1 ≢ d
    others k after before same =
        let at : above + (k - 1 - above) ≡ k - 1 = omega arith in
        let rest : (above + (k - 1 - above)) % n ≡ d - 1 = ap (λ (x : ℕ). x % n) at ∙ omega arith in
        first_reach n above (d - 1) (k - 1 - above) some (omega arith) (omega arith) rest

dc_range : (c : Layout) (d : ℕ) → is_dc c d ≡ true → (1 ≤ d) × (d ≤ c.dcs)
dc_range c d is = (grind arith, grind arith)

-- the next number is the least ballot of d above
pub next_is_least : (c : Layout) (d above : ℕ) → IsLayout c → is_dc c d ≡ true
    → IsLeastBallot c d above (next_number c d above)
next_is_least c d above h dc =
    let range = dc_range c d dc in
    let some = dc_count_range c.dcs h.dcs in
    let e = least c.dcs d above some.0 range.0 range.1 in
    record { above = e.0; own = e.1; least = e.2 }
