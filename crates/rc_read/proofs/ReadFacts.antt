-- A read as it is kept is the read of the client's rows.
use Rattle.std.proofs.Common.{◌≡◌, ℕ, suc, ◌+◌, ◌-◌, ◌*◌, ◌≤◌, Bool, true, false, cond, not, ◌&&◌, List, [], ◌∷◌, ◌++◌, length, filter, Option, Some, None, refl, sym, ap, ◌∙◌, arith}
use Rattle.std.specs.Prelude.{nat_lt, nat_le, sum}
use Rattle.std.specs.Ordering.{nat_cmp}
use Rattle.rc_ids.specs.Tables.{member, added, maybe, up_to}
use Rattle.rc_ids.specs.Cluster.{Layout, IsLayout, all_dcs, holds, weight_from, are_weights, is_dc_count}
use Rattle.rc_protocol.specs.Client.{Grant, granted_by, best_grant}
use Rattle.rc_read.specs.declared.state.ReadDone.{ReadDone}
use Rattle.rc_read.specs.Reads.{Reading, IsRead, read_of, counts, with_grant, shown, ended, after_offer, answer_to, better, best_of, done_by, rest_of}
use Rattle.rc_read.proofs.GrantFacts.{granted_more, best_more, best_is}
use Rattle.rc_read.proofs.LeftFacts.{bounded}

no_weight : (d : ℕ) (ws : List ℕ) → weight_from d ws [] ≡ 0
no_weight d [] = refl
no_weight d (w ∷ ws) =
    let none : 0 + weight_from (suc d) ws [] ≡ 0 = omega (arith, no_weight (suc d) ws) in none

not_below : (n : ℕ) → nat_lt n 0 ≡ false
not_below n = grind arith

-- nobody is no quorum
pub none_holds : (ws : List ℕ) → holds ws [] ≡ false
none_holds ws = ap (λ (n : ℕ). nat_lt (sum ws) (2 * n)) (no_weight 1 ws) ∙ not_below (sum ws)

-- a read, where the best grant is this one until it is done
abbrev made : List ℕ → List ℕ → Option Grant → Reading
made ws set best = record { weights = ws; offered = set; best = cond (holds ws set) None best }

-- what is given, where these granted and this is the best
abbrev given : List ℕ → List ℕ → ℕ × Option (List ℕ) → Option ReadDone
given ws set best = cond (holds ws set) (Some (record { version = best.0; value = best.1; from = set })) None

not_first : (h m : Bool) → (not h && not m) ≡ true → h ≡ false
not_first true m is = sym is
not_first false m is = refl

first : (ws : List ℕ) → record { weights = ws; offered = []; best = None } ≡ read_of ws []
first ws = ap (λ b. record { weights = ws; offered = []; best = cond b None None }) (sym (none_holds ws))

more : (ws : List ℕ) (gs : List Grant) (g : Grant) → counts (read_of ws gs) g.dc ≡ true
    → after_offer (read_of ws gs) g ≡ read_of ws (gs ++ g ∷ [])
more ws gs g counted =
    let under : holds ws (granted_by gs) ≡ false = not_first (holds ws (granted_by gs)) (member nat_cmp (granted_by gs) g.dc) counted in
    ap (λ b. cond b (shown (with_grant (read_of ws gs) g)) (read_of ws gs)) counted
    ∙ ap (λ b. made ws (added nat_cmp (granted_by gs) g.dc) (Some (better (cond b None (best_of gs)) g))) under
    ∙ ap (λ best. made ws (added nat_cmp (granted_by gs) g.dc) best) (sym (best_more gs g))
    ∙ ap (λ set. made ws set (best_of (gs ++ g ∷ []))) (sym (granted_more gs g))

-- the best of the rows, of a grant more
best_then : (gs : List Grant) (g : Grant) → ((better (best_of gs) g).version, (better (best_of gs) g).value) ≡ best_grant (gs ++ g ∷ [])
best_then gs g =
    sym (ap (λ (o : Option Grant). maybe o (0, None) (λ (b : Grant). (b.version, b.value))) (best_more gs g)) ∙ best_is (gs ++ g ∷ [])

gives : (ws : List ℕ) (gs : List Grant) (g : Grant) → counts (read_of ws gs) g.dc ≡ true
    → answer_to (read_of ws gs) g ≡ cond (holds ws (granted_by (gs ++ g ∷ []))) (Some (done_by (gs ++ g ∷ []))) None
gives ws gs g counted =
    let under : holds ws (granted_by gs) ≡ false = not_first (holds ws (granted_by gs)) (member nat_cmp (granted_by gs) g.dc) counted in
    ap (λ b. cond b (ended (with_grant (read_of ws gs) g)) None) counted
    ∙ ap (λ b. given ws (added nat_cmp (granted_by gs) g.dc) ((better (cond b None (best_of gs)) g).version, (better (cond b None (best_of gs)) g).value)) under
    ∙ ap (λ best. given ws (added nat_cmp (granted_by gs) g.dc) best) (best_then gs g)
    ∙ ap (λ set. given ws set (best_grant (gs ++ g ∷ []))) (sym (granted_more gs g))

best : (ws : List ℕ) (gs : List Grant) → holds ws (granted_by gs) ≡ false
    → maybe (read_of ws gs).best (0, None) (λ (b : Grant). (b.version, b.value)) ≡ best_grant gs
best ws gs under =
    ap (λ v. maybe (cond v None (best_of gs)) (0, None) (λ (b : Grant). (b.version, b.value))) under ∙ best_is gs

one_each : (n : ℕ) (ws : List ℕ) → are_weights n ws ≡ true → length ws ≡ n
one_each n ws is = grind arith

at_most_seven : (n : ℕ) → is_dc_count n ≡ true → n ≤ 7
at_most_seven n is = grind arith

rest_at : (c : Layout) (p : ℕ → Bool) → IsLayout c → filter (λ d. nat_le d (length c.weights) && p d) (up_to 7) ≡ filter p (up_to c.dcs)
rest_at c p h =
    let few : c.dcs ≤ 7 = at_most_seven c.dcs h.dcs in
    let whole : 7 ≡ (7 - c.dcs) + c.dcs = omega (arith, few) in
    ap (λ (n : ℕ). filter (λ d. nat_le d n && p d) (up_to 7)) (one_each c.dcs c.weights h.weights)
    ∙ ap (λ (n : ℕ). filter (λ d. nat_le d c.dcs && p d) (up_to n)) whole
    ∙ bounded p c.dcs (7 - c.dcs)

rest : (ws : List ℕ) (c : Layout) (gs : List Grant) → IsLayout c → c.weights ≡ ws
    → rest_of (read_of ws gs) ≡ filter (λ d. not (member nat_cmp (granted_by gs) d)) (all_dcs c)
rest ws c gs h is =
    let p : ℕ → Bool = λ d. not (member nat_cmp (granted_by gs) d) in
    ap (λ (us : List ℕ). filter (λ d. nat_le d (length us) && p d) (up_to 7)) (sym is) ∙ rest_at c p h

pub is_read : (ws : List ℕ) → IsRead ws
is_read ws = record {
  first = first ws;
  waits = λ gs d. refl;
  more = λ gs g counted. more ws gs g counted;
  gives = λ gs g counted. gives ws gs g counted;
  best = λ gs under. best ws gs under;
  rest = λ c gs h is. rest ws c gs h is;
}
