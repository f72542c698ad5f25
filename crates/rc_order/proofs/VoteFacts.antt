-- The votes that are kept, against the logs that grow.
use Rattle.std.proofs.Common.{◌≡◌, ℕ, ◌-◌, ◌≤◌, ◌≢◌, Bool, true, false, ◌||◌, ◌&&◌, cond, List, [], ◌∷◌, refl, sym, ap, subst, ◌∙◌, arith, Option, Some, None, nat_eq}
use Rattle.std.specs.Prelude.{slice_get, slice_set, IsTrue, if◌then◌else◌}
use Rattle.std.specs.Ordering.{nat_cmp, is_eq}
use Rattle.std.specs.List.{list_any}
use Rattle.std.specs.Map.{lookup}
use Rattle.std.proofs.lemmas.List.Folds.{list_any-append}
use Rattle.indexmap.specs.IndexMap.{insert_entry}
use Rattle.rc_ids.specs.Tables.{member, added, maybe}
use Rattle.rc_ids.specs.Cluster.{Layout, is_dc}
use Rattle.rc_ids.specs.declared.names.Outcome.{Outcome}
use Rattle.rc_ids.specs.declared.names.Outcome.TheVariants.{Commit as Committed}
use Rattle.rc_body.specs.declared.decision.Decision.TheVariants.{Commit, Abort}
use Rattle.rc_record.specs.declared.record.Record.{Record}
use Rattle.rc_record.specs.declared.record.Record.TheVariants.{Head, Prepared, Finished, Promised, Accepted, Decided}
use Rattle.rc_protocol.specs.Nodes.{CoordNode, coord_index, is_vote}
use Rattle.rc_runs.specs.Votes.{has_voted}
use Rattle.rc_order.specs.Orders.{Race, same_race, Votes, Order, voters_at, with_new_vote, with_vote, vote_of, with_record}
use Rattle.rc_order.specs.Counts.{AreCounted, HasWritten, HaveEmptyLogs, CountLaws, log_at}
use Rattle.rc_order.proofs.ListFacts.{member-added, get_written, get_unwritten}

-- RACES
races_agree : (x y z : Race) → same_race x y ≡ true → same_race x z ≡ same_race y z
races_agree x y z same =
    let first : x.0 ≡ y.0 = grind arith in
    let second : x.1 ≡ y.1 = grind arith in
    ap (λ (n : ℕ). nat_eq n z.0 && nat_eq x.1 z.1) first ∙ ap (λ (n : ℕ). nat_eq y.0 z.0 && nat_eq n z.1) second

turned : (x y : Race) → same_race x y ≡ same_race y x
turned x y =
    let first : nat_eq x.0 y.0 ≡ nat_eq y.0 x.0 = grind arith in
    let second : nat_eq x.1 y.1 ≡ nat_eq y.1 x.1 = grind arith in
    ap (λ b. b && nat_eq x.1 y.1) first ∙ ap (λ b. nat_eq y.0 x.0 && b) second

-- what is put at a race is found there, and all else as before
found_put : (votes : Votes) (k : Race) (v : List ℕ) (q : Race)
    → lookup (same_race q) (insert_entry same_race votes k v) ≡ cond (same_race k q) (Some v) (lookup (same_race q) votes)
found_put [] k v q = ap (λ b. cond b (Some v) None) (turned q k)
found_put (e ∷ es) k v q = go (same_race k e.0) refl (same_race q e.0) refl (found_put es k v q)
  where
    go : (b : Bool) → same_race k e.0 ≡ b → (h : Bool) → same_race q e.0 ≡ h
        → lookup (same_race q) (insert_entry same_race es k v) ≡ cond (same_race k q) (Some v) (lookup (same_race q) es)
        → lookup (same_race q) (cond b ((e.0, v) ∷ es) (e ∷ insert_entry same_race es k v))
        ≡ cond (same_race k q) (Some v) (cond (same_race q e.0) (Some e.1) (lookup (same_race q) es))
    go true is h here rest =
        let one : same_race k q ≡ same_race q e.0 = races_agree k e.0 q is ∙ turned e.0 q in
        ap (λ b. cond b (Some v) (lookup (same_race q) es)) here
        ∙ both h
        ∙ ap (λ b. cond b (Some v) (cond h (Some e.1) (lookup (same_race q) es))) (sym (one ∙ here))
        ∙ ap (λ b. cond (same_race k q) (Some v) (cond b (Some e.1) (lookup (same_race q) es))) (sym here)
      where
        both : (b : Bool) → cond b (Some v) (lookup (same_race q) es) ≡ cond b (Some v) (cond b (Some e.1) (lookup (same_race q) es))
        both true = refl
        both false = refl
    go false is true here rest =
        let apart : same_race k q ≡ false = turned k q ∙ races_agree q e.0 k here ∙ turned e.0 k ∙ is in
        ap (λ b. cond b (Some e.1) (lookup (same_race q) (insert_entry same_race es k v))) here
        ∙ sym (ap (λ b. cond b (Some v) (cond (same_race q e.0) (Some e.1) (lookup (same_race q) es))) apart ∙ ap (λ b. cond b (Some e.1) (lookup (same_race q) es)) here)
    go false is false here rest =
        ap (λ b. cond b (Some e.1) (lookup (same_race q) (insert_entry same_race es k v))) here
        ∙ rest
        ∙ sym (ap (λ b. cond (same_race k q) (Some v) (cond b (Some e.1) (lookup (same_race q) es))) here)

-- who is counted once a new vote is
counted_new : (votes : Votes) (d t b u a e : ℕ)
    → member nat_cmp (voters_at (with_new_vote votes d t b) u a) e ≡ ((same_race (t, b) (u, a) && is_eq (nat_cmp e d)) || member nat_cmp (voters_at votes u a) e)
counted_new votes d t b u a e =
    ap (λ (o : Option (List ℕ)). member nat_cmp (maybe o [] (λ x. x)) e) (found_put votes (t, b) (added nat_cmp (voters_at votes t b) d) (u, a))
    ∙ go (same_race (t, b) (u, a)) refl
  where
    go : (s : Bool) → same_race (t, b) (u, a) ≡ s
        → member nat_cmp (maybe (cond s (Some (added nat_cmp (voters_at votes t b) d)) (lookup (same_race (u, a)) votes)) [] (λ x. x)) e
        ≡ ((s && is_eq (nat_cmp e d)) || member nat_cmp (voters_at votes u a) e)
    go true is =
        let first : t ≡ u = grind arith in
        let second : b ≡ a = grind arith in
        member-added (voters_at votes t b) d e
        ∙ ap (λ (n : ℕ). is_eq (nat_cmp e d) || member nat_cmp (voters_at votes n b) e) first
        ∙ ap (λ (n : ℕ). is_eq (nat_cmp e d) || member nat_cmp (voters_at votes u n) e) second
    go false is = refl

-- who is counted once a vote is
pub counted_put : (votes : Votes) (d t b u a e : ℕ)
    → member nat_cmp (voters_at (with_vote votes d t b) u a) e ≡ ((same_race (t, b) (u, a) && is_eq (nat_cmp e d)) || member nat_cmp (voters_at votes u a) e)
counted_put votes d t b u a e = go (member nat_cmp (voters_at votes t b) d) refl
  where
    already : (s q : Bool) → same_race (t, b) (u, a) ≡ s → is_eq (nat_cmp e d) ≡ q → member nat_cmp (voters_at votes t b) d ≡ true
        → member nat_cmp (voters_at votes u a) e ≡ ((s && q) || member nat_cmp (voters_at votes u a) e)
    already true true is here there =
        let first : u ≡ t = grind arith in
        let second : a ≡ b = grind arith in
        let same : e ≡ d = grind arith in
        ap (λ (n : ℕ). member nat_cmp (voters_at votes n a) e) first
        ∙ ap (λ (n : ℕ). member nat_cmp (voters_at votes t n) e) second
        ∙ ap (λ (n : ℕ). member nat_cmp (voters_at votes t b) n) same
        ∙ there
    already true false is here there = refl
    already false q is here there = refl

    go : (m : Bool) → member nat_cmp (voters_at votes t b) d ≡ m
        → member nat_cmp (voters_at (if m then votes else with_new_vote votes d t b) u a) e
        ≡ ((same_race (t, b) (u, a) && is_eq (nat_cmp e d)) || member nat_cmp (voters_at votes u a) e)
    go true there = already (same_race (t, b) (u, a)) (is_eq (nat_cmp e d)) refl refl there
    go false there = counted_new votes d t b u a e

-- THE LOGS
-- what a record counts for
pub vote_is : (r : Record) (t b : ℕ) → is_vote Committed t b r ≡ maybe (vote_of r) false (λ v. same_race v (t, b))
vote_is (Accepted u a (Commit body)) t b = refl
vote_is (Accepted u a Abort) t b = refl
vote_is (Head h) t b = refl
vote_is (Prepared u part) t b = refl
vote_is (Finished page) t b = refl
vote_is (Promised u a) t b = refl
vote_is (Decided page) t b = refl

-- the vote is in the log of d once it is written there, and all other logs stay
voted_then : (coords now : List CoordNode) (d e : ℕ) (r : Record) (o : Outcome) (u a : ℕ) → 1 ≤ d → 1 ≤ e → HasWritten coords d r now
    → has_voted now o u a e ≡ cond (is_eq (nat_cmp e d)) (has_voted coords o u a e || is_vote o u a r) (has_voted coords o u a e)
voted_then coords now d e r o u a low some w = go (is_eq (nat_cmp e d)) refl
  where
    seen : Option CoordNode → Bool
    seen x = maybe x false (λ y. list_any (is_vote o u a) y.log)

    right : (b v : Bool) → (b || (v || false)) ≡ (b || v)
    right true v = refl
    right false true = refl
    right false false = refl

    go : (s : Bool) → is_eq (nat_cmp e d) ≡ s
        → has_voted now o u a e ≡ cond s (has_voted coords o u a e || is_vote o u a r) (has_voted coords o u a e)
    go true is =
        let same : e ≡ d = grind arith in
        ap (λ (xs : List CoordNode). has_voted xs o u a e) w.is
        ∙ ap (λ (n : ℕ). has_voted (slice_set coords (coord_index d) w.after) o u a n) same
        ∙ ap (λ (x : Option CoordNode). maybe x false (λ y. list_any (is_vote o u a) y.log)) (get_written coords (coord_index d) w.before w.after w.was)
        ∙ ap (list_any (is_vote o u a)) w.log
        ∙ list_any-append (is_vote o u a) w.before.log (r ∷ [])
        ∙ right (list_any (is_vote o u a) w.before.log) (is_vote o u a r)
        ∙ ap (λ (x : Option CoordNode). maybe x false (λ y. list_any (is_vote o u a) y.log) || is_vote o u a r) (sym w.was)
        ∙ ap (λ (n : ℕ). has_voted coords o u a n || is_vote o u a r) (sym same)
    go false is =
        let other : e ≢ d = grind arith in
        let apart : coord_index e ≢ coord_index d = λ (same : e - 1 ≡ d - 1). other (omega arith) in
        ap (λ (xs : List CoordNode). has_voted xs o u a e) w.is
        ∙ ap (λ (x : Option CoordNode). maybe x false (λ y. list_any (is_vote o u a) y.log)) (get_unwritten coords (coord_index d) (coord_index e) w.after apart)

dc_low : (c : Layout) (d : ℕ) → is_dc c d ≡ true → 1 ≤ d
dc_low c d is = grind arith

-- A RECORD MORE
joined : (p q m h : Bool) → m ≡ h → ((p && q) || m) ≡ cond q (h || p) h
joined true true m true same = refl
joined true true m false same = refl
joined true false m h same = same
joined false true m true same = same
joined false true m false same = same
joined false false m h same = same

kept_by : (q h : Bool) → h ≡ cond q (h || false) h
kept_by true true = refl
kept_by true false = refl
kept_by false h = refl

counted_more : (c : Layout) (coords now : List CoordNode) (o p : Order) (d : ℕ) (r : Record) (v : Option Race) → vote_of r ≡ v
    → p.votes ≡ maybe v o.votes (λ (x : Race). with_vote o.votes d x.0 x.1)
    → AreCounted c coords o → is_dc c d ≡ true → HasWritten coords d r now → AreCounted c now p
counted_more c coords now o p d r None none votes h dc w = record {
  within = λ t b e is. h.within t b e (subst (λ (vs : Votes). member nat_cmp (voters_at vs t b) e ≡ true) votes is);
  each = λ t b e is.
      ap (λ (vs : Votes). member nat_cmp (voters_at vs t b) e) votes
      ∙ h.each t b e is
      ∙ kept_by (is_eq (nat_cmp e d)) (has_voted coords Committed t b e)
      ∙ sym (voted_then coords now d e r Committed t b (dc_low c d dc) (dc_low c e is) w
      ∙ ap (λ x. cond (is_eq (nat_cmp e d)) (has_voted coords Committed t b e || x) (has_voted coords Committed t b e))
      (vote_is r t b ∙ ap (λ (x : Option Race). maybe x false (λ y. same_race y (t, b))) none));
}
counted_more c coords now o p d r (Some x) some votes h dc w = record {
  within = λ t b e is. found t b e (same_race x (t, b) && is_eq (nat_cmp e d)) refl
      (sym (counted_put o.votes d x.0 x.1 t b e) ∙ subst (λ (vs : Votes). member nat_cmp (voters_at vs t b) e ≡ true) votes is);
  each = λ t b e is.
      ap (λ (vs : Votes). member nat_cmp (voters_at vs t b) e) votes
      ∙ counted_put o.votes d x.0 x.1 t b e
      ∙ joined (same_race x (t, b)) (is_eq (nat_cmp e d)) _ _ (h.each t b e is)
      ∙ sym (voted_then coords now d e r Committed t b (dc_low c d dc) (dc_low c e is) w
      ∙ ap (λ y. cond (is_eq (nat_cmp e d)) (has_voted coords Committed t b e || y) (has_voted coords Committed t b e))
      (vote_is r t b ∙ ap (λ (y : Option Race). maybe y false (λ z. same_race z (t, b))) some));
}
  where
    found : (t b e : ℕ) (s : Bool) → (same_race x (t, b) && is_eq (nat_cmp e d)) ≡ s → (s || member nat_cmp (voters_at o.votes t b) e) ≡ true → is_dc c e ≡ true
    found t b e true both is = let same : e ≡ d = grind arith in subst (λ (n : ℕ). is_dc c n ≡ true) (sym same) dc
    found t b e false both is = h.within t b e is

pub counts : (c : Layout) (coords now : List CoordNode) (o p : Order) (d : ℕ) (r : Record)
    → p.votes ≡ with_record o.votes d r → AreCounted c coords o → IsTrue (is_dc c d) → HasWritten coords d r now → AreCounted c now p
counts c coords now o p d r votes h dc w = counted_more c coords now o p d r (vote_of r) refl votes h dc w

-- WHAT KEEPS THE VOTES COUNTED
pub counted_same : (c : Layout) (coords : List CoordNode) (o p : Order) → p.votes ≡ o.votes → AreCounted c coords o → AreCounted c coords p
counted_same c coords o p votes h = record {
  within = λ t b e is. h.within t b e (subst (λ (vs : Votes). member nat_cmp (voters_at vs t b) e ≡ true) votes is);
  each = λ t b e is. ap (λ (vs : Votes). member nat_cmp (voters_at vs t b) e) votes ∙ h.each t b e is;
}

voted_at : (o : Outcome) (t b : ℕ) (x : Option CoordNode) → maybe x false (λ y. list_any (is_vote o t b) y.log) ≡ list_any (is_vote o t b) (maybe x [] (λ y. y.log))
voted_at o t b None = refl
voted_at o t b (Some x) = refl

pub logs_stay : (c : Layout) (coords now : List CoordNode) (o : Order) → ((place : ℕ) → log_at now place ≡ log_at coords place) → AreCounted c coords o → AreCounted c now o
logs_stay c coords now o same h = record {
  within = h.within;
  each = λ t b e is.
      h.each t b e is
      ∙ voted_at Committed t b (slice_get coords (coord_index e))
      ∙ ap (list_any (is_vote Committed t b)) (sym (same (coord_index e)))
      ∙ sym (voted_at Committed t b (slice_get now (coord_index e)));
}

pub count_laws : (c : Layout) (coords now : List CoordNode) (o : Order) → CountLaws c coords now o
count_laws c coords now o = record {
  stay = logs_stay c coords now o;
  other = λ d r none dc w h. counted_more c coords now o o d r None none refl h dc w;
  same = λ p votes h. counted_same c coords o p votes h;
}

-- at first there are no votes
pub none_counted : (c : Layout) (coords : List CoordNode) (o : Order) → o.votes ≡ [] → HaveEmptyLogs coords → AreCounted c coords o
none_counted c coords o votes empty = record {
  within = λ t b e is. let no_vote : false ≡ true = subst (λ (vs : Votes). member nat_cmp (voters_at vs t b) e ≡ true) votes is in absurd cc;
  each = λ t b e is. ap (λ (vs : Votes). member nat_cmp (voters_at vs t b) e) votes ∙ sym (nobody t b (slice_get coords (coord_index e)) (coord_index e, refl));
}
  where
    nobody : (t b : ℕ) (x : Option CoordNode) → (place : ℕ) × (slice_get coords place ≡ x) → maybe x false (λ y. list_any (is_vote Committed t b) y.log) ≡ false
    nobody t b None at = refl
    nobody t b (Some x) at = ap (list_any (is_vote Committed t b)) (empty at.0 x at.1)
