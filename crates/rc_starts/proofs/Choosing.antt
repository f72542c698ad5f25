-- What the votes in logs choose is listed at the start, with the body of its votes and nothing else.
use Rattle.std.proofs.Common.{◌≡◌, ℕ, zero, suc, List, [], ◌∷◌, ◌++◌, refl, sym, ap, ◌∙◌, subst, Bool, true, false, cond, Option, Some, None, ◌⊎◌, inl, inr, ⊎_elim}
use Rattle.std.specs.Prelude.{map, slice_get, option_map, ◌==◌}
use Rattle.std.specs.List.{list_any}
use Rattle.std.specs.Ordering.{nat_cmp}
use Rattle.std.proofs.lemmas.Option.{slice_get-map}
use Rattle.std.proofs.lemmas.Bool.{eq-eqb}
use Rattle.rc_ids.specs.Tables.{In, added, maybe}
use Rattle.rc_ids.specs.Cluster.{Layout, is_quorum}
use Rattle.rc_ids.specs.declared.names.Outcome.{Outcome}
use Rattle.rc_ids.specs.declared.names.Outcome.TheVariants.{Commit as Committed}
use Rattle.rc_body.specs.declared.entry.Entry.{Entry}
use Rattle.rc_body.specs.declared.decision.Decision.TheVariants.{Commit, Abort}
use Rattle.rc_record.specs.declared.record.Record.{Record}
use Rattle.rc_record.specs.declared.record.Record.TheVariants.{Head, Prepared, Finished, Promised, Accepted, Decided}
use Rattle.rc_protocol.specs.Nodes.{CoordNode, coord_index, is_vote}
use Rattle.rc_runs.specs.Votes.{has_voted, voters, is_chosen_at, is_listed, ordered}
use Rattle.rc_runs.specs.Starts.{with_choices, all_choices}
use Rattle.rc_agreement.proofs.Cases.{on_cond, or_right}
use Rattle.rc_agreement.proofs.Tables.{in_either}
use Rattle.rc_agreement.proofs.Reopened.{open_node}
use Rattle.rc_starts.proofs.Lists.{any_left}

-- VOTES are those of the logs
voted_same : (cs : List CoordNode) (o : Outcome) (t b d : ℕ) → has_voted (map open_node cs) o t b d ≡ has_voted cs o t b d
voted_same cs o t b d =
    ap (λ (x : Option CoordNode). maybe x false (λ y. list_any (is_vote o t b) y.log)) (slice_get-map open_node cs (coord_index d)) ∙ go (slice_get cs (coord_index d))
  where
    go : (x : Option CoordNode) → maybe (option_map open_node x) false (λ y. list_any (is_vote o t b) y.log) ≡ maybe x false (λ y. list_any (is_vote o t b) y.log)
    go None = refl
    go (Some x) = refl

voters_same : (cs : List CoordNode) (o : Outcome) (t b n : ℕ) → voters (map open_node cs) o t b n ≡ voters cs o t b n
voters_same cs o t b zero = refl
voters_same cs o t b (suc n) =
    let h = voters_same cs o t b n in
    let k = voted_same cs o t b (suc n) in
    λ i. cond (k i) (added nat_cmp (h i) (suc n)) (h i)

pub chosen_same : (c : Layout) (cs : List CoordNode) (o : Outcome) (t b : ℕ) → is_chosen_at c (map open_node cs) o t b ≡ is_chosen_at c cs o t b
chosen_same c cs o t b = ap (is_quorum c) (voters_same cs o t b c.dcs)

module _ (c : Layout) (cs : List CoordNode) where
  abbrev with_choice : List (ℕ × List Entry) → Record → List (ℕ × List Entry)
  with_choice listed r = ordered c cs [] listed (Some r)

  -- LISTED stays listed
  one_keeps : (r : Record) (t : ℕ) (listed : List (ℕ × List Entry)) → is_listed listed t ≡ true → is_listed (with_choice listed r) t ≡ true
  one_keeps (Accepted u b (Commit body)) t listed h =
      on_cond (λ (l : List (ℕ × List Entry)). is_listed l t ≡ true) (is_listed listed u) _ _ (λ _. h)
      (λ _. on_cond (λ (l : List (ℕ × List Entry)). is_listed l t ≡ true) (is_chosen_at c cs Committed u b) _ _ (λ _. any_left (λ (x : ℕ × List Entry). x.0 == t) listed ((u, body) ∷ []) h) (λ _. h))
  one_keeps (Accepted u b Abort) t listed h = h
  one_keeps (Promised u b) t listed h = h
  one_keeps (Decided p) t listed h = h
  one_keeps (Head p) t listed h = h
  one_keeps (Prepared u p) t listed h = h
  one_keeps (Finished p) t listed h = h

  log_keeps : (rs : List Record) (t : ℕ) (listed : List (ℕ × List Entry)) → is_listed listed t ≡ true → is_listed (with_choices c cs listed rs) t ≡ true
  log_keeps [] t listed h = h
  log_keeps (r ∷ rs) t listed h = log_keeps rs t (with_choice listed r) (one_keeps r t listed h)

  logs_keep : (xs : List CoordNode) (t : ℕ) (listed : List (ℕ × List Entry)) → is_listed listed t ≡ true → is_listed (all_choices c cs listed xs) t ≡ true
  logs_keep [] t listed h = h
  logs_keep (x ∷ xs) t listed h = logs_keep xs t (with_choices c cs listed x.log) (log_keeps x.log t listed h)

  module _ (t b : ℕ) (body : List Entry) (now : is_chosen_at c cs Committed t b ≡ true) where
    -- the vote is met, and lists it
    new_last : (listed : List (ℕ × List Entry)) → is_listed (listed ++ (t, body) ∷ []) t ≡ true
    new_last [] = let e = eq-eqb t t refl in rw e
    new_last (x ∷ xs) = or_right (x.0 == t) _ (new_last xs)

    one_lists : (listed : List (ℕ × List Entry)) → is_listed (with_choice listed (Accepted t b (Commit body))) t ≡ true
    one_lists listed =
        on_cond (λ (l : List (ℕ × List Entry)). is_listed l t ≡ true) (is_listed listed t) _ _ (λ h. h)
        (λ _. subst (λ (v : Bool). is_listed (cond v (listed ++ (t, body) ∷ []) listed) t ≡ true) (sym now) (new_last listed))

    log_lists : (rs : List Record) (listed : List (ℕ × List Entry)) → In (Accepted t b (Commit body)) rs → is_listed (with_choices c cs listed rs) t ≡ true
    log_lists [] listed i = absurd i
    log_lists (r ∷ rs) listed i =
        ⊎_elim
        (λ (e : r ≡ Accepted t b (Commit body)). log_keeps rs t (with_choice listed r) (subst (λ (q : Record). is_listed (with_choice listed q) t ≡ true) (sym e) (one_lists listed)))
        (λ j. log_lists rs (with_choice listed r) j) i

    pub logs_list : (xs : List CoordNode) (listed : List (ℕ × List Entry)) (x : CoordNode) → In x xs → In (Accepted t b (Commit body)) x.log → is_listed (all_choices c cs listed xs) t ≡ true
    logs_list [] listed x h i = absurd h
    logs_list (y ∷ xs) listed x h i =
        ⊎_elim
        (λ (e : y ≡ x). logs_keep xs t (with_choices c cs listed y.log) (log_lists y.log listed (subst (λ (n : CoordNode). In (Accepted t b (Commit body)) n.log) (sym e) i)))
        (λ j. logs_list xs (with_choices c cs listed y.log) x j i) h

  -- WHAT IS LISTED has a vote in a log, at a ballot at which it is chosen
  pub record Voted (e : ℕ × List Entry) (log : List Record) : Type 0 where
    pub ballot : ℕ
    pub now : is_chosen_at c cs Committed e.0 ballot ≡ true
    pub vote : In (Accepted e.0 ballot (Commit e.1)) log

  voted_more : (e : ℕ × List Entry) (r : Record) (rs : List Record) → Voted e rs → Voted e (r ∷ rs)
  voted_more e r rs h = record { ballot = h.ballot; now = h.now; vote = inr h.vote }

  one_from : (r : Record) (rs : List Record) (listed : List (ℕ × List Entry)) (e : ℕ × List Entry) → In e (with_choice listed r) → In e listed ⊎ Voted e (r ∷ rs)
  one_from (Accepted t b (Commit body)) rs listed e i =
      on_cond (λ (l : List (ℕ × List Entry)). In e l → In e listed ⊎ Voted e (Accepted t b (Commit body) ∷ rs)) (is_listed listed t) _ _ (λ _ j. inl j)
      (λ _. on_cond (λ (l : List (ℕ × List Entry)). In e l → In e listed ⊎ Voted e (Accepted t b (Commit body) ∷ rs)) (is_chosen_at c cs Committed t b) _ _
      (λ now j. ⊎_elim inl
      (λ (k : ((t, body) ≡ e) ⊎ ⊥). ⊎_elim (λ (same : (t, body) ≡ e). inr (subst (λ (z : ℕ × List Entry). Voted z (Accepted t b (Commit body) ∷ rs)) same (record { ballot = b; now = now; vote = inl refl }))) (λ n. absurd n) k)
      (in_either e listed ((t, body) ∷ []) j))
      (λ _ j. inl j)) i
  one_from (Accepted t b Abort) rs listed e i = inl i
  one_from (Promised t b) rs listed e i = inl i
  one_from (Decided p) rs listed e i = inl i
  one_from (Head p) rs listed e i = inl i
  one_from (Prepared t p) rs listed e i = inl i
  one_from (Finished p) rs listed e i = inl i

  log_from : (rs : List Record) (listed : List (ℕ × List Entry)) (e : ℕ × List Entry) → In e (with_choices c cs listed rs) → In e listed ⊎ Voted e rs
  log_from [] listed e i = inl i
  log_from (r ∷ rs) listed e i = ⊎_elim (λ a. one_from r rs listed e a) (λ b. inr (voted_more e r rs b)) (log_from rs (with_choice listed r) e i)

  pub logs_from : (xs : List CoordNode) (listed : List (ℕ × List Entry)) (e : ℕ × List Entry) → In e (all_choices c cs listed xs) → In e listed ⊎ ((x : CoordNode) × In x xs × Voted e x.log)
  logs_from [] listed e i = inl i
  logs_from (x ∷ xs) listed e i =
      ⊎_elim
      (λ (a : In e (with_choices c cs listed x.log)). ⊎_elim inl (λ b. inr (x, inl refl, b)) (log_from x.log listed e a))
      (λ (b : (y : CoordNode) × In y xs × Voted e y.log). inr (b.0, inr b.1, b.2))
      (logs_from xs (with_choices c cs listed x.log) e i)
