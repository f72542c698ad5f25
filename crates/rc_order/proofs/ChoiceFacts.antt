-- The commits that the counted votes choose, and their order.
use Rattle.std.proofs.Common.{◌≡◌, ℕ, zero, suc, ◌*◌, Bool, true, false, ◌||◌, ◌&&◌, cond, List, [], ◌∷◌, ◌++◌, refl, sym, ap, ◌∙◌, arith, Some, nat_eq, nat_lt}
use Rattle.std.specs.Prelude.{◌==◌, nat_le, IsTrue, sum, if◌then◌else◌}
use Rattle.std.specs.Ordering.{nat_cmp, is_eq}
use Rattle.rc_ids.specs.Tables.{member, added}
use Rattle.rc_ids.specs.Cluster.{Layout, is_dc, holds}
use Rattle.rc_ids.specs.declared.names.Outcome.{Outcome}
use Rattle.rc_ids.specs.declared.names.Outcome.TheVariants.{Commit as Committed}
use Rattle.rc_body.specs.declared.entry.Entry.{Entry}
use Rattle.rc_body.specs.declared.decision.Decision.TheVariants.{Commit, Abort}
use Rattle.rc_record.specs.declared.record.Record.{Record}
use Rattle.rc_record.specs.declared.record.Record.TheVariants.{Head, Prepared, Finished, Promised, Accepted, Decided}
use Rattle.rc_protocol.specs.Nodes.{CoordNode}
use Rattle.rc_runs.specs.Votes.{has_voted, voters, is_chosen_at, is_listed, commits_after, ordered}
use Rattle.rc_order.specs.Orders.{Order, voters_at, has_listed, with_choice, listed_after, txs_of, with_record}
use Rattle.rc_order.specs.Counts.{AreCounted, HasWritten, HaveEmptyLogs, IsOrderOf}
use Rattle.rc_order.proofs.ListFacts.{member-added, weight_same}
use Rattle.rc_order.proofs.VoteFacts.{counts, counted_same, none_counted}

-- THE VOTERS
at_last : (n d : ℕ) → nat_eq d (suc n) ≡ true → (nat_le 1 d && nat_le d (suc n)) ≡ true
at_last n d is = grind arith

not_yet : (n d : ℕ) → nat_eq d (suc n) ≡ true → (nat_le 1 d && nat_le d n) ≡ false
not_yet n d is = grind arith

as_before : (n d : ℕ) → nat_eq d (suc n) ≡ false → (nat_le 1 d && nat_le d n) ≡ (nat_le 1 d && nat_le d (suc n))
as_before n d is = grind arith

nobody_yet : (d : ℕ) → (nat_le 1 d && nat_le d 0) ≡ false
nobody_yet d = grind arith

-- the voters up to a number are those up to it that have voted
voters-member : (coords : List CoordNode) (o : Outcome) (t b n d : ℕ)
    → member nat_cmp (voters coords o t b n) d ≡ cond (nat_le 1 d && nat_le d n) (has_voted coords o t b d) false
voters-member coords o t b zero d = ap (λ r. cond r (has_voted coords o t b d) false) (sym (nobody_yet d))
voters-member coords o t b (suc n) d =
    go (nat_eq d (suc n)) (has_voted coords o t b (suc n)) refl refl (voters-member coords o t b n d)
  where
    go : (v w : Bool) → nat_eq d (suc n) ≡ v → has_voted coords o t b (suc n) ≡ w
        → member nat_cmp (voters coords o t b n) d ≡ cond (nat_le 1 d && nat_le d n) (has_voted coords o t b d) false
        → member nat_cmp (cond w (added nat_cmp (voters coords o t b n) (suc n)) (voters coords o t b n)) d
        ≡ cond (nat_le 1 d && nat_le d (suc n)) (has_voted coords o t b d) false
    go true true is voted rest =
        let same : d ≡ suc n = grind arith in
        let here : is_eq (nat_cmp d (suc n)) ≡ true = grind arith in
        member-added (voters coords o t b n) (suc n) d
        ∙ ap (λ x. x || member nat_cmp (voters coords o t b n) d) here
        ∙ sym (ap (λ r. cond r (has_voted coords o t b d) false) (at_last n d is) ∙ ap (has_voted coords o t b) same ∙ voted)
    go true false is voted rest =
        let same : d ≡ suc n = grind arith in
        rest
        ∙ ap (λ r. cond r (has_voted coords o t b d) false) (not_yet n d is)
        ∙ sym (ap (λ r. cond r (has_voted coords o t b d) false) (at_last n d is) ∙ ap (has_voted coords o t b) same ∙ voted)
    go false true is voted rest =
        let apart : is_eq (nat_cmp d (suc n)) ≡ false = grind arith in
        member-added (voters coords o t b n) (suc n) d
        ∙ ap (λ x. x || member nat_cmp (voters coords o t b n) d) apart
        ∙ rest
        ∙ ap (λ r. cond r (has_voted coords o t b d) false) (as_before n d is)
    go false false is voted rest = rest ∙ ap (λ r. cond r (has_voted coords o t b d) false) (as_before n d is)

-- those that are counted are the voters
same_voters : (c : Layout) (coords : List CoordNode) (o : Order) → AreCounted c coords o → (t b d : ℕ)
    → member nat_cmp (voters_at o.votes t b) d ≡ member nat_cmp (voters coords Committed t b c.dcs) d
same_voters c coords o h t b d = go (is_dc c d) refl (member nat_cmp (voters_at o.votes t b) d) refl ∙ sym (voters-member coords Committed t b c.dcs d)
  where
    go : (s : Bool) → is_dc c d ≡ s → (m : Bool) → member nat_cmp (voters_at o.votes t b) d ≡ m
        → member nat_cmp (voters_at o.votes t b) d ≡ cond (is_dc c d) (has_voted coords Committed t b d) false
    go true dc m is = h.each t b d dc ∙ ap (λ s. cond s (has_voted coords Committed t b d) false) (sym dc)
    go false dc true is = let yes_dc : is_dc c d ≡ true = h.within t b d is in absurd cc
    go false dc false is = is ∙ ap (λ s. cond s (has_voted coords Committed t b d) false) (sym dc)

chosen_same : (c : Layout) (coords : List CoordNode) (o : Order) → c.weights ≡ o.weights → AreCounted c coords o → (t b : ℕ)
    → is_chosen_at c coords Committed t b ≡ holds o.weights (voters_at o.votes t b)
chosen_same c coords o weights h t b =
    ap (λ (n : ℕ). nat_lt (sum c.weights) (2 * n)) (sym (weight_same 1 c.weights _ _ (same_voters c coords o h t b)))
    ∙ ap (λ (ws : List ℕ). holds ws (voters_at o.votes t b)) weights

-- THE ORDER
turned : (t u : ℕ) → (u == t) ≡ nat_eq t u
turned t u = grind arith

listed_same : (committed : List (ℕ × List Entry)) (t : ℕ) → is_listed committed t ≡ has_listed (txs_of committed) t
listed_same [] t = refl
listed_same (x ∷ xs) t = ap (λ b. b || is_listed xs t) (turned t x.0) ∙ ap (λ b. nat_eq t x.0 || b) (listed_same xs t)

txs-append : (xs ys : List (ℕ × List Entry)) → txs_of (xs ++ ys) ≡ txs_of xs ++ txs_of ys
txs-append [] ys = refl
txs-append (x ∷ xs) ys = ap (λ (ts : List ℕ). x.0 ∷ ts) (txs-append xs ys)

module _ (c : Layout) (coords : List CoordNode) (earlier committed : List (ℕ × List Entry)) (o : Order) (h : IsOrderOf c coords earlier committed o) where
  commit_listed : (t b : ℕ) (body : List Entry) → txs_of (commits_after c coords earlier committed t b body) ≡ with_choice o.weights o.votes o.earlier o.listed t b
  commit_listed t b body =
      go (is_listed earlier t || is_listed committed t) (is_chosen_at c coords Committed t b)
      ∙ ap (λ (xs : List ℕ). if is_listed earlier t || is_listed committed t then xs else (if is_chosen_at c coords Committed t b then xs ++ t ∷ [] else xs)) h.listed
      ∙ ap (λ b1. if b1 || is_listed committed t then o.listed else (if is_chosen_at c coords Committed t b then o.listed ++ t ∷ [] else o.listed))
      (listed_same earlier t ∙ ap (λ (xs : List ℕ). has_listed xs t) h.earlier)
      ∙ ap (λ b1. if has_listed o.earlier t || b1 then o.listed else (if is_chosen_at c coords Committed t b then o.listed ++ t ∷ [] else o.listed))
      (listed_same committed t ∙ ap (λ (xs : List ℕ). has_listed xs t) h.listed)
      ∙ ap (λ b1. if has_listed o.earlier t || has_listed o.listed t then o.listed else (if b1 then o.listed ++ t ∷ [] else o.listed))
      (chosen_same c coords o h.weights h.counted t b)
    where
      go : (l s : Bool) → txs_of (if l then committed else (if s then committed ++ (t, body) ∷ [] else committed))
          ≡ (if l then txs_of committed else (if s then txs_of committed ++ t ∷ [] else txs_of committed))
      go true s = refl
      go false true = txs-append committed ((t, body) ∷ [])
      go false false = refl

  record_listed : (r : Record) → txs_of (ordered c coords earlier committed (Some r)) ≡ listed_after o r
  record_listed (Accepted t b (Commit body)) = commit_listed t b body
  record_listed (Accepted t b Abort) = h.listed
  record_listed (Head x) = h.listed
  record_listed (Prepared t part) = h.listed
  record_listed (Finished page) = h.listed
  record_listed (Promised t b) = h.listed
  record_listed (Decided page) = h.listed

  -- what `choose` lists
  pub chooses : (p : Order) (r : Record) → p.weights ≡ o.weights → p.votes ≡ o.votes → p.earlier ≡ o.earlier → p.listed ≡ listed_after o r
      → IsOrderOf c coords earlier (ordered c coords earlier committed (Some r)) p
  chooses p r weights votes before listed = record {
    weights = h.weights ∙ sym weights;
    counted = counted_same c coords o p votes h.counted;
    earlier = h.earlier ∙ sym before;
    listed = record_listed r ∙ sym listed;
  }

  -- what was listed, was listed earlier
  pub begins : (p : Order) → p.weights ≡ o.weights → p.votes ≡ o.votes → p.earlier ≡ o.earlier ++ o.listed → p.listed ≡ []
      → IsOrderOf c coords (earlier ++ committed) [] p
  begins p weights votes before listed = record {
    weights = h.weights ∙ sym weights;
    counted = counted_same c coords o p votes h.counted;
    earlier = txs-append earlier committed ∙ ap (λ (xs : List ℕ). xs ++ txs_of committed) h.earlier ∙ ap (λ (xs : List ℕ). o.earlier ++ xs) h.listed ∙ sym before;
    listed = sym listed;
  }

-- what `note` counts and lists
pub notes : (c : Layout) (coords now : List CoordNode) (earlier committed : List (ℕ × List Entry)) (o p q : Order) (d : ℕ) (r : Record)
    → p.weights ≡ o.weights → p.votes ≡ with_record o.votes d r → p.earlier ≡ o.earlier → p.listed ≡ o.listed
    → q.weights ≡ p.weights → q.votes ≡ p.votes → q.earlier ≡ p.earlier → q.listed ≡ listed_after p r
    → IsOrderOf c coords earlier committed o → IsTrue (is_dc c d) → HasWritten coords d r now
    → IsOrderOf c now earlier (ordered c now earlier committed (Some r)) q
notes c coords now earlier committed o p q d r w1 v1 e1 l1 w2 v2 e2 l2 h dc written =
    let middle : IsOrderOf c now earlier committed p = record {
      weights = h.weights ∙ sym w1;
      counted = counts c coords now o p d r v1 h.counted dc written;
      earlier = h.earlier ∙ sym e1;
      listed = h.listed ∙ sym l1;
    } in
    chooses c now earlier committed p middle q r w2 v2 e2 l2

-- the first order
pub starts : (c : Layout) (coords : List CoordNode) (o : Order) → c.weights ≡ o.weights → o.votes ≡ [] → o.earlier ≡ [] → o.listed ≡ []
    → HaveEmptyLogs coords → IsOrderOf c coords [] [] o
starts c coords o weights votes before listed empty = record {
  weights = weights;
  counted = none_counted c coords o votes empty;
  earlier = sym before;
  listed = sym listed;
}
