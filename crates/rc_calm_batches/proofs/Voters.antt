-- The votes of d1, d2 and so on in order, and the order of the committed: the transaction enters it at the q-th vote.
use Rattle.std.proofs.Common.{◌≡◌, ℕ, zero, suc, ◌≤◌, ◌<◌, List, [], ◌∷◌, ◌++◌, refl, sym, ap, ◌∙◌, subst, arith, Bool, true, false, cond, Option, Some, ⊎_elim}
use Rattle.std.specs.Prelude.{if◌then◌else◌, nat_le, ◌==◌}
use Rattle.std.proofs.lemmas.Bool.{le-leb, lt-leb, eq-eqb, or_right}
use Rattle.std.specs.List.{list_any}
use Rattle.std.specs.Ordering.{nat_cmp}
use Rattle.rc_ids.specs.Tables.{up_to, added, maybe}
use Rattle.rc_ids.specs.Cluster.{Layout, is_quorum}
use Rattle.rc_ids.specs.declared.names.Outcome.TheVariants.{Commit as Committed}
use Rattle.rc_body.specs.declared.entry.Entry.{Entry}
use Rattle.rc_body.specs.declared.decision.Decision.TheVariants.{Commit}
use Rattle.rc_record.specs.declared.record.Record.TheVariants.{Accepted}
use Rattle.rc_protocol.specs.Nodes.{CoordNode, is_vote}
use Rattle.rc_runs.specs.Votes.{has_voted, voters, is_listed, ordered}
use Rattle.rc_calm_batches.proofs.Indices.{compare}
use Rattle.rc_calm_batches.proofs.Grants.{added_up}
use Rattle.rc_calm_batches.proofs.Quorums.{IsLeast}
use Rattle.rc_calm_batches.proofs.ReadDrains.{any_both}
use Rattle.rc_calm_batches.proofs.Coords.{Coords}

module _ (c : Layout) (t k : ℕ) (cs : List CoordNode) (all : Coords c (λ d x. list_any (is_vote Committed t 0) x.log ≡ nat_le d k) cs) where
  voted_is : (d : ℕ) → 1 ≤ d → d ≤ c.dcs → has_voted cs Committed t 0 d ≡ nat_le d k
  voted_is d d1 d2 =
      let z = all d d1 d2 in
      ap (λ (o : Option CoordNode). maybe o false (λ x. list_any (is_vote Committed t 0) x.log)) z.1 ∙ z.2

  voters_low : (n : ℕ) → n ≤ c.dcs → n ≤ k → voters cs Committed t 0 n ≡ up_to n
  voters_low zero h i = refl
  voters_low (suc n) h i =
      let v : has_voted cs Committed t 0 (suc n) ≡ true = voted_is (suc n) (omega arith) h ∙ le-leb (suc n) k i in
      let more = voters_low n (omega (arith, h)) (omega (arith, i)) in
      ap (λ (z : Bool). cond z (added nat_cmp (voters cs Committed t 0 n) (suc n)) (voters cs Committed t 0 n)) v ∙ (ap (λ (z : List ℕ). added nat_cmp z (suc n)) more ∙ added_up n)

  pub voters_are : (n : ℕ) → n ≤ c.dcs → k ≤ n → voters cs Committed t 0 n ≡ up_to k
  voters_are zero h i = let e : zero ≡ k = omega (arith, i) in ap up_to e
  voters_are (suc n) h i = ⊎_elim
      (λ (j : k < suc n).
      let v : has_voted cs Committed t 0 (suc n) ≡ false = voted_is (suc n) (omega arith) h ∙ lt-leb (suc n) k j in
      ap (λ (z : Bool). cond z (added nat_cmp (voters cs Committed t 0 n) (suc n)) (voters cs Committed t 0 n)) v ∙ voters_are n (omega (arith, h)) (omega (arith, j)))
      (λ z. ⊎_elim (λ (e : k ≡ suc n). voters_low (suc n) h (omega (arith, e)) ∙ ap up_to (sym e)) (λ (j : suc n < k). absurd (omega (arith, i, j))) z)
      (compare k (suc n))

module _ (c : Layout) (t q : ℕ) (body : List Entry) (base : List (ℕ × List Entry)) (new : is_listed base t ≡ false) (least : IsLeast c 1 c.dcs q) where
  -- the order after i votes
  abbrev pub order_at : ℕ → List (ℕ × List Entry)
  order_at i = if nat_le q i then base ++ (t, body) ∷ [] else base

  listed : is_listed (base ++ (t, body) ∷ []) t ≡ true
  listed = let e = eq-eqb t t refl in any_both (λ (x : ℕ × List Entry). x.0 == t) base ((t, body) ∷ []) ∙ or_right (is_listed base t) _ (rw e)

  pub order_step : (i : ℕ) (cs : List CoordNode) → suc i ≤ c.dcs → Coords c (λ d x. list_any (is_vote Committed t 0) x.log ≡ nat_le d (suc i)) cs
      → ordered c cs [] (order_at i) (Some (Accepted t 0 (Commit body))) ≡ order_at (suc i)
  order_step i cs le all = ⊎_elim early (λ z. ⊎_elim now late z) (compare (suc i) q)
    where
      are : voters cs Committed t 0 c.dcs ≡ up_to (suc i)
      are = voters_are c t (suc i) cs all c.dcs (omega arith) le

      early : suc i < q → ordered c cs [] (order_at i) (Some (Accepted t 0 (Commit body))) ≡ order_at (suc i)
      early lt =
          let a : nat_le q i ≡ false = lt-leb q i (omega (arith, lt)) in
          let d : nat_le q (suc i) ≡ false = lt-leb q (suc i) lt in
          let no = least.none (suc i) (omega arith) lt in
          rw (a, d, new, are, no)

      now : suc i ≡ q → ordered c cs [] (order_at i) (Some (Accepted t 0 (Commit body))) ≡ order_at (suc i)
      now is =
          let a : nat_le q i ≡ false = lt-leb q i (omega (arith, is)) in
          let d : nat_le q (suc i) ≡ true = le-leb q (suc i) (omega (arith, is)) in
          let yes : is_quorum c (up_to (suc i)) ≡ true = subst (λ (z : ℕ). is_quorum c (up_to z) ≡ true) (sym is) least.enough in
          rw (a, d, new, are, yes)

      late : q < suc i → ordered c cs [] (order_at i) (Some (Accepted t 0 (Commit body))) ≡ order_at (suc i)
      late lt =
          let a : nat_le q i ≡ true = le-leb q i (omega (arith, lt)) in
          let d : nat_le q (suc i) ≡ true = le-leb q (suc i) (omega (arith, lt)) in
          let l = listed in
          rw (a, d, l)
