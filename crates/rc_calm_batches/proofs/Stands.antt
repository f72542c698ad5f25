-- What stands in a coordinator while a commit goes its way: at rest, a gather, votes, over. And the acts that lead from one to the next.
use Rattle.std.proofs.Common.{◌≡◌, ℕ, zero, suc, List, [], ◌∷◌, ◌++◌, refl, ◌∙◌, subst, arith, true, inl, inr}
use Rattle.std.specs.Prelude.{max}
use Rattle.std.proofs.lemmas.Bool.{eq-eqb, ne_eqb, or_right}
use Rattle.std.specs.List.{list_any}
use Rattle.std.specs.Ordering.{nat_cmp}
use Rattle.rc_ids.specs.Tables.{Table, In, up_to}
use Rattle.rc_ids.specs.Cluster.{Layout}
use Rattle.rc_ids.specs.declared.names.Outcome.TheVariants.{Commit as Committed}
use Rattle.rc_body.specs.declared.entry.Entry.{Entry}
use Rattle.rc_body.specs.declared.decision.Decision.TheVariants.{Commit}
use Rattle.rc_record.specs.declared.record.Record.TheVariants.{Accepted}
use Rattle.rc_record.specs.CoordState.{promise_of}
use Rattle.rc_protocol.specs.Coordinator.{CoordVolatile, GatherState, Standing, new_volatile, coord_says, accepts}
use Rattle.rc_protocol.specs.Messages.{Posts}
use Rattle.rc_protocol.specs.Nodes.{CoordNode, coord_after, is_vote}
use Rattle.rc_calm_batches.proofs.ReadDrains.{any_both, length_both}
use Rattle.rc_calm_batches.proofs.Sizes.{Ready, bytes_end}
use Rattle.rc_calm_batches.proofs.Coords.{CoordIs}
use Rattle.rc_calm_batches.proofs.Puts.{put_other, nat_same, nat_eq_of}

-- at the end of a list
pub in_before : {A : Type 0} (x y : A) (xs : List A) → In x xs → In x (xs ++ y ∷ [])
in_before x y [] i = absurd i
in_before x y (z ∷ xs) (inl e) = inl e
in_before x y (z ∷ xs) (inr i) = inr (in_before x y xs i)

pub in_last : {A : Type 0} (y : A) (xs : List A) → In y (xs ++ y ∷ [])
in_last y [] = inl refl
in_last y (z ∷ xs) = inr (in_last y xs)

module _ (c : Layout) (over : List ℕ) (t : ℕ) (body : List Entry) where
  abbrev pub voted : List ℕ
  voted = over ++ t ∷ []

  abbrev pub gather : List ℕ → GatherState
  gather ys = record { ballot = 0; body = body; yes = ys }

  abbrev pub tally : ℕ → Table ℕ Standing
  tally zero = []
  tally (suc i) = (0, record { commits = up_to (suc i); aborts = [] }) ∷ []

  abbrev pub tallies : ℕ → Table ℕ (Table ℕ Standing)
  tallies zero = []
  tallies (suc i) = (t, tally (suc i)) ∷ []

  -- asked shards ys have said yes, and the first i votes were heard
  abbrev pub at_work : List ℕ → ℕ → CoordVolatile
  at_work ys i = record { gathers = (t, gather ys) ∷ []; takeovers = []; votes = tallies i; cursors = [] }

  abbrev pub Idles : CoordNode → Type 0
  Idles x = CoordIs over over new_volatile x

  abbrev pub Gathers : List ℕ → CoordNode → Type 0
  Gathers ys x = CoordIs over over (at_work ys 0) x

  abbrev pub HasVote : CoordNode → Type 0
  HasVote x = list_any (is_vote Committed t 0) x.log ≡ true

  abbrev pub Counts : ℕ → CoordNode → Type 0
  Counts i x = (ys : List ℕ) × CoordIs over voted (at_work ys i) x × HasVote x

  abbrev pub Ended : CoordNode → Type 0
  Ended x = CoordIs voted voted new_volatile x

  pub not_over : (u : ℕ) → (In u voted → ⊥) → (In u over → ⊥)
  not_over u n i = n (in_before u t over i)

  pub not_this : (u : ℕ) → (In u voted → ⊥) → t ≡ u → ⊥
  not_this u n e = n (subst (λ (z : ℕ). In z voted) e (in_last t over))

  -- nothing but the volatile state changes
  pub says : (x : CoordNode) (v w : CoordVolatile) (ms : Posts) → CoordIs over over v x → CoordIs over over w (coord_after x (coord_says w ms))
  says x v w ms r = record { up = r.up; volatile = refl; promise = r.promise; accepted = r.accepted; unvoted = r.unvoted; outcome = r.outcome; bytes = r.bytes }

  -- the vote
  pub votes_now : (d : ℕ) (x : CoordNode) (v w : CoordVolatile) → Ready over t body → CoordIs over over v x
      → CoordIs over voted w (coord_after x (accepts c d w t 0 (Commit body))) × HasVote (coord_after x (accepts c d w t 0 (Commit body)))
  votes_now d x v w fresh r = (
    record {
      up = r.up;
      volatile = refl;
      promise = λ u n. let o = put_other nat_cmp nat_same nat_eq_of x.durable.promises t u (max (promise_of x.durable.promises t) 0) (not_this u n) in let p = r.promise u (not_over u n) in rw o p;
      accepted = λ u n. put_other nat_cmp nat_same nat_eq_of x.durable.accepted t u (0, Commit body) (not_this u n) ∙ r.accepted u (not_over u n);
      unvoted = λ u n.
          let z = any_both (is_vote Committed u 0) x.log (Accepted t 0 (Commit body) ∷ []) in
          let a = r.unvoted u (not_over u n) in
          let e = ne_eqb t u (not_this u n) in z ∙ rw (a, e);
      outcome = r.outcome;
      bytes = let h = r.bytes in let a = fresh.accepted in let e = bytes_end x.log (Accepted t 0 (Commit body)) in let l = length_both over (t ∷ []) in omega (arith, h, a, e, l);
    },
    (let e = eq-eqb t t refl in any_both (is_vote Committed t 0) x.log (Accepted t 0 (Commit body) ∷ []) ∙ or_right (list_any (is_vote Committed t 0) x.log) _ (rw e)),
  )
