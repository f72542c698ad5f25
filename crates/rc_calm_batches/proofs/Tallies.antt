-- A vote of the next datacentre at a coordinator: it is counted, decides, or comes too late.
use Rattle.std.proofs.Common.{◌≡◌, ℕ, zero, suc, ◌≤◌, ◌<◌, List, [], ◌∷◌, ◌++◌, refl, sym, ap, ◌∙◌, subst, arith, Bool, true, false, cond, Some, None, ⊎_elim}
use Rattle.std.specs.Prelude.{if◌then◌else◌, nat_le, ◌==◌}
use Rattle.std.proofs.lemmas.Bool.{le-leb, lt-leb, eq-eqb, ne_eqb}
use Rattle.std.specs.Ordering.{nat_cmp, is_eq}
use Rattle.std.specs.declared.cmp.Ordering.{Ordering}
use Rattle.std.specs.declared.cmp.Ordering.TheVariants.{Less, Equal, Greater}
use Rattle.rc_ids.specs.Tables.{Table, found, put, without, up_to}
use Rattle.rc_ids.specs.Cluster.{Layout, is_quorum, is_dc}
use Rattle.rc_ids.specs.declared.names.Outcome.TheVariants.{Commit as Committed}
use Rattle.rc_body.specs.Bodies.{part, touches}
use Rattle.rc_body.specs.declared.entry.Entry.{Entry}
use Rattle.rc_body.specs.declared.decision.Decision.TheVariants.{Commit}
use Rattle.rc_msg.specs.declared.msg.Msg.TheVariants.{Finish}
use Rattle.rc_msg.specs.declared.msg.Envelope.{Envelope}
use Rattle.rc_record.specs.declared.record.Record.TheVariants.{Decided as OutcomesDecided}
use Rattle.rc_record.specs.CoordState.{outcome_of}
use Rattle.rc_protocol.specs.Messages.{coordinator, shard_server, one}
use Rattle.rc_protocol.specs.Coordinator.{CoordAct, new_volatile, coord_stays, coord_learns, counted, is_decided_by, tally_of, forgotten, finish_posts, finish_to}
use Rattle.rc_protocol.specs.Nodes.{CoordNode, coord_after, is_vote}
use Rattle.rc_runs.specs.Votes.{ordered}
use Rattle.rc_runs.specs.World.{Parties, envelopes}
use Rattle.rc_calm_batches.proofs.Passes.{each}
use Rattle.rc_calm_batches.proofs.Sizes.{Ready, bytes_end}
use Rattle.rc_calm_batches.proofs.Grants.{added_up}
use Rattle.rc_calm_batches.proofs.Quorums.{IsLeast}
use Rattle.rc_calm_batches.proofs.Indices.{compare}
use Rattle.rc_calm_batches.proofs.Stages.{is_a_dc}
use Rattle.rc_calm_batches.proofs.ReadDrains.{any_both, env_each, same_each, length_both}
use Rattle.rc_calm_batches.proofs.Coords.{CoordIs}
use Rattle.rc_calm_batches.proofs.Acting.{coord_act}
use Rattle.rc_calm_batches.proofs.Rounds.{Which, which_true, which_false, to_true, to_false}
use Rattle.rc_calm_batches.proofs.Puts.{nat_same, nat_eq_of}
use Rattle.rc_calm_batches.proofs.Stands.{voted, tally, tallies, at_work, HasVote, Counts, Ended, not_over, not_this}
use Rattle.rc_calm_batches.proofs.Proposing.{ballot}

-- A TABLE with one more entry at its end
found_end : {X : Type 0} (xs : Table ℕ X) (t : ℕ) (x : X) → found nat_cmp xs t ≡ None → found nat_cmp (xs ++ (t, x) ∷ []) t ≡ Some x
found_end [] t x h = let k = nat_same t in rw k
found_end (z ∷ xs) t x h = go (is_eq (nat_cmp t z.0)) h (found_end xs t x)
  where
    go : (v : Bool) → cond v (Some z.1) (found nat_cmp xs t) ≡ None → (found nat_cmp xs t ≡ None → found nat_cmp (xs ++ (t, x) ∷ []) t ≡ Some x) → cond v (Some z.1) (found nat_cmp (xs ++ (t, x) ∷ []) t) ≡ Some x
    go true h more = absurd (cc)
    go false h more = more h

found_before : {X : Type 0} (xs : Table ℕ X) (t u : ℕ) (x : X) → (t ≡ u → ⊥) → found nat_cmp (xs ++ (t, x) ∷ []) u ≡ found nat_cmp xs u
found_before [] t u x n = go (nat_cmp u t) refl
  where
    go : (o : Ordering) → nat_cmp u t ≡ o → cond (is_eq o) (Some x) None ≡ None
    go Less h = refl
    go Equal h = absurd (n (sym (nat_eq_of u t h)))
    go Greater h = refl
found_before (z ∷ xs) t u x n = ap (cond (is_eq (nat_cmp u z.0)) (Some z.1)) (found_before xs t u x n)

module _ (c : Layout) (over : List ℕ) (t : ℕ) (body : List Entry) where
  -- TALLIES
  pub counted_next : (i : ℕ) → counted (tally c over t body i) 0 (suc i) (Commit body) ≡ tally c over t body (suc i)
  counted_next zero = refl
  counted_next (suc i) = let a = added_up (suc i) in rw a

  pub decides : (i : ℕ) → is_decided_by c (tally c over t body i) 0 (suc i) (Commit body) ≡ is_quorum c (up_to (suc i))
  decides zero = refl
  decides (suc i) = let a = added_up (suc i) in rw a

  tally_is : (ys : List ℕ) (i : ℕ) → tally_of (at_work c over t body ys i) t ≡ tally c over t body i
  tally_is ys zero = refl
  tally_is ys (suc i) = let k = nat_same t in rw k

  put_next : (i : ℕ) → put nat_cmp (tallies c over t body i) t (tally c over t body (suc i)) ≡ tallies c over t body (suc i)
  put_next zero = refl
  put_next (suc i) = let k = nat_same t in rw k

  no_tallies : (i : ℕ) → without nat_cmp (tallies c over t body i) t ≡ []
  no_tallies zero = refl
  no_tallies (suc i) = let k = nat_same t in rw k

  pub forgets : (ys : List ℕ) (i : ℕ) → forgotten (at_work c over t body ys i) t ≡ new_volatile
  forgets ys i = let k = nat_same t in let n = no_tallies i in rw (k, n)

  -- the outcome stands in the list
  abbrev pub Knows : CoordNode → Type 0
  Knows x = Ended c over t body x × (outcome_of x.durable.outcomes t ≡ Some (Commit body))

  learnt : (d : ℕ) (x : CoordNode) (ys : List ℕ) (i : ℕ) → Ready over t body → CoordIs over (voted c over t body) (at_work c over t body ys i) x
      → Knows (coord_after x (coord_learns c d (at_work c over t body ys i) t (Commit body)))
  learnt d x ys i fresh r = (
    record {
      up = r.up;
      volatile = forgets ys i;
      promise = r.promise;
      accepted = r.accepted;
      unvoted = λ u n. let a = r.unvoted u n in any_both (is_vote Committed u 0) x.log (OutcomesDecided ((t, Commit body) ∷ []) ∷ []) ∙ rw a;
      outcome = λ u n. let o = r.outcome t fresh.new in rw o (found_before x.durable.outcomes t u (Commit body) (not_this c over t body u n) ∙ r.outcome u (not_over c over t body u n));
      bytes = let h = r.bytes in let a = fresh.decided in let e = bytes_end x.log (OutcomesDecided ((t, Commit body) ∷ [])) in let l = length_both over (t ∷ []) in omega (arith, h, a, e, l);
    },
    (let o = r.outcome t fresh.new in rw o (found_end x.durable.outcomes t (Commit body) (r.outcome t fresh.new))),
  )

module _ (b : Parties) (over : List ℕ) (t : ℕ) (body : List Entry) (fresh : Ready over t body) (q : ℕ) (least : IsLeast b.layout 1 b.layout.dcs q) where
  abbrev c : Layout
  c = b.layout

  abbrev pub finish : ℕ → ℕ → Envelope
  finish d s = record { from = coordinator d; to = shard_server d s; msg = Finish t (Commit (part c s body)) }

  abbrev pub finishes_of : ℕ → List Envelope
  finishes_of d = each c.shards (λ s. if touches c body s then finish d s ∷ [] else [])

  finishes_said : (d : ℕ) → envelopes (coordinator d) (finish_posts c d t (Commit body)) ≡ finishes_of d
  finishes_said d = env_each (coordinator d) c.shards (finish_to c d t (Commit body)) ∙ same_each c.shards _ _ (λ s s1. go s (touches c body s))
    where
      go : (s : ℕ) (v : Bool) → envelopes (coordinator d) (if v then one (shard_server d s) (Finish t (Commit (part c s body))) else []) ≡ (if v then record { from = coordinator d; to = shard_server d s; msg = Finish t (Commit (part c s body)) } ∷ [] else [])
      go s true = refl
      go s false = refl

  -- after the votes of d1 to di
  abbrev pub Heard : ℕ → CoordNode → Type 0
  Heard i x = Which (nat_le q i) (Knows c over t body x) (Counts c over t body i x)

  abbrev pub out_at : ℕ → ℕ → List Envelope
  out_at i d = if suc i == q then finishes_of d else []

  pub record Hears (i d : ℕ) (x : CoordNode) : Type 0 where
    pub act : CoordAct
    pub is : coord_act b d (ballot b over t body fresh (suc i) d) x ≡ act
    pub up : x.up ≡ true
    pub after : Heard (suc i) (coord_after x act)
    pub sends : envelopes (coordinator d) act.sends ≡ out_at i d
    pub spent : act.spent ≡ false
    pub orders : (cs : List CoordNode) (o : List (ℕ × List Entry)) → ordered c cs [] o act.logs ≡ o

  pub hears : (i d : ℕ) (x : CoordNode) → suc i ≤ c.dcs → Heard i x → Hears i d x
  hears i d x le h = ⊎_elim
      (λ lt. let w = counts (lt-leb q i (omega (arith, lt))) in early lt w.0 w.1 w.2)
      (λ z. ⊎_elim (λ is. let w = counts (lt-leb q i (omega (arith, is))) in now is w.0 w.1 w.2)
      (λ lt. let w = which_true (nat_le q i) _ _ (le-leb q i (omega (arith, lt))) h in late lt w.0 w.1) z) (compare (suc i) q)
    where
      dc : is_dc c (suc i) ≡ true
      dc = is_a_dc c (suc i) (omega arith) le

      counts : nat_le q i ≡ false → Counts c over t body i x
      counts e = which_false (nat_le q i) _ _ e h

      early : suc i < q → (ys : List ℕ) → CoordIs over (voted c over t body) (at_work c over t body ys i) x → HasVote c over t body x → Hears i d x
      early lt ys r vote =
          let e : nat_le q (suc i) ≡ false = lt-leb q (suc i) lt in
          let n : (suc i == q) ≡ false = ne_eqb (suc i) q (λ f. omega (arith, lt, f)) in
          let o = r.outcome t fresh.new in
          let v = r.volatile in
          let ty = tally_is c over t body ys i in
          let few : is_decided_by c (tally c over t body i) 0 (suc i) (Commit body) ≡ false = decides c over t body i ∙ least.none (suc i) (omega arith) lt in
          let next = counted_next c over t body i in
          let all = put_next c over t body i in
          record {
            act = coord_stays (at_work c over t body ys (suc i));
            is = rw (dc, o, v, ty, few, next, all);
            up = r.up;
            after = to_false (nat_le q (suc i)) _ _ e (ys, record { up = r.up; volatile = refl; promise = r.promise; accepted = r.accepted; unvoted = r.unvoted; outcome = r.outcome; bytes = r.bytes }, vote);
            sends = rw n;
            spent = refl;
            orders = λ cs o. refl;
          }

      now : suc i ≡ q → (ys : List ℕ) → CoordIs over (voted c over t body) (at_work c over t body ys i) x → HasVote c over t body x → Hears i d x
      now is ys r vote =
          let e : nat_le q (suc i) ≡ true = le-leb q (suc i) (omega (arith, is)) in
          let n : (suc i == q) ≡ true = eq-eqb (suc i) q is in
          let o = r.outcome t fresh.new in
          let v = r.volatile in
          let ty = tally_is c over t body ys i in
          let enough : is_decided_by c (tally c over t body i) 0 (suc i) (Commit body) ≡ true = decides c over t body i ∙ subst (λ (z : ℕ). is_quorum c (up_to z) ≡ true) (sym is) least.enough in
          record {
            act = coord_learns c d (at_work c over t body ys i) t (Commit body);
            is = rw (dc, o, v, ty, enough);
            up = r.up;
            after = to_true (nat_le q (suc i)) _ _ e (learnt c over t body d x ys i fresh r);
            sends = finishes_said d ∙ rw n;
            spent = refl;
            orders = λ cs o. refl;
          }

      late : q < suc i → Ended c over t body x → outcome_of x.durable.outcomes t ≡ Some (Commit body) → Hears i d x
      late lt r o =
          let e : nat_le q (suc i) ≡ true = le-leb q (suc i) (omega (arith, lt)) in
          let n : (suc i == q) ≡ false = ne_eqb (suc i) q (λ f. omega (arith, lt, f)) in
          record {
            act = coord_stays x.volatile;
            is = rw (dc, o);
            up = r.up;
            after = to_true (nat_le q (suc i)) _ _ e (record { up = r.up; volatile = r.volatile; promise = r.promise; accepted = r.accepted; unvoted = r.unvoted; outcome = r.outcome; bytes = r.bytes }, o);
            sends = rw n;
            spent = refl;
            orders = λ cs o. refl;
          }
