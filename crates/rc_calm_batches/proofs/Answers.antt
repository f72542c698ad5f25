-- The answers of the touched shards at each coordinator in order, as a batch: with the last one it votes.
use Rattle.std.proofs.Common.{◌≡◌, ℕ, zero, suc, ◌≤◌, List, [], ◌∷◌, ◌++◌, refl, sym, ap, ◌∙◌, subst, arith, Bool, true, false, None}
use Rattle.std.specs.Prelude.{if◌then◌else◌, nat_le, ◌==◌}
use Rattle.std.proofs.lemmas.Bool.{le-leb, lt-leb, leb-true, eq-eqb, ne_eqb, eqb-true, eqb-false}
use Rattle.std.proofs.lemmas.List.{append-nil}
use Rattle.std.specs.List.{list_any}
use Rattle.rc_ids.specs.Cluster.{Layout}
use Rattle.rc_ids.specs.declared.names.Outcome.TheVariants.{Commit as Committed}
use Rattle.rc_body.specs.Bodies.{touches}
use Rattle.rc_body.specs.declared.entry.Entry.{Entry}
use Rattle.rc_body.specs.declared.decision.Decision.TheVariants.{Commit}
use Rattle.rc_msg.specs.declared.msg.Msg.TheVariants.{Prepared}
use Rattle.rc_msg.specs.declared.msg.Envelope.{Envelope}
use Rattle.rc_protocol.specs.Messages.{coordinator, shard_server}
use Rattle.rc_protocol.specs.Client.{Client}
use Rattle.rc_protocol.specs.Coordinator.{CoordAct, coord_says, accepts, has_all}
use Rattle.rc_protocol.specs.Nodes.{CoordNode, ShardNode, coord_after, is_vote}
use Rattle.rc_runs.specs.Votes.{is_listed, ordered}
use Rattle.rc_runs.specs.World.{Parties, envelopes}
use Rattle.rc_report.specs.declared.line.Line.{Line}
use Rattle.rc_calm_batches.proofs.Passes.{Turned, Turns, each, after_all, sent_by, printed_by}
use Rattle.rc_calm_batches.proofs.Sizes.{Ready}
use Rattle.rc_calm_batches.proofs.Batches.{after_both, sent_both, printed_both, lasting_both, loop}
use Rattle.rc_calm_batches.proofs.Stages.{inside}
use Rattle.rc_calm_batches.proofs.Quorums.{IsLeast}
use Rattle.rc_calm_batches.proofs.ReadDrains.{none_each}
use Rattle.rc_calm_batches.proofs.Coords.{Coords}
use Rattle.rc_calm_batches.proofs.Acting.{Stage, coord_act, coord_acts}
use Rattle.rc_calm_batches.proofs.Rounds.{Which, which_true, which_false, to_true, to_false, one_more, coords_map, with_coords, with_order}
use Rattle.rc_calm_batches.proofs.Puts.{nat_same}
use Rattle.rc_calm_batches.proofs.Voters.{order_at, order_step}
use Rattle.rc_calm_batches.proofs.Stands.{gather, at_work, Gathers, Counts, says, votes_now}
use Rattle.rc_calm_batches.proofs.Proposing.{votes_of, votes_said}
use Rattle.rc_calm_batches.proofs.Answering.{yes_to, full, full_last, yes_skips, yes_new, yes_added, not_full}

module _ (b : Parties) (over : List ℕ) (t : ℕ) (body : List Entry) (fresh : Ready over t body) where
  abbrev c : Layout
  c = b.layout

  abbrev pub answer : ℕ → ℕ → Envelope
  answer d s = record { from = shard_server d s; to = coordinator d; msg = Prepared t s None }

  abbrev G : ℕ → CoordNode → Type 0
  G r x = Gathers c over t body (yes_to c over t body r) x

  abbrev V : CoordNode → Type 0
  V x = Counts c over t body 0 x

  abbrev F : ℕ → Bool
  F r = full c over t body r

  abbrev work : ℕ → CoordAct
  work r = coord_says (at_work c over t body (yes_to c over t body r) 0) []

  abbrev voting : ℕ → ℕ → CoordAct
  voting d r = accepts c d (at_work c over t body (yes_to c over t body r) 0) t 0 (Commit body)

  answer_is : (d r : ℕ) (x : CoordNode) → suc r ≤ c.shards → touches c body (suc r) ≡ true → G r x → coord_act b d (answer d (suc r)) x ≡ (if F (suc r) then voting d (suc r) else work (suc r))
  answer_is d r x le is h =
      let i = inside c (suc r) (omega arith) le in
      let o = h.outcome t fresh.new in
      let p = h.promise t fresh.new in
      let v = h.volatile in
      let k = nat_same t in
      let n = yes_new c over t body r in
      let a = yes_added c over t body r is in
      rw (i, o, v, k, is, n, a, p)

  -- one coordinator of them all
  abbrev Mid : ℕ → CoordNode → Type 0
  Mid r x = Which (F r) (V x) (G r x)

  module _ (S : ℕ → ℕ → ShardNode → Type 0) (y : Client) (base : List (ℕ × List Entry)) (q : ℕ) (new : is_listed base t ≡ false) (least : IsLeast c 1 c.dcs q) where
    abbrev O : ℕ → List (ℕ × List Entry)
    O i = order_at c t q body base new least i

    abbrev At : ℕ → ℕ → ℕ → CoordNode → Type 0
    At i r d x = Which (nat_le d i) (V x) (Which (d == suc i) (Mid r x) (G 0 x))

    abbrev St : ℕ → ℕ → Parties → Type 0
    St i r = Stage b t (At i r) S y (if F r then O (suc i) else O i)

    abbrev said : ℕ → ℕ → List Envelope
    said d s = if touches c body s then answer d s ∷ [] else []

    abbrev votes_at : ℕ → ℕ → List Envelope
    votes_at d r = if F r then votes_of b over t body fresh d else []

    other : (i r f : ℕ) (x : CoordNode) → (suc i ≡ f → ⊥) → At i r f x → At i (suc r) f x
    other i r f x n w = let e = ne_eqb f (suc i) (λ z. n (sym z)) in go (nat_le f i) (f == suc i) e w
      where
        go : (a k : Bool) → k ≡ false → Which a (V x) (Which k (Mid r x) (G 0 x)) → Which a (V x) (Which k (Mid (suc r) x) (G 0 x))
        go true k e w = w
        go false true e w = absurd (cc)
        go false false e w = w

    here : (i r : ℕ) (x : CoordNode) → At i r (suc i) x → Mid r x
    here i r x w = which_true (suc i == suc i) _ _ (eq-eqb (suc i) (suc i) refl) (which_false (nat_le (suc i) i) _ _ (lt-leb (suc i) i (omega arith)) w)

    there : (i r : ℕ) (x : CoordNode) → Mid r x → At i r (suc i) x
    there i r x w = to_false (nat_le (suc i) i) _ _ (lt-leb (suc i) i (omega arith)) (to_true (suc i == suc i) _ _ (eq-eqb (suc i) (suc i) refl) w)

    -- whose votes stand in the logs
    have : (i r : ℕ) (cs : List CoordNode) → F r ≡ true → Coords c (At i r) cs → Coords c (λ d x. list_any (is_vote Committed t 0) x.log ≡ nat_le d (suc i)) cs
    have i r cs all = coords_map c (At i r) (λ d x. list_any (is_vote Committed t 0) x.log ≡ nat_le d (suc i)) cs (λ d x d1 d2 w. go d x (nat_le d i) refl (d == suc i) refl w)
      where
        go : (d : ℕ) (x : CoordNode) (a : Bool) → nat_le d i ≡ a → (k : Bool) → (d == suc i) ≡ k → Which a (V x) (Which k (Mid r x) (G 0 x)) → list_any (is_vote Committed t 0) x.log ≡ nat_le d (suc i)
        go d x true e k f w = let h = leb-true d i e in let z = le-leb d (suc i) (omega (arith, h)) in w.2 ∙ sym z
        go d x false e true f w = let h = eqb-true d (suc i) f in let z = le-leb d (suc i) (omega (arith, h)) in (which_true (F r) (V x) (G r x) all w).2 ∙ sym z
        go d x false e false f w = w.unvoted t fresh.new ∙ (sym e ∙ one_more d i (λ z. eqb-false d (suc i) f (sym z)))

    abbrev full_of : List ℕ → Bool
    full_of ys = has_all c (gather c over t body ys)

    abbrev of_yes : ℕ → List ℕ → ℕ → CoordNode → Type 0
    of_yes i ys d x = Which (nat_le d i) (V x) (Which (d == suc i) (Which (full_of ys) (V x) (Gathers c over t body ys x)) (G 0 x))

    step : (i r : ℕ) → suc i ≤ c.dcs → suc r ≤ c.shards → (p : Parties) → St i r p
        → (out : List Envelope) × Turned (St i (suc r)) (said (suc i) (suc r)) out [] p × (votes_at (suc i) r ++ out ≡ votes_at (suc i) (suc r))
    step i r le le2 p h = go (touches c body (suc r)) refl
      where
        go : (v : Bool) → touches c body (suc r) ≡ v
            → (out : List Envelope) × Turned (St i (suc r)) (if v then answer (suc i) (suc r) ∷ [] else []) out [] p × (votes_at (suc i) r ++ out ≡ votes_at (suc i) (suc r))
        go false e =
            let k = yes_skips c over t body r e in
            let f : F (suc r) ≡ F r = ap (λ (ys : List ℕ). full_of ys) k in (
              [],
              record { after = subst (λ (ys : List ℕ). Stage b t (of_yes i ys) S y (if full_of ys then O (suc i) else O i) p) (sym k) h; sends = refl; prints = refl; lasts = tt },
              append-nil (votes_at (suc i) r) ∙ ap (λ (z : Bool). if z then votes_of b over t body fresh (suc i) else []) (sym f),
            )
        go true e = (votes_at (suc i) (suc r), turned, rw f)
          where
            f : F r ≡ false
            f = not_full c over t body r le2 e

            was : (x : CoordNode) → At i r (suc i) x → G r x
            was x w = which_false (F r) (V x) (G r x) f (here i r x w)

            becomes : (x : CoordNode) → G r x → (v : Bool) → F (suc r) ≡ v → Mid (suc r) (coord_after x (if v then voting (suc i) (suc r) else work (suc r)))
            becomes x w true k = let z = votes_now c over t body (suc i) x (at_work c over t body (yes_to c over t body r) 0) (at_work c over t body (yes_to c over t body (suc r)) 0) fresh w in to_true (F (suc r)) _ _ k (yes_to c over t body (suc r), z.0, z.1)
            becomes x w false k = to_false (F (suc r)) _ _ k (says c over t body x (at_work c over t body (yes_to c over t body r) 0) (at_work c over t body (yes_to c over t body (suc r)) 0) [] w)

            tells : (v : Bool) → envelopes (coordinator (suc i)) (if v then voting (suc i) (suc r) else work (suc r)).sends ≡ (if v then votes_of b over t body fresh (suc i) else [])
            tells true = votes_said b over t body fresh (suc i)
            tells false = refl

            never : (v : Bool) → (if v then voting (suc i) (suc r) else work (suc r)).spent ≡ false
            never true = refl
            never false = refl

            orders : (cs : List CoordNode) → Coords c (At i (suc r)) cs → (v : Bool) → F (suc r) ≡ v → ordered c cs [] (O i) (if v then voting (suc i) (suc r) else work (suc r)).logs ≡ (if v then O (suc i) else O i)
            orders cs all true k = order_step c t q body base new least i cs le (have i (suc r) cs k all)
            orders cs all false k = refl

            turned : Turned (St i (suc r)) (answer (suc i) (suc r) ∷ []) (votes_at (suc i) (suc r)) [] p
            turned =
                coord_acts b t (At i r) (At i (suc r)) S y (O i) (if F (suc r) then O (suc i) else O i) (suc i) (answer (suc i) (suc r)) (votes_at (suc i) (suc r)) p (omega arith) le refl
                (λ x w.
                let g = was x w in
                let is = answer_is (suc i) r x le2 e g in (
                  g.up,
                  there i (suc r) _ (subst (λ (a : CoordAct). Mid (suc r) (coord_after x a)) (sym is) (becomes x g (F (suc r)) refl)),
                  ap (λ (a : CoordAct). envelopes (coordinator (suc i)) a.sends) is ∙ tells (F (suc r)),
                  ap (λ (a : CoordAct). a.spent) is ∙ never (F (suc r)),
                ))
                (λ g x n w. other i r g x n w)
                (λ x cs w all. ap (λ (a : CoordAct). ordered c cs [] (O i) a.logs) (answer_is (suc i) r x le2 e (was x w)) ∙ orders cs all (F (suc r)) refl)
                (with_order b t y (At i r) S (if F r then O (suc i) else O i) (O i) p (rw f) h)

    inner : (i : ℕ) → suc i ≤ c.dcs → F 0 ≡ false → (r : ℕ) → r ≤ c.shards → Turns (St i 0) (each r (said (suc i))) (St i r) (votes_at (suc i) r) []
    inner i le some zero h p w = record { after = w; sends = rw some; prints = refl; lasts = tt }
    inner i le some (suc r) h p w =
        let z = inner i le some r (omega (arith, h)) p w in
        let s = step i r le h (after_all p (each r (said (suc i)))) z.after in
        record {
          after = subst (St i (suc r)) (sym (after_both p (each r (said (suc i))) (said (suc i) (suc r)))) s.1.after;
          sends = sent_both p (each r (said (suc i))) (said (suc i) (suc r)) ∙ (ap (λ (x : List Envelope). x ++ sent_by (after_all p (each r (said (suc i)))) (said (suc i) (suc r))) z.sends ∙ (ap (λ (x : List Envelope). votes_at (suc i) r ++ x) s.1.sends ∙ s.2));
          lasts = lasting_both p (each r (said (suc i))) (said (suc i) (suc r)) z.lasts s.1.lasts;
          prints = printed_both p (each r (said (suc i))) (said (suc i) (suc r)) ∙ (ap (λ (x : List Line). x ++ printed_by (after_all p (each r (said (suc i)))) (said (suc i) (suc r))) z.prints ∙ s.1.prints);
        }

    abbrev whole : ℕ → ℕ → CoordNode → Type 0
    whole i d x = Which (nat_le d i) (V x) (G 0 x)

    open_up : (some : F 0 ≡ false) (i d : ℕ) (x : CoordNode) → whole i d x → At i 0 d x
    open_up some i d x w = go (nat_le d i) (d == suc i) w
      where
        go : (a k : Bool) → Which a (V x) (G 0 x) → Which a (V x) (Which k (Mid 0 x) (G 0 x))
        go true k w = w
        go false true w = to_false (F 0) (V x) (G 0 x) some w
        go false false w = w

    close : (i d : ℕ) (x : CoordNode) → At i c.shards d x → whole (suc i) d x
    close i d x w = go (nat_le d i) refl (d == suc i) refl w
      where
        go : (a : Bool) → nat_le d i ≡ a → (k : Bool) → (d == suc i) ≡ k → Which a (V x) (Which k (Mid c.shards x) (G 0 x)) → whole (suc i) d x
        go true e k f w = let h = leb-true d i e in to_true (nat_le d (suc i)) (V x) (G 0 x) (le-leb d (suc i) (omega (arith, h))) w
        go false e true f w = let h = eqb-true d (suc i) f in to_true (nat_le d (suc i)) (V x) (G 0 x) (le-leb d (suc i) (omega (arith, h))) (which_true (F c.shards) (V x) (G c.shards x) (full_last c over t body) w)
        go false e false f w = to_false (nat_le d (suc i)) (V x) (G 0 x) (sym (one_more d i (λ z. eqb-false d (suc i) f (sym z))) ∙ e) w

    pub answers_turn : (some : F 0 ≡ false)
        → Turns (Stage b t (λ d x. G 0 x) S y (O 0)) (each c.dcs (λ d. each c.shards (said d))) (Stage b t (λ d x. V x) S y (O c.dcs)) (each c.dcs (votes_of b over t body fresh)) []
    answers_turn some p h =
        let z = loop c.dcs (λ i. Stage b t (whole i) S y (O i)) (λ d. each c.shards (said d)) (votes_of b over t body fresh) (λ d. []) turn c.dcs (omega arith) p
        (with_coords b t y (λ d x. G 0 x) (whole 0) S (O 0) p (λ d x d1 d2 w. to_false (nat_le d 0) (V x) (G 0 x) (lt-leb d 0 d1) w) h) in
        record {
          after = with_coords b t y (whole c.dcs) (λ d x. V x) S (O c.dcs) _ (λ d x d1 d2 w. which_true (nat_le d c.dcs) (V x) (G 0 x) (le-leb d c.dcs d2) w) z.after;
          sends = z.sends;
          prints = z.prints ∙ none_each c.dcs;
          lasts = z.lasts;
        }
      where
        turn : (i : ℕ) → suc i ≤ c.dcs → Turns (Stage b t (whole i) S y (O i)) (each c.shards (said (suc i))) (Stage b t (whole (suc i)) S y (O (suc i))) (votes_of b over t body fresh (suc i)) []
        turn i le p h =
            let z = inner i le some c.shards (omega arith) p (with_order b t y (At i 0) S (O i) (if F 0 then O (suc i) else O i) p (rw some) (with_coords b t y (whole i) (At i 0) S (O i) p (λ d x d1 d2 w. open_up some i d x w) h)) in
            let f = full_last c over t body in
            record {
              after = with_order b t y (whole (suc i)) S (if F c.shards then O (suc i) else O i) (O (suc i)) _ (rw f) (with_coords b t y (At i c.shards) (whole (suc i)) S (if F c.shards then O (suc i) else O i) _ (λ d x d1 d2 w. close i d x w) z.after);
              sends = z.sends ∙ rw f;
              prints = z.prints;
              lasts = z.lasts;
            }
