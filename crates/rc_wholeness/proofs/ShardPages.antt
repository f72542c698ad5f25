-- A row of a shard finishes only what stands in the list of its datacentre, and passes no entry of it that it has to finish.
use Rattle.std.proofs.Common.{◌≡◌, ℕ, List, [], ◌∷◌, refl, sym, ap, ◌∙◌, subst, Bool, true, false, Option, Some, None, ◌⊎◌, inl, inr, ⊎_elim, ◌+◌, length, true≢false}
use Rattle.std.specs.Prelude.{filter, is_some, is_none, ◌&&◌, ◌==◌}
use Rattle.std.specs.Ordering.{nat_cmp}
use Rattle.std.proofs.lemmas.Bool.{eqb-true}
use Rattle.rc_ids.specs.Tables.{In, Table, found, put}
use Rattle.rc_ids.specs.Cluster.{Layout, is_dc}
use Rattle.rc_ids.specs.declared.names.Outcome.{Outcome}
use Rattle.rc_ids.specs.declared.names.Party.{Party}
use Rattle.rc_body.specs.Decisions.{outcome_of}
use Rattle.rc_body.specs.declared.entry.Entry.{Entry}
use Rattle.rc_body.specs.declared.decision.Decision.{Decision}
use Rattle.rc_body.specs.declared.decision.Decision.TheVariants.{Commit, Abort}
use Rattle.rc_msg.specs.declared.msg.Msg.{Msg}
use Rattle.rc_msg.specs.declared.msg.Msg.TheVariants.{ReadAsk, ReadCancel, Prepare, Prepared, Finish, CatchAsk, CatchPage}
use Rattle.rc_record.specs.declared.record.Record.{Record}
use Rattle.rc_record.specs.declared.record.Record.TheVariants.{Head, Prepared as PartPrepared, Finished, Promised, Accepted, Decided}
use Rattle.rc_record.specs.ShardState.{ShardDurable, settled, settled_new, settled_all, shard_applied}
use Rattle.rc_protocol.specs.Messages.{coordinator, shard_server}
use Rattle.rc_protocol.specs.Shard.{ShardVolatile, ShardAct, shard_stays, test, concerns, cut_to_part, is_free, grant_of, grants, ignores_ask, on_read_ask, on_prepare, on_finish, finishes_page, forgotten, forgotten_all, unfinished, is_next_shard_page, with_shard_cursor, asks_next_shard_page, then_says, takes_page, on_catch_page, shard_row}
use Rattle.rc_protocol.specs.Nodes.{applied}
use Rattle.rc_agreement.proofs.Cases.{on_cond, on_maybe, and_left}
use Rattle.rc_agreement.proofs.Lists.{map_in}
use Rattle.rc_serial_order.proofs.KeyFacts.{filter_in}
use Rattle.rc_agreement.proofs.Tables.{put_same, put_cases, in_map}
use Rattle.rc_protocol.specs.Acts.{NodeCause, Came, Catches, Takes}
use Rattle.rc_agreement.proofs.Scenes.{Scene, at, shard_in, shard_act_of}
use Rattle.rc_agreement.proofs.Sends.{EachTo, to_none, to_one, to_both, to_map}
use Rattle.rc_agreement.proofs.ShardNotes.{settled_is}
use Rattle.rc_agreement.proofs.HonestRows.{in_filter}
use Rattle.rc_wholeness.proofs.Pages.{Page, Slice, in_slice, Ends, Passed, passed_more, passed_page}

-- what comes to a shard from its coordinator stands in the list of that; what a shard asks for it asks its own coordinator for
abbrev pub Cites : Scene → Party → Party → Msg → Type 0
Cites s from to (Finish t o) = (d sh : ℕ) → to ≡ shard_server d sh → (p : Decision) × In (t, p) (at s d).durable.outcomes × (o ≡ cut_to_part s.parties.layout sh p)
Cites s from to (CatchAsk p) = (d sh : ℕ) → from ≡ shard_server d sh → to ≡ coordinator d
Cites s from to (CatchPage e p es) = (d sh : ℕ) → to ≡ shard_server d sh → Slice p es (at s d).durable.outcomes
Cites s from to _ = Unit {0}

-- what a shard says
abbrev pub Asks : ℕ → Party → Msg → Type 0
Asks d to (Finish t o) = ⊥
Asks d to (CatchPage e p es) = ⊥
Asks d to (CatchAsk p) = to ≡ coordinator d
Asks d to _ = Unit {0}

-- who ends by this record stands in the list
abbrev pub Enders : Scene → ℕ → Option Record → Type 0
Enders s d (Some (Finished es)) = (t : ℕ) (o : Decision) → In (t, o) es → (p : Decision) × In (t, p) (at s d).durable.outcomes × (outcome_of p ≡ outcome_of o)
Enders s d _ = Unit {0}

pub cut_outcome : (s : Scene) (sh : ℕ) (o : Decision) → outcome_of (cut_to_part s.parties.layout sh o) ≡ outcome_of o
cut_outcome s sh Abort = refl
cut_outcome s sh (Commit b) = refl

-- ENDS grow
ends_settled : (x : ShardDurable) (t : ℕ) (o : Decision) (u : ℕ) → (Ends x.finished u → Ends (settled x t o).finished u) × Ends (settled x t o).finished t
ends_settled x t o u =
    let now = settled_is x t o in (
      (λ h. subst (λ (f : Table ℕ Outcome). Ends f u) (sym now) (⊎_elim
          (λ (e : (u ≡ t) × (found nat_cmp (put nat_cmp x.finished t (outcome_of o)) u ≡ Some (outcome_of o))). ap is_some e.1)
          (λ (e : (u ≡ t → ⊥) × (found nat_cmp (put nat_cmp x.finished t (outcome_of o)) u ≡ found nat_cmp x.finished u)). ap is_some e.1 ∙ h)
          (put_cases u t (outcome_of o) x.finished))),
      subst (λ (f : Table ℕ Outcome). Ends f t) (sym now) (ap is_some (put_same t (outcome_of o) x.finished)),
    )

ends_new : (x : ShardDurable) (e : ℕ × Decision) (u : ℕ) → (Ends x.finished u → Ends (settled_new x e).finished u) × Ends (settled_new x e).finished e.0
ends_new x e u =
    on_maybe (λ (z : ShardDurable). (Ends x.finished u → Ends z.finished u) × Ends z.finished e.0) (found nat_cmp x.finished e.0) _ _
    (λ _. ends_settled x e.0 e.1 u) (λ b is. ((λ h. h), ap is_some is))

pub ends_all : (x : ShardDurable) (es : Page) (u : ℕ) → (Ends x.finished u → Ends (settled_all x es).finished u) × ((o : Decision) → In (u, o) es → Ends (settled_all x es).finished u)
ends_all x [] u = ((λ h. h), (λ o i. absurd i))
ends_all x (e ∷ es) u =
    let r = ends_all (settled_new x e) es u in
    let k = ends_new x e u in
    ((λ h. r.0 (k.0 h)), (λ o i. ⊎_elim (λ (same : e ≡ (u, o)). let f : e.0 ≡ u = ap (λ (z : ℕ × Decision). z.0) same in r.0 (subst (λ n. Ends (settled_new x e).finished n) f k.1)) (λ j. r.1 o j) i))

pub ends_kept : (r : Option Record) (x : ShardDurable) (u : ℕ) → Ends x.finished u → Ends (applied shard_applied x r).finished u
ends_kept None x u h = h
ends_kept (Some (Finished es)) x u h = (ends_all x es u).0 h
ends_kept (Some (PartPrepared t p)) x u h = h
ends_kept (Some (Head p)) x u h = h
ends_kept (Some (Promised t b)) x u h = h
ends_kept (Some (Accepted t b o)) x u h = h
ends_kept (Some (Decided p)) x u h = h

forgotten_place : (v : ShardVolatile) (es : Page) → (forgotten_all v es).cursor ≡ v.cursor
forgotten_place v [] = refl
forgotten_place v (e ∷ es) = forgotten_place (forgotten v e.0) es

none_of : {A : Type 0} (o : Option A) → is_some o ≡ false → is_none o ≡ true
none_of None e = refl
none_of (Some x) e = absurd (true≢false e)

-- what a filter lets through stays
pub record PageRow (s : Scene) (d sh : ℕ) (a : ShardAct) : Type 0 where
  pub says : EachTo (Asks d) a.sends
  pub enders : Enders s d a.logs
  pub passed : Passed s.parties.layout sh (applied shard_applied (shard_in s d sh).durable a.logs).finished a.after.cursor (at s d).durable.outcomes

module _ (s : Scene) (d sh : ℕ) (old : Passed s.parties.layout sh (shard_in s d sh).durable.finished (shard_in s d sh).volatile.cursor (at s d).durable.outcomes) where
  abbrev cl : Layout
  cl = s.parties.layout

  abbrev dur : ShardDurable
  dur = (shard_in s d sh).durable

  abbrev vol : ShardVolatile
  vol = (shard_in s d sh).volatile

  abbrev list : Page
  list = (at s d).durable.outcomes

  abbrev R : ShardAct → Type 0
  R a = PageRow s d sh a

  -- the place is as before
  stays_so : (a : ShardAct) → EachTo (Asks d) a.sends → Enders s d a.logs → a.after.cursor ≡ vol.cursor → R a
  stays_so a m n e =
      record {
        says = m;
        enders = n;
        passed = subst (λ k. Passed cl sh (applied shard_applied dur a.logs).finished k list) (sym e)
            (passed_more cl sh dur.finished (applied shard_applied dur a.logs).finished vol.cursor list (λ t h. ends_kept a.logs dur t h) old);
      }

  idle : R (shard_stays vol)
  idle = stays_so (shard_stays vol) (to_none (Asks d)) tt refl

  grants_ask : (z : ShardDurable) (v : ShardVolatile) → EachTo (Asks d) (grants d z v)
  grants_ask z v = to_map (Asks d) (grant_of d z.rows) (filter (is_free z.parts) v.waiting) (λ m. tt)

  next_asks : (place : ℕ) (es : Page) → EachTo (Asks d) (asks_next_shard_page d place es)
  next_asks place es = on_cond (EachTo (Asks d)) (length es == 64) _ _ (λ _. to_one (Asks d) (coordinator d) (CatchAsk (place + length es)) refl) (λ _. to_none (Asks d))

  read_ask : (t : ℕ) (k : List ℕ) → R (on_read_ask d dur vol t k)
  read_ask t k =
      on_cond R (ignores_ask dur vol t k) _ _ (λ _. idle)
      (λ _. on_cond R (is_free dur.parts (k, t)) _ _
      (λ _. stays_so _ (to_one (Asks d) (grant_of d dur.rows (k, t)).0 (grant_of d dur.rows (k, t)).1 tt) tt refl)
      (λ _. stays_so _ (to_none (Asks d)) tt refl))

  prepare : (t : ℕ) (p : List Entry) → R (on_prepare d sh dur vol t p)
  prepare t p =
      on_cond R (is_some (found nat_cmp dur.finished t)) _ _ (λ _. idle)
      (λ _. on_cond R (is_some (found nat_cmp dur.parts t)) _ _
      (λ _. stays_so _ (to_one (Asks d) (coordinator d) (Prepared t sh None) tt) tt refl)
      (λ _. on_maybe R (test dur vol t p) _ _
      (λ _. stays_so _ (to_one (Asks d) (coordinator d) (Prepared t sh None) tt) tt refl)
      (λ r _. stays_so _ (to_one (Asks d) (coordinator d) (Prepared t sh (Some r)) tt) tt refl)))

  finish : (t : ℕ) (o : Decision) → (p : Decision) × In (t, p) list × (o ≡ cut_to_part cl sh p) → R (on_finish d dur vol t o)
  finish t o x =
      on_cond R (is_some (found nat_cmp dur.finished t)) _ _ (λ _. idle)
      (λ _. stays_so (finishes_page d dur vol ((t, o) ∷ [])) (grants_ask (settled_all dur ((t, o) ∷ [])) (forgotten_all vol ((t, o) ∷ [])))
      (λ u q i. ⊎_elim
      (λ (e : (t, o) ≡ (u, q)). subst (λ (z : ℕ × Decision). (p : Decision) × In (z.0, p) list × (outcome_of p ≡ outcome_of z.1)) e (x.0, x.1, sym (ap outcome_of x.2 ∙ cut_outcome s sh x.0)))
      (λ n. absurd n) i) refl)

  abbrev left : ℕ × Decision → Bool
  left e = is_none (found nat_cmp dur.finished e.0) && concerns cl sh e.1

  -- a page of the list
  page : (place : ℕ) (es : Page) → Slice place es list → R (on_catch_page cl d sh dur vol place es)
  page place es slice =
      on_cond R (is_next_shard_page vol place es) _ _
      (λ t. takes (eqb-true place vol.cursor (and_left (place == vol.cursor) _ t)) (unfinished cl sh dur es) enders all)
      (λ _. idle)
    where
      enders : (t : ℕ) (o : Decision) → In (t, o) (unfinished cl sh dur es) → (p : Decision) × In (t, p) list × (outcome_of p ≡ outcome_of o)
      enders t o i =
          let x = in_map (λ (e : ℕ × Decision). (e.0, cut_to_part cl sh e.1)) (t, o) (filter left es) i in
          subst (λ (z : ℕ × Decision). (p : Decision) × In (z.0, p) list × (outcome_of p ≡ outcome_of z.1)) x.2
          (x.0.1, in_slice place es list x.0 slice (in_filter left x.0 es x.1), sym (cut_outcome s sh x.0.1))

      all : (t : ℕ) (o : Decision) → In (t, o) es → concerns cl sh o ≡ true → Ends dur.finished t ⊎ ((p : Decision) × In (t, p) (unfinished cl sh dur es))
      all t o i w = go (is_some (found nat_cmp dur.finished t)) refl
        where
          go : (b : Bool) → is_some (found nat_cmp dur.finished t) ≡ b → Ends dur.finished t ⊎ ((p : Decision) × In (t, p) (unfinished cl sh dur es))
          go true e = inl e
          go false e = inr (cut_to_part cl sh o, map_in (λ (e : ℕ × Decision). (e.0, cut_to_part cl sh e.1)) (t, o) (filter left es) (filter_in left (t, o) es i (rw (none_of _ e, w))))

      takes : place ≡ vol.cursor → (new : Page) → ((t : ℕ) (o : Decision) → In (t, o) new → (p : Decision) × In (t, p) list × (outcome_of p ≡ outcome_of o))
          → ((t : ℕ) (o : Decision) → In (t, o) es → concerns cl sh o ≡ true → Ends dur.finished t ⊎ ((p : Decision) × In (t, p) new))
          → R (then_says (takes_page d dur (with_shard_cursor vol (place + length es)) new) (asks_next_shard_page d place es))
      takes same [] n h =
          record {
            says = to_both (Asks d) [] _ (to_none (Asks d)) (next_asks place es);
            enders = tt;
            passed = subst (λ k. Passed cl sh dur.finished (k + length es) list) (sym same)
                (passed_page cl sh dur.finished vol.cursor es list (subst (λ k. Slice k es list) same slice) (λ t o i w. ⊎_elim (λ a. a) (λ (b : (p : Decision) × ⊥). absurd b.1) (h t o i w)) old);
          }
      takes same (x ∷ xs) n h =
          let z : ShardDurable = settled_all dur (x ∷ xs) in
          record {
            says = to_both (Asks d) _ _ (grants_ask z (forgotten_all (with_shard_cursor vol (place + length es)) (x ∷ xs))) (next_asks place es);
            enders = n;
            passed = subst (λ k. Passed cl sh z.finished k list) (ap (λ k. k + length es) (sym same) ∙ sym (forgotten_place (with_shard_cursor vol (place + length es)) (x ∷ xs)))
                (passed_page cl sh z.finished vol.cursor es list (subst (λ k. Slice k es list) same slice)
                (λ t o i w. ⊎_elim (λ a. (ends_all dur (x ∷ xs) t).0 a) (λ (b : (p : Decision) × In (t, p) (x ∷ xs)). (ends_all dur (x ∷ xs) t).1 b.0 b.1) (h t o i w))
                (passed_more cl sh dur.finished z.finished vol.cursor list (λ t e. (ends_all dur (x ∷ xs) t).0 e) old));
          }

  pub page_row : (k : NodeCause) → ((from : Party) (m : Msg) → k ≡ Came from m → Cites s from (shard_server d sh) m) → R (shard_act_of s d sh k)
  page_row Catches h = stays_so _ (to_one (Asks d) (coordinator d) (CatchAsk vol.cursor) refl) tt refl
  page_row (Takes t) h = idle
  page_row (Came from m) h = comes m (h from m refl)
    where
      comes : (m : Msg) → Cites s from (shard_server d sh) m → R (shard_row cl d sh dur vol m)
      comes (ReadAsk t k) x = read_ask t k
      comes (ReadCancel t k) x = stays_so _ (to_none (Asks d)) tt refl
      comes (Prepare t p) x = prepare t p
      comes (Finish t o) x = finish t o (x d sh refl)
      comes (CatchPage e place es) x = on_cond R (is_dc cl e) _ _ (λ _. page place es (x d sh refl)) (λ _. idle)
      comes _ x = idle
