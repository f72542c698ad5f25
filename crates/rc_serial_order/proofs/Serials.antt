-- The committed transactions, after those of earlier lives, each read the versions that the earlier ones left; every move keeps it.
use Rattle.std.proofs.Common.{◌≡◌, ℕ, suc, ◌+◌, ◌≤◌, List, [], ◌∷◌, ◌++◌, refl, sym, ap, ◌∙◌, subst, Bool, true, false, Option, Some, None, arith, ◌⊎◌, inl, inr, ⊎_elim, true≢false, append_assoc}
use Rattle.std.specs.Prelude.{is_some, ◌||◌, ◌==◌}
use Rattle.std.specs.Ordering.{nat_cmp}
use Rattle.std.proofs.lemmas.Bool.{eqb-true, eq-eqb}
use Rattle.rc_ids.specs.Tables.{In, found}
use Rattle.rc_ids.specs.Cluster.{Layout, IsLayout, shard_of}
use Rattle.rc_ids.specs.Quorum.{QuorumLaws}
use Rattle.rc_ids.specs.declared.names.Outcome.{Outcome}
use Rattle.rc_ids.specs.declared.names.Outcome.TheVariants.{Commit as Committed, Abort as Aborted}
use Rattle.rc_body.specs.Bodies.{part, touched}
use Rattle.rc_body.specs.Decisions.{outcome_of}
use Rattle.rc_body.specs.declared.entry.Entry.{Entry}
use Rattle.rc_body.specs.declared.decision.Decision.{Decision}
use Rattle.rc_body.specs.declared.decision.Decision.TheVariants.{Commit, Abort}
use Rattle.rc_msg.specs.declared.msg.Envelope.{Envelope}
use Rattle.rc_record.specs.declared.record.Record.{Record}
use Rattle.rc_record.specs.declared.record.Record.TheVariants.{Head, Prepared, Finished, Promised, Accepted, Decided}
use Rattle.rc_record.specs.CoordState.{CoordDurable}
use Rattle.rc_protocol.specs.Coordinator.{CoordVolatile}
use Rattle.rc_protocol.specs.Client.{KeyRead, NotRead, UnderWay, Complete, version_read, entry_of, body_of}
use Rattle.rc_protocol.specs.Nodes.{CoordNode, logged}
use Rattle.rc_runs.specs.Votes.{is_listed, is_chosen_at, ordered}
use Rattle.rc_runs.specs.World.{with_coord, new_world}
use Rattle.rc_agreement.proofs.Cases.{on_cond, or_case}
use Rattle.rc_agreement.proofs.Tables.{in_left, in_right, in_either, in_map}
use Rattle.rc_agreement.proofs.Places.{node_is, coord_set, put_each}
use Rattle.rc_agreement.proofs.Scenes.{Scene, scene, at, shard_in, There, act_of, Keeps}
use Rattle.rc_agreement.proofs.Ballots.{Vote, Agreeing, one_body}
use Rattle.rc_agreement.proofs.Votes.{old_vote}
use Rattle.rc_agreement.proofs.Agreeing.{laws_at}
use Rattle.rc_agreement.proofs.Choices.{ChosenIn, choice_of, chosen_of}
use Rattle.rc_agreement.proofs.Agreed.{one_outcome}
use Rattle.rc_agreement.proofs.Learning.{Learns, learned_choice, Ended}
use Rattle.rc_agreement.proofs.Longer.{Longer, longer_logged, learns_on}
use Rattle.rc_agreement.proofs.Lists.{any_some, any_of, map_in}
use Rattle.rc_serial_order.proofs.KeyFacts.{filter_in}
use Rattle.rc_serial_order.proofs.Locking.{Before}
use Rattle.rc_serial_order.proofs.Means.{Wrote, Written, learned_proposal}
use Rattle.rc_serial_order.proofs.Slots.{Granting, SlotIs}
use Rattle.rc_serial_order.proofs.Stored.{Stored, stored_kept}
use Rattle.rc_serial_order.proofs.Conflicts.{one_won, not_both, won_chosen, backed_learns, ordered_learns, older}
use Rattle.rc_serial_order.proofs.Steps.{Steps, next}
use Rattle.rc_serial_order.proofs.Bodies.{bodies, bodies_end, writes_find, writes_by, touched_by}

-- the order of earlier lives before that of this one
abbrev pub order_of : List (ℕ × List Entry) → Scene → List (ℕ × List Entry)
order_of past s = past ++ s.parties.committed

pub record Serial (past : List (ℕ × List Entry)) (s : Scene) : Type 0 where
  pub explains : Steps (λ _. 0) (bodies (order_of past s))
  pub earlier : (t : ℕ) (body : List Entry) → In (t, body) past → Learns s t (Commit body)
  pub into : (t : ℕ) (body : List Entry) → In (t, body) past → In (t, body) s.parties.start.committed
  pub from : (t : ℕ) (body : List Entry) → In (t, body) s.parties.start.committed → In (t, body) past

pub listed_in : (t : ℕ) (xs : List (ℕ × List Entry)) → is_listed xs t ≡ true → (body : List Entry) × In (t, body) xs
listed_in t xs h = let r = any_of (λ (x : ℕ × List Entry). x.0 == t) xs h in let e : r.0.0 ≡ t = eqb-true r.0.0 t r.2 in (r.0.1, subst (λ z. In (z, r.0.1) xs) e r.1)

-- WHAT IS LEARNED stands in the order, or came before it
module _ (c : Layout) (lay : IsLayout c) (s : Scene) (p : Stored c s) (past : List (ℕ × List Entry)) (h : Serial past s) where
  pub all_learned : (t : ℕ) (x : List Entry) → In (t, x) (order_of past s) → Learns s t (Commit x)
  all_learned t x i = ⊎_elim (λ a. h.earlier t x a) (λ b. ordered_learns c lay s p t x b) (in_either (t, x) past s.parties.committed i)

  pub learned_ordered : (t : ℕ) (x : List Entry) → Learns s t (Commit x) → In (t, x) (order_of past s)
  learned_ordered t x l =
      ⊎_elim
      (λ (a : is_listed s.parties.start.committed t ≡ true).
      let w = listed_in t s.parties.start.committed a in
      let o = h.from t w.0 w.1 in
      let e = one_won c lay s p t w.0 x (h.earlier t w.0 o) l in
      in_left (t, x) past s.parties.committed (subst (λ (y : List Entry). In (t, y) past) e o))
      (λ (a : is_listed s.parties.committed t ≡ true).
      let w = listed_in t s.parties.committed a in
      let e = one_won c lay s p t w.0 x (ordered_learns c lay s p t w.0 w.1) l in
      in_right (t, x) past s.parties.committed (subst (λ (y : List Entry). In (t, y) s.parties.committed) e w.1))
      (or_case (is_listed s.parties.start.committed t) (is_listed s.parties.committed t) (p.0.1.all t (won_chosen c lay s p t x l)))

-- A COORDINATOR'S RECORD
module _ (c : Layout) (lay : IsLayout c) (past : List (ℕ × List Entry)) (s : Scene) (p : Stored c s) (h : Serial past s) (d : ℕ) (there : There s d) (up : Bool) (r : Option Record) (x : CoordDurable) (v : CoordVolatile) (sent : List Envelope) where
  abbrev y : CoordNode
  y = record { up = up; log = logged (at s d).log r; durable = x; volatile = v }

  abbrev z : Scene
  z = record { parties = with_coord s.parties d y r; sent = sent }

  longer : Longer s z
  longer = longer_logged s d there y r refl sent

  module _ (q : Stored c z) where
    abbrev all : List (ℕ × List Entry)
    all = past ++ s.parties.committed

    -- an entry's version is of a write that was chosen before
    read_of : (t : ℕ) (body : List Entry) → Learns z t (Commit body) → (e : Entry) → In e body → (e.version ≡ 0) ⊎ ((w : Option (List ℕ)) × Wrote s e.key e.version w)
    read_of t body l e i =
        let m = learned_proposal c t z (q.0.0.0 t) (laws_at c lay t z (q.0.0.0 t)) (Commit body) l in
        let w = q.1.bodies t (Commit body) ((q.0.0.0 t).root m.0 body m.1) in
        let same : Commit body ≡ Commit (body_of w.0.slots) = w.3 in
        let g : body ≡ body_of w.0.slots = (cc) in
        let j = in_map entry_of e w.0.slots (subst (In e) g i) in
        let k = (p.1.clients t w.0 w.1).each j.0 j.1 in
        subst (λ (a : Entry). (a.version ≡ 0) ⊎ ((w : Option (List ℕ)) × Wrote s a.key a.version w)) j.2 (by j.0.key j.0.read k)
      where
        by : (k : List ℕ) (a : KeyRead) → SlotIs (Granting (Written s)) (Written s) k a → (version_read a ≡ 0) ⊎ ((w : Option (List ℕ)) × Wrote s k (version_read a) w)
        by k NotRead a = inl refl
        by k (UnderWay n gs) a = inl refl
        by k (Complete n b) a = ⊎_elim (λ (g : (n ≡ 0) × (b ≡ None)). inl g.0) (λ g. inr (b, g)) (a.done n b refl)

    -- what was chosen before does not join now
    unknown : (u : ℕ) → (is_listed s.parties.start.committed u || is_listed s.parties.committed u) ≡ false → (w : List Entry) → Learns s u (Commit w) → ⊥
    unknown u unlisted w l = true≢false (sym (p.0.1.all u (won_chosen c lay s p u w l)) ∙ unlisted)

    unfinished : (u : ℕ) (body : List Entry) → (is_listed s.parties.start.committed u || is_listed s.parties.committed u) ≡ false → Learns z u (Commit body)
        → (e sh : ℕ) (o : Outcome) → found nat_cmp (shard_in s e sh).durable.finished u ≡ Some o → ⊥
    unfinished u body unlisted won e sh o is = let k = p.0.0.1.finished e sh u o is in by k.decision k.learned
      where
        by : (a : Decision) → Learns s u a → ⊥
        by (Commit w) l = unknown u unlisted w l
        by Abort l = not_both c lay z q u body won (learns_on s z longer u Abort l)

    pair_in : (body : List Entry) → In body (bodies all) → (t : ℕ) × In (t, body) all
    pair_in body i = let w = in_map (λ (e : ℕ × List Entry). e.1) body all i in let e : w.0.1 ≡ body = w.2 in (w.0.0, subst (λ (k : List Entry). In (w.0.0, k) all) e w.1)

    -- u joins the order
    joins : (u b : ℕ) (body : List Entry) → r ≡ Some (Accepted u b (Commit body)) → is_chosen_at s.parties.layout z.parties.coords Committed u b ≡ true
        → (is_listed s.parties.start.committed u || is_listed s.parties.committed u) ≡ false → Steps (λ _. 0) (bodies (past ++ (s.parties.committed ++ (u, body) ∷ [])))
    joins u b body is now unlisted =
        let here : Vote u z d b (Commit body) = subst (λ (n : CoordNode). In (Accepted u b (Commit body)) n.log) (sym (node_is z.parties d y (coord_set s.parties d (at s d) y r there)))
        (subst (λ (o : Option Record). In (Accepted u b (Commit body)) (logged (at s d).log o)) (sym is) (in_right (Accepted u b (Commit body)) (at s d).log (Accepted u b (Commit body) ∷ []) (inl refl))) in
        let won : Learns z u (Commit body) = backed_learns c lay z q u body d b here (b, now) in
        subst (λ (o : List (ℕ × List Entry)). Steps (λ _. 0) (bodies o)) (append_assoc past s.parties.committed ((u, body) ∷ []))
        (subst (Steps (λ _. 0)) (sym (bodies_end all (u, body)))
        (next (bodies all) body h.explains writes_find writes_by
        (λ e i n w.
        let t = pair_in w.body w.among in
        let l = all_learned c lay s p past h t.0 w.body t.1 in
        let a = older c lay z q u body won (unfinished u body unlisted won) t.0 w.body (λ g. unknown u unlisted w.body (subst (λ k. Learns s k (Commit w.body)) g l)) (learns_on s z longer t.0 (Commit w.body) l) e w.entry i w.within w.key w.write in
        let k : w.entry.version ≡ n = w.version in omega (arith, a, k))
        (λ e i. ⊎_elim inl
        (λ (a : (w : Option (List ℕ)) × Wrote s e.key e.version w).
        let g = a.1 in
        let m = map_in (λ (k : ℕ × List Entry). k.1) (g.tx, g.body) all (learned_ordered c lay s p past h g.tx g.body g.chosen) in
        inr (g.entry.version, g.version, record { body = g.body; entry = g.entry; among = m; within = g.among; key = g.key; write = ap is_some g.write ∙ g.some; version = refl }))
        (read_of u body won e i))))

    abbrev Explained : List (ℕ × List Entry) → Type 0
    Explained o = Steps (λ _. 0) (bodies (past ++ o))

    after : (o : Option Record) → r ≡ o → Explained (ordered s.parties.layout z.parties.coords s.parties.start.committed s.parties.committed o)
    after None is = h.explains
    after (Some (Accepted u b (Commit body))) is =
        on_cond Explained (is_listed s.parties.start.committed u || is_listed s.parties.committed u) _ _ (λ _. h.explains)
        (λ unlisted. on_cond Explained (is_chosen_at s.parties.layout z.parties.coords Committed u b) _ _ (λ now. joins u b body is now unlisted) (λ _. h.explains))
    after (Some (Accepted u b Abort)) is = h.explains
    after (Some (Promised u b)) is = h.explains
    after (Some (Decided es)) is = h.explains
    after (Some (Head m)) is = h.explains
    after (Some (Prepared u m)) is = h.explains
    after (Some (Finished es)) is = h.explains

    pub serial_after : Serial past z
    serial_after = record { explains = after r refl; earlier = λ t body i. learns_on s z longer t (Commit body) (h.earlier t body i); into = h.into; from = h.from }

-- ALL MOVES
abbrev pub Serialised : Layout → List (ℕ × List Entry) → Scene → Type 0
Serialised c past s = Stored c s × Serial past s

pub serial_kept : (c : Layout) → IsLayout c → (past : List (ℕ × List Entry)) → Keeps (Serialised c past)
serial_kept c lay past =
    let k = stored_kept c lay in
    record {
      turns = λ s d a there due p. let q = k.turns s d a there due p.0 in (q, serial_after c lay past s p.0 p.1 d there (at s d).up (act_of s d a).logs _ (act_of s d a).after _ q);
      stops = λ s d r there half p. let q = k.stops s d r there half p.0 in (q, serial_after c lay past s p.0 p.1 d there false r _ _ s.sent q);
      starts = λ s d there p. let q = k.starts s d there p.0 in (q, serial_after c lay past s p.0 p.1 d there true None _ _ s.sent q);
      serves = λ s d sh a there due p. (k.serves s d sh a there due p.0, record { explains = p.1.explains; earlier = λ t body i. let l = p.1.earlier t body i in record { ballot = l.ballot; held = l.held }; into = p.1.into; from = p.1.from });
      halts = λ s d sh r there half p. (k.halts s d sh r there half p.0, record { explains = p.1.explains; earlier = λ t body i. let l = p.1.earlier t body i in record { ballot = l.ballot; held = l.held }; into = p.1.into; from = p.1.from });
      wakes = λ s d sh there p. (k.wakes s d sh there p.0, record { explains = p.1.explains; earlier = λ t body i. let l = p.1.earlier t body i in record { ballot = l.ballot; held = l.held }; into = p.1.into; from = p.1.from });
      begins = λ s u new p. (k.begins s u new p.0, record { explains = p.1.explains; earlier = λ t body i. let l = p.1.earlier t body i in record { ballot = l.ballot; held = l.held }; into = p.1.into; from = p.1.from });
      clients = λ s u x a is due p. (k.clients s u x a is due p.0, record { explains = p.1.explains; earlier = λ t body i. let l = p.1.earlier t body i in record { ballot = l.ballot; held = l.held }; into = p.1.into; from = p.1.from });
    }

pub new_serial : (c : Layout) → Serial [] (scene (new_world c))
new_serial c = record { explains = tt; earlier = λ t body i. absurd i; into = λ t body i. absurd i; from = λ t body i. absurd i }
