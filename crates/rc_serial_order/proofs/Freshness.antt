-- What is granted to a transaction, for a key for which it had not asked when a commit that writes it was chosen, is not older than that.
use Rattle.std.proofs.Common.{◌≡◌, ℕ, ◌+◌, ◌≤◌, List, [], ◌∷◌, sym, ap, ◌∙◌, subst, true, Option, Some, None, arith, ⊎_elim, true≢false}
use Rattle.std.specs.Prelude.{is_some, ◌==◌, nat_lt}
use Rattle.std.specs.Ordering.{nat_cmp}
use Rattle.std.proofs.lemmas.Bool.{eq-eqb, ltb-true, ltb-false}
use Rattle.rc_ids.specs.Tables.{In, found, put}
use Rattle.rc_ids.specs.Cluster.{Layout, IsLayout, is_quorum, shard_of}
use Rattle.rc_ids.specs.Quorum.{QuorumLaws}
use Rattle.rc_ids.specs.declared.names.Outcome.{Outcome}
use Rattle.rc_ids.specs.declared.names.Outcome.TheVariants.{Commit as Committed, Abort as Aborted}
use Rattle.rc_ids.specs.declared.names.Party.{Party}
use Rattle.rc_body.specs.Bodies.{part, touched, writes}
use Rattle.rc_body.specs.Decisions.{outcome_of}
use Rattle.rc_body.specs.declared.entry.Entry.{Entry}
use Rattle.rc_body.specs.declared.decision.Decision.{Decision}
use Rattle.rc_body.specs.declared.decision.Decision.TheVariants.{Commit, Abort}
use Rattle.rc_msg.specs.declared.msg.Msg.{Msg}
use Rattle.rc_msg.specs.declared.msg.Msg.TheVariants.{ReadAsk, Granted}
use Rattle.rc_msg.specs.declared.msg.Envelope.{Envelope}
use Rattle.rc_record.specs.ShardState.{ShardDurable, version_at, shard_applied}
use Rattle.rc_protocol.specs.Messages.{coordinator, shard_server, client_of}
use Rattle.rc_protocol.specs.Shard.{holder}
use Rattle.rc_protocol.specs.Coordinator.{CoordVolatile}
use Rattle.rc_protocol.specs.Client.{Client, Grant, new_client, granted_by, best_grant}
use Rattle.rc_protocol.specs.Nodes.{ShardNode, applied, shard_after}
use Rattle.rc_runs.specs.World.{replaced}
use Rattle.rc_agreement.proofs.Cases.{on_cond, some_is}
use Rattle.rc_agreement.proofs.Tables.{found_in, put_cases, set_cases}
use Rattle.rc_agreement.proofs.Places.{server_is, shard_set}
use Rattle.rc_protocol.specs.Acts.{NodeCause, ClientCause, Hears, Reads, Writes, Commits, Cancels, Retries, Vanishes, client_by_row}
use Rattle.rc_agreement.proofs.Scenes.{Scene, at, shard_in, ThereIs, act_of, DueTo, shard_act_of, DueFor, turned, served, acted, joined_by, Keeps}
use Rattle.rc_agreement.proofs.Said.{Said}
use Rattle.rc_agreement.proofs.Ballots.{Vote, one_body}
use Rattle.rc_agreement.proofs.Agreeing.{laws_at, ready_for}
use Rattle.rc_agreement.proofs.Learning.{Learns, Ended}
use Rattle.rc_agreement.proofs.Longer.{Longer}
use Rattle.rc_agreement.proofs.Stays.{longer_self, longer_kept}
use Rattle.rc_agreement.proofs.Sends.{in_sent}
use Rattle.rc_serial_order.proofs.KeyFacts.{filter_in}
use Rattle.rc_serial_order.proofs.Locking.{no_part}
use Rattle.rc_serial_order.proofs.Means.{Drab, learned_proposal}
use Rattle.rc_serial_order.proofs.CoordSays.{SaysSo, coord_says_so}
use Rattle.rc_serial_order.proofs.Slots.{Sound, GrantsIn, slots_kept}
use Rattle.rc_serial_order.proofs.ClientKeeps.{drab_of, client_keeps}
use Rattle.rc_serial_order.proofs.Bodies.{writes_by, touched_by}
use Rattle.rc_serial_order.proofs.Stored.{Stored}
use Rattle.rc_serial_order.proofs.Conflicts.{not_both}
use Rattle.rc_serial_order.proofs.AskRows.{Grants}
use Rattle.rc_serial_order.proofs.Asking.{Routes, IsNew, Asking, asked, row, in_granted, Curious, curious_kept}

-- t reads k; A voted at b for u's commit of body, whose entry f writes k
module _ (c : Layout) (lay : IsLayout c) (t u b : ℕ) (A : List ℕ) (k : List ℕ) (body : List Entry) (f : Entry) (fi : In f body) (fk : f.key ≡ k) (fw : is_some f.write ≡ true) where
  abbrev pub low : ℕ
  low = f.version + 1

  abbrev pub G : List ℕ → Grant → Type 0
  G q g = q ≡ k → In g.dc A → low ≤ g.version

  abbrev pub W : List ℕ → ℕ → Option (List ℕ) → Type 0
  W q v y = q ≡ k → low ≤ v

  -- what is granted to t
  abbrev pub NotOld : Party → Msg → Type 0
  NotOld to (Granted w q d v y) = to ≡ client_of t → q ≡ k → In d A → low ≤ v
  NotOld to _ = Unit {0}

  pub record Fresh (s : Scene) : Type 0 where
    pub enough : is_quorum s.parties.layout A ≡ true
    pub votes : (d : ℕ) → In d A → Vote u s d b (Commit body)
    pub grants : (e : Envelope) → In e s.sent → NotOld e.to e.msg
    pub client : (x : Client) → found nat_cmp s.parties.clients t ≡ Some x → Sound G W x.slots

  -- where nobody holds k at d.sh, its version there is not below
  not_below : (s : Scene) → Stored c s → is_quorum s.parties.layout A ≡ true → ((d : ℕ) → In d A → Vote u s d b (Commit body)) → (d : ℕ) → In d A
      → holder (shard_in s d (shard_of s.parties.layout k)).durable.parts k ≡ None → low ≤ version_at (shard_in s d (shard_of s.parties.layout k)).durable.rows k
  not_below s p enough votes d i free =
      let Q = laws_at c lay 0 s (p.0.0.0 0) in
      let sh : ℕ = shard_of s.parties.layout k in
      let lay2 : IsLayout s.parties.layout = subst IsLayout (sym (p.0.0.0 u).layout) lay in
      let l : Learns s u (Commit body) = record { ballot = b; held = record { set = A; enough = enough; each = votes } } in
      let touch : In sh (touched s.parties.layout body) = subst (λ (z : List ℕ). In (shard_of s.parties.layout z) (touched s.parties.layout body)) fk (touched_by s.parties.layout lay2 body f fi) in
      let w = p.1.votes u d b body (votes d i) sh touch in
      let m = p.1.shards d sh in
      let pt = m.parts u w.part w.logged in
      let q = learned_proposal c u s (p.0.0.0 u) Q (Commit body) l in
      let same : pt.body ≡ body = one_body c u s (p.0.0.0 u) pt.ballot q.0 pt.body body pt.proposed q.1 in
      let fin : In f w.part = subst (In f) (sym (pt.is ∙ ap (part s.parties.layout sh) same)) (filter_in (λ (z : Entry). shard_of s.parties.layout z.key == sh) f body fi (eq-eqb (shard_of s.parties.layout f.key) sh (ap (shard_of s.parties.layout) fk))) in
      ⊎_elim
      (λ (a : found nat_cmp (shard_in s d sh).durable.parts u ≡ Some w.part).
      absurd (true≢false (sym (writes_by k w.part f fin fk fw) ∙ no_part (writes k) (shard_in s d sh).durable.parts free u w.part (found_in u (shard_in s d sh).durable.parts w.part a))))
      (λ (a : (e : Outcome) × (found nat_cmp (shard_in s d sh).durable.finished u ≡ Some e)).
      by a.0 a.1 (p.0.0.1.finished d sh u a.0 a.1) l (λ e. subst (λ (z : List ℕ). low ≤ version_at (shard_in s d sh).durable.rows z) fk (m.kept.rowed u w.part w.logged e f fin fw)))
      (m.kept.ever u w.part w.logged)
    where
      by : (e : Outcome) → found nat_cmp (shard_in s d (shard_of s.parties.layout k)).durable.finished u ≡ Some e → Ended s u e → Learns s u (Commit body)
          → (found nat_cmp (shard_in s d (shard_of s.parties.layout k)).durable.finished u ≡ Some Committed → low ≤ version_at (shard_in s d (shard_of s.parties.layout k)).durable.rows k) → low ≤ version_at (shard_in s d (shard_of s.parties.layout k)).durable.rows k
      by Committed i z l r = r i
      by Aborted i z l r = absurd (not_both c lay s p u body l (aborts z.decision z.is z.learned))
        where
          aborts : (o : Decision) → outcome_of o ≡ Aborted → Learns s u o → Learns s u Abort
          aborts Abort e l = l
          aborts (Commit v) e l = let bad : Committed ≡ Aborted = e in absurd (cc)

  -- SHARD SERVERS
  module _ (s : Scene) (h : Fresh s) (asks : Asking s) (d sh : ℕ) (there : ThereIs s d sh) (a : NodeCause) (due : DueTo s d sh a) where
    abbrev then : ShardDurable
    then = applied shard_applied (shard_in s d sh).durable (shard_act_of s d sh a).logs

    at_here : shard_in (served s d sh (shard_act_of s d sh a)) d sh ≡ shard_after (shard_in s d sh) (shard_act_of s d sh a)
    at_here = server_is (served s d sh (shard_act_of s d sh a)).parties d sh (shard_after (shard_in s d sh) (shard_act_of s d sh a)) (shard_set s.parties d sh (shard_in s d sh) (shard_after (shard_in s d sh) (shard_act_of s d sh a)) there)

    new_ok : Stored c (served s d sh (shard_act_of s d sh a)) → (to : Party) (m : Msg) → Grants d (applied shard_applied (shard_in s d sh).durable (shard_act_of s d sh a).logs) (shard_in s d sh).volatile a to m → NotOld to m
    new_ok p to (Granted w q e v y) g = λ _ same i.
        let z : Scene = served s d sh (shard_act_of s d sh a) in
        let e1 : e ≡ d = g.own in
        let e2 : shard_of s.parties.layout k ≡ sh = ap (shard_of s.parties.layout) (sym same) ∙ sym (asked s asks d sh there a due q w g.asked).0 in
        let n : holder (shard_in z e (shard_of s.parties.layout k)).durable.parts k ≡ None → low ≤ version_at (shard_in z e (shard_of s.parties.layout k)).durable.rows k = not_below z p h.enough h.votes e i in
        let m : holder (shard_in z d sh).durable.parts k ≡ None → low ≤ version_at (shard_in z d sh).durable.rows k =
        subst (λ (x : ℕ × ℕ). holder (shard_in z x.0 x.1).durable.parts k ≡ None → low ≤ version_at (shard_in z x.0 x.1).durable.rows k) (λ j. (e1 j, e2 j)) n in
        let o : holder then.parts k ≡ None → low ≤ version_at then.rows k = subst (λ (x : ShardNode). holder x.durable.parts k ≡ None → low ≤ version_at x.durable.rows k) at_here m in
        let l = o (subst (λ (x : List ℕ). holder then.parts x ≡ None) same g.free) in
        subst (λ n. low ≤ n) (ap (version_at then.rows) (sym same) ∙ sym g.version) l
    new_ok p to _ g = tt

    pub shard_fresh : Stored c (served s d sh (shard_act_of s d sh a)) → Fresh (served s d sh (shard_act_of s d sh a))
    shard_fresh p = record {
      enough = h.enough;
      votes = h.votes;
      grants = λ e i. ⊎_elim (λ old. h.grants e old)
          (λ new. new_ok p e.to e.msg ((row s asks d sh there a due).says.each e.to e.msg new.0))
          (in_sent s.sent (shard_server d sh) (shard_act_of s d sh a).sends e i);
      client = h.client;
    }

  -- COORDINATORS
  so_old : (cl : Layout) (d : ℕ) (v : CoordVolatile) (to : Party) (m : Msg) → SaysSo cl d v to m → NotOld to m
  so_old cl d v to (Granted w q e n y) z = absurd z
  so_old cl d v to _ z = tt

  mild_old : (to : Party) (m : Msg) → Drab m → NotOld to m
  mild_old to (Granted w q e v y) z = absurd z
  mild_old to _ z = tt

  -- votes stay
  votes_on : (s z : Scene) → Longer s z → Fresh s → (d : ℕ) → In d A → Vote u z d b (Commit body)
  votes_on s z l h d i = l.votes u d b (Commit body) (h.votes d i)

  coord_fresh : (s : Scene) (d : ℕ) (cause : NodeCause) → Longer s (turned s d (act_of s d cause)) → Fresh s → Fresh (turned s d (act_of s d cause))
  coord_fresh s d cause l h = record {
    enough = h.enough;
    votes = votes_on s (turned s d (act_of s d cause)) l h;
    grants = λ e i. ⊎_elim (λ old. h.grants e old)
        (λ new. so_old s.parties.layout d (act_of s d cause).after e.to e.msg ((coord_says_so s.parties.layout d (at s d).durable (at s d).volatile cause).says.each e.to e.msg new.0))
        (in_sent s.sent (coordinator d) (act_of s d cause).sends e i);
    client = h.client;
  }

  -- CLIENTS
  highest : (gs : List Grant) (g : Grant) → In g gs → g.version ≤ (best_grant gs).0
  highest [] g i = absurd i
  highest (x ∷ gs) g i =
      on_cond (λ (z : ℕ × Option (List ℕ)). g.version ≤ z.0) (nat_lt x.version (best_grant gs).0) (best_grant gs) (x.version, x.value)
      (λ lt. ⊎_elim (λ (e : x ≡ g). let a = ltb-true x.version (best_grant gs).0 lt in let q : x.version ≡ g.version = ap (λ (z : Grant). z.version) e in omega (arith, a, q)) (λ j. highest gs g j) i)
      (λ ge. let a = ltb-false x.version (best_grant gs).0 ge in ⊎_elim (λ (e : x ≡ g). let q : x.version ≡ g.version = ap (λ (z : Grant). z.version) e in omega (arith, q)) (λ j. let m = highest gs g j in omega (arith, a, m)) i)

  best : (cl : Layout) → QuorumLaws cl → is_quorum cl A ≡ true → (q : List ℕ) (gs : List Grant) → is_quorum cl (granted_by gs) ≡ true → ((g : Grant) → In g gs → G q g) → W q (best_grant gs).0 (best_grant gs).1
  best cl Q enough q gs e each = λ same.
      let m = Q.share (granted_by gs) A e enough in
      let g = in_granted gs m.0 m.1 in
      let l = each g.0 g.1 same (subst (λ n. In n A) (sym g.2) m.2) in
      let h = highest gs g.0 g.1 in
      omega (arith, l, h)

  grants_in : (s : Scene) → Fresh s → (w : ℕ) → w ≡ t → (x : Client) (a : ClientCause) → DueFor s w x a → GrantsIn G a
  grants_in s h w e x (Hears m) i = told m i
    where
      told : (m : Msg) → DueFor s w x (Hears m) → GrantsIn G (Hears m)
      told (Granted n q d v y) i = λ same j. h.grants (record { from = i.0; to = client_of w; msg = Granted n q d v y }) i.1 (ap client_of e) same j
      told _ i = tt
  grants_in s h w e x (Reads q) i = tt
  grants_in s h w e x (Writes q value) i = tt
  grants_in s h w e x Commits i = tt
  grants_in s h w e x (Cancels q) i = tt
  grants_in s h w e x Retries i = tt
  grants_in s h w e x Vanishes i = tt

  client_fresh : (s : Scene) → QuorumLaws s.parties.layout → Fresh s → (w : ℕ) (x : Client) (a : ClientCause) → found nat_cmp s.parties.clients w ≡ Some x → DueFor s w x a → Fresh (acted s w (client_by_row s.parties.layout w x a))
  client_fresh s Q h w x a is due =
      let y : Client = (client_by_row s.parties.layout w x a).after in
      record {
        enough = h.enough;
        votes = h.votes;
        grants = λ e i. ⊎_elim (λ old. h.grants e old)
            (λ new. mild_old e.to e.msg (drab_of s.parties.layout e.to e.msg ((client_keeps s.parties.layout w x a (ready_for s w x a due)).drab.each e.to e.msg new.0)))
            (in_sent s.sent (client_of w) (client_by_row s.parties.layout w x a).sends e i);
        client = λ z i. ⊎_elim
            (λ (e : (t ≡ w) × (found nat_cmp (replaced s.parties.clients w y) t ≡ Some y)).
            let same : y ≡ z = some_is y z (sym e.1 ∙ i) in
            subst (λ (q : Client). Sound G W q.slots) same
            (slots_kept s.parties.layout G W (best s.parties.layout Q h.enough) w x (h.client x (ap (λ n. found nat_cmp s.parties.clients n) e.0 ∙ is)) a (grants_in s h w (sym e.0) x a due)))
            (λ (e : (t ≡ w → ⊥) × (found nat_cmp (replaced s.parties.clients w y) t ≡ found nat_cmp s.parties.clients t)). h.client z (sym e.1 ∙ i))
            (set_cases t w y x s.parties.clients is);
      }

  begin_fresh : (s : Scene) (w : ℕ) → Fresh s → Fresh (joined_by s w)
  begin_fresh s w h = record {
    enough = h.enough;
    votes = h.votes;
    grants = h.grants;
    client = λ y i. ⊎_elim
        (λ (e : (t ≡ w) × (found nat_cmp (put nat_cmp s.parties.clients w new_client) t ≡ Some new_client)).
        let z : new_client ≡ y = some_is new_client y (sym e.1 ∙ i) in subst (λ (q : Client). Sound G W q.slots) z (record { each = λ x i. absurd i; differ = tt }))
        (λ (e : (t ≡ w → ⊥) × (found nat_cmp (put nat_cmp s.parties.clients w new_client) t ≡ found nat_cmp s.parties.clients t)). h.client y (sym e.1 ∙ i))
        (put_cases t w new_client s.parties.clients);
  }

  abbrev pub P : Scene → Type 0
  P s = Curious c s × Fresh s

  pub fresh_kept : Keeps P
  fresh_kept =
      let q = curious_kept c lay in
      record {
        serves = λ s d sh a there due p. let n = q.serves s d sh a there due p.0 in (n, shard_fresh s p.1 p.0.1 d sh there a due n.0);
        halts = λ s d sh r there half p. (q.halts s d sh r there half p.0, record { enough = p.1.enough; votes = p.1.votes; grants = p.1.grants; client = p.1.client });
        wakes = λ s d sh there p. (q.wakes s d sh there p.0, record { enough = p.1.enough; votes = p.1.votes; grants = p.1.grants; client = p.1.client });
        begins = λ s w new p. (q.begins s w new p.0, begin_fresh s w p.1);
        clients = λ s w x a is due p. (q.clients s w x a is due p.0, client_fresh s (laws_at c lay 0 s (p.0.0.0.0.0 0)) p.1 w x a is due);
        turns = λ s d a there due p. (q.turns s d a there due p.0, coord_fresh s d a ((longer_kept s).turns s d a there due (longer_self s)) p.1);
        stops = λ s d r there half p. (q.stops s d r there half p.0, record { enough = p.1.enough; votes = votes_on s _ ((longer_kept s).stops s d r there half (longer_self s)) p.1; grants = p.1.grants; client = p.1.client });
        starts = λ s d there p. (q.starts s d there p.0, record { enough = p.1.enough; votes = votes_on s _ ((longer_kept s).starts s d there (longer_self s)) p.1; grants = p.1.grants; client = p.1.client });
      }

  -- where t is new and has not asked for k
  pub fresh_start : (s : Scene) → Curious c s → IsNew s t → is_quorum s.parties.layout A ≡ true → ((d : ℕ) → In d A → Vote u s d b (Commit body)) → (Said s.sent (ReadAsk t k) → ⊥) → Fresh s
  fresh_start s p new enough votes none = record {
    enough = enough;
    votes = votes;
    grants = λ e i. unasked e.to e.msg (p.1.says e i);
    client = λ x is. let a = p.1.clients t x new is in record {
      each = λ y i. let r = a.each y i in record {
        grants = λ g j same _. absurd (none (subst (λ q. Said s.sent (ReadAsk t q)) same (r.grants g j)));
        done = λ v y e same. absurd (none (subst (λ q. Said s.sent (ReadAsk t q)) same (r.done v y e)));
      };
      differ = a.differ;
    };
  }
    where
      unasked : (to : Party) (m : Msg) → Routes s.parties.layout s.sent to m → NotOld to m
      unasked to (Granted x q d v y) r = λ e same i.
          let f : client_of x ≡ client_of t = sym r.0 ∙ e in let z : x ≡ t = (cc) in absurd (none (subst (λ (j : ℕ × List ℕ). Said s.sent (ReadAsk j.0 j.1)) (λ j. (z j, same j)) r.1))
      unasked to _ r = tt
