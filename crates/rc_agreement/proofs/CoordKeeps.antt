-- What a coordinator's act keeps of a transaction.
use Rattle.std.proofs.Common.{◌≡◌, ℕ, ◌<◌, ◌≤◌, ◌≢◌, List, [], ◌∷◌, ◌++◌, refl, sym, ap, ◌∙◌, subst, Bool, true, false, Option, Some, None, arith, ◌⊎◌, inl, inr, ⊎_elim, true≢false}
use Rattle.std.specs.Prelude.{◌&&◌}
use Rattle.std.specs.List.{list_all}
use Rattle.std.specs.Ordering.{nat_cmp}
use Rattle.rc_ids.specs.Tables.{In, found, member}
use Rattle.rc_ids.specs.Cluster.{Layout, IsLayout, all_dcs, is_quorum, owner_of, next_number}
use Rattle.rc_ids.specs.Quorum.{QuorumLaws}
use Rattle.rc_ids.proofs.QuorumFacts.{in-member}
use Rattle.rc_ids.proofs.BallotFacts.{next_is_least}
use Rattle.rc_body.specs.declared.entry.Entry.{Entry}
use Rattle.rc_body.specs.declared.decision.Decision.{Decision}
use Rattle.rc_body.specs.declared.decision.Decision.TheVariants.{Commit, Abort}
use Rattle.rc_msg.specs.declared.msg.Msg.TheVariants.{Propose, Promise}
use Rattle.rc_record.specs.declared.record.Record.TheVariants.{Promised, Accepted}
use Rattle.rc_record.specs.CoordState.{CoordDurable, promise_of, coord_applied}
use Rattle.rc_protocol.specs.Messages.{coordinator}
use Rattle.rc_protocol.specs.Coordinator.{CoordAct, TakeoverState, chooses, chooses_eagerly, chooses_patiently, best_or_abort, proposed}
use Rattle.rc_protocol.specs.Nodes.{CoordNode, applied, logged}
use Rattle.rc_runs.specs.World.{envelopes, with_coord}
use Rattle.rc_agreement.proofs.Cases.{on_cond, some_is, never, nat_dec}
use Rattle.rc_agreement.proofs.Places.{node_is, coord_set, put_each}
use Rattle.rc_agreement.proofs.Scenes.{Scene, at, There}
use Rattle.rc_agreement.proofs.Promises.{replay_logged, applied_grows, applied_covers}
use Rattle.rc_agreement.proofs.Said.{Says, said_more, said_new}
use Rattle.rc_agreement.proofs.Ballots.{Reported, Within, Held, Proposal, Answer, Vote, promise_at, Tops, Opens, Fine, Agreeing, Proposing, Answering, Opened, Good}
use Rattle.rc_agreement.proofs.Reports.{within_trans}
use Rattle.rc_agreement.proofs.Votes.{new_vote, old_vote, kept_real, kept_top, kept_promised}

abbrev pub node_after : Scene → ℕ → Bool → CoordAct → CoordNode
node_after s d up a = record { up = up; log = logged (at s d).log a.logs; durable = applied coord_applied (at s d).durable a.logs; volatile = a.after }

-- d has this record, this volatile state, and has said this
abbrev pub moved : Scene → ℕ → Bool → CoordAct → Scene
moved s d up a =
    record {
      parties = with_coord s.parties d (node_after s d up a) a.logs;
      sent = s.sent ++ envelopes (coordinator d) a.sends;
    }

pub all_heard : (heard ds : List ℕ) → list_all (λ x. member nat_cmp heard x) ds ≡ true → (e : ℕ) → In e ds → In e heard
all_heard heard [] all e h = absurd h
all_heard heard (x ∷ ds) all e (inl is) = subst (λ z. In z heard) is (in-member heard x (fst _ _ all))
  where
    fst : (u v : Bool) → (u && v) ≡ true → u ≡ true
    fst true v e = refl
    fst false v e = e
all_heard heard (x ∷ ds) all e (inr h) = all_heard heard ds (snd _ _ all) e h
  where
    snd : (u v : Bool) → (u && v) ≡ true → v ≡ true
    snd true v e = e
    snd false v e = absurd (true≢false (sym e))

module _ (c : Layout) (lay : IsLayout c) (tx : ℕ) (s : Scene) (i : Agreeing c tx s) (d : ℕ) (there : There s d) (up : Bool) (a : CoordAct) (g : Good tx s d a) where
  abbrev z : Scene
  z = moved s d up a

  abbrev y : CoordNode
  y = node_after s d up a

  at_d : at z d ≡ y
  at_d = node_is z.parties d y (coord_set s.parties d (at s d) y a.logs there)

  each_node : (Q : ℕ → CoordNode → Type 0) → ((e : ℕ) → (e ≡ d → ⊥) → Q e (at s e)) → Q d y → (e : ℕ) → Q e (at z e)
  each_node Q others one = put_each Q s.parties d (at s d) y a.logs there others one

  prom_up : (e : ℕ) → promise_at tx s e ≤ promise_at tx z e
  prom_up = each_node (λ e z. promise_at tx s e ≤ promise_of z.durable.promises tx) (λ e _. omega arith) (applied_grows a.logs (at s d).durable tx)

  vote_old : (e b : ℕ) (o : Decision) → Vote tx s e b o → Vote tx z e b o
  vote_old e b o = each_node (λ e z. Vote tx s e b o → In (Accepted tx b o) z.log) (λ e _ h. h) (λ h. old_vote a.logs (at s d).log (Accepted tx b o) h) e

  vote_new : (e b : ℕ) (o : Decision) → Vote tx z e b o → Vote tx s e b o ⊎ ((e ≡ d) × (a.logs ≡ Some (Accepted tx b o)))
  vote_new e b o =
      each_node (λ e z. In (Accepted tx b o) z.log → Vote tx s e b o ⊎ ((e ≡ d) × (a.logs ≡ Some (Accepted tx b o))))
      (λ e _ h. inl h)
      (λ h. ⊎_elim inl (λ (is : a.logs ≡ Some (Accepted tx b o)). inr (refl, is)) (new_vote a.logs (at s d).log (Accepted tx b o) h)) e

  prop_old : (b : ℕ) (o : Decision) → Proposal tx s b o → Proposal tx z b o
  prop_old b o h = said_more s.sent _ (Propose tx b o) h

  prom_old : (b e : ℕ) (r : Reported) → Answer tx s b e r → Answer tx z b e r
  prom_old b e r h = said_more s.sent _ (Promise tx b e r) h

  -- a proposal: an old one, or this act's
  prop_said : (b : ℕ) (o : Decision) → Proposal tx z b o → Proposal tx s b o ⊎ Says a.sends (Propose tx b o)
  prop_said b o h = said_new s.sent (coordinator d) a.sends (Propose tx b o) h

  prop_new : (b : ℕ) (o : Decision) → Proposal tx z b o → Proposal tx s b o ⊎ Proposing tx s d a b o
  prop_new b o h = ⊎_elim inl (λ n. inr (g.props b o n)) (prop_said b o h)

  tops : (e b : ℕ) (r : Reported) → b ≤ promise_at tx s e → Tops tx s e b r → Tops tx z e b r
  tops e b r p h =
      record {
        top = λ k q v lt. ⊎_elim
            (λ (old : Vote tx s e k q). h.top k q old lt)
            (λ (new : (e ≡ d) × (a.logs ≡ Some (Accepted tx k q))). let low = (g.accs k q new.1).0 in let p2 : b ≤ promise_at tx s d = subst (λ z. b ≤ promise_at tx s z) new.0 p in absurd (omega arith))
            (vote_new e k q v);
        real = λ k q is. let x = h.real k q is in (vote_old e k q x.0, x.1);
      }

  opens : (e : ℕ) (k : TakeoverState) → ((o : Decision) → k.has_proposed ≡ false → Proposal tx z k.ballot o → ⊥) → Opens tx s e k → Opens tx z e k
  opens e k new h =
      record {
        above0 = h.above0;
        own = h.own;
        under = let u = prom_up e in let v = h.under in omega arith;
        fresh = λ p o q. new o p q;
        each = λ q f m. let x = h.each q f m in (x.0, prom_old k.ballot f x.0 x.1, x.2);
        best = λ b q is. let x = h.best b q is in (x.0, prom_old k.ballot x.0 (Some (b, q)) x.1);
        silent = λ f m. prom_old k.ballot f None (h.silent f m);
      }

  others : (e : ℕ) → (e ≡ d → ⊥) → Fine tx s e (at s e) → Fine tx z e (at s e)
  others e n f =
      record {
        replays = f.replays;
        covers = f.covers;
        real = f.real;
        top = f.top;
        voted = λ k q v. prop_old k q (f.voted k q v);
        gathers = λ h is. prop_old h.ballot (Commit h.body) (f.gathers h is);
        rises = f.rises;
        takes = λ k is. let o = f.takes k is in
            opens e k (λ p q h. ⊎_elim (λ old. o.fresh q p old) (λ (new : Proposing tx s d a k.ballot p). n (sym o.own ∙ ap (owner_of s.parties.layout) (sym new.at_it) ∙ new.before.own)) (prop_new k.ballot p h)) o;
      }

  -- the act proposes at this ballot, and its take-over has proposed
  has_spoken : (k : TakeoverState) (o : Decision) → found nat_cmp a.after.takeovers tx ≡ Some k → Proposing tx s d a k.ballot o → k.has_proposed ≡ true
  has_spoken k o is p = let e : proposed p.k ≡ k = some_is (proposed p.k) k (sym p.after ∙ is) in ap (λ (z : TakeoverState). z.has_proposed) (sym e)

  take_after : (k : TakeoverState) → found nat_cmp a.after.takeovers tx ≡ Some k → Opens tx z d k
  take_after k is =
      ⊎_elim
      (λ (o : Opens tx s d k). opens d k
      (λ p q h. ⊎_elim (λ old. o.fresh q p old) (λ (new : Proposing tx s d a k.ballot p). true≢false (sym (has_spoken k p is new) ∙ q)) (prop_new k.ballot p h)) o)
      (λ (o : Opened tx s d a k). opened o)
      (g.takes k is)
    where
      opened : Opened tx s d a k → Opens tx z d k
      opened o =
          let n = next_is_least s.parties.layout d (promise_at tx s d) (subst IsLayout (sym i.layout) lay) o.dc in
          let next : k.ballot ≡ next_number s.parties.layout d (promise_at tx s d) = o.next in
          let above0 : 0 < k.ballot = rw next (omega arith) in
          let over : promise_at tx s d < k.ballot = rw next n.above in
          let own : owner_of s.parties.layout k.ballot ≡ d = rw next n.own in
          record {
            above0 = above0;
            own = own;
            under = subst (λ (z : CoordNode). k.ballot ≤ promise_of z.durable.promises tx) (sym at_d) (kept_promised tx k.ballot a.logs (at s d).durable o.noted);
            fresh = λ q p h. ⊎_elim
                (λ (old : Proposal tx s k.ballot p).
                let low : k.ballot ≤ promise_at tx s d = subst (λ e. k.ballot ≤ promise_at tx s e) own (i.under k.ballot p old above0) in absurd (omega arith))
                (λ (new : Proposing tx s d a k.ballot p). never (Promised tx k.ballot) (sym new.norec ∙ o.noted))
                (prop_new k.ballot p h);
            each = λ q f m. absurd (subst (In f) o.heard m);
            best = λ b q is. never (b, q) (sym o.best ∙ is);
            silent = λ f m. absurd (subst (In f) o.silent m);
          }

  mine : Fine tx z d y
  mine =
      let f = i.coords d in
      record {
        replays = ap (λ (v : CoordDurable). applied coord_applied v a.logs) f.replays ∙ replay_logged a.logs (at s d).log;
        covers = applied_covers a.logs (at s d).durable f.covers;
        real = kept_real tx a.logs (at s d).durable (at s d).log f.real;
        top = kept_top tx a.logs (at s d).durable (at s d).log f.covers f.top (λ b o e. (g.accs b o e).0);
        voted = λ k q v. ⊎_elim (λ old. prop_old k q (f.voted k q old)) (λ (e : a.logs ≡ Some (Accepted tx k q)). prop_old k q (g.accs k q e).1) (new_vote a.logs (at s d).log (Accepted tx k q) v);
        gathers = λ h is. prop_old h.ballot (Commit h.body) (g.gathers h is);
        rises = g.rises;
        takes = take_after;
      }

  -- THE BALLOT OF A PROPOSAL
  -- what was reported to the take-over, no proposal being made at its ballot
  told : (b e : ℕ) (r : Reported) → ((o : Decision) → Proposal tx s b o → ⊥) → Answer tx s b e r → (b ≤ promise_at tx s e) × Tops tx s e b r
  told b e r none h = let x = i.reports b e r h in (x.0, ⊎_elim (λ (z : (o : Decision) × Proposal tx s b o). absurd (none z.0 z.1)) (λ w. w) x.1)

  -- the best report is a vote
  best_vote : (k : TakeoverState) → k.has_proposed ≡ false → Opens tx s d k → (b : ℕ) (q : Decision) → k.best ≡ Some (b, q) → (b < k.ballot) × Proposal tx s b q
  best_vote k quiet o b q is =
      let h = o.best b q is in
      let x = told k.ballot h.0 (Some (b, q)) (o.fresh quiet) h.1 in
      let v = x.1.real b q refl in
      (v.1, (i.coords h.0).voted b q v.0)

  -- what it proposes: the best report, which a is_quorum was heard for, or abort, as a is_quorum had nothing to report
  choice : (k : TakeoverState) (o : Decision) → QuorumLaws s.parties.layout → chooses s.parties.layout k ≡ Some o
      → ((is_quorum s.parties.layout k.heard ≡ true) × (o ≡ best_or_abort k.best)) ⊎ ((is_quorum s.parties.layout k.silent ≡ true) × (o ≡ Abort))
  choice k o Q =
      on_cond P k.is_eager (chooses_eagerly s.parties.layout k) (chooses_patiently s.parties.layout k)
      (λ _. on_cond P (is_quorum s.parties.layout k.heard) _ _ (λ q e. inl (q, sym (some_is (best_or_abort k.best) o e))) (λ _ e. never o e))
      (λ _. on_cond P (is_quorum s.parties.layout k.silent) _ _ (λ q e. inr (q, sym (some_is Abort o e)))
      (λ _. on_cond P (list_all (member nat_cmp k.heard) (all_dcs s.parties.layout)) _ _
      (λ all e. inl (Q.more (all_dcs s.parties.layout) k.heard (all_heard k.heard (all_dcs s.parties.layout) all) Q.all, sym (some_is (best_or_abort k.best) o e))) (λ _ e. never o e)))
    where
      P : Option Decision → Type 0
      P z = z ≡ Some o → ((is_quorum s.parties.layout k.heard ≡ true) × (o ≡ best_or_abort k.best)) ⊎ ((is_quorum s.parties.layout k.silent ≡ true) × (o ≡ Abort))

  safe_new : QuorumLaws s.parties.layout → (b : ℕ) (o : Decision) → Proposing tx s d a b o → (n : ℕ) (q : Decision) → n < b → (q ≡ o → ⊥) → Held s.parties.layout (λ e. Vote tx s e n q ⊎ (promise_at tx s e ≤ n)) → ⊥
  safe_new Q b o p n q lt apart h =
      ⊎_elim
      (λ (x : (is_quorum s.parties.layout p.k.heard ≡ true) × (o ≡ best_or_abort p.k.best)).
      let m = Q.share h.set p.k.heard h.enough x.0 in
      let z = p.before.each p.quiet m.0 m.2 in
      let v = voted_q m.0 z.0 (h.each m.0 m.1) z.1 in
      let w = voted_low m.0 z.0 v z.1 in
      reported ((i.coords m.0).voted n q v) p.k.best refl (within_trans (Some (n, q)) z.0 p.k.best w z.2) x.1)
      (λ (x : (is_quorum s.parties.layout p.k.silent ≡ true) × (o ≡ Abort)).
      let m = Q.share h.set p.k.silent h.enough x.0 in
      let z = p.before.silent m.0 m.2 in
      voted_low m.0 None (voted_q m.0 None (h.each m.0 m.1) z) z)
      (choice p.k o Q p.chose)
    where
      -- a member that reported r at the ballot voted q at n, so r is of no lower ballot
      voted_q : (e : ℕ) (r : Reported) → Vote tx s e n q ⊎ (promise_at tx s e ≤ n) → Answer tx s p.k.ballot e r → Vote tx s e n q
      voted_q e r v z =
          let x = told p.k.ballot e r (p.before.fresh p.quiet) z in
          let at_it : p.k.ballot ≡ b = p.at_it in
          ⊎_elim (λ (y : Vote tx s e n q). y) (λ (y : promise_at tx s e ≤ n). absurd (omega (arith, x.0))) v

      voted_low : (e : ℕ) (r : Reported) → Vote tx s e n q → Answer tx s p.k.ballot e r → Within (Some (n, q)) r
      voted_low e r v z = let at_it : p.k.ballot ≡ b = p.at_it in (told p.k.ballot e r (p.before.fresh p.quiet) z).1.top n q v (omega arith)

      reported : Proposal tx s n q → (best : Reported) → p.k.best ≡ best → Within (Some (n, q)) best → o ≡ best_or_abort best → ⊥
      reported v None is w e = w
      reported v (Some x) is w e =
          let y = best_vote p.k p.quiet p.before x.0 x.1 is in
          ⊎_elim
          (λ (same : x.0 ≡ n). apart (i.unique n q x.1 v (subst (λ z. Proposal tx s z x.1) same y.1) ∙ sym e))
          (λ (more : x.0 ≡ n → ⊥). i.safe x.0 x.1 n q y.1 (let d : x.0 ≢ n = more in omega arith) (λ f. apart (f ∙ sym e)) h)
          (nat_dec x.0 n)

  -- a commit that is proposed stood at ballot 0
  root_new : QuorumLaws s.parties.layout → (b : ℕ) (x : List Entry) → Proposing tx s d a b (Commit x) → Proposal tx s 0 (Commit x)
  root_new Q b x p =
      ⊎_elim
      (λ (z : (is_quorum s.parties.layout p.k.heard ≡ true) × (Commit x ≡ best_or_abort p.k.best)). from p.k.best refl z.1)
      (λ (z : (is_quorum s.parties.layout p.k.silent ≡ true) × (Commit x ≡ Abort)). absurd (no_abort z.1))
      (choice p.k (Commit x) Q p.chose)
    where
      no_abort : Commit x ≡ Abort → ⊥
      no_abort e = cc

      from : (best : Reported) → p.k.best ≡ best → Commit x ≡ best_or_abort best → Proposal tx s 0 (Commit x)
      from None is e = absurd (no_abort e)
      from (Some y) is e = let v = best_vote p.k p.quiet p.before y.0 y.1 is in i.root y.0 x (subst (Proposal tx s y.0) (sym e) v.1)

  promise_new : (b e : ℕ) (r : Reported) → Answering tx s d a b e r → (b ≤ promise_at tx z e) × (((o : Decision) × Proposal tx z b o) ⊎ Tops tx z e b r)
  promise_new b e r p =
      let f = i.coords d in (
        subst (λ n. b ≤ promise_at tx z n) (sym p.self) (subst (λ (z : CoordNode). b ≤ promise_of z.durable.promises tx) (sym at_d) p.now),
        subst (λ n. ((o : Decision) × Proposal tx z b o) ⊎ Tops tx z n b r) (sym p.self) (by r p.told),
      )
    where
      by : (r : Reported) → r ≡ found nat_cmp (at s d).durable.accepted tx → ((o : Decision) × Proposal tx z b o) ⊎ Tops tx z d b r
      by None is =
          inr (record {
            top = λ k q v lt. ⊎_elim
                (λ (old : Vote tx s d k q). subst (Within (Some (k, q))) (sym is) ((i.coords d).top k q old))
                (λ (new : (d ≡ d) × (a.logs ≡ Some (Accepted tx k q))). absurd (p.novote k q new.1))
                (vote_new d k q v);
            real = λ k q e. never (k, q) e;
          })
      by (Some x) is =
          ⊎_elim
          (λ (same : x.0 ≡ b). inl (x.1, prop_old b x.1 (subst (λ z. Proposal tx s z x.1) same ((i.coords d).voted x.0 x.1 ((i.coords d).real x.0 x.1 (sym is))))))
          (λ (apart : x.0 ≡ b → ⊥).
          let cov = (i.coords d).covers tx x.0 x.1 (sym is) in
          let was = p.was in
          let ne : x.0 ≢ b = apart in
          let lt : x.0 < b = omega arith in
          inr (record {
            top = λ k q v _. ⊎_elim
                (λ (old : Vote tx s d k q). subst (Within (Some (k, q))) (sym is) ((i.coords d).top k q old))
                (λ (new : (d ≡ d) × (a.logs ≡ Some (Accepted tx k q))). absurd (p.novote k q new.1))
                (vote_new d k q v);
            real = λ k q e. let pair : ◌≡◌ {A = ℕ × Decision} x (k, q) = some_is x (k, q) e in
                subst (λ (v : ℕ × Decision). Vote tx z d v.0 v.1 × (v.0 < b)) pair (vote_old d x.0 x.1 ((i.coords d).real x.0 x.1 (sym is)), lt);
          }))
          (nat_dec x.0 b)

  pub keeps_act : QuorumLaws s.parties.layout → Agreeing c tx z
  keeps_act Q =
      record {
        layout = i.layout;
        coords = each_node (Fine tx z) (λ e n. others e n (i.coords e)) mine;
        unique = λ b o p x z.
            ⊎_elim
            (λ (x1 : Proposal tx s b o). ⊎_elim
            (λ (z1 : Proposal tx s b p). i.unique b o p x1 z1)
            (λ (z2 : Says a.sends (Propose tx b p)). let new = g.props b p z2 in absurd (new.before.fresh new.quiet o (subst (λ n. Proposal tx s n o) (sym new.at_it) x1)))
            (prop_said b p z))
            (λ (x2 : Says a.sends (Propose tx b o)). let new = g.props b o x2 in ⊎_elim
            (λ (z1 : Proposal tx s b p). absurd (new.before.fresh new.quiet p (subst (λ n. Proposal tx s n p) (sym new.at_it) z1)))
            (λ (z2 : Says a.sends (Propose tx b p)). sym (new.all b p z2))
            (prop_said b p z))
            (prop_said b o x);
        root = λ b x p. prop_old 0 (Commit x) (⊎_elim (λ old. i.root b x old) (λ new. root_new Q b x new) (prop_new b (Commit x) p));
        under = λ b o p lo.
            let up = prom_up (owner_of s.parties.layout b) in
            ⊎_elim
            (λ old. let u = i.under b o old lo in omega arith)
            (λ (new : Proposing tx s d a b o).
            let at_it : new.k.ballot ≡ b = new.at_it in
            let own : owner_of s.parties.layout b ≡ d = ap (owner_of s.parties.layout) (sym at_it) ∙ new.before.own in
            let low : new.k.ballot ≤ promise_at tx s (owner_of s.parties.layout b) = subst (λ e. new.k.ballot ≤ promise_at tx s e) (sym own) new.before.under in
            omega arith)
            (prop_new b o p);
        reports = λ b e r h.
            ⊎_elim
            (λ old. let x = i.reports b e r old in let up = prom_up e in
            (omega (arith, x.0), ⊎_elim (λ (z : (o : Decision) × Proposal tx s b o). inl (z.0, prop_old b z.0 z.1)) (λ z. inr (tops e b r x.0 z)) x.1))
            (λ new. promise_new b e r (g.proms b e r new))
            (said_new s.sent (coordinator d) a.sends (Promise tx b e r) h);
        safe = λ b o n q p lt apart h.
            let held : Held s.parties.layout (λ e. Vote tx s e n q ⊎ (promise_at tx s e ≤ n)) = record {
              set = h.set;
              enough = h.enough;
              each = λ e m. ⊎_elim
                  (λ (v : Vote tx z e n q). ⊎_elim inl
                  (λ (new : (e ≡ d) × (a.logs ≡ Some (Accepted tx n q))). inr (subst (λ z. promise_at tx s z ≤ n) (sym new.0) (g.accs n q new.1).0))
                  (vote_new e n q v))
                  (λ (v : promise_at tx z e ≤ n). inr (let up = prom_up e in omega arith))
                  (h.each e m);
            } in
            ⊎_elim (λ old. i.safe b o n q old lt apart held) (λ new. safe_new Q b o new n q lt apart held) (prop_new b o p);
        client = λ o p. ⊎_elim (λ old. i.client o old)
            (λ (new : Proposing tx s d a 0 o). let z = new.before.above0 in let e : new.k.ballot ≡ 0 = new.at_it in absurd (omega arith))
            (prop_new 0 o p);
      }
