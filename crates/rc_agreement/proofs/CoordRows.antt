-- Each row of a coordinator does only good to every transaction: those on promises and take-overs, and so all.
use Rattle.std.proofs.Common.{◌≡◌, ℕ, ◌≤◌, refl, sym, ap, ◌∙◌, subst, Bool, true, false, cond, Option, Some, None, arith, ◌⊎◌, inl, inr, ⊎_elim, true≢false}
use Rattle.std.specs.Prelude.{not, ◌&&◌, is_some, ◌==◌, nat_lt, nat_le, ◌^◌}
use Rattle.std.specs.Ordering.{nat_cmp}
use Rattle.std.proofs.lemmas.Bool.{eqb-true}
use Rattle.rc_ids.specs.Tables.{In, Table, found, put, member, added}
use Rattle.rc_ids.specs.Cluster.{Layout, is_dc, is_shard, owner_of, next_ballot, next_number}
use Rattle.rc_body.specs.declared.decision.Decision.{Decision}
use Rattle.rc_body.specs.declared.reason.Reason.TheVariants.{Promised as PromisedHigher}
use Rattle.rc_msg.specs.declared.msg.Msg.{Msg}
use Rattle.rc_msg.specs.declared.msg.Msg.TheVariants.{Propose, Prepared, Voted, Refused, Ask, Promise, Decided, Abandon, CatchAsk, CatchPage}
use Rattle.rc_record.specs.declared.record.Record.TheVariants.{Promised, Accepted}
use Rattle.rc_record.specs.CoordState.{CoordDurable, promise_of, outcome_of, coord_applied}
use Rattle.rc_protocol.specs.Messages.{coordinator, client_of, to_all}
use Rattle.rc_protocol.specs.Coordinator.{CoordVolatile, CoordAct, TakeoverState, coord_stays, coord_says, opening, opens, takes_over, promise_record, promises_at, on_ask, better, hears, chooses, waiting_takeover, with_takeover, proposed, proposes_or_waits, on_promise, page_from, coord_row}
use Rattle.rc_protocol.specs.Nodes.{applied}
use Rattle.rc_agreement.proofs.Cases.{on_cond, on_maybe, some_is, never, and_left, and_right, not_true}
use Rattle.rc_agreement.proofs.Tables.{put_same, put_cases, in_added, rises_put}
use Rattle.rc_protocol.specs.Acts.{NodeCause, Came, Takes, Catches}
use Rattle.rc_agreement.proofs.Scenes.{Scene, at, act_of, Due}
use Rattle.rc_agreement.proofs.Promises.{raise_reaches}
use Rattle.rc_agreement.proofs.Said.{Said, Says, said_in, Each, each_none, each_all, Plain}
use Rattle.rc_agreement.proofs.Ballots.{Reported, Answer, Opens, Agreeing, Proposing, Opened}
use Rattle.rc_agreement.proofs.Reports.{better_cases, within_trans, within_old, within_new}
use Rattle.rc_agreement.proofs.FairRows.{Claims, Vows, Offers, TakesOf, Fair, plain_offers, plain_vows, above, idle, says_one, known, all_takes, dull, on_propose_fair, on_prepared_fair, on_voted_fair, on_decided_fair, on_catch_page_fair, do_catch_fair}

module _ (c : Layout) (s : Scene) (inv : (u : ℕ) → Agreeing c u s) (d : ℕ) where
  abbrev cl : Layout
  cl = s.parties.layout

  abbrev dur : CoordDurable
  dur = (at s d).durable

  abbrev vol : CoordVolatile
  vol = (at s d).volatile

  -- PROMISES
  raised_to : (u b : ℕ) → b ≤ promise_of (applied coord_applied dur (promise_record u b (promise_of dur.promises u))).promises u
  raised_to u b =
      on_cond (λ r. b ≤ promise_of (applied coord_applied dur r).promises u) (nat_lt (promise_of dur.promises u) b) (Some (Promised u b)) None
      (λ _. raise_reaches u b dur.promises)
      (λ no. above c s inv d (promise_of dur.promises u) b no)

  on_ask_fair : (u b : ℕ) → Fair s d (on_ask cl d dur vol u b)
  on_ask_fair u b =
      on_maybe (Fair s d) (outcome_of dur.outcomes u) _ _
      (λ _. on_cond (Fair s d) (nat_lt b (promise_of dur.promises u)) _ _
      (λ _. says_one c s inv d (coordinator (owner_of cl b)) (Refused u b d (PromisedHigher (promise_of dur.promises u))) tt)
      (λ low. promises (above c s inv d b (promise_of dur.promises u) low)))
      (λ out _. says_one c s inv d (coordinator (owner_of cl b)) (Decided u out) tt)
    where
      novote : (k : ℕ) (q : Decision) → promise_record u b (promise_of dur.promises u) ≡ Some (Accepted u k q) → ⊥
      novote k q = on_cond (λ r. r ≡ Some (Accepted u k q) → ⊥) (nat_lt (promise_of dur.promises u) b) (Some (Promised u b)) None (λ _ e. cc) (λ _ e. cc)

      promises : promise_of dur.promises u ≤ b → Fair s d (promises_at cl d dur vol u b)
      promises low =
          record {
            offers = λ m h. ⊎_elim (λ e. subst (Offers s d (promises_at cl d dur vol u b)) e tt) (λ x. absurd x) h;
            vows = λ m h. ⊎_elim (λ e. subst (Vows s d (promises_at cl d dur vol u b)) e (record { self = refl; now = raised_to u b; was = low; told = refl; novote = novote })) (λ x. absurd x) h;
            claims = on_cond (Claims s d) (nat_lt (promise_of dur.promises u) b) (Some (Promised u b)) None (λ _. tt) (λ _. tt);
            gathers = known c s inv d;
            rises = (all_takes c s inv d).rises;
            takes = λ w k is. inl (((inv w).coords d).takes k is);
          }

  -- TAKE-OVERS
  -- one more take-over
  takes_put : (a : CoordAct) (u : ℕ) (n : TakeoverState) → a.after.takeovers ≡ put nat_cmp vol.takeovers u n
      → Opens u s d n ⊎ Opened u s d a n → TakesOf s d a
  takes_put a u n e h w k is =
      ⊎_elim
      (λ (same : (w ≡ u) × (found nat_cmp (put nat_cmp vol.takeovers u n) w ≡ Some n)).
      let new : n ≡ k = some_is n k (sym same.1 ∙ ap (λ (m : Table ℕ TakeoverState). found nat_cmp m w) (sym e) ∙ is) in
      subst (λ (y : ℕ × TakeoverState). Opens y.0 s d y.1 ⊎ Opened y.0 s d a y.1) (λ i. (sym same.0 i, new i)) h)
      (λ (other : (w ≡ u → ⊥) × (found nat_cmp (put nat_cmp vol.takeovers u n) w ≡ found nat_cmp vol.takeovers w)).
      inl (((inv w).coords d).takes k (sym other.1 ∙ ap (λ (m : Table ℕ TakeoverState). found nat_cmp m w) (sym e) ∙ is)))
      (put_cases w u n vol.takeovers)

  next_is : (u b : ℕ) → next_ballot cl d (promise_of dur.promises u) ≡ Some b → b ≡ next_number cl d (promise_of dur.promises u)
  next_is u b = on_cond (λ o. o ≡ Some b → b ≡ next_number cl d (promise_of dur.promises u)) (nat_le (next_number cl d (promise_of dur.promises u)) (2 ^ 31)) _ _ (λ _ e. sym (some_is _ b e)) (λ _ e. never b e)

  takes_over_fair : is_dc cl d ≡ true → (u : ℕ) (eager : Bool) → Fair s d (takes_over cl d dur vol u eager)
  takes_over_fair dc u eager =
      on_maybe (Fair s d) (next_ballot cl d (promise_of dur.promises u)) _ _
      (λ _. dull c s inv d _ (each_none Plain) tt (known c s inv d) (all_takes c s inv d))
      (λ b is. opens_fair b (next_is u b is))
    where
      opens_fair : (b : ℕ) → b ≡ next_number cl d (promise_of dur.promises u) → Fair s d (opens cl vol u eager b)
      opens_fair b next =
          let a : CoordAct = opens cl vol u eager b in
          let asks : Each Plain (to_all cl (Ask u b)) = each_all Plain cl (Ask u b) tt in
          record {
            offers = λ m h. plain_offers s d a m (asks.each m h);
            vows = λ m h. plain_vows s d a m (asks.each m h);
            claims = tt;
            gathers = known c s inv d;
            rises = rises_put 0 u (opening b eager) vol.takeovers (omega arith) (all_takes c s inv d).rises;
            takes = takes_put a u (opening b eager) refl (inr (record { dc = dc; next = next; heard = refl; silent = refl; best = refl; noted = refl }));
          }

  hear_opens : (u b from : ℕ) (r : Reported) (k : TakeoverState) → k.ballot ≡ b → Answer u s b from r → Opens u s d k → Opens u s d (hears k from r)
  hear_opens u b from r k at_it h o =
      record {
        above0 = o.above0;
        own = o.own;
        under = o.under;
        fresh = o.fresh;
        each = λ q e i. ⊎_elim
            (λ (is : e ≡ from). (r, rw (is, at_it) h, within_new k.best r))
            (λ (old : In e k.heard). let x = o.each q e old in (x.0, x.1, within_trans x.0 k.best (better k.best r) x.2 (within_old k.best r)))
            (in_added e from k.heard i);
        best = λ b2 q is. ⊎_elim
            (λ (same : better k.best r ≡ k.best). o.best b2 q (sym same ∙ is))
            (λ (same : better k.best r ≡ r). (from, rw at_it (subst (λ y. Answer u s b from y) (sym same ∙ is) h)))
            (better_cases k.best r);
        silent = λ e i. silents r h e i;
      }
    where
      silents : (r : Reported) → Answer u s b from r → (e : ℕ) → In e (cond (is_some r) k.silent (added nat_cmp k.silent from)) → Answer u s k.ballot e None
      silents None h e i = ⊎_elim (λ (is : e ≡ from). rw (is, at_it) h) (λ (old : In e k.silent). o.silent e old) (in_added e from k.silent i)
      silents (Some x) h e i = o.silent e i

  -- one that has proposed keeps its ballot, and asks for nothing any more
  spoken : (u : ℕ) (k : TakeoverState) → Opens u s d k → Opens u s d (proposed k)
  spoken u k o = record {
    above0 = o.above0;
    own = o.own;
    under = o.under;
    fresh = λ q. absurd (true≢false q);
    each = λ q. absurd (true≢false q);
    best = λ b q is. never (b, q) is;
    silent = o.silent;
  }

  all_same : (u b : ℕ) (v : Decision) (c : ℕ) (p : Decision) → Says (to_all cl (Propose u b v)) (Propose u c p) → p ≡ v
  all_same u b v c p h =
      let e : Propose u c p ≡ Propose u b v = (each_all (λ m. m ≡ Propose u b v) cl (Propose u b v) refl).each (Propose u c p) h in
      cc

  goes_on_fair : (u : ℕ) (k : TakeoverState) → k.has_proposed ≡ false → Opens u s d k → Fair s d (proposes_or_waits cl vol u k)
  goes_on_fair u k quiet0 o =
      on_maybe (Fair s d) (chooses cl k) _ _ (λ _. waits) (λ v is. chosen v is)
    where
      waits : Fair s d (coord_stays (with_takeover vol u k))
      waits =
          record {
            offers = λ m h. absurd h;
            vows = λ m h. absurd h;
            claims = tt;
            gathers = known c s inv d;
            rises = rises_put 0 u k vol.takeovers (omega arith) (all_takes c s inv d).rises;
            takes = takes_put (coord_stays (with_takeover vol u k)) u k refl (inl o);
          }

      chosen : (v : Decision) → chooses cl k ≡ Some v → Fair s d (coord_says (with_takeover vol u (proposed k)) (to_all cl (Propose u k.ballot v)))
      chosen v is =
          let n : TakeoverState = proposed k in
          let a : CoordAct = coord_says (with_takeover vol u n) (to_all cl (Propose u k.ballot v)) in
          let offer : Proposing u s d a k.ballot v = record { k = k; quiet = quiet0; after = put_same u n vol.takeovers; at_it = refl; chose = is; before = o; norec = refl; all = all_same u k.ballot v } in
          let offers : Each (Offers s d a) (to_all cl (Propose u k.ballot v)) = each_all (Offers s d a) cl (Propose u k.ballot v) offer in
          let vows : Each (Vows s d a) (to_all cl (Propose u k.ballot v)) = each_all (Vows s d a) cl (Propose u k.ballot v) tt in
          record {
            offers = offers.each;
            vows = vows.each;
            claims = tt;
            gathers = known c s inv d;
            rises = rises_put 0 u n vol.takeovers (omega arith) (all_takes c s inv d).rises;
            takes = takes_put a u n refl (inl (spoken u k o));
          }

  waiting_takeover_is : (u b from : ℕ) (k : TakeoverState) → waiting_takeover dur vol u b from ≡ Some k → (found nat_cmp vol.takeovers u ≡ Some k) × (k.ballot ≡ b) × (k.has_proposed ≡ false)
  waiting_takeover_is u b from k =
      on_maybe P (outcome_of dur.outcomes u) _ _
      (λ _. on_maybe P (found nat_cmp vol.takeovers u) _ _
      (λ _ e. never k e)
      (λ y is. on_cond P ((y.ballot == b) && (not y.has_proposed && not (member nat_cmp y.heard from))) _ _
      (λ t e. let same : y ≡ k = some_is y k e in
      (is ∙ e, ap (λ (z : TakeoverState). z.ballot) (sym same) ∙ eqb-true y.ballot b (and_left _ _ t), ap (λ (z : TakeoverState). z.has_proposed) (sym same) ∙ not_true _ (and_left _ _ (and_right _ _ t))))
      (λ _ e. never k e)))
      (λ _ _ e. never k e)
    where
      P : Option TakeoverState → Type 0
      P o = o ≡ Some k → (found nat_cmp vol.takeovers u ≡ Some k) × (k.ballot ≡ b) × (k.has_proposed ≡ false)

  on_promise_fair : (u b from : ℕ) (r : Reported) → Answer u s b from r → Fair s d (on_promise cl dur vol u b from r)
  on_promise_fair u b from r h =
      on_maybe (Fair s d) (waiting_takeover dur vol u b from) _ _ (λ _. idle c s inv d)
      (λ k is. let f = waiting_takeover_is u b from k is in goes_on_fair u (hears k from r) f.2 (hear_opens u b from r k f.1 h (((inv u).coords d).takes k f.0)))

  -- EVERY ROW
  pub act_fair : is_dc cl d ≡ true → (k : NodeCause) → Due s d k → Fair s d (act_of s d k)
  act_fair dc (Came from m) h = comes m (said_in s.sent _ h)
    where
      guarded : (b : Bool) (a : CoordAct) → Fair s d a → Fair s d (cond b a (coord_stays vol))
      guarded b a f = on_cond (Fair s d) b a (coord_stays vol) (λ _. f) (λ _. idle c s inv d)

      comes : (m : Msg) → Said s.sent m → Fair s d (coord_row cl d dur vol from m)
      comes (Propose t b o) h = on_propose_fair c s inv d t b o h
      comes (Prepared t sh r) h = guarded (is_shard cl sh) _ (on_prepared_fair c s inv d t sh r)
      comes (Ask t b) h = on_ask_fair t b
      comes (Promise t b e r) h = guarded (is_dc cl e) _ (on_promise_fair t b e r h)
      comes (Voted t b e o) h = guarded (is_dc cl e) _ (on_voted_fair c s inv d t b e o)
      comes (Decided t o) h = on_decided_fair c s inv d t o
      comes (Abandon t) h = on_maybe (Fair s d) (outcome_of dur.outcomes t) _ _ (λ _. takes_over_fair dc t false) (λ o _. says_one c s inv d (client_of t) (Decided t o) tt)
      comes (CatchAsk p) h = says_one c s inv d from (CatchPage d p (page_from dur.outcomes p)) tt
      comes (CatchPage e p es) h = guarded (is_dc cl e) _ (on_catch_page_fair c s inv d e p es)
      comes _ h = idle c s inv d
  act_fair dc (Takes t) h = on_maybe (Fair s d) (outcome_of dur.outcomes t) _ _ (λ _. takes_over_fair dc t true) (λ o _. says_one c s inv d (client_of t) (Decided t o) tt)
  act_fair dc Catches h = do_catch_fair c s inv d
