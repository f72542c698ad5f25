-- What every read of a client is, in every run: one that is under way has grants of no quorum and prints if its client is open, and a key
-- that is not read is written.
use Rattle.std.proofs.Common.{◌≡◌, ℕ, suc, List, [], ◌∷◌, ◌++◌, refl, sym, ◌∙◌, subst, Bool, true, false, Option, Some, None, ◌⊎◌, inl, inr, ⊎_elim, true≢false, arith}
use Rattle.std.specs.Prelude.{map, not, ◌&&◌, ◌==◌, ◌*◌, nat_lt, sum}
use Rattle.std.specs.Ordering.{nat_cmp}
use Rattle.std.specs.List.{flat_map}
use Rattle.rc_ids.specs.Tables.{In, Table, found, put, maybe}
use Rattle.rc_ids.specs.Texts.{same_key}
use Rattle.rc_ids.specs.Cluster.{Layout, is_dc, is_quorum, weight_from}
use Rattle.rc_msg.specs.declared.msg.Msg.{Msg}
use Rattle.rc_msg.specs.declared.msg.Msg.TheVariants.{Granted, Voted, Refused, Decided}
use Rattle.rc_protocol.specs.Coordinator.{is_decided_by}
use Rattle.rc_protocol.specs.Client.{Client, ClientAct, Slot, KeyRead, NotRead, UnderWay, Complete, Grant, new_client, is_open, is_over, is_committing, is_proposed, reads_on, client_stays, with_slots, with_read, with_write, is_worn, proposes, slot_of, slot_set, read_begun, reads_begun, is_unread, reads_again, do_read, do_write, is_under_way, waits_for_read, do_commit, read_dropped, do_cancel, granted_by, cancels, completed, read_line, after_read, unless_refused, with_grant, prints_of, takes_grant, wants_grant, on_granted, counts_refusal, client_row}
use Rattle.rc_protocol.specs.Acts.{ClientCause, Hears, Reads, Writes, Commits, Cancels, Retries, Vanishes, client_by_row}
use Rattle.rc_runs.specs.World.{replaced}
use Rattle.rc_agreement.proofs.Cases.{on_cond, on_maybe, some_is, never, and_left}
use Rattle.rc_agreement.proofs.Tables.{in_either, in_map, put_cases, set_cases}
use Rattle.rc_agreement.proofs.ClientSlots.{slot_in, in_set}
use Rattle.rc_agreement.proofs.Scenes.{Scene, Keeps}

-- the read of a key with this write, at a client that is open or not
abbrev pub Fits : Layout → Bool → Option (List ℕ) → KeyRead → Type 0
Fits c opened write NotRead = write ≡ None → ⊥
Fits c opened write (UnderWay prints gs) = (is_quorum c (granted_by gs) ≡ false) × (opened ≡ true → prints ≡ true)
Fits c opened write (Complete version value) = Unit {0}

pub record AllFit (c : Layout) (opened : Bool) (xs : List Slot) : Type 0 where
  pub each : (s : Slot) → In s xs → Fits c opened s.write s.read

abbrev pub ClientFits : Layout → Client → Type 0
ClientFits c x = AllFit c (is_open x.phase) x.slots

no_weight : (d : ℕ) (ws : List ℕ) → weight_from d ws [] ≡ 0
no_weight d [] = refl
no_weight d (w ∷ ws) = let rest : weight_from (suc d) ws [] ≡ 0 = no_weight (suc d) ws in omega arith

-- none is no quorum
pub none_few : (c : Layout) → is_quorum c [] ≡ false
none_few c = let e : weight_from 1 c.weights [] ≡ 0 = no_weight 1 c.weights in rw e (never_less (sum c.weights))
  where
    never_less : (n : ℕ) → nat_lt n (2 * 0) ≡ false
    never_less n = grind arith

module _ (c : Layout) where
  closed : (opened : Bool) (write : Option (List ℕ)) (r : KeyRead) → Fits c opened write r → Fits c false write r
  closed opened write NotRead h = h
  closed opened write (UnderWay prints gs) h = (h.0, λ e. absurd (true≢false (sym e)))
  closed opened write (Complete version value) h = tt

  all_closed : (opened : Bool) (xs : List Slot) → AllFit c opened xs → AllFit c false xs
  all_closed opened xs h = record { each = λ s i. closed opened s.write s.read (h.each s i) }

  fits_set : (opened : Bool) (y : Slot) (xs : List Slot) → AllFit c opened xs → Fits c opened y.write y.read → AllFit c opened (slot_set xs y)
  fits_set opened y xs h k = record { each = λ s i. ⊎_elim (λ e. subst (λ (z : Slot). Fits c opened z.write z.read) e k) (λ j. h.each s j) (in_set y xs s i) }

  fits_end : (opened : Bool) (y : Slot) (xs : List Slot) → AllFit c opened xs → Fits c opened y.write y.read → AllFit c opened (xs ++ y ∷ [])
  fits_end opened y xs h k = record {
    each = λ s i. ⊎_elim (λ j. h.each s j) (λ (j : (y ≡ s) ⊎ ⊥). ⊎_elim (λ e. subst (λ (z : Slot). Fits c opened z.write z.read) e k) (λ n. absurd n) j) (in_either s xs (y ∷ []) i);
  }

  fits_begun : (opened : Bool) (xs : List Slot) → AllFit c opened xs → AllFit c false (map read_begun xs)
  fits_begun opened xs h = record { each = λ s i. let z = in_map read_begun s xs i in subst (λ (q : Slot). Fits c false q.write q.read) z.2 (one z.0 (h.each z.0 z.1)) }
    where
      one : (s : Slot) → Fits c opened s.write s.read → Fits c false (read_begun s).write (read_begun s).read
      one s k =
          on_cond (λ (q : Slot). Fits c false q.write q.read) (is_unread s.read) (with_read s (UnderWay false [])) s
          (λ _. (none_few c, λ e. absurd (true≢false (sym e)))) (λ _. closed opened s.write s.read k)

  fits_dropped : (opened : Bool) (k : List ℕ) (xs : List Slot) → AllFit c opened xs → AllFit c opened (flat_map (read_dropped k) xs)
  fits_dropped opened k [] h = h
  fits_dropped opened k (x ∷ xs) h = record {
    each = λ s i. ⊎_elim
        (λ (j : In s (read_dropped k x)). one s j)
        (λ (j : In s (flat_map (read_dropped k) xs)). (fits_dropped opened k xs (record { each = λ z l. h.each z (inr l) })).each s j)
        (in_either s (read_dropped k x) (flat_map (read_dropped k) xs) i);
  }
    where
      one : (s : Slot) → In s (read_dropped k x) → Fits c opened s.write s.read
      one s =
          on_cond (λ (z : List Slot). In s z → Fits c opened s.write s.read) (same_key x.key k) (maybe x.write [] (λ value. with_read x NotRead ∷ [])) (x ∷ [])
          (λ _. on_maybe (λ (z : List Slot). In s z → Fits c opened s.write s.read) x.write [] (λ value. with_read x NotRead ∷ []) (λ _ j. absurd j)
          (λ value is j. ⊎_elim
          (λ (e : with_read x NotRead ≡ s). subst (λ (z : Slot). Fits c opened z.write z.read) e (λ (none : x.write ≡ None). never value (sym none ∙ is)))
          (λ n. absurd n) j))
          (λ _ j. ⊎_elim (λ (e : x ≡ s). subst (λ (z : Slot). Fits c opened z.write z.read) e (h.each x (inl refl))) (λ n. absurd n) j)

  module _ (t : ℕ) (x : Client) (h : ClientFits c x) where
    abbrev J : ClientAct → Type 0
    J a = ClientFits c a.after

    shut : AllFit c false x.slots
    shut = all_closed (is_open x.phase) x.slots h

    read_row : (k : List ℕ) → J (do_read c t x k)
    read_row k =
        on_maybe J (slot_of x.slots k) _ _ (λ _. fits_end (is_open x.phase) _ x.slots h (none_few c, λ _. refl))
        (λ s _. on_maybe J s.write _ _ (λ _. again s.read) (λ v _. h))
      where
        again : (r : KeyRead) → J (reads_again t x k r)
        again (Complete v y) = h
        again (UnderWay p gs) = h
        again NotRead = h

    write_row : (k value : List ℕ) → J (do_write x k value)
    write_row k value =
        on_maybe (AllFit c (is_open x.phase)) (slot_of x.slots k) _ _
        (λ _. fits_end (is_open x.phase) _ x.slots h (λ e. never value (sym e)))
        (λ s is. fits_set (is_open x.phase) (with_write s value) x.slots h (written s.write s.read (h.each s (slot_in k x.slots s is).0)))
      where
        written : (old : Option (List ℕ)) (r : KeyRead) → Fits c (is_open x.phase) old r → Fits c (is_open x.phase) (Some value) r
        written old NotRead f = λ e. never value (sym e)
        written old (UnderWay p gs) f = f
        written old (Complete v y) f = f

    commit_row : J (do_commit c t x)
    commit_row = on_cond J (waits_for_read (reads_begun x.slots)) _ _ (λ _. fits_begun (is_open x.phase) x.slots h) (λ _. on_cond J (is_worn x.slots) _ _ (λ _. h) (λ _. shut))

    cancel_row : (k : List ℕ) → J (do_cancel c t x k)
    cancel_row k = on_maybe J (slot_of x.slots k) _ _ (λ _. h) (λ s _. on_cond J (is_under_way s.read) _ _ (λ _. fits_dropped (is_open x.phase) k x.slots h) (λ _. h))

    retry_row : J (client_by_row c t x Retries)
    retry_row = on_cond J (is_proposed x.phase) _ _ (λ _. h) (λ _. on_cond J (reads_on x.phase) _ _ (λ _. h) (λ _. h))

    granted_row : (k : List ℕ) (g : Grant) → J (on_granted c t x k g)
    granted_row k g =
        on_cond J (reads_on x.phase) _ _
        (λ _. on_maybe J (slot_of x.slots k) _ _ (λ _. h)
        (λ s is. on_cond J (wants_grant s g.dc) _ _ (λ wants. takes s (and_left (is_under_way s.read) _ wants) (h.each s (slot_in k x.slots s is).0)) (λ _. h)))
        (λ _. h)
      where
        prints : (o : Bool) (w : Option (List ℕ)) (r : KeyRead) → is_under_way r ≡ true → Fits c o w r → o ≡ true → prints_of r ≡ true
        prints o w (UnderWay p gs) way f e = f.1 e
        prints o w NotRead way f e = absurd (true≢false (sym way))
        prints o w (Complete v y) way f e = absurd (true≢false (sym way))

        takes : (s : Slot) → is_under_way s.read ≡ true → Fits c (is_open x.phase) s.write s.read → J (takes_grant c t x s g)
        takes s way f =
            let gs : List Grant = with_grant s g in
            let y : Client = with_slots x (slot_set x.slots (completed s gs)) in
            let full : AllFit c (is_open x.phase) y.slots = fits_set (is_open x.phase) (completed s gs) x.slots h tt in
            on_cond J (is_quorum c (granted_by gs)) _ _
            (λ _. on_cond (λ a. J (unless_refused x (after_read (cancels c t s.key gs) (read_line t s gs) a))) (is_committing y.phase && not (waits_for_read y.slots)) (proposes c t y) (client_stays y)
            (λ _. on_cond (λ a. J (unless_refused x (after_read (cancels c t s.key gs) (read_line t s gs) a))) (is_worn y.slots) _ _ (λ _. h) (λ _. all_closed (is_open x.phase) y.slots full))
            (λ _. full))
            (λ few. fits_set (is_open x.phase) (with_read s (UnderWay (prints_of s.read) gs)) x.slots h (few, prints (is_open x.phase) s.write s.read way f))

    hears_row : (m : Msg) → J (client_row c t x m)
    hears_row (Granted u k d v y) = on_cond J ((u == t) && is_dc c d) _ _ (λ _. granted_row k (record { dc = d; version = v; value = y })) (λ _. h)
    hears_row (Voted u b d o) = on_cond J ((u == t) && is_dc c d) _ _ (λ _. on_cond J (is_over x.phase) _ _ (λ _. h) (λ _. on_cond J (is_decided_by c x.votes b d o) _ _ (λ _. shut) (λ _. h))) (λ _. h)
    hears_row (Refused u b d reason) = on_cond J ((u == t) && is_dc c d) _ _ (λ _. on_cond J (counts_refusal x b d) _ _ (λ _. h) (λ _. h)) (λ _. h)
    hears_row (Decided u o) = on_cond J (u == t) _ _ (λ _. on_cond J (is_over x.phase) _ _ (λ _. h) (λ _. shut)) (λ _. h)
    hears_row _ = h

    row_fits : (a : ClientCause) → J (client_by_row c t x a)
    row_fits (Hears m) = hears_row m
    row_fits (Reads k) = read_row k
    row_fits (Writes k value) = write_row k value
    row_fits Commits = commit_row
    row_fits (Cancels k) = cancel_row k
    row_fits Retries = retry_row
    row_fits Vanishes = shut

-- IN A RUN
abbrev pub Fitting : Layout → Scene → Type 0
Fitting c s = (s.parties.layout ≡ c) × ((t : ℕ) (x : Client) → found nat_cmp s.parties.clients t ≡ Some x → ClientFits c x)

pub fitting_kept : (c : Layout) → Keeps (Fitting c)
fitting_kept c =
    record {
      turns = λ s d k there due p. (p.0, p.1);
      stops = λ s d r there half p. (p.0, p.1);
      starts = λ s d there p. (p.0, p.1);
      serves = λ s d sh k there due p. (p.0, p.1);
      halts = λ s d sh r there half p. (p.0, p.1);
      wakes = λ s d sh there p. (p.0, p.1);
      begins = λ s u new p. (
        p.0,
        λ t x is. ⊎_elim
            (λ (same : (t ≡ u) × (found nat_cmp (put nat_cmp s.parties.clients u new_client) t ≡ Some new_client)). subst (ClientFits c) (some_is new_client x (sym same.1 ∙ is)) (record { each = λ z i. absurd i }))
            (λ (other : (t ≡ u → ⊥) × (found nat_cmp (put nat_cmp s.parties.clients u new_client) t ≡ found nat_cmp s.parties.clients t)). p.1 t x (sym other.1 ∙ is))
            (put_cases t u new_client s.parties.clients),
      );
      clients = λ s u y k is due p. (p.0, λ t x its. set s.parties.clients s.parties.layout p.0 u y k is p.1 t x its);
    }
  where
    set : (clients : Table ℕ Client) (l : Layout) → l ≡ c → (u : ℕ) (y : Client) (k : ClientCause) → found nat_cmp clients u ≡ Some y
        → ((t : ℕ) (x : Client) → found nat_cmp clients t ≡ Some x → ClientFits c x)
        → (t : ℕ) (x : Client) → found nat_cmp (replaced clients u (client_by_row l u y k).after) t ≡ Some x → ClientFits c x
    set clients l same u y k is all t x its =
        let after : Client = (client_by_row l u y k).after in
        ⊎_elim
        (λ (own : (t ≡ u) × (found nat_cmp (replaced clients u after) t ≡ Some after)).
        subst (ClientFits c) (some_is after x (sym own.1 ∙ its)) (subst (λ (m : Layout). ClientFits c (client_by_row m u y k).after) (sym same) (row_fits c u y (all u y is) k)))
        (λ (other : (t ≡ u → ⊥) × (found nat_cmp (replaced clients u after) t ≡ found nat_cmp clients t)). all t x (sym other.1 ∙ its))
        (set_cases t u after y clients is)
