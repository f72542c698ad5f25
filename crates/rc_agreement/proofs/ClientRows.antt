-- What clients say: a client proposes its own commit alone, and what it proposed stays.
use Rattle.std.proofs.Common.{◌≡◌, ℕ, List, [], ◌∷◌, refl, sym, Bool, true, cond, true≢false, Option, Some, None}
use Rattle.std.specs.Prelude.{not, ◌&&◌, ◌==◌}
use Rattle.std.specs.Ordering.{nat_cmp}
use Rattle.rc_ids.specs.Tables.{member, added}
use Rattle.rc_ids.specs.Cluster.{Layout, is_dc, is_quorum, home, shard_of}
use Rattle.rc_body.specs.declared.decision.Decision.{Decision}
use Rattle.rc_body.specs.declared.decision.Decision.TheVariants.{Commit}
use Rattle.rc_body.specs.declared.reason.Reason.{Reason}
use Rattle.rc_msg.specs.declared.msg.Msg.{Msg}
use Rattle.rc_msg.specs.declared.msg.Msg.TheVariants.{ReadAsk, ReadCancel, Granted, Propose, Voted, Refused, Promise, Decided, Abandon}
use Rattle.rc_report.specs.declared.line.Line.{Line}
use Rattle.rc_protocol.specs.Messages.{Posts, coordinator, shard_server, to_all}
use Rattle.rc_protocol.specs.Coordinator.{is_decided_by}
use Rattle.rc_protocol.specs.Client.{Client, ClientAct, Phase, Open, Committing, Proposed, Done, Vanished, Slot, KeyRead, UnderWay, Complete, Grant, is_open, is_over, is_committing, is_proposed, reads_on, client_stays, client_says, in_phase, with_slots, is_worn, proposes, body_of, slot_of, slot_set, asks, asks_new, reads_again, do_read, do_write, is_under_way, waits_for_read, reads_begun, unread_keys, asks_all, do_commit, drops_read, do_cancel, asks_rest, asks_again, waiting_keys, do_retry, do_vanish, grants_of, granted_by, cancel_to, cancels, completed, read_line, proposes_once_read, after_read, unless_refused, with_grant, with_read, prints_of, takes_grant, wants_grant, on_granted, with_vote, on_voted, client_learns, counts_refusal, on_refused, client_row, ClientRefusal, KeyWornOut}
use Rattle.rc_agreement.proofs.Cases.{on_cond, on_maybe}
use Rattle.rc_protocol.specs.Acts.{ClientCause, Hears, Reads, Writes, Commits, Cancels, Retries, Vanishes, client_by_row}
use Rattle.rc_agreement.proofs.Said.{Says, Each, each_none, each_one, each_both, each_to, each_all, each_weaker, Modest, Mute, modest_mute}
use Rattle.rc_agreement.proofs.Ballots.{Late}

-- what a proposal of the client's act is: its own commit at ballot 0, of the body that it then has; and that it tells of no outcome
abbrev pub Offer : ℕ → Client → Msg → Type 0
Offer t y (Propose u b o) = (u ≡ t) × (b ≡ 0) × (o ≡ Commit (body_of y.slots)) × (y.phase ≡ Proposed)
Offer t y (Promise u b e r) = ⊥
Offer t y m = Mute m

modest_offer : (t : ℕ) (y : Client) (m : Msg) → Modest m → Offer t y m
modest_offer t y (Propose u b o) h = absurd h
modest_offer t y (Promise u b e r) h = h
modest_offer t y m h = modest_mute m h

pub record Tame (t : ℕ) (x : Client) (a : ClientAct) : Type 0 where
  pub says : Each (Offer t a.after) a.sends
  pub late : Late x.phase → Late a.after.phase × (a.after.phase ≡ Proposed → (x.phase ≡ Proposed) × (a.after.slots ≡ x.slots))

pub early_late : (p : Phase) → reads_on p ≡ true → Late p → ⊥
early_late Open e l = l
early_late Committing e l = l
early_late Proposed e l = true≢false (sym e)
early_late Done e l = true≢false (sym e)
early_late Vanished e l = true≢false (sym e)

pub open_early : (p : Phase) → is_open p ≡ true → reads_on p ≡ true
open_early Open e = refl
open_early Committing e = refl
open_early Proposed e = e
open_early Done e = e
open_early Vanished e = e

proposed_is : (p : Phase) → is_proposed p ≡ true → p ≡ Proposed
proposed_is Open e = absurd (true≢false (sym e))
proposed_is Committing e = absurd (true≢false (sym e))
proposed_is Proposed e = refl
proposed_is Done e = absurd (true≢false (sym e))
proposed_is Vanished e = absurd (true≢false (sym e))

module _ (c : Layout) (t : ℕ) (x : Client) where
  -- it says nothing of this, and what it has proposed stays
  abbrev Stays : ClientAct → Type 0
  Stays a = Late x.phase → Late a.after.phase × (a.after.phase ≡ Proposed → (x.phase ≡ Proposed) × (a.after.slots ≡ x.slots))

  offers : (y : Client) (ms : Posts) → Each Modest ms → Each (Offer t y) ms
  offers y ms q = each_weaker Modest (Offer t y) ms (modest_offer t y) q

  tame : (a : ClientAct) → Each Modest a.sends → Stays a → Tame t x a
  tame a q l = record { says = offers a.after a.sends q; late = l }

  same_stays : Late x.phase → Late x.phase × (x.phase ≡ Proposed → (x.phase ≡ Proposed) × (x.slots ≡ x.slots))
  same_stays l = (l, λ p. (p, refl))

  calm : (ms : Posts) (ls : List Line) (refused : Option ClientRefusal) → Each Modest ms → Tame t x (record { after = x; sends = ms; lines = ls; refused = refused })
  calm ms ls refused q = tame (record { after = x; sends = ms; lines = ls; refused = refused }) q same_stays

  still : Tame t x (client_stays x)
  still = calm [] [] None (each_none Modest)

  -- before it proposes, anything modest is tame
  soon : reads_on x.phase ≡ true → (a : ClientAct) → Each Modest a.sends → Tame t x a
  soon e a q = tame a q (λ l. absurd (early_late x.phase e l))

  asks_modest : (k : List ℕ) → Each Modest (asks c t k)
  asks_modest k = each_to Modest c.dcs _ (λ d. each_one Modest (shard_server d (shard_of c k)) (ReadAsk t k) tt)

  asks_all_modest : (ks : List (List ℕ)) → Each Modest (asks_all c t ks)
  asks_all_modest [] = each_none Modest
  asks_all_modest (k ∷ ks) = each_both Modest _ _ (asks_modest k) (asks_all_modest ks)

  own_offer : (y : Client) → y.phase ≡ Proposed → Each (Offer t y) (to_all c (Propose t 0 (Commit (body_of y.slots))))
  own_offer y is = each_all (Offer t y) c (Propose t 0 (Commit (body_of y.slots))) (refl, refl, refl, is)

  -- it proposes what it has now, with these messages before, or stays as it was
  proposes_tame : (y : Client) (ms : Posts) (ls : List Line) → Each Modest ms → reads_on x.phase ≡ true → Tame t x (unless_refused x (after_read ms ls (proposes c t y)))
  proposes_tame y ms ls q e =
      on_cond (λ a. Tame t x (unless_refused x (after_read ms ls a))) (is_worn y.slots) _ _
      (λ _. calm [] [] (Some KeyWornOut) (each_none Modest))
      (λ _. record {
        says = each_both (Offer t (in_phase y Proposed)) ms _ (offers (in_phase y Proposed) ms q) (own_offer (in_phase y Proposed) refl);
        late = λ l. absurd (early_late x.phase e l);
      })

  do_read_tame : is_open x.phase ≡ true → (k : List ℕ) → Tame t x (do_read c t x k)
  do_read_tame e k =
      on_maybe (Tame t x) (slot_of x.slots k) _ _ (λ _. soon (open_early x.phase e) (asks_new c t x k) (asks_modest k))
      (λ s _. on_maybe (Tame t x) s.write _ _ (λ _. again s.read) (λ v _. calm [] _ None (each_none Modest)))
    where
      again : (r : KeyRead) → Tame t x (reads_again t x k r)
      again (Complete v y) = calm [] _ None (each_none Modest)
      again _ = still

  commits_tame : is_open x.phase ≡ true → Tame t x (proposes c t x)
  commits_tame e =
      on_cond (Tame t x) (is_worn x.slots) _ _
      (λ _. calm [] [] (Some KeyWornOut) (each_none Modest))
      (λ _. record { says = own_offer (in_phase x Proposed) refl; late = λ l. absurd (early_late x.phase (open_early x.phase e) l) })

  do_commit_tame : is_open x.phase ≡ true → Tame t x (do_commit c t x)
  do_commit_tame e =
      on_cond (Tame t x) (waits_for_read (reads_begun x.slots)) _ _
      (λ _. soon (open_early x.phase e) _ (asks_all_modest (unread_keys x.slots)))
      (λ _. commits_tame e)

  do_cancel_tame : is_open x.phase ≡ true → (k : List ℕ) → Tame t x (do_cancel c t x k)
  do_cancel_tame e k =
      on_maybe (Tame t x) (slot_of x.slots k) _ _ (λ _. still)
      (λ s _. on_cond (Tame t x) (is_under_way s.read) _ _
      (λ _. soon (open_early x.phase e) (drops_read c t x k) (each_to Modest c.dcs _ (λ d. each_one Modest (shard_server d (shard_of c k)) (ReadCancel t k) tt)))
      (λ _. still))

  again_modest : (ks : List (List ℕ)) → Each Modest (asks_again c t x.slots ks)
  again_modest [] = each_none Modest
  again_modest (k ∷ ks) = each_both Modest _ _ (on_maybe (Each Modest) (slot_of x.slots k) _ _ (λ _. each_none Modest) (λ s _. rest s)) (again_modest ks)
    where
      rest : (s : Slot) → Each Modest (asks_rest c t s)
      rest s = each_to Modest c.dcs _ (λ d. on_cond (Each Modest) (member nat_cmp (granted_by (grants_of s.read)) d) _ _ (λ _. each_none Modest) (λ _. each_one Modest (shard_server d (shard_of c s.key)) (ReadAsk t s.key) tt))

  do_retry_tame : Tame t x (do_retry c t x)
  do_retry_tame =
      on_cond (Tame t x) (is_proposed x.phase) _ _
      (λ is. on_cond (λ ms. Tame t x (client_says x ms)) (is_quorum c x.refusals) _ _
      (λ _. calm _ [] None (each_one Modest (coordinator (home c t)) (Abandon t) tt))
      (λ _. record { says = own_offer x (proposed_is x.phase is); late = same_stays }))
      (λ _. on_cond (Tame t x) (reads_on x.phase) _ _ (λ _. calm _ [] None (again_modest (waiting_keys x.slots))) (λ _. still))

  goes_on_tame : (y : Client) (ms : Posts) (ls : List Line) → Each Modest ms → reads_on x.phase ≡ true → Tame t x (unless_refused x (after_read ms ls (proposes_once_read c t y)))
  goes_on_tame y ms ls q e =
      on_cond (λ a. Tame t x (unless_refused x (after_read ms ls a))) (is_committing y.phase && not (waits_for_read y.slots)) (proposes c t y) (client_stays y)
      (λ _. proposes_tame y ms ls q e)
      (λ _. soon e (unless_refused x (after_read ms ls (client_stays y))) (each_both Modest ms [] q (each_none Modest)))

  on_granted_tame : (k : List ℕ) (g : Grant) → Tame t x (on_granted c t x k g)
  on_granted_tame k g =
      on_cond (Tame t x) (reads_on x.phase) _ _
      (λ e. on_maybe (Tame t x) (slot_of x.slots k) _ _ (λ _. still)
      (λ s _. on_cond (Tame t x) (wants_grant s g.dc) _ _ (λ _. takes e s) (λ _. still)))
      (λ _. still)
    where
      cancels_modest : (s : Slot) (gs : List Grant) → Each Modest (cancels c t s.key gs)
      cancels_modest s gs = each_to Modest c.dcs (cancel_to c t s.key (granted_by gs)) (λ d. on_cond (Each Modest) (member nat_cmp (granted_by gs) d) _ _ (λ _. each_none Modest) (λ _. each_one Modest (shard_server d (shard_of c s.key)) (ReadCancel t s.key) tt))

      takes : reads_on x.phase ≡ true → (s : Slot) → Tame t x (takes_grant c t x s g)
      takes e s =
          let gs : List Grant = with_grant s g in
          on_cond (Tame t x) (is_quorum c (granted_by gs)) _ _
          (λ _. goes_on_tame (with_slots x (slot_set x.slots (completed s gs))) (cancels c t s.key gs) (read_line t s gs) (cancels_modest s gs) e)
          (λ _. soon e (client_stays (with_slots x (slot_set x.slots (with_read s (UnderWay (prints_of s.read) gs))))) (each_none Modest))

  ended : (y : Client) (o : Decision) → Tame t x (client_learns t y o)
  ended y o = tame (client_learns t y o) (each_none Modest) (λ l. (tt, λ p. absurd (not_done p)))
    where
      not_done : Done ≡ Proposed → ⊥
      not_done p = cc

  on_voted_tame : (b d : ℕ) (o : Decision) → Tame t x (on_voted c t x b d o)
  on_voted_tame b d o =
      on_cond (Tame t x) (is_over x.phase) _ _ (λ _. still)
      (λ _. on_cond (Tame t x) (is_decided_by c x.votes b d o) _ _
      (λ _. ended (with_vote x b d o) o)
      (λ _. tame (client_stays (with_vote x b d o)) (each_none Modest) same_stays))

  on_refused_tame : (b d : ℕ) (r : Reason) → Tame t x (on_refused c t x b d r)
  on_refused_tame b d r =
      on_cond (Tame t x) (counts_refusal x b d) _ _
      (λ _. tame _ (on_cond (Each Modest) (is_quorum c (added nat_cmp x.refusals d) && not (is_quorum c x.refusals)) _ _ (λ _. each_one Modest (coordinator (home c t)) (Abandon t) tt) (λ _. each_none Modest)) same_stays)
      (λ _. still)

  vanish_tame : Tame t x (do_vanish x)
  vanish_tame = tame (do_vanish x) (each_none Modest) (λ l. (tt, λ p. absurd (not_gone p)))
    where
      not_gone : Vanished ≡ Proposed → ⊥
      not_gone p = cc

  guarded : (b : Bool) (a : ClientAct) → Tame t x a → Tame t x (cond b a (client_stays x))
  guarded b a f = on_cond (Tame t x) b a (client_stays x) (λ _. f) (λ _. still)

  hears_tame : (m : Msg) → Tame t x (client_row c t x m)
  hears_tame (Granted u k d version value) = guarded ((u == t) && is_dc c d) _ (on_granted_tame k (record { dc = d; version = version; value = value }))
  hears_tame (Voted u b d o) = guarded ((u == t) && is_dc c d) _ (on_voted_tame b d o)
  hears_tame (Refused u b d r) = guarded ((u == t) && is_dc c d) _ (on_refused_tame b d r)
  hears_tame (Decided u o) = guarded (u == t) _ (on_cond (Tame t x) (is_over x.phase) _ _ (λ _. still) (λ _. ended x o))
  hears_tame _ = still

-- what lets a client act, of its phase
abbrev pub Ready : Client → ClientCause → Type 0
Ready x (Hears m) = Unit {0}
Ready x Retries = Unit {0}
Ready x Vanishes = Unit {0}
Ready x k = is_open x.phase ≡ true

pub client_tame : (c : Layout) (t : ℕ) (x : Client) (k : ClientCause) → Ready x k → Tame t x (client_by_row c t x k)
client_tame c t x (Hears m) e = hears_tame c t x m
client_tame c t x (Reads k) e = do_read_tame c t x e k
client_tame c t x (Writes k value) e = soon c t x (open_early x.phase e) (do_write x k value) (each_none Modest)
client_tame c t x Commits e = do_commit_tame c t x e
client_tame c t x (Cancels k) e = do_cancel_tame c t x e k
client_tame c t x Retries e = do_retry_tame c t x
client_tame c t x Vanishes e = vanish_tame c t x

offer_mute : (t : ℕ) (y : Client) (m : Msg) → Offer t y m → Mute m
offer_mute t y (Propose u b o) h = tt
offer_mute t y (Promise u b e r) h = tt
offer_mute t y m h = h

-- a client tells of no outcome
pub client_mute : (c : Layout) (t : ℕ) (x : Client) (k : ClientCause) → Ready x k → (m : Msg) → Says (client_by_row c t x k).sends m → Mute m
client_mute c t x k e m h = offer_mute t (client_by_row c t x k).after m ((client_tame c t x k e).says.each m h)
