-- A client says nothing of parts and grants; once it has proposed or is over, its keys stay.
use Rattle.std.proofs.Common.{◌≡◌, ℕ, List, [], ◌∷◌, refl, true, Some, None, Option}
use Rattle.std.specs.Prelude.{not, ◌&&◌, ◌==◌}
use Rattle.std.specs.Ordering.{nat_cmp}
use Rattle.rc_ids.specs.Tables.{member, added}
use Rattle.rc_ids.specs.Cluster.{Layout, is_dc, is_quorum, home, shard_of}
use Rattle.rc_ids.specs.declared.names.Party.{Party}
use Rattle.rc_body.specs.declared.decision.Decision.TheVariants.{Commit}
use Rattle.rc_msg.specs.declared.msg.Msg.{Msg}
use Rattle.rc_msg.specs.declared.msg.Msg.TheVariants.{ReadAsk, ReadCancel, Granted, Prepare, Prepared, Propose, Voted, Refused, Decided, Abandon}
use Rattle.rc_report.specs.declared.line.Line.{Line}
use Rattle.rc_protocol.specs.Messages.{Posts, coordinator, shard_server, to_all}
use Rattle.rc_protocol.specs.Coordinator.{is_decided_by}
use Rattle.rc_protocol.specs.Client.{Client, ClientAct, Proposed, Slot, KeyRead, Complete, Grant, is_open, is_over, is_committing, is_proposed, reads_on, client_stays, in_phase, with_slots, is_worn, proposes, body_of, slot_of, slot_set, asks, asks_new, reads_again, do_read, do_write, is_under_way, waits_for_read, reads_begun, unread_keys, asks_all, do_commit, drops_read, do_cancel, asks_rest, asks_again, waiting_keys, do_retry, grants_of, granted_by, cancel_to, cancels, completed, read_line, proposes_once_read, after_read, unless_refused, with_grant, takes_grant, wants_grant, on_granted, counts_refusal, client_row, ClientRefusal, KeyWornOut}
use Rattle.rc_agreement.proofs.Cases.{on_cond, on_maybe}
use Rattle.rc_protocol.specs.Acts.{ClientCause, Hears, Reads, Writes, Commits, Cancels, Retries, Vanishes, client_by_row}
use Rattle.rc_agreement.proofs.Ballots.{Late}
use Rattle.rc_agreement.proofs.ClientRows.{early_late, open_early, Ready}
use Rattle.rc_agreement.proofs.Sends.{EachTo, to_none, to_one, to_both, to_many, to_coords}
use Rattle.rc_serial_order.proofs.Means.{Drab}

-- and of a read it asks a shard server of the key
abbrev pub DrabTo : Layout → Party → Msg → Type 0
DrabTo c to (ReadAsk t k) = (d : ℕ) × (to ≡ shard_server d (shard_of c k))
DrabTo c to m = Drab m

pub drab_of : (c : Layout) (to : Party) (m : Msg) → DrabTo c to m → Drab m
drab_of c to (ReadAsk t k) h = tt
drab_of c to (ReadCancel t k) h = tt
drab_of c to (Granted t k d v y) h = h
drab_of c to (Prepare t p) h = h
drab_of c to (Prepared t x None) h = h
drab_of c to (Prepared t x (Some r)) h = tt
drab_of c to _ h = tt

pub record Keeps (c : Layout) (x : Client) (a : ClientAct) : Type 0 where
  pub drab : EachTo (DrabTo c) a.sends
  pub late : Late x.phase → Late a.after.phase × (a.after.slots ≡ x.slots)

module _ (c : Layout) (t : ℕ) (x : Client) where
  abbrev K : ClientAct → Type 0
  K a = Keeps c x a

  calm : (ms : Posts) (ls : List Line) (refused : Option ClientRefusal) → EachTo (DrabTo c) ms → K (record { after = x; sends = ms; lines = ls; refused = refused })
  calm ms ls refused q = record { drab = q; late = λ l. (l, refl) }

  still : K (client_stays x)
  still = calm [] [] None (to_none (DrabTo c))

  soon : reads_on x.phase ≡ true → (a : ClientAct) → EachTo (DrabTo c) a.sends → K a
  soon e a q = record { drab = q; late = λ l. absurd (early_late x.phase e l) }

  asks_drab : (k : List ℕ) → EachTo (DrabTo c) (asks c t k)
  asks_drab k = to_many (DrabTo c) c.dcs _ (λ d. to_one (DrabTo c) (shard_server d (shard_of c k)) (ReadAsk t k) (d, refl))

  asks_all_drab : (ks : List (List ℕ)) → EachTo (DrabTo c) (asks_all c t ks)
  asks_all_drab [] = to_none (DrabTo c)
  asks_all_drab (k ∷ ks) = to_both (DrabTo c) _ _ (asks_drab k) (asks_all_drab ks)

  again_drab : (ks : List (List ℕ)) → EachTo (DrabTo c) (asks_again c t x.slots ks)
  again_drab [] = to_none (DrabTo c)
  again_drab (k ∷ ks) = to_both (DrabTo c) _ _ (on_maybe (EachTo (DrabTo c)) (slot_of x.slots k) _ _ (λ _. to_none (DrabTo c)) (λ s _. rest s)) (again_drab ks)
    where
      rest : (s : Slot) → EachTo (DrabTo c) (asks_rest c t s)
      rest s = to_many (DrabTo c) c.dcs _ (λ d. on_cond (EachTo (DrabTo c)) (member nat_cmp (granted_by (grants_of s.read)) d) _ _ (λ _. to_none (DrabTo c)) (λ _. to_one (DrabTo c) (shard_server d (shard_of c s.key)) (ReadAsk t s.key) (d, refl)))

  own_drab : (y : Client) → EachTo (DrabTo c) (to_all c (Propose t 0 (Commit (body_of y.slots))))
  own_drab y = to_coords (DrabTo c) c (Propose t 0 (Commit (body_of y.slots))) (λ d. tt)

  read_keeps : is_open x.phase ≡ true → (k : List ℕ) → K (do_read c t x k)
  read_keeps e k =
      on_maybe K (slot_of x.slots k) _ _ (λ _. soon (open_early x.phase e) (asks_new c t x k) (asks_drab k))
      (λ s _. on_maybe K s.write _ _ (λ _. again s.read) (λ v _. calm [] _ None (to_none (DrabTo c))))
    where
      again : (r : KeyRead) → K (reads_again t x k r)
      again (Complete v y) = calm [] _ None (to_none (DrabTo c))
      again _ = still

  proposes_keeps : (y : Client) (ms : Posts) (ls : List Line) → EachTo (DrabTo c) ms → reads_on x.phase ≡ true → K (unless_refused x (after_read ms ls (proposes c t y)))
  proposes_keeps y ms ls q e =
      on_cond (λ a. K (unless_refused x (after_read ms ls a))) (is_worn y.slots) _ _
      (λ _. calm [] [] (Some KeyWornOut) (to_none (DrabTo c)))
      (λ _. record { drab = to_both (DrabTo c) ms _ q (own_drab (in_phase y Proposed)); late = λ l. absurd (early_late x.phase e l) })

  commit_keeps : is_open x.phase ≡ true → K (do_commit c t x)
  commit_keeps e =
      on_cond K (waits_for_read (reads_begun x.slots)) _ _
      (λ _. soon (open_early x.phase e) _ (asks_all_drab (unread_keys x.slots)))
      (λ _. on_cond K (is_worn x.slots) _ _ (λ _. calm [] [] (Some KeyWornOut) (to_none (DrabTo c))) (λ _. soon (open_early x.phase e) _ (own_drab (in_phase x Proposed))))

  cancel_keeps : is_open x.phase ≡ true → (k : List ℕ) → K (do_cancel c t x k)
  cancel_keeps e k =
      on_maybe K (slot_of x.slots k) _ _ (λ _. still)
      (λ s _. on_cond K (is_under_way s.read) _ _
      (λ _. soon (open_early x.phase e) (drops_read c t x k) (to_many (DrabTo c) c.dcs _ (λ d. to_one (DrabTo c) (shard_server d (shard_of c k)) (ReadCancel t k) tt)))
      (λ _. still))

  retry_keeps : K (do_retry c t x)
  retry_keeps =
      on_cond K (is_proposed x.phase) _ _
      (λ _. on_cond (λ ms. K (record { after = x; sends = ms; lines = []; refused = None })) (is_quorum c x.refusals) _ _
      (λ _. calm _ [] None (to_one (DrabTo c) (coordinator (home c t)) (Abandon t) tt)) (λ _. calm _ [] None (own_drab x)))
      (λ _. on_cond K (reads_on x.phase) _ _ (λ _. calm _ [] None (again_drab (waiting_keys x.slots))) (λ _. still))

  goes_keeps : (y : Client) (ms : Posts) (ls : List Line) → EachTo (DrabTo c) ms → reads_on x.phase ≡ true → K (unless_refused x (after_read ms ls (proposes_once_read c t y)))
  goes_keeps y ms ls q e =
      on_cond (λ a. K (unless_refused x (after_read ms ls a))) (is_committing y.phase && not (waits_for_read y.slots)) (proposes c t y) (client_stays y)
      (λ _. proposes_keeps y ms ls q e)
      (λ _. soon e (unless_refused x (after_read ms ls (client_stays y))) (to_both (DrabTo c) ms [] q (to_none (DrabTo c))))

  granted_keeps : (k : List ℕ) (g : Grant) → K (on_granted c t x k g)
  granted_keeps k g =
      on_cond K (reads_on x.phase) _ _
      (λ e. on_maybe K (slot_of x.slots k) _ _ (λ _. still) (λ s _. on_cond K (wants_grant s g.dc) _ _ (λ _. takes e s) (λ _. still)))
      (λ _. still)
    where
      takes : reads_on x.phase ≡ true → (s : Slot) → K (takes_grant c t x s g)
      takes e s =
          let gs : List Grant = with_grant s g in
          on_cond K (is_quorum c (granted_by gs)) _ _
          (λ _. goes_keeps (with_slots x (slot_set x.slots (completed s gs))) (cancels c t s.key gs) (read_line t s gs)
          (to_many (DrabTo c) c.dcs (cancel_to c t s.key (granted_by gs)) (λ d. on_cond (EachTo (DrabTo c)) (member nat_cmp (granted_by gs) d) _ _ (λ _. to_none (DrabTo c)) (λ _. to_one (DrabTo c) (shard_server d (shard_of c s.key)) (ReadCancel t s.key) tt))) e)
          (λ _. soon e _ (to_none (DrabTo c)))

  hears_keeps : (m : Msg) → K (client_row c t x m)
  hears_keeps (Granted u k d version value) = on_cond K ((u == t) && is_dc c d) _ _ (λ _. granted_keeps k (record { dc = d; version = version; value = value })) (λ _. still)
  hears_keeps (Voted u b d o) =
      on_cond K ((u == t) && is_dc c d) _ _
      (λ _. on_cond K (is_over x.phase) _ _ (λ _. still)
      (λ _. on_cond K (is_decided_by c x.votes b d o) _ _ (λ _. record { drab = to_none (DrabTo c); late = λ l. (tt, refl) }) (λ _. record { drab = to_none (DrabTo c); late = λ l. (l, refl) })))
      (λ _. still)
  hears_keeps (Refused u b d r) =
      on_cond K ((u == t) && is_dc c d) _ _
      (λ _. on_cond K (counts_refusal x b d) _ _
      (λ _. record { drab = on_cond (EachTo (DrabTo c)) (is_quorum c (added nat_cmp x.refusals d) && not (is_quorum c x.refusals)) _ _ (λ _. to_one (DrabTo c) (coordinator (home c t)) (Abandon t) tt) (λ _. to_none (DrabTo c)); late = λ l. (l, refl) })
      (λ _. still))
      (λ _. still)
  hears_keeps (Decided u o) = on_cond K (u == t) _ _ (λ _. on_cond K (is_over x.phase) _ _ (λ _. still) (λ _. record { drab = to_none (DrabTo c); late = λ l. (tt, refl) })) (λ _. still)
  hears_keeps _ = still

pub client_keeps : (c : Layout) (t : ℕ) (x : Client) (k : ClientCause) → Ready x k → Keeps c x (client_by_row c t x k)
client_keeps c t x (Hears m) e = hears_keeps c t x m
client_keeps c t x (Reads k) e = read_keeps c t x e k
client_keeps c t x (Writes k value) e = soon c t x (open_early x.phase e) (do_write x k value) (to_none (DrabTo c))
client_keeps c t x Commits e = commit_keeps c t x e
client_keeps c t x (Cancels k) e = cancel_keeps c t x e k
client_keeps c t x Retries e = retry_keeps c t x
client_keeps c t x Vanishes e = record { drab = to_none (DrabTo c); late = λ l. (tt, refl) }
