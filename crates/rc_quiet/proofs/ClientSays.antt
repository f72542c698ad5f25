-- What a client says: it asks shards of the keys for reads, drops reads, proposes, and gives its transaction up; and to whom.
use Rattle.std.proofs.Common.{◌≡◌, ℕ, List, [], ◌∷◌, ◌++◌, refl, sym, ap, ◌∙◌, subst, Bool, true, false, cond, Some, None, ◌⊎◌, inl, inr, ⊎_elim, true≢false}
use Rattle.std.specs.Prelude.{map, not, ◌&&◌, ◌==◌}
use Rattle.std.specs.declared.cmp.Ordering.{Ordering}
use Rattle.std.specs.declared.cmp.Ordering.TheVariants.{Less, Equal, Greater}
use Rattle.std.specs.Ordering.{nat_cmp, match_ordering}
use Rattle.rc_ids.specs.Tables.{In, member, added}
use Rattle.rc_ids.specs.Texts.{key_cmp, same_key}
use Rattle.rc_ids.specs.Cluster.{Layout, is_dc, is_quorum, home, shard_of}
use Rattle.rc_ids.specs.declared.names.Party.{Party}
use Rattle.rc_body.specs.declared.decision.Decision.TheVariants.{Commit}
use Rattle.rc_msg.specs.declared.msg.Msg.{Msg}
use Rattle.rc_msg.specs.declared.msg.Msg.TheVariants.{ReadAsk, ReadCancel, Granted, Propose, Voted, Refused, Decided, Abandon}
use Rattle.rc_protocol.specs.Messages.{coordinator, shard_server, one, to_all}
use Rattle.rc_protocol.specs.Coordinator.{is_decided_by}
use Rattle.rc_protocol.specs.Client.{Client, ClientAct, Slot, KeyRead, NotRead, UnderWay, Complete, Grant, is_over, is_unread, is_committing, is_proposed, reads_on, client_stays, with_slots, with_read, read_begun, is_worn, proposes, body_of, slot_of, slot_set, asks, reads_again, do_read, is_under_way, waits_for_read, reads_begun, unread_keys, asks_all, do_commit, drops_read, do_cancel, asks_rest, asks_again, waiting_keys, do_retry, grants_of, granted_by, cancel_to, cancels, completed, read_line, after_read, unless_refused, with_grant, takes_grant, wants_grant, on_granted, counts_refusal, client_row}
use Rattle.rc_protocol.specs.Acts.{ClientCause, Hears, Reads, Writes, Commits, Cancels, Retries, Vanishes, client_by_row}
use Rattle.rc_agreement.proofs.Cases.{on_cond, on_maybe, never}
use Rattle.rc_agreement.proofs.ClientSlots.{slot_in, begun_key, key_same}
use Rattle.rc_causes.proofs.ReadSlots.{Has, has_head, has_tail}
use Rattle.rc_quiet.proofs.Parts.{IsBegun}
use Rattle.rc_agreement.proofs.Sends.{EachTo, to_none, to_one, to_both, to_many, to_coords}

-- of a client of t with these slots; what it asks for has a slot, and a read that was begun
abbrev pub Speaks : Layout → ℕ → List Slot → Party → Msg → Type 0
Speaks c t slots to (ReadAsk u k) = (u ≡ t) × Has IsBegun k slots × ((d : ℕ) × (to ≡ shard_server d (shard_of c k)))
Speaks c t slots to (ReadCancel u k) = u ≡ t
Speaks c t slots to (Propose u b o) = u ≡ t
Speaks c t slots to (Abandon u) = u ≡ t
Speaks c t slots to _ = ⊥

-- the new slot at the end of the list
end_of : (y : Slot) (k : List ℕ) (xs : List Slot) → slot_of xs k ≡ None → same_key y.key k ≡ true → IsBegun y.read → Has IsBegun k (xs ++ y ∷ [])
end_of y k [] none key h = has_head IsBegun k y [] key h
end_of y k (z ∷ xs) none key h = go (λ e. end_of y k xs e key h) (same_key z.key k) refl none
  where
    go : (slot_of xs k ≡ None → Has IsBegun k (xs ++ y ∷ [])) → (b : Bool) → same_key z.key k ≡ b → cond b (Some z) (slot_of xs k) ≡ None → Has IsBegun k (z ∷ (xs ++ y ∷ []))
    go rest true is e = never z (sym e)
    go rest false is e = has_tail IsBegun k z (xs ++ y ∷ []) is (rest e)

begun_is : (s : Slot) → IsBegun (read_begun s).read
begun_is s = on_cond (λ (z : Slot). IsBegun z.read) (is_unread s.read) (with_read s (UnderWay false [])) s (λ _. tt) (λ n. by s.read n)
  where
    by : (r : KeyRead) → is_unread r ≡ false → IsBegun r
    by NotRead n = absurd (true≢false n)
    by (UnderWay p gs) n = tt
    by (Complete v y) n = tt

-- where all reads are begun, that of each key of the list is
all_begun : (k : List ℕ) (s : Slot) (xs : List Slot) → In s xs → s.key ≡ k → Has IsBegun k (map read_begun xs)
all_begun k s [] i e = absurd i
all_begun k s (y ∷ ys) i e = go (λ j. all_begun k s ys j e) (same_key y.key k) refl
  where
    at : same_key (read_begun y).key k ≡ same_key y.key k
    at = ap (λ (q : List ℕ). same_key q k) (begun_key y)

    go : (In s ys → Has IsBegun k (map read_begun ys)) → (b : Bool) → same_key y.key k ≡ b → Has IsBegun k (map read_begun (y ∷ ys))
    go rest true is = has_head IsBegun k (read_begun y) (map read_begun ys) (at ∙ is) (begun_is y)
    go rest false is = has_tail IsBegun k (read_begun y) (map read_begun ys) (at ∙ is) (⊎_elim (λ (f : y ≡ s). absurd (true≢false (sym (key_same y.key k (ap (λ (z : Slot). z.key) f ∙ e)) ∙ is))) (λ j. rest j) i)

in_added_key : (x k : List ℕ) (xs : List (List ℕ)) → In x (added key_cmp xs k) → (x ≡ k) ⊎ In x xs
in_added_key x k [] i = ⊎_elim (λ (e : k ≡ x). inl (sym e)) (λ n. absurd n) i
in_added_key x k (y ∷ ys) i = go (in_added_key x k ys) (key_cmp k y) i
  where
    go : (In x (added key_cmp ys k) → (x ≡ k) ⊎ In x ys) → (o : Ordering) → In x (match_ordering o (k ∷ y ∷ ys) (y ∷ ys) (y ∷ added key_cmp ys k)) → (x ≡ k) ⊎ In x (y ∷ ys)
    go ih Less (inl e) = inl (sym e)
    go ih Less (inr j) = inr j
    go ih Equal j = inr j
    go ih Greater (inl e) = inr (inl e)
    go ih Greater (inr j) = ⊎_elim inl (λ a. inr (inr a)) (ih j)

-- a key that is listed is of a slot
unread_slot : (k : List ℕ) (xs : List Slot) → In k (unread_keys xs) → (s : Slot) × In s xs × (s.key ≡ k)
unread_slot k [] i = absurd i
unread_slot k (y ∷ ys) i =
    on_cond (λ (z : List (List ℕ)). In k z → (s : Slot) × In s (y ∷ ys) × (s.key ≡ k)) (is_unread y.read) (added key_cmp (unread_keys ys) y.key) (unread_keys ys)
    (λ _ j. ⊎_elim (λ (e : k ≡ y.key). (y, inl refl, sym e)) (λ l. let r = unread_slot k ys l in (r.0, inr r.1, r.2)) (in_added_key k y.key (unread_keys ys) j))
    (λ _ j. let r = unread_slot k ys j in (r.0, inr r.1, r.2)) i

waiting_slot : (k : List ℕ) (xs : List Slot) → In k (waiting_keys xs) → (s : Slot) × In s xs × (s.key ≡ k) × (is_under_way s.read ≡ true)
waiting_slot k [] i = absurd i
waiting_slot k (y ∷ ys) i =
    on_cond (λ (z : List (List ℕ)). In k z → (s : Slot) × In s (y ∷ ys) × (s.key ≡ k) × (is_under_way s.read ≡ true)) (is_under_way y.read) (added key_cmp (waiting_keys ys) y.key) (waiting_keys ys)
    (λ u j. ⊎_elim (λ (e : k ≡ y.key). (y, inl refl, sym e, u)) (λ l. let r = waiting_slot k ys l in (r.0, inr r.1, r.2, r.3)) (in_added_key k y.key (waiting_keys ys) j))
    (λ _ j. let r = waiting_slot k ys j in (r.0, inr r.1, r.2, r.3)) i

under_begun : (r : KeyRead) → is_under_way r ≡ true → IsBegun r
under_begun NotRead e = absurd (true≢false (sym e))
under_begun (UnderWay p gs) e = tt
under_begun (Complete v y) e = tt

module _ (c : Layout) (t : ℕ) (x : Client) (apart : (s : Slot) → In s x.slots → slot_of x.slots s.key ≡ Some s) where
  abbrev A : ClientAct → Type 0
  A a = EachTo (Speaks c t a.after.slots) a.sends

  none : (ss : List Slot) → EachTo (Speaks c t ss) []
  none ss = to_none (Speaks c t ss)

  asks_so : (ss : List Slot) (k : List ℕ) → Has IsBegun k ss → EachTo (Speaks c t ss) (asks c t k)
  asks_so ss k h = to_many (Speaks c t ss) c.dcs _ (λ d. to_one (Speaks c t ss) (shard_server d (shard_of c k)) (ReadAsk t k) (refl, h, (d, refl)))

  asks_all_so : (ss : List Slot) (ks : List (List ℕ)) → ((k : List ℕ) → In k ks → Has IsBegun k ss) → EachTo (Speaks c t ss) (asks_all c t ks)
  asks_all_so ss [] h = none ss
  asks_all_so ss (k ∷ ks) h = to_both (Speaks c t ss) (asks c t k) (asks_all c t ks) (asks_so ss k (h k (inl refl))) (asks_all_so ss ks (λ q i. h q (inr i)))

  again_so : (ks : List (List ℕ)) → ((k : List ℕ) → In k ks → Has IsBegun k x.slots) → EachTo (Speaks c t x.slots) (asks_again c t x.slots ks)
  again_so [] h = none x.slots
  again_so (k ∷ ks) h = to_both (Speaks c t x.slots) _ _ (on_maybe (EachTo (Speaks c t x.slots)) (slot_of x.slots k) _ _ (λ _. none x.slots) (λ s is. rest s (slot_in k x.slots s is).1)) (again_so ks (λ q i. h q (inr i)))
    where
      rest : (s : Slot) → s.key ≡ k → EachTo (Speaks c t x.slots) (asks_rest c t s)
      rest s e =
          to_many (Speaks c t x.slots) c.dcs _
          (λ d. on_cond (EachTo (Speaks c t x.slots)) (member nat_cmp (granted_by (grants_of s.read)) d) _ _ (λ _. none x.slots)
          (λ _. to_one (Speaks c t x.slots) (shard_server d (shard_of c s.key)) (ReadAsk t s.key) (refl, subst (λ (q : List ℕ). Has IsBegun q x.slots) (sym e) (h k (inl refl)), (d, refl))))

  waits_begun : (k : List ℕ) → In k (waiting_keys x.slots) → Has IsBegun k x.slots
  waits_begun k i =
      let r = waiting_slot k x.slots i in
      record { slot = r.0; at = ap (slot_of x.slots) (sym r.2) ∙ apart r.0 r.1; holds = under_begun r.0.read r.3 }

  own_so : (ss : List Slot) (y : Client) → EachTo (Speaks c t ss) (to_all c (Propose t 0 (Commit (body_of y.slots))))
  own_so ss y = to_coords (Speaks c t ss) c (Propose t 0 (Commit (body_of y.slots))) (λ d. refl)

  abandon_so : (ss : List Slot) → EachTo (Speaks c t ss) (one (coordinator (home c t)) (Abandon t))
  abandon_so ss = to_one (Speaks c t ss) (coordinator (home c t)) (Abandon t) refl

  proposes_so : A (proposes c t x)
  proposes_so = on_cond A (is_worn x.slots) _ _ (λ _. none x.slots) (λ _. own_so x.slots x)

  read_so : (k : List ℕ) → A (do_read c t x k)
  read_so k =
      on_maybe A (slot_of x.slots k) _ _
      (λ n. asks_so (x.slots ++ record { key = k; write = None; read = UnderWay true [] } ∷ []) k (end_of (record { key = k; write = None; read = UnderWay true [] }) k x.slots n (key_same k k refl) tt))
      (λ s _. on_maybe A s.write _ _ (λ _. again s.read) (λ v _. none x.slots))
    where
      again : (r : KeyRead) → A (reads_again t x k r)
      again (Complete v y) = none x.slots
      again (UnderWay p gs) = none x.slots
      again NotRead = none x.slots

  commit_so : A (do_commit c t x)
  commit_so =
      on_cond A (waits_for_read (reads_begun x.slots)) _ _
      (λ _. asks_all_so (reads_begun x.slots) (unread_keys x.slots) (λ k i. let r = unread_slot k x.slots i in all_begun k r.0 x.slots r.1 r.2)) (λ _. proposes_so)

  cancel_so : (k : List ℕ) → A (do_cancel c t x k)
  cancel_so k =
      on_maybe A (slot_of x.slots k) _ _ (λ _. none x.slots)
      (λ s _. on_cond A (is_under_way s.read) _ _
      (λ _. let ss : List Slot = (drops_read c t x k).after.slots in to_many (Speaks c t ss) c.dcs _ (λ d. to_one (Speaks c t ss) (shard_server d (shard_of c k)) (ReadCancel t k) refl)) (λ _. none x.slots))

  retry_so : A (do_retry c t x)
  retry_so =
      on_cond A (is_proposed x.phase) _ _
      (λ _. on_cond (EachTo (Speaks c t x.slots)) (is_quorum c x.refusals) _ _ (λ _. abandon_so x.slots) (λ _. own_so x.slots x))
      (λ _. on_cond A (reads_on x.phase) _ _ (λ _. again_so (waiting_keys x.slots) waits_begun) (λ _. none x.slots))

  granted_so : (k : List ℕ) (g : Grant) → A (on_granted c t x k g)
  granted_so k g =
      on_cond A (reads_on x.phase) _ _
      (λ _. on_maybe A (slot_of x.slots k) _ _ (λ _. none x.slots) (λ s _. on_cond A (wants_grant s g.dc) _ _ (λ _. takes s) (λ _. none x.slots)))
      (λ _. none x.slots)
    where
      takes : (s : Slot) → A (takes_grant c t x s g)
      takes s =
          let gs : List Grant = with_grant s g in
          let y : Client = with_slots x (slot_set x.slots (completed s gs)) in
          let S : Party → Msg → Type 0 = Speaks c t y.slots in
          let ms : EachTo S (cancels c t s.key gs) =
          to_many S c.dcs (cancel_to c t s.key (granted_by gs)) (λ d. on_cond (EachTo S) (member nat_cmp (granted_by gs) d) _ _ (λ _. to_none S) (λ _. to_one S (shard_server d (shard_of c s.key)) (ReadCancel t s.key) refl)) in
          on_cond A (is_quorum c (granted_by gs)) _ _
          (λ _. on_cond (λ a. A (unless_refused x (after_read (cancels c t s.key gs) (read_line t s gs) a))) (is_committing y.phase && not (waits_for_read y.slots)) (proposes c t y) (client_stays y)
          (λ _. on_cond (λ a. A (unless_refused x (after_read (cancels c t s.key gs) (read_line t s gs) a))) (is_worn y.slots) _ _ (λ _. none x.slots) (λ _. to_both S (cancels c t s.key gs) _ ms (own_so y.slots y)))
          (λ _. to_both S (cancels c t s.key gs) [] ms (none y.slots)))
          (λ _. none _)

  hears_so : (m : Msg) → A (client_row c t x m)
  hears_so (Granted u k d v y) = on_cond A ((u == t) && is_dc c d) _ _ (λ _. granted_so k (record { dc = d; version = v; value = y })) (λ _. none x.slots)
  hears_so (Voted u b d o) = on_cond A ((u == t) && is_dc c d) _ _ (λ _. on_cond A (is_over x.phase) _ _ (λ _. none x.slots) (λ _. on_cond A (is_decided_by c x.votes b d o) _ _ (λ _. none x.slots) (λ _. none x.slots))) (λ _. none x.slots)
  hears_so (Refused u b d r) =
      on_cond A ((u == t) && is_dc c d) _ _
      (λ _. on_cond A (counts_refusal x b d) _ _
      (λ _. on_cond (EachTo (Speaks c t x.slots)) (is_quorum c (added nat_cmp x.refusals d) && not (is_quorum c x.refusals)) _ _ (λ _. abandon_so x.slots) (λ _. none x.slots)) (λ _. none x.slots))
      (λ _. none x.slots)
  hears_so (Decided u o) = on_cond A (u == t) _ _ (λ _. on_cond A (is_over x.phase) _ _ (λ _. none x.slots) (λ _. none x.slots)) (λ _. none x.slots)
  hears_so _ = none x.slots

  pub client_says : (k : ClientCause) → A (client_by_row c t x k)
  client_says (Hears m) = hears_so m
  client_says (Reads k) = read_so k
  client_says (Writes k value) = none _
  client_says Commits = commit_so
  client_says (Cancels k) = cancel_so k
  client_says Retries = retry_so
  client_says Vanishes = none _
