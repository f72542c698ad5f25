-- The unread keys of a commit: each once, each of a slot that was not read. And what the commit's own event does.
use Rattle.std.proofs.Common.{◌≡◌, ℕ, suc, List, [], ◌∷◌, refl, sym, ap, ◌∙◌, subst, Bool, true, false, Some, None, ◌⊎◌, inl, inr, ⊎_elim}
use Rattle.std.specs.Prelude.{if◌then◌else◌, length}
use Rattle.std.specs.Ordering.{match_ordering}
use Rattle.std.specs.declared.cmp.Ordering.{Ordering}
use Rattle.std.specs.declared.cmp.Ordering.TheVariants.{Less, Equal, Greater}
use Rattle.rc_ids.specs.Tables.{In, added}
use Rattle.rc_ids.specs.Texts.{key_cmp, same_key}
use Rattle.rc_ids.specs.Cluster.{Layout}
use Rattle.rc_body.specs.declared.decision.Decision.TheVariants.{Commit}
use Rattle.rc_msg.specs.declared.msg.Msg.TheVariants.{Propose}
use Rattle.rc_protocol.specs.Messages.{to_all}
use Rattle.rc_serial.specs.OneMap.{Map}
use Rattle.rc_protocol.specs.Client.{Client, Slot, KeyRead, NotRead, UnderWay, Complete, Open, Committing, Proposed, slot_of, is_unread, unread_keys, reads_begun, waits_for_read, is_worn, body_of, asks_all, do_commit, client_says, with_read}
use Rattle.rc_calm_batches.proofs.Puts.{key_eq_of}
use Rattle.rc_calm_batches.proofs.Reading.{same_itself}
use Rattle.rc_calm_batches.proofs.Slots.{other_key, Once, NoneWaits, fills, filled, begun_filled, waits_still, waits_no_more}
use Rattle.rc_calm_batches.proofs.CommitReads.{among, is_among, KeysOnce, Unread}

abbrev Keys : Type 0
Keys = List (List ℕ)

in_added : (k j : List ℕ) (xs : Keys) → In k (added key_cmp xs j) → (j ≡ k) ⊎ In k xs
in_added k j [] h = h
in_added k j (x ∷ xs) h = go (key_cmp j x) (in_added k j xs) h
  where
    go : (o : Ordering) → (In k (added key_cmp xs j) → (j ≡ k) ⊎ In k xs) → In k (match_ordering o (j ∷ x ∷ xs) (x ∷ xs) (x ∷ added key_cmp xs j)) → (j ≡ k) ⊎ In k (x ∷ xs)
    go Less more i = i
    go Equal more i = inr i
    go Greater more (inl e) = inr (inl e)
    go Greater more (inr i) = ⊎_elim (λ e. inl e) (λ w. inr (inr w)) (more i)

added_new : (j : List ℕ) (xs : Keys) → In j (added key_cmp xs j)
added_new j [] = inl refl
added_new j (x ∷ xs) = go (key_cmp j x) refl (added_new j xs)
  where
    go : (o : Ordering) → key_cmp j x ≡ o → In j (added key_cmp xs j) → In j (match_ordering o (j ∷ x ∷ xs) (x ∷ xs) (x ∷ added key_cmp xs j))
    go Less h more = inl refl
    go Equal h more = inl (sym (key_eq_of j x h))
    go Greater h more = inr more

added_old : (k j : List ℕ) (xs : Keys) → In k xs → In k (added key_cmp xs j)
added_old k j [] i = absurd i
added_old k j (x ∷ xs) i = go (key_cmp j x) (added_old k j xs) i
  where
    go : (o : Ordering) → (In k xs → In k (added key_cmp xs j)) → In k (x ∷ xs) → In k (match_ordering o (j ∷ x ∷ xs) (x ∷ xs) (x ∷ added key_cmp xs j))
    go Less more i = inr i
    go Equal more i = i
    go Greater more (inl e) = inl e
    go Greater more (inr i) = inr (more i)

added_once : (j : List ℕ) (xs : Keys) → KeysOnce xs → ((i : List ℕ) → In i xs → i ≡ j → ⊥) → KeysOnce (added key_cmp xs j)
added_once j [] o n = ((λ i w. absurd w), tt)
added_once j (x ∷ xs) o n = go (key_cmp j x) (added_once j xs o.1 (λ i w. n i (inr w)))
  where
    go : (r : Ordering) → KeysOnce (added key_cmp xs j) → KeysOnce (match_ordering r (j ∷ x ∷ xs) (x ∷ xs) (x ∷ added key_cmp xs j))
    go Less more = (n, o)
    go Equal more = o
    go Greater more = ((λ i w e. ⊎_elim (λ k. n x (inl refl) (sym (k ∙ e))) (λ v. o.0 i v e) (in_added i j xs w)), more)

pub added_length : (j : List ℕ) (xs : Keys) → ((i : List ℕ) → In i xs → i ≡ j → ⊥) → length (added key_cmp xs j) ≡ suc (length xs)
added_length j [] n = refl
added_length j (x ∷ xs) n = go (key_cmp j x) refl (added_length j xs (λ i w. n i (inr w)))
  where
    go : (r : Ordering) → key_cmp j x ≡ r → length (added key_cmp xs j) ≡ suc (length xs) → length (match_ordering r (j ∷ x ∷ xs) (x ∷ xs) (x ∷ added key_cmp xs j)) ≡ suc (suc (length xs))
    go Less h more = refl
    go Equal h more = absurd (n x (inl refl) (sym (key_eq_of j x h)))
    go Greater h more = ap suc more

-- WHOSE KEYS they are
abbrev pub Of : List Slot → List ℕ → Type 0
Of ss k = (s : Slot) × In s ss × (s.key ≡ k) × (s.read ≡ NotRead)

pub unread_of : (ss : List Slot) (k : List ℕ) → In k (unread_keys ss) → Of ss k
unread_of [] k i = absurd i
unread_of (s ∷ ss) k i = go s.read refl (unread_of ss k) i
  where
    later : Of ss k → Of (s ∷ ss) k
    later u = (u.0, inr u.1, u.2, u.3)

    go : (r : KeyRead) → s.read ≡ r → (In k (unread_keys ss) → Of ss k) → In k (if is_unread r then added key_cmp (unread_keys ss) s.key else unread_keys ss) → Of (s ∷ ss) k
    go NotRead e more i = ⊎_elim (λ h. (s, inl refl, h, e)) (λ j. later (more j)) (in_added k s.key (unread_keys ss) i)
    go (UnderWay prints gs) e more i = later (more i)
    go (Complete version value) e more i = later (more i)

pub unread_has : (ss : List Slot) (z : Slot) → In z ss → z.read ≡ NotRead → In z.key (unread_keys ss)
unread_has [] z i r = absurd i
unread_has (s ∷ ss) z (inl e) r =
    let sr : s.read ≡ NotRead = ap (λ (y : Slot). y.read) e ∙ r in
    subst (λ (k : List ℕ). In k (unread_keys (s ∷ ss))) (ap (λ (y : Slot). y.key) e) (rw sr (added_new s.key (unread_keys ss)))
unread_has (s ∷ ss) z (inr i) r = go s.read (unread_has ss z i r)
  where
    go : (w : KeyRead) → In z.key (unread_keys ss) → In z.key (if is_unread w then added key_cmp (unread_keys ss) s.key else unread_keys ss)
    go NotRead j = added_old z.key s.key (unread_keys ss) j
    go (UnderWay prints gs) j = j
    go (Complete version value) j = j

pub apart_key : (s : Slot) (ss : List Slot) → Once (s ∷ ss) → (i : List ℕ) → In i (unread_keys ss) → i ≡ s.key → ⊥
apart_key s ss o i w e = let u = unread_of ss i w in o.0 u.0 u.1 (sym (u.2 ∙ e))

pub unread_once : (ss : List Slot) → Once ss → KeysOnce (unread_keys ss)
unread_once [] o = tt
unread_once (s ∷ ss) o = go s.read (unread_once ss o.1)
  where
    go : (w : KeyRead) → KeysOnce (unread_keys ss) → KeysOnce (if is_unread w then added key_cmp (unread_keys ss) s.key else unread_keys ss)
    go NotRead h = added_once s.key (unread_keys ss) h (apart_key s ss o)
    go (UnderWay prints gs) h = h
    go (Complete version value) h = h

slot_at : (ss : List Slot) (z : Slot) → Once ss → In z ss → slot_of ss z.key ≡ Some z
slot_at [] z o i = absurd i
slot_at (s ∷ ss) z o (inl e) = let k : same_key s.key z.key ≡ true = ap (λ (y : Slot). same_key s.key y.key) (sym e) ∙ same_itself s.key in rw k (ap (λ (y : Slot). Some y) e)
slot_at (s ∷ ss) z o (inr i) = let k = other_key s.key z.key (o.0 z i) in let more = slot_at ss z o.1 i in rw (k, more)

pub unread_slot : (ss : List Slot) → Once ss → (k : List ℕ) → In k (unread_keys ss) → Unread ss k
unread_slot ss o k i =
    let u = unread_of ss k i in
    record { slot = u.0; at = ap (slot_of ss) (sym u.2) ∙ slot_at ss u.0 o u.1; key = u.2; read = u.3; member = u.1 }

-- THE COMMIT'S OWN EVENT
module _ (c : Layout) (m : Map) (t : ℕ) (slots : List Slot) (refusals : List ℕ) (once : Once slots) (calm : NoneWaits m slots) where
  abbrev pub opened : Client
  opened = record { phase = Open; slots = slots; refusals = refusals; votes = []; outcome = None }

  begins : reads_begun slots ≡ fills m (among (unread_keys slots)) slots
  begins = begun_filled m (among (unread_keys slots)) slots (λ s i r. is_among (unread_keys slots) s.key (unread_has slots s i r))

  -- it asks for the unread keys
  pub commit_asks : (k : List ℕ) (ks : Keys) → unread_keys slots ≡ k ∷ ks
      → do_commit c t opened ≡ client_says (record { phase = Committing; slots = fills m (among (k ∷ ks)) slots; refusals = refusals; votes = []; outcome = None }) (asks_all c t (k ∷ ks))
  commit_asks k ks e =
      let u = unread_slot slots once k (subst (λ (z : Keys). In k z) (sym e) (inl refl)) in
      let b : reads_begun slots ≡ fills m (among (k ∷ ks)) slots = begins ∙ ap (λ (z : Keys). fills m (among z) slots) e in
      let w = waits_still m (among (k ∷ ks)) slots u.slot u.member u.read (is_among (k ∷ ks) u.slot.key (inl (sym u.key))) in
      rw (b, w, e)

  none_filled : (f : List ℕ → Bool) (ss : List Slot) → ((s : Slot) → In s ss → s.read ≡ NotRead → ⊥) → fills m f ss ≡ ss
  none_filled f [] h = refl
  none_filled f (s ∷ ss) h = ap (λ (z : Slot). z ∷ fills m f ss) (go s.read refl) ∙ ap (λ (z : List Slot). s ∷ z) (none_filled f ss (λ z i. h z (inr i)))
    where
      go : (r : KeyRead) → s.read ≡ r → with_read s (filled m f s.key s.read) ≡ s
      go NotRead e = absurd (h s (inl refl) e)
      go (UnderWay prints gs) e = ap (λ (r : KeyRead). with_read s (filled m f s.key r)) e ∙ ap (with_read s) (sym e)
      go (Complete version value) e = ap (λ (r : KeyRead). with_read s (filled m f s.key r)) e ∙ ap (with_read s) (sym e)

  -- or proposes at once
  pub commit_proposes : unread_keys slots ≡ [] → is_worn (fills m (λ k. false) slots) ≡ false
      → do_commit c t opened ≡ client_says (record { phase = Proposed; slots = fills m (λ k. false) slots; refusals = refusals; votes = []; outcome = None }) (to_all c (Propose t 0 (Commit (body_of (fills m (λ k. false) slots)))))
  commit_proposes e lasting =
      let n = none_filled (λ k. false) slots (λ s i r. subst (λ (z : Keys). In s.key z) e (unread_has slots s i r)) in
      let b : reads_begun slots ≡ slots = begins ∙ (ap (λ (z : Keys). fills m (among z) slots) e ∙ n) in
      let w : waits_for_read slots ≡ false = ap waits_for_read (sym n) ∙ waits_no_more m (λ k. false) slots calm (λ s i r. refl) in
      let l : is_worn slots ≡ false = ap is_worn (sym n) ∙ lasting in
      rw (b, w, l, n)
