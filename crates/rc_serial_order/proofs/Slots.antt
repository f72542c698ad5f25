-- The keys of a client differ, and what it holds of each was granted to it.
use Rattle.std.proofs.Common.{◌≡◌, ℕ, List, [], ◌∷◌, ◌++◌, refl, sym, ap, ◌∙◌, subst, Bool, true, false, Option, Some, None, ◌⊎◌, inl, inr, ⊎_elim, true≢false}
use Rattle.std.specs.Prelude.{map, not, ◌&&◌, nat_lt, ◌==◌}
use Rattle.std.specs.List.{flat_map}
use Rattle.rc_ids.specs.Tables.{In, maybe}
use Rattle.rc_ids.specs.Texts.{same_key}
use Rattle.rc_ids.specs.Cluster.{Layout, is_dc, is_quorum}
use Rattle.rc_msg.specs.declared.msg.Msg.{Msg}
use Rattle.rc_msg.specs.declared.msg.Msg.TheVariants.{Granted, Voted, Refused, Decided}
use Rattle.rc_report.specs.declared.line.Line.{Line}
use Rattle.rc_protocol.specs.Messages.{Posts}
use Rattle.rc_protocol.specs.Coordinator.{is_decided_by}
use Rattle.rc_protocol.specs.Client.{Client, ClientAct, Slot, KeyRead, NotRead, UnderWay, Complete, Grant, is_over, is_committing, is_proposed, reads_on, client_stays, with_slots, with_read, with_write, is_worn, proposes, slot_of, slot_set, read_begun, reads_begun, is_unread, reads_again, do_read, do_write, is_under_way, waits_for_read, do_commit, read_dropped, do_cancel, grants_of, granted_by, best_grant, cancels, completed, read_line, proposes_once_read, after_read, unless_refused, with_grant, prints_of, takes_grant, wants_grant, on_granted, counts_refusal, client_row}
use Rattle.rc_agreement.proofs.Cases.{on_cond, on_maybe, some_is, never}
use Rattle.rc_agreement.proofs.Tables.{in_either, in_map}
use Rattle.rc_protocol.specs.Acts.{ClientCause, Hears, Reads, Writes, Commits, Cancels, Retries, Vanishes, client_by_row}
use Rattle.rc_agreement.proofs.ClientSlots.{key_same, key_is, slot_in, slot_out, in_set, Keyed, dropped_one, in_dropped, begun_key}

-- what a key's slot was granted is within G, and a complete read within W
pub record SlotIs (G : List ℕ → Grant → Type 0) (W : List ℕ → ℕ → Option (List ℕ) → Type 0) (k : List ℕ) (r : KeyRead) : Type 0 where
  pub grants : (g : Grant) → In g (grants_of r) → G k g
  pub done : (v : ℕ) (y : Option (List ℕ)) → r ≡ Complete v y → W k v y

-- the keys differ
abbrev pub Differ : List Slot → Type 0
Differ [] = Unit {0}
Differ (x ∷ xs) = ((y : Slot) → In y xs → x.key ≡ y.key → ⊥) × Differ xs

pub record Sound (G : List ℕ → Grant → Type 0) (W : List ℕ → ℕ → Option (List ℕ) → Type 0) (xs : List Slot) : Type 0 where
  pub each : (x : Slot) → In x xs → SlotIs G W x.key x.read
  pub differ : Differ xs

differ_set : (s : Slot) (xs : List Slot) → Differ xs → Differ (slot_set xs s)
differ_set s [] h = tt
differ_set s (x ∷ xs) h =
    on_cond Differ (same_key x.key s.key) (s ∷ xs) (x ∷ slot_set xs s)
    (λ t. ((λ y i e. h.0 y i (key_is x.key s.key t ∙ e)), h.1))
    (λ n. ((λ y i e. ⊎_elim (λ (z : s ≡ y). true≢false (sym (key_same x.key s.key (e ∙ ap (λ (q : Slot). q.key) (sym z))) ∙ n)) (λ j. h.0 y j e) (in_set s xs y i)), differ_set s xs h.1))

differ_end : (s : Slot) (xs : List Slot) → Differ xs → ((x : Slot) → In x xs → x.key ≡ s.key → ⊥) → Differ (xs ++ s ∷ [])
differ_end s [] h n = ((λ y i. absurd i), tt)
differ_end s (x ∷ xs) h n = (
  (λ y i e. ⊎_elim (λ j. h.0 y j e) (λ (j : (s ≡ y) ⊎ ⊥). ⊎_elim (λ z. n x (inl refl) (e ∙ ap (λ (q : Slot). q.key) (sym z))) (λ z. z) j) (in_either y xs (s ∷ []) i)),
  differ_end s xs h.1 (λ y i. n y (inr i)),
)

differ_both : (xs ys : List Slot) → Differ xs → Differ ys → ((x y : Slot) → In x xs → In y ys → x.key ≡ y.key → ⊥) → Differ (xs ++ ys)
differ_both [] ys h k n = k
differ_both (x ∷ xs) ys h k n = ((λ y i e. ⊎_elim (λ j. h.0 y j e) (λ j. n x y (inl refl) j e) (in_either y xs ys i)), differ_both xs ys h.1 k (λ a b i j. n a b (inr i) j))

differ_one : (k : List ℕ) (y : Slot) → Differ (read_dropped k y)
differ_one k y =
    on_cond Differ (same_key y.key k) (maybe y.write [] (λ value. with_read y NotRead ∷ [])) (y ∷ [])
    (λ _. on_maybe Differ y.write [] (λ value. with_read y NotRead ∷ []) (λ _. tt) (λ v _. ((λ x i. absurd i), tt)))
    (λ _. ((λ x i. absurd i), tt))

key_of_dropped : (k : List ℕ) (y x : Slot) → In x (read_dropped k y) → y.key ≡ x.key
key_of_dropped k y x i = ⊎_elim (λ e. ap (λ (q : Slot). q.key) e) (λ (z : (x.read ≡ NotRead) × (y.key ≡ x.key)). z.1) (dropped_one k y x i)

differ_dropped : (k : List ℕ) (xs : List Slot) → Differ xs → Differ (flat_map (read_dropped k) xs)
differ_dropped k [] h = tt
differ_dropped k (y ∷ ys) h =
    differ_both (read_dropped k y) (flat_map (read_dropped k) ys) (differ_one k y) (differ_dropped k ys h.1)
    (λ a b i j e. ⊎_elim (λ w. h.0 b w (key_of_dropped k y a i ∙ e)) (λ (w : (b.read ≡ NotRead) × Keyed ys b.key). h.0 w.1.0 w.1.1 (key_of_dropped k y a i ∙ e ∙ sym w.1.2)) (in_dropped k ys b j))

differ_begun : (xs : List Slot) → Differ xs → Differ (map read_begun xs)
differ_begun [] h = tt
differ_begun (x ∷ xs) h = ((λ y i e. let z = in_map read_begun y xs i in h.0 z.0 z.1 (sym (begun_key x) ∙ e ∙ ap (λ (q : Slot). q.key) (sym z.2) ∙ begun_key z.0)), differ_begun xs h.1)

-- a grant that comes is within G
abbrev pub GrantsIn : (List ℕ → Grant → Type 0) → ClientCause → Type 0
GrantsIn G (Hears (Granted u k d v y)) = G k (record { dc = d; version = v; value = y })
GrantsIn G _ = Unit {0}

module _ (c : Layout) (G : List ℕ → Grant → Type 0) (W : List ℕ → ℕ → Option (List ℕ) → Type 0)
    (best_ok : (k : List ℕ) (gs : List Grant) → is_quorum c (granted_by gs) ≡ true → ((g : Grant) → In g gs → G k g) → W k (best_grant gs).0 (best_grant gs).1) where
  abbrev S : List Slot → Type 0
  S xs = Sound G W xs

  unread_ok : (k : List ℕ) → SlotIs G W k NotRead
  unread_ok k = record { grants = λ g i. absurd i; done = λ v y e. absurd (cc) }

  under_ok : (k : List ℕ) (p : Bool) (gs : List Grant) → ((g : Grant) → In g gs → G k g) → SlotIs G W k (UnderWay p gs)
  under_ok k p gs h = record { grants = h; done = λ v y e. absurd (cc) }

  complete_ok : (k : List ℕ) (gs : List Grant) → is_quorum c (granted_by gs) ≡ true → ((g : Grant) → In g gs → G k g) → SlotIs G W k (Complete (best_grant gs).0 (best_grant gs).1)
  complete_ok k gs q h = record {
    grants = λ g i. absurd i;
    done = λ v y e. let n : (best_grant gs).0 ≡ v = (cc) in let m : (best_grant gs).1 ≡ y = (cc) in subst (λ (z : ℕ × Option (List ℕ)). W k z.0 z.1) (λ i. (n i, m i)) (best_ok k gs q h);
  }

  slots_set : (s : Slot) (xs : List Slot) → S xs → SlotIs G W s.key s.read → S (slot_set xs s)
  slots_set s xs h k = record {
    each = λ x i. ⊎_elim (λ e. subst (λ (z : Slot). SlotIs G W z.key z.read) e k) (λ j. h.each x j) (in_set s xs x i);
    differ = differ_set s xs h.differ;
  }

  slots_begun : (xs : List Slot) → S xs → S (map read_begun xs)
  slots_begun xs h = record {
    each = λ x i. let z = in_map read_begun x xs i in subst (λ (q : Slot). SlotIs G W q.key q.read) z.2 (one z.0 (h.each z.0 z.1));
    differ = differ_begun xs h.differ;
  }
    where
      one : (x : Slot) → SlotIs G W x.key x.read → SlotIs G W (read_begun x).key (read_begun x).read
      one x k = on_cond (λ (q : Slot). SlotIs G W q.key q.read) (is_unread x.read) (with_read x (UnderWay false [])) x (λ _. under_ok x.key false [] (λ g i. absurd i)) (λ _. k)

  slots_dropped : (k : List ℕ) (xs : List Slot) → S xs → S (flat_map (read_dropped k) xs)
  slots_dropped k xs h = record {
    each = λ x i. ⊎_elim (λ j. h.each x j) (λ (j : (x.read ≡ NotRead) × Keyed xs x.key). subst (SlotIs G W x.key) (sym j.0) (unread_ok x.key)) (in_dropped k xs x i);
    differ = differ_dropped k xs h.differ;
  }

  slots_end : (s : Slot) (xs : List Slot) → S xs → slot_of xs s.key ≡ None → SlotIs G W s.key s.read → S (xs ++ s ∷ [])
  slots_end s xs h n k = record {
    each = λ x i. ⊎_elim (λ j. h.each x j)
        (λ (j : (s ≡ x) ⊎ ⊥). ⊎_elim (λ e. subst (λ (q : Slot). SlotIs G W q.key q.read) e k) (λ z. absurd z) j)
        (in_either x xs (s ∷ []) i);
    differ = differ_end s xs h.differ (slot_out s.key xs n);
  }

  module _ (t : ℕ) (x : Client) (h : Sound G W x.slots) where
    abbrev J : ClientAct → Type 0
    J a = Sound G W a.after.slots

    read_row : (k : List ℕ) → J (do_read c t x k)
    read_row k =
        on_maybe J (slot_of x.slots k) _ _ (λ n. slots_end (record { key = k; write = None; read = UnderWay true [] }) x.slots h n (under_ok k true [] (λ g i. absurd i)))
        (λ s _. on_maybe J s.write _ _ (λ _. again s.read) (λ v _. h))
      where
        again : (r : KeyRead) → J (reads_again t x k r)
        again (Complete v y) = h
        again (UnderWay p gs) = h
        again NotRead = h

    write_row : (k value : List ℕ) → J (do_write x k value)
    write_row k value =
        on_maybe S (slot_of x.slots k) _ _
        (λ n. slots_end (record { key = k; write = Some value; read = NotRead }) x.slots h n (unread_ok k))
        (λ s is. slots_set (with_write s value) x.slots h (h.each s (slot_in k x.slots s is).0))

    proposes_row : (y : Client) (ms : Posts) (ls : List Line) → S y.slots → J (unless_refused x (after_read ms ls (proposes c t y)))
    proposes_row y ms ls k = on_cond (λ a. J (unless_refused x (after_read ms ls a))) (is_worn y.slots) _ _ (λ _. h) (λ _. k)

    commit_row : J (do_commit c t x)
    commit_row = on_cond J (waits_for_read (reads_begun x.slots)) _ _ (λ _. slots_begun x.slots h) (λ _. on_cond J (is_worn x.slots) _ _ (λ _. h) (λ _. h))

    cancel_row : (k : List ℕ) → J (do_cancel c t x k)
    cancel_row k = on_maybe J (slot_of x.slots k) _ _ (λ _. h) (λ s _. on_cond J (is_under_way s.read) _ _ (λ _. slots_dropped k x.slots h) (λ _. h))

    goes_row : (y : Client) (ms : Posts) (ls : List Line) → S y.slots → J (unless_refused x (after_read ms ls (proposes_once_read c t y)))
    goes_row y ms ls k = on_cond (λ z. J (unless_refused x (after_read ms ls z))) (is_committing y.phase && not (waits_for_read y.slots)) (proposes c t y) (client_stays y) (λ _. proposes_row y ms ls k) (λ _. k)

    granted_row : (k : List ℕ) (g : Grant) → G k g → J (on_granted c t x k g)
    granted_row k g w =
        on_cond J (reads_on x.phase) _ _
        (λ _. on_maybe J (slot_of x.slots k) _ _ (λ _. h)
        (λ s is. on_cond J (wants_grant s g.dc) _ _
        (λ _. let z = slot_in k x.slots s is in
        takes s
        (λ b i. ⊎_elim (λ j. (h.each s z.0).grants b j)
        (λ (j : (g ≡ b) ⊎ ⊥). ⊎_elim (λ e. subst (λ (q : Grant). G s.key q) e (subst (λ q. G q g) (sym z.1) w)) (λ n. absurd n) j)
        (in_either b (grants_of s.read) (g ∷ []) i)))
        (λ _. h)))
        (λ _. h)
      where
        takes : (s : Slot) → ((b : Grant) → In b (with_grant s g) → G s.key b) → J (takes_grant c t x s g)
        takes s k =
            let gs : List Grant = with_grant s g in
            on_cond J (is_quorum c (granted_by gs)) _ _
            (λ q. goes_row (with_slots x (slot_set x.slots (completed s gs))) (cancels c t s.key gs) (read_line t s gs) (slots_set (completed s gs) x.slots h (complete_ok s.key gs q k)))
            (λ _. slots_set (with_read s (UnderWay (prints_of s.read) gs)) x.slots h (under_ok s.key (prints_of s.read) gs k))

    hears_row : (m : Msg) → GrantsIn G (Hears m) → J (client_row c t x m)
    hears_row (Granted u k d v y) w = on_cond J ((u == t) && is_dc c d) _ _ (λ _. granted_row k (record { dc = d; version = v; value = y }) w) (λ _. h)
    hears_row (Voted u b d o) w = on_cond J ((u == t) && is_dc c d) _ _ (λ _. on_cond J (is_over x.phase) _ _ (λ _. h) (λ _. on_cond J (is_decided_by c x.votes b d o) _ _ (λ _. h) (λ _. h))) (λ _. h)
    hears_row (Refused u b d r) w = on_cond J ((u == t) && is_dc c d) _ _ (λ _. on_cond J (counts_refusal x b d) _ _ (λ _. h) (λ _. h)) (λ _. h)
    hears_row (Decided u o) w = on_cond J (u == t) _ _ (λ _. on_cond J (is_over x.phase) _ _ (λ _. h) (λ _. h)) (λ _. h)
    hears_row _ w = h

    pub slots_kept : (k : ClientCause) → GrantsIn G k → J (client_by_row c t x k)
    slots_kept (Hears m) w = hears_row m w
    slots_kept (Reads k) w = read_row k
    slots_kept (Writes k value) w = write_row k value
    slots_kept Commits w = commit_row
    slots_kept (Cancels k) w = cancel_row k
    slots_kept Retries w = on_cond J (is_proposed x.phase) _ _ (λ _. h) (λ _. on_cond J (reads_on x.phase) _ _ (λ _. h) (λ _. h))
    slots_kept Vanishes w = h

abbrev pub Granting : (List ℕ → ℕ → Option (List ℕ) → Type 0) → List ℕ → Grant → Type 0
Granting W k g = W k g.version g.value

-- the highest of some grants
module _ (W : List ℕ → ℕ → Option (List ℕ) → Type 0) (none : (k : List ℕ) → W k 0 None) where
  best_ok : (k : List ℕ) (gs : List Grant) → ((g : Grant) → In g gs → W k g.version g.value) → W k (best_grant gs).0 (best_grant gs).1
  best_ok k [] h = none k
  best_ok k (g ∷ gs) h =
      on_cond (λ (z : ℕ × Option (List ℕ)). W k z.0 z.1) (nat_lt g.version (best_grant gs).0) (best_grant gs) (g.version, g.value)
      (λ _. best_ok k gs (λ x i. h x (inr i))) (λ _. h g (inl refl))

  pub client_sound : (c : Layout) (t : ℕ) (x : Client) → Sound (Granting W) W x.slots → (k : ClientCause) → GrantsIn (Granting W) k → Sound (Granting W) W (client_by_row c t x k).after.slots
  client_sound c t x h k w = slots_kept c (Granting W) W (λ k gs q f. best_ok k gs f) t x h k w
