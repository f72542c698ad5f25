-- What holds of the read of a key at a client, and stays until the read is cancelled.
use Rattle.std.proofs.Common.{◌≡◌, ℕ, List, [], ◌∷◌, ◌++◌, refl, sym, ap, ◌∙◌, subst, Bool, true, false, cond, Option, Some, ◌⊎◌, inl, inr, ⊎_elim, true≢false}
use Rattle.std.specs.Prelude.{map, not, ◌&&◌, ◌==◌}
use Rattle.std.specs.List.{flat_map}
use Rattle.rc_ids.specs.Tables.{In, maybe}
use Rattle.rc_ids.specs.Texts.{same_key}
use Rattle.rc_ids.specs.Cluster.{Layout, is_dc, is_quorum}
use Rattle.rc_msg.specs.declared.msg.Msg.{Msg}
use Rattle.rc_msg.specs.declared.msg.Msg.TheVariants.{Granted, Voted, Refused, Decided}
use Rattle.rc_report.specs.declared.line.Line.TheVariants.{Read as ReadLine}
use Rattle.rc_protocol.specs.Coordinator.{is_decided_by}
use Rattle.rc_protocol.specs.Client.{Client, ClientAct, Slot, KeyRead, NotRead, UnderWay, Complete, Grant, is_over, is_committing, is_proposed, reads_on, client_stays, with_slots, with_read, with_write, is_worn, proposes, slot_of, slot_set, read_begun, reads_begun, is_unread, reads_again, do_read, do_write, is_under_way, waits_for_read, do_commit, read_dropped, do_cancel, grants_of, granted_by, best_grant, cancels, completed, read_line, after_read, unless_refused, with_grant, prints_of, takes_grant, wants_grant, on_granted, counts_refusal, client_row}
use Rattle.rc_protocol.specs.Acts.{ClientCause, Hears, Reads, Writes, Commits, Cancels, Retries, Vanishes, client_by_row, client_act, refusal}
use Rattle.rc_agreement.proofs.Cases.{on_cond, on_maybe, some_is, never, and_left}
use Rattle.rc_agreement.proofs.ClientSlots.{key_is, slot_in, begun_key}

-- what stays of a read: with more grants, of no quorum; and where it is complete, if that is told where it prints. Of a key that is not read
-- it does not hold
pub record Stays (c : Layout) (Told : Type 0) (R : KeyRead → Type 0) : Type 0 where
  pub begun : R NotRead → ⊥
  pub more : (prints : Bool) (gs : List Grant) (g : Grant) → R (UnderWay prints gs) → is_quorum c (granted_by (gs ++ g ∷ [])) ≡ false → R (UnderWay prints (gs ++ g ∷ []))
  pub done : (prints : Bool) (gs : List Grant) (version : ℕ) (value : Option (List ℕ)) → R (UnderWay prints gs) → (prints ≡ true → Told) → R (Complete version value)

-- it holds of the first slot with the key
pub record Has (R : KeyRead → Type 0) (k : List ℕ) (xs : List Slot) : Type 0 where
  pub slot : Slot
  pub at : slot_of xs k ≡ Some slot
  pub holds : R slot.read

module _ (R : KeyRead → Type 0) (k : List ℕ) where
  pub has_head : (y : Slot) (ys : List Slot) → same_key y.key k ≡ true → R y.read → Has R k (y ∷ ys)
  has_head y ys is h = record { slot = y; at = rw is; holds = h }

  pub has_tail : (y : Slot) (ys : List Slot) → same_key y.key k ≡ false → Has R k ys → Has R k (y ∷ ys)
  has_tail y ys is h = record { slot = h.slot; at = rw is h.at; holds = h.holds }

  has_cases : (y : Slot) (ys : List Slot) → Has R k (y ∷ ys) → ((same_key y.key k ≡ true) × R y.read) ⊎ ((same_key y.key k ≡ false) × Has R k ys)
  has_cases y ys h = go (same_key y.key k) refl h.at
    where
      go : (b : Bool) → same_key y.key k ≡ b → cond b (Some y) (slot_of ys k) ≡ Some h.slot → ((same_key y.key k ≡ true) × R y.read) ⊎ ((same_key y.key k ≡ false) × Has R k ys)
      go true is e = inl (is, subst (λ (z : Slot). R z.read) (sym (some_is y h.slot e)) h.holds)
      go false is e = inr (is, record { slot = h.slot; at = e; holds = h.holds })

  -- where the list begins with a slot of the same key, or of another one
  same_first : (x y : Slot) (xs ys : List Slot) → Has R k (x ∷ xs) → y.key ≡ x.key → (same_key y.key k ≡ true → R x.read → R y.read) → (Has R k xs → Has R k ys) → Has R k (y ∷ ys)
  same_first x y xs ys h same one rest =
      let e : same_key y.key k ≡ same_key x.key k = ap (λ (q : List ℕ). same_key q k) same in
      ⊎_elim
      (λ (p : (same_key x.key k ≡ true) × R x.read). has_head y ys (e ∙ p.0) (one (e ∙ p.0) p.1))
      (λ (p : (same_key x.key k ≡ false) × Has R k xs). has_tail y ys (e ∙ p.0) (rest p.1))
      (has_cases x xs h)

  pub has_end : (y : Slot) (xs : List Slot) → Has R k xs → Has R k (xs ++ y ∷ [])
  has_end y [] h = never _ h.at
  has_end y (x ∷ xs) h = same_first x x xs (xs ++ y ∷ []) h refl (λ _ r. r) (has_end y xs)

  pub has_set : (y : Slot) (xs : List Slot) → Has R k xs → (same_key y.key k ≡ true → R y.read) → Has R k (slot_set xs y)
  has_set y [] h n = never _ h.at
  has_set y (x ∷ xs) h n =
      on_cond (Has R k) (same_key x.key y.key) (y ∷ xs) (x ∷ slot_set xs y)
      (λ same. same_first x y xs xs h (sym (key_is x.key y.key same)) (λ is _. n is) (λ r. r))
      (λ _. same_first x x xs (slot_set xs y) h refl (λ _ r. r) (λ r. has_set y xs r n))

  -- a slot is set in the place of the one with the key
  pub has_put : (y s : Slot) (xs : List Slot) → slot_of xs k ≡ Some s → y.key ≡ k → same_key y.key k ≡ true → R y.read → Has R k (slot_set xs y)
  has_put y s [] is own key r = never _ is
  has_put y s (x ∷ xs) is own key r =
      on_cond (Has R k) (same_key x.key y.key) (y ∷ xs) (x ∷ slot_set xs y)
      (λ _. has_head y xs key r)
      (λ other. let e : same_key x.key k ≡ false = subst (λ (q : List ℕ). same_key x.key q ≡ false) own other in
      has_tail x (slot_set xs y) e (has_put y s xs (subst (λ (b : Bool). cond b (Some x) (slot_of xs k) ≡ Some s) e is) own key r))

  module _ (none : R NotRead → ⊥) where
    begun_holds : (x : Slot) → R x.read → R (read_begun x).read
    begun_holds x h = on_cond (λ (z : Slot). R z.read) (is_unread x.read) (with_read x (UnderWay false [])) x (λ is. absurd (none (unread x.read is h))) (λ _. h)
      where
        unread : (r : KeyRead) → is_unread r ≡ true → R r → R NotRead
        unread NotRead is h = h
        unread (UnderWay p gs) is h = absurd (true≢false (sym is))
        unread (Complete v y) is h = absurd (true≢false (sym is))

    pub has_begun : (xs : List Slot) → Has R k xs → Has R k (map read_begun xs)
    has_begun [] h = never _ h.at
    has_begun (x ∷ xs) h = same_first x (read_begun x) xs (map read_begun xs) h (begun_key x) (λ _ r. begun_holds x r) (has_begun xs)

  pub has_dropped : (j : List ℕ) → (j ≡ k → ⊥) → (xs : List Slot) → Has R k xs → Has R k (flat_map (read_dropped j) xs)
  has_dropped j n [] h = never _ h.at
  has_dropped j n (x ∷ xs) h =
      on_cond P (same_key x.key j) (maybe x.write [] (λ value. with_read x NotRead ∷ [])) (x ∷ [])
      (λ same. on_maybe P x.write [] (λ value. with_read x NotRead ∷ [])
      (λ _. ⊎_elim (λ (p : (same_key x.key k ≡ true) × R x.read). absurd (other same p.0)) (λ (p : (same_key x.key k ≡ false) × Has R k xs). has_dropped j n xs p.1) (has_cases x xs h))
      (λ value _. same_first x (with_read x NotRead) xs (flat_map (read_dropped j) xs) h refl (λ is _. absurd (other same is)) (has_dropped j n xs)))
      (λ _. same_first x x xs (flat_map (read_dropped j) xs) h refl (λ _ r. r) (has_dropped j n xs))
    where
      P : List Slot → Type 0
      P z = Has R k (z ++ flat_map (read_dropped j) xs)

      other : same_key x.key j ≡ true → same_key x.key k ≡ true → ⊥
      other a b = n (sym (key_is x.key j a) ∙ key_is x.key k b)

-- WHAT A CLIENT DOES leaves it, unless the read is cancelled
module _ (c : Layout) (t : ℕ) (x : Client) (k : List ℕ) (T : Type 0) (R : KeyRead → Type 0) (q : Stays c T R) (h : Has R k x.slots) where
  abbrev P : ClientAct → Type 0
  P a = ((v : ℕ) (y : Option (List ℕ)) → In (ReadLine t k v y) a.lines → T) → Has R k a.after.slots

  -- the slot that was found is the one that it holds of
  its : (j : List ℕ) (s : Slot) → slot_of x.slots j ≡ Some s → same_key s.key k ≡ true → R s.read
  its j s is same =
      let e : j ≡ k = sym (slot_in j x.slots s is).1 ∙ key_is s.key k same in
      subst (λ (z : Slot). R z.read) (some_is h.slot s (sym h.at ∙ ap (λ (i : List ℕ). slot_of x.slots i) (sym e) ∙ is)) h.holds

  more_of : (r : KeyRead) (g : Grant) → is_under_way r ≡ true → R r → is_quorum c (granted_by (grants_of r ++ g ∷ [])) ≡ false → R (UnderWay (prints_of r) (grants_of r ++ g ∷ []))
  more_of (UnderWay p gs) g way r few = q.more p gs g r few
  more_of NotRead g way r few = absurd (true≢false (sym way))
  more_of (Complete v y) g way r few = absurd (true≢false (sym way))

  done_of : (r : KeyRead) (v : ℕ) (y : Option (List ℕ)) → is_under_way r ≡ true → R r → (prints_of r ≡ true → T) → R (Complete v y)
  done_of (UnderWay p gs) v y way r told = q.done p gs v y r told
  done_of NotRead v y way r told = absurd (true≢false (sym way))
  done_of (Complete u z) v y way r told = absurd (true≢false (sym way))

  read_row : (j : List ℕ) → P (do_read c t x j)
  read_row j =
      on_maybe P (slot_of x.slots j) _ _ (λ _ _. has_end R k _ x.slots h)
      (λ s _. on_maybe P s.write _ _ (λ _. again s.read) (λ v _ _. h))
    where
      again : (r : KeyRead) → P (reads_again t x j r)
      again (Complete v y) tells = h
      again (UnderWay p gs) tells = h
      again NotRead tells = h

  write_row : (j value : List ℕ) → P (do_write x j value)
  write_row j value tells =
      on_maybe (Has R k) (slot_of x.slots j) _ _
      (λ _. has_end R k _ x.slots h) (λ s is. has_set R k (with_write s value) x.slots h (λ same. its j s is same))

  commit_row : P (do_commit c t x)
  commit_row = on_cond P (waits_for_read (reads_begun x.slots)) _ _ (λ _ _. has_begun R k q.begun x.slots h) (λ _. on_cond P (is_worn x.slots) _ _ (λ _ _. h) (λ _ _. h))

  cancel_row : (j : List ℕ) → (j ≡ k → ⊥) → P (do_cancel c t x j)
  cancel_row j n = on_maybe P (slot_of x.slots j) _ _ (λ _ _. h) (λ s _. on_cond P (is_under_way s.read) _ _ (λ _ _. has_dropped R k j n x.slots h) (λ _ _. h))

  retry_row : P (client_by_row c t x Retries)
  retry_row = on_cond P (is_proposed x.phase) _ _ (λ _ _. h) (λ _. on_cond P (reads_on x.phase) _ _ (λ _ _. h) (λ _ _. h))

  granted_row : (j : List ℕ) (g : Grant) → P (on_granted c t x j g)
  granted_row j g =
      on_cond P (reads_on x.phase) _ _
      (λ _. on_maybe P (slot_of x.slots j) _ _ (λ _ _. h)
      (λ s is. on_cond P (wants_grant s g.dc) _ _ (λ wants. takes s is (and_left (is_under_way s.read) _ wants)) (λ _ _. h)))
      (λ _ _. h)
    where
      takes : (s : Slot) → slot_of x.slots j ≡ Some s → is_under_way s.read ≡ true → P (takes_grant c t x s g)
      takes s is way =
          let gs : List Grant = with_grant s g in
          let y : Client = with_slots x (slot_set x.slots (completed s gs)) in
          on_cond P (is_quorum c (granted_by gs)) _ _
          (λ _. on_cond (λ a. P (unless_refused x (after_read (cancels c t s.key gs) (read_line t s gs) a))) (is_committing y.phase && not (waits_for_read y.slots)) (proposes c t y) (client_stays y)
          (λ _. on_cond (λ a. P (unless_refused x (after_read (cancels c t s.key gs) (read_line t s gs) a))) (is_worn y.slots) _ _ (λ _ _. h) (λ _ tells. complete gs tells))
          (λ _ tells. complete gs tells))
          (λ few _. has_set R k (with_read s (UnderWay (prints_of s.read) gs)) x.slots h (λ same. more_of s.read g way (its j s is same) few))
        where
          complete : (gs : List Grant) → ((v : ℕ) (z : Option (List ℕ)) → In (ReadLine t k v z) (read_line t s gs) → T) → Has R k (slot_set x.slots (completed s gs))
          complete gs tells =
              has_set R k (completed s gs) x.slots h
              (λ same. done_of s.read (best_grant gs).0 (best_grant gs).1 way (its j s is same)
              (λ prints. tells (best_grant gs).0 (best_grant gs).1
              (subst (λ (b : Bool). In (ReadLine t k (best_grant gs).0 (best_grant gs).1) (cond b (ReadLine t s.key (best_grant gs).0 (best_grant gs).1 ∷ []) [])) (sym prints)
              (inl (ap (λ (i : List ℕ). ReadLine t i (best_grant gs).0 (best_grant gs).1) (key_is s.key k same))))))

  hears_row : (m : Msg) → P (client_row c t x m)
  hears_row (Granted u j d v y) = on_cond P ((u == t) && is_dc c d) _ _ (λ _. granted_row j (record { dc = d; version = v; value = y })) (λ _ _. h)
  hears_row (Voted u b d o) = on_cond P ((u == t) && is_dc c d) _ _ (λ _. on_cond P (is_over x.phase) _ _ (λ _ _. h) (λ _. on_cond P (is_decided_by c x.votes b d o) _ _ (λ _ _. h) (λ _ _. h))) (λ _ _. h)
  hears_row (Refused u b d reason) = on_cond P ((u == t) && is_dc c d) _ _ (λ _. on_cond P (counts_refusal x b d) _ _ (λ _ _. h) (λ _ _. h)) (λ _ _. h)
  hears_row (Decided u o) = on_cond P (u == t) _ _ (λ _. on_cond P (is_over x.phase) _ _ (λ _ _. h) (λ _ _. h)) (λ _ _. h)
  hears_row _ = λ _. h

  by_row : (a : ClientCause) → (a ≡ Cancels k → ⊥) → P (client_by_row c t x a)
  by_row (Hears m) n = hears_row m
  by_row (Reads j) n = read_row j
  by_row (Writes j value) n = write_row j value
  by_row Commits n = commit_row
  by_row (Cancels j) n = cancel_row j (λ e. n (ap Cancels e))
  by_row Retries n = retry_row
  by_row Vanishes n = λ _. h

  pub read_stays : (a : ClientCause) → (a ≡ Cancels k → ⊥) → P (client_act c t x a)
  read_stays a n = on_maybe P (refusal x a) _ _ (λ _. by_row a n) (λ _ _ _. h)
