-- A grant that is delivered while the read is under way counts, from then on; and a read that begins waits for its line.
use Rattle.std.proofs.Common.{◌≡◌, ℕ, List, [], ◌∷◌, ◌++◌, refl, sym, ◌∙◌, subst, Bool, true, false, cond, Option, Some, None, inl, inr, ⊎_elim, true≢false}
use Rattle.std.specs.Prelude.{not, ◌&&◌, ◌==◌}
use Rattle.std.specs.Ordering.{nat_cmp}
use Rattle.std.proofs.lemmas.Bool.{eq-eqb}
use Rattle.rc_ids.specs.Tables.{In, member}
use Rattle.rc_ids.specs.Texts.{same_key}
use Rattle.rc_ids.specs.Cluster.{Layout, is_dc, is_quorum}
use Rattle.rc_ids.proofs.QuorumFacts.{in-member}
use Rattle.rc_msg.specs.declared.msg.Msg.TheVariants.{Granted}
use Rattle.rc_report.specs.declared.line.Line.TheVariants.{Read as ReadLine}
use Rattle.rc_protocol.specs.Client.{Client, ClientAct, KeyWornOut, Slot, KeyRead, NotRead, UnderWay, Complete, Grant, is_open, is_committing, reads_on, client_stays, with_slots, with_read, is_worn, proposes, slot_of, slot_set, reads_again, do_read, is_under_way, waits_for_read, grants_of, granted_by, cancels, completed, read_line, after_read, unless_refused, with_grant, prints_of, takes_grant, wants_grant}
use Rattle.rc_protocol.specs.Acts.{Hears, client_act}
use Rattle.rc_agreement.proofs.Cases.{on_cond, on_maybe, some_is, never}
use Rattle.rc_agreement.proofs.Tables.{in_added, added_has}
use Rattle.rc_agreement.proofs.ClientSlots.{both, key_same, slot_in}
use Rattle.rc_causes.proofs.ReadSlots.{Stays, Has, has_head, has_tail, has_put}
use Rattle.rc_causes.proofs.ReadFits.{Fits, ClientFits, none_few}

-- d's grant is among those of the read, or the read is complete
abbrev pub Counts : ℕ → KeyRead → Type 0
Counts d NotRead = ⊥
Counts d (UnderWay prints gs) = In d (granted_by gs)
Counts d (Complete version value) = Unit {0}

-- the read prints a line once a quorum has granted it
abbrev pub Waits : Layout → KeyRead → Type 0
Waits c (UnderWay prints gs) = (prints ≡ true) × (is_quorum c (granted_by gs) ≡ false)
Waits c _ = ⊥

more_grants : (d : ℕ) (gs : List Grant) (g : Grant) → In d (granted_by gs) → In d (granted_by (gs ++ g ∷ []))
more_grants d [] g i = absurd i
more_grants d (x ∷ gs) g i =
    added_has d x.dc (granted_by (gs ++ g ∷ [])) (⊎_elim (λ (e : d ≡ x.dc). inl e) (λ (j : In d (granted_by gs)). inr (more_grants d gs g j)) (in_added d x.dc (granted_by gs) i))

new_grant : (gs : List Grant) (g : Grant) → In g.dc (granted_by (gs ++ g ∷ []))
new_grant [] g = added_has g.dc g.dc [] (inl refl)
new_grant (x ∷ gs) g = added_has g.dc x.dc (granted_by (gs ++ g ∷ [])) (inr (new_grant gs g))

pub counts_stay : (c : Layout) (d : ℕ) → Stays c (Unit {0}) (Counts d)
counts_stay c d = record { begun = λ h. h; more = λ p gs g i few. more_grants d gs g i; done = λ p gs v y h told. tt }

pub waits_stay : (c : Layout) → Stays c ⊥ (Waits c)
waits_stay c = record { begun = λ h. h; more = λ p gs g h few. (h.0, few); done = λ p gs v y h told. absurd (told h.0) }

-- what counts of a read that waits was granted
pub counted_granted : (c : Layout) (d : ℕ) (r : KeyRead) → Waits c r → Counts d r → In d (granted_by (grants_of r))
counted_granted c d (UnderWay p gs) h i = i
counted_granted c d NotRead h i = absurd h
counted_granted c d (Complete v y) h i = absurd h

pub waits_few : (c : Layout) (r : KeyRead) → Waits c r → is_quorum c (granted_by (grants_of r)) ≡ false
waits_few c (UnderWay p gs) h = h.1
waits_few c NotRead h = absurd h
waits_few c (Complete v y) h = absurd h

-- A GRANT COMES
module _ (c : Layout) (t : ℕ) (x : Client) (k : List ℕ) (s : Slot) (at : slot_of x.slots k ≡ Some s) (way : is_under_way s.read ≡ true) where
  -- unless its act is worn out
  abbrev Fresh : ℕ → ClientAct → Type 0
  Fresh d a = (a.refused ≡ Some KeyWornOut → ⊥) → Has (Counts d) k a.after.slots

  own : s.key ≡ k
  own = (slot_in k x.slots s at).1

  counted : (d : ℕ) (r : KeyRead) → is_under_way r ≡ true → In d (granted_by (grants_of r)) → Counts d r
  counted d (UnderWay p gs) w i = i
  counted d NotRead w i = absurd (true≢false (sym w))
  counted d (Complete v y) w i = tt

  old : (d : ℕ) → In d (granted_by (grants_of s.read)) → Has (Counts d) k x.slots
  old d i = record { slot = s; at = at; holds = counted d s.read way i }

  put_slot : (d : ℕ) (r : KeyRead) → Counts d r → Has (Counts d) k (slot_set x.slots (with_read s r))
  put_slot d r h = has_put (Counts d) k (with_read s r) s x.slots at own (key_same s.key k own) h

  takes : (g : Grant) → Fresh g.dc (takes_grant c t x s g)
  takes g =
      let gs : List Grant = with_grant s g in
      let y : Client = with_slots x (slot_set x.slots (completed s gs)) in
      on_cond (Fresh g.dc) (is_quorum c (granted_by gs)) _ _
      (λ _. on_cond (λ a. Fresh g.dc (unless_refused x (after_read (cancels c t s.key gs) (read_line t s gs) a))) (is_committing y.phase && not (waits_for_read y.slots)) (proposes c t y) (client_stays y)
      (λ _. on_cond (λ a. Fresh g.dc (unless_refused x (after_read (cancels c t s.key gs) (read_line t s gs) a))) (is_worn y.slots) _ _ (λ _ fresh. absurd (fresh refl)) (λ _ _. put_slot g.dc _ tt))
      (λ _ _. put_slot g.dc _ tt))
      (λ _ _. put_slot g.dc (UnderWay (prints_of s.read) gs) (new_grant (grants_of s.read) g))

  not_false : (b : Bool) → not b ≡ false → b ≡ true
  not_false true e = refl
  not_false false e = absurd (true≢false e)

  had : (d : ℕ) → wants_grant s d ≡ false → In d (granted_by (grants_of s.read))
  had d is =
      let m : Bool = member nat_cmp (granted_by (grants_of s.read)) d in
      in-member (granted_by (grants_of s.read)) d (not_false m (subst (λ (b : Bool). (b && not m) ≡ false) way is))

  pub grant_counts : (d v : ℕ) (y : Option (List ℕ)) → reads_on x.phase ≡ true → is_dc c d ≡ true → Fresh d (client_act c t x (Hears (Granted t k d v y)))
  grant_counts d v y early dc =
      let g : Grant = record { dc = d; version = v; value = y } in
      on_cond (Fresh d) ((t == t) && is_dc c d) _ _
      (λ _. on_cond (Fresh d) (reads_on x.phase) _ _
      (λ _. on_maybe (Fresh d) (slot_of x.slots k) _ _
      (λ none _. never s (sym none ∙ at))
      (λ z is. subst (λ (q : Slot). Fresh d (cond (wants_grant q d) (takes_grant c t x q g) (client_stays x))) (some_is s z (sym at ∙ is))
      (on_cond (Fresh d) (wants_grant s d) _ _ (λ _. takes g) (λ no _. old d (had d no)))))
      (λ no. absurd (true≢false (sym early ∙ no))))
      (λ no. absurd (true≢false (sym (both (t == t) (is_dc c d) (eq-eqb t t refl) dc) ∙ no)))

-- A READ BEGINS, or goes on
module _ (c : Layout) (t : ℕ) (x : Client) (k : List ℕ) (opened : is_open x.phase ≡ true) (fits : ClientFits c x)
    (unwritten : (s : Slot) → slot_of x.slots k ≡ Some s → s.write ≡ None) where
  abbrev Silent : ClientAct → Type 0
  Silent a = ((v : ℕ) (y : Option (List ℕ)) → In (ReadLine t k v y) a.lines → ⊥) → Has (Waits c) k a.after.slots

  at_end : (y : Slot) (xs : List Slot) → slot_of xs k ≡ None → same_key y.key k ≡ true → Waits c y.read → Has (Waits c) k (xs ++ y ∷ [])
  at_end y [] none key h = has_head (Waits c) k y [] key h
  at_end y (z ∷ xs) none key h = go (λ e. at_end y xs e key h) (same_key z.key k) refl none
    where
      go : (slot_of xs k ≡ None → Has (Waits c) k (xs ++ y ∷ [])) → (b : Bool) → same_key z.key k ≡ b → cond b (Some z) (slot_of xs k) ≡ None → Has (Waits c) k (z ∷ (xs ++ y ∷ []))
      go rest true is e = never z (sym e)
      go rest false is e = has_tail (Waits c) k z (xs ++ y ∷ []) is (rest e)

  pub read_waits : Silent (do_read c t x k)
  read_waits =
      on_maybe Silent (slot_of x.slots k) _ _
      (λ none _. at_end (record { key = k; write = None; read = UnderWay true [] }) x.slots none (key_same k k refl) (refl, none_few c))
      (λ s is. on_maybe Silent s.write _ _
      (λ _. again s is s.read refl)
      (λ v written _. never v (sym (unwritten s is) ∙ written)))
    where
      again : (s : Slot) → slot_of x.slots k ≡ Some s → (r : KeyRead) → s.read ≡ r → Silent (reads_again t x k r)
      again s is r e = by r e f
        where
          f : Fits c true None r
          f = subst (Fits c true None) e (subst (λ (w : Option (List ℕ)). Fits c true w s.read) (unwritten s is) (subst (λ (b : Bool). Fits c b s.write s.read) opened (fits.each s (slot_in k x.slots s is).0)))

          by : (r : KeyRead) → s.read ≡ r → Fits c true None r → Silent (reads_again t x k r)
          by (Complete v y) e f silent = absurd (silent v y (inl refl))
          by (UnderWay p gs) e f silent = record { slot = s; at = is; holds = subst (Waits c) (sym e) (f.1 refl, f.0) }
          by NotRead e f silent = absurd (f refl)
