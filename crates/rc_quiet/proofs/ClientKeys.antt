-- A client that drops no read keeps its keys, and one that is not open does not open again; its commit leaves it not open.
use Rattle.std.proofs.Common.{◌≡◌, ℕ, List, [], ◌∷◌, ◌++◌, refl, sym, ◌∙◌, subst, false, Option, Some, None, inl, inr, ⊎_elim}
use Rattle.std.specs.Prelude.{map, not, ◌&&◌, ◌==◌}
use Rattle.rc_ids.specs.Tables.{In, maybe}
use Rattle.rc_ids.specs.Texts.{same_key}
use Rattle.rc_ids.specs.Cluster.{Layout, is_dc, is_quorum}
use Rattle.rc_msg.specs.declared.msg.Msg.{Msg}
use Rattle.rc_msg.specs.declared.msg.Msg.TheVariants.{Granted, Voted, Refused, Decided}
use Rattle.rc_protocol.specs.Coordinator.{is_decided_by}
use Rattle.rc_protocol.specs.Client.{Client, ClientAct, ClientRefusal, KeyWornOut, Phase, Committing, Proposed, Done, Slot, KeyRead, NotRead, UnderWay, Complete, Grant, is_open, is_over, is_committing, is_proposed, reads_on, client_stays, with_slots, with_read, with_write, is_worn, proposes, slot_of, slot_set, read_begun, reads_again, do_read, do_write, waits_for_read, reads_begun, do_commit, do_retry, granted_by, cancels, completed, read_line, after_read, unless_refused, with_grant, prints_of, takes_grant, wants_grant, on_granted, counts_refusal, client_row, client_refuses}
use Rattle.rc_protocol.specs.Acts.{ClientCause, Hears, Reads, Writes, Commits, Cancels, Retries, Vanishes, client_by_row, client_act, refusal}
use Rattle.rc_agreement.proofs.Cases.{on_cond, on_maybe}
use Rattle.rc_agreement.proofs.ClientSlots.{key_is, begun_key}
use Rattle.rc_quiet.proofs.ClientDoes.{DropsNone}

abbrev pub keys_in : List Slot → List (List ℕ)
keys_in xs = map (λ (s : Slot). s.key) xs

keys_more : (k : List ℕ) (xs ys : List Slot) → In k (keys_in xs) → In k (keys_in (xs ++ ys))
keys_more k [] ys i = absurd i
keys_more k (x ∷ xs) ys (inl e) = inl e
keys_more k (x ∷ xs) ys (inr i) = inr (keys_more k xs ys i)

keys_set : (k : List ℕ) (xs : List Slot) (y : Slot) → In k (keys_in xs) → In k (keys_in (slot_set xs y))
keys_set k [] y i = absurd i
keys_set k (x ∷ xs) y i =
    on_cond (λ (z : List Slot). In k (keys_in z)) (same_key x.key y.key) (y ∷ xs) (x ∷ slot_set xs y)
    (λ same. ⊎_elim (λ (e : x.key ≡ k). inl (sym (key_is x.key y.key same) ∙ e)) inr i)
    (λ _. ⊎_elim inl (λ j. inr (keys_set k xs y j)) i)

keys_begun : (k : List ℕ) (xs : List Slot) → In k (keys_in xs) → In k (keys_in (map read_begun xs))
keys_begun k [] i = absurd i
keys_begun k (x ∷ xs) i = ⊎_elim (λ (e : x.key ≡ k). inl (begun_key x ∙ e)) (λ j. inr (keys_begun k xs j)) i

module _ (c : Layout) (t : ℕ) (x : Client) where
  record K (p : Phase) (ss : List Slot) : Type 0 where
    keys : (k : List ℕ) → In k (keys_in x.slots) → In k (keys_in ss)
    shut : is_open x.phase ≡ false → is_open p ≡ false

  abbrev J : ClientAct → Type 0
  J a = K a.after.phase a.after.slots

  same : K x.phase x.slots
  same = record { keys = λ k i. i; shut = λ e. e }

  moves : (p : Phase) (ss : List Slot) → is_open p ≡ false → ((k : List ℕ) → In k (keys_in x.slots) → In k (keys_in ss)) → K p ss
  moves p ss e h = record { keys = h; shut = λ _. e }

  changes : (ss : List Slot) → ((k : List ℕ) → In k (keys_in x.slots) → In k (keys_in ss)) → K x.phase ss
  changes ss h = record { keys = h; shut = λ e. e }

  read_row : (q : List ℕ) → J (do_read c t x q)
  read_row q = on_maybe J (slot_of x.slots q) _ _ (λ _. changes _ (λ k i. keys_more k x.slots _ i)) (λ s _. on_maybe J s.write _ _ (λ _. again s.read) (λ v _. same))
    where
      again : (r : KeyRead) → J (reads_again t x q r)
      again (Complete v y) = same
      again (UnderWay p gs) = same
      again NotRead = same

  write_row : (q value : List ℕ) → J (do_write x q value)
  write_row q value = changes _ (λ k i. on_maybe (λ (z : List Slot). In k (keys_in z)) (slot_of x.slots q) _ _ (λ _. keys_more k x.slots _ i) (λ s _. keys_set k x.slots (with_write s value) i))

  commit_row : J (do_commit c t x)
  commit_row =
      on_cond J (waits_for_read (reads_begun x.slots)) _ _ (λ _. moves Committing _ refl (λ k i. keys_begun k x.slots i))
      (λ _. on_cond J (is_worn x.slots) _ _ (λ _. same) (λ _. moves Proposed x.slots refl (λ k i. i)))

  retry_row : J (do_retry c t x)
  retry_row = on_cond J (is_proposed x.phase) _ _ (λ _. same) (λ _. on_cond J (reads_on x.phase) _ _ (λ _. same) (λ _. same))

  granted_row : (q : List ℕ) (g : Grant) → J (on_granted c t x q g)
  granted_row q g =
      on_cond J (reads_on x.phase) _ _ (λ _. on_maybe J (slot_of x.slots q) _ _ (λ _. same) (λ s _. on_cond J (wants_grant s g.dc) _ _ (λ _. takes s) (λ _. same))) (λ _. same)
    where
      takes : (s : Slot) → J (takes_grant c t x s g)
      takes s =
          let gs : List Grant = with_grant s g in
          let y : Client = with_slots x (slot_set x.slots (completed s gs)) in
          on_cond J (is_quorum c (granted_by gs)) _ _
          (λ _. on_cond (λ a. J (unless_refused x (after_read (cancels c t s.key gs) (read_line t s gs) a))) (is_committing y.phase && not (waits_for_read y.slots)) (proposes c t y) (client_stays y)
          (λ _. on_cond (λ a. J (unless_refused x (after_read (cancels c t s.key gs) (read_line t s gs) a))) (is_worn y.slots) _ _ (λ _. same) (λ _. moves Proposed y.slots refl (λ k i. keys_set k x.slots (completed s gs) i)))
          (λ _. changes y.slots (λ k i. keys_set k x.slots (completed s gs) i)))
          (λ _. changes _ (λ k i. keys_set k x.slots (with_read s (UnderWay (prints_of s.read) gs)) i))

  hears_row : (m : Msg) → J (client_row c t x m)
  hears_row (Granted u q d v y) = on_cond J ((u == t) && is_dc c d) _ _ (λ _. granted_row q (record { dc = d; version = v; value = y })) (λ _. same)
  hears_row (Voted u b d o) = on_cond J ((u == t) && is_dc c d) _ _ (λ _. on_cond J (is_over x.phase) _ _ (λ _. same) (λ _. on_cond J (is_decided_by c x.votes b d o) _ _ (λ _. moves Done x.slots refl (λ k i. i)) (λ _. changes x.slots (λ k i. i)))) (λ _. same)
  hears_row (Refused u b d r) = on_cond J ((u == t) && is_dc c d) _ _ (λ _. on_cond J (counts_refusal x b d) _ _ (λ _. changes x.slots (λ k i. i)) (λ _. same)) (λ _. same)
  hears_row (Decided u o) = on_cond J (u == t) _ _ (λ _. on_cond J (is_over x.phase) _ _ (λ _. same) (λ _. moves Done x.slots refl (λ k i. i))) (λ _. same)
  hears_row _ = same

  row : (k : ClientCause) → DropsNone k → J (client_by_row c t x k)
  row (Hears m) none = hears_row m
  row (Reads q) none = read_row q
  row (Writes q value) none = write_row q value
  row Commits none = commit_row
  row (Cancels q) none = absurd none
  row Retries none = retry_row
  row Vanishes none = absurd none

  act_row : (k : ClientCause) → DropsNone k → J (client_act c t x k)
  act_row k none = on_maybe J (refusal x k) _ _ (λ _. row k none) (λ _ _. same)

  pub keys_stay : (a : ClientCause) → DropsNone a → (k : List ℕ) → In k (keys_in x.slots) → In k (keys_in (client_act c t x a).after.slots)
  keys_stay a none = (act_row a none).keys

  pub stays_shut : (a : ClientCause) → DropsNone a → is_open x.phase ≡ false → is_open (client_act c t x a).after.phase ≡ false
  stays_shut a none = (act_row a none).shut

  -- a commit that is not refused shuts it
  pub commit_shuts : refusal x Commits ≡ None → ((client_act c t x Commits).refused ≡ Some KeyWornOut → ⊥) → is_open (client_act c t x Commits).after.phase ≡ false
  commit_shuts none lasts =
      subst (λ (o : Option ClientRefusal). is_open (maybe o (do_commit c t x) (client_refuses x)).after.phase ≡ false) (sym none)
      (by (subst (λ (o : Option ClientRefusal). (maybe o (do_commit c t x) (client_refuses x)).refused ≡ Some KeyWornOut → ⊥) none lasts))
    where
      by : ((do_commit c t x).refused ≡ Some KeyWornOut → ⊥) → is_open (do_commit c t x).after.phase ≡ false
      by =
          on_cond (λ (a : ClientAct). (a.refused ≡ Some KeyWornOut → ⊥) → is_open a.after.phase ≡ false) (waits_for_read (reads_begun x.slots)) _ _ (λ _ _. refl)
          (λ _. on_cond (λ (a : ClientAct). (a.refused ≡ Some KeyWornOut → ⊥) → is_open a.after.phase ≡ false) (is_worn x.slots) _ _ (λ _ worn. absurd (worn refl)) (λ _ _. refl))
