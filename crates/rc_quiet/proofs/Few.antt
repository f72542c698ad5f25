-- The messages needed are few: their labels differ, and are among so many.
use Rattle.std.proofs.Common.{◌≡◌, ℕ, zero, suc, ◌+◌, ◌*◌, ◌<◌, List, [], ◌∷◌, ◌++◌, refl, sym, ap, ◌∙◌, subst, arith, Option, Some, ◌⊎◌, inl, inr, ⊎_elim}
use Rattle.std.specs.Prelude.{length, map}
use Rattle.std.proofs.lemmas.List.{length-map}
use Rattle.rc_ids.specs.Tables.{In, up_to}
use Rattle.rc_ids.specs.declared.names.Party.{Party}
use Rattle.rc_body.specs.declared.entry.Entry.{Entry}
use Rattle.rc_body.specs.declared.decision.Decision.{Decision}
use Rattle.rc_body.specs.declared.reason.Reason.{Reason}
use Rattle.rc_msg.specs.declared.msg.Msg.{Msg}
use Rattle.rc_msg.specs.declared.msg.Msg.TheVariants.{ReadAsk, Granted, Prepare, Prepared, Voted}
use Rattle.rc_msg.specs.declared.msg.Envelope.{Envelope}
use Rattle.rc_protocol.specs.Messages.{coordinator, shard_server, client_of}
use Rattle.rc_claims.specs.Quiet.{Need, Asks, Grants, Proposes, Prepares, Answers, Votes, IsAmong, IsNeeded, AreFew, Differ, keys_of, shards_of, most_deliveries}
use Rattle.rc_quiet.proofs.Parts.{Sent}
use Rattle.rc_runs.specs.World.{World}
use Rattle.rc_agreement.proofs.Lists.{map_in}
use Rattle.rc_agreement.proofs.Tables.{in_left, in_right}
use Rattle.rc_quiet.proofs.Counting.{Apart, few_within}
use Rattle.rc_quiet.proofs.Needs.{Labels, labels}
use Rattle.rc_quiet.proofs.Ending.{in_message}

-- of which keys, shards and datacentres is spoken
pub record Spoken (t : ℕ) (v : World) : Type 0 where
  pub asks : (from : Party) (d s : ℕ) (k : List ℕ) → Sent v.sent from (shard_server d s) (ReadAsk t k) → In k (keys_of v t)
  pub grants : (d s e version : ℕ) (k : List ℕ) (value : Option (List ℕ)) (to : Party) → Sent v.sent (shard_server d s) to (Granted t k e version value) → In k (keys_of v t)
  pub prepares : (from : Party) (d s : ℕ) (p : List Entry) → Sent v.sent from (shard_server d s) (Prepare t p) → In s (shards_of v t)
  pub answers : (d s sh : ℕ) (reason : Option Reason) (to : Party) → Sent v.sent (shard_server d s) to (Prepared t sh reason) → In s (shards_of v t)
  pub votes : (d u b e : ℕ) (o : Decision) → Sent v.sent (coordinator d) (client_of u) (Voted t b e o) → In d (up_to v.parties.layout.dcs)

-- LISTS
length_both : {A : Type 0} (a b : List A) → length (a ++ b) ≡ length a + length b
length_both [] b = omega arith
length_both (x ∷ a) b = let h = length_both a b in omega (arith, h)

length_up_to : (n : ℕ) → length (up_to n) ≡ n
length_up_to zero = refl
length_up_to (suc n) = let h = length_up_to n in let k = length_both (up_to n) (suc n ∷ []) in omega (arith, h, k)

one_more : (n x : ℕ) → suc n * x ≡ x + n * x
one_more n x = grind (arith)

-- ALL LABELS
module _ (keys : List (List ℕ)) (shards : List ℕ) (dcs : ℕ) where
  of_dc : ℕ → List Need
  of_dc d = map (Asks d) keys ++ (map (Grants d) keys ++ (map (Prepares d) shards ++ (map (Answers d) shards ++ Proposes d ∷ [])))

  all_needs : List ℕ → List Need
  all_needs [] = map Votes (up_to dcs)
  all_needs (d ∷ ds) = of_dc d ++ all_needs ds

  length_dc : (d : ℕ) → length (of_dc d) ≡ 2 * length keys + 2 * length shards + 1
  unfolding of_dc
  length_dc d =
      let a = length_both (map (Asks d) keys) (map (Grants d) keys ++ (map (Prepares d) shards ++ (map (Answers d) shards ++ Proposes d ∷ []))) in
      let b = length_both (map (Grants d) keys) (map (Prepares d) shards ++ (map (Answers d) shards ++ Proposes d ∷ [])) in
      let c = length_both (map (Prepares d) shards) (map (Answers d) shards ++ Proposes d ∷ []) in
      let e = length_both (map (Answers d) shards) (Proposes d ∷ []) in
      let f = length-map keys (Asks d) in
      let g = length-map keys (Grants d) in
      let h = length-map shards (Prepares d) in
      let i = length-map shards (Answers d) in
      omega (arith, a, b, c, e, f, g, h, i)

  length_all : (ds : List ℕ) → length (all_needs ds) ≡ most_deliveries (length ds) (length keys) (length shards) dcs
  unfolding all_needs
  length_all [] = let a = length-map (up_to dcs) Votes in let b = length_up_to dcs in omega (arith, a, b)
  length_all (d ∷ ds) =
      let a = length_both (of_dc d) (all_needs ds) in
      let b = length_dc d in
      let c = length_all ds in
      let e = one_more (length ds) (2 * length keys + 2 * length shards + 1) in
      omega (arith, a, b, c, e)

  -- the label is of these
  Lists : Need → Type 0
  Lists (Asks d k) = In k keys
  Lists (Grants d k) = In k keys
  Lists (Proposes d) = Unit {0}
  Lists (Prepares d s) = In s shards
  Lists (Answers d s) = In s shards
  Lists (Votes d) = In d (up_to dcs)

  in_dcs : (l : Need) (d : ℕ) (ds : List ℕ) → In d ds → In l (of_dc d) → In l (all_needs ds)
  unfolding all_needs
  in_dcs l d [] i h = absurd i
  in_dcs l d (e ∷ ds) (inl k) h = in_left l (of_dc e) (all_needs ds) (subst (λ (z : ℕ). In l (of_dc z)) (sym k) h)
  in_dcs l d (e ∷ ds) (inr i) h = in_right l (of_dc e) (all_needs ds) (in_dcs l d ds i h)

  in_votes : (l : Need) (ds : List ℕ) → In l (map Votes (up_to dcs)) → In l (all_needs ds)
  unfolding all_needs
  in_votes l [] h = h
  in_votes l (e ∷ ds) h = in_right l (of_dc e) (all_needs ds) (in_votes l ds h)

  listed : (members : List ℕ) (l : Need) → IsAmong members l → Lists l → In l (all_needs members)
  unfolding of_dc Lists
  listed ms (Asks d k) i h = in_dcs (Asks d k) d ms i (in_left _ (map (Asks d) keys) _ (map_in (Asks d) k keys h))
  listed ms (Grants d k) i h = in_dcs (Grants d k) d ms i (in_right _ (map (Asks d) keys) _ (in_left _ (map (Grants d) keys) _ (map_in (Grants d) k keys h)))
  listed ms (Prepares d s) i h = in_dcs (Prepares d s) d ms i (in_right _ (map (Asks d) keys) _ (in_right _ (map (Grants d) keys) _ (in_left _ (map (Prepares d) shards) _ (map_in (Prepares d) s shards h))))
  listed ms (Answers d s) i h = in_dcs (Answers d s) d ms i (in_right _ (map (Asks d) keys) _ (in_right _ (map (Grants d) keys) _ (in_right _ (map (Prepares d) shards) _ (in_left _ (map (Answers d) shards) _ (map_in (Answers d) s shards h)))))
  listed ms (Proposes d) i h = in_dcs (Proposes d) d ms i (in_right _ (map (Asks d) keys) _ (in_right _ (map (Grants d) keys) _ (in_right _ (map (Prepares d) shards) _ (in_right _ (map (Answers d) shards) (Proposes d ∷ []) (inl refl)))))
  listed ms (Votes d) i h = in_votes (Votes d) ms (map_in Votes d (up_to dcs) h)

module _ (members : List ℕ) (t : ℕ) (v : World) (spoken : Spoken t v) where
  abbrev keys : List (List ℕ)
  keys = keys_of v t

  abbrev shards : List ℕ
  shards = shards_of v t

  abbrev dcs : ℕ
  dcs = v.parties.layout.dcs

  words : (e : Envelope) (from to : Party) (m : Msg) → In e v.sent → e.from ≡ from → e.to ≡ to → e.msg ≡ m → Sent v.sent from to m
  words e from to m i f g h = subst (λ (z : Msg). Sent v.sent from to z) h (subst (λ (z : Party). Sent v.sent from z e.msg) g (subst (λ (z : Party). Sent v.sent z e.to e.msg) f i))

  lists : (e : Envelope) (l : Need) → In e v.sent → Labels t l e.from e.to e.msg → Lists keys shards dcs l
  unfolding Lists
  lists e (Asks d k) i h = spoken.asks e.from d h.0 k (words e e.from (shard_server d h.0) (ReadAsk t k) i refl h.1 h.2)
  lists e (Grants d k) i h = spoken.grants d h.0 h.1 h.2 k h.3 e.to (words e (shard_server d h.0) e.to (Granted t k h.1 h.2 h.3) i h.4 refl h.5)
  lists e (Proposes d) i h = tt
  lists e (Prepares d s) i h = spoken.prepares e.from d s h.0 (words e e.from (shard_server d s) (Prepare t h.0) i refl h.1 h.2)
  lists e (Answers d s) i h = spoken.answers d s h.0 h.1 e.to (words e (shard_server d s) e.to (Prepared t h.0 h.1) i h.2 refl h.3)
  lists e (Votes d) i h = spoken.votes d h.0 h.1 h.2 h.3 (words e (coordinator d) (client_of h.0) (Voted t h.1 h.2 h.3) i h.4 h.5 h.6)

  abbrev All : List ℕ → Type 0
  All ns = (n : ℕ) → In n ns → IsNeeded members t v.sent n

  labels_of : (ns : List ℕ) → All ns → List Need
  labels_of [] h = []
  labels_of (n ∷ ns) h = (h n (inl refl)).need ∷ labels_of ns (λ i j. h i (inr j))

  as_many : (ns : List ℕ) (h : All ns) → length (labels_of ns h) ≡ length ns
  unfolding labels_of
  as_many [] h = refl
  as_many (n ∷ ns) h = ap suc (as_many ns (λ i j. h i (inr j)))

  -- the first with a label is one
  one : (a b : ℕ) (x : IsNeeded members t v.sent a) (y : IsNeeded members t v.sent b) → x.need ≡ y.need → a ≡ b
  one a b x y e = ⊎_elim (λ (h : a < b). absurd (y.first a x.e h x.is (x.kind ∙ ap Some e))) (λ k. ⊎_elim (λ h. h) (λ (h : b < a). absurd (x.first b y.e h y.is (y.kind ∙ ap Some (sym e)))) k) (compare a b)
    where
      compare : (a b : ℕ) → (a < b) ⊎ ((a ≡ b) ⊎ (b < a))
      compare zero zero = inr (inl refl)
      compare zero (suc b) = inl (omega arith)
      compare (suc a) zero = inr (inr (omega arith))
      compare (suc a) (suc b) = ⊎_elim (λ h. inl (omega (arith, h))) (λ k. ⊎_elim (λ e. inr (inl (ap suc e))) (λ h. inr (inr (omega (arith, h)))) k) (compare a b)

  found_in : (ns : List ℕ) (h : All ns) (l : Need) → In l (labels_of ns h) → (n : ℕ) × (i : In n ns) × (x : IsNeeded members t v.sent n) × (x.need ≡ l)
  unfolding labels_of
  found_in [] h l i = absurd i
  found_in (n ∷ ns) h l (inl e) = (n, inl refl, h n (inl refl), e)
  found_in (n ∷ ns) h l (inr i) = let z = found_in ns (λ i j. h i (inr j)) l i in (z.0, inr z.1, z.2, z.3)

  apart : (ns : List ℕ) (h : All ns) → Differ ns → Apart (labels_of ns h)
  unfolding labels_of
  apart [] h d = tt
  apart (n ∷ ns) h d = (λ i. let z = found_in ns (λ i j. h i (inr j)) (h n (inl refl)).need i in d.0 (subst (λ (m : ℕ). In m ns) (one z.0 n z.2 (h n (inl refl)) z.3) z.1), apart ns (λ i j. h i (inr j)) d.1)

  pub few : AreFew v members t
  few ns d h =
      let inside : (l : Need) → In l (labels_of ns h) → In l (all_needs keys shards dcs members) =
      λ l i. let z = found_in ns h l i in
      let x = z.2 in
      subst (λ (y : Need). In y (all_needs keys shards dcs members)) z.3
      (listed keys shards dcs members x.need x.among (lists x.e x.need (in_message v.sent z.0 x.e x.is) (labels t x.e.from x.e.to x.e.msg x.need x.kind))) in
      let a = few_within (labels_of ns h) (all_needs keys shards dcs members) (apart ns h d) inside in
      let b = as_many ns h in
      let c = length_all keys shards dcs members in
      omega (arith, a, b, c)
