-- A commit reads its unread keys: asks for all of them, grants of all of them, and at the last q-th grant it proposes.
use Rattle.std.proofs.Common.{◌≡◌, ℕ, ◌≤◌, List, [], ◌∷◌, ◌++◌, refl, sym, ap, ◌∙◌, subst, arith, Bool, true, false, Some, None, inl, inr}
use Rattle.std.specs.Prelude.{if◌then◌else◌, nat_le, ◌||◌}
use Rattle.std.proofs.lemmas.List.{append-nil, append_assoc}
use Rattle.std.proofs.lemmas.Bool.{eq-eqb}
use Rattle.std.specs.List.{list_any}
use Rattle.std.specs.Ordering.{nat_cmp}
use Rattle.rc_ids.specs.Tables.{In, found}
use Rattle.rc_ids.specs.Texts.{same_key}
use Rattle.rc_ids.specs.Cluster.{Layout, is_dc, shard_of}
use Rattle.rc_body.specs.declared.decision.Decision.TheVariants.{Commit}
use Rattle.rc_msg.specs.declared.msg.Msg.TheVariants.{Granted, ReadAsk, ReadCancel, Propose}
use Rattle.rc_msg.specs.declared.msg.Envelope.{Envelope}
use Rattle.rc_record.specs.ShardState.{version_at, value_at}
use Rattle.rc_protocol.specs.Messages.{Posts, client_of, shard_server, one, to_all}
use Rattle.rc_serial.specs.OneMap.{Map}
use Rattle.rc_protocol.specs.Client.{Client, Slot, Committing, Proposed, NotRead, UnderWay, Complete, slot_of, with_slots, with_read, client_row, client_stays, client_says, proposes_once_read, asks, asks_all, is_worn, body_of}
use Rattle.rc_runs.specs.World.{Parties, with_client, envelopes}
use Rattle.rc_calm_batches.proofs.Passes.{Turned, Turns, each}
use Rattle.rc_calm_batches.proofs.Batches.{both}
use Rattle.rc_calm_batches.proofs.Stages.{asks_turn, cancels_turn}
use Rattle.rc_calm_batches.proofs.ReadTurns.{With}
use Rattle.rc_calm_batches.proofs.ReadDrains.{env_both, env_each, none_each}
use Rattle.rc_calm_batches.proofs.Quorums.{IsLeast}
use Rattle.rc_calm_batches.proofs.Reading.{same_itself}
use Rattle.rc_calm_batches.proofs.Slots.{other_key, Once, NoneWaits, fill, fills, slot_filled, fills_one, set_same, waits_still, waits_no_more}
use Rattle.rc_calm_batches.proofs.CommitGrants.{key_turn, complete, before}

-- KEYS
abbrev pub all_of : List (List ℕ) → (List ℕ → List Envelope) → List Envelope
all_of [] f = []
all_of (k ∷ ks) f = f k ++ all_of ks f

abbrev pub among : List (List ℕ) → List ℕ → Bool
among ks k = list_any (λ (j : List ℕ). same_key j k) ks

abbrev pub KeysOnce : List (List ℕ) → Type 0
KeysOnce [] = Unit {0}
KeysOnce (k ∷ ks) = ((j : List ℕ) → In j ks → j ≡ k → ⊥) × KeysOnce ks

pub not_among : (ks : List (List ℕ)) (k : List ℕ) → ((j : List ℕ) → In j ks → j ≡ k → ⊥) → among ks k ≡ false
not_among [] k h = refl
not_among (j ∷ ks) k h = let now = other_key j k (h j (inl refl)) in let more = not_among ks k (λ i w. h i (inr w)) in rw (now, more)

pub is_among : (ks : List (List ℕ)) (k : List ℕ) → In k ks → among ks k ≡ true
is_among [] k i = absurd i
is_among (j ∷ ks) k (inl e) = let s : same_key j k ≡ true = ap (λ (z : List ℕ). same_key z k) e ∙ same_itself k in rw s
is_among (j ∷ ks) k (inr i) = go (same_key j k) (is_among ks k i)
  where
    go : (v : Bool) → among ks k ≡ true → (v || among ks k) ≡ true
    go true e = refl
    go false e = e

among_other : (ks : List (List ℕ)) (k j : List ℕ) → (k ≡ j → ⊥) → among (k ∷ ks) j ≡ among ks j
among_other ks k j n = let e = other_key k j n in rw e

-- an unread key of these slots
pub record Unread (slots : List Slot) (k : List ℕ) : Type 0 where
  pub slot : Slot
  pub at : slot_of slots k ≡ Some slot
  pub key : slot.key ≡ k
  pub read : slot.read ≡ NotRead
  pub member : In slot slots

module _ (b : Parties) (m : Map) (over : List ℕ) (t : ℕ) (keys : List (List ℕ)) (x : Client) (there : found nat_cmp b.clients t ≡ Some x) (q : ℕ) (least : IsLeast b.layout 1 b.layout.dcs q)
    (slots : List Slot) (refusals : List ℕ) (once : Once slots) (calm : NoneWaits m slots) where
  abbrev c : Layout
  c = b.layout

  abbrev N : ℕ
  N = c.dcs

  abbrev W : Client → Parties → Type 0
  W = With b m over t keys x there

  -- the client while these keys are not complete, and once it has proposed
  abbrev pub reads_left : (List ℕ → Bool) → Client
  reads_left f = record { phase = Committing; slots = fills m f slots; refusals = refusals; votes = []; outcome = None }

  abbrev pub all_read : List Slot
  all_read = fills m (λ k. false) slots

  abbrev pub proposed : Client
  proposed = record { phase = Proposed; slots = all_read; refusals = refusals; votes = []; outcome = None }

  abbrev pub proposal : Posts
  proposal = to_all c (Propose t 0 (Commit (body_of all_read)))

  abbrev pub asks_to : List ℕ → List Envelope
  asks_to k = each N (λ d. record { from = client_of t; to = shard_server d (shard_of c k); msg = ReadAsk t k } ∷ [])

  abbrev pub grants_of : List ℕ → List Envelope
  grants_of k = each N (λ d. record { from = shard_server d (shard_of c k); to = client_of t; msg = Granted t k d (version_at m k) (value_at m k) } ∷ [])

  abbrev pub cancels_of : List ℕ → List Envelope
  cancels_of k = each N (λ d. if nat_le d q then [] else record { from = client_of t; to = shard_server d (shard_of c k); msg = ReadCancel t k } ∷ [])

  -- ONE KEY, after which others are left
  module _ (k : List ℕ) (ks : List (List ℕ)) (u : Unread slots k) (apart : (j : List ℕ) → In j ks → j ≡ k → ⊥) where
    abbrev z : Client
    z = reads_left (among (k ∷ ks))

    abbrev s : Slot
    s = with_read u.slot (UnderWay false [])

    now_read : among (k ∷ ks) u.slot.key ≡ true
    now_read = is_among (k ∷ ks) u.slot.key (inl (sym u.key))

    filled_now : fill m (among (k ∷ ks)) u.slot ≡ s
    filled_now = let r = u.read in let n = now_read in rw (r, n)

    at : slot_of z.slots k ≡ Some s
    at = slot_filled m (among (k ∷ ks)) slots k u.slot u.at ∙ ap (λ (y : Slot). Some y) filled_now

    is_begun : z ≡ before b m over t keys x there q least z s k at u.key refl z [] 0
    is_begun = ap (λ (ss : List Slot). with_slots z ss) (sym (set_same z.slots k s at u.key))

    is_left : complete b m over t keys x there q least z s k at u.key refl z [] ≡ reads_left (among ks)
    is_left = ap (λ (ss : List Slot). with_slots z ss) (fills_one m (among (k ∷ ks)) (among ks) slots k u.slot once u.at u.key u.read (not_among ks k apart) (λ j n. among_other ks k j n))

    -- a grant that comes too late
    slot_then : slot_of (fills m (among ks) slots) k ≡ Some (with_read u.slot (Complete (version_at m u.slot.key) (value_at m u.slot.key)))
    slot_then =
        let r = u.read in
        let n : among ks u.slot.key ≡ false = ap (among ks) u.key ∙ not_among ks k apart in
        slot_filled m (among ks) slots k u.slot u.at ∙ ap (λ (y : Slot). Some y) (rw (r, n))

    late_left : (d : ℕ) → is_dc c d ≡ true → client_row c t (reads_left (among ks)) (Granted t k d (version_at m k) (value_at m k)) ≡ client_stays (reads_left (among ks))
    late_left d dc = let e = slot_then in let own = eq-eqb t t refl in rw (own, dc, e)

    late_proposed : (d : ℕ) → is_dc c d ≡ true → client_row c t proposed (Granted t k d (version_at m k) (value_at m k)) ≡ client_stays proposed
    late_proposed d dc = let own = eq-eqb t t refl in rw (own, dc)

    one_key : (last : Client) (more : Posts)
        → proposes_once_read c t (reads_left (among ks)) ≡ record { after = last; sends = more; lines = []; refused = None }
        → ((d : ℕ) → is_dc c d ≡ true → client_row c t last (Granted t k d (version_at m k) (value_at m k)) ≡ client_stays last)
        → Turns (W (reads_left (among (k ∷ ks)))) (grants_of k) (W last) (cancels_of k ++ envelopes (client_of t) more) []
    one_key last more end late p h =
        key_turn b m over t keys x there q least z s k at u.key refl last more
        (ap (proposes_once_read c t) is_left ∙ end) late p (subst (λ (y : Client). W y p) is_begun h)

  still : (k : List ℕ) (ks : List (List ℕ)) → Unread slots k → proposes_once_read c t (reads_left (among (k ∷ ks))) ≡ client_stays (reads_left (among (k ∷ ks)))
  still k ks u = let e = waits_still m (among (k ∷ ks)) slots u.slot u.member u.read (is_among (k ∷ ks) u.slot.key (inl (sym u.key))) in rw e

  module _ (lasting : is_worn all_read ≡ false) where
    ends : proposes_once_read c t (reads_left (λ k. false)) ≡ client_says proposed proposal
    ends = let e = waits_no_more m (λ k. false) slots calm (λ s i r. refl) in rw (e, lasting)

    -- ALL KEYS
    pub grants_all : (k : List ℕ) (ks : List (List ℕ)) → KeysOnce (k ∷ ks) → ((j : List ℕ) → In j (k ∷ ks) → Unread slots j)
        → Turns (W (reads_left (among (k ∷ ks)))) (all_of (k ∷ ks) grants_of) (W proposed) (all_of (k ∷ ks) cancels_of ++ envelopes (client_of t) proposal) []
    grants_all k [] o us p h =
        let u = us k (inl refl) in
        let v = one_key k [] u o.0 proposed proposal ends (late_proposed k [] u o.0) p h in
        let e : grants_of k ≡ all_of (k ∷ []) grants_of = sym (append-nil (grants_of k)) in
        subst (λ (es : List Envelope). Turned (W proposed) es (all_of (k ∷ []) cancels_of ++ envelopes (client_of t) proposal) [] p) e
        (record { after = v.after; sends = v.sends ∙ ap (λ (w : List Envelope). w ++ envelopes (client_of t) proposal) (sym (append-nil (cancels_of k))); prints = v.prints; lasts = v.lasts })
    grants_all k (j ∷ ks) o us p h =
        let u = us k (inl refl) in
        let v = both (W (reads_left (among (k ∷ j ∷ ks)))) (W (reads_left (among (j ∷ ks)))) (W proposed) (grants_of k) (all_of (j ∷ ks) grants_of)
        (cancels_of k ++ []) (all_of (j ∷ ks) cancels_of ++ envelopes (client_of t) proposal) [] []
        (one_key k (j ∷ ks) u o.0 (reads_left (among (j ∷ ks))) [] (still j ks (us j (inr (inl refl)))) (late_left k (j ∷ ks) u o.0))
        (grants_all j ks o.1 (λ i w. us i (inr w))) p h in
        record {
          after = v.after;
          sends = v.sends
              ∙ (ap (λ (w : List Envelope). w ++ (all_of (j ∷ ks) cancels_of ++ envelopes (client_of t) proposal)) (append-nil (cancels_of k))
              ∙ sym (append_assoc (cancels_of k) (all_of (j ∷ ks) cancels_of) (envelopes (client_of t) proposal)));
          prints = v.prints;
          lasts = v.lasts;
        }

  -- ASKS AND CANCELS of all of them
  module _ (fresh : In t over → ⊥) (y : Client) where
    pub asks_turn_all : (ks : List (List ℕ)) → ((k : List ℕ) → In k ks → In k keys × (1 ≤ shard_of c k) × (shard_of c k ≤ c.shards))
        → Turns (W y) (all_of ks asks_to) (W y) (all_of ks grants_of) []
    asks_turn_all [] f = λ p h. record { after = h; sends = refl; prints = refl; lasts = tt }
    asks_turn_all (k ∷ ks) f =
        both (W y) (W y) (W y) (asks_to k) (all_of ks asks_to) (grants_of k) (all_of ks grants_of) [] []
        (λ p h. let i = f k (inl refl) in let v = asks_turn (with_client b t y) m over t keys k fresh i.0 i.1 i.2 N (omega arith) p h in record { after = v.after; sends = v.sends; prints = v.prints ∙ none_each N; lasts = v.lasts })
        (asks_turn_all ks (λ j i. f j (inr i)))

    pub cancels_turn_all : (ks : List (List ℕ)) → ((k : List ℕ) → In k ks → In k keys × (1 ≤ shard_of c k) × (shard_of c k ≤ c.shards))
        → Turns (W y) (all_of ks cancels_of) (W y) [] []
    cancels_turn_all [] f = λ p h. record { after = h; sends = refl; prints = refl; lasts = tt }
    cancels_turn_all (k ∷ ks) f =
        both (W y) (W y) (W y) (cancels_of k) (all_of ks cancels_of) [] [] [] []
        (λ p h. let i = f k (inl refl) in let v = cancels_turn (with_client b t y) m over t keys k fresh i.0 i.1 i.2 q N (omega arith) p h in record { after = v.after; sends = v.sends ∙ none_each N; prints = v.prints ∙ none_each N; lasts = v.lasts })
        (cancels_turn_all ks (λ j i. f j (inr i)))

  pub asked : (ks : List (List ℕ)) → envelopes (client_of t) (asks_all c t ks) ≡ all_of ks asks_to
  asked [] = refl
  asked (k ∷ ks) = env_both (client_of t) (asks c t k) (asks_all c t ks) ∙ (ap (λ (z : List Envelope). z ++ envelopes (client_of t) (asks_all c t ks)) (env_each (client_of t) N (λ d. one (shard_server d (shard_of c k)) (ReadAsk t k))) ∙ ap (λ (z : List Envelope). asks_to k ++ z) (asked ks))
