-- Each row of a client says only what has a spelling.
use Rattle.std.proofs.Common.{◌≡◌, ℕ, ◌==◌, true, false, List, [], ◌∷◌, ◌++◌, arith, Option, Some, None}
use Rattle.std.specs.Prelude.{not, ◌&&◌, if◌then◌else◌}
use Rattle.std.specs.List.{AllByRecursion}
use Rattle.std.specs.Ordering.{nat_cmp}
use Rattle.rc_ids.specs.Tables.{maybe, member, added}
use Rattle.rc_ids.specs.Texts.{key_cmp, IsKey, IsValue}
use Rattle.rc_ids.specs.Cluster.{Layout, IsLayout, is_dc, is_quorum, home, shard_of}
use Rattle.rc_body.specs.declared.decision.Decision.{Decision}
use Rattle.rc_body.specs.declared.decision.Decision.TheVariants.{Commit}
use Rattle.rc_body.specs.declared.reason.Reason.{Reason}
use Rattle.rc_fields.specs.Ranges.{IsTxNumber}
use Rattle.rc_msg.specs.declared.msg.Msg.{Msg}
use Rattle.rc_msg.specs.declared.msg.Msg.TheVariants.{ReadAsk, ReadCancel, Granted, Propose, Prepare, Prepared, Voted, Refused, Ask, Promise, Decided, Finish, Abandon, CatchAsk, CatchPage}
use Rattle.rc_msg.specs.Spelling.{HasMsg}
use Rattle.rc_report.specs.declared.line.Line.{Line}
use Rattle.rc_protocol.specs.Messages.{Posts, coordinator, shard_server, one, to_each, to_all}
use Rattle.rc_protocol.specs.Acts.{ClientCause, Hears, Reads, Writes, Commits, Cancels, Retries, Vanishes, client_act, client_by_row, if_open, if_room, refusal}
use Rattle.rc_protocol.specs.Coordinator.{is_decided_by}
use Rattle.rc_protocol.specs.Client.{Phase, Open, Committing, Proposed, Done, Vanished, Client, ClientRefusal, NotOpen, TooManyKeys, KeyWornOut, Grant, KeyRead, NotRead, UnderWay, Complete, Slot, is_open, is_committing, is_proposed, is_over, in_phase, with_slots, slot_of, slot_set, with_read, with_write, is_under_way, is_unread, grants_of, prints_of, waits_for_read, body_of, client_stays, client_says, client_prints, client_refuses, asks, is_worn, proposes, is_out_of_slots, asks_new, reads_again, reads_slot, do_read, do_write, unread_keys, reads_begun, asks_all, do_commit, drops_read, do_cancel, do_vanish, granted_by, cancels, completed, proposes_once_read, completes, with_grant, takes_grant, wants_grant, reads_on, on_granted, client_learns, with_vote, on_voted, on_decided, counts_refusal, on_refused, asks_rest, waiting_keys, asks_again, proposes_again, do_retry, client_row}
use Rattle.rc_grammar.specs.Acts.{HasPosts, HasClientCause}
use Rattle.rc_grammar.specs.Clients.{HasGrant, HasSlot, HasClient, ClientSpeaks}
use Rattle.rc_grammar.proofs.Lists.{on_cond, on_maybe, all_both, all_added}
use Rattle.rc_grammar.proofs.Ranges.{dc_within, home_is_dc, key_shard}
use Rattle.rc_grammar.proofs.Sends.{to_one, to_both, to_many, to_coords}
use Rattle.rc_grammar.proofs.Slots.{HasSlots, slot_has, has_body, has_new, has_room, has_slot_set, has_begun, has_dropped, grants_are, best_is}

says : (x : Client) (ms : Posts) → HasClient x → HasPosts ms → ClientSpeaks (client_says x ms)
says x ms h p = record { sends = p; after = h }

stays : (x : Client) → HasClient x → ClientSpeaks (client_stays x)
stays x h = says x [] h tt

prints : (x : Client) (line : Line) → HasClient x → ClientSpeaks (client_prints x line)
prints x line h = record { sends = tt; after = h }

refuses : (x : Client) (why : ClientRefusal) → HasClient x → ClientSpeaks (client_refuses x why)
refuses x why h = record { sends = tt; after = h }

-- PHASES
not_proposed : (phase : Phase) → is_open phase ≡ true → is_proposed phase ≡ true → ⊥
not_proposed Open o p = cc
not_proposed Committing o p = cc
not_proposed Proposed o p = cc
not_proposed Done o p = cc
not_proposed Vanished o p = cc

reading_on : (phase : Phase) → reads_on phase ≡ true → is_proposed phase ≡ true → ⊥
reading_on Open o p = cc
reading_on Committing o p = cc
reading_on Proposed o p = cc
reading_on Done o p = cc
reading_on Vanished o p = cc

slots_of : (x : Client) → HasClient x → HasSlots x.slots
slots_of x h = record { few = h.few; apart = h.apart; slots = h.slots }

-- the slots are others, and nothing is proposed yet
changed : (x : Client) (xs : List Slot) → HasSlots xs → (is_proposed x.phase ≡ true → ⊥) → HasClient (with_slots x xs)
changed x xs h n = record { few = h.few; apart = h.apart; slots = h.slots; lasting = λ p. absurd (n p) }

-- what is refused before its row is looked at
open_of : (x : Client) (r : Option ClientRefusal) → if_open x r ≡ None → (is_open x.phase ≡ true) × (r ≡ None)
open_of x r is = on_cond (λ (z : Option ClientRefusal). z ≡ None → (is_open x.phase ≡ true) × (r ≡ None)) (is_open x.phase) r (Some NotOpen) (λ o e. (o, e)) (λ _ e. absurd (cc)) is

room_of : (x : Client) (k : List ℕ) → if_room x k ≡ None → is_out_of_slots x k ≡ false
room_of x k is = on_cond (λ (z : Option ClientRefusal). z ≡ None → is_out_of_slots x k ≡ false) (is_out_of_slots x k) (Some TooManyKeys) None (λ _ e. absurd (cc)) (λ o _. o) is

-- KEYS that are asked for again
unread_are : (xs : List Slot) → AllByRecursion HasSlot xs → AllByRecursion IsKey (unread_keys xs)
unread_are [] h = tt
unread_are (x ∷ xs) h =
    on_cond (AllByRecursion IsKey) (is_unread x.read) (added key_cmp (unread_keys xs) x.key) (unread_keys xs) (λ _. all_added key_cmp IsKey (unread_keys xs) x.key (unread_are xs h.1) h.0.key) (λ _. unread_are xs h.1)

-- ROWS
module _ (c : Layout) (hc : IsLayout c) (t : ℕ) (tx : IsTxNumber t) where
  to_shards : (k : List ℕ) (m : Msg) → HasMsg m → HasPosts (to_each c.dcs (λ d. one (shard_server d (shard_of c k)) m))
  to_shards k m own = to_many c.dcs (λ d. one (shard_server d (shard_of c k)) m) (λ d low high. to_one (shard_server d (shard_of c k)) m (dc_within c hc d low high, key_shard c hc k) own)

  -- to those that are not in the set
  to_others : (set : List ℕ) (k : List ℕ) (m : Msg) → HasMsg m → HasPosts (to_each c.dcs (λ d. if member nat_cmp set d then [] else one (shard_server d (shard_of c k)) m))
  to_others set k m own = to_many c.dcs (λ d. if member nat_cmp set d then [] else one (shard_server d (shard_of c k)) m) (λ d low high.
      on_cond HasPosts (member nat_cmp set d) [] (one (shard_server d (shard_of c k)) m) (λ _. tt) (λ _. to_one (shard_server d (shard_of c k)) m (dc_within c hc d low high, key_shard c hc k) own))

  has_asks_all : (ks : List (List ℕ)) → AllByRecursion IsKey ks → HasPosts (asks_all c t ks)
  has_asks_all [] own = tt
  has_asks_all (k ∷ ks) own = to_both (asks c t k) (asks_all c t ks) (to_shards k (ReadAsk t k) (tx, own.0)) (has_asks_all ks own.1)

  has_asks_again : (xs : List Slot) (ks : List (List ℕ)) → AllByRecursion HasSlot xs → HasPosts (asks_again c t xs ks)
  has_asks_again xs [] h = tt
  has_asks_again xs (k ∷ ks) h =
      to_both (maybe (slot_of xs k) [] (asks_rest c t)) (asks_again c t xs ks)
      (on_maybe HasPosts (slot_of xs k) [] (asks_rest c t) (λ _. tt) (λ s is. to_others (granted_by (grants_of s.read)) s.key (ReadAsk t s.key) (tx, (slot_has xs k s h is).key)))
      (has_asks_again xs ks h)

  has_proposal : (xs : List Slot) → HasSlots xs → is_worn xs ≡ false → HasPosts (to_all c (Propose t 0 (Commit (body_of xs))))
  has_proposal xs h lasting = to_coords c hc (Propose t 0 (Commit (body_of xs))) (tx, omega arith, has_body xs h lasting)

  has_abandon : HasPosts (one (coordinator (home c t)) (Abandon t))
  has_abandon = to_one (coordinator (home c t)) (Abandon t) (home_is_dc c hc t) tx

  proposing : (x : Client) → HasSlots x.slots → (is_proposed x.phase ≡ true → ⊥) → ClientSpeaks (proposes c t x)
  proposing x h n =
      on_cond ClientSpeaks (is_worn x.slots) (client_refuses x KeyWornOut) _
      (λ _. refuses x KeyWornOut (changed x x.slots h n))
      (λ lasting. says (in_phase x Proposed) _ (record { few = h.few; apart = h.apart; slots = h.slots; lasting = λ _. lasting }) (has_proposal x.slots h lasting))

  module _ (x : Client) (h : HasClient x) where
    -- COMMANDS
    reading : (k : List ℕ) → IsKey k → refusal x (Reads k) ≡ None → ClientSpeaks (do_read c t x k)
    reading k key is =
        let o = open_of x (if_room x k) is in
        on_maybe ClientSpeaks (slot_of x.slots k) (asks_new c t x k) (reads_slot t x k)
        (λ none. says _ (asks c t k)
        (changed x _ (has_new x.slots (record { key = k; write = None; read = UnderWay true [] }) (slots_of x h) (has_room x k (room_of x k o.1) none) none (record { key = key; write = tt; read = tt })) (not_proposed x.phase o.0))
        (to_shards k (ReadAsk t k) (tx, key)))
        (λ s _. on_maybe ClientSpeaks s.write (reads_again t x k s.read) _ (λ _. again s.read) (λ value _. prints x _ h))
      where
        again : (r : KeyRead) → ClientSpeaks (reads_again t x k r)
        again NotRead = stays x h
        again (UnderWay p grants) = stays x h
        again (Complete version value) = prints x _ h

    writing : (k value : List ℕ) → IsKey k → IsValue value → refusal x (Writes k value) ≡ None → ClientSpeaks (do_write x k value)
    writing k value key own is =
        let o = open_of x (if_room x k) is in
        stays _ (changed x _
        (on_maybe HasSlots (slot_of x.slots k) (x.slots ++ record { key = k; write = Some value; read = NotRead } ∷ []) (λ s. slot_set x.slots (with_write s value))
        (λ none. has_new x.slots (record { key = k; write = Some value; read = NotRead }) (slots_of x h) (has_room x k (room_of x k o.1) none) none (record { key = key; write = own; read = tt }))
        (λ s at. let p = slot_has x.slots k s h.slots at in has_slot_set x.slots (with_write s value) (slots_of x h) (record { key = p.key; write = own; read = p.read })))
        (not_proposed x.phase o.0))

    committing : refusal x Commits ≡ None → ClientSpeaks (do_commit c t x)
    committing is =
        let o = open_of x None is in
        let begun = has_begun x.slots (slots_of x h) in
        on_cond ClientSpeaks (waits_for_read (reads_begun x.slots)) _ (proposes c t x)
        (λ _. says (in_phase (with_slots x (reads_begun x.slots)) Committing) _ (record { few = begun.few; apart = begun.apart; slots = begun.slots; lasting = λ p. absurd (cc) })
        (has_asks_all (unread_keys x.slots) (unread_are x.slots h.slots)))
        (λ _. proposing x (slots_of x h) (not_proposed x.phase o.0))

    cancelling : (k : List ℕ) → IsKey k → refusal x (Cancels k) ≡ None → ClientSpeaks (do_cancel c t x k)
    cancelling k key is =
        let o = open_of x None is in
        on_maybe ClientSpeaks (slot_of x.slots k) (client_stays x) _ (λ _. stays x h)
        (λ s _. on_cond ClientSpeaks (is_under_way s.read) (drops_read c t x k) (client_stays x)
        (λ _. says _ _ (changed x _ (has_dropped k x.slots (slots_of x h)) (not_proposed x.phase o.0)) (to_shards k (ReadCancel t k) (tx, key)))
        (λ _. stays x h))

    retrying : ClientSpeaks (do_retry c t x)
    retrying =
        on_cond ClientSpeaks (is_proposed x.phase) (client_says x (proposes_again c t x)) _
        (λ p. says x _ h (on_cond HasPosts (is_quorum c x.refusals) _ _ (λ _. has_abandon) (λ _. has_proposal x.slots (slots_of x h) (h.lasting p))))
        (λ _. on_cond ClientSpeaks (reads_on x.phase) _ (client_stays x) (λ _. says x _ h (has_asks_again x.slots (waiting_keys x.slots) h.slots)) (λ _. stays x h))

    vanishing : ClientSpeaks (do_vanish x)
    vanishing = stays _ (record { few = h.few; apart = h.apart; slots = h.slots; lasting = λ p. absurd (cc) })

    -- GRANTS
    once_read : (y : Client) → HasSlots y.slots → (is_proposed y.phase ≡ true → ⊥) → ClientSpeaks (proposes_once_read c t y)
    once_read y k n =
        on_cond ClientSpeaks (is_committing y.phase && not (waits_for_read y.slots)) (proposes c t y) (client_stays y) (λ _. proposing y k n) (λ _. stays y (changed y y.slots k n))

    completing : (s : Slot) (grants : List Grant) → HasSlot s → AllByRecursion HasGrant grants → (is_proposed x.phase ≡ true → ⊥) → ClientSpeaks (completes c t x s grants)
    completing s grants own all n =
        let set = has_slot_set x.slots (completed s grants) (slots_of x h) (record { key = own.key; write = own.write; read = best_is grants all }) in
        let act = once_read (with_slots x (slot_set x.slots (completed s grants))) set n in
        on_maybe ClientSpeaks (proposes_once_read c t (with_slots x (slot_set x.slots (completed s grants)))).refused _ (client_refuses x)
        (λ _. record { sends = to_both (cancels c t s.key grants) (proposes_once_read c t (with_slots x (slot_set x.slots (completed s grants)))).sends (to_others (granted_by grants) s.key (ReadCancel t s.key) (tx, own.key)) act.sends; after = act.after })
        (λ why _. refuses x why h)

    granting : (k : List ℕ) (g : Grant) → HasGrant g → ClientSpeaks (on_granted c t x k g)
    granting k g own =
        on_cond ClientSpeaks (reads_on x.phase) _ (client_stays x)
        (λ on. on_maybe ClientSpeaks (slot_of x.slots k) (client_stays x) _ (λ _. stays x h)
        (λ s is. on_cond ClientSpeaks (wants_grant s g.dc) (takes_grant c t x s g) (client_stays x) (λ _. taking s (slot_has x.slots k s h.slots is) (reading_on x.phase on)) (λ _. stays x h)))
        (λ _. stays x h)
      where
        taking : (s : Slot) → HasSlot s → (is_proposed x.phase ≡ true → ⊥) → ClientSpeaks (takes_grant c t x s g)
        taking s p n =
            let all = all_both HasGrant (grants_of s.read) (g ∷ []) (grants_are s.read p.read) (own, tt) in
            on_cond ClientSpeaks (is_quorum c (granted_by (with_grant s g))) (completes c t x s (with_grant s g)) _
            (λ _. completing s (with_grant s g) p all n)
            (λ _. stays _ (changed x _ (has_slot_set x.slots (with_read s (UnderWay (prints_of s.read) (with_grant s g))) (slots_of x h) (record { key = p.key; write = p.write; read = all })) n))

    -- VOTES, REFUSALS, OUTCOMES
    learning : (y : Client) (o : Decision) → HasSlots y.slots → ClientSpeaks (client_learns t y o)
    learning y o k = prints _ _ (record { few = k.few; apart = k.apart; slots = k.slots; lasting = λ p. absurd (cc) })

    voted : (b d : ℕ) (o : Decision) → ClientSpeaks (on_voted c t x b d o)
    voted b d o =
        on_cond ClientSpeaks (is_over x.phase) (client_stays x) _ (λ _. stays x h)
        (λ _. on_cond ClientSpeaks (is_decided_by c x.votes b d o) _ _
        (λ _. learning (with_vote x b d o) o (slots_of x h))
        (λ _. stays _ (record { few = h.few; apart = h.apart; slots = h.slots; lasting = h.lasting })))

    decided : (o : Decision) → ClientSpeaks (on_decided t x o)
    decided o = on_cond ClientSpeaks (is_over x.phase) (client_stays x) _ (λ _. stays x h) (λ _. learning x o (slots_of x h))

    refused : (b d : ℕ) (reason : Reason) → ClientSpeaks (on_refused c t x b d reason)
    refused b d reason =
        on_cond ClientSpeaks (counts_refusal x b d) _ (client_stays x)
        (λ _. record {
          sends = on_cond HasPosts (is_quorum c (added nat_cmp x.refusals d) && not (is_quorum c x.refusals)) _ [] (λ _. has_abandon) (λ _. tt);
          after = record { few = h.few; apart = h.apart; slots = h.slots; lasting = h.lasting };
        })
        (λ _. stays x h)

    hearing : (m : Msg) → HasMsg m → ClientSpeaks (client_row c t x m)
    hearing (Granted u k d version value) own =
        on_cond ClientSpeaks ((u == t) && is_dc c d) _ (client_stays x) (λ _. granting k (record { dc = d; version = version; value = value }) own.3.0) (λ _. stays x h)
    hearing (Voted u b d o) own = on_cond ClientSpeaks ((u == t) && is_dc c d) _ (client_stays x) (λ _. voted b d o) (λ _. stays x h)
    hearing (Refused u b d reason) own = on_cond ClientSpeaks ((u == t) && is_dc c d) _ (client_stays x) (λ _. refused b d reason) (λ _. stays x h)
    hearing (Decided u o) own = on_cond ClientSpeaks (u == t) _ (client_stays x) (λ _. decided o) (λ _. stays x h)
    hearing (ReadAsk u k) own = stays x h
    hearing (ReadCancel u k) own = stays x h
    hearing (Propose u b o) own = stays x h
    hearing (Prepare u part) own = stays x h
    hearing (Prepared u sh answer) own = stays x h
    hearing (Ask u b) own = stays x h
    hearing (Promise u b d report) own = stays x h
    hearing (Finish u o) own = stays x h
    hearing (Abandon u) own = stays x h
    hearing (CatchAsk place) own = stays x h
    hearing (CatchPage d place page) own = stays x h

    by_row : (cause : ClientCause) → HasClientCause cause → refusal x cause ≡ None → ClientSpeaks (client_by_row c t x cause)
    by_row (Hears m) own is = hearing m own
    by_row (Reads k) own is = reading k own is
    by_row (Writes k value) own is = writing k value own.0 own.1 is
    by_row Commits own is = committing is
    by_row (Cancels k) own is = cancelling k own is
    by_row Retries own is = retrying
    by_row Vanishes own is = vanishing

    pub speaks : (cause : ClientCause) → HasClientCause cause → ClientSpeaks (client_act c t x cause)
    speaks cause own = on_maybe ClientSpeaks (refusal x cause) (client_by_row c t x cause) (client_refuses x) (λ is. by_row cause own is) (λ why _. refuses x why h)

-- THE LAW
pub clients_speak : (c : Layout) → IsLayout c → (t : ℕ) → IsTxNumber t → (x : Client) → HasClient x → (cause : ClientCause) → HasClientCause cause → ClientSpeaks (client_act c t x cause)
clients_speak c hc t tx x h cause own = speaks c hc t tx x h cause own
