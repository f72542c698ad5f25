-- The map that the logs of the start give explains the order, and every read served to its transactions in this life or an earlier one.
use Rattle.std.proofs.Common.{◌≡◌, ℕ, suc, ◌+◌, List, [], ◌∷◌, refl, sym, ap, ◌∙◌, subst, Option, Some, None, inl, inr, ⊎_elim}
use Rattle.std.proofs.lemmas.Bool.{eq-eqb}
use Rattle.std.specs.Ordering.{nat_cmp}
use Rattle.rc_ids.specs.Tables.{In, found}
use Rattle.rc_ids.specs.Cluster.{Layout, IsLayout}
use Rattle.rc_body.specs.declared.entry.Entry.{Entry}
use Rattle.rc_body.specs.declared.decision.Decision.TheVariants.{Commit}
use Rattle.rc_protocol.specs.Client.{Client, Slot, Complete, version_read, entry_of, body_of}
use Rattle.rc_serial.specs.OneMap.{Map, Explains, base, body_applied, wrong_entry, first_wrong}
use Rattle.rc_record.specs.ShardState.{version_at}
use Rattle.rc_runs.specs.World.{World}
use Rattle.rc_claims.specs.Outcomes.{ServedEver, IsSerial}
use Rattle.rc_agreement.proofs.PlainLives.{IsPlainLife}
use Rattle.rc_agreement.proofs.Cases.{some_is}
use Rattle.rc_agreement.proofs.Tables.{in_map, in_left, in_right}
use Rattle.rc_agreement.proofs.Scenes.{Scene, scene}
use Rattle.rc_agreement.proofs.Agreeing.{laws_at}
use Rattle.rc_agreement.proofs.Ghosts.{with_ghosts, Haunted}
use Rattle.rc_agreement.proofs.Lists.{map_in}
use Rattle.rc_serial_order.proofs.Means.{Wrote, learned_proposal}
use Rattle.rc_serial_order.proofs.Slots.{Differ}
use Rattle.rc_serial_order.proofs.Stored.{Stored}
use Rattle.rc_serial_order.proofs.Steps.{Steps, count}
use Rattle.rc_serial_order.proofs.Bodies.{bodies}
use Rattle.rc_serial_order.proofs.Explained.{Apart, AllApart, Reads, Sourced, explained}
use Rattle.rc_serial_order.proofs.Serials.{order_of, Serial, all_learned, learned_ordered}
use Rattle.rc_serial_order.proofs.Base.{bodies_more, steps_before, steps_after, base_counts, base_newest, base_above}
use Rattle.rc_serial_order.proofs.Histories.{History, Gone, past_of, life_history}

-- a read that is complete at t's client
pub record ReadIn (s : Scene) (t : ℕ) (k : List ℕ) (version : ℕ) (value : Option (List ℕ)) : Type 0 where
  pub client : Client
  pub is : found nat_cmp s.parties.clients t ≡ Some client
  pub slot : Slot
  pub among : In slot client.slots
  pub key : slot.key ≡ k
  pub read : slot.read ≡ Complete version value

differ_apart : (xs : List Slot) → Differ xs → Apart (body_of xs)
differ_apart [] h = tt
differ_apart (x ∷ xs) h = ((λ f i e. let z = in_map entry_of f xs i in h.0 z.0 z.1 (e ∙ ap (λ (q : Entry). q.key) (sym z.2))), differ_apart xs h.1)

module _ (c : Layout) (lay : IsLayout c) (past : List (ℕ × List Entry)) (s : Scene) (p : Stored c s) (h : Serial past s) where
  abbrev all : List (ℕ × List Entry)
  all = order_of past s

  -- the client of a committed transaction
  client_for : (t : ℕ) (x : List Entry) → In (t, x) all → (y : Client) × (found nat_cmp s.parties.clients t ≡ Some y) × (x ≡ body_of y.slots)
  client_for t x i =
      let l = all_learned c lay s p past h t x i in
      let m = learned_proposal c t s (p.0.0.0 t) (laws_at c lay t s (p.0.0.0 t)) (Commit x) l in
      let y = p.1.bodies t (Commit x) ((p.0.0.0 t).root m.0 x m.1) in
      let same : Commit x ≡ Commit (body_of y.0.slots) = y.3 in
      (y.0, y.1, (let e : x ≡ body_of y.0.slots = (cc) in e))

  apart_of : (t : ℕ) (x : List Entry) → In (t, x) all → Apart x
  apart_of t x i = let y = client_for t x i in subst Apart (sym y.2) (differ_apart y.0.slots (p.1.clients t y.0 y.1).differ)

  all_apart : (o : List (ℕ × List Entry)) → ((t : ℕ) (x : List Entry) → In (t, x) o → In (t, x) all) → AllApart (bodies o)
  all_apart [] sub = tt
  all_apart (e ∷ o) sub = (apart_of e.0 e.1 (sub e.0 e.1 (inl refl)), all_apart o (λ t x i. sub t x (inr i)))

  sourced : Sourced all (ReadIn s)
  sourced = record {
    entry = λ t x i k v y r.
        let z = client_for t x i in
        let same : r.client ≡ z.0 = some_is r.client z.0 (sym r.is ∙ z.1) in
        let m = map_in entry_of r.slot z.0.slots (subst (λ (q : Client). In r.slot q.slots) same r.among) in
        (entry_of r.slot, subst (In (entry_of r.slot)) (sym z.2) m, r.key, ap version_read r.read);
    from = λ t x i k v y r.
        let w = ((p.1.clients t r.client r.is).each r.slot r.among).done v y r.read in
        ⊎_elim inl
        (λ (a : Wrote s r.slot.key v y). inr (a.body, a.entry, map_in (λ (e : ℕ × List Entry). e.1) (a.tx, a.body) all (learned_ordered c lay s p past h a.tx a.body a.chosen), a.among, a.key ∙ r.key, a.version, a.write, a.some)) w;
  }

  -- what the logs chose is what came before
  pub explains_order : Explains (base s.parties.start.committed) s.parties.committed (ReadIn s)
  explains_order =
      let apart = all_apart all (λ t x i. i) in
      let later : (t : ℕ) (x : List Entry) → In (t, x) s.parties.committed → In (t, x) all = λ t x i. in_right (t, x) past s.parties.committed i in
      explained all (ReadIn s) sourced h.explains apart s.parties.committed later (all_apart s.parties.committed later)
      (λ k. 0 + count k (bodies past))
      (steps_after (λ _. 0) (bodies past) (bodies s.parties.committed) (subst (Steps (λ _. 0)) (bodies_more past s.parties.committed) h.explains))
      (base s.parties.start.committed)
      (base_counts past s.parties.start.committed h.into h.from (steps_before (λ _. 0) (bodies past) (bodies s.parties.committed) (subst (Steps (λ _. 0)) (bodies_more past s.parties.committed) h.explains)))
      (base_newest past s.parties.start.committed h.into h.from all (λ t x i. in_left (t, x) past s.parties.committed i) h.explains apart)
      (base_above past s.parties.start.committed h.into h.from)

-- fewer reads are explained too
pub fewer : (m : Map) (o : List (ℕ × List Entry)) (R S : Reads) → ((t : ℕ) (k : List ℕ) (v : ℕ) (y : Option (List ℕ)) → S t k v y → R t k v y) → Explains m o R → Explains m o S
fewer m [] R S h e = tt
fewer m (x ∷ o) R S h e = (e.0, (λ k v y r. e.1 k v y (h x.0 k v y r)), fewer (body_applied m x.1) o R S h e.2)

module _ (c : Layout) (lay : IsLayout c) (earlier : List World) (w : World) (life : IsPlainLife c earlier w) where
  -- a read served in this life or an earlier one stands at a client that is there, or among the ghosts
  served : (h : Haunted (Gone earlier) (History c (past_of earlier)) (scene w)) (t : ℕ) (k : List ℕ) (v : ℕ) (y : Option (List ℕ)) → ServedEver earlier w t k v y → ReadIn (with_ghosts (scene w) h.ghost.clients h.ghost.sent) t k v y
  served h t k v y (inl r) = record { client = r.client; is = h.ghost.known t r.client r.is; slot = r.slot; among = r.among; key = r.key; read = r.read }
  served h t k v y (inr r) =
      let g = h.gone t r.3.client (r.0, r.1, r.2, r.3.is) in
      record { client = r.3.client; is = g.1; slot = r.3.slot; among = r.3.among; key = r.3.key; read = r.3.read }

  pub one_map_explains : IsSerial (base w.parties.start.committed) earlier w
  one_map_explains =
      let h = life_history c lay earlier w life in
      let s : Scene = with_ghosts (scene w) h.ghost.clients h.ghost.sent in
      fewer (base w.parties.start.committed) w.parties.committed (ReadIn s) (ServedEver earlier w) (served h) (explains_order c lay (past_of earlier) s h.ghost.holds.0.0 h.ghost.holds.1)

-- WHAT IS EXPLAINED has no read that is wrong
wrong_none : (m : Map) (place : ℕ) (es : List Entry) → ((e : Entry) → In e es → e.version ≡ version_at m e.key) → wrong_entry m place es ≡ None
wrong_none m place [] h = refl
wrong_none m place (e ∷ es) h = let is = eq-eqb e.version (version_at m e.key) (h e (inl refl)) in rw is (wrong_none m place es (λ f i. h f (inr i)))

none_wrong : (m : Map) (place : ℕ) (o : List (ℕ × List Entry)) (R : Reads) → Explains m o R → first_wrong m place o ≡ None
none_wrong m place [] R h = refl
none_wrong m place (x ∷ o) R h = let none = wrong_none m place x.1 h.0 in rw none (none_wrong (body_applied m x.1) (suc place) o R h.2)

pub no_read_is_wrong : (c : Layout) → IsLayout c → (earlier : List World) (w : World) → IsPlainLife c earlier w → first_wrong (base w.parties.start.committed) 0 w.parties.committed ≡ None
no_read_is_wrong c lay earlier w life = none_wrong (base w.parties.start.committed) 0 w.parties.committed (ServedEver earlier w) (one_map_explains c lay earlier w life)
