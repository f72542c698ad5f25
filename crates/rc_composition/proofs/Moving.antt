-- A party's deed changes that party alone.
use Rattle.std.proofs.Common.{◌≡◌, ℕ, List, refl, sym, ap, Option, Some, None, inl, inr}
use Rattle.std.specs.Ordering.{nat_cmp}
use Rattle.rc_ids.specs.Tables.{found, maybe}
use Rattle.rc_ids.specs.Cluster.{Layout}
use Rattle.rc_ids.specs.declared.names.NodeId.TheVariants.{Coord, Shard}
use Rattle.rc_ids.specs.declared.names.Party.{Party}
use Rattle.rc_ids.specs.declared.names.Party.TheVariants.{Node, Client as ClientOf}
use Rattle.rc_net.specs.Network.{Message}
use Rattle.rc_msg.specs.declared.msg.Envelope.{Envelope}
use Rattle.rc_record.specs.declared.record.Record.{Record}
use Rattle.rc_protocol.specs.Acts.{ClientCause}
use Rattle.rc_protocol.specs.Client.{Client, ClientAct}
use Rattle.rc_protocol.specs.Coordinator.{CoordAct}
use Rattle.rc_protocol.specs.Shard.{ShardAct}
use Rattle.rc_protocol.specs.Nodes.{CoordNode, ShardNode, coord_after, shard_after, coord_stopped, shard_stopped}
use Rattle.rc_runs.specs.declared.event.Event.{Event}
use Rattle.rc_runs.specs.declared.event.Event.TheVariants.{Begin, Read, Write, Commit, Cancel, Retry, Vanish, Take, Catch, Deliver, Lose, Crash, CrashAt, Restart}
use Rattle.rc_runs.specs.World.{Parties, coord_at, shard_at, Deed, Idle, ByClient, ByCoord, ByShard, CoordStops, ShardStops, parties_after, Course, Goes, Stops, along}
use Rattle.rc_runs.specs.Refusals.{Happening}
use Rattle.rc_agreement.proofs.Cases.{on_cond, on_maybe}
use Rattle.rc_agreement.proofs.Tables.{set_cases}
use Rattle.rc_agreement.proofs.Places.{coord_set, coord_set_other, shard_set, shard_set_other}
use Rattle.rc_composition.specs.Parts.{OfCoord, OfShard, OfClient, NoPart, part_in, part_after, envelope_at, hears, starts_again, is_told, own_deed}
use Rattle.rc_composition.specs.Moves.{MovesAlone}

-- a deed of the party, which is there
data Acts (w : Parties) : Party → Deed → Type 0 where
  Stays : (p : Party) → Acts w p Idle
  ClientActs : (t : ℕ) (x : Client) (act : ClientAct) → found nat_cmp w.clients t ≡ Some x → Acts w (ClientOf t) (ByClient t act)
  CoordActs : (d : ℕ) (x y : CoordNode) (act : CoordAct) → coord_at w d ≡ Some x → Acts w (Node (Coord d)) (ByCoord d y act)
  ShardActs : (d s : ℕ) (x y : ShardNode) (act : ShardAct) → shard_at w d s ≡ Some x → Acts w (Node (Shard d s)) (ByShard d s y act)
  CoordEnds : (d : ℕ) (x y : CoordNode) (kept : Option Record) → coord_at w d ≡ Some x → Acts w (Node (Coord d)) (CoordStops d y kept)
  ShardEnds : (d s : ℕ) (x y : ShardNode) (kept : Option Record) → shard_at w d s ≡ Some x → Acts w (Node (Shard d s)) (ShardStops d s y kept)

-- WHAT A PARTY DOES BY ITSELF IS ITS DEED
hears_acts : (w : Parties) (c : Layout) (e : Envelope) (p : Party) → Acts w p (hears c (part_in w p) e)
hears_acts w c e (Node (Coord d)) = go (coord_at w d) refl
  where
    go : (o : Option CoordNode) → coord_at w d ≡ o → Acts w (Node (Coord d)) (hears c (maybe o NoPart (OfCoord d)) e)
    go None is = Stays (Node (Coord d))
    go (Some x) is = on_cond (Acts w (Node (Coord d))) x.up _ _ (λ _. CoordActs d x x _ is) (λ _. Stays (Node (Coord d)))
hears_acts w c e (Node (Shard d s)) = go (shard_at w d s) refl
  where
    go : (o : Option ShardNode) → shard_at w d s ≡ o → Acts w (Node (Shard d s)) (hears c (maybe o NoPart (OfShard d s)) e)
    go None is = Stays (Node (Shard d s))
    go (Some x) is = on_cond (Acts w (Node (Shard d s))) x.up _ _ (λ _. ShardActs d s x x _ is) (λ _. Stays (Node (Shard d s)))
hears_acts w c e (ClientOf t) = go (found nat_cmp w.clients t) refl
  where
    go : (o : Option Client) → found nat_cmp w.clients t ≡ o → Acts w (ClientOf t) (hears c (maybe o NoPart (OfClient t)) e)
    go None is = Stays (ClientOf t)
    go (Some x) is = ClientActs t x _ is

starts_acts : (w : Parties) (c : Layout) (p : Party) → Acts w p (starts_again c (part_in w p))
starts_acts w c (Node (Coord d)) = go (coord_at w d) refl
  where
    go : (o : Option CoordNode) → coord_at w d ≡ o → Acts w (Node (Coord d)) (starts_again c (maybe o NoPart (OfCoord d)))
    go None is = Stays (Node (Coord d))
    go (Some x) is = CoordActs d x _ _ is
starts_acts w c (Node (Shard d s)) = go (shard_at w d s) refl
  where
    go : (o : Option ShardNode) → shard_at w d s ≡ o → Acts w (Node (Shard d s)) (starts_again c (maybe o NoPart (OfShard d s)))
    go None is = Stays (Node (Shard d s))
    go (Some x) is = ShardActs d s x _ _ is
starts_acts w c (ClientOf t) = go (found nat_cmp w.clients t)
  where
    go : (o : Option Client) → Acts w (ClientOf t) (starts_again c (maybe o NoPart (OfClient t)))
    go None = Stays (ClientOf t)
    go (Some x) = Stays (ClientOf t)

told_acts : (w : Parties) (c : Layout) (p : Party) (cause : ClientCause) → Acts w p (is_told c (part_in w p) cause)
told_acts w c (Node (Coord d)) cause = go (coord_at w d)
  where
    go : (o : Option CoordNode) → Acts w (Node (Coord d)) (is_told c (maybe o NoPart (OfCoord d)) cause)
    go None = Stays (Node (Coord d))
    go (Some x) = Stays (Node (Coord d))
told_acts w c (Node (Shard d s)) cause = go (shard_at w d s)
  where
    go : (o : Option ShardNode) → Acts w (Node (Shard d s)) (is_told c (maybe o NoPart (OfShard d s)) cause)
    go None = Stays (Node (Shard d s))
    go (Some x) = Stays (Node (Shard d s))
told_acts w c (ClientOf t) cause = go (found nat_cmp w.clients t) refl
  where
    go : (o : Option Client) → found nat_cmp w.clients t ≡ o → Acts w (ClientOf t) (is_told c (maybe o NoPart (OfClient t)) cause)
    go None is = Stays (ClientOf t)
    go (Some x) is = ClientActs t x _ is

own_acts : (w : Parties) (c : Layout) (sent : List Message) (p : Party) (e : Event) → Acts w p (own_deed c sent (part_in w p) e)
own_acts w c sent p (Deliver n) = on_maybe (Acts w p) (envelope_at sent n) _ _ (λ _. Stays p) (λ e _. hears_acts w c e p)
own_acts w c sent p (Restart node) = starts_acts w c p
own_acts w c sent p (Read t k) = told_acts w c p _
own_acts w c sent p (Write t k value) = told_acts w c p _
own_acts w c sent p (Commit t) = told_acts w c p _
own_acts w c sent p (Cancel t k) = told_acts w c p _
own_acts w c sent p (Vanish t) = told_acts w c p _
own_acts w c sent p (Begin t) = Stays p
own_acts w c sent p (Retry t) = Stays p
own_acts w c sent p (Take d t) = Stays p
own_acts w c sent p (Catch node) = Stays p
own_acts w c sent p (Lose n) = Stays p
own_acts w c sent p (Crash node) = Stays p
own_acts w c sent p (CrashAt node k pick) = Stays p

along_acts : (w : Parties) (p : Party) (course : Course) (d : Deed) → Acts w p d → Acts w p (along course d)
along_acts w p Goes d a = a
along_acts w p (Stops kept) d (Stays q) = Stays q
along_acts w p (Stops kept) d (ClientActs t x act is) = ClientActs t x act is
along_acts w p (Stops kept) d (CoordActs e x y act is) = on_maybe (Acts w (Node (Coord e))) act.logs _ _ (λ _. CoordActs e x y act is) (λ r _. CoordEnds e x y _ is)
along_acts w p (Stops kept) d (ShardActs e s x y act is) = on_maybe (Acts w (Node (Shard e s))) act.logs _ _ (λ _. ShardActs e s x y act is) (λ r _. ShardEnds e s x y _ is)
along_acts w p (Stops kept) d (CoordEnds e x y k is) = CoordEnds e x y k is
along_acts w p (Stops kept) d (ShardEnds e s x y k is) = ShardEnds e s x y k is

-- WHAT IT CHANGES
client_set : (w : Parties) (t : ℕ) (x : Client) (act : ClientAct) → found nat_cmp w.clients t ≡ Some x
    → part_in (parties_after w (ByClient t act)) (ClientOf t) ≡ OfClient t act.after
client_set w t x act is = elim (set_cases t t act.after x w.clients is) [ inl a ↦ ap (λ (o : Option Client). maybe o NoPart (OfClient t)) a.1 | inr b ↦ absurd (b.0 refl) ]

own_moved : (w : Parties) (p : Party) (d : Deed) → Acts w p d → part_in (parties_after w d) p ≡ part_after (part_in w p) d
own_moved w p d (Stays q) = refl
own_moved w p d (ClientActs t x act is) = client_set w t x act is
own_moved w p d (CoordActs e x y act is) = ap (λ (o : Option CoordNode). maybe o NoPart (OfCoord e)) (coord_set w e x (coord_after y act) act.logs is)
own_moved w p d (ShardActs e s x y act is) = ap (λ (o : Option ShardNode). maybe o NoPart (OfShard e s)) (shard_set w e s x (shard_after y act) is)
own_moved w p d (CoordEnds e x y kept is) = ap (λ (o : Option CoordNode). maybe o NoPart (OfCoord e)) (coord_set w e x (coord_stopped y kept) kept is)
own_moved w p d (ShardEnds e s x y kept is) = ap (λ (o : Option ShardNode). maybe o NoPart (OfShard e s)) (shard_set w e s x (shard_stopped y kept) is)

others_stay : (w : Parties) (p q : Party) (d : Deed) → Acts w p d → (p ≡ q → ⊥) → part_in (parties_after w d) q ≡ part_in w q
others_stay w p q d (Stays r) n = refl
others_stay w p (Node (Coord e)) d (ClientActs t x act is) n = refl
others_stay w p (Node (Shard e s)) d (ClientActs t x act is) n = refl
others_stay w p (ClientOf u) d (ClientActs t x act is) n =
    elim (set_cases u t act.after x w.clients is) [ inl a ↦ absurd (n (ap ClientOf (sym a.0))) | inr b ↦ ap (λ (o : Option Client). maybe o NoPart (OfClient u)) b.1 ]
others_stay w p (Node (Coord e)) d (CoordActs f x y act is) n =
    ap (λ (o : Option CoordNode). maybe o NoPart (OfCoord e)) (coord_set_other w f e x (coord_after y act) act.logs is (λ same. n (ap (λ (k : ℕ). Node (Coord k)) (sym same))))
others_stay w p (Node (Shard e s)) d (CoordActs f x y act is) n = refl
others_stay w p (ClientOf u) d (CoordActs f x y act is) n = refl
others_stay w p (Node (Coord e)) d (CoordEnds f x y kept is) n =
    ap (λ (o : Option CoordNode). maybe o NoPart (OfCoord e)) (coord_set_other w f e x (coord_stopped y kept) kept is (λ same. n (ap (λ (k : ℕ). Node (Coord k)) (sym same))))
others_stay w p (Node (Shard e s)) d (CoordEnds f x y kept is) n = refl
others_stay w p (ClientOf u) d (CoordEnds f x y kept is) n = refl
others_stay w p (Node (Coord e)) d (ShardActs f g x y act is) n = refl
others_stay w p (Node (Shard e s)) d (ShardActs f g x y act is) n =
    ap (λ (o : Option ShardNode). maybe o NoPart (OfShard e s)) (shard_set_other w f g e s x (shard_after y act) is (λ same. n (sym (λ i. Node (Shard (same.0 i) (same.1 i))))))
others_stay w p (ClientOf u) d (ShardActs f g x y act is) n = refl
others_stay w p (Node (Coord e)) d (ShardEnds f g x y kept is) n = refl
others_stay w p (Node (Shard e s)) d (ShardEnds f g x y kept is) n =
    ap (λ (o : Option ShardNode). maybe o NoPart (OfShard e s)) (shard_set_other w f g e s x (shard_stopped y kept) is (λ same. n (sym (λ i. Node (Shard (same.0 i) (same.1 i))))))
others_stay w p (ClientOf u) d (ShardEnds f g x y kept is) n = refl

pub moves_alone : (w : Parties) (c : Layout) (on_wire : List Message) (p : Party) (h : Happening) → MovesAlone w c on_wire p h
moves_alone w c on_wire p h =
    let acts = along_acts w p h.1 (own_deed c on_wire (part_in w p) h.0) (own_acts w c on_wire p h.0) in
    record { own = own_moved w p _ acts; others = λ q n. others_stay w p q _ acts n }
