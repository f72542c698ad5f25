-- What is granted was asked, at the shard of its key.
use Rattle.std.proofs.Common.{◌≡◌, ℕ, List, [], ◌∷◌, ◌++◌, refl, sym, ◌∙◌, subst, false, Some, inl, inr, ⊎_elim}
use Rattle.std.specs.Ordering.{nat_cmp}
use Rattle.rc_ids.specs.Tables.{In, found, put, member}
use Rattle.rc_ids.specs.Cluster.{Layout, IsLayout, shard_of}
use Rattle.rc_ids.specs.Quorum.{QuorumLaws}
use Rattle.rc_ids.specs.declared.names.Party.{Party}
use Rattle.rc_msg.specs.declared.msg.Msg.{Msg}
use Rattle.rc_msg.specs.declared.msg.Msg.TheVariants.{ReadAsk, Granted}
use Rattle.rc_msg.specs.declared.msg.Envelope.{Envelope}
use Rattle.rc_record.specs.ShardState.{shard_applied}
use Rattle.rc_protocol.specs.Messages.{coordinator, shard_server, client_of}
use Rattle.rc_protocol.specs.Shard.{ShardVolatile, new_volatile as new_shard_volatile}
use Rattle.rc_protocol.specs.Coordinator.{CoordVolatile}
use Rattle.rc_protocol.specs.Client.{Client, Grant, Slot, new_client, granted_by}
use Rattle.rc_protocol.specs.Nodes.{CoordNode, ShardNode, applied, coord_after, shard_after, shard_stopped, shard_started}
use Rattle.rc_runs.specs.World.{envelopes, replaced, with_coord, with_shard, new_world}
use Rattle.rc_agreement.proofs.Cases.{some_is, never}
use Rattle.rc_agreement.proofs.Tables.{in_added, put_cases, set_cases}
use Rattle.rc_agreement.proofs.Places.{put_server}
use Rattle.rc_protocol.specs.Acts.{NodeCause, Came, ClientCause, Hears, Reads, Writes, Commits, Cancels, Retries, Vanishes, client_by_row}
use Rattle.rc_agreement.proofs.Scenes.{Scene, scene, at, shard_in, ThereIs, act_of, DueTo, shard_act_of, DueFor, served, acted, joined_by, Keeps}
use Rattle.rc_agreement.proofs.Said.{Said, said_more, said_in}
use Rattle.rc_agreement.proofs.Agreeing.{laws_at, ready_for}
use Rattle.rc_agreement.proofs.Learned.{new_server}
use Rattle.rc_agreement.proofs.Sends.{in_sent}
use Rattle.rc_serial_order.proofs.AskRows.{Asked, Grants, AskRow, ask_row}
use Rattle.rc_serial_order.proofs.CoordSays.{SaysSo, coord_says_so}
use Rattle.rc_serial_order.proofs.Slots.{Sound, GrantsIn, slots_kept}
use Rattle.rc_serial_order.proofs.ClientKeeps.{DrabTo, client_keeps}
use Rattle.rc_serial_order.proofs.Stored.{Stored, stored_kept}

abbrev pub Routes : Layout → List Envelope → Party → Msg → Type 0
Routes c sent to (Granted t k d v y) = (to ≡ client_of t) × Said sent (ReadAsk t k)
Routes c sent to (ReadAsk t k) = (d sh : ℕ) → to ≡ shard_server d sh → sh ≡ shard_of c k
Routes c sent to _ = Unit {0}

routes_on : (c : Layout) (sent more : List Envelope) (to : Party) (m : Msg) → Routes c sent to m → Routes c (sent ++ more) to m
routes_on c sent more to (Granted t k d v y) h = (h.0, said_more sent more (ReadAsk t k) h.1)
routes_on c sent more to (ReadAsk t k) h = h
routes_on c sent more to _ h = tt

-- t asked for the keys of which it has grants
abbrev pub AskedBy : List Envelope → ℕ → List Slot → Type 0
AskedBy sent t xs = Sound (λ k g. Said sent (ReadAsk t k)) (λ k v y. Said sent (ReadAsk t k)) xs

-- the logs of earlier lives name it not
abbrev pub IsNew : Scene → ℕ → Type 0
IsNew s t = member nat_cmp s.parties.start.named t ≡ false

pub record Asking (s : Scene) : Type 0 where
  pub says : (e : Envelope) → In e s.sent → Routes s.parties.layout s.sent e.to e.msg
  pub waits : (d sh : ℕ) (k : List ℕ) (t : ℕ) → In (k, t) (shard_in s d sh).volatile.waiting → (sh ≡ shard_of s.parties.layout k) × Said s.sent (ReadAsk t k)
  pub clients : (t : ℕ) (x : Client) → IsNew s t → found nat_cmp s.parties.clients t ≡ Some x → AskedBy s.sent t x.slots

asked_on : (sent more : List Envelope) (t : ℕ) (xs : List Slot) → AskedBy sent t xs → AskedBy (sent ++ more) t xs
asked_on sent more t xs h = record {
  each = λ x i. let k = h.each x i in record { grants = λ g j. said_more sent more _ (k.grants g j); done = λ v y e. said_more sent more _ (k.done v y e) };
  differ = h.differ;
}

-- SHARD SERVERS
module _ (s : Scene) (h : Asking s) (d sh : ℕ) (there : ThereIs s d sh) (k : NodeCause) (due : DueTo s d sh k) where
  pub asked : (q : List ℕ) (t : ℕ) → Asked (shard_in s d sh).volatile k q t → (sh ≡ shard_of s.parties.layout q) × Said s.sent (ReadAsk t q)
  asked q t a = ⊎_elim (λ i. h.waits d sh q t i)
      (λ (x : (from : Party) × (k ≡ Came from (ReadAsk t q))).
      let i = subst (DueTo s d sh) x.1 due in
      (h.says (record { from = x.0; to = shard_server d sh; msg = ReadAsk t q }) i d sh refl, said_in s.sent (record { from = x.0; to = shard_server d sh; msg = ReadAsk t q }) i)) a

  pub row : AskRow d (shard_in s d sh).durable (shard_in s d sh).volatile k (shard_act_of s d sh k)
  row = ask_row s.parties.layout d sh (shard_in s d sh).durable (shard_in s d sh).volatile k

  abbrev ms : List Envelope
  ms = envelopes (shard_server d sh) (shard_act_of s d sh k).sends

  says_new : (to : Party) (m : Msg) → Grants d (applied shard_applied (shard_in s d sh).durable (shard_act_of s d sh k).logs) (shard_in s d sh).volatile k to m → Routes s.parties.layout (s.sent ++ ms) to m
  says_new to (Granted t q e n y) g = (g.to_it, said_more s.sent ms (ReadAsk t q) (asked q t g.asked).1)
  says_new to (ReadAsk t q) g = absurd g
  says_new to _ g = tt

  pub shard_asking : Asking (served s d sh (shard_act_of s d sh k))
  shard_asking =
      record {
        says = λ e i. ⊎_elim
            (λ old. routes_on s.parties.layout s.sent ms e.to e.msg (h.says e old))
            (λ new. says_new e.to e.msg (row.says.each e.to e.msg new.0))
            (in_sent s.sent (shard_server d sh) (shard_act_of s d sh k).sends e i);
        waits = put_server (λ e eh (n : ShardNode). (q : List ℕ) (t : ℕ) → In (q, t) n.volatile.waiting → (eh ≡ shard_of s.parties.layout q) × Said (s.sent ++ ms) (ReadAsk t q)) s.parties d sh (shard_in s d sh) (shard_after (shard_in s d sh) (shard_act_of s d sh k)) there
            (λ e eh _ q t i. let w = h.waits e eh q t i in (w.0, said_more s.sent ms (ReadAsk t q) w.1))
            (λ q t i. let w = asked q t (row.waits q t i) in (w.0, said_more s.sent ms (ReadAsk t q) w.1));
        clients = λ t x new is. asked_on s.sent ms t x.slots (h.clients t x new is);
      }

quiet_shard : (s : Scene) → Asking s → (d sh : ℕ) → ThereIs s d sh → (x : ShardNode) → x.volatile ≡ new_shard_volatile → Asking (record { parties = with_shard s.parties d sh x; sent = s.sent })
quiet_shard s h d sh there x e =
    record {
      says = h.says;
      waits = put_server (λ e eh (n : ShardNode). (q : List ℕ) (t : ℕ) → In (q, t) n.volatile.waiting → (eh ≡ shard_of s.parties.layout q) × Said s.sent (ReadAsk t q)) s.parties d sh (shard_in s d sh) x there (λ e eh _. h.waits e eh)
          (λ q t i. absurd (subst (λ (v : ShardVolatile). In (q, t) v.waiting) e i));
      clients = h.clients;
    }

-- COORDINATORS AND CLIENTS
so_routes : (c k : Layout) (d : ℕ) (sent : List Envelope) (to : Party) (m : Msg) → (v : CoordVolatile) → SaysSo k d v to m → Routes c sent to m
so_routes c k d sent to (Granted t q e n y) v h = absurd h
so_routes c k d sent to (ReadAsk t q) v h = absurd h
so_routes c k d sent to _ v h = tt

mild_routes : (c : Layout) (sent : List Envelope) (to : Party) (m : Msg) → DrabTo c to m → Routes c sent to m
mild_routes c sent to (Granted t q d v y) h = absurd h
mild_routes c sent to (ReadAsk t q) h = λ e eh is. (let f : shard_server h.0 (shard_of c q) ≡ shard_server e eh = sym h.1 ∙ is in let n : shard_of c q ≡ eh = (cc) in sym n)
mild_routes c sent to _ h = tt

coord_asking : (s : Scene) → Asking s → (d : ℕ) (k : NodeCause) (x : CoordNode) → Asking (record { parties = with_coord s.parties d x (act_of s d k).logs; sent = s.sent ++ envelopes (coordinator d) (act_of s d k).sends })
coord_asking s h d k x =
    let ms : List Envelope = envelopes (coordinator d) (act_of s d k).sends in
    record {
      says = λ e i. ⊎_elim
          (λ old. routes_on s.parties.layout s.sent ms e.to e.msg (h.says e old))
          (λ new. so_routes s.parties.layout s.parties.layout d (s.sent ++ ms) e.to e.msg (act_of s d k).after ((coord_says_so s.parties.layout d (at s d).durable (at s d).volatile k).says.each e.to e.msg new.0))
          (in_sent s.sent (coordinator d) (act_of s d k).sends e i);
      waits = λ e eh q t i. let w = h.waits e eh q t i in (w.0, said_more s.sent ms (ReadAsk t q) w.1);
      clients = λ t y new is. asked_on s.sent ms t y.slots (h.clients t y new is);
    }

pub in_granted : (gs : List Grant) (d : ℕ) → In d (granted_by gs) → (g : Grant) × In g gs × (g.dc ≡ d)
in_granted [] d i = absurd i
in_granted (g ∷ gs) d i = ⊎_elim (λ (e : d ≡ g.dc). (g, inl refl, sym e)) (λ j. let r = in_granted gs d j in (r.0, inr r.1, r.2)) (in_added d g.dc (granted_by gs) i)

module _ (s : Scene) (laws : QuorumLaws s.parties.layout) (h : Asking s) (u : ℕ) (x : Client) (k : ClientCause) (is : found nat_cmp s.parties.clients u ≡ Some x) (due : DueFor s u x k) where
  grants_in : (k : ClientCause) → DueFor s u x k → GrantsIn (λ q g. Said s.sent (ReadAsk u q)) k
  grants_in (Hears m) b = told m b
    where
      told : (m : Msg) → DueFor s u x (Hears m) → GrantsIn (λ q g. Said s.sent (ReadAsk u q)) (Hears m)
      told (Granted t q d v y) b =
          let r = h.says (record { from = b.0; to = client_of u; msg = Granted t q d v y }) b.1 in
          let f : client_of u ≡ client_of t = r.0 in let n : u ≡ t = (cc) in
          subst (λ n. Said s.sent (ReadAsk n q)) (sym n) r.1
      told _ b = tt
  grants_in (Reads q) b = tt
  grants_in (Writes q value) b = tt
  grants_in Commits b = tt
  grants_in (Cancels q) b = tt
  grants_in Retries b = tt
  grants_in Vanishes b = tt

  sound : IsNew s u → AskedBy s.sent u (client_by_row s.parties.layout u x k).after.slots
  sound new = slots_kept s.parties.layout (λ q g. Said s.sent (ReadAsk u q)) (λ q v y. Said s.sent (ReadAsk u q))
      (λ q gs enough each. let m = laws.share (granted_by gs) (granted_by gs) enough enough in let g = in_granted gs m.0 m.1 in each g.0 g.1)
      u x (h.clients u x new is) k (grants_in k due)

  pub client_asking : Asking (acted s u (client_by_row s.parties.layout u x k))
  client_asking =
      let ms : List Envelope = envelopes (client_of u) (client_by_row s.parties.layout u x k).sends in
      let y : Client = (client_by_row s.parties.layout u x k).after in
      record {
        says = λ e i. ⊎_elim
            (λ old. routes_on s.parties.layout s.sent ms e.to e.msg (h.says e old))
            (λ new. mild_routes s.parties.layout (s.sent ++ ms) e.to e.msg ((client_keeps s.parties.layout u x k (ready_for s u x k due)).drab.each e.to e.msg new.0))
            (in_sent s.sent (client_of u) (client_by_row s.parties.layout u x k).sends e i);
        waits = λ e eh q t i. let w = h.waits e eh q t i in (w.0, said_more s.sent ms (ReadAsk t q) w.1);
        clients = λ t z new i. ⊎_elim
            (λ (e : (t ≡ u) × (found nat_cmp (replaced s.parties.clients u y) t ≡ Some y)).
            let f : y ≡ z = some_is y z (sym e.1 ∙ i) in
            subst (λ (q : ℕ × Client). AskedBy (s.sent ++ ms) q.0 q.1.slots) (λ j. (sym e.0 j, f j)) (asked_on s.sent ms u y.slots (sound (subst (IsNew s) e.0 new))))
            (λ (e : (t ≡ u → ⊥) × (found nat_cmp (replaced s.parties.clients u y) t ≡ found nat_cmp s.parties.clients t)). asked_on s.sent ms t z.slots (h.clients t z new (sym e.1 ∙ i)))
            (set_cases t u y x s.parties.clients is);
      }

begin_asking : (s : Scene) (u : ℕ) → Asking s → Asking (joined_by s u)
begin_asking s u h =
    record {
      says = h.says;
      waits = h.waits;
      clients = λ t y new i. ⊎_elim
          (λ (e : (t ≡ u) × (found nat_cmp (put nat_cmp s.parties.clients u new_client) t ≡ Some new_client)).
          let z : new_client ≡ y = some_is new_client y (sym e.1 ∙ i) in subst (λ (q : Client). AskedBy s.sent t q.slots) z (record { each = λ x i. absurd i; differ = tt }))
          (λ (e : (t ≡ u → ⊥) × (found nat_cmp (put nat_cmp s.parties.clients u new_client) t ≡ found nat_cmp s.parties.clients t)). h.clients t y new (sym e.1 ∙ i))
          (put_cases t u new_client s.parties.clients);
    }

-- ALL MOVES
abbrev pub Curious : Layout → Scene → Type 0
Curious c s = Stored c s × Asking s

pub curious_kept : (c : Layout) → IsLayout c → Keeps (Curious c)
curious_kept c lay =
    let k = stored_kept c lay in
    record {
      turns = λ s d a there due p. (k.turns s d a there due p.0, coord_asking s p.1 d a (coord_after (at s d) (act_of s d a)));
      stops = λ s d r there half p. (k.stops s d r there half p.0, record { says = p.1.says; waits = p.1.waits; clients = p.1.clients });
      starts = λ s d there p. (k.starts s d there p.0, record { says = p.1.says; waits = p.1.waits; clients = p.1.clients });
      serves = λ s d sh a there due p. (k.serves s d sh a there due p.0, shard_asking s p.1 d sh there a due);
      halts = λ s d sh r there half p. (k.halts s d sh r there half p.0, quiet_shard s p.1 d sh there (shard_stopped (shard_in s d sh) r) refl);
      wakes = λ s d sh there p. (k.wakes s d sh there p.0, quiet_shard s p.1 d sh there (shard_started (shard_in s d sh).log) refl);
      begins = λ s u new p. (k.begins s u new p.0, begin_asking s u p.1);
      clients = λ s u x a is due p. (k.clients s u x a is due p.0, client_asking s (laws_at c lay 0 s (p.0.0.0.0 0)) p.1 u x a is due);
    }

pub new_asking : (c : Layout) → Asking (scene (new_world c))
new_asking c =
    let s : Scene = scene (new_world c) in
    record {
      says = λ e i. absurd i;
      waits = λ d sh k t. subst (λ (n : ShardNode). In (k, t) n.volatile.waiting → (sh ≡ shard_of s.parties.layout k) × Said s.sent (ReadAsk t k)) (sym (new_server c d sh)) (λ i. absurd i);
      clients = λ t x new is. never x is;
    }
