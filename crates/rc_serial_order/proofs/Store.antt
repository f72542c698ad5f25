-- What is kept of parts, rows and reads, by moves of shard servers, coordinators and clients.
use Rattle.std.proofs.Common.{◌≡◌, ℕ, List, [], ◌∷◌, ◌++◌, refl, sym, ap, subst, Bool, true, Option, Some, None, ⊎_elim}
use Rattle.std.specs.Prelude.{is_some}
use Rattle.std.specs.Ordering.{nat_cmp}
use Rattle.rc_ids.specs.Tables.{In, Table, found}
use Rattle.rc_ids.specs.Cluster.{Layout}
use Rattle.rc_ids.specs.Quorum.{QuorumLaws}
use Rattle.rc_ids.specs.declared.names.Party.{Party}
use Rattle.rc_body.specs.Bodies.{touched}
use Rattle.rc_body.specs.declared.entry.Entry.{Entry}
use Rattle.rc_body.specs.declared.decision.Decision.{Decision}
use Rattle.rc_body.specs.declared.decision.Decision.TheVariants.{Commit}
use Rattle.rc_msg.specs.declared.msg.Msg.{Msg}
use Rattle.rc_msg.specs.declared.msg.Msg.TheVariants.{Granted, Propose, Prepare, Prepared}
use Rattle.rc_msg.specs.declared.msg.Envelope.{Envelope}
use Rattle.rc_record.specs.declared.record.Record.{Record}
use Rattle.rc_record.specs.declared.record.Record.TheVariants.{Prepared as PartPrepared, Accepted}
use Rattle.rc_record.specs.ShardState.{shard_applied}
use Rattle.rc_protocol.specs.Messages.{Posts, coordinator, shard_server, client_of}
use Rattle.rc_protocol.specs.Shard.{ShardVolatile}
use Rattle.rc_protocol.specs.Coordinator.{CoordAct, GatherState}
use Rattle.rc_protocol.specs.Client.{Client, Slot, body_of}
use Rattle.rc_protocol.specs.Nodes.{CoordNode, ShardNode, applied, logged}
use Rattle.rc_runs.specs.World.{envelopes, with_shard}
use Rattle.rc_agreement.proofs.Tables.{in_left}
use Rattle.rc_agreement.proofs.Places.{put_each, put_server, server_is, shard_set}
use Rattle.rc_agreement.proofs.Scenes.{Scene, at, shard_in, There, ThereIs}
use Rattle.rc_agreement.proofs.Said.{Said, Says, said_more, said_new}
use Rattle.rc_agreement.proofs.Sends.{EachTo, in_sent}
use Rattle.rc_agreement.proofs.Ballots.{Proposal, Vote, Late, Agreeing}
use Rattle.rc_agreement.proofs.Votes.{new_vote}
use Rattle.rc_agreement.proofs.CoordKeeps.{moved, node_after}
use Rattle.rc_agreement.proofs.Longer.{Longer, longer_moved}
use Rattle.rc_agreement.proofs.ShardNotes.{ShardNotes}
use Rattle.rc_serial_order.proofs.Means.{WasPrepared, Written, Means, Grows, prepared_on, written_on, means_on, Firm, firm_on, PartNote}
use Rattle.rc_serial_order.proofs.Firmness.{firm_after, row_written}
use Rattle.rc_serial_order.proofs.ShardSays.{Sure}
use Rattle.rc_serial_order.proofs.Slots.{Sound, Granting}

abbrev pub SoundIn : Scene → List Slot → Type 0
SoundIn s xs = Sound (Granting (Written s)) (Written s) xs

pub record Store (s : Scene) : Type 0 where
  pub says : (e : Envelope) → In e s.sent → Means s e.from e.to e.msg
  pub yes : (d t : ℕ) (g : GatherState) → In (t, g) (at s d).volatile.gathers → (sh : ℕ) → In sh g.yes → WasPrepared s d sh t
  pub votes : (t d b : ℕ) (x : List Entry) → Vote t s d b (Commit x) → (sh : ℕ) → In sh (touched s.parties.layout x) → WasPrepared s d sh t
  pub shards : (d sh : ℕ) → Firm s sh (shard_in s d sh).log (shard_in s d sh).durable
  pub clients : (t : ℕ) (x : Client) → found nat_cmp s.parties.clients t ≡ Some x → SoundIn s x.slots
  pub bodies : (t : ℕ) (o : Decision) → Proposal t s 0 o → (x : Client) × (found nat_cmp s.parties.clients t ≡ Some x) × Late x.phase × (o ≡ Commit (body_of x.slots))

pub sound_on : (s z : Scene) → Longer s z → (xs : List Slot) → SoundIn s xs → SoundIn z xs
sound_on s z g xs h = record {
  each = λ x i. let k = h.each x i in record {
    grants = λ b j. written_on s z g x.key b.version b.value (k.grants b j);
    done = λ v y e. written_on s z g x.key v y (k.done v y e);
  };
  differ = h.differ;
}

in_logged : (r : Option Record) (log : List Record) (x : Record) → In x log → In x (logged log r)
in_logged None log x h = h
in_logged (Some r) log x h = in_left x log (r ∷ []) h

-- SHARD SERVERS
module _ (c : Layout) (s : Scene) (inv : (u : ℕ) → Agreeing c u s) (q : QuorumLaws s.parties.layout) (h : Store s) (d sh : ℕ) (there : ThereIs s d sh) (up : Bool) (r : Option Record) (v : ShardVolatile) (ms : Posts)
    (part_note : PartNote s sh (shard_in s d sh).durable r) (notes : ShardNotes s sh r)
    (sure : EachTo (Sure d sh (applied shard_applied (shard_in s d sh).durable r)) ms)
    (modest : (t : ℕ) (o : Decision) → Says ms (Propose t 0 o) → ⊥) where
  abbrev x : ShardNode
  x = shard_in s d sh

  abbrev y : ShardNode
  y = record { up = up; log = logged x.log r; durable = applied shard_applied x.durable r; volatile = v }

  abbrev z : Scene
  z = record { parties = with_shard s.parties d sh y; sent = s.sent ++ envelopes (shard_server d sh) ms }

  grows : Grows s z
  grows =
      record {
        longer = record { layout = refl; votes = λ u e b o w. w };
        said = λ m w. said_more s.sent _ m w;
        logs = λ e eh p. put_server (λ e eh (n : ShardNode). In p (shard_in s e eh).log → In p n.log) s.parties d sh x y there (λ e eh _ w. w) (λ w. in_logged r x.log p w) e eh;
      }

  firm : Firm s sh y.log y.durable
  firm = firm_after c s inv q sh x.log x.durable r (h.shards d sh) part_note notes

  at_here : shard_in z d sh ≡ y
  at_here = server_is z.parties d sh y (shard_set s.parties d sh x y there)

  says_new : (to : Party) (m : Msg) → Sure d sh y.durable to m → Means z (shard_server d sh) to m
  says_new to (Prepared u n None) k = (d, ap (λ e. shard_server d e) (sym k.0), k.1, subst (λ e. WasPrepared z d e u) (sym k.0) (prepared (found nat_cmp y.durable.parts u) refl k.2))
    where
      prepared : (o : Option (List Entry)) → found nat_cmp y.durable.parts u ≡ o → is_some o ≡ true → WasPrepared z d sh u
      prepared None is e = absurd (cc)
      prepared (Some p) is e = record { part = p; logged = subst (λ (n : ShardNode). In (PartPrepared u p) n.log) (sym at_here) ((firm.held u p is).1) }
  says_new to (Prepare u p) k = absurd k
  says_new to (Granted u b e n w) k =
      written_on s z grows.longer b n w (subst (λ (a : ℕ × Option (List ℕ)). Written s b a.0 a.1) (λ i. (sym k.0 i, sym k.1 i)) (row_written s sh y.log y.durable firm b))
  says_new to _ k = tt

  pub shard_store : Store z
  shard_store =
      record {
        says = λ e i. ⊎_elim
            (λ old. means_on s z grows e.from e.to e.msg (h.says e old))
            (λ (new : In (e.to, e.msg) ms × (e.from ≡ shard_server d sh)). subst (λ p. Means z p e.to e.msg) (sym new.1) (says_new e.to e.msg (sure.each e.to e.msg new.0)))
            (in_sent s.sent (shard_server d sh) ms e i);
        yes = λ e u g is n i. prepared_on s z grows e n u (h.yes e u g is n i);
        votes = λ u e b w i n j. prepared_on s z grows e n u (h.votes u e b w i n j);
        shards = put_server (λ e eh (n : ShardNode). Firm z eh n.log n.durable) s.parties d sh x y there (λ e eh _. firm_on s z grows eh _ _ (h.shards e eh)) (firm_on s z grows sh y.log y.durable firm);
        clients = λ u w is. sound_on s z grows.longer w.slots (h.clients u w is);
        bodies = λ u o p. h.bodies u o (⊎_elim (λ old. old) (λ new. absurd (modest u o new)) (said_new s.sent (shard_server d sh) ms (Propose u 0 o) p));
      }

-- COORDINATORS
pub record Square (s : Scene) (d : ℕ) (a : CoordAct) : Type 0 where
  pub says : (to : Party) (m : Msg) → In (to, m) a.sends → Means s (coordinator d) to m
  pub yes : (t : ℕ) (g : GatherState) → In (t, g) a.after.gathers → (sh : ℕ) → In sh g.yes → WasPrepared s d sh t
  pub votes : (t b : ℕ) (x : List Entry) → a.logs ≡ Some (Accepted t b (Commit x)) → (sh : ℕ) → In sh (touched s.parties.layout x) → WasPrepared s d sh t
  pub fresh : (t : ℕ) (o : Decision) → Says a.sends (Propose t 0 o) → ⊥

pub coord_grows : (s : Scene) (d : ℕ) → There s d → (up : Bool) (a : CoordAct) → Grows s (moved s d up a)
coord_grows s d there up a = record { longer = longer_moved s d there up a; said = λ m w. said_more s.sent _ m w; logs = λ e eh p w. w }

pub coord_store : (s : Scene) (d : ℕ) → There s d → (up : Bool) (a : CoordAct) → Store s → Square s d a → Store (moved s d up a)
coord_store s d there up a h q =
    record {
      says = λ e i. ⊎_elim
          (λ old. means_on s z g e.from e.to e.msg (h.says e old))
          (λ (new : In (e.to, e.msg) a.sends × (e.from ≡ coordinator d)). means_on s z g e.from e.to e.msg (subst (λ p. Means s p e.to e.msg) (sym new.1) (q.says e.to e.msg new.0)))
          (in_sent s.sent (coordinator d) a.sends e i);
      yes = put_each (λ e (n : CoordNode). (u : ℕ) (k : GatherState) → In (u, k) n.volatile.gathers → (sh : ℕ) → In sh k.yes → WasPrepared z e sh u) s.parties d (at s d) (node_after s d up a) a.logs there
          (λ e _ u k is sh i. prepared_on s z g e sh u (h.yes e u k is sh i)) (λ u k is sh i. prepared_on s z g d sh u (q.yes u k is sh i));
      votes = λ u e b x. put_each (λ e (n : CoordNode). In (Accepted u b (Commit x)) n.log → (sh : ℕ) → In sh (touched s.parties.layout x) → WasPrepared z e sh u) s.parties d (at s d) (node_after s d up a) a.logs there
          (λ e _ i sh j. prepared_on s z g e sh u (h.votes u e b x i sh j))
          (λ i sh j. prepared_on s z g d sh u (⊎_elim (λ old. h.votes u d b x old sh j) (λ new. q.votes u b x new sh j) (new_vote a.logs (at s d).log (Accepted u b (Commit x)) i))) e;
      shards = λ e eh. firm_on s z g eh _ _ (h.shards e eh);
      clients = λ u x is. sound_on s z g.longer x.slots (h.clients u x is);
      bodies = λ u o p. h.bodies u o (⊎_elim (λ old. old) (λ new. absurd (q.fresh u o new)) (said_new s.sent (coordinator d) a.sends (Propose u 0 o) p));
    }
  where
    z : Scene
    z = moved s d up a

    g : Grows s z
    g = coord_grows s d there up a

-- CLIENTS
pub client_store : (s : Scene) → Store s → (cs : Table ℕ Client) (u : ℕ) (ms : Posts) → ((to : Party) (m : Msg) → In (to, m) ms → Means s (client_of u) to m)
    → ((t : ℕ) (x : Client) → found nat_cmp cs t ≡ Some x → SoundIn s x.slots)
    → ((t : ℕ) (o : Decision) → Said (s.sent ++ envelopes (client_of u) ms) (Propose t 0 o) → (x : Client) × (found nat_cmp cs t ≡ Some x) × Late x.phase × (o ≡ Commit (body_of x.slots)))
    → Store (record { parties = record s.parties { clients = cs }; sent = s.sent ++ envelopes (client_of u) ms })
client_store s h cs u ms says sound bodies =
    let z : Scene = record { parties = record s.parties { clients = cs }; sent = s.sent ++ envelopes (client_of u) ms } in
    let g : Grows s z = record { longer = record { layout = refl; votes = λ u e b o w. w }; said = λ m w. said_more s.sent _ m w; logs = λ e eh p w. w } in
    record {
      says = λ e i. ⊎_elim
          (λ old. means_on s z g e.from e.to e.msg (h.says e old))
          (λ (new : In (e.to, e.msg) ms × (e.from ≡ client_of u)). means_on s z g e.from e.to e.msg (subst (λ p. Means s p e.to e.msg) (sym new.1) (says e.to e.msg new.0)))
          (in_sent s.sent (client_of u) ms e i);
      yes = λ e t k is sh i. prepared_on s z g e sh t (h.yes e t k is sh i);
      votes = λ t e b w i sh j. prepared_on s z g e sh t (h.votes t e b w i sh j);
      shards = λ e eh. firm_on s z g eh _ _ (h.shards e eh);
      clients = λ t x is. sound_on s z g.longer x.slots (sound t x is);
      bodies = bodies;
    }
