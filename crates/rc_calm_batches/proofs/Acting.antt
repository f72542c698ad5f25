-- A stage of a whole world: what stands in each coordinator and each shard, the client of one transaction, and the order. A party acts in it.
use Rattle.std.proofs.Common.{◌≡◌, ℕ, ◌≤◌, List, [], ◌∷◌, sym, ap, ◌∙◌, subst, Bool, true, false, Option, Some, None}
use Rattle.std.specs.Prelude.{slice_get, slice_set, if◌then◌else◌}
use Rattle.std.proofs.lemmas.List.{append-nil}
use Rattle.std.specs.Ordering.{nat_cmp}
use Rattle.std.specs.BTreeMap.{is_at}
use Rattle.rc_ids.specs.Tables.{Table, found, maybe}
use Rattle.rc_ids.specs.Cluster.{Layout, is_dc}
use Rattle.rc_ids.specs.declared.names.Party.{Party}
use Rattle.rc_body.specs.declared.entry.Entry.{Entry}
use Rattle.rc_msg.specs.declared.msg.Envelope.{Envelope}
use Rattle.rc_protocol.specs.Messages.{client_of, coordinator, shard_server}
use Rattle.rc_protocol.specs.Client.{Client, ClientAct, ClientRefusal, client_row}
use Rattle.rc_protocol.specs.Coordinator.{CoordAct, coord_row}
use Rattle.rc_protocol.specs.Shard.{ShardAct, shard_row}
use Rattle.rc_protocol.specs.Nodes.{CoordNode, ShardNode, coord_index, coord_after, shard_after}
use Rattle.rc_runs.specs.Votes.{ordered}
use Rattle.rc_report.specs.declared.fault.Which.TheVariants.{Ballots}
use Rattle.rc_runs.specs.Refusals.{worn_out, limit_of}
use Rattle.rc_runs.specs.World.{Parties, Start, Deed, Idle, ByClient, ByCoord, ByShard, received, parties_after, replaced, new_start, sends_of, lines_of, envelopes}
use Rattle.rc_calm_batches.proofs.Passes.{deed_of, Turned}
use Rattle.rc_calm_batches.proofs.Coords.{Coords, coords_set}
use Rattle.rc_calm_batches.proofs.Stages.{Shards, shards_set, is_a_dc}
use Rattle.rc_calm_batches.proofs.ReadTurns.{found_set, twice_set}

pub record Stage (b : Parties) (t : ℕ) (C : ℕ → CoordNode → Type 0) (S : ℕ → ℕ → ShardNode → Type 0) (y : Client) (order : List (ℕ × List Entry)) (p : Parties) : Type 0 where
  pub layout : p.layout ≡ b.layout
  pub start : p.start ≡ new_start
  pub coords : Coords b.layout C p.coords
  pub shards : Shards S p
  pub clients : p.clients ≡ replaced b.clients t y
  pub committed : p.committed ≡ order

abbrev pub coord_act : Parties → ℕ → Envelope → CoordNode → CoordAct
coord_act b d e x = coord_row b.layout d x.durable x.volatile e.from e.msg

abbrev pub shard_act : Parties → ℕ → ℕ → Envelope → ShardNode → ShardAct
shard_act b d s e x = shard_row b.layout d s x.durable x.volatile e.msg

-- t's client acts
pub client_acts : (b : Parties) (t : ℕ) (x : Client) (C : ℕ → CoordNode → Type 0) (S : ℕ → ℕ → ShardNode → Type 0) (order : List (ℕ × List Entry)) (y z : Client) (e : Envelope) (act : ClientAct) (p : Parties)
    → found nat_cmp b.clients t ≡ Some x → e.to ≡ client_of t → client_row b.layout t y e.msg ≡ act → act.after ≡ z → act.refused ≡ None → Stage b t C S y order p
    → Turned (Stage b t C S z order) (e ∷ []) (envelopes (client_of t) act.sends) act.lines p
client_acts b t x C S order y z e act p there to row after fine h =
    let is : found nat_cmp p.clients t ≡ Some y = ap (λ (cs : Table ℕ Client). found nat_cmp cs t) h.clients ∙ found_set (λ k. is_at (nat_cmp t) k) b.clients x y there in
    let deed : deed_of p e ≡ ByClient t act =
    ap (received p e) to ∙ (ap (λ (o : Option Client). maybe o Idle (λ w. ByClient t (client_row p.layout t w e.msg))) is ∙ ap (ByClient t) (ap (λ (c : Layout). client_row c t y e.msg) h.layout ∙ row)) in
    record {
      after = subst (λ (d : Deed). Stage b t C S z order (parties_after p d)) (sym deed)
          (record {
            layout = h.layout;
            start = h.start;
            coords = h.coords;
            shards = h.shards;
            clients = ap (λ (cs : Table ℕ Client). replaced cs t act.after) h.clients ∙ (twice_set (λ k. is_at (nat_cmp t) k) b.clients y act.after ∙ ap (λ (w : Client). replaced b.clients t w) after);
            committed = h.committed;
          });
      sends = append-nil (envelopes e.to (sends_of (deed_of p e))) ∙ (ap (λ (q : Party). envelopes q (sends_of (deed_of p e))) to ∙ ap (λ (d : Deed). envelopes (client_of t) (sends_of d)) deed);
      prints = append-nil (lines_of (deed_of p e)) ∙ ap lines_of deed;
      lasts = (ap worn_out deed ∙ ap (λ (o : Option ClientRefusal). maybe o None limit_of) fine, tt);
    }

-- the coordinator of d acts
pub coord_acts : (b : Parties) (t : ℕ) (C C' : ℕ → CoordNode → Type 0) (S : ℕ → ℕ → ShardNode → Type 0) (y : Client) (order order' : List (ℕ × List Entry)) (d : ℕ) (e : Envelope) (out : List Envelope) (p : Parties)
    → 1 ≤ d → d ≤ b.layout.dcs → e.to ≡ coordinator d
    → ((x : CoordNode) → C d x → (x.up ≡ true) × C' d (coord_after x (coord_act b d e x)) × (envelopes (coordinator d) (coord_act b d e x).sends ≡ out) × ((coord_act b d e x).spent ≡ false))
    → ((f : ℕ) (x : CoordNode) → (d ≡ f → ⊥) → C f x → C' f x)
    → ((x : CoordNode) (cs : List CoordNode) → C d x → Coords b.layout C' cs → ordered b.layout cs [] order (coord_act b d e x).logs ≡ order')
    → Stage b t C S y order p → Turned (Stage b t C' S y order') (e ∷ []) out [] p
coord_acts b t C C' S y order order' d e out p d1 d2 to row old orders h =
    let z = h.coords d d1 d2 in
    let x = z.0 in
    let r = row x z.2 in
    let dc : is_dc p.layout d ≡ true = ap (λ (c : Layout). is_dc c d) h.layout ∙ is_a_dc b.layout d d1 d2 in
    let deed : deed_of p e ≡ ByCoord d x (coord_act b d e x) =
    ap (received p e) to
    ∙ (ap (λ (v : Bool). maybe (if v then slice_get p.coords (coord_index d) else None) Idle (λ (w : CoordNode). if w.up then ByCoord d w (coord_row p.layout d w.durable w.volatile e.from e.msg) else Idle)) dc
    ∙ (ap (λ (o : Option CoordNode). maybe o Idle (λ (w : CoordNode). if w.up then ByCoord d w (coord_row p.layout d w.durable w.volatile e.from e.msg) else Idle)) z.1
    ∙ (ap (λ (v : Bool). if v then ByCoord d x (coord_row p.layout d x.durable x.volatile e.from e.msg) else Idle) r.0
    ∙ ap (λ (c : Layout). ByCoord d x (coord_row c d x.durable x.volatile e.from e.msg)) h.layout))) in
    let new = coords_set C C' b.layout p.coords d (coord_after x (coord_act b d e x)) d1 d2 h.coords r.1 old in
    let cs = slice_set p.coords (coord_index d) (coord_after x (coord_act b d e x)) in
    record {
      after = subst (λ (w : Deed). Stage b t C' S y order' (parties_after p w)) (sym deed)
          (record {
            layout = h.layout;
            start = h.start;
            coords = new;
            shards = h.shards;
            clients = h.clients;
            committed = ap (λ (c : Layout). ordered c cs p.start.committed p.committed (coord_act b d e x).logs) h.layout
                ∙ (ap (λ (w : Start). ordered b.layout cs w.committed p.committed (coord_act b d e x).logs) h.start
                ∙ (ap (λ (w : List (ℕ × List Entry)). ordered b.layout cs [] w (coord_act b d e x).logs) h.committed ∙ orders x cs z.2 new));
          });
      sends = append-nil (envelopes e.to (sends_of (deed_of p e)))
          ∙ (ap (λ (q : Party). envelopes q (sends_of (deed_of p e))) to ∙ (ap (λ (w : Deed). envelopes (coordinator d) (sends_of w)) deed ∙ r.2));
      prints = append-nil (lines_of (deed_of p e)) ∙ ap lines_of deed;
      lasts = (ap worn_out deed ∙ ap (λ (v : Bool). if v then Some Ballots else None) r.3, tt);
    }

-- the shard s of d acts
pub shard_acts : (b : Parties) (t : ℕ) (C : ℕ → CoordNode → Type 0) (S S' : ℕ → ℕ → ShardNode → Type 0) (y : Client) (order : List (ℕ × List Entry)) (d s : ℕ) (e : Envelope) (out : List Envelope) (p : Parties)
    → 1 ≤ d → d ≤ b.layout.dcs → 1 ≤ s → s ≤ b.layout.shards → e.to ≡ shard_server d s
    → ((x : ShardNode) → S d s x → (x.up ≡ true) × S' d s (shard_after x (shard_act b d s e x)) × (envelopes (shard_server d s) (shard_act b d s e x).sends ≡ out))
    → ((f r : ℕ) (x : ShardNode) → ((d ≡ f) × (s ≡ r) → ⊥) → S f r x → S' f r x)
    → Stage b t C S y order p → Turned (Stage b t C S' y order) (e ∷ []) out [] p
shard_acts b t C S S' y order d s e out p d1 d2 s1 s2 to row old h =
    let d3 : d ≤ p.layout.dcs = subst (λ (c : Layout). d ≤ c.dcs) (sym h.layout) d2 in
    let s3 : s ≤ p.layout.shards = subst (λ (c : Layout). s ≤ c.shards) (sym h.layout) s2 in
    let z = h.shards d s d1 d3 s1 s3 in
    let x = z.0 in
    let r = row x z.2 in
    let deed : deed_of p e ≡ ByShard d s x (shard_act b d s e x) =
    ap (received p e) to
    ∙ (ap (λ (o : Option ShardNode). maybe o Idle (λ (w : ShardNode). if w.up then ByShard d s w (shard_row p.layout d s w.durable w.volatile e.msg) else Idle)) z.1
    ∙ (ap (λ (v : Bool). if v then ByShard d s x (shard_row p.layout d s x.durable x.volatile e.msg) else Idle) r.0
    ∙ ap (λ (c : Layout). ByShard d s x (shard_row c d s x.durable x.volatile e.msg)) h.layout)) in
    record {
      after = subst (λ (w : Deed). Stage b t C S' y order (parties_after p w)) (sym deed)
          (record {
            layout = h.layout;
            start = h.start;
            coords = h.coords;
            shards = shards_set S S' p d s (shard_after x (shard_act b d s e x)) d1 d3 s1 s3 h.shards r.1 old;
            clients = h.clients;
            committed = h.committed;
          });
      sends = append-nil (envelopes e.to (sends_of (deed_of p e)))
          ∙ (ap (λ (q : Party). envelopes q (sends_of (deed_of p e))) to ∙ (ap (λ (w : Deed). envelopes (shard_server d s) (sends_of w)) deed ∙ r.2));
      prints = append-nil (lines_of (deed_of p e)) ∙ ap lines_of deed;
      lasts = (ap worn_out deed, tt);
    }
