-- A read of a new key and its settle: the map's row is printed, and all is at rest again with the key touched.
use Rattle.std.proofs.Common.{◌≡◌, ℕ, ◌+◌, ◌-◌, ◌*◌, ◌≤◌, List, [], ◌∷◌, ◌++◌, refl, sym, ap, ◌∙◌, subst, arith, Bool, true, false, Option, Some, None}
use Rattle.std.specs.Prelude.{length, map, if◌then◌else◌}
use Rattle.std.specs.Ordering.{nat_cmp}
use Rattle.std.specs.BTreeMap.{is_at}
use Rattle.rc_ids.specs.Tables.{Table, In, found}
use Rattle.rc_ids.specs.Cluster.{Layout, IsLayout, shard_of}
use Rattle.rc_body.specs.declared.entry.Entry.{Entry}
use Rattle.rc_msg.specs.declared.msg.Envelope.{Envelope}
use Rattle.rc_report.specs.declared.line.Line.{Line}
use Rattle.rc_report.specs.declared.line.Line.TheVariants.{Settled}
use Rattle.rc_protocol.specs.Messages.{client_of}
use Rattle.rc_protocol.specs.Client.{Client, TooManyKeys, with_slots, is_out_of_slots, client_says, asks, slot_of}
use Rattle.rc_protocol.specs.Acts.{Reads}
use Rattle.rc_protocol.specs.Coordinator.{new_volatile}
use Rattle.rc_protocol.specs.Nodes.{CoordNode}
use Rattle.rc_runs.specs.declared.event.Event.TheVariants.{Read}
use Rattle.rc_runs.specs.Refusals.{most_events}
use Rattle.rc_runs.specs.World.{Parties, with_client, replaced, envelopes, bytes_of}
use Rattle.rc_runs.specs.Session.{Session, text_bytes}
use Rattle.rc_runs.specs.Script.{by_event, settles}
use Rattle.rc_claims.specs.Calm.{Calm, Touched, touched_of, touched_set, is_last, with_due, row_line, read_deliveries, least_quorum}
use Rattle.rc_claims.specs.CalmScripts.{has_room}
use Rattle.rc_calm_batches.proofs.Stages.{AtRest, Beside, Shards}
use Rattle.rc_calm_batches.proofs.Coords.{Coords, CoordIs}
use Rattle.rc_calm_batches.proofs.Quorums.{IsLeast}
use Rattle.rc_calm_batches.proofs.Weights.{read_bytes}
use Rattle.rc_calm_batches.proofs.ReadTurns.{With, found_set, twice_set}
use Rattle.rc_calm_batches.proofs.ReadDrains.{ReadDone, read_drains, begun as read_begun, over_read, delivered}
use Rattle.rc_calm_batches.proofs.Slots.{set_same}
use Rattle.rc_ids.proofs.LayoutFacts.{dc_count_range}
use Rattle.rc_record.specs.ShardState.{version_at, value_at}
use Rattle.rc_calm.proofs.Frames.{held_length}
use Rattle.rc_calm.proofs.Room.{drains_sizes}
use Rattle.rc_calm.proofs.Layouts.{layout_least, layout_shard}
use Rattle.rc_calm.proofs.Touching.{slots_from}
use Rattle.rc_calm.proofs.Touches.{keys_of, in_keys, set_new_in, set_keys, set_once, set_used, set_ranges, set_few, client_room}
use Rattle.rc_calm.proofs.Commands.{asking, reads_fresh, slot_end, fresh_done}
use Rattle.rc_calm.proofs.Clients.{client_event, read_tells}
use Rattle.rc_calm.proofs.Between.{Sane, Peaceful, Between, open_client, with_touched, rests_more, peaceful_room}
use Rattle.rc_calm.proofs.Costs.{Costs, costs, PairComes, pair_comes}
use Rattle.rc_calm.proofs.OneEvents.{same_tx, sane_touched, settled_between}

-- where all but the shards is as before
beside_peace : (c : Layout) (m : Calm) (begun : List ℕ) (is_over : Bool) (p r : Parties) → Peaceful c m begun is_over p → Beside p r → Shards (λ d s x. AtRest c m.rows m.committed m.tx (keys_of m.touched) s x) r → length r.shards ≡ length p.shards
    → Peaceful c m begun is_over r
beside_peace c m begun is_over p r h e shards sizes = record {
  layout = e.layout ∙ h.layout;
  start = e.start ∙ h.start;
  coords = subst (λ (cs : List CoordNode). Coords c (λ d x. CoordIs m.committed m.committed new_volatile x) cs) (sym e.coords) h.coords;
  shards = shards;
  sizes = record { coords = ap length e.coords ∙ h.sizes.coords; shards = sizes ∙ h.sizes.shards };
  order = ap (λ (xs : List (ℕ × List Entry)). map (λ (x : ℕ × List Entry). x.0) xs) e.committed ∙ h.order;
  unknown = λ u n. ap (λ (cs : Table ℕ Client). found nat_cmp cs u) e.clients ∙ h.unknown u n;
  client = λ o. ap (λ (cs : Table ℕ Client). found nat_cmp cs m.tx) e.clients ∙ h.client o;
  clients = let a = h.clients in let n = ap length e.clients in omega (arith, a, n);
  count = ap length e.clients ∙ h.count;
  committed = let a = h.committed in let n = ap length e.clients in omega (arith, a, n);
}

module _ (c : Layout) (is_layout : IsLayout c) (m : Calm) (begun : List ℕ) (last : Option ℕ) (z : Session) (h : Between c m begun last false z) (k : List ℕ)
    (room : has_room m.touched k ≡ true) (short : length k ≤ 64) (new : touched_of m.touched k ≡ None) where
  abbrev p0 : Parties
  p0 = z.world.parties

  abbrev y0 : Client
  y0 = open_client m.rows m.touched

  abbrev y1 : Client
  y1 = with_slots y0 (slots_from m.rows m.touched ++ asking m.rows k ∷ [])

  abbrev p1 : Parties
  p1 = with_client p0 m.tx y1

  abbrev one : Touched
  one = record { key = k; is_read = true; write = None }

  abbrev pub then_touched : List Touched
  then_touched = touched_set m.touched one

  abbrev keys : List (List ℕ)
  keys = keys_of then_touched

  abbrev q : ℕ
  q = least_quorum c

  pub there : found nat_cmp p1.clients m.tx ≡ Some y1
  there = found_set (λ j. is_at (nat_cmp m.tx) j) p0.clients y0 y1 (h.parties.client refl)

  pub at : slot_of y1.slots k ≡ Some (asking m.rows k)
  at = slot_end m.rows m.touched k (asking m.rows k) new refl

  pub fresh : In m.tx m.committed → ⊥
  fresh = (h.sane.running refl).0

  pub read : In k keys
  read = in_keys then_touched one (set_new_in m.touched one)

  pub least : IsLeast p1.layout 1 p1.layout.dcs q
  least = subst (λ (l : Layout). IsLeast l 1 l.dcs q) (sym h.parties.layout) (layout_least c is_layout)

  pub in_shards : (1 ≤ shard_of p1.layout k) × (shard_of p1.layout k ≤ p1.layout.shards)
  in_shards = subst (λ (l : Layout). (1 ≤ shard_of l k) × (shard_of l k ≤ l.shards)) (sym h.parties.layout) (layout_shard c is_layout k)

  -- the reading client
  abbrev reads : Client
  reads = read_begun p1 m.rows m.committed m.tx keys k fresh read in_shards.0 in_shards.1 y1 there (asking m.rows k) at refl refl refl q least

  abbrev has_read : Client
  has_read = over_read p1 m.rows m.committed m.tx keys k fresh read in_shards.0 in_shards.1 y1 there (asking m.rows k) at refl refl refl q least

  abbrev ds : List Envelope
  ds = delivered p1 m.rows m.committed m.tx keys k fresh read in_shards.0 in_shards.1 y1 there (asking m.rows k) at refl refl refl q least

  reads_is : reads ≡ y1
  reads_is = ap (with_slots y1) (set_same y1.slots k (asking m.rows k) at refl)

  has_read_is : has_read ≡ open_client m.rows then_touched
  has_read_is = ap (with_slots y1) (fresh_done m.rows m.touched k new)

  before : With p1 m.rows m.committed m.tx keys y1 there reads p1
  before = record {
    beside = record {
      layout = refl;
      start = refl;
      coords = refl;
      clients = sym (ap (replaced p1.clients m.tx) reads_is ∙ twice_set (λ j. is_at (nat_cmp m.tx) j) p0.clients y1 y1);
      committed = refl;
    };
    shards = λ d s d1 d2 s1 s2.
        let w = h.parties.shards d s d1 d2 s1 s2 in (
          w.0,
          w.1,
          subst (λ (l : Layout). AtRest l m.rows m.committed m.tx keys s w.0) (sym h.parties.layout)
              (rests_more c m.rows m.committed m.tx (keys_of m.touched) keys s w.0 (λ j i. set_keys m.touched one j i) w.2),
        );
  }

  is_done : ReadDone p1 m.rows m.committed m.tx keys k fresh read in_shards.0 in_shards.1 y1 there (asking m.rows k) at refl refl refl q least p1
  is_done = read_drains p1 m.rows m.committed m.tx keys k fresh read in_shards.0 in_shards.1 y1 there (asking m.rows k) at refl refl refl q least p1 before

  abbrev r : Parties
  r = is_done.after

  pub ds_count : length ds ≡ read_deliveries c
  ds_count = is_done.count ∙ ap (λ (l : Layout). 3 * l.dcs - q) h.parties.layout

  pub ds_bytes : bytes_of ds ≤ 9800
  ds_bytes =
      let few : p1.layout.dcs ≤ 7 = subst (λ (l : Layout). l.dcs ≤ 7) (sym h.parties.layout) (dc_count_range c.dcs is_layout.dcs).1 in
      read_bytes p1.layout.dcs q m.tx k (shard_of p1.layout k) (version_at m.rows k) (value_at m.rows k) few short (held_length (value_at m.rows k) (h.sane.values k))

  beside : Beside (with_client p0 m.tx (open_client m.rows then_touched)) r
  beside = record {
    layout = is_done.rests.beside.layout;
    start = is_done.rests.beside.start;
    coords = is_done.rests.beside.coords;
    clients = is_done.rests.beside.clients ∙ (twice_set (λ j. is_at (nat_cmp m.tx) j) p0.clients y1 has_read ∙ ap (replaced p0.clients m.tx) has_read_is);
    committed = is_done.rests.beside.committed;
  }

  then_peace : Peaceful c (with_due m then_touched 0) begun false r
  then_peace =
      beside_peace c (with_due m then_touched 0) begun false (with_client p0 m.tx (open_client m.rows then_touched)) r (with_touched c m begun then_touched p0 (λ j i. set_keys m.touched one j i) h.parties) beside
      (λ d s d1 d2 s1 s2. let w = is_done.rests.shards d s d1 d2 s1 s2 in (w.0, w.1, subst (λ (l : Layout). AtRest l m.rows m.committed m.tx keys s w.0) h.parties.layout w.2))
      (drains_sizes p1 _ r _ _ is_done.drains).shards

  then_sane : Sane (with_due m then_touched 0) begun last false
  then_sane =
      sane_touched m begun last then_touched 0 h.sane (set_once m.touched one h.sane.once) (set_used m.touched one h.sane.used (λ e. absurd (cc))) (set_few m.touched one h.sane.few room)
      (set_ranges m.touched one h.sane.ranges short tt) refl

  out : (if is_out_of_slots y0 k then Some TooManyKeys else None) ≡ None
  out = let f = client_room m.rows m.touched y0 k refl room in rw f

  abbrev pub now : List Line
  now = row_line m k ∷ Settled (read_deliveries c) ∷ []

  abbrev pub read_costs : Costs
  read_costs = costs (1 + length ds) (length ds) (bytes_of ds) (text_bytes now)

  abbrev Then : Session → Type 0
  Then = Between c (with_due m then_touched 0) begun last false

  read_now : PairComes Then z read_costs now (by_event z (Read m.tx k)) (settles most_events 0 (by_event z (Read m.tx k)).after)
  read_now =
      subst (λ (n : ℕ). PairComes Then z (costs (1 + length ds) (length ds) (bytes_of ds) (text_bytes (row_line m k ∷ Settled n ∷ []))) (row_line m k ∷ Settled n ∷ []) (by_event z (Read m.tx k)) (settles most_events 0 (by_event z (Read m.tx k)).after)) ds_count
      (pair_comes Then z p1 (envelopes (client_of m.tx) (asks p1.layout m.tx k)) r (row_line m k ∷ []) ds (by_event z (Read m.tx k)) is_done.drains h.coords_fit h.shards_fit
      (peaceful_room c (with_due m then_touched 0) begun false r then_peace) (settled_between c (with_due m then_touched 0) begun last false r then_sane then_peace)
      (client_event z m.tx (Reads k) (Read m.tx k) y0 (client_says y1 (asks p0.layout m.tx k)) (read_tells z m.tx k) h.queue h.parties.start (h.parties.client refl) refl out
      (reads_fresh m.rows p0.layout m.tx y0 m.touched k refl new) refl))

  pub read_line : (t : ℕ) → is_last last t ≡ true → PairComes Then z read_costs now (by_event z (Read t k)) (settles most_events 0 (by_event z (Read t k)).after)
  read_line t e = subst (λ (u : ℕ). PairComes Then z read_costs now (by_event z (Read u k)) (settles most_events 0 (by_event z (Read u k)).after)) (same_tx m begun last t h.sane e) read_now
