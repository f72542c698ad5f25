-- Logs only grow while messages are delivered, and devices that fail nothing take what is appended while there is room.
use Rattle.std.proofs.Common.{◌≡◌, ℕ, ◌+◌, ◌≤◌, List, [], refl, sym, ap, ◌∙◌, subst, arith, Bool, true, false, Option, Some, None, ⊎_elim}
use Rattle.std.specs.Prelude.{slice_get, slice_set, nat_lt, if◌then◌else◌}
use Rattle.std.proofs.lemmas.Bool.{le-ltb}
use Rattle.rc_ids.specs.Tables.{maybe}
use Rattle.rc_ids.specs.Cluster.{is_dc}
use Rattle.rc_ids.specs.declared.names.NodeId.TheVariants.{Coord, Shard as ShardServer}
use Rattle.rc_ids.specs.declared.names.Party.{Party}
use Rattle.rc_ids.specs.declared.names.Party.TheVariants.{Node, Client as ClientOf}
use Rattle.rc_msg.specs.declared.msg.Envelope.{Envelope}
use Rattle.rc_report.specs.declared.line.Line.{Line}
use Rattle.rc_record.specs.declared.record.Record.{Record}
use Rattle.rc_protocol.specs.Nodes.{CoordNode, ShardNode, coord_index, shard_index, logged}
use Rattle.rc_protocol.specs.Coordinator.{coord_row}
use Rattle.rc_protocol.specs.Shard.{shard_row}
use Rattle.rc_protocol.specs.Client.{Client, client_row}
use Rattle.rc_runs.specs.World.{Parties, Deed, Idle, ByClient, ByCoord, ByShard, CoordStops, ShardStops, received, parties_after, coord_at, shard_at, is_shard_of}
use Rattle.rc_runs.specs.Devices.{Device, Made, appended, called, at_offset, most_log_bytes}
use Rattle.rc_calm_batches.proofs.Passes.{Drains, Empty, Next, deed_of}
use Rattle.rc_calm_batches.proofs.Sizes.{log_bytes, bytes_end}
use Rattle.rc_calm_batches.proofs.Indices.{get_set_same, get_set_other}
use Rattle.rc_calm_batches.proofs.Stages.{same_or_not}
use Rattle.rc_calm_batches.proofs.Slots.{some_is}

bytes_logged : (rs : List Record) (o : Option Record) → log_bytes rs ≤ log_bytes (logged rs o)
bytes_logged rs None = omega arith
bytes_logged rs (Some r) = let h = bytes_end rs r in omega (arith, h)

-- NODES IN THEIR PLACES
module _ {Y : Type 0} (log : Y → List Record) where
  abbrev pub Grows : List Y → List Y → Type 0
  Grows ys zs = (i : ℕ) (y : Y) → slice_get ys i ≡ Some y → (z : Y) × (slice_get zs i ≡ Some z) × (log_bytes (log y) ≤ log_bytes (log z))

  pub grows_same : (ys : List Y) → Grows ys ys
  grows_same ys i y h = (y, h, omega arith)

  pub grows_then : (ys zs ws : List Y) → Grows ys zs → Grows zs ws → Grows ys ws
  grows_then ys zs ws f g i y h = let a = f i y h in let e = g i a.0 a.1 in let k = a.2 in let l = e.2 in (e.0, e.1, omega (arith, k, l))

  pub grows_set : (ys : List Y) (i : ℕ) (x x' : Y) → slice_get ys i ≡ Some x → log_bytes (log x) ≤ log_bytes (log x') → Grows ys (slice_set ys i x')
  grows_set ys i x x' at le j y h = ⊎_elim
      (λ (e : i ≡ j).
      let k : x ≡ y = some_is x y (sym at ∙ (ap (slice_get ys) e ∙ h)) in
      (x', ap (slice_get (slice_set ys i x')) (sym e) ∙ get_set_same ys i x x' at, subst (λ (w : Y). log_bytes (log w) ≤ log_bytes (log x')) k le))
      (λ n. (y, get_set_other ys i j x' n ∙ h, omega arith)) (same_or_not i j)

  -- DEVICES
  pub record Takes (x : Device) (n : ℕ) : Type 0 where
    pub failing : x.failing ≡ []
    pub cut : x.cut ≡ None
    pub offset : x.offset ≤ 700 + n

  abbrev pub Fit : List Device → List Y → Type 0
  Fit xs ys = (i : ℕ) (y : Y) → slice_get ys i ≡ Some y → (x : Device) × (slice_get xs i ≡ Some x) × Takes x (log_bytes (log y))

  pub fit_set : (xs : List Device) (ys : List Y) (i : ℕ) (y y' : Y) (x' : Device) → Fit xs ys → slice_get ys i ≡ Some y → Takes x' (log_bytes (log y')) → Fit (slice_set xs i x') (slice_set ys i y')
  fit_set xs ys i y y' x' f at new j z h = ⊎_elim
      (λ (e : i ≡ j).
      let k : y' ≡ z = some_is y' z (sym (ap (slice_get (slice_set ys i y')) (sym e) ∙ get_set_same ys i y y' at) ∙ h) in
      let a = f i y at in
      (x', ap (slice_get (slice_set xs i x')) (sym e) ∙ get_set_same xs i a.0 x' a.1, subst (λ (w : Y). Takes x' (log_bytes (log w))) k new))
      (λ n. let a = f j z (sym (get_set_other ys i j y' n) ∙ h) in (a.0, get_set_other xs i j x' n ∙ a.1, a.2)) (same_or_not i j)

  pub fit_keep : (xs : List Device) (ys : List Y) (i : ℕ) (y y' : Y) → Fit xs ys → slice_get ys i ≡ Some y → log y ≡ log y' → Fit xs (slice_set ys i y')
  fit_keep xs ys i y y' f at same j z h = ⊎_elim
      (λ (e : i ≡ j).
      let k : y' ≡ z = some_is y' z (sym (ap (slice_get (slice_set ys i y')) (sym e) ∙ get_set_same ys i y y' at) ∙ h) in
      let a = f i y at in
      (a.0, ap (slice_get xs) (sym e) ∙ a.1, subst (λ (w : Y). Takes a.0 (log_bytes (log w))) k (subst (λ (l : List Record). Takes a.0 (log_bytes l)) same a.2)))
      (λ n. f j z (sym (get_set_other ys i j y' n) ∙ h)) (same_or_not i j)

  abbrev pub HasRoom : List Y → Type 0
  HasRoom ys = (i : ℕ) (y : Y) → slice_get ys i ≡ Some y → 701 + log_bytes (log y) ≤ most_log_bytes

  -- an append that the log of r still has room for is made
  pub makes : (x : Device) (n len : ℕ) → Takes x n → 701 + (n + (5 + len)) ≤ most_log_bytes → (w : Device) × (appended x len ≡ (Made, w)) × Takes w (n + (5 + len))
  makes x n len h room =
      let f = h.failing in
      let k = h.cut in
      let p = h.offset in
      let fine : nat_lt most_log_bytes (x.offset + 5 + len + 1) ≡ false = le-ltb most_log_bytes (x.offset + 5 + len + 1) (omega (arith, p, room)) in
      (at_offset (called (called (called (called x)))) (x.offset + 5 + len), rw (fine, f, k), record { failing = f; cut = rw k; offset = omega (arith, p) })

-- DEEDS of deliveries are those of the nodes that are there
abbrev pub Sound : Parties → Deed → Type 0
Sound p Idle = Unit {0}
Sound p (ByClient t act) = Unit {0}
Sound p (ByCoord d x act) = (is_dc p.layout d ≡ true) × (slice_get p.coords (coord_index d) ≡ Some x)
Sound p (ByShard d s x act) = (is_shard_of p.layout d s ≡ true) × (slice_get p.shards (shard_index p.layout d s) ≡ Some x)
Sound p (CoordStops d x kept) = ⊥
Sound p (ShardStops d s x kept) = ⊥

pub received_sound : (p : Parties) (e : Envelope) (to : Party) → Sound p (received p e to)
received_sound p e (Node (Coord d)) = go (coord_at p d) refl
  where
    there : (v : Bool) (o : Option CoordNode) (x : CoordNode) → (if v then o else None) ≡ Some x → (v ≡ true) × (o ≡ Some x)
    there true o x h = (refl, h)
    there false o x h = absurd (cc)

    up : (x : CoordNode) → coord_at p d ≡ Some x → (v : Bool) → Sound p (if v then ByCoord d x (coord_row p.layout d x.durable x.volatile e.from e.msg) else Idle)
    up x h true = there (is_dc p.layout d) (slice_get p.coords (coord_index d)) x h
    up x h false = tt

    go : (o : Option CoordNode) → coord_at p d ≡ o → Sound p (maybe o Idle (λ x. if x.up then ByCoord d x (coord_row p.layout d x.durable x.volatile e.from e.msg) else Idle))
    go None h = tt
    go (Some x) h = up x h x.up
received_sound p e (Node (ShardServer d s)) = go (shard_at p d s) refl
  where
    there : (v : Bool) (o : Option ShardNode) (x : ShardNode) → (if v then o else None) ≡ Some x → (v ≡ true) × (o ≡ Some x)
    there true o x h = (refl, h)
    there false o x h = absurd (cc)

    up : (x : ShardNode) → shard_at p d s ≡ Some x → (v : Bool) → Sound p (if v then ByShard d s x (shard_row p.layout d s x.durable x.volatile e.msg) else Idle)
    up x h true = there (is_shard_of p.layout d s) (slice_get p.shards (shard_index p.layout d s)) x h
    up x h false = tt

    go : (o : Option ShardNode) → shard_at p d s ≡ o → Sound p (maybe o Idle (λ x. if x.up then ByShard d s x (shard_row p.layout d s x.durable x.volatile e.msg) else Idle))
    go None h = tt
    go (Some x) h = up x h x.up
received_sound p e (ClientOf t) = go _
  where
    go : (o : Option Client) → Sound p (maybe o Idle (λ x. ByClient t (client_row p.layout t x e.msg)))
    go None = tt
    go (Some x) = tt

abbrev pub LogsGrow : Parties → Parties → Type 0
LogsGrow p r = Grows (λ (x : CoordNode). x.log) p.coords r.coords × Grows (λ (x : ShardNode). x.log) p.shards r.shards

deed_grows : (p : Parties) (d : Deed) → Sound p d → LogsGrow p (parties_after p d)
deed_grows p Idle s = (grows_same _ p.coords, grows_same _ p.shards)
deed_grows p (ByClient t act) s = (grows_same _ p.coords, grows_same _ p.shards)
deed_grows p (ByCoord d x act) s = (grows_set _ p.coords (coord_index d) x _ s.1 (bytes_logged x.log act.logs), grows_same _ p.shards)
deed_grows p (ByShard d r x act) s = (grows_same _ p.coords, grows_set _ p.shards (shard_index p.layout d r) x _ s.1 (bytes_logged x.log act.logs))
deed_grows p (CoordStops d x kept) s = absurd s
deed_grows p (ShardStops d r x kept) s = absurd s

-- while a queue is delivered
pub drains_grow : (p : Parties) (q : List Envelope) (r : Parties) (ls : List Line) (ds : List Envelope) → Drains p q r ls ds → LogsGrow p r
drains_grow p q r ls ds (Empty p') = (grows_same _ p'.coords, grows_same _ p'.shards)
drains_grow p q r ls ds (Next p' e q' r' ls' ds' worn rest) =
    let more = drains_grow (parties_after p' (deed_of p' e)) _ r' ls' ds' rest in
    let now = deed_grows p' (deed_of p' e) (received_sound p' e e.to) in
    (grows_then _ p'.coords (parties_after p' (deed_of p' e)).coords r'.coords now.0 more.0, grows_then _ p'.shards (parties_after p' (deed_of p' e)).shards r'.shards now.1 more.1)
