-- What shows a shard server, off its host.
use Rattle.std.proofs.Common.{◌≡◌, ◌≤◌, ◌<◌, ◌+◌, ◌-◌, ℕ, zero, suc, true, false, List, [], ◌∷◌, ◌++◌, map, length, get_or, Option, None, Some, refl, sym, ◌∙◌, ap, subst, arith}
use Rattle.std.specs.Prelude.{slice_get, if◌then◌else◌}
use Rattle.std.specs.List.{flat_map}
use Rattle.std.proofs.lemmas.List.{append-nil, flat_map_more}
use Rattle.std.proofs.lemmas.Option.{slice_get_within, slice_get_read}
use Rattle.rc_ids.specs.Tables.{maybe, up_to}
use Rattle.rc_ids.specs.Cluster.{Layout}
use Rattle.rc_ids.specs.declared.names.NodeId.{NodeId}
use Rattle.rc_ids.specs.declared.names.NodeId.TheVariants.{Shard as ShardServer}
use Rattle.rc_disk.specs.Calls.{Told}
use Rattle.rc_disk.specs.declared.power.Power.{Power}
use Rattle.rc_log.specs.Journals.{State}
use Rattle.rc_record.specs.declared.shard.ShardDurable.{ShardDurable}
use Rattle.rc_report.specs.declared.line.Line.{Line}
use Rattle.rc_report.specs.declared.line.Line.TheVariants.{Down as DownLine}
use Rattle.rc_protocol.specs.Nodes.{ShardNode, shard_index}
use Rattle.rc_protocol.specs.Shown.{row_lines}
use Rattle.rc_runs.specs.Devices.{Device}
use Rattle.rc_runs.specs.World.{is_shard_of}
use Rattle.rc_shard.specs.Sites.{ShardCore}
use Rattle.rc_host.specs.AnyNode.{OfShard, shard_back, shard_seen}
use Rattle.rc_host.specs.Standing.{shard_standing}
use Rattle.rc_host.specs.Hosts.{sight, is_up}
use Rattle.rc_host.specs.declared.host.Host.{Host}
use Rattle.rc_host.specs.declared.host.Host.TheVariants.{Up}
use Rattle.rc_begin.specs.Places.{AreAt, shard_name}
use Rattle.rc_begin.specs.Hosts.{Runs, run_at, IsShard}
use Rattle.rc_begin.proofs.Lists.{stands}
use Rattle.rc_world.specs.Shown.{RowsRise, keys_shown, row_of, shown_at}
use Rattle.rc_world.proofs.RowFacts.{replay_rises}
use Rattle.rc_world.proofs.ShardTurns.{up_is}

-- ONE SHARD SERVER
same_durable : (s t : ShardDurable) → OfShard s ≡ OfShard t → s ≡ t
same_durable s t e = cc

up_lines : (node : NodeId) (x : ShardNode) (s : ShardDurable) → x.up ≡ true → s ≡ x.durable → map (row_of node s.rows s.parts) (keys_shown s.rows s.parts) ≡ row_lines node x
up_lines node x s up same =
    ap (λ (t : ShardDurable). map (row_of node t.rows t.parts) (keys_shown t.rows t.parts)) same
    ∙ sym (ap (λ b. if b then map (row_of node x.durable.rows x.durable.parts) (keys_shown x.durable.rows x.durable.parts) else DownLine node ∷ []) up)

down_lines : (node : NodeId) (x : ShardNode) → x.up ≡ false → DownLine node ∷ [] ≡ row_lines node x
down_lines node x down =
    sym (ap (λ b. if b then map (row_of node x.durable.rows x.durable.parts) (keys_shown x.durable.rows x.durable.parts) else DownLine node ∷ []) down)

module _ {J D : Type 0} (state : J → State) (told : D → Option Told) (content : D → Option (List ℕ)) (power : D → Power) (r : Runs) (place : ℕ) (x : ShardNode) (d : Device) where
  same_host : (h g : Host (ShardCore J) J D) → h ≡ g → IsShard (sight shard_seen state told content power) r place h x d → IsShard (sight shard_seen state told content power) r place g x d
  same_host h g same is = subst (λ (k : Host (ShardCore J) J D). IsShard (sight shard_seen state told content power) r place k x d) same is

  rises_up : (server : ShardCore J) → IsShard (sight shard_seen state told content power) r place (Up server) x d → RowsRise server.durable.rows
  rises_up server is = replay_rises x.log server.durable (same_durable server.durable x.durable is.host.durable ∙ is.replay)

  shows_up : (node : NodeId) (server : ShardCore J) (lines now : List Line) → IsShard (sight shard_seen state told content power) r place (Up server) x d
      → now ≡ lines ++ map (row_of node server.durable.rows server.durable.parts) (keys_shown server.durable.rows server.durable.parts) → now ≡ lines ++ row_lines node x
  shows_up node server lines now is did =
      did ∙ ap (λ (ls : List Line). lines ++ ls) (up_lines node x server.durable is.host.up (same_durable server.durable x.durable is.host.durable))

  -- its rows are in order
  pub up_rises : (h : Host (ShardCore J) J D) (server : ShardCore J) → h ≡ Up server → IsShard (sight shard_seen state told content power) r place h x d → RowsRise server.durable.rows
  up_rises h server same is = rises_up server (same_host h (Up server) same is)

  pub up_shows : (h : Host (ShardCore J) J D) (server : ShardCore J) → h ≡ Up server → (node : NodeId) (lines now : List Line) → IsShard (sight shard_seen state told content power) r place h x d
      → now ≡ lines ++ map (row_of node server.durable.rows server.durable.parts) (keys_shown server.durable.rows server.durable.parts) → now ≡ lines ++ row_lines node x
  up_shows h server same node lines now is did = shows_up node server lines now (same_host h (Up server) same is) did

  pub down_shows : (node : NodeId) (h : Host (ShardCore J) J D) (lines now : List Line) → is_up h ≡ false → IsShard (sight shard_seen state told content power) r place h x d
      → now ≡ lines ++ DownLine node ∷ [] → now ≡ lines ++ row_lines node x
  down_shows node h lines now down is did =
      did ∙ ap (λ (ls : List Line). lines ++ ls)
      (down_lines node x (up_is (sight shard_seen state told content power) (shard_back (shard_name r.cluster place) r.cluster) (run_at r (shard_name r.cluster place)) h (shard_standing x) d is.host ∙ down))

-- THOSE OF A DATACENTRE
module _ (c : Layout) (nodes : List ShardNode) (d s : ℕ) (lines : List Line) where
  pub shows_none : is_shard_of c d s ≡ false → lines ≡ lines ++ shown_at c nodes d s
  shows_none out =
      sym (append-nil lines)
      ∙ sym (ap (λ b. lines ++ maybe (if b then slice_get nodes (shard_index c d s) else None) [] (row_lines (ShardServer d s))) out)

  at_place : (o : Option ShardNode) → is_shard_of c d s ≡ true → slice_get nodes (shard_index c d s) ≡ o → maybe o [] (row_lines (ShardServer d s)) ≡ shown_at c nodes d s
  at_place o known at =
      ap (λ (n : Option ShardNode). maybe n [] (row_lines (ShardServer d s))) (sym at)
      ∙ sym (ap (λ b. maybe (if b then slice_get nodes (shard_index c d s) else None) [] (row_lines (ShardServer d s))) known)

  pub shows_missing : is_shard_of c d s ≡ true → slice_get nodes (shard_index c d s) ≡ None → lines ≡ lines ++ shown_at c nodes d s
  shows_missing known none = sym (append-nil lines) ∙ ap (λ (ls : List Line). lines ++ ls) (at_place None known none)

  pub shows_one : (x : ShardNode) (now : List Line) → is_shard_of c d s ≡ true → slice_get nodes (shard_index c d s) ≡ Some x → now ≡ lines ++ row_lines (ShardServer d s) x → now ≡ lines ++ shown_at c nodes d s
  shows_one x now known at did = did ∙ ap (λ (ls : List Line). lines ++ ls) (at_place (Some x) known at)

-- the node and the device of the host at a place
pub record Stands {H X : Type 0} (Is : ℕ → H → X → Device → Type 0) (nodes : List X) (place : ℕ) (h : H) : Type 0 where
  pub node : X
  pub at : slice_get nodes place ≡ Some node
  pub device : Device
  pub is : Is place h node device

pub stands_at : {H X : Type 0} (Is : ℕ → H → X → Device → Type 0) (hosts : List H) (nodes : List X) (devices : List Device) → AreAt Is hosts nodes devices
    → (place : ℕ) (h : H) → slice_get hosts place ≡ Some h → Stands Is nodes place h
stands_at Is hosts nodes devices are place h at =
    let within = slice_get_within hosts place h at in
    let x = stands nodes place (subst (λ (n : ℕ). place < n) (sym are.as_nodes) within) in
    let d = stands devices place (subst (λ (n : ℕ). place < n) (sym are.as_devices) within) in
    record { node = x.0; at = x.1; device = d.0; is = are.each place h x.0 d.0 at x.1 d.1 }

pub are_same : {H X : Type 0} (Is : ℕ → H → X → Device → Type 0) (hosts given : List H) (nodes : List X) (devices : List Device) → given ≡ hosts → AreAt Is hosts nodes devices → AreAt Is given nodes devices
are_same Is hosts given nodes devices same are = subst (λ (hs : List _). AreAt Is hs nodes devices) (sym same) are

-- where the list is long enough the host at the place shows the shard server
pub read_at : {H : Type 0} (hosts : List H) (place spot : ℕ) (h : H) → place ≡ spot → place < length hosts → h ≡ get_or hosts place h → slice_get hosts spot ≡ Some h
read_at hosts place spot h same within is = subst (λ (i : ℕ). slice_get hosts i ≡ Some h) same (slice_get_read hosts (length hosts) place h refl within is)

none_get : {X : Type 0} (xs : List X) (i : ℕ) → length xs ≤ i → slice_get xs i ≡ None
none_get [] i le = refl
none_get (x ∷ xs) zero le = absurd (omega arith)
none_get (x ∷ xs) (suc i) le = none_get xs i (omega arith)

pub beyond : {H X : Type 0} (Is : ℕ → H → X → Device → Type 0) (hosts : List H) (nodes : List X) (devices : List Device) → AreAt Is hosts nodes devices
    → (place spot : ℕ) → place ≡ spot → length hosts ≤ place → slice_get nodes spot ≡ None
beyond Is hosts nodes devices are place spot same le = none_get nodes spot (let n = are.as_nodes in omega (arith, n, same, le))

-- all are shown
pub shown_all : (f : ℕ → List Line) (n count : ℕ) (before lines : List Line) → n - 1 ≡ count → lines ≡ before ++ flat_map f (up_to (n - 1)) → lines ≡ before ++ flat_map f (up_to count)
shown_all f n count before lines same so = so ∙ ap (λ (m : ℕ). before ++ flat_map f (up_to m)) same

-- one shard server more is shown
pub shown_more : (f : ℕ → List Line) (n : ℕ) (before lines now : List Line) → 1 ≤ n → lines ≡ before ++ flat_map f (up_to (n - 1)) → now ≡ lines ++ f n
    → now ≡ before ++ flat_map f (up_to (n + 1 - 1))
shown_more f zero before lines now low so k = absurd (omega arith)
shown_more f (suc n) before lines now low so k =
    let last : suc n - 1 ≡ n = omega arith in
    let next : suc n + 1 - 1 ≡ suc n = omega arith in
    rw next (k ∙ ap (λ (ls : List Line). ls ++ f (suc n)) (so ∙ ap (λ (m : ℕ). before ++ flat_map f (up_to m)) last) ∙ flat_map_more f before (up_to n) (suc n))
