-- What stands between the lines of a calm script: all is at rest, nothing is pending, and the one map is what the shards have.
use Rattle.std.proofs.Common.{◌≡◌, ℕ, suc, ◌+◌, ◌*◌, ◌≤◌, List, [], ◌∷◌, refl, sym, ap, ◌∙◌, subst, arith, Bool, true, false, cond, Option, Some, None}
use Rattle.std.specs.Prelude.{map, length}
use Rattle.std.specs.Ordering.{nat_cmp}
use Rattle.std.specs.Map.{lookup, set_value}
use Rattle.std.specs.BTreeMap.{is_at}
use Rattle.rc_ids.specs.Tables.{In, found}
use Rattle.rc_ids.specs.Cluster.{Layout}
use Rattle.rc_body.specs.declared.entry.Entry.{Entry}
use Rattle.rc_report.specs.declared.line.Line.{Line}
use Rattle.rc_record.specs.ShardState.{version_at, value_at}
use Rattle.rc_serial.specs.OneMap.{Map}
use Rattle.rc_protocol.specs.Client.{Client, Open}
use Rattle.rc_protocol.specs.Coordinator.{new_volatile}
use Rattle.rc_protocol.specs.Nodes.{CoordNode, ShardNode}
use Rattle.rc_runs.specs.Refusals.{most_transactions}
use Rattle.rc_runs.specs.Devices.{Device}
use Rattle.rc_runs.specs.World.{Parties, new_start, with_client}
use Rattle.rc_runs.specs.Session.{Session}
use Rattle.rc_runs.specs.Script.{LineDone}
use Rattle.rc_claims.specs.Calm.{Calm, Touched, with_due}
use Rattle.rc_calm_batches.proofs.Stages.{AtRest, Shards}
use Rattle.rc_calm_batches.proofs.Coords.{Coords, CoordIs}
use Rattle.rc_calm_batches.proofs.ReadTurns.{found_set}
use Rattle.rc_calm.proofs.Queue.{Queued}
use Rattle.rc_calm.proofs.Frames.{Short}
use Rattle.rc_calm.proofs.Logs.{Fit, HasRoom}
use Rattle.rc_calm.proofs.Room.{Complete, short, coords_room, shards_room}
use Rattle.rc_calm.proofs.Touching.{slots_from, OnceTouched}
use Rattle.rc_calm.proofs.Touches.{keys_of, InRange}
use Rattle.rc_calm.proofs.Counts.{Used}
use Rattle.rc_calm.proofs.Clients.{LineActed}

-- THE MAP AND THE NAMES
pub record Sane (m : Calm) (begun : List ℕ) (last : Option ℕ) (is_over : Bool) : Type 0 where
  pub once : OnceTouched m.touched
  pub used : Used m.touched
  pub few : length m.touched ≤ 32
  pub ranges : InRange m.touched
  pub were_begun : (u : ℕ) → In u m.committed → In u begun
  pub running : is_over ≡ false → (In m.tx m.committed → ⊥) × (last ≡ Some m.tx) × In m.tx begun
  pub none : is_over ≡ true → m.touched ≡ []
  pub versions : (k : List ℕ) → version_at m.rows k ≤ length m.committed
  pub values : (k : List ℕ) → Short (value_at m.rows k)
  pub numbers : (u : ℕ) → In u begun → u ≤ 4294967295
  pub due : m.due ≡ 0

-- THE PARTIES
abbrev pub open_client : Map → List Touched → Client
open_client rows touched = record { phase = Open; slots = slots_from rows touched; refusals = []; votes = []; outcome = None }

pub record Peaceful (c : Layout) (m : Calm) (begun : List ℕ) (is_over : Bool) (p : Parties) : Type 0 where
  pub layout : p.layout ≡ c
  pub start : p.start ≡ new_start
  pub coords : Coords c (λ d x. CoordIs m.committed m.committed new_volatile x) p.coords
  pub shards : Shards (λ d s x. AtRest c m.rows m.committed m.tx (keys_of m.touched) s x) p
  pub sizes : Complete c p
  pub order : map (λ (x : ℕ × List Entry). x.0) p.committed ≡ m.committed
  pub unknown : (u : ℕ) → (In u begun → ⊥) → found nat_cmp p.clients u ≡ None
  pub client : is_over ≡ false → found nat_cmp p.clients m.tx ≡ Some (open_client m.rows m.touched)
  pub clients : length p.clients ≤ most_transactions
  pub count : length p.clients ≡ length begun
  pub committed : length m.committed + cond is_over 0 1 ≤ length p.clients

-- THE SESSION
pub record Between (c : Layout) (m : Calm) (begun : List ℕ) (last : Option ℕ) (is_over : Bool) (z : Session) : Type 0 where
  pub sane : Sane m begun last is_over
  pub parties : Peaceful c m begun is_over z.world.parties
  pub queue : Queued z.world []
  pub coords_fit : Fit (λ (x : CoordNode). x.log) z.coords z.world.parties.coords
  pub shards_fit : Fit (λ (x : ShardNode). x.log) z.shards z.world.parties.shards

-- no log is full
pub peaceful_room : (c : Layout) (m : Calm) (begun : List ℕ) (is_over : Bool) (p : Parties) → Peaceful c m begun is_over p → HasRoom (λ (x : CoordNode). x.log) p.coords × HasRoom (λ (x : ShardNode). x.log) p.shards
peaceful_room c m begun is_over p h =
    let a = h.clients in
    let b = h.committed in
    let few : length m.committed ≤ 1024 = omega (arith, a, b) in
    let k = short (length m.committed) few in
    let len = h.sizes.shards ∙ sym (ap (λ (l : Layout). l.dcs * l.shards) h.layout) in (
      coords_room c (λ d x. CoordIs m.committed m.committed new_volatile x) p.coords h.sizes.coords h.coords (λ d x w. let y = w.bytes in omega (arith, y, k)),
      shards_room (λ d s x. AtRest c m.rows m.committed m.tx (keys_of m.touched) s x) p len h.shards (λ d s x w. let y = w.bytes in omega (arith, y, k)),
    )

-- CLIENTS IN THE TABLE
module _ {K X : Type 0} (test : K → Bool) where
  pub set_none : (other : K → Bool) (es : List (K × X)) (w : X) → lookup other es ≡ None → lookup other (set_value test es w) ≡ None
  set_none other [] w h = refl
  set_none other (e ∷ es) w h = go (test e.0) (other e.0) refl h (set_none other es w)
    where
      go : (v u : Bool) → other e.0 ≡ u → cond u (Some e.1) (lookup other es) ≡ None → (lookup other es ≡ None → lookup other (set_value test es w) ≡ None) → lookup other (cond v ((e.0, w) ∷ es) (e ∷ set_value test es w)) ≡ None
      go v true q h more = absurd (cc)
      go true false q h more = rw q h
      go false false q h more = rw q (more h)

  pub set_count : (es : List (K × X)) (w : X) → length (set_value test es w) ≡ length es
  set_count [] w = refl
  set_count (e ∷ es) w = go (test e.0) (set_count es w)
    where
      go : (v : Bool) → length (set_value test es w) ≡ length es → length (cond v ((e.0, w) ∷ es) (e ∷ set_value test es w)) ≡ suc (length es)
      go true h = refl
      go false h = ap suc h

-- with more keys that may be marked
pub rests_more : (c : Layout) (rows : Map) (over : List ℕ) (t : ℕ) (keys more : List (List ℕ)) (s : ℕ) (x : ShardNode) → ((k : List ℕ) → In k keys → In k more) → AtRest c rows over t keys s x → AtRest c rows over t more s x
rests_more c rows over t keys more s x f r = record {
  up = r.up;
  parts = r.parts;
  version = r.version;
  value = r.value;
  finished = r.finished;
  lost = r.lost;
  waiting = r.waiting;
  bytes = r.bytes;
  plain = λ n i. let z = r.plain n i in (z.0, f n.0 z.1, z.2);
}

-- where no key may be, the next transaction is at rest too
pub rests_next : (c : Layout) (rows : Map) (over : List ℕ) (t u : ℕ) (s : ℕ) (x : ShardNode) → AtRest c rows over t [] s x → AtRest c rows over u [] s x
rests_next c rows over t u s x r = record {
  up = r.up;
  parts = r.parts;
  version = r.version;
  value = r.value;
  finished = r.finished;
  lost = r.lost;
  waiting = r.waiting;
  bytes = r.bytes;
  plain = λ n i. absurd (r.plain n i).1;
}

-- the open client has touched more
pub with_touched : (c : Layout) (m : Calm) (begun : List ℕ) (touched : List Touched) (p : Parties) → ((k : List ℕ) → In k (keys_of m.touched) → In k (keys_of touched)) → Peaceful c m begun false p
    → Peaceful c (with_due m touched 0) begun false (with_client p m.tx (open_client m.rows touched))
with_touched c m begun touched p f h = record {
  layout = h.layout;
  start = h.start;
  coords = h.coords;
  shards = λ d s d1 d2 s1 s2. let z = h.shards d s d1 d2 s1 s2 in (z.0, z.1, rests_more c m.rows m.committed m.tx (keys_of m.touched) (keys_of touched) s z.0 f z.2);
  sizes = record { coords = h.sizes.coords; shards = h.sizes.shards };
  order = h.order;
  unknown = λ u n. set_none (λ k. is_at (nat_cmp m.tx) k) (λ k. is_at (nat_cmp u) k) p.clients (open_client m.rows touched) (h.unknown u n);
  client = λ _. found_set (λ k. is_at (nat_cmp m.tx) k) p.clients (open_client m.rows m.touched) (open_client m.rows touched) (h.client refl);
  clients = let a = h.clients in let n = set_count (λ k. is_at (nat_cmp m.tx) k) p.clients (open_client m.rows touched) in omega (arith, a, n);
  count = set_count (λ k. is_at (nat_cmp m.tx) k) p.clients (open_client m.rows touched) ∙ h.count;
  committed = let a = h.committed in let n = set_count (λ k. is_at (nat_cmp m.tx) k) p.clients (open_client m.rows touched) in omega (arith, a, n);
}

-- after a line of one event that leaves nothing pending
pub acted_between : (c : Layout) (m : Calm) (begun : List ℕ) (last : Option ℕ) (is_over : Bool) (z : Session) (p : Parties) (now : List Line) (d : LineDone) → LineActed z p [] now d
    → Fit (λ (x : CoordNode). x.log) z.coords p.coords → Fit (λ (x : ShardNode). x.log) z.shards p.shards → Sane m begun last is_over → Peaceful c m begun is_over p → Between c m begun last is_over d.after
acted_between c m begun last is_over z p now d a cf sf sane peace = record {
  sane = sane;
  parties = subst (Peaceful c m begun is_over) (sym a.parties) peace;
  queue = a.queue;
  coords_fit = subst (λ (xs : List Device). Fit (λ (x : CoordNode). x.log) xs d.after.world.parties.coords) (sym a.coords) (subst (λ (r : Parties). Fit (λ (x : CoordNode). x.log) z.coords r.coords) (sym a.parties) cf);
  shards_fit = subst (λ (xs : List Device). Fit (λ (x : ShardNode). x.log) xs d.after.world.parties.shards) (sym a.shards) (subst (λ (r : Parties). Fit (λ (x : ShardNode). x.log) z.shards r.shards) (sym a.parties) sf);
}
