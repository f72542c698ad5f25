-- Two worlds whose nodes differ in their logs alone, which say the same: their parties do the same in each event, and stay so.
use Rattle.std.proofs.Common.{◌≡◌, ℕ, List, refl, ap, subst, Bool, true, false, cond, Option, Some, None}
use Rattle.std.specs.Prelude.{slice_set}
use Rattle.rc_ids.specs.Tables.{maybe, found}
use Rattle.std.specs.Ordering.{nat_cmp}
use Rattle.rc_ids.specs.Cluster.{is_dc}
use Rattle.rc_ids.specs.declared.names.NodeId.{NodeId}
use Rattle.rc_ids.specs.declared.names.NodeId.TheVariants.{Coord, Shard as ShardServer}
use Rattle.rc_ids.specs.declared.names.Party.{Party}
use Rattle.rc_ids.specs.declared.names.Party.TheVariants.{Node, Client as ClientOf}
use Rattle.rc_body.specs.declared.entry.Entry.{Entry}
use Rattle.rc_msg.specs.declared.msg.Envelope.{Envelope}
use Rattle.rc_record.specs.declared.record.Record.{Record}
use Rattle.rc_report.specs.declared.fault.Wrong.TheVariants.{Down}
use Rattle.rc_runs.specs.declared.event.Event.{Event}
use Rattle.rc_runs.specs.declared.event.Event.TheVariants.{Begin, Read, Write, Commit, Cancel, Retry, Vanish, Take, Catch, Deliver, Lose, Crash, CrashAt, Restart}
use Rattle.rc_protocol.specs.Client.{Client, ClientAct}
use Rattle.rc_protocol.specs.Shard.{ShardAct}
use Rattle.rc_protocol.specs.Coordinator.{CoordAct}
use Rattle.rc_protocol.specs.Acts.{NodeCause, Came, Catches, Takes, ClientCause, Hears, Reads, Writes, Commits, Cancels, Retries, Vanishes, client_act, coord_act, shard_act}
use Rattle.rc_protocol.specs.Nodes.{CoordNode, ShardNode, coord_index, shard_index, coord_started, shard_started, coord_after, shard_after, coord_stopped, shard_stopped}
use Rattle.rc_runs.specs.World.{Parties, Deed, Idle, ByClient, ByCoord, ByShard, CoordStops, ShardStops, Course, Goes, Stops, kept_record, coord_at, shard_at, is_shard_of, is_up, message, received, coord_does, shard_does, client_does, catches, stops, restarts, deed, along, lines_of, with_coord, with_shard, parties_after}
use Rattle.rc_runs.specs.Refusals.{wants_up, worn_out}
use Rattle.rc_claims.specs.Lives.{Pairwise}
use Rattle.rc_agreement.proofs.AlikeLogs.{CoordLike, SameButLog, ShardLike, SameButItsLog, BothOrNone, Neither, Both, get_like, set_like, coord_logged, shard_logged, coord_starts, shard_starts, ordered_same}

-- all but the nodes is the same
pub data PartiesLike : Parties → Parties → Type 0 where
  SameButNodes : (w : Parties) (cs : List CoordNode) (ss : List ShardNode) → Pairwise CoordLike w.coords cs → Pairwise ShardLike w.shards ss → PartiesLike w (record w { coords = cs; shards = ss })

pub data DeedLike : Deed → Deed → Type 0 where
  BothIdle : DeedLike Idle Idle
  BothByClient : (t : ℕ) (a : ClientAct) → DeedLike (ByClient t a) (ByClient t a)
  BothByCoord : (d : ℕ) (x y : CoordNode) (a : CoordAct) → CoordLike x y → DeedLike (ByCoord d x a) (ByCoord d y a)
  BothByShard : (d s : ℕ) (x y : ShardNode) (a : ShardAct) → ShardLike x y → DeedLike (ByShard d s x a) (ByShard d s y a)
  CoordsStop : (d : ℕ) (x y : CoordNode) (kept : Option Record) → CoordLike x y → DeedLike (CoordStops d x kept) (CoordStops d y kept)
  ShardsStop : (d s : ℕ) (x y : ShardNode) (kept : Option Record) → ShardLike x y → DeedLike (ShardStops d s x kept) (ShardStops d s y kept)

both_cond : (b : Bool) (p q r s : Deed) → DeedLike p r → DeedLike q s → DeedLike (cond b p q) (cond b r s)
both_cond true p q r s h k = h
both_cond false p q r s h k = k

cond_get : {A B : Type 0} (R : A → B → Type 0) (b : Bool) (x : Option A) (y : Option B) → BothOrNone R x y → BothOrNone R (cond b x None) (cond b y None)
cond_get R true x y h = h
cond_get R false x y h = Neither

module _ (w : Parties) (cs : List CoordNode) (ss : List ShardNode) (hc : Pairwise CoordLike w.coords cs) (hs : Pairwise ShardLike w.shards ss) where
  abbrev y : Parties
  y = record w { coords = cs; shards = ss }

  pub coord_like : (d : ℕ) → BothOrNone CoordLike (coord_at w d) (coord_at y d)
  coord_like d = cond_get CoordLike (is_dc w.layout d) _ _ (get_like CoordLike w.coords cs hc (coord_index d))

  pub shard_like : (d s : ℕ) → BothOrNone ShardLike (shard_at w d s) (shard_at y d s)
  shard_like d s = cond_get ShardLike (is_shard_of w.layout d s) _ _ (get_like ShardLike w.shards ss hs (shard_index w.layout d s))

  -- WHO ACTS, and how
  coord_does_like : (d : ℕ) (k : NodeCause) → DeedLike (coord_does w d k) (coord_does y d k)
  coord_does_like d k = go (coord_at w d) (coord_at y d) (coord_like d)
    where
      does : Option CoordNode → Deed
      does o = maybe o Idle (λ x. cond x.up (ByCoord d x (coord_act w.layout d x.durable x.volatile k)) Idle)

      go : (a b : Option CoordNode) → BothOrNone CoordLike a b → DeedLike (does a) (does b)
      go _ _ Neither = BothIdle
      go _ _ (Both _ _ (SameButLog x log s)) = both_cond x.up _ _ _ _ (BothByCoord d x _ (coord_act w.layout d x.durable x.volatile k) (SameButLog x log s)) BothIdle

  shard_does_like : (d s : ℕ) (k : NodeCause) → DeedLike (shard_does w d s k) (shard_does y d s k)
  shard_does_like d s k = go (shard_at w d s) (shard_at y d s) (shard_like d s)
    where
      does : Option ShardNode → Deed
      does o = maybe o Idle (λ x. cond x.up (ByShard d s x (shard_act w.layout d s x.durable x.volatile k)) Idle)

      go : (a b : Option ShardNode) → BothOrNone ShardLike a b → DeedLike (does a) (does b)
      go _ _ Neither = BothIdle
      go _ _ (Both _ _ (SameButItsLog x log e)) = both_cond x.up _ _ _ _ (BothByShard d s x _ (shard_act w.layout d s x.durable x.volatile k) (SameButItsLog x log e)) BothIdle

  client_does_like : (t : ℕ) (k : ClientCause) → DeedLike (client_does w t k) (client_does y t k)
  client_does_like t k = go (found nat_cmp w.clients t)
    where
      does : Option Client → Deed
      does o = maybe o Idle (λ x. ByClient t (client_act w.layout t x k))

      go : (o : Option Client) → DeedLike (does o) (does o)
      go None = BothIdle
      go (Some x) = BothByClient t (client_act w.layout t x k)

  received_like : (e : Envelope) (to : Party) → DeedLike (received w e to) (received y e to)
  received_like e (Node (Coord d)) = coord_does_like d (Came e.from e.msg)
  received_like e (Node (ShardServer d s)) = shard_does_like d s (Came e.from e.msg)
  received_like e (ClientOf t) = client_does_like t (Hears e.msg)

  catches_like : (node : NodeId) → DeedLike (catches w node) (catches y node)
  catches_like (Coord d) = coord_does_like d Catches
  catches_like (ShardServer d s) = shard_does_like d s Catches

  stops_like : (node : NodeId) → DeedLike (stops w node) (stops y node)
  stops_like (Coord d) = go (coord_at w d) (coord_at y d) (coord_like d)
    where
      does : Option CoordNode → Deed
      does o = maybe o Idle (λ x. CoordStops d x None)

      go : (a b : Option CoordNode) → BothOrNone CoordLike a b → DeedLike (does a) (does b)
      go _ _ Neither = BothIdle
      go _ _ (Both x z h) = CoordsStop d x z None h
  stops_like (ShardServer d s) = go (shard_at w d s) (shard_at y d s) (shard_like d s)
    where
      does : Option ShardNode → Deed
      does o = maybe o Idle (λ x. ShardStops d s x None)

      go : (a b : Option ShardNode) → BothOrNone ShardLike a b → DeedLike (does a) (does b)
      go _ _ Neither = BothIdle
      go _ _ (Both x z h) = ShardsStop d s x z None h

  restarts_like : (node : NodeId) → DeedLike (restarts w node) (restarts y node)
  restarts_like (Coord d) = go (coord_at w d) (coord_at y d) (coord_like d)
    where
      does : Option CoordNode → Deed
      does o = maybe o Idle (λ x. ByCoord d (coord_started x.log) (coord_act w.layout d (coord_started x.log).durable (coord_started x.log).volatile Catches))

      go : (a b : Option CoordNode) → BothOrNone CoordLike a b → DeedLike (does a) (does b)
      go _ _ Neither = BothIdle
      go _ _ (Both _ _ (SameButLog x log s)) = BothByCoord d (coord_started x.log) (coord_started log) _ (coord_starts x.log log s)
  restarts_like (ShardServer d s) = go (shard_at w d s) (shard_at y d s) (shard_like d s)
    where
      does : Option ShardNode → Deed
      does o = maybe o Idle (λ x. ByShard d s (shard_started x.log) (shard_act w.layout d s (shard_started x.log).durable (shard_started x.log).volatile Catches))

      go : (a b : Option ShardNode) → BothOrNone ShardLike a b → DeedLike (does a) (does b)
      go _ _ Neither = BothIdle
      go _ _ (Both _ _ (SameButItsLog x log e)) = BothByShard d s (shard_started x.log) (shard_started log) _ (shard_starts x.log log e)

  pub deed_like : (sent : List Envelope) (e : Event) → DeedLike (deed w sent e) (deed y sent e)
  deed_like sent (Begin t) = BothIdle
  deed_like sent (Read t k) = client_does_like t (Reads k)
  deed_like sent (Write t k value) = client_does_like t (Writes k value)
  deed_like sent (Commit t) = client_does_like t Commits
  deed_like sent (Cancel t k) = client_does_like t (Cancels k)
  deed_like sent (Retry t) = client_does_like t Retries
  deed_like sent (Vanish t) = client_does_like t Vanishes
  deed_like sent (Take d t) = coord_does_like d (Takes t)
  deed_like sent (Catch node) = catches_like node
  deed_like sent (Deliver n) = go (message sent n)
    where
      go : (o : Option Envelope) → DeedLike (maybe o Idle (λ e. received w e e.to)) (maybe o Idle (λ e. received y e e.to))
      go None = BothIdle
      go (Some e) = received_like e e.to
  deed_like sent (Lose n) = BothIdle
  deed_like sent (Crash node) = stops_like node
  deed_like sent (CrashAt node k pick) = BothIdle
  deed_like sent (Restart node) = restarts_like node

  -- WHAT IS REFUSED
  pub up_same : (node : NodeId) → is_up w node ≡ is_up y node
  up_same (Coord d) = go (coord_at w d) (coord_at y d) (coord_like d)
    where
      go : (a b : Option CoordNode) → BothOrNone CoordLike a b → maybe a false (λ x. x.up) ≡ maybe b false (λ x. x.up)
      go _ _ Neither = refl
      go _ _ (Both _ _ (SameButLog x log s)) = refl
  up_same (ShardServer d s) = go (shard_at w d s) (shard_at y d s) (shard_like d s)
    where
      go : (a b : Option ShardNode) → BothOrNone ShardLike a b → maybe a false (λ x. x.up) ≡ maybe b false (λ x. x.up)
      go _ _ Neither = refl
      go _ _ (Both _ _ (SameButItsLog x log e)) = refl

  pub wants_same : (node : NodeId) → wants_up w node ≡ wants_up y node
  wants_same node = ap (λ (b : Bool). cond b None (Some (Down node))) (up_same node)

  -- AFTER THE DEED
  with_coord_like : (d : ℕ) (x z : CoordNode) (r : Option Record) → CoordLike x z → PartiesLike (with_coord w d x r) (with_coord y d z r)
  with_coord_like d x z r h =
      let set = set_like CoordLike w.coords cs x z hc h (coord_index d) in
      subst
      (λ (l : List (ℕ × List Entry)). PartiesLike (with_coord w d x r) (record w { coords = slice_set cs (coord_index d) z; shards = ss; committed = l }))
      (ordered_same w.layout (slice_set w.coords (coord_index d) x) (slice_set cs (coord_index d) z) set w.start.committed w.committed r)
      (SameButNodes (with_coord w d x r) (slice_set cs (coord_index d) z) ss set hs)

  with_shard_like : (d s : ℕ) (x z : ShardNode) → ShardLike x z → PartiesLike (with_shard w d s x) (with_shard y d s z)
  with_shard_like d s x z h = SameButNodes (with_shard w d s x) cs (slice_set ss (shard_index w.layout d s) z) hc (set_like ShardLike w.shards ss x z hs h (shard_index w.layout d s))

  pub moved_like : (p q : Deed) → DeedLike p q → PartiesLike (parties_after w p) (parties_after y q)
  moved_like _ _ BothIdle = SameButNodes w cs ss hc hs
  moved_like _ _ (BothByClient t a) = SameButNodes (parties_after w (ByClient t a)) cs ss hc hs
  moved_like _ _ (BothByCoord d _ _ a (SameButLog x log s)) =
      with_coord_like d (coord_after x a) (coord_after (record x { log = log }) a) a.logs (SameButLog (coord_after x a) _ (coord_logged x.log log a.logs s))
  moved_like _ _ (BothByShard d s _ _ a (SameButItsLog x log e)) =
      with_shard_like d s (shard_after x a) (shard_after (record x { log = log }) a) (SameButItsLog (shard_after x a) _ (shard_logged x.log log a.logs e))
  moved_like _ _ (CoordsStop d _ _ kept (SameButLog x log s)) =
      with_coord_like d (coord_stopped x kept) (coord_stopped (record x { log = log }) kept) kept (SameButLog (coord_stopped x kept) _ (coord_logged x.log log kept s))
  moved_like _ _ (ShardsStop d s _ _ kept (SameButItsLog x log e)) =
      with_shard_like d s (shard_stopped x kept) (shard_stopped (record x { log = log }) kept) (SameButItsLog (shard_stopped x kept) _ (shard_logged x.log log kept e))

pub along_like : (course : Course) (p q : Deed) → DeedLike p q → DeedLike (along course p) (along course q)
along_like Goes p q h = h
along_like (Stops kept) _ _ BothIdle = BothIdle
along_like (Stops kept) _ _ (BothByClient t a) = BothByClient t a
along_like (Stops kept) _ _ (BothByCoord d x y a h) = go a.logs
  where
    go : (o : Option Record) → DeedLike (maybe o (ByCoord d x a) (λ r. CoordStops d x (kept_record kept r))) (maybe o (ByCoord d y a) (λ r. CoordStops d y (kept_record kept r)))
    go None = BothByCoord d x y a h
    go (Some r) = CoordsStop d x y (kept_record kept r) h
along_like (Stops kept) _ _ (BothByShard d s x y a h) = go a.logs
  where
    go : (o : Option Record) → DeedLike (maybe o (ByShard d s x a) (λ r. ShardStops d s x (kept_record kept r))) (maybe o (ByShard d s y a) (λ r. ShardStops d s y (kept_record kept r)))
    go None = BothByShard d s x y a h
    go (Some r) = ShardsStop d s x y (kept_record kept r) h
along_like (Stops kept) _ _ (CoordsStop d x y k h) = CoordsStop d x y k h
along_like (Stops kept) _ _ (ShardsStop d s x y k h) = ShardsStop d s x y k h

pub lines_of_same : (p q : Deed) → DeedLike p q → lines_of p ≡ lines_of q
lines_of_same _ _ BothIdle = refl
lines_of_same _ _ (BothByClient t a) = refl
lines_of_same _ _ (BothByCoord d x y a h) = refl
lines_of_same _ _ (BothByShard d s x y a h) = refl
lines_of_same _ _ (CoordsStop d x y k h) = refl
lines_of_same _ _ (ShardsStop d s x y k h) = refl

pub worn_same : (p q : Deed) → DeedLike p q → worn_out p ≡ worn_out q
worn_same _ _ BothIdle = refl
worn_same _ _ (BothByClient t a) = refl
worn_same _ _ (BothByCoord d x y a h) = refl
worn_same _ _ (BothByShard d s x y a h) = refl
worn_same _ _ (CoordsStop d x y k h) = refl
worn_same _ _ (ShardsStop d s x y k h) = refl
