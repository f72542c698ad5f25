-- The tables of a coordinator as the durable and the volatile state of its rows.
use Rattle.std.specs.Prelude.{◌≡◌, ℕ, Bool, false, IsTrue}
use Rattle.rc_ids.specs.Cluster.{Layout, is_dc}
use Rattle.rc_log.specs.Journals.{State}
use Rattle.rc_msg.specs.Outboxes.{Outbox}
use Rattle.rc_protocol.specs.Acts.{NodeCause, coord_act}
use Rattle.rc_protocol.specs.Coordinator.{CoordDurable, CoordVolatile}
use Rattle.rc_node.specs.Acts.{NodeAct, Site, View, coord_does}
use Rattle.rc_node.specs.Cores.{Core}
use Rattle.rc_coord_tables.specs.Gathers.{AreOf}
use Rattle.rc_coord.specs.declared.tables.Tables.{Tables}
use Rattle.rc_coord.specs.declared.tables.Store.{Store}

abbrev pub durable_of : Tables → CoordDurable
durable_of tables = record { promises = tables.acceptor.promises.table; accepted = tables.acceptor.accepted.table; outcomes = tables.outcomes.entries }

abbrev pub volatile_of : Tables → CoordVolatile
volatile_of tables = record { gathers = tables.gathers.table; takeovers = tables.takeovers.table; votes = tables.votes.table; cursors = tables.places.table }

abbrev pub view_of : Tables → Outbox → View CoordDurable CoordVolatile
view_of tables out = record { durable = durable_of tables; volatile = volatile_of tables; out = out }

abbrev pub site_of : {J : Type 0} → (J → State) → Store J → Outbox → Site CoordDurable CoordVolatile
site_of state store out = record { durable = durable_of store.tables; volatile = volatile_of store.tables; journal = state store.journal; out = out }

-- a coordinator as its callers see it; its name is its datacentre
abbrev pub CoordCore : Type 0 → Type 0
CoordCore J = Core ℕ CoordDurable CoordVolatile J

-- what the coordinator does at a cause
abbrev pub act_at : {J : Type 0} → CoordCore J → NodeCause → NodeAct CoordDurable CoordVolatile
act_at x cause = coord_does x.durable (coord_act x.cluster x.name x.durable x.volatile cause)

abbrev pub core_of : {J : Type 0} → Layout → ℕ → Store J → Bool → CoordCore J
core_of cluster dc store stopped = record {
  cluster = cluster;
  name = dc;
  durable = durable_of store.tables;
  volatile = volatile_of store.tables;
  journal = store.journal;
  stopped = stopped;
}

-- the tables are of this cluster
pub record Fits (c : Layout) (tables : Tables) : Type 0 where
  pub votes : tables.votes.weights ≡ c.weights
  pub dcs : tables.takeovers.dcs ≡ c.dcs
  pub weights : tables.takeovers.weights ≡ c.weights
  pub gathers : AreOf c tables.gathers

-- what holds of each coordinator: it is of its world, its tables fit, and unless it is stopped its journal has not failed
pub record IsSound (c : Layout) (dc : ℕ) (tables : Tables) (stopped failed : Bool) : Type 0 where
  pub dc_is : IsTrue (is_dc c dc)
  pub fit : Fits c tables
  pub sound : stopped ≡ false → failed ≡ false
