-- What holds of every workload that is read.
use Rattle.std.specs.Prelude.{◌≡◌, ℕ, IsTrue, None}
use Rattle.std.specs.List.{AllByRecursion}
use Rattle.rc_ids.specs.Cluster.{layout, cluster_fault}
use Rattle.rc_script.specs.Spelling.{IsIn, IsNodeOf}
use Rattle.rc_config.specs.declared.plan.ClientPlan.{ClientPlan}
use Rattle.rc_config.specs.declared.plan.StopPlan.{StopPlan}
use Rattle.rc_config.specs.declared.workload.Workload.{Workload}
use Rattle.rc_config.specs.Plans.{are_operations}
use Rattle.rc_config.specs.Workload.{are_clients, are_stops}

-- its operations name few keys, and may stand in their order
abbrev pub IsClient : ClientPlan → Type 0
IsClient client = IsTrue (are_operations client.operations)

-- a node of the world, a call and a pick of a cut
abbrev pub IsStop : ℕ → ℕ → StopPlan → Type 0
IsStop dcs shards stop = IsNodeOf dcs shards stop.node × IsIn 1 1000 stop.call × IsIn 0 3 stop.pick

pub record IsWorkload (w : Workload) : Type 0 where
  pub cluster : cluster_fault (layout w.dcs w.shards w.splits w.weights) ≡ None
  pub rates : IsIn 0 1000000 w.lose_every × IsIn 0 1000000 w.repeat_every
  pub clients : IsTrue (are_clients w.clients)
  pub operations : AllByRecursion IsClient w.clients
  pub stops : IsTrue (are_stops w.stops)
  pub cuts : AllByRecursion (IsStop w.dcs w.shards) w.stops
