-- The workload that a TOML document is.
use Rattle.std.specs.Prelude.{◌≡◌, ℕ, ℤ, pos, negsuc, ◌==◌, nat_le, Bool, true, false, not, ◌&&◌, List, [], ◌∷◌, length, codes, Option, Some, None, is_none, Result, Ok, Err, if◌then◌else◌}
use Rattle.std.specs.List.{list_any, list_all}
use Rattle.std.specs.Str.{bytes_eq, is_utf8}
use Rattle.rc_ids.specs.declared.names.NodeId.{NodeId}
use Rattle.rc_ids.specs.Parties.{is_same_node}
use Rattle.rc_ids.specs.Cluster.{layout, cluster_fault, equal_weights}
use Rattle.rc_script.specs.Words.{◌>>=◌, only_if, key_of, node_of}
use Rattle.toml.specs.Data.{Data, Items, no_items, item, Members, no_members, member, get_member, as_integer, as_str, as_array, as_table}
use Rattle.toml.specs.Parse.{parse_document}
use Rattle.rc_config.specs.declared.operation.Operation.{Operation}
use Rattle.rc_config.specs.declared.plan.ClientPlan.{ClientPlan}
use Rattle.rc_config.specs.declared.plan.StopPlan.{StopPlan}
use Rattle.rc_config.specs.declared.toml_values.TableKind.{TableKind}
use Rattle.rc_config.specs.declared.toml_values.TableKind.TheVariants as kinds
use Rattle.rc_config.specs.declared.workload.Workload.{Workload}
use Rattle.rc_config.specs.declared.workload.WorkloadFault.{WorkloadFault}
use Rattle.rc_config.specs.declared.workload.WorkloadFault.TheVariants as faults
use Rattle.rc_config.specs.Plans.{operation_of, are_operations}

-- ---- values

abbrev pub integer_in : ℕ → ℕ → ℤ → Option ℕ
integer_in low high (pos n) = only_if (nat_le low n && nat_le n high) n
integer_in low high (negsuc n) = None

-- an integer in this range
abbrev pub number_at : ℕ → ℕ → Data → Option ℕ
number_at low high value = as_integer value >>= integer_in low high

abbrev pub key_at : Data → Option (List ℕ)
key_at value = as_str value >>= key_of

abbrev pub operation_at : Data → Option Operation
operation_at value = as_str value >>= operation_of

-- a node of a world of so many datacentres and shards
abbrev pub node_at : ℕ → ℕ → Data → Option NodeId
node_at dcs shards value = as_str value >>= node_of dcs shards

abbrev pub cons_each : {A : Type 0} → Option A → Option (List A) → Option (List A)
cons_each (Some x) (Some xs) = Some (x ∷ xs)
cons_each (Some x) None = None
cons_each None xs = None

-- what each item of an array is, where each of them is one
abbrev pub each : {A : Type 0} → (Data → Option A) → Items → Option (List A)
each read no_items = Some []
each read (item value others) = cons_each (read value) (each read others)

-- ---- keys of tables

abbrev pub is_among : List (List ℕ) → List ℕ → Bool
is_among names name = list_any (bytes_eq name) names

-- there are no other keys than these
abbrev pub has_only : List (List ℕ) → Members → Bool
has_only names no_members = true
has_only names (member name value others) = is_among names name && has_only names others

-- the keys of a file, of a client and of a stop
abbrev pub file_keys : List (List ℕ)
file_keys =
    codes "dcs" ∷ codes "shards" ∷ codes "splits" ∷ codes "weights" ∷ codes "lose_every" ∷ codes "repeat_every" ∷ codes "client" ∷ codes "stop" ∷ []

abbrev pub client_keys : List (List ℕ)
client_keys = codes "tx" ∷ codes "ops" ∷ []

abbrev pub stop_keys : List (List ℕ)
stop_keys = codes "node" ∷ codes "call" ∷ codes "pick" ∷ []

abbrev pub names_of : TableKind → List (List ℕ)
names_of kinds.File = file_keys
names_of kinds.Client = client_keys
names_of kinds.Stop = stop_keys

-- what a key of the table is, where it is there
abbrev pub needed : {A : Type 0} → (Data → Option A) → List ℕ → Members → Option A
needed read name entries = get_member name entries >>= read

-- what a key that may be missing is
abbrev pub optional : {A : Type 0} → A → (Data → Option A) → Option Data → Option A
optional default read None = Some default
optional default read (Some value) = read value

-- ---- clients

abbrev pub operations_at : Data → Option (List Operation)
operations_at value = do
  items ← as_array value
  ops ← each operation_at items
  only_if (are_operations ops) ops

abbrev pub client_from : Members → Option ClientPlan
client_from entries = do
  tx ← needed (number_at 1 4294967295) (codes "tx") entries
  ops ← needed operations_at (codes "ops") entries
  only_if (has_only client_keys entries) (record { tx = tx; operations = ops })

abbrev pub client_at : Data → Option ClientPlan
client_at value = as_table value >>= client_from

abbrev pub have_other_txs : ℕ → List ClientPlan → Bool
have_other_txs tx clients = list_all (λ client. not (client.tx == tx)) clients

abbrev pub txs_differ : List ClientPlan → Bool
txs_differ [] = true
txs_differ (client ∷ others) = have_other_txs client.tx others && txs_differ others

-- 1 to 32 clients, whose transactions differ
abbrev pub are_clients : List ClientPlan → Bool
are_clients clients = nat_le 1 (length clients) && (nat_le (length clients) 32 && txs_differ clients)

abbrev pub clients_at : Data → Option (List ClientPlan)
clients_at value = do
  items ← as_array value
  clients ← each client_at items
  only_if (are_clients clients) clients

-- ---- stops

abbrev pub stop_from : ℕ → ℕ → Members → Option StopPlan
stop_from dcs shards entries = do
  node ← needed (node_at dcs shards) (codes "node") entries
  call ← needed (number_at 1 1000) (codes "call") entries
  pick ← needed (number_at 0 3) (codes "pick") entries
  only_if (has_only stop_keys entries) (record { node = node; call = call; pick = pick })

abbrev pub stop_at : ℕ → ℕ → Data → Option StopPlan
stop_at dcs shards value = as_table value >>= stop_from dcs shards

abbrev pub have_other_nodes : NodeId → List StopPlan → Bool
have_other_nodes node stops = list_all (λ stop. not (is_same_node stop.node node)) stops

abbrev pub nodes_differ : List StopPlan → Bool
nodes_differ [] = true
nodes_differ (stop ∷ others) = have_other_nodes stop.node others && nodes_differ others

-- at most 32 stops, one for a node
abbrev pub are_stops : List StopPlan → Bool
are_stops stops = nat_le (length stops) 32 && nodes_differ stops

abbrev pub stops_at : ℕ → ℕ → Data → Option (List StopPlan)
stops_at dcs shards value = do
  items ← as_array value
  stops ← each (stop_at dcs shards) items
  only_if (are_stops stops) stops

-- ---- the file

abbrev pub splits_at : Data → Option (List (List ℕ))
splits_at value = as_array value >>= each key_at

abbrev pub weights_at : Data → Option (List ℕ)
weights_at value = as_array value >>= each (number_at 1 9)

-- the workload that a table is; there is a cluster of its datacentres, shards, split keys and weights
unfoldable pub workload_of : Members → Option Workload
workload_of entries = do
  dcs ← needed (number_at 1 7) (codes "dcs") entries
  shards ← needed (number_at 1 8) (codes "shards") entries
  splits ← optional [] splits_at (get_member (codes "splits") entries)
  weights ← optional (equal_weights dcs) weights_at (get_member (codes "weights") entries)
  lose_every ← optional 0 (number_at 0 1000000) (get_member (codes "lose_every") entries)
  repeat_every ← optional 0 (number_at 0 1000000) (get_member (codes "repeat_every") entries)
  clients ← needed clients_at (codes "client") entries
  stops ← optional [] (stops_at dcs shards) (get_member (codes "stop") entries)
  only_if (has_only file_keys entries && is_none (cluster_fault (layout dcs shards splits weights))) (record {
    dcs = dcs;
    shards = shards;
    splits = splits;
    weights = weights;
    lose_every = lose_every;
    repeat_every = repeat_every;
    clients = clients;
    stops = stops;
  })

-- the table of a file, which is TOML in UTF-8
unfoldable pub document_of : List ℕ → Option Members
document_of bytes = if is_utf8 bytes then parse_document bytes else None

abbrev pub found_in : Option Workload → Result Workload WorkloadFault
found_in None = Err faults.Schema
found_in (Some workload) = Ok workload

-- the workload that a file is, or why it is none
abbrev pub workload_in : Option Members → Result Workload WorkloadFault
workload_in None = Err faults.NotToml
workload_in (Some entries) = found_in (workload_of entries)

-- the call gave what the file is, unless memory ran out
abbrev pub GivesWorkload : Result Workload WorkloadFault → Result Workload WorkloadFault → Type 0
GivesWorkload file (Ok workload) = Ok workload ≡ file
GivesWorkload file (Err faults.NoMemory) = Unit {0}
GivesWorkload file (Err faults.NotToml) = Err faults.NotToml ≡ file
GivesWorkload file (Err faults.Schema) = Err faults.Schema ≡ file
