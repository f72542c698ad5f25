-- What holds of every workload, by the definition of its file.
use Rattle.std.proofs.Common.{◌≡◌, ℕ, ℤ, pos, negsuc, ◌≤◌, leb, Bool, true, false, ◌&&◌, List, [], ◌∷◌, Option, Some, None, is_none, codes, refl, subst, arith}
use Rattle.std.specs.List.{AllByRecursion}
use Rattle.std.proofs.lemmas.Bool.{leb-true}
use Rattle.std.proofs.lemmas.Option.{none-some, same_Some}
use Rattle.rc_ids.specs.declared.fault.ClusterFault.{ClusterFault}
use Rattle.rc_ids.specs.declared.names.NodeId.{NodeId}
use Rattle.rc_ids.specs.Cluster.{layout, cluster_fault, equal_weights}
use Rattle.rc_script.specs.Words.{◌>>=◌, only_if, node_of}
use Rattle.rc_script.specs.Spelling.{IsIn, IsNodeOf}
use Rattle.rc_script.proofs.Steps.{bind_some, only_if_some}
use Rattle.rc_script.proofs.Names.{node_taken}
use Rattle.toml.specs.Data.{Data, Items, no_items, item, Members, get_member, as_integer, as_str, as_array, as_table}
use Rattle.rc_config.specs.declared.operation.Operation.{Operation}
use Rattle.rc_config.specs.declared.plan.ClientPlan.{ClientPlan}
use Rattle.rc_config.specs.declared.plan.StopPlan.{StopPlan}
use Rattle.rc_config.specs.declared.workload.Workload.{Workload}
use Rattle.rc_config.specs.Plans.{are_operations}
use Rattle.rc_config.specs.Sound.{IsClient, IsStop, IsWorkload}
use Rattle.rc_config.specs.Workload.{integer_in, number_at, node_at, operation_at, cons_each, each, file_keys, client_keys, stop_keys, has_only, needed, optional, operations_at, client_from, client_at, are_clients, clients_at, stop_from, stop_at, are_stops, stops_at, splits_at, weights_at, workload_of}

both : (a b : Bool) → (a && b) ≡ true → (a ≡ true) × (b ≡ true)
both true b e = (refl, e)
both false b e = absurd cc

-- ---- values

integer_fits : (low high : ℕ) (z : ℤ) (n : ℕ) → integer_in low high z ≡ Some n → IsIn low high n
integer_fits low high (pos m) n e =
    let a = only_if_some (leb low m && leb m high) m n e in
    let b = both (leb low m) (leb m high) a.0 in
    subst (IsIn low high) a.1 (leb-true low m b.0, leb-true m high b.1)
integer_fits low high (negsuc m) n e = absurd (none-some n e)

number_fits : (low high : ℕ) (value : Data) (n : ℕ) → number_at low high value ≡ Some n → IsIn low high n
number_fits low high value n e =
    let a = bind_some (as_integer value) (integer_in low high) n e in
    integer_fits low high a.0 n a.2

cons_some : {A : Type 0} (o : Option A) (os : Option (List A)) (xs : List A) → cons_each o os ≡ Some xs → (x : A) × (ys : List A) × (o ≡ Some x) × (os ≡ Some ys) × (x ∷ ys ≡ xs)
cons_some (Some x) (Some ys) xs e = (x, ys, refl, refl, same_Some _ _ e)
cons_some (Some x) None xs e = absurd (none-some xs e)
cons_some None os xs e = absurd (none-some xs e)

-- what holds of what any value is holds of what each item is
each_fits : {A : Type 0} (read : Data → Option A) (P : A → Type 0) → ((value : Data) (x : A) → read value ≡ Some x → P x) → (items : Items) (xs : List A) → each read items ≡ Some xs → AllByRecursion P xs
each_fits read P fits no_items xs e = subst (AllByRecursion P) (same_Some _ _ e) tt
each_fits read P fits (item value others) xs e =
    let c = cons_some (read value) (each read others) xs e in
    subst (AllByRecursion P) c.4 (fits value c.0 c.2, each_fits read P fits others c.1 c.3)

needed_some : {A : Type 0} (read : Data → Option A) (name : List ℕ) (entries : Members) (x : A) → needed read name entries ≡ Some x → (value : Data) × (read value ≡ Some x)
needed_some read name entries x e = let a = bind_some (get_member name entries) read x e in (a.0, a.2)

optional_fits : {A : Type 0} (P : A → Type 0) (default : A) (read : Data → Option A) (o : Option Data) (x : A) → P default → ((value : Data) → read value ≡ Some x → P x) → optional default read o ≡ Some x → P x
optional_fits P default read None x here fits e = subst P (same_Some _ _ e) here
optional_fits P default read (Some value) x here fits e = fits value e

-- ---- clients

operations_fit : (value : Data) (ops : List Operation) → operations_at value ≡ Some ops → are_operations ops ≡ true
operations_fit value ops e =
    let a = bind_some (as_array value) (λ items. each operation_at items >>= λ found. only_if (are_operations found) found) ops e in
    let b = bind_some (each operation_at a.0) (λ found. only_if (are_operations found) found) ops a.2 in
    let c = only_if_some (are_operations b.0) b.0 ops b.2 in
    subst (λ (found : List Operation). are_operations found ≡ true) c.1 c.0

abbrev made_client : ℕ → List Operation → ClientPlan
made_client tx ops = record { tx = tx; operations = ops }

client_fits : (value : Data) (client : ClientPlan) → client_at value ≡ Some client → IsClient client
client_fits value client e =
    let a = bind_some (as_table value) client_from client e in
    let b = bind_some (needed (number_at 1 4294967295) (codes "tx") a.0) (λ tx. needed operations_at (codes "ops") a.0 >>= λ ops. only_if (has_only client_keys a.0) (made_client tx ops)) client a.2 in
    let c = bind_some (needed operations_at (codes "ops") a.0) (λ ops. only_if (has_only client_keys a.0) (made_client b.0 ops)) client b.2 in
    let d = only_if_some (has_only client_keys a.0) (made_client b.0 c.0) client c.2 in
    let ops = needed_some operations_at (codes "ops") a.0 c.0 c.1 in
    subst IsClient d.1 (operations_fit ops.0 c.0 ops.1)

clients_fit : (value : Data) (clients : List ClientPlan) → clients_at value ≡ Some clients → (are_clients clients ≡ true) × AllByRecursion IsClient clients
clients_fit value clients e =
    let a = bind_some (as_array value) (λ items. each client_at items >>= λ found. only_if (are_clients found) found) clients e in
    let b = bind_some (each client_at a.0) (λ found. only_if (are_clients found) found) clients a.2 in
    let c = only_if_some (are_clients b.0) b.0 clients b.2 in
    subst (λ (found : List ClientPlan). (are_clients found ≡ true) × AllByRecursion IsClient found) c.1 (c.0, each_fits client_at IsClient client_fits a.0 b.0 b.1)

-- ---- stops

module _ (dcs shards : ℕ) (few : dcs ≤ 7) (small : shards ≤ 8) where
  node_fits : (value : Data) (node : NodeId) → node_at dcs shards value ≡ Some node → IsNodeOf dcs shards node
  node_fits value node e =
      let a = bind_some (as_str value) (node_of dcs shards) node e in
      (node_taken dcs shards a.0 node few small a.2).1

  abbrev made_stop : NodeId → ℕ → ℕ → StopPlan
  made_stop node call pick = record { node = node; call = call; pick = pick }

  stop_fits : (value : Data) (stop : StopPlan) → stop_at dcs shards value ≡ Some stop → IsStop dcs shards stop
  stop_fits value stop e =
      let a = bind_some (as_table value) (stop_from dcs shards) stop e in
      let b = bind_some (needed (node_at dcs shards) (codes "node") a.0) (λ node. needed (number_at 1 1000) (codes "call") a.0 >>= λ call. needed (number_at 0 3) (codes "pick") a.0 >>= λ pick. only_if (has_only stop_keys a.0) (made_stop node call pick)) stop a.2 in
      let c = bind_some (needed (number_at 1 1000) (codes "call") a.0) (λ call. needed (number_at 0 3) (codes "pick") a.0 >>= λ pick. only_if (has_only stop_keys a.0) (made_stop b.0 call pick)) stop b.2 in
      let d = bind_some (needed (number_at 0 3) (codes "pick") a.0) (λ pick. only_if (has_only stop_keys a.0) (made_stop b.0 c.0 pick)) stop c.2 in
      let last = only_if_some (has_only stop_keys a.0) (made_stop b.0 c.0 d.0) stop d.2 in
      let node = needed_some (node_at dcs shards) (codes "node") a.0 b.0 b.1 in
      let call = needed_some (number_at 1 1000) (codes "call") a.0 c.0 c.1 in
      let pick = needed_some (number_at 0 3) (codes "pick") a.0 d.0 d.1 in
      subst (IsStop dcs shards) last.1 (node_fits node.0 b.0 node.1, number_fits 1 1000 call.0 c.0 call.1, number_fits 0 3 pick.0 d.0 pick.1)

  stops_fit : (value : Data) (stops : List StopPlan) → stops_at dcs shards value ≡ Some stops → (are_stops stops ≡ true) × AllByRecursion (IsStop dcs shards) stops
  stops_fit value stops e =
      let a = bind_some (as_array value) (λ items. each (stop_at dcs shards) items >>= λ found. only_if (are_stops found) found) stops e in
      let b = bind_some (each (stop_at dcs shards) a.0) (λ found. only_if (are_stops found) found) stops a.2 in
      let c = only_if_some (are_stops b.0) b.0 stops b.2 in
      subst (λ (found : List StopPlan). (are_stops found ≡ true) × AllByRecursion (IsStop dcs shards) found) c.1 (c.0, each_fits (stop_at dcs shards) (IsStop dcs shards) stop_fits a.0 b.0 b.1)

-- ---- the file

no_fault : (fault : Option ClusterFault) → is_none fault ≡ true → fault ≡ None
no_fault None e = refl
no_fault (Some fault) e = absurd cc

module _ (entries : Members) where
  abbrev made : ℕ → ℕ → List (List ℕ) → List ℕ → ℕ → ℕ → List ClientPlan → List StopPlan → Workload
  made dcs shards splits weights lose again clients stops = record { dcs = dcs; shards = shards; splits = splits; weights = weights; lose_every = lose; repeat_every = again; clients = clients; stops = stops }

  abbrev from_stops : ℕ → ℕ → List (List ℕ) → List ℕ → ℕ → ℕ → List ClientPlan → List StopPlan → Option Workload
  from_stops dcs shards splits weights lose again clients stops =
      only_if (has_only file_keys entries && is_none (cluster_fault (layout dcs shards splits weights))) (made dcs shards splits weights lose again clients stops)

  abbrev from_clients : ℕ → ℕ → List (List ℕ) → List ℕ → ℕ → ℕ → List ClientPlan → Option Workload
  from_clients dcs shards splits weights lose again clients = optional [] (stops_at dcs shards) (get_member (codes "stop") entries) >>= from_stops dcs shards splits weights lose again clients

  abbrev from_again : ℕ → ℕ → List (List ℕ) → List ℕ → ℕ → ℕ → Option Workload
  from_again dcs shards splits weights lose again = needed clients_at (codes "client") entries >>= from_clients dcs shards splits weights lose again

  abbrev from_lose : ℕ → ℕ → List (List ℕ) → List ℕ → ℕ → Option Workload
  from_lose dcs shards splits weights lose = optional 0 (number_at 0 1000000) (get_member (codes "repeat_every") entries) >>= from_again dcs shards splits weights lose

  abbrev from_weights : ℕ → ℕ → List (List ℕ) → List ℕ → Option Workload
  from_weights dcs shards splits weights = optional 0 (number_at 0 1000000) (get_member (codes "lose_every") entries) >>= from_lose dcs shards splits weights

  abbrev from_splits : ℕ → ℕ → List (List ℕ) → Option Workload
  from_splits dcs shards splits = optional (equal_weights dcs) weights_at (get_member (codes "weights") entries) >>= from_weights dcs shards splits

  abbrev from_shards : ℕ → ℕ → Option Workload
  from_shards dcs shards = optional [] splits_at (get_member (codes "splits") entries) >>= from_splits dcs shards

  abbrev from_dcs : ℕ → Option Workload
  from_dcs dcs = needed (number_at 1 8) (codes "shards") entries >>= from_shards dcs

  rate_fits : (name : List ℕ) (n : ℕ) → optional 0 (number_at 0 1000000) (get_member name entries) ≡ Some n → IsIn 0 1000000 n
  rate_fits name n e = optional_fits (IsIn 0 1000000) 0 (number_at 0 1000000) (get_member name entries) n (omega arith, omega arith) (λ value found. number_fits 0 1000000 value n found) e

  pub workload_fits : (w : Workload) → workload_of entries ≡ Some w → IsWorkload w
  unfolding workload_of
  workload_fits w e =
      let a = bind_some (needed (number_at 1 7) (codes "dcs") entries) from_dcs w e in
      let b = bind_some (needed (number_at 1 8) (codes "shards") entries) (from_shards a.0) w a.2 in
      let c = bind_some (optional [] splits_at (get_member (codes "splits") entries)) (from_splits a.0 b.0) w b.2 in
      let d = bind_some (optional (equal_weights a.0) weights_at (get_member (codes "weights") entries)) (from_weights a.0 b.0 c.0) w c.2 in
      let f = bind_some (optional 0 (number_at 0 1000000) (get_member (codes "lose_every") entries)) (from_lose a.0 b.0 c.0 d.0) w d.2 in
      let g = bind_some (optional 0 (number_at 0 1000000) (get_member (codes "repeat_every") entries)) (from_again a.0 b.0 c.0 d.0 f.0) w f.2 in
      let h = bind_some (needed clients_at (codes "client") entries) (from_clients a.0 b.0 c.0 d.0 f.0 g.0) w g.2 in
      let i = bind_some (optional [] (stops_at a.0 b.0) (get_member (codes "stop") entries)) (from_stops a.0 b.0 c.0 d.0 f.0 g.0 h.0) w h.2 in
      let last = only_if_some (has_only file_keys entries && is_none (cluster_fault (layout a.0 b.0 c.0 d.0))) (made a.0 b.0 c.0 d.0 f.0 g.0 h.0 i.0) w i.2 in
      let dcs = needed_some (number_at 1 7) (codes "dcs") entries a.0 a.1 in
      let shards = needed_some (number_at 1 8) (codes "shards") entries b.0 b.1 in
      let clients = needed_some clients_at (codes "client") entries h.0 h.1 in
      let fit = clients_fit clients.0 h.0 clients.1 in
      let few = (number_fits 1 7 dcs.0 a.0 dcs.1).1 in
      let small = (number_fits 1 8 shards.0 b.0 shards.1).1 in
      let cut = optional_fits (λ (stops : List StopPlan). (are_stops stops ≡ true) × AllByRecursion (IsStop a.0 b.0) stops) [] (stops_at a.0 b.0) (get_member (codes "stop") entries) i.0 (refl, tt) (λ value found. stops_fit a.0 b.0 few small value i.0 found) i.1 in
      subst IsWorkload last.1 (record {
        cluster = no_fault (cluster_fault (layout a.0 b.0 c.0 d.0)) (both (has_only file_keys entries) (is_none (cluster_fault (layout a.0 b.0 c.0 d.0))) last.0).1;
        rates = (rate_fits (codes "lose_every") f.0 f.1, rate_fits (codes "repeat_every") g.0 g.1);
        clients = fit.0;
        operations = fit.1;
        stops = cut.0;
        cuts = cut.1;
      })
