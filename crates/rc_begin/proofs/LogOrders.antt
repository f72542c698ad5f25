-- The order that the logs of all coordinators have, and the names in all logs.
use Rattle.std.proofs.Common.{◌≡◌, ℕ, suc, List, [], ◌∷◌, length, map, refl, sym, ap, ◌∙◌, subst}
use Rattle.std.proofs.lemmas.List.{length-map}
use Rattle.rc_ids.specs.Cluster.{Layout}
use Rattle.rc_body.specs.declared.entry.Entry.{Entry}
use Rattle.rc_record.specs.declared.record.Record.{Record}
use Rattle.rc_protocol.specs.Nodes.{CoordNode, ShardNode, with_log as with_names}
use Rattle.rc_runs.specs.Starts.{with_choices, all_choices, named_by_coords, named_by_shards}
use Rattle.rc_runs.specs.Stored.{records_of}
use Rattle.rc_order.specs.Orders.{Votes, Order}
use Rattle.rc_order.specs.Counts.{IsOrderOf}
use Rattle.rc_order.specs.Logs.{with_log, with_logs, LogLaws}
use Rattle.rc_begin.specs.Logs.{with_blobs, choices_of, names_of}
use Rattle.rc_begin.proofs.LogSteps.{Lists}

-- the logs of these nodes have these blobs
abbrev AreLogs : List CoordNode → List (List (List ℕ)) → Type 0
AreLogs coords logs = map (λ x. x.log) coords ≡ map records_of logs

head_same : {A : Type 0} (x y : A) (xs ys : List A) → x ∷ xs ≡ y ∷ ys → x ≡ y
head_same x y xs ys e = cc

tail_same : {A : Type 0} (x y : A) (xs ys : List A) → x ∷ xs ≡ y ∷ ys → xs ≡ ys
tail_same x y xs ys e = cc

votes_same : (xs : List CoordNode) (logs : List (List (List ℕ))) (votes : Votes) (d : ℕ) → AreLogs xs logs → with_blobs votes d logs ≡ with_logs votes d xs
votes_same [] [] votes d e = refl
votes_same [] (log ∷ logs) votes d e = absurd cc
votes_same (x ∷ xs) [] votes d e = absurd cc
votes_same (x ∷ xs) (log ∷ logs) votes d e =
    ap (λ (rs : List Record). with_blobs (with_log votes d rs) (suc d) logs) (sym (head_same _ _ _ _ e))
    ∙ votes_same xs logs (with_log votes d x.log) (suc d) (tail_same _ _ _ _ e)

choices_same : (c : Layout) (coords xs : List CoordNode) (logs : List (List (List ℕ))) (chosen : List (ℕ × List Entry)) → AreLogs xs logs
    → choices_of c coords chosen logs ≡ all_choices c coords chosen xs
choices_same c coords [] [] chosen e = refl
choices_same c coords [] (log ∷ logs) chosen e = absurd cc
choices_same c coords (x ∷ xs) [] chosen e = absurd cc
choices_same c coords (x ∷ xs) (log ∷ logs) chosen e =
    ap (λ (rs : List Record). choices_of c coords (with_choices c coords chosen rs) logs) (sym (head_same _ _ _ _ e))
    ∙ choices_same c coords xs logs (with_choices c coords chosen x.log) (tail_same _ _ _ _ e)

as_many : (xs : List CoordNode) (logs : List (List (List ℕ))) → AreLogs xs logs → length logs ≡ length xs
as_many xs logs e = sym (length-map logs records_of) ∙ sym (ap length e) ∙ length-map xs (λ (x : CoordNode). x.log)

-- all votes are counted, and then what they choose is listed
pub order_is : (c : Layout) (coords : List CoordNode) (logs : List (List (List ℕ))) (counted listed : Order)
    → LogLaws c coords counted
    → length coords ≡ c.dcs → AreLogs coords logs
    → c.weights ≡ counted.weights
    → (length logs ≡ c.dcs → counted.votes ≡ with_blobs [] 1 logs)
    → counted.earlier ≡ [] → counted.listed ≡ []
    → Lists counted listed (λ c coords chosen. choices_of c coords chosen logs)
    → IsOrderOf c coords [] (all_choices c coords [] coords) listed
order_is c coords logs counted listed laws long are weights votes earlier none chosen =
    let all = laws.all long (votes (as_many coords logs are ∙ long) ∙ votes_same coords logs [] 1 are) in
    let begun : IsOrderOf c coords [] [] counted = record { weights = weights; counted = all; earlier = sym earlier; listed = sym none } in
    subst (λ (cs : List (ℕ × List Entry)). IsOrderOf c coords [] cs listed) (choices_same c coords coords logs [] are) (chosen c coords [] begun)

-- NAMES
coords_name : (xs : List CoordNode) (logs : List (List (List ℕ))) (named : List ℕ) → AreLogs xs logs → names_of named logs ≡ named_by_coords named xs
coords_name [] [] named e = refl
coords_name [] (log ∷ logs) named e = absurd cc
coords_name (x ∷ xs) [] named e = absurd cc
coords_name (x ∷ xs) (log ∷ logs) named e =
    ap (λ (rs : List Record). names_of (with_names named rs) logs) (sym (head_same _ _ _ _ e)) ∙ coords_name xs logs (with_names named x.log) (tail_same _ _ _ _ e)

shards_name : (xs : List ShardNode) (logs : List (List (List ℕ))) (named : List ℕ) → map (λ x. x.log) xs ≡ map records_of logs → names_of named logs ≡ named_by_shards named xs
shards_name [] [] named e = refl
shards_name [] (log ∷ logs) named e = absurd cc
shards_name (x ∷ xs) [] named e = absurd cc
shards_name (x ∷ xs) (log ∷ logs) named e =
    ap (λ (rs : List Record). names_of (with_names named rs) logs) (sym (head_same _ _ _ _ e)) ∙ shards_name xs logs (with_names named x.log) (tail_same _ _ _ _ e)

-- first those of the coordinators' logs, and then those of the shard servers'
pub names_are : (coord_logs shard_logs : List (List (List ℕ))) (none some all : List ℕ) → none ≡ [] → some ≡ names_of none coord_logs → all ≡ names_of some shard_logs
    → (coords : List CoordNode) (shards : List ShardNode) → AreLogs coords coord_logs → map (λ x. x.log) shards ≡ map records_of shard_logs
    → all ≡ named_by_shards (named_by_coords [] coords) shards
names_are coord_logs shard_logs none some all empty first second coords shards of_coords of_shards =
    second ∙ shards_name shards shard_logs some of_shards
    ∙ ap (λ (n : List ℕ). named_by_shards n shards) (first ∙ ap (λ (n : List ℕ). names_of n coord_logs) empty ∙ coords_name coords coord_logs [] of_coords)
