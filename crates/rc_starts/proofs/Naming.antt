-- A transaction that a log names is named at the start.
use Rattle.std.proofs.Common.{◌≡◌, ℕ, List, [], ◌∷◌, sym, subst, true, ⊎_elim}
use Rattle.std.specs.Prelude.{map}
use Rattle.std.specs.Ordering.{nat_cmp}
use Rattle.std.specs.List.{list_any}
use Rattle.rc_ids.specs.Tables.{In, member}
use Rattle.rc_ids.proofs.QuorumFacts.{member-in, in-member}
use Rattle.rc_ids.specs.Cluster.{Layout}
use Rattle.rc_protocol.specs.Nodes.{CoordNode, ShardNode, with_log}
use Rattle.rc_runs.specs.World.{World}
use Rattle.rc_claims.specs.Outcomes.{is_named}
use Rattle.rc_runs.specs.Starts.{named_by_coords, named_by_shards, start_of}
use Rattle.rc_agreement.proofs.AlikeLogs.{more_log}
use Rattle.rc_agreement.proofs.Named.{log_keeps}
use Rattle.rc_agreement.proofs.Reopened.{open_node, open_server}
use Rattle.rc_agreement.proofs.Cases.{or_case}
use Rattle.rc_agreement.proofs.Lists.{any_of, map_in}

-- what was named before stays named
coords_keep : (t : ℕ) (xs : List CoordNode) (named : List ℕ) → In t named → In t (named_by_coords named xs)
coords_keep t [] named i = i
coords_keep t (x ∷ xs) named i = coords_keep t xs (with_log named x.log) (log_keeps t x.log named i)

shards_keep : (t : ℕ) (xs : List ShardNode) (named : List ℕ) → In t named → In t (named_by_shards named xs)
shards_keep t [] named i = i
shards_keep t (x ∷ xs) named i = shards_keep t xs (with_log named x.log) (log_keeps t x.log named i)

-- what one of the logs names is named
coords_have : (t : ℕ) (xs : List CoordNode) (named : List ℕ) (y : CoordNode) → In y xs → In t (with_log [] y.log) → In t (named_by_coords named xs)
coords_have t [] named y h i = absurd h
coords_have t (x ∷ xs) named y h i =
    ⊎_elim
    (λ (e : x ≡ y). coords_keep t xs (with_log named x.log) (more_log x.log [] named (λ u j. absurd j) t (subst (λ (z : CoordNode). In t (with_log [] z.log)) (sym e) i)))
    (λ j. coords_have t xs (with_log named x.log) y j i) h

shards_have : (t : ℕ) (xs : List ShardNode) (named : List ℕ) (y : ShardNode) → In y xs → In t (with_log [] y.log) → In t (named_by_shards named xs)
shards_have t [] named y h i = absurd h
shards_have t (x ∷ xs) named y h i =
    ⊎_elim
    (λ (e : x ≡ y). shards_keep t xs (with_log named x.log) (more_log x.log [] named (λ u j. absurd j) t (subst (λ (z : ShardNode). In t (with_log [] z.log)) (sym e) i)))
    (λ j. shards_have t xs (with_log named x.log) y j i) h

pub named_again : (c : Layout) (v : World) (t : ℕ) → is_named v.parties t ≡ true
    → member nat_cmp (start_of c (map open_node v.parties.coords) (map open_server v.parties.shards)).named t ≡ true
named_again c v t h = member-in _ t (⊎_elim in_coords in_shards (or_case _ _ h))
  where
    in_coords : list_any (λ (x : CoordNode). member nat_cmp (with_log [] x.log) t) v.parties.coords ≡ true → In t (named_by_shards (named_by_coords [] (map open_node v.parties.coords)) (map open_server v.parties.shards))
    in_coords e =
        let x = any_of (λ (x : CoordNode). member nat_cmp (with_log [] x.log) t) v.parties.coords e in
        shards_keep t (map open_server v.parties.shards) _
        (coords_have t (map open_node v.parties.coords) [] (open_node x.0) (map_in open_node x.0 v.parties.coords x.1) (in-member (with_log [] x.0.log) t x.2))

    in_shards : list_any (λ (x : ShardNode). member nat_cmp (with_log [] x.log) t) v.parties.shards ≡ true → In t (named_by_shards (named_by_coords [] (map open_node v.parties.coords)) (map open_server v.parties.shards))
    in_shards e =
        let x = any_of (λ (x : ShardNode). member nat_cmp (with_log [] x.log) t) v.parties.shards e in
        shards_have t (map open_server v.parties.shards) _ (open_server x.0) (map_in open_server x.0 v.parties.shards x.1) (in-member (with_log [] x.0.log) t x.2)
