-- The nodes of a datacentre begin, one after another.
use Rattle.std.proofs.Common.{◌≡◌, ℕ, zero, suc, ◌+◌, ◌-◌, ◌*◌, ◌<◌, ◌≤◌, Bool, true, false, List, [], ◌∷◌, ◌++◌, length, take, Some, refl, sym, ap, ◌∙◌, subst, arith, ⊎_elim, append_assoc, add-one}
use Rattle.std.specs.Prelude.{slice_get, ◌≢◌, nat_lt}
use Rattle.std.proofs.lemmas.List.{map-append}
use Rattle.rc_ids.specs.Tables.{up_to}
use Rattle.rc_ids.specs.Cluster.{Layout, is_dc, is_shard}
use Rattle.rc_ids.specs.declared.names.NodeId.{NodeId}
use Rattle.rc_ids.specs.declared.names.NodeId.TheVariants.{Coord, Shard as ShardServer}
use Rattle.rc_disk.specs.Places.{Standing}
use Rattle.rc_protocol.specs.Nodes.{shard_index}
use Rattle.rc_runs.specs.Stored.{Place, nodes_of_dc}
use Rattle.rc_begin.specs.Places.{shard_name, AllAt}
use Rattle.rc_host.specs.declared.host.Host.{Host}
use Rattle.rc_begin.specs.Hosts.{Runs, Views, run_at}
use Rattle.rc_begin.specs.Beginnings.{IsStartOf}
use Rattle.rc_begin.specs.Gatherings.{AreGathered, IsLendable, are_lent, servers}
use Rattle.rc_begin.proofs.Lists.{same_or, shard_named}

-- WHAT IS LENT
same_server : (d a b : ℕ) → ShardServer d a ≡ ShardServer d b → a ≡ b
same_server d a b e = cc

last_lent : (n : ℕ) → are_lent (n + 1) (n + 1) ≡ true
last_lent n = grind arith

still_lent : (n sh : ℕ) → (sh ≡ n + 1 → ⊥) → are_lent n sh ≡ are_lent (n + 1) sh
still_lent n sh other = grind (arith, other)

pub lent_more : (old new : NodeId → Bool) (d n : ℕ) → ((sh : ℕ) → old (ShardServer d sh) ≡ are_lent n sh) → new (ShardServer d (n + 1)) ≡ true
    → ((m : NodeId) → m ≢ ShardServer d (n + 1) → new m ≡ old m) → (sh : ℕ) → new (ShardServer d sh) ≡ are_lent (n + 1) sh
lent_more old new d n before here others sh =
    ⊎_elim
    (λ (same : sh ≡ n + 1). subst (λ (k : ℕ). new (ShardServer d k) ≡ are_lent (n + 1) k) (sym same) (here ∙ sym (last_lent n)))
    (λ (other : sh ≡ n + 1 → ⊥). others (ShardServer d sh) (λ e. other (same_server d sh (n + 1) e)) ∙ before sh ∙ still_lent n sh other)
    (same_or (n + 1) sh)

pub still_free : (old new : NodeId → Bool) (d n : ℕ) → ((sh : ℕ) → old (ShardServer d sh) ≡ are_lent n sh) → new (ShardServer d (n + 1)) ≡ false
    → ((m : NodeId) → m ≢ ShardServer d (n + 1) → new m ≡ old m) → (sh : ℕ) → new (ShardServer d sh) ≡ are_lent n sh
still_free old new d n before here others sh =
    ⊎_elim
    (λ (same : sh ≡ n + 1). subst (λ (k : ℕ). new (ShardServer d k) ≡ are_lent n k) (sym same) (here ∙ next_free n))
    (λ (other : sh ≡ n + 1 → ⊥). others (ShardServer d sh) (λ e. other (same_server d sh (n + 1) e)) ∙ before sh)
    (same_or (n + 1) sh)
  where
    next_free : (n : ℕ) → false ≡ are_lent n (n + 1)
    next_free n = grind arith

pub later_stands : (start old new : NodeId → Standing) (d n : ℕ) → ((sh : ℕ) → n < sh → old (ShardServer d sh) ≡ start (ShardServer d sh))
    → ((m : NodeId) → m ≢ ShardServer d (n + 1) → new m ≡ old m) → (sh : ℕ) → n + 1 < sh → new (ShardServer d sh) ≡ start (ShardServer d sh)
later_stands start old new d n before others sh lt =
    others (ShardServer d sh) (λ e. omega (arith, same_server d sh (n + 1) e)) ∙ before sh (omega arith)

-- THE HOSTS BEFORE
take_twice : {X : Type 0} (k n : ℕ) (xs : List X) → k ≤ n → take k (take n xs) ≡ take k xs
take_twice zero n xs le = refl
take_twice (suc k) zero xs le = absurd (omega arith)
take_twice (suc k) (suc n) [] le = refl
take_twice (suc k) (suc n) (x ∷ xs) le = ap (λ ys. x ∷ ys) (take_twice k n xs (omega arith))

pub front_stays : {X : Type 0} (start old new : List X) (n : ℕ) → length old ≡ length start + n → take (length start) old ≡ start → take (length old) new ≡ old → take (length start) new ≡ start
front_stays start old new n long before now =
    sym (take_twice (length start) (length old) new (omega (arith, long))) ∙ ap (take (length start)) now ∙ before

get_of_front : {X : Type 0} (k : ℕ) (xs : List X) (i : ℕ) (x : X) → slice_get (take k xs) i ≡ Some x → slice_get xs i ≡ Some x
get_of_front zero xs i x at = absurd cc
get_of_front (suc k) [] i x at = absurd cc
get_of_front (suc k) (y ∷ ys) zero x at = at
get_of_front (suc k) (y ∷ ys) (suc i) x at = get_of_front k ys i x at

pub all_in_front : {H : Type 0} (P : ℕ → H → Type 0) (old new : List H) → take (length old) new ≡ old → AllAt P new → AllAt P old
all_in_front P old new front all i h at =
    all i h (get_of_front (length old) new i h (subst (λ (hs : List _). slice_get hs i ≡ Some h) (sym front) at))

-- ONE NODE MORE
pub servers_more : (nodes : List NodeId) (d n : ℕ) → (nodes ++ servers d n) ++ ShardServer d (n + 1) ∷ [] ≡ nodes ++ servers d (n + 1)
servers_more nodes d n =
    append_assoc nodes (servers d n) (ShardServer d (n + 1) ∷ [])
    ∙ ap (λ (ns : List NodeId). nodes ++ ns)
    (ap (λ (k : ℕ). servers d n ++ ShardServer d k ∷ []) (add-one n)
    ∙ sym (map-append (λ (sh : ℕ). ShardServer d sh) (up_to n) (suc n ∷ []))
    ∙ sym (ap (servers d) (add-one n)))

pub next_name : (c : Layout) (d n place : ℕ) → is_dc c d ≡ true → n < c.shards → place ≡ (d - 1) * c.shards + n → shard_name c place ≡ ShardServer d (n + 1)
next_name c d n place dc lt is =
    let low : 1 ≤ d = grind arith in
    let spot : place ≡ shard_index c d (n + 1) = is ∙ omega arith in
    ap (shard_name c) spot ∙ shard_named c d (n + 1) low (omega arith) (omega arith)

pub next_known : (c : Layout) (n : ℕ) → n < c.shards → is_shard c (n + 1) ≡ true
next_known c n lt = grind arith

pub starts_still : (p : Place) (r : Runs) (start now : NodeId → Standing) (node : NodeId) → now node ≡ start node → IsLendable p r start node → IsStartOf p (run_at r node) (now node)
starts_still p r start now node same is = subst (IsStartOf p (run_at r node)) (sym same) is.starts

module _ {C S J D : Type 0} (v : Views C S J D) (r : Runs) (p : Place) (nodes : List NodeId) (d n : ℕ) (coords : List (Host C J D)) (coord_logs : List (List (List ℕ))) (shards : List (Host S J D)) (shard_logs : List (List (List ℕ))) where
  pub one_serves : AreGathered v r p ((nodes ++ servers d n) ++ ShardServer d (n + 1) ∷ []) coords coord_logs shards shard_logs
      → AreGathered v r p (nodes ++ servers d (n + 1)) coords coord_logs shards shard_logs
  one_serves are = subst (λ (ns : List NodeId). AreGathered v r p ns coords coord_logs shards shard_logs) (servers_more nodes d n) are

  pub all_serve : (m : ℕ) → n ≡ m → AreGathered v r p (nodes ++ servers d n) coords coord_logs shards shard_logs
      → AreGathered v r p (nodes ++ servers d m) coords coord_logs shards shard_logs
  all_serve m is are = subst (λ (k : ℕ). AreGathered v r p (nodes ++ servers d k) coords coord_logs shards shard_logs) is are

-- A DATACENTRE
pub all_same : {H : Type 0} (P : ℕ → H → Type 0) (now was : List H) → now ≡ was → AllAt P now → AllAt P was
all_same P now was same all = subst (AllAt P) same all

pub lendable_still : (p : Place) (r : Runs) (start now : NodeId → Standing) (node : NodeId) → now node ≡ start node → IsLendable p r start node → IsLendable p r now node
lendable_still p r start now node same is = record { lends = is.lends; starts = starts_still p r start now node same is }

pub dc_serves : {C S J D : Type 0} (v : Views C S J D) (r : Runs) (p : Place) (c : Layout) (nodes : List NodeId) (d : ℕ) (coords : List (Host C J D)) (coord_logs : List (List (List ℕ))) (shards : List (Host S J D)) (shard_logs : List (List (List ℕ)))
    → AreGathered v r p ((nodes ++ Coord d ∷ []) ++ servers d c.shards) coords coord_logs shards shard_logs
    → AreGathered v r p (nodes ++ nodes_of_dc c d) coords coord_logs shards shard_logs
dc_serves v r p c nodes d coords coord_logs shards shard_logs are =
    subst (λ (ns : List NodeId). AreGathered v r p ns coords coord_logs shards shard_logs) (append_assoc nodes (Coord d ∷ []) (servers d c.shards)) are

pub not_more : (n m : ℕ) → m ≡ n → false ≡ nat_lt n m
not_more n m same = grind arith

pub one_lent : (n m : ℕ) → m ≡ n + 1 → true ≡ nat_lt n m
one_lent n m more = grind arith

pub none_lent : (n m sh : ℕ) → m ≡ n → false ≡ are_lent (m - n) sh
none_lent n m sh same = let none : m - n ≡ 0 = omega arith in sym (ap (λ (k : ℕ). are_lent k sh) none ∙ of_none sh)
  where
    of_none : (k : ℕ) → are_lent 0 k ≡ false
    of_none k = grind arith
