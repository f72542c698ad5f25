-- The weights by which clients count their votes.
use Rattle.std.specs.Prelude.{ℕ, Bool, true, nat_eq}
use Rattle.std.specs.List.{list_all}
use Rattle.std.specs.Cmp.Lexicographic.{pointwise}
use Rattle.rc_ids.specs.Tables.{Table, maybe}
use Rattle.rc_ids.specs.Cluster.{Layout}
use Rattle.rc_client.specs.Acts.{Core}

-- a client that counts votes does so by the weights of this cluster
abbrev pub is_of : Layout → Core → Bool
is_of c x = maybe x.weights true (λ weights. pointwise nat_eq weights c.weights)

-- and so does each of these
abbrev pub are_of : Layout → Table ℕ Core → Bool
are_of c cores = list_all (λ (e : ℕ × Core). is_of c e.1) cores
