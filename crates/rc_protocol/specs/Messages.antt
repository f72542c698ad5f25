-- Messages that a party sends, in order.
use Rattle.std.specs.Prelude.{ℕ, zero, suc, List, [], ◌∷◌, ◌++◌, Option, Some}
use Rattle.rc_ids.specs.Cluster.{Layout}
use Rattle.rc_ids.specs.Tables.{maybe}
use Rattle.rc_ids.specs.declared.names.NodeId.TheVariants.{Coord, Shard as ShardServer}
use Rattle.rc_ids.specs.declared.names.Party.{Party}
use Rattle.rc_ids.specs.declared.names.Party.TheVariants.{Node, Client as ClientOf}
use Rattle.rc_msg.specs.declared.msg.Msg.{Msg}

abbrev pub Posts : Type 0
Posts = List (Party × Msg)

abbrev pub coordinator : ℕ → Party
coordinator d = Node (Coord d)

abbrev pub shard_server : ℕ → ℕ → Party
shard_server d sh = Node (ShardServer d sh)

abbrev pub client_of : ℕ → Party
client_of t = ClientOf t

-- one message
abbrev pub one : Party → Msg → Posts
one to m = (to, m) ∷ []

-- what goes to each of 1 to n, in order
abbrev pub to_each : ℕ → (ℕ → Posts) → Posts
to_each zero f = []
to_each (suc n) f = to_each n f ++ f (suc n)

-- to the coordinators of all datacentres, in order
abbrev pub to_all : Layout → Msg → Posts
to_all c m = to_each c.dcs (λ d. one (coordinator d) m)

-- a page of outcomes has at most so many
abbrev pub most_entries : ℕ
most_entries = 64

-- the first, or else the second
abbrev pub or_else : {A : Type 0} → Option A → Option A → Option A
or_else first second = maybe first second Some
