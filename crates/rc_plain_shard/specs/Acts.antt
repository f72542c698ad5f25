-- What an act of a shard server leaves.
use Rattle.std.specs.Prelude.{◌≡◌, ℕ, ◌++◌}
use Rattle.rc_protocol.specs.Messages.{Posts}
use Rattle.rc_protocol.specs.Shard.{ShardAct, with_shard_cursor}
use Rattle.rc_protocol.specs.Nodes.{ShardNode, shard_after}

-- the server is as after the act, and what the act sends was added
pub record HasActed (old new : ShardNode) (before after : Posts) (act : ShardAct) : Type 0 where
  pub node : new ≡ shard_after old act
  pub sends : after ≡ before ++ act.sends

-- the server has caught up so far
abbrev pub placed : ShardNode → ℕ → ShardNode
placed x place = record { up = x.up; log = x.log; durable = x.durable; volatile = with_shard_cursor x.volatile place }
