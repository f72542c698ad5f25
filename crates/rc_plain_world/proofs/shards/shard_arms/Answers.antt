use Rattle.std.proofs.Common.{length, refl}
use Rattle.std.proofs.lemmas.Option.{slice_get_read}
use Rattle.rc_plain_world.specs.Acted.{armed_shard}
use Rattle.rc_plain_world.proofs.SiteEdits.{shard_edit}
use Rattle.rc_plain_world.proofs.shards.shard_arms.Goals as goal

pub arm-requires : goal.arm-requires
arm-requires c = c.requires.up c.index_mut.result.now
    (slice_get_read c.args.shards.now.items (length c.args.shards.now.items) c.args.place c.index_mut.result.now refl c.requires.inside c.index_mut.ensures.value)

pub returns : goal.returns
returns c = λ h at.
    shard_edit c.args.shards.now.items _ c.index_mut.result.now c.arm.new.self h (armed_shard c.args.call c.args.pick) c.index_mut.ensures.value c.arm.ensures.node c.arm.ensures.device at
