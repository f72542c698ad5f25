use Rattle.std.proofs.Common.{◌≡◌, Some, slice_get}
use Rattle.std.specs.Option.{option_copied}
use Rattle.rc_shard.proofs.PlanFacts.{item_there}
use Rattle.rc_shard.proofs.WriteFacts.{version-at_more, value-at_more}
use Rattle.rc_shard.proofs.rows.row_after.Goals as goal

pub loop-write-preserved : goal.loop-write-preserved
loop-write-preserved c =
    let at : slice_get c.args.writes.now c.loop-write.write-index ≡ Some c.write-item.result = item_there c.args.writes.now c.loop-write.write-index c.write-item.result c.loop-write-test.true c.write-item.is in record {
      version =
          version-at_more c.args.versions.now.rows c.args.writes.now c.loop-write.write-index c.write-item.result c.args.key.now at
          c.loop-write.version c.raises-raised.result c.newer_version-version.result c.loop-write.invariant.version c.raises-raised.ensures c.newer_version-version.ensures;
      value =
          value-at_more c.args.versions.now.rows c.args.writes.now c.loop-write.write-index c.write-item.result c.args.key.now at
          c.loop-write.version c.raises-raised.result (option_copied c.loop-write.value) (option_copied c.newer_value-value.result) c.loop-write.invariant.version c.raises-raised.ensures
          c.loop-write.invariant.value c.newer_value-value.ensures;
    }
