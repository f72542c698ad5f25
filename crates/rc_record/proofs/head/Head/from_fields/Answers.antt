use Rattle.std.proofs.Common.{refl, arith, rules}
use Rattle.std.specs.Prelude.{is_none}
use Rattle.rc_ids.specs.Cluster.{cluster_fault}
use Rattle.rc_record.specs.Heads.{LogHead}
use Rattle.rc_record.specs.Reading.{head_from}
use Rattle.rc_record.proofs.HeadLaws.{equal_of, made_of}
use Rattle.rc_record.proofs.head.Head.from_fields.Goals as goal

pub invariant_of-result : goal.invariant_of-result
invariant_of-result c = record {
  known = (omega arith, omega arith);
  layout = search rules;
  equal = equal_of c.args.format c.in_ok-cluster.cluster c.args.weights.items c.args.dcs c.args.shards c.args.splits.items _ c.in_ok-cluster.ensures;
}

pub returns : goal.returns
returns c =
    let h : LogHead = head_from (((c.args.format, c.args.node), (c.args.dcs, c.args.shards)), (c.args.weights.items, c.args.splits.items)) in
    made_of h c.in_ok-cluster.cluster (is_none (cluster_fault h.world)) (omega arith) (omega arith) refl c.in_ok-cluster.ensures
