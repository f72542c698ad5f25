use Rattle.std.proofs.Common.{rules}
use Rattle.std.proofs.lemmas.List.Sorted.{IsPartitionPoint-from_clause}
use Rattle.rc_versions.specs.Pages.{starts_by}
use Rattle.rc_versions.proofs.PageFacts.{parted_pages, counted_pages}
use Rattle.rc_versions.proofs.pages.count_up_to.Goals as goal

pub returns-clause-count : goal.returns-clause-count
returns-clause-count c =
    counted_pages c.args.key.now c.args.pages.now c.partition_point.result c.partition_point.ensures.bound
    (IsPartitionPoint-from_clause (starts_by c.args.key.now) _ _ c.partition_point.ensures.partitioned
    (parted_pages c.args.key.now c.args.pages.now c.requires.filled c.requires.rises) (λ a r q called. search rules))
