use Rattle.std.proofs.Common.{ℕ, List, nat_lt, rules, arith}
use Rattle.std.specs.Ordering.{nat_cmp, is_le}
use Rattle.std.proofs.lemmas.List.Sorted.{IsPartitionPoint-from_clause}
use Rattle.rc_body.specs.declared.entry.Entry.{Entry}
use Rattle.rc_locks.proofs.PartFacts.{place_from_point, partitioned, le_test}
use Rattle.rc_locks.proofs.halves.place_of.Goals as goal

pub returns-clause-place : goal.returns-clause-place
returns-clause-place c =
    let point = IsPartitionPoint-from_clause (λ (p : ℕ × List Entry). nat_lt p.0 c.args.tx) c.args.parts.now c.partition_point.result c.partition_point.ensures.partitioned
    (partitioned c.args.tx c.args.parts.now c.requires) (λ a r f k. search rules) in
    place_from_point (λ (p : ℕ × List Entry). is_le (nat_cmp c.args.tx p.0)) (λ (p : ℕ × List Entry). nat_lt p.0 c.args.tx) (λ p. le_test c.args.tx p.0)
    c.args.parts.now c.partition_point.result c.partition_point.ensures.bound (λ k d lt. point.0 k d (omega arith) lt) (λ k d low lt. point.1 k d low lt)
