use Rattle.std.proofs.Common.{List, ℕ, None, if◌then◌else◌, ap, ◌∙◌}
use Rattle.rc_ids.specs.Tables.{found}
use Rattle.rc_protocol.specs.Shard.{mark_cmp}
use Rattle.rc_locks.specs.Flags.{is_one_of}
use Rattle.rc_locks.proofs.IndexFacts.{all_gone, still_covered}
use Rattle.rc_locks.proofs.flags.forget.Goals as goal

pub returns-in-Some-clause-left : goal.returns-in-Some-clause-left
returns-in-Some-clause-left c =
    all_gone c.args.locks.now.entries c.args.index.now.entries c.args.tx c.in-Some.keys c.in-Some.ensures.value c.requires.covered c.remove_all.new.locks.entries
    (λ m. c.remove_all.ensures.left m
    ∙ ap (λ (ks : List (List ℕ)). if is_one_of c.args.tx ks m then None else found mark_cmp c.args.locks.now.entries m) c.as_slice.ensures.value)

pub returns-in-Some-clause-covered : goal.returns-in-Some-clause-covered
returns-in-Some-clause-covered c =
    still_covered c.args.locks.now.entries c.remove_all.new.locks.entries c.args.index.now.entries c.remove.new.self.entries c.args.tx
    (returns-in-Some-clause-left c) c.remove.ensures.updates.0 c.requires.covered
