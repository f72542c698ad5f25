use Rattle.std.proofs.Common.{List, ℕ, ap, ◌∙◌}
use Rattle.std.specs.Option.{option_map}
use Rattle.rc_ids.specs.Tables.{found}
use Rattle.rc_protocol.specs.Shard.{mark_cmp}
use Rattle.rc_locks.specs.Flags.{turned_where, is_one_of, without_plain}
use Rattle.rc_locks.proofs.IndexFacts.{all_given_back}
use Rattle.rc_locks.proofs.flags.release.Goals as goal

pub returns-in-Some-clause-turned : goal.returns-in-Some-clause-turned
returns-in-Some-clause-turned c =
    all_given_back c.args.locks.now.entries c.args.index.now.entries c.args.tx c.in-Some.keys.now c.in-Some.ensures.value c.requires.covered c.unlock_all.new.locks.entries
    (λ m. c.unlock_all.ensures.turned m
    ∙ ap (λ (ks : List (List ℕ)). option_map (turned_where (is_one_of c.args.tx ks m) without_plain) (found mark_cmp c.args.locks.now.entries m)) c.as_slice.ensures.value)
