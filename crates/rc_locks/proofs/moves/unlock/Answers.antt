use Rattle.std.proofs.Common.{refl, ◌∙◌}
use Rattle.rc_locks.specs.Flags.{without_plain, same_mark}
use Rattle.rc_locks.proofs.FlagFacts.{places_stay}
use Rattle.rc_locks.proofs.MoveFacts.{plain_same, lost_same, unlocked_plain, lost_stays, lost_turned}
use Rattle.rc_locks.proofs.moves.unlock.Goals as goal

pub returns-clause-plain : goal.returns-clause-plain
returns-clause-plain c =
    plain_same c.unlock.new.locks.entries c.drop_idle.new.locks.entries c.unlock.ensures.rises c.drop_idle.ensures.rises c.drop_idle.ensures.plain
    ∙ unlocked_plain c.args.locks.now.entries c.unlock.new.locks.entries c.requires.rises c.unlock.ensures.rises (same_mark c.args.mark.now) c.unlock.ensures.turned

pub returns-clause-lost : goal.returns-clause-lost
returns-clause-lost c =
    lost_same c.unlock.new.locks.entries c.drop_idle.new.locks.entries c.unlock.ensures.rises c.drop_idle.ensures.rises c.drop_idle.ensures.lost
    ∙ lost_stays c.args.locks.now.entries c.unlock.new.locks.entries c.requires.rises c.unlock.ensures.rises _
    (lost_turned (same_mark c.args.mark.now) without_plain (λ l. refl)) c.unlock.ensures.turned

pub returns-clause-kept : goal.returns-clause-kept
returns-clause-kept c m other had =
    c.drop_idle.ensures.kept m other (places_stay _ c.args.locks.now.entries c.unlock.new.locks.entries c.unlock.ensures.turned m ∙ had)
