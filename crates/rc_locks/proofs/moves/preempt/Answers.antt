use Rattle.std.proofs.Common.{◌==◌, List, refl, ap, ◌∙◌}
use Rattle.rc_protocol.specs.Shard.{Mark, is_taken, cleared}
use Rattle.rc_locks.specs.Flags.{without_plain}
use Rattle.rc_locks.proofs.FlagFacts.{places_stay}
use Rattle.rc_locks.proofs.MoveFacts.{unlocked_plain, taken_plain, taken_lost, lost_stays, lost_turned}
use Rattle.rc_locks.proofs.moves.preempt.Goals as goal

pub returns-clause-plain : goal.returns-clause-plain
returns-clause-plain c =
    unlocked_plain c.take_part.new.locks.entries c.release.new.locks.entries c.take_part.ensures.rises c.release.ensures.rises (λ (m : Mark). m.1 == c.args.tx) c.release.ensures.turned
    ∙ ap (λ (ms : List Mark). cleared ms c.args.tx)
    (taken_plain c.args.locks.now.entries c.take_part.new.locks.entries c.requires.rises c.take_part.ensures.rises (is_taken c.args.tx c.args.part.now) c.take_part.ensures.turned)

pub returns-clause-lost : goal.returns-clause-lost
returns-clause-lost c =
    lost_stays c.take_part.new.locks.entries c.release.new.locks.entries c.take_part.ensures.rises c.release.ensures.rises _
    (lost_turned (λ (m : Mark). m.1 == c.args.tx) without_plain (λ l. refl)) c.release.ensures.turned
    ∙ taken_lost c.args.locks.now.entries c.take_part.new.locks.entries c.requires.rises c.take_part.ensures.rises (is_taken c.args.tx c.args.part.now) c.take_part.ensures.turned

pub returns-clause-places : goal.returns-clause-places
returns-clause-places c m =
    places_stay _ c.take_part.new.locks.entries c.release.new.locks.entries c.release.ensures.turned m
    ∙ places_stay _ c.args.locks.now.entries c.take_part.new.locks.entries c.take_part.ensures.turned m
