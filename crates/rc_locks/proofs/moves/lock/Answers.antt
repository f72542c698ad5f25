use Rattle.std.proofs.Common.{List, refl, ap, ◌∙◌}
use Rattle.rc_ids.specs.Tables.{added}
use Rattle.rc_protocol.specs.Shard.{Mark, mark_cmp}
use Rattle.rc_locks.specs.Flags.{with_plain, same_mark}
use Rattle.rc_locks.proofs.FlagFacts.{places_stay}
use Rattle.rc_locks.proofs.MoveFacts.{plain_same, lost_same, granted_plain, lost_stays, lost_turned, on_err}
use Rattle.rc_locks.proofs.moves.lock.Goals as goal

pub returns-in_err-make_place-clause-err : goal.returns-in_err-make_place-clause-err
returns-in_err-make_place-clause-err c =
    on_err c.from_residual.result
    (plain_same c.args.locks.now.entries c.make_place.new.locks.entries c.requires.rises c.make_place.ensures.rises c.make_place.ensures.plain)

pub returns-in_err-make_place-clause-lost : goal.returns-in_err-make_place-clause-lost
returns-in_err-make_place-clause-lost c =
    lost_same c.args.locks.now.entries c.make_place.new.locks.entries c.requires.rises c.make_place.ensures.rises c.make_place.ensures.lost

pub returns-clause-ok : goal.returns-clause-ok
returns-clause-ok c =
    granted_plain c.make_place.new.locks.entries c.grant.new.locks.entries c.make_place.ensures.rises c.grant.ensures.rises c.args.mark.now
    c.in_ok-make_place.ensures.there c.grant.ensures.turned
    ∙ ap (λ (ms : List Mark). added mark_cmp ms c.args.mark.now)
    (plain_same c.args.locks.now.entries c.make_place.new.locks.entries c.requires.rises c.make_place.ensures.rises c.make_place.ensures.plain)

pub returns-clause-lost : goal.returns-clause-lost
returns-clause-lost c =
    lost_stays c.make_place.new.locks.entries c.grant.new.locks.entries c.make_place.ensures.rises c.grant.ensures.rises _
    (lost_turned (same_mark c.args.mark.now) with_plain (λ l. refl)) c.grant.ensures.turned
    ∙ lost_same c.args.locks.now.entries c.make_place.new.locks.entries c.requires.rises c.make_place.ensures.rises c.make_place.ensures.lost

pub returns-clause-kept : goal.returns-clause-kept
returns-clause-kept c m had =
    places_stay _ c.make_place.new.locks.entries c.grant.new.locks.entries c.grant.ensures.turned m ∙ c.make_place.ensures.kept m had
