use Rattle.std.proofs.Common.{ℕ, [], refl, sym, ◌∙◌, ap, subst}
use Rattle.rc_grammar.specs.Worlds.{HasEvent}
use Rattle.rc_runs.specs.declared.event.Event.TheVariants.{CrashAt}
use Rattle.rc_world.specs.Clients.{command}
use Rattle.rc_world.proofs.Powered.{happened_as}
use Rattle.rc_world.proofs.world.World.act.Goals as goal

pub returns-in-Begin-clause-ok : goal.returns-in-Begin-clause-ok
returns-in-Begin-clause-ok g c = λ r z is has told. happened_as _ r z _ _ _ [] _ c.in-Begin.is c.requires.lines c.begin.result (c.begin.ensures.ok r z is)

pub returns-in-Take-clause-ok : goal.returns-in-Take-clause-ok
returns-in-Take-clause-ok g c = λ r z is has told. happened_as _ r z _ _ _ _ _ c.in-Take.is refl c.take.result (c.take.ensures.ok r z is (subst HasEvent c.in-Take.is has) told.coords)

pub returns-in-Catch-clause-ok : goal.returns-in-Catch-clause-ok
returns-in-Catch-clause-ok g c = λ r z is has told. happened_as _ r z _ _ _ _ _ c.in-Catch.is refl c.catch.result (c.catch.ensures.ok r z is told.coords told.shards)

pub returns-in-Deliver-clause-ok : goal.returns-in-Deliver-clause-ok
returns-in-Deliver-clause-ok g c = λ r z is has told. happened_as _ r z _ _ _ _ _ c.in-Deliver.is refl c.deliver.result (c.deliver.ensures.ok r z is told.coords told.shards)

pub returns-in-Lose-clause-ok : goal.returns-in-Lose-clause-ok
returns-in-Lose-clause-ok g c = λ r z is has told. happened_as _ r z _ _ _ [] _ c.in-Lose.is c.requires.lines c.lose.result (c.lose.ensures.ok r z is)

pub returns-in-Crash-clause-ok : goal.returns-in-Crash-clause-ok
returns-in-Crash-clause-ok g c = λ r z is has told. happened_as _ r z _ _ _ _ _ c.in-Crash.is refl c.crash.result (c.crash.ensures.ok r z is)

pub returns-in-Restart-clause-ok : goal.returns-in-Restart-clause-ok
returns-in-Restart-clause-ok g c = λ r z is has told. happened_as _ r z _ _ _ _ _ c.in-Restart.is refl c.restart.result (c.restart.ensures.ok r z is told)

pub returns-in-Read-clause-ok : goal.returns-in-Read-clause-ok
returns-in-Read-clause-ok g c = λ r z is has told. c.command.ensures.ok r z _ is (ap command c.in-Read.is)

pub returns-in-Write-clause-ok : goal.returns-in-Write-clause-ok
returns-in-Write-clause-ok g c = λ r z is has told. c.command-in-Write.ensures.ok r z _ is (ap command c.in-Write.is)

pub returns-in-Commit-clause-ok : goal.returns-in-Commit-clause-ok
returns-in-Commit-clause-ok g c = λ r z is has told. c.command-in-Commit.ensures.ok r z _ is (ap command c.in-Commit.is)

pub returns-in-Cancel-clause-ok : goal.returns-in-Cancel-clause-ok
returns-in-Cancel-clause-ok g c = λ r z is has told. c.command-in-Cancel.ensures.ok r z _ is (ap command c.in-Cancel.is)

pub returns-in-Retry-clause-ok : goal.returns-in-Retry-clause-ok
returns-in-Retry-clause-ok g c = λ r z is has told. c.command-in-Retry.ensures.ok r z _ is (ap command c.in-Retry.is)

pub returns-in-Vanish-clause-ok : goal.returns-in-Vanish-clause-ok
returns-in-Vanish-clause-ok g c = λ r z is has told. c.command-in-Vanish.ensures.ok r z _ is (ap command c.in-Vanish.is)

pub returns-in-Crash-clause-grew : goal.returns-in-Crash-clause-grew
returns-in-Crash-clause-grew g c = λ r told. c.crash.ensures.grew r told

pub returns-in-CrashAt-clause-grew : goal.returns-in-CrashAt-clause-grew
returns-in-CrashAt-clause-grew g c = λ r told. c.arm.ensures.grew r told

pub returns-in-CrashAt-clause-ok : goal.returns-in-CrashAt-clause-ok
returns-in-CrashAt-clause-ok g c = λ r z is has told.
    let same = c.in-CrashAt.is ∙ ap (λ (k : ℕ). CrashAt c.in-CrashAt.node k c.in-CrashAt.pick) (sym c.from.ensures) in
    happened_as _ r z _ _ _ [] _ same c.requires.lines c.arm.result (c.arm.ensures.ok r z is)

pub returns-in-Read-clause-err : goal.returns-in-Read-clause-err
returns-in-Read-clause-err g c = λ r z is has told. c.command.ensures.err r z _ is (ap command c.in-Read.is)

pub returns-in-Write-clause-err : goal.returns-in-Write-clause-err
returns-in-Write-clause-err g c = λ r z is has told. c.command-in-Write.ensures.err r z _ is (ap command c.in-Write.is)

pub returns-in-Commit-clause-err : goal.returns-in-Commit-clause-err
returns-in-Commit-clause-err g c = λ r z is has told. c.command-in-Commit.ensures.err r z _ is (ap command c.in-Commit.is)

pub returns-in-Cancel-clause-err : goal.returns-in-Cancel-clause-err
returns-in-Cancel-clause-err g c = λ r z is has told. c.command-in-Cancel.ensures.err r z _ is (ap command c.in-Cancel.is)

pub returns-in-Retry-clause-err : goal.returns-in-Retry-clause-err
returns-in-Retry-clause-err g c = λ r z is has told. c.command-in-Retry.ensures.err r z _ is (ap command c.in-Retry.is)

pub returns-in-Vanish-clause-err : goal.returns-in-Vanish-clause-err
returns-in-Vanish-clause-err g c = λ r z is has told. c.command-in-Vanish.ensures.err r z _ is (ap command c.in-Vanish.is)
