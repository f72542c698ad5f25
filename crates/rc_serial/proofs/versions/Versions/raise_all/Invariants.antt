use Rattle.std.proofs.Common.{◌≡◌, drop}
use Rattle.rc_serial.specs.Versions.{body_raised, Agree}
use Rattle.rc_serial.proofs.versions.Versions.raise_all.Given as goal

abbrev pub invariant-loop-index : goal.invariant-loop-index
invariant-loop-index l =
    (body_raised l.self (drop l.index l.body) ≡ body_raised l.fn.self l.body) × Agree l.self (drop l.index l.body)
