use Rattle.std.proofs.Common.{◌≡◌, drop}
use Rattle.rc_serial.specs.OneMap.{Map, wrong_entry}
use Rattle.rc_serial.specs.Versions.{versions_of}
use Rattle.rc_serial.proofs.versions.Versions.first_wrong.Given as goal

abbrev pub invariant-loop-index : goal.invariant-loop-index
invariant-loop-index l =
    (m : Map) → versions_of m ≡ l.self → wrong_entry m l.place (drop l.index l.body) ≡ wrong_entry m l.place l.body
