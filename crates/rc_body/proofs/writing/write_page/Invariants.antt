use Rattle.std.proofs.Common.{◌≡◌, ◌++◌, length, take}
use Rattle.std.specs.List.{flat_map}
use Rattle.rc_fields.specs.Spelling.{u8_bytes}
use Rattle.rc_body.specs.Spelling.{outcome_bytes}
use Rattle.rc_body.proofs.writing.write_page.Given as goal

abbrev pub invariant-loop-index : goal.invariant-loop-index
invariant-loop-index l = l.out ≡ l.fn.out ++ (u8_bytes (length l.v) ++ flat_map outcome_bytes (take l.index l.v))
