use Rattle.std.proofs.Common.{◌≡◌, ◌≤◌, drop}
use Rattle.rc_script.specs.Words.{with_digits}
use Rattle.rc_script.proofs.words.with_all_digits.Given as goal

abbrev pub invariant-loop-byte : goal.invariant-loop-byte
invariant-loop-byte l = record {
  same : with_digits l.limit l.number (drop l.byte-index l.digits) ≡ with_digits l.limit 0 l.digits;
  in_range : l.number ≤ l.limit;
}
