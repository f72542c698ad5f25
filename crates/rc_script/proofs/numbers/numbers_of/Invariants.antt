use Rattle.std.proofs.Common.{◌≡◌, ◌+◌, length}
use Rattle.std.specs.Option.{option_map, option_map_or}
use Rattle.rc_script.specs.Words.{numbers_in, numbers_of}
use Rattle.rc_script.proofs.Cuts.{parts}
use Rattle.rc_script.proofs.Parts.{with_front}
use Rattle.rc_script.proofs.numbers.numbers_of.Given as goal

abbrev pub invariant-loop-rest : goal.invariant-loop-rest
invariant-loop-rest l = with_front l.numbers.items (numbers_in l.low l.high (parts 32 (option_map (λ x. x.now) l.rest))) ≡ numbers_of l.low l.high l.text

abbrev pub decreases-loop-rest : goal.decreases-loop-rest
decreases-loop-rest l = option_map_or (λ x. length x.now + 1) l.rest 0
