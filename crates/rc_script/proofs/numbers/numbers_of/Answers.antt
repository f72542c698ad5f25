use Rattle.std.proofs.Common.{sym}
use Rattle.std.specs.Option.{option_map}
use Rattle.rc_script.specs.Words.{numbers_of}
use Rattle.rc_script.proofs.Parts.{goes_on, ends}
use Rattle.rc_script.proofs.numbers.numbers_of.Goals as goal

pub returns-in_default-number_in : goal.returns-in_default-number_in
returns-in_default-number_in c =
    let so_far = rw c.in-Some.is at c.loop-rest.invariant in
    let none = rw c.in_default-number_in.is at c.number_in.ensures.value in
    ends c.loop-rest.numbers.items c.args.low c.args.high c.in-Some.words.now c.cut.result.0.now (option_map (λ x. x.now) c.cut.result.1) (numbers_of c.args.low c.args.high c.args.text.now) c.cut.ensures (sym none) so_far

pub loop-rest-preserved : goal.loop-rest-preserved
loop-rest-preserved c =
    let so_far = rw c.in-Some.is at c.loop-rest.invariant in
    rw c.in_ok-push.ensures.items (goes_on c.loop-rest.numbers.items c.args.low c.args.high c.in-Some.words.now c.cut.result.0.now (option_map (λ x. x.now) c.cut.result.1) c.in-Some-number_in.number (numbers_of c.args.low c.args.high c.args.text.now) c.cut.ensures (sym c.in-Some-number_in.ensures.value) so_far)
