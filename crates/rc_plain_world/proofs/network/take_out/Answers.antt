use Rattle.std.proofs.Common.{◌≡◌, ◌<◌, ◌∙◌, sym, ap, length, arith}
use Rattle.rc_runs.specs.World.{taken_out}
use Rattle.rc_plain_world.proofs.Takes.{taken_out-here}
use Rattle.rc_plain_world.proofs.network.take_out.Goals as goal

pub returns-then-index-number : goal.returns-then-index-number
returns-then-index-number c =
    let within : c.loop-place.place < length c.loop-place.pending.items = omega arith in
    let found : c.index.result.now ≡ c.args.number = omega arith in
    rw c.unwrap-taken.ensures at c.remove.ensures.items
    ∙ sym (taken_out-here c.loop-place.pending.items c.args.number c.loop-place.place c.index.result.now within c.index.ensures found c.loop-place.invariant.passed)
    ∙ ap (λ pending. taken_out pending.items c.args.number) c.loop-place.invariant.same
