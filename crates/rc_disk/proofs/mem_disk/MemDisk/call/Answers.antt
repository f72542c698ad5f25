use Rattle.std.proofs.Common.{◌≡◌, ℕ, List, Option, None, Some, sym, subst}
use Rattle.rc_disk.specs.Calls.{Images}
use Rattle.rc_disk.specs.Memory.{history_of, images_of}
use Rattle.rc_disk.specs.Past.{IsOne, call_of}
use Rattle.rc_disk.specs.Steps.{Steps}
use Rattle.rc_disk.proofs.Leavings.{steps_after, steps_same}
use Rattle.rc_disk.proofs.Pasts.{time_on, time_same}
use Rattle.rc_disk.proofs.mem_disk.MemDisk.call.Goals as goal

pub returns-in-None-clause-crash : goal.returns-in-None-clause-crash
returns-in-None-clause-crash c =
    let call = call_of c.args.change c.args.written.now in
    let im = images_of c.args.self.now.images in
    subst (λ (i : Images). Steps call (IsOne im) (IsOne i)) (sym c.happens.ensures.moved) (steps_after None call im)

pub returns-in-None-clause-time : goal.returns-in-None-clause-time
returns-in-None-clause-time c =
    time_on _ _ _ _ _ _ c.happens.ensures.grows c.args.self.now.kept c.happens.new.self.kept

pub returns-in-Some-ByCut-clause-crash : goal.returns-in-Some-ByCut-clause-crash
returns-in-Some-ByCut-clause-crash c =
    let call = call_of c.args.change c.args.written.now in
    let im = images_of c.args.self.now.images in
    subst (λ (i : Images). Steps call (IsOne im) (IsOne i)) (sym c.happens-in-Some-ByCut.ensures.moved) (steps_after (Some c.in-Some-ByCut.pick) call im)

pub returns-in-Some-ByCut-clause-time : goal.returns-in-Some-ByCut-clause-time
returns-in-Some-ByCut-clause-time c =
    time_on _ _ _ _ _ _ c.happens-in-Some-ByCut.ensures.grows c.args.self.now.kept c.happens-in-Some-ByCut.new.self.kept

pub returns-in-Some-ByList-clause-crash : goal.returns-in-Some-ByList-clause-crash
returns-in-Some-ByList-clause-crash c = steps_same (call_of c.args.change c.args.written.now) (images_of c.args.self.now.images)

pub returns-in-Some-ByList-clause-time : goal.returns-in-Some-ByList-clause-time
returns-in-Some-ByList-clause-time c = time_same (history_of c.args.self.now.past) (images_of c.args.self.now.images)

pub returns-in-Some-WhileOff-clause-crash : goal.returns-in-Some-WhileOff-clause-crash
returns-in-Some-WhileOff-clause-crash c = steps_same (call_of c.args.change c.args.written.now) (images_of c.args.self.now.images)

pub returns-in-Some-WhileOff-clause-time : goal.returns-in-Some-WhileOff-clause-time
returns-in-Some-WhileOff-clause-time c = time_same (history_of c.args.self.now.past) (images_of c.args.self.now.images)
