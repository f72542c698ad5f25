-- What stands after each way that the four calls of an append may go.
use Rattle.std.proofs.Common.{◌≡◌, ℕ, ◌+◌, true, false, List, [], ◌∷◌, length, Option, option_map, ◌∙◌, ap, sym, subst, arith}
use Rattle.rc_disk.specs.Calls.{Writes, effect, after, power_after}
use Rattle.rc_disk.specs.Crashes.{IsDurable}
use Rattle.rc_log.specs.Records.{behind_gate}
use Rattle.rc_log.proofs.Stops.{fails1, fails2, fails3, fails4, still_next, still_one, whole_run, nothing_pending, grew}
use Rattle.rc_log.proofs.Frames.{length-behind_gate}
use Rattle.rc_log.proofs.Powers.{on_after}
use Rattle.rc_log.proofs.Runs.{on_err, crash1, crash2, crash3, crash4, run0, run1, run2, run3, run4}
use Rattle.rc_log.proofs.writing.append_at.Goals as goal

pub returns-in_err-write_at-clause-failed : goal.returns-in_err-write_at-clause-failed
returns-in_err-write_at-clause-failed g c =
    let s = c.requires.settled in
    let r = c.args.bytes.now in
    let place = c.args.place in
    let w = c.as_slice.result.now in
    let frame : w ≡ behind_gate r = c.as_slice.ensures.value ∙ c.fill.ensures.items in
    on_err c.from_residual.result _
    (fails1 (g.D.Disk.content c.args.disk.now) (g.D.Disk.may_leave c.args.disk.now) (g.D.Disk.told c.args.disk.now) (g.D.Disk.told c.write_at.new.self) (g.D.Disk.length_of c.args.disk.now) place r s (g.met.D.Disk.told_content c.args.disk.now) (omega arith) (g.D.Disk.power c.args.disk.now) (g.D.Disk.power c.write_at.new.self) (g.met.D.Disk.told_power c.args.disk.now) (g.D.Disk.faults c.args.disk.now) (g.D.Disk.faults c.write_at.new.self) (g.D.Disk.cuts c.args.disk.now) (g.D.Disk.cuts c.write_at.new.self)
    (record { told = c.in_err-write_at.ensures.told ∙ ap (λ (b : List ℕ). option_map (after (Writes (place + 1) b) false) (g.D.Disk.told c.args.disk.now)) frame; power = c.write_at.ensures.power; counts = c.in_err-write_at.ensures.counts }))

pub returns-in_err-write_at-clause-crash : goal.returns-in_err-write_at-clause-crash
returns-in_err-write_at-clause-crash g c =
    let s = c.requires.settled in
    let r = c.args.bytes.now in
    let place = c.args.place in
    let w = c.as_slice.result.now in
    let frame : w ≡ behind_gate r = c.as_slice.ensures.value ∙ c.fill.ensures.items in
    λ left may. crash1 (g.D.Disk.content c.args.disk.now) (g.D.Disk.may_leave c.args.disk.now) (g.D.Disk.told c.args.disk.now) (g.D.Disk.length_of c.args.disk.now) place r s (omega arith) (length w) (g.D.Disk.may_leave c.write_at.new.self) c.write_at.ensures.crash left may

pub returns-in_err-write_at-clause-any_moment : goal.returns-in_err-write_at-clause-any_moment
returns-in_err-write_at-clause-any_moment g c =
    let s = c.requires.settled in
    let r = c.args.bytes.now in
    let place = c.args.place in
    let w = c.as_slice.result.now in
    let frame : w ≡ behind_gate r = c.as_slice.ensures.value ∙ c.fill.ensures.items in
    run1 (g.D.Disk.moment c.args.disk.now) (g.D.Disk.left_since c.args.disk.now) _ (run0 (g.D.Disk.content c.args.disk.now) (g.D.Disk.may_leave c.args.disk.now) (g.D.Disk.told c.args.disk.now) (g.D.Disk.length_of c.args.disk.now) place r s (omega arith) (g.D.Disk.moment c.args.disk.now) (g.D.Disk.left_since c.args.disk.now) (λ left was. g.met.D.Disk.no_other c.args.disk.now left was))
    (g.D.Disk.moment c.write_at.new.self) (g.D.Disk.left_since c.write_at.new.self) (g.D.Disk.may_leave c.write_at.new.self)
    c.write_at.ensures.time (crash1 (g.D.Disk.content c.args.disk.now) (g.D.Disk.may_leave c.args.disk.now) (g.D.Disk.told c.args.disk.now) (g.D.Disk.length_of c.args.disk.now) place r s (omega arith) (length w) (g.D.Disk.may_leave c.write_at.new.self) c.write_at.ensures.crash)

pub returns-in_err-sync-clause-failed : goal.returns-in_err-sync-clause-failed
returns-in_err-sync-clause-failed g c =
    let s = c.requires.settled in
    let r = c.args.bytes.now in
    let place = c.args.place in
    let w = c.as_slice.result.now in
    let frame : w ≡ behind_gate r = c.as_slice.ensures.value ∙ c.fill.ensures.items in
    on_err c.from_residual-in_err-sync.result _
    (fails2 (g.D.Disk.content c.args.disk.now) (g.D.Disk.may_leave c.args.disk.now) (g.D.Disk.told c.args.disk.now) (g.D.Disk.told c.sync.new.self) (g.D.Disk.length_of c.args.disk.now) place r s (g.met.D.Disk.told_content c.args.disk.now) (omega arith) (g.D.Disk.power c.args.disk.now) (g.D.Disk.power c.sync.new.self) (g.met.D.Disk.told_power c.args.disk.now) (g.D.Disk.faults c.args.disk.now) (g.D.Disk.faults c.sync.new.self) (g.D.Disk.cuts c.args.disk.now) (g.D.Disk.cuts c.sync.new.self)
    (g.D.Disk.told c.write_at.new.self) (g.D.Disk.power c.write_at.new.self) (g.D.Disk.faults c.write_at.new.self) (g.D.Disk.cuts c.write_at.new.self)
    (record { told = c.in_ok-write_at.ensures.told ∙ ap (λ (b : List ℕ). option_map (after (Writes (place + 1) b) true) (g.D.Disk.told c.args.disk.now)) frame; power = c.write_at.ensures.power; counts = c.in_ok-write_at.ensures.counts })
    (record { told = c.in_err-sync.ensures.told; power = c.sync.ensures.power; counts = c.in_err-sync.ensures.counts })
    (on_after (g.D.Disk.power c.args.disk.now) (g.D.Disk.power c.write_at.new.self) c.write_at.ensures.power c.in_ok-write_at.ensures.on))

pub returns-in_err-sync-clause-crash : goal.returns-in_err-sync-clause-crash
returns-in_err-sync-clause-crash g c =
    let s = c.requires.settled in
    let r = c.args.bytes.now in
    let place = c.args.place in
    let w = c.as_slice.result.now in
    let frame : w ≡ behind_gate r = c.as_slice.ensures.value ∙ c.fill.ensures.items in
    λ left may. crash2 (g.D.Disk.content c.args.disk.now) (g.D.Disk.may_leave c.args.disk.now) (g.D.Disk.told c.args.disk.now) (g.D.Disk.length_of c.args.disk.now) place r s (omega arith) (length w) (g.D.Disk.may_leave c.write_at.new.self) (g.D.Disk.may_leave c.sync.new.self) c.write_at.ensures.crash c.sync.ensures.crash left may

pub returns-in_err-sync-clause-any_moment : goal.returns-in_err-sync-clause-any_moment
returns-in_err-sync-clause-any_moment g c =
    let s = c.requires.settled in
    let r = c.args.bytes.now in
    let place = c.args.place in
    let w = c.as_slice.result.now in
    let frame : w ≡ behind_gate r = c.as_slice.ensures.value ∙ c.fill.ensures.items in
    run2 (g.D.Disk.moment c.args.disk.now) (g.D.Disk.left_since c.args.disk.now) _ (run0 (g.D.Disk.content c.args.disk.now) (g.D.Disk.may_leave c.args.disk.now) (g.D.Disk.told c.args.disk.now) (g.D.Disk.length_of c.args.disk.now) place r s (omega arith) (g.D.Disk.moment c.args.disk.now) (g.D.Disk.left_since c.args.disk.now) (λ left was. g.met.D.Disk.no_other c.args.disk.now left was))
    (g.D.Disk.moment c.write_at.new.self) (g.D.Disk.moment c.sync.new.self) (g.D.Disk.left_since c.write_at.new.self) (g.D.Disk.left_since c.sync.new.self) (g.D.Disk.may_leave c.write_at.new.self) (g.D.Disk.may_leave c.sync.new.self)
    c.write_at.ensures.time (crash1 (g.D.Disk.content c.args.disk.now) (g.D.Disk.may_leave c.args.disk.now) (g.D.Disk.told c.args.disk.now) (g.D.Disk.length_of c.args.disk.now) place r s (omega arith) (length w) (g.D.Disk.may_leave c.write_at.new.self) c.write_at.ensures.crash)
    c.sync.ensures.time (crash2 (g.D.Disk.content c.args.disk.now) (g.D.Disk.may_leave c.args.disk.now) (g.D.Disk.told c.args.disk.now) (g.D.Disk.length_of c.args.disk.now) place r s (omega arith) (length w) (g.D.Disk.may_leave c.write_at.new.self) (g.D.Disk.may_leave c.sync.new.self) c.write_at.ensures.crash c.sync.ensures.crash)

pub returns-in_err-write_at-2-clause-failed : goal.returns-in_err-write_at-2-clause-failed
returns-in_err-write_at-2-clause-failed g c =
    let s = c.requires.settled in
    let r = c.args.bytes.now in
    let place = c.args.place in
    let w = c.as_slice.result.now in
    let frame : w ≡ behind_gate r = c.as_slice.ensures.value ∙ c.fill.ensures.items in
    on_err c.from_residual-in_err-write_at-2.result _
    (fails3 (g.D.Disk.content c.args.disk.now) (g.D.Disk.may_leave c.args.disk.now) (g.D.Disk.told c.args.disk.now) (g.D.Disk.told c.write_at-2.new.self) (g.D.Disk.length_of c.args.disk.now) place r s (g.met.D.Disk.told_content c.args.disk.now) (omega arith) (g.D.Disk.power c.args.disk.now) (g.D.Disk.power c.write_at-2.new.self) (g.met.D.Disk.told_power c.args.disk.now) (g.D.Disk.faults c.args.disk.now) (g.D.Disk.faults c.write_at-2.new.self) (g.D.Disk.cuts c.args.disk.now) (g.D.Disk.cuts c.write_at-2.new.self)
    (g.D.Disk.told c.write_at.new.self) (g.D.Disk.told c.sync.new.self) (g.D.Disk.power c.write_at.new.self) (g.D.Disk.power c.sync.new.self) (g.D.Disk.faults c.write_at.new.self) (g.D.Disk.faults c.sync.new.self) (g.D.Disk.cuts c.write_at.new.self) (g.D.Disk.cuts c.sync.new.self)
    (record { told = c.in_ok-write_at.ensures.told ∙ ap (λ (b : List ℕ). option_map (after (Writes (place + 1) b) true) (g.D.Disk.told c.args.disk.now)) frame; power = c.write_at.ensures.power; counts = c.in_ok-write_at.ensures.counts })
    (record { told = c.in_ok-sync.ensures.told; power = c.sync.ensures.power; counts = c.in_ok-sync.ensures.counts })
    (record { told = c.in_err-write_at-2.ensures.told; power = c.write_at-2.ensures.power; counts = c.in_err-write_at-2.ensures.counts })
    (on_after (g.D.Disk.power c.write_at.new.self) (g.D.Disk.power c.sync.new.self) c.sync.ensures.power c.in_ok-sync.ensures.on))

pub returns-in_err-write_at-2-clause-crash : goal.returns-in_err-write_at-2-clause-crash
returns-in_err-write_at-2-clause-crash g c =
    let s = c.requires.settled in
    let r = c.args.bytes.now in
    let place = c.args.place in
    let w = c.as_slice.result.now in
    let frame : w ≡ behind_gate r = c.as_slice.ensures.value ∙ c.fill.ensures.items in
    λ left may. crash3 (g.D.Disk.content c.args.disk.now) (g.D.Disk.may_leave c.args.disk.now) (g.D.Disk.told c.args.disk.now) (g.D.Disk.length_of c.args.disk.now) place r s (omega arith) w (g.D.Disk.content c.write_at.new.self) (g.D.Disk.may_leave c.sync.new.self) (g.D.Disk.may_leave c.write_at-2.new.self) frame c.in_ok-write_at.ensures.done c.in_ok-sync.ensures.durable c.write_at-2.ensures.crash left may

pub returns-in_err-write_at-2-clause-any_moment : goal.returns-in_err-write_at-2-clause-any_moment
returns-in_err-write_at-2-clause-any_moment g c =
    let s = c.requires.settled in
    let r = c.args.bytes.now in
    let place = c.args.place in
    let w = c.as_slice.result.now in
    let frame : w ≡ behind_gate r = c.as_slice.ensures.value ∙ c.fill.ensures.items in
    run3 (g.D.Disk.moment c.args.disk.now) (g.D.Disk.left_since c.args.disk.now) _ (run0 (g.D.Disk.content c.args.disk.now) (g.D.Disk.may_leave c.args.disk.now) (g.D.Disk.told c.args.disk.now) (g.D.Disk.length_of c.args.disk.now) place r s (omega arith) (g.D.Disk.moment c.args.disk.now) (g.D.Disk.left_since c.args.disk.now) (λ left was. g.met.D.Disk.no_other c.args.disk.now left was))
    (g.D.Disk.moment c.write_at.new.self) (g.D.Disk.moment c.sync.new.self) (g.D.Disk.moment c.write_at-2.new.self) (g.D.Disk.left_since c.write_at.new.self) (g.D.Disk.left_since c.sync.new.self) (g.D.Disk.left_since c.write_at-2.new.self) (g.D.Disk.may_leave c.write_at.new.self) (g.D.Disk.may_leave c.sync.new.self) (g.D.Disk.may_leave c.write_at-2.new.self)
    c.write_at.ensures.time (crash1 (g.D.Disk.content c.args.disk.now) (g.D.Disk.may_leave c.args.disk.now) (g.D.Disk.told c.args.disk.now) (g.D.Disk.length_of c.args.disk.now) place r s (omega arith) (length w) (g.D.Disk.may_leave c.write_at.new.self) c.write_at.ensures.crash)
    c.sync.ensures.time (crash2 (g.D.Disk.content c.args.disk.now) (g.D.Disk.may_leave c.args.disk.now) (g.D.Disk.told c.args.disk.now) (g.D.Disk.length_of c.args.disk.now) place r s (omega arith) (length w) (g.D.Disk.may_leave c.write_at.new.self) (g.D.Disk.may_leave c.sync.new.self) c.write_at.ensures.crash c.sync.ensures.crash)
    c.write_at-2.ensures.time (crash3 (g.D.Disk.content c.args.disk.now) (g.D.Disk.may_leave c.args.disk.now) (g.D.Disk.told c.args.disk.now) (g.D.Disk.length_of c.args.disk.now) place r s (omega arith) w (g.D.Disk.content c.write_at.new.self) (g.D.Disk.may_leave c.sync.new.self) (g.D.Disk.may_leave c.write_at-2.new.self) frame c.in_ok-write_at.ensures.done c.in_ok-sync.ensures.durable c.write_at-2.ensures.crash)

pub returns-in_err-sync-2-clause-failed : goal.returns-in_err-sync-2-clause-failed
returns-in_err-sync-2-clause-failed g c =
    let s = c.requires.settled in
    let r = c.args.bytes.now in
    let place = c.args.place in
    let w = c.as_slice.result.now in
    let frame : w ≡ behind_gate r = c.as_slice.ensures.value ∙ c.fill.ensures.items in
    on_err c.from_residual-in_err-sync-2.result _
    (fails4 (g.D.Disk.content c.args.disk.now) (g.D.Disk.may_leave c.args.disk.now) (g.D.Disk.told c.args.disk.now) (g.D.Disk.told c.sync-2.new.self) (g.D.Disk.length_of c.args.disk.now) place r s (g.met.D.Disk.told_content c.args.disk.now) (omega arith) (g.D.Disk.power c.args.disk.now) (g.D.Disk.power c.sync-2.new.self) (g.met.D.Disk.told_power c.args.disk.now) (g.D.Disk.faults c.args.disk.now) (g.D.Disk.faults c.sync-2.new.self) (g.D.Disk.cuts c.args.disk.now) (g.D.Disk.cuts c.sync-2.new.self)
    (g.D.Disk.told c.write_at.new.self) (g.D.Disk.told c.sync.new.self) (g.D.Disk.told c.write_at-2.new.self) (g.D.Disk.power c.write_at.new.self) (g.D.Disk.power c.sync.new.self) (g.D.Disk.power c.write_at-2.new.self) (g.D.Disk.faults c.write_at.new.self) (g.D.Disk.faults c.sync.new.self) (g.D.Disk.faults c.write_at-2.new.self) (g.D.Disk.cuts c.write_at.new.self) (g.D.Disk.cuts c.sync.new.self) (g.D.Disk.cuts c.write_at-2.new.self)
    (record { told = c.in_ok-write_at.ensures.told ∙ ap (λ (b : List ℕ). option_map (after (Writes (place + 1) b) true) (g.D.Disk.told c.args.disk.now)) frame; power = c.write_at.ensures.power; counts = c.in_ok-write_at.ensures.counts })
    (record { told = c.in_ok-sync.ensures.told; power = c.sync.ensures.power; counts = c.in_ok-sync.ensures.counts })
    (record { told = c.in_ok-write_at-2.ensures.told; power = c.write_at-2.ensures.power; counts = c.in_ok-write_at-2.ensures.counts })
    (record { told = c.in_err-sync-2.ensures.told; power = c.sync-2.ensures.power; counts = c.in_err-sync-2.ensures.counts })
    (on_after (g.D.Disk.power c.sync.new.self) (g.D.Disk.power c.write_at-2.new.self) c.write_at-2.ensures.power c.in_ok-write_at-2.ensures.on))

pub returns-in_err-sync-2-clause-crash : goal.returns-in_err-sync-2-clause-crash
returns-in_err-sync-2-clause-crash g c =
    let s = c.requires.settled in
    let r = c.args.bytes.now in
    let place = c.args.place in
    let w = c.as_slice.result.now in
    let frame : w ≡ behind_gate r = c.as_slice.ensures.value ∙ c.fill.ensures.items in
    λ left may. crash4 (g.D.Disk.content c.args.disk.now) (g.D.Disk.may_leave c.args.disk.now) (g.D.Disk.told c.args.disk.now) (g.D.Disk.length_of c.args.disk.now) place r s (omega arith) w (g.D.Disk.content c.write_at.new.self) (g.D.Disk.may_leave c.sync.new.self) (g.D.Disk.may_leave c.write_at-2.new.self) (g.D.Disk.may_leave c.sync-2.new.self) frame c.in_ok-write_at.ensures.done c.in_ok-sync.ensures.durable c.write_at-2.ensures.crash c.sync-2.ensures.crash left may

pub returns-in_err-sync-2-clause-any_moment : goal.returns-in_err-sync-2-clause-any_moment
returns-in_err-sync-2-clause-any_moment g c =
    let s = c.requires.settled in
    let r = c.args.bytes.now in
    let place = c.args.place in
    let w = c.as_slice.result.now in
    let frame : w ≡ behind_gate r = c.as_slice.ensures.value ∙ c.fill.ensures.items in
    run4 (g.D.Disk.moment c.args.disk.now) (g.D.Disk.left_since c.args.disk.now) _ (run0 (g.D.Disk.content c.args.disk.now) (g.D.Disk.may_leave c.args.disk.now) (g.D.Disk.told c.args.disk.now) (g.D.Disk.length_of c.args.disk.now) place r s (omega arith) (g.D.Disk.moment c.args.disk.now) (g.D.Disk.left_since c.args.disk.now) (λ left was. g.met.D.Disk.no_other c.args.disk.now left was))
    (g.D.Disk.moment c.write_at.new.self) (g.D.Disk.moment c.sync.new.self) (g.D.Disk.moment c.write_at-2.new.self) (g.D.Disk.moment c.sync-2.new.self) (g.D.Disk.left_since c.write_at.new.self) (g.D.Disk.left_since c.sync.new.self) (g.D.Disk.left_since c.write_at-2.new.self) (g.D.Disk.left_since c.sync-2.new.self) (g.D.Disk.may_leave c.write_at.new.self) (g.D.Disk.may_leave c.sync.new.self) (g.D.Disk.may_leave c.write_at-2.new.self) (g.D.Disk.may_leave c.sync-2.new.self)
    c.write_at.ensures.time (crash1 (g.D.Disk.content c.args.disk.now) (g.D.Disk.may_leave c.args.disk.now) (g.D.Disk.told c.args.disk.now) (g.D.Disk.length_of c.args.disk.now) place r s (omega arith) (length w) (g.D.Disk.may_leave c.write_at.new.self) c.write_at.ensures.crash)
    c.sync.ensures.time (crash2 (g.D.Disk.content c.args.disk.now) (g.D.Disk.may_leave c.args.disk.now) (g.D.Disk.told c.args.disk.now) (g.D.Disk.length_of c.args.disk.now) place r s (omega arith) (length w) (g.D.Disk.may_leave c.write_at.new.self) (g.D.Disk.may_leave c.sync.new.self) c.write_at.ensures.crash c.sync.ensures.crash)
    c.write_at-2.ensures.time (crash3 (g.D.Disk.content c.args.disk.now) (g.D.Disk.may_leave c.args.disk.now) (g.D.Disk.told c.args.disk.now) (g.D.Disk.length_of c.args.disk.now) place r s (omega arith) w (g.D.Disk.content c.write_at.new.self) (g.D.Disk.may_leave c.sync.new.self) (g.D.Disk.may_leave c.write_at-2.new.self) frame c.in_ok-write_at.ensures.done c.in_ok-sync.ensures.durable c.write_at-2.ensures.crash)
    c.sync-2.ensures.time (crash4 (g.D.Disk.content c.args.disk.now) (g.D.Disk.may_leave c.args.disk.now) (g.D.Disk.told c.args.disk.now) (g.D.Disk.length_of c.args.disk.now) place r s (omega arith) w (g.D.Disk.content c.write_at.new.self) (g.D.Disk.may_leave c.sync.new.self) (g.D.Disk.may_leave c.write_at-2.new.self) (g.D.Disk.may_leave c.sync-2.new.self) frame c.in_ok-write_at.ensures.done c.in_ok-sync.ensures.durable c.write_at-2.ensures.crash c.sync-2.ensures.crash)

pub returns-clause-crash : goal.returns-clause-crash
returns-clause-crash g c =
    let s = c.requires.settled in
    let r = c.args.bytes.now in
    let place = c.args.place in
    let w = c.as_slice.result.now in
    let frame : w ≡ behind_gate r = c.as_slice.ensures.value ∙ c.fill.ensures.items in
    λ left may. crash4 (g.D.Disk.content c.args.disk.now) (g.D.Disk.may_leave c.args.disk.now) (g.D.Disk.told c.args.disk.now) (g.D.Disk.length_of c.args.disk.now) place r s (omega arith) w (g.D.Disk.content c.write_at.new.self) (g.D.Disk.may_leave c.sync.new.self) (g.D.Disk.may_leave c.write_at-2.new.self) (g.D.Disk.may_leave c.sync-2.new.self) frame c.in_ok-write_at.ensures.done c.in_ok-sync.ensures.durable c.write_at-2.ensures.crash c.sync-2.ensures.crash left may

pub returns-clause-any_moment : goal.returns-clause-any_moment
returns-clause-any_moment g c =
    let s = c.requires.settled in
    let r = c.args.bytes.now in
    let place = c.args.place in
    let w = c.as_slice.result.now in
    let frame : w ≡ behind_gate r = c.as_slice.ensures.value ∙ c.fill.ensures.items in
    run4 (g.D.Disk.moment c.args.disk.now) (g.D.Disk.left_since c.args.disk.now) _ (run0 (g.D.Disk.content c.args.disk.now) (g.D.Disk.may_leave c.args.disk.now) (g.D.Disk.told c.args.disk.now) (g.D.Disk.length_of c.args.disk.now) place r s (omega arith) (g.D.Disk.moment c.args.disk.now) (g.D.Disk.left_since c.args.disk.now) (λ left was. g.met.D.Disk.no_other c.args.disk.now left was))
    (g.D.Disk.moment c.write_at.new.self) (g.D.Disk.moment c.sync.new.self) (g.D.Disk.moment c.write_at-2.new.self) (g.D.Disk.moment c.sync-2.new.self) (g.D.Disk.left_since c.write_at.new.self) (g.D.Disk.left_since c.sync.new.self) (g.D.Disk.left_since c.write_at-2.new.self) (g.D.Disk.left_since c.sync-2.new.self) (g.D.Disk.may_leave c.write_at.new.self) (g.D.Disk.may_leave c.sync.new.self) (g.D.Disk.may_leave c.write_at-2.new.self) (g.D.Disk.may_leave c.sync-2.new.self)
    c.write_at.ensures.time (crash1 (g.D.Disk.content c.args.disk.now) (g.D.Disk.may_leave c.args.disk.now) (g.D.Disk.told c.args.disk.now) (g.D.Disk.length_of c.args.disk.now) place r s (omega arith) (length w) (g.D.Disk.may_leave c.write_at.new.self) c.write_at.ensures.crash)
    c.sync.ensures.time (crash2 (g.D.Disk.content c.args.disk.now) (g.D.Disk.may_leave c.args.disk.now) (g.D.Disk.told c.args.disk.now) (g.D.Disk.length_of c.args.disk.now) place r s (omega arith) (length w) (g.D.Disk.may_leave c.write_at.new.self) (g.D.Disk.may_leave c.sync.new.self) c.write_at.ensures.crash c.sync.ensures.crash)
    c.write_at-2.ensures.time (crash3 (g.D.Disk.content c.args.disk.now) (g.D.Disk.may_leave c.args.disk.now) (g.D.Disk.told c.args.disk.now) (g.D.Disk.length_of c.args.disk.now) place r s (omega arith) w (g.D.Disk.content c.write_at.new.self) (g.D.Disk.may_leave c.sync.new.self) (g.D.Disk.may_leave c.write_at-2.new.self) frame c.in_ok-write_at.ensures.done c.in_ok-sync.ensures.durable c.write_at-2.ensures.crash)
    c.sync-2.ensures.time (crash4 (g.D.Disk.content c.args.disk.now) (g.D.Disk.may_leave c.args.disk.now) (g.D.Disk.told c.args.disk.now) (g.D.Disk.length_of c.args.disk.now) place r s (omega arith) w (g.D.Disk.content c.write_at.new.self) (g.D.Disk.may_leave c.sync.new.self) (g.D.Disk.may_leave c.write_at-2.new.self) (g.D.Disk.may_leave c.sync-2.new.self) frame c.in_ok-write_at.ensures.done c.in_ok-sync.ensures.durable c.write_at-2.ensures.crash c.sync-2.ensures.crash)

pub returns-clause-records : goal.returns-clause-records
returns-clause-records g c =
    let s = c.requires.settled in
    let r = c.args.bytes.now in
    let place = c.args.place in
    let w = c.as_slice.result.now in
    let frame : w ≡ behind_gate r = c.as_slice.ensures.value ∙ c.fill.ensures.items in
    let content_is = c.in_ok-sync-2.ensures.content ∙ c.in_ok-write_at-2.ensures.done ∙ ap (option_map (effect (Writes place (1 ∷ [])))) (c.in_ok-sync.ensures.content ∙ c.in_ok-write_at.ensures.done ∙ ap (λ (b : List ℕ). option_map (effect (Writes (place + 1) b)) (g.D.Disk.content c.args.disk.now)) frame) in
    (grew (g.D.Disk.content c.args.disk.now) (g.D.Disk.content c.sync-2.new.self) (g.D.Disk.may_leave c.args.disk.now) (g.D.Disk.told c.args.disk.now) (g.D.Disk.length_of c.args.disk.now) place r s (omega arith) content_is).records_are

pub returns-clause-content : goal.returns-clause-content
returns-clause-content g c =
    let s = c.requires.settled in
    let r = c.args.bytes.now in
    let place = c.args.place in
    let w = c.as_slice.result.now in
    let frame : w ≡ behind_gate r = c.as_slice.ensures.value ∙ c.fill.ensures.items in
    let content_is = c.in_ok-sync-2.ensures.content ∙ c.in_ok-write_at-2.ensures.done ∙ ap (option_map (effect (Writes place (1 ∷ [])))) (c.in_ok-sync.ensures.content ∙ c.in_ok-write_at.ensures.done ∙ ap (λ (b : List ℕ). option_map (effect (Writes (place + 1) b)) (g.D.Disk.content c.args.disk.now)) frame) in
    content_is

pub returns-clause-told : goal.returns-clause-told
returns-clause-told g c =
    let r = c.args.bytes.now in
    let place = c.args.place in
    let w = c.as_slice.result.now in
    let frame : w ≡ behind_gate r = c.as_slice.ensures.value ∙ c.fill.ensures.items in
    whole_run (g.D.Disk.told c.args.disk.now) (g.D.Disk.told c.sync-2.new.self) (g.D.Disk.told c.write_at.new.self) (g.D.Disk.told c.sync.new.self) (g.D.Disk.told c.write_at-2.new.self) place r
    (c.in_ok-write_at.ensures.told ∙ ap (λ (b : List ℕ). option_map (after (Writes (place + 1) b) true) (g.D.Disk.told c.args.disk.now)) frame) c.in_ok-sync.ensures.told c.in_ok-write_at-2.ensures.told c.in_ok-sync-2.ensures.told

pub returns-clause-power : goal.returns-clause-power
returns-clause-power g c =
    c.sync-2.ensures.power ∙ ap power_after (c.write_at-2.ensures.power ∙ ap power_after (c.sync.ensures.power ∙ ap power_after c.write_at.ensures.power))

pub returns-clause-on : goal.returns-clause-on
returns-clause-on g c = on_after (g.D.Disk.power c.write_at-2.new.self) (g.D.Disk.power c.sync-2.new.self) c.sync-2.ensures.power c.in_ok-sync-2.ensures.on

pub returns-clause-counts : goal.returns-clause-counts
returns-clause-counts g c =
    still_next _ _ _ _ _ _ _ c.in_ok-write_at.ensures.counts (still_next _ _ _ _ _ _ _ c.in_ok-sync.ensures.counts (still_next _ _ _ _ _ _ _ c.in_ok-write_at-2.ensures.counts (still_one _ _ _ _ _ c.in_ok-sync-2.ensures.counts)))

pub returns-clause-settled : goal.returns-clause-settled
returns-clause-settled g c =
    let s = c.requires.settled in
    let r = c.args.bytes.now in
    let place = c.args.place in
    let w = c.as_slice.result.now in
    let frame : w ≡ behind_gate r = c.as_slice.ensures.value ∙ c.fill.ensures.items in
    let content_is = c.in_ok-sync-2.ensures.content ∙ c.in_ok-write_at-2.ensures.done ∙ ap (option_map (effect (Writes place (1 ∷ [])))) (c.in_ok-sync.ensures.content ∙ c.in_ok-write_at.ensures.done ∙ ap (λ (b : List ℕ). option_map (effect (Writes (place + 1) b)) (g.D.Disk.content c.args.disk.now)) frame) in
    let after = grew (g.D.Disk.content c.args.disk.now) (g.D.Disk.content c.sync-2.new.self) (g.D.Disk.may_leave c.args.disk.now) (g.D.Disk.told c.args.disk.now) (g.D.Disk.length_of c.args.disk.now) place r s (omega arith) content_is in
    record {
      whole = after.whole;
      place_is = after.place_is;
      inside = omega (arith, s.inside, c.in_ok-write_at.ensures.length, c.in_ok-sync.ensures.length, c.in_ok-write_at-2.ensures.length, c.in_ok-sync-2.ensures.length, ap length frame, length-behind_gate r);
      durable = subst (λ (o : Option (List ℕ)). IsDurable o (g.D.Disk.may_leave c.sync-2.new.self)) (λ i. sym c.in_ok-sync-2.ensures.content i) c.in_ok-sync-2.ensures.durable;
      synced = nothing_pending (g.D.Disk.told c.write_at-2.new.self) (g.D.Disk.told c.sync-2.new.self) c.in_ok-sync-2.ensures.told;
    }
