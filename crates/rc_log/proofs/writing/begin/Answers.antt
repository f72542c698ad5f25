-- What stands after each way that the two calls may go.
use Rattle.std.proofs.Common.{ℕ, List, [], ◌∷◌, Option, option_map, ◌∙◌, ap, sym, subst, arith}
use Rattle.std.proofs.lemmas.Result.{err_from_is_err_and}
use Rattle.rc_disk.specs.Calls.{Writes, effect, power_after}
use Rattle.rc_disk.specs.Crashes.{IsDurable}
use Rattle.rc_log.proofs.Begin.{none_begun, whole_begun, place_begun, content_begun, fails1, fails2}
use Rattle.rc_log.proofs.Stops.{nothing_pending}
use Rattle.rc_log.proofs.writing.begin.Goals as goal

pub returns-in_err-write_at-clause-err : goal.returns-in_err-write_at-clause-err
returns-in_err-write_at-clause-err g c =
    let p = err_from_is_err_and c.from_residual-in_err-write_at.result c.from_residual-in_err-write_at.ensures.1 in rw (p.1, p.2) (
      fails1 _ _ _ _ _ _ _ _ _ _ _ _ c.room.ensures.told c.room.ensures.power c.room.ensures.faults c.room.ensures.cuts (g.met.D.Disk.told_power c.room.new.self)
          (record { told = c.in_err-write_at.ensures.told; power = c.write_at.ensures.power; counts = c.in_err-write_at.ensures.counts }),
      omega (arith, c.room.ensures.faults, c.in_err-write_at.ensures.cause.failed),
    )

pub returns-in_err-sync-clause-err : goal.returns-in_err-sync-clause-err
returns-in_err-sync-clause-err g c =
    let p = err_from_is_err_and c.from_residual-in_err-sync.result c.from_residual-in_err-sync.ensures.1 in rw (p.1, p.2) (
      fails2 _ _ _ _ _ _ _ _ _ _ _ _ c.room.ensures.told c.room.ensures.power c.room.ensures.faults c.room.ensures.cuts (g.met.D.Disk.told_power c.room.new.self) _ _ _ _
          (record { told = c.in_ok-write_at.ensures.told; power = c.write_at.ensures.power; counts = c.in_ok-write_at.ensures.counts })
          (record { told = c.in_err-sync.ensures.told; power = c.sync.ensures.power; counts = c.in_err-sync.ensures.counts }),
      omega (arith, c.room.ensures.faults, c.in_ok-write_at.ensures.cause.later, c.in_err-sync.ensures.cause.failed),
    )

pub returns-clause-power : goal.returns-clause-power
returns-clause-power g c = c.sync.ensures.power ∙ ap power_after (c.write_at.ensures.power ∙ ap power_after c.room.ensures.power)

pub returns-clause-content : goal.returns-clause-content
returns-clause-content g c =
    c.in_ok-sync.ensures.content ∙ c.in_ok-write_at.ensures.done ∙ ap (option_map (effect (Writes 0 (0 ∷ [])))) c.room.ensures.content
    ∙ content_begun (g.D.Disk.content c.args.disk.now) (g.D.Disk.length_of c.args.disk.now) c.requires (g.met.D.Disk.has_length c.args.disk.now)

pub returns-clause-none : goal.returns-clause-none
returns-clause-none g c = none_begun _ _ (returns-clause-content g c)

pub returns-clause-settled : goal.returns-clause-settled
returns-clause-settled g c = record {
  whole = whole_begun _ _ (returns-clause-content g c);
  place_is = place_begun _ _ (returns-clause-content g c);
  inside = omega (arith, c.in_ok-write_at.ensures.length, c.in_ok-sync.ensures.length);
  durable = subst (λ (o : Option (List ℕ)). IsDurable o (g.D.Disk.may_leave c.sync.new.self)) (sym c.in_ok-sync.ensures.content) c.in_ok-sync.ensures.durable;
  synced = nothing_pending (g.D.Disk.told c.write_at.new.self) (g.D.Disk.told c.sync.new.self) c.in_ok-sync.ensures.told;
}
