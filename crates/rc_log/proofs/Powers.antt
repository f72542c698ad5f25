-- The power behind a call that was done.
use Rattle.std.specs.Prelude.{Bool, true, false, if◌then◌else◌, IsTrue, ◌==◌, ◌-◌}
use Rattle.std.proofs.Common.{◌≡◌, refl, sym, subst}
use Rattle.rc_disk.specs.declared.power.Power.{Power}
use Rattle.rc_disk.specs.declared.power.Power.TheVariants.{On, Armed, Off}
use Rattle.rc_disk.specs.Calls.{holds, is_on, power_after}

-- where a cut does not fall the power stays on
stays_on : (falls : Bool) (next : Power) → IsTrue (if falls then false else true) → IsTrue (is_on next) → IsTrue (is_on (if falls then Off else next))
stays_on true next stays on = stays
stays_on false next stays on = on

held : (power : Power) → IsTrue (holds power) → IsTrue (is_on (power_after power))
held On holding = refl
held (Armed k pick) holding = stays_on (k == 1) (Armed (k - 1) pick) holding refl
held Off holding = holding

-- the same of the power that is told after the call
pub on_after : (power next : Power) → next ≡ power_after power → IsTrue (holds power) → IsTrue (is_on next)
on_after power next is holding = subst (λ (p : Power). IsTrue (is_on p)) (sym is) (held power holding)
