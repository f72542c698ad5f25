-- Why an event does not happen, from why nobody acted in it.
use Rattle.std.proofs.Common.{◌≡◌, ℕ, Bool, true, false, List, length, Option, None, Some, Result, Ok, Err, IfErr, sym, ◌∙◌, ap, subst}
use Rattle.std.specs.Prelude.{IsErrAnd, nat_le, if◌then◌else◌, ◌&&◌}
use Rattle.rc_report.specs.declared.fault.Which.{Which}
use Rattle.rc_report.specs.declared.fault.Which.TheVariants.{Transactions, Ballots, Version}
use Rattle.rc_report.specs.declared.fault.Wrong.{Wrong}
use Rattle.rc_runs.specs.declared.event.Event.{Event}
use Rattle.rc_runs.specs.Devices.{Device}
use Rattle.rc_runs.specs.World.{Deed, Idle, ByClient, ByCoord, ByShard, CoordStops, ShardStops, Course, Goes, Stops, along, deed}
use Rattle.rc_runs.specs.Refusals.{wrong, begins, worn_out, most_transactions}
use Rattle.rc_runs.specs.Session.{Session, Limited, disk_change, happens}
use Rattle.rc_begin.specs.declared.fault.WorldFault.{WorldFault}
use Rattle.rc_begin.specs.declared.fault.WorldFault.TheVariants.{NoMemory, Farm, Log, Limit, Naming}
use Rattle.rc_world.specs.Steps.{early_limit, event_limit}
use Rattle.rc_world.specs.Limits.{LimitIs, RefusalIs, CauseIs}
use Rattle.rc_world.specs.Refused.{ActRefused, StartRefused}
use Rattle.rc_world.proofs.Happenings.{misnamed, limited_early, limited_worn}

-- a version that is worn out is so however the event went
worn_stays : (d : Deed) (k : Course) → worn_out d ≡ Some Version → worn_out (along k d) ≡ Some Version
worn_stays Idle k worn = absurd (cc)
worn_stays (ByClient t act) Goes worn = worn
worn_stays (ByClient t act) (Stops kept) worn = worn
worn_stays (ByCoord d x act) k worn = absurd (no_version act.spent worn)
  where
    no_version : (b : Bool) → (let o : Option Which = if b then Some Ballots else None in o ≡ Some Version) → ⊥
    no_version true is = cc
    no_version false is = cc
worn_stays (ByShard d sh x act) k worn = absurd (cc)
worn_stays (CoordStops d x kept) k worn = absurd (cc)
worn_stays (ShardStops d sh x kept) k worn = absurd (cc)

module _ (z : Session) (e : Event) where
  pub no_memory : (fault : WorldFault) → fault ≡ NoMemory → CauseIs z e fault
  no_memory fault is = subst (λ (f : WorldFault). CauseIs z e f) (sym is) tt

  pub wrongly : (name : Wrong) → wrong z.world e ≡ Some name → CauseIs z e (Naming name)
  wrongly name is = misnamed z e name is

  pub is_misnamed : (fault : WorldFault) (name : Wrong) → fault ≡ Naming name → wrong z.world e ≡ Some name → CauseIs z e fault
  is_misnamed fault name same is = subst (λ (f : WorldFault). CauseIs z e f) (sym same) (misnamed z e name is)

  -- one event more passes its limit
  pub early_is : (events : ℕ) → begins e ≡ false → events ≡ z.world.events → early_limit z.world e ≡ event_limit events
  early_is events none same = ap (λ (b : Bool). if b && nat_le most_transactions (length z.world.parties.clients) then Some Transactions else event_limit z.world.events) none ∙ ap event_limit (sym same)

  pub past_events : (events : ℕ) (fault : WorldFault) → wrong z.world e ≡ None → begins e ≡ false → events ≡ z.world.events → (which : Which) × (fault ≡ Limit which) × (event_limit events ≡ Some which) → CauseIs z e fault
  past_events events fault named none same why = subst (λ (f : WorldFault). CauseIs z e f) (sym why.1) (limited_early z e why.0 named (early_is events none same ∙ why.2))

  -- a node did not act, or did not start
  pub no_act : (Before : Type 0) (fault : WorldFault) → wrong z.world e ≡ None → early_limit z.world e ≡ None → ActRefused z e Before fault → CauseIs z e fault
  no_act Before NoMemory named early why = tt
  no_act Before Farm named early why = why.disks
  no_act Before (Limit which) named early why = subst (λ (w : Which). happens z e ≡ Err (Limited w)) (sym why.0) (limited_worn z e Ballots named early why.1)
  no_act Before (Log node fault) named early why = absurd why
  no_act Before (Naming name) named early why = absurd why

  pub no_start : (Hosts : List Device → Type 0) (fault : WorldFault) → StartRefused z e Hosts fault → CauseIs z e fault
  no_start Hosts NoMemory why = tt
  no_start Hosts Farm why = why
  no_start Hosts (Limit which) why = absurd why
  no_start Hosts (Log node fault) why = absurd why
  no_start Hosts (Naming name) why = absurd why

  -- a version is worn out
  pub version_spent : wrong z.world e ≡ None → early_limit z.world e ≡ None → worn_out (deed z.world.parties z.world.sent e) ≡ Some Version → CauseIs z e (Limit Version)
  version_spent named early worn = limited_worn z e Version named early (worn_stays (deed z.world.parties z.world.sent e) (disk_change z e).course worn)

  -- what is sent passes a limit, or nothing can be lost
  pub not_sent : (fault : WorldFault) → LimitIs z e fault → CauseIs z e fault
  not_sent NoMemory why = absurd why
  not_sent Farm why = absurd why
  not_sent (Limit which) why = why
  not_sent (Log node fault) why = absurd why
  not_sent (Naming name) why = absurd why

  pub not_lost : (fault : WorldFault) → RefusalIs z e fault → CauseIs z e fault
  not_lost NoMemory why = absurd why
  not_lost Farm why = absurd why
  not_lost (Limit which) why = why
  not_lost (Log node fault) why = absurd why
  not_lost (Naming name) why = misnamed z e name why

-- in other words
pub caused_as : (z : Session) (e as_e : Event) → as_e ≡ e → (fault : WorldFault) → CauseIs z e fault → CauseIs z as_e fault
caused_as z e as_e same fault why = subst (λ (k : Event). CauseIs z k fault) (sym same) why

-- a fault is given on as it is
pub given_on : {X : Type 0} (P : WorldFault → Type 0) (result : Result X WorldFault) (fault : WorldFault) → IsErrAnd result (λ e. e ≡ fault) → P fault → IfErr result P
given_on P (Ok x) fault is holds = tt
given_on P (Err e) fault is holds = subst P (sym is) holds
