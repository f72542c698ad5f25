-- How an event went at a host, from what the host answers.
use Rattle.std.proofs.Common.{◌≡◌, ℕ, List, refl, sym, subst}
use Rattle.rc_ids.specs.declared.names.Party.TheVariants.{Node}
use Rattle.rc_msg.specs.Outboxes.{Outbox, new_outbox}
use Rattle.rc_report.specs.declared.line.Line.{Line}
use Rattle.rc_runs.specs.Devices.{Device}
use Rattle.rc_host.specs.AnyNode.{AnyAct, NodeDurable}
use Rattle.rc_host.specs.Standing.{Standing}
use Rattle.rc_host.specs.Hosts.{Sight, Run, Went, Stayed}
use Rattle.rc_host.specs.declared.host.Host.{Host}
use Rattle.rc_host.specs.declared.host.Course.{Course}
use Rattle.rc_host.specs.declared.host.HostFault.{HostFault}
use Rattle.rc_host.specs.declared.host.HostFault.TheVariants.{NoMemory, BallotsSpent, DiskFailed, Damaged, Lost}
use Rattle.rc_begin.specs.declared.fault.WorldFault.{WorldFault}
use Rattle.rc_world.specs.Turns as turns
use Rattle.rc_world.specs.Turns.{Turned, TurnRefused, Unturned, lines_of, fault_of}

module _ {N J D : Type 0} (s : Sight N J D) (gives : List (List ℕ) → NodeDurable → Type 0) (run : Run) (new : Host N J D) (x : Standing) (d : Device) (act : AnyAct) where
  pub turned : (course k : Course) (before after : Outbox) (printed : List Line) → course ≡ k → before ≡ new_outbox (Node run.node) → printed ≡ lines_of run.node k → Went s gives run course new before after x d act → Turned s gives run new after k printed x d act
  turned course k before after printed is from prints went = record {
    went = subst (λ (o : Outbox). Went s gives run k new o after x d act) from (subst (λ (j : Course). Went s gives run j new before after x d act) is went);
    prints = prints;
  }

  refused_so : (fault : HostFault) (before after : Outbox) → Stayed s gives run fault new before after x d act → TurnRefused s gives run (fault_of fault) new x d act
  refused_so NoMemory before after stays = turns.Stays stays.0
  refused_so BallotsSpent before after stays = (stays.0, refl)
  refused_so DiskFailed before after stays = (stays.0, stays.1)
  refused_so (Damaged offset) before after stays = absurd stays
  refused_so Lost before after stays = turns.Lost stays.0

  pub refused : (fault : HostFault) (given : WorldFault) (before after : Outbox) → given ≡ fault_of fault → Stayed s gives run fault new before after x d act → TurnRefused s gives run given new x d act
  refused fault given before after is stays = subst (λ (f : WorldFault). TurnRefused s gives run f new x d act) (sym is) (refused_so fault before after stays)
