-- Acts that differ in what a stop loses alone.
use Rattle.std.proofs.Common.{◌≡◌, ℕ, Bool, true, false, List, Option, Some, None, ap, subst, ◌∙◌}
use Rattle.rc_log.specs.Journals.{State}
use Rattle.rc_record.specs.declared.record.Record.{Record}
use Rattle.rc_protocol.specs.Coordinator.{CoordDurable, CoordVolatile, CoordAct}
use Rattle.rc_node.specs.declared.fault.NodeFault.{NodeFault}
use Rattle.rc_node.specs.declared.fault.NodeFault.TheVariants.{NoMemory, Failed, Full, BallotsSpent}
use Rattle.rc_node.specs.Acts.{Site, Logs, Stays, FailsAt, IsFullAt, IsLeft, Refuses, coord_does}
use Rattle.rc_node.specs.Cores.{stops}

module _ (s : CoordDurable) (may_leave : List ℕ → Type 0) where
  stays-alike : (fault : NodeFault) (old new : State) (a b : CoordAct) → a.logs ≡ b.logs → a.spent ≡ b.spent
      → Stays fault may_leave old new (coord_does s a) → Stays fault may_leave old new (coord_does s b)
  stays-alike NoMemory old new a b logs spent stays = stays
  stays-alike Failed old new a b logs spent stays = subst (λ (r : Option Record). FailsAt may_leave old new r) logs stays
  stays-alike Full old new a b logs spent stays = subst (λ (r : Option Record). IsLeft old new (IsFullAt old r)) logs stays
  stays-alike BallotsSpent old new a b logs spent stays = subst (λ (x : Bool). IsLeft old new (x ≡ true)) spent stays

  -- what was not done of the one was not done of the other
  pub refuses-alike : (fault : NodeFault) (old new : Site CoordDurable CoordVolatile) (a b : CoordAct) → a.logs ≡ b.logs → a.spent ≡ b.spent
      → Refuses fault may_leave old new (coord_does s a) → Refuses fault may_leave old new (coord_does s b)
  refuses-alike fault old new a b logs spent refuses = record {
    durable = refuses.durable;
    volatile = refuses.volatile;
    journal = stays-alike fault old.journal new.journal a b logs spent refuses.journal;
    sends = refuses.sends;
  }

-- THE JOURNAL AFTERWARDS
-- it has not failed after an act
pub logs-sound : (old new : State) (logs : Option Record) → Logs old new logs → old.failed ≡ false → new.failed ≡ false
logs-sound old new None same sound = ap (λ (j : State). j.failed) same ∙ sound
logs-sound old new (Some r) enters sound = enters.adds.sound

-- nor after a fault that does not stop the node
pub stays-sound : (s : CoordDurable) (may_leave : List ℕ → Type 0) (fault : NodeFault) (old new : State) (act : CoordAct) → Stays fault may_leave old new (coord_does s act)
    → old.failed ≡ false → stops fault ≡ false → new.failed ≡ false
stays-sound s may_leave NoMemory old new act stays sound up = ap (λ (j : State). j.failed) stays ∙ sound
stays-sound s may_leave Failed old new act stays sound up = absurd cc
stays-sound s may_leave Full old new act stays sound up = absurd cc
stays-sound s may_leave BallotsSpent old new act stays sound up = ap (λ (j : State). j.failed) stays.same ∙ sound
