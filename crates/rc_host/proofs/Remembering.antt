-- What a disk told before an act is told still after it.
use Rattle.std.proofs.Common.{◌≡◌, ℕ, Bool, true, false, ◌+◌, ◌-◌, ◌^◌, ◌≤◌, ◌<◌, List, [], Option, Some, None, option_map, IfSome, sym, ap, ◌∙◌, subst, arith, append-nil}
use Rattle.rc_disk.specs.declared.power.Cause.{Cause}
use Rattle.rc_disk.specs.Calls.{Told, Numbers, Reads}
use Rattle.rc_log.specs.Append.{append_calls, all_done, stopped_at, stopped_by, numbers_of}
use Rattle.rc_log.specs.Journals.{State}
use Rattle.rc_msg.specs.Outboxes.{Outbox}
use Rattle.rc_record.specs.declared.record.Record.{Record}
use Rattle.rc_record.specs.Spelling.{record_bytes}
use Rattle.rc_node.specs.Acts.{Logs, FailsAt, Stays}
use Rattle.rc_node.specs.Cores.{HasRefused}
use Rattle.rc_node.specs.declared.fault.NodeFault.{NodeFault}
use Rattle.rc_node.specs.declared.fault.NodeFault.TheVariants.{NoMemory, Failed, Full, BallotsSpent}
use Rattle.rc_devices.specs.Disks.{AreKept, ReadsAreKept, IsKept}
use Rattle.rc_devices.specs.Laws.{IsTold}
use Rattle.rc_devices.proofs.Appends.{some_inj, stopped_reads}
use Rattle.rc_devices.proofs.Staying.{calls_stay, fault_stays}
use Rattle.rc_host.specs.AnyNode.{AnyNode, AnyAct}

-- over disks that tell what they tell, if they do
abbrev Keeps : Option Told → Told → Type 0
Keeps told ended = IfSome told (λ t. IsKept t ended)

-- AN APPEND
appended_stays : (before now : Option Told) (ended : Told) (size : ℕ) (r : List ℕ) → now ≡ option_map (all_done (append_calls size r)) before → Keeps now ended → Keeps before ended
appended_stays None now ended size r now_is kept = tt
appended_stays (Some t) now ended size r now_is kept =
    let after = all_done (append_calls size r) t in
    let still : IsKept after ended = subst (λ (o : Option Told). Keeps o ended) now_is kept in
    let calls_are : after.numbers.calls ≡ t.numbers.calls + 4 = omega arith in
    record {
      calls = calls_stay t.numbers.calls 4 t.numbers.failed ended.numbers.failed (subst (λ (m : ℕ). AreKept m t.numbers.failed ended.numbers.failed) calls_are still.calls);
      reads = still.reads;
      left = still.left;
    }

failed_stays : (before now : Option Told) (ended : Told) (call size : ℕ) (cause : Cause) (r : List ℕ) → 1 ≤ call → now ≡ option_map (stopped_at call (append_calls size r)) before
    → numbers_of now ≡ option_map (stopped_by call cause) (numbers_of before) → Keeps now ended → Keeps before ended
failed_stays None now ended call size cause r low now_is numbers kept = tt
failed_stays (Some t) now ended call size cause r low now_is numbers kept =
    let after = stopped_at call (append_calls size r) t in
    let still : IsKept after ended = subst (λ (o : Option Told). Keeps o ended) now_is kept in
    let numbers_are : after.numbers ≡ stopped_by call cause t.numbers = some_inj after.numbers (stopped_by call cause t.numbers) (sym (ap numbers_of now_is) ∙ numbers) in
    record {
      calls = fault_stays t.numbers.calls call t.numbers.failed ended.numbers.failed cause low (subst (λ (x : Numbers). AreKept x.calls x.failed ended.numbers.failed) numbers_are still.calls);
      reads = subst (λ (x : Reads). ReadsAreKept x.made x.failed ended.reads.failed) (stopped_reads call (append_calls size r) t) still.reads;
      left = subst (λ (x : Reads). x.made < 2 ^ 64 - 1) (stopped_reads call (append_calls size r) t) still.left;
    }

-- AN ACT
pub done_stays : (old new : State) (ended : Told) (logs : Option Record) → Logs old new logs → IsTold new ended → IsTold old ended
done_stays old new ended None same told = subst (λ (z : State). IsTold z ended) same told
done_stays old new ended (Some r) enters told = appended_stays old.told new.told ended old.size (record_bytes r) enters.adds.calls told

abbrev pub is_failed : NodeFault → Bool
is_failed Failed = true
is_failed _ = false

same_log : (fault : NodeFault) (may_leave : List ℕ → Type 0) (old new : State) (act : AnyAct) → is_failed fault ≡ false → Stays fault may_leave old new act → new ≡ old
same_log NoMemory may_leave old new act other stays = stays
same_log Failed may_leave old new act other stays = absurd cc
same_log Full may_leave old new act other stays = stays.same
same_log BallotsSpent may_leave old new act other stays = stays.same

-- what the log of an append that failed tells
failed_log_stays : (may_leave : List ℕ → Type 0) (old new : State) (ended : Told) (logs : Option Record) → FailsAt may_leave old new logs → IsTold new ended → IsTold old ended
failed_log_stays may_leave old new ended None fails told = absurd fails
failed_log_stays may_leave old new ended (Some r) breaks told =
    let fails = breaks.fails.calls in
    failed_stays old.told new.told ended fails.call old.size fails.cause (record_bytes r) fails.low fails.whole_state fails.numbers told

module _ {J : Type 0} (state : J → State) (may_leave : J → List ℕ → Type 0) (fault : NodeFault) (old new : AnyNode J) (before after : Outbox) (act : AnyAct) (ended : Told)
    (refused : HasRefused state may_leave fault old new before after act) where
  -- a node that goes on, or whose log was full, has its log as before
  pub refused_stays : is_failed fault ≡ false → IsTold (state new.journal) ended → IsTold (state old.journal) ended
  refused_stays other told = subst (λ (z : State). IsTold z ended) (same_log fault (may_leave new.journal) (state old.journal) (state new.journal) act other refused.journal) told

  pub full_stays : (journal : J) → journal ≡ new.journal → is_failed fault ≡ false → IsTold (state journal) ended → IsTold (state old.journal) ended
  full_stays journal journal_is other told =
      let same : state journal ≡ state old.journal = ap state journal_is ∙ same_log fault (may_leave new.journal) (state old.journal) (state new.journal) act other refused.journal in
      subst (λ (z : State). IsTold z ended) same told

  pub fault_leaves : (journal : J) → journal ≡ new.journal → fault ≡ Failed → IsTold (state journal) ended → IsTold (state old.journal) ended
  fault_leaves journal journal_is fault_is told =
      let fails : FailsAt (may_leave new.journal) (state old.journal) (state new.journal) act.logs = subst (λ (f : NodeFault). Stays f (may_leave new.journal) (state old.journal) (state new.journal) act) fault_is refused.journal in
      failed_log_stays (may_leave new.journal) (state old.journal) (state new.journal) ended act.logs fails (subst (λ (j : J). IsTold (state j) ended) journal_is told)

-- what a disk tells is told then, where it has reads left
pub told_then : (t : Told) → t.reads.made < 2 ^ 64 - 1 → IsKept t t
told_then t left = record {
  calls = record { since = []; all = sym (append-nil t.numbers.failed); above = tt };
  reads = record { since = []; all = sym (append-nil t.reads.failed); above = tt };
  left = left;
}
