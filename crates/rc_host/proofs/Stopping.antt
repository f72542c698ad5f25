-- A node that stops inside an act, as its host.
use Rattle.std.proofs.Common.{◌≡◌, ℕ, ◌+◌, List, [], ◌∷◌, ◌++◌, Bool, true, false, cond, Option, Some, IfSome, Ok, length, sym, ap, ◌∙◌, subst, arith, length-append}
use Rattle.std.specs.Prelude.{nat_lt}
use Rattle.rc_disk.specs.Calls.{Told, read_bytes}
use Rattle.rc_log.specs.Append.{keeps, with_or_without}
use Rattle.rc_log.specs.Journals.{State, Fails, would_pass_limit}
use Rattle.rc_log.specs.Records.{records, size_of}
use Rattle.rc_record.specs.declared.record.Record.{Record}
use Rattle.rc_record.specs.Spelling.{record_bytes}
use Rattle.rc_protocol.specs.Nodes.{logged}
use Rattle.rc_runs.specs.Devices.{Device, offset_after}
use Rattle.rc_runs.specs.Stored.{records_of}
use Rattle.rc_devices.specs.Laws.{IsTold, IsFailed}
use Rattle.rc_devices.proofs.Openings.{cuts_are_devices}
use Rattle.rc_host.specs.AnyNode.{AnyAct, NodeDurable}
use Rattle.rc_host.specs.Standing.{Standing, after_stop}
use Rattle.rc_host.specs.Hosts.{Run, Holds, HasLog, StopsAt, IsLogged}
use Rattle.rc_host.proofs.Acting.{records_of_more, size_of_more}

module _ (gives : List (List ℕ) → NodeDurable → Type 0) (run : Run) (x : Standing) (d : Device) (act : AnyAct) (old new : State) (blobs : List (List ℕ)) (log : HasLog gives run old blobs x d) where
  -- the disk failed at the record
  pub stops_failed : (r : Record) (fails : Fails old new (record_bytes r)) → would_pass_limit old (length (record_bytes r)) ≡ false → IsTold new run.ended
      → (failed : IsFailed run.begun run.ended new fails.calls.call fails.calls.cause d (length (record_bytes r)))
      → StopsAt run new (with_or_without (keeps fails.calls.call fails.calls.cause) blobs (record_bytes r)) failed.after
  stops_failed r fails fits told failed =
      let kept = keeps fails.calls.call fails.calls.cause in
      let bytes = record_bytes r in
      record {
        told = failed.told;
        tells = failed.tells;
        disk = failed.disk;
        left = subst (λ (o : Option (List (List ℕ))). IfSome o (λ rs. records (read_bytes failed.told) ≡ Ok (with_or_without kept rs bytes))) log.has
            (subst (λ (o : Option Told). IfSome o (λ t. IfSome old.records (λ rs. records (read_bytes t) ≡ Ok (with_or_without kept rs bytes)))) failed.tells fails.calls.kept);
        offset = sizes kept bytes (sym log.size ∙ log.device.offset) ∙ sym failed.offset;
      }
    where
      sizes : (b : Bool) (bytes : List ℕ) → size_of blobs ≡ d.offset → size_of (with_or_without b blobs bytes) ≡ cond b (offset_after d.offset (length bytes)) d.offset
      sizes true bytes is = sym (size_of_more blobs bytes) ∙ ap (λ (n : ℕ). n + 5 + length bytes) is
      sizes false bytes is = is

  -- the log is full with the record
  pub stops_full : new ≡ old → IfSome new.told (λ t. IfSome new.records (λ rs. records (read_bytes t) ≡ Ok rs)) → StopsAt run new blobs d
  stops_full is whole = record {
    told = log.device.told;
    tells = ap (λ (s : State). s.told) is ∙ log.device.tells;
    disk = (cuts_are_devices run.begun run.ended d).ends log.device.told log.device.power log.device.disk;
    left = subst (λ (o : Option (List (List ℕ))). IfSome o (λ rs. records (read_bytes log.device.told) ≡ Ok rs)) (ap (λ (s : State). s.records) is ∙ log.has)
        (subst (λ (o : Option Told). IfSome o (λ t. IfSome new.records (λ rs. records (read_bytes t) ≡ Ok rs))) (ap (λ (s : State). s.told) is ∙ log.device.tells) whole);
    offset = sym log.size ∙ log.device.offset;
  }

module _ (gives : List (List ℕ) → NodeDurable → Type 0) (run : Run) (x : Standing) (d : Device) (act : AnyAct) (old : State) (blobs : List (List ℕ)) (log : HasLog gives run old blobs x d) where
  -- what the node is after the stop
  pub held_after : (r : Record) (kept : Bool) → act.logs ≡ Some r → IsLogged gives x act r → Holds gives (with_or_without kept blobs (record_bytes r)) (after_stop x act kept)
  held_after r true some logs = record {
    log = records_of_more blobs (record_bytes r) ∙ ap (λ (rs : List Record). rs ++ records_of (record_bytes r ∷ [])) log.holds.log ∙ ap (λ (rs : List Record). x.log ++ rs) logs.again ∙ ap (logged x.log) (sym some);
    back = logs.gives_more blobs log.holds.back;
  }
  held_after r false some logs = record { log = log.holds.log; back = log.holds.back }

  -- the log has one record more than before exactly where it was kept
  pub counted_after : (kept : Bool) (bytes : List ℕ) → nat_lt (length blobs) (length (with_or_without kept blobs bytes)) ≡ kept
  counted_after true bytes = grind (arith, length-append)
  counted_after false bytes = grind arith
