-- What the log of a node that begins gives it, and the head that it owes.
use Rattle.std.proofs.Common.{◌≡◌, ℕ, ◌+◌, ◌-◌, ◌^◌, ◌≤◌, ◌<◌, List, [], ◌∷◌, ◌++◌, Bool, true, false, cond, Option, Some, None, option_map, IfSome, Result, Ok, Err, length, refl, sym, ap, ◌∙◌, subst, arith, append-nil, length-append}
use Rattle.std.specs.Prelude.{◌≢◌}
use Rattle.rc_ids.specs.Cluster.{Layout}
use Rattle.rc_ids.specs.Tables.{maybe}
use Rattle.rc_ids.specs.declared.names.NodeId.{NodeId}
use Rattle.rc_ids.specs.declared.names.NodeId.TheVariants.{Coord, Shard as ShardServer}
use Rattle.rc_disk.specs.declared.power.Cause.{Cause}
use Rattle.rc_disk.specs.Calls.{Told, Numbers, Reads, Call, powered as powered_disk}
use Rattle.rc_log.specs.Append.{append_calls, all_done, stopped_at, stopped_by, numbers_of}
use Rattle.rc_log.specs.Journals.{State, Fails}
use Rattle.rc_record.specs.Heads.{new_head}
use Rattle.rc_record.specs.Spelling.{HasHead}
use Rattle.rc_record.specs.declared.record.Record.{Record}
use Rattle.rc_record.specs.declared.record.Record.TheVariants.{Head}
use Rattle.rc_record.specs.declared.fault.ReplayFault.{ReplayFault}
use Rattle.rc_record.specs.declared.fault.ReplayFault.TheVariants.{NoMemory as OutOfMemory, BadRecord, OtherWorld}
use Rattle.rc_record.proofs.RecordLaws.{Reads-decoded}
use Rattle.rc_report.specs.declared.fault.LogFault.{LogFault}
use Rattle.rc_node.specs.Acts.{Enters}
use Rattle.rc_runs.specs.Devices.{Device, Fate, Made, Full, FailsAt, appended}
use Rattle.rc_runs.specs.Session.{Halt, LogRefused}
use Rattle.rc_runs.specs.Stored.{Begun, fault_of, records_of, owes_head, with_head, head_added, takes_log, without_head}
use Rattle.rc_devices.specs.Disks.{IsKept, AreKept, ReadsAreKept}
use Rattle.rc_devices.specs.Laws.{IsTold}
use Rattle.rc_devices.proofs.Appends.{appends_are_devices, some_inj, stopped_reads}
use Rattle.rc_devices.proofs.Numbers.{above_less}
use Rattle.rc_devices.proofs.Staying.{fault_stays}
use Rattle.rc_host.specs.AnyNode.{NodeDurable, new_volatile}
use Rattle.rc_host.specs.Standing.{Standing}
use Rattle.rc_host.specs.declared.begins.BeginFault.{BeginFault}
use Rattle.rc_host.specs.declared.begins.BeginFault.TheVariants.{NoMemory, DiskFailed, Refused, Limit}
use Rattle.rc_host.specs.Hosts.{Run, HasLog}
use Rattle.rc_host.specs.Begins.{newest_bytes, standing_from, BeginLaws, IsStored, IsReady, HasNotBegun, OwedFault, begin_fault}
use Rattle.rc_host.proofs.Acting.{records_of_more, size_of_more}

-- WHAT WAS TOLD is told still after an append
done_stays : (place : ℕ) (r : List ℕ) (t ended : Told) → IsKept (all_done (append_calls place r) t) ended → IsKept t ended
done_stays place r t ended kept = record {
  calls = record { since = kept.calls.since; all = kept.calls.all; above = above_less t.numbers.calls (t.numbers.calls + 1 + 1 + 1 + 1) kept.calls.since kept.calls.above (omega arith) };
  reads = kept.reads;
  left = kept.left;
}

failed_stays : (call : ℕ) (cause : Cause) (calls : List Call) (t ended : Told) → 1 ≤ call → (stopped_at call calls t).numbers ≡ stopped_by call cause t.numbers → IsKept (stopped_at call calls t) ended → IsKept t ended
failed_stays call cause calls t ended low numbers kept = record {
  calls = fault_stays t.numbers.calls call t.numbers.failed ended.numbers.failed cause low (subst (λ (n : Numbers). AreKept n.calls n.failed ended.numbers.failed) numbers kept.calls);
  reads = subst (λ (r : Reads). ReadsAreKept r.made r.failed ended.reads.failed) (stopped_reads call calls t) kept.reads;
  left = subst (λ (r : Reads). r.made < 2 ^ 64 - 1) (stopped_reads call calls t) kept.left;
}

-- over logs that tell what they tell, if they do
abbrev pub Stays : State → State → Told → Type 0
Stays old new ended = IsTold new ended → IsTold old ended

told_as : (step : Told → Told) → (before now : Option Told) (ended : Told) → now ≡ option_map step before → ((t : Told) → before ≡ Some t → IsKept (step t) ended → IsKept t ended)
    → IfSome now (λ t. IsKept t ended) → IfSome before (λ t. IsKept t ended)
told_as step None now ended is law kept = tt
told_as step (Some t) now ended is law kept = law t refl (subst (λ (o : Option Told). IfSome o (λ u. IsKept u ended)) is kept)

-- after calls of which the last failed
pub stopped_stays : (call : ℕ) (cause : Cause) (calls : List Call) (before now : Option Told) (ended : Told) → 1 ≤ call → now ≡ option_map (stopped_at call calls) before → numbers_of now ≡ option_map (stopped_by call cause) (numbers_of before)
    → IfSome now (λ t. IsKept t ended) → IfSome before (λ t. IsKept t ended)
stopped_stays call cause calls before now ended low whole numbers kept =
    told_as (stopped_at call calls) before now ended whole (λ t is. failed_stays call cause calls t ended low (numbers_in t is)) kept
  where
    numbers_in : (t : Told) → before ≡ Some t → (stopped_at call calls t).numbers ≡ stopped_by call cause t.numbers
    numbers_in t is =
        some_inj (stopped_at call calls t).numbers (stopped_by call cause t.numbers)
        (sym (ap numbers_of (whole ∙ ap (option_map (stopped_at call calls)) is)) ∙ numbers ∙ ap (λ (o : Option Told). option_map (stopped_by call cause) (numbers_of o)) is)

pub enters_stay : (old new : State) (r : List ℕ) (ended : Told) → Enters old new r → Stays old new ended
enters_stay old new r ended enters kept = told_as (all_done (append_calls old.size r)) old.told new.told ended enters.adds.calls (λ t is. done_stays old.size r t ended) kept

pub fails_stay : (old new : State) (r : List ℕ) (ended : Told) → Fails old new r → Stays old new ended
fails_stay old new r ended fails kept =
    stopped_stays fails.calls.call fails.calls.cause (append_calls old.size r) old.told new.told ended fails.calls.low fails.calls.whole_state fails.calls.numbers kept

same_stays : (old new : State) (ended : Told) → new ≡ old → Stays old new ended
same_stays old new ended same kept = subst (λ (z : State). IsTold z ended) same kept

pub owed_stays : (fault : BeginFault) (owes : Bool) (old new : State) (r : List ℕ) (ended : Told) → OwedFault fault owes old new r → Stays old new ended
owed_stays NoMemory owes old new r ended owed kept = same_stays old new ended owed kept
owed_stays DiskFailed owes old new r ended owed kept = fails_stay old new r ended owed.1.0 kept
owed_stays (Refused fault) owes old new r ended owed kept = absurd owed.1
owed_stays Limit owes old new r ended owed kept = same_stays old new ended owed.1.0 kept

pub added_stays : (owes : Bool) (old new : State) (r : List ℕ) (ended : Told) → (owes ≡ true → Enters old new r) → (owes ≡ false → new ≡ old) → Stays old new ended
added_stays true old new r ended adds same kept = enters_stay old new r ended (adds refl) kept
added_stays false old new r ended adds same kept = same_stays old new ended (same refl) kept

-- A NODE that starts from records
pub log_from : (node : NodeId) (log : List Record) → (standing_from node log).log ≡ log
log_from (Coord d) log = refl
log_from (ShardServer d sh) log = refl

pub up_from : (node : NodeId) (log : List Record) → (standing_from node log).up ≡ true
up_from (Coord d) log = refl
up_from (ShardServer d sh) log = refl

pub new_from : (node : NodeId) (log : List Record) → (standing_from node log).volatile ≡ new_volatile (standing_from node log).durable
new_from (Coord d) log = refl
new_from (ShardServer d sh) log = refl

-- a head is no record of the run
head_is_none : (node : NodeId) (c : Layout) → HasHead (new_head node c) → records_of (newest_bytes node c ∷ []) ≡ []
head_is_none node c has = ap (λ (o : Option Record). maybe o [] without_head ++ []) (Reads-decoded.again (Head (new_head node c)) has)

pub without_newest : (node : NodeId) (c : Layout) (blobs : List (List ℕ)) → HasHead (new_head node c) → records_of (blobs ++ newest_bytes node c ∷ []) ≡ records_of blobs
without_newest node c blobs has =
    records_of_more blobs (newest_bytes node c) ∙ ap (λ (rs : List Record). records_of blobs ++ rs) (head_is_none node c has) ∙ append-nil (records_of blobs)

module _ {A : Type 0} (gives : A → NodeDurable) (replayed : NodeId → Layout → List (List ℕ) → Result A ReplayFault) (back : NodeId → Layout → List (List ℕ) → NodeDurable → Type 0)
    (run : Run) (laws : BeginLaws gives replayed back run.node run.cluster) (blobs : List (List ℕ)) (d : Device) (old : State) (stored : IsStored run old blobs d) where
  abbrev takes : Result Begun Halt
  takes = takes_log run.cluster run.node d blobs

  abbrev unrefused : Bool → Result Begun Halt
  unrefused owes = cond owes (with_head run.cluster run.node (records_of blobs) d) (Ok (record { node = run.node; device = d; log = records_of blobs }))

  abbrev by_refusal : Bool → Option LogFault → Result Begun Halt
  by_refusal owes o = maybe o (unrefused owes) (λ fault. Err (LogRefused run.node fault))

  abbrev bytes : List ℕ
  bytes = newest_bytes run.node run.cluster

  -- the log is taken, with a head where it owes one
  taken : (a : A) (owes : Bool) → replayed run.node run.cluster blobs ≡ Ok a → owes_head blobs ≡ owes → takes ≡ unrefused owes
  taken a owes is owed = ap (by_refusal (owes_head blobs)) (sym (laws.refuses blobs) ∙ ap fault_of is) ∙ ap unrefused owed

  with_fate : (a : A) (fate : Fate) (after : Device) → replayed run.node run.cluster blobs ≡ Ok a → owes_head blobs ≡ true → appended d (length bytes) ≡ (fate, after) → takes ≡ head_added run.node (records_of blobs) fate after
  with_fate a fate after is owed fares = taken a true is owed ∙ ap (λ (p : Fate × Device). head_added run.node (records_of blobs) p.0 p.1) fares

  abbrev x : Standing
  x = standing_from run.node (records_of blobs)

  -- with a head added
  ready_with : (new : State) (a : A) → replayed run.node run.cluster blobs ≡ Ok a → HasHead (new_head run.node run.cluster) → owes_head blobs ≡ true → Enters old new bytes → IsTold new run.ended → IsReady (back run.node run.cluster) run takes new blobs (gives a)
  ready_with new a is has owed enters told =
      let made = (appends_are_devices run.begun run.ended old d bytes stored.device).done new enters.adds enters.fits told in
      record {
        begun = record { node = run.node; device = made.after; log = records_of blobs };
        is = with_fate a Made made.after is owed made.is;
        records = refl;
        now = blobs ++ bytes ∷ [];
        log = record {
          has = enters.adds.adds ∙ ap (option_map (λ (rs : List (List ℕ)). rs ++ bytes ∷ [])) stored.has;
          count = enters.adds.counts_it ∙ ap (λ (n : ℕ). n + 1) stored.count ∙ sym (length-append blobs (bytes ∷ []));
          size = enters.adds.grows ∙ ap (λ (n : ℕ). n + 5 + length bytes) stored.size ∙ size_of_more blobs bytes;
          holds = record {
            log = without_newest run.node run.cluster blobs has ∙ sym (log_from run.node (records_of blobs));
            back = subst (back run.node run.cluster (blobs ++ bytes ∷ [])) (laws.starts blobs a is) (laws.gets_head blobs a is owed has);
          };
          device = made.device;
          sound = enters.adds.sound;
        };
        durable_is = laws.starts blobs a is;
      }

  -- as it is
  ready_as : (new : State) (a : A) → replayed run.node run.cluster blobs ≡ Ok a → owes_head blobs ≡ false → new ≡ old → IsReady (back run.node run.cluster) run takes new blobs (gives a)
  ready_as new a is owed same = record {
    begun = record { node = run.node; device = d; log = records_of blobs };
    is = taken a false is owed;
    records = refl;
    now = blobs;
    log = subst (λ (z : State). HasLog (back run.node run.cluster) run z blobs x d) (sym same)
        (record {
          has = stored.has;
          count = stored.count;
          size = stored.size;
          holds = record {
            log = sym (log_from run.node (records_of blobs));
            back = subst (back run.node run.cluster blobs) (laws.starts blobs a is) (laws.headed blobs a is owed);
          };
          device = stored.device;
          sound = stored.sound;
        });
    durable_is = laws.starts blobs a is;
  }

  pub ready : (new : State) (a : A) → replayed run.node run.cluster blobs ≡ Ok a → HasHead (new_head run.node run.cluster) → (owes_head blobs ≡ true → Enters old new bytes) → (owes_head blobs ≡ false → new ≡ old) → IsTold new run.ended
      → IsReady (back run.node run.cluster) run takes new blobs (gives a)
  ready new a is has adds same told = by_owes (owes_head blobs) refl
    where
      by_owes : (b : Bool) → owes_head blobs ≡ b → IsReady (back run.node run.cluster) run takes new blobs (gives a)
      by_owes true e = ready_with new a is has e (adds e) told
      by_owes false e = ready_as new a is e (same e)

  pub not_ready : (fault : BeginFault) (new : State) (a : A) → replayed run.node run.cluster blobs ≡ Ok a → OwedFault fault (owes_head blobs) old new bytes → IsTold new run.ended → HasNotBegun run takes fault
  not_ready NoMemory new a is owed told = tt
  not_ready DiskFailed new a is owed told =
      let fails = owed.1.0 in
      let failed = (appends_are_devices run.begun run.ended old d bytes stored.device).failed new fails owed.1.1 told in
      with_fate a (FailsAt fails.calls.call fails.calls.cause) failed.after is owed.0 failed.is
  not_ready (Refused fault) new a is owed told = absurd owed.1
  not_ready Limit new a is owed told = with_fate a Full d is owed.0 ((appends_are_devices run.begun run.ended old d bytes stored.device).full owed.1.1)

  pub refused_log : (fault : ReplayFault) → (fault ≢ OutOfMemory → replayed run.node run.cluster blobs ≡ Err fault) → HasNotBegun run takes (begin_fault fault)
  refused_log OutOfMemory is = tt
  refused_log (BadRecord index) is = ap (by_refusal (owes_head blobs)) (sym (laws.refuses blobs) ∙ ap fault_of (is (λ e. cc)))
  refused_log OtherWorld is = ap (by_refusal (owes_head blobs)) (sym (laws.refuses blobs) ∙ ap fault_of (is (λ e. cc)))

-- of the node and the cluster that the run is of
module _ {A : Type 0} (gives : A → NodeDurable) (replayed : NodeId → Layout → List (List ℕ) → Result A ReplayFault) (back : NodeId → Layout → List (List ℕ) → NodeDurable → Type 0)
    (run : Run) (node : NodeId) (c : Layout) (laws : BeginLaws gives replayed back node c) (is_node : run.node ≡ node) (is_cluster : run.cluster ≡ c) (blobs : List (List ℕ)) (d : Device) (old : State) (stored : IsStored run old blobs d) where
  laws_at : BeginLaws gives replayed back run.node run.cluster
  laws_at = subst (λ (n : NodeId). BeginLaws gives replayed back n run.cluster) (sym is_node) (subst (λ (k : Layout). BeginLaws gives replayed back node k) (sym is_cluster) laws)

  bytes_at : newest_bytes node c ≡ newest_bytes run.node run.cluster
  bytes_at = ap (λ (n : NodeId). newest_bytes n c) (sym is_node) ∙ ap (newest_bytes run.node) (sym is_cluster)

  replayed_at : (r : Result A ReplayFault) → replayed node c blobs ≡ r → replayed run.node run.cluster blobs ≡ r
  replayed_at r is = ap (λ (n : NodeId). replayed n run.cluster blobs) is_node ∙ ap (λ (k : Layout). replayed node k blobs) is_cluster ∙ is

  pub ready_at : (new : State) (a : A) → replayed node c blobs ≡ Ok a → HasHead (new_head run.node run.cluster) → (owes_head blobs ≡ true → Enters old new (newest_bytes node c)) → (owes_head blobs ≡ false → new ≡ old) → IsTold new run.ended
      → IsReady (back run.node run.cluster) run (takes_log run.cluster run.node d blobs) new blobs (gives a)
  ready_at new a is has adds same told =
      ready gives replayed back run laws_at blobs d old stored new a (replayed_at (Ok a) is) has (λ owed. subst (Enters old new) bytes_at (adds owed)) same told

  pub not_ready_at : (fault : BeginFault) (new : State) (a : A) → replayed node c blobs ≡ Ok a → OwedFault fault (owes_head blobs) old new (newest_bytes node c) → IsTold new run.ended → HasNotBegun run (takes_log run.cluster run.node d blobs) fault
  not_ready_at fault new a is owed told =
      not_ready gives replayed back run laws_at blobs d old stored fault new a (replayed_at (Ok a) is) (subst (OwedFault fault (owes_head blobs) old new) bytes_at owed) told

  pub refused_at : (fault : ReplayFault) (begin : BeginFault) → begin ≡ begin_fault fault → (fault ≢ OutOfMemory → replayed node c blobs ≡ Err fault) → HasNotBegun run (takes_log run.cluster run.node d blobs) begin
  refused_at fault begin begin_is is =
      subst (λ (f : BeginFault). HasNotBegun run (takes_log run.cluster run.node d blobs) f) (sym begin_is) (refused_log gives replayed back run laws_at blobs d old stored fault (λ other. replayed_at (Err fault) (is other)))

-- the power of a disk is on again
pub closed_kept : (before now : Option Told) (ended : Told) → now ≡ option_map powered_disk before → IfSome now (λ t. IsKept t ended) → IfSome before (λ t. IsKept t ended)
closed_kept before now ended is kept = told_as powered_disk before now ended is (λ t has k. record { calls = k.calls; reads = k.reads; left = k.left }) kept
