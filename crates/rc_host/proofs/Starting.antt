-- The log of a node that begins, as it is created or opened.
use Rattle.std.proofs.Common.{◌≡◌, ℕ, suc, List, [], ◌∷◌, true, Option, Some, option_map, IfSome, Result, Ok, Err, IfOk, IfErr, length, refl, sym, ap, ◌∙◌, subst}
use Rattle.rc_ids.specs.Cluster.{Layout}
use Rattle.rc_ids.specs.Tables.{maybe}
use Rattle.rc_ids.specs.declared.names.NodeId.{NodeId}
use Rattle.rc_ids.specs.declared.names.NodeId.TheVariants.{Coord, Shard as ShardServer}
use Rattle.rc_disk.specs.declared.power.Power.{Power}
use Rattle.rc_disk.specs.declared.power.Power.TheVariants.{On}
use Rattle.rc_disk.specs.Calls.{Told}
use Rattle.rc_log.specs.Append.{create_calls, all_done, stopped_at, power_past}
use Rattle.rc_log.specs.Journals.{State, Begins}
use Rattle.rc_log.specs.Opening.{synced_and_read, refused_at, IsDamage, IsNoBegin, IsNoOpen, FailsToBegin, FailsToOpen}
use Rattle.rc_log.specs.Records.{records, size_of}
use Rattle.rc_log.specs.declared.fault.OpenFault.{OpenFault}
use Rattle.rc_log.specs.declared.fault.OpenFault.TheVariants.{Failed, Damaged}
use Rattle.rc_report.specs.declared.fault.LogFault.TheVariants.{Damaged as LogDamaged}
use Rattle.rc_runs.specs.Devices.{Device, Fate, Made, opened, powered, read_once, called, at_offset, most_log_bytes}
use Rattle.rc_runs.specs.Session.{Halt, LogRefused, FarmFails}
use Rattle.rc_runs.specs.Stored.{Begun, creates, takes_log, reads_log, opens_log}
use Rattle.rc_devices.specs.Disks.{IsKept, IsDisk, calls_made}
use Rattle.rc_devices.proofs.Openings.{creations_are_devices, openings_are_devices}
use Rattle.rc_devices.proofs.Rows.{same_offset}
use Rattle.rc_host.specs.AnyNode.{NodeDurable}
use Rattle.rc_host.specs.declared.host.Host.{Host}
use Rattle.rc_host.specs.declared.begins.BeginFault.{BeginFault}
use Rattle.rc_host.specs.Hosts.{Sight, Run, IsToldBy}
use Rattle.rc_host.specs.Begins.{IsStored, IsAtStart, HasBegun, HasNotBegun}

-- an empty log is not refused, and owes a head
empty_taken : (c : Layout) (node : NodeId) (d : Device) → creates c node Made d ≡ takes_log c node d []
empty_taken c (Coord e) d = refl
empty_taken c (ShardServer e sh) d = refl

module _ {D : Type 0} (told_by : D → Option Told) (content_of : D → Option (List ℕ)) (power_of : D → Power) (run : Run) (disk : D) (content : List ℕ) (d : Device) (is : IsAtStart told_by content_of power_of run disk content d) where
  -- CREATED
  pub creates_log : (log : State) → Begins log [] most_log_bytes (option_map (λ (c : List ℕ). 0 ∷ []) (content_of disk)) (option_map (all_done create_calls) (told_by disk)) (power_past 2 (power_of disk)) → IfSome log.told (λ t. IsKept t run.ended)
      → IsStored run log [] (calls_made 2 d) × (takes_log run.cluster run.node (calls_made 2 d) [] ≡ opens_log run.cluster run.node d [])
  creates_log log begins kept =
      let tells : log.told ≡ Some (all_done create_calls is.told) = begins.calls ∙ ap (option_map (all_done create_calls)) is.tells in
      let done = (creations_are_devices run.begun run.ended is.told d is.device).done (subst (λ (o : Option Told). IfSome o (λ t. IsKept t run.ended)) tells kept) in (
        record {
          has = begins.has ∙ ap (λ (o : Option (List ℕ)). option_map (λ (c : List ℕ). let none : List (List ℕ) = [] in none) (option_map (λ (c : List ℕ). 0 ∷ []) o)) is.content_is;
          count = begins.count_is;
          size = begins.size_is;
          device = record {
            told = all_done create_calls is.told;
            tells = tells;
            power = On;
            has_power = begins.power_is ∙ ap (λ (p : Power). Some (power_past 2 p)) is.on;
            disk = done.1;
            offset = begins.size_is ∙ sym (same_offset 2 d ∙ is.fresh);
            limit = begins.limit_is;
          };
          sound = begins.sound;
        },
        sym (empty_taken run.cluster run.node (calls_made 2 d)) ∙ sym (ap (λ (p : Fate × Device). creates run.cluster run.node p.0 p.1) done.0),
      )

  -- with the records that it has then, of which there are none
  pub creates_with : (log : State) (rs : List (List ℕ)) → rs ≡ [] → Begins log [] most_log_bytes (option_map (λ (c : List ℕ). 0 ∷ []) (content_of disk)) (option_map (all_done create_calls) (told_by disk)) (power_past 2 (power_of disk)) → IfSome log.told (λ t. IsKept t run.ended)
      → IsStored run log rs (calls_made 2 d) × (takes_log run.cluster run.node (calls_made 2 d) rs ≡ opens_log run.cluster run.node d [])
  creates_with log rs none begins kept =
      subst (λ (bs : List (List ℕ)). IsStored run log bs (calls_made 2 d) × (takes_log run.cluster run.node (calls_made 2 d) bs ≡ opens_log run.cluster run.node d [])) (sym none) (creates_log log begins kept)

  pub creation_failed : (fault : OpenFault) (now : Option Told) (power power_now : Power) (faults faults_now cuts cuts_now : ℕ) → fault ≡ Failed → power ≡ On
      → IsNoBegin fault (told_by disk) now power power_now faults faults_now cuts cuts_now → IfSome now (λ t. IsKept t run.ended) → opens_log run.cluster run.node d [] ≡ Err FarmFails
  creation_failed fault now power power_now faults faults_now cuts cuts_now fault_is power_is refused kept =
      let fails : FailsToBegin (told_by disk) now power power_now faults faults_now cuts cuts_now = (subst (λ (f : OpenFault). IsNoBegin f (told_by disk) now power power_now faults faults_now cuts cuts_now) fault_is refused).0 in
      let t : Told = stopped_at fails.call create_calls is.told in
      let now_is : now ≡ Some t = fails.whole_state ∙ ap (option_map (stopped_at fails.call create_calls)) is.tells in
      let at : FailsToBegin (Some is.told) (Some t) power power_now faults faults_now cuts cuts_now =
      subst (λ (o : Option Told). FailsToBegin (Some is.told) o power power_now faults faults_now cuts cuts_now) now_is (subst (λ (o : Option Told). FailsToBegin o now power power_now faults faults_now cuts cuts_now) is.tells fails) in
      ap (λ (p : Fate × Device). creates run.cluster run.node p.0 p.1)
      ((creations_are_devices run.begun run.ended is.told d is.device).failed t power power_now faults faults_now cuts cuts_now power_is at (subst (λ (o : Option Told). IfSome o (λ u. IsKept u run.ended)) now_is kept))

  -- OPENED
  abbrev shut : Device
  shut = powered d

  abbrev awake : Device
  awake = read_once (called shut)

  is_shut : IsDisk run.begun run.ended is.told On shut
  is_shut = record {
    calls = record { counted = is.device.calls.counted; listed = is.device.calls.listed; within = is.device.calls.within; power_is = refl };
    reads = record { counted = is.device.reads.counted; listed = is.device.reads.listed; within = is.device.reads.within };
  }

  abbrev opens_as : Option Device → Result (List (List ℕ)) ℕ → Result Begun Halt
  opens_as o rs = maybe o (Err FarmFails) (λ x. reads_log run.cluster run.node x rs)

  pub opens_it : (log : State) (blobs : List (List ℕ)) → IfSome (content_of disk) (λ c. records c ≡ Ok blobs) → Begins log blobs most_log_bytes (content_of disk) (option_map (synced_and_read true) (told_by disk)) (power_past 1 (power_of disk))
      → IfSome log.told (λ t. IsKept t run.ended) → IsStored run log blobs (at_offset awake (size_of blobs)) × (takes_log run.cluster run.node (at_offset awake (size_of blobs)) blobs ≡ opens_as (opened shut) (records content))
  opens_it log blobs read begins kept =
      let has : records content ≡ Ok blobs = subst (λ (o : Option (List ℕ)). IfSome o (λ c. records c ≡ Ok blobs)) is.content_is read in
      let tells : log.told ≡ Some (synced_and_read true is.told) = begins.calls ∙ ap (option_map (synced_and_read true)) is.tells in
      let done = (openings_are_devices run.begun run.ended is.told shut is_shut).done (subst (λ (o : Option Told). IfSome o (λ t. IsKept t run.ended)) tells kept) in (
        record {
          has = begins.has ∙ ap (option_map (λ (c : List ℕ). blobs)) is.content_is;
          count = begins.count_is;
          size = begins.size_is;
          device = record {
            told = synced_and_read true is.told;
            tells = tells;
            power = On;
            has_power = begins.power_is ∙ ap (λ (p : Power). Some (power_past 1 p)) is.on;
            disk = record {
              calls = record { counted = done.1.calls.counted; listed = done.1.calls.listed; within = done.1.calls.within; power_is = done.1.calls.power_is };
              reads = record { counted = done.1.reads.counted; listed = done.1.reads.listed; within = done.1.reads.within };
            };
            offset = begins.size_is;
            limit = begins.limit_is;
          };
          sound = begins.sound;
        },
        sym (ap (λ (o : Option Device). opens_as o (records content)) done.0 ∙ ap (opens_as (Some awake)) has),
      )

  pub opening_failed : (fault : OpenFault) (len : ℕ) (now : Option Told) (power power_now : Power) (faults faults_now cuts cuts_now : ℕ) → fault ≡ Failed → power ≡ On
      → IsNoOpen len fault (told_by disk) now power power_now faults faults_now cuts cuts_now → IfSome now (λ t. IsKept t run.ended) → opens_as (opened shut) (records content) ≡ Err FarmFails
  opening_failed fault len now power power_now faults faults_now cuts cuts_now fault_is power_is refused kept =
      let fails : FailsToOpen len (told_by disk) now power power_now faults faults_now cuts cuts_now = (subst (λ (f : OpenFault). IsNoOpen len f (told_by disk) now power power_now faults faults_now cuts cuts_now) fault_is refused).0 in
      let t : Told = refused_at fails.call is.told in
      let now_is : now ≡ Some t = fails.whole_state ∙ ap (option_map (refused_at fails.call)) is.tells in
      let at : FailsToOpen len (Some is.told) (Some t) power power_now faults faults_now cuts cuts_now =
      subst (λ (o : Option Told). FailsToOpen len (Some is.told) o power power_now faults faults_now cuts cuts_now) now_is (subst (λ (o : Option Told). FailsToOpen len o now power power_now faults faults_now cuts cuts_now) is.tells fails) in
      ap (λ (o : Option Device). opens_as o (records content))
      ((openings_are_devices run.begun run.ended is.told shut is_shut).failed len t power power_now faults faults_now cuts cuts_now power_is at (subst (λ (o : Option Told). IfSome o (λ u. IsKept u run.ended)) now_is kept))

  pub damaged : (fault : OpenFault) (place shown_place : ℕ) → place ≡ shown_place → (len : ℕ) (now : Option Told) (power power_now : Power) (faults faults_now cuts cuts_now : ℕ) → fault ≡ Damaged place → IsDamage (content_of disk) fault → (more : ℕ) → len ≡ suc more
      → IsNoOpen len fault (told_by disk) now power power_now faults faults_now cuts cuts_now → IfSome now (λ t. IsKept t run.ended) → opens_as (opened shut) (records content) ≡ Err (LogRefused run.node (LogDamaged shown_place))
  damaged fault place shown_place same len now power power_now faults faults_now cuts cuts_now fault_is damage more len_is refused kept =
      let stops = subst (λ (n : ℕ). IsNoOpen n (Damaged place) (told_by disk) now power power_now faults faults_now cuts cuts_now) len_is (subst (λ (f : OpenFault). IsNoOpen len f (told_by disk) now power power_now faults faults_now cuts cuts_now) fault_is refused) in
      let now_is : now ≡ Some (synced_and_read true is.told) = stops.whole_state ∙ ap (option_map (synced_and_read true)) is.tells in
      let has : records content ≡ Err place = subst (λ (o : Option (List ℕ)). IfSome o (λ c. records c ≡ Err place)) is.content_is (subst (IsDamage (content_of disk)) fault_is damage) in
      let done = (openings_are_devices run.begun run.ended is.told shut is_shut).done (subst (λ (o : Option Told). IfSome o (λ t. IsKept t run.ended)) now_is kept) in
      ap (λ (o : Option Device). opens_as o (records content)) done.0 ∙ ap (opens_as (Some awake)) has ∙ ap (λ (p : ℕ). Err (LogRefused run.node (LogDamaged p))) same

  -- how long its disk is
  pub as_long : (len : ℕ) → IfSome (content_of disk) (λ c. len ≡ length c) → len ≡ length content
  as_long len law = subst (λ (o : Option (List ℕ)). IfSome o (λ c. len ≡ length c)) is.content_is law

-- no byte, or one in front
pub empty : (content : List ℕ) → length content ≡ 0 → content ≡ []
empty [] is = refl
empty (b ∷ bytes) is = absurd (cc)

pub record Front (content : List ℕ) : Type 0 where
  pub byte : ℕ
  pub bytes : List ℕ
  pub is : content ≡ byte ∷ bytes

pub front : (content : List ℕ) → (length content ≡ 0 → ⊥) → Front content
front [] some = absurd (some refl)
front (b ∷ bytes) some = record { byte = b; bytes = bytes; is = refl }

-- what is said of the log is said of the disk
module _ {N J D : Type 0} (s : Sight N J D) (gives : List (List ℕ) → NodeDurable → Type 0) (run : Run) (takes opens : Result Begun Halt) (K : Told → Type 0) where
  pub begun_as : (r : Result (Host N J D × List (List ℕ)) (BeginFault × D)) → IfOk r (λ b. (ended : Told) → IsToldBy s b.0 ended → K ended)
      → (K run.ended → IfOk r (λ b. IsToldBy s b.0 run.ended → HasBegun s gives run takes b.0 b.1)) → (K run.ended → takes ≡ opens) → IfOk r (λ b. IsToldBy s b.0 run.ended → HasBegun s gives run opens b.0 b.1)
  begun_as (Ok b) grew begun same = λ told. let k = grew run.ended told in subst (λ (t : Result Begun Halt). HasBegun s gives run t b.0 b.1) (same k) (begun k told)
  begun_as (Err e) grew begun same = tt

  pub not_begun_as : (r : Result (Host N J D × List (List ℕ)) (BeginFault × D)) → IfErr r (λ e. (ended : Told) → IfSome (s.told e.1) (λ t. IsKept t ended) → K ended)
      → (K run.ended → IfErr r (λ e. IfSome (s.told e.1) (λ t. IsKept t run.ended) → HasNotBegun run takes e.0)) → (K run.ended → takes ≡ opens) → IfErr r (λ e. IfSome (s.told e.1) (λ t. IsKept t run.ended) → HasNotBegun run opens e.0)
  not_begun_as (Ok b) grew begun same = tt
  not_begun_as (Err e) grew begun same = λ told. let k = grew run.ended told in subst (λ (t : Result Begun Halt). HasNotBegun run t e.0) (same k) (begun k told)
