-- A node that is down, as its log is opened and it starts again.
use Rattle.std.proofs.Common.{◌≡◌, ℕ, zero, suc, ◌+◌, ◌-◌, ◌^◌, ◌<◌, List, Bool, true, false, cond, Option, Some, None, option_map, IfSome, Result, Ok, Err, IfOk, IfErr, length, refl, sym, ap, ◌∙◌, subst, inl, inr, arith}
use Rattle.std.specs.Prelude.{IsOkAnd, ◌≢◌}
use Rattle.rc_ids.specs.Cluster.{Layout}
use Rattle.rc_ids.specs.declared.names.NodeId.{NodeId}
use Rattle.rc_ports.specs.Causes.{raised}
use Rattle.rc_disk.specs.declared.power.Power.{Power}
use Rattle.rc_disk.specs.declared.power.Power.TheVariants.{On}
use Rattle.rc_disk.specs.Calls.{Told, read_bytes, powered as powered_disk}
use Rattle.rc_log.specs.Append.{power_past}
use Rattle.rc_log.specs.Journals.{State, Begins}
use Rattle.rc_log.specs.Opening.{synced_and_read, opened_by, syncs_in, IsNoOpen, LacksMemory}
use Rattle.rc_log.specs.Records.{records}
use Rattle.rc_log.specs.declared.fault.OpenFault.{OpenFault}
use Rattle.rc_log.specs.declared.fault.OpenFault.TheVariants.{NoMemory as NoMemoryToOpen, Failed}
use Rattle.rc_record.specs.declared.fault.ReplayFault.{ReplayFault}
use Rattle.rc_runs.specs.Devices.{Device, opened, opened_once, powered, read_once, called, most_log_bytes}
use Rattle.rc_runs.specs.Farms.{reads_at}
use Rattle.rc_devices.specs.Disks.{IsKept, IsDisk, AllWithin, power_of as power_of_device}
use Rattle.rc_devices.proofs.Appends.{some_inj}
use Rattle.rc_devices.proofs.ReadNumbers.{all_within_more}
use Rattle.rc_devices.proofs.Rows.{called_shown}
use Rattle.rc_devices.proofs.Staying.{one_read_more}
use Rattle.rc_host.specs.AnyNode.{NodeDurable}
use Rattle.rc_host.specs.Standing.{Standing, started_again}
use Rattle.rc_host.specs.declared.host.Host.{Host}
use Rattle.rc_host.specs.declared.host.Host.TheVariants.{Down}
use Rattle.rc_host.specs.declared.restarts.RestartFault.{RestartFault}
use Rattle.rc_host.specs.declared.restarts.RestartFault.TheVariants.{NoMemory}
use Rattle.rc_host.specs.Hosts.{Sight, Run, IsHost, IsDown, IsOpened, HasLog, StopsAt}
use Rattle.rc_host.specs.Restarts.{HasStarted, HasNotStarted, IsStillDown, tried}
use Rattle.rc_host.proofs.OpenFacts.{open_again, stays_shut}

-- REPLAYS
-- records that give a state back give it at a replay
pub given : {A : Type 0} (gives : A → NodeDurable) (replayed : NodeId → Layout → List (List ℕ) → Result A ReplayFault) (back : NodeId → Layout → List (List ℕ) → NodeDurable → Type 0)
    → ((node : NodeId) (c : Layout) (blobs : List (List ℕ)) (s : NodeDurable) → back node c blobs s → IsOkAnd (replayed node c blobs) (λ a. gives a ≡ s))
    → (node other : NodeId) (c k : Layout) (blobs : List (List ℕ)) (s : NodeDurable) (a : A) → other ≡ node → k ≡ c → replayed node c blobs ≡ Ok a → back other k blobs s → gives a ≡ s
given gives replayed back law node other c k blobs s a is_node is_cluster is held =
    subst (λ (r : Result _ ReplayFault). IsOkAnd r (λ b. gives b ≡ s)) is
    (law node c blobs s (subst (λ (n : NodeId). back n c blobs s) is_node (subst (λ (l : Layout). back other l blobs s) is_cluster held)))

-- DEVICES
no_cut : (cut : Option (ℕ × ℕ)) → On ≡ power_of_device cut → cut ≡ None
no_cut None is = refl
no_cut (Some cut) is = absurd (cc)

-- a device whose log is shut and on which no cut is armed
powered_same : (d : Device) → d.is_open ≡ false → On ≡ power_of_device d.cut → powered d ≡ d
powered_same d shut on =
    ap (λ (o : Option (ℕ × ℕ)). record d { cut = o; is_open = false }) (sym (no_cut d.cut on)) ∙ ap (λ (b : Bool). record d { is_open = b }) (sym shut)

-- a log that is open already
pub already_open : (d : Device) → d.is_open ≡ true → opened_once d ≡ Some d
already_open d is = ap (λ (b : Bool). cond b (Some d) (opened d)) is

opened_shut : (d : Device) (o : Option Device) → d.is_open ≡ false → opened d ≡ o → opened_once d ≡ o
opened_shut d o shut is = ap (λ (b : Bool). cond b (Some d) (opened d)) shut ∙ is

tried_disk : (run : Run) (t : Told) (d : Device) (n : ℕ) → IsDisk run.begun run.ended t On d → (opened_by n t).reads.made < 2 ^ 64 - 1 → IsDisk run.begun run.ended (opened_by n t) On (tried n d)
tried_disk run t d zero is left = is
tried_disk run t d (suc zero) is left = record {
  calls = called_shown run.begun run.ended.numbers.failed t.numbers.calls t.numbers.failed On d is.calls refl;
  reads = record { counted = is.reads.counted; listed = is.reads.listed; within = is.reads.within };
}
tried_disk run t d (suc (suc n)) is left =
    let rises : raised t.reads.made ≡ t.reads.made + 1 = one_read_more t.reads.made left in
    let next = called_shown run.begun run.ended.numbers.failed t.numbers.calls t.numbers.failed On d is.calls refl in
    record {
      calls = record { counted = next.counted; listed = next.listed; within = next.within; power_is = next.power_is };
      reads = record {
        counted = (let was : t.reads.made ≡ reads_at run.begun + d.reads = is.reads.counted in omega (arith, rises));
        listed = is.reads.listed;
        within = subst (λ (m : ℕ). AllWithin m t.reads.failed) (sym rises) (all_within_more t.reads.made (t.reads.made + 1) t.reads.failed is.reads.within (omega arith));
      };
    }

tried_shut : (d : Device) (n : ℕ) → d.is_open ≡ false → (tried n d).is_open ≡ false
tried_shut d zero shut = shut
tried_shut d (suc zero) shut = shut
tried_shut d (suc (suc n)) shut = shut

tried_offset : (d : Device) (n : ℕ) → (tried n d).offset ≡ d.offset
tried_offset d zero = refl
tried_offset d (suc zero) = refl
tried_offset d (suc (suc n)) = refl

still_on : (n : ℕ) → power_past (syncs_in n) On ≡ On
still_on zero = refl
still_on (suc n) = refl

same_bytes : (n : ℕ) (t : Told) → read_bytes (opened_by n t) ≡ read_bytes t
same_bytes zero t = refl
same_bytes (suc zero) t = refl
same_bytes (suc (suc n)) t = refl

-- A STATE that shows no more than what a disk tells
abbrev showing : Option Told → State
showing told = record { records = None; in_hand = None; size = 0; limit = None; count = 0; failed = false; content = None; told = told; power = None; faults = 0; cuts = 0 }

module _ {D : Type 0} (told_by : D → Option Told) (content_of : D → Option (List ℕ)) (power_of : D → Power) (gives : List (List ℕ) → NodeDurable → Type 0) (run : Run) (disk : D) (x : Standing) (d : Device)
    (is : IsDown told_by content_of power_of gives run disk x d) (law : IfSome (told_by disk) (λ t. content_of disk ≡ Some (read_bytes t))) where
  bytes_are : read_bytes is.told ≡ is.bytes
  bytes_are = some_inj (read_bytes is.told) is.bytes (sym (subst (λ (o : Option Told). IfSome o (λ t. content_of disk ≡ Some (read_bytes t))) is.tells law) ∙ is.content)

  same_device : powered d ≡ d
  same_device = powered_same d is.shut is.device.calls.power_is

  -- the device of its disk, with the power on once more
  on_again : IsDisk run.begun run.ended (powered_disk is.told) On d
  on_again = record {
    calls = record { counted = is.device.calls.counted; listed = is.device.calls.listed; within = is.device.calls.within; power_is = is.device.calls.power_is };
    reads = record { counted = is.device.reads.counted; listed = is.device.reads.listed; within = is.device.reads.within };
  }

  stops : StopsAt run (showing (told_by disk)) is.blobs d
  stops = record {
    told = is.told;
    tells = is.tells;
    disk = subst (λ (e : Device). IsDisk run.begun run.ended (powered_disk is.told) On e) (sym same_device) on_again;
    left = ap records bytes_are ∙ is.has;
    offset = is.offset;
  }

  module _ (on : Option Told) (content : Option (List ℕ)) (on_is : on ≡ option_map powered_disk (told_by disk)) (law_now : IfSome on (λ t. content ≡ Some (read_bytes t))) where
    -- its log is opened
    pub opens_down : {J : Type 0} (state : J → State) (journal : J) (now : List (List ℕ)) (power : Power) → power ≡ On → IfSome content (λ c. records c ≡ Ok now)
        → Begins (state journal) now most_log_bytes content (option_map (synced_and_read true) on) (power_past 1 power) → IfSome (state journal).told (λ t. IsKept t run.ended)
        → IsOpened state gives run journal now x (read_once (called d)) × (opened_once d ≡ Some (read_once (called d)))
    opens_down state journal now power power_is read begins kept =
        let again = open_again run (showing (told_by disk)) is.blobs d stops on content on_is (state journal) now 0 (length now) power refl refl power_is law_now read begins kept in (
          record {
            down = is.down;
            lost = is.lost;
            log = subst (λ (bs : List (List ℕ)). HasLog gives run (state journal) bs x (read_once (called d))) (sym again.same)
                (subst (λ (e : Device). HasLog gives run (state journal) is.blobs x (read_once (called e))) same_device
                (record { has = again.has; count = again.count; size = again.size; holds = is.holds; device = again.device; sound = again.sound }));
            is_open = refl;
          },
          opened_shut d (Some (read_once (called d))) is.shut (subst (λ (e : Device). opened e ≡ Some (read_once (called e))) same_device again.opens),
        )

    -- its disk failed
    pub shut_down : (fault : OpenFault) (len : ℕ) (now : Option Told) (power power_now : Power) (faults faults_now cuts cuts_now : ℕ) → fault ≡ Failed → power ≡ On
        → IsNoOpen len fault on now power power_now faults faults_now cuts cuts_now → IfSome now (λ t. IsKept t run.ended) → opened_once d ≡ None
    shut_down fault len now power power_now faults faults_now cuts cuts_now fault_is power_is refused kept =
        opened_shut d None is.shut
        (subst (λ (e : Device). opened e ≡ None) same_device (stays_shut run (showing (told_by disk)) is.blobs d stops on content on_is fault len now power power_now faults faults_now cuts cuts_now fault_is power_is refused kept))

    -- there was no memory for its log
    pub lacks_down : {N J : Type 0} (s : Sight N J D) (other : D) (fault : OpenFault) (len : ℕ) (power : Power) (faults faults_now cuts cuts_now : ℕ) → s.told ≡ told_by → s.content ≡ content_of → s.power ≡ power_of → fault ≡ NoMemoryToOpen → power ≡ On
        → IsNoOpen len fault on (told_by other) power (power_of other) faults faults_now cuts cuts_now → content_of other ≡ content → IfSome (told_by other) (λ t. IsKept t run.ended) → IsStillDown s gives run (Down other) x d
    lacks_down s other fault len power faults faults_now cuts cuts_now told_is content_is power_is_of fault_is power_is refused same kept =
        let lacks : LacksMemory len on (told_by other) power (power_of other) faults faults_now cuts cuts_now = subst (λ (f : OpenFault). IsNoOpen len f on (told_by other) power (power_of other) faults faults_now cuts cuts_now) fault_is refused in
        let n = lacks.calls in
        let told = powered_disk is.told in
        let on_told : on ≡ Some told = on_is ∙ ap (option_map powered_disk) is.tells in
        let tells : told_by other ≡ Some (opened_by n told) = lacks.stops.whole_state ∙ ap (option_map (opened_by n)) on_told in
        let still : IsKept (opened_by n told) run.ended = subst (λ (o : Option Told). IfSome o (λ t. IsKept t run.ended)) tells kept in
        record {
          device = tried n d;
          reached = inl (n, refl);
          host = subst (λ (f : D → Option Told). IsDown f s.content s.power gives run other x (tried n d)) (sym told_is)
              (subst (λ (f : D → Option (List ℕ)). IsDown told_by f s.power gives run other x (tried n d)) (sym content_is)
              (subst (λ (f : D → Power). IsDown told_by content_of f gives run other x (tried n d)) (sym power_is_of)
              (record {
                down = is.down;
                lost = is.lost;
                bytes = is.bytes;
                content = same ∙ subst (λ (o : Option Told). IfSome o (λ t. content ≡ Some (read_bytes t))) on_told law_now ∙ ap Some bytes_are;
                blobs = is.blobs;
                has = is.has;
                holds = is.holds;
                told = opened_by n told;
                tells = tells;
                on = lacks.stops.power_is ∙ ap (power_past (syncs_in n)) power_is ∙ still_on n;
                device = tried_disk run told d n on_again still.left;
                offset = is.offset ∙ sym (tried_offset d n);
                shut = tried_shut d n is.shut;
              })));
        }

-- HOW IT STARTED
pub differs : (fault : OpenFault) → fault ≡ NoMemoryToOpen → fault ≢ Failed
differs fault is other = cc

module _ {N J D : Type 0} (s : Sight N J D) (gives : List (List ℕ) → NodeDurable → Type 0) (run : Run) (host : Host N J D) (x : Standing) (d device : Device) (opens : opened_once d ≡ Some device) where
  pub has_started : (r : Result (Unit {0}) RestartFault) → IfOk r (λ _. IsHost s gives run host (started_again x) device) → IfOk r (λ _. HasStarted s gives run host x d)
  has_started (Ok done) up = record { device = device; opens = opens; host = up }
  has_started (Err fault) up = up

  pub has_not_started : (r : Result (Unit {0}) RestartFault) → IfErr r (λ fault. (fault ≡ NoMemory) × IsHost s gives run host x device) → IfErr r (λ fault. HasNotStarted s gives run fault host x d)
  has_not_started (Ok done) down = down
  has_not_started (Err fault) down = subst (λ (f : RestartFault). HasNotStarted s gives run f host x d) (sym down.0) (record { device = device; reached = inr opens; host = down.1 })
