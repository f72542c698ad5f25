-- A disk at the start of a run, as its farm tells of it.
use Rattle.std.proofs.Common.{◌≡◌, ℕ, Bool, false, List, Option, Some, Result, Err, IfSome, refl, sym, ap, ◌∙◌, subst, inr, add-zero}
use Rattle.std.specs.Prelude.{if◌then◌else◌}
use Rattle.rc_ids.specs.Cluster.{Layout}
use Rattle.rc_ids.specs.declared.names.NodeId.{NodeId}
use Rattle.rc_disk.specs.declared.power.Power.{Power}
use Rattle.rc_disk.specs.Calls.{Told, read_bytes}
use Rattle.rc_disk.specs.Places.{Standing, standing}
use Rattle.rc_runs.specs.Farms.{calls_at, reads_at}
use Rattle.rc_runs.specs.Devices.{Device}
use Rattle.rc_runs.specs.Session.{Halt, FarmFails}
use Rattle.rc_runs.specs.Stored.{Place, Begun, begins_node, opens_log, device_at}
use Rattle.rc_devices.specs.Disks.{IsKept}
use Rattle.rc_host.specs.Hosts.{Run}
use Rattle.rc_host.specs.Begins.{IsAtStart, HasNotBegun}
use Rattle.rc_host.specs.declared.begins.BeginFault.{BeginFault}
use Rattle.rc_host.specs.declared.begins.BeginFault.TheVariants.{NoMemory, DiskFailed, Refused, Limit}
use Rattle.rc_begin.specs.declared.fault.WorldFault.{WorldFault}
use Rattle.rc_begin.specs.Beginnings.{IsStartOf, BeginRefused, begin_fault}

-- the disk that was lent is the device with which the run begins
starts_at : {D : Type 0} (told_by : D → Option Told) (content_of : D → Option (List ℕ)) (power_of : D → Power) (p : Place) (run : Run) (s : Standing) (disk : D) (faults cuts : ℕ)
    → s ≡ standing (told_by disk) (content_of disk) (power_of disk) faults cuts → IfSome (told_by disk) (λ t. content_of disk ≡ Some (read_bytes t)) → IsStartOf p run s
    → IsAtStart told_by content_of power_of run disk (p.content run.node) (device_at p run.node)
starts_at told_by content_of power_of p run s disk faults cuts is law start =
    let tells : told_by disk ≡ Some start.told = sym (ap (λ (x : Standing). x.told) is) ∙ start.tells in
    let bytes : content_of disk ≡ Some (read_bytes start.told) = subst (λ (o : Option Told). IfSome o (λ t. content_of disk ≡ Some (read_bytes t))) tells law in
    let has : s.content ≡ Some (read_bytes start.told) = ap (λ (x : Standing). x.content) is ∙ bytes in
    let same : p.content run.node ≡ read_bytes start.told = subst (λ (o : Option (List ℕ)). IfSome o (λ b. p.content run.node ≡ b)) has start.content in
    record {
      content_is = bytes ∙ ap Some (sym same);
      told = start.told;
      tells = tells;
      on = sym (ap (λ (x : Standing). x.power) is) ∙ start.on;
      device = record {
        calls = record { counted = start.calls ∙ sym (add-zero (calls_at run.begun)); listed = start.failing; within = start.failed; power_is = refl };
        reads = record { counted = start.reads ∙ sym (add-zero (reads_at run.begun)); listed = start.failing_reads; within = start.failed_reads };
      };
      fresh = refl;
    }

-- where the farm lends the disk, the node begins on it
lends : (p : Place) (run : Run) → p.lend_fails run.node ≡ false
    → opens_log run.cluster run.node (device_at p run.node) (p.content run.node) ≡ begins_node p run.cluster run.node
lends p run none = sym (ap (λ (b : Bool). if b then Err FarmFails else opens_log run.cluster run.node (device_at p run.node) (p.content run.node)) none)

refused_by : (before after : ℕ) (run : Run) (begins : Result Begun Halt) (fault : BeginFault)
    → HasNotBegun run begins fault → BeginRefused before after begins (begin_fault run.node fault)
refused_by before after run begins NoMemory h = tt
refused_by before after run begins DiskFailed h = inr h
refused_by before after run begins (Refused fault) h = h
refused_by before after run begins Limit h = h

has_not_begun : (before after : ℕ) (p : Place) (run : Run) → p.lend_fails run.node ≡ false → (fault : BeginFault)
    → HasNotBegun run (opens_log run.cluster run.node (device_at p run.node) (p.content run.node)) fault
    → BeginRefused before after (begins_node p run.cluster run.node) (begin_fault run.node fault)
has_not_begun before after p run none fault h =
    refused_by before after run (begins_node p run.cluster run.node) fault
    (subst (λ (r : Result Begun Halt). HasNotBegun run r fault) (lends p run none) h)

-- it does not begin on the disk that was lent, which the farm then has back
pub begin_refused : {D : Type 0} (told_by : D → Option Told) (content_of : D → Option (List ℕ)) (power_of : D → Power) (stands after : NodeId → Standing) (old new : ℕ)
    → (node : NodeId) (c : Layout) (lent back : D) (lent_faults lent_cuts back_faults back_cuts : ℕ) (fault : BeginFault) (why : WorldFault)
    → stands node ≡ standing (told_by lent) (content_of lent) (power_of lent) lent_faults lent_cuts
    → after node ≡ standing (told_by back) (content_of back) (power_of back) back_faults back_cuts
    → ((run : Run) (d : Device) (content : List ℕ) → run.node ≡ node → run.cluster ≡ c → IsAtStart told_by content_of power_of run lent content d
    → IfSome (told_by back) (λ t. IsKept t run.ended) → HasNotBegun run (opens_log run.cluster run.node d content) fault)
    → why ≡ begin_fault node fault
    → IfSome (told_by lent) (λ t. content_of lent ≡ Some (read_bytes t))
    → (run : Run) (p : Place) → run.node ≡ node → run.cluster ≡ c → p.lend_fails run.node ≡ false → IsStartOf p run (stands run.node)
    → IfSome (after run.node).told (λ t. IsKept t run.ended) → BeginRefused old new (begins_node p run.cluster run.node) why
begin_refused told_by content_of power_of stands after old new node c lent back lent_faults lent_cuts back_faults back_cuts fault why lent_is back_is refuses why_is law run p is_node is_cluster none start kept =
    let same = ap stands is_node ∙ lent_is in
    let told = subst (λ (x : Standing). IfSome x.told (λ t. IsKept t run.ended)) (ap after is_node ∙ back_is) kept in
    let begins = starts_at told_by content_of power_of p run (stands run.node) lent lent_faults lent_cuts same law start in
    let refused = refuses run (device_at p run.node) (p.content run.node) is_node is_cluster begins told in
    subst (λ (w : WorldFault). BeginRefused old new (begins_node p run.cluster run.node) w) (ap (λ (n : NodeId). begin_fault n fault) is_node ∙ sym why_is)
    (has_not_begun old new p run none fault refused)
