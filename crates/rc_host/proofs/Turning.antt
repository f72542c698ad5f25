-- A node that is up handles something: its host after that.
use Rattle.std.proofs.Common.{◌≡◌, ℕ, List, [], ◌∷◌, ◌++◌, Bool, true, false, Option, Some, None, IfSome, Result, Ok, Err, IfOk, IfErr, length, refl, sym, ap, ◌∙◌, subst, ◌+◌, add-zero}
use Rattle.std.specs.Prelude.{nat_lt}
use Rattle.rc_ids.specs.Cluster.{Layout}
use Rattle.rc_ids.specs.Tables.{maybe}
use Rattle.rc_ids.specs.declared.names.NodeId.{NodeId}
use Rattle.rc_ids.specs.declared.names.NodeId.TheVariants.{Coord, Shard as ShardServer}
use Rattle.rc_disk.specs.Calls.{read_bytes}
use Rattle.rc_log.specs.Append.{keeps, with_or_without}
use Rattle.rc_log.specs.Journals.{State}
use Rattle.rc_log.specs.Records.{records}
use Rattle.rc_msg.specs.Outboxes.{Outbox}
use Rattle.rc_record.specs.declared.record.Record.{Record}
use Rattle.rc_record.specs.ShardState.{shard_applied}
use Rattle.rc_record.specs.CoordState.{coord_applied}
use Rattle.rc_record.specs.Spelling.{record_bytes}
use Rattle.rc_node.specs.Acts.{Logs, FailsAt as AppendFailsAt, IsFullAt}
use Rattle.rc_node.specs.Cores.{HasActed, HasRefused}
use Rattle.rc_node.specs.declared.fault.NodeFault.{NodeFault}
use Rattle.rc_node.specs.declared.fault.NodeFault.TheVariants.{Failed, Full as LogFull}
use Rattle.rc_protocol.specs.Acts.{NodeCause}
use Rattle.rc_protocol.specs.Nodes.{applied}
use Rattle.rc_runs.specs.Devices.{Device, FailsAt, Full, opened, powered, read_once, called}
use Rattle.rc_runs.specs.World.{Stops as StopsInside}
use Rattle.rc_devices.specs.Laws.{IsTold}
use Rattle.rc_devices.proofs.Appends.{appends_are_devices}
use Rattle.rc_host.specs.AnyNode.{AnyNode, AnyAct, NodeDurable, NodeVolatile, OfShard, OfCoord, OfShardNow, OfCoordNow, node_act, act_of, new_volatile}
use Rattle.rc_host.specs.Standing.{Standing, after_stop, course_on, device_after}
use Rattle.rc_host.specs.declared.host.Host.{Host}
use Rattle.rc_host.specs.declared.host.Host.TheVariants.{Up, Opened, Down, Lent}
use Rattle.rc_host.specs.declared.host.Course.{Course}
use Rattle.rc_host.specs.declared.host.Course.TheVariants.{Goes, Stops}
use Rattle.rc_host.specs.declared.host.HostFault.{HostFault}
use Rattle.rc_host.specs.declared.host.HostFault.TheVariants.{NoMemory, BallotsSpent, DiskFailed, Damaged, Lost}
use Rattle.rc_host.specs.Hosts.{is_up, CountsOn, KeptOn, Sight, Run, IsHost, IsUp, HasLog, AreLogged, IsLogged, Went, Stayed, StopsAt, OpensAgain, StaysShut, StopsOn}
use Rattle.rc_host.proofs.Acting.{Gone, no_record, one_record, comes_some}
use Rattle.rc_host.proofs.Stopping.{stops_failed, stops_full, held_after, counted_after}

pub counts_down : {N J D : Type 0} (s : Sight N J D) (old new : Host N J D) (act : AnyAct) → is_up new ≡ false → CountsOn s old new act
counts_down s old (Up node) act down = cc
counts_down s old (Opened journal blobs) act down = tt
counts_down s old (Down disk) act down = tt
counts_down s old Lent act down = tt

-- an act without a record keeps the durable state
unlogged : (c : Layout) (node : NodeId) (s : NodeDurable) (v : NodeVolatile) (cause : NodeCause) → (node_act c node s v cause).logs ≡ None → (node_act c node s v cause).durable ≡ s
unlogged c (ShardServer d sh) (OfShard s) (OfShardNow v) cause none = ap (λ (o : Option Record). OfShard (applied shard_applied s o)) none
unlogged c (ShardServer d sh) (OfShard s) (OfCoordNow v) cause none = refl
unlogged c (ShardServer d sh) (OfCoord s) v cause none = refl
unlogged c (Coord d) (OfCoord s) (OfCoordNow v) cause none = ap (λ (o : Option Record). OfCoord (applied coord_applied s o)) none
unlogged c (Coord d) (OfCoord s) (OfShardNow v) cause none = refl
unlogged c (Coord d) (OfShard s) v cause none = refl

module _ {N J D : Type 0} (s : Sight N J D) (gives : List (List ℕ) → NodeDurable → Type 0) (run : Run) (node : N) (x : Standing) (d : Device) (cause : NodeCause) (is : IsUp s gives run node x d) where
  abbrev act : AnyAct
  act = node_act run.cluster run.node x.durable x.volatile cause

  pub act_is : act_of (s.seen node) cause ≡ act
  act_is =
      ap (λ (c : Layout). node_act c (s.seen node).name (s.seen node).durable (s.seen node).volatile cause) is.cluster
      ∙ ap (λ (n : NodeId). node_act run.cluster n (s.seen node).durable (s.seen node).volatile cause) is.name
      ∙ ap (λ (u : NodeDurable). node_act run.cluster run.node u (s.seen node).volatile cause) is.durable
      ∙ ap (λ (v : NodeVolatile). node_act run.cluster run.node x.durable v cause) is.volatile

  gone : (new : State) (o : Option Record) → act.logs ≡ o → Logs (s.state (s.seen node).journal) new o → IfSome o (IsLogged gives x act) → IsTold new run.ended → Gone gives run x d act new
  gone new None none logs _ told = no_record gives run x d act (s.state (s.seen node).journal) new is.blobs is.log none (unlogged run.cluster run.node x.durable x.volatile cause none) logs
  gone new (Some r) some logs logged told = one_record gives run x d act (s.state (s.seen node).journal) new is.blobs r is.log some logged logs told

  pub went_on : (new : N) (before after : Outbox) → HasActed s.state (s.seen node) (s.seen new) before after (act_of (s.seen node) cause) → AreLogged gives x act → IsTold (s.state (s.seen new).journal) run.ended
      → Went s gives run Goes (Up new) before after x d act
  went_on new before after acted logged told =
      let done = subst (λ (a : AnyAct). HasActed s.state (s.seen node) (s.seen new) before after a) act_is acted in
      let went = gone (s.state (s.seen new).journal) act.logs refl done.logs logged told in
      record {
        left = done.left;
        course_is = went.comes.0;
        device = went.device;
        device_is = went.comes.1;
        host = record {
          up = is.up;
          cluster = ap (λ (n : AnyNode J). n.cluster) done.core ∙ is.cluster;
          name = ap (λ (n : AnyNode J). n.name) done.core ∙ is.name;
          durable = ap (λ (n : AnyNode J). n.durable) done.core;
          volatile = ap (λ (n : AnyNode J). n.volatile) done.core;
          stopped = ap (λ (n : AnyNode J). n.stopped) done.core;
          blobs = went.blobs;
          log = went.log;
        };
        sends = done.sends;
        kept = tt;
      }

  abbrev old : State
  old = s.state (s.seen node).journal

  -- the record of the act is counted
  counted_on : (after : State) (o : Option Record) → Logs old after o → after.count ≡ old.count + maybe o 0 (λ _. 1)
  counted_on after None logs = ap (λ (z : State). z.count) logs ∙ sym (add-zero old.count)
  counted_on after (Some r) logs = logs.adds.counts_it

  pub counts_on : (new : N) (before after : Outbox) → HasActed s.state (s.seen node) (s.seen new) before after (act_of (s.seen node) cause) → CountsOn s (Up node) (Up new) act
  counts_on new before after acted =
      let done = subst (λ (a : AnyAct). HasActed s.state (s.seen node) (s.seen new) before after a) act_is acted in
      counted_on (s.state (s.seen new).journal) act.logs done.logs

  -- the state that a stop leaves is of the node's kind
  same_kind : (r : Record) (kept : Bool) → IsLogged gives x act r → new_volatile x.durable ≡ new_volatile (after_stop x act kept).durable
  same_kind r true logged = sym logged.kind
  same_kind r false logged = refl

  kept_so : (kept : Bool) (journal : J) (now blobs : List (List ℕ)) (r : Record) → act.logs ≡ Some r → now ≡ with_or_without kept blobs (record_bytes r) → KeptOn {N = N} {D = D} (Opened journal now) act (Stops kept)
  kept_so false journal now blobs r some same = tt
  kept_so true journal now blobs r some same = subst (λ (o : Option Record). IfSome o (λ q. (front : List (List ℕ)) × (now ≡ front ++ record_bytes q ∷ []))) (sym some) (blobs, same)

  -- a log that is open again, behind a stop inside the act
  pub went_stopped : (host : Host N J D) (course : Course) (log : State) (r : Record) (kept : Bool) (dv : Device) (before after : Outbox) → act.logs ≡ Some r → IsLogged gives x act r → log.count ≡ length is.blobs
      → course_on d act ≡ StopsInside kept → device_after d act ≡ opened (powered dv) → after ≡ before → OpensAgain s.state run log (with_or_without kept is.blobs (record_bytes r)) dv host course
      → Went s gives run course host before after x d act
  went_stopped (Up other) course log r kept dv before after some logged count comes leaves same again = absurd again
  went_stopped (Down disk) course log r kept dv before after some logged count comes leaves same again = absurd again
  went_stopped Lent course log r kept dv before after some logged count comes leaves same again = absurd again
  went_stopped (Opened journal now) course log r kept dv before after some logged count comes leaves same again =
      let blobs = with_or_without kept is.blobs (record_bytes r) in
      let course_is : course ≡ Stops kept =
      again.course_is ∙ ap (λ (n : ℕ). Stops (nat_lt n (length now))) count ∙ ap (λ (bs : List (List ℕ)). Stops (nat_lt (length is.blobs) (length bs))) again.same
      ∙ ap Stops (counted_after gives run x d act old is.blobs is.log kept (record_bytes r)) in
      subst (λ (k : Course). Went s gives run k (Opened journal now) before after x d act) (sym course_is)
      (record {
        left = logged.left;
        course_is = comes;
        device = read_once (called (powered dv));
        device_is = leaves ∙ again.opens;
        host = record {
          down = refl;
          lost = same_kind r kept logged;
          log = subst (λ (bs : List (List ℕ)). HasLog gives run (s.state journal) bs (after_stop x act kept) (read_once (called (powered dv)))) (sym again.same)
              (record {
                has = again.has;
                count = again.count;
                size = again.size;
                holds = held_after gives run x d act old is.blobs is.log r kept some logged;
                device = again.device;
                sound = again.sound;
              });
          is_open = refl;
        };
        sends = same;
        kept = kept_so kept journal now is.blobs r some again.same;
      })

  -- what holds of each way that the log may be opened again holds of how the event went
  if_ok : {A E : Type 0} (r : Result A E) (P Q : A → Type 0) → ((a : A) → P a → Q a) → IfOk r P → IfOk r Q
  if_ok (Ok a) P Q step p = step a p
  if_ok (Err e) P Q step p = p

  if_err : {A E : Type 0} (r : Result A E) (P Q : E → Type 0) → ((e : E) → P e → Q e) → IfErr r P → IfErr r Q
  if_err (Ok a) P Q step p = p
  if_err (Err e) P Q step p = step e p

  -- a log that could not be opened again
  stayed_shut : (host : Host N J D) (fault : HostFault) (dv : Device) (before after : Outbox) → StopsOn d act → device_after d act ≡ opened (powered dv) → after ≡ before → StaysShut fault dv → Stayed s gives run fault host before after x d act
  stayed_shut host NoMemory dv before after stops leaves same shut = absurd shut
  stayed_shut host BallotsSpent dv before after stops leaves same shut = absurd shut
  stayed_shut host DiskFailed dv before after stops leaves same shut = (stops, leaves ∙ shut, same)
  stayed_shut host (Damaged offset) dv before after stops leaves same shut = absurd shut
  stayed_shut host Lost dv before after stops leaves same shut = (stops, same)

  -- what a stop inside the act leaves, and what comes of it
  pub record Stopped (log : State) : Type 0 where
    pub entry : Record
    pub some : act.logs ≡ Some entry
    pub logged : IsLogged gives x act entry
    pub count : log.count ≡ length is.blobs
    pub kept : Bool
    pub device : Device
    pub stops : StopsAt run log (with_or_without kept is.blobs (record_bytes entry)) device
    pub comes : course_on d act ≡ StopsInside kept
    pub leaves : device_after d act ≡ opened (powered device)

  -- the disk failed at the record
  failed_at : (log : State) (o : Option Record) → act.logs ≡ o → IfSome o (IsLogged gives x act) → (may_leave : List ℕ → Type 0) → AppendFailsAt may_leave old log o
      → IsTold log run.ended → Stopped log
  failed_at log None none logged may_leave fails told = absurd fails
  failed_at log (Some r) some logged may_leave breaks told =
      let fails = breaks.fails in
      let call = fails.calls.call in
      let failed = (appends_are_devices run.begun run.ended old d (record_bytes r) is.log.device).failed log fails breaks.fits told in
      let came = comes_some d act r (FailsAt call fails.calls.cause) failed.after some failed.is in
      record {
        entry = r;
        some = some;
        logged = logged;
        count = fails.same_count ∙ is.log.count;
        kept = keeps call fails.calls.cause;
        device = failed.after;
        stops = stops_failed gives run x d act old log is.blobs is.log r fails breaks.fits told failed;
        comes = came.0;
        leaves = came.1;
      }

  -- the log was full with the record
  full_at : (log : State) (o : Option Record) → act.logs ≡ o → IfSome o (IsLogged gives x act) → IsFullAt old o → log ≡ old → IfSome log.told (λ t. IfSome log.records (λ rs. records (read_bytes t) ≡ Ok rs))
      → Stopped log
  full_at log None none logged full same whole = absurd full
  full_at log (Some r) some logged full same whole =
      let came = comes_some d act r Full d some ((appends_are_devices run.begun run.ended old d (record_bytes r) is.log.device).full full) in
      record {
        entry = r;
        some = some;
        logged = logged;
        count = ap (λ (z : State). z.count) same ∙ is.log.count;
        kept = false;
        device = d;
        stops = stops_full gives run x d act old log is.blobs is.log same whole;
        comes = came.0;
        leaves = came.1;
      }

  -- how the event went, from how the log was opened again
  pub stopped_ok : (log : State) (host : Host N J D) (r : Result Course HostFault) (before after : Outbox) (z : Stopped log) → after ≡ before
      → IfOk r (OpensAgain s.state run log (with_or_without z.kept is.blobs (record_bytes z.entry)) z.device host) → IfOk r (λ course. Went s gives run course host before after x d act)
  stopped_ok log host r before after z same opens =
      if_ok r _ _ (λ course again. went_stopped host course log z.entry z.kept z.device before after z.some z.logged z.count z.comes z.leaves same again) opens

  pub stopped_err : (log : State) (host : Host N J D) (r : Result Course HostFault) (before after : Outbox) (z : Stopped log) → after ≡ before → IfErr r (λ fault. StaysShut fault z.device)
      → IfErr r (λ fault. Stayed s gives run fault host before after x d act)
  stopped_err log host r before after z same shut = if_err r _ _ (λ fault stays. stayed_shut host fault z.device before after (record { kept = z.kept; comes = z.comes }) z.leaves same stays) shut

  pub failed_stop : (new : N) (journal : J) (fault : NodeFault) (may_leave : J → List ℕ → Type 0) (before after : Outbox) → journal ≡ (s.seen new).journal
      → fault ≡ Failed → HasRefused s.state may_leave fault (s.seen node) (s.seen new) before after (act_of (s.seen node) cause) → AreLogged gives x act
      → IsTold (s.state journal) run.ended → Stopped (s.state journal)
  failed_stop new journal fault may_leave before after journal_is fault_is refused logged told =
      let done = subst (λ (a : AnyAct). HasRefused s.state may_leave Failed (s.seen node) (s.seen new) before after a) act_is (subst (λ (f : NodeFault). HasRefused s.state may_leave f (s.seen node) (s.seen new) before after (act_of (s.seen node) cause)) fault_is refused) in
      failed_at (s.state journal) act.logs refl logged (may_leave (s.seen new).journal) (subst (λ (z : State). AppendFailsAt (may_leave (s.seen new).journal) old z act.logs) (ap s.state (sym journal_is)) done.journal) told

  pub full_stop : (new : N) (journal : J) (fault : NodeFault) (may_leave : J → List ℕ → Type 0) (before after : Outbox) → journal ≡ (s.seen new).journal
      → fault ≡ LogFull → HasRefused s.state may_leave fault (s.seen node) (s.seen new) before after (act_of (s.seen node) cause) → AreLogged gives x act
      → ((s.state journal).failed ≡ false → IfSome (s.state journal).told (λ t. IfSome (s.state journal).records (λ rs. records (read_bytes t) ≡ Ok rs))) → Stopped (s.state journal)
  full_stop new journal fault may_leave before after journal_is fault_is refused logged whole =
      let done = subst (λ (a : AnyAct). HasRefused s.state may_leave LogFull (s.seen node) (s.seen new) before after a) act_is (subst (λ (f : NodeFault). HasRefused s.state may_leave f (s.seen node) (s.seen new) before after (act_of (s.seen node) cause)) fault_is refused) in
      let same : s.state journal ≡ old = ap s.state journal_is ∙ done.journal.same in
      full_at (s.state journal) act.logs refl logged done.journal.reason same (whole (ap (λ (z : State). z.failed) same ∙ is.log.sound))

-- the records are counted from those of the host that it was
pub counts_from : {N J D : Type 0} (s : Sight N J D) (r : Result Course HostFault) (was host new : Host N J D) (act : AnyAct) → host ≡ was → IfOk r (λ course. CountsOn s host new act) → IfOk r (λ course. CountsOn s was new act)
counts_from s r was host new act same counted = subst (λ h. IfOk r (λ course. CountsOn s h new act)) same counted

-- a host is seen as what it is
pub same_host : {N J D : Type 0} (s : Sight N J D) (gives : List (List ℕ) → NodeDurable → Type 0) (run : Run) (host other : Host N J D) (x : Standing) (d : Device) → host ≡ other → IsHost s gives run host x d → IsHost s gives run other x d
same_host s gives run host other x d same is = subst (λ h. IsHost s gives run h x d) same is
