-- A shard server on its host: what an act of the host makes of the shard server and of its device.
use Rattle.std.proofs.Common.{◌≡◌, ℕ, ◌<◌, ◌≤◌, Bool, true, false, List, [], ◌∷◌, ◌++◌, length, Option, None, Some, refl, sym, ◌∙◌, ap, subst, arith}
use Rattle.std.proofs.lemmas.Bool.Decides.{nat_tests}
use Rattle.std.specs.Prelude.{if◌then◌else◌, slice_get, slice_set}
use Rattle.rc_ids.specs.Tables.{maybe}
use Rattle.rc_ids.specs.Cluster.{Layout}
use Rattle.rc_ids.specs.declared.names.NodeId.{NodeId}
use Rattle.rc_ids.specs.declared.names.NodeId.TheVariants.{Shard as ShardServer}
use Rattle.rc_record.specs.declared.record.Record.{Record}
use Rattle.rc_record.specs.ShardState.{ShardDurable, shard_applied, new_durable}
use Rattle.rc_msg.specs.Outboxes.{Outbox}
use Rattle.rc_msg.specs.Posts.{posted_all}
use Rattle.rc_protocol.specs.Shard.{ShardAct}
use Rattle.rc_protocol.specs.Acts.{NodeCause, shard_act}
use Rattle.rc_protocol.specs.Nodes.{ShardNode, shard_index, shard_replayed, logged, applied}
use Rattle.rc_runs.specs.declared.event.Event.{Event}
use Rattle.rc_runs.specs.World.{Parties, Course as RunCourse, Goes as GoesOn, Stops as StopsInside, deed, shard_does as shard_does_at, by_shard, with_shard, is_shard_of}
use Rattle.rc_runs.specs.Session.{Session}
use Rattle.rc_runs.specs.Devices.{Device}
use Rattle.rc_node.specs.Acts.{shard_does}
use Rattle.rc_host.specs.AnyNode.{of_shard, node_act, shard_back, OfShard, OfShardNow}
use Rattle.rc_host.specs.Standing.{Standing, shard_standing}
use Rattle.rc_host.specs.Hosts.{Sight, IsHost, Went, course_in, standing_after, posts_after}
use Rattle.rc_host.specs.declared.host.Host.{Host}
use Rattle.rc_host.specs.declared.host.Course.{Course}
use Rattle.rc_host.specs.declared.host.Course.TheVariants.{Goes, Stops}
use Rattle.rc_begin.specs.Places.{shard_name, AreAt}
use Rattle.rc_begin.specs.Hosts.{Runs, run_at, IsShard}
use Rattle.rc_world.specs.Steps.{EventActed, IsDone}
use Rattle.rc_begin.proofs.Lists.{one_changes}
use Rattle.rc_world.proofs.Courses.{course_for, device_for, sends_left, lines_left}
use Rattle.rc_world.proofs.ShardActs.{shard_left, shard_acted, does}

abbrev act_with : Option Record → ShardAct → ShardAct
act_with logs act = record { logs = logs; after = act.after; sends = act.sends }

-- a stop comes with a record
stops_with : (logs : Option Record) (d : Device) (kept : Bool) → course_for logs d ≡ StopsInside kept → (r : Record) × (logs ≡ Some r)
stops_with None d kept is = cc
stops_with (Some r) d kept is = (r, refl)

stopped_standing : (x : ShardNode) (act : ShardAct) (r : Record) (kept : Bool)
    → standing_after (shard_standing x) (of_shard (shard_does x.durable (act_with (Some r) act))) (Stops kept) ≡ shard_standing (shard_left x (act_with (Some r) act) (StopsInside kept))
stopped_standing x act r true = refl
stopped_standing x act r false = refl

-- the shard server after the act is that of the standing after it
pub standing_left : (x : ShardNode) (act : ShardAct) (d : Device) (course : Course) → course_for act.logs d ≡ course_in course
    → standing_after (shard_standing x) (of_shard (shard_does x.durable act)) course ≡ shard_standing (shard_left x act (course_in course))
standing_left x act d Goes is = refl
standing_left x act d (Stops kept) is =
    let some = stops_with act.logs d kept is in
    let e : act ≡ act_with (Some some.0) act = ap (λ (o : Option Record). act_with o act) some.1 in
    subst (λ (a : ShardAct). standing_after (shard_standing x) (of_shard (shard_does x.durable a)) (Stops kept) ≡ shard_standing (shard_left x a (StopsInside kept))) (sym e) (stopped_standing x act some.0 kept)

pub posts_left : (out : Outbox) (s : ShardDurable) (act : ShardAct) (d : Device) (course : Course) → course_for act.logs d ≡ course_in course
    → posts_after out (of_shard (shard_does s act)) course ≡ posted_all out (sends_left act.logs act.sends (course_in course))
posts_left out s act d Goes is = refl
posts_left out s act d (Stops kept) is =
    let some = stops_with act.logs d kept is in
    sym (ap (λ (o : Option Record). posted_all out (maybe o act.sends (λ _. []))) some.1)

-- REPLAY
pub replayed_more : (s : ShardDurable) (log : List Record) (r : Record) → shard_replayed s (log ++ r ∷ []) ≡ shard_applied (shard_replayed s log) r
replayed_more s [] r = refl
replayed_more s (q ∷ log) r = replayed_more (shard_applied s q) log r

replayed_logged : (s : ShardDurable) (log : List Record) (o : Option Record) → shard_replayed s (logged log o) ≡ applied shard_applied (shard_replayed s log) o
replayed_logged s log None = refl
replayed_logged s log (Some r) = replayed_more s log r

pub replay_left : (x : ShardNode) (act : ShardAct) (k : RunCourse) → x.durable ≡ shard_replayed new_durable x.log → (shard_left x act k).durable ≡ shard_replayed new_durable (shard_left x act k).log
replay_left x act GoesOn is = ap (λ (s : ShardDurable). applied shard_applied s act.logs) is ∙ sym (replayed_logged new_durable x.log act.logs)
replay_left x act (StopsInside kept) is = by_logs act.logs refl
  where
    goes : (o : Option Record) → applied shard_applied x.durable o ≡ shard_replayed new_durable (logged x.log o)
    goes o = ap (λ (s : ShardDurable). applied shard_applied s o) is ∙ sym (replayed_logged new_durable x.log o)

    by_logs : (o : Option Record) → act.logs ≡ o → (shard_left x act (StopsInside kept)).durable ≡ shard_replayed new_durable (shard_left x act (StopsInside kept)).log
    by_logs None none = rw none (goes None)
    by_logs (Some r) some = rw some (goes (if kept then Some r else None))

-- AMONG ALL
pub inside : (c : Layout) (d sh : ℕ) → 1 ≤ d → d ≤ c.dcs → 1 ≤ sh → sh ≤ c.shards → is_shard_of c d sh ≡ true
inside c d sh low_d high_d low high = grind (arith, nat_tests)

module _ {S J D : Type 0} (s : Sight S J D) (r : Runs) (hosts : List (Host S J D)) (z : Session) (are : AreAt (IsShard s r) hosts z.world.parties.shards z.shards) (layout : z.world.parties.layout ≡ r.cluster) (d sh : ℕ)
    (there : is_shard_of r.cluster d sh ≡ true) (named : shard_name r.cluster (shard_index r.cluster d sh) ≡ ShardServer d sh) (h : Host S J D) (x : ShardNode) (v : Device)
    (within : shard_index r.cluster d sh < length hosts) (at_host : slice_get hosts (shard_index r.cluster d sh) ≡ Some h) (at_node : slice_get z.world.parties.shards (shard_index r.cluster d sh) ≡ Some x)
    (at_device : slice_get z.shards (shard_index r.cluster d sh) ≡ Some v) (cause : NodeCause) where
  abbrev p : Parties
  p = z.world.parties

  abbrev place : ℕ
  place = shard_index r.cluster d sh

  -- what the shard server does at the cause
  abbrev pub its_act : ShardAct
  its_act = shard_act r.cluster d sh x.durable x.volatile cause

  -- an act in the event, after which its host is this one
  pub record ShardWent (e : Event) (course : Course) (host : Host S J D) (before after : Outbox) : Type 0 where
    pub device : Device
    pub course_is : course_for its_act.logs v ≡ course_in course
    pub acted : EventActed z e (with_shard p d sh (shard_left x its_act (course_in course))) z.coords (slice_set z.shards place device) (sends_left its_act.logs its_act.sends (course_in course))
        (lines_left (ShardServer d sh) its_act.logs (course_in course))
    pub shards : AreAt (IsShard s r) (slice_set hosts place host) (slice_set p.shards place (shard_left x its_act (course_in course))) (slice_set z.shards place device)
    pub posts : after ≡ posted_all before (sends_left its_act.logs its_act.sends (course_in course))

  here : is_shard_of p.layout d sh ≡ true
  here = ap (λ (c : Layout). is_shard_of c d sh) layout ∙ there

  node_here : slice_get p.shards (shard_index p.layout d sh) ≡ Some x
  node_here = ap (λ (c : Layout). slice_get p.shards (shard_index c d sh)) layout ∙ at_node

  device_here : slice_get z.shards (shard_index p.layout d sh) ≡ Some v
  device_here = ap (λ (c : Layout). slice_get z.shards (shard_index c d sh)) layout ∙ at_device

  abbrev Acted : Event → Layout → ShardAct → RunCourse → Device → Type 0
  Acted e c a j w = EventActed z e (with_shard p d sh (shard_left x a j)) z.coords (slice_set z.shards (shard_index c d sh) w) (sends_left a.logs a.sends j) (lines_left (ShardServer d sh) a.logs j)

  pub shard_went : (e : Event) (course : Course) (host : Host S J D) (before after : Outbox) → x.up ≡ true → IsDone z e → deed p z.world.sent e ≡ shard_does_at p d sh cause
      → Went s (shard_back (shard_name r.cluster place) r.cluster) (run_at r (shard_name r.cluster place)) course host before after (shard_standing x) v (node_act r.cluster (shard_name r.cluster place) (OfShard x.durable) (OfShardNow x.volatile) cause)
      → ShardWent e course host before after
  shard_went e course host before after up done is its =
      let went = subst (λ (n : NodeId). Went s (shard_back (shard_name r.cluster place) r.cluster) (run_at r (shard_name r.cluster place)) course host before after (shard_standing x) v (node_act r.cluster n (OfShard x.durable) (OfShardNow x.volatile) cause)) named its in
      let k : RunCourse = course_in course in
      let goes : course_for its_act.logs v ≡ k = went.course_is in
      let same_act : shard_act p.layout d sh x.durable x.volatile cause ≡ its_act = ap (λ (c : Layout). shard_act c d sh x.durable x.volatile cause) layout in
      let is_deed : deed p z.world.sent e ≡ by_shard p.layout d sh x cause = is ∙ does z d sh x v here node_here device_here cause up in
      let left = shard_acted z d sh x v here node_here device_here e (shard_act p.layout d sh x.durable x.volatile cause) went.device is_deed done.change done.begins done.starts
      (subst (λ (a : ShardAct). device_for a.logs v ≡ Some went.device) (sym same_act) went.device_is) in
      let mine = subst (λ (a : ShardAct). Acted e p.layout a (course_for a.logs v) went.device) same_act left in
      record {
        device = went.device;
        course_is = goes;
        acted = subst (λ (j : RunCourse). Acted e r.cluster its_act j went.device) goes (subst (λ (c : Layout). Acted e c its_act (course_for its_act.logs v) went.device) layout mine);
        shards = one_changes (IsShard s r) hosts p.shards z.shards are place host (shard_left x its_act k) went.device within
            (record {
              host = subst (λ (y : Standing). IsHost s (shard_back (shard_name r.cluster place) r.cluster) (run_at r (shard_name r.cluster place)) host y went.device) (standing_left x its_act v course goes) went.host;
              replay = replay_left x its_act k (are.each place h x v at_host at_node at_device).replay;
            });
        posts = went.sends ∙ posts_left before x.durable its_act v course goes;
      }
