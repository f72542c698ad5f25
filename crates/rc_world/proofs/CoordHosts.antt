-- A coordinator on its host: what an act of the host makes of the coordinator and of its device.
use Rattle.std.proofs.Common.{◌≡◌, ℕ, suc, ◌<◌, ◌≤◌, Bool, true, false, List, [], ◌∷◌, ◌++◌, length, Option, None, Some, refl, sym, ◌∙◌, ap, subst, arith}
use Rattle.std.proofs.lemmas.Bool.Decides.{nat_tests}
use Rattle.std.specs.Prelude.{if◌then◌else◌, slice_get, slice_set}
use Rattle.rc_ids.specs.Tables.{maybe}
use Rattle.rc_ids.specs.Cluster.{Layout, is_dc}
use Rattle.rc_ids.specs.declared.names.NodeId.TheVariants.{Coord}
use Rattle.rc_record.specs.declared.record.Record.{Record}
use Rattle.rc_record.specs.CoordState.{CoordDurable, coord_applied, new_durable}
use Rattle.rc_msg.specs.Outboxes.{Outbox}
use Rattle.rc_msg.specs.Posts.{posted_all}
use Rattle.rc_protocol.specs.Coordinator.{CoordAct}
use Rattle.rc_protocol.specs.Acts.{NodeCause, coord_act}
use Rattle.rc_protocol.specs.Nodes.{CoordNode, coord_index, coord_replayed, logged, applied}
use Rattle.rc_runs.specs.declared.event.Event.{Event}
use Rattle.rc_runs.specs.World.{Parties, Course as RunCourse, Goes as GoesOn, Stops as StopsInside, deed, coord_does as coord_does_at, by_coord, with_coord}
use Rattle.rc_runs.specs.Session.{Session}
use Rattle.rc_runs.specs.Devices.{Device}
use Rattle.rc_node.specs.Acts.{coord_does}
use Rattle.rc_host.specs.AnyNode.{of_coord, node_act, coord_back, OfCoord, OfCoordNow}
use Rattle.rc_host.specs.Standing.{Standing, coord_standing}
use Rattle.rc_host.specs.Hosts.{Sight, IsHost, Went, course_in, standing_after, posts_after}
use Rattle.rc_host.specs.declared.host.Host.{Host}
use Rattle.rc_host.specs.declared.host.Course.{Course}
use Rattle.rc_host.specs.declared.host.Course.TheVariants.{Goes, Stops}
use Rattle.rc_begin.specs.Places.{coord_name, AreAt}
use Rattle.rc_begin.specs.Hosts.{Runs, run_at, IsCoord}
use Rattle.rc_world.specs.Steps.{EventActed, IsDone}
use Rattle.rc_begin.proofs.Lists.{one_changes, coord_named}
use Rattle.rc_world.proofs.Courses.{course_for, device_for, sends_left, record_left, lines_left}
use Rattle.rc_world.proofs.CoordActs.{coord_left, coord_acted, does}

abbrev act_with : Option Record → CoordAct → CoordAct
act_with logs act = record { logs = logs; after = act.after; sends = act.sends; spent = act.spent }

-- a stop comes with a record
stops_with : (logs : Option Record) (d : Device) (kept : Bool) → course_for logs d ≡ StopsInside kept → (r : Record) × (logs ≡ Some r)
stops_with None d kept is = cc
stops_with (Some r) d kept is = (r, refl)

stopped_standing : (x : CoordNode) (act : CoordAct) (r : Record) (kept : Bool)
    → standing_after (coord_standing x) (of_coord (coord_does x.durable (act_with (Some r) act))) (Stops kept) ≡ coord_standing (coord_left x (act_with (Some r) act) (StopsInside kept))
stopped_standing x act r true = refl
stopped_standing x act r false = refl

-- the coordinator after the act is that of the standing after it
pub standing_left : (x : CoordNode) (act : CoordAct) (d : Device) (course : Course) → course_for act.logs d ≡ course_in course
    → standing_after (coord_standing x) (of_coord (coord_does x.durable act)) course ≡ coord_standing (coord_left x act (course_in course))
standing_left x act d Goes is = refl
standing_left x act d (Stops kept) is =
    let some = stops_with act.logs d kept is in
    let e : act ≡ act_with (Some some.0) act = ap (λ (o : Option Record). act_with o act) some.1 in
    subst (λ (a : CoordAct). standing_after (coord_standing x) (of_coord (coord_does x.durable a)) (Stops kept) ≡ coord_standing (coord_left x a (StopsInside kept))) (sym e) (stopped_standing x act some.0 kept)

pub posts_left : (out : Outbox) (s : CoordDurable) (act : CoordAct) (d : Device) (course : Course) → course_for act.logs d ≡ course_in course
    → posts_after out (of_coord (coord_does s act)) course ≡ posted_all out (sends_left act.logs act.sends (course_in course))
posts_left out s act d Goes is = refl
posts_left out s act d (Stops kept) is =
    let some = stops_with act.logs d kept is in
    sym (ap (λ (o : Option Record). posted_all out (maybe o act.sends (λ _. []))) some.1)

-- REPLAY
pub replayed_more : (s : CoordDurable) (log : List Record) (r : Record) → coord_replayed s (log ++ r ∷ []) ≡ coord_applied (coord_replayed s log) r
replayed_more s [] r = refl
replayed_more s (q ∷ log) r = replayed_more (coord_applied s q) log r

replayed_logged : (s : CoordDurable) (log : List Record) (o : Option Record) → coord_replayed s (logged log o) ≡ applied coord_applied (coord_replayed s log) o
replayed_logged s log None = refl
replayed_logged s log (Some r) = replayed_more s log r

pub replay_left : (x : CoordNode) (act : CoordAct) (k : RunCourse) → x.durable ≡ coord_replayed new_durable x.log → (coord_left x act k).durable ≡ coord_replayed new_durable (coord_left x act k).log
replay_left x act GoesOn is = ap (λ (s : CoordDurable). applied coord_applied s act.logs) is ∙ sym (replayed_logged new_durable x.log act.logs)
replay_left x act (StopsInside kept) is = by_logs act.logs refl
  where
    goes : (o : Option Record) → applied coord_applied x.durable o ≡ coord_replayed new_durable (logged x.log o)
    goes o = ap (λ (s : CoordDurable). applied coord_applied s o) is ∙ sym (replayed_logged new_durable x.log o)

    by_logs : (o : Option Record) → act.logs ≡ o → (coord_left x act (StopsInside kept)).durable ≡ coord_replayed new_durable (coord_left x act (StopsInside kept)).log
    by_logs None none = rw none (goes None)
    by_logs (Some r) some = rw some (goes (if kept then Some r else None))

-- AMONG ALL
low_dc : (c : Layout) (d : ℕ) → is_dc c d ≡ true → 1 ≤ d
low_dc c d known = grind (arith, nat_tests)

pub name_is : (c : Layout) (d : ℕ) → is_dc c d ≡ true → coord_name (coord_index d) ≡ Coord d
name_is c d known = coord_named d (low_dc c d known)

module _ {C J D : Type 0} (s : Sight C J D) (r : Runs) (hosts : List (Host C J D)) (z : Session) (are : AreAt (IsCoord s r) hosts z.world.parties.coords z.coords) (layout : z.world.parties.layout ≡ r.cluster)
    (d : ℕ) (known : is_dc r.cluster d ≡ true) (h : Host C J D) (x : CoordNode) (v : Device) (within : coord_index d < length hosts) (at_host : slice_get hosts (coord_index d) ≡ Some h)
    (at_node : slice_get z.world.parties.coords (coord_index d) ≡ Some x) (at_device : slice_get z.coords (coord_index d) ≡ Some v) (cause : NodeCause) where
  abbrev p : Parties
  p = z.world.parties

  abbrev place : ℕ
  place = coord_index d

  -- what the coordinator does at the cause
  abbrev pub its_act : CoordAct
  its_act = coord_act r.cluster d x.durable x.volatile cause

  -- an act in the event, after which its host is this one
  pub record CoordWent (e : Event) (course : Course) (host : Host C J D) (before after : Outbox) : Type 0 where
    pub device : Device
    pub course_is : course_for its_act.logs v ≡ course_in course
    pub acted : EventActed z e (with_coord p d (coord_left x its_act (course_in course)) (record_left its_act.logs (course_in course))) (slice_set z.coords place device) z.shards
        (sends_left its_act.logs its_act.sends (course_in course)) (lines_left (Coord d) its_act.logs (course_in course))
    pub coords : AreAt (IsCoord s r) (slice_set hosts place host) (slice_set p.coords place (coord_left x its_act (course_in course))) (slice_set z.coords place device)
    pub posts : after ≡ posted_all before (sends_left its_act.logs its_act.sends (course_in course))

  there : is_dc p.layout d ≡ true
  there = ap (λ (c : Layout). is_dc c d) layout ∙ known

  same_act : coord_act p.layout d x.durable x.volatile cause ≡ its_act
  same_act = ap (λ (c : Layout). coord_act c d x.durable x.volatile cause) layout

  pub coord_went : (e : Event) (course : Course) (host : Host C J D) (before after : Outbox) → x.up ≡ true → IsDone z e → deed p z.world.sent e ≡ coord_does_at p d cause
      → Went s (coord_back (coord_name place) r.cluster) (run_at r (coord_name place)) course host before after (coord_standing x) v (node_act r.cluster (coord_name place) (OfCoord x.durable) (OfCoordNow x.volatile) cause)
      → CoordWent e course host before after
  coord_went e course host before after up done is its =
      let low : 1 ≤ d = low_dc r.cluster d known in
      let number : suc place ≡ d = omega (arith, low) in
      let went = subst (λ (n : ℕ). Went s (coord_back (coord_name place) r.cluster) (run_at r (coord_name place)) course host before after (coord_standing x) v (of_coord (coord_does x.durable (coord_act r.cluster n x.durable x.volatile cause)))) number its in
      let k : RunCourse = course_in course in
      let goes : course_for its_act.logs v ≡ k = went.course_is in
      let is_deed : deed p z.world.sent e ≡ by_coord p.layout d x cause = is ∙ does z d x v there at_node at_device cause up in
      let left = coord_acted z d x v there at_node at_device e (coord_act p.layout d x.durable x.volatile cause) went.device is_deed done.change done.begins done.starts
      (subst (λ (a : CoordAct). a.spent ≡ false) (sym same_act) went.left) (subst (λ (a : CoordAct). device_for a.logs v ≡ Some went.device) (sym same_act) went.device_is) in
      let mine = subst (λ (a : CoordAct). let j = course_for a.logs v in EventActed z e (with_coord p d (coord_left x a j) (record_left a.logs j)) (slice_set z.coords place went.device) z.shards (sends_left a.logs a.sends j) (lines_left (Coord d) a.logs j)) same_act left in
      record {
        device = went.device;
        course_is = goes;
        acted = subst (λ (j : RunCourse). EventActed z e (with_coord p d (coord_left x its_act j) (record_left its_act.logs j)) (slice_set z.coords place went.device) z.shards (sends_left its_act.logs its_act.sends j) (lines_left (Coord d) its_act.logs j)) goes mine;
        coords = one_changes (IsCoord s r) hosts p.coords z.coords are place host (coord_left x its_act k) went.device within
            (record {
              host = subst (λ (y : Standing). IsHost s (coord_back (coord_name place) r.cluster) (run_at r (coord_name place)) host y went.device) (standing_left x its_act v course goes) went.host;
              replay = replay_left x its_act k (are.each place h x v at_host at_node at_device).replay;
            });
        posts = went.sends ∙ posts_left before x.durable its_act v course goes;
      }
