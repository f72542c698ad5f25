-- An event in which a node does not do its act: what that makes of the event.
use Rattle.std.proofs.Common.{◌≡◌, Bool, [], None, Some, ◌∙◌, ap}
use Rattle.rc_report.specs.declared.fault.Which.TheVariants.{Ballots}
use Rattle.rc_runs.specs.declared.event.Event.{Event}
use Rattle.rc_runs.specs.World.{Deed, Course, Goes, Stops, along, deed, course_deed, sends_of}
use Rattle.rc_runs.specs.Refusals.{worn_out}
use Rattle.rc_runs.specs.Session.{Session, DiskChange, disk_change, with_change}
use Rattle.rc_world.specs.Steps.{IsDone, deed_change}
use Rattle.rc_world.specs.Refused.{Unacted, StoppedInside, FarmFailed}

module _ (z : Session) (e : Event) (the : Deed) (is_deed : deed z.world.parties z.world.sent e ≡ the) (done : IsDone z e) where
  change_is : disk_change z e ≡ deed_change z the
  change_is = done.change ∙ ap (deed_change z) is_deed

  course_is : (k : Course) → (deed_change z the).course ≡ k → (disk_change z e).course ≡ k
  course_is k is = ap (λ (c : DiskChange). c.course) change_is ∙ is

  deed_is : (k : Course) → (deed_change z the).course ≡ k → course_deed z.world e (disk_change z e).course ≡ along k the
  deed_is k is = ap (λ (c : Course). along c (deed z.world.parties z.world.sent e)) (course_is k is) ∙ ap (along k) is_deed

  pub stopped_inside : (Before : Type 0) (kept : Bool) → (deed_change z the).course ≡ Stops kept → Unacted z e Before
  stopped_inside Before kept is = StoppedInside kept (course_is (Stops kept) is)

  pub farm_failed : (kept : Bool) → (deed_change z the).course ≡ Stops kept → sends_of (along (Stops kept) the) ≡ [] → worn_out (along (Stops kept) the) ≡ None → with_change z (deed_change z the) ≡ None → FarmFailed z e
  farm_failed kept is sends whole lost = record {
    sends = ap sends_of (deed_is (Stops kept) is) ∙ sends;
    whole = ap worn_out (deed_is (Stops kept) is) ∙ whole;
    disks = ap (with_change z) change_is ∙ lost;
  }

  pub is_spent : (deed_change z the).course ≡ Goes → worn_out the ≡ Some Ballots → worn_out (course_deed z.world e (disk_change z e).course) ≡ Some Ballots
  is_spent is worn = ap worn_out (deed_is Goes is) ∙ worn
