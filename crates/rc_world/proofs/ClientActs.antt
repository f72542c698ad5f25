-- A client acts in an event, or nobody does: what the event makes of the session.
use Rattle.std.proofs.Common.{◌≡◌, ℕ, List, [], ◌++◌, Option, None, Some, refl, sym, ◌∙◌, ap}
use Rattle.std.specs.Ordering.{nat_cmp}
use Rattle.rc_ids.specs.Tables.{found, maybe}
use Rattle.rc_report.specs.declared.line.Line.{Line}
use Rattle.rc_report.specs.declared.fault.Which.TheVariants.{Version}
use Rattle.rc_runs.specs.declared.event.Event.{Event}
use Rattle.rc_runs.specs.declared.event.Event.TheVariants.{Begin, Lose}
use Rattle.rc_protocol.specs.Client.{Client, ClientAct, ClientRefusal, KeyWornOut}
use Rattle.rc_protocol.specs.Acts.{ClientCause, client_act}
use Rattle.rc_runs.specs.World.{Parties, Deed, Idle, ByClient, along, parties_after, sends_of, lines_of, with_client, with_new_client, client_does, deed, course_deed}
use Rattle.rc_runs.specs.Refusals.{worn_out, limit_of}
use Rattle.rc_runs.specs.Session.{Session, DiskChange, disk_change, with_change}
use Rattle.rc_world.specs.Steps.{EventActed, IsDone, deed_change}

module _ (z : Session) (e : Event) where
  abbrev p : Parties
  p = z.world.parties

  abbrev the_deed : Deed
  the_deed = deed p z.world.sent e

  pub idles : IsDone z e → the_deed ≡ Idle → EventActed z e p z.coords z.shards [] []
  idles is nobody =
      let change_is : disk_change z e ≡ deed_change z Idle = is.change ∙ ap (deed_change z) nobody in
      let deed_is : along (disk_change z e).course the_deed ≡ Idle = ap (λ (c : DiskChange). along c.course the_deed) change_is ∙ nobody in
      record {
        parties = sym (ap (λ (q : Parties). parties_after q (along (disk_change z e).course the_deed)) is.begins ∙ ap (parties_after p) deed_is);
        disks = ap (with_change z) change_is;
        sends = sym (ap sends_of deed_is);
        prints = sym (ap (λ (ls : List Line). ls ++ lines_of (along (disk_change z e).course the_deed)) is.starts ∙ ap lines_of deed_is);
        whole = ap worn_out deed_is;
      }

  pub client_acted : (t : ℕ) (act : ClientAct) → IsDone z e → the_deed ≡ ByClient t act → worn_out (ByClient t act) ≡ None → EventActed z e (with_client p t act.after) z.coords z.shards act.sends act.lines
  client_acted t act is acts taken =
      let change_is : disk_change z e ≡ deed_change z (ByClient t act) = is.change ∙ ap (deed_change z) acts in
      let deed_is : along (disk_change z e).course the_deed ≡ ByClient t act = ap (λ (c : DiskChange). along c.course the_deed) change_is ∙ acts in
      record {
        parties = sym (ap (λ (q : Parties). parties_after q (along (disk_change z e).course the_deed)) is.begins ∙ ap (parties_after p) deed_is);
        disks = ap (with_change z) change_is;
        sends = sym (ap sends_of deed_is);
        prints = sym (ap (λ (ls : List Line). ls ++ lines_of (along (disk_change z e).course the_deed)) is.starts ∙ ap lines_of deed_is);
        whole = ap worn_out deed_is ∙ taken;
      }

  -- a version that the client would write is past the last
  pub client_worn : (t : ℕ) (act : ClientAct) → IsDone z e → the_deed ≡ ByClient t act → act.refused ≡ Some KeyWornOut → worn_out (course_deed z.world e (disk_change z e).course) ≡ Some Version
  client_worn t act is acts worn =
      let change_is : disk_change z e ≡ deed_change z (ByClient t act) = is.change ∙ ap (deed_change z) acts in
      let deed_is : along (disk_change z e).course the_deed ≡ ByClient t act = ap (λ (c : DiskChange). along c.course the_deed) change_is ∙ acts in
      ap worn_out deed_is ∙ ap (λ (o : Option ClientRefusal). maybe o None limit_of) worn

  pub client_here : (t : ℕ) (cause : ClientCause) (x : Client) → the_deed ≡ client_does p t cause → found nat_cmp p.clients t ≡ Some x → the_deed ≡ ByClient t (client_act p.layout t x cause)
  client_here t cause x is at = is ∙ ap (λ (o : Option Client). maybe o Idle (λ y. ByClient t (client_act p.layout t y cause))) at

  pub no_client : (t : ℕ) (cause : ClientCause) → the_deed ≡ client_does p t cause → found nat_cmp p.clients t ≡ None → the_deed ≡ Idle
  no_client t cause is at = is ∙ ap (λ (o : Option Client). maybe o Idle (λ y. ByClient t (client_act p.layout t y cause))) at

pub begins_client : (z : Session) (t : ℕ) → EventActed z (Begin t) (with_new_client z.world.parties t) z.coords z.shards [] []
begins_client z t = record { parties = refl; disks = refl; sends = refl; prints = refl; whole = refl }

pub loses_message : (z : Session) (n : ℕ) → EventActed z (Lose n) z.world.parties z.coords z.shards [] []
loses_message z n = record { parties = refl; disks = refl; sends = refl; prints = refl; whole = refl }
