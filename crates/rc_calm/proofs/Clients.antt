-- An event of the client of a transaction where nothing is pending: it acts by its row, and what it sends is all that is pending then.
use Rattle.std.proofs.Common.{◌≡◌, ℕ, ◌+◌, ◌≤◌, List, [], ◌∷◌, ◌++◌, refl, sym, ap, ◌∙◌, subst, arith, Bool, true, false, Option, Some, None, ◌⊎◌, inl, inr, ⊎_elim}
use Rattle.std.specs.Prelude.{Ok, length, nat_le, nat_lt, is_some, ◌||◌, if◌then◌else◌}
use Rattle.std.proofs.lemmas.Bool.{lt-leb, le-ltb, leb-false}
use Rattle.std.specs.Ordering.{nat_cmp}
use Rattle.rc_ids.specs.Tables.{maybe, found, member}
use Rattle.rc_ids.specs.declared.names.NodeId.{NodeId}
use Rattle.rc_ids.specs.declared.names.Party.{Party}
use Rattle.rc_msg.specs.declared.msg.Envelope.{Envelope}
use Rattle.rc_report.specs.declared.fault.Wrong.TheVariants.{Vanished, NotBegun, BegunTwice}
use Rattle.rc_report.specs.declared.fault.Which.TheVariants.{Transactions}
use Rattle.rc_report.specs.declared.fault.Which.{Which}
use Rattle.rc_report.specs.declared.line.Line.{Line}
use Rattle.rc_protocol.specs.Messages.{Posts, client_of}
use Rattle.rc_protocol.specs.Client.{Client, ClientAct, ClientRefusal, is_vanished, client_refuses}
use Rattle.rc_protocol.specs.Acts.{ClientCause, Reads, Writes, Commits, refusal, client_by_row, client_act}
use Rattle.rc_runs.specs.declared.event.Event.{Event}
use Rattle.rc_runs.specs.declared.event.Event.TheVariants.{Begin, Read, Write, Commit}
use Rattle.rc_runs.specs.World.{World, Parties, Start, Deed, Idle, ByClient, Goes, new_start, deed, course_deed, actor, client_does, after_begin, still_pending, restart_lines, with_client, with_new_client, parties_after, envelopes, numbers_after, sends_of, lines_of, bytes_of, step, printed}
use Rattle.rc_runs.specs.Refusals.{wrong, wrong_of, name_of, named_wrongly, begins, limit, limit_of, worn_out, most_events, most_messages, most_message_bytes, most_transactions}
use Rattle.rc_runs.specs.Devices.{appended}
use Rattle.rc_runs.specs.Session.{Session, Limited, Happened, DiskChange, append_of, append_change, no_change, device_of, disk_change, with_change, most_text_bytes, text_bytes}
use Rattle.rc_runs.specs.Script.{LineDone, by_event, line_done}
use Rattle.rc_calm.proofs.Queue.{Queued, goes, sent_count, no_limit, numbers_new}
use Rattle.rc_calm.proofs.Settles.{Advanced, runs, stepped}

-- the event tells t's client this
pub record Tells (z : Session) (t : ℕ) (cause : ClientCause) (e : Event) : Type 0 where
  pub does : deed z.world.parties z.world.sent e ≡ client_does z.world.parties t cause
  pub by : actor z.world.sent e ≡ client_of t
  pub name : wrong z.world e ≡ named_wrongly z.world.parties t cause
  pub old : begins e ≡ false
  pub disk : disk_change z e ≡ maybe (append_of (deed z.world.parties z.world.sent e)) no_change (λ (a : NodeId × ℕ). append_change a.0 (appended (device_of z a.0) a.1))
  pub parties : after_begin z.world.parties e ≡ z.world.parties
  pub pending : still_pending z.world.pending e ≡ z.world.pending
  pub lines : restart_lines e ≡ []

pub read_tells : (z : Session) (t : ℕ) (k : List ℕ) → Tells z t (Reads k) (Read t k)
read_tells z t k = record { does = refl; by = refl; name = refl; old = refl; disk = refl; parties = refl; pending = refl; lines = refl }

pub write_tells : (z : Session) (t : ℕ) (k value : List ℕ) → Tells z t (Writes k value) (Write t k value)
write_tells z t k value = record { does = refl; by = refl; name = refl; old = refl; disk = refl; parties = refl; pending = refl; lines = refl }

pub commit_tells : (z : Session) (t : ℕ) → Tells z t Commits (Commit t)
commit_tells z t = record { does = refl; by = refl; name = refl; old = refl; disk = refl; parties = refl; pending = refl; lines = refl }

-- WHAT COMES OF A LINE OF ONE EVENT: a limit is met, and there was one to meet
pub record LineLimited (z : Session) (new : List Envelope) (now : List Line) (d : LineDone) : Type 0 where
  pub which : Which
  pub halt : d.halt ≡ Some (Limited which)
  pub room : z.world.events + 1 ≤ most_events → length z.world.sent + length new ≤ most_messages → z.world.bytes + bytes_of new ≤ most_message_bytes → z.text + text_bytes now ≤ most_text_bytes → ⊥

-- or it is done
pub record LineActed (z : Session) (p : Parties) (new : List Envelope) (now : List Line) (d : LineDone) : Type 0 where
  pub halt : d.halt ≡ None
  pub prints : d.lines ≡ now
  pub parties : d.after.world.parties ≡ p
  pub queue : Queued d.after.world new
  pub coords : d.after.coords ≡ z.coords
  pub shards : d.after.shards ≡ z.shards
  pub advanced : Advanced z d.after new now

-- what was posted where nothing was pending
posted_queue : (w v : World) (from : Party) (ms : Posts) → Queued w [] → v.sent ≡ w.sent ++ envelopes from ms → v.pending ≡ w.pending ++ numbers_after (length w.sent) ms → Queued v (envelopes from ms)
posted_queue w v from ms h s p = record {
  old = w.sent;
  sent = s;
  pending = p ∙ (ap (λ (z : List ℕ). z ++ numbers_after (length w.sent) ms) h.pending ∙ numbers_new (length w.sent) from ms);
}

module _ (z : Session) (t : ℕ) (cause : ClientCause) (e : Event) (x : Client) (act : ClientAct) (tells : Tells z t cause e) (queue : Queued z.world []) (start : z.world.parties.start ≡ new_start)
    (there : found nat_cmp z.world.parties.clients t ≡ Some x) (here : is_vanished x.phase ≡ false) (allowed : refusal x cause ≡ None)
    (row : client_by_row z.world.parties.layout t x cause ≡ act) (fine : act.refused ≡ None) where
  deed_is : course_deed z.world e Goes ≡ ByClient t act
  deed_is =
      goes (deed z.world.parties z.world.sent e)
      ∙ (tells.does
      ∙ (ap (λ (o : Option Client). maybe o Idle (λ y. ByClient t (client_act z.world.parties.layout t y cause))) there
      ∙ ap (ByClient t) (ap (λ (o : Option ClientRefusal). maybe o (client_by_row z.world.parties.layout t x cause) (client_refuses x)) allowed ∙ row)))

  right : wrong z.world e ≡ None
  right =
      tells.name
      ∙ (ap (λ (s : Start). if member nat_cmp s.named t then Some (Vanished t) else maybe (found nat_cmp z.world.parties.clients t) (Some (NotBegun t)) (λ y. wrong_of t y cause)) start
      ∙ (ap (λ (o : Option Client). maybe o (Some (NotBegun t)) (λ y. wrong_of t y cause)) there
      ∙ (ap (λ (v : Bool). if v then Some (Vanished t) else maybe (refusal x cause) None (name_of t)) here ∙ ap (λ (o : Option ClientRefusal). maybe o None (name_of t)) allowed)))

  change_is : disk_change z e ≡ no_change
  change_is =
      tells.disk
      ∙ ap (λ (d : Deed). maybe (append_of d) no_change (λ (a : NodeId × ℕ). append_change a.0 (appended (device_of z a.0) a.1))) (sym (goes (deed z.world.parties z.world.sent e)) ∙ deed_is)

  posts_are : envelopes (actor z.world.sent e) (sends_of (course_deed z.world e Goes)) ≡ envelopes (client_of t) act.sends
  posts_are = ap (λ (p : Party). envelopes p (sends_of (course_deed z.world e Goes))) tells.by ∙ ap (λ (d : Deed). envelopes (client_of t) (sends_of d)) deed_is

  prints_are : printed z.world e Goes ≡ act.lines
  prints_are = ap (λ (ls : List Line). ls ++ lines_of (course_deed z.world e Goes)) tells.lines ∙ ap lines_of deed_is

  abbrev new : List Envelope
  new = envelopes (client_of t) act.sends

  within : z.world.events + 1 ≤ most_events → length z.world.sent + length new ≤ most_messages → z.world.bytes + bytes_of new ≤ most_message_bytes → limit z.world e Goes ≡ None
  within ev ms bs =
      no_limit z.world e tells.old ev (ap worn_out deed_is ∙ ap (λ (o : Option ClientRefusal). maybe o None limit_of) fine)
      (subst (λ (n : ℕ). length z.world.sent + n ≤ most_messages) (sent_count (client_of t) act.sends ∙ ap (λ (d : Deed). length (sends_of d)) (sym deed_is)) ms)
      (subst (λ (es : List Envelope). z.world.bytes + bytes_of es ≤ most_message_bytes) (sym posts_are) bs)

  course_is : (disk_change z e).course ≡ Goes
  course_is = ap (λ (x : DiskChange). x.course) change_is

  session_is : with_change z (disk_change z e) ≡ Some z
  session_is = ap (with_change z) change_is

  abbrev after : Session
  after = stepped z e z right course_is session_is

  acted : LineActed z (with_client z.world.parties t act.after) new act.lines (line_done z ((e, (disk_change z e).course) ∷ []) (Ok (after, printed z.world e Goes)))
  acted = record {
    halt = refl;
    prints = prints_are;
    parties = ap (λ (p : Parties). parties_after p (course_deed z.world e Goes)) tells.parties ∙ ap (parties_after z.world.parties) deed_is;
    queue = posted_queue z.world (step z.world e Goes) (client_of t) act.sends queue (ap (λ (es : List Envelope). z.world.sent ++ es) posts_are)
        (ap (λ (ns : List ℕ). ns ++ numbers_after (length z.world.sent) (sends_of (course_deed z.world e Goes))) tells.pending ∙ ap (λ (d : Deed). z.world.pending ++ numbers_after (length z.world.sent) (sends_of d)) deed_is);
    coords = refl;
    shards = refl;
    advanced = record {
      events = refl;
      sent = ap (λ (es : List Envelope). z.world.sent ++ es) posts_are;
      bytes = ap (λ (es : List Envelope). z.world.bytes + bytes_of es) posts_are;
      text = ap (λ (ls : List Line). z.text + text_bytes ls) prints_are;
    };
  }

  pub client_event : LineLimited z new act.lines (by_event z e) ⊎ LineActed z (with_client z.world.parties t act.after) new act.lines (by_event z e)
  client_event = ⊎_elim
      (λ l. inl (subst (λ (h : Happened). LineLimited z new act.lines (line_done z ((e, (disk_change z e).course) ∷ []) h)) (sym l.1)
      (record { which = l.0; halt = refl; room = λ ev ms bs tx. l.2 (within ev ms bs) (subst (λ (ls : List Line). z.text + text_bytes ls ≤ most_text_bytes) (sym prints_are) tx) })))
      (λ o. inr (subst (λ (h : Happened). LineActed z (with_client z.world.parties t act.after) new act.lines (line_done z ((e, (disk_change z e).course) ∷ []) h)) (sym o.1) acted))
      (runs z e z right course_is session_is)

-- A BEGIN, which meets a limit of its own
pub record BeginLimited (z : Session) (d : LineDone) : Type 0 where
  pub which : Which
  pub halt : d.halt ≡ Some (Limited which)
  pub room : length z.world.parties.clients + 1 ≤ most_transactions → z.world.events + 1 ≤ most_events → length z.world.sent ≤ most_messages → z.world.bytes ≤ most_message_bytes → z.text ≤ most_text_bytes → ⊥

pub record BeginActed (z : Session) (t : ℕ) (d : LineDone) : Type 0 where
  pub acted : LineActed z (with_new_client z.world.parties t) [] [] d
  pub few : length z.world.parties.clients + 1 ≤ most_transactions

not_taken : (v : Bool) (o : Option Which) → (if v then Some Transactions else o) ≡ None → v ≡ false
not_taken true o h = absurd (cc)
not_taken false o h = refl

module _ (z : Session) (t : ℕ) (queue : Queued z.world []) (start : z.world.parties.start ≡ new_start) (unknown : found nat_cmp z.world.parties.clients t ≡ None) where
  abbrev ev : Event
  ev = Begin t

  new_name : wrong z.world ev ≡ None
  new_name =
      ap (λ (s : Start). if member nat_cmp s.named t || is_some (found nat_cmp z.world.parties.clients t) then Some (BegunTwice t) else None) start
      ∙ ap (λ (o : Option Client). if is_some o then Some (BegunTwice t) else None) unknown

  abbrev begun : Session
  begun = stepped z ev z new_name refl refl

  begin_within : length z.world.parties.clients + 1 ≤ most_transactions → z.world.events + 1 ≤ most_events → length z.world.sent ≤ most_messages → z.world.bytes ≤ most_message_bytes → limit z.world ev Goes ≡ None
  begin_within cs es ms bs =
      let a : nat_le most_transactions (length z.world.parties.clients) ≡ false = lt-leb most_transactions (length z.world.parties.clients) (omega (arith, cs)) in
      let e : nat_le most_events z.world.events ≡ false = lt-leb most_events z.world.events (omega (arith, es)) in
      let m : nat_lt most_messages (length z.world.sent + 0) ≡ false = le-ltb most_messages (length z.world.sent + 0) (omega (arith, ms)) in
      let b : nat_lt most_message_bytes (z.world.bytes + 0) ≡ false = le-ltb most_message_bytes (z.world.bytes + 0) (omega (arith, bs)) in
      rw (a, e, m, b)

  few_clients : limit z.world ev Goes ≡ None → length z.world.parties.clients + 1 ≤ most_transactions
  few_clients h =
      let k = not_taken (nat_le most_transactions (length z.world.parties.clients)) _ h in
      let l = leb-false most_transactions (length z.world.parties.clients) k in omega (arith, l)

  begin_acted : LineActed z (with_new_client z.world.parties t) [] [] (line_done z ((ev, (disk_change z ev).course) ∷ []) (Ok (begun, printed z.world ev Goes)))
  begin_acted = record {
    halt = refl;
    prints = refl;
    parties = refl;
    queue = posted_queue z.world (step z.world ev Goes) (client_of t) [] queue refl refl;
    coords = refl;
    shards = refl;
    advanced = record { events = refl; sent = refl; bytes = refl; text = refl };
  }

  pub begin_event : BeginLimited z (by_event z ev) ⊎ BeginActed z t (by_event z ev)
  begin_event = ⊎_elim
      (λ l. inl (subst (λ (h : Happened). BeginLimited z (line_done z ((ev, (disk_change z ev).course) ∷ []) h)) (sym l.1)
      (record { which = l.0; halt = refl; room = λ cs es ms bs tx. l.2 (begin_within cs es ms bs) (omega (arith, tx)) })))
      (λ o. inr (record { acted = subst (λ (h : Happened). LineActed z (with_new_client z.world.parties t) [] [] (line_done z ((ev, (disk_change z ev).course) ∷ []) h)) (sym o.1) begin_acted; few = few_clients o.0 }))
      (runs z ev z new_name refl refl)
