-- Events on parties and network.
use Rattle.std.proofs.Common.{◌≡◌, ℕ, true, List, [], ◌++◌, Option, None, Some, refl, sym, ◌∙◌, ap, subst}
use Rattle.rc_ids.specs.Tables.{maybe}
use Rattle.rc_ids.specs.declared.names.NodeId.TheVariants.{Coord, Shard as ShardServer}
use Rattle.rc_ids.specs.declared.names.Party.{Party}
use Rattle.rc_ids.specs.declared.names.Party.TheVariants.{Node, Client as ClientOf}
use Rattle.rc_msg.specs.declared.msg.Envelope.{Envelope}
use Rattle.rc_report.specs.declared.line.Line.{Line}
use Rattle.rc_runs.specs.declared.event.Event.{Event}
use Rattle.rc_runs.specs.declared.event.Event.TheVariants.{Begin, Read, Write, Commit, Cancel, Retry, Vanish, Take, Catch, Deliver, Lose, Crash, CrashAt, Restart}
use Rattle.rc_protocol.specs.Messages.{Posts}
use Rattle.rc_runs.specs.World.{Parties, Deed, Idle, deed, along, parties_after, lines_of, received, message, after_begin, restart_lines, sends_of}
use Rattle.rc_runs.specs.Refusals.{worn_out}
use Rattle.rc_runs.specs.Session.{Session, DiskChange, disk_change}
use Rattle.rc_plain_world.specs.Networks.{Network}
use Rattle.rc_plain_world.specs.Acted.{Housed, deed_work, does_by, disks_after, Acted}
use Rattle.rc_plain_world.specs.Sessions.{session_of, acts, actor_if_any, EventActed}

-- WHO ACTS
to_party : (p : Parties) (sent : List Envelope) (n : ℕ) (env : Envelope) (to : Party) → message sent n ≡ Some env → received p env to ≡ does_by p sent (Deliver n) to
to_party p sent n env (Node (Coord d)) at = rw at refl
to_party p sent n env (Node (ShardServer d s)) at = rw at refl
to_party p sent n env (ClientOf t) at = rw at refl

delivered_deed : (p : Parties) (sent : List Envelope) (n : ℕ) (from : Party) (o : Option Envelope) → message sent n ≡ o → maybe o None (λ (e : Envelope). Some e.to) ≡ Some from
    → maybe o Idle (λ (e : Envelope). received p e e.to) ≡ does_by p sent (Deliver n) from
delivered_deed p sent n from None at who = cc
delivered_deed p sent n from (Some env) at who = let same : env.to ≡ from = (cc) in to_party p sent n env env.to at ∙ ap (does_by p sent (Deliver n)) same

acting_deed : (p : Parties) (sent : List Envelope) (e : Event) (from : Party) → acts e ≡ true → actor_if_any sent e ≡ Some from → deed p sent e ≡ does_by p sent e from
acting_deed p sent (Begin t) from is who = cc
acting_deed p sent (Read t k) from is who = let same : from ≡ ClientOf t = (cc) in rw same refl
acting_deed p sent (Write t k v) from is who = let same : from ≡ ClientOf t = (cc) in rw same refl
acting_deed p sent (Commit t) from is who = let same : from ≡ ClientOf t = (cc) in rw same refl
acting_deed p sent (Cancel t k) from is who = let same : from ≡ ClientOf t = (cc) in rw same refl
acting_deed p sent (Retry t) from is who = let same : from ≡ ClientOf t = (cc) in rw same refl
acting_deed p sent (Vanish t) from is who = let same : from ≡ ClientOf t = (cc) in rw same refl
acting_deed p sent (Take d t) from is who = let same : from ≡ Node (Coord d) = (cc) in rw same refl
acting_deed p sent (Catch (Coord d)) from is who = let same : from ≡ Node (Coord d) = (cc) in rw same refl
acting_deed p sent (Catch (ShardServer d s)) from is who = let same : from ≡ Node (ShardServer d s) = (cc) in rw same refl
acting_deed p sent (Deliver n) from is who = delivered_deed p sent n from (message sent n) refl who
acting_deed p sent (Lose n) from is who = cc
acting_deed p sent (Crash node) from is who = cc
acting_deed p sent (CrashAt node k pick) from is who = cc
acting_deed p sent (Restart node) from is who = cc

acting_joined : (p : Parties) (e : Event) → acts e ≡ true → after_begin p e ≡ p
acting_joined p (Begin t) is = cc
acting_joined p _ is = refl

acting_starts : (e : Event) → acts e ≡ true → restart_lines e ≡ []
acting_starts (Restart node) is = cc
acting_starts _ is = refl

acting_work : (h : Housed) (n : Network) (e : Event) → acts e ≡ true → disk_change (session_of h n 0 0) e ≡ deed_work h (deed h.parties n.sent e)
acting_work h n (Crash node) is = cc
acting_work h n (CrashAt node k pick) is = cc
acting_work h n (Restart node) is = cc
acting_work h n _ is = refl

pub acting_acted : (h h' : Housed) (n : Network) (e : Event) (from : Party) (out : Posts) (own : List Line) → acts e ≡ true → actor_if_any n.sent e ≡ Some from
    → Acted (does_by h.parties n.sent e from) (deed_work h (does_by h.parties n.sent e from)) h h' out [] own → EventActed h h' n e out own
acting_acted h h' n e from out own is who acted =
    let z : Session = session_of h n 0 0 in
    let d : Deed = deed h.parties n.sent e in
    let a : Acted d (deed_work h d) h h' out [] own = subst (λ (x : Deed). Acted x (deed_work h x) h h' out [] own) (sym (acting_deed h.parties n.sent e from is who)) acted in
    let w : deed_work h d ≡ disk_change z e = sym (acting_work h n e is) in
    record {
      parties = a.parties ∙ ap (λ (k : DiskChange). parties_after h.parties (along k.course d)) w ∙ ap (λ (p : Parties). parties_after p (along (disk_change z e).course d)) (sym (acting_joined h.parties e is));
      disks = ap (disks_after h) (sym w) ∙ a.disks;
      sends = a.sends ∙ ap (λ (k : DiskChange). sends_of (along k.course d)) w;
      prints = a.prints ∙ ap (λ (k : DiskChange). lines_of (along k.course d)) w ∙ ap (λ (ls : List Line). ls ++ lines_of (along (disk_change z e).course d)) (sym (acting_starts e is));
      whole = ap (λ (k : DiskChange). worn_out (along k.course d)) (sym w) ∙ a.whole;
    }
