-- What an event leaves of a session, from what parties, disks and network did.
use Rattle.std.proofs.Common.{◌≡◌, ℕ, suc, ◌+◌, Bool, true, false, List, [], ◌∷◌, ◌++◌, length, Option, None, Some, refl, sym, ◌∙◌, ap, subst, add-zero}
use Rattle.std.proofs.lemmas.List.{append-nil}
use Rattle.std.specs.Prelude.{Result, Ok, Err, nat_lt, nat_le, if◌then◌else◌, ◌&&◌, slice_set}
use Rattle.rc_ids.specs.Tables.{maybe}
use Rattle.rc_ids.specs.declared.names.NodeId.{NodeId}
use Rattle.rc_ids.specs.declared.names.NodeId.TheVariants.{Coord, Shard as ShardServer}
use Rattle.rc_ids.specs.declared.names.Party.{Party}
use Rattle.rc_msg.specs.declared.msg.Envelope.{Envelope}
use Rattle.rc_report.specs.declared.line.Line.{Line}
use Rattle.rc_report.specs.declared.fault.Which.{Which}
use Rattle.rc_report.specs.declared.fault.Which.TheVariants.{TextBytes, Transactions, Events}
use Rattle.rc_report.specs.declared.fault.Wrong.{Wrong}
use Rattle.rc_report.specs.declared.fault.Wrong.TheVariants.{NotSent}
use Rattle.rc_runs.specs.declared.event.Event.{Event}
use Rattle.rc_runs.specs.declared.event.Event.TheVariants.{Begin, Read, Write, Commit, Cancel, Retry, Vanish, Take, Catch, Deliver, Lose, Crash, CrashAt, Restart}
use Rattle.rc_ids.specs.Cluster.{is_dc}
use Rattle.rc_protocol.specs.Messages.{Posts, client_of}
use Rattle.rc_protocol.specs.Nodes.{coord_index, shard_index}
use Rattle.rc_runs.specs.World.{Parties, Deed, Course, is_shard_of, actor, message, envelopes, bytes_of, numbers_after, deed, course_deed, printed, sends_of, step, still_pending, delivered_after}
use Rattle.rc_runs.specs.Refusals.{wrong, limit, worn_out, too_much_sent, begins, most_transactions, most_events}
use Rattle.rc_runs.specs.Devices.{Device}
use Rattle.rc_runs.specs.Session.{Session, Halt, Misnamed, Limited, FarmFails, DiskChange, disk_change, with_change, happens_within_limits, happens_with, prints, happens, with_world, with_text, text_bytes, most_text_bytes}
use Rattle.rc_plain_world.specs.Networks.{Network, posted, passed, too_much, numbers_of}
use Rattle.rc_plain_world.specs.Acted.{Housed, disks_after}
use Rattle.rc_plain_world.specs.Sessions.{session_of, actor_if_any, EventActed, Stepped, late_limit, network_of, early_limit, Halts, SendRefused, Overprints, ActRefused, fault_of_act, fault_of_limit}
use Rattle.rc_plain_world.specs.declared.fault.ActFault.{ActFault}
use Rattle.rc_plain_world.specs.declared.fault.ActFault.TheVariants.{NoMemory as ActNoMemory, VersionSpent, BallotsSpent}
use Rattle.rc_plain_world.specs.declared.fault.LimitFault.{LimitFault}
use Rattle.rc_plain_world.specs.declared.fault.LimitFault.TheVariants.{NoMemory as LimitNoMemory, Limit as AtLimit}

-- MESSAGES
numbered : (n : ℕ) (from : Party) (ms : Posts) → numbers_of n (envelopes from ms) ≡ numbers_after n ms
numbered n from [] = refl
numbered n from (m ∷ ms) = ap (λ (ks : List ℕ). suc n ∷ ks) (numbered (suc n) from ms)

counted : (from : Party) (ms : Posts) → length (envelopes from ms) ≡ length ms
counted from [] = refl
counted from (m ∷ ms) = ap suc (counted from ms)

-- WHO ACTS
acts_as : (sent : List Envelope) (e : Event) (from : Party) → actor_if_any sent e ≡ Some from → from ≡ actor sent e
acts_as sent (Lose n) from is = cc
acts_as sent (Deliver n) from is = by_message (message sent n) is
  where
    by_message : (o : Option Envelope) → maybe o None (λ (e : Envelope). Some e.to) ≡ Some from → from ≡ maybe o (client_of 0) (λ (e : Envelope). e.to)
    by_message None is = cc
    by_message (Some e) is = cc
acts_as sent (Begin t) from is = cc
acts_as sent (Read t k) from is = cc
acts_as sent (Write t k v) from is = cc
acts_as sent (Commit t) from is = cc
acts_as sent (Cancel t k) from is = cc
acts_as sent (Retry t) from is = cc
acts_as sent (Vanish t) from is = cc
acts_as sent (Take d t) from is = cc
acts_as sent (Catch node) from is = cc
acts_as sent (Crash node) from is = cc
acts_as sent (CrashAt node k pick) from is = cc
acts_as sent (Restart node) from is = cc

-- A STEP
limit_same : (n : Network) (from : Party) (ms : Posts) → too_much n (length (envelopes from ms)) (bytes_of (envelopes from ms)) ≡ too_much n (length ms) (bytes_of (envelopes from ms))
limit_same n from ms = ap (λ (count : ℕ). too_much n count (bytes_of (envelopes from ms))) (counted from ms)

sent_same : (n : Network) (e : Event) (from : Party) (ms : Posts) → posted (passed n e) (envelopes from ms) (bytes_of (envelopes from ms))
    ≡ record { sent = n.sent ++ envelopes from ms; bytes = n.bytes + bytes_of (envelopes from ms); pending = still_pending n.pending e ++ numbers_after (length n.sent) ms; delivered = delivered_after n.delivered e }
sent_same n e from ms =
    ap (λ (ks : List ℕ). let m : Network = record { sent = n.sent ++ envelopes from ms; bytes = n.bytes + bytes_of (envelopes from ms); pending = still_pending n.pending e ++ ks; delivered = delivered_after n.delivered e } in m)
    (numbered (length n.sent) from ms)

abbrev event_deed : Housed → Network → Event → Deed
event_deed h n e = course_deed (session_of h n 0 0).world e (disk_change (session_of h n 0 0) e).course

late_by : (h : Housed) (n : Network) (e : Event) (from : Party) (out : Posts) → out ≡ sends_of (event_deed h n e) → from ≡ actor n.sent e → worn_out (event_deed h n e) ≡ None
    → late_limit h n e ≡ too_much n (length (envelopes from out)) (bytes_of (envelopes from out))
late_by h n e from out sends who whole =
    ap (λ (o : Option Which). maybe o (too_much_sent (session_of h n 0 0).world e (event_deed h n e)) Some) whole
    ∙ sym (limit_same n from out ∙ ap (λ (ms : Posts). too_much n (length ms) (bytes_of (envelopes from ms))) sends ∙ ap (λ (p : Party). too_much n (length (sends_of (event_deed h n e))) (bytes_of (envelopes p (sends_of (event_deed h n e))))) who)

pub stepped_by_act : (h h' : Housed) (n n' : Network) (e : Event) (from : Party) (out : Posts) (own : List Line) → EventActed h h' n e out own → actor_if_any n.sent e ≡ Some from
    → too_much n (length (envelopes from out)) (bytes_of (envelopes from out)) ≡ None → n' ≡ posted (passed n e) (envelopes from out) (bytes_of (envelopes from out)) → Stepped h h' n n' e own
stepped_by_act h h' n n' e from out own acted who fits after =
    let is : from ≡ actor n.sent e = acts_as n.sent e from who in
    let net : Posts → Party → Network = λ ms p. record { sent = n.sent ++ envelopes p ms; bytes = n.bytes + bytes_of (envelopes p ms); pending = still_pending n.pending e ++ numbers_after (length n.sent) ms; delivered = delivered_after n.delivered e } in
    record {
      parties = acted.parties;
      disks = acted.disks;
      network = after ∙ sent_same n e from out ∙ ap (λ (ms : Posts). net ms from) acted.sends ∙ ap (net (sends_of (event_deed h n e))) is;
      prints = acted.prints;
      fits = late_by h n e from out acted.sends is acted.whole ∙ fits;
    }

pub step_refused : (h h' : Housed) (n : Network) (e : Event) (from : Party) (out : Posts) (own : List Line) (f : LimitFault) → EventActed h h' n e out own → actor_if_any n.sent e ≡ Some from
    → SendRefused f (too_much n (length (envelopes from out)) (bytes_of (envelopes from out))) → SendRefused f (late_limit h n e)
step_refused h h' n e from out own LimitNoMemory acted who refused = tt
step_refused h h' n e from out own (AtLimit which) acted who refused = late_by h n e from out acted.sends (acts_as n.sent e from who) acted.whole ∙ refused

pub act_refused : (h : Housed) (n : Network) (e : Event) (f : ActFault) → ActRefused f (deed h.parties n.sent e) → SendRefused (fault_of_act f) (late_limit h n e)
act_refused h n e ActNoMemory refused = tt
act_refused h n e VersionSpent refused = ap (λ (o : Option Which). maybe o (too_much_sent (session_of h n 0 0).world e (event_deed h n e)) Some) (refused (disk_change (session_of h n 0 0) e).course)
act_refused h n e BallotsSpent refused = ap (λ (o : Option Which). maybe o (too_much_sent (session_of h n 0 0).world e (event_deed h n e)) Some) (refused (disk_change (session_of h n 0 0) e).course)

-- A LOSS
loses : (h : Housed) (n : Network) (e : Event) → actor_if_any n.sent e ≡ None → wrong (session_of h n 0 0).world e ≡ None → (k : ℕ) × (e ≡ Lose k)
loses h n (Lose k) none named = (k, refl)
loses h n (Deliver k) none named = by_message (message n.sent k) none named
  where
    by_message : (o : Option Envelope) → maybe o None (λ (e : Envelope). Some e.to) ≡ None → maybe o (Some (NotSent k)) (λ (e : Envelope). None) ≡ None → (j : ℕ) × (Deliver k ≡ Lose j)
    by_message None none named = cc
    by_message (Some e) none named = cc
loses h n (Begin t) none named = cc
loses h n (Read t k) none named = cc
loses h n (Write t k v) none named = cc
loses h n (Commit t) none named = cc
loses h n (Cancel t k) none named = cc
loses h n (Retry t) none named = cc
loses h n (Vanish t) none named = cc
loses h n (Take d t) none named = cc
loses h n (Catch node) none named = cc
loses h n (Crash node) none named = cc
loses h n (CrashAt node k pick) none named = cc
loses h n (Restart node) none named = cc

loss_network : (n : Network) (k : ℕ) → passed n (Lose k) ≡ record { sent = n.sent ++ []; bytes = n.bytes + 0; pending = still_pending n.pending (Lose k) ++ []; delivered = n.delivered }
loss_network n k = rw (append-nil n.sent, append-nil (still_pending n.pending (Lose k)), add-zero n.bytes) refl

stepped_loss : (h : Housed) (n n' : Network) (k : ℕ) (own : List Line) → too_much n 0 0 ≡ None → n' ≡ passed n (Lose k) → own ≡ [] → Stepped h h n n' (Lose k) own
stepped_loss h n n' k own fits after none = record { parties = refl; disks = refl; network = after ∙ loss_network n k; prints = none; fits = fits }

pub stepped_by_loss : (h : Housed) (n n' : Network) (e : Event) (own : List Line) → actor_if_any n.sent e ≡ None → wrong (session_of h n 0 0).world e ≡ None
    → too_much n 0 0 ≡ None → n' ≡ passed n e → own ≡ [] → Stepped h h n n' e own
stepped_by_loss h n n' e own who named fits after none =
    let l = loses h n e who named in
    subst (λ (x : Event). Stepped h h n n' x own) (sym l.1) (stepped_loss h n n' l.0 own fits (after ∙ ap (passed n) l.1) none)

pub loss_refused : (h : Housed) (n : Network) (e : Event) (f : LimitFault) → actor_if_any n.sent e ≡ None → wrong (session_of h n 0 0).world e ≡ None
    → SendRefused f (too_much n 0 0) → SendRefused f (late_limit h n e)
loss_refused h n e f who named refused =
    let l = loses h n e who named in subst (λ (x : Event). SendRefused f (late_limit h n x)) (sym l.1) refused

-- A SESSION
disk_first : (x : List Device) (y : List Device) (cs ss : List Device) → let a : Option (List Device × List Device) = Some (x, y) in let b : Option (List Device × List Device) = Some (cs, ss) in a ≡ b → (x ≡ cs) × (y ≡ ss)
disk_first x y cs ss is = (ap (λ (o : Option (List Device × List Device)). maybe o x (λ p. p.0)) is, ap (λ (o : Option (List Device × List Device)). maybe o y (λ p. p.1)) is)

abbrev with_disks : Session → List Device → List Device → Session
with_disks z cs ss = record { world = z.world; coords = cs; shards = ss; text = z.text }

both_disks : (z : Session) (x y cs ss : List Device) → (x ≡ cs) × (y ≡ ss) → let a : Option Session = Some (with_disks z x y) in a ≡ Some (with_disks z cs ss)
both_disks z x y cs ss is = ap (λ (u : List Device). let a : Option Session = Some (with_disks z u y) in a) is.0 ∙ ap (λ (v : List Device). let a : Option Session = Some (with_disks z cs v) in a) is.1

worked : (h : Housed) (n : Network) (events text : ℕ) (course : Course) (node : Option NodeId) (device : Option Device) (cs ss : List Device)
    → disks_after h (record { course = course; node = node; device = device }) ≡ Some (cs, ss)
    → with_change (session_of h n events text) (record { course = course; node = node; device = device }) ≡ Some (with_disks (session_of h n events text) cs ss)
worked h n events text course None device cs ss is = both_disks (session_of h n events text) h.coords h.shards cs ss (disk_first _ _ cs ss is)
worked h n events text course (Some node) None cs ss is = cc
worked h n events text course (Some (Coord d)) (Some x) cs ss is = by_test (is_dc h.parties.layout d) is
  where
    by_test : (b : Bool) → (let p : List Device × List Device = if b then (slice_set h.coords (coord_index d) x, h.shards) else (h.coords, h.shards) in Some p ≡ Some (cs, ss))
        → (let z : Session = if b then record (session_of h n events text) { coords = slice_set h.coords (coord_index d) x } else session_of h n events text in Some z ≡ Some (with_disks (session_of h n events text) cs ss))
    by_test true is = both_disks (session_of h n events text) _ h.shards cs ss (disk_first _ _ cs ss is)
    by_test false is = both_disks (session_of h n events text) h.coords h.shards cs ss (disk_first _ _ cs ss is)
worked h n events text course (Some (ShardServer d s)) (Some x) cs ss is = by_test (is_shard_of h.parties.layout d s) is
  where
    by_test : (b : Bool) → (let p : List Device × List Device = if b then (h.coords, slice_set h.shards (shard_index h.parties.layout d s) x) else (h.coords, h.shards) in Some p ≡ Some (cs, ss))
        → (let z : Session = if b then record (session_of h n events text) { shards = slice_set h.shards (shard_index h.parties.layout d s) x } else session_of h n events text in Some z ≡ Some (with_disks (session_of h n events text) cs ss))
    by_test true is = both_disks (session_of h n events text) h.coords _ cs ss (disk_first _ _ cs ss is)
    by_test false is = both_disks (session_of h n events text) h.coords h.shards cs ss (disk_first _ _ cs ss is)

past_early : (a b : Bool) (rest : Option Which) → (if a then Some Transactions else (if b then Some Events else None)) ≡ None → (if a then Some Transactions else (if b then Some Events else rest)) ≡ rest
past_early true b rest is = cc
past_early false true rest is = cc
past_early false false rest is = refl

at_early : (a b : Bool) (rest : Option Which) (which : Which) → (if a then Some Transactions else (if b then Some Events else None)) ≡ Some which → (if a then Some Transactions else (if b then Some Events else rest)) ≡ Some which
at_early true b rest which is = is
at_early false true rest which is = is
at_early false false rest which is = cc

limits : (h : Housed) (n : Network) (events text : ℕ) (e : Event) → early_limit e (length h.parties.clients) events ≡ None
    → limit (session_of h n events text).world e (disk_change (session_of h n events text) e).course ≡ late_limit h n e
limits h n events text e early = past_early (begins e && nat_le most_transactions (length h.parties.clients)) (nat_le most_events events) (late_limit h n e) early

pub happens_misnamed : (h : Housed) (n : Network) (events text : ℕ) (e : Event) (name : Wrong) → wrong (session_of h n 0 0).world e ≡ Some name → happens (session_of h n events text) e ≡ Err (Misnamed name)
happens_misnamed h n events text e name is =
    ap (λ (o : Option Wrong). maybe o (happens_within_limits (session_of h n events text) e (disk_change (session_of h n events text) e)) (λ name. Err (Misnamed name))) is

to_limit : (h : Housed) (n : Network) (events text : ℕ) (e : Event) → wrong (session_of h n 0 0).world e ≡ None
    → happens (session_of h n events text) e ≡ happens_within_limits (session_of h n events text) e (disk_change (session_of h n events text) e)
to_limit h n events text e is =
    ap (λ (o : Option Wrong). maybe o (happens_within_limits (session_of h n events text) e (disk_change (session_of h n events text) e)) (λ name. Err (Misnamed name))) is

limited : (h : Housed) (n : Network) (events text : ℕ) (e : Event) (which : Which) → wrong (session_of h n 0 0).world e ≡ None
    → limit (session_of h n events text).world e (disk_change (session_of h n events text) e).course ≡ Some which → happens (session_of h n events text) e ≡ Err (Limited which)
limited h n events text e which named is =
    let z : Session = session_of h n events text in
    to_limit h n events text e named ∙ ap (λ (o : Option Which). maybe o (happens_with z e (disk_change z e)) (λ which. Err (Limited which))) is

pub happens_early : (h : Housed) (n : Network) (events text : ℕ) (e : Event) (which : Which) → wrong (session_of h n 0 0).world e ≡ None
    → early_limit e (length h.parties.clients) events ≡ Some which → happens (session_of h n events text) e ≡ Err (Limited which)
happens_early h n events text e which named is =
    limited h n events text e which named (at_early (begins e && nat_le most_transactions (length h.parties.clients)) (nat_le most_events events) (late_limit h n e) which is)

pub happens_late : (h : Housed) (n : Network) (events text : ℕ) (e : Event) (f : LimitFault) → wrong (session_of h n 0 0).world e ≡ None
    → early_limit e (length h.parties.clients) events ≡ None → SendRefused f (late_limit h n e) → Halts (fault_of_limit f) (happens (session_of h n events text) e)
happens_late h n events text e LimitNoMemory named early refused = tt
happens_late h n events text e (AtLimit which) named early refused = limited h n events text e which named (limits h n events text e early ∙ refused)

to_print : (h h' : Housed) (n n' : Network) (events text : ℕ) (e : Event) (own : List Line) → wrong (session_of h n 0 0).world e ≡ None
    → early_limit e (length h.parties.clients) events ≡ None → Stepped h h' n n' e own
    → happens (session_of h n events text) e ≡ prints (session_of h' n' (events + 1) text) own
to_print h h' n n' events text e own named early stepped =
    let z : Session = session_of h n events text in
    let work : DiskChange = disk_change z e in
    let after : Session = with_disks z h'.coords h'.shards in
    let end : Parties → Network → List Line → Session = λ p m ls. record { world = record { parties = p; sent = m.sent; bytes = m.bytes; pending = m.pending; delivered = m.delivered; events = events + 1 }; coords = h'.coords; shards = h'.shards; text = text } in
    to_limit h n events text e named
    ∙ ap (λ (o : Option Which). maybe o (happens_with z e work) (λ which. Err (Limited which))) (limits h n events text e early ∙ stepped.fits)
    ∙ ap (λ (o : Option Session). maybe o (Err FarmFails) (λ y. prints (with_world y (step z.world e work.course)) (printed z.world e work.course))) (worked h n events text work.course work.node work.device h'.coords h'.shards stepped.disks)
    ∙ sym (ap (λ (p : Parties). prints (end p n' own) own) stepped.parties
    ∙ ap (λ (m : Network). prints (end (step z.world e work.course).parties m own) own) stepped.network
    ∙ ap (prints (end (step z.world e work.course).parties (network_of (step z.world e work.course)) own)) stepped.prints)

pub happened : (h h' : Housed) (n n' : Network) (events text sum : ℕ) (e : Event) (own : List Line) → wrong (session_of h n 0 0).world e ≡ None
    → early_limit e (length h.parties.clients) events ≡ None → Stepped h h' n n' e own → sum ≡ text + text_bytes own → nat_lt most_text_bytes (text + text_bytes own) ≡ false
    → happens (session_of h n events text) e ≡ Ok (session_of h' n' (events + 1) sum, own)
happened h h' n n' events text sum e own named early stepped is fits =
    let z' : Session = session_of h' n' (events + 1) text in
    let went : Session → Result (Session × List Line) Halt = λ y. Ok (y, own) in
    to_print h h' n n' events text e own named early stepped
    ∙ ap (λ (b : Bool). let r : Result (Session × List Line) Halt = if b then Err (Limited TextBytes) else went (with_text z' (text + text_bytes own)) in r) fits
    ∙ ap (λ (t : ℕ). went (session_of h' n' (events + 1) t)) (sym is)

pub happens_overprinted : (h h' : Housed) (n n' : Network) (events text : ℕ) (e : Event) (own : List Line) (f : LimitFault) → wrong (session_of h n 0 0).world e ≡ None
    → early_limit e (length h.parties.clients) events ≡ None → Stepped h h' n n' e own → Overprints f (text + text_bytes own) → Halts (fault_of_limit f) (happens (session_of h n events text) e)
happens_overprinted h h' n n' events text e own LimitNoMemory named early stepped over = tt
happens_overprinted h h' n n' events text e own (AtLimit which) named early stepped over =
    let z' : Session = session_of h' n' (events + 1) text in
    to_print h h' n n' events text e own named early stepped
    ∙ ap (λ (b : Bool). let r : Result (Session × List Line) Halt = if b then Err (Limited TextBytes) else Ok (with_text z' (text + text_bytes own), own) in r) over.1
    ∙ ap (λ (w : Which). let r : Result (Session × List Line) Halt = Err (Limited w) in r) (sym over.0)
