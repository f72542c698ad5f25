-- The rows of a client, which buffers its writes, reads from a quorum and proposes its own commit at ballot 0.
use Rattle.std.specs.Prelude.{ℕ, Bool, true, false, cond, not, ◌||◌, ◌&&◌, List, [], ◌∷◌, ◌++◌, map, length, Option, Some, None, nat_lt, nat_le, is_none, ◌==◌, if◌then◌else◌}
use Rattle.std.specs.Ordering.{nat_cmp}
use Rattle.std.specs.List.{list_any, flat_map}
use Rattle.rc_ids.specs.Tables.{Table, member, added, maybe}
use Rattle.rc_ids.specs.Texts.{key_cmp, same_key}
use Rattle.rc_ids.specs.Cluster.{Layout, is_dc, is_quorum, home, shard_of}
use Rattle.rc_body.specs.Entries.{wears_out}
use Rattle.rc_body.specs.Decisions.{outcome_of}
use Rattle.rc_body.specs.declared.entry.Entry.{Entry}
use Rattle.rc_body.specs.declared.decision.Decision.{Decision}
use Rattle.rc_body.specs.declared.decision.Decision.TheVariants.{Commit}
use Rattle.rc_body.specs.declared.reason.Reason.{Reason}
use Rattle.rc_msg.specs.declared.msg.Msg.{Msg}
use Rattle.rc_msg.specs.declared.msg.Msg.TheVariants.{ReadAsk, ReadCancel, Granted, Propose, Voted, Refused, Decided, Abandon}
use Rattle.rc_report.specs.declared.line.Line.{Line}
use Rattle.rc_report.specs.declared.line.Line.TheVariants.{Read as ReadLine, Own, Refused as RefusedLine, Learned}
use Rattle.rc_protocol.specs.Messages.{Posts, coordinator, shard_server, one, to_each, to_all}
use Rattle.rc_protocol.specs.Coordinator.{Standing, counted, is_decided_by}

pub data Phase : Type 0 where
  Open Committing Proposed Done Vanished : Phase

-- what a datacentre's shard gave
pub record Grant : Type 0 where
  pub dc : ℕ
  pub version : ℕ
  pub value : Option (List ℕ)

-- the read of a key: none, one under way (whether a line is printed at its end, and the grants so far), or a complete one
pub data KeyRead : Type 0 where
  NotRead : KeyRead
  UnderWay : Bool → List Grant → KeyRead
  Complete : ℕ → Option (List ℕ) → KeyRead

-- a key that the transaction touched, with its buffered write and its read
pub record Slot : Type 0 where
  pub key : List ℕ
  pub write : Option (List ℕ)
  pub read : KeyRead

pub record Client : Type 0 where
  pub phase : Phase
  pub slots : List Slot  -- in order of first touch
  pub refusals : List ℕ
  pub votes : Table ℕ Standing
  pub outcome : Option Decision

-- why a client refuses: it does not read, write and commit any more; it has 32 keys, and this would be one more; a version that is
-- written has no next one
pub data ClientRefusal : Type 0 where
  NotOpen TooManyKeys KeyWornOut : ClientRefusal

-- what a row does, or why it is refused: then it does nothing
pub record ClientAct : Type 0 where
  pub after : Client
  pub sends : Posts
  pub lines : List Line
  pub refused : Option ClientRefusal

abbrev pub new_client : Client
new_client = record { phase = Open; slots = []; refusals = []; votes = []; outcome = None }

abbrev pub is_open : Phase → Bool
is_open Open = true
is_open _ = false

abbrev pub is_committing : Phase → Bool
is_committing Committing = true
is_committing _ = false

abbrev pub is_proposed : Phase → Bool
is_proposed Proposed = true
is_proposed _ = false

abbrev pub is_vanished : Phase → Bool
is_vanished Vanished = true
is_vanished _ = false

abbrev pub is_done : Phase → Bool
is_done Done = true
is_done _ = false

-- the client has learned the outcome, or is gone
abbrev pub is_over : Phase → Bool
is_over Done = true
is_over Vanished = true
is_over _ = false

abbrev pub in_phase : Client → Phase → Client
in_phase x phase = record x { phase = phase }

abbrev pub with_slots : Client → List Slot → Client
with_slots x slots = record x { slots = slots }

-- SLOTS
abbrev pub slot_of : List Slot → List ℕ → Option Slot
slot_of [] k = None
slot_of (s ∷ ss) k = cond (same_key s.key k) (Some s) (slot_of ss k)

-- the slot in the place of the one with its key
abbrev pub slot_set : List Slot → Slot → List Slot
slot_set [] slot = []
slot_set (s ∷ ss) slot = cond (same_key s.key slot.key) (slot ∷ ss) (s ∷ slot_set ss slot)

abbrev pub with_read : Slot → KeyRead → Slot
with_read s read = record s { read = read }

abbrev pub with_write : Slot → List ℕ → Slot
with_write s value = record s { write = Some value }

abbrev pub is_under_way : KeyRead → Bool
is_under_way (UnderWay prints grants) = true
is_under_way _ = false

abbrev pub is_unread : KeyRead → Bool
is_unread NotRead = true
is_unread _ = false

abbrev pub grants_of : KeyRead → List Grant
grants_of (UnderWay prints grants) = grants
grants_of _ = []

abbrev pub prints_of : KeyRead → Bool
prints_of (UnderWay prints grants) = prints
prints_of _ = false

abbrev pub waits_for_read : List Slot → Bool
waits_for_read slots = list_any (λ (s : Slot). is_under_way s.read) slots

abbrev pub version_read : KeyRead → ℕ
version_read (Complete version value) = version
version_read _ = 0

abbrev pub entry_of : Slot → Entry
entry_of s = record { key = s.key; version = version_read s.read; write = s.write }

abbrev pub body_of : List Slot → List Entry
body_of slots = map entry_of slots

-- ACTS
abbrev pub client_stays : Client → ClientAct
client_stays x = record { after = x; sends = []; lines = []; refused = None }

abbrev pub client_says : Client → Posts → ClientAct
client_says x ms = record { after = x; sends = ms; lines = []; refused = None }

abbrev pub client_prints : Client → Line → ClientAct
client_prints x line = record { after = x; sends = []; lines = line ∷ []; refused = None }

abbrev pub client_refuses : Client → ClientRefusal → ClientAct
client_refuses x reason = record { after = x; sends = []; lines = []; refused = Some reason }

-- where an act is refused the client is as it was before the event
abbrev pub unless_refused : Client → ClientAct → ClientAct
unless_refused before act = maybe act.refused act (client_refuses before)

abbrev pub asks : Layout → ℕ → List ℕ → Posts
asks c t k = to_each c.dcs (λ d. one (shard_server d (shard_of c k)) (ReadAsk t k))

-- PROPOSING
abbrev pub is_worn : List Slot → Bool
is_worn slots = list_any (λ (s : Slot). wears_out (entry_of s)) slots

abbrev pub proposes : Layout → ℕ → Client → ClientAct
proposes c t x =
    if is_worn x.slots then client_refuses x KeyWornOut
    else client_says (in_phase x Proposed) (to_all c (Propose t 0 (Commit (body_of x.slots))))

-- COMMANDS
abbrev pub most_keys : ℕ
most_keys = 32

-- the key would be one too many
abbrev pub is_out_of_slots : Client → List ℕ → Bool
is_out_of_slots x k = is_none (slot_of x.slots k) && nat_le most_keys (length x.slots)

abbrev pub asks_new : Layout → ℕ → Client → List ℕ → ClientAct
asks_new c t x k = client_says (with_slots x (x.slots ++ record { key = k; write = None; read = UnderWay true [] } ∷ [])) (asks c t k)

abbrev pub reads_again : ℕ → Client → List ℕ → KeyRead → ClientAct
reads_again t x k (Complete version value) = client_prints x (ReadLine t k version value)
reads_again t x k _ = client_stays x

abbrev pub reads_slot : ℕ → Client → List ℕ → Slot → ClientAct
reads_slot t x k s = maybe s.write (reads_again t x k s.read) (λ value. client_prints x (Own t k value))

abbrev pub do_read : Layout → ℕ → Client → List ℕ → ClientAct
do_read c t x k = maybe (slot_of x.slots k) (asks_new c t x k) (reads_slot t x k)

abbrev pub do_write : Client → List ℕ → List ℕ → ClientAct
do_write x k value =
    client_stays (with_slots x
    (maybe (slot_of x.slots k) (x.slots ++ record { key = k; write = Some value; read = NotRead } ∷ []) (λ s. slot_set x.slots (with_write s value))))

-- the written keys that were not read, in key order
abbrev pub unread_keys : List Slot → List (List ℕ)
unread_keys [] = []
unread_keys (s ∷ ss) = if is_unread s.read then added key_cmp (unread_keys ss) s.key else unread_keys ss

abbrev pub read_begun : Slot → Slot
read_begun s = if is_unread s.read then with_read s (UnderWay false []) else s

abbrev pub reads_begun : List Slot → List Slot
reads_begun slots = map read_begun slots

abbrev pub asks_all : Layout → ℕ → List (List ℕ) → Posts
asks_all c t [] = []
asks_all c t (k ∷ ks) = asks c t k ++ asks_all c t ks

abbrev pub do_commit : Layout → ℕ → Client → ClientAct
do_commit c t x =
    if waits_for_read (reads_begun x.slots)
    then client_says (in_phase (with_slots x (reads_begun x.slots)) Committing) (asks_all c t (unread_keys x.slots))
    else proposes c t x

-- a read that is under way is dropped, and its key with it unless it is written
abbrev pub read_dropped : List ℕ → Slot → List Slot
read_dropped k s = if same_key s.key k then maybe s.write [] (λ value. with_read s NotRead ∷ []) else s ∷ []

abbrev pub drops_read : Layout → ℕ → Client → List ℕ → ClientAct
drops_read c t x k = client_says (with_slots x (flat_map (read_dropped k) x.slots)) (to_each c.dcs (λ d. one (shard_server d (shard_of c k)) (ReadCancel t k)))

abbrev pub do_cancel : Layout → ℕ → Client → List ℕ → ClientAct
do_cancel c t x k = maybe (slot_of x.slots k) (client_stays x) (λ s. if is_under_way s.read then drops_read c t x k else client_stays x)

-- the client is gone: it ignores all from now on
abbrev pub do_vanish : Client → ClientAct
do_vanish x = client_stays (in_phase x Vanished)

-- A GRANT COMES
abbrev pub granted_by : List Grant → List ℕ
granted_by [] = []
granted_by (g ∷ gs) = added nat_cmp (granted_by gs) g.dc

-- the highest version, and the value of its first grant
abbrev pub best_grant : List Grant → ℕ × Option (List ℕ)
best_grant [] = (0, None)
best_grant (g ∷ gs) = if nat_lt g.version (best_grant gs).0 then best_grant gs else (g.version, g.value)

abbrev pub cancel_to : Layout → ℕ → List ℕ → List ℕ → ℕ → Posts
cancel_to c t k granted d = if member nat_cmp granted d then [] else one (shard_server d (shard_of c k)) (ReadCancel t k)

abbrev pub cancels : Layout → ℕ → List ℕ → List Grant → Posts
cancels c t k grants = to_each c.dcs (cancel_to c t k (granted_by grants))

abbrev pub completed : Slot → List Grant → Slot
completed s grants = with_read s (Complete (best_grant grants).0 (best_grant grants).1)

abbrev pub read_line : ℕ → Slot → List Grant → List Line
read_line t s grants = if prints_of s.read then ReadLine t s.key (best_grant grants).0 (best_grant grants).1 ∷ [] else []

-- a committing client that waits for no read proposes
abbrev pub proposes_once_read : Layout → ℕ → Client → ClientAct
proposes_once_read c t x = if is_committing x.phase && not (waits_for_read x.slots) then proposes c t x else client_stays x

-- before that the cancels go, and the line of the read
abbrev pub after_read : Posts → List Line → ClientAct → ClientAct
after_read ms lines act = record act { sends = ms ++ act.sends; lines = lines }

abbrev pub completes : Layout → ℕ → Client → Slot → List Grant → ClientAct
completes c t x s grants =
    unless_refused x (after_read (cancels c t s.key grants) (read_line t s grants) (proposes_once_read c t (with_slots x (slot_set x.slots (completed s grants)))))

abbrev pub with_grant : Slot → Grant → List Grant
with_grant s g = grants_of s.read ++ g ∷ []

abbrev pub takes_grant : Layout → ℕ → Client → Slot → Grant → ClientAct
takes_grant c t x s g =
    if is_quorum c (granted_by (with_grant s g))
    then completes c t x s (with_grant s g)
    else client_stays (with_slots x (slot_set x.slots (with_read s (UnderWay (prints_of s.read) (with_grant s g)))))

-- the read of the slot is under way, and d has not granted it
abbrev pub wants_grant : Slot → ℕ → Bool
wants_grant s d = is_under_way s.read && not (member nat_cmp (granted_by (grants_of s.read)) d)

abbrev pub reads_on : Phase → Bool
reads_on phase = is_open phase || is_committing phase

abbrev pub on_granted : Layout → ℕ → Client → List ℕ → Grant → ClientAct
on_granted c t x k g =
    if reads_on x.phase
    then maybe (slot_of x.slots k) (client_stays x) (λ s. if wants_grant s g.dc then takes_grant c t x s g else client_stays x)
    else client_stays x

-- VOTES, REFUSALS, OUTCOMES
abbrev pub client_learns : ℕ → Client → Decision → ClientAct
client_learns t x o = client_prints (record x { phase = Done; outcome = Some o }) (Learned t (outcome_of o))

abbrev pub with_vote : Client → ℕ → ℕ → Decision → Client
with_vote x b d o = record x { votes = counted x.votes b d o }

abbrev pub on_voted : Layout → ℕ → Client → ℕ → ℕ → Decision → ClientAct
on_voted c t x b d o =
    if is_over x.phase then client_stays x
    else (if is_decided_by c x.votes b d o then client_learns t (with_vote x b d o) o else client_stays (with_vote x b d o))

abbrev pub on_decided : ℕ → Client → Decision → ClientAct
on_decided t x o = if is_over x.phase then client_stays x else client_learns t x o

abbrev pub with_refusal : Client → ℕ → Client
with_refusal x d = record x { refusals = added nat_cmp x.refusals d }

-- the refusing datacentres are a quorum now and were none before
abbrev pub gives_up : Layout → ℕ → List ℕ → ℕ → Posts
gives_up c t refusals d =
    if is_quorum c (added nat_cmp refusals d) && not (is_quorum c refusals) then one (coordinator (home c t)) (Abandon t) else []

-- a refusal of the client's own ballot, the first of d
abbrev pub counts_refusal : Client → ℕ → ℕ → Bool
counts_refusal x b d = (b == 0) && (is_proposed x.phase && not (member nat_cmp x.refusals d))

abbrev pub on_refused : Layout → ℕ → Client → ℕ → ℕ → Reason → ClientAct
on_refused c t x b d reason =
    if counts_refusal x b d
    then record { after = with_refusal x d; sends = gives_up c t x.refusals d; lines = RefusedLine t d reason ∷ []; refused = None }
    else client_stays x

-- WHAT A CLIENT WAITS FOR IS SENT AGAIN
abbrev pub asks_rest : Layout → ℕ → Slot → Posts
asks_rest c t s = to_each c.dcs (λ d. if member nat_cmp (granted_by (grants_of s.read)) d then [] else one (shard_server d (shard_of c s.key)) (ReadAsk t s.key))

-- the keys whose read is under way, in key order
abbrev pub waiting_keys : List Slot → List (List ℕ)
waiting_keys [] = []
waiting_keys (s ∷ ss) = if is_under_way s.read then added key_cmp (waiting_keys ss) s.key else waiting_keys ss

abbrev pub asks_again : Layout → ℕ → List Slot → List (List ℕ) → Posts
asks_again c t slots [] = []
asks_again c t slots (k ∷ ks) = maybe (slot_of slots k) [] (asks_rest c t) ++ asks_again c t slots ks

-- the same proposal, or the transaction is given up where the refusing datacentres are a quorum
abbrev pub proposes_again : Layout → ℕ → Client → Posts
proposes_again c t x =
    if is_quorum c x.refusals
    then one (coordinator (home c t)) (Abandon t)
    else to_all c (Propose t 0 (Commit (body_of x.slots)))

abbrev pub do_retry : Layout → ℕ → Client → ClientAct
do_retry c t x =
    if is_proposed x.phase then client_says x (proposes_again c t x)
    else (if reads_on x.phase then client_says x (asks_again c t x.slots (waiting_keys x.slots)) else client_stays x)

-- a message that no row names is ignored, and so is one of another transaction or one that names a datacentre outside the world
abbrev pub client_row : Layout → ℕ → Client → Msg → ClientAct
client_row c t x (Granted u k d version value) = if (u == t) && is_dc c d then on_granted c t x k (record { dc = d; version = version; value = value }) else client_stays x
client_row c t x (Voted u b d o) = if (u == t) && is_dc c d then on_voted c t x b d o else client_stays x
client_row c t x (Refused u b d reason) = if (u == t) && is_dc c d then on_refused c t x b d reason else client_stays x
client_row c t x (Decided u o) = if u == t then on_decided t x o else client_stays x
client_row c t x _ = client_stays x
