-- Why a client refuses: a row alone refuses for a version that is worn out, and nothing else does.
use Rattle.std.proofs.Common.{◌≡◌, ℕ, Bool, true, false, not, ◌&&◌, ◌==◌, List, Option, None, Some, refl}
use Rattle.std.specs.Prelude.{if◌then◌else◌}
use Rattle.rc_ids.specs.Tables.{maybe}
use Rattle.rc_ids.specs.Cluster.{Layout, is_dc, is_quorum}
use Rattle.rc_msg.specs.declared.msg.Msg.{Msg}
use Rattle.rc_msg.specs.declared.msg.Msg.TheVariants.{Granted, Voted, Refused, Decided}
use Rattle.rc_report.specs.declared.line.Line.{Line}
use Rattle.rc_protocol.specs.Messages.{Posts}
use Rattle.rc_protocol.specs.Coordinator.{is_decided_by}
use Rattle.rc_protocol.specs.Client.{Client, ClientAct, ClientRefusal, KeyWornOut, KeyRead, NotRead, UnderWay, Complete, Slot, Grant, client_refuses, unless_refused, after_read, is_worn, is_committing, proposes, do_read, do_commit, do_cancel, do_retry, reads_again, slot_of, slot_set, with_slots, reads_begun, waits_for_read, is_under_way, proposes_once_read, completes, completed, cancels, read_line, with_grant, granted_by, wants_grant, reads_on, on_granted, is_over, counts_refusal, client_row, is_proposed}
use Rattle.rc_protocol.specs.Acts.{ClientCause, Hears, Reads, Writes, Commits, Cancels, Retries, Vanishes, client_by_row}

-- the act is refused for a version that is worn out, or not at all
pub record OnlyWorn (act : ClientAct) : Type 0 where
  pub worn : (r : ClientRefusal) → act.refused ≡ Some r → r ≡ KeyWornOut

never : (act : ClientAct) → act.refused ≡ None → OnlyWorn act
never act none = record { worn = λ r is. absurd (cc) }

by_if : (b : Bool) (a d : ClientAct) → OnlyWorn a → OnlyWorn d → OnlyWorn (if b then a else d)
by_if true a d first second = first
by_if false a d first second = second

by_maybe : {A : Type 0} (o : Option A) (other : ClientAct) (make : A → ClientAct) → OnlyWorn other → ((x : A) → OnlyWorn (make x)) → OnlyWorn (maybe o other make)
by_maybe None other make first second = first
by_maybe (Some x) other make first second = second x

by_unless : (x : Client) (act : ClientAct) → OnlyWorn act → OnlyWorn (unless_refused x act)
by_unless x act only = by_refusal act.refused only.worn
  where
    by_refusal : (o : Option ClientRefusal) → ((r : ClientRefusal) → o ≡ Some r → r ≡ KeyWornOut) → OnlyWorn (maybe o act (client_refuses x))
    by_refusal None worn = only
    by_refusal (Some q) worn = record { worn = worn }

by_after : (ms : Posts) (ls : List Line) (act : ClientAct) → OnlyWorn act → OnlyWorn (after_read ms ls act)
by_after ms ls act only = record { worn = only.worn }

-- ROWS
proposing : (c : Layout) (t : ℕ) (x : Client) → OnlyWorn (proposes c t x)
proposing c t x = by_if (is_worn x.slots) _ _ (record { worn = λ r is. (cc) }) (never _ refl)

again : (t : ℕ) (x : Client) (k : List ℕ) (read : KeyRead) → OnlyWorn (reads_again t x k read)
again t x k (Complete version value) = never _ refl
again t x k NotRead = never _ refl
again t x k (UnderWay prints grants) = never _ refl

reading : (c : Layout) (t : ℕ) (x : Client) (k : List ℕ) → OnlyWorn (do_read c t x k)
reading c t x k = by_maybe (slot_of x.slots k) _ _ (never _ refl) (λ s. by_maybe s.write _ _ (again t x k s.read) (λ value. never _ refl))

committing : (c : Layout) (t : ℕ) (x : Client) → OnlyWorn (do_commit c t x)
committing c t x = by_if (waits_for_read (reads_begun x.slots)) _ _ (never _ refl) (proposing c t x)

cancelling : (c : Layout) (t : ℕ) (x : Client) (k : List ℕ) → OnlyWorn (do_cancel c t x k)
cancelling c t x k = by_maybe (slot_of x.slots k) _ _ (never _ refl) (λ s. by_if (is_under_way s.read) _ _ (never _ refl) (never _ refl))

retrying : (c : Layout) (t : ℕ) (x : Client) → OnlyWorn (do_retry c t x)
retrying c t x = by_if (is_proposed x.phase) _ _ (never _ refl) (by_if (reads_on x.phase) _ _ (never _ refl) (never _ refl))

proposing_once_read : (c : Layout) (t : ℕ) (x : Client) → OnlyWorn (proposes_once_read c t x)
proposing_once_read c t x = by_if (is_committing x.phase && not (waits_for_read x.slots)) _ _ (proposing c t x) (never _ refl)

completing : (c : Layout) (t : ℕ) (x : Client) (s : Slot) (grants : List Grant) → OnlyWorn (completes c t x s grants)
completing c t x s grants =
    let after : Client = with_slots x (slot_set x.slots (completed s grants)) in
    by_unless x _ (by_after (cancels c t s.key grants) (read_line t s grants) _ (proposing_once_read c t after))

granting : (c : Layout) (t : ℕ) (x : Client) (k : List ℕ) (g : Grant) → OnlyWorn (on_granted c t x k g)
granting c t x k g =
    by_if (reads_on x.phase) _ _
    (by_maybe (slot_of x.slots k) _ _ (never _ refl)
    (λ s. by_if (wants_grant s g.dc) _ _ (by_if (is_quorum c (granted_by (with_grant s g))) _ _ (completing c t x s (with_grant s g)) (never _ refl)) (never _ refl)))
    (never _ refl)

hearing : (c : Layout) (t : ℕ) (x : Client) (m : Msg) → OnlyWorn (client_row c t x m)
hearing c t x (Granted u k d version value) = by_if ((u == t) && is_dc c d) _ _ (granting c t x k _) (never _ refl)
hearing c t x (Voted u b d o) =
    by_if ((u == t) && is_dc c d) _ _ (by_if (is_over x.phase) _ _ (never _ refl) (by_if (is_decided_by c x.votes b d o) _ _ (never _ refl) (never _ refl))) (never _ refl)
hearing c t x (Refused u b d reason) = by_if ((u == t) && is_dc c d) _ _ (by_if (counts_refusal x b d) _ _ (never _ refl) (never _ refl)) (never _ refl)
hearing c t x (Decided u o) = by_if (u == t) _ _ (by_if (is_over x.phase) _ _ (never _ refl) (never _ refl)) (never _ refl)
hearing c t x _ = never _ refl

pub rows : (c : Layout) (t : ℕ) (x : Client) (cause : ClientCause) → OnlyWorn (client_by_row c t x cause)
rows c t x (Hears m) = hearing c t x m
rows c t x (Reads k) = reading c t x k
rows c t x (Writes k value) = never _ refl
rows c t x Commits = committing c t x
rows c t x (Cancels k) = cancelling c t x k
rows c t x Retries = retrying c t x
rows c t x Vanishes = never _ refl
