-- Rows, where it is known which way they go.
use Rattle.std.proofs.Common.{◌≡◌, ℕ, Bool, true, false, cond, not, List, [], ◌∷◌, ◌++◌, Option, None, Some, nat_cmp, refl, sym, ap, subst, ◌∙◌}
use Rattle.std.specs.Prelude.{◌==◌, ◌&&◌, ◌||◌, if◌then◌else◌}
use Rattle.rc_ids.specs.Cluster.{Layout, is_dc, is_quorum}
use Rattle.rc_ids.specs.Tables.{maybe, added}
use Rattle.rc_body.specs.declared.decision.Decision.{Decision}
use Rattle.rc_body.specs.declared.reason.Reason.{Reason}
use Rattle.rc_msg.specs.declared.msg.Msg.{Msg}
use Rattle.rc_msg.specs.declared.msg.Msg.TheVariants.{Granted, Voted, Refused, Decided}
use Rattle.rc_protocol.specs.Coordinator.{is_decided_by}
use Rattle.rc_protocol.specs.Client.{Client, ClientAct, Phase, Open, Committing, Proposed, Done, Vanished, Slot, Grant, slot_of, slot_set, with_slots, with_read, is_open, is_proposed, reads_on, is_under_way, wants_grant, with_grant, granted_by, grants_of, prints_of, completes, takes_grant, on_granted, client_stays, is_over, client_learns, with_vote, on_voted, on_refused, on_decided, counts_refusal, client_row, drops_read, do_cancel}
use Rattle.rc_read.specs.declared.state.ReadDone.{ReadDone}
use Rattle.rc_read.specs.Reads.{done_by}
use Rattle.rc_read.proofs.GrantFacts.{granted_more as granted_by-more}
use Rattle.rc_client.specs.Acts.{needs_none}
use Rattle.rc_client.specs.Ends.{ends_read}
use Rattle.rc_client.specs.Slots.{granted_more, granted_at, waits_at, wants_at}
use Rattle.rc_client.proofs.SlotFacts.{slot_of-key}

-- PHASES
pub open-unproposed : (p : Phase) → is_open p ≡ true → is_proposed p ≡ false
open-unproposed Open is = refl
open-unproposed Committing is = refl
open-unproposed Proposed is = cc
open-unproposed Done is = refl
open-unproposed Vanished is = refl

pub reading-unproposed : (p : Phase) → reads_on p ≡ true → is_proposed p ≡ false
reading-unproposed Open is = refl
reading-unproposed Committing is = refl
reading-unproposed Proposed is = cc
reading-unproposed Done is = refl
reading-unproposed Vanished is = refl

-- GRANTS
ends-completes : (c : Layout) (t : ℕ) (x : Client) (k : List ℕ) (s : Slot) (grants : List Grant) → slot_of x.slots k ≡ Some s
    → ends_read c t x k (prints_of s.read) (done_by grants) ≡ completes c t x s grants
ends-completes c t x k s grants found =
    let key : s.key ≡ k = slot_of-key x.slots k s found in rw (found, ← key) refl

-- a grant that counts is taken
taken : (c : Layout) (t : ℕ) (x : Client) (k : List ℕ) (s : Slot) (g : Grant) → slot_of x.slots k ≡ Some s → reads_on x.phase ≡ true
    → wants_grant s g.dc ≡ true → on_granted c t x k g ≡ takes_grant c t x s g
taken c t x k s g found on wants =
    ap (λ b. if b then maybe (slot_of x.slots k) (client_stays x) (λ s. if wants_grant s g.dc then takes_grant c t x s g else client_stays x) else client_stays x) on
    ∙ ap (λ (o : Option Slot). maybe o (client_stays x) (λ s. if wants_grant s g.dc then takes_grant c t x s g else client_stays x)) found
    ∙ ap (λ b. if b then takes_grant c t x s g else client_stays x) wants

pub on_granted-keeps : (c : Layout) (t : ℕ) (x : Client) (k : List ℕ) (g : Grant) → wants_at x k g.dc ≡ true
    → is_quorum c (granted_at x.slots k g.dc) ≡ false
    → on_granted c t x k g ≡ client_stays (with_slots x (maybe (slot_of x.slots k) x.slots (λ s. slot_set x.slots (granted_more s g))))
on_granted-keeps c t x k g wants under = by_phase (reads_on x.phase) refl (slot_of x.slots k) refl wants under
  where
    by_phase : (on : Bool) → reads_on x.phase ≡ on → (o : Option Slot) → slot_of x.slots k ≡ o → (on && maybe o false (λ s. wants_grant s g.dc)) ≡ true
        → is_quorum c (maybe o [] (λ s. added nat_cmp (granted_by (grants_of s.read)) g.dc)) ≡ false
        → on_granted c t x k g ≡ client_stays (with_slots x (maybe o x.slots (λ s. slot_set x.slots (granted_more s g))))
    by_phase false on o found wants under = cc
    by_phase true on None found wants under = cc
    by_phase true on (Some s) found wants under =
        let kept : ClientAct = client_stays (with_slots x (slot_set x.slots (granted_more s g))) in
        taken c t x k s g found on wants
        ∙ ap (λ b. if b then completes c t x s (with_grant s g) else kept) (ap (is_quorum c) (granted_by-more (grants_of s.read) g) ∙ under)

pub on_granted-completes : (c : Layout) (t : ℕ) (x : Client) (k : List ℕ) (g : Grant) (done : ReadDone) → wants_at x k g.dc ≡ true
    → is_quorum c (granted_at x.slots k g.dc) ≡ true
    → done ≡ maybe (slot_of x.slots k) (done_by []) (λ s. done_by (with_grant s g))
    → on_granted c t x k g ≡ ends_read c t x k (maybe (slot_of x.slots k) false (λ s. prints_of s.read)) done
on_granted-completes c t x k g done wants holds is = by_phase (reads_on x.phase) refl (slot_of x.slots k) refl wants holds is
  where
    by_phase : (on : Bool) → reads_on x.phase ≡ on → (o : Option Slot) → slot_of x.slots k ≡ o → (on && maybe o false (λ s. wants_grant s g.dc)) ≡ true
        → is_quorum c (maybe o [] (λ s. added nat_cmp (granted_by (grants_of s.read)) g.dc)) ≡ true
        → done ≡ maybe o (done_by []) (λ s. done_by (with_grant s g))
        → on_granted c t x k g ≡ ends_read c t x k (maybe o false (λ s. prints_of s.read)) done
    by_phase false on o found wants holds is = cc
    by_phase true on None found wants holds is = cc
    by_phase true on (Some s) found wants holds is =
        let kept : ClientAct = client_stays (with_slots x (slot_set x.slots (granted_more s g))) in
        taken c t x k s g found on wants
        ∙ ap (λ b. if b then completes c t x s (with_grant s g) else kept) (ap (is_quorum c) (granted_by-more (grants_of s.read) g) ∙ holds)
        ∙ sym (ends-completes c t x k s (with_grant s g) found) ∙ ap (λ (d : ReadDone). ends_read c t x k (prints_of s.read) d) (sym is)

-- a grant that counts is of a read under way
pub wants-waits : (x : Client) (k : List ℕ) (d : ℕ) → wants_at x k d ≡ true → waits_at x.slots k ≡ true
wants-waits x k d wants = by_phase (reads_on x.phase) (slot_of x.slots k) wants
  where
    by_read : (a b : Bool) → (a && b) ≡ true → a ≡ true
    by_read true b is = refl
    by_read false b is = is

    by_phase : (on : Bool) (o : Option Slot) → (on && maybe o false (λ s. wants_grant s d)) ≡ true → maybe o false (λ s. is_under_way s.read) ≡ true
    by_phase false o wants = cc
    by_phase true None wants = wants
    by_phase true (Some s) wants = by_read (is_under_way s.read) _ wants

pub wants-on : (x : Client) (k : List ℕ) (d : ℕ) → wants_at x k d ≡ true → reads_on x.phase ≡ true
wants-on x k d wants = first (reads_on x.phase) _ wants
  where
    first : (a b : Bool) → (a && b) ≡ true → a ≡ true
    first true b is = refl
    first false b is = is

-- CANCELS
pub do_cancel-drops : (c : Layout) (t : ℕ) (x : Client) (k : List ℕ) → waits_at x.slots k ≡ true → do_cancel c t x k ≡ drops_read c t x k
do_cancel-drops c t x k waits = chosen (slot_of x.slots k) waits
  where
    chosen : (o : Option Slot) → maybe o false (λ s. is_under_way s.read) ≡ true
        → maybe o (client_stays x) (λ s. if is_under_way s.read then drops_read c t x k else client_stays x) ≡ drops_read c t x k
    chosen None is = cc
    chosen (Some s) is = ap (λ b. if b then drops_read c t x k else client_stays x) is

pub do_cancel-stays : (c : Layout) (t : ℕ) (x : Client) (k : List ℕ) → waits_at x.slots k ≡ false → do_cancel c t x k ≡ client_stays x
do_cancel-stays c t x k waits = chosen (slot_of x.slots k) waits
  where
    chosen : (o : Option Slot) → maybe o false (λ s. is_under_way s.read) ≡ false
        → maybe o (client_stays x) (λ s. if is_under_way s.read then drops_read c t x k else client_stays x) ≡ client_stays x
    chosen None is = refl
    chosen (Some s) is = ap (λ b. if b then drops_read c t x k else client_stays x) is

-- VOTES
pub on_voted-counts : (c : Layout) (t : ℕ) (x : Client) (b d : ℕ) (o : Decision) → is_over x.phase ≡ false → is_decided_by c x.votes b d o ≡ false
    → on_voted c t x b d o ≡ client_stays (with_vote x b d o)
on_voted-counts c t x b d o on under =
    ap (λ y. if y then client_stays x else (if is_decided_by c x.votes b d o then client_learns t (with_vote x b d o) o else client_stays (with_vote x b d o))) on
    ∙ ap (λ y. if y then client_learns t (with_vote x b d o) o else client_stays (with_vote x b d o)) under

pub on_voted-learns : (c : Layout) (t : ℕ) (x : Client) (b d : ℕ) (o : Decision) → is_over x.phase ≡ false → is_decided_by c x.votes b d o ≡ true
    → on_voted c t x b d o ≡ client_learns t (with_vote x b d o) o
on_voted-learns c t x b d o on decides =
    ap (λ y. if y then client_stays x else (if is_decided_by c x.votes b d o then client_learns t (with_vote x b d o) o else client_stays (with_vote x b d o))) on
    ∙ ap (λ y. if y then client_learns t (with_vote x b d o) o else client_stays (with_vote x b d o)) decides

-- MESSAGES THAT COUNT
both : (a b : Bool) → not (a && b) ≡ false → (a ≡ true) × (b ≡ true)
both true true is = (refl, refl)
both true false is = cc
both false b is = cc

neither : (a b : Bool) → (not a || b) ≡ false → (a ≡ true) × (b ≡ false)
neither true b is = (refl, is)
neither false b is = cc

pub row-granted : (c : Layout) (t u : ℕ) (x : Client) (k : List ℕ) (d version : ℕ) (value : Option (List ℕ))
    → needs_none c t x (Granted u k d version value) ≡ false
    → (client_row c t x (Granted u k d version value) ≡ on_granted c t x k (record { dc = d; version = version; value = value })) × (wants_at x k d ≡ true)
row-granted c t u x k d version value counts =
    let parts = both ((u == t) && is_dc c d) (wants_at x k d) counts in (
      ap (λ y. if y then on_granted c t x k (record { dc = d; version = version; value = value }) else client_stays x) parts.0,
      parts.1,
    )

pub row-voted : (c : Layout) (t u : ℕ) (x : Client) (b d : ℕ) (o : Decision) → needs_none c t x (Voted u b d o) ≡ false
    → (client_row c t x (Voted u b d o) ≡ on_voted c t x b d o) × (is_over x.phase ≡ false)
row-voted c t u x b d o counts =
    let parts = neither ((u == t) && is_dc c d) (is_over x.phase) counts in (
      ap (λ y. if y then on_voted c t x b d o else client_stays x) parts.0,
      parts.1,
    )

pub row-refused : (c : Layout) (t u : ℕ) (x : Client) (b d : ℕ) (reason : Reason) → needs_none c t x (Refused u b d reason) ≡ false
    → (client_row c t x (Refused u b d reason) ≡ on_refused c t x b d reason) × (counts_refusal x b d ≡ true)
row-refused c t u x b d reason counts =
    let parts = both ((u == t) && is_dc c d) (counts_refusal x b d) counts in (
      ap (λ y. if y then on_refused c t x b d reason else client_stays x) parts.0,
      parts.1,
    )

pub row-decided : (c : Layout) (t u : ℕ) (x : Client) (o : Decision) → needs_none c t x (Decided u o) ≡ false
    → client_row c t x (Decided u o) ≡ client_learns t x o
row-decided c t u x o counts =
    let parts = neither (u == t) (is_over x.phase) counts in
    ap (λ y. if y then on_decided t x o else client_stays x) parts.0 ∙ ap (λ y. if y then client_stays x else client_learns t x o) parts.1

-- the same of a message that is known to be one
pub voted-at : {u : ℕ} (c : Layout) (t : ℕ) (x : Client) (m : Msg) (b d : ℕ) (o : Decision) → m ≡ Voted u b d o → needs_none c t x m ≡ false
    → client_row c t x m ≡ on_voted c t x b d o
voted-at {u} c t x m b d o is counts =
    ap (client_row c t x) is ∙ (row-voted c t u x b d o (sym (ap (needs_none c t x) is) ∙ counts)).0

pub decided-at : {u : ℕ} (c : Layout) (t : ℕ) (x : Client) (m : Msg) (o : Decision) → m ≡ Decided u o → needs_none c t x m ≡ false
    → client_row c t x m ≡ client_learns t x o
decided-at {u} c t x m o is counts = ap (client_row c t x) is ∙ row-decided c t u x o (sym (ap (needs_none c t x) is) ∙ counts)

-- MESSAGES THAT ARE IGNORED
unless_both : (a b : Bool) (act stays : ClientAct) → not (a && b) ≡ true → (b ≡ false → act ≡ stays) → (if a then act else stays) ≡ stays
unless_both true true act stays is none = cc
unless_both true false act stays is none = none refl
unless_both false b act stays is none = refl

unless_either : (a b : Bool) (act stays : ClientAct) → (not a || b) ≡ true → (b ≡ true → act ≡ stays) → (if a then act else stays) ≡ stays
unless_either true b act stays is none = none is
unless_either false b act stays is none = refl

unwanted : (c : Layout) (t : ℕ) (x : Client) (k : List ℕ) (g : Grant) → wants_at x k g.dc ≡ false → on_granted c t x k g ≡ client_stays x
unwanted c t x k g none = by_phase (reads_on x.phase) (slot_of x.slots k) none
  where
    by_phase : (on : Bool) (o : Option Slot) → (on && maybe o false (λ s. wants_grant s g.dc)) ≡ false
        → (if on then maybe o (client_stays x) (λ s. if wants_grant s g.dc then takes_grant c t x s g else client_stays x) else client_stays x) ≡ client_stays x
    by_phase false o none = refl
    by_phase true None none = refl
    by_phase true (Some s) none = ap (λ b. if b then takes_grant c t x s g else client_stays x) none

unrefused : (c : Layout) (t : ℕ) (x : Client) (b d : ℕ) (reason : Reason) → counts_refusal x b d ≡ false
    → on_refused c t x b d reason ≡ client_stays x
unrefused c t x b d reason none = rw none refl

pub row-ignored : (c : Layout) (t : ℕ) (x : Client) (m : Msg) → needs_none c t x m ≡ true → client_row c t x m ≡ client_stays x
row-ignored c t x (Granted u k d version value) is =
    unless_both ((u == t) && is_dc c d) (wants_at x k d) (on_granted c t x k (record { dc = d; version = version; value = value })) (client_stays x) is
    (unwanted c t x k (record { dc = d; version = version; value = value }))
row-ignored c t x (Voted u b d o) is =
    unless_either ((u == t) && is_dc c d) (is_over x.phase) (on_voted c t x b d o) (client_stays x) is
    (λ over. ap (λ y. if y then client_stays x else (if is_decided_by c x.votes b d o then client_learns t (with_vote x b d o) o else client_stays (with_vote x b d o))) over)
row-ignored c t x (Refused u b d reason) is =
    unless_both ((u == t) && is_dc c d) (counts_refusal x b d) (on_refused c t x b d reason) (client_stays x) is
    (λ none. unrefused c t x b d reason none)
row-ignored c t x (Decided u o) is =
    unless_either (u == t) (is_over x.phase) (on_decided t x o) (client_stays x) is
    (λ over. ap (λ y. if y then client_stays x else client_learns t x o) over)
row-ignored c t x _ is = refl
