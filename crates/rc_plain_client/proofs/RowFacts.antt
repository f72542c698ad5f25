-- Rows, where it is known which way they go.
use Rattle.std.proofs.Common.{◌≡◌, ℕ, Bool, true, false, cond, List, [], ◌++◌, None, Some, refl, sym, ap, subst, ◌∙◌, append-nil}
use Rattle.std.specs.Prelude.{◌==◌, ◌&&◌, if◌then◌else◌}
use Rattle.rc_ids.specs.Cluster.{Layout, is_dc, is_quorum}
use Rattle.rc_body.specs.declared.decision.Decision.{Decision}
use Rattle.rc_msg.specs.declared.msg.Msg.TheVariants.{Voted}
use Rattle.rc_report.specs.declared.line.Line.{Line}
use Rattle.rc_protocol.specs.Messages.{Posts}
use Rattle.rc_protocol.specs.Coordinator.{is_decided_by}
use Rattle.rc_protocol.specs.Client.{Client, ClientAct, Slot, Grant, slot_of, reads_on, wants_grant, with_grant, granted_by, prints_of, completes, takes_grant, on_granted, is_over, client_stays, client_learns, with_vote, on_voted, client_row}
use Rattle.rc_plain_client.specs.Acts.{completes_at, Does}
use Rattle.rc_plain_client.proofs.SlotFacts.{slot_of-key}

completes-at : (c : Layout) (t : ℕ) (x : Client) (k : List ℕ) (s : Slot) (grants : List Grant) → slot_of x.slots k ≡ Some s
    → completes_at c t x k (prints_of s.read) grants ≡ completes c t x s grants
completes-at c t x k s grants found =
    let key : s.key ≡ k = slot_of-key x.slots k s found in rw (found, ← key) refl

-- the last grant of a quorum completes the read
pub on_granted-completes : (c : Layout) (t : ℕ) (x : Client) (k : List ℕ) (s : Slot) (g : Grant) (grants : List Grant) (prints : Bool)
    → reads_on x.phase ≡ true → slot_of x.slots k ≡ Some s → wants_grant s g.dc ≡ true → grants ≡ with_grant s g
    → is_quorum c (granted_by grants) ≡ true → prints ≡ prints_of s.read
    → completes_at c t x k prints grants ≡ on_granted c t x k g
on_granted-completes c t x k s g grants prints on found wants is holds says =
    let quorum : is_quorum c (granted_by (with_grant s g)) ≡ true = ap (λ gs. is_quorum c (granted_by gs)) (sym is) ∙ holds in
    let taken : takes_grant c t x s g ≡ completes c t x s (with_grant s g) = rw quorum refl in
    let row : on_granted c t x k g ≡ takes_grant c t x s g = rw (on, found, wants) refl in
    ap (λ p. completes_at c t x k p grants) says ∙ completes-at c t x k s grants found ∙ ap (λ gs. completes c t x s gs) is ∙ sym taken ∙ sym row

-- what a client does at a vote, whether it is done already, and whether the vote decides
abbrev voted : ℕ → Client → Client → Decision → Bool → Bool → ClientAct
voted t x y o over decides = cond over (client_stays x) (cond decides (client_learns t y o) (client_stays y))

voted-rest : (t : ℕ) (x y : Client) (o : Decision) (over decides : Bool)
    → ((voted t x y o over decides).sends ≡ []) × ((voted t x y o over decides).refused ≡ None)
voted-rest t x y o true decides = (refl, refl)
voted-rest t x y o false true = (refl, refl)
voted-rest t x y o false false = (refl, refl)

-- a vote sends nothing, and refuses nothing
on_voted-rest : (c : Layout) (t : ℕ) (x : Client) (b d : ℕ) (o : Decision) → ((on_voted c t x b d o).sends ≡ []) × ((on_voted c t x b d o).refused ≡ None)
on_voted-rest c t x b d o = voted-rest t x (with_vote x b d o) o (is_over x.phase) (is_decided_by c x.votes b d o)

on_voted-does : (c : Layout) (t : ℕ) (x after : Client) (b d : ℕ) (o : Decision) (out : Posts) (printed lines : List Line)
    → after ≡ (on_voted c t x b d o).after → lines ≡ printed ++ (on_voted c t x b d o).lines
    → Does (on_voted c t x b d o) after out out printed lines
on_voted-does c t x after b d o out printed lines state says =
    let rest = on_voted-rest c t x b d o in
    record { state = state; sends = sym (append-nil out) ∙ ap (λ ms. out ++ ms) (sym rest.0); lines = says; taken = rest.1 }

-- a vote on the transaction, of a datacentre of the world
pub voted-row : (c : Layout) (t u : ℕ) (x after : Client) (b d : ℕ) (o : Decision) (out : Posts) (printed lines : List Line)
    → ((u == t) && is_dc c d) ≡ true → after ≡ (on_voted c t x b d o).after → lines ≡ printed ++ (on_voted c t x b d o).lines
    → Does (client_row c t x (Voted u b d o)) after out out printed lines
voted-row c t u x after b d o out printed lines inside state says =
    let row : client_row c t x (Voted u b d o) ≡ on_voted c t x b d o = ap (λ y. if y then on_voted c t x b d o else client_stays x) inside in
    subst (λ (act : ClientAct). Does act after out out printed lines) (sym row) (on_voted-does c t x after b d o out printed lines state says)
