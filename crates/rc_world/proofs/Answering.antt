-- What becomes of a client's command, in a script.
use Rattle.std.proofs.Common.{◌≡◌, ℕ, Bool, true, false, List, [], ◌++◌, Option, None, Some, refl, sym, ap, subst, ◌∙◌, append-nil}
use Rattle.std.specs.Prelude.{if◌then◌else◌, Result, Ok, Err, OnOk, IfErr, IfSome}
use Rattle.rc_ids.specs.Tables.{maybe}
use Rattle.rc_ids.specs.Cluster.{Layout}
use Rattle.rc_msg.specs.Outboxes.{Outbox}
use Rattle.rc_report.specs.declared.line.Line.{Line}
use Rattle.rc_protocol.specs.Client.{Client, ClientAct, ClientRefusal, NotOpen as IsNotOpen, TooManyKeys as AreTooManyKeys, KeyWornOut as IsWornOut, client_refuses, client_stays, is_vanished, is_open, is_out_of_slots}
use Rattle.rc_protocol.specs.Acts.{ClientCause, Reads, Writes, Commits, Cancels, client_act, client_by_row, refusal}
use Rattle.rc_runs.specs.declared.event.Event.{Event}
use Rattle.rc_runs.specs.Refusals.{name_of, wrong_of}
use Rattle.rc_report.specs.declared.fault.Wrong.{Wrong}
use Rattle.rc_client.specs.Acts.{Core, Site, site, Acts, Refuses, IsRefusal}
use Rattle.rc_client.specs.declared.fault.ClientFault.{ClientFault}
use Rattle.rc_client.specs.declared.fault.ClientFault.TheVariants as faults
use Rattle.rc_world.specs.declared.clients.Refused.{Refused}
use Rattle.rc_world.specs.Clients.{IsOfKeys}
use Rattle.rc_world.specs.OneClient.{is_not_open, is_shut, cause_of, told_act, told_name, refused_of, answer_of, Takes, SaysOf, Answers}
use Rattle.rc_world.proofs.Refusing.{rows}

-- NAMES
by_open : (may : Bool) → (if may then None else Some IsNotOpen) ≡ Some IsWornOut → ⊥
by_open true is = cc
by_open false is = cc

by_room : (may full : Bool) → (if may then (if full then Some AreTooManyKeys else None) else Some IsNotOpen) ≡ Some IsWornOut → ⊥
by_room true true is = cc
by_room true false is = cc
by_room false full is = cc

-- what is refused before its row is looked at is no version that is worn out
unworn : (x : Client) (cause : ClientCause) → refusal x cause ≡ Some IsWornOut → ⊥
unworn x (Reads k) = by_room (is_open x.phase) (is_out_of_slots x k)
unworn x (Writes k value) = by_room (is_open x.phase) (is_out_of_slots x k)
unworn x Commits = by_open (is_open x.phase)
unworn x (Cancels k) = by_open (is_open x.phase)
unworn x _ = λ is. (cc)

-- a client that is not gone: the act is refused with what is refused before its row, or by its row for a version that is worn out
record IsRefused (x : Client) (cause : ClientCause) (r : ClientRefusal) : Type 0 where
  before : (r ≡ IsWornOut → ⊥) → refusal x cause ≡ Some r
  worn : r ≡ IsWornOut → refusal x cause ≡ None

refused_so : (c : Layout) (t : ℕ) (x : Client) (cause : ClientCause) (r : ClientRefusal) → (client_act c t x cause).refused ≡ Some r → IsRefused x cause r
refused_so c t x cause r is = by_refusal (refusal x cause) refl
  where
    act_at : (o : Option ClientRefusal) → refusal x cause ≡ o → (maybe o (client_by_row c t x cause) (client_refuses x)).refused ≡ Some r
    act_at o at = sym (ap (λ (p : Option ClientRefusal). (maybe p (client_by_row c t x cause) (client_refuses x)).refused) at) ∙ is

    by_refusal : (o : Option ClientRefusal) → refusal x cause ≡ o → IsRefused x cause r
    by_refusal None at = let worn = (rows c t x cause).worn r (act_at None at) in record { before = λ not. absurd (not worn); worn = λ e. at }
    by_refusal (Some q) at =
        let same : Some q ≡ Some r = act_at (Some q) at in
        record { before = λ not. at ∙ same; worn = λ e. let bad : refusal x cause ≡ Some IsWornOut = cc in absurd (unworn x cause bad) }

taken_so : (c : Layout) (t : ℕ) (x : Client) (cause : ClientCause) → (client_act c t x cause).refused ≡ None → refusal x cause ≡ None
taken_so c t x cause none = by_refusal (refusal x cause) refl
  where
    by_refusal : (o : Option ClientRefusal) → refusal x cause ≡ o → refusal x cause ≡ None
    by_refusal None at = at
    by_refusal (Some q) at =
        let bad : Some q ≡ None = sym (ap (λ (p : Option ClientRefusal). (maybe p (client_by_row c t x cause) (client_refuses x)).refused) at) ∙ none in absurd (cc)

wrong_at : (t : ℕ) (x : Client) (cause : ClientCause) (o : Option ClientRefusal) → is_vanished x.phase ≡ false → refusal x cause ≡ o → wrong_of t x cause ≡ maybe o None (name_of t)
wrong_at t x cause o there at = rw (there, at) refl

-- a client that takes the command can name nothing wrongly but a key too many
wants : (t : ℕ) (x : Client) (cause : ClientCause) → is_vanished x.phase ≡ false → is_not_open (refusal x cause) ≡ false → IfSome (wrong_of t x cause) IsOfKeys
wants t x cause there takes = by_refusal (refusal x cause) refl takes
  where
    by_refusal : (o : Option ClientRefusal) → refusal x cause ≡ o → is_not_open o ≡ false → IfSome (wrong_of t x cause) IsOfKeys
    by_refusal None at no_shut = subst (λ (n : Option Wrong). IfSome n IsOfKeys) (sym (wrong_at t x cause None there at)) tt
    by_refusal (Some IsNotOpen) at no_shut = absurd (cc)
    by_refusal (Some AreTooManyKeys) at no_shut = subst (λ (n : Option Wrong). IfSome n IsOfKeys) (sym (wrong_at t x cause (Some AreTooManyKeys) there at)) tt
    by_refusal (Some IsWornOut) at no_shut = subst (λ (n : Option Wrong). IfSome n IsOfKeys) (sym (wrong_at t x cause (Some IsWornOut) there at)) tt

-- a fault of the client says what is wrong, or that a version is worn out
says : (c : Layout) (t : ℕ) (x : Client) (cause : ClientCause) (fault : ClientFault) → is_vanished x.phase ≡ false → is_not_open (refusal x cause) ≡ false → IsRefusal fault (client_act c t x cause).refused
    → SaysOf (refused_of t fault) (wrong_of t x cause) (client_act c t x cause).refused
says c t x cause faults.NotOpen there takes named = wrong_at t x cause (Some IsNotOpen) there ((refused_so c t x cause IsNotOpen named).before (λ e. (cc)))
says c t x cause faults.TooManyKeys there takes named = wrong_at t x cause (Some AreTooManyKeys) there ((refused_so c t x cause AreTooManyKeys named).before (λ e. (cc)))
says c t x cause faults.KeyWornOut there takes named = (wrong_at t x cause None there ((refused_so c t x cause IsWornOut named).worn refl), named)
says c t x cause faults.NoMemory there takes named = wants t x cause there takes

-- ANSWERS
same_site : (fault : ClientFault) (old new : Site) (act : ClientAct) → Refuses fault old new act → new ≡ old
same_site fault old new act r = ap (λ (core : Core). site core new.out new.lines) r.core ∙ ap (λ (out : Outbox). site old.core out new.lines) r.sends ∙ ap (λ (ls : List Line). site old.core old.out ls) r.lines

pub answered : (c : Layout) (t : ℕ) (cause : ClientCause) (old new : Site) (r : Result (Unit {0}) ClientFault) → is_vanished old.core.client.phase ≡ false → is_not_open (refusal old.core.client cause) ≡ false → new.core.weights ≡ old.core.weights
    → OnOk r (Acts old new (client_act c t old.core.client cause)) → IfErr r (λ fault. Refuses fault old new (client_act c t old.core.client cause))
    → Answers (answer_of t r) old new (client_act c t old.core.client cause) (wrong_of t old.core.client cause)
answered c t cause old new (Ok done) there takes weights acts refuses =
    record { acts = acts; right = wrong_at t old.core.client cause None there (taken_so c t old.core.client cause acts.taken); weights = weights }
answered c t cause old new (Err fault) there takes weights acts refuses =
    record { same = same_site fault old new _ refuses; says = says c t old.core.client cause fault there takes refuses.named }

-- a client that was given no lines prints none
silent : (old new : Core) (out out' : Outbox) (lines : List Line) (act : ClientAct) → Acts (site old out []) (site new out' []) act → Acts (site old out lines) (site new out' lines) act
silent old new out out' lines act acts =
    record { tx = acts.tx; client = acts.client; sends = acts.sends; lines = sym (append-nil lines) ∙ ap (λ (ls : List Line). lines ++ ls) acts.lines; taken = acts.taken }

silent_ok : (old new : Core) (out out' : Outbox) (lines : List Line) (act : ClientAct) (r : Result (Unit {0}) ClientFault)
    → OnOk r (Acts (site old out []) (site new out' []) act) → OnOk r (Acts (site old out lines) (site new out' lines) act)
silent_ok old new out out' lines act (Ok done) acts = silent old new out out' lines act acts
silent_ok old new out out' lines act (Err fault) acts = tt

silent_err : (old new : Core) (out out' : Outbox) (lines : List Line) (act : ClientAct) (r : Result (Unit {0}) ClientFault)
    → IfErr r (λ fault. Refuses fault (site old out []) (site new out' []) act) → IfErr r (λ fault. Refuses fault (site old out lines) (site new out' lines) act)
silent_err old new out out' lines act (Ok done) refuses = tt
silent_err old new out out' lines act (Err fault) refuses = record { core = refuses.core; sends = refuses.sends; lines = refl; named = refuses.named }

-- IN AN EVENT
-- the client's answer to the command of the event
abbrev Answered : Layout → ℕ → Event → Site → Site → Result (Unit {0}) Refused → Type 0
Answered c t e old new q = Answers q old new (told_act c t old.core.client e) (told_name t old.core.client e)

unshut : (x : Client) (e : Event) (cause : ClientCause) → cause_of e ≡ Some cause → is_shut x e ≡ false → is_not_open (refusal x cause) ≡ false
unshut x e cause is takes = sym (ap (λ (o : Option ClientCause). maybe o false (λ (y : ClientCause). is_not_open (refusal x y))) is) ∙ takes

-- the answer that a call gave, with all lines
pub by_call : (c : Layout) (t : ℕ) (e : Event) (cause : ClientCause) (old new : Site) (r : Result (Unit {0}) ClientFault) (q : Result (Unit {0}) Refused)
    → cause_of e ≡ Some cause → old.core.tx ≡ t → is_vanished old.core.client.phase ≡ false → is_shut old.core.client e ≡ false → new.core.weights ≡ old.core.weights
    → OnOk r (Acts old new (client_act c old.core.tx old.core.client cause)) → IfErr r (λ fault. Refuses fault old new (client_act c old.core.tx old.core.client cause))
    → q ≡ answer_of t r → Answered c t e old new q
by_call c t e cause old new r q is tx there takes weights acts refuses answer =
    let act : ℕ → ClientAct = λ (u : ℕ). client_act c u old.core.client cause in
    let done : Answers (answer_of t r) old new (act t) (wrong_of t old.core.client cause) =
    answered c t cause old new r there (unshut old.core.client e cause is takes) weights
    (subst (λ (u : ℕ). OnOk r (Acts old new (client_act c u old.core.client cause))) tx acts)
    (subst (λ (u : ℕ). IfErr r (λ fault. Refuses fault old new (client_act c u old.core.client cause))) tx refuses) in
    let given : Answers q old new (act t) (wrong_of t old.core.client cause) = subst (λ (p : Result (Unit {0}) Refused). Answers p old new (act t) (wrong_of t old.core.client cause)) (sym answer) done in
    subst (λ (o : Option ClientCause). Answers q old new (maybe o (client_stays old.core.client) (client_act c t old.core.client)) (maybe o None (wrong_of t old.core.client))) (sym is) given

-- the same of a call that prints nothing
pub by_silent_call : (c : Layout) (t : ℕ) (e : Event) (cause : ClientCause) (old new : Core) (out out' : Outbox) (lines : List Line) (r : Result (Unit {0}) ClientFault) (q : Result (Unit {0}) Refused)
    → cause_of e ≡ Some cause → old.tx ≡ t → is_vanished old.client.phase ≡ false → is_shut old.client e ≡ false → new.weights ≡ old.weights
    → OnOk r (Acts (site old out []) (site new out' []) (client_act c old.tx old.client cause))
    → IfErr r (λ fault. Refuses fault (site old out []) (site new out' []) (client_act c old.tx old.client cause))
    → q ≡ answer_of t r → Answered c t e (site old out lines) (site new out' lines) q
by_silent_call c t e cause old new out out' lines r q is tx there takes weights acts refuses answer =
    by_call c t e cause (site old out lines) (site new out' lines) r q is tx there takes weights (silent_ok old new out out' lines _ r acts) (silent_err old new out out' lines _ r refuses) answer

-- nothing is told, and nothing was done
pub by_rest : (c : Layout) (t : ℕ) (e : Event) (s : Site) → cause_of e ≡ None → Takes s s (told_act c t s.core.client e) (told_name t s.core.client e)
by_rest c t e s is =
    subst (λ (o : Option ClientCause). Takes s s (maybe o (client_stays s.core.client) (client_act c t s.core.client)) (maybe o None (wrong_of t s.core.client))) (sym is)
    (record {
      acts = record { tx = refl; client = refl; sends = refl; lines = sym (append-nil s.lines); taken = refl };
      right = refl;
      weights = refl;
    })
