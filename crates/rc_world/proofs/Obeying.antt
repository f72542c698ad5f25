-- What a client did, as the deed of the world.
use Rattle.std.proofs.Common.{◌≡◌, ℕ, Bool, true, false, List, Option, None, Some, is_some, refl, sym, ap, subst, ◌∙◌, append-nil}
use Rattle.std.specs.Prelude.{Result, Ok, Err, OnOk, IfErr, IfSome, if◌then◌else◌, ◌||◌}
use Rattle.std.specs.Option.{option_map}
use Rattle.std.specs.Ordering.{nat_cmp}
use Rattle.rc_ids.specs.Tables.{Table, found, member, maybe}
use Rattle.rc_ids.specs.Cluster.{Layout}
use Rattle.rc_msg.specs.Outboxes.{Outbox}
use Rattle.rc_msg.specs.declared.msg.Envelope.{Envelope}
use Rattle.rc_report.specs.declared.line.Line.{Line}
use Rattle.rc_report.specs.declared.fault.Wrong.{Wrong}
use Rattle.rc_report.specs.declared.fault.Wrong.TheVariants.{NotBegun, Vanished}
use Rattle.rc_report.specs.declared.fault.Which.TheVariants.{Version}
use Rattle.rc_protocol.specs.Client.{Client, ClientAct, ClientRefusal, KeyWornOut, client_stays}
use Rattle.rc_protocol.specs.Acts.{ClientCause, client_act}
use Rattle.rc_runs.specs.declared.event.Event.{Event}
use Rattle.rc_runs.specs.declared.event.Event.TheVariants.{Read, Write, Commit, Cancel, Retry, Vanish}
use Rattle.rc_runs.specs.World.{World, Parties, Deed, Idle, ByClient, client_does, deed, replaced}
use Rattle.rc_runs.specs.Refusals.{wrong, named_wrongly, wrong_of, worn_out, limit_of, is_begun}
use Rattle.rc_client.specs.Acts.{Core}
use Rattle.rc_world.specs.declared.clients.Refused.{Refused}
use Rattle.rc_world.specs.declared.clients.Refused.TheVariants.{NoMemory, Naming, VersionSpent}
use Rattle.rc_world.specs.Clients.{IsOfKeys, Roster, roster, IsRoster, command, told, told_wrongly, Scene, scene, Did, Says}
use Rattle.rc_world.specs.OneClient.{told_act, told_name, SaysOf, Served}
use Rattle.rc_world.proofs.Tabling.{found_state}

-- what a client is told is its deed in the event
pub told_is_deed : (p : Parties) (sent : List Envelope) (e : Event) → is_some (command e) ≡ true → told p e ≡ deed p sent e
told_is_deed p sent (Read t k) is = refl
told_is_deed p sent (Write t k value) is = refl
told_is_deed p sent (Commit t) is = refl
told_is_deed p sent (Cancel t k) is = refl
told_is_deed p sent (Retry t) is = refl
told_is_deed p sent (Vanish t) is = refl
told_is_deed p sent _ is = absurd (cc)

-- and what is wrong with it is wrong in the event
pub told_wrongly_is : (w : World) (e : Event) → is_some (command e) ≡ true → wrong w e ≡ told_wrongly w.parties e
told_wrongly_is w (Read t k) is = refl
told_wrongly_is w (Write t k value) is = refl
told_wrongly_is w (Commit t) is = refl
told_wrongly_is w (Cancel t k) is = refl
told_wrongly_is w (Retry t) is = refl
told_wrongly_is w (Vanish t) is = refl
told_wrongly_is w _ is = absurd (cc)

-- the world changed, but not in its clients
pub roster_along : (r : Roster) (p o : Parties) → IsRoster r p → o.start.named ≡ p.start.named → o.clients ≡ p.clients → IsRoster r o
roster_along r p o is named clients = record { named = named ∙ is.named; clients = clients ∙ is.clients }

-- DEEDS
-- the deed of a client that is there
does_at : (c : Layout) (p : Parties) (r : Roster) (t : ℕ) (cause : ClientCause) (x : Core) → p.layout ≡ c → IsRoster r p → found nat_cmp r.cores t ≡ Some x
    → client_does p t cause ≡ ByClient t (client_act c t x.client cause)
does_at c p r t cause x layout is at =
    let there : found nat_cmp p.clients t ≡ Some x.client =
    ap (λ (es : Table ℕ Client). found nat_cmp es t) is.clients ∙ found_state r.cores t ∙ ap (option_map (λ (y : Core). y.client)) at in
    ap (λ (o : Option Client). maybe o Idle (λ (y : Client). ByClient t (client_act p.layout t y cause))) there ∙ ap (λ (l : Layout). ByClient t (client_act l t x.client cause)) layout

-- and of one that is not
idle_at : (p : Parties) (r : Roster) (t : ℕ) (cause : ClientCause) → IsRoster r p → found nat_cmp r.cores t ≡ None → client_does p t cause ≡ Idle
idle_at p r t cause is at =
    let there : found nat_cmp p.clients t ≡ None =
    ap (λ (es : Table ℕ Client). found nat_cmp es t) is.clients ∙ found_state r.cores t ∙ ap (option_map (λ (y : Core). y.client)) at in
    ap (λ (o : Option Client). maybe o Idle (λ (y : Client). ByClient t (client_act p.layout t y cause))) there

-- nothing was done
pub did_nothing : (p : Parties) (r : Roster) (out : Outbox) (lines : List Line) → IsRoster r p → Did (scene r out lines) (scene r out lines) p Idle
did_nothing p r out lines is = record { roster = is; sends = refl; lines = sym (append-nil lines); whole = refl }

did_act : (p : Parties) (r : Roster) (cores : Table ℕ Core) (out out' : Outbox) (lines lines' : List Line) (t : ℕ) (act : ClientAct) → IsRoster r p
    → Served r.cores cores out out' lines lines' t act → Did (scene r out lines) (scene (roster r.named cores) out' lines') p (ByClient t act)
did_act p r cores out out' lines lines' t act is served = record {
  roster = record { named = is.named; clients = ap (λ (es : Table ℕ Client). replaced es t act.after) is.clients ∙ sym served.clients };
  sends = served.sends;
  lines = served.prints;
  whole = ap (λ (o : Option ClientRefusal). maybe o None limit_of) served.taken;
}

-- the client of t did the deed, where it is there
pub did_cause : {E : Type 0} (c : Layout) (p : Parties) (r : Roster) (cores : Table ℕ Core) (out out' : Outbox) (lines lines' : List Line) (t : ℕ) (cause : ClientCause) (x : Core) (q : Result (Unit {0}) E)
    → p.layout ≡ c → IsRoster r p → found nat_cmp r.cores t ≡ Some x → OnOk q (Served r.cores cores out out' lines lines' t (client_act c t x.client cause))
    → OnOk q (Did (scene r out lines) (scene (roster r.named cores) out' lines') p (client_does p t cause))
did_cause c p r cores out out' lines lines' t cause x (Err fault) layout is at served = tt
did_cause c p r cores out out' lines lines' t cause x (Ok done) layout is at served =
    subst (Did (scene r out lines) (scene (roster r.named cores) out' lines') p) (sym (does_at c p r t cause x layout is at))
    (did_act p r cores out out' lines lines' t (client_act c t x.client cause) is served)

worn_at : (act : ClientAct) (t : ℕ) → act.refused ≡ Some KeyWornOut → worn_out (ByClient t act) ≡ Some Version
worn_at act t is = ap (λ (o : Option ClientRefusal). maybe o None limit_of) is

-- a refusal says of the deed what it says of the client's act
pub says_cause : (c : Layout) (p : Parties) (r : Roster) (t : ℕ) (cause : ClientCause) (x : Core) (name given : Option Wrong) (q : Result (Unit {0}) Refused)
    → p.layout ≡ c → IsRoster r p → found nat_cmp r.cores t ≡ Some x → name ≡ given
    → IfErr q (λ f. SaysOf f given (client_act c t x.client cause).refused) → IfErr q (λ f. Says f name (client_does p t cause))
says_cause c p r t cause x name given (Ok done) layout is at same says = tt
says_cause c p r t cause x name given (Err f) layout is at same says = subst (Says f name) (sym (does_at c p r t cause x layout is at)) (by_fault f says)
  where
    by_fault : (g : Refused) → SaysOf g given (client_act c t x.client cause).refused → Says g name (ByClient t (client_act c t x.client cause))
    by_fault NoMemory says' = subst (λ (n : Option Wrong). IfSome n IsOfKeys) (sym same) says'
    by_fault (Naming wrongly) says' = same ∙ says'
    by_fault VersionSpent says' = (same ∙ says'.0, worn_at (client_act c t x.client cause) t says'.1)

-- COMMANDS
-- the client of t is told something
pub record IsCommand (e : Event) (t : ℕ) : Type 0 where
  pub cause : ClientCause
  pub is : command e ≡ Some (t, cause)

pub commanded : (e : Event) (t : ℕ) → Some t ≡ option_map (λ (x : ℕ × ClientCause). x.0) (command e) → IsCommand e t
commanded e t at = by_option (command e) refl
  where
    by_option : (o : Option (ℕ × ClientCause)) → command e ≡ o → IsCommand e t
    by_option None is = let bad : Some t ≡ None = at ∙ ap (option_map (λ (x : ℕ × ClientCause). x.0)) is in absurd (cc)
    by_option (Some x) is =
        let one : Some t ≡ Some x.0 = at ∙ ap (option_map (λ (y : ℕ × ClientCause). y.0)) is in
        let same : t ≡ x.0 = cc in
        record { cause = x.1; is = is ∙ ap (λ (u : ℕ). let y : ℕ × ClientCause = (u, x.1) in Some y) (sym same) }

-- nobody is told anything
pub uncommanded : (e : Event) → None ≡ option_map (λ (x : ℕ × ClientCause). x.0) (command e) → command e ≡ None
uncommanded e at = by_option (command e) refl
  where
    by_option : (o : Option (ℕ × ClientCause)) → command e ≡ o → command e ≡ None
    by_option None is = is
    by_option (Some x) is = let bad : None ≡ Some x.0 = at ∙ ap (option_map (λ (y : ℕ × ClientCause). y.0)) is in absurd (cc)

-- A MESSAGE
pub heard_did : (c : Layout) (p : Parties) (r : Roster) (named : List ℕ) (cores cores' : Table ℕ Core) (out out' : Outbox) (lines lines' : List Line) (t : ℕ) (cause : ClientCause) (q : Result (Unit {0}) Refused)
    → r ≡ roster named cores → p.layout ≡ c → IsRoster r p
    → (found nat_cmp cores t ≡ None → (q ≡ Ok tt) × (cores' ≡ cores) × (out' ≡ out) × (lines' ≡ lines))
    → ((x : Core) → found nat_cmp cores t ≡ Some x → OnOk q (Served cores cores' out out' lines lines' t (client_act c t x.client cause)))
    → OnOk q (Did (scene r out lines) (scene (roster named cores') out' lines') p (client_does p t cause))
heard_did c p r named cores cores' out out' lines lines' t cause q view layout is absent served =
    subst (λ (s : Roster). OnOk q (Did (scene s out lines) (scene (roster named cores') out' lines') p (client_does p t cause))) (sym view) (by_found (found nat_cmp cores t) refl)
  where
    roll : IsRoster (roster named cores) p
    roll = subst (λ (s : Roster). IsRoster s p) view is

    same_scene : cores' ≡ cores → out' ≡ out → lines' ≡ lines → scene (roster named cores') out' lines' ≡ scene (roster named cores) out lines
    same_scene cs os ls = ap (λ (es : Table ℕ Core). scene (roster named es) out' lines') cs ∙ ap (λ (o : Outbox). scene (roster named cores) o lines') os ∙ ap (λ (l : List Line). scene (roster named cores) out l) ls

    idles : found nat_cmp cores t ≡ None → cores' ≡ cores → out' ≡ out → lines' ≡ lines
        → Did (scene (roster named cores) out lines) (scene (roster named cores') out' lines') p (client_does p t cause)
    idles at cs os ls =
        subst (λ (s : Scene). Did (scene (roster named cores) out lines) s p (client_does p t cause)) (sym (same_scene cs os ls))
        (subst (Did (scene (roster named cores) out lines) (scene (roster named cores) out lines) p) (sym (idle_at p (roster named cores) t cause roll at)) (did_nothing p (roster named cores) out lines roll))

    on_ok : (s : Result (Unit {0}) Refused) (A : Type 0) → A → OnOk s A
    on_ok (Ok done) A a = a
    on_ok (Err f) A a = tt

    by_found : (o : Option Core) → found nat_cmp cores t ≡ o → OnOk q (Did (scene (roster named cores) out lines) (scene (roster named cores') out' lines') p (client_does p t cause))
    by_found None at = let a = absent at in on_ok q _ (idles at a.1 a.2 a.3)
    by_found (Some x) at = did_cause c p (roster named cores) cores' out out' lines lines' t cause x q layout roll at (served x at)

pub heard_refused : (c : Layout) (p : Parties) (r : Roster) (named : List ℕ) (cores : Table ℕ Core) (t : ℕ) (cause : ClientCause) (q : Result (Unit {0}) Refused)
    → r ≡ roster named cores → p.layout ≡ c → IsRoster r p → (found nat_cmp cores t ≡ None → q ≡ Ok tt)
    → ((x : Core) → found nat_cmp cores t ≡ Some x → IfErr q (λ f. SaysOf f None (client_act c t x.client cause).refused))
    → IfErr q (λ f. Says f None (client_does p t cause))
heard_refused c p r named cores t cause q view layout is absent says = by_found (found nat_cmp cores t) refl
  where
    by_found : (o : Option Core) → found nat_cmp cores t ≡ o → IfErr q (λ f. Says f None (client_does p t cause))
    by_found None at = subst (λ (s : Result (Unit {0}) Refused). IfErr s (λ f. Says f None (client_does p t cause))) (sym (absent at)) tt
    by_found (Some x) at =
        says_cause c p (roster named cores) t cause x None None q layout (subst (λ (s : Roster). IsRoster s p) view is) at refl (says x at)

-- WHAT WAS BEGUN
pub begun_is : (p : Parties) (r : Roster) (named : List ℕ) (cores : Table ℕ Core) (t : ℕ) (b : Bool) → r ≡ roster named cores → IsRoster r p
    → false ≡ member nat_cmp named t → b ≡ is_some (found nat_cmp cores t) → b ≡ is_begun p t
begun_is p r named cores t b view is absent is_there =
    let roll : IsRoster (roster named cores) p = subst (λ (s : Roster). IsRoster s p) view is in
    let unnamed : member nat_cmp p.start.named t ≡ false = ap (λ (ns : List ℕ). member nat_cmp ns t) roll.named ∙ sym absent in
    let there : found nat_cmp p.clients t ≡ option_map (λ (y : Core). y.client) (found nat_cmp cores t) =
    ap (λ (es : Table ℕ Client). found nat_cmp es t) roll.clients ∙ found_state cores t in
    is_there ∙ sym (same (found nat_cmp cores t)) ∙ sym (ap (λ (o : Option Client). is_some o) there) ∙ sym (ap (λ (n : Bool). n || is_some (found nat_cmp p.clients t)) unnamed)
  where
    same : (o : Option Core) → is_some (option_map (λ (y : Core). y.client) o) ≡ is_some o
    same None = refl
    same (Some x) = refl

-- A COMMAND
told_at : (p : Parties) (e : Event) (t : ℕ) (k : IsCommand e t) → told p e ≡ client_does p t k.cause
told_at p e t k = ap (λ (o : Option (ℕ × ClientCause)). maybe o Idle (λ (x : ℕ × ClientCause). client_does p x.0 x.1)) k.is

act_at : (c : Layout) (t : ℕ) (x : Client) (e : Event) (k : IsCommand e t) → told_act c t x e ≡ client_act c t x k.cause
act_at c t x e k =
    ap (λ (o : Option (ℕ × ClientCause)). let cause : Option ClientCause = maybe o None (λ (y : ℕ × ClientCause). Some y.1) in maybe cause (client_stays x) (client_act c t x)) k.is

name_at : (t : ℕ) (x : Client) (e : Event) (k : IsCommand e t) → told_name t x e ≡ wrong_of t x k.cause
name_at t x e k = ap (λ (o : Option (ℕ × ClientCause)). let cause : Option ClientCause = maybe o None (λ (y : ℕ × ClientCause). Some y.1) in maybe cause None (wrong_of t x)) k.is

wrong_at : (w : World) (e : Event) (t : ℕ) (k : IsCommand e t) → wrong w e ≡ named_wrongly w.parties t k.cause
wrong_at w e t k =
    told_wrongly_is w e (ap (λ (o : Option (ℕ × ClientCause)). is_some o) k.is)
    ∙ ap (λ (o : Option (ℕ × ClientCause)). maybe o None (λ (x : ℕ × ClientCause). named_wrongly w.parties x.0 x.1)) k.is

-- a transaction that the logs name has vanished
pub gone_named : (w : World) (r : Roster) (named : List ℕ) (cores : Table ℕ Core) (e : Event) (t : ℕ) → r ≡ roster named cores → IsRoster r w.parties
    → Some t ≡ option_map (λ (x : ℕ × ClientCause). x.0) (command e) → true ≡ member nat_cmp named t → wrong w e ≡ Some (Vanished t)
gone_named w r named cores e t view is told_so is_named =
    let k = commanded e t told_so in
    let roll : IsRoster (roster named cores) w.parties = subst (λ (s : Roster). IsRoster s w.parties) view is in
    let there : member nat_cmp w.parties.start.named t ≡ true = ap (λ (ns : List ℕ). member nat_cmp ns t) roll.named ∙ sym is_named in
    wrong_at w e t k
    ∙ ap (λ (b : Bool). let rest : Option Wrong = maybe (found nat_cmp w.parties.clients t) (Some (NotBegun t)) (λ y. wrong_of t y k.cause) in if b then Some (Vanished t) else rest) there

-- another one is named rightly where its client is there and takes the command
at_client : (p : Parties) (named : List ℕ) (cores : Table ℕ Core) (t : ℕ) (cause : ClientCause) (o : Option Core) → IsRoster (roster named cores) p
    → false ≡ member nat_cmp named t → found nat_cmp cores t ≡ o → named_wrongly p t cause ≡ maybe o (Some (NotBegun t)) (λ x. wrong_of t x.client cause)
at_client p named cores t cause o roll unnamed at =
    let absent : member nat_cmp p.start.named t ≡ false = ap (λ (ns : List ℕ). member nat_cmp ns t) roll.named ∙ sym unnamed in
    let there : found nat_cmp p.clients t ≡ option_map (λ (y : Core). y.client) o =
    ap (λ (es : Table ℕ Client). found nat_cmp es t) roll.clients ∙ found_state cores t ∙ ap (option_map (λ (y : Core). y.client)) at in
    ap (λ (b : Bool). let rest : Option Wrong = maybe (found nat_cmp p.clients t) (Some (NotBegun t)) (λ y. wrong_of t y cause) in if b then Some (Vanished t) else rest) absent
    ∙ ap (λ (z : Option Client). maybe z (Some (NotBegun t)) (λ y. wrong_of t y cause)) there ∙ same o
  where
    same : (z : Option Core) → maybe (option_map (λ (y : Core). y.client) z) (Some (NotBegun t)) (λ y. wrong_of t y cause) ≡ maybe z (Some (NotBegun t)) (λ x. wrong_of t x.client cause)
    same None = refl
    same (Some x) = refl

pub obeyed_did : (c : Layout) (p : Parties) (r : Roster) (named : List ℕ) (cores cores' : Table ℕ Core) (out out' : Outbox) (lines lines' : List Line) (e : Event) (t : ℕ) (q : Result (Unit {0}) Refused)
    → r ≡ roster named cores → p.layout ≡ c → IsRoster r p → Some t ≡ option_map (λ (x : ℕ × ClientCause). x.0) (command e)
    → (found nat_cmp cores t ≡ None → q ≡ Err (Naming (NotBegun t)))
    → ((x : Core) → found nat_cmp cores t ≡ Some x → OnOk q (Served cores cores' out out' lines lines' t (told_act c t x.client e)))
    → OnOk q (Did (scene r out lines) (scene (roster named cores') out' lines') p (told p e))
obeyed_did c p r named cores cores' out out' lines lines' e t q view layout is told_so absent served =
    subst (λ (s : Roster). OnOk q (Did (scene s out lines) (scene (roster named cores') out' lines') p (told p e))) (sym view) (by_found (found nat_cmp cores t) refl)
  where
    by_found : (o : Option Core) → found nat_cmp cores t ≡ o → OnOk q (Did (scene (roster named cores) out lines) (scene (roster named cores') out' lines') p (told p e))
    by_found None at =
        subst (λ (s : Result (Unit {0}) Refused). OnOk s (Did (scene (roster named cores) out lines) (scene (roster named cores') out' lines') p (told p e))) (sym (absent at)) tt
    by_found (Some x) at =
        let k = commanded e t told_so in
        subst (λ (d : Deed). OnOk q (Did (scene (roster named cores) out lines) (scene (roster named cores') out' lines') p d)) (sym (told_at p e t k))
        (did_cause c p (roster named cores) cores' out out' lines lines' t k.cause x q layout (subst (λ (s : Roster). IsRoster s p) view is) at
        (subst (λ (act : ClientAct). OnOk q (Served cores cores' out out' lines lines' t act)) (act_at c t x.client e k) (served x at)))

pub obeyed_right : (w : World) (r : Roster) (named : List ℕ) (cores : Table ℕ Core) (e : Event) (t : ℕ) (q : Result (Unit {0}) Refused)
    → r ≡ roster named cores → IsRoster r w.parties → Some t ≡ option_map (λ (x : ℕ × ClientCause). x.0) (command e) → false ≡ member nat_cmp named t
    → (found nat_cmp cores t ≡ None → q ≡ Err (Naming (NotBegun t))) → ((x : Core) → found nat_cmp cores t ≡ Some x → OnOk q (told_name t x.client e ≡ None))
    → OnOk q (is_some (command e) ≡ true → wrong w e ≡ None)
obeyed_right w r named cores e t q view is told_so unnamed absent right = by_found (found nat_cmp cores t) refl
  where
    by_result : (s : Result (Unit {0}) Refused) (x : Core) → found nat_cmp cores t ≡ Some x → OnOk s (told_name t x.client e ≡ None) → OnOk s (is_some (command e) ≡ true → wrong w e ≡ None)
    by_result (Ok done) x at none = λ _.
        let k = commanded e t told_so in
        wrong_at w e t k ∙ at_client w.parties named cores t k.cause (Some x) (subst (λ (s : Roster). IsRoster s w.parties) view is) unnamed at ∙ sym (name_at t x.client e k) ∙ none
    by_result (Err f) x at none = tt

    by_found : (o : Option Core) → found nat_cmp cores t ≡ o → OnOk q (is_some (command e) ≡ true → wrong w e ≡ None)
    by_found None at = subst (λ (s : Result (Unit {0}) Refused). OnOk s (is_some (command e) ≡ true → wrong w e ≡ None)) (sym (absent at)) tt
    by_found (Some x) at = by_result q x at (right x at)

pub obeyed_refused : (c : Layout) (w : World) (r : Roster) (named : List ℕ) (cores : Table ℕ Core) (e : Event) (t : ℕ) (q : Result (Unit {0}) Refused)
    → r ≡ roster named cores → w.parties.layout ≡ c → IsRoster r w.parties → Some t ≡ option_map (λ (x : ℕ × ClientCause). x.0) (command e) → false ≡ member nat_cmp named t
    → (found nat_cmp cores t ≡ None → q ≡ Err (Naming (NotBegun t)))
    → ((x : Core) → found nat_cmp cores t ≡ Some x → IfErr q (λ f. SaysOf f (told_name t x.client e) (told_act c t x.client e).refused))
    → IfErr q (λ f. Says f (wrong w e) (deed w.parties w.sent e))
obeyed_refused c w r named cores e t q view layout is told_so unnamed absent says =
    subst (λ (d : Deed). IfErr q (λ f. Says f (wrong w e) d)) deed_is (by_found (found nat_cmp cores t) refl)
  where
    k : IsCommand e t
    k = commanded e t told_so

    roll : IsRoster (roster named cores) w.parties
    roll = subst (λ (s : Roster). IsRoster s w.parties) view is

    deed_is : client_does w.parties t k.cause ≡ deed w.parties w.sent e
    deed_is = sym (told_at w.parties e t k) ∙ told_is_deed w.parties w.sent e (ap (λ (o : Option (ℕ × ClientCause)). is_some o) k.is)

    by_found : (o : Option Core) → found nat_cmp cores t ≡ o → IfErr q (λ f. Says f (wrong w e) (client_does w.parties t k.cause))
    by_found None at =
        subst (λ (s : Result (Unit {0}) Refused). IfErr s (λ f. Says f (wrong w e) (client_does w.parties t k.cause))) (sym (absent at))
        (wrong_at w e t k ∙ at_client w.parties named cores t k.cause None roll unnamed at)
    by_found (Some x) at =
        says_cause c w.parties (roster named cores) t k.cause x (wrong w e) (told_name t x.client e) q layout roll at
        (wrong_at w e t k ∙ at_client w.parties named cores t k.cause (Some x) roll unnamed at ∙ sym (name_at t x.client e k))
        (subst (λ (act : ClientAct). IfErr q (λ f. SaysOf f (told_name t x.client e) act.refused)) (act_at c t x.client e k) (says x at))
