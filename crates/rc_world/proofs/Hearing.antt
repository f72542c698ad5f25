-- What one client does at a message, in the table of all.
use Rattle.std.proofs.Common.{◌≡◌, ℕ, List, None, Some, refl, sym, ap, subst, ◌∙◌}
use Rattle.std.specs.Prelude.{Result, Ok, Err, OnOk, OnErr, IfErr}
use Rattle.std.specs.Ordering.{nat_cmp}
use Rattle.std.specs.Map.{set_value}
use Rattle.std.specs.BTreeMap.{is_at}
use Rattle.rc_ids.specs.Tables.{Table, found}
use Rattle.rc_ids.specs.Cluster.{Layout}
use Rattle.rc_msg.specs.Outboxes.{Outbox}
use Rattle.rc_msg.specs.declared.msg.Msg.{Msg}
use Rattle.rc_report.specs.declared.line.Line.{Line}
use Rattle.rc_protocol.specs.Client.{Client, ClientAct, NotOpen, TooManyKeys}
use Rattle.rc_protocol.specs.Acts.{Hears, client_act}
use Rattle.rc_client.specs.Acts.{Core, site, Acts, Refuses, IsRefusal}
use Rattle.rc_client.specs.declared.fault.ClientFault.{ClientFault}
use Rattle.rc_client.specs.declared.fault.ClientFault.TheVariants as faults
use Rattle.rc_world.specs.declared.clients.Refused.{Refused}
use Rattle.rc_world.specs.Clients.{AreKeyed}
use Rattle.rc_world.specs.OneClient.{SaysOf, Served, answer_of, refused_of}
use Rattle.rc_world.proofs.Refusing.{rows}
use Rattle.rc_world.proofs.Tabling.{keyed_at, kept_in, keyed_in, served_in}

-- the client of t, before and after, and its answer
pub record IsHeard (c : Layout) (t : ℕ) (m : Msg) (es es' : Table ℕ Core) (x y : Core) (out out' : Outbox) (lines lines' : List Line) (r : Result (Unit {0}) ClientFault) (q : Result (Unit {0}) Refused) : Type 0 where
  pub placed : es' ≡ set_value (is_at (nat_cmp t)) es y
  pub at : Some x ≡ found nat_cmp es t
  pub keyed : AreKeyed es
  pub acts : OnOk r (Acts (site x out lines) (site y out' lines') (client_act c x.tx x.client (Hears m)))
  pub refuses : IfErr r (λ fault. Refuses fault (site x out lines) (site y out' lines') (client_act c x.tx x.client (Hears m)))
  pub answer : q ≡ answer_of t r

-- a message is refused for a version that is worn out, or for want of memory
says : (c : Layout) (t : ℕ) (x : Client) (m : Msg) (fault : ClientFault) → IsRefusal fault (client_act c t x (Hears m)).refused
    → SaysOf (refused_of t fault) None (client_act c t x (Hears m)).refused
says c t x m faults.NotOpen named = absurd (cc ((rows c t x (Hears m)).worn NotOpen named))
says c t x m faults.TooManyKeys named = absurd (cc ((rows c t x (Hears m)).worn TooManyKeys named))
says c t x m faults.KeyWornOut named = (refl, named)
says c t x m faults.NoMemory named = tt

pub heard_served : (c : Layout) (t : ℕ) (m : Msg) (es es' : Table ℕ Core) (x y : Core) (out out' : Outbox) (lines lines' : List Line) (r : Result (Unit {0}) ClientFault) (q : Result (Unit {0}) Refused)
    → IsHeard c t m es es' x y out out' lines lines' r q
    → (z : Core) → found nat_cmp es t ≡ Some z → OnOk q (Served es es' out out' lines lines' t (client_act c t z.client (Hears m)))
heard_served c t m es es' x y out out' lines lines' r q is z at =
    let two : Some x ≡ Some z = is.at ∙ at in
    let same : x ≡ z = cc in
    let tx : x.tx ≡ t = keyed_at es t x is.keyed (sym is.at) in
    let act : ℕ → Core → ClientAct = λ (u : ℕ) (v : Core). client_act c u v.client (Hears m) in
    let first : OnOk (answer_of t r) (Served es es' out out' lines lines' t (act x.tx x)) = by_result r is.acts in
    let second : OnOk (answer_of t r) (Served es es' out out' lines lines' t (act t z)) =
    subst (λ (v : Core). OnOk (answer_of t r) (Served es es' out out' lines lines' t (act t v))) same
    (subst (λ (u : ℕ). OnOk (answer_of t r) (Served es es' out out' lines lines' t (act u x))) tx first) in
    subst (λ (p : Result (Unit {0}) Refused). OnOk p (Served es es' out out' lines lines' t (act t z))) (sym is.answer) second
  where
    by_result : (p : Result (Unit {0}) ClientFault) → OnOk p (Acts (site x out lines) (site y out' lines') (client_act c x.tx x.client (Hears m)))
        → OnOk (answer_of t p) (Served es es' out out' lines lines' t (client_act c x.tx x.client (Hears m)))
    by_result (Ok done) acts = served_in es es' out out' lines lines' t x y (client_act c x.tx x.client (Hears m)) is.placed acts
    by_result (Err fault) acts = tt

pub heard_says : (c : Layout) (t : ℕ) (m : Msg) (es es' : Table ℕ Core) (x y : Core) (out out' : Outbox) (lines lines' : List Line) (r : Result (Unit {0}) ClientFault) (q : Result (Unit {0}) Refused)
    → IsHeard c t m es es' x y out out' lines lines' r q
    → (z : Core) → found nat_cmp es t ≡ Some z → IfErr q (λ f. SaysOf f None (client_act c t z.client (Hears m)).refused)
heard_says c t m es es' x y out out' lines lines' r q is z at =
    let two : Some x ≡ Some z = is.at ∙ at in
    let same : x ≡ z = cc in
    let tx : x.tx ≡ t = keyed_at es t x is.keyed (sym is.at) in
    let act : ℕ → Core → ClientAct = λ (u : ℕ) (v : Core). client_act c u v.client (Hears m) in
    let first : IfErr r (λ fault. IsRefusal fault (act x.tx x).refused) = by_result r is.refuses in
    let second : IfErr r (λ fault. IsRefusal fault (act t z).refused) =
    subst (λ (v : Core). IfErr r (λ fault. IsRefusal fault (act t v).refused)) same (subst (λ (u : ℕ). IfErr r (λ fault. IsRefusal fault (act u x).refused)) tx first) in
    subst (λ (p : Result (Unit {0}) Refused). IfErr p (λ f. SaysOf f None (act t z).refused)) (sym is.answer) (by_fault r second)
  where
    by_result : (p : Result (Unit {0}) ClientFault) → IfErr p (λ fault. Refuses fault (site x out lines) (site y out' lines') (client_act c x.tx x.client (Hears m)))
        → IfErr p (λ fault. IsRefusal fault (client_act c x.tx x.client (Hears m)).refused)
    by_result (Ok done) refuses = tt
    by_result (Err fault) refuses = refuses.named

    by_fault : (p : Result (Unit {0}) ClientFault) → IfErr p (λ fault. IsRefusal fault (client_act c t z.client (Hears m)).refused)
        → IfErr (answer_of t p) (λ f. SaysOf f None (client_act c t z.client (Hears m)).refused)
    by_fault (Ok done) named = tt
    by_fault (Err fault) named = says c t z.client m fault named

pub heard_kept : (c : Layout) (t : ℕ) (m : Msg) (es es' : Table ℕ Core) (x y : Core) (out out' : Outbox) (lines lines' : List Line) (r : Result (Unit {0}) ClientFault) (q : Result (Unit {0}) Refused)
    → IsHeard c t m es es' x y out out' lines lines' r q → OnErr q ((es' ≡ es) × (out' ≡ out) × (lines' ≡ lines))
heard_kept c t m es es' x y out out' lines lines' r q is =
    subst (λ (p : Result (Unit {0}) Refused). OnErr p ((es' ≡ es) × (out' ≡ out) × (lines' ≡ lines))) (sym is.answer) (by_result r is.refuses)
  where
    by_result : (p : Result (Unit {0}) ClientFault) → IfErr p (λ fault. Refuses fault (site x out lines) (site y out' lines') (client_act c x.tx x.client (Hears m)))
        → OnErr (answer_of t p) ((es' ≡ es) × (out' ≡ out) × (lines' ≡ lines))
    by_result (Ok done) refuses = tt
    by_result (Err fault) refuses = (
      kept_in es es' t x (is.placed ∙ ap (λ (u : Core). set_value (is_at (nat_cmp t)) es u) refuses.core) (sym is.at),
      refuses.sends,
      refuses.lines,
    )

pub heard_keyed : (c : Layout) (t : ℕ) (m : Msg) (es es' : Table ℕ Core) (x y : Core) (out out' : Outbox) (lines lines' : List Line) (r : Result (Unit {0}) ClientFault) (q : Result (Unit {0}) Refused)
    → IsHeard c t m es es' x y out out' lines lines' r q → AreKeyed es'
heard_keyed c t m es es' x y out out' lines lines' r q is =
    keyed_in es es' t y is.placed is.keyed (by_result r is.acts is.refuses ∙ keyed_at es t x is.keyed (sym is.at))
  where
    by_result : (p : Result (Unit {0}) ClientFault) → OnOk p (Acts (site x out lines) (site y out' lines') (client_act c x.tx x.client (Hears m)))
        → IfErr p (λ fault. Refuses fault (site x out lines) (site y out' lines') (client_act c x.tx x.client (Hears m))) → y.tx ≡ x.tx
    by_result (Ok done) acts refuses = acts.tx
    by_result (Err fault) acts refuses = ap (λ (u : Core). u.tx) refuses.core
