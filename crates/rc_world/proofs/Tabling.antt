-- The clients by their transactions, and what one client's answer makes of them.
use Rattle.std.proofs.Common.{◌≡◌, ℕ, Bool, true, false, cond, List, [], ◌∷◌, Option, Some, refl, sym, ap, subst, ◌∙◌, arith}
use Rattle.std.specs.Prelude.{Result, Ok, Err, OnOk, OnErr, IfSome}
use Rattle.std.specs.Option.{option_map}
use Rattle.std.specs.Ordering.{nat_cmp, is_eq, match_ordering}
use Rattle.std.specs.declared.cmp.Ordering.{Ordering}
use Rattle.std.specs.declared.cmp.Ordering.TheVariants.{Less, Equal, Greater}
use Rattle.std.specs.Map.{set_value}
use Rattle.std.specs.BTreeMap.{is_at}
use Rattle.std.proofs.lemmas.Map.Steps.{set_value_same}
use Rattle.rc_ids.specs.Tables.{Table, found, put}
use Rattle.rc_ids.specs.Cluster.{Layout}
use Rattle.rc_msg.specs.Outboxes.{Outbox}
use Rattle.rc_report.specs.declared.line.Line.{Line}
use Rattle.rc_protocol.specs.Client.{Client, ClientAct, new_client}
use Rattle.rc_runs.specs.World.{replaced}
use Rattle.rc_runs.specs.declared.event.Event.{Event}
use Rattle.rc_client.specs.Acts.{Core, new_core, IsOf, Site, site, Acts}
use Rattle.rc_world.specs.declared.clients.Refused.{Refused}
use Rattle.rc_world.specs.Clients.{states_of, AreKeyed, AreOf}
use Rattle.rc_world.specs.OneClient.{told_act, told_name, Answers, Served}

same_key : (t k : ℕ) → is_eq (nat_cmp t k) ≡ true → t ≡ k
same_key t k e = grind arith

-- what is found is of its transaction, and of the cluster
pub keyed_at : (es : Table ℕ Core) (t : ℕ) (x : Core) → AreKeyed es → found nat_cmp es t ≡ Some x → x.tx ≡ t
keyed_at [] t x keyed at = absurd (cc)
keyed_at (e ∷ es) t x keyed at = by_test (is_eq (nat_cmp t e.0)) refl (keyed_at es t x keyed.1)
  where
    by_test : (b : Bool) → is_eq (nat_cmp t e.0) ≡ b → (found nat_cmp es t ≡ Some x → x.tx ≡ t) → x.tx ≡ t
    by_test true is rest =
        let here : Some e.1 ≡ Some x = sym (ap (λ (b : Bool). cond b (Some e.1) (found nat_cmp es t)) is) ∙ at in
        let one : e.1 ≡ x = cc in
        sym (ap (λ (y : Core). y.tx) one) ∙ keyed.0 ∙ sym (same_key t e.0 is)
    by_test false is rest = rest (sym (ap (λ (b : Bool). cond b (Some e.1) (found nat_cmp es t)) is) ∙ at)

pub of_at : (c : Layout) (es : Table ℕ Core) (t : ℕ) (x : Core) → AreOf c es → found nat_cmp es t ≡ Some x → IsOf c x
of_at c [] t x of at = absurd (cc)
of_at c (e ∷ es) t x of at = by_test (is_eq (nat_cmp t e.0)) refl (of_at c es t x of.1)
  where
    by_test : (b : Bool) → is_eq (nat_cmp t e.0) ≡ b → (found nat_cmp es t ≡ Some x → IsOf c x) → IsOf c x
    by_test true is rest =
        let here : Some e.1 ≡ Some x = sym (ap (λ (b : Bool). cond b (Some e.1) (found nat_cmp es t)) is) ∙ at in
        let one : e.1 ≡ x = cc in
        subst (IsOf c) one of.0
    by_test false is rest = rest (sym (ap (λ (b : Bool). cond b (Some e.1) (found nat_cmp es t)) is) ∙ at)

-- the world has of a client what its core has
pub found_state : (es : Table ℕ Core) (t : ℕ) → found nat_cmp (states_of es) t ≡ option_map (λ (x : Core). x.client) (found nat_cmp es t)
found_state [] t = refl
found_state (e ∷ es) t = by_test (is_eq (nat_cmp t e.0)) (found_state es t)
  where
    by_test : (b : Bool) → found nat_cmp (states_of es) t ≡ option_map (λ (x : Core). x.client) (found nat_cmp es t)
        → cond b (Some e.1.client) (found nat_cmp (states_of es) t) ≡ option_map (λ (x : Core). x.client) (cond b (Some e.1) (found nat_cmp es t))
    by_test true rest = refl
    by_test false rest = rest

-- A CLIENT IN THE PLACE OF ITS OLD ONE
abbrev placed : Table ℕ Core → ℕ → Core → Table ℕ Core
placed es t y = set_value (is_at (nat_cmp t)) es y

states_placed : (es : Table ℕ Core) (t : ℕ) (y : Core) → states_of (placed es t y) ≡ replaced (states_of es) t y.client
states_placed [] t y = refl
states_placed (e ∷ es) t y = by_test (is_eq (nat_cmp t e.0)) (states_placed es t y)
  where
    by_test : (b : Bool) → states_of (placed es t y) ≡ replaced (states_of es) t y.client
        → states_of (cond b ((e.0, y) ∷ es) (e ∷ placed es t y)) ≡ cond b ((e.0, y.client) ∷ states_of es) ((e.0, e.1.client) ∷ replaced (states_of es) t y.client)
    by_test true rest = refl
    by_test false rest = ap (λ (ys : Table ℕ Client). (e.0, e.1.client) ∷ ys) rest

keyed_placed : (es : Table ℕ Core) (t : ℕ) (y : Core) → AreKeyed es → y.tx ≡ t → AreKeyed (placed es t y)
keyed_placed [] t y keyed tx = tt
keyed_placed (e ∷ es) t y keyed tx = by_test (is_eq (nat_cmp t e.0)) refl (keyed_placed es t y keyed.1 tx)
  where
    by_test : (b : Bool) → is_eq (nat_cmp t e.0) ≡ b → AreKeyed (placed es t y) → AreKeyed (cond b ((e.0, y) ∷ es) (e ∷ placed es t y))
    by_test true is rest = (tx ∙ same_key t e.0 is, keyed.1)
    by_test false is rest = (keyed.0, rest)

of_placed : (c : Layout) (es : Table ℕ Core) (t : ℕ) (y : Core) → AreOf c es → IsOf c y → AreOf c (placed es t y)
of_placed c [] t y of is = tt
of_placed c (e ∷ es) t y of is = by_test (is_eq (nat_cmp t e.0)) (of_placed c es t y of.1 is)
  where
    by_test : (b : Bool) → AreOf c (placed es t y) → AreOf c (cond b ((e.0, y) ∷ es) (e ∷ placed es t y))
    by_test true rest = (is, of.1)
    by_test false rest = (of.0, rest)

-- a client that did nothing, in its own place
pub kept_in : (es es' : Table ℕ Core) (t : ℕ) (x : Core) → es' ≡ placed es t x → found nat_cmp es t ≡ Some x → es' ≡ es
kept_in es es' t x is at = is ∙ set_value_same (is_at (nat_cmp t)) es x at

pub keyed_in : (es es' : Table ℕ Core) (t : ℕ) (y : Core) → es' ≡ placed es t y → AreKeyed es → y.tx ≡ t → AreKeyed es'
keyed_in es es' t y is keyed tx = subst AreKeyed (sym is) (keyed_placed es t y keyed tx)

pub of_in : (c : Layout) (es es' : Table ℕ Core) (t : ℕ) (y : Core) → es' ≡ placed es t y → AreOf c es → IsOf c y → AreOf c es'
of_in c es es' t y is of one = subst (AreOf c) (sym is) (of_placed c es t y of one)

pub served_in : (es es' : Table ℕ Core) (out out' : Outbox) (lines lines' : List Line) (t : ℕ) (x y : Core) (act : ClientAct)
    → es' ≡ placed es t y → Acts (site x out lines) (site y out' lines') act → Served es es' out out' lines lines' t act
served_in es es' out out' lines lines' t x y act is acts = record {
  clients = ap states_of is ∙ states_placed es t y ∙ ap (λ (s : Client). replaced (states_of es) t s) acts.client;
  sends = acts.sends;
  prints = acts.lines;
  taken = acts.taken;
}

-- ONE MORE CLIENT
states_put : (es : Table ℕ Core) (t : ℕ) (y : Core) → states_of (put nat_cmp es t y) ≡ put nat_cmp (states_of es) t y.client
states_put [] t y = refl
states_put (e ∷ es) t y = by_order (nat_cmp t e.0) (states_put es t y)
  where
    by_order : (o : Ordering) → states_of (put nat_cmp es t y) ≡ put nat_cmp (states_of es) t y.client
        → states_of (match_ordering o ((t, y) ∷ e ∷ es) ((e.0, y) ∷ es) (e ∷ put nat_cmp es t y))
        ≡ match_ordering o ((t, y.client) ∷ (e.0, e.1.client) ∷ states_of es) ((e.0, y.client) ∷ states_of es) ((e.0, e.1.client) ∷ put nat_cmp (states_of es) t y.client)
    by_order Less rest = refl
    by_order Equal rest = refl
    by_order Greater rest = ap (λ (ys : Table ℕ Client). (e.0, e.1.client) ∷ ys) rest

equal_key : (t k : ℕ) → nat_cmp t k ≡ Equal → t ≡ k
equal_key t k e = same_key t k (ap is_eq e)

keyed_put : (es : Table ℕ Core) (t : ℕ) (y : Core) → AreKeyed es → y.tx ≡ t → AreKeyed (put nat_cmp es t y)
keyed_put [] t y keyed tx = (tx, tt)
keyed_put (e ∷ es) t y keyed tx = by_order (nat_cmp t e.0) refl (keyed_put es t y keyed.1 tx)
  where
    by_order : (o : Ordering) → nat_cmp t e.0 ≡ o → AreKeyed (put nat_cmp es t y) → AreKeyed (match_ordering o ((t, y) ∷ e ∷ es) ((e.0, y) ∷ es) (e ∷ put nat_cmp es t y))
    by_order Less is rest = (tx, keyed)
    by_order Equal is rest = (tx ∙ equal_key t e.0 is, keyed.1)
    by_order Greater is rest = (keyed.0, rest)

of_put : (c : Layout) (es : Table ℕ Core) (t : ℕ) (y : Core) → AreOf c es → IsOf c y → AreOf c (put nat_cmp es t y)
of_put c [] t y of one = (one, tt)
of_put c (e ∷ es) t y of one = by_order (nat_cmp t e.0) (of_put c es t y of.1 one)
  where
    by_order : (o : Ordering) → AreOf c (put nat_cmp es t y) → AreOf c (match_ordering o ((t, y) ∷ e ∷ es) ((e.0, y) ∷ es) (e ∷ put nat_cmp es t y))
    by_order Less rest = (one, of)
    by_order Equal rest = (one, of.1)
    by_order Greater rest = (of.0, rest)

pub begun_states : (es es' : Table ℕ Core) (t : ℕ) → es' ≡ put nat_cmp es t (new_core t) → states_of es' ≡ put nat_cmp (states_of es) t new_client
begun_states es es' t is = ap states_of is ∙ states_put es t (new_core t)

pub begun_keyed : (es es' : Table ℕ Core) (t : ℕ) → es' ≡ put nat_cmp es t (new_core t) → AreKeyed es → AreKeyed es'
begun_keyed es es' t is keyed = subst AreKeyed (sym is) (keyed_put es t (new_core t) keyed refl)

pub begun_of : (c : Layout) (es es' : Table ℕ Core) (t : ℕ) → es' ≡ put nat_cmp es t (new_core t) → AreOf c es → AreOf c es'
begun_of c es es' t is of = subst (AreOf c) (sym is) (of_put c es t (new_core t) of tt)

-- THE ANSWER TO A COMMAND
-- the client of t, before and after, and its answer
pub record IsAnswer (c : Layout) (t : ℕ) (e : Event) (es es' : Table ℕ Core) (x y : Core) (out out' : Outbox) (lines lines' : List Line) (q : Result (Unit {0}) Refused) : Type 0 where
  pub placed : es' ≡ set_value (is_at (nat_cmp t)) es y
  pub at : Some x ≡ found nat_cmp es t
  pub keyed : AreKeyed es
  pub answers : Answers q (site x out lines) (site y out' lines') (told_act c t x.client e) (told_name t x.client e)

pub answer_served : (c : Layout) (t : ℕ) (e : Event) (es es' : Table ℕ Core) (x y : Core) (out out' : Outbox) (lines lines' : List Line) (q : Result (Unit {0}) Refused)
    → IsAnswer c t e es es' x y out out' lines lines' q
    → (z : Core) → found nat_cmp es t ≡ Some z → OnOk q (Served es es' out out' lines lines' t (told_act c t z.client e))
answer_served c t e es es' x y out out' lines lines' q is z at =
    let two : Some x ≡ Some z = is.at ∙ at in
    let same : x ≡ z = cc in
    subst (λ (u : Core). OnOk q (Served es es' out out' lines lines' t (told_act c t u.client e))) same (by_answer q is.answers)
  where
    by_answer : (r : Result (Unit {0}) Refused) → Answers r (site x out lines) (site y out' lines') (told_act c t x.client e) (told_name t x.client e)
        → OnOk r (Served es es' out out' lines lines' t (told_act c t x.client e))
    by_answer (Ok done) takes = served_in es es' out out' lines lines' t x y (told_act c t x.client e) is.placed takes.acts
    by_answer (Err r) declines = tt

pub answer_kept : (c : Layout) (t : ℕ) (e : Event) (es es' : Table ℕ Core) (x y : Core) (out out' : Outbox) (lines lines' : List Line) (q : Result (Unit {0}) Refused)
    → IsAnswer c t e es es' x y out out' lines lines' q → OnErr q ((es' ≡ es) × (out' ≡ out) × (lines' ≡ lines))
answer_kept c t e es es' x y out out' lines lines' q is = by_answer q is.answers
  where
    by_answer : (r : Result (Unit {0}) Refused) → Answers r (site x out lines) (site y out' lines') (told_act c t x.client e) (told_name t x.client e)
        → OnErr r ((es' ≡ es) × (out' ≡ out) × (lines' ≡ lines))
    by_answer (Ok done) takes = tt
    by_answer (Err r) declines =
        let same : y ≡ x = ap (λ (s : Site). s.core) declines.same in (
          kept_in es es' t x (is.placed ∙ ap (λ (u : Core). set_value (is_at (nat_cmp t)) es u) same) (sym is.at),
          ap (λ (s : Site). s.out) declines.same,
          ap (λ (s : Site). s.lines) declines.same,
        )

pub answer_keyed : (c : Layout) (t : ℕ) (e : Event) (es es' : Table ℕ Core) (x y : Core) (out out' : Outbox) (lines lines' : List Line) (q : Result (Unit {0}) Refused)
    → IsAnswer c t e es es' x y out out' lines lines' q → AreKeyed es'
answer_keyed c t e es es' x y out out' lines lines' q is = keyed_in es es' t y is.placed is.keyed (by_answer q is.answers ∙ keyed_at es t x is.keyed (sym is.at))
  where
    by_answer : (r : Result (Unit {0}) Refused) → Answers r (site x out lines) (site y out' lines') (told_act c t x.client e) (told_name t x.client e) → y.tx ≡ x.tx
    by_answer (Ok done) takes = takes.acts.tx
    by_answer (Err r) declines = ap (λ (s : Site). s.core.tx) declines.same

pub answer_of_cluster : (c : Layout) (t : ℕ) (e : Event) (es es' : Table ℕ Core) (x y : Core) (out out' : Outbox) (lines lines' : List Line) (q : Result (Unit {0}) Refused)
    → IsAnswer c t e es es' x y out out' lines lines' q → AreOf c es → AreOf c es'
answer_of_cluster c t e es es' x y out out' lines lines' q is of =
    of_in c es es' t y is.placed of (subst (λ (o : Option (List ℕ)). IfSome o (λ weights. weights ≡ c.weights)) (sym (by_answer q is.answers)) (of_at c es t x of (sym is.at)))
  where
    by_answer : (r : Result (Unit {0}) Refused) → Answers r (site x out lines) (site y out' lines') (told_act c t x.client e) (told_name t x.client e) → y.weights ≡ x.weights
    by_answer (Ok done) takes = takes.weights
    by_answer (Err r) declines = ap (λ (s : Site). s.core.weights) declines.same
