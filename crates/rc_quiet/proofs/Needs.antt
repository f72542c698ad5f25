-- What a label says of its message, and that the first message with a label was delivered.
use Rattle.std.proofs.Common.{◌≡◌, ◌≢◌, ℕ, zero, suc, ◌-◌, ◌<◌, List, [], ◌∷◌, refl, sym, ap, ◌∙◌, subst, arith, Bool, true, false, cond, Option, Some, None, ◌⊎◌, inl, inr, ⊎_elim}
use Rattle.std.specs.Prelude.{slice_get, ◌==◌}
use Rattle.std.proofs.lemmas.Bool.{eqb-true, eq-eqb, ne_eqb}
use Rattle.rc_ids.specs.Tables.{In}
use Rattle.rc_ids.specs.declared.names.NodeId.TheVariants.{Coord, Shard as ShardServer}
use Rattle.rc_ids.specs.declared.names.Party.{Party}
use Rattle.rc_ids.specs.declared.names.Party.TheVariants.{Node, Client as ClientOf}
use Rattle.rc_body.specs.declared.entry.Entry.{Entry}
use Rattle.rc_body.specs.declared.decision.Decision.{Decision}
use Rattle.rc_body.specs.declared.reason.Reason.{Reason}
use Rattle.rc_msg.specs.declared.msg.Msg.{Msg}
use Rattle.rc_msg.specs.declared.msg.Msg.TheVariants.{ReadAsk, Granted, Propose, Prepare, Prepared, Voted}
use Rattle.rc_msg.specs.declared.msg.Envelope.{Envelope}
use Rattle.rc_claims.specs.Quiet.{Need, Asks, Grants, Proposes, Prepares, Answers, Votes, of_tx, need_of, IsAmong, IsNeeded, AreDelivered}
use Rattle.rc_runs.specs.World.{World, message}

-- the message that has this label
abbrev pub Labels : ℕ → Need → Party → Party → Msg → Type 0
Labels t (Asks d k) from to m = (s : ℕ) × (to ≡ Node (ShardServer d s)) × (m ≡ ReadAsk t k)
Labels t (Grants d k) from to m = (s e version : ℕ) × (value : Option (List ℕ)) × (from ≡ Node (ShardServer d s)) × (m ≡ Granted t k e version value)
Labels t (Proposes d) from to m = (b : ℕ) × (o : Decision) × (to ≡ Node (Coord d)) × (m ≡ Propose t b o)
Labels t (Prepares d s) from to m = (part : List Entry) × (to ≡ Node (ShardServer d s)) × (m ≡ Prepare t part)
Labels t (Answers d s) from to m = (sh : ℕ) × (reason : Option Reason) × (from ≡ Node (ShardServer d s)) × (m ≡ Prepared t sh reason)
Labels t (Votes d) from to m = (x b e : ℕ) × (o : Decision) × (from ≡ Node (Coord d)) × (to ≡ ClientOf x) × (m ≡ Voted t b e o)

by_tx : (t u : ℕ) (need l : Need) → of_tx t u need ≡ Some l → (u ≡ t) × (need ≡ l)
by_tx t u need l h = go (u == t) refl h
  where
    out : Option Need → Need
    out None = need
    out (Some x) = x

    go : (b : Bool) → (u == t) ≡ b → cond b (Some need) None ≡ Some l → (u ≡ t) × (need ≡ l)
    go true e i = (eqb-true u t e, ap out i)
    go false e i = absurd (cc)

pub own : (t : ℕ) (l : Need) → of_tx t t l ≡ Some l
own t l = let k : (t == t) ≡ true = eq-eqb t t refl in rw k

module _ (t : ℕ) where
  to_label : (from to : Party) (m : Msg) (u : ℕ) (need l : Need) → of_tx t u need ≡ Some l → (u ≡ t → Labels t need from to m) → Labels t l from to m
  to_label from to m u need l h f = let z = by_tx t u need l h in subst (λ (x : Need). Labels t x from to m) z.1 (f z.0)

  pub labels : (from to : Party) (m : Msg) (l : Need) → need_of t from to m ≡ Some l → Labels t l from to m
  labels (Node (Coord a)) (Node (ShardServer d s)) (ReadAsk u k) l h = to_label _ _ _ u (Asks d k) l h (λ e. (s, refl, ap (λ (z : ℕ). ReadAsk z k) e))
  labels (Node (ShardServer a b)) (Node (ShardServer d s)) (ReadAsk u k) l h = to_label _ _ _ u (Asks d k) l h (λ e. (s, refl, ap (λ (z : ℕ). ReadAsk z k) e))
  labels (ClientOf a) (Node (ShardServer d s)) (ReadAsk u k) l h = to_label _ _ _ u (Asks d k) l h (λ e. (s, refl, ap (λ (z : ℕ). ReadAsk z k) e))
  labels (Node (ShardServer d s)) (Node (Coord a)) (Granted u k e v y) l h = to_label _ _ _ u (Grants d k) l h (λ i. (s, e, v, y, refl, ap (λ (z : ℕ). Granted z k e v y) i))
  labels (Node (ShardServer d s)) (Node (ShardServer a b)) (Granted u k e v y) l h = to_label _ _ _ u (Grants d k) l h (λ i. (s, e, v, y, refl, ap (λ (z : ℕ). Granted z k e v y) i))
  labels (Node (ShardServer d s)) (ClientOf a) (Granted u k e v y) l h = to_label _ _ _ u (Grants d k) l h (λ i. (s, e, v, y, refl, ap (λ (z : ℕ). Granted z k e v y) i))
  labels (Node (Coord a)) (Node (Coord d)) (Propose u b o) l h = to_label _ _ _ u (Proposes d) l h (λ e. (b, o, refl, ap (λ (z : ℕ). Propose z b o) e))
  labels (Node (ShardServer a c)) (Node (Coord d)) (Propose u b o) l h = to_label _ _ _ u (Proposes d) l h (λ e. (b, o, refl, ap (λ (z : ℕ). Propose z b o) e))
  labels (ClientOf a) (Node (Coord d)) (Propose u b o) l h = to_label _ _ _ u (Proposes d) l h (λ e. (b, o, refl, ap (λ (z : ℕ). Propose z b o) e))
  labels (Node (Coord a)) (Node (ShardServer d s)) (Prepare u p) l h = to_label _ _ _ u (Prepares d s) l h (λ e. (p, refl, ap (λ (z : ℕ). Prepare z p) e))
  labels (Node (ShardServer a b)) (Node (ShardServer d s)) (Prepare u p) l h = to_label _ _ _ u (Prepares d s) l h (λ e. (p, refl, ap (λ (z : ℕ). Prepare z p) e))
  labels (ClientOf a) (Node (ShardServer d s)) (Prepare u p) l h = to_label _ _ _ u (Prepares d s) l h (λ e. (p, refl, ap (λ (z : ℕ). Prepare z p) e))
  labels (Node (ShardServer d s)) (Node (Coord a)) (Prepared u sh r) l h = to_label _ _ _ u (Answers d s) l h (λ e. (sh, r, refl, ap (λ (z : ℕ). Prepared z sh r) e))
  labels (Node (ShardServer d s)) (Node (ShardServer a b)) (Prepared u sh r) l h = to_label _ _ _ u (Answers d s) l h (λ e. (sh, r, refl, ap (λ (z : ℕ). Prepared z sh r) e))
  labels (Node (ShardServer d s)) (ClientOf a) (Prepared u sh r) l h = to_label _ _ _ u (Answers d s) l h (λ e. (sh, r, refl, ap (λ (z : ℕ). Prepared z sh r) e))
  labels (Node (Coord d)) (ClientOf x) (Voted u b e o) l h = to_label _ _ _ u (Votes d) l h (λ i. (x, b, e, o, refl, refl, ap (λ (z : ℕ). Voted z b e o) i))
  labels from to m l h = absurd (cc)

-- THE FIRST ONE
-- labels can be compared
same_nat : (a b : ℕ) → (a ≡ b) ⊎ (a ≡ b → ⊥)
same_nat a b = go (a == b) refl
  where
    go : (x : Bool) → (a == b) ≡ x → (a ≡ b) ⊎ (a ≡ b → ⊥)
    go true e = inl (eqb-true a b e)
    go false e = inr (λ k. let z : (a == b) ≡ true = eq-eqb a b k in cc)

same_key_or_not : (a b : List ℕ) → (a ≡ b) ⊎ (a ≡ b → ⊥)
same_key_or_not [] [] = inl refl
same_key_or_not [] (y ∷ b) = inr (λ e. cc)
same_key_or_not (x ∷ a) [] = inr (λ e. cc)
same_key_or_not (x ∷ a) (y ∷ b) = ⊎_elim
    (λ e. ⊎_elim (λ i. inl (ap (λ (z : ℕ). z ∷ a) e ∙ ap (λ (z : List ℕ). y ∷ z) i)) (λ n. inr (λ k. n (ap rest k))) (same_key_or_not a b))
    (λ n. inr (λ k. n (ap (head x) k))) (same_nat x y)
  where
    rest : List ℕ → List ℕ
    rest [] = []
    rest (z ∷ zs) = zs

    head : ℕ → List ℕ → ℕ
    head w [] = w
    head w (z ∷ zs) = z

pub same_need : (a b : Need) → (a ≡ b) ⊎ (a ≡ b → ⊥)
same_need (Asks d k) (Asks e l) = grind (arith, same_nat d e, same_key_or_not k l)
same_need (Grants d k) (Grants e l) = grind (arith, same_nat d e, same_key_or_not k l)
same_need (Proposes d) (Proposes e) = grind (arith, same_nat d e)
same_need (Prepares d s) (Prepares e r) = grind (arith, same_nat d e, same_nat s r)
same_need (Answers d s) (Answers e r) = grind (arith, same_nat d e, same_nat s r)
same_need (Votes d) (Votes e) = grind (arith, same_nat d e)
same_need _ _ = inr (λ e. cc)

has_label : (t : ℕ) (l : Need) (o : Option Need) → (o ≡ Some l) ⊎ (o ≡ Some l → ⊥)
has_label t l None = inr (λ e. cc)
has_label t l (Some x) = ⊎_elim (λ e. inl (ap Some e)) (λ n. inr (λ k. n (ap (out x) k))) (same_need x l)
  where
    out : Need → Option Need → Need
    out y None = y
    out y (Some z) = z

pub same_some : (x y : Envelope) → Some x ≡ Some y → x ≡ y
same_some x y e = ap out e
  where
    out : Option Envelope → Envelope
    out None = x
    out (Some z) = z

-- the first with this label, in a list
pub record First (t : ℕ) (l : Need) (sent : List Envelope) : Type 0 where
  pub place : ℕ
  pub e : Envelope
  pub is : slice_get sent place ≡ Some e
  pub label : need_of t e.from e.to e.msg ≡ Some l
  pub first : (i : ℕ) (f : Envelope) → i < place → slice_get sent i ≡ Some f → need_of t f.from f.to f.msg ≢ Some l

one_more : (t : ℕ) (l : Need) (x : Envelope) (sent : List Envelope) → (need_of t x.from x.to x.msg ≡ Some l → ⊥) → First t l sent → First t l (x ∷ sent)
one_more t l x sent n r = record { place = suc r.place; e = r.e; is = r.is; label = r.label; first = older }
  where
    older : (i : ℕ) (f : Envelope) → i < suc r.place → slice_get (x ∷ sent) i ≡ Some f → need_of t f.from f.to f.msg ≢ Some l
    older zero f lt g k = n (subst (λ (z : Envelope). need_of t z.from z.to z.msg ≡ Some l) (sym (same_some x f g)) k)
    older (suc i) f lt g k = r.first i f (omega (arith, lt)) g k

first_in : (t : ℕ) (l : Need) (e : Envelope) (sent : List Envelope) → In e sent → need_of t e.from e.to e.msg ≡ Some l → First t l sent
first_in t l e [] i h = absurd i
first_in t l e (x ∷ sent) i h = ⊎_elim (λ k. record { place = 0; e = x; is = refl; label = k; first = λ j f lt g. absurd (omega (arith, lt)) }) (λ n. one_more t l x sent n (first_in t l e sent (tail n) h)) (has_label t l (need_of t x.from x.to x.msg))
  where
    tail : (need_of t x.from x.to x.msg ≡ Some l → ⊥) → In e sent
    tail n = ⊎_elim (λ q. absurd (n (subst (λ (z : Envelope). need_of t z.from z.to z.msg ≡ Some l) (sym q) h))) (λ j. j) i

-- a needed message with the label was delivered
pub record Delivered (v : World) (t : ℕ) (l : Need) : Type 0 where
  pub number : ℕ
  pub e : Envelope
  pub delivered : In number v.delivered
  pub is : message v.sent number ≡ Some e
  pub label : Labels t l e.from e.to e.msg

suc_not_zero : (n : ℕ) → (suc n == 0) ≡ false
suc_not_zero n = ne_eqb (suc n) 0 (λ e. omega (arith, e))

pub at_number : (sent : List Envelope) (n : ℕ) → message sent (suc n) ≡ slice_get sent n
at_number sent n = let z = suc_not_zero n in let k : suc n - 1 ≡ n = omega arith in rw (z, k)

pub delivered : (v : World) (members : List ℕ) (t : ℕ) (l : Need) (e : Envelope) → AreDelivered v members t → In e v.sent → need_of t e.from e.to e.msg ≡ Some l → IsAmong members l → Delivered v t l
delivered v members t l e all i h among =
    let r = first_in t l e v.sent i h in
    let needed : IsNeeded members t v.sent (suc r.place) = record { e = r.e; is = at_number v.sent r.place ∙ r.is; need = l; kind = r.label; among = among; first = older r } in
    record { number = suc r.place; e = r.e; delivered = all (suc r.place) needed; is = at_number v.sent r.place ∙ r.is; label = labels t r.e.from r.e.to r.e.msg l r.label }
  where
    older : (r : First t l v.sent) (i : ℕ) (f : Envelope) → i < suc r.place → message v.sent i ≡ Some f → need_of t f.from f.to f.msg ≢ Some l
    older r zero f lt g = absurd (cc)
    older r (suc i) f lt g = r.first i f (omega (arith, lt)) (sym (at_number v.sent i) ∙ g)
