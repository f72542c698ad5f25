-- Messages by their numbers.
use Rattle.std.proofs.Common.{◌≡◌, ℕ, zero, suc, ◌-◌, ◌==◌, ◌||◌, Bool, true, false, cond, List, [], ◌∷◌, ◌++◌, length, refl, sym, ap, ◌∙◌, subst, arith, ne_eqb, Option, Some, None, slice_get, append_assoc}
use Rattle.std.specs.Prelude.{map, filter, is_some, All}
use Rattle.std.specs.Ordering.{nat_cmp, is_eq}
use Rattle.std.proofs.lemmas.List.Elements.{All-head, All-tail}
use Rattle.std.specs.FinMap.{nat_cmp-IsAntisymmetric}
use Rattle.rc_ids.specs.Tables.{maybe, member, removed}
use Rattle.rc_net.specs.Network.{Message, numbers_after}
use Rattle.rc_net.specs.Network as net
use Rattle.rc_msg.specs.declared.msg.Envelope.{Envelope}
use Rattle.rc_msg.specs.Reading.{envelope_in}
use Rattle.rc_msg.specs.Spelling.{HasEnvelope}
use Rattle.rc_msg.proofs.MsgLaws.{Reads-envelope_in}
use Rattle.rc_runs.specs.World as world
use Rattle.rc_agreement.proofs.Cases.{never, some_is}
use Rattle.rc_agreement.proofs.Tables.{to_equal}
use Rattle.rc_composition.specs.Messages.{wire_message}
use Rattle.rc_composition.specs.Parts.{envelope_at}

-- THE MESSAGE WITH A NUMBER
got_left : {A : Type 0} (xs ys : List A) (k : ℕ) (x : A) → slice_get xs k ≡ Some x → slice_get (xs ++ ys) k ≡ Some x
got_left [] ys k x e = never x e
got_left (y ∷ xs) ys zero x e = e
got_left (y ∷ xs) ys (suc k) x e = got_left xs ys k x e

got_map : {A B : Type 0} (f : A → B) (xs : List A) (k : ℕ) (x : A) → slice_get xs k ≡ Some x → slice_get (map f xs) k ≡ Some (f x)
got_map f [] k x e = never x e
got_map f (y ∷ xs) zero x e = ap (λ (z : _). Some (f z)) (some_is y x e)
got_map f (y ∷ xs) (suc k) x e = got_map f xs k x e

all_got : {A : Type 0} (P : A → Type 0) (xs : List A) (k : ℕ) (x : A) → All P xs → slice_get xs k ≡ Some x → P x
all_got P [] k x all e = never x e
all_got P (y ∷ xs) zero x all e = subst P (some_is y x e) (All-head P y xs all)
all_got P (y ∷ xs) (suc k) x all e = all_got P xs k x (All-tail P y xs all) e

at_number : {A : Type 0} (n : ℕ) (o : Option A) (x : A) (b : Bool) → cond b None o ≡ Some x → (b ≡ false) × (o ≡ Some x)
at_number n o x true e = never x e
at_number n o x false e = (refl, e)

-- a message of the front is one of all
pub message_on : (ms more : List Message) (n : ℕ) (m : Message) → net.message ms n ≡ Some m → net.message (ms ++ more) n ≡ Some m
message_on ms more n m e =
    let at = at_number n (slice_get ms (n - 1)) m (n == 0) e in
    ap (λ (b : Bool). cond b None (slice_get (ms ++ more) (n - 1))) at.0 ∙ got_left ms more (n - 1) m at.1

-- a message of the run is one of the wire
pub on_wire : (es : List Envelope) (n : ℕ) (e : Envelope) → world.message es n ≡ Some e → net.message (map wire_message es) n ≡ Some (wire_message e)
on_wire es n e is =
    let at = at_number n (slice_get es (n - 1)) e (n == 0) is in
    ap (λ (b : Bool). cond b None (slice_get (map wire_message es) (n - 1))) at.0 ∙ got_map wire_message es (n - 1) e at.1

spelled_at : (es : List Envelope) (n : ℕ) (e : Envelope) → All HasEnvelope es → world.message es n ≡ Some e → HasEnvelope e
spelled_at es n e all is = all_got HasEnvelope es (n - 1) e all (at_number n (slice_get es (n - 1)) e (n == 0) is).1

-- and reads so, where the wire sent these and more
pub reads_so : (es : List Envelope) (more full : List Message) (n : ℕ) (e : Envelope) → full ≡ map wire_message es ++ more → All HasEnvelope es → world.message es n ≡ Some e
    → (net.message full n ≡ Some (wire_message e)) × (envelope_at full n ≡ Some e)
reads_so es more full n e is all at =
    let m : net.message full n ≡ Some (wire_message e) = ap (λ (ms : List Message). net.message ms n) is ∙ message_on (map wire_message es) more n (wire_message e) (on_wire es n e at) in
    (m, ap (λ (o : Option Message). maybe o None (λ m. envelope_in m.bytes)) m ∙ Reads-envelope_in.again e (spelled_at es n e all at))

-- SENT NUMBERS
-- the message with this number is there
abbrev pub is_there : List Envelope → ℕ → Bool
is_there es n = is_some (world.message es n)

pub there : (es : List Envelope) (n : ℕ) → is_there es n ≡ true → (e : Envelope) × (world.message es n ≡ Some e)
there es n h = go (world.message es n) refl h
  where
    go : (o : Option Envelope) → world.message es n ≡ o → is_some o ≡ true → (e : Envelope) × (world.message es n ≡ Some e)
    go None is h = absurd cc
    go (Some e) is h = (e, is)

pub there_on : (es more : List Envelope) (n : ℕ) → is_there es n ≡ true → is_there (es ++ more) n ≡ true
there_on es more n h =
    let e = there es n h in
    let at = at_number n (slice_get es (n - 1)) e.0 (n == 0) e.1 in
    ap is_some (ap (λ (b : Bool). cond b None (slice_get (es ++ more) (n - 1))) at.0 ∙ got_left es more (n - 1) e.0 at.1)

pub test_is : (x y : ℕ) → is_eq (nat_cmp x y) ≡ true → x ≡ y
test_is x y h = nat_cmp-IsAntisymmetric x y (to_equal _ h)

pub or_true : (a b : Bool) → b ≡ true → (a || b) ≡ true
or_true true b e = refl
or_true false b e = e

or_parts : {P : Type 0} (a b : Bool) → (a ≡ true → P) → (b ≡ true → P) → (a || b) ≡ true → P
or_parts true b p q e = p refl
or_parts false b p q e = q e

next_there : (es : List Envelope) (e : Envelope) (more : List Envelope) → is_there (es ++ e ∷ more) (suc (length es)) ≡ true
next_there es e more =
    let k : suc (length es) - 1 ≡ length es = omega arith in
    ap (λ (b : Bool). is_some (cond b None (slice_get (es ++ e ∷ more) (suc (length es) - 1)))) (ne_eqb (suc (length es)) 0 (λ z. absurd (omega arith)))
    ∙ ap (λ (i : ℕ). is_some (slice_get (es ++ e ∷ more) i)) k ∙ got_next es
  where
    got_next : (xs : List Envelope) → is_some (slice_get (xs ++ e ∷ more) (length xs)) ≡ true
    got_next [] = refl
    got_next (x ∷ xs) = got_next xs

-- the numbers of new messages are there
pub new_there : (es more : List Envelope) (n : ℕ) → member nat_cmp (numbers_after (length es) (length more)) n ≡ true → is_there (es ++ more) n ≡ true
new_there es [] n h = absurd cc
new_there es (e ∷ more) n h =
    or_parts (is_eq (nat_cmp n (suc (length es)))) (member nat_cmp (numbers_after (suc (length es)) (length more)) n)
    (λ (same : is_eq (nat_cmp n (suc (length es))) ≡ true). ap (is_there (es ++ e ∷ more)) (test_is n (suc (length es)) same) ∙ next_there es e more)
    (λ (rest : member nat_cmp (numbers_after (suc (length es)) (length more)) n ≡ true).
    ap (λ (xs : List Envelope). is_there xs n) (sym (append_assoc es (e ∷ []) more))
    ∙ new_there (es ++ e ∷ []) more n (ap (λ (k : ℕ). member nat_cmp (numbers_after k (length more)) n) (longer es) ∙ rest)) h
  where
    longer : (xs : List Envelope) → length (xs ++ e ∷ []) ≡ suc (length xs)
    longer [] = refl
    longer (x ∷ xs) = ap suc (longer xs)

-- MEMBERS
pub member_either : (n : ℕ) (xs ys : List ℕ) {P : Type 0} → (member nat_cmp xs n ≡ true → P) → (member nat_cmp ys n ≡ true → P) → member nat_cmp (xs ++ ys) n ≡ true → P
member_either n [] ys p q h = q h
member_either n (x ∷ xs) ys {P} p q h =
    or_parts (is_eq (nat_cmp n x)) (member nat_cmp (xs ++ ys) n)
    (λ (same : is_eq (nat_cmp n x) ≡ true). p (ap (λ (b : Bool). b || member nat_cmp xs n) same))
    (member_either n xs ys (λ (h : member nat_cmp xs n ≡ true). p (or_true (is_eq (nat_cmp n x)) (member nat_cmp xs n) h)) q) h

pub or_later : (a b c : Bool) → (b ≡ true → c ≡ true) → (a || b) ≡ true → (a || c) ≡ true
or_later true b c f h = refl
or_later false b c f h = f h

pub member_filtered : (f : ℕ → Bool) (n : ℕ) (xs : List ℕ) → member nat_cmp (filter f xs) n ≡ true → member nat_cmp xs n ≡ true
member_filtered f n [] h = h
member_filtered f n (x ∷ xs) h = go (f x) (member_filtered f n xs) h
  where
    go : (b : Bool) → (member nat_cmp (filter f xs) n ≡ true → member nat_cmp xs n ≡ true) → member nat_cmp (cond b (x ∷ filter f xs) (filter f xs)) n ≡ true
        → (is_eq (nat_cmp n x) || member nat_cmp xs n) ≡ true
    go true ih h = or_later (is_eq (nat_cmp n x)) (member nat_cmp (filter f xs) n) (member nat_cmp xs n) ih h
    go false ih h = or_true (is_eq (nat_cmp n x)) (member nat_cmp xs n) (ih h)

pub member_left : (n k : ℕ) (xs : List ℕ) → member nat_cmp (removed nat_cmp xs k) n ≡ true → member nat_cmp xs n ≡ true
member_left n k [] h = h
member_left n k (x ∷ xs) h = go (is_eq (nat_cmp k x)) (member_left n k xs) h
  where
    go : (b : Bool) → (member nat_cmp (removed nat_cmp xs k) n ≡ true → member nat_cmp xs n ≡ true) → member nat_cmp (cond b xs (x ∷ removed nat_cmp xs k)) n ≡ true
        → (is_eq (nat_cmp n x) || member nat_cmp xs n) ≡ true
    go true ih h = or_true (is_eq (nat_cmp n x)) (member nat_cmp xs n) h
    go false ih h = or_later (is_eq (nat_cmp n x)) (member nat_cmp (removed nat_cmp xs k) n) (member nat_cmp xs n) ih h
