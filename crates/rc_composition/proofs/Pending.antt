-- What is pending in a run.
use Rattle.std.proofs.Common.{◌≡◌, ℕ, suc, ◌==◌, ◌||◌, Bool, true, false, cond, List, [], ◌∷◌, ◌++◌, length, refl, sym, ap, ◌∙◌, eq-eqb, ne_eqb, Some}
use Rattle.std.proofs.lemmas.Bool.{eqb-true}
use Rattle.std.specs.Ordering.{nat_cmp, is_eq}
use Rattle.rc_ids.specs.Tables.{member}
use Rattle.rc_ids.specs.declared.names.Party.{Party}
use Rattle.rc_net.specs.Network as net
use Rattle.rc_protocol.specs.Messages.{Posts}
use Rattle.rc_runs.specs.World.{envelopes, numbers_after, taken_out, still_pending}
use Rattle.rc_runs.specs.Refusals.{Happening, is_pending}
use Rattle.rc_wire.specs.declared.turn.Turn.{Turn}
use Rattle.rc_wire.specs.Standings.{standing}
use Rattle.rc_composition.specs.declared.command.Command.{Command}
use Rattle.rc_composition.specs.declared.command.Command.TheVariants.{Read, Write, Cancel, Commit, Vanish}
use Rattle.rc_composition.specs.Composed.{event_by}
use Rattle.rc_composition.proofs.Numbered.{test_is, or_true, or_later}
use Rattle.rc_composition.proofs.OwnEvents.{Kind, Hears, Starts, Told}

pub member_pending : (xs : List ℕ) (n : ℕ) → member nat_cmp xs n ≡ true → is_pending xs n ≡ true
member_pending [] n h = h
member_pending (x ∷ xs) n h = go (is_eq (nat_cmp n x)) refl (member_pending xs n) h
  where
    go : (b : Bool) → is_eq (nat_cmp n x) ≡ b → (member nat_cmp xs n ≡ true → is_pending xs n ≡ true) → (b || member nat_cmp xs n) ≡ true → ((x == n) || is_pending xs n) ≡ true
    go true same ih h = ap (λ (b : Bool). b || is_pending xs n) (eq-eqb x n (sym (test_is n x same)))
    go false same ih h = or_true (x == n) (is_pending xs n) (ih h)

pub pending_left : (xs ys : List ℕ) (n : ℕ) → is_pending xs n ≡ true → is_pending (xs ++ ys) n ≡ true
pending_left [] ys n h = absurd cc
pending_left (x ∷ xs) ys n h = or_later (x == n) (is_pending xs n) (is_pending (xs ++ ys) n) (pending_left xs ys n) h

pub pending_right : (xs ys : List ℕ) (n : ℕ) → is_pending ys n ≡ true → is_pending (xs ++ ys) n ≡ true
pending_right [] ys n h = h
pending_right (x ∷ xs) ys n h = or_true (x == n) (is_pending (xs ++ ys) n) (pending_right xs ys n h)

other_left : (xs : List ℕ) (m n : ℕ) → (m ≡ n → ⊥) → is_pending xs n ≡ true → is_pending (taken_out xs m) n ≡ true
other_left [] m n ne h = h
other_left (x ∷ xs) m n ne h = go (x == m) refl (other_left xs m n ne)
  where
    go : (b : Bool) → (x == m) ≡ b → (is_pending xs n ≡ true → is_pending (taken_out xs m) n ≡ true) → is_pending (cond b xs (x ∷ taken_out xs m)) n ≡ true
    go true same ih = sym (ap (λ (b : Bool). b || is_pending xs n) (ne_eqb x n (λ e. ne (sym (eqb-true x m same) ∙ e)))) ∙ h
    go false same ih = or_later (x == n) (is_pending xs n) (is_pending (taken_out xs m) n) ih h

-- the numbers of new messages
pub new_numbers : (k : ℕ) (p : Party) (ms : Posts) → net.numbers_after k (length (envelopes p ms)) ≡ numbers_after k ms
new_numbers k p [] = refl
new_numbers k p (m ∷ ms) = ap (λ (ns : List ℕ). suc k ∷ ns) (new_numbers (suc k) p ms)

told_pending : (pending : List ℕ) (t : ℕ) (k : Command) → still_pending pending (event_by t k) ≡ pending
told_pending pending t (Read k) = refl
told_pending pending t (Write k value) = refl
told_pending pending t (Cancel k) = refl
told_pending pending t Commit = refl
told_pending pending t Vanish = refl

-- a post takes out the message of its open take alone; of one that arrives twice nothing is said
pub still_there : (twice : Bool) (mine : List Turn) (p : Party) (h : Happening) (pending : List ℕ) (n : ℕ) → Kind mine p h → (twice ≡ false → (standing mine).unanswered ≡ Some n → ⊥)
    → (is_pending pending n || twice) ≡ true → (is_pending (still_pending pending h.0) n || twice) ≡ true
still_there true mine p h pending n kind other is = or_true (is_pending (still_pending pending h.0) n) true refl
still_there false mine p h pending n (Hears q m course open_take) other is = or_none (is_pending (taken_out pending m) n) (other_left pending m n (λ e. other refl (open_take ∙ ap Some e)) (none_or (is_pending pending n) is))
  where
    or_none : (a : Bool) → a ≡ true → (a || false) ≡ true
    or_none true e = refl
    or_none false e = e

    none_or : (a : Bool) → (a || false) ≡ true → a ≡ true
    none_or true e = refl
    none_or false e = e
still_there false mine p h pending n (Starts node) other is = is
still_there false mine p h pending n (Told t k) other is = ap (λ (ns : List ℕ). is_pending ns n || false) (told_pending pending t k) ∙ is
