-- No read is wrong exactly where the map explains them all.
use Rattle.std.proofs.Common.{◌≡◌, ◌==◌, ◌↔◌, ℕ, suc, Bool, true, false, if◌then◌else◌, List, [], ◌∷◌, Option, Some, None, IsNone, inl, inr, refl, sym, ap, ◌∙◌, arith}
use Rattle.rc_ids.specs.Tables.{In, maybe}
use Rattle.rc_body.specs.declared.entry.Entry.{Entry}
use Rattle.rc_record.specs.ShardState.{version_at}
use Rattle.rc_serial.specs.OneMap.{Map, FirstWrong, Explains, body_applied, wrong_entry, first_wrong}
use Rattle.rc_serial.specs.Orders.{NoneServed}

abbrev AllGive : Map → List Entry → Type 0
AllGive m es = (e : Entry) → In e es → e.version ≡ version_at m e.key

same_version : (a b : ℕ) → (a == b) ≡ true → a ≡ b
same_version a b e = grind arith

given : (m : Map) (place : ℕ) (es : List Entry) → wrong_entry m place es ≡ None → AllGive m es
given m place [] none = λ e there. absurd there
given m place (x ∷ xs) none = tested (x.version == version_at m x.key) refl none (given m place xs)
  where
    tested : (b : Bool) → (x.version == version_at m x.key) ≡ b
        → (if b then wrong_entry m place xs else Some (record { place = place; key = x.key; expected = version_at m x.key; read = x.version })) ≡ None
        → (wrong_entry m place xs ≡ None → AllGive m xs) → AllGive m (x ∷ xs)
    tested true is none others =
        λ e there. elim there [
          | inl same ↦ ap (λ (y : Entry). y.version) (sym same) ∙ same_version x.version (version_at m x.key) is ∙ ap (λ (y : Entry). version_at m y.key) same
          | inr later ↦ others none e later
        ]
    tested false is none others = absurd cc

none_wrong : (m : Map) (place : ℕ) (es : List Entry) → AllGive m es → wrong_entry m place es ≡ None
none_wrong m place [] all = refl
none_wrong m place (x ∷ xs) all =
    let here : (x.version == version_at m x.key) ≡ true = let same = all x (inl refl) in grind arith in
    ap (λ (b : Bool). if b then wrong_entry m place xs else Some (record { place = place; key = x.key; expected = version_at m x.key; read = x.version })) here
    ∙ none_wrong m place xs (λ e there. all e (inr there))

explained : (m : Map) (place : ℕ) (xs : List (ℕ × List Entry)) → first_wrong m place xs ≡ None → Explains m xs NoneServed
explained m place [] none = tt
explained m place (x ∷ xs) none = tested (wrong_entry m place x.1) refl none (explained (body_applied m x.1) (suc place) xs)
  where
    tested : (w : Option FirstWrong) → wrong_entry m place x.1 ≡ w → maybe w (first_wrong (body_applied m x.1) (suc place) xs) Some ≡ None
        → (first_wrong (body_applied m x.1) (suc place) xs ≡ None → Explains (body_applied m x.1) xs NoneServed) → Explains m (x ∷ xs) NoneServed
    tested None is none others = (given m place x.1 is, λ k version value served. absurd served, others none)
    tested (Some w) is none others = absurd cc

all_right : (m : Map) (place : ℕ) (xs : List (ℕ × List Entry)) → Explains m xs NoneServed → first_wrong m place xs ≡ None
all_right m place [] all = refl
all_right m place (x ∷ xs) all =
    ap (λ (w : Option FirstWrong). maybe w (first_wrong (body_applied m x.1) (suc place) xs) Some) (none_wrong m place x.1 all.0)
    ∙ all_right (body_applied m x.1) (suc place) xs all.2

-- the answer is none exactly where the map explains all
pub none-explains : (m : Map) (xs : List (ℕ × List Entry)) (o : Option FirstWrong) → o ≡ first_wrong m 0 xs → IsNone o ↔ Explains m xs NoneServed
none-explains m xs None is = (λ none. explained m 0 xs (sym is), λ all. refl)
none-explains m xs (Some w) is = (λ none. absurd cc, λ all. absurd (cc (all_right m 0 xs all)))
