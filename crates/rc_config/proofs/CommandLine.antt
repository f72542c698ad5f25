-- What `clap` finds in the words that are a form.
use Rattle.std.proofs.Common.{◌≡◌, ℕ, eqb, true, false, List, [], ◌∷◌, ◌++◌, Some, None, codes, refl, ap}
use Rattle.clap.specs.Words.{first_of, is_simple, takes, matches_of, subcommand_of}
use Rattle.clap.specs.Walk.{Walk, walk, nothing_held, idle}
use Rattle.clap.specs.Simple.{built, names_of, entered}
use Rattle.clap.proofs.OnLiterals.{clap_on_literals}
use Rattle.rc_config.specs.Program.{program, numbers_in}

pub program_is_simple : is_simple program ≡ true
unfolding clap_on_literals
program_is_simple = refl

pub takes_none : takes program [] ≡ true
unfolding clap_on_literals
takes_none = refl

pub logs_of_none : first_of (codes "logs") (matches_of program []) ≡ None
unfolding clap_on_literals
logs_of_none = refl

pub sub_of_none : subcommand_of program [] ≡ None
unfolding clap_on_literals
sub_of_none = refl

pub takes_apart : (b : ℕ) (bs : List ℕ) → eqb b 45 ≡ false → takes program (codes "--logs" ∷ (b ∷ bs) ∷ []) ≡ true
unfolding clap_on_literals
takes_apart b bs other = simp other

pub logs_apart : (b : ℕ) (bs : List ℕ) → eqb b 45 ≡ false → first_of (codes "logs") (matches_of program (codes "--logs" ∷ (b ∷ bs) ∷ [])) ≡ Some (b ∷ bs)
unfolding clap_on_literals
logs_apart b bs other = simp other

walk_apart : (b : ℕ) (bs : List ℕ) → eqb b 45 ≡ false → walk (built program).top.rules (names_of (built program)) nothing_held (codes "--logs" ∷ (b ∷ bs) ∷ []) ≡ record {
  held = record { rows = []; pending = Some (codes "logs", (b ∷ bs) ∷ []); skip = 0 };
  waiting = idle;
  position = 1;
  is_trailing = false;
  stopped = None;
}
unfolding clap_on_literals
walk_apart b bs other = simp other

pub sub_apart : (b : ℕ) (bs : List ℕ) → eqb b 45 ≡ false → subcommand_of program (codes "--logs" ∷ (b ∷ bs) ∷ []) ≡ None
unfolding clap_on_literals
sub_apart b bs other = ap (λ (w : Walk). entered (built program) w.stopped) (walk_apart b bs other)

pub takes_joined : (dir : List ℕ) → takes program ((codes "--logs=" ++ dir) ∷ []) ≡ true
unfolding clap_on_literals
takes_joined dir = refl

pub logs_joined : (dir : List ℕ) → first_of (codes "logs") (matches_of program ((codes "--logs=" ++ dir) ∷ [])) ≡ Some dir
unfolding clap_on_literals
logs_joined dir = refl

pub sub_joined : (dir : List ℕ) → subcommand_of program ((codes "--logs=" ++ dir) ∷ []) ≡ None
unfolding clap_on_literals
sub_joined dir = refl

pub takes_generate : (a b : ℕ) (xs ys : List ℕ) → eqb a 45 ≡ false → eqb b 45 ≡ false → takes program (codes "generate" ∷ (a ∷ xs) ∷ (b ∷ ys) ∷ []) ≡ true
unfolding clap_on_literals
takes_generate a b xs ys first second = simp (first, second)

pub logs_generate : (a b : ℕ) (xs ys : List ℕ) → eqb a 45 ≡ false → eqb b 45 ≡ false → first_of (codes "logs") (matches_of program (codes "generate" ∷ (a ∷ xs) ∷ (b ∷ ys) ∷ [])) ≡ None
unfolding clap_on_literals
logs_generate a b xs ys first second = refl

pub numbers_generate : (a b : ℕ) (xs ys : List ℕ) → eqb a 45 ≡ false → eqb b 45 ≡ false → numbers_in (subcommand_of program (codes "generate" ∷ (a ∷ xs) ∷ (b ∷ ys) ∷ [])) ≡ Some ((a ∷ xs), (b ∷ ys))
unfolding clap_on_literals
numbers_generate a b xs ys first second = simp (first, second)
