-- Words that are a form: `clap` takes them, and what it finds gives their mode.
use Rattle.std.proofs.Common.{◌≡◌, ℕ, ◌+◌, ◌%◌, ◌^◌, ◌<◌, eqb, Bool, true, false, ◌&&◌, List, [], ◌∷◌, ◌++◌, Option, Some, None, codes, refl, sym, ap, ◌∙◌, subst, arith, inl, inr}
use Rattle.std.specs.List.{AllByRecursion}
use Rattle.std.specs.Char.{encode_utf8}
use Rattle.std.specs.Str.{bytes_eq, chars, is_utf8, IsUtf8}
use Rattle.std.specs.Fmt.{decimal}
use Rattle.std.proofs.lemmas.Bool.{ne_eqb}
use Rattle.std.proofs.lemmas.Slice.Eq.{bytes_eq-Decides}
use Rattle.std.proofs.lemmas.Str.{IsUtf8-append, IsUtf8-from_ascii, IsUtf8-from_is_utf8}
use Rattle.std.proofs.lemmas.Fmt.{decimal_by_steps, IsAscii-decimal}
use Rattle.rc_script.specs.Spelling.{IsIn}
use Rattle.rc_script.specs.Words.{number_in}
use Rattle.rc_script.proofs.Numerals.{number_in_taken, number_in_again}
use Rattle.clap.specs.Words.{Row, first_of, takes, matches_of, subcommand_of}
use Rattle.rc_config.specs.declared.mode.Mode.{Mode}
use Rattle.rc_config.specs.declared.mode.Mode.TheVariants as modes
use Rattle.rc_config.specs.Program.{program, numbers_in}
use Rattle.std.specs.Prelude.{Result, Ok, Err, IsErrAnd}
use Rattle.rc_config.specs.declared.mode.WordsFault.{WordsFault}
use Rattle.rc_config.specs.declared.mode.WordsFault.TheVariants.{NoMemory, BadWords}
use Rattle.rc_config.specs.Words.{IsWordsOf, IsNoOption, GivesMode}
use Rattle.rc_config.specs.Checks.{is_no_option, names_logs, names_generate, logs_mode, generate_mode, mode_found}
use Rattle.rc_config.proofs.CommandLine.{takes_none, logs_of_none, sub_of_none, takes_apart, logs_apart, sub_apart, takes_joined, logs_joined, sub_joined, takes_generate, logs_generate, numbers_generate}

-- ---- what is checked is a form

both_true : (a b : Bool) → (a && b) ≡ true → (a ≡ true) × (b ≡ true)
both_true true b e = (refl, e)
both_true false b e = absurd cc

named_generate : (words : List (List ℕ)) (number size : List ℕ) → names_generate words number size ≡ true → words ≡ codes "generate" ∷ number ∷ size ∷ []
named_generate [] number size e = absurd cc
named_generate (a ∷ []) number size e = absurd cc
named_generate (a ∷ b ∷ []) number size e = absurd cc
named_generate (a ∷ b ∷ c ∷ []) number size e =
    let p = both_true (bytes_eq a (codes "generate")) (bytes_eq b number && bytes_eq c size) e in
    let q = both_true (bytes_eq b number) (bytes_eq c size) p.1 in
    let first : a ≡ codes "generate" = (bytes_eq-Decides a (codes "generate")).0 p.0 in
    let second : b ≡ number = (bytes_eq-Decides b number).0 q.0 in
    let third : c ≡ size = (bytes_eq-Decides c size).0 q.1 in
    (cc)
named_generate (a ∷ b ∷ c ∷ d ∷ more) number size e = absurd cc

pub generate_form : (words : List (List ℕ)) (number_word size_word : List ℕ) (number size : ℕ) → number_in 0 2147483647 number_word ≡ Some number → number_in 1 1024 size_word ≡ Some size
    → names_generate words number_word size_word ≡ true → IsIn 0 2147483647 number × IsIn 1 1024 size × (words ≡ codes "generate" ∷ decimal number ∷ decimal size ∷ [])
generate_form words number_word size_word number size n s named =
    let a = number_in_taken 0 2147483647 number_word number (omega arith) n in
    let b = number_in_taken 1 1024 size_word size (omega arith) s in
    (a.1, b.1, named_generate words number_word size_word named ∙ ap (λ (w : List ℕ). codes "generate" ∷ w ∷ size_word ∷ []) a.0 ∙ ap (λ (w : List ℕ). codes "generate" ∷ decimal number ∷ w ∷ []) b.0)

-- ---- a form is taken, and found

same_bytes : (xs : List ℕ) → bytes_eq xs xs ≡ true
same_bytes xs = (bytes_eq-Decides xs xs).1 refl

-- the first digit is no hyphen
record Begins (text : List ℕ) : Type 0 where
  first : ℕ
  rest : List ℕ
  whole : text ≡ first ∷ rest
  other : eqb first 45 ≡ false

begins_longer : (digits : List ℕ) (digit : ℕ) → Begins digits → Begins (digits ++ digit ∷ [])
begins_longer digits digit b = record { first = b.first; rest = b.rest ++ digit ∷ []; whole = ap (λ (ds : List ℕ). ds ++ digit ∷ []) b.whole; other = b.other }

digit_begins : (n : ℕ) → Begins ((48 + n) ∷ [])
digit_begins n = record { first = 48 + n; rest = []; whole = refl; other = ne_eqb _ _ (λ same. absurd (omega arith)) }

decimal_begins : (n : ℕ) → n < 2 ^ 64 → Begins (decimal n)
decimal_begins n small = decimal_by_steps (λ _ digits. Begins digits) (λ n one. digit_begins n) (λ n digits long more. begins_longer digits (48 + n % 10) more) n small

dir_begins : (dir : List ℕ) → IsNoOption dir → Begins dir
dir_begins [] begins = absurd begins
dir_begins (b ∷ bs) begins = record { first = b; rest = bs; whole = refl; other = ne_eqb b 45 begins }

takes_apart_dir : (dir : List ℕ) → Begins dir → takes program (codes "--logs" ∷ dir ∷ []) ≡ true
takes_apart_dir dir b = rw b.whole (takes_apart b.first b.rest b.other)

takes_numbers : (n s : List ℕ) → Begins n → Begins s → takes program (codes "generate" ∷ n ∷ s ∷ []) ≡ true
takes_numbers n s a b = rw (a.whole, b.whole) (takes_generate a.first b.first a.rest b.rest a.other b.other)

pub form_taken : (words : List (List ℕ)) (mode : Mode) → IsWordsOf words mode → takes program words ≡ true
form_taken words modes.Plain e = rw e takes_none
form_taken words (modes.Logs dir) form = elim form.1 [
  | inl e ↦ rw e (takes_apart_dir dir (dir_begins dir form.0.1))
  | inr e ↦ rw e (takes_joined dir)
]
form_taken words (modes.Generate number size) form = rw form.2 (takes_numbers (decimal number) (decimal size) (decimal_begins number (omega (arith, form.0.1))) (decimal_begins size (omega (arith, form.1.1))))

no_option : (dir : List ℕ) → IsNoOption dir → is_no_option dir ≡ true
no_option [] begins = absurd begins
no_option (b ∷ bs) begins = rw (ne_eqb b 45 begins) refl

logs_found : (words : List (List ℕ)) (dir : List ℕ) → IsNoOption dir → names_logs words dir ≡ true → logs_mode words dir ≡ Some (modes.Logs dir)
logs_found words dir begins named = rw (no_option dir begins, named) refl

joined_named : (dir : List ℕ) → names_logs ((codes "--logs=" ++ dir) ∷ []) dir ≡ true
joined_named dir = same_bytes dir

module _ (words : List (List ℕ)) where
  found_by : (logs : Option (List ℕ)) (numbers : Option (List ℕ × List ℕ)) (mode : Option Mode) → first_of (codes "logs") (matches_of program words) ≡ logs → numbers_in (subcommand_of program words) ≡ numbers → mode_found words logs numbers ≡ mode
      → mode_found words (first_of (codes "logs") (matches_of program words)) (numbers_in (subcommand_of program words)) ≡ mode
  found_by logs numbers mode l n e = ap (λ (o : Option (List ℕ)). mode_found words o (numbers_in (subcommand_of program words))) l ∙ ap (mode_found words logs) n ∙ e

found_apart : (dir : List ℕ) → IsNoOption dir → Begins dir → (let words : List (List ℕ) = codes "--logs" ∷ dir ∷ [] in mode_found words (first_of (codes "logs") (matches_of program words)) (numbers_in (subcommand_of program words)) ≡ Some (modes.Logs dir))
unfolding mode_found
found_apart dir begins b =
    found_by (codes "--logs" ∷ dir ∷ []) (Some dir) None (Some (modes.Logs dir))
    (rw b.whole (logs_apart b.first b.rest b.other)) (rw b.whole (ap numbers_in (sub_apart b.first b.rest b.other)))
    (logs_found (codes "--logs" ∷ dir ∷ []) dir begins (same_bytes dir))

found_joined : (dir : List ℕ) → IsNoOption dir → (let words : List (List ℕ) = (codes "--logs=" ++ dir) ∷ [] in mode_found words (first_of (codes "logs") (matches_of program words)) (numbers_in (subcommand_of program words)) ≡ Some (modes.Logs dir))
unfolding mode_found
found_joined dir begins =
    found_by ((codes "--logs=" ++ dir) ∷ []) (Some dir) None (Some (modes.Logs dir)) (logs_joined dir) (ap numbers_in (sub_joined dir))
    (logs_found ((codes "--logs=" ++ dir) ∷ []) dir begins (joined_named dir))

both_named : (n s : List ℕ) → names_generate (codes "generate" ∷ n ∷ s ∷ []) n s ≡ true
both_named n s = rw (same_bytes n, same_bytes s) refl

generate_found : (number size : ℕ) → IsIn 0 2147483647 number → IsIn 1 1024 size → generate_mode (codes "generate" ∷ decimal number ∷ decimal size ∷ []) (decimal number) (decimal size) ≡ Some (modes.Generate number size)
generate_found number size n s = rw (number_in_again 0 2147483647 number (omega arith) n, number_in_again 1 1024 size (omega arith) s, both_named (decimal number) (decimal size)) refl

found_numbers : (number size : ℕ) → IsIn 0 2147483647 number → IsIn 1 1024 size → Begins (decimal number) → Begins (decimal size) → (let words : List (List ℕ) = codes "generate" ∷ decimal number ∷ decimal size ∷ [] in mode_found words (first_of (codes "logs") (matches_of program words)) (numbers_in (subcommand_of program words)) ≡ Some (modes.Generate number size))
unfolding mode_found
found_numbers number size n s a b =
    found_by (codes "generate" ∷ decimal number ∷ decimal size ∷ []) None (Some (decimal number, decimal size)) (Some (modes.Generate number size))
    (rw (a.whole, b.whole) (logs_generate a.first b.first a.rest b.rest a.other b.other)) (rw (a.whole, b.whole) (numbers_generate a.first b.first a.rest b.rest a.other b.other))
    (generate_found number size n s)

found_none : mode_found [] (first_of (codes "logs") (matches_of program [])) (numbers_in (subcommand_of program [])) ≡ Some modes.Plain
unfolding mode_found
found_none = found_by [] None None (Some modes.Plain) logs_of_none (ap numbers_in sub_of_none) refl

pub form_found : (words : List (List ℕ)) (mode : Mode) → IsWordsOf words mode → mode_found words (first_of (codes "logs") (matches_of program words)) (numbers_in (subcommand_of program words)) ≡ Some mode
form_found words modes.Plain e = rw e found_none
form_found words (modes.Logs dir) form = elim form.1 [
  | inl e ↦ rw e (found_apart dir form.0.1 (dir_begins dir form.0.1))
  | inr e ↦ rw e (found_joined dir form.0.1)
]
form_found words (modes.Generate number size) form = rw form.2 (found_numbers number size form.0 form.1 (decimal_begins number (omega (arith, form.0.1))) (decimal_begins size (omega (arith, form.1.1))))

decimal_utf8 : (n : ℕ) → n < 2 ^ 64 → IsUtf8 (decimal n)
decimal_utf8 n small = IsUtf8-from_ascii (decimal n) (IsAscii-decimal n small)

logs_utf8 : IsUtf8 (codes "--logs")
unfolding is_utf8 chars encode_utf8
logs_utf8 = IsUtf8-from_is_utf8 (codes "--logs") refl

joined_utf8 : IsUtf8 (codes "--logs=")
unfolding is_utf8 chars encode_utf8
joined_utf8 = IsUtf8-from_is_utf8 (codes "--logs=") refl

generate_utf8 : IsUtf8 (codes "generate")
unfolding is_utf8 chars encode_utf8
generate_utf8 = IsUtf8-from_is_utf8 (codes "generate") refl

-- a form is of texts
pub form_utf8 : (words : List (List ℕ)) (mode : Mode) → IsWordsOf words mode → AllByRecursion IsUtf8 words
form_utf8 words modes.Plain e = subst (AllByRecursion IsUtf8) (sym e) tt
form_utf8 words (modes.Logs dir) form = elim form.1 [
  | inl e ↦ subst (AllByRecursion IsUtf8) (sym e) (logs_utf8, (form.0.0, tt))
  | inr e ↦ subst (AllByRecursion IsUtf8) (sym e) (IsUtf8-append (codes "--logs=") dir (joined_utf8) form.0.0, tt)
]
form_utf8 words (modes.Generate number size) form =
    subst (AllByRecursion IsUtf8) (sym form.2) (generate_utf8, (decimal_utf8 number (omega (arith, form.0.1)), (decimal_utf8 size (omega (arith, form.1.1)), tt)))

-- a fault that is not of the words is passed on
pub passed_on : (given : Result Mode WordsFault) (fault : WordsFault) (mode : Mode) → IsErrAnd given (λ e. e ≡ fault) → (fault ≡ BadWords → ⊥) → GivesMode mode given
passed_on (Ok m) fault mode same other = absurd same
passed_on (Err NoMemory) fault mode same other = tt
passed_on (Err BadWords) fault mode same other = other (sym same)

-- what is found in words that are a form is their mode
pub mode_is : (words texts : List (List ℕ)) (logs : Option (List ℕ)) (numbers : Option (List ℕ × List ℕ)) (rows : List Row) (met : Option (List ℕ × List Row)) (found : Option Mode) (mode : Mode)
    → texts ≡ words → rows ≡ matches_of program texts → met ≡ subcommand_of program texts → logs ≡ first_of (codes "logs") rows → numbers ≡ numbers_in met → found ≡ mode_found words logs numbers
    → IsWordsOf words mode → found ≡ Some mode
mode_is words texts logs numbers rows met found mode t r m l n f form =
    f ∙ ap (λ (o : Option (List ℕ)). mode_found words o numbers) (l ∙ ap (first_of (codes "logs")) (r ∙ ap (matches_of program) t))
    ∙ ap (mode_found words (first_of (codes "logs") (matches_of program words))) (n ∙ ap numbers_in (m ∙ ap (subcommand_of program) t)) ∙ form_found words mode form
