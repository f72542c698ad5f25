-- The commands that are generated are a script of the grammar.
use Rattle.std.proofs.Common.{ℕ, zero, suc, ◌+◌, ◌<◌, ◌≤◌, List, [], ◌∷◌, ◌++◌, refl, sym, subst, arith, inl, inr, eqb}
use Rattle.std.proofs.lemmas.Bool.{cases_Bool}
use Rattle.std.specs.List.{AllByRecursion}
use Rattle.std.proofs.lemmas.Fmt.{decimal_digit}
use Rattle.rc_ids.specs.Texts.{IsKey}
use Rattle.rc_script.specs.declared.command.Command.{Command}
use Rattle.rc_script.specs.declared.command.Command.TheVariants as commands
use Rattle.rc_script.specs.Grammar.{IsScript, FollowsWorld, MayFollow, commands_of}
use Rattle.rc_config.specs.Generator.{next_state, drawn, key_name, maybe_settle, transaction_lines, lines_of, state_after, lines_from, generated_commands, generated}
use Rattle.rc_config.proofs.Numbering.{commands_numbered}
use Rattle.rc_config.proofs.Values.{value_fits}

key_of_digit : (d : ℕ) → d < 10 → IsKey (107 ∷ (48 + d) ∷ [])
key_of_digit zero small = (omega arith, omega arith, refl)
key_of_digit (suc zero) small = (omega arith, omega arith, refl)
key_of_digit (suc (suc zero)) small = (omega arith, omega arith, refl)
key_of_digit (suc (suc (suc zero))) small = (omega arith, omega arith, refl)
key_of_digit (suc (suc (suc (suc zero)))) small = (omega arith, omega arith, refl)
key_of_digit (suc (suc (suc (suc (suc zero))))) small = (omega arith, omega arith, refl)
key_of_digit (suc (suc (suc (suc (suc (suc zero)))))) small = (omega arith, omega arith, refl)
key_of_digit (suc (suc (suc (suc (suc (suc (suc zero))))))) small = (omega arith, omega arith, refl)
key_of_digit (suc (suc (suc (suc (suc (suc (suc (suc zero)))))))) small = (omega arith, omega arith, refl)
key_of_digit (suc (suc (suc (suc (suc (suc (suc (suc (suc zero))))))))) small = (omega arith, omega arith, refl)
key_of_digit (suc (suc (suc (suc (suc (suc (suc (suc (suc (suc d)))))))))) small = absurd (omega arith)

key_fits : (d : ℕ) → d < 10 → IsKey (key_name d)
key_fits d small = rw (decimal_digit d small) (key_of_digit d small)

drawn_key : (x : ℕ) → IsKey (key_name (drawn 10 x))
drawn_key x = key_fits (drawn 10 x) (omega arith)

settle_fits : (draw : ℕ) → AllByRecursion (MayFollow 3 2) (maybe_settle draw)
settle_fits draw =
    elim (cases_Bool (eqb draw 0)) [
      | inl none ↦ rw none tt
      | inr some ↦ rw some ((tt, tt), tt)
    ]

transaction_fits : (tx from to draw : ℕ) → 1 ≤ tx → tx ≤ 4294967295 → IsKey (key_name from) → IsKey (key_name to)
    → AllByRecursion (MayFollow 3 2) (transaction_lines tx from to draw)
transaction_fits tx from to draw low high f t =
    let value = value_fits tx (omega arith) in
    ((tt, (low, high)), ((tt, ((low, high), f)), ((tt, tt), ((tt, ((low, high), t, value)), ((tt, (low, high)), settle_fits draw)))))

all_append : (P : Command → Type 0) (xs ys : List Command) → AllByRecursion P xs → AllByRecursion P ys → AllByRecursion P (xs ++ ys)
all_append P [] ys a b = b
all_append P (x ∷ xs) ys a b = (a.0, all_append P xs ys a.1 b)

lines_fit : (tx x : ℕ) → 1 ≤ tx → tx ≤ 4294967295 → AllByRecursion (MayFollow 3 2) (lines_of tx x)
unfolding lines_of
lines_fit tx x low high = transaction_fits tx _ _ _ low high (drawn_key (next_state x)) (drawn_key (next_state (next_state x)))

rest_fits : (count tx x : ℕ) → 1 ≤ tx → tx + count ≤ 4294967295 → AllByRecursion (MayFollow 3 2) (lines_from count tx x)
unfolding lines_from
rest_fits zero tx x low high = ((tt, tt), tt)
rest_fits (suc count) tx x low high = all_append (MayFollow 3 2) (lines_of tx x) (lines_from count (tx + 1) (state_after x)) (lines_fit tx x low (omega arith)) (rest_fits count (tx + 1) (state_after x) (omega arith) (omega arith))

follows : (number size : ℕ) → size ≤ 1024 → FollowsWorld 3 2 (commands.Split (key_name 5) ∷ lines_from size 1 number)
follows number size few = record {
  splits = key_name 5 ∷ [];
  others = lines_from size 1 number;
  parts = refl;
  number = refl;
  rising = refl;
  keys = (key_fits 5 (omega arith), tt);
  rest = rest_fits size 1 number (omega arith) (omega arith);
}

pub script_generated : (number size : ℕ) → size ≤ 1024 → IsScript (commands_of (generated number size))
script_generated number size few =
    subst IsScript (sym (commands_numbered 1 (generated_commands number size))) ((refl, (omega arith, omega arith), (omega arith, omega arith), tt), follows number size few)
