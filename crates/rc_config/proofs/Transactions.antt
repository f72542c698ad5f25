-- The lines of transactions, one after the other.
use Rattle.std.proofs.Common.{◌≡◌, ℕ, zero, suc, ◌+◌, ◌-◌, ◌<◌, ◌≤◌, List, [], ◌∷◌, ◌++◌, length, refl, ap, ◌∙◌, sym, arith, append_assoc}
use Rattle.rc_script.specs.declared.command.Command.{Command}
use Rattle.rc_script.specs.declared.command.Command.TheVariants as commands
use Rattle.rc_config.specs.Generator.{next_state, drawn, key_name, value_name, maybe_settle, transaction_lines, lines_of, state_after, lines_from}

six_more : (cs last : List Command) (a b c d e : Command) → (((((cs ++ a ∷ []) ++ b ∷ []) ++ c ∷ []) ++ d ∷ []) ++ e ∷ []) ++ last ≡ cs ++ (a ∷ b ∷ c ∷ d ∷ e ∷ last)
six_more cs last a b c d e = simp append_assoc

-- the lines that were added are those of the transaction
pub lines_added : (tx x : ℕ) (cs : List Command)
    → (((((cs ++ commands.Begin tx ∷ []) ++ commands.Read tx (key_name (drawn 10 (next_state x))) ∷ []) ++ commands.Settle ∷ []) ++ commands.Write tx (key_name (drawn 10 (next_state (next_state x)))) (value_name tx) ∷ []) ++ commands.Commit tx ∷ []) ++ maybe_settle (drawn 4 (next_state (next_state (next_state x)))) ≡ cs ++ lines_of tx x
unfolding lines_of
lines_added tx x cs = six_more cs _ _ _ _ _ _

pub lines_chain : (tx x s1 s2 s3 a b d : ℕ) (from to value : List ℕ) (cs c1 c2 c3 c4 c5 c6 : List Command)
    → s1 ≡ next_state x → a ≡ drawn 10 s1 → from ≡ key_name a → s2 ≡ next_state s1 → b ≡ drawn 10 s2 → to ≡ key_name b
    → s3 ≡ next_state s2 → d ≡ drawn 4 s3 → value ≡ value_name tx
    → c1 ≡ cs ++ commands.Begin tx ∷ [] → c2 ≡ c1 ++ commands.Read tx from ∷ [] → c3 ≡ c2 ++ commands.Settle ∷ []
    → c4 ≡ c3 ++ commands.Write tx to value ∷ [] → c5 ≡ c4 ++ commands.Commit tx ∷ [] → c6 ≡ c5 ++ maybe_settle d
    → c6 ≡ cs ++ lines_of tx x
lines_chain tx x s1 s2 s3 a b d from to value cs c1 c2 c3 c4 c5 c6 e1 ea ef e2 eb et e3 ed ev p1 p2 p3 p4 p5 p6 =
    rw (p6, p5, p4, p3, p2, p1, et, ef, ev, ed, eb, ea, e3, e2, e1) (lines_added tx x cs)

pub state_is : (x : ℕ) → next_state (next_state (next_state x)) ≡ state_after x
unfolding state_after
state_is x = refl

few_at : (draw : ℕ) → length (maybe_settle draw) ≤ 1
few_at zero = omega arith
few_at (suc draw) = grind arith

few_lines : (tx from to draw : ℕ) → length (transaction_lines tx from to draw) ≤ 6
few_lines tx from to draw = let last = few_at draw in omega (arith, last)

-- a transaction has at most six lines
pub length_lines : (tx x : ℕ) → length (lines_of tx x) ≤ 6
unfolding lines_of
length_lines tx x = few_lines tx (drawn 10 (next_state x)) (drawn 10 (next_state (next_state x))) (drawn 4 (next_state (next_state (next_state x))))

-- where transactions are left, the first of them stands first
first_from : (count left tx x : ℕ) → left ≡ suc count → lines_from left tx x ≡ lines_of tx x ++ lines_from count (tx + 1) (state_after x)
unfolding lines_from
first_from count left tx x e = rw e refl

pub one_more : (lines more all : List Command) (size done tx x : ℕ) → done < size → lines ++ lines_from (size - done) tx x ≡ all
    → more ≡ lines ++ lines_of tx x → more ++ lines_from (size - (done + 1)) (tx + 1) (state_after x) ≡ all
one_more lines more all size done tx x left whole added =
    ap (λ (cs : List Command). cs ++ lines_from (size - (done + 1)) (tx + 1) (state_after x)) added
    ∙ append_assoc lines (lines_of tx x) (lines_from (size - (done + 1)) (tx + 1) (state_after x))
    ∙ ap (λ (cs : List Command). lines ++ cs) (sym (first_from (size - (done + 1)) (size - done) tx x (omega arith)))
    ∙ whole

pub none_left : (size done tx x : ℕ) → size ≤ done → lines_from (size - done) tx x ≡ commands.Settle ∷ []
unfolding lines_from
none_left size done tx x e = let none : size - done ≡ 0 = omega arith in rw none refl
