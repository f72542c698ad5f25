-- A line that spells a command is read as it.
use Rattle.std.proofs.Common.{◌≡◌, ℕ, ◌%◌, ◌<◌, ◌≤◌, eqb, leb, true, List, [], ◌∷◌, ◌++◌, length, map, Option, Some, None, refl, sym, ap, ◌∙◌, arith, inl, inr}
use Rattle.std.specs.Prelude.{codes, unwrap_or, IfSome}
use Rattle.std.specs.List.{join_with_byte}
use Rattle.std.specs.Fmt.{decimal}
use Rattle.std.proofs.lemmas.Bool.{eq-eqb, le-leb}
use Rattle.rc_ids.specs.Texts.{IsKey, IsText}
use Rattle.rc_ids.specs.declared.names.NodeId.{NodeId}
use Rattle.rc_script.specs.declared.verb.Verb.{Verb}
use Rattle.rc_script.specs.declared.verb.Verb.TheVariants as verbs
use Rattle.rc_script.specs.declared.command.Command.{Command}
use Rattle.rc_script.specs.declared.command.Command.TheVariants as commands
use Rattle.rc_script.specs.Words.{◌>>=◌, only_if, cut, first_word, later_words, text_after, number_in, tx_of, dc_of, node_of, key_of, val_of}
use Rattle.rc_script.specs.Commands.{verb_of, tx_and_key, weights_of, world_of, write_of, messages_of, crash_of, take_of, plain_command, command_from, command_of}
use Rattle.rc_script.specs.Spelling.{tx_name, dc_name, node_name, weight_words, spelling, IsShortWrite, Spells, IsIn, IsTx, IsNodeOf, AreMessages, AreWeights, IsCommandOf}
use Rattle.rc_script.proofs.Numerals.{number_in_again}
use Rattle.rc_script.proofs.Texts.{lacks, lacks_decimal, cut_free, cut_joined, key_again, val_again, lacks_key}
use Rattle.rc_script.proofs.Names.{tx_again, lacks_tx, dc_again, lacks_dc, node_again, lacks_node, numbers_again, join_later}

later_cut : (words first later : List ℕ) → cut 32 words ≡ (first, Some later) → later_words words ≡ Some later
later_cut words first later e = ap (λ (p : List ℕ × Option (List ℕ)). p.1) e

first_cut : (words first : List ℕ) (later : Option (List ℕ)) → cut 32 words ≡ (first, later) → first_word words ≡ first
first_cut words first later e = ap (λ (p : List ℕ × Option (List ℕ)). p.0) e

tx_key_again : (tx : ℕ) (key : List ℕ) → IsTx tx → IsKey key → tx_and_key (tx_name tx ++ 32 ∷ key) ≡ Some (tx, key)
tx_key_again tx key of_tx of_key =
    ap (λ (p : List ℕ × Option (List ℕ)). p.1 >>= λ key_word. tx_of p.0 >>= λ tx. key_of key_word >>= λ key. Some (tx, key)) (cut_joined 32 (tx_name tx) key (lacks_tx tx of_tx))
    ∙ rw (tx_again tx of_tx, key_again key of_key) refl

-- with the words behind a first one: what is read of them where the text is cut
write_again : (tx : ℕ) (key val others : List ℕ) (later : Option (List ℕ)) → IsTx tx → IsKey key → IsText val → cut 32 others ≡ (key, later) → unwrap_or later [] ≡ val
    → write_of (tx_name tx ++ 32 ∷ others) ≡ Some (commands.Write tx key val)
write_again tx key val others later of_tx of_key of_val split text =
    ap (λ (p : List ℕ × Option (List ℕ)). p.1 >>= λ others. tx_of p.0 >>= λ tx. key_of (first_word others) >>= λ key. val_of (unwrap_or (later_words others) []) >>= λ val. Some (commands.Write tx key val)) (cut_joined 32 (tx_name tx) others (lacks_tx tx of_tx))
    ∙ ap (λ (p : List ℕ × Option (List ℕ)). tx_of (tx_name tx) >>= λ tx. key_of p.0 >>= λ key. val_of (unwrap_or p.1 []) >>= λ val. Some (commands.Write tx key val)) split
    ∙ rw (text, tx_again tx of_tx, key_again key of_key, val_again val of_val) refl

-- how weights stand behind the number of shards
record Stands (n : ℕ) (text front : List ℕ) (weights : Option (List ℕ)) : Type 0 where
  later : Option (List ℕ)
  split : cut 32 text ≡ (front, later)
  reads : weights_of n later ≡ Some weights

weights_again : (n : ℕ) (front : List ℕ) (weights : Option (List ℕ)) → 1 ≤ n → lacks 32 front ≡ true → IfSome weights (AreWeights n) → Stands n (join_with_byte 32 (front ∷ weight_words weights)) front weights
weights_again n front None some free fits = record { later = None; split = cut_free 32 front free; reads = refl }
weights_again n front (Some weights) some free fits =
    let many : 0 < length weights = omega (arith, fits.0) in
    let text = join_with_byte 32 (map decimal weights) in
    let counted : eqb (length weights) n ≡ true = eq-eqb _ _ fits.0 in
    record {
      later = Some text;
      split = ap (cut 32) (join_later front weights many) ∙ cut_joined 32 front text free;
      reads = rw (numbers_again 1 9 weights (omega arith) many fits.1, counted) refl;
    }

world_again : (n s : ℕ) (weights : Option (List ℕ)) → n % 2 ≡ 1 → IsIn 1 7 n → IsIn 1 8 s → IfSome weights (AreWeights n)
    → world_of (decimal n ++ 32 ∷ join_with_byte 32 (decimal s ∷ weight_words weights)) ≡ Some (commands.World n s weights)
world_again n s weights odd of_n of_s of_weights =
    let others = join_with_byte 32 (decimal s ∷ weight_words weights) in
    let stands = weights_again n (decimal s) weights of_n.0 (lacks_decimal 32 s (omega arith) (omega (arith, of_s.1))) of_weights in
    let is_odd : eqb (n % 2) 1 ≡ true = eq-eqb _ _ odd in
    ap (λ (p : List ℕ × Option (List ℕ)). p.1 >>= λ others. number_in 1 7 p.0 >>= λ n. number_in 1 8 (first_word others) >>= λ s. weights_of n (later_words others) >>= λ weights. only_if (eqb (n % 2) 1) (commands.World n s weights)) (cut_joined 32 (decimal n) others (lacks_decimal 32 n (omega arith) (omega (arith, of_n.1))))
    ∙ ap (λ (p : List ℕ × Option (List ℕ)). number_in 1 7 (decimal n) >>= λ n. number_in 1 8 p.0 >>= λ s. weights_of n p.1 >>= λ weights. only_if (eqb (n % 2) 1) (commands.World n s weights)) stands.split
    ∙ rw (number_in_again 1 7 n (omega arith) of_n, number_in_again 1 8 s (omega arith) of_s, stands.reads, is_odd) refl

messages_again : (numbers : List ℕ) → AreMessages numbers → messages_of (join_with_byte 32 (map decimal numbers)) ≡ Some numbers
messages_again numbers fits =
    let few : leb (length numbers) 64 ≡ true = le-leb _ _ fits.0.1 in
    rw (numbers_again 0 4294967295 numbers (omega arith) fits.0.0 fits.1, few) refl

crash_again : (node : NodeId) (call pick : ℕ) → IsIn 1 1000 call → IsIn 0 3 pick → crash_of node (Some (codes "at " ++ (decimal call ++ 32 ∷ (codes "pick " ++ decimal pick)))) ≡ Some (commands.CrashAt node call pick)
crash_again node call pick of_call of_pick =
    ap (λ (p : List ℕ × Option (List ℕ)). p.1 >>= λ from_pick. text_after (codes "pick ") from_pick >>= λ pick_word. number_in 1 1000 p.0 >>= λ call. number_in 0 3 pick_word >>= λ pick. Some (commands.CrashAt node call pick)) (cut_joined 32 (decimal call) (codes "pick " ++ decimal pick) (lacks_decimal 32 call (omega arith) (omega (arith, of_call.1))))
    ∙ rw (number_in_again 1 1000 call (omega arith) of_call, number_in_again 0 3 pick (omega arith) of_pick) refl

take_again : (dcs dc tx : ℕ) → dcs ≤ 7 → IsIn 1 dcs dc → IsTx tx → take_of dcs (dc_name dc ++ 32 ∷ tx_name tx) ≡ Some (commands.Take dc tx)
take_again dcs dc tx few of_dc of_tx =
    ap (λ (p : List ℕ × Option (List ℕ)). p.1 >>= λ tx_word. dc_of dcs p.0 >>= λ dc. tx_of tx_word >>= λ tx. Some (commands.Take dc tx)) (cut_joined 32 (dc_name dc) (tx_name tx) (lacks_dc 32 dcs dc (omega arith) few of_dc))
    ∙ rw (dc_again dcs dc few of_dc, tx_again tx of_tx) refl

-- ---- lines

line_cut : (dcs shards : ℕ) (line first : List ℕ) (later : Option (List ℕ)) (verb : Verb) → cut 32 line ≡ (first, later) → verb_of first ≡ Some verb → command_of dcs shards line ≡ command_from dcs shards verb later
unfolding command_of
line_cut dcs shards line first later verb split named =
    ap (λ (p : List ℕ × Option (List ℕ)). verb_of p.0 >>= λ verb. command_from dcs shards verb p.1) split ∙ ap (λ (o : Option Verb). o >>= λ verb. command_from dcs shards verb later) named

node_line : (dcs shards : ℕ) (node : NodeId) (words : List ℕ) (later : Option (List ℕ)) → dcs ≤ 7 → shards ≤ 8 → IsNodeOf dcs shards node → cut 32 words ≡ (node_name node, later)
    → plain_command dcs shards verbs.Crash words ≡ crash_of node later
node_line dcs shards node words later few small fits split =
    ap (λ (p : List ℕ × Option (List ℕ)). node_of dcs shards p.0 >>= λ node. crash_of node p.1) split ∙ ap (λ (o : Option NodeId). o >>= λ node. crash_of node later) (node_again dcs shards node few small fits)

pub spelling_again : (dcs shards : ℕ) (c : Command) → dcs ≤ 7 → shards ≤ 8 → IsCommandOf dcs shards c → command_of dcs shards (spelling c) ≡ Some c
spelling_again dcs shards (commands.World n s weights) few small fits = line_cut dcs shards (codes "world" ++ 32 ∷ (decimal n ++ 32 ∷ join_with_byte 32 (decimal s ∷ weight_words weights))) (codes "world") (Some (decimal n ++ 32 ∷ join_with_byte 32 (decimal s ∷ weight_words weights))) verbs.World (cut_joined 32 (codes "world") (decimal n ++ 32 ∷ join_with_byte 32 (decimal s ∷ weight_words weights)) refl) refl ∙ world_again n s weights fits.0 fits.1 fits.2 fits.3
spelling_again dcs shards (commands.Split key) few small fits = line_cut dcs shards (codes "split" ++ 32 ∷ (key)) (codes "split") (Some (key)) verbs.Split (cut_joined 32 (codes "split") (key) refl) refl ∙ rw (key_again key fits) refl
spelling_again dcs shards (commands.Begin tx) few small fits = line_cut dcs shards (codes "begin" ++ 32 ∷ (tx_name tx)) (codes "begin") (Some (tx_name tx)) verbs.Begin (cut_joined 32 (codes "begin") (tx_name tx) refl) refl ∙ rw (tx_again tx fits) refl
spelling_again dcs shards (commands.Read tx key) few small fits = line_cut dcs shards (codes "read" ++ 32 ∷ (tx_name tx ++ 32 ∷ key)) (codes "read") (Some (tx_name tx ++ 32 ∷ key)) verbs.Read (cut_joined 32 (codes "read") (tx_name tx ++ 32 ∷ key) refl) refl ∙ rw (tx_key_again tx key fits.0 fits.1) refl
spelling_again dcs shards (commands.Write tx key val) few small fits = line_cut dcs shards (codes "write" ++ 32 ∷ (tx_name tx ++ 32 ∷ (key ++ 32 ∷ val))) (codes "write") (Some (tx_name tx ++ 32 ∷ (key ++ 32 ∷ val))) verbs.Write (cut_joined 32 (codes "write") (tx_name tx ++ 32 ∷ (key ++ 32 ∷ val)) refl) refl ∙ write_again tx key val (key ++ 32 ∷ val) (Some val) fits.0 fits.1 fits.2 (cut_joined 32 key val (lacks_key key fits.1)) refl
spelling_again dcs shards (commands.Delete tx key) few small fits = line_cut dcs shards (codes "delete" ++ 32 ∷ (tx_name tx ++ 32 ∷ key)) (codes "delete") (Some (tx_name tx ++ 32 ∷ key)) verbs.Delete (cut_joined 32 (codes "delete") (tx_name tx ++ 32 ∷ key) refl) refl ∙ rw (tx_key_again tx key fits.0 fits.1) refl
spelling_again dcs shards (commands.Commit tx) few small fits = line_cut dcs shards (codes "commit" ++ 32 ∷ (tx_name tx)) (codes "commit") (Some (tx_name tx)) verbs.Commit (cut_joined 32 (codes "commit") (tx_name tx) refl) refl ∙ rw (tx_again tx fits) refl
spelling_again dcs shards (commands.Cancel tx key) few small fits = line_cut dcs shards (codes "cancel" ++ 32 ∷ (tx_name tx ++ 32 ∷ key)) (codes "cancel") (Some (tx_name tx ++ 32 ∷ key)) verbs.Cancel (cut_joined 32 (codes "cancel") (tx_name tx ++ 32 ∷ key) refl) refl ∙ rw (tx_key_again tx key fits.0 fits.1) refl
spelling_again dcs shards (commands.Retry tx) few small fits = line_cut dcs shards (codes "retry" ++ 32 ∷ (tx_name tx)) (codes "retry") (Some (tx_name tx)) verbs.Retry (cut_joined 32 (codes "retry") (tx_name tx) refl) refl ∙ rw (tx_again tx fits) refl
spelling_again dcs shards (commands.Vanish tx) few small fits = line_cut dcs shards (codes "vanish" ++ 32 ∷ (tx_name tx)) (codes "vanish") (Some (tx_name tx)) verbs.Vanish (cut_joined 32 (codes "vanish") (tx_name tx) refl) refl ∙ rw (tx_again tx fits) refl
spelling_again dcs shards (commands.Step count) few small fits = line_cut dcs shards (codes "step" ++ 32 ∷ (decimal count)) (codes "step") (Some (decimal count)) verbs.Step (cut_joined 32 (codes "step") (decimal count) refl) refl ∙ rw (number_in_again 1 2000000 count (omega arith) fits) refl
spelling_again dcs shards commands.Settle few small fits = line_cut dcs shards (codes "settle") (codes "settle") None verbs.Settle (cut_free 32 (codes "settle") refl) refl
spelling_again dcs shards (commands.Deliver numbers) few small fits = ap (command_of dcs shards) (join_later (codes "deliver") numbers fits.0.0) ∙ (line_cut dcs shards (codes "deliver" ++ 32 ∷ join_with_byte 32 (map decimal numbers)) (codes "deliver") (Some (join_with_byte 32 (map decimal numbers))) verbs.Deliver (cut_joined 32 (codes "deliver") (join_with_byte 32 (map decimal numbers)) refl) refl ∙ rw (messages_again numbers fits) refl)
spelling_again dcs shards (commands.Lose numbers) few small fits = ap (command_of dcs shards) (join_later (codes "lose") numbers fits.0.0) ∙ (line_cut dcs shards (codes "lose" ++ 32 ∷ join_with_byte 32 (map decimal numbers)) (codes "lose") (Some (join_with_byte 32 (map decimal numbers))) verbs.Lose (cut_joined 32 (codes "lose") (join_with_byte 32 (map decimal numbers)) refl) refl ∙ rw (messages_again numbers fits) refl)
spelling_again dcs shards (commands.Crash node) few small fits = line_cut dcs shards (codes "crash" ++ 32 ∷ node_name node) (codes "crash") (Some (node_name node)) verbs.Crash (cut_joined 32 (codes "crash") (node_name node) refl) refl ∙ node_line dcs shards node (node_name node) None few small fits (cut_free 32 (node_name node) (lacks_node dcs shards node few small fits))
spelling_again dcs shards (commands.CrashAt node call pick) few small fits = line_cut dcs shards (codes "crash" ++ 32 ∷ (node_name node ++ 32 ∷ (codes "at " ++ (decimal call ++ 32 ∷ (codes "pick " ++ decimal pick))))) (codes "crash") (Some (node_name node ++ 32 ∷ (codes "at " ++ (decimal call ++ 32 ∷ (codes "pick " ++ decimal pick))))) verbs.Crash (cut_joined 32 (codes "crash") (node_name node ++ 32 ∷ (codes "at " ++ (decimal call ++ 32 ∷ (codes "pick " ++ decimal pick)))) refl) refl ∙ (node_line dcs shards node (node_name node ++ 32 ∷ (codes "at " ++ (decimal call ++ 32 ∷ (codes "pick " ++ decimal pick)))) (Some (codes "at " ++ (decimal call ++ 32 ∷ (codes "pick " ++ decimal pick)))) few small fits.0 (cut_joined 32 (node_name node) (codes "at " ++ (decimal call ++ 32 ∷ (codes "pick " ++ decimal pick))) (lacks_node dcs shards node few small fits.0)) ∙ crash_again node call pick fits.1 fits.2)
spelling_again dcs shards (commands.Restart node) few small fits = line_cut dcs shards (codes "restart" ++ 32 ∷ (node_name node)) (codes "restart") (Some (node_name node)) verbs.Restart (cut_joined 32 (codes "restart") (node_name node) refl) refl ∙ rw (node_again dcs shards node few small fits) refl
spelling_again dcs shards (commands.Take dc tx) few small fits = line_cut dcs shards (codes "take" ++ 32 ∷ (dc_name dc ++ 32 ∷ tx_name tx)) (codes "take") (Some (dc_name dc ++ 32 ∷ tx_name tx)) verbs.Take (cut_joined 32 (codes "take") (dc_name dc ++ 32 ∷ tx_name tx) refl) refl ∙ take_again dcs dc tx few fits.0 fits.1
spelling_again dcs shards (commands.Catch node) few small fits = line_cut dcs shards (codes "catch" ++ 32 ∷ (node_name node)) (codes "catch") (Some (node_name node)) verbs.Catch (cut_joined 32 (codes "catch") (node_name node) refl) refl ∙ rw (node_again dcs shards node few small fits) refl
spelling_again dcs shards commands.Pending few small fits = line_cut dcs shards (codes "pending") (codes "pending") None verbs.Pending (cut_free 32 (codes "pending") refl) refl
spelling_again dcs shards (commands.Show dc) few small fits = line_cut dcs shards (codes "show" ++ 32 ∷ (dc_name dc)) (codes "show") (Some (dc_name dc)) verbs.Show (cut_joined 32 (codes "show") (dc_name dc) refl) refl ∙ rw (dc_again dcs dc few fits) refl
spelling_again dcs shards commands.Order few small fits = line_cut dcs shards (codes "order") (codes "order") None verbs.Order (cut_free 32 (codes "order") refl) refl

short_again : (dcs shards : ℕ) (line : List ℕ) (tx : ℕ) (key val : List ℕ) → IsTx tx → IsKey key → IsText val → val ≡ [] → line ≡ codes "write" ++ 32 ∷ (tx_name tx ++ 32 ∷ key) → command_of dcs shards line ≡ Some (commands.Write tx key val)
short_again dcs shards line tx key val of_tx of_key of_val empty e =
    ap (command_of dcs shards) e ∙ (line_cut dcs shards (codes "write" ++ 32 ∷ (tx_name tx ++ 32 ∷ key)) (codes "write") (Some (tx_name tx ++ 32 ∷ key)) verbs.Write (cut_joined 32 (codes "write") (tx_name tx ++ 32 ∷ key) refl) refl
    ∙ write_again tx key val key None of_tx of_key of_val (cut_free 32 key (lacks_key key of_key)) (sym empty))

is_short : (dcs shards : ℕ) (line : List ℕ) (c : Command) → IsShortWrite line c → IsCommandOf dcs shards c → command_of dcs shards line ≡ Some c
is_short dcs shards line (commands.World n s weights) short fits = absurd short
is_short dcs shards line (commands.Split key) short fits = absurd short
is_short dcs shards line (commands.Begin tx) short fits = absurd short
is_short dcs shards line (commands.Read tx key) short fits = absurd short
is_short dcs shards line (commands.Write tx key val) short fits = short_again dcs shards line tx key val fits.0 fits.1 fits.2 short.0 short.1
is_short dcs shards line (commands.Delete tx key) short fits = absurd short
is_short dcs shards line (commands.Commit tx) short fits = absurd short
is_short dcs shards line (commands.Cancel tx key) short fits = absurd short
is_short dcs shards line (commands.Retry tx) short fits = absurd short
is_short dcs shards line (commands.Vanish tx) short fits = absurd short
is_short dcs shards line (commands.Step count) short fits = absurd short
is_short dcs shards line commands.Settle short fits = absurd short
is_short dcs shards line (commands.Deliver numbers) short fits = absurd short
is_short dcs shards line (commands.Lose numbers) short fits = absurd short
is_short dcs shards line (commands.Crash node) short fits = absurd short
is_short dcs shards line (commands.CrashAt node call pick) short fits = absurd short
is_short dcs shards line (commands.Restart node) short fits = absurd short
is_short dcs shards line (commands.Take dc tx) short fits = absurd short
is_short dcs shards line (commands.Catch node) short fits = absurd short
is_short dcs shards line commands.Pending short fits = absurd short
is_short dcs shards line (commands.Show dc) short fits = absurd short
is_short dcs shards line commands.Order short fits = absurd short

-- what spells a command of the world is read as it
pub command_again : (dcs shards : ℕ) (line : List ℕ) (c : Command) → dcs ≤ 7 → shards ≤ 8 → Spells line c → IsCommandOf dcs shards c → command_of dcs shards line ≡ Some c
command_again dcs shards line c few small (inl e) fits = ap (command_of dcs shards) e ∙ spelling_again dcs shards c few small fits
command_again dcs shards line c few small (inr short) fits = is_short dcs shards line c short fits
