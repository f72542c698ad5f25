-- A line that is read as a command spells it.
use Rattle.std.proofs.Common.{◌≡◌, ℕ, ◌%◌, ◌<◌, ◌≤◌, eqb, leb, Bool, true, false, cond, List, [], ◌∷◌, ◌++◌, length, map, Option, Some, None, refl, sym, ap, ◌∙◌, subst, arith, inl, inr}
use Rattle.std.specs.Prelude.{codes, unwrap_or, IfSome}
use Rattle.std.specs.Option.{option_map}
use Rattle.std.specs.Str.{bytes_eq}
use Rattle.std.specs.List.{join_with_byte}
use Rattle.std.specs.Fmt.{decimal}
use Rattle.std.proofs.lemmas.Bool.{eqb-true, leb-true}
use Rattle.std.proofs.lemmas.Option.{none-some, same_Some}
use Rattle.std.proofs.lemmas.Slice.Eq.{bytes_eq-Decides}
use Rattle.rc_ids.specs.Texts.{IsKey}
use Rattle.rc_ids.specs.declared.names.NodeId.{NodeId}
use Rattle.rc_script.specs.declared.verb.Verb.{Verb}
use Rattle.rc_script.specs.declared.verb.Verb.TheVariants as verbs
use Rattle.rc_script.specs.declared.command.Command.{Command}
use Rattle.rc_script.specs.declared.command.Command.TheVariants as commands
use Rattle.rc_script.specs.Words.{◌>>=◌, only_if, first_word, later_words, text_after, number_in, numbers_of, tx_of, dc_of, node_of, key_of, val_of}
use Rattle.rc_script.specs.Commands.{verb_name, all_verbs, verb_among, verb_of, tx_and_key, weights_of, world_of, write_of, messages_of, crash_of, take_of, bare_command, plain_command, command_with, command_from, command_of}
use Rattle.rc_script.specs.Spelling.{tx_name, dc_name, node_name, weight_words, Spells, IsTx, IsNodeOf, AreMessages, AreWeights, IsCommandOf}
use Rattle.rc_script.specs.Stages.{FitsWorld}
use Rattle.rc_script.proofs.Steps.{bind_some, only_if_some}
use Rattle.rc_script.proofs.Numerals.{number_in_taken}
use Rattle.rc_script.proofs.Texts.{with_later, cut_whole, key_taken, val_taken, behind_taken}
use Rattle.rc_script.proofs.Names.{tx_taken, dc_taken, node_taken, numbers_taken, join_later}

abbrev Taken : ℕ → ℕ → List ℕ → Command → Type 0
Taken dcs shards line c = Spells line c × IsCommandOf dcs shards c

is_taken : (dcs shards : ℕ) (line : List ℕ) (made c : Command) → Some made ≡ Some c → Taken dcs shards line made → Taken dcs shards line c
is_taken dcs shards line made c e fits = subst (λ (x : Command). Taken dcs shards line x) (same_Some made c e) fits

mapped : {A : Type 0} (dcs shards : ℕ) (line : List ℕ) (make : A → Command) (o : Option A) (c : Command) → ((x : A) → o ≡ Some x → Taken dcs shards line (make x)) → option_map make o ≡ Some c → Taken dcs shards line c
mapped dcs shards line make (Some x) c fits e = is_taken dcs shards line (make x) c e (fits x refl)
mapped dcs shards line make None c fits e = absurd (none-some c e)

joined : (words later : List ℕ) → later_words words ≡ Some later → words ≡ first_word words ++ 32 ∷ later
joined words later e = cut_whole 32 words ∙ ap (with_later 32 (first_word words)) e

-- ---- the first word

tested_name : (v : Verb) (word : List ℕ) (verb : Verb) (others : Option Verb) (t : Bool) → bytes_eq word (verb_name v) ≡ t → cond t (Some v) others ≡ Some verb → (others ≡ Some verb → word ≡ verb_name verb) → word ≡ verb_name verb
tested_name v word verb others true same e more = (bytes_eq-Decides word (verb_name v)).0 same ∙ ap verb_name (same_Some v verb e)
tested_name v word verb others false other e more = more e

among_taken : (vs : List Verb) (word : List ℕ) (verb : Verb) → verb_among vs word ≡ Some verb → word ≡ verb_name verb
among_taken [] word verb e = absurd (none-some verb e)
among_taken (v ∷ vs) word verb e = tested_name v word verb (verb_among vs word) (bytes_eq word (verb_name v)) refl e (λ h. among_taken vs word verb h)

-- ---- words behind it

tx_key_taken : (words : List ℕ) (p : ℕ × List ℕ) → tx_and_key words ≡ Some p → (words ≡ tx_name p.0 ++ 32 ∷ p.1) × IsTx p.0 × IsKey p.1
tx_key_taken words p e =
    let a = bind_some (later_words words) (λ key_word. tx_of (first_word words) >>= λ tx. key_of key_word >>= λ key. Some (tx, key)) p e in
    let b = bind_some (tx_of (first_word words)) (λ tx. key_of a.0 >>= λ key. Some (tx, key)) p a.2 in
    let d = bind_some (key_of a.0) (λ key. Some (b.0, key)) p b.2 in
    let t = tx_taken (first_word words) b.0 b.1 in
    let k = key_taken a.0 d.0 d.1 in
    let whole : words ≡ tx_name b.0 ++ 32 ∷ d.0 = joined words a.0 a.1 ∙ ap (λ (w : List ℕ). w ++ 32 ∷ a.0) t.0 ∙ ap (λ (w : List ℕ). tx_name b.0 ++ 32 ∷ w) k.0 in
    subst (λ (q : ℕ × List ℕ). (words ≡ tx_name q.0 ++ 32 ∷ q.1) × IsTx q.0 × IsKey q.1) (same_Some _ _ d.2) (whole, t.1, k.1)

weights_taken : (n : ℕ) (front : List ℕ) (later : Option (List ℕ)) (weights : Option (List ℕ)) → weights_of n later ≡ Some weights
    → (with_later 32 front later ≡ join_with_byte 32 (front ∷ weight_words weights)) × IfSome weights (AreWeights n)
weights_taken n front None weights e = subst (λ (ws : Option (List ℕ)). (front ≡ join_with_byte 32 (front ∷ weight_words ws)) × IfSome ws (AreWeights n)) (same_Some _ _ e) (refl, tt)
weights_taken n front (Some text) weights e =
    let a = bind_some (numbers_of 1 9 text) (λ ws. only_if (eqb (length ws) n) (Some ws)) weights e in
    let b = only_if_some (eqb (length a.0) n) (Some a.0) weights a.2 in
    let t = numbers_taken 1 9 text a.0 (omega arith) a.1 in
    let whole : front ++ 32 ∷ text ≡ join_with_byte 32 (front ∷ map decimal a.0) = ap (λ (w : List ℕ). front ++ 32 ∷ w) t.0 ∙ sym (join_later front a.0 t.1) in
    subst (λ (ws : Option (List ℕ)). (front ++ 32 ∷ text ≡ join_with_byte 32 (front ∷ weight_words ws)) × IfSome ws (AreWeights n)) b.1 (whole, (eqb-true _ _ b.0, t.2))

world_taken : (dcs shards : ℕ) (words : List ℕ) (c : Command) → world_of words ≡ Some c → Taken dcs shards (codes "world" ++ 32 ∷ words) c
world_taken dcs shards words c e =
    let a = bind_some (later_words words) (λ others. number_in 1 7 (first_word words) >>= λ n. number_in 1 8 (first_word others) >>= λ s. weights_of n (later_words others) >>= λ weights. only_if (eqb (n % 2) 1) (commands.World n s weights)) c e in
    let b = bind_some (number_in 1 7 (first_word words)) (λ n. number_in 1 8 (first_word a.0) >>= λ s. weights_of n (later_words a.0) >>= λ weights. only_if (eqb (n % 2) 1) (commands.World n s weights)) c a.2 in
    let d = bind_some (number_in 1 8 (first_word a.0)) (λ s. weights_of b.0 (later_words a.0) >>= λ weights. only_if (eqb (b.0 % 2) 1) (commands.World b.0 s weights)) c b.2 in
    let f = bind_some (weights_of b.0 (later_words a.0)) (λ weights. only_if (eqb (b.0 % 2) 1) (commands.World b.0 d.0 weights)) c d.2 in
    let g = only_if_some (eqb (b.0 % 2) 1) (commands.World b.0 d.0 f.0) c f.2 in
    let n = number_in_taken 1 7 (first_word words) b.0 (omega arith) b.1 in
    let s = number_in_taken 1 8 (first_word a.0) d.0 (omega arith) d.1 in
    let ws = weights_taken b.0 (decimal d.0) (later_words a.0) f.0 f.1 in
    let others : a.0 ≡ join_with_byte 32 (decimal d.0 ∷ weight_words f.0) = cut_whole 32 a.0 ∙ ap (λ (w : List ℕ). with_later 32 w (later_words a.0)) s.0 ∙ ws.0 in
    let whole : words ≡ decimal b.0 ++ 32 ∷ join_with_byte 32 (decimal d.0 ∷ weight_words f.0) = joined words a.0 a.1 ∙ ap (λ (w : List ℕ). w ++ 32 ∷ a.0) n.0 ∙ ap (λ (w : List ℕ). decimal b.0 ++ 32 ∷ w) others in
    let made : Taken dcs shards (codes "world" ++ 32 ∷ words) (commands.World b.0 d.0 f.0) = (inl (ap (λ (w : List ℕ). codes "world" ++ 32 ∷ w) whole), (eqb-true _ _ g.0, n.1, s.1, ws.1)) in
    subst (λ (x : Command). Taken dcs shards (codes "world" ++ 32 ∷ words) x) g.1 made

written : (dcs shards : ℕ) (words others : List ℕ) (later : Option (List ℕ)) (tx : ℕ) (key val : List ℕ)
    → words ≡ tx_name tx ++ 32 ∷ others → others ≡ with_later 32 key later → val_of (unwrap_or later []) ≡ Some val → IsTx tx → IsKey key → Taken dcs shards (codes "write" ++ 32 ∷ words) (commands.Write tx key val)
written dcs shards words others None tx key val front back e of_tx of_key =
    let v = val_taken [] val e in
    (inr (sym v.0, ap (λ (w : List ℕ). codes "write" ++ 32 ∷ w) (front ∙ ap (λ (w : List ℕ). tx_name tx ++ 32 ∷ w) back)), (of_tx, of_key, v.1))
written dcs shards words others (Some text) tx key val front back e of_tx of_key =
    let v = val_taken text val e in
    (inl (ap (λ (w : List ℕ). codes "write" ++ 32 ∷ w) (front ∙ ap (λ (w : List ℕ). tx_name tx ++ 32 ∷ w) (back ∙ ap (λ (w : List ℕ). key ++ 32 ∷ w) v.0))), (of_tx, of_key, v.1))

write_taken : (dcs shards : ℕ) (words : List ℕ) (c : Command) → write_of words ≡ Some c → Taken dcs shards (codes "write" ++ 32 ∷ words) c
write_taken dcs shards words c e =
    let a = bind_some (later_words words) (λ others. tx_of (first_word words) >>= λ tx. key_of (first_word others) >>= λ key. val_of (unwrap_or (later_words others) []) >>= λ val. Some (commands.Write tx key val)) c e in
    let b = bind_some (tx_of (first_word words)) (λ tx. key_of (first_word a.0) >>= λ key. val_of (unwrap_or (later_words a.0) []) >>= λ val. Some (commands.Write tx key val)) c a.2 in
    let d = bind_some (key_of (first_word a.0)) (λ key. val_of (unwrap_or (later_words a.0) []) >>= λ val. Some (commands.Write b.0 key val)) c b.2 in
    let f = bind_some (val_of (unwrap_or (later_words a.0) [])) (λ val. Some (commands.Write b.0 d.0 val)) c d.2 in
    let t = tx_taken (first_word words) b.0 b.1 in
    let k = key_taken (first_word a.0) d.0 d.1 in
    let front : words ≡ tx_name b.0 ++ 32 ∷ a.0 = joined words a.0 a.1 ∙ ap (λ (w : List ℕ). w ++ 32 ∷ a.0) t.0 in
    let back : a.0 ≡ with_later 32 d.0 (later_words a.0) = cut_whole 32 a.0 ∙ ap (λ (w : List ℕ). with_later 32 w (later_words a.0)) k.0 in
    is_taken dcs shards (codes "write" ++ 32 ∷ words) (commands.Write b.0 d.0 f.0) c f.2 (written dcs shards words a.0 (later_words a.0) b.0 d.0 f.0 front back f.1 t.1 k.1)

messages_taken : (words numbers : List ℕ) → messages_of words ≡ Some numbers → (words ≡ join_with_byte 32 (map decimal numbers)) × AreMessages numbers
messages_taken words numbers e =
    let a = bind_some (numbers_of 0 4294967295 words) (λ ns. only_if (leb (length ns) 64) ns) numbers e in
    let b = only_if_some (leb (length a.0) 64) a.0 numbers a.2 in
    let t = numbers_taken 0 4294967295 words a.0 (omega arith) a.1 in
    subst (λ (ns : List ℕ). (words ≡ join_with_byte 32 (map decimal ns)) × AreMessages ns) b.1 (t.0, ((t.1, leb-true _ _ b.0), t.2))

numbers_behind : (word words numbers : List ℕ) → words ≡ join_with_byte 32 (map decimal numbers) → 0 < length numbers → word ++ 32 ∷ words ≡ join_with_byte 32 (word ∷ map decimal numbers)
numbers_behind word words numbers e some = ap (λ (w : List ℕ). word ++ 32 ∷ w) e ∙ sym (join_later word numbers some)

crash_taken : (dcs shards : ℕ) (node : NodeId) (words : Option (List ℕ)) (c : Command) → IsNodeOf dcs shards node → crash_of node words ≡ Some c → Taken dcs shards (codes "crash" ++ 32 ∷ with_later 32 (node_name node) words) c
crash_taken dcs shards node None c fits e = is_taken dcs shards (codes "crash" ++ 32 ∷ node_name node) (commands.Crash node) c e (inl refl, fits)
crash_taken dcs shards node (Some words) c fits e =
    let a = bind_some (text_after (codes "at ") words) (λ from_call. later_words from_call >>= λ from_pick. text_after (codes "pick ") from_pick >>= λ pick_word. number_in 1 1000 (first_word from_call) >>= λ call. number_in 0 3 pick_word >>= λ pick. Some (commands.CrashAt node call pick)) c e in
    let b = bind_some (later_words a.0) (λ from_pick. text_after (codes "pick ") from_pick >>= λ pick_word. number_in 1 1000 (first_word a.0) >>= λ call. number_in 0 3 pick_word >>= λ pick. Some (commands.CrashAt node call pick)) c a.2 in
    let d = bind_some (text_after (codes "pick ") b.0) (λ pick_word. number_in 1 1000 (first_word a.0) >>= λ call. number_in 0 3 pick_word >>= λ pick. Some (commands.CrashAt node call pick)) c b.2 in
    let f = bind_some (number_in 1 1000 (first_word a.0)) (λ call. number_in 0 3 d.0 >>= λ pick. Some (commands.CrashAt node call pick)) c d.2 in
    let g = bind_some (number_in 0 3 d.0) (λ pick. Some (commands.CrashAt node f.0 pick)) c f.2 in
    let call = number_in_taken 1 1000 (first_word a.0) f.0 (omega arith) f.1 in
    let pick = number_in_taken 0 3 d.0 g.0 (omega arith) g.1 in
    let from_pick : b.0 ≡ codes "pick " ++ decimal g.0 = behind_taken (codes "pick ") b.0 d.0 d.1 ∙ ap (λ (w : List ℕ). codes "pick " ++ w) pick.0 in
    let from_call : a.0 ≡ decimal f.0 ++ 32 ∷ (codes "pick " ++ decimal g.0) = joined a.0 b.0 b.1 ∙ ap (λ (w : List ℕ). w ++ 32 ∷ b.0) call.0 ∙ ap (λ (w : List ℕ). decimal f.0 ++ 32 ∷ w) from_pick in
    let whole : words ≡ codes "at " ++ (decimal f.0 ++ 32 ∷ (codes "pick " ++ decimal g.0)) = behind_taken (codes "at ") words a.0 a.1 ∙ ap (λ (w : List ℕ). codes "at " ++ w) from_call in
    is_taken dcs shards (codes "crash" ++ 32 ∷ (node_name node ++ 32 ∷ words)) (commands.CrashAt node f.0 g.0) c g.2 (inl (ap (λ (w : List ℕ). codes "crash" ++ 32 ∷ (node_name node ++ 32 ∷ w)) whole), (fits, call.1, pick.1))

crash_line : (dcs shards : ℕ) (words : List ℕ) (c : Command) → dcs ≤ 7 → shards ≤ 8 → (node_of dcs shards (first_word words) >>= λ node. crash_of node (later_words words)) ≡ Some c → Taken dcs shards (codes "crash" ++ 32 ∷ words) c
crash_line dcs shards words c few small e =
    let a = bind_some (node_of dcs shards (first_word words)) (λ node. crash_of node (later_words words)) c e in
    let n = node_taken dcs shards (first_word words) a.0 few small a.1 in
    let whole : words ≡ with_later 32 (node_name a.0) (later_words words) = cut_whole 32 words ∙ ap (λ (w : List ℕ). with_later 32 w (later_words words)) n.0 in
    subst (λ (w : List ℕ). Taken dcs shards (codes "crash" ++ 32 ∷ w) c) (sym whole) (crash_taken dcs shards a.0 (later_words words) c n.1 a.2)

take_taken : (dcs shards : ℕ) (words : List ℕ) (c : Command) → dcs ≤ 7 → take_of dcs words ≡ Some c → Taken dcs shards (codes "take" ++ 32 ∷ words) c
take_taken dcs shards words c few e =
    let a = bind_some (later_words words) (λ tx_word. dc_of dcs (first_word words) >>= λ dc. tx_of tx_word >>= λ tx. Some (commands.Take dc tx)) c e in
    let b = bind_some (dc_of dcs (first_word words)) (λ dc. tx_of a.0 >>= λ tx. Some (commands.Take dc tx)) c a.2 in
    let d = bind_some (tx_of a.0) (λ tx. Some (commands.Take b.0 tx)) c b.2 in
    let dc = dc_taken dcs (first_word words) b.0 few b.1 in
    let tx = tx_taken a.0 d.0 d.1 in
    let whole : words ≡ dc_name b.0 ++ 32 ∷ tx_name d.0 = joined words a.0 a.1 ∙ ap (λ (w : List ℕ). w ++ 32 ∷ a.0) dc.0 ∙ ap (λ (w : List ℕ). dc_name b.0 ++ 32 ∷ w) tx.0 in
    is_taken dcs shards (codes "take" ++ 32 ∷ words) (commands.Take b.0 d.0) c d.2 (inl (ap (λ (w : List ℕ). codes "take" ++ 32 ∷ w) whole), (dc.1, tx.1))

tx_key_line : (dcs shards : ℕ) (name words : List ℕ) (make : ℕ → List ℕ → Command) (c : Command)
    → ((tx : ℕ) (key : List ℕ) → name ++ 32 ∷ words ≡ name ++ 32 ∷ (tx_name tx ++ 32 ∷ key) → IsTx tx → IsKey key → Taken dcs shards (name ++ 32 ∷ words) (make tx key))
    → (tx_and_key words >>= λ found. Some (make found.0 found.1)) ≡ Some c → Taken dcs shards (name ++ 32 ∷ words) c
tx_key_line dcs shards name words make c fits e =
    let a = bind_some (tx_and_key words) (λ found. Some (make found.0 found.1)) c e in
    let t = tx_key_taken words a.0 a.1 in
    is_taken dcs shards (name ++ 32 ∷ words) (make a.0.0 a.0.1) c a.2 (fits a.0.0 a.0.1 (ap (λ (w : List ℕ). name ++ 32 ∷ w) t.0) t.1 t.2)

plain_taken : (dcs shards : ℕ) (verb : Verb) (words : List ℕ) (c : Command) → dcs ≤ 7 → shards ≤ 8 → plain_command dcs shards verb words ≡ Some c → Taken dcs shards (verb_name verb ++ 32 ∷ words) c
plain_taken dcs shards verbs.World words c few small e = absurd (none-some c e)
plain_taken dcs shards verbs.Split words c few small e = mapped dcs shards (codes "split" ++ 32 ∷ words) commands.Split (key_of words) c (λ x h. let t = key_taken words x h in (inl (ap (λ (w : List ℕ). codes "split" ++ 32 ∷ w) t.0), t.1)) e
plain_taken dcs shards verbs.Begin words c few small e = mapped dcs shards (codes "begin" ++ 32 ∷ words) commands.Begin (tx_of words) c (λ x h. let t = tx_taken words x h in (inl (ap (λ (w : List ℕ). codes "begin" ++ 32 ∷ w) t.0), t.1)) e
plain_taken dcs shards verbs.Read words c few small e = tx_key_line dcs shards (codes "read") words commands.Read c (λ tx key whole of_tx of_key. (inl whole, (of_tx, of_key))) e
plain_taken dcs shards verbs.Write words c few small e = absurd (none-some c e)
plain_taken dcs shards verbs.Delete words c few small e = tx_key_line dcs shards (codes "delete") words commands.Delete c (λ tx key whole of_tx of_key. (inl whole, (of_tx, of_key))) e
plain_taken dcs shards verbs.Commit words c few small e = mapped dcs shards (codes "commit" ++ 32 ∷ words) commands.Commit (tx_of words) c (λ x h. let t = tx_taken words x h in (inl (ap (λ (w : List ℕ). codes "commit" ++ 32 ∷ w) t.0), t.1)) e
plain_taken dcs shards verbs.Cancel words c few small e = tx_key_line dcs shards (codes "cancel") words commands.Cancel c (λ tx key whole of_tx of_key. (inl whole, (of_tx, of_key))) e
plain_taken dcs shards verbs.Retry words c few small e = mapped dcs shards (codes "retry" ++ 32 ∷ words) commands.Retry (tx_of words) c (λ x h. let t = tx_taken words x h in (inl (ap (λ (w : List ℕ). codes "retry" ++ 32 ∷ w) t.0), t.1)) e
plain_taken dcs shards verbs.Vanish words c few small e = mapped dcs shards (codes "vanish" ++ 32 ∷ words) commands.Vanish (tx_of words) c (λ x h. let t = tx_taken words x h in (inl (ap (λ (w : List ℕ). codes "vanish" ++ 32 ∷ w) t.0), t.1)) e
plain_taken dcs shards verbs.Step words c few small e = mapped dcs shards (codes "step" ++ 32 ∷ words) commands.Step (number_in 1 2000000 words) c (λ x h. let t = number_in_taken 1 2000000 words x (omega arith) h in (inl (ap (λ (w : List ℕ). codes "step" ++ 32 ∷ w) t.0), t.1)) e
plain_taken dcs shards verbs.Settle words c few small e = absurd (none-some c e)
plain_taken dcs shards verbs.Deliver words c few small e = absurd (none-some c e)
plain_taken dcs shards verbs.Lose words c few small e = absurd (none-some c e)
plain_taken dcs shards verbs.Crash words c few small e = crash_line dcs shards words c few small e
plain_taken dcs shards verbs.Restart words c few small e = mapped dcs shards (codes "restart" ++ 32 ∷ words) commands.Restart (node_of dcs shards words) c (λ x h. let t = node_taken dcs shards words x few small h in (inl (ap (λ (w : List ℕ). codes "restart" ++ 32 ∷ w) t.0), t.1)) e
plain_taken dcs shards verbs.Take words c few small e = take_taken dcs shards words c few e
plain_taken dcs shards verbs.Catch words c few small e = mapped dcs shards (codes "catch" ++ 32 ∷ words) commands.Catch (node_of dcs shards words) c (λ x h. let t = node_taken dcs shards words x few small h in (inl (ap (λ (w : List ℕ). codes "catch" ++ 32 ∷ w) t.0), t.1)) e
plain_taken dcs shards verbs.Pending words c few small e = absurd (none-some c e)
plain_taken dcs shards verbs.Show words c few small e = mapped dcs shards (codes "show" ++ 32 ∷ words) commands.Show (dc_of dcs words) c (λ x h. let t = dc_taken dcs words x few h in (inl (ap (λ (w : List ℕ). codes "show" ++ 32 ∷ w) t.0), t.1)) e
plain_taken dcs shards verbs.Order words c few small e = absurd (none-some c e)

with_taken : (dcs shards : ℕ) (verb : Verb) (words : List ℕ) (c : Command) → dcs ≤ 7 → shards ≤ 8 → command_with dcs shards verb words ≡ Some c → Taken dcs shards (verb_name verb ++ 32 ∷ words) c
with_taken dcs shards verbs.World words c few small e = world_taken dcs shards words c e
with_taken dcs shards verbs.Split words c few small e = plain_taken dcs shards verbs.Split words c few small e
with_taken dcs shards verbs.Begin words c few small e = plain_taken dcs shards verbs.Begin words c few small e
with_taken dcs shards verbs.Read words c few small e = plain_taken dcs shards verbs.Read words c few small e
with_taken dcs shards verbs.Write words c few small e = write_taken dcs shards words c e
with_taken dcs shards verbs.Delete words c few small e = plain_taken dcs shards verbs.Delete words c few small e
with_taken dcs shards verbs.Commit words c few small e = plain_taken dcs shards verbs.Commit words c few small e
with_taken dcs shards verbs.Cancel words c few small e = plain_taken dcs shards verbs.Cancel words c few small e
with_taken dcs shards verbs.Retry words c few small e = plain_taken dcs shards verbs.Retry words c few small e
with_taken dcs shards verbs.Vanish words c few small e = plain_taken dcs shards verbs.Vanish words c few small e
with_taken dcs shards verbs.Step words c few small e = plain_taken dcs shards verbs.Step words c few small e
with_taken dcs shards verbs.Settle words c few small e = plain_taken dcs shards verbs.Settle words c few small e
with_taken dcs shards verbs.Deliver words c few small e = mapped dcs shards (codes "deliver" ++ 32 ∷ words) commands.Deliver (messages_of words) c (λ x h. let t = messages_taken words x h in (inl (numbers_behind (codes "deliver") words x t.0 t.1.0.0), t.1)) e
with_taken dcs shards verbs.Lose words c few small e = mapped dcs shards (codes "lose" ++ 32 ∷ words) commands.Lose (messages_of words) c (λ x h. let t = messages_taken words x h in (inl (numbers_behind (codes "lose") words x t.0 t.1.0.0), t.1)) e
with_taken dcs shards verbs.Crash words c few small e = plain_taken dcs shards verbs.Crash words c few small e
with_taken dcs shards verbs.Restart words c few small e = plain_taken dcs shards verbs.Restart words c few small e
with_taken dcs shards verbs.Take words c few small e = plain_taken dcs shards verbs.Take words c few small e
with_taken dcs shards verbs.Catch words c few small e = plain_taken dcs shards verbs.Catch words c few small e
with_taken dcs shards verbs.Pending words c few small e = plain_taken dcs shards verbs.Pending words c few small e
with_taken dcs shards verbs.Show words c few small e = plain_taken dcs shards verbs.Show words c few small e
with_taken dcs shards verbs.Order words c few small e = plain_taken dcs shards verbs.Order words c few small e

bare_taken : (dcs shards : ℕ) (verb : Verb) (c : Command) → bare_command verb ≡ Some c → Taken dcs shards (verb_name verb) c
bare_taken dcs shards verbs.World c e = absurd (none-some c e)
bare_taken dcs shards verbs.Split c e = absurd (none-some c e)
bare_taken dcs shards verbs.Begin c e = absurd (none-some c e)
bare_taken dcs shards verbs.Read c e = absurd (none-some c e)
bare_taken dcs shards verbs.Write c e = absurd (none-some c e)
bare_taken dcs shards verbs.Delete c e = absurd (none-some c e)
bare_taken dcs shards verbs.Commit c e = absurd (none-some c e)
bare_taken dcs shards verbs.Cancel c e = absurd (none-some c e)
bare_taken dcs shards verbs.Retry c e = absurd (none-some c e)
bare_taken dcs shards verbs.Vanish c e = absurd (none-some c e)
bare_taken dcs shards verbs.Step c e = absurd (none-some c e)
bare_taken dcs shards verbs.Settle c e = is_taken dcs shards (codes "settle") commands.Settle c e (inl refl, tt)
bare_taken dcs shards verbs.Deliver c e = absurd (none-some c e)
bare_taken dcs shards verbs.Lose c e = absurd (none-some c e)
bare_taken dcs shards verbs.Crash c e = absurd (none-some c e)
bare_taken dcs shards verbs.Restart c e = absurd (none-some c e)
bare_taken dcs shards verbs.Take c e = absurd (none-some c e)
bare_taken dcs shards verbs.Catch c e = absurd (none-some c e)
bare_taken dcs shards verbs.Pending c e = is_taken dcs shards (codes "pending") commands.Pending c e (inl refl, tt)
bare_taken dcs shards verbs.Show c e = absurd (none-some c e)
bare_taken dcs shards verbs.Order c e = is_taken dcs shards (codes "order") commands.Order c e (inl refl, tt)

from_taken : (dcs shards : ℕ) (verb : Verb) (words : Option (List ℕ)) (c : Command) → dcs ≤ 7 → shards ≤ 8 → command_from dcs shards verb words ≡ Some c → Taken dcs shards (with_later 32 (verb_name verb) words) c
from_taken dcs shards verb None c few small e = bare_taken dcs shards verb c e
from_taken dcs shards verb (Some words) c few small e = with_taken dcs shards verb words c few small e

-- what is read as a command spells it
pub command_taken : (dcs shards : ℕ) (line : List ℕ) (c : Command) → dcs ≤ 7 → shards ≤ 8 → command_of dcs shards line ≡ Some c → Spells line c × IsCommandOf dcs shards c
unfolding command_of
command_taken dcs shards line c few small e =
    let a = bind_some (verb_of (first_word line)) (λ verb. command_from dcs shards verb (later_words line)) c e in
    let name = among_taken all_verbs (first_word line) a.0 a.1 in
    let whole : line ≡ with_later 32 (verb_name a.0) (later_words line) = cut_whole 32 line ∙ ap (λ (w : List ℕ). with_later 32 w (later_words line)) name in
    subst (λ (w : List ℕ). Taken dcs shards w c) (sym whole) (from_taken dcs shards a.0 (later_words line) c few small a.2)

pub fits_world : (dcs shards : ℕ) (c : Command) → IsCommandOf dcs shards c → FitsWorld c
fits_world dcs shards (commands.World n s weights) fits = (fits.1.1, fits.2.0, fits.2.1)
fits_world dcs shards _ fits = tt
