-- A name that is read is spelled so, and what spells a name is read.
use Rattle.std.proofs.Common.{◌≡◌, ℕ, ◌^◌, ◌<◌, ◌≤◌, eqb, true, false, List, [], ◌∷◌, ◌++◌, length, map, Option, Some, None, refl, sym, ap, ◌∙◌, subst, arith}
use Rattle.std.specs.List.{slice_split, join_with_byte, AllByRecursion}
use Rattle.std.specs.Fmt.{decimal}
use Rattle.std.proofs.lemmas.Bool.{ne_eqb}
use Rattle.std.proofs.lemmas.Option.{same_Some}
use Rattle.std.proofs.lemmas.List.Splits.{join_with_byte-slice_split}
use Rattle.rc_ids.specs.declared.names.NodeId.{NodeId}
use Rattle.rc_ids.specs.declared.names.NodeId.TheVariants.{Coord, Shard}
use Rattle.rc_script.specs.Words.{◌>>=◌, cut, number_in, numbers_in, numbers_of, tx_of, dc_of, shard_of, node_at, node_of}
use Rattle.rc_script.specs.Spelling.{tx_name, dc_name, shard_name, node_name, IsIn, IsTx, IsNodeOf}
use Rattle.rc_script.proofs.Cuts.{parts, slice_split-cut}
use Rattle.rc_script.proofs.Steps.{bind_some}
use Rattle.rc_script.proofs.Numerals.{number_in_taken, number_in_again, named_taken, named_again}
use Rattle.rc_script.proofs.Texts.{lacks, lacks_append, lacks_decimal, cut_free, cut_joined, with_later, cut_whole}

pub tx_taken : (word : List ℕ) (tx : ℕ) → tx_of word ≡ Some tx → (word ≡ tx_name tx) × IsTx tx
tx_taken word tx e = named_taken 116 4294967295 word tx (omega arith) e

pub tx_again : (tx : ℕ) → IsTx tx → tx_of (tx_name tx) ≡ Some tx
tx_again tx fits = named_again 116 4294967295 tx (omega arith) fits

pub lacks_tx : (tx : ℕ) → IsTx tx → lacks 32 (tx_name tx) ≡ true
lacks_tx tx fits = lacks_decimal 32 tx (omega arith) (omega (arith, fits.1))

pub dc_taken : (dcs : ℕ) (word : List ℕ) (dc : ℕ) → dcs ≤ 7 → dc_of dcs word ≡ Some dc → (word ≡ dc_name dc) × IsIn 1 dcs dc
dc_taken dcs word dc small e = named_taken 100 dcs word dc (omega arith) e

pub dc_again : (dcs dc : ℕ) → dcs ≤ 7 → IsIn 1 dcs dc → dc_of dcs (dc_name dc) ≡ Some dc
dc_again dcs dc small fits = named_again 100 dcs dc (omega arith) fits

pub lacks_dc : (byte dcs dc : ℕ) → byte < 48 → dcs ≤ 7 → IsIn 1 dcs dc → lacks byte (dc_name dc) ≡ true
lacks_dc byte dcs dc low small fits =
    let other : eqb 100 byte ≡ false = ne_eqb _ _ (λ same. absurd (omega arith)) in
    rw other (lacks_decimal byte dc low (omega (arith, fits.1)))

-- ---- nodes

is_node : (dcs shards : ℕ) (text : List ℕ) (made node : NodeId) → Some made ≡ Some node → (text ≡ node_name made) × IsNodeOf dcs shards made → (text ≡ node_name node) × IsNodeOf dcs shards node
is_node dcs shards text made node e fits = subst (λ (n : NodeId). (text ≡ node_name n) × IsNodeOf dcs shards n) (same_Some made node e) fits

node_at_taken : (dcs shards : ℕ) (word : List ℕ) (later : Option (List ℕ)) (node : NodeId) → dcs ≤ 7 → shards ≤ 8 → node_at dcs shards word later ≡ Some node → (with_later 46 word later ≡ node_name node) × IsNodeOf dcs shards node
node_at_taken dcs shards word None node few small e =
    let a = bind_some (dc_of dcs word) (λ dc. Some (Coord dc)) node e in
    is_node dcs shards word (Coord a.0) node a.2 (dc_taken dcs word a.0 few a.1)
node_at_taken dcs shards word (Some other) node few small e =
    let a = bind_some (dc_of dcs word) (λ dc. shard_of shards other >>= λ shard. Some (Shard dc shard)) node e in
    let b = bind_some (shard_of shards other) (λ shard. Some (Shard a.0 shard)) node a.2 in
    let front = dc_taken dcs word a.0 few a.1 in
    let back = named_taken 115 shards other b.0 (omega arith) b.1 in
    is_node dcs shards (word ++ 46 ∷ other) (Shard a.0 b.0) node b.2 (ap (λ (w : List ℕ). w ++ 46 ∷ other) front.0 ∙ ap (λ (w : List ℕ). dc_name a.0 ++ 46 ∷ w) back.0, (front.1, back.1))

pub node_taken : (dcs shards : ℕ) (word : List ℕ) (node : NodeId) → dcs ≤ 7 → shards ≤ 8 → node_of dcs shards word ≡ Some node → (word ≡ node_name node) × IsNodeOf dcs shards node
node_taken dcs shards word node few small e =
    let a = node_at_taken dcs shards (cut 46 word).0 (cut 46 word).1 node few small e in
    (cut_whole 46 word ∙ a.0, a.1)

cut_node : (dcs shards : ℕ) (word first : List ℕ) (later : Option (List ℕ)) → cut 46 word ≡ (first, later) → node_of dcs shards word ≡ node_at dcs shards first later
cut_node dcs shards word first later e = ap (λ (p : List ℕ × Option (List ℕ)). node_at dcs shards p.0 p.1) e

pub node_again : (dcs shards : ℕ) (node : NodeId) → dcs ≤ 7 → shards ≤ 8 → IsNodeOf dcs shards node → node_of dcs shards (node_name node) ≡ Some node
node_again dcs shards (Coord dc) few small fits =
    cut_node dcs shards (dc_name dc) (dc_name dc) None (cut_free 46 (dc_name dc) (lacks_dc 46 dcs dc (omega arith) few fits)) ∙ rw (dc_again dcs dc few fits) refl
node_again dcs shards (Shard dc shard) few small fits =
    cut_node dcs shards (dc_name dc ++ 46 ∷ shard_name shard) (dc_name dc) (Some (shard_name shard)) (cut_joined 46 (dc_name dc) (shard_name shard) (lacks_dc 46 dcs dc (omega arith) few fits.0))
    ∙ rw (dc_again dcs dc few fits.0, named_again 115 shards shard (omega arith) fits.1) refl

pub lacks_node : (dcs shards : ℕ) (node : NodeId) → dcs ≤ 7 → shards ≤ 8 → IsNodeOf dcs shards node → lacks 32 (node_name node) ≡ true
lacks_node dcs shards (Coord dc) few small fits = lacks_dc 32 dcs dc (omega arith) few fits
lacks_node dcs shards (Shard dc shard) few small fits =
    lacks_append 32 (dc_name dc) (46 ∷ shard_name shard) (lacks_dc 32 dcs dc (omega arith) few fits.0) (lacks_decimal 32 shard (omega arith) (omega (arith, fits.1.1)))

-- ---- lists of numbers

numbers_in_taken : (low high : ℕ) (words : List (List ℕ)) (ns : List ℕ) → high < 2 ^ 64 → numbers_in low high words ≡ Some ns → (words ≡ map decimal ns) × AllByRecursion (IsIn low high) ns
numbers_in_taken low high [] ns small e = subst (λ (xs : List ℕ). ([] ≡ map decimal xs) × AllByRecursion (IsIn low high) xs) (same_Some _ _ e) (refl, tt)
numbers_in_taken low high (word ∷ words) ns small e =
    let a = bind_some (number_in low high word) (λ n. numbers_in low high words >>= λ ns. Some (n ∷ ns)) ns e in
    let b = bind_some (numbers_in low high words) (λ ns. Some (a.0 ∷ ns)) ns a.2 in
    let first = number_in_taken low high word a.0 small a.1 in
    let rest = numbers_in_taken low high words b.0 small b.1 in
    let made : (word ∷ words ≡ map decimal (a.0 ∷ b.0)) × AllByRecursion (IsIn low high) (a.0 ∷ b.0) = (ap (λ (w : List ℕ). w ∷ words) first.0 ∙ ap (λ (ws : List (List ℕ)). decimal a.0 ∷ ws) rest.0, (first.1, rest.1)) in
    subst (λ (xs : List ℕ). (word ∷ words ≡ map decimal xs) × AllByRecursion (IsIn low high) xs) (same_Some _ _ b.2) made

nil_cons : (word : List ℕ) (words : List (List ℕ)) → [] ≡ word ∷ words → ⊥
nil_cons word words e = cc

some_number : (text : List ℕ) (ns : List ℕ) → slice_split (λ b. eqb b 32) text ≡ map decimal ns → 0 < length ns
some_number text [] e = absurd (nil_cons (cut 32 text).0 (parts 32 (cut 32 text).1) (sym e ∙ slice_split-cut 32 text))
some_number text (n ∷ ns) e = omega arith

pub numbers_taken : (low high : ℕ) (text ns : List ℕ) → high < 2 ^ 64 → numbers_of low high text ≡ Some ns → (text ≡ join_with_byte 32 (map decimal ns)) × (0 < length ns) × AllByRecursion (IsIn low high) ns
numbers_taken low high text ns small e =
    let a = numbers_in_taken low high (slice_split (λ b. eqb b 32) text) ns small e in
    (sym (join_with_byte-slice_split 32 text) ∙ ap (join_with_byte 32) a.0, some_number text ns a.0, a.1)

split_joined : (low high : ℕ) (n : ℕ) (ns : List ℕ) → high < 2 ^ 64 → AllByRecursion (IsIn low high) (n ∷ ns) → slice_split (λ b. eqb b 32) (join_with_byte 32 (map decimal (n ∷ ns))) ≡ map decimal (n ∷ ns)
split_joined low high n [] small fits =
    let first = fits.0.1 in
    slice_split-cut 32 (decimal n) ∙ ap (λ (p : List ℕ × Option (List ℕ)). p.0 ∷ parts 32 p.1) (cut_free 32 (decimal n) (lacks_decimal 32 n (omega arith) (omega arith)))
split_joined low high n (m ∷ ns) small fits =
    let first = fits.0.1 in
    slice_split-cut 32 (decimal n ++ 32 ∷ join_with_byte 32 (map decimal (m ∷ ns))) ∙ ap (λ (p : List ℕ × Option (List ℕ)). p.0 ∷ parts 32 p.1) (cut_joined 32 (decimal n) (join_with_byte 32 (map decimal (m ∷ ns))) (lacks_decimal 32 n (omega arith) (omega arith)))
    ∙ ap (λ (ws : List (List ℕ)). decimal n ∷ ws) (split_joined low high m ns small fits.1)

numbers_in_again : (low high : ℕ) (ns : List ℕ) → high < 2 ^ 64 → AllByRecursion (IsIn low high) ns → numbers_in low high (map decimal ns) ≡ Some ns
numbers_in_again low high [] small fits = refl
numbers_in_again low high (n ∷ ns) small fits = rw (number_in_again low high n small fits.0, numbers_in_again low high ns small fits.1) refl

pub numbers_again : (low high : ℕ) (ns : List ℕ) → high < 2 ^ 64 → 0 < length ns → AllByRecursion (IsIn low high) ns → numbers_of low high (join_with_byte 32 (map decimal ns)) ≡ Some ns
numbers_again low high [] small some fits = absurd (omega arith)
numbers_again low high (n ∷ ns) small some fits = ap (numbers_in low high) (split_joined low high n ns small fits) ∙ numbers_in_again low high (n ∷ ns) small fits

-- a word, and numbers behind it
pub join_later : (word ns : List ℕ) → 0 < length ns → join_with_byte 32 (word ∷ map decimal ns) ≡ word ++ 32 ∷ join_with_byte 32 (map decimal ns)
join_later word [] some = absurd (omega arith)
join_later word (n ∷ ns) some = refl
