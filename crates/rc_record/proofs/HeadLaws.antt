-- Heads are read where their spelling stands first, and nowhere else.
use Rattle.std.proofs.Common.{◌≡◌, ℕ, zero, suc, ◌-◌, ◌^◌, ◌<◌, ◌≤◌, ◌==◌, Bool, true, false, ◌&&◌, cond, List, [], ◌∷◌, ◌++◌, length, Option, Some, None, refl, sym, ap, subst, ◌∙◌, append_assoc, arith}
use Rattle.std.specs.Prelude.{IsTrue, nat_le, is_none}
use Rattle.std.specs.List.{flat_map, list_all, AllByRecursion}
use Rattle.std.proofs.lemmas.Bool.{leb-true, le-leb, and_parts, and_from}
use Rattle.std.proofs.lemmas.List.Concat.{flat_map-cons}
use Rattle.rc_ids.specs.declared.names.NodeId.{NodeId}
use Rattle.rc_ids.specs.declared.fault.ClusterFault.{ClusterFault}
use Rattle.rc_ids.specs.declared.fault.ClusterFault.TheVariants.{BadDcs, BadShards, BadSplits, BadWeights}
use Rattle.rc_ids.specs.Texts.{IsKey}
use Rattle.rc_ids.specs.Cluster.{Layout, IsLayout, layout, equal_weights, cluster_fault, is_dc_count, is_shard_count, are_splits, are_weights, is_weight, is_key, rise}
use Rattle.rc_ids.proofs.LayoutFacts.{dc_count_range}
use Rattle.rc_fields.specs.Ranges.{IsNodeName}
use Rattle.rc_fields.specs.Spelling.{u8_bytes, key_bytes, node_bytes}
use Rattle.rc_fields.specs.Formats.{Reader, Reads, ◌>>=◌, both_at, mapped_at, tested_at, many_at}
use Rattle.rc_fields.specs.Names.{byte_at, node_at, key_at}
use Rattle.rc_fields.proofs.FormatLaws.{IsBytes-rest, bind_some, some_is, Reads-mapped, Reads-same, Reads-both, Reads-tested, many_takes, many_again}
use Rattle.rc_fields.proofs.NameLaws.{Reads-byte, Reads-node, Reads-key, IsKey-from_test, is_key-holds}
use Rattle.rc_record.specs.Heads.{LogHead, IsHead}
use Rattle.rc_record.specs.Spelling.{weights_bytes, head_bytes, HasHead}
use Rattle.rc_record.specs.Reading.{then_at, Front, Lists, weight_count, front_at, lists_at, head_from, is_head, head_at}

-- READINGS
Reads-then : {A B : Type 0} (sa : A → List ℕ) (fa : A → Type 0) (at : Reader A) (sb : A → B → List ℕ) (fb : A → B → Type 0) (bt : A → Reader B)
    → Reads sa fa at → ((a : A) → Reads (sb a) (fb a) (bt a))
    → Reads (λ (p : A × B). sa p.0 ++ sb p.0 p.1) (λ (p : A × B). fa p.0 × fb p.0 p.1) (then_at at bt)
unfolding then_at
Reads-then {A} {B} sa fa at sb fb bt first second = record {
  takes = λ bytes p rest fits e.
      let s = bind_some (at bytes) (λ a. bt a.0 a.1 >>= λ b. Some ((a.0, b.0), b.1)) (p, rest) e in
      let u = bind_some (bt s.0.0 s.0.1) (λ b. Some ((s.0.0, b.0), b.1)) (p, rest) s.2 in
      let ta = first.takes bytes s.0.0 s.0.1 fits s.1 in
      let tb = (second s.0.0).takes s.0.1 u.0.0 u.0.1 (IsBytes-rest bytes (sa s.0.0) s.0.1 fits ta.1) u.1 in
      let made : (A × B) × List ℕ = ((s.0.0, u.0.0), u.0.1) in
      subst (λ (q : (A × B) × List ℕ). (fa q.0.0 × fb q.0.0 q.0.1) × (bytes ≡ (sa q.0.0 ++ sb q.0.0 q.0.1) ++ q.1)) (some_is made (p, rest) u.2)
      ((ta.0, tb.0), ta.1 ∙ ap (λ w. sa s.0.0 ++ w) tb.1 ∙ sym (append_assoc (sa s.0.0) (sb s.0.0 u.0.0) u.0.1));
  again = λ p rest fits.
      ap (λ w. at w >>= λ a. bt a.0 a.1 >>= λ b. Some ((a.0, b.0), b.1)) (append_assoc (sa p.0) (sb p.0 p.1) rest)
      ∙ ap (λ r. r >>= λ a. bt a.0 a.1 >>= λ b. Some ((a.0, b.0), b.1)) (first.again p.0 (sb p.0 p.1 ++ rest) fits.0)
      ∙ ap (λ r. r >>= λ b. Some ((p.0, b.0), b.1)) ((second p.0).again p.1 rest fits.1);
}

Reads-many : {A : Type 0} (sa : A → List ℕ) (fa : A → Type 0) (at : Reader A) (n : ℕ) → Reads sa fa at
    → Reads (flat_map sa) (λ xs. (length xs ≡ n) × AllByRecursion fa xs) (many_at at n)
Reads-many {A} sa fa at n reads = record {
  takes = λ bytes xs rest is e. let t = many_takes sa fa at reads n bytes xs rest is e in ((t.0, t.1), t.2);
  again = λ xs rest fits.
      ap (λ m. many_at at m (flat_map sa xs ++ rest)) (sym fits.0) ∙ many_again sa fa at reads xs rest fits.1;
}

-- FIELDS
abbrev IsByte : ℕ → Type 0
IsByte v = v < 2 ^ 8

abbrev front_bytes : Front → List ℕ
front_bytes f = (u8_bytes f.0.0 ++ node_bytes f.0.1) ++ (u8_bytes f.1.0 ++ u8_bytes f.1.1)

abbrev HasFront : Front → Type 0
HasFront f = (IsByte f.0.0 × IsNodeName f.0.1) × (IsByte f.1.0 × IsByte f.1.1)

Reads-front : Reads front_bytes HasFront front_at
unfolding front_at
Reads-front =
    Reads-both (λ (p : ℕ × NodeId). u8_bytes p.0 ++ node_bytes p.1) (λ (p : ℕ × NodeId). IsByte p.0 × IsNodeName p.1) (both_at byte_at node_at)
    (λ (p : ℕ × ℕ). u8_bytes p.0 ++ u8_bytes p.1) (λ (p : ℕ × ℕ). IsByte p.0 × IsByte p.1) (both_at byte_at byte_at)
    (Reads-both u8_bytes IsByte byte_at node_bytes IsNodeName node_at Reads-byte Reads-node)
    (Reads-both u8_bytes IsByte byte_at u8_bytes IsByte byte_at Reads-byte Reads-byte)

abbrev lists_bytes : Lists → List ℕ
lists_bytes l = flat_map u8_bytes l.0 ++ flat_map key_bytes l.1

abbrev HasWeights : Front → List ℕ → Type 0
HasWeights f ws = (length ws ≡ weight_count f) × AllByRecursion IsByte ws

abbrev HasSplits : Front → List (List ℕ) → Type 0
HasSplits f ks = (length ks ≡ f.1.1 - 1) × AllByRecursion IsKey ks

abbrev HasLists : Front → Lists → Type 0
HasLists f l = HasWeights f l.0 × HasSplits f l.1

Reads-lists : (f : Front) → Reads lists_bytes (HasLists f) (lists_at f)
unfolding lists_at
Reads-lists f =
    Reads-both (flat_map u8_bytes) (HasWeights f) (many_at byte_at (weight_count f)) (flat_map key_bytes) (HasSplits f) (many_at key_at (f.1.1 - 1))
    (Reads-many u8_bytes IsByte byte_at (weight_count f) Reads-byte) (Reads-many key_bytes IsKey key_at (f.1.1 - 1) Reads-key)

abbrev Parts : Type 0
Parts = Front × Lists

abbrev parts_bytes : Parts → List ℕ
parts_bytes p = front_bytes p.0 ++ lists_bytes p.1

abbrev HasParts : Parts → Type 0
HasParts p = HasFront p.0 × HasLists p.0 p.1

Reads-parts : Reads parts_bytes HasParts (then_at front_at lists_at)
Reads-parts = Reads-then front_bytes HasFront front_at (λ f. lists_bytes) HasLists lists_at Reads-front Reads-lists

-- HEADS
abbrev written_weights : LogHead → List ℕ
written_weights h = cond (h.format == 3) h.world.weights []

abbrev parts_of : LogHead → Parts
parts_of h = (((h.format, h.node), (h.world.dcs, h.world.shards)), (written_weights h, h.world.splits))

bytes_alone : (ws : List ℕ) → flat_map u8_bytes ws ≡ ws
bytes_alone [] = refl
bytes_alone (w ∷ ws) = flat_map-cons u8_bytes w ws ∙ ap (λ xs. w ∷ xs) (bytes_alone ws)

head_spelled : (h : LogHead) → head_bytes h ≡ parts_bytes (parts_of h)
head_spelled h = ap (λ ws. front_bytes (parts_of h).0 ++ (ws ++ flat_map key_bytes h.world.splits)) (sym (bytes_alone (written_weights h)))

-- weights that are not there, are not there
no_weights : (three : Bool) (ws ones : List ℕ) (n : ℕ) → length ws ≡ cond three n 0 → cond three (cond three ws ones) [] ≡ ws
no_weights true ws ones n count = refl
no_weights false [] ones n count = refl
no_weights false (w ∷ ws) ones n count = absurd (omega arith)

same_parts : (p : Parts) → HasParts p → parts_of (head_from p) ≡ p
same_parts p fits =
    ap (λ (ws : List ℕ). let l : Lists = (ws, p.1.1) in let q : Parts = (p.0, l) in q)
    (no_weights (p.0.0.0 == 3) p.1.0 (equal_weights p.0.1.0) p.0.1.0 fits.1.0.0)

-- what is read, before it is tested
record IsRead (h : LogHead) : Type 0 where
  parts : HasParts (parts_of h)
  same : head_from (parts_of h) ≡ h

Reads-untested : Reads head_bytes IsRead (mapped_at head_from (then_at front_at lists_at))
Reads-untested =
    Reads-mapped parts_bytes HasParts (then_at front_at lists_at) head_from parts_of head_bytes IsRead Reads-parts
    (λ p fits.
    let same = same_parts p fits in
    (record { parts = subst HasParts (sym same) fits; same = ap head_from same }, head_spelled (head_from p) ∙ ap parts_bytes same))
    (λ h fits. (fits.parts, fits.same))

-- WHICH HEADS THERE ARE
keys_pass : (ks : List (List ℕ)) → AllByRecursion IsKey ks → list_all is_key ks ≡ true
keys_pass [] all = refl
keys_pass (k ∷ ks) all = and_from (is_key k) (list_all is_key ks) (is_key-holds k all.0) (keys_pass ks all.1)

all_keys : (ks : List (List ℕ)) → list_all is_key ks ≡ true → AllByRecursion IsKey ks
all_keys [] e = tt
all_keys (k ∷ ks) e = let h = and_parts (is_key k) (list_all is_key ks) e in (IsKey-from_test k h.0, all_keys ks h.1)

all_bytes : (ws : List ℕ) → list_all is_weight ws ≡ true → AllByRecursion IsByte ws
all_bytes [] e = tt
all_bytes (w ∷ ws) e =
    let h = and_parts (is_weight w) (list_all is_weight ws) e in
    let k = and_parts (nat_le 1 w) (nat_le w 9) h.0 in
    let le = leb-true w 9 k.1 in
    (omega arith, all_bytes ws h.1)

-- a layout without fault, test by test
record Passes (c : Layout) : Type 0 where
  dcs : is_dc_count c.dcs ≡ true
  shards : is_shard_count c.shards ≡ true
  splits : are_splits c.shards c.splits ≡ true
  weights : are_weights c.dcs c.weights ≡ true

passes : (a b s w : Bool) → cond a (cond b (cond s (cond w None (Some BadWeights)) (Some BadSplits)) (Some BadShards)) (Some BadDcs) ≡ None
    → (a ≡ true) × (b ≡ true) × (s ≡ true) × (w ≡ true)
passes true true true true e = (refl, refl, refl, refl)
passes true true true false e = absurd cc
passes true true false w e = absurd cc
passes true false s w e = absurd cc
passes false b s w e = absurd cc

passes_all : (c : Layout) → cluster_fault c ≡ None → Passes c
passes_all c none =
    let p = passes (is_dc_count c.dcs) (is_shard_count c.shards) (are_splits c.shards c.splits) (are_weights c.dcs c.weights) none in
    record { dcs = p.0; shards = p.1; splits = p.2; weights = p.3 }

without_fault : (a b s w : Bool) → a ≡ true → b ≡ true → s ≡ true → w ≡ true
    → is_none (cond a (cond b (cond s (cond w None (Some BadWeights)) (Some BadSplits)) (Some BadShards)) (Some BadDcs)) ≡ true
without_fault a b s w pa pb ps pw = rw (pa, pb, ps, pw) refl

is_none-holds : (o : Option ClusterFault) → is_none o ≡ true → o ≡ None
is_none-holds None e = refl
is_none-holds (Some f) e = absurd cc

not_three : (n : ℕ) → n < 3 → (n == 3) ≡ false
not_three n low = grind arith

below_three : (n : ℕ) → n ≤ 3 → (n == 3) ≡ false → n < 3
below_three n le other = grind arith

same_number : (n m : ℕ) → (n == m) ≡ true → n ≡ m
same_number n m e = grind arith

head_forth : (h : LogHead) → IsRead h × (is_head h ≡ true) → HasHead h
head_forth h fits =
    let a = and_parts (nat_le 1 h.format && nat_le h.format 3) (is_none (cluster_fault h.world)) fits.1 in
    let b = and_parts (nat_le 1 h.format) (nat_le h.format 3) a.0 in
    let p = passes_all h.world (is_none-holds (cluster_fault h.world) a.1) in
    let twice = λ (t : Bool). cond t (written_weights h) (equal_weights h.world.dcs) in (
      fits.0.parts.0.0.1,
      record {
        known = (leb-true 1 h.format b.0, leb-true h.format 3 b.1);
        layout = record {
          dcs = p.dcs;
          shards = p.shards;
          splits = p.splits;
          keys = keys_pass h.world.splits fits.0.parts.1.1.1;
          weights = p.weights;
        };
        equal = λ low. sym (ap (λ (k : LogHead). k.world.weights) fits.0.same) ∙ ap twice (not_three h.format low);
      },
    )

written_count : (b : Bool) (ws : List ℕ) (n : ℕ) → length ws ≡ n → length (cond b ws []) ≡ cond b n 0
written_count true ws n e = e
written_count false ws n e = refl

written_bytes : (b : Bool) (ws : List ℕ) → AllByRecursion IsByte ws → AllByRecursion IsByte (cond b ws [])
written_bytes true ws all = all
written_bytes false ws all = tt

kept : (b : Bool) (ws ones : List ℕ) → (b ≡ false → ws ≡ ones) → cond b (cond b ws []) ones ≡ ws
kept true ws ones equal = refl
kept false ws ones equal = sym (equal refl)

head_back : (h : LogHead) → HasHead h → IsRead h × (is_head h ≡ true)
head_back h has =
    let is = has.1 in
    let dcs = dc_count_range h.world.dcs is.layout.dcs in
    let shards = and_parts (nat_le 1 h.world.shards) (nat_le h.world.shards 8) is.layout.shards in
    let few = leb-true h.world.shards 8 shards.1 in
    let splits = and_parts (suc (length h.world.splits) == h.world.shards) (rise h.world.splits) is.layout.splits in
    let count = same_number (suc (length h.world.splits)) h.world.shards splits.0 in
    let weights = and_parts (length h.world.weights == h.world.dcs) (list_all is_weight h.world.weights) is.layout.weights in
    let known = is.known in
    let format : IsByte h.format = omega (arith, known.1) in
    let dcs_byte : IsByte h.world.dcs = omega (arith, dcs.1) in
    let shards_byte : IsByte h.world.shards = omega (arith, few) in
    let rest : length h.world.splits ≡ h.world.shards - 1 = omega (arith, count) in
    let no_weight : (h.format == 3) ≡ false → h.world.weights ≡ equal_weights h.world.dcs = λ other. is.equal (below_three h.format known.1 other) in (
      record {
        parts = (
          ((format, has.0), (dcs_byte, shards_byte)),
          (
            (
              written_count (h.format == 3) h.world.weights h.world.dcs (same_number (length h.world.weights) h.world.dcs weights.0),
              written_bytes (h.format == 3) h.world.weights (all_bytes h.world.weights weights.1),
            ),
            (rest, all_keys h.world.splits is.layout.keys),
          ),
        );
        same = ap
            (λ (ws : List ℕ). let k : LogHead = record { format = h.format; node = h.node; world = layout h.world.dcs h.world.shards h.world.splits ws } in k)
            (kept (h.format == 3) h.world.weights (equal_weights h.world.dcs) no_weight);
      },
      and_from (nat_le 1 h.format && nat_le h.format 3) (is_none (cluster_fault h.world))
          (and_from (nat_le 1 h.format) (nat_le h.format 3) (le-leb 1 h.format known.0) (le-leb h.format 3 known.1))
          (without_fault (is_dc_count h.world.dcs) (is_shard_count h.world.shards) (are_splits h.world.shards h.world.splits)
          (are_weights h.world.dcs h.world.weights) is.layout.dcs is.layout.shards is.layout.splits is.layout.weights),
    )

pub Reads-head : Reads head_bytes HasHead head_at
unfolding head_at
Reads-head =
    Reads-same head_bytes (λ h. IsRead h × (is_head h ≡ true)) (tested_at is_head (mapped_at head_from (then_at front_at lists_at))) head_bytes HasHead
    (Reads-tested head_bytes IsRead (mapped_at head_from (then_at front_at lists_at)) is_head Reads-untested)
    (λ h fits. (head_forth h fits, refl)) head_back

-- A CHECKED HEAD
-- a world of a head without weights
pub equal_of : (n : ℕ) (world : Layout) (ws : List ℕ) (dcs shards : ℕ) (ks : List (List ℕ)) (b : Bool)
    → Some world ≡ cond b (Some (layout dcs shards ks (cond (n == 3) ws (equal_weights dcs)))) None → n < 3 → world.weights ≡ equal_weights world.dcs
equal_of n world ws dcs shards ks true e low =
    let same : layout dcs shards ks (cond (n == 3) ws (equal_weights dcs)) ≡ world = cc in
    subst (λ (w : Layout). w.weights ≡ equal_weights w.dcs) same (ap (λ t. cond t ws (equal_weights dcs)) (not_three n low))
equal_of n world ws dcs shards ks false e low = absurd cc

pub made_of : (h : LogHead) (world : Layout) (b : Bool) → 1 ≤ h.format → h.format ≤ 3 → is_none (cluster_fault h.world) ≡ b
    → Some world ≡ cond b (Some h.world) None
    → (let made : LogHead = record { format = h.format; node = h.node; world = world } in Some made) ≡ cond (is_head h) (Some h) None
made_of h world true low high is e =
    let same : world ≡ h.world = cc in
    let passed : is_head h ≡ true =
    and_from (nat_le 1 h.format && nat_le h.format 3) (is_none (cluster_fault h.world))
    (and_from (nat_le 1 h.format) (nat_le h.format 3) (le-leb 1 h.format low) (le-leb h.format 3 high)) is in
    ap (λ (w : Layout). let made : LogHead = record { format = h.format; node = h.node; world = w } in Some made) same
    ∙ sym (ap (λ t. cond t (Some h) None) passed)
made_of h world false low high is e = absurd cc

-- the lists behind a front, field by field
lists_found : (bytes behind_weights rest : List ℕ) (f : Front) (ws : List ℕ) (ks : List (List ℕ))
    → many_at byte_at (weight_count f) bytes ≡ Some (ws, behind_weights) → many_at key_at (f.1.1 - 1) behind_weights ≡ Some (ks, rest)
    → tested_at is_head (mapped_at (λ (l : Lists). head_from (f, l)) (lists_at f)) bytes
    ≡ cond (is_head (head_from (f, (ws, ks)))) (Some (head_from (f, (ws, ks)), rest)) None
unfolding lists_at tested_at mapped_at both_at
lists_found bytes behind_weights rest f ws ks weights splits = rw (weights, splits) refl

abbrev Found : Type 0
Found = LogHead × List ℕ

head_found : (h head : LogHead) (rest : List ℕ) (b : Bool) → Some head ≡ cond b (Some h) None
    → cond {A = Option Found} b (Some (h, rest)) None ≡ Some (head, rest)
head_found h head rest true e = let same : head ≡ h = cc in ap (λ (k : LogHead). let found : Found = (k, rest) in Some found) (sym same)
head_found h head rest false e = absurd cc

pub behind_made : (bytes behind_weights rest : List ℕ) (f : Front) (ws : List ℕ) (ks : List (List ℕ)) (count less : ℕ) (head : LogHead)
    → many_at byte_at count bytes ≡ Some (ws, behind_weights) → count ≡ weight_count f
    → many_at key_at less behind_weights ≡ Some (ks, rest) → less ≡ f.1.1 - 1
    → Some head ≡ cond (is_head (head_from (f, (ws, ks)))) (Some (head_from (f, (ws, ks)))) None
    → tested_at is_head (mapped_at (λ (l : Lists). head_from (f, l)) (lists_at f)) bytes ≡ Some (head, rest)
behind_made bytes behind_weights rest f ws ks count less head weights counted splits shorter made =
    lists_found bytes behind_weights rest f ws ks
    (ap (λ n. many_at byte_at n bytes) (sym counted) ∙ weights) (ap (λ n. many_at key_at n behind_weights) (sym shorter) ∙ splits)
    ∙ head_found (head_from (f, (ws, ks))) head rest (is_head (head_from (f, (ws, ks)))) made

abbrev pair_with : Front → Lists × List ℕ → Option (Parts × List ℕ)
pair_with f l = Some ((f, l.0), l.1)

abbrev from_parts : Parts × List ℕ → Option Found
from_parts p = Some (head_from p.0, p.1)

abbrev from_lists : Front → Lists × List ℕ → Option Found
from_lists f l = Some (head_from (f, l.0), l.1)

abbrev tested : Found → Option Found
tested x = cond (is_head x.0) (Some x) None

regrouped : (f : Front) (read : Option (Lists × List ℕ)) → (((read >>= pair_with f) >>= from_parts) >>= tested) ≡ ((read >>= from_lists f) >>= tested)
regrouped f (Some l) = refl
regrouped f None = refl

-- a head is a front, and what stands behind it
pub head_at-front : (bytes behind : List ℕ) (f : Front) → front_at bytes ≡ Some (f, behind)
    → tested_at is_head (mapped_at (λ (l : Lists). head_from (f, l)) (lists_at f)) behind ≡ head_at bytes
unfolding head_at then_at tested_at mapped_at
head_at-front bytes behind f front = rw front (sym (regrouped f (lists_at f behind)))

pub head_at-none : (bytes : List ℕ) → front_at bytes ≡ None → head_at bytes ≡ None
unfolding head_at then_at tested_at mapped_at
head_at-none bytes front = rw front refl
