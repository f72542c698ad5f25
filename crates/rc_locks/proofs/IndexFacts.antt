-- The keys that the index has of a transaction, and the marks of the table.
use Rattle.std.proofs.Common.{◌≡◌, ℕ, ◌≤◌, ◌<◌, nat_lt, Bool, true, false, not, filter, ◌||◌, ◌&&◌, ◌==◌, cond, if◌then◌else◌, List, [], ◌∷◌, ◌++◌, Option, Some, None, is_some, IsSome, Vec, Global, refl, sym, ap, ◌∙◌, subst, arith}
use Rattle.std.specs.declared.cmp.Ordering.{Ordering}
use Rattle.std.specs.declared.cmp.Ordering.TheVariants.{Less, Equal, Greater}
use Rattle.std.specs.Ordering.{nat_cmp, is_eq, is_gt, ordering_then, ordering_reverse}
use Rattle.std.specs.Option.{option_map, IfSome}
use Rattle.std.specs.List.{slice_get}
use Rattle.std.specs.BTreeMap.{is_at}
use Rattle.std.specs.BTreeMap.Range.{IsLeBy}
use Rattle.std.specs.Cmp.Lexicographic.{texts_ties}
use Rattle.std.proofs.lemmas.Cmp.{nat_cmp_total, nat_list_cmp_total, tied_itself}
use Rattle.std.proofs.lemmas.Map.Keys.{le_from_not_gt}
use Rattle.std.proofs.lemmas.Map.Lookups.{exact_unsigned, exact_bytes}
use Rattle.rc_ids.specs.Tables.{Table, found, member, maybe}
use Rattle.rc_ids.specs.Texts.{key_cmp, same_key}
use Rattle.rc_protocol.specs.Shard.{Mark, mark_cmp}
use Rattle.rc_locks.specs.declared.flags.Lock.{Lock}
use Rattle.rc_locks.specs.Flags.{plain_at, lost_at, is_plain, is_lost, AreTxs, has_place, IsTurned, without_plain, turned_where, is_one_of, keys_at, has_key_at, IsCovered}
use Rattle.rc_locks.proofs.MarkLists.{mark_exact, from_same, same_itself, member-filter}
use Rattle.rc_locks.proofs.FlagFacts.{number_test}

abbrev pub Index : Type 0
Index = Table ℕ (Vec (List ℕ) Global)

abbrev pub IsSet : {K X : Type 0} → (K → K → Ordering) → Table K X → Table K X → K → Option X → Type 0
IsSet {K} cmp old new k x = (q : K) → found cmp new q ≡ cond (is_at (cmp k) q) x (found cmp old q)

-- ALL MARKS OF A TRANSACTION
module _ (locks : Table Mark Lock) (index : Index) (t : ℕ) (ks : Vec (List ℕ) Global) (there : Some ks ≡ found nat_cmp index t) (covered : IsCovered locks index) where
  pub one_of_all : (m : Mark) → has_place locks m ≡ true → is_one_of t ks.items m ≡ (m.1 == t)
  one_of_all m here = at (m.1 == t) refl
    where
      at : (b : Bool) → (m.1 == t) ≡ b → (b && member key_cmp ks.items m.0) ≡ b
      at true is =
          let same : t ≡ m.1 = from_same exact_unsigned t m.1 (sym (number_test t m.1) ∙ is) in
          let keys : ks.items ≡ keys_at index m.1 = ap (λ (o : Option (Vec (List ℕ) Global)). maybe o [] (λ v. v.items)) there ∙ ap (keys_at index) same in
          ap (λ xs. member key_cmp xs m.0) keys ∙ covered m here
      at false is = refl

  pub all_given_back : (new : Table Mark Lock) → IsTurned (λ (m : Mark). turned_where (is_one_of t ks.items m) without_plain) locks new → IsTurned (λ (m : Mark). turned_where (m.1 == t) without_plain) locks new
  all_given_back new turned m = turned m ∙ at (found mark_cmp locks m) refl
    where
      at : (o : Option Lock) → found mark_cmp locks m ≡ o → option_map (turned_where (is_one_of t ks.items m) without_plain) o ≡ option_map (turned_where (m.1 == t) without_plain) o
      at None is = refl
      at (Some l) is = ap (λ b. Some (turned_where b without_plain l)) (one_of_all m (ap is_some is))

  pub all_gone : (new : Table Mark Lock) → ((m : Mark) → found mark_cmp new m ≡ (if is_one_of t ks.items m then None else found mark_cmp locks m))
      → (m : Mark) → found mark_cmp new m ≡ (if m.1 == t then None else found mark_cmp locks m)
  all_gone new left m = left m ∙ at (found mark_cmp locks m) refl
    where
      none : (a b : Bool) → (let x : Option Lock = if a then None else None in x) ≡ (let y : Option Lock = if b then None else None in y)
      none true true = refl
      none true false = refl
      none false true = refl
      none false false = refl

      at : (o : Option Lock) → found mark_cmp locks m ≡ o → (if is_one_of t ks.items m then None else o) ≡ (if m.1 == t then None else o)
      at None is = none (is_one_of t ks.items m) (m.1 == t)
      at (Some l) is = ap (λ b. if b then None else Some l) (one_of_all m (ap is_some is))

pub still_covered : (old new : Table Mark Lock) (index index' : Index) (t : ℕ) → ((m : Mark) → found mark_cmp new m ≡ (if m.1 == t then None else found mark_cmp old m))
    → IsSet nat_cmp index index' t None → IsCovered old index → IsCovered new index'
still_covered old new index index' t left without covered m here = at (m.1 == t) refl (ap is_some (sym (left m)) ∙ here)
  where
    at : (b : Bool) → (m.1 == t) ≡ b → is_some (if b then None else found mark_cmp old m) ≡ true → has_key_at index' m ≡ true
    at true is none = absurd cc
    at false is there =
        let other : is_eq (nat_cmp t m.1) ≡ false = sym (number_test t m.1) ∙ is in
        ap (λ (o : Option (Vec (List ℕ) Global)). member key_cmp (maybe o [] (λ v. v.items)) m.0)
        (without m.1 ∙ ap (λ b. cond b None (found nat_cmp index m.1)) other)
        ∙ covered m there

-- ONE MORE KEY
pub member_last : (xs : List (List ℕ)) (x k : List ℕ) → x ≡ k → member key_cmp (xs ++ x ∷ []) k ≡ true
member_last [] x k same = ap (λ b. b || false) (ap (λ y. is_eq (key_cmp k y)) same ∙ same_itself nat_list_cmp_total k)
member_last (y ∷ ys) x k same = ap (λ b. is_eq (key_cmp k y) || b) (member_last ys x k same) ∙ or_true (is_eq (key_cmp k y))
  where
    or_true : (b : Bool) → (b || true) ≡ true
    or_true true = refl
    or_true false = refl

module _ (old new : Index) (t : ℕ) (ks : Vec (List ℕ) Global) (set : IsSet nat_cmp old new t (Some ks)) where
  pub noted_there : (k : List ℕ) → member key_cmp ks.items k ≡ true → has_key_at new (k, t) ≡ true
  noted_there k has =
      ap (λ (o : Option (Vec (List ℕ) Global)). member key_cmp (maybe o [] (λ v. v.items)) k)
      (set t ∙ ap (λ b. cond b (Some ks) (found nat_cmp old t)) (same_itself nat_cmp_total t))
      ∙ has

  kept_at : (m : Mark) (b : Bool) → is_eq (nat_cmp t m.1) ≡ b
      → (b ≡ true → member key_cmp ks.items m.0 ≡ true) → has_key_at old m ≡ true → has_key_at new m ≡ true
  kept_at m true is has had =
      ap (λ (o : Option (Vec (List ℕ) Global)). member key_cmp (maybe o [] (λ v. v.items)) m.0)
      (set m.1 ∙ ap (λ b. cond b (Some ks) (found nat_cmp old m.1)) is)
      ∙ has refl
  kept_at m false is has had =
      ap (λ (o : Option (Vec (List ℕ) Global)). member key_cmp (maybe o [] (λ v. v.items)) m.0)
      (set m.1 ∙ ap (λ b. cond b (Some ks) (found nat_cmp old m.1)) is)
      ∙ had

  pub noted_kept : (held : Vec (List ℕ) Global) → Some held ≡ found nat_cmp old t → ((k : List ℕ) → member key_cmp held.items k ≡ true → member key_cmp ks.items k ≡ true)
      → (m : Mark) → has_key_at old m ≡ true → has_key_at new m ≡ true
  noted_kept held there grows m had =
      kept_at m (is_eq (nat_cmp t m.1)) refl
      (λ is. grows m.0
      (ap (λ (o : Option (Vec (List ℕ) Global)). member key_cmp (maybe o [] (λ v. v.items)) m.0) (there ∙ ap (found nat_cmp old) (from_same exact_unsigned t m.1 is)) ∙ had)) had

  pub noted_new : None ≡ found nat_cmp old t → (m : Mark) → has_key_at old m ≡ true → has_key_at new m ≡ true
  noted_new none m had =
      kept_at m (is_eq (nat_cmp t m.1)) refl
      (λ is. absurd (let no : false ≡ true = ap (λ (o : Option (Vec (List ℕ) Global)). member key_cmp (maybe o [] (λ v. v.items)) m.0) (none ∙ ap (found nat_cmp old) (from_same exact_unsigned t m.1 is)) ∙ had in cc)) had

-- set by a copy of the key
pub copied_set : {X : Type 0} (old new : Table Mark X) (k k' : List ℕ) (t : ℕ) (x : Option X) → k' ≡ k → IsSet mark_cmp old new (k', t) x → IsSet mark_cmp old new (k, t) x
copied_set old new k k' t x same set q = set q ∙ ap (λ n. cond (is_at (mark_cmp (n, t)) q) x (found mark_cmp old q)) same

-- A NEW PLACE
nothing : {X : Type 0} (o : Option X) → is_some o ≡ false → o ≡ None
nothing None e = refl
nothing (Some x) e = absurd cc

module _ (old new : Table Mark Lock) (k : Mark) (set : IsSet mark_cmp old new k (Some (record { plain = false; lost = false }))) where
  pub place_kept : (m : Mark) → has_place old m ≡ true → has_place new m ≡ true
  place_kept m had = ap is_some (set m) ∙ at (is_eq (mark_cmp k m))
    where
      at : (b : Bool) → is_some (cond b (Some (let l : Lock = record { plain = false; lost = false } in l)) (found mark_cmp old m)) ≡ true
      at true = refl
      at false = had

  module _ (absent : has_place old k ≡ false) where
    unchanged : (f : Option Lock → Bool) → f None ≡ false → f (Some (record { plain = false; lost = false })) ≡ false → (m : Mark) → f (found mark_cmp new m) ≡ f (found mark_cmp old m)
    unchanged f none empty m = ap f (set m) ∙ at (is_eq (mark_cmp k m)) refl
      where
        at : (b : Bool) → is_eq (mark_cmp k m) ≡ b → f (cond b (Some (record { plain = false; lost = false })) (found mark_cmp old m)) ≡ f (found mark_cmp old m)
        at true is = empty ∙ sym (ap f (ap (found mark_cmp old) (sym (from_same mark_exact k m is)) ∙ nothing (found mark_cmp old k) absent) ∙ none)
        at false is = refl

    pub plain_unchanged : (m : Mark) → plain_at new m ≡ plain_at old m
    plain_unchanged m = unchanged is_plain refl refl m

    pub lost_unchanged : (m : Mark) → lost_at new m ≡ lost_at old m
    lost_unchanged m = unchanged is_lost refl refl m

  old_or_new : (P : Mark → Type 0) → P k → ((m : Mark) → has_place old m ≡ true → P m) → (m : Mark) → has_place new m ≡ true → P m
  old_or_new P here others m had = at (is_eq (mark_cmp k m)) refl (ap is_some (sym (set m)) ∙ had)
    where
      at : (b : Bool) → is_eq (mark_cmp k m) ≡ b → is_some (cond b (Some (let l : Lock = record { plain = false; lost = false } in l)) (found mark_cmp old m)) ≡ true → P m
      at true is h = subst P (from_same mark_exact k m is) here
      at false is h = others m h

  pub placed_txs : 1 ≤ k.1 → AreTxs old → AreTxs new
  placed_txs first txs = old_or_new (λ m. 1 ≤ m.1) first txs

  pub placed_covered : (index index' : Index) → has_key_at index' k ≡ true → ((m : Mark) → has_key_at index m ≡ true → has_key_at index' m ≡ true) → IsCovered old index → IsCovered new index'
  placed_covered index index' here kept covered = old_or_new (λ m. has_key_at index' m ≡ true) here (λ m had. kept m (covered m had))

-- A RANGE FROM A MARK ON
pub from_on : (k k' : List ℕ) (a t : ℕ) → k' ≡ k → a ≤ t → is_gt (mark_cmp (k', a) (k, t)) ≡ false
from_on k k' a t same le =
    ap (λ x. is_gt (mark_cmp (x, a) (k, t))) same ∙ ap (λ o. is_gt (ordering_then o (nat_cmp a t))) (tied_itself nat_list_cmp_total k) ∙ not_above a t le
  where
    not_above : (a t : ℕ) → a ≤ t → is_gt (nat_cmp a t) ≡ false
    not_above a t le = grind arith

pub after_that : (k k' : List ℕ) (a t : ℕ) → k' ≡ k → a < t → mark_cmp (k', a) (k, t) ≡ Less
after_that k k' a t same lt =
    ap (λ x. mark_cmp (x, a) (k, t)) same ∙ ap (λ o. ordering_then o (nat_cmp a t)) (tied_itself nat_list_cmp_total k) ∙ below a t lt
  where
    below : (a t : ℕ) → a < t → nat_cmp a t ≡ Less
    below a t lt = grind arith

pub first_least : (es r : Table Mark Lock) (e : Mark × Lock) (rest : Table Mark Lock) (q : Mark) → r ≡ e ∷ rest
    → (IsSome (found mark_cmp es q) → IfSome (slice_get r 0) (λ x. IsLeBy mark_cmp x.0 q)) → has_place es q ≡ true → is_gt (mark_cmp e.0 q) ≡ false
first_least es r e rest q is least had = subst (λ (x : Table Mark Lock). IfSome (slice_get x 0) (λ y. IsLeBy mark_cmp y.0 q)) is (least had)

pub key_same : (a b : List ℕ) → same_key a b ≡ true → a ≡ b
key_same a b same = from_same exact_bytes a b (sym (texts_ties a b) ∙ same)

pub case_place : (b : Bool) → (b ≡ true → ⊥) → b ≡ false
case_place true never = absurd (never refl)
case_place false never = refl

pub below_first : (es : Table Mark Lock) (k : List ℕ) (t : ℕ) (e : Mark) → same_key e.0 k ≡ true
    → (has_place es (k, t) ≡ true → is_gt (mark_cmp e (k, t)) ≡ false) → nat_lt t e.1 ≡ true → has_place es (k, t) ≡ false
below_first es k t e same least below =
    case_place (has_place es (k, t))
    (λ had.
    let tie = ap (λ x. key_cmp x k) (key_same e.0 k same) ∙ tied_itself nat_list_cmp_total k in
    let no : is_gt (nat_cmp e.1 t) ≡ false = sym (ap (λ o. is_gt (ordering_then o (nat_cmp e.1 t))) tie) ∙ least had in
    let le = le_from_not_gt e.1 t no in
    contradiction e.1 t le below)
  where
    contradiction : (a t : ℕ) → a ≤ t → nat_lt t a ≡ true → ⊥
    contradiction a t le lt = absurd (grind arith)

pub other_key : (es : Table Mark Lock) (k k' : List ℕ) (a t : ℕ) (e : Mark) → k' ≡ k → same_key e.0 k ≡ false → is_gt (mark_cmp (k', a) e) ≡ false
    → (has_place es (k, t) ≡ true → is_gt (mark_cmp e (k, t)) ≡ false) → has_place es (k, t) ≡ false
other_key es k k' a t e same other from least =
    case_place (has_place es (k, t)) (λ had. squeezed (key_cmp k e.0) refl (ap (λ x. is_gt (mark_cmp (x, a) e)) (sym same) ∙ from) (least had))
  where
    squeezed : (o : Ordering) → key_cmp k e.0 ≡ o → is_gt (mark_cmp (k, a) e) ≡ false → is_gt (mark_cmp e (k, t)) ≡ false → ⊥
    squeezed Less is low high =
        let back : key_cmp e.0 k ≡ Greater = nat_list_cmp_total.antisymm e.0 k ∙ ap ordering_reverse is in
        let no : true ≡ false = sym (ap (λ o. is_gt (ordering_then o (nat_cmp e.1 t))) back) ∙ high in cc
    squeezed Equal is low high =
        let back : key_cmp e.0 k ≡ Equal = nat_list_cmp_total.antisymm e.0 k ∙ ap ordering_reverse is in
        let no : true ≡ false = sym (texts_ties e.0 k ∙ ap is_eq back) ∙ other in cc
    squeezed Greater is low high =
        let no : true ≡ false = sym (ap (λ o. is_gt (ordering_then o (nat_cmp a e.1))) is) ∙ low in cc

-- the first mark of a range lies in it
pub first_in : (r : Table Mark Lock) (e : Mark × Lock) (rest : Table Mark Lock) (P : Mark × Lock → Type 0) → r ≡ e ∷ rest → IfSome (slice_get r 0) P → P e
first_in r e rest P is holds = subst (λ (x : Table Mark Lock). IfSome (slice_get x 0) P) is holds

pub not_gt : (o : Ordering) → o ≡ Less → is_gt o ≡ false
not_gt o is = ap is_gt is

pub first_after : (k k' : List ℕ) (a : ℕ) (e : Mark) → k' ≡ k → same_key e.0 k ≡ true → mark_cmp (k', a) e ≡ Less → a < e.1
first_after k k' a e copied same less =
    let tie : key_cmp k' e.0 ≡ Equal = ap (λ x. key_cmp x e.0) copied ∙ ap (key_cmp k) (key_same e.0 k same) ∙ tied_itself nat_list_cmp_total k in
    below a e.1 (sym (ap (λ o. ordering_then o (nat_cmp a e.1)) tie) ∙ less)
  where
    below : (a t : ℕ) → nat_cmp a t ≡ Less → a < t
    below a t lt = grind arith

-- transactions are counted from 1
pub from_one : (es : Table Mark Lock) (k : List ℕ) → AreTxs es → (t : ℕ) → (1 ≤ t → has_place es (k, t) ≡ false) → has_place es (k, t) ≡ false
from_one es k txs t none = case_place (has_place es (k, t)) (λ had. never (none (txs (k, t) had)) had)
  where
    never : has_place es (k, t) ≡ false → has_place es (k, t) ≡ true → ⊥
    never a b = cc

-- A PLACE THAT GOES
module _ (old new : Table Mark Lock) (k : Mark) (gone : IsSet mark_cmp old new k None) where
  pub unchanged_gone : (f : Option Lock → Bool) → f None ≡ false → f (found mark_cmp old k) ≡ false → (m : Mark) → f (found mark_cmp new m) ≡ f (found mark_cmp old m)
  unchanged_gone f none empty m = ap f (gone m) ∙ at (is_eq (mark_cmp k m)) refl
    where
      at : (b : Bool) → is_eq (mark_cmp k m) ≡ b → f (cond b None (found mark_cmp old m)) ≡ f (found mark_cmp old m)
      at true is = none ∙ sym (ap f (ap (found mark_cmp old) (sym (from_same mark_exact k m is))) ∙ empty)
      at false is = refl

  old_but : (P : Mark → Type 0) → ((m : Mark) → is_eq (mark_cmp k m) ≡ false → has_place old m ≡ true → P m) → (m : Mark) → has_place new m ≡ true → P m
  old_but P others m had = at (is_eq (mark_cmp k m)) refl (ap is_some (sym (gone m)) ∙ had)
    where
      at : (b : Bool) → is_eq (mark_cmp k m) ≡ b → is_some (cond b None (found mark_cmp old m)) ≡ true → P m
      at true is h = absurd cc
      at false is h = others m is h

  pub gone_txs : AreTxs old → AreTxs new
  gone_txs txs = old_but (λ m. 1 ≤ m.1) (λ m other had. txs m had)

  pub gone_covered : (index index' : Index) → ((m : Mark) → is_eq (mark_cmp k m) ≡ false → has_key_at index m ≡ true → has_key_at index' m ≡ true) → IsCovered old index → IsCovered new index'
  gone_covered index index' kept covered = old_but (λ m. has_key_at index' m ≡ true) (λ m other had. kept m other (covered m had))

other_part : (k m : Mark) → is_eq (mark_cmp k m) ≡ false → is_eq (nat_cmp k.1 m.1) ≡ true → is_eq (key_cmp k.0 m.0) ≡ false
other_part k m other same = at (key_cmp k.0 m.0) (nat_cmp k.1 m.1) other same
  where
    at : (a b : Ordering) → is_eq (ordering_then a b) ≡ false → is_eq b ≡ true → is_eq a ≡ false
    at Less b p q = refl
    at Equal b p q = absurd cc
    at Greater b p q = refl

pub struck : (old new : Index) (k : Mark) (held ks : Vec (List ℕ) Global) → Some held ≡ found nat_cmp old k.1 → IsSet nat_cmp old new k.1 (Some ks)
    → ((x : List ℕ) → is_eq (key_cmp k.0 x) ≡ false → member key_cmp held.items x ≡ true → member key_cmp ks.items x ≡ true)
    → (m : Mark) → is_eq (mark_cmp k m) ≡ false → has_key_at old m ≡ true → has_key_at new m ≡ true
struck old new k held ks there set kept m other had =
    kept_at old new k.1 ks set m (is_eq (nat_cmp k.1 m.1)) refl
    (λ is. kept m.0 (other_part k m other is)
    (ap (λ (o : Option (Vec (List ℕ) Global)). member key_cmp (maybe o [] (λ v. v.items)) m.0) (there ∙ ap (found nat_cmp old) (from_same exact_unsigned k.1 m.1 is)) ∙ had)) had

pub bare : (old new : Index) (t : ℕ) → keys_at old t ≡ [] → IsSet nat_cmp old new t None → (m : Mark) → has_key_at old m ≡ true → has_key_at new m ≡ true
bare old new t none gone m had = at (is_eq (nat_cmp t m.1)) refl
  where
    at : (b : Bool) → is_eq (nat_cmp t m.1) ≡ b → has_key_at new m ≡ true
    at true is =
        absurd (let never : false ≡ true = sym (ap (λ (xs : List (List ℕ)). member key_cmp xs m.0) (ap (keys_at old) (sym (from_same exact_unsigned t m.1 is)) ∙ none)) ∙ had in cc)
    at false is =
        ap (λ (o : Option (Vec (List ℕ) Global)). member key_cmp (maybe o [] (λ v. v.items)) m.0) (gone m.1 ∙ ap (λ b. cond b None (found nat_cmp old m.1)) is) ∙ had

pub key_stays : (xs ys : List (List ℕ)) (key : List ℕ) → ys ≡ filter (λ (x : List ℕ). not (is_eq (key_cmp key x))) xs
    → (k : List ℕ) → is_eq (key_cmp key k) ≡ false → member key_cmp xs k ≡ true → member key_cmp ys k ≡ true
key_stays xs ys key is k other has =
    ap (λ (zs : List (List ℕ)). member key_cmp zs k) is
    ∙ member-filter nat_list_cmp_total exact_bytes (λ (x : List ℕ). not (is_eq (key_cmp key x))) xs k
    ∙ (λ i. not (other i) && has i)
