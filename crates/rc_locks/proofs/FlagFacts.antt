-- What a lock that changes makes of the table.
use Rattle.std.proofs.Common.{◌≡◌, ℕ, Bool, true, false, not, ◌||◌, ◌&&◌, ◌==◌, cond, if◌then◌else◌, List, [], ◌∷◌, Option, Some, None, is_some, IsSome, refl, sym, ap, ◌∙◌, arith}
use Rattle.std.specs.declared.cmp.Ordering.{Ordering}
use Rattle.std.specs.declared.cmp.Ordering.TheVariants.{Less, Equal, Greater}
use Rattle.std.specs.Ordering.{nat_cmp, is_eq, ordering_then}
use Rattle.std.specs.Option.{option_map}
use Rattle.std.specs.BTreeMap.{is_at}
use Rattle.std.proofs.lemmas.Cmp.{nat_list_cmp_total, eq_by_cmp_equiv}
use Rattle.rc_ids.specs.Tables.{Table, found, member}
use Rattle.rc_ids.specs.Texts.{key_cmp, same_key}
use Rattle.rc_body.specs.Bodies.{writes}
use Rattle.rc_body.specs.declared.entry.Entry.{Entry}
use Rattle.rc_protocol.specs.Shard.{Mark, mark_cmp, is_taken}
use Rattle.rc_locks.specs.declared.flags.Lock.{Lock}
use Rattle.rc_locks.specs.Flags.{is_plain, is_lost, plain_at, lost_at, AreTxs, has_place, same_mark, IsTurned, with_plain, without_plain, taken_away, turned_where, is_other_at, taken_by, given_back, let_go, is_one_of}
use Rattle.rc_locks.proofs.MarkLists.{mark_exact, from_same}

-- what was found is there
pub found_is : {X : Type 0} (o : Option X) (x : X) → Some x ≡ o → IsSome o
found_is o x e = ap is_some (sym e)

-- A LOCK THAT IS TURNED
pub same_lock : (f : Lock → Lock) → ((l : Lock) → f l ≡ l) → (o : Option Lock) → option_map f o ≡ o
same_lock f is None = refl
same_lock f is (Some l) = ap Some (is l)

pub turned_there : (old new : Table Mark Lock) (k : Mark) (held : Lock) (turn : Lock → Lock) → Some held ≡ found mark_cmp old k
    → ((m : Mark) → found mark_cmp new m ≡ cond (is_at (mark_cmp k) m) (Some (turn held)) (found mark_cmp old m))
    → IsTurned (λ (m : Mark). turned_where (same_mark k m) turn) old new
turned_there old new k held turn there written m = written m ∙ at (same_mark k m) refl
  where
    at : (b : Bool) → same_mark k m ≡ b → cond b (Some (turn held)) (found mark_cmp old m) ≡ option_map (turned_where b turn) (found mark_cmp old m)
    at true is = ap (option_map (turned_where true turn)) (there ∙ ap (found mark_cmp old) (from_same mark_exact k m is))
    at false is = sym (same_lock (turned_where false turn) (λ l. refl) (found mark_cmp old m))

pub turned_nowhere : (old new : Table Mark Lock) (k : Mark) (turn : Lock → Lock) → None ≡ found mark_cmp old k → new ≡ old
    → IsTurned (λ (m : Mark). turned_where (same_mark k m) turn) old new
turned_nowhere old new k turn none same m = ap (λ (t : Table Mark Lock). found mark_cmp t m) same ∙ at (same_mark k m) refl
  where
    at : (b : Bool) → same_mark k m ≡ b → found mark_cmp old m ≡ option_map (turned_where b turn) (found mark_cmp old m)
    at true is =
        let here : None ≡ found mark_cmp old m = none ∙ ap (found mark_cmp old) (from_same mark_exact k m is) in
        sym here ∙ ap (option_map (turned_where true turn)) here
    at false is = sym (same_lock (turned_where false turn) (λ l. refl) (found mark_cmp old m))

-- one turn after another
pub fused : (f g : Lock → Lock) (o : Option Lock) → option_map f (option_map g o) ≡ option_map (λ l. f (g l)) o
fused f g None = refl
fused f g (Some l) = refl

pub turned_alike : (f g : Lock → Lock) → ((l : Lock) → f l ≡ g l) → (o : Option Lock) → option_map f o ≡ option_map g o
turned_alike f g is None = refl
turned_alike f g is (Some l) = ap Some (is l)

is_some-map : (f : Lock → Lock) (o : Option Lock) → is_some (option_map f o) ≡ is_some o
is_some-map f None = refl
is_some-map f (Some l) = refl

pub places_stay : (turn : Mark → Lock → Lock) (old new : Table Mark Lock) → IsTurned turn old new → (m : Mark) → has_place new m ≡ has_place old m
places_stay turn old new turned m = ap is_some (turned m) ∙ is_some-map (turn m) (found mark_cmp old m)

pub txs_stay : (turn : Mark → Lock → Lock) (old new : Table Mark Lock) → IsTurned turn old new → AreTxs old → AreTxs new
txs_stay turn old new turned txs m here = txs m (sym (places_stay turn old new turned m) ∙ here)

-- A TRANSACTION'S KEYS
pub number_test : (t u : ℕ) → (u == t) ≡ is_eq (nat_cmp t u)
number_test t u = grind arith

both_equal : (a b : Ordering) → is_eq (ordering_then a b) ≡ (is_eq a && is_eq b)
both_equal Less b = refl
both_equal Equal b = refl
both_equal Greater b = refl

swapped : (a b : Bool) → (a && b) ≡ (b && a)
swapped true true = refl
swapped true false = refl
swapped false true = refl
swapped false false = refl

pub same_mark-parts : (k : List ℕ) (t : ℕ) (m : Mark) → same_mark (k, t) m ≡ ((m.1 == t) && is_eq (key_cmp m.0 k))
same_mark-parts k t m =
    both_equal (key_cmp k m.0) (nat_cmp t m.1)
    ∙ (λ i. (eq_by_cmp_equiv nat_list_cmp_total).symm k m.0 i && sym (number_test t m.1) i)
    ∙ swapped (is_eq (key_cmp m.0 k)) (m.1 == t)

twice_back : (a b c : Bool) (l : Lock) → turned_where (a && c) without_plain (turned_where (a && b) without_plain l) ≡ turned_where (a && (b || c)) without_plain l
twice_back true true true l = refl
twice_back true true false l = refl
twice_back true false c l = refl
twice_back false b c l = refl

none_back : (a : Bool) (l : Lock) → l ≡ turned_where (a && false) without_plain l
none_back true l = refl
none_back false l = refl

pub given_back-is : (t : ℕ) (m : Mark) (ks : List (List ℕ)) (l : Lock) → given_back t m ks l ≡ turned_where (is_one_of t ks m) without_plain l
given_back-is t m [] l = none_back (m.1 == t) l
given_back-is t m (k ∷ ks) l =
    given_back-is t m ks (turned_where (same_mark (k, t) m) without_plain l)
    ∙ ap (λ b. turned_where (is_one_of t ks m) without_plain (turned_where b without_plain l)) (same_mark-parts k t m)
    ∙ twice_back (m.1 == t) (is_eq (key_cmp m.0 k)) (member key_cmp ks m.0) l

twice_gone : (a b c : Bool) (o : Option Lock) → (if a && c then None else (if a && b then None else o)) ≡ (if a && (b || c) then None else o)
twice_gone true true true o = refl
twice_gone true true false o = refl
twice_gone true false c o = refl
twice_gone false b c o = refl

none_gone : (a : Bool) (o : Option Lock) → o ≡ (if a && false then None else o)
none_gone true o = refl
none_gone false o = refl

pub let_go-is : (t : ℕ) (m : Mark) (ks : List (List ℕ)) (o : Option Lock) → let_go t m ks o ≡ (if is_one_of t ks m then None else o)
let_go-is t m [] o = none_gone (m.1 == t) o
let_go-is t m (k ∷ ks) o =
    let_go-is t m ks (if same_mark (k, t) m then None else o)
    ∙ ap (λ b. if is_one_of t ks m then None else (if b then None else o)) (same_mark-parts k t m)
    ∙ twice_gone (m.1 == t) (is_eq (key_cmp m.0 k)) (member key_cmp ks m.0) o

-- WHAT A PART TAKES AWAY
or_more : (a b : Bool) → ((a || b) || false) ≡ (a || b)
or_more true b = refl
or_more false true = refl
or_more false false = refl

taken_again : (l : Lock) → taken_away (taken_away l) ≡ taken_away l
taken_again l = let r : Bool → Lock = λ c. record { plain = false; lost = c } in ap r (or_more l.lost l.plain)

twice_taken : (a w s c : Bool) (l : Lock) → turned_where (not a && c) taken_away (turned_where (w && (not a && s)) taken_away l) ≡ turned_where (not a && ((s && w) || c)) taken_away l
twice_taken true true s c l = refl
twice_taken true false s c l = refl
twice_taken false true true true l = taken_again l
twice_taken false true true false l = refl
twice_taken false true false c l = refl
twice_taken false false true c l = refl
twice_taken false false false c l = refl

none_taken : (a : Bool) (l : Lock) → l ≡ turned_where (not a && false) taken_away l
none_taken true l = refl
none_taken false l = refl

pub taken_by-is : (t : ℕ) (m : Mark) (es : List Entry) (l : Lock) → taken_by t m es l ≡ turned_where (is_taken t es m) taken_away l
taken_by-is t m [] l = none_taken (m.1 == t) l
taken_by-is t m (e ∷ es) l =
    taken_by-is t m es (turned_where (is_some e.write && is_other_at e.key t m) taken_away l)
    ∙ twice_taken (m.1 == t) (is_some e.write) (same_key e.key m.0) (writes m.0 es) l
