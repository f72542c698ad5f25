-- Lists of messages one after another: where a message is, and what a change of its list makes of them all.
use Rattle.std.proofs.Common.{◌≡◌, ℕ, zero, suc, ◌+◌, ◌-◌, ◌<◌, ◌≤◌, nat_le, nat_lt, IsTrue, Bool, true, false, List, [], ◌∷◌, ◌++◌, length, take, replicate, get_or, slice_get, slice_set, Some, refl, sym, ap, subst, ◌∙◌, arith, add-one, length-append}
use Rattle.std.specs.List.{flat_map}
use Rattle.std.specs.List.Sorted.{IsPartitionedBy}
use Rattle.std.proofs.lemmas.List.{length-map, set-append_left}
use Rattle.rc_ids.specs.declared.names.Party.{Party}
use Rattle.rc_ids.specs.declared.sends.Letter.{Letter}
use Rattle.rc_ids.specs.Letters.{marked_at}
use Rattle.rc_net.specs.declared.parcel.Parcel.{Parcel}
use Rattle.rc_net.specs.Network.{Message, messages}
use Rattle.rc_net.specs.Parcels.{Numbered, IsCount, IsSeat, count_in, sent_in, marks_in, marks_of}

-- the list begins at message n or before it
abbrev pub reaches : ℕ → Parcel → Bool
reaches n p = nat_le p.first n

le_true : (a b : ℕ) → nat_le a b ≡ true → a ≤ b
le_true a b e = grind arith

true_le : (a b : ℕ) → a ≤ b → nat_le a b ≡ true
true_le a b le = grind arith

le_false : (a b : ℕ) → nat_le a b ≡ false → b < a
le_false a b e = grind arith

first_from : (b : ℕ) (ps : List Parcel) → Numbered b ps → (j : ℕ) (d : Parcel) → j < length ps → b ≤ (get_or ps j d).first
first_from b [] num j d lt = absurd (omega arith)
first_from b (p ∷ ps) num zero d lt = let e : p.first ≡ b = num.0 in omega arith
first_from b (p ∷ ps) num (suc j) d lt = let h = first_from (b + length p.letters) ps num.1 j d (omega arith) in omega (arith, h)

pub parted : (n b : ℕ) (ps : List Parcel) → Numbered b ps → IsPartitionedBy (reaches n) ps
parted n b [] num i j d le lt reached = absurd (omega arith)
parted n b (p ∷ ps) num zero zero d le lt reached = reached
parted n b (p ∷ ps) num zero (suc j) d le lt reached =
    let far = first_from (b + length p.letters) ps num.1 j d (omega arith) in
    let upto = le_true (get_or ps j d).first n reached in
    let e : p.first ≡ b = num.0 in
    true_le p.first n (omega (arith, far, upto, e))
parted n b (p ∷ ps) num (suc i) zero d le lt reached = absurd (omega arith)
parted n b (p ∷ ps) num (suc i) (suc j) d le lt reached = parted n (b + length p.letters) ps num.1 i j d (omega arith) (omega arith) reached

pub lt_is : (a b : ℕ) → IsTrue (nat_lt a b) → a < b
lt_is a b h = grind arith

same_or : (ps : List Parcel) (k : ℕ) (d e : Parcel) → k < length ps → get_or ps k d ≡ get_or ps k e
same_or [] k d e lt = absurd (omega arith)
same_or (p ∷ ps) zero d e lt = refl
same_or (p ∷ ps) (suc k) d e lt = same_or ps k d e (omega arith)

not_reached : (a b : Bool) → (b ≡ true → a ≡ true) → a ≡ false → b ≡ false
not_reached a true leads failing = absurd (cc (leads refl, failing))
not_reached a false leads failing = refl

-- so many lists begin at message n or before it, if the last of them does
pub count_all : (n k : ℕ) (ps : List Parcel) (p : Parcel) → Numbered 1 ps → suc k ≡ length ps → p ≡ get_or ps k p → p.first ≤ n → IsCount ps n (suc k)
count_all n k ps p num all is le = record {
  few = omega (arith, all);
  point = (
    λ i d low lt. parted n 1 ps num i k d (omega arith) (omega (arith, all))
        (true_le (get_or ps k d).first n (subst (λ (q : Parcel). q.first ≤ n) (is ∙ same_or ps k p d (omega (arith, all))) le)),
    λ i d low lt. absurd (omega (arith, all)),
  );
}

-- and if the one after them does not
pub count_some : (n k : ℕ) (ps : List Parcel) (p q : Parcel) → Numbered 1 ps → suc k < length ps → p ≡ get_or ps k p → p.first ≤ n → q ≡ get_or ps (suc k) q
    → n < q.first → IsCount ps n (suc k)
count_some n k ps p q num more is le next lt = record {
  few = omega arith;
  point = (
    λ i d low under. parted n 1 ps num i k d (omega arith) (omega arith)
        (true_le (get_or ps k d).first n (subst (λ (r : Parcel). r.first ≤ n) (is ∙ same_or ps k p d (omega arith)) le)),
    λ i d low under. not_reached (reaches n (get_or ps (suc k) d)) (reaches n (get_or ps i d)) (λ reached. parted n 1 ps num (suc k) i d low under reached)
        (above (get_or ps (suc k) d).first n (subst (λ (r : Parcel). n < r.first) (next ∙ same_or ps (suc k) q d more) lt)),
  );
}
  where
    above : (a b : ℕ) → b < a → nat_le a b ≡ false
    above a b lt = grind arith

-- a list that begins at message n or before it is there, if the first does
pub some_count : (b n r : ℕ) (ps : List Parcel) → Numbered b ps → b ≤ n → n < b + count_in ps → IsCount ps n r → 1 ≤ r
some_count b n r [] num low high count = absurd (omega arith)
some_count b n zero (p ∷ ps) num low high count =
    let past = le_false p.first n (count.point.1 0 p (omega arith) (omega arith)) in
    let e : p.first ≡ b = num.0 in
    absurd (omega (arith, past, e))
some_count b n (suc r) (p ∷ ps) num low high count = omega arith

-- a message before the second list is in the first
before_second : (b n : ℕ) (p : Parcel) (ps : List Parcel) → Numbered b (p ∷ ps) → n < b + count_in (p ∷ ps) → IsCount (p ∷ ps) n 1 → n < b + length p.letters
before_second b n p [] num high count = omega arith
before_second b n p (q ∷ qs) num high count =
    let past = le_false q.first n (count.point.1 1 p (omega arith) (omega arith)) in
    let e : q.first ≡ b + length p.letters = num.1.0 in
    omega (arith, past, e)

after_first : (n r : ℕ) (p : Parcel) (ps : List Parcel) → IsCount (p ∷ ps) n (suc r) → IsCount ps n r
after_first n r p ps count = record {
  few = let h = count.few in omega (arith, h);
  point = (λ j d low lt. count.point.0 (suc j) d (omega arith) (omega arith), λ j d low lt. count.point.1 (suc j) d (omega arith) (omega arith));
}

pub record Found (ps : List Parcel) (b n r : ℕ) (p : Parcel) : Type 0 where
  pub upto : p.first ≤ n
  pub within : n - p.first < length p.letters
  pub count : count_in (take r ps) + (n - p.first) ≡ n - b

pub found : (ps : List Parcel) (b n r : ℕ) (p : Parcel) → Numbered b ps → b ≤ n → n < b + count_in ps → IsCount ps n (suc r) → p ≡ get_or ps r p
    → Found ps b n r p
found [] b n r p num low high count at = absurd (omega arith)
found (q ∷ qs) b n zero p num low high count at =
    let here : p.first ≡ b = ap (λ (x : Parcel). x.first) at ∙ num.0 in
    let size : length p.letters ≡ length q.letters = ap (λ (x : Parcel). length x.letters) at in
    let near = before_second b n q qs num high count in
    record { upto = omega (arith, here); within = omega (arith, here, size, near); count = omega (arith, here) }
found (q ∷ qs) b n (suc r) p num low high count at =
    let few = count.few in
    let second = le_true (get_or qs 0 q).first n (count.point.0 1 q (omega arith) (omega (arith, few))) in
    let far = first_from (b + length q.letters) qs num.1 0 q (omega (arith, few)) in
    let f = found qs (b + length q.letters) n r p num.1 (omega (arith, second, far)) (omega arith) (after_first n (suc r) q qs count) at in
    let rest = f.count in
    record { upto = f.upto; within = f.within; count = omega (arith, rest, second, far) }

pub found_seat : (ps : List Parcel) (b n r : ℕ) (p : Parcel) → IsCount ps n (suc r) → Found ps b n r p → p ≡ get_or ps r p → IsSeat ps (n - b) r (n - p.first)
found_seat ps b n r p count f at = record {
  list_there = let few = count.few in omega (arith, few);
  place_there = λ x is.
      let same = x_is ps r p x (let few = count.few in omega (arith, few)) at is in
      subst (λ (y : Parcel). n - p.first < length y.letters) same f.within;
  count = f.count;
}
  where
    x_is : (ps : List Parcel) (r : ℕ) (p x : Parcel) → r < length ps → p ≡ get_or ps r p → x ≡ get_or ps r x → p ≡ x
    x_is [] r p x lt a b = absurd (omega arith)
    x_is (q ∷ qs) zero p x lt a b = a ∙ sym b
    x_is (q ∷ qs) (suc r) p x lt a b = x_is qs r p x (omega arith) a b

-- LISTS MADE OF ALL LISTS
get-append_left : {X : Type 0} (xs ys : List X) (i : ℕ) → i < length xs → slice_get (xs ++ ys) i ≡ slice_get xs i
get-append_left [] ys i lt = absurd (omega arith)
get-append_left (x ∷ xs) ys zero lt = refl
get-append_left (x ∷ xs) ys (suc i) lt = get-append_left xs ys i (omega arith)

get-append_right : {X : Type 0} (xs ys : List X) (i : ℕ) → slice_get (xs ++ ys) (length xs + i) ≡ slice_get ys i
get-append_right [] ys i = let e : 0 + i ≡ i = omega arith in ap (slice_get ys) e
get-append_right (x ∷ xs) ys i =
    let e : suc (length xs) + i ≡ suc (length xs + i) = omega arith in ap (slice_get (x ∷ (xs ++ ys))) e ∙ get-append_right xs ys i

set-append_later : {X : Type 0} (xs ys : List X) (i : ℕ) (y : X) → slice_set (xs ++ ys) (length xs + i) y ≡ xs ++ slice_set ys i y
set-append_later [] ys i y = let e : 0 + i ≡ i = omega arith in ap (λ k. slice_set ys k y) e
set-append_later (x ∷ xs) ys i y =
    let e : suc (length xs) + i ≡ suc (length xs + i) = omega arith in
    ap (λ k. slice_set (x ∷ (xs ++ ys)) k y) e ∙ ap (λ zs. x ∷ zs) (set-append_later xs ys i y)

module _ {X : Type 0} (f : Parcel → List X) (sized : (p : Parcel) → length (f p) ≡ length p.letters) where
  pub length-made : (ps : List Parcel) → length (flat_map f ps) ≡ count_in ps
  length-made [] = refl
  length-made (p ∷ ps) =
      let rest = length-made ps in let here = sized p in length-append (f p) (flat_map f ps) ∙ omega (arith, rest, here)

  -- an item of the list at a place
  pub made_at : (ps : List Parcel) (j i : ℕ) (p : Parcel) → j < length ps → p ≡ get_or ps j p → i < length p.letters
      → slice_get (flat_map f ps) (count_in (take j ps) + i) ≡ slice_get (f p) i
  made_at [] j i p lt at there = absurd (omega arith)
  made_at (q ∷ qs) zero i p lt at there =
      let e : 0 + i ≡ i = omega arith in
      let size : length p.letters ≡ length q.letters = ap (λ (x : Parcel). length x.letters) at in
      let here = sized q in
      ap (slice_get (f q ++ flat_map f qs)) e ∙ get-append_left (f q) (flat_map f qs) i (omega (arith, size, here)) ∙ ap (λ (x : Parcel). slice_get (f x) i) (sym at)
  made_at (q ∷ qs) (suc j) i p lt at there =
      let here = sized q in
      let e : (length q.letters + count_in (take j qs)) + i ≡ length (f q) + (count_in (take j qs) + i) = omega (arith, here) in
      ap (slice_get (f q ++ flat_map f qs)) e ∙ get-append_right (f q) (flat_map f qs) (count_in (take j qs) + i)
      ∙ made_at qs j i p (omega arith) at there

  -- another list in its place, of which one item differs
  pub made_set : (ps : List Parcel) (j i : ℕ) (p q : Parcel) (x : X) → j < length ps → p ≡ get_or ps j p → i < length p.letters
      → f q ≡ slice_set (f p) i x → flat_map f (slice_set ps j q) ≡ slice_set (flat_map f ps) (count_in (take j ps) + i) x
  made_set [] j i p q x lt at there is = absurd (omega arith)
  made_set (y ∷ ys) zero i p q x lt at there is =
      let e : 0 + i ≡ i = omega arith in
      let size : length p.letters ≡ length y.letters = ap (λ (z : Parcel). length z.letters) at in
      let here = sized y in
      let fits : i < length (f y) = omega (arith, size, here) in
      ap (λ (zs : List X). zs ++ flat_map f ys) (is ∙ ap (λ (z : Parcel). slice_set (f z) i x) at)
      ∙ sym (set-append_left (f y) (flat_map f ys) i x fits)
      ∙ ap (λ (k : ℕ). slice_set (f y ++ flat_map f ys) k x) (sym e)
  made_set (y ∷ ys) (suc j) i p q x lt at there is =
      let here = sized y in
      let e : length (f y) + (count_in (take j ys) + i) ≡ (length y.letters + count_in (take j ys)) + i = omega (arith, here) in
      ap (λ (zs : List X). f y ++ zs) (made_set ys j i p q x (omega arith) at there is)
      ∙ sym (set-append_later (f y) (flat_map f ys) (count_in (take j ys) + i) x)
      ∙ ap (λ (k : ℕ). slice_set (f y ++ flat_map f ys) k x) e

  -- or none
  pub made_same : (ps : List Parcel) (j : ℕ) (p q : Parcel) → p ≡ get_or ps j p → f q ≡ f p → flat_map f (slice_set ps j q) ≡ flat_map f ps
  made_same [] j p q at is = refl
  made_same (y ∷ ys) zero p q at is = ap (λ (zs : List X). zs ++ flat_map f ys) (is ∙ ap f at)
  made_same (y ∷ ys) (suc j) p q at is = ap (λ (zs : List X). f y ++ zs) (made_same ys j p q at is)

pub sized_messages : (p : Parcel) → length (messages p.from p.letters) ≡ length p.letters
sized_messages p = length-map p.letters (λ (l : Letter). record { from = p.from; to = l.to; bytes = l.bytes })

pub sized_marks : (p : Parcel) → length (marks_of p.letters) ≡ length p.letters
sized_marks p = length-map p.letters (λ (l : Letter). l.mark)

pub numbered_set : (b : ℕ) (ps : List Parcel) (j : ℕ) (p q : Parcel) → Numbered b ps → p ≡ get_or ps j p → q.first ≡ p.first → length q.letters ≡ length p.letters
    → Numbered b (slice_set ps j q) × (count_in (slice_set ps j q) ≡ count_in ps)
numbered_set b [] j p q num at first size = (tt, refl)
numbered_set b (y ∷ ys) zero p q num at first size =
    let same : length q.letters ≡ length y.letters = size ∙ ap (λ (z : Parcel). length z.letters) at in (
      (first ∙ ap (λ (z : Parcel). z.first) at ∙ num.0, subst (λ (k : ℕ). Numbered (b + k) ys) (sym same) num.1),
      ap (λ (k : ℕ). k + count_in ys) same,
    )
numbered_set b (y ∷ ys) (suc j) p q num at first size =
    let rest = numbered_set (b + length y.letters) ys j p q num.1 at first size in
    ((num.0, rest.0), ap (λ (k : ℕ). length y.letters + k) rest.1)

-- ALL MARKED
pub take-marked_at : (ls : List Letter) (i n : ℕ) → n ≡ i + 1 → i < length ls → take i (marks_of ls) ≡ replicate i true
    → take n (marks_of (marked_at ls i true)) ≡ replicate n true
take-marked_at ls i n is lt all = subst (λ (k : ℕ). take k (marks_of (marked_at ls i true)) ≡ replicate k true) (sym (is ∙ add-one i)) (one_more ls i lt all)
  where
    one_more : (ls : List Letter) (i : ℕ) → i < length ls → take i (marks_of ls) ≡ replicate i true → take (suc i) (marks_of (marked_at ls i true)) ≡ replicate (suc i) true
    one_more [] i lt all = absurd (omega arith)
    one_more (l ∷ ls) zero lt all = refl
    one_more (l ∷ ls) (suc i) lt all =
        let here : l.mark ≡ true = cc in
        let rest : take i (marks_of ls) ≡ replicate i true = cc in
        ap (λ (b : Bool). b ∷ take (suc i) (marks_of (marked_at ls i true))) here ∙ ap (λ (bs : List Bool). true ∷ bs) (one_more ls i (omega arith) rest)

pub take-all : (xs : List Bool) (i : ℕ) → length xs ≤ i → take i xs ≡ xs
take-all [] zero le = refl
take-all [] (suc i) le = refl
take-all (x ∷ xs) zero le = absurd (omega arith)
take-all (x ∷ xs) (suc i) le = ap (λ (ys : List Bool). x ∷ ys) (take-all xs i (omega arith))

-- ONE MESSAGE'S MARK
pub marks-marked_at : (ls : List Letter) (i : ℕ) (mark : Bool) → marks_of (marked_at ls i mark) ≡ slice_set (marks_of ls) i mark
marks-marked_at [] i mark = refl
marks-marked_at (l ∷ ls) zero mark = refl
marks-marked_at (l ∷ ls) (suc i) mark = ap (λ (xs : List Bool). l.mark ∷ xs) (marks-marked_at ls i mark)

pub messages-marked_at : (from : Party) (ls : List Letter) (i : ℕ) (mark : Bool) → messages from (marked_at ls i mark) ≡ messages from ls
messages-marked_at from [] i mark = refl
messages-marked_at from (l ∷ ls) zero mark = refl
messages-marked_at from (l ∷ ls) (suc i) mark = ap (λ (xs : List Message). record { from = from; to = l.to; bytes = l.bytes } ∷ xs) (messages-marked_at from ls i mark)

pub length-marked_at : (ls : List Letter) (i : ℕ) (mark : Bool) → length (marked_at ls i mark) ≡ length ls
length-marked_at [] i mark = refl
length-marked_at (l ∷ ls) zero mark = refl
length-marked_at (l ∷ ls) (suc i) mark = ap suc (length-marked_at ls i mark)

-- A MESSAGE THAT IS READ OR SETTLED
abbrev pub with_letters : Parcel → List Letter → Parcel
with_letters p letters = record { from = p.from; first = p.first; letters = letters }

module _ (ps : List Parcel) (k j i : ℕ) (r : Parcel) (seat : IsSeat ps k j i) (is : r ≡ get_or ps j r) where
  pub mark_read : (l : Letter) → l ≡ get_or (get_or ps j r).letters i l → slice_get (marks_in ps) k ≡ Some l.mark
  mark_read l at =
      let p : Parcel = get_or ps j r in
      let here : p ≡ get_or ps j p = ap (λ (d : Parcel). get_or ps j d) is in
      let within : i < length p.letters = seat.place_there p here in
      sym (ap (slice_get (marks_in ps)) seat.count)
      ∙ made_at (λ (x : Parcel). marks_of x.letters) sized_marks ps j i p seat.list_there here within
      ∙ mark_of p.letters i l within at
    where
      mark_of : (ls : List Letter) (i : ℕ) (l : Letter) → i < length ls → l ≡ get_or ls i l → slice_get (marks_of ls) i ≡ Some l.mark
      mark_of [] i l lt at = absurd (omega arith)
      mark_of (x ∷ xs) zero l lt at = ap (λ (y : Letter). Some y.mark) (sym at)
      mark_of (x ∷ xs) (suc i) l lt at = mark_of xs i l (omega arith) at

  pub message_read : (l : Letter) → l ≡ get_or (get_or ps j r).letters i l
      → slice_get (sent_in ps) k ≡ Some (record { from = (get_or ps j r).from; to = l.to; bytes = l.bytes })
  message_read l at =
      let p : Parcel = get_or ps j r in
      let here : p ≡ get_or ps j p = ap (λ (d : Parcel). get_or ps j d) is in
      let within : i < length p.letters = seat.place_there p here in
      sym (ap (slice_get (sent_in ps)) seat.count)
      ∙ made_at (λ (x : Parcel). messages x.from x.letters) sized_messages ps j i p seat.list_there here within
      ∙ message_of p.from p.letters i l within at
    where
      message_of : (from : Party) (ls : List Letter) (i : ℕ) (l : Letter) → i < length ls → l ≡ get_or ls i l
          → slice_get (messages from ls) i ≡ Some (record { from = from; to = l.to; bytes = l.bytes })
      message_of from [] i l lt at = absurd (omega arith)
      message_of from (x ∷ xs) zero l lt at =
          ap (λ (y : Letter). let m : Message = record { from = from; to = y.to; bytes = y.bytes } in Some m) (sym at)
      message_of from (x ∷ xs) (suc i) l lt at = message_of from xs i l (omega arith) at

  module _ (new : List Letter) (settled : new ≡ marked_at (get_or ps j r).letters i false) where
    pub marks_settled : marks_in (slice_set ps j (with_letters (get_or ps j r) new)) ≡ slice_set (marks_in ps) k false
    marks_settled =
        let p : Parcel = get_or ps j r in
        let here : p ≡ get_or ps j p = ap (λ (d : Parcel). get_or ps j d) is in
        made_set (λ (x : Parcel). marks_of x.letters) sized_marks ps j i p (with_letters p new) false seat.list_there here (seat.place_there p here)
        (ap marks_of settled ∙ marks-marked_at p.letters i false)
        ∙ ap (λ (n : ℕ). slice_set (marks_in ps) n false) seat.count

    pub sent_settled : sent_in (slice_set ps j (with_letters (get_or ps j r) new)) ≡ sent_in ps
    sent_settled =
        let p : Parcel = get_or ps j r in
        let here : p ≡ get_or ps j p = ap (λ (d : Parcel). get_or ps j d) is in
        made_same (λ (x : Parcel). messages x.from x.letters) sized_messages ps j p (with_letters p new) here
        (ap (messages p.from) settled ∙ messages-marked_at p.from p.letters i false)

    pub numbered_settled : Numbered 1 ps → Numbered 1 (slice_set ps j (with_letters (get_or ps j r) new)) × (count_in (slice_set ps j (with_letters (get_or ps j r) new)) ≡ count_in ps)
    numbered_settled numbered =
        let p : Parcel = get_or ps j r in
        let here : p ≡ get_or ps j p = ap (λ (d : Parcel). get_or ps j d) is in
        numbered_set 1 ps j p (with_letters p new) numbered here refl (ap length settled ∙ length-marked_at p.letters i false)
