-- The plain locks and the marks of lost ones, after a lock is turned.
use Rattle.std.proofs.Common.{◌≡◌, ℕ, zero, suc, ◌+◌, ◌≤◌, Bool, true, false, not, ◌||◌, ◌&&◌, ◌==◌, cond, if◌then◌else◌, List, [], ◌∷◌, filter, ◌++◌, drop, Option, Some, None, is_some, Result, Ok, Err, OnOk, OnErr, refl, sym, ap, subst, ◌∙◌}
use Rattle.std.specs.Ordering.{is_eq}
use Rattle.std.specs.Option.{option_map}
use Rattle.std.specs.List.Sorted.{IsStrictlySortedBy}
use Rattle.std.proofs.lemmas.Cmp.{eq_by_cmp_equiv}
use Rattle.std.proofs.lemmas.List.Kept.{IsStrictlySortedBy-filter}
use Rattle.std.proofs.lemmas.Map.Entries.{option_filter}
use Rattle.rc_ids.specs.Tables.{Table, found, member, added}
use Rattle.rc_protocol.specs.Shard.{Mark, mark_cmp, is_other, cleared, added_all}
use Rattle.rc_locks.specs.declared.flags.Lock.{Lock}
use Rattle.rc_locks.specs.Flags.{is_plain, is_lost, plain_at, lost_at, plain_marks, lost_marks, Rises, AreTxs, has_place, same_mark, IsTurned, with_plain, without_plain, taken_away, turned_where, ArePlaced}
use Rattle.rc_locks.proofs.MarkLists.{mark_total, mark_exact, from_same, member-added, rises-added, member-filter, member-kept, rises-kept, same_members, rises-added_all, member-added_all}

plain_part : (o : Option Lock) → is_some (option_filter (λ (l : Lock). l.plain) o) ≡ is_plain o
plain_part None = refl
plain_part (Some l) = chosen l.plain
  where
    chosen : (b : Bool) → is_some (cond b (Some l) None) ≡ b
    chosen true = refl
    chosen false = refl

lost_part : (o : Option Lock) → is_some (option_filter (λ (l : Lock). l.lost) o) ≡ is_lost o
lost_part None = refl
lost_part (Some l) = chosen l.lost
  where
    chosen : (b : Bool) → is_some (cond b (Some l) None) ≡ b
    chosen true = refl
    chosen false = refl

pub plain_member : (es : Table Mark Lock) → Rises es → (m : Mark) → member mark_cmp (plain_marks es) m ≡ plain_at es m
plain_member es up m = member-kept mark_total (λ (l : Lock). l.plain) es m up ∙ plain_part (found mark_cmp es m)

pub lost_member : (es : Table Mark Lock) → Rises es → (m : Mark) → member mark_cmp (lost_marks es) m ≡ lost_at es m
lost_member es up m = member-kept mark_total (λ (l : Lock). l.lost) es m up ∙ lost_part (found mark_cmp es m)

plain_rises : (es : Table Mark Lock) → Rises es → IsStrictlySortedBy mark_cmp (plain_marks es)
plain_rises es up = rises-kept mark_cmp (λ (e : Mark × Lock). e.1.plain) es up

lost_rises : (es : Table Mark Lock) → Rises es → IsStrictlySortedBy mark_cmp (lost_marks es)
lost_rises es up = rises-kept mark_cmp (λ (e : Mark × Lock). e.1.lost) es up

module _ (old new : Table Mark Lock) (before : Rises old) (after : Rises new) where
  plain_is : (xs : List Mark) → IsStrictlySortedBy mark_cmp xs → ((m : Mark) → plain_at new m ≡ member mark_cmp xs m) → plain_marks new ≡ xs
  plain_is xs up same = same_members mark_total mark_exact (plain_marks new) xs (plain_rises new after) up (λ m. plain_member new after m ∙ same m)

  lost_is : (xs : List Mark) → IsStrictlySortedBy mark_cmp xs → ((m : Mark) → lost_at new m ≡ member mark_cmp xs m) → lost_marks new ≡ xs
  lost_is xs up same = same_members mark_total mark_exact (lost_marks new) xs (lost_rises new after) up (λ m. lost_member new after m ∙ same m)

  pub plain_same : ((m : Mark) → plain_at new m ≡ plain_at old m) → plain_marks new ≡ plain_marks old
  plain_same same = plain_is (plain_marks old) (plain_rises old before) (λ m. same m ∙ sym (plain_member old before m))

  pub lost_same : ((m : Mark) → lost_at new m ≡ lost_at old m) → lost_marks new ≡ lost_marks old
  lost_same same = lost_is (lost_marks old) (lost_rises old before) (λ m. same m ∙ sym (lost_member old before m))

  plain_filtered : (p : Mark → Bool) → ((m : Mark) → plain_at new m ≡ (p m && plain_at old m)) → plain_marks new ≡ filter p (plain_marks old)
  plain_filtered p same =
      plain_is (filter p (plain_marks old)) (IsStrictlySortedBy-filter mark_cmp p (plain_marks old) (plain_rises old before))
      (λ m. same m ∙ ap (λ b. p m && b) (sym (plain_member old before m)) ∙ sym (member-filter mark_total mark_exact p (plain_marks old) m))

  lost_filtered : (p : Mark → Bool) → ((m : Mark) → lost_at new m ≡ (p m && lost_at old m)) → lost_marks new ≡ filter p (lost_marks old)
  lost_filtered p same =
      lost_is (filter p (lost_marks old)) (IsStrictlySortedBy-filter mark_cmp p (lost_marks old) (lost_rises old before))
      (λ m. same m ∙ ap (λ b. p m && b) (sym (lost_member old before m)) ∙ sym (member-filter mark_total mark_exact p (lost_marks old) m))

  -- A PLAIN LOCK IS GIVEN
  pub granted_plain : (k : Mark) → has_place old k ≡ true → IsTurned (λ (m : Mark). turned_where (same_mark k m) with_plain) old new → plain_marks new ≡ added mark_cmp (plain_marks old) k
  granted_plain k there turned =
      plain_is (added mark_cmp (plain_marks old) k) (rises-added mark_total (plain_marks old) k (plain_rises old before))
      (λ m. ap is_plain (turned m) ∙ at m (same_mark k m) refl (found mark_cmp old m) refl
      ∙ ap (λ b. b || plain_at old m) ((eq_by_cmp_equiv mark_total).symm k m)
      ∙ ap (λ b. is_eq (mark_cmp m k) || b) (sym (plain_member old before m))
      ∙ sym (member-added mark_total (plain_marks old) k m))
    where
      at : (m : Mark) (b : Bool) → same_mark k m ≡ b → (o : Option Lock) → found mark_cmp old m ≡ o → is_plain (option_map (turned_where b with_plain) o) ≡ (b || is_plain o)
      at m true same None is = absurd (let gone : true ≡ false = sym there ∙ ap is_some (ap (found mark_cmp old) (from_same mark_exact k m same) ∙ is) in cc)
      at m true same (Some l) is = refl
      at m false same None is = refl
      at m false same (Some l) is = refl

  pub lost_stays : (turn : Mark → Lock → Lock) → ((m : Mark) (l : Lock) → (turn m l).lost ≡ l.lost) → IsTurned turn old new → lost_marks new ≡ lost_marks old
  lost_stays turn keeps turned = lost_same (λ m. ap is_lost (turned m) ∙ at m (found mark_cmp old m))
    where
      at : (m : Mark) (o : Option Lock) → is_lost (option_map (turn m) o) ≡ is_lost o
      at m None = refl
      at m (Some l) = keeps m l

  -- PLAIN LOCKS ARE TAKEN BACK
  pub unlocked_plain : (test : Mark → Bool) → IsTurned (λ (m : Mark). turned_where (test m) without_plain) old new → plain_marks new ≡ filter (λ (m : Mark). not (test m)) (plain_marks old)
  unlocked_plain test turned = plain_filtered (λ (m : Mark). not (test m)) (λ m. ap is_plain (turned m) ∙ at (test m) (found mark_cmp old m))
    where
      none : (b : Bool) → false ≡ (not b && false)
      none true = refl
      none false = refl

      at : (b : Bool) (o : Option Lock) → is_plain (option_map (turned_where b without_plain) o) ≡ (not b && is_plain o)
      at b None = none b
      at true (Some l) = refl
      at false (Some l) = refl

  -- AND LOST
  module _ (test : Mark → Bool) (turned : IsTurned (λ (m : Mark). turned_where (test m) taken_away) old new) where
    pub taken_plain : plain_marks new ≡ filter (λ (m : Mark). not (test m)) (plain_marks old)
    taken_plain = plain_filtered (λ (m : Mark). not (test m)) (λ m. ap is_plain (turned m) ∙ at (test m) (found mark_cmp old m))
      where
        none : (b : Bool) → false ≡ (not b && false)
        none true = refl
        none false = refl

        at : (b : Bool) (o : Option Lock) → is_plain (option_map (turned_where b taken_away) o) ≡ (not b && is_plain o)
        at b None = none b
        at true (Some l) = refl
        at false (Some l) = refl

    pub taken_lost : lost_marks new ≡ added_all (lost_marks old) (filter test (plain_marks old))
    taken_lost =
        lost_is (added_all (lost_marks old) (filter test (plain_marks old))) (rises-added_all (lost_marks old) (filter test (plain_marks old)) (lost_rises old before))
        (λ m. ap is_lost (turned m) ∙ at (test m) (found mark_cmp old m)
        ∙ (λ i. (test m && sym (plain_member old before m) i) || sym (lost_member old before m) i)
        ∙ ap (λ b. b || member mark_cmp (lost_marks old) m) (sym (member-filter mark_total mark_exact test (plain_marks old) m))
        ∙ sym (member-added_all (lost_marks old) (filter test (plain_marks old)) m))
      where
        none : (b : Bool) → false ≡ ((b && false) || false)
        none true = refl
        none false = refl

        turned_round : (a b : Bool) → (a || b) ≡ (b || a)
        turned_round true true = refl
        turned_round true false = refl
        turned_round false true = refl
        turned_round false false = refl

        at : (b : Bool) (o : Option Lock) → is_lost (option_map (turned_where b taken_away) o) ≡ ((b && is_plain o) || is_lost o)
        at b None = none b
        at true (Some l) = turned_round l.lost l.plain
        at false (Some l) = refl

  -- ALL OF A TRANSACTION GOES
  module _ (t : ℕ) (left : (m : Mark) → found mark_cmp new m ≡ (if m.1 == t then None else found mark_cmp old m)) where
    pub gone_plain : plain_marks new ≡ cleared (plain_marks old) t
    gone_plain = plain_filtered (λ (m : Mark). not (m.1 == t)) (λ m. ap is_plain (left m) ∙ at (m.1 == t) (found mark_cmp old m))
      where
        at : (b : Bool) (o : Option Lock) → is_plain (if b then None else o) ≡ (not b && is_plain o)
        at true o = refl
        at false o = refl

    pub gone_lost : lost_marks new ≡ cleared (lost_marks old) t
    gone_lost = lost_filtered (λ (m : Mark). not (m.1 == t)) (λ m. ap is_lost (left m) ∙ at (m.1 == t) (found mark_cmp old m))
      where
        at : (b : Bool) (o : Option Lock) → is_lost (if b then None else o) ≡ (not b && is_lost o)
        at true o = refl
        at false o = refl

    pub gone_txs : AreTxs old → AreTxs new
    gone_txs txs m here = at (m.1 == t) refl (ap is_some (sym (left m)) ∙ here)
      where
        at : (b : Bool) → (m.1 == t) ≡ b → is_some (if b then None else found mark_cmp old m) ≡ true → 1 ≤ m.1
        at true is none = absurd cc
        at false is had = txs m had

    pub placed_left : (ws : List Mark) → ArePlaced ws old → ArePlaced (cleared ws t) new
    placed_left ws placed m has = at (m.1 == t) refl (sym (member-filter mark_total mark_exact (λ (n : Mark). not (n.1 == t)) ws m) ∙ has)
      where
        at : (b : Bool) → (m.1 == t) ≡ b → (not b && member mark_cmp ws m) ≡ true → has_place new m ≡ true
        at true is none = absurd cc
        at false is had = ap is_some (left m ∙ ap (λ b. if b then None else found mark_cmp old m) is) ∙ placed m had

pub lost_turned : (test : Mark → Bool) (turn : Lock → Lock) → ((l : Lock) → (turn l).lost ≡ l.lost) → (m : Mark) (l : Lock) → (turned_where (test m) turn l).lost ≡ l.lost
lost_turned test turn keeps m l = at (test m)
  where
    at : (b : Bool) → (turned_where b turn l).lost ≡ l.lost
    at true = keeps l
    at false = refl

-- a mark of a list that has places
pub placed_at : (ms : List Mark) (i : ℕ) (m : Mark) (es : Table Mark Lock) → drop i ms ≡ m ∷ drop (i + 1) ms → ArePlaced ms es → has_place es m ≡ true
placed_at ms i m es at placed = placed m (member_at ms i m (drop (i + 1) ms) at)
  where
    or_true : (b : Bool) → (b || true) ≡ true
    or_true true = refl
    or_true false = refl

    none_of : (i : ℕ) (m : Mark) (rest : List Mark) → drop i [] ≡ m ∷ rest → ⊥
    none_of zero m rest is = absurd cc
    none_of (suc i) m rest is = absurd cc

    member_at : (ms : List Mark) (i : ℕ) (m : Mark) (rest : List Mark) → drop i ms ≡ m ∷ rest → member mark_cmp ms m ≡ true
    member_at [] i m rest is = absurd (none_of i m rest is)
    member_at (x ∷ xs) zero m rest is = let same : x ≡ m = cc in ap (λ b. b || member mark_cmp xs m) (ap (λ y. is_eq (mark_cmp m y)) same ∙ (eq_by_cmp_equiv mark_total).refl m)
    member_at (x ∷ xs) (suc i) m rest is = ap (λ b. is_eq (mark_cmp m x) || b) (member_at xs i m rest is) ∙ or_true (is_eq (mark_cmp m x))

pub on_err : {T E Q : Type 0} (r : Result T E) → Q → OnErr r Q
on_err (Ok x) q = tt
on_err (Err e) q = q

-- PLACES OF THE READS THAT WAIT
pub placed_more : (ws : List Mark) (old new : Table Mark Lock) → ArePlaced ws old → ((m : Mark) → has_place old m ≡ true → has_place new m ≡ true) → ArePlaced ws new
placed_more ws old new placed kept m has = kept m (placed m has)

member_last : (ws : List Mark) (k m : Mark) → member mark_cmp (ws ++ k ∷ []) m ≡ (member mark_cmp ws m || is_eq (mark_cmp m k))
member_last [] k m = or_none (is_eq (mark_cmp m k))
  where
    or_none : (b : Bool) → (b || false) ≡ b
    or_none true = refl
    or_none false = refl
member_last (w ∷ ws) k m = ap (λ b. is_eq (mark_cmp m w) || b) (member_last ws k m) ∙ regrouped (is_eq (mark_cmp m w)) (member mark_cmp ws m) (is_eq (mark_cmp m k))
  where
    regrouped : (a b c : Bool) → (a || (b || c)) ≡ ((a || b) || c)
    regrouped true b c = refl
    regrouped false b c = refl

pub placed_wait : (ws ws' : List Mark) (k : Mark) (es : Table Mark Lock) → ArePlaced ws es → has_place es k ≡ true
    → ws' ≡ (if member mark_cmp ws k then ws else ws ++ k ∷ []) → ArePlaced ws' es
placed_wait ws ws' k es placed there is = subst (λ (xs : List Mark). ArePlaced xs es) (sym is) (at (member mark_cmp ws k))
  where
    last : (m : Mark) (a b : Bool) → member mark_cmp ws m ≡ a → is_eq (mark_cmp m k) ≡ b → (a || b) ≡ true → has_place es m ≡ true
    last m true b has same either = placed m has
    last m false true has same either = ap (has_place es) (from_same mark_exact m k same) ∙ there
    last m false false has same either = absurd cc

    at : (b : Bool) → ArePlaced (if b then ws else ws ++ k ∷ []) es
    at true = placed
    at false = λ m has. last m (member mark_cmp ws m) (is_eq (mark_cmp m k)) refl refl (sym (member_last ws k m) ∙ has)

pub placed_others : (ws ws' : List Mark) (k : Mark) (old new : Table Mark Lock) → ArePlaced ws old
    → ((m : Mark) → same_mark k m ≡ false → has_place old m ≡ true → has_place new m ≡ true) → ws' ≡ filter (is_other k) ws → ArePlaced ws' new
placed_others ws ws' k old new placed kept is m has =
    at (same_mark k m) refl (sym (member-filter mark_total mark_exact (is_other k) ws m) ∙ ap (λ (xs : List Mark). member mark_cmp xs m) (sym is) ∙ has)
  where
    at : (b : Bool) → same_mark k m ≡ b → (not b && member mark_cmp ws m) ≡ true → has_place new m ≡ true
    at true other had = absurd cc
    at false other had = kept m other (placed m had)

pub placed_filter : (p : Mark → Bool) (ws ws' : List Mark) (es : Table Mark Lock) → ArePlaced ws es → ws' ≡ filter p ws → ArePlaced ws' es
placed_filter p ws ws' es placed is m has = at (p m) (sym (member-filter mark_total mark_exact p ws m) ∙ ap (λ (xs : List Mark). member mark_cmp xs m) (sym is) ∙ has)
  where
    at : (b : Bool) → (b && member mark_cmp ws m) ≡ true → has_place es m ≡ true
    at true had = placed m had
    at false had = absurd cc

pub placed_asked : {T E : Type 0} (r : Result T E) (ws ws' : List Mark) (k : Mark) (es : Table Mark Lock) → ArePlaced ws es → has_place es k ≡ true
    → OnOk r (ws' ≡ (if member mark_cmp ws k then ws else ws ++ k ∷ [])) → OnErr r (ws' ≡ ws) → ArePlaced ws' es
placed_asked (Ok x) ws ws' k es placed there ok err = placed_wait ws ws' k es placed there ok
placed_asked (Err e) ws ws' k es placed there ok err = subst (λ (xs : List Mark). ArePlaced xs es) (sym err) placed
