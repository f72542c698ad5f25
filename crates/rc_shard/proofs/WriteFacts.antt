-- What a key has once writes are done.
use Rattle.std.proofs.Common.{◌≡◌, ℕ, Bool, true, false, ◌&&◌, nat_lt, cond, if◌then◌else◌, List, [], ◌∷◌, ◌++◌, Option, Some, None, ◌+◌, take, slice_get, refl, sym, ap, ◌∙◌}
use Rattle.std.specs.Ordering.{is_eq}
use Rattle.std.specs.Cmp.Lexicographic.{texts_ties}
use Rattle.std.proofs.lemmas.Cmp.{nat_list_cmp_total, nat_list_eq_equiv}
use Rattle.std.proofs.lemmas.Map.Lookups.{exact_bytes}
use Rattle.rc_ids.specs.Tables.{found, put, maybe}
use Rattle.rc_ids.specs.Texts.{key_cmp, same_key}
use Rattle.rc_body.specs.Rows.{Row}
use Rattle.rc_body.proofs.Places.{take-one_more}
use Rattle.rc_record.specs.ShardState.{version_at, value_at}
use Rattle.rc_record.proofs.ByNumber.{eq_is, found-put}
use Rattle.rc_versions.specs.Rows.{newest}
use Rattle.rc_shard.specs.Plans.{newest_all}

tied : (k l : List ℕ) → is_eq (key_cmp k l) ≡ same_key l k
tied k l = sym (texts_ties k l) ∙ nat_list_eq_equiv.symm k l

module _ (rows : List Row) (l : List ℕ) (v : ℕ) (x : List ℕ) (k : List ℕ) where
  abbrev here : Bool → Option (ℕ × List ℕ)
  here b = if b && nat_lt (version_at rows k) v then Some (v, x) else found key_cmp rows k

  same-at : (b c : Bool) → nat_lt (version_at rows l) v ≡ b → is_eq (key_cmp k l) ≡ c
      → found key_cmp (if b then put key_cmp rows l (v, x) else rows) k ≡ here c
  same-at true true new same =
      let key : k ≡ l = exact_bytes k l (eq_is (key_cmp k l) same) in
      found-put key_cmp nat_list_cmp_total rows l k (v, x)
      ∙ ap (λ b. cond b (Some (v, x)) (found key_cmp rows k)) same
      ∙ sym (ap (λ b. if b then Some (v, x) else found key_cmp rows k) (ap (λ z. nat_lt (version_at rows z) v) key ∙ new))
  same-at true false new other =
      found-put key_cmp nat_list_cmp_total rows l k (v, x) ∙ ap (λ b. cond b (Some (v, x)) (found key_cmp rows k)) other
  same-at false true old same =
      let key : k ≡ l = exact_bytes k l (eq_is (key_cmp k l) same) in
      sym (ap (λ b. if b then Some (v, x) else found key_cmp rows k) (ap (λ z. nat_lt (version_at rows z) v) key ∙ old))
  same-at false false old other = refl

  pub found-newest : found key_cmp (newest rows l v x) k ≡ here (same_key l k)
  found-newest = same-at (nat_lt (version_at rows l) v) (is_eq (key_cmp k l)) refl refl ∙ ap here (tied k l)

pub newest_all-append : (rows ws vs : List Row) → newest_all rows (ws ++ vs) ≡ newest_all (newest_all rows ws) vs
newest_all-append rows [] vs = refl
newest_all-append rows (w ∷ ws) vs = newest_all-append (newest rows w.0 w.1.0 w.1.1) ws vs

version_of : (b : Bool) (v : ℕ) (x : List ℕ) (o : Option (ℕ × List ℕ)) → maybe (if b then Some (v, x) else o) 0 (λ row. row.0) ≡ (if b then v else maybe o 0 (λ row. row.0))
version_of true v x o = refl
version_of false v x o = refl

value_of : (b : Bool) (v : ℕ) (x : List ℕ) (o : Option (ℕ × List ℕ)) → maybe (if b then Some (v, x) else o) None (λ row. Some row.1) ≡ (if b then Some x else maybe o None (λ row. Some row.1))
value_of true v x o = refl
value_of false v x o = refl

-- what a key has after one write more
module _ (rows ws : List Row) (w : Row) (k : List ℕ) where
  abbrev raised : Bool
  raised = same_key w.0 k && nat_lt (version_at (newest_all rows ws) k) w.1.0

  one_more : found key_cmp (newest_all rows (ws ++ w ∷ [])) k ≡ (if raised then Some w.1 else found key_cmp (newest_all rows ws) k)
  one_more = ap (λ rs. found key_cmp rs k) (newest_all-append rows ws (w ∷ [])) ∙ found-newest (newest_all rows ws) w.0 w.1.0 w.1.1 k

  pub version-more : version_at (newest_all rows (ws ++ w ∷ [])) k ≡ (if raised then w.1.0 else version_at (newest_all rows ws) k)
  version-more = ap (λ o. maybe o 0 (λ row. row.0)) one_more ∙ version_of raised w.1.0 w.1.1 (found key_cmp (newest_all rows ws) k)

  pub value-more : value_at (newest_all rows (ws ++ w ∷ [])) k ≡ (if raised then Some w.1.1 else value_at (newest_all rows ws) k)
  value-more = ap (λ o. maybe o None (λ row. Some row.1)) one_more ∙ value_of raised w.1.0 w.1.1 (found key_cmp (newest_all rows ws) k)

-- what a loop over the writes knows after one more
module _ (rows ws : List Row) (i : ℕ) (w : Row) (k : List ℕ) (at : slice_get ws i ≡ Some w) where
  abbrev before : List Row
  before = newest_all rows (take i ws)

  next_is : take (i + 1) ws ≡ take i ws ++ w ∷ []
  next_is = take-one_more ws i w at

  is_raised : (v : ℕ) (b : Bool) → v ≡ version_at before k → b ≡ (same_key w.0 k && nat_lt v w.1.0) → b ≡ (same_key w.0 k && nat_lt (version_at before k) w.1.0)
  is_raised v b is test = test ∙ ap (λ n. same_key w.0 k && nat_lt n w.1.0) is

  pub version-at_more : (v : ℕ) (b : Bool) (n : ℕ) → v ≡ version_at before k → b ≡ (same_key w.0 k && nat_lt v w.1.0) → n ≡ (if b then w.1.0 else v)
      → n ≡ version_at (newest_all rows (take (i + 1) ws)) k
  version-at_more v b n is test chosen =
      chosen ∙ ap (λ m. if b then w.1.0 else m) is ∙ ap (λ c. if c then w.1.0 else version_at before k) (is_raised v b is test)
      ∙ sym (ap (λ xs. version_at (newest_all rows xs) k) next_is ∙ version-more rows (take i ws) w k)

  pub value-at_more : (v : ℕ) (b : Bool) (o n : Option (List ℕ)) → v ≡ version_at before k → b ≡ (same_key w.0 k && nat_lt v w.1.0)
      → o ≡ value_at before k → n ≡ (if b then Some w.1.1 else o) → n ≡ value_at (newest_all rows (take (i + 1) ws)) k
  value-at_more v b o n is test old chosen =
      chosen ∙ ap (λ m. if b then Some w.1.1 else m) old ∙ ap (λ c. if c then Some w.1.1 else value_at before k) (is_raised v b is test)
      ∙ sym (ap (λ xs. value_at (newest_all rows xs) k) next_is ∙ value-more rows (take i ws) w k)
