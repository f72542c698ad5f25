-- What a table has after a put, at the key and at others.
use Rattle.std.proofs.Common.{◌≡◌, ℕ, List, [], ◌∷◌, refl, sym, ap, ◌∙◌, false, Some, ◌⊎◌, inl, inr, ⊎_elim}
use Rattle.std.specs.Ordering.{nat_cmp, is_eq, match_ordering, ordering_then}
use Rattle.std.specs.declared.cmp.Ordering.{Ordering}
use Rattle.std.specs.declared.cmp.Ordering.TheVariants.{Less, Equal, Greater}
use Rattle.std.specs.Cmp.{nat_cmp_is}
use Rattle.rc_ids.specs.Tables.{Table, found, put}
use Rattle.rc_ids.specs.Texts.{key_cmp}
use Rattle.rc_calm_batches.proofs.Indices.{compare}
use Rattle.rc_calm_batches.proofs.Grants.{less, greater}

module _ {K : Type 0} (cmp : K → K → Ordering) (eq : (a b : K) → cmp a b ≡ Equal → a ≡ b) where
  apart : (q k : K) → (k ≡ q → ⊥) → is_eq (cmp q k) ≡ false
  apart q k n = go (cmp q k) refl
    where
      go : (o : Ordering) → cmp q k ≡ o → is_eq o ≡ false
      go Less h = refl
      go Equal h = absurd (n (sym (eq q k h)))
      go Greater h = refl

module _ {K X : Type 0} (cmp : K → K → Ordering) (same : (a : K) → cmp a a ≡ Equal) (eq : (a b : K) → cmp a b ≡ Equal → a ≡ b) where
  pub put_found : (m : Table K X) (k : K) (v : X) → found cmp (put cmp m k v) k ≡ Some v
  put_found [] k v = let s = same k in rw s
  put_found (e ∷ m) k v = go (cmp k e.0) refl (put_found m k v)
    where
      go : (o : Ordering) → cmp k e.0 ≡ o → found cmp (put cmp m k v) k ≡ Some v → found cmp (match_ordering o ((k, v) ∷ e ∷ m) ((e.0, v) ∷ m) (e ∷ put cmp m k v)) k ≡ Some v
      go Less h more = let s = same k in rw s
      go Equal h more = rw h
      go Greater h more = rw (h, more)

  pub put_other : (m : Table K X) (k q : K) (v : X) → (k ≡ q → ⊥) → found cmp (put cmp m k v) q ≡ found cmp m q
  put_other [] k q v n = let a = apart cmp eq q k n in rw a
  put_other (e ∷ m) k q v n = go (cmp k e.0) refl (put_other m k q v n)
    where
      go : (o : Ordering) → cmp k e.0 ≡ o → found cmp (put cmp m k v) q ≡ found cmp m q → found cmp (match_ordering o ((k, v) ∷ e ∷ m) ((e.0, v) ∷ m) (e ∷ put cmp m k v)) q ≡ found cmp (e ∷ m) q
      go Less h more = let a = apart cmp eq q k n in rw a
      go Equal h more = let a = apart cmp eq q e.0 (λ z. n (eq k e.0 h ∙ z)) in rw a
      go Greater h more = rw more

pub nat_same : (a : ℕ) → nat_cmp a a ≡ Equal
nat_same a = sym (nat_cmp_is a a Equal refl)

pub nat_eq_of : (a b : ℕ) → nat_cmp a b ≡ Equal → a ≡ b
nat_eq_of a b e = ⊎_elim (λ h. let k = less a b h in absurd (cc)) (λ z. ⊎_elim (λ h. h) (λ h. let k = greater a b h in absurd (cc)) z) (compare a b)

pub key_same : (a : List ℕ) → key_cmp a a ≡ Equal
key_same [] = refl
key_same (x ∷ a) = let h = nat_same x in let more = key_same a in rw (h, more)

pub key_eq_of : (a b : List ℕ) → key_cmp a b ≡ Equal → a ≡ b
key_eq_of [] [] e = refl
key_eq_of [] (y ∷ b) e = absurd (cc)
key_eq_of (x ∷ a) [] e = absurd (cc)
key_eq_of (x ∷ a) (y ∷ b) e = go (nat_cmp x y) refl e (key_eq_of a b)
  where
    go : (o : Ordering) → nat_cmp x y ≡ o → ordering_then o (key_cmp a b) ≡ Equal → (key_cmp a b ≡ Equal → a ≡ b) → x ∷ a ≡ y ∷ b
    go Less h e more = absurd (cc)
    go Equal h e more = ap (λ (z : ℕ). z ∷ a) (nat_eq_of x y h) ∙ ap (λ (z : List ℕ). y ∷ z) (more e)
    go Greater h e more = absurd (cc)

pub same_key_or_not : (a b : List ℕ) → (a ≡ b) ⊎ (a ≡ b → ⊥)
same_key_or_not a b = go (key_cmp a b) refl
  where
    not_same : (o : Ordering) → key_cmp a b ≡ o → (o ≡ Equal → ⊥) → a ≡ b → ⊥
    not_same o h n e = n (sym h ∙ (ap (key_cmp a) (sym e) ∙ key_same a))

    go : (o : Ordering) → key_cmp a b ≡ o → (a ≡ b) ⊎ (a ≡ b → ⊥)
    go Less h = inr (not_same Less h (λ e. cc))
    go Equal h = inl (key_eq_of a b h)
    go Greater h = inr (not_same Greater h (λ e. cc))
