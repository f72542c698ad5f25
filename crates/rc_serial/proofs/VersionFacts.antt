-- The versions of a map are kept as the map is.
use Rattle.std.proofs.Common.{◌≡◌, ◌==◌, ℕ, ◌+◌, Bool, true, false, cond, if◌then◌else◌, List, [], ◌∷◌, Option, Some, None, is_some, refl, sym, ap, ◌∙◌, arith}
use Rattle.std.specs.declared.cmp.Ordering.{Ordering}
use Rattle.std.specs.declared.cmp.Ordering.TheVariants.{Less, Equal, Greater}
use Rattle.std.specs.Ordering.{is_eq, match_ordering}
use Rattle.std.specs.Map.{lookup}
use Rattle.std.specs.BTreeMap.{is_at}
use Rattle.std.specs.Cmp.Lexicographic.{texts_ties}
use Rattle.std.proofs.lemmas.Bool.{or_parts}
use Rattle.std.proofs.lemmas.Cmp.{nat_list_cmp_total, alike_right}
use Rattle.rc_ids.specs.Tables.{Table, put, maybe}
use Rattle.rc_ids.specs.Texts.{key_cmp, same_key}
use Rattle.rc_body.specs.Bodies.{has_key}
use Rattle.rc_body.specs.declared.entry.Entry.{Entry}
use Rattle.rc_record.specs.ShardState.{version_at}
use Rattle.rc_serial.specs.OneMap.{Map, entry_applied, body_applied, wrong_entry}
use Rattle.rc_serial.specs.Versions.{versions_of, version_in, entry_raised, body_raised, Agree}

pub versions-put : (m : Map) (k : List ℕ) (v : ℕ) (x : List ℕ) → versions_of (put key_cmp m k (v, x)) ≡ put key_cmp (versions_of m) k v
versions-put [] k v x = refl
versions-put (e ∷ es) k v x = placed (key_cmp k e.0) (versions-put es k v x)
  where
    placed : (o : Ordering) → versions_of (put key_cmp es k (v, x)) ≡ put key_cmp (versions_of es) k v
        → versions_of (match_ordering o ((k, (v, x)) ∷ e ∷ es) ((e.0, (v, x)) ∷ es) (e ∷ put key_cmp es k (v, x)))
        ≡ match_ordering o ((k, v) ∷ (e.0, e.1.0) ∷ versions_of es) ((e.0, v) ∷ versions_of es) ((e.0, e.1.0) ∷ put key_cmp (versions_of es) k v)
    placed Less rest = refl
    placed Equal rest = refl
    placed Greater rest = ap (λ (t : Table (List ℕ) ℕ). (e.0, e.1.0) ∷ t) rest

pub version-shown : (m : Map) (k : List ℕ) → version_in (versions_of m) k ≡ version_at m k
version-shown [] k = refl
version-shown (e ∷ es) k = chosen (is_eq (key_cmp k e.0)) (version-shown es k)
  where
    chosen : (b : Bool) → version_in (versions_of es) k ≡ version_at es k
        → maybe (cond b (Some e.1.0) (lookup (is_at (key_cmp k)) (versions_of es))) 0 (λ version. version)
        ≡ maybe (cond b (Some e.1) (lookup (is_at (key_cmp k)) es)) 0 (λ row. row.0)
    chosen true rest = refl
    chosen false rest = rest

entry-shown : (m : Map) (e : Entry) → versions_of (entry_applied m e) ≡ entry_raised (versions_of m) e
entry-shown m e = written e.write
  where
    written : (w : Option (List ℕ)) → versions_of (maybe w m (λ value. put key_cmp m e.key (version_at m e.key + 1, value)))
        ≡ maybe w (versions_of m) (λ _. put key_cmp (versions_of m) e.key (version_in (versions_of m) e.key + 1))
    written None = refl
    written (Some x) =
        versions-put m e.key (version_at m e.key + 1) x
        ∙ ap (λ (v : ℕ). put key_cmp (versions_of m) e.key (v + 1)) (sym (version-shown m e.key))

pub body-shown : (m : Map) (es : List Entry) → versions_of (body_applied m es) ≡ body_raised (versions_of m) es
body-shown m [] = refl
body-shown m (e ∷ es) = body-shown (entry_applied m e) es ∙ ap (λ (t : Table (List ℕ) ℕ). body_raised t es) (entry-shown m e)

-- where no entry is wrong, each agrees
pub agree : (m : Map) (place : ℕ) (es : List Entry) → None ≡ wrong_entry m place es → Agree (versions_of m) es
agree m place [] none = tt
agree m place (e ∷ es) none = tested (e.version == version_at m e.key) refl none (agree m place es)
  where
    tested : (b : Bool) → b ≡ (e.version == version_at m e.key)
        → None ≡ (if b then wrong_entry m place es else Some (record { place = place; key = e.key; expected = version_at m e.key; read = e.version }))
        → (None ≡ wrong_entry m place es → Agree (versions_of m) es)
        → Agree (versions_of m) (e ∷ es)
    tested true is none others =
        let same : e.version ≡ version_at m e.key = grind arith in (same ∙ sym (version-shown m e.key), others none)
    tested false is none others = absurd cc

-- the version of a key in a table whose first row has it or not
abbrev from_first : List ℕ → Bool → ℕ → Table (List ℕ) ℕ → ℕ
from_first q b v rest = maybe (cond b (Some v) (lookup (is_at (key_cmp q)) rest)) 0 (λ version. version)

-- another key's version stays
version-other : (t : Table (List ℕ) ℕ) (k : List ℕ) (v : ℕ) (q : List ℕ) → is_eq (key_cmp q k) ≡ false → version_in (put key_cmp t k v) q ≡ version_in t q
version-other [] k v q other = ap (λ (b : Bool). maybe (cond b (Some v) None) 0 (λ version. version)) other
version-other (e ∷ es) k v q other = placed (key_cmp k e.0) refl (version-other es k v q other)
  where
    placed : (o : Ordering) → key_cmp k e.0 ≡ o → version_in (put key_cmp es k v) q ≡ version_in es q
        → version_in (match_ordering o ((k, v) ∷ e ∷ es) ((e.0, v) ∷ es) (e ∷ put key_cmp es k v)) q ≡ version_in (e ∷ es) q
    placed Less is rest = ap (λ (b : Bool). from_first q b v (e ∷ es)) other
    placed Equal is rest =
        let differs : is_eq (key_cmp q e.0) ≡ false = sym (ap is_eq (alike_right nat_list_cmp_total k e.0 q is)) ∙ other in
        ap (λ (b : Bool). from_first q b v es) differs ∙ sym (ap (λ (b : Bool). from_first q b e.1 es) differs)
    placed Greater is rest = kept (is_eq (key_cmp q e.0)) rest
      where
        kept : (b : Bool) → version_in (put key_cmp es k v) q ≡ version_in es q → from_first q b e.1 (put key_cmp es k v) ≡ from_first q b e.1 es
        kept true rest = refl
        kept false rest = rest

raised-other : (t : Table (List ℕ) ℕ) (e : Entry) (q : List ℕ) → same_key q e.key ≡ false → version_in (entry_raised t e) q ≡ version_in t q
raised-other t e q other = written e.write
  where
    written : (w : Option (List ℕ)) → version_in (maybe w t (λ _. put key_cmp t e.key (version_in t e.key + 1))) q ≡ version_in t q
    written None = refl
    written (Some x) = version-other t e.key (version_in t e.key + 1) q (sym (texts_ties q e.key) ∙ other)

-- entries with other keys agree after one was applied
pub agree-raised : (t : Table (List ℕ) ℕ) (e : Entry) (es : List Entry) → has_key e.key es ≡ false → Agree t es → Agree (entry_raised t e) es
agree-raised t e [] none all = tt
agree-raised t e (x ∷ xs) none all =
    let parts = or_parts (same_key x.key e.key) (has_key e.key xs) none in
    (all.0 ∙ sym (raised-other t e x.key parts.0), agree-raised t e xs parts.1 all.1)

-- an entry that read the version here raises it to the next, if it is written
pub raised-written : (t : Table (List ℕ) ℕ) (e : Entry) → is_some e.write ≡ true → e.version ≡ version_in t e.key
    → put key_cmp t e.key (e.version + 1) ≡ entry_raised t e
raised-written t e there agrees = ap (λ (v : ℕ). put key_cmp t e.key (v + 1)) agrees ∙ written e.write there
  where
    written : (w : Option (List ℕ)) → is_some w ≡ true
        → put key_cmp t e.key (version_in t e.key + 1) ≡ maybe w t (λ _. put key_cmp t e.key (version_in t e.key + 1))
    written None there = absurd cc
    written (Some x) there = refl

pub raised-read : (t : Table (List ℕ) ℕ) (e : Entry) → is_some e.write ≡ false → t ≡ entry_raised t e
raised-read t e none = written e.write none
  where
    written : (w : Option (List ℕ)) → is_some w ≡ false → t ≡ maybe w t (λ _. put key_cmp t e.key (version_in t e.key + 1))
    written None none = refl
    written (Some x) none = absurd cc
