-- Readings made of readings read what is spelled, and no more.
use Rattle.std.proofs.Common.{◌≡◌, ℕ, zero, suc, ◌+◌, ◌<◌, Bool, true, cond, List, [], ◌∷◌, ◌++◌, length, Option, Some, None, refl, sym, ap, subst, ◌∙◌, append_assoc, arith}
use Rattle.std.specs.Prelude.{IfSome}
use Rattle.std.specs.List.{flat_map, AllByRecursion}
use Rattle.std.proofs.lemmas.List.{get_or-append-add}
use Rattle.std.proofs.lemmas.List.Concat.{flat_map-cons}
use Rattle.std.proofs.lemmas.Option.{cond_some}
use Rattle.rc_fields.specs.Laws.{IsKind}
use Rattle.rc_fields.specs.Spelling.{u8_bytes}
use Rattle.rc_fields.specs.Formats.{IsBytes, Reader, Reads, NoneStands, Finds, ◌>>=◌, nothing_at, both_at, mapped_at, tested_at, tagged_at, pick, none_at, option_bytes, option_at, list_bytes, many_at, list_at}

-- the bytes behind others are bytes
pub IsBytes-rest : (bytes front rest : List ℕ) → IsBytes bytes → bytes ≡ front ++ rest → IsBytes rest
IsBytes-rest bytes front rest fits e i = rw (← get_or-append-add front rest i 0, ← e) (fits (length front + i))

IsBytes-tail : (b : ℕ) (bytes : List ℕ) → IsBytes (b ∷ bytes) → IsBytes bytes
IsBytes-tail b bytes fits i = fits (suc i)

-- the value of a step that gave one
pub bind_some : {A B : Type 0} (r : Option A) (next : A → Option B) (y : B) → (r >>= next) ≡ Some y → (a : A) × (r ≡ Some a) × (next a ≡ Some y)
bind_some (Some a) next y e = (a, refl, e)
bind_some None next y e = absurd cc

abbrev some : {A : Type 0} → A → Option A
some a = Some a

pub some_is : {A : Type 0} (a b : A) → some a ≡ some b → a ≡ b
some_is a b e = cc

abbrev found : {A : Type 0} → A → List ℕ → Option (A × List ℕ)
found a rest = Some (a, rest)

same_found : {A : Type 0} (a b : A) (x y : List ℕ) → found a x ≡ found b y → ◌≡◌ {A = A × List ℕ} (a, x) (b, y)
same_found a b x y e = cc

-- what reading gives back, the spelling tells
pub Kind-from_reads : {A : Type 0} (spelled : A → List ℕ) (fits : A → Type 0) (at : Reader A) → Reads spelled fits at → IsKind spelled fits
Kind-from_reads {A} spelled fits at reads =
    record {
      told = λ a b x y fa fb e.
          let both = same_found a b x y (sym (reads.again a x fa) ∙ ap at e ∙ reads.again b y fb) in
          (ap (λ (p : A × List ℕ). p.0) both, ap (λ (p : A × List ℕ). p.1) both);
    }

-- where nothing is read no spelling stands first
pub NoneStands-from_none : {A : Type 0} (spelled : A → List ℕ) (fits : A → Type 0) (at : Reader A) → Reads spelled fits at
    → (bytes : List ℕ) → at bytes ≡ None → NoneStands spelled fits bytes
NoneStands-from_none spelled fits at reads bytes none a rest is e = absurd (cc (none, ap at e, reads.again a rest is))

-- what was read is what stood first
pub Finds-some : {A : Type 0} (spelled : A → List ℕ) (fits : A → Type 0) (at : Reader A) → Reads spelled fits at
    → (before : List ℕ) (a : A) (after : List ℕ) → IsBytes before → at before ≡ Some (a, after) → Finds spelled fits (Some a) before after
unfolding Finds
Finds-some spelled fits at reads before a after is e = reads.takes before a after is e

pub Finds-none : {A : Type 0} (spelled : A → List ℕ) (fits : A → Type 0) (at : Reader A) → Reads spelled fits at
    → (before : List ℕ) → at before ≡ None → Finds spelled fits None before before
unfolding Finds
Finds-none spelled fits at reads before none = (NoneStands-from_none spelled fits at reads before none, refl)

pub Reads-nothing : Reads (λ (u : Unit {0}). []) (λ u. Unit {0}) nothing_at
unfolding nothing_at
Reads-nothing = record {
  takes = λ bytes a rest fits e. (tt, ap (λ (p : Unit {0} × List ℕ). p.1) (some_is (tt, bytes) (a, rest) e));
  again = λ a rest fits. refl;
}

-- the same bytes, seen otherwise: f leads from what is read to what is wanted, and g back
pub Reads-mapped : {A B : Type 0} (sa : A → List ℕ) (fa : A → Type 0) (at : Reader A) (f : A → B) (g : B → A) (sb : B → List ℕ) (fb : B → Type 0)
    → Reads sa fa at
    → ((a : A) → fa a → fb (f a) × (sb (f a) ≡ sa a))
    → ((b : B) → fb b → fa (g b) × (f (g b) ≡ b))
    → Reads sb fb (mapped_at f at)
unfolding mapped_at
Reads-mapped {A} {B} sa fa at f g sb fb reads forth back = record {
  takes = λ bytes b rest fits e.
      let s = bind_some (at bytes) (λ a. Some (f a.0, a.1)) (b, rest) e in
      let t = reads.takes bytes s.0.0 s.0.1 fits s.1 in
      let h = forth s.0.0 t.0 in
      subst (λ (p : B × List ℕ). fb p.0 × (bytes ≡ sb p.0 ++ p.1)) (some_is (f s.0.0, s.0.1) (b, rest) s.2)
      (h.0, t.1 ∙ ap (λ w. w ++ s.0.1) (sym h.1));
  again = λ b rest fits.
      let h = back b fits in
      let k = forth (g b) h.0 in
      let spelled : sb b ≡ sa (g b) = ap sb (sym h.1) ∙ k.1 in
      ap (λ w. at (w ++ rest) >>= λ a. Some (f a.0, a.1)) spelled ∙ ap (λ r. r >>= λ a. Some (f a.0, a.1)) (reads.again (g b) rest h.0) ∙ ap (λ c. Some (c, rest)) h.1;
}

-- the same reading, its spelling and its fits said otherwise
pub Reads-same : {A : Type 0} (sa : A → List ℕ) (fa : A → Type 0) (at : Reader A) (sb : A → List ℕ) (fb : A → Type 0)
    → Reads sa fa at → ((a : A) → fa a → fb a × (sb a ≡ sa a)) → ((a : A) → fb a → fa a)
    → Reads sb fb at
Reads-same sa fa at sb fb reads forth back = record {
  takes = λ bytes a rest fits e.
      let t = reads.takes bytes a rest fits e in
      let h = forth a t.0 in
      (h.0, t.1 ∙ ap (λ w. w ++ rest) (sym h.1));
  again = λ a rest fits.
      let h = back a fits in
      ap (λ w. at (w ++ rest)) (forth a h).1 ∙ reads.again a rest h;
}

pub Reads-both : {A B : Type 0} (sa : A → List ℕ) (fa : A → Type 0) (at : Reader A) (sb : B → List ℕ) (fb : B → Type 0) (bt : Reader B)
    → Reads sa fa at → Reads sb fb bt
    → Reads (λ (p : A × B). sa p.0 ++ sb p.1) (λ (p : A × B). fa p.0 × fb p.1) (both_at at bt)
unfolding both_at
Reads-both {A} {B} sa fa at sb fb bt first second = record {
  takes = λ bytes p rest fits e.
      let s = bind_some (at bytes) (λ a. bt a.1 >>= λ b. Some ((a.0, b.0), b.1)) (p, rest) e in
      let u = bind_some (bt s.0.1) (λ b. Some ((s.0.0, b.0), b.1)) (p, rest) s.2 in
      let ta = first.takes bytes s.0.0 s.0.1 fits s.1 in
      let tb = second.takes s.0.1 u.0.0 u.0.1 (IsBytes-rest bytes (sa s.0.0) s.0.1 fits ta.1) u.1 in
      let made : (A × B) × List ℕ = ((s.0.0, u.0.0), u.0.1) in
      subst (λ (q : (A × B) × List ℕ). (fa q.0.0 × fb q.0.1) × (bytes ≡ (sa q.0.0 ++ sb q.0.1) ++ q.1)) (some_is made (p, rest) u.2)
      ((ta.0, tb.0), ta.1 ∙ ap (λ w. sa s.0.0 ++ w) tb.1 ∙ sym (append_assoc (sa s.0.0) (sb u.0.0) u.0.1));
  again = λ p rest fits.
      ap (λ w. at w >>= λ a. bt a.1 >>= λ b. Some ((a.0, b.0), b.1)) (append_assoc (sa p.0) (sb p.1) rest)
      ∙ ap (λ r. r >>= λ a. bt a.1 >>= λ b. Some ((a.0, b.0), b.1)) (first.again p.0 (sb p.1 ++ rest) fits.0)
      ∙ ap (λ r. r >>= λ b. Some ((p.0, b.0), b.1)) (second.again p.1 rest fits.1);
}

pub Reads-tested : {A : Type 0} (sa : A → List ℕ) (fa : A → Type 0) (at : Reader A) (test : A → Bool)
    → Reads sa fa at → Reads sa (λ a. fa a × (test a ≡ true)) (tested_at test at)
unfolding tested_at
Reads-tested {A} sa fa at test reads = record {
  takes = λ bytes a rest fits e.
      let s = bind_some (at bytes) (λ x. cond (test x.0) (Some x) None) (a, rest) e in
      let g = cond_some (test s.0.0) s.0 (a, rest) s.2 in
      let t = reads.takes bytes s.0.0 s.0.1 fits s.1 in
      subst (λ (p : A × List ℕ). (fa p.0 × (test p.0 ≡ true)) × (bytes ≡ sa p.0 ++ p.1)) g.1 ((t.0, g.0), t.1);
  again = λ a rest fits.
      ap (λ r. r >>= λ x. cond (test x.0) (Some x) None) (reads.again a rest fits.0) ∙ ap (λ b. cond b (Some (a, rest)) None) fits.1;
}

-- TAGS
-- what stands behind each tag
pub record Chooses {A : Type 0} (tag : A → ℕ) (body : A → List ℕ) (fits : A → Type 0) (choose : ℕ → List ℕ → Option (A × List ℕ)) : Type 0 where
  pub takes : (t : ℕ) (bytes : List ℕ) (a : A) (rest : List ℕ) → t < 256 → IsBytes bytes → choose t bytes ≡ Some (a, rest)
      → (tag a ≡ t) × fits a × (bytes ≡ body a ++ rest)
  pub again : (a : A) (rest : List ℕ) → fits a → choose (tag a) (body a ++ rest) ≡ Some (a, rest)

tagged_takes : {A : Type 0} (tag : A → ℕ) (body : A → List ℕ) (fits : A → Type 0) (choose : ℕ → Reader A) → Chooses tag body fits choose
    → (bytes : List ℕ) (a : A) (rest : List ℕ) → IsBytes bytes → tagged_at choose bytes ≡ Some (a, rest)
    → fits a × (bytes ≡ (u8_bytes (tag a) ++ body a) ++ rest)
unfolding tagged_at
tagged_takes tag body fits choose chooses [] a rest is e = absurd cc
tagged_takes tag body fits choose chooses (t ∷ bytes) a rest is e =
    let h = chooses.takes t bytes a rest (is 0) (IsBytes-tail t bytes is) e in
    (h.1, ap (λ w. t ∷ w) h.2 ∙ ap (λ u. u ∷ (body a ++ rest)) (sym h.0))

pub Reads-tagged : {A : Type 0} (tag : A → ℕ) (body : A → List ℕ) (fits : A → Type 0) (choose : ℕ → Reader A)
    → Chooses tag body fits choose → Reads (λ a. u8_bytes (tag a) ++ body a) fits (tagged_at choose)
unfolding tagged_at
Reads-tagged tag body fits choose chooses = record {
  takes = tagged_takes tag body fits choose chooses;
  again = λ a rest is. chooses.again a rest is;
}

-- what is read at the places of a list of readings, of which the first stands for tag k
pub record Picks {A : Type 0} (tag : A → ℕ) (body : A → List ℕ) (fits : A → Type 0) (k : ℕ) (rs : List (List ℕ → Option (A × List ℕ))) : Type 0 where
  pub takes : (t : ℕ) (bytes : List ℕ) (a : A) (rest : List ℕ) → IsBytes bytes → pick rs t bytes ≡ Some (a, rest)
      → (tag a ≡ k + t) × fits a × (bytes ≡ body a ++ rest)

pub Picks-end : {A : Type 0} (tag : A → ℕ) (body : A → List ℕ) (fits : A → Type 0) (k : ℕ) → Picks tag body fits k []
unfolding pick
Picks-end tag body fits k = record { takes = λ t bytes a rest is e. absurd cc }

-- what one reading takes, where its values have the tag k
pub record Takes {A : Type 0} (tag : A → ℕ) (body : A → List ℕ) (fits : A → Type 0) (k : ℕ) (at : List ℕ → Option (A × List ℕ)) : Type 0 where
  pub takes : (bytes : List ℕ) (a : A) (rest : List ℕ) → IsBytes bytes → at bytes ≡ Some (a, rest) → (tag a ≡ k) × fits a × (bytes ≡ body a ++ rest)

picks_takes : {A : Type 0} (tag : A → ℕ) (body : A → List ℕ) (fits : A → Type 0) (k : ℕ) (r : Reader A) (rs : List (Reader A))
    → Takes tag body fits k r → Picks tag body fits (suc k) rs
    → (t : ℕ) (bytes : List ℕ) (a : A) (rest : List ℕ) → IsBytes bytes → pick (r ∷ rs) t bytes ≡ Some (a, rest)
    → (tag a ≡ k + t) × fits a × (bytes ≡ body a ++ rest)
unfolding pick
picks_takes tag body fits k r rs one more zero bytes a rest is e =
    let h = one.takes bytes a rest is e in
    let e0 : tag a ≡ k + 0 = omega (arith, h.0) in
    (e0, h.1, h.2)
picks_takes tag body fits k r rs one more (suc t) bytes a rest is e =
    let h = more.takes t bytes a rest is e in
    let e1 : tag a ≡ k + suc t = omega (arith, h.0) in
    (e1, h.1, h.2)

pub Picks-more : {A : Type 0} (tag : A → ℕ) (body : A → List ℕ) (fits : A → Type 0) (k : ℕ) (r : Reader A) (rs : List (Reader A))
    → Takes tag body fits k r → Picks tag body fits (suc k) rs → Picks tag body fits k (r ∷ rs)
Picks-more tag body fits k r rs one more = record { takes = picks_takes tag body fits k r rs one more }

pub Takes-none : {A : Type 0} (tag : A → ℕ) (body : A → List ℕ) (fits : A → Type 0) (k : ℕ) → Takes tag body fits k none_at
unfolding none_at
Takes-none tag body fits k = record { takes = λ bytes a rest is e. absurd cc }

-- values of one kind, read by what they have
pub Takes-mapped : {A X : Type 0} (tag : A → ℕ) (body : A → List ℕ) (fits : A → Type 0) (k : ℕ) (sx : X → List ℕ) (fx : X → Type 0) (xt : Reader X) (f : X → A)
    → Reads sx fx xt → ((x : X) → fx x → (tag (f x) ≡ k) × fits (f x) × (body (f x) ≡ sx x))
    → Takes tag body fits k (mapped_at f xt)
unfolding mapped_at
Takes-mapped {A} {X} tag body fits k sx fx xt f reads kind = record {
  takes = λ bytes a rest is e.
      let s = bind_some (xt bytes) (λ x. Some (f x.0, x.1)) (a, rest) e in
      let t = reads.takes bytes s.0.0 s.0.1 is s.1 in
      let h = kind s.0.0 t.0 in
      subst (λ (p : A × List ℕ). (tag p.0 ≡ k) × fits p.0 × (bytes ≡ body p.0 ++ p.1)) (some_is (f s.0.0, s.0.1) (a, rest) s.2)
      (h.0, h.1, t.1 ∙ ap (λ w. w ++ s.0.1) (sym h.2));
}

pub mapped_again : {A X : Type 0} (sx : X → List ℕ) (fx : X → Type 0) (xt : Reader X) (f : X → A) → Reads sx fx xt
    → (x : X) (rest : List ℕ) → fx x → mapped_at f xt (sx x ++ rest) ≡ Some (f x, rest)
unfolding mapped_at
mapped_again sx fx xt f reads x rest fits = ap (λ r. r >>= λ a. Some (f a.0, a.1)) (reads.again x rest fits)

-- readings at the places of a list are those behind the tags
pub Chooses-pick : {A : Type 0} (tag : A → ℕ) (body : A → List ℕ) (fits : A → Type 0) (rs : List (Reader A))
    → Picks tag body fits 0 rs → ((a : A) (rest : List ℕ) → fits a → pick rs (tag a) (body a ++ rest) ≡ Some (a, rest))
    → Chooses tag body fits (pick rs)
Chooses-pick tag body fits rs picks again = record {
  takes = λ t bytes a rest lt is e. let h = picks.takes t bytes a rest is e in let e0 : tag a ≡ t = omega (arith, h.0) in (e0, h.1, h.2);
  again = again;
}

-- OPTIONS
option_takes : {A : Type 0} (sa : A → List ℕ) (fa : A → Type 0) (at : Reader A) → Reads sa fa at
    → (bytes : List ℕ) (o : Option A) (rest : List ℕ) → IsBytes bytes → option_at at bytes ≡ Some (o, rest)
    → IfSome o fa × (bytes ≡ option_bytes sa o ++ rest)
unfolding option_at
option_takes sa fa at reads [] o rest is e = absurd cc
option_takes {A} sa fa at reads (zero ∷ bytes) o rest is e =
    subst (λ (p : Option A × List ℕ). IfSome p.0 fa × (zero ∷ bytes ≡ option_bytes sa p.0 ++ p.1)) (some_is (None, bytes) (o, rest) e) (tt, refl)
option_takes {A} sa fa at reads (suc zero ∷ bytes) o rest is e =
    let s = bind_some (at bytes) (λ a. Some (Some a.0, a.1)) (o, rest) e in
    let t = reads.takes bytes s.0.0 s.0.1 (IsBytes-tail 1 bytes is) s.1 in
    subst (λ (p : Option A × List ℕ). IfSome p.0 fa × (1 ∷ bytes ≡ option_bytes sa p.0 ++ p.1)) (some_is (Some s.0.0, s.0.1) (o, rest) s.2)
    (t.0, ap (λ w. 1 ∷ w) t.1)
option_takes sa fa at reads (suc (suc t) ∷ bytes) o rest is e = absurd cc

option_again : {A : Type 0} (sa : A → List ℕ) (fa : A → Type 0) (at : Reader A) → Reads sa fa at
    → (o : Option A) (rest : List ℕ) → IfSome o fa → option_at at (option_bytes sa o ++ rest) ≡ Some (o, rest)
unfolding option_at
option_again sa fa at reads None rest fits = refl
option_again sa fa at reads (Some a) rest fits = ap (λ r. r >>= λ x. Some (Some x.0, x.1)) (reads.again a rest fits)

pub Reads-option : {A : Type 0} (sa : A → List ℕ) (fa : A → Type 0) (at : Reader A) → Reads sa fa at
    → Reads (option_bytes sa) (λ o. IfSome o fa) (option_at at)
Reads-option sa fa at reads = record { takes = option_takes sa fa at reads; again = option_again sa fa at reads }

-- LISTS
pub many_takes : {A : Type 0} (sa : A → List ℕ) (fa : A → Type 0) (at : Reader A) → Reads sa fa at
    → (n : ℕ) (bytes : List ℕ) (xs : List A) (rest : List ℕ) → IsBytes bytes → many_at at n bytes ≡ Some (xs, rest)
    → (length xs ≡ n) × AllByRecursion fa xs × (bytes ≡ flat_map sa xs ++ rest)
unfolding many_at
many_takes {A} sa fa at reads zero bytes xs rest is e =
    subst (λ (p : List A × List ℕ). (length p.0 ≡ 0) × AllByRecursion fa p.0 × (bytes ≡ flat_map sa p.0 ++ p.1)) (some_is ([], bytes) (xs, rest) e) (refl, tt, refl)
many_takes {A} sa fa at reads (suc n) bytes xs rest is e =
    let s = bind_some (at bytes) (λ a. many_at at n a.1 >>= λ more. Some (a.0 ∷ more.0, more.1)) (xs, rest) e in
    let u = bind_some (many_at at n s.0.1) (λ more. Some (s.0.0 ∷ more.0, more.1)) (xs, rest) s.2 in
    let t = reads.takes bytes s.0.0 s.0.1 is s.1 in
    let v = many_takes sa fa at reads n s.0.1 u.0.0 u.0.1 (IsBytes-rest bytes (sa s.0.0) s.0.1 is t.1) u.1 in
    let made : List A × List ℕ = (s.0.0 ∷ u.0.0, u.0.1) in
    let parts : bytes ≡ flat_map sa (s.0.0 ∷ u.0.0) ++ u.0.1 =
    t.1 ∙ ap (λ w. sa s.0.0 ++ w) v.2 ∙ sym (append_assoc (sa s.0.0) (flat_map sa u.0.0) u.0.1) ∙ ap (λ w. w ++ u.0.1) (sym (flat_map-cons sa s.0.0 u.0.0)) in
    subst (λ (p : List A × List ℕ). (length p.0 ≡ suc n) × AllByRecursion fa p.0 × (bytes ≡ flat_map sa p.0 ++ p.1)) (some_is made (xs, rest) u.2)
    (ap suc v.0, (t.0, v.1), parts)

pub many_again : {A : Type 0} (sa : A → List ℕ) (fa : A → Type 0) (at : Reader A) → Reads sa fa at
    → (xs : List A) (rest : List ℕ) → AllByRecursion fa xs → many_at at (length xs) (flat_map sa xs ++ rest) ≡ Some (xs, rest)
unfolding many_at
many_again sa fa at reads [] rest fits = refl
many_again sa fa at reads (x ∷ xs) rest fits =
    let regrouped : flat_map sa (x ∷ xs) ++ rest ≡ sa x ++ (flat_map sa xs ++ rest) =
    ap (λ w. w ++ rest) (flat_map-cons sa x xs) ∙ append_assoc (sa x) (flat_map sa xs) rest in
    ap (λ w. at w >>= λ a. many_at at (length xs) a.1 >>= λ more. Some (a.0 ∷ more.0, more.1)) regrouped
    ∙ ap (λ r. r >>= λ a. many_at at (length xs) a.1 >>= λ more. Some (a.0 ∷ more.0, more.1)) (reads.again x (flat_map sa xs ++ rest) fits.0)
    ∙ ap (λ r. r >>= λ more. Some (x ∷ more.0, more.1)) (many_again sa fa at reads xs rest fits.1)

-- a list behind its count
pub Reads-list : {A : Type 0} (sa : A → List ℕ) (fa : A → Type 0) (at : Reader A) → Reads sa fa at
    → Reads (list_bytes sa) (λ xs. (length xs < 256) × AllByRecursion fa xs) (list_at at)
unfolding list_at
Reads-list {A} sa fa at reads =
    let chooses : Chooses {A = List A} length (flat_map sa) (λ xs. (length xs < 256) × AllByRecursion fa xs) (many_at at) = record {
      takes = λ t bytes xs rest lt is e.
          let v = many_takes sa fa at reads t bytes xs rest is e in
          let few : length xs < 256 = omega (arith, v.0) in
          (v.0, (few, v.1), v.2);
      again = λ xs rest fits. many_again sa fa at reads xs rest fits.1;
    } in
    Reads-tagged length (flat_map sa) (λ xs. (length xs < 256) × AllByRecursion fa xs) (many_at at) chooses
