-- One message to each coordinator in order, and one to each shard that is touched in each datacentre.
use Rattle.std.proofs.Common.{◌≡◌, ℕ, suc, ◌≤◌, ◌<◌, List, [], ◌∷◌, refl, sym, ap, ◌∙◌, subst, arith, Bool, true, false, ⊎_elim}
use Rattle.std.specs.Prelude.{if◌then◌else◌, nat_le, ◌==◌, ◌&&◌, ◌||◌}
use Rattle.std.proofs.lemmas.Bool.{le-leb, lt-leb, eq-eqb, ne_eqb}
use Rattle.rc_ids.specs.Cluster.{Layout}
use Rattle.rc_body.specs.declared.entry.Entry.{Entry}
use Rattle.rc_msg.specs.declared.msg.Envelope.{Envelope}
use Rattle.rc_protocol.specs.Messages.{coordinator, shard_server}
use Rattle.rc_protocol.specs.Client.{Client}
use Rattle.rc_protocol.specs.Nodes.{CoordNode, ShardNode, coord_after, shard_after}
use Rattle.rc_runs.specs.Votes.{ordered}
use Rattle.rc_runs.specs.World.{Parties, envelopes}
use Rattle.rc_calm_batches.proofs.Passes.{Turned, Turns, each}
use Rattle.rc_calm_batches.proofs.Batches.{loop}
use Rattle.rc_calm_batches.proofs.Indices.{compare}
use Rattle.rc_calm_batches.proofs.Stages.{Shards, same_or_not}
use Rattle.rc_calm_batches.proofs.ReadDrains.{none_each}
use Rattle.rc_calm_batches.proofs.Coords.{Coords}
use Rattle.rc_calm_batches.proofs.Acting.{Stage, coord_act, shard_act, coord_acts, shard_acts}

-- the first where the test holds, else the second
abbrev pub Which : Bool → Type 0 → Type 0 → Type 0
Which true A B = A
Which false A B = B

pub which_true : (b : Bool) (A B : Type 0) → b ≡ true → Which b A B → A
which_true true A B e h = h
which_true false A B e h = absurd (cc)

pub which_false : (b : Bool) (A B : Type 0) → b ≡ false → Which b A B → B
which_false true A B e h = absurd (cc)
which_false false A B e h = h

pub to_true : (b : Bool) (A B : Type 0) → b ≡ true → A → Which b A B
to_true true A B e h = h
to_true false A B e h = absurd (cc)

pub to_false : (b : Bool) (A B : Type 0) → b ≡ false → B → Which b A B
to_false true A B e h = absurd (cc)
to_false false A B e h = h

pub which_same : (b c : Bool) (A B : Type 0) → b ≡ c → Which b A B → Which c A B
which_same b c A B e h = subst (λ (z : Bool). Which z A B) e h

pub one_more : (a i : ℕ) → (suc i ≡ a → ⊥) → nat_le a i ≡ nat_le a (suc i)
one_more a i n = ⊎_elim
    (λ (h : a < suc i). le-leb a i (omega (arith, h)) ∙ sym (le-leb a (suc i) (omega (arith, h))))
    (λ z. ⊎_elim (λ (h : a ≡ suc i). absurd (n (sym h))) (λ (h : suc i < a). lt-leb a i (omega (arith, h)) ∙ sym (lt-leb a (suc i) h)) z) (compare a (suc i))

pub coords_map : (c : Layout) (C C' : ℕ → CoordNode → Type 0) (cs : List CoordNode) → ((d : ℕ) (x : CoordNode) → 1 ≤ d → d ≤ c.dcs → C d x → C' d x) → Coords c C cs → Coords c C' cs
coords_map c C C' cs f h d d1 d2 = let z = h d d1 d2 in (z.0, z.1, f d z.0 d1 d2 z.2)

pub shards_map : (S S' : ℕ → ℕ → ShardNode → Type 0) (p : Parties)
    → ((d s : ℕ) (x : ShardNode) → 1 ≤ d → d ≤ p.layout.dcs → 1 ≤ s → s ≤ p.layout.shards → S d s x → S' d s x) → Shards S p → Shards S' p
shards_map S S' p f h d s d1 d2 s1 s2 = let z = h d s d1 d2 s1 s2 in (z.0, z.1, f d s z.0 d1 d2 s1 s2 z.2)

module _ (b : Parties) (t : ℕ) (y : Client) where
  pub with_coords : (C C' : ℕ → CoordNode → Type 0) (S : ℕ → ℕ → ShardNode → Type 0) (o : List (ℕ × List Entry)) (p : Parties)
      → ((d : ℕ) (x : CoordNode) → 1 ≤ d → d ≤ b.layout.dcs → C d x → C' d x) → Stage b t C S y o p → Stage b t C' S y o p
  with_coords C C' S o p f h = record { layout = h.layout; start = h.start; coords = coords_map b.layout C C' p.coords f h.coords; shards = h.shards; clients = h.clients; committed = h.committed }

  pub with_shards : (C : ℕ → CoordNode → Type 0) (S S' : ℕ → ℕ → ShardNode → Type 0) (o : List (ℕ × List Entry)) (p : Parties)
      → ((d s : ℕ) (x : ShardNode) → 1 ≤ d → d ≤ b.layout.dcs → 1 ≤ s → s ≤ b.layout.shards → S d s x → S' d s x) → Stage b t C S y o p → Stage b t C S' y o p
  with_shards C S S' o p f h = record {
    layout = h.layout;
    start = h.start;
    coords = h.coords;
    shards = shards_map S S' p (λ d s x d1 d2 s1 s2 z. f d s x d1 (subst (λ (c : Layout). d ≤ c.dcs) h.layout d2) s1 (subst (λ (c : Layout). s ≤ c.shards) h.layout s2) z) h.shards;
    clients = h.clients;
    committed = h.committed;
  }

  pub with_order : (C : ℕ → CoordNode → Type 0) (S : ℕ → ℕ → ShardNode → Type 0) (o o' : List (ℕ × List Entry)) (p : Parties) → o ≡ o' → Stage b t C S y o p → Stage b t C S y o' p
  with_order C S o o' p e h = subst (λ (z : List (ℕ × List Entry)). Stage b t C S y z p) e h

  -- COORDINATORS
  module _ (S : ℕ → ℕ → ShardNode → Type 0) (Old New : ℕ → CoordNode → Type 0) (order : ℕ → List (ℕ × List Entry)) (msg : ℕ → Envelope) (out : ℕ → List Envelope) where
    abbrev pub up_to_dc : ℕ → ℕ → CoordNode → Type 0
    up_to_dc i d x = Which (nat_le d i) (New d x) (Old d x)

    pub coords_turn :
        ((d : ℕ) → (msg d).to ≡ coordinator d)
        → ((d : ℕ) (x : CoordNode) → 1 ≤ d → d ≤ b.layout.dcs → Old d x → (x.up ≡ true) × New d (coord_after x (coord_act b d (msg d) x)) × (envelopes (coordinator d) (coord_act b d (msg d) x).sends ≡ out d) × ((coord_act b d (msg d) x).spent ≡ false))
        → ((i : ℕ) (x : CoordNode) (cs : List CoordNode) → suc i ≤ b.layout.dcs → Old (suc i) x → Coords b.layout (up_to_dc (suc i)) cs → ordered b.layout cs [] (order i) (coord_act b (suc i) (msg (suc i)) x).logs ≡ order (suc i))
        → Turns (Stage b t Old S y (order 0)) (each b.layout.dcs (λ d. msg d ∷ [])) (Stage b t New S y (order b.layout.dcs)) (each b.layout.dcs out) []
    coords_turn to row orders p h =
        let z = loop b.layout.dcs (λ i. Stage b t (up_to_dc i) S y (order i)) (λ d. msg d ∷ []) out (λ d. []) turn b.layout.dcs (omega arith) p
        (with_coords Old (up_to_dc 0) S (order 0) p (λ d x d1 d2 w. to_false (nat_le d 0) (New d x) (Old d x) (lt-leb d 0 d1) w) h) in
        record {
          after = with_coords (up_to_dc b.layout.dcs) New S (order b.layout.dcs) _ (λ d x d1 d2 w. which_true (nat_le d b.layout.dcs) (New d x) (Old d x) (le-leb d b.layout.dcs d2) w) z.after;
          sends = z.sends;
          prints = z.prints ∙ none_each b.layout.dcs;
          lasts = z.lasts;
        }
      where
        turn : (i : ℕ) → suc i ≤ b.layout.dcs → Turns (Stage b t (up_to_dc i) S y (order i)) (msg (suc i) ∷ []) (Stage b t (up_to_dc (suc i)) S y (order (suc i))) (out (suc i)) []
        turn i le p h =
            let was : (x : CoordNode) → up_to_dc i (suc i) x → Old (suc i) x = λ x w. which_false (nat_le (suc i) i) (New (suc i) x) (Old (suc i) x) (lt-leb (suc i) i (omega arith)) w in
            coord_acts b t (up_to_dc i) (up_to_dc (suc i)) S y (order i) (order (suc i)) (suc i) (msg (suc i)) (out (suc i)) p (omega arith) le (to (suc i))
            (λ x w. let r = row (suc i) x (omega arith) le (was x w) in (r.0, to_true (nat_le (suc i) (suc i)) _ _ (le-leb (suc i) (suc i) (omega arith)) r.1, r.2, r.3))
            (λ f x n w. which_same (nat_le f i) (nat_le f (suc i)) (New f x) (Old f x) (one_more f i n) w)
            (λ x cs w new. orders i x cs le (was x w) new) h

  -- SHARDS
  abbrev passed : ℕ → ℕ → ℕ → ℕ → Bool
  passed i r d s = nat_le d i || (d == suc i) && nat_le s r

  passed_now : (i r : ℕ) → passed i r (suc i) (suc r) ≡ false
  passed_now i r = let a = lt-leb (suc i) i (omega arith) in let e = lt-leb (suc r) r (omega arith) in let k = eq-eqb (suc i) (suc i) refl in rw (a, k, e)

  passed_then : (i r : ℕ) → passed i (suc r) (suc i) (suc r) ≡ true
  passed_then i r = let a = lt-leb (suc i) i (omega arith) in let e = le-leb (suc r) (suc r) (omega arith) in let k = eq-eqb (suc i) (suc i) refl in rw (a, k, e)

  passed_other : (i r d s : ℕ) → ((suc i ≡ d) × (suc r ≡ s) → ⊥) → passed i r d s ≡ passed i (suc r) d s
  passed_other i r d s n = ⊎_elim
      (λ (e : suc i ≡ d). ap (λ (z : Bool). nat_le d i || (d == suc i) && z) (one_more s r (λ k. n (e, k))))
      (λ k. let q = ne_eqb d (suc i) (λ z. k (sym z)) in rw q) (same_or_not (suc i) d)

  passed_first : (i d s : ℕ) → 1 ≤ s → nat_le d i ≡ passed i 0 d s
  passed_first i d s s1 = let e = lt-leb s 0 s1 in go (nat_le d i) (d == suc i) (nat_le s 0) e
    where
      go : (a k z : Bool) → z ≡ false → a ≡ (a || k && z)
      go true k z e = refl
      go false true z e = sym e
      go false false z e = refl

  passed_last : (i d s n : ℕ) → s ≤ n → passed i n d s ≡ nat_le d (suc i)
  passed_last i d s n s2 = ⊎_elim
      (λ (e : suc i ≡ d). let a = le-leb s n s2 in let k = eq-eqb d (suc i) (sym e) in let w : nat_le d i ≡ false = lt-leb d i (omega (arith, e)) in let v : nat_le d (suc i) ≡ true = le-leb d (suc i) (omega (arith, e)) in rw (a, k, w, v))
      (λ apart. let q = ne_eqb d (suc i) (λ z. apart (sym z)) in let v = one_more d i apart in go (nat_le d i) (d == suc i) (nat_le s n) q ∙ v) (same_or_not (suc i) d)
    where
      go : (a k z : Bool) → k ≡ false → (a || k && z) ≡ a
      go true k z e = refl
      go false true z e = absurd (cc)
      go false false z e = refl

  module _ (C : ℕ → CoordNode → Type 0) (o : List (ℕ × List Entry)) (touch : ℕ → Bool) (Old New : ℕ → ℕ → ShardNode → Type 0) (msg : ℕ → ℕ → Envelope) (out : ℕ → ℕ → List Envelope) where
    abbrev N : ℕ
    N = b.layout.dcs

    abbrev M : ℕ
    M = b.layout.shards

    -- all shards of d1 to di are new, and of the next datacentre those up to r
    abbrev before : ℕ → ℕ → ℕ → ℕ → ShardNode → Type 0
    before i r d s x = Which (passed i r d s) (New d s x) (Old d s x)

    abbrev whole : ℕ → ℕ → ℕ → ShardNode → Type 0
    whole i d s x = Which (nat_le d i) (New d s x) (Old d s x)

    abbrev pub if_touched : (ℕ → ℕ → List Envelope) → ℕ → ℕ → List Envelope
    if_touched f d s = if touch s then f d s else []

    pub shards_turn :
        ((d s : ℕ) → (msg d s).to ≡ shard_server d s)
        → ((d s : ℕ) (x : ShardNode) → 1 ≤ d → d ≤ N → 1 ≤ s → s ≤ M → touch s ≡ true → Old d s x → (x.up ≡ true) × New d s (shard_after x (shard_act b d s (msg d s) x)) × (envelopes (shard_server d s) (shard_act b d s (msg d s) x).sends ≡ out d s))
        → ((d s : ℕ) (x : ShardNode) → touch s ≡ false → Old d s x → New d s x)
        → Turns (Stage b t C Old y o) (each N (λ d. each M (if_touched (λ e s. msg e s ∷ []) d))) (Stage b t C New y o) (each N (λ d. each M (if_touched out d))) []
    shards_turn to row rest p h =
        let z = loop N (λ i. Stage b t C (whole i) y o) (λ d. each M (if_touched (λ e s. msg e s ∷ []) d)) (λ d. each M (if_touched out d)) (λ d. []) turn N (omega arith) p
        (with_shards C Old (whole 0) o p (λ d s x d1 d2 s1 s2 w. to_false (nat_le d 0) (New d s x) (Old d s x) (lt-leb d 0 d1) w) h) in
        record {
          after = with_shards C (whole N) New o _ (λ d s x d1 d2 s1 s2 w. which_true (nat_le d N) (New d s x) (Old d s x) (le-leb d N d2) w) z.after;
          sends = z.sends;
          prints = z.prints ∙ none_each N;
          lasts = z.lasts;
        }
      where
        one_turn : (i r : ℕ) → suc i ≤ N → suc r ≤ M → Turns (Stage b t C (before i r) y o) (if_touched (λ e s. msg e s ∷ []) (suc i) (suc r)) (Stage b t C (before i (suc r)) y o) (if_touched out (suc i) (suc r)) []
        one_turn i r le le2 p h = go (touch (suc r)) refl
          where
            other : (f q : ℕ) (x : ShardNode) → ((suc i ≡ f) × (suc r ≡ q) → ⊥) → before i r f q x → before i (suc r) f q x
            other f q x n w = which_same (passed i r f q) (passed i (suc r) f q) (New f q x) (Old f q x) (passed_other i r f q n) w

            was : (x : ShardNode) → before i r (suc i) (suc r) x → Old (suc i) (suc r) x
            was x w = which_false (passed i r (suc i) (suc r)) _ _ (passed_now i r) w

            is : (x : ShardNode) → New (suc i) (suc r) x → before i (suc r) (suc i) (suc r) x
            is x w = to_true (passed i (suc r) (suc i) (suc r)) _ _ (passed_then i r) w

            skip : touch (suc r) ≡ false → (f q : ℕ) (x : ShardNode) → before i r f q x → before i (suc r) f q x
            skip e f q x w = ⊎_elim
                (λ (g : suc i ≡ f). ⊎_elim
                (λ (k : suc r ≡ q). subst (λ (z : ℕ). before i (suc r) z q x) g (subst (λ (z : ℕ). before i (suc r) (suc i) z x) k
                (is x (rest (suc i) (suc r) x e (was x (subst (λ (z : ℕ). before i r (suc i) z x) (sym k) (subst (λ (z : ℕ). before i r z q x) (sym g) w)))))))
                (λ n. other f q x (λ z. n z.1) w) (same_or_not (suc r) q))
                (λ n. other f q x (λ z. n z.0) w) (same_or_not (suc i) f)

            go : (v : Bool) → touch (suc r) ≡ v → Turned (Stage b t C (before i (suc r)) y o) (if v then msg (suc i) (suc r) ∷ [] else []) (if v then out (suc i) (suc r) else []) [] p
            go true e =
                shard_acts b t C (before i r) (before i (suc r)) y o (suc i) (suc r) (msg (suc i) (suc r)) (out (suc i) (suc r)) p (omega arith) le (omega arith) le2 (to (suc i) (suc r))
                (λ x w. let z = row (suc i) (suc r) x (omega arith) le (omega arith) le2 e (was x w) in (z.0, is _ z.1, z.2)) other h
            go false e = record { after = with_shards C (before i r) (before i (suc r)) o p (λ d s x d1 d2 s1 s2 w. skip e d s x w) h; sends = refl; prints = refl; lasts = tt }

        turn : (i : ℕ) → suc i ≤ N → Turns (Stage b t C (whole i) y o) (each M (if_touched (λ e s. msg e s ∷ []) (suc i))) (Stage b t C (whole (suc i)) y o) (each M (if_touched out (suc i))) []
        turn i le p h =
            let z = loop M (λ r. Stage b t C (before i r) y o) (if_touched (λ e s. msg e s ∷ []) (suc i)) (if_touched out (suc i)) (λ r. []) (λ r le2. one_turn i r le le2) M (omega arith) p
            (with_shards C (whole i) (before i 0) o p (λ d s x d1 d2 s1 s2 w. which_same (nat_le d i) (passed i 0 d s) (New d s x) (Old d s x) (passed_first i d s s1) w) h) in
            record {
              after = with_shards C (before i M) (whole (suc i)) o _ (λ d s x d1 d2 s1 s2 w. which_same (passed i M d s) (nat_le d (suc i)) (New d s x) (Old d s x) (passed_last i d s M s2) w) z.after;
              sends = z.sends;
              prints = z.prints ∙ none_each M;
              lasts = z.lasts;
            }
