-- A read by a line of a script: 3N - q deliveries, one line, and all is at rest with the read complete.
use Rattle.std.proofs.Common.{◌≡◌, ℕ, zero, suc, ◌+◌, ◌-◌, ◌*◌, ◌≤◌, ◌<◌, List, [], ◌∷◌, ◌++◌, refl, sym, ap, ◌∙◌, subst, arith, Bool, true, false, Some, ⊎_elim}
use Rattle.std.specs.Prelude.{if◌then◌else◌, nat_le, ◌==◌, ◌||◌, length}
use Rattle.std.proofs.lemmas.Bool.{le-leb, lt-leb, leb-true, leb-false, eq-eqb, ne_eqb}
use Rattle.std.proofs.lemmas.List.{append-nil}
use Rattle.std.specs.List.{list_any}
use Rattle.std.specs.Ordering.{nat_cmp}
use Rattle.std.specs.BTreeMap.{is_at}
use Rattle.std.specs.Cmp.{nat_cmp_is}
use Rattle.std.specs.declared.cmp.Ordering.TheVariants.{Equal, Greater}
use Rattle.rc_ids.specs.Tables.{In, found, member, up_to}
use Rattle.rc_ids.specs.Cluster.{shard_of}
use Rattle.rc_ids.specs.declared.names.Party.{Party}
use Rattle.rc_msg.specs.declared.msg.Msg.TheVariants.{Granted, ReadAsk, ReadCancel}
use Rattle.rc_msg.specs.declared.msg.Envelope.{Envelope}
use Rattle.rc_report.specs.declared.line.Line.{Line}
use Rattle.rc_report.specs.declared.line.Line.TheVariants.{Read as ReadLine}
use Rattle.rc_record.specs.ShardState.{version_at, value_at}
use Rattle.rc_protocol.specs.Messages.{Posts, client_of, shard_server, to_each, one}
use Rattle.rc_serial.specs.OneMap.{Map}
use Rattle.rc_protocol.specs.Client.{Client, Slot, slot_of, reads_on, is_committing, asks, cancels, cancel_to, granted_by}
use Rattle.rc_runs.specs.World.{Parties, with_client, envelopes}
use Rattle.rc_calm_batches.proofs.Passes.{after_all, Drains, Empty, Turned, Turns, each}
use Rattle.rc_calm_batches.proofs.Batches.{batches_drain}
use Rattle.rc_calm_batches.proofs.Stages.{asks_turn, cancels_turn}
use Rattle.rc_calm_batches.proofs.Grants.{grants, granted_up}
use Rattle.rc_calm_batches.proofs.Reading.{reading, finished}
use Rattle.rc_calm_batches.proofs.ReadTurns.{With, grants_turn, taken, cancelled}
use Rattle.rc_calm_batches.proofs.Quorums.{IsLeast}
use Rattle.rc_calm_batches.proofs.Indices.{compare}

-- LOOPS
pub env_both : (from : Party) (a b : Posts) → envelopes from (a ++ b) ≡ envelopes from a ++ envelopes from b
env_both from [] b = refl
env_both from (x ∷ a) b = let e : Envelope = record { from = from; to = x.0; msg = x.1 } in ap (λ (z : List Envelope). e ∷ z) (env_both from a b)

pub env_each : (from : Party) (n : ℕ) (f : ℕ → Posts) → envelopes from (to_each n f) ≡ each n (λ d. envelopes from (f d))
env_each from zero f = refl
env_each from (suc n) f = env_both from (to_each n f) (f (suc n)) ∙ ap (λ (z : List Envelope). z ++ envelopes from (f (suc n))) (env_each from n f)

pub same_each : {A : Type 0} (n : ℕ) (f g : ℕ → List A) → ((d : ℕ) → 1 ≤ d → f d ≡ g d) → each n f ≡ each n g
same_each zero f g h = refl
same_each (suc n) f g h = ap (λ z. z ++ f (suc n)) (same_each n f g h) ∙ ap (λ z. each n g ++ z) (h (suc n) (omega arith))

pub none_each : {A : Type 0} (n : ℕ) → each {A = A} n (λ d. []) ≡ []
none_each zero = refl
none_each (suc n) = append-nil _ ∙ none_each n

-- one of them alone says anything
module _ {A : Type 0} (q : ℕ) (f : ℕ → List A) where
  abbrev only : ℕ → List A
  only d = if d == q then f d else []

  few : (n : ℕ) → n < q → each n only ≡ []
  few zero h = refl
  few (suc n) h = let e : (suc n == q) ≡ false = ne_eqb (suc n) q (λ k. omega (arith, h, k)) in let more = few n (omega (arith, h)) in rw (e, more)

  pub one_each : (n : ℕ) → 1 ≤ q → q ≤ n → each n only ≡ f q
  one_each zero a b = absurd (omega (arith, a, b))
  one_each (suc n) a b = ⊎_elim
      (λ (h : suc n < q). absurd (omega (arith, h, b)))
      (λ z. ⊎_elim (λ (h : suc n ≡ q). let e : (suc n == q) ≡ true = eq-eqb (suc n) q h in let none = few n (omega (arith, h)) in let is : f (suc n) ≡ f q = ap f h in rw (e, none, is))
      (λ (h : q < suc n). let e : (suc n == q) ≡ false = ne_eqb (suc n) q (λ k. omega (arith, h, k)) in let more = one_each n a (omega (arith, h)) in rw e (append-nil (each n only) ∙ more)) z) (compare (suc n) q)

pub length_both : {A : Type 0} (a b : List A) → length (a ++ b) ≡ length a + length b
length_both [] b = omega arith
length_both (x ∷ a) b = let h = length_both a b in omega (arith, h)

pub length_ones : {A : Type 0} (n : ℕ) (f : ℕ → A) → length (each n (λ d. f d ∷ [])) ≡ n
length_ones zero f = refl
length_ones (suc n) f = let h = length_ones n f in let k = length_both (each n (λ d. f d ∷ [])) (f (suc n) ∷ []) in omega (arith, h, k)

pub length_rest : {A : Type 0} (q n : ℕ) (f : ℕ → A) → length (each n (λ d. if nat_le d q then [] else f d ∷ [])) ≡ n - q
length_rest q zero f = omega arith
length_rest {A = A} q (suc n) f = go (nat_le (suc n) q) refl (length_rest q n f)
  where
    go : (b : Bool) → nat_le (suc n) q ≡ b → length (each n (λ d. if nat_le d q then [] else f d ∷ [])) ≡ n - q → length (each n (λ d. if nat_le d q then [] else f d ∷ []) ++ (if b then [] else f (suc n) ∷ [])) ≡ suc n - q
    go true e h = let k = leb-true (suc n) q e in let x = length_both (each n (λ d. if nat_le d q then [] else f d ∷ [])) [] in omega (arith, k, h, x)
    go false e h = let k = leb-false (suc n) q e in let x = length_both (each n (λ d. if nat_le d q then [] else f d ∷ [])) (f (suc n) ∷ []) in omega (arith, k, h, x)

-- members of the first q
pub any_both : {A : Type 0} (f : A → Bool) (a b : List A) → list_any f (a ++ b) ≡ (list_any f a || list_any f b)
any_both f [] b = refl
any_both f (x ∷ a) b = go (f x) (any_both f a b)
  where
    go : (t : Bool) → list_any f (a ++ b) ≡ (list_any f a || list_any f b) → (t || list_any f (a ++ b)) ≡ ((t || list_any f a) || list_any f b)
    go true e = refl
    go false e = e

pub in_first : (q d : ℕ) → 1 ≤ d → member nat_cmp (up_to q) d ≡ nat_le d q
in_first zero d h = sym (lt-leb d 0 (omega (arith, h)))
in_first (suc q) d h =
    let both = any_both (λ k. is_at (nat_cmp d) k) (up_to q) (suc q ∷ []) in
    let more = in_first q d h in
    both ∙ ⊎_elim
    (λ (k : d < suc q). let a : nat_le d q ≡ true = le-leb d q (omega (arith, k)) in let e : nat_le d (suc q) ≡ true = le-leb d (suc q) (omega (arith, k)) in rw (more, a, e))
    (λ z. ⊎_elim
    (λ (k : d ≡ suc q). let a : nat_le d q ≡ false = lt-leb d q (omega (arith, k)) in let e : nat_le d (suc q) ≡ true = le-leb d (suc q) (omega (arith, k)) in let c : nat_cmp d (suc q) ≡ Equal = sym (nat_cmp_is d (suc q) Equal k) in rw (more, a, e, c))
    (λ (k : suc q < d). let a : nat_le d q ≡ false = lt-leb d q (omega (arith, k)) in let e : nat_le d (suc q) ≡ false = lt-leb d (suc q) (omega (arith, k)) in let c : nat_cmp d (suc q) ≡ Greater = sym (nat_cmp_is d (suc q) Greater k) in rw (more, a, e, c))
    z) (compare d (suc q))

-- A READ
module _ (b : Parties) (m : Map) (over : List ℕ) (t : ℕ) (keys : List (List ℕ)) (k : List ℕ) (fresh : In t over → ⊥) (read : In k keys)
    (s1 : 1 ≤ shard_of b.layout k) (s2 : shard_of b.layout k ≤ b.layout.shards)
    (x : Client) (there : found nat_cmp b.clients t ≡ Some x) (s : Slot) (at : slot_of x.slots k ≡ Some s) (key : s.key ≡ k)
    (on : reads_on x.phase ≡ true) (waits : is_committing x.phase ≡ false) (q : ℕ) (least : IsLeast b.layout 1 b.layout.dcs q) where
  abbrev pub line : Line
  line = ReadLine t s.key (version_at m k) (value_at m k)

  abbrev pub begun : Client
  begun = reading b.layout t x s k true (version_at m k) (value_at m k) at key on 0

  abbrev pub over_read : Client
  over_read = finished b.layout t x s k true (version_at m k) (value_at m k) at key on

  abbrev n : ℕ
  n = b.layout.dcs

  abbrev ask_to : ℕ → Envelope
  ask_to d = record { from = client_of t; to = shard_server d (shard_of b.layout k); msg = ReadAsk t k }

  asked : envelopes (client_of t) (asks b.layout t k) ≡ each n (λ d. ask_to d ∷ [])
  asked = env_each (client_of t) n (λ d. one (shard_server d (shard_of b.layout k)) (ReadAsk t k))

  abbrev cancel_of : ℕ → Envelope
  cancel_of d = record { from = client_of t; to = shard_server d (shard_of b.layout k); msg = ReadCancel t k }

  -- what the client says at the q-th grant
  told : each n (cancelled b m over t keys x there s k true at key on waits q least) ≡ each n (λ d. if nat_le d q then [] else cancel_of d ∷ [])
  told = one_each q (λ d. envelopes (client_of t) (cancels b.layout t s.key (grants (version_at m k) (value_at m k) d))) n least.low least.high
      ∙ (env_each (client_of t) n (cancel_to b.layout t s.key (granted_by (grants (version_at m k) (value_at m k) q)))
      ∙ same_each n _ _ (λ d h. by d h))
    where
      by : (d : ℕ) → 1 ≤ d → envelopes (client_of t) (cancel_to b.layout t s.key (granted_by (grants (version_at m k) (value_at m k) q)) d) ≡ (if nat_le d q then [] else record { from = client_of t; to = shard_server d (shard_of b.layout k); msg = ReadCancel t k } ∷ [])
      by d h = let g = granted_up (version_at m k) (value_at m k) q in let i = in_first q d h in go d (nat_le d q) (ap (λ (z : List ℕ). member nat_cmp z d) g ∙ i)
        where
          go : (d : ℕ) (v : Bool) → member nat_cmp (granted_by (grants (version_at m k) (value_at m k) q)) d ≡ v
              → envelopes (client_of t) (cancel_to b.layout t s.key (granted_by (grants (version_at m k) (value_at m k) q)) d) ≡ (if v then [] else record { from = client_of t; to = shard_server d (shard_of b.layout k); msg = ReadCancel t k } ∷ [])
          go d true e = rw e
          go d false e = rw (e, key)

  drain_one : (Q : Parties → Type 0) (p : Parties) (es out : List Envelope) (ls more : List Line) (r : Parties) (ds : List Envelope) → Turned Q es out ls p → Drains (after_all p es) out r more ds → Drains p es r (ls ++ more) (es ++ ds)
  drain_one Q p es out ls more r ds z d =
      subst (λ (w : List Line). Drains p es r (w ++ more) (es ++ ds)) z.prints
      (batches_drain p es r more ds z.lasts (subst (λ (w : List Envelope). Drains (after_all p es) w r more ds) (sym z.sends) d))

  abbrev W : Client → Parties → Type 0
  W = With b m over t keys x there

  abbrev grant_from : ℕ → Envelope
  grant_from d = record { from = shard_server d (shard_of b.layout k); to = client_of t; msg = Granted t k d (version_at m k) (value_at m k) }

  abbrev pub asks_all : List Envelope
  asks_all = each n (λ d. ask_to d ∷ [])

  abbrev pub grants_all : List Envelope
  grants_all = each n (λ d. grant_from d ∷ [])

  abbrev pub cancels_all : List Envelope
  cancels_all = each n (λ d. if nat_le d q then [] else cancel_of d ∷ [])

  abbrev pub delivered : List Envelope
  delivered = asks_all ++ (grants_all ++ (cancels_all ++ []))

  -- after the read's own event: these deliveries, this line, and all at rest
  pub record ReadDone (p : Parties) : Type 0 where
    pub after : Parties
    pub rests : With b m over t keys x there over_read after
    pub drains : Drains p (envelopes (client_of t) (asks b.layout t k)) after (line ∷ []) delivered
    pub count : length delivered ≡ 3 * b.layout.dcs - q

  delivered_count : length delivered ≡ 3 * b.layout.dcs - q
  delivered_count =
      let a = length_ones n ask_to in let g = length_ones n grant_from in let c = length_rest q n cancel_of in let hi = least.high in
      let l1 = length_both asks_all (grants_all ++ (cancels_all ++ [])) in let l2 = length_both grants_all (cancels_all ++ []) in let l3 = length_both {A = Envelope} cancels_all [] in
      omega (arith, a, g, c, hi, l1, l2, l3)

  first : Turns (W begun) asks_all (W begun) grants_all []
  first p h =
      let z = asks_turn (with_client b t begun) m over t keys k fresh read s1 s2 n (omega arith) p h in
      record { after = z.after; sends = z.sends; prints = z.prints ∙ none_each n; lasts = z.lasts }

  at_start : taken b m over t keys x there s k true at key on waits q least 0 ≡ begun
  at_start = let l = least.low in let e : nat_le q 0 ≡ false = lt-leb q 0 (omega (arith, l)) in rw e

  at_end : taken b m over t keys x there s k true at key on waits q least n ≡ over_read
  at_end = let e : nat_le q n ≡ true = le-leb q n least.high in rw e

  second : Turns (W begun) grants_all (W over_read) cancels_all (line ∷ [])
  second p h =
      let z = grants_turn b m over t keys x there s k true at key on waits q least p (subst (λ (c : Client). W c p) (sym at_start) h) in
      record { after = subst (λ (c : Client). W c (after_all p grants_all)) at_end z.after; sends = z.sends ∙ told; prints = z.prints ∙ one_each q (λ d. line ∷ []) n least.low least.high; lasts = z.lasts }

  third : Turns (W over_read) cancels_all (W over_read) [] []
  third p h =
      let z = cancels_turn (with_client b t over_read) m over t keys k fresh read s1 s2 q n (omega arith) p h in
      record { after = z.after; sends = z.sends ∙ none_each n; prints = z.prints ∙ none_each n; lasts = z.lasts }

  pub read_drains : (p : Parties) → W begun p → ReadDone p
  read_drains p h =
      let p1 = after_all p asks_all in
      let p2 = after_all p1 grants_all in
      let p3 = after_all p2 cancels_all in
      let z = first p h in
      let y = second p1 z.after in
      let v = third p2 y.after in
      let d3 = drain_one (W over_read) p2 cancels_all [] [] [] p3 [] v (Empty p3) in
      let d2 = drain_one (W over_read) p1 grants_all cancels_all (line ∷ []) [] p3 (cancels_all ++ []) y d3 in
      let d1 = drain_one (W begun) p asks_all grants_all [] (line ∷ []) p3 (grants_all ++ (cancels_all ++ [])) z d2 in
      record {
        after = p3;
        rests = v.after;
        drains = subst (λ (w : List Envelope). Drains p w p3 (line ∷ []) delivered) (sym asked) d1;
        count = delivered_count;
      }
