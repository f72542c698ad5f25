-- Shards at rest, and a batch of asks and one of cancels among them.
use Rattle.std.proofs.Common.{◌≡◌, ℕ, suc, ◌*◌, ◌≤◌, List, [], ◌∷◌, refl, sym, ap, ◌∙◌, subst, arith, Bool, true, false, cond, Some, None, ◌⊎◌, inl, inr, ⊎_elim}
use Rattle.std.specs.Prelude.{slice_get, slice_set, if◌then◌else◌, nat_le, filter, length}
use Rattle.std.proofs.lemmas.Bool.{le-leb}
use Rattle.std.proofs.lemmas.List.{append-nil}
use Rattle.std.specs.Ordering.{nat_cmp, match_ordering}
use Rattle.std.specs.declared.cmp.Ordering.{Ordering}
use Rattle.std.specs.declared.cmp.Ordering.TheVariants.{Less, Equal, Greater}
use Rattle.rc_ids.specs.Tables.{In, found, added}
use Rattle.rc_ids.specs.Cluster.{Layout, is_dc, is_shard, shard_of}
use Rattle.rc_ids.specs.declared.names.Party.{Party}
use Rattle.rc_msg.specs.declared.msg.Msg.{Msg}
use Rattle.rc_msg.specs.declared.msg.Msg.TheVariants.{ReadAsk, ReadCancel, Granted}
use Rattle.rc_msg.specs.declared.msg.Envelope.{Envelope}
use Rattle.rc_record.specs.ShardState.{version_at, value_at}
use Rattle.rc_protocol.specs.Messages.{client_of, shard_server}
use Rattle.rc_serial.specs.OneMap.{Map}
use Rattle.rc_protocol.specs.Shard.{ShardAct, shard_row, on_read_ask, on_read_cancel, locks_plain, grant_of, shard_says, mark_cmp, Mark, is_other}
use Rattle.rc_protocol.specs.Nodes.{ShardNode, shard_index, shard_after}
use Rattle.rc_runs.specs.Refusals.{worn_out}
use Rattle.rc_runs.specs.World.{Parties, Deed, ByShard, parties_after, shard_at, with_shard, sends_of, lines_of, envelopes}
use Rattle.rc_calm_batches.proofs.Passes.{deed_of, Turned, Turns, each}
use Rattle.rc_calm_batches.proofs.Sizes.{log_bytes, most_frame}
use Rattle.rc_calm_batches.proofs.Indices.{get_set_same, get_set_other, index_same, compare}
use Rattle.rc_calm_batches.proofs.Batches.{loop}

-- SHARDS BY DATACENTRE AND NUMBER
abbrev pub Shards : (ℕ → ℕ → ShardNode → Type 0) → Parties → Type 0
Shards S p = (d r : ℕ) → 1 ≤ d → d ≤ p.layout.dcs → 1 ≤ r → r ≤ p.layout.shards → (x : ShardNode) × (shard_at p d r ≡ Some x) × S d r x

pub inside : (c : Layout) (r : ℕ) → 1 ≤ r → r ≤ c.shards → is_shard c r ≡ true
inside c r a b = let x = le-leb 1 r a in let y = le-leb r c.shards b in grind (arith, x, y)

pub is_a_dc : (c : Layout) (d : ℕ) → 1 ≤ d → d ≤ c.dcs → is_dc c d ≡ true
is_a_dc c d h i = let a = le-leb 1 d h in let e = le-leb d c.dcs i in grind (arith, a, e)

pub shard_is : (p : Parties) (d r : ℕ) → 1 ≤ d → d ≤ p.layout.dcs → 1 ≤ r → r ≤ p.layout.shards → shard_at p d r ≡ slice_get p.shards (shard_index p.layout d r)
shard_is p d r d1 d2 a b = let e = is_a_dc p.layout d d1 d2 in let i = inside p.layout r a b in rw (e, i)

pub same_or_not : (a b : ℕ) → (a ≡ b) ⊎ (a ≡ b → ⊥)
same_or_not a b = ⊎_elim (λ h. inr (λ e. omega (arith, h, e))) (λ k. ⊎_elim (λ e. inl e) (λ h. inr (λ e. omega (arith, h, e))) k) (compare a b)

pub shards_set : (S S' : ℕ → ℕ → ShardNode → Type 0) (p : Parties) (d r : ℕ) (x : ShardNode) → 1 ≤ d → d ≤ p.layout.dcs → 1 ≤ r → r ≤ p.layout.shards → Shards S p → S' d r x
    → ((e q : ℕ) (y : ShardNode) → ((d ≡ e) × (r ≡ q) → ⊥) → S e q y → S' e q y) → Shards S' (with_shard p d r x)
shards_set S S' p d r x d1 d2 r1 r2 all new old e q e1 e2 q1 q2 = ⊎_elim same (λ n. other (λ h. n h.0)) (same_or_not d e)
  where
    there : slice_get p.shards (shard_index p.layout d r) ≡ Some (all d r d1 d2 r1 r2).0
    there = sym (shard_is p d r d1 d2 r1 r2) ∙ (all d r d1 d2 r1 r2).1

    now : shard_at (with_shard p d r x) e q ≡ slice_get (slice_set p.shards (shard_index p.layout d r) x) (shard_index p.layout e q)
    now = let a = is_a_dc p.layout e e1 e2 in let i = inside p.layout q q1 q2 in rw (a, i)

    other : ((d ≡ e) × (r ≡ q) → ⊥) → (y : ShardNode) × (shard_at (with_shard p d r x) e q ≡ Some y) × S' e q y
    other n =
        let y = all e q e1 e2 q1 q2 in
        let apart : shard_index p.layout d r ≡ shard_index p.layout e q → ⊥ = λ h. n (index_same p.layout d e r q d1 e1 r1 r2 q1 q2 h) in
        (y.0, now ∙ (get_set_other p.shards (shard_index p.layout d r) (shard_index p.layout e q) x apart ∙ (sym (shard_is p e q e1 e2 q1 q2) ∙ y.1)), old e q y.0 n y.2)

    same : d ≡ e → (y : ShardNode) × (shard_at (with_shard p d r x) e q ≡ Some y) × S' e q y
    same h = ⊎_elim
        (λ k. (x, now ∙ (ap (slice_get (slice_set p.shards (shard_index p.layout d r) x)) (ap (λ (z : ℕ). shard_index p.layout z q) (sym h) ∙ ap (λ (z : ℕ). shard_index p.layout d z) (sym k)) ∙ get_set_same p.shards (shard_index p.layout d r) (all d r d1 d2 r1 r2).0 x there), subst (λ (z : ℕ). S' z q x) h (subst (λ (z : ℕ). S' d z x) k new)))
        (λ n. other (λ z. n z.1)) (same_or_not r q)

-- AT REST
-- the map m, who is over, and of the transaction at hand the keys that were read. What it locked it read, so a shard that it does not touch has no mark
pub record AtRest (c : Layout) (m : Map) (over : List ℕ) (t : ℕ) (keys : List (List ℕ)) (s : ℕ) (x : ShardNode) : Type 0 where
  pub up : x.up ≡ true
  pub parts : x.durable.parts ≡ []
  pub version : (k : List ℕ) → shard_of c k ≡ s → version_at x.durable.rows k ≡ version_at m k
  pub value : (k : List ℕ) → shard_of c k ≡ s → value_at x.durable.rows k ≡ value_at m k
  pub finished : (u : ℕ) → (In u over → ⊥) → found nat_cmp x.durable.finished u ≡ None
  pub lost : x.volatile.lost ≡ []
  pub waiting : x.volatile.waiting ≡ []
  pub plain : (n : Mark) → In n x.volatile.plain → (n.1 ≡ t) × In n.0 keys × (shard_of c n.0 ≡ s)
  pub bytes : log_bytes x.log ≤ most_frame * (2 * length over)

-- all but the shards is as in p
pub record Beside (p q : Parties) : Type 0 where
  pub layout : q.layout ≡ p.layout
  pub start : q.start ≡ p.start
  pub coords : q.coords ≡ p.coords
  pub clients : q.clients ≡ p.clients
  pub committed : q.committed ≡ p.committed

in_added : (n m : Mark) (ms : List Mark) → In n (added mark_cmp ms m) → (m ≡ n) ⊎ In n ms
in_added n m [] h = h
in_added n m (x ∷ ms) h = go (mark_cmp m x) (in_added n m ms) h
  where
    go : (o : Ordering) → (In n (added mark_cmp ms m) → (m ≡ n) ⊎ In n ms) → In n (match_ordering o (m ∷ x ∷ ms) (x ∷ ms) (x ∷ added mark_cmp ms m)) → (m ≡ n) ⊎ In n (x ∷ ms)
    go Less more i = i
    go Equal more i = inr i
    go Greater more (inl e) = inr (inl e)
    go Greater more (inr i) = ⊎_elim (λ e. inl e) (λ j. inr (inr j)) (more i)

pub in_filter : {A : Type 0} (f : A → Bool) (x : A) (xs : List A) → In x (filter f xs) → In x xs
in_filter f x [] h = h
in_filter f x (y ∷ xs) h = go (f y) (in_filter f x xs) h
  where
    go : (b : Bool) → (In x (filter f xs) → In x xs) → In x (cond b (y ∷ filter f xs) (filter f xs)) → In x (y ∷ xs)
    go true more (inl e) = inl e
    go true more (inr i) = inr (more i)
    go false more i = inr (more i)

-- AN ASK of the transaction at hand, and a cancel
module _ (c : Layout) (m : Map) (over : List ℕ) (t : ℕ) (keys : List (List ℕ)) (k : List ℕ) (d : ℕ) (x : ShardNode) (r : AtRest c m over t keys (shard_of c k) x) where
  abbrev pub asked : ShardAct
  asked = on_read_ask d x.durable x.volatile t k

  pub ask_is : (In t over → ⊥) → asked ≡ shard_says (locks_plain x.volatile (k, t)) (grant_of d x.durable.rows (k, t) ∷ [])
  ask_is fresh = let f = r.finished t fresh in let p = r.parts in let l = r.lost in grind (arith, f, p, l)

  pub granted_is : grant_of d x.durable.rows (k, t) ≡ (client_of t, Granted t k d (version_at m k) (value_at m k))
  granted_is = let v = r.version k refl in let y = r.value k refl in rw (v, y)

  pub ask_rests : In k keys → AtRest c m over t keys (shard_of c k) (shard_after x (shard_says (locks_plain x.volatile (k, t)) (grant_of d x.durable.rows (k, t) ∷ [])))
  ask_rests read = record {
    up = r.up;
    parts = r.parts;
    version = r.version;
    value = r.value;
    finished = r.finished;
    lost = r.lost;
    waiting = r.waiting;
    bytes = r.bytes;
    plain = λ n i. ⊎_elim (λ (e : (k, t) ≡ n). subst (λ (z : Mark). (z.1 ≡ t) × In z.0 keys × (shard_of c z.0 ≡ shard_of c k)) e (refl, read, refl)) (λ j. r.plain n j) (in_added n (k, t) x.volatile.plain i);
  }

  pub cancel_rests : AtRest c m over t keys (shard_of c k) (shard_after x (on_read_cancel x.volatile t k))
  cancel_rests = record {
    up = r.up;
    parts = r.parts;
    version = r.version;
    value = r.value;
    finished = r.finished;
    lost = r.lost;
    waiting = let w = r.waiting in rw w;
    bytes = r.bytes;
    plain = λ n i. r.plain n (in_filter (is_other (k, t)) n x.volatile.plain i);
  }

-- THE BATCHES. All but the shards is as in b
pub record Rests (b : Parties) (m : Map) (over : List ℕ) (t : ℕ) (keys : List (List ℕ)) (p : Parties) : Type 0 where
  pub beside : Beside b p
  pub shards : Shards (λ d s x. AtRest b.layout m over t keys s x) p

module _ (b : Parties) (m : Map) (over : List ℕ) (t : ℕ) (keys : List (List ℕ)) (k : List ℕ) (fresh : In t over → ⊥) (read : In k keys) (s1 : 1 ≤ shard_of b.layout k) (s2 : shard_of b.layout k ≤ b.layout.shards) where
  abbrev pub to_shard : ℕ → Msg → Envelope
  to_shard d msg = record { from = client_of t; to = shard_server d (shard_of b.layout k); msg = msg }

  abbrev pub grant : ℕ → Envelope
  grant d = record { from = shard_server d (shard_of b.layout k); to = client_of t; msg = Granted t k d (version_at m k) (value_at m k) }

  -- the one shard acts
  turn : (d : ℕ) (msg : Msg) (p : Parties) → 1 ≤ d → d ≤ b.layout.dcs → Rests b m over t keys p
      → ((x : ShardNode) → AtRest b.layout m over t keys (shard_of b.layout k) x
      → AtRest b.layout m over t keys (shard_of b.layout k) (shard_after x (shard_row p.layout d (shard_of b.layout k) x.durable x.volatile msg)))
      → (x : ShardNode) × AtRest b.layout m over t keys (shard_of b.layout k) x
      × (deed_of p (to_shard d msg) ≡ ByShard d (shard_of b.layout k) x (shard_row p.layout d (shard_of b.layout k) x.durable x.volatile msg))
      × Rests b m over t keys (with_shard p d (shard_of b.layout k) (shard_after x (shard_row p.layout d (shard_of b.layout k) x.durable x.volatile msg)))
  turn d msg p d1 d2 h row =
      let l = h.beside.layout in
      let d3 : d ≤ p.layout.dcs = subst (λ (z : Layout). d ≤ z.dcs) (sym l) d2 in
      let s3 : shard_of b.layout k ≤ p.layout.shards = subst (λ (z : Layout). shard_of b.layout k ≤ z.shards) (sym l) s2 in
      let z = h.shards d (shard_of b.layout k) d1 d3 s1 s3 in
      let at = z.1 in
      let up = z.2.up in (
        z.0,
        z.2,
        rw (at, up),
        record {
          beside = record { layout = l; start = h.beside.start; coords = h.beside.coords; clients = h.beside.clients; committed = h.beside.committed };
          shards = shards_set (λ e s x. AtRest b.layout m over t keys s x) (λ e s x. AtRest b.layout m over t keys s x) p d (shard_of b.layout k) _ d1 d3 s1 s3 h.shards (row z.0 z.2) (λ e q y n r. r);
        },
      )

  -- a batch of one message to each datacentre
  one_turn : (d : ℕ) (msg : Msg) (out : List Envelope) (p : Parties) → 1 ≤ d → d ≤ b.layout.dcs → Rests b m over t keys p
      → ((x : ShardNode) → AtRest b.layout m over t keys (shard_of b.layout k) x
      → AtRest b.layout m over t keys (shard_of b.layout k) (shard_after x (shard_row p.layout d (shard_of b.layout k) x.durable x.volatile msg)))
      → ((x : ShardNode) → AtRest b.layout m over t keys (shard_of b.layout k) x
      → envelopes (shard_server d (shard_of b.layout k)) (shard_row p.layout d (shard_of b.layout k) x.durable x.volatile msg).sends ≡ out)
      → Turned (Rests b m over t keys) (to_shard d msg ∷ []) out [] p
  one_turn d msg out p d1 d2 h row says =
      let z = turn d msg p d1 d2 h row in
      let e = z.2 in
      let from : Party = shard_server d (shard_of b.layout k) in
      record {
        after = subst (λ (y : Deed). Rests b m over t keys (parties_after p y)) (sym e) z.3;
        sends = append-nil (envelopes from (sends_of (deed_of p (to_shard d msg)))) ∙ (ap (λ (y : Deed). envelopes from (sends_of y)) e ∙ says z.0 z.1);
        prints = append-nil (lines_of (deed_of p (to_shard d msg))) ∙ ap lines_of e;
        lasts = (ap worn_out e, tt);
      }

  pub asks_turn : (n : ℕ) → n ≤ b.layout.dcs
      → Turns (Rests b m over t keys) (each n (λ d. to_shard d (ReadAsk t k) ∷ [])) (Rests b m over t keys) (each n (λ d. grant d ∷ [])) (each n (λ d. []))
  asks_turn =
      loop b.layout.dcs (λ i. Rests b m over t keys) (λ d. to_shard d (ReadAsk t k) ∷ []) (λ d. grant d ∷ []) (λ d. [])
      (λ i le p h. one_turn (suc i) (ReadAsk t k) (grant (suc i) ∷ []) p (omega arith) le h
      (λ x r. subst (λ (a : ShardAct). AtRest b.layout m over t keys (shard_of b.layout k) (shard_after x a)) (sym (ask_is b.layout m over t keys k (suc i) x r fresh)) (ask_rests b.layout m over t keys k (suc i) x r read))
      (λ x r. ap (λ (a : ShardAct). envelopes (shard_server (suc i) (shard_of b.layout k)) a.sends) (ask_is b.layout m over t keys k (suc i) x r fresh)
      ∙ ap (λ (g : Party × Msg). envelopes (shard_server (suc i) (shard_of b.layout k)) (g ∷ [])) (granted_is b.layout m over t keys k (suc i) x r)))

  -- cancels to the datacentres behind q
  pub cancels_turn : (q n : ℕ) → n ≤ b.layout.dcs
      → Turns (Rests b m over t keys) (each n (λ d. if nat_le d q then [] else to_shard d (ReadCancel t k) ∷ [])) (Rests b m over t keys) (each n (λ d. [])) (each n (λ d. []))
  cancels_turn q = loop b.layout.dcs (λ i. Rests b m over t keys) (λ d. if nat_le d q then [] else to_shard d (ReadCancel t k) ∷ []) (λ d. []) (λ d. []) (λ i le p h. by i le p h (nat_le (suc i) q))
    where
      by : (i : ℕ) → suc i ≤ b.layout.dcs → (p : Parties) → Rests b m over t keys p → (early : Bool) → Turned (Rests b m over t keys) (if early then [] else to_shard (suc i) (ReadCancel t k) ∷ []) [] [] p
      by i le p h true = record { after = h; sends = refl; prints = refl; lasts = tt }
      by i le p h false = one_turn (suc i) (ReadCancel t k) [] p (omega arith) le h (λ x r. cancel_rests b.layout m over t keys k (suc i) x r) (λ x r. refl)
