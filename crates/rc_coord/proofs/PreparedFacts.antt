-- A shard's answer, from the gather that waits for it.
use Rattle.std.proofs.Common.{◌≡◌, ℕ, suc, ◌+◌, ◌≤◌, ◌==◌, nat_lt, IsTrue, Bool, true, false, cond, not, ◌&&◌, ◌||◌, if◌then◌else◌, List, [], ◌∷◌, length, Option, Some, None, is_some, refl, sym, ap, ◌∙◌, arith}
use Rattle.std.specs.Ordering.{nat_cmp, is_lt}
use Rattle.std.specs.Option.{option_map}
use Rattle.rc_ids.specs.Tables.{found, maybe, member}
use Rattle.rc_ids.specs.Texts.{key_cmp}
use Rattle.rc_ids.specs.Cluster.{Layout, IsLayout, is_shard, shard_of, shard_from}
use Rattle.rc_ids.proofs.LayoutFacts.{splits_count}
use Rattle.rc_body.specs.Bodies.{touches}
use Rattle.rc_body.specs.declared.entry.Entry.{Entry}
use Rattle.rc_body.specs.declared.decision.Decision.{Decision}
use Rattle.rc_body.specs.declared.reason.Reason.TheVariants.{Promised as PromisedHigher}
use Rattle.rc_ids.specs.declared.names.Party.{Party}
use Rattle.rc_msg.specs.declared.msg.Msg.TheVariants.{Refused}
use Rattle.rc_msg.specs.Outboxes.{Outbox}
use Rattle.rc_msg.specs.Posts.{posted_all}
use Rattle.rc_protocol.specs.Messages.{one}
use Rattle.rc_protocol.specs.Coordinator.{GatherState, CoordDurable, CoordVolatile, outcome_of, waiting_gather, has_all, with_yes, proposer, refuses}
use Rattle.rc_vote.specs.Gathers.{ShardGather, by_shards, after_answer, is_complete}
use Rattle.rc_vote.proofs.GatherFacts.{is_gather}
use Rattle.rc_coord.proofs.GatherRows.{IsWaiting, Waits, waits-from, answer-is, is_waiting}

-- SHARDS OF THE WORLD
shard_range : (ps : List (List ℕ)) (k : List ℕ) → (1 ≤ shard_from ps k) × (shard_from ps k ≤ suc (length ps))
shard_range [] k = (omega arith, omega arith)
shard_range (p ∷ ps) k = by (is_lt (key_cmp k p)) (shard_range ps k)
  where
    by : (b : Bool) → (1 ≤ shard_from ps k) × (shard_from ps k ≤ suc (length ps))
        → (1 ≤ cond b 0 1 + shard_from ps k) × (cond b 0 1 + shard_from ps k ≤ suc (suc (length ps)))
    by true r = (omega (arith, r.0), omega (arith, r.1))
    by false r = (omega (arith, r.0), omega (arith, r.1))

of_world : (c : Layout) (s : ℕ) (k : List ℕ) → IsLayout c → (shard_of c k == s) ≡ true → is_shard c s ≡ true
of_world c s k layout is =
    let r = shard_range c.splits k in
    let n = (splits_count c layout).0 in
    let low : 1 ≤ shard_of c k = r.0 in
    let high : shard_of c k ≤ c.shards = omega (arith, r.1, n) in
    grind arith

-- no body touches another
pub untouched : (c : Layout) (body : List Entry) (s : ℕ) → IsLayout c → is_shard c s ≡ false → touches c body s ≡ false
untouched c [] s layout out = refl
untouched c (e ∷ es) s layout out = by (shard_of c e.key == s) refl (untouched c es s layout out)
  where
    by : (b : Bool) → (shard_of c e.key == s) ≡ b → touches c es s ≡ false → (b || touches c es s) ≡ false
    by true is rest = sym (of_world c s e.key layout is) ∙ out
    by false is rest = rest

pub waits-outside : (c : Layout) (s : CoordDurable) (v : CoordVolatile) (t sh : ℕ) → IsLayout c → is_shard c sh ≡ false
    → None ≡ option_map (by_shards c) (waiting_gather c s v t sh)
waits-outside c s v t sh layout out = by (outcome_of s.outcomes t) (found nat_cmp v.gathers t)
  where
    waits : (g : GatherState) (b : Bool) → b ≡ false → None ≡ option_map (by_shards c) (if b && not (member nat_cmp g.yes sh) then Some g else None)
    waits g true e = absurd cc
    waits g false e = refl

    by : (o : Option Decision) (f : Option GatherState)
        → None ≡ option_map (by_shards c) (maybe o (maybe f None (λ (g : GatherState). if touches c g.body sh && not (member nat_cmp g.yes sh) then Some g else None)) (λ _. None))
    by (Some o) f = refl
    by None None = refl
    by None (Some g) = waits g (touches c g.body sh) (untouched c g.body sh layout out)

-- A YES
-- the gather before and after the yes of a shard for which it waits, and that of the rows
pub record TakesYes (c : Layout) (d : ℕ) (s : CoordDurable) (v : CoordVolatile) (t sh : ℕ) (x y : ShardGather) : Type 0 where
  pub gather : GatherState
  pub waiting : IsWaiting c d s v t sh gather
  pub after : y ≡ by_shards c (with_yes gather sh)

pub takes-yes : (c : Layout) (d : ℕ) (s : CoordDurable) (v : CoordVolatile) (t sh : ℕ) (x y : ShardGather) → IsTrue (is_shard c sh)
    → option_map (by_shards c) (waiting_gather c s v t sh) ≡ Some x → y ≡ after_answer x sh true → TakesYes c d s v t sh x y
takes-yes c d s v t sh x y world waits is =
    let w : Waits c d s v t sh x = waits-from c d s v t sh x waits in record {
      gather = w.gather;
      waiting = w.waiting;
      after = answer-is c d s v t sh w.gather x y world w.waiting w.same is;
    }

pub all-is : (c : Layout) (g : GatherState) (y : ShardGather) (b : Bool) → y ≡ by_shards c g → is_complete y ≡ b → has_all c g ≡ b
all-is c g y b same is = (is_gather c).all g ∙ ap is_complete (sym same) ∙ is

-- its ballot and the promise, compared
pub low-is : (a n b m : ℕ) (x : Bool) → a ≡ n → b ≡ m → is_lt (nat_cmp a b) ≡ x → nat_lt n m ≡ x
low-is a n b m x first second is = sym (ap (λ (k : ℕ). nat_lt k b) first ∙ ap (nat_lt n) second) ∙ by x is
  where
    by : (x : Bool) → is_lt (nat_cmp a b) ≡ x → nat_lt a b ≡ x
    by true e = grind arith
    by false e = grind arith

-- what is posted where a higher ballot was promised
pub refused-is : (c : Layout) (d : ℕ) (v : CoordVolatile) (t a b p promise : ℕ) (to : Party) (old new : Outbox) → a ≡ b → p ≡ promise → to ≡ proposer c t a
    → new ≡ posted_all old (one to (Refused t a d (PromisedHigher p))) → new ≡ posted_all old (refuses c d v t b (PromisedHigher promise)).sends
refused-is c d v t a b p promise to old new ballot promised to_is is =
    is ∙ ap (λ (x : Party). posted_all old (one x (Refused t a d (PromisedHigher p)))) to_is
    ∙ ap (λ (n : ℕ). posted_all old (one (proposer c t n) (Refused t n d (PromisedHigher p)))) ballot
    ∙ ap (λ (n : ℕ). posted_all old (one (proposer c t b) (Refused t b d (PromisedHigher n)))) promised

-- what waits is not ignored
pub waits-clash : (c : Layout) (d : ℕ) (s : CoordDurable) (v : CoordVolatile) (t sh : ℕ) (x : ShardGather) → Some x ≡ option_map (by_shards c) (waiting_gather c s v t sh)
    → is_some (waiting_gather c s v t sh) ≡ false → ⊥
waits-clash c d s v t sh x waits ignored =
    let is : is_some (waiting_gather c s v t sh) ≡ true = is_waiting c d s v t sh x (waits-from c d s v t sh x (sym waits)) in cc
