-- The rows of a proposal and of a shard's answer, by the gathers that are kept.
use Rattle.std.proofs.Common.{◌≡◌, ℕ, ◌≤◌, max, IsTrue, Bool, true, false, not, ◌&&◌, if◌then◌else◌, List, [], Option, Some, None, is_some, refl, sym, ap, ◌∙◌, arith}
use Rattle.std.specs.Ordering.{nat_cmp}
use Rattle.std.specs.Option.{option_map}
use Rattle.rc_ids.specs.Tables.{Table, found, put, maybe, member}
use Rattle.rc_ids.specs.Cluster.{Layout, is_shard}
use Rattle.rc_body.specs.Bodies.{touches, touched}
use Rattle.rc_body.specs.declared.entry.Entry.{Entry}
use Rattle.rc_body.specs.declared.decision.Decision.{Decision}
use Rattle.rc_body.specs.declared.decision.Decision.TheVariants.{Commit, Abort}
use Rattle.rc_body.specs.declared.reason.Reason.{Reason}
use Rattle.rc_protocol.specs.Coordinator.{GatherState, CoordDurable, CoordVolatile, outcome_of, waiting_gather, with_yes, said_yes, on_prepared, coord_stays, refuses}
use Rattle.rc_vote.specs.Gathers.{ShardGather, shard_gather, by_shards, waits_for, with_shard, after_answer, raised}
use Rattle.rc_vote.proofs.GatherFacts.{is_gather}
use Rattle.rc_coord_tables.specs.Maps.{mapped}
use Rattle.rc_coord_tables.specs.Gathers.{GatherTable, AreOf, answered, answered_in, asked_again, asked_at}
use Rattle.rc_coord_tables.proofs.MapFacts.{mapped-found, mapped-put}
use Rattle.rc_coord.specs.Rows.{gathered_at, commit_in}

-- which shards the body of a gather touches
abbrev asks : Layout → GatherState → List ℕ
asks c g = touched c g.body

-- a gather that is kept asks the shards of its body
pub asks-there : (c : Layout) (gathers : GatherTable) (t : ℕ) (g : GatherState) (shards : List ℕ) → AreOf c gathers → Some g ≡ found nat_cmp gathers.table t
    → Some shards ≡ found nat_cmp gathers.asked t → shards ≡ touched c g.body
asks-there c gathers t g shards fit there asked =
    let mapped_is : Some shards ≡ option_map (asks c) (Some g) =
    asked ∙ ap (λ (z : Table ℕ (List ℕ)). found nat_cmp z t) fit ∙ mapped-found (asks c) gathers.table t ∙ ap (option_map (asks c)) (sym there) in cc

-- gathers of a cluster stay so with one more
pub fits-put : (c : Layout) (t : ℕ) (g : GatherState) (shards : List ℕ) (old new : GatherTable) → AreOf c old → shards ≡ touched c g.body
    → new.table ≡ put nat_cmp old.table t g → new.asked ≡ put nat_cmp old.asked t shards → AreOf c new
fits-put c t g shards old new fit is table asked =
    asked ∙ ap (λ (z : Table ℕ (List ℕ)). put nat_cmp z t shards) fit ∙ ap (put nat_cmp (mapped (asks c) old.table) t) is
    ∙ sym (mapped-put (asks c) old.table t g) ∙ ap (mapped (asks c)) (sym table)

-- and with as many
pub fits-same : (c : Layout) (old new : GatherTable) → AreOf c old → new.table ≡ old.table → new.asked ≡ old.asked → AreOf c new
fits-same c old new fit table asked = asked ∙ fit ∙ ap (mapped (asks c)) (sym table)

-- A PROPOSAL
abbrev gathered_by : Option GatherState → ℕ → List Entry → GatherState
gathered_by f b body = maybe f (record { ballot = b; body = body; yes = [] }) (λ g. record g { ballot = max g.ballot b })

abbrev with_body : ShardGather → List Entry → GatherState
with_body g body = record { ballot = g.ballot; body = body; yes = g.yes }

at_first : (b : ℕ) → max 0 b ≡ b
at_first b = grind arith

pub first-is : (gathers : Table ℕ GatherState) (t b : ℕ) (c : Layout) (body : List Entry) (g : ShardGather) → None ≡ found nat_cmp gathers t
    → g ≡ raised (shard_gather (touched c body) 0 []) b → with_body g body ≡ gathered_at gathers t b body
first-is gathers t b c body g none is =
    ap (λ (x : ShardGather). with_body x body) is
    ∙ ap (λ (n : ℕ). let z : GatherState = record { ballot = n; body = body; yes = [] } in z) (at_first b)
    ∙ ap (λ (f : Option GatherState). gathered_by f b body) none

pub again-is : (gathers : Table ℕ GatherState) (t b : ℕ) (body : List Entry) (old : GatherState) (g x : ShardGather) → Some old ≡ found nat_cmp gathers t
    → with_body x old.body ≡ old → g ≡ raised x b → with_body g old.body ≡ gathered_at gathers t b body
again-is gathers t b body old g x there of is =
    ap (λ (y : ShardGather). with_body y old.body) is ∙ ap (λ (y : GatherState). let z : GatherState = record { ballot = max y.ballot b; body = old.body; yes = y.yes } in z) of
    ∙ ap (λ (f : Option GatherState). gathered_by f b body) there

pub ballot-above : (gathers : Table ℕ GatherState) (t b : ℕ) (body : List Entry) → b ≤ (gathered_at gathers t b body).ballot
ballot-above gathers t b body = at (found nat_cmp gathers t)
  where
    at : (f : Option GatherState) → b ≤ (gathered_by f b body).ballot
    at None = omega arith
    at (Some g) = omega arith

-- A SHARD'S ANSWER
module _ (c : Layout) (d : ℕ) (s : CoordDurable) (v : CoordVolatile) (t sh : ℕ) where
  abbrev waits_in : GatherState → Bool
  waits_in g = touches c g.body sh && not (member nat_cmp g.yes sh)

  abbrev waiting_at : Option Decision → Option GatherState → Option GatherState
  waiting_at o f = maybe o (maybe f None (λ g. if waits_in g then Some g else None)) (λ _. None)

  pub waits-decided : is_some (outcome_of s.outcomes t) ≡ true → None ≡ option_map (by_shards c) (waiting_gather c s v t sh)
  waits-decided decided = at (outcome_of s.outcomes t) decided
    where
      at : (o : Option Decision) → is_some o ≡ true → None ≡ option_map (by_shards c) (waiting_at o (found nat_cmp v.gathers t))
      at None e = absurd cc
      at (Some x) e = refl

  pub waits-none : outcome_of s.outcomes t ≡ None → None ≡ found nat_cmp v.gathers t → None ≡ option_map (by_shards c) (waiting_gather c s v t sh)
  waits-none none absent =
      ap (λ (f : Option GatherState). option_map (by_shards c) (waiting_at None f)) absent
      ∙ ap (λ (o : Option Decision). option_map (by_shards c) (waiting_at o (found nat_cmp v.gathers t))) (sym none)

  pub waits-there : (g : GatherState) (x : ShardGather) → IsTrue (is_shard c sh) → outcome_of s.outcomes t ≡ None → Some g ≡ found nat_cmp v.gathers t → x ≡ by_shards c g
      → (if waits_for x sh then Some x else None) ≡ option_map (by_shards c) (waiting_gather c s v t sh)
  waits-there g x world none there is =
      ap (λ (y : ShardGather). if waits_for y sh then Some y else None) is
      ∙ ap (λ (b : Bool). if b then Some (by_shards c g) else None) (sym ((is_gather c).waits g sh world)) ∙ at (waits_in g)
      ∙ ap (λ (f : Option GatherState). option_map (by_shards c) (waiting_at None f)) there
      ∙ ap (λ (o : Option Decision). option_map (by_shards c) (waiting_at o (found nat_cmp v.gathers t))) (sym none)
    where
      at : (b : Bool) → (if b then Some (by_shards c g) else None) ≡ option_map (by_shards c) (if b then Some g else None)
      at true = refl
      at false = refl

  -- this gather waits for the shard
  pub record IsWaiting (g : GatherState) : Type 0 where
    pub none : outcome_of s.outcomes t ≡ None
    pub there : found nat_cmp v.gathers t ≡ Some g
    pub test : waits_in g ≡ true

  pub record Waits (x : ShardGather) : Type 0 where
    pub gather : GatherState
    pub waiting : IsWaiting gather
    pub same : by_shards c gather ≡ x

  pub waits-from : (x : ShardGather) → option_map (by_shards c) (waiting_gather c s v t sh) ≡ Some x → Waits x
  waits-from x is = by (outcome_of s.outcomes t) (found nat_cmp v.gathers t) refl refl is
    where
      test : (g : GatherState) (b : Bool) → outcome_of s.outcomes t ≡ None → found nat_cmp v.gathers t ≡ Some g → waits_in g ≡ b
          → option_map (by_shards c) (if b then Some g else None) ≡ Some x → Waits x
      test g true none there at e = record { gather = g; waiting = record { none = none; there = there; test = at }; same = cc }
      test g false none there at e = absurd cc

      by : (o : Option Decision) (f : Option GatherState) → outcome_of s.outcomes t ≡ o → found nat_cmp v.gathers t ≡ f
          → option_map (by_shards c) (waiting_at o f) ≡ Some x → Waits x
      by (Some o) f none there e = absurd cc
      by None None none there e = absurd cc
      by None (Some g) none there e = test g (waits_in g) none there refl e

  -- then its row is that of the gather with this yes
  pub row-is : (g : GatherState) → IsWaiting g → on_prepared c d s v t sh None ≡ said_yes c d s v t (with_yes g sh)
  row-is g w =
      ap (λ (o : Option Decision). maybe (waiting_at o (found nat_cmp v.gathers t)) (coord_stays v) (λ x. said_yes c d s v t (with_yes x sh))) w.none
      ∙ ap (λ (f : Option GatherState). maybe (waiting_at None f) (coord_stays v) (λ x. said_yes c d s v t (with_yes x sh))) w.there
      ∙ ap (λ (b : Bool). maybe (if b then Some g else None) (coord_stays v) (λ x. said_yes c d s v t (with_yes x sh))) w.test

  waits_is : (g : GatherState) (x : ShardGather) → IsTrue (is_shard c sh) → IsWaiting g → by_shards c g ≡ x → waits_for x sh ≡ true
  waits_is g x world w same = ap (λ (y : ShardGather). waits_for y sh) (sym same) ∙ sym ((is_gather c).waits g sh world) ∙ w.test

  pub answer-is : (g : GatherState) (x y : ShardGather) → IsTrue (is_shard c sh) → IsWaiting g → by_shards c g ≡ x → y ≡ after_answer x sh true → y ≡ by_shards c (with_yes g sh)
  answer-is g x y world w same is =
      is ∙ ap (λ (b : Bool). if b && true then with_shard x sh else x) (waits_is g x world w same) ∙ ap (λ (z : ShardGather). with_shard z sh) (sym same)

  pub table-is : (g : GatherState) (gathers : GatherTable) → IsTrue (is_shard c sh) → IsWaiting g → AreOf c gathers → gathers.table ≡ v.gathers
      → answered_in gathers t sh ≡ put nat_cmp v.gathers t (with_yes g sh)
  table-is g gathers world w fit same =
      let there : found nat_cmp gathers.table t ≡ Some g = ap (λ (z : Table ℕ GatherState). found nat_cmp z t) same ∙ w.there in
      ap (λ (f : Option GatherState). maybe f gathers.table (λ x. put nat_cmp gathers.table t (answered (asked_at gathers.asked t) x sh))) there
      ∙ ap (λ (f : Option (List ℕ)). put nat_cmp gathers.table t (answered (maybe f [] (λ shards. shards)) g sh)) (asked_is gathers fit g there)
      ∙ ap (λ (b : Bool). put nat_cmp gathers.table t (if b then with_yes g sh else g)) (waits_is g (by_shards c g) world w refl)
      ∙ ap (λ (z : Table ℕ GatherState). put nat_cmp z t (with_yes g sh)) same
    where
      asked_is : (gathers : GatherTable) → AreOf c gathers → (g : GatherState) → found nat_cmp gathers.table t ≡ Some g → found nat_cmp gathers.asked t ≡ Some (touched c g.body)
      asked_is gathers fit g there =
          ap (λ (z : Table ℕ (List ℕ)). found nat_cmp z t) fit ∙ mapped-found (asks c) gathers.table t ∙ ap (option_map (asks c)) there

  pub fits-yes : (g : GatherState) (old new : GatherTable) → IsTrue (is_shard c sh) → IsWaiting g → AreOf c old → old.table ≡ v.gathers
      → new.table ≡ answered_in old t sh → new.asked ≡ asked_again old.asked t → AreOf c new
  fits-yes g old new world w fit same table asked =
      let there : found nat_cmp old.table t ≡ Some g = ap (λ (z : Table ℕ GatherState). found nat_cmp z t) same ∙ w.there in
      let asked_there : found nat_cmp old.asked t ≡ Some (touched c g.body) =
      ap (λ (z : Table ℕ (List ℕ)). found nat_cmp z t) fit ∙ mapped-found (asks c) old.table t ∙ ap (option_map (asks c)) there in
      fits-put c t (with_yes g sh) (touched c g.body) old new fit refl
      (table ∙ table-is g old world w fit same ∙ ap (λ (z : Table ℕ GatherState). put nat_cmp z t (with_yes g sh)) (sym same))
      (asked ∙ ap (λ (f : Option (List ℕ)). maybe f old.asked (λ x. put nat_cmp old.asked t x)) asked_there)

  pub commit-is : (g : GatherState) → IsWaiting g → commit_in v.gathers t ≡ Commit g.body
  commit-is g w = ap (λ (f : Option GatherState). maybe f Abort (λ x. Commit x.body)) w.there

  -- A NO, and an answer for which nothing waits
  none-from : None ≡ option_map (by_shards c) (waiting_gather c s v t sh) → waiting_gather c s v t sh ≡ None
  none-from is = at (waiting_gather c s v t sh) is
    where
      at : (o : Option GatherState) → None ≡ option_map (by_shards c) o → o ≡ None
      at None e = refl
      at (Some g) e = absurd cc

  pub row-ignored : (reason : Option Reason) → None ≡ option_map (by_shards c) (waiting_gather c s v t sh) → coord_stays v ≡ on_prepared c d s v t sh reason
  row-ignored None is = sym (ap (λ (o : Option GatherState). maybe o (coord_stays v) (λ x. said_yes c d s v t (with_yes x sh))) (none-from is))
  row-ignored (Some reason) is = sym (ap (λ (o : Option GatherState). maybe o (coord_stays v) (λ x. refuses c d v t x.ballot reason)) (none-from is))

  pub row-no : (g : GatherState) (b : ℕ) (reason : Reason) → IsWaiting g → b ≡ g.ballot → refuses c d v t b reason ≡ on_prepared c d s v t sh (Some reason)
  row-no g b reason w same =
      ap (λ (n : ℕ). refuses c d v t n reason) same
      ∙ sym (ap (λ (o : Option Decision). maybe (waiting_at o (found nat_cmp v.gathers t)) (coord_stays v) (λ x. refuses c d v t x.ballot reason)) w.none
      ∙ ap (λ (f : Option GatherState). maybe (waiting_at None f) (coord_stays v) (λ x. refuses c d v t x.ballot reason)) w.there
      ∙ ap (λ (b : Bool). maybe (if b then Some g else None) (coord_stays v) (λ x. refuses c d v t x.ballot reason)) w.test)

  -- what waits is there
  pub is_waiting : (x : ShardGather) → Waits x → is_some (waiting_gather c s v t sh) ≡ true
  is_waiting x w =
      ap (λ (o : Option Decision). is_some (waiting_at o (found nat_cmp v.gathers t))) w.waiting.none
      ∙ ap (λ (f : Option GatherState). is_some (waiting_at None f)) w.waiting.there
      ∙ ap (λ (b : Bool). is_some (if b then Some w.gather else None)) w.waiting.test
