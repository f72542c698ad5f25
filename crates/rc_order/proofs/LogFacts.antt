-- The votes of whole logs.
use Rattle.std.proofs.Common.{◌≡◌, ℕ, suc, ◌+◌, ◌-◌, ◌≤◌, Bool, true, false, ◌||◌, ◌&&◌, cond, List, [], ◌∷◌, ◌++◌, length, refl, sym, ap, ◌∙◌, arith, Option, Some, None, add-zero}
use Rattle.std.specs.Prelude.{slice_get, nat_le}
use Rattle.std.specs.Ordering.{nat_cmp, is_eq}
use Rattle.std.specs.List.{list_any}
use Rattle.std.proofs.lemmas.Option.{slice_get_within}
use Rattle.rc_ids.specs.Tables.{member, maybe}
use Rattle.rc_ids.specs.Cluster.{Layout, is_dc}
use Rattle.rc_ids.specs.declared.names.Outcome.TheVariants.{Commit as Committed}
use Rattle.rc_body.specs.declared.entry.Entry.{Entry}
use Rattle.rc_record.specs.declared.record.Record.{Record}
use Rattle.rc_protocol.specs.Nodes.{CoordNode, is_vote}
use Rattle.rc_runs.specs.Votes.{has_voted, ordered}
use Rattle.rc_runs.specs.Starts.{with_choices, all_choices}
use Rattle.rc_order.specs.Orders.{Race, same_race, Votes, Order, voters_at, with_vote, vote_of, with_record}
use Rattle.rc_order.specs.Counts.{AreCounted}
use Rattle.rc_order.specs.Logs.{with_log, with_logs, LogLaws}
use Rattle.rc_order.proofs.VoteFacts.{vote_is, counted_put}

-- ONE RECORD
no_vote : (q v m : Bool) → v ≡ false → m ≡ ((q && v) || m)
no_vote true true m none = absurd cc
no_vote true false m none = refl
no_vote false v m none = refl

one_vote : (p q v m : Bool) → v ≡ p → ((p && q) || m) ≡ ((q && v) || m)
one_vote true true true m is = refl
one_vote false true false m is = refl
one_vote true true false m is = absurd cc
one_vote false true true m is = absurd cc
one_vote true false v m is = refl
one_vote false false v m is = refl

record_member : (votes : Votes) (d : ℕ) (r : Record) (u a e : ℕ)
    → member nat_cmp (voters_at (with_record votes d r) u a) e
    ≡ ((is_eq (nat_cmp e d) && is_vote Committed u a r) || member nat_cmp (voters_at votes u a) e)
record_member votes d r u a e = go (vote_of r) refl
  where
    go : (v : Option Race) → vote_of r ≡ v
        → member nat_cmp (voters_at (maybe v votes (λ x. with_vote votes d x.0 x.1)) u a) e
        ≡ ((is_eq (nat_cmp e d) && is_vote Committed u a r) || member nat_cmp (voters_at votes u a) e)
    go None none = no_vote (is_eq (nat_cmp e d)) (is_vote Committed u a r) _ (vote_is r u a ∙ ap (λ (v : Option Race). maybe v false (λ x. same_race x (u, a))) none)
    go (Some x) some =
        counted_put votes d x.0 x.1 u a e
        ∙ one_vote (same_race x (u, a)) (is_eq (nat_cmp e d)) (is_vote Committed u a r) _ (vote_is r u a ∙ ap (λ (v : Option Race). maybe v false (λ y. same_race y (u, a))) some)

-- ONE LOG
nothing : (q m : Bool) → m ≡ ((q && false) || m)
nothing true m = refl
nothing false m = refl

also : (q v w m : Bool) → ((q && w) || ((q && v) || m)) ≡ ((q && (v || w)) || m)
also true true true m = refl
also true true false m = refl
also true false true m = refl
also true false false m = refl
also false v w m = refl

log_member : (votes : Votes) (d : ℕ) (log : List Record) (u a e : ℕ)
    → member nat_cmp (voters_at (with_log votes d log) u a) e
    ≡ ((is_eq (nat_cmp e d) && list_any (is_vote Committed u a) log) || member nat_cmp (voters_at votes u a) e)
log_member votes d [] u a e = nothing (is_eq (nat_cmp e d)) _
log_member votes d (r ∷ rs) u a e =
    log_member (with_record votes d r) d rs u a e
    ∙ ap (λ m. (is_eq (nat_cmp e d) && list_any (is_vote Committed u a) rs) || m) (record_member votes d r u a e)
    ∙ also (is_eq (nat_cmp e d)) (is_vote Committed u a r) (list_any (is_vote Committed u a) rs) _

-- ALL LOGS
none_there : (l m : Bool) → m ≡ (cond l false false || m)
none_there true m = refl
none_there false m = refl

-- d itself, one behind it, and one before it
at_it : (l1 s l first v here m : Bool) → l1 ≡ false → s ≡ true → l ≡ true → here ≡ v → (cond l1 first false || ((s && v) || m)) ≡ (cond l here false || m)
at_it true s l first v here m a b c e = absurd cc
at_it false false l first v here m a b c e = absurd cc
at_it false true false first v here m a b c e = absurd cc
at_it false true true first v here m a b c e = ap (λ x. x || m) (sym e)

behind_it : (l1 s l first v here m : Bool) → l1 ≡ true → s ≡ false → l ≡ true → here ≡ first → (cond l1 first false || ((s && v) || m)) ≡ (cond l here false || m)
behind_it false s l first v here m a b c e = absurd cc
behind_it true true l first v here m a b c e = absurd cc
behind_it true false false first v here m a b c e = absurd cc
behind_it true false true first v here m a b c e = ap (λ x. x || m) (sym e)

before_it : (l1 s l first v here m : Bool) → l1 ≡ false → s ≡ false → l ≡ false → (cond l1 first false || ((s && v) || m)) ≡ (cond l here false || m)
before_it true s l first v here m a b c = absurd cc
before_it false true l first v here m a b c = absurd cc
before_it false false true first v here m a b c = absurd cc
before_it false false false first v here m a b c = refl

abbrev voted : ℕ → ℕ → Option CoordNode → Bool
voted u a o = maybe o false (λ x. list_any (is_vote Committed u a) x.log)

logs_member : (xs : List CoordNode) (votes : Votes) (d u a e : ℕ)
    → member nat_cmp (voters_at (with_logs votes d xs) u a) e
    ≡ (cond (nat_le d e) (voted u a (slice_get xs (e - d))) false || member nat_cmp (voters_at votes u a) e)
logs_member [] votes d u a e = none_there (nat_le d e) _
logs_member (x ∷ xs) votes d u a e =
    logs_member xs (with_log votes d x.log) (suc d) u a e
    ∙ ap (λ m. cond (nat_le (suc d) e) (voted u a (slice_get xs (e - suc d))) false || m) (log_member votes d x.log u a e)
    ∙ go (is_eq (nat_cmp e d)) refl (nat_le d e) refl
  where
    go : (s : Bool) → is_eq (nat_cmp e d) ≡ s → (l : Bool) → nat_le d e ≡ l
        → (cond (nat_le (suc d) e) (voted u a (slice_get xs (e - suc d))) false
        || ((is_eq (nat_cmp e d) && list_any (is_vote Committed u a) x.log) || member nat_cmp (voters_at votes u a) e))
        ≡ (cond (nat_le d e) (voted u a (slice_get (x ∷ xs) (e - d))) false || member nat_cmp (voters_at votes u a) e)
    go true is l low =
        let same : e ≡ d = grind arith in
        let past : nat_le (suc d) e ≡ false = grind arith in
        let from : nat_le d e ≡ true = grind arith in
        let first : e - d ≡ 0 = omega arith in
        at_it _ _ _ _ _ _ _ past is from (ap (λ (n : ℕ). voted u a (slice_get (x ∷ xs) n)) first)
    go false is true low =
        let past : nat_le (suc d) e ≡ true = grind arith in
        let next : e - d ≡ suc (e - suc d) = grind arith in
        behind_it _ _ _ _ _ _ _ past is low (ap (λ (n : ℕ). voted u a (slice_get (x ∷ xs) n)) next)
    go false is false low =
        let past : nat_le (suc d) e ≡ false = grind arith in
        before_it _ _ _ _ _ _ _ past is low

nobody_else : (b : Bool) → b ≡ (b || false)
nobody_else true = refl
nobody_else false = refl

from_one : (c : Layout) (d : ℕ) → is_dc c d ≡ true → nat_le 1 d ≡ true
from_one c d is = grind arith

-- a datacentre with a vote is one of the cluster
within_them : (c : Layout) (coords : List CoordNode) (u a e : ℕ) → length coords ≡ c.dcs
    → cond (nat_le 1 e) (voted u a (slice_get coords (e - 1))) false ≡ true → is_dc c e ≡ true
within_them c coords u a e long is = go (nat_le 1 e) refl (slice_get coords (e - 1)) refl is
  where
    go : (l : Bool) → nat_le 1 e ≡ l → (o : Option CoordNode) → slice_get coords (e - 1) ≡ o → cond l (voted u a o) false ≡ true → is_dc c e ≡ true
    go false low o there h = absurd cc
    go true low None there h = absurd cc
    go true low (Some x) there h =
        let few = slice_get_within coords (e - 1) x there in
        let high : e ≤ c.dcs = grind arith in
        grind arith

all_counted : (c : Layout) (coords : List CoordNode) (o : Order) → length coords ≡ c.dcs → o.votes ≡ with_logs [] 1 coords → AreCounted c coords o
all_counted c coords o long votes = record {
  within = λ t b e is. within_them c coords t b e long (nobody_else _ ∙ sym (logs_member coords [] 1 t b e) ∙ sym (ap (λ (vs : Votes). member nat_cmp (voters_at vs t b) e) votes) ∙ is);
  each = λ t b e is.
      ap (λ (vs : Votes). member nat_cmp (voters_at vs t b) e) votes
      ∙ logs_member coords [] 1 t b e
      ∙ sym (nobody_else _)
      ∙ ap (λ l. cond l (has_voted coords Committed t b e) false) (from_one c e is);
}

-- STEP BY STEP
record_more : (votes : Votes) (d : ℕ) (rs : List Record) (r : Record) → with_log votes d (rs ++ r ∷ []) ≡ with_record (with_log votes d rs) d r
record_more votes d [] r = refl
record_more votes d (q ∷ rs) r = record_more (with_record votes d q) d rs r

node_more : (votes : Votes) (d : ℕ) (xs : List CoordNode) (x : CoordNode) → with_logs votes d (xs ++ x ∷ []) ≡ with_log (with_logs votes d xs) (d + length xs) x.log
node_more votes d [] x = ap (λ (n : ℕ). with_log votes n x.log) (sym (add-zero d))
node_more votes d (y ∷ xs) x =
    let same : suc d + length xs ≡ d + suc (length xs) = omega arith in
    node_more (with_log votes d y.log) (suc d) xs x ∙ ap (λ (n : ℕ). with_log (with_logs (with_log votes d y.log) (suc d) xs) n x.log) same

module _ (c : Layout) (coords : List CoordNode) where
  choice_more : (chosen : List (ℕ × List Entry)) (rs : List Record) (r : Record)
      → with_choices c coords chosen (rs ++ r ∷ []) ≡ ordered c coords [] (with_choices c coords chosen rs) (Some r)
  choice_more chosen [] r = refl
  choice_more chosen (q ∷ rs) r = choice_more (ordered c coords [] chosen (Some q)) rs r

  choices_more : (chosen : List (ℕ × List Entry)) (xs : List CoordNode) (x : CoordNode)
      → all_choices c coords chosen (xs ++ x ∷ []) ≡ with_choices c coords (all_choices c coords chosen xs) x.log
  choices_more chosen [] x = refl
  choices_more chosen (y ∷ xs) x = choices_more (with_choices c coords chosen y.log) xs x

pub log_laws : (c : Layout) (coords : List CoordNode) (o : Order) → LogLaws c coords o
log_laws c coords o = record {
  all = all_counted c coords o;
  record_more = record_more;
  node_more = node_more;
  choice_more = choice_more c coords;
  choices_more = choices_more c coords;
}
