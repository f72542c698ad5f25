-- A transaction that a log names is named ever after: logs grow at their end, and a life begins with those of the one before.
use Rattle.std.proofs.Common.{◌≡◌, ℕ, List, [], ◌∷◌, ◌++◌, refl, sym, ap, ◌∙◌, subst, Bool, true, Option, Some, None, ⊎_elim}
use Rattle.std.specs.Prelude.{slice_get, slice_set, ◌||◌}
use Rattle.std.specs.Ordering.{nat_cmp}
use Rattle.std.specs.List.{list_any}
use Rattle.rc_ids.specs.Tables.{In, member}
use Rattle.rc_ids.proofs.QuorumFacts.{in-member, member-in}
use Rattle.rc_record.specs.declared.record.Record.{Record}
use Rattle.rc_protocol.specs.Nodes.{CoordNode, ShardNode, coord_index, shard_index, with_log, logged}
use Rattle.rc_runs.specs.World.{World, Parties, Start, coord_at, shard_at, with_coord, with_shard}
use Rattle.rc_runs.specs.Refusals.{Happening, run}
use Rattle.rc_claims.specs.Outcomes.{is_named}
use Rattle.rc_agreement.proofs.PlainLives.{reopened}
use Rattle.rc_agreement.proofs.Cases.{or_case, or_left, or_right}
use Rattle.rc_agreement.proofs.Lists.{any_set, any_map}
use Rattle.rc_agreement.proofs.Places.{coord_dc, shard_there}
use Rattle.rc_agreement.proofs.Scenes.{Scene, at, shard_in, act_of, shard_act_of, Keeps, run_keeps}
use Rattle.rc_agreement.proofs.Named.{log_keeps}
use Rattle.rc_agreement.proofs.Reopened.{open_node, open_server}

log_grows : (t : ℕ) (xs ys : List Record) (named : List ℕ) → In t (with_log named xs) → In t (with_log named (xs ++ ys))
log_grows t [] ys named h = log_keeps t ys named h
log_grows t (x ∷ xs) ys named h = log_grows t xs ys _ h

still_named : (t : ℕ) (log : List Record) (r : Option Record) → member nat_cmp (with_log [] log) t ≡ true → member nat_cmp (with_log [] (logged log r)) t ≡ true
still_named t log None h = h
still_named t log (Some r) h = member-in (with_log [] (log ++ r ∷ [])) t (log_grows t log (r ∷ []) [] (in-member (with_log [] log) t h))

abbrev named_by : ℕ → CoordNode → Bool
named_by t x = member nat_cmp (with_log [] x.log) t

abbrev named_in : ℕ → ShardNode → Bool
named_in t x = member nat_cmp (with_log [] x.log) t

abbrev pub IsNamed : ℕ → Scene → Type 0
IsNamed t s = is_named s.parties t ≡ true

coord_stays : (t : ℕ) (w : Parties) (d : ℕ) (x y : CoordNode) (r q : Option Record) → coord_at w d ≡ Some x → y.log ≡ logged x.log r → is_named w t ≡ true → is_named (with_coord w d y q) t ≡ true
coord_stays t w d x y r q is log h =
    let dc = coord_dc w d x is in
    let got : slice_get w.coords (coord_index d) ≡ Some x = rw dc at is in
    ⊎_elim
    (λ (e : list_any (named_by t) w.coords ≡ true). or_left _ (list_any (named_in t) w.shards)
    (any_set (named_by t) w.coords (coord_index d) x y got (λ n. subst (λ (l : List Record). member nat_cmp (with_log [] l) t ≡ true) (sym log) (still_named t x.log r n)) e))
    (λ (e : list_any (named_in t) w.shards ≡ true). or_right (list_any (named_by t) (slice_set w.coords (coord_index d) y)) _ e)
    (or_case (list_any (named_by t) w.coords) (list_any (named_in t) w.shards) h)

shard_stays : (t : ℕ) (w : Parties) (d sh : ℕ) (x y : ShardNode) (r : Option Record) → shard_at w d sh ≡ Some x → y.log ≡ logged x.log r → is_named w t ≡ true → is_named (with_shard w d sh y) t ≡ true
shard_stays t w d sh x y r is log h =
    let there = shard_there w d sh x is in
    let got : slice_get w.shards (shard_index w.layout d sh) ≡ Some x = rw there at is in
    ⊎_elim
    (λ (e : list_any (named_by t) w.coords ≡ true). or_left (list_any (named_by t) w.coords) _ e)
    (λ (e : list_any (named_in t) w.shards ≡ true). or_right (list_any (named_by t) w.coords) _
    (any_set (named_in t) w.shards (shard_index w.layout d sh) x y got (λ n. subst (λ (l : List Record). member nat_cmp (with_log [] l) t ≡ true) (sym log) (still_named t x.log r n)) e))
    (or_case (list_any (named_by t) w.coords) (list_any (named_in t) w.shards) h)

named_kept : (t : ℕ) → Keeps (IsNamed t)
named_kept t =
    record {
      turns = λ s d k there due p. coord_stays t s.parties d (at s d) _ (act_of s d k).logs (act_of s d k).logs there refl p;
      stops = λ s d r there half p. coord_stays t s.parties d (at s d) _ r r there refl p;
      starts = λ s d there p. coord_stays t s.parties d (at s d) _ None None there refl p;
      serves = λ s d sh k there due p. shard_stays t s.parties d sh (shard_in s d sh) _ (shard_act_of s d sh k).logs there refl p;
      halts = λ s d sh r there half p. shard_stays t s.parties d sh (shard_in s d sh) _ r there refl p;
      wakes = λ s d sh there p. shard_stays t s.parties d sh (shard_in s d sh) _ None there refl p;
      begins = λ s u new p. p;
      clients = λ s u x k is due p. p;
    }

-- through a run
pub named_stays : (t : ℕ) (w : World) (hs : List Happening) → is_named w.parties t ≡ true → is_named (run w hs).parties t ≡ true
named_stays t w hs h = run_keeps (IsNamed t) (named_kept t) w hs h

-- and where the next life begins
pub named_again : (t : ℕ) (v : World) (start : Start) → is_named v.parties t ≡ true → is_named (reopened v start).parties t ≡ true
named_again t v start h =
    ap (λ (b : Bool × Bool). b.0 || b.1) (λ i. (any_map (named_by t) open_node v.parties.coords i, any_map (named_in t) open_server v.parties.shards i)) ∙ h
