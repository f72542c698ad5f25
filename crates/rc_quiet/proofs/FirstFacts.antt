-- The facts of each moment of a run from a new world.
use Rattle.std.proofs.Common.{◌≡◌, ℕ, List, [], refl, sym, ◌∙◌, subst, Some, None, ⊎_elim, ◌*◌}
use Rattle.std.specs.Prelude.{slice_get, replicate, ◌&&◌}
use Rattle.rc_ids.specs.Tables.{In}
use Rattle.rc_ids.specs.Cluster.{Layout, is_dc, is_shard}
use Rattle.rc_protocol.specs.Nodes.{CoordNode, ShardNode, coord_index, shard_index, coord_started, shard_started}
use Rattle.rc_runs.specs.World.{World, coord_at, shard_at, new_world}
use Rattle.rc_runs.specs.Refusals.{Happening, run}
use Rattle.rc_claims.specs.Quiet.{moments}
use Rattle.rc_agreement.proofs.Agreeing.{new_get}
use Rattle.rc_agreement.proofs.Promises.{replayed}
use Rattle.rc_agreement.proofs.Cases.{never, some_is, on_cond}
use Rattle.rc_quiet.proofs.Stretches.{end_in}
use Rattle.rc_quiet.proofs.Facts.{Facts}
use Rattle.rc_quiet.proofs.FactsRuns.{Basics, facts_of, basics_at}

new_some : {A : Type 0} (n i : ℕ) (y x : A) → slice_get (replicate n y) i ≡ Some x → x ≡ y
new_some n i y x is = ⊎_elim (λ (e : slice_get (replicate n y) i ≡ Some y). some_is x y (sym is ∙ e)) (λ (e : slice_get (replicate n y) i ≡ None). never x (sym e ∙ is)) (new_get n i y)

pub new_coord : (c : Layout) (d : ℕ) (x : CoordNode) → coord_at (new_world c).parties d ≡ Some x → x ≡ coord_started []
new_coord c d x =
    on_cond (λ o. o ≡ Some x → x ≡ coord_started []) (is_dc c d) (slice_get (replicate c.dcs (coord_started [])) (coord_index d)) None
    (λ _ is. new_some c.dcs (coord_index d) (coord_started []) x is)
    (λ _ is. never x is)

pub new_shard : (c : Layout) (d sh : ℕ) (x : ShardNode) → shard_at (new_world c).parties d sh ≡ Some x → x ≡ shard_started []
new_shard c d sh x =
    on_cond (λ o. o ≡ Some x → x ≡ shard_started []) (is_dc c d && is_shard c sh) (slice_get (replicate (c.dcs * c.shards) (shard_started [])) (shard_index c d sh)) None
    (λ _ is. new_some (c.dcs * c.shards) (shard_index c d sh) (shard_started []) x is)
    (λ _ is. never x is)

pub new_basics : (c : Layout) → Basics c (new_world c).parties
new_basics c =
    record {
      layout = refl;
      replays = λ d x is. subst (λ (y : CoordNode). y.durable ≡ replayed y.log) (sym (new_coord c d x is)) refl;
      shard_replays = λ d sh x is. subst (λ (y : ShardNode). (shard_started y.log).durable ≡ y.durable) (sym (new_shard c d sh x is)) refl;
      differ = λ u x is. never x is;
    }

-- each moment of a stretch that goes on from a run of a new world
pub first_facts : (c : Layout) (earlier hs : List Happening) (v : World) → In v (moments (run (new_world c) earlier) hs) → Facts c v.parties
first_facts c earlier hs v i =
    let start : Basics c (run (new_world c) earlier).parties = basics_at c (new_world c) earlier (new_basics c) (run (new_world c) earlier) (end_in (new_world c) earlier) in
    facts_of c v.parties (basics_at c (run (new_world c) earlier) hs start v i)
