-- What every life says of a stretch that goes on from it: the shards are there, and its clients fit.
use Rattle.std.proofs.Common.{◌≡◌, ℕ, List, sym, subst, true, Some}
use Rattle.std.specs.Ordering.{nat_cmp}
use Rattle.rc_ids.specs.Tables.{In, found}
use Rattle.rc_ids.specs.Cluster.{Layout, is_dc, is_shard}
use Rattle.rc_protocol.specs.Client.{Client}
use Rattle.rc_protocol.specs.Nodes.{ShardNode}
use Rattle.rc_runs.specs.World.{World, shard_at}
use Rattle.rc_runs.specs.Refusals.{Happening, run}
use Rattle.rc_claims.specs.Quiet.{moments}
use Rattle.rc_agreement.proofs.PlainLives.{IsPlainLife}
use Rattle.rc_agreement.proofs.Scenes.{Scene, scene, Keeps, run_keeps}
use Rattle.rc_causes.proofs.ReadFits.{ClientFits, Fitting, fitting_kept}
use Rattle.rc_quiet.proofs.Stretches.{before_moment}
use Rattle.rc_quiet.proofs.Sizes.{Filled, filled_kept, life_filled, shard_there_is}

-- what every move keeps holds at each moment of a stretch
pub at_moments : (P : Scene → Type 0) → Keeps P → (w : World) (hs : List Happening) → P (scene w) → (v : World) → In v (moments w hs) → P (scene v)
at_moments P kept w hs p v i =
    let r = before_moment w hs v i in
    subst (λ (z : World). P (scene z)) r.1 (run_keeps P kept w r.0 p)

pub shard_at_moment : (c : Layout) (past : List World) (w : World) (hs : List Happening) → IsPlainLife c past w → (v : World) → In v (moments w hs) → (d sh : ℕ) → is_dc v.parties.layout d ≡ true → is_shard v.parties.layout sh ≡ true → (x : ShardNode) × (shard_at v.parties d sh ≡ Some x)
shard_at_moment c past w hs life v i = shard_there_is c v (at_moments (Filled c) (filled_kept c) w hs (life_filled c past w life) v i)

pub shard_at_end : (c : Layout) (past : List World) (w : World) (hs : List Happening) → IsPlainLife c past w → (d sh : ℕ) → is_dc (run w hs).parties.layout d ≡ true → is_shard (run w hs).parties.layout sh ≡ true → (x : ShardNode) × (shard_at (run w hs).parties d sh ≡ Some x)
shard_at_end c past w hs life = shard_there_is c (run w hs) (run_keeps (Filled c) (filled_kept c) w hs (life_filled c past w life))

pub client_fits_at_end : (c : Layout) (w : World) (hs : List Happening) → Fitting c (scene w) → (t : ℕ) (x : Client) → found nat_cmp (run w hs).parties.clients t ≡ Some x → ClientFits (run w hs).parties.layout x
client_fits_at_end c w hs p t x is =
    let q : Fitting c (scene (run w hs)) = run_keeps (Fitting c) (fitting_kept c) w hs p in
    subst (λ (l : Layout). ClientFits l x) (sym q.0) (q.1 t x is)
