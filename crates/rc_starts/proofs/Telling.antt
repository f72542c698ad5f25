-- What is taken from the logs of a life, or from logs that say the same, is a start of it.
use Rattle.std.proofs.Common.{◌≡◌, suc, List, [], ◌∷◌, refl, sym, ap, ◌∙◌, subst, length}
use Rattle.std.specs.Prelude.{map}
use Rattle.rc_ids.specs.Cluster.{Layout, IsLayout}
use Rattle.rc_record.specs.declared.record.Record.{Record}
use Rattle.rc_protocol.specs.Nodes.{CoordNode, ShardNode, coord_started, shard_started}
use Rattle.rc_runs.specs.World.{World}
use Rattle.rc_runs.specs.Starts.{start_of}
use Rattle.rc_claims.specs.Outcomes.{VotesOneBody}
use Rattle.rc_claims.specs.Lives.{IsLife, IsStartOf, SayWhat, SameCoordLog, SameShardLog, Pairwise}
use Rattle.rc_agreement.proofs.Scenes.{scene}
use Rattle.rc_agreement.proofs.AlikeLogs.{CoordLike, SameButLog, ShardLike, SameButItsLog}
use Rattle.rc_agreement.proofs.AlikeDeeds.{SameButNodes}
use Rattle.rc_agreement.proofs.Alike.{WorldLike, SameButParties}
use Rattle.rc_agreement.proofs.AlikeLives.{PlainLife, plain_life, coord_right, vote_left, start_left}
use Rattle.rc_agreement.proofs.LifeLaws.{votes_one_body}
use Rattle.rc_starts.proofs.Sizes.{Sized, life_sized}
use Rattle.rc_starts.proofs.Starts.{start_again}

same_many : (xs ys : List CoordNode) → Pairwise CoordLike xs ys → length xs ≡ length ys
same_many [] [] h = refl
same_many (x ∷ xs) (y ∷ ys) h = ap suc (same_many xs ys h.1)
same_many [] (y ∷ ys) h = absurd h
same_many (x ∷ xs) [] h = absurd h

sized_right : (c : Layout) (w y : World) → WorldLike w y → Sized c (scene w) → Sized c (scene y)
sized_right c _ _ (SameButParties w _ (SameButNodes _ cs ss hc hs)) h = record { layout = h.layout; many = sym (same_many w.parties.coords cs hc) ∙ h.many }

votes_right : (w y : World) → WorldLike w y → VotesOneBody w → VotesOneBody y
votes_right w y l h d e t a b x z one two is its i j =
    let u = coord_right w y l d x is in
    let v = coord_right w y l e z its in
    h d e t a b u.0 v.0 one two u.1 v.1 (vote_left u.0 x u.2 t a one i) (vote_left v.0 z v.2 t b two j)

-- nodes with these logs
coords_with : List CoordNode → List (List Record) → List CoordNode
coords_with [] logs = []
coords_with (x ∷ xs) [] = []
coords_with (x ∷ xs) (l ∷ ls) = record x { log = l } ∷ coords_with xs ls

shards_with : List ShardNode → List (List Record) → List ShardNode
shards_with [] logs = []
shards_with (x ∷ xs) [] = []
shards_with (x ∷ xs) (l ∷ ls) = record x { log = l } ∷ shards_with xs ls

coords_alike : (xs : List CoordNode) (logs : List (List Record)) → Pairwise (λ (x : CoordNode) (log : List Record). SameCoordLog x.log log) xs logs → Pairwise CoordLike xs (coords_with xs logs)
unfolding coords_with
coords_alike [] [] h = tt
coords_alike (x ∷ xs) (l ∷ ls) h = (SameButLog x l h.0, coords_alike xs ls h.1)
coords_alike [] (l ∷ ls) h = absurd h
coords_alike (x ∷ xs) [] h = absurd h

shards_alike : (xs : List ShardNode) (logs : List (List Record)) → Pairwise (λ (x : ShardNode) (log : List Record). SameShardLog x.log log) xs logs → Pairwise ShardLike xs (shards_with xs logs)
unfolding shards_with
shards_alike [] [] h = tt
shards_alike (x ∷ xs) (l ∷ ls) h = (SameButItsLog x l h.0, shards_alike xs ls h.1)
shards_alike [] (l ∷ ls) h = absurd h
shards_alike (x ∷ xs) [] h = absurd h

coords_started : (xs : List CoordNode) (logs : List (List Record)) → Pairwise (λ (x : CoordNode) (log : List Record). SameCoordLog x.log log) xs logs
    → map (λ (x : CoordNode). coord_started x.log) (coords_with xs logs) ≡ map coord_started logs
unfolding coords_with
coords_started [] [] h = refl
coords_started (x ∷ xs) (l ∷ ls) h = ap (λ (ys : List CoordNode). coord_started l ∷ ys) (coords_started xs ls h.1)
coords_started [] (l ∷ ls) h = absurd h
coords_started (x ∷ xs) [] h = absurd h

shards_started : (xs : List ShardNode) (logs : List (List Record)) → Pairwise (λ (x : ShardNode) (log : List Record). SameShardLog x.log log) xs logs
    → map (λ (x : ShardNode). shard_started x.log) (shards_with xs logs) ≡ map shard_started logs
unfolding shards_with
shards_started [] [] h = refl
shards_started (x ∷ xs) (l ∷ ls) h = ap (λ (ys : List ShardNode). shard_started l ∷ ys) (shards_started xs ls h.1)
shards_started [] (l ∷ ls) h = absurd h
shards_started (x ∷ xs) [] h = absurd h

module _ (c : Layout) (lay : IsLayout c) (earlier : List World) (v : World) (life : IsLife c earlier v) where
  p : PlainLife c earlier v
  p = plain_life c lay earlier v life

  size : Sized c (scene v)
  size = sized_right c p.world v p.like (life_sized c p.before p.world p.plain)

  pub logs_tell : IsStartOf v (start_of c (map (λ (x : CoordNode). coord_started x.log) v.parties.coords) (map (λ (x : ShardNode). shard_started x.log) v.parties.shards))
  logs_tell = start_again c lay v size (votes_one_body c lay earlier v life)

  pub same_logs_tell : (coords shards : List (List Record)) → SayWhat v coords shards → IsStartOf v (start_of c (map coord_started coords) (map shard_started shards))
  same_logs_tell coords shards says =
      let cs = coords_with v.parties.coords coords in
      let ss = shards_with v.parties.shards shards in
      let u : World = record v { parties = record v.parties { coords = cs; shards = ss } } in
      let l : WorldLike v u = SameButParties v u.parties (SameButNodes v.parties cs ss (coords_alike v.parties.coords coords says.of_coords) (shards_alike v.parties.shards shards says.of_shards)) in
      let a = coords_started v.parties.coords coords says.of_coords in
      let b = shards_started v.parties.shards shards says.of_shards in
      start_left v u l (start_of c (map coord_started coords) (map shard_started shards))
      (subst (λ (q : List CoordNode × List ShardNode). IsStartOf u (start_of c q.0 q.1)) (λ i. (a i, b i))
      (start_again c lay u (sized_right c v u l size) (votes_right v u l (votes_one_body c lay earlier v life))))
