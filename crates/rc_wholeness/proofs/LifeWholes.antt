-- The laws, of every life: each is that of the plain life that it is like.
use Rattle.std.proofs.Common.{◌≡◌, ℕ, ◌<◌, List, ◌++◌, refl, sym, ap, ◌∙◌, subst, Some}
use Rattle.std.specs.Prelude.{IsTrue}
use Rattle.std.specs.Ordering.{nat_cmp}
use Rattle.rc_ids.specs.Tables.{In, found, nth}
use Rattle.rc_ids.specs.Cluster.{Layout, IsLayout}
use Rattle.rc_ids.specs.declared.names.Outcome.TheVariants.{Commit as Committed}
use Rattle.rc_body.specs.Bodies.{touches}
use Rattle.rc_body.specs.declared.entry.Entry.{Entry}
use Rattle.rc_body.specs.declared.decision.Decision.TheVariants.{Commit}
use Rattle.rc_record.specs.CoordState.{CoordDurable}
use Rattle.rc_protocol.specs.Shard.{concerns}
use Rattle.rc_protocol.specs.Nodes.{ShardNode}
use Rattle.rc_runs.specs.World.{World}
use Rattle.rc_claims.specs.Whole.{HasOrGets, IsWhole, AppliedIsWhole, IsCaughtUp}
use Rattle.rc_claims.specs.Lives.{IsLife}
use Rattle.rc_agreement.proofs.AlikeLogs.{ShardLike, SameButItsLog}
use Rattle.rc_agreement.proofs.Alike.{WorldLike}
use Rattle.rc_agreement.proofs.AlikeLives.{PlainLife, plain_life, layout_same, start_same, committed_same, coord_left, coord_right, shard_right, durable_same, shard_durable_same, chosen_right}
use Rattle.rc_wholeness.proofs.Wholes as plain

-- shards that are alike stand at one place
place_same : (x z : ShardNode) → ShardLike x z → x.volatile.cursor ≡ z.volatile.cursor
place_same _ _ (SameButItsLog x log s) = refl

has_same : (x z : ShardNode) → ShardLike x z → (t place : ℕ) → HasOrGets x t place → HasOrGets z t place
has_same _ _ (SameButItsLog x log s) t place h = h

module _ (c : Layout) (lay : IsLayout c) (earlier : List World) (y : World) (life : IsLife c earlier y) where
  p : PlainLife c earlier y
  p = plain_life c lay earlier y life

  whole_right : (w : World) → WorldLike w y → (d t : ℕ) → IsWhole w d t → IsWhole y d t
  whole_right w l d t h =
      let z = coord_left w y l d h.coord h.is in
      let a = start_same w y l in
      let b = committed_same w y l in
      record {
        chosen = chosen_right w y l Committed t h.chosen;
        coord = z.0;
        is = z.1;
        body = h.body;
        committed = subst (λ (s : List (ℕ × List Entry)). In (t, h.body) s) (λ i. (a i).committed ++ b i) h.committed;
        place = h.place;
        listed = subst (λ (s : CoordDurable). nth s.outcomes h.place ≡ Some (t, Commit h.body)) (durable_same h.coord z.0 z.2) h.listed;
        others = λ sh x is touch.
            let v = shard_right w y l d sh x is in
            has_same v.0 x v.2 t h.place (h.others sh v.0 v.1 (subst (λ (m : Layout). IsTrue (touches m h.body sh)) (sym (layout_same w y l)) touch));
      }

  pub applied_is_whole : AppliedIsWhole y
  applied_is_whole d sh t x is fin =
      let v = shard_right p.world y p.like d sh x is in
      whole_right p.world p.like d t (plain.applied_is_whole c lay p.before p.world p.plain d sh t v.0 v.1 (ap (λ s. found nat_cmp s.finished t) (shard_durable_same v.0 x v.2) ∙ fin))

  pub is_caught_up : IsCaughtUp y
  is_caught_up d sh n t z x o here there e lt mine =
      let u = coord_right p.world y p.like d z here in
      let v = shard_right p.world y p.like d sh x there in
      sym (ap (λ s. found nat_cmp s.finished t) (shard_durable_same v.0 x v.2))
      ∙ plain.is_caught_up c lay p.before p.world p.plain d sh n t u.0 v.0 o u.1 v.1
      (subst (λ (s : CoordDurable). nth s.outcomes n ≡ Some (t, o)) (sym (durable_same u.0 z u.2)) e)
      (subst (λ (m : ℕ). n < m) (sym (place_same v.0 x v.2)) lt)
      (subst (λ (m : Layout). IsTrue (concerns m sh o)) (sym (layout_same p.world y p.like)) mine)
