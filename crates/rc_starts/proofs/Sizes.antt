-- There are as many coordinators as datacentres, in every life.
use Rattle.std.proofs.Common.{◌≡◌, ℕ, zero, suc, ◌<◌, List, [], ◌∷◌, refl, ap, ◌∙◌, arith, Some, length}
use Rattle.std.specs.Prelude.{slice_get, slice_set}
use Rattle.std.proofs.lemmas.List.{length-replicate, length-map}
use Rattle.rc_ids.specs.Cluster.{Layout}
use Rattle.rc_protocol.specs.Nodes.{CoordNode, coord_index, coord_started, coord_after, coord_stopped}
use Rattle.rc_runs.specs.World.{World, new_world}
use Rattle.rc_agreement.proofs.PlainLives.{IsPlainLife, First, Next, reopened}
use Rattle.rc_agreement.proofs.Cases.{never}
use Rattle.rc_agreement.proofs.Scenes.{Scene, scene, at, act_of, Keeps, run_keeps}

pub set_length : {A : Type 0} (xs : List A) (i : ℕ) (x : A) → length (slice_set xs i x) ≡ length xs
set_length [] i x = refl
set_length (y ∷ xs) zero x = refl
set_length (y ∷ xs) (suc i) x = ap suc (set_length xs i x)

pub got_below : {A : Type 0} (xs : List A) (i : ℕ) (x : A) → slice_get xs i ≡ Some x → i < length xs
got_below [] i x e = never x e
got_below (y ∷ xs) zero x e = omega arith
got_below (y ∷ xs) (suc i) x e = let h = got_below xs i x e in omega (arith, h)

pub record Sized (c : Layout) (s : Scene) : Type 0 where
  pub layout : s.parties.layout ≡ c
  pub many : length s.parties.coords ≡ c.dcs

pub sized_kept : (c : Layout) → Keeps (Sized c)
sized_kept c =
    record {
      turns = λ s d k there due p. record { layout = p.layout; many = set_length s.parties.coords (coord_index d) (coord_after (at s d) (act_of s d k)) ∙ p.many };
      stops = λ s d r there half p. record { layout = p.layout; many = set_length s.parties.coords (coord_index d) (coord_stopped (at s d) r) ∙ p.many };
      starts = λ s d there p. record { layout = p.layout; many = set_length s.parties.coords (coord_index d) (coord_started (at s d).log) ∙ p.many };
      serves = λ s d sh k there due p. record { layout = p.layout; many = p.many };
      halts = λ s d sh r there half p. record { layout = p.layout; many = p.many };
      wakes = λ s d sh there p. record { layout = p.layout; many = p.many };
      begins = λ s u new p. record { layout = p.layout; many = p.many };
      clients = λ s u x k is due p. record { layout = p.layout; many = p.many };
    }

pub life_sized : (c : Layout) (earlier : List World) (w : World) → IsPlainLife c earlier w → Sized c (scene w)
life_sized c _ _ (First hs) = run_keeps (Sized c) (sized_kept c) (new_world c) hs (record { layout = refl; many = length-replicate c.dcs (coord_started []) })
life_sized c _ _ (Next earlier v start hs before is_start) =
    let p = life_sized c earlier v before in
    run_keeps (Sized c) (sized_kept c) (reopened v start) hs (record { layout = p.layout; many = length-map v.parties.coords (λ (x : CoordNode). coord_started x.log) ∙ p.many })
