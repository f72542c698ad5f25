-- Coordinators by datacentre: what is found after one of them changed, and what stands in one of them.
use Rattle.std.proofs.Common.{◌≡◌, ℕ, ◌+◌, ◌*◌, ◌≤◌, List, sym, ap, ◌∙◌, subst, arith, true, false, Some, None, ⊎_elim}
use Rattle.std.specs.Prelude.{slice_get, slice_set, length}
use Rattle.std.specs.List.{list_any}
use Rattle.std.specs.Ordering.{nat_cmp}
use Rattle.rc_ids.specs.Tables.{In, found}
use Rattle.rc_ids.specs.Cluster.{Layout}
use Rattle.rc_ids.specs.declared.names.Outcome.TheVariants.{Commit as Committed}
use Rattle.rc_record.specs.CoordState.{promise_of, outcome_of}
use Rattle.rc_protocol.specs.Nodes.{CoordNode, coord_index, is_vote}
use Rattle.rc_protocol.specs.Coordinator.{CoordVolatile}
use Rattle.rc_calm_batches.proofs.Sizes.{log_bytes, most_frame}
use Rattle.rc_calm_batches.proofs.Indices.{get_set_same, get_set_other}
use Rattle.rc_calm_batches.proofs.Stages.{same_or_not}

abbrev pub Coords : Layout → (ℕ → CoordNode → Type 0) → List CoordNode → Type 0
Coords c C cs = (d : ℕ) → 1 ≤ d → d ≤ c.dcs → (x : CoordNode) × (slice_get cs (coord_index d) ≡ Some x) × C d x

pub coords_set : (C C' : ℕ → CoordNode → Type 0) (c : Layout) (cs : List CoordNode) (d : ℕ) (x : CoordNode) → 1 ≤ d → d ≤ c.dcs → Coords c C cs → C' d x
    → ((e : ℕ) (y : CoordNode) → (d ≡ e → ⊥) → C e y → C' e y) → Coords c C' (slice_set cs (coord_index d) x)
coords_set C C' c cs d x d1 d2 all new old e e1 e2 = ⊎_elim same other (same_or_not d e)
  where
    other : (d ≡ e → ⊥) → (y : CoordNode) × (slice_get (slice_set cs (coord_index d) x) (coord_index e) ≡ Some y) × C' e y
    other n =
        let y = all e e1 e2 in
        let apart : coord_index d ≡ coord_index e → ⊥ = λ h. n (omega (arith, h, d1, e1)) in
        (y.0, get_set_other cs (coord_index d) (coord_index e) x apart ∙ y.1, old e y.0 n y.2)

    same : d ≡ e → (y : CoordNode) × (slice_get (slice_set cs (coord_index d) x) (coord_index e) ≡ Some y) × C' e y
    same h =
        (x, ap (λ (z : ℕ). slice_get (slice_set cs (coord_index d) x) (coord_index z)) (sym h) ∙ get_set_same cs (coord_index d) (all d d1 d2).0 x (all d d1 d2).1, subst (λ (z : ℕ). C' z x) h new)

-- who is over has an outcome here or not; of who is not among the voted ones nothing was promised, accepted or voted
pub record CoordIs (over voted : List ℕ) (v : CoordVolatile) (x : CoordNode) : Type 0 where
  pub up : x.up ≡ true
  pub volatile : x.volatile ≡ v
  pub promise : (u : ℕ) → (In u voted → ⊥) → promise_of x.durable.promises u ≡ 0
  pub accepted : (u : ℕ) → (In u voted → ⊥) → found nat_cmp x.durable.accepted u ≡ None
  pub unvoted : (u : ℕ) → (In u voted → ⊥) → list_any (is_vote Committed u 0) x.log ≡ false
  pub outcome : (u : ℕ) → (In u over → ⊥) → outcome_of x.durable.outcomes u ≡ None
  pub bytes : log_bytes x.log ≤ most_frame * (length over + length voted)
