-- What one more entry of a page does.
use Rattle.std.proofs.Common.{◌≡◌, ℕ, ◌+◌, List, [], ◌∷◌, drop, slice_get, Some, sym, ap, ◌∙◌}
use Rattle.rc_body.specs.declared.decision.Decision.{Decision}
use Rattle.rc_record.specs.CoordState.{outcomes_joined}
use Rattle.rc_record.specs.ShardState.{ShardDurable}
use Rattle.rc_record.specs.InOrder.{ended_new, ended_all}
use Rattle.rc_record.proofs.Rest.{drop_step}

-- one more entry of the page joins
pub joined_step : (list page : List (ℕ × Decision)) (i : ℕ) (e : ℕ × Decision) (new whole : List (ℕ × Decision)) → slice_get page i ≡ Some e
    → new ≡ outcomes_joined list (e ∷ []) → outcomes_joined list (drop i page) ≡ whole → outcomes_joined new (drop (i + 1) page) ≡ whole
joined_step list page i e new whole at is before =
    ap (λ (xs : List (ℕ × Decision)). outcomes_joined xs (drop (i + 1) page)) is
    ∙ (ap (outcomes_joined list) (sym (drop_step page i e at)) ∙ before)

-- one more entry of the page ends its transaction
pub ended_step : (s : ShardDurable) (page : List (ℕ × Decision)) (i : ℕ) (e : ℕ × Decision) (new whole : ShardDurable) → slice_get page i ≡ Some e
    → new ≡ ended_new s e → ended_all s (drop i page) ≡ whole → ended_all new (drop (i + 1) page) ≡ whole
ended_step s page i e new whole at is before =
    ap (λ (t : ShardDurable). ended_all t (drop (i + 1) page)) is
    ∙ (ap (ended_all s) (sym (drop_step page i e at)) ∙ before)
