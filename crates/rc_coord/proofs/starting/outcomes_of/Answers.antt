use Rattle.std.proofs.Common.{◌≡◌, ℕ, List, [], ◌++◌, sym, ap, subst, ◌∙◌}
use Rattle.rc_body.specs.declared.decision.Decision.{Decision}
use Rattle.rc_catch.proofs.ListFacts.{differ}
use Rattle.rc_coord.specs.Rows.{AreNew}
use Rattle.rc_coord.proofs.PageRows.{differ-new}
use Rattle.rc_coord.proofs.starting.outcomes_of.Goals as goal

pub loop-tx-init : goal.loop-tx-init
loop-tx-init c =
    let list : c.into_iter-tx-iterator.result ≡ c.into_map-list.result.entries = c.into_iter-tx-iterator.ensures.into_iter_gives.0 in
    let nil : c.room.new.self.entries ≡ [] = c.in_ok-room.ensures.entries ∙ c.new-outcomes.ensures in
    record {
      known = ap (λ (es : List (ℕ × Decision)). es ++ c.into_iter-tx-iterator.result) nil ∙ list ∙ c.into_map-list.ensures;
      new =
          subst (λ (es : List (ℕ × Decision)). AreNew es c.into_iter-tx-iterator.result) (sym nil)
          (subst (AreNew []) (sym list) (differ-new c.into_map-list.result.entries (differ c.into_map-list.result.entries c.len.ensures.unique)));
    }
