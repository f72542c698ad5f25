-- What is chosen of the reports is what the rows propose.
use Rattle.std.proofs.Common.{◌≡◌, ℕ, Bool, true, false, cond, List, [], Option, None, Some, refl, ap, ◌∙◌}
use Rattle.rc_ids.specs.Tables.{maybe}
use Rattle.rc_ids.specs.Cluster.{layout, holds}
use Rattle.rc_body.specs.declared.decision.Decision.{Decision}
use Rattle.rc_body.specs.declared.decision.Decision.TheVariants.{Abort}
use Rattle.rc_protocol.specs.Coordinator.{TakeoverState, best_or_abort, chooses}
use Rattle.rc_takeover.specs.declared.choice.Choice.{Choice}
use Rattle.rc_takeover.specs.declared.choice.Choice.TheVariants.{Nothing, Best}
use Rattle.rc_takeover.specs.Choices.{choice, proposal, has_all_dcs}
use Rattle.rc_takeover.specs.TakeOvers.{said, foretells, foretold_state, foretold_choice, waiting}

-- by the tests: it is eager, a quorum is heard, a quorum is silent, all are heard
tested : Bool → Bool → Bool → Bool → Option Choice
tested eager quorum silent all = cond eager (cond quorum (Some Best) None) (cond silent (Some Nothing) (cond all (Some Best) None))

chosen : Bool → Bool → Bool → Bool → Option (ℕ × Decision) → Option Decision
chosen eager quorum silent all best =
    cond eager (cond quorum (Some (best_or_abort best)) None) (cond silent (Some Abort) (cond all (Some (best_or_abort best)) None))

chosen-tested : (eager quorum silent all : Bool) (best : Option (ℕ × Decision))
    → chosen eager quorum silent all best ≡ maybe (tested eager quorum silent all) None (λ c. Some (proposal c best))
unfolding chosen tested
chosen-tested true true s a best = refl
chosen-tested true false s a best = refl
chosen-tested false q true a best = refl
chosen-tested false q false true best = refl
chosen-tested false q false false best = refl

-- the decision of the choice
chooses-choice : (dcs : ℕ) (weights : List ℕ) (k : TakeoverState)
    → chooses (layout dcs 1 [] weights) k ≡ maybe (choice dcs weights k.is_eager k.heard k.silent) None (λ c. Some (proposal c k.best))
unfolding chosen tested
chooses-choice dcs weights k =
    chosen-tested k.is_eager (holds weights k.heard) (holds weights k.silent) (has_all_dcs dcs k.heard) k.best

-- what is told of the choice is said
told : (o : Option Choice) (best : Option (ℕ × Decision))
    → said (maybe o None (λ c. Some (proposal c best))) ≡ foretells (maybe o waiting (λ c. foretold_choice c best))
told None best = refl
told (Some Nothing) best = refl
told (Some Best) None = refl
told (Some Best) (Some report) = refl

pub said-chooses : (dcs : ℕ) (weights : List ℕ) (k : TakeoverState)
    → said (chooses (layout dcs 1 [] weights) k) ≡ foretells (foretold_state dcs weights k)
said-chooses dcs weights k =
    ap said (chooses-choice dcs weights k) ∙ told (choice dcs weights k.is_eager k.heard k.silent) k.best
