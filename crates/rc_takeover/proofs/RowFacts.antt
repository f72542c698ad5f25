-- A take-over as it is kept is the take-over of the rows.
use Rattle.std.proofs.Common.{◌≡◌, ℕ, Bool, true, false, cond, [], Option, refl}
use Rattle.rc_ids.specs.Tables.{maybe}
use Rattle.rc_ids.specs.Cluster.{Layout, layout}
use Rattle.rc_body.specs.declared.decision.Decision.{Decision}
use Rattle.rc_protocol.specs.Coordinator.{TakeoverState, hears, chooses, proposed}
use Rattle.rc_takeover.specs.TakeOvers.{KeptTakeOver, kept, with_state, cluster_of, gone_on, waits_for, said, heard_by, foretold, foretold_state, foretells, ignored, IsTakeOver}
use Rattle.rc_takeover.specs.declared.answers.Heard.TheVariants.{Ignored}
use Rattle.rc_takeover.proofs.ChoiceFacts.{said-chooses}

says : (c : Layout) (k : TakeoverState) (from : ℕ) (report : Option (ℕ × Decision)) (waits : Bool)
    → cond waits (said (chooses (cluster_of (kept c k)) (hears k from report))) Ignored ≡ cond waits (said (chooses c (hears k from report))) Ignored
says c k from report true = refl
says c k from report false = refl

stands : (c : Layout) (k : TakeoverState) (from : ℕ) (report : Option (ℕ × Decision)) (waits : Bool)
    → cond waits (with_state (kept c k) (gone_on (cluster_of (kept c k)) (hears k from report))) (kept c k)
    ≡ kept c (cond waits (maybe (chooses c (hears k from report)) (hears k from report) (λ _. proposed (hears k from report))) k)
stands c k from report true = refl
stands c k from report false = refl

pub is_take_over : (c : Layout) → IsTakeOver c
is_take_over c = record {
  says = λ k from report. says c k from report (waits_for k from);
  stands = λ k from report. stands c k from report (waits_for k from);
}

pub told : (k : KeptTakeOver) (from : ℕ) (report : Option (ℕ × Decision)) → heard_by k from report ≡ foretells (foretold k from report)
told k from report =
    by (waits_for k.state from)
  where
    by : (w : Bool) → cond w (said (chooses (layout k.dcs 1 [] k.weights) (hears k.state from report))) Ignored
        ≡ foretells (cond w (foretold_state k.dcs k.weights (hears k.state from report)) ignored)
    by true = said-chooses k.dcs k.weights (hears k.state from report)
    by false = refl
