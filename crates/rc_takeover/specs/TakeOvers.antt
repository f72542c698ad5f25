-- Take-overs with what they keep of their cluster, and what they say to a promise.
use Rattle.std.specs.Prelude.{◌≡◌, ℕ, Bool, not, ◌&&◌, List, [], Option, None, Some, if◌then◌else◌}
use Rattle.std.specs.Ordering.{nat_cmp}
use Rattle.rc_ids.specs.Tables.{member, maybe}
use Rattle.rc_ids.specs.Cluster.{Layout, layout}
use Rattle.rc_body.specs.declared.decision.Decision.{Decision}
use Rattle.rc_body.specs.declared.decision.Decision.TheVariants.{Abort as AbortOf}
use Rattle.rc_protocol.specs.Coordinator.{TakeoverState, hears, chooses, proposed}
use Rattle.rc_takeover.specs.declared.choice.Choice.{Choice}
use Rattle.rc_takeover.specs.declared.choice.Choice.TheVariants.{Nothing, Best}
use Rattle.rc_takeover.specs.declared.answers.Heard.{Heard}
use Rattle.rc_takeover.specs.declared.answers.Heard.TheVariants.{Ignored, Waiting, Propose}
use Rattle.rc_takeover.specs.declared.answers.Would.{Would}
use Rattle.rc_takeover.specs.declared.answers.Would.TheVariants.{Ignored as WouldIgnore, Waiting as WouldWait, Abort as WouldAbort, Reported as WouldReport}
use Rattle.rc_takeover.specs.Choices.{choice}

-- how many datacentres there are, their weights, and the take-over
pub record KeptTakeOver : Type 0 where
  pub dcs : ℕ
  pub weights : List ℕ
  pub state : TakeoverState

-- a take-over of the rows, as it is kept
abbrev pub kept : Layout → TakeoverState → KeptTakeOver
kept c k = record { dcs = c.dcs; weights = c.weights; state = k }

-- the same with another state
abbrev pub with_state : KeptTakeOver → TakeoverState → KeptTakeOver
with_state k state = record { dcs = k.dcs; weights = k.weights; state = state }

-- a cluster with these datacentres, of which a choice asks no more
abbrev pub cluster_of : KeptTakeOver → Layout
cluster_of k = layout k.dcs 1 [] k.weights

-- it has not proposed yet, and did not hear the datacentre
abbrev pub waits_for : TakeoverState → ℕ → Bool
waits_for k from = not k.has_proposed && not (member nat_cmp k.heard from)

-- it proposes, if it is time to
abbrev pub gone_on : Layout → TakeoverState → TakeoverState
gone_on c k = maybe (chooses c k) k (λ _. proposed k)

abbrev pub said : Option Decision → Heard
said chosen = maybe chosen Waiting Propose

-- what it says to a promise, and what then stands
abbrev pub heard_by : KeptTakeOver → ℕ → Option (ℕ × Decision) → Heard
heard_by k from report = if waits_for k.state from then said (chooses (cluster_of k) (hears k.state from report)) else Ignored

abbrev pub after_promise : KeptTakeOver → ℕ → Option (ℕ × Decision) → KeptTakeOver
after_promise k from report = if waits_for k.state from then with_state k (gone_on (cluster_of k) (hears k.state from report)) else k

-- WHAT IS TOLD BEFOREHAND
-- what would be said: that the promise is ignored, that it goes on waiting, or abort, or a decision that was reported
pub data Foretold : Type 0 where
  ignored : Foretold
  waiting : Foretold
  abort : Foretold
  reported : Decision → Foretold

-- it is what is said
abbrev pub foretells : Foretold → Heard
foretells ignored = Ignored
foretells waiting = Waiting
foretells abort = Propose AbortOf
foretells (reported d) = Propose d

-- by the report that is the best one
abbrev pub foretold_best : Option (ℕ × Decision) → Foretold
foretold_best None = abort
foretold_best (Some report) = reported report.1

abbrev pub foretold_choice : Choice → Option (ℕ × Decision) → Foretold
foretold_choice Nothing best = abort
foretold_choice Best best = foretold_best best

abbrev pub foretold_state : ℕ → List ℕ → TakeoverState → Foretold
foretold_state dcs weights k = maybe (choice dcs weights k.is_eager k.heard k.silent) waiting (λ c. foretold_choice c k.best)

abbrev pub foretold : KeptTakeOver → ℕ → Option (ℕ × Decision) → Foretold
foretold k from report = if waits_for k.state from then foretold_state k.dcs k.weights (hears k.state from report) else ignored

-- an answer by reference
abbrev pub foretold_by : Would → Foretold
foretold_by WouldIgnore = ignored
foretold_by WouldWait = waiting
foretold_by WouldAbort = abort
foretold_by (WouldReport d) = reported d.now

-- what a row makes of the take-over, when a promise comes
abbrev pub promised : Layout → TakeoverState → ℕ → Option (ℕ × Decision) → TakeoverState
promised c k from report =
    if waits_for k from
    then maybe (chooses c (hears k from report)) (hears k from report) (λ _. proposed (hears k from report))
    else k

-- a take-over as it is kept is the take-over of the rows
pub record IsTakeOver (c : Layout) : Type 0 where
  -- it says what the rows propose, and keeps what they make of it
  pub says : (k : TakeoverState) (from : ℕ) (report : Option (ℕ × Decision))
      → heard_by (kept c k) from report ≡ (if waits_for k from then said (chooses c (hears k from report)) else Ignored)
  pub stands : (k : TakeoverState) (from : ℕ) (report : Option (ℕ × Decision))
      → after_promise (kept c k) from report ≡ kept c (promised c k from report)
