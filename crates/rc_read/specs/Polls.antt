-- Reads of the grants that an inbox gives.
use Rattle.std.specs.Prelude.{◌≡◌, ℕ, ◌+◌, ◌-◌, ◌^◌, nat_lt, List, [], ◌∷◌, ◌++◌, length, take, Option, None, Some, if◌then◌else◌}
use Rattle.futures.specs.declared.task.Poll.{Poll}
use Rattle.futures.specs.declared.task.Poll.TheVariants.{Ready, Pending}
use Rattle.rc_ids.specs.Tables.{maybe}
use Rattle.rc_protocol.specs.Client.{Grant}
use Rattle.rc_read.specs.declared.state.ReadDone.{ReadDone}
use Rattle.rc_read.specs.Reads.{Reading, answer_to, after_offer}

-- a count that stands at the largest number of 64 bits
abbrev pub one_wait_more : ℕ → ℕ
one_wait_more n = if nat_lt (n + 1) (2 ^ 64) then n + 1 else n

-- what the first grant that completes the read gives, of grants offered in their order
abbrev pub outcome : Reading → List Grant → Option ReadDone
outcome r [] = None
outcome r (g ∷ gs) = maybe (answer_to r g) (outcome (after_offer r g) gs) Some

-- what the grants make of the read
abbrev pub after_offers : Reading → List Grant → Reading
after_offers r [] = r
after_offers r (g ∷ gs) = after_offers (after_offer r g) gs

-- some grants complete the read, and give this
abbrev pub Gives : Reading → ReadDone → Type 0
Gives r done = (gs : List Grant) × (outcome r gs ≡ Some done)

abbrev pub polled : Poll ReadDone → Option ReadDone
polled (Ready done) = Some done
polled Pending = None

-- the grants that the inbox gave meanwhile were offered in their order, and gave this; those before the last of them gave nothing, so
-- that no grant is taken behind the one that completes the read
pub record Taken (given_old : List Grant) (old : Reading) (given_new : List Grant) (new : Reading) (answer : Option ReadDone) : Type 0 where
  pub grants : List Grant
  pub given : given_new ≡ given_old ++ grants
  pub state : new ≡ after_offers old grants
  pub gave : answer ≡ outcome old grants
  pub before : outcome old (take (length grants - 1) grants) ≡ None
