-- What each log keeps.
use Rattle.std.specs.Prelude.{ℕ, ◌≡◌, ◌+◌, ◌*◌, ◌<◌, ◌≤◌, ◌^◌, Bool, false, List, length, Option}
use Rattle.std.specs.Option.{ForSome}
use Rattle.rc_disk.specs.Calls.{Told}
use Rattle.rc_log.specs.Append.{listed, IsSettled}

-- the records are those counted, unless an append failed, and what is spare is there
pub record IsIntact (content : Option (List ℕ)) (may_leave : List ℕ → Type 0) (told : Option Told) (len spare_calls spare_bytes room end count limit spare : ℕ) (failed : Bool) : Type 0 where
  pub settled : failed ≡ false → IsSettled content may_leave told len end
  pub no_more : failed ≡ false → ForSome content (λ c. length (listed c) ≤ count)
  pub enough : ForSome content (λ c. count ≤ length (listed c))
  pub few : 5 * count ≤ end
  pub limited : limit < 2 ^ 32
  pub calls : 0 < spare → 4 ≤ spare_calls
  pub bytes : 0 < spare → spare + 5 ≤ spare_bytes
  pub frame : 0 < spare → spare + 4 ≤ room
