-- What holds of every client.
use Rattle.std.specs.Prelude.{◌≡◌, true, false, List}
use Rattle.rc_protocol.specs.Client.{Phase, Slot, is_proposed, is_worn}

-- a version follows that of each key that a proposed commit writes
pub record IsLasting (phase : Phase) (slots : List Slot) : Type 0 where
  pub proposed : is_proposed phase ≡ true → is_worn slots ≡ false
