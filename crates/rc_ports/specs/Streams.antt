-- What a source has left and what a sink has taken, and those in memory.
use Rattle.std.specs.Prelude.{ℕ, ◌-◌, ◌^◌, List, [], ◌++◌, drop, Option}
use Rattle.std.specs.Option.{option_map}
use Rattle.rc_ports.specs.Causes.{raised}

-- where the bytes are told, these are at their end now
abbrev pub grown : List ℕ → Option (List ℕ) → Option (List ℕ)
grown bytes known = option_map (λ (old : List ℕ). old ++ bytes) known

-- a source in memory: what it has left, the most bytes a call gives, the calls made, the numbers of those that fail, and its faults
pub record Supply : Type 0 where
  pub left : List ℕ
  pub piece : ℕ
  pub calls : ℕ
  pub fails : List ℕ
  pub faults : ℕ

-- one that no call was made of
abbrev pub supply : List ℕ → List ℕ → Supply
supply left fails = record { left = left; piece = 2 ^ 64 - 1; calls = 0; fails = fails; faults = 0 }

abbrev pub in_pieces : ℕ → Supply → Supply
in_pieces piece s = record s { piece = piece }

-- after a call that gave so many bytes
abbrev pub gave : ℕ → Supply → Supply
gave n s = record s { left = drop n s.left; calls = raised s.calls }

-- after a call that failed
abbrev pub refused_read : Supply → Supply
refused_read s = record s { calls = raised s.calls; faults = raised s.faults }

-- a sink in memory: what it took, how much it can take in all, the most bytes a call takes, the calls made, the numbers of those that fail, and its faults
pub record Store : Type 0 where
  pub taken : List ℕ
  pub capacity : ℕ
  pub piece : ℕ
  pub calls : ℕ
  pub fails : List ℕ
  pub faults : ℕ

-- one that no call was made of
abbrev pub store : ℕ → List ℕ → Store
store capacity fails = record { taken = []; capacity = capacity; piece = 2 ^ 64 - 1; calls = 0; fails = fails; faults = 0 }

abbrev pub stored_in_pieces : ℕ → Store → Store
stored_in_pieces piece s = record s { piece = piece }

-- after a call that took the bytes
abbrev pub took : List ℕ → Store → Store
took bytes s = record s { taken = s.taken ++ bytes; calls = raised s.calls }

-- after a call that failed
abbrev pub refused_write : Store → Store
refused_write s = record s { calls = raised s.calls; faults = raised s.faults }
