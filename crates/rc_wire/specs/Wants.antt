-- Which messages are wanted.
use Rattle.std.specs.Prelude.{ℕ, zero, suc, ◌==◌, Bool, true, false, ◌&&◌, ◌||◌, not, List, [], ◌∷◌, drop, find, slice_get, Option, Some, None}
use Rattle.rc_ids.specs.declared.names.Party.{Party}
use Rattle.rc_net.specs.Network.{Message, message}
use Rattle.rc_wire.specs.declared.want.Want.{Want}
use Rattle.rc_wire.specs.declared.want.Want.TheVariants.{Reads, Rest, Any}
use Rattle.rc_ids.specs.Parties.{is_same_party}
use Rattle.rc_wire.specs.Traffic.{Traffic}

-- how many bytes a party has, by its first byte: a coordinator, a shard server, a client
abbrev pub party_size : ℕ → ℕ
party_size zero = 2
party_size (suc zero) = 3
party_size (suc (suc n)) = 5

-- the bytes after a party
abbrev pub after_party : List ℕ → List ℕ
after_party [] = []
after_party (b ∷ bs) = drop (party_size b) (b ∷ bs)

-- the kind of a message: the byte after its two parties
abbrev pub kind : List ℕ → Option ℕ
kind bytes = slice_get (after_party (after_party bytes)) 0

-- ReadAsk is kind 1, and ReadCancel kind 2
abbrev pub is_read_kind : Option ℕ → Bool
is_read_kind None = false
is_read_kind (Some k) = (k == 1) || (k == 2)

abbrev pub is_read : List ℕ → Bool
is_read bytes = is_read_kind (kind bytes)

abbrev pub is_wanted : Want → List ℕ → Bool
is_wanted Reads bytes = is_read bytes
is_wanted Rest bytes = not (is_read bytes)
is_wanted Any bytes = true

-- a message for the party, that it wants
abbrev pub is_for : Party → Want → Option Message → Bool
is_for party want None = false
is_for party want (Some m) = is_same_party m.to party && is_wanted want m.bytes

-- the first of these messages that is for the party and wanted
abbrev pub first_for : Party → Want → List Message → List ℕ → Option ℕ
first_for party want sent numbers = find (λ number. is_for party want (message sent number)) numbers

-- the oldest pending message that is for the party and wanted
abbrev pub oldest_for : Party → Want → Traffic → Option ℕ
oldest_for party want t = first_for party want t.sent t.pending
