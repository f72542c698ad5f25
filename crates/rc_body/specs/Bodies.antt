-- Bodies: what they have of a key and of a shard, and when a list of entries is one.
use Rattle.std.specs.Prelude.{◌≡◌, ℕ, ◌≤◌, ◌==◌, Bool, false, ◌&&◌, List, [], ◌∷◌, length, filter, is_some}
use Rattle.std.specs.List.{list_any}
use Rattle.rc_ids.specs.Cluster.{Layout, shard_of}
use Rattle.rc_ids.specs.Tables.{up_to}
use Rattle.rc_ids.specs.Texts.{same_key}
use Rattle.rc_body.specs.declared.entry.Entry.{Entry}
use Rattle.rc_body.specs.Entries.{wears_out}

-- the key is read or written
abbrev pub has_key : List ℕ → List Entry → Bool
has_key k body = list_any (λ e. same_key e.key k) body

-- the key is written
abbrev pub writes : List ℕ → List Entry → Bool
writes k body = list_any (λ e. same_key e.key k && is_some e.write) body

-- the entries with keys of a shard
abbrev pub part : Layout → ℕ → List Entry → List Entry
part c s body = filter (λ e. shard_of c e.key == s) body

-- a key is of the shard
abbrev pub touches : Layout → List Entry → ℕ → Bool
touches c body s = list_any (λ e. shard_of c e.key == s) body

-- the shards that have a key of the body
abbrev pub touched : Layout → List Entry → List ℕ
touched c body = filter (touches c body) (up_to c.shards)

-- no key comes twice
abbrev pub KeysDiffer : List Entry → Type 0
KeysDiffer [] = Unit {0}
KeysDiffer (e ∷ es) = (has_key e.key es ≡ false) × KeysDiffer es

pub record IsBody (body : List Entry) : Type 0 where
  pub few : length body ≤ 32
  pub lasting : list_any wears_out body ≡ false
  pub apart : KeysDiffer body
