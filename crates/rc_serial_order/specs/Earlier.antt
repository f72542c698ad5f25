-- What a life has of those before it: what they chose stays chosen, and the map that their logs give has their writes and no others.
use Rattle.std.specs.Prelude.{◌≡◌, ℕ, ◌+◌, ◌≤◌, List, Some, IsTrue, is_some}
use Rattle.rc_ids.specs.Tables.{In, found}
use Rattle.rc_ids.specs.Texts.{key_cmp}
use Rattle.rc_ids.specs.declared.names.Outcome.{Outcome}
use Rattle.rc_body.specs.declared.entry.Entry.{Entry}
use Rattle.rc_record.specs.ShardState.{version_at}
use Rattle.rc_serial.specs.OneMap.{Map}
use Rattle.rc_runs.specs.World.{World}
use Rattle.rc_claims.specs.Outcomes.{Chosen, all_committed}

abbrev pub StaysChosen : List World → World → Type 0
StaysChosen earlier w = (v : World) → In v earlier → (outcome : Outcome) (t : ℕ) → Chosen v outcome t → Chosen w outcome t

-- each entry that a transaction of theirs wrote has a row, of the version after the one that it read, or of a later one
abbrev pub HoldsWrites : Map → List World → Type 0
HoldsWrites m earlier = (v : World) (t : ℕ) (body : List Entry) (e : Entry) → In v earlier → In (t, body) (all_committed v) → In e body → IsTrue (is_some e.write) → e.version + 1 ≤ version_at m e.key

-- a transaction in the order of one of them wrote this value, and read the version before
pub record WasWritten (earlier : List World) (k : List ℕ) (version : ℕ) (value : List ℕ) : Type 0 where
  pub life : World
  pub lived : In life earlier
  pub tx : ℕ
  pub body : List Entry
  pub committed : In (tx, body) life.parties.committed
  pub entry : Entry
  pub among : In entry body
  pub key : entry.key ≡ k
  pub write : entry.write ≡ Some value
  pub next : entry.version + 1 ≡ version

-- so with the writes that it holds, each row is the one of the highest version
abbrev pub HasOnlyWrites : Map → List World → Type 0
HasOnlyWrites m earlier = (k : List ℕ) (version : ℕ) (value : List ℕ) → found key_cmp m k ≡ Some (version, value) → WasWritten earlier k version value
