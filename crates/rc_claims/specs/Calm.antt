-- Calm scripts: transactions one after another, each read and commit directly followed by its settle. One map answers them: for each
-- key that was written its version and value. A commit sets the value of each key that it writes and raises its version by one.
use Rattle.std.specs.Prelude.{ℕ, zero, suc, ◌+◌, ◌-◌, ◌*◌, Bool, true, false, cond, ◌&&◌, not, List, [], ◌∷◌, ◌++◌, map, filter, length, count_by, Option, Some, None, is_some, ◌==◌, if◌then◌else◌}
use Rattle.std.specs.List.{list_any}
use Rattle.rc_ids.specs.Tables.{Table, maybe, up_to}
use Rattle.rc_ids.specs.Texts.{same_key, gone}
use Rattle.rc_ids.specs.Cluster.{Layout, is_quorum, shard_of}
use Rattle.rc_ids.specs.declared.names.Outcome.TheVariants.{Commit as Committed}
use Rattle.rc_report.specs.declared.line.Line.{Line}
use Rattle.rc_report.specs.declared.line.Line.TheVariants.{Read as ReadLine, Own, Learned, Settled, Order as OrderLine}
use Rattle.rc_script.specs.declared.command.Command.{Command}
use Rattle.rc_script.specs.declared.command.Command.TheVariants as commands
use Rattle.rc_script.specs.declared.script.NumberedCommand.{NumberedCommand}
use Rattle.rc_body.specs.declared.entry.Entry.{Entry}
use Rattle.rc_record.specs.ShardState.{version_at, value_at}
use Rattle.rc_serial.specs.OneMap.{body_applied}

-- WHICH SCRIPTS ARE CALM
abbrev pub is_settle : Command → Bool
is_settle commands.Settle = true
is_settle _ = false

abbrev pub settles_next : List NumberedCommand → Bool
settles_next [] = false
settles_next (c ∷ cs) = is_settle c.command

abbrev pub is_last : Option ℕ → ℕ → Bool
is_last last t = maybe last false (λ u. u == t)

-- the command may stand here, where this transaction was begun last, and is over or not
abbrev pub may_stand : Option ℕ → Bool → List NumberedCommand → Command → Bool
may_stand last is_over rest (commands.World dcs shards weights) = true
may_stand last is_over rest (commands.Split k) = true
may_stand last is_over rest (commands.Begin t) = is_over
may_stand last is_over rest (commands.Read t k) = is_last last t && settles_next rest
may_stand last is_over rest (commands.Write t k value) = is_last last t
may_stand last is_over rest (commands.Delete t k) = is_last last t
may_stand last is_over rest (commands.Commit t) = is_last last t && settles_next rest
may_stand last is_over rest commands.Settle = true
may_stand last is_over rest commands.Order = true
may_stand last is_over rest _ = false

abbrev pub last_begun : Option ℕ → Command → Option ℕ
last_begun last (commands.Begin t) = Some t
last_begun last _ = last

abbrev pub over_after : Bool → Command → Bool
over_after is_over (commands.Begin t) = false
over_after is_over (commands.Commit t) = true
over_after is_over _ = is_over

unfoldable pub is_calm_from : Option ℕ → Bool → List NumberedCommand → Bool
is_calm_from last is_over [] = true
is_calm_from last is_over (c ∷ cs) = may_stand last is_over cs c.command && is_calm_from (last_begun last c.command) (over_after is_over c.command) cs

abbrev pub is_calm : List NumberedCommand → Bool
is_calm cs = is_calm_from None true cs

-- WHAT ONE MAP PRINTS FOR THEM
-- a key of the transaction at hand
pub record Touched : Type 0 where
  pub key : List ℕ
  pub is_read : Bool
  pub write : Option (List ℕ)

pub record Calm : Type 0 where
  pub rows : Table (List ℕ) (ℕ × List ℕ)  -- the one map
  pub tx : ℕ  -- the transaction last begun
  pub touched : List Touched
  pub committed : List ℕ
  pub due : ℕ  -- what the next settle prints

abbrev pub calm_start : Calm
calm_start = record { rows = []; tx = 0; touched = []; committed = []; due = 0 }

-- the least i for which d1 to di are a quorum
abbrev pub least_quorum_from : Layout → ℕ → ℕ → ℕ
least_quorum_from c zero i = i
least_quorum_from c (suc more) i = if is_quorum c (up_to i) then i else least_quorum_from c more (suc i)

abbrev pub least_quorum : Layout → ℕ
least_quorum c = least_quorum_from c c.dcs 1

-- the deliveries of a read: asks, grants, and cancels to those that came too late
abbrev pub read_deliveries : Layout → ℕ
read_deliveries c = 3 * c.dcs - least_quorum c

abbrev pub in_shard : Layout → List Touched → ℕ → Bool
in_shard c touched sh = list_any (λ (k : Touched). shard_of c k.key == sh) touched

abbrev pub shards_held : Layout → List Touched → ℕ
shards_held c touched = length (filter (in_shard c touched) (up_to c.shards))

-- the deliveries of a commit: reads of the keys that are written and were not read, proposals, prepares, answers, finishes and votes
abbrev pub commit_deliveries : Layout → List Touched → ℕ
commit_deliveries c touched =
    count_by (λ (k : Touched). is_some k.write && not k.is_read) touched * read_deliveries c
    + c.dcs + 3 * shards_held c touched * c.dcs + c.dcs * (c.dcs + 1)

abbrev pub touched_of : List Touched → List ℕ → Option Touched
touched_of [] k = None
touched_of (x ∷ xs) k = cond (same_key x.key k) (Some x) (touched_of xs k)

abbrev pub touched_set : List Touched → Touched → List Touched
touched_set [] new = new ∷ []
touched_set (x ∷ xs) new = cond (same_key x.key new.key) (new ∷ xs) (x ∷ touched_set xs new)

abbrev pub with_due : Calm → List Touched → ℕ → Calm
with_due m touched due = record { rows = m.rows; tx = m.tx; touched = touched; committed = m.committed; due = due }

-- the map's row
abbrev pub row_line : Calm → List ℕ → Line
row_line m k = ReadLine m.tx k (version_at m.rows k) (value_at m.rows k)

abbrev pub read_line : Calm → List ℕ → Option Touched → Line
read_line m k None = row_line m k
read_line m k (Some x) = maybe x.write (row_line m k) (λ value. Own m.tx k value)

abbrev pub after_read : Layout → Calm → List ℕ → Calm
after_read c m k = maybe (touched_of m.touched k) (with_due m (touched_set m.touched (record { key = k; is_read = true; write = None })) (read_deliveries c)) (λ x. with_due m m.touched 0)

abbrev pub after_write : Calm → List ℕ → List ℕ → Calm
after_write m k value =
    with_due m (touched_set m.touched (record { key = k; is_read = maybe (touched_of m.touched k) false (λ x. x.is_read); write = Some value })) 0

abbrev pub written : Touched → Entry
written x = record { key = x.key; version = 0; write = x.write }

abbrev pub after_commit : Layout → Calm → Calm
after_commit c m = record { rows = body_applied m.rows (map written m.touched); tx = m.tx; touched = []; committed = m.committed ++ m.tx ∷ []; due = commit_deliveries c m.touched }

abbrev pub calm_after : Layout → Calm → Command → Calm
calm_after c m (commands.Begin t) = record { rows = m.rows; tx = t; touched = []; committed = m.committed; due = 0 }
calm_after c m (commands.Read t k) = after_read c m k
calm_after c m (commands.Write t k value) = after_write m k value
calm_after c m (commands.Delete t k) = after_write m k gone
calm_after c m (commands.Commit t) = after_commit c m
calm_after c m commands.Settle = with_due m m.touched 0
calm_after c m _ = m

abbrev pub calm_line : Calm → Command → List Line
calm_line m (commands.Read t k) = read_line m k (touched_of m.touched k) ∷ []
calm_line m (commands.Commit t) = Learned m.tx Committed ∷ []
calm_line m commands.Settle = Settled m.due ∷ []
calm_line m commands.Order = OrderLine m.committed ∷ []
calm_line m _ = []

-- what one map prints for the commands after the one that makes the world
unfoldable pub calm_from : Layout → Calm → List NumberedCommand → List Line
calm_from c m [] = []
calm_from c m (x ∷ xs) = calm_line m x.command ++ calm_from c (calm_after c m x.command) xs

abbrev pub calm_lines : Layout → List NumberedCommand → List Line
calm_lines c [] = []
calm_lines c (world ∷ xs) = calm_from c calm_start xs
