-- What is claimed of calm scripts: those that name rightly write what one map prints.
use Rattle.std.specs.Prelude.{◌≡◌, ◌≢◌, ℕ, ◌≤◌, ◌==◌, Bool, true, not, ◌&&◌, ◌||◌, List, [], ◌∷◌, length, filter, Option, is_some, nat_lt, Ok, false}
use Rattle.std.specs.List.{list_any, flat_map}
use Rattle.rc_ids.specs.Cluster.{Layout}
use Rattle.rc_ids.specs.declared.names.NodeId.{NodeId}
use Rattle.rc_report.specs.Lines.{line_text}
use Rattle.rc_script.specs.Reading.{script_of}
use Rattle.rc_script.specs.declared.command.Command.{Command}
use Rattle.rc_script.specs.declared.command.Command.TheVariants as commands
use Rattle.rc_script.specs.declared.script.NumberedCommand.{NumberedCommand}
use Rattle.rc_claims.specs.Calm.{Calm, Touched, touched_of, over_after, calm_after, calm_start, calm_lines, is_calm}
use Rattle.rc_runs.specs.Refusals.{most_transactions}
use Rattle.rc_runs.specs.Stored.{Place}
use Rattle.rc_runs.specs.Text.{Done, LimitMet, played, layout_of, most_script_bytes}

-- WHAT A CALM SCRIPT NAMES RIGHTLY: a new transaction begins; the others are of the one that is open; no key is the 33rd
abbrev pub has_room : List Touched → List ℕ → Bool
has_room touched k = is_some (touched_of touched k) || nat_lt (length touched) 32

abbrev pub names : List ℕ → Bool → Calm → Command → Bool
names begun is_over m (commands.Begin t) = not (list_any (λ (u : ℕ). u == t) begun)
names begun is_over m (commands.Read t k) = not is_over && has_room m.touched k
names begun is_over m (commands.Write t k value) = not is_over && has_room m.touched k
names begun is_over m (commands.Delete t k) = not is_over && has_room m.touched k
names begun is_over m (commands.Commit t) = not is_over
names begun is_over m _ = true

abbrev pub begun_after : List ℕ → Command → List ℕ
begun_after begun (commands.Begin t) = t ∷ begun
begun_after begun _ = begun

unfoldable pub names_rightly_from : Layout → List ℕ → Bool → Calm → List NumberedCommand → Bool
names_rightly_from c begun is_over m [] = true
names_rightly_from c begun is_over m (x ∷ xs) =
    names begun is_over m x.command && names_rightly_from c (begun_after begun x.command) (over_after is_over x.command) (calm_after c m x.command) xs

abbrev pub is_begin : NumberedCommand → Bool
is_begin c = begins c.command
  where
    begins : Command → Bool
    begins (commands.Begin t) = true
    begins _ = false

-- the disks are empty, and no call fails
pub record IsFaultless (p : Place) : Type 0 where
  pub content : (node : NodeId) → p.content node ≡ []
  pub failing : (node : NodeId) → p.failing node ≡ []
  pub failing_reads : (node : NodeId) → p.failing_reads node ≡ []
  pub selects : p.select_fails ≡ false
  pub lends : (node : NodeId) → p.lend_fails node ≡ false

-- THE LAW, for a script whose first line makes the world c
pub record IsCalmScript (p : Place) (bytes : List ℕ) (c : Layout) (first : NumberedCommand) (rest : List NumberedCommand) : Type 0 where
  pub place : IsFaultless p
  pub size : length bytes ≤ most_script_bytes
  pub script : script_of bytes ≡ Ok (first ∷ rest)
  pub dcs : ℕ
  pub shards : ℕ
  pub weights : Option (List ℕ)
  pub world : first.command ≡ commands.World dcs shards weights
  pub layout : c ≡ layout_of dcs shards weights rest
  pub calm : is_calm (first ∷ rest) ≡ true
  pub names : names_rightly_from c [] true calm_start rest ≡ true

-- within the limits it runs to its end and writes what one map prints; with at most so many transactions it is within the limits
pub record WritesCalmLines (p : Place) (bytes : List ℕ) (c : Layout) (first : NumberedCommand) (rest : List NumberedCommand) : Type 0 where
  pub ends : IsCalmScript p bytes c first rest → (played p bytes).ending ≢ LimitMet → (played p bytes).ending ≡ Done
  pub text : IsCalmScript p bytes c first rest → (played p bytes).ending ≢ LimitMet
      → flat_map (λ (x : List ℕ). x) (played p bytes).texts ≡ flat_map line_text (calm_lines c (first ∷ rest))
  pub fits : IsCalmScript p bytes c first rest → length (filter is_begin rest) ≤ most_transactions → (played p bytes).ending ≢ LimitMet
