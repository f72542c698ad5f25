-- A script as a whole: its world, its limits, and what was read of its source.
use Rattle.std.proofs.Common.{◌≡◌, ℕ, List, [], ◌∷◌, length, Option, refl, sym, ap, ◌∙◌, subst}
use Rattle.std.specs.Prelude.{Result, Ok}
use Rattle.std.proofs.lemmas.List.{nil_from_length}
use Rattle.rc_ids.specs.Cluster.{Layout}
use Rattle.rc_ports.specs.declared.status.Status.{Status}
use Rattle.rc_ports.specs.declared.status.Status.TheVariants as statuses
use Rattle.rc_script.specs.declared.command.Command.{Command}
use Rattle.rc_script.specs.declared.command.Command.TheVariants as commands
use Rattle.rc_script.specs.declared.script.NumberedCommand.{NumberedCommand}
use Rattle.rc_runs.specs.Session.{Session}
use Rattle.rc_runs.specs.Stored.{in_memory, new_session}
use Rattle.rc_runs.specs.Text.{Played, all_done, plays, plays_from, plays_in, plays_script}
use Rattle.rc_player.specs.declared.stop.Stop.{Stop}
use Rattle.rc_player.specs.Written.{Wrote, LaysOut}
use Rattle.rc_player.proofs.Pieces.{grown-nothing}

-- ---- the world

plays_script-none : plays_script in_memory [] ≡ all_done
unfolding plays_script
plays_script-none = refl

plays_script-some : (first : NumberedCommand) (later : List NumberedCommand) → plays_script in_memory (first ∷ later) ≡ plays_in in_memory first later first.command
unfolding plays_script
plays_script-some first later = refl

in_world : (first : NumberedCommand) (later : List NumberedCommand) (command : Command) (c : Layout) (z : Session) → LaysOut command later c → new_session in_memory c ≡ Ok z
    → plays_in in_memory first later command ≡ plays z later
in_world first later (commands.World dcs shards weights) c z lays made =
    ap (plays_from later first.number) (ap (new_session in_memory) (sym lays) ∙ made)
in_world first later _ c z lays made = absurd lays

pub script_wrote : (cs : List NumberedCommand) (first : NumberedCommand) (later : List NumberedCommand) (c : Layout) (z : Session) (r : Result Status Stop) (a b : Option (List ℕ)) → cs ≡ first ∷ later
    → LaysOut first.command later c → new_session in_memory c ≡ Ok z → Wrote (plays z later) r a b → Wrote (plays_script in_memory cs) r a b
script_wrote cs first later c z r a b is lays made wrote =
    subst (λ (all : Played). Wrote all r a b) (sym (ap (plays_script in_memory) is ∙ plays_script-some first later ∙ in_world first later first.command c z lays made)) wrote

pub script_wrote_none : (cs : List NumberedCommand) (a : Option (List ℕ)) → length cs ≡ 0 → Wrote (plays_script in_memory cs) (Ok statuses.Done) a a
script_wrote_none cs a none =
    subst (λ (all : Played). Wrote all (Ok statuses.Done) a a) (sym (ap (plays_script in_memory) (nil_from_length cs none) ∙ plays_script-none)) (record { text = grown-nothing a; ending = refl })
