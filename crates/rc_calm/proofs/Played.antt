-- A calm script on empty disks is played from a session that begins at rest.
use Rattle.std.proofs.Common.{◌≡◌, ℕ, List, [], ◌∷◌, refl, sym, ap, ◌∙◌, subst, arith, Bool, true, None, ⊎_elim}
use Rattle.std.specs.Prelude.{◌≢◌, length, if◌then◌else◌, ◌&&◌}
use Rattle.std.proofs.lemmas.Bool.{le-leb}
use Rattle.rc_ids.specs.Cluster.{Layout, IsLayout}
use Rattle.rc_report.specs.declared.line.Line.TheVariants.{ScriptBytes}
use Rattle.rc_script.specs.declared.command.Command.{Command}
use Rattle.rc_script.specs.declared.script.NumberedCommand.{NumberedCommand}
use Rattle.rc_script.specs.Reading.{script_of}
use Rattle.rc_runs.specs.Stored.{Place, new_session}
use Rattle.rc_runs.specs.Text.{LimitMet, FarmFault, played, plays, plays_bytes, plays_parsed, plays_script, plays_in, plays_from, most_script_bytes, piece_of}
use Rattle.rc_claims.specs.Calm.{Calm, calm_start, calm_lines, is_calm_from, may_stand, last_begun, over_after}
use Rattle.rc_claims.specs.CalmScripts.{IsCalmScript}
use Rattle.rc_calm.proofs.ScriptFacts.{ScriptHas, facts_of}
use Rattle.rc_calm.proofs.Costs.{Costs}
use Rattle.rc_calm.proofs.Starting.{starts, begun_session, start_between}
use Rattle.rc_calm.proofs.Outcomes.{Outcome, Stops, Written}
use Rattle.rc_calm.proofs.Playing.{Rooms, plays_on, calm_cons}

script_plays : (p : Place) (first : NumberedCommand) (rest : List NumberedCommand) → plays_script p (first ∷ rest) ≡ plays_in p first rest first.command
unfolding plays_script
script_plays p first rest = refl

module _ (p : Place) (bytes : List ℕ) (c : Layout) (first : NumberedCommand) (rest : List NumberedCommand) (h : IsCalmScript p bytes c first rest) where
  has : ScriptHas h.dcs h.shards h.weights rest
  has = facts_of bytes first rest h.dcs h.shards h.weights h.script h.world

  pub is_layout : IsLayout c
  is_layout = subst IsLayout (sym h.layout) has.layout

  pub played_is : played p bytes ≡ plays (begun_session c is_layout) rest
  played_is =
      ap (λ (v : Bool). if v then record { texts = []; ending = FarmFault } else plays_bytes p bytes) h.place.selects
      ∙ (ap (λ (v : Bool). if v then plays_parsed p (script_of bytes) else record { texts = piece_of (ScriptBytes ∷ []); ending = LimitMet }) (le-leb (length bytes) most_script_bytes h.size)
      ∙ (ap (plays_parsed p) h.script
      ∙ (script_plays p first rest
      ∙ (ap (plays_in p first rest) h.world
      ∙ (ap (λ (l : Layout). plays_from rest first.number (new_session p l)) (sym h.layout) ∙ ap (plays_from rest first.number) (starts p c h.place is_layout))))))

  calm_rest : is_calm_from None true rest ≡ true
  calm_rest =
      ap (λ (x : Command). may_stand None true rest x && is_calm_from (last_begun None x) (over_after true x) rest) (sym h.world) ∙ (sym (calm_cons None true first rest) ∙ h.calm)

  pub outcome : (need : Calm → Bool → List NumberedCommand → Costs) → Outcome (Rooms c is_layout need calm_start [] true (begun_session c is_layout) rest) (calm_lines c (first ∷ rest)) (played p bytes)
  outcome need =
      subst (Outcome (Rooms c is_layout need calm_start [] true (begun_session c is_layout) rest) (calm_lines c (first ∷ rest))) (sym played_is)
      (plays_on c is_layout need (length rest) rest (omega arith) calm_start [] None true (begun_session c is_layout) (start_between c is_layout) has.sized calm_rest h.names)

  -- within the limits
  pub ends : (need : Calm → Bool → List NumberedCommand → Costs) → (played p bytes).ending ≢ LimitMet → Written (calm_lines c (first ∷ rest)) (played p bytes)
  ends need n = ⊎_elim (λ (s : Stops (Rooms c is_layout need calm_start [] true (begun_session c is_layout) rest) (played p bytes)). absurd (n s.ending)) (λ w. w) (outcome need)
