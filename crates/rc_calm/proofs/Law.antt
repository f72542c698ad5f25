-- The law of calm scripts.
use Rattle.std.proofs.Common.{ℕ, ◌≤◌, List, [], ◌∷◌, arith, true, ⊎_elim}
use Rattle.std.specs.Prelude.{length, filter}
use Rattle.rc_ids.specs.Cluster.{Layout}
use Rattle.rc_script.specs.declared.script.NumberedCommand.{NumberedCommand}
use Rattle.rc_runs.specs.Refusals.{most_transactions}
use Rattle.rc_runs.specs.Stored.{Place}
use Rattle.rc_runs.specs.Text.{played}
use Rattle.rc_claims.specs.Calm.{calm_start, calm_lines}
use Rattle.rc_claims.specs.CalmScripts.{IsCalmScript, WritesCalmLines, is_begin}
use Rattle.rc_calm.proofs.Starting.{begun_session}
use Rattle.rc_calm.proofs.ScriptSizes.{script_size}
use Rattle.rc_calm.proofs.Outcomes.{Stops, Written}
use Rattle.rc_calm.proofs.Playing.{Rooms}
use Rattle.rc_calm.proofs.Played.{is_layout, outcome, ends}
use Rattle.rc_calm.proofs.Needs.{need, covering}

-- a script of at most 1,024 transactions has room
start_rooms : (p : Place) (bytes : List ℕ) (c : Layout) (first : NumberedCommand) (rest : List NumberedCommand) (h : IsCalmScript p bytes c first rest) → length (filter is_begin rest) ≤ most_transactions
    → Rooms c (is_layout p bytes c first rest h) need calm_start [] true (begun_session c (is_layout p bytes c first rest h)) rest
start_rooms p bytes c first rest h few =
    let s = script_size bytes (first ∷ rest) h.script in
    let n = s.number in
    let w = s.weight in
    let b = h.size in
    record {
      covering = covering c (is_layout p bytes c first rest h);
      few = omega (arith, few);
      room = record { events = omega (arith, n, few); messages = omega (arith, few); bytes = omega (arith, few, w, b); text = omega (arith, n) };
    }

pub calm_law : (p : Place) (bytes : List ℕ) (c : Layout) (first : NumberedCommand) (rest : List NumberedCommand) → WritesCalmLines p bytes c first rest
calm_law p bytes c first rest = record {
  ends = λ h n. (ends p bytes c first rest h need n).ending;
  text = λ h n. (ends p bytes c first rest h need n).text;
  fits = λ h few e. ⊎_elim
      (λ (s : Stops (Rooms c (is_layout p bytes c first rest h) need calm_start [] true (begun_session c (is_layout p bytes c first rest h)) rest) (played p bytes)). s.room (start_rooms p bytes c first rest h few))
      (λ (w : Written (calm_lines c (first ∷ rest)) (played p bytes)). let d = w.ending in cc)
      (outcome p bytes c first rest h need);
}
