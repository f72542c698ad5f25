-- Runs of lists of happenings that are cut.
use Rattle.std.proofs.Common.{◌≡◌, List, [], ◌∷◌, ◌++◌, refl, sym, ap, ◌∙◌, append_assoc, cond}
use Rattle.rc_ids.specs.Parties.{is_same_party}
use Rattle.rc_ids.specs.declared.names.Party.{Party}
use Rattle.rc_report.specs.declared.line.Line.{Line}
use Rattle.rc_runs.specs.World.{World, actor}
use Rattle.rc_runs.specs.Refusals.{Happening, after_event, lines_at, run}
use Rattle.rc_composition.specs.Prints.{lines_by}
use Rattle.rc_composition.specs.OneRun.{AreEvents}

pub run_on : (w : World) (hs more : List Happening) → run w (hs ++ more) ≡ run (run w hs) more
run_on w [] more = refl
run_on w (h ∷ hs) more = run_on (after_event w h) hs more

abbrev first_lines : Party → World → Happening → List Line
first_lines p w h = cond (is_same_party (actor w.sent h.0) p) (lines_at w h) []

pub lines_on : (p : Party) (w : World) (hs more : List Happening) → lines_by p w (hs ++ more) ≡ lines_by p w hs ++ lines_by p (run w hs) more
lines_on p w [] more = refl
lines_on p w (h ∷ hs) more =
    let ih = lines_on p (after_event w h) hs more in
    ap (λ (ls : List Line). first_lines p w h ++ ls) ih
    ∙ sym (append_assoc (first_lines p w h) (lines_by p (after_event w h) hs) (lines_by p (run (after_event w h) hs) more))

pub events_on : (w : World) (hs more : List Happening) → AreEvents w hs → AreEvents (run w hs) more → AreEvents w (hs ++ more)
events_on w [] more all rest = rest
events_on w (h ∷ hs) more all rest = (all.0, events_on (after_event w h) hs more all.1 rest)
