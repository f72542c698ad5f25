-- What lines do, put behind the lines so far.
use Rattle.std.proofs.Common.{◌≡◌, ℕ, zero, suc, ◌+◌, List, [], ◌∷◌, ◌++◌, length, take, drop, Option, None, Some, refl, sym, ◌∙◌, ap, subst, append_assoc}
use Rattle.std.proofs.lemmas.List.{append-nil}
use Rattle.std.specs.Prelude.{Ok, Err}
use Rattle.rc_ids.specs.Tables.{maybe}
use Rattle.rc_report.specs.declared.line.Line.{Line}
use Rattle.rc_report.specs.declared.line.Line.TheVariants.{Settled}
use Rattle.rc_report.specs.declared.fault.Which.TheVariants.{Events}
use Rattle.rc_runs.specs.declared.event.Event.{Event}
use Rattle.rc_runs.specs.declared.event.Event.TheVariants.{Deliver}
use Rattle.rc_runs.specs.World.{World}
use Rattle.rc_runs.specs.Session.{Session, Happened, Halt, Limited, Misnamed, disk_change, happens, prints}
use Rattle.rc_runs.specs.Refusals.{Happening}
use Rattle.rc_runs.specs.Script.{LineDone, line_done, then_line, then_trace, unless_halted, by_event, by_lines, idle, oldest, steps, settles}
use Rattle.rc_plain_world.specs.Networks as networks
use Rattle.rc_plain_world.specs.declared.fault.SessionFault.{SessionFault}
use Rattle.rc_plain_world.specs.declared.fault.SessionFault.TheVariants.{NoMemory, Naming, Limit}
use Rattle.rc_plain_world.specs.Sessions.{Halts, Halted, Performed, EventHappened, Stay}
use Rattle.rc_plain_world.specs.Lines.{Did, Ended, Counts, Refuses}

-- what went well, and what was refused
pub did_went : (z : Session) (trace : List Happening) (went : Happened) (after : Session) (own lines now : List Line) → went ≡ Ok (after, own) → now ≡ lines ++ own → Did (line_done z trace went) after lines now
did_went z trace went after own lines now is printed =
    record {
      after = ap (λ (w : Happened). (line_done z trace w).after) is;
      lines = ap (λ (w : Happened). lines ++ (line_done z trace w).lines) is ∙ sym printed;
      ends = ap (λ (w : Happened). (line_done z trace w).halt) is;
    }

halted_at : (z : Session) (trace : List Happening) (went : Happened) (halt : Halt) (lines now : List Line) → went ≡ Err halt → now ≡ lines → ((then_line lines (line_done z trace went)).lines ≡ now) × ((then_line lines (line_done z trace went)).halt ≡ Some halt)
halted_at z trace went halt lines now is stays =
    (ap (λ (w : Happened). lines ++ (line_done z trace w).lines) is ∙ append-nil lines ∙ sym stays, ap (λ (w : Happened). (line_done z trace w).halt) is)

pub ended_went : (e : SessionFault) (z : Session) (trace : List Happening) (went : Happened) (lines now : List Line) → Halts e went → Stay e lines now → Ended e (line_done z trace went) lines now
ended_went NoMemory z trace went lines now halts stays = tt
ended_went (Limit which) z trace went lines now halts stays = halted_at z trace went (Limited which) lines now halts stays
ended_went (Naming name) z trace went lines now halts stays = halted_at z trace went (Misnamed name) lines now halts stays

pub did_happen : (z : Session) (e : Event) (after : Session) (own lines now : List Line) → EventHappened (happens z e) after own lines now → Did (by_event z e) after lines now
did_happen z e after own lines now went = did_went z ((e, (disk_change z e).course) ∷ []) (happens z e) after own lines now went.went_so went.prints

-- what a line did, but for its events
abbrev pub bare : LineDone → LineDone
bare done = record done { trace = [] }

-- lines behind lines
behind : (L own : List Line) (trace : List Happening) (next : LineDone) → bare (then_line L (then_trace trace (then_line own next))) ≡ bare (then_line (L ++ own) next)
behind L own trace next = ap (λ (ls : List Line). let done : LineDone = record { after = next.after; trace = []; lines = ls; halt = next.halt } in done) (sym (append_assoc L own next.lines))

pub goes : (L : List Line) (done : LineDone) (next : Session → LineDone) (z : Session) (now : List Line) → Did done z L now → bare (then_line L (unless_halted done next)) ≡ bare (then_line now (next z))
goes L done next z now did =
    ap (λ (h : Option Halt). bare (then_line L (maybe h (then_trace done.trace (then_line done.lines (next done.after))) (λ halt. done)))) did.ends
    ∙ behind L done.lines done.trace (next done.after)
    ∙ ap (λ (ls : List Line). bare (then_line ls (next done.after))) did.lines
    ∙ ap (λ (y : Session). bare (then_line now (next y))) did.after

stops_at : (done : LineDone) (next : Session → LineDone) (halt : Halt) → done.halt ≡ Some halt → unless_halted done next ≡ done
stops_at done next halt is = ap (λ (h : Option Halt). maybe h (then_trace done.trace (then_line done.lines (next done.after))) (λ halt. done)) is

pub stops : (e : SessionFault) (L : List Line) (done : LineDone) (next : Session → LineDone) (now : List Line) → Ended e done L now → Ended e (unless_halted done next) L now
stops NoMemory L done next now ended = tt
stops (Limit which) L done next now ended = subst (λ (d : LineDone). Ended (Limit which) d L now) (sym (stops_at done next (Limited which) ended.1)) ended
stops (Naming name) L done next now ended = subst (λ (d : LineDone). Ended (Naming name) d L now) (sym (stops_at done next (Misnamed name) ended.1)) ended

-- where all that is left comes to what was to be done, but for the events
pub ends_so : (e : SessionFault) (now : List Line) (a b : LineDone) → bare a ≡ bare b → Halted e a now → Halted e b now
ends_so NoMemory now a b is h = tt
ends_so (Limit which) now a b is h = (ap (λ (d : LineDone). d.lines) (sym is) ∙ h.0, ap (λ (d : LineDone). d.halt) (sym is) ∙ h.1)
ends_so (Naming name) now a b is h = (ap (λ (d : LineDone). d.lines) (sym is) ∙ h.0, ap (λ (d : LineDone). d.halt) (sym is) ∙ h.1)

pub performs_so : (a b : LineDone) (z : Session) (now : List Line) → bare a ≡ bare b → Performed a z now → Performed b z now
performs_so a b z now is h = record {
  after = ap (λ (d : LineDone). d.after) (sym is) ∙ h.after;
  lines = ap (λ (d : LineDone). d.lines) (sym is) ∙ h.lines;
  ends = ap (λ (d : LineDone). d.halt) (sym is) ∙ h.ends;
}

pub idles : (z : Session) (lines : List Line) → Performed (then_line lines (idle z)) z lines
idles z lines = record { after = refl; lines = append-nil lines; ends = refl }

-- OWN LINES
pub counted : (z : Session) (own : List Line) (after : Session) (lines now : List Line) → Counts (prints z (drop (length lines) (lines ++ own))) after (drop (length lines) (lines ++ own)) (lines ++ own) now
    → drop (length lines) (lines ++ own) ≡ own → Did (by_lines z own) after lines now
counted z own after lines now c is =
    did_went z [] (prints z own) after own lines now (ap (λ (ls : List Line). prints z ls) (sym is) ∙ c.went_so ∙ ap (λ (ls : List Line). Ok (after, ls)) is) c.stays

pub refused : (e : SessionFault) (z : Session) (own lines now : List Line) → Refuses e (prints z (drop (length lines) (lines ++ own))) (take (length lines) (lines ++ own)) now
    → drop (length lines) (lines ++ own) ≡ own → take (length lines) (lines ++ own) ≡ lines → Ended e (by_lines z own) lines now
refused e z own lines now r is kept =
    ended_went e z [] (prints z own) lines now (subst (λ (ls : List Line). Halts e (prints z ls)) is r.halts) (subst (λ (ls : List Line). Stay e ls now) kept r.stays)

-- STEPPING AND SETTLING
pub oldest_is : (w : World) → networks.oldest w.pending ≡ oldest w
oldest_is w = by_cases w.pending
  where
    by_cases : (ns : List ℕ) → networks.oldest ns ≡ oldest (record w { pending = ns })
    by_cases [] = refl
    by_cases (n ∷ ns) = refl

pub steps-zero : (z : Session) → steps 0 z ≡ idle z
unfolding steps
steps-zero z = refl

pub steps-none : (n : ℕ) (z : Session) → oldest z.world ≡ None → steps n z ≡ idle z
unfolding steps
steps-none zero z is = refl
steps-none (suc n) z is = rw is refl

pub steps-some : (n : ℕ) (z : Session) (m : ℕ) → oldest z.world ≡ Some m → steps (suc n) z ≡ unless_halted (by_event z (Deliver m)) (steps n)
unfolding steps
steps-some n z m is = rw is refl

pub settles-none : (fuel count : ℕ) (z : Session) → oldest z.world ≡ None → settles fuel count z ≡ by_lines z (Settled count ∷ [])
unfolding settles
settles-none zero count z is = rw is refl
settles-none (suc fuel) count z is = rw is refl

pub settles-some : (fuel count : ℕ) (z : Session) (m : ℕ) → oldest z.world ≡ Some m → settles (suc fuel) count z ≡ unless_halted (by_event z (Deliver m)) (settles fuel (count + 1))
unfolding settles
settles-some fuel count z m is = rw is refl

pub settles-end : (count : ℕ) (z : Session) (m : ℕ) → oldest z.world ≡ Some m → settles 0 count z ≡ record { after = z; trace = []; lines = []; halt = Some (Limited Events) }
unfolding settles
settles-end count z m is = rw is refl
