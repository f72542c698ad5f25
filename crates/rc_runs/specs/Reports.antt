-- The summary of a generated script, and what threads report.
use Rattle.std.specs.Prelude.{ℕ, ◌==◌, Bool, true, false, ◌||◌, List, [], ◌∷◌, ◌++◌, filter, length, count_by, Option, Some, None, if◌then◌else◌}
use Rattle.std.specs.List.{flat_map, list_any}
use Rattle.rc_ids.specs.Tables.{maybe}
use Rattle.rc_ids.specs.declared.names.Outcome.{Outcome}
use Rattle.rc_ids.specs.declared.names.Outcome.TheVariants.{Commit as Committed, Abort as Aborted}
use Rattle.rc_body.specs.Decisions.{outcome_of}
use Rattle.rc_report.specs.declared.line.Count.TheVariants as counts
use Rattle.rc_report.specs.declared.line.Rest.{Rest}
use Rattle.rc_report.specs.declared.line.Rest.TheVariants.{Gone, Unknown, Open}
use Rattle.rc_report.specs.declared.line.Line.{Line}
use Rattle.rc_report.specs.declared.line.Line.TheVariants.{Read, Own, Refused, Learned, Order as OrderLine, Left, Counted}
use Rattle.rc_protocol.specs.Client.{Client, is_vanished, is_committing, is_proposed, waits_for_read}
use Rattle.rc_runs.specs.World.{World, order}

-- THE SUMMARY: clients that printed an outcome keep it
abbrev pub same_outcome : Outcome → Outcome → Bool
same_outcome Committed Committed = true
same_outcome Aborted Aborted = true
same_outcome _ _ = false

abbrev pub has_outcome : Outcome → Client → Bool
has_outcome outcome x = maybe x.outcome false (λ o. same_outcome outcome (outcome_of o))

abbrev pub clients_with : World → Outcome → ℕ
clients_with w outcome = count_by (λ (x : ℕ × Client). has_outcome outcome x.1) w.parties.clients

-- of a script that begins so many transactions, with all deliveries of its run
abbrev pub summary : ℕ → World → List Line
summary size w =
    Counted counts.Transactions size ∷ Counted counts.Committed (clients_with w Committed) ∷ Counted counts.Aborted (clients_with w Aborted)
    ∷ Counted counts.Deliveries (length w.delivered) ∷ []

-- THE REPORT of threads: of each client its lines, and where it stands without an outcome; then the order
abbrev pub is_line_of : ℕ → Line → Bool
is_line_of t (Read u k version value) = u == t
is_line_of t (Own u k value) = u == t
is_line_of t (Refused u d reason) = u == t
is_line_of t (Learned u outcome) = u == t
is_line_of t _ = false

abbrev pub is_outcome : Line → Bool
is_outcome (Learned t outcome) = true
is_outcome _ = false

abbrev pub rest_of : Client → Rest
rest_of x =
    if is_vanished x.phase then Gone
    else (if waits_for_read x.slots || (is_committing x.phase || is_proposed x.phase) then Unknown else Open)

abbrev pub client_report : List Line → ℕ × Client → List Line
client_report lines x =
    filter (is_line_of x.0) lines ++ (if list_any is_outcome (filter (is_line_of x.0) lines) then [] else Left x.0 (rest_of x.1) ∷ [])

-- of a run that printed these lines
abbrev pub report : List Line → World → List Line
report lines w = flat_map (client_report lines) w.parties.clients ++ OrderLine (order w) ∷ []
