-- A record with a spelling keeps a coordinator's durable state in the grammar.
use Rattle.std.proofs.Common.{◌≡◌, ℕ, List, [], ◌∷◌, refl, arith, Option, Some, None}
use Rattle.std.specs.Prelude.{max}
use Rattle.std.specs.List.{AllByRecursion}
use Rattle.std.specs.Ordering.{nat_cmp}
use Rattle.rc_ids.specs.Tables.{Table, found}
use Rattle.rc_body.specs.Spelling.{HasDecision, HasOutcome, HasReport}
use Rattle.rc_body.specs.declared.decision.Decision.{Decision}
use Rattle.rc_fields.specs.Ranges.{IsBallotNumber}
use Rattle.rc_record.specs.Spelling.{HasRecord}
use Rattle.rc_record.specs.CoordState.{promise_of, outcome_of, promise_raised, coord_applied}
use Rattle.rc_record.specs.declared.record.Record.{Record}
use Rattle.rc_record.specs.declared.record.Record.TheVariants.{Head, Prepared, Finished, Promised, Accepted, Decided}
use Rattle.rc_protocol.specs.Nodes.{coord_replayed, coord_started, applied}
use Rattle.rc_protocol.specs.Coordinator.{CoordDurable, new_durable}
use Rattle.rc_grammar.specs.Acts.{HasLog, HasLogged}
use Rattle.rc_grammar.specs.Coordinators.{HasPromise, HasAccepted, HasCoordDurable, HasCoordVolatile, HasCoordNode}
use Rattle.rc_grammar.proofs.Lists.{on_maybe, all_alike, all_put, all_found}
use Rattle.rc_grammar.proofs.Ranges.{max_is_ballot}
use Rattle.rc_grammar.proofs.Pages.{joined}

-- WHAT IS READ
pub promise_is : (promises : Table ℕ ℕ) (t : ℕ) → AllByRecursion HasPromise promises → IsBallotNumber (promise_of promises t)
promise_is promises t h = on_maybe IsBallotNumber (found nat_cmp promises t) 0 (λ b. b) (λ _. omega arith) (λ b is. all_found nat_cmp IsBallotNumber promises t b h is)

pub accepted_is : (accepted : Table ℕ (ℕ × Decision)) (t : ℕ) → AllByRecursion HasAccepted accepted → HasReport (found nat_cmp accepted t)
accepted_is accepted t h = go (found nat_cmp accepted t) (λ report is. all_found nat_cmp (λ (r : ℕ × Decision). IsBallotNumber r.0 × HasDecision r.1) accepted t report h is)
  where
    go : (o : Option (ℕ × Decision)) → ((report : ℕ × Decision) → o ≡ Some report → IsBallotNumber report.0 × HasDecision report.1) → HasReport o
    go None each = tt
    go (Some report) each = each report refl

pub outcome_is : (outcomes : List (ℕ × Decision)) (t : ℕ) (o : Decision) → AllByRecursion HasOutcome outcomes → outcome_of outcomes t ≡ Some o → HasDecision o
outcome_is outcomes t o h is = all_found nat_cmp HasDecision outcomes t o (all_alike HasOutcome (λ (e : ℕ × Decision). HasDecision e.1) (λ e p. p.1) outcomes h) is

-- WHAT IS KEPT
raised : (promises : Table ℕ ℕ) (t b : ℕ) → AllByRecursion HasPromise promises → IsBallotNumber b → AllByRecursion HasPromise (promise_raised promises t b)
raised promises t b h own =
    let ballot = max_is_ballot (promise_of promises t) b (promise_is promises t h) own in
    all_put nat_cmp HasPromise promises t (max (promise_of promises t) b) h ballot (λ _ _. ballot)

pub coord_keeps : (s : CoordDurable) (r : Record) → HasCoordDurable s → HasRecord r → HasCoordDurable (coord_applied s r)
coord_keeps s (Promised t b) h own = record { promises = raised s.promises t b h.promises own.1; accepted = h.accepted; outcomes = h.outcomes; apart = h.apart }
coord_keeps s (Accepted t b o) h own =
    record {
      promises = raised s.promises t b h.promises own.1;
      accepted = all_put nat_cmp HasAccepted s.accepted t (b, o) h.accepted (own.1, own.2) (λ _ _. (own.1, own.2));
      outcomes = h.outcomes;
      apart = h.apart;
    }
coord_keeps s (Decided page) h own =
    let k = joined page s.outcomes own.1.outcomes (record { all = h.outcomes; apart = h.apart }) in
    record { promises = h.promises; accepted = h.accepted; outcomes = k.all; apart = k.apart }
coord_keeps s (Head head) h own = h
coord_keeps s (Prepared t part) h own = h
coord_keeps s (Finished page) h own = h

pub coord_keeps_logged : (s : CoordDurable) (logs : Option Record) → HasCoordDurable s → HasLogged logs → HasCoordDurable (applied coord_applied s logs)
coord_keeps_logged s None h own = h
coord_keeps_logged s (Some r) h own = coord_keeps s r h own

-- REPLAY
replays : (log : List Record) (s : CoordDurable) → HasCoordDurable s → HasLog log → HasCoordDurable (coord_replayed s log)
replays [] s h own = h
replays (r ∷ rs) s h own = replays rs (coord_applied s r) (coord_keeps s r h own.0) own.1

pub has_new_volatile : HasCoordVolatile (coord_started []).volatile
has_new_volatile = record { gathers = tt; takeovers = tt; cursors = tt }

pub coord_starts : (log : List Record) → HasLog log → HasCoordNode (coord_started log)
coord_starts log own = record { log = own; durable = replays log new_durable (record { promises = tt; accepted = tt; outcomes = tt; apart = tt }) own; volatile = has_new_volatile }
