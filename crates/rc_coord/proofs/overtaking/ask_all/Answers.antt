use Rattle.std.proofs.Common.{◌≡◌, Err, ap, ◌∙◌}
use Rattle.rc_record.specs.declared.record.Record.TheVariants.{Promised}
use Rattle.rc_node.specs.declared.fault.NodeFault.TheVariants.{NoMemory, Failed, Full, BallotsSpent}
use Rattle.rc_coord.proofs.OpenFacts.{stays-from}
use Rattle.rc_coord.proofs.overtaking.ask_all.Goals as goal

pub returns-clause-stays : goal.returns-clause-stays
returns-clause-stays g c =
    stays-from c.in-Err.fault (g.J.Journal.may_leave c.append.new.journal) (g.J.Journal.state c.args.journal.now) (g.J.Journal.state c.append.new.journal)
    c.as_bytes.result.now (Promised c.args.tx c.args.ballot) (c.as_bytes.ensures ∙ c.in_ok-bytes.ensures)
    (λ (e : c.in-Err.fault ≡ Failed). c.in-Err.ensures.failed (ap Err e)) (λ (e : c.in-Err.fault ≡ Full). c.in-Err.ensures.full (ap Err e))
    (λ (e : c.in-Err.fault ≡ Full). c.in-Err.ensures.full_same (ap Err e)) (λ (e : c.in-Err.fault ≡ NoMemory). c.in-Err.ensures.no_memory (ap Err e))
    (λ (e : c.in-Err.fault ≡ BallotsSpent). c.in-Err.ensures.no_ballots (ap Err e))
