use Rattle.std.proofs.Common.{◌≡◌, IfSome, IfOk, IfErr, List, ℕ, [], sym, ◌∙◌, subst}
use Rattle.rc_log.specs.declared.log.Log.{Log}
use Rattle.rc_log.specs.Journals.{log_state}
use Rattle.rc_devices.specs.Disks.{IsKept}
use Rattle.rc_runs.specs.Stored.{opens_log}
use Rattle.rc_host.specs.Hosts.{sight, IsToldBy}
use Rattle.rc_host.specs.Begins.{IsAtStart, HasBegun, HasNotBegun}
use Rattle.rc_host.proofs.Starting.{as_long, empty, front}
use Rattle.rc_host.proofs.begins.begin.Goals as goal

pub returns-then-len-eq0-clause-ok : goal.returns-then-len-eq0-clause-ok
returns-then-len-eq0-clause-ok g c = λ run d content is_node is_cluster has is.
    let state = (λ (l : Log g.row.D.Denot g.D.Disk). log_state (g.D.Disk.content l.disk) (g.D.Disk.told l.disk) (g.D.Disk.power l.disk) (g.D.Disk.faults l.disk) (g.D.Disk.cuts l.disk) l.end l.count l.limit l.failed l.frame.items) in
    let none : content ≡ [] = empty content (sym (as_long g.D.Disk.told g.D.Disk.content g.D.Disk.power run c.args.disk content d is (g.D.Disk.length_of c.args.disk) (g.met.D.Disk.has_length c.args.disk)) ∙ sym c.len.ensures ∙ c.if-len-eq0.true) in
    subst (λ (bs : List ℕ). IfOk c.create_and_begin.result (λ b. IsToldBy (sight g.N.Node.seen state g.D.Disk.told g.D.Disk.content g.D.Disk.power) b.0 run.ended → HasBegun (sight g.N.Node.seen state g.D.Disk.told g.D.Disk.content g.D.Disk.power) (g.N.Node.back run.node run.cluster) run (opens_log run.cluster run.node d bs) b.0 b.1)) (sym none) (c.create_and_begin.ensures.ok run d is_node is_cluster has (subst (λ (bs : List ℕ). IsAtStart g.D.Disk.told g.D.Disk.content g.D.Disk.power run c.args.disk bs d) none is))

pub returns-then-len-eq0-clause-err : goal.returns-then-len-eq0-clause-err
returns-then-len-eq0-clause-err g c = λ run d content is_node is_cluster is.
    let none : content ≡ [] = empty content (sym (as_long g.D.Disk.told g.D.Disk.content g.D.Disk.power run c.args.disk content d is (g.D.Disk.length_of c.args.disk) (g.met.D.Disk.has_length c.args.disk)) ∙ sym c.len.ensures ∙ c.if-len-eq0.true) in
    subst (λ (bs : List ℕ). IfErr c.create_and_begin.result (λ e. IfSome (g.D.Disk.told e.1) (λ t. IsKept t run.ended) → HasNotBegun run (opens_log run.cluster run.node d bs) e.0)) (sym none) (c.create_and_begin.ensures.err run d is_node is_cluster (subst (λ (bs : List ℕ). IsAtStart g.D.Disk.told g.D.Disk.content g.D.Disk.power run c.args.disk bs d) none is))

pub returns-else-len-eq0-clause-ok : goal.returns-else-len-eq0-clause-ok
returns-else-len-eq0-clause-ok g c = λ run d content is_node is_cluster has is.
    let state = (λ (l : Log g.row.D.Denot g.D.Disk). log_state (g.D.Disk.content l.disk) (g.D.Disk.told l.disk) (g.D.Disk.power l.disk) (g.D.Disk.faults l.disk) (g.D.Disk.cuts l.disk) l.end l.count l.limit l.failed l.frame.items) in
    let some = front content (λ e. c.if-len-eq0.false (c.len.ensures ∙ as_long g.D.Disk.told g.D.Disk.content g.D.Disk.power run c.args.disk content d is (g.D.Disk.length_of c.args.disk) (g.met.D.Disk.has_length c.args.disk) ∙ e)) in
    subst (λ (bs : List ℕ). IfOk c.open_and_begin.result (λ b. IsToldBy (sight g.N.Node.seen state g.D.Disk.told g.D.Disk.content g.D.Disk.power) b.0 run.ended → HasBegun (sight g.N.Node.seen state g.D.Disk.told g.D.Disk.content g.D.Disk.power) (g.N.Node.back run.node run.cluster) run (opens_log run.cluster run.node d bs) b.0 b.1)) (sym some.is) (c.open_and_begin.ensures.ok run d some.byte some.bytes is_node is_cluster has (subst (λ (bs : List ℕ). IsAtStart g.D.Disk.told g.D.Disk.content g.D.Disk.power run c.args.disk bs d) some.is is))

pub returns-else-len-eq0-clause-err : goal.returns-else-len-eq0-clause-err
returns-else-len-eq0-clause-err g c = λ run d content is_node is_cluster is.
    let some = front content (λ e. c.if-len-eq0.false (c.len.ensures ∙ as_long g.D.Disk.told g.D.Disk.content g.D.Disk.power run c.args.disk content d is (g.D.Disk.length_of c.args.disk) (g.met.D.Disk.has_length c.args.disk) ∙ e)) in
    subst (λ (bs : List ℕ). IfErr c.open_and_begin.result (λ e. IfSome (g.D.Disk.told e.1) (λ t. IsKept t run.ended) → HasNotBegun run (opens_log run.cluster run.node d bs) e.0)) (sym some.is) (c.open_and_begin.ensures.err run d some.byte some.bytes is_node is_cluster (subst (λ (bs : List ℕ). IsAtStart g.D.Disk.told g.D.Disk.content g.D.Disk.power run c.args.disk bs d) some.is is))
