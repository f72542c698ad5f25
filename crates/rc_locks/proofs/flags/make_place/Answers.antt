use Rattle.std.proofs.Common.{sym, ◌∙◌, arith}
use Rattle.rc_locks.proofs.IndexFacts.{copied_set, place_kept, plain_unchanged, lost_unchanged, placed_txs, placed_covered}
use Rattle.rc_locks.proofs.flags.make_place.Goals as goal

pub returns-clause-kept : goal.returns-clause-kept
returns-clause-kept c =
    place_kept c.args.locks.now.entries c.insert.new.self.entries c.args.mark.now
    (copied_set c.args.locks.now.entries c.insert.new.self.entries c.args.mark.now.0 c.copy.result c.args.mark.now.1 _ c.copy.ensures c.in_ok-insert.ensures.updates.0)

pub returns-clause-plain : goal.returns-clause-plain
returns-clause-plain c =
    plain_unchanged c.args.locks.now.entries c.insert.new.self.entries c.args.mark.now
    (copied_set c.args.locks.now.entries c.insert.new.self.entries c.args.mark.now.0 c.copy.result c.args.mark.now.1 _ c.copy.ensures c.in_ok-insert.ensures.updates.0)
    (sym c.has.ensures ∙ c.if-has.false)

pub returns-clause-lost : goal.returns-clause-lost
returns-clause-lost c =
    lost_unchanged c.args.locks.now.entries c.insert.new.self.entries c.args.mark.now
    (copied_set c.args.locks.now.entries c.insert.new.self.entries c.args.mark.now.0 c.copy.result c.args.mark.now.1 _ c.copy.ensures c.in_ok-insert.ensures.updates.0)
    (sym c.has.ensures ∙ c.if-has.false)

pub returns-clause-txs : goal.returns-clause-txs
returns-clause-txs c =
    placed_txs c.args.locks.now.entries c.insert.new.self.entries c.args.mark.now
    (copied_set c.args.locks.now.entries c.insert.new.self.entries c.args.mark.now.0 c.copy.result c.args.mark.now.1 _ c.copy.ensures c.in_ok-insert.ensures.updates.0)
    (let first = c.tx.invariant in let is = c.tx.view_is in omega (arith, first, is)) c.requires.txs

pub returns-clause-covered : goal.returns-clause-covered
returns-clause-covered c =
    placed_covered c.args.locks.now.entries c.insert.new.self.entries c.args.mark.now
    (copied_set c.args.locks.now.entries c.insert.new.self.entries c.args.mark.now.0 c.copy.result c.args.mark.now.1 _ c.copy.ensures c.in_ok-insert.ensures.updates.0)
    c.args.index.now.entries c.note.new.index.entries c.in_ok-note.ensures.there c.note.ensures.kept c.requires.covered
