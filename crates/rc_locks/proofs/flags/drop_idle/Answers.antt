use Rattle.std.proofs.Common.{cond, None, is_some, refl, sym, ap, ◌∙◌}
use Rattle.rc_ids.specs.Tables.{found}
use Rattle.rc_protocol.specs.Shard.{mark_cmp}
use Rattle.rc_locks.specs.Flags.{is_plain, is_lost}
use Rattle.rc_locks.proofs.IndexFacts.{unchanged_gone, gone_txs, gone_covered}
use Rattle.rc_locks.proofs.flags.drop_idle.Goals as goal

pub returns-clause-plain : goal.returns-clause-plain
returns-clause-plain c =
    unchanged_gone c.args.locks.now.entries c.remove.new.self.entries c.args.mark.now c.remove.ensures.updates.0 is_plain refl
    (sym c.lock_of-lock.ensures.plain ∙ c.if-lock.false)

pub returns-clause-lost : goal.returns-clause-lost
returns-clause-lost c =
    unchanged_gone c.args.locks.now.entries c.remove.new.self.entries c.args.mark.now c.remove.ensures.updates.0 is_lost refl
    (sym c.lock_of-lock.ensures.lost ∙ c.if-lock-2.false)

pub returns-clause-txs : goal.returns-clause-txs
returns-clause-txs c = gone_txs c.args.locks.now.entries c.remove.new.self.entries c.args.mark.now c.remove.ensures.updates.0 c.requires.txs

pub returns-clause-covered : goal.returns-clause-covered
returns-clause-covered c =
    gone_covered c.args.locks.now.entries c.remove.new.self.entries c.args.mark.now c.remove.ensures.updates.0
    c.args.index.now.entries c.drop_bare.new.index.entries (λ m other had. c.drop_bare.ensures m (c.strike.ensures m other had)) c.requires.covered

pub returns-clause-kept : goal.returns-clause-kept
returns-clause-kept c m other had =
    ap is_some (c.remove.ensures.updates.0 m ∙ ap (λ b. cond b None (found mark_cmp c.args.locks.now.entries m)) other) ∙ had
