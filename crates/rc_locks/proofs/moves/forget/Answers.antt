use Rattle.std.proofs.Common.{List, sym, ap, ◌∙◌}
use Rattle.rc_ids.specs.Tables.{member}
use Rattle.rc_protocol.specs.Shard.{Mark, mark_cmp}
use Rattle.rc_locks.proofs.MoveFacts.{gone_plain, gone_lost, placed_left}
use Rattle.rc_locks.proofs.moves.forget.Goals as goal

pub returns-clause-plain : goal.returns-clause-plain
returns-clause-plain c =
    gone_plain c.args.locks.now.entries c.forget.new.locks.entries c.requires.rises c.forget.ensures.rises c.args.tx c.forget.ensures.left

pub returns-clause-lost : goal.returns-clause-lost
returns-clause-lost c =
    gone_lost c.args.locks.now.entries c.forget.new.locks.entries c.requires.rises c.forget.ensures.rises c.args.tx c.forget.ensures.left

pub returns-clause-placed : goal.returns-clause-placed
returns-clause-placed c m has =
    placed_left c.args.locks.now.entries c.forget.new.locks.entries c.requires.rises c.forget.ensures.rises c.args.tx c.forget.ensures.left
    c.args.waiting.now.items c.requires.placed m (ap (λ (ms : List Mark). member mark_cmp ms m) (sym c.clear.ensures.items) ∙ has)
