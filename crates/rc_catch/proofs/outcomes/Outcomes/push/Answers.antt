use Rattle.std.proofs.Common.{◌<◌, ◌≤◌, ◌^◌, ap, arith}
use Rattle.rc_catch.specs.Known.{Known}
use Rattle.rc_catch.proofs.ListFacts.{entered, entered_names}
use Rattle.rc_catch.proofs.outcomes.Outcomes.push.Goals as goal

pub invariant_of-self-2 : goal.invariant_of-self-2
invariant_of-self-2 c =
    let low : 1 ≤ c.args.tx = omega arith in
    let high : c.args.tx < 2 ^ 32 = omega arith in
    entered_names c.self.inside.list.entries c.insert.new.self.entries c.args.self.now c.args.tx c.args.decision (ap (λ (k : Known). k.entries) c.self.view_is) c.requires
    c.in_ok-insert.ensures.entries c.self.invariant low high

pub returns-clause-ok : goal.returns-clause-ok
returns-clause-ok c =
    entered c.self.inside.list.entries c.insert.new.self.entries c.args.self.now c.args.tx c.args.decision (ap (λ (k : Known). k.entries) c.self.view_is) c.requires
    c.in_ok-insert.ensures.entries
