use Rattle.std.proofs.Common.{Bor, sym, ap, subst, ◌∙◌}
use Rattle.std.specs.Ordering.{nat_cmp}
use Rattle.std.specs.Option.{option_map, IfSome}
use Rattle.rc_ids.specs.Tables.{found}
use Rattle.rc_coord_tables.proofs.MapFacts.{shown-found}
use Rattle.rc_takeover.specs.TakeOvers.{KeptTakeOver}
use Rattle.rc_coord_tables.specs.Takeovers.{TakeoverTable, state_of, IsIn}
use Rattle.rc_coord_tables.proofs.TakeoverFacts.{fit-seen}
use Rattle.rc_coord_tables.proofs.takeovers.Takeovers.get.Goals as goal

pub returns-clause-value : goal.returns-clause-value
returns-clause-value c =
    ap (option_map state_of) c.get.ensures.value ∙ sym (shown-found state_of c.self.inside.list.entries c.args.tx c.self.invariant.apart)
    ∙ ap (λ (k : TakeoverTable). found nat_cmp k.table c.args.tx) c.self.view_is

pub returns-clause-fit : goal.returns-clause-fit
returns-clause-fit c =
    subst (λ (k : TakeoverTable). IfSome c.get.result (λ (x : Bor KeptTakeOver). IsIn k.dcs k.weights x.now)) c.self.view_is
    (fit-seen c.self.inside.dcs c.self.inside.quorum c.self.inside.list.entries c.args.tx c.self.invariant c.get.result c.get.ensures.value)
