use Rattle.std.proofs.Common.{◌≡◌, ◌<◌, ℕ, List, length, get_or, sym, ap, ◌∙◌, arith}
use Rattle.rc_ports.specs.Causes.{is_listed}
use Rattle.rc_disk.proofs.Lists.{listed-removed, listed-at}
use Rattle.rc_disk.proofs.reads.take_out.Goals as goal

pub returns-then-index-number-clause-found : goal.returns-then-index-number-clause-found
returns-then-index-number-clause-found c =
    let at : get_or c.loop-i.list.items c.loop-i.i c.index.result.now ≡ c.args.number = sym c.index.ensures ∙ c.if-index-number.true in
    let inside : c.loop-i.i < length c.loop-i.list.items = omega arith in
    sym (ap (λ (l : List ℕ). is_listed l c.args.number) (sym c.loop-i.invariant.1) ∙ listed-at c.loop-i.list.items c.loop-i.i c.index.result.now c.args.number inside at)

pub returns-then-index-number-clause-others : goal.returns-then-index-number-clause-others
returns-then-index-number-clause-others c m other =
    let at : get_or c.loop-i.list.items c.loop-i.i c.index.result.now ≡ c.args.number = sym c.index.ensures ∙ c.if-index-number.true in
    let inside : c.loop-i.i < length c.loop-i.list.items = omega arith in
    ap (λ (l : List ℕ). is_listed l m) c.remove.ensures.items ∙ listed-removed c.loop-i.list.items c.loop-i.i c.index.result.now c.args.number m inside at other
    ∙ ap (λ (l : List ℕ). is_listed l m) c.loop-i.invariant.1
