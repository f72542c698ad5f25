use Rattle.std.proofs.Common.{◌<◌, List, length, subst, sym, ap, ◌∙◌}
use Rattle.rc_ids.specs.declared.sends.Letter.{Letter}
use Rattle.rc_ids.specs.Letters.{marked_at}
use Rattle.rc_ids.proofs.LetterFacts.{set-marked}
use Rattle.rc_ids.proofs.sends.Sends.set_mark.Goals as goal

pub returns : goal.returns
returns c =
    set-marked c.self.inside.items.items c.args.place c.index_mut-letter.result.now c.args.mark c.index_mut-letter.ensures.value
    (subst (λ (ls : List Letter). c.args.place < length ls) (sym c.self.view_is) c.requires)
    ∙ ap (λ (ls : List Letter). marked_at ls c.args.place c.args.mark) c.self.view_is
