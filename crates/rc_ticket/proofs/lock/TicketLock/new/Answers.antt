use Rattle.std.proofs.Common.{[], ◌∷◌, ◌++◌, Some, subst, sym, ap, ◌∙◌, length}
use Rattle.atomic_table.specs.Table.{opening as open_table}
use Rattle.rc_ticket.specs.Cards.{opening}
use Rattle.rc_ticket.specs.Rule.{Kept}
use Rattle.rc_ticket.proofs.Places.{opens}
use Rattle.rc_ticket.proofs.lock.TicketLock.new.Goals as goal

pub new-requires : goal.new-requires
new-requires g c =
    let start = g.C.Guarded.start c.args.about.now in
    let e = c.push_reserved.ensures.items ∙ ap (λ xs. xs ++ Some c.args.value ∷ []) c.in_ok-slots.ensures.items in
    subst (λ xs. Kept (length start) g.C.Guarded.fits (open_table (0 ∷ 0 ∷ []) xs (opening start))) (sym e) (opens g.C.Guarded.fits start c.args.value c.requires.few c.requires.fit)
