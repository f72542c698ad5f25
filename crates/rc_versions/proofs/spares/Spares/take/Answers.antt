use Rattle.std.proofs.Common.{◌≡◌, ◌-◌, ◌<◌, List, [], get_or, vec_len, sym, subst, ◌∙◌, arith}
use Rattle.rc_body.specs.Rows.{Row}
use Rattle.rc_versions.specs.Pages.{AreEmpty}
use Rattle.rc_versions.proofs.PageFacts.{empty_take, empty_at}
use Rattle.rc_versions.proofs.spares.Spares.take.Goals as goal

pub invariant_of-self : goal.invariant_of-self
invariant_of-self c =
    subst AreEmpty (sym c.pop.ensures.rest) (empty_take c.self.inside.pages.items (vec_len c.self.inside.pages - 1) c.self.invariant)

pub returns-clause-page : goal.returns-clause-page
returns-clause-page c =
    let ps : List (List Row) = c.self.inside.pages.items in
    let n = vec_len c.self.inside.pages in
    let len = c.self.inside.pages.ok.0 in
    let view : n ≡ c.args.self.now = c.self.view_is in
    let asked = c.requires in
    let some : 0 < n = omega (arith, view, asked) in
    let last : c.unwrap.result ≡ get_or ps (n - 1) [] = let value = c.pop.ensures.value [] some in let is = c.unwrap.ensures in cc in
    last ∙ empty_at ps (n - 1) [] c.self.invariant (omega (arith, some, len))
