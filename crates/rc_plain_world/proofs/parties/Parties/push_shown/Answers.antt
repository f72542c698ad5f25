use Rattle.std.proofs.Common.{◌≡◌, ◌++◌, OnOk, subst}
use Rattle.rc_runs.specs.Script.{shown_lines}
use Rattle.rc_plain_world.specs.Acted.{Housed}
use Rattle.rc_plain_world.proofs.parties.Parties.push_shown.Goals as goal

pub returns : goal.returns
returns c =
    subst (λ (h : Housed). OnOk c.show_all.result (c.show_all.new.lines ≡ c.args.lines.now ++ shown_lines h.parties c.args.dc)) c.self.view_is
    (rw c.as_slice.ensures.value at c.show_all.ensures)
