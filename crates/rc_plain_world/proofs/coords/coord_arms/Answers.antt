use Rattle.std.proofs.Common.{◌≡◌, ℕ, ◌-◌, ◌<◌, length, Some, refl, sym, ◌∙◌, ap, subst}
use Rattle.std.specs.Prelude.{slice_get}
use Rattle.std.proofs.lemmas.Option.{slice_get_read}
use Rattle.rc_protocol.specs.Nodes.{coord_index}
use Rattle.rc_plain_world.specs.Acted.{armed_coord}
use Rattle.rc_plain_world.proofs.SiteEdits.{coord_edit}
use Rattle.rc_plain_world.proofs.coords.coord_arms.Goals as goal

pub arm-requires : goal.arm-requires
arm-requires c =
    let place : c.dc.inside.0 - 1 ≡ coord_index c.args.dc = (cc) in
    let within : c.dc.inside.0 - 1 < length c.args.coords.now.items = subst (λ (i : ℕ). i < length c.args.coords.now.items) (sym place) c.requires.inside in
    let here : slice_get c.args.coords.now.items (c.dc.inside.0 - 1) ≡ Some c.index_mut.result.now =
    slice_get_read c.args.coords.now.items (length c.args.coords.now.items) (c.dc.inside.0 - 1) c.index_mut.result.now refl within c.index_mut.ensures.value in
    c.requires.up c.index_mut.result.now (sym (ap (slice_get c.args.coords.now.items) place) ∙ here)

pub returns-clause-armed : goal.returns-clause-armed
returns-clause-armed c = λ h at.
    let place : c.dc.inside.0 - 1 ≡ coord_index c.args.dc = (cc) in
    coord_edit c.args.coords.now.items _ _ c.index_mut.result.now c.arm.new.self h (armed_coord c.args.call c.args.pick) place c.index_mut.ensures.value c.arm.ensures.node c.arm.ensures.device at
