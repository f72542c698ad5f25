use Rattle.std.proofs.Common.{length, ap, sym, subst, ◌∙◌, arith}
use Rattle.std.specs.Prelude.{All}
use Rattle.rc_wire.proofs.Knowing.{known_length}
use Rattle.rc_wire.proofs.Riders.{IsNewClient, new_clients}
use Rattle.rc_wire.proofs.tests.beside.Goals as goal

pub jobs-requires : goal.jobs-requires
jobs-requires g c = subst (All IsNewClient) (sym c.open-wire.ensures) (new_clients g.W.WireName.names c.requires.clients)

pub close-requires : goal.close-requires
close-requires g c =
    let names = g.W.WireName.names in
    let all = ap length c.open-wire.ensures ∙ known_length names 0 names.parties in
    let dealt = c.in_ok-passes.ensures in
    let done = c.in_ok-riders.ensures.len in
    omega arith
