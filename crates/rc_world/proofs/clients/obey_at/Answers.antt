-- A command of one client, in the table of all.
use Rattle.std.proofs.Common.{refl, sym}
use Rattle.rc_world.proofs.Tabling.{keyed_at, of_at, kept_in, keyed_in, of_in, answer_served, answer_kept, answer_keyed, answer_of_cluster}
use Rattle.rc_world.proofs.clients.obey_at.Goals as goal

pub returns-then-is_gone-clause-kept : goal.returns-then-is_gone-clause-kept
returns-then-is_gone-clause-kept c =
    let x = c.in-Some.client.now in
    (kept_in c.args.clients.now.entries (c.get_mut.follows.lender x).entries c.args.tx x (c.get_mut.follows.holds x).0 (sym c.in-Some.ensures.value), refl, refl)

pub returns-then-is_gone-clause-keyed : goal.returns-then-is_gone-clause-keyed
returns-then-is_gone-clause-keyed c =
    let x = c.in-Some.client.now in
    keyed_in c.args.clients.now.entries (c.get_mut.follows.lender x).entries c.args.tx x (c.get_mut.follows.holds x).0 c.requires.keyed
    (keyed_at c.args.clients.now.entries c.args.tx x c.requires.keyed (sym c.in-Some.ensures.value))

pub returns-then-is_gone-clause-of : goal.returns-then-is_gone-clause-of
returns-then-is_gone-clause-of c = λ of.
    let x = c.in-Some.client.now in
    of_in c.args.cluster.now c.args.clients.now.entries (c.get_mut.follows.lender x).entries c.args.tx x (c.get_mut.follows.holds x).0 of
    (of_at c.args.cluster.now c.args.clients.now.entries c.args.tx x of (sym c.in-Some.ensures.value))

pub returns-then-is_shut-clause-kept : goal.returns-then-is_shut-clause-kept
returns-then-is_shut-clause-kept c =
    let x = c.in-Some.client.now in
    (kept_in c.args.clients.now.entries (c.get_mut.follows.lender x).entries c.args.tx x (c.get_mut.follows.holds x).0 (sym c.in-Some.ensures.value), refl, refl)

pub returns-then-is_shut-clause-keyed : goal.returns-then-is_shut-clause-keyed
returns-then-is_shut-clause-keyed c =
    let x = c.in-Some.client.now in
    keyed_in c.args.clients.now.entries (c.get_mut.follows.lender x).entries c.args.tx x (c.get_mut.follows.holds x).0 c.requires.keyed
    (keyed_at c.args.clients.now.entries c.args.tx x c.requires.keyed (sym c.in-Some.ensures.value))

pub returns-then-is_shut-clause-of : goal.returns-then-is_shut-clause-of
returns-then-is_shut-clause-of c = λ of.
    let x = c.in-Some.client.now in
    of_in c.args.cluster.now c.args.clients.now.entries (c.get_mut.follows.lender x).entries c.args.tx x (c.get_mut.follows.holds x).0 of
    (of_at c.args.cluster.now c.args.clients.now.entries c.args.tx x of (sym c.in-Some.ensures.value))

pub tell-requires-clause-tx : goal.tell-requires-clause-tx
tell-requires-clause-tx c = keyed_at c.args.clients.now.entries c.args.tx c.in-Some.client.now c.requires.keyed (sym c.in-Some.ensures.value)

pub returns-clause-served : goal.returns-clause-served
returns-clause-served c =
    answer_served c.args.cluster.now c.args.tx c.args.event.now c.args.clients.now.entries (c.get_mut.follows.lender c.tell.new.client).entries c.in-Some.client.now c.tell.new.client
    c.args.out.now c.tell.new.out c.args.lines.now c.tell.new.lines c.tell.result
    (record { placed = (c.get_mut.follows.holds c.tell.new.client).0; at = c.in-Some.ensures.value; keyed = c.requires.keyed; answers = c.tell.ensures })

pub returns-clause-kept : goal.returns-clause-kept
returns-clause-kept c =
    answer_kept c.args.cluster.now c.args.tx c.args.event.now c.args.clients.now.entries (c.get_mut.follows.lender c.tell.new.client).entries c.in-Some.client.now c.tell.new.client
    c.args.out.now c.tell.new.out c.args.lines.now c.tell.new.lines c.tell.result
    (record { placed = (c.get_mut.follows.holds c.tell.new.client).0; at = c.in-Some.ensures.value; keyed = c.requires.keyed; answers = c.tell.ensures })

pub returns-clause-keyed : goal.returns-clause-keyed
returns-clause-keyed c =
    answer_keyed c.args.cluster.now c.args.tx c.args.event.now c.args.clients.now.entries (c.get_mut.follows.lender c.tell.new.client).entries c.in-Some.client.now c.tell.new.client
    c.args.out.now c.tell.new.out c.args.lines.now c.tell.new.lines c.tell.result
    (record { placed = (c.get_mut.follows.holds c.tell.new.client).0; at = c.in-Some.ensures.value; keyed = c.requires.keyed; answers = c.tell.ensures })

pub returns-clause-of : goal.returns-clause-of
returns-clause-of c =
    answer_of_cluster c.args.cluster.now c.args.tx c.args.event.now c.args.clients.now.entries (c.get_mut.follows.lender c.tell.new.client).entries c.in-Some.client.now c.tell.new.client
    c.args.out.now c.tell.new.out c.args.lines.now c.tell.new.lines c.tell.result
    (record { placed = (c.get_mut.follows.holds c.tell.new.client).0; at = c.in-Some.ensures.value; keyed = c.requires.keyed; answers = c.tell.ensures })
