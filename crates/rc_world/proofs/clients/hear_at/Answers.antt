-- A message for one client, in the table of all.
use Rattle.std.proofs.Common.{sym}
use Rattle.rc_world.proofs.Tabling.{of_at, of_in}
use Rattle.rc_world.proofs.Hearing.{heard_served, heard_says, heard_kept, heard_keyed}
use Rattle.rc_world.proofs.clients.hear_at.Goals as goal

pub handle-requires : goal.handle-requires
handle-requires c = of_at c.args.cluster.now c.args.clients.now.entries c.args.tx c.in-Some.client.now c.requires.of (sym c.in-Some.ensures.value)

pub returns-clause-of : goal.returns-clause-of
returns-clause-of c =
    of_in c.args.cluster.now c.args.clients.now.entries (c.get_mut.follows.lender c.handle.new.self).entries c.args.tx c.handle.new.self
    (c.get_mut.follows.holds c.handle.new.self).0 c.requires.of c.handle.ensures.of

pub returns-clause-served : goal.returns-clause-served
returns-clause-served c =
    heard_served c.args.cluster.now c.args.tx c.args.msg.now c.args.clients.now.entries (c.get_mut.follows.lender c.handle.new.self).entries c.in-Some.client.now c.handle.new.self
    c.args.out.now c.handle.new.out c.args.lines.now c.handle.new.lines c.handle.result c.answer.result
    (record { placed = (c.get_mut.follows.holds c.handle.new.self).0; at = c.in-Some.ensures.value; keyed = c.requires.keyed; acts = c.handle.ensures.ok; refuses = c.handle.ensures.err; answer = c.answer.ensures })

pub returns-clause-says : goal.returns-clause-says
returns-clause-says c =
    heard_says c.args.cluster.now c.args.tx c.args.msg.now c.args.clients.now.entries (c.get_mut.follows.lender c.handle.new.self).entries c.in-Some.client.now c.handle.new.self
    c.args.out.now c.handle.new.out c.args.lines.now c.handle.new.lines c.handle.result c.answer.result
    (record { placed = (c.get_mut.follows.holds c.handle.new.self).0; at = c.in-Some.ensures.value; keyed = c.requires.keyed; acts = c.handle.ensures.ok; refuses = c.handle.ensures.err; answer = c.answer.ensures })

pub returns-clause-kept : goal.returns-clause-kept
returns-clause-kept c =
    heard_kept c.args.cluster.now c.args.tx c.args.msg.now c.args.clients.now.entries (c.get_mut.follows.lender c.handle.new.self).entries c.in-Some.client.now c.handle.new.self
    c.args.out.now c.handle.new.out c.args.lines.now c.handle.new.lines c.handle.result c.answer.result
    (record { placed = (c.get_mut.follows.holds c.handle.new.self).0; at = c.in-Some.ensures.value; keyed = c.requires.keyed; acts = c.handle.ensures.ok; refuses = c.handle.ensures.err; answer = c.answer.ensures })

pub returns-clause-keyed : goal.returns-clause-keyed
returns-clause-keyed c =
    heard_keyed c.args.cluster.now c.args.tx c.args.msg.now c.args.clients.now.entries (c.get_mut.follows.lender c.handle.new.self).entries c.in-Some.client.now c.handle.new.self
    c.args.out.now c.handle.new.out c.args.lines.now c.handle.new.lines c.handle.result c.answer.result
    (record { placed = (c.get_mut.follows.holds c.handle.new.self).0; at = c.in-Some.ensures.value; keyed = c.requires.keyed; acts = c.handle.ensures.ok; refuses = c.handle.ensures.err; answer = c.answer.ensures })
