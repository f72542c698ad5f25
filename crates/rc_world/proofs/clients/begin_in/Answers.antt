-- A new client in the table of all.
use Rattle.std.proofs.Common.{ap, ◌∙◌}
use Rattle.std.specs.Ordering.{nat_cmp}
use Rattle.rc_ids.specs.Tables.{put}
use Rattle.rc_client.specs.Acts.{Core}
use Rattle.rc_world.proofs.Tabling.{begun_states, begun_keyed, begun_of}
use Rattle.rc_world.proofs.clients.begin_in.Goals as goal

pub returns-clause-begun : goal.returns-clause-begun
returns-clause-begun c =
    begun_states c.args.clients.now.entries c.insert.new.self.entries c.args.tx
    (c.in_ok-insert.ensures.entries ∙ ap (λ (x : Core). put nat_cmp c.args.clients.now.entries c.args.tx x) c.new.ensures)

pub returns-clause-keyed : goal.returns-clause-keyed
returns-clause-keyed c =
    begun_keyed c.args.clients.now.entries c.insert.new.self.entries c.args.tx
    (c.in_ok-insert.ensures.entries ∙ ap (λ (x : Core). put nat_cmp c.args.clients.now.entries c.args.tx x) c.new.ensures) c.requires

pub returns-clause-of : goal.returns-clause-of
returns-clause-of c = λ cluster of.
    begun_of cluster c.args.clients.now.entries c.insert.new.self.entries c.args.tx
    (c.in_ok-insert.ensures.entries ∙ ap (λ (x : Core). put nat_cmp c.args.clients.now.entries c.args.tx x) c.new.ensures) of
