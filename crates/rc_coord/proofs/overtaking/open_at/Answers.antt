use Rattle.std.proofs.Common.{ℕ, ap, ◌∙◌}
use Rattle.std.specs.Ordering.{nat_cmp}
use Rattle.rc_ids.specs.Tables.{Table, put}
use Rattle.rc_protocol.specs.Coordinator.{TakeoverState, CoordDurable, CoordVolatile}
use Rattle.rc_takeover.specs.TakeOvers.{KeptTakeOver}
use Rattle.rc_node.specs.Acts.{Site}
use Rattle.rc_coord.specs.Sites.{site_of}
use Rattle.rc_coord.proofs.OpenFacts.{with_promises, opens-acts, opens-refuses}
use Rattle.rc_coord.proofs.PromiseFacts.{with_takeovers}
use Rattle.rc_coord.proofs.overtaking.open_at.Goals as goal

pub returns-in-Ok-clause-ok : goal.returns-in-Ok-clause-ok
returns-in-Ok-clause-ok g c =
    let old : Site CoordDurable CoordVolatile = site_of g.J.Journal.state c.args.store.now c.args.out.now in
    opens-acts c.args.home.now.cluster old c.args.tx c.args.ballot c.args.is_eager c.put.new.self.table c.put-in-Ok.new.self.table (g.J.Journal.state c.ask_all.new.journal) c.ask_all.new.out
    c.requires.may
    (c.put.ensures.table ∙ ap (λ (z : Table ℕ ℕ). put nat_cmp z c.args.tx c.args.ballot) c.room-2.ensures.same)
    (c.put-in-Ok.ensures.table ∙ ap (λ (z : Table ℕ TakeoverState). put nat_cmp z c.args.tx c.args.takeover.state) c.room.ensures.table
    ∙ ap (λ (k : KeptTakeOver). put nat_cmp c.args.store.now.tables.takeovers.table c.args.tx k.state) c.requires.new)
    c.in-Ok.ensures.logs c.in-Ok.ensures.sends

pub returns-in-Err-clause-err : goal.returns-in-Err-clause-err
returns-in-Err-clause-err g c =
    let old : Site CoordDurable CoordVolatile = site_of g.J.Journal.state c.args.store.now c.args.out.now in
    let new : Site CoordDurable CoordVolatile = record {
      durable = with_promises old.durable c.room-2.new.self.table;
      volatile = with_takeovers old.volatile c.room.new.self.table;
      journal = g.J.Journal.state c.ask_all.new.journal;
      out = c.ask_all.new.out;
    } in
    opens-refuses c.args.home.now.cluster old c.args.tx c.args.ballot c.args.is_eager c.in-Err.fault (g.J.Journal.may_leave c.ask_all.new.journal) new
    (ap (with_promises old.durable) c.room-2.ensures.same) (ap (with_takeovers old.volatile) c.room.ensures.table) c.in-Err.ensures.stays c.in-Err.ensures.unsent
