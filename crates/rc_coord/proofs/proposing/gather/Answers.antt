use Rattle.std.proofs.Common.{◌≡◌, ℕ, true, false, List, sym, ap, subst, ◌∙◌}
use Rattle.std.specs.Ordering.{nat_cmp}
use Rattle.std.specs.List.{list_all}
use Rattle.rc_ids.specs.Tables.{Table, put, member}
use Rattle.rc_body.specs.declared.entry.Entry.{Entry}
use Rattle.rc_body.specs.declared.decision.Decision.TheVariants.{Commit}
use Rattle.rc_protocol.specs.Coordinator.{GatherState, CoordDurable, CoordVolatile, accepts, has_all}
use Rattle.rc_node.specs.Acts.{Site, Acts, Refuses, coord_does}
use Rattle.rc_coord_tables.specs.Gathers.{GatherTable, gather_of}
use Rattle.rc_coord.specs.Sites.{site_of}
use Rattle.rc_coord.proofs.GatherRows.{fits-put, fits-same}
use Rattle.rc_coord.proofs.GatherActs.{with_gathers, gathering, gathers-accepts, gathers-refuses, gathers-asks}
use Rattle.rc_coord.proofs.proposing.gather.Goals as goal

pub returns-in-Ok-clause-ok : goal.returns-in-Ok-clause-ok
returns-in-Ok-clause-ok g c =
    let old : Site CoordDurable CoordVolatile = site_of g.J.Journal.state c.args.store.now c.args.out.now in
    let mid : Site CoordDurable CoordVolatile = site_of g.J.Journal.state c.accept.new.store c.accept.new.out in
    let asked : GatherState = gather_of c.args.asked in
    let all : has_all c.args.home.now.cluster asked ≡ true = ap (λ (xs : List ℕ). list_all (member nat_cmp asked.yes) xs) (sym c.requires.asks) ∙ sym c.is_complete.ensures ∙ c.if-is_complete.true in
    gathers-accepts c.args.home.now.cluster c.args.home.now.dc old c.args.tx c.ballot.result (Commit c.in_ok-copy.field-0) asked c.put.new.self.table mid all
    c.ballot.ensures (ap (λ (body : List Entry). Commit body) c.in_ok-copy.ensures)
    (c.put.ensures.table ∙ ap (λ (x : GatherTable). put nat_cmp x.table c.args.tx asked) c.in-Ok.ensures.gathers ∙ ap (λ (z : Table ℕ GatherState). put nat_cmp z c.args.tx asked) c.room.ensures.table)
    (subst (λ (z : Table ℕ GatherState). Acts (gathering old z) mid (coord_does old.durable (accepts c.args.home.now.cluster c.args.home.now.dc (with_gathers old.volatile z) c.args.tx c.ballot.result (Commit c.in_ok-copy.field-0))))
    c.room.ensures.table c.in-Ok.ensures.ok)

pub returns-in-Ok-clause-fit : goal.returns-in-Ok-clause-fit
returns-in-Ok-clause-fit g c = record {
  votes = c.in-Ok.ensures.fit.votes;
  dcs = c.in-Ok.ensures.fit.dcs;
  weights = c.in-Ok.ensures.fit.weights;
  gathers =
      fits-put c.args.home.now.cluster c.args.tx (gather_of c.args.asked) c.args.asked.gather.touched c.accept.new.store.tables.gathers c.put.new.self
      c.in-Ok.ensures.fit.gathers c.requires.asks c.put.ensures.table c.put.ensures.asked;
}

pub returns-in-Err-clause-err : goal.returns-in-Err-clause-err
returns-in-Err-clause-err g c =
    let old : Site CoordDurable CoordVolatile = site_of g.J.Journal.state c.args.store.now c.args.out.now in
    let new : Site CoordDurable CoordVolatile = site_of g.J.Journal.state c.accept.new.store c.accept.new.out in
    let asked : GatherState = gather_of c.args.asked in
    let all : has_all c.args.home.now.cluster asked ≡ true = ap (λ (xs : List ℕ). list_all (member nat_cmp asked.yes) xs) (sym c.requires.asks) ∙ sym c.is_complete.ensures ∙ c.if-is_complete.true in
    gathers-refuses c.args.home.now.cluster c.args.home.now.dc old c.args.tx c.in-Err.fault (g.J.Journal.may_leave c.accept.new.store.journal) c.ballot.result (Commit c.in_ok-copy.field-0) asked new all
    c.ballot.ensures (ap (λ (body : List Entry). Commit body) c.in_ok-copy.ensures)
    (subst (λ (z : Table ℕ GatherState). Refuses c.in-Err.fault (g.J.Journal.may_leave c.accept.new.store.journal) (gathering old z) new (coord_does old.durable (accepts c.args.home.now.cluster c.args.home.now.dc (with_gathers old.volatile z) c.args.tx c.ballot.result (Commit c.in_ok-copy.field-0))))
    c.room.ensures.table c.in-Err.ensures.err)

pub returns-clause-ok : goal.returns-clause-ok
returns-clause-ok g c =
    let old : Site CoordDurable CoordVolatile = site_of g.J.Journal.state c.args.store.now c.args.out.now in
    let asked : GatherState = gather_of c.args.asked in
    let all : has_all c.args.home.now.cluster asked ≡ false = ap (λ (xs : List ℕ). list_all (member nat_cmp asked.yes) xs) (sym c.requires.asks) ∙ sym c.is_complete.ensures ∙ c.if-is_complete.false in
    gathers-asks c.args.home.now.cluster c.args.home.now.dc old c.args.tx asked c.put-2.new.self.table c.post_prepares.new.out all
    (c.put-2.ensures.table ∙ ap (λ (z : Table ℕ GatherState). put nat_cmp z c.args.tx asked) c.room.ensures.table) c.in_ok-post_prepares.ensures.ok

pub returns-clause-fit : goal.returns-clause-fit
returns-clause-fit g c = record {
  votes = c.requires.fit.votes;
  dcs = c.requires.fit.dcs;
  weights = c.requires.fit.weights;
  gathers =
      fits-put c.args.home.now.cluster c.args.tx (gather_of c.args.asked) c.args.asked.gather.touched c.room.new.self c.put-2.new.self
      (fits-same c.args.home.now.cluster c.args.store.now.tables.gathers c.room.new.self c.requires.fit.gathers c.room.ensures.table c.room.ensures.asked) c.requires.asks c.put-2.ensures.table c.put-2.ensures.asked;
}
