-- What is done where a gather is kept, and where it is complete.
use Rattle.std.proofs.Common.{◌≡◌, ℕ, nat_lt, Bool, true, false, if◌then◌else◌, List, None, refl, sym, ap, subst, ◌∙◌}
use Rattle.std.specs.Ordering.{nat_cmp}
use Rattle.rc_ids.specs.Tables.{Table, put}
use Rattle.rc_ids.specs.Cluster.{Layout}
use Rattle.rc_body.specs.declared.decision.Decision.{Decision}
use Rattle.rc_body.specs.declared.decision.Decision.TheVariants.{Commit}
use Rattle.rc_body.specs.declared.reason.Reason.TheVariants.{Promised as PromisedHigher}
use Rattle.rc_msg.specs.Outboxes.{Outbox}
use Rattle.rc_msg.specs.Posts.{posted_all}
use Rattle.rc_protocol.specs.Messages.{to_each}
use Rattle.rc_protocol.specs.Coordinator.{GatherState, CoordDurable, CoordVolatile, CoordAct, promise_of, with_yes, on_prepared, coord_stays, coord_says, has_all, with_gather, accepts, refuses, gathers_on, prepare_to}
use Rattle.rc_node.specs.declared.fault.NodeFault.{NodeFault}
use Rattle.rc_node.specs.Acts.{Site, Acts, Refuses, coord_does}
use Rattle.rc_coord.proofs.ActFacts.{refuses-alike}
use Rattle.rc_coord.proofs.GatherRows.{IsWaiting, row-is}

abbrev pub with_gathers : CoordVolatile → Table ℕ GatherState → CoordVolatile
with_gathers v table = record { gathers = table; takeovers = v.takeovers; votes = v.votes; cursors = v.cursors }

-- the same site with these gathers
abbrev pub gathering : Site CoordDurable CoordVolatile → Table ℕ GatherState → Site CoordDurable CoordVolatile
gathering x table = record { durable = x.durable; volatile = with_gathers x.volatile table; journal = x.journal; out = x.out }

module _ (c : Layout) (d : ℕ) (old : Site CoordDurable CoordVolatile) (t : ℕ) where
  accepts-moved : (b : ℕ) (o : Decision) (table : Table ℕ GatherState) (mid : Site CoordDurable CoordVolatile) → Acts old mid (coord_does old.durable (accepts c d old.volatile t b o))
      → Acts old (gathering mid table) (coord_does old.durable (accepts c d (with_gathers old.volatile table) t b o))
  accepts-moved b o table mid a = record {
    durable = a.durable;
    volatile = ap (λ (v : CoordVolatile). with_gathers v table) a.volatile;
    logs = a.logs;
    sends = a.sends;
    left = refl;
  }

  -- accepted, and then the gather is kept
  accepts-kept : (b : ℕ) (o : Decision) (g : GatherState) (table : Table ℕ GatherState) (mid : Site CoordDurable CoordVolatile) → b ≡ g.ballot → o ≡ Commit g.body
      → table ≡ put nat_cmp old.volatile.gathers t g → Acts old mid (coord_does old.durable (accepts c d old.volatile t b o))
      → Acts old (gathering mid table) (coord_does old.durable (accepts c d (with_gather old.volatile t g) t g.ballot (Commit g.body)))
  accepts-kept b o g table mid ballot commit kept a =
      subst (λ (n : ℕ). Acts old (gathering mid table) (coord_does old.durable (accepts c d (with_gather old.volatile t g) t n (Commit g.body)))) ballot
      (subst (λ (e : Decision). Acts old (gathering mid table) (coord_does old.durable (accepts c d (with_gather old.volatile t g) t b e))) commit
      (subst (λ (z : Table ℕ GatherState). Acts old (gathering mid table) (coord_does old.durable (accepts c d (with_gathers old.volatile z) t b o))) kept
      (accepts-moved b o table mid a)))

  logs-kept : (b : ℕ) (o : Decision) (g : GatherState) → b ≡ g.ballot → o ≡ Commit g.body
      → (accepts c d old.volatile t b o).logs ≡ (accepts c d (with_gather old.volatile t g) t g.ballot (Commit g.body)).logs
  logs-kept b o g ballot commit =
      ap (λ (n : ℕ). (accepts c d old.volatile t n o).logs) ballot ∙ ap (λ (e : Decision). (accepts c d old.volatile t g.ballot e).logs) commit

  -- A PROPOSAL
  abbrev gathers_at : Bool → GatherState → CoordAct
  gathers_at all g =
      if all then accepts c d (with_gather old.volatile t g) t g.ballot (Commit g.body)
      else coord_says (with_gather old.volatile t g) (to_each c.shards (prepare_to c d t g))

  pub gathers-accepts : (b : ℕ) (o : Decision) (g : GatherState) (table : Table ℕ GatherState) (mid : Site CoordDurable CoordVolatile) → has_all c g ≡ true → b ≡ g.ballot → o ≡ Commit g.body
      → table ≡ put nat_cmp old.volatile.gathers t g → Acts old mid (coord_does old.durable (accepts c d old.volatile t b o))
      → Acts old (gathering mid table) (coord_does old.durable (gathers_on c d old.volatile t g))
  gathers-accepts b o g table mid all ballot commit kept a =
      subst (λ (x : Bool). Acts old (gathering mid table) (coord_does old.durable (gathers_at x g))) (sym all) (accepts-kept b o g table mid ballot commit kept a)

  pub gathers-refuses : (fault : NodeFault) (may_leave : List ℕ → Type 0) (b : ℕ) (o : Decision) (g : GatherState) (new : Site CoordDurable CoordVolatile) → has_all c g ≡ true → b ≡ g.ballot → o ≡ Commit g.body
      → Refuses fault may_leave old new (coord_does old.durable (accepts c d old.volatile t b o)) → Refuses fault may_leave old new (coord_does old.durable (gathers_on c d old.volatile t g))
  gathers-refuses fault may_leave b o g new all ballot commit r =
      refuses-alike old.durable may_leave fault old new (accepts c d old.volatile t b o) (gathers_on c d old.volatile t g)
      (logs-kept b o g ballot commit ∙ ap (λ (x : Bool). (gathers_at x g).logs) (sym all)) (ap (λ (x : Bool). (gathers_at x g).spent) (sym all)) r

  pub gathers-asks : (g : GatherState) (table : Table ℕ GatherState) (after : Outbox) → has_all c g ≡ false → table ≡ put nat_cmp old.volatile.gathers t g
      → after ≡ posted_all old.out (to_each c.shards (prepare_to c d t g))
      → Acts old (record { durable = old.durable; volatile = with_gathers old.volatile table; journal = old.journal; out = after }) (coord_does old.durable (gathers_on c d old.volatile t g))
  gathers-asks g table after all kept sends =
      subst (λ (x : Bool). Acts old (record { durable = old.durable; volatile = with_gathers old.volatile table; journal = old.journal; out = after }) (coord_does old.durable (gathers_at x g))) (sym all)
      (record { durable = refl; volatile = ap (with_gathers old.volatile) kept; logs = refl; sends = sends; left = refl })

  -- A SHARD'S YES
  module _ (sh : ℕ) (g : GatherState) (w : IsWaiting c d old.durable old.volatile t sh g) where
    abbrev yes_of : GatherState
    yes_of = with_yes g sh

    abbrev said_at : Bool → Bool → CoordAct
    said_at all low =
        if all
        then (if low then refuses c d (with_gather old.volatile t yes_of) t g.ballot (PromisedHigher (promise_of old.durable.promises t))
        else accepts c d (with_gather old.volatile t yes_of) t g.ballot (Commit g.body))
        else coord_stays (with_gather old.volatile t yes_of)

    row-at : (all low : Bool) → has_all c yes_of ≡ all → nat_lt g.ballot (promise_of old.durable.promises t) ≡ low → on_prepared c d old.durable old.volatile t sh None ≡ said_at all low
    row-at all low all_is low_is =
        row-is c d old.durable old.volatile t sh g w ∙ ap (λ (x : Bool). said_at x (nat_lt g.ballot (promise_of old.durable.promises t))) all_is ∙ ap (said_at all) low_is

    row-waits : has_all c yes_of ≡ false → on_prepared c d old.durable old.volatile t sh None ≡ coord_stays (with_gather old.volatile t yes_of)
    row-waits all = row-is c d old.durable old.volatile t sh g w ∙ ap (λ (x : Bool). said_at x (nat_lt g.ballot (promise_of old.durable.promises t))) all

    pub yes-waits : (table : Table ℕ GatherState) → has_all c yes_of ≡ false → table ≡ put nat_cmp old.volatile.gathers t yes_of
        → Acts old (gathering old table) (coord_does old.durable (on_prepared c d old.durable old.volatile t sh None))
    yes-waits table all kept =
        subst (λ (act : CoordAct). Acts old (gathering old table) (coord_does old.durable act)) (sym (row-waits all))
        (record { durable = refl; volatile = ap (with_gathers old.volatile) kept; logs = refl; sends = refl; left = refl })

    pub yes-refused : (table : Table ℕ GatherState) (after : Outbox) → has_all c yes_of ≡ true → nat_lt g.ballot (promise_of old.durable.promises t) ≡ true
        → table ≡ put nat_cmp old.volatile.gathers t yes_of
        → after ≡ posted_all old.out (refuses c d old.volatile t g.ballot (PromisedHigher (promise_of old.durable.promises t))).sends
        → Acts old (record { durable = old.durable; volatile = with_gathers old.volatile table; journal = old.journal; out = after })
        (coord_does old.durable (on_prepared c d old.durable old.volatile t sh None))
    yes-refused table after all low kept sends =
        subst (λ (act : CoordAct). Acts old (record { durable = old.durable; volatile = with_gathers old.volatile table; journal = old.journal; out = after }) (coord_does old.durable act))
        (sym (row-at true true all low))
        (record { durable = refl; volatile = ap (with_gathers old.volatile) kept; logs = refl; sends = sends; left = refl })

    pub yes-accepts : (b : ℕ) (o : Decision) (table : Table ℕ GatherState) (mid : Site CoordDurable CoordVolatile) → has_all c yes_of ≡ true
        → nat_lt g.ballot (promise_of old.durable.promises t) ≡ false → b ≡ g.ballot → o ≡ Commit g.body → table ≡ put nat_cmp old.volatile.gathers t yes_of
        → Acts old mid (coord_does old.durable (accepts c d old.volatile t b o))
        → Acts old (gathering mid table) (coord_does old.durable (on_prepared c d old.durable old.volatile t sh None))
    yes-accepts b o table mid all low ballot commit kept a =
        subst (λ (act : CoordAct). Acts old (gathering mid table) (coord_does old.durable act)) (sym (row-at true false all low)) (accepts-kept b o yes_of table mid ballot commit kept a)

    pub yes-fails : (fault : NodeFault) (may_leave : List ℕ → Type 0) (b : ℕ) (o : Decision) (new : Site CoordDurable CoordVolatile) → has_all c yes_of ≡ true
        → nat_lt g.ballot (promise_of old.durable.promises t) ≡ false → b ≡ g.ballot → o ≡ Commit g.body
        → Refuses fault may_leave old new (coord_does old.durable (accepts c d old.volatile t b o))
        → Refuses fault may_leave old new (coord_does old.durable (on_prepared c d old.durable old.volatile t sh None))
    yes-fails fault may_leave b o new all low ballot commit r =
        refuses-alike old.durable may_leave fault old new (accepts c d old.volatile t b o) (on_prepared c d old.durable old.volatile t sh None)
        (logs-kept b o yes_of ballot commit ∙ ap (λ (act : CoordAct). act.logs) (sym (row-at true false all low)))
        (ap (λ (act : CoordAct). act.spent) (sym (row-at true false all low))) r
