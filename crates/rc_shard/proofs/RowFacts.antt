-- The rows of outcomes, from what a page makes of the tables.
use Rattle.std.proofs.Common.{◌≡◌, ℕ, ◌+◌, ◌==◌, Bool, true, false, ◌&&◌, List, [], ◌∷◌, ◌++◌, length, map, filter, cond, Option, Some, None, is_some, is_none, refl, sym, ap, ◌∙◌}
use Rattle.std.specs.Prelude.{if◌then◌else◌}
use Rattle.std.specs.Ordering.{nat_cmp}
use Rattle.std.proofs.lemmas.List.{append-nil}
use Rattle.rc_ids.specs.Cluster.{Layout}
use Rattle.rc_ids.specs.Tables.{Table, found}
use Rattle.rc_ids.specs.declared.names.Outcome.{Outcome}
use Rattle.rc_body.specs.Rows.{Row}
use Rattle.rc_body.specs.declared.decision.Decision.{Decision}
use Rattle.rc_record.specs.declared.record.Record.TheVariants.{Finished}
use Rattle.rc_record.specs.ShardState.{ShardDurable, settled_all}
use Rattle.rc_log.specs.Journals.{State}
use Rattle.rc_msg.specs.Outboxes.{Outbox}
use Rattle.rc_protocol.specs.Messages.{Posts}
use Rattle.rc_protocol.specs.Shard.{ShardVolatile, ShardAct, shard_stays, finishes_page, on_finish, on_catch_page, is_next_shard_page, takes_page, then_says, with_shard_cursor, granted, grants, unfinished, concerns, cut_to_part, asks_next_shard_page}
use Rattle.rc_locks.specs.LockSets.{LockSets}
use Rattle.rc_node.specs.declared.fault.NodeFault.{NodeFault}
use Rattle.rc_node.specs.declared.fault.NodeFault.TheVariants.{NoMemory, Failed, Full, BallotsSpent}
use Rattle.rc_shard.specs.Plans.{AreNew}
use Rattle.rc_node.specs.Acts.{NodeAct, Acts, Refuses, Stays, shard_does}
use Rattle.rc_msg.specs.Posts.{posted_all}
use Rattle.rc_shard.specs.Rows.{asks}
use Rattle.rc_shard.specs.Sites.{ShardSite, site}
use Rattle.rc_shard.proofs.SettleFacts.{forgotten-all}

says-nothing : (act : ShardAct) → then_says act [] ≡ act
says-nothing act = ap (λ (ms : Posts). let z : ShardAct = record { logs = act.logs; after = act.after; sends = ms } in z) (append-nil act.sends)

-- an outcome of a transaction that is not finished here
pub one-finish : (d : ℕ) (s : ShardDurable) (v : ShardVolatile) (t : ℕ) (o : Decision) (page : List (ℕ × Decision)) → is_some (found nat_cmp s.finished t) ≡ false
    → page ≡ (t, o) ∷ [] → then_says (finishes_page d s v page) (asks d None) ≡ on_finish d s v t o
one-finish d s v t o page new one =
    says-nothing (finishes_page d s v page) ∙ ap (finishes_page d s v) one
    ∙ sym (ap (λ b. if b then shard_stays v else finishes_page d s v ((t, o) ∷ [])) new)

-- the place of the act is of no matter to the rest of it
pub finishes-placed : (d : ℕ) (s : ShardDurable) (v : ShardVolatile) (place : ℕ) (page : List (ℕ × Decision))
    → finishes_page d s (with_shard_cursor v place) page ≡ record { logs = Some (Finished page); after = with_shard_cursor (finishes_page d s v page).after place; sends = (finishes_page d s v page).sends }
finishes-placed d s v place page =
    ap (λ (w : ShardVolatile). let z : ShardAct = record { logs = Some (Finished page); after = granted (settled_all s page) w; sends = grants d (settled_all s page) w } in z)
    (forgotten-all (with_shard_cursor v place) page ∙ ap (λ (w : ShardVolatile). with_shard_cursor w place) (sym (forgotten-all v page)))

module _ (d : ℕ) (rows rows' : List Row) (locks locks' : LockSets) (finished finished' : Table ℕ Outcome) (place place' : ℕ) (j j' : State) (o o' : Outbox) (ask : Option ℕ) (next : ℕ) where
  abbrev before : ShardSite
  before = site rows locks finished place j o

  abbrev act_of : ℕ → List (ℕ × Decision) → NodeAct ShardDurable ShardVolatile
  act_of p page = shard_does before.durable (then_says (takes_page d before.durable (with_shard_cursor before.volatile p) page) (asks d ask))

  abbrev settling : List (ℕ × Decision) → NodeAct ShardDurable ShardVolatile
  settling page = shard_does before.durable (then_says (finishes_page d before.durable before.volatile page) (asks d ask))

  pub page-acts : (page : List (ℕ × Decision)) → (length page == 0) ≡ false
      → Acts before (site rows' locks' finished' place' j' o') (settling page)
      → Acts before (site rows' locks' finished' next j' o') (act_of next page)
  page-acts [] some acts = absurd cc
  page-acts (e ∷ es) some acts =
      let placed = finishes-placed d before.durable before.volatile next (e ∷ es) in record {
        durable = acts.durable;
        volatile = ap (λ (w : ShardVolatile). with_shard_cursor w next) acts.volatile ∙ sym (ap (λ (a : ShardAct). a.after) placed);
        logs = acts.logs;
        left = refl;
        sends = acts.sends ∙ sym (ap (λ (a : ShardAct). posted_all o (a.sends ++ asks d ask)) placed);
      }

  pub page-refuses : (fault : NodeFault) (may_leave : List ℕ → Type 0) (page : List (ℕ × Decision)) (new : ShardSite) → (length page == 0) ≡ false
      → Refuses fault may_leave before new (settling page) → Refuses fault may_leave before new (act_of next page)
  page-refuses fault may_leave [] new some refuses = absurd cc
  page-refuses fault may_leave (e ∷ es) new some refuses = record {
    durable = refuses.durable;
    volatile = refuses.volatile;
    journal = stays fault refuses.journal;
    sends = refuses.sends;
  }
    where
      stays : (f : NodeFault) → Stays f may_leave j new.journal (settling (e ∷ es)) → Stays f may_leave j new.journal (act_of next (e ∷ es))
      stays NoMemory same = same
      stays Failed fails = fails
      stays Full full = record { same = full.same; reason = full.reason }
      stays BallotsSpent spent = record { same = spent.same; reason = spent.reason }

-- what is left of a page is new
module _ (c : Layout) (sh : ℕ) (s : ShardDurable) where
  abbrev is_new : ℕ × Decision → Bool
  is_new e = is_none (found nat_cmp s.finished e.0) && concerns c sh e.1

  abbrev cut : ℕ × Decision → ℕ × Decision
  cut x = (x.0, cut_to_part c sh x.1)

  none_is : (o : Option Outcome) (b : Bool) → (is_none o && b) ≡ true → o ≡ None
  none_is None b e = refl
  none_is (Some x) b e = absurd cc

  pub unfinished-new : (page : List (ℕ × Decision)) → AreNew s.finished (unfinished c sh s page)
  unfinished-new [] = tt
  unfinished-new (e ∷ es) = chosen (is_new e) refl (unfinished-new es)
    where
      chosen : (b : Bool) → is_new e ≡ b → AreNew s.finished (unfinished c sh s es) → AreNew s.finished (map cut (cond b (e ∷ filter is_new es) (filter is_new es)))
      chosen true is rest = (none_is (found nat_cmp s.finished e.0) (concerns c sh e.1) is, rest)
      chosen false is rest = rest

-- the row of the next page
pub next-page : (c : Layout) (d sh : ℕ) (s : ShardDurable) (v : ShardVolatile) (place next : ℕ) (page left : List (ℕ × Decision)) (ask : Option ℕ) → is_next_shard_page v place page ≡ true
    → left ≡ unfinished c sh s page → next ≡ place + length page → asks d ask ≡ asks_next_shard_page d place page
    → then_says (takes_page d s (with_shard_cursor v next) left) (asks d ask) ≡ on_catch_page c d sh s v place page
next-page c d sh s v place next page left ask is left_is next_is ask_is =
    ap (λ (xs : List (ℕ × Decision)). then_says (takes_page d s (with_shard_cursor v next) xs) (asks d ask)) left_is
    ∙ ap (λ (p : ℕ). then_says (takes_page d s (with_shard_cursor v p) (unfinished c sh s page)) (asks d ask)) next_is
    ∙ ap (then_says (takes_page d s (with_shard_cursor v (place + length page)) (unfinished c sh s page))) ask_is
    ∙ sym (ap (λ b. if b then then_says (takes_page d s (with_shard_cursor v (place + length page)) (unfinished c sh s page)) (asks_next_shard_page d place page) else shard_stays v) is)
