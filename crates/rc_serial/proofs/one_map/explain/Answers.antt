use Rattle.std.proofs.Common.{◌≡◌, ℕ, ◌+◌, ◌≤◌, List, ◌∷◌, Some, None, length, drop, refl, sym, subst}
use Rattle.rc_ids.specs.Tables.{Table}
use Rattle.rc_serial.specs.OneMap.{Map}
use Rattle.rc_serial.specs.declared.committed.Committed.{Committed}
use Rattle.rc_serial.specs.Orders.{map_of, order_of, wrong_of}
use Rattle.rc_serial.specs.Versions.{Agree}
use Rattle.rc_serial.proofs.Explained.{none-explains}
use Rattle.rc_serial.proofs.Rest.{item_at, rest_end}
use Rattle.rc_serial.proofs.Runs.{Runs, runs_on, runs_out, runs_end}
use Rattle.rc_serial.proofs.VersionFacts.{agree}
use Rattle.rc_serial.proofs.one_map.explain.Goals as goal

-- what is left begins with the transaction at the place
runs_at : (base : Map) (order : List Committed) (i : ℕ) (t : Table (List ℕ) ℕ) (x : Committed) → drop i order ≡ x ∷ drop (i + 1) order
    → Runs base (order_of order) i t (order_of (drop i order)) → Runs base (order_of order) i t ((x.tx, x.body) ∷ order_of (drop (i + 1) order))
runs_at base order i t x at r = subst (λ (rest : List Committed). Runs base (order_of order) i t (order_of rest)) at r

pub loop-index-init : goal.loop-index-init
loop-index-init c = record { now = map_of c.args.base.now; shown = sym c.in_ok-versions.ensures; same = refl }

pub returns-in-Some-clause-first : goal.returns-in-Some-clause-first
returns-in-Some-clause-first c =
    let order : List Committed = c.args.order.now in
    let i = c.loop-index.index in
    let x : Committed = c.index-order-index.result in
    let r =
    runs_at (map_of c.args.base.now) order i c.loop-index.versions x (item_at order i x c.loop-index-test.true c.index-order-index.is) c.loop-index.invariant
    in
    runs_out (map_of c.args.base.now) (order_of order) i c.loop-index.versions (x.tx, x.body) (order_of (drop (i + 1) order)) (wrong_of c.in-Some.wrong)
    r (c.in-Some.ensures r.now r.shown)

pub returns-in-Some-clause-none : goal.returns-in-Some-clause-none
returns-in-Some-clause-none c =
    none-explains (map_of c.args.base.now) (order_of c.args.order.now) (Some (wrong_of c.in-Some.wrong)) (returns-in-Some-clause-first c)

pub raise_all-requires : goal.raise_all-requires
raise_all-requires c =
    let x : Committed = c.index-order-index.result in
    let r = c.loop-index.invariant in
    subst (λ (t : Table (List ℕ) ℕ). Agree t x.body) r.shown
    (agree r.now c.loop-index.index x.body (c.in_default.ensures r.now r.shown))

pub loop-index-preserved : goal.loop-index-preserved
loop-index-preserved c =
    let order : List Committed = c.args.order.now in
    let i = c.loop-index.index in
    let x : Committed = c.index-order-index.result in
    let r =
    runs_at (map_of c.args.base.now) order i c.loop-index.versions x (item_at order i x c.loop-index-test.true c.index-order-index.is) c.loop-index.invariant
    in
    runs_on (map_of c.args.base.now) (order_of order) i c.loop-index.versions c.raise_all.new.self (x.tx, x.body) (order_of (drop (i + 1) order))
    r (c.in_default.ensures r.now r.shown) c.in_ok-raise_all.ensures

pub returns-clause-first : goal.returns-clause-first
returns-clause-first c =
    let order : List Committed = c.args.order.now in
    let i = c.loop-index.index in
    let past : length order ≤ i = c.loop-index-test.false in
    let left = λ (rest : List Committed). Runs (map_of c.args.base.now) (order_of order) i c.loop-index.versions (order_of rest) in
    runs_end (map_of c.args.base.now) (order_of order) i c.loop-index.versions (subst left (rest_end order i past) c.loop-index.invariant)

pub returns-clause-none : goal.returns-clause-none
returns-clause-none c = none-explains (map_of c.args.base.now) (order_of c.args.order.now) None (returns-clause-first c)
