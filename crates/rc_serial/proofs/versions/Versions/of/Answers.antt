use Rattle.std.proofs.Common.{◌+◌, ◌≤◌, List, [], length, drop, refl, sym, subst, arith}
use Rattle.rc_body.specs.Rows.{Row}
use Rattle.rc_serial.proofs.Rest.{rest_at, rest_end}
use Rattle.rc_serial.proofs.Runs.{Fills, fills_next, fills_end}
use Rattle.rc_serial.proofs.versions.Versions.of.Goals as goal

pub loop-index-init : goal.loop-index-init
loop-index-init c = record { now = []; shown = sym c.new-versions.ensures; same = refl }

pub loop-index-preserved : goal.loop-index-preserved
loop-index-preserved c =
    let rows : List Row = c.args.rows.now in
    let i = c.loop-index.index in
    let read = c.entry-version.result in
    let r : Row = (read.0.now, (read.1, read.2.now)) in
    let left = λ (rest : List Row). Fills rows c.loop-index.versions rest in
    fills_next rows c.loop-index.versions c.set.new.self r.0 r.1.0 r.1.1 (drop (i + 1) rows)
    (subst left (rest_at rows i r c.entry-version.ensures) c.loop-index.invariant) c.in_ok-set.ensures

pub returns : goal.returns
returns c =
    let rows : List Row = c.args.rows.now in
    let past : length rows ≤ c.loop-index.index = omega arith in
    let left = λ (rest : List Row). Fills rows c.loop-index.versions rest in
    fills_end rows c.loop-index.versions (subst left (rest_end rows c.loop-index.index past) c.loop-index.invariant)
