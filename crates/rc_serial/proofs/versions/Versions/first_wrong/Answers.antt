use Rattle.std.proofs.Common.{◌≡◌, ◌==◌, ℕ, List, true, false, Some, sym, ap, ◌∙◌, rules}
use Rattle.rc_ids.specs.Tables.{Table}
use Rattle.rc_body.specs.Entries.{entry_seen}
use Rattle.rc_body.specs.declared.entry.Entry.{Entry}
use Rattle.rc_serial.specs.Versions.{version_in}
use Rattle.rc_serial.proofs.Runs.{said, wrong_here, wrong_later}
use Rattle.rc_serial.proofs.versions.Versions.first_wrong.Goals as goal

pub returns-then-ne : goal.returns-then-ne
returns-then-ne c = λ m shown.
    let e : Entry = entry_seen c.entry-entry.result in
    let v : ℕ = c.version-expected.result in
    let differs : (e.version == v) ≡ false = search rules in
    ap (λ (k : List ℕ). Some (said c.args.place k v e.version)) c.copy.ensures
    ∙ wrong_here m c.args.place c.args.body.now c.loop-index.index e v c.entry-entry.ensures (c.loop-index.invariant m shown)
    (c.version-expected.ensures ∙ ap (λ (t : Table (List ℕ) ℕ). version_in t e.key) (sym shown)) differs

pub loop-index-preserved : goal.loop-index-preserved
loop-index-preserved c = λ m shown.
    let e : Entry = entry_seen c.entry-entry.result in
    let v : ℕ = c.version-expected.result in
    let agrees : (e.version == v) ≡ true = search rules in
    wrong_later m c.args.place c.args.body.now c.loop-index.index e v c.entry-entry.ensures (c.loop-index.invariant m shown)
    (c.version-expected.ensures ∙ ap (λ (t : Table (List ℕ) ℕ). version_in t e.key) (sym shown)) agrees
