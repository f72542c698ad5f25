use Rattle.std.proofs.Common.{ℕ, Bor, ◌+◌, List, Option, drop, sym, ap, ◌∙◌, rules}
use Rattle.std.specs.Option.{option_copied}
use Rattle.rc_ids.specs.Tables.{Table}
use Rattle.rc_body.specs.Entries.{entry_seen}
use Rattle.rc_body.specs.declared.entry.Entry.{Entry}
use Rattle.rc_record.specs.Rows.{set_row, set_rows}
use Rattle.rc_record.proofs.Rest.{drop_step, lasts}
use Rattle.rc_record.proofs.rows.Rows.raise_all.Goals as goal
use Rattle.rc_record.proofs.rows.Rows.raise_all.Goals.{in-Some+in_ok-raise, in_default}

pub raise-requires : goal.raise-requires
raise-requires c =
    lasts c.args.part.now c.loop-index.index (entry_seen c.entry-entry.result) c.len-index-end.ensures.body.lasting c.entry-entry.ensures
    (search rules)

pub loop-index-preserved : goal.loop-index-preserved
loop-index-preserved c =
    let e : Entry = entry_seen c.entry-entry.result in
    let at = drop_step c.args.part.now c.loop-index.index e c.entry-entry.ensures in
    let before = sym (ap (λ (es : List Entry). set_rows c.loop-index.self es) at) ∙ c.loop-index.invariant in
    let rest : List Entry = drop (c.loop-index.index + 1) c.args.part.now in
    let with_write = λ (o : Option (Bor (List ℕ))). set_row c.loop-index.self (record e { write = option_copied o }) in
    elim c.match-entry.branch [
      | in-Some+in_ok-raise w ↦
          ap (λ (rows : Table (List ℕ) (ℕ × List ℕ)). set_rows rows rest)
          (w.self-is ∙ w.in_ok-raise.ensures ∙ sym (ap with_write w.in-Some.is))
          ∙ before
      | in_default w ↦
          ap (λ (rows : Table (List ℕ) (ℕ × List ℕ)). set_rows rows rest) (w.self-is ∙ sym (ap with_write w.in_default.is)) ∙ before
    ]
