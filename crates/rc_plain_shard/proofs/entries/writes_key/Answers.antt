use Rattle.std.proofs.Common.{◌&&◌, is_some, sym, ◌∙◌, rules}
use Rattle.rc_ids.specs.Texts.{same_key}
use Rattle.rc_body.specs.Entries.{entry_seen}
use Rattle.rc_body.specs.declared.entry.Entry.{Entry}
use Rattle.rc_plain_shard.proofs.Rest.{any_here, any_later, both, not_left, not_right}
use Rattle.rc_plain_shard.proofs.entries.writes_key.Goals as goal
use Rattle.rc_plain_shard.proofs.entries.writes_key.Goals.{else-eq-via-then-eq+else-is_some, else-eq-via-else-eq}

pub returns-then-is_some : goal.returns-then-is_some
returns-then-is_some c =
    let e : Entry = entry_seen c.entry-entry.result in
    any_here (λ (e : Entry). same_key e.key c.args.key.now && is_some e.write) c.args.body.now c.loop-index.index
    e c.entry-entry.ensures c.loop-index.invariant
    (both (same_key e.key c.args.key.now) (is_some e.write) (sym c.eq.ensures ∙ c.if-eq.true) (search rules))

pub loop-index-preserved : goal.loop-index-preserved
loop-index-preserved c =
    let e : Entry = entry_seen c.entry-entry.result in
    any_later (λ (e : Entry). same_key e.key c.args.key.now && is_some e.write) c.args.body.now c.loop-index.index
    e c.entry-entry.ensures c.loop-index.invariant
    (elim c.else-eq.branch [
      | else-eq-via-then-eq+else-is_some w ↦ not_right (same_key e.key c.args.key.now) (is_some e.write) (search rules)
      | else-eq-via-else-eq w ↦ not_left (same_key e.key c.args.key.now) (is_some e.write) (sym c.eq.ensures ∙ w.if-eq.false)
    ])
