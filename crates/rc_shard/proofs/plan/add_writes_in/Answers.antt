use Rattle.std.proofs.Common.{ℕ, ◌++◌, [], ◌∷◌, List, Option, Bor, ap, ◌∙◌, rules}
use Rattle.std.specs.Option.{option_copied}
use Rattle.rc_body.specs.Entries.{entry_seen}
use Rattle.rc_body.specs.Rows.{Row}
use Rattle.rc_body.specs.declared.entry.Entry.{Entry}
use Rattle.rc_record.proofs.Rest.{lasts}
use Rattle.rc_shard.proofs.PlanFacts.{kept_more, left_more}
use Rattle.rc_shard.proofs.plan.add_writes_in.Goals as goal
use Rattle.rc_shard.proofs.plan.add_writes_in.Goals.{in-Some+in_ok-write_of+in_ok-push, in_default}

pub write_of-requires : goal.write_of-requires
write_of-requires c =
    lasts c.args.part.now c.loop-index.index (entry_seen c.entry-entry.result) c.len-index-end.ensures.body.lasting c.entry-entry.ensures
    (search rules)

pub loop-index-preserved : goal.loop-index-preserved
loop-index-preserved c =
    let e : Entry = entry_seen c.entry-entry.result in
    let write = λ (o : Option (Bor (List ℕ))). option_copied o in
    elim c.match-entry.branch [
      | in-Some+in_ok-write_of+in_ok-push w ↦
          kept_more c.args.part.now c.loop-index.index e c.entry-entry.ensures c.args.writes.now.items c.loop-index.writes.items c.match-entry.writes.items
          w.in-Some.value.now (ap write w.in-Some.is) c.loop-index.invariant
          (ap (λ (v : _). v.items) w.writes-is ∙ w.in_ok-push.ensures.items ∙ ap (λ (r : Row). c.loop-index.writes.items ++ r ∷ []) w.in_ok-write_of.ensures)
      | in_default w ↦
          left_more c.args.part.now c.loop-index.index e c.entry-entry.ensures c.args.writes.now.items c.loop-index.writes.items c.match-entry.writes.items
          (ap write w.in_default.is) c.loop-index.invariant (ap (λ (v : _). v.items) w.writes-is)
    ]
