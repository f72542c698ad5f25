use Rattle.std.proofs.Common.{◌==◌, ◌≤◌, Some, [], ◌∷◌, ◌++◌, length, take, ap, sym, ◌∙◌, arith}
use Rattle.rc_ids.specs.Cluster.{shard_of}
use Rattle.rc_ids.specs.Texts.{same_key}
use Rattle.rc_body.specs.declared.entry.Entry.{Entry}
use Rattle.rc_body.specs.Entries.{entry_seen, wears_out}
use Rattle.rc_body.specs.Bodies.{has_key, part}
use Rattle.rc_body.proofs.Places.{none_passes, none_passes-filter, length-filter_le, filter-chosen, filter-skipped}
use Rattle.std.proofs.lemmas.List.{length-take}
use Rattle.rc_body.proofs.BodyFacts.{KeysDiffer-before}
use Rattle.rc_body.proofs.body.Body.part.Goals as goal
use Rattle.rc_body.proofs.body.Body.part.Goals.{then-eq+in_ok-to_entry+in_ok-keep, else-eq}

pub keep-requires-clause-absent : goal.keep-requires-clause-absent
keep-requires-clause-absent c =
    ap (has_key c.in_ok-to_entry.field-0.key) c.loop-index.invariant
    ∙ none_passes-filter (λ e. same_key e.key c.in_ok-to_entry.field-0.key)
    (λ e. shard_of c.args.cluster.now e.key == c.args.shard) (take c.loop-index.index c.args.self.now)
    (KeysDiffer-before c.args.self.now c.loop-index.index c.in_ok-to_entry.field-0 c.len-index-end.ensures.body.apart
    (c.entry-entry.ensures ∙ ap Some (sym c.in_ok-to_entry.ensures)))

pub keep-requires-clause-room : goal.keep-requires-clause-room
keep-requires-clause-room c =
    let chosen : length (part c.args.cluster.now c.args.shard (take c.loop-index.index c.args.self.now))
    ≤ length (take c.loop-index.index c.args.self.now) =
    length-filter_le (λ e. shard_of c.args.cluster.now e.key == c.args.shard) (take c.loop-index.index c.args.self.now) in
    omega (arith, ap length c.loop-index.invariant, length-take c.loop-index.index c.args.self.now)

pub keep-requires-clause-lasting : goal.keep-requires-clause-lasting
keep-requires-clause-lasting c =
    none_passes wears_out c.args.self.now c.loop-index.index c.in_ok-to_entry.field-0 c.len-index-end.ensures.body.lasting
    (c.entry-entry.ensures ∙ ap Some (sym c.in_ok-to_entry.ensures))

pub loop-index-preserved : goal.loop-index-preserved
loop-index-preserved c =
    elim c.if-eq.branch [
      | then-eq+in_ok-to_entry+in_ok-keep w ↦
          w.parted-is ∙ w.in_ok-keep.ensures.ok ∙ ap (λ xs. xs ++ (w.in_ok-to_entry.field-0 ∷ [])) c.loop-index.invariant
          ∙ sym (filter-chosen (λ e. shard_of c.args.cluster.now e.key == c.args.shard) c.args.self.now c.loop-index.index
          w.in_ok-to_entry.field-0 (c.entry-entry.ensures ∙ ap Some (sym w.in_ok-to_entry.ensures))
          (ap (λ (e : Entry). shard_of c.args.cluster.now e.key == c.args.shard) w.in_ok-to_entry.ensures
          ∙ ap (λ s. s == c.args.shard) (sym c.shard_of.ensures.shard) ∙ sym w.if-eq.ensures))
      | else-eq w ↦
          w.parted-is ∙ c.loop-index.invariant
          ∙ sym (filter-skipped (λ e. shard_of c.args.cluster.now e.key == c.args.shard) c.args.self.now c.loop-index.index
          (entry_seen c.entry-entry.result) c.entry-entry.ensures
          (ap (λ s. s == c.args.shard) (sym c.shard_of.ensures.shard) ∙ sym w.if-eq.ensures))
    ]
