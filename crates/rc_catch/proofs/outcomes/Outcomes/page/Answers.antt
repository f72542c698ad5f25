use Rattle.std.proofs.Common.{◌∷◌, ◌++◌, [], take, drop, Some, ap, sym, ◌∙◌, arith, ◌+◌, ◌<◌, min}
use Rattle.rc_record.proofs.PageFacts.{more_of, new_to, room_for, whole_page}
use Rattle.rc_catch.specs.Known.{Known}
use Rattle.rc_catch.proofs.outcomes.Outcomes.page.Goals as goal
use Rattle.rc_catch.proofs.outcomes.Outcomes.page.Goals.{in-Some+in_ok-copy+in_ok-push, in_default}

pub push-requires-clause-room : goal.push-requires-clause-room
push-requires-clause-room c =
    room_for c.self.inside.list.entries c.loop-index.page c.args.place c.loop-index.index c.min-end.result (omega arith) (omega arith) (omega arith)
    c.loop-index.invariant

pub push-requires-clause-absent : goal.push-requires-clause-absent
push-requires-clause-absent c =
    new_to c.self.inside.list.entries c.loop-index.page c.args.place c.loop-index.index c.in-Some.tx.now c.in-Some.decision.now c.len.ensures.unique
    (omega arith) (sym c.in-Some.ensures.entry) c.loop-index.invariant

pub loop-index-preserved : goal.loop-index-preserved
loop-index-preserved c =
    elim c.match-get_index.branch [
      | in-Some+in_ok-copy+in_ok-push w ↦
          w.page-is ∙ w.in_ok-push.ensures.ok
          ∙ ap (λ xs. xs ++ ((w.in-Some.tx.now, w.in_ok-copy.field-0) ∷ [])) c.loop-index.invariant
          ∙ sym (more_of c.self.inside.list.entries c.args.place c.loop-index.index (w.in-Some.tx.now, w.in_ok-copy.field-0) (omega arith)
          (sym w.in-Some.ensures.entry ∙ ap (λ d. Some (w.in-Some.tx.now, d)) (sym w.in_ok-copy.ensures)))
      | in_default w ↦
          let within : c.loop-index.index < c.len.result = omega arith in
          let no = w.in_default.ensures.found.1 (rw (← c.len.ensures.len) within) in
          cc
    ]

pub returns : goal.returns
returns c =
    c.loop-index.invariant
    ∙ whole_page c.self.inside.list.entries c.args.place c.loop-index.index c.min-end.result (c.min-end.ensures ∙ ap (λ n. min n (c.args.place + 64)) c.len.ensures.len) (omega arith) (omega arith) (λ le. omega arith)
    ∙ ap (λ (k : Known). take 64 (drop c.args.place k.entries)) c.self.view_is
