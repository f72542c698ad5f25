use Rattle.std.proofs.Common.{◌≡◌, ℕ, List, Option, None, Some, ap, ◌∙◌}
use Rattle.rc_fields.specs.Formats.{◌>>=◌, tested_at}
use Rattle.rc_fields.specs.Names.{byte_at}
use Rattle.rc_fields.proofs.Behind.{option_at-nothing, option_at-zero, option_at-one, option_at-other}
use Rattle.rc_body.specs.declared.reason.Reason.{Reason}
use Rattle.rc_body.specs.Reading.{reason_at}
use Rattle.rc_msg.specs.Reading.{is_shard_reason, answer_at}
use Rattle.rc_msg.proofs.kinds.answer.Goals as goal

-- what stands behind a 1
behind_one : (bytes rest : List ℕ) (t : ℕ) (read : Option (Reason × List ℕ)) → byte_at bytes ≡ Some (t, rest) → t ≡ 1
    → tested_at is_shard_reason reason_at rest ≡ read → answer_at bytes ≡ (read >>= λ a. Some (Some a.0, a.1))
unfolding answer_at
behind_one bytes rest t read e one is =
    option_at-one (tested_at is_shard_reason reason_at) bytes rest (e ∙ ap (λ n. Some (n, rest)) one)
    ∙ ap (λ (r : Option (Reason × List ℕ)). r >>= λ a. Some (Some a.0, a.1)) is

pub returns-in_err-tag : goal.returns-in_err-tag
unfolding answer_at
returns-in_err-tag c =
    rw c.from_residual.ensures (option_at-nothing (tested_at is_shard_reason reason_at) c.args.fields.now c.in_err-tag.ensures.gives)

pub returns-then-tag-eq0 : goal.returns-then-tag-eq0
unfolding answer_at
returns-then-tag-eq0 c =
    option_at-zero (tested_at is_shard_reason reason_at) c.args.fields.now c.byte.new.self
    (c.in_ok-tag.ensures.gives ∙ ap (λ n. Some (n, c.byte.new.self)) c.if-tag-eq0.true)

pub returns-then-tag-ne1 : goal.returns-then-tag-ne1
unfolding answer_at
returns-then-tag-ne1 c =
    option_at-other (tested_at is_shard_reason reason_at) c.args.fields.now c.byte.new.self c.in_ok-tag.tag c.in_ok-tag.ensures.gives
    c.if-tag-eq0.false c.if-tag-ne1.true

pub returns-in_err-reason : goal.returns-in_err-reason
returns-in_err-reason c =
    rw c.from_residual-in_err-reason.ensures
    (behind_one c.args.fields.now c.byte.new.self c.in_ok-tag.tag None c.in_ok-tag.ensures.gives c.if-tag-ne1.false c.in_err-reason.ensures)

pub returns : goal.returns
returns c =
    behind_one c.args.fields.now c.byte.new.self c.in_ok-tag.tag (Some (c.in_ok-reason.reason, c.shard_reason.new.fields)) c.in_ok-tag.ensures.gives
    c.if-tag-ne1.false c.in_ok-reason.ensures
