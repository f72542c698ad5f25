use Rattle.std.proofs.Common.{◌≡◌, ℕ, List, Some, None, true, false, if◌then◌else◌, sym, ap, ◌∙◌}
use Rattle.rc_ids.specs.Tables.{member}
use Rattle.rc_body.specs.declared.reason.Reason.TheVariants.{Lost}
use Rattle.rc_protocol.specs.Shard.{mark_cmp}
use Rattle.rc_locks.specs.Flags.{lost_at, lost_marks}
use Rattle.rc_locks.proofs.MoveFacts.{lost_member}
use Rattle.rc_locks.proofs.checks.lost_key.Goals as goal

pub returns-then-lock_of : goal.returns-then-lock_of
returns-then-lock_of c e same =
    let es = c.args.locks.now.entries in
    let there : member mark_cmp (lost_marks es) (e.key, c.args.tx) ≡ true =
    lost_member es c.requires (e.key, c.args.tx) ∙ ap (λ (k : List ℕ). lost_at es (k, c.args.tx)) (same ∙ sym c.new.ensures)
    ∙ sym c.lock_of.ensures.lost ∙ c.if-lock_of.true in
    ap (λ (k : List ℕ). Some (Lost k)) (c.copy.ensures ∙ sym same)
    ∙ sym (ap (λ b. if b then Some (Lost e.key) else None) there)

pub returns : goal.returns
returns c e same =
    let es = c.args.locks.now.entries in
    let gone : member mark_cmp (lost_marks es) (e.key, c.args.tx) ≡ false =
    lost_member es c.requires (e.key, c.args.tx) ∙ ap (λ (k : List ℕ). lost_at es (k, c.args.tx)) (same ∙ sym c.new.ensures)
    ∙ sym c.lock_of.ensures.lost ∙ c.if-lock_of.false in
    sym (ap (λ b. if b then Some (Lost e.key) else None) gone)
