use Rattle.std.proofs.Common.{◌≡◌, ◌++◌, ◌+◌, ◌<◌, ◌∷◌, [], ◌∙◌, arith, sym, ap, subst, length-append}
use Rattle.rc_script.specs.declared.command.Command.TheVariants as commands
use Rattle.rc_script.specs.Grammar.{IsScript, commands_of}
use Rattle.rc_config.specs.Generator.{numbered_from, generated, generated_commands}
use Rattle.rc_config.proofs.Grammatical.{script_generated}
use Rattle.rc_config.proofs.Transactions.{one_more, none_left, length_lines}
use Rattle.rc_config.proofs.generator.generate.Goals as goal

pub loop-tx-preserved : goal.loop-tx-preserved
loop-tx-preserved c =
    let draws = c.in_ok-push_transaction.ensures.draws in
    let lines = c.in_ok-push_transaction.ensures.lines in
    let few = length_lines (c.loop-tx.tx + 1) c.loop-tx.draws in
    let left : c.loop-tx.tx < c.args.size = omega arith in
    (rw draws (one_more _ _ _ c.args.size c.loop-tx.tx (c.loop-tx.tx + 1) c.loop-tx.draws left c.loop-tx.invariant.0 lines), rw (lines, length-append) (omega arith))

pub returns : goal.returns
returns c =
    let whole : c.loop-tx.lines ++ commands.Settle ∷ [] ≡ generated_commands c.args.number c.args.size =
    rw (← none_left c.args.size c.loop-tx.tx (c.loop-tx.tx + 1) c.loop-tx.draws (omega arith)) c.loop-tx.invariant.0 in
    let script : c.into_script.result ≡ generated c.args.number c.args.size = c.into_script.ensures ∙ ap (numbered_from 1) (c.in_ok-push.ensures ∙ whole) in
    record { lines = script; script = subst (λ s. IsScript (commands_of s)) (sym script) (script_generated c.args.number c.args.size c.requires.most) }
