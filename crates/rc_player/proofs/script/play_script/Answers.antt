use Rattle.rc_player.proofs.Scripts.{script_wrote, script_wrote_none}
use Rattle.rc_player.proofs.script.play_script.Goals as goal

pub returns-in_default-clause-wrote : goal.returns-in_default-clause-wrote
returns-in_default-clause-wrote g c = script_wrote_none c.args.commands.now _ c.in_default.ensures.cases

pub returns-clause-wrote : goal.returns-clause-wrote
returns-clause-wrote g c =
    script_wrote c.args.commands.now c.in-Some.first.now c.in-Some.later.now c.in_ok-cluster.cluster c.in_ok-session.session _ _ _ c.in-Some.ensures.cases.0 c.in_ok-cluster.ensures c.in_ok-session.ensures c.play_lines.ensures.wrote
