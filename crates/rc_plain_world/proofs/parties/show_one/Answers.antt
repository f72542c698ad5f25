use Rattle.std.proofs.Common.{◌≡◌, None, Some, sym, ◌∙◌, ap}
use Rattle.std.specs.Option.{option_copied}
use Rattle.std.proofs.lemmas.Result.{on_ok_weaker}
use Rattle.rc_plain_world.specs.Lines.{host_at}
use Rattle.rc_plain_world.proofs.Shown.{shown-none, shown-some}
use Rattle.rc_plain_world.proofs.parties.show_one.Goals as goal

pub returns-in-None : goal.returns-in-None
returns-in-None c =
    let none : host_at c.args.cluster.now c.args.shards.now c.args.dc c.args.shard ≡ None = sym c.shard_host.ensures ∙ ap (λ r. option_copied r) c.in-None.is in
    shown-none c.args.cluster.now c.args.shards.now c.args.dc c.args.shard c.args.lines.now none

pub returns-in-Some : goal.returns-in-Some
returns-in-Some c =
    let some : host_at c.args.cluster.now c.args.shards.now c.args.dc c.args.shard ≡ Some c.in-Some.host.now = sym c.shard_host.ensures ∙ ap (λ r. option_copied r) c.in-Some.is in
    on_ok_weaker c.show.result (shown-some c.args.cluster.now c.args.shards.now c.args.dc c.args.shard c.in-Some.host.now _ _ some) c.show.ensures
