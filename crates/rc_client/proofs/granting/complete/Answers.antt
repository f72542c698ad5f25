use Rattle.std.proofs.Common.{◌≡◌, Bool, false, List, [], ◌∷◌, ◌++◌, ap, ◌∙◌}
use Rattle.std.proofs.lemmas.Result.{on_ok_weaker}
use Rattle.rc_ids.specs.Cluster.{shard_of}
use Rattle.rc_ids.specs.Tables.{maybe}
use Rattle.rc_msg.specs.declared.msg.Msg.TheVariants.{ReadCancel}
use Rattle.rc_protocol.specs.Client.{Slot, slot_of, prints_of, with_slots, proposes_once_read}
use Rattle.rc_client.specs.Ends.{end_line, ended_at}
use Rattle.rc_client.specs.Shares.{to_shards}
use Rattle.rc_client.specs.States.{client_of, core_of}
use Rattle.rc_client.proofs.ActFacts.{acts-after}
use Rattle.rc_client.proofs.granting.complete.Goals as goal

pub returns-clause-ok : goal.returns-clause-ok
returns-clause-ok c =
    let prints : Bool = maybe (slot_of c.args.progress.now.slots c.args.key.now) false (λ (s : Slot). prints_of s.read) in
    let printed : c.print_end.new.lines ≡ c.args.lines.now ++ end_line c.args.progress.now.tx c.args.key.now prints c.args.done =
    c.in_ok-print_end.ensures.ok
    ∙ ap (λ (b : Bool). c.args.lines.now ++ end_line c.args.progress.now.tx c.args.key.now b c.args.done) c.prints-prints.ensures in
    on_ok_weaker c.end_read.result
    (acts-after (core_of c.args.progress.now) (core_of c.end_read.new.progress) c.args.out.now c.post_cancel.new.out c.end_read.new.out
    c.args.lines.now c.print_end.new.lines
    (to_shards c.args.cluster.now (shard_of c.args.cluster.now c.args.key.now) c.args.done.from (ReadCancel c.args.progress.now.tx c.args.key.now))
    (end_line c.args.progress.now.tx c.args.key.now prints c.args.done)
    (proposes_once_read c.args.cluster.now c.args.progress.now.tx (with_slots (client_of c.args.progress.now) (ended_at c.args.progress.now.slots c.args.key.now c.args.done)))
    (client_of c.args.progress.now) c.in_ok-post_cancel.ensures.ok printed) c.end_read.ensures.ok
