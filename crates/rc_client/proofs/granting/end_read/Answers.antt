use Rattle.std.proofs.Common.{◌≡◌, List, ap, subst, ◌∙◌}
use Rattle.rc_ids.specs.Tables.{maybe}
use Rattle.rc_protocol.specs.Client.{ClientAct, Slot, slot_of, slot_set, with_read, with_slots, proposes_once_read}
use Rattle.rc_client.specs.Acts.{Core, IsRefusal}
use Rattle.rc_client.specs.Reads.{read_of}
use Rattle.rc_client.specs.States.{client_of, core_of}
use Rattle.rc_client.proofs.ActFacts.{put_back}
use Rattle.rc_client.proofs.SlotFacts.{read-back}
use Rattle.rc_client.proofs.granting.end_read.Goals as goal

pub returns-in-Err-clause-err : goal.returns-in-Err-clause-err
returns-in-Err-clause-err c =
    let fails = c.in-Err.ensures.err in
    let slots_is : c.go_on.new.progress.slots ≡ c.replace_read-before.new.self = ap (λ (y : Core). y.client.slots) fails.core in
    let back : c.set_read.new.self ≡ c.args.progress.now.slots =
    read-back c.args.progress.now.slots c.replace_read-before.new.self c.set_read.new.self c.args.key.now (read_of c.args.read)
    (read_of c.replace_read-before.result) c.replace_read-before.ensures.after c.replace_read-before.ensures.before
    (c.set_read.ensures
    ∙ ap (λ (ss : List Slot). maybe (slot_of ss c.args.key.now) ss (λ (s : Slot). slot_set ss (with_read s (read_of c.replace_read-before.result)))) slots_is) in
    record {
      core = put_back (core_of c.args.progress.now) (core_of c.go_on.new.progress) c.replace_read-before.new.self c.set_read.new.self fails.core back;
      sends = fails.sends;
      lines = fails.lines;
      named = subst (λ (act : ClientAct). IsRefusal c.in-Err.fault act.refused)
          (ap (λ (ss : List Slot). proposes_once_read c.args.cluster.now c.args.progress.now.tx (with_slots (client_of c.args.progress.now) ss))
          c.replace_read-before.ensures.after) fails.named;
    }
