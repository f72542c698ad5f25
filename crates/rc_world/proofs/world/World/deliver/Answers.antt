use Rattle.std.proofs.Common.{refl, sym, ◌∙◌}
use Rattle.rc_world.proofs.MailFacts.{spelled_at}
use Rattle.rc_world.proofs.Received.{delivery_is_done, delivered_deed, delivered_to, delivery_is_named}
use Rattle.rc_world.proofs.world.World.deliver.Goals as goal

pub returns-in-Some-2-clause-ok : goal.returns-in-Some-2-clause-ok
returns-in-Some-2-clause-ok g c = λ r z is coords_told shards_told.
    let n = c.args.number in
    let e = c.in-Some-2.envelope in
    let sent = sym (c.in_ok-envelope.ensures z.world is.carried.mail) ∙ c.in-Some-2.is in
    c.receive.ensures.ok r z _ is (spelled_at z.world.sent n e is.carried.mail.spelled sent) (delivery_is_done z n e sent) (delivered_deed z n e sent) (delivered_to z n e sent) (delivery_is_named z n e sent) refl coords_told shards_told

pub returns-in-Some-2-clause-err : goal.returns-in-Some-2-clause-err
returns-in-Some-2-clause-err g c = λ r z is coords_told shards_told.
    let n = c.args.number in
    let e = c.in-Some-2.envelope in
    let sent = sym (c.in_ok-envelope.ensures z.world is.carried.mail) ∙ c.in-Some-2.is in
    c.receive.ensures.err r z _ is (spelled_at z.world.sent n e is.carried.mail.spelled sent) (delivery_is_done z n e sent) (delivered_deed z n e sent) (delivered_to z n e sent) (delivery_is_named z n e sent) refl coords_told shards_told
