-- The limits of the network are those of the world.
use Rattle.rc_world.proofs.PostFacts.{too_many, too_heavy, not_much}
use Rattle.rc_world.proofs.mail.limit.Goals as goal

pub returns-then-are_too_many-clause-limit : goal.returns-then-are_too_many-clause-limit
returns-then-are_too_many-clause-limit c = λ w from ms. too_many c.args.net.now w from ms c.args.sends.now c.len.result c.len.ensures c.if-are_too_many.ensures

pub returns-then-not-has_room_for-clause-limit : goal.returns-then-not-has_room_for-clause-limit
returns-then-not-has_room_for-clause-limit c = λ w from ms.
    too_heavy c.args.net.now w from ms c.args.sends.now c.as_slice.result.now c.len.result c.len.ensures c.as_slice.ensures c.if-are_too_many.ensures c.if-not-has_room_for.ensures

pub returns-clause-limit : goal.returns-clause-limit
returns-clause-limit c = λ w from ms. not_much c.args.net.now w from ms c.args.sends.now c.as_slice.result.now c.as_slice.ensures c.if-not-has_room_for.ensures
