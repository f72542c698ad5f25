use Rattle.rc_world.proofs.world.World.pending.Goals as goal

pub returns : goal.returns
returns g c = λ r z is. c.push_pending.ensures z.world is.carried.mail
