use Rattle.std.proofs.Common.{◌≡◌, false, List, sym, subst}
use Rattle.rc_protocol.specs.Client.{Slot, is_worn}
use Rattle.rc_plain_client.proofs.DropFacts.{is_worn-dropped}
use Rattle.rc_plain_client.proofs.client.Client.drop_read.Goals as goal

pub invariant_of-self : goal.invariant_of-self
invariant_of-self c = record {
  proposed = λ p. subst (λ (xs : List Slot). is_worn xs ≡ false) (sym c.drop_read.ensures)
      (is_worn-dropped c.self.inside.slots c.args.key.now (c.self.invariant.proposed p));
}
