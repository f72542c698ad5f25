use Rattle.std.proofs.Common.{List, not, filter, ap, sym, ◌∙◌, rules}
use Rattle.std.proofs.lemmas.Fn.{filter_same}
use Rattle.rc_ids.specs.Texts.{same_key}
use Rattle.rc_protocol.specs.Client.{Slot}
use Rattle.rc_client.proofs.DropFacts.{IsSlots-filter}
use Rattle.rc_client.proofs.slots.Slots.remove.Goals as goal

pub returns : goal.returns
returns c =
    filter_same _ (λ (s : Slot). not (same_key s.key c.args.key.now)) _ (λ x b f k. search rules) _ _ c.retain.ensures.filtered
    ∙ ap (λ (xs : List Slot). filter (λ (s : Slot). not (same_key s.key c.args.key.now)) xs) c.self.view_is

pub invariant_of-self : goal.invariant_of-self
invariant_of-self c =
    IsSlots-filter (λ (s : Slot). not (same_key s.key c.args.key.now)) c.self.inside.items.items _ c.self.invariant
    (filter_same _ (λ (s : Slot). not (same_key s.key c.args.key.now)) _ (λ x b f k. search rules) _ _ c.retain.ensures.filtered)
