use Rattle.std.proofs.Common.{◌≡◌, true, false, sym, add-one}
use Rattle.rc_ids.specs.Texts.{same_key}
use Rattle.rc_client.proofs.SlotFacts.{slot_of-at, slot_of-more}
use Rattle.rc_client.proofs.slots.place_of.Goals as goal

pub returns-then-eq-clause-found : goal.returns-then-eq-clause-found
returns-then-eq-clause-found c =
    let same : same_key c.index-slots-place.result.key c.args.key.now ≡ true = rw (← c.key.ensures) (sym c.if-eq.ensures) in
    record {
      within = c.loop-place-test.true;
      first = c.loop-place.invariant;
      here = slot_of-at c.args.slots.now c.args.key.now c.loop-place.place c.index-slots-place.result c.loop-place-test.true
          c.loop-place.invariant (rw (← c.index-slots-place.is) same);
    }

pub loop-place-preserved : goal.loop-place-preserved
loop-place-preserved c =
    let other : same_key c.index-slots-place.result.key c.args.key.now ≡ false = rw (← c.key.ensures) (sym c.if-eq.ensures) in
    rw add-one
    (slot_of-more c.args.slots.now c.args.key.now c.loop-place.place c.index-slots-place.result c.loop-place-test.true
    c.loop-place.invariant (rw (← c.index-slots-place.is) other))
