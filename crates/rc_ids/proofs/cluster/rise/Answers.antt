use Rattle.std.proofs.Common.{◌≡◌, true, false, sym, ◌∙◌}
use Rattle.std.specs.Ordering.{is_lt}
use Rattle.rc_ids.specs.Texts.{key_cmp}
use Rattle.rc_ids.proofs.LayoutFacts.{rise_stops, rise_goes, keys_more}
use Rattle.rc_ids.proofs.cluster.rise.Goals as goal

pub returns-then-not-is_below-clause-rise : goal.returns-then-not-is_below-clause-rise
returns-then-not-is_below-clause-rise c =
    let down : is_lt (key_cmp c.loop-key.last.now c.key-item.result) ≡ false =
    rw (← c.as_bytes-bytes.ensures.bytes) (sym c.is_below.ensures ∙ c.if-not-is_below.true) in
    rw c.in-Some.ensures.cases.0
    (rise_stops c.in-Some.first.now c.loop-key.last.now c.key-item.result c.loop-key.key-index c.in-Some.rest.now
    c.loop-key-test.true c.key-item.is down (rw (← c.as_bytes-last.ensures.bytes) c.loop-key.invariant.rises))

pub loop-key-preserved : goal.loop-key-preserved
loop-key-preserved c =
    let up : is_lt (key_cmp c.loop-key.last.now c.key-item.result) ≡ true =
    rw (← c.as_bytes-bytes.ensures.bytes) (sym c.is_below.ensures ∙ c.if-not-is_below.false) in
    record {
      rises = rw c.as_bytes-bytes.ensures.bytes
          (rise_goes c.as_bytes-last.result.now c.loop-key.last.now c.key-item.result c.loop-key.key-index
          c.in-Some.rest.now c.loop-key-test.true c.key-item.is up c.loop-key.invariant.rises);
      keys = keys_more c.key-item.result c.loop-key.key-index c.in-Some.rest.now c.loop-key-test.true c.key-item.is
          (rw (← c.as_bytes-bytes.ensures.bytes) c.as_bytes-bytes.ensures.key) c.loop-key.invariant.keys;
      first = c.loop-key.invariant.first;
    }
