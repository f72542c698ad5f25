use Rattle.std.proofs.Common.{List, map, subst}
use Rattle.std.specs.List.Sorted.{IsStrictlySortedBy}
use Rattle.rc_ids.specs.Texts.{key_cmp}
use Rattle.rc_plain_shard.proofs.ShownFacts.{Row, keys-more}
use Rattle.rc_plain_shard.proofs.shown.row_keys.Goals as goal

pub loop-key-preserved : goal.loop-key-preserved
loop-key-preserved c =
    let sorted : IsStrictlySortedBy key_cmp (map (λ (r : Row). r.0) c.args.rows.now) =
    subst (λ (rs : List Row). IsStrictlySortedBy key_cmp (map (λ (r : Row). r.0) rs)) c.as_map-key-items.ensures.entries
    c.into_iter-key-iterator.ensures.into_iter_gives.5 in
    keys-more c.args.rows.now c.next.new.self c.loop-key.key-iterator c.loop-key.keys.keys c.add_key.new.keys.keys
    (c.in-Some.key.now, c.in-Some.field-0-1.now) sorted c.loop-key.invariant c.in-Some.ensures.steps c.in_ok-add_key.ensures
