use Rattle.std.proofs.Common.{◌≡◌, List, [], map, sym, ap, subst, ◌∙◌}
use Rattle.std.specs.List.Sorted.{IsStrictlySortedBy}
use Rattle.rc_ids.specs.Texts.{key_cmp}
use Rattle.rc_body.specs.Rows.{Row}
use Rattle.rc_shard.specs.Plans.{newest_all}
use Rattle.rc_shard.proofs.StartFacts.{newest-all, Rises-keys}
use Rattle.rc_shard.proofs.starting.versions_of.Goals as goal

pub returns : goal.returns
returns c =
    let sorted : IsStrictlySortedBy key_cmp (map (λ (r : Row). r.0) c.args.rows.now) =
    subst (λ (rs : List Row). IsStrictlySortedBy key_cmp (map (λ (r : Row). r.0) rs)) c.as_map-key-items.ensures.entries
    c.into_iter-key-iterator.ensures.into_iter_gives.5 in
    let nil : c.loop-key.key-iterator ≡ [] = c.in-None.ensures.steps.0 in
    sym (ap (newest_all c.loop-key.versions.rows) nil) ∙ c.loop-key.invariant ∙ newest-all c.args.rows.now (Rises-keys c.args.rows.now sorted) c.as_map-key-items.ensures.written
