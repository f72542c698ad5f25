use Rattle.std.proofs.Common.{ℕ, List, not, rules}
use Rattle.std.specs.Ordering.{is_eq}
use Rattle.std.proofs.lemmas.Fn.{filter_same}
use Rattle.rc_ids.specs.Texts.{key_cmp}
use Rattle.rc_locks.proofs.IndexFacts.{key_stays}
use Rattle.rc_locks.proofs.flags.drop_key.Goals as goal

pub returns : goal.returns
returns c =
    key_stays c.args.keys.now.items c.retain.new.self.items c.args.key.now
    (filter_same _ (λ (x : List ℕ). not (is_eq (key_cmp c.args.key.now x))) _ (λ x b f k. search rules) _ _ c.retain.ensures.filtered)
