use Rattle.std.proofs.Common.{List, ℕ, ap, ◌∙◌}
use Rattle.rc_ids.specs.Tables.{member}
use Rattle.rc_ids.specs.Texts.{key_cmp}
use Rattle.rc_locks.proofs.IndexFacts.{member_last}
use Rattle.rc_locks.proofs.flags.push_key.Goals as goal

pub returns-clause-there : goal.returns-clause-there
returns-clause-there c =
    ap (λ (ks : List (List ℕ)). member key_cmp ks c.args.key.now) c.in_ok-push.ensures.items
    ∙ member_last c.args.keys.now.items c.copy.result c.args.key.now c.copy.ensures
