use Rattle.std.proofs.Common.{◌≢◌, ℕ, List, sym, ap, ◌∙◌}
use Rattle.std.specs.Ordering.{nat_cmp}
use Rattle.rc_ids.specs.Texts.{key_cmp}
use Rattle.rc_versions.specs.Heads.{head_of}
use Rattle.rc_versions.proofs.HeadFacts.{head_decides}
use Rattle.rc_versions.proofs.headed.HeadedKeyOrd.cmp.Goals as goal

pub returns : goal.returns
returns c =
    let k : List ℕ = c.self.inside.key in
    let l : List ℕ = c.other.inside.key in
    let differ : head_of k ≢ head_of l = λ same. c.if-self-other.false (c.self.invariant.0 ∙ same ∙ sym c.other.invariant.0) in
    c.cmp-2.ensures
    ∙ (λ i. nat_cmp (c.self.invariant.0 i) (c.other.invariant.0 i))
    ∙ head_decides k l c.self.invariant.1 c.other.invariant.1 differ
    ∙ (λ i. key_cmp (c.self.view_is i) (c.other.view_is i))
