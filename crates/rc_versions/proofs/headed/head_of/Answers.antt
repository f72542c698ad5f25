use Rattle.std.proofs.Common.{ℕ, List, [], ◌∷◌, ap, ◌∙◌}
use Rattle.std.specs.Int.{from_be_bytes, w64}
use Rattle.rc_versions.specs.Heads.{head_of}
use Rattle.rc_versions.proofs.HeadFacts.{head_made}
use Rattle.rc_versions.proofs.headed.head_of.Goals as goal

pub returns-clause-head : goal.returns-clause-head
returns-clause-head c =
    let bytes : List ℕ = c.as_bytes-bytes.result.now in
    c.from_be_bytes.ensures
    ∙ (λ i. from_be_bytes w64
    (c.byte_at.ensures i ∷ c.byte_at-2.ensures i ∷ c.byte_at-3.ensures i ∷ c.byte_at-4.ensures i ∷ c.byte_at-5.ensures i ∷ c.byte_at-6.ensures i ∷ c.byte_at-7.ensures i
    ∷ c.byte_at-8.ensures i ∷ []))
    ∙ head_made bytes ∙ ap head_of c.as_bytes-bytes.ensures.bytes
