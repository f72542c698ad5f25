use Rattle.std.proofs.Common.{inl, inr}
use Rattle.rc_config.proofs.Documents.{document_some, document_none}
use Rattle.rc_config.proofs.workload_file.document.Goals as goal

pub returns-in-Ok-clause-found : goal.returns-in-Ok-clause-found
returns-in-Ok-clause-found c = document_some c.args.bytes.now _ c.in-Ok.ensures.ok.0 c.in-Ok.ensures.ok.1

pub returns-in-Err-clause-none : goal.returns-in-Err-clause-none
returns-in-Err-clause-none c = λ same. elim c.fault_of.ensures [
  | inl memory ↦ let fault = memory.1 in absurd (cc)
  | inr other ↦ document_none c.args.bytes.now (c.in-Err.ensures.refused other.0)
]
