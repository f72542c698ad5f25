-- How refusals are written.
use Rattle.std.specs.Prelude.{List, ℕ, [], ◌∷◌, codes}
use Rattle.std.specs.List.{concat}
use Rattle.std.specs.Fmt.{decimal}
use Rattle.rc_body.specs.declared.reason.Reason.{Reason}
use Rattle.rc_body.specs.declared.reason.Reason.TheVariants.{Locked, Lost, Stale, Promised}
use Rattle.rc_report.specs.Names.{space, tx_text}

abbrev pub reason_text : Reason → List ℕ
reason_text (Locked k t) = concat (codes "locked " ∷ k ∷ space ∷ tx_text t ∷ [])
reason_text (Lost k) = concat (codes "lost " ∷ k ∷ [])
reason_text (Stale k v) = concat (codes "stale " ∷ k ∷ space ∷ decimal v ∷ [])
reason_text (Promised b) = concat (codes "promised " ∷ decimal b ∷ [])
