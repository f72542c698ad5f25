-- Messages and lines that need no cause.
use Rattle.std.proofs.Common.{◌≡◌, List, [], ◌∷◌, ⊎_elim, Some, subst}
use Rattle.rc_ids.specs.Tables.{In}
use Rattle.rc_ids.specs.declared.names.Party.{Party}
use Rattle.rc_body.specs.declared.decision.Decision.TheVariants.{Abort}
use Rattle.rc_msg.specs.declared.msg.Msg.{Msg}
use Rattle.rc_msg.specs.declared.msg.Msg.TheVariants.{Propose, Prepared, Refused, Abandon}
use Rattle.rc_report.specs.declared.line.Line.{Line}
use Rattle.rc_report.specs.declared.line.Line.TheVariants.{Read as ReadLine, Own, Learned}
use Rattle.rc_protocol.specs.Messages.{Posts}
use Rattle.rc_agreement.proofs.Sends.{EachTo}

-- no proposal to abort, no refusal, no answer of a shard that says no, and no transaction given up
abbrev pub Dull : Party → Msg → Type 0
Dull to (Propose u b Abort) = ⊥
Dull to (Prepared u sh (Some reason)) = ⊥
Dull to (Refused u b d reason) = ⊥
Dull to (Abandon u) = ⊥
Dull to _ = Unit {0}

abbrev pub Dulls : Posts → Type 0
Dulls ms = EachTo Dull ms

-- a read or an outcome
abbrev pub Common : Line → Type 0
Common (ReadLine t k version value) = Unit {0}
Common (Own t k value) = Unit {0}
Common (Learned t outcome) = Unit {0}
Common _ = ⊥

pub record Commons (lines : List Line) : Type 0 where
  pub each : (line : Line) → In line lines → Common line

pub no_lines : Commons []
no_lines = record { each = λ line i. absurd i }

pub one_line : (line : Line) → Common line → Commons (line ∷ [])
one_line line h = record { each = λ l i. ⊎_elim (λ (e : line ≡ l). subst Common e h) (λ n. absurd n) i }
