use Rattle.std.proofs.Common.{◌≡◌, ◌+◌, ℕ, Bor, List, ◌∷◌, Option, Some, None, is_some, drop, refl, sym, ap, subst, ◌∙◌, rules}
use Rattle.std.specs.Option.{option_copied}
use Rattle.rc_ids.specs.Tables.{Table}
use Rattle.rc_body.specs.Bodies.{KeysDiffer}
use Rattle.rc_body.specs.Entries.{entry_seen}
use Rattle.rc_body.specs.declared.entry.Entry.{Entry}
use Rattle.rc_serial.specs.Versions.{entry_raised, body_raised, Agree}
use Rattle.rc_serial.proofs.Rest.{rest_at, rest_apart, lasts}
use Rattle.rc_serial.proofs.VersionFacts.{raised-written, raised-read, agree-raised}
use Rattle.rc_serial.proofs.versions.Versions.raise_all.Goals as goal
use Rattle.rc_serial.proofs.versions.Versions.raise_all.Goals.{then-is_some+in_ok-raise, else-is_some}

is_some-copied : (o : Option (Bor (List ℕ))) → is_some (option_copied o) ≡ is_some o
is_some-copied None = refl
is_some-copied (Some x) = refl

pub raise-requires : goal.raise-requires
raise-requires c =
    lasts c.args.body.now c.loop-index.index (entry_seen c.entry-entry.result) c.len-index-end.ensures.body.lasting c.entry-entry.ensures
    (search rules)

pub loop-index-preserved : goal.loop-index-preserved
loop-index-preserved c =
    let e : Entry = entry_seen c.entry-entry.result in
    let rest : List Entry = drop (c.loop-index.index + 1) c.args.body.now in
    let at = rest_at c.args.body.now c.loop-index.index e c.entry-entry.ensures in
    let before = sym (ap (λ (es : List Entry). body_raised c.loop-index.self es) at) ∙ c.loop-index.invariant.0 in
    let agreed : Agree c.loop-index.self (e ∷ rest) = subst (λ (es : List Entry). Agree c.loop-index.self es) at c.loop-index.invariant.1 in
    let apart : KeysDiffer (e ∷ rest) = subst KeysDiffer at (rest_apart c.args.body.now c.loop-index.index c.len-index-end.ensures.body.apart) in
    let is : c.if-is_some.self ≡ entry_raised c.loop-index.self e =
    elim c.if-is_some.branch [
      | then-is_some+in_ok-raise w ↦
          w.self-is ∙ w.in_ok-raise.ensures
          ∙ raised-written c.loop-index.self e (is_some-copied c.entry-entry.result.write ∙ sym c.is_some.ensures ∙ w.if-is_some.true) agreed.0
      | else-is_some w ↦ w.self-is ∙ raised-read c.loop-index.self e (is_some-copied c.entry-entry.result.write ∙ sym c.is_some.ensures ∙ w.if-is_some.false)
    ] in (
      ap (λ (t : Table (List ℕ) ℕ). body_raised t rest) is ∙ before,
      subst (λ (t : Table (List ℕ) ℕ). Agree t rest) (sym is) (agree-raised c.loop-index.self e rest apart.0 agreed.1),
    )
