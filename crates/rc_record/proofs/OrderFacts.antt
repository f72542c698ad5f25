-- What a record makes of a state in order is, by number, what it makes of the state by number.
use Rattle.std.proofs.Common.{◌≡◌, ℕ, false, true, List, [], ◌∷◌, ◌++◌, Option, Some, None, is_some, refl, sym, ap, subst, ◌∙◌}
use Rattle.std.specs.Ordering.{nat_cmp}
use Rattle.rc_ids.specs.Tables.{Table, found, without, maybe}
use Rattle.rc_ids.specs.declared.names.Outcome.{Outcome}
use Rattle.rc_body.specs.declared.entry.Entry.{Entry}
use Rattle.rc_body.specs.declared.decision.Decision.{Decision}
use Rattle.rc_body.specs.declared.decision.Decision.TheVariants.{Commit, Abort}
use Rattle.rc_body.specs.Decisions.{outcome_of}
use Rattle.rc_body.specs.Rows.{Row}
use Rattle.rc_body.proofs.PageFacts.{TxsDiffer-push}
use Rattle.rc_body.proofs.PartFacts.{TxsDiffer-in_order, TxsDiffer-without, none-found}
use Rattle.rc_record.specs.declared.record.Record.{Record}
use Rattle.rc_record.specs.declared.record.Record.TheVariants.{Head, Prepared, Finished, Promised, Accepted, Decided}
use Rattle.rc_record.specs.ShardState.{ShardDurable, set_rows, settled, settled_new, settled_all, shard_applied}
use Rattle.rc_record.specs.InOrder.{ended, ended_new, ended_all, shard_replayed_by, filed, shown, IsInOrder}
use Rattle.rc_record.proofs.ByNumber.{filed-append, found-filed, filed-in_order, filed-without}

abbrev make : List Row → Table ℕ (List Entry) → Table ℕ Outcome → ShardDurable
make rows parts finished = record { rows = rows; parts = parts; finished = finished }

shown-ended : (s : ShardDurable) (t : ℕ) (d : Decision) → IsInOrder s → shown (ended s t d) ≡ settled (shown s) t d
shown-ended s t d is = by_decision d
  where
    by_decision : (o : Decision) → shown (ended s t o) ≡ settled (shown s) t o
    by_decision Abort =
        ap (λ (ps : Table ℕ (List Entry)). make s.rows ps (filed [] (s.finished ++ (t, outcome_of Abort) ∷ []))) (filed-without [] s.parts t is.parts refl)
        ∙ ap (make s.rows (without nat_cmp (filed [] s.parts) t)) (filed-append [] s.finished ((t, outcome_of Abort) ∷ []))
    by_decision (Commit part) =
        ap (λ (ps : Table ℕ (List Entry)). make (set_rows s.rows part) ps (filed [] (s.finished ++ (t, outcome_of (Commit part)) ∷ []))) (filed-without [] s.parts t is.parts refl)
        ∙ ap (make (set_rows s.rows part) (without nat_cmp (filed [] s.parts) t)) (filed-append [] s.finished ((t, outcome_of (Commit part)) ∷ []))

IsInOrder-ended : (s : ShardDurable) (t : ℕ) (d : Decision) → IsInOrder s → found nat_cmp s.finished t ≡ None → IsInOrder (ended s t d)
IsInOrder-ended s t d is none = record { parts = TxsDiffer-without s.parts t is.parts; finished = TxsDiffer-push s.finished t (outcome_of d) is.finished (none-found s.finished t none) }

none_is : (o : Option Outcome) → is_some o ≡ false → o ≡ None
none_is None e = refl
none_is (Some x) e = absurd cc

-- one entry of a page
record OneMore (s : ShardDurable) (e : ℕ × Decision) : Type 0 where
  shows : shown (ended_new s e) ≡ settled_new (shown s) e
  keeps : IsInOrder (ended_new s e)

one-more : (s : ShardDurable) (e : ℕ × Decision) → IsInOrder s → OneMore s e
one-more s e is = at (found nat_cmp s.finished e.0) refl
  where
    there : (o : Option Outcome) → is_some o ≡ true → maybe o (settled (shown s) e.0 e.1) (λ _. shown s) ≡ shown s
    there None h = absurd cc
    there (Some x) h = refl

    at : (o : Option Outcome) → found nat_cmp s.finished e.0 ≡ o → OneMore s e
    at None none =
        let absent : found nat_cmp (filed [] s.finished) e.0 ≡ None = none_is (found nat_cmp (filed [] s.finished) e.0) (found-filed [] s.finished e.0 ∙ ap is_some none) in
        let new : ended_new s e ≡ ended s e.0 e.1 = ap (λ (o : Option Outcome). maybe o (ended s e.0 e.1) (λ _. s)) none in record {
          shows = ap shown new ∙ shown-ended s e.0 e.1 is ∙ sym (ap (λ (o : Option Outcome). maybe o (settled (shown s) e.0 e.1) (λ _. shown s)) absent);
          keeps = subst IsInOrder (sym new) (IsInOrder-ended s e.0 e.1 is none);
        }
    at (Some x) found_is =
        let old : ended_new s e ≡ s = ap (λ (o : Option Outcome). maybe o (ended s e.0 e.1) (λ _. s)) found_is in record {
          shows = ap shown old ∙ sym (there (found nat_cmp (filed [] s.finished) e.0) (found-filed [] s.finished e.0 ∙ ap is_some found_is));
          keeps = subst IsInOrder (sym old) is;
        }

shown-all : (s : ShardDurable) (page : List (ℕ × Decision)) → IsInOrder s → (shown (ended_all s page) ≡ settled_all (shown s) page) × IsInOrder (ended_all s page)
shown-all s [] is = (refl, is)
shown-all s (e ∷ es) is =
    let one = one-more s e is in
    let rest = shown-all (ended_new s e) es one.keeps in (rest.0 ∙ ap (λ (z : ShardDurable). settled_all z es) one.shows, rest.1)

-- by number, a record makes the same of the state as in order
pub shown-replayed : (s : ShardDurable) (r : Record) → IsInOrder s → (shown (shard_replayed_by s r) ≡ shard_applied (shown s) r) × IsInOrder (shard_replayed_by s r)
shown-replayed s (Prepared t part) is = (
  ap (λ (ps : Table ℕ (List Entry)). let z : ShardDurable = record { rows = s.rows; parts = ps; finished = filed [] s.finished } in z) (filed-in_order [] s.parts t part is.parts),
  record { parts = TxsDiffer-in_order s.parts t part is.parts; finished = is.finished },
)
shown-replayed s (Finished page) is = shown-all s page is
shown-replayed s (Head h) is = (refl, is)
shown-replayed s (Promised t b) is = (refl, is)
shown-replayed s (Accepted t b d) is = (refl, is)
shown-replayed s (Decided page) is = (refl, is)
