-- A journal whose records give the durable state back still does after an act: one step of a replay at a time.
use Rattle.std.proofs.Common.{◌≡◌, ℕ, suc, ◌≤◌, ◌==◌, IsTrue, false, ◌&&◌, ◌||◌, List, [], ◌∷◌, ◌++◌, Option, None, Some, Result, Ok, Err, refl, sym, ap, subst, ◌∙◌, arith}
use Rattle.std.specs.Prelude.{if◌then◌else◌, IfSome}
use Rattle.std.specs.Option.{option_map}
use Rattle.rc_ids.specs.declared.names.NodeId.{NodeId}
use Rattle.rc_ids.specs.Cluster.{Layout}
use Rattle.rc_ids.specs.Tables.{maybe}
use Rattle.rc_log.specs.Journals.{State}
use Rattle.rc_record.specs.declared.fault.ReplayFault.{ReplayFault}
use Rattle.rc_record.specs.declared.fault.ReplayFault.TheVariants.{BadRecord}
use Rattle.rc_record.specs.declared.record.Record.{Record}
use Rattle.rc_record.specs.declared.record.Record.TheVariants.{Head, Prepared, Finished, Promised, Accepted, Decided}
use Rattle.rc_record.specs.Kinds.{has_gone, is_coord_record}
use Rattle.rc_record.specs.Reading.{decoded}
use Rattle.rc_record.specs.Replay.{on_ok, coord_step, coord_from, format_behind}
use Rattle.rc_record.specs.CoordState.{CoordDurable, new_durable, coord_applied}
use Rattle.rc_record.specs.Spelling.{record_bytes, HasRecord}
use Rattle.rc_protocol.specs.Nodes.{applied}
use Rattle.rc_node.specs.Acts.{Logs}
use Rattle.rc_coord.specs.Replays.{reached, GivesBack, Keeps, IsLogged, ReplayLaws}

abbrev Step : Type 0
Step = ℕ × CoordDurable

module _ (node : NodeId) (c : Layout) where
  replay-reached : (place : ℕ) (s : Step) (log : List (List ℕ)) → coord_from node c place s log ≡ on_ok (reached node c place s log) (λ (t : Step). Ok t.1)
  replay-reached place s [] = refl
  replay-reached place s (bytes ∷ log) = at (coord_step node c place s bytes) (λ t. replay-reached (suc place) t log)
    where
      at : (r : Result Step ReplayFault) → ((t : Step) → coord_from node c (suc place) t log ≡ on_ok (reached node c (suc place) t log) (λ (z : Step). Ok z.1))
          → on_ok r (λ (t : Step). coord_from node c (suc place) t log) ≡ on_ok (on_ok r (λ t. reached node c (suc place) t log)) (λ (t : Step). Ok t.1)
      at (Ok t) rest = rest t
      at (Err fault) rest = refl

  reached-last : (place : ℕ) (s t u : Step) (log : List (List ℕ)) (bytes : List ℕ) → reached node c place s log ≡ Ok t → ((p : ℕ) → coord_step node c p t bytes ≡ Ok u)
      → reached node c place s (log ++ bytes ∷ []) ≡ Ok u
  reached-last place s t u [] bytes done step =
      let same : s ≡ t = cc in
      ap (λ (r : Result Step ReplayFault). on_ok r (λ (z : Step). reached node c (suc place) z [])) (ap (λ (z : Step). coord_step node c place z bytes) same ∙ step place)
  reached-last place s t u (b ∷ log) bytes done step =
      at (coord_step node c place s b) done (λ z d. reached-last (suc place) z t u log bytes d step)
    where
      at : (r : Result Step ReplayFault) → on_ok r (λ (z : Step). reached node c (suc place) z log) ≡ Ok t
          → ((z : Step) → reached node c (suc place) z log ≡ Ok t → reached node c (suc place) z (log ++ bytes ∷ []) ≡ Ok u)
          → on_ok r (λ (z : Step). reached node c (suc place) z (log ++ bytes ∷ [])) ≡ Ok u
      at (Ok z) d rest = rest z d
      at (Err fault) d rest = absurd cc

  kept_format : (f p : ℕ) (r : Record) → (f == 0) ≡ false → (f == 1) ≡ false → IsTrue (is_coord_record r) → format_behind node c is_coord_record p f r ≡ Ok f
  kept_format f p (Promised t b) zero_not one_not is =
      ap (λ x. if x || false || ((f == 1) && has_gone (Promised t b)) then Err (BadRecord p) else Ok f) zero_not
      ∙ ap (λ x. if x && has_gone (Promised t b) then Err (BadRecord p) else Ok f) one_not
  kept_format f p (Accepted t b d) zero_not one_not is =
      ap (λ x. if x || false || ((f == 1) && has_gone (Accepted t b d)) then Err (BadRecord p) else Ok f) zero_not
      ∙ ap (λ x. if x && has_gone (Accepted t b d) then Err (BadRecord p) else Ok f) one_not
  kept_format f p (Decided page) zero_not one_not is =
      ap (λ x. if x || false || ((f == 1) && has_gone (Decided page)) then Err (BadRecord p) else Ok f) zero_not
      ∙ ap (λ x. if x && has_gone (Decided page) then Err (BadRecord p) else Ok f) one_not
  kept_format f p (Head h) zero_not one_not is = absurd cc
  kept_format f p (Prepared t part) zero_not one_not is = absurd cc
  kept_format f p (Finished page) zero_not one_not is = absurd cc

  one_step : (f p : ℕ) (s : CoordDurable) (r : Record) → (f == 0) ≡ false → (f == 1) ≡ false → IsTrue (is_coord_record r) → decoded (record_bytes r) ≡ Some r
      → coord_step node c p (f, s) (record_bytes r) ≡ Ok (f, coord_applied s r)
  one_step f p s r zero_not one_not is spelled =
      ap (λ (o : Option Record). maybe o (Err (BadRecord p)) (λ (q : Record). on_ok (format_behind node c is_coord_record p f q) (λ (g : ℕ). let z : Result Step ReplayFault = Ok (g, coord_applied s q) in z))) spelled
      ∙ ap (λ (e : Result ℕ ReplayFault). on_ok e (λ (g : ℕ). let z : Result Step ReplayFault = Ok (g, coord_applied s r) in z)) (kept_format f p r zero_not one_not is)

  not_zero : (f : ℕ) → 2 ≤ f → (f == 0) ≡ false
  not_zero f le = grind arith

  not_one : (f : ℕ) → 2 ≤ f → (f == 1) ≡ false
  not_one f le = grind arith

  gives-more : (log : List (List ℕ)) (s : CoordDurable) (r : Record) → GivesBack node c log s → IsTrue (is_coord_record r) → decoded (record_bytes r) ≡ Some r
      → GivesBack node c (log ++ record_bytes r ∷ []) (coord_applied s r)
  gives-more log s r back is spelled = record {
    format = back.format;
    newest = back.newest;
    gives =
        reached-last 0 (0, new_durable) (back.format, s) (back.format, coord_applied s r) log (record_bytes r) back.gives
        (λ p. one_step back.format p s r (not_zero back.format back.newest) (not_one back.format back.newest) is spelled);
  }

  pub laws : ((r : Record) → HasRecord r → decoded (record_bytes r) ≡ Some r) → ReplayLaws node c
  laws again = record {
    replays = λ log s back. replay-reached 0 (0, new_durable) log ∙ ap (λ (r : Result Step ReplayFault). on_ok r (λ (t : Step). Ok t.1)) back.gives;
    goes_on = goes;
  }
    where
      more : (s : CoordDurable) (r : Record) (old new : Option (List (List ℕ))) → IsTrue (is_coord_record r) → HasRecord r → new ≡ option_map (λ rs. rs ++ record_bytes r ∷ []) old
          → IfSome old (λ log. GivesBack node c log s) → IfSome new (λ log. GivesBack node c log (coord_applied s r))
      more s r None new kind has is back = subst (λ (o : Option (List (List ℕ))). IfSome o (λ log. GivesBack node c log (coord_applied s r))) (sym is) tt
      more s r (Some log) new kind has is back =
          subst (λ (o : Option (List (List ℕ))). IfSome o (λ log. GivesBack node c log (coord_applied s r))) (sym is) (gives-more log s r back kind (again r has))

      goes : (old new : State) (s : CoordDurable) (logs : Option Record) → Logs old new logs → IsLogged logs → Keeps node c old s → Keeps node c new (applied coord_applied s logs)
      goes old new s None same logged back = subst (λ (j : State). Keeps node c j s) (sym same) back
      goes old new s (Some r) enters logged back = more s r old.records new.records logged.0 logged.1 enters.adds.adds back
