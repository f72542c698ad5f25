-- Rows: one more key.
use Rattle.std.proofs.Common.{◌≡◌, false, ◌||◌, List, [], ◌∷◌, ◌++◌, refl, ◌∙◌}
use Rattle.std.proofs.lemmas.Bool.{or_parts, or_from}
use Rattle.std.proofs.lemmas.List.Folds.{list_any-append}
use Rattle.std.proofs.lemmas.Cmp.{nat_list_eq_equiv}
use Rattle.rc_ids.specs.Texts.{same_key}
use Rattle.rc_body.specs.Rows.{Row, has_row, RowsDiffer}

pub RowsDiffer-push : (rows : List Row) (r : Row) → RowsDiffer rows → has_row r.0 rows ≡ false → RowsDiffer (rows ++ (r ∷ []))
RowsDiffer-push [] r apart none = (refl, tt)
RowsDiffer-push (x ∷ xs) r apart none =
    let parts = or_parts (same_key x.0 r.0) (has_row r.0 xs) none in (
      list_any-append (λ (y : Row). same_key y.0 x.0) xs (r ∷ [])
          ∙ or_from (has_row x.0 xs) (same_key r.0 x.0 || false) apart.0
          (or_from (same_key r.0 x.0) false (nat_list_eq_equiv.symm r.0 x.0 ∙ parts.0) refl),
      RowsDiffer-push xs r apart.1 parts.1,
    )
