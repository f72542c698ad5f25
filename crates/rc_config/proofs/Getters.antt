-- What the getters of `clap` read, by the rows of its matches.
use Rattle.std.proofs.Common.{◌≡◌, ℕ, List, [], ◌∷◌, option_map, Bor, refl, inl, inr}
use Rattle.std.specs.Prelude.{find, slice_get, option_and_then, map}
use Rattle.std.specs.Str.{bytes_eq}
use Rattle.std.proofs.lemmas.Bool.{cases_Bool}
use Rattle.clap.specs.Words.{first_of, first_value, rows_of}
use Rattle.clap.specs.Walk.{row_of}
use Rattle.clap.specs.Facts.{Entry}
use Rattle.clap.specs.declared.parser.matches.Found.{Found}

first_text : (xs : List (Bor (List ℕ))) → option_map (λ s. s.now) (slice_get xs 0) ≡ slice_get (map (λ s. s.now) xs) 0
first_text [] = refl
first_text (x ∷ xs) = refl

among_rows : (id : List ℕ) (es : List Entry) → option_and_then (λ a. option_map (λ s. s.now) (slice_get a.vals.items 0)) (option_map (λ e. e.1) (find (λ e. bytes_eq e.0.now id) es)) ≡ first_of id (map row_of es)
among_rows id [] = refl
among_rows id (e ∷ es) =
    elim (cases_Bool (bytes_eq e.0.now id)) [
      | inl here ↦ rw here (first_text e.1.vals.items)
      | inr other ↦ rw other (among_rows id es)
    ]

pub read_by_rows : (id : List ℕ) (f : Found) → first_value f id ≡ first_of id (rows_of f)
read_by_rows id f = among_rows id f.entries.items
