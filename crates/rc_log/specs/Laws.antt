-- What holds of a log's records by what the log keeps.
use Rattle.std.specs.Prelude.{ℕ, ◌≡◌, ◌≤◌, List, [], length, unwrap_or, take, Option, None, Some, IfSome, Ok}
use Rattle.std.specs.Option.{option_map, ForSome}
use Rattle.std.proofs.Common.{refl, sym, ap, ◌∙◌}
use Rattle.std.proofs.lemmas.List.{length-take-le, take_all}
use Rattle.rc_disk.specs.Crashes.{IsDurable}
use Rattle.rc_log.specs.Records.{records, size_of}
use Rattle.rc_log.specs.Append.{listed, Leaves}

pub is_counted : (content : Option (List ℕ)) (count : ℕ) → ForSome content (λ c. count ≤ length (listed c)) → IfSome (option_map (λ c. take count (listed c)) content) (λ rs. count ≡ length rs)
is_counted None count enough = tt
is_counted (Some c) count enough = sym (length-take-le count (listed c) (enough c refl))

-- all of them are no_more
all_of : (c : List ℕ) (count : ℕ) → length (listed c) ≤ count → take count (listed c) ≡ listed c
all_of c count no_more = take_all count (listed c) no_more

pub is_sized : (content : Option (List ℕ)) (count end : ℕ) → ForSome content (λ c. length (listed c) ≤ count) → ForSome content (λ c. end ≡ size_of (listed c))
    → IfSome (option_map (λ c. take count (listed c)) content) (λ rs. end ≡ size_of rs)
is_sized None count end no_more place = tt
is_sized (Some c) count end no_more place = place c refl ∙ ap size_of (sym (all_of c count (no_more c refl)))

pub rests : (content : Option (List ℕ)) (may_leave : List ℕ → Type 0) (count : ℕ) → ForSome content (λ c. length (listed c) ≤ count) → ForSome content (λ c. records c ≡ Ok (listed c))
    → IsDurable content may_leave → (left : List ℕ) → may_leave left → Leaves (option_map (λ c. take count (listed c)) content) left
rests None may_leave count no_more whole durable left may = tt
rests (Some c) may_leave count no_more whole durable left may =
    let same : c ≡ left = ap (λ o. unwrap_or o []) (durable.content_is left may) in
    ap records (sym same) ∙ whole c refl ∙ ap Ok (sym (all_of c count (no_more c refl)))
