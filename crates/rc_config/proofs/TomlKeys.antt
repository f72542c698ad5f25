-- The keys of a table, and those of the members that it stands for.
use Rattle.std.proofs.Common.{◌≡◌, ℕ, ◌&&◌, Bool, List, [], ◌∷◌, string_bytes, refl, ap}
use Rattle.std.specs.List.{list_all}
use Rattle.std.specs.Map.{keys_of}
use Rattle.toml.specs.View.{members_view}
use Rattle.toml.proofs.Views.{Entry}
use Rattle.rc_config.specs.Workload.{is_among, has_only}

pub keys_only : (names : List (List ℕ)) (es : List Entry) → list_all (λ name. is_among names (string_bytes name)) (keys_of es) ≡ has_only names (members_view es)
keys_only names [] = refl
keys_only names (e ∷ es) = ap (λ (b : Bool). is_among names (string_bytes e.0) && b) (keys_only names es)
