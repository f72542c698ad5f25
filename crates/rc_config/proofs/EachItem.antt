-- The items of an array, one after the other.
use Rattle.std.proofs.Common.{List, ◌++◌, Option, Some, None}

-- what was found so far, in front of what the others are
abbrev pub with_front : {A : Type 0} → List A → Option (List A) → Option (List A)
with_front front None = None
with_front front (Some others) = Some (front ++ others)
