-- The operations of a client, as their texts spell them, and in what order they may stand.
use Rattle.std.specs.Prelude.{ℕ, nat_le, Bool, true, false, ◌&&◌, if◌then◌else◌, List, [], ◌∷◌, length, codes, Option, Some, None, unwrap_or}
use Rattle.std.specs.Str.{bytes_eq}
use Rattle.std.specs.Option.{option_map, option_map_or}
use Rattle.rc_ids.specs.Tables.{member, added}
use Rattle.rc_ids.specs.Texts.{key_cmp, gone}
use Rattle.rc_script.specs.Words.{◌>>=◌, first_word, later_words, key_of, val_of}
use Rattle.rc_config.specs.declared.operation.Operation.{Operation}
use Rattle.rc_config.specs.declared.operation.Operation.TheVariants as operations

-- ---- texts

-- K V; what follows the space after the key is the value, and without that space it is empty
abbrev pub write_operation : List ℕ → Option Operation
write_operation words = do
  key ← key_of (first_word words)
  val ← val_of (unwrap_or (later_words words) [])
  Some (operations.Write key val)

abbrev pub bare_operation : List ℕ → Option Operation
bare_operation word =
    if bytes_eq word (codes "commit") then Some operations.Commit
    else if bytes_eq word (codes "vanish") then Some operations.Vanish
    else None

-- a deletion writes the gone value
abbrev pub operation_with : List ℕ → List ℕ → Option Operation
operation_with word words =
    if bytes_eq word (codes "read") then option_map operations.Read (key_of words)
    else if bytes_eq word (codes "write") then write_operation words
    else if bytes_eq word (codes "delete") then option_map (λ key. operations.Write key gone) (key_of words)
    else if bytes_eq word (codes "cancel") then option_map operations.Cancel (key_of words)
    else None

abbrev pub operation_from : List ℕ → Option (List ℕ) → Option Operation
operation_from word None = bare_operation word
operation_from word (Some words) = operation_with word words

-- the operation that a text spells, with the forms of the script
unfoldable pub operation_of : List ℕ → Option Operation
operation_of text = operation_from (first_word text) (later_words text)

-- ---- keys

abbrev pub key_in : Operation → Option (List ℕ)
key_in (operations.Read key) = Some key
key_in (operations.Write key val) = Some key
key_in (operations.Cancel key) = Some key
key_in operations.Commit = None
key_in operations.Vanish = None

abbrev pub with_key : List (List ℕ) → Option (List ℕ) → List (List ℕ)
with_key keys None = keys
with_key keys (Some key) = added key_cmp keys key

-- the different keys that the operations name, beside those of the set
abbrev pub keys_named : List (List ℕ) → List Operation → List (List ℕ)
keys_named keys [] = keys
keys_named keys (operation ∷ others) = keys_named (with_key keys (key_in operation)) others

-- ---- order

-- how far a client is: whether its `commit` or `vanish` was there, and the keys that it read with nothing but reads and
-- cancels since
pub record Course : Type 0 where
  pub ended : Bool
  pub run : List (List ℕ)

abbrev pub new_course : Course
new_course = record { ended = false; run = [] }

-- a cancel comes back to a read of its key
abbrev pub cancelled : Course → List ℕ → Option Course
cancelled course key = if member key_cmp course.run key then Some course else None

abbrev pub course_with : Course → Operation → Option Course
course_with course (operations.Read key) = Some (record { ended = false; run = added key_cmp course.run key })
course_with course (operations.Write key val) = Some new_course
course_with course (operations.Cancel key) = cancelled course key
course_with course operations.Commit = Some (record { ended = true; run = [] })
course_with course operations.Vanish = Some (record { ended = true; run = [] })

-- nothing follows where it has ended
abbrev pub course_after : Course → Operation → Option Course
course_after course operation = if course.ended then None else course_with course operation

abbrev pub may_follow : Course → List Operation → Bool
may_follow course [] = true
may_follow course (operation ∷ others) = option_map_or (λ next. may_follow next others) (course_after course operation) false

-- at most 32 different keys, and each operation may stand where it stands
abbrev pub are_operations : List Operation → Bool
are_operations ops = nat_le (length (keys_named [] ops)) 32 && may_follow new_course ops
