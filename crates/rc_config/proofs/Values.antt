-- The values that transactions write are texts.
use Rattle.std.proofs.Common.{◌≡◌, ◌≢◌, ℕ, ◌+◌, ◌%◌, ◌^◌, ◌<◌, ◌≤◌, leb, true, List, [], ◌∷◌, length, Some, None, refl, arith}
use Rattle.std.specs.List.{list_all}
use Rattle.std.specs.Fmt.{decimal}
use Rattle.std.proofs.lemmas.Bool.{le-leb}
use Rattle.std.proofs.lemmas.List.Folds.{list_all-append}
use Rattle.std.proofs.lemmas.Fmt.{decimal_by_steps, length-decimal-le}
use Rattle.rc_ids.specs.declared.fault.TextFault.{TextFault}
use Rattle.rc_ids.specs.declared.fault.TextFault.TheVariants.{NoMemory, BadLength, BadByte}
use Rattle.rc_ids.specs.Texts.{is_value_byte, IsText, value_fault}
use Rattle.rc_ids.proofs.TextFacts.{no_text_fault}
use Rattle.rc_config.specs.Generator.{value_name}

digit_passes : (n : ℕ) → n < 10 → list_all is_value_byte ((48 + n) ∷ []) ≡ true
digit_passes n small =
    let low : leb 32 (48 + n) ≡ true = le-leb 32 (48 + n) (omega arith) in
    let high : leb (48 + n) 126 ≡ true = le-leb (48 + n) 126 (omega arith) in
    rw (low, high) refl

pub digits_pass : (n : ℕ) → n < 2 ^ 64 → list_all is_value_byte (decimal n) ≡ true
digits_pass n small =
    decimal_by_steps (λ _ digits. list_all is_value_byte digits ≡ true) (λ n one. digit_passes n one)
    (λ n digits long more. rw (list_all-append is_value_byte digits ((48 + n % 10) ∷ []), more) (digit_passes (n % 10) (omega arith))) n small

pub value_fits : (n : ℕ) → n < 2 ^ 32 → IsText (value_name n)
value_fits n small =
    let short : length (decimal n) ≤ 10 = length-decimal-le 10 n (omega arith) (omega arith) (omega arith) in
    (omega arith, digits_pass n (omega arith))

pub value_is_text : (n : ℕ) → n < 2 ^ 32 → value_fault (value_name n) ≡ None
value_is_text n small = no_text_fault (value_name n) (value_fits n small)

-- a text without a fault is refused for want of memory alone
pub only_memory : (text : List ℕ) (fault : TextFault) → value_fault text ≡ None → (fault ≢ NoMemory → value_fault text ≡ Some fault) → fault ≡ NoMemory
only_memory text NoMemory none other = refl
only_memory text BadLength none other = let bad : value_fault text ≡ Some BadLength = other (λ e. cc) in cc
only_memory text (BadByte at) none other = let bad : value_fault text ≡ Some (BadByte at) = other (λ e. cc) in cc
