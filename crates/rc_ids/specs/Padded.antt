-- A list that fills the front of a longer one, with zeros behind.
use Rattle.std.proofs.Common.{◌≡◌, ℕ, ◌-◌, ◌≤◌, ◌++◌, List, length, take, drop, replicate, arith, take-append-drop, length-take-le}

pub length-padded : (n : ℕ) (xs : List ℕ) → n ≤ 7 → length xs ≡ 7 → length (take n xs) ≡ n
length-padded n xs le long = length-take-le n xs (omega arith)

pub padded : (n : ℕ) (xs : List ℕ) → n ≤ 7 → length xs ≡ 7 → drop n xs ≡ replicate (7 - n) 0
    → take n xs ++ replicate (7 - length (take n xs)) 0 ≡ xs
padded n xs le long rest = rw (length-padded n xs le long, ← rest) (take-append-drop n xs)
