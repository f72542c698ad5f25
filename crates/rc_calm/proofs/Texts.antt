-- How long the lines of a calm script are at most.
use Rattle.std.proofs.Common.{◌≡◌, ℕ, suc, ◌+◌, ◌*◌, ◌≤◌, List, [], ◌∷◌, ◌++◌, refl, arith, Bool, true, false, Option, Some, None, inl, inr}
use Rattle.std.specs.Prelude.{length, codes, if◌then◌else◌}
use Rattle.std.specs.List.{flat_map, concat}
use Rattle.std.specs.Fmt.{decimal}
use Rattle.std.proofs.lemmas.Fmt.{length-decimal-le}
use Rattle.rc_ids.specs.Tables.{In}
use Rattle.rc_ids.specs.declared.names.Outcome.TheVariants.{Commit as Committed}
use Rattle.rc_report.specs.Names.{space, tx_text, is_gone}
use Rattle.rc_report.specs.Lines.{line_text, read_text, own_text, order_text}
use Rattle.rc_report.specs.declared.line.Line.{Line}
use Rattle.rc_report.specs.declared.line.Line.TheVariants.{Read as ReadLine, Own, Learned, Settled, Order as OrderLine}
use Rattle.rc_runs.specs.Session.{text_bytes}
use Rattle.rc_calm_batches.proofs.ReadDrains.{length_both}
use Rattle.rc_calm.proofs.Frames.{Short}

-- a line has at most so many bytes
abbrev pub most_line : ℕ
most_line = 12400

pub tx_length : (t : ℕ) → t ≤ 4294967295 → length (tx_text t) ≤ 11
tx_length t h = let d = length-decimal-le 10 t (omega arith) (omega (arith, h)) (omega (arith, h)) in omega (arith, d)

small_length : (n : ℕ) → n ≤ 99999 → length (decimal n) ≤ 5
small_length n h = length-decimal-le 5 n (omega arith) (omega (arith, h)) (omega (arith, h))

-- texts one after another
two : (a b : List ℕ) → length (concat (a ∷ b ∷ [])) ≡ length a + length b
two a b = let l = length_both a (b ++ []) in let k = length_both b [] in omega (arith, l, k)

three : (a b c : List ℕ) → length (concat (a ∷ b ∷ c ∷ [])) ≡ length a + (length b + length c)
three a b c = let l = length_both a (b ++ (c ++ [])) in let k = two b c in omega (arith, l, k)

four : (a b c d : List ℕ) → length (concat (a ∷ b ∷ c ∷ d ∷ [])) ≡ length a + (length b + (length c + length d))
four a b c d = let l = length_both a (b ++ (c ++ (d ++ []))) in let k = three b c d in omega (arith, l, k)

five : (a b c d e : List ℕ) → length (concat (a ∷ b ∷ c ∷ d ∷ e ∷ [])) ≡ length a + (length b + (length c + (length d + length e)))
five a b c d e = let l = length_both a (b ++ (c ++ (d ++ (e ++ [])))) in let k = four b c d e in omega (arith, l, k)

six : (a b c d e f : List ℕ) → length (concat (a ∷ b ∷ c ∷ d ∷ e ∷ f ∷ [])) ≡ length a + (length b + (length c + (length d + (length e + length f))))
six a b c d e f = let l = length_both a (b ++ (c ++ (d ++ (e ++ (f ++ []))))) in let k = five b c d e f in omega (arith, l, k)

seven : (a b c d e f g : List ℕ) → length (concat (a ∷ b ∷ c ∷ d ∷ e ∷ f ∷ g ∷ [])) ≡ length a + (length b + (length c + (length d + (length e + (length f + length g)))))
seven a b c d e f g = let l = length_both a (b ++ (c ++ (d ++ (e ++ (f ++ (g ++ [])))))) in let k = six b c d e f g in omega (arith, l, k)

read_length : (t : ℕ) (k : List ℕ) (v : ℕ) (value : Option (List ℕ)) → t ≤ 4294967295 → length k ≤ 64 → v ≤ 99999 → Short value → length (read_text t k v value) ≤ 1200
read_length t k v None a b c d = let x = tx_length t a in let y = small_length v c in let l = six (tx_text t) (codes " read ") k space (decimal v) (codes " -") in omega (arith, x, y, l, b)
read_length t k v (Some value) a b c d = go (is_gone value)
  where
    x : length (tx_text t) ≤ 11
    x = tx_length t a

    y : length (decimal v) ≤ 5
    y = small_length v c

    go : (g : Bool) → length (if g then concat (tx_text t ∷ codes " gone " ∷ k ∷ space ∷ decimal v ∷ []) else concat (tx_text t ∷ codes " read " ∷ k ∷ space ∷ decimal v ∷ space ∷ value ∷ [])) ≤ 1200
    go true = let l = five (tx_text t) (codes " gone ") k space (decimal v) in omega (arith, x, y, l, b)
    go false = let l = seven (tx_text t) (codes " read ") k space (decimal v) space value in omega (arith, x, y, l, b, d)

own_length : (t : ℕ) (k value : List ℕ) → t ≤ 4294967295 → length k ≤ 64 → length value ≤ 1024 → length (own_text t k value) ≤ 1200
own_length t k value a b d = go (is_gone value)
  where
    x : length (tx_text t) ≤ 11
    x = tx_length t a

    go : (g : Bool) → length (if g then concat (tx_text t ∷ codes " deletes " ∷ k ∷ []) else concat (tx_text t ∷ codes " own " ∷ k ∷ space ∷ value ∷ [])) ≤ 1200
    go true = let l = three (tx_text t) (codes " deletes ") k in omega (arith, x, l, b)
    go false = let l = five (tx_text t) (codes " own ") k space value in omega (arith, x, l, b, d)

names_length : (ts : List ℕ) → ((t : ℕ) → In t ts → t ≤ 4294967295) → length (flat_map (λ (t : ℕ). space ++ tx_text t) ts) ≤ length ts * 12
names_length [] h = omega arith
names_length (t ∷ ts) h =
    let now = tx_length t (h t (inl refl)) in
    let more = names_length ts (λ u i. h u (inr i)) in
    let l = length_both (space ++ tx_text t) (flat_map (λ (t : ℕ). space ++ tx_text t) ts) in
    let z : suc (length ts) * 12 ≡ 12 + length ts * 12 = grind (arith) in
    omega (arith, now, more, l, z)

-- LINES
pub one_line : (l : Line) (n : ℕ) → length (line_text l) ≤ n → text_bytes (l ∷ []) ≤ n
one_line l n h = omega (arith, h)

pub read_fits : (t : ℕ) (k : List ℕ) (v : ℕ) (value : Option (List ℕ)) → t ≤ 4294967295 → length k ≤ 64 → v ≤ 99999 → Short value → length (line_text (ReadLine t k v value)) ≤ 1300
read_fits t k v value a b c d = let h = read_length t k v value a b c d in let l = length_both (read_text t k v value) (10 ∷ []) in omega (arith, h, l)

pub own_fits : (t : ℕ) (k value : List ℕ) → t ≤ 4294967295 → length k ≤ 64 → length value ≤ 1024 → length (line_text (Own t k value)) ≤ 1300
own_fits t k value a b d = let h = own_length t k value a b d in let l = length_both (own_text t k value) (10 ∷ []) in omega (arith, h, l)

pub learned_fits : (t : ℕ) → t ≤ 4294967295 → length (line_text (Learned t Committed)) ≤ 100
learned_fits t a = let x = tx_length t a in let l = three (tx_text t) space (codes "committed") in let k = length_both (concat (tx_text t ∷ space ∷ codes "committed" ∷ [])) (10 ∷ []) in omega (arith, x, l, k)

pub settled_fits : (n : ℕ) → n ≤ 99999 → length (line_text (Settled n)) ≤ 100
settled_fits n a = let y = small_length n a in let l = two (codes "settled ") (decimal n) in let k = length_both (concat (codes "settled " ∷ decimal n ∷ [])) (10 ∷ []) in omega (arith, y, l, k)

pub order_fits : (ts : List ℕ) → ((t : ℕ) → In t ts → t ≤ 4294967295) → length ts ≤ 1024 → length (line_text (OrderLine ts)) ≤ most_line
order_fits ts a few =
    let h = names_length ts a in
    let l = length_both (codes "order") (flat_map (λ (t : ℕ). space ++ tx_text t) ts) in
    let k = length_both (order_text ts) (10 ∷ []) in
    omega (arith, h, l, k, few)
