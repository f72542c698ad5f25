-- What is sent to each datacentre, one by one.
use Rattle.std.proofs.Common.{◌≡◌, ℕ, suc, ◌+◌, ◌≤◌, true, List, [], ◌∷◌, ◌++◌, append_assoc, append-nil, sym, ap, ◌∙◌, arith, add-one}
use Rattle.rc_ids.specs.Cluster.{Layout, is_dc_count}
use Rattle.rc_protocol.specs.Messages.{Posts, to_each}
use Rattle.rc_ids.specs.Tables.{maybe}
use Rattle.rc_protocol.specs.Client.{Slot, slot_of, asks, asks_all, asks_rest, asks_again}

pub dcs_range : (n : ℕ) → is_dc_count n ≡ true → n ≤ 7
dcs_range n is = grind arith

-- one datacentre more
pub sent-more : (start out new : Posts) (n : ℕ) (f : ℕ → Posts) → out ≡ start ++ to_each n f → new ≡ out ++ f (n + 1)
    → new ≡ start ++ to_each (n + 1) f
sent-more start out new n f done is = rw (is, done, add-one) (append_assoc start (to_each n f) (f (suc n)))

asks_all-push : (c : Layout) (t : ℕ) (ks : List (List ℕ)) (k : List ℕ) → asks_all c t (ks ++ k ∷ []) ≡ asks_all c t ks ++ asks c t k
asks_all-push c t [] k = append-nil (asks c t k)
asks_all-push c t (l ∷ ls) k =
    ap (λ ms. asks c t l ++ ms) (asks_all-push c t ls k) ∙ sym (append_assoc (asks c t l) (asks_all c t ls) (asks c t k))

-- one key more
pub asked-more : (c : Layout) (t : ℕ) (start out new : Posts) (ks : List (List ℕ)) (k : List ℕ) → out ≡ start ++ asks_all c t ks
    → new ≡ out ++ asks c t k → new ≡ start ++ asks_all c t (ks ++ k ∷ [])
asked-more c t start out new ks k done is =
    rw (is, done, asks_all-push c t ks k) (append_assoc start (asks_all c t ks) (asks c t k))

-- what is asked again for a key
abbrev again : Layout → ℕ → List Slot → List ℕ → Posts
again c t slots k = maybe (slot_of slots k) [] (asks_rest c t)

asks_again-push : (c : Layout) (t : ℕ) (slots : List Slot) (ks : List (List ℕ)) (k : List ℕ)
    → asks_again c t slots (ks ++ k ∷ []) ≡ asks_again c t slots ks ++ again c t slots k
asks_again-push c t slots [] k = append-nil (again c t slots k)
asks_again-push c t slots (l ∷ ls) k =
    ap (λ ms. again c t slots l ++ ms) (asks_again-push c t slots ls k)
    ∙ sym (append_assoc (again c t slots l) (asks_again c t slots ls) (again c t slots k))

pub again-more : (c : Layout) (t : ℕ) (slots : List Slot) (start out new : Posts) (ks : List (List ℕ)) (k : List ℕ)
    → out ≡ start ++ asks_again c t slots ks → new ≡ out ++ maybe (slot_of slots k) [] (asks_rest c t)
    → new ≡ start ++ asks_again c t slots (ks ++ k ∷ [])
again-more c t slots start out new ks k done is =
    is ∙ ap (λ ms. ms ++ again c t slots k) done ∙ append_assoc start (asks_again c t slots ks) (again c t slots k)
    ∙ ap (λ ms. start ++ ms) (sym (asks_again-push c t slots ks k))
