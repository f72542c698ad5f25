-- What is sent to each datacentre, and for each key, one by one.
use Rattle.std.proofs.Common.{◌≡◌, ℕ, suc, ◌+◌, ◌≤◌, true, List, [], ◌∷◌, ◌++◌, append_assoc, append-nil, sym, ap, ◌∙◌, arith, add-one}
use Rattle.rc_ids.specs.Cluster.{Layout, is_dc_count}
use Rattle.rc_ids.specs.Tables.{maybe}
use Rattle.rc_msg.specs.Outboxes.{Outbox}
use Rattle.rc_msg.specs.Posts.{posted_all}
use Rattle.rc_msg.proofs.PostFacts.{posted_all-append}
use Rattle.rc_protocol.specs.Messages.{Posts, to_each}
use Rattle.rc_protocol.specs.Client.{Slot, slot_of, asks, asks_all, asks_rest, asks_again}

pub dcs_range : (n : ℕ) → is_dc_count n ≡ true → n ≤ 7
dcs_range n is = grind arith

-- some, and then more
pub posted-more : (start old new : Outbox) (ms ns all : Posts) → old ≡ posted_all start ms → new ≡ posted_all old ns → all ≡ ms ++ ns
    → new ≡ posted_all start all
posted-more start old new ms ns all first second is =
    second ∙ ap (λ (o : Outbox). posted_all o ns) first ∙ sym (posted_all-append start ms ns) ∙ ap (λ (qs : Posts). posted_all start qs) (sym is)

to_each-more : (n : ℕ) (f : ℕ → Posts) → to_each (n + 1) f ≡ to_each n f ++ f (n + 1)
to_each-more n f = ap (λ (k : ℕ). to_each k f) (add-one n) ∙ ap (λ (k : ℕ). to_each n f ++ f k) (sym (add-one n))

-- one datacentre more
pub sent-more : (start old new : Outbox) (n : ℕ) (f : ℕ → Posts) → old ≡ posted_all start (to_each n f) → new ≡ posted_all old (f (n + 1))
    → new ≡ posted_all start (to_each (n + 1) f)
sent-more start old new n f first second = posted-more start old new (to_each n f) (f (n + 1)) (to_each (n + 1) f) first second (to_each-more n f)

asks_all-push : (c : Layout) (t : ℕ) (ks : List (List ℕ)) (k : List ℕ) → asks_all c t (ks ++ k ∷ []) ≡ asks_all c t ks ++ asks c t k
asks_all-push c t [] k = append-nil (asks c t k)
asks_all-push c t (l ∷ ls) k =
    ap (λ ms. asks c t l ++ ms) (asks_all-push c t ls k) ∙ sym (append_assoc (asks c t l) (asks_all c t ls) (asks c t k))

-- one key more
pub asked-more : (c : Layout) (t : ℕ) (start old new : Outbox) (ks : List (List ℕ)) (k : List ℕ) → old ≡ posted_all start (asks_all c t ks)
    → new ≡ posted_all old (asks c t k) → new ≡ posted_all start (asks_all c t (ks ++ k ∷ []))
asked-more c t start old new ks k first second =
    posted-more start old new (asks_all c t ks) (asks c t k) (asks_all c t (ks ++ k ∷ [])) first second (asks_all-push c t ks k)

-- what is asked again for a key
abbrev again : Layout → ℕ → List Slot → List ℕ → Posts
again c t slots k = maybe (slot_of slots k) [] (asks_rest c t)

asks_again-push : (c : Layout) (t : ℕ) (slots : List Slot) (ks : List (List ℕ)) (k : List ℕ)
    → asks_again c t slots (ks ++ k ∷ []) ≡ asks_again c t slots ks ++ again c t slots k
asks_again-push c t slots [] k = append-nil (again c t slots k)
asks_again-push c t slots (l ∷ ls) k =
    ap (λ ms. again c t slots l ++ ms) (asks_again-push c t slots ls k)
    ∙ sym (append_assoc (again c t slots l) (asks_again c t slots ls) (again c t slots k))

pub again-more : (c : Layout) (t : ℕ) (slots : List Slot) (start old new : Outbox) (ks : List (List ℕ)) (k : List ℕ)
    → old ≡ posted_all start (asks_again c t slots ks) → new ≡ posted_all old (maybe (slot_of slots k) [] (asks_rest c t))
    → new ≡ posted_all start (asks_again c t slots (ks ++ k ∷ []))
again-more c t slots start old new ks k first second =
    posted-more start old new (asks_again c t slots ks) (again c t slots k) (asks_again c t slots (ks ++ k ∷ [])) first second
    (asks_again-push c t slots ks k)
