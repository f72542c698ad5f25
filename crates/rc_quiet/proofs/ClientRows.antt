-- What is asked for and proposed to all, and reads and phases of clients.
use Rattle.std.proofs.Common.{◌≡◌, ℕ, zero, suc, ◌≤◌, ◌≢◌, List, [], ◌∷◌, refl, sym, ap, ◌∙◌, subst, Bool, true, false, cond, Some, ◌⊎◌, inl, inr, ⊎_elim, true≢false, arith}
use Rattle.std.specs.declared.cmp.Ordering.{Ordering}
use Rattle.std.specs.declared.cmp.Ordering.TheVariants.{Less, Equal, Greater}
use Rattle.std.specs.Ordering.{match_ordering}
use Rattle.std.specs.FinMap.{nat_cmp-IsAntisymmetric, slice_cmp-IsAntisymmetric}
use Rattle.rc_ids.specs.Tables.{In, added}
use Rattle.rc_ids.specs.Texts.{key_cmp, same_key}
use Rattle.rc_ids.specs.Cluster.{Layout, is_dc, shard_of}
use Rattle.rc_ids.specs.declared.names.Party.{Party}
use Rattle.rc_msg.specs.declared.msg.Msg.{Msg}
use Rattle.rc_msg.specs.declared.msg.Msg.TheVariants.{ReadAsk}
use Rattle.rc_protocol.specs.Messages.{Posts, coordinator, shard_server, one, to_each, to_all}
use Rattle.rc_protocol.specs.Client.{Phase, Open, Committing, Proposed, Done, Vanished, Slot, KeyRead, NotRead, UnderWay, Complete, is_open, is_committing, is_proposed, is_unread, reads_on, with_read, slot_of, slot_set, read_begun, asks, is_under_way, waits_for_read, reads_begun, unread_keys, asks_all}
use Rattle.rc_agreement.proofs.Cases.{on_cond, never, nat_dec}
use Rattle.rc_agreement.proofs.Tables.{in_left, in_right}
use Rattle.rc_agreement.proofs.Lists.{any_some, map_in}
use Rattle.rc_agreement.proofs.Places.{dc_range}
use Rattle.rc_agreement.proofs.Ballots.{Late}
use Rattle.rc_quiet.proofs.Parts.{IsDone}

-- TO ALL
pub in_each : (n d : ℕ) (f : ℕ → Posts) (p : Party × Msg) → 1 ≤ d → d ≤ n → In p (f d) → In p (to_each n f)
in_each zero d f p low high i = absurd (omega arith)
in_each (suc n) d f p low high i =
    ⊎_elim
    (λ (e : d ≡ suc n). in_right p (to_each n f) (f (suc n)) (subst (λ (k : ℕ). In p (f k)) e i))
    (λ (ne : d ≡ suc n → ⊥). let apart : d ≢ suc n = ne in in_left p (to_each n f) (f (suc n)) (in_each n d f p low (omega arith) i))
    (nat_dec d (suc n))

pub in_all : (c : Layout) (d : ℕ) (m : Msg) → is_dc c d ≡ true → In (coordinator d, m) (to_all c m)
in_all c d m dc = let r = dc_range c d dc in in_each c.dcs d (λ e. one (coordinator e) m) (coordinator d, m) r.0 r.1 (inl refl)

pub in_asks : (c : Layout) (t d : ℕ) (k : List ℕ) → is_dc c d ≡ true → In (shard_server d (shard_of c k), ReadAsk t k) (asks c t k)
in_asks c t d k dc = let r = dc_range c d dc in in_each c.dcs d (λ e. one (shard_server e (shard_of c k)) (ReadAsk t k)) (shard_server d (shard_of c k), ReadAsk t k) r.0 r.1 (inl refl)

pub in_asks_all : (c : Layout) (t d : ℕ) (k : List ℕ) (ks : List (List ℕ)) → is_dc c d ≡ true → In k ks → In (shard_server d (shard_of c k), ReadAsk t k) (asks_all c t ks)
in_asks_all c t d k [] dc i = absurd i
in_asks_all c t d k (q ∷ ks) dc i =
    ⊎_elim
    (λ (e : q ≡ k). in_left _ (asks c t q) (asks_all c t ks) (subst (λ (z : List ℕ). In (shard_server d (shard_of c k), ReadAsk t k) (asks c t z)) (sym e) (in_asks c t d k dc)))
    (λ j. in_right _ (asks c t q) (asks_all c t ks) (in_asks_all c t d k ks dc j))
    i

added_key : (x k : List ℕ) (xs : List (List ℕ)) → (x ≡ k) ⊎ In x xs → In x (added key_cmp xs k)
added_key x k [] (inl e) = inl (sym e)
added_key x k [] (inr h) = absurd h
added_key x k (y ∷ ys) h = go (added_key x k ys) (key_cmp k y) refl h
  where
    go : ((x ≡ k) ⊎ In x ys → In x (added key_cmp ys k)) → (o : Ordering) → key_cmp k y ≡ o → (x ≡ k) ⊎ In x (y ∷ ys) → In x (match_ordering o (k ∷ y ∷ ys) (y ∷ ys) (y ∷ added key_cmp ys k))
    go ih Less at (inl e) = inl (sym e)
    go ih Less at (inr j) = inr j
    go ih Equal at (inl e) = inl (sym (e ∙ slice_cmp-IsAntisymmetric nat_cmp-IsAntisymmetric k y at))
    go ih Equal at (inr j) = j
    go ih Greater at (inl e) = inr (ih (inl e))
    go ih Greater at (inr (inl e)) = inl e
    go ih Greater at (inr (inr j)) = inr (ih (inr j))

pub in_unread : (s : Slot) (xs : List Slot) → In s xs → is_unread s.read ≡ true → In s.key (unread_keys xs)
in_unread s [] i u = absurd i
in_unread s (y ∷ ys) i u =
    on_cond (λ (z : List (List ℕ)). In s.key z) (is_unread y.read) (added key_cmp (unread_keys ys) y.key) (unread_keys ys)
    (λ _. added_key s.key y.key (unread_keys ys) (⊎_elim (λ (e : y ≡ s). inl (ap (λ (z : Slot). z.key) (sym e))) (λ j. inr (in_unread s ys j u)) i))
    (λ n. ⊎_elim (λ (e : y ≡ s). absurd (true≢false (sym u ∙ ap (λ (z : Slot). is_unread z.read) (sym e) ∙ n))) (λ j. in_unread s ys j u) i)

-- READS
pub begun_unread : (s : Slot) → is_unread (read_begun s).read ≡ false
begun_unread s = on_cond (λ (z : Slot). is_unread z.read ≡ false) (is_unread s.read) (with_read s (UnderWay false [])) s (λ _. refl) (λ n. n)

pub begun_same : (s : Slot) → is_unread s.read ≡ false → read_begun s ≡ s
begun_same s n = rw n refl

pub under_unread : (r : KeyRead) → is_under_way r ≡ true → is_unread r ≡ false
under_unread NotRead e = absurd (true≢false (sym e))
under_unread (UnderWay p gs) e = refl
under_unread (Complete v y) e = refl

pub done_read : (r : KeyRead) → is_unread r ≡ false → is_under_way r ≡ false → IsDone r
done_read NotRead u w = absurd (true≢false u)
done_read (UnderWay p gs) u w = absurd (true≢false w)
done_read (Complete v y) u w = tt

pub none_under : (xs : List Slot) → waits_for_read xs ≡ false → (s : Slot) → In s xs → is_under_way s.read ≡ false
none_under xs n s i = go (is_under_way s.read) refl
  where
    go : (b : Bool) → is_under_way s.read ≡ b → b ≡ false
    go true e = absurd (true≢false (sym (any_some (λ (z : Slot). is_under_way z.read) xs s i e) ∙ n))
    go false e = refl

pub begun_done : (xs : List Slot) → waits_for_read (reads_begun xs) ≡ false → (s : Slot) → In s xs → IsDone s.read
begun_done xs n s i = go (is_unread s.read) refl
  where
    m : In (read_begun s) (reads_begun xs)
    m = map_in read_begun s xs i

    under : is_under_way (read_begun s).read ≡ false
    under = none_under (reads_begun xs) n (read_begun s) m

    go : (b : Bool) → is_unread s.read ≡ b → IsDone s.read
    go true e = absurd (true≢false (ap (λ (z : Slot). is_under_way z.read) (begun e) ∙ under))
      where
        begun : is_unread s.read ≡ true → with_read s (UnderWay false []) ≡ read_begun s
        begun e = rw e refl
    go false e = done_read s.read e (ap (λ (z : Slot). is_under_way z.read) (sym (begun_same s e)) ∙ under)

-- a slot set in its place stands in the list
pub set_in : (k : List ℕ) (s y : Slot) (xs : List Slot) → slot_of xs k ≡ Some s → y.key ≡ k → In y (slot_set xs y)
set_in k s y [] is e = never s is
set_in k s y (z ∷ xs) is e = go (set_in k s y xs) (same_key z.key k) refl is
  where
    at : same_key z.key y.key ≡ same_key z.key k
    at = ap (same_key z.key) e

    go : (slot_of xs k ≡ Some s → y.key ≡ k → In y (slot_set xs y)) → (b : Bool) → same_key z.key k ≡ b → cond b (Some z) (slot_of xs k) ≡ Some s → In y (slot_set (z ∷ xs) y)
    go ih true b is = let q : same_key z.key y.key ≡ true = at ∙ b in subst (λ (v : Bool). In y (cond v (y ∷ xs) (z ∷ slot_set xs y))) (sym q) (inl refl)
    go ih false b is = let q : same_key z.key y.key ≡ false = at ∙ b in subst (λ (v : Bool). In y (cond v (y ∷ xs) (z ∷ slot_set xs y))) (sym q) (inr (ih is e))

-- PHASES
pub open_apart : (p : Phase) → is_open p ≡ true → (is_committing p ≡ true → ⊥) × (is_proposed p ≡ true → ⊥) × (Late p → ⊥)
open_apart Open e = ((λ f. true≢false (sym f)), (λ f. true≢false (sym f)), (λ l. l))
open_apart Committing e = absurd (true≢false (sym e))
open_apart Proposed e = absurd (true≢false (sym e))
open_apart Done e = absurd (true≢false (sym e))
open_apart Vanished e = absurd (true≢false (sym e))

pub early_proposed : (p : Phase) → reads_on p ≡ true → is_proposed p ≡ true → ⊥
early_proposed Open e f = true≢false (sym f)
early_proposed Committing e f = true≢false (sym f)
early_proposed Proposed e f = true≢false (sym e)
early_proposed Done e f = true≢false (sym e)
early_proposed Vanished e f = true≢false (sym e)
