-- Logs that say the same go on saying the same, and their votes choose the same.
use Rattle.std.proofs.Common.{◌≡◌, ℕ, zero, suc, List, [], ◌∷◌, ◌++◌, refl, sym, ap, ◌∙◌, subst, Bool, true, false, cond, Option, Some, None, inl, inr, ⊎_elim, true≢false}
use Rattle.std.specs.Prelude.{slice_get, slice_set, ◌||◌}
use Rattle.std.specs.List.{list_any}
use Rattle.std.specs.Ordering.{nat_cmp}
use Rattle.rc_ids.specs.Tables.{In, added, maybe}
use Rattle.rc_ids.specs.Cluster.{Layout, is_quorum}
use Rattle.rc_ids.specs.declared.names.Outcome.{Outcome}
use Rattle.rc_ids.specs.declared.names.Outcome.TheVariants.{Commit as Committed, Abort as Aborted}
use Rattle.rc_body.specs.declared.decision.Decision.{Decision}
use Rattle.rc_body.specs.declared.decision.Decision.TheVariants.{Commit}
use Rattle.rc_body.specs.declared.entry.Entry.{Entry}
use Rattle.rc_record.specs.declared.record.Record.{Record}
use Rattle.rc_record.specs.declared.record.Record.TheVariants.{Head, Prepared, Finished, Promised, Accepted, Decided}
use Rattle.rc_record.specs.CoordState.{coord_applied}
use Rattle.rc_record.specs.ShardState.{shard_applied}
use Rattle.rc_protocol.specs.Nodes.{CoordNode, ShardNode, coord_index, coord_started, shard_started, with_txs, with_named, with_log, logged, applied, is_vote}
use Rattle.rc_runs.specs.Votes.{has_voted, voters, is_chosen_at, ordered, is_listed}
use Rattle.rc_claims.specs.Lives.{SameMembers, SameVotes, SameCoordLog, SameShardLog, Pairwise}
use Rattle.rc_agreement.proofs.Tables.{in_added, added_has, in_left, in_right, in_either}
use Rattle.rc_agreement.proofs.Lists.{any_some, any_of}
use Rattle.rc_agreement.proofs.Promises.{replay_logged}
use Rattle.rc_agreement.proofs.ShardNotes.{shard_replay_logged}

-- NAMES
-- what joins some names joins more names too
abbrev pub More : List ℕ → List ℕ → Type 0
More a b = (u : ℕ) → In u a → In u b

more_added : (a b : List ℕ) (k : ℕ) → More a b → More (added nat_cmp a k) (added nat_cmp b k)
more_added a b k m u i = added_has u k b (⊎_elim inl (λ j. inr (m u j)) (in_added u k a i))

more_txs : (es : List (ℕ × Decision)) (a b : List ℕ) → More a b → More (with_txs a es) (with_txs b es)
more_txs [] a b m = m
more_txs (e ∷ es) a b m = more_txs es (added nat_cmp a e.0) (added nat_cmp b e.0) (more_added a b e.0 m)

more_named : (r : Record) (a b : List ℕ) → More a b → More (with_named a r) (with_named b r)
more_named (Prepared t p) a b m = more_added a b t m
more_named (Finished es) a b m = more_txs es a b m
more_named (Promised t n) a b m = more_added a b t m
more_named (Accepted t n o) a b m = more_added a b t m
more_named (Decided es) a b m = more_txs es a b m
more_named (Head h) a b m = m

pub more_log : (rs : List Record) (a b : List ℕ) → More a b → More (with_log a rs) (with_log b rs)
more_log [] a b m = m
more_log (r ∷ rs) a b m = more_log rs (with_named a r) (with_named b r) (more_named r a b m)

log_more : (rs : List Record) (r : Record) (named : List ℕ) → with_log named (rs ++ r ∷ []) ≡ with_named (with_log named rs) r
log_more [] r named = refl
log_more (x ∷ rs) r named = log_more rs r (with_named named x)

named_logged : (rs qs : List Record) (r : Option Record) → SameMembers (with_log [] rs) (with_log [] qs) → SameMembers (with_log [] (logged rs r)) (with_log [] (logged qs r))
named_logged rs qs None h u = h u
named_logged rs qs (Some r) h u = (
  (λ i. subst (In u) (sym (log_more qs r [])) (more_named r (with_log [] rs) (with_log [] qs) (λ v. (h v).0) u (subst (In u) (log_more rs r []) i))),
  (λ i. subst (In u) (sym (log_more rs r [])) (more_named r (with_log [] qs) (with_log [] rs) (λ v. (h v).1) u (subst (In u) (log_more qs r []) i))),
)

-- VOTES
votes_logged : (rs qs : List Record) (r : Option Record) → SameVotes rs qs → SameVotes (logged rs r) (logged qs r)
votes_logged rs qs None h t b o = h t b o
votes_logged rs qs (Some r) h t b o = (
  (λ i. ⊎_elim (λ j. in_left (Accepted t b o) qs (r ∷ []) ((h t b o).0 j)) (λ j. in_right (Accepted t b o) qs (r ∷ []) j) (in_either (Accepted t b o) rs (r ∷ []) i)),
  (λ i. ⊎_elim (λ j. in_left (Accepted t b o) rs (r ∷ []) ((h t b o).1 j)) (λ j. in_right (Accepted t b o) rs (r ∷ []) j) (in_either (Accepted t b o) qs (r ∷ []) i)),
)

pub coord_logged : (rs qs : List Record) (r : Option Record) → SameCoordLog rs qs → SameCoordLog (logged rs r) (logged qs r)
coord_logged rs qs r h = record {
  replay = sym (replay_logged r rs) ∙ ap (λ s. applied coord_applied s r) h.replay ∙ replay_logged r qs;
  named = named_logged rs qs r h.named;
  votes = votes_logged rs qs r h.votes;
}

pub shard_logged : (rs qs : List Record) (r : Option Record) → SameShardLog rs qs → SameShardLog (logged rs r) (logged qs r)
shard_logged rs qs r h = record {
  replay = sym (shard_replay_logged r rs) ∙ ap (λ s. applied shard_applied s r) h.replay ∙ shard_replay_logged r qs;
  named = named_logged rs qs r h.named;
}

-- NODES that differ in their logs alone, which say the same
pub data CoordLike : CoordNode → CoordNode → Type 0 where
  SameButLog : (x : CoordNode) (log : List Record) → SameCoordLog x.log log → CoordLike x (record x { log = log })

pub data ShardLike : ShardNode → ShardNode → Type 0 where
  SameButItsLog : (x : ShardNode) (log : List Record) → SameShardLog x.log log → ShardLike x (record x { log = log })

pub coord_starts : (rs qs : List Record) → SameCoordLog rs qs → CoordLike (coord_started rs) (coord_started qs)
coord_starts rs qs h = subst (λ s. CoordLike (coord_started rs) (record (coord_started qs) { durable = s })) h.replay (SameButLog (coord_started rs) qs h)

pub shard_starts : (rs qs : List Record) → SameShardLog rs qs → ShardLike (shard_started rs) (shard_started qs)
shard_starts rs qs h = subst (λ s. ShardLike (shard_started rs) (record (shard_started qs) { durable = s })) h.replay (SameButItsLog (shard_started rs) qs h)

-- PLACES
pub data BothOrNone {A B : Type 0} (R : A → B → Type 0) : Option A → Option B → Type 0 where
  Neither : BothOrNone R None None
  Both : (x : A) (y : B) → R x y → BothOrNone R (Some x) (Some y)

pub get_like : {A B : Type 0} (R : A → B → Type 0) (xs : List A) (ys : List B) → Pairwise R xs ys → (i : ℕ) → BothOrNone R (slice_get xs i) (slice_get ys i)
get_like R [] [] h i = Neither
get_like R (x ∷ xs) (y ∷ ys) h zero = Both x y h.0
get_like R (x ∷ xs) (y ∷ ys) h (suc i) = get_like R xs ys h.1 i
get_like R [] (y ∷ ys) h i = absurd h
get_like R (x ∷ xs) [] h i = absurd h

pub set_like : {A B : Type 0} (R : A → B → Type 0) (xs : List A) (ys : List B) (x : A) (y : B) → Pairwise R xs ys → R x y → (i : ℕ) → Pairwise R (slice_set xs i x) (slice_set ys i y)
set_like R [] [] x y h r i = tt
set_like R (z ∷ xs) (w ∷ ys) x y h r zero = (r, h.1)
set_like R (z ∷ xs) (w ∷ ys) x y h r (suc i) = (h.0, set_like R xs ys x y h.1 r i)
set_like R [] (w ∷ ys) x y h r i = absurd h
set_like R (z ∷ xs) [] x y h r i = absurd h

-- WHAT IS CHOSEN
vote_is : (o : Outcome) (t b : ℕ) (r : Record) → is_vote o t b r ≡ true → (u : ℕ) × (a : ℕ) × (d : Decision) × (r ≡ Accepted u a d)
vote_is o t b (Accepted u a d) h = (u, a, d, refl)
vote_is o t b (Head p) h = absurd (none o h)
  where
    none : (o : Outcome) → is_vote o t b (Head p) ≡ true → ⊥
    none Committed h = true≢false (sym h)
    none Aborted h = true≢false (sym h)
vote_is o t b (Prepared u p) h = absurd (none o h)
  where
    none : (o : Outcome) → is_vote o t b (Prepared u p) ≡ true → ⊥
    none Committed h = true≢false (sym h)
    none Aborted h = true≢false (sym h)
vote_is o t b (Finished p) h = absurd (none o h)
  where
    none : (o : Outcome) → is_vote o t b (Finished p) ≡ true → ⊥
    none Committed h = true≢false (sym h)
    none Aborted h = true≢false (sym h)
vote_is o t b (Promised u a) h = absurd (none o h)
  where
    none : (o : Outcome) → is_vote o t b (Promised u a) ≡ true → ⊥
    none Committed h = true≢false (sym h)
    none Aborted h = true≢false (sym h)
vote_is o t b (Decided p) h = absurd (none o h)
  where
    none : (o : Outcome) → is_vote o t b (Decided p) ≡ true → ⊥
    none Committed h = true≢false (sym h)
    none Aborted h = true≢false (sym h)

voted_up : (rs qs : List Record) → ((t b : ℕ) (o : Decision) → In (Accepted t b o) rs → In (Accepted t b o) qs) → (o : Outcome) (t b : ℕ) → list_any (is_vote o t b) rs ≡ true → list_any (is_vote o t b) qs ≡ true
voted_up rs qs h o t b is =
    let r = any_of (is_vote o t b) rs is in
    let v = vote_is o t b r.0 r.2 in
    any_some (is_vote o t b) qs r.0 (subst (λ (x : Record). In x qs) (sym v.3) (h v.0 v.1 v.2 (subst (λ (x : Record). In x rs) v.3 r.1))) r.2

pub same_test : (a b : Bool) → (a ≡ true → b ≡ true) → (b ≡ true → a ≡ true) → a ≡ b
same_test true true f g = refl
same_test false false f g = refl
same_test true false f g = sym (f refl)
same_test false true f g = g refl

voted_same : (xs ys : List CoordNode) → Pairwise CoordLike xs ys → (o : Outcome) (t b d : ℕ) → has_voted xs o t b d ≡ has_voted ys o t b d
voted_same xs ys h o t b d = go (slice_get xs (coord_index d)) (slice_get ys (coord_index d)) (get_like CoordLike xs ys h (coord_index d))
  where
    go : (x y : Option CoordNode) → BothOrNone CoordLike x y → maybe x false (λ z. list_any (is_vote o t b) z.log) ≡ maybe y false (λ z. list_any (is_vote o t b) z.log)
    go _ _ Neither = refl
    go _ _ (Both _ _ (SameButLog x log s)) =
        same_test (list_any (is_vote o t b) x.log) (list_any (is_vote o t b) log)
        (voted_up x.log log (λ u a p. (s.votes u a p).0) o t b) (voted_up log x.log (λ u a p. (s.votes u a p).1) o t b)

voters_same : (xs ys : List CoordNode) → Pairwise CoordLike xs ys → (o : Outcome) (t b n : ℕ) → voters xs o t b n ≡ voters ys o t b n
voters_same xs ys h o t b zero = refl
voters_same xs ys h o t b (suc n) =
    let e = voters_same xs ys h o t b n in
    let k = voted_same xs ys h o t b (suc n) in
    λ i. cond (k i) (added nat_cmp (e i) (suc n)) (e i)

pub chosen_same : (c : Layout) (xs ys : List CoordNode) → Pairwise CoordLike xs ys → (o : Outcome) (t b : ℕ) → is_chosen_at c xs o t b ≡ is_chosen_at c ys o t b
chosen_same c xs ys h o t b = ap (is_quorum c) (voters_same xs ys h o t b c.dcs)

pub ordered_same : (c : Layout) (xs ys : List CoordNode) → Pairwise CoordLike xs ys → (earlier committed : List (ℕ × List Entry)) (r : Option Record) → ordered c xs earlier committed r ≡ ordered c ys earlier committed r
ordered_same c xs ys h earlier committed (Some (Accepted t b (Commit body))) =
    ap (λ (v : Bool). cond (is_listed earlier t || is_listed committed t) committed (cond v (committed ++ (t, body) ∷ []) committed)) (chosen_same c xs ys h Committed t b)
ordered_same c xs ys h earlier committed _ = refl
