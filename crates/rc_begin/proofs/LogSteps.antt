-- One more blob of a log.
use Rattle.std.proofs.Common.{◌≡◌, ℕ, suc, ◌+◌, ◌<◌, List, [], ◌∷◌, ◌++◌, length, get_or, take, drop, drop-cons, Option, Some, slice_get, refl, sym, ap, ◌∙◌, subst, add-one}
use Rattle.std.proofs.lemmas.List.{take_more, append-nil}
use Rattle.std.proofs.lemmas.Grind.{flat_map-append}
use Rattle.std.specs.Ordering.{nat_cmp}
use Rattle.rc_ids.specs.Tables.{added, maybe}
use Rattle.rc_ids.specs.Cluster.{Layout}
use Rattle.rc_body.specs.declared.entry.Entry.{Entry}
use Rattle.rc_body.specs.declared.decision.Decision.{Decision}
use Rattle.rc_record.specs.Reading.{decoded}
use Rattle.rc_record.specs.declared.record.Record.{Record}
use Rattle.rc_record.specs.declared.record.Record.TheVariants.{Head, Prepared, Finished, Promised, Accepted, Decided}
use Rattle.rc_record.proofs.Rest.{drop_step}
use Rattle.rc_protocol.specs.Nodes.{CoordNode, with_txs, with_named, with_log}
use Rattle.rc_runs.specs.Starts.{with_choices}
use Rattle.rc_runs.specs.Votes.{ordered}
use Rattle.rc_runs.specs.Stored.{records_of, without_head}
use Rattle.rc_order.specs.Orders.{Votes, Order, with_record}
use Rattle.rc_order.specs.Counts.{IsOrderOf}
use Rattle.rc_order.specs.Logs as votes_of
use Rattle.rc_begin.specs.Logs.{records_in, choices_of, names_of}

-- ONE MORE of a list
-- what is left of a list begins with the item at the place
left_at : {X : Type 0} (xs : List X) (i : ℕ) (x : X) → i < length xs → x ≡ get_or xs i x → drop i xs ≡ x ∷ drop (i + 1) xs
left_at xs i x lt at = rw add-one (drop-cons xs i x lt ∙ ap (λ y. y ∷ drop (suc i) xs) (sym at))

-- what was passed of a list ends with it
pub past_at : {X : Type 0} (xs : List X) (i : ℕ) (x : X) → i < length xs → x ≡ get_or xs i x → take (i + 1) xs ≡ take i xs ++ x ∷ []
past_at xs i x lt at = take_more xs i x lt ∙ ap (λ y. take i xs ++ y ∷ []) (sym at)

-- NAMES
pub page_step : (named after whole : List ℕ) (page : List (ℕ × Decision)) (i : ℕ) (e : ℕ × Decision) → slice_get page i ≡ Some e
    → after ≡ added nat_cmp named e.0 → with_txs named (drop i page) ≡ whole → with_txs after (drop (i + 1) page) ≡ whole
page_step named after whole page i e at is before =
    ap (λ (n : List ℕ). with_txs n (drop (i + 1) page)) is ∙ sym (ap (with_txs named) (drop_step page i e at)) ∙ before

log_append : (named : List ℕ) (rs qs : List Record) → with_log named (rs ++ qs) ≡ with_log (with_log named rs) qs
log_append named [] qs = refl
log_append named (r ∷ rs) qs = log_append (with_named named r) rs qs

pub named_step : (named after whole : List ℕ) (log : List (List ℕ)) (i : ℕ) (b : List ℕ) → i < length log → b ≡ get_or log i b
    → after ≡ with_log named (records_in b) → with_log named (records_of (drop i log)) ≡ whole → with_log after (records_of (drop (i + 1) log)) ≡ whole
named_step named after whole log i b lt at is before =
    ap (λ (n : List ℕ). with_log n (records_of (drop (i + 1) log))) is
    ∙ sym (log_append named (records_in b) (records_of (drop (i + 1) log)))
    ∙ sym (ap (λ (bs : List (List ℕ)). with_log named (records_of bs)) (left_at log i b lt at))
    ∙ before

pub logs_named : (named after whole : List ℕ) (logs : List (List (List ℕ))) (i : ℕ) (log : List (List ℕ)) → i < length logs → log ≡ get_or logs i log
    → after ≡ with_log named (records_of log) → names_of named (drop i logs) ≡ whole → names_of after (drop (i + 1) logs) ≡ whole
logs_named named after whole logs i log lt at is before =
    ap (λ (n : List ℕ). names_of n (drop (i + 1) logs)) is ∙ sym (ap (names_of named) (left_at logs i log lt at)) ∙ before

-- VOTES
votes_append : (votes : Votes) (d : ℕ) (rs qs : List Record) → votes_of.with_log votes d (rs ++ qs) ≡ votes_of.with_log (votes_of.with_log votes d rs) d qs
votes_append votes d [] qs = refl
votes_append votes d (r ∷ rs) qs = votes_append (with_record votes d r) d rs qs

pub counted_step : (votes after whole : Votes) (d : ℕ) (log : List (List ℕ)) (i : ℕ) (b : List ℕ) → i < length log → b ≡ get_or log i b
    → after ≡ votes_of.with_log votes d (records_in b) → votes_of.with_log votes d (records_of (drop i log)) ≡ whole
    → votes_of.with_log after d (records_of (drop (i + 1) log)) ≡ whole
counted_step votes after whole d log i b lt at is before =
    ap (λ (v : Votes). votes_of.with_log v d (records_of (drop (i + 1) log))) is
    ∙ sym (votes_append votes d (records_in b) (records_of (drop (i + 1) log)))
    ∙ sym (ap (λ (bs : List (List ℕ)). votes_of.with_log votes d (records_of bs)) (left_at log i b lt at))
    ∙ before

-- CHOICES
module _ (c : Layout) (coords : List CoordNode) where
  choices_append : (chosen : List (ℕ × List Entry)) (rs qs : List Record)
      → with_choices c coords chosen (rs ++ qs) ≡ with_choices c coords (with_choices c coords chosen rs) qs
  choices_append chosen [] qs = refl
  choices_append chosen (r ∷ rs) qs = choices_append (ordered c coords [] chosen (Some r)) rs qs

  all_append : (chosen : List (ℕ × List Entry)) (xs ys : List (List (List ℕ)))
      → choices_of c coords chosen (xs ++ ys) ≡ choices_of c coords (choices_of c coords chosen xs) ys
  all_append chosen [] ys = refl
  all_append chosen (x ∷ xs) ys = all_append (with_choices c coords chosen (records_of x)) xs ys

records_more : (log : List (List ℕ)) (i : ℕ) (b : List ℕ) → i < length log → b ≡ get_or log i b
    → records_of (take (i + 1) log) ≡ records_of (take i log) ++ records_in b
records_more log i b lt at =
    ap records_of (past_at log i b lt at) ∙ flat_map-append records_in (take i log) (b ∷ []) ∙ ap (λ rs. records_of (take i log) ++ rs) (append-nil (records_in b))

-- the order is that of what is chosen
abbrev pub Lists : Order → Order → (Layout → List CoordNode → List (ℕ × List Entry) → List (ℕ × List Entry)) → Type 0
Lists old new more = (c : Layout) (coords : List CoordNode) (chosen : List (ℕ × List Entry)) → IsOrderOf c coords [] chosen old → IsOrderOf c coords [] (more c coords chosen) new

-- the record in the bytes may be a vote that chooses
one_choice : (c : Layout) (coords : List CoordNode) (chosen : List (ℕ × List Entry)) (r : Record)
    → with_choices c coords chosen (without_head r) ≡ ordered c coords [] chosen (Some r)
one_choice c coords chosen (Head h) = refl
one_choice c coords chosen (Prepared t part) = refl
one_choice c coords chosen (Finished page) = refl
one_choice c coords chosen (Promised t b) = refl
one_choice c coords chosen (Accepted t b o) = refl
one_choice c coords chosen (Decided page) = refl

-- what was read of the bytes is their record
pub read_of : (found : Option Record) (bytes b : List ℕ) (r : Record) → bytes ≡ b → found ≡ decoded bytes → found ≡ Some r → decoded b ≡ Some r
read_of found bytes b r same read is = ap decoded (sym same) ∙ sym read ∙ is

pub one_chosen : (old new : Order) (b : List ℕ) (r : Record) → decoded b ≡ Some r
    → ((c : Layout) (coords : List CoordNode) (earlier committed : List (ℕ × List Entry)) → IsOrderOf c coords earlier committed old
    → IsOrderOf c coords earlier (ordered c coords earlier committed (Some r)) new)
    → Lists old new (λ c coords chosen. with_choices c coords chosen (records_in b))
one_chosen old new b r is chooses c coords chosen h =
    let same = sym (one_choice c coords chosen r) ∙ sym (ap (λ (o : Option Record). with_choices c coords chosen (maybe o [] without_head)) is) in
    subst (λ (cs : List (ℕ × List Entry)). IsOrderOf c coords [] cs new) same (chooses c coords [] chosen h)

pub chosen_step : (start old new : Order) (log : List (List ℕ)) (i : ℕ) (b : List ℕ) → i < length log → b ≡ get_or log i b
    → Lists old new (λ c coords chosen. with_choices c coords chosen (records_in b))
    → Lists start old (λ c coords chosen. with_choices c coords chosen (records_of (take i log)))
    → Lists start new (λ c coords chosen. with_choices c coords chosen (records_of (take (i + 1) log)))
chosen_step start old new log i b lt at step before c coords chosen h =
    let same = sym (choices_append c coords chosen (records_of (take i log)) (records_in b)) ∙ sym (ap (with_choices c coords chosen) (records_more log i b lt at)) in
    subst (λ (cs : List (ℕ × List Entry)). IsOrderOf c coords [] cs new) same (step c coords _ (before c coords chosen h))

pub logs_step : (start old new : Order) (logs : List (List (List ℕ))) (i : ℕ) (log : List (List ℕ)) → i < length logs → log ≡ get_or logs i log
    → Lists old new (λ c coords chosen. with_choices c coords chosen (records_of log))
    → Lists start old (λ c coords chosen. choices_of c coords chosen (take i logs))
    → Lists start new (λ c coords chosen. choices_of c coords chosen (take (i + 1) logs))
logs_step start old new logs i log lt at step before c coords chosen h =
    let same = sym (all_append c coords chosen (take i logs) (log ∷ [])) ∙ sym (ap (choices_of c coords chosen) (past_at logs i log lt at)) in
    subst (λ (cs : List (ℕ × List Entry)). IsOrderOf c coords [] cs new) same (step c coords _ (before c coords chosen h))
