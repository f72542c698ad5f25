-- What a page of outcomes makes of the tables is what its record makes of the durable state.
use Rattle.std.proofs.Common.{◌≡◌, ℕ, ◌+◌, ◌==◌, nat_lt, false, cond, if◌then◌else◌, List, [], ◌∷◌, map, Option, Some, None, refl, sym, ap, ◌∙◌, arith}
use Rattle.std.specs.Ordering.{nat_cmp, is_eq}
use Rattle.std.proofs.lemmas.Bool.{or_parts}
use Rattle.std.proofs.lemmas.Cmp.{nat_cmp_total}
use Rattle.rc_ids.specs.Tables.{Table, found, put, without, maybe}
use Rattle.rc_ids.specs.Texts.{key_cmp}
use Rattle.rc_ids.specs.declared.names.Outcome.{Outcome}
use Rattle.rc_body.specs.declared.entry.Entry.{Entry}
use Rattle.rc_body.specs.declared.decision.Decision.{Decision}
use Rattle.rc_body.specs.declared.decision.Decision.TheVariants.{Commit, Abort}
use Rattle.rc_body.specs.Decisions.{outcome_of}
use Rattle.rc_body.specs.Pages.{has_tx, TxsDiffer}
use Rattle.rc_body.specs.Rows.{Row}
use Rattle.rc_record.specs.ShardState.{ShardDurable, version_at, set_row, set_rows, settled, settled_new, settled_all}
use Rattle.rc_protocol.specs.Shard.{ShardVolatile, forgotten, forgotten_all, granted, grants, grant_of, finishes_page, then_says}
use Rattle.rc_locks.specs.LockSets.{LockSets, parts_left, cleared_all, without_all, freed, after_finish}
use Rattle.rc_record.specs.InOrder.{filed}
use Rattle.rc_record.proofs.ByNumber.{found-put}
use Rattle.rc_shard.specs.Plans.{newest_all, writes_in, writes_by, writes_of, txs_of, outcomes_of, AreNew}
use Rattle.rc_record.specs.declared.record.Record.TheVariants.{Finished}
use Rattle.rc_record.specs.Spelling.{record_bytes}
use Rattle.rc_log.specs.Journals.{State}
use Rattle.rc_msg.specs.Outboxes.{Outbox}
use Rattle.rc_protocol.specs.Messages.{Posts}
use Rattle.rc_msg.specs.Posts.{posted_all}
use Rattle.rc_node.specs.Acts.{Acts, Enters, shard_does}
use Rattle.rc_shard.specs.Rows.{asks}
use Rattle.rc_shard.specs.Sites.{durable_of, volatile_of, site}
use Rattle.rc_msg.proofs.PostFacts.{posted_all-append}
use Rattle.rc_shard.proofs.WriteFacts.{newest_all-append}

set_rows-is : (rows : List Row) (part : List Entry) → set_rows rows part ≡ newest_all rows (writes_in part)
set_rows-is rows [] = refl
set_rows-is rows (e ∷ es) = set_rows-is (set_row rows e) es ∙ written e.write
  where
    written : (w : Option (List ℕ))
        → newest_all (maybe w rows (λ x. if nat_lt (version_at rows e.key) (e.version + 1) then put key_cmp rows e.key (e.version + 1, x) else rows)) (writes_in es)
        ≡ newest_all rows (maybe w (writes_in es) (λ x. (e.key, (e.version + 1, x)) ∷ writes_in es))
    written None = refl
    written (Some x) = refl

abbrev next : ShardDurable → ℕ → Decision → ShardDurable
next s t d = record { rows = newest_all s.rows (writes_by d); parts = without nat_cmp s.parts t; finished = put nat_cmp s.finished t (outcome_of d) }

settled-one : (s : ShardDurable) (t : ℕ) (d : Decision) → settled s t d ≡ next s t d
settled-one s t Abort = refl
settled-one s t (Commit part) =
    ap (λ (rows : List Row). let z : ShardDurable = record { rows = rows; parts = without nat_cmp s.parts t; finished = put nat_cmp s.finished t (outcome_of (Commit part)) } in z) (set_rows-is s.rows part)

same_test : (t u : ℕ) → is_eq (nat_cmp u t) ≡ (u == t)
same_test t u = grind arith

-- those that differ from t are as new as before
pub AreNew-put : (f : Table ℕ Outcome) (t : ℕ) (x : Outcome) (page : List (ℕ × Decision)) → has_tx t page ≡ false → AreNew f page → AreNew (put nat_cmp f t x) page
AreNew-put f t x [] none new = tt
AreNew-put f t x (e ∷ es) none new =
    let parts = or_parts (e.0 == t) (has_tx t es) none in (
      found-put nat_cmp nat_cmp_total f t e.0 x ∙ ap (λ b. cond b (Some x) (found nat_cmp f e.0)) (same_test t e.0 ∙ parts.0) ∙ new.0,
      AreNew-put f t x es parts.1 new.1,
    )

abbrev pub settled_as : ShardDurable → List (ℕ × Decision) → ShardDurable
settled_as s page = record { rows = newest_all s.rows (writes_of page); parts = parts_left s.parts (txs_of page); finished = filed s.finished (outcomes_of page) }

pub settled-all : (s : ShardDurable) (page : List (ℕ × Decision)) → TxsDiffer page → AreNew s.finished page → settled_all s page ≡ settled_as s page
settled-all s [] apart new = refl
settled-all s (e ∷ es) apart new =
    let one : settled_new s e ≡ next s e.0 e.1 = ap (λ (o : Option Outcome). maybe o (settled s e.0 e.1) (λ _. s)) new.0 ∙ settled-one s e.0 e.1 in
    ap (λ (z : ShardDurable). settled_all z es) one
    ∙ settled-all (next s e.0 e.1) es apart.1 (AreNew-put s.finished e.0 (outcome_of e.1) es apart.0 new.1)
    ∙ ap (λ (rows : List Row). let z : ShardDurable = record { rows = rows; parts = parts_left s.parts (txs_of (e ∷ es)); finished = filed s.finished (outcomes_of (e ∷ es)) } in z)
    (sym (newest_all-append s.rows (writes_by e.1) (writes_of es)))

abbrev pub forgotten_as : ShardVolatile → List (ℕ × Decision) → ShardVolatile
forgotten_as v page = record { plain = cleared_all v.plain (txs_of page); lost = cleared_all v.lost (txs_of page); waiting = cleared_all v.waiting (txs_of page); cursor = v.cursor }

pub forgotten-all : (v : ShardVolatile) (page : List (ℕ × Decision)) → forgotten_all v page ≡ forgotten_as v page
forgotten-all v [] = refl
forgotten-all v (e ∷ es) = forgotten-all (forgotten v e.0) es

module _ (d : ℕ) (rows : List Row) (locks : LockSets) (finished : Table ℕ Outcome) (place : ℕ) (page : List (ℕ × Decision)) (apart : TxsDiffer page) (new : AreNew finished page) where
  abbrev s : ShardDurable
  s = durable_of rows locks finished

  abbrev v : ShardVolatile
  v = volatile_of locks place

  pub finish-durable : durable_of (newest_all rows (writes_of page)) (after_finish locks (txs_of page)) (filed finished (outcomes_of page)) ≡ settled_all s page
  finish-durable = sym (settled-all s page apart new)

  pub finish-volatile : volatile_of (after_finish locks (txs_of page)) place ≡ (finishes_page d s v page).after
  finish-volatile =
      sym (ap (λ (z : ShardDurable). granted z (forgotten_all v page)) (settled-all s page apart new) ∙ ap (granted (settled_as s page)) (forgotten-all v page))

  pub finish-sends : map (grant_of d (newest_all rows (writes_of page))) (freed (without_all locks (txs_of page))) ≡ (finishes_page d s v page).sends
  finish-sends =
      sym (ap (λ (z : ShardDurable). grants d z (forgotten_all v page)) (settled-all s page apart new) ∙ ap (grants d (settled_as s page)) (forgotten-all v page))

  -- the act, where each table is as it was planned
  pub settled_acts : (j j' : State) (o o' : Outbox) (ask : Option ℕ) (rows' : List Row) (locks' : LockSets) (finished' : Table ℕ Outcome) (place' : ℕ)
      → rows' ≡ newest_all rows (writes_of page) → locks' ≡ after_finish locks (txs_of page) → finished' ≡ filed finished (outcomes_of page) → place' ≡ place
      → Enters j j' (record_bytes (Finished page))
      → o' ≡ posted_all (posted_all o (map (grant_of d (newest_all rows (writes_of page))) (freed (without_all locks (txs_of page))))) (asks d ask)
      → Acts (site rows locks finished place j o) (site rows' locks' finished' place' j' o') (shard_does s (then_says (finishes_page d s v page) (asks d ask)))
  settled_acts j j' o o' ask rows' locks' finished' place' rows_is locks_is finished_is place_is enters sent = record {
    durable =
        ap (λ (r : List Row). durable_of r locks' finished') rows_is ∙ ap (λ (l : LockSets). durable_of (newest_all rows (writes_of page)) l finished') locks_is
        ∙ ap (durable_of (newest_all rows (writes_of page)) (after_finish locks (txs_of page))) finished_is ∙ finish-durable;
    volatile = ap (λ (l : LockSets). volatile_of l place') locks_is ∙ ap (volatile_of (after_finish locks (txs_of page))) place_is ∙ finish-volatile;
    logs = enters;
    left = refl;
    sends =
        sent ∙ ap (λ (ms : Posts). posted_all (posted_all o ms) (asks d ask)) finish-sends ∙ sym (posted_all-append o (finishes_page d s v page).sends (asks d ask));
  }
