-- A record with a spelling keeps a shard server's durable state in the grammar.
use Rattle.std.proofs.Common.{◌≡◌, ℕ, ◌+◌, ◌-◌, ◌≤◌, ◌==◌, ◌^◌, true, false, List, [], ◌∷◌, refl, ap, arith, Option, Some, None}
use Rattle.std.specs.Prelude.{nat_lt, not, is_some, if◌then◌else◌}
use Rattle.std.specs.List.{AllByRecursion, list_any}
use Rattle.std.specs.Ordering.{nat_cmp}
use Rattle.rc_ids.specs.Tables.{Table, found, put, maybe}
use Rattle.rc_ids.specs.Texts.{key_cmp, IsValue}
use Rattle.rc_body.specs.Entries.{wears_out}
use Rattle.rc_body.specs.Spelling.{HasEntry, HasHeld, HasDecision, HasOutcome}
use Rattle.rc_body.specs.declared.entry.Entry.{Entry}
use Rattle.rc_body.specs.declared.decision.Decision.{Decision}
use Rattle.rc_body.specs.declared.decision.Decision.TheVariants.{Commit, Abort}
use Rattle.rc_fields.specs.Ranges.{IsVersionNumber}
use Rattle.rc_msg.specs.Spelling.{IsRow}
use Rattle.rc_record.specs.Spelling.{HasRecord}
use Rattle.rc_record.specs.ShardState.{version_at, value_at, set_row, set_rows, settled, settled_new, settled_all, shard_applied}
use Rattle.rc_record.specs.declared.record.Record.{Record}
use Rattle.rc_record.specs.declared.record.Record.TheVariants.{Head, Prepared, Finished, Promised, Accepted, Decided}
use Rattle.rc_protocol.specs.Nodes.{shard_replayed, shard_started, applied, logged}
use Rattle.rc_protocol.specs.Shard.{ShardDurable, new_durable}
use Rattle.rc_grammar.specs.Acts.{HasLog, HasLogged}
use Rattle.rc_grammar.specs.Shards.{HasRow, HasPart, HasShardDurable, HasShardVolatile, HasShardNode}
use Rattle.rc_grammar.proofs.Lists.{on_cond, on_maybe, all_both, all_put, all_without, all_found, or_first, or_second, and_false}

abbrev Rows : Type 0
Rows = Table (List ℕ) (ℕ × List ℕ)

-- a row that is read, written or not
pub is_row : (rows : Rows) (k : List ℕ) → AllByRecursion HasRow rows → IsRow (version_at rows k) (value_at rows k)
is_row rows k h = go (found key_cmp rows k) refl
  where
    go : (o : Option (ℕ × List ℕ)) → found key_cmp rows k ≡ o → IsRow (maybe o 0 (λ row. row.0)) (maybe o None (λ row. Some row.1))
    go None at = (omega arith, tt, refl)
    go (Some row) at =
        let own = all_found key_cmp (λ (r : ℕ × List ℕ). (1 ≤ r.0) × IsVersionNumber r.0 × IsValue r.1) rows k row h at in
        (own.1, own.2, positive row.0 own.0)
      where
        positive : (n : ℕ) → 1 ≤ n → true ≡ not (n == 0)
        positive n low = grind arith

-- a version that is written has a next one
pub has_next : (e : Entry) (value : List ℕ) → e.write ≡ Some value → wears_out e ≡ false → IsVersionNumber e.version → IsVersionNumber (e.version + 1)
has_next e value is lasting low =
    let ne : (e.version == 2 ^ 62 - 1) ≡ false = and_false (is_some e.write) (e.version == 2 ^ 62 - 1) (ap is_some is) lasting in
    grind (arith, ne)

row_set : (rows : Rows) (e : Entry) → AllByRecursion HasRow rows → HasEntry e → wears_out e ≡ false → AllByRecursion HasRow (set_row rows e)
row_set rows e h own lasting = go e.write refl own.write
  where
    go : (o : Option (List ℕ)) → e.write ≡ o → HasHeld o
        → AllByRecursion HasRow (maybe o rows (λ x. if nat_lt (version_at rows e.key) (e.version + 1) then put key_cmp rows e.key (e.version + 1, x) else rows))
    go None is held = h
    go (Some x) is held =
        on_cond (AllByRecursion HasRow) (nat_lt (version_at rows e.key) (e.version + 1)) (put key_cmp rows e.key (e.version + 1, x)) rows
        (λ _. let row : HasRow (e.key, (e.version + 1, x)) = (omega arith, has_next e x is lasting own.version, held) in
        all_put key_cmp HasRow rows e.key (e.version + 1, x) h row (λ _ _. row))
        (λ _. h)

rows_set : (body : List Entry) (rows : Rows) → AllByRecursion HasRow rows → AllByRecursion HasEntry body → list_any wears_out body ≡ false → AllByRecursion HasRow (set_rows rows body)
rows_set [] rows h own lasting = h
rows_set (e ∷ es) rows h own lasting =
    rows_set es (set_row rows e) (row_set rows e h own.0 (or_first (wears_out e) (list_any wears_out es) lasting)) own.1 (or_second (wears_out e) (list_any wears_out es) lasting)

has_settled : (s : ShardDurable) (t : ℕ) (o : Decision) → HasShardDurable s → HasDecision o → HasShardDurable (settled s t o)
has_settled s t Abort h own = record { rows = h.rows; parts = all_without nat_cmp HasPart s.parts t h.parts }
has_settled s t (Commit body) h own = record { rows = rows_set body s.rows h.rows own.entries own.allowed.lasting; parts = all_without nat_cmp HasPart s.parts t h.parts }

pub has_settled_all : (page : List (ℕ × Decision)) (s : ShardDurable) → HasShardDurable s → AllByRecursion HasOutcome page → HasShardDurable (settled_all s page)
has_settled_all [] s h own = h
has_settled_all (e ∷ es) s h own =
    has_settled_all es (settled_new s e)
    (on_maybe HasShardDurable (found nat_cmp s.finished e.0) (settled s e.0 e.1) (λ _. s) (λ _. has_settled s e.0 e.1 h own.0.1) (λ _ _. h)) own.1

pub shard_keeps : (s : ShardDurable) (r : Record) → HasShardDurable s → HasRecord r → HasShardDurable (shard_applied s r)
shard_keeps s (Prepared t part) h own = record { rows = h.rows; parts = all_put nat_cmp HasPart s.parts t part h.parts own.0 (λ e p. p) }
shard_keeps s (Finished page) h own = has_settled_all page s h own.1.outcomes
shard_keeps s (Head head) h own = h
shard_keeps s (Promised t b) h own = h
shard_keeps s (Accepted t b o) h own = h
shard_keeps s (Decided page) h own = h

pub shard_keeps_logged : (s : ShardDurable) (logs : Option Record) → HasShardDurable s → HasLogged logs → HasShardDurable (applied shard_applied s logs)
shard_keeps_logged s None h own = h
shard_keeps_logged s (Some r) h own = shard_keeps s r h own

-- REPLAY
replays : (log : List Record) (s : ShardDurable) → HasShardDurable s → HasLog log → HasShardDurable (shard_replayed s log)
replays [] s h own = h
replays (r ∷ rs) s h own = replays rs (shard_applied s r) (shard_keeps s r h own.0) own.1

pub has_new_volatile : HasShardVolatile (shard_started []).volatile
has_new_volatile = record { waiting = tt; cursor = omega arith }

pub shard_starts : (log : List Record) → HasLog log → HasShardNode (shard_started log)
shard_starts log own = record { log = own; durable = replays log new_durable (record { rows = tt; parts = tt }) own; volatile = has_new_volatile }

pub log_grows : (log : List Record) (logs : Option Record) → HasLog log → HasLogged logs → HasLog (logged log logs)
log_grows log None h own = h
log_grows log (Some r) h own = all_both HasRecord log (r ∷ []) h (own, tt)
