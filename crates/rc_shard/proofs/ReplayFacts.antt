-- A journal whose records give the durable state back still does after an act: one step of a replay at a time.
use Rattle.std.proofs.Common.{◌≡◌, ℕ, suc, ◌+◌, ◌==◌, length, Bool, true, false, ◌&&◌, ◌||◌, List, [], ◌∷◌, ◌++◌, Option, Some, None, Result, Ok, Err, IfSome, is_some, refl, ap, ◌∙◌}
use Rattle.std.specs.Prelude.{if◌then◌else◌}
use Rattle.std.specs.Ordering.{nat_cmp}
use Rattle.rc_ids.specs.declared.names.NodeId.{NodeId}
use Rattle.rc_ids.specs.Cluster.{Layout, is_dc}
use Rattle.rc_ids.specs.Tables.{found, maybe}
use Rattle.rc_body.specs.declared.entry.Entry.{Entry}
use Rattle.rc_body.specs.declared.reason.Reason.{Reason}
use Rattle.rc_body.specs.declared.decision.Decision.{Decision}
use Rattle.rc_msg.specs.declared.msg.Msg.{Msg}
use Rattle.rc_msg.specs.declared.msg.Msg.TheVariants.{ReadAsk, ReadCancel, Prepare, Finish, CatchPage}
use Rattle.rc_record.specs.declared.fault.ReplayFault.{ReplayFault}
use Rattle.rc_record.specs.declared.fault.ReplayFault.TheVariants.{BadRecord}
use Rattle.rc_record.specs.declared.record.Record.{Record}
use Rattle.rc_record.specs.declared.record.Record.TheVariants.{Head, Prepared, Finished, Promised, Accepted, Decided}
use Rattle.rc_record.specs.InOrder.{shown, shard_replayed_by, IsInOrder}
use Rattle.rc_record.specs.Kinds.{has_gone, is_shard_record}
use Rattle.rc_record.specs.Reading.{decoded}
use Rattle.rc_record.specs.Replay.{on_ok, shard_step, shard_from, shard_replay, format_behind}
use Rattle.rc_record.specs.ShardState.{ShardDurable, new_durable, shard_applied}
use Rattle.rc_record.specs.Spelling.{record_bytes, HasRecord}
use Rattle.rc_protocol.specs.Acts.{NodeCause, Came, Catches, Takes, shard_act}
use Rattle.rc_protocol.specs.Nodes.{applied}
use Rattle.rc_protocol.specs.Shard.{ShardVolatile, ShardAct, shard_stays, shard_says, shard_row, ignores_ask, is_free, locks_plain, grant_of, waits, preempted, answers, test, finishes_page, takes_page, with_shard_cursor, unfinished, is_next_shard_page}
use Rattle.rc_shard.specs.Replays.{reached, GivesBack, with_record}

abbrev Step : Type 0
Step = ℕ × ShardDurable

module _ (node : NodeId) (c : Layout) where
  replay-reached : (place : ℕ) (s : Step) (log : List (List ℕ)) → shard_from node c place s log ≡ on_ok (reached node c place s log) (λ (t : Step). Ok t.1)
  replay-reached place s [] = refl
  replay-reached place s (bytes ∷ log) = at (shard_step node c place s bytes) (λ t. replay-reached (suc place) t log)
    where
      at : (r : Result Step ReplayFault) → ((t : Step) → shard_from node c (suc place) t log ≡ on_ok (reached node c (suc place) t log) (λ (z : Step). Ok z.1))
          → on_ok r (λ (t : Step). shard_from node c (suc place) t log) ≡ on_ok (on_ok r (λ t. reached node c (suc place) t log)) (λ (t : Step). Ok t.1)
      at (Ok t) rest = rest t
      at (Err fault) rest = refl

  reached-last : (place : ℕ) (s t u : Step) (log : List (List ℕ)) (bytes : List ℕ) → reached node c place s log ≡ Ok t → ((p : ℕ) → shard_step node c p t bytes ≡ Ok u)
      → reached node c place s (log ++ bytes ∷ []) ≡ Ok u
  reached-last place s t u [] bytes done step =
      let same : s ≡ t = cc in
      ap (λ (r : Result Step ReplayFault). on_ok r (λ (z : Step). reached node c (suc place) z [])) (ap (λ (z : Step). shard_step node c place z bytes) same ∙ step place)
  reached-last place s t u (b ∷ log) bytes done step =
      at (shard_step node c place s b) done (λ z d. reached-last (suc place) z t u log bytes d step)
    where
      at : (r : Result Step ReplayFault) → on_ok r (λ (z : Step). reached node c (suc place) z log) ≡ Ok t
          → ((z : Step) → reached node c (suc place) z log ≡ Ok t → reached node c (suc place) z (log ++ bytes ∷ []) ≡ Ok u)
          → on_ok r (λ (z : Step). reached node c (suc place) z (log ++ bytes ∷ [])) ≡ Ok u
      at (Ok z) d rest = rest z d
      at (Err fault) d rest = absurd cc

  -- a record of a shard server, behind a head whose format has gone values
  abbrev IsAct : Record → Type 0
  IsAct (Prepared t part) = Unit {0}
  IsAct (Finished page) = Unit {0}
  IsAct _ = ⊥

  kept_format : (f p : ℕ) (r : Record) → (f == 0) ≡ false → (f == 1) ≡ false → IsAct r → format_behind node c is_shard_record p f r ≡ Ok f
  kept_format f p (Prepared t part) zero_not one_not is =
      ap (λ b. if b || false || ((f == 1) && has_gone (Prepared t part)) then Err (BadRecord p) else Ok f) zero_not
      ∙ ap (λ b. if b && has_gone (Prepared t part) then Err (BadRecord p) else Ok f) one_not
  kept_format f p (Finished page) zero_not one_not is =
      ap (λ b. if b || false || ((f == 1) && has_gone (Finished page)) then Err (BadRecord p) else Ok f) zero_not
      ∙ ap (λ b. if b && has_gone (Finished page) then Err (BadRecord p) else Ok f) one_not
  kept_format f p (Head h) zero_not one_not is = absurd is
  kept_format f p (Promised t b) zero_not one_not is = absurd is
  kept_format f p (Accepted t b d) zero_not one_not is = absurd is
  kept_format f p (Decided page) zero_not one_not is = absurd is

  one_step : (f p : ℕ) (s : ShardDurable) (r : Record) → (f == 0) ≡ false → (f == 1) ≡ false → IsAct r → decoded (record_bytes r) ≡ Some r
      → shard_step node c p (f, s) (record_bytes r) ≡ Ok (f, shard_replayed_by s r)
  one_step f p s r zero_not one_not is spelled =
      ap (λ (o : Option Record). maybe o (Err (BadRecord p)) (λ (q : Record). on_ok (format_behind node c is_shard_record p f q) (λ (g : ℕ). let z : Result Step ReplayFault = Ok (g, shard_replayed_by s q) in z))) spelled
      ∙ ap (λ (e : Result ℕ ReplayFault). on_ok e (λ (g : ℕ). let z : Result Step ReplayFault = Ok (g, shard_replayed_by s r) in z)) (kept_format f p r zero_not one_not is)

  -- a replay gives the state
  pub replays : (log : List (List ℕ)) (s : ShardDurable) (back : GivesBack node c log s) → shard_replay node c log ≡ Ok back.kept
  replays log s back = replay-reached 0 (0, new_durable) log ∙ ap (λ (r : Result Step ReplayFault). on_ok r (λ (t : Step). Ok t.1)) back.gives

  -- what a record makes of a state in order
  abbrev pub Keeps : Record → Type 0
  Keeps r = (s : ShardDurable) → IsInOrder s → (shown (shard_replayed_by s r) ≡ shard_applied (shown s) r) × IsInOrder (shard_replayed_by s r)

  gives-more : (log : List (List ℕ)) (s : ShardDurable) (r : Record) → GivesBack node c log s → IsAct r → decoded (record_bytes r) ≡ Some r → Keeps r
      → GivesBack node c (log ++ record_bytes r ∷ []) (shard_applied s r)
  gives-more log s r back is spelled keeps =
      let next = keeps back.kept back.in_order in record {
        format = back.format;
        kept = shard_replayed_by back.kept r;
        headed = back.headed;
        has_gone = back.has_gone;
        gives =
            reached-last 0 (0, new_durable) (back.format, back.kept) (back.format, shard_replayed_by back.kept r) log (record_bytes r) back.gives
            (λ p. one_step back.format p back.kept r back.headed back.has_gone is spelled);
        in_order = next.1;
        by_number = next.0 ∙ ap (λ (z : ShardDurable). shard_applied z r) back.by_number;
      }

  -- THE ACTS OF A SHARD SERVER: each record is a part or a page
  abbrev MayLog : Option Record → Type 0
  MayLog None = Unit {0}
  MayLog (Some r) = IsAct r

  either_logs : (b : Bool) (x y : ShardAct) → MayLog x.logs → MayLog y.logs → MayLog (if b then x else y).logs
  either_logs true x y one other = one
  either_logs false x y one other = other

  module _ (d sh : ℕ) (s : ShardDurable) (v : ShardVolatile) where
    prepare_logs : (t : ℕ) (part : List Entry) → MayLog (shard_row c d sh s v (Prepare t part)).logs
    prepare_logs t part =
        either_logs (is_some (found nat_cmp s.finished t)) (shard_stays v) _ tt
        (either_logs (is_some (found nat_cmp s.parts t)) (shard_says v (answers d sh t None)) _ tt (tested (test s v t part)))
      where
        tested : (o : Option Reason)
            → MayLog (maybe o (record { logs = Some (Prepared t part); after = preempted v t part; sends = answers d sh t None }) (λ reason. shard_says v (answers d sh t (Some reason)))).logs
        tested None = tt
        tested (Some reason) = tt

    page_logs : (w : ShardVolatile) (page : List (ℕ × Decision)) → MayLog (takes_page d s w page).logs
    page_logs w [] = tt
    page_logs w (e ∷ es) = tt

    row_logs : (m : Msg) → MayLog (shard_row c d sh s v m).logs
    row_logs (ReadAsk t k) =
        either_logs (ignores_ask s v t k) (shard_stays v) _ tt
        (either_logs (is_free s.parts (k, t)) (shard_says (locks_plain v (k, t)) (grant_of d s.rows (k, t) ∷ [])) (shard_stays (waits v (k, t))) tt tt)
    row_logs (ReadCancel t k) = tt
    row_logs (Prepare t part) = prepare_logs t part
    row_logs (Finish t o) = either_logs (is_some (found nat_cmp s.finished t)) (shard_stays v) (finishes_page d s v ((t, o) ∷ [])) tt tt
    row_logs (CatchPage from place page) =
        either_logs (is_dc c from) _ (shard_stays v)
        (either_logs (is_next_shard_page v place page) _ (shard_stays v) (page_logs (with_shard_cursor v (place + length page)) (unfinished c sh s page)) tt) tt
    row_logs _ = tt

    act_logs : (cause : NodeCause) → MayLog (shard_act c d sh s v cause).logs
    act_logs (Came from m) = row_logs m
    act_logs Catches = tt
    act_logs (Takes t) = tt

  keeps_with : (log : List (List ℕ)) (s : ShardDurable) (logs : Option Record) → MayLog logs → GivesBack node c log s → ((r : Record) → HasRecord r → decoded (record_bytes r) ≡ Some r)
      → ((r : Record) → Keeps r) → IfSome logs HasRecord → GivesBack node c (with_record log logs) (applied shard_applied s logs)
  keeps_with log s None may back spelled keeps has = back
  keeps_with log s (Some r) may back spelled keeps has = gives-more log s r back may (spelled r has) (keeps r)

  pub gives-back : (log : List (List ℕ)) (d sh : ℕ) (s : ShardDurable) (v : ShardVolatile) (cause : NodeCause) → GivesBack node c log s
      → ((r : Record) → HasRecord r → decoded (record_bytes r) ≡ Some r) → ((r : Record) → Keeps r) → IfSome (shard_act c d sh s v cause).logs HasRecord
      → GivesBack node c (with_record log (shard_act c d sh s v cause).logs) (applied shard_applied s (shard_act c d sh s v cause).logs)
  gives-back log d sh s v cause back spelled keeps has =
      keeps_with log s (shard_act c d sh s v cause).logs (act_logs d sh s v cause) back spelled keeps has
