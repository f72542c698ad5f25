-- What a replay of a shard server's log gives, one record after another.
use Rattle.std.proofs.Common.{◌≡◌, ℕ, suc, ◌<◌, List, [], ◌∷◌, ◌++◌, Bool, true, false, Option, Some, None, Result, Ok, Err, refl, sym, ap, ◌∙◌, subst}
use Rattle.std.specs.Prelude.{◌==◌, ◌&&◌, nat_lt, if◌then◌else◌}
use Rattle.rc_ids.specs.Cluster.{Layout}
use Rattle.rc_ids.specs.Tables.{maybe}
use Rattle.rc_ids.specs.declared.names.NodeId.{NodeId}
use Rattle.rc_record.specs.Heads.{LogHead, new_head, is_of}
use Rattle.rc_record.specs.InOrder.{shown, shard_replayed_by, IsInOrder}
use Rattle.rc_record.specs.Kinds.{head_of, is_shard_record}
use Rattle.rc_record.specs.Reading.{decoded}
use Rattle.rc_record.specs.Replay.{on_ok, shard_step, shard_from, format_behind, next_format, is_refused, newest_head}
use Rattle.rc_record.specs.ShardState.{ShardDurable}
use Rattle.rc_record.specs.Spelling.{record_bytes}
use Rattle.rc_record.specs.declared.fault.ReplayFault.{ReplayFault}
use Rattle.rc_record.specs.declared.fault.ReplayFault.TheVariants.{BadRecord, OtherWorld}
use Rattle.rc_record.specs.declared.record.Record.{Record}
use Rattle.rc_record.specs.declared.record.Record.TheVariants.{Head, Prepared, Finished, Promised, Accepted, Decided}
use Rattle.rc_record.proofs.OrderFacts.{shown-replayed}
use Rattle.rc_protocol.specs.Nodes.{shard_replayed}
use Rattle.rc_runs.specs.Stored.{records_of, without_head}
use Rattle.rc_shard.specs.Replays.{reached}
use Rattle.rc_host.specs.NewestHeads.{next_is_newest}

abbrev Step : Type 0
Step = ℕ × ShardDurable

abbrev format_or : Option LogHead → ℕ → ℕ
format_or o before = maybe o before (λ h. h.format)

module _ (node : NodeId) (c : Layout) where
  -- the state and the format behind the records of a log
  pub record Reached (place : ℕ) (s : Step) (log : List (List ℕ)) (k : ShardDurable) : Type 0 where
    pub format : ℕ
    pub gives : reached node c place s log ≡ Ok (format, k)
    pub in_order : IsInOrder k
    pub format_is : format ≡ format_or (newest_head log) s.0
    pub shows : shown k ≡ shard_replayed (shown s.1) (records_of log)

  format_from : (place before f : ℕ) (r : Record) (o : Option LogHead) → maybe o (if is_refused (is_shard_record r) before r then Err (BadRecord place) else Ok before) (next_format node c place before) ≡ Ok f → f ≡ format_or o before
  format_from place before f r None is = plain (is_refused (is_shard_record r) before r) is
    where
      plain : (b : Bool) → (if b then Err (BadRecord place) else Ok before) ≡ Ok f → f ≡ before
      plain true e = absurd (cc)
      plain false e = cc
  format_from place before f r (Some h) is = headed (before == 0) (is_of node c h) (nat_lt before h.format && is_of node c h) is
    where
      headed : (z o n : Bool) → (if z then (if o then Ok h.format else Err OtherWorld) else (if n then Ok h.format else Err (BadRecord place))) ≡ Ok f → f ≡ h.format
      headed true true n e = cc
      headed true false n e = absurd (cc)
      headed false o true e = cc
      headed false o false e = absurd (cc)

  -- one record more in front
  shows_more : (s : ShardDurable) (r : Record) (rest : List Record) → IsInOrder s → shard_replayed (shown (shard_replayed_by s r)) rest ≡ shard_replayed (shown s) (without_head r ++ rest)
  shows_more s (Head h) rest order = refl
  shows_more s (Prepared t part) rest order = ap (λ (z : ShardDurable). shard_replayed z rest) (shown-replayed s (Prepared t part) order).0
  shows_more s (Finished page) rest order = ap (λ (z : ShardDurable). shard_replayed z rest) (shown-replayed s (Finished page) order).0
  shows_more s (Promised t b) rest order = ap (λ (z : ShardDurable). shard_replayed z rest) (shown-replayed s (Promised t b) order).0
  shows_more s (Accepted t b o) rest order = ap (λ (z : ShardDurable). shard_replayed z rest) (shown-replayed s (Accepted t b o) order).0
  shows_more s (Decided page) rest order = ap (λ (z : ShardDurable). shard_replayed z rest) (shown-replayed s (Decided page) order).0

  newest_more : (o here : Option LogHead) (before f : ℕ) → f ≡ format_or here before → format_or o f ≡ format_or (maybe o here Some) before
  newest_more None here before f is = is
  newest_more (Some h) here before f is = refl

  abbrev stepped : ℕ → Step → Option Record → Result Step ReplayFault
  stepped place s o = maybe o (Err (BadRecord place)) (λ (r : Record). on_ok (format_behind node c is_shard_record place s.0 r) (λ (f : ℕ). let z : Result Step ReplayFault = Ok (f, shard_replayed_by s.1 r) in z))

  one_more : (place : ℕ) (s : Step) (bytes : List ℕ) (log : List (List ℕ)) (k : ShardDurable) (r : Record) (f : ℕ) → IsInOrder s.1 → decoded bytes ≡ Some r → format_behind node c is_shard_record place s.0 r ≡ Ok f
      → Reached (suc place) (f, shard_replayed_by s.1 r) log k → Reached place s (bytes ∷ log) k
  one_more place s bytes log k r f order is behind rest = record {
    format = rest.format;
    gives =
        ap (λ (o : Option Record). on_ok (stepped place s o) (λ (t : Step). reached node c (suc place) t log)) is
        ∙ ap (λ (e : Result ℕ ReplayFault). on_ok (on_ok e (λ (g : ℕ). let z : Result Step ReplayFault = Ok (g, shard_replayed_by s.1 r) in z)) (λ (t : Step). reached node c (suc place) t log)) behind ∙ rest.gives;
    in_order = rest.in_order;
    format_is =
        rest.format_is ∙ newest_more (newest_head log) (head_of r) s.0 f (format_from place s.0 f r (head_of r) behind)
        ∙ ap (λ (o : Option Record). format_or (maybe (newest_head log) (maybe o None head_of) Some) s.0) (sym is);
    shows = rest.shows ∙ shows_more s.1 r (records_of log) order ∙ ap (λ (o : Option Record). shard_replayed (shown s.1) (maybe o [] without_head ++ records_of log)) (sym is);
  }

  pub reaches : (log : List (List ℕ)) (place : ℕ) (s : Step) (k : ShardDurable) → shard_from node c place s log ≡ Ok k → IsInOrder s.1 → Reached place s log k
  reaches [] place s k is order =
      let same : s.1 ≡ k = cc in record {
        format = s.0;
        gives = ap (λ (z : ShardDurable). let y : Result Step ReplayFault = Ok (s.0, z) in y) same;
        in_order = subst IsInOrder same order;
        format_is = refl;
        shows = ap shown (sym same);
      }
  reaches (bytes ∷ log) place s k is order = by_record (decoded bytes) refl is (λ t e o. reaches log (suc place) t k e o)
    where
      by_format : (r : Record) → decoded bytes ≡ Some r → (e : Result ℕ ReplayFault) → format_behind node c is_shard_record place s.0 r ≡ e
          → on_ok (on_ok e (λ (f : ℕ). let z : Result Step ReplayFault = Ok (f, shard_replayed_by s.1 r) in z)) (λ (t : Step). shard_from node c (suc place) t log) ≡ Ok k
          → ((t : Step) → shard_from node c (suc place) t log ≡ Ok k → IsInOrder t.1 → Reached (suc place) t log k) → Reached place s (bytes ∷ log) k
      by_format r read (Ok f) behind done rest = one_more place s bytes log k r f order read behind (rest (f, shard_replayed_by s.1 r) done (shown-replayed s.1 r order).1)
      by_format r read (Err fault) behind done rest = absurd (cc)

      by_record : (o : Option Record) → decoded bytes ≡ o → on_ok (stepped place s o) (λ (t : Step). shard_from node c (suc place) t log) ≡ Ok k
          → ((t : Step) → shard_from node c (suc place) t log ≡ Ok k → IsInOrder t.1 → Reached (suc place) t log k) → Reached place s (bytes ∷ log) k
      by_record None read done rest = absurd (cc)
      by_record (Some r) read done rest = by_format r read (format_behind node c is_shard_record place s.0 r) refl done rest

  -- one record more at the end
  pub reached_last : (log : List (List ℕ)) (place : ℕ) (s t u : Step) (bytes : List ℕ) → reached node c place s log ≡ Ok t → ((p : ℕ) → shard_step node c p t bytes ≡ Ok u) → reached node c place s (log ++ bytes ∷ []) ≡ Ok u
  reached_last [] place s t u bytes done step =
      let same : s ≡ t = cc in ap (λ (r : Result Step ReplayFault). on_ok r (λ (z : Step). reached node c (suc place) z [])) (ap (λ (z : Step). shard_step node c place z bytes) same ∙ step place)
  reached_last (b ∷ log) place s t u bytes done step = at (shard_step node c place s b) done (λ z d. reached_last log (suc place) z t u bytes d step)
    where
      at : (r : Result Step ReplayFault) → on_ok r (λ (z : Step). reached node c (suc place) z log) ≡ Ok t → ((z : Step) → reached node c (suc place) z log ≡ Ok t → reached node c (suc place) z (log ++ bytes ∷ []) ≡ Ok u)
          → on_ok r (λ (z : Step). reached node c (suc place) z (log ++ bytes ∷ [])) ≡ Ok u
      at (Ok z) d rest = rest z d
      at (Err fault) d rest = absurd (cc)

  -- a head of the newest format
  pub head_step : (k : ShardDurable) (format p : ℕ) → format < 3 → decoded (record_bytes (Head (new_head node c))) ≡ Some (Head (new_head node c)) → shard_step node c p (format, k) (record_bytes (Head (new_head node c))) ≡ Ok (3, k)
  head_step k format p less is =
      ap (stepped p (format, k)) is ∙ ap (λ (e : Result ℕ ReplayFault). on_ok e (λ (g : ℕ). let z : Result Step ReplayFault = Ok (g, k) in z)) (next_is_newest node c p format less)
