-- What a replay of a coordinator's log gives, one record after another.
use Rattle.std.proofs.Common.{◌≡◌, ℕ, suc, ◌<◌, List, [], ◌∷◌, ◌++◌, Bool, true, false, Option, Some, None, Result, Ok, Err, refl, sym, ap, ◌∙◌}
use Rattle.std.specs.Prelude.{◌==◌, ◌&&◌, nat_lt, if◌then◌else◌}
use Rattle.rc_ids.specs.Cluster.{Layout}
use Rattle.rc_ids.specs.Tables.{maybe}
use Rattle.rc_ids.specs.declared.names.NodeId.{NodeId}
use Rattle.rc_record.specs.Heads.{LogHead, new_head, is_of}
use Rattle.rc_record.specs.Kinds.{head_of, is_coord_record}
use Rattle.rc_record.specs.Reading.{decoded}
use Rattle.rc_record.specs.Replay.{on_ok, coord_step, coord_from, format_behind, next_format, is_refused, newest_head}
use Rattle.rc_record.specs.CoordState.{CoordDurable, new_durable, coord_applied}
use Rattle.rc_record.specs.Spelling.{record_bytes}
use Rattle.rc_record.specs.declared.fault.ReplayFault.{ReplayFault}
use Rattle.rc_record.specs.declared.fault.ReplayFault.TheVariants.{BadRecord, OtherWorld}
use Rattle.rc_record.specs.declared.record.Record.{Record}
use Rattle.rc_record.specs.declared.record.Record.TheVariants.{Head, Prepared, Finished, Promised, Accepted, Decided}
use Rattle.rc_protocol.specs.Nodes.{coord_replayed}
use Rattle.rc_runs.specs.Stored.{records_of, without_head}
use Rattle.rc_coord.specs.Replays.{reached, GivesBack}
use Rattle.rc_host.specs.NewestHeads.{next_is_newest}

abbrev Step : Type 0
Step = ℕ × CoordDurable

abbrev format_or : Option LogHead → ℕ → ℕ
format_or o before = maybe o before (λ h. h.format)

module _ (node : NodeId) (c : Layout) where
  -- the state and the format behind the records of a log
  pub record Reached (place : ℕ) (s : Step) (log : List (List ℕ)) (k : CoordDurable) : Type 0 where
    pub format : ℕ
    pub gives : reached node c place s log ≡ Ok (format, k)
    pub format_is : format ≡ format_or (newest_head log) s.0
    pub shows : k ≡ coord_replayed s.1 (records_of log)

  format_from : (place before f : ℕ) (r : Record) (o : Option LogHead) → maybe o (if is_refused (is_coord_record r) before r then Err (BadRecord place) else Ok before) (next_format node c place before) ≡ Ok f → f ≡ format_or o before
  format_from place before f r None is = plain (is_refused (is_coord_record r) before r) is
    where
      plain : (b : Bool) → (if b then Err (BadRecord place) else Ok before) ≡ Ok f → f ≡ before
      plain true e = absurd (cc)
      plain false e = cc
  format_from place before f r (Some h) is = headed (before == 0) (is_of node c h) (nat_lt before h.format && is_of node c h) is
    where
      headed : (z o n : Bool) → (if z then (if o then Ok h.format else Err OtherWorld) else (if n then Ok h.format else Err (BadRecord place))) ≡ Ok f → f ≡ h.format
      headed true true n e = cc
      headed true false n e = absurd (cc)
      headed false o true e = cc
      headed false o false e = absurd (cc)

  -- one record more in front
  shows_more : (s : CoordDurable) (r : Record) (rest : List Record) → coord_replayed (coord_applied s r) rest ≡ coord_replayed s (without_head r ++ rest)
  shows_more s (Head h) rest = refl
  shows_more s (Prepared t part) rest = refl
  shows_more s (Finished page) rest = refl
  shows_more s (Promised t b) rest = refl
  shows_more s (Accepted t b o) rest = refl
  shows_more s (Decided page) rest = refl

  newest_more : (o here : Option LogHead) (before f : ℕ) → f ≡ format_or here before → format_or o f ≡ format_or (maybe o here Some) before
  newest_more None here before f is = is
  newest_more (Some h) here before f is = refl

  abbrev stepped : ℕ → Step → Option Record → Result Step ReplayFault
  stepped place s o = maybe o (Err (BadRecord place)) (λ (r : Record). on_ok (format_behind node c is_coord_record place s.0 r) (λ (f : ℕ). let z : Result Step ReplayFault = Ok (f, coord_applied s.1 r) in z))

  one_more : (place : ℕ) (s : Step) (bytes : List ℕ) (log : List (List ℕ)) (k : CoordDurable) (r : Record) (f : ℕ) → decoded bytes ≡ Some r → format_behind node c is_coord_record place s.0 r ≡ Ok f
      → Reached (suc place) (f, coord_applied s.1 r) log k → Reached place s (bytes ∷ log) k
  one_more place s bytes log k r f is behind rest = record {
    format = rest.format;
    gives =
        ap (λ (o : Option Record). on_ok (stepped place s o) (λ (t : Step). reached node c (suc place) t log)) is
        ∙ ap (λ (e : Result ℕ ReplayFault). on_ok (on_ok e (λ (g : ℕ). let z : Result Step ReplayFault = Ok (g, coord_applied s.1 r) in z)) (λ (t : Step). reached node c (suc place) t log)) behind ∙ rest.gives;
    format_is =
        rest.format_is ∙ newest_more (newest_head log) (head_of r) s.0 f (format_from place s.0 f r (head_of r) behind)
        ∙ ap (λ (o : Option Record). format_or (maybe (newest_head log) (maybe o None head_of) Some) s.0) (sym is);
    shows = rest.shows ∙ shows_more s.1 r (records_of log) ∙ ap (λ (o : Option Record). coord_replayed s.1 (maybe o [] without_head ++ records_of log)) (sym is);
  }

  pub reaches : (log : List (List ℕ)) (place : ℕ) (s : Step) (k : CoordDurable) → coord_from node c place s log ≡ Ok k → Reached place s log k
  reaches [] place s k is =
      let same : s.1 ≡ k = cc in record {
        format = s.0;
        gives = ap (λ (z : CoordDurable). let y : Result Step ReplayFault = Ok (s.0, z) in y) same;
        format_is = refl;
        shows = sym same;
      }
  reaches (bytes ∷ log) place s k is = by_record (decoded bytes) refl is (λ t e. reaches log (suc place) t k e)
    where
      by_format : (r : Record) → decoded bytes ≡ Some r → (e : Result ℕ ReplayFault) → format_behind node c is_coord_record place s.0 r ≡ e
          → on_ok (on_ok e (λ (f : ℕ). let z : Result Step ReplayFault = Ok (f, coord_applied s.1 r) in z)) (λ (t : Step). coord_from node c (suc place) t log) ≡ Ok k
          → ((t : Step) → coord_from node c (suc place) t log ≡ Ok k → Reached (suc place) t log k) → Reached place s (bytes ∷ log) k
      by_format r read (Ok f) behind done rest = one_more place s bytes log k r f read behind (rest (f, coord_applied s.1 r) done)
      by_format r read (Err fault) behind done rest = absurd (cc)

      by_record : (o : Option Record) → decoded bytes ≡ o → on_ok (stepped place s o) (λ (t : Step). coord_from node c (suc place) t log) ≡ Ok k
          → ((t : Step) → coord_from node c (suc place) t log ≡ Ok k → Reached (suc place) t log k) → Reached place s (bytes ∷ log) k
      by_record None read done rest = absurd (cc)
      by_record (Some r) read done rest = by_format r read (format_behind node c is_coord_record place s.0 r) refl done rest

  -- one record more at the end
  pub reached_last : (log : List (List ℕ)) (place : ℕ) (s t u : Step) (bytes : List ℕ) → reached node c place s log ≡ Ok t → ((p : ℕ) → coord_step node c p t bytes ≡ Ok u) → reached node c place s (log ++ bytes ∷ []) ≡ Ok u
  reached_last [] place s t u bytes done step =
      let same : s ≡ t = cc in ap (λ (r : Result Step ReplayFault). on_ok r (λ (z : Step). reached node c (suc place) z [])) (ap (λ (z : Step). coord_step node c place z bytes) same ∙ step place)
  reached_last (b ∷ log) place s t u bytes done step = at (coord_step node c place s b) done (λ z d. reached_last log (suc place) z t u bytes d step)
    where
      at : (r : Result Step ReplayFault) → on_ok r (λ (z : Step). reached node c (suc place) z log) ≡ Ok t → ((z : Step) → reached node c (suc place) z log ≡ Ok t → reached node c (suc place) z (log ++ bytes ∷ []) ≡ Ok u)
          → on_ok r (λ (z : Step). reached node c (suc place) z (log ++ bytes ∷ [])) ≡ Ok u
      at (Ok z) d rest = rest z d
      at (Err fault) d rest = absurd (cc)

  -- a head of the newest format
  pub head_step : (k : CoordDurable) (format p : ℕ) → format < 3 → decoded (record_bytes (Head (new_head node c))) ≡ Some (Head (new_head node c)) → coord_step node c p (format, k) (record_bytes (Head (new_head node c))) ≡ Ok (3, k)
  head_step k format p less is =
      ap (stepped p (format, k)) is ∙ ap (λ (e : Result ℕ ReplayFault). on_ok e (λ (g : ℕ). let z : Result Step ReplayFault = Ok (g, k) in z)) (next_is_newest node c p format less)

  -- a replay forgets the format
  replay_reached : (log : List (List ℕ)) (place : ℕ) (s : Step) → coord_from node c place s log ≡ on_ok (reached node c place s log) (λ (t : Step). Ok t.1)
  replay_reached [] place s = refl
  replay_reached (bytes ∷ log) place s = at (coord_step node c place s bytes) (λ t. replay_reached log (suc place) t)
    where
      at : (r : Result Step ReplayFault) → ((t : Step) → coord_from node c (suc place) t log ≡ on_ok (reached node c (suc place) t log) (λ (z : Step). Ok z.1))
          → on_ok r (λ (t : Step). coord_from node c (suc place) t log) ≡ on_ok (on_ok r (λ t. reached node c (suc place) t log)) (λ (t : Step). Ok t.1)
      at (Ok t) rest = rest t
      at (Err fault) rest = refl

  pub replays : (log : List (List ℕ)) (s : CoordDurable) → GivesBack node c log s → coord_from node c 0 (0, new_durable) log ≡ Ok s
  replays log s back = replay_reached log 0 (0, new_durable) ∙ ap (λ (r : Result Step ReplayFault). on_ok r (λ (t : Step). Ok t.1)) back.gives
