-- The vote that a host shows after an act is the one that the act left in the log.
use Rattle.std.proofs.Common.{◌≡◌, ℕ, suc, ◌+◌, ◌-◌, nat_lt, Bool, true, false, List, [], ◌∷◌, ◌++◌, length, Option, None, Some, IfSome, refl, sym, ◌∙◌, ap, subst, cond, arith}
use Rattle.std.specs.Prelude.{slice_get, if◌then◌else◌}
use Rattle.std.specs.Ordering.{nat_cmp, is_eq}
use Rattle.std.proofs.lemmas.Bool.Decides.{nat_tests}
use Rattle.std.proofs.lemmas.Cmp.{nat_cmp_total}
use Rattle.rc_ids.specs.Tables.{Table, found, put, maybe}
use Rattle.rc_ids.specs.Cluster.{Layout}
use Rattle.rc_ids.specs.declared.names.NodeId.{NodeId}
use Rattle.rc_ids.specs.declared.names.NodeId.TheVariants.{Coord}
use Rattle.rc_body.specs.declared.decision.Decision.{Decision}
use Rattle.rc_msg.specs.Outboxes.{Outbox}
use Rattle.rc_record.specs.CoordState.{CoordDurable, coord_applied}
use Rattle.rc_record.specs.Reading.{decoded}
use Rattle.rc_record.specs.Spelling.{record_bytes, HasRecord}
use Rattle.rc_record.specs.declared.record.Record.{Record}
use Rattle.rc_record.specs.declared.record.Record.TheVariants.{Head, Prepared, Finished, Promised, Accepted, Decided}
use Rattle.rc_record.proofs.ByNumber.{found-put}
use Rattle.rc_disk.specs.Calls.{Told}
use Rattle.rc_disk.specs.declared.power.Power.{Power}
use Rattle.rc_log.specs.Journals.{State}
use Rattle.rc_protocol.specs.Acts.{NodeCause, coord_act}
use Rattle.rc_protocol.specs.Nodes.{CoordNode, applied}
use Rattle.rc_coord.specs.Sites.{CoordCore}
use Rattle.rc_runs.specs.Devices.{Device, Fate, Made, Full, FailsAt, opened, powered, read_once, called, next_fails, read_fails, appended, record_length, course_of}
use Rattle.rc_runs.specs.Session.{after_append}
use Rattle.rc_runs.specs.World.{Goes as GoesOn, Stops as StopsInside}
use Rattle.rc_host.specs.AnyNode.{AnyAct, NodeDurable, OfCoord, OfCoordNow, of_coord, node_act, coord_seen}
use Rattle.rc_host.specs.Standing.{coord_standing}
use Rattle.rc_host.specs.Hosts.{Sight, Run, Went, CountsOn, sight, count_in}
use Rattle.rc_host.specs.declared.host.Host.{Host}
use Rattle.rc_host.specs.declared.host.Host.TheVariants.{Up, Opened, Down, Lent}
use Rattle.rc_host.specs.declared.host.Course.{Course}
use Rattle.rc_host.specs.declared.host.Course.TheVariants.{Goes, Stops}
use Rattle.rc_node.specs.Acts.{coord_does}
use Rattle.rc_world.specs.declared.votes.Vote.{Vote}
use Rattle.rc_world.specs.Votes.{votes_on, IsNoVote, IsVoteOn, vote_for, vote_in, kept_by, vote_since, last_record, vote_if_up, vote_behind}
use Rattle.rc_world.proofs.VoteRows.{no_vote, vote_on}

-- A COORDINATOR THAT GOES ON
put_here : (table : Table ℕ (ℕ × Decision)) (t : ℕ) (x : ℕ × Decision) → found nat_cmp (put nat_cmp table t x) t ≡ Some x
put_here table t x = found-put nat_cmp nat_cmp_total table t t x ∙ ap (λ (b : Bool). cond b (Some x) (found nat_cmp table t)) (same t)
  where
    same : (n : ℕ) → is_eq (nat_cmp n n) ≡ true
    same n = grind (arith, nat_tests)

none_more : (n : ℕ) → nat_lt n (n + 0) ≡ false
none_more n = grind (arith, nat_tests)

one_more : (n : ℕ) → nat_lt n (n + 1) ≡ true
one_more n = grind (arith, nat_tests)

module _ (s : CoordDurable) (before : ℕ) where
  -- of a record that is no vote
  on_none : (r : Record) → IsNoVote (Some r) → vote_in (Some r) ≡ None
  on_none (Head h) is = refl
  on_none (Prepared t part) is = refl
  on_none (Finished page) is = refl
  on_none (Promised t b) is = refl
  on_none (Accepted t b o) is = absurd is
  on_none (Decided page) is = refl

  on_some : (t : ℕ) (r : Record) → IsVoteOn t (Some r) → maybe (found nat_cmp (coord_applied s r).accepted t) None (vote_for t) ≡ vote_in (Some r)
  on_some t (Head h) is = absurd is
  on_some t (Prepared u part) is = absurd is
  on_some t (Finished page) is = absurd is
  on_some t (Promised u b) is = absurd is
  on_some t (Accepted u b o) is =
      subst (λ (n : ℕ). maybe (found nat_cmp (put nat_cmp s.accepted u (b, o)) n) None (vote_for n) ≡ vote_for u (b, o)) is (ap (λ (x : Option (ℕ × Decision)). maybe x None (vote_for u)) (put_here s.accepted u (b, o)))
  on_some t (Decided page) is = absurd is

  on_tx : (r : Record) (tx : Option ℕ) → (tx ≡ None → IsNoVote (Some r)) → ((t : ℕ) → tx ≡ Some t → IsVoteOn t (Some r))
      → maybe tx None (λ t. maybe (found nat_cmp (coord_applied s r).accepted t) None (vote_for t)) ≡ vote_in (Some r)
  on_tx r None none some = sym (on_none r (none refl))
  on_tx r (Some t) none some = on_some t r (some t refl)

  pub vote_logged : (logs : Option Record) (tx : Option ℕ) → (tx ≡ None → IsNoVote logs) → ((t : ℕ) → tx ≡ Some t → IsVoteOn t logs)
      → vote_since (before + maybe logs 0 (λ _. 1)) (applied coord_applied s logs) tx before ≡ vote_in logs
  vote_logged None tx none some = ap (λ (b : Bool). if b then maybe tx None (λ t. maybe (found nat_cmp s.accepted t) None (vote_for t)) else None) (none_more before)
  vote_logged (Some r) tx none some =
      ap (λ (b : Bool). if b then maybe tx None (λ t. maybe (found nat_cmp (coord_applied s r).accepted t) None (vote_for t)) else None) (one_more before) ∙ on_tx r tx none some

-- A COORDINATOR THAT STOPPED
length_end : (xs : List (List ℕ)) (bytes : List ℕ) → length (xs ++ bytes ∷ []) ≡ suc (length xs)
length_end [] bytes = refl
length_end (x ∷ xs) bytes = ap suc (length_end xs bytes)

at_end : (xs : List (List ℕ)) (bytes : List ℕ) → slice_get (xs ++ bytes ∷ []) (length xs) ≡ Some bytes
at_end [] bytes = refl
at_end (x ∷ xs) bytes = at_end xs bytes

last_is : (front : List (List ℕ)) (bytes : List ℕ) → slice_get (front ++ bytes ∷ []) (length (front ++ bytes ∷ []) - 1) ≡ Some bytes
last_is front bytes =
    let count : length (front ++ bytes ∷ []) - 1 ≡ length front = omega (arith, length_end front bytes) in
    ap (slice_get (front ++ bytes ∷ [])) count ∙ at_end front bytes

-- an opening leaves a log that is open
is_open_after : (d w : Device) → opened d ≡ Some w → w.is_open ≡ true
is_open_after d w is = by_calls (next_fails d) (read_fails d) is
  where
    by_calls : {A : Type 0} (o : Option A) (b : Bool) → maybe o (if b then None else Some (read_once (called d))) (λ cause. None) ≡ Some w → w.is_open ≡ true
    by_calls None true e = absurd (cc)
    by_calls None false e = let k : read_once (called d) ≡ w = (cc) in sym (ap (λ (u : Device). u.is_open) k)
    by_calls (Some a) b e = absurd (cc)

append_opens : (fate : Fate) (x w : Device) (kept : Bool) → course_of fate ≡ StopsInside kept → after_append fate x ≡ Some w → w.is_open ≡ true
append_opens Made x w kept stops is = absurd (cc)
append_opens Full x w kept stops is = is_open_after (powered x) w is
append_opens (FailsAt at cause) x w kept stops is = is_open_after (powered x) w is

stop_opens : (d w : Device) (logs : Option Record) (kept : Bool) → maybe logs GoesOn (λ r. course_of (appended d (record_length r)).0) ≡ StopsInside kept
    → maybe logs (Some d) (λ r. let done = appended d (record_length r) in after_append done.0 done.1) ≡ Some w → w.is_open ≡ true
stop_opens d w None kept stops is = absurd (cc)
stop_opens d w (Some r) kept stops is = append_opens (appended d (record_length r)).0 (appended d (record_length r)).1 w kept stops is

kept_vote : (d : Device) (logs : Option Record) (blobs : List (List ℕ)) → maybe logs GoesOn (λ r. course_of (appended d (record_length r)).0) ≡ StopsInside true → ((r : Record) → HasRecord r → decoded (record_bytes r) ≡ Some r) → IfSome logs HasRecord
    → IfSome logs (λ r. (front : List (List ℕ)) × (blobs ≡ front ++ record_bytes r ∷ [])) → vote_in (last_record blobs) ≡ vote_in logs
kept_vote d None blobs stops again has kept = absurd (cc)
kept_vote d (Some r) blobs stops again has kept =
    ap vote_in (ap last_record kept.1 ∙ ap (λ (o : Option (List ℕ)). maybe o None decoded) (last_is kept.0 (record_bytes r)) ∙ again r has)

-- EITHER
module _ {J D : Type 0} (state : J → State) (told : D → Option Told) (content : D → Option (List ℕ)) (power : D → Power) (c : Layout) (dc : ℕ) (x : CoordNode) (cause : NodeCause) (gives : List (List ℕ) → NodeDurable → Type 0) (run : Run)
    (d : Device) (before : ℕ) (old : Host (CoordCore J) J D) (one two : Outbox) where
  abbrev s : Sight (CoordCore J) J D
  s = sight coord_seen state told content power

  abbrev act : AnyAct
  act = of_coord (coord_does x.durable (coord_act c dc x.durable x.volatile cause))

  goes_on : (node : CoordCore J) → OfCoord node.durable ≡ OfCoord (applied coord_applied x.durable act.logs) → (state node.journal).count ≡ before + maybe act.logs 0 (λ _. 1)
      → let host : Host (CoordCore J) J D = Up node in vote_if_up state host (votes_on cause) before ≡ vote_in act.logs
  goes_on node durable count =
      let is : node.durable ≡ applied coord_applied x.durable act.logs = (cc) in
      ap (λ (n : ℕ). vote_since n node.durable (votes_on cause) before) count
      ∙ ap (λ (u : CoordDurable). vote_since (before + maybe act.logs 0 (λ _. 1)) u (votes_on cause) before) is
      ∙ vote_logged x.durable before act.logs (votes_on cause) (no_vote c dc x.durable x.volatile cause) (vote_on c dc x.durable x.volatile cause)

  votes : (new : Host (CoordCore J) J D) (course : Course) → x.up ≡ true → before ≡ count_in s old → ((r : Record) → HasRecord r → decoded (record_bytes r) ≡ Some r) → IfSome act.logs HasRecord → CountsOn s old new act
      → Went s gives run course new one two (coord_standing x) d act → vote_behind state new course (votes_on cause) before ≡ vote_in (kept_by act.logs course)
  votes (Up node) Goes up counted again has counts went = goes_on node went.host.durable (counts ∙ ap (λ (n : ℕ). n + maybe act.logs 0 (λ _. 1)) (sym counted))
  votes (Up node) (Stops kept) up counted again has counts went = absurd (let e : false ≡ true = went.host.up in cc)
  votes (Opened journal blobs) Goes up counted again has counts went = absurd (let e : x.up ≡ false = went.host.down in cc)
  votes (Opened journal blobs) (Stops true) up counted again has counts went = kept_vote d act.logs blobs went.course_is again has went.kept
  votes (Opened journal blobs) (Stops false) up counted again has counts went = refl
  votes (Down disk) Goes up counted again has counts went = absurd (let e : x.up ≡ false = went.host.down in cc)
  votes (Down disk) (Stops true) up counted again has counts went =
      absurd (let e : went.device.is_open ≡ false = went.host.shut in let k : went.device.is_open ≡ true = stop_opens d went.device act.logs true went.course_is went.device_is in cc)
  votes (Down disk) (Stops false) up counted again has counts went = refl
  votes Lent course up counted again has counts went = absurd went.host

  pub vote_is : (vote : Option Vote) (name : NodeId) → name ≡ Coord dc → (new : Host (CoordCore J) J D) (course : Course) → vote ≡ vote_behind state new course (votes_on cause) before → x.up ≡ true → before ≡ count_in s old
      → ((r : Record) → HasRecord r → decoded (record_bytes r) ≡ Some r)
      → let a = node_act c name (OfCoord x.durable) (OfCoordNow x.volatile) cause in IfSome a.logs HasRecord → CountsOn s old new a → Went s gives run course new one two (coord_standing x) d a → vote ≡ vote_in (kept_by a.logs course)
  vote_is vote name named new course shown up counted again =
      let its : node_act c name (OfCoord x.durable) (OfCoordNow x.volatile) cause ≡ act = ap (λ (n : NodeId). node_act c n (OfCoord x.durable) (OfCoordNow x.volatile) cause) named in
      subst (λ (a : AnyAct). IfSome a.logs HasRecord → CountsOn s old new a → Went s gives run course new one two (coord_standing x) d a → vote ≡ vote_in (kept_by a.logs course)) (sym its)
      (λ has counts went. shown ∙ votes new course up counted again has counts went)
