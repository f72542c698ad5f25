-- The records of a coordinator's acts.
use Rattle.std.proofs.Common.{◌≡◌, ℕ, Bool, true, false, List, [], ◌∷◌, Option, Some, None, IfSome, IsTrue, refl}
use Rattle.std.specs.Prelude.{nat_lt, if◌then◌else◌}
use Rattle.std.specs.Ordering.{nat_cmp}
use Rattle.rc_ids.specs.Tables.{found, maybe}
use Rattle.rc_ids.specs.Cluster.{Layout, is_dc, is_shard, next_ballot}
use Rattle.rc_ids.specs.declared.names.Party.{Party}
use Rattle.rc_body.specs.declared.decision.Decision.{Decision}
use Rattle.rc_body.specs.declared.decision.Decision.TheVariants.{Commit, Abort}
use Rattle.rc_body.specs.declared.reason.Reason.{Reason}
use Rattle.rc_msg.specs.declared.msg.Msg.{Msg}
use Rattle.rc_msg.specs.declared.msg.Msg.TheVariants.{Propose, Prepared, Ask, Promise, Voted, Decided, Abandon, CatchAsk, CatchPage}
use Rattle.rc_record.specs.declared.record.Record.{Record}
use Rattle.rc_record.specs.declared.record.Record.TheVariants.{Promised}
use Rattle.rc_record.specs.Kinds.{is_coord_record}
use Rattle.rc_protocol.specs.Messages.{Posts}
use Rattle.rc_protocol.specs.Acts.{NodeCause, Came, Catches, Takes, coord_act}
use Rattle.rc_protocol.specs.Coordinator.{CoordDurable, CoordVolatile, CoordAct, GatherState, coord_says, accepted_at, promise_of, outcome_of, takes_proposal, gathers_on, gather_at, has_all, waiting_gather, waiting_takeover, said_yes, with_yes, promise_record, chooses, hears, is_decided_by, tally_of, takes_over, outcomes_record, is_next_coord_page, coord_row}

-- a record is a coordinator's, and comes with a ballot
pub record IsOwn (act : CoordAct) : Type 0 where
  pub own : IfSome act.logs (λ (r : Record). IsTrue (is_coord_record r) × (act.spent ≡ false))

-- of two acts, and of an act that looks something up
either_way : (b : Bool) (x y : CoordAct) → IsOwn x → IsOwn y → IsOwn (if b then x else y)
either_way true x y one other = one
either_way false x y one other = other

in_case : {A : Type 0} (o : Option A) (x : CoordAct) (y : A → CoordAct) → IsOwn x → ((a : A) → IsOwn (y a)) → IsOwn (maybe o x y)
in_case None x y one other = one
in_case (Some a) x y one other = other a

says : (v : CoordVolatile) (ms : Posts) → IsOwn (coord_says v ms)
says v ms = record { own = tt }

module _ (c : Layout) (d : ℕ) (s : CoordDurable) (v : CoordVolatile) where
  takes_over_own : (t : ℕ) (is_eager : Bool) → IsOwn (takes_over c d s v t is_eager)
  takes_over_own t is_eager = in_case (next_ballot c d (promise_of s.promises t)) _ _ (record { own = tt }) (λ b. record { own = (refl, refl) })

  takes_own : (t : ℕ) (is_eager : Bool) (tells : Decision → Posts) → IsOwn (maybe (outcome_of s.outcomes t) (takes_over c d s v t is_eager) (λ o. coord_says v (tells o)))
  takes_own t is_eager tells = in_case (outcome_of s.outcomes t) _ _ (takes_over_own t is_eager) (λ o. says v (tells o))

  gathers_own : (t : ℕ) (g : GatherState) → IsOwn (gathers_on c d v t g)
  gathers_own t g = either_way (has_all c g) _ _ (record { own = (refl, refl) }) (record { own = tt })

  proposal_own : (t b : ℕ) (o : Decision) → IsOwn (takes_proposal c d v t b o)
  proposal_own t b Abort = record { own = (refl, refl) }
  proposal_own t b (Commit body) = gathers_own t (gather_at v t b body)

  propose_own : (from : Party) (t b : ℕ) (o : Decision) → IsOwn (coord_row c d s v from (Propose t b o))
  propose_own from t b o =
      in_case (outcome_of s.outcomes t) _ _
      (either_way (nat_lt b (promise_of s.promises t)) _ _ (record { own = tt })
      (in_case (accepted_at (found nat_cmp s.accepted t) b) _ _ (proposal_own t b o) (λ old. record { own = tt })))
      (λ outcome. record { own = tt })

  yes_own : (t : ℕ) (g : GatherState) → IsOwn (said_yes c d s v t g)
  yes_own t g =
      either_way (has_all c g) _ _ (either_way (nat_lt g.ballot (promise_of s.promises t)) _ _ (record { own = tt }) (record { own = (refl, refl) }))
      (record { own = tt })

  answer_own : (from : Party) (t sh : ℕ) (o : Option Reason) → IsOwn (coord_row c d s v from (Prepared t sh o))
  answer_own from t sh None = either_way (is_shard c sh) _ _ (in_case (waiting_gather c s v t sh) _ _ (record { own = tt }) (λ g. yes_own t (with_yes g sh))) (record { own = tt })
  answer_own from t sh (Some reason) = either_way (is_shard c sh) _ _ (in_case (waiting_gather c s v t sh) _ _ (record { own = tt }) (λ g. record { own = tt })) (record { own = tt })

  promise_own : (t b promise : ℕ) → IfSome (promise_record t b promise) (λ (r : Record). IsTrue (is_coord_record r) × (false ≡ false))
  promise_own t b promise = by_test (nat_lt promise b)
    where
      by_test : (is_above : Bool) → IfSome (if is_above then Some (Promised t b) else None) (λ (r : Record). IsTrue (is_coord_record r) × (false ≡ false))
      by_test true = (refl, refl)
      by_test false = tt

  ask_own : (from : Party) (t b : ℕ) → IsOwn (coord_row c d s v from (Ask t b))
  ask_own from t b =
      in_case (outcome_of s.outcomes t) _ _
      (either_way (nat_lt b (promise_of s.promises t)) _ _ (record { own = tt }) (record { own = promise_own t b (promise_of s.promises t) }))
      (λ outcome. record { own = tt })

  report_own : (from : Party) (t b e : ℕ) (report : Option (ℕ × Decision)) → IsOwn (coord_row c d s v from (Promise t b e report))
  report_own from t b e report =
      either_way (is_dc c e) _ _
      (in_case (waiting_takeover s v t b e) _ _ (record { own = tt }) (λ k. in_case (chooses c (hears k e report)) _ _ (record { own = tt }) (λ o. record { own = tt })))
      (record { own = tt })

  vote_own : (from : Party) (t b e : ℕ) (o : Decision) → IsOwn (coord_row c d s v from (Voted t b e o))
  vote_own from t b e o =
      either_way (is_dc c e) _ _
      (in_case (outcome_of s.outcomes t) _ _ (either_way (is_decided_by c (tally_of v t) b e o) _ _ (record { own = (refl, refl) }) (record { own = tt })) (λ outcome. record { own = tt }))
      (record { own = tt })

  page_own : (new : List (ℕ × Decision)) → IfSome (outcomes_record new) (λ (r : Record). IsTrue (is_coord_record r) × (false ≡ false))
  page_own [] = tt
  page_own (e ∷ es) = (refl, refl)

  catch_page_own : (from : Party) (e place : ℕ) (page : List (ℕ × Decision)) → IsOwn (coord_row c d s v from (CatchPage e place page))
  catch_page_own from e place page =
      either_way (is_dc c e) _ _ (either_way (is_next_coord_page d v e place page) _ _ (record { own = page_own _ }) (record { own = tt })) (record { own = tt })

  row_own : (from : Party) (m : Msg) → IsOwn (coord_row c d s v from m)
  row_own from (Propose t b o) = propose_own from t b o
  row_own from (Prepared t sh reason) = answer_own from t sh reason
  row_own from (Ask t b) = ask_own from t b
  row_own from (Promise t b e report) = report_own from t b e report
  row_own from (Voted t b e o) = vote_own from t b e o
  row_own from (Decided t o) = in_case (outcome_of s.outcomes t) _ _ (record { own = (refl, refl) }) (λ outcome. record { own = tt })
  row_own from (Abandon t) = takes_own t false _
  row_own from (CatchAsk place) = record { own = tt }
  row_own from (CatchPage e place page) = catch_page_own from e place page
  row_own from _ = record { own = tt }

  pub coord_records : (cause : NodeCause) → IsOwn (coord_act c d s v cause)
  coord_records (Came from m) = row_own from m
  coord_records Catches = record { own = tt }
  coord_records (Takes t) = takes_own t true _
