-- Each event of a quiet stretch keeps what fits of t.
use Rattle.std.proofs.Common.{◌≡◌, ℕ, List, [], ◌++◌, refl, sym, ap, ◌∙◌, subst, Bool, true, false, Option, Some, None, ⊎_elim}
use Rattle.std.specs.Ordering.{nat_cmp}
use Rattle.rc_ids.specs.Tables.{In, found}
use Rattle.rc_ids.specs.Cluster.{is_dc, is_shard}
use Rattle.rc_ids.specs.declared.names.Party.{Party}
use Rattle.rc_msg.specs.declared.msg.Envelope.{Envelope}
use Rattle.rc_msg.specs.declared.msg.Msg.{Msg}
use Rattle.rc_record.specs.declared.record.Record.{Record}
use Rattle.rc_record.specs.ShardState.{ShardDurable, shard_applied}
use Rattle.rc_protocol.specs.Messages.{Posts, coordinator, shard_server}
use Rattle.rc_protocol.specs.Coordinator.{CoordAct, do_catch as coord_catches, new_volatile as new_coord_volatile}
use Rattle.rc_protocol.specs.Shard.{ShardAct, do_catch as shard_catches, new_volatile as new_shard_volatile}
use Rattle.rc_protocol.specs.Acts.{NodeCause, Came as Comes, Catches, Takes, coord_act, shard_act}
use Rattle.rc_protocol.specs.Nodes.{CoordNode, ShardNode, applied, coord_started, shard_started, coord_after, shard_after, coord_stopped, shard_stopped}
use Rattle.rc_runs.specs.declared.event.Event.{Event}
use Rattle.rc_runs.specs.World.{Parties, kept_record, coord_at, shard_at, envelopes, with_coord, with_shard}
use Rattle.rc_agreement.proofs.Cases.{never, and_left}
use Rattle.rc_agreement.proofs.Places.{coord_dc, shard_there}
use Rattle.rc_agreement.proofs.Sends.{to_none}
use Rattle.rc_agreement.proofs.Promises.{replayed}
use Rattle.rc_causes.proofs.Moves.{Delivers, CoordWhy, ShardWhy}
use Rattle.rc_quiet.proofs.Parts.{Sent, Fits, CoordFits, ShardFits}
use Rattle.rc_quiet.proofs.Ending.{in_message}
use Rattle.rc_quiet.proofs.Growing.{posted_in, more_in, fits_on, coord_on, shard_on}
use Rattle.rc_quiet.proofs.CoordFitRows.{Lists, CoordDoes, coord_fits, Due}
use Rattle.rc_quiet.proofs.ShardFitRows.{shard_says_fit, shard_holds, DueTo}
use Rattle.rc_quiet.proofs.MemberShards.{Passes, Taken, never_no, lost_by_other}
use Rattle.rc_quiet.proofs.NodesAfter.{fits_after, low_after}
use Rattle.rc_quiet.proofs.Kept.{Kept, coord_changes, shard_changes}

-- what is so at each moment of the stretch
pub record Calm (members : List ℕ) (t : ℕ) (w : Parties) : Type 0 where
  pub untaken : (d : ℕ) (x : CoordNode) → coord_at w d ≡ Some x → found nat_cmp x.volatile.takeovers t ≡ None
  pub up : (d : ℕ) (x : CoordNode) → In d members → coord_at w d ≡ Some x → x.up ≡ true
  pub shards_up : (d sh : ℕ) (x : ShardNode) → In d members → shard_at w d sh ≡ Some x → x.up ≡ true
  pub replays : (d : ℕ) (x : CoordNode) → coord_at w d ≡ Some x → x.durable ≡ replayed x.log
  pub shard_replays : (d sh : ℕ) (x : ShardNode) → shard_at w d sh ≡ Some x → (shard_started x.log).durable ≡ x.durable

module _ (members : List ℕ) (t : ℕ) (w : Parties) (sent : List Envelope) (e : Event) (kept : Kept members t w sent) (calm : Calm members t w) where
  -- what comes to a party was sent, and fits
  came_fits : (from : Party) (ms : Posts) (to : Party) (m : Msg) → Delivers sent e to m → (f : Party) × Sent (sent ++ envelopes from ms) f to m × Fits t w.layout (sent ++ envelopes from ms) f to m
  came_fits from ms to m h =
      let i = in_message sent h.0 _ h.3 in
      (h.1, more_in sent from ms _ i, fits_on t w.layout sent (sent ++ envelopes from ms) (more_in sent from ms) h.1 to m (kept.fits _ i))

  -- COORDINATORS
  module _ (d : ℕ) (x : CoordNode) (there : coord_at w d ≡ Some x) where
    dc : is_dc w.layout d ≡ true
    dc = coord_dc w d x there

    now_fits : (ms : Posts) → CoordFits t w.layout (sent ++ envelopes (coordinator d) ms) x
    now_fits ms = coord_on t w.layout sent (sent ++ envelopes (coordinator d) ms) (more_in sent (coordinator d) ms) x (kept.coords d x there)

    due : (ms : Posts) (k : NodeCause) → CoordWhy sent e d k → Due t w.layout (sent ++ envelopes (coordinator d) ms) d dc x (now_fits ms) (calm.untaken d x there) k
    due ms (Comes from m) why = came_fits (coordinator d) ms (coordinator d) m why
    due ms Catches why = tt
    due ms (Takes u) why = tt

    row : (ms : Posts) (k : NodeCause) → CoordWhy sent e d k → CoordDoes t w.layout (sent ++ envelopes (coordinator d) ms) d (coord_act w.layout d x.durable x.volatile k)
    row ms k why = coord_fits t w.layout (sent ++ envelopes (coordinator d) ms) d dc x (now_fits ms) (calm.untaken d x there) k (due ms k why)

    -- it goes on
    pub coord_acts : (k : NodeCause) → CoordWhy sent e d k → found nat_cmp (coord_act w.layout d x.durable x.volatile k).after.takeovers t ≡ None
        → Kept members t (with_coord w d (coord_after x (coord_act w.layout d x.durable x.volatile k)) (coord_act w.layout d x.durable x.volatile k).logs) (sent ++ envelopes (coordinator d) (coord_act w.layout d x.durable x.volatile k).sends)
    coord_acts k why none =
        let a : CoordAct = coord_act w.layout d x.durable x.volatile k in
        let r = row a.sends k why in
        coord_changes members t w sent kept d x (coord_after x a) a.logs a.sends there
        (r.says none (posted_in sent (coordinator d) a.sends))
        (fits_after t w.layout _ x (now_fits a.sends) a.logs r.accepts r.lists (coord_after x a) refl r.gathers r.tally)
        (λ m. low_after t x.durable a.logs (kept.low d x m there) (λ b o is. (r.accepts b o is).0) (r.promises none))

    -- it stops, with the record of an act or none
    stops_fit : (r : Option Record) → (CoordFits t w.layout (sent ++ envelopes (coordinator d) []) (coord_stopped x r)) → (In d members → ⊥) → Kept members t (with_coord w d (coord_stopped x r) r) (sent ++ envelopes (coordinator d) [])
    stops_fit r f out = coord_changes members t w sent kept d x (coord_stopped x r) r [] there (to_none (Fits t w.layout (sent ++ envelopes (coordinator d) []) (coordinator d))) f (λ m. absurd (out m))

    pub coord_crashes : (In d members → ⊥) → Kept members t (with_coord w d (coord_stopped x None) None) (sent ++ envelopes (coordinator d) [])
    coord_crashes out =
        let f = now_fits [] in
        stops_fit None (record { accepted = f.accepted; gathers = λ g i. absurd i; listed = f.listed; tally = λ tl i. absurd i }) out

    pub coord_halts : (k : NodeCause) → CoordWhy sent e d k → (kept : Bool) (r : Record) → (coord_act w.layout d x.durable x.volatile k).logs ≡ Some r → (In d members → ⊥)
        → Kept members t (with_coord w d (coord_stopped x (kept_record kept r)) (kept_record kept r)) (sent ++ envelopes (coordinator d) [])
    coord_halts k why false r logs out = coord_crashes out
    coord_halts k why true r logs out =
        let h = row [] k why in
        stops_fit (Some r)
        (fits_after t w.layout (sent ++ envelopes (coordinator d) []) x (now_fits []) (Some r) (λ b o is. h.accepts b o (logs ∙ is))
        (subst (Lists t w.layout (sent ++ envelopes (coordinator d) [])) logs h.lists) (coord_stopped x (Some r)) refl (λ g i. absurd i) (λ tl i. absurd i)) out

    -- it starts again, and asks for pages
    pub coord_wakes : (In d members → ⊥)
        → Kept members t (with_coord w d (coord_after (coord_started x.log) (coord_catches w.layout d new_coord_volatile)) None) (sent ++ envelopes (coordinator d) (coord_catches w.layout d new_coord_volatile).sends)
    coord_wakes out =
        let ms : Posts = (coord_catches w.layout d new_coord_volatile).sends in
        let f = now_fits ms in
        let y : CoordNode = coord_after (coord_started x.log) (coord_catches w.layout d new_coord_volatile) in
        let g : CoordFits t w.layout (sent ++ envelopes (coordinator d) ms) y =
        fits_after t w.layout (sent ++ envelopes (coordinator d) ms) x f None (λ b o. never _) tt y (sym (calm.replays d x there)) (λ g i. absurd i) (λ tl i. absurd i) in
        let r = coord_fits t w.layout (sent ++ envelopes (coordinator d) ms) d dc y g refl Catches tt in
        coord_changes members t w sent kept d x y None ms there (r.says refl (posted_in sent (coordinator d) ms)) g (λ m. absurd (out m))

  -- SHARD SERVERS
  module _ (d sh : ℕ) (x : ShardNode) (there : shard_at w d sh ≡ Some x) where
    shard_dc : is_dc w.layout d ≡ true
    shard_dc = and_left (is_dc w.layout d) (is_shard w.layout sh) (shard_there w d sh x there)

    shard_now : (ms : Posts) → ShardFits t w.layout (sent ++ envelopes (shard_server d sh) ms) d sh x
    shard_now ms = shard_on t w.layout sent (sent ++ envelopes (shard_server d sh) ms) (more_in sent (shard_server d sh) ms) d sh x (kept.shards d sh x there)

    due_to : (ms : Posts) (k : NodeCause) → ShardWhy sent e d sh k → DueTo t w.layout (sent ++ envelopes (shard_server d sh) ms) d sh shard_dc x (shard_now ms) k
    due_to ms (Comes from m) why = came_fits (shard_server d sh) ms (shard_server d sh) m why
    due_to ms Catches why = tt
    due_to ms (Takes u) why = tt

    pub shard_acts : (k : NodeCause) → ShardWhy sent e d sh k
        → (In d members → Passes t w.layout d sh x.durable x.volatile k × ((q : List ℕ) → Taken t w.layout d sh x.durable x.volatile q (shard_act w.layout d sh x.durable x.volatile k) → ⊥))
        → Kept members t (with_shard w d sh (shard_after x (shard_act w.layout d sh x.durable x.volatile k))) (sent ++ envelopes (shard_server d sh) (shard_act w.layout d sh x.durable x.volatile k).sends)
    shard_acts k why member =
        let a : ShardAct = shard_act w.layout d sh x.durable x.volatile k in
        shard_changes members t w sent kept d sh x (shard_after x a) a.sends there
        (shard_says_fit t w.layout (sent ++ envelopes (shard_server d sh) a.sends) d sh shard_dc x (shard_now a.sends) k (due_to a.sends k why))
        (shard_holds t w.layout (sent ++ envelopes (shard_server d sh) a.sends) d sh shard_dc x (shard_now a.sends) k (due_to a.sends k why) (shard_after x a) refl (λ q i. i))
        (λ m. ((λ q i. ⊎_elim (λ old. kept.lost d sh x q m there old) (λ h. (member m).1 q h) (lost_by_other t w.layout d sh x.durable x.volatile k q i)), never_no t w.layout d sh x.durable x.volatile k (member m).0))

    none_fits : (y : ShardNode) → y.volatile ≡ new_shard_volatile → ShardFits t w.layout (sent ++ envelopes (shard_server d sh) []) d sh y → (In d members → ⊥) → Kept members t (with_shard w d sh y) (sent ++ envelopes (shard_server d sh) [])
    none_fits y v f out = shard_changes members t w sent kept d sh x y [] there (to_none (Fits t w.layout (sent ++ envelopes (shard_server d sh) []) (shard_server d sh))) f (λ m. absurd (out m))

    pub shard_crashes : (In d members → ⊥) → Kept members t (with_shard w d sh (shard_stopped x None)) (sent ++ envelopes (shard_server d sh) [])
    shard_crashes out =
        let f = shard_now [] in
        none_fits (shard_stopped x None) refl (record { parts = f.parts; finished = f.finished; marks = λ k i. absurd (⊎_elim (λ j. j) (λ j. j) i) }) out

    pub shard_halts : (k : NodeCause) → ShardWhy sent e d sh k → (kept : Bool) (r : Record) → (shard_act w.layout d sh x.durable x.volatile k).logs ≡ Some r → (In d members → ⊥)
        → Kept members t (with_shard w d sh (shard_stopped x (kept_record kept r))) (sent ++ envelopes (shard_server d sh) [])
    shard_halts k why false r logs out = shard_crashes out
    shard_halts k why true r logs out =
        none_fits (shard_stopped x (Some r)) refl
        (shard_holds t w.layout (sent ++ envelopes (shard_server d sh) []) d sh shard_dc x (shard_now []) k (due_to [] k why) (shard_stopped x (Some r)) (ap (λ (o : Option Record). applied shard_applied x.durable o) (sym logs))
        (λ q i. absurd (⊎_elim (λ j. j) (λ j. j) i))) out

    pub shard_wakes : (In d members → ⊥)
        → Kept members t (with_shard w d sh (shard_after (shard_started x.log) (shard_catches d new_shard_volatile))) (sent ++ envelopes (shard_server d sh) (shard_catches d new_shard_volatile).sends)
    shard_wakes out =
        let ms : Posts = (shard_catches d new_shard_volatile).sends in
        let f = shard_now ms in
        let y : ShardNode = shard_after (shard_started x.log) (shard_catches d new_shard_volatile) in
        let same = calm.shard_replays d sh x there in
        let g : ShardFits t w.layout (sent ++ envelopes (shard_server d sh) ms) d sh y =
        record {
          parts = λ p i. f.parts p (subst (λ (z : ShardDurable). In (t, p) z.parts) same i);
          finished = λ o is. f.finished o (ap (λ (z : ShardDurable). found nat_cmp z.finished t) (sym same) ∙ is);
          marks = λ k i. absurd (⊎_elim (λ j. j) (λ j. j) i);
        } in
        shard_changes members t w sent kept d sh x y ms there (shard_says_fit t w.layout (sent ++ envelopes (shard_server d sh) ms) d sh shard_dc y g Catches tt) g (λ m. absurd (out m))
