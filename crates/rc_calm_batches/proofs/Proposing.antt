-- The proposals of a commit at each coordinator in order: it asks the touched shards, and votes at once where there is none.
use Rattle.std.proofs.Common.{◌≡◌, ℕ, suc, ◌≤◌, List, [], ◌∷◌, ◌++◌, refl, sym, ap, ◌∙◌, subst, Bool, true, false, Some}
use Rattle.std.specs.Prelude.{if◌then◌else◌, nat_le, ◌&&◌, not}
use Rattle.std.specs.List.{list_any}
use Rattle.std.specs.Ordering.{nat_cmp}
use Rattle.rc_ids.specs.Tables.{member}
use Rattle.rc_ids.specs.Cluster.{Layout}
use Rattle.rc_ids.specs.declared.names.Outcome.TheVariants.{Commit as Committed}
use Rattle.rc_body.specs.Bodies.{part, touches, touched}
use Rattle.rc_body.specs.declared.entry.Entry.{Entry}
use Rattle.rc_body.specs.declared.decision.Decision.TheVariants.{Commit}
use Rattle.rc_msg.specs.declared.msg.Msg.TheVariants.{Propose, Prepare, Voted}
use Rattle.rc_msg.specs.declared.msg.Envelope.{Envelope}
use Rattle.rc_record.specs.declared.record.Record.TheVariants.{Accepted}
use Rattle.rc_protocol.specs.Messages.{client_of, coordinator, shard_server, one, to_each}
use Rattle.rc_protocol.specs.Client.{Client}
use Rattle.rc_protocol.specs.Coordinator.{CoordAct, new_volatile, coord_says, accepts, gathers_on, has_all, prepare_to, vote}
use Rattle.rc_protocol.specs.Nodes.{CoordNode, ShardNode, coord_after, is_vote}
use Rattle.rc_runs.specs.Votes.{is_listed, ordered}
use Rattle.rc_runs.specs.World.{Parties, envelopes}
use Rattle.rc_calm_batches.proofs.Passes.{Turns, each}
use Rattle.rc_calm_batches.proofs.Sizes.{Ready}
use Rattle.rc_calm_batches.proofs.Quorums.{IsLeast}
use Rattle.rc_calm_batches.proofs.ReadDrains.{env_both, env_each, same_each}
use Rattle.rc_calm_batches.proofs.Coords.{Coords}
use Rattle.rc_calm_batches.proofs.Acting.{Stage, coord_act}
use Rattle.rc_calm_batches.proofs.Rounds.{Which, coords_map, coords_turn}
use Rattle.rc_calm_batches.proofs.Voters.{order_at, order_step}
use Rattle.rc_calm_batches.proofs.Stands.{gather, at_work, Idles, Gathers, HasVote, Counts, says, votes_now}

-- where a record is left by a vote, the order is what it was before or has the transaction
pub orders_vote : (c : Layout) (over : List ℕ) (t q : ℕ) (body : List Entry) (base : List (ℕ × List Entry)) (new : is_listed base t ≡ false) (least : IsLeast c 1 c.dcs q)
    (Old New : CoordNode → Type 0) → ((x : CoordNode) → Old x → list_any (is_vote Committed t 0) x.log ≡ false) → ((x : CoordNode) → New x → HasVote c over t body x)
    → (i : ℕ) (cs : List CoordNode) → suc i ≤ c.dcs → Coords c (λ d x. Which (nat_le d (suc i)) (New x) (Old x)) cs
    → ordered c cs [] (order_at c t q body base new least i) (Some (Accepted t 0 (Commit body))) ≡ order_at c t q body base new least (suc i)
orders_vote c over t q body base new least Old New before after i cs le all =
    order_step c t q body base new least i cs le (coords_map c (λ d x. Which (nat_le d (suc i)) (New x) (Old x)) (λ d x. list_any (is_vote Committed t 0) x.log ≡ nat_le d (suc i)) cs (λ d x d1 d2 w. go x (nat_le d (suc i)) w) all)
  where
    go : (x : CoordNode) (v : Bool) → Which v (New x) (Old x) → list_any (is_vote Committed t 0) x.log ≡ v
    go x true w = after x w
    go x false w = before x w

module _ (b : Parties) (over : List ℕ) (t : ℕ) (body : List Entry) (fresh : Ready over t body) where
  abbrev c : Layout
  c = b.layout

  abbrev pub propose : ℕ → Envelope
  propose d = record { from = client_of t; to = coordinator d; msg = Propose t 0 (Commit body) }

  abbrev pub prepare : ℕ → ℕ → Envelope
  prepare d s = record { from = coordinator d; to = shard_server d s; msg = Prepare t (part c s body) }

  -- the vote of d, to each coordinator and to the client
  abbrev pub ballot : ℕ → ℕ → Envelope
  ballot d e = record { from = coordinator d; to = coordinator e; msg = Voted t 0 d (Commit body) }

  abbrev pub told : ℕ → Envelope
  told d = record { from = coordinator d; to = client_of t; msg = Voted t 0 d (Commit body) }

  abbrev pub votes_of : ℕ → List Envelope
  votes_of d = each c.dcs (λ e. ballot d e ∷ []) ++ told d ∷ []

  pub votes_said : (d : ℕ) → envelopes (coordinator d) (vote c d t 0 (Commit body)) ≡ votes_of d
  votes_said d =
      env_both (coordinator d) (to_each c.dcs (λ e. one (coordinator e) (Voted t 0 d (Commit body)))) (one (client_of t) (Voted t 0 d (Commit body)))
      ∙ ap (λ (z : List Envelope). z ++ told d ∷ []) (env_each (coordinator d) c.dcs (λ e. one (coordinator e) (Voted t 0 d (Commit body))))

  abbrev pub prepares_of : ℕ → List Envelope
  prepares_of d = each c.shards (λ s. if touches c body s then prepare d s ∷ [] else [])

  prepares_said : (d : ℕ) → envelopes (coordinator d) (to_each c.shards (prepare_to c d t (gather c over t body []))) ≡ prepares_of d
  prepares_said d = env_each (coordinator d) c.shards (prepare_to c d t (gather c over t body [])) ∙ same_each c.shards _ _ (λ s s1. go s (touches c body s))
    where
      go : (s : ℕ) (v : Bool) → envelopes (coordinator d) (if v && not (member nat_cmp [] s) then one (shard_server d s) (Prepare t (part c s body)) else []) ≡ (if v then record { from = coordinator d; to = shard_server d s; msg = Prepare t (part c s body) } ∷ [] else [])
      go s true = refl
      go s false = refl

  propose_is : (d : ℕ) (x : CoordNode) → Idles c over t body x → coord_act b d (propose d) x ≡ gathers_on c d new_volatile t (gather c over t body [])
  propose_is d x r = let o = r.outcome t fresh.new in let p = r.promise t fresh.new in let a = r.accepted t fresh.new in let v = r.volatile in rw (o, p, a, v)

  module _ (S : ℕ → ℕ → ShardNode → Type 0) (y : Client) (base : List (ℕ × List Entry)) where
    -- some shard is touched
    pub proposes_turn : has_all c (gather c over t body []) ≡ false
        → Turns (Stage b t (λ d x. Idles c over t body x) S y base) (each c.dcs (λ d. propose d ∷ [])) (Stage b t (λ d x. Gathers c over t body [] x) S y base) (each c.dcs prepares_of) []
    proposes_turn some =
        coords_turn b t y S (λ d x. Idles c over t body x) (λ d x. Gathers c over t body [] x) (λ i. base) propose prepares_of (λ d. refl)
        (λ d x d1 d2 r. (
          r.up,
          subst (λ (a : CoordAct). Gathers c over t body [] (coord_after x a)) (sym (is d x r)) (says c over t body x new_volatile (at_work c over t body [] 0) (to_each c.shards (prepare_to c d t (gather c over t body []))) r),
          ap (λ (a : CoordAct). envelopes (coordinator d) a.sends) (is d x r) ∙ prepares_said d,
          ap (λ (a : CoordAct). a.spent) (is d x r),
        ))
        (λ i x cs le r all. ap (λ (a : CoordAct). ordered c cs [] base a.logs) (is (suc i) x r))
      where
        is : (d : ℕ) (x : CoordNode) → Idles c over t body x → coord_act b d (propose d) x ≡ coord_says (at_work c over t body [] 0) (to_each c.shards (prepare_to c d t (gather c over t body [])))
        is d x r = propose_is d x r ∙ rw some

    -- none is
    pub lonely_turn : (none : touched c body ≡ []) (q : ℕ) (new : is_listed base t ≡ false) (least : IsLeast c 1 c.dcs q)
        → Turns (Stage b t (λ d x. Idles c over t body x) S y (order_at c t q body base new least 0)) (each c.dcs (λ d. propose d ∷ []))
        (Stage b t (λ d x. Counts c over t body 0 x) S y (order_at c t q body base new least c.dcs)) (each c.dcs votes_of) []
    lonely_turn none q new least =
        coords_turn b t y S (λ d x. Idles c over t body x) (λ d x. Counts c over t body 0 x) (order_at c t q body base new least) propose votes_of (λ d. refl)
        (λ d x d1 d2 r. (
          r.up,
          subst (λ (a : CoordAct). Counts c over t body 0 (coord_after x a)) (sym (is d x r)) (touched c body, (votes_now c over t body d x new_volatile (at_work c over t body (touched c body) 0) fresh r).0, (votes_now c over t body d x new_volatile (at_work c over t body (touched c body) 0) fresh r).1),
          ap (λ (a : CoordAct). envelopes (coordinator d) a.sends) (is d x r) ∙ votes_said d,
          ap (λ (a : CoordAct). a.spent) (is d x r),
        ))
        (λ i x cs le r all.
        ap (λ (a : CoordAct). ordered c cs [] (order_at c t q body base new least i) a.logs) (is (suc i) x r)
        ∙ orders_vote c over t q body base new least (λ x. Idles c over t body x) (λ x. Counts c over t body 0 x) (λ x r. r.unvoted t fresh.new) (λ x r. r.2) i cs le all)
      where
        is : (d : ℕ) (x : CoordNode) → Idles c over t body x → coord_act b d (propose d) x ≡ accepts c d (at_work c over t body (touched c body) 0) t 0 (Commit body)
        is d x r = propose_is d x r ∙ rw none
