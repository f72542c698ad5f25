-- How a coordinator takes the proposal of t, and a yes for it, where it has promised no higher ballot.
use Rattle.std.proofs.Common.{◌≡◌, ℕ, zero, suc, ◌≤◌, List, [], ◌∷◌, refl, sym, ap, ◌∙◌, subst, Bool, true, false, cond, Option, Some, None, ◌⊎◌, inl, inr, ⊎_elim, true≢false, max, arith}
use Rattle.std.specs.Prelude.{not, ◌&&◌, ◌==◌, nat_lt}
use Rattle.std.specs.Ordering.{nat_cmp}
use Rattle.std.proofs.lemmas.Bool.{eqb-true}
use Rattle.rc_ids.specs.Tables.{In, found, member, added, maybe, up_to}
use Rattle.rc_ids.specs.Cluster.{Layout, IsLayout, is_shard, shard_of}
use Rattle.rc_ids.proofs.QuorumFacts.{in-member, member-in}
use Rattle.rc_body.specs.Bodies.{part, touches}
use Rattle.rc_body.specs.declared.entry.Entry.{Entry}
use Rattle.rc_body.specs.declared.decision.Decision.{Decision}
use Rattle.rc_body.specs.declared.decision.Decision.TheVariants.{Commit}
use Rattle.rc_msg.specs.declared.msg.Msg.TheVariants.{Prepare, Voted, Decided}
use Rattle.rc_record.specs.CoordState.{CoordDurable, promise_of, outcome_of as listed_outcome}
use Rattle.rc_protocol.specs.Messages.{shard_server, client_of, one, to_each, to_all}
use Rattle.rc_protocol.specs.Coordinator.{CoordVolatile, CoordAct, GatherState, coord_stays, coord_says, proposer, vote, has_all, prepare_to, gathers_on, gather_at, accepted_at, on_propose, waiting_gather, said_yes, with_yes, on_prepared}
use Rattle.rc_agreement.proofs.Cases.{on_cond, on_maybe, some_is, never}
use Rattle.rc_agreement.proofs.Tables.{in_right, in_either, put_same, added_has}
use Rattle.rc_agreement.proofs.Lists.{any_of}
use Rattle.rc_agreement.proofs.Sends.{EachTo, to_none}
use Rattle.rc_serial_order.proofs.KeyFacts.{in_filtered}
use Rattle.rc_serial_order.proofs.Bodies.{touched_by}
use Rattle.rc_quiet.proofs.ClientRows.{in_each}
use Rattle.rc_quiet.proofs.MemberRows.{NoPrepare, Knows, TellsVote, knows}

-- SHARDS
in_up : (n k : ℕ) → In k (up_to n) → (1 ≤ k) × (k ≤ n)
in_up zero k i = absurd i
in_up (suc n) k i =
    ⊎_elim
    (λ (j : In k (up_to n)). let r = in_up n k j in let a = r.0 in let b = r.1 in (a, omega (arith, b)))
    (λ (j : (suc n ≡ k) ⊎ ⊥). ⊎_elim (λ (e : suc n ≡ k). (omega (arith, e), omega (arith, e))) (λ z. absurd z) j)
    (in_either k (up_to n) (suc n ∷ []) i)

shard_is : (c : Layout) (sh : ℕ) → 1 ≤ sh → sh ≤ c.shards → is_shard c sh ≡ true
shard_is c sh low high = grind arith

pub touched_range : (c : Layout) → IsLayout c → (body : List Entry) (sh : ℕ) → touches c body sh ≡ true → (1 ≤ sh) × (sh ≤ c.shards)
touched_range c lay body sh is =
    let e = any_of (λ (e : Entry). shard_of c e.key == sh) body is in
    let n : shard_of c e.0.key ≡ sh = eqb-true (shard_of c e.0.key) sh e.2 in
    let i = (in_filtered (touches c body) (shard_of c e.0.key) (up_to c.shards) (touched_by c lay body e.0 e.1)).0 in
    in_up c.shards sh (subst (λ (k : ℕ). In k (up_to c.shards)) n i)

pub touched_shard : (c : Layout) → IsLayout c → (body : List Entry) (sh : ℕ) → touches c body sh ≡ true → is_shard c sh ≡ true
touched_shard c lay body sh is = let r = touched_range c lay body sh is in shard_is c sh r.0 r.1

module _ (t : ℕ) (c : Layout) (lay : IsLayout c) (d : ℕ) (s : CoordDurable) (v : CoordVolatile) (low : promise_of s.promises t ≡ 0) (zeros : (g : GatherState) → found nat_cmp v.gathers t ≡ Some g → g.ballot ≡ 0) where
  tells : (b : ℕ) (o : Decision) → b ≡ 0 → In (client_of t, Voted t 0 d o) (vote c d t b o)
  tells b o e = in_right (client_of t, Voted t 0 d o) (to_all c (Voted t b d o)) (one (client_of t) (Voted t b d o)) (inl (λ i. (client_of t, Voted t (e i) d o)))

  not_refused : (b : ℕ) → b ≡ 0 → nat_lt b (promise_of s.promises t) ≡ true → ⊥
  not_refused b e lt = true≢false (sym (subst (λ (z : ℕ × ℕ). nat_lt z.0 z.1 ≡ true) (λ i. (e i, low i)) lt))

  -- A PROPOSAL COMES
  -- its shards are asked, and some of them wait
  pub record Asks (a : CoordAct) : Type 0 where
    pub gather : GatherState
    pub is : found nat_cmp a.after.gathers t ≡ Some gather
    pub waits : has_all c gather ≡ false
    pub asked : (sh : ℕ) → touches c gather.body sh ≡ true → (member nat_cmp gather.yes sh ≡ true) ⊎ In (shard_server d sh, Prepare t (part c sh gather.body)) a.sends
    pub was : (h : GatherState) → found nat_cmp v.gathers t ≡ Some h → (gather.yes ≡ h.yes) × (gather.body ≡ h.body)

  abbrev Proposed : CoordAct → Type 0
  Proposed a = Knows t c d s v a ⊎ (TellsVote t c d s v a ⊎ Asks a)

  abbrev gather : List Entry → GatherState
  gather body = gather_at v t 0 body

  gather_zero : (body : List Entry) → (gather_at v t 0 body).ballot ≡ 0
  gather_zero body = on_maybe (λ (g : GatherState). g.ballot ≡ 0) (found nat_cmp v.gathers t) _ _ (λ _. refl) (λ g is. ap (λ (z : ℕ). max z 0) (zeros g is))

  gather_was : (body : List Entry) (h : GatherState) → found nat_cmp v.gathers t ≡ Some h → ((gather_at v t 0 body).yes ≡ h.yes) × ((gather_at v t 0 body).body ≡ h.body)
  gather_was body h is = on_maybe (λ (g : GatherState). (g.yes ≡ h.yes) × (g.body ≡ h.body)) (found nat_cmp v.gathers t) _ _ (λ none. never h (sym none ∙ is))
      (λ g at. let e : g ≡ h = some_is g h (sym at ∙ is) in (ap (λ (z : GatherState). z.yes) e, ap (λ (z : GatherState). z.body) e))

  asks_shard : (g : GatherState) (sh : ℕ) → touches c g.body sh ≡ true → (member nat_cmp g.yes sh ≡ true) ⊎ In (shard_server d sh, Prepare t (part c sh g.body)) (to_each c.shards (prepare_to c d t g))
  asks_shard g sh is = go (member nat_cmp g.yes sh) refl
    where
      go : (b : Bool) → member nat_cmp g.yes sh ≡ b → (b ≡ true) ⊎ In (shard_server d sh, Prepare t (part c sh g.body)) (to_each c.shards (prepare_to c d t g))
      go true e = inl refl
      go false e =
          let r = touched_range c lay g.body sh is in
          inr (in_each c.shards sh (prepare_to c d t g) (shard_server d sh, Prepare t (part c sh g.body)) r.0 r.1
          (subst (λ (w : Bool × Bool). In (shard_server d sh, Prepare t (part c sh g.body)) (cond (w.0 && not w.1) (one (shard_server d sh) (Prepare t (part c sh g.body))) [])) (λ i. (sym is i, sym e i)) (inl refl)))

  gathers_row : (body : List Entry) → Proposed (gathers_on c d v t (gather_at v t 0 body))
  gathers_row body =
      on_cond Proposed (has_all c (gather_at v t 0 body)) _ _
      (λ _. inr (inl (Commit (gather body).body, tells (gather body).ballot (Commit (gather body).body) (gather_zero body))))
      (λ no. inr (inr (record { gather = gather body; is = put_same t (gather body) v.gathers; waits = no; asked = asks_shard (gather body); was = gather_was body })))

  pub propose_row : (body : List Entry) → Proposed (on_propose c d s v t 0 (Commit body))
  propose_row body =
      on_maybe Proposed (listed_outcome s.outcomes t) _ _
      (λ _. on_cond Proposed (nat_lt 0 (promise_of s.promises t)) _ _
      (λ lt. absurd (not_refused 0 refl lt))
      (λ _. on_maybe Proposed (accepted_at (found nat_cmp s.accepted t) 0) _ _ (λ _. gathers_row body) (λ old _. inr (inl (old, tells 0 old refl)))))
      (λ out is. inl (knows t c d s v (coord_says v (one (proposer c t 0) (Decided t out))) out is))

  -- A SHARD SAYS YES
  module _ (h : GatherState) (held : found nat_cmp v.gathers t ≡ Some h) (some_wait : has_all c h ≡ false) (sh : ℕ) where
    pub record Hears (a : CoordAct) : Type 0 where
      pub gather : GatherState
      pub is : found nat_cmp a.after.gathers t ≡ Some gather
      pub waits : has_all c gather ≡ false
      pub body : gather.body ≡ h.body
      pub more : (n : ℕ) → member nat_cmp h.yes n ≡ true → member nat_cmp gather.yes n ≡ true
      pub now : touches c h.body sh ≡ true → member nat_cmp gather.yes sh ≡ true
      pub none : EachTo (NoPrepare t) a.sends

    abbrev Answered : CoordAct → Type 0
    Answered a = Knows t c d s v a ⊎ (TellsVote t c d s v a ⊎ Hears a)

    -- nothing changes, where the shard is not touched or has said yes
    nothing : (touches c h.body sh ≡ true → member nat_cmp h.yes sh ≡ true) → Answered (coord_stays v)
    nothing f = inr (inr (record { gather = h; is = held; waits = some_wait; body = refl; more = λ n m. m; now = f; none = to_none (NoPrepare t) }))

    yes_row : Answered (said_yes c d s v t (with_yes h sh))
    yes_row =
        on_cond Answered (has_all c (with_yes h sh)) _ _
        (λ _. on_cond Answered (nat_lt h.ballot (promise_of s.promises t)) _ _
        (λ lt. absurd (not_refused h.ballot (zeros h held) lt))
        (λ _. inr (inl (Commit h.body, tells h.ballot (Commit h.body) (zeros h held)))))
        (λ no. inr (inr (record {
          gather = with_yes h sh;
          is = put_same t (with_yes h sh) v.gathers;
          waits = no;
          body = refl;
          more = λ n m. member-in (added nat_cmp h.yes sh) n (added_has n sh h.yes (inr (in-member h.yes n m)));
          now = λ _. member-in (added nat_cmp h.yes sh) sh (added_has sh sh h.yes (inl refl));
          none = to_none (NoPrepare t);
        })))

    waiting_is : listed_outcome s.outcomes t ≡ None → waiting_gather c s v t sh ≡ cond (touches c h.body sh && not (member nat_cmp h.yes sh)) (Some h) None
    waiting_is none = rw (none, held) refl

    not_both : (a b : Bool) → (a && not b) ≡ false → a ≡ true → b ≡ true
    not_both true true e f = refl
    not_both true false e f = absurd (true≢false e)
    not_both false b e f = absurd (true≢false (sym f))

    pub answered_row : Answered (on_prepared c d s v t sh None)
    answered_row = go (listed_outcome s.outcomes t) refl
      where
        go : (o : Option Decision) → listed_outcome s.outcomes t ≡ o → Answered (on_prepared c d s v t sh None)
        go (Some out) is = inl (knows t c d s v (on_prepared c d s v t sh None) out is)
        go None is =
            subst (λ (w : Option GatherState). Answered (maybe w (coord_stays v) (λ g. said_yes c d s v t (with_yes g sh)))) (sym (waiting_is is))
            (on_cond (λ (w : Option GatherState). Answered (maybe w (coord_stays v) (λ g. said_yes c d s v t (with_yes g sh)))) (touches c h.body sh && not (member nat_cmp h.yes sh)) (Some h) None
            (λ _. yes_row) (λ no. nothing (not_both (touches c h.body sh) (member nat_cmp h.yes sh) no)))

    pub guarded_row : Answered (cond (is_shard c sh) (on_prepared c d s v t sh None) (coord_stays v))
    guarded_row = on_cond Answered (is_shard c sh) _ _ (λ _. answered_row) (λ no. nothing (λ is. absurd (true≢false (sym (touched_shard c lay h.body sh is) ∙ no))))
