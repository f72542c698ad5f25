-- The prepares of a commit at the touched shards: each passes its test and holds its part. And the finishes: the rows follow the map.
use Rattle.std.proofs.Common.{◌≡◌, ℕ, ◌+◌, ◌*◌, ◌≤◌, List, [], ◌∷◌, refl, sym, ap, ◌∙◌, subst, arith, Bool, true, false, Option, Some, None, inl, inr}
use Rattle.std.specs.Prelude.{filter, not, if◌then◌else◌, nat_lt, is_some, length}
use Rattle.std.proofs.lemmas.Bool.{le-ltb, eq-eqb}
use Rattle.std.specs.Ordering.{nat_cmp}
use Rattle.rc_ids.specs.Tables.{In, found}
use Rattle.rc_ids.specs.Cluster.{Layout, shard_of}
use Rattle.rc_ids.specs.declared.names.Outcome.TheVariants.{Commit as Committed}
use Rattle.rc_body.specs.Bodies.{part, touches}
use Rattle.rc_body.specs.declared.entry.Entry.{Entry}
use Rattle.rc_body.specs.declared.reason.Reason.{Reason}
use Rattle.rc_body.specs.declared.decision.Decision.TheVariants.{Commit}
use Rattle.rc_msg.specs.declared.msg.Msg.TheVariants.{Prepare, Prepared, Finish}
use Rattle.rc_msg.specs.declared.msg.Envelope.{Envelope}
use Rattle.rc_record.specs.ShardState.{version_at, value_at, set_rows}
use Rattle.rc_record.specs.declared.record.Record.TheVariants.{Prepared as PartPrepared, Finished}
use Rattle.rc_protocol.specs.Messages.{coordinator, shard_server}
use Rattle.rc_serial.specs.OneMap.{Map, body_applied}
use Rattle.rc_protocol.specs.Shard.{ShardAct, Mark, first_reason, locked, lost_by, stale, test, preempted, cleared, is_taken, answers}
use Rattle.rc_protocol.specs.Nodes.{CoordNode, ShardNode, shard_after}
use Rattle.rc_protocol.specs.Client.{Client}
use Rattle.rc_runs.specs.World.{Parties, envelopes}
use Rattle.rc_calm_batches.proofs.Passes.{Turns, each}
use Rattle.rc_calm_batches.proofs.Sizes.{Ready, log_bytes, bytes_end, most_frame}
use Rattle.rc_calm_batches.proofs.Stages.{AtRest, in_filter}
use Rattle.rc_calm_batches.proofs.Acting.{Stage, shard_act}
use Rattle.rc_calm_batches.proofs.Rounds.{Which, to_true, to_false, which_true, which_false, shards_turn}
use Rattle.rc_calm_batches.proofs.Puts.{put_other, nat_same, nat_eq_of}
use Rattle.rc_calm_batches.proofs.Rows.{Fits, fits_version, Agree, rows_follow, no_part, in_part}
use Rattle.rc_calm_batches.proofs.ReadDrains.{length_both}
use Rattle.rc_calm_batches.proofs.Stands.{voted, not_over, not_this}

-- a prepared part of t, and no marks
pub record Holds (c : Layout) (m : Map) (over : List ℕ) (t : ℕ) (body : List Entry) (s : ℕ) (x : ShardNode) : Type 0 where
  pub up : x.up ≡ true
  pub parts : x.durable.parts ≡ (t, part c s body) ∷ []
  pub version : (k : List ℕ) → shard_of c k ≡ s → version_at x.durable.rows k ≡ version_at m k
  pub value : (k : List ℕ) → shard_of c k ≡ s → value_at x.durable.rows k ≡ value_at m k
  pub finished : (u : ℕ) → (In u over → ⊥) → found nat_cmp x.durable.finished u ≡ None
  pub lost : x.volatile.lost ≡ []
  pub waiting : x.volatile.waiting ≡ []
  pub plain : x.volatile.plain ≡ []
  pub bytes : log_bytes x.log ≤ most_frame * (2 * length over + 1)

abbrev nothing : Option Reason
nothing = None

no_reason : (reason : Entry → Option Reason) (es : List Entry) → ((e : Entry) → In e es → reason e ≡ None) → first_reason reason es ≡ None
no_reason reason [] h = refl
no_reason reason (e ∷ es) h = let now = h e (inl refl) in let more = no_reason reason es (λ f i. h f (inr i)) in rw (now, more)

-- marks of t alone
abbrev Own : ℕ → List Mark → Type 0
Own t ms = (n : Mark) → In n ms → n.1 ≡ t

all_cleared : (t : ℕ) (ms : List Mark) → Own t ms → cleared ms t ≡ []
all_cleared t [] h = refl
all_cleared t (n ∷ ms) h = let e = eq-eqb n.1 t (h n (inl refl)) in let more = all_cleared t ms (λ k i. h k (inr i)) in rw (e, more)

none_taken : (t : ℕ) (p : List Entry) (ms : List Mark) → Own t ms → filter (is_taken t p) ms ≡ []
none_taken t p [] h = refl
none_taken t p (n ∷ ms) h = let e = eq-eqb n.1 t (h n (inl refl)) in let more = none_taken t p ms (λ k i. h k (inr i)) in rw (e, more)

module _ (b : Parties) (m : Map) (over : List ℕ) (t : ℕ) (body : List Entry) (keys : List (List ℕ)) (fresh : Ready over t body) (fits : Fits m body) where
  abbrev c : Layout
  c = b.layout

  abbrev pub prepare : ℕ → ℕ → Envelope
  prepare d s = record { from = coordinator d; to = shard_server d s; msg = Prepare t (part c s body) }

  abbrev pub answer : ℕ → ℕ → Envelope
  answer d s = record { from = shard_server d s; to = coordinator d; msg = Prepared t s None }

  abbrev pub finish : ℕ → ℕ → Envelope
  finish d s = record { from = coordinator d; to = shard_server d s; msg = Finish t (Commit (part c s body)) }

  abbrev pub Still : ℕ → ℕ → ShardNode → Type 0
  Still d s x = AtRest c m over t keys s x

  -- the touched ones hold their part
  abbrev pub Held : ℕ → ℕ → ShardNode → Type 0
  Held d s x = Which (touches c body s) (Holds c m over t body s x) (AtRest c m over t keys s x)

  -- PREPARES
  not_locked : (e : Entry) → locked [] e ≡ None
  not_locked e = go (is_some e.write)
    where
      go : (v : Bool) → (if v then nothing else nothing) ≡ nothing
      go true = refl
      go false = refl

  passes : (s : ℕ) (x : ShardNode) → AtRest c m over t keys s x → test x.durable x.volatile t (part c s body) ≡ None
  passes s x r =
      let p = r.parts in
      let l = r.lost in
      let a = no_reason (locked []) (part c s body) (λ e i. not_locked e) in
      let d = no_reason (lost_by [] t) (part c s body) (λ e i. refl) in
      let v = no_reason (stale x.durable.rows) (part c s body) (λ e i. fine e (fits_version m body fits e (in_filter _ e body i)) (r.version e.key (in_part c s body e i))) in
      rw (p, l, a, d, v)
    where
      fine : (e : Entry) → e.version ≡ version_at m e.key → version_at x.durable.rows e.key ≡ version_at m e.key → stale x.durable.rows e ≡ None
      fine e h i = let k : nat_lt e.version (version_at x.durable.rows e.key) ≡ false = le-ltb e.version (version_at x.durable.rows e.key) (omega (arith, h, i)) in rw k

  abbrev prepared_act : ℕ → ℕ → ShardNode → ShardAct
  prepared_act d s x = record { logs = Some (PartPrepared t (part c s body)); after = preempted x.volatile t (part c s body); sends = answers d s t None }

  prepare_is : (d s : ℕ) (x : ShardNode) → AtRest c m over t keys s x → shard_act b d s (prepare d s) x ≡ prepared_act d s x
  prepare_is d s x r =
      let f = r.finished t fresh.new in
      let p : found nat_cmp x.durable.parts t ≡ None = ap (λ (z : List (ℕ × List Entry)). found nat_cmp z t) r.parts in
      let z = passes s x r in
      rw (f, p, z)

  own : (s : ℕ) (x : ShardNode) → AtRest c m over t keys s x → Own t x.volatile.plain
  own s x r n i = (r.plain n i).0

  holds_now : (d s : ℕ) (x : ShardNode) → AtRest c m over t keys s x → Holds c m over t body s (shard_after x (prepared_act d s x))
  holds_now d s x r = record {
    up = r.up;
    parts = let p = r.parts in rw p;
    version = r.version;
    value = r.value;
    finished = r.finished;
    lost = let n = none_taken t (part c s body) x.volatile.plain (own s x r) in let l = r.lost in rw (n, l);
    waiting = let w = r.waiting in rw w;
    bytes = let h = r.bytes in let a = fresh.prepared c s in let e = bytes_end x.log (PartPrepared t (part c s body)) in omega (arith, h, a, e);
    plain = all_cleared t (filter (λ (n : Mark). not (is_taken t (part c s body) n)) x.volatile.plain) (λ n i. own s x r n (in_filter _ n x.volatile.plain i));
  }

  module _ (C : ℕ → CoordNode → Type 0) (y : Client) (o : List (ℕ × List Entry)) where
    pub prepares_turn : Turns (Stage b t C Still y o) (each c.dcs (λ d. each c.shards (λ s. if touches c body s then prepare d s ∷ [] else [])))
        (Stage b t C Held y o) (each c.dcs (λ d. each c.shards (λ s. if touches c body s then answer d s ∷ [] else []))) []
    prepares_turn =
        shards_turn b t y C o (touches c body) Still Held prepare (λ d s. answer d s ∷ []) (λ d s. refl)
        (λ d s x d1 d2 s1 s2 yes r. (
          r.up,
          to_true (touches c body s) _ _ yes (subst (λ (a : ShardAct). Holds c m over t body s (shard_after x a)) (sym (prepare_is d s x r)) (holds_now d s x r)),
          ap (λ (a : ShardAct). envelopes (shard_server d s) a.sends) (prepare_is d s x r),
        ))
        (λ d s x far r. to_false (touches c body s) _ _ far r)

  -- FINISHES: what is at rest now is so for every next transaction
  module _ (u : ℕ) (among : (k : List ℕ) → In k keys → touches c body (shard_of c k) ≡ true) where
    abbrev pub next_map : Map
    next_map = body_applied m body

    abbrev pub Anew : ℕ → ℕ → ShardNode → Type 0
    Anew d s x = AtRest c next_map (voted c over t body) u [] s x

    untouched : (s : ℕ) (x : ShardNode) → touches c body s ≡ false → AtRest c m over t keys s x → AtRest c next_map (voted c over t body) u [] s x
    untouched s x far r = record {
      up = r.up;
      parts = r.parts;
      version = a.version;
      value = a.value;
      finished = λ v n. r.finished v (not_over c over t body v n);
      lost = r.lost;
      waiting = r.waiting;
      bytes = let h = r.bytes in let l = length_both over (t ∷ []) in omega (arith, h, l);
      plain = λ n i. let z = r.plain n i in absurd (let k = among n.0 z.1 in let w = ap (touches c body) z.2 in let v : true ≡ false = sym k ∙ (w ∙ far) in cc);
    }
      where
        a : Agree c s x.durable.rows next_map
        a = subst (λ (p : List Entry). Agree c s (set_rows x.durable.rows p) next_map) (no_part c s body far) (rows_follow c s body x.durable.rows m (record { version = r.version; value = r.value }) fits)

    finish_says : (d s : ℕ) (x : ShardNode) → Holds c m over t body s x → (shard_act b d s (finish d s) x).sends ≡ []
    finish_says d s x r = let f = r.finished t fresh.new in let w = r.waiting in rw (f, w)

    anew : (d s : ℕ) (x : ShardNode) → Holds c m over t body s x → AtRest c next_map (voted c over t body) u [] s (shard_after x (shard_act b d s (finish d s) x))
    anew d s x r =
        let f = r.finished t fresh.new in
        let p = r.parts in
        let same = nat_same t in
        let a = rows_follow c s body x.durable.rows m (record { version = r.version; value = r.value }) fits in
        let l = r.lost in let w = r.waiting in let n = r.plain in
        record {
          up = r.up;
          parts = rw (f, f, p, same);
          version = rw (f, f) a.version;
          value = rw (f, f) a.value;
          finished = λ v new. rw (f, f) (put_other nat_cmp nat_same nat_eq_of x.durable.finished t v Committed (not_this c over t body v new) ∙ r.finished v (not_over c over t body v new));
          lost = rw (f, l);
          waiting = rw (f, w);
          bytes = let h = r.bytes in let a' = fresh.finished c s in let e = bytes_end x.log (Finished ((t, Commit (part c s body)) ∷ [])) in let l = length_both over (t ∷ []) in rw f (omega (arith, h, a', e, l));
          plain = rw (f, n, w) (λ k i. absurd i);
        }

    module _ (C : ℕ → CoordNode → Type 0) (y : Client) (o : List (ℕ × List Entry)) where
      pub finishes_turn : Turns (Stage b t C Held y o) (each c.dcs (λ d. each c.shards (λ s. if touches c body s then finish d s ∷ [] else [])))
          (Stage b t C Anew y o) (each c.dcs (λ d. each c.shards (λ s. if touches c body s then [] else []))) []
      finishes_turn =
          shards_turn b t y C o (touches c body) Held Anew finish (λ d s. []) (λ d s. refl)
          (λ d s x d1 d2 s1 s2 yes w.
          let r = which_true (touches c body s) _ _ yes w in (
            r.up,
            anew d s x r,
            let e = finish_says d s x r in rw e,
          ))
          (λ d s x far w. untouched s x far (which_false (touches c body s) _ _ far w))
