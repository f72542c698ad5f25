-- At a member's shard t's prepare passes the test, and nobody takes a lock of t away.
use Rattle.std.proofs.Common.{◌≡◌, ℕ, ◌≤◌, List, [], ◌∷◌, refl, sym, ◌∙◌, subst, Bool, true, false, Option, Some, None, inl, inr, ⊎_elim, true≢false}
use Rattle.std.specs.Prelude.{◌||◌, ◌==◌}
use Rattle.std.specs.declared.cmp.Ordering.{Ordering}
use Rattle.std.specs.declared.cmp.Ordering.TheVariants.{Less, Equal, Greater}
use Rattle.std.specs.Ordering.{nat_cmp, is_eq, ordering_then}
use Rattle.std.specs.FinMap.{nat_cmp-IsAntisymmetric, slice_cmp-IsAntisymmetric}
use Rattle.rc_ids.specs.Tables.{In, found, member}
use Rattle.rc_ids.specs.Texts.{key_cmp}
use Rattle.rc_ids.specs.Cluster.{shard_of}
use Rattle.rc_ids.specs.declared.names.Party.{Party}
use Rattle.rc_body.specs.declared.entry.Entry.{Entry}
use Rattle.rc_body.specs.declared.decision.Decision.{Decision}
use Rattle.rc_body.specs.declared.decision.Decision.TheVariants.{Commit}
use Rattle.rc_msg.specs.declared.msg.Envelope.{Envelope}
use Rattle.rc_msg.specs.declared.msg.Msg.TheVariants.{ReadAsk, Propose, Prepare}
use Rattle.rc_record.specs.ShardState.{version_at, shard_applied}
use Rattle.rc_record.specs.declared.record.Record.{Record}
use Rattle.rc_protocol.specs.Messages.{shard_server}
use Rattle.rc_protocol.specs.Shard.{Mark, mark_cmp, test}
use Rattle.rc_protocol.specs.Client.{Client, Slot, KeyRead, NotRead, UnderWay, Complete, entry_of, body_of, version_read}
use Rattle.rc_protocol.specs.Acts.{NodeCause, Came as Comes, Catches, Takes, shard_act}
use Rattle.rc_protocol.specs.Nodes.{ShardNode, applied, shard_after}
use Rattle.rc_runs.specs.declared.event.Event.{Event}
use Rattle.rc_runs.specs.World.{Parties, shard_at}
use Rattle.rc_claims.specs.Quiet.{HasNone}
use Rattle.rc_agreement.proofs.Cases.{never, nat_dec}
use Rattle.rc_agreement.proofs.Tables.{RisesFrom, in_map, put_same, to_equal}
use Rattle.rc_agreement.proofs.Ballots.{Late, commit_is}
use Rattle.rc_agreement.proofs.ClientSlots.{slot_in}
use Rattle.rc_serial_order.proofs.KeyFacts.{in_filtered}
use Rattle.rc_causes.proofs.Moves.{ShardWhy}
use Rattle.rc_quiet.proofs.Parts.{Sent, IsDone}
use Rattle.rc_quiet.proofs.Ending.{in_message}
use Rattle.rc_quiet.proofs.MemberShards.{in_found, writes_has, Unheld, passes, Passes, Taken}
use Rattle.rc_quiet.proofs.Kept.{Kept}

-- MARKS: a member of the set stands in it
mark_is : (a b : Mark) → is_eq (mark_cmp a b) ≡ true → a ≡ b
mark_is a b e = go (key_cmp a.0 b.0) refl e
  where
    go : (o : Ordering) → key_cmp a.0 b.0 ≡ o → is_eq (ordering_then o (nat_cmp a.1 b.1)) ≡ true → a ≡ b
    go Less at f = absurd (true≢false (sym f))
    go Greater at f = absurd (true≢false (sym f))
    go Equal at f =
        let k : a.0 ≡ b.0 = slice_cmp-IsAntisymmetric nat_cmp-IsAntisymmetric a.0 b.0 at in
        let n : a.1 ≡ b.1 = nat_cmp-IsAntisymmetric a.1 b.1 (to_equal (nat_cmp a.1 b.1) f) in
        λ i. (k i, n i)

in_marks : (m : Mark) (ms : List Mark) → member mark_cmp ms m ≡ true → In m ms
in_marks m [] e = absurd (true≢false (sym e))
in_marks m (y ∷ ys) e = go (in_marks m ys) (is_eq (mark_cmp m y)) refl e
  where
    go : (member mark_cmp ys m ≡ true → In m ys) → (b : Bool) → is_eq (mark_cmp m y) ≡ b → (b || member mark_cmp ys m) ≡ true → In m (y ∷ ys)
    go rest true at f = inl (sym (mark_is m y at))
    go rest false at f = inr (rest f)

pub not_member : (m : Mark) (ms : List Mark) → (In m ms → ⊥) → member mark_cmp ms m ≡ false
not_member m ms n = go (member mark_cmp ms m) refl
  where
    go : (b : Bool) → member mark_cmp ms m ≡ b → b ≡ false
    go true e = absurd (n (in_marks m ms e))
    go false e = refl

-- what is complete has the version that its entry says
version_of : (r : KeyRead) → IsDone r → (version : ℕ) × (value : Option (List ℕ)) × (r ≡ Complete version value) × (version_read r ≡ version)
version_of (Complete v y) h = (v, y, refl, refl)
version_of NotRead h = absurd h
version_of (UnderWay p gs) h = absurd h

module _ (members : List ℕ) (t : ℕ) (w : Parties) (sent : List Envelope) (e : Event) (kept : Kept members t w sent) (keys : List (List ℕ))
    (has_keys : (x : Client) (s : Slot) → found nat_cmp w.clients t ≡ Some x → In s x.slots → In s.key keys)
    (client : (from to : Party) (k : List ℕ) → Sent sent from to (ReadAsk t k) → (x : Client) × (found nat_cmp w.clients t ≡ Some x))
    (proposer : (from to : Party) (o : Decision) → Sent sent from to (Propose t 0 o) → (x : Client) × (found nat_cmp w.clients t ≡ Some x))
    (d sh : ℕ) (x : ShardNode) (m : In d members) (there : shard_at w d sh ≡ Some x) (rises : RisesFrom 0 x.durable.parts)
    (unprepared : (u : ℕ) (p : List Entry) → found nat_cmp x.durable.parts u ≡ Some p → (u ≡ t → ⊥) → HasNone keys p) where
  -- nobody is prepared with a key of t, while t itself is not
  pub unheld : (k : List ℕ) → In k keys → found nat_cmp x.durable.parts t ≡ None → Unheld t x.durable x.volatile k
  unheld k i none u p j =
      let f = (in_found 0 x.durable.parts u p rises j).1 in
      ⊎_elim (λ (same : u ≡ t). never p (sym none ∙ subst (λ (n : ℕ). found nat_cmp x.durable.parts n ≡ Some p) same f)) (λ n. unprepared u p f n k i) (nat_dec u t)

  pub not_lost : (k : List ℕ) → member mark_cmp x.volatile.lost (k, t) ≡ false
  not_lost k = not_member (k, t) x.volatile.lost (kept.lost d sh x k m there)

  -- what t asked of it is one of its keys
  pub asked_key : (k : List ℕ) → (from to : Party) → Sent sent from to (ReadAsk t k) → In k keys
  asked_key k from to i =
      let y = client from to k i in
      let h = (kept.said y.0 y.1).asks from to k i in
      let s = slot_in k y.0.slots h.slot h.at in
      subst (λ (q : List ℕ). In q keys) s.1 (has_keys y.0 h.slot y.1 s.0)

  module _ (fresh : (y : Client) (s : Slot) (version : ℕ) (value : Option (List ℕ)) → found nat_cmp w.clients t ≡ Some y → In s y.slots → found nat_cmp x.durable.finished t ≡ None → s.read ≡ Complete version value → version_at x.durable.rows s.key ≤ version) where
    prepare_passes : (from : Party) (p : List Entry) → Sent sent from (shard_server d sh) (Prepare t p) → found nat_cmp x.durable.finished t ≡ None → found nat_cmp x.durable.parts t ≡ None → test x.durable x.volatile t p ≡ None
    prepare_passes from p i unfinished unparted =
        let h = kept.fits _ i refl in
        let y = proposer _ _ _ h.own.1.1 in
        let said = (kept.said y.0 y.1).proposed _ _ (Commit h.body) h.own.1.1 in
        let body : h.body ≡ body_of y.0.slots = commit_is h.body (body_of y.0.slots) said.0 in
        passes t x.durable x.volatile p (λ f j. entry y.0 y.1 said.1 f (subst (In f) body (in_filtered (λ (g : Entry). shard_of w.layout g.key == h.shard) f h.body (subst (In f) h.is j)).0))
      where
        entry : (y : Client) → found nat_cmp w.clients t ≡ Some y → Late y.phase → (f : Entry) → In f (body_of y.slots) → Unheld t x.durable x.volatile f.key × (member mark_cmp x.volatile.lost (f.key, t) ≡ false) × (version_at x.durable.rows f.key ≤ f.version)
        entry y is late f j =
            let s = in_map entry_of f y.slots j in
            let v = version_of s.0.read ((kept.shape y is).complete late s.0 s.1) in
            subst (λ (g : Entry). Unheld t x.durable x.volatile g.key × (member mark_cmp x.volatile.lost (g.key, t) ≡ false) × (version_at x.durable.rows g.key ≤ g.version)) s.2
            (unheld s.0.key (has_keys y s.0 is s.1) unparted, not_lost s.0.key, subst (λ (n : ℕ). version_at x.durable.rows s.0.key ≤ n) (sym v.3) (fresh y s.0 v.0 v.1 is s.1 unfinished v.2))

    pub prepares_pass : (k : NodeCause) → ShardWhy sent e d sh k → Passes t w.layout d sh x.durable x.volatile k
    prepares_pass (Comes from (Prepare u p)) why = λ is. prepare_passes why.1 p (subst (λ (n : ℕ). Sent sent why.1 (shard_server d sh) (Prepare n p)) is (in_message sent why.0 _ why.3))
    prepares_pass Catches why = tt
    prepares_pass (Takes u) why = tt
    prepares_pass (Comes from _) why = tt

    -- at the next moment nobody is prepared with a key of t either
    pub none_taken : (k : NodeCause) → ((z : ShardNode) (u : ℕ) (p : List Entry) → z ≡ shard_after x (shard_act w.layout d sh x.durable x.volatile k) → found nat_cmp z.durable.parts u ≡ Some p → (u ≡ t → ⊥) → HasNone keys p)
        → (q : List ℕ) → Taken t w.layout d sh x.durable x.volatile q (shard_act w.layout d sh x.durable x.volatile k) → ⊥
    none_taken k later q taken =
        let mark = (kept.shards d sh x there).marks q (inl taken.plain) in
        let held : found nat_cmp (shard_after x (shard_act w.layout d sh x.durable x.volatile k)).durable.parts taken.tx ≡ Some taken.part =
        subst (λ (r : Option Record). found nat_cmp (applied shard_applied x.durable r).parts taken.tx ≡ Some taken.part) (sym taken.logged) (put_same taken.tx taken.part x.durable.parts) in
        true≢false (sym taken.writes_it ∙ writes_has q taken.part (later _ taken.tx taken.part refl held taken.other q (asked_key q _ _ mark.1)))
