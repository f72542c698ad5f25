-- What is known at the end of a quiet stretch.
use Rattle.std.proofs.Common.{◌≡◌, ℕ, ◌≤◌, List, [], ◌∷◌, refl, sym, ap, ◌∙◌, subst, Bool, true, false, Some, inl, inr, true≢false, arith}
use Rattle.std.specs.Prelude.{◌&&◌, ◌==◌}
use Rattle.std.specs.List.{list_any, list_all}
use Rattle.std.specs.Ordering.{nat_cmp}
use Rattle.rc_ids.specs.Tables.{In, found, member, up_to}
use Rattle.rc_ids.specs.Cluster.{Layout, is_dc, is_shard, is_quorum, shard_of}
use Rattle.rc_ids.proofs.QuorumFacts.{quorum_laws, in-up_to}
use Rattle.rc_ids.specs.declared.names.Outcome.TheVariants.{Commit as Committed}
use Rattle.rc_ids.specs.declared.names.Party.{Party}
use Rattle.rc_body.specs.Bodies.{touches, touched}
use Rattle.rc_body.specs.declared.entry.Entry.{Entry}
use Rattle.rc_body.specs.declared.decision.Decision.TheVariants.{Commit as CommitOf}
use Rattle.rc_msg.specs.declared.msg.Msg.TheVariants.{ReadAsk, Prepare}
use Rattle.rc_protocol.specs.Messages.{coordinator, shard_server}
use Rattle.rc_protocol.specs.Coordinator.{GatherState, has_all}
use Rattle.rc_protocol.specs.Client.{Client, Slot, Open, is_open, is_under_way, KeyRead, UnderWay, NotRead, Complete, grants_of, granted_by, entry_of, body_of}
use Rattle.rc_protocol.specs.Nodes.{CoordNode, ShardNode}
use Rattle.rc_runs.specs.World.{World, coord_at, shard_at}
use Rattle.rc_runs.specs.Refusals.{Happening, run}
use Rattle.rc_claims.specs.Quiet.{IsQuiet, AreFew, AreDelivered, HasCommitted, keys_of, shards_of}
use Rattle.rc_agreement.proofs.Tables.{in_map}
use Rattle.rc_agreement.proofs.Lists.{any_of, any_some}
use Rattle.rc_agreement.proofs.Places.{dc_range}
use Rattle.rc_agreement.proofs.Ballots.{commit_is}
use Rattle.rc_agreement.proofs.ClientSlots.{slot_in}
use Rattle.rc_causes.proofs.ReadFits.{Fits, ClientFits}
use Rattle.rc_serial_order.proofs.KeyFacts.{filter_in, in_filtered}
use Rattle.rc_quiet.proofs.Parts.{Sent, HasListed}
use Rattle.rc_quiet.proofs.Stretches.{end_in}
use Rattle.rc_quiet.proofs.Steps.{Holds, Moment}
use Rattle.rc_quiet.proofs.MemberGathers.{touched_range, touched_shard}
use Rattle.rc_quiet.proofs.QuietMoments.{Known as Premises, member_there, member_dc, moment, holds_last}
use Rattle.rc_quiet.proofs.Ending.{Known, ends}
use Rattle.rc_quiet.proofs.Few.{Spoken, few}

-- some item fails a test that not all pass
not_all : (p : ℕ → Bool) (xs : List ℕ) → list_all p xs ≡ false → (x : ℕ) × In x xs × (p x ≡ false)
not_all p [] h = absurd (cc)
not_all p (x ∷ xs) h = go (not_all p xs) (p x) refl h
  where
    go : (list_all p xs ≡ false → (y : ℕ) × In y xs × (p y ≡ false)) → (b : Bool) → p x ≡ b → (b && list_all p xs) ≡ false → (y : ℕ) × In y (x ∷ xs) × (p y ≡ false)
    go rest false is k = (x, inl refl, is)
    go rest true is k = let r = rest k in (r.0, inr r.1, r.2)

missing_of : (c : Layout) (g : GatherState) → has_all c g ≡ false → (sh : ℕ) × (touches c g.body sh ≡ true) × (member nat_cmp g.yes sh ≡ false)
missing_of c g h =
    let r = not_all (member nat_cmp g.yes) (touched c g.body) h in
    (r.0, (in_filtered (touches c g.body) r.0 (up_to c.shards) r.1).1, r.2)

-- a read that is under way has grants of no quorum
few_of : (c : Layout) (x : Client) → ClientFits c x → (s : Slot) → In s x.slots → is_under_way s.read ≡ true → is_quorum c (granted_by (grants_of s.read)) ≡ false
few_of c x f s i w = by s.read (f.each s i) w
  where
    by : (r : KeyRead) → Fits c (is_open x.phase) s.write r → is_under_way r ≡ true → is_quorum c (granted_by (grants_of r)) ≡ false
    by NotRead h w = absurd (true≢false (sym w))
    by (UnderWay p gs) h w = h.0
    by (Complete v y) h w = absurd (true≢false (sym w))

module _ (c : Layout) (w : World) (members : List ℕ) (t : ℕ) (hs : List Happening) (quiet : IsQuiet w members t hs) (premises : Premises c w members t hs)
    (x : Client) (is : found nat_cmp (run w hs).parties.clients t ≡ Some x) (shut : is_open x.phase ≡ false) (fits : ClientFits (run w hs).parties.layout x)
    (same_layout : (run w hs).parties.layout ≡ w.parties.layout)
    (finished : (d sh : ℕ) (y : CoordNode) (z : ShardNode) → In d members → coord_at (run w hs).parties d ≡ Some y → shard_at (run w hs).parties d sh ≡ Some z → found nat_cmp z.durable.finished t ≡ Some Committed → HasListed t y)
    (shard_there : (d sh : ℕ) → is_dc (run w hs).parties.layout d ≡ true → is_shard (run w hs).parties.layout sh ≡ true → (z : ShardNode) × (shard_at (run w hs).parties d sh ≡ Some z)) where
  later : World
  later = run w hs

  abbrev l : Layout
  l = (run w hs).parties.layout

  h : Holds members t (run w hs).parties (run w hs).sent (run w hs).delivered
  h = holds_last c w members t hs quiet premises

  last : Moment members t (keys_of (run w hs) t) (run w hs).parties
  last = moment c w members t hs quiet premises (run w hs) (end_in w hs)

  not_open : x.phase ≡ Open → ⊥
  not_open e = true≢false (sym (ap is_open e) ∙ shut)

  pub known_last : Known members t (run w hs) x
  known_last =
      record {
        is = is;
        shape = h.kept.shape x is;
        apart = last.apart t x is;
        few = few_of (run w hs).parties.layout x fits;
        said = h.kept.said x is;
        fits = h.kept.fits;
        nodes = h.kept.coords;
        counted = λ p b d o came. h.counted x p b d o is came;
        kept = λ p e version k value came. h.grants x p e version k value is came;
        answered = λ p d sh k m came. h.answered x p d sh k is m came;
        goes = h.goes;
        yes = h.yes;
        never_no = h.kept.never_no;
        finished = finished;
        quorum = subst (λ (q : Layout). is_quorum q members ≡ true) (sym same_layout) quiet.quorum;
        laws = quorum_laws (run w hs).parties.layout last.layout;
        dcs = member_dc c w members t hs quiet premises (run w hs) (end_in w hs);
        coords = λ d m. let y = member_there c w members t hs quiet premises (run w hs) (end_in w hs) d m in (y.0, y.1);
        shards = λ d sh body m touch. shard_there d sh (member_dc c w members t hs quiet premises (run w hs) (end_in w hs) d m) (touched_shard (run w hs).parties.layout last.layout body sh touch);
        missing = missing_of (run w hs).parties.layout;
        begun = not_open;
      }

  pub committed_last : AreDelivered (run w hs) members t → HasCommitted (run w hs) t
  committed_last all = ends members t (run w hs) x known_last all

  -- OF WHAT IS SPOKEN
  key_last : (s : Slot) → In s x.slots → In s.key (keys_of (run w hs) t)
  key_last s i = last.has_keys x s is i

  asked_key : (from to : Party) (k : List ℕ) → Sent (run w hs).sent from to (ReadAsk t k) → In k (keys_of (run w hs) t)
  asked_key from to k i =
      let b = (h.kept.said x is).asks from to k i in
      let s = slot_in k x.slots b.slot b.at in
      subst (λ (q : List ℕ). In q (keys_of (run w hs) t)) s.1 (key_last b.slot s.0)

  -- a shard that the body touches has a key of it
  touched_in : (body : List Entry) (sh : ℕ) → body ≡ body_of x.slots → touches (run w hs).parties.layout body sh ≡ true → In sh (shards_of (run w hs) t)
  touched_in body sh same touch =
      let r = touched_range (run w hs).parties.layout last.layout body sh touch in
      let low : 1 ≤ sh = r.0 in
      let high : sh ≤ (run w hs).parties.layout.shards = r.1 in
      let e = any_of (λ (e : Entry). shard_of (run w hs).parties.layout e.key == sh) body touch in
      let s = in_map entry_of e.0 x.slots (subst (In e.0) same e.1) in
      let key : s.0.key ≡ e.0.key = ap (λ (z : Entry). z.key) s.2 in
      filter_in (λ (n : ℕ). list_any (λ (k : List ℕ). shard_of (run w hs).parties.layout k == n) (keys_of (run w hs) t)) sh (up_to (run w hs).parties.layout.shards)
      (in-up_to (run w hs).parties.layout.shards sh low (omega (arith, high)))
      (any_some (λ (k : List ℕ). shard_of (run w hs).parties.layout k == sh) (keys_of (run w hs) t) e.0.key (subst (λ (q : List ℕ). In q (keys_of (run w hs) t)) key (key_last s.0 s.1)) e.2)

  prepared_in : (from : Party) (d sh : ℕ) (p : List Entry) → Sent (run w hs).sent from (shard_server d sh) (Prepare t p) → In sh (shards_of (run w hs) t)
  prepared_in from d sh p i =
      let f = h.kept.fits _ i refl in
      let to_it : shard_server d sh ≡ shard_server f.dc f.shard = f.to_it in
      let n : f.shard ≡ sh = (cc) in
      let o = ((h.kept.said x is).proposed _ _ (CommitOf f.body) f.own.1.1).0 in
      subst (λ (k : ℕ). In k (shards_of (run w hs) t)) n (touched_in f.body f.shard (commit_is f.body (body_of x.slots) o) f.touched)

  spoken_last : Spoken t (run w hs)
  spoken_last =
      record {
        asks = λ from d sh k i. asked_key from (shard_server d sh) k i;
        grants = λ d sh e version k value to i. asked_key _ _ k (h.kept.fits _ i refl).2;
        prepares = prepared_in;
        answers = λ d sh n reason to i.
            let f = h.kept.fits _ i refl in
            let from_it : shard_server d sh ≡ shard_server f.dc n = f.from_it in
            let same : n ≡ sh = (cc) in
            subst (λ (k : ℕ). In k (shards_of (run w hs) t)) same (prepared_in _ f.dc n f.part f.asked);
        votes = λ d u b e o i.
            let f = h.kept.fits _ i refl in
            let from_it : coordinator d ≡ coordinator e = f.0 in
            let same : e ≡ d = (cc) in
            let r = dc_range (run w hs).parties.layout e f.5 in
            let low : 1 ≤ e = r.0 in
            let high : e ≤ (run w hs).parties.layout.dcs = r.1 in
            subst (λ (k : ℕ). In k (up_to (run w hs).parties.layout.dcs)) same (in-up_to (run w hs).parties.layout.dcs e low (omega (arith, high)));
      }

  pub few_last : AreFew (run w hs) members t
  few_last = few members t (run w hs) spoken_last
