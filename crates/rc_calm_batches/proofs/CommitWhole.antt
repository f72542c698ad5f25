-- A whole commit by a line of a script: the reads of its unread keys, and the commit. So many deliveries, one line, and all is at rest.
use Rattle.std.proofs.Common.{◌≡◌, ℕ, suc, ◌+◌, ◌-◌, ◌*◌, ◌≤◌, List, [], ◌∷◌, ◌++◌, refl, sym, ap, ◌∙◌, subst, arith, true, false, Some, inl, inr}
use Rattle.std.specs.Prelude.{length, nat_le}
use Rattle.std.specs.Ordering.{nat_cmp}
use Rattle.rc_ids.specs.Tables.{In, found}
use Rattle.rc_ids.specs.Cluster.{Layout, shard_of}
use Rattle.rc_ids.specs.declared.names.Outcome.TheVariants.{Commit as Committed}
use Rattle.rc_body.specs.Bodies.{touches}
use Rattle.rc_body.specs.Spelling.{body_bytes, held_bytes}
use Rattle.rc_body.specs.declared.entry.Entry.{Entry}
use Rattle.rc_body.specs.declared.decision.Decision.TheVariants.{Commit}
use Rattle.rc_msg.specs.declared.msg.Msg.TheVariants.{Propose, ReadCancel, ReadAsk, Granted}
use Rattle.rc_msg.specs.declared.msg.Envelope.{Envelope}
use Rattle.rc_report.specs.declared.line.Line.TheVariants.{Learned}
use Rattle.rc_record.specs.ShardState.{version_at, value_at}
use Rattle.rc_protocol.specs.Messages.{client_of, coordinator, shard_server, one}
use Rattle.rc_serial.specs.OneMap.{Map}
use Rattle.rc_protocol.specs.Client.{Client, Slot, body_of, is_worn}
use Rattle.rc_protocol.specs.Nodes.{CoordNode}
use Rattle.rc_runs.specs.Votes.{is_listed}
use Rattle.rc_runs.specs.World.{Parties, new_start, envelopes, bytes_of}
use Rattle.rc_calm_batches.proofs.Passes.{Drains, after_all, each}
use Rattle.rc_calm_batches.proofs.Sizes.{Ready}
use Rattle.rc_calm_batches.proofs.Weights.{light_each, light_unless, light_some, bytes_both, ask_bytes, cancel_bytes, grant_bytes}
use Rattle.rc_calm_batches.proofs.ReadTurns.{With}
use Rattle.rc_calm_batches.proofs.ReadDrains.{env_each, length_both, length_ones, length_rest}
use Rattle.rc_calm_batches.proofs.Quorums.{IsLeast}
use Rattle.rc_calm_batches.proofs.Coords.{Coords}
use Rattle.rc_calm_batches.proofs.Rows.{Fits}
use Rattle.rc_calm_batches.proofs.Stands.{Idles}
use Rattle.rc_calm_batches.proofs.Slots.{Once, NoneWaits}
use Rattle.rc_calm_batches.proofs.CommitReads.{all_of, among, KeysOnce, Unread, reads_left, all_read, proposed, proposal, asks_to, grants_of, cancels_of, asks_turn_all, cancels_turn_all, grants_all}
use Rattle.rc_calm_batches.proofs.CommitDrains.{drain_next, Proposing, Committed as StandsCommitted, commit_drains, commits_in}
use Rattle.rc_calm_batches.proofs.Proposing.{propose}

length_all : (ks : List (List ℕ)) (n : ℕ) (f : List ℕ → List Envelope) → ((k : List ℕ) → length (f k) ≡ n) → length (all_of ks f) ≡ length ks * n
length_all [] n f h = grind (arith)
length_all (k ∷ ks) n f h = let more = length_all ks n f h in let now = h k in let l = length_both (f k) (all_of ks f) in let z : suc (length ks) * n ≡ n + length ks * n = grind (arith) in omega (arith, more, now, l, z)

all_bytes : (n : ℕ) (ks : List (List ℕ)) (f : List ℕ → List Envelope) → ((k : List ℕ) → In k ks → bytes_of (f k) ≤ n) → bytes_of (all_of ks f) ≤ length ks * n
all_bytes n [] f h = omega arith
all_bytes n (k ∷ ks) f h = let now = h k (inl refl) in let more = all_bytes n ks f (λ j i. h j (inr i)) in let l = bytes_both (f k) (all_of ks f) in let z : suc (length ks) * n ≡ n + length ks * n = grind (arith) in omega (arith, now, more, l, z)

sum_reads : (u n r k : ℕ) → u * n + (u * n + (u * r + k)) ≡ u * (n + (n + r)) + k
sum_reads u n r k = grind (arith)

three : (n q : ℕ) → q ≤ n → n + (n + (n - q)) ≡ 3 * n - q
three n q h = omega (arith, h)

module _ (b : Parties) (m : Map) (over : List ℕ) (t : ℕ) (keys : List (List ℕ)) (x : Client) (there : found nat_cmp b.clients t ≡ Some x) (q : ℕ) (least : IsLeast b.layout 1 b.layout.dcs q)
    (slots : List Slot) (refusals : List ℕ) (once : Once slots) (calm : NoneWaits m slots) (fresh : Ready over t (body_of (all_read b m over t keys x there q least slots refusals once calm)))
    (fits : Fits m (body_of (all_read b m over t keys x there q least slots refusals once calm)))
    (touch : (k : List ℕ) → In k keys → touches b.layout (body_of (all_read b m over t keys x there q least slots refusals once calm)) (shard_of b.layout k) ≡ true)
    (base : List (ℕ × List Entry)) (new : is_listed base t ≡ false) where
  abbrev c : Layout
  c = b.layout

  abbrev N : ℕ
  N = c.dcs

  abbrev final : List Slot
  final = all_read b m over t keys x there q least slots refusals once calm

  abbrev pub body : List Entry
  body = body_of final

  abbrev W : Client → Parties → Type 0
  W = With b m over t keys x there

  abbrev y0 : Client
  y0 = proposed b m over t keys x there q least slots refusals once calm

  abbrev pub Before : Parties → Type 0
  Before = Proposing b m over t body keys fresh fits touch q least final refusals x there base new

  -- all is at rest again, whoever is next
  abbrev pub Rested : ℕ → Parties → Type 0
  Rested = StandsCommitted b m over t body keys fresh fits touch q least final refusals x there base new

  abbrev pub commit_weight : ℕ
  commit_weight = length (body_bytes body) + 30

  abbrev pub count : ℕ
  count = commits_in b m over t body keys fresh fits touch q least final refusals x there base new

  -- keys and values are no longer than a script's
  abbrev pub ShortRows : Type 0
  ShortRows = (k : List ℕ) → In k keys → (length k ≤ 64) × (length (held_bytes (value_at m k)) ≤ 1027)

  -- it read u keys
  pub record CommitOver (es : List Envelope) (u n : ℕ) (p : Parties) : Type 0 where
    pub after : Parties
    pub rests : (u : ℕ) → Rested u after
    pub delivered : List Envelope
    pub drains : Drains p es after (Learned t Committed ∷ []) delivered
    pub bytes : N ≤ 7 → ShortRows → bytes_of delivered ≤ u * 9800 + count * commit_weight
    pub count : length delivered ≡ n

  module _ (start : b.start ≡ new_start) (idle : Coords c (λ d z. Idles c over t body z) b.coords) (committed : b.committed ≡ base) where
    to_stage : (p : Parties) → W y0 p → Before p
    to_stage p h = record {
      layout = h.beside.layout;
      start = h.beside.start ∙ start;
      coords = subst (λ (cs : List CoordNode). Coords c (λ d z. Idles c over t body z) cs) (sym h.beside.coords) idle;
      shards = h.shards;
      clients = h.beside.clients;
      committed = h.beside.committed ∙ committed;
    }

    abbrev proposes : List Envelope
    proposes = envelopes (client_of t) (proposal b m over t keys x there q least slots refusals once calm)

    proposes_are : proposes ≡ each N (λ d. propose b over t body fresh d ∷ [])
    proposes_are = env_each (client_of t) N (λ d. one (coordinator d) (Propose t 0 (Commit body)))

    -- no key is unread
    pub commit_at_once : (p : Parties) → W y0 p → CommitOver proposes 0 count p
    commit_at_once p h =
        let e = commit_drains b m over t body keys fresh fits touch q least final refusals x there base new (W y0) [] (λ r w. record { after = to_stage r w; sends = refl; prints = refl; lasts = tt }) p h in
        let k : 0 + count ≡ count = omega arith in
        record {
          after = e.after;
          rests = e.rests;
          delivered = e.delivered;
          drains = subst (λ (es : List Envelope). Drains p es e.after (Learned t Committed ∷ []) e.delivered) (sym proposes_are) e.drains;
          count = e.count ∙ k;
          bytes = λ few short. let b = e.bytes in let z : 0 * 9800 ≡ 0 = grind (arith) in omega (arith, b, z);
        }

    module _ (k : List ℕ) (ks : List (List ℕ)) (apart : KeysOnce (k ∷ ks)) (unread : (j : List ℕ) → In j (k ∷ ks) → Unread slots j)
        (shards : (j : List ℕ) → In j (k ∷ ks) → In j keys × (1 ≤ shard_of c j) × (shard_of c j ≤ c.shards)) (lasting : is_worn final ≡ false) where
      abbrev kks : List (List ℕ)
      kks = k ∷ ks

      abbrev pub asks_out : List Envelope
      asks_out = all_of kks (asks_to b m over t keys x there q least slots refusals once calm)

      abbrev grants_out : List Envelope
      grants_out = all_of kks (grants_of b m over t keys x there q least slots refusals once calm)

      abbrev cancels_out : List Envelope
      cancels_out = all_of kks (cancels_of b m over t keys x there q least slots refusals once calm)

      abbrev pub y1 : Client
      y1 = reads_left b m over t keys x there q least slots refusals once calm (among kks)

      whole_bytes : N ≤ 7 → ShortRows → (ds : List Envelope) → bytes_of ds ≤ bytes_of cancels_out + count * commit_weight → bytes_of (asks_out ++ (grants_out ++ ds)) ≤ length kks * 9800 + count * commit_weight
      whole_bytes few short ds h =
          let a = all_bytes 700 kks (asks_to b m over t keys x there q least slots refusals once calm) (λ j i. light_some 100 N 7 _ few (light_each 100 N _ (λ d. (ask_bytes t j d (shard_of c j) (short j (shards j i).0).0, tt))) (length_ones N _)) in
          let g = all_bytes 8400 kks (grants_of b m over t keys x there q least slots refusals once calm)
          (λ j i. let r = short j (shards j i).0 in light_some 1200 N 7 _ few (light_each 1200 N _ (λ d. (grant_bytes t j d (shard_of c j) (version_at m j) (value_at m j) r.0 r.1, tt))) (length_ones N _)) in
          let k = all_bytes 700 kks (cancels_of b m over t keys x there q least slots refusals once calm)
          (λ j i. light_some 100 (N - q) 7 _ (omega (arith, few)) (light_each 100 N _ (λ d. light_unless 100 (nat_le d q) _ (cancel_bytes t j d (shard_of c j) (short j (shards j i).0).0))) (length_rest q N _)) in
          let l1 = bytes_both asks_out (grants_out ++ ds) in
          let l2 = bytes_both grants_out ds in
          let z : length kks * 9800 ≡ length kks * 700 + (length kks * 8400 + length kks * 700) = grind (arith) in
          omega (arith, a, g, k, h, l1, l2, z)

      -- some are
      pub commit_with_reads : (p : Parties) → W y1 p → CommitOver asks_out (length kks) (length kks * (3 * N - q) + count) p
      commit_with_reads p h =
          let p1 = after_all p asks_out in
          let p2 = after_all p1 grants_out in
          let z1 = asks_turn_all b m over t keys x there q least slots refusals once calm fresh.new y1 kks shards p h in
          let z2 = grants_all b m over t keys x there q least slots refusals once calm lasting k ks apart unread p1 z1.after in
          let e = commit_drains b m over t body keys fresh fits touch q least final refusals x there base new (W y0) cancels_out
          (λ r w. let v = cancels_turn_all b m over t keys x there q least slots refusals once calm fresh.new y0 kks shards r w in record { after = to_stage _ v.after; sends = v.sends; prints = v.prints; lasts = v.lasts }) p2 z2.after in
          let d2 = drain_next (W y0) p1 grants_out (cancels_out ++ each N (λ d. propose b over t body fresh d ∷ [])) [] (Learned t Committed ∷ []) e.after e.delivered
          (record { after = z2.after; sends = z2.sends ∙ ap (λ (w : List Envelope). cancels_out ++ w) proposes_are; prints = z2.prints; lasts = z2.lasts }) e.drains in
          let d1 = drain_next (W y1) p asks_out grants_out [] (Learned t Committed ∷ []) e.after (grants_out ++ e.delivered) z1 d2 in
          let a = length_all kks N (asks_to b m over t keys x there q least slots refusals once calm) (λ j. length_ones N (λ d. record { from = client_of t; to = shard_server d (shard_of c j); msg = ReadAsk t j })) in
          let g = length_all kks N (grants_of b m over t keys x there q least slots refusals once calm) (λ j. length_ones N (λ d. record { from = shard_server d (shard_of c j); to = client_of t; msg = Granted t j d (version_at m j) (value_at m j) })) in
          let r = length_all kks (N - q) (cancels_of b m over t keys x there q least slots refusals once calm) (λ j. length_rest q N (λ d. record { from = client_of t; to = shard_server d (shard_of c j); msg = ReadCancel t j })) in
          let s = sum_reads (length kks) N (N - q) count in
          let y : length kks * (N + (N + (N - q))) ≡ length kks * (3 * N - q) = ap (λ (w : ℕ). length kks * w) (three N q least.high) in
          let l1 = length_both asks_out (grants_out ++ e.delivered) in let l2 = length_both grants_out e.delivered in let l3 = e.count in
          let total : length (asks_out ++ (grants_out ++ e.delivered)) ≡ length kks * (3 * N - q) + count = omega (arith, a, g, r, s, y, l1, l2, l3) in
          record { after = e.after; rests = e.rests; delivered = asks_out ++ (grants_out ++ e.delivered); drains = d1; count = total; bytes = λ few short. whole_bytes few short e.delivered e.bytes }
