-- A commit and its settle: the commit is learned, and all is at rest with the map that has its writes.
use Rattle.std.proofs.Common.{◌≡◌, ℕ, suc, ◌+◌, ◌-◌, ◌*◌, ◌≤◌, List, [], ◌∷◌, ◌++◌, refl, sym, ap, ◌∙◌, subst, arith, true, false, Option, Some, None, ◌⊎◌, inl, inr, ⊎_elim}
use Rattle.std.specs.Prelude.{length, map}
use Rattle.std.proofs.lemmas.Bool.{ne_eqb}
use Rattle.std.proofs.lemmas.List.{map-append}
use Rattle.std.specs.Ordering.{nat_cmp}
use Rattle.std.specs.BTreeMap.{is_at}
use Rattle.rc_ids.specs.Tables.{Table, In, found, up_to}
use Rattle.rc_ids.specs.Cluster.{Layout, IsLayout, shard_of}
use Rattle.rc_ids.specs.declared.names.Outcome.TheVariants.{Commit as Committed}
use Rattle.rc_body.specs.Bodies.{touches, touched}
use Rattle.rc_body.specs.Spelling.{entry_bytes, body_bytes, held_bytes}
use Rattle.rc_body.specs.declared.entry.Entry.{Entry}
use Rattle.rc_msg.specs.declared.msg.Envelope.{Envelope}
use Rattle.rc_report.specs.declared.line.Line.{Line}
use Rattle.rc_report.specs.declared.line.Line.TheVariants.{Settled, Learned}
use Rattle.rc_record.specs.ShardState.{value_at}
use Rattle.rc_serial.specs.OneMap.{Map, body_applied}
use Rattle.rc_protocol.specs.Messages.{client_of}
use Rattle.rc_protocol.specs.Client.{Client, ClientAct, Slot, Committing, Proposed, client_says, body_of, is_worn, unread_keys, asks_all, do_commit}
use Rattle.rc_protocol.specs.Acts.{Commits}
use Rattle.rc_protocol.specs.Coordinator.{new_volatile}
use Rattle.rc_runs.specs.declared.event.Event.TheVariants.{Commit}
use Rattle.rc_runs.specs.Votes.{is_listed}
use Rattle.rc_runs.specs.Refusals.{most_events}
use Rattle.rc_runs.specs.World.{Parties, with_client, envelopes, bytes_of}
use Rattle.rc_runs.specs.Session.{Session, text_bytes}
use Rattle.rc_runs.specs.Script.{LineDone, by_event, settles}
use Rattle.rc_claims.specs.Calm.{Calm, Touched, written, least_quorum, commit_deliveries}
use Rattle.rc_calm_batches.proofs.Sizes.{Ready}
use Rattle.rc_calm_batches.proofs.Stages.{AtRest}
use Rattle.rc_calm_batches.proofs.Coords.{Coords, CoordIs}
use Rattle.rc_calm_batches.proofs.Quorums.{IsLeast}
use Rattle.rc_calm_batches.proofs.Rows.{Fits}
use Rattle.rc_calm_batches.proofs.Rounds.{coords_map}
use Rattle.rc_calm_batches.proofs.Stands.{Idles}
use Rattle.rc_calm_batches.proofs.ReadTurns.{With}
use Rattle.rc_calm_batches.proofs.ReadDrains.{length_both}
use Rattle.rc_calm_batches.proofs.Slots.{Once, NoneWaits, fills}
use Rattle.rc_calm_batches.proofs.CommitReads.{KeysOnce, reads_left, proposed, proposal, among, asked}
use Rattle.rc_calm_batches.proofs.CommitWhole.{CommitOver, Rested, count as commit_count, commit_at_once, commit_with_reads}
use Rattle.rc_calm.proofs.Room.{SameSizes, drains_sizes}
use Rattle.rc_calm.proofs.Layouts.{layout_least, layout_shard}
use Rattle.rc_calm.proofs.Frames.{ready_is, entry_length, held_length, fewer}
use Rattle.rc_calm.proofs.Versions.{none_worn, version_rises, values_short}
use Rattle.rc_calm.proofs.Unreads.{commit_asks, commit_proposes, unread_once, unread_slot, unread_of}
use Rattle.rc_calm.proofs.Touching.{slots_from, body_from, slots_once, slots_calm, body_is, body_fits, body_touches, in_body, applied_written}
use Rattle.rc_calm.proofs.Touches.{keys_of, keys_in}
use Rattle.rc_calm.proofs.Counts.{commit_takes, unread_count, unread_is}
use Rattle.rc_calm.proofs.Starting.{length_up}
use Rattle.rc_calm.proofs.Allowances.{weight_of, body_weight, times, layout_small, rest_small}
use Rattle.rc_calm.proofs.Clients.{LineLimited, LineActed, client_event, commit_tells}
use Rattle.rc_calm.proofs.Between.{Sane, Peaceful, Between, open_client, set_none, set_count, peaceful_room}
use Rattle.rc_calm.proofs.Costs.{Costs, costs, PairComes, pair_comes}
use Rattle.rc_calm.proofs.OneEvents.{settled_between}

-- who is not in the order
not_listed : (xs : List (ℕ × List Entry)) (t : ℕ) → (In t (map (λ (x : ℕ × List Entry). x.0) xs) → ⊥) → is_listed xs t ≡ false
not_listed [] t n = refl
not_listed (x ∷ xs) t n = let e = ne_eqb x.0 t (λ k. n (inl k)) in let more = not_listed xs t (λ i. n (inr i)) in rw (e, more)

-- the unread keys are of touched ones
unread_touched : (m : Map) (xs : List Touched) (s : Slot) → In s (slots_from m xs) → In s.key (keys_of xs)
unread_touched m [] s i = absurd i
unread_touched m (x ∷ xs) s (inl e) = inl (ap (λ (y : Slot). y.key) e)
unread_touched m (x ∷ xs) s (inr i) = inr (unread_touched m xs s i)

length_map : (m : Map) (xs : List Touched) → length (body_from m xs) ≡ length xs
length_map m [] = refl
length_map m (x ∷ xs) = ap suc (length_map m xs)

-- the map after the commit
abbrev pub committed_map : Calm → Calm
committed_map m = record { rows = body_applied m.rows (map written m.touched); tx = m.tx; touched = []; committed = m.committed ++ m.tx ∷ []; due = 0 }

in_last_of : (u t : ℕ) (xs : List ℕ) → In u (xs ++ t ∷ []) → In u xs ⊎ (t ≡ u)
in_last_of u t [] (inl e) = inr e
in_last_of u t [] (inr i) = absurd i
in_last_of u t (x ∷ xs) (inl e) = inl (inl e)
in_last_of u t (x ∷ xs) (inr i) = ⊎_elim (λ j. inl (inr j)) (λ e. inr e) (in_last_of u t xs i)

module _ (c : Layout) (is_layout : IsLayout c) (m : Calm) (begun : List ℕ) (last : Option ℕ) (z : Session) (h : Between c m begun last false z) where
  abbrev p0 : Parties
  p0 = z.world.parties

  abbrev y0 : Client
  y0 = open_client m.rows m.touched

  abbrev slots : List Slot
  slots = slots_from m.rows m.touched

  abbrev keys : List (List ℕ)
  keys = keys_of m.touched

  abbrev q : ℕ
  q = least_quorum c

  abbrev final : List Slot
  final = fills m.rows (λ k. false) slots

  abbrev body : List Entry
  body = body_of final

  there : found nat_cmp p0.clients m.tx ≡ Some y0
  there = h.parties.client refl

  new : In m.tx m.committed → ⊥
  new = (h.sane.running refl).0

  least : IsLeast p0.layout 1 p0.layout.dcs q
  least = subst (λ (l : Layout). IsLeast l 1 l.dcs q) (sym h.parties.layout) (layout_least c is_layout)

  once : Once slots
  once = slots_once m.rows m.touched h.sane.once

  calm : NoneWaits m.rows slots
  calm = slots_calm m.rows m.touched

  fresh : Ready m.committed m.tx body
  fresh =
      subst (Ready m.committed m.tx) (sym (body_is m.rows m.touched))
      (ready_is m.committed m.tx (body_from m.rows m.touched) new (let l = length_map m.rows m.touched in let f = h.sane.few in omega (arith, l, f))
      (λ e i. let w = in_body m.rows m.touched e i in let g = h.sane.ranges w.0 w.1 in subst (λ (f : Entry). length (entry_bytes f) ≤ 1100) w.2 (entry_length _ g.0 g.1)))

  fits : Fits m.rows body
  fits = subst (Fits m.rows) (sym (body_is m.rows m.touched)) (body_fits m.rows m.touched h.sane.once)

  touch : (k : List ℕ) → In k keys → touches p0.layout body (shard_of p0.layout k) ≡ true
  touch k i = subst (λ (es : List Entry). touches p0.layout es (shard_of p0.layout k) ≡ true) (sym (body_is m.rows m.touched)) (body_touches m.rows p0.layout m.touched k i)

  unlisted : is_listed p0.committed m.tx ≡ false
  unlisted = not_listed p0.committed m.tx (λ i. new (subst (In m.tx) h.parties.order i))

  lasting : is_worn final ≡ false
  lasting = none_worn m.rows m.touched (λ k. let v = h.sane.versions k in let a = h.parties.clients in let b = h.parties.committed in omega (arith, v, a, b))

  -- WHAT STANDS BEFORE: nothing but the client is not as it was
  with_y : (y : Client) → With p0 m.rows m.committed m.tx keys y0 there y (with_client p0 m.tx y)
  with_y y = record {
    beside = record { layout = refl; start = refl; coords = refl; clients = refl; committed = refl };
    shards = λ d s d1 d2 s1 s2. let w = h.parties.shards d s d1 d2 s1 s2 in (w.0, w.1, subst (λ (l : Layout). AtRest l m.rows m.committed m.tx keys s w.0) (sym h.parties.layout) w.2);
  }

  idle : Coords p0.layout (λ d x. Idles p0.layout m.committed m.tx body x) p0.coords
  idle = subst (λ (l : Layout). Coords l (λ d x. CoordIs m.committed m.committed new_volatile x) p0.coords) (sym h.parties.layout) h.parties.coords

  -- AND THEN
  abbrev Over : ℕ → Parties → Type 0
  Over = Rested p0 m.rows m.committed m.tx keys y0 there q least slots [] once calm fresh fits touch p0.committed unlisted

  rows_are : body_applied m.rows body ≡ body_applied m.rows (map written m.touched)
  rows_are = ap (body_applied m.rows) (body_is m.rows m.touched) ∙ applied_written m.rows m.rows m.touched

  then_peace : (y : Client) (r : Parties) → Over m.tx r → SameSizes (with_client p0 m.tx y) r → Peaceful c (committed_map m) begun true r
  then_peace y r w sizes =
      let n = ap length w.clients ∙ set_count (λ k. is_at (nat_cmp m.tx) k) p0.clients _ in
      record {
        layout = w.layout ∙ h.parties.layout;
        start = w.start;
        coords = subst (λ (l : Layout). Coords l (λ d x. CoordIs (m.committed ++ m.tx ∷ []) (m.committed ++ m.tx ∷ []) new_volatile x) r.coords) h.parties.layout (coords_map p0.layout _ (λ d x. CoordIs (m.committed ++ m.tx ∷ []) (m.committed ++ m.tx ∷ []) new_volatile x) r.coords (λ d x d1 d2 k. k.0) w.coords);
        shards = λ d s d1 d2 s1 s2.
            let v = w.shards d s d1 d2 s1 s2 in (
              v.0,
              v.1,
              subst (λ (l : Layout). AtRest l (body_applied m.rows (map written m.touched)) (m.committed ++ m.tx ∷ []) m.tx [] s v.0) h.parties.layout
                  (subst (λ (rows : Map). AtRest p0.layout rows (m.committed ++ m.tx ∷ []) m.tx [] s v.0) rows_are v.2),
            );
        sizes = record { coords = sizes.coords ∙ h.parties.sizes.coords; shards = sizes.shards ∙ h.parties.sizes.shards };
        order = ap (λ (xs : List (ℕ × List Entry)). map (λ (x : ℕ × List Entry). x.0) xs) w.committed ∙ (map-append (λ (x : ℕ × List Entry). x.0) p0.committed ((m.tx, body) ∷ []) ∙ ap (λ (ts : List ℕ). ts ++ m.tx ∷ []) h.parties.order);
        unknown = λ u g. ap (λ (cs : Table ℕ Client). found nat_cmp cs u) w.clients ∙ set_none (λ k. is_at (nat_cmp m.tx) k) (λ k. is_at (nat_cmp u) k) p0.clients _ (h.parties.unknown u g);
        client = λ e. absurd (cc);
        clients = let a = h.parties.clients in omega (arith, a, n);
        count = n ∙ h.parties.count;
        committed = let a = h.parties.committed in let l = length_both m.committed (m.tx ∷ []) in omega (arith, a, n, l);
      }

  then_sane : Sane (committed_map m) begun last true
  then_sane = record {
    once = tt;
    used = λ x i. absurd i;
    few = omega arith;
    ranges = λ x i. absurd i;
    were_begun = λ u i. ⊎_elim (λ j. h.sane.were_begun u j) (λ (e : m.tx ≡ u). subst (λ (t : ℕ). In t begun) e (h.sane.running refl).2) (in_last_of u m.tx m.committed i);
    running = λ e. absurd (cc);
    none = λ e. refl;
    versions = λ k. let a = version_rises m.rows m.touched k h.sane.once in let b = h.sane.versions k in let l = length_both m.committed (m.tx ∷ []) in omega (arith, a, b, l);
    values = values_short m.rows m.touched h.sane.values h.sane.ranges;
    numbers = h.sane.numbers;
    due = refl;
  }

  abbrev pub Then : Session → Type 0
  Then = Between c (committed_map m) begun last true

  abbrev pub now : List Line
  now = Learned m.tx Committed ∷ Settled (commit_deliveries c m.touched) ∷ []

  abbrev d1 : LineDone
  d1 = by_event z (Commit m.tx)

  -- so many deliveries
  pub record CommitComes : Type 0 where
    pub delivered : List Envelope
    pub count : length delivered ≡ commit_deliveries c m.touched
    pub bytes : bytes_of delivered ≤ unread_count m.touched * 9800 + 231 * (weight_of m.touched + 31)
    pub comes : PairComes Then z (costs (1 + length delivered) (length delivered) (bytes_of delivered) (text_bytes now)) now d1 (settles most_events 0 d1.after)

  whole_count : (u : ℕ) → u ≡ length (unread_keys slots) → u * (3 * p0.layout.dcs - q) + commit_count p0 m.rows m.committed m.tx keys y0 there q least slots [] once calm fresh fits touch p0.committed unlisted ≡ commit_deliveries c m.touched
  whole_count u e =
      ap (λ (n : ℕ). n * (3 * p0.layout.dcs - q) + commit_count p0 m.rows m.committed m.tx keys y0 there q least slots [] once calm fresh fits touch p0.committed unlisted) e
      ∙ (ap (λ (l : Layout). length (unread_keys slots) * (3 * l.dcs - q) + (l.dcs + 3 * length (touched l body) * l.dcs + l.dcs * (l.dcs + 1))) h.parties.layout
      ∙ (ap (λ (es : List Entry). length (unread_keys slots) * (3 * c.dcs - q) + (c.dcs + 3 * length (touched c es) * c.dcs + c.dcs * (c.dcs + 1))) (body_is m.rows m.touched)
      ∙ commit_takes c m.rows m.touched h.sane.once h.sane.used))

  few_dcs : p0.layout.dcs ≤ 7
  few_dcs = subst (λ (l : Layout). l.dcs ≤ 7) (sym h.parties.layout) (layout_small c is_layout).0

  short_rows : (k : List ℕ) → In k keys → (length k ≤ 64) × (length (held_bytes (value_at m.rows k)) ≤ 1027)
  short_rows k i = let x = keys_in m.touched k i in (subst (λ (j : List ℕ). length j ≤ 64) x.2 (h.sane.ranges x.0 x.1).0, held_length (value_at m.rows k) (h.sane.values k))

  few_held : length (touched p0.layout body) ≤ 8
  few_held =
      let f = fewer (touches p0.layout body) (up_to p0.layout.shards) in
      let u = length_up p0.layout.shards in
      let s = subst (λ (l : Layout). l.shards ≤ 8) (sym h.parties.layout) (layout_small c is_layout).1 in
      omega (arith, f, u, s)

  body_light : length (body_bytes body) + 30 ≤ weight_of m.touched + 31
  body_light =
      let w = body_weight m.rows m.touched in
      let e : length (body_bytes body) ≡ length (body_bytes (body_from m.rows m.touched)) = ap (λ (es : List Entry). length (body_bytes es)) (body_is m.rows m.touched) in omega (arith, w, e)

  whole_bytes : (u n : ℕ) → u ≡ unread_count m.touched → n ≤ u * 9800 + commit_count p0 m.rows m.committed m.tx keys y0 there q least slots [] once calm fresh fits touch p0.committed unlisted * (length (body_bytes body) + 30)
      → n ≤ unread_count m.touched * 9800 + 231 * (weight_of m.touched + 31)
  whole_bytes u n e h =
      let a : u * 9800 ≡ unread_count m.touched * 9800 = ap (λ (x : ℕ). x * 9800) e in
      let b = times (commit_count p0 m.rows m.committed m.tx keys y0 there q least slots [] once calm fresh fits touch p0.committed unlisted) (length (body_bytes body) + 30) 231 (weight_of m.touched + 31)
      (rest_small p0.layout.dcs (length (touched p0.layout body)) few_dcs few_held) body_light in
      omega (arith, a, b, h)

  -- by the event's act and what it leads to
  comes_by : (act : ClientAct) (es : List Envelope) (u n : ℕ) → do_commit p0.layout m.tx y0 ≡ act → act.refused ≡ None → act.lines ≡ [] → envelopes (client_of m.tx) act.sends ≡ es → n ≡ commit_deliveries c m.touched → u ≡ unread_count m.touched
      → CommitOver p0 m.rows m.committed m.tx keys y0 there q least slots [] once calm fresh fits touch p0.committed unlisted es u n (with_client p0 m.tx act.after) → CommitComes
  comes_by act es u n row fine quiet posts total unread over =
      let peace = then_peace act.after over.after (over.rests m.tx) (drains_sizes (with_client p0 m.tx act.after) es over.after _ over.delivered over.drains) in
      let all : length over.delivered ≡ commit_deliveries c m.touched = over.count ∙ total in
      let event = client_event z m.tx Commits (Commit m.tx) y0 act (commit_tells z m.tx) h.queue h.parties.start there refl refl row fine in
      let same = subst (λ (ls : List Line). LineLimited z (envelopes (client_of m.tx) act.sends) ls d1 ⊎ LineActed z (with_client p0 m.tx act.after) (envelopes (client_of m.tx) act.sends) ls d1) quiet event in
      let told = subst (λ (qs : List Envelope). LineLimited z qs [] d1 ⊎ LineActed z (with_client p0 m.tx act.after) qs [] d1) posts same in
      record {
        delivered = over.delivered;
        count = all;
        bytes = whole_bytes u _ unread (over.bytes few_dcs short_rows);
        comes = subst (λ (k : ℕ). PairComes Then z (costs (1 + length over.delivered) (length over.delivered) (bytes_of over.delivered) (text_bytes (Learned m.tx Committed ∷ Settled k ∷ []))) (Learned m.tx Committed ∷ Settled k ∷ []) d1 (settles most_events 0 d1.after)) all
            (pair_comes Then z (with_client p0 m.tx act.after) es over.after (Learned m.tx Committed ∷ []) over.delivered d1 over.drains h.coords_fit h.shards_fit
            (peaceful_room c (committed_map m) begun true over.after peace) (settled_between c (committed_map m) begun last true over.after then_sane peace) told);
      }

  by_keys : (ks : List (List ℕ)) → unread_keys slots ≡ ks → CommitComes
  by_keys [] e =
      comes_by (client_says (record { phase = Proposed; slots = final; refusals = []; votes = []; outcome = None }) (proposal p0 m.rows m.committed m.tx keys y0 there q least slots [] once calm)) _ 0 _
      (commit_proposes p0.layout m.rows m.tx slots [] once calm e lasting) refl refl refl (let w = whole_count 0 (ap length (sym e)) in let k : 0 * (3 * p0.layout.dcs - q) ≡ 0 = grind (arith) in omega (arith, w, k))
      (ap length (sym e) ∙ unread_is m.rows m.touched h.sane.once h.sane.used)
      (commit_at_once p0 m.rows m.committed m.tx keys y0 there q least slots [] once calm fresh fits touch p0.committed unlisted h.parties.start idle refl (with_client p0 m.tx (proposed p0 m.rows m.committed m.tx keys y0 there q least slots [] once calm))
      (with_y (proposed p0 m.rows m.committed m.tx keys y0 there q least slots [] once calm)))
  by_keys (k ∷ ks) e =
      comes_by (client_says (record { phase = Committing; slots = fills m.rows (among (k ∷ ks)) slots; refusals = []; votes = []; outcome = None }) (asks_all p0.layout m.tx (k ∷ ks))) _ (length (k ∷ ks)) _
      (commit_asks p0.layout m.rows m.tx slots [] once calm k ks e) refl refl (asked p0 m.rows m.committed m.tx keys y0 there q least slots [] once calm (k ∷ ks)) (whole_count (length (k ∷ ks)) (ap length (sym e)))
      (ap length (sym e) ∙ unread_is m.rows m.touched h.sane.once h.sane.used)
      (commit_with_reads p0 m.rows m.committed m.tx keys y0 there q least slots [] once calm fresh fits touch p0.committed unlisted h.parties.start idle refl k ks
      (subst KeysOnce e (unread_once slots once)) (λ j i. unread_slot slots once j (is_unread_key j i)) in_shards lasting
      (with_client p0 m.tx (reads_left p0 m.rows m.committed m.tx keys y0 there q least slots [] once calm (among (k ∷ ks))))
      (with_y (reads_left p0 m.rows m.committed m.tx keys y0 there q least slots [] once calm (among (k ∷ ks)))))
    where
      is_unread_key : (j : List ℕ) → In j (k ∷ ks) → In j (unread_keys slots)
      is_unread_key j i = subst (λ (js : List (List ℕ)). In j js) (sym e) i

      in_shards : (j : List ℕ) → In j (k ∷ ks) → In j keys × (1 ≤ shard_of p0.layout j) × (shard_of p0.layout j ≤ p0.layout.shards)
      in_shards j i =
          let u = unread_of slots j (is_unread_key j i) in
          let w = subst (λ (l : Layout). (1 ≤ shard_of l j) × (shard_of l j ≤ l.shards)) (sym h.parties.layout) (layout_shard c is_layout j) in
          (subst (λ (i : List ℕ). In i keys) u.2 (unread_touched m.rows m.touched u.0 u.1), w.0, w.1)

  pub commit_line : CommitComes
  commit_line = by_keys (unread_keys slots) refl

  abbrev pub commit_costs : Costs
  commit_costs = costs (1 + length commit_line.delivered) (length commit_line.delivered) (bytes_of commit_line.delivered) (text_bytes now)
