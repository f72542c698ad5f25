-- The lines of a calm script after which all is at rest at once: begins, writes, reads of touched keys, orders, and settles of nothing.
use Rattle.std.proofs.Common.{◌≡◌, ℕ, suc, ◌+◌, ◌≤◌, List, [], ◌∷◌, refl, sym, ap, ◌∙◌, subst, arith, Bool, true, false, cond, Option, Some, None, ◌⊎◌, inl, inr, ⊎_elim}
use Rattle.std.specs.Prelude.{length, ◌==◌, if◌then◌else◌}
use Rattle.std.proofs.lemmas.Bool.{eqb-true}
use Rattle.std.specs.Ordering.{nat_cmp, is_eq, match_ordering}
use Rattle.std.specs.declared.cmp.Ordering.{Ordering}
use Rattle.std.specs.declared.cmp.Ordering.TheVariants.{Less, Equal, Greater}
use Rattle.rc_ids.specs.Tables.{Table, In, found, put, maybe}
use Rattle.rc_ids.specs.Cluster.{Layout}
use Rattle.rc_report.specs.declared.fault.Which.{Which}
use Rattle.rc_report.specs.declared.line.Line.{Line}
use Rattle.rc_report.specs.declared.line.Line.TheVariants.{Settled, Order as OrderLine}
use Rattle.rc_protocol.specs.Client.{Client, TooManyKeys, Slot, is_out_of_slots, with_slots, client_stays, client_prints, new_client}
use Rattle.rc_protocol.specs.Acts.{Reads, Writes}
use Rattle.rc_runs.specs.declared.event.Event.TheVariants.{Begin, Read, Write}
use Rattle.rc_runs.specs.Refusals.{most_transactions, most_events}
use Rattle.rc_runs.specs.World.{Parties, order, with_client, with_new_client}
use Rattle.rc_runs.specs.Session.{Session, Limited, text_bytes}
use Rattle.rc_runs.specs.Script.{by_event, by_lines, idle, settles}
use Rattle.rc_claims.specs.Calm.{Calm, Touched, touched_of, touched_set, is_last, with_due, read_line, after_write}
use Rattle.rc_claims.specs.CalmScripts.{has_room}
use Rattle.rc_calm_batches.proofs.Stages.{AtRest}
use Rattle.rc_calm_batches.proofs.Puts.{put_found, put_other, nat_same, nat_eq_of}
use Rattle.rc_calm.proofs.Queue.{Queued}
use Rattle.rc_calm.proofs.Disks.{DisksFit}
use Rattle.rc_calm.proofs.Touching.{OnceTouched}
use Rattle.rc_calm.proofs.Touches.{keys_of, InRange, set_keys, set_once, set_used, set_ranges, set_few, client_room}
use Rattle.rc_calm.proofs.Counts.{Used}
use Rattle.rc_calm.proofs.Commands.{write_is, reads_touched, touched_key}
use Rattle.rc_calm.proofs.Clients.{BeginLimited, BeginActed, client_event, begin_event, read_tells, write_tells}
use Rattle.rc_calm.proofs.Between.{Sane, Peaceful, Between, open_client, with_touched, acted_between, rests_next, peaceful_room}
use Rattle.rc_calm.proofs.Costs.{costs, RoomFor, LimitHit, Stood, Comes, acted_comes, lines_come, settle_comes}

-- the transaction of the line is the open one
pub same_tx : (m : Calm) (begun : List ℕ) (last : Option ℕ) (t : ℕ) → Sane m begun last false → is_last last t ≡ true → m.tx ≡ t
same_tx m begun last t h e =
    let l = (h.running refl).1 in
    eqb-true m.tx t (ap (λ (o : Option ℕ). maybe o false (λ u. u == t)) (sym l) ∙ e)

-- the open transaction has touched more
pub sane_touched : (m : Calm) (begun : List ℕ) (last : Option ℕ) (touched : List Touched) (due : ℕ) → Sane m begun last false → OnceTouched touched → Used touched → length touched ≤ 32 → InRange touched → due ≡ 0
    → Sane (with_due m touched due) begun last false
sane_touched m begun last touched due h once used few ranges zero = record {
  once = once;
  used = used;
  few = few;
  ranges = ranges;
  were_begun = h.were_begun;
  running = h.running;
  none = λ e. absurd (cc);
  versions = h.versions;
  values = h.values;
  numbers = h.numbers;
  due = zero;
}

-- what a settle leaves
pub settled_between : (c : Layout) (m : Calm) (begun : List ℕ) (last : Option ℕ) (is_over : Bool) (r : Parties) → Sane m begun last is_over → Peaceful c m begun is_over r
    → (y : Session) → y.world.parties ≡ r → Queued y.world [] → DisksFit y r → Between c m begun last is_over y
settled_between c m begun last is_over r sane peace y there queue fit = record {
  sane = sane;
  parties = subst (Peaceful c m begun is_over) (sym there) peace;
  queue = queue;
  coords_fit = fit.coords;
  shards_fit = fit.shards;
}

-- BEGIN
put_count : {X : Type 0} (es : Table ℕ X) (k : ℕ) (v : X) → found nat_cmp es k ≡ None → length (put nat_cmp es k v) ≡ suc (length es)
put_count [] k v h = refl
put_count {X = X} (e ∷ es) k v h = go (nat_cmp k e.0) h (put_count es k v)
  where
    go : (o : Ordering) → cond (is_eq o) (Some e.1) (found nat_cmp es k) ≡ None → (found nat_cmp es k ≡ None → length (put nat_cmp es k v) ≡ suc (length es))
        → length (match_ordering o ((k, v) ∷ e ∷ es) ((e.0, v) ∷ es) (e ∷ put nat_cmp es k v)) ≡ suc (suc (length es))
    go Less h more = refl
    go Equal h more = absurd (cc)
    go Greater h more = ap suc (more h)

abbrev pub begun_map : Calm → ℕ → Calm
begun_map m t = record { rows = m.rows; tx = t; touched = []; committed = m.committed; due = 0 }

module _ (c : Layout) (m : Calm) (begun : List ℕ) (last : Option ℕ) (z : Session) (h : Between c m begun last true z) where
  no_keys : keys_of m.touched ≡ []
  no_keys = ap keys_of (h.sane.none refl)

  module _ (t : ℕ) (fresh : In t begun → ⊥) (low : t ≤ 4294967295) where
    unknown : found nat_cmp z.world.parties.clients t ≡ None
    unknown = h.parties.unknown t fresh

    begun_peace : length z.world.parties.clients + 1 ≤ most_transactions → Peaceful c (begun_map m t) (t ∷ begun) false (with_new_client z.world.parties t)
    begun_peace few =
        let n = put_count z.world.parties.clients t new_client unknown in
        record {
          layout = h.parties.layout;
          start = h.parties.start;
          coords = h.parties.coords;
          shards = λ d s d1 d2 s1 s2. let w = h.parties.shards d s d1 d2 s1 s2 in (w.0, w.1, rests_next c m.rows m.committed m.tx t s w.0 (subst (λ (ks : List (List ℕ)). AtRest c m.rows m.committed m.tx ks s w.0) no_keys w.2));
          sizes = record { coords = h.parties.sizes.coords; shards = h.parties.sizes.shards };
          order = h.parties.order;
          unknown = λ u new. put_other nat_cmp nat_same nat_eq_of z.world.parties.clients t u new_client (λ e. new (inl e)) ∙ h.parties.unknown u (λ i. new (inr i));
          client = λ _. put_found nat_cmp nat_same nat_eq_of z.world.parties.clients t new_client;
          clients = omega (arith, n, few);
          count = n ∙ ap suc h.parties.count;
          committed = let a = h.parties.committed in omega (arith, a, n);
        }

    begun_sane : Sane (begun_map m t) (t ∷ begun) (Some t) false
    begun_sane = record {
      once = tt;
      used = λ x i. absurd i;
      few = omega arith;
      ranges = λ x i. absurd i;
      were_begun = λ u i. inr (h.sane.were_begun u i);
      running = λ _. ((λ i. fresh (h.sane.were_begun t i)), refl, inl refl);
      none = λ e. absurd (cc);
      versions = h.sane.versions;
      values = h.sane.values;
      numbers = λ u i. ⊎_elim (λ (e : t ≡ u). omega (arith, e, low)) (λ j. h.sane.numbers u j) i;
      due = refl;
    }

    pub begin_line : ((which : Which) × ((by_event z (Begin t)).halt ≡ Some (Limited which)) × (length begun + 1 ≤ most_transactions → RoomFor z (costs 1 0 0 (text_bytes [])) → ⊥))
        ⊎ Stood (Between c (begun_map m t) (t ∷ begun) (Some t) false) z (costs 1 0 0 (text_bytes [])) [] (by_event z (Begin t))
    begin_line = ⊎_elim
        (λ (l : BeginLimited z (by_event z (Begin t))). inl (
          l.which,
          l.halt,
          λ few r.
              let a = r.events in let b = r.messages in let k = r.bytes in let e = r.text in let n = h.parties.count in
              l.room (omega (arith, few, n)) (omega (arith, a)) (omega (arith, b)) (omega (arith, k)) (omega (arith, e)),
        ))
        (λ (a : BeginActed z t (by_event z (Begin t))).
        ⊎_elim
        (λ (l : LimitHit z (costs 1 0 0 (text_bytes [])) (by_event z (Begin t))). absurd (let o = a.acted.halt in let e = l.halt in cc))
        (λ s. inr s)
        (acted_comes (Between c (begun_map m t) (t ∷ begun) (Some t) false) z (with_new_client z.world.parties t) [] (by_event z (Begin t))
        (λ w. acted_between c (begun_map m t) (t ∷ begun) (Some t) false z (with_new_client z.world.parties t) [] (by_event z (Begin t)) w h.coords_fit h.shards_fit begun_sane (begun_peace a.few)) (inr a.acted)))
        (begin_event z t h.queue h.parties.start unknown)

-- WRITES AND READS of the open transaction
module _ (c : Layout) (m : Calm) (begun : List ℕ) (last : Option ℕ) (z : Session) (h : Between c m begun last false z) (k : List ℕ) (room : has_room m.touched k ≡ true) where
  abbrev y : Client
  y = open_client m.rows m.touched

  out : (if is_out_of_slots y k then Some TooManyKeys else None) ≡ None
  out = let f = client_room m.rows m.touched y k refl room in rw f

  -- the key is written
  module _ (value : List ℕ) (short_key : length k ≤ 64) (short_value : length value ≤ 1024) where
    abbrev one : Touched
    one = record { key = k; is_read = maybe (touched_of m.touched k) false (λ x. x.is_read); write = Some value }

    abbrev then_touched : List Touched
    then_touched = touched_set m.touched one

    written_sane : Sane (with_due m then_touched 0) begun last false
    written_sane =
        sane_touched m begun last then_touched 0 h.sane (set_once m.touched one h.sane.once) (set_used m.touched one h.sane.used (λ _. refl)) (set_few m.touched one h.sane.few room)
        (set_ranges m.touched one h.sane.ranges short_key short_value) refl

    write_now : Comes (Between c (after_write m k value) begun last false) z (costs 1 0 0 (text_bytes [])) [] (by_event z (Write m.tx k value))
    write_now =
        acted_comes (Between c (after_write m k value) begun last false) z (with_client z.world.parties m.tx (open_client m.rows then_touched)) [] (by_event z (Write m.tx k value))
        (λ w. acted_between c (after_write m k value) begun last false z (with_client z.world.parties m.tx (open_client m.rows then_touched)) [] (by_event z (Write m.tx k value)) w h.coords_fit h.shards_fit written_sane
        (with_touched c m begun then_touched z.world.parties (λ j i. set_keys m.touched one j i) h.parties))
        (client_event z m.tx (Writes k value) (Write m.tx k value) y (client_stays (open_client m.rows then_touched)) (write_tells z m.tx k value) h.queue h.parties.start (h.parties.client refl) refl out
        (ap (λ (ss : List Slot). client_stays (with_slots y ss)) (write_is m.rows m.touched k value)) refl)

    pub write_line : (t : ℕ) → is_last last t ≡ true → Comes (Between c (after_write m k value) begun last false) z (costs 1 0 0 (text_bytes [])) [] (by_event z (Write t k value))
    write_line t e = subst (λ (u : ℕ). Comes (Between c (after_write m k value) begun last false) z (costs 1 0 0 (text_bytes [])) [] (by_event z (Write u k value))) (same_tx m begun last t h.sane e) write_now

  -- the key was touched before
  module _ (x : Touched) (old : touched_of m.touched k ≡ Some x) where
    abbrev now : List Line
    now = read_line m k (Some x) ∷ []

    read_now : Comes (Between c (with_due m m.touched 0) begun last false) z (costs 1 0 0 (text_bytes now)) now (by_event z (Read m.tx k))
    read_now =
        acted_comes (Between c (with_due m m.touched 0) begun last false) z (with_client z.world.parties m.tx y) now (by_event z (Read m.tx k))
        (λ w. acted_between c (with_due m m.touched 0) begun last false z (with_client z.world.parties m.tx y) now (by_event z (Read m.tx k)) w h.coords_fit h.shards_fit
        (sane_touched m begun last m.touched 0 h.sane h.sane.once h.sane.used h.sane.few h.sane.ranges refl) (with_touched c m begun m.touched z.world.parties (λ j i. i) h.parties))
        (client_event z m.tx (Reads k) (Read m.tx k) y (client_prints y (read_line m k (Some x))) (read_tells z m.tx k) h.queue h.parties.start (h.parties.client refl) refl out
        (reads_touched m.rows z.world.parties.layout m.tx y m.touched k x refl old (h.sane.used x (touched_key m.rows m.touched k x old).1)) refl)

    pub read_again : (t : ℕ) → is_last last t ≡ true → Comes (Between c (with_due m m.touched 0) begun last false) z (costs 1 0 0 (text_bytes now)) now (by_event z (Read t k))
    read_again t e = subst (λ (u : ℕ). Comes (Between c (with_due m m.touched 0) begun last false) z (costs 1 0 0 (text_bytes now)) now (by_event z (Read u k))) (same_tx m begun last t h.sane e) read_now

-- LINES THAT CHANGE NOTHING
module _ (c : Layout) (m : Calm) (begun : List ℕ) (last : Option ℕ) (is_over : Bool) (z : Session) (h : Between c m begun last is_over z) where
  pub idle_line : Comes (Between c m begun last is_over) z (costs 0 0 0 (text_bytes [])) [] (idle z)
  idle_line = inr (record { halt = refl; prints = refl; there = h; spent = record { events = omega arith; messages = omega arith; bytes = omega arith; text = omega arith } })

  pub order_line : Comes (Between c m begun last is_over) z (costs 0 0 0 (text_bytes (OrderLine m.committed ∷ []))) (OrderLine m.committed ∷ []) (by_lines z (OrderLine (order z.world) ∷ []))
  order_line =
      subst (λ (ts : List ℕ). Comes (Between c m begun last is_over) z (costs 0 0 0 (text_bytes (OrderLine m.committed ∷ []))) (OrderLine m.committed ∷ []) (by_lines z (OrderLine ts ∷ []))) (sym h.parties.order)
      (lines_come (Between c m begun last is_over) z (OrderLine m.committed ∷ []) (λ text. record { sane = h.sane; parties = h.parties; queue = h.queue; coords_fit = h.coords_fit; shards_fit = h.shards_fit }))

  -- a settle of nothing
  pub due_zero : with_due m m.touched 0 ≡ m
  due_zero = ap (with_due m m.touched) (sym h.sane.due)

  pub settle_line : Comes (Between c m begun last is_over) z (costs 0 0 0 (text_bytes (Settled m.due ∷ []))) (Settled m.due ∷ []) (settles most_events 0 z)
  settle_line =
      subst (λ (n : ℕ). Comes (Between c m begun last is_over) z (costs 0 0 0 (text_bytes (Settled n ∷ []))) (Settled n ∷ []) (settles most_events 0 z)) (sym h.sane.due)
      (settle_comes (Between c m begun last is_over) z h.queue
      (let r = peaceful_room c m begun is_over z.world.parties h.parties in record { coords = h.coords_fit; shards = h.shards_fit; coords_room = r.0; shards_room = r.1 })
      (settled_between c m begun last is_over z.world.parties h.sane h.parties))
