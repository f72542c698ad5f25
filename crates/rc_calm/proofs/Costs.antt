-- What lines of a script cost of the counts that limits look at, and what comes of them: a limit is met where there is no room for that,
-- or they are done.
use Rattle.std.proofs.Common.{◌≡◌, ℕ, ◌+◌, ◌≤◌, List, [], ◌∷◌, ◌++◌, refl, sym, ap, subst, arith, Bool, true, false, Some, None, ◌⊎◌, inl, inr, ⊎_elim}
use Rattle.std.specs.Prelude.{Ok, Err, length, nat_lt, if◌then◌else◌}
use Rattle.std.proofs.lemmas.Bool.{le-ltb}
use Rattle.rc_msg.specs.declared.msg.Envelope.{Envelope}
use Rattle.rc_report.specs.declared.fault.Which.{Which}
use Rattle.rc_report.specs.declared.fault.Which.TheVariants.{TextBytes}
use Rattle.rc_report.specs.declared.line.Line.{Line}
use Rattle.rc_report.specs.declared.line.Line.TheVariants.{Settled}
use Rattle.rc_protocol.specs.Nodes.{CoordNode, ShardNode}
use Rattle.rc_runs.specs.World.{Parties, bytes_of}
use Rattle.rc_runs.specs.Refusals.{most_events, most_messages, most_message_bytes}
use Rattle.rc_runs.specs.Devices.{Device}
use Rattle.rc_runs.specs.Session.{Session, Limited, most_text_bytes, text_bytes, with_text}
use Rattle.rc_runs.specs.Script.{LineDone, settles, by_lines, line_done}
use Rattle.rc_calm_batches.proofs.Passes.{Drains, Empty}
use Rattle.rc_calm_batches.proofs.ReadDrains.{length_both}
use Rattle.rc_calm.proofs.Queue.{Queued}
use Rattle.rc_calm.proofs.Settles.{SettledAs, MeetsLimit, drains_all}
use Rattle.rc_calm.proofs.Logs.{Fit, HasRoom}
use Rattle.rc_calm.proofs.Disks.{DisksFit, settles_with_disks}
use Rattle.rc_calm.proofs.Clients.{LineLimited, LineActed}

pub record Costs : Type 0 where
  pub events : ℕ
  pub messages : ℕ
  pub bytes : ℕ
  pub text : ℕ

abbrev pub costs : ℕ → ℕ → ℕ → ℕ → Costs
costs events messages bytes text = record { events = events; messages = messages; bytes = bytes; text = text }

pub record RoomFor (z : Session) (k : Costs) : Type 0 where
  pub events : z.world.events + k.events ≤ most_events
  pub messages : length z.world.sent + k.messages ≤ most_messages
  pub bytes : z.world.bytes + k.bytes ≤ most_message_bytes
  pub text : z.text + k.text ≤ most_text_bytes

pub record Spends (z y : Session) (k : Costs) : Type 0 where
  pub events : y.world.events ≤ z.world.events + k.events
  pub messages : length y.world.sent ≤ length z.world.sent + k.messages
  pub bytes : y.world.bytes ≤ z.world.bytes + k.bytes
  pub text : y.text ≤ z.text + k.text

-- WHAT COMES OF A LINE
pub record LimitHit (z : Session) (k : Costs) (d : LineDone) : Type 0 where
  pub which : Which
  pub halt : d.halt ≡ Some (Limited which)
  pub room : RoomFor z k → ⊥

pub record Stood (B : Session → Type 0) (z : Session) (k : Costs) (now : List Line) (d : LineDone) : Type 0 where
  pub halt : d.halt ≡ None
  pub prints : d.lines ≡ now
  pub there : B d.after
  pub spent : Spends z d.after k

abbrev pub Comes : (Session → Type 0) → Session → Costs → List Line → LineDone → Type 0
Comes B z k now d = LimitHit z k d ⊎ Stood B z k now d

-- of a line of one event that sends nothing
pub acted_comes : (B : Session → Type 0) (z : Session) (p : Parties) (now : List Line) (d : LineDone) → (LineActed z p [] now d → B d.after) → LineLimited z [] now d ⊎ LineActed z p [] now d
    → Comes B z (costs 1 0 0 (text_bytes now)) now d
acted_comes B z p now d f (inl l) = inl (record {
  which = l.which;
  halt = l.halt;
  room = λ r. let a = r.events in let b = r.messages in let c = r.bytes in let e = r.text in l.room (omega (arith, a)) (omega (arith, b)) (omega (arith, c)) (omega (arith, e));
})
acted_comes B z p now d f (inr a) = inr (record {
  halt = a.halt;
  prints = a.prints;
  there = f a;
  spent = record {
    events = let e = a.advanced.events in omega (arith, e);
    messages = let e = ap length a.advanced.sent in let l = length_both {A = Envelope} z.world.sent [] in omega (arith, e, l);
    bytes = let e = a.advanced.bytes in omega (arith, e);
    text = let e = a.advanced.text in omega (arith, e);
  };
})

-- of a line that only prints
pub lines_come : (B : Session → Type 0) (z : Session) (now : List Line) → ((text : ℕ) → B (with_text z text)) → Comes B z (costs 0 0 0 (text_bytes now)) now (by_lines z now)
lines_come B z now f = go (nat_lt most_text_bytes (z.text + text_bytes now)) refl
  where
    go : (v : Bool) → nat_lt most_text_bytes (z.text + text_bytes now) ≡ v
        → Comes B z (costs 0 0 0 (text_bytes now)) now (line_done z [] (if v then Err (Limited TextBytes) else Ok (with_text z (z.text + text_bytes now), now)))
    go true k = inl (record { which = TextBytes; halt = refl; room = λ r. let f : nat_lt most_text_bytes (z.text + text_bytes now) ≡ false = le-ltb most_text_bytes (z.text + text_bytes now) r.text in cc })
    go false k = inr (record { halt = refl; prints = refl; there = f (z.text + text_bytes now); spent = record { events = omega arith; messages = omega arith; bytes = omega arith; text = omega arith } })

-- of a settle where nothing is pending
pub settle_comes : (B : Session → Type 0) (z : Session) → Queued z.world [] → DisksFit z z.world.parties
    → ((y : Session) → y.world.parties ≡ z.world.parties → Queued y.world [] → DisksFit y z.world.parties → B y)
    → Comes B z (costs 0 0 0 (text_bytes (Settled 0 ∷ []))) (Settled 0 ∷ []) (settles most_events 0 z)
settle_comes B z queue fit f = ⊎_elim
    (λ (l : MeetsLimit z most_events [] [] (Settled 0 ∷ []) (settles most_events 0 z)). inl (record {
      which = l.which;
      halt = l.halt;
      room = λ r.
          let a = r.events in let b = r.messages in let c = r.bytes in let e = r.text in
          l.room (omega arith) (record { events = omega (arith, a); messages = omega (arith, b); bytes = omega (arith, c); text = e });
    }))
    (λ (s : SettledAs DisksFit z [] [] z.world.parties (Settled 0 ∷ []) (settles most_events 0 z)). inr (record {
      halt = s.halt;
      prints = s.prints;
      there = f (settles most_events 0 z).after s.parties s.queue s.devices;
      spent = record {
        events = let e = s.spent.events in omega (arith, e);
        messages = let e = s.spent.messages in omega (arith, e);
        bytes = let e = s.spent.bytes in omega (arith, e);
        text = let e = s.spent.text in omega (arith, e);
      };
    }))
    (settles_with_disks z.world.parties [] z.world.parties [] [] (Empty z.world.parties) most_events 0 z refl queue fit)

-- OF TWO LINES: an event that prints nothing, and the settle that delivers what it sent
abbrev pub PairComes : (Session → Type 0) → Session → Costs → List Line → LineDone → LineDone → Type 0
PairComes B z k now d e = LimitHit z k d ⊎ ((d.halt ≡ None) × (d.lines ≡ []) × (LimitHit z k e ⊎ Stood B z k now e))

module _ (B : Session → Type 0) (z : Session) (p : Parties) (q : List Envelope) (r : Parties) (ls : List Line) (ds : List Envelope) (d : LineDone) (drains : Drains p q r ls ds)
    (coords_fit : Fit (λ (x : CoordNode). x.log) z.coords p.coords) (shards_fit : Fit (λ (x : ShardNode). x.log) z.shards p.shards)
    (room : HasRoom (λ (x : CoordNode). x.log) r.coords × HasRoom (λ (x : ShardNode). x.log) r.shards)
    (then_there : (y : Session) → y.world.parties ≡ r → Queued y.world [] → DisksFit y r → B y) where
  abbrev pub pair_lines : List Line
  pair_lines = ls ++ Settled (length ds) ∷ []

  abbrev pub pair_costs : Costs
  pair_costs = costs (1 + length ds) (length ds) (bytes_of ds) (text_bytes pair_lines)

  abbrev settled : LineDone
  settled = settles most_events 0 d.after

  fit_after : LineActed z p q [] d → DisksFit d.after r
  fit_after a = record {
    coords = subst (λ (xs : List Device). Fit (λ (x : CoordNode). x.log) xs d.after.world.parties.coords) (sym a.coords) (subst (λ (w : Parties). Fit (λ (x : CoordNode). x.log) z.coords w.coords) (sym a.parties) coords_fit);
    shards = subst (λ (xs : List Device). Fit (λ (x : ShardNode). x.log) xs d.after.world.parties.shards) (sym a.shards) (subst (λ (w : Parties). Fit (λ (x : ShardNode). x.log) z.shards w.shards) (sym a.parties) shards_fit);
    coords_room = room.0;
    shards_room = room.1;
  }

  settle_after : LineActed z p q [] d → LimitHit z pair_costs settled ⊎ Stood B z pair_costs pair_lines settled
  settle_after a =
      let ev = a.advanced.events in let s = ap length a.advanced.sent in let sl = length_both z.world.sent q in let by = a.advanced.bytes in let tx = a.advanced.text in
      let all = drains_all p q r ls ds drains in let a0 = all.0 in let a1 = all.1 in
      let zero : 0 + length ds ≡ length ds = omega arith in
      ⊎_elim
      (λ (l : MeetsLimit d.after most_events q ds pair_lines settled). inl (record {
        which = l.which;
        halt = l.halt;
        room = λ m.
            let e1 = m.events in let m1 = m.messages in let b1 = m.bytes in let t1 = m.text in
            l.room (omega (arith, e1)) (record { events = omega (arith, e1, ev); messages = omega (arith, m1, s, sl); bytes = omega (arith, b1, by); text = omega (arith, t1, tx) });
      }))
      (λ (w : SettledAs DisksFit d.after q ds r pair_lines settled). inr (record {
        halt = w.halt;
        prints = w.prints;
        there = then_there settled.after w.parties w.queue w.devices;
        spent = record {
          events = let e = w.spent.events in omega (arith, e, ev);
          messages = let e = w.spent.messages in omega (arith, e, s, sl);
          bytes = let e = w.spent.bytes in omega (arith, e, by);
          text = let e = w.spent.text in omega (arith, e, tx);
        };
      }))
      (subst (λ (n : ℕ). MeetsLimit d.after most_events q ds (ls ++ Settled n ∷ []) settled ⊎ SettledAs DisksFit d.after q ds r (ls ++ Settled n ∷ []) settled) zero
      (settles_with_disks p q r ls ds drains most_events 0 d.after a.parties a.queue (fit_after a)))

  pub pair_comes : LineLimited z q [] d ⊎ LineActed z p q [] d → PairComes B z pair_costs pair_lines d settled
  pair_comes (inl l) =
      let all = drains_all p q r ls ds drains in let a0 = all.0 in let a1 = all.1 in
      inl (record {
        which = l.which;
        halt = l.halt;
        room = λ m.
            let e1 = m.events in let m1 = m.messages in let b1 = m.bytes in let t1 = m.text in
            l.room (omega (arith, e1)) (omega (arith, m1, a0)) (omega (arith, b1, a1)) (omega (arith, t1));
      })
  pair_comes (inr a) = inr (a.halt, a.prints, settle_after a)
