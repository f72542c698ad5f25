-- Every move keeps what is said of parts, rows and reads.
use Rattle.std.proofs.Common.{◌≡◌, ℕ, List, [], ◌++◌, refl, sym, ap, ◌∙◌, subst, Bool, true, false, Option, Some, None, arith, inl, ⊎_elim}
use Rattle.std.specs.Ordering.{nat_cmp}
use Rattle.std.proofs.lemmas.List.{append-nil}
use Rattle.rc_ids.specs.Tables.{In, found, put}
use Rattle.rc_ids.specs.Cluster.{Layout, IsLayout}
use Rattle.rc_ids.specs.declared.names.Party.{Party}
use Rattle.rc_body.specs.Bodies.{part, touched}
use Rattle.rc_body.specs.declared.entry.Entry.{Entry}
use Rattle.rc_body.specs.declared.decision.Decision.{Decision}
use Rattle.rc_body.specs.declared.decision.Decision.TheVariants.{Commit}
use Rattle.rc_msg.specs.declared.msg.Msg.{Msg}
use Rattle.rc_msg.specs.declared.msg.Msg.TheVariants.{ReadAsk, Granted, Propose, Prepare, Prepared}
use Rattle.rc_msg.specs.declared.msg.Envelope.{Envelope}
use Rattle.rc_record.specs.declared.record.Record.{Record}
use Rattle.rc_record.specs.declared.record.Record.TheVariants.{Head, Prepared as PartPrepared, Finished, Promised, Accepted, Decided}
use Rattle.rc_record.specs.CoordState.{CoordDurable, coord_applied}
use Rattle.rc_record.specs.ShardState.{ShardDurable, shard_applied}
use Rattle.rc_protocol.specs.Messages.{coordinator, shard_server, client_of}
use Rattle.rc_protocol.specs.Shard.{new_volatile as new_shard_volatile}
use Rattle.rc_protocol.specs.Coordinator.{CoordAct, GatherState, new_volatile as new_coord_volatile}
use Rattle.rc_protocol.specs.Client.{Client, ClientAct, new_client, body_of}
use Rattle.rc_protocol.specs.Nodes.{CoordNode, ShardNode, applied, logged}
use Rattle.rc_runs.specs.World.{envelopes, replaced, with_coord, with_shard, with_new_client, new_world}
use Rattle.rc_runs.specs.Refusals.{is_begun}
use Rattle.rc_agreement.proofs.Cases.{some_is, never}
use Rattle.rc_agreement.proofs.Tables.{put_cases, set_cases}
use Rattle.rc_protocol.specs.Acts.{NodeCause, Came, ClientCause, Hears, Reads, Writes, Commits, Cancels, Retries, Vanishes, client_by_row}
use Rattle.rc_agreement.proofs.Scenes.{Scene, scene, at, shard_in, There, ThereIs, Due, act_of, DueTo, shard_act_of, ShardHalf, Naught, Entire, DueFor, stopped, started, joined_by, acted, Half, Nothing, Whole as WholeAct, Keeps}
use Rattle.rc_agreement.proofs.Said.{Says, said_new, modest_plain}
use Rattle.rc_agreement.proofs.Ballots.{Proposal, Late, Good}
use Rattle.rc_agreement.proofs.ShardRows.{shard_modest}
use Rattle.rc_agreement.proofs.ClientRows.{client_tame}
use Rattle.rc_agreement.proofs.Agreeing.{laws_at, not_begun, ready_for, keeps_turn, new_node}
use Rattle.rc_agreement.proofs.Learned.{shard_half_notes, new_server}
use Rattle.rc_agreement.proofs.ShardNotes.{ShardNotes, shard_notes}
use Rattle.rc_agreement.proofs.Reopened.{Whole}
use Rattle.rc_agreement.proofs.Lives.{whole_kept}
use Rattle.rc_agreement.proofs.Sends.{to_none}
use Rattle.rc_serial_order.proofs.Means.{WasPrepared, Written, Means, drab_means, Firm, PartNote}
use Rattle.rc_serial_order.proofs.ShardSays.{Sure, Prepares, shard_says_so}
use Rattle.rc_serial_order.proofs.CoordSays.{SaysSo, YesBefore, CoordRow, coord_says_so}
use Rattle.rc_serial_order.proofs.Slots.{Granting, GrantsIn, client_sound}
use Rattle.rc_serial_order.proofs.ClientKeeps.{Keeps as KeepsOn, drab_of, client_keeps}
use Rattle.rc_serial_order.proofs.Store.{SoundIn, Store, shard_store, Square, coord_store, client_store}

abbrev pub Stored : Layout → Scene → Type 0
Stored c s = Whole c s × Store s

-- SHARD SERVERS
module _ (s : Scene) (h : Store s) (d sh : ℕ) where
  noted : (k : NodeCause) → DueTo s d sh k → (r : Option Record) → ((t : ℕ) (p : List Entry) → r ≡ Some (PartPrepared t p) → Prepares (shard_in s d sh).durable k t p) → PartNote s sh (shard_in s d sh).durable r
  noted k due None f = tt
  noted k due (Some (PartPrepared t p)) f =
      let w = f t p refl in
      (w.volatile, w.passes, w.unprepared, w.unfinished, h.says (record { from = w.from; to = shard_server d sh; msg = Prepare t p }) (subst (DueTo s d sh) w.asked due) d sh refl)
  noted k due (Some (Finished es)) f = tt
  noted k due (Some (Head x)) f = tt
  noted k due (Some (Promised t b)) f = tt
  noted k due (Some (Accepted t b o)) f = tt
  noted k due (Some (Decided es)) f = tt

  part_note : (k : NodeCause) → DueTo s d sh k → PartNote s sh (shard_in s d sh).durable (shard_act_of s d sh k).logs
  part_note k due = noted k due (shard_act_of s d sh k).logs (shard_says_so s.parties.layout d sh (shard_in s d sh).durable (shard_in s d sh).volatile k).prepares

  half_part : (r : Option Record) → ShardHalf s d sh r → PartNote s sh (shard_in s d sh).durable r
  half_part r Naught = tt
  half_part r (Entire k due) = part_note k due

serves : (c : Layout) → IsLayout c → (s : Scene) (d sh : ℕ) (k : NodeCause) → ThereIs s d sh → DueTo s d sh k → Stored c s
    → Store (record { parties = with_shard s.parties d sh (record { up = (shard_in s d sh).up; log = logged (shard_in s d sh).log (shard_act_of s d sh k).logs; durable = applied shard_applied (shard_in s d sh).durable (shard_act_of s d sh k).logs; volatile = (shard_act_of s d sh k).after }); sent = s.sent ++ envelopes (shard_server d sh) (shard_act_of s d sh k).sends })
serves c lay s d sh k there due p =
    let agree = p.0.0.0 in
    shard_store c s agree (laws_at c lay 0 s (agree 0)) p.1 d sh there (shard_in s d sh).up (shard_act_of s d sh k).logs (shard_act_of s d sh k).after (shard_act_of s d sh k).sends
    (part_note s p.1 d sh k due) (shard_notes s d sh p.0.0.1 k due)
    (shard_says_so s.parties.layout d sh (shard_in s d sh).durable (shard_in s d sh).volatile k).says
    (λ t o w. modest_plain (Propose t 0 o) ((shard_modest s.parties.layout d sh (shard_in s d sh).durable (shard_in s d sh).volatile k).each (Propose t 0 o) w))

shard_stops : (c : Layout) → IsLayout c → (s : Scene) (d sh : ℕ) → ThereIs s d sh → (up : Bool) (r : Option Record) → PartNote s sh (shard_in s d sh).durable r → ShardNotes s sh r → Stored c s
    → Store (record { parties = with_shard s.parties d sh (record { up = up; log = logged (shard_in s d sh).log r; durable = applied shard_applied (shard_in s d sh).durable r; volatile = new_shard_volatile }); sent = s.sent })
shard_stops c lay s d sh there up r n m p =
    let agree = p.0.0.0 in
    subst (λ (l : List Envelope). Store (record { parties = with_shard s.parties d sh (record { up = up; log = logged (shard_in s d sh).log r; durable = applied shard_applied (shard_in s d sh).durable r; volatile = new_shard_volatile }); sent = l }))
    (append-nil s.sent)
    (shard_store c s agree (laws_at c lay 0 s (agree 0)) p.1 d sh there up r new_shard_volatile [] n m (to_none (Sure d sh (applied shard_applied (shard_in s d sh).durable r))) (λ t o w. w))

-- COORDINATORS
module _ (c : Layout) (lay : IsLayout c) (s : Scene) (p : Stored c s) (d : ℕ) (there : There s d) (k : NodeCause) (due : Due s d k) where
  abbrev a : CoordAct
  a = act_of s d k

  row : CoordRow s.parties.layout d (at s d).volatile k (act_of s d k)
  row = coord_says_so s.parties.layout d (at s d).durable (at s d).volatile k

  good : (t : ℕ) → Good t s d (act_of s d k)
  good t = keeps_turn c lay s d k there due p.0.0.0 t

  says : (to : Party) (m : Msg) → SaysSo s.parties.layout d a.after to m → Means s (coordinator d) to m
  says to (Prepare t x) h = λ e eh is.
      let both : shard_server d h.0 ≡ shard_server e eh = sym h.1 ∙ is in
      let n : h.0 ≡ eh = (cc) in
      record { ballot = h.2.ballot; body = h.2.body; proposed = (good t).gathers h.2 h.3; is = h.4 ∙ ap (λ m. part s.parties.layout m h.2.body) n }
  says to (Prepared t x None) h = absurd h
  says to (Granted t x e v y) h = absurd h
  says to (ReadAsk t x) h = absurd h
  says to _ h = tt

  yes : (t : ℕ) (g : GatherState) → In (t, g) a.after.gathers → (sh : ℕ) → In sh g.yes → WasPrepared s d sh t
  yes t g is sh i = ⊎_elim
      (λ (x : YesBefore (at s d).volatile t sh). p.1.yes d t x.gather x.among sh x.yes)
      (λ (x : (from : Party) × (k ≡ Came from (Prepared t sh None))).
      let h = p.1.says (record { from = x.0; to = coordinator d; msg = Prepared t sh None }) (subst (Due s d) x.1 due) in
      let at_d : coordinator d ≡ coordinator h.0 = h.2 in
      let n : h.0 ≡ d = (cc) in
      subst (λ e. WasPrepared s e sh t) n h.3)
      (row.yes t g is sh i)

  pub square : Square s d (act_of s d k)
  square =
      record {
        says = λ to m i. says to m (row.says.each to m i);
        yes = yes;
        votes = λ t b x is sh i. let f = row.votes t b x is in yes t f.gather f.among sh (f.all sh i);
        fresh = λ t o h. let n = (good t).props 0 o h in let z = n.before.above0 in let e : n.k.ballot ≡ 0 = n.at_it in absurd (omega arith);
      }

coord_stops : (s : Scene) (d : ℕ) → There s d → (up : Bool) (r : Option Record) → Store s
    → ((t b : ℕ) (x : List Entry) → r ≡ Some (Accepted t b (Commit x)) → (sh : ℕ) → In sh (touched s.parties.layout x) → WasPrepared s d sh t)
    → Store (record { parties = with_coord s.parties d (record { up = up; log = logged (at s d).log r; durable = applied coord_applied (at s d).durable r; volatile = new_coord_volatile }) r; sent = s.sent })
coord_stops s d there up r h votes =
    subst (λ (l : List Envelope). Store (record { parties = with_coord s.parties d (record { up = up; log = logged (at s d).log r; durable = applied coord_applied (at s d).durable r; volatile = new_coord_volatile }) r; sent = l }))
    (append-nil s.sent)
    (coord_store s d there up (record { logs = r; after = new_coord_volatile; sends = []; spent = false }) h
    (record { says = λ to m i. absurd i; yes = λ t g i. absurd i; votes = votes; fresh = λ t o i. i }))

stops : (c : Layout) → IsLayout c → (s : Scene) (d : ℕ) (r : Option Record) → There s d → Half s d r → Stored c s → Store (stopped s d r)
stops c lay s d r there Nothing p = coord_stops s d there false None p.1 (λ t b x e. never _ e)
stops c lay s d r there (WholeAct k due) p = coord_stops s d there false (act_of s d k).logs p.1 (square c lay s p d there k due).votes

starts : (c : Layout) (s : Scene) (d : ℕ) → There s d → Stored c s → Store (started s d)
starts c s d there p =
    subst (λ (x : CoordDurable). Store (record { parties = with_coord s.parties d (record { up = true; log = (at s d).log; durable = x; volatile = new_coord_volatile }) None; sent = s.sent })) ((p.0.0.0 0).coords d).replays
    (coord_stops s d there true None p.1 (λ t b x e. never _ e))

-- CLIENTS
granted : (s : Scene) → Store s → (u : ℕ) (x : Client) (k : ClientCause) → DueFor s u x k → GrantsIn (Granting (Written s)) k
granted s h u x (Hears m) due = hears m due
  where
    hears : (m : Msg) → DueFor s u x (Hears m) → GrantsIn (Granting (Written s)) (Hears m)
    hears (Granted t b d v y) due = h.says (record { from = due.0; to = client_of u; msg = Granted t b d v y }) due.1
    hears _ due = tt
granted s h u x (Reads k) due = tt
granted s h u x (Writes k value) due = tt
granted s h u x Commits due = tt
granted s h u x (Cancels k) due = tt
granted s h u x Retries due = tt
granted s h u x Vanishes due = tt

module _ (s : Scene) (u : ℕ) (x : Client) (k : ClientCause) (is : found nat_cmp s.parties.clients u ≡ Some x) (due : DueFor s u x k) (h : Store s) where
  abbrev b : ClientAct
  b = client_by_row s.parties.layout u x k

  abbrev y : Client
  y = (client_by_row s.parties.layout u x k).after

  keeps : KeepsOn s.parties.layout x (client_by_row s.parties.layout u x k)
  keeps = client_keeps s.parties.layout u x k (ready_for s u x k due)

  abbrev Has : ℕ → Decision → Type 0
  Has t o = (z : Client) × (found nat_cmp (replaced s.parties.clients u y) t ≡ Some z) × Late z.phase × (o ≡ Commit (body_of z.slots))

  before : (t : ℕ) (o : Decision) → Proposal t s 0 o → Has t o
  before t o old =
      let w = h.bodies t o old in
      ⊎_elim
      (λ (e : (t ≡ u) × (found nat_cmp (replaced s.parties.clients u y) t ≡ Some y)).
      let same : w.0 ≡ x = some_is w.0 x (sym w.1 ∙ ap (λ z. found nat_cmp s.parties.clients z) e.0 ∙ is) in
      let l = keeps.late (subst (λ (q : Client). Late q.phase) same w.2) in
      (y, e.1, l.0, w.3 ∙ ap (λ (q : Client). Commit (body_of q.slots)) same ∙ ap (λ q. Commit (body_of q)) (sym l.1)))
      (λ (e : (t ≡ u → ⊥) × (found nat_cmp (replaced s.parties.clients u y) t ≡ found nat_cmp s.parties.clients t)). (w.0, e.1 ∙ w.1, w.2, w.3))
      (set_cases t u y x s.parties.clients is)

  now : (t : ℕ) (o : Decision) → Says b.sends (Propose t 0 o) → Has t o
  now t o new =
      let g = (client_tame s.parties.layout u x k (ready_for s u x k due)).says.each (Propose t 0 o) new in
      ⊎_elim
      (λ (e : (t ≡ u) × (found nat_cmp (replaced s.parties.clients u y) t ≡ Some y)). (y, e.1, subst Late (sym g.3) tt, g.2))
      (λ (e : (t ≡ u → ⊥) × (found nat_cmp (replaced s.parties.clients u y) t ≡ found nat_cmp s.parties.clients t)). absurd (e.0 g.0))
      (set_cases t u y x s.parties.clients is)

  client_kept : Store (acted s u (client_by_row s.parties.layout u x k))
  client_kept =
      client_store s h (replaced s.parties.clients u y) u b.sends
      (λ to m i. drab_means s (client_of u) to m (drab_of s.parties.layout to m (keeps.drab.each to m i)))
      (λ t w e. ⊎_elim
      (λ (same : (t ≡ u) × (found nat_cmp (replaced s.parties.clients u y) t ≡ Some y)). subst (λ (z : Client). SoundIn s z.slots) (some_is y w (sym same.1 ∙ e)) (client_sound (Written s) (λ _. inl (refl, refl)) s.parties.layout u x (h.clients u x is) k (granted s h u x k due)))
      (λ (other : (t ≡ u → ⊥) × (found nat_cmp (replaced s.parties.clients u y) t ≡ found nat_cmp s.parties.clients t)). h.clients t w (sym other.1 ∙ e))
      (set_cases t u y x s.parties.clients is))
      (λ t o i. ⊎_elim (λ old. before t o old) (λ new. now t o new) (said_new s.sent (client_of u) b.sends (Propose t 0 o) i))

begin_kept : (s : Scene) (u : ℕ) → is_begun s.parties u ≡ false → Store s → Store (joined_by s u)
begin_kept s u new h =
    subst (λ (l : List Envelope). Store (record { parties = with_new_client s.parties u; sent = l })) (append-nil s.sent)
    (client_store s h (put nat_cmp s.parties.clients u new_client) u [] (λ to m i. absurd i)
    (λ t w e. ⊎_elim
    (λ (same : (t ≡ u) × (found nat_cmp (put nat_cmp s.parties.clients u new_client) t ≡ Some new_client)). subst (λ (z : Client). SoundIn s z.slots) (some_is new_client w (sym same.1 ∙ e)) (record { each = λ y i. absurd i; differ = tt }))
    (λ (other : (t ≡ u → ⊥) × (found nat_cmp (put nat_cmp s.parties.clients u new_client) t ≡ found nat_cmp s.parties.clients t)). h.clients t w (sym other.1 ∙ e))
    (put_cases t u new_client s.parties.clients))
    (λ t o i. let w = h.bodies t o (⊎_elim (λ y. y) (λ n. absurd n) (said_new s.sent (client_of u) [] (Propose t 0 o) i)) in (
      w.0,
      ⊎_elim
          (λ (e : (t ≡ u) × (found nat_cmp (put nat_cmp s.parties.clients u new_client) t ≡ Some new_client)). never w.0 (sym (not_begun s.parties u new) ∙ ap (λ z. found nat_cmp s.parties.clients z) (sym e.0) ∙ w.1))
          (λ (e : (t ≡ u → ⊥) × (found nat_cmp (put nat_cmp s.parties.clients u new_client) t ≡ found nat_cmp s.parties.clients t)). e.1 ∙ w.1)
          (put_cases t u new_client s.parties.clients),
      w.2,
      w.3,
    )))

-- ALL MOVES
pub stored_kept : (c : Layout) → IsLayout c → Keeps (Stored c)
stored_kept c lay =
    let k = whole_kept c lay in
    record {
      turns = λ s d a there due p. (k.turns s d a there due p.0, coord_store s d there (at s d).up (act_of s d a) p.1 (square c lay s p d there a due));
      stops = λ s d r there half p. (k.stops s d r there half p.0, stops c lay s d r there half p);
      starts = λ s d there p. (k.starts s d there p.0, starts c s d there p);
      serves = λ s d sh a there due p. (k.serves s d sh a there due p.0, serves c lay s d sh a there due p);
      halts = λ s d sh r there half p. (k.halts s d sh r there half p.0, shard_stops c lay s d sh there false r (half_part s p.1 d sh r half) (shard_half_notes s p.0.0.1 d sh r half) p);
      wakes = λ s d sh there p. (
        k.wakes s d sh there p.0,
        subst (λ (x : ShardDurable). Store (record { parties = with_shard s.parties d sh (record { up = true; log = (shard_in s d sh).log; durable = x; volatile = new_shard_volatile }); sent = s.sent })) (p.0.0.1.replays d sh) (shard_stops c lay s d sh there true None tt tt p),
      );
      begins = λ s u new p. (k.begins s u new p.0, begin_kept s u new p.1);
      clients = λ s u x a is due p. (k.clients s u x a is due p.0, client_kept s u x a is due p.1);
    }

-- AT THE START
pub new_store : (c : Layout) → Store (scene (new_world c))
new_store c =
    let s : Scene = scene (new_world c) in
    record {
      says = λ e i. absurd i;
      yes = λ d t g. subst (λ (n : CoordNode). In (t, g) n.volatile.gathers → (sh : ℕ) → In sh g.yes → WasPrepared s d sh t) (sym (new_node c d)) (λ i. absurd i);
      votes = λ t d b x. subst (λ (n : CoordNode). In (Accepted t b (Commit x)) n.log → (sh : ℕ) → In sh (touched s.parties.layout x) → WasPrepared s d sh t) (sym (new_node c d)) (λ i. absurd i);
      shards = λ d sh. subst (λ (n : ShardNode). Firm s sh n.log n.durable) (sym (new_server c d sh)) (record {
        kept = record { ever = λ t p i. absurd i; rowed = λ t p i. absurd i; apart = λ t u p q i. absurd i };
        parts = λ t p i. absurd i;
        rises = tt;
        held = λ t p is. never p is;
        rows = λ k r is. never r is;
      });
      clients = λ t x is. never x is;
      bodies = λ t o i. absurd i;
    }
