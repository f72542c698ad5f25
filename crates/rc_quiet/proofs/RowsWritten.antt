-- Each row of a shard is the write of a transaction whose commit is chosen, and that is finished at this shard.
use Rattle.std.proofs.Common.{◌≡◌, ℕ, List, [], ◌∷◌, ◌++◌, refl, sym, ap, ◌∙◌, subst, true, Option, Some, None, inl, inr, ⊎_elim}
use Rattle.std.specs.Prelude.{is_some, ◌+◌, ◌==◌}
use Rattle.std.specs.Ordering.{nat_cmp}
use Rattle.rc_ids.specs.Tables.{In, Table, found, put}
use Rattle.rc_ids.specs.Texts.{key_cmp}
use Rattle.rc_ids.specs.Cluster.{Layout, IsLayout, shard_of}
use Rattle.rc_ids.specs.declared.names.Outcome.{Outcome}
use Rattle.rc_ids.specs.declared.names.Outcome.TheVariants.{Commit as Committed, Abort as Aborted}
use Rattle.rc_body.specs.declared.entry.Entry.{Entry}
use Rattle.rc_body.specs.declared.decision.Decision.{Decision}
use Rattle.rc_body.specs.declared.decision.Decision.TheVariants.{Commit, Abort}
use Rattle.rc_msg.specs.declared.msg.Envelope.{Envelope}
use Rattle.rc_record.specs.declared.record.Record.{Record}
use Rattle.rc_record.specs.declared.record.Record.TheVariants.{Head, Prepared, Finished, Promised, Accepted, Decided}
use Rattle.rc_record.specs.ShardState.{ShardDurable, settled, settled_new, settled_all, shard_applied}
use Rattle.rc_protocol.specs.Nodes.{ShardNode, applied, coord_started, coord_stopped, shard_after, shard_stopped, shard_started}
use Rattle.rc_protocol.specs.Messages.{shard_server}
use Rattle.rc_protocol.specs.Acts.{client_by_row}
use Rattle.rc_runs.specs.World.{envelopes, with_shard, new_world}
use Rattle.rc_agreement.proofs.Cases.{on_maybe, never}
use Rattle.rc_agreement.proofs.Tables.{put_cases, put_same}
use Rattle.rc_agreement.proofs.Places.{put_server}
use Rattle.rc_agreement.proofs.Scenes.{Scene, scene, at, shard_in, ThereIs, stopped, started, joined_by, acted, Keeps, act_of, shard_act_of}
use Rattle.rc_agreement.proofs.CoordKeeps.{moved}
use Rattle.rc_agreement.proofs.Learning.{Learns, FinishesAt}
use Rattle.rc_agreement.proofs.Longer.{Longer, longer_logged, longer_moved, learns_on}
use Rattle.rc_agreement.proofs.Learned.{shard_half_notes, new_server}
use Rattle.rc_agreement.proofs.ShardNotes.{ShardNotes, shard_notes}
use Rattle.rc_serial_order.proofs.KeyFacts.{in_filtered}
use Rattle.rc_serial_order.proofs.Rows.{rows_set}
use Rattle.rc_serial_order.proofs.Stored.{Stored, stored_kept}

-- version v of k is the write of tx, which is finished here
pub record WroteHere (s : Scene) (finished : Table ℕ Outcome) (k : List ℕ) (v : ℕ) : Type 0 where
  pub tx : ℕ
  pub body : List Entry
  pub entry : Entry
  pub chosen : Learns s tx (Commit body)
  pub among : In entry body
  pub key : entry.key ≡ k
  pub version : entry.version + 1 ≡ v
  pub write : is_some entry.write ≡ true
  pub done : found nat_cmp finished tx ≡ Some Committed

abbrev pub Rows : Scene → ShardDurable → Type 0
Rows s x = (k : List ℕ) (r : ℕ × List ℕ) → found key_cmp x.rows k ≡ Some r → WroteHere s x.finished k r.0

abbrev pub Rowed : Scene → Type 0
Rowed s = (d sh : ℕ) → Rows s (shard_in s d sh).durable

wrote_on : (s z : Scene) → Longer s z → (m : Table ℕ Outcome) (k : List ℕ) (v : ℕ) → WroteHere s m k v → WroteHere z m k v
wrote_on s z l m k v h = record { tx = h.tx; body = h.body; entry = h.entry; chosen = learns_on s z l h.tx (Commit h.body) h.chosen; among = h.among; key = h.key; version = h.version; write = h.write; done = h.done }

module _ (s : Scene) (sh : ℕ) where
  -- who is finished stays so
  finished_more : (m : Table ℕ Outcome) (t : ℕ) (outcome : Outcome) → found nat_cmp m t ≡ None → (k : List ℕ) (v : ℕ) → WroteHere s m k v → WroteHere s (put nat_cmp m t outcome) k v
  finished_more m t outcome none k v h =
      record {
        tx = h.tx;
        body = h.body;
        entry = h.entry;
        chosen = h.chosen;
        among = h.among;
        key = h.key;
        version = h.version;
        write = h.write;
        done = ⊎_elim
            (λ (e : (h.tx ≡ t) × (found nat_cmp (put nat_cmp m t outcome) h.tx ≡ Some outcome)). never Committed (sym none ∙ ap (λ (n : ℕ). found nat_cmp m n) (sym e.0) ∙ h.done))
            (λ (e : (h.tx ≡ t → ⊥) × (found nat_cmp (put nat_cmp m t outcome) h.tx ≡ found nat_cmp m h.tx)). e.1 ∙ h.done)
            (put_cases h.tx t outcome m);
      }

  rows_settled : (x : ShardDurable) (t : ℕ) (o : Decision) → found nat_cmp x.finished t ≡ None → FinishesAt s sh t o → Rows s x → Rows s (settled x t o)
  rows_settled x t Abort none f h = λ k r is. finished_more x.finished t Aborted none k r.0 (h k r is)
  rows_settled x t (Commit p) none f h =
      rows_set (λ k n v. WroteHere s (put nat_cmp x.finished t Committed) k n) x.rows p
      (λ e i v w. record {
        tx = t;
        body = f.0;
        entry = e;
        chosen = f.1;
        among = (in_filtered (λ (y : Entry). shard_of s.parties.layout y.key == sh) e f.0 (subst (In e) f.2 i)).0;
        key = refl;
        version = refl;
        write = ap is_some w;
        done = put_same t Committed x.finished;
      })
      (λ k r is. finished_more x.finished t Committed none k r.0 (h k r is))

  rows_settled_all : (es : List (ℕ × Decision)) (x : ShardDurable) → ((t : ℕ) (o : Decision) → In (t, o) es → FinishesAt s sh t o) → Rows s x → Rows s (settled_all x es)
  rows_settled_all [] x f h = h
  rows_settled_all (e ∷ es) x f h =
      rows_settled_all es (settled_new x e) (λ t o i. f t o (inr i))
      (on_maybe (Rows s) (found nat_cmp x.finished e.0) (settled x e.0 e.1) (λ _. x) (λ none. rows_settled x e.0 e.1 none (f e.0 e.1 (inl refl)) h) (λ _ _. h))

  rows_after : (r : Option Record) (x : ShardDurable) → ShardNotes s sh r → Rows s x → Rows s (applied shard_applied x r)
  rows_after None x n h = h
  rows_after (Some (Finished es)) x n h = rows_settled_all es x n h
  rows_after (Some (Prepared u p)) x n h = h
  rows_after (Some (Head p)) x n h = h
  rows_after (Some (Promised u b)) x n h = h
  rows_after (Some (Accepted u b o)) x n h = h
  rows_after (Some (Decided es)) x n h = h

-- ALL MOVES
abbrev pub RowsKept : Layout → Scene → Type 0
RowsKept c s = Stored c s × Rowed s

rows_on : (s z : Scene) → Longer s z → (x : ShardDurable) → Rows s x → Rows z x
rows_on s z l x h k r is = wrote_on s z l x.finished k r.0 (h k r is)

pub rows_kept : (c : Layout) → IsLayout c → Keeps (RowsKept c)
rows_kept c lay =
    let m = stored_kept c lay in
    record {
      turns = λ s d k there due p. (
        m.turns s d k there due p.0,
        λ e sh. rows_on s (moved s d (at s d).up (act_of s d k)) (longer_moved s d there (at s d).up (act_of s d k)) (shard_in s e sh).durable (p.1 e sh),
      );
      stops = λ s d r there half p. (
        m.stops s d r there half p.0,
        λ e sh. rows_on s (stopped s d r) (longer_logged s d there (coord_stopped (at s d) r) r refl s.sent) (shard_in s e sh).durable (p.1 e sh),
      );
      starts = λ s d there p. (
        m.starts s d there p.0,
        λ e sh. rows_on s (started s d) (longer_logged s d there (coord_started (at s d).log) None refl s.sent) (shard_in s e sh).durable (p.1 e sh),
      );
      serves = λ s d sh k there due p. (
        m.serves s d sh k there due p.0,
        served_rows s d sh there (shard_after (shard_in s d sh) (shard_act_of s d sh k)) (s.sent ++ envelopes (shard_server d sh) (shard_act_of s d sh k).sends) p.1
            (rows_after s sh (shard_act_of s d sh k).logs (shard_in s d sh).durable (shard_notes s d sh p.0.0.0.1 k due) (p.1 d sh)),
      );
      halts = λ s d sh r there half p. (
        m.halts s d sh r there half p.0,
        served_rows s d sh there (shard_stopped (shard_in s d sh) r) s.sent p.1
            (rows_after s sh r (shard_in s d sh).durable (shard_half_notes s p.0.0.0.1 d sh r half) (p.1 d sh)),
      );
      wakes = λ s d sh there p. (m.wakes s d sh there p.0, served_rows s d sh there (shard_started (shard_in s d sh).log) s.sent p.1 (subst (Rows s) (p.0.0.0.1.replays d sh) (p.1 d sh)));
      begins = λ s u new p. (m.begins s u new p.0, λ e sh. rows_on s (joined_by s u) (record { layout = refl; votes = λ t e b o w. w }) (shard_in s e sh).durable (p.1 e sh));
      clients = λ s u x k is due p. (
        m.clients s u x k is due p.0,
        λ e sh. rows_on s (acted s u (client_by_row s.parties.layout u x k)) (record { layout = refl; votes = λ t e b o w. w }) (shard_in s e sh).durable (p.1 e sh),
      );
    }
  where
    served_rows : (s : Scene) (d sh : ℕ) → ThereIs s d sh → (y : ShardNode) (sent : List Envelope) → Rowed s → Rows s y.durable → Rowed (record { parties = with_shard s.parties d sh y; sent = sent })
    served_rows s d sh there y sent h new =
        let z : Scene = record { parties = with_shard s.parties d sh y; sent = sent } in
        let l : Longer s z = record { layout = refl; votes = λ t e b o w. w } in
        put_server (λ e eh (n : ShardNode). Rows z n.durable) s.parties d sh (shard_in s d sh) y there (λ e eh _. rows_on s z l (shard_in s e eh).durable (h e eh)) (rows_on s z l y.durable new)

pub new_rowed : (c : Layout) → Rowed (scene (new_world c))
new_rowed c d sh = subst (λ (n : ShardNode). Rows (scene (new_world c)) n.durable) (sym (new_server c d sh)) (λ k r is. never r is)
