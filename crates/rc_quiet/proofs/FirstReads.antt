-- In a quiet stretch that goes on from a run of a new world, no row of a shard that has not finished t is newer than what t read.
use Rattle.std.proofs.Common.{◌≡◌, ℕ, ◌+◌, ◌≤◌, List, [], refl, sym, ap, ◌∙◌, subst, true, Option, Some, None, ◌⊎◌, inl, inr, ⊎_elim, true≢false, arith}
use Rattle.std.specs.Prelude.{drop, length, is_some}
use Rattle.std.specs.Ordering.{nat_cmp}
use Rattle.std.proofs.Math.Seq.{drop-append_seam}
use Rattle.rc_ids.specs.Tables.{In, found}
use Rattle.rc_ids.specs.Texts.{key_cmp, same_key}
use Rattle.rc_ids.specs.Cluster.{Layout, IsLayout}
use Rattle.rc_ids.specs.declared.names.Outcome.TheVariants.{Commit as Committed}
use Rattle.rc_body.specs.declared.entry.Entry.{Entry}
use Rattle.rc_msg.specs.declared.msg.Msg.TheVariants.{ReadAsk}
use Rattle.rc_msg.specs.declared.msg.Envelope.{Envelope}
use Rattle.rc_record.specs.ShardState.{version_at}
use Rattle.rc_protocol.specs.Client.{Client, Slot, Complete}
use Rattle.rc_protocol.specs.Nodes.{ShardNode}
use Rattle.rc_runs.specs.World.{World, shard_at, new_world}
use Rattle.rc_runs.specs.Refusals.{Happening, run}
use Rattle.rc_claims.specs.Outcomes.{Served}
use Rattle.rc_claims.specs.Lives.{First}
use Rattle.rc_claims.specs.Quiet.{IsQuiet, moments, chosen_between}
use Rattle.rc_agreement.proofs.Cases.{on_maybe, never}
use Rattle.rc_agreement.proofs.Tables.{in_left, in_right, in_either}
use Rattle.rc_agreement.proofs.Lists.{any_some}
use Rattle.rc_agreement.proofs.ClientSlots.{key_same}
use Rattle.rc_agreement.proofs.Places.{server_is}
use Rattle.rc_agreement.proofs.Scenes.{scene, shard_in, run_keeps}
use Rattle.rc_agreement.proofs.Agreeing.{new_agrees}
use Rattle.rc_agreement.proofs.Learned.{new_heard}
use Rattle.rc_agreement.proofs.Ordered.{new_ordered}
use Rattle.rc_agreement.proofs.Stays.{order_grows}
use Rattle.rc_serial_order.proofs.Stored.{Stored, new_store}
use Rattle.rc_serial_order.proofs.Serials.{Serialised, serial_kept, new_serial, learned_ordered}
use Rattle.rc_serial_order.proofs.LifeOrders.{reads_are_fresh}
use Rattle.rc_quiet.proofs.Stretches.{before_moment, rest_of}
use Rattle.rc_quiet.proofs.ClientOver.{keys_last}
use Rattle.rc_quiet.proofs.CoordBlankRows.{Blank}
use Rattle.rc_quiet.proofs.Unknown.{Unknown}
use Rattle.rc_quiet.proofs.RowsWritten.{WroteHere, RowsKept, rows_kept, new_rowed}
use Rattle.rc_quiet.proofs.EndNodes.{at_moments}

module _ (c : Layout) (lay : IsLayout c) (earlier hs : List Happening) (members : List ℕ) (t : ℕ) where
  abbrev w : World
  w = run (new_world c) earlier

  module _ (quiet : IsQuiet w members t hs) (unknown : Unknown t w.parties w.sent) (v : World) (i : In v (moments w hs)) where
    new_stored : Stored c (scene (new_world c))
    new_stored = (((new_agrees c, new_heard c), new_ordered c lay), new_store c)

    rows : RowsKept c (scene v)
    rows = at_moments (RowsKept c) (rows_kept c lay) w hs (run_keeps (RowsKept c) (rows_kept c lay) (new_world c) earlier (new_stored, new_rowed c)) v i

    serial : Serialised c [] (scene v)
    serial = at_moments (Serialised c []) (serial_kept c lay []) w hs (run_keeps (Serialised c []) (serial_kept c lay []) (new_world c) earlier (new_stored, new_serial c)) v i

    -- what was committed by now was committed before the stretch, or was chosen in it
    old_or_chosen : (u : ℕ) (body : List Entry) → In (u, body) v.parties.committed → In (u, body) w.parties.committed ⊎ In (u, body) (chosen_between w (run w hs))
    old_or_chosen u body j =
        let r = rest_of w hs v i in
        let all = order_grows w hs in
        let later = order_grows v r.after in
        let last : In (u, body) (run w hs).parties.committed =
        subst (λ (z : World). In (u, body) z.parties.committed) r.ends (subst (In (u, body)) (sym later.1) (in_left (u, body) v.parties.committed later.0 j)) in
        let between : chosen_between w (run w hs) ≡ all.0 = ap (drop (length w.parties.committed)) all.1 ∙ drop-append_seam w.parties.committed all.0 in
        ⊎_elim inl (λ (k : In (u, body) all.0). inr (subst (In (u, body)) (sym between) k))
        (in_either (u, body) w.parties.committed all.0 (subst (In (u, body)) all.1 last))

    module _ (y : Client) (s : Slot) (version : ℕ) (value : Option (List ℕ)) (is : found nat_cmp v.parties.clients t ≡ Some y) (at : In s y.slots) (read : s.read ≡ Complete version value) where
      served : Served v t s.key version value
      served = record { client = y; is = is; slot = s; among = at; key = refl; read = read }

      not_asked : (e : Envelope) → In e w.sent → e.msg ≡ ReadAsk t s.key → ⊥
      not_asked e j same = let b : Blank t (ReadAsk t s.key) = subst (Blank t) same (unknown.sent_blank e j) in b refl

      -- by a transaction that was committed before the stretch, or in it
      written : (u : ℕ) (body : List Entry) (e : Entry) → In (u, body) v.parties.committed → (u ≡ t → ⊥) → In e body → e.key ≡ s.key → is_some e.write ≡ true → e.version + 1 ≤ version
      written u body e j other among key write =
          ⊎_elim
          (λ (old : In (u, body) w.parties.committed).
          let b = before_moment w hs v i in
          reads_are_fresh c lay [] w (First earlier) b.0 t u s.key body e version value (in_right (u, body) w.parties.start.committed w.parties.committed old) among key write not_asked
          (subst (λ (z : World). Served z t s.key version value) (sym b.1) served))
          (λ (new : In (u, body) (chosen_between w (run w hs))).
          let k = keys_last w hs t (λ z h l. quiet.undropped z h l) v i y s is at in
          absurd (true≢false (sym (any_some (λ (x : Entry). same_key x.key s.key) body e among (key_same e.key s.key key)) ∙ quiet.unchosen u body new other s.key k)))
          (old_or_chosen u body j)

      pub not_newer : (d sh : ℕ) (x : ShardNode) → shard_at v.parties d sh ≡ Some x → found nat_cmp x.durable.finished t ≡ None → version_at x.durable.rows s.key ≤ version
      not_newer d sh x there none =
          on_maybe (λ (n : ℕ). n ≤ version) (found key_cmp x.durable.rows s.key) 0 (λ r. r.0) (λ _. omega arith)
          (λ r has.
          let same : shard_in (scene v) d sh ≡ x = server_is v.parties d sh x there in
          let h : WroteHere (scene v) x.durable.finished s.key r.0 =
          subst (λ (n : ShardNode). (k : List ℕ) (q : ℕ × List ℕ) → found key_cmp n.durable.rows k ≡ Some q → WroteHere (scene v) n.durable.finished k q.0) same (rows.1 d sh) s.key r has in
          let ordered : In (h.tx, h.body) v.parties.committed = learned_ordered c lay (scene v) serial.0 [] serial.1 h.tx h.body h.chosen in
          let other : h.tx ≡ t → ⊥ = λ e. never Committed (sym none ∙ subst (λ (n : ℕ). found nat_cmp x.durable.finished n ≡ Some Committed) e h.done) in
          subst (λ (n : ℕ). n ≤ version) h.version (written h.tx h.body h.entry ordered other h.among h.key h.write))
