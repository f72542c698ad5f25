-- Who has not begun, and is not named by the logs of the start, is named nowhere.
use Rattle.std.proofs.Common.{◌≡◌, ℕ, List, [], ◌++◌, refl, sym, ap, ◌∙◌, subst, Bool, true, false, Option, Some, None, inl, inr, ⊎_elim}
use Rattle.std.specs.Ordering.{nat_cmp}
use Rattle.rc_ids.specs.Tables.{In, Table, found}
use Rattle.rc_ids.specs.declared.names.Party.{Party}
use Rattle.rc_msg.specs.declared.msg.Envelope.{Envelope}
use Rattle.rc_msg.specs.declared.msg.Msg.{Msg}
use Rattle.rc_msg.specs.declared.msg.Msg.TheVariants.{ReadAsk, ReadCancel, Propose, Abandon}
use Rattle.rc_record.specs.declared.record.Record.{Record}
use Rattle.rc_record.specs.CoordState.{CoordDurable, promise_of, coord_applied}
use Rattle.rc_record.specs.ShardState.{shard_applied}
use Rattle.rc_protocol.specs.Messages.{Posts}
use Rattle.rc_protocol.specs.Client.{Client, ClientAct, Slot, slot_of}
use Rattle.rc_protocol.specs.Coordinator.{CoordAct, do_catch as coord_catches, new_volatile as new_coord_volatile}
use Rattle.rc_protocol.specs.Shard.{do_catch as shard_catches, new_volatile as new_shard_volatile}
use Rattle.rc_protocol.specs.Acts.{NodeCause, Came as Comes, Catches, Takes, coord_act, shard_act, ClientCause, client_act, refusal}
use Rattle.rc_protocol.specs.Nodes.{CoordNode, ShardNode, applied, coord_started, shard_started, coord_after, shard_after, coord_stopped, shard_stopped}
use Rattle.rc_runs.specs.declared.event.Event.{Event}
use Rattle.rc_runs.specs.declared.event.Event.TheVariants.{Take}
use Rattle.rc_runs.specs.World.{Parties, kept_record, coord_at, shard_at, envelopes, with_coord, with_shard}
use Rattle.rc_agreement.proofs.Cases.{on_maybe, some_is, nat_dec}
use Rattle.rc_agreement.proofs.Places.{coord_set, coord_set_other, shard_set, shard_set_other}
use Rattle.rc_agreement.proofs.Sends.{EachTo, to_none, in_sent}
use Rattle.rc_causes.proofs.Moves.{CoordWhy, ShardWhy}
use Rattle.rc_quiet.proofs.Ending.{in_message}
use Rattle.rc_quiet.proofs.CoordBlankRows.{Blank, CoordBlank, CoordBlankVolatile, CauseBlank, coord_says_nothing, coord_stays_blank}
use Rattle.rc_quiet.proofs.ShardBlankRows.{MarksBlank, DurableBlank, ShardBlank, shard_says_nothing, shard_durable_blank, shard_marks_blank}
use Rattle.rc_quiet.proofs.ClientSays.{Speaks, client_says}

pub record Unknown (t : ℕ) (w : Parties) (sent : List Envelope) : Type 0 where
  pub sent_blank : (e : Envelope) → In e sent → Blank t e.msg
  pub coords : (d : ℕ) (x : CoordNode) → coord_at w d ≡ Some x → CoordBlank t x
  pub shards : (d sh : ℕ) (x : ShardNode) → shard_at w d sh ≡ Some x → ShardBlank t x

module _ (t : ℕ) (w : Parties) (sent : List Envelope) (u : Unknown t w sent) where
  more_blank : (from : Party) (ms : Posts) → EachTo (λ (to : Party) (m : Msg). Blank t m) ms → (e : Envelope) → In e (sent ++ envelopes from ms) → Blank t e.msg
  more_blank from ms says e i = ⊎_elim (λ old. u.sent_blank e old) (λ (new : In (e.to, e.msg) ms × (e.from ≡ from)). says.each e.to e.msg new.0) (in_sent sent from ms e i)

  pub coord_changed : (d : ℕ) (x y : CoordNode) (r : Option Record) (from : Party) (ms : Posts) → coord_at w d ≡ Some x → CoordBlank t y → EachTo (λ (to : Party) (m : Msg). Blank t m) ms → Unknown t (with_coord w d y r) (sent ++ envelopes from ms)
  coord_changed d x y r from ms there blank says =
      record {
        sent_blank = more_blank from ms says;
        coords = λ e z is. ⊎_elim
            (λ (same : e ≡ d). subst (CoordBlank t) (some_is y z (sym (coord_set w d x y r there) ∙ subst (λ (n : ℕ). coord_at (with_coord w d y r) n ≡ Some z) same is)) blank)
            (λ (n : e ≡ d → ⊥). u.coords e z (sym (coord_set_other w d e x y r there n) ∙ is))
            (nat_dec e d);
        shards = u.shards;
      }

  pub shard_changed : (d sh : ℕ) (x y : ShardNode) (from : Party) (ms : Posts) → shard_at w d sh ≡ Some x → ShardBlank t y → EachTo (λ (to : Party) (m : Msg). Blank t m) ms → Unknown t (with_shard w d sh y) (sent ++ envelopes from ms)
  shard_changed d sh x y from ms there blank says =
      record {
        sent_blank = more_blank from ms says;
        coords = u.coords;
        shards = λ e eh z is. ⊎_elim
            (λ (a : e ≡ d). ⊎_elim
            (λ (b : eh ≡ sh).
            let is2 : shard_at (with_shard w d sh y) d sh ≡ Some z = subst (λ (n : ℕ × ℕ). shard_at (with_shard w d sh y) n.0 n.1 ≡ Some z) (λ i. (a i, b i)) is in
            subst (ShardBlank t) (some_is y z (sym (shard_set w d sh x y there) ∙ is2)) blank)
            (λ (n : eh ≡ sh → ⊥). u.shards e eh z (sym (shard_set_other w d sh e eh x y there (λ p. n p.1)) ∙ is)) (nat_dec eh sh))
            (λ (n : e ≡ d → ⊥). u.shards e eh z (sym (shard_set_other w d sh e eh x y there (λ p. n p.0)) ∙ is))
            (nat_dec e d);
      }

  -- another client acts, or begins
  pub client_changed : (clients : Table ℕ Client) (from : Party) (ms : Posts) → EachTo (λ (to : Party) (m : Msg). Blank t m) ms → Unknown t (record w { clients = clients }) (sent ++ envelopes from ms)
  client_changed clients from ms says = record { sent_blank = more_blank from ms says; coords = u.coords; shards = u.shards }

  -- what a client of another transaction says does not name t
  speaks_blank : (n : ℕ) → (n ≡ t → ⊥) → (to : Party) (m : Msg) (slots : List Slot) → Speaks w.layout n slots to m → Blank t m
  speaks_blank n apart to (ReadAsk v k) ss h = λ e. apart (sym h.0 ∙ e)
  speaks_blank n apart to (ReadCancel v k) ss h = λ e. apart (sym h ∙ e)
  speaks_blank n apart to (Propose v b o) ss h = λ e. apart (sym h ∙ e)
  speaks_blank n apart to (Abandon v) ss h = λ e. apart (sym h ∙ e)
  speaks_blank n apart to _ ss h = absurd h

  pub client_acted : (n : ℕ) (x : Client) (k : ClientCause) → (n ≡ t → ⊥) → ((s : Slot) → In s x.slots → slot_of x.slots s.key ≡ Some s) → EachTo (λ (to : Party) (m : Msg). Blank t m) (client_act w.layout n x k).sends
  client_acted n x k apart keys =
      on_maybe (λ (a : ClientAct). EachTo (λ (to : Party) (m : Msg). Blank t m) a.sends) (refusal x k) _ _
      (λ _. record { each = λ to m i. speaks_blank n apart to m _ ((client_says w.layout n x keys k).each to m i) })
      (λ _ _. to_none (λ (to : Party) (m : Msg). Blank t m))

  -- what comes does not name t
  pub cause_blank : (e : Event) (d : ℕ) (k : NodeCause) → ((n : ℕ) → e ≡ Take d n → n ≡ t → ⊥) → CoordWhy sent e d k → CauseBlank t k
  cause_blank e d (Comes from m) other why = u.sent_blank _ (in_message sent why.0 _ why.3)
  cause_blank e d Catches other why = tt
  cause_blank e d (Takes n) other why = other n why

  pub shard_cause_blank : (e : Event) (d sh : ℕ) (k : NodeCause) → ShardWhy sent e d sh k → CauseBlank t k
  shard_cause_blank e d sh (Comes from m) why = u.sent_blank _ (in_message sent why.0 _ why.3)
  shard_cause_blank e d sh Catches why = tt
  shard_cause_blank e d sh (Takes n) why = absurd why

  empty_volatile : CoordBlankVolatile t new_coord_volatile
  empty_volatile = record { gathers = λ g i. i; takeovers = λ k i. i; votes = λ tl i. i }

  empty_marks : MarksBlank t new_shard_volatile
  empty_marks = record { plain = λ k i. i; lost = λ k i. i; waiting = λ k i. i }

  -- COORDINATORS
  module _ (d : ℕ) (x : CoordNode) (there : coord_at w d ≡ Some x) where
    pub coord_goes_blank : (k : NodeCause) → CauseBlank t k → (from : Party) → Unknown t (with_coord w d (coord_after x (coord_act w.layout d x.durable x.volatile k)) (coord_act w.layout d x.durable x.volatile k).logs) (sent ++ envelopes from (coord_act w.layout d x.durable x.volatile k).sends)
    coord_goes_blank k n from =
        let a : CoordAct = coord_act w.layout d x.durable x.volatile k in
        coord_changed d x (coord_after x a) a.logs from a.sends there (coord_stays_blank t w.layout d x (u.coords d x there) k n (coord_after x a) refl (inl refl)) (coord_says_nothing t w.layout d x (u.coords d x there) k n)

    pub coord_halts_blank : (k : NodeCause) → CauseBlank t k → (kept : Bool) (r : Record) → (coord_act w.layout d x.durable x.volatile k).logs ≡ Some r → (from : Party)
        → Unknown t (with_coord w d (coord_stopped x (kept_record kept r)) (kept_record kept r)) (sent ++ envelopes from [])
    coord_halts_blank k n true r logs from =
        coord_changed d x (coord_stopped x (Some r)) (Some r) from [] there
        (coord_stays_blank t w.layout d x (u.coords d x there) k n (coord_stopped x (Some r)) (ap (λ (o : Option Record). applied coord_applied x.durable o) (sym logs)) (inr empty_volatile)) (to_none (λ (to : Party) (m : Msg). Blank t m))
    coord_halts_blank k n false r logs from = coord_crashes_blank from
      where
        coord_crashes_blank : (from : Party) → Unknown t (with_coord w d (coord_stopped x None) None) (sent ++ envelopes from [])
        coord_crashes_blank from =
            let b = u.coords d x there in
            coord_changed d x (coord_stopped x None) None from [] there
            (record { promise = b.promise; accepted = b.accepted; listed = b.listed; gathers = λ g i. i; takeovers = λ k i. i; votes = λ tl i. i }) (to_none (λ (to : Party) (m : Msg). Blank t m))

    pub coord_crashed_blank : (from : Party) → Unknown t (with_coord w d (coord_stopped x None) None) (sent ++ envelopes from [])
    coord_crashed_blank from =
        let b = u.coords d x there in
        coord_changed d x (coord_stopped x None) None from [] there
        (record { promise = b.promise; accepted = b.accepted; listed = b.listed; gathers = λ g i. i; takeovers = λ k i. i; votes = λ tl i. i }) (to_none (λ (to : Party) (m : Msg). Blank t m))

    pub coord_woken_blank : (coord_started x.log).durable ≡ x.durable → (from : Party)
        → Unknown t (with_coord w d (coord_after (coord_started x.log) (coord_catches w.layout d new_coord_volatile)) None) (sent ++ envelopes from (coord_catches w.layout d new_coord_volatile).sends)
    coord_woken_blank same from =
        let b = u.coords d x there in
        let y : CoordNode = coord_after (coord_started x.log) (coord_catches w.layout d new_coord_volatile) in
        let z : CoordBlank t y = record {
          promise = ap (λ (s : CoordDurable). promise_of s.promises t) same ∙ b.promise;
          accepted = λ a is. b.accepted a (ap (λ (s : CoordDurable). found nat_cmp s.accepted t) (sym same) ∙ is);
          listed = λ o i. b.listed o (subst (λ (s : CoordDurable). In (t, o) s.outcomes) same i);
          gathers = λ g i. i;
          takeovers = λ k i. i;
          votes = λ tl i. i;
        } in
        coord_changed d x y None from (coord_catches w.layout d new_coord_volatile).sends there z (coord_says_nothing t w.layout d y z Catches tt)

  -- SHARD SERVERS
  module _ (d sh : ℕ) (x : ShardNode) (there : shard_at w d sh ≡ Some x) where
    pub shard_goes_blank : (k : NodeCause) → CauseBlank t k → (from : Party) → Unknown t (with_shard w d sh (shard_after x (shard_act w.layout d sh x.durable x.volatile k))) (sent ++ envelopes from (shard_act w.layout d sh x.durable x.volatile k).sends)
    shard_goes_blank k n from =
        let b = u.shards d sh x there in
        shard_changed d sh x (shard_after x (shard_act w.layout d sh x.durable x.volatile k)) from (shard_act w.layout d sh x.durable x.volatile k).sends there
        (record { durable = shard_durable_blank t w.layout d sh x b k n; marks = shard_marks_blank t w.layout d sh x b k n }) (shard_says_nothing t w.layout d sh x b k n)

    pub shard_crashed_blank : (from : Party) → Unknown t (with_shard w d sh (shard_stopped x None)) (sent ++ envelopes from [])
    shard_crashed_blank from = shard_changed d sh x (shard_stopped x None) from [] there (record { durable = (u.shards d sh x there).durable; marks = empty_marks }) (to_none (λ (to : Party) (m : Msg). Blank t m))

    pub shard_halts_blank : (k : NodeCause) → CauseBlank t k → (kept : Bool) (r : Record) → (shard_act w.layout d sh x.durable x.volatile k).logs ≡ Some r → (from : Party) → Unknown t (with_shard w d sh (shard_stopped x (kept_record kept r))) (sent ++ envelopes from [])
    shard_halts_blank k n false r logs from = shard_crashed_blank from
    shard_halts_blank k n true r logs from =
        shard_changed d sh x (shard_stopped x (Some r)) from [] there
        (record { durable = subst (λ (o : Option Record). DurableBlank t (applied shard_applied x.durable o)) logs (shard_durable_blank t w.layout d sh x (u.shards d sh x there) k n); marks = empty_marks }) (to_none (λ (to : Party) (m : Msg). Blank t m))

    pub shard_woken_blank : (shard_started x.log).durable ≡ x.durable → (from : Party)
        → Unknown t (with_shard w d sh (shard_after (shard_started x.log) (shard_catches d new_shard_volatile))) (sent ++ envelopes from (shard_catches d new_shard_volatile).sends)
    shard_woken_blank same from =
        let y : ShardNode = shard_after (shard_started x.log) (shard_catches d new_shard_volatile) in
        let z : ShardBlank t y = record { durable = subst (DurableBlank t) (sym same) (u.shards d sh x there).durable; marks = empty_marks } in
        shard_changed d sh x y from (shard_catches d new_shard_volatile).sends there z (shard_says_nothing t w.layout d sh y z Catches tt)
