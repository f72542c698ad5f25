-- A read and what it causes, batch by batch: asks, grants, cancels.
use Rattle.std.proofs.Common.{◌≡◌, ℕ, suc, ◌≤◌, ◌<◌, List, [], ◌∷◌, refl, sym, ap, ◌∙◌, subst, arith, Bool, true, false, cond, Option, Some, None, ⊎_elim}
use Rattle.std.specs.Prelude.{if◌then◌else◌, nat_le, ◌==◌}
use Rattle.std.proofs.lemmas.Bool.{le-leb, lt-leb, eq-eqb, ne_eqb}
use Rattle.std.proofs.lemmas.List.{append-nil}
use Rattle.std.specs.Ordering.{nat_cmp}
use Rattle.std.specs.Map.{lookup, set_value}
use Rattle.std.specs.BTreeMap.{is_at}
use Rattle.rc_ids.specs.Tables.{Table, found, maybe, up_to}
use Rattle.rc_ids.specs.Cluster.{Layout, is_quorum, is_dc, shard_of}
use Rattle.rc_ids.specs.declared.names.Party.{Party}
use Rattle.rc_msg.specs.declared.msg.Msg.TheVariants.{Granted}
use Rattle.rc_msg.specs.declared.msg.Envelope.{Envelope}
use Rattle.rc_report.specs.declared.line.Line.{Line}
use Rattle.rc_report.specs.declared.line.Line.TheVariants.{Read as ReadLine}
use Rattle.rc_record.specs.ShardState.{version_at, value_at}
use Rattle.rc_protocol.specs.Messages.{client_of, shard_server}
use Rattle.rc_serial.specs.OneMap.{Map}
use Rattle.rc_protocol.specs.Client.{Client, ClientAct, ClientRefusal, Slot, slot_of, reads_on, is_committing, client_row, client_stays, cancels}
use Rattle.rc_runs.specs.Refusals.{worn_out, limit_of}
use Rattle.rc_runs.specs.World.{Parties, Deed, Idle, ByClient, received, parties_after, replaced, with_client, sends_of, lines_of, envelopes}
use Rattle.rc_calm_batches.proofs.Passes.{deed_of, after_all, Turned, Turns, each}
use Rattle.rc_calm_batches.proofs.Batches.{loop}
use Rattle.rc_calm_batches.proofs.Stages.{Rests, is_a_dc}
use Rattle.rc_calm_batches.proofs.Grants.{grants}
use Rattle.rc_calm_batches.proofs.Reading.{reading, finished, keeps, ends, late}
use Rattle.rc_calm_batches.proofs.Quorums.{IsLeast}
use Rattle.rc_calm_batches.proofs.Indices.{compare}

-- CLIENTS
module _ {K X : Type 0} (test : K → Bool) where
  pub found_set : (es : List (K × X)) (v w : X) → lookup test es ≡ Some v → lookup test (set_value test es w) ≡ Some w
  found_set [] v w h = absurd (cc)
  found_set (e ∷ es) v w h = go (test e.0) refl h (found_set es v w)
    where
      go : (b : Bool) → test e.0 ≡ b → cond b (Some e.1) (lookup test es) ≡ Some v → (lookup test es ≡ Some v → lookup test (set_value test es w) ≡ Some w) → lookup test (set_value test (e ∷ es) w) ≡ Some w
      go true q i more = rw q (rw q)
      go false q i more = let m = more i in rw q (rw (q, m))

  pub twice_set : (es : List (K × X)) (v w : X) → set_value test (set_value test es v) w ≡ set_value test es w
  twice_set [] v w = refl
  twice_set (e ∷ es) v w = go (test e.0) refl (twice_set es v w)
    where
      go : (b : Bool) → test e.0 ≡ b → set_value test (set_value test es v) w ≡ set_value test es w → set_value test (set_value test (e ∷ es) v) w ≡ set_value test (e ∷ es) w
      go true q more = rw q (rw q)
      go false q more = rw q (rw (q, more))

module _ (b : Parties) (m : Map) (over : List ℕ) (t : ℕ) (keys : List (List ℕ)) (x : Client) (there : found nat_cmp b.clients t ≡ Some x) where
  -- all is at rest, and t's client is y
  abbrev pub With : Client → Parties → Type 0
  With y p = Rests (with_client b t y) m over t keys p

  -- t's client acts
  pub acts : (y z : Client) (e : Envelope) (p : Parties) (act : ClientAct) → e.to ≡ client_of t → With y p → client_row b.layout t y e.msg ≡ act → act.after ≡ z → act.refused ≡ None
      → Turned (With z) (e ∷ []) (envelopes (client_of t) act.sends) act.lines p
  acts y z e p act to h row after fine =
      let clients : p.clients ≡ replaced b.clients t y = h.beside.clients in
      let is : found nat_cmp p.clients t ≡ Some y = ap (λ (cs : Table ℕ Client). found nat_cmp cs t) clients ∙ found_set (λ k. is_at (nat_cmp t) k) b.clients x y there in
      let l = h.beside.layout in
      let deed : deed_of p e ≡ ByClient t act =
      ap (received p e) to ∙ (ap (λ (o : Option Client). maybe o Idle (λ w. ByClient t (client_row p.layout t w e.msg))) is ∙ ap (ByClient t) (ap (λ (c : Layout). client_row c t y e.msg) l ∙ row)) in
      record {
        after = subst (λ (d : Deed). With z (parties_after p d)) (sym deed)
            (record {
              beside = record {
                layout = l;
                start = h.beside.start;
                coords = h.beside.coords;
                clients = ap (λ (cs : Table ℕ Client). replaced cs t act.after) clients ∙ (twice_set (λ k. is_at (nat_cmp t) k) b.clients y act.after ∙ ap (λ (w : Client). replaced b.clients t w) after);
                committed = h.beside.committed;
              };
              shards = h.shards;
            });
        sends = append-nil (envelopes e.to (sends_of (deed_of p e))) ∙ (ap (λ (q : Party). envelopes q (sends_of (deed_of p e))) to ∙ ap (λ (d : Deed). envelopes (client_of t) (sends_of d)) deed);
        prints = append-nil (lines_of (deed_of p e)) ∙ ap lines_of deed;
        lasts = (ap worn_out deed ∙ ap (λ (o : Option ClientRefusal). maybe o None limit_of) fine, tt);
      }

module _ (b : Parties) (m : Map) (over : List ℕ) (t : ℕ) (keys : List (List ℕ)) (x : Client) (there : found nat_cmp b.clients t ≡ Some x)
    (s : Slot) (k : List ℕ) (prints : Bool) (at : slot_of x.slots k ≡ Some s) (key : s.key ≡ k) (on : reads_on x.phase ≡ true) (waits : is_committing x.phase ≡ false)
    (q : ℕ) (least : IsLeast b.layout 1 b.layout.dcs q) where
  abbrev version : ℕ
  version = version_at m k

  abbrev value : Option (List ℕ)
  value = value_at m k

  abbrev pub grant_to : ℕ → Envelope
  grant_to d = record { from = shard_server d (shard_of b.layout k); to = client_of t; msg = Granted t k d version value }

  -- after the grants of d1 to di
  abbrev pub taken : ℕ → Client
  taken i = if nat_le q i then finished b.layout t x s k prints version value at key on else reading b.layout t x s k prints version value at key on i

  -- what the client says to the others, and prints, at the grant of d
  abbrev pub cancelled : ℕ → List Envelope
  cancelled d = if d == q then envelopes (client_of t) (cancels b.layout t s.key (grants version value d)) else []

  abbrev pub read_lines : ℕ → List Line
  read_lines d = if d == q then (if prints then ReadLine t s.key version value ∷ [] else []) else []

  abbrev W : Client → Parties → Type 0
  W = With b m over t keys x there

  abbrev before : ℕ → Client
  before i = reading b.layout t x s k prints version value at key on i

  abbrev after : Client
  after = finished b.layout t x s k prints version value at key on

  turned_as : (y z : Client) (es o u : List Envelope) (ls ms : List Line) (p : Parties) → y ≡ z → o ≡ u → ls ≡ ms → Turned (W y) es o ls p → Turned (W z) es u ms p
  turned_as y z es o u ls ms p e f g h = record { after = subst (λ (c : Client). W c (after_all p es)) e h.after; sends = h.sends ∙ f; prints = h.prints ∙ g; lasts = h.lasts }

  grant_turn : (i : ℕ) → suc i ≤ b.layout.dcs → Turns (W (taken i)) (grant_to (suc i) ∷ []) (W (taken (suc i))) (cancelled (suc i)) (read_lines (suc i))
  grant_turn i le p h = ⊎_elim early (λ z. ⊎_elim now too_late z) (compare (suc i) q)
    where
      dc : is_dc b.layout (suc i) ≡ true
      dc = is_a_dc b.layout (suc i) (omega arith) le

      early : suc i < q → Turned (W (taken (suc i))) (grant_to (suc i) ∷ []) (cancelled (suc i)) (read_lines (suc i)) p
      early lt =
          let a : nat_le q i ≡ false = lt-leb q i (omega (arith, lt)) in
          let d : nat_le q (suc i) ≡ false = lt-leb q (suc i) (omega (arith, lt)) in
          let e : (suc i == q) ≡ false = ne_eqb (suc i) q (λ f. omega (arith, lt, f)) in
          let was : W (before i) p = subst (λ (v : Bool). W (if v then after else before i) p) a h in
          turned_as (before (suc i)) (taken (suc i)) _ [] (cancelled (suc i)) [] (read_lines (suc i)) p (rw d) (rw e) (rw e)
          (acts b m over t keys x there (before i) (before (suc i)) (grant_to (suc i)) p (client_stays (before (suc i))) refl was (keeps b.layout t x s k prints version value at key on i dc (least.none (suc i) (omega arith) lt)) refl refl)

      now : suc i ≡ q → Turned (W (taken (suc i))) (grant_to (suc i) ∷ []) (cancelled (suc i)) (read_lines (suc i)) p
      now is =
          let a : nat_le q i ≡ false = lt-leb q i (omega (arith, is)) in
          let d : nat_le q (suc i) ≡ true = le-leb q (suc i) (omega (arith, is)) in
          let e : (suc i == q) ≡ true = eq-eqb (suc i) q is in
          let was : W (before i) p = subst (λ (v : Bool). W (if v then after else before i) p) a h in
          let full : is_quorum b.layout (up_to (suc i)) ≡ true = subst (λ (z : ℕ). is_quorum b.layout (up_to z) ≡ true) (sym is) least.enough in
          turned_as after (taken (suc i)) _ (envelopes (client_of t) (cancels b.layout t s.key (grants version value (suc i)))) (cancelled (suc i))
          (if prints then ReadLine t s.key version value ∷ [] else []) (read_lines (suc i)) p (rw d) (rw e) (rw e)
          (acts b m over t keys x there (before i) after (grant_to (suc i)) p _ refl was (ends b.layout t x s k prints version value at key on i dc full waits) refl refl)

      too_late : q < suc i → Turned (W (taken (suc i))) (grant_to (suc i) ∷ []) (cancelled (suc i)) (read_lines (suc i)) p
      too_late lt =
          let a : nat_le q i ≡ true = le-leb q i (omega (arith, lt)) in
          let d : nat_le q (suc i) ≡ true = le-leb q (suc i) (omega (arith, lt)) in
          let e : (suc i == q) ≡ false = ne_eqb (suc i) q (λ f. omega (arith, lt, f)) in
          let was : W after p = subst (λ (v : Bool). W (if v then after else before i) p) a h in
          turned_as after (taken (suc i)) _ [] (cancelled (suc i)) [] (read_lines (suc i)) p (rw d) (rw e) (rw e)
          (acts b m over t keys x there after after (grant_to (suc i)) p (client_stays after) refl was (late b.layout t x s k prints version value at key on (suc i) dc) refl refl)

  -- the batch of grants
  pub grants_turn : Turns (W (taken 0)) (each b.layout.dcs (λ d. grant_to d ∷ [])) (W (taken b.layout.dcs)) (each b.layout.dcs cancelled) (each b.layout.dcs read_lines)
  grants_turn = loop b.layout.dcs (λ i. W (taken i)) (λ d. grant_to d ∷ []) cancelled read_lines grant_turn b.layout.dcs (omega arith)
