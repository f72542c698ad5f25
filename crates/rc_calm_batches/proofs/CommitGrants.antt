-- The grants of one key that a commit reads, in order: at the q-th the read is complete, and the client goes on.
use Rattle.std.proofs.Common.{◌≡◌, ℕ, suc, ◌≤◌, ◌<◌, List, [], ◌∷◌, ◌++◌, refl, sym, ap, ◌∙◌, subst, arith, Bool, true, false, Some, None, ⊎_elim}
use Rattle.std.specs.Prelude.{if◌then◌else◌, nat_le, ◌==◌}
use Rattle.std.proofs.lemmas.Bool.{le-leb, lt-leb, eq-eqb, ne_eqb}
use Rattle.std.specs.Ordering.{nat_cmp}
use Rattle.rc_ids.specs.Tables.{found, member, up_to}
use Rattle.rc_ids.specs.Cluster.{Layout, is_quorum, is_dc, shard_of}
use Rattle.rc_msg.specs.declared.msg.Msg.TheVariants.{Granted, ReadCancel}
use Rattle.rc_msg.specs.declared.msg.Envelope.{Envelope}
use Rattle.rc_record.specs.ShardState.{version_at, value_at}
use Rattle.rc_protocol.specs.Messages.{Posts, client_of, shard_server}
use Rattle.rc_serial.specs.OneMap.{Map}
use Rattle.rc_protocol.specs.Client.{Client, ClientAct, Slot, UnderWay, Complete, slot_of, with_read, reads_on, client_row, client_stays, cancels, cancel_to, granted_by, proposes_once_read}
use Rattle.rc_runs.specs.World.{Parties, envelopes}
use Rattle.rc_calm_batches.proofs.Passes.{Turned, Turns, after_all, each}
use Rattle.rc_calm_batches.proofs.Batches.{loop}
use Rattle.rc_calm_batches.proofs.Grants.{grants, granted_up, best_up}
use Rattle.rc_calm_batches.proofs.Reading.{reading, finished, keeps, slot_of_set, set_twice, wanted}
use Rattle.rc_calm_batches.proofs.ReadTurns.{With, acts}
use Rattle.rc_calm_batches.proofs.ReadDrains.{env_both, env_each, same_each, none_each, one_each, in_first}
use Rattle.rc_calm_batches.proofs.Stages.{is_a_dc}
use Rattle.rc_calm_batches.proofs.Quorums.{IsLeast}
use Rattle.rc_calm_batches.proofs.Indices.{compare}

module _ (b : Parties) (m : Map) (over : List ℕ) (t : ℕ) (keys : List (List ℕ)) (x : Client) (there : found nat_cmp b.clients t ≡ Some x) (q : ℕ) (least : IsLeast b.layout 1 b.layout.dcs q)
    (z : Client) (s : Slot) (k : List ℕ) (at : slot_of z.slots k ≡ Some s) (key : s.key ≡ k) (on : reads_on z.phase ≡ true) (last : Client) (more : Posts) where
  abbrev c : Layout
  c = b.layout

  abbrev N : ℕ
  N = c.dcs

  abbrev pub before : ℕ → Client
  before i = reading c t z s k false (version_at m k) (value_at m k) at key on i

  abbrev pub complete : Client
  complete = finished c t z s k false (version_at m k) (value_at m k) at key on

  abbrev pub grant_to : ℕ → Envelope
  grant_to d = record { from = shard_server d (shard_of c k); to = client_of t; msg = Granted t k d (version_at m k) (value_at m k) }

  abbrev pub cancel_of : ℕ → Envelope
  cancel_of d = record { from = client_of t; to = shard_server d (shard_of c k); msg = ReadCancel t k }

  abbrev pub cancels_of : List Envelope
  cancels_of = each N (λ d. if nat_le d q then [] else cancel_of d ∷ [])

  abbrev W : Client → Parties → Type 0
  W = With b m over t keys x there

  abbrev taken : ℕ → Client
  taken i = if nat_le q i then last else before i

  abbrev cancels_at : ℕ → Posts
  cancels_at d = cancels c t s.key (grants (version_at m k) (value_at m k) d)

  abbrev out_at : ℕ → List Envelope
  out_at d = if d == q then envelopes (client_of t) (cancels_at d ++ more) else []

  -- what the client then says
  told : envelopes (client_of t) (cancels_at q) ≡ cancels_of
  told = env_each (client_of t) N (cancel_to c t s.key (granted_by (grants (version_at m k) (value_at m k) q))) ∙ same_each N _ _ (λ d h. by d h)
    where
      by : (d : ℕ) → 1 ≤ d → envelopes (client_of t) (cancel_to c t s.key (granted_by (grants (version_at m k) (value_at m k) q)) d) ≡ (if nat_le d q then [] else record { from = client_of t; to = shard_server d (shard_of c k); msg = ReadCancel t k } ∷ [])
      by d h = let g = granted_up (version_at m k) (value_at m k) q in let i = in_first q d h in go d (nat_le d q) (ap (λ (z : List ℕ). member nat_cmp z d) g ∙ i)
        where
          go : (d : ℕ) (v : Bool) → member nat_cmp (granted_by (grants (version_at m k) (value_at m k) q)) d ≡ v
              → envelopes (client_of t) (cancel_to c t s.key (granted_by (grants (version_at m k) (value_at m k) q)) d) ≡ (if v then [] else record { from = client_of t; to = shard_server d (shard_of c k); msg = ReadCancel t k } ∷ [])
          go d true e = rw e
          go d false e = rw (e, key)

  abbrev end_act : ℕ → ClientAct
  end_act i = record { after = last; sends = cancels_at (suc i) ++ more; lines = []; refused = None }

  module _ (end : proposes_once_read c t complete ≡ record { after = last; sends = more; lines = []; refused = None }) (late : (d : ℕ) → is_dc c d ≡ true → client_row c t last (grant_to d).msg ≡ client_stays last) where
    end_row : (i : ℕ) → is_dc c (suc i) ≡ true → is_quorum c (up_to (suc i)) ≡ true → client_row c t (before i) (grant_to (suc i)).msg ≡ end_act i
    end_row i dc enough =
        let is = slot_of_set z.slots k s (with_read s (UnderWay false (grants (version_at m k) (value_at m k) i))) at key in
        let w = wanted c t z s k false (version_at m k) (value_at m k) at key on i in
        let full : is_quorum c (granted_by (grants (version_at m k) (value_at m k) (suc i))) ≡ true = ap (is_quorum c) (granted_up (version_at m k) (value_at m k) (suc i)) ∙ enough in
        let two = set_twice z.slots (with_read s (UnderWay false (grants (version_at m k) (value_at m k) i))) (with_read s (Complete (version_at m k) (value_at m k))) refl in
        let best = best_up (version_at m k) (value_at m k) i in
        let own = eq-eqb t t refl in
        rw (own, dc, on, is, w, full, best, two, end)

    turn : (i : ℕ) → suc i ≤ N → Turns (W (taken i)) (grant_to (suc i) ∷ []) (W (taken (suc i))) (out_at (suc i)) []
    turn i le p h = ⊎_elim early (λ v. ⊎_elim now too_late v) (compare (suc i) q)
      where
        dc : is_dc c (suc i) ≡ true
        dc = is_a_dc c (suc i) (omega arith) le

        to : (y w : Client) (act : ClientAct) (out : List Envelope) → taken i ≡ y → taken (suc i) ≡ w → client_row c t y (grant_to (suc i)).msg ≡ act → act.after ≡ w → envelopes (client_of t) act.sends ≡ out_at (suc i) → act.lines ≡ [] → act.refused ≡ None
            → Turned (W (taken (suc i))) (grant_to (suc i) ∷ []) (out_at (suc i)) [] p
        to y w act out e f row after sends lines fine =
            let r = acts b m over t keys x there y w (grant_to (suc i)) p act refl (subst (λ (v : Client). W v p) e h) row after fine in
            record { after = subst (λ (v : Client). W v (after_all p (grant_to (suc i) ∷ []))) (sym f) r.after; sends = r.sends ∙ sends; prints = r.prints ∙ lines; lasts = r.lasts }

        early : suc i < q → Turned (W (taken (suc i))) (grant_to (suc i) ∷ []) (out_at (suc i)) [] p
        early lt =
            let a : nat_le q i ≡ false = lt-leb q i (omega (arith, lt)) in
            let d : nat_le q (suc i) ≡ false = lt-leb q (suc i) lt in
            let e : (suc i == q) ≡ false = ne_eqb (suc i) q (λ f. omega (arith, lt, f)) in
            to (before i) (before (suc i)) (client_stays (before (suc i))) [] (rw a) (rw d) (keeps c t z s k false (version_at m k) (value_at m k) at key on i dc (least.none (suc i) (omega arith) lt)) refl (rw e) refl refl

        now : suc i ≡ q → Turned (W (taken (suc i))) (grant_to (suc i) ∷ []) (out_at (suc i)) [] p
        now is =
            let a : nat_le q i ≡ false = lt-leb q i (omega (arith, is)) in
            let d : nat_le q (suc i) ≡ true = le-leb q (suc i) (omega (arith, is)) in
            let e : (suc i == q) ≡ true = eq-eqb (suc i) q is in
            let full : is_quorum c (up_to (suc i)) ≡ true = subst (λ (v : ℕ). is_quorum c (up_to v) ≡ true) (sym is) least.enough in
            to (before i) last (end_act i) [] (rw a) (rw d) (end_row i dc full) refl (rw e) refl refl

        too_late : q < suc i → Turned (W (taken (suc i))) (grant_to (suc i) ∷ []) (out_at (suc i)) [] p
        too_late lt =
            let a : nat_le q i ≡ true = le-leb q i (omega (arith, lt)) in
            let d : nat_le q (suc i) ≡ true = le-leb q (suc i) (omega (arith, lt)) in
            let e : (suc i == q) ≡ false = ne_eqb (suc i) q (λ f. omega (arith, lt, f)) in
            to last last (client_stays last) [] (rw a) (rw d) (late (suc i) dc) refl (rw e) refl refl

    pub key_turn : Turns (W (before 0)) (each N (λ d. grant_to d ∷ [])) (W last) (cancels_of ++ envelopes (client_of t) more) []
    key_turn p h =
        let l = least.low in
        let first : before 0 ≡ taken 0 = let e : nat_le q 0 ≡ false = lt-leb q 0 (omega (arith, l)) in rw e in
        let end : taken N ≡ last = let e : nat_le q N ≡ true = le-leb q N least.high in rw e in
        let v = loop N (λ i. W (taken i)) (λ d. grant_to d ∷ []) out_at (λ d. []) turn N (omega arith) p (subst (λ (w : Client). W w p) first h) in
        record {
          after = subst (λ (w : Client). W w (after_all p (each N (λ d. grant_to d ∷ [])))) end v.after;
          sends = v.sends ∙ (one_each q (λ d. envelopes (client_of t) (cancels_at d ++ more)) N least.low least.high ∙ (env_both (client_of t) (cancels_at q) more ∙ ap (λ (w : List Envelope). w ++ envelopes (client_of t) more) told));
          prints = v.prints ∙ none_each N;
          lasts = v.lasts;
        }
