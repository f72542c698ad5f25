-- The votes of the datacentres in order, each heard by all coordinators and by the client: with the q-th one all learn the commit.
use Rattle.std.proofs.Common.{◌≡◌, ℕ, suc, ◌≤◌, ◌<◌, List, [], ◌∷◌, refl, sym, ap, ◌∙◌, subst, arith, Bool, true, false, Some, None, ⊎_elim}
use Rattle.std.specs.Prelude.{if◌then◌else◌, nat_le, ◌==◌}
use Rattle.std.proofs.lemmas.Bool.{le-leb, lt-leb, eq-eqb, ne_eqb}
use Rattle.std.proofs.lemmas.List.{append-nil}
use Rattle.std.specs.Ordering.{nat_cmp}
use Rattle.rc_ids.specs.Tables.{found, up_to}
use Rattle.rc_ids.specs.Cluster.{Layout, is_quorum}
use Rattle.rc_ids.specs.declared.names.Outcome.TheVariants.{Commit as Committed}
use Rattle.rc_body.specs.declared.entry.Entry.{Entry}
use Rattle.rc_body.specs.declared.decision.Decision.TheVariants.{Commit}
use Rattle.rc_msg.specs.declared.msg.Envelope.{Envelope}
use Rattle.rc_report.specs.declared.line.Line.{Line}
use Rattle.rc_report.specs.declared.line.Line.TheVariants.{Learned}
use Rattle.rc_protocol.specs.Messages.{client_of, coordinator}
use Rattle.rc_protocol.specs.Coordinator.{CoordAct, is_decided_by}
use Rattle.rc_protocol.specs.Client.{Client, ClientAct, Done, Proposed, Slot, client_row, client_stays, client_prints}
use Rattle.rc_protocol.specs.Nodes.{ShardNode, coord_after}
use Rattle.rc_runs.specs.World.{Parties, envelopes}
use Rattle.rc_runs.specs.Votes.{ordered}
use Rattle.rc_calm_batches.proofs.Passes.{Turned, Turns, after_all, each}
use Rattle.rc_calm_batches.proofs.Sizes.{Ready}
use Rattle.rc_calm_batches.proofs.Batches.{both, loop}
use Rattle.rc_calm_batches.proofs.Stages.{is_a_dc}
use Rattle.rc_calm_batches.proofs.Quorums.{IsLeast}
use Rattle.rc_calm_batches.proofs.Indices.{compare}
use Rattle.rc_calm_batches.proofs.ReadDrains.{none_each, one_each}
use Rattle.rc_calm_batches.proofs.Acting.{Stage, client_acts}
use Rattle.rc_calm_batches.proofs.Rounds.{which_true, to_false, coords_turn, with_coords}
use Rattle.rc_calm_batches.proofs.Stands.{tally, Counts}
use Rattle.rc_calm_batches.proofs.Proposing.{ballot, told, votes_of}
use Rattle.rc_calm_batches.proofs.Tallies.{counted_next, decides, Knows, Heard, hears, out_at, finishes_of}

module _ (b : Parties) (over : List ℕ) (t : ℕ) (body : List Entry) (fresh : Ready over t body) (q : ℕ) (least : IsLeast b.layout 1 b.layout.dcs q) (slots : List Slot) (refusals : List ℕ) where
  abbrev c : Layout
  c = b.layout

  -- THE CLIENT: it has proposed and heard the first i votes, or it is done
  abbrev pub waiting : ℕ → Client
  waiting i = record { phase = Proposed; slots = slots; refusals = refusals; votes = tally c over t body i; outcome = None }

  abbrev pub done : Client
  done = record { phase = Done; slots = slots; refusals = refusals; votes = tally c over t body q; outcome = Some (Commit body) }

  abbrev pub hearing : ℕ → Client
  hearing i = if nat_le q i then done else waiting i

  abbrev pub line : Line
  line = Learned t Committed

  abbrev lines_at : ℕ → List Line
  lines_at d = if d == q then line ∷ [] else []

  early_row : (i : ℕ) → suc i ≤ c.dcs → suc i < q → client_row c t (waiting i) (told b over t body fresh (suc i)).msg ≡ client_stays (waiting (suc i))
  early_row i le lt =
      let dc = is_a_dc c (suc i) (omega arith) le in
      let few : is_decided_by c (tally c over t body i) 0 (suc i) (Commit body) ≡ false = decides c over t body i ∙ least.none (suc i) (omega arith) lt in
      let next = counted_next c over t body i in let own = eq-eqb t t refl in rw (own, dc, few, next)

  last_row : (i : ℕ) → suc i ≤ c.dcs → suc i ≡ q → client_row c t (waiting i) (told b over t body fresh (suc i)).msg ≡ client_prints done line
  last_row i le is =
      let dc = is_a_dc c (suc i) (omega arith) le in
      let enough : is_decided_by c (tally c over t body i) 0 (suc i) (Commit body) ≡ true = decides c over t body i ∙ subst (λ (z : ℕ). is_quorum c (up_to z) ≡ true) (sym is) least.enough in
      let next = counted_next c over t body i ∙ ap (tally c over t body) is in let own = eq-eqb t t refl in rw (own, dc, enough, next)

  late_row : (d : ℕ) → 1 ≤ d → d ≤ c.dcs → client_row c t done (told b over t body fresh d).msg ≡ client_stays done
  late_row d d1 d2 = let dc = is_a_dc c d d1 d2 in let own = eq-eqb t t refl in rw (own, dc)

  module _ (x : Client) (there : found nat_cmp b.clients t ≡ Some x) (S : ℕ → ℕ → ShardNode → Type 0) (o : List (ℕ × List Entry)) where
    abbrev St : ℕ → Client → Parties → Type 0
    St i y = Stage b t (λ d z. Heard b over t body fresh q least i z) S y o

    client_turn : (i : ℕ) → suc i ≤ c.dcs → Turns (St (suc i) (hearing i)) (told b over t body fresh (suc i) ∷ []) (St (suc i) (hearing (suc i))) [] (lines_at (suc i))
    client_turn i le p h = ⊎_elim early (λ z. ⊎_elim now late z) (compare (suc i) q)
      where
        to : (y z : Client) (act : ClientAct) → hearing i ≡ y → hearing (suc i) ≡ z → client_row c t y (told b over t body fresh (suc i)).msg ≡ act → act.after ≡ z → act.sends ≡ [] → act.lines ≡ lines_at (suc i) → act.refused ≡ None
            → Turned (St (suc i) (hearing (suc i))) (told b over t body fresh (suc i) ∷ []) [] (lines_at (suc i)) p
        to y z act e f row after sends lines fine =
            let r = client_acts b t x (λ d w. Heard b over t body fresh q least (suc i) w) S o y z (told b over t body fresh (suc i)) act p there refl row after fine (subst (λ (w : Client). St (suc i) w p) e h) in
            record {
              after = subst (λ (w : Client). St (suc i) w (after_all p (told b over t body fresh (suc i) ∷ []))) (sym f) r.after;
              sends = r.sends ∙ ap (envelopes (client_of t)) sends;
              prints = r.prints ∙ lines;
              lasts = r.lasts;
            }

        early : suc i < q → Turned (St (suc i) (hearing (suc i))) (told b over t body fresh (suc i) ∷ []) [] (lines_at (suc i)) p
        early lt =
            let a : nat_le q i ≡ false = lt-leb q i (omega (arith, lt)) in
            let e : nat_le q (suc i) ≡ false = lt-leb q (suc i) lt in
            let n : (suc i == q) ≡ false = ne_eqb (suc i) q (λ f. omega (arith, lt, f)) in
            to (waiting i) (waiting (suc i)) (client_stays (waiting (suc i))) (rw a) (rw e) (early_row i le lt) refl refl (rw n) refl

        now : suc i ≡ q → Turned (St (suc i) (hearing (suc i))) (told b over t body fresh (suc i) ∷ []) [] (lines_at (suc i)) p
        now is =
            let a : nat_le q i ≡ false = lt-leb q i (omega (arith, is)) in
            let e : nat_le q (suc i) ≡ true = le-leb q (suc i) (omega (arith, is)) in
            let n : (suc i == q) ≡ true = eq-eqb (suc i) q is in
            to (waiting i) done (client_prints done line) (rw a) (rw e) (last_row i le is) refl refl (rw n) refl

        late : q < suc i → Turned (St (suc i) (hearing (suc i))) (told b over t body fresh (suc i) ∷ []) [] (lines_at (suc i)) p
        late lt =
            let a : nat_le q i ≡ true = le-leb q i (omega (arith, lt)) in
            let e : nat_le q (suc i) ≡ true = le-leb q (suc i) (omega (arith, lt)) in
            let n : (suc i == q) ≡ false = ne_eqb (suc i) q (λ f. omega (arith, lt, f)) in
            to done done (client_stays done) (rw a) (rw e) (late_row (suc i) (omega arith) le) refl refl (rw n) refl

    coords_hear : (i : ℕ) → suc i ≤ c.dcs → Turns (St i (hearing i)) (each c.dcs (λ e. ballot b over t body fresh (suc i) e ∷ [])) (St (suc i) (hearing i)) (each c.dcs (out_at b over t body fresh q least i)) []
    coords_hear i le =
        coords_turn b t (hearing i) S (λ d z. Heard b over t body fresh q least i z) (λ d z. Heard b over t body fresh q least (suc i) z) (λ j. o) (ballot b over t body fresh (suc i)) (out_at b over t body fresh q least i) (λ d. refl)
        (λ d z d1 d2 w.
        let k = hears b over t body fresh q least i d z le w in (
          k.up,
          subst (λ (a : CoordAct). Heard b over t body fresh q least (suc i) (coord_after z a)) (sym k.is) k.after,
          ap (λ (a : CoordAct). envelopes (coordinator d) a.sends) k.is ∙ k.sends,
          ap (λ (a : CoordAct). a.spent) k.is ∙ k.spent,
        ))
        (λ j z cs le2 w all. let k = hears b over t body fresh q least i (suc j) z le w in ap (λ (a : CoordAct). ordered c cs [] o a.logs) k.is ∙ k.orders cs o)

    abbrev finishes_at : ℕ → List Envelope
    finishes_at d = if d == q then each c.dcs (finishes_of b over t body fresh q least) else []

    together : (n : ℕ) (v : Bool) (f : ℕ → List Envelope) → each n (λ e. if v then f e else []) ≡ (if v then each n f else [])
    together n true f = refl
    together n false f = none_each n

    block : (i : ℕ) → suc i ≤ c.dcs → Turns (St i (hearing i)) (votes_of b over t body fresh (suc i)) (St (suc i) (hearing (suc i))) (finishes_at (suc i)) (lines_at (suc i))
    block i le p h =
        let z = both (St i (hearing i)) (St (suc i) (hearing i)) (St (suc i) (hearing (suc i))) (each c.dcs (λ e. ballot b over t body fresh (suc i) e ∷ [])) (told b over t body fresh (suc i) ∷ [])
        (each c.dcs (out_at b over t body fresh q least i)) [] [] (lines_at (suc i)) (coords_hear i le) (client_turn i le) p h in
        record { after = z.after; sends = z.sends ∙ (append-nil (each c.dcs (out_at b over t body fresh q least i)) ∙ together c.dcs (suc i == q) (finishes_of b over t body fresh q least)); prints = z.prints; lasts = z.lasts }

    pub votes_turn : Turns (Stage b t (λ d z. Counts c over t body 0 z) S (waiting 0) o) (each c.dcs (votes_of b over t body fresh)) (Stage b t (λ d z. Knows c over t body z) S done o)
        (each c.dcs (finishes_of b over t body fresh q least)) (line ∷ [])
    votes_turn p h =
        let l = least.low in
        let first : nat_le q 0 ≡ false = lt-leb q 0 (omega (arith, l)) in
        let last : nat_le q c.dcs ≡ true = le-leb q c.dcs least.high in
        let start : St 0 (hearing 0) p = subst (λ (w : Client). St 0 w p) (let e : waiting 0 ≡ hearing 0 = rw first in e) (with_coords b t (waiting 0) (λ d z. Counts c over t body 0 z) (λ d z. Heard b over t body fresh q least 0 z) S o p (λ d z d1 d2 w. to_false (nat_le q 0) _ _ first w) h) in
        let z = loop c.dcs (λ i. St i (hearing i)) (votes_of b over t body fresh) finishes_at lines_at block c.dcs (omega arith) p start in
        let end : hearing c.dcs ≡ done = rw last in
        record {
          after = with_coords b t done (λ d w. Heard b over t body fresh q least c.dcs w) (λ d w. Knows c over t body w) S o _ (λ d y d1 d2 w. which_true (nat_le q c.dcs) _ _ last w)
              (subst (λ (w : Client). St c.dcs w (after_all p (each c.dcs (votes_of b over t body fresh)))) end z.after);
          sends = z.sends ∙ one_each q (λ d. each c.dcs (finishes_of b over t body fresh q least)) c.dcs least.low least.high;
          prints = z.prints ∙ one_each q (λ d. line ∷ []) c.dcs least.low least.high;
          lasts = z.lasts;
        }
