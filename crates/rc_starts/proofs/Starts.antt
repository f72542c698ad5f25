-- What is taken from the logs of a world whose votes carry one body is a start of it.
use Rattle.std.proofs.Common.{◌≡◌, ℕ, suc, ◌<◌, ◌-◌, List, [], sym, ap, ◌∙◌, subst, true, Some, arith, ⊎_elim, length}
use Rattle.std.specs.Prelude.{map, slice_get}
use Rattle.rc_ids.specs.Tables.{In}
use Rattle.rc_ids.specs.Cluster.{Layout, IsLayout, is_dc}
use Rattle.rc_ids.proofs.QuorumFacts.{quorum_laws}
use Rattle.rc_ids.specs.declared.names.Outcome.TheVariants.{Commit as Committed, Abort as Aborted}
use Rattle.rc_body.specs.Decisions.{outcome_of}
use Rattle.rc_body.specs.declared.entry.Entry.{Entry}
use Rattle.rc_body.specs.declared.decision.Decision.{Decision}
use Rattle.rc_body.specs.declared.decision.Decision.TheVariants.{Commit, Abort}
use Rattle.rc_record.specs.declared.record.Record.{Record}
use Rattle.rc_record.specs.declared.record.Record.TheVariants.{Accepted}
use Rattle.rc_protocol.specs.Nodes.{CoordNode, coord_index}
use Rattle.rc_runs.specs.Votes.{is_chosen_at, is_listed}
use Rattle.rc_runs.specs.World.{World, Start, coord_at}
use Rattle.rc_claims.specs.Outcomes.{Chosen, IsCommitted, VotesOneBody}
use Rattle.rc_claims.specs.Lives.{IsStartOf}
use Rattle.rc_runs.specs.Starts.{start_of}
use Rattle.rc_agreement.proofs.Tables.{got_in, in_map}
use Rattle.rc_agreement.proofs.Places.{coord_dc, logged_there}
use Rattle.rc_agreement.proofs.Scenes.{scene, at}
use Rattle.rc_agreement.proofs.Ballots.{Vote}
use Rattle.rc_agreement.proofs.Choices.{choice_of, dc_of}
use Rattle.rc_agreement.proofs.Reopened.{open_node, open_server}
use Rattle.rc_agreement.proofs.Lists.{map_in}
use Rattle.rc_starts.proofs.Lists.{in_got}
use Rattle.rc_starts.proofs.Sizes.{got_below, Sized}
use Rattle.rc_starts.proofs.Naming.{named_again}
use Rattle.rc_starts.proofs.Choosing.{chosen_same, logs_list, Voted, logs_from}

differ : Aborted ≡ Committed → ⊥
differ e = cc

module _ (c : Layout) (lay : IsLayout c) (v : World) (size : Sized c (scene v)) (one_body : VotesOneBody v) where
  abbrev coords : List CoordNode
  coords = map open_node v.parties.coords

  abbrev start : Start
  start = start_of c coords (map open_server v.parties.shards)

  -- what the logs choose is what v chose
  same : (t b : ℕ) → is_chosen_at c coords Committed t b ≡ is_chosen_at v.parties.layout v.parties.coords Committed t b
  same t b = chosen_same c v.parties.coords Committed t b ∙ ap (λ k. is_chosen_at k v.parties.coords Committed t b) (sym size.layout)

  -- a node with a vote is one of those of v
  node_of : (d : ℕ) (x : CoordNode) → coord_at v.parties d ≡ Some x → In x v.parties.coords
  node_of d x is =
      let dc = coord_dc v.parties d x is in
      let got : slice_get v.parties.coords (coord_index d) ≡ Some x = rw dc at is in
      got_in v.parties.coords (coord_index d) x got

  node_in : (d : ℕ) (r : Record) → In r (at (scene v) d).log → In (at (scene v) d) v.parties.coords
  node_in d r i = node_of d (at (scene v) d) (logged_there v.parties d r i)

  all : (t : ℕ) → Chosen v Committed t → is_listed start.committed t ≡ true
  all t h =
      let ch = choice_of t (scene v) Committed h in
      let q = quorum_laws v.parties.layout (subst IsLayout (sym size.layout) lay) in
      let m = q.share ch.set ch.set ch.enough ch.enough in
      let x = ch.votes m.0 m.1 in
      by m.0 x.0 x.1 x.2
    where
      by : (d : ℕ) (o : Decision) → outcome_of o ≡ Committed → Vote t (scene v) d h.0 o → is_listed start.committed t ≡ true
      by d Abort e i = absurd (differ e)
      by d (Commit body) e i =
          logs_list c coords t h.0 body (same t h.0 ∙ h.1) coords [] (open_node (at (scene v) d))
          (map_in open_node (at (scene v) d) v.parties.coords (node_in d (Accepted t h.0 (Commit body)) i)) i

  -- the place of a node of v
  placed : (x : CoordNode) → In x v.parties.coords → (d : ℕ) × (coord_at v.parties d ≡ Some x)
  placed x i =
      let g = in_got v.parties.coords x i in
      let low : g.0 < length v.parties.coords = got_below v.parties.coords g.0 x g.1 in
      let many : length v.parties.coords ≡ c.dcs = size.many in
      let ok : is_dc c (suc g.0) ≡ true = dc_of c (suc g.0) (omega arith) (omega (arith, low, many)) in
      let dc : is_dc v.parties.layout (suc g.0) ≡ true = subst (λ (k : Layout). is_dc k (suc g.0) ≡ true) (sym size.layout) ok in
      let back : suc g.0 - 1 ≡ g.0 = omega arith in
      let here : slice_get v.parties.coords (suc g.0 - 1) ≡ Some x = subst (λ n. slice_get v.parties.coords n ≡ Some x) (sym back) g.1 in
      (suc g.0, rw dc here)

  chosen : (t : ℕ) (body : List Entry) → In (t, body) start.committed → IsCommitted v t body
  chosen t body i = ⊎_elim (λ n. absurd n) (λ (x : (n : CoordNode) × In n coords × Voted c coords (t, body) n.log). of x.0 x.1 x.2) (logs_from c coords coords [] (t, body) i)
    where
      of : (n : CoordNode) → In n coords → Voted c coords (t, body) n.log → IsCommitted v t body
      of n i w =
          let y = in_map open_node n v.parties.coords i in
          let vote : In (Accepted t w.ballot (Commit body)) y.0.log = subst (λ (k : CoordNode). In (Accepted t w.ballot (Commit body)) k.log) (sym y.2) w.vote in
          let p = placed y.0 y.1 in
          record {
            ballot = w.ballot;
            chosen = sym (same t w.ballot) ∙ w.now;
            votes = λ d x voted is k. one_body d p.0 t w.ballot w.ballot x y.0 voted body is p.1 k vote;
          }

  pub start_again : IsStartOf v start
  start_again = record { named = λ t h. named_again c v t h; all = all; chosen = chosen }
