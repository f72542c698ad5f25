-- The laws, of every life.
use Rattle.std.proofs.Common.{◌≡◌, ℕ, List, sym, subst, Some}
use Rattle.std.specs.Ordering.{nat_cmp}
use Rattle.rc_ids.specs.Tables.{In, found}
use Rattle.rc_ids.specs.Cluster.{Layout, IsLayout}
use Rattle.rc_ids.specs.declared.names.Outcome.{Outcome}
use Rattle.rc_ids.specs.declared.names.Outcome.TheVariants.{Commit as Committed, Abort as Aborted}
use Rattle.rc_ids.specs.declared.names.Party.{Party}
use Rattle.rc_body.specs.Decisions.{outcome_of}
use Rattle.rc_body.specs.declared.entry.Entry.{Entry}
use Rattle.rc_body.specs.declared.decision.Decision.{Decision}
use Rattle.rc_body.specs.declared.decision.Decision.TheVariants.{Commit, Abort}
use Rattle.rc_msg.specs.declared.msg.Msg.{Msg}
use Rattle.rc_msg.specs.declared.msg.Msg.TheVariants.{Decided, Finish, CatchPage}
use Rattle.rc_record.specs.declared.record.Record.TheVariants.{Accepted}
use Rattle.rc_protocol.specs.Nodes.{CoordNode, ShardNode}
use Rattle.rc_runs.specs.World.{World, coord_at}
use Rattle.rc_runs.specs.Refusals.{Happening}
use Rattle.rc_claims.specs.Outcomes.{Agrees, VotesOneBody, Chosen, ListedIsChosen, FinishedIsChosen, ClientsLearnChosen, Tells, ToldIsChosen, ChosenStays, ListsGrow, OrderIsChosen, ChosenIsOrdered, PrintedIsOrdered}
use Rattle.rc_agreement.proofs.PlainLives.{IsPlainLife}
use Rattle.rc_agreement.proofs.Places.{node_is, server_is}
use Rattle.rc_agreement.proofs.Scenes.{Scene, scene}
use Rattle.rc_agreement.proofs.Ballots.{one_body}
use Rattle.rc_agreement.proofs.Agreeing.{laws_at}
use Rattle.rc_agreement.proofs.Choices.{outcomes_differ, choice_of, chosen_of}
use Rattle.rc_agreement.proofs.Agreed.{one_outcome}
use Rattle.rc_agreement.proofs.Learning.{Learns, learned_choice, FinishesAt, Knows}
use Rattle.rc_agreement.proofs.Stays as stays
use Rattle.rc_agreement.proofs.Ordered.{Backed}
use Rattle.rc_agreement.proofs.Ghosts.{with_ghosts, Ghost}
use Rattle.rc_agreement.proofs.Reopened.{Whole}
use Rattle.rc_agreement.proofs.Lives.{life_holds}
use Rattle.rc_agreement.proofs.Printed as prints

module _ (c : Layout) (lay : IsLayout c) (earlier : List World) (w : World) (life : IsPlainLife c earlier w) where
  g : Ghost (Whole c) (scene w)
  g = life_holds c lay earlier w life

  abbrev s : Ghost (Whole c) (scene w) → Scene
  s g = with_ghosts (scene w) g.clients g.sent

  -- AGREEMENT
  pub agrees : Agrees w
  agrees t x y =
      let i = g.holds.0.0 t in
      one_outcome c t (s g) (laws_at c lay t (s g) i) i Committed Aborted outcomes_differ (choice_of t (s g) Committed x) (choice_of t (s g) Aborted y)

  pub votes_one_body : VotesOneBody w
  votes_one_body d e t a b x y p q is its h k =
      let i = g.holds.0.0 t in
      one_body c t (s g) i a b p q
      ((i.coords d).voted a (Commit p) (subst (λ (n : CoordNode). In (Accepted t a (Commit p)) n.log) (sym (node_is w.parties d x is)) h))
      ((i.coords e).voted b (Commit q) (subst (λ (n : CoordNode). In (Accepted t b (Commit q)) n.log) (sym (node_is w.parties e y its)) k))

  -- WHAT IS LEARNED IS CHOSEN
  chosen : (t : ℕ) (o : Decision) → Learns (s g) t o → Chosen w (outcome_of o) t
  chosen t o l = chosen_of t (s g) (outcome_of o) (laws_at c lay t (s g) (g.holds.0.0 t)) (learned_choice (s g) t o l)

  pub listed_is_chosen : ListedIsChosen w
  listed_is_chosen d t x o is i = chosen t o (g.holds.0.1.lists d t o (subst (λ (n : CoordNode). In (t, o) n.durable.outcomes) (sym (node_is w.parties d x is)) i))

  pub finished_is_chosen : FinishedIsChosen w
  finished_is_chosen d sh t x outcome is f =
      let e = g.holds.0.1.finished d sh t outcome (subst (λ (n : ShardNode). found nat_cmp n.durable.finished t ≡ Some outcome) (sym (server_is w.parties d sh x is)) f) in
      subst (λ (z : Outcome). Chosen w z t) e.is (chosen t e.decision e.learned)

  pub clients_learn_chosen : ClientsLearnChosen w
  clients_learn_chosen t x o is done e = chosen t o (g.holds.0.1.outcomes t x o (g.known t x is) e)

  finish_chosen : (sh t : ℕ) (o : Decision) → FinishesAt (s g) sh t o → Chosen w (outcome_of o) t
  finish_chosen sh t Abort l = chosen t Abort l
  finish_chosen sh t (Commit p) l = chosen t (Commit l.0) l.1

  told : (to : Party) (m : Msg) (t : ℕ) (o : Decision) → Knows (s g) to m → Tells m t o → Chosen w (outcome_of o) t
  told to (Finish u p) t o k h = subst (λ (z : ℕ × Decision). Chosen w (outcome_of z.1) z.0) (λ i. (h.0 i, h.1 i)) (finish_chosen k.1 u p k.3)
  told to (Decided u p) t o k h = subst (λ (z : ℕ × Decision). Chosen w (outcome_of z.1) z.0) (λ i. (h.0 i, h.1 i)) (chosen u p k.1)
  told to (CatchPage e p es) t o k h = chosen t o (k t o h)
  told to _ t o k h = absurd h

  pub told_is_chosen : ToldIsChosen w
  told_is_chosen e t o i h = told e.to e.msg t o (g.holds.0.1.says e (g.all e i)) h

  -- THE ORDER
  pub chosen_is_ordered : ChosenIsOrdered w
  chosen_is_ordered t h = g.holds.1.all t h

  backed_body : (t : ℕ) (body voted : List Entry) → Backed (s g) t body → (d : ℕ) (x : CoordNode) → coord_at w.parties d ≡ Some x → (b : ℕ) → In (Accepted t b (Commit voted)) x.log → voted ≡ body
  backed_body t body voted h d x is b i =
      let a = g.holds.0.0 t in
      one_body c t (s g) a b h.ballot voted body
      ((a.coords d).voted b (Commit voted) (subst (λ (n : CoordNode). In (Accepted t b (Commit voted)) n.log) (sym (node_is w.parties d x is)) i))
      ((a.coords h.voter).voted h.ballot (Commit body) h.vote)

  pub order_is_chosen : OrderIsChosen w
  order_is_chosen =
      record {
        chosen = λ t body i. let h = g.holds.1.chosen t body i in record { ballot = h.chosen.0; chosen = h.chosen.1; votes = λ d x voted is k. backed_body t body voted h d x is h.chosen.0 k };
        once = g.holds.1.once;
        new = g.holds.1.new;
      }

  pub printed_is_ordered : (later : List Happening) → PrintedIsOrdered w later
  printed_is_ordered later = prints.printed_is_ordered c lay w later g

  -- WHAT STAYS
  pub chosen_stays : (later : List Happening) → ChosenStays w later
  chosen_stays later = stays.chosen_stays w later g.holds.1.layout

  pub lists_grow : (later : List Happening) → ListsGrow w later
  lists_grow later = stays.lists_grow c lay w later (record { clients = g.clients; sent = g.sent; holds = g.holds.0.0; all = g.all; known = g.known; back = g.back })
