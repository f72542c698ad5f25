-- The laws, of every life: each is that of the plain life that it is like.
use Rattle.std.proofs.Common.{◌≡◌, ℕ, List, sym, ap, ◌∙◌, subst}
use Rattle.std.specs.Prelude.{◌||◌}
use Rattle.std.specs.Ordering.{nat_cmp}
use Rattle.rc_ids.specs.Tables.{In, Table, found}
use Rattle.rc_ids.specs.Cluster.{Layout, IsLayout}
use Rattle.rc_ids.specs.declared.names.Outcome.TheVariants.{Commit as Committed, Abort as Aborted}
use Rattle.rc_body.specs.Decisions.{outcome_of}
use Rattle.rc_body.specs.declared.entry.Entry.{Entry}
use Rattle.rc_msg.specs.declared.msg.Envelope.{Envelope}
use Rattle.rc_record.specs.declared.coord.CoordDurable.{CoordDurable}
use Rattle.rc_report.specs.declared.line.Line.{Line}
use Rattle.rc_report.specs.declared.line.Line.TheVariants.{Learned}
use Rattle.rc_protocol.specs.Client.{Client}
use Rattle.rc_runs.specs.Votes.{is_listed}
use Rattle.rc_runs.specs.World.{World, Start}
use Rattle.rc_runs.specs.Refusals.{Happening, run}
use Rattle.rc_claims.specs.Outcomes.{IsPrefix, Agrees, VotesOneBody, ListedIsChosen, FinishedIsChosen, ClientsLearnChosen, ToldIsChosen, ChosenStays, OrderIsChosen, EachOnce, AreNew, ChosenIsOrdered, PrintedIsOrdered, ListsGrow}
use Rattle.rc_claims.specs.Lives.{IsLife}
use Rattle.rc_agreement.proofs.Alike.{WorldLike, run_like, lines_same}
use Rattle.rc_agreement.proofs.AlikeLives.{PlainLife, plain_life, start_same, clients_same, committed_same, sent_same, coord_right, shard_right, durable_same, shard_durable_same, vote_left, chosen_left, chosen_right, committed_right}
use Rattle.rc_agreement.proofs.Laws as plain

module _ (c : Layout) (lay : IsLayout c) (earlier : List World) (y : World) (life : IsLife c earlier y) where
  p : PlainLife c earlier y
  p = plain_life c lay earlier y life

  -- what the order and the logs before it have
  listed_same : (w z : World) → WorldLike w z → (t : ℕ) → (is_listed w.parties.start.committed t || is_listed w.parties.committed t) ≡ (is_listed z.parties.start.committed t || is_listed z.parties.committed t)
  listed_same w z l t = let a = start_same w z l in let b = committed_same w z l in λ i. is_listed (a i).committed t || is_listed (b i) t

  pub agrees : Agrees y
  agrees t a b = plain.agrees c lay p.before p.world p.plain t (chosen_left p.world y p.like Committed t a) (chosen_left p.world y p.like Aborted t b)

  pub votes_one_body : VotesOneBody y
  votes_one_body d e t a b x z one two is its h k =
      let l = coord_right p.world y p.like d x is in
      let r = coord_right p.world y p.like e z its in
      plain.votes_one_body c lay p.before p.world p.plain d e t a b l.0 r.0 one two l.1 r.1 (vote_left l.0 x l.2 t a one h) (vote_left r.0 z r.2 t b two k)

  pub listed_is_chosen : ListedIsChosen y
  listed_is_chosen d t z o is i =
      let x = coord_right p.world y p.like d z is in
      chosen_right p.world y p.like (outcome_of o) t (plain.listed_is_chosen c lay p.before p.world p.plain d t x.0 o x.1 (subst (λ (s : CoordDurable). In (t, o) s.outcomes) (sym (durable_same x.0 z x.2)) i))

  pub finished_is_chosen : FinishedIsChosen y
  finished_is_chosen d sh t z outcome is f =
      let x = shard_right p.world y p.like d sh z is in
      chosen_right p.world y p.like outcome t (plain.finished_is_chosen c lay p.before p.world p.plain d sh t x.0 outcome x.1 (ap (λ s. found nat_cmp s.finished t) (shard_durable_same x.0 z x.2) ∙ f))

  pub clients_learn_chosen : ClientsLearnChosen y
  clients_learn_chosen t x o is done e =
      chosen_right p.world y p.like (outcome_of o) t
      (plain.clients_learn_chosen c lay p.before p.world p.plain t x o (ap (λ (cs : Table ℕ Client). found nat_cmp cs t) (clients_same p.world y p.like) ∙ is) done e)

  pub told_is_chosen : ToldIsChosen y
  told_is_chosen e t o i h =
      chosen_right p.world y p.like (outcome_of o) t (plain.told_is_chosen c lay p.before p.world p.plain e t o (subst (λ (es : List Envelope). In e es) (sym (sent_same p.world y p.like)) i) h)

  pub chosen_stays : (later : List Happening) → ChosenStays y later
  chosen_stays later outcome t h =
      chosen_right (run p.world later) (run y later) (run_like later p.world y p.like) outcome t
      (plain.chosen_stays c lay p.before p.world p.plain later outcome t (chosen_left p.world y p.like outcome t h))

  pub lists_grow : (later : List Happening) → ListsGrow y later
  lists_grow later d x z is its =
      let a = coord_right p.world y p.like d x is in
      let b = coord_right (run p.world later) (run y later) (run_like later p.world y p.like) d z its in
      let e = durable_same a.0 x a.2 in
      let f = durable_same b.0 z b.2 in
      subst (λ (q : CoordDurable × CoordDurable). IsPrefix q.0.outcomes q.1.outcomes) (λ i. (e i, f i)) (plain.lists_grow c lay p.before p.world p.plain later d a.0 b.0 a.1 b.1)

  pub order_is_chosen : OrderIsChosen y
  order_is_chosen =
      let o = plain.order_is_chosen c lay p.before p.world p.plain in
      let same = committed_same p.world y p.like in
      let first = start_same p.world y p.like in
      record {
        chosen = λ t body i. committed_right p.world y p.like t body (o.chosen t body (subst (λ (l : List (ℕ × List Entry)). In (t, body) l) (sym same) i));
        once = subst EachOnce same o.once;
        new = subst (λ (q : Start × List (ℕ × List Entry)). AreNew q.0.committed q.1) (λ i. (first i, same i)) o.new;
      }

  pub chosen_is_ordered : ChosenIsOrdered y
  chosen_is_ordered t h = sym (listed_same p.world y p.like t) ∙ plain.chosen_is_ordered c lay p.before p.world p.plain t (chosen_left p.world y p.like Committed t h)

  pub printed_is_ordered : (later : List Happening) → PrintedIsOrdered y later
  printed_is_ordered later t i =
      sym (listed_same (run p.world later) (run y later) (run_like later p.world y p.like) t)
      ∙ plain.printed_is_ordered c lay p.before p.world p.plain later t (subst (λ (ls : List Line). In (Learned t Committed) ls) (sym (lines_same later p.world y p.like)) i)
