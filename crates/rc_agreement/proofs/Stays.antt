-- What is chosen stays, and lists only grow at their end.
use Rattle.std.proofs.Common.{◌≡◌, ℕ, List, [], ◌∷◌, ◌++◌, refl, sym, ap, ◌∙◌, subst, Bool, true, false, Option, Some, None, append_assoc}
use Rattle.std.specs.Prelude.{◌||◌}
use Rattle.std.proofs.lemmas.List.{append-nil}
use Rattle.rc_ids.specs.Tables.{maybe}
use Rattle.rc_ids.specs.Cluster.{Layout, IsLayout, is_quorum}
use Rattle.rc_ids.proofs.QuorumFacts.{quorum_laws}
use Rattle.rc_ids.specs.declared.names.Outcome.{Outcome}
use Rattle.rc_ids.specs.declared.names.Outcome.TheVariants.{Commit as Committed}
use Rattle.rc_body.specs.declared.entry.Entry.{Entry}
use Rattle.rc_body.specs.declared.decision.Decision.{Decision}
use Rattle.rc_body.specs.declared.decision.Decision.TheVariants.{Commit, Abort}
use Rattle.rc_record.specs.declared.record.Record.{Record}
use Rattle.rc_record.specs.declared.record.Record.TheVariants.{Head, Prepared, Finished, Promised, Accepted, Decided}
use Rattle.rc_record.specs.CoordState.{CoordDurable, coord_applied, outcomes_joined, outcome_of as listed_outcome}
use Rattle.rc_protocol.specs.Coordinator.{CoordAct, new_volatile as new_coord_volatile}
use Rattle.rc_protocol.specs.Nodes.{CoordNode, coord_started, applied}
use Rattle.rc_runs.specs.Votes.{is_listed, is_chosen_at, ordered}
use Rattle.rc_runs.specs.World.{World, with_coord}
use Rattle.rc_runs.specs.Refusals.{Happening, run}
use Rattle.rc_claims.specs.Outcomes.{IsPrefix, ChosenStays, OrderGrows, ListsGrow}
use Rattle.rc_agreement.proofs.Cases.{on_cond, on_maybe}
use Rattle.rc_agreement.proofs.Places.{node_is, put_each}
use Rattle.rc_agreement.proofs.Scenes.{Scene, scene, at, There, act_of, started, Keeps, run_keeps}
use Rattle.rc_agreement.proofs.CoordKeeps.{node_after}
use Rattle.rc_agreement.proofs.Agreeing.{AllAgree, agreeing_kept}
use Rattle.rc_agreement.proofs.Choices.{Choice, ChosenIn, choice_of, chosen_of}
use Rattle.rc_agreement.proofs.Longer.{Longer, longer_logged, longer_moved}
use Rattle.rc_agreement.proofs.Ghosts.{Ghost, ghosts_kept}

-- VOTES
pub longer_self : (s : Scene) → Longer s s
longer_self s = record { layout = refl; votes = λ t e b o v. v }

pub longer_trans : (s m z : Scene) → Longer s m → Longer m z → Longer s z
longer_trans s m z p q = record { layout = q.layout ∙ p.layout; votes = λ t e b o v. q.votes t e b o (p.votes t e b o v) }

silent_act : Option Record → CoordAct
silent_act r = record { logs = r; after = new_coord_volatile; sends = []; spent = false }

pub longer_started : (m : Scene) (d : ℕ) → There m d → Longer m (started m d)
longer_started m d there = longer_logged m d there (coord_started (at m d).log) None refl m.sent

pub longer_kept : (s : Scene) → Keeps (Longer s)
unfolding silent_act
longer_kept s =
    record {
      turns = λ m d k there due p. longer_trans s m _ p (longer_moved m d there (at m d).up (act_of m d k));
      stops = λ m d r there half p. let l = longer_moved m d there false (silent_act r) in longer_trans s m _ p (record { layout = l.layout; votes = l.votes });
      starts = λ m d there p. longer_trans s m _ p (longer_started m d there);
      serves = λ m d sh k there due p. record { layout = p.layout; votes = p.votes };
      halts = λ m d sh r there half p. record { layout = p.layout; votes = p.votes };
      wakes = λ m d sh there p. record { layout = p.layout; votes = p.votes };
      begins = λ m u new p. record { layout = p.layout; votes = p.votes };
      clients = λ m u x k is due p. record { layout = p.layout; votes = p.votes };
    }

pub choice_on : (s z : Scene) → Longer s z → (t : ℕ) (outcome : Outcome) → Choice t s outcome → Choice t z outcome
choice_on s z l t outcome h =
    record {
      ballot = h.ballot;
      set = h.set;
      enough = subst (λ (c : Layout). is_quorum c h.set ≡ true) (sym l.layout) h.enough;
      votes = λ d i. let v = h.votes d i in (v.0, v.1, l.votes t d h.ballot v.0 v.2);
    }

pub chosen_on : (s z : Scene) → Longer s z → IsLayout s.parties.layout → (t : ℕ) (outcome : Outcome) → ChosenIn s outcome t → ChosenIn z outcome t
chosen_on s z l lay t outcome h = chosen_of t z outcome (quorum_laws z.parties.layout (subst IsLayout (sym l.layout) lay)) (choice_on s z l t outcome (choice_of t s outcome h))

pub chosen_stays : (w : World) (later : List Happening) → IsLayout w.parties.layout → ChosenStays w later
chosen_stays w later lay outcome t h =
    chosen_on (scene w) (scene (run w later)) (run_keeps (Longer (scene w)) (longer_kept (scene w)) w later (longer_self (scene w))) lay t outcome h

-- THE ORDER
module _ {A : Type 0} where
  pub prefix_self : (xs : List A) → IsPrefix xs xs
  prefix_self xs = ([], sym (append-nil xs))

  pub prefix_trans : (xs ys zs : List A) → IsPrefix xs ys → IsPrefix ys zs → IsPrefix xs zs
  prefix_trans xs ys zs p q = (p.0 ++ q.0, q.1 ∙ ap (λ l. l ++ q.0) p.1 ∙ append_assoc xs p.0 q.0)

pub ordered_grows : (c : Layout) (coords : List CoordNode) (earlier committed : List (ℕ × List Entry)) (r : Option Record) → IsPrefix committed (ordered c coords earlier committed r)
ordered_grows c coords earlier committed None = prefix_self committed
ordered_grows c coords earlier committed (Some (Accepted t b (Commit body))) =
    on_cond (IsPrefix committed) (is_listed earlier t || is_listed committed t) _ _ (λ _. prefix_self committed)
    (λ _. on_cond (IsPrefix committed) (is_chosen_at c coords Committed t b) _ _ (λ _. ((t, body) ∷ [], refl)) (λ _. prefix_self committed))
ordered_grows c coords earlier committed (Some (Accepted t b Abort)) = prefix_self committed
ordered_grows c coords earlier committed (Some (Promised t b)) = prefix_self committed
ordered_grows c coords earlier committed (Some (Decided p)) = prefix_self committed
ordered_grows c coords earlier committed (Some (Head p)) = prefix_self committed
ordered_grows c coords earlier committed (Some (Prepared t p)) = prefix_self committed
ordered_grows c coords earlier committed (Some (Finished p)) = prefix_self committed

-- what the order has, and what the logs had, of a scene
pub record Later (xs earlier : List (ℕ × List Entry)) (s : Scene) : Type 0 where
  pub start : s.parties.start.committed ≡ earlier
  pub order : IsPrefix xs s.parties.committed

pub order_kept : (xs earlier : List (ℕ × List Entry)) → Keeps (Later xs earlier)
order_kept xs earlier =
    record {
      turns = λ m d k there due p. record { start = p.start; order = prefix_trans xs m.parties.committed _ p.order (ordered_grows m.parties.layout _ m.parties.start.committed m.parties.committed (act_of m d k).logs) };
      stops = λ m d r there half p. record { start = p.start; order = prefix_trans xs m.parties.committed _ p.order (ordered_grows m.parties.layout _ m.parties.start.committed m.parties.committed r) };
      starts = λ m d there p. record { start = p.start; order = p.order };
      serves = λ m d sh k there due p. record { start = p.start; order = p.order };
      halts = λ m d sh r there half p. record { start = p.start; order = p.order };
      wakes = λ m d sh there p. record { start = p.start; order = p.order };
      begins = λ m u new p. record { start = p.start; order = p.order };
      clients = λ m u x k is due p. record { start = p.start; order = p.order };
    }

pub later_of : (w : World) (later : List Happening) → Later w.parties.committed w.parties.start.committed (scene (run w later))
later_of w later = run_keeps (Later w.parties.committed w.parties.start.committed) (order_kept w.parties.committed w.parties.start.committed) w later (record { start = refl; order = prefix_self w.parties.committed })

pub order_grows : (w : World) (later : List Happening) → OrderGrows w later
order_grows w later = (later_of w later).order

-- LISTS of outcomes
pub join_grows : (es list : List (ℕ × Decision)) → IsPrefix list (outcomes_joined list es)
join_grows [] list = prefix_self list
join_grows (e ∷ es) list =
    prefix_trans list (maybe (listed_outcome list e.0) (list ++ e ∷ []) (λ _. list)) _
    (on_maybe (IsPrefix list) (listed_outcome list e.0) (list ++ e ∷ []) (λ _. list) (λ _. (e ∷ [], refl)) (λ _ _. prefix_self list))
    (join_grows es (maybe (listed_outcome list e.0) (list ++ e ∷ []) (λ _. list)))

pub list_grows : (x : CoordDurable) (r : Option Record) → IsPrefix x.outcomes (applied coord_applied x r).outcomes
list_grows x None = prefix_self x.outcomes
list_grows x (Some (Decided es)) = join_grows es x.outcomes
list_grows x (Some (Promised t b)) = prefix_self x.outcomes
list_grows x (Some (Accepted t b o)) = prefix_self x.outcomes
list_grows x (Some (Head p)) = prefix_self x.outcomes
list_grows x (Some (Prepared t p)) = prefix_self x.outcomes
list_grows x (Some (Finished p)) = prefix_self x.outcomes

abbrev Lists : Layout → Scene → Scene → Type 0
Lists c s z = AllAgree c z × ((d : ℕ) → IsPrefix (at s d).durable.outcomes (at z d).durable.outcomes)

lists_kept : (c : Layout) → IsLayout c → (s : Scene) → Keeps (Lists c s)
lists_kept c lay s =
    let k = agreeing_kept c lay in
    record {
      turns = λ m d a there due p. (k.turns m d a there due p.0, node m d there (at m d).up (act_of m d a) p.1);
      stops = λ m d r there half p. (k.stops m d r there half p.0, node m d there false (record { logs = r; after = new_coord_volatile; sends = []; spent = false }) p.1);
      starts = λ m d there p. (k.starts m d there p.0, put_each (λ e (n : CoordNode). IsPrefix (at s e).durable.outcomes n.durable.outcomes) m.parties d (at m d) _ None there (λ e _. p.1 e) (subst (λ (x : CoordDurable). IsPrefix (at s d).durable.outcomes x.outcomes) ((p.0 0).coords d).replays (p.1 d)));
      serves = λ m d sh a there due p. (k.serves m d sh a there due p.0, p.1);
      halts = λ m d sh r there half p. (k.halts m d sh r there half p.0, p.1);
      wakes = λ m d sh there p. (k.wakes m d sh there p.0, p.1);
      begins = λ m u new p. (k.begins m u new p.0, p.1);
      clients = λ m u x a is due p. (k.clients m u x a is due p.0, p.1);
    }
  where
    node : (m : Scene) (d : ℕ) → There m d → (up : Bool) (a : CoordAct) → ((e : ℕ) → IsPrefix (at s e).durable.outcomes (at m e).durable.outcomes)
        → (e : ℕ) → IsPrefix (at s e).durable.outcomes (at (record { parties = with_coord m.parties d (node_after m d up a) a.logs; sent = m.sent }) e).durable.outcomes
    node m d there up a p = put_each (λ e (n : CoordNode). IsPrefix (at s e).durable.outcomes n.durable.outcomes) m.parties d (at m d) (node_after m d up a) a.logs there (λ e _. p e)
        (prefix_trans (at s d).durable.outcomes (at m d).durable.outcomes _ (p d) (list_grows (at m d).durable a.logs))

pub lists_grow : (c : Layout) → IsLayout c → (w : World) (later : List Happening) → Ghost (AllAgree c) (scene w) → ListsGrow w later
lists_grow c lay w later g d x y is its =
    let from : Ghost (Lists c (scene w)) (scene w) = record { clients = g.clients; sent = g.sent; holds = (g.holds, λ e. prefix_self (at (scene w) e).durable.outcomes); all = g.all; known = g.known; back = g.back } in
    let p = run_keeps (Ghost (Lists c (scene w))) (ghosts_kept (Lists c (scene w)) (lists_kept c lay (scene w))) w later from in
    let q = subst (λ (n : CoordNode). IsPrefix n.durable.outcomes (at (scene (run w later)) d).durable.outcomes) (node_is w.parties d x is) (p.holds.1 d) in
    subst (λ (n : CoordNode). IsPrefix x.durable.outcomes n.durable.outcomes) (node_is (run w later).parties d y its) q
