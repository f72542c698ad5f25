-- The order has exactly what is chosen, each once, besides what the logs had.
use Rattle.std.proofs.Common.{◌≡◌, ℕ, List, [], ◌∷◌, ◌++◌, refl, sym, ap, ◌∙◌, subst, Bool, true, false, Option, Some, None, ◌⊎◌, inl, inr, ⊎_elim, true≢false}
use Rattle.std.specs.Prelude.{◌||◌}
use Rattle.rc_ids.specs.Tables.{In}
use Rattle.rc_ids.specs.Cluster.{Layout, IsLayout}
use Rattle.rc_ids.proofs.QuorumFacts.{quorum_laws}
use Rattle.rc_ids.specs.declared.names.Outcome.{Outcome}
use Rattle.rc_ids.specs.declared.names.Outcome.TheVariants.{Commit as Committed, Abort as Aborted}
use Rattle.rc_body.specs.Decisions.{outcome_of}
use Rattle.rc_body.specs.declared.entry.Entry.{Entry}
use Rattle.rc_body.specs.declared.decision.Decision.{Decision}
use Rattle.rc_body.specs.declared.decision.Decision.TheVariants.{Commit, Abort}
use Rattle.rc_msg.specs.declared.msg.Envelope.{Envelope}
use Rattle.rc_record.specs.declared.record.Record.{Record}
use Rattle.rc_record.specs.declared.record.Record.TheVariants.{Head, Prepared, Finished, Promised, Accepted, Decided}
use Rattle.rc_record.specs.CoordState.{CoordDurable}
use Rattle.rc_protocol.specs.Coordinator.{CoordVolatile}
use Rattle.rc_protocol.specs.Nodes.{CoordNode, logged}
use Rattle.rc_runs.specs.Votes.{is_listed, is_chosen_at, commits_after, ordered}
use Rattle.rc_runs.specs.World.{with_coord, new_world}
use Rattle.rc_claims.specs.Outcomes.{AreNew, EachOnce}
use Rattle.rc_agreement.proofs.Cases.{on_cond, never, nat_dec}
use Rattle.rc_agreement.proofs.Tables.{in_right, in_either}
use Rattle.rc_agreement.proofs.Places.{node_is, coord_set, put_each}
use Rattle.rc_agreement.proofs.Scenes.{Scene, scene, at, There, act_of, Keeps}
use Rattle.rc_agreement.proofs.Ballots.{Vote}
use Rattle.rc_agreement.proofs.Votes.{new_vote}
use Rattle.rc_agreement.proofs.Agreeing.{new_node}
use Rattle.rc_agreement.proofs.Choices.{ChosenIn, choice_of, chosen_of}
use Rattle.rc_agreement.proofs.Longer.{Longer, longer_logged}
use Rattle.rc_agreement.proofs.Stays.{chosen_on}
use Rattle.rc_agreement.proofs.Listed.{or_first_false, or_second_false, or_more, listed_left, listed_last, once_more, new_more}

-- t's commit is chosen, and a vote has this body
pub record Backed (s : Scene) (t : ℕ) (body : List Entry) : Type 0 where
  pub chosen : ChosenIn s Committed t
  pub voter : ℕ
  pub ballot : ℕ
  pub vote : Vote t s voter ballot (Commit body)

pub record Ordered (s : Scene) : Type 0 where
  pub layout : IsLayout s.parties.layout
  pub chosen : (t : ℕ) (body : List Entry) → In (t, body) s.parties.committed → Backed s t body
  pub once : EachOnce s.parties.committed
  pub new : AreNew s.parties.start.committed s.parties.committed
  pub all : (t : ℕ) → ChosenIn s Committed t → (is_listed s.parties.start.committed t || is_listed s.parties.committed t) ≡ true

-- a coordinator adds a record to its log, or none
module _ (s : Scene) (p : Ordered s) (d : ℕ) (there : There s d) (up : Bool) (r : Option Record) (x : CoordDurable) (v : CoordVolatile) (sent : List Envelope) where
  abbrev y : CoordNode
  y = record { up = up; log = logged (at s d).log r; durable = x; volatile = v }

  abbrev z : Scene
  z = record { parties = with_coord s.parties d y r; sent = sent }

  abbrev earlier : List (ℕ × List Entry)
  earlier = s.parties.start.committed

  abbrev before : List (ℕ × List Entry)
  before = s.parties.committed

  longer : Longer s z
  longer = longer_logged s d there y r refl sent

  vote_new : (t e b : ℕ) (o : Decision) → Vote t z e b o → Vote t s e b o ⊎ ((e ≡ d) × (r ≡ Some (Accepted t b o)))
  vote_new t e b o =
      put_each (λ e (n : CoordNode). In (Accepted t b o) n.log → Vote t s e b o ⊎ ((e ≡ d) × (r ≡ Some (Accepted t b o)))) s.parties d (at s d) y r there
      (λ e _ h. inl h)
      (λ h. ⊎_elim inl (λ (is : r ≡ Some (Accepted t b o)). inr (refl, is)) (new_vote r (at s d).log (Accepted t b o) h)) e

  backed_on : (t : ℕ) (body : List Entry) → Backed s t body → Backed z t body
  backed_on t body h = record { chosen = chosen_on s z longer p.layout t Committed h.chosen; voter = h.voter; ballot = h.ballot; vote = longer.votes t h.voter h.ballot (Commit body) h.vote }

  -- where the record is no vote for it, what is chosen was chosen before
  older : (t : ℕ) (h : ChosenIn z Committed t) → ((o : Decision) → outcome_of o ≡ Committed → r ≡ Some (Accepted t h.0 o) → ⊥) → ChosenIn s Committed t
  older t h none =
      let k = choice_of t z Committed h in
      chosen_of t s Committed (quorum_laws s.parties.layout p.layout)
      (record {
        ballot = k.ballot;
        set = k.set;
        enough = k.enough;
        votes = λ e i. let w = k.votes e i in (w.0, w.1, ⊎_elim (λ old. old) (λ new. absurd (none w.0 w.1 new.1)) (vote_new t e k.ballot w.0 w.2));
      })

  -- what has to hold of the list after
  record Good (xs : List (ℕ × List Entry)) : Type 0 where
    chosen : (t : ℕ) (body : List Entry) → In (t, body) xs → Backed z t body
    once : EachOnce xs
    new : AreNew earlier xs
    all : (t : ℕ) → ChosenIn z Committed t → (is_listed earlier t || is_listed xs t) ≡ true

  keep : ((t : ℕ) → ChosenIn z Committed t → (is_listed earlier t || is_listed before t) ≡ true) → Good before
  keep all = record { chosen = λ t body i. backed_on t body (p.chosen t body i); once = p.once; new = p.new; all = all }

  no_vote : ((t b : ℕ) (o : Decision) → outcome_of o ≡ Committed → r ≡ Some (Accepted t b o) → ⊥) → Good before
  no_vote none = keep (λ t h. p.all t (older t h (λ o c e. none t h.0 o c e)))

  commits : (u b : ℕ) (body : List Entry) → r ≡ Some (Accepted u b (Commit body)) → Good (commits_after s.parties.layout z.parties.coords earlier before u b body)
  commits u b body is =
      on_cond Good (is_listed earlier u || is_listed before u) _ _
      (λ listed. keep (λ t h. ⊎_elim
      (λ (same : t ≡ u). subst (λ (n : ℕ). (is_listed earlier n || is_listed before n) ≡ true) (sym same) listed)
      (λ (other : t ≡ u → ⊥). p.all t (older t h (λ o c e. let k : Some (Accepted u b (Commit body)) ≡ Some (Accepted t h.0 o) = sym is ∙ e in let n : u ≡ t = (cc) in other (sym n))))
      (nat_dec t u)))
      (λ unlisted. on_cond Good (is_chosen_at s.parties.layout z.parties.coords Committed u b) _ _ (λ now. joins now unlisted)
      (λ no. keep (λ t h. p.all t (older t h (λ o c e.
      let k : Some (Accepted u b (Commit body)) ≡ Some (Accepted t h.0 o) = sym is ∙ e in
      let n : u ≡ t = (cc) in let m : b ≡ h.0 = (cc) in
      true≢false (sym h.1 ∙ subst (λ (w : ℕ × ℕ). is_chosen_at s.parties.layout z.parties.coords Committed w.0 w.1 ≡ false) (λ i. (n i, m i)) no))))))
    where
      joins : is_chosen_at s.parties.layout z.parties.coords Committed u b ≡ true → (is_listed earlier u || is_listed before u) ≡ false → Good (before ++ (u, body) ∷ [])
      joins now unlisted =
          let here : Vote u z d b (Commit body) = subst (λ (n : CoordNode). In (Accepted u b (Commit body)) n.log) (sym (node_is z.parties d y (coord_set s.parties d (at s d) y r there)))
          (subst (λ (q : Option Record). In (Accepted u b (Commit body)) (logged (at s d).log q)) (sym is) (in_right (Accepted u b (Commit body)) (at s d).log (Accepted u b (Commit body) ∷ []) (inl refl))) in
          let new_one : Backed z u body = record { chosen = (b, now); voter = d; ballot = b; vote = here } in
          record {
            chosen = λ t body2 i. ⊎_elim
                (λ old. backed_on t body2 (p.chosen t body2 old))
                (λ (k : ((u, body) ≡ (t, body2)) ⊎ ⊥). ⊎_elim (λ (e : (u, body) ≡ (t, body2)). subst (λ (w : ℕ × List Entry). Backed z w.0 w.1) e new_one) (λ n. absurd n) k)
                (in_either (t, body2) before ((u, body) ∷ []) i);
            once = once_more u body before p.once (or_second_false (is_listed earlier u) (is_listed before u) unlisted);
            new = new_more u body earlier before p.new (or_first_false (is_listed earlier u) (is_listed before u) unlisted);
            all = λ t h. ⊎_elim
                (λ (same : t ≡ u). or_more (is_listed earlier t) true _ (λ _. subst (λ (n : ℕ). is_listed (before ++ (u, body) ∷ []) n ≡ true) (sym same) (listed_last u body before)) (or_true (is_listed earlier t)))
                (λ (other : t ≡ u → ⊥). or_more (is_listed earlier t) (is_listed before t) _ (listed_left t before ((u, body) ∷ []))
                (p.all t (older t h (λ o c e. let k : Some (Accepted u b (Commit body)) ≡ Some (Accepted t h.0 o) = sym is ∙ e in let n : u ≡ t = (cc) in other (sym n)))))
                (nat_dec t u);
          }
        where
          or_true : (a : Bool) → (a || true) ≡ true
          or_true true = refl
          or_true false = refl

  after : (q : Option Record) → r ≡ q → Good (ordered s.parties.layout z.parties.coords earlier before q)
  after None is = no_vote (λ t b o c e. never _ (sym is ∙ e))
  after (Some (Accepted u b (Commit body))) is = commits u b body is
  after (Some (Accepted u b Abort)) is = no_vote (λ t k o c e. let j : Some (Accepted u b Abort) ≡ Some (Accepted t k o) = sym is ∙ e in let n : Abort ≡ o = (cc) in not_commit (ap outcome_of n ∙ c))
    where
      not_commit : Aborted ≡ Committed → ⊥
      not_commit e = cc
  after (Some (Promised u b)) is = no_vote (λ t k o c e. let j : Some (Promised u b) ≡ Some (Accepted t k o) = sym is ∙ e in cc)
  after (Some (Decided es)) is = no_vote (λ t k o c e. let j : Some (Decided es) ≡ Some (Accepted t k o) = sym is ∙ e in cc)
  after (Some (Head m)) is = no_vote (λ t k o c e. let j : Some (Head m) ≡ Some (Accepted t k o) = sym is ∙ e in cc)
  after (Some (Prepared u m)) is = no_vote (λ t k o c e. let j : Some (Prepared u m) ≡ Some (Accepted t k o) = sym is ∙ e in cc)
  after (Some (Finished es)) is = no_vote (λ t k o c e. let j : Some (Finished es) ≡ Some (Accepted t k o) = sym is ∙ e in cc)

  pub node_ordered : Ordered z
  node_ordered = let g = after r refl in record { layout = p.layout; chosen = g.chosen; once = g.once; new = g.new; all = g.all }

-- nothing that the order speaks of changes
pub ordered_kept : Keeps Ordered
ordered_kept =
    record {
      turns = λ s d k there due p. node_ordered s p d there (at s d).up (act_of s d k).logs _ (act_of s d k).after _;
      stops = λ s d r there half p. node_ordered s p d there false r _ _ s.sent;
      starts = λ s d there p. node_ordered s p d there true None _ _ s.sent;
      serves = λ s d sh k there due p. record { layout = p.layout; chosen = λ t b i. let h = p.chosen t b i in record { chosen = h.chosen; voter = h.voter; ballot = h.ballot; vote = h.vote }; once = p.once; new = p.new; all = p.all };
      halts = λ s d sh r there half p. record { layout = p.layout; chosen = λ t b i. let h = p.chosen t b i in record { chosen = h.chosen; voter = h.voter; ballot = h.ballot; vote = h.vote }; once = p.once; new = p.new; all = p.all };
      wakes = λ s d sh there p. record { layout = p.layout; chosen = λ t b i. let h = p.chosen t b i in record { chosen = h.chosen; voter = h.voter; ballot = h.ballot; vote = h.vote }; once = p.once; new = p.new; all = p.all };
      begins = λ s u new p. record { layout = p.layout; chosen = λ t b i. let h = p.chosen t b i in record { chosen = h.chosen; voter = h.voter; ballot = h.ballot; vote = h.vote }; once = p.once; new = p.new; all = p.all };
      clients = λ s u x k is due p. record { layout = p.layout; chosen = λ t b i. let h = p.chosen t b i in record { chosen = h.chosen; voter = h.voter; ballot = h.ballot; vote = h.vote }; once = p.once; new = p.new; all = p.all };
    }

-- nothing is chosen in a new world
pub none_chosen : (c : Layout) → IsLayout c → (t : ℕ) (outcome : Outcome) → ChosenIn (scene (new_world c)) outcome t → ⊥
none_chosen c lay t outcome h =
    let k = choice_of t (scene (new_world c)) outcome h in
    let m = (quorum_laws c lay).share k.set k.set k.enough k.enough in
    let v = k.votes m.0 m.1 in
    subst (λ (n : CoordNode). In (Accepted t k.ballot v.0) n.log) (new_node c m.0) v.2

pub new_ordered : (c : Layout) → IsLayout c → Ordered (scene (new_world c))
new_ordered c lay = record { layout = lay; chosen = λ t body i. absurd i; once = tt; new = tt; all = λ t h. absurd (none_chosen c lay t Committed h) }
