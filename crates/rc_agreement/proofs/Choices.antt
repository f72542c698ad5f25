-- What is chosen, as a quorum with its votes.
use Rattle.std.proofs.Common.{◌≡◌, ℕ, zero, suc, ◌≤◌, ◌≢◌, List, [], ◌∷◌, refl, sym, ◌∙◌, subst, Bool, true, false, cond, Option, Some, None, arith, inl, inr, ⊎_elim}
use Rattle.std.specs.Prelude.{◌&&◌, ◌||◌, ◌==◌, slice_get}
use Rattle.std.specs.List.{list_any}
use Rattle.std.specs.Ordering.{nat_cmp}
use Rattle.std.proofs.lemmas.Bool.{eqb-true, eq-eqb}
use Rattle.rc_ids.specs.Tables.{In, added, maybe}
use Rattle.rc_ids.specs.Cluster.{Layout, is_dc, is_quorum}
use Rattle.rc_ids.specs.Quorum.{QuorumLaws}
use Rattle.rc_ids.specs.declared.names.Outcome.{Outcome}
use Rattle.rc_ids.specs.declared.names.Outcome.TheVariants.{Commit as Committed, Abort as Aborted}
use Rattle.rc_body.specs.Decisions.{outcome_of}
use Rattle.rc_body.specs.declared.decision.Decision.{Decision}
use Rattle.rc_body.specs.declared.decision.Decision.TheVariants.{Commit, Abort}
use Rattle.rc_record.specs.declared.record.Record.{Record}
use Rattle.rc_record.specs.declared.record.Record.TheVariants.{Accepted}
use Rattle.rc_protocol.specs.Nodes.{CoordNode, coord_index, coord_started, is_vote}
use Rattle.rc_runs.specs.Votes.{has_voted, voters, IsChosen}
use Rattle.rc_runs.specs.World.{coord_at}
use Rattle.rc_agreement.proofs.Cases.{on_cond, and_left, and_right, or_right, nat_dec}
use Rattle.rc_agreement.proofs.Tables.{in_added, added_has}
use Rattle.rc_agreement.proofs.Places.{coord_dc, dc_range}
use Rattle.rc_agreement.proofs.Scenes.{Scene}
use Rattle.rc_agreement.proofs.Ballots.{Vote}

pub outcomes_differ : Committed ≡ Aborted → ⊥
outcomes_differ e = cc

-- VOTES
vote_is : (outcome : Outcome) (t b : ℕ) (r : Record) → is_vote outcome t b r ≡ true → (o : Decision) × (outcome_of o ≡ outcome) × (r ≡ Accepted t b o)
vote_is Committed t b (Accepted u a (Commit body)) e =
    let same : u ≡ t = eqb-true u t (and_left (u == t) (a == b) e) in
    let also : a ≡ b = eqb-true a b (and_right (u == t) (a == b) e) in
    (Commit body, refl, λ i. Accepted (same i) (also i) (Commit body))
vote_is Aborted t b (Accepted u a Abort) e =
    let same : u ≡ t = eqb-true u t (and_left (u == t) (a == b) e) in
    let also : a ≡ b = eqb-true a b (and_right (u == t) (a == b) e) in
    (Abort, refl, λ i. Accepted (same i) (also i) Abort)
vote_is outcome t b r e = absurd (cc)

both : (a b : ℕ) → ((a == a) && (b == b)) ≡ true
both a b = rw (eq-eqb a a refl, eq-eqb b b refl)

is_a_vote : (t b : ℕ) (o : Decision) → is_vote (outcome_of o) t b (Accepted t b o) ≡ true
is_a_vote t b (Commit body) = both t b
is_a_vote t b Abort = both t b

voted_in : (outcome : Outcome) (t b : ℕ) (log : List Record) → list_any (is_vote outcome t b) log ≡ true → (o : Decision) × (outcome_of o ≡ outcome) × In (Accepted t b o) log
voted_in outcome t b [] e = absurd (cc)
voted_in outcome t b (r ∷ rs) e = go (voted_in outcome t b rs) (is_vote outcome t b r) refl e
  where
    go : (list_any (is_vote outcome t b) rs ≡ true → (o : Decision) × (outcome_of o ≡ outcome) × In (Accepted t b o) rs) → (v : Bool) → is_vote outcome t b r ≡ v → (v || list_any (is_vote outcome t b) rs) ≡ true → (o : Decision) × (outcome_of o ≡ outcome) × In (Accepted t b o) (r ∷ rs)
    go rest true is h = let x = vote_is outcome t b r is in (x.0, x.1, inl x.2)
    go rest false is h = let x = rest h in (x.0, x.1, inr x.2)

in_voted : (t b : ℕ) (o : Decision) (log : List Record) → In (Accepted t b o) log → list_any (is_vote (outcome_of o) t b) log ≡ true
in_voted t b o [] h = absurd h
in_voted t b o (r ∷ rs) (inl e) = let x : is_vote (outcome_of o) t b r ≡ true = rw e (is_a_vote t b o) in rw x
in_voted t b o (r ∷ rs) (inr h) = or_right (is_vote (outcome_of o) t b r) _ (in_voted t b o rs h)

-- the place of d in the list of coordinators
got : (s : Scene) (d : ℕ) → is_dc s.parties.layout d ≡ true → coord_at s.parties d ≡ slice_get s.parties.coords (coord_index d)
got s d dc = rw dc

pub has_vote : (s : Scene) (outcome : Outcome) (t b d : ℕ) → is_dc s.parties.layout d ≡ true → has_voted s.parties.coords outcome t b d ≡ true → (o : Decision) × (outcome_of o ≡ outcome) × Vote t s d b o
has_vote s outcome t b d dc e = go (coord_at s.parties d) (subst (λ (o : Option CoordNode). maybe o false (λ x. list_any (is_vote outcome t b) x.log) ≡ true) (sym (got s d dc)) e)
  where
    go : (o : Option CoordNode) → maybe o false (λ x. list_any (is_vote outcome t b) x.log) ≡ true → (p : Decision) × (outcome_of p ≡ outcome) × In (Accepted t b p) (maybe o (coord_started []) (λ x. x)).log
    go None h = absurd (cc)
    go (Some x) h = voted_in outcome t b x.log h

vote_has : (s : Scene) (t b d : ℕ) (o : Decision) → Vote t s d b o → is_dc s.parties.layout d ≡ true × (has_voted s.parties.coords (outcome_of o) t b d ≡ true)
vote_has s t b d o h = go (coord_at s.parties d) refl h
  where
    go : (n : Option CoordNode) → coord_at s.parties d ≡ n → In (Accepted t b o) (maybe n (coord_started []) (λ x. x)).log → (is_dc s.parties.layout d ≡ true) × (has_voted s.parties.coords (outcome_of o) t b d ≡ true)
    go None is h = absurd h
    go (Some x) is h =
        let dc = coord_dc s.parties d x is in
        (dc, subst (λ (n : Option CoordNode). maybe n false (λ y. list_any (is_vote (outcome_of o) t b) y.log) ≡ true) (sym is ∙ got s d dc) (in_voted t b o x.log h))

pub dc_of : (c : Layout) (d : ℕ) → 1 ≤ d → d ≤ c.dcs → is_dc c d ≡ true
dc_of c d low high = grind arith

-- VOTERS
pub voter_has : (coords : List CoordNode) (outcome : Outcome) (t b n d : ℕ) → In d (voters coords outcome t b n) → (1 ≤ d) × (d ≤ n) × (has_voted coords outcome t b d ≡ true)
voter_has coords outcome t b zero d h = absurd h
voter_has coords outcome t b (suc n) d h = go (λ i. let x = voter_has coords outcome t b n d i in (x.0, (let le = x.1 in omega arith), x.2)) (has_voted coords outcome t b (suc n)) refl h
  where
    go : (In d (voters coords outcome t b n) → (1 ≤ d) × (d ≤ suc n) × (has_voted coords outcome t b d ≡ true)) → (v : Bool) → has_voted coords outcome t b (suc n) ≡ v → In d (cond v (added nat_cmp (voters coords outcome t b n) (suc n)) (voters coords outcome t b n)) → (1 ≤ d) × (d ≤ suc n) × (has_voted coords outcome t b d ≡ true)
    go old true is h = ⊎_elim (λ (e : d ≡ suc n). (omega arith, omega arith, rw e is)) (λ (i : In d (voters coords outcome t b n)). old i) (in_added d (suc n) (voters coords outcome t b n) h)
    go old false is h = old h

has_voter : (coords : List CoordNode) (outcome : Outcome) (t b n d : ℕ) → 1 ≤ d → d ≤ n → has_voted coords outcome t b d ≡ true → In d (voters coords outcome t b n)
has_voter coords outcome t b zero d low high h = absurd (omega arith)
has_voter coords outcome t b (suc n) d low high h =
    ⊎_elim
    (λ (e : d ≡ suc n). let here : has_voted coords outcome t b (suc n) ≡ true = subst (λ (k : ℕ). has_voted coords outcome t b k ≡ true) e h in rw here (added_has d (suc n) (voters coords outcome t b n) (inl e)))
    (λ (ne : d ≡ suc n → ⊥).
    let apart : d ≢ suc n = ne in
    let rest = has_voter coords outcome t b n d low (omega arith) h in
    on_cond (In d) (has_voted coords outcome t b (suc n)) _ _ (λ _. added_has d (suc n) (voters coords outcome t b n) (inr rest)) (λ _. rest))
    (nat_dec d (suc n))

-- CHOICES
pub record Choice (t : ℕ) (s : Scene) (outcome : Outcome) : Type 0 where
  pub ballot : ℕ
  pub set : List ℕ
  pub enough : is_quorum s.parties.layout set ≡ true
  pub votes : (d : ℕ) → In d set → (o : Decision) × (outcome_of o ≡ outcome) × Vote t s d ballot o

abbrev pub ChosenIn : Scene → Outcome → ℕ → Type 0
ChosenIn s outcome t = IsChosen s.parties.layout s.parties.coords outcome t

abbrev pub choice_of : (t : ℕ) (s : Scene) (outcome : Outcome) → ChosenIn s outcome t → Choice t s outcome
choice_of t s outcome h =
    record {
      ballot = h.0;
      set = voters s.parties.coords outcome t h.0 s.parties.layout.dcs;
      enough = h.1;
      votes = λ d i. let x = voter_has s.parties.coords outcome t h.0 s.parties.layout.dcs d i in has_vote s outcome t h.0 d (dc_of s.parties.layout d x.0 x.1) x.2;
    }

pub chosen_of : (t : ℕ) (s : Scene) (outcome : Outcome) → QuorumLaws s.parties.layout → Choice t s outcome → ChosenIn s outcome t
chosen_of t s outcome q h = (
  h.ballot,
  q.more h.set (voters s.parties.coords outcome t h.ballot s.parties.layout.dcs)
      (λ d i. let v = h.votes d i in
      let x = vote_has s t h.ballot d v.0 v.2 in
      let range = dc_range s.parties.layout d x.0 in
      has_voter s.parties.coords outcome t h.ballot s.parties.layout.dcs d range.0 range.1 (subst (λ (z : Outcome). has_voted s.parties.coords z t h.ballot d ≡ true) v.1 x.1))
      h.enough,
)
