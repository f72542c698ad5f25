-- What a coordinator holds of t after a record.
use Rattle.std.proofs.Common.{◌≡◌, ℕ, List, [], ◌∷◌, ◌++◌, sym, ap, ◌∙◌, subst, Option, Some, None, ◌⊎◌, inl, inr, ⊎_elim, max}
use Rattle.std.specs.Ordering.{nat_cmp}
use Rattle.rc_ids.specs.Tables.{In, Table, found, put, maybe}
use Rattle.rc_ids.specs.Cluster.{Layout}
use Rattle.rc_body.specs.declared.decision.Decision.{Decision}
use Rattle.rc_body.specs.declared.decision.Decision.TheVariants.{Commit}
use Rattle.rc_msg.specs.declared.msg.Envelope.{Envelope}
use Rattle.rc_record.specs.declared.record.Record.{Record}
use Rattle.rc_record.specs.declared.record.Record.TheVariants.{Head, Prepared, Finished, Promised, Accepted, Decided as OutcomesDecided}
use Rattle.rc_record.specs.CoordState.{CoordDurable, promise_of, outcome_of as listed_outcome, outcomes_joined, coord_applied}
use Rattle.rc_protocol.specs.Coordinator.{GatherState, Standing}
use Rattle.rc_protocol.specs.Nodes.{CoordNode, applied}
use Rattle.rc_agreement.proofs.Cases.{on_maybe, some_is}
use Rattle.rc_agreement.proofs.Tables.{put_cases, in_either}
use Rattle.rc_quiet.proofs.Parts.{Own, Told, Tallies, CoordFits}
use Rattle.rc_quiet.proofs.CoordFitRows.{Lists}

pub in_joined : (es list : List (ℕ × Decision)) (x : ℕ × Decision) → In x (outcomes_joined list es) → In x list ⊎ In x es
in_joined [] list x i = inl i
in_joined (e ∷ es) list x i =
    ⊎_elim
    (λ (old : In x (maybe (listed_outcome list e.0) (list ++ e ∷ []) (λ _. list))).
    on_maybe (λ (z : List (ℕ × Decision)). In x z → In x list ⊎ In x (e ∷ es)) (listed_outcome list e.0) (list ++ e ∷ []) (λ _. list)
    (λ _ j. ⊎_elim inl (λ (k : (e ≡ x) ⊎ ⊥). inr (⊎_elim inl (λ n. absurd n) k)) (in_either x list (e ∷ []) j)) (λ _ _ j. inl j) old)
    (λ new. inr (inr new))
    (in_joined es (maybe (listed_outcome list e.0) (list ++ e ∷ []) (λ _. list)) x i)

module _ (t : ℕ) (c : Layout) (now : List Envelope) (x : CoordNode) (fits : CoordFits t c now x) where
  accepted_after : (r : Option Record) → ((b : ℕ) (o : Decision) → r ≡ Some (Accepted t b o) → (b ≡ 0) × Own t now o)
      → (b : ℕ) (o : Decision) → found nat_cmp (applied coord_applied x.durable r).accepted t ≡ Some (b, o) → (b ≡ 0) × Own t now o
  accepted_after (Some (Accepted u a p)) new b o is =
      ⊎_elim
      (λ (h : (t ≡ u) × (found nat_cmp (put nat_cmp x.durable.accepted u (a, p)) t ≡ Some (a, p))).
      let pair : ◌≡◌ {A = ℕ × Decision} (a, p) (b, o) = some_is (a, p) (b, o) (sym h.1 ∙ is) in
      let n = h.0 in
      new b o (λ i. Some (Accepted (sym n i) (pair i).0 (pair i).1)))
      (λ (h : (t ≡ u → ⊥) × (found nat_cmp (put nat_cmp x.durable.accepted u (a, p)) t ≡ found nat_cmp x.durable.accepted t)). fits.accepted b o (sym h.1 ∙ is))
      (put_cases t u (a, p) x.durable.accepted)
  accepted_after None new b o is = fits.accepted b o is
  accepted_after (Some (Promised u a)) new b o is = fits.accepted b o is
  accepted_after (Some (OutcomesDecided es)) new b o is = fits.accepted b o is
  accepted_after (Some (Head h)) new b o is = fits.accepted b o is
  accepted_after (Some (Prepared u p)) new b o is = fits.accepted b o is
  accepted_after (Some (Finished es)) new b o is = fits.accepted b o is

  listed_after : (r : Option Record) → Lists t c now r → (o : Decision) → In (t, o) (applied coord_applied x.durable r).outcomes → Told t c now o
  listed_after (Some (OutcomesDecided es)) new o i = ⊎_elim (λ old. fits.listed o old) (λ j. new o j) (in_joined es x.durable.outcomes (t, o) i)
  listed_after None new o i = fits.listed o i
  listed_after (Some (Promised u a)) new o i = fits.listed o i
  listed_after (Some (Accepted u a p)) new o i = fits.listed o i
  listed_after (Some (Head h)) new o i = fits.listed o i
  listed_after (Some (Prepared u p)) new o i = fits.listed o i
  listed_after (Some (Finished es)) new o i = fits.listed o i

  pub fits_after : (r : Option Record) → ((b : ℕ) (o : Decision) → r ≡ Some (Accepted t b o) → (b ≡ 0) × Own t now o) → Lists t c now r
      → (y : CoordNode) → y.durable ≡ applied coord_applied x.durable r → ((g : GatherState) → In (t, g) y.volatile.gathers → (g.ballot ≡ 0) × Own t now (Commit g.body))
      → ((tally : Table ℕ Standing) → In (t, tally) y.volatile.votes → Tallies t now tally) → CoordFits t c now y
  fits_after r accepts lists y e gathers tally =
      record {
        accepted = λ b o is. accepted_after r accepts b o (ap (λ (s : CoordDurable). found nat_cmp s.accepted t) (sym e) ∙ is);
        gathers = gathers;
        listed = λ o i. listed_after r lists o (subst (λ (s : CoordDurable). In (t, o) s.outcomes) e i);
        tally = tally;
      }

-- a promise of t is raised by no record but these
pub low_after : (t : ℕ) (s : CoordDurable) (r : Option Record) → promise_of s.promises t ≡ 0 → ((b : ℕ) (o : Decision) → r ≡ Some (Accepted t b o) → b ≡ 0) → ((b : ℕ) → r ≡ Some (Promised t b) → ⊥)
    → promise_of (applied coord_applied s r).promises t ≡ 0
low_after t s (Some (Accepted u b o)) low zeros none =
    ⊎_elim
    (λ (h : (t ≡ u) × (found nat_cmp (put nat_cmp s.promises u (max (promise_of s.promises u) b)) t ≡ Some (max (promise_of s.promises u) b))).
    let n = h.0 in
    let a : promise_of s.promises u ≡ 0 = subst (λ (k : ℕ). promise_of s.promises k ≡ 0) n low in
    let z : b ≡ 0 = zeros b o (λ i. Some (Accepted (sym n i) b o)) in
    ap (λ (p : Option ℕ). maybe p 0 (λ q. q)) h.1 ∙ (λ i. max (a i) (z i)))
    (λ (h : (t ≡ u → ⊥) × (found nat_cmp (put nat_cmp s.promises u (max (promise_of s.promises u) b)) t ≡ found nat_cmp s.promises t)). ap (λ (p : Option ℕ). maybe p 0 (λ q. q)) h.1 ∙ low)
    (put_cases t u (max (promise_of s.promises u) b) s.promises)
low_after t s (Some (Promised u b)) low zeros none =
    ⊎_elim
    (λ (h : (t ≡ u) × (found nat_cmp (put nat_cmp s.promises u (max (promise_of s.promises u) b)) t ≡ Some (max (promise_of s.promises u) b))). let n = h.0 in absurd (none b (λ i. Some (Promised (sym n i) b))))
    (λ (h : (t ≡ u → ⊥) × (found nat_cmp (put nat_cmp s.promises u (max (promise_of s.promises u) b)) t ≡ found nat_cmp s.promises t)). ap (λ (p : Option ℕ). maybe p 0 (λ q. q)) h.1 ∙ low)
    (put_cases t u (max (promise_of s.promises u) b) s.promises)
low_after t s None low zeros none = low
low_after t s (Some (OutcomesDecided es)) low zeros none = low
low_after t s (Some (Head h)) low zeros none = low
low_after t s (Some (Prepared u p)) low zeros none = low
low_after t s (Some (Finished es)) low zeros none = low
