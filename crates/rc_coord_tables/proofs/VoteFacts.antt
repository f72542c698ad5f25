-- A vote in the tally of a transaction is the vote in the table.
use Rattle.std.proofs.Common.{◌≡◌, ℕ, nat_eq, Bool, List, [], Option, Some, None, is_some, refl, sym, ap, ◌∙◌, if◌then◌else◌, true, false}
use Rattle.std.specs.Ordering.{nat_cmp}
use Rattle.std.specs.Option.{option_map}
use Rattle.std.specs.Map.{lookup, set_value}
use Rattle.indexmap.specs.IndexMap.{insert_entry as in_order}
use Rattle.rc_ids.specs.Tables.{Table, put, maybe}
use Rattle.rc_ids.specs.Cluster.{holds}
use Rattle.rc_body.specs.declared.decision.Decision.{Decision}
use Rattle.rc_body.specs.declared.decision.Decision.TheVariants.{Commit, Abort}
use Rattle.rc_body.specs.Decisions.{outcome_of}
use Rattle.rc_protocol.specs.Coordinator.{Standing, counted, standing_at, stands_for, standing_for}
use Rattle.rc_ballots.specs.Tallies.{Tally, counted_for, won_by}
use Rattle.rc_coord_tables.specs.Maps.{shown_by, IsList}
use Rattle.rc_coord_tables.specs.Votes.{vote_table, votes_in, IsOf, tally_at, with_vote, would_decide}
use Rattle.rc_coord_tables.proofs.MapFacts.{shown-found, shown-in_order, set_is}

counts : (votes : Table ℕ Standing) (b d : ℕ) (o : Decision) → counted_for votes b d (outcome_of o) ≡ counted votes b d o
counts votes b d Abort = refl
counts votes b d (Commit body) = refl

some_if : {A : Type 0} (b : Bool) (x : A) → is_some (if b then Some x else None) ≡ b
some_if true x = refl
some_if false x = refl

abbrev of_votes : Option Tally → Table ℕ Standing
of_votes o = maybe o [] (λ (t : Tally). t.votes)

maybe-map : (o : Option Tally) → maybe (option_map votes_in o) [] (λ (x : Table ℕ Standing). x) ≡ of_votes o
maybe-map None = refl
maybe-map (Some t) = refl

module _ (weights : List ℕ) (es : List (ℕ × Tally)) (t : ℕ) (list : IsList (IsOf weights) es) where
  tally_is : tally_at (shown_by votes_in es) t ≡ of_votes (lookup (nat_eq t) es)
  tally_is = ap (λ (o : Option (Table ℕ Standing)). maybe o [] (λ x. x)) (shown-found votes_in es t list.apart) ∙ maybe-map (lookup (nat_eq t) es)

  pub vote-in_order : (b d : ℕ) (o : Decision) (new : Tally) → new.votes ≡ counted_for (of_votes (lookup (nat_eq t) es)) b d (outcome_of o)
      → shown_by votes_in (in_order nat_eq es t new) ≡ with_vote (shown_by votes_in es) t b d o
  vote-in_order b d o new vote =
      shown-in_order votes_in es t new list.apart
      ∙ ap (λ (x : Table ℕ Standing). put nat_cmp (shown_by votes_in es) t x)
      (vote ∙ counts (of_votes (lookup (nat_eq t) es)) b d o ∙ ap (λ (x : Table ℕ Standing). counted x b d o) (sym tally_is))

  pub vote-there : (b d : ℕ) (o : Decision) (old new : Tally) → lookup (nat_eq t) es ≡ Some old → new.votes ≡ counted_for old.votes b d (outcome_of o)
      → shown_by votes_in (set_value (nat_eq t) es new) ≡ with_vote (shown_by votes_in es) t b d o
  vote-there b d o old new there vote =
      ap (shown_by votes_in) (set_is es t old new there)
      ∙ vote-in_order b d o new (vote ∙ ap (λ (l : Option Tally). counted_for (of_votes l) b d (outcome_of o)) (sym there))

  pub vote-new : (b d : ℕ) (o : Decision) (new : Tally) → lookup (nat_eq t) es ≡ None → new.votes ≡ counted_for [] b d (outcome_of o)
      → shown_by votes_in (in_order nat_eq es t new) ≡ with_vote (shown_by votes_in es) t b d o
  vote-new b d o new none vote =
      vote-in_order b d o new (vote ∙ ap (λ (l : Option Tally). counted_for (of_votes l) b d (outcome_of o)) (sym none))

  abbrev decided_by : Table ℕ Standing → ℕ → ℕ → Decision → Bool
  decided_by votes b d p = holds weights (standing_for (stands_for (standing_at votes b) p d) p)

  decides : (votes : Table ℕ Standing) (b d : ℕ) (o : Decision) → tally_at (shown_by votes_in es) t ≡ votes
      → is_some (won_by weights votes b d (outcome_of o)) ≡ would_decide (vote_table weights (shown_by votes_in es)) t b d o
  decides votes b d o is = at o ∙ ap (λ (x : Table ℕ Standing). decided_by x b d o) (sym is)
    where
      at : (p : Decision) → is_some (won_by weights votes b d (outcome_of p)) ≡ decided_by votes b d p
      at Abort = some_if (decided_by votes b d Abort) (outcome_of Abort)
      at (Commit body) = some_if (decided_by votes b d (Commit body)) (outcome_of (Commit body))

  pub would-there : (b d : ℕ) (o : Decision) (old : Tally) → lookup (nat_eq t) es ≡ Some old
      → is_some (won_by weights old.votes b d (outcome_of o)) ≡ would_decide (vote_table weights (shown_by votes_in es)) t b d o
  would-there b d o old there = decides old.votes b d o (tally_is ∙ ap of_votes there)

  pub would-none : (b d : ℕ) (o : Decision) → lookup (nat_eq t) es ≡ None
      → is_some (won_by weights [] b d (outcome_of o)) ≡ would_decide (vote_table weights (shown_by votes_in es)) t b d o
  would-none b d o none = decides [] b d o (tally_is ∙ ap of_votes none)
