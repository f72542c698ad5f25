-- The order of the logs after a coordinator left a record in its log.
use Rattle.std.proofs.Common.{◌≡◌, ℕ, List, [], ◌∷◌, ◌++◌, Option, None, Some, IsTrue, refl, sym, ap, subst, ◌∙◌, ⊎_elim}
use Rattle.std.specs.Prelude.{slice_get, slice_set}
use Rattle.std.proofs.lemmas.Option.{slice_get_within}
use Rattle.rc_ids.specs.Tables.{maybe}
use Rattle.rc_ids.specs.Cluster.{Layout, is_dc}
use Rattle.rc_body.specs.declared.decision.Decision.TheVariants.{Commit, Abort}
use Rattle.rc_body.specs.declared.entry.Entry.{Entry}
use Rattle.rc_record.specs.declared.record.Record.{Record}
use Rattle.rc_record.specs.declared.record.Record.TheVariants.{Head, Prepared, Finished, Promised, Accepted, Decided}
use Rattle.rc_protocol.specs.Nodes.{CoordNode, coord_index, logged}
use Rattle.rc_runs.specs.Votes.{ordered}
use Rattle.rc_order.specs.Orders.{Order, IsAsBefore, vote_of}
use Rattle.rc_order.specs.Counts.{IsOrderOf, HasWritten, CountLaws, log_at}
use Rattle.rc_world.specs.declared.votes.Vote.{Vote}
use Rattle.rc_world.specs.Votes.{vote_in}
use Rattle.rc_begin.proofs.Lists.{set_at, set_other, same_or}

module _ (laws : (c : Layout) (coords now : List CoordNode) (o : Order) → CountLaws c coords now o) where
  -- only room was made
  pub room_keeps : (c : Layout) (coords : List CoordNode) (earlier committed : List (ℕ × List Entry)) (old new : Order) → IsAsBefore old new → IsOrderOf c coords earlier committed old → IsOrderOf c coords earlier committed new
  room_keeps c coords earlier committed old new same is = record {
    weights = is.weights ∙ sym same.weights;
    counted = (laws c coords coords old).same new same.votes is.counted;
    earlier = is.earlier ∙ sym same.earlier;
    listed = is.listed ∙ sym same.listed;
  }

  module _ (c : Layout) (coords : List CoordNode) (earlier committed : List (ℕ × List Entry)) (d : ℕ) (before after : CoordNode) (known : IsTrue (is_dc c d)) (stood : slice_get coords (coord_index d) ≡ Some before) where
    abbrev now : List CoordNode
    now = slice_set coords (coord_index d) after

    -- the log of the node is as before, and so is each other
    logs_stay : after.log ≡ before.log → (place : ℕ) → log_at now place ≡ log_at coords place
    logs_stay same place =
        ⊎_elim
        (λ (here : place ≡ coord_index d).
        subst (λ (i : ℕ). log_at now i ≡ log_at coords i) (sym here)
        (ap (λ (o : Option CoordNode). maybe o [] (λ x. x.log)) (set_at coords (coord_index d) after (slice_get_within coords (coord_index d) before stood)) ∙ same ∙ sym (ap (λ (o : Option CoordNode). maybe o [] (λ x. x.log)) stood)))
        (λ (other : place ≡ coord_index d → ⊥). ap (λ (o : Option CoordNode). maybe o [] (λ x. x.log)) (set_other coords (coord_index d) place after other))
        (same_or (coord_index d) place)

    pub nothing_left : (o : Order) → after.log ≡ before.log → IsOrderOf c coords earlier committed o → IsOrderOf c now earlier committed o
    nothing_left o same is = record { weights = is.weights; counted = (laws c coords now o).stay (logs_stay same) is.counted; earlier = is.earlier; listed = is.listed }

    written : (r : Record) → after.log ≡ before.log ++ r ∷ [] → HasWritten coords d r now
    written r log = record { before = before; after = after; was = stood; log = log; is = refl }

    pub other_left : (o : Order) (r : Record) → vote_of r ≡ None → after.log ≡ before.log ++ r ∷ [] → IsOrderOf c coords earlier committed o → IsOrderOf c now earlier committed o
    other_left o r no_vote log is = record { weights = is.weights; counted = (laws c coords now o).other d r no_vote known (written r log) is.counted; earlier = is.earlier; listed = is.listed }

    -- no vote for commit was left
    pub none_noted : (o : Order) (left : Option Record) → after.log ≡ logged before.log left → vote_in left ≡ None → IsOrderOf c coords earlier committed o → IsOrderOf c now earlier (ordered c now earlier committed left) o
    none_noted o None log no_vote is = nothing_left o log is
    none_noted o (Some (Accepted t b (Commit body))) log no_vote is = cc
    none_noted o (Some (Accepted t b Abort)) log no_vote is = other_left o (Accepted t b Abort) refl log is
    none_noted o (Some (Head h)) log no_vote is = other_left o (Head h) refl log is
    none_noted o (Some (Prepared t part)) log no_vote is = other_left o (Prepared t part) refl log is
    none_noted o (Some (Finished page)) log no_vote is = other_left o (Finished page) refl log is
    none_noted o (Some (Promised t b)) log no_vote is = other_left o (Promised t b) refl log is
    none_noted o (Some (Decided page)) log no_vote is = other_left o (Decided page) refl log is

    -- a vote for commit was left, and noted
    pub one_noted : (new : Order) (left : Option Record) (vote : Vote) → after.log ≡ logged before.log left → vote_in left ≡ Some vote
        → ((now : List CoordNode) (body : List Entry) → HasWritten coords d (Accepted vote.tx vote.ballot (Commit body)) now
        → IsOrderOf c now earlier (ordered c now earlier committed (Some (Accepted vote.tx vote.ballot (Commit body)))) new)
        → IsOrderOf c now earlier (ordered c now earlier committed left) new
    one_noted new (Some (Accepted t b (Commit body))) vote log is notes =
        let v : Vote = record { tx = t; ballot = b } in
        let same : v ≡ vote = (cc) in
        subst (λ (u : Vote). IsOrderOf c now earlier (ordered c now earlier committed (Some (Accepted u.tx u.ballot (Commit body)))) new) (sym same)
        (notes now body (subst (λ (u : Vote). HasWritten coords d (Accepted u.tx u.ballot (Commit body)) now) same (written (Accepted t b (Commit body)) log)))
    one_noted new None vote log is notes = cc
    one_noted new (Some (Accepted t b Abort)) vote log is notes = cc
    one_noted new (Some (Head h)) vote log is notes = cc
    one_noted new (Some (Prepared t part)) vote log is notes = cc
    one_noted new (Some (Finished page)) vote log is notes = cc
    one_noted new (Some (Promised t b)) vote log is notes = cc
    one_noted new (Some (Decided page)) vote log is notes = cc
