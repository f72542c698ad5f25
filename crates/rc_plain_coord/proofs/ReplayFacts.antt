-- Replay, record by record.
use Rattle.std.proofs.Common.{◌≡◌, ℕ, ◌+◌, ◌-◌, ◌≤◌, Bool, List, [], ◌∷◌, ◌++◌, length, take, drop, slice_get, Some, refl, sym, ap, ◌∙◌, arith}
use Rattle.std.proofs.Math.Seq.{take-append_seam}
use Rattle.std.proofs.lemmas.List.{length-append}
use Rattle.rc_record.proofs.Rest.{drop_step, drop_end}
use Rattle.rc_record.specs.declared.record.Record.{Record}
use Rattle.rc_record.specs.declared.coord.CoordDurable.{CoordDurable}
use Rattle.rc_record.specs.CoordState.{coord_applied, new_durable}
use Rattle.rc_protocol.specs.Coordinator.{CoordVolatile}
use Rattle.rc_protocol.specs.Nodes.{CoordNode, coord_replayed}

-- one more record of the log
pub replayed_step : (s : CoordDurable) (log : List Record) (i : ℕ) (r : Record) (new whole : CoordDurable) → slice_get log i ≡ Some r
    → new ≡ coord_applied s r → coord_replayed s (drop i log) ≡ whole → coord_replayed new (drop (i + 1) log) ≡ whole
replayed_step s log i r new whole at is before =
    ap (λ (t : CoordDurable). coord_replayed t (drop (i + 1) log)) is ∙ (ap (coord_replayed s) (sym (drop_step log i r at)) ∙ before)

-- all records of the log
pub replayed_end : (s : CoordDurable) (log : List Record) (i : ℕ) (whole : CoordDurable) → length log ≤ i → coord_replayed s (drop i log) ≡ whole → s ≡ whole
replayed_end s log i whole le before = ap (coord_replayed s) (sym (drop_end log i le)) ∙ before

-- a record at the end
pub replayed-append : (s : CoordDurable) (log : List Record) (r : Record) → coord_replayed s (log ++ r ∷ []) ≡ coord_applied (coord_replayed s log) r
replayed-append s [] r = refl
replayed-append s (q ∷ log) r = replayed-append (coord_applied s q) log r

-- a coordinator by its parts
abbrev node : Bool → List Record → CoordDurable → CoordVolatile → CoordNode
node up log durable volatile = record { up = up; log = log; durable = durable; volatile = volatile }

-- a record was written: what the log gives back, and the coordinator
pub written : (log new : List Record) (r : Record) (old : CoordNode) (before after : CoordDurable) → new ≡ log ++ r ∷ []
    → coord_replayed new_durable log ≡ old.durable → before ≡ old.durable → after ≡ coord_applied before r → after ≡ coord_replayed new_durable new
written log new r old before after grown replay same is =
    is ∙ ap (λ (s : CoordDurable). coord_applied s r) (same ∙ sym replay) ∙ sym (replayed-append new_durable log r)
    ∙ sym (ap (coord_replayed new_durable) grown)

pub written_node : (up : Bool) (log new : List Record) (v : CoordVolatile) (r : Record) (old : CoordNode) → new ≡ log ++ r ∷ []
    → node up log (coord_replayed new_durable log) v ≡ old
    → node up new (coord_replayed new_durable new) v ≡ node old.up (old.log ++ r ∷ []) (coord_applied old.durable r) old.volatile
written_node up log new v r old grown view =
    ap (λ (l : List Record). node up l (coord_replayed new_durable l) v) grown
    ∙ ap (λ (s : CoordDurable). node up (log ++ r ∷ []) s v) (replayed-append new_durable log r)
    ∙ ap (λ (x : CoordNode). node x.up (x.log ++ r ∷ []) (coord_applied x.durable r) x.volatile) view

-- the log without its last record
front : (xs log : List Record) (r : Record) (n : ℕ) → n ≡ length xs - 1 → xs ≡ log ++ r ∷ [] → take n xs ≡ log
front xs log r n last is =
    let long : n ≡ length log = omega (arith, ap length is, length-append log (r ∷ [])) in
    ap (λ m. take m xs) long ∙ ap (take (length log)) is ∙ take-append_seam log (r ∷ [])

pub taken_back : (up : Bool) (xs log : List Record) (v : CoordVolatile) (r : Record) (n : ℕ) (old : CoordNode) → n ≡ length xs - 1
    → node up xs (coord_replayed new_durable xs) v ≡ old → old.log ≡ log ++ r ∷ []
    → node up (take n xs) (coord_replayed new_durable (take n xs)) v ≡ node old.up log (coord_replayed new_durable log) old.volatile
taken_back up xs log v r n old last view is =
    ap (λ (l : List Record). node up l (coord_replayed new_durable l) v) (front xs log r n last (ap (λ (x : CoordNode). x.log) view ∙ is))
    ∙ ap (λ (x : CoordNode). node x.up log (coord_replayed new_durable log) x.volatile) view
