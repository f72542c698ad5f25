-- One more vote in a tally that is there.
use Rattle.std.proofs.Common.{◌≡◌, ℕ, [], ◌∷◌, Option, Some, sym, ap, ◌∙◌}
use Rattle.std.specs.Ordering.{nat_cmp}
use Rattle.std.specs.List.Sorted.{IsStrictlySortedBy}
use Rattle.std.specs.Map.{lookup, set_value, keys_of}
use Rattle.std.specs.BTreeMap.{insert_entry, is_at}
use Rattle.rc_ids.specs.Tables.{Table, found, put, maybe}
use Rattle.rc_body.specs.declared.decision.Decision.{Decision}
use Rattle.rc_protocol.specs.Coordinator.{Standing, counted}
use Rattle.rc_plain_coord.proofs.TableFacts.{put-found}

pub counted_there : (m old : Table ℕ (Table ℕ Standing)) (t b d : ℕ) (o : Decision) (tally w : Table ℕ Standing) (new : Table ℕ (Table ℕ Standing))
    → m ≡ old → IsStrictlySortedBy nat_cmp (keys_of m) → Some tally ≡ lookup (is_at (nat_cmp t)) m
    → new ≡ set_value (is_at (nat_cmp t)) m w → w ≡ counted tally b d o
    → new ≡ put nat_cmp old t (counted (maybe (found nat_cmp old t) [] (λ x. x)) b d o)
counted_there m old t b d o tally w new same sorted there written vote =
    written ∙ put-found m t w tally sorted (sym there)
    ∙ ap (λ (x : Table ℕ Standing). insert_entry nat_cmp m t x) (vote ∙ ap (λ (r : Option (Table ℕ Standing)). counted (maybe r [] (λ x. x)) b d o) there)
    ∙ ap (λ (n : Table ℕ (Table ℕ Standing)). put nat_cmp n t (counted (maybe (found nat_cmp n t) [] (λ x. x)) b d o)) same
