use Rattle.std.proofs.Common.{◌≡◌, ℕ, [], ◌∷◌, ◌++◌, List, Option, nat_cmp, sym, ap, ◌∙◌}
use Rattle.rc_ids.specs.Tables.{added}
use Rattle.rc_protocol.specs.Client.{Grant, granted_by, best_grant}
use Rattle.rc_read.specs.declared.state.ReadDone.{ReadDone}
use Rattle.rc_read.specs.Reads.{done_by}
use Rattle.rc_read.proofs.GrantFacts.{granted_more}
use Rattle.rc_client.proofs.grants.Grants.done_with.Goals as goal

-- what is read, by its parts
done-is : (gs : List Grant) (g : Grant) (version : ℕ) (value : Option (List ℕ)) (from : List ℕ) → (version, value) ≡ best_grant (gs ++ g ∷ [])
    → from ≡ added nat_cmp (granted_by gs) g.dc → record { version = version; value = value; from = from } ≡ done_by (gs ++ g ∷ [])
done-is gs g version value from best by =
    ap (λ (b : ℕ × Option (List ℕ)). let z : ReadDone = record { version = b.0; value = b.1; from = from } in z) best
    ∙ ap (λ (f : List ℕ). let z : ReadDone = record { version = (best_grant (gs ++ g ∷ [])).0; value = (best_grant (gs ++ g ∷ [])).1; from = f } in z)
    (by ∙ sym (granted_more gs g))

pub returns : goal.returns
returns c =
    let best : (c.best_with-version.result.0, c.in_ok-copied.field-0) ≡ best_grant (c.args.self.now ++ c.args.last.now ∷ []) =
    ap (λ (v : Option (List ℕ)). let z : ℕ × Option (List ℕ) = (c.best_with-version.result.0, v) in z) c.in_ok-copied.ensures
    ∙ c.best_with-version.ensures
    ∙ ap (λ (gs : List Grant). best_grant (gs ++ c.args.last.now ∷ [])) (c.as_slice.ensures.value ∙ c.self.view_is) in
    let by : c.with.result ≡ added nat_cmp (granted_by c.args.self.now) c.args.last.now.dc =
    c.with.ensures ∙ ap (λ (set : List ℕ). added nat_cmp set c.last.inside.dc) c.granted_by.ensures
    ∙ ap (λ (g : Grant). added nat_cmp (granted_by c.args.self.now) g.dc) c.last.view_is in
    done-is c.args.self.now c.args.last.now c.best_with-version.result.0 c.in_ok-copied.field-0 c.with.result best by
