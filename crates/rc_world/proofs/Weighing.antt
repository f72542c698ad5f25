-- The weights by which clients count their votes, as a test and as a fact.
use Rattle.std.proofs.Common.{◌≡◌, ℕ, true, List, [], ◌∷◌, Option, None, Some, IfSome, IsTrue, refl, sym}
use Rattle.std.specs.Prelude.{nat_eq}
use Rattle.std.specs.Cmp.Lexicographic.{pointwise, same_text}
use Rattle.std.proofs.lemmas.Cmp.{nat_list_eq_equiv}
use Rattle.rc_ids.specs.Tables.{Table, maybe}
use Rattle.rc_ids.specs.Cluster.{Layout}
use Rattle.rc_client.specs.Acts.{Core}
use Rattle.rc_world.specs.Clients.{AreOf}
use Rattle.rc_world.specs.Weights.{is_of, are_of}
use Rattle.rc_world.proofs.Wellness.{both, all}

module _ (c : Layout) where
  same_weights : (o : Option (List ℕ)) → IsTrue (maybe o true (λ weights. pointwise nat_eq weights c.weights)) → IfSome o (λ weights. weights ≡ c.weights)
  same_weights None is = tt
  same_weights (Some weights) is = same_text weights c.weights (sym is)

  tests_same : (o : Option (List ℕ)) → IfSome o (λ weights. weights ≡ c.weights) → IsTrue (maybe o true (λ weights. pointwise nat_eq weights c.weights))
  tests_same None is = refl
  tests_same (Some weights) is = rw is (nat_list_eq_equiv.refl c.weights)

  pub are_so : (cores : Table ℕ Core) → IsTrue (are_of c cores) → AreOf c cores
  are_so [] is = tt
  are_so (e ∷ es) is = let k = both (is_of c e.1) (are_of c es) is in (same_weights e.1.weights k.0, are_so es k.1)

  pub are_tested : (cores : Table ℕ Core) → AreOf c cores → IsTrue (are_of c cores)
  are_tested [] is = refl
  are_tested (e ∷ es) is = all (is_of c e.1) (are_of c es) (tests_same e.1.weights is.0) (are_tested es is.1)
