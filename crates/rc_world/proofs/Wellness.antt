-- Hosts that are well, among all.
use Rattle.std.proofs.Common.{◌≡◌, ℕ, zero, suc, ◌<◌, Bool, true, false, List, [], ◌∷◌, length, IsTrue, refl, sym, subst, arith}
use Rattle.std.specs.Prelude.{slice_set, slice_index_or, ◌&&◌, not}
use Rattle.std.specs.List.{list_all}
use Rattle.rc_host.specs.Hosts.{IfUp, IsThere, is_up}
use Rattle.rc_host.specs.declared.host.Host.{Host}
use Rattle.rc_host.specs.declared.host.Host.TheVariants.{Up, Opened, Down, Lent}
use Rattle.rc_begin.specs.Wells.{is_well}

goes : (b : Bool) → IsTrue (not b) → b ≡ false
goes true is = absurd (cc)
goes false is = refl

pub both : (a b : Bool) → IsTrue (a && b) → IsTrue a × IsTrue b
both true true is = (refl, refl)
both true false is = absurd (cc)
both false b is = absurd (cc)

pub all : (a b : Bool) → IsTrue a → IsTrue b → IsTrue (a && b)
all true true x y = refl
all true false x y = absurd (cc)
all false b x y = absurd (cc)

module _ {N J D : Type 0} (stopped : N → Bool) where
  abbrev IsFine : Host N J D → Type 0
  IsFine h = IsThere h × IfUp h (λ n. stopped n ≡ false)

  pub well_is : (h : Host N J D) → IsTrue (is_well stopped h) → IsFine h
  well_is (Up node) is = (tt, goes (stopped node) is)
  well_is (Opened journal blobs) is = (tt, tt)
  well_is (Down disk) is = (tt, tt)
  well_is Lent is = absurd (cc)

  pub is_fine : (h : Host N J D) → IsThere h → IfUp h (λ n. stopped n ≡ false) → IsTrue (is_well stopped h)
  is_fine (Up node) there up = rw up refl
  is_fine (Opened journal blobs) there up = refl
  is_fine (Down disk) there up = refl
  is_fine Lent there up = absurd there

  pub well_at : (hs : List (Host N J D)) (i : ℕ) (h : Host N J D) → IsTrue (list_all (is_well stopped) hs) → i < length hs → h ≡ slice_index_or hs i h → IsFine h
  well_at [] i h is within at = absurd (omega arith)
  well_at (g ∷ hs) zero h is within at = let e : g ≡ h = sym at in subst IsFine e (well_is g (both (is_well stopped g) (list_all (is_well stopped) hs) is).0)
  well_at (g ∷ hs) (suc i) h is within at = let k : i < length hs = omega arith in well_at hs i h (both (is_well stopped g) (list_all (is_well stopped) hs) is).1 k at

  pub well_set : (hs : List (Host N J D)) (i : ℕ) (h : Host N J D) → IsTrue (list_all (is_well stopped) hs) → IsThere h → IfUp h (λ n. stopped n ≡ false) → IsTrue (list_all (is_well stopped) (slice_set hs i h))
  well_set [] i h is there up = is
  well_set (g ∷ hs) zero h is there up = all (is_well stopped h) (list_all (is_well stopped) hs) (is_fine h there up) (both (is_well stopped g) (list_all (is_well stopped) hs) is).1
  well_set (g ∷ hs) (suc i) h is there up =
      let k = both (is_well stopped g) (list_all (is_well stopped) hs) is in
      all (is_well stopped g) (list_all (is_well stopped) (slice_set hs i h)) k.0 (well_set hs i h k.1 there up)

  -- a node that is down is not stopped
  pub down_is_fine : (h : Host N J D) → is_up h ≡ false → IfUp h (λ n. stopped n ≡ false)
  down_is_fine (Up node) down = absurd (cc)
  down_is_fine (Opened journal blobs) down = tt
  down_is_fine (Down disk) down = tt
  down_is_fine Lent down = tt
