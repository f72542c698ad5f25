-- Hosts that are left to be given back.
use Rattle.std.proofs.Common.{◌≡◌, Bool, true, false, List, ◌∷◌, IsTrue, sym, subst}
use Rattle.std.specs.Prelude.{◌&&◌}
use Rattle.std.specs.List.{list_all}
use Rattle.std.proofs.lemmas.Bool.{false≢true}
use Rattle.rc_host.specs.Hosts.{IsThere}
use Rattle.rc_host.specs.declared.host.Host.{Host}
use Rattle.rc_host.specs.declared.host.Host.TheVariants.{Up, Opened, Down, Lent}
use Rattle.rc_begin.specs.Wells.{is_well}

-- a host that is well is there
there : {N J D : Type 0} (stopped : N → Bool) (h : Host N J D) → is_well stopped h ≡ true → IsThere h
there stopped (Up node) well = tt
there stopped (Opened journal blobs) well = tt
there stopped (Down disk) well = tt
there stopped Lent well = absurd (false≢true well)

both : (a b : Bool) → (a && b) ≡ true → (a ≡ true) × (b ≡ true)
both true true e = (e, e)
both true false e = absurd (false≢true e)
both false b e = absurd (false≢true e)

well_parts : {N J D : Type 0} (stopped : N → Bool) (left rest : List (Host N J D)) (h : Host N J D) → left ≡ h ∷ rest → IsTrue (list_all (is_well stopped) left)
    → (is_well stopped h ≡ true) × IsTrue (list_all (is_well stopped) rest)
well_parts stopped left rest h next well = both (is_well stopped h) (list_all (is_well stopped) rest) (subst (λ (hs : List _). IsTrue (list_all (is_well stopped) hs)) next well)

pub next_there : {N J D : Type 0} (stopped : N → Bool) (left rest : List (Host N J D)) (h : Host N J D) → left ≡ h ∷ rest → IsTrue (list_all (is_well stopped) left) → IsThere h
next_there stopped left rest h next well = there stopped h (well_parts stopped left rest h next well).0

pub rest_well : {N J D : Type 0} (stopped : N → Bool) (left rest : List (Host N J D)) (h : Host N J D) → left ≡ h ∷ rest → IsTrue (list_all (is_well stopped) left) → IsTrue (list_all (is_well stopped) rest)
rest_well stopped left rest h next well = (well_parts stopped left rest h next well).1

pub all_well : {N J D : Type 0} (stopped : N → Bool) (left all : List (Host N J D)) → left ≡ all → IsTrue (list_all (is_well stopped) all) → IsTrue (list_all (is_well stopped) left)
all_well stopped left all same well = subst (λ (hs : List _). IsTrue (list_all (is_well stopped) hs)) (sym same) well
