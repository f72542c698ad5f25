-- Reads as they are kept, and what they say to a grant.
use Rattle.std.specs.Prelude.{◌≡◌, ℕ, Bool, IsTrue, false, not, nat_lt, nat_le, ◌&&◌, List, [], ◌∷◌, ◌++◌, length, filter, Option, None, Some, if◌then◌else◌}
use Rattle.std.specs.Option.{option_map}
use Rattle.std.specs.Ordering.{nat_cmp}
use Rattle.rc_ids.specs.Tables.{member, added, up_to, maybe}
use Rattle.rc_ids.specs.Cluster.{Layout, IsLayout, all_dcs, holds}
use Rattle.rc_protocol.specs.Client.{Grant, granted_by, best_grant}
use Rattle.rc_read.specs.declared.state.ReadDone.{ReadDone}

-- the weights of the datacentres, those of them that were offered, and until these are a quorum the best grant
pub record Reading : Type 0 where
  pub weights : List ℕ
  pub offered : List ℕ
  pub best : Option Grant

-- a read to which nothing was offered
abbrev pub new_read : List ℕ → Reading
new_read weights = record { weights = weights; offered = []; best = None }

-- the datacentres offered are a quorum
abbrev pub is_done : Reading → Bool
is_done r = holds r.weights r.offered

-- the datacentres that were not offered, of the first so many as there are weights
abbrev pub rest_of : Reading → List ℕ
rest_of r = filter (λ d. nat_le d (length r.weights) && not (member nat_cmp r.offered d)) (up_to 7)

-- A GRANT COMES
-- the grant of the higher version: of two at one version, the first
abbrev pub pick : Grant → Grant → Grant
pick first second = if nat_lt first.version second.version then second else first

abbrev pub better : Option Grant → Grant → Grant
better best g = maybe best g (λ b. pick b g)

-- the read is not done, and the datacentre was not offered
abbrev pub counts : Reading → ℕ → Bool
counts r d = not (is_done r) && not (member nat_cmp r.offered d)

abbrev pub with_grant : Reading → Grant → Reading
with_grant r g = record { weights = r.weights; offered = added nat_cmp r.offered g.dc; best = Some (better r.best g) }

-- once it is done, the best grant is given away
abbrev pub shown : Reading → Reading
shown r = record { weights = r.weights; offered = r.offered; best = if is_done r then None else r.best }

-- what was read, if it is done
abbrev pub ended : Reading → Option ReadDone
ended r = if is_done r then option_map (λ b. record { version = b.version; value = b.value; from = r.offered }) r.best else None

-- what is said to a grant, and what then stands
abbrev pub answer_to : Reading → Grant → Option ReadDone
answer_to r g = if counts r g.dc then ended (with_grant r g) else None

abbrev pub after_offer : Reading → Grant → Reading
after_offer r g = if counts r g.dc then shown (with_grant r g) else r

-- GRANTS OF A CLIENT
-- the first grant of the highest version
abbrev pub best_of : List Grant → Option Grant
best_of [] = None
best_of (g ∷ gs) = Some (maybe (best_of gs) g (pick g))

-- the read with these grants
abbrev pub read_of : List ℕ → List Grant → Reading
read_of weights gs = record { weights = weights; offered = granted_by gs; best = if holds weights (granted_by gs) then None else best_of gs }

-- what a read with these grants gives
abbrev pub done_by : List Grant → ReadDone
done_by gs = record { version = (best_grant gs).0; value = (best_grant gs).1; from = granted_by gs }

-- a read as it is kept is the read of the client's rows
pub record IsRead (weights : List ℕ) : Type 0 where
  -- it begins with no grant
  pub first : new_read weights ≡ read_of weights []
  -- a grant counts until the grants are a quorum's, where its datacentre has not granted
  pub waits : (gs : List Grant) (d : ℕ)
      → counts (read_of weights gs) d ≡ (not (holds weights (granted_by gs)) && not (member nat_cmp (granted_by gs) d))
  -- one that counts is the last of the grants from then on
  pub more : (gs : List Grant) (g : Grant) → IsTrue (counts (read_of weights gs) g.dc)
      → after_offer (read_of weights gs) g ≡ read_of weights (gs ++ g ∷ [])
  -- with it the read is complete as soon as a quorum granted
  pub gives : (gs : List Grant) (g : Grant) → IsTrue (counts (read_of weights gs) g.dc)
      → answer_to (read_of weights gs) g ≡ (if holds weights (granted_by (gs ++ g ∷ [])) then Some (done_by (gs ++ g ∷ [])) else None)
  -- the best grant until then
  pub best : (gs : List Grant) → holds weights (granted_by gs) ≡ false
      → maybe (read_of weights gs).best (0, None) (λ (b : Grant). (b.version, b.value)) ≡ best_grant gs
  -- and those that did not grant, of the datacentres of a cluster
  pub rest : (c : Layout) (gs : List Grant) → IsLayout c → c.weights ≡ weights
      → rest_of (read_of weights gs) ≡ filter (λ d. not (member nat_cmp (granted_by gs) d)) (all_dcs c)
