-- A client stays a client, whatever it does.
use Rattle.std.proofs.Common.{◌≡◌, ℕ, List, [], ◌∷◌, ◌++◌, refl, ap, ◌∙◌, subst, Option, Some, None}
use Rattle.std.specs.Ordering.{nat_cmp}
use Rattle.rc_ids.specs.Tables.{found, maybe}
use Rattle.rc_ids.specs.Cluster.{Layout}
use Rattle.rc_ids.specs.declared.names.Party.{Party}
use Rattle.rc_ids.specs.declared.names.Party.TheVariants.{Client as ClientOf}
use Rattle.rc_net.specs.Network.{Message}
use Rattle.rc_protocol.specs.Client.{Client, ClientAct, new_client}
use Rattle.rc_runs.specs.declared.event.Event.{Event}
use Rattle.rc_runs.specs.declared.event.Event.TheVariants.{Begin, Read, Write, Commit, Cancel, Retry, Vanish, Take, Catch, Deliver, Lose, Crash, CrashAt, Restart}
use Rattle.rc_runs.specs.World.{Parties, Deed, Idle, ByClient, Course, Goes, Stops, along}
use Rattle.rc_runs.specs.Refusals.{Happening}
use Rattle.rc_wire.specs.declared.turn.Turn.{Turn}
use Rattle.rc_agreement.proofs.Cases.{on_maybe}
use Rattle.rc_composition.specs.Composed.{Operations, event_of}
use Rattle.rc_composition.specs.Parts.{Part, OfClient, NoPart, part_in, envelope_at, hears, own_deed, part_after, part_moved, part_between, part_by}

-- nothing, or what a client does
data IsOfClient (t : ℕ) : Deed → Type 0 where
  Nothing : IsOfClient t Idle
  Acts : (act : ClientAct) → IsOfClient t (ByClient t act)

own_of_client : (c : Layout) (sent : List Message) (t : ℕ) (x : Client) (e : Event) → IsOfClient t (own_deed c sent (OfClient t x) e)
own_of_client c sent t x (Deliver n) = on_maybe (IsOfClient t) (envelope_at sent n) Idle (hears c (OfClient t x)) (λ _. Nothing) (λ e _. Acts _)
own_of_client c sent t x (Read u k) = Acts _
own_of_client c sent t x (Write u k value) = Acts _
own_of_client c sent t x (Commit u) = Acts _
own_of_client c sent t x (Cancel u k) = Acts _
own_of_client c sent t x (Vanish u) = Acts _
own_of_client c sent t x (Restart node) = Nothing
own_of_client c sent t x (Begin u) = Nothing
own_of_client c sent t x (Retry u) = Nothing
own_of_client c sent t x (Take d u) = Nothing
own_of_client c sent t x (Catch node) = Nothing
own_of_client c sent t x (Lose n) = Nothing
own_of_client c sent t x (Crash node) = Nothing
own_of_client c sent t x (CrashAt node k pick) = Nothing

along_of_client : (t : ℕ) (course : Course) (d : Deed) → IsOfClient t d → IsOfClient t (along course d)
along_of_client t Goes d is = is
along_of_client t (Stops kept) d Nothing = Nothing
along_of_client t (Stops kept) d (Acts act) = Acts act

after_of_client : (t : ℕ) (x : Client) (d : Deed) → IsOfClient t d → (y : Client) × (part_after (OfClient t x) d ≡ OfClient t y)
after_of_client t x d Nothing = (x, refl)
after_of_client t x d (Acts act) = (act.after, refl)

moved_client : (c : Layout) (sent : List Message) (t : ℕ) (x : Client) (h : Option Happening) → (y : Client) × (part_moved c sent (OfClient t x) h ≡ OfClient t y)
moved_client c sent t x None = (x, refl)
moved_client c sent t x (Some h) = after_of_client t x _ (along_of_client t h.1 (own_deed c sent (OfClient t x) h.0) (own_of_client c sent t x h.0))

client_between : (c : Layout) (ops : Operations) (sent : List Message) (p : Party) (t : ℕ) (x : Client) (earlier ts later : List Turn)
    → (y : Client) × (part_between c ops sent p (OfClient t x) earlier ts later ≡ OfClient t y)
client_between c ops sent p t x earlier [] later = (x, refl)
client_between c ops sent p t x earlier (e ∷ es) later =
    let first = moved_client c sent t x (event_of ops p earlier e.act (es ++ later)) in
    let rest = client_between c ops sent p t first.0 (earlier ++ e ∷ []) es later in
    (rest.0, ap (λ (z : Part). part_between c ops sent p z (earlier ++ e ∷ []) es later) first.1 ∙ rest.1)

found_as : (t : ℕ) (o : Option Client) (x : Part) (y : Client) → maybe o NoPart (OfClient t) ≡ x → x ≡ OfClient t y → (z : Client) × (o ≡ Some z)
found_as t None x y is part = absurd cc
found_as t (Some z) x y is part = (z, refl)

-- so a client that is what its own entries make of it has begun
pub has_begun : (c : Layout) (ops : Operations) (sent : List Message) (w : Parties) (p : Party) (mine later : List Turn) → part_in w p ≡ part_by c ops sent p mine later
    → (t : ℕ) → p ≡ ClientOf t → (x : Client) × (found nat_cmp w.clients t ≡ Some x)
has_begun c ops sent w p mine later is t same =
    let own = client_between c ops sent (ClientOf t) t new_client [] mine later in
    found_as t (found nat_cmp w.clients t) (part_by c ops sent (ClientOf t) mine later) own.0 (subst (λ (q : Party). part_in w q ≡ part_by c ops sent q mine later) same is) own.1
