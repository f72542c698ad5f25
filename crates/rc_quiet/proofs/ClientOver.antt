-- Over a stretch in which nothing of t is dropped, its client stays, keeps its keys, and once it is not open stays so.
use Rattle.std.proofs.Common.{◌≡◌, ℕ, List, [], sym, subst, Bool, true, false, Option, Some}
use Rattle.std.specs.Prelude.{map}
use Rattle.std.specs.Ordering.{nat_cmp}
use Rattle.rc_ids.specs.Tables.{In, found, maybe}
use Rattle.rc_protocol.specs.Client.{Client, Slot, is_open}
use Rattle.rc_runs.specs.World.{World, course_deed, step}
use Rattle.rc_runs.specs.Refusals.{Happening, is_event, run}
use Rattle.rc_claims.specs.Quiet.{DropsNothing, moments, events_of, keys_of}
use Rattle.rc_agreement.proofs.Lists.{map_in}
use Rattle.rc_quiet.proofs.Stretches.{over, rest_of}
use Rattle.rc_quiet.proofs.ClientKeys.{keys_in, keys_stay, stays_shut}
use Rattle.rc_quiet.proofs.ClientAfter.{Becomes, Rested, Acted, client_after}
use Rattle.rc_quiet.proofs.EventSteps.{drops_none, event_ok}

-- t's client is there with these keys, and is not open if that is asked
pub record Stands (t : ℕ) (keys : List (List ℕ)) (shut : Bool) (v : World) : Type 0 where
  pub client : Client
  pub is : found nat_cmp v.parties.clients t ≡ Some client
  pub has : (k : List ℕ) → In k keys → In k (keys_in client.slots)
  pub closed : shut ≡ true → is_open client.phase ≡ false

module _ (t : ℕ) (keys : List (List ℕ)) (shut : Bool) where
  stands_still : (v : World) (h : Happening) → is_event v h ≡ true → Unit {0} → Unit {0} → DropsNothing t h.0 → Stands t keys shut v → Stands t keys shut (step v h.0 h.1)
  stands_still v h ok a b drops s =
      let r = client_after t v h.0 h.1 (event_ok v h ok).0 s.client s.is in
      by r.0 r.1 r.2
    where
      by : (y : Client) → found nat_cmp (step v h.0 h.1).parties.clients t ≡ Some y → Becomes v h.0 (course_deed v h.0 h.1) t s.client y → Stands t keys shut (step v h.0 h.1)
      by y is (Rested same) = record { client = y; is = is; has = λ k i. subst (λ (c : Client). In k (keys_in c.slots)) (sym same) (s.has k i); closed = λ e. subst (λ (c : Client). is_open c.phase ≡ false) (sym same) (s.closed e) }
      by y is (Acted k why same deed) =
          let none = drops_none t v.sent h.0 k drops why in
          record {
            client = y;
            is = is;
            has = λ q i. subst (λ (c : Client). In q (keys_in c.slots)) (sym same) (keys_stay v.parties.layout t s.client k none q (s.has q i));
            closed = λ e. subst (λ (c : Client). is_open c.phase ≡ false) (sym same) (stays_shut v.parties.layout t s.client k none (s.closed e));
          }

  pub stands_over : (w : World) (hs : List Happening) → ((v : World) (h : Happening) → In (v, h) (events_of w hs) → DropsNothing t h.0) → Stands t keys shut w → Stands t keys shut (run w hs)
  stands_over w hs drops s = over (λ v. Unit {0}) (λ v h. DropsNothing t h.0) (Stands t keys shut) stands_still w hs (λ v i. tt) drops s

-- the keys of a moment are those of the end
pub keys_last : (w : World) (hs : List Happening) (t : ℕ) → ((v : World) (h : Happening) → In (v, h) (events_of w hs) → DropsNothing t h.0) → (v : World) → In v (moments w hs)
    → (x : Client) (s : Slot) → found nat_cmp v.parties.clients t ≡ Some x → In s x.slots → In s.key (keys_of (run w hs) t)
keys_last w hs t drops v i x s is j =
    let r = rest_of w hs v i in
    let e = stands_over t (keys_in x.slots) false v r.after (λ z h k. drops z h (r.event z h k)) (record { client = x; is = is; has = λ k l. l; closed = λ f. absurd (cc) }) in
    let k = e.has s.key (map_in (λ (z : Slot). z.key) s x.slots j) in
    subst (λ (z : World). In s.key (keys_of z t)) r.ends
    (subst (λ (o : Option Client). In s.key (maybe o [] (λ y. map (λ (z : Slot). z.key) y.slots))) (sym e.is) k)
