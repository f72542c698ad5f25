-- One more event: the states before it stay, and the last is the one after it.
use Rattle.std.proofs.Common.{◌≡◌, ◌⊎◌, inl, inr, ℕ, zero, suc, ◌+◌, ◌-◌, ◌≤◌, ◌<◌, List, [], ◌∷◌, ◌++◌, length, take, drop, refl, sym, ap, subst, ◌∙◌, arith, append_assoc, length-append, length-drop}
use Rattle.std.proofs.Math.Seq.{take-length, drop-length}
use Rattle.std.proofs.Math.Nat.{le_refl}
use Rattle.std.proofs.lemmas.List.{take-append-le, drop-append-le, take_all}
use Rattle.rc_disk.specs.Calls.{Images, all_synced}
use Rattle.rc_disk.specs.Crashes.{TakesTime}
use Rattle.rc_disk.specs.Past.{History, replay, total_count, count_of, images_moved, state_at, IsOne, LeftSince, IsKept, Grows}
use Rattle.rc_disk.specs.declared.change.Event.{Event}

total-append : (a b : List Event) → total_count (a ++ b) ≡ total_count a + total_count b
unfolding total_count
total-append [] b = omega arith
total-append (e ∷ a) b = omega (arith, total-append a b)

total-take : (k : ℕ) (events : List Event) → total_count (take k events) ≤ total_count events
unfolding total_count
total-take zero events = omega arith
total-take (suc k) [] = omega arith
total-take (suc k) (e ∷ events) = omega (arith, total-take k events)

-- bytes that no event takes do not count
replay-more : (events : List Event) (bytes more : List ℕ) (im : Images) → total_count events ≤ length bytes → replay (bytes ++ more) events im ≡ replay bytes events im
unfolding replay total_count
replay-more [] bytes more im enough = refl
replay-more (e ∷ events) bytes more im enough =
    let n = count_of e.change in
    let first : n ≤ length bytes = omega (arith, enough) in
    let rest : total_count events ≤ length (drop n bytes) = grind (arith, enough, length-drop n bytes) in
    ap (λ (l : List ℕ). replay l events (images_moved e (take n (bytes ++ more)) im)) (drop-append-le n bytes more first)
    ∙ ap (λ (l : List ℕ). replay (drop n bytes ++ more) events (images_moved e l im)) (take-append-le n bytes more first)
    ∙ replay-more events (drop n bytes) more (images_moved e (take n bytes) im) rest

replay-last : (events : List Event) (event : Event) (bytes more : List ℕ) (im : Images) → total_count events ≡ length bytes → count_of event.change ≡ length more
    → replay (bytes ++ more) (events ++ event ∷ []) im ≡ images_moved event more (replay bytes events im)
unfolding replay total_count
replay-last [] event [] more im all counted = ap (λ (l : List ℕ). images_moved event l im) (ap (λ (k : ℕ). take k more) counted ∙ take-length more)
replay-last [] event (b ∷ bytes) more im all counted = grind (arith, all)
replay-last (e ∷ events) event bytes more im all counted =
    let n = count_of e.change in
    let first : n ≤ length bytes = omega (arith, all) in
    let rest : total_count events ≡ length (drop n bytes) = omega (arith, all, length-drop n bytes) in
    ap (λ (l : List ℕ). replay l (events ++ event ∷ []) (images_moved e (take n (bytes ++ more)) im)) (drop-append-le n bytes more first)
    ∙ ap (λ (l : List ℕ). replay (drop n bytes ++ more) (events ++ event ∷ []) (images_moved e l im)) (take-append-le n bytes more first)
    ∙ replay-last events event (drop n bytes) more (images_moved e (take n bytes) im) rest counted

-- the events of the longer history, up to a place in the shorter one
states_as : (old new : History) (event : Event) (written : List ℕ) (k : ℕ) → Grows old event written new
    → state_at new k ≡ replay (old.bytes ++ written) (take k (old.events ++ event ∷ [])) (all_synced old.first)
states_as old new event written k grows =
    ap (λ (l : List ℕ). replay l (take k new.events) (all_synced new.first)) grows.more_bytes
    ∙ ap (λ (l : List Event). replay (old.bytes ++ written) (take k l) (all_synced new.first)) grows.more_events
    ∙ ap (λ (l : List ℕ). replay (old.bytes ++ written) (take k (old.events ++ event ∷ [])) (all_synced l)) grows.same_first

pub states_stay : (old new : History) (event : Event) (written : List ℕ) (im : Images) (k : ℕ) → Grows old event written new → IsKept old im
    → k ≤ length old.events → state_at new k ≡ state_at old k
states_stay old new event written im k grows kept inside =
    let enough : total_count (take k old.events) ≤ length old.bytes = omega (arith, total-take k old.events, kept.all_bytes) in
    states_as old new event written k grows
    ∙ ap (λ (l : List Event). replay (old.bytes ++ written) l (all_synced old.first)) (take-append-le k old.events (event ∷ []) inside)
    ∙ replay-more (take k old.events) old.bytes written (all_synced old.first) enough

events_more : (old new : History) (event : Event) (written : List ℕ) → Grows old event written new → length new.events ≡ length old.events + 1
events_more old new event written grows = ap length grows.more_events ∙ length-append old.events (event ∷ [])

pub kept_on : (old new : History) (event : Event) (written : List ℕ) (im : Images) → Grows old event written new → IsKept old im → IsKept new (images_moved event written im)
unfolding total_count
kept_on old new event written im grows kept =
    let all = total-append old.events (event ∷ []) in
    let long = length-append old.bytes written in
    let more : length (old.events ++ event ∷ []) ≤ length new.events = omega (arith, events_more old new event written grows, length-append old.events (event ∷ [])) in
    record {
      all_bytes = ap total_count grows.more_events ∙ omega (arith, all, long, kept.all_bytes, grows.counted) ∙ sym (ap length grows.more_bytes);
      now = states_as old new event written (length new.events) grows
          ∙ ap (λ (l : List Event). replay (old.bytes ++ written) l (all_synced old.first)) (take_all (length new.events) (old.events ++ event ∷ []) more)
          ∙ replay-last old.events event old.bytes written (all_synced old.first) kept.all_bytes grows.counted
          ∙ ap (images_moved event written) (ap (λ (l : List Event). replay old.bytes l (all_synced old.first)) (sym (take-length old.events)) ∙ kept.now);
    }

since_later : (old new : History) (event : Event) (written : List ℕ) (im : Images) → Grows old event written new → IsKept old im
    → (t : ℕ) (left : List ℕ) → LeftSince old t left → LeftSince new t left
since_later old new event written im grows kept t left since =
    let inside = since.not_later in
    let more = events_more old new event written grows in
    record {
      events_then = since.events_then;
      not_before = since.not_before;
      not_later = omega (arith, inside, more);
      is_one = subst (λ (i : Images). IsOne i left) (sym (states_stay old new event written im since.events_then grows kept inside)) since.is_one;
    }

since_before : (old new : History) (event : Event) (written : List ℕ) (im im' : Images) → Grows old event written new → IsKept old im → IsKept new im'
    → (t : ℕ) (left : List ℕ) → t ≤ length old.events → LeftSince new t left → LeftSince old t left ⊎ IsOne im' left
since_before old new event written im im' grows kept kept' t left earlier since =
    elim (compare_with since.events_then (length old.events)) [
      | inl inside ↦ inl (record {
        events_then = since.events_then;
        not_before = since.not_before;
        not_later = inside;
        is_one = subst (λ (i : Images). IsOne i left) (states_stay old new event written im since.events_then grows kept inside) since.is_one;
      })
      | inr beyond ↦
          let last : since.events_then ≡ length new.events = omega (arith, beyond, since.not_later, events_more old new event written grows) in
          inr (subst (λ (i : Images). IsOne i left) (ap (state_at new) last ∙ kept'.now) since.is_one)
    ]
  where
    compare_with : (a b : ℕ) → (a ≤ b) ⊎ (b < a)
    compare_with a b = grind arith

pub time_on : (old new : History) (event : Event) (written : List ℕ) (im im' : Images) → Grows old event written new → IsKept old im → IsKept new im'
    → TakesTime (length old.events) (length new.events) (LeftSince old) (LeftSince new) (IsOne im')
time_on old new event written im im' grows kept kept' =
    let more = events_more old new event written grows in
    record {
      forward = omega (arith, more);
      keeps = λ t left earlier since. since_later old new event written im grows kept t left since;
      adds = λ t left earlier since. since_before old new event written im im' grows kept kept' t left earlier since;
    }

pub time_same : (h : History) (im : Images) → TakesTime (length h.events) (length h.events) (LeftSince h) (LeftSince h) (IsOne im)
time_same h im = record {
  forward = le_refl (length h.events);
  keeps = λ t left earlier since. since;
  adds = λ t left earlier since. inl since;
}

-- before the first event
pub kept_first : (first bytes : List ℕ) (events : List Event) → bytes ≡ [] → events ≡ []
    → IsKept (record { first = first; bytes = bytes; events = events }) (all_synced first)
unfolding total_count replay
kept_first first bytes events no_bytes no_events =
    subst (λ (b : List ℕ). IsKept (record { first = first; bytes = b; events = events }) (all_synced first)) (sym no_bytes)
    (subst (λ (e : List Event). IsKept (record { first = first; bytes = []; events = e }) (all_synced first)) (sym no_events)
    (record { all_bytes = refl; now = refl }))
