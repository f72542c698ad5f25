-- A slot of the host's farm whose disk is lent out, or put back.
use Rattle.std.proofs.Common.{◌≡◌, ◌≢◌, ℕ, ◌<◌, Bool, true, false, List, length, get_or, set, sym, ap, ◌∙◌, arith}
use Rattle.rc_ids.specs.declared.names.NodeId.{NodeId}
use Rattle.rc_disk.specs.Places.{start_of}
use Rattle.rc_disk.specs.Shelves.{is_node, place, no_standing, stands_in, start_in, lent_in}
use Rattle.rc_disk.specs.HostFarms.{slot_standing, slot_start, slot_is_lent, place_standing, place_is_lent}
use Rattle.rc_disk.specs.declared.host_slot.HostPlace.{HostPlace}
use Rattle.rc_disk.specs.declared.host_slot.HostSlot.{HostSlot}
use Rattle.rc_disk.proofs.Slots.{told_there, told_apart, told_kept, told_was, place_inside, element}

-- the slots after what one has is another
pub record Has (items new : List HostSlot) (node : NodeId) (here : HostPlace) : Type 0 where
  pub stands : stands_in slot_standing new node ≡ place_standing here
  pub lent : lent_in slot_is_lent new node ≡ place_is_lent here
  pub others : (n : NodeId) → n ≢ node → stands_in slot_standing new n ≡ stands_in slot_standing items n
  pub others_lent : (n : NodeId) → n ≢ node → lent_in slot_is_lent new n ≡ lent_in slot_is_lent items n
  pub start : (n : NodeId) → start_in slot_start new n ≡ start_in slot_start items n

pub has : (items new : List HostSlot) (node : NodeId) (here : HostPlace) (p : ℕ) → p ≡ place node → is_node node ≡ true → length items ≡ 63
    → ((d : HostSlot) → new ≡ set items p (record (get_or items p d) { here = here })) → Has items new node here
has items new node here p at valid long changed =
    let inside : p < length items = omega (arith, at, place_inside node valid, long) in
    let d = element items p inside in
    let y = record (get_or items p d) { here = here } in
    let is : new ≡ set items (place node) y = changed d ∙ ap (λ (k : ℕ). set items k y) at in
    let marks : slot_start y ≡ slot_start (get_or items (place node) d) = ap (λ (k : ℕ). slot_start (get_or items k d)) at in
    record {
      stands = told_there slot_standing no_standing items new node y is valid long;
      lent = told_there slot_is_lent false items new node y is valid long;
      others = λ n other. told_apart slot_standing no_standing items new n node y is valid other;
      others_lent = λ n other. told_apart slot_is_lent false items new n node y is valid other;
      start = λ n. told_kept slot_start (start_of no_standing) items new n node y d is valid long marks;
    }

-- what a slot had
pub had : (items : List HostSlot) (node : NodeId) (here : HostPlace) (p : ℕ) → p ≡ place node → is_node node ≡ true → length items ≡ 63
    → ((d : HostSlot) → (get_or items p d).here ≡ here) → stands_in slot_standing items node ≡ place_standing here
had items node here p at valid long is =
    let inside : p < length items = omega (arith, at, place_inside node valid, long) in
    let d = element items p inside in
    told_was slot_standing no_standing items node d valid long ∙ ap (λ (k : ℕ). slot_standing (get_or items k d)) (sym at) ∙ ap place_standing (is d)
