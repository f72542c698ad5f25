-- A disk in memory that is lent out, put back or given, and slots that are selected.
use Rattle.std.proofs.Common.{◌≡◌, ◌≢◌, ℕ, ◌<◌, ◌≤◌, max, Bool, true, false, if◌then◌else◌, List, length, get_or, set, Option, None, Some, is_none, IfSome, option_map, refl, sym, ap, subst, ◌∙◌, arith}
use Rattle.std.specs.Prelude.{All}
use Rattle.rc_ids.specs.declared.names.NodeId.{NodeId}
use Rattle.rc_disk.specs.Calls.{Told, powered}
use Rattle.rc_disk.specs.declared.power.Power.TheVariants.{On}
use Rattle.rc_disk.specs.Places.{Standing, start_of, renewed, IsReady, IsFresh}
use Rattle.rc_disk.specs.Shelves.{is_node, place, slot_at, on_slot, no_standing, stands_in, start_in, lent_in, IsSelected, Walked}
use Rattle.rc_disk.specs.MemDisks.{standing_of, faults_of, cuts_of, start_marked}
use Rattle.rc_disk.specs.MemFarms.{standing_here, slot_standing, slot_start, slot_is_lent, slot_folder, slot_in_folder, folder_standing, given, given_by, folder_disk, fresh, next_standing, Selects}
use Rattle.rc_disk.specs.declared.mem_disk.MemDisk.{MemDisk}
use Rattle.rc_disk.specs.declared.mem_slot.MemSlot.{MemSlot}
use Rattle.rc_disk.proofs.Slots.{told_there, told_apart, told_kept, told_was, place_inside, element, at_node}

-- the slots after the disk of one is another, or none
pub record Holds (items new : List MemSlot) (node : NodeId) (disk : Option MemDisk) : Type 0 where
  pub stands : stands_in slot_standing new node ≡ standing_here disk
  pub lent : lent_in slot_is_lent new node ≡ is_none disk
  pub others : (n : NodeId) → n ≢ node → stands_in slot_standing new n ≡ stands_in slot_standing items n
  pub others_lent : (n : NodeId) → n ≢ node → lent_in slot_is_lent new n ≡ lent_in slot_is_lent items n
  pub start : (n : NodeId) → start_in slot_start new n ≡ start_in slot_start items n
  pub of_folder : stands_in slot_folder new node ≡ (if lent_in slot_in_folder items node then standing_here disk else stands_in slot_folder items node)
  pub others_folder : (n : NodeId) → n ≢ node → stands_in slot_folder new n ≡ stands_in slot_folder items n
  pub in_folder : (n : NodeId) → lent_in slot_in_folder new n ≡ lent_in slot_in_folder items n

-- the folder's disk of a slot is the one that is there, unless it is put aside
folder_here : (aside here disk : Option MemDisk) → folder_standing aside disk ≡ (if is_none aside then standing_here disk else folder_standing aside here)
folder_here None here disk = refl
folder_here (Some d) here disk = refl

pub holds : (items new : List MemSlot) (node : NodeId) (disk : Option MemDisk) (p : ℕ) → p ≡ place node → is_node node ≡ true → length items ≡ 63
    → ((d : MemSlot) → new ≡ set items p (record (get_or items p d) { here = disk })) → Holds items new node disk
holds items new node disk p at valid long changed =
    let inside : p < length items = omega (arith, at, place_inside node valid, long) in
    let d = element items p inside in
    let y = record (get_or items p d) { here = disk } in
    let is : new ≡ set items (place node) y = changed d ∙ ap (λ (k : ℕ). set items k y) at in
    let marks : slot_start y ≡ slot_start (get_or items (place node) d) = ap (λ (k : ℕ). slot_start (get_or items k d)) at in
    let x = get_or items p d in
    let same_aside : slot_in_folder y ≡ slot_in_folder (get_or items (place node) d) = ap (λ (k : ℕ). slot_in_folder (get_or items k d)) at in
    let was_in : slot_in_folder x ≡ lent_in slot_in_folder items node = same_aside ∙ sym (told_was slot_in_folder false items node d valid long) in
    let was_folder : slot_folder x ≡ stands_in slot_folder items node = ap (λ (k : ℕ). slot_folder (get_or items k d)) at ∙ sym (told_was slot_folder no_standing items node d valid long) in
    record {
      stands = told_there slot_standing no_standing items new node y is valid long;
      lent = told_there slot_is_lent false items new node y is valid long;
      others = λ n other. told_apart slot_standing no_standing items new n node y is valid other;
      others_lent = λ n other. told_apart slot_is_lent false items new n node y is valid other;
      start = λ n. told_kept slot_start (start_of no_standing) items new n node y d is valid long marks;
      of_folder = told_there slot_folder no_standing items new node y is valid long ∙ folder_here x.aside x.here disk
          ∙ (λ i. if was_in i then standing_here disk else was_folder i);
      others_folder = λ n other. told_apart slot_folder no_standing items new n node y is valid other;
      in_folder = λ n. told_kept slot_in_folder false items new n node y d is valid long same_aside;
    }

-- GIVEN TO THE FOLDER

-- the slots after the folder of one was given a disk
pub record Given (items new : List MemSlot) (node : NodeId) (disk : MemDisk) : Type 0 where
  pub lent : (n : NodeId) → lent_in slot_is_lent new n ≡ lent_in slot_is_lent items n
  pub others : (n : NodeId) → n ≢ node → stands_in slot_standing new n ≡ stands_in slot_standing items n
  pub stands : stands_in slot_standing new node ≡ (if lent_in slot_in_folder items node then standing_of disk else stands_in slot_standing items node)
  pub of_folder : stands_in slot_folder new node ≡ standing_of disk
  pub others_folder : (n : NodeId) → n ≢ node → stands_in slot_folder new n ≡ stands_in slot_folder items n
  pub in_folder : (n : NodeId) → lent_in slot_in_folder new n ≡ lent_in slot_in_folder items n
  pub start : (n : NodeId) → start_in slot_start new n ≡ start_in slot_start items n

module _ (disk : MemDisk) (s : MemSlot) where
  given_lent : (aside : Option MemDisk) → slot_is_lent s ≡ false → slot_is_lent (given_by aside disk s) ≡ slot_is_lent s
  given_lent None here = sym here
  given_lent (Some d) here = refl

  given_stands : (aside : Option MemDisk) → slot_standing (given_by aside disk s) ≡ (if is_none aside then standing_of disk else slot_standing s)
  given_stands None = refl
  given_stands (Some d) = refl

  given_start : (aside : Option MemDisk) → slot_start (given_by aside disk s) ≡ slot_start s
  given_start None = refl
  given_start (Some d) = refl

  given_in : (aside : Option MemDisk) → s.aside ≡ aside → slot_in_folder (given_by aside disk s) ≡ slot_in_folder s
  given_in None is = refl
  given_in (Some d) is = sym (ap is_none is)

  given_folder : (aside : Option MemDisk) → s.aside ≡ aside → slot_folder (given_by aside disk s) ≡ standing_of disk
  given_folder None is = ap (λ (a : Option MemDisk). folder_standing a (Some disk)) is
  given_folder (Some d) is = refl

pub was_given : (items new : List MemSlot) (node : NodeId) (disk : MemDisk) (p : ℕ) → p ≡ place node → is_node node ≡ true → length items ≡ 63
    → lent_in slot_is_lent items node ≡ false → ((d : MemSlot) → new ≡ set items p (given disk (get_or items p d))) → Given items new node disk
was_given items new node disk p at valid long here changed =
    let inside : p < length items = omega (arith, at, place_inside node valid, long) in
    let d = element items p inside in
    let x = get_or items p d in
    let y = given disk x in
    let is : new ≡ set items (place node) y = changed d ∙ ap (λ (k : ℕ). set items k y) at in
    let free : slot_is_lent x ≡ false = ap (λ (k : ℕ). slot_is_lent (get_or items k d)) at ∙ sym (told_was slot_is_lent false items node d valid long) ∙ here in
    let was_in : slot_in_folder x ≡ lent_in slot_in_folder items node = ap (λ (k : ℕ). slot_in_folder (get_or items k d)) at ∙ sym (told_was slot_in_folder false items node d valid long) in
    let was : slot_standing x ≡ stands_in slot_standing items node = ap (λ (k : ℕ). slot_standing (get_or items k d)) at ∙ sym (told_was slot_standing no_standing items node d valid long) in
    record {
      lent = λ n. told_kept slot_is_lent false items new n node y d is valid long (given_lent disk x x.aside free ∙ ap (λ (k : ℕ). slot_is_lent (get_or items k d)) at);
      others = λ n other. told_apart slot_standing no_standing items new n node y is valid other;
      stands = told_there slot_standing no_standing items new node y is valid long ∙ given_stands disk x x.aside ∙ (λ i. if was_in i then standing_of disk else was i);
      of_folder = told_there slot_folder no_standing items new node y is valid long ∙ given_folder disk x x.aside refl;
      others_folder = λ n other. told_apart slot_folder no_standing items new n node y is valid other;
      in_folder = λ n. told_kept slot_in_folder false items new n node y d is valid long (given_in disk x x.aside refl ∙ ap (λ (k : ℕ). slot_in_folder (get_or items k d)) at);
      start = λ n. told_kept slot_start (start_of no_standing) items new n node y d is valid long (given_start disk x x.aside ∙ ap (λ (k : ℕ). slot_start (get_or items k d)) at);
    }

-- SELECTED

folder_was : (aside here : Option MemDisk) (disk : MemDisk) → here ≡ Some disk → folder_standing aside here ≡ standing_of (folder_disk aside disk)
folder_was None here disk is = ap standing_here is
folder_was (Some d) here disk is = refl

told_on : (told : Option Told) → IfSome (option_map powered told) (λ t. t.power ≡ On)
told_on None = tt
told_on (Some t) = refl

ready : (faults cuts : ℕ) (s : Standing) → IsReady (renewed faults cuts s)
ready faults cuts s = record { on = refl; told_on = told_on s.told }

nothing_there : (faults cuts : ℕ) → IsFresh (renewed faults cuts fresh)
nothing_there faults cuts = record { nothing = refl; no_image = refl }

chosen_is : (folder : Bool) (kept chosen : MemDisk) (s : Standing) → s ≡ standing_of kept → (folder ≡ true → chosen ≡ kept) → (folder ≡ false → standing_of chosen ≡ fresh) → standing_of chosen ≡ next_standing folder s
chosen_is true kept chosen s is same empty = ap standing_of (same refl) ∙ sym is
chosen_is false kept chosen s is same empty = empty refl

put_aside : (folder : Bool) (kept : MemDisk) (aside here : Option MemDisk) (s : Standing) → s ≡ standing_of kept → aside ≡ (if folder then None else Some kept)
    → folder_standing aside here ≡ (if folder then standing_here here else s)
put_aside true kept aside here s is same = ap (λ (a : Option MemDisk). folder_standing a here) same
put_aside false kept aside here s is same = ap (λ (a : Option MemDisk). folder_standing a here) same ∙ sym is

is_put_aside : (folder : Bool) (kept : MemDisk) → is_none (if folder then None else Some kept) ≡ folder
is_put_aside true kept = refl
is_put_aside false kept = refl

-- a slot after its selection: the folder's disk or an empty one was chosen, and renewed
pub selects : (folder : Bool) (old new : MemSlot) (disk kept chosen after : MemDisk) (faults cuts : ℕ) → old.here ≡ Some disk → kept ≡ folder_disk old.aside disk
    → (folder ≡ true → chosen ≡ kept) → (folder ≡ false → standing_of chosen ≡ fresh) → new.aside ≡ (if folder then None else Some kept) → new.here ≡ Some after
    → standing_of after ≡ renewed faults cuts (standing_of chosen) → faults ≡ faults_of disk → cuts ≡ cuts_of disk → start_marked new.marks ≡ start_of (standing_of after) → Selects folder old new
selects folder old new disk kept chosen after faults cuts here kept_is same empty aside there renew same_faults same_cuts marks =
    let was : slot_standing old ≡ standing_of disk = ap standing_here here in
    let now : slot_standing new ≡ standing_of after = ap standing_here there in
    let of_folder : slot_folder old ≡ standing_of kept = folder_was old.aside old.here disk here ∙ ap standing_of (sym kept_is) in
    let chosen_s : standing_of chosen ≡ next_standing folder (slot_folder old) = chosen_is folder kept chosen (slot_folder old) of_folder same empty in
    let f : faults ≡ (slot_standing old).faults = same_faults ∙ ap (λ (s : Standing). s.faults) (sym was) in
    let k : cuts ≡ (slot_standing old).cuts = same_cuts ∙ ap (λ (s : Standing). s.cuts) (sym was) in
    let plain : slot_standing new ≡ renewed faults cuts (standing_of chosen) = now ∙ renew in
    let fresh_is : folder ≡ false → IsFresh (slot_standing new) = λ none.
    subst (λ (s : Standing). IsFresh s) (sym (plain ∙ ap (renewed faults cuts) (empty none))) (nothing_there faults cuts) in
    record {
      as_any = record {
        is_here = ap is_none there;
        started = marks ∙ ap start_of (sym now);
        ready = subst (λ (s : Standing). IsReady s) (sym plain) (ready faults cuts (standing_of chosen));
        empty = fresh_is;
        counts = record {
          of_faults = omega (arith, f, ap (λ (s : Standing). s.faults) plain);
          of_cuts = omega (arith, k, ap (λ (s : Standing). s.cuts) plain);
        };
      };
      stands = plain ∙ (λ i. renewed (f i) (k i) (chosen_s i));
      of_folder = put_aside folder kept new.aside new.here (slot_folder old) of_folder aside;
      in_folder = ap is_none aside ∙ is_put_aside folder kept;
    }

-- what is told of a node's slot after a selection
pub record SelectedAt (folder : Bool) (old new : Option MemSlot) : Type 0 where
  pub stands : is_none old ≡ false → on_slot no_standing slot_standing new
      ≡ renewed (on_slot no_standing slot_standing old).faults (on_slot no_standing slot_standing old).cuts (next_standing folder (on_slot no_standing slot_folder old))
  pub of_folder : on_slot no_standing slot_folder new ≡ (if folder then on_slot no_standing slot_standing new else on_slot no_standing slot_folder old)
  pub in_folder : is_none old ≡ false → on_slot false slot_in_folder new ≡ folder

selected_none : (folder : Bool) → SelectedAt folder None None
selected_none true = record { stands = λ some. absurd (cc (some)); of_folder = refl; in_folder = λ some. absurd (cc (some)) }
selected_none false = record { stands = λ some. absurd (cc (some)); of_folder = refl; in_folder = λ some. absurd (cc (some)) }

pub selected_at : (folder : Bool) (old new : List MemSlot) (count : ℕ) → length old ≡ 63 → count ≡ length old
    → Walked (λ x y. slot_is_lent x ≡ false → Selects folder x y) old new count → (n : NodeId) → lent_in slot_is_lent old n ≡ false
    → SelectedAt folder (slot_at old n) (slot_at new n)
selected_at folder old new count long whole walked n here =
    at_node (λ x y. slot_is_lent x ≡ false → Selects folder x y) old new count long whole walked n
    (λ o o'. on_slot false slot_is_lent o ≡ false → SelectedAt folder o o') (λ none. selected_none folder)
    (λ x y step free. let it = step free in record { stands = λ some. it.stands; of_folder = it.of_folder; in_folder = λ some. it.in_folder }) here

pub as_any : (folder : Bool) (old new : List MemSlot) (count : ℕ) → Walked (λ x y. slot_is_lent x ≡ false → Selects folder x y) old new count
    → Walked (λ x y. slot_is_lent x ≡ false → IsSelected folder (slot_standing x) (slot_standing y) (slot_start y) (slot_is_lent y)) old new count
as_any folder old new count walked = record { same_length = walked.same_length; done = λ k d below within free. (walked.done k d below within free).as_any; rest = walked.rest }
