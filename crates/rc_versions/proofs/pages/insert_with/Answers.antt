use Rattle.std.proofs.Common.{◌≡◌, ◌+◌, ◌<◌, Bool, List, length, insert, slice_set, is_some, if◌then◌else◌, sym, ap, subst, ◌∙◌, arith}
use Rattle.rc_ids.specs.Tables.{found}
use Rattle.rc_ids.specs.Texts.{key_cmp}
use Rattle.rc_body.specs.Rows.{Row}
use Rattle.rc_versions.specs.Rows.{Rises, newest}
use Rattle.rc_versions.specs.Pages.{all_rows, IsPaged}
use Rattle.rc_versions.proofs.PageFacts.{rises_at, found_at, split_at, paged_split}
use Rattle.rc_versions.proofs.pages.insert_with.Goals as goal

pub insert_split-upper-requires-clause-rises : goal.insert_split-upper-requires-clause-rises
insert_split-upper-requires-clause-rises c =
    let ps : List (List Row) = c.args.pages.now.items in
    let len = c.args.pages.now.ok.0 in
    let lt : c.args.at < length ps = omega (arith, len) in
    subst Rises (sym c.index_mut.ensures.value) (rises_at ps c.args.at c.index_mut.result.now lt c.requires.paged.rises)

pub insert_split-upper-requires-clause-absent : goal.insert_split-upper-requires-clause-absent
insert_split-upper-requires-clause-absent c =
    let ps : List (List Row) = c.args.pages.now.items in
    let len = c.args.pages.now.ok.0 in
    let lt : c.args.at < length ps = omega (arith, len) in
    ap (λ (p : List Row). is_some (found key_cmp p c.args.key.now)) c.index_mut.ensures.value
    ∙ ap is_some (sym (found_at c.args.key.now ps c.args.at c.index_mut.result.now c.requires.page lt)) ∙ c.requires.absent

pub returns-then-at-len-clause-rows : goal.returns-then-at-len-clause-rows
returns-then-at-len-clause-rows c =
    let ps : List (List Row) = c.args.pages.now.items in
    let lo : List Row = c.insert_split-upper.new.self in
    let up : List Row = c.insert_split-upper.result in
    let len = c.args.pages.now.ok.0 in
    let lt : c.args.at < length ps = omega (arith, len) in
    let items : c.insert-placed.new.self.items ≡ insert (slice_set ps c.args.at lo) (c.args.at + 1) up =
    c.insert-placed.ensures.items
    ∙ ap (λ (b : Bool). if b then insert (slice_set ps c.args.at lo) (c.args.at + 1) up else slice_set ps c.args.at lo)
    (c.insert-placed.ensures.succeeds c.requires.capacity) in
    ap all_rows items
    ∙ split_at c.args.key.now c.args.version c.args.val ps c.args.at c.index_mut.result.now lo up c.requires.page lt
    (c.insert_split-upper.ensures.rows ∙ ap (λ (p : List Row). newest p c.args.key.now c.args.version c.args.val) c.index_mut.ensures.value)

pub returns-then-at-len-clause-paged : goal.returns-then-at-len-clause-paged
returns-then-at-len-clause-paged c =
    let ps : List (List Row) = c.args.pages.now.items in
    let lo : List Row = c.insert_split-upper.new.self in
    let up : List Row = c.insert_split-upper.result in
    let items : c.insert-placed.new.self.items ≡ insert (slice_set ps c.args.at lo) (c.args.at + 1) up =
    c.insert-placed.ensures.items
    ∙ ap (λ (b : Bool). if b then insert (slice_set ps c.args.at lo) (c.args.at + 1) up else slice_set ps c.args.at lo)
    (c.insert-placed.ensures.succeeds c.requires.capacity) in
    subst IsPaged (sym items)
    (paged_split c.args.key.now c.args.version c.args.val ps c.args.at lo up c.requires.paged c.insert_split-upper.ensures.lower
    c.insert_split-upper.ensures.upper (ap all_rows (sym items) ∙ returns-then-at-len-clause-rows c))
