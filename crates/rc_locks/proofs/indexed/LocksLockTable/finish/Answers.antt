use Rattle.std.proofs.Common.{◌++◌, ℕ, List, Vec, Global, filter, not, sym, ap, ◌∙◌}
use Rattle.rc_ids.specs.Tables.{member}
use Rattle.rc_body.specs.declared.entry.Entry.{Entry}
use Rattle.rc_protocol.specs.Shard.{Mark, mark_cmp, is_free, added_all}
use Rattle.rc_locks.specs.Cells.{is_free_at}
use Rattle.rc_locks.specs.LockSets.{cleared_all}
use Rattle.rc_locks.proofs.FreeFacts.{free_is, filter_alike, of_filter}
use Rattle.rc_locks.proofs.MoveFacts.{placed_more, placed_filter}
use Rattle.rc_locks.proofs.indexed.LocksLockTable.finish.Goals as goal

pub grant_all-requires-clause-placed : goal.grant_all-requires-clause-placed
grant_all-requires-clause-placed c m has =
    let free = is_free_at c.remove_all.new.cells.entries in
    let ws : List Mark = c.forget_all.new.waiting.items in
    let items =
    c.deref-2.ensures.value ∙ c.add_free.ensures ∙ ap (λ (fs : List Mark). fs ++ filter free c.deref.result.now) c.requires.0 ∙ ap (filter free) c.deref.ensures.value in
    c.forget_all.ensures.placed m (of_filter free ws m (sym (ap (λ (fs : List Mark). member mark_cmp fs m) items) ∙ has))

pub returns-clause-granted : goal.returns-clause-granted
returns-clause-granted c =
    let free = is_free_at c.remove_all.new.cells.entries in
    let parts : List (ℕ × List Entry) = c.remove_all.new.parts.items in
    let gone : List Mark = cleared_all c.args.self.now.waiting.items c.args.txs.now in
    ap (λ (v : Vec Mark Global). v.items) c.replace.ensures.value
    ∙ c.add_free.ensures
    ∙ ap (λ (fs : List Mark). fs ++ filter free c.deref.result.now) c.requires.0
    ∙ ap (filter free) c.deref.ensures.value
    ∙ filter_alike free (is_free parts) (free_is parts c.remove_all.new.cells.entries c.remove_all.ensures.indexed) c.forget_all.new.waiting.items
    ∙ ap (filter (is_free parts)) c.forget_all.ensures.waiting
    ∙ ap (λ (ps : List (ℕ × List Entry)). filter (is_free ps) gone) c.remove_all.ensures.parts

pub returns-clause-after : goal.returns-clause-after
returns-clause-after c =
    let free = is_free_at c.remove_all.new.cells.entries in
    let parts : List (ℕ × List Entry) = c.remove_all.new.parts.items in
    let gone : List Mark = cleared_all c.args.self.now.waiting.items c.args.txs.now in
    let granted =
    c.deref-2.ensures.value
    ∙ c.add_free.ensures
    ∙ ap (λ (fs : List Mark). fs ++ filter free c.deref.result.now) c.requires.0
    ∙ ap (filter free) c.deref.ensures.value
    ∙ filter_alike free (is_free parts) (free_is parts c.remove_all.new.cells.entries c.remove_all.ensures.indexed) c.forget_all.new.waiting.items
    ∙ ap (filter (is_free parts)) c.forget_all.ensures.waiting
    ∙ ap (λ (ps : List (ℕ × List Entry)). filter (is_free ps) gone) c.remove_all.ensures.parts in
    let plain = c.grant_all.ensures.plain ∙ (λ i. added_all (c.forget_all.ensures.plain i) (granted i)) in
    let lost = c.grant_all.ensures.lost ∙ c.forget_all.ensures.lost in
    let waiting =
    c.drop_free.ensures
    ∙ filter_alike (λ (m : Mark). not (free m)) (λ (m : Mark). not (is_free parts m)) (λ m. ap not (free_is parts c.remove_all.new.cells.entries c.remove_all.ensures.indexed m)) c.forget_all.new.waiting.items
    ∙ ap (filter (λ (m : Mark). not (is_free parts m))) c.forget_all.ensures.waiting
    ∙ ap (λ (ps : List (ℕ × List Entry)). filter (λ (m : Mark). not (is_free ps m)) gone) c.remove_all.ensures.parts in
    λ i. record { parts = c.remove_all.ensures.parts i; marks = record { plain = plain i; lost = lost i; waiting = waiting i; cursor = 0 } }

pub invariant_of-self : goal.invariant_of-self
invariant_of-self c =
    let free = is_free_at c.remove_all.new.cells.entries in
    let ws : List Mark = c.forget_all.new.waiting.items in
    record {
      rising = c.remove_all.ensures.rises;
      indexed = c.remove_all.ensures.indexed;
      rises = c.grant_all.ensures.rises;
      txs = c.grant_all.ensures.txs;
      covered = λ m here. c.forget_all.ensures.covered m (sym (c.grant_all.ensures.places m) ∙ here);
      placed = placed_filter (λ (m : Mark). not (free m)) ws c.drop_free.new.waiting.items c.grant_all.new.locks.entries
          (placed_more ws c.forget_all.new.locks.entries c.grant_all.new.locks.entries c.forget_all.ensures.placed (λ m had. c.grant_all.ensures.places m ∙ had))
          c.drop_free.ensures;
    }
