use Rattle.std.proofs.Common.{◌≡◌, ℕ, ◌+◌, List, drop, is_some, sym, ap, ◌∙◌, rules}
use Rattle.std.specs.Prelude.{if◌then◌else◌}
use Rattle.rc_ids.specs.Tables.{added}
use Rattle.rc_ids.specs.Texts.{key_cmp}
use Rattle.rc_body.specs.Entries.{entry_seen}
use Rattle.rc_body.specs.declared.entry.Entry.{Entry}
use Rattle.rc_protocol.specs.Shown.{with_written}
use Rattle.rc_world.proofs.RowFacts.{rest_at}
use Rattle.rc_world.proofs.rows.add_written.Goals as goal

pub loop-index-preserved : goal.loop-index-preserved
loop-index-preserved c =
    let e : Entry = entry_seen c.entry-entry.result in
    let keys : List (List ℕ) = c.loop-index.keys.keys in
    let at = rest_at c.args.part.now c.loop-index.index e c.entry-entry.ensures in
    let before = sym (ap (λ (es : List Entry). with_written keys es) at) ∙ c.loop-index.invariant in
    let written : c.is_some-is_written.result ≡ is_some e.write = search rules in
    ap (λ (ks : List (List ℕ)). with_written ks (drop (c.loop-index.index + 1) c.args.part.now))
    (c.in_ok-add_if.ensures ∙ ap (λ b. if b then added key_cmp keys e.key else keys) written) ∙ before
