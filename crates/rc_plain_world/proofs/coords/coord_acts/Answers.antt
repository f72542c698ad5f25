use Rattle.std.proofs.Common.{◌≡◌, ◌-◌, [], Some, length, ap, sym, subst, ◌∙◌, ℕ, List, Option}
use Rattle.std.specs.Prelude.{slice_get, slice_set}
use Rattle.rc_record.specs.declared.record.Record.{Record}
use Rattle.rc_protocol.specs.Nodes.{CoordNode, coord_index, logged}
use Rattle.rc_runs.specs.Votes.{ordered}
use Rattle.rc_plain_world.specs.Hosts.{CoordSite, coord_part, coord_nodes}
use Rattle.rc_plain_world.specs.Acted.{CoordDone}
use Rattle.rc_plain_world.proofs.Deeds.{coord_collects}
use Rattle.rc_plain_world.proofs.Sites.{taken}
use Rattle.rc_plain_world.proofs.coords.coord_acts.Goals as goal

pub returns-clause-did : goal.returns-clause-did
returns-clause-did c = λ h at up.
    let place : c.dc.inside.0 - 1 ≡ coord_index c.args.dc = (cc) in
    let here : slice_get c.args.coords.now.items (c.dc.inside.0 - 1) ≡ Some h = ap (slice_get c.args.coords.now.items) place ∙ at in
    let same : c.index_mut.result.now ≡ h = taken c.args.coords.now.items (c.dc.inside.0 - 1) c.index_mut.result.now h c.index_mut.ensures.value here in
    let read : c.index-2.result.now ≡ h = taken c.args.coords.now.items (c.dc.inside.0 - 1) c.index-2.result.now h c.index-2.ensures here in
    let len : c.log_len-before.result ≡ length h.node.log = c.log_len-before.ensures ∙ ap (λ (g : CoordSite). length g.node.log) read in
    let done : CoordDone c.args.cluster.now c.args.dc (coord_part c.args.cluster.now c.args.dc c.args.sent.now c.args.event.now h.node) h c.act_at.new.host c.in_ok-out.out c.args.lines.now c.act_at.new.lines =
    subst (λ (g : CoordSite). CoordDone c.args.cluster.now c.args.dc (coord_part c.args.cluster.now c.args.dc c.args.sent.now c.args.event.now g.node) g c.act_at.new.host c.in_ok-out.out c.args.lines.now c.act_at.new.lines) same c.in_ok-out.ensures.done in
    let after : List CoordSite = slice_set c.args.coords.now.items (c.dc.inside.0 - 1) c.act_at.new.host in
    let noted = subst (λ (xs : List CoordSite). (x : CoordNode) (log : List Record) (l : Option Record) → slice_get (coord_nodes xs) (c.dc.inside.0 - 1) ≡ Some x → x.log ≡ logged log l
    → length log ≡ c.log_len-before.result → c.note_written.new.committed.items ≡ ordered c.args.cluster.now (coord_nodes xs) [] c.args.committed.now.items l) c.as_slice.ensures.value c.in_ok-note_written.ensures in
    coord_collects c.args.cluster.now c.args.dc (coord_part c.args.cluster.now c.args.dc c.args.sent.now c.args.event.now h.node) h c.act_at.new.host c.args.coords.now.items _ c.args.committed.now.items c.note_written.new.committed.items c.in_ok-out.out c.args.lines.now c.act_at.new.lines
    done (ap (λ (i : ℕ). slice_set c.args.coords.now.items i c.act_at.new.host) place) c.requires.inside
    (λ x log l at_x is_log same_len. noted x log l (ap (slice_get (coord_nodes after)) place ∙ at_x) is_log (same_len ∙ sym len))
