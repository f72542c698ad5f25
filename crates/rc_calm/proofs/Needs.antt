-- What the rest of a calm script needs of the counts that limits look at, so that each of its lines has room.
use Rattle.std.proofs.Common.{◌≡◌, ℕ, ◌+◌, ◌-◌, ◌*◌, ◌≤◌, List, [], ◌∷◌, refl, sym, ap, ◌∙◌, arith, Bool, true, false, Option, Some, None, ◌⊎◌, ⊎_elim}
use Rattle.std.specs.Prelude.{length}
use Rattle.rc_ids.specs.Tables.{maybe}
use Rattle.rc_ids.specs.Texts.{gone}
use Rattle.rc_ids.specs.Cluster.{Layout, IsLayout}
use Rattle.rc_report.specs.declared.line.Line.{Line}
use Rattle.rc_report.specs.declared.line.Line.TheVariants.{Settled, Order as OrderLine, Own}
use Rattle.rc_report.specs.Lines.{line_text}
use Rattle.rc_record.specs.ShardState.{version_at, value_at}
use Rattle.rc_script.specs.declared.command.Command.{Command}
use Rattle.rc_script.specs.declared.command.Command.TheVariants as commands
use Rattle.rc_script.specs.declared.script.NumberedCommand.{NumberedCommand}
use Rattle.rc_runs.specs.Session.{Session, text_bytes}
use Rattle.rc_claims.specs.Calm.{Calm, Touched, touched_of, touched_set, with_due, after_write, read_line, row_line, read_deliveries, commit_deliveries}
use Rattle.rc_claims.specs.CalmScripts.{has_room}
use Rattle.rc_calm.proofs.Frames.{Short}
use Rattle.rc_calm.proofs.Touches.{set_few}
use Rattle.rc_calm.proofs.Commands.{touched_key}
use Rattle.rc_calm.proofs.Between.{Between}
use Rattle.rc_calm.proofs.Costs.{Costs, costs}
use Rattle.rc_calm.proofs.OneEvents.{begun_map}
use Rattle.rc_calm.proofs.FreshReads.{then_touched, read_costs, ds_count, ds_bytes}
use Rattle.rc_calm.proofs.CommitLines.{committed_map, commit_costs, commit_line}
use Rattle.rc_calm.proofs.Allowances.{reads, reads_low, reads_write, reads_new, unread_low, weight_of, weight_set, read_small, commit_small}
use Rattle.rc_calm.proofs.Texts.{most_line, one_line, read_fits, own_fits, learned_fits, settled_fits, order_fits}
use Rattle.rc_calm.proofs.Outcomes.{Covers, begins_in, begins_fewer, begins_one}
use Rattle.rc_calm.proofs.Playing.{Covering}

-- of the open transaction: reads of the keys that it has not read yet, and its commit
abbrev pub open_messages : Calm → Bool → ℕ
open_messages m true = 0
open_messages m false = 20 * (32 - reads m.touched) + 231

abbrev pub open_bytes : Calm → Bool → ℕ
open_bytes m true = 0
open_bytes m false = 9800 * (32 - reads m.touched) + 231 * (weight_of m.touched + 31)

-- what a command may add to the body
abbrev pub weight_in : Command → ℕ
weight_in (commands.Read t k) = 12 + length k
weight_in (commands.Write t k value) = 12 + length k + length value
weight_in (commands.Delete t k) = 12 + length k + 1
weight_in _ = 0

abbrev pub weights : List NumberedCommand → ℕ
weights [] = 0
weights (x ∷ xs) = weight_in x.command + weights xs

abbrev pub need_of : ℕ → ℕ → ℕ → ℕ → ℕ → Costs
need_of lines begins body messages bytes = costs (lines + (871 * begins + messages)) (871 * begins + messages) (321000 * begins + (231 * body + bytes)) (most_line * lines)

abbrev pub need : Calm → Bool → List NumberedCommand → Costs
need m is_over cs = need_of (length cs) (begins_in cs) (weights cs) (open_messages m is_over) (open_bytes m is_over)

-- a line that sends nothing
one_covers : (m m' : Calm) (is_over is_over' : Bool) (x : NumberedCommand) (cs : List NumberedCommand) (ls : List Line) (events : ℕ) → events ≤ 1 → text_bytes ls ≤ most_line
    → 871 * begins_in cs + open_messages m' is_over' ≤ 871 * begins_in (x ∷ cs) + open_messages m is_over
    → 321000 * begins_in cs + open_bytes m' is_over' ≤ 321000 * begins_in (x ∷ cs) + (231 * weight_in x.command + open_bytes m is_over)
    → Covers (need m is_over (x ∷ cs)) (costs events 0 0 (text_bytes ls)) (need m' is_over' cs)
one_covers m m' is_over is_over' x cs ls events few text messages bytes = record {
  events = omega (arith, few, messages);
  messages = omega (arith, messages);
  bytes = omega (arith, bytes);
  text = omega (arith, text);
}

-- two lines
two_cover : (m m' : Calm) (is_over is_over' : Bool) (x s : NumberedCommand) (cs : List NumberedCommand) (n b t : ℕ) → t ≤ most_line
    → n + open_messages m' is_over' ≤ open_messages m is_over → b + open_bytes m' is_over' ≤ 231 * weight_in x.command + open_bytes m is_over
    → Covers (need m is_over (x ∷ s ∷ cs)) (costs (1 + n) n b t) (need m' is_over' cs)
two_cover m m' is_over is_over' x s cs n b t text messages bytes =
    let f = begins_fewer x (s ∷ cs) in
    let g = begins_fewer s cs in
    record { events = omega (arith, messages, f, g); messages = omega (arith, messages, f, g); bytes = omega (arith, bytes, f, g); text = omega (arith, text) }

module _ (c : Layout) (is_layout : IsLayout c) where
  same_covers : (m : Calm) (is_over : Bool) (x : NumberedCommand) (cs : List NumberedCommand) (ls : List Line) (events : ℕ) → events ≤ 1 → text_bytes ls ≤ most_line → Covers (need m is_over (x ∷ cs)) (costs events 0 0 (text_bytes ls)) (need m is_over cs)
  same_covers m is_over x cs ls events few text =
      let f = begins_fewer x cs in one_covers m m is_over is_over x cs ls events few text (omega (arith, f)) (omega (arith, f))

  begin_covers : (m : Calm) (t : ℕ) (x : NumberedCommand) (cs : List NumberedCommand) → x.command ≡ commands.Begin t → Covers (need m true (x ∷ cs)) (costs 1 0 0 (text_bytes [])) (need (begun_map m t) false cs)
  begin_covers m t x cs e = let g = begins_one x cs t e in one_covers m (begun_map m t) true false x cs [] 1 (omega arith) (omega arith) (omega (arith, g)) (omega (arith, g))

  module _ (m : Calm) (begun : List ℕ) (last : Option ℕ) (z : Session) (h : Between c m begun last false z) where
    tx_low : m.tx ≤ 4294967295
    tx_low = h.sane.numbers m.tx (h.sane.running refl).2

    version_low : (k : List ℕ) → version_at m.rows k ≤ 99999
    version_low k = let v = h.sane.versions k in let a = h.parties.clients in let b = h.parties.committed in omega (arith, v, a, b)

    row_fits : (k : List ℕ) → length k ≤ 64 → length (line_text (row_line m k)) ≤ 1300
    row_fits k short = read_fits m.tx k (version_at m.rows k) (value_at m.rows k) tx_low short (version_low k) (h.sane.values k)

    write_covers : (t : ℕ) (k value : List ℕ) (x : NumberedCommand) (cs : List NumberedCommand) → (x.command ≡ commands.Write t k value) ⊎ ((x.command ≡ commands.Delete t k) × (value ≡ gone))
        → Covers (need m false (x ∷ cs)) (costs 1 0 0 (text_bytes [])) (need (after_write m k value) false cs)
    write_covers t k value x cs e =
        let one : Touched = record { key = k; is_read = maybe (touched_of m.touched k) false (λ x. x.is_read); write = Some value } in
        let r = reads_write m.touched one refl in
        let w = weight_set m.touched one in
        let f = begins_fewer x cs in
        let i : weight_in x.command ≡ 12 + length k + length value = ⊎_elim (λ (a : x.command ≡ commands.Write t k value). ap weight_in a) (λ a. ap weight_in a.0 ∙ ap (λ (v : List ℕ). 12 + length k + length v) (sym a.1)) e in
        one_covers m (after_write m k value) false false x cs [] 1 (omega arith) (omega arith) (omega (arith, f, r)) (omega (arith, f, r, w, i))

    again_covers : (k : List ℕ) (y : Touched) → touched_of m.touched k ≡ Some y → length k ≤ 64 → (x : NumberedCommand) (cs : List NumberedCommand)
        → Covers (need m false (x ∷ cs)) (costs 1 0 0 (text_bytes (read_line m k (Some y) ∷ []))) (need (with_due m m.touched 0) false cs)
    again_covers k y old short x cs =
        let f = begins_fewer x cs in
        one_covers m (with_due m m.touched 0) false false x cs (read_line m k (Some y) ∷ []) 1 (omega arith)
        (one_line (read_line m k (Some y)) most_line (go y.write (h.sane.ranges y (touched_key m.rows m.touched k y old).1).1)) (omega (arith, f)) (omega (arith, f))
      where
        go : (w : Option (List ℕ)) → Short w → length (line_text (maybe w (row_line m k) (λ value. Own m.tx k value))) ≤ most_line
        go None s = let l = row_fits k short in omega (arith, l)
        go (Some value) s = let l = own_fits m.tx k value tx_low short s in omega (arith, l)

    read_covers : (k : List ℕ) (room : has_room m.touched k ≡ true) (short : length k ≤ 64) (new : touched_of m.touched k ≡ None) (t : ℕ) (x s : NumberedCommand) (cs : List NumberedCommand) → x.command ≡ commands.Read t k
        → Covers (need m false (x ∷ s ∷ cs)) (read_costs c is_layout m begun last z h k room short new) (need (with_due m (then_touched c is_layout m begun last z h k room short new) 0) false cs)
    read_covers k room short new t x s cs e =
        let one : Touched = record { key = k; is_read = true; write = None } in
        let n = ds_count c is_layout m begun last z h k room short new in
        let b = ds_bytes c is_layout m begun last z h k room short new in
        let d = read_small c is_layout in
        let r = reads_new m.touched one new refl in
        let low = reads_low (touched_set m.touched one) in
        let few = set_few m.touched one h.sane.few room in
        let w = weight_set m.touched one in
        let i : weight_in x.command ≡ 12 + length k = ap weight_in e in
        let l1 = row_fits k short in
        let l2 = settled_fits (read_deliveries c) (omega (arith, d)) in
        two_cover m (with_due m (touched_set m.touched one) 0) false false x s cs _ _ _ (omega (arith, l1, l2)) (omega (arith, n, d, r, low, few)) (omega (arith, b, r, low, few, w, i))

    commit_covers : (x s : NumberedCommand) (cs : List NumberedCommand) → Covers (need m false (x ∷ s ∷ cs)) (commit_costs c is_layout m begun last z h) (need (committed_map m) true cs)
    commit_covers x s cs =
        let w = commit_line c is_layout m begun last z h in
        let n = w.count in
        let b = w.bytes in
        let d = commit_small c is_layout m.touched h.sane.few in
        let u = unread_low m.touched in
        let few = h.sane.few in
        let l1 = learned_fits m.tx tx_low in
        let l2 = settled_fits (commit_deliveries c m.touched) (omega (arith, d)) in
        two_cover m (committed_map m) false true x s cs _ _ _ (omega (arith, l1, l2)) (omega (arith, n, d)) (omega (arith, b, u, few))

  pub covering : Covering c is_layout need
  covering = record {
    idle = λ m is_over x cs. same_covers m is_over x cs [] 0 (omega arith) (omega arith);
    settle = λ m begun last is_over z h x cs.
        let due = h.sane.due in same_covers m is_over x cs (Settled m.due ∷ []) 0 (omega arith) (one_line (Settled m.due) most_line (let l = settled_fits m.due (omega (arith, due)) in omega (arith, l)));
    order = λ m begun last is_over z h x cs.
        let a = h.parties.clients in
        let b = h.parties.committed in
        same_covers m is_over x cs (OrderLine m.committed ∷ []) 0 (omega arith) (one_line (OrderLine m.committed) most_line (order_fits m.committed (λ t i. h.sane.numbers t (h.sane.were_begun t i)) (omega (arith, a, b))));
    begin = begin_covers;
    write = write_covers;
    again = again_covers;
    read = read_covers;
    commit = commit_covers;
  }
