-- What shows a shard server.
use Rattle.std.proofs.Common.{◌≡◌, ◌≤◌, ◌+◌, ◌-◌, zero, suc, arith, ◌∷◌, ℕ, Bool, true, false, if◌then◌else◌, List, [], ◌++◌, Option, None, Some, refl, sym, ◌∙◌, ap}
use Rattle.std.specs.Prelude.{slice_get}
use Rattle.std.specs.Option.{option_map}
use Rattle.std.specs.List.{flat_map}
use Rattle.std.proofs.lemmas.List.{append-nil, flat_map_more}
use Rattle.rc_ids.specs.Tables.{maybe, up_to}
use Rattle.rc_ids.specs.declared.names.NodeId.TheVariants.{Shard as ShardServer}
use Rattle.rc_report.specs.declared.line.Line.{Line}
use Rattle.rc_protocol.specs.Nodes.{ShardNode, shard_index}
use Rattle.rc_runs.specs.World.{is_shard_of}
use Rattle.rc_ids.specs.Cluster.{Layout}
use Rattle.rc_protocol.specs.Shown.{row_lines}
use Rattle.rc_plain_world.specs.Hosts.{ShardSite, shard_nodes}
use Rattle.rc_plain_world.specs.Lines.{host_at, shown_at}
use Rattle.rc_plain_world.proofs.Sites.{shard_node_at}

by_test : (t : Bool) (o : Option ShardSite) (f : ShardNode → List Line)
    → maybe (if t then option_map (λ (s : ShardSite). s.node) o else None) [] f ≡ maybe (if t then o else None) [] (λ (s : ShardSite). f s.node)
by_test true None f = refl
by_test true (Some s) f = refl
by_test false o f = refl

shown : (c : Layout) (sites : List ShardSite) (d s : ℕ) → shown_at c (shard_nodes sites) d s ≡ maybe (host_at c sites d s) [] (λ (h : ShardSite). row_lines (ShardServer d s) h.node)
shown c sites d s =
    ap (λ (o : Option ShardNode). maybe (if is_shard_of c d s then o else None) [] (row_lines (ShardServer d s))) (shard_node_at sites (shard_index c d s))
    ∙ by_test (is_shard_of c d s) (slice_get sites (shard_index c d s)) (row_lines (ShardServer d s))

pub shown-none : (c : Layout) (sites : List ShardSite) (d s : ℕ) (lines : List Line) → host_at c sites d s ≡ None → lines ≡ lines ++ shown_at c (shard_nodes sites) d s
shown-none c sites d s lines is =
    sym (append-nil lines) ∙ ap (λ (ls : List Line). lines ++ ls)
    (sym (shown c sites d s ∙ ap (λ (o : Option ShardSite). maybe o [] (λ (h : ShardSite). row_lines (ShardServer d s) h.node)) is))

pub shown-some : (c : Layout) (sites : List ShardSite) (d s : ℕ) (host : ShardSite) (lines now : List Line) → host_at c sites d s ≡ Some host
    → now ≡ lines ++ row_lines (ShardServer d s) host.node → now ≡ lines ++ shown_at c (shard_nodes sites) d s
shown-some c sites d s host lines now is did =
    did ∙ ap (λ (ls : List Line). lines ++ ls)
    (sym (shown c sites d s ∙ ap (λ (o : Option ShardSite). maybe o [] (λ (h : ShardSite). row_lines (ShardServer d s) h.node)) is))

-- one shard server more is shown
pub shown_more : (f : ℕ → List Line) (n : ℕ) (before lines now : List Line) → 1 ≤ n → lines ≡ before ++ flat_map f (up_to (n - 1)) → now ≡ lines ++ f n
    → now ≡ before ++ flat_map f (up_to (n + 1 - 1))
shown_more f zero before lines now low so k = absurd (omega arith)
shown_more f (suc n) before lines now low so k =
    let last : suc n - 1 ≡ n = omega arith in
    let next : suc n + 1 - 1 ≡ suc n = omega arith in
    rw next (k ∙ ap (λ (ls : List Line). ls ++ f (suc n)) (so ∙ ap (λ (m : ℕ). before ++ flat_map f (up_to m)) last) ∙ flat_map_more f before (up_to n) (suc n))
