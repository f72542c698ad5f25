-- What holds of a quiet stretch that goes on from a run of a new world: its transaction is new, each key has its shard there, its clients
-- fit, and what a member's shard finished stands in the member's list.
use Rattle.std.proofs.Common.{◌≡◌, ℕ, suc, ◌+◌, ◌≤◌, List, [], ◌∷◌, ◌++◌, refl, sym, ◌∙◌, subst, Bool, true, false, cond, Option, Some, None, arith}
use Rattle.std.specs.Prelude.{nat_le, ◌&&◌, length}
use Rattle.std.specs.Ordering.{nat_cmp, is_lt}
use Rattle.rc_ids.specs.Tables.{In, found, maybe, member}
use Rattle.rc_ids.specs.Texts.{key_cmp}
use Rattle.rc_ids.specs.Cluster.{Layout, IsLayout, is_dc, is_shard, shard_from, shard_of}
use Rattle.rc_ids.specs.declared.names.Outcome.TheVariants.{Commit as Committed}
use Rattle.rc_ids.proofs.LayoutFacts.{splits_count}
use Rattle.rc_body.specs.declared.decision.Decision.TheVariants.{Commit as CommitOf}
use Rattle.rc_report.specs.declared.fault.Wrong.{Wrong}
use Rattle.rc_report.specs.declared.fault.Wrong.TheVariants.{NotBegun, Vanished as HasVanished}
use Rattle.rc_protocol.specs.Client.{Client}
use Rattle.rc_protocol.specs.Acts.{Commits}
use Rattle.rc_protocol.specs.Nodes.{CoordNode, ShardNode}
use Rattle.rc_runs.specs.declared.event.Event.TheVariants.{Commit}
use Rattle.rc_runs.specs.World.{World, Start, coord_at, shard_at, new_world}
use Rattle.rc_runs.specs.Refusals.{Happening, wrong, wrong_of, run, after_event}
use Rattle.rc_claims.specs.Quiet.{IsQuiet, moments}
use Rattle.rc_claims.specs.Lives.{IsLife, First}
use Rattle.rc_claims.specs.Whole.{IsWhole}
use Rattle.rc_agreement.proofs.PlainLives.{First as PlainFirst}
use Rattle.rc_agreement.proofs.Cases.{on_cond, never, some_is}
use Rattle.rc_agreement.proofs.Scenes.{Scene, Keeps, run_keeps}
use Rattle.rc_causes.proofs.ReadFits.{ClientFits, Fitting, fitting_kept}
use Rattle.rc_wholeness.proofs.Pages.{nth_in}
use Rattle.rc_wholeness.proofs.LifeWholes.{applied_is_whole}
use Rattle.rc_quiet.proofs.Parts.{HasListed}
use Rattle.rc_quiet.proofs.Stretches.{event_split}
use Rattle.rc_quiet.proofs.EventSteps.{event_ok}
use Rattle.rc_quiet.proofs.UnknownRuns.{IsNew}
use Rattle.rc_quiet.proofs.Facts.{Facts}
use Rattle.rc_quiet.proofs.FirstFacts.{first_facts}
use Rattle.rc_quiet.proofs.EndNodes.{at_moments, shard_at_moment, client_fits_at_end}

-- WHO IS NEW: the logs with which a run began stay those, and who is named by them commits nothing
abbrev Begins : Start → Scene → Type 0
Begins start s = s.parties.start ≡ start

start_kept : (start : Start) → Keeps (Begins start)
start_kept start =
    record {
      turns = λ s d k there due p. p;
      stops = λ s d r there half p. p;
      starts = λ s d there p. p;
      serves = λ s d sh k there due p. p;
      halts = λ s d sh r there half p. p;
      wakes = λ s d sh there p. p;
      begins = λ s u new p. p;
      clients = λ s u x k is due p. p;
    }

not_named : (v : World) (t : ℕ) → wrong v (Commit t) ≡ None → member nat_cmp v.parties.start.named t ≡ false
not_named v t =
    on_cond (λ (o : Option Wrong). o ≡ None → member nat_cmp v.parties.start.named t ≡ false) (member nat_cmp v.parties.start.named t) (Some (HasVanished t))
    (maybe (found nat_cmp v.parties.clients t) (Some (NotBegun t)) (λ x. wrong_of t x Commits))
    (λ _ e. never _ (sym e))
    (λ is _. is)

pub quiet_is_new : (w : World) (members : List ℕ) (t : ℕ) (hs : List Happening) → IsQuiet w members t hs → IsNew t w.parties
quiet_is_new w members t hs quiet =
    let v : World = quiet.commits.0 in
    let split = event_split w hs quiet.commits.0 (Commit t, quiet.commits.1) quiet.commits.2 in
    let same : v.parties.start ≡ w.parties.start = at_moments (Begins w.parties.start) (start_kept w.parties.start) w hs refl v split.1 in
    record {
      unnamed = subst (λ (s : Start). member nat_cmp s.named t ≡ false) same (not_named v t (event_ok v (Commit t, quiet.commits.1) split.0).0);
      none = quiet.new;
    }

-- EACH KEY has one of the shards
shard_range : (ks : List (List ℕ)) (k : List ℕ) → (1 ≤ shard_from ks k) × (shard_from ks k ≤ suc (length ks))
shard_range [] k = (omega arith, omega arith)
shard_range (p ∷ ks) k = let h = shard_range ks k in go (is_lt (key_cmp k p)) h.0 h.1
  where
    go : (v : Bool) → 1 ≤ shard_from ks k → shard_from ks k ≤ suc (length ks) → (1 ≤ cond v 0 1 + shard_from ks k) × (cond v 0 1 + shard_from ks k ≤ suc (suc (length ks)))
    go true a b = (omega (arith, a), omega (arith, b))
    go false a b = (omega (arith, a), omega (arith, b))

in_range : (n m : ℕ) → 1 ≤ n → n ≤ m → (nat_le 1 n && nat_le n m) ≡ true
in_range n m low high = grind (arith, low, high)

pub key_shard : (c : Layout) → IsLayout c → (k : List ℕ) → is_shard c (shard_of c k) ≡ true
key_shard c lay k =
    let h = shard_range c.splits k in
    let a = h.1 in
    let e = (splits_count c lay).0 in
    in_range (shard_of c k) c.shards h.0 (omega (arith, a, e))

-- A RUN in two parts
run_both : (w : World) (xs ys : List Happening) → run w (xs ++ ys) ≡ run (run w xs) ys
run_both w [] ys = refl
run_both w (x ∷ xs) ys = run_both (after_event w x) xs ys

module _ (c : Layout) (lay : IsLayout c) (earlier hs : List Happening) where
  abbrev w : World
  w = run (new_world c) earlier

  pub shard_of_key : (v : World) → In v (moments w hs) → (d : ℕ) (k : List ℕ) → is_dc v.parties.layout d ≡ true → (x : ShardNode) × (shard_at v.parties d (shard_of v.parties.layout k) ≡ Some x)
  shard_of_key v i d k dc =
      let f : Facts c v.parties = first_facts c earlier hs v i in
      shard_at_moment c [] w hs (PlainFirst earlier) v i d (shard_of v.parties.layout k) dc (subst (λ (l : Layout). is_shard l (shard_of l k) ≡ true) (sym f.layout) (key_shard c lay k))

  pub clients_fit : (t : ℕ) (x : Client) → found nat_cmp (run w hs).parties.clients t ≡ Some x → ClientFits (run w hs).parties.layout x
  clients_fit = client_fits_at_end c w hs (run_keeps (Fitting c) (fitting_kept c) (new_world c) earlier (refl, λ t x is. never x is))

  -- the whole run is a life
  life : IsLife c [] (run w hs)
  life = subst (IsLife c []) (run_both (new_world c) earlier hs) (First (earlier ++ hs))

  pub finished_is_listed : (t d sh : ℕ) (y : CoordNode) (z : ShardNode) → coord_at (run w hs).parties d ≡ Some y → shard_at (run w hs).parties d sh ≡ Some z → found nat_cmp z.durable.finished t ≡ Some Committed → HasListed t y
  finished_is_listed t d sh y z is there fin =
      let h : IsWhole (run w hs) d t = applied_is_whole c lay [] (run w hs) life d sh t z there fin in
      let same : h.coord ≡ y = some_is h.coord y (sym h.is ∙ is) in
      (CommitOf h.body, subst (λ (n : CoordNode). In (t, CommitOf h.body) n.durable.outcomes) same (nth_in h.coord.durable.outcomes h.place (t, CommitOf h.body) h.listed))
