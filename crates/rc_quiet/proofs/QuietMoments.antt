-- The moments of a quiet stretch.
use Rattle.std.proofs.Common.{◌≡◌, ℕ, ◌≤◌, List, refl, sym, subst, true, false, Option, Some, None}
use Rattle.std.specs.Ordering.{nat_cmp}
use Rattle.rc_ids.specs.Tables.{In, found, maybe}
use Rattle.rc_ids.specs.Cluster.{Layout, IsLayout, is_dc, shard_of}
use Rattle.rc_protocol.specs.Client.{Client, Slot, Complete}
use Rattle.rc_protocol.specs.Nodes.{CoordNode, ShardNode}
use Rattle.rc_record.specs.ShardState.{version_at}
use Rattle.rc_runs.specs.World.{World, coord_at, shard_at, step}
use Rattle.rc_runs.specs.Refusals.{Happening, is_event, run}
use Rattle.rc_claims.specs.Quiet.{IsQuiet, DropsNothing, moments, events_of, keys_of}
use Rattle.rc_agreement.proofs.Places.{coord_dc}
use Rattle.rc_quiet.proofs.Facts.{Facts}
use Rattle.rc_quiet.proofs.Stretches.{over}
use Rattle.rc_quiet.proofs.ClientOver.{keys_last}
use Rattle.rc_quiet.proofs.Unknown.{Unknown}
use Rattle.rc_quiet.proofs.Arrivals.{AreSent}
use Rattle.rc_quiet.proofs.Beginning.{holds_first}
use Rattle.rc_quiet.proofs.Steps.{Moment, Holds}
use Rattle.rc_quiet.proofs.EventSteps.{keeps, event_ok}

-- what is known of the stretch from elsewhere: each moment is of a reached world, whose shards are there; and at a member's shard no row
-- of a key of t is newer than what t read
pub record Known (c : Layout) (w : World) (members : List ℕ) (t : ℕ) (hs : List Happening) : Type 0 where
  pub layout : IsLayout c
  pub facts : (v : World) → In v (moments w hs) → Facts c v.parties
  pub there : (v : World) → In v (moments w hs) → (d : ℕ) (k : List ℕ) → is_dc v.parties.layout d ≡ true → (x : ShardNode) × (shard_at v.parties d (shard_of v.parties.layout k) ≡ Some x)
  pub fresh : (v : World) → In v (moments w hs) → (d sh : ℕ) (x : ShardNode) (y : Client) (s : Slot) (version : ℕ) (value : Option (List ℕ)) → In d members → shard_at v.parties d sh ≡ Some x → found nat_cmp v.parties.clients t ≡ Some y
      → In s y.slots → found nat_cmp x.durable.finished t ≡ None → s.read ≡ Complete version value → version_at x.durable.rows s.key ≤ version
  pub unknown : Unknown t w.parties w.sent
  pub sent_before : AreSent w.sent w.delivered

module _ (c : Layout) (w : World) (members : List ℕ) (t : ℕ) (hs : List Happening) (quiet : IsQuiet w members t hs) (known : Known c w members t hs) where
  abbrev keys : List (List ℕ)
  keys = keys_of (run w hs) t

  drops : (v : World) (h : Happening) → In (v, h) (events_of w hs) → DropsNothing t h.0
  drops v h i = quiet.undropped v h i

  -- a member is there, and up
  up_of : (v : World) → In v (moments w hs) → (d : ℕ) → In d members → (o : Option CoordNode) → coord_at v.parties d ≡ o → maybe o false (λ x. x.up) ≡ true → (x : CoordNode) × (coord_at v.parties d ≡ Some x) × (x.up ≡ true)
  up_of v i d m None is up = absurd (cc)
  up_of v i d m (Some x) is up = (x, is, up)

  pub member_there : (v : World) → In v (moments w hs) → (d : ℕ) → In d members → (x : CoordNode) × (coord_at v.parties d ≡ Some x) × (x.up ≡ true)
  member_there v i d m = up_of v i d m (coord_at v.parties d) refl (quiet.up v d i m).0

  pub member_dc : (v : World) → In v (moments w hs) → (d : ℕ) → In d members → is_dc v.parties.layout d ≡ true
  member_dc v i d m = let x = member_there v i d m in coord_dc v.parties d x.0 x.1

  pub moment : (v : World) → In v (moments w hs) → Moment members t (keys_of (run w hs) t) v.parties
  moment v i =
      let f = known.facts v i in
      record {
        calm = record {
          untaken = λ d x is. quiet.untaken v i d x is;
          up = λ d x m is. subst (λ (o : Option CoordNode). maybe o false (λ y. y.up) ≡ true) is (quiet.up v d i m).0;
          shards_up = λ d sh x m is. (quiet.up v d i m).1 sh x is;
          replays = f.replays;
          shard_replays = f.shard_replays;
        };
        layout = subst IsLayout (sym f.layout) known.layout;
        apart = f.apart;
        shards = λ d k m. known.there v i d k (member_dc v i d m);
        rises = f.rises;
        has_keys = λ x s is j. keys_last w hs t drops v i x s is j;
        unprepared = λ d sh x u p m is f2 n. quiet.unprepared v d i m sh u x p is f2 n;
        fresh = λ d sh x y s version value m is at j none r. known.fresh v i d sh x y s version value m is at j none r;
      }

  abbrev AtEnd : World → Type 0
  AtEnd v = Holds members t v.parties v.sent v.delivered

  pub step_keeps : (v : World) (h : Happening) → is_event v h ≡ true → Moment members t (keys_of (run w hs) t) v.parties → Moment members t (keys_of (run w hs) t) (step v h.0 h.1).parties → DropsNothing t h.0
      → Holds members t v.parties v.sent v.delivered → Holds members t (step v h.0 h.1).parties (step v h.0 h.1).sent (step v h.0 h.1).delivered
  step_keeps v h ok now later none holds =
      let e = event_ok v h ok in
      keeps members t (keys_of (run w hs) t) v h.0 h.1 e.0 e.1 none holds now later

  -- at the end of the stretch all this holds
  pub holds_last : Holds members t (run w hs).parties (run w hs).sent (run w hs).delivered
  holds_last =
      over (λ v. Moment members t (keys_of (run w hs) t) v.parties) (λ v h. DropsNothing t h.0) (λ v. Holds members t v.parties v.sent v.delivered) step_keeps w hs moment drops
      (holds_first members t w.parties w.sent w.delivered quiet.new known.unknown known.sent_before)
