-- A command of a client, as an event of the session.
use Rattle.std.proofs.Common.{◌≡◌, ℕ, Bool, false, List, [], ◌++◌, Option, None, Some, refl, sym, ◌∙◌, ap, subst}
use Rattle.std.specs.Prelude.{if◌then◌else◌, ◌&&◌, nat_le, length}
use Rattle.std.specs.Ordering.{nat_cmp}
use Rattle.rc_ids.specs.Tables.{found, maybe}
use Rattle.rc_ids.specs.declared.names.Party.TheVariants.{Client as ClientOf}
use Rattle.rc_ids.specs.declared.sends.Letter.{Letter}
use Rattle.rc_msg.specs.Outboxes.{Outbox, new_outbox}
use Rattle.rc_msg.specs.Posts.{posted_all}
use Rattle.rc_protocol.specs.Nodes.{CoordNode, ShardNode}
use Rattle.rc_begin.specs.Places.{AreAt}
use Rattle.rc_report.specs.declared.line.Line.{Line}
use Rattle.rc_report.specs.declared.fault.Which.TheVariants.{Transactions}
use Rattle.rc_runs.specs.declared.event.Event.{Event}
use Rattle.rc_runs.specs.declared.event.Event.TheVariants.{Begin, Read, Write, Commit, Cancel, Retry, Vanish, Take, Catch, Deliver, Lose, Crash, CrashAt, Restart}
use Rattle.rc_protocol.specs.Client.{Client}
use Rattle.rc_protocol.specs.Acts.{ClientCause, Reads, Writes, Commits, Cancels, Retries, Vanishes, client_act}
use Rattle.rc_runs.specs.World.{World, Start, Parties, Deed, Idle, ByClient, deed, client_does, actor, parties_after, sends_of, lines_of}
use Rattle.rc_runs.specs.Refusals.{wrong, begins, worn_out, most_transactions}
use Rattle.rc_runs.specs.Session.{Session}
use Rattle.rc_ids.specs.Cluster.{Layout}
use Rattle.rc_body.specs.declared.entry.Entry.{Entry}
use Rattle.rc_order.specs.Orders.{Order}
use Rattle.rc_order.specs.Counts.{IsOrderOf}
use Rattle.rc_host.specs.declared.host.Host.{Host}
use Rattle.rc_begin.specs.Hosts.{Views, Runs, IsCoord, IsShard}
use Rattle.rc_world.specs.Clients.{IsRoster, command, told, scene, Did}
use Rattle.rc_world.specs.Steps.{EventActed, IsDone, early_limit, event_limit}
use Rattle.rc_world.specs.Worlds.{Parts, AreParties, IsWorld, HasActed}
use Rattle.rc_world.proofs.ClientActs.{idles, client_acted}

-- a client is told this in the event
pub record IsTold (z : Session) (e : Event) (t : ℕ) (cause : ClientCause) : Type 0 where
  pub done : IsDone z e
  pub actor_is : actor z.world.sent e ≡ ClientOf t
  pub deed_is : deed z.world.parties z.world.sent e ≡ client_does z.world.parties t cause
  pub told_is : told z.world.parties e ≡ client_does z.world.parties t cause
  pub no_begin : begins e ≡ false

pair_is : (t u : ℕ) (c k : ClientCause) → (let a : Option (ℕ × ClientCause) = Some (t, c) in a ≡ Some (u, k)) → (t ≡ u) × (c ≡ k)
pair_is t u c k is = (ap (λ (o : Option (ℕ × ClientCause)). maybe o t (λ x. x.0)) is, ap (λ (o : Option (ℕ × ClientCause)). maybe o c (λ x. x.1)) is)

told_so : (z : Session) (e : Event) (t u : ℕ) (c k : ClientCause) → (t ≡ u) × (c ≡ k) → IsTold z e t c → IsTold z e u k
told_so z e t u c k is so = subst (λ (n : ℕ). IsTold z e n k) is.0 (subst (IsTold z e t) is.1 so)

pub is_told : (z : Session) (e : Event) (t : ℕ) (cause : ClientCause) → command e ≡ Some (t, cause) → IsTold z e t cause
is_told z (Read u k) t cause is = told_so z (Read u k) u t (Reads k) cause (pair_is u t (Reads k) cause is) (record { done = record { change = refl; begins = refl; starts = refl }; actor_is = refl; deed_is = refl; told_is = refl; no_begin = refl })
is_told z (Write u k value) t cause is = told_so z (Write u k value) u t (Writes k value) cause (pair_is u t (Writes k value) cause is) (record { done = record { change = refl; begins = refl; starts = refl }; actor_is = refl; deed_is = refl; told_is = refl; no_begin = refl })
is_told z (Commit u) t cause is = told_so z (Commit u) u t Commits cause (pair_is u t Commits cause is) (record { done = record { change = refl; begins = refl; starts = refl }; actor_is = refl; deed_is = refl; told_is = refl; no_begin = refl })
is_told z (Cancel u k) t cause is = told_so z (Cancel u k) u t (Cancels k) cause (pair_is u t (Cancels k) cause is) (record { done = record { change = refl; begins = refl; starts = refl }; actor_is = refl; deed_is = refl; told_is = refl; no_begin = refl })
is_told z (Retry u) t cause is = told_so z (Retry u) u t Retries cause (pair_is u t Retries cause is) (record { done = record { change = refl; begins = refl; starts = refl }; actor_is = refl; deed_is = refl; told_is = refl; no_begin = refl })
is_told z (Vanish u) t cause is = told_so z (Vanish u) u t Vanishes cause (pair_is u t Vanishes cause is) (record { done = record { change = refl; begins = refl; starts = refl }; actor_is = refl; deed_is = refl; told_is = refl; no_begin = refl })
is_told z (Begin u) t cause is = cc
is_told z (Take d u) t cause is = cc
is_told z (Catch node) t cause is = cc
is_told z (Deliver n) t cause is = cc
is_told z (Lose n) t cause is = cc
is_told z (Crash node) t cause is = cc
is_told z (CrashAt node k pick) t cause is = cc
is_told z (Restart node) t cause is = cc

-- what a client does in an event
pub client_deed : (z : Session) (e : Event) (t : ℕ) (cause : ClientCause) → IsDone z e → deed z.world.parties z.world.sent e ≡ client_does z.world.parties t cause → let d = client_does z.world.parties t cause in
    worn_out d ≡ None → EventActed z e (parties_after z.world.parties d) z.coords z.shards (sends_of d) (lines_of d)
client_deed z e t cause done is = by_client (found nat_cmp z.world.parties.clients t) is
  where
    by_client : (o : Option Client) → (let d = maybe o Idle (λ x. ByClient t (client_act z.world.parties.layout t x cause)) in
        deed z.world.parties z.world.sent e ≡ d → worn_out d ≡ None → EventActed z e (parties_after z.world.parties d) z.coords z.shards (sends_of d) (lines_of d))
    by_client None nobody whole = idles z e done nobody
    by_client (Some x) acts whole = client_acted z e t (client_act z.world.parties.layout t x cause) done acts whole

-- past the limit of events there is none before an event that begins nothing
pub early : (w : World) (e : Event) → begins e ≡ false → event_limit w.events ≡ None → early_limit w e ≡ None
early w e none fits = ap (λ (b : Bool). if b && nat_le most_transactions (length w.parties.clients) then Some Transactions else event_limit w.events) none ∙ fits

module _ {C S J D : Type 0} (v : Views C S J D) (r : Runs) (z : Session) (old new : Parts (Host C J D) (Host S J D)) (is : IsWorld v r old z) (cluster : new.cluster ≡ old.cluster) (coords : new.coords ≡ old.coords) (shards : new.shards ≡ old.shards) (order : new.order ≡ old.order) where
  -- the parties after what a client did: nodes and disks are as before
  pub with_clients : (q : Parties) → IsRoster new.roster q → q.layout ≡ z.world.parties.layout → q.coords ≡ z.world.parties.coords → q.shards ≡ z.world.parties.shards → q.start ≡ z.world.parties.start → q.committed ≡ z.world.parties.committed → AreParties v r new q z.coords z.shards
  with_clients q roster layout same_coords same_shards same_start same_committed =
      let was = is.parties in
      let p = z.world.parties in
      record {
        layout = layout ∙ was.layout;
        cluster = cluster ∙ was.cluster;
        of_coords = ap length coords ∙ was.of_coords;
        of_shards = ap length shards ∙ was.of_shards;
        hosts = record {
          of_coords = subst (λ (hs : List (Host C J D)). AreAt (IsCoord v.coords r) hs q.coords z.coords) (sym coords) (subst (λ (xs : List CoordNode). AreAt (IsCoord v.coords r) old.coords xs z.coords) (sym same_coords) was.hosts.of_coords);
          of_shards = subst (λ (hs : List (Host S J D)). AreAt (IsShard v.shards r) hs q.shards z.shards) (sym shards) (subst (λ (xs : List ShardNode). AreAt (IsShard v.shards r) old.shards xs z.shards) (sym same_shards) was.hosts.of_shards);
        };
        roster = roster;
        order = subst (λ (o : Order). IsOrderOf q.layout q.coords q.start.committed q.committed o) (sym order) (subst (λ (c : Layout). IsOrderOf c q.coords q.start.committed q.committed old.order) (sym layout) (subst (λ (xs : List CoordNode). IsOrderOf p.layout xs q.start.committed q.committed old.order) (sym same_coords)
            (subst (λ (s : Start). IsOrderOf p.layout p.coords s.committed q.committed old.order) (sym same_start) (subst (λ (l : List (ℕ × List Entry)). IsOrderOf p.layout p.coords p.start.committed l old.order) (sym same_committed) was.order))));
      }

  -- what a client does changes clients alone
  client_keeps : (t : ℕ) (cause : ClientCause) → let q = parties_after z.world.parties (client_does z.world.parties t cause) in (q.layout ≡ z.world.parties.layout) × (q.coords ≡ z.world.parties.coords) × (q.shards ≡ z.world.parties.shards) × (q.start ≡ z.world.parties.start) × (q.committed ≡ z.world.parties.committed)
  client_keeps t cause = by_client (found nat_cmp z.world.parties.clients t)
    where
      by_client : (o : Option Client) → let q = parties_after z.world.parties (maybe o Idle (λ x. ByClient t (client_act z.world.parties.layout t x cause))) in (q.layout ≡ z.world.parties.layout) × (q.coords ≡ z.world.parties.coords) × (q.shards ≡ z.world.parties.shards) × (q.start ≡ z.world.parties.start) × (q.committed ≡ z.world.parties.committed)
      by_client None = (refl, refl, refl, refl, refl)
      by_client (Some x) = (refl, refl, refl, refl, refl)

  -- a client did what it does in the event
  pub client_did : (e : Event) (t : ℕ) (cause : ClientCause) (before after : Outbox) (letters : List Letter) (lines own : List Line) → letters ≡ after.letters → IsDone z e → deed z.world.parties z.world.sent e ≡ client_does z.world.parties t cause → actor z.world.sent e ≡ ClientOf t → wrong z.world e ≡ None → begins e ≡ false
      → event_limit new.events ≡ None → new.events ≡ old.events → before ≡ new_outbox (ClientOf t) → lines ≡ [] → (d : Deed) → d ≡ client_does z.world.parties t cause → Did (scene old.roster before lines) (scene new.roster after own) z.world.parties d
      → HasActed v r z e new (ClientOf t) letters own
  client_did e t cause before after letters lines own sent done is_deed who named no_begin fits events empty none dd dd_is did_so =
      let did = subst (λ (u : Deed). Did (scene old.roster before lines) (scene new.roster after own) z.world.parties u) dd_is did_so in
      let d = client_does z.world.parties t cause in
      let same = client_keeps t cause in
      record {
        named = named;
        early = early z.world e no_begin (ap event_limit (sym is.carried.events ∙ sym events) ∙ fits);
        parties = parties_after z.world.parties d;
        coords = z.coords;
        shards = z.shards;
        sends = sends_of d;
        acted = subst (λ (ls : List Line). EventActed z e (parties_after z.world.parties d) z.coords z.shards (sends_of d) ls) (sym (did.lines ∙ ap (λ (ls : List Line). ls ++ lines_of d) none)) (client_deed z e t cause done is_deed did.whole);
        are = with_clients (parties_after z.world.parties d) did.roster same.0 same.1 same.2 same.3 same.4;
        actor_is = λ some. sym who;
        posted = sent ∙ ap (λ (o : Outbox). o.letters) (did.sends ∙ ap (λ (o : Outbox). posted_all o (sends_of d)) empty);
      }
