-- The law of quiet quorums, of a world and a stretch of which the laws on every run have said what is needed.
use Rattle.std.proofs.Common.{◌≡◌, ℕ, List, [], refl, sym, ◌∙◌, subst, true, false, Option, Some, None, ⊎_elim, true≢false}
use Rattle.std.specs.Ordering.{nat_cmp}
use Rattle.rc_ids.specs.Tables.{In, found, maybe}
use Rattle.rc_ids.specs.Cluster.{Layout, is_dc, is_shard}
use Rattle.rc_ids.specs.declared.names.Outcome.TheVariants.{Commit as Committed}
use Rattle.rc_body.specs.Decisions.{outcome_of}
use Rattle.rc_body.specs.declared.decision.Decision.{Decision}
use Rattle.rc_report.specs.declared.line.Line.TheVariants.{Learned}
use Rattle.rc_protocol.specs.Client.{Client, ClientRefusal, KeyWornOut, Phase, Open, Committing, Proposed, Done, Vanished, is_open, is_done}
use Rattle.rc_protocol.specs.Acts.{Commits, client_act, refusal}
use Rattle.rc_protocol.specs.Nodes.{CoordNode, ShardNode}
use Rattle.rc_runs.specs.declared.event.Event.TheVariants.{Commit}
use Rattle.rc_runs.specs.World.{World, Deed, ByClient, Course, Goes, Stops, coord_at, shard_at, replaced, course_deed, parties_after, step}
use Rattle.rc_runs.specs.Refusals.{Happening, worn_out, limit_of, is_event, run, lines}
use Rattle.rc_claims.specs.Quiet.{IsQuiet, AreFew, AreDelivered, HasCommitted, DropsNothing, moments, keys_of}
use Rattle.rc_agreement.proofs.Tables.{set_cases}
use Rattle.rc_causes.proofs.ReadFits.{ClientFits}
use Rattle.rc_quiet.proofs.Parts.{HasListed}
use Rattle.rc_quiet.proofs.Stretches.{over_at, rest_of, event_split, now_in, end_in}
use Rattle.rc_quiet.proofs.Beginning.{holds_first}
use Rattle.rc_quiet.proofs.Steps.{Holds, Moment}
use Rattle.rc_quiet.proofs.EventSteps.{event_ok}
use Rattle.rc_quiet.proofs.QuietMoments.{Known as Premises, moment, step_keeps}
use Rattle.rc_quiet.proofs.ClientKeys.{commit_shuts}
use Rattle.rc_quiet.proofs.ClientOver.{Stands, stands_over}
use Rattle.rc_quiet.proofs.Printing.{done_over, commit_client}
use Rattle.rc_quiet.proofs.Closing.{committed_last, few_last}

-- what a client's deed makes of it, whatever the course
commits_deed : (v : World) (t : ℕ) (course : Course) (x : Client) → found nat_cmp v.parties.clients t ≡ Some x → course_deed v (Commit t) course ≡ ByClient t (client_act v.parties.layout t x Commits)
commits_deed v t Goes x is = rw is refl
commits_deed v t (Stops kept) x is = rw is refl

-- the client after its commit
commit_now : (v : World) (t : ℕ) (course : Course) (x : Client) → found nat_cmp v.parties.clients t ≡ Some x → found nat_cmp (step v (Commit t) course).parties.clients t ≡ Some (client_act v.parties.layout t x Commits).after
commit_now v t course x is =
    let y : Client = (client_act v.parties.layout t x Commits).after in
    subst (λ (d : Deed). found nat_cmp (parties_after v.parties d).clients t ≡ Some y) (sym (commits_deed v t course x is))
    (⊎_elim
    (λ (e : (t ≡ t) × (found nat_cmp (replaced v.parties.clients t y) t ≡ Some y)). e.1)
    (λ (e : (t ≡ t → ⊥) × (found nat_cmp (replaced v.parties.clients t y) t ≡ found nat_cmp v.parties.clients t)). absurd (e.0 refl))
    (set_cases t t y x v.parties.clients is))

module _ (c : Layout) (w : World) (members : List ℕ) (t : ℕ) (hs : List Happening) (quiet : IsQuiet w members t hs) (premises : Premises c w members t hs)
    (fits : (x : Client) → found nat_cmp (run w hs).parties.clients t ≡ Some x → ClientFits (run w hs).parties.layout x)
    (finished : (d sh : ℕ) (y : CoordNode) (z : ShardNode) → In d members → coord_at (run w hs).parties d ≡ Some y → shard_at (run w hs).parties d sh ≡ Some z → found nat_cmp z.durable.finished t ≡ Some Committed → HasListed t y)
    (shard_there : (d sh : ℕ) → is_dc (run w hs).parties.layout d ≡ true → is_shard (run w hs).parties.layout sh ≡ true → (z : ShardNode) × (shard_at (run w hs).parties d sh ≡ Some z)) where
  -- THE COMMIT of t, after which its client is not open
  v : World
  v = quiet.commits.0

  course : Course
  course = quiet.commits.1

  split : (is_event v (Commit t, course) ≡ true) × In v (moments w hs) × In (step v (Commit t) course) (moments w hs)
  unfolding v course
  split = event_split w hs quiet.commits.0 (Commit t, quiet.commits.1) quiet.commits.2

  opened : (x : Client) × (found nat_cmp v.parties.clients t ≡ Some x) × (refusal x Commits ≡ None) × (is_open x.phase ≡ true)
  opened = commit_client v t (event_ok v (Commit t, course) split.0).0

  after : Client
  after = (client_act v.parties.layout t opened.0 Commits).after

  lasts : (client_act v.parties.layout t opened.0 Commits).refused ≡ Some KeyWornOut → ⊥
  lasts e =
      let fine = (event_ok v (Commit t, course) split.0).1 in
      let none : maybe (client_act v.parties.layout t opened.0 Commits).refused None limit_of ≡ None = subst (λ (d : Deed). worn_out d ≡ None) (commits_deed v t course opened.0 opened.1) fine in
      let f : maybe (Some KeyWornOut) None limit_of ≡ None = subst (λ (o : Option ClientRefusal). maybe o None limit_of ≡ None) e none in
      absurd (cc)

  stands_now : Stands t [] true (step v (Commit t) course)
  unfolding after
  stands_now =
      record {
        client = (client_act v.parties.layout t opened.0 Commits).after;
        is = commit_now v t course opened.0 opened.1;
        has = λ k i. absurd i;
        closed = λ _. commit_shuts v.parties.layout t opened.0 opened.2 lasts;
      }

  stands_last : Stands t [] true (run w hs)
  stands_last =
      let r = rest_of w hs (step v (Commit t) course) split.2 in
      subst (Stands t [] true) r.ends (stands_over t [] true (step v (Commit t) course) r.after (λ x h i. quiet.undropped x h (r.event x h i)) stands_now)

  abbrev x : Client
  x = stands_last.client

  same_layout : (run w hs).parties.layout ≡ w.parties.layout
  same_layout = (premises.facts (run w hs) (end_in w hs)).layout ∙ sym (premises.facts w (now_in w hs)).layout

  few_are : AreFew (run w hs) members t
  few_are = few_last c w members t hs quiet premises stands_last.client stands_last.is (stands_last.closed refl) (fits stands_last.client stands_last.is) same_layout finished shard_there

  committed_is : AreDelivered (run w hs) members t → HasCommitted (run w hs) t
  committed_is all = committed_last c w members t hs quiet premises stands_last.client stands_last.is (stands_last.closed refl) (fits stands_last.client stands_last.is) same_layout finished shard_there all

  -- THE LINE
  holds_at : (u : World) → In u (moments w hs) → Holds members t u.parties u.sent u.delivered
  holds_at u i =
      over_at (λ z. Moment members t (keys_of (run w hs) t) z.parties) (λ z h. DropsNothing t h.0) (λ z. Holds members t z.parties z.sent z.delivered) (step_keeps c w members t hs quiet premises) w hs
      (moment c w members t hs quiet premises) (λ z h j. quiet.undropped z h j) (holds_first members t w.parties w.sent w.delivered quiet.new premises.unknown premises.sent_before) u i

  commits_only : (u : World) (y : Client) (o : Decision) → In u (moments w hs) → found nat_cmp u.parties.clients t ≡ Some y → y.outcome ≡ Some o → outcome_of o ≡ Committed
  commits_only u y o i is f = (((holds_at u i).kept.said y is).outcome o f).0

  not_done : (p : Phase) → is_open p ≡ true → is_done p ≡ false
  not_done Open e = refl
  not_done Committing e = absurd (true≢false (sym e))
  not_done Proposed e = absurd (true≢false (sym e))
  not_done Done e = absurd (true≢false (sym e))
  not_done Vanished e = absurd (true≢false (sym e))

  prints_it : HasCommitted (run w hs) t → In (Learned t Committed) (lines w hs)
  prints_it h =
      let r = rest_of w hs v split.1 in
      r.line (Learned t Committed)
      (done_over t v r.after (λ u y o i. commits_only u y o (r.moment u i)) opened.0 opened.1 (not_done opened.0.phase opened.3) h.client
      (subst (λ (z : World). found nat_cmp z.parties.clients t ≡ Some h.client) (sym r.ends) h.is) h.done)

  pub few_and_committed : AreFew (run w hs) members t × (AreDelivered (run w hs) members t → HasCommitted (run w hs) t) × (AreDelivered (run w hs) members t → In (Learned t Committed) (lines w hs))
  few_and_committed = (few_are, committed_is, (λ all. prints_it (committed_is all)))
