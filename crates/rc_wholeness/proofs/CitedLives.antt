-- What is said of lists and of what the logs had committed holds at the end of every life.
use Rattle.std.proofs.Common.{◌≡◌, ℕ, List, refl, sym, subst, Bool, true, true≢false}
use Rattle.rc_ids.specs.Tables.{In}
use Rattle.rc_ids.specs.Cluster.{Layout, IsLayout}
use Rattle.rc_ids.specs.Quorum.{QuorumLaws}
use Rattle.rc_ids.proofs.QuorumFacts.{quorum_laws}
use Rattle.rc_ids.specs.declared.names.Outcome.TheVariants.{Commit as Committed}
use Rattle.rc_ids.specs.declared.names.Party.{Party}
use Rattle.rc_body.specs.Decisions.{outcome_of}
use Rattle.rc_body.specs.declared.entry.Entry.{Entry}
use Rattle.rc_body.specs.declared.decision.Decision.{Decision}
use Rattle.rc_body.specs.declared.decision.Decision.TheVariants.{Commit, Abort}
use Rattle.rc_msg.specs.declared.msg.Msg.{Msg}
use Rattle.rc_msg.specs.declared.msg.Msg.TheVariants.{Finish, CatchAsk, CatchPage}
use Rattle.rc_record.specs.declared.record.Record.TheVariants.{Accepted}
use Rattle.rc_record.specs.CoordState.{CoordDurable}
use Rattle.rc_record.specs.ShardState.{ShardDurable}
use Rattle.rc_protocol.specs.Nodes.{CoordNode, ShardNode, shard_started}
use Rattle.rc_runs.specs.World.{World, Start, new_world}
use Rattle.rc_claims.specs.Outcomes.{IsCommitted}
use Rattle.rc_claims.specs.Lives.{IsStartOf}
use Rattle.rc_agreement.proofs.PlainLives.{IsPlainLife, First, Next, reopened}
use Rattle.rc_agreement.proofs.Places.{logged_there}
use Rattle.rc_agreement.proofs.Scenes.{Scene, scene, at, shard_in, Keeps, run_keeps}
use Rattle.rc_agreement.proofs.Ballots.{Vote}
use Rattle.rc_agreement.proofs.Agreeing.{new_agrees}
use Rattle.rc_agreement.proofs.Choices.{choice_of}
use Rattle.rc_agreement.proofs.Learned.{new_heard}
use Rattle.rc_agreement.proofs.Longer.{Longer}
use Rattle.rc_agreement.proofs.Ordered.{new_ordered}
use Rattle.rc_agreement.proofs.Stays.{longer_self, longer_kept}
use Rattle.rc_agreement.proofs.Ghosts.{with_ghosts, Ghost, no_ghosts, ghosts_kept}
use Rattle.rc_agreement.proofs.Named.{is_old}
use Rattle.rc_agreement.proofs.Reopened.{Whole, kept, at_open, server_open, vote_up, reopens, reopens_old}
use Rattle.rc_wholeness.proofs.Pages.{Passed, passed_none}
use Rattle.rc_wholeness.proofs.ShardPages.{Cites}
use Rattle.rc_wholeness.proofs.Cited.{differ, EndsIn, Cited, Cares, cares_kept, new_cited}

-- what the logs had committed at the start was voted for with this body
pub record Olds (s : Scene) : Type 0 where
  pub each : (t : ℕ) (body : List Entry) → In (t, body) s.parties.start.committed → (d : ℕ) × (b : ℕ) × Vote t s d b (Commit body)

olds_on : (s z : Scene) → Longer s z → z.parties.start ≡ s.parties.start → Olds s → Olds z
olds_on s z l e h = record { each = λ t body i. let x = h.each t body (subst (λ (k : Start). In (t, body) k.committed) e i) in (x.0, x.1, l.votes t x.0 x.1 (Commit body) x.2) }

abbrev pub Kept : Layout → Scene → Type 0
Kept c s = Cares c s × Olds s

pub kept_kept : (c : Layout) → IsLayout c → Keeps (Kept c)
kept_kept c lay =
    let k = cares_kept c lay in
    record {
      turns = λ s d a there due p. (k.turns s d a there due p.0, olds_on s _ ((longer_kept s).turns s d a there due (longer_self s)) refl p.1);
      stops = λ s d r there half p. (k.stops s d r there half p.0, olds_on s _ ((longer_kept s).stops s d r there half (longer_self s)) refl p.1);
      starts = λ s d there p. (k.starts s d there p.0, olds_on s _ ((longer_kept s).starts s d there (longer_self s)) refl p.1);
      serves = λ s d sh a there due p. (k.serves s d sh a there due p.0, olds_on s _ ((longer_kept s).serves s d sh a there due (longer_self s)) refl p.1);
      halts = λ s d sh r there half p. (k.halts s d sh r there half p.0, olds_on s _ ((longer_kept s).halts s d sh r there half (longer_self s)) refl p.1);
      wakes = λ s d sh there p. (k.wakes s d sh there p.0, olds_on s _ ((longer_kept s).wakes s d sh there (longer_self s)) refl p.1);
      begins = λ s u new p. (k.begins s u new p.0, olds_on s _ ((longer_kept s).begins s u new (longer_self s)) refl p.1);
      clients = λ s u x a is due p. (k.clients s u x a is due p.0, olds_on s _ ((longer_kept s).clients s u x a is due (longer_self s)) refl p.1);
    }

-- a commit has a vote for its body
committed_vote : (v : World) → QuorumLaws v.parties.layout → (t : ℕ) (body : List Entry) → IsCommitted v t body → (d : ℕ) × (b : ℕ) × Vote t (scene v) d b (Commit body)
committed_vote v q t body h =
    let ch = choice_of t (scene v) Committed (h.ballot, h.chosen) in
    let m = q.share ch.set ch.set ch.enough ch.enough in
    let x = ch.votes m.0 m.1 in
    by m.0 x.0 x.1 x.2
  where
    by : (d : ℕ) (o : Decision) → outcome_of o ≡ Committed → Vote t (scene v) d h.ballot o → (d : ℕ) × (b : ℕ) × Vote t (scene v) d b (Commit body)
    by d Abort e i = absurd (differ (sym e))
    by d (Commit voted) e i =
        let same = h.votes d (at (scene v) d) voted (logged_there v.parties d (Accepted t h.ballot (Commit voted)) i) i in
        (d, h.ballot, subst (λ (x : List Entry). Vote t (scene v) d h.ballot (Commit x)) same i)

old_cites : (s : Scene) (p : ℕ → Bool) (from to : Party) (m : Msg) → is_old p m ≡ true → Cites s from to m
old_cites s p from to (Finish t o) e = absurd (true≢false (sym e))
old_cites s p from to (CatchAsk n) e = absurd (true≢false (sym e))
old_cites s p from to (CatchPage d n es) e = absurd (true≢false (sym e))
old_cites s p from to _ e = tt

module _ (c : Layout) (v : World) (start : Start) (is_start : IsStartOf v start) (g : Ghost (Kept c) (scene v)) where
  whole : Ghost (Whole c) (scene v)
  whole = record { clients = g.clients; sent = g.sent; holds = g.holds.0.0; all = g.all; known = g.known; back = g.back }

  abbrev s : Scene
  s = with_ghosts (scene v) g.clients g.sent

  r : Ghost (Whole c) (scene (reopened v start))
  r = reopens c v start is_start whole

  abbrev z : Scene
  z = with_ghosts (scene (reopened v start)) r.clients r.sent

  cited_again : Cited (with_ghosts (scene (reopened v start)) r.clients r.sent)
  unfolding r whole
  cited_again =
      record {
        says = λ e i. old_cites z (kept c v start is_start whole) e.from e.to e.msg (reopens_old c v start is_start whole e i);
        ends = λ d sh. subst (λ (q : CoordNode × ShardNode). EndsIn q.0.durable.outcomes q.1.durable) (λ i. (sym (at_open c v start is_start whole d) i, sym (server_open c v start is_start whole d sh) i))
            (subst (λ (q : CoordDurable × ShardDurable). EndsIn q.0.outcomes q.1) (λ i. (((g.holds.0.0.0.0 0).coords d).replays i, g.holds.0.0.0.1.replays d sh i)) (g.holds.0.1.ends d sh));
        places = λ d sh. subst (λ (n : ShardNode). Passed v.parties.layout sh n.durable.finished n.volatile.cursor (at z d).durable.outcomes) (sym (server_open c v start is_start whole d sh))
            (passed_none v.parties.layout sh (shard_started (shard_in s d sh).log).durable.finished (at z d).durable.outcomes);
      }

  olds_again : Olds (with_ghosts (scene (reopened v start)) r.clients r.sent)
  unfolding r whole
  olds_again = record { each = λ t body i. let x = committed_vote v (quorum_laws v.parties.layout g.holds.0.0.1.layout) t body (is_start.chosen t body i) in (x.0, x.1, vote_up c v start is_start whole t x.0 x.1 (Commit body) x.2) }

  pub kept_again : Ghost (Kept c) (scene (reopened v start))
  kept_again = record { clients = r.clients; sent = r.sent; holds = ((r.holds, cited_again), olds_again); all = r.all; known = r.known; back = r.back }

pub life_kept : (c : Layout) → IsLayout c → (earlier : List World) (w : World) → IsPlainLife c earlier w → Ghost (Kept c) (scene w)
life_kept c lay _ _ (First hs) =
    run_keeps (Ghost (Kept c)) (ghosts_kept (Kept c) (kept_kept c lay)) (new_world c) hs
    (no_ghosts (Kept c) (scene (new_world c)) ((((new_agrees c, new_heard c), new_ordered c lay), new_cited c), record { each = λ t body i. absurd i }))
life_kept c lay _ _ (Next earlier v start hs before is_start) =
    run_keeps (Ghost (Kept c)) (ghosts_kept (Kept c) (kept_kept c lay)) (reopened v start) hs (kept_again c v start is_start (life_kept c lay earlier v before))
