use Rattle.std.proofs.Common.{◌≡◌, ◌∙◌, rules}
use Rattle.rc_read.proofs.PollFacts.{goes_on, taken_more, gives_taken, gives_later}
use Rattle.rc_read.proofs.majority.MajorityReadFuture.poll.Goals as goal

pub returns-in-loop-grant-clause-same : goal.returns-in-loop-grant-clause-same
returns-in-loop-grant-clause-same g c = λ x later. gives_later _ _ _ _ x c.loop-grant.invariant.3 later

pub returns-in-Some-clause-value : goal.returns-in-Some-clause-value
returns-in-Some-clause-value g c =
    gives_taken _ (g.I.Inbox.given c.next.new.self) _ c.offer.new.self _
    (taken_more _ _ _ _ _ _ _ _ c.loop-grant.invariant.3 (search rules) c.offer.ensures.after c.in-Some.ensures.answer)

pub returns-in-Some-clause-taken : goal.returns-in-Some-clause-taken
returns-in-Some-clause-taken g c =
    taken_more _ _ _ _ _ _ _ _ c.loop-grant.invariant.3 (search rules) c.offer.ensures.after c.in-Some.ensures.answer

pub loop-grant-preserved : goal.loop-grant-preserved
loop-grant-preserved g c =
    let calm : g.I.Inbox.waits c.next.new.self ≡ g.I.Inbox.waits c.loop-grant.self.inbox = search rules in (
      goes_on c.loop-grant.self.state _ _ c.loop-grant.invariant.0 c.offer.ensures.after c.in_default.ensures.answer,
      λ fact h. c.next.ensures.kept fact (c.loop-grant.invariant.1 fact h),
      calm ∙ c.loop-grant.invariant.2,
      taken_more _ _ _ _ _ _ _ _ c.loop-grant.invariant.3 (search rules) c.offer.ensures.after c.in_default.ensures.answer,
    )
