use Rattle.std.proofs.Common.{◌≡◌, Option, ap}
use Rattle.std.specs.Prelude.{Result, Ok, Err, OnErr}
use Rattle.rc_ballots.specs.Tallies.{Tally}
use Rattle.rc_msg.proofs.PostFacts.{Grows-refl}
use Rattle.rc_protocol.specs.Client.{Client, with_vote, client_learns}
use Rattle.rc_client.specs.declared.fault.ClientFault.TheVariants.{NoMemory}
use Rattle.rc_client.specs.Acts.{Core, Fails, site}
use Rattle.rc_client.specs.Phases.{phase_of}
use Rattle.rc_client.specs.States.{votes_of, weights_of, client_of, site_of}
use Rattle.rc_client.proofs.ActFacts.{Lengthens-append}
use Rattle.rc_client.proofs.voting.vote_last.Goals as goal

-- what holds, holds at an error
at_err : {T E : Type 0} (r : Result T E) (P : Type 0) → P → OnErr r P
at_err (Ok x) P p = tt
at_err (Err e) P p = p

pub returns-in_err-count-clause-err : goal.returns-in_err-count-clause-err
returns-in_err-count-clause-err c = λ out.
    let with_votes = λ (v : Option Tally).
    let client : Client = record {
      phase = phase_of c.args.progress.now.phase;
      slots = c.args.progress.now.slots;
      refusals = c.args.progress.now.refusals;
      votes = votes_of v;
      outcome = c.args.progress.now.outcome;
    } in
    let core : Core = record { tx = c.args.progress.now.tx; client = client; weights = weights_of v } in core in
    at_err c.from_residual-in_err-count.result
    (Fails NoMemory (site_of c.args.progress.now out c.args.lines.now) (site (with_votes c.count.new.votes) out c.push.new.self)
    (client_learns c.args.progress.now.tx (with_vote (client_of c.args.progress.now) c.args.ballot c.args.dc c.args.decision.now) c.args.decision.now))
    (record {
      core = ap with_votes c.in_err-count.ensures.err;
      sends = Grows-refl out;
      lines = Lengthens-append c.args.lines.now _ c.push.new.self c.in_ok-push.ensures.ok;
      named = tt;
    })
