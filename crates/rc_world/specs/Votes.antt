-- Which acts of a coordinator can be votes for a commit, and the vote that an act left in the log.
use Rattle.std.specs.Prelude.{◌≡◌, ◌-◌, ℕ, nat_lt, List, length, slice_get, Option, Some, None, if◌then◌else◌}
use Rattle.std.specs.Ordering.{nat_cmp}
use Rattle.rc_ids.specs.Tables.{found, maybe}
use Rattle.rc_body.specs.declared.decision.Decision.{Decision}
use Rattle.rc_body.specs.declared.decision.Decision.TheVariants.{Commit, Abort}
use Rattle.rc_log.specs.Journals.{State}
use Rattle.rc_msg.specs.declared.msg.Msg.TheVariants.{Propose, Prepared}
use Rattle.rc_record.specs.CoordState.{CoordDurable}
use Rattle.rc_record.specs.Reading.{decoded}
use Rattle.rc_record.specs.declared.record.Record.{Record}
use Rattle.rc_record.specs.declared.record.Record.TheVariants.{Accepted}
use Rattle.rc_protocol.specs.Acts.{NodeCause, Came}
use Rattle.rc_coord.specs.Sites.{CoordCore}
use Rattle.rc_host.specs.declared.host.Host.{Host}
use Rattle.rc_host.specs.declared.host.Host.TheVariants.{Up, Opened}
use Rattle.rc_host.specs.declared.host.Course.{Course}
use Rattle.rc_host.specs.declared.host.Course.TheVariants.{Goes, Stops}
use Rattle.rc_world.specs.declared.votes.Vote.{Vote}

-- the transaction of which something may be accepted
abbrev pub votes_on : NodeCause → Option ℕ
votes_on (Came from (Propose t b o)) = Some t
votes_on (Came from (Prepared t sh reason)) = Some t
votes_on cause = None

-- nothing is accepted
abbrev pub IsNoVote : Option Record → Type 0
IsNoVote (Some (Accepted u b o)) = ⊥
IsNoVote logs = Unit {0}

-- nothing is logged but what is accepted of this transaction
abbrev pub IsVoteOn : ℕ → Option Record → Type 0
IsVoteOn t None = Unit {0}
IsVoteOn t (Some (Accepted u b o)) = u ≡ t
IsVoteOn t (Some r) = ⊥

-- the vote for commit that an accepted decision is
abbrev pub vote_for : ℕ → ℕ × Decision → Option Vote
vote_for t (b, Commit body) = Some (record { tx = t; ballot = b })
vote_for t (b, Abort) = None

-- the one that a record is
abbrev pub vote_in : Option Record → Option Vote
vote_in (Some (Accepted t b o)) = vote_for t (b, o)
vote_in logs = None

-- the record that an act left in the log
abbrev pub kept_by : Option Record → Course → Option Record
kept_by logs Goes = logs
kept_by logs (Stops kept) = if kept then logs else None

-- what was accepted last of the transaction, where there are more records than before
abbrev pub vote_since : ℕ → CoordDurable → Option ℕ → ℕ → Option Vote
vote_since count s tx before = if nat_lt before count then maybe tx None (λ t. maybe (found nat_cmp s.accepted t) None (vote_for t)) else None

-- the last record of a log
abbrev pub last_record : List (List ℕ) → Option Record
last_record blobs = maybe (slice_get blobs (length blobs - 1)) None decoded

-- the vote of a coordinator that goes on, and that of one whose log was opened since it stopped
abbrev pub vote_if_up : {J D : Type 0} → (J → State) → Host (CoordCore J) J D → Option ℕ → ℕ → Option Vote
vote_if_up state (Up coord) tx before = vote_since (state coord.journal).count coord.durable tx before
vote_if_up state host tx before = None

abbrev pub vote_if_opened : {J D : Type 0} → Host (CoordCore J) J D → Option Vote
vote_if_opened (Opened journal blobs) = vote_in (last_record blobs)
vote_if_opened host = None

-- the vote that a host shows after an act that went so
abbrev pub vote_behind : {J D : Type 0} → (J → State) → Host (CoordCore J) J D → Course → Option ℕ → ℕ → Option Vote
vote_behind state host Goes tx before = vote_if_up state host tx before
vote_behind state host (Stops kept) tx before = if kept then vote_if_opened host else None
