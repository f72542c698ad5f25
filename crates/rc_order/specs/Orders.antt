-- Which transactions' commits were chosen, as kept from the votes for commit.
use Rattle.std.specs.Prelude.{◌≡◌, ℕ, ◌≤◌, ◌<◌, Bool, ◌&&◌, ◌||◌, List, [], ◌∷◌, ◌++◌, Option, Some, None, nat_eq, if◌then◌else◌, map}
use Rattle.std.specs.Ordering.{nat_cmp}
use Rattle.std.specs.List.{list_any}
use Rattle.std.specs.Map.{lookup}
use Rattle.indexmap.specs.IndexMap.{insert_entry}
use Rattle.rc_ids.specs.Tables.{member, added, maybe}
use Rattle.rc_ids.specs.Cluster.{holds}
use Rattle.rc_body.specs.declared.entry.Entry.{Entry}
use Rattle.rc_body.specs.declared.decision.Decision.TheVariants.{Commit}
use Rattle.rc_record.specs.declared.record.Record.{Record}
use Rattle.rc_record.specs.declared.record.Record.TheVariants.{Accepted}

-- a transaction and one of its ballots
abbrev pub Race : Type 0
Race = ℕ × ℕ

-- the same transaction at the same ballot
abbrev pub same_race : Race → Race → Bool
same_race x y = nat_eq x.0 y.0 && nat_eq x.1 y.1

-- the datacentres that voted for commit, by transaction and ballot, in the order in which the first votes came
abbrev pub Votes : Type 0
Votes = List (Race × List ℕ)

-- the weights of the datacentres, the votes, the transactions that were listed before this run and in it, and how many ballots and
-- how many transactions more are sure to find memory
pub record Order : Type 0 where
  pub weights : List ℕ
  pub votes : Votes
  pub earlier : List ℕ
  pub listed : List ℕ
  pub spare_votes : ℕ
  pub spare_places : ℕ

-- those that are counted at the ballot
abbrev pub voters_at : Votes → ℕ → ℕ → List ℕ
voters_at votes t b = maybe (lookup (same_race (t, b)) votes) [] (λ voters. voters)

-- with one more at the ballot, which stays where it stands, or comes last
abbrev pub with_new_vote : Votes → ℕ → ℕ → ℕ → Votes
with_new_vote votes d t b = insert_entry same_race votes (t, b) (added nat_cmp (voters_at votes t b) d)

-- with the vote of d; one that was counted before changes nothing
abbrev pub with_vote : Votes → ℕ → ℕ → ℕ → Votes
with_vote votes d t b = if member nat_cmp (voters_at votes t b) d then votes else with_new_vote votes d t b

-- the transaction and the ballot, where the record is a vote for commit
abbrev pub vote_of : Record → Option Race
vote_of (Accepted t b (Commit body)) = Some (t, b)
vote_of r = None

-- with what d wrote
abbrev pub with_record : Votes → ℕ → Record → Votes
with_record votes d r = maybe (vote_of r) votes (λ v. with_vote votes d v.0 v.1)

-- the transaction is in the list
abbrev pub has_listed : List ℕ → ℕ → Bool
has_listed txs t = list_any (nat_eq t) txs

-- the list of this run with the transaction behind it, where its commit is chosen at the ballot and it was not listed
abbrev pub with_choice : List ℕ → Votes → List ℕ → List ℕ → ℕ → ℕ → List ℕ
with_choice weights votes earlier listed t b =
    if has_listed earlier t || has_listed listed t then listed
    else (if holds weights (voters_at votes t b) then listed ++ t ∷ [] else listed)

-- the list of this run with the transaction of the record, where that is a vote and chooses
abbrev pub listed_after : Order → Record → List ℕ
listed_after o r = maybe (vote_of r) o.listed (λ v. with_choice o.weights o.votes o.earlier o.listed v.0 v.1)

-- the transactions of a list with bodies
abbrev pub txs_of : List (ℕ × List Entry) → List ℕ
txs_of committed = map (λ x. x.0) committed

-- one vote more, and one transaction more, are sure to find memory
pub record HasRoom (o : Order) : Type 0 where
  pub votes : 0 < o.spare_votes
  pub places : 0 < o.spare_places

-- all stays as it was, and there is no less room
pub record IsAsBefore (old new : Order) : Type 0 where
  pub weights : new.weights ≡ old.weights
  pub votes : new.votes ≡ old.votes
  pub earlier : new.earlier ≡ old.earlier
  pub listed : new.listed ≡ old.listed
  pub spare_votes : old.spare_votes ≤ new.spare_votes
  pub spare_places : old.spare_places ≤ new.spare_places
