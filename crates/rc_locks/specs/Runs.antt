-- Lists of calls of a lock table, and what they answer and leave.
use Rattle.std.specs.Prelude.{◌≡◌, ℕ, List, [], ◌∷◌, None}
use Rattle.std.specs.Ordering.{nat_cmp}
use Rattle.rc_ids.specs.Tables.{found}
use Rattle.rc_body.specs.declared.entry.Entry.{Entry}
use Rattle.rc_protocol.specs.Shard.{Mark}
use Rattle.rc_locks.specs.declared.answers.Asked.{Asked}
use Rattle.rc_locks.specs.declared.answers.Answer.{Answer}
use Rattle.rc_locks.specs.declared.answers.Answer.TheVariants.{Yes, No}
use Rattle.rc_locks.specs.declared.run.LockCall.{LockCall}
use Rattle.rc_locks.specs.declared.run.LockCall.TheVariants.{Ask, Cancel, Prepare, Finish}
use Rattle.rc_locks.specs.declared.run.LockAnswer.{LockAnswer}
use Rattle.rc_locks.specs.declared.run.LockAnswer.TheVariants.{Asked as AskAnswer, Cancelled, Tested, Finished}
use Rattle.rc_locks.specs.LockSets.{LockSets, asked, after_ask, after_cancel, tested, after_prepare, without_all, freed, after_finish}

-- what is said to a call: of a finish, the reads that it granted
pub data Said : Type 0 where
  says_asked : Asked → Said
  says_cancelled : Said
  says_tested : Answer → Said
  says_finished : List Mark → Said

abbrev pub said_by : LockAnswer → Said
said_by (AskAnswer asked) = says_asked asked
said_by Cancelled = says_cancelled
said_by (Tested answer) = says_tested answer
said_by (Finished reads) = says_finished reads.items

abbrev pub said_to : LockSets → LockCall → Said
said_to s (Ask t k) = says_asked (asked s t k)
said_to s (Cancel t k) = says_cancelled
said_to s (Prepare t part) = says_tested (tested s [] t part)
said_to s (Finish t) = says_finished (freed (without_all s (t ∷ [])))

-- a part is prepared where its test passes
abbrev pub after_test : Answer → LockSets → ℕ → List Entry → LockSets
after_test Yes s t part = after_prepare s t part
after_test (No reason) s t part = s

abbrev pub after_call : LockSets → LockCall → LockSets
after_call s (Ask t k) = after_ask (asked s t k) s (k, t)
after_call s (Cancel t k) = after_cancel s t k
after_call s (Prepare t part) = after_test (tested s [] t part) s t part
after_call s (Finish t) = after_finish s (t ∷ [])

-- what is said to the calls, in order, and the locks after them
abbrev pub ran : LockSets → List LockCall → List Said × LockSets
ran s [] = ([], s)
ran s (call ∷ calls) = (said_to s call ∷ (ran (after_call s call) calls).0, (ran (after_call s call) calls).1)

-- a part is prepared of a transaction that is not prepared
abbrev pub MayCall : LockSets → LockCall → Type 0
MayCall s (Ask t k) = Unit {0}
MayCall s (Cancel t k) = Unit {0}
MayCall s (Prepare t part) = found nat_cmp s.parts t ≡ None
MayCall s (Finish t) = Unit {0}

-- each call at its place
abbrev pub MayRun : LockSets → List LockCall → Type 0
MayRun s [] = Unit {0}
MayRun s (call ∷ calls) = MayCall s call × MayRun (after_call s call) calls
