-- What a turn tells its pass.
use Rattle.std.specs.Prelude.{◌≡◌, ℕ, ◌<◌, Bool, true, false, List, [], ◌∷◌, ◌++◌, length, Some, None, not, ◌&&◌}
use Rattle.atomic_table.specs.Seated.{TableId}
use Rattle.rc_ids.specs.declared.names.Party.{Party}
use Rattle.rc_ids.specs.declared.sends.Letter.{Letter}
use Rattle.rc_net.specs.Network.{Message, message, letters_bytes, fits}
use Rattle.rc_wire.specs.declared.fault.Taken.{Taken}
use Rattle.rc_wire.specs.declared.fault.Taken.TheVariants.{Mail, Empty, Closed, NoMemory}
use Rattle.rc_wire.specs.declared.pass.Known.{Known}
use Rattle.rc_wire.specs.declared.turn.Act.{Act}
use Rattle.rc_wire.specs.declared.turn.Act.TheVariants.{Took, Rested}
use Rattle.rc_wire.specs.declared.want.Want.{Want}
use Rattle.rc_wire.specs.Chronicle.{Chronicle, chronicle, replayed, more}
use Rattle.rc_wire.specs.Passes.{IsFront}
use Rattle.rc_wire.specs.Replay.{is_closed, is_quiescent}
use Rattle.rc_wire.specs.Standings.{turn, by, standing}
use Rattle.rc_wire.specs.Wants.{oldest_for}

-- the name of no wire
abbrev pub no_table : TableId
no_table = record { words = 0; slots = 0; views_name = 0; atom = 0; block = 0; offset = 0; slot_names = [] }

abbrev pub no_names : Chronicle
no_names = chronicle (record { lose_every = 0; repeat_every = 0 }) [] []

-- the number of the turn rises, what was seen is a beginning of what is seen now, and the pass stays one of its party
pub record IsTurn (old new : Known) : Type 0 where
  pub seat : new.seat ≡ old.seat
  pub party : new.party ≡ old.party
  pub rises : old.last < new.last
  pub seen : IsFront old.seen.turns new.seen.turns

-- the turn left this entry, as the last of what is seen and of the party's own
pub record Adds (old : Known) (act : Act) (new : Known) (wire : Chronicle) : Type 0 where
  pub before : IsFront old.seen.turns wire.turns
  pub seen : new.seen ≡ more wire old.party act
  pub mine : new.mine ≡ old.mine ++ turn old.party act ∷ []

-- the oldest message that the party wants, of those pending on the wire before the entry
pub record TakesMail (old : Known) (want : Want) (number : ℕ) (sender : Party) (bytes : List ℕ) (new : Known) : Type 0 where
  pub wire : Chronicle
  pub adds : Adds old (Took number) new wire
  pub still_open : is_closed (replayed wire) ≡ false
  pub oldest : oldest_for old.party want (replayed wire).traffic ≡ Some number
  pub is : (m : Message) → message (replayed wire).traffic.sent number ≡ Some m → (sender ≡ m.from) × (bytes ≡ m.bytes)

-- what a take gives, and what it leaves
abbrev pub Takes : Known → Want → Taken → Known → Type 0
Takes old want (Mail number sender bytes) new = TakesMail old want number sender bytes new
Takes old want Empty new = (new.mine ≡ old.mine) × (is_closed (replayed new.seen) ≡ false) × (oldest_for old.party want (replayed new.seen).traffic ≡ None)
Takes old want Closed new = (new.mine ≡ old.mine) × (is_closed (replayed new.seen) ≡ true)
Takes old want NoMemory new = new.mine ≡ old.mine

pub record Leaves (old : Known) (act : Act) (new : Known) : Type 0 where
  pub wire : Chronicle
  pub adds : Adds old act new wire

-- the wire has room for these messages
abbrev pub HasRoom : Chronicle → List Letter → Bool → Type 0
HasRoom c sends has = fits (replayed c).traffic.sent (length sends) (letters_bytes sends) ≡ has

-- a post that was done
pub record Posts (old : Known) (act : Act) (sends : List Letter) (new : Known) : Type 0 where
  pub wire : Chronicle
  pub adds : Adds old act new wire
  pub room : HasRoom wire sends true

-- a rest leaves no entry where the party waits already
abbrev pub RestsAs : Bool → Known → Bool → Known → Type 0
RestsAs true old ended new = new.mine ≡ old.mine
RestsAs false old ended new = Leaves old (Rested ended) new

abbrev pub Rests : Known → Bool → Known → Type 0
Rests old ended new = RestsAs (not ended && (standing old.mine).waiting) old ended new

-- CLOSING: of a closed wire each pass saw a beginning, the entries of each party are those of its pass, and it is quiescent where what
-- one pass saw was
pub record IsPart (c : Chronicle) (x : Known) : Type 0 where
  pub seen : IsFront x.seen.turns c.turns
  pub mine : x.mine ≡ by x.party c.turns
  pub quiet : is_quiescent (replayed x.seen) ≡ true → is_quiescent (replayed c) ≡ true

abbrev pub AreParts : Chronicle → List Known → Type 0
AreParts c [] = Unit {0}
AreParts c (x ∷ xs) = IsPart c x × AreParts c xs
