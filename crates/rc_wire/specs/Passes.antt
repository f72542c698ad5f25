-- What a pass knows of its wire, and how that fits the wire under the lock.
use Rattle.std.specs.Prelude.{◌≡◌, ℕ, suc, ◌≤◌, Bool, true, ◌&&◌, not, List, [], ◌∷◌, ◌++◌, Some, is_some, slice_get, ◌⊎◌}
use Rattle.std.specs.List.{list_any}
use Rattle.std.specs.Ordering.{nat_cmp}
use Rattle.rc_ids.specs.Parties.{is_same_party}
use Rattle.rc_ids.specs.Tables.{member}
use Rattle.rc_ids.specs.declared.names.Party.{Party}
use Rattle.rc_wire.specs.declared.pass.Known.{Known}
use Rattle.rc_wire.specs.declared.rules.Rules.{Rules}
use Rattle.rc_wire.specs.declared.standing.Standing.{Standing}
use Rattle.rc_wire.specs.declared.turn.Act.{Act}
use Rattle.rc_wire.specs.declared.turn.Act.TheVariants.{Took, Posted, Rested, Halted}
use Rattle.rc_wire.specs.declared.turn.Turn.{Turn}
use Rattle.rc_wire.specs.Chronicle.{Chronicle, chronicle, more}
use Rattle.rc_wire.specs.Parties.{all_differ}
use Rattle.rc_wire.specs.Standings.{by, standing, may_end}
use Rattle.rc_wire.specs.Traffic.{Traffic, traffic}

-- the whole list begins with the front
abbrev pub IsFront : {A : Type 0} → List A → List A → Type 0
IsFront {A = A} front whole = (rest : List A) × (whole ≡ front ++ rest)

-- WHICH ENTRIES MAY COME NEXT, by where their party stands and by what is pending
abbrev pub may_act : Party → Standing → Traffic → Act → Bool
may_act party s t (Took number) = not (is_some s.unanswered) && member nat_cmp t.pending number
may_act party s t (Posted end sends) = may_end party s end
may_act party s t (Rested ended) = not s.ended
may_act party s t (Halted cause) = not s.halted

-- of one of the parties, after a history
abbrev pub may_follow : Chronicle → Party → Act → Bool
may_follow c party act =
    list_any (is_same_party party) c.parties && may_act party (standing (by party c.turns)) (traffic c.rules c.turns) act

-- each of these entries may come after those before it
abbrev pub may_all_follow : Rules → List Party → List Turn → List Turn → Bool
may_all_follow rules parties turns [] = true
may_all_follow rules parties turns (t ∷ ts) =
    may_follow (chronicle rules parties turns) t.party t.act && may_all_follow rules parties (turns ++ t ∷ []) ts

abbrev pub is_legal : Chronicle → Bool
is_legal c = may_all_follow c.rules c.parties [] c.turns

-- PASSES before the first turn, one for each of the parties
abbrev pub known_at_first : Chronicle → ℕ → Party → Known
known_at_first c seat party = record { last = 0; seen = c; mine = []; seat = seat; party = party }

abbrev pub known_from : Chronicle → ℕ → List Party → List Known
known_from c seat [] = []
known_from c seat (p ∷ ps) = known_at_first c seat p ∷ known_from c (suc seat) ps

abbrev pub all_known : Chronicle → List Known
all_known c = known_from c 0 c.parties

-- what a pass knows once its turn has ended: the turn's number, the wire that it left, and its party's own entries
abbrev pub learned : ℕ → Chronicle → Known → Known
learned turns c x = record { last = turns; seen = c; mine = by x.party c.turns; seat = x.seat; party = x.party }

-- after so many turns, which left this wire, the pass of this seat may know this
pub record Fits (turns : ℕ) (c : Chronicle) (seat : ℕ) (x : Known) : Type 0 where
  pub seat_is : x.seat ≡ seat
  pub rules : x.seen.rules ≡ c.rules
  pub parties : x.seen.parties ≡ c.parties
  pub party : slice_get c.parties seat ≡ Some x.party
  pub last : x.last ≤ turns
  pub seen : IsFront x.seen.turns c.turns
  pub mine : x.mine ≡ by x.party c.turns
  pub legal : is_legal c ≡ true
  pub differ : all_differ c.parties ≡ true

-- a turn of the party leaves the wire as it was, or with one entry more that may follow
abbrev pub Follows : Chronicle → Party → Chronicle → Type 0
Follows c party after = (after ≡ c) ⊎ ((act : Act) × (after ≡ more c party act) × (may_follow c party act ≡ true))

-- a pass of the wire that has these rules and parties
pub record IsPass (names : Chronicle) (seat : ℕ) (x : Known) : Type 0 where
  pub seat_is : x.seat ≡ seat
  pub rules : x.seen.rules ≡ names.rules
  pub parties : x.seen.parties ≡ names.parties
  pub party : slice_get names.parties seat ≡ Some x.party
  pub mine : x.mine ≡ by x.party x.seen.turns
