-- The net as a queue: messages delivered one after another, and batches of them.
use Rattle.std.specs.Prelude.{◌≡◌, ℕ, zero, suc, List, [], ◌∷◌, ◌++◌, None}
use Rattle.rc_msg.specs.declared.msg.Envelope.{Envelope}
use Rattle.rc_report.specs.declared.line.Line.{Line}
use Rattle.rc_runs.specs.Refusals.{worn_out}
use Rattle.rc_runs.specs.World.{Parties, Deed, received, parties_after, envelopes, sends_of, lines_of}

-- what a delivery does
abbrev pub deed_of : Parties → Envelope → Deed
deed_of p e = received p e e.to

-- the parties after these deliveries, what was sent in them, and what was printed
abbrev pub after_all : Parties → List Envelope → Parties
after_all p [] = p
after_all p (e ∷ es) = after_all (parties_after p (deed_of p e)) es

abbrev pub sent_by : Parties → List Envelope → List Envelope
sent_by p [] = []
sent_by p (e ∷ es) = envelopes e.to (sends_of (deed_of p e)) ++ sent_by (parties_after p (deed_of p e)) es

abbrev pub printed_by : Parties → List Envelope → List Line
printed_by p [] = []
printed_by p (e ∷ es) = lines_of (deed_of p e) ++ printed_by (parties_after p (deed_of p e)) es

-- no act in these deliveries is worn out
abbrev pub Lasting : Parties → List Envelope → Type 0
Lasting p [] = Unit {0}
Lasting p (e ∷ es) = (worn_out (deed_of p e) ≡ None) × Lasting (parties_after p (deed_of p e)) es

-- the queue is delivered, oldest first, until it is empty, and no act is worn out: what is printed, and all that is delivered
pub data Drains : Parties → List Envelope → Parties → List Line → List Envelope → Type 0 where
  Empty : (p : Parties) → Drains p [] p [] []
  Next : (p : Parties) (e : Envelope) (q : List Envelope) (r : Parties) (ls : List Line) (es : List Envelope) → worn_out (deed_of p e) ≡ None
      → Drains (parties_after p (deed_of p e)) (q ++ envelopes e.to (sends_of (deed_of p e))) r ls es → Drains p (e ∷ q) r (lines_of (deed_of p e) ++ ls) (e ∷ es)

-- a batch takes P to Q, and sends and prints just this
pub record Turned (Q : Parties → Type 0) (es out : List Envelope) (ls : List Line) (p : Parties) : Type 0 where
  pub after : Q (after_all p es)
  pub sends : sent_by p es ≡ out
  pub prints : printed_by p es ≡ ls
  pub lasts : Lasting p es

abbrev pub Turns : (Parties → Type 0) → List Envelope → (Parties → Type 0) → List Envelope → List Line → Type 0
Turns P es Q out ls = (p : Parties) → P p → Turned Q es out ls p

-- what comes of each of 1 to n, in order
abbrev pub each : {A : Type 0} → ℕ → (ℕ → List A) → List A
each zero f = []
each (suc n) f = each n f ++ f (suc n)
