-- Moments of a run, and what happens in them.
use Rattle.std.specs.Prelude.{◌≡◌, ℕ, List, ◌∷◌, ◌++◌, Some, IsTrue}
use Rattle.rc_ids.specs.Tables.{In}
use Rattle.rc_ids.specs.declared.names.Party.{Party}
use Rattle.rc_msg.specs.declared.msg.Envelope.{Envelope}
use Rattle.rc_msg.specs.declared.msg.Msg.{Msg}
use Rattle.rc_report.specs.declared.line.Line.{Line}
use Rattle.rc_runs.specs.declared.event.Event.TheVariants.{Deliver}
use Rattle.rc_runs.specs.World.{World, message, actor, envelopes, sends_of, course_deed}
use Rattle.rc_runs.specs.Refusals.{Happening, is_event, run, lines_at}

-- a happening of the list, with those before and after it
pub record Moment (hs : List Happening) : Type 0 where
  pub before : List Happening
  pub now : Happening
  pub after : List Happening
  pub all : hs ≡ before ++ now ∷ after

-- the world as the happening begins
abbrev pub world_at : World → (hs : List Happening) → Moment hs → World
world_at w hs m = run w m.before

-- the happening sends the message
abbrev pub SendsNow : World → Happening → Envelope → Type 0
SendsNow w h e = IsTrue (is_event w h) × In e (envelopes (actor w.sent h.0) (sends_of (course_deed w h.0 h.1)))

-- the happening delivers this message to this party. A message that names the party may be delivered more than once
abbrev pub DeliversNow : World → Happening → Party → Msg → Type 0
DeliversNow w h to m = (n : ℕ) × (from : Party) × (h.0 ≡ Deliver n) × (message w.sent n ≡ Some (record { from = from; to = to; msg = m }))

-- the line is printed in the happening
abbrev pub PrintsNow : World → Happening → Line → Type 0
PrintsNow w h line = In line (lines_at w h)
