-- Moments of a run: where its messages were sent and its lines printed.
use Rattle.std.proofs.Common.{◌≡◌, List, [], ◌∷◌, refl, ap, Bool, true, false, cond, ◌⊎◌, inl, inr, ⊎_elim}
use Rattle.rc_ids.specs.Tables.{In}
use Rattle.rc_msg.specs.declared.msg.Envelope.{Envelope}
use Rattle.rc_report.specs.declared.line.Line.{Line}
use Rattle.rc_runs.specs.World.{World, actor, envelopes, sends_of, course_deed, step}
use Rattle.rc_runs.specs.Refusals.{Happening, is_event, after_event, run, lines_at, lines}
use Rattle.rc_causes.specs.Moments.{Moment, world_at, SendsNow, PrintsNow}
use Rattle.rc_agreement.proofs.Tables.{in_either}

-- the first moment, and a moment behind one more happening
pub first : (h : Happening) (hs : List Happening) → Moment (h ∷ hs)
first h hs = record { before = []; now = h; after = hs; all = refl }

pub behind : (h : Happening) (hs : List Happening) → Moment hs → Moment (h ∷ hs)
behind h hs m = record { before = h ∷ m.before; now = m.now; after = m.after; all = ap (λ (l : List Happening). h ∷ l) m.all }

-- what is sent in a happening
pub sent_now : (w : World) (h : Happening) (e : Envelope) → In e (after_event w h).sent → In e w.sent ⊎ SendsNow w h e
sent_now w h e = go (is_event w h) refl
  where
    go : (b : Bool) → is_event w h ≡ b → In e (cond b (step w h.0 h.1) w).sent → In e w.sent ⊎ SendsNow w h e
    go true is i = ⊎_elim (λ old. inl old) (λ new. inr (is, new)) (in_either e w.sent (envelopes (actor w.sent h.0) (sends_of (course_deed w h.0 h.1))) i)
    go false is i = inl i

abbrev pub SentIn : World → List Happening → Envelope → Type 0
SentIn w hs e = (m : Moment hs) × SendsNow (world_at w hs m) m.now e

pub sent_in : (w : World) (hs : List Happening) (e : Envelope) → In e (run w hs).sent → In e w.sent ⊎ SentIn w hs e
unfolding first behind
sent_in w [] e i = inl i
sent_in w (h ∷ hs) e i =
    ⊎_elim
    (λ (early : In e (after_event w h).sent). ⊎_elim (λ old. inl old) (λ (now : SendsNow w h e). inr (first h hs, now)) (sent_now w h e early))
    (λ (late : SentIn (after_event w h) hs e). inr (behind h hs late.0, late.1))
    (sent_in (after_event w h) hs e i)

-- what is printed
pub printed_in : (w : World) (hs : List Happening) (line : Line) → In line (lines w hs) → (m : Moment hs) × PrintsNow (world_at w hs m) m.now line
unfolding first behind
printed_in w [] line i = absurd i
printed_in w (h ∷ hs) line i =
    ⊎_elim
    (λ (now : In line (lines_at w h)). (first h hs, now))
    (λ (late : In line (lines (after_event w h) hs)). let r = printed_in (after_event w h) hs line late in (behind h hs r.0, r.1))
    (in_either line (lines_at w h) (lines (after_event w h) hs) i)
