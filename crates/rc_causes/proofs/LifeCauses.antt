-- The laws, of every life: each is that of the plain life that it is like.
use Rattle.std.proofs.Common.{ℕ, List, sym, ◌∙◌, subst, inl, inr, ⊎_elim}
use Rattle.rc_ids.specs.Tables.{In}
use Rattle.rc_ids.specs.Cluster.{Layout, IsLayout}
use Rattle.rc_ids.specs.declared.names.Outcome.TheVariants.{Abort as Aborted}
use Rattle.rc_report.specs.declared.line.Line.{Line}
use Rattle.rc_report.specs.declared.line.Line.TheVariants.{Learned}
use Rattle.rc_runs.specs.World.{World, new_world}
use Rattle.rc_runs.specs.Refusals.{Happening, run, lines}
use Rattle.rc_claims.specs.Lives.{IsLife}
use Rattle.rc_agreement.proofs.Alike.{WorldLike, is_event_same, lines_at_same, run_like, lines_same}
use Rattle.rc_agreement.proofs.AlikeLives.{PlainLife, plain_life, plain_layout, start_left, reopens_like, chosen_right}
use Rattle.rc_causes.specs.Printed.{PrintedIsChosen}
use Rattle.rc_causes.specs.Aborts.{Begins, New, Again, WasTaken, IsRefusedByMany, AbortsHaveCauses}
use Rattle.rc_causes.proofs.Telling as telling
use Rattle.rc_causes.proofs.AbortLaw as abort
use Rattle.rc_causes.proofs.AbortLaw.{BeginsPlainly, New as PlainNew, Again as PlainAgain}

pub printed_is_chosen : (c : Layout) → IsLayout c → (earlier : List World) (y : World) → IsLife c earlier y → (later : List Happening) → PrintedIsChosen y later
printed_is_chosen c lay earlier y life later t outcome i =
    let p : PlainLife c earlier y = plain_life c lay earlier y life in
    chosen_right (run p.world later) (run y later) (run_like later p.world y p.like) outcome t
    (telling.printed_is_chosen c lay p.before p.world p.plain later t outcome (subst (λ (ls : List Line). In (Learned t outcome) ls) (sym (lines_same later p.world y p.like)) i))

-- a command to take over is an event in both
taken_right : (w y : World) → WorldLike w y → (hs : List Happening) (t : ℕ) → WasTaken w hs t → WasTaken y hs t
taken_right w y l hs t h = record {
  moment = h.moment;
  taker = h.taker;
  is = h.is;
  event = sym (is_event_same (run w h.moment.before) (run y h.moment.before) (run_like h.moment.before w y l) h.moment.now) ∙ h.event;
}

causes_right : (c : Layout) (w y : World) → WorldLike w y → (before : List Happening) (now : Happening) → AbortsHaveCauses c w before now → AbortsHaveCauses c y before now
causes_right c w y l before now law t i =
    let m = run_like before w y l in
    let h = law t (subst (λ (ls : List Line). In (Learned t Aborted) ls) (sym (lines_at_same (run w before) (run y before) m now)) i) in (
      chosen_right (run w before) (run y before) m Aborted t h.0,
      ⊎_elim
          (λ (k : WasTaken w before t). inl (taken_right w y l before t k))
          (λ (k : IsRefusedByMany c t (lines w before)). inr (subst (IsRefusedByMany c t) (lines_same before w y l) k))
          h.1,
    )

pub aborts_have_causes : (c : Layout) → IsLayout c → (y : World) → Begins c y → (before : List Happening) (now : Happening) → AbortsHaveCauses c y before now
aborts_have_causes c lay _ New before now = abort.aborts_have_causes c lay (new_world c) PlainNew before now
aborts_have_causes c lay _ (Again earlier v start coords shards life is_start says) before now =
    let p : PlainLife c earlier v = plain_life c lay earlier v life in
    causes_right c _ _ (reopens_like c p.world v start coords shards (plain_layout c lay p.before p.world p.plain) p.like says) before now
    (abort.aborts_have_causes c lay _ (PlainAgain p.before p.world start p.plain (start_left p.world v p.like start is_start)) before now)
