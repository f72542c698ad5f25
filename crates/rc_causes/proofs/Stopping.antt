-- Why nodes stop.
use Rattle.std.proofs.Common.{◌≡◌, [], ◌∷◌, refl, sym, ap, ◌∙◌, subst, Bool, true, false, cond, Option, Some, None, ◌⊎◌, inl, inr, ⊎_elim}
use Rattle.rc_ids.specs.Tables.{In, maybe}
use Rattle.rc_ids.specs.declared.names.NodeId.{NodeId}
use Rattle.rc_ids.specs.declared.names.NodeId.TheVariants.{Coord, Shard as ShardServer}
use Rattle.rc_record.specs.declared.record.Record.{Record}
use Rattle.rc_report.specs.declared.line.Line.TheVariants.{Stopped, Up}
use Rattle.rc_runs.specs.declared.event.Event.{Event}
use Rattle.rc_runs.specs.declared.event.Event.TheVariants.{Crash, Restart}
use Rattle.rc_runs.specs.World.{World, Deed, restart_lines, lines_of, course_deed, printed}
use Rattle.rc_runs.specs.Refusals.{Happening, is_event}
use Rattle.rc_agreement.proofs.Tables.{in_either}
use Rattle.rc_causes.specs.Stops.{made_in, stopped_in, AppendStopped, StopsHaveCauses}
use Rattle.rc_causes.proofs.Moves.{Move, Rests, ClientActs, CoordActs, CoordWakes, CoordHalts, CoordCrashes, ShardActs, ShardWakes, ShardHalts, ShardCrashes, move_of}
use Rattle.rc_causes.proofs.ClientSays.{client_row_of}

abbrev Cause : World → Happening → NodeId → Type 0
Cause w h node = (h.0 ≡ Crash node) ⊎ AppendStopped w h node

-- the one line of a stop names its node
same_node : (a b : NodeId) → In (Stopped b) (Stopped a ∷ []) → a ≡ b
same_node a b i = ⊎_elim (λ (e : Stopped a ≡ Stopped b). cc) (λ n. absurd n) i

by_move : (w : World) (h : Happening) (node : NodeId) (d : Deed) → Move w.parties w.sent h.0 h.1 d → d ≡ course_deed w h.0 h.1 → In (Stopped node) (lines_of d) → Cause w h node
by_move w h node _ Rests is i = absurd i
by_move w h node _ (ClientActs t x k found why) is i = absurd ((client_row_of w.parties.layout t x k).lines (Stopped node) i)
by_move w h node _ (CoordActs d x k there why) is i = absurd i
by_move w h node _ (CoordWakes d x there why) is i = absurd i
by_move w h node _ (CoordHalts d x k kept r there why logs course same) is i =
    subst (Cause w h) (same_node (Coord d) node i)
    (inr (record {
      made = r;
      kept = kept;
      makes = ap made_in same ∙ ap (λ (o : Option Record). maybe o None (λ r. Some (Coord d, r))) logs;
      course = course;
      left = ap stopped_in (sym is);
    }))
by_move w h node _ (CoordCrashes d x there why) is i = inl (why ∙ ap Crash (same_node (Coord d) node i))
by_move w h node _ (ShardActs d s x k there why) is i = absurd i
by_move w h node _ (ShardWakes d s x there why) is i = absurd i
by_move w h node _ (ShardHalts d s x k kept r there why logs course same) is i =
    subst (Cause w h) (same_node (ShardServer d s) node i)
    (inr (record {
      made = r;
      kept = kept;
      makes = ap made_in same ∙ ap (λ (o : Option Record). maybe o None (λ r. Some (ShardServer d s, r))) logs;
      course = course;
      left = ap stopped_in (sym is);
    }))
by_move w h node _ (ShardCrashes d s x there why) is i = inl (why ∙ ap Crash (same_node (ShardServer d s) node i))

starts_other : (e : Event) (node : NodeId) → In (Stopped node) (restart_lines e) → ⊥
starts_other (Restart n) node i = ⊎_elim (λ (e : Up n ≡ Stopped node). absurd (cc)) (λ n. n) i
starts_other _ node i = i

pub stops_have_causes : (w : World) (h : Happening) → StopsHaveCauses w h
stops_have_causes w h node i = go (is_event w h) i
  where
    go : (b : Bool) → In (Stopped node) (cond b (printed w h.0 h.1) []) → Cause w h node
    go true i =
        ⊎_elim
        (λ (k : In (Stopped node) (restart_lines h.0)). absurd (starts_other h.0 node k))
        (λ (k : In (Stopped node) (lines_of (course_deed w h.0 h.1))). by_move w h node _ (move_of w.parties w.sent h.0 h.1) refl k)
        (in_either (Stopped node) (restart_lines h.0) (lines_of (course_deed w h.0 h.1)) i)
    go false i = absurd i
