-- Two worlds whose nodes differ in their logs alone, which say the same, go through the same events, print the same, and stay so.
use Rattle.std.proofs.Common.{◌≡◌, List, [], ◌∷◌, ◌++◌, refl, ap, subst, Bool, true, false, cond, Option, Some, None}
use Rattle.std.specs.Prelude.{is_none, ◌&&◌}
use Rattle.rc_ids.specs.declared.names.NodeId.TheVariants.{Coord}
use Rattle.rc_report.specs.declared.line.Line.{Line}
use Rattle.rc_report.specs.declared.fault.Wrong.{Wrong}
use Rattle.rc_report.specs.declared.fault.Wrong.TheVariants.{NotBegun, Up}
use Rattle.rc_runs.specs.declared.event.Event.{Event}
use Rattle.rc_runs.specs.declared.event.Event.TheVariants.{Begin, Take, Catch, Crash, CrashAt, Restart}
use Rattle.rc_protocol.specs.Messages.{or_else}
use Rattle.rc_protocol.specs.Nodes.{CoordNode, ShardNode}
use Rattle.rc_runs.specs.World.{World, Parties, Deed, after_begin, parties_after, actor, restart_lines, course_deed, at_deed, after_deed, step, printed}
use Rattle.rc_runs.specs.Refusals.{Happening, is_begun, wrong, is_event, after_event, run, lines_at, lines}
use Rattle.rc_claims.specs.Lives.{Pairwise}
use Rattle.rc_agreement.proofs.AlikeLogs.{CoordLike, ShardLike}
use Rattle.rc_agreement.proofs.AlikeDeeds.{PartiesLike, SameButNodes, DeedLike, BothIdle, BothByClient, BothByCoord, BothByShard, CoordsStop, ShardsStop, deed_like, up_same, wants_same, moved_like, along_like, lines_of_same, worn_same}

pub data WorldLike : World → World → Type 0 where
  SameButParties : (w : World) (p : Parties) → PartiesLike w.parties p → WorldLike w (record w { parties = p })

-- OF WORLDS
module _ (w : World) (cs : List CoordNode) (ss : List ShardNode) (hc : Pairwise CoordLike w.parties.coords cs) (hs : Pairwise ShardLike w.parties.shards ss) where
  abbrev z : World
  z = record w { parties = record w.parties { coords = cs; shards = ss } }

  wrong_same : (e : Event) → wrong w e ≡ wrong z e
  wrong_same (Take d t) = ap (λ (o : Option Wrong). or_else o (cond (is_begun w.parties t) None (Some (NotBegun t)))) (wants_same w.parties cs ss hc hs (Coord d))
  wrong_same (Catch node) = wants_same w.parties cs ss hc hs node
  wrong_same (Crash node) = wants_same w.parties cs ss hc hs node
  wrong_same (CrashAt node k pick) = wants_same w.parties cs ss hc hs node
  wrong_same (Restart node) = ap (λ (b : Bool). cond b (Some (Up node)) None) (up_same w.parties cs ss hc hs node)
  wrong_same _ = refl

  course_like : (h : Happening) → DeedLike (course_deed w h.0 h.1) (course_deed z h.0 h.1)
  course_like h = along_like h.1 _ _ (deed_like w.parties cs ss hc hs w.sent h.0)

  event_same : (h : Happening) → is_event w h ≡ is_event z h
  event_same h = let a = wrong_same h.0 in let b = worn_same _ _ (course_like h) in λ i. is_none (a i) && is_none (b i)

  printed_same : (h : Happening) → printed w h.0 h.1 ≡ printed z h.0 h.1
  printed_same h = ap (λ (ls : List Line). restart_lines h.0 ++ ls) (lines_of_same _ _ (course_like h))

  -- the parties that join are of the same nodes
  joined_like : (e : Event) (p q : Deed) → DeedLike p q → PartiesLike (parties_after (after_begin w.parties e) p) (parties_after (after_begin z.parties e) q)
  joined_like (Begin t) p q h = moved_like (after_begin w.parties (Begin t)) cs ss hc hs p q h
  joined_like _ p q h = moved_like w.parties cs ss hc hs p q h

  step_like : (h : Happening) → WorldLike (step w h.0 h.1) (step z h.0 h.1)
  step_like h = go (course_deed w h.0 h.1) (course_deed z h.0 h.1) (course_like h)
    where
      go : (p q : Deed) → DeedLike p q → WorldLike (after_deed (at_deed w h.0) (actor w.sent h.0) p) (after_deed (at_deed z h.0) (actor z.sent h.0) q)
      go _ _ BothIdle = SameButParties _ _ (joined_like h.0 _ _ BothIdle)
      go _ _ (BothByClient t a) = SameButParties _ _ (joined_like h.0 _ _ (BothByClient t a))
      go _ _ (BothByCoord d x y a k) = SameButParties _ _ (joined_like h.0 _ _ (BothByCoord d x y a k))
      go _ _ (BothByShard d s x y a k) = SameButParties _ _ (joined_like h.0 _ _ (BothByShard d s x y a k))
      go _ _ (CoordsStop d x y kept k) = SameButParties _ _ (joined_like h.0 _ _ (CoordsStop d x y kept k))
      go _ _ (ShardsStop d s x y kept k) = SameButParties _ _ (joined_like h.0 _ _ (ShardsStop d s x y kept k))

  after_like : (h : Happening) → WorldLike (after_event w h) (after_event z h)
  after_like h = subst (λ (b : Bool). WorldLike (after_event w h) (cond b (step z h.0 h.1) z)) (event_same h) (go (is_event w h))
    where
      go : (b : Bool) → WorldLike (cond b (step w h.0 h.1) w) (cond b (step z h.0 h.1) z)
      go true = step_like h
      go false = SameButParties w _ (SameButNodes w.parties cs ss hc hs)

  at_same : (h : Happening) → lines_at w h ≡ lines_at z h
  at_same h = let a = event_same h in let b = printed_same h in λ i. cond (a i) (b i) []

pub event_like : (w y : World) → WorldLike w y → (h : Happening) → WorldLike (after_event w h) (after_event y h)
event_like _ _ (SameButParties w _ (SameButNodes _ cs ss hc hs)) h = after_like w cs ss hc hs h

pub is_event_same : (w y : World) → WorldLike w y → (h : Happening) → is_event w h ≡ is_event y h
is_event_same _ _ (SameButParties w _ (SameButNodes _ cs ss hc hs)) h = event_same w cs ss hc hs h

pub lines_at_same : (w y : World) → WorldLike w y → (h : Happening) → lines_at w h ≡ lines_at y h
lines_at_same _ _ (SameButParties w _ (SameButNodes _ cs ss hc hs)) h = at_same w cs ss hc hs h

pub run_like : (hs : List Happening) (w y : World) → WorldLike w y → WorldLike (run w hs) (run y hs)
run_like [] w y l = l
run_like (h ∷ hs) w y l = run_like hs (after_event w h) (after_event y h) (event_like w y l h)

pub lines_same : (hs : List Happening) (w y : World) → WorldLike w y → lines w hs ≡ lines y hs
lines_same [] w y l = refl
lines_same (h ∷ hs) w y l =
    let a = lines_at_same w y l h in
    let b = lines_same hs (after_event w h) (after_event y h) (event_like w y l h) in
    λ i. a i ++ b i
