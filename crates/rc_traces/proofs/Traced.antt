-- Lines of a script and their traces.
use Rattle.std.proofs.Common.{◌≡◌, ℕ, zero, suc, ◌+◌, List, [], ◌∷◌, ◌++◌, refl, sym, ap, ◌∙◌, subst, Bool, true, false, cond, Option, Some, None, Result, Ok, Err, append_assoc, length, length-append, add-zero, zero-add, arith, true≢false}
use Rattle.std.specs.Prelude.{is_none, ◌&&◌, nat_lt, nat_le}
use Rattle.std.proofs.lemmas.List.{append-nil}
use Rattle.rc_ids.specs.Tables.{maybe}
use Rattle.rc_report.specs.declared.line.Line.{Line}
use Rattle.rc_report.specs.declared.line.Line.TheVariants.{Settled, Order as OrderLine}
use Rattle.rc_report.specs.declared.fault.Wrong.{Wrong}
use Rattle.rc_report.specs.declared.fault.Which.{Which}
use Rattle.rc_report.specs.declared.fault.Which.TheVariants.{Transactions, Events, TextBytes}
use Rattle.rc_script.specs.declared.command.Command.{Command}
use Rattle.rc_script.specs.declared.command.Command.TheVariants as commands
use Rattle.rc_ids.specs.Texts.{gone}
use Rattle.rc_runs.specs.declared.event.Event.{Event}
use Rattle.rc_runs.specs.declared.event.Event.TheVariants.{Begin, Read, Write, Commit, Cancel, Retry, Vanish, Take, Catch, Deliver, Lose, Crash, CrashAt, Restart}
use Rattle.rc_runs.specs.World.{World, course_deed, step, printed, order}
use Rattle.rc_runs.specs.Refusals.{Happening, wrong, limit, begins, most_transactions, most_events, worn_out, too_much_sent, is_event, after_event, run, lines_at, lines}
use Rattle.rc_runs.specs.Session.{Session, Halt, Misnamed, Limited, FarmFails, DiskChange, disk_change, with_change, with_world, with_text, text_bytes, most_text_bytes, prints, happens_with, happens_within_limits, happens, Happened}
use Rattle.rc_runs.specs.Script.{LineDone, line_done, then_line, then_trace, unless_halted, by_event, by_lines, idle, oldest, steps, settles, each, pending_lines, shown_lines, performs}
use Rattle.rc_traces.specs.Own.{own_lines, lines_unless_halted}

on_cond : {A : Type 0} (P : A → Type 0) (b : Bool) (x y : A) → (b ≡ true → P x) → (b ≡ false → P y) → P (cond b x y)
on_cond P true x y p q = p refl
on_cond P false x y p q = q refl

on_maybe : {A B : Type 0} (P : B → Type 0) (o : Option A) (n : B) (s : A → B) → (o ≡ None → P n) → ((a : A) → o ≡ Some a → P (s a)) → P (maybe o n s)
on_maybe P None n s p q = p refl
on_maybe P (Some a) n s p q = q a refl

-- what was done is the trace, and what was printed its lines and these
record Traced (z : Session) (done : LineDone) (own : List Line) : Type 0 where
  world : done.after.world ≡ run z.world done.trace
  prints : done.lines ≡ lines z.world done.trace ++ own

run-append : (w : World) (hs more : List Happening) → run w (hs ++ more) ≡ run (run w hs) more
run-append w [] more = refl
run-append w (h ∷ hs) more = run-append (after_event w h) hs more

lines-append : (w : World) (hs more : List Happening) → lines w (hs ++ more) ≡ lines w hs ++ lines (run w hs) more
lines-append w [] more = refl
lines-append w (h ∷ hs) more =
    let ih = lines-append (after_event w h) hs more in
    ap (λ (ls : List Line). lines_at w h ++ ls) ih ∙ sym (append_assoc (lines_at w h) (lines (after_event w h) hs) (lines (run (after_event w h) hs) more))

-- AN EVENT
both : (a b : Bool) → a ≡ true → b ≡ true → (a && b) ≡ true
both true b h k = k
both false b h k = absurd (true≢false (sym h))

not_worn : (a b : Bool) (o n : Option Which) → cond a (Some Transactions) (cond b (Some Events) (maybe o n Some)) ≡ None → is_none o ≡ true
not_worn true b o n h = cc
not_worn false true o n h = cc
not_worn false false None n h = refl
not_worn false false (Some w) n h = cc

-- what is not refused is an event
happens_so : (w : World) (h : Happening) → wrong w h.0 ≡ None → limit w h.0 h.1 ≡ None → is_event w h ≡ true
happens_so w h name room =
    both (is_none (wrong w h.0)) (is_none (worn_out (course_deed w h.0 h.1))) (ap is_none name)
    (not_worn (begins h.0 && nat_le most_transactions (length w.parties.clients)) (nat_le most_events w.events) (worn_out (course_deed w h.0 h.1)) (too_much_sent w h.0 (course_deed w h.0 h.1)) room)

abbrev EventTraced : Session → Event → Happened → Type 0
EventTraced z e done = Traced z (line_done z ((e, (disk_change z e).course) ∷ []) done) []

event_traced : (z : Session) (e : Event) → Traced z (by_event z e) []
event_traced z e =
    on_maybe (EventTraced z e) (wrong z.world e) _ _
    (λ name. on_maybe (EventTraced z e) (limit z.world e (disk_change z e).course) _ _
    (λ room. on_maybe (EventTraced z e) (with_change z (disk_change z e)) _ _ (λ _. refused FarmFails)
    (λ y _. on_cond (EventTraced z e) (nat_lt most_text_bytes (y.text + text_bytes (printed z.world e (disk_change z e).course))) _ _ (λ _. refused (Limited TextBytes))
    (λ _. went y (happens_so z.world (e, (disk_change z e).course) name room))))
    (λ which _. refused (Limited which)))
    (λ name _. refused (Misnamed name))
  where
    refused : (halt : Halt) → EventTraced z e (Err halt)
    refused halt = record { world = refl; prints = refl }

    went : (y : Session) → is_event z.world (e, (disk_change z e).course) ≡ true
        → EventTraced z e (Ok (with_text (with_world y (step z.world e (disk_change z e).course)) (y.text + text_bytes (printed z.world e (disk_change z e).course)), printed z.world e (disk_change z e).course))
    went y ok = record {
      world = sym (ap (λ (b : Bool). cond b (step z.world e (disk_change z e).course) z.world) ok);
      prints =
          sym (ap (λ (b : Bool). (cond b (printed z.world e (disk_change z e).course) [] ++ []) ++ []) ok
          ∙ append-nil (printed z.world e (disk_change z e).course ++ []) ∙ append-nil (printed z.world e (disk_change z e).course));
    }

event_counts : (z : Session) (e : Event) → (by_event z e).halt ≡ None → length (by_event z e).trace ≡ 1
event_counts z e = go (happens z e)
  where
    go : (done : Happened) → (line_done z ((e, (disk_change z e).course) ∷ []) done).halt ≡ None → length (line_done z ((e, (disk_change z e).course) ∷ []) done).trace ≡ 1
    go (Ok x) h = refl
    go (Err halt) h = cc

-- OWN LINES
idle_traced : (z : Session) → Traced z (idle z) []
idle_traced z = record { world = refl; prints = refl }

own_traced : (z : Session) (ls : List Line) → Traced z (by_lines z ls) (lines_unless_halted (by_lines z ls) ls)
own_traced z ls =
    on_cond (λ (done : Happened). Traced z (line_done z [] done) (lines_unless_halted (line_done z [] done) ls)) (nat_lt most_text_bytes (z.text + text_bytes ls)) _ _
    (λ _. record { world = refl; prints = refl }) (λ _. record { world = refl; prints = refl })

-- ONE AFTER ANOTHER
then_traced : (z : Session) (done next : LineDone) (own : List Line) → Traced z done [] → Traced done.after next own → Traced z (then_trace done.trace (then_line done.lines next)) own
then_traced z done next own t n = record {
  world = n.world ∙ ap (λ (w : World). run w next.trace) t.world ∙ sym (run-append z.world done.trace next.trace);
  prints =
      ap (λ (ls : List Line). done.lines ++ ls) (n.prints ∙ ap (λ (w : World). lines w next.trace ++ own) t.world)
      ∙ ap (λ (ls : List Line). ls ++ (lines (run z.world done.trace) next.trace ++ own)) (t.prints ∙ append-nil (lines z.world done.trace))
      ∙ sym (ap (λ (ls : List Line). ls ++ own) (lines-append z.world done.trace next.trace) ∙ append_assoc (lines z.world done.trace) (lines (run z.world done.trace) next.trace) own);
}

next_traced : (z : Session) (done : LineDone) (next : Session → LineDone) → Traced z done [] → Traced done.after (next done.after) [] → Traced z (unless_halted done next) []
next_traced z done next t n = on_maybe (λ d. Traced z d []) done.halt _ _ (λ _. then_traced z done (next done.after) [] t n) (λ h _. t)

steps_traced : (more : ℕ) (z : Session) → Traced z (steps more z) []
unfolding steps
steps_traced zero z = idle_traced z
steps_traced (suc more) z =
    on_maybe (λ d. Traced z d []) (oldest z.world) _ _ (λ _. idle_traced z)
    (λ n _. next_traced z (by_event z (Deliver n)) (steps more) (event_traced z (Deliver n)) (steps_traced more (by_event z (Deliver n)).after))

each_traced : (event : ℕ → Event) (ns : List ℕ) (z : Session) → Traced z (each event ns z) []
each_traced event [] z = idle_traced z
each_traced event (n ∷ ns) z = next_traced z (by_event z (event n)) (each event ns) (event_traced z (event n)) (each_traced event ns (by_event z (event n)).after)

-- what a settle prints that began with so many deliveries
abbrev counted : ℕ → LineDone → List Line
counted count done = lines_unless_halted done (Settled (count + length done.trace) ∷ [])

ends_traced : (count : ℕ) (z : Session) → Traced z (by_lines z (Settled count ∷ [])) (counted count (by_lines z (Settled count ∷ [])))
ends_traced count z =
    on_cond (λ (done : Happened). Traced z (line_done z [] done) (counted count (line_done z [] done))) (nat_lt most_text_bytes (z.text + text_bytes (Settled count ∷ []))) _ _
    (λ _. record { world = refl; prints = refl }) (λ _. record { world = refl; prints = ap (λ (n : ℕ). Settled n ∷ []) (sym (add-zero count)) })

one_more : (count : ℕ) (trace next : List Happening) → length trace ≡ 1 → count + length (trace ++ next) ≡ (count + 1) + length next
one_more count trace next one = omega (arith, length-append trace next)

-- one delivery, and the rest of the settle
settles_on : (count : ℕ) (z : Session) (done : LineDone) (next : Session → LineDone) → Traced z done [] → (done.halt ≡ None → length done.trace ≡ 1)
    → Traced done.after (next done.after) (counted (count + 1) (next done.after)) → Traced z (unless_halted done next) (counted count (unless_halted done next))
settles_on count z done next t one rest =
    on_maybe (λ d. Traced z d (counted count d)) done.halt _ _
    (λ none. subst (λ (n : ℕ). Traced z (then_trace done.trace (then_line done.lines (next done.after))) (lines_unless_halted (next done.after) (Settled n ∷ [])))
    (sym (one_more count done.trace (next done.after).trace (one none)))
    (then_traced z done (next done.after) (counted (count + 1) (next done.after)) t rest))
    (λ h is. subst (λ (o : Option Halt). Traced z done (maybe o (Settled (count + length done.trace) ∷ []) (λ halt. []))) (sym is) t)

settles_traced : (fuel count : ℕ) (z : Session) → Traced z (settles fuel count z) (counted count (settles fuel count z))
unfolding settles
settles_traced zero count z =
    on_maybe (λ d. Traced z d (counted count d)) (oldest z.world) (by_lines z (Settled count ∷ [])) (λ n. record { after = z; trace = []; lines = []; halt = Some (Limited Events) })
    (λ _. ends_traced count z) (λ n _. record { world = refl; prints = refl })
settles_traced (suc fuel) count z =
    on_maybe (λ d. Traced z d (counted count d)) (oldest z.world) _ _ (λ _. ends_traced count z)
    (λ n _. settles_on count z (by_event z (Deliver n)) (settles fuel (count + 1)) (event_traced z (Deliver n)) (event_counts z (Deliver n)) (settles_traced fuel (count + 1) (by_event z (Deliver n)).after))

-- A LINE
traced : (z : Session) (c : Command) → Traced z (performs z c) (own_lines z c (performs z c))
traced z (commands.World dcs shards weights) = idle_traced z
traced z (commands.Split k) = idle_traced z
traced z (commands.Begin t) = event_traced z (Begin t)
traced z (commands.Read t k) = event_traced z (Read t k)
traced z (commands.Write t k value) = event_traced z (Write t k value)
traced z (commands.Delete t k) = event_traced z (Write t k gone)
traced z (commands.Commit t) = event_traced z (Commit t)
traced z (commands.Cancel t k) = event_traced z (Cancel t k)
traced z (commands.Retry t) = event_traced z (Retry t)
traced z (commands.Vanish t) = event_traced z (Vanish t)
traced z (commands.Step n) = steps_traced n z
traced z commands.Settle =
    let done : LineDone = settles most_events 0 z in
    subst (λ (n : ℕ). Traced z done (lines_unless_halted done (Settled n ∷ []))) (zero-add (length done.trace)) (settles_traced most_events 0 z)
traced z (commands.Deliver ns) = each_traced Deliver ns z
traced z (commands.Lose ns) = each_traced Lose ns z
traced z (commands.Crash node) = event_traced z (Crash node)
traced z (commands.CrashAt node k pick) = event_traced z (CrashAt node k pick)
traced z (commands.Restart node) = event_traced z (Restart node)
traced z (commands.Take d t) = event_traced z (Take d t)
traced z (commands.Catch node) = event_traced z (Catch node)
traced z commands.Pending = own_traced z (pending_lines z.world)
traced z (commands.Show d) = own_traced z (shown_lines z.world.parties d)
traced z commands.Order = own_traced z (OrderLine (order z.world) ∷ [])

pub world_traced : (z : Session) (c : Command) → (performs z c).after.world ≡ run z.world (performs z c).trace
world_traced z c = (traced z c).world

pub lines_traced : (z : Session) (c : Command) → (performs z c).lines ≡ lines z.world (performs z c).trace ++ own_lines z c (performs z c)
lines_traced z c = (traced z c).prints
