-- A settle delivers what is pending until nothing is, unless a limit is met: over devices that take what the deliveries append.
use Rattle.std.proofs.Common.{◌≡◌, ℕ, zero, suc, ◌+◌, List, [], ◌∷◌, ◌++◌, refl, sym, ap, ◌∙◌, subst, arith, Bool, true, false, Option, Some, None, ◌⊎◌, inl, inr, ⊎_elim}
use Rattle.std.specs.Prelude.{Ok, Err, ◌≤◌, length, nat_lt, if◌then◌else◌}
use Rattle.std.proofs.lemmas.Bool.{le-ltb}
use Rattle.std.proofs.lemmas.List.Sums.{sum_by-append}
use Rattle.std.proofs.lemmas.List.{append_assoc}
use Rattle.rc_ids.specs.Tables.{maybe}
use Rattle.rc_msg.specs.declared.msg.Envelope.{Envelope}
use Rattle.rc_report.specs.declared.fault.Wrong.{Wrong}
use Rattle.rc_report.specs.declared.fault.Which.{Which}
use Rattle.rc_report.specs.declared.fault.Which.TheVariants.{Events, TextBytes}
use Rattle.rc_report.specs.declared.line.Line.{Line}
use Rattle.rc_report.specs.declared.line.Line.TheVariants.{Settled}
use Rattle.rc_report.specs.Lines.{line_text}
use Rattle.rc_runs.specs.declared.event.Event.{Event}
use Rattle.rc_runs.specs.declared.event.Event.TheVariants.{Deliver}
use Rattle.rc_runs.specs.World.{Parties, Course, Goes, parties_after, envelopes, sends_of, lines_of, bytes_of, step, printed}
use Rattle.rc_runs.specs.Refusals.{Happening, wrong, limit, worn_out, most_events, most_messages, most_message_bytes}
use Rattle.rc_runs.specs.Session.{Session, Limited, Misnamed, FarmFails, Happened, disk_change, with_change, with_world, with_text, prints, happens, happens_within_limits, most_text_bytes, text_bytes}
use Rattle.rc_runs.specs.Script.{LineDone, oldest, settles, by_lines, by_event, line_done, then_line, then_trace, unless_halted}
use Rattle.rc_calm_batches.proofs.Passes.{Drains, Empty, Next, deed_of}
use Rattle.rc_calm.proofs.Queue.{Queued, number, named, prints_is, parties_is, posts_are, delivered, delivery_limit}
use Rattle.rc_calm_batches.proofs.ReadDrains.{length_both}
use Rattle.rc_calm_batches.proofs.Weights.{bytes_cons, bytes_both}

-- AN EVENT whose name is right and whose append goes well
module _ (z : Session) (e : Event) (y : Session) (right : wrong z.world e ≡ None) (course : (disk_change z e).course ≡ Goes) (change : with_change z (disk_change z e) ≡ Some y) where
  abbrev pub stepped : Session
  stepped = with_text (with_world y (step z.world e Goes)) (y.text + text_bytes (printed z.world e Goes))

  happens_is : happens z e ≡ maybe (limit z.world e Goes) (prints (with_world y (step z.world e Goes)) (printed z.world e Goes)) (λ which. Err (Limited which))
  happens_is =
      ap (λ (o : Option Wrong). maybe o (happens_within_limits z e (disk_change z e)) (λ name. Err (Misnamed name))) right
      ∙ (ap (λ (k : Course). maybe (limit z.world e k) (maybe (with_change z (disk_change z e)) (Err FarmFails) (λ y. prints (with_world y (step z.world e k)) (printed z.world e k))) (λ which. Err (Limited which))) course
      ∙ ap (λ (o : Option Session). maybe (limit z.world e Goes) (maybe o (Err FarmFails) (λ y. prints (with_world y (step z.world e Goes)) (printed z.world e Goes))) (λ which. Err (Limited which))) change)

  -- a limit is met where there is one to meet, or it is done
  pub runs : ((which : Which) × (happens z e ≡ Err (Limited which)) × (limit z.world e Goes ≡ None → y.text + text_bytes (printed z.world e Goes) ≤ most_text_bytes → ⊥)) ⊎ ((limit z.world e Goes ≡ None) × (happens z e ≡ Ok (stepped, printed z.world e Goes)))
  runs = go (limit z.world e Goes) refl happens_is (nat_lt most_text_bytes (y.text + text_bytes (printed z.world e Goes))) refl
    where
      go : (o : Option Which) → limit z.world e Goes ≡ o → happens z e ≡ maybe o (prints (with_world y (step z.world e Goes)) (printed z.world e Goes)) (λ which. Err (Limited which))
          → (v : Bool) → nat_lt most_text_bytes (y.text + text_bytes (printed z.world e Goes)) ≡ v
          → ((which : Which) × (happens z e ≡ Err (Limited which)) × (limit z.world e Goes ≡ None → y.text + text_bytes (printed z.world e Goes) ≤ most_text_bytes → ⊥)) ⊎ ((limit z.world e Goes ≡ None) × (happens z e ≡ Ok (stepped, printed z.world e Goes)))
      go (Some which) l h v k = inl (which, h, λ n t. cc)
      go None l h true k = inl (TextBytes, h ∙ rw k, λ n t. let f : nat_lt most_text_bytes (y.text + text_bytes (printed z.world e Goes)) ≡ false = le-ltb most_text_bytes (y.text + text_bytes (printed z.world e Goes)) t in cc)
      go None l h false k = inr (l, h ∙ rw k)

-- WHAT A SETTLE NEEDS AND TAKES
-- there is room for what is to be delivered and printed
pub record DrainRoom (z : Session) (q ds : List Envelope) (ls : List Line) : Type 0 where
  pub events : z.world.events + length ds ≤ most_events
  pub messages : length z.world.sent + length ds ≤ most_messages + length q
  pub bytes : z.world.bytes + bytes_of ds ≤ most_message_bytes + bytes_of q
  pub text : z.text + text_bytes ls ≤ most_text_bytes

-- it was delivered and printed
pub record DrainSpent (z y : Session) (q ds : List Envelope) (ls : List Line) : Type 0 where
  pub events : y.world.events ≡ z.world.events + length ds
  pub messages : length y.world.sent + length q ≡ length z.world.sent + length ds
  pub bytes : y.world.bytes + bytes_of q ≡ z.world.bytes + bytes_of ds
  pub text : y.text ≡ z.text + text_bytes ls

-- one event sends and prints
pub record Advanced (z y : Session) (new : List Envelope) (now : List Line) : Type 0 where
  pub events : y.world.events ≡ z.world.events + 1
  pub sent : y.world.sent ≡ z.world.sent ++ new
  pub bytes : y.world.bytes ≡ z.world.bytes + bytes_of new
  pub text : y.text ≡ z.text + text_bytes now

pub text_both : (a b : List Line) → text_bytes (a ++ b) ≡ text_bytes a + text_bytes b
text_both a b = sum_by-append (λ (x : Line). length (line_text x)) a b

module _ (z y : Session) (e : Envelope) (q new ds : List Envelope) (now ls : List Line) (h : Advanced z y new now) where
  sent_is : length y.world.sent ≡ length z.world.sent + length new
  sent_is = ap length h.sent ∙ length_both z.world.sent new

  pub room_next : DrainRoom z (e ∷ q) (e ∷ ds) (now ++ ls) → DrainRoom y (q ++ new) ds ls
  room_next r =
      let a = r.events in let m = r.messages in let b = r.bytes in let x = r.text in
      let ev = h.events in let s = sent_is in let by = h.bytes in let tx = h.text in
      let l = length_both q new in let c1 = bytes_cons e ds in let c2 = bytes_cons e q in let c3 = bytes_both q new in let t2 = text_both now ls in
      record { events = omega (arith, a, ev); messages = omega (arith, m, s, l); bytes = omega (arith, b, by, c1, c2, c3); text = omega (arith, x, tx, t2) }

  pub spent_next : (w : Session) → DrainSpent y w (q ++ new) ds ls → DrainSpent z w (e ∷ q) (e ∷ ds) (now ++ ls)
  spent_next w r =
      let a = r.events in let m = r.messages in let b = r.bytes in let x = r.text in
      let ev = h.events in let s = sent_is in let by = h.bytes in let tx = h.text in
      let l = length_both q new in let c1 = bytes_cons e ds in let c2 = bytes_cons e q in let c3 = bytes_both q new in let t2 = text_both now ls in
      record { events = omega (arith, a, ev); messages = omega (arith, m, s, l); bytes = omega (arith, b, by, c1, c2, c3); text = omega (arith, x, tx, t2) }

-- all that is pending is delivered
pub drains_all : (p : Parties) (q : List Envelope) (r : Parties) (ls : List Line) (ds : List Envelope) → Drains p q r ls ds → (length q ≤ length ds) × (bytes_of q ≤ bytes_of ds)
drains_all p q r ls ds (Empty p') = (omega arith, omega arith)
drains_all p q r ls ds (Next p' e q' r' ls' ds' w rest) =
    let new = envelopes e.to (sends_of (deed_of p' e)) in
    let more = drains_all (parties_after p' (deed_of p' e)) (q' ++ new) r' ls' ds' rest in
    let a = more.0 in let b = more.1 in let l = length_both q' new in let c1 = bytes_cons e q' in let c2 = bytes_cons e ds' in let c3 = bytes_both q' new in
    (omega (arith, a, l), omega (arith, b, c1, c2, c3))

-- A SETTLE
pub record SettledAs (D : Session → Parties → Type 0) (z : Session) (q ds : List Envelope) (r : Parties) (lines : List Line) (d : LineDone) : Type 0 where
  pub halt : d.halt ≡ None
  pub prints : d.lines ≡ lines
  pub parties : d.after.world.parties ≡ r
  pub queue : Queued d.after.world []
  pub devices : D d.after r
  pub spent : DrainSpent z d.after q ds lines

pub record MeetsLimit (z : Session) (fuel : ℕ) (q ds : List Envelope) (lines : List Line) (d : LineDone) : Type 0 where
  pub which : Which
  pub halt : d.halt ≡ Some (Limited which)
  pub room : length ds ≤ fuel → DrainRoom z q ds lines → ⊥

-- the devices of the session take what the next delivery appends
pub record Takes (D : Session → Parties → Type 0) (z : Session) (e : Event) (r : Parties) : Type 0 where
  pub session : Session
  pub course : (disk_change z e).course ≡ Goes
  pub change : with_change z (disk_change z e) ≡ Some session
  pub text : session.text ≡ z.text
  pub kept : (text : ℕ) → D (with_text (with_world session (step z.world e Goes)) text) r

settle_zero : (count : ℕ) (z : Session) → settles zero count z ≡ maybe (oldest z.world) (by_lines z (Settled count ∷ [])) (λ n. record { after = z; trace = []; lines = []; halt = Some (Limited Events) })
unfolding settles
settle_zero count z = refl

settle_suc : (fuel count : ℕ) (z : Session) → settles (suc fuel) count z ≡ maybe (oldest z.world) (by_lines z (Settled count ∷ [])) (λ n. unless_halted (by_event z (Deliver n)) (settles fuel (count + 1)))
unfolding settles
settle_suc fuel count z = refl

oldest_none : (z : Session) → Queued z.world [] → oldest z.world ≡ None
oldest_none z h = let p = h.pending in rw p

oldest_some : (z : Session) (e : Envelope) (q : List Envelope) (h : Queued z.world (e ∷ q)) → oldest z.world ≡ Some (number z.world e q h)
oldest_some z e q h = let p = h.pending in rw p

-- nothing is pending: the count is printed
settle_ends : (fuel count : ℕ) (z : Session) → Queued z.world [] → settles fuel count z ≡ by_lines z (Settled count ∷ [])
settle_ends zero count z h = let o = oldest_none z h in settle_zero count z ∙ rw o
settle_ends (suc fuel) count z h = let o = oldest_none z h in settle_suc fuel count z ∙ rw o

-- something is
settle_limit : (count : ℕ) (z : Session) (e : Envelope) (q : List Envelope) (h : Queued z.world (e ∷ q)) → settles zero count z ≡ record { after = z; trace = []; lines = []; halt = Some (Limited Events) }
settle_limit count z e q h = let o = oldest_some z e q h in settle_zero count z ∙ rw o

settle_goes : (fuel count : ℕ) (z : Session) (e : Envelope) (q : List Envelope) (h : Queued z.world (e ∷ q)) → settles (suc fuel) count z ≡ unless_halted (by_event z (Deliver (number z.world e q h))) (settles fuel (count + 1))
settle_goes fuel count z e q h = let o = oldest_some z e q h in settle_suc fuel count z ∙ rw o

module _ (D : Session → Parties → Type 0)
    (same_text : (z : Session) (r : Parties) (text : ℕ) → D z r → D (with_text z text) r)
    (takes : (z : Session) (e : Envelope) (q : List Envelope) (r : Parties) (ls : List Line) (ds : List Envelope) (h : Queued z.world (e ∷ q)) → D z r → Drains z.world.parties (e ∷ q) r ls ds → Takes D z (Deliver (number z.world e q h)) r) where
  abbrev Answer : Session → ℕ → List Envelope → List Envelope → Parties → List Line → LineDone → Type 0
  Answer z fuel q ds r ls d = MeetsLimit z fuel q ds ls d ⊎ SettledAs D z q ds r ls d

  last_line : (z : Session) (fuel count : ℕ) → Queued z.world [] → D z z.world.parties → Answer z fuel [] [] z.world.parties (Settled count ∷ []) (by_lines z (Settled count ∷ []))
  last_line z fuel count h d = go (nat_lt most_text_bytes (z.text + text_bytes (Settled count ∷ []))) refl
    where
      go : (v : Bool) → nat_lt most_text_bytes (z.text + text_bytes (Settled count ∷ [])) ≡ v
          → Answer z fuel [] [] z.world.parties (Settled count ∷ []) (line_done z [] (if v then Err (Limited TextBytes) else Ok (with_text z (z.text + text_bytes (Settled count ∷ [])), Settled count ∷ [])))
      go true k = inl (record { which = TextBytes; halt = refl; room = λ le r. let f : nat_lt most_text_bytes (z.text + text_bytes (Settled count ∷ [])) ≡ false = le-ltb most_text_bytes (z.text + text_bytes (Settled count ∷ [])) r.text in cc })
      go false k = inr (record {
        halt = refl;
        prints = refl;
        parties = refl;
        queue = h;
        devices = same_text z z.world.parties (z.text + text_bytes (Settled count ∷ [])) d;
        spent = record { events = omega arith; messages = omega arith; bytes = omega arith; text = refl };
      })

  -- one event before
  before : (z y : Session) (fuel : ℕ) (e : Envelope) (q new ds : List Envelope) (r : Parties) (now ls : List Line) (tr : List Happening) (d : LineDone) → Advanced z y new now
      → Answer y fuel (q ++ new) ds r ls d → Answer z (suc fuel) (e ∷ q) (e ∷ ds) r (now ++ ls) (then_trace tr (then_line now d))
  before z y fuel e q new ds r now ls tr d h (inl a) = inl (record { which = a.which; halt = a.halt; room = λ le m. a.room (omega (arith, le)) (room_next z y e q new ds now ls h m) })
  before z y fuel e q new ds r now ls tr d h (inr a) =
      inr (record { halt = a.halt; prints = ap (λ (x : List Line). now ++ x) a.prints; parties = a.parties; queue = a.queue; devices = a.devices; spent = spent_next z y e q new ds now ls h d.after a.spent })

  module _ (z : Session) (e : Envelope) (q : List Envelope) (r : Parties) (ls : List Line) (ds : List Envelope) (fuel count : ℕ) (h : Queued z.world (e ∷ q)) (d : D z r)
      (worn : worn_out (deed_of z.world.parties e) ≡ None)
      (rest : Drains (parties_after z.world.parties (deed_of z.world.parties e)) (q ++ envelopes e.to (sends_of (deed_of z.world.parties e))) r ls ds) where
    abbrev now : List Line
    now = lines_of (deed_of z.world.parties e)

    abbrev new : List Envelope
    new = envelopes e.to (sends_of (deed_of z.world.parties e))

    abbrev ev : Event
    ev = Deliver (number z.world e q h)

    abbrev Ends : LineDone → Type 0
    Ends x = Answer z (suc fuel) (e ∷ q) (e ∷ ds) r ((now ++ ls) ++ Settled (count + length (e ∷ ds)) ∷ []) x

    abbrev course : Course
    course = (disk_change z ev).course

    takes_it : Takes D z ev r
    takes_it = takes z e q r (now ++ ls) (e ∷ ds) h d (Next z.world.parties e q r ls ds worn rest)

    abbrev after : Session
    after = stepped z ev takes_it.session (named z.world e q h) takes_it.course takes_it.change

    no_limit_here : DrainRoom z (e ∷ q) (e ∷ ds) ((now ++ ls) ++ Settled (count + length (e ∷ ds)) ∷ []) → limit z.world ev Goes ≡ None
    no_limit_here m =
        let a = drains_all _ _ _ _ _ rest in let a0 = a.0 in let a1 = a.1 in
        let l = length_both q new in let b = bytes_both q new in
        let c1 = bytes_cons e ds in let c2 = bytes_cons e q in
        let ev1 = m.events in let ms = m.messages in let bs = m.bytes in
        delivery_limit z.world e q h (omega (arith, ev1)) worn (omega (arith, ms, a0, l)) (omega (arith, bs, a1, b, c1, c2))

    text_here : DrainRoom z (e ∷ q) (e ∷ ds) ((now ++ ls) ++ Settled (count + length (e ∷ ds)) ∷ []) → takes_it.session.text + text_bytes (printed z.world ev Goes) ≤ most_text_bytes
    text_here m =
        let t = m.text in let k = takes_it.text in
        let p : text_bytes (printed z.world ev Goes) ≡ text_bytes now = ap text_bytes (prints_is z.world e q h) in
        let b1 = text_both (now ++ ls) (Settled (count + length (e ∷ ds)) ∷ []) in let b2 = text_both now ls in
        omega (arith, t, k, p, b1, b2)

    limited : ((which : Which) × (happens z ev ≡ Err (Limited which)) × (limit z.world ev Goes ≡ None → takes_it.session.text + text_bytes (printed z.world ev Goes) ≤ most_text_bytes → ⊥))
        → Ends (unless_halted (by_event z ev) (settles fuel (count + 1)))
    limited l =
        subst (λ (x : Happened). Ends (unless_halted (line_done z ((ev, course) ∷ []) x) (settles fuel (count + 1)))) (sym l.1)
        (inl (record { which = l.0; halt = refl; room = λ le m. l.2 (no_limit_here m) (text_here m) }))

    advanced : Advanced z after new (printed z.world ev Goes)
    advanced = record {
      events = refl;
      sent = ap (λ (x : List Envelope). z.world.sent ++ x) (posts_are z.world e q h);
      bytes = ap (λ (x : List Envelope). z.world.bytes + bytes_of x) (posts_are z.world e q h);
      text = ap (λ (x : ℕ). x + text_bytes (printed z.world ev Goes)) takes_it.text;
    }

    goes : ((y : Session) → y.world.parties ≡ parties_after z.world.parties (deed_of z.world.parties e) → Queued y.world (q ++ new) → D y r
        → Answer y fuel (q ++ new) ds r (ls ++ Settled (count + 1 + length ds) ∷ []) (settles fuel (count + 1) y))
        → happens z ev ≡ Ok (after, printed z.world ev Goes) → Ends (unless_halted (by_event z ev) (settles fuel (count + 1)))
    goes more o =
        let k : count + 1 + length ds ≡ count + suc (length ds) = omega arith in
        let rec = more after (parties_is z.world e q h) (delivered z.world e q h) (takes_it.kept (takes_it.session.text + text_bytes (printed z.world ev Goes))) in
        let all = before z after fuel e q new ds r (printed z.world ev Goes) (ls ++ Settled (count + 1 + length ds) ∷ []) ((ev, course) ∷ []) (settles fuel (count + 1) after) advanced rec in
        let names : printed z.world ev Goes ++ (ls ++ Settled (count + 1 + length ds) ∷ []) ≡ (now ++ ls) ++ Settled (count + suc (length ds)) ∷ [] =
        ap (λ (x : List Line). x ++ (ls ++ Settled (count + 1 + length ds) ∷ [])) (prints_is z.world e q h)
        ∙ (sym (append_assoc now ls (Settled (count + 1 + length ds) ∷ [])) ∙ ap (λ (c : ℕ). (now ++ ls) ++ Settled c ∷ []) k) in
        subst (λ (x : Happened). Ends (unless_halted (line_done z ((ev, course) ∷ []) x) (settles fuel (count + 1)))) (sym o)
        (subst (λ (x : List Line). Answer z (suc fuel) (e ∷ q) (e ∷ ds) r x (then_trace ((ev, course) ∷ []) (then_line (printed z.world ev Goes) (settles fuel (count + 1) after)))) names all)

    one_step : ((y : Session) → y.world.parties ≡ parties_after z.world.parties (deed_of z.world.parties e) → Queued y.world (q ++ new) → D y r
        → Answer y fuel (q ++ new) ds r (ls ++ Settled (count + 1 + length ds) ∷ []) (settles fuel (count + 1) y))
        → Ends (settles (suc fuel) count z)
    one_step more =
        subst Ends (sym (settle_goes fuel count z e q h))
        (⊎_elim limited (λ o. goes more o.1) (runs z ev takes_it.session (named z.world e q h) takes_it.course takes_it.change))

  -- from these parties on
  abbrev Step : Session → Envelope → List Envelope → Parties → List Line → List Envelope → ℕ → ℕ → Parties → Type 0
  Step z e q r ls ds fuel count p =
      worn_out (deed_of p e) ≡ None → Drains (parties_after p (deed_of p e)) (q ++ envelopes e.to (sends_of (deed_of p e))) r ls ds
      → ((y : Session) → y.world.parties ≡ parties_after p (deed_of p e) → Queued y.world (q ++ envelopes e.to (sends_of (deed_of p e))) → D y r
      → Answer y fuel (q ++ envelopes e.to (sends_of (deed_of p e))) ds r (ls ++ Settled (count + 1 + length ds) ∷ []) (settles fuel (count + 1) y))
      → Answer z (suc fuel) (e ∷ q) (e ∷ ds) r ((lines_of (deed_of p e) ++ ls) ++ Settled (count + length (e ∷ ds)) ∷ []) (settles (suc fuel) count z)

  pub settles_drains : (p : Parties) (q : List Envelope) (r : Parties) (ls : List Line) (ds : List Envelope) → Drains p q r ls ds → (fuel count : ℕ) (z : Session) → z.world.parties ≡ p → Queued z.world q → D z r
      → Answer z fuel q ds r (ls ++ Settled (count + length ds) ∷ []) (settles fuel count z)
  settles_drains p q r ls ds (Empty p') fuel count z is h d =
      let k : count + 0 ≡ count = omega arith in
      subst (λ (x : LineDone). Answer z fuel [] [] p' (Settled (count + 0) ∷ []) x) (sym (settle_ends fuel count z h))
      (subst (λ (c : ℕ). Answer z fuel [] [] p' (Settled c ∷ []) (by_lines z (Settled count ∷ []))) (sym k)
      (subst (λ (w : Parties). Answer z fuel [] [] w (Settled count ∷ []) (by_lines z (Settled count ∷ []))) is (last_line z fuel count h (subst (D z) (sym is) d))))
  settles_drains p q r ls ds (Next p' e q' r' ls' ds' worn rest) zero count z is h d =
      subst (λ (x : LineDone). Answer z zero (e ∷ q') (e ∷ ds') r' ((lines_of (deed_of p' e) ++ ls') ++ Settled (count + length (e ∷ ds')) ∷ []) x) (sym (settle_limit count z e q' h))
      (inl (record { which = Events; halt = refl; room = λ le m. absurd (omega (arith, le)) }))
  settles_drains p q r ls ds (Next p' e q' r' ls' ds' worn rest) (suc fuel) count z is h d =
      subst (Step z e q' r' ls' ds' fuel count) is (λ w s more. one_step z e q' r' ls' ds' fuel count h d w s more) worn rest
      (λ y there queue fit. settles_drains (parties_after p' (deed_of p' e)) (q' ++ envelopes e.to (sends_of (deed_of p' e))) r' ls' ds' rest fuel (count + 1) y there queue fit)
