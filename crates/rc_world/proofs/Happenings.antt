-- An event on a session, from what parties and disks did in it.
use Rattle.std.proofs.Common.{◌≡◌, Bool, true, false, List, length, Option, None, Some, refl, sym, ◌∙◌, ap}
use Rattle.std.specs.Prelude.{Err, nat_le, if◌then◌else◌, ◌&&◌}
use Rattle.rc_ids.specs.Tables.{maybe}
use Rattle.rc_report.specs.declared.line.Line.{Line}
use Rattle.rc_report.specs.declared.fault.Which.{Which}
use Rattle.rc_report.specs.declared.fault.Which.TheVariants.{Transactions, Events}
use Rattle.rc_report.specs.declared.fault.Wrong.{Wrong}
use Rattle.rc_runs.specs.declared.event.Event.{Event}
use Rattle.rc_protocol.specs.Messages.{Posts, or_else}
use Rattle.rc_runs.specs.World.{World, Parties, Deed, course_deed, sends_of, step, printed}
use Rattle.rc_runs.specs.Refusals.{wrong, limit, worn_out, too_much_sent, begins, most_transactions, most_events}
use Rattle.rc_runs.specs.Devices.{Device}
use Rattle.rc_runs.specs.Session.{Session, Misnamed, Limited, FarmFails, DiskChange, disk_change, with_change, with_world, happens, happens_with, happens_within_limits, prints}
use Rattle.rc_world.specs.Steps.{EventActed, Stepped, with_disks, early_limit, sent_limit, world_after, session_after}

-- LIMITS
past_early : (a b : Bool) (rest : Option Which) → (if a then Some Transactions else (if b then Some Events else None)) ≡ None → (if a then Some Transactions else (if b then Some Events else rest)) ≡ rest
past_early true b rest is = cc
past_early false true rest is = cc
past_early false false rest is = refl

at_early : (a b : Bool) (rest : Option Which) (which : Which) → (if a then Some Transactions else (if b then Some Events else None)) ≡ Some which → (if a then Some Transactions else (if b then Some Events else rest)) ≡ Some which
at_early true b rest which is = is
at_early false true rest which is = is
at_early false false rest which is = cc

module _ (z : Session) (e : Event) where
  abbrev w : World
  w = z.world

  abbrev change : DiskChange
  change = disk_change z e

  abbrev done : Deed
  done = course_deed w e change.course

  late : early_limit w e ≡ None → limit w e change.course ≡ or_else (worn_out done) (too_much_sent w e done)
  late early = past_early (begins e && nat_le most_transactions (length w.parties.clients)) (nat_le most_events w.events) (or_else (worn_out done) (too_much_sent w e done)) early

  late_sent : (out : Posts) → early_limit w e ≡ None → out ≡ sends_of done → worn_out done ≡ None → limit w e change.course ≡ sent_limit w e out
  late_sent out early sends whole = late early ∙ ap (λ (o : Option Which). or_else o (too_much_sent w e done)) whole ∙ sym (ap (sent_limit w e) sends)

  -- AN EVENT THAT HAPPENS
  pub stepped : (p : Parties) (coords shards : List Device) (out : Posts) (own : List Line) → EventActed z e p coords shards out own → wrong w e ≡ None → early_limit w e ≡ None → sent_limit w e out ≡ None
      → Stepped z e (session_after z e p coords shards out) own
  stepped p coords shards out own acted named early fits =
      let world : world_after w e p out ≡ step w e change.course = ap (λ (q : Parties). world_after w e q out) acted.parties ∙ ap (world_after w e (step w e change.course).parties) acted.sends in
      record {
        named = named;
        fits = late_sent out early acted.sends acted.whole ∙ fits;
        coords = coords;
        shards = shards;
        disks = acted.disks;
        after = ap (λ (v : World). with_world (with_disks z coords shards) v) world;
        prints = acted.prints;
      }

  past_names : wrong w e ≡ None → happens z e ≡ happens_within_limits z e change
  past_names named = ap (λ (o : Option Wrong). maybe o (happens_within_limits z e change) (λ name. Err (Misnamed name))) named

  past_limits : limit w e change.course ≡ None → happens_within_limits z e change ≡ happens_with z e change
  past_limits fits = ap (λ (o : Option Which). maybe o (happens_with z e change) (λ which. Err (Limited which))) fits

  -- and then its text is counted
  pub happens_so : (y : Session) (own : List Line) → Stepped z e y own → happens z e ≡ prints y own
  happens_so y own s =
      past_names s.named ∙ past_limits s.fits
      ∙ ap (λ (o : Option Session). maybe o (Err FarmFails) (λ u. prints (with_world u (step w e change.course)) (printed w e change.course))) s.disks
      ∙ ap (λ (u : Session). prints u (printed w e change.course)) (sym s.after) ∙ ap (prints y) (sym s.prints)

  -- AN EVENT THAT IS REFUSED
  pub misnamed : (name : Wrong) → wrong w e ≡ Some name → happens z e ≡ Err (Misnamed name)
  misnamed name is = ap (λ (o : Option Wrong). maybe o (happens_within_limits z e change) (λ name. Err (Misnamed name))) is

  limited : (which : Which) → wrong w e ≡ None → limit w e change.course ≡ Some which → happens z e ≡ Err (Limited which)
  limited which named is = past_names named ∙ ap (λ (o : Option Which). maybe o (happens_with z e change) (λ which. Err (Limited which))) is

  pub limited_early : (which : Which) → wrong w e ≡ None → early_limit w e ≡ Some which → happens z e ≡ Err (Limited which)
  limited_early which named is =
      limited which named (at_early (begins e && nat_le most_transactions (length w.parties.clients)) (nat_le most_events w.events) (or_else (worn_out done) (too_much_sent w e done)) which is)

  pub limited_worn : (which : Which) → wrong w e ≡ None → early_limit w e ≡ None → worn_out done ≡ Some which → happens z e ≡ Err (Limited which)
  limited_worn which named early worn = limited which named (late early ∙ ap (λ (o : Option Which). or_else o (too_much_sent w e done)) worn)

  pub limited_sent : (p : Parties) (coords shards : List Device) (out : Posts) (own : List Line) (which : Which) → EventActed z e p coords shards out own → wrong w e ≡ None → early_limit w e ≡ None
      → sent_limit w e out ≡ Some which → happens z e ≡ Err (Limited which)
  limited_sent p coords shards out own which acted named early is = limited which named (late_sent out early acted.sends acted.whole ∙ is)

  -- the log of a node that stopped inside the event could not be opened, or that of one that was to start
  pub farm_fails : (out : Posts) → wrong w e ≡ None → early_limit w e ≡ None → out ≡ sends_of done → worn_out done ≡ None → sent_limit w e out ≡ None → with_change z change ≡ None → happens z e ≡ Err FarmFails
  farm_fails out named early sends whole fits lost =
      past_names named ∙ past_limits (late_sent out early sends whole ∙ fits)
      ∙ ap (λ (o : Option Session). maybe o (Err FarmFails) (λ u. prints (with_world u (step w e change.course)) (printed w e change.course))) lost
