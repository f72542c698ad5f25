-- What an event sends is sent, and the world is the session after it.
use Rattle.std.proofs.Common.{◌≡◌, ◌≢◌, ℕ, ◌+◌, ◌<◌, ◌≤◌, ◌^◌, ◌-◌, Bool, true, false, List, [], ◌∷◌, ◌++◌, length, Option, None, Some, refl, sym, ◌∙◌, ap, subst, arith, length-append}
use Rattle.std.specs.Prelude.{All, nat_le, min, if◌then◌else◌, ◌&&◌}
use Rattle.std.specs.List.{AllByRecursion}
use Rattle.std.proofs.lemmas.List.Elements.{All-from_recursion}
use Rattle.rc_ids.specs.declared.names.Party.{Party}
use Rattle.rc_ids.specs.declared.sends.Letter.{Letter}
use Rattle.rc_msg.specs.Spelling.{HasEnvelope}
use Rattle.rc_net.specs.Network.{Network}
use Rattle.rc_report.specs.declared.line.Line.{Line}
use Rattle.rc_report.specs.declared.fault.Which.{Which}
use Rattle.rc_report.specs.declared.fault.Which.TheVariants.{Transactions, Events}
use Rattle.rc_runs.specs.declared.event.Event.{Event}
use Rattle.rc_runs.specs.declared.event.Event.TheVariants.{Begin, Read, Write, Commit, Cancel, Retry, Vanish, Take, Catch, Deliver, Lose, Crash, CrashAt, Restart}
use Rattle.rc_protocol.specs.Messages.{Posts}
use Rattle.rc_runs.specs.World.{World, Parties, Course, actor, at_deed, posted, with_parties, envelopes, step, delivered_after}
use Rattle.rc_runs.specs.Refusals.{wrong, begins, most_transactions, most_events}
use Rattle.rc_runs.specs.Session.{Session, disk_change, happens, Limited}
use Rattle.std.specs.Prelude.{Err}
use Rattle.rc_host.specs.declared.host.Host.{Host}
use Rattle.rc_grammar.specs.Worlds.{HasWorld}
use Rattle.rc_begin.specs.Hosts.{Views, Runs}
use Rattle.rc_world.specs.Mail.{IsMail, letters_of, too_much}
use Rattle.rc_world.specs.Steps.{early_limit, sent_limit, world_after, session_after}
use Rattle.rc_world.specs.Worlds.{Parts, IsCarried, HasActed, HasStepped}
use Rattle.rc_world.proofs.MailFacts.{mail_along}
use Rattle.rc_world.proofs.Happenings.{stepped, limited_sent}

-- COUNTS
-- an event that passes no limit is not the last that a number counts
few_events : (w : World) (e : Event) → early_limit w e ≡ None → w.events < most_events
few_events w e early = by_test (begins e && nat_le most_transactions (length w.parties.clients)) (nat_le most_events w.events) refl early
  where
    by_test : (a b : Bool) → nat_le most_events w.events ≡ b → (let o : Option Which = if a then Some Transactions else (if b then Some Events else None) in o ≡ None) → w.events < most_events
    by_test true b at none = absurd (cc)
    by_test false true at none = absurd (cc)
    by_test false false at none = grind arith

counted : (k events : ℕ) → k < most_events → events ≡ min (k + 1) (2 ^ 32 - 1) → events ≡ k + 1
counted k events few is = grind arith

-- an event delivers one message at most
few_after : (e : Event) (ns : List ℕ) (k : ℕ) → length ns ≤ k → length (delivered_after ns e) ≤ k + 1
few_after (Deliver n) ns k few = omega (arith, length-append ns (n ∷ []))
few_after (Begin t) ns k few = omega arith
few_after (Read t key) ns k few = omega arith
few_after (Write t key value) ns k few = omega arith
few_after (Commit t) ns k few = omega arith
few_after (Cancel t key) ns k few = omega arith
few_after (Retry t) ns k few = omega arith
few_after (Vanish t) ns k few = omega arith
few_after (Take d t) ns k few = omega arith
few_after (Catch node) ns k few = omega arith
few_after (Lose n) ns k few = omega arith
few_after (Crash node) ns k few = omega arith
few_after (CrashAt node j pick) ns k few = omega arith
few_after (Restart node) ns k few = omega arith

-- SPELLINGS
last_ones : {X : Type 0} (P : X → Type 0) (xs ys : List X) → AllByRecursion P (xs ++ ys) → AllByRecursion P ys
last_ones P [] ys all = all
last_ones P (x ∷ xs) ys all = last_ones P xs ys all.1

-- who sends where nothing is sent makes no difference
same_limit : (w : World) (from who : Party) (ms : Posts) → (ms ≢ [] → from ≡ who) → too_much w from ms ≡ too_much w who ms
same_limit w from who [] is = refl
same_limit w from who (m ∷ ms) is = ap (λ (p : Party). too_much w p (m ∷ ms)) (is (λ e. (cc)))

same_envelopes : (from who : Party) (ms : Posts) → (ms ≢ [] → from ≡ who) → envelopes from ms ≡ envelopes who ms
same_envelopes from who [] is = refl
same_envelopes from who (m ∷ ms) is = ap (λ (p : Party). envelopes p (m ∷ ms)) (is (λ e. (cc)))

same_posted : (w : World) (from who : Party) (ms : Posts) → (ms ≢ [] → from ≡ who) → posted w from ms ≡ posted w who ms
same_posted w from who [] is = refl
same_posted w from who (m ∷ ms) is = ap (λ (p : Party). posted w p (m ∷ ms)) (is (λ e. (cc)))

-- AN EVENT OF WHICH THE PARTIES' PART IS DONE
module _ {C S J D : Type 0} (v : Views C S J D) (r : Runs) (z : Session) (e : Event) (old : Parts (Host C J D) (Host S J D)) (from : Party) (letters : List Letter) (own : List Line)
    (carried : IsCarried old z.world) (acted : HasActed v r z e old from letters own) where
  abbrev w : World
  w = z.world

  abbrev who : Party
  who = actor w.sent e

  abbrev change : Course
  change = (disk_change z e).course

  world_is : world_after w e acted.parties acted.sends ≡ step w e change
  world_is = ap (λ (q : Parties). world_after w e q acted.sends) acted.acted.parties ∙ ap (world_after w e (step w e change).parties) acted.acted.sends

  -- all that is sent has a spelling
  spelled : HasWorld (step w e change) → All HasEnvelope (envelopes who acted.sends)
  spelled has =
      let all : AllByRecursion HasEnvelope (w.sent ++ envelopes who acted.sends) = subst (λ (u : World). AllByRecursion HasEnvelope u.sent) (sym world_is) has.sent in
      All-from_recursion HasEnvelope (envelopes who acted.sends) (last_ones HasEnvelope w.sent (envelopes who acted.sends) all)

  -- the limit that the letters pass is that of the event
  pub limit_is : (o : Option Which) → ((u : World) (p : Party) (ms : Posts) → IsMail old.net u → letters ≡ letters_of p ms → o ≡ too_much u p ms) → o ≡ sent_limit w e acted.sends
  limit_is o gives = gives w from acted.sends carried.mail acted.posted ∙ same_limit w from who acted.sends acted.actor_is

  pub refused : (which : Which) → ((u : World) (p : Party) (ms : Posts) → IsMail old.net u → letters ≡ letters_of p ms → Some which ≡ too_much u p ms) → happens z e ≡ Err (Limited which)
  refused which gives = limited_sent z e acted.parties acted.coords acted.shards acted.sends own which acted.acted acted.named acted.early (sym (limit_is (Some which) gives))

  -- the mail after it
  module _ (settled new : Network) (settles : (u : World) → IsMail old.net u → wrong u e ≡ None → IsMail settled (at_deed u e))
      (posts : (u : World) (ms : Posts) → IsMail settled u → letters ≡ letters_of from ms → All HasEnvelope (envelopes from ms) → IsMail new (posted u from ms)) (has : HasWorld (step w e change)) where
    before : IsMail settled (with_parties (at_deed w e) acted.parties)
    before = mail_along settled (at_deed w e) (with_parties (at_deed w e) acted.parties) (settles w carried.mail acted.named) refl refl refl

    mail : IsMail new (world_after w e acted.parties acted.sends)
    mail =
        let all = subst (All HasEnvelope) (sym (same_envelopes from who acted.sends acted.actor_is)) (spelled has) in
        subst (IsMail new) (same_posted (with_parties (at_deed w e) acted.parties) from who acted.sends acted.actor_is) (posts (with_parties (at_deed w e) acted.parties) acted.sends before acted.posted all)

    pub sent : (events deliveries : ℕ) → ((u : World) (p : Party) (ms : Posts) → IsMail old.net u → letters ≡ letters_of p ms → None ≡ too_much u p ms) → events ≡ min (old.events + 1) (2 ^ 32 - 1)
        → ((ns : List ℕ) → old.deliveries ≡ length ns → length ns < 2 ^ 32 → deliveries ≡ length (delivered_after ns e))
        → HasStepped v r z e (record old { net = new; events = events; deliveries = deliveries }) own
    sent events deliveries gives rises counts =
        let few = few_events w e acted.early in
        let are = acted.are in
        let small : length w.delivered < 2 ^ 32 = omega (arith, few, carried.few) in
        record {
          after = session_after z e acted.parties acted.coords acted.shards acted.sends;
          stepped = stepped z e acted.parties acted.coords acted.shards acted.sends own acted.acted acted.named acted.early (sym (limit_is None gives));
          is = record {
            parties = record { layout = are.layout; cluster = are.cluster; of_coords = are.of_coords; of_shards = are.of_shards; hosts = are.hosts; roster = are.roster; order = are.order };
            carried = record {
              mail = mail;
              events = counted w.events events few (rises ∙ ap (λ k. min (k + 1) (2 ^ 32 - 1)) carried.events);
              deliveries = counts w.delivered carried.deliveries small;
              few = few_after e w.delivered w.events carried.few;
              grammar = subst HasWorld (sym world_is) has;
            };
          };
        }
