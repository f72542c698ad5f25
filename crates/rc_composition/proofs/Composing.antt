-- Each front of a history composes to one run.
use Rattle.std.proofs.Common.{◌≡◌, ℕ, Bool, true, false, cond, List, [], ◌∷◌, ◌++◌, refl, sym, ap, ◌∙◌, subst, append_assoc, Option, Some, None}
use Rattle.std.specs.Prelude.{map, All, is_some, not}
use Rattle.std.specs.Ordering.{nat_cmp}
use Rattle.std.specs.List.{list_any}
use Rattle.std.proofs.lemmas.List.{append-nil}
use Rattle.std.proofs.lemmas.List.Elements.{All-nil}
use Rattle.rc_ids.specs.Parties.{is_same_party}
use Rattle.rc_ids.specs.Tables.{member, removed}
use Rattle.rc_ids.specs.Cluster.{Layout}
use Rattle.rc_ids.specs.declared.names.NodeId.{NodeId}
use Rattle.rc_ids.specs.declared.names.Party.{Party}
use Rattle.rc_ids.specs.declared.names.Party.TheVariants.{Node, Client as ClientOf}
use Rattle.rc_msg.specs.Spelling.{HasEnvelope}
use Rattle.rc_protocol.specs.Client.{new_client}
use Rattle.rc_runs.specs.World.{World, new_world}
use Rattle.rc_runs.specs.Refusals.{Happening, after_event, run}
use Rattle.rc_wire.specs.declared.standing.Standing.{Standing}
use Rattle.rc_wire.specs.declared.turn.Act.{Act}
use Rattle.rc_wire.specs.declared.turn.Act.TheVariants.{Took, Posted, Rested, Halted}
use Rattle.rc_wire.specs.declared.turn.Turn.{Turn}
use Rattle.rc_wire.specs.Chronicle.{Chronicle, chronicle, replayed}
use Rattle.rc_wire.specs.Passes.{may_act, may_follow, may_all_follow, is_legal}
use Rattle.rc_wire.specs.Standings.{turn, by, after, standing}
use Rattle.rc_wire.specs.Traffic.{Traffic, no_traffic, moved, traffic}
use Rattle.rc_wire.proofs.Hubs.{party_itself, traffic_last}
use Rattle.rc_agreement.proofs.Cases.{never, some_is, and_left, and_right}
use Rattle.rc_composition.specs.Composed.{Operations, event_of, if_any, begins_of, clients_of, composed_before}
use Rattle.rc_composition.specs.Messages.{wire_message}
use Rattle.rc_composition.specs.Parts.{OfClient, part_in, part_by}
use Rattle.rc_composition.specs.Steps.{AreCells, IsStep}
use Rattle.rc_composition.specs.OneRun.{IsOneRun, IsDue, acts_in}
use Rattle.rc_composition.proofs.Begins.{begins_all}
use Rattle.rc_composition.proofs.Entries.{by_on, first_own, legal_at, composed_more}
use Rattle.rc_composition.proofs.Fronts.{Holds, takes_of, one_take, by_case, acts_here, quiet}
use Rattle.rc_composition.proofs.Flights.{Flights, took, still}
use Rattle.rc_composition.proofs.Numbered.{member_left}
use Rattle.rc_composition.proofs.Posted.{posted}
use Rattle.rc_composition.proofs.Runs.{run_on}
use Rattle.rc_composition.proofs.Sending.{on_taken}

taken_pending : (t : Traffic) (n k : ℕ) (b : Bool)
    → member nat_cmp (cond {A = Traffic} b (record { sent = t.sent; pending = t.pending; again = removed nat_cmp t.again n }) (record { sent = t.sent; pending = removed nat_cmp t.pending n; again = t.again })).pending k ≡ true
    → member nat_cmp t.pending k ≡ true
taken_pending t n k true h = h
taken_pending t n k false h = member_left k n t.pending h

module _ (c : Layout) (ops : Operations) (wire : Chronicle) (legal : is_legal wire ≡ true) (cells : AreCells c ops wire) where
  abbrev Held : List Turn → List Turn → List Happening → Type 0
  Held front later hs = Holds c ops wire front later hs (run (new_world c) hs)

  abbrev At : List Turn → List Turn → Type 0
  At front later = Held front later (composed_before ops wire.parties front later)

  -- THE BEGINS
  first_parts : (v : World) (later : List Turn) → ((node : NodeId) → part_in v.parties (Node node) ≡ part_in (new_world c).parties (Node node))
      → ((t : ℕ) → list_any (is_same_party (ClientOf t)) wire.parties ≡ true → part_in v.parties (ClientOf t) ≡ OfClient t new_client)
      → (q : Party) → acts_in wire q ≡ true → part_in v.parties q ≡ part_by c ops (replayed wire).traffic.sent q (by q []) (by q later)
  first_parts v later nodes clients (Node node) acts = nodes node
  first_parts v later nodes clients (ClientOf t) acts = clients t acts

  at_first : (later : List Turn) → At [] later
  at_first later =
      let begins : List Happening = begins_of (clients_of wire.parties) in
      let v : World = run (new_world c) begins in
      let b = begins_all (new_world c) wire.parties refl (λ k. refl) in
      subst (Held [] later) (sym (append-nil begins)) (record {
        law = record {
          messages = sym (ap (map wire_message) b.sent_is);
          pending = λ n there. absurd (cc);
          taken = λ p n is. never n is;
          parts = first_parts v later b.nodes_are b.clients_are;
          prints = λ p acts. b.no_lines p;
          events = b.events;
        };
        spelled = subst (All HasEnvelope) (sym b.sent_is) (All-nil HasEnvelope);
        layout = b.layout_is;
        named = b.names_are;
        flights = record { rises = tt; again = λ n there. absurd (cc); sent = λ p n is. never n is; apart = λ p n is. never n is; alone = λ p q n is. never n is };
      })

  -- ONE ENTRY MORE
  module _ (front : List Turn) (p : Party) (later : List Turn) where
    abbrev hs : Act → List Happening
    hs act = composed_before ops wire.parties front (turn p act ∷ later)

    abbrev Acts : Act → Type 0
    Acts act = may_act p (standing (by p front)) (traffic wire.rules front) act ≡ true

    abbrev last : Act → Traffic
    last act = traffic wire.rules (front ++ turn p act ∷ [])

    no_event : (act : Act) → event_of ops p (by p front) act (by p later) ≡ None → Held (front ++ turn p act ∷ []) later (hs act) → At (front ++ turn p act ∷ []) later
    no_event act none held =
        subst (Held (front ++ turn p act ∷ []) later)
        (sym (composed_more ops wire.parties front (turn p act) later ∙ ap (λ (h : Option Happening). hs act ++ if_any h) none ∙ append-nil (hs act))) held

    an_event : (act : Act) (h : Happening) → event_of ops p (by p front) act (by p later) ≡ Some h
        → Holds c ops wire (front ++ turn p act ∷ []) later (hs act ++ h ∷ []) (after_event (run (new_world c) (hs act)) h) → At (front ++ turn p act ∷ []) later
    an_event act h is holds =
        subst (Held (front ++ turn p act ∷ []) later)
        (sym (composed_more ops wire.parties front (turn p act) later ∙ ap (λ (e : Option Happening). hs act ++ if_any e) is))
        (subst (Holds c ops wire (front ++ turn p act ∷ []) later (hs act ++ h ∷ [])) (sym (run_on (new_world c) (hs act) (h ∷ []))) holds)

    same_takes : (act : Act) → ((s : Standing) → (after s act).unanswered ≡ s.unanswered) → (q : Party) → takes_of (front ++ turn p act ∷ []) q ≡ takes_of front q
    same_takes act open_take q =
        by_case (λ r. takes_of (front ++ turn p act ∷ []) r ≡ takes_of front r) p q ((one_take front p act).own p (party_itself p) ∙ open_take (standing (by p front))) ((one_take front p act).others q)

    flies : (act : Act) → Flights wire.rules (moved wire.rules (traffic wire.rules front) p act) (takes_of (front ++ turn p act ∷ [])) → Flights wire.rules (last act) (takes_of (front ++ turn p act ∷ []))
    flies act f = subst (λ (t : Traffic). Flights wire.rules t (takes_of (front ++ turn p act ∷ []))) (sym (traffic_last wire.rules no_traffic front (turn p act))) f

    -- neither messages nor open takes change
    stays : (act : Act) → ((t : Traffic) → moved wire.rules t p act ≡ t) → ((s : Standing) → (after s act).unanswered ≡ s.unanswered) → At front (turn p act ∷ later)
        → Flights wire.rules (last act) (takes_of (front ++ turn p act ∷ []))
    stays act same open_take held =
        flies act (subst (λ (t : Traffic). Flights wire.rules t (takes_of (front ++ turn p act ∷ []))) (sym (same (traffic wire.rules front)))
        (still wire.rules (traffic wire.rules front) (takes_of front) (takes_of (front ++ turn p act ∷ [])) held.flights p (same_takes act open_take)))

    own_split : (act : Act) → wire.turns ≡ front ++ turn p act ∷ later → by p wire.turns ≡ by p front ++ turn p act ∷ by p later
    own_split act is = ap (by p) is ∙ by_on p front (turn p act ∷ later) ∙ ap (λ (ts : List Turn). by p front ++ ts) (first_own p act later)

    one_more : (act : Act) → wire.turns ≡ front ++ turn p act ∷ later → acts_in wire p ≡ true → Acts act → At front (turn p act ∷ later) → At (front ++ turn p act ∷ []) later
    one_more (Took n) is here may held =
        let w : World = run (new_world c) (hs (Took n)) in
        let is_last = traffic_last wire.rules no_traffic front (turn p (Took n)) in
        let t : Traffic = traffic wire.rules front in
        let pending : member nat_cmp t.pending n ≡ true = and_right (not (is_some (standing (by p front)).unanswered)) (member nat_cmp t.pending n) may in
        let pends : IsDue wire.rules w n = held.law.pending n pending in
        no_event (Took n) refl (quiet c ops wire front p (Took n) later (hs (Took n)) w refl
        (ap (λ (u : Traffic). u.sent) is_last ∙ on_taken t n (member nat_cmp t.again n))
        (λ k there. taken_pending t n k (member nat_cmp t.again n) (sym (ap (λ (u : Traffic). member nat_cmp u.pending k) is_last) ∙ there))
        (λ k same. subst (λ (m : ℕ). IsDue wire.rules w m) (some_is n k same) pends)
        (flies (Took n) (took wire.rules t (takes_of front) (takes_of (front ++ turn p (Took n) ∷ [])) held.flights p n pending (one_take front p (Took n)))) held)
    one_more (Posted end sends) is here may held =
        let step : IsStep c ops (replayed wire).traffic.sent p (by p front) end sends (by p later) = cells p (by p front) end sends (by p later) (own_split (Posted end sends) is) in
        an_event (Posted end sends) step.happening step.is
        (posted c ops wire front p end sends later (hs (Posted end sends)) (run (new_world c) (hs (Posted end sends))) is here held step refl)
    one_more (Rested true) is here may held =
        let is_last = traffic_last wire.rules no_traffic front (turn p (Rested true)) in
        no_event (Rested true) refl (quiet c ops wire front p (Rested true) later (hs (Rested true)) (run (new_world c) (hs (Rested true))) refl
        (ap (λ (u : Traffic). u.sent) is_last) (λ k there. sym (ap (λ (u : Traffic). member nat_cmp u.pending k) is_last) ∙ there) (held.law.taken p) (stays (Rested true) (λ t. refl) (λ s. refl) held) held)
    one_more (Rested false) is here may held =
        let is_last = traffic_last wire.rules no_traffic front (turn p (Rested false)) in
        no_event (Rested false) refl (quiet c ops wire front p (Rested false) later (hs (Rested false)) (run (new_world c) (hs (Rested false))) refl
        (ap (λ (u : Traffic). u.sent) is_last) (λ k there. sym (ap (λ (u : Traffic). member nat_cmp u.pending k) is_last) ∙ there) (held.law.taken p) (stays (Rested false) (λ t. refl) (λ s. refl) held) held)
    one_more (Halted cause) is here may held =
        let is_last = traffic_last wire.rules no_traffic front (turn p (Halted cause)) in
        no_event (Halted cause) refl (quiet c ops wire front p (Halted cause) later (hs (Halted cause)) (run (new_world c) (hs (Halted cause))) refl
        (ap (λ (u : Traffic). u.sent) is_last) (λ k there. sym (ap (λ (u : Traffic). member nat_cmp u.pending k) is_last) ∙ there) (held.law.taken p) (stays (Halted cause) (λ t. refl) (λ s. refl) held) held)

  one_turn : (front : List Turn) (t : Turn) (later : List Turn) → wire.turns ≡ front ++ t ∷ later → At front (t ∷ later) → At (front ++ t ∷ []) later
  one_turn front t later is held =
      let may : may_follow (chronicle wire.rules wire.parties front) t.party t.act ≡ true
      = legal_at wire.rules wire.parties [] front t later (subst (λ (ts : List Turn). may_all_follow wire.rules wire.parties [] ts ≡ true) is legal) in
      let among : Bool = list_any (is_same_party t.party) wire.parties in
      let acts : Bool = may_act t.party (standing (by t.party front)) (traffic wire.rules front) t.act in
      one_more front t.party later t.act is (acts_here wire t.party (and_left among acts may)) (and_right among acts may) held

  all_turns : (front todo later : List Turn) → wire.turns ≡ front ++ (todo ++ later) → At front (todo ++ later) → At (front ++ todo) later
  all_turns front [] later is held = subst (λ (f : List Turn). At f later) (sym (append-nil front)) held
  all_turns front (t ∷ ts) later is held =
      subst (λ (f : List Turn). At f later) (append_assoc front (t ∷ []) ts)
      (all_turns (front ++ t ∷ []) ts later (is ∙ sym (append_assoc front (t ∷ []) (ts ++ later))) (one_turn front t (ts ++ later) is held))

  pub one_run : (front later : List Turn) → wire.turns ≡ front ++ later → IsOneRun c ops wire front later
  one_run front later is = (all_turns [] front later is (at_first (front ++ later))).law
