-- Histories that are cut.
use Rattle.std.proofs.Common.{◌≡◌, List, [], ◌∷◌, ◌++◌, sym, ap, ◌∙◌, append_assoc}
use Rattle.std.proofs.lemmas.List.{append-nil}
use Rattle.rc_ids.specs.Cluster.{Layout}
use Rattle.rc_ids.specs.declared.names.Party.{Party}
use Rattle.rc_net.specs.Network.{Message}
use Rattle.rc_runs.specs.Refusals.{Happening}
use Rattle.rc_wire.specs.declared.turn.Turn.{Turn}
use Rattle.rc_wire.specs.Standings.{by}
use Rattle.rc_composition.specs.Composed.{Operations, event_of, if_any, events_between, begins_of, clients_of}
use Rattle.rc_composition.specs.Parts.{Part, new_part, part_moved, part_between}
use Rattle.rc_composition.specs.Cuts.{EventsAreCut, PartsAreCut}

-- what an entry comes to, where these follow
abbrev first_of_these : Operations → List Turn → Turn → List Turn → List Happening
first_of_these ops earlier t after = if_any (event_of ops t.party (by t.party earlier) t.act (by t.party after))

pub events_cut : (ops : Operations) (earlier xs ys later : List Turn)
    → events_between ops earlier (xs ++ ys) later ≡ events_between ops earlier xs (ys ++ later) ++ events_between ops (earlier ++ xs) ys later
events_cut ops earlier [] ys later = sym (ap (λ (e : List Turn). events_between ops e ys later) (append-nil earlier))
events_cut ops earlier (x ∷ xs) ys later =
    let ih = events_cut ops (earlier ++ x ∷ []) xs ys later in
    ap (λ (l : List Turn). first_of_these ops earlier x l ++ events_between ops (earlier ++ x ∷ []) (xs ++ ys) later) (append_assoc xs ys later)
    ∙ ap (λ (hs : List Happening). first_of_these ops earlier x (xs ++ (ys ++ later)) ++ hs)
    (ih ∙ ap (λ (e : List Turn). events_between ops (earlier ++ x ∷ []) xs (ys ++ later) ++ events_between ops e ys later) (append_assoc earlier (x ∷ []) xs))
    ∙ sym (append_assoc (first_of_these ops earlier x (xs ++ (ys ++ later))) (events_between ops (earlier ++ x ∷ []) xs (ys ++ later)) (events_between ops (earlier ++ x ∷ xs) ys later))

pub parts_cut : (c : Layout) (ops : Operations) (sent : List Message) (p : Party) (x : Part) (earlier xs ys later : List Turn)
    → part_between c ops sent p x earlier (xs ++ ys) later ≡ part_between c ops sent p (part_between c ops sent p x earlier xs (ys ++ later)) (earlier ++ xs) ys later
parts_cut c ops sent p x earlier [] ys later = sym (ap (λ (e : List Turn). part_between c ops sent p x e ys later) (append-nil earlier))
parts_cut c ops sent p x earlier (t ∷ ts) ys later =
    let next : Part = part_moved c sent x (event_of ops p earlier t.act (ts ++ (ys ++ later))) in
    let ih = parts_cut c ops sent p next (earlier ++ t ∷ []) ts ys later in
    ap (λ (l : List Turn). part_between c ops sent p (part_moved c sent x (event_of ops p earlier t.act l)) (earlier ++ t ∷ []) (ts ++ ys) later) (append_assoc ts ys later)
    ∙ ih ∙ ap (λ (e : List Turn). part_between c ops sent p (part_between c ops sent p next (earlier ++ t ∷ []) ts (ys ++ later)) e ys later) (append_assoc earlier (t ∷ []) ts)

pub events_are_cut : (ops : Operations) (parties : List Party) (front later : List Turn) → EventsAreCut ops parties front later
events_are_cut ops parties front later =
    ap (λ (hs : List Happening). begins_of (clients_of parties) ++ hs)
    (events_cut ops [] front later [] ∙ ap (λ (l : List Turn). events_between ops [] front l ++ events_between ops front later []) (append-nil later))
    ∙ sym (append_assoc (begins_of (clients_of parties)) (events_between ops [] front later) (events_between ops front later []))

pub parts_are_cut : (c : Layout) (ops : Operations) (sent : List Message) (p : Party) (mine more later : List Turn) → PartsAreCut c ops sent p mine more later
parts_are_cut c ops sent p mine more later = parts_cut c ops sent p (new_part c p) [] mine more later
