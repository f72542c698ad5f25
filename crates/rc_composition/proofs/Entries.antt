-- Entries of a history that is cut.
use Rattle.std.proofs.Common.{◌≡◌, Bool, true, false, cond, List, [], ◌∷◌, ◌++◌, refl, sym, ap, ◌∙◌, append_assoc}
use Rattle.std.proofs.lemmas.List.{append-nil}
use Rattle.rc_ids.specs.Parties.{is_same_party}
use Rattle.rc_ids.specs.Cluster.{Layout}
use Rattle.rc_ids.specs.declared.names.Party.{Party}
use Rattle.rc_net.specs.Network.{Message}
use Rattle.rc_runs.specs.Refusals.{Happening}
use Rattle.rc_wire.specs.declared.rules.Rules.{Rules}
use Rattle.rc_wire.specs.declared.turn.Act.{Act}
use Rattle.rc_wire.specs.declared.turn.Turn.{Turn}
use Rattle.rc_wire.specs.Chronicle.{chronicle}
use Rattle.rc_wire.specs.Passes.{may_follow, may_all_follow}
use Rattle.rc_wire.specs.Standings.{turn, by}
use Rattle.rc_wire.proofs.Hubs.{party_itself}
use Rattle.rc_agreement.proofs.Cases.{and_left, and_right}
use Rattle.rc_report.specs.declared.line.Line.{Line}
use Rattle.rc_composition.specs.Composed.{Operations, event_of, if_any, events_between, composed_before, begins_of, clients_of}
use Rattle.rc_composition.specs.Parts.{Part, new_part, part_moved, part_between, part_by}
use Rattle.rc_composition.specs.Prints.{prints_at, prints_between, prints_by}
use Rattle.rc_composition.proofs.Cutting.{events_cut, parts_cut}

-- A PARTY'S OWN
pub by_on : (p : Party) (xs ys : List Turn) → by p (xs ++ ys) ≡ by p xs ++ by p ys
by_on p [] ys = refl
by_on p (x ∷ xs) ys = go (is_same_party x.party p) (by_on p xs ys)
  where
    go : (b : Bool) → by p (xs ++ ys) ≡ by p xs ++ by p ys → cond b (x ∷ by p (xs ++ ys)) (by p (xs ++ ys)) ≡ cond b (x ∷ by p xs) (by p xs) ++ by p ys
    go true e = ap (λ (ts : List Turn). x ∷ ts) e
    go false e = e

pub first_own : (p : Party) (act : Act) (later : List Turn) → by p (turn p act ∷ later) ≡ turn p act ∷ by p later
first_own p act later = ap (λ (b : Bool). cond b (turn p act ∷ by p later) (by p later)) (party_itself p)

pub first_other : (q : Party) (t : Turn) (later : List Turn) → is_same_party t.party q ≡ false → by q (t ∷ later) ≡ by q later
first_other q t later other = ap (λ (b : Bool). cond b (t ∷ by q later) (by q later)) other

-- LEGAL ENTRIES
pub legal_at : (rules : Rules) (ps : List Party) (turns xs : List Turn) (t : Turn) (ys : List Turn) → may_all_follow rules ps turns (xs ++ t ∷ ys) ≡ true
    → may_follow (chronicle rules ps (turns ++ xs)) t.party t.act ≡ true
legal_at rules ps turns [] t ys h =
    ap (λ (ts : List Turn). may_follow (chronicle rules ps ts) t.party t.act) (append-nil turns)
    ∙ and_left (may_follow (chronicle rules ps turns) t.party t.act) (may_all_follow rules ps (turns ++ t ∷ []) ys) h
legal_at rules ps turns (x ∷ xs) t ys h =
    ap (λ (ts : List Turn). may_follow (chronicle rules ps ts) t.party t.act) (sym (append_assoc turns (x ∷ []) xs))
    ∙ legal_at rules ps (turns ++ x ∷ []) xs t ys (and_right (may_follow (chronicle rules ps turns) x.party x.act) (may_all_follow rules ps (turns ++ x ∷ []) (xs ++ t ∷ ys)) h)

-- ONE ENTRY MORE
-- the happenings
pub composed_more : (ops : Operations) (parties : List Party) (front : List Turn) (t : Turn) (later : List Turn)
    → composed_before ops parties (front ++ t ∷ []) later ≡ composed_before ops parties front (t ∷ later) ++ if_any (event_of ops t.party (by t.party front) t.act (by t.party later))
composed_more ops parties front t later =
    let h : List Happening = if_any (event_of ops t.party (by t.party front) t.act (by t.party later)) in
    let begins : List Happening = begins_of (clients_of parties) in
    ap (λ (hs : List Happening). begins ++ hs) (events_cut ops [] front (t ∷ []) later ∙ ap (λ (hs : List Happening). events_between ops [] front (t ∷ later) ++ hs) (append-nil h))
    ∙ sym (append_assoc begins (events_between ops [] front (t ∷ later)) h)

-- the party's own state and lines
pub part_more : (c : Layout) (ops : Operations) (sent : List Message) (p : Party) (mine : List Turn) (t : Turn) (later : List Turn)
    → part_by c ops sent p (mine ++ t ∷ []) later ≡ part_moved c sent (part_by c ops sent p mine (t ∷ later)) (event_of ops p mine t.act later)
part_more c ops sent p mine t later = parts_cut c ops sent p (new_part c p) [] mine (t ∷ []) later

prints_cut : (c : Layout) (ops : Operations) (sent : List Message) (p : Party) (x : Part) (earlier xs : List Turn) (t : Turn) (later : List Turn)
    → prints_between c ops sent p x earlier (xs ++ t ∷ []) later
    ≡ prints_between c ops sent p x earlier xs (t ∷ later) ++ prints_at c sent (part_between c ops sent p x earlier xs (t ∷ later)) (event_of ops p (earlier ++ xs) t.act later)
prints_cut c ops sent p x earlier [] t later =
    append-nil (prints_at c sent x (event_of ops p earlier t.act later)) ∙ ap (λ (e : List Turn). prints_at c sent x (event_of ops p e t.act later)) (sym (append-nil earlier))
prints_cut c ops sent p x earlier (y ∷ ys) t later =
    let next : Part = part_moved c sent x (event_of ops p earlier y.act (ys ++ t ∷ later)) in
    let first : List Line = prints_at c sent x (event_of ops p earlier y.act (ys ++ t ∷ later)) in
    let ih = prints_cut c ops sent p next (earlier ++ y ∷ []) ys t later in
    ap (λ (l : List Turn). prints_at c sent x (event_of ops p earlier y.act l) ++ prints_between c ops sent p (part_moved c sent x (event_of ops p earlier y.act l)) (earlier ++ y ∷ []) (ys ++ t ∷ []) later)
    (append_assoc ys (t ∷ []) later)
    ∙ ap (λ (ls : List Line). first ++ ls) ih
    ∙ sym (append_assoc first (prints_between c ops sent p next (earlier ++ y ∷ []) ys (t ∷ later))
    (prints_at c sent (part_between c ops sent p next (earlier ++ y ∷ []) ys (t ∷ later)) (event_of ops p ((earlier ++ y ∷ []) ++ ys) t.act later)))
    ∙ ap (λ (e : List Turn). (first ++ prints_between c ops sent p next (earlier ++ y ∷ []) ys (t ∷ later))
    ++ prints_at c sent (part_between c ops sent p next (earlier ++ y ∷ []) ys (t ∷ later)) (event_of ops p e t.act later)) (append_assoc earlier (y ∷ []) ys)

pub prints_more : (c : Layout) (ops : Operations) (sent : List Message) (p : Party) (mine : List Turn) (t : Turn) (later : List Turn)
    → prints_by c ops sent p (mine ++ t ∷ []) later
    ≡ prints_by c ops sent p mine (t ∷ later) ++ prints_at c sent (part_by c ops sent p mine (t ∷ later)) (event_of ops p mine t.act later)
prints_more c ops sent p mine t later = prints_cut c ops sent p (new_part c p) [] mine t later
