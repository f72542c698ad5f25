-- A quiescent wire stays so, whatever may come.
use Rattle.std.proofs.Common.{◌≡◌, ℕ, ◌==◌, Bool, true, false, not, ◌&&◌, ◌||◌, cond, List, [], ◌∷◌, ◌++◌, length, refl, ap, sym, ◌∙◌, subst, append_assoc, true≢false, eqb-true, arith}
use Rattle.std.specs.Prelude.{is_some}
use Rattle.std.specs.List.{list_any, list_all}
use Rattle.std.specs.Ordering.{nat_cmp}
use Rattle.std.proofs.lemmas.List.{append-nil}
use Rattle.rc_ids.specs.Parties.{is_same_node, is_same_party}
use Rattle.rc_ids.specs.Tables.{member}
use Rattle.rc_ids.specs.declared.names.NodeId.{NodeId}
use Rattle.rc_ids.specs.declared.names.NodeId.TheVariants.{Coord, Shard}
use Rattle.rc_ids.specs.declared.names.Party.{Party}
use Rattle.rc_ids.specs.declared.names.Party.TheVariants.{Node, Client}
use Rattle.rc_wire.specs.declared.rules.Rules.{Rules}
use Rattle.rc_wire.specs.declared.standing.Standing.{Standing}
use Rattle.rc_wire.specs.declared.turn.Act.{Act}
use Rattle.rc_wire.specs.declared.turn.Act.TheVariants.{Took, Posted, Rested, Halted}
use Rattle.rc_wire.specs.declared.turn.StepEnd.{StepEnd}
use Rattle.rc_wire.specs.declared.turn.StepEnd.TheVariants.{Handled, Stopped, Restarted, Idle}
use Rattle.rc_wire.specs.declared.turn.Turn.{Turn}
use Rattle.rc_wire.specs.Parties.{is_client}
use Rattle.rc_wire.specs.Standings.{turn, by, after, at_first, standing, desks_of, all_still, may_end}
use Rattle.rc_wire.specs.Traffic.{Traffic, moved, no_traffic, traffic}
use Rattle.rc_wire.specs.Chronicle.{Chronicle, chronicle, replayed, more}
use Rattle.rc_wire.specs.Replay.{is_quiescent}
use Rattle.rc_wire.specs.Passes.{may_act, may_follow, may_all_follow, is_legal}
use Rattle.rc_wire.proofs.Hubs.{by_more, after_last, traffic_last}

-- LEGAL ENTRIES
legal_last : (rules : Rules) (ps : List Party) (turns ts : List Turn) (t : Turn) → may_all_follow rules ps turns ts ≡ true → may_follow (chronicle rules ps (turns ++ ts)) t.party t.act ≡ true
    → may_all_follow rules ps turns (ts ++ t ∷ []) ≡ true
legal_last rules ps turns [] t before may = ap (λ (b : Bool). b && true) (subst (λ (xs : List Turn). may_follow (chronicle rules ps xs) t.party t.act ≡ true) (append-nil turns) may)
legal_last rules ps turns (x ∷ xs) t before may =
    first (may_follow (chronicle rules ps turns) x.party x.act) before
    (λ rest. legal_last rules ps (turns ++ x ∷ []) xs t rest (subst (λ (ys : List Turn). may_follow (chronicle rules ps ys) t.party t.act ≡ true) (sym (append_assoc turns (x ∷ []) xs)) may))
  where
    first : (b : Bool) → b && may_all_follow rules ps (turns ++ x ∷ []) xs ≡ true → (may_all_follow rules ps (turns ++ x ∷ []) xs ≡ true → may_all_follow rules ps (turns ++ x ∷ []) (xs ++ t ∷ []) ≡ true)
        → b && may_all_follow rules ps (turns ++ x ∷ []) (xs ++ t ∷ []) ≡ true
    first true e more = more e
    first false e more = absurd cc

pub legal_more : (c : Chronicle) (p : Party) (act : Act) → is_legal c ≡ true → may_follow c p act ≡ true → is_legal (more c p act) ≡ true
legal_more c p act legal may = legal_last c.rules c.parties [] c.turns (turn p act) legal may

-- PARTIES
same_node : (m n : NodeId) → is_same_node m n ≡ true → m ≡ n
same_node (Coord d) (Coord e) h = ap Coord (eqb-true d e h)
same_node (Coord d) (Shard e t) h = absurd cc
same_node (Shard d s) (Coord e) h = absurd cc
same_node (Shard d s) (Shard e t) h = both (d == e) (s == t) refl refl h
  where
    both : (a b : Bool) → (d == e) ≡ a → (s == t) ≡ b → a && b ≡ true → Shard d s ≡ Shard e t
    both true true x y h = λ j. Shard (eqb-true d e x j) (eqb-true s t y j)
    both true false x y h = absurd cc
    both false b x y h = absurd cc

pub same_party : (p q : Party) → is_same_party p q ≡ true → p ≡ q
same_party (Node m) (Node n) h = ap Node (same_node m n h)
same_party (Node m) (Client t) h = absurd cc
same_party (Client t) (Node m) h = absurd cc
same_party (Client t) (Client u) h = ap Client (eqb-true t u h)

-- STANDINGS
abbrev stands : Party → Standing → Bool
stands p s = not (is_some s.unanswered) && not s.stopped && (not (is_client p) || s.waiting || s.ended)

pub standing_more : (q p : Party) (turns : List Turn) (act : Act) (b : Bool) → is_same_party p q ≡ b
    → standing (by q (turns ++ turn p act ∷ [])) ≡ cond b (after (standing (by q turns)) act) (standing (by q turns))
standing_more q p turns act true e = ap standing (by_more q turns (turn p act) ∙ ap (λ (b : Bool). by q turns ++ cond b (turn p act ∷ []) []) e) ∙ after_last at_first (by q turns) (turn p act)
standing_more q p turns act false e = ap standing (by_more q turns (turn p act) ∙ ap (λ (b : Bool). by q turns ++ cond b (turn p act ∷ []) []) e ∙ append-nil (by q turns))

rests : (u st a w e : Bool) → not u && not st && (not a || w || e) ≡ true → (not u && not st && (not a || w || true) ≡ true) × (not u && not st && (not a || true || e) ≡ true)
rests true st a w e h = absurd cc
rests false true a w e h = absurd cc
rests false false false w e h = (refl, refl)
rests false false true true e h = (refl, refl)
rests false false true false e h = (refl, refl)

abbrev ends : StepEnd → Bool → Bool → Bool → Bool → Bool → Bool
ends Handled u st a w e = u
ends Stopped u st a w e = u
ends (Restarted kept) u st a w e = u || st
ends Idle u st a w e = a && not u && not w && not e

ends_is : (p : Party) (s : Standing) (end : StepEnd) → may_end p s end ≡ ends end (is_some s.unanswered) s.stopped (is_client p) s.waiting s.ended
ends_is p s Handled = refl
ends_is p s Stopped = refl
ends_is p s (Restarted kept) = refl
ends_is p s Idle = refl

no_post : (p : Party) (s : Standing) (end : StepEnd) → stands p s ≡ true → may_end p s end ≡ true → ⊥
no_post p s end h may = none end (is_some s.unanswered) s.stopped (is_client p) s.waiting s.ended h (sym (ends_is p s end) ∙ may)
  where
    none : (end : StepEnd) (u st a w e : Bool) → not u && not st && (not a || w || e) ≡ true → ends end u st a w e ≡ true → ⊥
    none end true st a w e h m = cc
    none end false true a w e h m = cc
    none Handled false false a w e h m = cc
    none Stopped false false a w e h m = cc
    none (Restarted kept) false false a w e h m = cc
    none Idle false false false w e h m = cc
    none Idle false false true true e h m = cc
    none Idle false false true false true h m = cc
    none Idle false false true false false h m = cc

still_after : (p : Party) (s : Standing) (act : Act) → stands p s ≡ true → may_act p s no_traffic act ≡ true → stands p (after s act) ≡ true
still_after p s (Took n) h may = absurd (never (not (is_some s.unanswered)) may)
  where
    never : (b : Bool) → b && false ≡ true → ⊥
    never true e = cc
    never false e = cc
still_after p s (Posted end sends) h may = absurd (no_post p s end h may)
still_after p s (Rested true) h may = (rests (is_some s.unanswered) s.stopped (is_client p) s.waiting s.ended h).0
still_after p s (Rested false) h may = (rests (is_some s.unanswered) s.stopped (is_client p) s.waiting s.ended h).1
still_after p s (Halted cause) h may = h

-- QUIESCENT
all_in : (f : Party → Bool) (g : Party → Bool) (ps : List Party) → list_any f ps ≡ true → list_all g ps ≡ true → (q : Party) × (f q ≡ true) × (g q ≡ true)
all_in f g [] any all = absurd cc
all_in f g (p ∷ ps) any all = here (f p) (g p) refl refl any all (all_in f g ps)
  where
    here : (a b : Bool) → f p ≡ a → g p ≡ b → a || list_any f ps ≡ true → b && list_all g ps ≡ true → (list_any f ps ≡ true → list_all g ps ≡ true → (q : Party) × (f q ≡ true) × (g q ≡ true)) → (q : Party) × (f q ≡ true) × (g q ≡ true)
    here true true x y any all more = (p, x, y)
    here false true x y any all more = more any all
    here a false x y any all more = absurd cc

desks_still : (turns : List Turn) (ps : List Party) → all_still (desks_of ps turns) ≡ list_all (λ (q : Party). stands q (standing (by q turns))) ps
desks_still turns [] = refl
desks_still turns (p ∷ ps) = ap (λ (b : Bool). stands p (standing (by p turns)) && b) (desks_still turns ps)

all_more : (f g : Party → Bool) (ps : List Party) → ((q : Party) → f q ≡ true → g q ≡ true) → list_all f ps ≡ true → list_all g ps ≡ true
all_more f g [] more all = refl
all_more f g (p ∷ ps) more all = here (f p) refl all (all_more f g ps more)
  where
    here : (b : Bool) → f p ≡ b → b && list_all f ps ≡ true → (list_all f ps ≡ true → list_all g ps ≡ true) → g p && list_all g ps ≡ true
    here true e all rest = λ j. more p e j && rest all j
    here false e all rest = absurd cc

none_pending : (pending : List ℕ) → (length pending == 0) ≡ true → pending ≡ []
none_pending [] e = refl
none_pending (n ∷ ns) e = let none = eqb-true (length (n ∷ ns)) 0 e in absurd (omega arith)

and_left : (a b : Bool) → a && b ≡ true → a ≡ true
and_left true b e = refl
and_left false b e = absurd cc

and_right : (a b : Bool) → a && b ≡ true → b ≡ true
and_right true b e = e
and_right false b e = absurd cc

module _ (c : Chronicle) (p : Party) (act : Act) (quiet : is_quiescent (replayed c) ≡ true) (may : may_follow c p act ≡ true) where
  pending : (traffic c.rules c.turns).pending ≡ []
  pending = none_pending _ (and_left (length (traffic c.rules c.turns).pending == 0) _ quiet)

  all : list_all (λ (q : Party). stands q (standing (by q c.turns))) c.parties ≡ true
  all = sym (desks_still c.turns c.parties) ∙ and_right (length (traffic c.rules c.turns).pending == 0) _ quiet

  acts : may_act p (standing (by p c.turns)) (traffic c.rules c.turns) act ≡ true
  acts = and_right (list_any (is_same_party p) c.parties) _ may

  -- what is pending matters to a take alone
  acts_idle : (a : Act) → may_act p (standing (by p c.turns)) (traffic c.rules c.turns) a ≡ true → may_act p (standing (by p c.turns)) no_traffic a ≡ true
  acts_idle (Took n) h = subst (λ (ns : List ℕ). not (is_some (standing (by p c.turns)).unanswered) && member nat_cmp ns n ≡ true) pending h
  acts_idle (Posted end sends) h = h
  acts_idle (Rested ended) h = h
  acts_idle (Halted cause) h = h

  own : stands p (standing (by p c.turns)) ≡ true
  own = let q = all_in (is_same_party p) (λ (q : Party). stands q (standing (by q c.turns))) c.parties (and_left (list_any (is_same_party p) c.parties) _ may) all in
      subst (λ (z : Party). stands z (standing (by z c.turns)) ≡ true) (sym (same_party p q.0 q.1)) q.2

  still_more : (q : Party) → stands q (standing (by q c.turns)) ≡ true → stands q (standing (by q (c.turns ++ turn p act ∷ []))) ≡ true
  still_more q h = by_case (is_same_party p q) refl
    where
      by_case : (b : Bool) → is_same_party p q ≡ b → stands q (standing (by q (c.turns ++ turn p act ∷ []))) ≡ true
      by_case true e = ap (stands q) (standing_more q p c.turns act true e) ∙ subst (λ (z : Party). stands z (after (standing (by z c.turns)) act) ≡ true) (same_party p q e) (still_after p (standing (by p c.turns)) act own (acts_idle act acts))
      by_case false e = ap (stands q) (standing_more q p c.turns act false e) ∙ h

  -- no take and no post may come
  same_pending : (a : Act) → may_act p (standing (by p c.turns)) no_traffic a ≡ true → (moved c.rules (traffic c.rules c.turns) p a).pending ≡ (traffic c.rules c.turns).pending
  same_pending (Took n) h = absurd (true≢false (sym (and_right (not (is_some (standing (by p c.turns)).unanswered)) false h)))
  same_pending (Posted end sends) h = absurd (posts end h)
    where
      posts : (end : StepEnd) → may_end p (standing (by p c.turns)) end ≡ true → ⊥
      posts end m = no_post p (standing (by p c.turns)) end own m
  same_pending (Rested ended) h = refl
  same_pending (Halted cause) h = refl

  pub quiet_more : is_quiescent (replayed (more c p act)) ≡ true
  quiet_more =
      let same = ap (λ (t : Traffic). t.pending) (traffic_last c.rules no_traffic c.turns (turn p act)) ∙ same_pending act (acts_idle act acts) ∙ pending in
      let desks = desks_still (c.turns ++ turn p act ∷ []) c.parties ∙ all_more _ _ c.parties still_more all in
      λ j. (length (same j) == 0) && desks j
