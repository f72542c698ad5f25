-- What is kept under the lock, once the history is one entry longer.
use Rattle.std.proofs.Common.{◌≡◌, ℕ, zero, suc, ◌+◌, ◌*◌, ◌^◌, ◌<◌, ◌≤◌, ◌==◌, Bool, true, false, not, ◌&&◌, ◌||◌, cond, List, [], ◌∷◌, ◌++◌, length, get_or, slice_get, refl, ap, sym, ◌∙◌, subst, arith, Option, Some, None, eq-eqb, ne_eqb}
use Rattle.std.specs.Prelude.{find, is_some}
use Rattle.std.specs.List.{list_any}
use Rattle.std.proofs.lemmas.List.{append-nil}
use Rattle.std.proofs.lemmas.List.Sums.{sum_by-cons}
use mathlib.Core.Logic.{dite}
use native.Mathlib.Decide.{ℕ_discrete}
use Rattle.rc_ids.specs.declared.names.NodeId.{NodeId}
use Rattle.rc_ids.specs.declared.names.NodeId.TheVariants.{Coord, Shard}
use Rattle.rc_ids.specs.declared.names.Party.{Party}
use Rattle.rc_ids.specs.declared.names.Party.TheVariants.{Node, Client}
use Rattle.rc_net.specs.Network.{Network, Message}
use Rattle.rc_wire.specs.declared.rules.Rules.{Rules}
use Rattle.rc_wire.specs.declared.standing.Desk.{Desk}
use Rattle.rc_wire.specs.declared.standing.Standing.{Standing}
use Rattle.rc_wire.specs.declared.turn.Act.{Act}
use Rattle.rc_wire.specs.declared.turn.Act.TheVariants.{Rested, Halted}
use Rattle.rc_wire.specs.declared.turn.HaltCause.{HaltCause}
use Rattle.rc_wire.specs.declared.want.Want.{Want}
use Rattle.rc_wire.specs.declared.turn.Turn.{Turn}
use Rattle.rc_ids.specs.Parties.{is_same_node, is_same_party}
use Rattle.rc_wire.specs.Parties.{all_differ}
use Rattle.rc_wire.specs.Standings.{turn, by, after, after_all, at_first, standing, desk, desks_of, parties_of, done, stood, noted, left}
use Rattle.rc_wire.specs.Traffic.{Traffic, traffic_of, moved, moved_by_all, no_traffic, traffic}
use Rattle.rc_wire.specs.Wants.{is_for}
use Rattle.rc_wire.specs.Chronicle.{Chronicle, IsHub, owed, chronicle, more}

-- PARTIES
same_number : (a b : ℕ) → (a == b) ≡ (b == a)
same_number a b = dite (ℕ_discrete a b) (λ e. eq-eqb a b e ∙ sym (eq-eqb b a (sym e))) (λ ne. ne_eqb a b ne ∙ sym (ne_eqb b a (λ e. ne (sym e))))

node_back : (m n : NodeId) → is_same_node m n ≡ is_same_node n m
node_back (Coord d) (Coord e) = same_number d e
node_back (Coord d) (Shard e t) = refl
node_back (Shard d s) (Coord e) = refl
node_back (Shard d s) (Shard e t) = λ j. same_number d e j && same_number s t j

pub party_back : (p q : Party) → is_same_party p q ≡ is_same_party q p
party_back (Node m) (Node n) = node_back m n
party_back (Node m) (Client t) = refl
party_back (Client t) (Node m) = refl
party_back (Client t) (Client u) = same_number t u

node_itself : (n : NodeId) → is_same_node n n ≡ true
node_itself (Coord d) = eq-eqb d d refl
node_itself (Shard d s) = ap (λ b. b && (s == s)) (eq-eqb d d refl) ∙ eq-eqb s s refl

pub party_itself : (p : Party) → is_same_party p p ≡ true
party_itself (Node n) = node_itself n
party_itself (Client t) = eq-eqb t t refl

or_left : (a b : Bool) → a || b ≡ false → a ≡ false
or_left true b e = e
or_left false b e = refl

or_right : (a b : Bool) → a || b ≡ false → b ≡ false
or_right true b e = absurd cc
or_right false b e = e

and_left : (a b : Bool) → not a && b ≡ true → a ≡ false
and_left true b e = absurd cc
and_left false b e = refl

and_right : (a b : Bool) → not a && b ≡ true → b ≡ true
and_right true b e = absurd cc
and_right false b e = e

-- ENTRIES
pub by_more : (q : Party) (turns : List Turn) (t : Turn) → by q (turns ++ t ∷ []) ≡ by q turns ++ cond (is_same_party t.party q) (t ∷ []) []
by_more q [] t = refl
by_more q (x ∷ xs) t = at_head (is_same_party x.party q) (by_more q xs t)
  where
    at_head : (b : Bool) → by q (xs ++ t ∷ []) ≡ by q xs ++ cond (is_same_party t.party q) (t ∷ []) []
        → cond b (x ∷ by q (xs ++ t ∷ [])) (by q (xs ++ t ∷ [])) ≡ cond b (x ∷ by q xs) (by q xs) ++ cond (is_same_party t.party q) (t ∷ []) []
    at_head true e = ap (λ r. x ∷ r) e
    at_head false e = e

pub by_own : (p : Party) (turns : List Turn) (act : Act) → by p (turns ++ turn p act ∷ []) ≡ by p turns ++ turn p act ∷ []
by_own p turns act = by_more p turns (turn p act) ∙ ap (λ b. by p turns ++ cond b (turn p act ∷ []) []) (party_itself p)

pub by_other : (q : Party) (turns : List Turn) (t : Turn) → is_same_party t.party q ≡ false → by q (turns ++ t ∷ []) ≡ by q turns
by_other q turns t e = by_more q turns t ∙ ap (λ b. by q turns ++ cond b (t ∷ []) []) e ∙ append-nil (by q turns)

pub after_last : (s : Standing) (xs : List Turn) (t : Turn) → after_all s (xs ++ t ∷ []) ≡ after (after_all s xs) t.act
after_last s [] t = refl
after_last s (x ∷ xs) t = after_last (after s x.act) xs t

pub traffic_last : (rules : Rules) (t : Traffic) (xs : List Turn) (e : Turn) → moved_by_all rules t (xs ++ e ∷ []) ≡ moved rules (moved_by_all rules t xs) e.party e.act
traffic_last rules t [] e = refl
traffic_last rules t (x ∷ xs) e = traffic_last rules (moved rules t x.party x.act) xs e

-- DESKS
own_desk : (turns : List Turn) (d : Desk) (act : Act) → d ≡ desk turns d.party → done act d ≡ desk (turns ++ turn d.party act ∷ []) d.party
own_desk turns d act is =
    let s : after d.standing act ≡ standing (by d.party (turns ++ turn d.party act ∷ []))
    = ap (λ (x : Desk). after x.standing act) is ∙ sym (ap standing (by_own d.party turns act) ∙ after_last at_first (by d.party turns) (turn d.party act)) in
    λ j. record { party = d.party; standing = s j }

other_desk : (turns : List Turn) (d : Desk) (t : Turn) → d ≡ desk turns d.party → is_same_party t.party d.party ≡ false → d ≡ desk (turns ++ t ∷ []) d.party
other_desk turns d t is other = is ∙ (λ j. record { party = d.party; standing = standing (sym (by_other d.party turns t other) j) })

first_is : (x y : Desk) (xs ys : List Desk) → x ∷ xs ≡ y ∷ ys → x ≡ y
first_is x y xs ys e = cc

rest_is : (x y : Desk) (xs ys : List Desk) → x ∷ xs ≡ y ∷ ys → xs ≡ ys
rest_is x y xs ys e = cc

other_desks : (turns : List Turn) (t : Turn) (ds : List Desk) → ds ≡ desks_of (parties_of ds) turns → list_any (is_same_party t.party) (parties_of ds) ≡ false → ds ≡ desks_of (parties_of ds) (turns ++ t ∷ [])
other_desks turns t [] is none = refl
other_desks turns t (d ∷ ds) is none =
    let h = other_desk turns d t (first_is d (desk turns d.party) ds (desks_of (parties_of ds) turns) is) (or_left (is_same_party t.party d.party) (list_any (is_same_party t.party) (parties_of ds)) none) in
    let r = other_desks turns t ds (rest_is d (desk turns d.party) ds (desks_of (parties_of ds) turns) is) (or_right (is_same_party t.party d.party) (list_any (is_same_party t.party) (parties_of ds)) none) in
    λ j. h j ∷ r j

-- the entry of a place
pub noted_is : (ds : List Desk) (k : ℕ) (act : Act) → k < length ds → (d : Desk) → noted ds k act ≡ turn (get_or ds k d).party act ∷ []
noted_is [] k act lt d = absurd (omega arith)
noted_is (x ∷ xs) zero act lt d = refl
noted_is (x ∷ xs) (suc k) act lt d = noted_is xs k act (omega arith) d

any_not : (f : Party → Bool) (ds : List Desk) (k : ℕ) (d : Desk) → k < length ds → list_any f (parties_of ds) ≡ false → f (get_or ds k d).party ≡ false
any_not f [] k d lt none = absurd (omega arith)
any_not f (x ∷ xs) zero d lt none = or_left (f x.party) (list_any f (parties_of xs)) none
any_not f (x ∷ xs) (suc k) d lt none = any_not f xs k d (omega arith) (or_right (f x.party) (list_any f (parties_of xs)) none)

pub desks_more : (turns : List Turn) (ds : List Desk) (k : ℕ) (act : Act) → k < length ds → ds ≡ desks_of (parties_of ds) turns → all_differ (parties_of ds) ≡ true
    → stood ds k act ≡ desks_of (parties_of ds) (turns ++ noted ds k act)
desks_more turns [] k act lt is differ = absurd (omega arith)
desks_more turns (d ∷ ds) zero act lt is differ =
    let none = and_left (list_any (is_same_party d.party) (parties_of ds)) (all_differ (parties_of ds)) differ in
    let h = own_desk turns d act (first_is d (desk turns d.party) ds (desks_of (parties_of ds) turns) is) in
    let r = other_desks turns (turn d.party act) ds (rest_is d (desk turns d.party) ds (desks_of (parties_of ds) turns) is) none in
    λ j. h j ∷ r j
desks_more turns (d ∷ ds) (suc k) act lt is differ =
    let none = and_left (list_any (is_same_party d.party) (parties_of ds)) (all_differ (parties_of ds)) differ in
    let here : k < length ds = omega arith in
    let p = (get_or ds k d).party in
    let other = party_back p d.party ∙ any_not (is_same_party d.party) ds k d here none in
    let note = noted_is ds k act here d in
    let h = other_desk turns d (turn p act) (first_is d (desk turns d.party) ds (desks_of (parties_of ds) turns) is) other ∙ ap (λ ts. desk (turns ++ ts) d.party) (sym note) in
    let r = desks_more turns ds k act here (rest_is d (desk turns d.party) ds (desks_of (parties_of ds) turns) is) (and_right (list_any (is_same_party d.party) (parties_of ds)) (all_differ (parties_of ds)) differ) in
    λ j. h j ∷ r j

pub stood_parties : (ds : List Desk) (k : ℕ) (act : Act) → parties_of (stood ds k act) ≡ parties_of ds
stood_parties [] k act = refl
stood_parties (d ∷ ds) zero act = refl
stood_parties (d ∷ ds) (suc k) act = ap (λ ps. d.party ∷ ps) (stood_parties ds k act)

pub stood_length : (ds : List Desk) (k : ℕ) (act : Act) → length (stood ds k act) ≡ length ds
stood_length [] k act = refl
stood_length (d ∷ ds) zero act = refl
stood_length (d ∷ ds) (suc k) act = ap suc (stood_length ds k act)

pub parties_length : (ds : List Desk) → length (parties_of ds) ≡ length ds
parties_length [] = refl
parties_length (d ∷ ds) = ap suc (parties_length ds)

-- ROOM
few_left : (a b c : Bool) → (cond a 0 (cond b 1 2)) + (cond c 0 1) ≤ 3
few_left true b true = omega arith
few_left true b false = omega arith
few_left false true true = omega arith
few_left false true false = omega arith
few_left false false true = omega arith
few_left false false false = omega arith

owed_most : (ds : List Desk) → owed ds ≤ 3 * length ds
owed_most [] = omega arith
owed_most (d ∷ ds) =
    let a : left d.standing ≤ 3 = few_left d.standing.ended d.standing.waiting d.standing.halted in
    let b = owed_most ds in
    let c = sum_by-cons (λ (x : Desk). left x.standing) d ds in
    omega arith

pub room_anew : (ds : List Desk) (k len capacity : ℕ) (act : Act) → len + (3 * length ds + 1) ≤ capacity → (len + 1) + owed (stood ds k act) ≤ capacity
room_anew ds k len capacity act room = let a = owed_most (stood ds k act) in let b = stood_length ds k act in omega arith

owed_less : (ds : List Desk) (k : ℕ) (act : Act) (d : Desk) → k < length ds → left (after (get_or ds k d).standing act) < left (get_or ds k d).standing → owed (stood ds k act) + 1 ≤ owed ds
owed_less [] k act d lt less = absurd (omega arith)
owed_less (x ∷ xs) zero act d lt less =
    let a = sum_by-cons (λ (y : Desk). left y.standing) x xs in
    let b = sum_by-cons (λ (y : Desk). left y.standing) (done act x) xs in
    omega arith
owed_less (x ∷ xs) (suc k) act d lt less =
    let r = owed_less xs k act d (omega arith) less in
    let a = sum_by-cons (λ (y : Desk). left y.standing) x xs in
    let b = sum_by-cons (λ (y : Desk). left y.standing) x (stood xs k act) in
    omega arith

pub room_used : (ds : List Desk) (k len capacity : ℕ) (act : Act) (d : Desk) → k < length ds → left (after (get_or ds k d).standing act) < left (get_or ds k d).standing
    → len + owed ds ≤ capacity → (len + 1) + owed (stood ds k act) ≤ capacity
room_used ds k len capacity act d lt less room = let a = owed_less ds k act d lt less in omega arith

-- ALL OF IT
pub hub_more : (rules : Rules) (net net' : Network) (again again' : List ℕ) (ds : List Desk) (turns : List Turn) (len capacity capacity' : ℕ) (k : ℕ) (act : Act) (d : Desk)
    → IsHub rules net again ds turns len capacity → k < length ds → traffic_of net' again' ≡ moved rules (traffic_of net again) (get_or ds k d).party act → (len + 1) + owed (stood ds k act) ≤ capacity'
    → IsHub rules net' again' (stood ds k act) (turns ++ noted ds k act) (len + 1) capacity'
hub_more rules net net' again again' ds turns len capacity capacity' k act d hub lt moves room =
    let p = (get_or ds k d).party in
    let same = stood_parties ds k act in
    record {
      net_is = moves ∙ ap (λ (t : Traffic). moved rules t p act) hub.net_is ∙ sym (ap (λ ts. traffic rules (turns ++ ts)) (noted_is ds k act lt d) ∙ traffic_last rules no_traffic turns (turn p act));
      desks_are = desks_more turns ds k act lt hub.desks_are hub.differ ∙ ap (λ ps. desks_of ps (turns ++ noted ds k act)) (sym same);
      room = room;
      few = let a = stood_length ds k act in let b = hub.few in omega arith;
      differ = ap all_differ same ∙ hub.differ;
    }

party_at : (ds : List Desk) (k : ℕ) (d : Desk) (p : Party) → slice_get (parties_of ds) k ≡ Some p → (get_or ds k d).party ≡ p
party_at [] k d p e = absurd cc
party_at (x ∷ xs) zero d p e = cc
party_at (x ∷ xs) (suc k) d p e = party_at xs k d p e

pub view_more : (rules : Rules) (ds : List Desk) (turns : List Turn) (k : ℕ) (act : Act) (d : Desk) (p : Party) → k < length ds → slice_get (parties_of ds) k ≡ Some p
    → chronicle rules (parties_of (stood ds k act)) (turns ++ noted ds k act) ≡ more (chronicle rules (parties_of ds) turns) p act
view_more rules ds turns k act d p lt at =
    let note = noted_is ds k act lt d ∙ ap (λ q. turn q act ∷ []) (party_at ds k d p at) in
    λ j. chronicle rules (stood_parties ds k act j) (turns ++ note j)

-- the standing of a desk is that of its party's own entries
pub stands : (ds : List Desk) (turns : List Turn) (k : ℕ) (d : Desk) (p : Party) → ds ≡ desks_of (parties_of ds) turns → slice_get (parties_of ds) k ≡ Some p → (get_or ds k d).standing ≡ standing (by p turns)
stands [] turns k d p is at = absurd cc
stands (x ∷ xs) turns zero d p is at =
    let h : x.party ≡ p = cc in
    ap (λ (y : Desk). y.standing) (first_is x (desk turns x.party) xs (desks_of (parties_of xs) turns) is) ∙ ap (λ q. standing (by q turns)) h
stands (x ∷ xs) turns (suc k) d p is at = stands xs turns k d p (rest_is x (desk turns x.party) xs (desks_of (parties_of xs) turns) is) at

-- a desk that stands in for none
pub no_desk : Desk
no_desk = record { party = Client 0; standing = at_first }

pub place_in : (rules : Rules) (ds : List Desk) (turns : List Turn) (v : Chronicle) (k : ℕ) → chronicle rules (parties_of ds) turns ≡ v → k < length v.parties → k < length ds
place_in rules ds turns v k is lt = let a = parties_length ds in let b = ap (λ (w : Chronicle). length w.parties) is in omega arith

pub hub_after : (rules : Rules) (net net' : Network) (again again' : List ℕ) (ds ds' : List Desk) (turns turns' : List Turn) (len len' capacity capacity' : ℕ) (k : ℕ) (act : Act)
    → IsHub rules net again ds turns len capacity → k < length ds → ds' ≡ stood ds k act → turns' ≡ turns ++ noted ds k act → len' ≡ len + 1
    → traffic_of net' again' ≡ moved rules (traffic_of net again) (get_or ds k no_desk).party act → (len + 1) + owed (stood ds k act) ≤ capacity' → IsHub rules net' again' ds' turns' len' capacity'
hub_after rules net net' again again' ds ds' turns turns' len len' capacity capacity' k act hub lt d t l moves room =
    subst (λ (x : (List Desk × List Turn) × ℕ). IsHub rules net' again' x.0.0 x.0.1 x.1 capacity') (λ j. ((sym d j, sym t j), sym l j))
    (hub_more rules net net' again again' ds turns len capacity capacity' k act no_desk hub lt moves room)

pub view_after : (rules : Rules) (ds ds' : List Desk) (turns turns' : List Turn) (v : Chronicle) (k : ℕ) (act : Act) (p : Party) → chronicle rules (parties_of ds) turns ≡ v → k < length v.parties
    → ds' ≡ stood ds k act → turns' ≡ turns ++ noted ds k act → slice_get v.parties k ≡ Some p → chronicle rules (parties_of ds') turns' ≡ more v p act
view_after rules ds ds' turns turns' v k act p is lt d t at =
    let at' : slice_get (parties_of ds) k ≡ Some p = subst (λ (w : Chronicle). slice_get w.parties k ≡ Some p) (sym is) at in
    (λ j. chronicle rules (parties_of (d j)) (t j)) ∙ view_more rules ds turns k act no_desk p (place_in rules ds turns v k is lt) at' ∙ ap (λ (w : Chronicle). more w p act) is

-- entries that take no memory
there : (ds : List Desk) (k : ℕ) (d : Desk) → k < length ds → slice_get (parties_of ds) k ≡ Some (get_or ds k d).party
there [] k d lt = absurd (omega arith)
there (x ∷ xs) zero d lt = refl
there (x ∷ xs) (suc k) d lt = there xs k d (omega arith)

-- what is known of the standing that a party has by its own entries is so of its desk
pub of_desk : (P : Standing → Type 0) (rules : Rules) (ds : List Desk) (turns : List Turn) (v : Chronicle) (k : ℕ) → chronicle rules (parties_of ds) turns ≡ v → ds ≡ desks_of (parties_of ds) turns → k < length v.parties
    → ((p : Party) → slice_get v.parties k ≡ Some p → P (standing (by p v.turns))) → P (get_or ds k no_desk).standing
of_desk P rules ds turns v k is desks lt known =
    let here = place_in rules ds turns v k is lt in
    let at = there ds k no_desk here in
    let p = (get_or ds k no_desk).party in
    let known' : P (standing (by p turns)) = subst (λ (w : Chronicle). P (standing (by p w.turns))) (sym is) (known p (subst (λ (w : Chronicle). slice_get w.parties k ≡ Some p) is at)) in
    subst P (sym (stands ds turns k no_desk p desks at)) known'

left_halt : (e w h : Bool) → h ≡ false → (cond e 0 (cond w 1 2)) + 0 < (cond e 0 (cond w 1 2)) + cond h 0 1
left_halt e w true is = absurd cc
left_halt e w false is = omega arith

pub halt_uses : (s : Standing) (cause : HaltCause) → s.halted ≡ false → left (after s (Halted cause)) < left s
halt_uses s cause is = left_halt s.ended s.waiting s.halted is

left_end : (e w h : Bool) → e ≡ false → 0 + cond h 0 1 < (cond e 0 (cond w 1 2)) + cond h 0 1
left_end true w h is = absurd cc
left_end false true h is = omega arith
left_end false false h is = omega arith

left_wait : (e w h : Bool) → e ≡ false → w ≡ false → (cond e 0 1) + cond h 0 1 < (cond e 0 (cond w 1 2)) + cond h 0 1
left_wait true w h is no_wait = absurd cc
left_wait false true h is no_wait = absurd cc
left_wait false false h is no_wait = omega arith

pub rest_uses : (s : Standing) (ended : Bool) → s.ended ≡ false → not ended && s.waiting ≡ false → left (after s (Rested ended)) < left s
rest_uses s true is changes = left_end s.ended s.waiting s.halted is
rest_uses s false is changes = left_wait s.ended s.waiting s.halted is changes

pub some_room : (ds : List Desk) (k len capacity : ℕ) (act : Act) → k < length ds → left (after (get_or ds k no_desk).standing act) < left (get_or ds k no_desk).standing → len + owed ds ≤ capacity → len < capacity
some_room ds k len capacity act lt less room = let a = owed_less ds k act no_desk lt less in omega arith

-- what a search finds passes
pub found_passes : (f : ℕ → Bool) (xs : List ℕ) (n : ℕ) → find f xs ≡ Some n → f n ≡ true
found_passes f [] n e = absurd cc
found_passes f (x ∷ xs) n e = by (f x) refl (found_passes f xs n) e
  where
    by : (b : Bool) → f x ≡ b → (find f xs ≡ Some n → f n ≡ true) → cond b (Some x) (find f xs) ≡ Some n → f n ≡ true
    by true is more e = let h : x ≡ n = cc in ap f (sym h) ∙ is
    by false is more e = more e

pub is_there : (p : Party) (want : Want) (o : Option Message) → is_for p want o ≡ true → is_some o ≡ true
is_there p want None e = absurd cc
is_there p want (Some m) e = refl

pub any_default : (ds : List Desk) (k : ℕ) (d e : Desk) → k < length ds → get_or ds k d ≡ get_or ds k e
any_default [] k d e lt = absurd (omega arith)
any_default (x ∷ xs) zero d e lt = refl
any_default (x ∷ xs) (suc k) d e lt = any_default xs k d e (omega arith)

pub standing_at : (rules : Rules) (ds : List Desk) (turns : List Turn) (v : Chronicle) (k : ℕ) (p : Party) → chronicle rules (parties_of ds) turns ≡ v → ds ≡ desks_of (parties_of ds) turns → slice_get v.parties k ≡ Some p
    → (get_or ds k no_desk).standing ≡ standing (by p v.turns)
standing_at rules ds turns v k p is desks at =
    stands ds turns k no_desk p desks (subst (λ (w : Chronicle). slice_get w.parties k ≡ Some p) (sym is) at) ∙ ap (λ (w : Chronicle). standing (by p w.turns)) is

pub party_here : (rules : Rules) (ds : List Desk) (turns : List Turn) (v : Chronicle) (k : ℕ) (d : Desk) (p : Party) → chronicle rules (parties_of ds) turns ≡ v → k < length v.parties → d ≡ get_or ds k d → slice_get v.parties k ≡ Some p
    → d.party ≡ p
party_here rules ds turns v k d p is lt here at =
    ap (λ (x : Desk). x.party) here ∙ party_at ds k d p (subst (λ (w : Chronicle). slice_get w.parties k ≡ Some p) (sym is) at)

parties_of_first : (ps : List Party) (turns : List Turn) → parties_of (desks_of ps turns) ≡ ps
parties_of_first [] turns = refl
parties_of_first (p ∷ ps) turns = ap (λ qs. p ∷ qs) (parties_of_first ps turns)

-- a hub whose parties did nothing yet
pub hub_first : (rules : Rules) (net : Network) (again : List ℕ) (ds : List Desk) (turns : List Turn) (len capacity : ℕ) (ps : List Party)
    → net.sent ≡ [] → net.pending ≡ [] → again ≡ [] → ds ≡ desks_of ps [] → turns ≡ [] → len ≡ 0 → 3 * length ps ≤ capacity → length ps < 2 ^ 32 → all_differ ps ≡ true → IsHub rules net again ds turns len capacity
hub_first rules net again ds turns len capacity ps sent pending once desks none empty room few differ =
    let same : parties_of ds ≡ ps = ap parties_of desks ∙ parties_of_first ps [] in
    let size : length ds ≡ length ps = sym (parties_length ds) ∙ ap length same in
    record {
      net_is = (λ j. record { sent = sent j; pending = pending j; again = once j }) ∙ ap (traffic rules) (sym none);
      desks_are = desks ∙ (λ j. desks_of (sym same j) (sym none j));
      room = let o = owed_most ds in omega arith;
      few = omega arith;
      differ = ap all_differ same ∙ differ;
    }

pub view_first : (rules : Rules) (ds : List Desk) (turns : List Turn) (ps : List Party) → ds ≡ desks_of ps [] → turns ≡ [] → chronicle rules (parties_of ds) turns ≡ chronicle rules ps []
view_first rules ds turns ps desks none = λ j. chronicle rules ((ap parties_of desks ∙ parties_of_first ps []) j) (none j)
