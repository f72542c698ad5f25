use Rattle.std.proofs.Common.{◌≡◌, ℕ, ◌+◌, ◌<◌, ◌∷◌, [], length, refl, rules, true, sym, ap, ◌∙◌, subst, arith, add-one, length-append}
use Rattle.rc_ids.specs.declared.names.NodeId.{NodeId}
use Rattle.rc_ids.specs.declared.names.NodeId.TheVariants.{Coord}
use Rattle.rc_begin.specs.Places.{coord_name}
use Rattle.rc_begin.proofs.Leaving.{next_there, rest_well, all_well}
use Rattle.rc_begin.proofs.GivenBack.{coords_apart, none_back, one_back_at, back_all, none_left, lent_still, some_left, next_left}
use Rattle.rc_begin.proofs.closing.give_coords_back.Goals as goal

name_is : (dc place : ℕ) → dc ≡ place → Coord (dc + 1) ≡ coord_name place
name_is dc place same = ap (λ (n : ℕ). Coord (n + 1)) same ∙ ap Coord (add-one place)

pub give_back-requires-clause-lent : goal.give_back-requires-clause-lent
give_back-requires-clause-lent g c =
    let inv = c.loop-coord.invariant in
    let some : length c.loop-coord.yielded < length c.args.coords.items = some_left c.loop-coord.yielded _ _ c.args.coords.items c.in-Some.coord inv.all c.in-Some.ensures.steps.0 in
    subst (λ (n : NodeId). g.F.Farm.is_lent c.loop-coord.farm n ≡ true) (sym (name_is c.loop-coord.dc (length c.loop-coord.yielded) inv.count))
    (lent_still _ coord_name _ _ _ _ c.loop-coord.yielded (length c.loop-coord.yielded) coords_apart inv.back (omega arith) (c.requires.lent (length c.loop-coord.yielded) some))

pub loop-coord-preserved : goal.loop-coord-preserved
loop-coord-preserved g c =
    let inv = c.loop-coord.invariant in
    record {
      count = ap (λ (n : ℕ). n + 1) inv.count ∙ sym (length-append c.loop-coord.yielded (c.in-Some.coord ∷ []));
      all = next_left c.loop-coord.yielded _ _ c.args.coords.items c.in-Some.coord inv.all c.in-Some.ensures.steps.0;
      well = rest_well _ _ _ c.in-Some.coord c.in-Some.ensures.steps.0 inv.well;
      back = one_back_at _ coord_name (g.F.Farm.is_lent c.args.farm.now) (g.F.Farm.is_lent c.loop-coord.farm) (g.F.Farm.is_lent c.give_back.new.farm)
          (g.F.Farm.stands c.args.farm.now) (g.F.Farm.stands c.loop-coord.farm) (g.F.Farm.stands c.give_back.new.farm) c.loop-coord.yielded c.in-Some.coord coords_apart
          (Coord (c.loop-coord.dc + 1)) (name_is c.loop-coord.dc (length c.loop-coord.yielded) inv.count)
          inv.back c.give_back.ensures.lent c.give_back.ensures.told c.give_back.ensures.on c.give_back.ensures.others_lent c.give_back.ensures.others;
      start = λ n. c.give_back.ensures.start n ∙ inv.start n;
      faults = c.give_back.ensures.faults ∙ inv.faults;
    }

pub loop-coord-init : goal.loop-coord-init
loop-coord-init g c =
    let all : c.into_iter-coord-iterator.result.rest.items ≡ c.args.coords.items = search rules in
    record {
      count = refl;
      all = all;
      well = all_well _ _ _ all c.requires.well;
      back = none_back _ coord_name (g.F.Farm.is_lent c.args.farm.now) (g.F.Farm.stands c.args.farm.now);
      start = λ n. refl;
      faults = refl;
    }

pub returns-clause-lent : goal.returns-clause-lent
returns-clause-lent g c =
    let empty : length c.loop-coord.coord-iterator.rest.items ≡ 0 = (let s = c.in-None.ensures.steps in let o = c.loop-coord.coord-iterator.rest.ok in omega arith) in
    let back = back_all _ coord_name _ _ _ _ c.loop-coord.yielded c.args.coords.items c.loop-coord.invariant.back (none_left c.loop-coord.yielded c.loop-coord.coord-iterator.rest.items c.args.coords.items c.loop-coord.invariant.all empty) in
    back.free

pub returns-clause-on : goal.returns-clause-on
returns-clause-on g c =
    let empty : length c.loop-coord.coord-iterator.rest.items ≡ 0 = (let s = c.in-None.ensures.steps in let o = c.loop-coord.coord-iterator.rest.ok in omega arith) in
    let back = back_all _ coord_name _ _ _ _ c.loop-coord.yielded c.args.coords.items c.loop-coord.invariant.back (none_left c.loop-coord.yielded c.loop-coord.coord-iterator.rest.items c.args.coords.items c.loop-coord.invariant.all empty) in
    back.on

pub returns-clause-others_lent : goal.returns-clause-others_lent
returns-clause-others_lent g c =
    let empty : length c.loop-coord.coord-iterator.rest.items ≡ 0 = (let s = c.in-None.ensures.steps in let o = c.loop-coord.coord-iterator.rest.ok in omega arith) in
    let back = back_all _ coord_name _ _ _ _ c.loop-coord.yielded c.args.coords.items c.loop-coord.invariant.back (none_left c.loop-coord.yielded c.loop-coord.coord-iterator.rest.items c.args.coords.items c.loop-coord.invariant.all empty) in
    back.others_lent

pub returns-clause-others : goal.returns-clause-others
returns-clause-others g c =
    let empty : length c.loop-coord.coord-iterator.rest.items ≡ 0 = (let s = c.in-None.ensures.steps in let o = c.loop-coord.coord-iterator.rest.ok in omega arith) in
    let back = back_all _ coord_name _ _ _ _ c.loop-coord.yielded c.args.coords.items c.loop-coord.invariant.back (none_left c.loop-coord.yielded c.loop-coord.coord-iterator.rest.items c.args.coords.items c.loop-coord.invariant.all empty) in
    back.others

pub returns-clause-told : goal.returns-clause-told
returns-clause-told g c =
    let empty : length c.loop-coord.coord-iterator.rest.items ≡ 0 = (let s = c.in-None.ensures.steps in let o = c.loop-coord.coord-iterator.rest.ok in omega arith) in
    let back = back_all _ coord_name _ _ _ _ c.loop-coord.yielded c.args.coords.items c.loop-coord.invariant.back (none_left c.loop-coord.yielded c.loop-coord.coord-iterator.rest.items c.args.coords.items c.loop-coord.invariant.all empty) in
    λ r kept. back.told r.ended kept

pub overflow_add-dc : goal.overflow_add-dc
overflow_add-dc g c =
    let some : length c.loop-coord.yielded < length c.args.coords.items = some_left c.loop-coord.yielded _ _ c.args.coords.items c.in-Some.coord c.loop-coord.invariant.all c.in-Some.ensures.steps.0 in
    omega (arith, some, c.requires.few, c.loop-coord.invariant.count)

pub invariant_of-give_back : goal.invariant_of-give_back
invariant_of-give_back g c =
    let some : length c.loop-coord.yielded < length c.args.coords.items = some_left c.loop-coord.yielded _ _ c.args.coords.items c.in-Some.coord c.loop-coord.invariant.all c.in-Some.ensures.steps.0 in
    (omega arith, omega (arith, some, c.requires.few, c.loop-coord.invariant.count))

pub give_back-requires-clause-there : goal.give_back-requires-clause-there
give_back-requires-clause-there g c = next_there _ _ _ c.in-Some.coord c.in-Some.ensures.steps.0 c.loop-coord.invariant.well
