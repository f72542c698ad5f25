use Rattle.std.proofs.Common.{◌≡◌, ℕ, ◌+◌, ◌<◌, ◌∷◌, [], length, refl, rules, sym, ap, ◌∙◌, arith, length-append}
use Rattle.rc_begin.specs.Places.{shard_name}
use Rattle.rc_begin.proofs.Leaving.{rest_well, all_well}
use Rattle.rc_begin.proofs.GivenBack.{shards_apart, some_shards, none_back, one_back_at, back_all, told_at, none_left, some_left, next_left}
use Rattle.rc_begin.proofs.closing.give_shards_back.Goals as goal

pub loop-host-preserved : goal.loop-host-preserved
loop-host-preserved g c =
    let inv = c.loop-host.invariant in
    let some : length c.loop-host.yielded < length c.args.shards.items = some_left c.loop-host.yielded _ _ c.args.shards.items c.in-Some.host inv.all c.in-Some.ensures.steps.0 in
    let apart = shards_apart c.args.cluster.now (some_shards (length c.loop-host.yielded) (length c.args.shards.items) c.args.cluster.now some c.requires.few) in
    record {
      count = ap (λ (n : ℕ). n + 1) inv.count ∙ sym (length-append c.loop-host.yielded (c.in-Some.host ∷ []));
      all = next_left c.loop-host.yielded _ _ c.args.shards.items c.in-Some.host inv.all c.in-Some.ensures.steps.0;
      well = rest_well _ _ _ c.in-Some.host c.in-Some.ensures.steps.0 inv.well;
      back = one_back_at _ (shard_name c.args.cluster.now) (g.F.Farm.is_lent c.args.farm.now) (g.F.Farm.is_lent c.loop-host.farm) (g.F.Farm.is_lent c.give_back.new.farm)
          (g.F.Farm.stands c.args.farm.now) (g.F.Farm.stands c.loop-host.farm) (g.F.Farm.stands c.give_back.new.farm) c.loop-host.yielded c.in-Some.host apart
          c.server_at-node.result (c.server_at-node.ensures ∙ ap (shard_name c.args.cluster.now) inv.count)
          inv.back c.give_back.ensures.lent c.give_back.ensures.told c.give_back.ensures.on c.give_back.ensures.others_lent c.give_back.ensures.others;
      start = λ n. c.give_back.ensures.start n ∙ inv.start n;
      faults = c.give_back.ensures.faults ∙ inv.faults;
    }

pub loop-host-init : goal.loop-host-init
loop-host-init g c =
    let all : c.into_iter-host-iterator.result.rest.items ≡ c.args.shards.items = search rules in
    record {
      count = refl;
      all = all;
      well = all_well _ _ _ all c.requires.well;
      back = none_back _ (shard_name c.args.cluster.now) (g.F.Farm.is_lent c.args.farm.now) (g.F.Farm.stands c.args.farm.now);
      start = λ n. refl;
      faults = refl;
    }

pub returns-clause-lent : goal.returns-clause-lent
returns-clause-lent g c =
    let empty : length c.loop-host.host-iterator.rest.items ≡ 0 = (let s = c.in-None.ensures.steps in let o = c.loop-host.host-iterator.rest.ok in omega arith) in
    let back = back_all _ (shard_name c.args.cluster.now) _ _ _ _ c.loop-host.yielded c.args.shards.items c.loop-host.invariant.back (none_left c.loop-host.yielded c.loop-host.host-iterator.rest.items c.args.shards.items c.loop-host.invariant.all empty) in
    back.free

pub returns-clause-on : goal.returns-clause-on
returns-clause-on g c =
    let empty : length c.loop-host.host-iterator.rest.items ≡ 0 = (let s = c.in-None.ensures.steps in let o = c.loop-host.host-iterator.rest.ok in omega arith) in
    let back = back_all _ (shard_name c.args.cluster.now) _ _ _ _ c.loop-host.yielded c.args.shards.items c.loop-host.invariant.back (none_left c.loop-host.yielded c.loop-host.host-iterator.rest.items c.args.shards.items c.loop-host.invariant.all empty) in
    back.on

pub returns-clause-others_lent : goal.returns-clause-others_lent
returns-clause-others_lent g c =
    let empty : length c.loop-host.host-iterator.rest.items ≡ 0 = (let s = c.in-None.ensures.steps in let o = c.loop-host.host-iterator.rest.ok in omega arith) in
    let back = back_all _ (shard_name c.args.cluster.now) _ _ _ _ c.loop-host.yielded c.args.shards.items c.loop-host.invariant.back (none_left c.loop-host.yielded c.loop-host.host-iterator.rest.items c.args.shards.items c.loop-host.invariant.all empty) in
    back.others_lent

pub returns-clause-others : goal.returns-clause-others
returns-clause-others g c =
    let empty : length c.loop-host.host-iterator.rest.items ≡ 0 = (let s = c.in-None.ensures.steps in let o = c.loop-host.host-iterator.rest.ok in omega arith) in
    let back = back_all _ (shard_name c.args.cluster.now) _ _ _ _ c.loop-host.yielded c.args.shards.items c.loop-host.invariant.back (none_left c.loop-host.yielded c.loop-host.host-iterator.rest.items c.args.shards.items c.loop-host.invariant.all empty) in
    back.others

pub returns-clause-told : goal.returns-clause-told
returns-clause-told g c =
    let empty : length c.loop-host.host-iterator.rest.items ≡ 0 = (let s = c.in-None.ensures.steps in let o = c.loop-host.host-iterator.rest.ok in omega arith) in
    let back = back_all _ (shard_name c.args.cluster.now) _ _ _ _ c.loop-host.yielded c.args.shards.items c.loop-host.invariant.back (none_left c.loop-host.yielded c.loop-host.host-iterator.rest.items c.args.shards.items c.loop-host.invariant.all empty) in
    λ r same kept. told_at _ c.args.cluster.now _ _ _ _ c.args.shards.items back r.cluster same r.ended kept
