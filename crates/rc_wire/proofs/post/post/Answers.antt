use Rattle.std.proofs.Common.{◌≡◌, suc, ◌+◌, ◌++◌, length, subst, ap, ◌∙◌, arith}
use Rattle.rc_ids.specs.Sets.{IsRisingWithin}
use Rattle.rc_net.specs.Network.{messages}
use Rattle.rc_wire.specs.Traffic.{Traffic, traffic_of, arrived}
use Rattle.rc_wire.proofs.Arrivals.{half_more}
use Rattle.rc_wire.proofs.post.post.Goals as goal

pub loop-number-preserved : goal.loop-number-preserved
loop-number-preserved c =
    let i = c.loop-number.invariant in
    let t = traffic_of c.args.net.now c.args.again.now.items in
    let sent = c.args.net.now.sent ++ messages c.args.party.now c.args.sends in
    let first = c.count-first.result in
    let last = c.count-last.result in
    let number = c.loop-number.number in
    let next : number + 1 ≡ suc number = omega arith in
    let rules = c.args.rules.now in
    record {
      low = let l = i.low in omega arith;
      high = let h = c.loop-number-test.true in omega arith;
      traffic = c.arrive.ensures.traffic ∙ ap (λ (x : Traffic). arrived rules x (number + 1)) i.traffic
          ∙ half_more rules t sent first number last (number + 1) next i.low c.loop-number-test.true
          (λ lost. (length c.loop-number.net.sent, subst (λ (x : Traffic). IsRisingWithin 1 (length c.loop-number.net.sent) x.pending) i.traffic (c.arrive.ensures.rising lost)));
      room = let l = c.arrive.ensures.len in let k = c.arrive.ensures.capacity in let r = i.room in let h = c.loop-number-test.true in omega arith;
    }
