use Rattle.std.proofs.Common.{◌≡◌, take}
use Rattle.rc_plain_client.proofs.grant.Grants.with.Given as goal

abbrev pub invariant-loop-own : goal.invariant-loop-own
invariant-loop-own l = l.items.items ≡ take l.own-index l.own-items
