use Rattle.std.proofs.Common.{◌≡◌, true, take, drop}
use Rattle.std.specs.List.{list_all}
use Rattle.rc_ids.specs.Cluster.{rise_after, is_key}
use Rattle.rc_ids.proofs.cluster.rise.Given as goal

abbrev pub invariant-loop-key : goal.invariant-loop-key
invariant-loop-key l = record {
  rises : rise_after l.last (drop l.key-index l.rest) ≡ rise_after l.initial.last l.rest;
  keys : list_all is_key (take l.key-index l.rest) ≡ true;
  first : is_key l.initial.last ≡ true;
}
