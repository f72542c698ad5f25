-- What the log of a shard server gives back.
use Rattle.std.specs.Prelude.{◌≡◌, ◌<◌, ◌++◌, ℕ, true, false, List, [], ◌∷◌, Result, Ok, IsOkAnd, refl}
use Rattle.std.proofs.Common.{sym, ap, subst, ◌∙◌}
use Rattle.rc_ids.specs.Cluster.{Layout}
use Rattle.rc_ids.specs.declared.names.NodeId.{NodeId}
use Rattle.rc_record.specs.Heads.{new_head}
use Rattle.rc_record.specs.InOrder.{shown}
use Rattle.rc_record.specs.Replay.{shard_replay, newest_head}
use Rattle.rc_record.specs.ShardState.{ShardDurable, new_durable}
use Rattle.rc_record.specs.Spelling.{HasHead}
use Rattle.rc_record.specs.declared.record.Record.TheVariants.{Head}
use Rattle.rc_record.specs.declared.fault.ReplayFault.{ReplayFault}
use Rattle.rc_record.proofs.RecordLaws.{Reads-decoded}
use Rattle.rc_runs.specs.Stored.{fault_of, refusal, records_of, owes_head}
use Rattle.rc_shard.specs.Replays.{GivesBack, reached}
use Rattle.rc_shard.proofs.ReplayFacts.{replays}
use Rattle.rc_host.specs.AnyNode.{NodeDurable, OfShard, OfCoord, shard_back, IsShardServer}
use Rattle.rc_host.specs.Begins.{BeginLaws, newest_bytes, standing_from}
use Rattle.rc_host.specs.NewestHeads.{newest, owes_older}
use Rattle.rc_host.specs.ShardReplays.{Reached, reaches, reached_last, head_step}

-- records that give a state back are not refused
pub shard_gives_back : (node : NodeId) (c : Layout) (blobs : List (List ℕ)) (s : NodeDurable) → shard_back node c blobs s → IsOkAnd (shard_replay node c blobs) (λ durable. OfShard (shown durable) ≡ s)
shard_gives_back node c blobs (OfShard s) back =
    subst (λ (r : Result ShardDurable ReplayFault). IsOkAnd r (λ durable. OfShard (shown durable) ≡ OfShard s)) (sym (replays node c blobs s back)) (ap OfShard back.by_number)
shard_gives_back node c blobs (OfCoord s) back = absurd back

module _ (node : NodeId) (c : Layout) (blobs : List (List ℕ)) (a : ShardDurable) (is : shard_replay node c blobs ≡ Ok a) where
  whole : Reached node c 0 (0, new_durable) blobs a
  whole = reaches node c blobs 0 (0, new_durable) a is (record { parts = tt; finished = tt })

  headed : owes_head blobs ≡ false → GivesBack node c blobs (shown a)
  headed owes =
      let newest_is : whole.format ≡ 3 = whole.format_is ∙ newest (newest_head blobs) owes in record {
        format = 3;
        kept = a;
        headed = refl;
        has_gone = refl;
        gives = subst (λ (n : ℕ). reached node c 0 (0, new_durable) blobs ≡ Ok (n, a)) newest_is whole.gives;
        in_order = whole.in_order;
        by_number = refl;
      }

  gets_head : owes_head blobs ≡ true → HasHead (new_head node c) → GivesBack node c (blobs ++ newest_bytes node c ∷ []) (shown a)
  gets_head owes has =
      let less : whole.format < 3 = subst (λ (n : ℕ). n < 3) (sym whole.format_is) (owes_older blobs owes) in record {
        format = 3;
        kept = a;
        headed = refl;
        has_gone = refl;
        gives = reached_last node c blobs 0 (0, new_durable) (whole.format, a) (3, a) (newest_bytes node c) whole.gives (λ p. head_step node c a whole.format p less (Reads-decoded.again (Head (new_head node c)) has));
        in_order = whole.in_order;
        by_number = refl;
      }

-- what the log of a shard server that begins gives it
pub shard_begins : (node : NodeId) (c : Layout) → IsShardServer node → BeginLaws (λ durable. OfShard (shown durable)) shard_replay shard_back node c
shard_begins node c kind = record {
  refuses = λ blobs. subst (λ (n : NodeId). fault_of (shard_replay n c blobs) ≡ refusal n c blobs) (sym kind.is) refl;
  starts = λ blobs a is. subst (λ (n : NodeId). OfShard (shown a) ≡ (standing_from n (records_of blobs)).durable) (sym kind.is) (ap OfShard (whole node c blobs a is).shows);
  headed = λ blobs a is owes. headed node c blobs a is owes;
  gets_head = λ blobs a is owes has. gets_head node c blobs a is owes has;
}
