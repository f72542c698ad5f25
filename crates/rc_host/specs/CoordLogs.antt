-- What the log of a coordinator gives back.
use Rattle.std.specs.Prelude.{◌≡◌, ◌<◌, ◌++◌, ℕ, true, false, List, [], ◌∷◌, Result, Ok, IsOkAnd, refl}
use Rattle.std.proofs.Common.{lit≤, sym, ap, subst, ◌∙◌}
use Rattle.rc_ids.specs.Cluster.{Layout}
use Rattle.rc_ids.specs.declared.names.NodeId.{NodeId}
use Rattle.rc_record.specs.Heads.{new_head}
use Rattle.rc_record.specs.Replay.{coord_replay, newest_head}
use Rattle.rc_record.specs.CoordState.{CoordDurable, new_durable}
use Rattle.rc_record.specs.Spelling.{HasHead}
use Rattle.rc_record.specs.declared.record.Record.TheVariants.{Head}
use Rattle.rc_record.specs.declared.fault.ReplayFault.{ReplayFault}
use Rattle.rc_record.proofs.RecordLaws.{Reads-decoded}
use Rattle.rc_runs.specs.Stored.{fault_of, refusal, records_of, owes_head}
use Rattle.rc_coord.specs.Replays.{GivesBack, reached}
use Rattle.rc_host.specs.AnyNode.{NodeDurable, OfShard, OfCoord, IsCoordinator, coord_back}
use Rattle.rc_host.specs.Begins.{BeginLaws, newest_bytes, standing_from}
use Rattle.rc_host.specs.NewestHeads.{newest, owes_older}
use Rattle.rc_host.specs.CoordReplays.{Reached, reaches, replays, reached_last, head_step}

-- records that give a state back are not refused
pub coord_gives_back : (node : NodeId) (c : Layout) (blobs : List (List ℕ)) (s : NodeDurable) → coord_back node c blobs s → IsOkAnd (coord_replay node c blobs) (λ durable. OfCoord durable ≡ s)
coord_gives_back node c blobs (OfCoord s) back =
    subst (λ (r : Result CoordDurable ReplayFault). IsOkAnd r (λ durable. OfCoord durable ≡ OfCoord s)) (sym (replays node c blobs s back)) refl
coord_gives_back node c blobs (OfShard s) back = absurd back

module _ (node : NodeId) (c : Layout) (blobs : List (List ℕ)) (a : CoordDurable) (is : coord_replay node c blobs ≡ Ok a) where
  whole : Reached node c 0 (0, new_durable) blobs a
  whole = reaches node c blobs 0 (0, new_durable) a is

  headed : owes_head blobs ≡ false → GivesBack node c blobs a
  headed owes =
      let newest_is : whole.format ≡ 3 = whole.format_is ∙ newest (newest_head blobs) owes in record {
        format = 3;
        newest = lit≤ tt;
        gives = subst (λ (n : ℕ). reached node c 0 (0, new_durable) blobs ≡ Ok (n, a)) newest_is whole.gives;
      }

  gets_head : owes_head blobs ≡ true → HasHead (new_head node c) → GivesBack node c (blobs ++ newest_bytes node c ∷ []) a
  gets_head owes has =
      let less : whole.format < 3 = subst (λ (n : ℕ). n < 3) (sym whole.format_is) (owes_older blobs owes) in record {
        format = 3;
        newest = lit≤ tt;
        gives = reached_last node c blobs 0 (0, new_durable) (whole.format, a) (3, a) (newest_bytes node c) whole.gives (λ p. head_step node c a whole.format p less (Reads-decoded.again (Head (new_head node c)) has));
      }

-- what the log of a coordinator that begins gives it
pub coord_begins : (node : NodeId) (c : Layout) → IsCoordinator node c → BeginLaws (λ durable. OfCoord durable) coord_replay coord_back node c
coord_begins node c kind = record {
  refuses = λ blobs. subst (λ (n : NodeId). fault_of (coord_replay n c blobs) ≡ refusal n c blobs) (sym kind.is) refl;
  starts = λ blobs a is. subst (λ (n : NodeId). OfCoord a ≡ (standing_from n (records_of blobs)).durable) (sym kind.is) (ap OfCoord (whole node c blobs a is).shows);
  headed = λ blobs a is owes. headed node c blobs a is owes;
  gets_head = λ blobs a is owes has. gets_head node c blobs a is owes has;
}
