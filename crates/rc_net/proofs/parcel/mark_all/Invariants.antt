use Rattle.std.proofs.Common.{◌≡◌, length, take, replicate, true}
use Rattle.rc_ids.specs.declared.names.Party.{Party}
use Rattle.rc_net.specs.Network.{messages}
use Rattle.rc_net.specs.Parcels.{marks_of}
use Rattle.rc_net.proofs.parcel.mark_all.Given as goal

abbrev pub invariant-loop-place : goal.invariant-loop-place
invariant-loop-place l =
    (length l.letters ≡ length l.fn.letters)
    × (take l.place (marks_of l.letters) ≡ replicate l.place true)
    × ((from : Party) → messages from l.letters ≡ messages from l.fn.letters)
