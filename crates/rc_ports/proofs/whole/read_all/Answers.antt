use Rattle.rc_ports.proofs.Pieces.{lost_on, part_lost}
use Rattle.rc_ports.proofs.whole.read_all.Goals as goal

pub returns-in_err-extend_from_slice-clause-part : goal.returns-in_err-extend_from_slice-clause-part
returns-in_err-extend_from_slice-clause-part g c =
    part_lost _ _ _ _ (lost_on _ _ _ _ _ c.loop-buffer.invariant.so_far c.in_ok-count.ensures.bytes.0)
