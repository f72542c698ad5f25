use Rattle.std.proofs.Common.{◌≡◌, arith, subst, sym}
use Rattle.rc_disk.specs.Calls.{Images}
use Rattle.rc_disk.specs.Memory.{history_of, images_of}
use Rattle.rc_disk.specs.Past.{IsKept}
use Rattle.rc_disk.proofs.Pasts.{kept_on}
use Rattle.rc_disk.proofs.mem_disk.MemDisk.happens.Goals as goal

pub invariant_of-self : goal.invariant_of-self
invariant_of-self c =
    let old = c.args.self.now in
    let noted = c.note.ensures.room in
    record {
      has_calls = old.has_calls;
      has_reads = old.has_reads;
      has_room = c.moves.ensures.room;
      has_past = record { for_events = omega (arith, noted.for_events); for_bytes = noted.for_bytes };
      kept = subst (λ (im : Images). IsKept (history_of c.note.new.self) im) (sym c.moves.ensures.moved)
          (kept_on (history_of old.past) (history_of c.note.new.self) c.args.event c.args.written.now (images_of old.images) c.note.ensures.grows old.kept);
    }
