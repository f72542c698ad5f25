use Rattle.std.proofs.Common.{◌≡◌, ◌≤◌, ◌+◌, ℕ, length, vec_capacity, sym, subst}
use Rattle.rc_disk.specs.Calls.{Images}
use Rattle.rc_disk.specs.Memory.{HasPast, history_of, images_of}
use Rattle.rc_disk.specs.Past.{History, IsKept}
use Rattle.rc_disk.proofs.mem_disk.MemDiskDisk.room.Goals as goal

kept_same : (old new : History) (im im' : Images) → new ≡ old → im' ≡ im → IsKept old im → IsKept new im'
kept_same old new im im' same images kept = subst (λ (i : Images). IsKept new i) (sym images) (subst (λ (h : History). IsKept h im) (sym same) kept)

pub invariant_of-self : goal.invariant_of-self
invariant_of-self c =
    let old = c.args.self.now in
    record {
      has_calls = old.has_calls;
      has_reads = old.has_reads;
      has_room = old.has_room;
      has_past = c.reserve.ensures.keeps _ _ old.has_past;
      kept = subst (λ (h : History). IsKept h (images_of old.images)) (sym c.reserve.ensures.same) old.kept;
    }

pub invariant_of-self-in-Break-branch-2 : goal.invariant_of-self-in-Break-branch-2
invariant_of-self-in-Break-branch-2 c =
    let old = c.args.self.now in
    record {
      has_calls = c.reserve-2.ensures.room;
      has_reads = old.has_reads;
      has_room = old.has_room;
      has_past = subst (λ (n : ℕ). HasPast c.reserve.new.self n old.spare) (sym c.in_err-reserve-2.ensures.err) (c.reserve.ensures.keeps _ _ old.has_past);
      kept = subst (λ (h : History). IsKept h (images_of old.images)) (sym c.reserve.ensures.same) old.kept;
    }

pub invariant_of-self-in-Break-branch-3 : goal.invariant_of-self-in-Break-branch-3
invariant_of-self-in-Break-branch-3 c =
    let old = c.args.self.now in
    let keeps : HasPast c.reserve.new.self old.calls.spare old.spare = c.reserve.ensures.keeps _ _ old.has_past in
    record {
      has_calls = c.reserve-2.ensures.room;
      has_reads = old.has_reads;
      has_room = c.in_err-reserve-3.ensures.err;
      has_past = record {
        for_events = subst (λ (n : ℕ). length c.reserve.new.self.events.items + n ≤ vec_capacity c.reserve.new.self.events) (sym c.in_ok-reserve-2.ensures.ok) c.in_ok-reserve.ensures.ok.for_events;
        for_bytes = keeps.for_bytes;
      };
      kept = kept_same (history_of old.past) (history_of c.reserve.new.self) (images_of old.images) (images_of c.reserve-3.new.self) c.reserve.ensures.same c.reserve-3.ensures.same old.kept;
    }
