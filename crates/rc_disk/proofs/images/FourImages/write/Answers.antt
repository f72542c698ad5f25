use Rattle.std.proofs.Common.{◌≡◌, ◌+◌, ◌-◌, ◌≤◌, ◌++◌, List, ℕ, Option, None, Some, length, take, drop, min, max, sym, ◌∙◌, ap, arith, append_assoc}
use Rattle.rc_disk.specs.Calls.{effect, Writes, filled}
use Rattle.rc_disk.specs.Memory.{inked}
use Rattle.rc_disk.proofs.Inked.{inked_none, length-inked, length-written, clean_written}
use Rattle.rc_disk.proofs.images.FourImages.write.Goals as goal

pub returns-clause-made : goal.returns-clause-made
returns-clause-made c =
    let im = c.args.self.now in
    let w = c.args.written.now in
    let p = c.args.place in
    let plain : c.overwrite.new.bytes.items ≡ effect (Writes p w) im.plain.items = c.overwrite.ensures.items ∙ ap (λ (l : List ℕ). take p im.plain.items ++ l ++ drop (p + length w) im.plain.items) (inked_none w) in
    let full : c.overwrite-2.new.bytes.items ≡ effect (Writes p (filled 255 w)) im.full.items = c.overwrite-2.ensures.items ∙ ap (λ (n : ℕ). take p im.full.items ++ inked (Some 255) w ++ drop (p + n) im.full.items) (sym (length-inked (Some 255) w)) in
    let ones : c.overwrite-3.new.bytes.items ≡ effect (Writes p (filled 1 w)) im.ones.items = c.overwrite-3.ensures.items ∙ ap (λ (n : ℕ). take p im.ones.items ++ inked (Some 1) w ++ drop (p + n) im.ones.items) (sym (length-inked (Some 1) w)) in
    λ i. record { synced = im.synced.items; plain = plain i; full = full i; ones = ones i }

length-over : (fill : Option ℕ) (place : ℕ) (old written new : List ℕ) → place ≤ length old
    → new ≡ take place old ++ inked fill written ++ drop (place + length written) old → length new ≡ max (length old) (place + length written)
length-over fill place old written new inside is =
    let n = length-inked fill written in
    let long = length-written place old (inked fill written) inside in
    let same : new ≡ take place old ++ inked fill written ++ drop (place + length (inked fill written)) old =
    is ∙ ap (λ (k : ℕ). take place old ++ inked fill written ++ drop (place + k) old) (sym n) in
    ap length same ∙ long ∙ ap (λ (k : ℕ). max (length old) (place + k)) n

clean_over : (m n place : ℕ) (old synced middle back new : List ℕ) → m ≡ min n place → place ≤ length old → take n old ≡ take n synced
    → new ≡ take place old ++ middle ++ back → take m new ≡ take m synced
clean_over m n place old synced middle back new is inside same made =
    ap (take m) (made ∙ append_assoc (take place old) middle back) ∙ clean_written m n place old synced (middle ++ back) is inside same

pub returns-clause-room : goal.returns-clause-room
returns-clause-room c =
    let im = c.args.self.now in
    let w = c.args.written.now in
    let p = c.args.place in
    let room = c.requires.room in
    let first = c.overwrite.ensures in
    let second = c.overwrite-2.ensures in
    let third = c.overwrite-3.ensures in
    let in_full : p ≤ length im.full.items = omega (arith, c.requires.inside, room.full_len) in
    let in_ones : p ≤ length im.ones.items = omega (arith, c.requires.inside, room.ones_len) in
    let plain_len : length c.overwrite.new.bytes.items ≡ max (length im.plain.items) (p + length w) = length-over None p im.plain.items w _ c.requires.inside first.items in
    let full_len : length c.overwrite-2.new.bytes.items ≡ max (length im.full.items) (p + length w) = length-over (Some 255) p im.full.items w _ in_full second.items in
    let ones_len : length c.overwrite-3.new.bytes.items ≡ max (length im.ones.items) (p + length w) = length-over (Some 1) p im.ones.items w _ in_ones third.items in
    let clean : c.min-self.result ≡ min im.clean p = c.min-self.ensures in
    record {
      full_len = omega (arith, plain_len, full_len, room.full_len);
      ones_len = omega (arith, plain_len, ones_len, room.ones_len);
      synced_cap = omega (arith, plain_len, room.synced_cap, c.requires.spare, c.requires.inside);
      plain_cap = omega (arith, plain_len, room.plain_cap, c.requires.spare, c.requires.inside, first.capacity);
      full_cap = omega (arith, plain_len, room.full_cap, c.requires.spare, c.requires.inside, second.capacity);
      ones_cap = omega (arith, plain_len, room.ones_cap, c.requires.spare, c.requires.inside, third.capacity);
      clean_synced = omega (arith, clean, room.clean_synced);
      clean_plain = omega (arith, clean, plain_len, room.clean_plain);
      plain_same = clean_over _ _ _ _ _ _ _ _ clean c.requires.inside room.plain_same first.items;
      full_same = clean_over _ _ _ _ _ _ _ _ clean in_full room.full_same second.items;
      ones_same = clean_over _ _ _ _ _ _ _ _ clean in_ones room.ones_same third.items;
    }
