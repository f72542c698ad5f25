-- Messages to each of 1 to n.
use Rattle.std.proofs.Common.{◌≡◌, ℕ, suc, ◌+◌, ◌++◌, append_assoc, add-one, refl}
use Rattle.rc_protocol.specs.Messages.{Posts, to_each}

pub to_each_more : (f : ℕ → Posts) (n : ℕ) (a b c : Posts) → b ≡ a ++ to_each n f → c ≡ b ++ f (n + 1)
    → c ≡ a ++ to_each (n + 1) f
to_each_more f n a b c p q = rw (q, p) (rw add-one (append_assoc a (to_each n f) (f (suc n))))
