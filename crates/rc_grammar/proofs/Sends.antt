-- Messages to many.
use Rattle.std.proofs.Common.{ℕ, zero, suc, ◌≤◌, ◌++◌, arith}
use Rattle.rc_ids.specs.Cluster.{Layout, IsLayout}
use Rattle.rc_ids.specs.declared.names.Party.{Party}
use Rattle.rc_fields.specs.Ranges.{IsPartyName}
use Rattle.rc_msg.specs.declared.msg.Msg.{Msg}
use Rattle.rc_msg.specs.Spelling.{HasMsg}
use Rattle.rc_protocol.specs.Messages.{Posts, coordinator, one, to_each, to_all}
use Rattle.rc_grammar.specs.Acts.{HasPost, HasPosts}
use Rattle.rc_grammar.proofs.Lists.{all_both}
use Rattle.rc_grammar.proofs.Ranges.{dc_within}

pub to_one : (to : Party) (m : Msg) → IsPartyName to → HasMsg m → HasPosts (one to m)
to_one to m name h = ((name, h), tt)

pub to_both : (xs ys : Posts) → HasPosts xs → HasPosts ys → HasPosts (xs ++ ys)
to_both xs ys p q = all_both HasPost xs ys p q

pub to_many : (n : ℕ) (f : ℕ → Posts) → ((d : ℕ) → 1 ≤ d → d ≤ n → HasPosts (f d)) → HasPosts (to_each n f)
to_many zero f all = tt
to_many (suc n) f all = to_both (to_each n f) (f (suc n)) (to_many n f (λ d low high. all d low (omega arith))) (all (suc n) (omega arith) (omega arith))

pub to_coords : (c : Layout) → IsLayout c → (m : Msg) → HasMsg m → HasPosts (to_all c m)
to_coords c h m q = to_many c.dcs (λ d. one (coordinator d) m) (λ d low high. to_one (coordinator d) m (dc_within c h d low high) q)
