use Rattle.std.proofs.Common.{◌≡◌, ℕ, length, nat_le, nat_lt, false, ap, ◌∙◌, arith}
use Rattle.rc_net.specs.Network.{Network, fits}
use Rattle.rc_net.specs.Parcels.{sent_in}
use Rattle.rc_net.proofs.KeptFacts.{sent_count, fits_full, fits_one}
use Rattle.rc_net.proofs.net.Net.has_room.Goals as goal

pub returns-then-self-lt-MOST_MESSAGES : goal.returns-then-self-lt-MOST_MESSAGES
returns-then-self-lt-MOST_MESSAGES c =
    let f = c.self.inside in
    let bytes = length c.args.bytes.now in
    ap (λ (n : ℕ). nat_le n f.left) c.len.ensures
    ∙ fits_one (sent_in f.parcels.items) f.sent f.left bytes (sent_count f.parcels.items f.sent f.settled f.left c.self.invariant)
    c.if-self-lt-MOST_MESSAGES.true c.self.invariant.light
    ∙ ap (λ (w : Network). fits w.sent 1 bytes) c.self.view_is

pub returns-else-self-lt-MOST_MESSAGES : goal.returns-else-self-lt-MOST_MESSAGES
returns-else-self-lt-MOST_MESSAGES c =
    let f = c.self.inside in
    let bytes = length c.args.bytes.now in
    let full = c.if-self-lt-MOST_MESSAGES.false in
    let not_lt : nat_lt f.sent 4000000 ≡ false = grind arith in
    not_lt
    ∙ fits_full (sent_in f.parcels.items) f.sent bytes (sent_count f.parcels.items f.sent f.settled f.left c.self.invariant) full
    ∙ ap (λ (w : Network). fits w.sent 1 bytes) c.self.view_is
