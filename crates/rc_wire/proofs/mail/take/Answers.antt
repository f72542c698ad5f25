use Rattle.std.proofs.Common.{ℕ, ◌==◌, sym, ap, ◌∙◌, cond}
use Rattle.std.specs.Prelude.{position}
use Rattle.std.specs.Ordering.{nat_cmp}
use Rattle.rc_ids.specs.Tables.{removed}
use Rattle.rc_wire.specs.Traffic.{traffic_of}
use Rattle.rc_wire.proofs.Numbers.{place_found, place_missing}
use Rattle.rc_wire.proofs.mail.take.Goals as goal

pub returns-in-Some-clause-taken : goal.returns-in-Some-clause-taken
returns-in-Some-clause-taken c =
    let n = c.args.number in
    let again = c.args.again.now.items in
    let net = c.args.net.now in
    let is = ap (position (λ (m : ℕ). m == n)) (sym c.as_slice.ensures.value) ∙ sym c.place_of.ensures ∙ c.in-Some.is in
    let f = place_found n again c.in-Some.place is in
    ap (traffic_of net) (c.remove.ensures.items ∙ sym f.1)
    ∙ ap (λ b. cond b (traffic_of net (removed nat_cmp again n)) (record { sent = net.sent; pending = removed nat_cmp net.pending n; again = again })) (sym f.0)

pub returns-clause-taken : goal.returns-clause-taken
returns-clause-taken c =
    let n = c.args.number in
    let again = c.args.again.now.items in
    let net = c.args.net.now in
    let is = ap (position (λ (m : ℕ). m == n)) (sym c.as_slice.ensures.value) ∙ sym c.place_of.ensures ∙ c.in_default.is in
    (λ j. record { sent = c.deliver.ensures.sent j; pending = c.in-Ok.ensures.pending j; again = again })
    ∙ ap (λ b. cond b (traffic_of net (removed nat_cmp again n)) (record { sent = net.sent; pending = removed nat_cmp net.pending n; again = again })) (sym (place_missing n again is))
