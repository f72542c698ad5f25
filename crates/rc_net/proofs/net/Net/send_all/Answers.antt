use Rattle.std.proofs.Common.{◌++◌, ℕ, List, true, length, replicate, ap, ◌∙◌, arith}
use Rattle.rc_net.specs.declared.parcel.Parcel.{Parcel}
use Rattle.rc_net.specs.Network.{Network, messages, bytes_of, letters_bytes, numbers_after}
use Rattle.rc_net.specs.Parcels.{sent_in, marks_in}
use Rattle.rc_net.proofs.KeptFacts.{fits_few, sent_count, kept_posted, pending_posted, bytes-messages}
use Rattle.rc_net.proofs.net.Net.send_all.Goals as goal

pub post-self-inside-requires-clause-few : goal.post-self-inside-requires-clause-few
post-self-inside-requires-clause-few c =
    let f = c.self.inside in
    let few = fits_few c.args.self.now.sent (length c.as_slice.result.now) (letters_bytes c.as_slice.result.now) c.in-Some.ensures.some in
    let size = ap length c.as_slice.ensures in
    let sent = sent_count f.parcels.items f.sent f.settled f.left c.self.invariant ∙ ap (λ (w : Network). length w.sent) c.self.view_is in
    omega (arith, few, size, sent)

pub invariant_of-self-2 : goal.invariant_of-self-2
invariant_of-self-2 c =
    let f = c.self.inside in
    let ps : List Parcel = f.parcels.items in
    let made = c.reserve.ensures.items in
    let done = c.post-self-inside.ensures in
    let sent = done.sent ∙ ap (λ (xs : List Parcel). sent_in xs ++ messages c.args.from c.args.sends) made in
    let marks = done.marks ∙ ap (λ (xs : List Parcel). marks_in xs ++ replicate (length c.args.sends) true) made in
    let said = c.in-Some.ensures.left in
    let asked = ap letters_bytes c.as_slice.ensures in
    let written = bytes-messages c.args.from c.args.sends in
    let view = ap (λ (w : Network). bytes_of w.sent) c.self.view_is in
    kept_posted ps c.post-self-inside.new.parcels.items f.sent c.post-self-inside.result f.settled f.left c.in-Some.left (length c.args.sends)
    (messages c.args.from c.args.sends) done.count done.few done.numbered sent marks (omega (arith, said, asked, written, view)) c.self.invariant

pub returns-clause-pending : goal.returns-clause-pending
returns-clause-pending c =
    let f = c.self.inside in
    let ps : List Parcel = f.parcels.items in
    let count : ℕ = length c.args.sends in
    let marks =
    c.post-self-inside.ensures.marks ∙ ap (λ (xs : List Parcel). marks_in xs ++ replicate count true) c.reserve.ensures.items in
    pending_posted ps c.post-self-inside.new.parcels.items count marks
    ∙ ap (λ (w : Network). w.pending ++ numbers_after (length w.sent) count) c.self.view_is
