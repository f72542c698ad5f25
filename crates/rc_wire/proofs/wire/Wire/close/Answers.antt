use Rattle.std.proofs.Common.{◌<◌, ℕ, List, length, sym, ap, ◌∙◌, subst}
use Rattle.atomic_table.specs.Seated.{TableId}
use Rattle.rc_wire.specs.declared.pass.Known.{Known}
use Rattle.rc_wire.specs.Chronicle.{Chronicle, chronicle}
use Rattle.rc_wire.specs.Places.{AreSeatsOf, all_known_at, passes_of}
use Rattle.rc_wire.specs.Turns.{AreParts}
use Rattle.rc_wire.proofs.Closing.{all_parts, all_counted, cards_length}
use Rattle.rc_wire.proofs.Knowing.{known_length}
use Rattle.rc_wire.proofs.wire.Wire.close.Goals as goal

pub gather_all-requires-clause-seats : goal.gather_all-requires-clause-seats
gather_all-requires-clause-seats g c =
    let named = c.args.self.named in
    subst (λ (y : TableId × Chronicle). AreSeatsOf y.0 y.1 c.into_list.result.items) (λ j. (sym named.0 j, sym named.1 j)) c.into_list.ensures.seats

pub close-hub-requires-clause-all : goal.close-hub-requires-clause-all
close-hub-requires-clause-all g c =
    let key = c.args.self.lock.board.shared.key in
    let items = c.into_list.result.items in
    let is = c.args.self.named.1 in (
      _,
      c.gather_all.ensures.cards,
      cards_length key items ∙ ap (λ (z : Chronicle). length (all_known_at z items)) is ∙ ap length c.into_list.ensures.known ∙ c.requires ∙ sym (ap (λ (z : Chronicle). length z.parties) is) ∙ sym (known_length key 0 key.parties),
    )

pub returns-clause-parts : goal.returns-clause-parts
returns-clause-parts g c =
    let key = c.args.self.lock.board.shared.key in
    let items = c.into_list.result.items in
    let named = c.args.self.named in
    let seats = subst (λ (y : TableId × Chronicle). AreSeatsOf y.0 y.1 items) (λ j. (sym named.0 j, sym named.1 j)) c.into_list.ensures.seats in
    let known = ap (λ (z : Chronicle). all_known_at z items) named.1 ∙ c.into_list.ensures.known in
    let closed = c.close-hub.ensures.closed _ c.gather_all.ensures.cards in
    let turns = c.of.ensures ∙ c.into_turns.ensures in
    subst (λ (y : Chronicle × List Known). AreParts y.0 y.1) (λ j. (chronicle (named.1 j).rules (named.1 j).parties (sym turns j), known j))
    (all_parts c.args.self.lock.board.shared.table_id key _ closed.turns c.close-hub.result items seats closed.fit)

pub returns-clause-each : goal.returns-clause-each
returns-clause-each g c seat lt =
    let key = c.args.self.lock.board.shared.key in
    let items = c.into_list.result.items in
    let named = c.args.self.named in
    let seats = subst (λ (y : TableId × Chronicle). AreSeatsOf y.0 y.1 items) (λ j. (sym named.0 j, sym named.1 j)) c.into_list.ensures.seats in
    let known = ap (λ (z : Chronicle). all_known_at z items) named.1 ∙ c.into_list.ensures.known in
    let closed = c.close-hub.ensures.closed _ c.gather_all.ensures.cards in
    let many = known_length key 0 key.parties ∙ ap (λ (z : Chronicle). length z.parties) named.1 in
    ap (passes_of seat) (sym known) ∙ all_counted c.args.self.lock.board.shared.table_id key seat items seats ∙ closed.seats seat (subst (λ (k : ℕ). seat < k) (sym many) lt)
