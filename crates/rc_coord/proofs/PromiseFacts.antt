-- The row of a promise is what the take-over that is kept does.
use Rattle.std.proofs.Common.{◌≡◌, ℕ, ◌==◌, Bool, true, false, not, ◌&&◌, if◌then◌else◌, List, [], Option, Some, None, refl, sym, ap, subst, ◌∙◌, arith}
use Rattle.std.specs.Ordering.{nat_cmp}
use Rattle.rc_ids.specs.Tables.{Table, found, put, maybe, member}
use Rattle.rc_ids.specs.Cluster.{Layout}
use Rattle.rc_body.specs.declared.decision.Decision.{Decision}
use Rattle.rc_msg.specs.declared.msg.Msg.TheVariants.{Propose as ProposeMsg}
use Rattle.rc_msg.specs.Outboxes.{Outbox}
use Rattle.rc_protocol.specs.Messages.{Posts, to_all}
use Rattle.rc_protocol.specs.Coordinator.{TakeoverState, CoordAct, CoordDurable, CoordVolatile, outcome_of, hears, chooses, proposed, waiting_takeover, proposes_or_waits, on_promise, coord_stays, with_takeover}
use Rattle.rc_takeover.specs.TakeOvers.{KeptTakeOver, Foretold, ignored, waiting, abort, reported, foretold, foretells, said, heard_by, gone_on, waits_for}
use Rattle.rc_takeover.specs.declared.answers.Heard.TheVariants.{Ignored as NotHeard}
use Rattle.rc_msg.specs.Posts.{posted_all}
use Rattle.rc_coord_tables.specs.Takeovers.{TakeoverTable, IsIn, only_weighted, heard_in}
use Rattle.rc_node.specs.Acts.{View, Tells, coord_does}
use Rattle.rc_coord.specs.Rows.{proposes}

pub not_false : (x : Bool) → not x ≡ false → x ≡ true
not_false true e = refl
not_false false e = absurd cc

pub same_number : (a b : ℕ) → (a == b) ≡ true → a ≡ b
same_number a b e = grind arith

abbrev sent : Layout → ℕ → ℕ → Option Decision → Posts
sent c t b chosen = maybe chosen [] (λ o. to_all c (ProposeMsg t b o))

proposes-said : (c : Layout) (t b : ℕ) (f : Foretold) (chosen : Option Decision) → foretells f ≡ said chosen → proposes c t b f ≡ sent c t b chosen
proposes-said c t b ignored None is = absurd cc
proposes-said c t b ignored (Some o) is = absurd cc
proposes-said c t b waiting None is = refl
proposes-said c t b waiting (Some o) is = absurd cc
proposes-said c t b abort None is = absurd cc
proposes-said c t b abort (Some o) is = cc
proposes-said c t b (reported d) None is = absurd cc
proposes-said c t b (reported d) (Some o) is = cc

abbrev pub with_takeovers : CoordVolatile → Table ℕ TakeoverState → CoordVolatile
with_takeovers v table = record { gathers = v.gathers; takeovers = table; votes = v.votes; cursors = v.cursors }

module _ (c : Layout) (s : CoordDurable) (v : CoordVolatile) (t b from : ℕ) (report : Option (ℕ × Decision)) (before after : Outbox) where
  abbrev old : View CoordDurable CoordVolatile
  old = record { durable = s; volatile = v; out = before }

  abbrev new : Table ℕ TakeoverState → View CoordDurable CoordVolatile
  new table = record { durable = s; volatile = with_takeovers v table; out = after }

  goes : (k : TakeoverState) (chosen : Option Decision) → k.ballot ≡ b → after ≡ posted_all before (sent c t b chosen)
      → Tells old (new (put nat_cmp v.takeovers t (maybe chosen k (λ _. proposed k))))
      (coord_does s (maybe chosen (record { logs = None; after = with_takeover v t k; sends = []; spent = false }) (λ o. record { logs = None; after = with_takeover v t (proposed k); sends = to_all c (ProposeMsg t k.ballot o); spent = false })))
  goes k None at sends = record { none = refl; durable = refl; volatile = refl; sends = sends; left = refl }
  goes k (Some o) at sends = record {
    none = refl;
    durable = refl;
    volatile = refl;
    sends = sends ∙ ap (λ (n : ℕ). posted_all before (to_all c (ProposeMsg t n o))) (sym at);
    left = refl;
  }

  abbrev waiting_at : Bool → TakeoverState → Option TakeoverState
  waiting_at w k = if w then Some k else None

  waits_is : (k : TakeoverState) → outcome_of s.outcomes t ≡ None → found nat_cmp v.takeovers t ≡ Some k → (k.ballot == b) ≡ true
      → waiting_takeover s v t b from ≡ waiting_at (waits_for k from) k
  waits_is k none there at =
      ap (λ (o : Option Decision). maybe o (maybe (found nat_cmp v.takeovers t) None (λ k. if (k.ballot == b) && (not k.has_proposed && not (member nat_cmp k.heard from)) then Some k else None)) (λ _. None)) none
      ∙ ap (λ (f : Option TakeoverState). maybe f None (λ (k : TakeoverState). if (k.ballot == b) && (not k.has_proposed && not (member nat_cmp k.heard from)) then Some k else None)) there
      ∙ ap (λ (e : Bool). if e && (not k.has_proposed && not (member nat_cmp k.heard from)) then Some k else None) at

  abbrev act_at : Option TakeoverState → CoordAct
  act_at o = maybe o (coord_stays v) (λ k. proposes_or_waits c v t (hears k from report))

  abbrev table_at : Bool → TakeoverState → Table ℕ TakeoverState
  table_at w k = if w then put nat_cmp v.takeovers t (gone_on c (hears k from report)) else v.takeovers

  at-wait : (w : Bool) (k : TakeoverState) (f : Foretold) → k.ballot ≡ b → foretells f ≡ (if w then said (chooses c (hears k from report)) else NotHeard)
      → after ≡ posted_all before (proposes c t b f) → Tells old (new (table_at w k)) (coord_does s (act_at (waiting_at w k)))
  at-wait true k f at told sends =
      goes (hears k from report) (chooses c (hears k from report)) at (sends ∙ ap (posted_all before) (proposes-said c t b f (chooses c (hears k from report)) told))
  at-wait false k f at told sends = record { none = refl; durable = refl; volatile = refl; sends = sends ∙ ap (posted_all before) (quiet f told); left = refl }
    where
      quiet : (f : Foretold) → foretells f ≡ NotHeard → proposes c t b f ≡ []
      quiet ignored is = refl
      quiet waiting is = absurd cc
      quiet abort is = absurd cc
      quiet (reported d) is = absurd cc

  pub promise-tells : (x : TakeoverTable) (kept : KeptTakeOver) (table : Table ℕ TakeoverState) → x.table ≡ v.takeovers → x.dcs ≡ c.dcs → x.weights ≡ c.weights → IsIn x.dcs x.weights kept
      → outcome_of s.outcomes t ≡ None → found nat_cmp x.table t ≡ Some kept.state → kept.state.ballot ≡ b → (kept.state.ballot == b) ≡ true
      → heard_by kept from report ≡ foretells (foretold kept from report)
      → after ≡ posted_all before (proposes c t b (foretold kept from report)) → table ≡ heard_in x t from report
      → Tells old (new table) (coord_does s (on_promise c s v t b from report))
  promise-tells x kept table same dcs weights fit none there at equal told sends is =
      let k : TakeoverState = kept.state in
      subst (λ (n : Table ℕ TakeoverState). Tells old (new n) (coord_does s (on_promise c s v t b from report)))
      (sym (is ∙ ap (λ (o : Option TakeoverState). maybe o x.table (λ y. if waits_for y from then put nat_cmp x.table t (gone_on (only_weighted x.dcs x.weights) (hears y from report)) else x.table)) there
      ∙ ap (λ (z : Table ℕ TakeoverState). if waits_for k from then put nat_cmp z t (gone_on (only_weighted x.dcs x.weights) (hears k from report)) else z) same
      ∙ ap (λ (d : ℕ). if waits_for k from then put nat_cmp v.takeovers t (gone_on (only_weighted d x.weights) (hears k from report)) else v.takeovers) dcs
      ∙ ap (λ (w : List ℕ). if waits_for k from then put nat_cmp v.takeovers t (gone_on (only_weighted c.dcs w) (hears k from report)) else v.takeovers) weights))
      (subst (λ (o : Option TakeoverState). Tells old (new (table_at (waits_for k from) k)) (coord_does s (act_at o))) (sym (waits_is k none (ap (λ z. found nat_cmp z t) (sym same) ∙ there) equal))
      (at-wait (waits_for k from) k (foretold kept from report) at
      (sym told ∙ ap (λ (d : ℕ). if waits_for k from then said (chooses (only_weighted d kept.weights) (hears k from report)) else NotHeard) (fit.0 ∙ dcs)
      ∙ ap (λ (w : List ℕ). if waits_for k from then said (chooses (only_weighted c.dcs w) (hears k from report)) else NotHeard) (fit.1 ∙ weights))
      sends))
