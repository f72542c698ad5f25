-- A promise in the take-over of a transaction is the promise in the table.
use Rattle.std.proofs.Common.{◌≡◌, ℕ, nat_eq, Bool, true, false, if◌then◌else◌, List, Bor, Option, Some, None, refl, sym, ap, ◌∙◌}
use Rattle.std.specs.Ordering.{nat_cmp}
use Rattle.std.specs.Option.{option_map, option_copied, IfSome}
use Rattle.std.specs.Map.{lookup, set_value}
use Rattle.rc_ids.specs.Tables.{Table, put, maybe}
use Rattle.rc_body.specs.declared.decision.Decision.{Decision}
use Rattle.rc_protocol.specs.Coordinator.{TakeoverState, hears}
use Rattle.rc_takeover.specs.TakeOvers.{KeptTakeOver, with_state, cluster_of, waits_for, gone_on, after_promise}
use Rattle.rc_coord_tables.specs.Maps.{shown_by, IsList}
use Rattle.rc_coord_tables.specs.Takeovers.{takeover_table, state_of, IsIn, only_weighted, heard_in}
use Rattle.rc_coord_tables.proofs.MapFacts.{set_same, shown-found, shown-set, all-found}

module _ (dcs : ℕ) (weights : List ℕ) (es : List (ℕ × KeptTakeOver)) (spare t from : ℕ) (report : Option (ℕ × Decision)) (list : IsList (IsIn dcs weights) es) where
  abbrev table : Table ℕ TakeoverState
  table = shown_by state_of es

  abbrev heard_one : Bool → TakeoverState → Table ℕ TakeoverState
  heard_one w x = if w then put nat_cmp table t (gone_on (only_weighted dcs weights) (hears x from report)) else table

  heard_at : (o : Option KeptTakeOver) → lookup (nat_eq t) es ≡ o
      → heard_in (takeover_table dcs weights table spare) t from report ≡ maybe (option_map state_of o) table (λ x. heard_one (waits_for x from) x)
  heard_at o is =
      ap (λ (f : Option TakeoverState). maybe f table (λ x. heard_one (waits_for x from) x)) (shown-found state_of es t list.apart ∙ ap (option_map state_of) is)

  went_on : (k : KeptTakeOver) → IsIn dcs weights k → gone_on (cluster_of k) (hears k.state from report) ≡ gone_on (only_weighted dcs weights) (hears k.state from report)
  went_on k fit =
      ap (λ (d : ℕ). gone_on (only_weighted d k.weights) (hears k.state from report)) fit.0
      ∙ ap (λ (w : List ℕ). gone_on (only_weighted dcs w) (hears k.state from report)) fit.1

  there-at : (w : Bool) (old new : KeptTakeOver) → lookup (nat_eq t) es ≡ Some old → IsIn dcs weights old
      → new ≡ (if w then with_state old (gone_on (cluster_of old) (hears old.state from report)) else old)
      → shown_by state_of (set_value (nat_eq t) es new) ≡ heard_one w old.state
  there-at true old new there fit is =
      shown-set state_of es t old new list.apart there ∙ ap (λ (x : TakeoverState). put nat_cmp table t x) (ap state_of is ∙ went_on old fit)
  there-at false old new there fit is =
      ap (λ (x : KeptTakeOver). shown_by state_of (set_value (nat_eq t) es x)) is ∙ ap (shown_by state_of) (set_same es t old there)

  pub hear-there : (old new : KeptTakeOver) → lookup (nat_eq t) es ≡ Some old → IsIn dcs weights old → new ≡ after_promise old from report
      → shown_by state_of (set_value (nat_eq t) es new) ≡ heard_in (takeover_table dcs weights table spare) t from report
  hear-there old new there fit is = there-at (waits_for old.state from) old new there fit is ∙ sym (heard_at (Some old) there)

  pub hear-none : lookup (nat_eq t) es ≡ None → table ≡ heard_in (takeover_table dcs weights table spare) t from report
  hear-none none = sym (heard_at None none)

-- it stays one of the same datacentres
dcs_if : (b : Bool) (k : KeptTakeOver) (x : TakeoverState) → (if b then with_state k x else k).dcs ≡ k.dcs
dcs_if true k x = refl
dcs_if false k x = refl

weights_if : (b : Bool) (k : KeptTakeOver) (x : TakeoverState) → (if b then with_state k x else k).weights ≡ k.weights
weights_if true k x = refl
weights_if false k x = refl

pub fits-after : (dcs : ℕ) (weights : List ℕ) (old new : KeptTakeOver) (from : ℕ) (report : Option (ℕ × Decision))
    → IsIn dcs weights old → new ≡ after_promise old from report → IsIn dcs weights new
fits-after dcs weights old new from report fit is =
    let x : TakeoverState = gone_on (cluster_of old) (hears old.state from report) in (
      ap (λ (k : KeptTakeOver). k.dcs) is ∙ dcs_if (waits_for old.state from) old x ∙ fit.0,
      ap (λ (k : KeptTakeOver). k.weights) is ∙ weights_if (waits_for old.state from) old x ∙ fit.1,
    )

pub fit-seen : (dcs : ℕ) (weights : List ℕ) (es : List (ℕ × KeptTakeOver)) (t : ℕ) → IsList (IsIn dcs weights) es
    → (r : Option (Bor KeptTakeOver)) → option_copied r ≡ lookup (nat_eq t) es → IfSome r (λ (k : Bor KeptTakeOver). IsIn dcs weights k.now)
fit-seen dcs weights es t list None is = tt
fit-seen dcs weights es t list (Some k) is = all-found (IsIn dcs weights) es t k.now list.fit (sym is)
