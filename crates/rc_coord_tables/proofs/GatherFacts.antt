-- A yes in the gather of a transaction is the yes in the table.
use Rattle.std.proofs.Common.{◌≡◌, ℕ, nat_eq, Bool, true, false, max, ◌&&◌, if◌then◌else◌, List, [], Option, Some, None, refl, sym, ap, ◌∙◌}
use Rattle.std.specs.Ordering.{nat_cmp}
use Rattle.std.specs.Option.{option_map}
use Rattle.std.specs.Map.{lookup, set_value}
use Rattle.rc_ids.specs.Tables.{Table, found, put, maybe}
use Rattle.rc_body.specs.declared.entry.Entry.{Entry}
use Rattle.rc_protocol.specs.Coordinator.{GatherState, with_yes}
use Rattle.rc_vote.specs.Gathers.{ShardGather, with_shard, waits_for, after_answer, raised}
use Rattle.rc_body.specs.Pages.{TxsDiffer}
use Rattle.rc_coord_tables.specs.declared.gathers.Asked.{Asked}
use Rattle.rc_coord_tables.specs.Maps.{shown_by}
use Rattle.rc_coord_tables.specs.Gathers.{gather_table, gather_of, asked_of, answered, answered_in, raised_to, raised_in, asked_again}
use Rattle.rc_coord_tables.proofs.MapFacts.{shown-found, shown-set}

abbrev with_body : ShardGather → List Entry → GatherState
with_body g body = record { ballot = g.ballot; body = body; yes = g.yes }

pub yes_is : (g new : ShardGather) (body : List Entry) (s : ℕ) → new ≡ after_answer g s true → with_body new body ≡ answered g.touched (with_body g body) s
yes_is g new body s is = ap (λ (x : ShardGather). with_body x body) is ∙ at (waits_for g s)
  where
    at : (b : Bool) → with_body (if b && true then with_shard g s else g) body ≡ (if b then with_yes (with_body g body) s else with_body g body)
    at true = refl
    at false = refl

pub touched_is : (g new : ShardGather) (s : ℕ) → new ≡ after_answer g s true → new.touched ≡ g.touched
touched_is g new s is = ap (λ (x : ShardGather). x.touched) is ∙ at (waits_for g s)
  where
    at : (b : Bool) → (if b && true then with_shard g s else g).touched ≡ g.touched
    at true = refl
    at false = refl

pub raised_is : (g new : ShardGather) (body : List Entry) (b : ℕ) → new ≡ raised g b → with_body new body ≡ raised_to (with_body g body) b
raised_is g new body b is = ap (λ (x : ShardGather). with_body x body) is

pub raised_asks : (g new : ShardGather) (b : ℕ) → new ≡ raised g b → new.touched ≡ g.touched
raised_asks g new b is = ap (λ (x : ShardGather). x.touched) is

module _ (es : List (ℕ × Asked)) (t b : ℕ) (apart : TxsDiffer es) where
  raised_at : (o : Option Asked) → lookup (nat_eq t) es ≡ o
      → raised_in (shown_by gather_of es) t b ≡ maybe (option_map gather_of o) (shown_by gather_of es) (λ x. put nat_cmp (shown_by gather_of es) t (raised_to x b))
  raised_at o is =
      ap (λ (g : Option GatherState). maybe g (shown_by gather_of es) (λ x. put nat_cmp (shown_by gather_of es) t (raised_to x b)))
      (shown-found gather_of es t apart ∙ ap (option_map gather_of) is)

  pub raise-there : (old new : Asked) → lookup (nat_eq t) es ≡ Some old → gather_of new ≡ raised_to (gather_of old) b
      → shown_by gather_of (set_value (nat_eq t) es new) ≡ raised_in (shown_by gather_of es) t b
  raise-there old new there is =
      shown-set gather_of es t old new apart there ∙ ap (λ (x : GatherState). put nat_cmp (shown_by gather_of es) t x) is ∙ sym (raised_at (Some old) there)

  pub raise-none : lookup (nat_eq t) es ≡ None → shown_by gather_of es ≡ raised_in (shown_by gather_of es) t b
  raise-none none = sym (raised_at None none)

module _ (es : List (ℕ × Asked)) (spare t s : ℕ) (apart : TxsDiffer es) where
  abbrev table : Table ℕ GatherState
  table = shown_by gather_of es

  abbrev asks : Table ℕ (List ℕ)
  asks = shown_by asked_of es

  abbrev answered_at : Option GatherState → Option (List ℕ) → Table ℕ GatherState
  answered_at g a = maybe g table (λ x. put nat_cmp table t (answered (maybe a [] (λ shards. shards)) x s))

  in_at : (o : Option Asked) → lookup (nat_eq t) es ≡ o → answered_in (gather_table table asks spare) t s ≡ answered_at (option_map gather_of o) (option_map asked_of o)
  in_at o is =
      ap (λ (g : Option GatherState). answered_at g (found nat_cmp asks t)) (shown-found gather_of es t apart ∙ ap (option_map gather_of) is)
      ∙ ap (λ (a : Option (List ℕ)). answered_at (option_map gather_of o) a) (shown-found asked_of es t apart ∙ ap (option_map asked_of) is)

  again_at : (o : Option Asked) → lookup (nat_eq t) es ≡ o → asked_again asks t ≡ maybe (option_map asked_of o) asks (λ x. put nat_cmp asks t x)
  again_at o is = ap (λ (a : Option (List ℕ)). maybe a asks (λ x. put nat_cmp asks t x)) (shown-found asked_of es t apart ∙ ap (option_map asked_of) is)

  pub yes-there : (old new : Asked) → lookup (nat_eq t) es ≡ Some old → gather_of new ≡ answered (asked_of old) (gather_of old) s
      → shown_by gather_of (set_value (nat_eq t) es new) ≡ answered_in (gather_table table asks spare) t s
  yes-there old new there is =
      shown-set gather_of es t old new apart there ∙ ap (λ (x : GatherState). put nat_cmp table t x) is ∙ sym (in_at (Some old) there)

  pub yes-none : lookup (nat_eq t) es ≡ None → table ≡ answered_in (gather_table table asks spare) t s
  yes-none none = sym (in_at None none)

  pub again-there : (old new : Asked) → lookup (nat_eq t) es ≡ Some old → asked_of new ≡ asked_of old
      → shown_by asked_of (set_value (nat_eq t) es new) ≡ asked_again asks t
  again-there old new there is =
      shown-set asked_of es t old new apart there ∙ ap (λ (x : List ℕ). put nat_cmp asks t x) is ∙ sym (again_at (Some old) there)

  pub again-none : lookup (nat_eq t) es ≡ None → asks ≡ asked_again asks t
  again-none none = sym (again_at None none)
