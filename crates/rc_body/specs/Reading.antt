-- Reading bodies, decisions, reasons, reports and pages.
use Rattle.std.specs.Prelude.{ℕ, true, Bool, not, ◌&&◌, nat_le, List, [], ◌∷◌, length, Option}
use Rattle.std.specs.List.{list_any}
use Rattle.rc_fields.specs.Formats.{Reader, nothing_at, both_at, mapped_at, tested_at, tagged_at, pick, none_at, option_at, list_at}
use Rattle.rc_fields.specs.Names.{key_at, value_at, tx_at, ballot_at, version_at}
use Rattle.rc_body.specs.Entries.{wears_out}
use Rattle.rc_body.specs.Bodies.{has_key}
use Rattle.rc_body.specs.Pages.{has_tx}
use Rattle.rc_body.specs.declared.entry.Entry.{Entry}
use Rattle.rc_body.specs.declared.decision.Decision.{Decision}
use Rattle.rc_body.specs.declared.decision.Decision.TheVariants.{Commit, Abort}
use Rattle.rc_body.specs.declared.reason.Reason.{Reason}
use Rattle.rc_body.specs.declared.reason.Reason.TheVariants.{Locked, Lost, Stale, Promised}

unfoldable pub held_at : Reader (Option (List ℕ))
held_at = option_at value_at

-- an entry by its key, version and what is written
abbrev pub entry_from : List ℕ × (ℕ × Option (List ℕ)) → Entry
entry_from e = record { key = e.0; version = e.1.0; write = e.1.1 }

unfoldable pub entry_at : Reader Entry
entry_at = mapped_at entry_from (both_at key_at (both_at version_at held_at))

-- no key comes twice
abbrev pub keys_differ : List Entry → Bool
keys_differ [] = true
keys_differ (e ∷ es) = not (has_key e.key es) && keys_differ es

abbrev pub is_body : List Entry → Bool
is_body body = nat_le (length body) 32 && not (list_any wears_out body) && keys_differ body

unfoldable pub body_at : Reader (List Entry)
body_at = tested_at is_body (list_at entry_at)

abbrev pub abort : Unit {0} → Decision
abort u = Abort

unfoldable pub decision_at : Reader Decision
decision_at = tagged_at (pick (mapped_at abort nothing_at ∷ mapped_at Commit body_at ∷ []))

abbrev pub locked : List ℕ × ℕ → Reason
locked r = Locked r.0 r.1

abbrev pub stale : List ℕ × ℕ → Reason
stale r = Stale r.0 r.1

unfoldable pub reason_at : Reader Reason
reason_at =
    tagged_at
    (pick
    (none_at ∷ mapped_at locked (both_at key_at tx_at) ∷ mapped_at Lost key_at ∷ mapped_at stale (both_at key_at version_at) ∷ mapped_at Promised ballot_at ∷ []))

unfoldable pub report_at : Reader (Option (ℕ × Decision))
report_at = option_at (both_at ballot_at decision_at)

-- no transaction comes twice
abbrev pub txs_differ : List (ℕ × Decision) → Bool
txs_differ [] = true
txs_differ (x ∷ xs) = not (has_tx x.0 xs) && txs_differ xs

abbrev pub is_page : List (ℕ × Decision) → Bool
is_page page = nat_le (length page) 64 && txs_differ page

unfoldable pub page_at : Reader (List (ℕ × Decision))
page_at = tested_at is_page (list_at (both_at tx_at decision_at))
