-- A part of a body has a spelling, and so has a decision that is cut to a part.
use Rattle.std.proofs.Common.{ℕ, suc, ◌≤◌, ◌==◌, Bool, List, [], ◌∷◌, length, arith}
use Rattle.std.specs.Prelude.{filter}
use Rattle.rc_ids.specs.Cluster.{Layout, shard_of}
use Rattle.rc_ids.specs.Texts.{same_key}
use Rattle.rc_body.specs.Bodies.{part, KeysDiffer}
use Rattle.rc_body.specs.Entries.{wears_out}
use Rattle.rc_body.specs.Spelling.{HasEntry, HasBody, HasDecision}
use Rattle.rc_body.specs.declared.entry.Entry.{Entry}
use Rattle.rc_body.specs.declared.decision.Decision.{Decision}
use Rattle.rc_body.specs.declared.decision.Decision.TheVariants.{Commit, Abort}
use Rattle.rc_protocol.specs.Shard.{cut_to_part}
use Rattle.rc_grammar.proofs.Lists.{on_cond, all_filter, none_filtered}

pub filter_short : {A : Type 0} (test : A → Bool) (xs : List A) → length (filter test xs) ≤ length xs
filter_short test [] = omega arith
filter_short test (x ∷ xs) =
    let rest = filter_short test xs in
    on_cond (λ ys. length ys ≤ suc (length xs)) (test x) (x ∷ filter test xs) (filter test xs) (λ _. omega arith) (λ _. omega arith)

keys_filtered : (kept : Entry → Bool) (body : List Entry) → KeysDiffer body → KeysDiffer (filter kept body)
keys_filtered kept [] apart = tt
keys_filtered kept (e ∷ es) apart =
    on_cond KeysDiffer (kept e) (e ∷ filter kept es) (filter kept es)
    (λ _. (none_filtered (λ (x : Entry). same_key x.key e.key) kept es apart.0, keys_filtered kept es apart.1))
    (λ _. keys_filtered kept es apart.1)

pub has_filtered : (kept : Entry → Bool) (body : List Entry) → HasBody body → HasBody (filter kept body)
has_filtered kept body h =
    let short = filter_short kept body in
    let few = h.allowed.few in
    record {
      allowed = record { few = omega arith; lasting = none_filtered wears_out kept body h.allowed.lasting; apart = keys_filtered kept body h.allowed.apart };
      entries = all_filter HasEntry kept body h.entries;
    }

pub has_part : (c : Layout) (sh : ℕ) (body : List Entry) → HasBody body → HasBody (part c sh body)
has_part c sh body h = has_filtered (λ (e : Entry). shard_of c e.key == sh) body h

pub has_cut : (c : Layout) (sh : ℕ) (o : Decision) → HasDecision o → HasDecision (cut_to_part c sh o)
has_cut c sh Abort h = tt
has_cut c sh (Commit body) h = has_part c sh body h
