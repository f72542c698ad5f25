-- Records that were read have spellings.
use Rattle.std.proofs.Common.{◌≡◌, ℕ, ◌+◌, ◌<◌, List, [], ◌∷◌, ◌++◌, length, get_or, take, Option, Some, None, sym, ap, ◌∙◌, subst}
use Rattle.std.specs.Prelude.{IfSome}
use Rattle.std.specs.List.{AllByRecursion}
use Rattle.std.proofs.Math.Seq.{take-length}
use Rattle.std.proofs.lemmas.Grind.{flat_map-append}
use Rattle.std.proofs.lemmas.List.{append-nil}
use Rattle.rc_ids.specs.Tables.{maybe}
use Rattle.rc_record.specs.Reading.{decoded}
use Rattle.rc_record.specs.Spelling.{HasRecord}
use Rattle.rc_record.specs.declared.record.Record.{Record}
use Rattle.rc_record.specs.declared.record.Record.TheVariants.{Head, Prepared, Finished, Promised, Accepted, Decided}
use Rattle.rc_runs.specs.Stored.{records_of, without_head}
use Rattle.rc_begin.specs.Logs.{records_in, HaveRecords}
use Rattle.rc_begin.proofs.LogSteps.{past_at}

-- what holds of the items of two lists holds of those of both
all_of_both : {X : Type 0} (P : X → Type 0) (xs ys : List X) → AllByRecursion P xs → AllByRecursion P ys → AllByRecursion P (xs ++ ys)
all_of_both P [] ys here more = more
all_of_both P (x ∷ xs) ys here more = (here.0, all_of_both P xs ys here.1 more)

of_record : (r : Record) → HasRecord r → AllByRecursion HasRecord (without_head r)
of_record (Head h) has = tt
of_record (Prepared t part) has = (has, tt)
of_record (Finished page) has = (has, tt)
of_record (Promised t b) has = (has, tt)
of_record (Accepted t b value) has = (has, tt)
of_record (Decided page) has = (has, tt)

of_found : (o : Option Record) → IfSome o HasRecord → AllByRecursion HasRecord (maybe o [] without_head)
of_found None has = tt
of_found (Some r) has = of_record r has

pub blob_has : (o : Option Record) (bytes : List ℕ) → o ≡ decoded bytes → IfSome o HasRecord → AllByRecursion HasRecord (records_in bytes)
blob_has o bytes is has = subst (λ (q : Option Record). AllByRecursion HasRecord (maybe q [] without_head)) is (of_found o has)

pub blobs_have_more : (log : List (List ℕ)) (i : ℕ) (b : List ℕ) → i < length log → b ≡ get_or log i b
    → AllByRecursion HasRecord (records_of (take i log)) → AllByRecursion HasRecord (records_in b) → AllByRecursion HasRecord (records_of (take (i + 1) log))
blobs_have_more log i b lt at before here =
    let one : records_of (b ∷ []) ≡ records_in b = append-nil (records_in b) in
    let both : records_of (take i log ++ b ∷ []) ≡ records_of (take i log) ++ records_in b =
    flat_map-append (λ (bytes : List ℕ). maybe (decoded bytes) [] without_head) (take i log) (b ∷ []) ∙ ap (λ (rs : List Record). records_of (take i log) ++ rs) one in
    subst (AllByRecursion HasRecord) (sym (ap records_of (past_at log i b lt at) ∙ both)) (all_of_both HasRecord (records_of (take i log)) (records_in b) before here)

pub logs_have_more : (logs : List (List (List ℕ))) (i : ℕ) (log : List (List ℕ)) → i < length logs → log ≡ get_or logs i log
    → HaveRecords (take i logs) → AllByRecursion HasRecord (records_of log) → HaveRecords (take (i + 1) logs)
logs_have_more logs i log lt at before here =
    subst HaveRecords (sym (past_at logs i log lt at)) (all_of_both (λ (l : List (List ℕ)). AllByRecursion HasRecord (records_of l)) (take i logs) (log ∷ []) before (here, tt))

-- all were passed
pub all_blobs_have : (log : List (List ℕ)) (i : ℕ) → i ≡ length log → AllByRecursion HasRecord (records_of (take i log)) → AllByRecursion HasRecord (records_of log)
all_blobs_have log i done has = subst (λ (bs : List (List ℕ)). AllByRecursion HasRecord (records_of bs)) (ap (λ (n : ℕ). take n log) done ∙ take-length log) has

pub all_logs_have : (logs : List (List (List ℕ))) (i : ℕ) → i ≡ length logs → HaveRecords (take i logs) → HaveRecords logs
all_logs_have logs i done has = subst HaveRecords (ap (λ (n : ℕ). take n logs) done ∙ take-length logs) has
