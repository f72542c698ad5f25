-- The head of the newest format, behind a log that owes one.
use Rattle.std.proofs.Common.{◌≡◌, ℕ, zero, suc, ◌<◌, ◌≤◌, List, [], ◌∷◌, Bool, true, false, cond, Option, Some, None, IfSome, Result, Ok, Err, refl, ap, ◌∙◌, arith}
use Rattle.std.specs.Prelude.{◌==◌, ◌&&◌, not, nat_lt, nat_le, nat_eq, is_none}
use Rattle.std.proofs.lemmas.Bool.{eq-eqb}
use Rattle.std.proofs.lemmas.Bool.Decides.{nat_tests}
use Rattle.std.specs.Cmp.Lexicographic.{pointwise}
use Rattle.rc_ids.specs.Cluster.{Layout, cluster_fault}
use Rattle.rc_ids.specs.Tables.{maybe}
use Rattle.rc_ids.specs.Texts.{same_key}
use Rattle.rc_ids.specs.Parties.{is_same_node}
use Rattle.rc_ids.specs.declared.names.NodeId.{NodeId}
use Rattle.rc_ids.specs.declared.names.NodeId.TheVariants.{Coord, Shard as ShardServer}
use Rattle.rc_fields.specs.Formats.{Reader, ◌>>=◌, mapped_at, tested_at, tagged_at, pick}
use Rattle.rc_fields.specs.Whole.{at_end}
use Rattle.rc_record.specs.Heads.{LogHead, new_head, is_of}
use Rattle.rc_record.specs.Kinds.{head_of}
use Rattle.rc_record.specs.Reading.{decoded, record_at, head_record_at, head_at, head_from, is_head, then_at, front_at, lists_at, prepared_at, finished_at, promised_at, accepted_at, decided_at}
use Rattle.rc_record.specs.Replay.{head_in, newest_head, next_format}
use Rattle.rc_record.specs.declared.fault.ReplayFault.{ReplayFault}
use Rattle.rc_record.specs.declared.fault.ReplayFault.TheVariants.{BadRecord, OtherWorld}
use Rattle.rc_record.specs.declared.record.Record.{Record}
use Rattle.rc_record.specs.declared.record.Record.TheVariants.{Head, Prepared, Finished, Promised, Accepted, Decided}
use Rattle.rc_runs.specs.Stored.{owes_head}

-- FORMATS that are read are known
abbrev Known : Record → Type 0
Known (Head h) = h.format ≤ 3
Known _ = Unit {0}

both_of : (a b : Bool) → (a && b) ≡ true → (a ≡ true) × (b ≡ true)
both_of true true is = (refl, refl)
both_of true false is = absurd (cc)
both_of false b is = absurd (cc)

at_most : (n m : ℕ) → nat_le n m ≡ true → n ≤ m
at_most n m is = grind (arith, nat_tests)

then_known : {A : Type 0} (P : A → Type 0) (o : Option A) (B : Type 0) (Q : B → Type 0) (next : A → Option B) → IfSome o P → ((a : A) → P a → IfSome (next a) Q) → IfSome (o >>= next) Q
then_known P None B Q next is step = tt
then_known P (Some a) B Q next is step = step a is

head_tested : (o : Option (LogHead × List ℕ)) → IfSome (o >>= λ a. cond (is_head a.0) (Some a) None) (λ p. p.0.format ≤ 3)
head_tested None = tt
head_tested (Some a) = by_test (is_head a.0) refl
  where
    by_test : (b : Bool) → is_head a.0 ≡ b → IfSome (cond b (Some a) None) (λ p. p.0.format ≤ 3)
    by_test true is = at_most a.0.format 3 (both_of (nat_le 1 a.0.format) (nat_le a.0.format 3) (both_of (nat_le 1 a.0.format && nat_le a.0.format 3) (is_none (cluster_fault a.0.world)) is).0).1
    by_test false is = tt

head_known : (bytes : List ℕ) → IfSome (head_at bytes) (λ p. p.0.format ≤ 3)
unfolding head_at tested_at
head_known bytes = head_tested (mapped_at head_from (then_at front_at lists_at) bytes)

mapped_known : {A : Type 0} (f : A → Record) (at : Reader A) (P : A → Type 0) (bytes : List ℕ) → IfSome (at bytes) (λ p. P p.0) → ((a : A) → P a → Known (f a)) → IfSome (mapped_at f at bytes) (λ p. Known p.0)
unfolding mapped_at
mapped_known {A} f at P bytes is step = then_known (λ (p : A × List ℕ). P p.0) (at bytes) (Record × List ℕ) (λ p. Known p.0) (λ a. Some (f a.0, a.1)) is (λ a p. step a.0 p)

any : {A : Type 0} (o : Option A) → IfSome o (λ a. Unit {0})
any None = tt
any (Some a) = tt

record_known : (bytes : List ℕ) → IfSome (record_at bytes) (λ p. Known p.0)
unfolding record_at tagged_at pick head_record_at prepared_at finished_at promised_at accepted_at decided_at
record_known [] = tt
record_known (zero ∷ bytes) = mapped_known Head head_at (λ h. h.format ≤ 3) bytes (head_known bytes) (λ h is. is)
record_known ((suc zero) ∷ bytes) = mapped_known _ _ (λ a. Unit {0}) bytes (any _) (λ a is. tt)
record_known ((suc (suc zero)) ∷ bytes) = mapped_known _ _ (λ a. Unit {0}) bytes (any _) (λ a is. tt)
record_known ((suc (suc (suc zero))) ∷ bytes) = mapped_known _ _ (λ a. Unit {0}) bytes (any _) (λ a is. tt)
record_known ((suc (suc (suc (suc zero)))) ∷ bytes) = mapped_known _ _ (λ a. Unit {0}) bytes (any _) (λ a is. tt)
record_known ((suc (suc (suc (suc (suc zero))))) ∷ bytes) = mapped_known _ _ (λ a. Unit {0}) bytes (any _) (λ a is. tt)
record_known ((suc (suc (suc (suc (suc (suc n)))))) ∷ bytes) = tt

ends_known : (p : Record × List ℕ) → Known p.0 → IfSome (at_end p) Known
ends_known (r, []) is = is
ends_known (r, b ∷ bytes) is = tt

decoded_known : (bytes : List ℕ) → IfSome (decoded bytes) Known
unfolding decoded
decoded_known bytes = then_known (λ (p : Record × List ℕ). Known p.0) (record_at bytes) Record Known at_end (record_known bytes) ends_known

head_of_known : (o : Option Record) → IfSome o Known → IfSome (maybe o None head_of) (λ h. h.format ≤ 3)
head_of_known None is = tt
head_of_known (Some (Head h)) is = is
head_of_known (Some (Prepared t part)) is = tt
head_of_known (Some (Finished page)) is = tt
head_of_known (Some (Promised t b)) is = tt
head_of_known (Some (Accepted t b o)) is = tt
head_of_known (Some (Decided page)) is = tt

newest_known : (log : List (List ℕ)) → IfSome (newest_head log) (λ h. h.format ≤ 3)
newest_known [] = tt
newest_known (bytes ∷ log) = either (newest_head log) (head_in bytes) (newest_known log) (head_of_known (decoded bytes) (decoded_known bytes))
  where
    either : (o here : Option LogHead) → IfSome o (λ h. h.format ≤ 3) → IfSome here (λ h. h.format ≤ 3) → IfSome (maybe o here Some) (λ h. h.format ≤ 3)
    either None here is other = other
    either (Some h) here is other = is

-- a log that owes a head is of an older format, and one that owes none of the newest
pub older : (o : Option LogHead) → IfSome o (λ h. h.format ≤ 3) → maybe o true (λ h. not (h.format == 3)) ≡ true → maybe o 0 (λ h. h.format) < 3
older None known owes = omega arith
older (Some h) known owes = grind (arith, nat_tests)

pub newest : (o : Option LogHead) → maybe o true (λ h. not (h.format == 3)) ≡ false → maybe o 0 (λ h. h.format) ≡ 3
newest None owes = absurd (cc)
newest (Some h) owes = grind (arith, nat_tests)

pub owes_older : (blobs : List (List ℕ)) → owes_head blobs ≡ true → maybe (newest_head blobs) 0 (λ h. h.format) < 3
owes_older blobs owes = older (newest_head blobs) (newest_known blobs) owes

-- THE NEWEST HEAD is of the node in this world
same_bytes : (bytes : List ℕ) → pointwise nat_eq bytes bytes ≡ true
same_bytes [] = refl
same_bytes (b ∷ bytes) = ap (λ (v : Bool). v && pointwise nat_eq bytes bytes) (eq-eqb b b refl) ∙ same_bytes bytes

same_keys : (keys : List (List ℕ)) → pointwise same_key keys keys ≡ true
same_keys [] = refl
same_keys (k ∷ keys) = ap (λ (v : Bool). v && pointwise same_key keys keys) (same_bytes k) ∙ same_keys keys

same_node : (node : NodeId) → is_same_node node node ≡ true
same_node (Coord d) = eq-eqb d d refl
same_node (ShardServer d sh) = ap (λ (v : Bool). v && (sh == sh)) (eq-eqb d d refl) ∙ eq-eqb sh sh refl

all_same : (a b c d e : Bool) → a ≡ true → b ≡ true → c ≡ true → d ≡ true → e ≡ true → (a && (b && c && d && e)) ≡ true
all_same a b c d e fa fb fc fd fe = ap (λ (v : Bool). v && (b && c && d && e)) fa ∙ ap (λ (v : Bool). v && c && d && e) fb ∙ ap (λ (v : Bool). v && d && e) fc ∙ ap (λ (v : Bool). v && e) fd ∙ fe

pub newest_is_of : (node : NodeId) (c : Layout) → is_of node c (new_head node c) ≡ true
newest_is_of node c =
    all_same (is_same_node node node) (c.dcs == c.dcs) (c.shards == c.shards) (pointwise same_key c.splits c.splits) (pointwise nat_eq c.weights c.weights)
    (same_node node) (eq-eqb c.dcs c.dcs refl) (eq-eqb c.shards c.shards refl) (same_keys c.splits) (same_bytes c.weights)

-- it may stand behind an older format
pub next_is_newest : (node : NodeId) (c : Layout) (place format : ℕ) → format < 3 → next_format node c place format (new_head node c) ≡ Ok 3
next_is_newest node c place zero less = ap (λ (v : Bool). let z : Result ℕ ReplayFault = cond v (Ok 3) (Err OtherWorld) in z) (newest_is_of node c)
next_is_newest node c place (suc n) less = later (suc n == 0) (nat_lt (suc n) 3) (is_of node c (new_head node c)) not_first (below (suc n) less) (newest_is_of node c)
  where
    below : (m : ℕ) → m < 3 → nat_lt m 3 ≡ true
    below m is = grind (arith, nat_tests)

    not_first : (suc n == 0) ≡ false
    not_first = grind (arith, nat_tests)

    later : (z b o : Bool) → z ≡ false → b ≡ true → o ≡ true → cond {A = Result ℕ ReplayFault} z (cond o (Ok 3) (Err OtherWorld)) (cond (b && o) (Ok 3) (Err (BadRecord place))) ≡ Ok 3
    later true b o first less is = absurd (cc)
    later false false o first less is = absurd (cc)
    later false true false first less is = absurd (cc)
    later false true true first less is = refl
