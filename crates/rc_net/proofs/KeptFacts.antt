-- What is kept of a network, and what is seen of it.
use Rattle.std.proofs.Common.{◌≡◌, ℕ, zero, suc, ◌+◌, ◌-◌, ◌<◌, ◌≤◌, ◌==◌, ◌^◌, nat_lt, nat_le, max, Bool, true, false, ◌&&◌, if◌then◌else◌, List, [], ◌∷◌, ◌++◌, length, find, slice_get, slice_set, Option, Some, None, is_some, MatchOption, replicate, refl, sym, ap, subst, ◌∙◌, arith, append_assoc, length-append}
use Rattle.std.specs.Ordering.{nat_cmp}
use Rattle.std.proofs.lemmas.List.{append-nil}
use Rattle.std.proofs.lemmas.List.Sums.{sum_by-append, sum_by-cons}
use Rattle.rc_ids.specs.Tables.{maybe, member, removed}
use Rattle.rc_ids.specs.Sets.{marked, IsRisingWithin}
use Rattle.rc_ids.proofs.SetFacts.{marked-rises}
use Rattle.rc_ids.specs.declared.names.Party.{Party}
use Rattle.rc_ids.specs.declared.sends.Letter.{Letter}
use Rattle.rc_net.specs.declared.fault.NetFault.TheVariants.{NoSuchMessage, NotPending}
use Rattle.rc_net.specs.declared.parcel.Parcel.{Parcel}
use Rattle.rc_net.specs.Network.{Message, message, one_message, messages, bytes_of, letters_bytes, fits, numbers_after, delivery_fault, loss_fault}
use Rattle.rc_net.specs.Parcels.{Numbered, IsKept, IsQuiet, IsAtPending, count_in, sent_in, marks_in, marks_of}
use Rattle.rc_net.proofs.MarkFacts.{marked-append, marked-trues, removed-marked, member-marked, quiet_append, front_append, quiet_self, quiet_join, quiet_from, quiet_set, front_end, find_after}
use Rattle.rc_net.proofs.ParcelFacts.{length-made, sized_marks, sized_messages}

pub length-sent : (ps : List Parcel) → length (sent_in ps) ≡ count_in ps
length-sent ps = length-made (λ (p : Parcel). messages p.from p.letters) sized_messages ps

pub length-marks : (ps : List Parcel) → length (marks_in ps) ≡ count_in ps
length-marks ps = length-made (λ (p : Parcel). marks_of p.letters) sized_marks ps

-- NUMBERS OF MESSAGES
some-slice_get : {X : Type 0} (xs : List X) (i : ℕ) → is_some (slice_get xs i) ≡ nat_lt i (length xs)
some-slice_get [] i = none i
  where
    none : (i : ℕ) → false ≡ nat_lt i 0
    none i = grind arith
some-slice_get (x ∷ xs) zero = more (length xs)
  where
    more : (n : ℕ) → true ≡ nat_lt 0 (suc n)
    more n = grind arith
some-slice_get (x ∷ xs) (suc i) = some-slice_get xs i ∙ more i (length xs)
  where
    more : (i n : ℕ) → nat_lt i n ≡ nat_lt (suc i) (suc n)
    more i n = grind arith

-- from 1 on a message has the number after its place
pub message-later : (ms : List Message) (n : ℕ) → 1 ≤ n → message ms n ≡ slice_get ms (n - 1)
message-later ms n le = let later : (n == 0) ≡ false = grind arith in ap (λ (b : Bool). if b then None else slice_get ms (n - 1)) later

pub message-none : (ms : List Message) (n : ℕ) → n < 1 → message ms n ≡ None
message-none ms n lt = let none : (n == 0) ≡ true = grind arith in ap (λ (b : Bool). if b then None else slice_get ms (n - 1)) none

pub sent_there : (ms : List Message) (n : ℕ) → 1 ≤ n → is_some (message ms n) ≡ nat_le n (length ms)
sent_there ms n le = ap is_some (message-later ms n le) ∙ some-slice_get ms (n - 1) ∙ shifted n (length ms) le
  where
    shifted : (n m : ℕ) → 1 ≤ n → nat_lt (n - 1) m ≡ nat_le n m
    shifted n m le = grind arith

pub there_bounds : (ms : List Message) (n : ℕ) → is_some (message ms n) ≡ true → (1 ≤ n) × (n ≤ length ms)
there_bounds ms n there = tested (nat_le 1 n) refl
  where
    low : (n : ℕ) → nat_le 1 n ≡ true → 1 ≤ n
    low n e = grind arith

    high : (n m : ℕ) → nat_le n m ≡ true → n ≤ m
    high n m e = grind arith

    none : (n : ℕ) → nat_le 1 n ≡ false → n < 1
    none n e = grind arith

    tested : (b : Bool) → nat_le 1 n ≡ b → (1 ≤ n) × (n ≤ length ms)
    tested true is = (low n is, high n (length ms) (sym (sent_there ms n (low n is)) ∙ there))
    tested false is = absurd (cc (ap is_some (message-none ms n (none n is)), there))

-- THE LEAST PENDING NUMBER
first-found : (b : ℕ) (ms : List Bool) → slice_get (marked (suc b) ms) 0 ≡ find (nat_lt 0) (marked (suc b) ms)
first-found b [] = refl
first-found b (true ∷ ms) = let above : nat_lt 0 (suc b) ≡ true = grind arith in sym (ap (λ (t : Bool). if t then Some (suc b) else find (nat_lt 0) (marked (suc (suc b)) ms)) above)
first-found b (false ∷ ms) = first-found (suc b) ms

module _ (ps : List Parcel) (sent settled left : ℕ) (kept : IsKept ps sent settled left) where
  pub sent_count : sent ≡ length (sent_in ps)
  sent_count = kept.count ∙ sym (length-sent ps)

  pub mark_count : sent ≡ length (marks_in ps)
  mark_count = kept.count ∙ sym (length-marks ps)

  pub least : slice_get (marked 1 (marks_in ps)) 0 ≡ (if nat_lt settled sent then Some (settled + 1) else None)
  least =
      first-found 0 (marks_in ps)
      ∙ find_after (marks_in ps) 0 settled (omega arith) kept.quiet kept.pending
      ∙ ap (λ (n : ℕ). if nat_lt settled n then Some (settled + 1) else None) (sym mark_count)

  pub pending_rises : IsRisingWithin 1 (length (sent_in ps)) (marked 1 (marks_in ps))
  pending_rises =
      let a = sent_count in
      let b = mark_count in
      marked-rises 1 (marks_in ps) 1 (length (sent_in ps)) (omega arith) (omega (arith, a, b))

-- the next pending number
pub next_there : (ms : List Bool) (sent settled n k : ℕ) → sent ≡ length ms → IsQuiet 0 settled ms → IsQuiet (max n settled) k ms → IsAtPending k ms
    → max n settled ≤ k → find (nat_lt n) (marked 1 ms) ≡ (if nat_lt k sent then Some (k + 1) else None)
next_there ms sent settled n k count quiet more front le =
    let low : n ≤ max n settled = grind arith in
    find_after ms n k (omega arith) (quiet_join ms n (max n settled) k low (quiet_from ms n settled quiet) more) front
    ∙ ap (λ (m : ℕ). if nat_lt k m then Some (k + 1) else None) (sym count)

pub next_none : (ms : List Bool) (sent n : ℕ) → sent ≡ length ms → sent ≤ n → find (nat_lt n) (marked 1 ms) ≡ None
next_none ms sent n count le =
    let none : nat_lt n (length ms) ≡ false = grind arith in
    find_after ms n n (omega arith) (quiet_self ms n) (front_end ms n (omega arith))
    ∙ ap (λ (b : Bool). if b then Some (n + 1) else None) none

pub lt_then : (a b x : ℕ) → a < b → (if nat_lt a b then Some x else None) ≡ Some x
lt_then a b x lt = let yes_lt : nat_lt a b ≡ true = grind arith in ap (λ (t : Bool). if t then Some x else None) yes_lt

pub le_then : (a b x : ℕ) → b ≤ a → (if nat_lt a b then Some x else None) ≡ None
le_then a b x le = let not_lt : nat_lt a b ≡ false = grind arith in ap (λ (t : Bool). if t then Some x else None) not_lt

-- ONE MESSAGE SETTLED
pub kept_settled : (ps qs : List Parcel) (sent settled left i next : ℕ) → sent_in qs ≡ sent_in ps → marks_in qs ≡ slice_set (marks_in ps) i false
    → Numbered 1 qs → count_in qs ≡ count_in ps → IsQuiet settled next (marks_in qs) → IsAtPending next (marks_in qs) → settled ≤ next → next ≤ sent
    → IsKept ps sent settled left → IsKept qs sent next left
kept_settled ps qs sent settled left i next same marks numbered count quiet front low high kept = record {
  numbered = numbered;
  count = kept.count ∙ sym count;
  few = kept.few;
  light = ap (λ (ms : List Message). left + bytes_of ms) same ∙ kept.light;
  within = high;
  quiet =
      quiet_join (marks_in qs) 0 settled next (omega arith)
      (subst (λ (ms : List Bool). IsQuiet 0 settled ms) (sym marks) (quiet_set (marks_in ps) settled i kept.quiet)) quiet;
  pending = front;
}

pub settled_pending : (ps : List Parcel) (ms : List Bool) (n : ℕ) → 1 ≤ n → n ≤ count_in ps → ms ≡ slice_set (marks_in ps) (n - 1) false
    → marked 1 ms ≡ removed nat_cmp (marked 1 (marks_in ps)) n
settled_pending ps ms n low high is =
    let size = length-marks ps in
    let same : 1 + (n - 1) ≡ n = omega arith in
    ap (marked 1) is
    ∙ sym (removed-marked 1 (n - 1) (marks_in ps) (omega (arith, size)))
    ∙ ap (λ (k : ℕ). removed nat_cmp (marked 1 (marks_in ps)) k) same

pub member_there : (ps : List Parcel) (n : ℕ) (mark : Bool) → 1 ≤ n → slice_get (marks_in ps) (n - 1) ≡ Some mark → mark ≡ member nat_cmp (marked 1 (marks_in ps)) n
member_there ps n mark low at =
    let same : 1 + (n - 1) ≡ n = omega arith in
    sym (member-marked 1 (n - 1) (marks_in ps) mark at) ∙ ap (λ (k : ℕ). member nat_cmp (marked 1 (marks_in ps)) k) same

-- FAULTS
pub none_is : {X : Type 0} (o : Option X) → is_some o ≡ false → o ≡ None
none_is None e = refl
none_is (Some x) e = absurd cc

pub delivery_none : (sent : List Message) (n : ℕ) → is_some (message sent n) ≡ false → delivery_fault sent n ≡ Some NoSuchMessage
delivery_none sent n none = ap (λ (o : Option Message). maybe o (Some NoSuchMessage) (λ _. None)) (none_is (message sent n) none)

pub delivery_some : (sent : List Message) (n : ℕ) → is_some (message sent n) ≡ true → delivery_fault sent n ≡ None
delivery_some sent n there = chosen (message sent n) there
  where
    chosen : (o : Option Message) → is_some o ≡ true → maybe o (Some NoSuchMessage) (λ _. None) ≡ None
    chosen None e = absurd cc
    chosen (Some x) e = refl

pub loss_none : (sent : List Message) (pending : List ℕ) (n : ℕ) → is_some (message sent n) ≡ false → loss_fault sent pending n ≡ Some NoSuchMessage
loss_none sent pending n none =
    ap (λ (o : Option Message). maybe o (Some NoSuchMessage) (λ _. if member nat_cmp pending n then None else Some NotPending)) (none_is (message sent n) none)

pub loss_some : (sent : List Message) (pending : List ℕ) (n : ℕ) (b : Bool) → is_some (message sent n) ≡ true → member nat_cmp pending n ≡ b
    → loss_fault sent pending n ≡ (if b then None else Some NotPending)
loss_some sent pending n b there is = chosen (message sent n) there ∙ ap (λ (t : Bool). if t then None else Some NotPending) is
  where
    chosen : (o : Option Message) → is_some o ≡ true
        → maybe o (Some NoSuchMessage) (λ _. if member nat_cmp pending n then None else Some NotPending) ≡ (if member nat_cmp pending n then None else Some NotPending)
    chosen None e = absurd cc
    chosen (Some x) e = refl

-- A LIST POSTED
pub sent-post : (ps : List Parcel) (p : Parcel) → sent_in (ps ++ p ∷ []) ≡ sent_in ps ++ messages p.from p.letters
sent-post [] p = append-nil (messages p.from p.letters)
sent-post (q ∷ qs) p =
    ap (λ (ms : List Message). messages q.from q.letters ++ ms) (sent-post qs p)
    ∙ sym (append_assoc (messages q.from q.letters) (sent_in qs) (messages p.from p.letters))

pub marks-post : (ps : List Parcel) (p : Parcel) → marks_in (ps ++ p ∷ []) ≡ marks_in ps ++ marks_of p.letters
marks-post [] p = append-nil (marks_of p.letters)
marks-post (q ∷ qs) p =
    ap (λ (ms : List Bool). marks_of q.letters ++ ms) (marks-post qs p) ∙ sym (append_assoc (marks_of q.letters) (marks_in qs) (marks_of p.letters))

pub count-post : (ps : List Parcel) (p : Parcel) → count_in (ps ++ p ∷ []) ≡ count_in ps + length p.letters
count-post [] p = omega arith
count-post (q ∷ qs) p = let rest = count-post qs p in omega (arith, rest)

pub numbered-post : (b : ℕ) (ps : List Parcel) (p : Parcel) → Numbered b ps → p.first ≡ b + count_in ps → Numbered b (ps ++ p ∷ [])
numbered-post b [] p num first = let e : b + 0 ≡ b = omega arith in (first ∙ e, tt)
numbered-post b (q ∷ qs) p num first =
    let e : b + (length q.letters + count_in qs) ≡ (b + length q.letters) + count_in qs = omega arith in
    (num.0, numbered-post (b + length q.letters) qs p num.1 (first ∙ e))

bytes-append : (xs ys : List Message) → bytes_of (xs ++ ys) ≡ bytes_of xs + bytes_of ys
bytes-append xs ys = sum_by-append (λ (m : Message). length m.bytes) xs ys

pub bytes-messages : (from : Party) (ls : List Letter) → bytes_of (messages from ls) ≡ letters_bytes ls
bytes-messages from [] = refl
bytes-messages from (l ∷ ls) =
    sum_by-cons (λ (m : Message). length m.bytes) (record { from = from; to = l.to; bytes = l.bytes }) (messages from ls)
    ∙ ap (λ (n : ℕ). length l.bytes + n) (bytes-messages from ls)
    ∙ sym (sum_by-cons (λ (x : Letter). length x.bytes) l ls)

pub kept_posted : (ps qs : List Parcel) (sent now settled left after count : ℕ) (ms : List Message) → now ≡ count_in qs → now ≤ 4000000 → Numbered 1 qs
    → sent_in qs ≡ sent_in ps ++ ms → marks_in qs ≡ marks_in ps ++ replicate count true → after + (bytes_of ms + bytes_of (sent_in ps)) ≡ 2 ^ 30
    → IsKept ps sent settled left → IsKept qs now settled after
kept_posted ps qs sent now settled left after count ms total few numbered posted marks light kept =
    let size = length-marks ps in
    let all = kept.count in
    let in_old = kept.within in
    let within : settled ≤ length (marks_in ps) = omega (arith, size, all, in_old) in
    let bytes = ap bytes_of posted ∙ bytes-append (sent_in ps) ms in
    let longer = ap length marks ∙ length-append (marks_in ps) (replicate count true) in
    let size_now = length-marks qs in
    record {
      numbered = numbered;
      count = total;
      few = few;
      light = omega (arith, bytes, light);
      within = omega (arith, within, longer, size_now, total);
      quiet = subst (λ (bs : List Bool). IsQuiet 0 settled bs) (sym marks) (quiet_append (marks_in ps) (replicate count true) settled within kept.quiet);
      pending = subst (λ (bs : List Bool). IsAtPending settled bs) (sym marks) (front_append (marks_in ps) settled count within kept.pending);
    }

pub pending_posted : (ps qs : List Parcel) (count : ℕ) → marks_in qs ≡ marks_in ps ++ replicate count true
    → marked 1 (marks_in qs) ≡ marked 1 (marks_in ps) ++ numbers_after (length (sent_in ps)) count
pending_posted ps qs count marks =
    let size : 1 + length (marks_in ps) ≡ suc (length (sent_in ps)) = let a = length-marks ps in let b = length-sent ps in omega (arith, a, b) in
    ap (marked 1) marks
    ∙ marked-append 1 (marks_in ps) (replicate count true)
    ∙ ap (λ (k : ℕ). marked 1 (marks_in ps) ++ marked k (replicate count true)) size
    ∙ ap (λ (ks : List ℕ). marked 1 (marks_in ps) ++ ks) (marked-trues (length (sent_in ps)) count)

-- WHAT FITS
both : (a b : Bool) → true ≡ (a && b) → (true ≡ a) × (true ≡ b)
both true true e = (refl, refl)
both true false e = absurd cc
both false b e = absurd cc

pub fits_few : (ms : List Message) (count bytes : ℕ) → true ≡ fits ms count bytes → length ms + count ≤ 4000000
fits_few ms count bytes e = few (length ms + count) (both (nat_le (length ms + count) 4000000) (nat_le (bytes_of ms + bytes) (2 ^ 30)) e).0
  where
    few : (n : ℕ) → true ≡ nat_le n 4000000 → n ≤ 4000000
    few n e = grind arith

pub fits_not : (ms : List Message) (sent count bytes : ℕ) → sent ≡ length ms → 4000000 - sent < count → false ≡ fits ms count bytes
fits_not ms sent count bytes is over =
    let many : nat_le (length ms + count) 4000000 ≡ false = grind arith in
    sym (ap (λ (b : Bool). b && nat_le (bytes_of ms + bytes) (2 ^ 30)) many)

pub fits_is : (ms : List Message) (sent left count bytes : ℕ) (o : Option ℕ) → sent ≡ length ms → sent ≤ 4000000 → count ≤ 4000000 - sent
    → left + bytes_of ms ≡ 2 ^ 30 → MatchOption o (left < bytes) (λ rest. rest + bytes ≡ left) → is_some o ≡ fits ms count bytes
fits_is ms sent left count bytes o is low high light said =
    let few : nat_le (length ms + count) 4000000 ≡ true = grind arith in
    chosen o said ∙ sym (ap (λ (b : Bool). b && nat_le (bytes_of ms + bytes) (2 ^ 30)) few)
  where
    over : (n left b total : ℕ) → left + n ≡ total → left < b → false ≡ nat_le (n + b) total
    over n left b total is lt = grind arith

    under : (n left b total : ℕ) → left + n ≡ total → b ≤ left → true ≡ nat_le (n + b) total
    under n left b total is le = grind arith

    chosen : (o : Option ℕ) → MatchOption o (left < bytes) (λ rest. rest + bytes ≡ left) → is_some o ≡ nat_le (bytes_of ms + bytes) (2 ^ 30)
    chosen None lt = over (bytes_of ms) left bytes (2 ^ 30) light lt
    chosen (Some rest) e = under (bytes_of ms) left bytes (2 ^ 30) light (omega arith)

-- FIELDS AND VIEW
pub within_sent : (ps : List Parcel) (sent settled left n : ℕ) (ms : List Message) → IsKept ps sent settled left → sent_in ps ≡ ms
    → is_some (message ms n) ≡ true → n ≤ sent
within_sent ps sent settled left n ms kept is there =
    let high = (there_bounds ms n there).1 in
    let same = sent_count ps sent settled left kept ∙ ap length is in
    omega (arith, high, same)

pub message_same : (f g t u : Party) (a b : List ℕ) → f ≡ g → t ≡ u → a ≡ b → one_message f t a ≡ one_message g u b
message_same f g t u a b x y z =
    ap (λ (p : Party). one_message p t a) x ∙ ap (λ (p : Party). one_message g p a) y ∙ ap (λ (bs : List ℕ). one_message g u bs) z

pub fits_full : (ms : List Message) (sent bytes : ℕ) → sent ≡ length ms → 4000000 ≤ sent → false ≡ fits ms 1 bytes
fits_full ms sent bytes is full =
    let many : nat_le (length ms + 1) 4000000 ≡ false = grind arith in
    sym (ap (λ (b : Bool). b && nat_le (bytes_of ms + bytes) (2 ^ 30)) many)

pub fits_one : (ms : List Message) (sent left bytes : ℕ) → sent ≡ length ms → sent < 4000000 → left + bytes_of ms ≡ 2 ^ 30 → nat_le bytes left ≡ fits ms 1 bytes
fits_one ms sent left bytes is lt light =
    let few : nat_le (length ms + 1) 4000000 ≡ true = grind arith in
    moved (bytes_of ms) left bytes (2 ^ 30) light ∙ sym (ap (λ (b : Bool). b && nat_le (bytes_of ms + bytes) (2 ^ 30)) few)
  where
    moved : (n left b total : ℕ) → left + n ≡ total → nat_le b left ≡ nat_le (n + b) total
    moved n left b total e = grind arith
