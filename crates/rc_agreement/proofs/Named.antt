-- The transactions that logs name, and what is left of tables and messages when all others are dropped.
use Rattle.std.proofs.Common.{◌≡◌, ℕ, List, [], ◌∷◌, refl, sym, ap, ◌∙◌, subst, Bool, true, false, cond, Option, Some, None, inl, inr, ⊎_elim, true≢false}
use Rattle.std.specs.Prelude.{filter, slice_get}
use Rattle.std.specs.List.{list_any}
use Rattle.std.specs.Ordering.{nat_cmp, is_eq}
use Rattle.std.specs.FinMap.{nat_cmp-IsAntisymmetric}
use Rattle.rc_ids.specs.Tables.{In, Table, found, maybe, member, added}
use Rattle.rc_ids.proofs.QuorumFacts.{member-in}
use Rattle.rc_body.specs.declared.entry.Entry.{Entry}
use Rattle.rc_body.specs.declared.decision.Decision.{Decision}
use Rattle.rc_msg.specs.declared.msg.Msg.{Msg}
use Rattle.rc_msg.specs.declared.msg.Msg.TheVariants.{Propose}
use Rattle.rc_msg.specs.declared.msg.Envelope.{Envelope}
use Rattle.rc_record.specs.declared.record.Record.{Record}
use Rattle.rc_record.specs.declared.record.Record.TheVariants.{Head, Prepared, Finished, Promised, Accepted, Decided}
use Rattle.rc_protocol.specs.Client.{Client}
use Rattle.rc_protocol.specs.Nodes.{CoordNode, ShardNode, coord_index, shard_index, coord_started, shard_started, with_txs, with_named, with_log}
use Rattle.rc_runs.specs.World.{Parties, coord_at, shard_at}
use Rattle.rc_claims.specs.Outcomes.{is_named}
use Rattle.rc_agreement.proofs.Cases.{on_cond, never, or_left, or_right}
use Rattle.rc_agreement.proofs.Tables.{added_has, got_in, to_equal}
use Rattle.rc_agreement.proofs.Lists.{any_some}
use Rattle.rc_agreement.proofs.Places.{node_at, server_at, coord_dc, shard_there}
use Rattle.rc_agreement.proofs.Said.{Said}

-- NAMES
txs_keep : (t : ℕ) (es : List (ℕ × Decision)) (named : List ℕ) → In t named → In t (with_txs named es)
txs_keep t [] named h = h
txs_keep t (e ∷ es) named h = txs_keep t es (added nat_cmp named e.0) (added_has t e.0 named (inr h))

record_keeps : (t : ℕ) (r : Record) (named : List ℕ) → In t named → In t (with_named named r)
record_keeps t (Prepared u p) named h = added_has t u named (inr h)
record_keeps t (Finished es) named h = txs_keep t es named h
record_keeps t (Promised u b) named h = added_has t u named (inr h)
record_keeps t (Accepted u b o) named h = added_has t u named (inr h)
record_keeps t (Decided es) named h = txs_keep t es named h
record_keeps t (Head p) named h = h

pub log_keeps : (t : ℕ) (rs : List Record) (named : List ℕ) → In t named → In t (with_log named rs)
log_keeps t [] named h = h
log_keeps t (r ∷ rs) named h = log_keeps t rs (with_named named r) (record_keeps t r named h)

-- a record that names t
pub Names : ℕ → Record → Type 0
Names t r = (named : List ℕ) → In t (with_named named r)

pub vote_names : (t b : ℕ) (o : Decision) → Names t (Accepted t b o)
unfolding Names
vote_names t b o named = added_has t t named (inl refl)

pub part_names : (t : ℕ) (p : List Entry) → Names t (Prepared t p)
unfolding Names
part_names t p named = added_has t t named (inl refl)

log_names : (t : ℕ) (r : Record) → Names t r → (rs : List Record) (named : List ℕ) → In r rs → In t (with_log named rs)
unfolding Names
log_names t r n [] named h = absurd h
log_names t r n (x ∷ rs) named (inl e) = log_keeps t rs (with_named named x) (subst (λ (y : Record). In t (with_named named y)) (sym e) (n named))
log_names t r n (x ∷ rs) named (inr h) = log_names t r n rs (with_named named x) h

-- what stands in a coordinator's log is named
pub coord_named : (w : Parties) (d t : ℕ) (r : Record) → Names t r → In r (node_at w d).log → is_named w t ≡ true
coord_named w d t r n h = go (coord_at w d) refl h
  where
    go : (o : Option CoordNode) → coord_at w d ≡ o → In r (maybe o (coord_started []) (λ x. x)).log → is_named w t ≡ true
    go None is h = absurd h
    go (Some x) is h =
        let dc = coord_dc w d x is in
        let got : slice_get w.coords (coord_index d) ≡ Some x = rw dc at is in
        or_left (list_any (λ (y : CoordNode). member nat_cmp (with_log [] y.log) t) w.coords) _
        (any_some (λ (y : CoordNode). member nat_cmp (with_log [] y.log) t) w.coords x (got_in w.coords (coord_index d) x got) (member-in (with_log [] x.log) t (log_names t r n x.log [] h)))

-- and in a shard server's
pub shard_named : (w : Parties) (d sh t : ℕ) (r : Record) → Names t r → In r (server_at w d sh).log → is_named w t ≡ true
shard_named w d sh t r n h = go (shard_at w d sh) refl h
  where
    go : (o : Option ShardNode) → shard_at w d sh ≡ o → In r (maybe o (shard_started []) (λ x. x)).log → is_named w t ≡ true
    go None is h = absurd h
    go (Some x) is h =
        let there = shard_there w d sh x is in
        let got : slice_get w.shards (shard_index w.layout d sh) ≡ Some x = rw there at is in
        or_right (list_any (λ (y : CoordNode). member nat_cmp (with_log [] y.log) t) w.coords) _
        (any_some (λ (y : ShardNode). member nat_cmp (with_log [] y.log) t) w.shards x (got_in w.shards (shard_index w.layout d sh) x got) (member-in (with_log [] x.log) t (log_names t r n x.log [] h)))

-- WHAT IS LEFT of clients
pub found_filter : (p : ℕ → Bool) (t : ℕ) (m : Table ℕ Client) → ((x : Client) → found nat_cmp (filter (λ (e : ℕ × Client). p e.0) m) t ≡ Some x → p t ≡ true)
    × (p t ≡ true → found nat_cmp (filter (λ (e : ℕ × Client). p e.0) m) t ≡ found nat_cmp m t)
found_filter p t [] = ((λ x e. never x e), (λ _. refl))
found_filter p t (e ∷ m) = go (found_filter p t m) (p e.0) refl (is_eq (nat_cmp t e.0)) refl
  where
    same : is_eq (nat_cmp t e.0) ≡ true → t ≡ e.0
    same te = nat_cmp-IsAntisymmetric t e.0 (to_equal (nat_cmp t e.0) te)

    go : ((x : Client) → found nat_cmp (filter (λ (e : ℕ × Client). p e.0) m) t ≡ Some x → p t ≡ true) × (p t ≡ true → found nat_cmp (filter (λ (e : ℕ × Client). p e.0) m) t ≡ found nat_cmp m t)
        → (b : Bool) → p e.0 ≡ b → (v : Bool) → is_eq (nat_cmp t e.0) ≡ v
        → ((x : Client) → found nat_cmp (cond b (e ∷ filter (λ (e : ℕ × Client). p e.0) m) (filter (λ (e : ℕ × Client). p e.0) m)) t ≡ Some x → p t ≡ true)
        × (p t ≡ true → found nat_cmp (cond b (e ∷ filter (λ (e : ℕ × Client). p e.0) m) (filter (λ (e : ℕ × Client). p e.0) m)) t ≡ cond v (Some e.1) (found nat_cmp m t))
    go ih true pe true te = ((λ x _. ap p (same te) ∙ pe), (λ _. rw te))
    go ih true pe false te = ((λ x i. ih.0 x (rw te at i)), (λ h. rw te (ih.1 h)))
    go ih false pe true te = ((λ x i. ih.0 x i), (λ h. absurd (true≢false (sym h ∙ ap p (same te) ∙ pe))))
    go ih false pe false te = ((λ x i. ih.0 x i), (λ h. ih.1 h))

-- and of messages: the proposals
abbrev pub is_old : (ℕ → Bool) → Msg → Bool
is_old p (Propose t b o) = p t
is_old p _ = false

pub old_messages : (ℕ → Bool) → List Envelope → List Envelope
old_messages p xs = filter (λ (e : Envelope). is_old p e.msg) xs

pub old_in : (p : ℕ → Bool) (xs : List Envelope) (e : Envelope) → In e (old_messages p xs) → In e xs × (is_old p e.msg ≡ true)
unfolding old_messages
old_in p [] e h = absurd h
old_in p (x ∷ xs) e h =
    on_cond (λ (z : List Envelope). In e z → In e (x ∷ xs) × (is_old p e.msg ≡ true)) (is_old p x.msg) (x ∷ old_messages p xs) (old_messages p xs)
    (λ t j. ⊎_elim (λ (k : x ≡ e). (inl k, ap (λ (y : Envelope). is_old p y.msg) (sym k) ∙ t)) (λ k. let r = old_in p xs e k in (inr r.0, r.1)) j)
    (λ _ j. let r = old_in p xs e j in (inr r.0, r.1)) h

pub said_old : (p : ℕ → Bool) (xs : List Envelope) (m : Msg) → Said (old_messages p xs) m → Said xs m × (is_old p m ≡ true)
unfolding old_messages
said_old p [] m h = absurd h
said_old p (x ∷ xs) m h =
    on_cond (λ (z : List Envelope). Said z m → Said (x ∷ xs) m × (is_old p m ≡ true)) (is_old p x.msg) (x ∷ old_messages p xs) (old_messages p xs)
    (λ t j. ⊎_elim (λ (e : x.msg ≡ m). (inl e, ap (is_old p) (sym e) ∙ t)) (λ k. let r = said_old p xs m k in (inr r.0, r.1)) j)
    (λ _ j. let r = said_old p xs m j in (inr r.0, r.1)) h

pub said_kept : (p : ℕ → Bool) (xs : List Envelope) (m : Msg) → Said xs m → is_old p m ≡ true → Said (old_messages p xs) m
unfolding old_messages
said_kept p [] m h o = absurd h
said_kept p (x ∷ xs) m h o =
    on_cond (λ (z : List Envelope). Said z m) (is_old p x.msg) (x ∷ old_messages p xs) (old_messages p xs)
    (λ t. ⊎_elim inl (λ k. inr (said_kept p xs m k o)) h)
    (λ f. ⊎_elim (λ (e : x.msg ≡ m). absurd (true≢false (sym o ∙ ap (is_old p) (sym e) ∙ f))) (λ k. said_kept p xs m k o) h)
