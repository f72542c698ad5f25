-- Messages among those that were sent, and among those of one act.
use Rattle.std.proofs.Common.{◌≡◌, ℕ, zero, suc, List, [], ◌∷◌, ◌++◌, ap, subst, ◌⊎◌, inl, inr, ⊎_elim}
use Rattle.std.specs.Prelude.{map}
use Rattle.rc_ids.specs.Tables.{In}
use Rattle.rc_ids.specs.Cluster.{Layout}
use Rattle.rc_ids.specs.declared.names.Party.{Party}
use Rattle.rc_msg.specs.declared.msg.Msg.{Msg}
use Rattle.rc_msg.specs.declared.msg.Msg.TheVariants.{ReadAsk, ReadCancel, Granted, Prepared, Voted, Decided, Finish, Abandon, CatchAsk, CatchPage, Propose, Promise}
use Rattle.rc_msg.specs.declared.msg.Envelope.{Envelope}
use Rattle.rc_protocol.specs.Messages.{Posts, coordinator, one, to_each, to_all}
use Rattle.rc_runs.specs.World.{envelopes}

abbrev pub Said : List Envelope → Msg → Type 0
Said [] m = ⊥
Said (e ∷ es) m = (e.msg ≡ m) ⊎ Said es m

abbrev pub Says : Posts → Msg → Type 0
Says [] m = ⊥
Says (x ∷ xs) m = (x.1 ≡ m) ⊎ Says xs m

pub said_more : (xs ys : List Envelope) (m : Msg) → Said xs m → Said (xs ++ ys) m
said_more [] ys m h = absurd h
said_more (x ∷ xs) ys m (inl e) = inl e
said_more (x ∷ xs) ys m (inr h) = inr (said_more xs ys m h)

pub said_new : (xs : List Envelope) (from : Party) (ms : Posts) (m : Msg) → Said (xs ++ envelopes from ms) m → Said xs m ⊎ Says ms m
said_new [] from ms m h = inr (says from ms m h)
  where
    says : (from : Party) (ms : Posts) (m : Msg) → Said (envelopes from ms) m → Says ms m
    says from [] m h = h
    says from (x ∷ ms) m (inl e) = inl e
    says from (x ∷ ms) m (inr h) = inr (says from ms m h)
said_new (x ∷ xs) from ms m (inl e) = inl (inl e)
said_new (x ∷ xs) from ms m (inr h) = ⊎_elim (λ a. inl (inr a)) inr (said_new xs from ms m h)

pub said_in : (xs : List Envelope) (e : Envelope) → In e xs → Said xs e.msg
said_in [] e h = absurd h
said_in (x ∷ xs) e (inl is) = inl (ap (λ (y : Envelope). y.msg) is)
said_in (x ∷ xs) e (inr h) = inr (said_in xs e h)

-- EACH MESSAGE of these is such
pub record Each (Q : Msg → Type 0) (ms : Posts) : Type 0 where
  pub each : (m : Msg) → Says ms m → Q m

module _ (Q : Msg → Type 0) where
  pub each_none : Each Q []
  each_none = record { each = λ m h. absurd h }

  pub each_one : (p : Party) (m : Msg) → Q m → Each Q (one p m)
  each_one p m h = record { each = λ n g. ⊎_elim (λ e. subst Q e h) (λ x. absurd x) g }

  says_either : (xs ys : Posts) (m : Msg) → Says (xs ++ ys) m → Says xs m ⊎ Says ys m
  says_either [] ys m h = inr h
  says_either (x ∷ xs) ys m (inl e) = inl (inl e)
  says_either (x ∷ xs) ys m (inr h) = ⊎_elim (λ a. inl (inr a)) inr (says_either xs ys m h)

  pub each_both : (xs ys : Posts) → Each Q xs → Each Q ys → Each Q (xs ++ ys)
  each_both xs ys p q = record { each = λ m h. ⊎_elim (λ a. p.each m a) (λ b. q.each m b) (says_either xs ys m h) }

  pub each_to : (n : ℕ) (f : ℕ → Posts) → ((d : ℕ) → Each Q (f d)) → Each Q (to_each n f)
  each_to zero f all = each_none
  each_to (suc n) f all = each_both (to_each n f) (f (suc n)) (each_to n f all) (all (suc n))

  pub each_all : (c : Layout) (m : Msg) → Q m → Each Q (to_all c m)
  each_all c m h = each_to c.dcs (λ d. one (coordinator d) m) (λ d. each_one (coordinator d) m h)

  pub each_map : {A : Type 0} (f : A → Party × Msg) (xs : List A) → ((x : A) → Q (f x).1) → Each Q (map f xs)
  each_map f [] all = each_none
  each_map f (x ∷ xs) all = each_both (f x ∷ []) (map f xs) (each_one (f x).0 (f x).1 (all x)) (each_map f xs all)

pub each_weaker : (P Q : Msg → Type 0) (ms : Posts) → ((m : Msg) → P m → Q m) → Each P ms → Each Q ms
each_weaker P Q ms sub h = record { each = λ m says. sub m (h.each m says) }

-- neither a proposal nor a promise
abbrev pub Plain : Msg → Type 0
Plain (Propose t b o) = ⊥
Plain (Promise t b e r) = ⊥
Plain _ = Unit {0}

-- what shard servers say, and clients but for proposals
abbrev pub Modest : Msg → Type 0
Modest (ReadAsk t k) = Unit {0}
Modest (ReadCancel t k) = Unit {0}
Modest (Granted t k d v x) = Unit {0}
Modest (Prepared t s r) = Unit {0}
Modest (Abandon t) = Unit {0}
Modest (CatchAsk p) = Unit {0}
Modest _ = ⊥

-- it tells of no outcome
abbrev pub Mute : Msg → Type 0
Mute (Voted t b e o) = ⊥
Mute (Decided t o) = ⊥
Mute (Finish t o) = ⊥
Mute (CatchPage e p es) = ⊥
Mute _ = Unit {0}

pub modest_plain : (m : Msg) → Modest m → Plain m
modest_plain (Propose t b o) h = h
modest_plain (Promise t b e r) h = h
modest_plain _ h = tt

pub modest_mute : (m : Msg) → Modest m → Mute m
modest_mute (Voted t b e o) h = h
modest_mute (Decided t o) h = h
modest_mute (Finish t o) h = h
modest_mute (CatchPage e p es) h = h
modest_mute _ h = tt
