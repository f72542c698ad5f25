-- What one act says to whom.
use Rattle.std.proofs.Common.{◌≡◌, ℕ, zero, suc, List, [], ◌∷◌, ◌++◌, sym, ap, subst, ◌⊎◌, inl, inr, ⊎_elim}
use Rattle.std.specs.Prelude.{map}
use Rattle.rc_ids.specs.Tables.{In}
use Rattle.rc_ids.specs.Cluster.{Layout}
use Rattle.rc_ids.specs.declared.names.Party.{Party}
use Rattle.rc_msg.specs.declared.msg.Msg.{Msg}
use Rattle.rc_msg.specs.declared.msg.Envelope.{Envelope}
use Rattle.rc_protocol.specs.Messages.{Posts, coordinator, one, to_each, to_all}
use Rattle.rc_runs.specs.World.{envelopes}
use Rattle.rc_agreement.proofs.Tables.{in_either}
use Rattle.rc_agreement.proofs.Said.{Says}

pub record EachTo (Q : Party → Msg → Type 0) (ms : Posts) : Type 0 where
  pub each : (to : Party) (m : Msg) → In (to, m) ms → Q to m

module _ (Q : Party → Msg → Type 0) where
  pub to_none : EachTo Q []
  to_none = record { each = λ to m h. absurd h }

  pub to_one : (p : Party) (m : Msg) → Q p m → EachTo Q (one p m)
  to_one p m h = record { each = λ to n i. ⊎_elim (λ (e : (p, m) ≡ (to, n)). subst (λ (z : Party × Msg). Q z.0 z.1) e h) (λ x. absurd x) i }

  pub to_both : (xs ys : Posts) → EachTo Q xs → EachTo Q ys → EachTo Q (xs ++ ys)
  to_both xs ys p q = record { each = λ to m i. ⊎_elim (λ a. p.each to m a) (λ b. q.each to m b) (in_either (to, m) xs ys i) }

  pub to_many : (n : ℕ) (f : ℕ → Posts) → ((d : ℕ) → EachTo Q (f d)) → EachTo Q (to_each n f)
  to_many zero f all = to_none
  to_many (suc n) f all = to_both (to_each n f) (f (suc n)) (to_many n f all) (all (suc n))

  pub to_coords : (c : Layout) (m : Msg) → ((d : ℕ) → Q (coordinator d) m) → EachTo Q (to_all c m)
  to_coords c m h = to_many c.dcs (λ d. one (coordinator d) m) (λ d. to_one (coordinator d) m (h d))

  pub to_map : {A : Type 0} (f : A → Party × Msg) (xs : List A) → ((x : A) → Q (f x).0 (f x).1) → EachTo Q (map f xs)
  to_map f [] all = to_none
  to_map f (x ∷ xs) all = to_both (f x ∷ []) (map f xs) (to_one (f x).0 (f x).1 (all x)) (to_map f xs all)

pub says_to : (ms : Posts) (to : Party) (m : Msg) → In (to, m) ms → Says ms m
says_to [] to m i = i
says_to (x ∷ xs) to m (inl e) = inl (ap (λ (z : Party × Msg). z.1) e)
says_to (x ∷ xs) to m (inr i) = inr (says_to xs to m i)

-- an envelope is an old one or one of these sends
pub in_sent : (xs : List Envelope) (from : Party) (ms : Posts) (e : Envelope) → In e (xs ++ envelopes from ms) → In e xs ⊎ (In (e.to, e.msg) ms × (e.from ≡ from))
in_sent xs from ms e i = ⊎_elim inl (λ j. inr (new ms j)) (in_either e xs (envelopes from ms) i)
  where
    new : (ms : Posts) → In e (envelopes from ms) → In (e.to, e.msg) ms × (e.from ≡ from)
    new [] j = absurd j
    new (m ∷ ms) j = ⊎_elim
        (λ (is : record { from = from; to = m.0; msg = m.1 } ≡ e). (inl (ap (λ (z : Envelope). (z.to, z.msg)) is), ap (λ (z : Envelope). z.from) (sym is)))
        (λ k. let z = new ms k in (inr z.0, z.1)) j
