-- A client of t stays there; it is as it was, or has done what its cause makes it do.
use Rattle.std.proofs.Common.{◌≡◌, ℕ, refl, sym, ap, ◌∙◌, subst, false, Some, None, ⊎_elim}
use Rattle.std.specs.Ordering.{nat_cmp}
use Rattle.rc_ids.specs.Tables.{found, put}
use Rattle.rc_protocol.specs.Client.{Client, new_client}
use Rattle.rc_protocol.specs.Acts.{ClientCause, client_act}
use Rattle.rc_report.specs.declared.fault.Wrong.TheVariants.{BegunTwice}
use Rattle.rc_runs.specs.declared.event.Event.{Event}
use Rattle.rc_runs.specs.declared.event.Event.TheVariants.{Begin}
use Rattle.rc_runs.specs.World.{World, Parties, Deed, Idle, ByClient, Course, replaced, after_begin, parties_after, course_deed, step}
use Rattle.rc_runs.specs.Refusals.{wrong, is_begun}
use Rattle.rc_agreement.proofs.Cases.{on_cond, never, some_is}
use Rattle.rc_agreement.proofs.Tables.{put_cases, set_cases}
use Rattle.rc_agreement.proofs.Agreeing.{not_begun}
use Rattle.rc_causes.proofs.Moves.{ClientWhy, Move, Rests, ClientActs, CoordActs, CoordWakes, CoordHalts, CoordCrashes, ShardActs, ShardWakes, ShardHalts, ShardCrashes, move_of, coord_joins, shard_joins, client_joins}
use Rattle.rc_quiet.proofs.EventSteps.{begins_or}

-- the client of t after a deed, where it was x
pub data Becomes (v : World) (e : Event) (d : Deed) (t : ℕ) (x y : Client) : Type 0 where
  Rested : y ≡ x → Becomes v e d t x y
  Acted : (k : ClientCause) → ClientWhy v.sent e t k → y ≡ (client_act v.parties.layout t x k).after → d ≡ ByClient t (client_act v.parties.layout t x k) → Becomes v e d t x y

module _ (t : ℕ) (v : World) (e : Event) (course : Course) (ok : wrong v e ≡ None) (x : Client) (is : found nat_cmp v.parties.clients t ≡ Some x) where
  abbrev After : Deed → Type 0
  After d = (y : Client) × (found nat_cmp (parties_after (after_begin v.parties e) d).clients t ≡ Some y) × Becomes v e d t x y

  joined : (d : Deed) → after_begin v.parties e ≡ v.parties → ((y : Client) × (found nat_cmp (parties_after v.parties d).clients t ≡ Some y) × Becomes v e d t x y) → After d
  joined d same h = subst (λ (w : Parties). (y : Client) × (found nat_cmp (parties_after w d).clients t ≡ Some y) × Becomes v e d t x y) (sym same) h

  rested : (d : Deed) → (y : Client) → y ≡ x → Becomes v e d t x y
  rested d y same = Rested same

  -- another client begins
  begun : (u : ℕ) → e ≡ Begin u → After Idle
  begun u b =
      let new : is_begun v.parties u ≡ false = on_cond (λ o. o ≡ None → is_begun v.parties u ≡ false) (is_begun v.parties u) (Some (BegunTwice u)) None (λ _ f. never _ (sym f)) (λ f _. f) (subst (λ (z : Event). wrong v z ≡ None) b ok) in
      let none = not_begun v.parties u new in
      let found_it : found nat_cmp (put nat_cmp v.parties.clients u new_client) t ≡ Some x =
      ⊎_elim
      (λ (h : (t ≡ u) × (found nat_cmp (put nat_cmp v.parties.clients u new_client) t ≡ Some new_client)). never x (sym none ∙ ap (λ (n : ℕ). found nat_cmp v.parties.clients n) (sym h.0) ∙ is))
      (λ (h : (t ≡ u → ⊥) × (found nat_cmp (put nat_cmp v.parties.clients u new_client) t ≡ found nat_cmp v.parties.clients t)). h.1 ∙ is)
      (put_cases t u new_client v.parties.clients) in
      (x, subst (λ (z : Event). found nat_cmp (after_begin v.parties z).clients t ≡ Some x) (sym b) found_it, Rested refl)

  acts : (u : ℕ) (z : Client) (k : ClientCause) → found nat_cmp v.parties.clients u ≡ Some z → ClientWhy v.sent e u k → After (ByClient u (client_act v.parties.layout u z k))
  acts u z k found_it why =
      joined (ByClient u (client_act v.parties.layout u z k)) (client_joins v.parties v.sent e u k why)
      (⊎_elim
      (λ (h : (t ≡ u) × (found nat_cmp (replaced v.parties.clients u (client_act v.parties.layout u z k).after) t ≡ Some (client_act v.parties.layout u z k).after)). own u z k found_it why h.0 h.1)
      (λ (h : (t ≡ u → ⊥) × (found nat_cmp (replaced v.parties.clients u (client_act v.parties.layout u z k).after) t ≡ found nat_cmp v.parties.clients t)). (x, h.1 ∙ is, Rested refl))
      (set_cases t u (client_act v.parties.layout u z k).after z v.parties.clients found_it))
    where
      own : (u : ℕ) (z : Client) (k : ClientCause) → found nat_cmp v.parties.clients u ≡ Some z → ClientWhy v.sent e u k → t ≡ u → found nat_cmp (replaced v.parties.clients u (client_act v.parties.layout u z k).after) t ≡ Some (client_act v.parties.layout u z k).after
          → (y : Client) × (found nat_cmp (replaced v.parties.clients u (client_act v.parties.layout u z k).after) t ≡ Some y) × Becomes v e (ByClient u (client_act v.parties.layout u z k)) t x y
      own u z k found_it why same after =
          let same_client : z ≡ x = some_is z x (sym found_it ∙ ap (λ (n : ℕ). found nat_cmp v.parties.clients n) (sym same) ∙ is) in (
            (client_act v.parties.layout u z k).after,
            after,
            Acted k (subst (λ (n : ℕ). ClientWhy v.sent e n k) (sym same) why) (λ i. (client_act v.parties.layout (sym same i) (same_client i) k).after) (λ i. ByClient (sym same i) (client_act v.parties.layout (sym same i) (same_client i) k)),
          )

  by_move : (d : Deed) → Move v.parties v.sent e course d → After d
  by_move _ Rests = ⊎_elim (λ b. begun b.0 b.1) (λ same. joined Idle (same v.parties) (x, is, Rested refl)) (begins_or e)
  by_move _ (ClientActs u z k found_it why) = acts u z k found_it why
  by_move _ (CoordActs d z k there why) = joined _ (coord_joins v.parties v.sent e d k why) (x, is, Rested refl)
  by_move _ (CoordWakes d z there why) = joined _ (ap (after_begin v.parties) why) (x, is, Rested refl)
  by_move _ (CoordHalts d z k kept r there why logs stops same) = joined _ (coord_joins v.parties v.sent e d k why) (x, is, Rested refl)
  by_move _ (CoordCrashes d z there why) = joined _ (ap (after_begin v.parties) why) (x, is, Rested refl)
  by_move _ (ShardActs d s z k there why) = joined _ (shard_joins v.parties v.sent e d s k why) (x, is, Rested refl)
  by_move _ (ShardWakes d s z there why) = joined _ (ap (after_begin v.parties) why) (x, is, Rested refl)
  by_move _ (ShardHalts d s z k kept r there why logs stops same) = joined _ (shard_joins v.parties v.sent e d s k why) (x, is, Rested refl)
  by_move _ (ShardCrashes d s z there why) = joined _ (ap (after_begin v.parties) why) (x, is, Rested refl)

  pub client_after : (y : Client) × (found nat_cmp (step v e course).parties.clients t ≡ Some y) × Becomes v e (course_deed v e course) t x y
  client_after = by_move (course_deed v e course) (move_of v.parties v.sent e course)
