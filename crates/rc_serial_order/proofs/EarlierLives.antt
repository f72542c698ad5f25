-- What earlier lives chose stays chosen, and the map that their logs give holds their writes.
use Rattle.std.proofs.Common.{◌≡◌, ℕ, List, [], ◌∷◌, refl, subst, inl, inr, ⊎_elim, sym}
use Rattle.rc_ids.specs.Tables.{In}
use Rattle.rc_ids.specs.Cluster.{Layout, IsLayout}
use Rattle.rc_body.specs.declared.entry.Entry.{Entry}
use Rattle.rc_runs.specs.World.{World}
use Rattle.rc_serial.specs.OneMap.{base}
use Rattle.rc_claims.specs.Outcomes.{all_committed}
use Rattle.rc_agreement.proofs.PlainLives.{IsPlainLife, First, Next}
use Rattle.rc_agreement.proofs.Tables.{in_left, in_right, in_either}
use Rattle.rc_agreement.proofs.Lives.{chosen_life}
use Rattle.rc_serial_order.specs.Earlier.{StaysChosen, HoldsWrites, HasOnlyWrites}
use Rattle.rc_serial_order.proofs.Base.{base_wrote, base_has}
use Rattle.rc_serial_order.proofs.Histories.{past_of, life_history}

past_in : (earlier : List World) (t : ℕ) (body : List Entry) → In (t, body) (past_of earlier) → (v : World) × In v earlier × In (t, body) v.parties.committed
past_in [] t body i = absurd i
past_in (v ∷ earlier) t body i =
    ⊎_elim
    (λ old. let r = past_in earlier t body old in (r.0, inr r.1, r.2))
    (λ now. (v, inl refl, now))
    (in_either (t, body) (past_of earlier) v.parties.committed i)

-- what a life had committed, or logs before it, comes in the orders end to end
past_has : (c : Layout) → IsLayout c → (earlier : List World) (w : World) → IsPlainLife c earlier w → (v : World) → In v earlier → (t : ℕ) (body : List Entry) → In (t, body) (all_committed v) → In (t, body) (past_of earlier)
past_has c lay _ _ (First hs) v i t body j = absurd i
past_has c lay _ _ (Next earlier u start hs before is_start) v i t body j =
    ⊎_elim
    (λ (e : u ≡ v). ⊎_elim
    (λ (old : In (t, body) u.parties.start.committed). in_left (t, body) (past_of earlier) u.parties.committed ((life_history c lay earlier u before).ghost.holds.1.from t body old))
    (λ (now : In (t, body) u.parties.committed). in_right (t, body) (past_of earlier) u.parties.committed now)
    (in_either (t, body) u.parties.start.committed u.parties.committed (subst (λ (x : World). In (t, body) (all_committed x)) (sym e) j)))
    (λ (k : In v earlier). in_left (t, body) (past_of earlier) u.parties.committed (past_has c lay earlier u before v k t body j))
    i

module _ (c : Layout) (lay : IsLayout c) (earlier : List World) (w : World) (life : IsPlainLife c earlier w) where
  pub stays_chosen : StaysChosen earlier w
  stays_chosen v i outcome t h = chosen_life c lay earlier w life v i outcome t h

  pub holds_writes : HoldsWrites (base w.parties.start.committed) earlier
  holds_writes v t body e i j k wrote =
      let o = (life_history c lay earlier w life).ghost.holds.1 in
      base_has w.parties.start.committed t body e (o.into t body (past_has c lay earlier w life v i t body j)) k wrote

  pub has_only_writes : HasOnlyWrites (base w.parties.start.committed) earlier
  has_only_writes k version value is =
      let o = (life_history c lay earlier w life).ghost.holds.1 in
      let r = base_wrote w.parties.start.committed k (version, value) is in
      let p = past_in earlier r.tx r.body (o.from r.tx r.body r.among) in
      record { life = p.0; lived = p.1; tx = r.tx; body = r.body; committed = p.2; entry = r.entry; among = r.within; key = r.key; write = r.write; next = r.version }
