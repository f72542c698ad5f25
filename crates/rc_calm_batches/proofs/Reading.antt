-- A client whose read is under way takes the grants of d1, d2 and so on.
use Rattle.std.proofs.Common.{◌≡◌, ℕ, suc, List, [], ◌∷◌, refl, sym, ap, ◌∙◌, Bool, true, false, cond, Option, Some, None}
use Rattle.std.specs.Prelude.{if◌then◌else◌}
use Rattle.std.proofs.lemmas.List.{append-nil}
use Rattle.std.proofs.lemmas.Bool.{eq-eqb}
use Rattle.std.proofs.lemmas.Cmp.{nat_list_eq_equiv}
use Rattle.std.specs.Ordering.{nat_cmp}
use Rattle.rc_ids.specs.Tables.{up_to, member}
use Rattle.rc_ids.specs.Texts.{same_key}
use Rattle.rc_ids.specs.Cluster.{Layout, is_quorum, is_dc}
use Rattle.rc_msg.specs.declared.msg.Msg.{Msg}
use Rattle.rc_msg.specs.declared.msg.Msg.TheVariants.{Granted}
use Rattle.rc_report.specs.declared.line.Line.TheVariants.{Read as ReadLine}
use Rattle.rc_protocol.specs.Client.{Client, Slot, UnderWay, Complete, slot_of, slot_set, with_slots, with_read, client_row, client_stays, reads_on, is_committing, granted_by, cancels}
use Rattle.rc_calm_batches.proofs.Grants.{grants, granted_up, best_up, not_member, up_below}

-- SLOTS
pub same_itself : (k : List ℕ) → same_key k k ≡ true
same_itself k = nat_list_eq_equiv.refl k

pub slot_of_set : (xs : List Slot) (k : List ℕ) (s new : Slot) → slot_of xs k ≡ Some s → new.key ≡ k → slot_of (slot_set xs new) k ≡ Some new
slot_of_set [] k s new h e = absurd (cc)
slot_of_set (z ∷ zs) k s new h e = go (same_key z.key k) refl (ap (same_key z.key) e) h (slot_of_set zs k s new)
  where
    go : (b : Bool) → same_key z.key k ≡ b → same_key z.key new.key ≡ same_key z.key k → cond b (Some z) (slot_of zs k) ≡ Some s → (slot_of zs k ≡ Some s → new.key ≡ k → slot_of (slot_set zs new) k ≡ Some new)
        → slot_of (slot_set (z ∷ zs) new) k ≡ Some new
    go true q r h more = let w = same_itself k in let f : same_key new.key k ≡ true = ap (λ (y : List ℕ). same_key y k) e ∙ w in let a : same_key z.key new.key ≡ true = r ∙ q in rw (a, f)
    go false q r h more = let a : same_key z.key new.key ≡ false = r ∙ q in let m = more h e in rw (a, q, m)

pub set_twice : (xs : List Slot) (a b : Slot) → a.key ≡ b.key → slot_set (slot_set xs a) b ≡ slot_set xs b
set_twice [] a b e = refl
set_twice (z ∷ zs) a b e = go (same_key z.key a.key) refl (ap (same_key z.key) (sym e)) (set_twice zs a b e)
  where
    go : (t : Bool) → same_key z.key a.key ≡ t → same_key z.key b.key ≡ same_key z.key a.key → slot_set (slot_set zs a) b ≡ slot_set zs b → slot_set (slot_set (z ∷ zs) a) b ≡ slot_set (z ∷ zs) b
    go true q r more = let f : same_key a.key b.key ≡ true = ap (λ (y : List ℕ). same_key y b.key) e ∙ same_itself b.key in let k : same_key z.key b.key ≡ true = r ∙ q in rw (q, f, k)
    go false q r more = let k : same_key z.key b.key ≡ false = r ∙ q in rw (q, k, more)

module _ (c : Layout) (t : ℕ) (x : Client) (s : Slot) (k : List ℕ) (prints : Bool) (version : ℕ) (value : Option (List ℕ))
    (at : slot_of x.slots k ≡ Some s) (key : s.key ≡ k) (on : reads_on x.phase ≡ true) where
  -- the read has the grants of d1 to di
  abbrev pub reading : ℕ → Client
  reading i = with_slots x (slot_set x.slots (with_read s (UnderWay prints (grants version value i))))

  abbrev pub finished : Client
  finished = with_slots x (slot_set x.slots (with_read s (Complete version value)))

  abbrev pub granting : ℕ → Msg
  granting d = Granted t k d version value

  pub wanted : (i : ℕ) → member nat_cmp (granted_by (grants version value i)) (suc i) ≡ false
  wanted i = ap (λ (z : List ℕ). member nat_cmp z (suc i)) (granted_up version value i) ∙ not_member (up_to i) (suc i) (up_below i)

  pub keeps : (i : ℕ) → is_dc c (suc i) ≡ true → is_quorum c (up_to (suc i)) ≡ false → client_row c t (reading i) (granting (suc i)) ≡ client_stays (reading (suc i))
  keeps i dc few =
      let there = slot_of_set x.slots k s (with_read s (UnderWay prints (grants version value i))) at key in
      let w = wanted i in
      let q : is_quorum c (granted_by (grants version value (suc i))) ≡ false = ap (is_quorum c) (granted_up version value (suc i)) ∙ few in
      let two = set_twice x.slots (with_read s (UnderWay prints (grants version value i))) (with_read s (UnderWay prints (grants version value (suc i)))) refl in
      let own = eq-eqb t t refl in
      rw (own, dc, on, there, w, q, two)

  pub ends : (i : ℕ) → is_dc c (suc i) ≡ true → is_quorum c (up_to (suc i)) ≡ true → is_committing x.phase ≡ false
      → client_row c t (reading i) (granting (suc i)) ≡ record {
        after = finished;
        sends = cancels c t s.key (grants version value (suc i));
        lines = if prints then ReadLine t s.key version value ∷ [] else [];
        refused = None;
      }
  ends i dc enough calm =
      let there = slot_of_set x.slots k s (with_read s (UnderWay prints (grants version value i))) at key in
      let w = wanted i in
      let q : is_quorum c (granted_by (grants version value (suc i))) ≡ true = ap (is_quorum c) (granted_up version value (suc i)) ∙ enough in
      let two = set_twice x.slots (with_read s (UnderWay prints (grants version value i))) (with_read s (Complete version value)) refl in
      let best = best_up version value i in
      let nil = append-nil (cancels c t s.key (grants version value (suc i))) in
      let own = eq-eqb t t refl in
      rw (own, dc, on, there, w, q, best, calm, two, nil)

  pub late : (d : ℕ) → is_dc c d ≡ true → client_row c t finished (granting d) ≡ client_stays finished
  late d dc = let there = slot_of_set x.slots k s (with_read s (Complete version value)) at key in let own = eq-eqb t t refl in rw (own, dc, on, there)
