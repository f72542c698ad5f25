-- Messages on their way: those that are pending on the wire, and those of open takes.
use Rattle.std.proofs.Common.{◌≡◌, ℕ, suc, ◌+◌, ◌≤◌, Bool, true, false, cond, List, [], ◌∷◌, ◌++◌, length, length-append, refl, sym, ap, ◌∙◌, subst, arith, true≢false, Option, Some, None}
use Rattle.std.specs.Prelude.{not}
use Rattle.std.specs.Ordering.{nat_cmp}
use Rattle.rc_ids.specs.Parties.{is_same_party}
use Rattle.rc_ids.specs.Sets.{IsRisingWithin}
use Rattle.rc_ids.specs.Tables.{member, removed}
use Rattle.rc_ids.specs.declared.names.Party.{Party}
use Rattle.rc_ids.specs.declared.sends.Letter.{Letter}
use Rattle.rc_net.specs.Network.{Message, messages, numbers_after}
use Rattle.rc_wire.specs.declared.rules.Rules.{Rules}
use Rattle.rc_wire.specs.Traffic.{Traffic, is_lost, is_repeated, arriving, repeated, posted, taken}
use Rattle.rc_wire.proofs.Quiet.{same_party}
use Rattle.rc_agreement.proofs.Cases.{never, some_is}
use Rattle.rc_composition.proofs.Numbered.{member_either, member_filtered, member_left}
use Rattle.rc_composition.proofs.Rising.{rises_on, rises_filtered, rises_removed, rises_numbers, none_below, within, gone, not_in, filtered_passes}

-- the open takes of the parties
abbrev pub Takes : Type 0
Takes = Party → Option ℕ

-- a message that does not arrive twice is pending, or of one open take, and not both
pub record Flights (rules : Rules) (t : Traffic) (takes : Takes) : Type 0 where
  pub rises : IsRisingWithin 1 (length t.sent) t.pending
  pub again : (n : ℕ) → member nat_cmp t.again n ≡ true → is_repeated rules n ≡ true
  pub sent : (p : Party) (n : ℕ) → takes p ≡ Some n → n ≤ length t.sent
  pub apart : (p : Party) (n : ℕ) → takes p ≡ Some n → is_repeated rules n ≡ false → member nat_cmp t.pending n ≡ false
  pub alone : (p q : Party) (n : ℕ) → takes p ≡ Some n → takes q ≡ Some n → is_repeated rules n ≡ false → is_same_party p q ≡ true

-- the party's open take is this then, and the others' are as they were
pub record OneTake (p : Party) (new : Option ℕ) (old now : Takes) : Type 0 where
  pub own : (q : Party) → is_same_party p q ≡ true → now q ≡ new
  pub others : (q : Party) → is_same_party p q ≡ false → now q ≡ old q

-- A TAKE
not_both : (a : Bool) {P : Type 0} → a ≡ true → a ≡ false → P
not_both a yes_is no_is = absurd (true≢false (sym yes_is ∙ no_is))

module _ (rules : Rules) (t : Traffic) (takes now : Takes) (f : Flights rules t takes) (p : Party) where
  module _ (n : ℕ) (there : member nat_cmp t.pending n ≡ true) (one : OneTake p (Some n) takes now) where
    abbrev left : Bool → Traffic
    left b = cond b (record { sent = t.sent; pending = t.pending; again = removed nat_cmp t.again n }) (record { sent = t.sent; pending = removed nat_cmp t.pending n; again = t.again })

    sent_left : (b : Bool) → (left b).sent ≡ t.sent
    sent_left true = refl
    sent_left false = refl

    pending_left : (b : Bool) (k : ℕ) → member nat_cmp (left b).pending k ≡ true → member nat_cmp t.pending k ≡ true
    pending_left true k h = h
    pending_left false k h = member_left k n t.pending h

    again_left : (b : Bool) (k : ℕ) → member nat_cmp (left b).again k ≡ true → member nat_cmp t.again k ≡ true
    again_left true k h = member_left k n t.again h
    again_left false k h = h

    rises_left : (b : Bool) → IsRisingWithin 1 (length (left b).sent) (left b).pending
    rises_left true = f.rises
    rises_left false = rises_removed 1 (length t.sent) n t.pending f.rises

    own_gone : (b : Bool) → member nat_cmp t.again n ≡ b → is_repeated rules n ≡ false → member nat_cmp (left b).pending n ≡ false
    own_gone true is once = not_both (is_repeated rules n) (f.again n is) once
    own_gone false is once = gone 1 (length t.sent) n t.pending f.rises

    -- of the party itself, or of another one
    which : {P : Type 0} (q : Party) (m : ℕ) → now q ≡ Some m → (is_same_party p q ≡ true → n ≡ m → P) → (is_same_party p q ≡ false → takes q ≡ Some m → P) → P
    which {P} q m is own other = go (is_same_party p q) refl
      where
        go : (b : Bool) → is_same_party p q ≡ b → P
        go true same = own same (some_is n m (sym (one.own q same) ∙ is))
        go false same = other same (sym (one.others q same) ∙ is)

    abbrev b : Bool
    b = member nat_cmp t.again n

    apart_left : (q : Party) (m : ℕ) → now q ≡ Some m → is_repeated rules m ≡ false → member nat_cmp (left b).pending m ≡ false
    apart_left q m is once =
        which q m is
        (λ same e. subst (λ (k : ℕ). member nat_cmp (left b).pending k ≡ false) e (own_gone b refl (ap (is_repeated rules) e ∙ once)))
        (λ same old. not_in (member nat_cmp (left b).pending m) (member nat_cmp t.pending m) (pending_left b m) (f.apart q m old once))

    not_pending : {P : Type 0} (q : Party) (m : ℕ) → takes q ≡ Some m → n ≡ m → is_repeated rules m ≡ false → P
    not_pending q m old e once = not_both (member nat_cmp t.pending m) (subst (λ (k : ℕ). member nat_cmp t.pending k ≡ true) e there) (f.apart q m old once)

    alone_left : (q r : Party) (m : ℕ) → now q ≡ Some m → now r ≡ Some m → is_repeated rules m ≡ false → is_same_party q r ≡ true
    alone_left q r m q_is r_is once =
        which q m q_is
        (λ same e. which r m r_is
        (λ too _. subst (λ (x : Party). is_same_party x r ≡ true) (same_party p q same) too)
        (λ other old. not_pending r m old e once))
        (λ other old. which r m r_is (λ same e. not_pending q m old e once) (λ other_too old_too. f.alone q r m old old_too once))

    pub took : Flights rules (taken t n) now
    took = record {
      rises = rises_left b;
      again = λ k h. f.again k (again_left b k h);
      sent = λ q m is.
          let few : m ≤ length t.sent = which q m is (λ same e. subst (λ (k : ℕ). k ≤ length t.sent) e (within 1 (length t.sent) n t.pending f.rises there)) (λ other old. f.sent q m old) in
          subst (λ (ms : List Message). m ≤ length ms) (sym (sent_left b)) few;
      apart = apart_left;
      alone = alone_left;
    }

  -- A POST
  module _ (sends : List Letter) (one : OneTake p None takes now) where
    abbrev numbers : List ℕ
    numbers = numbers_after (length t.sent) (length sends)

    -- an open take is one of another party
    old_take : (q : Party) (m : ℕ) → now q ≡ Some m → takes q ≡ Some m
    old_take q m is = go (is_same_party p q) refl
      where
        go : (b : Bool) → is_same_party p q ≡ b → takes q ≡ Some m
        go true same = never m (sym (one.own q same) ∙ is)
        go false other = sym (one.others q other) ∙ is

    longer : length (t.sent ++ messages p sends) ≡ length t.sent + length sends
    longer = length-append t.sent (messages p sends) ∙ ap (λ (k : ℕ). length t.sent + k) (mapped sends)
      where
        mapped : (ls : List Letter) → length (messages p ls) ≡ length ls
        mapped [] = refl
        mapped (l ∷ ls) = ap suc (mapped ls)

    not_new : (m : ℕ) → m ≤ length t.sent → member nat_cmp (arriving rules numbers) m ≡ false
    not_new m few =
        not_in (member nat_cmp (arriving rules numbers) m) (member nat_cmp numbers m) (member_filtered (λ (k : ℕ). not (is_lost rules k)) m numbers)
        (none_below (suc (length t.sent)) (length t.sent + length sends) m numbers (omega arith) (rises_numbers (length t.sent) (length sends)))

    apart_more : (q : Party) (m : ℕ) → takes q ≡ Some m → is_repeated rules m ≡ false → member nat_cmp (t.pending ++ arriving rules numbers) m ≡ false
    apart_more q m old once =
        not_in (member nat_cmp (t.pending ++ arriving rules numbers) m) false
        (member_either m t.pending (arriving rules numbers)
        (λ (h : member nat_cmp t.pending m ≡ true). not_both (member nat_cmp t.pending m) h (f.apart q m old once))
        (λ (h : member nat_cmp (arriving rules numbers) m ≡ true). not_both (member nat_cmp (arriving rules numbers) m) h (not_new m (f.sent q m old)))) refl

    pub sent_more : Flights rules (posted rules t p sends) now
    sent_more = record {
      rises =
          subst (λ (high : ℕ). IsRisingWithin 1 high (t.pending ++ arriving rules numbers)) (sym longer)
          (rises_on 1 (length t.sent) (length t.sent + length sends) t.pending (arriving rules numbers) (omega arith) (omega arith) f.rises
          (rises_filtered (λ (k : ℕ). not (is_lost rules k)) (suc (length t.sent)) (length t.sent + length sends) numbers (rises_numbers (length t.sent) (length sends))));
      again = λ k. member_either k t.again (repeated rules numbers) (f.again k) (filtered_passes (is_repeated rules) k numbers);
      sent = λ q m is. let few = f.sent q m (old_take q m is) in let more = longer in omega arith;
      apart = λ q m is once. apart_more q m (old_take q m is) once;
      alone = λ q r m q_is r_is once. f.alone q r m (old_take q m q_is) (old_take r m r_is) once;
    }

  -- WHERE NO TAKE CHANGES
  pub still : ((q : Party) → now q ≡ takes q) → Flights rules t now
  still same = record {
    rises = f.rises;
    again = f.again;
    sent = λ q m is. f.sent q m (sym (same q) ∙ is);
    apart = λ q m is once. f.apart q m (sym (same q) ∙ is) once;
    alone = λ q r m q_is r_is once. f.alone q r m (sym (same q) ∙ q_is) (sym (same r) ∙ r_is) once;
  }
