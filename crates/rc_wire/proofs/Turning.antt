-- What a turn tells its pass, from what the hub tells of it.
use Rattle.std.proofs.Common.{◌≡◌, ℕ, zero, suc, ◌+◌, ◌<◌, Bool, true, false, not, ◌&&◌, ◌||◌, cond, List, [], ◌∷◌, ◌++◌, length, slice_get, refl, ap, sym, ◌∙◌, subst, arith, Some, None, Result, Ok, Err, inl, inr, if◌then◌else◌}
use Rattle.std.specs.Prelude.{find, is_some, OnOk, OnErr, IsErrOf, ◌↔◌}
use Rattle.std.specs.List.{list_any}
use Rattle.std.specs.Ordering.{nat_cmp, is_eq}
use Rattle.rc_ids.specs.Marks.{tied}
use Rattle.rc_ids.specs.Parties.{is_same_party}
use Rattle.rc_ids.specs.Tables.{member}
use Rattle.rc_ids.specs.declared.names.Party.{Party}
use Rattle.rc_ids.specs.declared.sends.Letter.{Letter}
use Rattle.rc_net.specs.Network.{message, letters_bytes, fits as fits_network}
use Rattle.rc_wire.specs.declared.fault.PostFault.{PostFault}
use Rattle.rc_wire.specs.declared.fault.PostFault.TheVariants.{NoMemory as WithoutMemory, WireFull as Full}
use Rattle.rc_wire.specs.declared.fault.Taken.{Taken}
use Rattle.rc_wire.specs.declared.fault.Taken.TheVariants.{Mail, Empty, Closed, NoMemory}
use Rattle.rc_wire.specs.declared.pass.Known.{Known}
use Rattle.rc_wire.specs.declared.turn.Act.{Act}
use Rattle.rc_wire.specs.declared.turn.Act.TheVariants.{Took, Posted, Rested, Halted}
use Rattle.rc_wire.specs.declared.turn.HaltCause.{HaltCause}
use Rattle.rc_wire.specs.declared.turn.StepEnd.{StepEnd}
use Rattle.rc_wire.specs.declared.turn.Turn.{Turn}
use Rattle.rc_wire.specs.declared.want.Want.{Want}
use Rattle.rc_wire.specs.Chronicle.{Chronicle, replayed, more, Takes as TakesAtHub, Rests as RestsAtHub}
use Rattle.rc_wire.specs.Passes.{Follows, Fits, IsPass, may_act, may_follow, learned}
use Rattle.rc_wire.specs.Replay.{is_closed}
use Rattle.rc_wire.specs.Standings.{turn, by, standing, may_end}
use Rattle.rc_wire.specs.Turns.{IsTurn, Adds, Takes, Leaves, HasRoom, Posts, Rests, RestsAs}
use Rattle.rc_wire.specs.Wants.{oldest_for, is_for}
use Rattle.rc_wire.proofs.Hubs.{by_own, party_itself}
use Rattle.rc_wire.proofs.Knowing.{front_on, follows_front, follows_rules, follows_parties}

pub on_ok : {A E : Type 0} (r : Result A E) {P Q : Type 0} → (P → Q) → OnOk r P → OnOk r Q
on_ok (Ok x) f p = f p
on_ok (Err x) f p = tt

pub within : (ps : List Party) (k : ℕ) (p : Party) → slice_get ps k ≡ Some p → k < length ps
within [] k p at = absurd cc
within (x ∷ xs) zero p at = omega arith
within (x ∷ xs) (suc k) p at = let r = within xs k p at in omega arith

or_true : (b : Bool) → b || true ≡ true
or_true true = refl
or_true false = refl

any_at : (ps : List Party) (k : ℕ) (p : Party) → slice_get ps k ≡ Some p → list_any (is_same_party p) ps ≡ true
any_at [] k p at = absurd cc
any_at (x ∷ xs) zero p at = let e : x ≡ p = cc in ap (λ (z : Party). is_same_party p z || list_any (is_same_party p) xs) e ∙ ap (λ (b : Bool). b || list_any (is_same_party p) xs) (party_itself p)
any_at (x ∷ xs) (suc k) p at = ap (λ (b : Bool). is_same_party p x || b) (any_at xs k p at) ∙ or_true (is_same_party p x)

found_member : (f : ℕ → Bool) (ns : List ℕ) (n : ℕ) → find f ns ≡ Some n → member nat_cmp ns n ≡ true
found_member f [] n e = absurd cc
found_member f (k ∷ ks) n e = here (f k) e (found_member f ks n)
  where
    here : (b : Bool) → cond b (Some k) (find f ks) ≡ Some n → (find f ks ≡ Some n → member nat_cmp ks n ≡ true) → member nat_cmp (k ∷ ks) n ≡ true
    here true e more = let same : k ≡ n = cc in ap (λ (z : ℕ). is_eq (nat_cmp n z) || member nat_cmp ks n) same ∙ ap (λ (b : Bool). b || member nat_cmp ks n) (tied n)
    here false e more = ap (λ (b : Bool). is_eq (nat_cmp n k) || b) (more e) ∙ or_true (is_eq (nat_cmp n k))

-- the pass of the seat stays one
pub own_passes : (names : Chronicle) (n m : ℕ) (held left : Chronicle) (seat : ℕ) (x : Known) → IsPass names seat x → Fits n held seat x → Follows held x.party left → IsPass names seat (learned m left x)
own_passes names n m held left seat x pass fits f = record {
  seat_is = pass.seat_is;
  rules = follows_rules held left x.party f ∙ sym fits.rules ∙ pass.rules;
  parties = follows_parties held left x.party f ∙ sym fits.parties ∙ pass.parties;
  party = pass.party;
  mine = refl;
}

module _ (n : ℕ) (held left : Chronicle) (seat : ℕ) (x : Known) (fits : Fits n held seat x) where
  -- THE TURN
  pub is_turn : Follows held x.party left → IsTurn x (learned (n + 1) left x)
  is_turn f = record { seat = refl; party = refl; rises = let l = fits.last in omega arith; seen = front_on x.seen.turns held.turns left.turns fits.seen (follows_front held left x.party f) }

  may : (act : Act) → may_act x.party (standing (by x.party held.turns)) (replayed held).traffic act ≡ true → may_follow held x.party act ≡ true
  may act e = λ j. any_at held.parties seat x.party fits.party j && e j

  adds : (act : Act) → left ≡ more held x.party act → Adds x act (learned (n + 1) left x) held
  adds act e = record {
    before = fits.seen;
    seen = e;
    mine = ap (λ (c : Chronicle). by x.party c.turns) e ∙ by_own x.party held.turns act ∙ ap (λ (ts : List Turn). ts ++ turn x.party act ∷ []) (sym fits.mine);
  }

  same : left ≡ held → (learned (n + 1) left x).mine ≡ x.mine
  same e = ap (λ (c : Chronicle). by x.party c.turns) e ∙ sym fits.mine

  -- TAKES
  pub take_follows : (want : Want) (taken : Taken) → (standing x.mine).unanswered ≡ None → TakesAtHub x.party want held taken left → Follows held x.party left
  take_follows want (Mail number sender bytes) idle t =
      inr (Took number, t.0, may (Took number) (λ j. not (is_some ((ap (λ (ts : List Turn). (standing ts).unanswered) (sym fits.mine) ∙ idle) j)) && found_member (λ k. is_for x.party want (message (replayed held).traffic.sent k)) (replayed held).traffic.pending number t.2 j))
  take_follows want Empty idle t = inl t.0
  take_follows want Closed idle t = inl t.0
  take_follows want NoMemory idle t = inl t

  pub takes : (want : Want) (taken : Taken) → TakesAtHub x.party want held taken left → Takes x want taken (learned (n + 1) left x)
  takes want (Mail number sender bytes) t = record { wire = held; adds = adds (Took number) t.0; still_open = t.1; oldest = t.2; is = t.3 }
  takes want Empty t = (same t.0, ap (λ (c : Chronicle). is_closed (replayed c)) t.0 ∙ t.1, ap (λ (c : Chronicle). oldest_for x.party want (replayed c).traffic) t.0 ∙ t.2)
  takes want Closed t = (same t.0, ap (λ (c : Chronicle). is_closed (replayed c)) t.0 ∙ t.1)
  takes want NoMemory t = same t

  -- POSTS
  pub post_follows : {A E : Type 0} (r : Result A E) (end : StepEnd) (sends : List Letter) → may_end x.party (standing x.mine) end ≡ true → OnOk r (left ≡ more held x.party (Posted end sends)) → OnErr r (left ≡ held) → Follows held x.party left
  post_follows (Ok a) end sends m ok err = inr (Posted end sends, ok, may (Posted end sends) (ap (λ (ts : List Turn). may_end x.party (standing ts) end) (sym fits.mine) ∙ m))
  post_follows (Err e) end sends m ok err = inl err

  fits_or_not : (sends : List Letter) → (HasRoom held sends false → ⊥) → HasRoom held sends true
  fits_or_not sends not_full = by_case (fits_network (replayed held).traffic.sent (length sends) (letters_bytes sends)) refl
    where
      by_case : (b : Bool) → HasRoom held sends b → HasRoom held sends true
      by_case true e = e
      by_case false e = absurd (not_full e)

  pub posts : {A : Type 0} (r : Result A PostFault) (end : StepEnd) (sends : List Letter) → (IsErrOf r Full ↔ HasRoom held sends false) → OnOk r (left ≡ more held x.party (Posted end sends))
      → OnOk r (Posts x (Posted end sends) sends (learned (n + 1) left x))
  posts (Ok a) end sends full ok = record { wire = held; adds = adds (Posted end sends) ok; room = fits_or_not sends (λ e. let z = full.1 e in cc) }
  posts (Err e) end sends full ok = tt

  pub unsent : {A : Type 0} (r : Result A PostFault) → OnErr r (left ≡ held) → OnErr r ((learned (n + 1) left x).mine ≡ x.mine)
  unsent (Ok a) err = tt
  unsent (Err e) err = same err

  pub too_much : {A : Type 0} (r : Result A PostFault) (sends : List Letter) → (IsErrOf r Full ↔ HasRoom held sends false) → OnErr r (left ≡ held) → IsErrOf r Full → HasRoom (learned (n + 1) left x).seen sends false
  too_much (Ok a) sends full err is = absurd cc
  too_much (Err e) sends full err is = ap (λ (c : Chronicle). fits_network (replayed c).traffic.sent (length sends) (letters_bytes sends)) err ∙ full.0 is

  pub no_memory : {A : Type 0} (r : Result A PostFault) (sends : List Letter) → (IsErrOf r Full ↔ HasRoom held sends false) → OnErr r (left ≡ held) → IsErrOf r WithoutMemory → HasRoom (learned (n + 1) left x).seen sends true
  no_memory (Ok a) sends full err is = absurd cc
  no_memory (Err e) sends full err is =
      ap (λ (c : Chronicle). fits_network (replayed c).traffic.sent (length sends) (letters_bytes sends)) err ∙ fits_or_not sends (λ f. let z = sym is ∙ full.1 f in cc)

  -- RESTS AND HALTS
  rested : (ended : Bool) (b : Bool) → (standing x.mine).ended ≡ false → left ≡ (if b then held else more held x.party (Rested ended)) → Follows held x.party left
  rested ended true now e = inl e
  rested ended false now e = inr (Rested ended, e, may (Rested ended) (ap (λ (ts : List Turn). not (standing ts).ended) (sym fits.mine) ∙ ap not now))

  pub rest_follows : (ended : Bool) → (standing x.mine).ended ≡ false → RestsAtHub x.party ended held left → Follows held x.party left
  rest_follows ended now e = rested ended (not ended && (standing (by x.party held.turns)).waiting) now e

  pub rests : (ended : Bool) → RestsAtHub x.party ended held left → Rests x ended (learned (n + 1) left x)
  rests ended e =
      subst (λ (ts : List Turn). RestsAs (not ended && (standing ts).waiting) x ended (learned (n + 1) left x)) (sym fits.mine) (by_case (not ended && (standing (by x.party held.turns)).waiting) e)
    where
      by_case : (b : Bool) → left ≡ (if b then held else more held x.party (Rested ended)) → RestsAs b x ended (learned (n + 1) left x)
      by_case true e = same e
      by_case false e = record { wire = held; adds = adds (Rested ended) e }

  pub halt_follows : (cause : HaltCause) → (standing x.mine).halted ≡ false → left ≡ more held x.party (Halted cause) → Follows held x.party left
  halt_follows cause now e = inr (Halted cause, e, may (Halted cause) (ap (λ (ts : List Turn). not (standing ts).halted) (sym fits.mine) ∙ ap not now))

  pub halts : (cause : HaltCause) → left ≡ more held x.party (Halted cause) → Leaves x (Halted cause) (learned (n + 1) left x)
  halts cause e = record { wire = held; adds = adds (Halted cause) e }
