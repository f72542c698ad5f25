-- What follows of an act from its parts.
use Rattle.std.proofs.Common.{◌≡◌, ℕ, ◌≤◌, Bool, true, false, List, [], ◌∷◌, ◌++◌, length, take, Option, Some, None, refl, sym, ap, subst, ◌∙◌, append-nil, arith, length-append}
use Rattle.std.specs.Prelude.{if◌then◌else◌}
use Rattle.std.proofs.lemmas.List.{take-append-le, take_all}
use Rattle.rc_ids.specs.Cluster.{Layout}
use Rattle.rc_ids.specs.Tables.{maybe}
use Rattle.rc_msg.specs.Outboxes.{Outbox, cut}
use Rattle.rc_msg.specs.Posts.{Grows, posted_all}
use Rattle.rc_msg.proofs.PostFacts.{Grows-refl, posted_all-append}
use Rattle.rc_protocol.specs.Messages.{Posts}
use Rattle.rc_report.specs.declared.line.Line.{Line}
use Rattle.rc_protocol.specs.Acts.{ClientCause, Reads, Writes, Commits, Cancels, client_act, client_by_row, refusal}
use Rattle.rc_protocol.specs.Client.{Client, ClientAct, ClientRefusal, Slot, with_slots, after_read, unless_refused, NotOpen, TooManyKeys, client_stays, client_refuses, is_open, is_out_of_slots, do_read, do_write, do_commit, do_cancel}
use Rattle.rc_client.specs.declared.fault.ClientFault.{ClientFault}
use Rattle.rc_client.specs.Acts.{Core, Site, site, Acts, Fails, Refuses, Lengthens, IsRefusal}

pub Lengthens-refl : (xs : List Line) → Lengthens xs xs
Lengthens-refl xs = record { longer = omega arith; back = take_all (length xs) xs (omega arith) }

pub Lengthens-append : (xs ys zs : List Line) → zs ≡ xs ++ ys → Lengthens xs zs
Lengthens-append xs ys zs is = subst (Lengthens xs) (sym is) (record {
  longer = omega (arith, length-append xs ys);
  back = let le : length xs ≤ length xs = omega arith in rw take-append-le (take_all (length xs) xs le);
})

-- an act that does nothing
pub acts-stays : (s : Site) (act : ClientAct) → act ≡ client_stays s.core.client → Acts s s act
acts-stays s act is = subst (Acts s s) (sym is) (record {
  tx = refl;
  client = refl;
  sends = refl;
  lines = sym (append-nil s.lines);
  taken = refl;
})

-- a fault before anything was done
pub fails-still : (fault : ClientFault) (s : Site) (act : ClientAct) → IsRefusal fault act.refused → Fails fault s s act
fails-still fault s act named = record { core = refl; sends = Grows-refl s.out; lines = Lengthens-refl s.lines; named = named }

pub refuses-still : (fault : ClientFault) (s : Site) (act : ClientAct) → IsRefusal fault act.refused → Refuses fault s s act
refuses-still fault s act named = record { core = refl; sends = refl; lines = refl; named = named }

-- a fault, and what was sent and printed is taken back
pub refuses : (fault : ClientFault) (old mid : Site) (act : ClientAct) (out : Outbox) (lines : List Line) → Fails fault old mid act
    → out ≡ cut mid.out (length old.out.letters) → lines ≡ take (length old.lines) mid.lines → Refuses fault old (site mid.core out lines) act
refuses fault old mid act out lines fails sent printed = record {
  core = fails.core;
  sends = sent ∙ fails.sends.back;
  lines = printed ∙ fails.lines.back;
  named = fails.named;
}

-- the same without lines
pub refuses-silent : (fault : ClientFault) (old new : Core) (before mid out : Outbox) (lines : List Line) (act : ClientAct)
    → Fails fault (site old before []) (site new mid []) act → out ≡ cut mid (length before.letters)
    → Refuses fault (site old before lines) (site new out lines) act
refuses-silent fault old new before mid out lines act fails sent = record {
  core = fails.core;
  sends = sent ∙ fails.sends.back;
  lines = refl;
  named = fails.named;
}

-- an act without lines, beside lines
pub acts-silent : (old new : Core) (before out : Outbox) (lines : List Line) (act : ClientAct) → Acts (site old before []) (site new out []) act
    → Acts (site old before lines) (site new out lines) act
acts-silent old new before out lines act acts = record {
  tx = acts.tx;
  client = acts.client;
  sends = acts.sends;
  lines = sym (append-nil lines) ∙ ap (λ (ls : List Line). lines ++ ls) acts.lines;
  taken = acts.taken;
}

-- an act that changes the client alone
pub acts-becomes : (old new : Core) (out : Outbox) (lines : List Line) (act : ClientAct) (y : Client) → act ≡ client_stays y → new.client ≡ y
    → new.tx ≡ old.tx → Acts (site old out lines) (site new out lines) act
acts-becomes old new out lines act y is becomes tx = subst (Acts (site old out lines) (site new out lines)) (sym is) (record {
  tx = tx;
  client = becomes;
  sends = refl;
  lines = sym (append-nil lines);
  taken = refl;
})

-- the end of a read, and then what the client goes on with
pub acts-after : (old new : Core) (out mid end : Outbox) (lines more : List Line) (ms : Posts) (ls : List Line) (act : ClientAct) (x : Client)
    → mid ≡ posted_all out ms → more ≡ lines ++ ls → Acts (site old mid []) (site new end []) act
    → Acts (site old out lines) (site new end more) (unless_refused x (after_read ms ls act))
acts-after old new out mid end lines more ms ls act x sent printed acts =
    let taken : unless_refused x (after_read ms ls act) ≡ after_read ms ls act =
    ap (λ (o : Option ClientRefusal). maybe o (after_read ms ls act) (client_refuses x)) acts.taken in
    subst (Acts (site old out lines) (site new end more)) (sym taken) (record {
      tx = acts.tx;
      client = acts.client;
      sends = acts.sends ∙ ap (λ (o : Outbox). posted_all o act.sends) sent ∙ sym (posted_all-append out ms act.sends);
      lines = printed;
      taken = acts.taken;
    })

-- the client with other slots
abbrev core_with : Core → List Slot → Core
core_with x slots = record { tx = x.tx; client = with_slots x.client slots; weights = x.weights }

-- the slots are put back
pub put_back : (x mid : Core) (ys zs : List Slot) → mid ≡ core_with x ys → zs ≡ x.client.slots → core_with mid zs ≡ x
put_back x mid ys zs same back = ap (λ (m : Core). core_with m zs) same ∙ ap (λ (slots : List Slot). core_with x slots) back

-- WHAT IS REFUSED
by_row : (c : Layout) (t : ℕ) (x : Client) (cause : ClientCause) → refusal x cause ≡ None → client_act c t x cause ≡ client_by_row c t x cause
by_row c t x cause none = ap (λ (o : Option ClientRefusal). maybe o (client_by_row c t x cause) (client_refuses x)) none

pub is_refused : (c : Layout) (t : ℕ) (x : Client) (cause : ClientCause) (r : ClientRefusal) → refusal x cause ≡ Some r
    → (client_act c t x cause).refused ≡ Some r
is_refused c t x cause r is =
    ap (λ (o : Option ClientRefusal). (maybe o (client_by_row c t x cause) (client_refuses x)).refused) is

pub closed : (x : Client) (r : Option ClientRefusal) → is_open x.phase ≡ false → (if is_open x.phase then r else Some NotOpen) ≡ Some NotOpen
closed x r shut = ap (λ b. if b then r else Some NotOpen) shut

if_both : (x : Client) (k : List ℕ) → is_open x.phase ≡ true
    → (if is_open x.phase then (if is_out_of_slots x k then Some TooManyKeys else None) else Some NotOpen) ≡ (if is_out_of_slots x k then Some TooManyKeys else None)
if_both x k open_now = ap (λ b. if b then (if is_out_of_slots x k then Some TooManyKeys else None) else Some NotOpen) open_now

pub full : (x : Client) (k : List ℕ) → is_open x.phase ≡ true → is_out_of_slots x k ≡ true
    → (if is_open x.phase then (if is_out_of_slots x k then Some TooManyKeys else None) else Some NotOpen) ≡ Some TooManyKeys
full x k open_now full_now =
    let fill : Bool → Option ClientRefusal = λ b. if b then Some TooManyKeys else None in if_both x k open_now ∙ ap fill full_now

has_room : (x : Client) (k : List ℕ) → is_open x.phase ≡ true → is_out_of_slots x k ≡ false
    → (if is_open x.phase then (if is_out_of_slots x k then Some TooManyKeys else None) else Some NotOpen) ≡ None
has_room x k open_now room =
    let fill : Bool → Option ClientRefusal = λ b. if b then Some TooManyKeys else None in if_both x k open_now ∙ ap fill room

pub act-read : (c : Layout) (t : ℕ) (x : Client) (k : List ℕ) → is_open x.phase ≡ true → is_out_of_slots x k ≡ false
    → client_act c t x (Reads k) ≡ do_read c t x k
act-read c t x k open_now room = by_row c t x (Reads k) (has_room x k open_now room)

pub act-write : (c : Layout) (t : ℕ) (x : Client) (k v : List ℕ) → is_open x.phase ≡ true → is_out_of_slots x k ≡ false
    → client_act c t x (Writes k v) ≡ do_write x k v
act-write c t x k v open_now room = by_row c t x (Writes k v) (has_room x k open_now room)

open_none : (x : Client) → is_open x.phase ≡ true → (if is_open x.phase then None else Some NotOpen) ≡ None
open_none x open_now = let gate : Bool → Option ClientRefusal = λ b. if b then None else Some NotOpen in ap gate open_now

pub act-commit : (c : Layout) (t : ℕ) (x : Client) → is_open x.phase ≡ true → client_act c t x Commits ≡ do_commit c t x
act-commit c t x open_now = by_row c t x Commits (open_none x open_now)

pub act-cancel : (c : Layout) (t : ℕ) (x : Client) (k : List ℕ) → is_open x.phase ≡ true → client_act c t x (Cancels k) ≡ do_cancel c t x k
act-cancel c t x k open_now = by_row c t x (Cancels k) (open_none x open_now)
