-- Commands that a client takes, since they name nothing wrongly.
use Rattle.std.proofs.Common.{◌≡◌, ℕ, Bool, true, false, cond, List, Option, None, Some, refl, sym, ◌∙◌, ap, subst}
use Rattle.std.specs.Prelude.{if◌then◌else◌}
use Rattle.std.specs.Ordering.{nat_cmp}
use Rattle.rc_ids.specs.Tables.{found, member, maybe}
use Rattle.rc_ids.specs.Cluster.{Layout}
use Rattle.rc_ids.specs.declared.names.Party.{Party}
use Rattle.rc_ids.specs.declared.names.Party.TheVariants.{Node, Client as ClientOf}
use Rattle.rc_msg.specs.declared.msg.Envelope.{Envelope}
use Rattle.rc_report.specs.declared.fault.Wrong.{Wrong}
use Rattle.rc_report.specs.declared.fault.Wrong.TheVariants.{NotBegun, Vanished}
use Rattle.rc_runs.specs.declared.event.Event.{Event}
use Rattle.rc_runs.specs.declared.event.Event.TheVariants.{Read, Write, Commit, Cancel, Deliver}
use Rattle.rc_protocol.specs.Client.{Client, ClientAct, ClientRefusal, NotOpen, TooManyKeys, client_refuses, is_out_of_slots, is_open, is_vanished}
use Rattle.rc_protocol.specs.Acts.{ClientCause, Hears, Reads, Writes, Commits, Cancels, Retries, Vanishes, client_act, client_by_row, if_open, if_room, refusal}
use Rattle.rc_runs.specs.World.{Parties, message}
use Rattle.rc_runs.specs.Refusals.{name_of, named_wrongly, wrong, wrong_of}
use Rattle.rc_plain_world.specs.Networks.{Network}
use Rattle.rc_plain_world.specs.Acted.{Housed, MayAct}
use Rattle.rc_plain_world.specs.Sessions.{session_of, actor_if_any}

-- what is not refused is done
pub acts_so : (c : Layout) (t : ℕ) (x : Client) (cause : ClientCause) → refusal x cause ≡ None → client_by_row c t x cause ≡ client_act c t x cause
acts_so c t x cause none = sym (ap (λ (o : Option ClientRefusal). maybe o (client_by_row c t x cause) (client_refuses x)) none)

-- an open client takes it
pub is_open_of : (x : Client) (o : Option ClientRefusal) → if_open x o ≡ None → is_open x.phase ≡ true
is_open_of x o none = by_test (is_open x.phase) none
  where
    by_test : (b : Bool) → cond b o (Some NotOpen) ≡ None → b ≡ true
    by_test true none = refl
    by_test false none = cc

pub has_room_of : (x : Client) (k : List ℕ) → if_open x (if_room x k) ≡ None → is_out_of_slots x k ≡ false
has_room_of x k none = by_test (is_open x.phase) (is_out_of_slots x k) none
  where
    by_test : (b full : Bool) → cond b (cond full (Some TooManyKeys) None) (Some NotOpen) ≡ None → full ≡ false
    by_test true true none = cc
    by_test false true none = cc
    by_test b false none = refl

-- a refusal has a name
named_test : (t : ℕ) (b : Bool) (o : Option ClientRefusal) → (maybe o None (name_of t) ≡ None → o ≡ None)
    → maybe (cond b o (Some NotOpen)) None (name_of t) ≡ None → cond b o (Some NotOpen) ≡ None
named_test t true o inner none = inner none
named_test t false o inner none = cc

named_room : (t : ℕ) (full : Bool) → maybe (cond full (Some TooManyKeys) None) None (name_of t) ≡ None → cond full (Some TooManyKeys) None ≡ None
named_room t true none = cc
named_room t false none = refl

refusal_named : (x : Client) (t : ℕ) (cause : ClientCause) → maybe (refusal x cause) None (name_of t) ≡ None → refusal x cause ≡ None
refusal_named x t (Reads k) none = named_test t (is_open x.phase) (if_room x k) (named_room t (is_out_of_slots x k)) none
refusal_named x t (Writes k value) none = named_test t (is_open x.phase) (if_room x k) (named_room t (is_out_of_slots x k)) none
refusal_named x t Commits none = named_test t (is_open x.phase) None (λ _. refl) none
refusal_named x t (Cancels k) none = named_test t (is_open x.phase) None (λ _. refl) none
refusal_named x t _ none = refl

not_gone : (t : ℕ) (b : Bool) (o : Option Wrong) → (if b then Some (Vanished t) else o) ≡ None → o ≡ None
not_gone t true o none = cc
not_gone t false o none = none

named_taken : (p : Parties) (t : ℕ) (cause : ClientCause) (x : Client) → named_wrongly p t cause ≡ None → found nat_cmp p.clients t ≡ Some x → refusal x cause ≡ None
named_taken p t cause x named at =
    let there : maybe (found nat_cmp p.clients t) (Some (NotBegun t)) (λ y. wrong_of t y cause) ≡ None = not_gone t (member nat_cmp p.start.named t) _ named in
    let right : wrong_of t x cause ≡ None = sym (ap (λ (o : Option Client). maybe o (Some (NotBegun t)) (λ y. wrong_of t y cause)) at) ∙ there in
    refusal_named x t cause (not_gone t (is_vanished x.phase) _ right)

-- who acts takes what the event asks
pub may_act : (h : Housed) (n : Network) (e : Event) (from : Party) → wrong (session_of h n 0 0).world e ≡ None → actor_if_any n.sent e ≡ Some from → MayAct h.parties n.sent from e
may_act h n e (Node node) named who = tt
may_act h n (Read u k) (ClientOf t) named who = λ x at. let same : u ≡ t = (cc) in named_taken h.parties t (Reads k) x (subst (λ (v : ℕ). named_wrongly h.parties v (Reads k) ≡ None) same named) at
may_act h n (Write u k value) (ClientOf t) named who =
    λ x at. let same : u ≡ t = (cc) in named_taken h.parties t (Writes k value) x (subst (λ (v : ℕ). named_wrongly h.parties v (Writes k value) ≡ None) same named) at
may_act h n (Commit u) (ClientOf t) named who = λ x at. let same : u ≡ t = (cc) in named_taken h.parties t Commits x (subst (λ (v : ℕ). named_wrongly h.parties v Commits ≡ None) same named) at
may_act h n (Cancel u k) (ClientOf t) named who = λ x at. let same : u ≡ t = (cc) in named_taken h.parties t (Cancels k) x (subst (λ (v : ℕ). named_wrongly h.parties v (Cancels k) ≡ None) same named) at
may_act h n (Deliver k) (ClientOf t) named who = λ x at. by_message x (message n.sent k)
  where
    by_message : (x : Client) (o : Option Envelope) → maybe (maybe o None (λ (e : Envelope). Some (Hears e.msg))) None (refusal x) ≡ None
    by_message x None = refl
    by_message x (Some e) = refl
may_act h n _ (ClientOf t) named who = λ x at. refl
