-- Deeds of clients, from what happened at the one that acts.
use Rattle.std.proofs.Common.{◌≡◌, ℕ, List, [], ◌++◌, Option, None, Some, refl, sym, ◌∙◌, ap, subst}
use Rattle.std.proofs.lemmas.List.{append-nil}
use Rattle.std.proofs.lemmas.Map.Steps.{set_value_same}
use Rattle.std.specs.Prelude.{Result, Ok, Err, IfErr}
use Rattle.std.specs.Ordering.{nat_cmp}
use Rattle.std.specs.BTreeMap.{is_at}
use Rattle.rc_ids.specs.Tables.{Table, found, maybe}
use Rattle.rc_ids.specs.Cluster.{Layout}
use Rattle.rc_body.specs.declared.entry.Entry.{Entry}
use Rattle.rc_report.specs.declared.fault.Which.TheVariants.{Version}
use Rattle.rc_report.specs.declared.line.Line.{Line}
use Rattle.rc_protocol.specs.Messages.{Posts}
use Rattle.rc_protocol.specs.Client.{Client, ClientAct, ClientRefusal, KeyWornOut as IsWornOut, client_stays}
use Rattle.rc_protocol.specs.Acts.{ClientCause, client_act, client_by_row, refusal}
use Rattle.rc_runs.specs.World.{Deed, Idle, ByClient, Course, Goes, Stops, along, client_does, replaced, with_client}
use Rattle.rc_runs.specs.Refusals.{limit_of, worn_out}
use Rattle.rc_runs.specs.Session.{no_change}
use Rattle.rc_plain_world.specs.Hosts.{CoordSite, ShardSite}
use Rattle.rc_plain_world.specs.Acted.{Housed, housed, deed_work, Acted, Refuses, Wears}
use Rattle.rc_plain_world.specs.declared.fault.ActFault.{ActFault}
use Rattle.rc_plain_world.specs.declared.fault.ActFault.TheVariants.{NoMemory, VersionSpent, BallotsSpent}
use Rattle.rc_plain_world.proofs.Deeds.{idle}
use Rattle.rc_plain_world.proofs.Taken.{acts_so}

-- what the cause makes a client do
abbrev part_of : Layout → ℕ → Option ClientCause → Client → ClientAct
part_of c t o x = maybe o (client_stays x) (client_act c t x)

-- the row of the cause, where it is not refused before
abbrev row_of : Layout → ℕ → Option ClientCause → Client → ClientAct
row_of c t o x = maybe o (client_stays x) (client_by_row c t x)

row_is_part : (c : Layout) (t : ℕ) (o : Option ClientCause) (x : Client) → maybe o None (refusal x) ≡ None → row_of c t o x ≡ part_of c t o x
row_is_part c t None x may = refl
row_is_part c t (Some cause) x may = acts_so c t x cause may

-- nothing was done
record Rests (clients clients' : Table ℕ Client) (out : Posts) (lines printed : List Line) : Type 0 where
  pub same : clients' ≡ clients
  pub sends : out ≡ []
  pub prints : printed ≡ lines

-- what the client of t makes of all
abbrev Makes : Table ℕ Client → Table ℕ Client → ℕ → ClientAct → Posts → List Line → List Line → Type 0
Makes clients clients' t act out lines printed =
    (clients' ≡ replaced clients t act.after) × (out ≡ act.sends) × (printed ≡ lines ++ act.lines) × (act.refused ≡ None)

client_rests : (clients clients' : Table ℕ Client) (t : ℕ) (out : Posts) (lines printed : List Line)
    → (found nat_cmp clients t ≡ None → (clients' ≡ clients) × (out ≡ []) × (printed ≡ lines))
    → ((x : Client) → found nat_cmp clients t ≡ Some x → Makes clients clients' t (client_stays x) out lines printed) → Rests clients clients' out lines printed
client_rests clients clients' t out lines printed outside done = by_client (found nat_cmp clients t) refl
  where
    by_client : (o : Option Client) → found nat_cmp clients t ≡ o → Rests clients clients' out lines printed
    by_client None at = let r = outside at in record { same = r.0; sends = r.1; prints = r.2 }
    by_client (Some x) at =
        let r = done x at in
        record { same = r.0 ∙ set_value_same (is_at (nat_cmp t)) clients x at; sends = r.1; prints = r.2 ∙ append-nil lines }

client_idles : (c : Layout) (cs : List CoordSite) (ss : List ShardSite) (clients clients' : Table ℕ Client) (committed : List (ℕ × List Entry)) (out : Posts) (lines printed : List Line)
    → Rests clients clients' out lines printed → Acted Idle no_change (housed c cs ss clients committed) (housed c cs ss clients' committed) out lines printed
client_idles c cs ss clients clients' committed out lines printed r =
    subst (λ (xs : Table ℕ Client). Acted Idle no_change (housed c cs ss clients committed) (housed c cs ss xs committed) out lines printed) (sym r.same)
    (idle Idle refl (housed c cs ss clients committed) out lines printed r.sends r.prints)

client_did : (c : Layout) (cs : List CoordSite) (ss : List ShardSite) (clients clients' : Table ℕ Client) (committed : List (ℕ × List Entry)) (t : ℕ) (act : ClientAct) (out : Posts) (lines printed : List Line)
    → Makes clients clients' t act out lines printed
    → Acted (ByClient t act) (deed_work (housed c cs ss clients committed) (ByClient t act)) (housed c cs ss clients committed) (housed c cs ss clients' committed) out lines printed
client_did c cs ss clients clients' committed t act out lines printed made = record {
  parties = ap (λ (xs : Table ℕ Client). (housed c cs ss xs committed).parties) made.0;
  disks = refl;
  sends = made.1;
  prints = made.2;
  whole = ap (λ (o : Option ClientRefusal). maybe o None limit_of) made.3;
}

client_deed : (c : Layout) (cs : List CoordSite) (ss : List ShardSite) (clients clients' : Table ℕ Client) (committed : List (ℕ × List Entry)) (t : ℕ) (o : Option ClientCause) (out : Posts) (lines printed : List Line)
    → (found nat_cmp clients t ≡ None → (clients' ≡ clients) × (out ≡ []) × (printed ≡ lines))
    → ((x : Client) → found nat_cmp clients t ≡ Some x → Makes clients clients' t (part_of c t o x) out lines printed)
    → let deed = maybe o Idle (client_does (housed c cs ss clients committed).parties t) in
    Acted deed (deed_work (housed c cs ss clients committed) deed) (housed c cs ss clients committed) (housed c cs ss clients' committed) out lines printed
client_deed c cs ss clients clients' committed t None out lines printed outside done =
    client_idles c cs ss clients clients' committed out lines printed (client_rests clients clients' t out lines printed outside done)
client_deed c cs ss clients clients' committed t (Some cause) out lines printed outside done = by_client (found nat_cmp clients t) refl
  where
    Goal : Deed → Type 0
    Goal deed = Acted deed (deed_work (housed c cs ss clients committed) deed) (housed c cs ss clients committed) (housed c cs ss clients' committed) out lines printed

    deed_at : (o : Option Client) → found nat_cmp clients t ≡ o → client_does (housed c cs ss clients committed).parties t cause ≡ maybe o Idle (λ (x : Client). ByClient t (client_act c t x cause))
    deed_at o at = ap (λ (p : Option Client). maybe p Idle (λ (x : Client). ByClient t (client_act c t x cause))) at

    by_client : (o : Option Client) → found nat_cmp clients t ≡ o → Goal (client_does (housed c cs ss clients committed).parties t cause)
    by_client None at =
        let r = outside at in
        subst Goal (sym (deed_at None at)) (client_idles c cs ss clients clients' committed out lines printed (record { same = r.0; sends = r.1; prints = r.2 }))
    by_client (Some x) at = subst Goal (sym (deed_at (Some x) at)) (client_did c cs ss clients clients' committed t (client_act c t x cause) out lines printed (done x at))

pub client_deed_at : (c : Layout) (cs : List CoordSite) (ss : List ShardSite) (clients clients' : Table ℕ Client) (committed : List (ℕ × List Entry)) (q : Housed) (t : ℕ) (o : Option ClientCause) (out : Posts) (lines printed : List Line)
    → housed c cs ss clients committed ≡ q → ((x : Client) → found nat_cmp q.parties.clients t ≡ Some x → maybe o None (refusal x) ≡ None)
    → (found nat_cmp clients t ≡ None → (clients' ≡ clients) × (out ≡ []) × (printed ≡ lines))
    → ((x : Client) → found nat_cmp clients t ≡ Some x → Makes clients clients' t (row_of c t o x) out lines printed)
    → let deed = maybe o Idle (client_does q.parties t) in Acted deed (deed_work q deed) q (housed c cs ss clients' committed) out lines printed
client_deed_at c cs ss clients clients' committed q t o out lines printed is may outside done =
    subst
    (λ (r : Housed). ((x : Client) → found nat_cmp r.parties.clients t ≡ Some x → maybe o None (refusal x) ≡ None)
    → let deed = maybe o Idle (client_does r.parties t) in Acted deed (deed_work r deed) r (housed c cs ss clients' committed) out lines printed) is
    (λ takes. client_deed c cs ss clients clients' committed t o out lines printed outside
    (λ x at. subst (λ (act : ClientAct). Makes clients clients' t act out lines printed) (row_is_part c t o x (takes x at)) (done x at))) may

-- A REFUSAL
spent : (t : ℕ) (act : ClientAct) → act.refused ≡ Some IsWornOut → (course : Course) → worn_out (along course (ByClient t act)) ≡ Some Version
spent t act is Goes = ap (λ (o : Option ClientRefusal). maybe o None limit_of) is
spent t act is (Stops kept) = ap (λ (o : Option ClientRefusal). maybe o None limit_of) is

by_fault : (c : Layout) (t : ℕ) (x : Client) (o : Option ClientCause) (e : ActFault) → Wears e (part_of c t o x) → Refuses e (maybe o Idle (λ cause. ByClient t (client_act c t x cause)))
by_fault c t x o NoMemory wears = tt
by_fault c t x o BallotsSpent wears = absurd wears
by_fault c t x None VersionSpent wears = let w : (let o : Option ClientRefusal = None in o) ≡ Some IsWornOut = wears in absurd (cc)
by_fault c t x (Some cause) VersionSpent wears = spent t (client_act c t x cause) wears

client_refused : (c : Layout) (cs : List CoordSite) (ss : List ShardSite) (clients : Table ℕ Client) (committed : List (ℕ × List Entry)) (t : ℕ) (o : Option ClientCause) (e : ActFault)
    → ((x : Client) → found nat_cmp clients t ≡ Some x → Wears e (part_of c t o x)) → (found nat_cmp clients t ≡ None → e ≡ NoMemory)
    → Refuses e (maybe o Idle (client_does (housed c cs ss clients committed).parties t))
client_refused c cs ss clients committed t o e wears outside = by_client (found nat_cmp clients t) refl
  where
    deed_at : (p : Option Client) → found nat_cmp clients t ≡ p → (o : Option ClientCause)
        → maybe o Idle (client_does (housed c cs ss clients committed).parties t) ≡ maybe o Idle (λ cause. maybe p Idle (λ (x : Client). ByClient t (client_act c t x cause)))
    deed_at p at None = refl
    deed_at p at (Some cause) = ap (λ (p : Option Client). maybe p Idle (λ (x : Client). ByClient t (client_act c t x cause))) at

    by_client : (p : Option Client) → found nat_cmp clients t ≡ p → Refuses e (maybe o Idle (client_does (housed c cs ss clients committed).parties t))
    by_client None at = subst (λ (f : ActFault). Refuses f (maybe o Idle (client_does (housed c cs ss clients committed).parties t))) (sym (outside at)) tt
    by_client (Some x) at = subst (Refuses e) (sym (deed_at (Some x) at o)) (by_fault c t x o e (wears x at))

pub client_refused_at : (c : Layout) (cs : List CoordSite) (ss : List ShardSite) (clients : Table ℕ Client) (committed : List (ℕ × List Entry)) (q : Housed) (t : ℕ) (o : Option ClientCause) (e : ActFault)
    → housed c cs ss clients committed ≡ q → ((x : Client) → found nat_cmp q.parties.clients t ≡ Some x → maybe o None (refusal x) ≡ None)
    → ((x : Client) → found nat_cmp clients t ≡ Some x → Wears e (row_of c t o x)) → (found nat_cmp clients t ≡ None → e ≡ NoMemory) → Refuses e (maybe o Idle (client_does q.parties t))
client_refused_at c cs ss clients committed q t o e is may wears outside =
    subst (λ (r : Housed). ((x : Client) → found nat_cmp r.parties.clients t ≡ Some x → maybe o None (refusal x) ≡ None) → Refuses e (maybe o Idle (client_does r.parties t))) is
    (λ takes. client_refused c cs ss clients committed t o e (λ x at. subst (Wears e) (row_is_part c t o x (takes x at)) (wears x at)) outside) may

pub if_err2 : {T E : Type 0} (r : Result T E) (P Q R : E → Type 0) → ((e : E) → P e → Q e → R e) → IfErr r P → IfErr r Q → IfErr r R
if_err2 (Ok x) P Q R f a b = tt
if_err2 (Err e) P Q R f a b = f e a b
