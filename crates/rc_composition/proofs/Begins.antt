-- The clients of a wire begin first.
use Rattle.std.proofs.Common.{◌≡◌, ℕ, suc, ◌≤◌, ◌||◌, Bool, true, false, cond, List, [], ◌∷◌, ◌++◌, refl, ap, ◌∙◌, subst, arith, Option, Some, None, inl, inr}
use Rattle.std.specs.declared.cmp.Ordering.{Ordering}
use Rattle.std.specs.declared.cmp.Ordering.TheVariants.{Less, Equal, Greater}
use Rattle.std.specs.Ordering.{nat_cmp, match_ordering}
use Rattle.std.specs.List.{list_any}
use Rattle.std.proofs.lemmas.Bool.{eqb-true}
use Rattle.std.proofs.lemmas.List.{append-nil}
use Rattle.rc_ids.specs.Parties.{is_same_party}
use Rattle.rc_ids.specs.Tables.{In, found, added, maybe}
use Rattle.rc_ids.specs.declared.names.NodeId.{NodeId}
use Rattle.rc_ids.specs.declared.names.NodeId.TheVariants.{Coord, Shard}
use Rattle.rc_ids.specs.declared.names.Party.{Party}
use Rattle.rc_ids.specs.declared.names.Party.TheVariants.{Node, Client as ClientOf}
use Rattle.rc_msg.specs.declared.msg.Envelope.{Envelope}
use Rattle.rc_report.specs.declared.line.Line.{Line}
use Rattle.rc_protocol.specs.Client.{Client, new_client}
use Rattle.rc_runs.specs.declared.event.Event.TheVariants.{Begin}
use Rattle.rc_runs.specs.World.{World, Parties, Goes, actor, with_new_client, step}
use Rattle.rc_runs.specs.Refusals.{is_event, after_event, run}
use Rattle.rc_agreement.proofs.Tables.{put_same, put_other, put_cases, added_has}
use Rattle.rc_composition.specs.Composed.{begins_of, clients_of}
use Rattle.rc_composition.specs.Parts.{OfClient, NoPart, part_in}
use Rattle.rc_composition.specs.Prints.{lines_by}
use Rattle.rc_composition.specs.OneRun.{AreEvents}

-- NUMBERS OF CLIENTS RISE
abbrev Rises : ℕ → List ℕ → Type 0
Rises n [] = Unit {0}
Rises n (t ∷ ts) = (n ≤ t) × Rises (suc t) ts

rises_added : (n k : ℕ) (ts : List ℕ) → n ≤ k → Rises n ts → Rises n (added nat_cmp ts k)
rises_added n k [] le h = (le, tt)
rises_added n k (t ∷ ts) le h = go (rises_added (suc t) k ts) (nat_cmp k t) refl
  where
    go : (suc t ≤ k → Rises (suc t) ts → Rises (suc t) (added nat_cmp ts k)) → (o : Ordering) → nat_cmp k t ≡ o → Rises n (match_ordering o (k ∷ t ∷ ts) (t ∷ ts) (t ∷ added nat_cmp ts k))
    go ih Less at = let lt : suc k ≤ t = grind arith in (le, (lt, h.1))
    go ih Equal at = h
    go ih Greater at = let gt : suc t ≤ k = grind arith in (h.0, ih gt h.1)

clients_rise : (ps : List Party) → Rises 0 (clients_of ps)
clients_rise [] = tt
clients_rise (Node node ∷ ps) = clients_rise ps
clients_rise (ClientOf t ∷ ps) = rises_added 0 t (clients_of ps) (omega arith) (clients_rise ps)

-- each client of the wire is among them
pub is_client_of : (t : ℕ) (ps : List Party) → list_any (is_same_party (ClientOf t)) ps ≡ true → In t (clients_of ps)
is_client_of t [] h = absurd cc
is_client_of t (Node node ∷ ps) h = is_client_of t ps h
is_client_of t (ClientOf u ∷ ps) h = go (is_same_party (ClientOf t) (ClientOf u)) refl (is_client_of t ps) h
  where
    go : (b : Bool) → is_same_party (ClientOf t) (ClientOf u) ≡ b → (list_any (is_same_party (ClientOf t)) ps ≡ true → In t (clients_of ps))
        → (b || list_any (is_same_party (ClientOf t)) ps) ≡ true → In t (added nat_cmp (clients_of ps) u)
    go true is ih h = added_has t u (clients_of ps) (inl (eqb-true t u is))
    go false is ih h = added_has t u (clients_of ps) (inr (ih h))

-- WHAT THEIR BEGINS MAKE
abbrev begun : Parties → List ℕ → Parties
begun w [] = w
begun w (t ∷ ts) = begun (with_new_client w t) ts

begin_is_event : (w : World) (t : ℕ) → w.parties.start.named ≡ [] → found nat_cmp w.parties.clients t ≡ None → is_event w (Begin t, Goes) ≡ true
begin_is_event w t named new = rw named (rw new refl)

-- a world with these parties and messages
record IsWorld (w : World) (parties : Parties) (sent : List Envelope) : Type 0 where
  parties_are : w.parties ≡ parties
  sent_is : w.sent ≡ sent

begins_first : (w : World) (t : ℕ) → is_event w (Begin t, Goes) ≡ true → IsWorld (after_event w (Begin t, Goes)) (with_new_client w.parties t) w.sent
begins_first w t is =
    let at : after_event w (Begin t, Goes) ≡ step w (Begin t) Goes = ap (λ (b : Bool). cond b (step w (Begin t) Goes) w) is in
    record { parties_are = ap (λ (v : World). v.parties) at; sent_is = ap (λ (v : World). v.sent) at ∙ append-nil w.sent }

record AllBegin (w : World) (ts : List ℕ) : Type 0 where
  events : AreEvents w (begins_of ts)
  after : IsWorld (run w (begins_of ts)) (begun w.parties ts) w.sent
  no_lines : (p : Party) → lines_by p w (begins_of ts) ≡ []

no_line : (w : World) (t : ℕ) (a b : Bool) → ◌≡◌ {A = List Line} (cond b (cond a ([] ++ []) []) []) []
no_line w t true true = refl
no_line w t true false = refl
no_line w t false true = refl
no_line w t false false = refl

all_begin : (n : ℕ) (ts : List ℕ) (w : World) → w.parties.start.named ≡ [] → Rises n ts → ((k : ℕ) → n ≤ k → found nat_cmp w.parties.clients k ≡ None) → AllBegin w ts
all_begin n [] w named rises none = record { events = tt; after = record { parties_are = refl; sent_is = refl }; no_lines = λ p. refl }
all_begin n (t ∷ ts) w named rises none =
    let is = begin_is_event w t named (none t rises.0) in
    let first = begins_first w t is in
    let v : World = after_event w (Begin t, Goes) in
    let rest = all_begin (suc t) ts v (ap (λ (x : Parties). x.start.named) first.parties_are ∙ named) rises.1 (later first.parties_are) in
    record {
      events = (is, rest.events);
      after = record {
        parties_are = rest.after.parties_are ∙ ap (λ (x : Parties). begun x ts) first.parties_are;
        sent_is = rest.after.sent_is ∙ first.sent_is;
      };
      no_lines = λ p. ap (λ (ls : List Line). ls ++ lines_by p v (begins_of ts)) (no_line w t (is_event w (Begin t, Goes)) (is_same_party (actor w.sent (Begin t)) p)) ∙ rest.no_lines p;
    }
  where
    later : {v : Parties} → v ≡ with_new_client w.parties t → (k : ℕ) → suc t ≤ k → found nat_cmp v.clients k ≡ None
    later same k le =
        let low = rises.0 in
        ap (λ (x : Parties). found nat_cmp x.clients k) same
        ∙ put_other k t new_client w.parties.clients (λ e. absurd (omega arith)) ∙ none k (omega arith)

-- what a client and a node are then
kept_new : (ts : List ℕ) (w : Parties) (t : ℕ) → found nat_cmp w.clients t ≡ Some new_client → found nat_cmp (begun w ts).clients t ≡ Some new_client
kept_new [] w t is = is
kept_new (u ∷ us) w t is = kept_new us (with_new_client w u) t (elim (put_cases t u new_client w.clients) [ inl a ↦ a.1 | inr b ↦ b.1 ∙ is ])

new_begun : (ts : List ℕ) (w : Parties) (t : ℕ) → In t ts → found nat_cmp (begun w ts).clients t ≡ Some new_client
new_begun [] w t h = absurd h
new_begun (u ∷ us) w t (inl e) = kept_new us (with_new_client w u) t (subst (λ (k : ℕ). found nat_cmp (with_new_client w u).clients k ≡ Some new_client) e (put_same u new_client w.clients))
new_begun (u ∷ us) w t (inr h) = new_begun us (with_new_client w u) t h

nodes_begun : (ts : List ℕ) (w : Parties) (node : NodeId) → part_in (begun w ts) (Node node) ≡ part_in w (Node node)
nodes_begun [] w node = refl
nodes_begun (t ∷ ts) w (Coord d) = nodes_begun ts (with_new_client w t) (Coord d)
nodes_begun (t ∷ ts) w (Shard d s) = nodes_begun ts (with_new_client w t) (Shard d s)

same_layout : (ts : List ℕ) (w : Parties) → (begun w ts).layout ≡ w.layout
same_layout [] w = refl
same_layout (t ∷ ts) w = same_layout ts (with_new_client w t)

same_names : (ts : List ℕ) (w : Parties) → (begun w ts).start.named ≡ w.start.named
same_names [] w = refl
same_names (t ∷ ts) w = same_names ts (with_new_client w t)

-- of a world without clients
pub record Begins (w : World) (ps : List Party) (v : World) : Type 0 where
  pub events : AreEvents w (begins_of (clients_of ps))
  pub sent_is : v.sent ≡ w.sent
  pub layout_is : v.parties.layout ≡ w.parties.layout
  pub names_are : v.parties.start.named ≡ w.parties.start.named
  pub no_lines : (p : Party) → lines_by p w (begins_of (clients_of ps)) ≡ []
  pub nodes_are : (node : NodeId) → part_in v.parties (Node node) ≡ part_in w.parties (Node node)
  pub clients_are : (t : ℕ) → list_any (is_same_party (ClientOf t)) ps ≡ true → part_in v.parties (ClientOf t) ≡ OfClient t new_client

pub begins_all : (w : World) (ps : List Party) → w.parties.start.named ≡ [] → ((k : ℕ) → found nat_cmp w.parties.clients k ≡ None) → Begins w ps (run w (begins_of (clients_of ps)))
begins_all w ps named none =
    let ts : List ℕ = clients_of ps in
    let b = all_begin 0 ts w named (clients_rise ps) (λ k le. none k) in
    record {
      events = b.events;
      sent_is = b.after.sent_is;
      layout_is = ap (λ (x : Parties). x.layout) b.after.parties_are ∙ same_layout ts w.parties;
      names_are = ap (λ (x : Parties). x.start.named) b.after.parties_are ∙ same_names ts w.parties;
      no_lines = b.no_lines;
      nodes_are = λ node. ap (λ (x : Parties). part_in x (Node node)) b.after.parties_are ∙ nodes_begun ts w.parties node;
      clients_are = λ t here. ap (λ (x : Parties). part_in x (ClientOf t)) b.after.parties_are
          ∙ ap (λ (o : Option Client). maybe o NoPart (OfClient t)) (new_begun ts w.parties t (is_client_of t ps here));
    }
