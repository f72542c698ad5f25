-- A world whose earlier messages and clients are gone is a world that has them still: what every move keeps it keeps of that one too.
use Rattle.std.proofs.Common.{◌≡◌, ℕ, List, ◌++◌, refl, sym, ◌∙◌, subst, true, false, Option, Some, None, ◌⊎◌, inl, inr, ⊎_elim, true≢false}
use Rattle.std.specs.Prelude.{◌||◌, is_some}
use Rattle.std.specs.Ordering.{nat_cmp}
use Rattle.rc_ids.specs.Tables.{In, Table, found, put, member}
use Rattle.rc_msg.specs.declared.msg.Envelope.{Envelope}
use Rattle.rc_record.specs.declared.record.Record.{Record}
use Rattle.rc_protocol.specs.Messages.{coordinator, shard_server, client_of}
use Rattle.rc_protocol.specs.Client.{Client, new_client}
use Rattle.rc_runs.specs.World.{envelopes, replaced}
use Rattle.rc_runs.specs.Refusals.{is_begun}
use Rattle.rc_agreement.proofs.Cases.{never}
use Rattle.rc_agreement.proofs.Tables.{in_left, in_right, in_either, put_other, put_cases, set_cases}
use Rattle.rc_protocol.specs.Acts.{NodeCause, Came, Takes, Catches, ClientCause, Hears, Reads, Writes, Commits, Cancels, Retries, Vanishes, client_by_row}
use Rattle.rc_agreement.proofs.Scenes.{Scene, act_of, shard_act_of, Due, DueTo, DueFor, Half, Nothing, Whole, ShardHalf, Naught, Entire, Keeps}
use Rattle.rc_agreement.proofs.Agreeing.{not_begun}
use Rattle.rc_agreement.proofs.Listed.{or_first_false}
use Rattle.rc_agreement.proofs.Named.{is_old}

abbrev pub with_ghosts : Scene → Table ℕ Client → List Envelope → Scene
with_ghosts s clients sent = record { parties = record s.parties { clients = clients }; sent = sent }

-- P holds of s with more messages, and with the clients of transactions that the logs named at the start
pub record Ghost (P : Scene → Type 0) (s : Scene) : Type 0 where
  pub clients : Table ℕ Client
  pub sent : List Envelope
  pub holds : P (with_ghosts s clients sent)
  pub all : (e : Envelope) → In e s.sent → In e sent
  pub known : (t : ℕ) (x : Client) → found nat_cmp s.parties.clients t ≡ Some x → found nat_cmp clients t ≡ Some x
  pub back : (t : ℕ) (x : Client) → found nat_cmp clients t ≡ Some x → (found nat_cmp s.parties.clients t ≡ Some x) ⊎ (member nat_cmp s.parties.start.named t ≡ true)

-- what is, is a world with no ghosts
pub no_ghosts : (P : Scene → Type 0) (s : Scene) → P s → Ghost P s
no_ghosts P s p = record { clients = s.parties.clients; sent = s.sent; holds = p; all = λ e i. i; known = λ t x is. is; back = λ t x is. inl is }

module _ (s : Scene) (cs : Table ℕ Client) (sent : List Envelope) (all : (e : Envelope) → In e s.sent → In e sent) where
  due_up : (d : ℕ) (k : NodeCause) → Due s d k → Due (with_ghosts s cs sent) d k
  due_up d (Came from m) i = all (record { from = from; to = coordinator d; msg = m }) i
  due_up d (Takes t) i = tt
  due_up d Catches i = tt

  due_to_up : (d sh : ℕ) (k : NodeCause) → DueTo s d sh k → DueTo (with_ghosts s cs sent) d sh k
  due_to_up d sh (Came from m) i = all (record { from = from; to = shard_server d sh; msg = m }) i
  due_to_up d sh Catches i = tt
  due_to_up d sh (Takes t) i = i

  due_for_up : (t : ℕ) (x : Client) (k : ClientCause) → DueFor s t x k → DueFor (with_ghosts s cs sent) t x k
  due_for_up t x (Hears m) i = (i.0, all (record { from = i.0; to = client_of t; msg = m }) i.1)
  due_for_up t x (Reads k) i = i
  due_for_up t x (Writes k value) i = i
  due_for_up t x Commits i = i
  due_for_up t x (Cancels k) i = i
  due_for_up t x Retries i = i
  due_for_up t x Vanishes i = i

  half_up : (d : ℕ) (r : Option Record) → Half s d r → Half (with_ghosts s cs sent) d r
  half_up d r Nothing = Nothing
  half_up d r (Whole k due) = Whole k (due_up d k due)

  shard_half_up : (d sh : ℕ) (r : Option Record) → ShardHalf s d sh r → ShardHalf (with_ghosts s cs sent) d sh r
  shard_half_up d sh r Naught = Naught
  shard_half_up d sh r (Entire k due) = Entire k (due_to_up d sh k due)

more : (xs ys zs : List Envelope) → ((e : Envelope) → In e xs → In e ys) → (e : Envelope) → In e (xs ++ zs) → In e (ys ++ zs)
more xs ys zs h e i = ⊎_elim (λ a. in_left e ys zs (h e a)) (λ b. in_right e ys zs b) (in_either e xs zs i)

-- a new client is new among the ghosts too
begun_up : (P : Scene → Type 0) (s : Scene) (u : ℕ) → is_begun s.parties u ≡ false → (g : Ghost P s) → is_begun (with_ghosts s g.clients g.sent).parties u ≡ false
begun_up P s u new g = go (found nat_cmp g.clients u) refl
  where
    unnamed : member nat_cmp s.parties.start.named u ≡ false
    unnamed = or_first_false (member nat_cmp s.parties.start.named u) (is_some (found nat_cmp s.parties.clients u)) new

    go : (o : Option Client) → found nat_cmp g.clients u ≡ o → (member nat_cmp s.parties.start.named u || is_some o) ≡ false
    go None e = rw unnamed
    go (Some x) e = ⊎_elim (λ j. never x (sym (not_begun s.parties u new) ∙ j)) (λ n. absurd (true≢false (sym n ∙ unnamed))) (g.back u x e)

pub ghosts_kept : (P : Scene → Type 0) → Keeps P → Keeps (Ghost P)
ghosts_kept P m =
    record {
      turns = λ s d k there due g. record {
        clients = g.clients;
        sent = g.sent ++ envelopes (coordinator d) (act_of s d k).sends;
        holds = m.turns (with_ghosts s g.clients g.sent) d k there (due_up s g.clients g.sent g.all d k due) g.holds;
        all = more s.sent g.sent (envelopes (coordinator d) (act_of s d k).sends) g.all;
        known = g.known;
        back = g.back;
      };
      stops = λ s d r there half g. record { clients = g.clients; sent = g.sent; holds = m.stops (with_ghosts s g.clients g.sent) d r there (half_up s g.clients g.sent g.all d r half) g.holds; all = g.all; known = g.known; back = g.back };
      starts = λ s d there g. record { clients = g.clients; sent = g.sent; holds = m.starts (with_ghosts s g.clients g.sent) d there g.holds; all = g.all; known = g.known; back = g.back };
      serves = λ s d sh k there due g. record {
        clients = g.clients;
        sent = g.sent ++ envelopes (shard_server d sh) (shard_act_of s d sh k).sends;
        holds = m.serves (with_ghosts s g.clients g.sent) d sh k there (due_to_up s g.clients g.sent g.all d sh k due) g.holds;
        all = more s.sent g.sent (envelopes (shard_server d sh) (shard_act_of s d sh k).sends) g.all;
        known = g.known;
        back = g.back;
      };
      halts = λ s d sh r there half g. record { clients = g.clients; sent = g.sent; holds = m.halts (with_ghosts s g.clients g.sent) d sh r there (shard_half_up s g.clients g.sent g.all d sh r half) g.holds; all = g.all; known = g.known; back = g.back };
      wakes = λ s d sh there g. record { clients = g.clients; sent = g.sent; holds = m.wakes (with_ghosts s g.clients g.sent) d sh there g.holds; all = g.all; known = g.known; back = g.back };
      begins = λ s u new g. record {
        clients = put nat_cmp g.clients u new_client;
        sent = g.sent;
        holds = m.begins (with_ghosts s g.clients g.sent) u (begun_up P s u new g) g.holds;
        all = g.all;
        known = λ t x is. ⊎_elim
            (λ (e : (t ≡ u) × (found nat_cmp (put nat_cmp s.parties.clients u new_client) t ≡ Some new_client)). at_new s g t u x e.0 (sym e.1 ∙ is))
            (λ (e : (t ≡ u → ⊥) × (found nat_cmp (put nat_cmp s.parties.clients u new_client) t ≡ found nat_cmp s.parties.clients t)). elsewhere_put t u g.clients e.0 ∙ g.known t x (sym e.1 ∙ is))
            (put_cases t u new_client s.parties.clients);
        back = λ t x is. ⊎_elim
            (λ (e : (t ≡ u) × (found nat_cmp (put nat_cmp g.clients u new_client) t ≡ Some new_client)). inl (here_put t u s.parties.clients e.0 ∙ sym e.1 ∙ is))
            (λ (e : (t ≡ u → ⊥) × (found nat_cmp (put nat_cmp g.clients u new_client) t ≡ found nat_cmp g.clients t)). ⊎_elim (λ j. inl (elsewhere_put t u s.parties.clients e.0 ∙ j)) inr (g.back t x (sym e.1 ∙ is)))
            (put_cases t u new_client g.clients);
      };
      clients = λ s u x k is due g. let y : Client = (client_by_row s.parties.layout u x k).after in record {
        clients = replaced g.clients u y;
        sent = g.sent ++ envelopes (client_of u) (client_by_row s.parties.layout u x k).sends;
        holds = m.clients (with_ghosts s g.clients g.sent) u x k (g.known u x is) (due_for_up s g.clients g.sent g.all u x k due) g.holds;
        all = more s.sent g.sent (envelopes (client_of u) (client_by_row s.parties.layout u x k).sends) g.all;
        known = λ t z h. ⊎_elim
            (λ (e : (t ≡ u) × (found nat_cmp (replaced s.parties.clients u y) t ≡ Some y)). here_set t u x y g.clients (g.known u x is) e.0 ∙ sym e.1 ∙ h)
            (λ (e : (t ≡ u → ⊥) × (found nat_cmp (replaced s.parties.clients u y) t ≡ found nat_cmp s.parties.clients t)). elsewhere_set t u x y g.clients (g.known u x is) e.0 ∙ g.known t z (sym e.1 ∙ h))
            (set_cases t u y x s.parties.clients is);
        back = λ t z h. ⊎_elim
            (λ (e : (t ≡ u) × (found nat_cmp (replaced g.clients u y) t ≡ Some y)). inl (here_set t u x y s.parties.clients is e.0 ∙ sym e.1 ∙ h))
            (λ (e : (t ≡ u → ⊥) × (found nat_cmp (replaced g.clients u y) t ≡ found nat_cmp g.clients t)). ⊎_elim (λ j. inl (elsewhere_set t u x y s.parties.clients is e.0 ∙ j)) inr (g.back t z (sym e.1 ∙ h)))
            (set_cases t u y x g.clients (g.known u x is));
      };
    }
  where
    here_put : (t u : ℕ) (m : Table ℕ Client) → t ≡ u → found nat_cmp (put nat_cmp m u new_client) t ≡ Some new_client
    here_put t u m e = ⊎_elim (λ (k : (t ≡ u) × (found nat_cmp (put nat_cmp m u new_client) t ≡ Some new_client)). k.1) (λ (k : (t ≡ u → ⊥) × (found nat_cmp (put nat_cmp m u new_client) t ≡ found nat_cmp m t)). absurd (k.0 e)) (put_cases t u new_client m)

    elsewhere_put : (t u : ℕ) (m : Table ℕ Client) → (t ≡ u → ⊥) → found nat_cmp (put nat_cmp m u new_client) t ≡ found nat_cmp m t
    elsewhere_put t u m n = ⊎_elim (λ (k : (t ≡ u) × (found nat_cmp (put nat_cmp m u new_client) t ≡ Some new_client)). absurd (n k.0)) (λ (k : (t ≡ u → ⊥) × (found nat_cmp (put nat_cmp m u new_client) t ≡ found nat_cmp m t)). k.1) (put_cases t u new_client m)

    here_set : (t u : ℕ) (x y : Client) (m : Table ℕ Client) → found nat_cmp m u ≡ Some x → t ≡ u → found nat_cmp (replaced m u y) t ≡ Some y
    here_set t u x y m is e = ⊎_elim (λ (k : (t ≡ u) × (found nat_cmp (replaced m u y) t ≡ Some y)). k.1) (λ (k : (t ≡ u → ⊥) × (found nat_cmp (replaced m u y) t ≡ found nat_cmp m t)). absurd (k.0 e)) (set_cases t u y x m is)

    elsewhere_set : (t u : ℕ) (x y : Client) (m : Table ℕ Client) → found nat_cmp m u ≡ Some x → (t ≡ u → ⊥) → found nat_cmp (replaced m u y) t ≡ found nat_cmp m t
    elsewhere_set t u x y m is n = ⊎_elim (λ (k : (t ≡ u) × (found nat_cmp (replaced m u y) t ≡ Some y)). absurd (n k.0)) (λ (k : (t ≡ u → ⊥) × (found nat_cmp (replaced m u y) t ≡ found nat_cmp m t)). k.1) (set_cases t u y x m is)

    at_new : (s : Scene) (g : Ghost P s) (t u : ℕ) (x : Client) → t ≡ u → Some new_client ≡ Some x → found nat_cmp (put nat_cmp g.clients u new_client) t ≡ Some x
    at_new s g t u x e k = here_put t u g.clients e ∙ k

-- WHO IS GONE: these clients are among the ghosts as they were left, the names of the start come not again, and of the messages that are
-- gone only proposals are there still
pub record Haunted (Gone : ℕ → Client → Type 0) (P : Scene → Type 0) (s : Scene) : Type 0 where
  pub ghost : Ghost P s
  pub gone : (t : ℕ) (x : Client) → Gone t x → (member nat_cmp s.parties.start.named t ≡ true) × (found nat_cmp ghost.clients t ≡ Some x)
  pub said : (e : Envelope) → In e ghost.sent → In e s.sent ⊎ (is_old (λ _. true) e.msg ≡ true)
  pub new : (t : ℕ) (x : Client) → found nat_cmp s.parties.clients t ≡ Some x → member nat_cmp s.parties.start.named t ≡ false

still : (xs ys zs : List Envelope) → ((e : Envelope) → In e ys → In e xs ⊎ (is_old (λ _. true) e.msg ≡ true)) → (e : Envelope) → In e (ys ++ zs) → In e (xs ++ zs) ⊎ (is_old (λ _. true) e.msg ≡ true)
still xs ys zs h e i = ⊎_elim (λ a. ⊎_elim (λ old. inl (in_left e xs zs old)) inr (h e a)) (λ b. inl (in_right e xs zs b)) (in_either e ys zs i)

-- a name of the start is not a new one's
other_name : (named : List ℕ) (t u : ℕ) → member nat_cmp named t ≡ true → member nat_cmp named u ≡ false → t ≡ u → ⊥
other_name named t u is new same = true≢false (sym is ∙ subst (λ n. member nat_cmp named n ≡ false) (sym same) new)

pub haunted_kept : (Gone : ℕ → Client → Type 0) (P : Scene → Type 0) → Keeps P → Keeps (Haunted Gone P)
unfolding ghosts_kept
haunted_kept Gone P m =
    let k = ghosts_kept P m in
    record {
      turns = λ s d a there due h. record { ghost = k.turns s d a there due h.ghost; gone = h.gone; said = still s.sent h.ghost.sent (envelopes (coordinator d) (act_of s d a).sends) h.said; new = h.new };
      stops = λ s d r there half h. record { ghost = k.stops s d r there half h.ghost; gone = h.gone; said = h.said; new = h.new };
      starts = λ s d there h. record { ghost = k.starts s d there h.ghost; gone = h.gone; said = h.said; new = h.new };
      serves = λ s d sh a there due h. record { ghost = k.serves s d sh a there due h.ghost; gone = h.gone; said = still s.sent h.ghost.sent (envelopes (shard_server d sh) (shard_act_of s d sh a).sends) h.said; new = h.new };
      halts = λ s d sh r there half h. record { ghost = k.halts s d sh r there half h.ghost; gone = h.gone; said = h.said; new = h.new };
      wakes = λ s d sh there h. record { ghost = k.wakes s d sh there h.ghost; gone = h.gone; said = h.said; new = h.new };
      begins = λ s u fresh h.
          let unnamed : member nat_cmp s.parties.start.named u ≡ false = or_first_false (member nat_cmp s.parties.start.named u) (is_some (found nat_cmp s.parties.clients u)) fresh in
          record {
            ghost = k.begins s u fresh h.ghost;
            gone = λ t x i. let g = h.gone t x i in (g.0, put_other t u new_client h.ghost.clients (other_name s.parties.start.named t u g.0 unnamed) ∙ g.1);
            said = h.said;
            new = λ t x is. ⊎_elim
                (λ (e : (t ≡ u) × (found nat_cmp (put nat_cmp s.parties.clients u new_client) t ≡ Some new_client)). subst (λ n. member nat_cmp s.parties.start.named n ≡ false) (sym e.0) unnamed)
                (λ (e : (t ≡ u → ⊥) × (found nat_cmp (put nat_cmp s.parties.clients u new_client) t ≡ found nat_cmp s.parties.clients t)). h.new t x (sym e.1 ∙ is))
                (put_cases t u new_client s.parties.clients);
          };
      clients = λ s u x a is due h. let y : Client = (client_by_row s.parties.layout u x a).after in record {
        ghost = k.clients s u x a is due h.ghost;
        gone = λ t z i. let g = h.gone t z i in (
          g.0,
          ⊎_elim
              (λ (e : (t ≡ u) × (found nat_cmp (replaced h.ghost.clients u y) t ≡ Some y)). absurd (other_name s.parties.start.named t u g.0 (h.new u x is) e.0))
              (λ (e : (t ≡ u → ⊥) × (found nat_cmp (replaced h.ghost.clients u y) t ≡ found nat_cmp h.ghost.clients t)). e.1 ∙ g.1)
              (set_cases t u y x h.ghost.clients (h.ghost.known u x is)),
        );
        said = still s.sent h.ghost.sent (envelopes (client_of u) (client_by_row s.parties.layout u x a).sends) h.said;
        new = λ t z i. ⊎_elim
            (λ (e : (t ≡ u) × (found nat_cmp (replaced s.parties.clients u y) t ≡ Some y)). subst (λ n. member nat_cmp s.parties.start.named n ≡ false) (sym e.0) (h.new u x is))
            (λ (e : (t ≡ u → ⊥) × (found nat_cmp (replaced s.parties.clients u y) t ≡ found nat_cmp s.parties.clients t)). h.new t z (sym e.1 ∙ i))
            (set_cases t u y x s.parties.clients is);
      };
    }
