-- Every move keeps what holds of each transaction, so it holds in every run.
use Rattle.std.proofs.Common.{◌≡◌, ℕ, zero, suc, ◌≤◌, List, [], ◌++◌, refl, sym, ap, ◌∙◌, subst, Bool, true, false, Option, Some, None, arith, ◌⊎◌, inl, inr, ⊎_elim}
use Rattle.std.specs.Prelude.{slice_get, replicate, ◌||◌, is_some}
use Rattle.std.specs.Ordering.{nat_cmp}
use Rattle.std.proofs.lemmas.List.{append-nil}
use Rattle.rc_ids.specs.Tables.{Table, found, put, maybe, member}
use Rattle.rc_ids.specs.Cluster.{Layout, IsLayout, is_dc}
use Rattle.rc_ids.specs.Quorum.{QuorumLaws}
use Rattle.rc_ids.proofs.QuorumFacts.{quorum_laws}
use Rattle.rc_ids.specs.declared.names.Party.{Party}
use Rattle.rc_body.specs.declared.decision.Decision.{Decision}
use Rattle.rc_body.specs.declared.decision.Decision.TheVariants.{Commit}
use Rattle.rc_msg.specs.declared.msg.Msg.TheVariants.{Propose, Promise}
use Rattle.rc_msg.specs.declared.msg.Envelope.{Envelope}
use Rattle.rc_record.specs.declared.record.Record.{Record}
use Rattle.rc_record.specs.declared.record.Record.TheVariants.{Accepted}
use Rattle.rc_record.specs.CoordState.{CoordDurable, coord_applied}
use Rattle.rc_protocol.specs.Messages.{Posts, client_of, shard_server}
use Rattle.rc_protocol.specs.Coordinator.{CoordAct, new_volatile as new_coord_volatile}
use Rattle.rc_protocol.specs.Client.{Client, ClientAct, new_client, body_of}
use Rattle.rc_protocol.specs.Nodes.{CoordNode, ShardNode, coord_index, coord_started, shard_after, shard_stopped, shard_started, applied, logged}
use Rattle.rc_runs.specs.World.{Parties, envelopes, replaced, with_coord, with_shard, new_world}
use Rattle.rc_runs.specs.Refusals.{is_begun}
use Rattle.rc_agreement.proofs.Cases.{on_cond, some_is, never}
use Rattle.rc_agreement.proofs.Tables.{put_cases, set_cases}
use Rattle.rc_agreement.proofs.Places.{node_at, coord_dc}
use Rattle.rc_protocol.specs.Acts.{NodeCause, ClientCause, Hears, Reads, Writes, Commits, Cancels, Retries, Vanishes, client_by_row}
use Rattle.rc_agreement.proofs.Scenes.{Scene, scene, at, shard_in, There, Due, act_of, shard_act_of, DueFor, stopped, started, joined_by, acted, Half, Nothing, Whole, Keeps}
use Rattle.rc_agreement.proofs.Said.{Said, Says, said_more, said_new, Each, each_none, each_weaker, Plain, Modest, modest_plain}
use Rattle.rc_agreement.proofs.Ballots.{Reported, Proposal, Answer, promise_at, Tops, Fine, Late, Sent, Agreeing, Good}
use Rattle.rc_agreement.proofs.FairRows.{good}
use Rattle.rc_agreement.proofs.CoordRows.{act_fair}
use Rattle.rc_agreement.proofs.ShardRows.{shard_modest}
use Rattle.rc_agreement.proofs.ClientRows.{Tame, Ready, client_tame}
use Rattle.rc_agreement.proofs.CoordKeeps.{keeps_act}

or_none : {A : Type 0} (a : Bool) (o : Option A) → (a || is_some o) ≡ false → o ≡ None
or_none true o e = absurd (cc)
or_none false None e = refl
or_none false (Some x) e = absurd (cc)

pub not_begun : (w : Parties) (t : ℕ) → is_begun w t ≡ false → found nat_cmp w.clients t ≡ None
not_begun w t e = or_none (member nat_cmp w.start.named t) (found nat_cmp w.clients t) e

-- MORE MESSAGES that are no promises, and whose proposals are at ballot 0; the coordinators are as before
module _ (c : Layout) (tx : ℕ) (s : Scene) (i : Agreeing c tx s) (shs : List ShardNode) (cs : Table ℕ Client) (from : Party) (ms : Posts)
    (no_promise : (b e : ℕ) (r : Reported) → Says ms (Promise tx b e r) → ⊥)
    (zero_only : (b : ℕ) (o : Decision) → Says ms (Propose tx b o) → b ≡ 0) where
  abbrev z : Scene
  z = record { parties = record s.parties { shards = shs; clients = cs }; sent = s.sent ++ envelopes from ms }

  p_old : (b : ℕ) (o : Decision) → Proposal tx s b o → Proposal tx z b o
  p_old b o h = said_more s.sent _ (Propose tx b o) h

  p_new : (b : ℕ) (o : Decision) → Proposal tx z b o → Proposal tx s b o ⊎ (b ≡ 0)
  p_new b o h = ⊎_elim inl (λ n. inr (zero_only b o n)) (said_new s.sent from ms (Propose tx b o) h)

  m_old : (b e : ℕ) (r : Reported) → Answer tx s b e r → Answer tx z b e r
  m_old b e r h = said_more s.sent _ (Promise tx b e r) h

  m_new : (b e : ℕ) (r : Reported) → Answer tx z b e r → Answer tx s b e r
  m_new b e r h = ⊎_elim (λ x. x) (λ n. absurd (no_promise b e r n)) (said_new s.sent from ms (Promise tx b e r) h)

  fine : (e : ℕ) (x : CoordNode) → Fine tx s e x → Fine tx z e x
  fine e x f =
      record {
        replays = f.replays;
        covers = f.covers;
        real = f.real;
        top = f.top;
        voted = λ k q v. p_old k q (f.voted k q v);
        gathers = λ g is. p_old g.ballot (Commit g.body) (f.gathers g is);
        rises = f.rises;
        takes = λ k is. let o = f.takes k is in
            record {
              above0 = o.above0;
              own = o.own;
              under = o.under;
              fresh = λ q p h. ⊎_elim (λ old. o.fresh q p old) (λ (at0 : k.ballot ≡ 0). let a = o.above0 in absurd (omega arith)) (p_new k.ballot p h);
              each = λ q d m. let x = o.each q d m in (x.0, m_old k.ballot d x.0 x.1, x.2);
              best = λ b q is. let x = o.best b q is in (x.0, m_old k.ballot x.0 (Some (b, q)) x.1);
              silent = λ d m. m_old k.ballot d None (o.silent d m);
            };
      }

  -- what is left to show is of ballot 0
  keeps_more : ((o p : Decision) → Proposal tx z 0 o → Proposal tx z 0 p → o ≡ p) → ((o : Decision) → Proposal tx z 0 o → (x : Client) × (found nat_cmp cs tx ≡ Some x) × Sent x o) → Agreeing c tx z
  keeps_more unique0 client0 =
      record {
        layout = i.layout;
        coords = λ e. fine e (at s e) (i.coords e);
        unique = λ b o p x y. ⊎_elim
            (λ x1. ⊎_elim (λ z1. i.unique b o p x1 z1) (λ (e : b ≡ 0). unique0 o p (subst (λ n. Proposal tx z n o) e x) (subst (λ n. Proposal tx z n p) e y)) (p_new b p y))
            (λ (e : b ≡ 0). unique0 o p (subst (λ n. Proposal tx z n o) e x) (subst (λ n. Proposal tx z n p) e y))
            (p_new b o x);
        root = λ b x p. ⊎_elim (λ old. p_old 0 (Commit x) (i.root b x old)) (λ (e : b ≡ 0). subst (λ n. Proposal tx z n (Commit x)) e p) (p_new b (Commit x) p);
        under = λ b o p lo. ⊎_elim (λ old. i.under b o old lo) (λ (e : b ≡ 0). absurd (omega arith)) (p_new b o p);
        reports = λ b e r h. let x = i.reports b e r (m_new b e r h) in
            (x.0, ⊎_elim (λ (v : (o : Decision) × Proposal tx s b o). inl (v.0, p_old b v.0 v.1)) (λ (v : Tops tx s e b r). inr (record { top = v.top; real = v.real })) x.1);
        safe = λ b o n q p lt apart h. ⊎_elim (λ old. i.safe b o n q old lt apart h) (λ (e : b ≡ 0). absurd (omega arith)) (p_new b o p);
        client = client0;
      }

-- SHARD SERVERS
keeps_shard : (c : Layout) (tx : ℕ) (s : Scene) → Agreeing c tx s → (shs : List ShardNode) (from : Party) (ms : Posts) → Each Plain ms → Agreeing c tx (record { parties = record s.parties { shards = shs }; sent = s.sent ++ envelopes from ms })
keeps_shard c tx s i shs from ms q =
    keeps_more c tx s i shs s.parties.clients from ms
    (λ b e r h. q.each (Promise tx b e r) h)
    (λ b o h. absurd (q.each (Propose tx b o) h))
    (λ o p x y. i.unique 0 o p (old o x) (old p y))
    (λ o p. i.client o (old o p))
  where
    old : (o : Decision) → Said (s.sent ++ envelopes from ms) (Propose tx 0 o) → Proposal tx s 0 o
    old o h = ⊎_elim (λ x. x) (λ n. absurd (q.each (Propose tx 0 o) n)) (said_new s.sent from ms (Propose tx 0 o) h)

-- the shards change and nothing is said
keeps_shards : (c : Layout) (tx : ℕ) (s : Scene) → Agreeing c tx s → (shs : List ShardNode) → Agreeing c tx (record { parties = record s.parties { shards = shs }; sent = s.sent })
keeps_shards c tx s i shs = subst (λ (l : List Envelope). Agreeing c tx (record { parties = record s.parties { shards = shs }; sent = l })) (append-nil s.sent) (keeps_shard c tx s i shs (client_of 0) [] (each_none Plain))

-- CLIENTS
keeps_begin : (c : Layout) (tx : ℕ) (s : Scene) → Agreeing c tx s → (u : ℕ) → is_begun s.parties u ≡ false → Agreeing c tx (joined_by s u)
keeps_begin c tx s i u new =
    record {
      layout = i.layout;
      coords = λ e. let f = i.coords e in record {
        replays = f.replays;
        covers = f.covers;
        real = f.real;
        top = f.top;
        voted = f.voted;
        gathers = f.gathers;
        rises = f.rises;
        takes = λ k is. let o = f.takes k is in record { above0 = o.above0; own = o.own; under = o.under; fresh = o.fresh; each = o.each; best = o.best; silent = o.silent };
      };
      unique = i.unique;
      root = i.root;
      under = i.under;
      reports = λ b e r h. let x = i.reports b e r h in (x.0, ⊎_elim inl (λ (z : Tops tx s e b r). inr (record { top = z.top; real = z.real })) x.1);
      safe = i.safe;
      client = λ o p. let x = i.client o p in (x.0, kept_client x.0 x.1, x.2);
    }
  where
    kept_client : (x : Client) → found nat_cmp s.parties.clients tx ≡ Some x → found nat_cmp (put nat_cmp s.parties.clients u new_client) tx ≡ Some x
    kept_client x is = ⊎_elim
        (λ (same : (tx ≡ u) × (found nat_cmp (put nat_cmp s.parties.clients u new_client) tx ≡ Some new_client)). never x (sym (not_begun s.parties u new) ∙ ap (λ v. found nat_cmp s.parties.clients v) (sym same.0) ∙ is))
        (λ (other : (tx ≡ u → ⊥) × (found nat_cmp (put nat_cmp s.parties.clients u new_client) tx ≡ found nat_cmp s.parties.clients tx)). other.1 ∙ is)
        (put_cases tx u new_client s.parties.clients)

keeps_client : (c : Layout) (tx : ℕ) (s : Scene) → Agreeing c tx s → (u : ℕ) (x : Client) (a : ClientAct) → found nat_cmp s.parties.clients u ≡ Some x → Tame u x a → Agreeing c tx (acted s u a)
keeps_client c tx s i u x a is g =
    keeps_more c tx s i s.parties.shards (replaced s.parties.clients u a.after) (client_of u) a.sends
    (λ b e r h. g.says.each (Promise tx b e r) h)
    (λ b o h. (g.says.each (Propose tx b o) h).1)
    (λ o p h k. ⊎_elim
    (λ (h1 : Proposal tx s 0 o). ⊎_elim (λ (k1 : Proposal tx s 0 p). i.unique 0 o p h1 k1) (λ (k2 : Says a.sends (Propose tx 0 p)). older o p h1 k2) (new p k))
    (λ (h2 : Says a.sends (Propose tx 0 o)). ⊎_elim (λ (k1 : Proposal tx s 0 p). sym (older p o k1 h2)) (λ (k2 : Says a.sends (Propose tx 0 p)). (g.says.each (Propose tx 0 o) h2).2 ∙ sym (g.says.each (Propose tx 0 p) k2).2) (new p k))
    (new o h))
    (λ o h. ⊎_elim (λ (h1 : Proposal tx s 0 o). still o h1) (λ (h2 : Says a.sends (Propose tx 0 o)). first o h2) (new o h))
  where
    new : (o : Decision) → Said (s.sent ++ envelopes (client_of u) a.sends) (Propose tx 0 o) → Proposal tx s 0 o ⊎ Says a.sends (Propose tx 0 o)
    new o h = said_new s.sent (client_of u) a.sends (Propose tx 0 o) h

    -- tx's client, where it is u
    known : (o : Decision) → tx ≡ u → Proposal tx s 0 o → Sent x o
    known o e h = let y = i.client o h in subst (λ (z : Client). Sent z o) (some_is y.0 x (sym y.1 ∙ ap (λ v. found nat_cmp s.parties.clients v) e ∙ is)) y.2

    goes_on : (o : Decision) → Sent x o → Sent a.after o
    goes_on o h = let l = g.late h.late in record { late = l.0; same = λ p. let q = l.1 p in h.same q.0 ∙ ap (λ z. Commit (body_of z)) (sym q.1) }

    older : (o p : Decision) → Proposal tx s 0 o → Says a.sends (Propose tx 0 p) → o ≡ p
    older o p h k = let n = g.says.each (Propose tx 0 p) k in (goes_on o (known o n.0 h)).same n.3 ∙ sym n.2

    first : (o : Decision) → Says a.sends (Propose tx 0 o) → (y : Client) × (found nat_cmp (replaced s.parties.clients u a.after) tx ≡ Some y) × Sent y o
    first o h =
        let n = g.says.each (Propose tx 0 o) h in
        ⊎_elim
        (λ (same : (tx ≡ u) × (found nat_cmp (replaced s.parties.clients u a.after) tx ≡ Some a.after)). (a.after, same.1, record { late = subst Late (sym n.3) tt; same = λ _. n.2 }))
        (λ (other : (tx ≡ u → ⊥) × (found nat_cmp (replaced s.parties.clients u a.after) tx ≡ found nat_cmp s.parties.clients tx)). absurd (other.0 n.0))
        (set_cases tx u a.after x s.parties.clients is)

    still : (o : Decision) → Proposal tx s 0 o → (y : Client) × (found nat_cmp (replaced s.parties.clients u a.after) tx ≡ Some y) × Sent y o
    still o h =
        ⊎_elim
        (λ (same : (tx ≡ u) × (found nat_cmp (replaced s.parties.clients u a.after) tx ≡ Some a.after)). (a.after, same.1, goes_on o (known o same.0 h)))
        (λ (other : (tx ≡ u → ⊥) × (found nat_cmp (replaced s.parties.clients u a.after) tx ≡ found nat_cmp s.parties.clients tx)). let y = i.client o h in (y.0, other.1 ∙ y.1, y.2))
        (set_cases tx u a.after x s.parties.clients is)

-- COORDINATORS
silent_act : Option Record → CoordAct
silent_act r = record { logs = r; after = new_coord_volatile; sends = []; spent = false }

silent_good : (tx : ℕ) (s : Scene) (d : ℕ) (r : Option Record) → ((b : ℕ) (o : Decision) → r ≡ Some (Accepted tx b o) → (promise_at tx s d ≤ b) × Proposal tx s b o) → Good tx s d (silent_act r)
unfolding silent_act
silent_good tx s d r h = record { props = λ b o x. absurd x; proms = λ b e q x. absurd x; accs = h; gathers = λ g is. absurd is; rises = tt; takes = λ k is. never k is }

abbrev pub AllAgree : Layout → Scene → Type 0
AllAgree c s = (tx : ℕ) → Agreeing c tx s

pub laws_at : (c : Layout) → IsLayout c → (tx : ℕ) (s : Scene) → Agreeing c tx s → QuorumLaws s.parties.layout
laws_at c lay tx s i = quorum_laws s.parties.layout (subst IsLayout (sym i.layout) lay)

stops_at : (c : Layout) → IsLayout c → (tx : ℕ) (s : Scene) (d : ℕ) → There s d → (up : Bool) (r : Option Record) → Agreeing c tx s
    → ((b : ℕ) (o : Decision) → r ≡ Some (Accepted tx b o) → (promise_at tx s d ≤ b) × Proposal tx s b o)
    → Agreeing c tx (record { parties = with_coord s.parties d (record { up = up; log = logged (at s d).log r; durable = applied coord_applied (at s d).durable r; volatile = new_coord_volatile }) r; sent = s.sent })
unfolding silent_act
stops_at c lay tx s d there up r i h =
    let k = keeps_act c lay tx s i d there up (silent_act r) (silent_good tx s d r h) (laws_at c lay tx s i) in
    subst (λ (l : List Envelope). Agreeing c tx (record { parties = with_coord s.parties d (record { up = up; log = logged (at s d).log r; durable = applied coord_applied (at s d).durable r; volatile = new_coord_volatile }) r; sent = l })) (append-nil s.sent) k

pub keeps_turn : (c : Layout) → IsLayout c → (s : Scene) (d : ℕ) (k : NodeCause) → There s d → Due s d k → AllAgree c s → (tx : ℕ) → Good tx s d (act_of s d k)
keeps_turn c lay s d k there due i tx = good s d (act_of s d k) (act_fair c s i d (coord_dc s.parties d (at s d) there) k due) tx

keeps_stop : (c : Layout) → IsLayout c → (s : Scene) (d : ℕ) (r : Option Record) → There s d → Half s d r → AllAgree c s → AllAgree c (stopped s d r)
keeps_stop c lay s d r there Nothing i tx = stops_at c lay tx s d there false None (i tx) (λ b o e. never (Accepted tx b o) e)
keeps_stop c lay s d r there (Whole k due) i tx = stops_at c lay tx s d there false (act_of s d k).logs (i tx) (keeps_turn c lay s d k there due i tx).accs

keeps_start : (c : Layout) → IsLayout c → (s : Scene) (d : ℕ) → There s d → AllAgree c s → AllAgree c (started s d)
keeps_start c lay s d there i tx =
    let k = stops_at c lay tx s d there true None (i tx) (λ b o e. never (Accepted tx b o) e) in
    subst (λ (x : CoordDurable). Agreeing c tx (record { parties = with_coord s.parties d (record { up = true; log = (at s d).log; durable = x; volatile = new_coord_volatile }) None; sent = s.sent })) ((i tx).coords d).replays k

pub ready_for : (s : Scene) (t : ℕ) (x : Client) (k : ClientCause) → DueFor s t x k → Ready x k
ready_for s t x (Hears m) h = tt
ready_for s t x (Reads k) h = h
ready_for s t x (Writes k value) h = h
ready_for s t x Commits h = h
ready_for s t x (Cancels k) h = h
ready_for s t x Retries h = h
ready_for s t x Vanishes h = h

pub agreeing_kept : (c : Layout) → IsLayout c → Keeps (AllAgree c)
agreeing_kept c lay =
    record {
      turns = λ s d k there due i tx. keeps_act c lay tx s (i tx) d there (at s d).up (act_of s d k) (keeps_turn c lay s d k there due i tx) (laws_at c lay tx s (i tx));
      stops = λ s d r there half i. keeps_stop c lay s d r there half i;
      starts = λ s d there i. keeps_start c lay s d there i;
      serves = λ s d sh k there due i tx. keeps_shard c tx s (i tx) (with_shard s.parties d sh (shard_after (shard_in s d sh) (shard_act_of s d sh k))).shards (shard_server d sh) (shard_act_of s d sh k).sends (each_weaker Modest Plain _ modest_plain (shard_modest s.parties.layout d sh (shard_in s d sh).durable (shard_in s d sh).volatile k));
      halts = λ s d sh r there half i tx. keeps_shards c tx s (i tx) (with_shard s.parties d sh (shard_stopped (shard_in s d sh) r)).shards;
      wakes = λ s d sh there i tx. keeps_shards c tx s (i tx) (with_shard s.parties d sh (shard_started (shard_in s d sh).log)).shards;
      begins = λ s u new i tx. keeps_begin c tx s (i tx) u new;
      clients = λ s u x k is due i tx. keeps_client c tx s (i tx) u x (client_by_row s.parties.layout u x k) is (client_tame s.parties.layout u x k (ready_for s u x k due));
    }

-- AT THE START
-- no node of a new world has anything
pub new_get : {A : Type 0} (n i : ℕ) (x : A) → (slice_get (replicate n x) i ≡ Some x) ⊎ (slice_get (replicate n x) i ≡ None)
new_get zero i x = inr refl
new_get (suc n) zero x = inl refl
new_get (suc n) (suc i) x = new_get n i x

pub new_node : (c : Layout) (d : ℕ) → node_at (new_world c).parties d ≡ coord_started []
new_node c d =
    on_cond (λ o. maybe o (coord_started []) (λ x. x) ≡ coord_started []) (is_dc c d) _ _
    (λ _. ⊎_elim (λ (e : slice_get (replicate c.dcs (coord_started [])) (coord_index d) ≡ Some (coord_started [])). ap (λ o. maybe o (coord_started []) (λ x. x)) e)
    (λ (e : slice_get (replicate c.dcs (coord_started [])) (coord_index d) ≡ None). ap (λ o. maybe o (coord_started []) (λ x. x)) e) (new_get c.dcs (coord_index d) (coord_started [])))
    (λ _. refl)

pub new_agrees : (c : Layout) → AllAgree c (scene (new_world c))
new_agrees c tx =
    record {
      layout = refl;
      coords = λ d. subst (Fine tx (scene (new_world c)) d) (sym (new_node c d)) (record { replays = refl; covers = λ t b o e. never (b, o) e; real = λ b q e. never (b, q) e; top = λ b q h. absurd h; voted = λ b q h. absurd h; gathers = λ g is. absurd is; rises = tt; takes = λ k is. never k is });
      unique = λ b o p h. absurd h;
      root = λ b x h. absurd h;
      under = λ b o h. absurd h;
      reports = λ b e r h. absurd h;
      safe = λ b o n q h. absurd h;
      client = λ o h. absurd h;
    }
