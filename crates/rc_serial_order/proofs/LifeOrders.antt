-- The laws, of every life: each is that of the plain life that it is like.
use Rattle.std.proofs.Common.{◌≡◌, ℕ, ◌+◌, ◌≤◌, List, [], ◌∷◌, ◌++◌, sym, ap, ◌∙◌, subst, Option, Some, None, inl, inr, ⊎_elim}
use Rattle.std.specs.Ordering.{nat_cmp}
use Rattle.rc_ids.specs.Tables.{In, Table, found}
use Rattle.rc_ids.specs.Texts.{key_cmp}
use Rattle.rc_ids.specs.Cluster.{Layout, IsLayout}
use Rattle.rc_ids.specs.declared.names.Outcome.{Outcome}
use Rattle.rc_body.specs.declared.entry.Entry.{Entry}
use Rattle.rc_msg.specs.declared.msg.Envelope.{Envelope}
use Rattle.rc_msg.specs.declared.msg.Msg.TheVariants.{ReadAsk}
use Rattle.rc_record.specs.ShardState.{version_at}
use Rattle.rc_protocol.specs.Client.{Client}
use Rattle.rc_runs.specs.World.{World, Start}
use Rattle.rc_runs.specs.Refusals.{Happening, run}
use Rattle.rc_serial.specs.OneMap.{base, first_wrong, Explains}
use Rattle.rc_claims.specs.Outcomes.{Served, ServedEver, IsSerial, IsFresh, all_committed}
use Rattle.rc_claims.specs.Lives.{IsLife}
use Rattle.rc_agreement.proofs.Alike.{WorldLike, run_like}
use Rattle.rc_agreement.proofs.AlikeLives.{PlainLife, plain_life, start_same, clients_same, committed_same, sent_same, chosen_left, chosen_right, named_same, earlier_like, later_like}
use Rattle.rc_serial_order.specs.Earlier.{StaysChosen, HoldsWrites, WasWritten, HasOnlyWrites}
use Rattle.rc_serial_order.proofs.OneOrder as order
use Rattle.rc_serial_order.proofs.FreshReads as fresh
use Rattle.rc_serial_order.proofs.EarlierLives as before

-- a read that was served is served at the same client
served_left : (w y : World) → WorldLike w y → (t : ℕ) (k : List ℕ) (v : ℕ) (x : Option (List ℕ)) → Served y t k v x → Served w t k v x
served_left w y l t k v x s = record {
  client = s.client;
  is = ap (λ (cs : Table ℕ Client). found nat_cmp cs t) (clients_same w y l) ∙ s.is;
  slot = s.slot;
  among = s.among;
  key = s.key;
  read = s.read;
}

all_same : (w y : World) → WorldLike w y → all_committed w ≡ all_committed y
all_same w y l = let a = start_same w y l in let b = committed_same w y l in λ i. (a i).committed ++ b i

module _ (c : Layout) (lay : IsLayout c) (earlier : List World) (y : World) (life : IsLife c earlier y) where
  p : PlainLife c earlier y
  p = plain_life c lay earlier y life

  ever_left : (t : ℕ) (k : List ℕ) (v : ℕ) (x : Option (List ℕ)) → ServedEver earlier y t k v x → ServedEver p.before p.world t k v x
  ever_left t k v x (inl s) = inl (served_left p.world y p.like t k v x s)
  ever_left t k v x (inr s) =
      let w = earlier_like p.before earlier p.alike s.0 s.1 in
      inr (w.0, w.1, named_same w.0 s.0 w.2 t ∙ s.2, served_left w.0 s.0 w.2 t k v x s.3)

  pub one_map_explains : IsSerial (base y.parties.start.committed) earlier y
  one_map_explains =
      let a = start_same p.world y p.like in
      let b = committed_same p.world y p.like in
      subst (λ (q : Start × List (ℕ × List Entry)). Explains (base q.0.committed) q.1 (ServedEver earlier y)) (λ i. (a i, b i))
      (order.fewer (base p.world.parties.start.committed) p.world.parties.committed (ServedEver p.before p.world) (ServedEver earlier y) ever_left
      (order.one_map_explains c lay p.before p.world p.plain))

  pub no_read_is_wrong : first_wrong (base y.parties.start.committed) 0 y.parties.committed ≡ None
  no_read_is_wrong =
      let a = start_same p.world y p.like in
      let b = committed_same p.world y p.like in
      subst (λ (q : Start × List (ℕ × List Entry)). first_wrong (base q.0.committed) 0 q.1 ≡ None) (λ i. (a i, b i)) (order.no_read_is_wrong c lay p.before p.world p.plain)

  pub reads_are_fresh : (later : List Happening) → IsFresh y later
  reads_are_fresh later t u k body f version value listed among key write none served =
      fresh.reads_are_fresh c lay p.before p.world p.plain later t u k body f version value
      (subst (λ (l : List (ℕ × List Entry)). In (u, body) l) (sym (all_same p.world y p.like)) listed) among key write
      (λ e i is. none e (subst (λ (es : List Envelope). In e es) (sent_same p.world y p.like) i) is)
      (served_left (run p.world later) (run y later) (run_like later p.world y p.like) t k version value served)

  pub stays_chosen : StaysChosen earlier y
  stays_chosen v i outcome t h =
      let w = earlier_like p.before earlier p.alike v i in
      chosen_right p.world y p.like outcome t (before.stays_chosen c lay p.before p.world p.plain w.0 w.1 outcome t (chosen_left w.0 v w.2 outcome t h))

  pub holds_writes : HoldsWrites (base y.parties.start.committed) earlier
  holds_writes v t body e i j k wrote =
      let w = earlier_like p.before earlier p.alike v i in
      subst (λ (s : Start). e.version + 1 ≤ version_at (base s.committed) e.key) (start_same p.world y p.like)
      (before.holds_writes c lay p.before p.world p.plain w.0 t body e w.1 (subst (λ (l : List (ℕ × List Entry)). In (t, body) l) (sym (all_same w.0 v w.2)) j) k wrote)

  pub has_only_writes : HasOnlyWrites (base y.parties.start.committed) earlier
  has_only_writes k version value is =
      let r : WasWritten p.before k version value =
      before.has_only_writes c lay p.before p.world p.plain k version value (ap (λ (s : Start). found key_cmp (base s.committed) k) (start_same p.world y p.like) ∙ is) in
      let v = later_like p.before earlier p.alike r.life r.lived in
      record {
        life = v.0;
        lived = v.1;
        tx = r.tx;
        body = r.body;
        committed = subst (λ (l : List (ℕ × List Entry)). In (r.tx, r.body) l) (committed_same r.life v.0 v.2) r.committed;
        entry = r.entry;
        among = r.among;
        key = r.key;
        write = r.write;
        next = r.next;
      }
