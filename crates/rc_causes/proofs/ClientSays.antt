-- What a client prints and says, by its rows.
use Rattle.std.proofs.Common.{◌≡◌, ℕ, List, [], ◌∷◌, refl, sym, ap, ◌∙◌, subst, true, Option, None, ◌⊎◌, inl, inr, ⊎_elim, eqb-true}
use Rattle.std.specs.Prelude.{not, ◌&&◌, ◌==◌}
use Rattle.std.specs.Ordering.{nat_cmp}
use Rattle.rc_ids.specs.Tables.{In, added, member}
use Rattle.rc_ids.specs.Cluster.{Layout, is_dc, is_quorum, home, shard_of}
use Rattle.rc_ids.specs.declared.names.Party.{Party}
use Rattle.rc_body.specs.declared.decision.Decision.{Decision}
use Rattle.rc_body.specs.declared.decision.Decision.TheVariants.{Commit}
use Rattle.rc_body.specs.Decisions.{outcome_of}
use Rattle.rc_body.specs.declared.reason.Reason.{Reason}
use Rattle.rc_msg.specs.declared.msg.Msg.{Msg}
use Rattle.rc_msg.specs.declared.msg.Msg.TheVariants.{ReadAsk, ReadCancel, Granted, Propose, Voted, Refused, Decided, Abandon}
use Rattle.rc_report.specs.declared.line.Line.{Line}
use Rattle.rc_report.specs.declared.line.Line.TheVariants.{Read as ReadLine, Own, Refused as RefusedLine, Learned}
use Rattle.rc_protocol.specs.Messages.{Posts, coordinator, shard_server, to_all}
use Rattle.rc_protocol.specs.Coordinator.{is_decided_by}
use Rattle.rc_protocol.specs.Client.{Client, ClientAct, ClientRefusal, Slot, KeyRead, Complete, Grant, is_over, is_committing, is_proposed, reads_on, client_stays, client_says, with_slots, is_worn, body_of, proposes, slot_of, slot_set, asks, asks_all, asks_new, asks_rest, asks_again, unread_keys, waiting_keys, reads_again, do_read, is_under_way, waits_for_read, reads_begun, do_commit, drops_read, do_cancel, do_retry, best_grant, grants_of, granted_by, cancels, cancel_to, completed, read_line, after_read, unless_refused, with_grant, prints_of, takes_grant, wants_grant, on_granted, with_vote, client_learns, counts_refusal, on_refused, client_row}
use Rattle.rc_protocol.specs.Acts.{ClientCause, Hears, Reads, Writes, Commits, Cancels, Retries, Vanishes, client_by_row, client_act, refusal}
use Rattle.rc_agreement.proofs.Cases.{on_cond, on_maybe, and_left}
use Rattle.rc_agreement.proofs.Tables.{in_added}
use Rattle.rc_agreement.proofs.Sends.{EachTo, to_none, to_one, to_both, to_many, to_coords}
use Rattle.rc_causes.proofs.Says.{Dull, Dulls, Common, Commons, no_lines, one_line}

-- a refusal is printed as it comes
abbrev pub ClientLine : ℕ → ClientCause → Line → Type 0
ClientLine t k (RefusedLine u d reason) = (u ≡ t) × (k ≡ Hears (Refused t 0 d reason))
ClientLine t k line = Common line

-- a client says nothing that needs a cause, but gives its transaction up where refusals are a quorum
abbrev pub ClientSay : Layout → ℕ → Client → Party → Msg → Type 0
ClientSay c t y to (Abandon u) = (u ≡ t) × (is_quorum c y.refusals ≡ true)
ClientSay c t y to m = Dull to m

pub record ClientRow (c : Layout) (t : ℕ) (x : Client) (k : ClientCause) (a : ClientAct) : Type 0 where
  pub lines : (line : Line) → In line a.lines → ClientLine t k line
  pub refusals : (d : ℕ) → In d a.after.refusals → In d x.refusals ⊎ ((reason : Reason) × In (RefusedLine t d reason) a.lines)
  pub sends : EachTo (ClientSay c t a.after) a.sends

common_line : (t : ℕ) (k : ClientCause) (line : Line) → Common line → ClientLine t k line
common_line t k (ReadLine u key version value) h = h
common_line t k (Own u key value) h = h
common_line t k (Learned u outcome) h = h
common_line t k _ h = absurd h

dull_say : (c : Layout) (t : ℕ) (y : Client) (to : Party) (m : Msg) → Dull to m → ClientSay c t y to m
dull_say c t y to (Abandon u) h = absurd h
dull_say c t y to m h = h

module _ (c : Layout) (t : ℕ) (x : Client) (k : ClientCause) where
  abbrev R : ClientAct → Type 0
  R a = ClientRow c t x k a

  -- nothing here needs a cause
  plain : (a : ClientAct) → a.after.refusals ≡ x.refusals → Dulls a.sends → Commons a.lines → R a
  plain a same q l =
      record {
        lines = λ line i. common_line t k line (l.each line i);
        refusals = λ d i. inl (subst (λ (ds : List ℕ). In d ds) same i);
        sends = record { each = λ to m i. dull_say c t a.after to m (q.each to m i) };
      }

  still : R (client_stays x)
  still = plain (client_stays x) refl (to_none Dull) no_lines

  prints_one : (line : Line) → Common line → (refused : Option ClientRefusal) → R (record { after = x; sends = []; lines = line ∷ []; refused = refused })
  prints_one line h refused = plain (record { after = x; sends = []; lines = line ∷ []; refused = refused }) refl (to_none Dull) (one_line line h)

  asks_dull : (key : List ℕ) → Dulls (asks c t key)
  asks_dull key = to_many Dull c.dcs _ (λ d. to_one Dull (shard_server d (shard_of c key)) (ReadAsk t key) tt)

  asks_all_dull : (keys : List (List ℕ)) → Dulls (asks_all c t keys)
  asks_all_dull [] = to_none Dull
  asks_all_dull (key ∷ keys) = to_both Dull _ _ (asks_dull key) (asks_all_dull keys)

  again_dull : (keys : List (List ℕ)) → Dulls (asks_again c t x.slots keys)
  again_dull [] = to_none Dull
  again_dull (key ∷ keys) = to_both Dull _ _ (on_maybe Dulls (slot_of x.slots key) _ _ (λ _. to_none Dull) (λ s _. rest s)) (again_dull keys)
    where
      rest : (s : Slot) → Dulls (asks_rest c t s)
      rest s = to_many Dull c.dcs _ (λ d. on_cond Dulls (member nat_cmp (granted_by (grants_of s.read)) d) _ _ (λ _. to_none Dull) (λ _. to_one Dull (shard_server d (shard_of c s.key)) (ReadAsk t s.key) tt))

  proposal_dull : (y : Client) → Dulls (to_all c (Propose t 0 (Commit (body_of y.slots))))
  proposal_dull y = to_coords Dull c (Propose t 0 (Commit (body_of y.slots))) (λ d. tt)

  proposes_row : (y : Client) → y.refusals ≡ x.refusals → (ms : Posts) (ls : List Line) → Dulls ms → Commons ls → R (unless_refused x (after_read ms ls (proposes c t y)))
  proposes_row y same ms ls q l =
      on_cond (λ a. R (unless_refused x (after_read ms ls a))) (is_worn y.slots) _ _
      (λ _. plain _ refl (to_none Dull) no_lines) (λ _. plain _ same (to_both Dull ms _ q (proposal_dull y)) l)

  cancels_dull : (s : Slot) (gs : List Grant) → Dulls (cancels c t s.key gs)
  cancels_dull s gs =
      to_many Dull c.dcs (cancel_to c t s.key (granted_by gs))
      (λ d. on_cond Dulls (member nat_cmp (granted_by gs) d) _ _ (λ _. to_none Dull) (λ _. to_one Dull (shard_server d (shard_of c s.key)) (ReadCancel t s.key) tt))

  read_common : (s : Slot) (gs : List Grant) → Commons (read_line t s gs)
  read_common s gs = on_cond Commons (prints_of s.read) _ _ (λ _. one_line (ReadLine t s.key (best_grant gs).0 (best_grant gs).1) tt) (λ _. no_lines)

  takes_row : (s : Slot) (g : Grant) → R (takes_grant c t x s g)
  takes_row s g =
      let gs : List Grant = with_grant s g in
      let y : Client = with_slots x (slot_set x.slots (completed s gs)) in
      on_cond R (is_quorum c (granted_by gs)) _ _
      (λ _. on_cond (λ a. R (unless_refused x (after_read (cancels c t s.key gs) (read_line t s gs) a))) (is_committing y.phase && not (waits_for_read y.slots)) (proposes c t y) (client_stays y)
      (λ _. proposes_row y refl (cancels c t s.key gs) (read_line t s gs) (cancels_dull s gs) (read_common s gs))
      (λ _. plain _ refl (to_both Dull (cancels c t s.key gs) [] (cancels_dull s gs) (to_none Dull)) (read_common s gs)))
      (λ _. plain _ refl (to_none Dull) no_lines)

  granted_row : (key : List ℕ) (g : Grant) → R (on_granted c t x key g)
  granted_row key g =
      on_cond R (reads_on x.phase) _ _
      (λ _. on_maybe R (slot_of x.slots key) _ _ (λ _. still) (λ s _. on_cond R (wants_grant s g.dc) _ _ (λ _. takes_row s g) (λ _. still)))
      (λ _. still)

  again_row : (key : List ℕ) (r : KeyRead) → R (reads_again t x key r)
  again_row key (Complete v y) = prints_one (ReadLine t key v y) tt None
  again_row key _ = still

  read_row : (key : List ℕ) → R (do_read c t x key)
  read_row key =
      on_maybe R (slot_of x.slots key) _ _ (λ _. plain (asks_new c t x key) refl (asks_dull key) no_lines)
      (λ s _. on_maybe R s.write _ _ (λ _. again_row key s.read) (λ v _. prints_one (Own t key v) tt None))

  commit_row : R (do_commit c t x)
  commit_row =
      on_cond R (waits_for_read (reads_begun x.slots)) _ _
      (λ _. plain _ refl (asks_all_dull (unread_keys x.slots)) no_lines)
      (λ _. on_cond R (is_worn x.slots) _ _ (λ _. plain _ refl (to_none Dull) no_lines) (λ _. plain _ refl (proposal_dull x) no_lines))

  cancel_row : (key : List ℕ) → R (do_cancel c t x key)
  cancel_row key =
      on_maybe R (slot_of x.slots key) _ _ (λ _. still)
      (λ s _. on_cond R (is_under_way s.read) _ _
      (λ _. plain (drops_read c t x key) refl (to_many Dull c.dcs _ (λ d. to_one Dull (shard_server d (shard_of c key)) (ReadCancel t key) tt)) no_lines)
      (λ _. still))

  retry_row : R (do_retry c t x)
  retry_row =
      on_cond R (is_proposed x.phase) _ _
      (λ _. on_cond (λ ms. R (client_says x ms)) (is_quorum c x.refusals) _ _
      (λ enough. record { lines = λ line i. absurd i; refusals = λ d i. inl i; sends = to_one (ClientSay c t x) (coordinator (home c t)) (Abandon t) (refl, enough) })
      (λ _. plain _ refl (proposal_dull x) no_lines))
      (λ _. on_cond R (reads_on x.phase) _ _ (λ _. plain _ refl (again_dull (waiting_keys x.slots)) no_lines) (λ _. still))

  learns_row : (y : Client) → y.refusals ≡ x.refusals → (o : Decision) → R (client_learns t y o)
  learns_row y same o = plain (client_learns t y o) same (to_none Dull) (one_line (Learned t (outcome_of o)) tt)

  refused_row : (b d : ℕ) (reason : Reason) → k ≡ Hears (Refused t b d reason) → R (on_refused c t x b d reason)
  refused_row b d reason is =
      on_cond R (counts_refusal x b d) _ _
      (λ counts.
      let own : b ≡ 0 = eqb-true b 0 (and_left (b == 0) _ counts) in
      let its : k ≡ Hears (Refused t 0 d reason) = is ∙ ap (λ (n : ℕ). Hears (Refused t n d reason)) own in
      record {
        lines = λ line i. ⊎_elim (λ (e : RefusedLine t d reason ≡ line). subst (ClientLine t k) e (refl, its)) (λ n. absurd n) i;
        refusals = λ e i. ⊎_elim (λ (same : e ≡ d). inr (reason, inl (ap (λ (n : ℕ). RefusedLine t n reason) (sym same)))) (λ old. inl old) (in_added e d x.refusals i);
        sends =
            on_cond (EachTo (ClientSay c t (record x { refusals = added nat_cmp x.refusals d }))) (is_quorum c (added nat_cmp x.refusals d) && not (is_quorum c x.refusals)) _ _
            (λ enough. to_one (ClientSay c t (record x { refusals = added nat_cmp x.refusals d })) (coordinator (home c t)) (Abandon t) (refl, and_left (is_quorum c (added nat_cmp x.refusals d)) _ enough))
            (λ _. to_none (ClientSay c t (record x { refusals = added nat_cmp x.refusals d })));
      })
      (λ _. still)

  hears_row : (m : Msg) → k ≡ Hears m → R (client_row c t x m)
  hears_row (Granted u key d version value) is = on_cond R ((u == t) && is_dc c d) _ _ (λ _. granted_row key (record { dc = d; version = version; value = value })) (λ _. still)
  hears_row (Voted u b d o) is =
      on_cond R ((u == t) && is_dc c d) _ _
      (λ _. on_cond R (is_over x.phase) _ _ (λ _. still)
      (λ _. on_cond R (is_decided_by c x.votes b d o) _ _ (λ _. learns_row (with_vote x b d o) refl o) (λ _. plain (client_stays (with_vote x b d o)) refl (to_none Dull) no_lines)))
      (λ _. still)
  hears_row (Refused u b d reason) is =
      on_cond R ((u == t) && is_dc c d) _ _
      (λ own. let same : u ≡ t = eqb-true u t (and_left (u == t) _ own) in refused_row b d reason (is ∙ ap (λ (n : ℕ). Hears (Refused n b d reason)) same))
      (λ _. still)
  hears_row (Decided u o) is = on_cond R (u == t) _ _ (λ _. on_cond R (is_over x.phase) _ _ (λ _. still) (λ _. learns_row x refl o)) (λ _. still)
  hears_row _ is = still

by_row : (c : Layout) (t : ℕ) (x : Client) (k : ClientCause) → ClientRow c t x k (client_by_row c t x k)
by_row c t x (Hears m) = hears_row c t x (Hears m) m refl
by_row c t x (Reads key) = read_row c t x (Reads key) key
by_row c t x (Writes key value) = plain c t x (Writes key value) _ refl (to_none Dull) no_lines
by_row c t x Commits = commit_row c t x Commits
by_row c t x (Cancels key) = cancel_row c t x (Cancels key) key
by_row c t x Retries = retry_row c t x Retries
by_row c t x Vanishes = plain c t x Vanishes _ refl (to_none Dull) no_lines

pub client_row_of : (c : Layout) (t : ℕ) (x : Client) (k : ClientCause) → ClientRow c t x k (client_act c t x k)
client_row_of c t x k = on_maybe (ClientRow c t x k) (refusal x k) _ _ (λ _. by_row c t x k) (λ _ _. plain c t x k _ refl (to_none Dull) no_lines)
