-- A proposed commit: proposals, prepares, answers, votes and finishes, batch by batch, until all is at rest with the commit learned.
use Rattle.std.proofs.Common.{◌≡◌, ℕ, zero, suc, ◌+◌, ◌*◌, ◌≤◌, List, [], ◌∷◌, ◌++◌, refl, sym, ap, ◌∙◌, subst, arith, Bool, true, false, cond, Some}
use Rattle.std.specs.Prelude.{if◌then◌else◌, length, filter, nat_le}
use Rattle.std.proofs.lemmas.Bool.{le-leb, lt-leb}
use Rattle.std.specs.Ordering.{nat_cmp}
use Rattle.rc_ids.specs.Tables.{In, found, up_to}
use Rattle.rc_ids.specs.Cluster.{Layout, shard_of}
use Rattle.rc_body.specs.Bodies.{touches, touched}
use Rattle.rc_body.specs.Spelling.{body_bytes}
use Rattle.rc_body.specs.declared.entry.Entry.{Entry}
use Rattle.rc_msg.specs.declared.msg.Envelope.{Envelope}
use Rattle.rc_report.specs.declared.line.Line.{Line}
use Rattle.rc_serial.specs.OneMap.{Map}
use Rattle.rc_protocol.specs.Client.{Client, Slot}
use Rattle.rc_protocol.specs.Coordinator.{has_all}
use Rattle.rc_protocol.specs.Nodes.{ShardNode}
use Rattle.rc_runs.specs.Votes.{is_listed}
use Rattle.rc_runs.specs.World.{Parties, bytes_of}
use Rattle.rc_calm_batches.proofs.Passes.{Drains, Empty, Turned, Turns, after_all, each}
use Rattle.rc_calm_batches.proofs.Sizes.{Ready}
use Rattle.rc_calm_batches.proofs.Batches.{both, batches_drain}
use Rattle.rc_calm_batches.proofs.Weights.{Light, light_both, light_each, light_if, light_none, weigh, propose_bytes, prepare_bytes, prepared_bytes, vote_bytes, told_bytes, finish_bytes}
use Rattle.rc_calm_batches.proofs.Quorums.{IsLeast}
use Rattle.rc_calm_batches.proofs.ReadDrains.{length_both, length_ones, same_each, none_each}
use Rattle.rc_calm_batches.proofs.Acting.{Stage}
use Rattle.rc_calm_batches.proofs.Rounds.{to_false, with_shards, with_order}
use Rattle.rc_calm_batches.proofs.Rows.{Fits}
use Rattle.rc_calm_batches.proofs.Voters.{order_at}
use Rattle.rc_calm_batches.proofs.Stands.{gather, Idles, Gathers, Counts}
use Rattle.rc_calm_batches.proofs.Proposing.{propose, prepares_of, votes_of, proposes_turn, lonely_turn, told, ballot}
use Rattle.rc_calm_batches.proofs.Preparing.{Still, Held, Anew, answer, prepares_turn, finishes_turn}
use Rattle.rc_calm_batches.proofs.Answering.{in_kept, in_up, filter_both}
use Rattle.rc_calm_batches.proofs.Answers.{answers_turn}
use Rattle.rc_calm_batches.proofs.Tallies.{Knows, finish, finishes_of}
use Rattle.rc_calm_batches.proofs.Voting.{waiting, done, line, votes_turn}

-- a batch, and then what it sends
pub drain_next : (Q : Parties → Type 0) (p : Parties) (es out : List Envelope) (ls more : List Line) (r : Parties) (ds : List Envelope) → Turned Q es out ls p → Drains (after_all p es) out r more ds → Drains p es r (ls ++ more) (es ++ ds)
drain_next Q p es out ls more r ds z d =
    subst (λ (w : List Line). Drains p es r (w ++ more) (es ++ ds)) z.prints
    (batches_drain p es r more ds z.lasts (subst (λ (w : List Envelope). Drains (after_all p es) w r more ds) (sym z.sends) d))

-- COUNTS
length_same : (n k : ℕ) (f : ℕ → List Envelope) → ((d : ℕ) → length (f d) ≡ k) → length (each n f) ≡ n * k
length_same zero k f h = grind (arith)
length_same (suc n) k f h = let more = length_same n k f h in let now = h (suc n) in let l = length_both (each n f) (f (suc n)) in let z : suc n * k ≡ n * k + k = grind (arith) in omega (arith, more, now, l, z)

length_touched : (touch : ℕ → Bool) (n : ℕ) (f : ℕ → Envelope) → length (each n (λ s. if touch s then f s ∷ [] else [])) ≡ length (filter touch (up_to n))
length_touched touch zero f = refl
length_touched touch (suc n) f =
    let more = length_touched touch n f in
    let l = length_both (each n (λ s. if touch s then f s ∷ [] else [])) (if touch (suc n) then f (suc n) ∷ [] else []) in
    let k = ap length (filter_both touch (up_to n) (suc n ∷ [])) in
    let m = length_both (filter touch (up_to n)) (filter touch (suc n ∷ [])) in
    let e = go (touch (suc n)) in omega (arith, more, l, k, m, e)
  where
    go : (v : Bool) → length (if v then f (suc n) ∷ [] else []) ≡ length (cond v (suc n ∷ []) [])
    go true = refl
    go false = refl

sum_of : (n k : ℕ) → n + (n * k + (n * k + (n * (n + 1) + (n * k + 0)))) ≡ n + 3 * k * n + n * (n + 1)
sum_of n k = grind (arith)

sum_lonely : (n k : ℕ) → k ≡ 0 → n + (n * (n + 1) + (n * k + 0)) ≡ n + 3 * k * n + n * (n + 1)
sum_lonely n k e = let z : n * k ≡ 0 = ap (λ (x : ℕ). n * x) e ∙ grind (arith) in let y : 3 * k * n ≡ 0 = ap (λ (x : ℕ). 3 * x * n) e ∙ grind (arith) in omega (arith, z, y)

module _ (b : Parties) (m : Map) (over : List ℕ) (t : ℕ) (body : List Entry) (keys : List (List ℕ)) (fresh : Ready over t body) (fits : Fits m body)
    (among : (k : List ℕ) → In k keys → touches b.layout body (shard_of b.layout k) ≡ true)
    (q : ℕ) (least : IsLeast b.layout 1 b.layout.dcs q) (slots : List Slot) (refusals : List ℕ)
    (x : Client) (there : found nat_cmp b.clients t ≡ Some x) (base : List (ℕ × List Entry)) (new : is_listed base t ≡ false) where
  abbrev c : Layout
  c = b.layout

  abbrev N : ℕ
  N = c.dcs

  abbrev pub held : ℕ
  held = length (touched c body)

  -- what each of its messages has at most
  abbrev pub weight : ℕ
  weight = length (body_bytes body) + 30

  abbrev pub commits_in : ℕ
  commits_in = N + 3 * held * N + N * (N + 1)

  abbrev y0 : Client
  y0 = waiting b over t body fresh q least slots refusals 0

  abbrev pub told_all : Client
  told_all = done b over t body fresh q least slots refusals

  abbrev O : ℕ → List (ℕ × List Entry)
  O i = order_at c t q body base new least i

  abbrev S0 : ℕ → ℕ → ShardNode → Type 0
  S0 = Still b m over t body keys fresh fits

  abbrev S1 : ℕ → ℕ → ShardNode → Type 0
  S1 = Held b m over t body keys fresh fits

  abbrev S2 : ℕ → ℕ → ℕ → ShardNode → Type 0
  S2 u = Anew b m over t body keys fresh fits u among

  -- what stands before, and what stands then, whoever is next
  abbrev pub Proposing : Parties → Type 0
  Proposing = Stage b t (λ d z. Idles c over t body z) S0 y0 base

  abbrev pub Committed : ℕ → Parties → Type 0
  Committed u = Stage b t (λ d z. Knows c over t body z) (S2 u) told_all (base ++ (t, body) ∷ [])

  pub record CommitDone (es : List Envelope) (p : Parties) : Type 0 where
    pub after : Parties
    pub rests : (u : ℕ) → Committed u after
    pub delivered : List Envelope
    pub drains : Drains p (es ++ each N (λ d. propose b over t body fresh d ∷ [])) after (line b over t body fresh q least slots refusals ∷ []) delivered
    pub count : length delivered ≡ length es + commits_in
    pub bytes : bytes_of delivered ≤ bytes_of es + commits_in * weight

  abbrev proposes : List Envelope
  proposes = each N (λ d. propose b over t body fresh d ∷ [])

  abbrev prepares : List Envelope
  prepares = each N (prepares_of b over t body fresh)

  abbrev answers : List Envelope
  answers = each N (λ d. each c.shards (λ s. if touches c body s then answer b m over t body keys fresh fits d s ∷ [] else []))

  abbrev votes : List Envelope
  votes = each N (votes_of b over t body fresh)

  abbrev finishes : List Envelope
  finishes = each N (finishes_of b over t body fresh q least)

  abbrev nothing : List Envelope
  nothing = each N (λ d. each c.shards (λ s. if touches c body s then [] else []))

  abbrev empty : List Envelope
  empty = []

  is_nothing : nothing ≡ []
  is_nothing = same_each N _ (λ d. []) (λ d d1. same_each c.shards _ (λ s. []) (λ s s1. go (touches c body s)) ∙ none_each c.shards) ∙ none_each N
    where
      go : (v : Bool) → (if v then empty else empty) ≡ empty
      go true = refl
      go false = refl

  first_order : O 0 ≡ base
  first_order = let l = least.low in let e : nat_le q 0 ≡ false = lt-leb q 0 (omega (arith, l)) in rw e

  last_order : O N ≡ base ++ (t, body) ∷ []
  last_order = let e : nat_le q N ≡ true = le-leb q N least.high in rw e

  -- from the votes on
  abbrev Voting : Parties → Type 0
  Voting = Stage b t (λ d z. Counts c over t body 0 z) S1 y0 (base ++ (t, body) ∷ [])

  pub record Ends (p : Parties) : Type 0 where
    pub after : Parties
    pub rests : (u : ℕ) → Committed u after
    pub drains : Drains p votes after (line b over t body fresh q least slots refusals ∷ []) (votes ++ (finishes ++ []))

  votes_drain : (p : Parties) → Voting p → Ends p
  votes_drain p h =
      let p1 = after_all p votes in
      let p2 = after_all p1 finishes in
      let z = votes_turn b over t body fresh q least slots refusals x there S1 (base ++ (t, body) ∷ []) p h in
      let last : (u : ℕ) → Turned (Committed u) finishes [] [] p1 = λ u.
      let w = finishes_turn b m over t body keys fresh fits u among (λ d z. Knows c over t body z) told_all (base ++ (t, body) ∷ []) p1 z.after in
      record { after = w.after; sends = w.sends ∙ is_nothing; prints = w.prints; lasts = w.lasts } in
      let d2 = drain_next (Committed 0) p1 finishes [] [] [] p2 [] (last 0) (Empty p2) in
      record {
        after = p2;
        rests = λ u. (last u).after;
        drains = drain_next (Stage b t (λ d w. Knows c over t body w) S1 told_all (base ++ (t, body) ∷ [])) p votes finishes (line b over t body fresh q least slots refusals ∷ []) [] p2 (finishes ++ []) z d2;
      }

  not_touched : touched c body ≡ [] → (s : ℕ) → 1 ≤ s → s ≤ c.shards → touches c body s ≡ false
  not_touched none s s1 s2 = go (touches c body s) refl
    where
      go : (v : Bool) → touches c body s ≡ v → v ≡ false
      go true e = absurd (subst (In s) none (in_kept (touches c body) s (up_to c.shards) (in_up c.shards s s1 s2) e))
      go false e = refl

  -- lengths
  length_proposes : length proposes ≡ N
  length_proposes = length_ones N (λ d. propose b over t body fresh d)

  length_prepares : length prepares ≡ N * held
  length_prepares = length_same N held (prepares_of b over t body fresh) (λ d. length_touched (touches c body) c.shards _)

  length_answers : length answers ≡ N * held
  length_answers = length_same N held _ (λ d. length_touched (touches c body) c.shards (λ s. answer b m over t body keys fresh fits d s))

  length_finishes : length finishes ≡ N * held
  length_finishes = length_same N held (finishes_of b over t body fresh q least) (λ d. length_touched (touches c body) c.shards (λ s. finish b over t body fresh q least d s))

  length_votes : length votes ≡ N * (N + 1)
  length_votes = length_same N (N + 1) (votes_of b over t body fresh) (λ d.
      let l = length_both (each N (λ e. ballot b over t body fresh d e ∷ [])) (told b over t body fresh d ∷ []) in
      let n = length_ones N (λ e. ballot b over t body fresh d e) in omega (arith, l, n))

  -- weights
  light_proposes : Light weight proposes
  light_proposes = light_each weight N _ (λ d. (propose_bytes t body d, tt))

  light_prepares : Light weight prepares
  light_prepares = light_each weight N _ (λ d. light_each weight c.shards _ (λ s. light_if weight (touches c body s) _ (prepare_bytes t body d c s)))

  light_answers : Light weight answers
  light_answers = light_each weight N _ (λ d. light_each weight c.shards _ (λ s. light_if weight (touches c body s) _ (prepared_bytes t body d s)))

  light_votes : Light weight votes
  light_votes = light_each weight N _ (λ d. light_both weight _ _ (light_each weight N _ (λ e. (vote_bytes t body d e, tt))) (told_bytes t body d, tt))

  light_finishes : Light weight finishes
  light_finishes = light_each weight N _ (λ d. light_each weight c.shards _ (λ s. light_if weight (touches c body s) _ (finish_bytes t body d c s)))

  light_ends : Light weight (votes ++ (finishes ++ []))
  light_ends = light_both weight votes _ light_votes (light_none weight finishes light_finishes)

  ends_count : length (votes ++ (finishes ++ [])) ≡ length votes + length finishes
  ends_count = let l1 = length_both votes (finishes ++ []) in let l2 = length_both {A = Envelope} finishes [] in omega (arith, l1, l2)

  module _ (P : Parties → Type 0) (es : List Envelope) (before : Turns P es Proposing [] []) where
    pub commit_drains : (p : Parties) → P p → CommitDone es p
    commit_drains p h = go (touched c body) refl
      where
        go : (ts : List ℕ) → touched c body ≡ ts → CommitDone es p
        go [] none =
            let far : (s : ℕ) → 1 ≤ s → s ≤ c.shards → touches c body s ≡ false = λ s s1 s2. not_touched none s s1 s2 in
            let z = both P Proposing (Stage b t (λ d w. Counts c over t body 0 w) S0 y0 (O N)) es proposes [] votes [] [] before
            (λ p1 h1. lonely_turn b over t body fresh S0 y0 base none q new least p1 (with_order b t y0 (λ d w. Idles c over t body w) S0 base (O 0) p1 (sym first_order) h1)) p h in
            let p1 = after_all p (es ++ proposes) in
            let e = votes_drain p1 (with_shards b t y0 (λ d w. Counts c over t body 0 w) S0 S1 (base ++ (t, body) ∷ []) p1 (λ d s w d1 d2 s1 s2 r. to_false (touches c body s) _ _ (far s s1 s2) r)
            (with_order b t y0 (λ d w. Counts c over t body 0 w) S0 (O N) (base ++ (t, body) ∷ []) p1 last_order z.after)) in
            let d = drain_next (Stage b t (λ d w. Counts c over t body 0 w) S0 y0 (O N)) p (es ++ proposes) votes [] _ e.after _ z e.drains in
            let l = length_both es proposes in let a = length_proposes in let v = length_votes in let f = length_finishes in let zero_held : held ≡ 0 = ap length none in
            let s = sum_lonely N held zero_held in
            let l1 = length_both (es ++ proposes) (votes ++ (finishes ++ [])) in let l2 = ends_count in
            let total : length ((es ++ proposes) ++ (votes ++ (finishes ++ []))) ≡ length es + commits_in = omega (arith, l, a, v, f, s, l1, l2) in
            record { after = e.after; rests = e.rests; delivered = (es ++ proposes) ++ (votes ++ (finishes ++ [])); drains = d; count = total; bytes = weigh es proposes (votes ++ (finishes ++ [])) commits_in weight total light_proposes light_ends }
        go (s ∷ ts) some =
            let part : has_all c (gather c over t body []) ≡ false = rw some in
            let p1 = after_all p (es ++ proposes) in
            let p2 = after_all p1 prepares in
            let p3 = after_all p2 answers in
            let z1 = both P Proposing (Stage b t (λ d w. Gathers c over t body [] w) S0 y0 base) es proposes [] prepares [] [] before (proposes_turn b over t body fresh S0 y0 base part) p h in
            let z2 = prepares_turn b m over t body keys fresh fits (λ d w. Gathers c over t body [] w) y0 base p1 z1.after in
            let z3 = answers_turn b over t body fresh S1 y0 base q new least part p2 (with_order b t y0 (λ d w. Gathers c over t body [] w) S1 base (O 0) p2 (sym first_order) z2.after) in
            let e = votes_drain p3 (with_order b t y0 (λ d w. Counts c over t body 0 w) S1 (O N) (base ++ (t, body) ∷ []) p3 last_order z3.after) in
            let d3 = drain_next (Stage b t (λ d w. Counts c over t body 0 w) S1 y0 (O N)) p2 answers votes [] _ e.after _ z3 e.drains in
            let d2 = drain_next (Stage b t (λ d w. Gathers c over t body [] w) S1 y0 base) p1 prepares answers [] _ e.after _ z2 d3 in
            let d1 = drain_next (Stage b t (λ d w. Gathers c over t body [] w) S0 y0 base) p (es ++ proposes) prepares [] _ e.after _ z1 d2 in
            let l = length_both es proposes in let a = length_proposes in let r = length_prepares in let w = length_answers in let v = length_votes in let f = length_finishes in
            let k = sum_of N held in
            let l1 = length_both (es ++ proposes) (prepares ++ (answers ++ (votes ++ (finishes ++ [])))) in
            let l2 = length_both prepares (answers ++ (votes ++ (finishes ++ []))) in let l3 = length_both answers (votes ++ (finishes ++ [])) in let l4 = ends_count in
            let total : length ((es ++ proposes) ++ (prepares ++ (answers ++ (votes ++ (finishes ++ []))))) ≡ length es + commits_in = omega (arith, l, a, r, w, v, f, k, l1, l2, l3, l4) in
            record { after = e.after; rests = e.rests; delivered = (es ++ proposes) ++ (prepares ++ (answers ++ (votes ++ (finishes ++ [])))); drains = d1; count = total; bytes = weigh es proposes (prepares ++ (answers ++ (votes ++ (finishes ++ [])))) commits_in weight total light_proposes (light_both weight prepares _ light_prepares (light_both weight answers _ light_answers light_ends)) }
