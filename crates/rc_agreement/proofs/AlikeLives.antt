-- Every life is like a plain one: its worlds differ from those of a plain life in what logs hold, and say the same.
use Rattle.std.proofs.Common.{◌≡◌, ℕ, List, [], ◌∷◌, refl, sym, ◌∙◌, subst, Option, Some, inl, inr, ⊎_elim}
use Rattle.std.specs.Prelude.{map, ◌||◌}
use Rattle.std.specs.List.{list_any}
use Rattle.std.specs.Ordering.{nat_cmp}
use Rattle.rc_ids.specs.Tables.{In, member}
use Rattle.rc_ids.specs.Cluster.{Layout, IsLayout}
use Rattle.rc_ids.proofs.QuorumFacts.{member-in, in-member}
use Rattle.rc_ids.specs.declared.names.Outcome.{Outcome}
use Rattle.rc_ids.specs.declared.names.Outcome.TheVariants.{Commit as Committed}
use Rattle.rc_body.specs.declared.decision.Decision.TheVariants.{Commit}
use Rattle.rc_body.specs.declared.entry.Entry.{Entry}
use Rattle.rc_record.specs.declared.record.Record.{Record}
use Rattle.rc_record.specs.declared.record.Record.TheVariants.{Accepted}
use Rattle.rc_protocol.specs.Nodes.{CoordNode, ShardNode, coord_started, shard_started, with_log}
use Rattle.rc_runs.specs.Votes.{is_chosen_at}
use Rattle.rc_runs.specs.World.{World, Start, coord_at, shard_at, new_world}
use Rattle.rc_runs.specs.Refusals.{run}
use Rattle.rc_claims.specs.Outcomes.{Chosen, IsCommitted, is_named}
use Rattle.rc_claims.specs.Lives.{IsLife, First, Next, IsStartOf, SayWhat, SameMembers, SameCoordLog, SameShardLog, Pairwise, reopened_from}
use Rattle.rc_agreement.proofs.Cases.{some_is, never}
use Rattle.rc_agreement.proofs.PlainLives.{IsPlainLife, First as PlainFirst, Next as PlainNext, reopened}
use Rattle.rc_agreement.proofs.Lives.{life_holds}
use Rattle.rc_agreement.proofs.AlikeLogs.{CoordLike, SameButLog, ShardLike, SameButItsLog, BothOrNone, Neither, Both, coord_starts, shard_starts, same_test, chosen_same}
use Rattle.rc_agreement.proofs.AlikeDeeds.{SameButNodes, coord_like, shard_like}
use Rattle.rc_agreement.proofs.Alike.{WorldLike, SameButParties, run_like}

-- WHAT IS THE SAME in two such worlds
pub layout_same : (w y : World) → WorldLike w y → w.parties.layout ≡ y.parties.layout
layout_same _ _ (SameButParties w _ (SameButNodes _ cs ss hc hs)) = refl

pub start_same : (w y : World) → WorldLike w y → w.parties.start ≡ y.parties.start
start_same _ _ (SameButParties w _ (SameButNodes _ cs ss hc hs)) = refl

pub clients_same : (w y : World) → WorldLike w y → w.parties.clients ≡ y.parties.clients
clients_same _ _ (SameButParties w _ (SameButNodes _ cs ss hc hs)) = refl

pub committed_same : (w y : World) → WorldLike w y → w.parties.committed ≡ y.parties.committed
committed_same _ _ (SameButParties w _ (SameButNodes _ cs ss hc hs)) = refl

pub sent_same : (w y : World) → WorldLike w y → w.sent ≡ y.sent
sent_same _ _ (SameButParties w _ (SameButNodes _ cs ss hc hs)) = refl

left_is : {A B : Type 0} (R : A → B → Type 0) (a : Option A) (b : Option B) → BothOrNone R a b → (x : A) → a ≡ Some x → (y : B) × (b ≡ Some y) × R x y
left_is R _ _ Neither x is = never x is
left_is R _ _ (Both x y r) z is = (y, refl, subst (λ q. R q y) (some_is x z is) r)

right_is : {A B : Type 0} (R : A → B → Type 0) (a : Option A) (b : Option B) → BothOrNone R a b → (y : B) → b ≡ Some y → (x : A) × (a ≡ Some x) × R x y
right_is R _ _ Neither y is = never y is
right_is R _ _ (Both x y r) z is = (x, refl, subst (R x) (some_is y z is) r)

pub coord_left : (w y : World) → WorldLike w y → (d : ℕ) (x : CoordNode) → coord_at w.parties d ≡ Some x → (z : CoordNode) × (coord_at y.parties d ≡ Some z) × CoordLike x z
coord_left _ _ (SameButParties w _ (SameButNodes _ cs ss hc hs)) d x is = left_is CoordLike _ _ (coord_like w.parties cs ss hc hs d) x is

pub coord_right : (w y : World) → WorldLike w y → (d : ℕ) (z : CoordNode) → coord_at y.parties d ≡ Some z → (x : CoordNode) × (coord_at w.parties d ≡ Some x) × CoordLike x z
coord_right _ _ (SameButParties w _ (SameButNodes _ cs ss hc hs)) d z is = right_is CoordLike _ _ (coord_like w.parties cs ss hc hs d) z is

pub shard_left : (w y : World) → WorldLike w y → (d s : ℕ) (x : ShardNode) → shard_at w.parties d s ≡ Some x → (z : ShardNode) × (shard_at y.parties d s ≡ Some z) × ShardLike x z
shard_left _ _ (SameButParties w _ (SameButNodes _ cs ss hc hs)) d s x is = left_is ShardLike _ _ (shard_like w.parties cs ss hc hs d s) x is

pub shard_right : (w y : World) → WorldLike w y → (d s : ℕ) (z : ShardNode) → shard_at y.parties d s ≡ Some z → (x : ShardNode) × (shard_at w.parties d s ≡ Some x) × ShardLike x z
shard_right _ _ (SameButParties w _ (SameButNodes _ cs ss hc hs)) d s z is = right_is ShardLike _ _ (shard_like w.parties cs ss hc hs d s) z is

pub durable_same : (x z : CoordNode) → CoordLike x z → x.durable ≡ z.durable
durable_same _ _ (SameButLog x log s) = refl

pub shard_durable_same : (x z : ShardNode) → ShardLike x z → x.durable ≡ z.durable
shard_durable_same _ _ (SameButItsLog x log s) = refl

pub vote_right : (x z : CoordNode) → CoordLike x z → (t b : ℕ) (body : List Entry) → In (Accepted t b (Commit body)) x.log → In (Accepted t b (Commit body)) z.log
vote_right _ _ (SameButLog x log s) t b body i = (s.votes t b (Commit body)).0 i

pub vote_left : (x z : CoordNode) → CoordLike x z → (t b : ℕ) (body : List Entry) → In (Accepted t b (Commit body)) z.log → In (Accepted t b (Commit body)) x.log
vote_left _ _ (SameButLog x log s) t b body i = (s.votes t b (Commit body)).1 i

-- WHAT IS CHOSEN, and with which body
pub chosen_at_same : (w y : World) → WorldLike w y → (o : Outcome) (t b : ℕ) → is_chosen_at w.parties.layout w.parties.coords o t b ≡ is_chosen_at y.parties.layout y.parties.coords o t b
chosen_at_same _ _ (SameButParties w _ (SameButNodes _ cs ss hc hs)) o t b = chosen_same w.parties.layout w.parties.coords cs hc o t b

pub chosen_right : (w y : World) → WorldLike w y → (o : Outcome) (t : ℕ) → Chosen w o t → Chosen y o t
chosen_right w y l o t h = (h.0, sym (chosen_at_same w y l o t h.0) ∙ h.1)

pub chosen_left : (w y : World) → WorldLike w y → (o : Outcome) (t : ℕ) → Chosen y o t → Chosen w o t
chosen_left w y l o t h = (h.0, chosen_at_same w y l o t h.0 ∙ h.1)

pub committed_right : (w y : World) → WorldLike w y → (t : ℕ) (body : List Entry) → IsCommitted w t body → IsCommitted y t body
committed_right w y l t body h = record {
  ballot = h.ballot;
  chosen = sym (chosen_at_same w y l Committed t h.ballot) ∙ h.chosen;
  votes = λ d z voted is i. let x = coord_right w y l d z is in h.votes d x.0 voted x.1 (vote_left x.0 z x.2 t h.ballot voted i);
}

pub committed_left : (w y : World) → WorldLike w y → (t : ℕ) (body : List Entry) → IsCommitted y t body → IsCommitted w t body
committed_left w y l t body h = record {
  ballot = h.ballot;
  chosen = chosen_at_same w y l Committed t h.ballot ∙ h.chosen;
  votes = λ d x voted is i. let z = coord_left w y l d x is in h.votes d z.0 voted z.1 (vote_right x z.0 z.2 t h.ballot voted i);
}

-- WHAT LOGS NAME
member_same : (xs ys : List ℕ) → SameMembers xs ys → (t : ℕ) → member nat_cmp xs t ≡ member nat_cmp ys t
member_same xs ys h t = same_test (member nat_cmp xs t) (member nat_cmp ys t) (λ e. member-in ys t ((h t).0 (in-member xs t e))) (λ e. member-in xs t ((h t).1 (in-member ys t e)))

coords_name : (t : ℕ) (xs ys : List CoordNode) → Pairwise CoordLike xs ys → list_any (λ (x : CoordNode). member nat_cmp (with_log [] x.log) t) xs ≡ list_any (λ (x : CoordNode). member nat_cmp (with_log [] x.log) t) ys
coords_name t [] [] h = refl
coords_name t (x ∷ xs) (y ∷ ys) h = let a = one x y h.0 in let b = coords_name t xs ys h.1 in λ i. a i || b i
  where
    one : (x y : CoordNode) → CoordLike x y → member nat_cmp (with_log [] x.log) t ≡ member nat_cmp (with_log [] y.log) t
    one _ _ (SameButLog x log s) = member_same (with_log [] x.log) (with_log [] log) s.named t
coords_name t [] (y ∷ ys) h = absurd h
coords_name t (x ∷ xs) [] h = absurd h

shards_name : (t : ℕ) (xs ys : List ShardNode) → Pairwise ShardLike xs ys → list_any (λ (x : ShardNode). member nat_cmp (with_log [] x.log) t) xs ≡ list_any (λ (x : ShardNode). member nat_cmp (with_log [] x.log) t) ys
shards_name t [] [] h = refl
shards_name t (x ∷ xs) (y ∷ ys) h = let a = one x y h.0 in let b = shards_name t xs ys h.1 in λ i. a i || b i
  where
    one : (x y : ShardNode) → ShardLike x y → member nat_cmp (with_log [] x.log) t ≡ member nat_cmp (with_log [] y.log) t
    one _ _ (SameButItsLog x log s) = member_same (with_log [] x.log) (with_log [] log) s.named t
shards_name t [] (y ∷ ys) h = absurd h
shards_name t (x ∷ xs) [] h = absurd h

pub named_same : (w y : World) → WorldLike w y → (t : ℕ) → is_named w.parties t ≡ is_named y.parties t
named_same _ _ (SameButParties w _ (SameButNodes _ cs ss hc hs)) t =
    let a = coords_name t w.parties.coords cs hc in
    let b = shards_name t w.parties.shards ss hs in
    λ i. a i || b i

pub start_left : (w y : World) → WorldLike w y → (start : Start) → IsStartOf y start → IsStartOf w start
start_left w y l start h = record {
  named = λ t e. h.named t (sym (named_same w y l t) ∙ e);
  all = λ t e. h.all t (chosen_right w y l Committed t e);
  chosen = λ t body i. committed_left w y l t body (h.chosen t body i);
}

pub start_right : (w y : World) → WorldLike w y → (start : Start) → IsStartOf w start → IsStartOf y start
start_right w y l start h = record {
  named = λ t e. h.named t (named_same w y l t ∙ e);
  all = λ t e. h.all t (chosen_left w y l Committed t e);
  chosen = λ t body i. committed_right w y l t body (h.chosen t body i);
}

-- A LIFE
members_self : {A : Type 0} (xs : List A) → SameMembers xs xs
members_self xs x = ((λ i. i), (λ i. i))

members_trans : {A : Type 0} (xs ys zs : List A) → SameMembers xs ys → SameMembers ys zs → SameMembers xs zs
members_trans xs ys zs h k x = ((λ i. (k x).0 ((h x).0 i)), (λ i. (h x).1 ((k x).1 i)))

coord_self : (rs : List Record) → SameCoordLog rs rs
coord_self rs = record { replay = refl; named = members_self (with_log [] rs); votes = λ t b o. ((λ i. i), (λ i. i)) }

shard_self : (rs : List Record) → SameShardLog rs rs
shard_self rs = record { replay = refl; named = members_self (with_log [] rs) }

coords_self : (xs : List CoordNode) → Pairwise CoordLike xs xs
coords_self [] = tt
coords_self (x ∷ xs) = (SameButLog x x.log (coord_self x.log), coords_self xs)

shards_self : (xs : List ShardNode) → Pairwise ShardLike xs xs
shards_self [] = tt
shards_self (x ∷ xs) = (SameButItsLog x x.log (shard_self x.log), shards_self xs)

pub like_self : (w : World) → WorldLike w w
like_self w = SameButParties w w.parties (SameButNodes w.parties w.parties.coords w.parties.shards (coords_self w.parties.coords) (shards_self w.parties.shards))

coords_start : (xs ys : List CoordNode) (logs : List (List Record)) → Pairwise CoordLike xs ys → Pairwise (λ (x : CoordNode) (log : List Record). SameCoordLog x.log log) ys logs
    → Pairwise CoordLike (map (λ (x : CoordNode). coord_started x.log) xs) (map coord_started logs)
coords_start [] [] [] h k = tt
coords_start (x ∷ xs) (y ∷ ys) (l ∷ ls) h k = (one x y h.0 k.0, coords_start xs ys ls h.1 k.1)
  where
    one : (x y : CoordNode) → CoordLike x y → SameCoordLog y.log l → CoordLike (coord_started x.log) (coord_started l)
    one _ _ (SameButLog x log s) q = coord_starts x.log l (record {
      replay = s.replay ∙ q.replay;
      named = members_trans (with_log [] x.log) (with_log [] log) (with_log [] l) s.named q.named;
      votes = λ t b o. ((λ i. (q.votes t b o).0 ((s.votes t b o).0 i)), (λ i. (s.votes t b o).1 ((q.votes t b o).1 i)));
    })
coords_start [] (y ∷ ys) ls h k = absurd h
coords_start (x ∷ xs) [] ls h k = absurd h
coords_start [] [] (l ∷ ls) h k = absurd k
coords_start (x ∷ xs) (y ∷ ys) [] h k = absurd k

shards_start : (xs ys : List ShardNode) (logs : List (List Record)) → Pairwise ShardLike xs ys → Pairwise (λ (x : ShardNode) (log : List Record). SameShardLog x.log log) ys logs
    → Pairwise ShardLike (map (λ (x : ShardNode). shard_started x.log) xs) (map shard_started logs)
shards_start [] [] [] h k = tt
shards_start (x ∷ xs) (y ∷ ys) (l ∷ ls) h k = (one x y h.0 k.0, shards_start xs ys ls h.1 k.1)
  where
    one : (x y : ShardNode) → ShardLike x y → SameShardLog y.log l → ShardLike (shard_started x.log) (shard_started l)
    one _ _ (SameButItsLog x log s) q = shard_starts x.log l (record {
      replay = s.replay ∙ q.replay;
      named = members_trans (with_log [] x.log) (with_log [] log) (with_log [] l) s.named q.named;
    })
shards_start [] (y ∷ ys) ls h k = absurd h
shards_start (x ∷ xs) [] ls h k = absurd h
shards_start [] [] (l ∷ ls) h k = absurd k
shards_start (x ∷ xs) (y ∷ ys) [] h k = absurd k

pub reopens_like : (c : Layout) (w v : World) (start : Start) (coords shards : List (List Record)) → w.parties.layout ≡ c → WorldLike w v → SayWhat v coords shards → WorldLike (reopened w start) (reopened_from c start coords shards)
reopens_like c _ _ start coords shards same (SameButParties w _ (SameButNodes _ cs ss hc hs)) says =
    subst (λ (l : Layout). WorldLike (reopened w start) (reopened_from l start coords shards)) same
    (SameButParties (reopened w start) _
    (SameButNodes (reopened w start).parties (map coord_started coords) (map shard_started shards)
    (coords_start w.parties.coords cs coords hc says.of_coords) (shards_start w.parties.shards ss shards hs says.of_shards)))

-- the plain life that it is like
pub record PlainLife (c : Layout) (earlier : List World) (y : World) : Type 0 where
  pub before : List World
  pub world : World
  pub plain : IsPlainLife c before world
  pub like : WorldLike world y
  pub alike : Pairwise WorldLike before earlier

pub plain_layout : (c : Layout) → IsLayout c → (earlier : List World) (w : World) → IsPlainLife c earlier w → w.parties.layout ≡ c
plain_layout c lay earlier w life = ((life_holds c lay earlier w life).holds.0.0 0).layout

pub plain_life : (c : Layout) → IsLayout c → (earlier : List World) (y : World) → IsLife c earlier y → PlainLife c earlier y
plain_life c lay _ _ (First hs) = record { before = []; world = run (new_world c) hs; plain = PlainFirst hs; like = like_self (run (new_world c) hs); alike = tt }
plain_life c lay _ _ (Next earlier v start coords shards hs life is_start says) =
    let p : PlainLife c earlier v = plain_life c lay earlier v life in
    record {
      before = p.world ∷ p.before;
      world = run (reopened p.world start) hs;
      plain = PlainNext p.before p.world start hs p.plain (start_left p.world v p.like start is_start);
      like = run_like hs (reopened p.world start) (reopened_from c start coords shards) (reopens_like c p.world v start coords shards (plain_layout c lay p.before p.world p.plain) p.like says);
      alike = (p.like, p.alike);
    }

-- the plain one of an earlier world
pub earlier_like : (ws ys : List World) → Pairwise WorldLike ws ys → (y : World) → In y ys → (w : World) × In w ws × WorldLike w y
earlier_like [] [] h y i = absurd i
earlier_like (w ∷ ws) (z ∷ ys) h y i =
    ⊎_elim
    (λ (e : z ≡ y). (w, inl refl, subst (WorldLike w) e h.0))
    (λ (j : In y ys). let r = earlier_like ws ys h.1 y j in (r.0, inr r.1, r.2))
    i
earlier_like [] (z ∷ ys) h y i = absurd h
earlier_like (w ∷ ws) [] h y i = absurd h

-- and the world that is like an earlier plain one
pub later_like : (ws ys : List World) → Pairwise WorldLike ws ys → (w : World) → In w ws → (y : World) × In y ys × WorldLike w y
later_like [] [] h w i = absurd i
later_like (w ∷ ws) (z ∷ ys) h v i =
    ⊎_elim
    (λ (e : w ≡ v). (z, inl refl, subst (λ (q : World). WorldLike q z) e h.0))
    (λ (j : In v ws). let r = later_like ws ys h.1 v j in (r.0, inr r.1, r.2))
    i
later_like [] (z ∷ ys) h w i = absurd h
later_like (w ∷ ws) [] h v i = absurd h
