-- Messages to each of several, one after another.
use Rattle.std.proofs.Common.{◌≡◌, ℕ, ◌+◌, ◌≤◌, List, ◌++◌, length, drop, slice_get, Some, sym, ap, ◌∙◌, add-one}
use Rattle.rc_ids.specs.Cluster.{Layout}
use Rattle.rc_body.specs.declared.decision.Decision.{Decision}
use Rattle.rc_record.proofs.Rest.{drop_step, drop_end}
use Rattle.rc_protocol.specs.Coordinator.{finish_posts, finish_all_posts}
use Rattle.rc_msg.specs.Outboxes.{Outbox}
use Rattle.rc_protocol.specs.Messages.{Posts, to_each}
use Rattle.rc_msg.specs.Posts.{posted_all}
use Rattle.rc_msg.proofs.PostFacts.{posted_all-append}

pub next : (f : ℕ → Posts) (start old new : Outbox) (n : ℕ) → old ≡ posted_all start (to_each n f) → new ≡ posted_all old (f (n + 1)) → new ≡ posted_all start (to_each (n + 1) f)
next f start old new n is more =
    more ∙ ap (λ (o : Outbox). posted_all o (f (n + 1))) is ∙ sym (posted_all-append start (to_each n f) (f (n + 1)))
    ∙ ap (λ (k : ℕ). posted_all start (to_each n f ++ f k)) (add-one n) ∙ ap (λ (k : ℕ). posted_all start (to_each k f)) (sym (add-one n))

-- the outcomes of a page, one entry further
pub finishes-next : (c : Layout) (d : ℕ) (page : List (ℕ × Decision)) (i : ℕ) (e : ℕ × Decision) (out new whole : Outbox) → slice_get page i ≡ Some e
    → new ≡ posted_all out (finish_posts c d e.0 e.1) → posted_all out (finish_all_posts c d (drop i page)) ≡ whole → posted_all new (finish_all_posts c d (drop (i + 1) page)) ≡ whole
finishes-next c d page i e out new whole at is before =
    ap (λ (o : Outbox). posted_all o (finish_all_posts c d (drop (i + 1) page))) is
    ∙ sym (posted_all-append out (finish_posts c d e.0 e.1) (finish_all_posts c d (drop (i + 1) page)))
    ∙ ap (λ (es : List (ℕ × Decision)). posted_all out (finish_all_posts c d es)) (sym (drop_step page i e at)) ∙ before

pub finishes-end : (c : Layout) (d : ℕ) (page : List (ℕ × Decision)) (i : ℕ) (out whole : Outbox) → length page ≤ i
    → posted_all out (finish_all_posts c d (drop i page)) ≡ whole → out ≡ whole
finishes-end c d page i out whole le before =
    ap (λ (es : List (ℕ × Decision)). posted_all out (finish_all_posts c d es)) (sym (drop_end page i le)) ∙ before
