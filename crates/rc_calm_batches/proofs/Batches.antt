-- Batches: one after another, and in loops.
use Rattle.std.proofs.Common.{◌≡◌, ℕ, zero, suc, ◌≤◌, List, [], ◌∷◌, ◌++◌, refl, sym, ap, ◌∙◌, subst, arith}
use Rattle.std.proofs.lemmas.List.{append-nil, append_assoc}
use Rattle.rc_msg.specs.declared.msg.Envelope.{Envelope}
use Rattle.rc_report.specs.declared.line.Line.{Line}
use Rattle.rc_runs.specs.World.{Parties, parties_after, envelopes, sends_of, lines_of}
use Rattle.rc_calm_batches.proofs.Passes.{deed_of, after_all, sent_by, printed_by, Lasting, Drains, Next, Turns, each}

-- ONE AFTER ANOTHER
pub after_both : (p : Parties) (a b : List Envelope) → after_all p (a ++ b) ≡ after_all (after_all p a) b
after_both p [] b = refl
after_both p (e ∷ a) b = after_both (parties_after p (deed_of p e)) a b

pub sent_both : (p : Parties) (a b : List Envelope) → sent_by p (a ++ b) ≡ sent_by p a ++ sent_by (after_all p a) b
sent_both p [] b = refl
sent_both p (e ∷ a) b =
    let now = envelopes e.to (sends_of (deed_of p e)) in
    let z = sent_both (parties_after p (deed_of p e)) a b in
    ap (λ (x : List Envelope). now ++ x) z ∙ sym (append_assoc now (sent_by (parties_after p (deed_of p e)) a) (sent_by (after_all (parties_after p (deed_of p e)) a) b))

pub printed_both : (p : Parties) (a b : List Envelope) → printed_by p (a ++ b) ≡ printed_by p a ++ printed_by (after_all p a) b
printed_both p [] b = refl
printed_both p (e ∷ a) b =
    let now = lines_of (deed_of p e) in
    let z = printed_both (parties_after p (deed_of p e)) a b in
    ap (λ (x : List Line). now ++ x) z ∙ sym (append_assoc now (printed_by (parties_after p (deed_of p e)) a) (printed_by (after_all (parties_after p (deed_of p e)) a) b))

pub lasting_both : (p : Parties) (a b : List Envelope) → Lasting p a → Lasting (after_all p a) b → Lasting p (a ++ b)
lasting_both p [] b f g = g
lasting_both p (e ∷ a) b f g = (f.0, lasting_both (parties_after p (deed_of p e)) a b f.1 g)

module _ (P Q R : Parties → Type 0) (a b o p' : List Envelope) (ls ms : List Line) where
  pub both : Turns P a Q o ls → Turns Q b R p' ms → Turns P (a ++ b) R (o ++ p') (ls ++ ms)
  both f g p h =
      let x = f p h in
      let y = g (after_all p a) x.after in
      record {
        after = subst R (sym (after_both p a b)) y.after;
        sends = sent_both p a b ∙ (ap (λ (z : List Envelope). z ++ sent_by (after_all p a) b) x.sends ∙ ap (λ (z : List Envelope). o ++ z) y.sends);
        lasts = lasting_both p a b x.lasts y.lasts;
        prints = printed_both p a b ∙ (ap (λ (z : List Line). z ++ printed_by (after_all p a) b) x.prints ∙ ap (λ (z : List Line). ls ++ z) y.prints);
      }

-- IN A LOOP
module _ (most : ℕ) (P : ℕ → Parties → Type 0) (f g : ℕ → List Envelope) (ls : ℕ → List Line)
    (turn : (i : ℕ) → suc i ≤ most → Turns (P i) (f (suc i)) (P (suc i)) (g (suc i)) (ls (suc i))) where
  pub loop : (n : ℕ) → n ≤ most → Turns (P 0) (each n f) (P n) (each n g) (each n ls)
  loop zero k p h = record { after = h; sends = refl; prints = refl; lasts = tt }
  loop (suc n) k p h = both (P 0) (P n) (P (suc n)) (each n f) (f (suc n)) (each n g) (g (suc n)) (each n ls) (ls (suc n)) (loop n (omega (arith, k))) (turn n k) p h

-- A QUEUE
pub drains : (p : Parties) (es out : List Envelope) (r : Parties) (more : List Line) (ds : List Envelope) → Lasting p es
    → Drains (after_all p es) (out ++ sent_by p es) r more ds → Drains p (es ++ out) r (printed_by p es ++ more) (es ++ ds)
drains p [] out r more ds l d = subst (λ (z : List Envelope). Drains p z r more ds) (append-nil out) d
drains p (e ∷ es) out r more ds l d =
    let now = envelopes e.to (sends_of (deed_of p e)) in
    let next = parties_after p (deed_of p e) in
    let y : Drains next (es ++ (out ++ now)) r (printed_by next es ++ more) (es ++ ds) =
    drains next es (out ++ now) r more ds l.1 (subst (λ (z : List Envelope). Drains (after_all next es) z r more ds) (sym (append_assoc out now (sent_by next es))) d) in
    let x : Drains p (e ∷ (es ++ out)) r (lines_of (deed_of p e) ++ (printed_by next es ++ more)) (e ∷ (es ++ ds)) =
    Next p e (es ++ out) r (printed_by next es ++ more) (es ++ ds) l.0 (subst (λ (z : List Envelope). Drains next z r (printed_by next es ++ more) (es ++ ds)) (sym (append_assoc es out now)) y) in
    subst (λ (z : List Line). Drains p (e ∷ (es ++ out)) r z (e ∷ (es ++ ds))) (sym (append_assoc (lines_of (deed_of p e)) (printed_by next es) more)) x

pub batches_drain : (p : Parties) (es : List Envelope) (r : Parties) (more : List Line) (ds : List Envelope) → Lasting p es
    → Drains (after_all p es) (sent_by p es) r more ds → Drains p es r (printed_by p es ++ more) (es ++ ds)
batches_drain p es r more ds l d = subst (λ (z : List Envelope). Drains p z r (printed_by p es ++ more) (es ++ ds)) (append-nil es) (drains p es [] r more ds l d)
