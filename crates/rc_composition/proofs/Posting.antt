-- What a post of a party makes of the world.
use Rattle.std.proofs.Common.{◌≡◌, Bool, true, cond, List, [], ◌++◌, length, refl, ap, ◌∙◌, None}
use Rattle.std.specs.Prelude.{is_none, ◌&&◌}
use Rattle.rc_ids.specs.Cluster.{Layout}
use Rattle.rc_ids.specs.declared.names.Party.{Party}
use Rattle.rc_ids.specs.declared.sends.Letter.{Letter}
use Rattle.rc_net.specs.Network.{Message}
use Rattle.rc_runs.specs.World.{World, Parties, Deed, Idle, ByClient, ByCoord, ByShard, CoordStops, ShardStops, actor, course_deed, parties_after, envelopes, numbers_after, still_pending, sends_of, step, printed, restart_lines, lines_of}
use Rattle.rc_runs.specs.Refusals.{Happening, is_event, after_event, lines_at, wrong, worn_out}
use Rattle.rc_composition.specs.Parts.{Part, part_in, part_after, does, own_wrong, prints}
use Rattle.rc_composition.specs.Steps.{IsDone}
use Rattle.rc_composition.proofs.Moving.{moves_alone}
use Rattle.rc_composition.proofs.OwnEvents.{IsOwn}

-- the layout and the names stay
same_layout : (w : Parties) (d : Deed) → (parties_after w d).layout ≡ w.layout
same_layout w Idle = refl
same_layout w (ByClient t act) = refl
same_layout w (ByCoord d x act) = refl
same_layout w (ByShard d s x act) = refl
same_layout w (CoordStops d x kept) = refl
same_layout w (ShardStops d s x kept) = refl

same_names : (w : Parties) (d : Deed) → (parties_after w d).start.named ≡ w.start.named
same_names w Idle = refl
same_names w (ByClient t act) = refl
same_names w (ByCoord d x act) = refl
same_names w (ByShard d s x act) = refl
same_names w (CoordStops d x kept) = refl
same_names w (ShardStops d s x kept) = refl

-- the world then, where the party was this by itself
pub record Moves (c : Layout) (full : List Message) (w : World) (p : Party) (x : Part) (h : Happening) (v : World) : Type 0 where
  pub event : is_event w h ≡ true
  pub layout : v.parties.layout ≡ w.parties.layout
  pub named : v.parties.start.named ≡ w.parties.start.named
  pub own : part_in v.parties p ≡ part_after x (does c full x h)
  pub others : (q : Party) → (p ≡ q → ⊥) → part_in v.parties q ≡ part_in w.parties q
  pub sent : v.sent ≡ w.sent ++ envelopes p (sends_of (does c full x h))
  pub pending : v.pending ≡ still_pending w.pending h.0 ++ numbers_after (length w.sent) (sends_of (does c full x h))
  pub actor_is : actor w.sent h.0 ≡ p
  pub lines : lines_at w h ≡ prints c full x h

pub moves : (c : Layout) (full : List Message) (w : World) (p : Party) (x : Part) (sends : List Letter) (h : Happening) → IsOwn c full w p h → part_in w.parties p ≡ x → IsDone c full p x sends h
    → Moves c full w p x h (after_event w h)
moves c full w p x sends h own is done =
    let mine : Deed = does c full (part_in w.parties p) h in
    let deed : course_deed w h.0 h.1 ≡ does c full x h = own.deed ∙ ap (λ (y : Part). does c full y h) is in
    let right : wrong w h.0 ≡ None = own.wrong_is ∙ ap (λ (y : Part). own_wrong y h.0) is ∙ done.is_right in
    let fresh : worn_out (course_deed w h.0 h.1) ≡ None = ap worn_out deed ∙ done.is_fresh in
    let event : is_event w h ≡ true = λ j. is_none (right j) && is_none (fresh j) in
    let at : after_event w h ≡ step w h.0 h.1 = ap (λ (b : Bool). cond b (step w h.0 h.1) w) event in
    let parties : (after_event w h).parties ≡ parties_after w.parties mine = ap (λ (v : World). v.parties) at ∙ (λ j. parties_after (own.begins j) (own.deed j)) in
    let alone = moves_alone w.parties c full p h in
    record {
      event = event;
      layout = ap (λ (y : Parties). y.layout) parties ∙ same_layout w.parties mine;
      named = ap (λ (y : Parties). y.start.named) parties ∙ same_names w.parties mine;
      own = ap (λ (y : Parties). part_in y p) parties ∙ alone.own ∙ ap (λ (y : Part). part_after y (does c full y h)) is;
      others = λ q other. ap (λ (y : Parties). part_in y q) parties ∙ alone.others q other;
      sent = ap (λ (v : World). v.sent) at ∙ (λ j. w.sent ++ envelopes (own.actor_is j) (sends_of (deed j)));
      pending = ap (λ (v : World). v.pending) at ∙ (λ j. still_pending w.pending h.0 ++ numbers_after (length w.sent) (sends_of (deed j)));
      actor_is = own.actor_is;
      lines = ap (λ (b : Bool). cond b (printed w h.0 h.1) []) event ∙ ap (λ (d : Deed). restart_lines h.0 ++ lines_of d) deed;
    }
