-- What every move keeps holds at the end of every life, with what is gone beside it.
use Rattle.std.proofs.Common.{◌≡◌, ℕ, List, refl, sym, subst, true, ⊎_elim}
use Rattle.rc_ids.specs.Tables.{In}
use Rattle.rc_ids.specs.Cluster.{Layout, IsLayout}
use Rattle.rc_ids.specs.declared.names.Outcome.{Outcome}
use Rattle.rc_runs.specs.World.{World, Start, new_world}
use Rattle.rc_runs.specs.Refusals.{Happening, run}
use Rattle.rc_claims.specs.Outcomes.{Chosen, is_named}
use Rattle.rc_claims.specs.Lives.{IsStartOf}
use Rattle.rc_agreement.proofs.PlainLives.{IsPlainLife, First, Next, reopened}
use Rattle.rc_agreement.proofs.Scenes.{scene, Keeps, run_keeps}
use Rattle.rc_agreement.proofs.Longer.{Longer}
use Rattle.rc_agreement.proofs.Stays.{longer_self, longer_trans, longer_kept, chosen_on}
use Rattle.rc_agreement.proofs.NamesStay.{named_stays, named_again}
use Rattle.rc_agreement.proofs.Agreeing.{new_agrees}
use Rattle.rc_agreement.proofs.Learned.{agreed_kept, new_heard}
use Rattle.rc_agreement.proofs.Ordered.{ordered_kept, new_ordered}
use Rattle.rc_agreement.proofs.Ghosts.{Ghost, no_ghosts, ghosts_kept}
use Rattle.rc_agreement.proofs.Reopened.{Whole, vote_up, reopens}

pub whole_kept : (c : Layout) → IsLayout c → Keeps (Whole c)
whole_kept c lay =
    let k = agreed_kept c lay in
    let m = ordered_kept in
    record {
      turns = λ s d a there due p. (k.turns s d a there due p.0, m.turns s d a there due p.1);
      stops = λ s d r there half p. (k.stops s d r there half p.0, m.stops s d r there half p.1);
      starts = λ s d there p. (k.starts s d there p.0, m.starts s d there p.1);
      serves = λ s d sh a there due p. (k.serves s d sh a there due p.0, m.serves s d sh a there due p.1);
      halts = λ s d sh r there half p. (k.halts s d sh r there half p.0, m.halts s d sh r there half p.1);
      wakes = λ s d sh there p. (k.wakes s d sh there p.0, m.wakes s d sh there p.1);
      begins = λ s u new p. (k.begins s u new p.0, m.begins s u new p.1);
      clients = λ s u x a is due p. (k.clients s u x a is due p.0, m.clients s u x a is due p.1);
    }

pub life_holds : (c : Layout) → IsLayout c → (earlier : List World) (w : World) → IsPlainLife c earlier w → Ghost (Whole c) (scene w)
life_holds c lay _ _ (First hs) =
    run_keeps (Ghost (Whole c)) (ghosts_kept (Whole c) (whole_kept c lay)) (new_world c) hs (no_ghosts (Whole c) (scene (new_world c)) ((new_agrees c, new_heard c), new_ordered c lay))
life_holds c lay _ _ (Next earlier v start hs before is_start) =
    run_keeps (Ghost (Whole c)) (ghosts_kept (Whole c) (whole_kept c lay)) (reopened v start) hs (reopens c v start is_start (life_holds c lay earlier v before))

-- the votes of an earlier life stay
longer_again : (c : Layout) (v : World) (start : Start) (is_start : IsStartOf v start) → Ghost (Whole c) (scene v) → Longer (scene v) (scene (reopened v start))
longer_again c v start is_start g = record { layout = refl; votes = vote_up c v start is_start g }

longer_run : (w : World) (hs : List Happening) → Longer (scene w) (scene (run w hs))
longer_run w hs = run_keeps (Longer (scene w)) (longer_kept (scene w)) w hs (longer_self (scene w))

pub longer_life : (c : Layout) → IsLayout c → (earlier : List World) (w : World) → IsPlainLife c earlier w → (v : World) → In v earlier → Longer (scene v) (scene w)
longer_life c lay _ _ (First hs) v i = absurd i
longer_life c lay _ _ (Next earlier u start hs before is_start) v i =
    let now = longer_trans (scene u) (scene (reopened u start)) (scene (run (reopened u start) hs)) (longer_again c u start is_start (life_holds c lay earlier u before)) (longer_run (reopened u start) hs) in
    ⊎_elim
    (λ (e : u ≡ v). subst (λ (x : World). Longer (scene x) (scene (run (reopened u start) hs))) e now)
    (λ (j : In v earlier). longer_trans (scene v) (scene u) (scene (run (reopened u start) hs)) (longer_life c lay earlier u before v j) now)
    i

-- and so does what it chose
pub chosen_life : (c : Layout) → IsLayout c → (earlier : List World) (w : World) → IsPlainLife c earlier w → (v : World) → In v earlier → (outcome : Outcome) (t : ℕ) → Chosen v outcome t → Chosen w outcome t
chosen_life c lay earlier w life v i outcome t h =
    let l = longer_life c lay earlier w life v i in
    chosen_on (scene v) (scene w) l (subst IsLayout l.layout (life_holds c lay earlier w life).holds.1.layout) t outcome h

-- what its logs name is named
pub named_life : (c : Layout) (earlier : List World) (w : World) → IsPlainLife c earlier w → (v : World) → In v earlier → (t : ℕ) → is_named v.parties t ≡ true → is_named w.parties t ≡ true
named_life c _ _ (First hs) v i t n = absurd i
named_life c _ _ (Next earlier u start hs before is_start) v i t n =
    named_stays t (reopened u start) hs (named_again t u start
    (⊎_elim
    (λ (e : u ≡ v). subst (λ (x : World). is_named x.parties t ≡ true) (sym e) n)
    (λ (j : In v earlier). named_life c earlier u before v j t n)
    i))
