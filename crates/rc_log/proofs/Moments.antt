-- How a run of device calls goes on in time.
use Rattle.std.proofs.Common.{inl, inr, ⊎_elim, ℕ, List, arith}
use Rattle.rc_disk.specs.Crashes.{TakesTime, AtEachMoment}

-- before the first call
pub at_start : (start : ℕ) (left : ℕ → List ℕ → Type 0) (P : List ℕ → Type 0) → ((c : List ℕ) → left start c → P c) → AtEachMoment start start left left P
at_start start left P here = record { forward = omega arith; within = here; longer = λ t c le was. inl was }

-- one call more, after which nothing but what has P may be left
pub one_more : (start mid stop : ℕ) (before so_far now : ℕ → List ℕ → Type 0) (P may_leave : List ℕ → Type 0) → AtEachMoment start mid before so_far P
    → TakesTime mid stop so_far now may_leave → ((c : List ℕ) → may_leave c → P c) → AtEachMoment start stop before now P
one_more start mid stop before so_far now P may_leave run time here = record {
  forward = omega (arith, run.forward, time.forward);
  within = λ c left. ⊎_elim (run.within c) (here c) (time.adds start c run.forward left);
  longer = λ t c le left. ⊎_elim (run.longer t c le) (λ may. inr (here c may)) (time.adds t c (omega (arith, le, run.forward)) left);
}
