-- Rows that were written stay so.
use Rattle.std.proofs.Common.{ℕ, ◌<◌, List, [], ◌∷◌}
use Rattle.std.specs.declared.cmp.Ordering.{Ordering}
use Rattle.std.specs.declared.cmp.Ordering.TheVariants.{Less, Equal, Greater}
use Rattle.std.specs.Ordering.{match_ordering}
use Rattle.rc_ids.specs.Tables.{put}
use Rattle.rc_ids.specs.Texts.{key_cmp}
use Rattle.rc_body.specs.Rows.{Row}
use Rattle.rc_record.specs.Rows.{AreWritten}

pub AreWritten-put : (rows : List Row) (k : List ℕ) (x : ℕ × List ℕ) → 0 < x.0 → AreWritten rows → AreWritten (put key_cmp rows k x)
AreWritten-put [] k x some all = (some, tt)
AreWritten-put (r ∷ rs) k x some all = placed (key_cmp k r.0) (AreWritten-put rs k x some all.1)
  where
    placed : (o : Ordering) → AreWritten (put key_cmp rs k x) → AreWritten (match_ordering o ((k, x) ∷ r ∷ rs) ((r.0, x) ∷ rs) (r ∷ put key_cmp rs k x))
    placed Less rest = (some, all)
    placed Equal rest = (some, all.1)
    placed Greater rest = (all.0, rest)
