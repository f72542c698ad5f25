use Rattle.std.proofs.Common.{arith}
use Rattle.rc_log.proofs.Frames.{few_records}
use Rattle.rc_log.proofs.Opened.{all_counted}
use Rattle.rc_log.proofs.log.Log.open.Goals as goal

pub invariant_of-result : goal.invariant_of-result
invariant_of-result g c =
    let counted = all_counted (g.D.Disk.content c.args.disk) (g.D.Disk.content c.open_records.new.disk) c.in-Ok.records c.in-Ok.ensures.content c.in-Ok.ensures.records in
    record {
      intact = record {
        settled = λ sound. c.in-Ok.ensures.settled;
        no_more = λ sound d is. omega (arith, c.len.ensures, counted d is);
        enough = λ d is. omega (arith, c.len.ensures, counted d is);
        few = omega (arith, c.len.ensures, c.in-Ok.ensures.end, few_records c.in-Ok.records);
        limited = c.requires;
        calls = λ some. absurd (omega arith);
        bytes = λ some. absurd (omega arith);
        frame = λ some. absurd (omega arith);
      };
    }
