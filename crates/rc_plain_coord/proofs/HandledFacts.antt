-- What a row did, and then the end of the call.
use Rattle.std.proofs.Common.{◌≡◌, ◌++◌, Option, Result, Ok, Err, ap, sym, ◌∙◌}
use Rattle.std.specs.Result.{IfOk, IsOkAnd}
use Rattle.rc_record.specs.declared.record.Record.{Record}
use Rattle.rc_record.specs.declared.coord.CoordDurable.{CoordDurable}
use Rattle.rc_record.specs.CoordState.{coord_applied}
use Rattle.rc_protocol.specs.Messages.{Posts}
use Rattle.rc_protocol.specs.Coordinator.{CoordAct, CoordVolatile}
use Rattle.rc_protocol.specs.Nodes.{CoordNode, logged, applied}
use Rattle.rc_plain_coord.specs.declared.fault.CoordFault.{CoordFault}
use Rattle.rc_plain_coord.specs.Rows.{Does, Handled}

-- the coordinator with this record written, and these tables
abbrev pub left : CoordNode → CoordVolatile → Option Record → CoordNode
left x tables written = record { up = x.up; log = logged x.log written; durable = applied coord_applied x.durable written; volatile = tables }

-- the act is that of the coordinator before, as the row found it
pub act_of : (act : CoordDurable → CoordVolatile → CoordAct) (durable : CoordDurable) (tables : CoordVolatile) (old start : CoordNode)
    → durable ≡ old.durable → tables ≡ start.volatile → start ≡ old → act durable tables ≡ act old.durable old.volatile
act_of act durable tables old start same there from =
    ap (λ (d : CoordDurable). act d tables) same ∙ ap (act old.durable) (there ∙ ap (λ (x : CoordNode). x.volatile) from)

pub handled : (act made : CoordAct) (done : Result (Option Record) CoordFault) (old start new : CoordNode) (tables : CoordVolatile) (before sent : Posts)
    → made ≡ act → start ≡ old → IfOk done (λ written. Does made written tables before sent) → IsOkAnd done (λ written. new ≡ left start tables written)
    → Handled act old new before sent
handled act made (Err e) old start new tables before sent same from row ended = absurd ended
handled act made (Ok written) old start new tables before sent same from row ended =
    record {
      node =
          ended ∙ ap (λ (x : CoordNode). left x tables written) from
          ∙ ap (λ (r : Option Record). left old tables r) (row.0 ∙ ap (λ (a : CoordAct). a.logs) same)
          ∙ ap (λ (v : CoordVolatile). left old v act.logs) (row.1 ∙ ap (λ (a : CoordAct). a.after) same);
      sends = row.2 ∙ ap (λ (a : CoordAct). before ++ a.sends) same;
      spared = sym (ap (λ (a : CoordAct). a.spent) same) ∙ row.3;
    }
