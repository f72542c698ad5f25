use Rattle.rc_protocol_rows.proofs.EdgeRuns as edge
use Rattle.rc_protocol_rows.proofs.edges.Goals as goal

pub returns : goal.returns
returns c = record {
  outside = edge.outside;
  own = edge.own;
  reports = edge.reports;
  worn_out = edge.worn-out;
  unnamed = edge.unnamed;
  again = edge.again;
  orders = edge.orders;
  logs = edge.logs;
  traced = edge.traced;
  counted = edge.counted;
  summary = edge.sums;
  names = edge.names;
}
