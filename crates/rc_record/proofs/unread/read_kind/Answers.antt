use Rattle.std.proofs.Common.{◌≡◌, arith}
use Rattle.rc_record.proofs.RecordLaws.{no_kind}
use Rattle.rc_record.proofs.unread.read_kind.Goals as goal

pub returns-in_default : goal.returns-in_default
returns-in_default c =
    no_kind c.args.kind c.args.fields.now
    (λ (e : c.args.kind ≡ 0). omega arith) (λ (e : c.args.kind ≡ 1). omega arith) (λ (e : c.args.kind ≡ 2). omega arith) (λ (e : c.args.kind ≡ 3). omega arith) (λ (e : c.args.kind ≡ 4). omega arith) (λ (e : c.args.kind ≡ 5). omega arith)
