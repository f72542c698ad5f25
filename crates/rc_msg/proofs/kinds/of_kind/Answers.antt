use Rattle.std.proofs.Common.{◌≡◌, arith}
use Rattle.rc_msg.proofs.MsgLaws.{no_kind}
use Rattle.rc_msg.proofs.kinds.of_kind.Goals as goal

pub returns-in_default : goal.returns-in_default
returns-in_default c =
    no_kind c.args.kind c.args.fields.now
    (λ (e : c.args.kind ≡ 1). omega arith) (λ (e : c.args.kind ≡ 2). omega arith) (λ (e : c.args.kind ≡ 3). omega arith) (λ (e : c.args.kind ≡ 4). omega arith) (λ (e : c.args.kind ≡ 5). omega arith) (λ (e : c.args.kind ≡ 6). omega arith) (λ (e : c.args.kind ≡ 7). omega arith) (λ (e : c.args.kind ≡ 8). omega arith) (λ (e : c.args.kind ≡ 9). omega arith) (λ (e : c.args.kind ≡ 10). omega arith) (λ (e : c.args.kind ≡ 11). omega arith) (λ (e : c.args.kind ≡ 12). omega arith) (λ (e : c.args.kind ≡ 13). omega arith) (λ (e : c.args.kind ≡ 14). omega arith) (λ (e : c.args.kind ≡ 15). omega arith)
