use Rattle.std.proofs.Common.{◌≡◌, ◌<◌, false, [], ◌∷◌, ◌++◌, length, ap, subst, sym, ◌∙◌, arith}
use Rattle.rc_body.specs.Entries.{entries_of}
use Rattle.rc_body.specs.Bodies.{has_key, IsBody}
use Rattle.rc_body.proofs.BodyFacts.{insert_entry-last, IsBody-push}
use Rattle.rc_body.proofs.body.Body.keep.Goals as goal

absent : (c : goal.Joined-branch-2) → has_key c.args.entry.key (entries_of c.self.inside.entries.entries) ≡ false
absent c = ap (has_key c.args.entry.key) c.self.view_is ∙ c.requires.absent

pushed : (c : goal.Joined-branch-2)
    → entries_of c.insert.new.self.entries ≡ entries_of c.self.inside.entries.entries ++ (c.args.entry ∷ [])
pushed c =
    ap entries_of c.in_ok-insert.ensures.entries
    ∙ insert_entry-last c.args.entry.key (record { version = c.args.entry.version; write = c.args.entry.write })
    c.self.inside.entries.entries (absent c)

pub invariant_of-self-2 : goal.invariant_of-self-2
invariant_of-self-2 c =
    let room : length (entries_of c.self.inside.entries.entries) < 32 = omega (arith, ap length c.self.view_is) in
    subst IsBody (sym (pushed c)) (IsBody-push _ c.args.entry c.self.invariant (absent c) room c.requires.lasting)

pub returns-clause-ok : goal.returns-clause-ok
returns-clause-ok c = pushed c ∙ ap (λ xs. xs ++ (c.args.entry ∷ [])) c.self.view_is
