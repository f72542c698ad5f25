use Rattle.std.proofs.Common.{List, ℕ, [], Vec, Global, refl, sym, ap, ◌∙◌}
use Rattle.std.specs.BTreeMap.{BTreeMap}
use Rattle.std.specs.Ordering.{nat_cmp}
use Rattle.rc_ids.specs.Tables.{member, found}
use Rattle.rc_ids.specs.Texts.{key_cmp}
use Rattle.rc_locks.specs.Flags.{has_key_at}
use Rattle.rc_locks.proofs.FlagFacts.{found_is}
use Rattle.rc_locks.proofs.IndexFacts.{Index, member_last, noted_there, noted_kept, noted_new}
use Rattle.rc_locks.proofs.flags.note.Goals as goal

pub returns-in-Some-clause-kept : goal.returns-in-Some-clause-kept
returns-in-Some-clause-kept c =
    noted_kept c.args.index.now.entries (c.get_mut.follows.lender c.push_key.new.keys).entries c.args.mark.now.1 c.push_key.new.keys
    ((c.get_mut.follows.holds c.push_key.new.keys).3 (found_is _ c.in-Some.keys.now c.in-Some.ensures.value)).0
    c.in-Some.keys.now c.in-Some.ensures.value c.push_key.ensures.kept

pub returns-in_ok-insert-in-None-clause-there : goal.returns-in_ok-insert-in-None-clause-there
returns-in_ok-insert-in-None-clause-there c =
    noted_there c.get_mut.follows.lender-at-none.entries c.insert.new.self.entries c.args.mark.now.1 c.in_ok-keys-in-None.keys
    c.in_ok-insert-in-None.ensures.updates.0 c.args.mark.now.0
    (ap (λ (ks : List (List ℕ)). member key_cmp ks c.args.mark.now.0) c.in_ok-keys-in-None.ensures ∙ member_last [] c.args.mark.now.0 c.args.mark.now.0 refl)

pub returns-in_ok-insert-in-None-clause-kept : goal.returns-in_ok-insert-in-None-clause-kept
returns-in_ok-insert-in-None-clause-kept c m had =
    let same = ap (λ (i : BTreeMap ℕ (Vec (List ℕ) Global)). i.entries) c.get_mut.follows.holds-at-none in
    noted_new c.get_mut.follows.lender-at-none.entries c.insert.new.self.entries c.args.mark.now.1 c.in_ok-keys-in-None.keys
    c.in_ok-insert-in-None.ensures.updates.0 (c.in-None.ensures.value ∙ ap (λ (i : Index). found nat_cmp i c.args.mark.now.1) (sym same)) m
    (ap (λ (i : Index). has_key_at i m) same ∙ had)
