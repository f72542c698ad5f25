use Rattle.std.proofs.Common.{◌≡◌, true, false, string_bytes, arith, ◌∙◌}
use Rattle.std.specs.List.{list_all}
use Rattle.std.specs.BTreeMap.{keys}
use Rattle.std.proofs.lemmas.Grind.{common_steps}
use Rattle.rc_config.specs.Workload.{names_of, is_among}
use Rattle.rc_config.proofs.TomlKeys.{keys_only}
use Rattle.rc_config.proofs.toml_values.has_known_keys.Goals as goal

pub returns-then-not-is_known : goal.returns-then-not-is_known
returns-then-not-is_known c =
    let fails : false ≡ list_all (λ name. is_among (names_of c.args.kind) (string_bytes name)) (keys c.args.table.now) = grind (arith, common_steps) in
    fails ∙ keys_only (names_of c.args.kind) c.args.table.now.entries

pub returns : goal.returns
returns c =
    let passes : true ≡ list_all (λ name. is_among (names_of c.args.kind) (string_bytes name)) (keys c.args.table.now) = grind (arith, common_steps) in
    passes ∙ keys_only (names_of c.args.kind) c.args.table.now.entries
