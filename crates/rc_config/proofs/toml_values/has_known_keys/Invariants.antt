use Rattle.std.proofs.Common.{◌≡◌, string_bytes}
use Rattle.std.specs.List.{list_all}
use Rattle.std.specs.BTreeMap.{keys}
use Rattle.rc_config.specs.Workload.{names_of, is_among}
use Rattle.rc_config.proofs.toml_values.has_known_keys.Given as goal

-- the keys that are left are known exactly where all of them are
abbrev pub invariant-loop-name : goal.invariant-loop-name
invariant-loop-name l = list_all (λ name. is_among (names_of l.kind) (string_bytes name)) l.name-iterator ≡ list_all (λ name. is_among (names_of l.kind) (string_bytes name)) (keys l.table)
