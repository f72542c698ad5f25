use Rattle.std.proofs.Common.{◌≡◌, None}
use Rattle.rc_ids.specs.Texts.{value_fault}
use Rattle.rc_config.proofs.Values.{value_is_text, only_memory}
use Rattle.rc_config.proofs.generator.value_of.Goals as goal

pub want_of_memory-requires : goal.want_of_memory-requires
want_of_memory-requires c =
    let fits : value_fault c.as_bytes.result.now ≡ None = rw (c.as_bytes.ensures, c.in_ok-text.ensures) (value_is_text c.args.number c.ranges.number.fits) in
    only_memory c.as_bytes.result.now c.in-Err.fault fits c.in-Err.ensures.err
