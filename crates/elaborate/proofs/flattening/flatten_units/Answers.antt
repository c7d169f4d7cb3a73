use Rattle.std.specs.Prelude.{position}
use Rattle.std.specs.Str.{bytes_eq}
use Rattle.unit_index.specs.Index.{known}
use Rattle.unit_meaning.specs.Walk as spec
use Rattle.elaborate.proofs.Stages.{behind, failed}
use Rattle.elaborate.proofs.flattening.flatten_units.Goals as goal

pub returns-in-Ok : goal.returns-in-Ok
returns-in-Ok c =
    behind (spec.walked c.args.names.now (known c.args.units.now) c.args.top.now (position (bytes_eq c.args.top.now) c.args.names.now)) c.in-Ok.site c.flat_of_site.result c.in-Ok.ensures c.flat_of_site.ensures

pub returns-in-Err : goal.returns-in-Err
returns-in-Err c =
    failed (spec.walked c.args.names.now (known c.args.units.now) c.args.top.now (position (bytes_eq c.args.top.now) c.args.names.now)) c.in-Err.stop c.in-Err.ensures
