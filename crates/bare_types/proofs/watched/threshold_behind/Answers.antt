use Rattle.bare_types.proofs.Levels.{behind}
use Rattle.bare_types.proofs.watched.threshold_behind.Goals as goal

pub returns-in-Ok : goal.returns-in-Ok
returns-in-Ok c =
    behind c.args.setting.now.texts c.names.result.now c.args.scope.now c.args.level.now c.args.notes.now c.static_value.new.notes c.threshold_at.new.notes c.args.found.now c.in-Ok.value c.threshold_at.result c.names.ensures c.in-Ok.ensures.found.0 c.in-Ok.ensures.found.1 c.threshold_at.ensures
