use Rattle.std.proofs.Common.{arith}
use Rattle.program_words.proofs.CommandLemmas.{app_begins, app_step}
use Rattle.program_words.proofs.command.command.Goals as goal

pub loop-name-init : goal.loop-name-init
loop-name-init c =
    app_begins c.new.result c.no_binary_name.result c.disable_help_flag-command.result c.new.ensures.app c.no_binary_name.ensures c.disable_help_flag-command.ensures

pub loop-name-preserved : goal.loop-name-preserved
loop-name-preserved c =
    app_step c.loop-name.command c.in_ok-command.command c.option.result c.args.names.now c.loop-name.name-index _ c.loop-name.invariant c.in_ok-command.ensures c.option.ensures.local c.option.ensures.rule (omega arith)
