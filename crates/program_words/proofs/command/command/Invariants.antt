use Rattle.std.proofs.Common.{◌≡◌, take, map}
use Rattle.clap.specs.Simple.{app_of}
use Rattle.program_words.specs.Command.{options_app}
use Rattle.program_words.proofs.command.command.Given as goal

-- the options so far
abbrev pub invariant-loop-name : goal.invariant-loop-name
invariant-loop-name l = app_of l.command ≡ options_app (map (λ name. name.now) (take l.name-index l.names))
