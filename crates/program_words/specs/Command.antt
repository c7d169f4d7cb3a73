-- The command by which `clap` reads the words: options that each take one value.
use Rattle.std.specs.Prelude.{true, List, [], Some, map, codes}
use Rattle.clap.specs.declared.builder.action.ArgAction.TheVariants.{Set}
use Rattle.clap.specs.Walk.{Rule}
use Rattle.clap.specs.Simple.{App, new_rule, new_shape}
use Rattle.word_rules.specs.Words.{Text}

abbrev pub given_rule : Text → Rule
given_rule name = record (new_rule name) { long = Some name; action = Some Set }

abbrev pub options_app : List Text → App
options_app names = record { top = record (new_shape (codes "ams_run")) { rules = map given_rule names; no_binary_name = true; disable_help_flag = true }; subs = [] }
