-- What is asked for, by what each option is given, and as the program keeps it.
use Rattle.std.specs.Prelude.{ℕ, [], Option, unwrap_or, option_and_then, codes, map, string_bytes}
use Rattle.std.specs.Char.{to_ascii_lowercase}
use Rattle.step_data.specs.declared.outcome.Options.{Options}
use Rattle.step_schedule.specs.declared.Step.{Step}
use Rattle.step_schedule.specs.declared.Step.TheVariants as steps
use Rattle.word_rules.specs.declared.mode.Mode.{Mode}
use Rattle.word_rules.specs.declared.mode.Mode.TheVariants as mode
use Rattle.word_rules.specs.Words.{Text, Request, mode_named, number_of}
use Rattle.program_words.specs.declared.settings.Settings.{Settings}

-- the letter of a step: `d` and `w`
abbrev pub letter_of : Step → ℕ
letter_of steps.D = 100
letter_of steps.W = 119

abbrev pub asked : Settings → Request
asked s = record {
  mode = s.mode;
  top = string_bytes s.top;
  size = s.size;
  stop = s.options.stop;
  ahead = s.options.ahead;
  h0 = s.options.h0;
  hmin = s.options.hmin;
  hmax = s.options.hmax;
  tol = s.options.tol;
  ltol = s.options.ltol;
  xres = s.options.xres;
  schedule = map letter_of s.schedule.items;
}

-- the value that each option is given
abbrev pub Values : Type 0
Values = Text → Option Text

abbrev pub number_from : Values → ℕ → Text → ℕ
number_from values default name = unwrap_or (option_and_then number_of (values name)) default

abbrev pub mode_from : Values → Mode
mode_from values = unwrap_or (option_and_then mode_named (values (codes "mode"))) mode.Run

abbrev pub top_from : Mode → Values → Text
top_from mode.Run values = map to_ascii_lowercase (unwrap_or (values (codes "top")) [])
top_from mode.Lockstep values = map to_ascii_lowercase (unwrap_or (values (codes "top")) [])
top_from mode.Replay values = map to_ascii_lowercase (unwrap_or (values (codes "top")) [])
top_from mode.Make values = codes "ladder"

abbrev pub schedule_from : Values → Text
schedule_from values = unwrap_or (values (codes "schedule")) []

abbrev pub options_from : Values → Options
options_from values = record {
  stop = number_from values 0 (codes "stop");
  ahead = number_from values 64 (codes "ahead");
  h0 = number_from values 1000 (codes "h0");
  hmin = number_from values 1 (codes "hmin");
  hmax = number_from values 1000000 (codes "hmax");
  tol = number_from values 1000000 (codes "tol");
  ltol = number_from values 1000000000 (codes "ltol");
  xres = number_from values 1 (codes "xres");
}

abbrev pub request_from : Values → Request
request_from values = record {
  mode = mode_from values;
  top = top_from (mode_from values) values;
  size = number_from values 0 (codes "size");
  stop = number_from values 0 (codes "stop");
  ahead = number_from values 64 (codes "ahead");
  h0 = number_from values 1000 (codes "h0");
  hmin = number_from values 1 (codes "hmin");
  hmax = number_from values 1000000 (codes "hmax");
  tol = number_from values 1000000 (codes "tol");
  ltol = number_from values 1000000000 (codes "ltol");
  xres = number_from values 1 (codes "xres");
  schedule = schedule_from values;
}
