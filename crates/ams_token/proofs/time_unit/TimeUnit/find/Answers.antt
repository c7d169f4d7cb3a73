use Rattle.std.proofs.Common.{refl}
use Rattle.ams_token.specs.Spelling.{unit_text}
use Rattle.ams_token.proofs.TableLaws.{told}
use Rattle.ams_token.proofs.Listed.{unit_table, unit_listed}
use Rattle.ams_token.proofs.time_unit.TimeUnit.find.Goals as goal

pub returns : goal.returns
returns c = told unit_text unit_table c.args.text.now refl unit_listed c.find_text.result c.find_text.ensures
