use Rattle.std.proofs.Common.{refl}
use Rattle.ams_token.specs.Spelling.{mark_text}
use Rattle.ams_token.proofs.TableLaws.{told}
use Rattle.ams_token.proofs.Listed.{mark_table, mark_listed}
use Rattle.ams_token.proofs.mark.Mark.find.Goals as goal

pub returns : goal.returns
returns c = told mark_text mark_table c.args.text.now refl mark_listed c.find_text.result c.find_text.ensures
