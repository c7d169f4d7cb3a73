use Rattle.std.proofs.Common.{refl}
use Rattle.ams_token.specs.Spelling.{word_text}
use Rattle.ams_token.proofs.TableLaws.{told}
use Rattle.ams_token.proofs.Listed.{word_table, word_listed}
use Rattle.ams_token.proofs.word.Word.find.Goals as goal

pub returns : goal.returns
returns c = told word_text word_table c.args.text.now refl word_listed c.find_text.result c.find_text.ensures
