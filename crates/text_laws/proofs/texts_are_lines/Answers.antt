use Rattle.text_laws.proofs.Lines.{texts_are_lines}
use Rattle.text_laws.proofs.texts_are_lines.Goals as goal

pub returns : goal.returns
returns c = texts_are_lines
