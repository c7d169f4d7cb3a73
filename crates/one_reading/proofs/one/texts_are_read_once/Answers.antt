use Rattle.one_reading.proofs.Reading.{gives_once}
use Rattle.one_reading.proofs.one.texts_are_read_once.Goals as goal

pub returns : goal.returns
returns c = gives_once c.texts_are_lexed_once.ensures c.files_are_read_once.ensures
