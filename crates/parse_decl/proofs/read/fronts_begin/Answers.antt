use Rattle.parse_steps.proofs.Answering.{front_begins, front_begins_within, spelled_begins}
use Rattle.parse_decl.proofs.Called.{answering}
use Rattle.parse_decl.proofs.read.fronts_begin.Goals as goal

pub returns : goal.returns
returns c = record { begins = front_begins answering; within = front_begins_within answering; spelled = spelled_begins answering }
