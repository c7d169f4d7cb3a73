-- Statements of an architecture, read twice.
use Rattle.ams_tree.specs.declared.concurrent.ConcurrentStatement.TheVariants as conc
use Rattle.again_part_laws.proofs.Statements.{parts_break_alike}
use Rattle.again_process_laws.specs.Statements.{StatementsBreakAlike}
use Rattle.again_process_laws.proofs.Processes.{process_again}
use Rattle.again_process_laws.proofs.Maps.{maps_again}

pub statements_break_alike : StatementsBreakAlike
statements_break_alike w start units scope label (conc.Instance i) n m = maps_again w.texts scope start units i n m
statements_break_alike w start units scope label (conc.Process p) n m = process_again w scope label p n m
statements_break_alike w start units scope label (conc.Assign x delay all last when) n m = parts_break_alike.assignment w scope x delay all last when n m
statements_break_alike w start units scope label (conc.Assert a) n m = parts_break_alike.assertion w scope a n m
statements_break_alike w start units scope label (conc.Break place elements names when) n m = parts_break_alike.break_of w scope place elements names when n m
statements_break_alike w start units scope label (conc.Equation q) n m = parts_break_alike.equation w scope q n m
statements_break_alike w start units scope label (conc.If place all last) n m = parts_break_alike.choice w scope place all last n m
statements_break_alike w start units scope label (conc.Case place x all) n m = parts_break_alike.case_of w scope place x all n m
