-- The solver of a flat design may go to another thread.
use denote.Param.Send.{IsSend, sendable}
use denote.Ref.{NamedLft}
use Rattle.std.proofs.Crossing.{crosses}
use Rattle.std.proofs.option.Option.TheSendSync as option
use Rattle.fix_core.proofs.Fix.TheSendSync as of_fix
use Rattle.flat_expr.proofs.expr.SignalName.TheSendSync as of_signalname
use Rattle.flat_expr.proofs.expr.Unknown.TheSendSync as of_unknown
use Rattle.flat_design.proofs.objects.Terminal.TheSendSync as of_terminal
use Rattle.tape_code.proofs.instruction.RealFunction.TheSendSync as of_realfunction
use Rattle.tape_code.proofs.instruction.RealOperator.TheSendSync as of_realoperator
use Rattle.sqlite_items.proofs.items.Items.TheSendSync as of_items
use Rattle.tape_code.specs.contracts.instruction.Instruction as Instruction
use Rattle.eval_tape.specs.contracts.tape.Tape as Tape
use Rattle.prepared_pairs.specs.contracts.pair.PreparedPair as PreparedPair
use Rattle.common_rows.specs.contracts.ends.NodeEnd as NodeEnd
use Rattle.common_rows.specs.contracts.forms.CommonForm as CommonForm
use Rattle.common_rows.specs.contracts.entries.Entry as Entry
use Rattle.common_rows.specs.contracts.rows.CommonRows as CommonRows
use Rattle.equation_values.specs.contracts.reader.EquationReader as EquationReader
use Rattle.equation_system.specs.contracts.system.EquationSystem as EquationSystem
use Rattle.sparse_row.specs.contracts.entry.Entry as Cell
use Rattle.sparse_row.specs.contracts.row.SparseRow as SparseRow
use Rattle.sparse_rows.specs.contracts.rows.SparseRows as SparseRows
use Rattle.kept_rows.specs.contracts.column.Column as Column
use Rattle.kept_rows.specs.contracts.elimination.Elimination as Elimination
use Rattle.kept_rows.specs.contracts.kept.KeptElimination as KeptElimination
use Rattle.ams_point.specs.contracts.Point as Point
use Rattle.newton_rounds.specs.contracts.rounds.Newton as Newton
use Rattle.set_solver.specs.contracts.solver.SetSolver as SetSolver
use Rattle.number_ratio.proofs.Ratio.TheSendSync as of_ratio
use Rattle.whole_threads.proofs.Crossing.{Flat-sync}

pub ruleset moves = (sendable, crosses, option.the_field_send, of_ratio.the_send, of_fix.the_send, of_signalname.the_field_send, of_unknown.the_field_send, of_terminal.the_field_send, of_realfunction.the_field_send, of_realoperator.the_field_send, of_items.the_send)

pub Instruction-send : IsSend Instruction.the_field.row
Instruction-send = search moves depth 20

pub Tape-send : IsSend Tape.the_row
Tape-send = search (moves, Instruction-send) depth 20

pub PreparedPair-send : IsSend PreparedPair.the_row
PreparedPair-send = search (moves, Tape-send) depth 20

pub NodeEnd-send : IsSend NodeEnd.the_row
NodeEnd-send = search moves depth 20

pub CommonForm-send : IsSend CommonForm.the_field.row
CommonForm-send = search (moves, NodeEnd-send) depth 20

pub Entry-send : IsSend Entry.the_field.row
Entry-send = search moves depth 20

pub CommonRows-send : (κ : NamedLft) → IsSend (CommonRows.the_row κ)
CommonRows-send κ = search (moves, CommonForm-send, Entry-send, Flat-sync) depth 20

pub EquationReader-send : (κ : NamedLft) → IsSend (EquationReader.the_row κ)
EquationReader-send κ = search (moves, Flat-sync) depth 20

pub EquationSystem-send : (κ : NamedLft) → IsSend (EquationSystem.the_row κ)
EquationSystem-send κ = search (moves, EquationReader-send, PreparedPair-send, CommonRows-send) depth 20

pub Cell-send : IsSend Cell.the_field.row
Cell-send = search moves depth 20

pub SparseRow-send : IsSend SparseRow.the_row
SparseRow-send = search (moves, Cell-send) depth 20

pub SparseRows-send : IsSend SparseRows.the_row
SparseRows-send = search (moves, SparseRow-send) depth 20

pub Column-send : IsSend Column.the_field.row
Column-send = search (moves, SparseRow-send) depth 20

pub Elimination-send : IsSend Elimination.the_field.row
Elimination-send = search (moves, SparseRow-send, Column-send) depth 20

pub KeptElimination-send : IsSend KeptElimination.the_row
KeptElimination-send = search (moves, Elimination-send) depth 20

pub Point-send : IsSend Point.the_row
Point-send = search moves depth 20

pub Newton-send : IsSend Newton.the_row
Newton-send = search (moves, SparseRows-send, KeptElimination-send, Point-send) depth 20

pub SetSolver-send : (κ : NamedLft) → IsSend (SetSolver.the_row κ)
SetSolver-send κ = search (moves, EquationSystem-send, Newton-send, Point-send) depth 20
