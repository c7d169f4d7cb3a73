-- Waveforms with conditions are told apart by their parts.
use Rattle.std.specs.Prelude.{List, Option, refl}
use Rattle.std.specs.Coded.{Coded, code_by, coded×, coded_list, coded_option}
use Rattle.flat_expr.specs.declared.expr.FlatExpr.{FlatExpr}
use Rattle.flat_expr.specs.declared.expr.SignalName.{SignalName}
use Rattle.flat_expr.specs.declared.statement.Statement.{Statement}
use Rattle.flat_expr.specs.contracts.expr.FlatExpr as expression_type
use Rattle.flat_expr.specs.contracts.expr.SignalName as signal_type
use Rattle.flat_expr.specs.contracts.statement.Statement as statement_type
use Rattle.unit_meaning.specs.Processes.{Wave}

abbrev pub wave_code : Coded Wave
wave_code =
    code_by (Statement × (Option FlatExpr × List SignalName))
    (coded× statement_type.the_row.coded (coded× (coded_option expression_type.the_row.coded) (coded_list signal_type.the_row.coded)))
    (λ w. (w.assigns, (w.when, w.reads)))
    (λ p. record { assigns = p.0; when = p.1.0; reads = p.1.1 })
    (λ _. refl)

abbrev pub waves_code : Coded (List Wave)
waves_code = coded_list wave_code
