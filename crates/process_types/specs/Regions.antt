-- A process in parts: what stands in its region, and what stands at its end.
use Rattle.std.specs.Prelude.{true, List, map, Option}
use Rattle.std.specs.List.{fold}
use Rattle.ams_token.specs.declared.token.Place.{Place}
use Rattle.ams_tree.specs.declared.expression.Name.{Name}
use Rattle.ams_tree.specs.declared.sequential.Seq.{Seq}
use Rattle.ams_tree.specs.declared.concurrent.Process.{Process as Written}
use Rattle.flat_expr.specs.declared.expr.SignalName.{SignalName}
use Rattle.flat_expr.specs.declared.statement.Statement.{Statement}
use Rattle.flat_design.specs.declared.objects.Process.{Process}
use Rattle.name_scope.specs.declared.scope.Scope.{Scope}
use Rattle.elab_meaning.specs.declared.fault.Notes.{Notes}
use Rattle.elab_meaning.specs.declared.part.Part.{Part}
use Rattle.elab_meaning.specs.declared.part.Part.TheVariants.{Kept}
use Rattle.elab_meaning.specs.Parts.{both}
use Rattle.unit_meaning.specs.declared.draft.Draft.{Draft}
use Rattle.unit_meaning.specs.Cases.{beside}
use Rattle.unit_meaning.specs.Settings.{Setting, finished}
use Rattle.unit_meaning.specs.Sequential.{statement_of, body}
use Rattle.unit_meaning.specs.Processes.{Declared, no_draft, top_spot, process_declaration, listened, made_process, end_name}

-- before its declarations
abbrev pub beginning : Scope → Notes → Declared
beginning scope n = record { scope = scope; draft = no_draft n; fine = Kept true }

-- its statements, behind its declarations
abbrev pub statements_of : Setting → Declared → List Seq → Draft × Part (List Statement)
statements_of w names all = body (map (statement_of w) all) names.scope top_spot 0 names.draft

-- the process of its parts
abbrev pub made_behind : Part (Option (List SignalName)) → Declared → Draft × Part (List Statement) → Notes × Part Process
made_behind signals names all = (all.0.notes, beside names.fine (both (made_process all.0) signals all.1))

-- behind its sensitivity list
abbrev pub behind_signals : Setting → Declared → Written → Part (Option (List SignalName)) → Notes × Part Process
behind_signals w before p signals =
    let names = fold (process_declaration w.texts) before p.declarations in
    made_behind signals names (statements_of w names p.body)

-- a process in its region
abbrev pub in_region : Setting → Scope → Written → Notes → Notes × Part Process
in_region w scope p n =
    let signals = listened w scope p.sensitivity n in
    behind_signals w (beginning scope signals.0) p signals.1

-- the process at this place, with its label and the name behind its end
abbrev pub ended : Place → Option Name → Option Name → Notes × Part Process → Notes × Part Process
ended place label name found =
    let whole = finished place found in
    (end_name label name whole.0, whole.1)
