-- The statements of an architecture, read twice.
use Rattle.std.proofs.Common.{List, [], ◌∷◌, Option}
use Rattle.std.specs.List.{fold}
use Rattle.ams_tree.specs.declared.expression.Name.{Name}
use Rattle.ams_tree.specs.declared.concurrent.Concurrent.{Concurrent}
use Rattle.ams_tree.specs.declared.concurrent.ConcurrentStatement.{ConcurrentStatement}
use Rattle.ams_tree.specs.declared.concurrent.ConcurrentStatement.TheVariants as conc
use Rattle.ams_tree.specs.declared.design.DesignUnit.{DesignUnit}
use Rattle.flat_design.specs.declared.objects.Objects.{Objects}
use Rattle.name_scope.specs.declared.scope.Scope.{Scope}
use Rattle.elab_meaning.specs.declared.fault.Notes.{Notes}
use Rattle.unit_meaning.specs.Settings.{Setting}
use Rattle.unit_meaning.specs.Units.{statement_notes, judged_statement}
use Rattle.note_laws.specs.Noting.{NamesAreNotable}
use Rattle.note_laws.proofs.Notes.{Alike, alike_same, alike_on}
use Rattle.process_note_laws.proofs.Processes.{concurrent_statements_note_alike}
use Rattle.association_note_laws.proofs.Maps.{associations_note_alike}
use Rattle.architecture_note_laws.specs.Statements.{ArchitecturesNoteAlike}

module _ (objects : Objects) (w : Setting) (start : Scope) (units : List DesignUnit) (scope : Scope) (notable : NamesAreNotable objects scope) where
  statement_alike : (label : Option Name) (x : ConcurrentStatement) (n m : Notes)
      → Alike objects n m (statement_notes w start units scope label x n) (statement_notes w start units scope label x m)
  statement_alike label (conc.Instance i) n m = associations_note_alike objects w.texts start units scope i n m notable
  statement_alike label (conc.Process p) n m = concurrent_statements_note_alike objects w scope label (conc.Process p) n m notable
  statement_alike label (conc.Assign x delay all last when) n m = concurrent_statements_note_alike objects w scope label (conc.Assign x delay all last when) n m notable
  statement_alike label (conc.Assert a) n m = concurrent_statements_note_alike objects w scope label (conc.Assert a) n m notable
  statement_alike label (conc.Break place elements names when) n m = concurrent_statements_note_alike objects w scope label (conc.Break place elements names when) n m notable
  statement_alike label (conc.Equation q) n m = concurrent_statements_note_alike objects w scope label (conc.Equation q) n m notable
  statement_alike label (conc.If place all last) n m = concurrent_statements_note_alike objects w scope label (conc.If place all last) n m notable
  statement_alike label (conc.Case place x all) n m = concurrent_statements_note_alike objects w scope label (conc.Case place x all) n m notable

  all_alike : (all : List Concurrent) (n m : Notes) → Alike objects n m (fold (judged_statement w start units scope) n all) (fold (judged_statement w start units scope) m all)
  all_alike [] n m = alike_same objects n m
  all_alike (c ∷ more) n m =
      let a = judged_statement w start units scope n c in
      let b = judged_statement w start units scope m c in
      alike_on objects n m a b (fold (judged_statement w start units scope) a more) (fold (judged_statement w start units scope) b more)
      (statement_alike c.label c.statement n m) (all_alike more a b)

pub architectures_note_alike : ArchitecturesNoteAlike
architectures_note_alike objects w start units scope all n m notable = all_alike objects w start units scope notable all n m
