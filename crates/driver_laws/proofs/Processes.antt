-- Each process that is made drives a signal once.
use Rattle.std.proofs.Common.{◌≡◌, ℕ, zero, suc, arith, Bool, true, List, [], ◌∷◌, map, Option, Some, None, refl, sym, ◌∙◌, subst}
use Rattle.std.specs.List.{fold}
use Rattle.ams_tree.specs.declared.concurrent.ConcurrentStatement.{ConcurrentStatement}
use Rattle.ams_tree.specs.declared.concurrent.ConcurrentStatement.TheVariants as conc
use Rattle.ams_tree.specs.declared.concurrent.Process.{Process as Written}
use Rattle.ams_tree.specs.declared.declaration.ProcessDeclaration.{ProcessDeclaration}
use Rattle.ams_tree.specs.declared.declaration.ProcessDeclaration.TheVariants as declare
use Rattle.ams_tree.specs.declared.expression.Name.{Name}
use Rattle.flat_expr.specs.declared.expr.SignalName.{SignalName}
use Rattle.flat_expr.specs.declared.statement.Statement.{Statement}
use Rattle.flat_design.specs.declared.objects.Equation.{Equation}
use Rattle.flat_design.specs.declared.objects.Process.{Process}
use Rattle.name_scope.specs.declared.scope.Scope.{Scope}
use Rattle.name_scope.specs.Scopes.{inside}
use Rattle.elab_meaning.specs.declared.fault.Notes.{Notes}
use Rattle.elab_meaning.specs.declared.part.Part.{Part}
use Rattle.elab_meaning.specs.declared.part.Part.TheVariants.{Kept, Wrong, Hidden}
use Rattle.elab_meaning.specs.declared.typed.Valued.{Valued}
use Rattle.elab_meaning.specs.Parts.{judged, both}
use Rattle.unit_meaning.specs.declared.draft.Draft.{Draft}
use Rattle.unit_meaning.specs.declared.draft.Made.{Made}
use Rattle.unit_meaning.specs.Settings.{Setting, sealed}
use Rattle.unit_meaning.specs.Cases.{beside}
use Rattle.unit_meaning.specs.Sequential.{with_driver, statement_of, body}
use Rattle.unit_meaning.specs.Processes.{no_draft, top_spot, Declared, variable, constant, faulty, each_of, process_declaration, listened, made_process, process, assigning_process, asserting, breaking, concurrent_assignment, concurrent_assertion, concurrent_break}
use Rattle.unit_meaning.specs.Concurrent.{process_of, equation_of, concurrent}
use Rattle.driver_laws.specs.Driven.{Once, DrivesOnce, StatementsDriveOnce}
use Rattle.driver_laws.proofs.Statements.{once_driver, all_once}

none : Once []
none i j d less within = absurd (omega arith)

-- ---- parts

abbrev OnceKept : Part Process → Type 0
OnceKept (Kept p) = Once p.drivers
OnceKept part = Unit {0}

judged_once : (A : Type 0) (rule : A → Part Process) → ((a : A) → OnceKept (rule a)) → (q : Part A) → OnceKept (judged rule q)
judged_once A rule h (Kept a) = h a
judged_once A rule h Wrong = tt
judged_once A rule h Hidden = tt

both_once : (A B : Type 0) (rule : A → B → Part Process) → ((a : A) (b : B) → OnceKept (rule a b)) → (q : Part A) (r : Part B) → OnceKept (both rule q r)
both_once A B rule h (Kept a) r = judged_once B (rule a) (h a) r
both_once A B rule h Wrong (Kept b) = tt
both_once A B rule h Wrong Wrong = tt
both_once A B rule h Wrong Hidden = tt
both_once A B rule h Hidden r = tt

beside_once : (q : Part Bool) (r : Part Process) → OnceKept r → OnceKept (beside q r)
beside_once (Kept a) r h = h
beside_once Wrong (Kept p) h = tt
beside_once Wrong Wrong h = tt
beside_once Wrong Hidden h = tt
beside_once Hidden r h = tt

sealed_once : (q : Part Process) → OnceKept q → OnceKept (sealed q)
sealed_once (Kept p) h = h
sealed_once Wrong h = tt
sealed_once Hidden h = tt

made_once : (q : Part Process) → OnceKept q → DrivesOnce (process_of q)
made_once (Kept p) h = h
made_once Wrong h = tt
made_once Hidden h = tt

equation_once : (q : Part Equation) → DrivesOnce (equation_of q)
equation_once (Kept p) = tt
equation_once Wrong = tt
equation_once Hidden = tt

-- ---- declarations of a process drive nothing

fold_same : (A : Type 0) (f : Declared → A → Declared) → ((s : Declared) (x : A) → (f s x).draft.drivers ≡ s.draft.drivers) → (xs : List A) (s : Declared)
    → (fold f s xs).draft.drivers ≡ s.draft.drivers
fold_same A f h [] s = refl
fold_same A f h (x ∷ xs) s = fold_same A f h xs (f s x) ∙ h s x

each_same : (rule : Valued → Declared → Name → Declared) → ((v : Valued) (s : Declared) (x : Name) → (rule v s x).draft.drivers ≡ s.draft.drivers) → (q : Part Valued) (names : List Name) (s : Declared)
    → (each_of rule q names s).draft.drivers ≡ s.draft.drivers
each_same rule h (Kept v) names s = fold_same Name (rule v) (h v) names s
each_same rule h Wrong names s = fold_same Name faulty (λ t x. refl) names s
each_same rule h Hidden names s = fold_same Name faulty (λ t x. refl) names s

declaration_same : (texts : List (List ℕ)) (s : Declared) (d : ProcessDeclaration) → (process_declaration texts s d).draft.drivers ≡ s.draft.drivers
declaration_same texts s (declare.Variable place names i x) = each_same (variable texts) (λ v t y. refl) _ names _
declaration_same texts s (declare.Constant place names i x) = each_same constant (λ v t y. refl) _ names _

-- ---- processes

ending_once : (d : Draft) → Once d.drivers → (o : Option (List SignalName)) (all : List Statement) → OnceKept (made_process d o all)
ending_once d h (Some signals) all = h
ending_once d h None all = h

process_once : (w : Setting) (scope : Scope) (label : Option Name) (p : Written) (n : Notes) → OnceKept (process w scope label p n).1
process_once w scope label p n =
    let signals = listened w (inside scope) p.sensitivity n in
    let start : Declared = record { scope = inside scope; draft = no_draft signals.0; fine = Kept true } in
    let names = fold (process_declaration w.texts) start p.declarations in
    let all = body (map (statement_of w) p.body) names.scope top_spot 0 names.draft in
    let same : names.draft.drivers ≡ [] = fold_same ProcessDeclaration (process_declaration w.texts) (declaration_same w.texts) p.declarations start in
    let apart : Once all.0.drivers = (all_once w p.body names.scope top_spot 0 names.draft).drivers (subst Once (sym same) none) in
    sealed_once (beside names.fine (both (made_process all.0) signals.1 all.1))
    (beside_once names.fine (both (made_process all.0) signals.1 all.1)
    (both_once (Option (List SignalName)) (List Statement) (made_process all.0) (ending_once all.0 apart) signals.1 all.1))

-- ---- the processes that other statements stand for

abbrev quiet : Draft
quiet = record { notes = record { faults = []; dots = []; thresholds = [] }; variables = []; drivers = []; waits = [] }

one_driver : (i : ℕ) → Once (with_driver i quiet).drivers
one_driver i = (once_driver i quiet).drivers none

statements_once : StatementsDriveOnce
statements_once w scope label (conc.Process p) n = made_once (process w scope label p n).1 (process_once w scope label p n)
statements_once w scope label (conc.Assign x delay all last when) n =
    made_once (concurrent_assignment w scope x delay all last when n).1 (sealed_once _ (both_once _ _ assigning_process (λ to waves. one_driver to.0) _ _))
statements_once w scope label (conc.Assert a) n = made_once (concurrent_assertion w scope a n).1 (sealed_once _ (judged_once _ (asserting _) (λ x. none) _))
statements_once w scope label (conc.Break place elements names when) n =
    made_once (concurrent_break w scope place elements names when n).1 (sealed_once _ (both_once _ _ (breaking names) (λ e behind. none) _ _))
statements_once w scope label (conc.Equation q) n = equation_once _
statements_once w scope label (conc.If place all last) n = equation_once _
statements_once w scope label (conc.Case place x all) n = equation_once _
statements_once w scope label (conc.Instance i) n = tt

pub statements_drive_once : StatementsDriveOnce
statements_drive_once = statements_once
