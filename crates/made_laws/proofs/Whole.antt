-- Processes that are read.
use Rattle.std.proofs.Common.{◌≡◌, ⊎_elim, ℕ, Bool, true, false, List, [], map, Option, Some, None, IfSome, refl, sym, subst}
use Rattle.std.specs.Prelude.{nat_eq, if◌then◌else◌}
use Rattle.std.specs.List.{All, fold, list_any}
use Rattle.std.proofs.lemmas.List.Elements.{All-append, All-nil}
use Rattle.ams_tree.specs.declared.concurrent.Process.{Process as Written}
use Rattle.ams_tree.specs.declared.declaration.ProcessDeclaration.{ProcessDeclaration}
use Rattle.ams_tree.specs.declared.expression.Expr.{Expr}
use Rattle.ams_tree.specs.declared.expression.Name.{Name}
use Rattle.flat_expr.specs.declared.expr.SignalName.{SignalName}
use Rattle.flat_expr.specs.declared.statement.Statement.{Statement}
use Rattle.flat_design.specs.declared.objects.Objects.{Objects}
use Rattle.flat_design.specs.declared.objects.Process.{Process}
use Rattle.flat_design.specs.declared.objects.Variable.{Variable}
use Rattle.flat_design.specs.declared.objects.WaitPlace.{WaitPlace}
use Rattle.name_scope.specs.declared.scope.Scope.{Scope}
use Rattle.name_scope.specs.declared.thing.Thing.{Thing}
use Rattle.name_scope.specs.Scopes.{inside}
use Rattle.elab_meaning.specs.declared.fault.Cause.TheVariants.{WrongType}
use Rattle.elab_meaning.specs.declared.fault.Notes.{Notes}
use Rattle.elab_meaning.specs.declared.part.Part.{Part}
use Rattle.elab_meaning.specs.declared.part.Part.TheVariants.{Kept, Wrong, Hidden}
use Rattle.elab_meaning.specs.Notes.{noted}
use Rattle.elab_meaning.specs.Parts.{both, closed}
use Rattle.unit_meaning.specs.declared.draft.Draft.{Draft}
use Rattle.unit_meaning.specs.Settings.{Setting}
use Rattle.unit_meaning.specs.Bare.{sensitivity}
use Rattle.unit_meaning.specs.Cases.{beside}
use Rattle.unit_meaning.specs.Sequential.{statement_of, body}
use Rattle.unit_meaning.specs.Processes.{Declared, no_draft, top_spot, process_declaration, last_place, ending, endless, listened, made_process, end_name, process}
use Rattle.design_rules.specs.Types.{equation_scope, process_scope}
use Rattle.design_rules.specs.Statements.{IsSignalName}
use Rattle.design_rules.specs.Design.{IsVariable, IsProcess}
use Rattle.reading_laws.specs.Growing.{Extends, Grows}
use Rattle.reading_laws.proofs.Growing.{grows_same, grows_on, grows_noted}
use Rattle.typed_laws.specs.Fitting.{HasRoom}
use Rattle.typed_laws.proofs.Typing.{room_before}
use Rattle.part_laws.specs.Parts.{OnKept}
use Rattle.part_laws.proofs.Parts.{judged_kept}
use Rattle.scope_laws.specs.Holds.{HasNoFaults}
use Rattle.scope_laws.proofs.Names.{inside_same, inside_holds}
use Rattle.scope_laws.proofs.Scopes.{scopes_hold}
use Rattle.place_laws.specs.Places.{EachPlace, Stands, Assigns}
use Rattle.written_laws.specs.Written.{AreWritten}
use Rattle.draft_laws.specs.Drafts.{loop_parameter, IsLoopParameter, DraftGrows}
use Rattle.draft_laws.proofs.Notes.{grows_closed, grows_sensitivity}
use Rattle.draft_laws.proofs.Drafts.{extends_same, extends_one, extends_on, all_grow}
use Rattle.allowed_laws.specs.Simple.{IsSelectorAt}
use Rattle.allowed_laws.proofs.Simple.{sensitivity_keeps}
use Rattle.body_laws.specs.Bodies.{Keeps, StandsIn, ScopeStands, BodyIs}
use Rattle.body_laws.proofs.Branches.{body_places}
use Rattle.body_laws.proofs.Leaves.{sealed_kept}
use Rattle.body_laws.proofs.Whole.{all_stand}
use Rattle.made_laws.specs.Made.{ArchitectureStands, ProcessesAreMade}
use Rattle.made_laws.proofs.Endings.{both_by, kept_is, endless_is, ending_is, assertion_made, break_made}
use Rattle.made_laws.proofs.Declared.{Grown, fold_grown, no_faults_before, IsSound, fold_right, declaration_grown, declaration_right}

beside_kept : (A B : Type 0) (R : B → Type 0) (q : Part A) (r : Part B) → OnKept R r → OnKept R (beside q r)
beside_kept A B R (Kept a) r h = h
beside_kept A B R Wrong (Kept b) h = tt
beside_kept A B R Wrong Wrong h = tt
beside_kept A B R Wrong Hidden h = tt
beside_kept A B R Hidden r h = tt

grows_end : (label end : Option Name) (n : Notes) → Grows n (end_name label end n)
grows_end label None n = grows_same n
grows_end None (Some x) n = grows_noted x.place WrongType n
grows_end (Some l) (Some x) n = go (nat_eq l.number x.number)
  where
    go : (b : Bool) → Grows n (if b then n else noted x.place WrongType n)
    go true = grows_same n
    go false = grows_noted x.place WrongType n

grows_listened : (w : Setting) (scope : Scope) (names : Option (List Expr)) (n : Notes) → Grows n (listened w scope names n).0
grows_listened w scope None n = grows_same n
grows_listened w scope (Some names) n = grows_sensitivity w scope names n

parameter_is_variable : (objects : Objects) (name : List ℕ) → IsVariable objects (loop_parameter name)
parameter_is_variable objects name = record { declared = record { subtype = tt; initial_is = record { kind_is = refl; range = refl }; lies = refl }; parameter = λ h. refl }

parameters_are_variables : (objects : Objects) (all : List Variable) → All IsLoopParameter all → All (IsVariable objects) all
parameters_are_variables objects all h i d lt =
    let is = h i d lt in
    subst (IsVariable objects) (sym is.1) (parameter_is_variable objects is.0)

module _ (objects : Objects) (w : Setting) (Also : Thing → Bool) (scope : Scope) (at : ArchitectureStands objects w Also scope) where
  -- a process is read in a region of its own
  region_stands : (p : Process) → ScopeStands objects p [] w Also (inside scope)
  region_stands p =
      record {
        holds = scopes_hold.inner (process_scope objects p) p.variables [] scope (scopes_hold.in_process objects p [] scope at.holds);
        selectors = λ x any. subst (λ (o : Option Thing). IfSome o (IsSelectorAt objects)) (sym (inside_same scope x)) (at.selectors x any);
        also = inside_holds (Keeps Also) scope at.also;
      }

  module _ (p : Written) (n : Notes) (written : AreWritten p.body) where
    abbrev signals : Notes × Part (Option (List SignalName))
    signals = listened w (inside scope) p.sensitivity n

    abbrev start : Declared
    start = record { scope = inside scope; draft = no_draft signals.0; fine = Kept true }

    abbrev names : Declared
    names = fold (process_declaration w.texts) start p.declarations

    abbrev read : Draft × Part (List Statement)
    read = body (map (statement_of w) p.body) names.scope top_spot 0 names.draft

    names_grown : Grown start names
    names_grown =
        fold_grown ProcessDeclaration (process_declaration w.texts)
        (declaration_grown objects (endless (no_draft n) []) w Also at.values at.faulty) p.declarations start

    read_grown : DraftGrows names.draft read.0
    read_grown = all_grow w p.body names.scope top_spot 0 names.draft

    -- what the process is, whatever stands behind its statements
    pub record Facts (q : Process) (all : List Statement) : Type 0 where
      pub variables : All (IsVariable objects) read.0.variables
      pub places : EachPlace (Stands objects q) [] [] all
      pub used : (j : ℕ) → list_any (nat_eq j) read.0.drivers ≡ true → Assigns j all
      pub on : OnKept (λ (o : Option (List SignalName)). IfSome o (All (IsSignalName objects))) signals.1

    listens : (q : Process) (names : Option (List Expr)) → HasRoom (process_scope objects q) (listened w (inside scope) names n).0
        → OnKept (λ (o : Option (List SignalName)). IfSome o (All (IsSignalName objects))) (listened w (inside scope) names n).1
    listens q None room = tt
    listens q (Some names) room =
        judged_kept (List SignalName) (Option (List SignalName)) (All (IsSignalName objects)) (λ (o : Option (List SignalName)). IfSome o (All (IsSignalName objects))) _ (λ all h. h)
        (sensitivity w (inside scope) names n).1 ((sensitivity_keeps objects q [] w (inside scope) (region_stands q).holds names n).right room)

    facts : (q : Process) (all : List Statement) → read.1 ≡ Kept all → HasNoFaults read.0.notes → HasRoom (equation_scope objects) read.0.notes
        → Extends Variable read.0.variables q.variables → Extends ℕ read.0.drivers q.drivers → Extends WaitPlace read.0.waits q.waits → Facts q all
    facts q all is none room variables drivers waits =
        let room_q : HasRoom (process_scope objects q) read.0.notes = record { dots = room.dots; dot_limit = room.dot_limit; thresholds = room.thresholds; threshold_limit_kept = room.threshold_limit_kept } in
        let stands : StandsIn objects q read.0 = record { faults = none; room = room_q; variables = variables; drivers = drivers; waits = waits } in
        let none_names : HasNoFaults names.draft.notes = no_faults_before names.draft.notes read.0.notes read_grown.notes none in
        let sound : IsSound objects q w Also names =
        fold_right objects q w Also ProcessDeclaration (process_declaration w.texts) (declaration_grown objects q w Also at.values at.faulty) (declaration_right objects q w Also at.values at.faulty)
        p.declarations start (extends_on Variable names.draft.variables read.0.variables q.variables read_grown.variables variables) none_names
        (record { scope = region_stands q; variables = All-nil (IsVariable objects) }) in
        let body_is : BodyIs objects q top_spot 0 names.draft.drivers read.0.drivers all =
        kept_is (List Statement) (BodyIs objects q top_spot 0 names.draft.drivers read.0.drivers) read.1 all is
        (all_stand objects q w Also (record { texts = at.texts; cases = at.cases q; parameters = at.parameters }) p.body written names.scope top_spot 0 names.draft sound.scope
        (λ i h. absurd (nothing i h)) stands) in
        record {
          variables =
              subst (All (IsVariable objects)) (sym read_grown.variables.whole)
              (All-append (IsVariable objects) names.draft.variables read_grown.variables.more sound.variables (parameters_are_variables objects read_grown.variables.more read_grown.parameters));
          places = body_places objects q top_spot names.draft.drivers read.0.drivers all body_is;
          used = λ j h.
              ⊎_elim (λ old. absurd (nothing j (subst (λ (l : List ℕ). list_any (nat_eq j) l ≡ true) names_grown.drivers old))) (λ new. new) (body_is.drivers j h);
          on = listens q p.sensitivity
              (room_before (process_scope objects q) signals.0 read.0.notes (grows_on signals.0 names.draft.notes read.0.notes names_grown.notes read_grown.notes) room_q);
        }
      where
        nothing : (i : ℕ) → list_any (nat_eq i) [] ≡ true → ⊥
        nothing i h = absurd (cc)

    made : (o : Option (List SignalName)) (all : List Statement) → signals.1 ≡ Kept o → read.1 ≡ Kept all → HasNoFaults read.0.notes → HasRoom (equation_scope objects) read.0.notes
        → OnKept (IsProcess objects) (made_process read.0 o all)
    made (Some on) all is_on is none room =
        let q = ending read.0 on all in
        let f : Facts q all =
        facts q all is none room (extends_same Variable read.0.variables) (extends_same ℕ read.0.drivers) (extends_one WaitPlace read.0.waits (last_place all)) in
        ending_is objects read.0 on all f.variables f.places (kept_is (Option (List SignalName)) (λ (o : Option (List SignalName)). IfSome o (All (IsSignalName objects))) signals.1 (Some on) is_on f.on) f.used
    made None all is_on is none room =
        let q = endless read.0 all in
        let f : Facts q all = facts q all is none room (extends_same Variable read.0.variables) (extends_same ℕ read.0.drivers) (extends_same WaitPlace read.0.waits) in
        endless_is objects read.0 all f.variables f.places f.used

    pub process_made : (label : Option Name) → HasNoFaults (process w scope label p n).0 → HasRoom (equation_scope objects) (process w scope label p n).0 → OnKept (IsProcess objects) (process w scope label p n).1
    process_made label none room =
        let part = beside names.fine (both (made_process read.0) signals.1 read.1) in
        let noted_whole = closed p.place part read.0.notes in
        let goes : Grows read.0.notes (process w scope label p n).0 =
        grows_on read.0.notes noted_whole (end_name label p.end noted_whole) (grows_closed Process p.place part read.0.notes) (grows_end label p.end noted_whole) in
        let none_read : HasNoFaults read.0.notes = no_faults_before read.0.notes (process w scope label p n).0 goes none in
        let room_read : HasRoom (equation_scope objects) read.0.notes = room_before (equation_scope objects) read.0.notes (process w scope label p n).0 goes room in
        sealed_kept Process (IsProcess objects) part
        (beside_kept Bool Process (IsProcess objects) names.fine (both (made_process read.0) signals.1 read.1)
        (both_by (Option (List SignalName)) (List Statement) Process (IsProcess objects) (made_process read.0) signals.1 read.1 (λ o all is_on is. made o all is_on is none_read room_read)))

pub processes_are_made : ProcessesAreMade
processes_are_made = record {
  processes = λ objects w Also scope label p n at written none room. process_made objects w Also scope at p n written label none room;
  assertions = λ objects w scope a n holds texts room. assertion_made objects w scope holds texts a n room;
  breaks = λ objects w scope place elements names when n holds selectors room. break_made objects w scope holds selectors place elements names when n room;
}
