-- Processes, read twice.
use Rattle.std.proofs.Common.{◌≡◌, ◌∙◌, ℕ, Bool, true, false, if◌then◌else◌, List, [], ◌∷◌, ◌++◌, length, map, fold, Option, Some, None, IfSome, refl, sym, ap, subst}
use Rattle.std.specs.Prelude.{nat_eq}
use Rattle.ams_token.specs.declared.token.Place.{Place}
use Rattle.ams_tree.specs.declared.concurrent.ConcurrentStatement.{ConcurrentStatement}
use Rattle.ams_tree.specs.declared.concurrent.ConcurrentStatement.TheVariants as conc
use Rattle.ams_tree.specs.declared.concurrent.Process.{Process as Written}
use Rattle.ams_tree.specs.declared.declaration.ProcessDeclaration.{ProcessDeclaration}
use Rattle.ams_tree.specs.declared.declaration.ProcessDeclaration.TheVariants as declare
use Rattle.ams_tree.specs.declared.declaration.SubtypeIndication.{SubtypeIndication}
use Rattle.ams_tree.specs.declared.expression.Expr.{Expr}
use Rattle.ams_tree.specs.declared.expression.Name.{Name}
use Rattle.ams_tree.specs.declared.sequential.Seq.{Seq}
use Rattle.flat_design.specs.declared.objects.Objects.{Objects}
use Rattle.flat_design.specs.declared.objects.Process.{Process}
use Rattle.flat_design.specs.declared.objects.Variable.{Variable}
use Rattle.name_scope.specs.declared.thing.Thing.{Thing}
use Rattle.name_scope.specs.declared.thing.Thing.TheVariants as thing
use Rattle.name_scope.specs.declared.scope.Scope.{Scope}
use Rattle.name_scope.specs.Scopes.{declared_in, inside, with_name}
use Rattle.elab_meaning.specs.declared.fault.Cause.TheVariants.{Duplicate, WrongType}
use Rattle.elab_meaning.specs.declared.fault.Notes.{Notes}
use Rattle.elab_meaning.specs.declared.part.Part.{Part}
use Rattle.elab_meaning.specs.declared.part.Part.TheVariants.{Kept, Wrong, Hidden}
use Rattle.elab_meaning.specs.declared.typed.Valued.{Valued}
use Rattle.elab_meaning.specs.Declarations.{duplicate, constant_of}
use Rattle.elab_meaning.specs.Notes.{noted}
use Rattle.elab_meaning.specs.Parts.{judged, both, closed}
use Rattle.elab_meaning.specs.Subtypes.{valued}
use Rattle.unit_meaning.specs.Settings.{Setting, sealed}
use Rattle.unit_meaning.specs.Cases.{beside}
use Rattle.unit_meaning.specs.Sequential.{with_notes, body, statement_of}
use Rattle.unit_meaning.specs.Bare.{sensitivity}
use Rattle.unit_meaning.specs.Concurrent.{concurrent}
use Rattle.unit_meaning.specs.Processes.{no_draft, top_spot, Declared, named, with_variable, fine_of, made_process, variable, constant, faulty, each_of, declaring_each, process_declaration, listened, end_name, process}
use Rattle.reading_laws.specs.Growing.{Grows}
use Rattle.reading_laws.proofs.Growing.{grows_same, grows_noted}
use Rattle.part_laws.specs.Parts.{OnKept}
use Rattle.note_laws.specs.Noting.{IsNotable, NamesAreNotable, NotesAlike}
use Rattle.note_laws.proofs.Notes.{SameLists, lists_same, lists_noted, Alike, alike_same, alike_quiet, alike_noted, alike_on}
use Rattle.part_note_laws.proofs.Parts.{finished_alike, sensitivity_alike}
use Rattle.part_note_laws.proofs.Statements.{statements_note_alike}
use Rattle.body_note_laws.proofs.Names.{named_holds, inside_holds}
use Rattle.body_note_laws.proofs.Bodies.{same_before, Drafts, all_alike}
use Rattle.process_note_laws.specs.Noted.{ConcurrentStatementsNoteAlike}
use Rattle.process_note_laws.proofs.Values.{FindsSame, valued_same, constant_fits}

module _ (objects : Objects) where
  duplicate_alike : (x : Name) (o : Option Thing) (n m : Notes) → Alike objects n m (duplicate x o n) (duplicate x o m)
  duplicate_alike x o n m = alike_quiet objects n m (duplicate x o n) (duplicate x o m) (goes o n) (goes o m) (same o n)
    where
      goes : (o : Option Thing) (n : Notes) → Grows n (duplicate x o n)
      goes None n = grows_same n
      goes (Some t) n = grows_noted x.place (Duplicate x.number) n

      same : (o : Option Thing) (n : Notes) → SameLists n (duplicate x o n)
      same None n = lists_same n
      same (Some t) n = lists_noted x.place (Duplicate x.number) n

  -- what is declared so far, from notes `n` and `m`
  record DeclaredAlike (n m : Notes) (s u : Declared) : Type 0 where
    scope : s.scope ≡ u.scope
    variables : s.draft.variables ≡ u.draft.variables
    notes : NotesAlike objects n m s.draft.notes u.draft.notes
    notable : NamesAreNotable objects s.scope

  abbrev Keeps : (Declared → Name → Declared) → (Declared → Name → Declared) → Type 0
  Keeps f g = (n m : Notes) (s u : Declared) (x : Name) → DeclaredAlike n m s u → DeclaredAlike n m (f s x) (g u x)

  named_alike : (a b : Thing) → a ≡ b → IsNotable objects a → (x : Name) (n m : Notes) (s u : Declared) → DeclaredAlike n m s u → DeclaredAlike n m (named a x s) (named b x u)
  named_alike a b is there x n m s u h =
      record {
        scope = subst (λ (z : Scope). with_name s.scope x.number a ≡ with_name z x.number b) h.scope (ap (λ (t : Thing). with_name s.scope x.number t) is);
        variables = h.variables;
        notes =
            alike_on objects n m s.draft.notes u.draft.notes (named a x s).draft.notes (named b x u).draft.notes h.notes
            (subst (λ (z : Scope). Alike objects s.draft.notes u.draft.notes (named a x s).draft.notes (duplicate x (declared_in z.inner x.number) u.draft.notes)) h.scope
            (duplicate_alike x (declared_in s.scope.inner x.number) s.draft.notes u.draft.notes));
        notable = named_holds (IsNotable objects) s.scope x.number a h.notable there;
      }

  each_alike : (f g : Declared → Name → Declared) → Keeps f g → (names : List Name) (n m : Notes) (s u : Declared) → DeclaredAlike n m s u → DeclaredAlike n m (fold f s names) (fold g u names)
  each_alike f g keeps [] n m s u h = h
  each_alike f g keeps (x ∷ more) n m s u h = each_alike f g keeps more n m (f s x) (g u x) (keeps n m s u x h)

  abbrev before_variable : List (List ℕ) → Valued → Name → Declared → Declared
  before_variable texts v x s = record s { draft = with_variable texts v x s.draft }

  variable_keeps : (texts : List (List ℕ)) (v : Valued) → Keeps (variable texts v) (variable texts v)
  variable_keeps texts v n m s u x h =
      named_alike (thing.Variable (length s.draft.variables) v.subtype) (thing.Variable (length u.draft.variables) v.subtype)
      (ap (λ (l : List Variable). thing.Variable (length l) v.subtype) h.variables) tt x n m (before_variable texts v x s) (before_variable texts v x u)
      (record { scope = h.scope; variables = same_before s.draft.variables u.draft.variables _ h.variables; notes = h.notes; notable = h.notable })

  constant_keeps : (v : Valued) → IsNotable objects (constant_of v) → Keeps (constant v) (constant v)
  constant_keeps v there n m s u x h = named_alike (constant_of v) (constant_of v) refl there x n m s u h

  faulty_keeps : Keeps faulty faulty
  faulty_keeps n m s u x h = named_alike thing.Faulty thing.Faulty refl tt x n m s u h

  names_alike : (rule : Valued → Declared → Name → Declared) (p : Part Valued) → OnKept (λ (v : Valued). Keeps (rule v) (rule v)) p → (names : List Name) (n m : Notes) (s u : Declared) → DeclaredAlike n m s u
      → DeclaredAlike n m (each_of rule p names s) (each_of rule p names u)
  names_alike rule (Kept v) keeps names n m s u h = each_alike (rule v) (rule v) keeps names n m s u h
  names_alike rule Wrong keeps names n m s u h = each_alike faulty faulty faulty_keeps names n m s u h
  names_alike rule Hidden keeps names n m s u h = each_alike faulty faulty faulty_keeps names n m s u h

  -- behind the value of a declaration
  abbrev behind_value : Place → Part Valued → Notes → Declared → Declared
  behind_value place p n s = record s { draft = with_notes (closed place p n) s.draft; fine = beside s.fine (sealed (judged fine_of p)) }

  declaring_alike : (rule : Valued → Declared → Name → Declared) (place : Place) (names : List Name) (f g : Notes × Part Valued) (n m : Notes) (s u : Declared) → DeclaredAlike n m s u
      → FindsSame objects Valued s.draft.notes u.draft.notes f g → OnKept (λ (v : Valued). Keeps (rule v) (rule v)) f.1 → DeclaredAlike n m (declaring_each rule place names f s) (declaring_each rule place names g u)
  declaring_alike rule place names f g n m s u h found keeps =
      let a = behind_value place f.1 f.0 s in
      let b = behind_value place g.1 g.0 u in
      subst (λ (p : Part Valued). DeclaredAlike n m (each_of rule f.1 names a) (each_of rule p names b)) found.part
      (names_alike rule f.1 keeps names n m a b
      (record {
        scope = h.scope;
        variables = h.variables;
        notes = alike_on objects n m s.draft.notes u.draft.notes (closed place f.1 f.0) (closed place g.1 g.0) h.notes (finished_alike objects Valued place f.1 g.1 s.draft.notes u.draft.notes f.0 g.0 found.notes);
        notable = h.notable;
      }))

  every_variable : (texts : List (List ℕ)) (p : Part Valued) → OnKept (λ (v : Valued). Keeps (variable texts v) (variable texts v)) p
  every_variable texts (Kept v) = variable_keeps texts v
  every_variable texts Wrong = tt
  every_variable texts Hidden = tt

  every_constant : (p : Part Valued) → OnKept (λ (v : Valued). IsNotable objects (constant_of v)) p → OnKept (λ (v : Valued). Keeps (constant v) (constant v)) p
  every_constant (Kept v) h = constant_keeps v h
  every_constant Wrong h = tt
  every_constant Hidden h = tt

  -- the same value in the same scope, from other notes
  found_same : (texts : List (List ℕ)) (s u : Declared) (i : SubtypeIndication) (x : Option Expr) → s.scope ≡ u.scope → NamesAreNotable objects s.scope
      → FindsSame objects Valued s.draft.notes u.draft.notes (valued texts s.scope i x s.draft.notes) (valued texts u.scope i x u.draft.notes)
  found_same texts s u i x is notable =
      subst (λ (z : Scope). FindsSame objects Valued s.draft.notes u.draft.notes (valued texts s.scope i x s.draft.notes) (valued texts z i x u.draft.notes)) is
      (valued_same objects texts s.scope notable i x s.draft.notes u.draft.notes)

  declaration_alike : (texts : List (List ℕ)) (d : ProcessDeclaration) (n m : Notes) (s u : Declared) → DeclaredAlike n m s u → DeclaredAlike n m (process_declaration texts s d) (process_declaration texts u d)
  declaration_alike texts (declare.Variable place names i x) n m s u h =
      let f = valued texts s.scope i x s.draft.notes in
      let g = valued texts u.scope i x u.draft.notes in
      declaring_alike (variable texts) place names f g n m s u h (found_same texts s u i x h.scope h.notable) (every_variable texts f.1)
  declaration_alike texts (declare.Constant place names i x) n m s u h =
      let f = valued texts s.scope i (Some x) s.draft.notes in
      let g = valued texts u.scope i (Some x) u.draft.notes in
      declaring_alike constant place names f g n m s u h (found_same texts s u i (Some x) h.scope h.notable) (every_constant f.1 (constant_fits objects texts s.scope h.notable i x s.draft.notes))

  declarations_alike : (texts : List (List ℕ)) (all : List ProcessDeclaration) (n m : Notes) (s u : Declared) → DeclaredAlike n m s u
      → DeclaredAlike n m (fold (process_declaration texts) s all) (fold (process_declaration texts) u all)
  declarations_alike texts [] n m s u h = h
  declarations_alike texts (d ∷ more) n m s u h = declarations_alike texts more n m (process_declaration texts s d) (process_declaration texts u d) (declaration_alike texts d n m s u h)

  -- ---- the whole

  end_alike : (label end : Option Name) (n m : Notes) → Alike objects n m (end_name label end n) (end_name label end m)
  end_alike None None n m = alike_same objects n m
  end_alike (Some l) None n m = alike_same objects n m
  end_alike None (Some x) n m = alike_noted objects x.place WrongType n m
  end_alike (Some l) (Some x) n m = go (nat_eq l.number x.number)
    where
      go : (b : Bool) → Alike objects n m (if b then n else noted x.place WrongType n) (if b then m else noted x.place WrongType m)
      go true = alike_same objects n m
      go false = alike_noted objects x.place WrongType n m

  listened_alike : (w : Setting) (scope : Scope) (names : Option (List Expr)) (n m : Notes) → NamesAreNotable objects scope → Alike objects n m (listened w scope names n).0 (listened w scope names m).0
  listened_alike w scope None n m notable = alike_same objects n m
  listened_alike w scope (Some names) n m notable = sensitivity_alike objects w scope notable names n m

  abbrev beginning : Scope → Notes → Declared
  beginning scope n = record { scope = inside scope; draft = no_draft n; fine = Kept true }

  -- the statements behind the declarations
  statements_alike : (w : Setting) (all : List Seq) (n m : Notes) (s u : Declared) → DeclaredAlike n m s u
      → Alike objects n m (body (map (statement_of w) all) s.scope top_spot 0 s.draft).0.notes (body (map (statement_of w) all) u.scope top_spot 0 u.draft).0.notes
  statements_alike w all n m s u h =
      let a = body (map (statement_of w) all) s.scope top_spot 0 s.draft in
      let read : Drafts objects s.draft u.draft a.0 (body (map (statement_of w) all) s.scope top_spot 0 u.draft).0 = all_alike objects w all s.scope top_spot top_spot 0 s.draft u.draft h.notable h.variables in
      subst (λ (z : Scope). Alike objects n m a.0.notes (body (map (statement_of w) all) z top_spot 0 u.draft).0.notes) h.scope
      (alike_on objects n m s.draft.notes u.draft.notes a.0.notes (body (map (statement_of w) all) s.scope top_spot 0 u.draft).0.notes h.notes read.notes)

  process_alike : (w : Setting) (scope : Scope) (label : Option Name) (p : Written) (n m : Notes) → NamesAreNotable objects scope → Alike objects n m (process w scope label p n).0 (process w scope label p m).0
  process_alike w scope label p n m notable =
      let inner : NamesAreNotable objects (inside scope) = inside_holds (IsNotable objects) scope notable in
      let a = listened w (inside scope) p.sensitivity n in
      let b = listened w (inside scope) p.sensitivity m in
      let s = fold (process_declaration w.texts) (beginning scope a.0) p.declarations in
      let u = fold (process_declaration w.texts) (beginning scope b.0) p.declarations in
      let names : DeclaredAlike n m s u =
      declarations_alike w.texts p.declarations n m (beginning scope a.0) (beginning scope b.0)
      (record { scope = refl; variables = refl; notes = listened_alike w (inside scope) p.sensitivity n m inner; notable = inner }) in
      let c = body (map (statement_of w) p.body) s.scope top_spot 0 s.draft in
      let d = body (map (statement_of w) p.body) u.scope top_spot 0 u.draft in
      let made = beside s.fine (both (made_process c.0) a.1 c.1) in
      let other = beside u.fine (both (made_process d.0) b.1 d.1) in
      let on = closed p.place made c.0.notes in
      let to = closed p.place other d.0.notes in
      alike_on objects n m on to (end_name label p.end on) (end_name label p.end to)
      (finished_alike objects Process p.place made other n m c.0.notes d.0.notes (statements_alike w p.body n m s u names)) (end_alike label p.end on to)

pub concurrent_statements_note_alike : ConcurrentStatementsNoteAlike
concurrent_statements_note_alike objects w scope label (conc.Process p) n m notable = process_alike objects w scope label p n m notable
concurrent_statements_note_alike objects w scope label (conc.Assign x delay all last when) n m notable = (statements_note_alike objects w scope notable).assignment x delay all last when n m
concurrent_statements_note_alike objects w scope label (conc.Assert a) n m notable = (statements_note_alike objects w scope notable).assertion a n m
concurrent_statements_note_alike objects w scope label (conc.Break place elements names when) n m notable = (statements_note_alike objects w scope notable).break_of place elements names when n m
concurrent_statements_note_alike objects w scope label (conc.Equation q) n m notable = (statements_note_alike objects w scope notable).equation q n m
concurrent_statements_note_alike objects w scope label (conc.If place all last) n m notable = (statements_note_alike objects w scope notable).choice place all last n m
concurrent_statements_note_alike objects w scope label (conc.Case place x all) n m notable = (statements_note_alike objects w scope notable).case_of place x all n m
concurrent_statements_note_alike objects w scope label (conc.Instance i) n m notable = alike_same objects n m
