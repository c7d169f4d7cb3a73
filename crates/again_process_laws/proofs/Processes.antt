-- Processes, read twice.
use Rattle.std.proofs.Common.{◌≡◌, ℕ, Bool, true, false, if◌then◌else◌, List, [], ◌∷◌, ◌++◌, length, map, fold, Option, Some, None, refl, ap, subst}
use Rattle.std.specs.Prelude.{nat_eq}
use Rattle.ams_token.specs.declared.token.Place.{Place}
use Rattle.ams_tree.specs.declared.concurrent.Process.{Process as Written}
use Rattle.ams_tree.specs.declared.declaration.ProcessDeclaration.{ProcessDeclaration}
use Rattle.ams_tree.specs.declared.declaration.ProcessDeclaration.TheVariants as declare
use Rattle.ams_tree.specs.declared.declaration.SubtypeIndication.{SubtypeIndication}
use Rattle.ams_tree.specs.declared.expression.Expr.{Expr}
use Rattle.ams_tree.specs.declared.expression.Name.{Name}
use Rattle.flat_design.specs.declared.objects.Process.{Process}
use Rattle.flat_design.specs.declared.objects.Variable.{Variable}
use Rattle.name_scope.specs.declared.thing.Thing.{Thing}
use Rattle.name_scope.specs.declared.thing.Thing.TheVariants as thing
use Rattle.name_scope.specs.declared.scope.Scope.{Scope}
use Rattle.name_scope.specs.Scopes.{declared_in, inside, with_name}
use Rattle.elab_meaning.specs.declared.fault.Cause.TheVariants.{Duplicate, WrongType}
use Rattle.elab_meaning.specs.declared.fault.Notes.{Notes}
use Rattle.elab_meaning.specs.declared.part.Part.{Part}
use Rattle.elab_meaning.specs.declared.part.Part.TheVariants.{Kept, Wrong, Hidden}
use Rattle.elab_meaning.specs.declared.typed.Valued.{Valued}
use Rattle.elab_meaning.specs.Declarations.{duplicate, constant_of}
use Rattle.elab_meaning.specs.Notes.{noted}
use Rattle.elab_meaning.specs.Parts.{judged, both, closed}
use Rattle.elab_meaning.specs.Subtypes.{valued}
use Rattle.unit_meaning.specs.Settings.{Setting, sealed}
use Rattle.unit_meaning.specs.Cases.{beside}
use Rattle.unit_meaning.specs.Sequential.{with_notes, body, statement_of}
use Rattle.unit_meaning.specs.Bare.{sensitivity}
use Rattle.unit_meaning.specs.Processes.{no_draft, top_spot, Declared, named, with_variable, fine_of, made_process, variable, constant, faulty, each_of, declaring_each, process_declaration, listened, end_name, process}
use Rattle.again_laws.specs.Again.{BreaksAlike}
use Rattle.again_laws.proofs.Breaks.{breaks_same, breaks_noted, breaks_on}
use Rattle.again_part_laws.proofs.Like.{Any, Formed, like_self, judged_like, both_like, breaks_closed, ReadsAs}
use Rattle.again_part_laws.proofs.Parts.{sensitivity_as}
use Rattle.again_body_laws.proofs.Leaves.{DraftsAs}
use Rattle.again_body_laws.proofs.Bodies.{all_as}
use Rattle.again_process_laws.proofs.Values.{FindsSame, valued_same}
use Rattle.flat_expr.specs.declared.expr.SignalName.{SignalName}
use Rattle.flat_expr.specs.declared.statement.Statement.{Statement}
use Rattle.unit_meaning.specs.declared.draft.Draft.{Draft}

duplicate_again : (x : Name) (o : Option Thing) (n m : Notes) → BreaksAlike n m (duplicate x o n) (duplicate x o m)
duplicate_again x None n m = breaks_same n m
duplicate_again x (Some t) n m = breaks_noted x.place (Duplicate x.number) n m

-- what is declared so far, from notes `n` and `m`
record DeclaredAs (n m : Notes) (s u : Declared) : Type 0 where
  scope : s.scope ≡ u.scope
  variables : s.draft.variables ≡ u.draft.variables
  breaks : BreaksAlike n m s.draft.notes u.draft.notes
  fine : s.fine ≡ u.fine

abbrev Keeps : (Declared → Name → Declared) → Type 0
Keeps f = (n m : Notes) (s u : Declared) (x : Name) → DeclaredAs n m s u → DeclaredAs n m (f s x) (f u x)

named_as : (a b : Thing) → a ≡ b → (x : Name) (n m : Notes) (s u : Declared) → DeclaredAs n m s u → DeclaredAs n m (named a x s) (named b x u)
named_as a b is x n m s u h =
    record {
      scope = subst (λ (z : Scope). with_name s.scope x.number a ≡ with_name z x.number b) h.scope (ap (λ (t : Thing). with_name s.scope x.number t) is);
      variables = h.variables;
      breaks =
          breaks_on n m s.draft.notes u.draft.notes (named a x s).draft.notes (named b x u).draft.notes h.breaks
          (subst (λ (z : Scope). BreaksAlike s.draft.notes u.draft.notes (named a x s).draft.notes (duplicate x (declared_in z.inner x.number) u.draft.notes)) h.scope
          (duplicate_again x (declared_in s.scope.inner x.number) s.draft.notes u.draft.notes));
      fine = h.fine;
    }

each_as : (f : Declared → Name → Declared) → Keeps f → (names : List Name) (n m : Notes) (s u : Declared) → DeclaredAs n m s u → DeclaredAs n m (fold f s names) (fold f u names)
each_as f keeps [] n m s u h = h
each_as f keeps (x ∷ more) n m s u h = each_as f keeps more n m (f s x) (f u x) (keeps n m s u x h)

same_before : (xs ys more : List Variable) → xs ≡ ys → xs ++ more ≡ ys ++ more
same_before xs ys more is = ap (λ (l : List Variable). l ++ more) is

abbrev before_variable : List (List ℕ) → Valued → Name → Declared → Declared
before_variable texts v x s = record s { draft = with_variable texts v x s.draft }

variable_keeps : (texts : List (List ℕ)) (v : Valued) → Keeps (variable texts v)
variable_keeps texts v n m s u x h =
    named_as (thing.Variable (length s.draft.variables) v.subtype) (thing.Variable (length u.draft.variables) v.subtype)
    (ap (λ (l : List Variable). thing.Variable (length l) v.subtype) h.variables) x n m (before_variable texts v x s) (before_variable texts v x u)
    (record { scope = h.scope; variables = same_before s.draft.variables u.draft.variables _ h.variables; breaks = h.breaks; fine = h.fine })

constant_keeps : (v : Valued) → Keeps (constant v)
constant_keeps v n m s u x h = named_as (constant_of v) (constant_of v) refl x n m s u h

faulty_keeps : Keeps faulty
faulty_keeps n m s u x h = named_as thing.Faulty thing.Faulty refl x n m s u h

names_as : (rule : Valued → Declared → Name → Declared) → ((v : Valued) → Keeps (rule v)) → (p : Part Valued) (names : List Name) (n m : Notes) (s u : Declared) → DeclaredAs n m s u
    → DeclaredAs n m (each_of rule p names s) (each_of rule p names u)
names_as rule keeps (Kept v) names n m s u h = each_as (rule v) (keeps v) names n m s u h
names_as rule keeps Wrong names n m s u h = each_as faulty faulty_keeps names n m s u h
names_as rule keeps Hidden names n m s u h = each_as faulty faulty_keeps names n m s u h

-- behind the value of a declaration
abbrev behind_value : Place → Part Valued → Notes → Declared → Declared
behind_value place p n s = record s { draft = with_notes (closed place p n) s.draft; fine = beside s.fine (sealed (judged fine_of p)) }

declaring_as : (rule : Valued → Declared → Name → Declared) → ((v : Valued) → Keeps (rule v)) → (place : Place) (names : List Name) (f g : Notes × Part Valued) (n m : Notes) (s u : Declared) → DeclaredAs n m s u
    → FindsSame Valued s.draft.notes u.draft.notes f g → DeclaredAs n m (declaring_each rule place names f s) (declaring_each rule place names g u)
declaring_as rule keeps place names f g n m s u h found =
    let a = behind_value place f.1 f.0 s in
    let b = behind_value place f.1 g.0 u in
    subst (λ (p : Part Valued). DeclaredAs n m (each_of rule f.1 names a) (each_of rule p names (behind_value place p g.0 u))) found.part
    (names_as rule keeps f.1 names n m a b
    (record {
      scope = h.scope;
      variables = h.variables;
      breaks =
          breaks_on n m s.draft.notes u.draft.notes (closed place f.1 f.0) (closed place f.1 g.0) h.breaks
          (breaks_on s.draft.notes u.draft.notes f.0 g.0 (closed place f.1 f.0) (closed place f.1 g.0) found.breaks
          (breaks_closed Valued (Any Valued) place f.1 f.1 (like_self Valued (Any Valued) (λ z. tt) f.1) f.0 g.0));
      fine = ap (λ (z : Part Bool). beside z (sealed (judged fine_of f.1))) h.fine;
    }))

-- the same value in the same scope, from other notes
found_same : (texts : List (List ℕ)) (s u : Declared) (i : SubtypeIndication) (x : Option Expr) → s.scope ≡ u.scope
    → FindsSame Valued s.draft.notes u.draft.notes (valued texts s.scope i x s.draft.notes) (valued texts u.scope i x u.draft.notes)
found_same texts s u i x is =
    subst (λ (z : Scope). FindsSame Valued s.draft.notes u.draft.notes (valued texts s.scope i x s.draft.notes) (valued texts z i x u.draft.notes)) is
    (valued_same texts s.scope i x s.draft.notes u.draft.notes)

declaration_as : (texts : List (List ℕ)) (d : ProcessDeclaration) (n m : Notes) (s u : Declared) → DeclaredAs n m s u → DeclaredAs n m (process_declaration texts s d) (process_declaration texts u d)
declaration_as texts (declare.Variable place names i x) n m s u h =
    declaring_as (variable texts) (variable_keeps texts) place names (valued texts s.scope i x s.draft.notes) (valued texts u.scope i x u.draft.notes) n m s u h (found_same texts s u i x h.scope)
declaration_as texts (declare.Constant place names i x) n m s u h =
    declaring_as constant constant_keeps place names (valued texts s.scope i (Some x) s.draft.notes) (valued texts u.scope i (Some x) u.draft.notes) n m s u h (found_same texts s u i (Some x) h.scope)

declarations_as : (texts : List (List ℕ)) (all : List ProcessDeclaration) (n m : Notes) (s u : Declared) → DeclaredAs n m s u
    → DeclaredAs n m (fold (process_declaration texts) s all) (fold (process_declaration texts) u all)
declarations_as texts [] n m s u h = h
declarations_as texts (d ∷ more) n m s u h = declarations_as texts more n m (process_declaration texts s d) (process_declaration texts u d) (declaration_as texts d n m s u h)

-- ---- the whole

end_again : (label end : Option Name) (n m : Notes) → BreaksAlike n m (end_name label end n) (end_name label end m)
end_again None None n m = breaks_same n m
end_again (Some l) None n m = breaks_same n m
end_again None (Some x) n m = breaks_noted x.place WrongType n m
end_again (Some l) (Some x) n m = go (nat_eq l.number x.number)
  where
    go : (b : Bool) → BreaksAlike n m (if b then n else noted x.place WrongType n) (if b then m else noted x.place WrongType m)
    go true = breaks_same n m
    go false = breaks_noted x.place WrongType n m

listened_as : (w : Setting) (scope : Scope) (names : Option (List Expr)) (n m : Notes)
    → ReadsAs (Option (List SignalName)) (Any (Option (List SignalName))) n m (listened w scope names n) (listened w scope names m)
listened_as w scope None n m = record { breaks = breaks_same n m; like = tt }
listened_as w scope (Some names) n m =
    let read : ReadsAs (List SignalName) (Any (List SignalName)) n m (sensitivity w scope names n) (sensitivity w scope names m) = sensitivity_as w scope names n m in
    record {
      breaks = read.breaks;
      like = some_like (sensitivity w scope names n).1 (sensitivity w scope names m).1 read.like;
    }
  where
    some_signals : List SignalName → Part (Option (List SignalName))
    some_signals all = Kept (Some all)

    some_like : (p q : Part (List SignalName)) → Formed (List SignalName) p q → Formed (Option (List SignalName)) (judged some_signals p) (judged some_signals q)
    some_like p q h = judged_like (List SignalName) (Option (List SignalName)) (Any (List SignalName)) (Any (Option (List SignalName))) some_signals some_signals (λ a b k. tt) p q h

made_formed : (d e : Draft) (a c : Option (List SignalName)) (b f : List Statement) → Formed Process (made_process d a b) (made_process e c f)
made_formed d e (Some a) (Some c) b f = tt
made_formed d e None None b f = tt
made_formed d e (Some a) None b f = tt
made_formed d e None (Some c) b f = tt

beside_like : (A B : Type 0) (p : Part A) (q r : Part B) → Formed B q r → Formed B (beside p q) (beside p r)
beside_like A B (Kept a) q r h = h
beside_like A B Wrong (Kept a) (Kept b) h = tt
beside_like A B Wrong Wrong Wrong h = tt
beside_like A B Wrong Hidden Hidden h = tt
beside_like A B Wrong (Kept a) Wrong h = absurd h
beside_like A B Wrong (Kept a) Hidden h = absurd h
beside_like A B Wrong Wrong (Kept b) h = absurd h
beside_like A B Wrong Wrong Hidden h = absurd h
beside_like A B Wrong Hidden (Kept b) h = absurd h
beside_like A B Wrong Hidden Wrong h = absurd h
beside_like A B Hidden q r h = tt

abbrev beginning : Scope → Notes → Declared
beginning scope n = record { scope = inside scope; draft = no_draft n; fine = Kept true }

pub process_again : (w : Setting) (scope : Scope) (label : Option Name) (p : Written) (n m : Notes) → BreaksAlike n m (process w scope label p n).0 (process w scope label p m).0
process_again w scope label p n m =
    let a = listened w (inside scope) p.sensitivity n in
    let b = listened w (inside scope) p.sensitivity m in
    let s = fold (process_declaration w.texts) (beginning scope a.0) p.declarations in
    let u = fold (process_declaration w.texts) (beginning scope b.0) p.declarations in
    let first : ReadsAs (Option (List SignalName)) (Any (Option (List SignalName))) n m a b = listened_as w (inside scope) p.sensitivity n m in
    let names : DeclaredAs n m s u =
    declarations_as w.texts p.declarations n m (beginning scope a.0) (beginning scope b.0) (record { scope = refl; variables = refl; breaks = first.breaks; fine = refl }) in
    let c = body (map (statement_of w) p.body) s.scope top_spot 0 s.draft in
    let d = body (map (statement_of w) p.body) u.scope top_spot 0 u.draft in
    let read : DraftsAs (List Statement) s.draft u.draft c d =
    subst (λ (z : Scope). DraftsAs (List Statement) s.draft u.draft c (body (map (statement_of w) p.body) z top_spot 0 u.draft)) names.scope
    (all_as w p.body s.scope top_spot 0 s.draft u.draft names.variables) in
    let made = beside s.fine (both (made_process c.0) a.1 c.1) in
    let other = beside u.fine (both (made_process d.0) b.1 d.1) in
    let like : Formed Process made other =
    subst (λ (z : Part Bool). Formed Process made (beside z (both (made_process d.0) b.1 d.1))) names.fine
    (beside_like Bool Process s.fine (both (made_process c.0) a.1 c.1) (both (made_process d.0) b.1 d.1)
    (both_like (Option (List SignalName)) (List Statement) Process (Any (Option (List SignalName))) (Any (List Statement)) (Any Process) (made_process c.0) (made_process d.0)
    (λ x y z v h k. made_formed c.0 d.0 x y z v) a.1 b.1 c.1 d.1 first.like read.like)) in
    let on = closed p.place made c.0.notes in
    let to = closed p.place other d.0.notes in
    breaks_on n m on to (end_name label p.end on) (end_name label p.end to)
    (breaks_on n m c.0.notes d.0.notes on to (breaks_on n m s.draft.notes u.draft.notes c.0.notes d.0.notes names.breaks read.breaks)
    (breaks_closed Process (Any Process) p.place made other like c.0.notes d.0.notes))
    (end_again label p.end on to)
