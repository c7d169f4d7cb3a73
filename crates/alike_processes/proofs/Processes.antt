-- Processes, read twice.
use Rattle.std.proofs.Common.{◌≡◌, ℕ, IsTrue, Bool, true, false, if◌then◌else◌, List, [], ◌∷◌, length, map, fold, Option, Some, None, refl, subst}
use Rattle.std.specs.Prelude.{nat_eq}
use Rattle.ams_token.specs.declared.token.Place.{Place}
use Rattle.ams_tree.specs.declared.concurrent.ConcurrentStatement.{ConcurrentStatement}
use Rattle.ams_tree.specs.declared.concurrent.ConcurrentStatement.TheVariants as conc
use Rattle.ams_tree.specs.declared.concurrent.Process.{Process as Written}
use Rattle.ams_tree.specs.declared.declaration.ProcessDeclaration.{ProcessDeclaration}
use Rattle.ams_tree.specs.declared.declaration.ProcessDeclaration.TheVariants as declare
use Rattle.ams_tree.specs.declared.expression.Expr.{Expr}
use Rattle.ams_tree.specs.declared.expression.Name.{Name}
use Rattle.flat_design.specs.declared.objects.Process.{Process}
use Rattle.name_scope.specs.declared.thing.Thing.{Thing}
use Rattle.name_scope.specs.declared.thing.Thing.TheVariants as thing
use Rattle.name_scope.specs.declared.scope.Scope.{Scope}
use Rattle.name_scope.specs.Scopes.{declared_in, inside}
use Rattle.elab_meaning.specs.declared.fault.Cause.TheVariants.{Duplicate, WrongType}
use Rattle.elab_meaning.specs.declared.fault.Notes.{Notes}
use Rattle.elab_meaning.specs.declared.part.Part.{Part}
use Rattle.elab_meaning.specs.declared.part.Part.TheVariants.{Kept, Wrong, Hidden}
use Rattle.elab_meaning.specs.declared.typed.Valued.{Valued}
use Rattle.elab_meaning.specs.Declarations.{duplicate, constant_of}
use Rattle.elab_meaning.specs.Notes.{noted}
use Rattle.elab_meaning.specs.Parts.{judged, both, closed}
use Rattle.elab_meaning.specs.Subtypes.{valued}
use Rattle.unit_meaning.specs.Settings.{Setting, sealed}
use Rattle.unit_meaning.specs.Cases.{beside}
use Rattle.unit_meaning.specs.Sequential.{with_notes, body, statement_of}
use Rattle.unit_meaning.specs.Bare.{sensitivity}
use Rattle.unit_meaning.specs.Concurrent.{concurrent}
use Rattle.unit_meaning.specs.Processes.{no_draft, top_spot, Declared, named, with_variable, fine_of, made_process, variable, constant, faulty, each_of, declaring_each, process_declaration, listened, end_name, process}
use Rattle.alike_laws.specs.Alike.{HasNoFaults, IsShown, AlikeThing, AlikeFound, AlikeScopes}
use Rattle.alike_laws.proofs.Scopes.{named_alike, inside_alike}
use Rattle.alike_books.specs.Books.{PartsFollow}
use Rattle.alike_parts.specs.Follows.{BothRead}
use Rattle.alike_parts.proofs.Follows.{Follows, none_noted, same_follows, on_follows, noted_follows, finished_follows}
use Rattle.alike_parts.proofs.Parts.{sensitivity_follows}
use Rattle.alike_parts.proofs.Statements.{each_follow}
use Rattle.alike_bodies.proofs.Bodies.{each_body_follows}
use Rattle.alike_processes.specs.Concurrent.{ConcurrentStatementsFollow}

-- ---- things

variable_alike : (natures : List ℕ) (i j : ℕ) (v w : Valued) → AlikeThing natures (thing.Variable i v.subtype) (thing.Variable j w.subtype)
variable_alike natures i j v w = record { whole = refl; label = refl; changing = λ h. h; terminal_known = tt; terminal = tt; nature_known = tt; nature = tt }

constant_alike : (natures : List ℕ) (v w : Valued) → AlikeThing natures (constant_of v) (constant_of w)
constant_alike natures v w = record { whole = refl; label = refl; changing = λ h. h; terminal_known = tt; terminal = tt; nature_known = tt; nature = tt }

no_change : (X : Type 0) → false ≡ true → X
no_change X h = cc

variable_faulty : (natures : List ℕ) (i : ℕ) (v : Valued) → AlikeThing natures (thing.Variable i v.subtype) thing.Faulty
variable_faulty natures i v = record { whole = refl; label = refl; changing = λ h. no_change _ h; terminal_known = tt; terminal = tt; nature_known = tt; nature = tt }

constant_faulty : (natures : List ℕ) (v : Valued) → AlikeThing natures (constant_of v) thing.Faulty
constant_faulty natures v = record { whole = refl; label = refl; changing = λ h. no_change _ h; terminal_known = tt; terminal = tt; nature_known = tt; nature = tt }

module _ (G : Type 0) (natures : List ℕ) where
  duplicate_follows : (x : Name) (o p : Option Thing) (n m : Notes) → (G → HasNoFaults n → AlikeFound natures o p) → Follows G n m (duplicate x o n) (duplicate x p m)
  duplicate_follows x (Some a) p n m like = noted_follows G x.place (Duplicate x.number) n m (duplicate x p m)
  duplicate_follows x None None n m like = same_follows G n m
  duplicate_follows x None (Some b) n m like = record { back = λ h. h; told = λ there h k. absurd (like there h) }

  -- what is declared so far, from notes `n` and `m`
  record DeclaredFollow (n m : Notes) (s u : Declared) : Type 0 where
    notes : Follows G n m s.draft.notes u.draft.notes
    alike : G → HasNoFaults s.draft.notes → AlikeScopes natures s.scope u.scope

  -- the names of a declaration, behind these notes
  module _ (n m : Notes) where
    abbrev Keeps : (Declared → Name → Declared) → (Declared → Name → Declared) → Type 0
    Keeps f g = (s u : Declared) (x : Name) → DeclaredFollow n m s u → DeclaredFollow n m (f s x) (g u x)

    named_follows : (a b : Thing) (x : Name) (s u : Declared) → (G → HasNoFaults n → AlikeThing natures a b) → DeclaredFollow n m s u → DeclaredFollow n m (named a x s) (named b x u)
    named_follows a b x s u like h =
        let step : Follows G s.draft.notes u.draft.notes (named a x s).draft.notes (named b x u).draft.notes =
        duplicate_follows x (declared_in s.scope.inner x.number) (declared_in u.scope.inner x.number) s.draft.notes u.draft.notes (λ there k. (h.alike there k).inner x.number) in
        record {
          notes = on_follows G n m s.draft.notes u.draft.notes (named a x s).draft.notes (named b x u).draft.notes h.notes step;
          alike = λ there k. named_alike natures s.scope u.scope x.number a b (h.alike there (step.back k)) (like there (h.notes.back (step.back k)));
        }

    each_follows : (f g : Declared → Name → Declared) → Keeps f g → (names : List Name) (s u : Declared) → DeclaredFollow n m s u → DeclaredFollow n m (fold f s names) (fold g u names)
    each_follows f g keeps [] s u h = h
    each_follows f g keeps (x ∷ more) s u h = each_follows f g keeps more (f s x) (g u x) (keeps s u x h)

    -- where the second declaration may be a broken one, and the first may only where it noted a fault
    record RuleFollows (rule : Valued → Declared → Name → Declared) : Type 0 where
      whole : (v w : Valued) → Keeps (rule v) (rule w)
      broken : (v : Valued) → Keeps (rule v) faulty
      never : (w : Valued) → (G → HasNoFaults n → ⊥) → Keeps faulty (rule w)

    faulty_follows : (G → HasNoFaults n → ⊥) → Keeps faulty faulty
    faulty_follows never s u x h = named_follows thing.Faulty thing.Faulty x s u (λ there k. absurd (never there k)) h

    abbrev NotHidden : Part Valued → Type 0
    NotHidden (Kept v) = Unit {0}
    NotHidden part = G → HasNoFaults n → ⊥

    names_follow : (rule : Valued → Declared → Name → Declared) → RuleFollows rule → (p q : Part Valued) → NotHidden p → (names : List Name) (s u : Declared) → DeclaredFollow n m s u
        → DeclaredFollow n m (each_of rule p names s) (each_of rule q names u)
    names_follow rule keeps (Kept v) (Kept w) shown names s u h = each_follows (rule v) (rule w) (keeps.whole v w) names s u h
    names_follow rule keeps (Kept v) Wrong shown names s u h = each_follows (rule v) faulty (keeps.broken v) names s u h
    names_follow rule keeps (Kept v) Hidden shown names s u h = each_follows (rule v) faulty (keeps.broken v) names s u h
    names_follow rule keeps Wrong (Kept w) never names s u h = each_follows faulty (rule w) (keeps.never w never) names s u h
    names_follow rule keeps Wrong Wrong never names s u h = each_follows faulty faulty (faulty_follows never) names s u h
    names_follow rule keeps Wrong Hidden never names s u h = each_follows faulty faulty (faulty_follows never) names s u h
    names_follow rule keeps Hidden (Kept w) never names s u h = each_follows faulty (rule w) (keeps.never w never) names s u h
    names_follow rule keeps Hidden Wrong never names s u h = each_follows faulty faulty (faulty_follows never) names s u h
    names_follow rule keeps Hidden Hidden never names s u h = each_follows faulty faulty (faulty_follows never) names s u h

    variables_follow : (texts : List (List ℕ)) → RuleFollows (variable texts)
    variables_follow texts =
        record {
          whole = λ v w s u x h.
              named_follows (thing.Variable (length s.draft.variables) v.subtype) (thing.Variable (length u.draft.variables) w.subtype) x
              (record s { draft = with_variable texts v x s.draft }) (record u { draft = with_variable texts w x u.draft })
              (λ there k. variable_alike natures (length s.draft.variables) (length u.draft.variables) v w) (record { notes = h.notes; alike = h.alike });
          broken = λ v s u x h.
              named_follows (thing.Variable (length s.draft.variables) v.subtype) thing.Faulty x (record s { draft = with_variable texts v x s.draft }) u
              (λ there k. variable_faulty natures (length s.draft.variables) v) (record { notes = h.notes; alike = h.alike });
          never = λ w noted s u x h.
              named_follows thing.Faulty (thing.Variable (length u.draft.variables) w.subtype) x s (record u { draft = with_variable texts w x u.draft })
              (λ there k. absurd (noted there k)) (record { notes = h.notes; alike = h.alike });
        }

    constants_follow : RuleFollows constant
    constants_follow =
        record {
          whole = λ v w s u x h. named_follows (constant_of v) (constant_of w) x s u (λ there k. constant_alike natures v w) h;
          broken = λ v s u x h. named_follows (constant_of v) thing.Faulty x s u (λ there k. constant_faulty natures v) h;
          never = λ w noted s u x h. named_follows thing.Faulty (constant_of w) x s u (λ there k. absurd (noted there k)) h;
        }

  -- behind the value of a declaration
  abbrev behind_value : Place → Part Valued → Notes → Declared → Declared
  behind_value place p n s = record s { draft = with_notes (closed place p n) s.draft; fine = beside s.fine (sealed (judged fine_of p)) }

  shown : (place : Place) (p : Part Valued) (a : Notes) (m : Notes) → (G → HasNoFaults a → IsShown p) → NotHidden (closed place p a) m p
  shown place (Kept v) a m h = tt
  shown place Wrong a m h = λ there k. none_noted ⊥ place WrongType a k
  shown place Hidden a m h = λ there k. h there k

  declaring_follows : (rule : Valued → Declared → Name → Declared) → ((n m : Notes) → RuleFollows n m rule) → (place : Place) (names : List Name) (f g : Notes × Part Valued) (n m : Notes) (s u : Declared)
      → DeclaredFollow n m s u → Follows G s.draft.notes u.draft.notes f.0 g.0 → (G → HasNoFaults f.0 → IsShown f.1) → DeclaredFollow n m (declaring_each rule place names f s) (declaring_each rule place names g u)
  declaring_follows rule keeps place names f g n m s u h reads fine =
      let a = closed place f.1 f.0 in
      let b = closed place g.1 g.0 in
      let step : Follows G s.draft.notes u.draft.notes a b = finished_follows G Valued place f.1 g.1 s.draft.notes u.draft.notes f.0 g.0 reads in
      let inner : DeclaredFollow a b (declaring_each rule place names f s) (declaring_each rule place names g u) =
      names_follow a b rule (keeps a b) f.1 g.1 (shown place f.1 f.0 b fine) names (behind_value place f.1 f.0 s) (behind_value place g.1 g.0 u)
      (record { notes = same_follows G a b; alike = λ there k. h.alike there (step.back k) }) in
      record {
        notes =
            on_follows G n m a b (declaring_each rule place names f s).draft.notes (declaring_each rule place names g u).draft.notes
            (on_follows G n m s.draft.notes u.draft.notes a b h.notes step) inner.notes;
        alike = inner.alike;
      }

  module _ (parts : PartsFollow) (texts : List (List ℕ)) where
    value_follows : (s u : Declared) (i : _) (x : Option Expr) (n m : Notes) → DeclaredFollow n m s u
        → Follows G s.draft.notes u.draft.notes (valued texts s.scope i x s.draft.notes).0 (valued texts u.scope i x u.draft.notes).0
    value_follows s u i x n m h =
        let back : HasNoFaults (valued texts s.scope i x s.draft.notes).0 → HasNoFaults s.draft.notes =
        λ k. parts.grow texts s.scope i x s.draft.notes k in
        record { back = back; told = λ there k. (parts.values natures s.scope u.scope (h.alike there (back k)) texts i x s.draft.notes u.draft.notes).notes.told k }

    value_shown : (s u : Declared) (i : _) (x : Option Expr) (n m : Notes) → DeclaredFollow n m s u
        → G → HasNoFaults (valued texts s.scope i x s.draft.notes).0 → IsShown (valued texts s.scope i x s.draft.notes).1
    value_shown s u i x n m h there k =
        (parts.values natures s.scope u.scope (h.alike there (parts.grow texts s.scope i x s.draft.notes k))
        texts i x s.draft.notes u.draft.notes).right k

    declaration_follows : (d : ProcessDeclaration) (n m : Notes) (s u : Declared) → DeclaredFollow n m s u → DeclaredFollow n m (process_declaration texts s d) (process_declaration texts u d)
    declaration_follows (declare.Variable place names i x) n m s u h =
        declaring_follows (variable texts) (λ a b. variables_follow a b texts) place names (valued texts s.scope i x s.draft.notes) (valued texts u.scope i x u.draft.notes) n m s u h
        (value_follows s u i x n m h) (value_shown s u i x n m h)
    declaration_follows (declare.Constant place names i x) n m s u h =
        declaring_follows constant constants_follow place names (valued texts s.scope i (Some x) s.draft.notes) (valued texts u.scope i (Some x) u.draft.notes) n m s u h
        (value_follows s u i (Some x) n m h) (value_shown s u i (Some x) n m h)

    declarations_follow : (all : List ProcessDeclaration) (n m : Notes) (s u : Declared) → DeclaredFollow n m s u
        → DeclaredFollow n m (fold (process_declaration texts) s all) (fold (process_declaration texts) u all)
    declarations_follow [] n m s u h = h
    declarations_follow (d ∷ more) n m s u h = declarations_follow more n m (process_declaration texts s d) (process_declaration texts u d) (declaration_follows d n m s u h)

  -- ---- the whole

  end_follows : (label end : Option Name) (n m : Notes) → Follows G n m (end_name label end n) (end_name label end m)
  end_follows None None n m = same_follows G n m
  end_follows (Some l) None n m = same_follows G n m
  end_follows None (Some x) n m = noted_follows G x.place WrongType n m (noted x.place WrongType m)
  end_follows (Some l) (Some x) n m = go (nat_eq l.number x.number)
    where
      go : (b : Bool) → Follows G n m (if b then n else noted x.place WrongType n) (if b then m else noted x.place WrongType m)
      go true = same_follows G n m
      go false = noted_follows G x.place WrongType n m (noted x.place WrongType m)

abbrev beginning : Scope → Notes → Declared
beginning scope n = record { scope = inside scope; draft = no_draft n; fine = Kept true }

module _ (G : Type 0) (natures : List ℕ) (v w : Setting) (c i : Scope) (premise : BothRead G natures v w c i) (parts : PartsFollow) where
  inner_alike : G → AlikeScopes natures (inside c) (inside i)
  inner_alike there = inside_alike natures c i (premise.alike there)

  abbrev inner_read : BothRead G natures v w (inside c) (inside i)
  inner_read = record { reads = premise.reads; statics = premise.statics; texts = premise.texts; alike = inner_alike }

  listened_follows : (names : Option (List Expr)) (n m : Notes) → Follows G n m (listened v (inside c) names n).0 (listened w (inside i) names m).0
  listened_follows None n m = same_follows G n m
  listened_follows (Some names) n m = sensitivity_follows G natures v w (inside c) (inside i) inner_read names n m

  process_follows : (label : Option Name) (p : Written) (n m : Notes) → Follows G n m (process v c label p n).0 (process w i label p m).0
  process_follows label p n m =
      let a = listened v (inside c) p.sensitivity n in
      let b = listened w (inside i) p.sensitivity m in
      let s = fold (process_declaration v.texts) (beginning c a.0) p.declarations in
      let u = fold (process_declaration w.texts) (beginning i b.0) p.declarations in
      let start : DeclaredFollow G natures n m (beginning c a.0) (beginning i b.0) =
      record { notes = listened_follows p.sensitivity n m; alike = λ there k. inner_alike there } in
      let names : DeclaredFollow G natures n m s u =
      subst (λ (texts : List (List ℕ)). DeclaredFollow G natures n m s (fold (process_declaration texts) (beginning i b.0) p.declarations)) premise.texts
      (declarations_follow G natures parts v.texts p.declarations n m (beginning c a.0) (beginning i b.0) start) in
      let e = body (map (statement_of v) p.body) s.scope top_spot 0 s.draft in
      let f = body (map (statement_of w) p.body) u.scope top_spot 0 u.draft in
      let made = beside s.fine (both (made_process e.0) a.1 e.1) in
      let other = beside u.fine (both (made_process f.0) b.1 f.1) in
      let on = closed p.place made e.0.notes in
      let to = closed p.place other f.0.notes in
      let read : Follows (G × HasNoFaults s.draft.notes) s.draft.notes u.draft.notes e.0.notes f.0.notes =
      each_body_follows (G × HasNoFaults s.draft.notes) natures v w s.scope u.scope
      (record { reads = premise.reads; statics = premise.statics; texts = premise.texts; alike = λ both. names.alike both.0 both.1 }) p.body top_spot top_spot 0 s.draft u.draft in
      let behind : Follows G s.draft.notes u.draft.notes e.0.notes f.0.notes = record { back = read.back; told = λ there h k. read.told (there, read.back h) h k } in
      on_follows G n m on to (end_name label p.end on) (end_name label p.end to)
      (finished_follows G Process p.place made other n m e.0.notes f.0.notes (on_follows G n m s.draft.notes u.draft.notes e.0.notes f.0.notes names.notes behind))
      (end_follows G natures label p.end on to)

pub each_statement_follows : (G : Type 0) (natures : List ℕ) (v w : Setting) (c i : Scope) → BothRead G natures v w c i → PartsFollow → (label : Option Name) (x : ConcurrentStatement) (n m : Notes)
    → Follows G n m (concurrent v c label x n).0 (concurrent w i label x m).0
each_statement_follows G natures v w c i premise parts label (conc.Process p) n m = process_follows G natures v w c i premise parts label p n m
each_statement_follows G natures v w c i premise parts label (conc.Assign x delay all last when) n m = (each_follow G natures v w c i premise).assignment x delay all last when n m
each_statement_follows G natures v w c i premise parts label (conc.Assert a) n m = (each_follow G natures v w c i premise).assertion a n m
each_statement_follows G natures v w c i premise parts label (conc.Break place elements names when) n m = (each_follow G natures v w c i premise).break_of place elements names when n m
each_statement_follows G natures v w c i premise parts label (conc.Equation q) n m = (each_follow G natures v w c i premise).equation q n m
each_statement_follows G natures v w c i premise parts label (conc.If place all last) n m = (each_follow G natures v w c i premise).choice place all last n m
each_statement_follows G natures v w c i premise parts label (conc.Case place x all) n m = (each_follow G natures v w c i premise).case_of place x all n m
each_statement_follows G natures v w c i premise parts label (conc.Instance x) n m = same_follows G n m

pub concurrent_statements_follow : ConcurrentStatementsFollow
concurrent_statements_follow b natures v w c i premise parts label x n m = each_statement_follows (IsTrue b) natures v w c i premise parts label x n m
