-- The declarations of a process.
use Rattle.std.proofs.Common.{◌≡◌, ℕ, zero, suc, arith, inl, Bool, true, false, List, [], ◌∷◌, ◌++◌, length, Option, Some, None, IfSome, refl, sym, ◌∙◌, subst}
use Rattle.std.specs.List.{All, fold, slice_get}
use Rattle.std.proofs.lemmas.List.Elements.{All-append}
use Rattle.ams_token.specs.declared.token.Place.{Place}
use Rattle.ams_tree.specs.declared.declaration.ProcessDeclaration.{ProcessDeclaration}
use Rattle.ams_tree.specs.declared.declaration.ProcessDeclaration.TheVariants as declare
use Rattle.ams_tree.specs.declared.expression.Name.{Name}
use Rattle.ams_value.specs.declared.val.Val.{Val}
use Rattle.ams_value.specs.declared.value_type.ValueType.{ValueType}
use Rattle.flat_design.specs.declared.objects.Objects.{Objects}
use Rattle.flat_design.specs.declared.objects.Process.{Process}
use Rattle.flat_design.specs.declared.objects.Variable.{Variable}
use Rattle.name_scope.specs.declared.scope.Scope.{Scope}
use Rattle.name_scope.specs.declared.thing.Kind.{Kind}
use Rattle.name_scope.specs.declared.thing.Kind.TheVariants.{Of, Vector}
use Rattle.name_scope.specs.declared.thing.Thing.{Thing}
use Rattle.name_scope.specs.declared.thing.Thing.TheVariants as thing
use Rattle.name_scope.specs.Scopes.{declared_in, visible, or_in, among, with_name}
use Rattle.elab_meaning.specs.declared.fault.Cause.TheVariants.{Duplicate}
use Rattle.elab_meaning.specs.declared.fault.Fault.{Fault}
use Rattle.elab_meaning.specs.declared.fault.Notes.{Notes}
use Rattle.elab_meaning.specs.declared.part.Part.{Part}
use Rattle.elab_meaning.specs.declared.part.Part.TheVariants.{Kept, Wrong, Hidden}
use Rattle.elab_meaning.specs.declared.typed.Valued.{Valued}
use Rattle.elab_meaning.specs.Declarations.{duplicate, constant_value, range_part, value_or_leftmost}
use Rattle.elab_meaning.specs.Kinds.{value_type}
use Rattle.elab_meaning.specs.Notes.{text_of}
use Rattle.elab_meaning.specs.Parts.{closed}
use Rattle.elab_meaning.specs.Subtypes.{valued}
use Rattle.unit_meaning.specs.Settings.{Setting}
use Rattle.unit_meaning.specs.Processes.{Declared, named, variable, constant, faulty, each_of, declaring_each, process_declaration}
use Rattle.design_meaning.specs.Typed.{IsOfType}
use Rattle.design_rules.specs.Types.{sizes_of, process_scope}
use Rattle.design_rules.specs.Design.{IsVariable}
use Rattle.reading_laws.specs.Growing.{Extends, Grows}
use Rattle.reading_laws.proofs.Growing.{grows_same, grows_on, grows_noted}
use Rattle.typed_laws.specs.Fitting.{FitsValue, FitsKind}
use Rattle.part_laws.specs.Parts.{OnKept}
use Rattle.scope_laws.specs.Holds.{HasNoFaults}
use Rattle.scope_laws.specs.Laws.{ThingHolds}
use Rattle.scope_laws.proofs.Names.{with_one, named_holds}
use Rattle.scope_laws.proofs.Scopes.{scopes_hold}
use Rattle.draft_laws.proofs.Notes.{grows_closed}
use Rattle.draft_laws.proofs.Drafts.{extends_same, extends_one, extends_on}
use Rattle.allowed_laws.specs.Simple.{IsSelectorAt}
use Rattle.allowed_laws.proofs.Targets.{kind_at}
use Rattle.body_laws.specs.Bodies.{Keeps, ScopeStands}
use Rattle.body_laws.proofs.Lists.{end_at}
use Rattle.made_laws.specs.Made.{DeclaredFits, ValuesFit}

-- ---- what is declared only grows

pub record Grown (a b : Declared) : Type 0 where
  pub notes : Grows a.draft.notes b.draft.notes
  pub variables : Extends Variable a.draft.variables b.draft.variables
  pub drivers : b.draft.drivers ≡ a.draft.drivers

grown_same : (s : Declared) → Grown s s
grown_same s = record { notes = grows_same s.draft.notes; variables = extends_same Variable s.draft.variables; drivers = refl }

grown_on : (a b c : Declared) → Grown a b → Grown b c → Grown a c
grown_on a b c p q =
    record {
      notes = grows_on a.draft.notes b.draft.notes c.draft.notes p.notes q.notes;
      variables = extends_on Variable a.draft.variables b.draft.variables c.draft.variables p.variables q.variables;
      drivers = q.drivers ∙ p.drivers;
    }

grows_duplicate : (x : Name) (o : Option Thing) (n : Notes) → Grows n (duplicate x o n)
grows_duplicate x None n = grows_same n
grows_duplicate x (Some t) n = grows_noted x.place (Duplicate x.number) n

named_grown : (t : Thing) (x : Name) (s : Declared) → Grown s (named t x s)
named_grown t x s =
    record { notes = grows_duplicate x (declared_in s.scope.inner x.number) s.draft.notes; variables = extends_same Variable s.draft.variables; drivers = refl }

variable_grown : (texts : List (List ℕ)) (v : Valued) (s : Declared) (x : Name) → Grown s (variable texts v s x)
variable_grown texts v s x =
    record { notes = grows_duplicate x (declared_in s.scope.inner x.number) s.draft.notes; variables = extends_one Variable s.draft.variables _; drivers = refl }

constant_grown : (v : Valued) (s : Declared) (x : Name) → Grown s (constant v s x)
constant_grown v s x = named_grown _ x s

faulty_grown : (s : Declared) (x : Name) → Grown s (faulty s x)
faulty_grown s x = named_grown thing.Faulty x s

pub fold_grown : (B : Type 0) (f : Declared → B → Declared) → ((s : Declared) (x : B) → Grown s (f s x)) → (xs : List B) (s : Declared) → Grown s (fold f s xs)
fold_grown B f h [] s = grown_same s
fold_grown B f h (x ∷ xs) s = grown_on s (f s x) (fold f (f s x) xs) (h s x) (fold_grown B f h xs (f s x))

each_grown : (rule : Valued → Declared → Name → Declared) → ((v : Valued) (s : Declared) (x : Name) → Grown s (rule v s x)) → (q : Part Valued) (names : List Name) (s : Declared)
    → Grown s (each_of rule q names s)
each_grown rule h (Kept v) names s = fold_grown Name (rule v) (h v) names s
each_grown rule h Wrong names s = fold_grown Name faulty faulty_grown names s
each_grown rule h Hidden names s = fold_grown Name faulty faulty_grown names s

-- no fault before where there is none behind
nothing_before : (xs more : List Fault) → xs ++ more ≡ [] → xs ≡ []
nothing_before [] more h = refl
nothing_before (x ∷ xs) more h = absurd (cc)

pub no_faults_before : (a b : Notes) → Grows a b → HasNoFaults b → HasNoFaults a
no_faults_before a b g h = nothing_before a.faults g.faults.more (sym g.faults.whole ∙ h)

some_same : {A : Type 0} {a b : A} → Some a ≡ Some b → a ≡ b
some_same e = cc

of_same : (a b : ValueType) → Of a ≡ Of b → a ≡ b
of_same a b e = cc

module _ (objects : Objects) (p : Process) (w : Setting) (Also : Thing → Bool) where
  -- the names so far stand for things of the design, and the variables are well formed
  pub record IsSound (s : Declared) : Type 0 where
    pub scope : ScopeStands objects p [] w Also s.scope
    pub variables : All (IsVariable objects) s.draft.variables

  -- so is what is read on, where it stands at the front of the process and no rule is broken
  abbrev pub Right : Declared → Declared → Type 0
  Right a b = Extends Variable b.draft.variables p.variables → HasNoFaults b.draft.notes → IsSound a → IsSound b

  pub fold_right : (B : Type 0) (f : Declared → B → Declared) → ((s : Declared) (x : B) → Grown s (f s x)) → ((s : Declared) (x : B) → Right s (f s x)) → (xs : List B) (s : Declared) → Right s (fold f s xs)
  fold_right B f grown h [] s e n q = q
  fold_right B f grown h (x ∷ xs) s e n q =
      let rest : Grown (f s x) (fold f (f s x) xs) = fold_grown B f grown xs (f s x) in
      fold_right B f grown h xs (f s x) e n
      (h s x (extends_on Variable (f s x).draft.variables (fold f (f s x) xs).draft.variables p.variables rest.variables e)
      (no_faults_before (f s x).draft.notes (fold f (f s x) xs).draft.notes rest.notes n) q)

  name_stands : (scope : Scope) (x : ℕ) (t : Thing) → ScopeStands objects p [] w Also scope → ThingHolds (process_scope objects p) p.variables [] t → Keeps Also t
      → ((outer : Option Thing) → IfSome (or_in (visible (Some t)) outer) (IsSelectorAt objects)) → ScopeStands objects p [] w Also (with_name scope x t)
  name_stands scope x t h holds also new =
      record {
        holds = scopes_hold.named (process_scope objects p) p.variables [] scope x t h.holds holds;
        selectors = λ y any.
            with_one (λ (o : Option Thing). IfSome (or_in (visible o) (among scope.outer y)) (IsSelectorAt objects)) scope.inner x t y (h.selectors y any) (λ k. new (among scope.outer y));
        also = named_holds (Keeps Also) scope x t h.also also;
      }

  faulty_right : Keeps Also thing.Faulty → (s : Declared) (x : Name) → Right s (faulty s x)
  faulty_right also s x e n q = record { scope = name_stands s.scope x.number thing.Faulty q.scope (record { fits = tt; also = tt }) also (λ outer. tt); variables = q.variables }

  value_fits : (k : Kind) (o : Option Val) (t : ValueType) (v : Val) → k ≡ Of t → o ≡ Some v → IsOfType (sizes_of objects) t v → FitsValue (process_scope objects p) k (constant_value k o)
  value_fits (Of s) (Some u) t v ek ev h =
      subst (λ (z : ValueType). IsOfType (sizes_of objects) z u) (sym (of_same s t ek)) (subst (λ (z : Val). IsOfType (sizes_of objects) t z) (sym (some_same ev)) h)
  value_fits (Of s) None t v ek ev h = absurd (cc)
  value_fits Vector o t v ek ev h = absurd (cc)

  constant_right : (v : Valued) → DeclaredFits objects Also v → (s : Declared) (x : Name) → Right s (constant v s x)
  constant_right v fit s x e n q =
      record {
        scope =
            name_stands s.scope x.number (thing.Constant v.subtype (constant_value v.subtype.kind v.value)) q.scope
            (record { fits = value_fits v.subtype.kind v.value fit.subtype.kind fit.value fit.subtype.kind_is fit.value_is fit.typed; also = fit.subtype }) fit.constants (λ outer. tt);
        variables = q.variables;
      }

  one_more : (xs : List Variable) (x : Variable) → All (IsVariable objects) xs → IsVariable objects x → All (IsVariable objects) (xs ++ x ∷ [])
  one_more xs x h g = All-append (IsVariable objects) xs (x ∷ []) h (one g)
    where
      one : IsVariable objects x → All (IsVariable objects) (x ∷ [])
      one g zero d lt = g
      one g (suc i) d lt = absurd (omega arith)

  kind_fits : (k : Kind) (t u : ValueType) (o : Option ValueType) → k ≡ Of t → o ≡ Some (value_type k) → FitsKind o k
  kind_fits (Of s) t u o ek h = h
  kind_fits Vector t u o ek h = absurd (cc)

  abbrev variable_made : Valued → Name → Variable
  variable_made v x =
      record { name = text_of w.texts x.number; kind = value_type v.subtype.kind; constraint = range_part v.subtype.constraint; initial = value_or_leftmost v.subtype v.value; is_parameter = false }

  variable_right : (v : Valued) → DeclaredFits objects Also v → (s : Declared) (x : Name) → Right s (variable w.texts v s x)
  variable_right v fit s x e n q =
      let made = variable_made v x in
      let i = length s.draft.variables in
      let at : slice_get p.variables i ≡ Some made = end_at Variable s.draft.variables p.variables made e in
      let kind : slice_get (process_scope objects p).variables i ≡ Some (value_type v.subtype.kind) = kind_at Variable (λ (z : Variable). z.kind) p.variables i made at in
      record {
        scope =
            name_stands s.scope x.number (thing.Variable i v.subtype) q.scope
            (record {
              fits = (kind_fits v.subtype.kind fit.subtype.kind fit.subtype.kind (slice_get (process_scope objects p).variables i) fit.subtype.kind_is kind, inl (made, at, refl));
              also = (fit.subtype, (made, at, refl));
            }) (fit.variables i) (λ outer. tt);
        variables = one_more s.draft.variables made q.variables (record { declared = fit.declared; parameter = λ h. absurd (never h) });
      }
    where
      never : false ≡ true → ⊥
      never h = absurd (cc)

  module _ (values : ValuesFit objects w Also) (faulty_also : Keeps Also thing.Faulty) where
    declared_grown : (rule : Valued → Declared → Name → Declared) → ((v : Valued) (s : Declared) (x : Name) → Grown s (rule v s x)) → (place : Place) (names : List Name) (found : Notes × Part Valued) (s : Declared)
        → Grows s.draft.notes found.0 → Grown s (declaring_each rule place names found s)
    declared_grown rule h place names found s g =
        grown_on s _ (declaring_each rule place names found s)
        (record { notes = grows_on s.draft.notes found.0 (closed place found.1 found.0) g (grows_closed Valued place found.1 found.0); variables = extends_same Variable s.draft.variables; drivers = refl })
        (each_grown rule h found.1 names _)

    pub declaration_grown : (s : Declared) (d : ProcessDeclaration) → Grown s (process_declaration w.texts s d)
    declaration_grown s (declare.Variable place names i x) = declared_grown (variable w.texts) (variable_grown w.texts) place names (valued w.texts s.scope i x s.draft.notes) s (values.grows s.scope i x s.draft.notes)
    declaration_grown s (declare.Constant place names i x) = declared_grown constant constant_grown place names (valued w.texts s.scope i (Some x) s.draft.notes) s (values.grows s.scope i (Some x) s.draft.notes)

    each_right : (rule : Valued → Declared → Name → Declared) → ((v : Valued) (s : Declared) (x : Name) → Grown s (rule v s x))
        → ((v : Valued) → DeclaredFits objects Also v → (s : Declared) (x : Name) → Right s (rule v s x)) → (q : Part Valued) (names : List Name) (s : Declared) → OnKept (DeclaredFits objects Also) q
        → Right s (each_of rule q names s)
    each_right rule grown h (Kept v) names s fit = fold_right Name (rule v) (grown v) (h v fit) names s
    each_right rule grown h Wrong names s fit = fold_right Name faulty faulty_grown (faulty_right faulty_also) names s
    each_right rule grown h Hidden names s fit = fold_right Name faulty faulty_grown (faulty_right faulty_also) names s

    -- the declaration behind what is found
    declared_right : (rule : Valued → Declared → Name → Declared) → ((v : Valued) (s : Declared) (x : Name) → Grown s (rule v s x))
        → ((v : Valued) → DeclaredFits objects Also v → (s : Declared) (x : Name) → Right s (rule v s x)) → (place : Place) (names : List Name) (found : Notes × Part Valued) (s now : Declared)
        → now.scope ≡ s.scope → now.draft.variables ≡ s.draft.variables → now.draft.notes ≡ closed place found.1 found.0
        → (ScopeStands objects p [] w Also s.scope → HasNoFaults found.0 → OnKept (DeclaredFits objects Also) found.1) → Right s (each_of rule found.1 names now)
    declared_right rule grown h place names found s now same_scope same_variables notes fit e n q =
        let goes : Grown now (each_of rule found.1 names now) = each_grown rule grown found.1 names now in
        let none : HasNoFaults now.draft.notes = no_faults_before now.draft.notes (each_of rule found.1 names now).draft.notes goes.notes n in
        let none_found : HasNoFaults found.0 =
        no_faults_before found.0 (closed place found.1 found.0) (grows_closed Valued place found.1 found.0) (subst HasNoFaults notes none) in
        each_right rule grown h found.1 names now (fit q.scope none_found) e n
        (record { scope = subst (ScopeStands objects p [] w Also) (sym same_scope) q.scope; variables = subst (All (IsVariable objects)) (sym same_variables) q.variables })

    pub declaration_right : (s : Declared) (d : ProcessDeclaration) → Right s (process_declaration w.texts s d)
    declaration_right s (declare.Variable place names i x) =
        declared_right (variable w.texts) (variable_grown w.texts) variable_right place names (valued w.texts s.scope i x s.draft.notes) s _ refl refl refl
        (λ here none. values.fits p s.scope i x s.draft.notes here none)
    declaration_right s (declare.Constant place names i x) =
        declared_right constant constant_grown constant_right place names (valued w.texts s.scope i (Some x) s.draft.notes) s _ refl refl refl
        (λ here none. values.fits p s.scope i (Some x) s.draft.notes here none)
