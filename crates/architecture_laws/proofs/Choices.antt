-- The choices of cases in processes, and the values of declarations.
use Rattle.std.proofs.Common.{◌≡◌, ℕ, Bool, true, List, [], ◌∷◌, map, Option, Some, None, IfSome, refl, sym, ap, ◌∙◌, subst}
use Rattle.ams_tree.specs.declared.expression.Expr.{Expr}
use Rattle.ams_tree.specs.declared.sequential.Alternative.{Alternative as WrittenAlternative, out-Alternative}
use Rattle.ams_tree.specs.declared.sequential.Seq.TheFolds.{fold-roll-Alternative}
use Rattle.ams_tree.specs.declared.sequential.Seq.TheViews.{roll-out-Alternative}
use Rattle.ams_value.specs.declared.value_type.ValueType.TheVariants as t
use Rattle.flat_expr.specs.declared.statement.Statement.{Statement}
use Rattle.flat_design.specs.declared.objects.Objects.{Objects}
use Rattle.flat_design.specs.declared.objects.Process.{Process}
use Rattle.name_scope.specs.declared.thing.Kind.TheVariants.{Of}
use Rattle.name_scope.specs.declared.thing.Thing.{Thing}
use Rattle.name_scope.specs.declared.thing.Thing.TheVariants as thing
use Rattle.name_scope.specs.declared.scope.Scope.{Scope}
use Rattle.name_scope.specs.Scopes.{lookup}
use Rattle.elab_meaning.specs.declared.fault.Notes.{Notes}
use Rattle.elab_meaning.specs.declared.part.Part.{Part}
use Rattle.elab_meaning.specs.declared.part.Part.TheVariants.{Kept, Wrong, Hidden}
use Rattle.elab_meaning.specs.declared.typed.Context.{Context}
use Rattle.elab_meaning.specs.declared.typed.Typed.{Typed}
use Rattle.elab_meaning.specs.declared.typed.Valued.{Valued}
use Rattle.elab_meaning.specs.Expressions.{expression}
use Rattle.elab_meaning.specs.Parts.{kept, part_of}
use Rattle.elab_meaning.specs.Subtypes.{valued}
use Rattle.unit_meaning.specs.Settings.{Setting, running, typed}
use Rattle.unit_meaning.specs.Cases.{nothing_seen, covers}
use Rattle.unit_meaning.specs.Sequential.{Reads, CaseReads, BranchReads, alternatives, seq_step, alternative_step, branch_step, statement_of}
use Rattle.design_rules.specs.Types.{sizes_of, process_scope}
use Rattle.part_laws.specs.Parts.{OnKept}
use Rattle.scope_laws.specs.Holds.{HasNoFaults}
use Rattle.asked_laws.proofs.Asked.{asked_values_are_known}
use Rattle.subtype_laws.specs.Subtypes.{ValuedFits}
use Rattle.subtype_laws.proofs.Growth.{grows_valued}
use Rattle.subtype_laws.proofs.Values.{subtypes_fit}
use Rattle.choice_laws.specs.Choices.{AsksValues, CountsLiterals, CountsOf, WrittenAlternative as ReadAlternative, EachGrows, HasChoices}
use Rattle.choice_laws.proofs.Cases.{choices_are_right}
use Rattle.kind_laws.proofs.Counted.{kinds_are_counted}
use Rattle.draft_laws.specs.Drafts.{alternative_of}
use Rattle.draft_laws.proofs.Drafts.{all_grow}
use Rattle.body_laws.specs.Bodies.{Keeps, CasesFit}
use Rattle.made_laws.specs.Made.{DeclaredFits, ValuesFit}
use Rattle.declared_type_laws.specs.Types.{TypeKeeps}
use Rattle.declared_type_laws.proofs.Whole.{types_are_declared}
use Rattle.architecture_laws.specs.Counts.{is_counted, has_counted}
use Rattle.architecture_laws.proofs.Counts.{names_count}

-- ---- alternatives as they are written

module _ (w : Setting) where
  abbrev opened : WrittenAlternative → ReadAlternative
  opened a = record { choices = (out-Alternative a).choices; body = map (statement_of w) (out-Alternative a).body }

  opens : (a : WrittenAlternative) → alternative_of w a ≡ alternative_step w (opened a)
  opens a =
      ap (alternative_of w) (sym (roll-out-Alternative a))
      ∙ fold-roll-Alternative (Reads Statement) CaseReads BranchReads (seq_step w) (alternative_step w) (branch_step w) (out-Alternative a)

  all_open : (all : List WrittenAlternative) → map (alternative_of w) all ≡ map (alternative_step w) (map opened all)
  all_open [] = refl
  all_open (a ∷ more) =
      ap (λ (r : CaseReads). r ∷ map (alternative_of w) more) (opens a) ∙ ap (λ (l : List CaseReads). alternative_step w (opened a) ∷ l) (all_open more)

  bodies_grow : (all : List WrittenAlternative) → EachGrows (map opened all)
  bodies_grow [] = tt
  bodies_grow (a ∷ more) = (λ scope spot d. (all_grow w (out-Alternative a).body scope spot 0 d).notes, bodies_grow more)

-- ---- values and counts

module _ (objects : Objects) (w : Setting) where
  abbrev Counted : Thing → Bool
  Counted = has_counted w.enumerations (sizes_of objects)

  abbrev Domain : Type 0
  Domain = CountsLiterals w.enumerations (sizes_of objects) (Of (t.Enumeration 0))

  kept_counts : (o : Option Typed) → IfSome o (CountsOf w.enumerations (sizes_of objects)) → OnKept (CountsOf w.enumerations (sizes_of objects)) (part_of o)
  kept_counts (Some x) h = h
  kept_counts None h = tt

  pub type_counts : Domain → (scope : Scope) → ((x : ℕ) → IfSome (lookup scope x) (Keeps Counted)) → (c : Context) (x : Expr) (n : Notes)
      → OnKept (CountsOf w.enumerations (sizes_of objects)) (typed w scope c x n).1
  type_counts domain scope names c x n =
      kept_counts (expression w.texts scope x c n).1
      (kinds_are_counted w.enumerations (sizes_of objects) w.texts scope x c n domain (names_count w.enumerations (sizes_of objects) scope names))

  is_kept : (R : Typed → Type 0) (q : Part Typed) (x : Typed) → q ≡ Kept x → OnKept R q → R x
  is_kept R q x is h = subst (OnKept R) is h

  -- ---- choices

  pub cases_fit : Domain → (p : Process) → CasesFit objects p w Counted
  cases_fit domain p ps scope spot i k x n e all d at is kind none covered =
      let counts : CountsLiterals w.enumerations (sizes_of objects) (Of k) =
      subst (CountsLiterals w.enumerations (sizes_of objects)) kind
      (is_kept (CountsOf w.enumerations (sizes_of objects)) (typed w scope running x n).1 e is (type_counts domain scope at.also running x n)) in
      by_steps (map (alternative_of w) all) (all_open w all) counts none covered
    where
      asks : AsksValues (process_scope objects p) w.texts scope
      asks y c m fine = asked_values_are_known.asked (process_scope objects p) p.variables ps w.texts scope y c m at.holds fine

      by_steps : (rs : List CaseReads) → rs ≡ map (alternative_step w) (map (opened w) all) → CountsLiterals w.enumerations (sizes_of objects) (Of k)
          → HasNoFaults (alternatives rs scope spot i 0 (Some (Of k)) nothing_seen d).0.notes
          → covers w.enumerations (Of k) (alternatives rs scope spot i 0 (Some (Of k)) nothing_seen d).1.0 ≡ true
          → OnKept (HasChoices (sizes_of objects) k) (alternatives rs scope spot i 0 (Some (Of k)) nothing_seen d).1.1
      by_steps rs same counts =
          subst (λ (l : List CaseReads).
          HasNoFaults (alternatives l scope spot i 0 (Some (Of k)) nothing_seen d).0.notes
          → covers w.enumerations (Of k) (alternatives l scope spot i 0 (Some (Of k)) nothing_seen d).1.0 ≡ true
          → OnKept (HasChoices (sizes_of objects) k) (alternatives l scope spot i 0 (Some (Of k)) nothing_seen d).1.1) (sym same)
          (choices_are_right.sequential (process_scope objects p) w scope k (map (opened w) all) spot i 0 d asks counts (bodies_grow w all))

  -- ---- values of declarations

  type_kept : (o : Option Thing) → IfSome o (Keeps Counted) → IfSome o (TypeKeeps (is_counted w.enumerations (sizes_of objects)))
  type_kept (Some (thing.Type s f)) h = h
  type_kept (Some _) h = tt
  type_kept None h = tt

  both_hold : (A : Type 0) (R S T : A → Type 0) → ((a : A) → R a → S a → T a) → (q : Part A) → OnKept R q → IfSome (kept q) S → OnKept T q
  both_hold A R S T h (Kept a) r s = h a r s
  both_hold A R S T h Wrong r s = tt
  both_hold A R S T h Hidden r s = tt

  abbrev CountedValue : Valued → Type 0
  CountedValue v = is_counted w.enumerations (sizes_of objects) v.subtype.kind ≡ true

  declared_fits : (v : Valued) → ValuedFits (sizes_of objects) v → CountedValue v → DeclaredFits objects Counted v
  declared_fits v h c =
      record {
        subtype = h.subtype;
        value = h.value;
        value_is = h.value_is;
        typed = h.typed;
        declared = subtypes_fit.declared (sizes_of objects) v h;
        variables = λ i. c;
        constants = c;
      }

  pub values_fit : ValuesFit objects w Counted
  values_fit = record {
    grows = λ scope i x n. grows_valued w.texts scope i x n;
    fits = λ p scope i x n at none.
        both_hold Valued (ValuedFits (sizes_of objects)) CountedValue (DeclaredFits objects Counted) declared_fits (valued w.texts scope i x n).1
        ((subtypes_fit.values (process_scope objects p) p.variables [] w.texts scope i x n at.holds).right none)
        (types_are_declared.subtypes (is_counted w.enumerations (sizes_of objects)) w.texts scope i x n (λ m. refl) refl (λ y. type_kept (lookup scope y) (at.also y)));
  }
