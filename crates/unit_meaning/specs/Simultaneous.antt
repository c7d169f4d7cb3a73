-- Simultaneous statements (IEEE 1076.1, 15).
use Rattle.std.specs.Prelude.{ℕ, nat_eq, Bool, true, false, ◌&&◌, not, if◌then◌else◌, List, [], ◌∷◌, ◌++◌, length, map, Option, Some, None}
use Rattle.std.specs.List.{list_all, flat_map}
use Rattle.ams_token.specs.declared.token.Place.{Place}
use Rattle.ams_tree.specs.declared.expression.Attribute.{Attribute}
use Rattle.ams_tree.specs.declared.expression.Expr.{Expr}
use Rattle.ams_tree.specs.declared.expression.Attribute.TheOpen.{Expr-F, Attribute-F}
use Rattle.ams_tree.specs.declared.expression.Attribute.TheFolds.{fold-Expr}
use Rattle.ams_tree.specs.declared.expression.Name.{Name}
use Rattle.ams_tree.specs.declared.concurrent.Equation.{Equation}
use Rattle.ams_tree.specs.declared.concurrent.SimultaneousBranch.{SimultaneousBranch}
use Rattle.ams_tree.specs.declared.concurrent.SimultaneousAlternative.{SimultaneousAlternative}
use Rattle.ams_tree.specs.declared.concurrent.Concurrent.{Concurrent}
use Rattle.ams_tree.specs.declared.concurrent.ConcurrentStatement.{ConcurrentStatement}
use Rattle.ams_tree.specs.declared.concurrent.ConcurrentStatement.TheVariants as conc
use Rattle.ams_value.specs.declared.value_type.ValueType.TheVariants as t
use Rattle.flat_expr.specs.declared.expr.FlatExpr.{FlatExpr}
use Rattle.flat_design.specs.declared.objects.Pair.{Pair}
use Rattle.flat_design.specs.declared.objects.IfArm.{IfArm}
use Rattle.flat_design.specs.declared.objects.CaseArm.{CaseArm}
use Rattle.flat_design.specs.declared.objects.Selection.{Selection}
use Rattle.flat_design.specs.declared.objects.Selection.TheVariants as selection
use Rattle.flat_design.specs.declared.objects.Equation.{Equation as Made}
use Rattle.flat_design.specs.declared.objects.Equation.TheVariants as equation
use Rattle.name_scope.specs.declared.thing.Kind.{Kind}
use Rattle.name_scope.specs.declared.thing.Kind.TheVariants.{Of}
use Rattle.name_scope.specs.declared.scope.Scope.{Scope}
use Rattle.elab_meaning.specs.declared.fault.Cause.TheVariants.{UnequalBranches}
use Rattle.elab_meaning.specs.declared.fault.Notes.{Notes}
use Rattle.elab_meaning.specs.declared.part.Part.{Part}
use Rattle.elab_meaning.specs.declared.part.Part.TheVariants.{Kept, Wrong, Hidden}
use Rattle.elab_meaning.specs.declared.typed.Typed.{Typed}
use Rattle.elab_meaning.specs.Notes.{noted}
use Rattle.elab_meaning.specs.Kinds.{same_kind}
use Rattle.elab_meaning.specs.Parts.{where_true, judged, both}
use Rattle.elab_meaning.specs.Expressions.{static_in}
use Rattle.unit_meaning.specs.declared.draft.Seen.{Seen}
use Rattle.unit_meaning.specs.Settings.{Setting, equating, choosing, typed, must_be, listed, paired, ahead, finished}
use Rattle.unit_meaning.specs.Cases.{place_of, nothing_seen, choices, values_since, others_since, covers}
use Rattle.unit_meaning.specs.Sequential.{kind_known}

-- ---- equations

-- both sides are REAL
abbrev pub pair_of : Typed → Typed → Part Pair
pair_of x y = where_true (same_kind x.kind (Of t.Real) && same_kind y.kind (Of t.Real)) (record { left = x.expr; right = y.expr })

abbrev pub pair : Setting → Scope → Equation → Notes → Notes × Part Pair
pair w scope q n =
    let left = typed w scope equating q.left n in
    let right = typed w scope equating q.right left.0 in
    finished (place_of q.left) (right.0, both pair_of left.1 right.1)

abbrev pub pairs : Setting → Scope → List Equation → Notes → Notes × Part (List Pair)
pairs w scope all n = listed (pair w scope) all n

abbrev pub single : Pair → Part Made
single p = Kept (equation.Pair p)

abbrev pub simple : Setting → Scope → Equation → Notes → Notes × Part Made
simple w scope q n =
    let p = pair w scope q n in
    (p.0, judged single p.1)

-- ---- choices

-- each branch has as many equations as the first
abbrev pub same_lengths : List ℕ → Bool
same_lengths [] = true
same_lengths (k ∷ more) = list_all (nat_eq k) more

abbrev pub first_length : List ℕ → ℕ
first_length [] = 0
first_length (k ∷ more) = k

abbrev pub compared : Place → List ℕ → Notes → Notes
compared place lengths n = if same_lengths lengths then n else noted place UnequalBranches n

abbrev pub chosen : ℕ → Selection → Part Made
chosen size s = Kept (equation.Choice (record { selection = s; size = size }))

-- ---- if

abbrev pub arm_of : FlatExpr → List Pair → Part IfArm
arm_of x all = Kept (record { condition = x; pairs = all })

abbrev pub if_arm : Setting → Scope → SimultaneousBranch → Notes → Notes × Part IfArm
if_arm w scope b n =
    let x = must_be w scope choosing (Of t.Boolean) b.condition n in
    let all = pairs w scope b.equations x.0 in
    (all.0, both arm_of x.1 all.1)

-- there is an else
abbrev pub last_arm : Setting → Scope → Option (List Equation) → Notes → Notes × Part (List Pair)
last_arm w scope None n = (n, Wrong)
last_arm w scope (Some all) n = pairs w scope all n

abbrev pub if_lengths : List SimultaneousBranch → Option (List Equation) → List ℕ
if_lengths all (Some last) = map (λ (b : SimultaneousBranch). length b.equations) all ++ length last ∷ []
if_lengths all None = map (λ (b : SimultaneousBranch). length b.equations) all

abbrev pub chosen_if : ℕ → List IfArm → List Pair → Part Made
chosen_if size arms last = chosen size (selection.If arms last)

abbrev pub if_statement : Setting → Scope → Place → List SimultaneousBranch → Option (List Equation) → Notes → Notes × Part Made
if_statement w scope place all last n =
    let arms = listed (if_arm w scope) all n in
    let rest = last_arm w scope last arms.0 in
    finished place (compared place (if_lengths all last) rest.0, both (chosen_if (first_length (if_lengths all last))) arms.1 rest.1)

-- ---- case

abbrev pub case_arm_of : Seen → Seen → Bool → List Pair → Part CaseArm
case_arm_of before now fine all = Kept (record { choices = values_since before now; others = others_since before now; pairs = all })

abbrev pub case_arms : Setting → Scope → Option Kind → Seen → List SimultaneousAlternative → Notes → Notes × (Seen × Part (List CaseArm))
case_arms w scope k seen [] n = (n, (seen, Kept []))
case_arms w scope k seen (a ∷ more) n =
    let c = choices w scope (static_in equating) k seen a.choices n in
    let all = pairs w scope a.equations c.0 in
    let rest = case_arms w scope k c.1.0 more all.0 in
    (rest.0, (rest.1.0, both ahead (both (case_arm_of seen c.1.0) c.1.1 all.1) rest.1.1))

abbrev pub case_lengths : List SimultaneousAlternative → List ℕ
case_lengths all = map (λ (a : SimultaneousAlternative). length a.equations) all

abbrev pub chosen_case : Setting → Seen → ℕ → Typed → List CaseArm → Part Made
chosen_case w seen size x arms =
    where_true (covers w.enumerations x.kind seen) (equation.Choice (record { selection = selection.Case x.expr arms; size = size }))

abbrev pub case_statement : Setting → Scope → Place → Expr → List SimultaneousAlternative → Notes → Notes × Part Made
case_statement w scope place x all n =
    let e = typed w scope choosing x n in
    let arms = case_arms w scope (kind_known e.1) nothing_seen all e.0 in
    finished place (compared place (case_lengths all) arms.0, both (chosen_case w arms.1.0 (first_length (case_lengths all))) e.1 arms.1.1)

-- ---- the names whose 'dot stands in an equation of an architecture, wherever in it

abbrev pub dots_of_attribute : Attribute-F (ℕ → List ℕ) (List ℕ) → ℕ → List ℕ
dots_of_attribute Attribute-F.Dot x = x ∷ []
dots_of_attribute (Attribute-F.Above inner) x = inner
dots_of_attribute _ x = []

abbrev pub dots_step : Expr-F (ℕ → List ℕ) (List ℕ) → List ℕ
dots_step (Expr-F.Call x all) = flat_map (λ (xs : List ℕ). xs) all
dots_step (Expr-F.Attribute x a) = a x.number
dots_step (Expr-F.Paren place a) = a
dots_step (Expr-F.Unary op place a) = a
dots_step (Expr-F.Binary op a b) = a ++ b
dots_step _ = []

abbrev pub dots_in : Expr → List ℕ
dots_in = fold-Expr (ℕ → List ℕ) (List ℕ) dots_of_attribute dots_step

abbrev pub dots_in_equations : List Equation → List ℕ
dots_in_equations all = flat_map (λ (q : Equation). dots_in q.left ++ dots_in q.right) all

abbrev pub equations_or : Option (List Equation) → List Equation
equations_or (Some all) = all
equations_or None = []

-- the equations of a statement, those of its branches among them
abbrev pub equations_in : ConcurrentStatement → List Equation
equations_in (conc.Equation q) = q ∷ []
equations_in (conc.If place all last) = flat_map (λ (b : SimultaneousBranch). b.equations) all ++ equations_or last
equations_in (conc.Case place x all) = flat_map (λ (a : SimultaneousAlternative). a.equations) all
equations_in _ = []

abbrev pub selectors_of : List Concurrent → List ℕ
selectors_of all = flat_map (λ (c : Concurrent). dots_in_equations (equations_in c.statement)) all

-- how many equations a statement gives: a choice those of one branch
abbrev pub equation_count : ConcurrentStatement → ℕ
equation_count (conc.Equation q) = 1
equation_count (conc.If place all last) = first_length (if_lengths all last)
equation_count (conc.Case place x all) = first_length (case_lengths all)
equation_count _ = 0
