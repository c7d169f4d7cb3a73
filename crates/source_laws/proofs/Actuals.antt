-- Actuals of ports are named in the scope of the instance outside.
use Rattle.std.proofs.Common.{ℕ, ◌+◌, nat_eq, List, [], ◌∷◌, Option, Some, None, IfSome}
use Rattle.std.specs.List.{All}
use Rattle.std.proofs.lemmas.List.Elements.{All-nil, All-cons}
use Rattle.ams_token.specs.declared.token.Place.{Place}
use Rattle.ams_tree.specs.declared.expression.Name.{Name}
use Rattle.ams_tree.specs.declared.expression.Attribute.{Attribute}
use Rattle.ams_tree.specs.declared.expression.Attribute.TheOpen.{Expr-F}
use Rattle.ams_tree.specs.declared.expression.Expr.{Expr, out-Expr}
use Rattle.ams_tree.specs.declared.concurrent.Association.{Association}
use Rattle.ams_tree.specs.declared.concurrent.Association.TheVariants as association
use Rattle.ams_tree.specs.declared.concurrent.Instance.{Instance}
use Rattle.ams_tree.specs.declared.design.DesignUnit.{DesignUnit}
use Rattle.name_scope.specs.declared.thing.Subtype.{Subtype}
use Rattle.name_scope.specs.declared.thing.Thing.{Thing}
use Rattle.name_scope.specs.declared.thing.Thing.TheVariants as thing
use Rattle.name_scope.specs.declared.scope.Scope.{Scope}
use Rattle.name_scope.specs.Scopes.{lookup}
use Rattle.elab_meaning.specs.declared.fault.Notes.{Notes}
use Rattle.elab_meaning.specs.declared.part.Part.{Part}
use Rattle.elab_meaning.specs.declared.part.Part.TheVariants.{Kept, Wrong, Hidden}
use Rattle.elab_meaning.specs.declared.typed.Typed.{Typed}
use Rattle.elab_meaning.specs.Parts.{found_thing}
use Rattle.elab_meaning.specs.Expressions.{expression}
use Rattle.unit_meaning.specs.declared.request.Actual.{Actual}
use Rattle.unit_meaning.specs.declared.request.Actual.TheVariants as actual
use Rattle.unit_meaning.specs.declared.request.Assigned.{Assigned}
use Rattle.unit_meaning.specs.declared.site.Site.{Site}
use Rattle.unit_meaning.specs.Settings.{Setting, running}
use Rattle.unit_meaning.specs.Cases.{place_of}
use Rattle.unit_meaning.specs.Associations.{entity_in, formal_at, generic_formals, port_formals, generic_actual, object_actual, other_actual, port_actual, association_place, assigned, associations, list_or}
use Rattle.unit_meaning.specs.Units.{start_of}
use Rattle.unit_meaning.specs.Walk.{numbering, request_of}
use Rattle.source_laws.specs.Sources.{IsAmong, SourcesAre, ActualAmong, AssignedAmong, RequestAmong}

module _ (all : List ℕ) where
  each_among : (A : Type 0) (rule : Option A → Place → Expr → Notes → Notes × Actual) → ((formal : Option A) (place : Place) (x : Expr) (n : Notes) → ActualAmong all (rule formal place x n).1)
      → (formals : List (ℕ × A)) (j : ℕ) (list : List Association) (n : Notes) → All (AssignedAmong all) (associations rule formals j list n).1
  each_among A rule h formals j [] n = All-nil (AssignedAmong all)
  each_among A rule h formals j (association.Open formal place ∷ more) n =
      All-cons (AssignedAmong all) (assigned (association_place formal place) formal actual.Open) (associations rule formals (j + 1) more n).1 tt (each_among A rule h formals (j + 1) more n)
  each_among A rule h formals j (association.Actual formal x ∷ more) n =
      let place = association_place formal (place_of x) in
      let a = rule (formal_at formals j formal) place x n in
      All-cons (AssignedAmong all) (assigned place formal a.1) (associations rule formals (j + 1) more a.0).1 (h (formal_at formals j formal) place x n) (each_among A rule h formals (j + 1) more a.0)

  thing_among : (start : Scope) (formal : Option (Option Name)) (x : Name) (o : Option Thing) (n : Notes) → IfSome o (IsAmong all)
      → ActualAmong all (object_actual start formal x (found_thing x o n).1 (found_thing x o n).0).1
  thing_among start formal x None n h = tt
  thing_among start formal x (Some thing.Faulty) n h = tt
  thing_among start formal x (Some t) n h = h

  other_among : (o : Option Typed) → ActualAmong all (other_actual o)
  other_among (Some x) = tt
  other_among None = tt

  module _ (texts : List (List ℕ)) (start scope : Scope) (h : SourcesAre all scope) where
    port_among : (formal : Option (Option Name)) (x : Expr) (y : Expr-F Attribute Expr) (n : Notes) → ActualAmong all (port_actual texts start scope formal x y n).1
    port_among formal x (Expr-F.Name y) n = thing_among start formal y (lookup scope y.number) n (h y.number)
    port_among formal x (Expr-F.Number y unit) n = other_among (expression texts scope x running n).1
    port_among formal x (Expr-F.Literal y) n = other_among (expression texts scope x running n).1
    port_among formal x (Expr-F.Call y list) n = other_among (expression texts scope x running n).1
    port_among formal x (Expr-F.Attribute y a) n = other_among (expression texts scope x running n).1
    port_among formal x (Expr-F.Paren p a) n = other_among (expression texts scope x running n).1
    port_among formal x (Expr-F.Unary op p a) n = other_among (expression texts scope x running n).1
    port_among formal x (Expr-F.Binary op a b) n = other_among (expression texts scope x running n).1

  pub request_among : (w : Setting) (units : List DesignUnit) (scope : Scope) (path : List ℕ) (number : ℕ) (x : Name) (i : Instance) (s : Site) → SourcesAre all scope
      → RequestAmong all (request_of w units scope path number x i s)
  request_among w units scope path number x i s h =
      let e = entity_in units i.entity.number in
      let g_rule = λ (formal : Option (Option Subtype)) (place : Place) (y : Expr). generic_actual w.texts scope formal place y (out-Expr y) in
      let generics = associations g_rule (generic_formals w.texts (start_of w.texts) e) 0 (list_or i.generics) (numbering s) in
      each_among (Option Name) (λ (formal : Option (Option Name)) (place : Place) (y : Expr). port_actual w.texts (start_of w.texts) scope formal y (out-Expr y))
      (λ formal place y n. port_among w.texts (start_of w.texts) scope h formal y (out-Expr y) n) (port_formals e) 0 (list_or i.ports) generics.0
