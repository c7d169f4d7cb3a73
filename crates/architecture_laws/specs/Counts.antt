-- Enumeration types that have as many literals where they are read as in the design.
use Rattle.std.specs.Prelude.{ℕ, nat_eq, Bool, true, List, get_or, IfSome}
use Rattle.std.specs.List.{slice_get}
use Rattle.ams_value.specs.declared.value_type.ValueType.TheVariants.{Enumeration as EnumerationType}
use Rattle.ams_value.specs.Types.{type_of}
use Rattle.flat_design.specs.declared.objects.Enumeration.{Enumeration}
use Rattle.flat_design.specs.declared.objects.Objects.{Objects}
use Rattle.name_scope.specs.declared.thing.Kind.{Kind}
use Rattle.name_scope.specs.declared.thing.Kind.TheVariants.{Of}
use Rattle.name_scope.specs.declared.thing.Thing.{Thing}
use Rattle.name_scope.specs.declared.thing.Thing.TheVariants as thing
use Rattle.name_scope.specs.declared.scope.Scope.{Scope}
use Rattle.name_scope.specs.Scopes.{lookup}
use Rattle.unit_meaning.specs.Settings.{Setting}
use Rattle.unit_meaning.specs.Cases.{literal_count}
use Rattle.design_rules.specs.Types.{sizes_of}
use Rattle.body_laws.specs.Bodies.{Keeps}

-- so the type of an expression
abbrev pub is_counted : List Enumeration → List ℕ → Kind → Bool
is_counted types sizes (Of (EnumerationType m)) = nat_eq (literal_count (slice_get types m)) (get_or sizes m 0)
is_counted types sizes k = true

-- the type that a name has, or is
abbrev pub has_counted : List Enumeration → List ℕ → Thing → Bool
has_counted types sizes (thing.Type s f) = is_counted types sizes s.kind
has_counted types sizes (thing.Constant s v) = is_counted types sizes s.kind
has_counted types sizes (thing.Literal v) = is_counted types sizes (Of (type_of v))
has_counted types sizes (thing.Signal i s a) = is_counted types sizes s.kind
has_counted types sizes (thing.Variable i s) = is_counted types sizes s.kind
has_counted types sizes t = true

abbrev pub NamesCount : Objects → Setting → Scope → Type 0
NamesCount final w scope = (x : ℕ) → IfSome (lookup scope x) (Keeps (has_counted w.enumerations (sizes_of final)))
