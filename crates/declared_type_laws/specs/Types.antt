-- The enumeration types of names are among those that are declared so far.
use Rattle.std.specs.Prelude.{◌≡◌, ◌<◌, ℕ, nat_lt, Bool, true, List, length, Option, IfSome}
use Rattle.ams_tree.specs.declared.declaration.Declaration.{Declaration}
use Rattle.ams_tree.specs.declared.declaration.SubtypeIndication.{SubtypeIndication}
use Rattle.ams_tree.specs.declared.design.Architecture.{Architecture}
use Rattle.ams_tree.specs.declared.design.Entity.{Entity}
use Rattle.ams_tree.specs.declared.expression.Expr.{Expr}
use Rattle.ams_value.specs.declared.value_type.ValueType.TheVariants.{Enumeration as EnumerationType, BitVector}
use Rattle.ams_value.specs.Types.{type_of}
use Rattle.name_scope.specs.declared.thing.Kind.{Kind}
use Rattle.name_scope.specs.declared.thing.Kind.TheVariants.{Of, Vector}
use Rattle.name_scope.specs.declared.thing.Thing.{Thing}
use Rattle.name_scope.specs.declared.thing.Thing.TheVariants as thing
use Rattle.name_scope.specs.declared.scope.Scope.{Scope}
use Rattle.name_scope.specs.Scopes.{lookup}
use Rattle.elab_meaning.specs.declared.book.Book.{Book}
use Rattle.elab_meaning.specs.declared.fault.Notes.{Notes}
use Rattle.elab_meaning.specs.declared.typed.Valued.{Valued}
use Rattle.elab_meaning.specs.Parts.{kept}
use Rattle.elab_meaning.specs.Subtypes.{valued}
use Rattle.elab_meaning.specs.Declarations.{declarations}
use Rattle.unit_meaning.specs.declared.request.Request.{Request}
use Rattle.unit_meaning.specs.declared.site.Site.{Site}
use Rattle.unit_meaning.specs.Units.{start_of, opened}
use Rattle.unit_meaning.specs.Walk.{Entry, entry_of_instance}

-- an enumeration type is one of the first `n`
abbrev pub is_declared : ℕ → Kind → Bool
is_declared n (Of (EnumerationType m)) = nat_lt m n
is_declared n k = true

-- that of a name
abbrev pub has_declared : ℕ → Thing → Bool
has_declared n (thing.Type s f) = is_declared n s.kind
has_declared n (thing.Constant s v) = is_declared n s.kind
has_declared n (thing.Literal v) = is_declared n (Of (type_of v))
has_declared n (thing.Signal i s a) = is_declared n s.kind
has_declared n (thing.Variable i s) = is_declared n s.kind
has_declared n t = true

-- a type that a name is keeps a rule
abbrev pub TypeKeeps : (Kind → Bool) → Thing → Type 0
TypeKeeps P (thing.Type s f) = P s.kind ≡ true
TypeKeeps P t = Unit {0}

-- the types of the names of a scope
abbrev pub NamesHaveDeclared : ℕ → Scope → Type 0
NamesHaveDeclared n scope = (x : ℕ) → IfSome (lookup scope x) (λ t. has_declared n t ≡ true)

abbrev pub BookHasDeclared : Book → Type 0
BookHasDeclared b = NamesHaveDeclared (length b.objects.enumerations) b.scope

-- whatever is declared, and whether it keeps the rules or not
pub record TypesAreDeclared : Type 0 where
  -- the predefined names, DOMAIN_TYPE among them
  pub start : (texts : List (List ℕ)) (n : ℕ) → 0 < n → NamesHaveDeclared n (start_of texts)
  -- a subtype keeps each rule that types of names keep, and all vectors
  pub subtypes : (P : Kind → Bool) (texts : List (List ℕ)) (scope : Scope) (i : SubtypeIndication) (x : Option Expr) (n : Notes)
      → ((m : ℕ) → P (Of (BitVector m)) ≡ true) → P Vector ≡ true → ((y : ℕ) → IfSome (lookup scope y) (TypeKeeps P))
      → IfSome (kept (valued texts scope i x n).1) (λ (v : Valued). P v.subtype.kind ≡ true)
  pub all : (texts : List (List ℕ)) (ds : List Declaration) (b : Book) → BookHasDeclared b → BookHasDeclared (declarations texts ds b)
  pub body : (texts : List (List ℕ)) (a : Architecture) (b : Book) → BookHasDeclared b → BookHasDeclared (opened texts a b)
  -- the interface of an instance, whatever its actuals are
  pub entry : (texts : List (List ℕ)) (r : Request) (e : Entity) (s : Site)
      → 0 < length s.objects.enumerations → IfSome (entry_of_instance texts r e s) (λ (entry : Entry). BookHasDeclared entry.book)
