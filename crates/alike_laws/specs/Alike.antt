-- One text read twice: as the check of types reads it, and at an instance.
use Rattle.std.specs.Prelude.{◌≡◌, ◌<◌, ℕ, Bool, true, false, List, [], ◌∷◌, ◌++◌, length, get_or, Option, Some, None, IsSome}
use Rattle.std.specs.List.{list_all}
use Rattle.ams_tree.specs.declared.expression.Expr.{Expr}
use Rattle.name_scope.specs.declared.thing.Thing.{Thing}
use Rattle.name_scope.specs.declared.thing.Thing.TheVariants as thing
use Rattle.name_scope.specs.declared.scope.Scope.{Scope}
use Rattle.name_scope.specs.Scopes.{declared_in, lookup, with_name, inside}
use Rattle.elab_meaning.specs.declared.fault.Fault.{Fault}
use Rattle.elab_meaning.specs.declared.fault.Notes.{Notes}
use Rattle.elab_meaning.specs.declared.part.Part.{Part}
use Rattle.elab_meaning.specs.declared.part.Part.TheVariants.{Hidden}
use Rattle.elab_meaning.specs.declared.typed.Asked.{Asked}
use Rattle.elab_meaning.specs.declared.typed.Context.{Context}
use Rattle.elab_meaning.specs.declared.typed.Typed.{Typed}
use Rattle.elab_meaning.specs.Notes.{is_of_instances}
use Rattle.elab_meaning.specs.Expressions.{expression, static}
use Rattle.elab_meaning.specs.Subtypes.{static_part}
use Rattle.unit_meaning.specs.Units.{start_of}

-- ---- notes

-- no rule is broken so far
abbrev pub HasNoFaults : Notes → Type 0
HasNoFaults n = n.faults ≡ []

abbrev pub is_told : Fault → Bool
is_told f = is_of_instances f.cause

-- none is broken but such as an instance answers
abbrev pub OnlyTold : Notes → Type 0
OnlyTold n = list_all is_told n.faults ≡ true

-- a reading of the check from c to d, and one at an instance from i to j: where the first breaks no rule, the second breaks none but such as an instance answers
pub record FollowsIn (c d i j : Notes) : Type 0 where
  pub before : HasNoFaults d → HasNoFaults c
  pub told : HasNoFaults d → OnlyTold i → OnlyTold j

-- the same, and what the check reads is so, where no rule is broken
pub record Reads (A B : Type 0) (K : A → Type 0) (c : Notes) (d : Notes × A) (i : Notes) (j : Notes × B) : Type 0 where
  pub notes : FollowsIn c d.0 i j.0
  pub right : HasNoFaults d.0 → K d.1

abbrev pub IsShown : {A : Type 0} → Part A → Type 0
IsShown Hidden = ⊥
IsShown _ = Unit {0}

-- ---- things

-- what changes during the run
abbrev pub changes : Thing → Bool
changes (thing.Signal i s a) = true
changes thing.Domain = true
changes (thing.Quantity i q) = true
changes (thing.Variable i s) = true
changes (thing.Parameter i) = true
changes thing.Now = true
changes _ = false

abbrev pub is_label : Thing → Bool
is_label thing.Label = true
is_label _ = false

abbrev pub is_faulty : Thing → Bool
is_faulty thing.Faulty = true
is_faulty _ = false

abbrev pub terminal_nature : Thing → Option ℕ
terminal_nature (thing.Terminal end m) = Some m
terminal_nature _ = None

abbrev pub own_nature : Thing → Option ℕ
own_nature (thing.Nature m) = Some m
own_nature _ = None

-- natures by their numbers in the check, each with its number at the instance
abbrev pub at_instance : List ℕ → ℕ → ℕ
at_instance natures m = get_or natures m 0

abbrev pub IsNumbered : List ℕ → Option ℕ → Type 0
IsNumbered natures (Some m) = m < length natures
IsNumbered natures None = Unit {0}

abbrev pub SameNature : List ℕ → Option ℕ → Option ℕ → Type 0
SameNature natures (Some m) (Some n) = n ≡ at_instance natures m
SameNature natures None (Some n) = ⊥
SameNature natures c None = Unit {0}

-- a thing of the check and one of an instance; the second may be a broken one, the first may not
pub record AlikeThing (natures : List ℕ) (c i : Thing) : Type 0 where
  pub whole : is_faulty c ≡ false
  pub label : is_label i ≡ is_label c
  pub changing : changes i ≡ true → changes c ≡ true
  pub terminal_known : IsNumbered natures (terminal_nature c)
  pub terminal : SameNature natures (terminal_nature c) (terminal_nature i)
  pub nature_known : IsNumbered natures (own_nature c)
  pub nature : SameNature natures (own_nature c) (own_nature i)

abbrev pub AlikeFound : List ℕ → Option Thing → Option Thing → Type 0
AlikeFound natures (Some c) (Some i) = AlikeThing natures c i
AlikeFound natures None None = Unit {0}
AlikeFound natures c i = ⊥

-- each name stands for alike things, also in the innermost region alone; nature 0 is that outside of all units
pub record AlikeScopes (natures : List ℕ) (c i : Scope) : Type 0 where
  pub seen : (x : ℕ) → AlikeFound natures (lookup c x) (lookup i x)
  pub inner : (x : ℕ) → AlikeFound natures (declared_in c.inner x) (declared_in i.inner x)
  pub outside : at_instance natures 0 ≡ 0

-- ---- expressions

abbrev pub ExpressionsFollow : Type 0
ExpressionsFollow =
    (natures : List ℕ) (a b : Scope) → AlikeScopes natures a b → (texts : List (List ℕ)) (x : Expr) (k : Context) (c i : Notes)
    → Reads (Option Typed) (Option Typed) IsSome c (expression texts a x k c) i (expression texts b x k i)

abbrev pub StaticsFollow : Type 0
StaticsFollow =
    (natures : List ℕ) (a b : Scope) → AlikeScopes natures a b → (texts : List (List ℕ)) (x : Expr) (k : Context) (c i : Notes)
    → Reads (Option Asked) (Option Asked) IsSome c (static texts a x k c) i (static texts b x k i)

abbrev pub StaticPartsFollow : Type 0
StaticPartsFollow =
    (natures : List ℕ) (a b : Scope) → AlikeScopes natures a b → (texts : List (List ℕ)) (x : Expr) (c i : Notes)
    → Reads (Part Asked) (Part Asked) IsShown c (static_part texts a x c) i (static_part texts b x i)

-- an expression reads so in alike scopes, in each context
pub record ReadingsFollow : Type 0 where
  pub expressions : ExpressionsFollow
  pub statics : StaticsFollow
  pub parts : StaticPartsFollow

-- ---- scopes

-- scopes stay alike with one more name, with a region inside, and with one more nature of the check; the predefined names are alike themselves
pub record ScopesStayAlike : Type 0 where
  pub named : (natures : List ℕ) (a b : Scope) (x : ℕ) (s t : Thing) → AlikeScopes natures a b → AlikeThing natures s t → AlikeScopes natures (with_name a x s) (with_name b x t)
  pub inner : (natures : List ℕ) (a b : Scope) → AlikeScopes natures a b → AlikeScopes natures (inside a) (inside b)
  pub more : (natures : List ℕ) (n : ℕ) (a b : Scope) → AlikeScopes natures a b → 0 < length natures → AlikeScopes (natures ++ n ∷ []) a b
  pub start : (natures : List ℕ) (texts : List (List ℕ)) → 0 < length natures → at_instance natures 0 ≡ 0 → AlikeScopes natures (start_of texts) (start_of texts)
