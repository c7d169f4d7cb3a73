-- What is known of the values that declarations give.
use Rattle.std.specs.Prelude.{IfSome}
use Rattle.elab_meaning.specs.declared.part.Part.{Part}
use Rattle.elab_meaning.specs.declared.part.Part.TheVariants.{Kept}
use Rattle.elab_meaning.specs.declared.typed.Valued.{Valued}
use Rattle.elab_meaning.specs.Declarations.{constant_value}
use Rattle.expr_types.specs.Known.{IsKind}

-- of a part that keeps the rules
abbrev pub OnKept : {A : Type 0} → (A → Type 0) → Part A → Type 0
OnKept P (Kept a) = P a
OnKept P _ = Unit {0}

-- a value that is known is one of the subtype's type; of a vector whose length isn't known no value is kept
abbrev pub IsSoundValued : Valued → Type 0
IsSoundValued v = IfSome (constant_value v.subtype.kind v.value) (IsKind v.subtype.kind)
