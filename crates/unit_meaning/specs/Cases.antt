-- The choices of a case (IEEE 1076, 10.9).
use Rattle.std.specs.Prelude.{ℕ, ◌^◌, nat_le, Bool, true, false, ◌&&◌, ◌||◌, not, if◌then◌else◌, List, [], ◌∷◌, ◌++◌, length, drop, Option, Some, None}
use Rattle.std.specs.List.{list_any, slice_get}
use Rattle.ams_token.specs.declared.token.Place.{Place}
use Rattle.ams_tree.specs.declared.expression.Attribute.{Attribute}
use Rattle.ams_tree.specs.declared.expression.Expr.{Expr}
use Rattle.ams_tree.specs.declared.expression.Attribute.TheOpen.{Expr-F, Attribute-F}
use Rattle.ams_tree.specs.declared.expression.Attribute.TheFolds.{fold-Expr}
use Rattle.ams_tree.specs.declared.sequential.Choice.{Choice}
use Rattle.ams_tree.specs.declared.sequential.Choice.TheVariants as choice
use Rattle.ams_value.specs.declared.val.Val.{Val}
use Rattle.ams_value.specs.declared.value_type.ValueType.TheVariants as t
use Rattle.ams_value.specs.Values.{equals}
use Rattle.flat_design.specs.declared.objects.Enumeration.{Enumeration}
use Rattle.name_scope.specs.declared.thing.Kind.{Kind}
use Rattle.name_scope.specs.declared.thing.Kind.TheVariants.{Of, Vector}
use Rattle.name_scope.specs.declared.scope.Scope.{Scope}
use Rattle.elab_meaning.specs.declared.fault.Notes.{Notes}
use Rattle.elab_meaning.specs.declared.part.Part.{Part}
use Rattle.elab_meaning.specs.declared.part.Part.TheVariants.{Kept, Wrong, Hidden}
use Rattle.elab_meaning.specs.declared.typed.Asked.{Asked}
use Rattle.elab_meaning.specs.declared.typed.Context.{Context}
use Rattle.elab_meaning.specs.Kinds.{same_kind}
use Rattle.elab_meaning.specs.Parts.{part_of, where_true, judged, both}
use Rattle.elab_meaning.specs.Expressions.{static}
use Rattle.unit_meaning.specs.declared.draft.Seen.{Seen}
use Rattle.unit_meaning.specs.Settings.{Setting, finished}

-- the place of an expression's first token
abbrev pub place_step : Expr-F Place Place → Place
place_step (Expr-F.Number x unit) = x.place
place_step (Expr-F.Literal x) = x.place
place_step (Expr-F.Name x) = x.place
place_step (Expr-F.Call x all) = x.place
place_step (Expr-F.Attribute x a) = x.place
place_step (Expr-F.Paren place a) = place
place_step (Expr-F.Unary op place a) = place
place_step (Expr-F.Binary op a b) = a

abbrev pub no_place : Place
no_place = record { line = 0; column = 0 }

abbrev pub attribute_place : Attribute-F Place Place → Place
attribute_place a = no_place

abbrev pub place_of : Expr → Place
place_of = fold-Expr Place Place attribute_place place_step

-- ---- choices

abbrev pub nothing_seen : Seen
nothing_seen = record { values = []; others = false; unsure = false }

-- a value that no choice before has
abbrev pub with_value : Option Val → Seen → Part Seen
with_value (Some v) s = where_true (not (list_any (equals v) s.values)) (record s { values = s.values ++ v ∷ [] })
with_value None s = Kept (record s { unsure = true })

-- a choice is of the type of the expression, where that keeps the rules
abbrev pub fits_kind : Option Kind → Kind → Bool
fits_kind (Some k) c = same_kind c k
fits_kind None c = true

abbrev pub choosing_value : Option Kind → Seen → Asked → Part Seen
choosing_value k s a = if fits_kind k a.kind then with_value a.value s else Wrong

abbrev pub one_choice : Setting → Scope → Context → Option Kind → Seen → Choice → Notes → Notes × Part Seen
one_choice w scope c k s (choice.Value x) n =
    let value = static w.texts scope x c n in
    finished (place_of x) (value.0, judged (choosing_value k s) (part_of value.1))
one_choice w scope c k s (choice.Others place) n = finished place (n, where_true (not s.others) (record s { others = true }))

abbrev pub seen_or : Seen → Part Seen → Seen
seen_or s (Kept now) = now
seen_or s _ = s

abbrev pub beside : {A B : Type 0} → Part A → Part B → Part B
beside (Kept a) part = part
beside Wrong Hidden = Hidden
beside Wrong part = Wrong
beside Hidden part = Hidden

-- what is seen behind some choices, and whether all of them keep the rules
abbrev pub choices : Setting → Scope → Context → Option Kind → Seen → List Choice → Notes → Notes × (Seen × Part Bool)
choices w scope c k s [] n = (n, (s, Kept true))
choices w scope c k s (x ∷ more) n =
    let one = one_choice w scope c k s x n in
    let rest = choices w scope c k (seen_or s one.1) more one.0 in
    (rest.0, (rest.1.0, beside one.1 rest.1.1))

-- the values that are new since
abbrev pub values_since : Seen → Seen → List Val
values_since before now = drop (length before.values) now.values

abbrev pub others_since : Seen → Seen → Bool
others_since before now = now.others && not before.others

-- ---- whether all values of the type stand

abbrev pub literal_count : Option Enumeration → ℕ
literal_count (Some e) = length e.literals
literal_count None = 0

abbrev pub all_stand : List Enumeration → Kind → ℕ → Bool
all_stand types (Of t.Boolean) n = nat_le 2 n
all_stand types (Of t.Bit) n = nat_le 2 n
all_stand types (Of (t.Enumeration k)) n = nat_le (literal_count (slice_get types k)) n
all_stand types (Of (t.BitVector m)) n = nat_le (2 ^ m) n
all_stand types Vector n = true
all_stand types _ n = false

abbrev pub covers : List Enumeration → Kind → Seen → Bool
covers types k s = s.others || (s.unsure || all_stand types k (length s.values))
