-- Reading a subtype or a value of a declaration only adds to the notes.
use Rattle.std.proofs.Common.{ℕ, List, Option, Some, None}
use Rattle.ams_tree.specs.declared.expression.Expr.{Expr}
use Rattle.ams_tree.specs.declared.expression.Name.{Name}
use Rattle.ams_tree.specs.declared.declaration.Bounds.{Bounds}
use Rattle.ams_tree.specs.declared.declaration.Range.{Range}
use Rattle.ams_tree.specs.declared.declaration.SubtypeIndication.{SubtypeIndication}
use Rattle.name_scope.specs.declared.thing.Subtype.{Subtype}
use Rattle.name_scope.specs.declared.thing.Thing.{Thing}
use Rattle.name_scope.specs.declared.thing.Thing.TheVariants as thing
use Rattle.name_scope.specs.declared.scope.Scope.{Scope}
use Rattle.name_scope.specs.Scopes.{lookup}
use Rattle.elab_meaning.specs.declared.fault.Cause.TheVariants.{Unknown}
use Rattle.elab_meaning.specs.declared.fault.Notes.{Notes}
use Rattle.elab_meaning.specs.declared.part.Part.{Part}
use Rattle.elab_meaning.specs.Parts.{both, found_thing}
use Rattle.elab_meaning.specs.Expressions.{static_in, asked, expression}
use Rattle.elab_meaning.specs.Subtypes.{declaring, static_part, index_subtype, marked, in_bounds, subtype, initial, valued}
use Rattle.reading_laws.specs.Growing.{Grows}
use Rattle.reading_laws.proofs.Growing.{grows_same, grows_on, grows_noted, grows_asked}
use Rattle.reading_laws.proofs.Reading.{reading_adds_notes}

pub grows_found : (x : Name) (o : Option Thing) (n : Notes) → Grows n (found_thing x o n).0
grows_found x None n = grows_noted x.place (Unknown x.number) n
grows_found x (Some thing.Faulty) n = grows_same n
grows_found x (Some _) n = grows_same n

pub grows_static : (texts : List (List ℕ)) (scope : Scope) (x : Expr) (n : Notes) → Grows n (static_part texts scope x n).0
grows_static texts scope x n =
    let found = expression texts scope x (static_in declaring) n in
    grows_on n found.0 (asked found.1 found.0).0 (reading_adds_notes texts scope x (static_in declaring) n) (grows_asked found.1 found.0)

grows_index : (texts : List (List ℕ)) (scope : Scope) (r : Option Range) (n : Notes) → Grows n (index_subtype texts scope r n).0
grows_index texts scope None n = grows_same n
grows_index texts scope (Some r) n =
    let left = static_part texts scope r.left n in
    let right = static_part texts scope r.right left.0 in
    grows_on n left.0 right.0 (grows_static texts scope r.left n) (grows_static texts scope r.right left.0)

grows_bounds : (texts : List (List ℕ)) (scope : Scope) (r : Option Bounds) (s : Part Subtype) (n : Notes) → Grows n (in_bounds texts scope r s n).0
grows_bounds texts scope None s n = grows_same n
grows_bounds texts scope (Some r) s n =
    let low = static_part texts scope r.low n in
    let high = static_part texts scope r.high low.0 in
    grows_on n low.0 high.0 (grows_static texts scope r.low n) (grows_static texts scope r.high low.0)

pub grows_subtype : (texts : List (List ℕ)) (scope : Scope) (i : SubtypeIndication) (n : Notes) → Grows n (subtype texts scope i n).0
grows_subtype texts scope i n =
    let mark = found_thing i.mark (lookup scope i.mark.number) n in
    let index = index_subtype texts scope i.index mark.0 in
    let whole = in_bounds texts scope i.bounds (both marked mark.1 index.1) index.0 in
    grows_on n mark.0 whole.0 (grows_found i.mark (lookup scope i.mark.number) n)
    (grows_on mark.0 index.0 whole.0 (grows_index texts scope i.index mark.0) (grows_bounds texts scope i.bounds (both marked mark.1 index.1) index.0))

pub grows_initial : (texts : List (List ℕ)) (scope : Scope) (s : Part Subtype) (x : Option Expr) (n : Notes) → Grows n (initial texts scope s x n).0
grows_initial texts scope s None n = grows_same n
grows_initial texts scope s (Some x) n = grows_static texts scope x n

pub grows_valued : (texts : List (List ℕ)) (scope : Scope) (i : SubtypeIndication) (x : Option Expr) (n : Notes) → Grows n (valued texts scope i x n).0
grows_valued texts scope i x n =
    let s = subtype texts scope i n in
    grows_on n s.0 (initial texts scope s.1 x s.0).0 (grows_subtype texts scope i n) (grows_initial texts scope s.1 x s.0)
