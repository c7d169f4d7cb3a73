-- A choice that is a value.
use Rattle.std.proofs.Common.{◌≡◌, ℕ, List, Option, Some, None, refl, sym, ap, ◌∙◌}
use Rattle.ams_token.specs.declared.token.Place.{Place}
use Rattle.ams_tree.specs.declared.expression.Expr.{Expr}
use Rattle.ams_tree.specs.declared.sequential.Choice.{Choice}
use Rattle.ams_tree.specs.declared.sequential.Choice.TheVariants as choice
use Rattle.name_scope.specs.declared.thing.Kind.{Kind}
use Rattle.name_scope.specs.declared.scope.Scope.{Scope}
use Rattle.elab_meaning.specs.declared.fault.Notes.{Notes}
use Rattle.elab_meaning.specs.declared.part.Part.{Part}
use Rattle.elab_meaning.specs.declared.part.Part.TheVariants.{Kept, Wrong, Hidden}
use Rattle.elab_meaning.specs.declared.typed.Asked.{Asked}
use Rattle.elab_meaning.specs.declared.typed.Context.{Context}
use Rattle.elab_meaning.specs.Expressions.{static}
use Rattle.elab_meaning.specs.Parts.{part_of, judged, closed}
use Rattle.unit_meaning.specs.declared.draft.Seen.{Seen}
use Rattle.unit_meaning.specs.Settings.{Setting, sealed}
use Rattle.unit_meaning.specs.Cases.{place_of, choosing_value, seen_or, one_choice}

pub seen_sealed : (s : Seen) (part : Part Seen) → seen_or s (sealed part) ≡ seen_or s part
seen_sealed s (Kept now) = refl
seen_sealed s Wrong = refl
seen_sealed s Hidden = refl

-- what is found of a value that is chosen, behind its reading
abbrev pub value_part : Option Kind → Seen → Option Asked → Part Seen
value_part k s found = judged (choosing_value k s) (part_of found)

pub one_value : (w : Setting) (scope : Scope) (c : Context) (k : Option Kind) (s : Seen) (x : Expr) (n : Notes) (written : Choice) (texts : List (List ℕ)) (p : Place) (behind : Notes) (found : Option Asked)
    → written ≡ choice.Value x → texts ≡ w.texts → p ≡ place_of x
    → behind ≡ (static texts scope x c n).0 → found ≡ (static texts scope x c n).1
    → one_choice w scope c k s written n ≡ (closed p (value_part k s found) behind, sealed (value_part k s found))
one_value w scope c k s x n written texts p behind found e t q a f =
    let notes : behind ≡ (static w.texts scope x c n).0 = a ∙ ap (λ ts. (static ts scope x c n).0) t in
    let value : found ≡ (static w.texts scope x c n).1 = f ∙ ap (λ ts. (static ts scope x c n).1) t in
    ap (λ written. one_choice w scope c k s written n) e
    ∙ sym (ap (λ p. (closed p (value_part k s found) behind, sealed (value_part k s found))) q
    ∙ (ap (λ o. (closed (place_of x) (value_part k s o) behind, sealed (value_part k s o))) value
    ∙ ap (λ j. (closed (place_of x) (value_part k s (static w.texts scope x c n).1) j, sealed (value_part k s (static w.texts scope x c n).1))) notes))
