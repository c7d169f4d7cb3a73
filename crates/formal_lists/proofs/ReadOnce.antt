-- The subtype of a generic is read once.
use Rattle.std.proofs.Common.{◌≡◌, ℕ, suc, ◌+◌, ◌<◌, List, [], ◌∷◌, ◌++◌, length, get_or, drop, map, Option, Some, None, refl, sym, ap, ◌∙◌, add-one, append_assoc}
use Rattle.std.proofs.Math.Seq.{drop-cons}
use Rattle.ams_tree.specs.declared.expression.Name.{Name}
use Rattle.ams_tree.specs.declared.expression.Expr.{Expr}
use Rattle.ams_tree.specs.declared.declaration.Generic.{Generic}
use Rattle.ams_tree.specs.declared.declaration.SubtypeIndication.{SubtypeIndication}
use Rattle.name_scope.specs.declared.thing.Subtype.{Subtype}
use Rattle.name_scope.specs.declared.scope.Scope.{Scope}
use Rattle.elab_meaning.specs.declared.book.Book.{Book}
use Rattle.elab_meaning.specs.declared.fault.Notes.{Notes}
use Rattle.elab_meaning.specs.Subtypes.{subtype}
use Rattle.elab_meaning.specs.Declarations.{declaring_each, with_notes}
use Rattle.elab_meaning.specs.Parts.{kept}
use Rattle.unit_meaning.specs.Interfaces.{generic, generic_default, generic_name, first_place}
use Rattle.unit_meaning.specs.Associations.{formal_subtypes}
use Rattle.formal_lists.specs.declared.generics.GenericFormal.{GenericFormal}
use Rattle.formal_lists.specs.Pairs.{generic_pair, generic_of}
use Rattle.formal_lists.specs.Reading.{default_behind, generic_behind, generics_of, formals_from}

with_default : (texts : List (List ℕ)) (scope : Scope) (i : SubtypeIndication) (x : Option Expr) (n : Notes) → default_behind texts scope (subtype texts scope i n).1 x (subtype texts scope i n).0 ≡ generic_default texts scope i x n
with_default texts scope i None n = refl
with_default texts scope i (Some x) n = refl

pub read_once : (texts : List (List ℕ)) (g : Generic) (b : Book) → generic_behind texts (subtype texts b.scope g.indication b.notes).1 g (with_notes (subtype texts b.scope g.indication b.notes).0 b) ≡ generic texts b g
read_once texts g b = ap (λ found. declaring_each generic_name (first_place g.constant g.names) g.names found b) (with_default texts b.scope g.indication g.default b.notes)

map_append : {A B : Type 0} (f : A → B) (xs ys : List A) → map f (xs ++ ys) ≡ map f xs ++ map f ys
map_append f [] ys = refl
map_append f (x ∷ xs) ys = ap (λ zs. f x ∷ zs) (map_append f xs ys)

named_generics : (s : Option Subtype) (names : List Name) → map generic_pair (map (generic_of s) names) ≡ map (λ (x : Name). (x.number, s)) names
named_generics s [] = refl
named_generics s (x ∷ names) = ap (λ xs. (x.number, s) ∷ xs) (named_generics s names)

pub all_generics : (texts : List (List ℕ)) (b : Book) (generics : List Generic) → map generic_pair (formals_from texts b generics) ≡ formal_subtypes texts b generics
all_generics texts b [] = refl
all_generics texts b (g ∷ more) =
    map_append generic_pair (generics_of g (subtype texts b.scope g.indication b.notes).1) (formals_from texts (generic texts b g) more)
    ∙ (ap (λ xs. xs ++ map generic_pair (formals_from texts (generic texts b g) more)) (named_generics (kept (subtype texts b.scope g.indication b.notes).1) g.names)
    ∙ ap (λ xs. map (λ (x : Name). (x.number, kept (subtype texts b.scope g.indication b.notes).1)) g.names ++ xs) (all_generics texts (generic texts b g) more))

left : (gs : List Generic) (k : ℕ) (g : Generic) → k < length gs → g ≡ get_or gs k g → drop k gs ≡ g ∷ drop (k + 1) gs
left gs k g h is = drop-cons gs k g h ∙ (ap (λ y. y ∷ drop (suc k) gs) (sym is) ∙ ap (λ j. g ∷ drop j gs) (sym (add-one k)))

-- a declaration of generics more
pub step : (texts : List (List ℕ)) (gs : List Generic) (k : ℕ) (g : Generic) (b after : Book) (es more whole : List GenericFormal) → k < length gs → g ≡ get_or gs k g
    → more ≡ es ++ generics_of g (subtype texts b.scope g.indication b.notes).1 → after ≡ generic texts b g → es ++ formals_from texts b (drop k gs) ≡ whole → more ++ formals_from texts after (drop (k + 1) gs) ≡ whole
step texts gs k g b after es more whole h is added told e =
    ap (λ xs. xs ++ formals_from texts after (drop (k + 1) gs)) added
    ∙ (append_assoc es (generics_of g (subtype texts b.scope g.indication b.notes).1) (formals_from texts after (drop (k + 1) gs))
    ∙ (ap (λ c. es ++ (generics_of g (subtype texts b.scope g.indication b.notes).1 ++ formals_from texts c (drop (k + 1) gs))) told
    ∙ (sym (ap (λ ys. es ++ formals_from texts b ys) (left gs k g h is)) ∙ e)))
