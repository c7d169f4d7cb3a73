-- Names that are wrong where they stand.
use Rattle.std.proofs.Common.{◌≡◌, ℕ, suc, ◌+◌, ◌<◌, Bool, true, false, ◌&&◌, ◌||◌, not, List, [], ◌∷◌, ◌++◌, length, get_or, drop, map, Option, Some, None, is_some, refl, sym, ap, ◌∙◌, subst, add-one}
use Rattle.std.proofs.Math.Seq.{drop-cons}
use Rattle.ams_tree.specs.declared.expression.Expr.{Expr}
use Rattle.ams_tree.specs.declared.expression.Attribute.{Attribute}
use Rattle.ams_tree.specs.declared.expression.Attribute.TheOpen.{Attribute-F}
use Rattle.name_scope.specs.declared.scope.Scope.{Scope}
use Rattle.elab_meaning.specs.declared.fault.Notes.{Notes}
use Rattle.elab_meaning.specs.declared.part.Part.{Part}
use Rattle.elab_meaning.specs.declared.part.Part.TheVariants.{Kept, Wrong, Hidden}
use Rattle.elab_meaning.specs.declared.typed.Context.{Context}
use Rattle.elab_meaning.specs.declared.typed.Typed.{Typed}
use Rattle.elab_meaning.specs.Parts.{part_of, judged, both}
use Rattle.elab_meaning.specs.Expressions.{Reading, put, arguments}
use Rattle.unit_meaning.specs.Settings.{Setting, ahead, listed}
use Rattle.unit_meaning.specs.Bare.{always_wrong, wrong_both, static_part, inside_attribute}
use Rattle.bare_types.specs.Kinds.{option_list, is_hidden, wrong_unless}

pub judged_wrong : {A B : Type 0} (f : Part A) → judged {B = B} always_wrong f ≡ wrong_unless (is_hidden f)
judged_wrong (Kept a) = refl
judged_wrong Wrong = refl
judged_wrong Hidden = refl

pub both_wrong : {A B C : Type 0} (f : Part A) (p : Part B) → both {C = C} wrong_both f p ≡ wrong_unless (is_hidden f || is_hidden p)
both_wrong (Kept a) (Kept b) = refl
both_wrong (Kept a) Wrong = refl
both_wrong (Kept a) Hidden = refl
both_wrong Wrong (Kept b) = refl
both_wrong Wrong Wrong = refl
both_wrong Wrong Hidden = refl
both_wrong Hidden p = refl

pub part_hidden : {A : Type 0} (o : Option A) → is_hidden (part_of o) ≡ not (is_some o)
part_hidden (Some a) = refl
part_hidden None = refl

pub one_hidden : {A : Type 0} (p : Part A) → is_hidden (both ahead p (Kept [])) ≡ is_hidden p
one_hidden (Kept a) = refl
one_hidden Wrong = refl
one_hidden Hidden = refl

one_beside : {A : Type 0} (p : Part A) → is_hidden (both ahead p (Kept [])) ≡ (is_hidden (both ahead p (Kept [])) || false)
one_beside (Kept a) = refl
one_beside Wrong = refl
one_beside Hidden = refl

two_hidden : {A : Type 0} (p q : Part A) → is_hidden (both ahead p (both ahead q (Kept []))) ≡ (is_hidden (both ahead p (Kept [])) || is_hidden (both ahead q (Kept [])))
two_hidden (Kept a) (Kept b) = refl
two_hidden (Kept a) Wrong = refl
two_hidden (Kept a) Hidden = refl
two_hidden Wrong (Kept b) = refl
two_hidden Wrong Wrong = refl
two_hidden Wrong Hidden = refl
two_hidden Hidden q = refl

-- ---- the times of a ramp

module _ (w : Setting) (scope : Scope) (n : Notes) where
  pub ramp_notes : (rise fall : Option Expr) → (inside_attribute w scope (Attribute-F.Ramp rise fall) n).0 ≡ (listed (static_part w scope) (option_list fall) (listed (static_part w scope) (option_list rise) n).0).0
  ramp_notes None None = refl
  ramp_notes None (Some b) = refl
  ramp_notes (Some a) None = refl
  ramp_notes (Some a) (Some b) = refl

  pub ramp_hidden : (rise fall : Option Expr) → is_hidden (inside_attribute w scope (Attribute-F.Ramp rise fall) n).1 ≡ (is_hidden (listed (static_part w scope) (option_list rise) n).1 || is_hidden (listed (static_part w scope) (option_list fall) (listed (static_part w scope) (option_list rise) n).0).1)
  ramp_hidden None None = refl
  ramp_hidden None (Some b) = refl
  ramp_hidden (Some a) None = one_beside (static_part w scope a n).1
  ramp_hidden (Some a) (Some b) = two_hidden (static_part w scope a n).1 (static_part w scope b (static_part w scope a n).0).1

-- ---- arguments

pub notes_behind : (c : Context) (found : Option Typed) (more : List Reading) (n : Notes) → (arguments c (put (Some []) found) more n).0 ≡ (arguments c (Some []) more n).0
notes_behind c found more n = same (put (Some []) found) (Some []) more n
  where
    same : (all other : Option (List Typed)) (more : List Reading) (n : Notes) → (arguments c all more n).0 ≡ (arguments c other more n).0
    same all other [] n = refl
    same all other (r ∷ more) n = same (put all (r c n).1) (put other (r c n).1) more (r c n).0

pub fine_behind : (c : Context) (found : Option Typed) (more : List Reading) (n : Notes) → is_some (arguments c (put (Some []) found) more n).1 ≡ (is_some found && is_some (arguments c (Some []) more n).1)
fine_behind c None more n = none more n
  where
    none : (more : List Reading) (n : Notes) → is_some (arguments c None more n).1 ≡ false
    none [] n = refl
    none (r ∷ more) n = none more (r c n).0
fine_behind c (Some a) more n = some (a ∷ []) [] more n
  where
    put_to : (all other : List Typed) (found : Option Typed) (more : List Reading) (n : Notes) → ((xs ys : List Typed) → is_some (arguments c (Some xs) more n).1 ≡ is_some (arguments c (Some ys) more n).1) → is_some (arguments c (put (Some all) found) more n).1 ≡ is_some (arguments c (put (Some other) found) more n).1
    put_to all other (Some a) more n h = h (all ++ a ∷ []) (other ++ a ∷ [])
    put_to all other None more n h = refl

    some : (all other : List Typed) (more : List Reading) (n : Notes) → is_some (arguments c (Some all) more n).1 ≡ is_some (arguments c (Some other) more n).1
    some all other [] n = refl
    some all other (r ∷ more) n = put_to all other (r c n).1 more (r c n).0 (λ xs ys. some xs ys more (r c n).0)

and_assoc : (a b d : Bool) → ((a && b) && d) ≡ (a && (b && d))
and_assoc true b d = refl
and_assoc false b d = refl

one_more : (c : Context) (r : Reading) (more : List Reading) (n : Notes) (fine : Bool) (whole : Notes × Option (List Typed))
    → (arguments c (Some []) (r ∷ more) n).0 ≡ whole.0
    → (fine && is_some (arguments c (Some []) (r ∷ more) n).1) ≡ is_some whole.1
    → ((arguments c (Some []) more (r c n).0).0 ≡ whole.0) × (((fine && is_some (r c n).1) && is_some (arguments c (Some []) more (r c n).0).1) ≡ is_some whole.1)
one_more c r more n fine whole a b = (
  sym (notes_behind c (r c n).1 more (r c n).0) ∙ a,
  and_assoc fine (is_some (r c n).1) (is_some (arguments c (Some []) more (r c n).0).1) ∙ (ap (λ d. fine && d) (sym (fine_behind c (r c n).1 more (r c n).0)) ∙ b),
)

taken : {A : Type 0} (xs : List A) (i : ℕ) (x : A) → x ≡ get_or xs i x → i < length xs → drop i xs ≡ x ∷ drop (i + 1) xs
taken xs i x is h = drop-cons xs i x h ∙ (ap (λ y. y ∷ drop (suc i) xs) (sym is) ∙ ap (λ j. x ∷ drop j xs) (sym (add-one i)))

-- an argument more, in a loop over them
pub arguments_step : (c : Context) (f g : Expr → Reading) (xs : List Expr) (i : ℕ) (x : Expr) (n m : Notes) (found : Option Typed) (fine now : Bool) (whole : Notes × Option (List Typed))
    → g ≡ f → x ≡ get_or xs i x → i < length xs
    → m ≡ (g x c n).0 → found ≡ (g x c n).1 → now ≡ (fine && is_some found)
    → (arguments c (Some []) (map f (drop i xs)) n).0 ≡ whole.0
    → (fine && is_some (arguments c (Some []) (map f (drop i xs)) n).1) ≡ is_some whole.1
    → ((arguments c (Some []) (map f (drop (i + 1) xs)) m).0 ≡ whole.0) × ((now && is_some (arguments c (Some []) (map f (drop (i + 1) xs)) m).1) ≡ is_some whole.1)
arguments_step c f g xs i x n m found fine now whole same is h em ef en a b =
    let e = taken xs i x is h in
    let more = map f (drop (i + 1) xs) in
    let t = one_more c (f x) more n fine whole (subst (λ ys. (arguments c (Some []) (map f ys) n).0 ≡ whole.0) e a) (subst (λ ys. (fine && is_some (arguments c (Some []) (map f ys) n).1) ≡ is_some whole.1) e b) in
    let notes : m ≡ (f x c n).0 = em ∙ ap (λ (k : Expr → Reading). (k x c n).0) same in
    let answer : found ≡ (f x c n).1 = ef ∙ ap (λ (k : Expr → Reading). (k x c n).1) same in
    let truth : now ≡ (fine && is_some (f x c n).1) = en ∙ ap (λ o. fine && is_some o) answer in (
      ap (λ k. (arguments c (Some []) more k).0) notes ∙ t.0,
      ap (λ b. b && is_some (arguments c (Some []) more m).1) truth ∙ (ap (λ k. (fine && is_some (f x c n).1) && is_some (arguments c (Some []) more k).1) notes ∙ t.1),
    )
