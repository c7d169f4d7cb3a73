-- What the tests behind the walk have found.
use Rattle.std.proofs.Common.{◌≡◌, ◌≤◌, ℕ, ◌+◌, nat_eq, nat_lt, Bool, true, false, cond, if◌then◌else◌, List, [], ◌∷◌, length, position, Option, Some, None, Result, Ok, Err, refl, sym, ap, ◌∙◌, subst, arith}
use Rattle.std.specs.Prelude.{not}
use Rattle.std.specs.List.{position_from, slice_get, All}
use Rattle.std.specs.Str.{bytes_eq}
use Rattle.std.proofs.lemmas.Bool.Decides.{nat_tests}
use Rattle.std.proofs.lemmas.Iterator.Adapters.{position_from-zero}
use Rattle.std.proofs.lemmas.List.Elements.{All-nil, All-cons}
use Rattle.fix_core.specs.Passes.{◌>>=◌}
use Rattle.ams_tree.specs.declared.design.DesignUnit.{DesignUnit}
use Rattle.flat_design.specs.Limits.{frame_limit}
use Rattle.flat_design.specs.Reads.{frame_of}
use Rattle.flat_design.specs.declared.objects.Instance.{Instance}
use Rattle.flat_design.specs.declared.objects.Objects.{Objects}
use Rattle.unit_meaning.specs.declared.site.Limit.TheVariants as limit
use Rattle.unit_meaning.specs.declared.site.Refusal.{Refusal}
use Rattle.unit_meaning.specs.declared.site.Refusal.TheVariants.{TooMany}
use Rattle.unit_meaning.specs.declared.site.Site.{Site}
use Rattle.unit_meaning.specs.Walk.{walked}
use Rattle.unit_meaning.specs.Drivers.{doubly_driven, driven, framed, objects_of, flattened, unequal, unsolvable}
use Rattle.design_rules.specs.Design.{IsSolvable}
use Rattle.checked_laws.specs.Checked.{IsFlattened, FlatDesignsAreChecked}
use Rattle.checked_laws.proofs.Drivers.{drivers_once}

no_answer : {A B : Type 0} (x : Refusal) (t : B) → Err x ≡ Ok t → A
no_answer x t h = cc

abbrev answer : Objects → Result Objects Refusal
answer o = Ok o

same_answer : (s t : Objects) → answer s ≡ Ok t → s ≡ t
same_answer s t h = cc

then_is : {A B : Type 0} (f : A → Result B Refusal) (m : Result A Refusal) (t : B) → (m >>= f) ≡ Ok t → (u : A) × (m ≡ Ok u) × (f u ≡ Ok t)
then_is f (Ok u) t h = (u, refl, h)
then_is f (Err x) t h = no_answer x t h

not_less : (m n : ℕ) → nat_lt m n ≡ false → n ≤ m
not_less m n h = grind (arith, nat_tests)

framed_is : (o t : Objects) → framed o ≡ Ok t → (length (frame_of o) ≤ frame_limit) × (o ≡ t)
framed_is o t h = go (nat_lt frame_limit (length (frame_of o))) refl h
  where
    go : (b : Bool) → nat_lt frame_limit (length (frame_of o)) ≡ b → (if b then Err (TooMany limit.Frame) else Ok o) ≡ Ok t → (length (frame_of o) ≤ frame_limit) × (o ≡ t)
    go true is k = no_answer (TooMany limit.Frame) t k
    go false is k = (not_less frame_limit (length (frame_of o)) is, same_answer o t k)

driven_is : (o : Objects) (d : Option ℕ) (t : Objects) → driven o d ≡ Ok t → (d ≡ None) × (o ≡ t)
driven_is o None t h = (refl, same_answer o t h)
driven_is o (Some i) t h = no_answer _ t h

flat_is : (texts : List (List ℕ)) (units : List DesignUnit) (top : List ℕ) (objects : Objects) → flattened texts units top ≡ Ok objects → IsFlattened texts units top objects
flat_is texts units top objects h =
    let walk = walked texts units top (position (bytes_eq top) texts) in
    let p = then_is framed (walk >>= objects_of) objects h in
    let q = then_is objects_of walk p.0 p.1 in
    let f = framed_is p.0 objects p.2 in
    let d = driven_is q.0.objects (doubly_driven q.0.objects) p.0 q.2 in
    let same : q.0.objects ≡ objects = d.1 ∙ f.1 in
    record {
      site = q.0;
      walked_is = q.1;
      objects_are = same;
      drivers = drivers_once objects (subst (λ o. doubly_driven o ≡ None) same d.0);
      frame = subst (λ o. length (frame_of o) ≤ frame_limit) f.1 f.0;
    }

-- ---- instances

equal : (x : Instance) → unequal x ≡ false → IsSolvable x
equal x h = go (nat_eq x.equations x.unknowns) refl h
  where
    go : (b : Bool) → nat_eq x.equations x.unknowns ≡ b → not b ≡ false → IsSolvable x
    go true is k = grind (arith, nat_tests)
    go false is k = absurd cc

one_equal : (k : ℕ) (x : Instance) (more : List Instance) → (position_from unequal (k + 1) more ≡ None → All IsSolvable more) → (b : Bool) → unequal x ≡ b
    → cond b (Some k) (position_from unequal (k + 1) more) ≡ None → All IsSolvable (x ∷ more)
one_equal k x more rest true is e = absurd cc
one_equal k x more rest false is e = All-cons IsSolvable x more (equal x is) (rest e)

each_equal : (k : ℕ) (all : List Instance) → position_from unequal k all ≡ None → All IsSolvable all
each_equal k [] h = All-nil IsSolvable
each_equal k (x ∷ more) h = one_equal k x more (each_equal (k + 1) more) (unequal x) refl h

pub flat_designs_are_checked : FlatDesignsAreChecked
flat_designs_are_checked = record {
  flat = λ texts units top objects h. flat_is texts units top objects h;
  drivers = λ objects e h. drivers_once objects e h;
  instances = λ objects h. each_equal 0 objects.instances (sym (position_from-zero unequal objects.instances) ∙ h);
}
