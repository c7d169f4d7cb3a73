-- A rule of two parts that are kept.
use Rattle.std.proofs.Common.{◌≡◌, ap}
use Rattle.elab_meaning.specs.declared.part.Part.{Part}
use Rattle.elab_meaning.specs.declared.part.Part.TheVariants.{Kept, Wrong, Hidden}
use Rattle.elab_meaning.specs.Parts.{both}
use Rattle.unit_meaning.specs.Settings.{paired}

first_or : {A B : Type 0} → A → Part (A × B) → A
first_or x (Kept p) = p.0
first_or x _ = x

second_or : {A B : Type 0} → B → Part (A × B) → B
second_or y (Kept p) = p.1
second_or y _ = y

pub both_kept : {A B C : Type 0} (rule : A → B → Part C) (a : Part A) (b : Part B) (x : A) (y : B) → both paired a b ≡ Kept (x, y) → both rule a b ≡ rule x y
unfolding first_or second_or
both_kept rule (Kept a) (Kept b) x y e = ap (λ p. rule (first_or a p) (second_or b p)) e
both_kept rule (Kept a) Wrong x y e = cc
both_kept rule (Kept a) Hidden x y e = cc
both_kept rule Wrong (Kept b) x y e = cc
both_kept rule Wrong Wrong x y e = cc
both_kept rule Wrong Hidden x y e = cc
both_kept rule Hidden b x y e = cc
