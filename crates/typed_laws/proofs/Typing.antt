-- Each expression that is read is well typed.
use Rattle.std.proofs.Common.{◌≡◌, ◌≤◌, ◌+◌, ℕ, List, ◌++◌, length, length-append, ap, arith}
use Rattle.flat_design.specs.declared.objects.Threshold.{Threshold}
use Rattle.name_scope.specs.declared.scope.Scope.{Scope}
use Rattle.name_scope.specs.Scopes.{lookup}
use Rattle.elab_meaning.specs.declared.fault.Notes.{Notes}
use Rattle.design_meaning.specs.Typed as flat
use Rattle.design_rules.specs.Types.{IsVisible}
use Rattle.reading_laws.specs.Growing.{Extends, Grows}
use Rattle.reading_laws.proofs.Closing.{IsClosed, reading_keeps}
use Rattle.typed_laws.specs.Fitting.{ScopeFits, HasRoom, IsRead}
use Rattle.typed_laws.specs.Laws.{ReadExpressionsAreTyped}
use Rattle.typed_laws.proofs.Operators.{unary_right, binary_right, paren_right}
use Rattle.typed_laws.proofs.Names.{number_right, literal_right, named_right, call_right}
use Rattle.typed_laws.proofs.Attributes.{event_right, dot_right, reference_right, above_right, ramp_right}

shorter : (A : Type 0) (xs ys : List A) → Extends A xs ys → length xs ≤ length ys
shorter A xs ys e = subst_length e.whole
  where
    subst_length : ys ≡ xs ++ e.more → length xs ≤ length ys
    subst_length is =
        let whole : length ys ≡ length (xs ++ e.more) = ap length is in
        let parts : length (xs ++ e.more) ≡ length xs + length e.more = length-append xs e.more in
        omega arith

-- where there is room for more notes there is for fewer
pub room_before : (objects : flat.Scope) (a b : Notes) → Grows a b → HasRoom objects b → HasRoom objects a
room_before objects a b g room =
    let dots : length a.dots ≤ length b.dots = shorter ℕ a.dots b.dots g.dots in
    let thresholds : length a.thresholds ≤ length b.thresholds = shorter Threshold a.thresholds b.thresholds g.thresholds in
    let d = room.dots in
    let l = room.dot_limit in
    let h = room.thresholds in
    let m = room.threshold_limit_kept in
    record { dots = omega arith; dot_limit = omega arith; thresholds = omega arith; threshold_limit_kept = omega arith }

-- each step of reading keeps it
pub typing_closed : (objects : flat.Scope) (Sees : ℕ → Type 0) (texts : List (List ℕ)) (scope : Scope) → ScopeFits objects Sees scope → IsClosed texts scope (HasRoom objects) (IsRead objects Sees)
typing_closed objects Sees texts scope fits =
    record {
      down = room_before objects;
      number = λ x unit n. number_right objects Sees texts (lookup scope) x.place x.value unit n;
      literal = λ x n. literal_right objects Sees texts x n;
      name = λ c x n. named_right objects Sees c x (lookup scope x.number) n (fits x.number);
      call = λ c x all n h. call_right objects Sees c x (lookup scope x.number) all n (fits x.number) h;
      event = λ c x n. event_right objects Sees c c.surrounding x (lookup scope x.number) n (fits x.number);
      dot = λ c x n room. dot_right objects Sees c x (lookup scope x.number) n room;
      reference = λ c x n. reference_right objects Sees c x (lookup scope x.number) n (fits x.number);
      above = λ x level n room. above_right objects Sees x (lookup scope x.number) level n room;
      ramp = λ x fine n. ramp_right objects Sees x (lookup scope x.number) fine n;
      paren = λ place a n h. paren_right objects Sees place a n h;
      unary = λ op place a n h. unary_right objects Sees op place a n h;
      binary = λ op a b n h g. binary_right objects Sees op a b n h g;
    }

pub read_expressions_are_typed : ReadExpressionsAreTyped
read_expressions_are_typed objects variables parameters texts scope x c n fits room =
    (reading_keeps texts scope (HasRoom objects) (IsRead objects (IsVisible variables parameters)) (typing_closed objects (IsVisible variables parameters) texts scope fits) x c n).right room
