-- Attributes: dots and thresholds have numbers of the design where it has room for what is noted.
use Rattle.std.proofs.Common.{◌≡◌, ◌<◌, ◌≤◌, ◌+◌, ℕ, pos, Bool, true, false, if◌then◌else◌, cond, List, [], ◌∷◌, ◌++◌, length, length-append, Option, Some, None, IfSome, arith, refl, ap, sym, ◌∙◌, subst}
use Rattle.std.specs.Prelude.{nat_eq, nat_lt, nat_le, unwrap_or}
use Rattle.std.specs.List.{slice_get, position_or_len, All}
use Rattle.std.proofs.lemmas.Bool.Decides.{nat_tests}
use Rattle.std.proofs.lemmas.List.Elements.{All-nil}
use Rattle.ams_token.specs.declared.token.Place.{Place}
use Rattle.ams_tree.specs.declared.expression.Name.{Name}
use Rattle.ams_value.specs.declared.val.Val.TheVariants as val
use Rattle.ams_value.specs.declared.value_type.ValueType.{ValueType}
use Rattle.ams_value.specs.declared.value_type.ValueType.TheVariants.{Boolean, Real}
use Rattle.flat_expr.specs.declared.expr.SignalName.TheVariants as signal
use Rattle.flat_expr.specs.declared.expr.Unknown.TheVariants as unknown
use Rattle.flat_design.specs.Limits.{unknown_limit, threshold_limit}
use Rattle.flat_design.specs.Lists.{number_in, with_member, number_of_dot, with_dot, number_of_threshold, with_threshold, same_threshold}
use Rattle.flat_design.specs.declared.objects.Threshold.{Threshold}
use Rattle.flat_design.specs.declared.objects.Terminal.TheVariants as terminal
use Rattle.name_scope.specs.declared.thing.Kind.{Kind}
use Rattle.name_scope.specs.declared.thing.Kind.TheVariants.{Of, Vector}
use Rattle.name_scope.specs.declared.thing.Thing.{Thing}
use Rattle.name_scope.specs.declared.thing.Thing.TheVariants as thing
use Rattle.elab_meaning.specs.declared.fault.Cause.TheVariants.{WrongType, NotStatic}
use Rattle.elab_meaning.specs.declared.fault.Notes.{Notes}
use Rattle.elab_meaning.specs.declared.typed.Asked.{Asked}
use Rattle.elab_meaning.specs.declared.typed.Context.{Context}
use Rattle.elab_meaning.specs.declared.typed.Surrounding.{Surrounding}
use Rattle.elab_meaning.specs.declared.typed.Surrounding.TheVariants as surrounding
use Rattle.elab_meaning.specs.Kinds.{same_kind}
use Rattle.elab_meaning.specs.Notes.{noted, changing, dotted, watched}
use Rattle.elab_meaning.specs.Names.{event_at, no_event, event_in, dot, dot_at, reference_at, threshold, above, above_at, ramp_at}
use Rattle.design_meaning.specs.Typed as flat
use Rattle.design_meaning.specs.Typed.{HasType, type_at, if_true, agreed, signal_type, event_type}
use Rattle.design_rules.specs.Types.{named_at}
use Rattle.typed_laws.specs.Fitting.{FitsKind, FitsThing, HasRoom, IsRead}
use Rattle.typed_laws.proofs.Flat.{at_signal, at_event, at_unknown}
use Rattle.typed_laws.proofs.Literals.{at_least, is_below}
use Rattle.typed_laws.proofs.Operators.{agreed_on}
use Rattle.typed_laws.proofs.Names.{literal_has, literal_sees}

-- ---- numbers of members

at_most_end : (k n : ℕ) → unwrap_or (cond (nat_lt k n) (Some k) None) n ≤ n
at_most_end k n = go (nat_lt k n) refl
  where
    go : (b : Bool) → nat_lt k n ≡ b → unwrap_or (cond b (Some k) None) n ≤ n
    go true h = grind (arith, nat_tests)
    go false h = omega arith

not_end : (k n : ℕ) → k ≤ n → nat_eq k n ≡ false → k < n
not_end k n h is = grind (arith, nat_tests)

-- a member has a number of the list that it was put into
pub member_placed : {A : Type 0} (same : A → Bool) (x : A) (xs : List A) → number_in same xs < length (with_member same x xs)
member_placed {A} same x xs = go (nat_eq (number_in same xs) (length xs)) refl
  where
    within : number_in same xs ≤ length xs
    within = at_most_end (position_or_len same xs) (length xs)

    go : (b : Bool) → nat_eq (number_in same xs) (length xs) ≡ b → number_in same xs < length (if b then xs ++ x ∷ [] else xs)
    go true h =
        let longer : length (xs ++ x ∷ []) ≡ length xs + 1 = length-append xs (x ∷ []) in
        let le : number_in same xs ≤ length xs = within in
        omega arith
    go false h = not_end (number_in same xs) (length xs) within h

module _ (objects : flat.Scope) (Sees : ℕ → Type 0) where
  -- ---- events

  kind_found : (o : Option ValueType) (k : Kind) → FitsKind o k → event_type o ≡ Some Boolean
  kind_found o (Of k) h = ap event_type h
  kind_found o Vector h = absurd h

  event_of : (c : Context) (x : Name) (t : Thing) (n : Notes) → FitsThing objects Sees t → IfSome (event_at c x (Some t) n).1 (IsRead objects Sees)
  event_of c x (thing.Signal i s a) n h =
      record {
        typed = at_event (Option ValueType) (type_at objects) (signal.Signal i) ∙ kind_found (slice_get objects.signals i) s.kind h;
        visible = subst (All Sees) (sym (at_event (List ℕ) named_at (signal.Signal i))) (All-nil Sees);
      }
  event_of c x thing.Domain n h =
      record {
        typed = at_event (Option ValueType) (type_at objects) signal.Domain;
        visible = subst (All Sees) (sym (at_event (List ℕ) named_at signal.Domain)) (All-nil Sees);
      }
  event_of c x thing.Faulty n h = tt
  event_of c x _ n h = tt

  event_at_right : (c : Context) (x : Name) (found : Option Thing) (n : Notes) → IfSome found (FitsThing objects Sees) → IfSome (event_at c x found n).1 (IsRead objects Sees)
  event_at_right c x (Some t) n h = event_of c x t n h
  event_at_right c x None n h = tt

  no_event_right : (x : Name) (found : Option Thing) (n : Notes) → IfSome (no_event x found n).1 (IsRead objects Sees)
  no_event_right x None n = tt
  no_event_right x (Some thing.Faulty) n = tt
  no_event_right x (Some _) n = tt

  pub event_right : (c : Context) (s : Surrounding) (x : Name) (found : Option Thing) (n : Notes) → IfSome found (FitsThing objects Sees) → IfSome (event_in c s x found n).1 (IsRead objects Sees)
  event_right c surrounding.Condition x found n h = no_event_right x found n
  event_right c surrounding.Declaration x found n h = event_at_right c x found n h
  event_right c surrounding.Process x found n h = event_at_right c x found n h
  event_right c surrounding.Equation x found n h = event_at_right c x found n h

  -- ---- dots

  dot_placed : (q : ℕ) (n : Notes) → HasRoom objects (dotted q n) → number_of_dot q n.dots < objects.dots
  unfolding dotted
  dot_placed q n room = go (nat_le (length n.dots) unknown_limit) refl room
    where
      go : (b : Bool) → nat_le (length n.dots) unknown_limit ≡ b → HasRoom objects (if b then record { faults = n.faults; dots = with_dot q n.dots; thresholds = n.thresholds } else n)
          → number_of_dot q n.dots < objects.dots
      go true is room =
          let here : number_of_dot q n.dots < length (with_dot q n.dots) = member_placed (λ other. nat_eq other q) q n.dots in
          let le : length (with_dot q n.dots) ≤ objects.dots = room.dots in
          omega arith
      go false is room =
          let kept : nat_le (length n.dots) unknown_limit ≡ true = at_least (length n.dots) unknown_limit room.dot_limit in
          absurd (cc)

  same_dots : (c : Context) (place : Place) (n : Notes) → (changing c place n).dots ≡ n.dots
  same_dots c place n = go c.is_static
    where
      go : (b : Bool) → (if b then noted place NotStatic n else n).dots ≡ n.dots
      go true = refl
      go false = refl

  dot_of : (c : Context) (x : Name) (q : ℕ) (n : Notes) → HasRoom objects (dot c x q n).0 → IfSome (dot c x q n).1 (IsRead objects Sees)
  unfolding dot
  dot_of c x q n room =
      let here : number_of_dot q n.dots < objects.dots =
      subst (λ (l : List ℕ). number_of_dot q l < objects.dots) (same_dots c x.place n) (dot_placed q (changing c x.place n) room) in
      record {
        typed = at_unknown (Option ValueType) (type_at objects) (unknown.Dot (number_of_dot q n.dots)) ∙ ap (λ (b : Bool). if_true b Real) (is_below (number_of_dot q n.dots) objects.dots here);
        visible = subst (All Sees) (sym (at_unknown (List ℕ) named_at (unknown.Dot (number_of_dot q n.dots)))) (All-nil Sees);
      }

  dot_some : (c : Context) (x : Name) (t : Thing) (n : Notes) → HasRoom objects (dot_at c x (Some t) n).0 → IfSome (dot_at c x (Some t) n).1 (IsRead objects Sees)
  dot_some c x (thing.Quantity q k) n room = dot_of c x q n room
  dot_some c x thing.Faulty n room = tt
  dot_some c x _ n room = tt

  pub dot_right : (c : Context) (x : Name) (found : Option Thing) (n : Notes) → HasRoom objects (dot_at c x found n).0 → IfSome (dot_at c x found n).1 (IsRead objects Sees)
  dot_right c x (Some t) n room = dot_some c x t n room
  dot_right c x None n room = tt

  -- ---- references

  reference_some : (c : Context) (x : Name) (t : Thing) (n : Notes) → FitsThing objects Sees t → IfSome (reference_at c x (Some t) n).1 (IsRead objects Sees)
  reference_some c x (thing.Terminal (terminal.Node i) m) n h =
      record {
        typed = at_unknown (Option ValueType) (type_at objects) (unknown.Reference i) ∙ ap (λ (b : Bool). if_true b Real) (is_below i objects.references h);
        visible = subst (All Sees) (sym (at_unknown (List ℕ) named_at (unknown.Reference i))) (All-nil Sees);
      }
  reference_some c x (thing.Terminal terminal.Reference m) n h = record { typed = literal_has objects Sees (val.Real (pos 0)) refl; visible = literal_sees objects Sees (val.Real (pos 0)) }
  reference_some c x thing.Faulty n h = tt
  reference_some c x _ n h = tt

  pub reference_right : (c : Context) (x : Name) (found : Option Thing) (n : Notes) → IfSome found (FitsThing objects Sees) → IfSome (reference_at c x found n).1 (IsRead objects Sees)
  reference_right c x (Some t) n h = reference_some c x t n h
  reference_right c x None n h = tt

  -- ---- thresholds

  threshold_placed : (h : Threshold) (n : Notes) → HasRoom objects (watched h n) → number_of_threshold h n.thresholds < objects.thresholds
  unfolding watched
  threshold_placed h n room = go (nat_le (length n.thresholds) threshold_limit) refl room
    where
      go : (b : Bool) → nat_le (length n.thresholds) threshold_limit ≡ b
          → HasRoom objects (if b then record { faults = n.faults; dots = n.dots; thresholds = with_threshold h n.thresholds } else n) → number_of_threshold h n.thresholds < objects.thresholds
      go true is room =
          let here : number_of_threshold h n.thresholds < length (with_threshold h n.thresholds) = member_placed (λ other. same_threshold other h) h n.thresholds in
          let le : length (with_threshold h n.thresholds) ≤ objects.thresholds = room.thresholds in
          omega arith
      go false is room =
          let kept : nat_le (length n.thresholds) threshold_limit ≡ true = at_least (length n.thresholds) threshold_limit room.threshold_limit_kept in
          absurd (cc)

  above_of : (place : Place) (h : Threshold) (n : Notes) → HasRoom objects (above place h n).0 → IfSome (above place h n).1 (IsRead objects Sees)
  unfolding above
  above_of place h n room =
      record {
        typed =
            at_signal (Option ValueType) (type_at objects) (signal.Threshold (number_of_threshold h n.thresholds)) Boolean
            ∙ agreed_on Boolean (if_true (nat_lt (number_of_threshold h n.thresholds) objects.thresholds) Boolean)
            (ap (λ (b : Bool). if_true b Boolean) (is_below (number_of_threshold h n.thresholds) objects.thresholds (threshold_placed h n room)));
        visible = subst (All Sees) (sym (at_signal (List ℕ) named_at (signal.Threshold (number_of_threshold h n.thresholds)) Boolean)) (All-nil Sees);
      }

  level_right : (b : Bool) (place : Place) (h : Threshold) (n : Notes) → HasRoom objects (if b then above place h n else (noted place WrongType n, None)).0
      → IfSome (if b then above place h n else (noted place WrongType n, None)).1 (IsRead objects Sees)
  level_right true place h n room = above_of place h n room
  level_right false place h n room = tt

  above_some : (x : Name) (t : Thing) (level : Asked) (n : Notes) → HasRoom objects (above_at x (Some t) (Some level) n).0 → IfSome (above_at x (Some t) (Some level) n).1 (IsRead objects Sees)
  above_some x (thing.Quantity q k) level n room = level_right (same_kind level.kind (Of Real)) x.place (threshold q level) n room
  above_some x thing.Faulty level n room = tt
  above_some x _ level n room = tt

  above_none : (x : Name) (t : Thing) (n : Notes) → IfSome (above_at x (Some t) None n).1 (IsRead objects Sees)
  above_none x thing.Faulty n = tt
  above_none x _ n = tt

  pub above_right : (x : Name) (found : Option Thing) (level : Option Asked) (n : Notes) → HasRoom objects (above_at x found level n).0 → IfSome (above_at x found level n).1 (IsRead objects Sees)
  above_right x None level n room = tt
  above_right x (Some t) (Some level) n room = above_some x t level n room
  above_right x (Some t) None n room = above_none x t n

  -- ---- ramps

  ramp_some : (x : Name) (t : Thing) (fine : Bool) (n : Notes) → IfSome (ramp_at x (Some t) fine n).1 (IsRead objects Sees)
  ramp_some x thing.Faulty fine n = tt
  ramp_some x _ true n = tt
  ramp_some x _ false n = tt

  pub ramp_right : (x : Name) (found : Option Thing) (fine : Bool) (n : Notes) → IfSome (ramp_at x found fine n).1 (IsRead objects Sees)
  ramp_right x (Some t) fine n = ramp_some x t fine n
  ramp_right x None fine n = tt
