-- Dots that are named in an expression stand in what it is read as.
use Rattle.std.proofs.Common.{◌≡◌, ◌≤◌, ◌+◌, ⊎_elim, ℕ, suc, Bool, true, false, if◌then◌else◌, List, [], ◌∷◌, ◌++◌, length, length-append, append_assoc, append-nil, map, Option, Some, None, IfSome, refl, sym, ap, ◌∙◌, subst, arith}
use Rattle.std.specs.Prelude.{nat_eq, ◌&&◌, ◌||◌}
use Rattle.std.specs.List.{slice_get, list_any, flat_map}
use Rattle.std.proofs.lemmas.Bool.{or_left, or_right, or_cases}
use Rattle.std.proofs.lemmas.Bool.Decides.{nat_tests}
use Rattle.std.proofs.lemmas.List.Folds.{list_any-append}
use Rattle.ams_token.specs.declared.token.Place.{Place}
use Rattle.ams_tree.specs.declared.expression.Name.{Name}
use Rattle.ams_tree.specs.declared.expression.Attribute.{Attribute}
use Rattle.ams_tree.specs.declared.expression.Attribute.TheViews.{roll-Expr, roll-Attribute}
use Rattle.ams_tree.specs.declared.expression.Attribute.TheOpen.{Expr-F, Attribute-F}
use Rattle.ams_tree.specs.declared.expression.Attribute.TheFolds.{map-Expr, map-Attribute, fold-Attribute, fold-roll-Expr, fold-roll-Attribute, ind-Expr}
use Rattle.ams_tree.specs.declared.expression.Expr.{Expr}
use Rattle.ams_value.specs.declared.op.UnaryOperator.{UnaryOperator}
use Rattle.ams_value.specs.declared.op.BinaryOperator.{BinaryOperator}
use Rattle.flat_expr.specs.declared.expr.FlatExpr.{FlatExpr}
use Rattle.flat_expr.specs.declared.expr.FlatExpr.TheVariants as e
use Rattle.flat_expr.specs.declared.expr.Function.{Function}
use Rattle.flat_expr.specs.declared.expr.Unknown.{Unknown}
use Rattle.flat_expr.specs.declared.expr.Unknown.TheVariants.{Dot}
use Rattle.flat_expr.specs.declared.expr.IndexRange.{IndexRange}
use Rattle.flat_design.specs.Limits.{unknown_limit}
use Rattle.flat_design.specs.Lists.{number_of_dot}
use Rattle.name_scope.specs.declared.scope.Scope.{Scope}
use Rattle.ams_value.specs.declared.value_type.ValueType.{ValueType}
use Rattle.ams_value.specs.declared.value_type.ValueType.TheVariants as t
use Rattle.name_scope.specs.declared.thing.Kind.{Kind}
use Rattle.name_scope.specs.declared.thing.Kind.TheVariants.{Of}
use Rattle.name_scope.specs.declared.thing.QuantityClass.{QuantityClass}
use Rattle.name_scope.specs.declared.thing.Subtype.{Subtype}
use Rattle.name_scope.specs.declared.thing.Thing.{Thing}
use Rattle.name_scope.specs.declared.thing.Thing.TheVariants as thing
use Rattle.name_scope.specs.Scopes.{lookup}
use Rattle.elab_meaning.specs.declared.fault.Cause.TheVariants.{NotStatic}
use Rattle.elab_meaning.specs.declared.fault.Fault.{Fault}
use Rattle.elab_meaning.specs.declared.fault.Notes.{Notes}
use Rattle.elab_meaning.specs.declared.typed.Context.{Context}
use Rattle.elab_meaning.specs.declared.typed.Typed.{Typed}
use Rattle.elab_meaning.specs.Notes.{Found, noted, wrong, changing, dotted}
use Rattle.elab_meaning.specs.Kinds.{unary_kind, binary_kind, is_vector, same_kind, value_type}
use Rattle.elab_meaning.specs.Names.{named, function_at, vector_at, element_at, element_of_name, indexed, applied, call_at, missing, index_range, dot, dot_at, above_at}
use Rattle.elab_meaning.specs.Expressions.{Reading, prefix, infix_of, prefixed, unary_at, joined, binary_at, parenthesized, asked, static_in, put, arguments, attribute_step, expr_step, expression, attribute}
use Rattle.unit_meaning.specs.Simultaneous.{dots_of_attribute, dots_step, dots_in}
use Rattle.design_meaning.specs.Value.{same_unknown}
use Rattle.design_rules.specs.Equations.{stands_at, stands_in}
use Rattle.reading_laws.specs.Growing.{Extends, Grows}
use Rattle.reading_laws.proofs.Growing.{grows_on, grows_changing, grows_dotted, grows_named, grows_call, grows_above, grows_asked, grows_unary, grows_binary, grows_paren}
use Rattle.reading_laws.proofs.Reading.{reading_adds_notes}
use Rattle.typed_laws.proofs.Flat.{at_unknown, at_unary, at_binary, at_call, at_index}
use Rattle.scope_laws.specs.Holds.{HasNoFaults}
use Rattle.selector_laws.specs.Selectors.{HasDot}
use Rattle.selector_laws.proofs.Dots.{dot_later, dot_wider, dot_noted, fine_before, short_before}

-- ---- where an unknown stands

abbrev pub In : FlatExpr → Unknown → Bool
In x u = stands_in u x

same_itself : (i : ℕ) → same_unknown (Dot i) (Dot i) ≡ true
same_itself i = grind (arith, nat_tests)

in_unary : (op : UnaryOperator) (k : ValueType) (a : FlatExpr) (u : Unknown) → In a u ≡ true → In (e.Unary op k a) u ≡ true
in_unary op k a u h = at_unary Bool (stands_at u) op k a ∙ h

in_call : (f : Function) (a : FlatExpr) (u : Unknown) → In a u ≡ true → In (e.Call f a) u ≡ true
in_call f a u h = at_call Bool (stands_at u) f a ∙ h

in_index : (a i : FlatExpr) (range : IndexRange) (u : Unknown) → In i u ≡ true → In (e.Index a i range) u ≡ true
in_index a i range u h = at_index Bool (stands_at u) a i range ∙ or_right (In a u) (In i u) h

in_left : (op : BinaryOperator) (k : ValueType) (a b : FlatExpr) (u : Unknown) → In a u ≡ true → In (e.Binary op k a b) u ≡ true
in_left op k a b u h = at_binary Bool (stands_at u) op k a b ∙ or_left (In a u) (In b u) h

in_right : (op : BinaryOperator) (k : ValueType) (a b : FlatExpr) (u : Unknown) → In b u ≡ true → In (e.Binary op k a b) u ≡ true
in_right op k a b u h = at_binary Bool (stands_at u) op k a b ∙ or_right (In a u) (In b u) h

in_itself : (i : ℕ) → In (e.Unknown (Dot i)) (Dot i) ≡ true
in_itself i = at_unknown Bool (stands_at (Dot i)) (Dot i) ∙ same_itself i

pub same_dots : (dots : List ℕ) → Extends ℕ dots dots
same_dots dots = record { more = []; whole = sym (append-nil dots) }

pub more_dots : (a b c : List ℕ) → Extends ℕ a b → Extends ℕ b c → Extends ℕ a c
more_dots a b c g h =
    record { more = g.more ++ h.more; whole = h.whole ∙ (ap (λ (l : List ℕ). l ++ h.more) g.whole ∙ append_assoc a g.more h.more) }

-- ---- names

in_append : (x : ℕ) (xs ys : List ℕ) → list_any (nat_eq x) (xs ++ ys) ≡ true → (list_any (nat_eq x) xs || list_any (nat_eq x) ys) ≡ true
in_append x xs ys h = sym (list_any-append (nat_eq x) xs ys) ∙ h

module _ (texts : List (List ℕ)) (scope : Scope) where
  -- of the names that are quantities each has its dot there, and the context isn't static
  abbrev pub StandsIn : Context → List ℕ → List ℕ → FlatExpr → Type 0
  StandsIn c dots names y =
      (x q : ℕ) (k : QuantityClass) → list_any (nat_eq x) names ≡ true → lookup scope x ≡ Some (thing.Quantity q k) → (c.is_static ≡ false) × HasDot (In y) dots q

  abbrev pub Shown : Context → List ℕ → List ℕ → Typed → Type 0
  Shown c dots names a = StandsIn c dots names a.expr

  -- what is shown of a reading, behind which no rule is broken and dots have room
  abbrev Shows : Context → List ℕ → Found → Type 0
  Shows c names f = HasNoFaults f.0 → length f.0.dots ≤ unknown_limit → IfSome f.1 (Shown c f.0.dots names)

  abbrev ExprShows : Expr → Type 0
  ExprShows x = (c : Context) (n : Notes) → Shows c (dots_in x) (expression texts scope x c n)

  abbrev attribute_dots : Attribute → ℕ → List ℕ
  attribute_dots = fold-Attribute (ℕ → List ℕ) (List ℕ) dots_of_attribute dots_step

  abbrev AttributeShows : Attribute → Type 0
  AttributeShows a = (x : Name) (c : Context) (n : Notes) → Shows c (attribute_dots a x.number) (attribute texts scope a x c n)

  abbrev ExprPart : Type 0
  ExprPart = (x : Expr) × ExprShows x

  abbrev AttributePart : Type 0
  AttributePart = (a : Attribute) × AttributeShows a

  -- where no dots are named
  nothing_named : (c : Context) (f : Found) → Shows c [] f
  nothing_named c f fine short = on f.1
    where
      on : (o : Option Typed) → IfSome o (Shown c f.0.dots [])
      on (Some t) = λ x q k h there. absurd (cc)
      on None = tt

  -- ---- further notes, and what holds the expression

  later : (c : Context) (names old new : List ℕ) (a b : FlatExpr) → Extends ℕ old new → ((v : Unknown) → In a v ≡ true → In b v ≡ true) → StandsIn c old names a → StandsIn c new names b
  later c names old new a b g w h x q k named there =
      let one = h x q k named there in
      (one.0, dot_later (In b) old new q g (dot_wider (In a) (In b) old q w one.1))

  prefixed_shown : (c : Context) (names : List ℕ) (op : UnaryOperator) (place : Place) (dots : List ℕ) (a : Typed) (k : Option Kind) (n : Notes) → Extends ℕ dots n.dots → Shown c dots names a
      → IfSome (prefixed op place a k n).1 (Shown c n.dots names)
  prefixed_shown c names op place dots a None n g h = tt
  prefixed_shown c names op place dots a (Some k) n g h = later c names dots n.dots a.expr (e.Unary op (value_type k) a.expr) g (in_unary op (value_type k) a.expr) h

  unary_shown : (c : Context) (names : List ℕ) (op : UnaryOperator) (place : Place) (dots : List ℕ) (a : Option Typed) (n : Notes) → Extends ℕ dots n.dots → IfSome a (Shown c dots names)
      → IfSome (unary_at op place a n).1 (Shown c (unary_at op place a n).0.dots names)
  unary_shown c names op place dots None n g h = tt
  unary_shown c names op place dots (Some a) n g h = on (unary_kind op a.kind)
    where
      on : (k : Option Kind) → IfSome (prefixed op place a k n).1 (Shown c (prefixed op place a k n).0.dots names)
      on None = tt
      on (Some k) = prefixed_shown c names op place dots a (Some k) n g h

  either_shown : (c : Context) (left right dots on : List ℕ) (op : BinaryOperator) (k : ValueType) (a b : FlatExpr) → Extends ℕ dots on → StandsIn c dots left a → StandsIn c on right b
      → StandsIn c on (left ++ right) (e.Binary op k a b)
  either_shown c left right dots on op k a b g h j x q class named there =
      ⊎_elim (λ old. later c left dots on a (e.Binary op k a b) g (in_left op k a b) h x q class old there)
      (λ new. later c right on on b (e.Binary op k a b) (same_dots on) (in_right op k a b) j x q class new there)
      (or_cases (list_any (nat_eq x) left) (list_any (nat_eq x) right) (in_append x left right named))

  binary_shown : (c : Context) (left right dots : List ℕ) (op : BinaryOperator) (a b : Option Typed) (n : Notes) → Extends ℕ dots n.dots → IfSome a (Shown c dots left) → IfSome b (Shown c n.dots right)
      → IfSome (binary_at op a b n).1 (Shown c (binary_at op a b n).0.dots (left ++ right))
  binary_shown c left right dots op None b n g h j = tt
  binary_shown c left right dots op (Some a) None n g h j = tt
  binary_shown c left right dots op (Some a) (Some b) n g h j = on (binary_kind op a.kind b.kind)
    where
      on : (k : Option Kind) → IfSome (joined op a b k n).1 (Shown c (joined op a b k n).0.dots (left ++ right))
      on None = tt
      on (Some k) = either_shown c left right dots n.dots op (value_type k) a.expr b.expr g h j

  -- ---- calls

  called_shown : (c : Context) (names dots : List ℕ) (x : Name) (y : Thing) (f : Option Function) (a : Typed) (n : Notes) → Extends ℕ dots n.dots → Shown c dots names a
      → IfSome (applied c x y f a n).1 (Shown c (applied c x y f a n).0.dots names)
  called_shown c names dots x y (Some f) a n g h = later c names dots n.dots a.expr (e.Call f a.expr) g (in_call f a.expr) h
  called_shown c names dots x y None a n g h = by_vector (vector_at y)
    where
      by_element : (s : Subtype) (v : Option Typed) (m : Notes) → Extends ℕ dots m.dots → IfSome (element_at x.place s a v m).1 (Shown c (element_at x.place s a v m).0.dots names)
      by_element s None m k = tt
      by_element s (Some v) m k = later c names dots m.dots a.expr (e.Index v.expr a.expr (index_range s.constraint)) k (in_index v.expr a.expr (index_range s.constraint)) h

      by_test : (s : Subtype) (b : Bool) → IfSome (if b then element_of_name c x s a y n else wrong x.place n).1 (Shown c (if b then element_of_name c x s a y n else wrong x.place n).0.dots names)
      by_test s false = tt
      by_test s true =
          let v = named c x (Some y) n in
          by_element s v.1 v.0 (more_dots dots n.dots v.0.dots g (grows_named c x (Some y) n).dots)

      by_vector : (s : Option Subtype) → IfSome (indexed c x y s a n).1 (Shown c (indexed c x y s a n).0.dots names)
      by_vector None = tt
      by_vector (Some s) = by_test s (is_vector s.kind && same_kind a.kind (Of t.Integer))

  call_with_one : (c : Context) (names dots : List ℕ) (x : Name) (y : Thing) (a : Typed) (n : Notes) → Extends ℕ dots n.dots → Shown c dots names a
      → IfSome (call_at c x (Some y) (Some (a ∷ [])) n).1 (Shown c (call_at c x (Some y) (Some (a ∷ [])) n).0.dots names)
  call_with_one c names dots x thing.Faulty a n g h = tt
  call_with_one c names dots x y a n g h = called_shown c names dots x y (function_at y a.kind) a n g h

  call_none : (c : Context) (names : List ℕ) (x : Name) (y : Thing) (n : Notes) → IfSome (call_at c x (Some y) None n).1 (Shown c (call_at c x (Some y) None n).0.dots names)
  call_none c names x thing.Faulty n = tt
  call_none c names x y n = tt

  one_argument : (c : Context) (names dots : List ℕ) (x : Name) (o : Option Thing) (a : Option Typed) (n : Notes) → Extends ℕ dots n.dots → IfSome a (Shown c dots names)
      → IfSome (call_at c x o (put (Some []) a) n).1 (Shown c (call_at c x o (put (Some []) a) n).0.dots names)
  one_argument c names dots x None a n g h = tt
  one_argument c names dots x (Some y) (Some a) n g h = call_with_one c names dots x y a n g h
  one_argument c names dots x (Some y) None n g h = call_none c names x y n

  -- two arguments or more
  abbrev Long : ℕ → List Typed → Type 0
  Long k all = 2 ≤ length all + k

  long_put : (k : ℕ) (so_far : Option (List Typed)) (a : Option Typed) → IfSome so_far (Long (suc k)) → IfSome (put so_far a) (Long k)
  long_put k (Some all) (Some a) h = let one : length (all ++ a ∷ []) ≡ length all + 1 = length-append all (a ∷ []) in omega arith
  long_put k (Some all) None h = tt
  long_put k None (Some a) h = tt
  long_put k None None h = tt

  long_arguments : (c : Context) (rs : List Reading) (so_far : Option (List Typed)) (n : Notes) → IfSome so_far (Long (length rs)) → IfSome (arguments c so_far rs n).1 (Long 0)
  long_arguments c [] so_far n h = h
  long_arguments c (r ∷ more) so_far n h = long_arguments c more (put so_far (r c n).1) (r c n).0 (long_put (length more) so_far (r c n).1 h)

  long_with : (c : Context) (x : Name) (y : Thing) (all : List Typed) (n : Notes) (R : Typed → Type 0) → 2 ≤ length all + 0 → IfSome (call_at c x (Some y) (Some all) n).1 R
  long_with c x thing.Faulty all n R h = tt
  long_with c x y [] n R h = tt
  long_with c x y (a ∷ []) n R h = absurd (omega arith)
  long_with c x y (a ∷ b ∷ more) n R h = tt

  long_none : (c : Context) (x : Name) (y : Thing) (n : Notes) (R : Typed → Type 0) → IfSome (call_at c x (Some y) None n).1 R
  long_none c x thing.Faulty n R = tt
  long_none c x y n R = tt

  long_call : (c : Context) (x : Name) (o : Option Thing) (all : Option (List Typed)) (n : Notes) (R : Typed → Type 0) → IfSome all (Long 0) → IfSome (call_at c x o all n).1 R
  long_call c x None all n R h = tt
  long_call c x (Some y) None n R h = long_none c x y n R
  long_call c x (Some y) (Some all) n R h = long_with c x y all n R h

  abbrev readings : List ExprPart → List Reading
  readings all = map (expression texts scope) (map (λ (p : ExprPart). p.0) all)

  abbrev names_of : List ExprPart → List ℕ
  names_of all = flat_map (λ (xs : List ℕ). xs) (map dots_in (map (λ (p : ExprPart). p.0) all))

  call_shows : (x : Name) (all : List ExprPart) (c : Context) (n : Notes) → Shows c (names_of all) (expr_step texts scope (Expr-F.Call x (readings all)) c n)
  call_shows x [] c n fine short = nothing_named c (expr_step texts scope (Expr-F.Call x []) c n) fine short
  call_shows x (p ∷ []) c n fine short =
      let start = missing x (lookup scope x.number) n in
      let found = expression texts scope p.0 c start in
      let whole = call_at c x (lookup scope x.number) (put (Some []) found.1) found.0 in
      let goes : Grows found.0 whole.0 = grows_call c x (lookup scope x.number) (put (Some []) found.1) found.0 in
      let one : IfSome found.1 (Shown c found.0.dots (dots_in p.0)) = p.1 c start (fine_before found.0 whole.0 goes fine) (short_before found.0 whole.0 goes short) in
      subst (λ (names : List ℕ). IfSome whole.1 (Shown c whole.0.dots names)) (sym (append-nil (dots_in p.0)))
      (one_argument c (dots_in p.0) found.0.dots x (lookup scope x.number) found.1 found.0 (same_dots found.0.dots) one)
  call_shows x (p ∷ q ∷ more) c n fine short =
      let start = missing x (lookup scope x.number) n in
      let read = arguments c (Some []) (readings (p ∷ q ∷ more)) start in
      long_call c x (lookup scope x.number) read.1 read.0 (Shown c (call_at c x (lookup scope x.number) read.1 read.0).0.dots (names_of (p ∷ q ∷ more)))
      (long_arguments c (readings (p ∷ q ∷ more)) (Some []) start (omega arith))

  -- ---- attributes

  not_added : (xs : List Fault) (x : Fault) → xs ++ x ∷ [] ≡ [] → ⊥
  not_added [] x h = absurd (cc)
  not_added (y ∷ xs) x h = absurd (cc)

  still : (c : Context) (place : Place) (n : Notes) → HasNoFaults (changing c place n) → c.is_static ≡ false
  still c place n h = go c.is_static refl h
    where
      go : (b : Bool) → c.is_static ≡ b → HasNoFaults (if b then noted place NotStatic n else n) → b ≡ false
      go true is k = absurd (not_added n.faults _ k)
      go false is k = refl

  dot_of : (c : Context) (x : Name) (q : ℕ) (k : QuantityClass) (n : Notes) → lookup scope x.number ≡ Some (thing.Quantity q k) → Shows c (x.number ∷ []) (dot c x q n)
  unfolding dot
  dot_of c x q k n is fine short y i class named there =
      let here = changing c x.place n in
      let same : y ≡ x.number = same_name y x.number named in
      let found : thing.Quantity q k ≡ thing.Quantity i class = some_same (sym is ∙ subst (λ (z : ℕ). lookup scope z ≡ Some (thing.Quantity i class)) same there) in (
        still c x.place n (fine_before here (dotted q here) (grows_dotted q here) fine),
        subst (HasDot (In (e.Unknown (Dot (number_of_dot q n.dots)))) (dotted q here).dots) (quantity_same q i k class found)
            (record {
              number = number_of_dot q n.dots;
              number_is = subst (λ (l : List ℕ). slice_get (dotted q here).dots (number_of_dot q l) ≡ Some q) (same_before c x.place n) (dot_noted q here short);
              stands = in_itself (number_of_dot q n.dots);
            }),
      )
    where
      same_before : (c : Context) (place : Place) (n : Notes) → (changing c place n).dots ≡ n.dots
      same_before c place n = go c.is_static
        where
          go : (b : Bool) → (if b then noted place NotStatic n else n).dots ≡ n.dots
          go true = refl
          go false = refl

      same_name : (a b : ℕ) → list_any (nat_eq a) (b ∷ []) ≡ true → a ≡ b
      same_name a b h = ⊎_elim (λ one. same_number a b one) (λ none. absurd (cc)) (or_cases (nat_eq a b) (list_any (nat_eq a) []) h)
        where
          same_number : (a b : ℕ) → nat_eq a b ≡ true → a ≡ b
          same_number a b h = grind (arith, nat_tests)

      some_same : {a b : Thing} → Some a ≡ Some b → a ≡ b
      some_same h = cc

      quantity_same : (a b : ℕ) (k l : QuantityClass) → thing.Quantity a k ≡ thing.Quantity b l → a ≡ b
      quantity_same a b k l h = cc

  dot_shows : (c : Context) (x : Name) (n : Notes) → Shows c (x.number ∷ []) (dot_at c x (lookup scope x.number) n)
  dot_shows c x n = go (lookup scope x.number) refl
    where
      go : (o : Option Thing) → lookup scope x.number ≡ o → Shows c (x.number ∷ []) (dot_at c x o n)
      go None is fine short = tt
      go (Some (thing.Quantity q k)) is fine short = dot_of c x q k n is fine short
      go (Some thing.Faulty) is fine short = tt
      go (Some _) is fine short = tt

  -- what is read before the run names no dots
  never_static : (c : Context) (dots names : List ℕ) (t u : Typed) (more : List ℕ) → Shown (static_in c) dots names t → Shown c more names u
  never_static c dots names t u more h x q k named there = absurd (no (h x q k named there).0)
    where
      no : true ≡ false → ⊥
      no h = absurd (cc)

  above_shows : (x : Name) (p : ExprPart) (c : Context) (n : Notes) → Shows c (dots_in p.0) (attribute_step scope (Attribute-F.Above (expression texts scope p.0)) x c n)
  above_shows x p c n fine short =
      let found = expression texts scope p.0 (static_in c) n in
      let level = asked found.1 found.0 in
      let here = changing c x.place level.0 in
      let whole = above_at x (lookup scope x.number) level.1 here in
      let goes : Grows found.0 whole.0 =
      grows_on found.0 level.0 whole.0 (grows_asked found.1 found.0) (grows_on level.0 here whole.0 (grows_changing c x.place level.0) (grows_above x (lookup scope x.number) level.1 here)) in
      by_found whole found.1 found.0.dots (p.1 (static_in c) n (fine_before found.0 whole.0 goes fine) (short_before found.0 whole.0 goes short))
      (λ none. no_level (lookup scope x.number) found.1 found.0 here none)
    where
      by_found : (whole : Found) (o : Option Typed) (dots : List ℕ) → IfSome o (Shown (static_in c) dots (dots_in p.0)) → (o ≡ None → IfSome whole.1 (λ t. ⊥)) → IfSome whole.1 (Shown c whole.0.dots (dots_in p.0))
      by_found whole (Some t) dots h none = on whole.1
        where
          on : (w : Option Typed) → IfSome w (Shown c whole.0.dots (dots_in p.0))
          on (Some u) = never_static c dots (dots_in p.0) t u whole.0.dots h
          on None = tt
      by_found whole None dots h none = on whole.1 (none refl)
        where
          on : (w : Option Typed) → IfSome w (λ t. ⊥) → IfSome w (Shown c whole.0.dots (dots_in p.0))
          on (Some u) k = absurd k
          on None k = tt

      none_at : (o : Option Thing) (m : Notes) → IfSome (above_at x o None m).1 (λ t. ⊥)
      none_at None m = tt
      none_at (Some thing.Faulty) m = tt
      none_at (Some _) m = tt

      no_level : (o : Option Thing) (f : Option Typed) (a m : Notes) → f ≡ None → IfSome (above_at x o (asked f a).1 m).1 (λ t. ⊥)
      no_level o None a m is = none_at o m
      no_level o (Some t) a m is = absurd (cc)

  attribute_lift : (y : Attribute-F Attribute Expr) (f : Name → Reading) (d : ℕ → List ℕ) → attribute texts scope (roll-Attribute y) ≡ f → attribute_dots (roll-Attribute y) ≡ d
      → ((x : Name) (c : Context) (n : Notes) → Shows c (d x.number) (f x c n)) → AttributeShows (roll-Attribute y)
  attribute_lift y f d is names h =
      subst (λ (g : Name → Reading). (x : Name) (c : Context) (n : Notes) → Shows c (attribute_dots (roll-Attribute y) x.number) (g x c n)) (sym is)
      (subst (λ (g : ℕ → List ℕ). (x : Name) (c : Context) (n : Notes) → Shows c (g x.number) (f x c n)) (sym names) h)

  abbrev attribute_of : Attribute-F AttributePart ExprPart → Attribute
  attribute_of y = roll-Attribute (map-Attribute AttributePart ExprPart Attribute Expr (λ p. p.0) (λ p. p.0) y)

  reads_as : (y : Attribute-F Attribute Expr) → attribute texts scope (roll-Attribute y) ≡ attribute_step scope (map-Attribute Attribute Expr (Name → Reading) Reading (attribute texts scope) (expression texts scope) y)
  reads_as y = fold-roll-Attribute (Name → Reading) Reading (attribute_step scope) (expr_step texts scope) y

  names_as : (y : Attribute-F Attribute Expr) → attribute_dots (roll-Attribute y) ≡ dots_of_attribute (map-Attribute Attribute Expr (ℕ → List ℕ) (List ℕ) attribute_dots dots_in y)
  names_as y = fold-roll-Attribute (ℕ → List ℕ) (List ℕ) dots_of_attribute dots_step y

  no_dots : (y : Attribute-F Attribute Expr) → dots_of_attribute (map-Attribute Attribute Expr (ℕ → List ℕ) (List ℕ) attribute_dots dots_in y) ≡ (λ x. []) → AttributeShows (roll-Attribute y)
  no_dots y none = attribute_lift y (attribute texts scope (roll-Attribute y)) (λ x. []) refl (names_as y ∙ none) (λ x c n. nothing_named c (attribute texts scope (roll-Attribute y) x c n))

  attribute_steps : (y : Attribute-F AttributePart ExprPart) → AttributeShows (attribute_of y)
  attribute_steps Attribute-F.Event = no_dots Attribute-F.Event refl
  attribute_steps Attribute-F.Dot =
      attribute_lift Attribute-F.Dot (attribute_step scope Attribute-F.Dot) (dots_of_attribute Attribute-F.Dot) (reads_as Attribute-F.Dot) (names_as Attribute-F.Dot) (λ x c n. dot_shows c x n)
  attribute_steps Attribute-F.Reference = no_dots Attribute-F.Reference refl
  attribute_steps (Attribute-F.Above p) =
      attribute_lift (Attribute-F.Above p.0) (attribute_step scope (Attribute-F.Above (expression texts scope p.0))) (dots_of_attribute (Attribute-F.Above (dots_in p.0))) (reads_as (Attribute-F.Above p.0))
      (names_as (Attribute-F.Above p.0)) (λ x c n. above_shows x p c n)
  attribute_steps (Attribute-F.Ramp None None) = no_dots (Attribute-F.Ramp None None) refl
  attribute_steps (Attribute-F.Ramp None (Some b)) = no_dots (Attribute-F.Ramp None (Some b.0)) refl
  attribute_steps (Attribute-F.Ramp (Some a) None) = no_dots (Attribute-F.Ramp (Some a.0) None) refl
  attribute_steps (Attribute-F.Ramp (Some a) (Some b)) = no_dots (Attribute-F.Ramp (Some a.0) (Some b.0)) refl

  -- ---- expressions

  abbrev expr_of : Expr-F AttributePart ExprPart → Expr
  expr_of y = roll-Expr (map-Expr AttributePart ExprPart Attribute Expr (λ p. p.0) (λ p. p.0) y)

  expr_reads : (y : Expr-F Attribute Expr) → expression texts scope (roll-Expr y) ≡ expr_step texts scope (map-Expr Attribute Expr (Name → Reading) Reading (attribute texts scope) (expression texts scope) y)
  expr_reads y = fold-roll-Expr (Name → Reading) Reading (attribute_step scope) (expr_step texts scope) y

  expr_names : (y : Expr-F Attribute Expr) → dots_in (roll-Expr y) ≡ dots_step (map-Expr Attribute Expr (ℕ → List ℕ) (List ℕ) attribute_dots dots_in y)
  expr_names y = fold-roll-Expr (ℕ → List ℕ) (List ℕ) dots_of_attribute dots_step y

  expr_lift : (y : Expr-F Attribute Expr) (f : Reading) (d : List ℕ) → expression texts scope (roll-Expr y) ≡ f → dots_in (roll-Expr y) ≡ d → ((c : Context) (n : Notes) → Shows c d (f c n)) → ExprShows (roll-Expr y)
  expr_lift y f d is names h =
      subst (λ (g : Reading). (c : Context) (n : Notes) → Shows c (dots_in (roll-Expr y)) (g c n)) (sym is)
      (subst (λ (l : List ℕ). (c : Context) (n : Notes) → Shows c l (f c n)) (sym names) h)

  no_names : (y : Expr-F Attribute Expr) → dots_step (map-Expr Attribute Expr (ℕ → List ℕ) (List ℕ) attribute_dots dots_in y) ≡ [] → ExprShows (roll-Expr y)
  no_names y none = expr_lift y (expression texts scope (roll-Expr y)) [] refl (expr_names y ∙ none) (λ c n. nothing_named c (expression texts scope (roll-Expr y) c n))

  paren_shows : (place : Place) (p : ExprPart) (c : Context) (n : Notes) → Shows c (dots_in p.0) (expr_step texts scope (Expr-F.Paren place (expression texts scope p.0)) c n)
  paren_shows place p c n fine short =
      let inner = expression texts scope p.0 c n in
      let whole = parenthesized place inner.1 inner.0 in
      let goes : Grows inner.0 whole.0 = grows_paren place inner.1 inner.0 in
      by_part inner.1 (p.1 c n (fine_before inner.0 whole.0 goes fine) (short_before inner.0 whole.0 goes short))
    where
      by_part : (o : Option Typed) → IfSome o (Shown c (expression texts scope p.0 c n).0.dots (dots_in p.0))
          → IfSome (parenthesized place o (expression texts scope p.0 c n).0).1 (Shown c (parenthesized place o (expression texts scope p.0 c n).0).0.dots (dots_in p.0))
      by_part None h = tt
      by_part (Some a) h = h

  unary_shows : (op : UnaryOperator) (place : Place) (p : ExprPart) (c : Context) (n : Notes)
      → Shows c (dots_in p.0) (unary_at op place (expression texts scope p.0 c n).1 (expression texts scope p.0 c n).0)
  unary_shows op place p c n fine short =
      let inner = expression texts scope p.0 c n in
      let whole = unary_at op place inner.1 inner.0 in
      let goes : Grows inner.0 whole.0 = grows_unary op place inner.1 inner.0 in
      unary_shown c (dots_in p.0) op place inner.0.dots inner.1 inner.0 (same_dots inner.0.dots) (p.1 c n (fine_before inner.0 whole.0 goes fine) (short_before inner.0 whole.0 goes short))

  binary_shows : (op : BinaryOperator) (p q : ExprPart) (c : Context) (n : Notes)
      → Shows c (dots_in p.0 ++ dots_in q.0)
      (binary_at op (expression texts scope p.0 c n).1 (expression texts scope q.0 c (expression texts scope p.0 c n).0).1 (expression texts scope q.0 c (expression texts scope p.0 c n).0).0)
  binary_shows op p q c n fine short =
      let left = expression texts scope p.0 c n in
      let right = expression texts scope q.0 c left.0 in
      let whole = binary_at op left.1 right.1 right.0 in
      let goes : Grows right.0 whole.0 = grows_binary op left.1 right.1 right.0 in
      let on : Grows left.0 right.0 = reading_adds_notes texts scope q.0 c left.0 in
      let fine_right : HasNoFaults right.0 = fine_before right.0 whole.0 goes fine in
      let short_right : length right.0.dots ≤ unknown_limit = short_before right.0 whole.0 goes short in
      binary_shown c (dots_in p.0) (dots_in q.0) left.0.dots op left.1 right.1 right.0 on.dots (p.1 c n (fine_before left.0 right.0 on fine_right) (short_before left.0 right.0 on short_right))
      (q.1 c left.0 fine_right short_right)

  expr_steps : (y : Expr-F AttributePart ExprPart) → ExprShows (expr_of y)
  expr_steps (Expr-F.Number x unit) = no_names (Expr-F.Number x unit) refl
  expr_steps (Expr-F.Literal x) = no_names (Expr-F.Literal x) refl
  expr_steps (Expr-F.Name x) = no_names (Expr-F.Name x) refl
  expr_steps (Expr-F.Call x all) =
      let y = Expr-F.Call x (map (λ (p : ExprPart). p.0) all) in
      expr_lift y (expr_step texts scope (Expr-F.Call x (readings all))) (names_of all) (expr_reads y) (expr_names y) (call_shows x all)
  expr_steps (Expr-F.Attribute x a) =
      let y = Expr-F.Attribute x a.0 in
      expr_lift y (expr_step texts scope (Expr-F.Attribute x (attribute texts scope a.0))) (attribute_dots a.0 x.number) (expr_reads y) (expr_names y) (λ c n. a.1 x c n)
  expr_steps (Expr-F.Paren place p) =
      let y = Expr-F.Paren place p.0 in
      expr_lift y (expr_step texts scope (Expr-F.Paren place (expression texts scope p.0))) (dots_in p.0) (expr_reads y) (expr_names y) (paren_shows place p)
  expr_steps (Expr-F.Unary op place p) =
      let y = Expr-F.Unary op place p.0 in
      expr_lift y (expr_step texts scope (Expr-F.Unary op place (expression texts scope p.0))) (dots_in p.0) (expr_reads y) (expr_names y) (unary_shows (prefix op) place p)
  expr_steps (Expr-F.Binary op p q) =
      let y = Expr-F.Binary op p.0 q.0 in
      expr_lift y (expr_step texts scope (Expr-F.Binary op (expression texts scope p.0) (expression texts scope q.0))) (dots_in p.0 ++ dots_in q.0) (expr_reads y) (expr_names y) (binary_shows (infix_of op) p q)

  pub expression_shows : (x : Expr) → ExprShows x
  expression_shows =
      ind-Expr AttributeShows ExprShows
      (λ x y is. subst (λ (z : Attribute-F Attribute Expr). AttributeShows (roll-Attribute z)) is (attribute_steps y))
      (λ x y is. subst (λ (z : Expr-F Attribute Expr). ExprShows (roll-Expr z)) is (expr_steps y))
