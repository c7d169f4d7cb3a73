-- What reading does with an identifier before a mark that does not go on with it.
use Rattle.std.proofs.Common.{◌≡◌, ℕ, zero, suc, Bool, true, false, List, [], ◌∷◌, length, Some, None, Ok, refl, sym, ap, subst, inl, inr, arith, true≢false, append-nil}
use Rattle.ams_token.specs.declared.token.Token.{Token}
use Rattle.ams_token.specs.declared.token.TokenKind.{TokenKind}
use Rattle.ams_token.specs.declared.token.TokenKind.TheVariants as kind
use Rattle.ams_token.specs.declared.word.Word.TheVariants as w
use Rattle.ams_token.specs.declared.mark.Mark.{Mark}
use Rattle.ams_token.specs.declared.mark.Mark.TheVariants as m
use Rattle.ams_token.specs.Classes.{class, kind_class}
use Rattle.ams_tree.specs.declared.expression.Name.{Name}
use Rattle.ams_tree.specs.declared.expression.Expr.{Expr}
use Rattle.ams_tree.specs.declared.expression.Expr.TheVariants as e
use Rattle.ams_tree.specs.declared.concurrent.Equation.{Equation}
use Rattle.ams_tree.specs.declared.concurrent.ConcurrentStatement.TheVariants as conc
use Rattle.ams_tree.specs.declared.concurrent.Concurrent.{Concurrent}
use Rattle.ams_tree.specs.declared.concurrent.Association.TheVariants as association
use Rattle.ams_tree.specs.Terminals as terminals
use Rattle.ams_tree.specs.Terminals.{name_of}
use Rattle.ams_tree.specs.Rule.{Rule, SpellsNothing, ◌>>=◌, one}
use Rattle.ams_tree.specs.Expressions as G
use Rattle.ams_tree.specs.Expressions.{allows, lower}
use Rattle.parse_steps.specs.Reading.{state, Parser, and_then}
use Rattle.parse_steps.specs.Reading as reading
use Rattle.parse_steps.proofs.Sets.{has, starts}
use Rattle.parse_steps.proofs.Covers.{left}
use Rattle.parse_steps.proofs.KindSets.{M, names}
use Rattle.parse_expr.specs.Parsing as P
use Rattle.parse_expr.proofs.RulesCover.{expr_is, simple_next, expr_next, simple_expression_covers, expression_covers}
use Rattle.parse_parts.proofs.Levels.{Exceeded}
use Rattle.parse_conc.specs.Parsing as R
use Rattle.parse_conc.proofs.Choice.{name_seen, exactly_read}

-- ---- tokens by their kind

abbrev pub token : TokenKind → Token → Token
token k t = record t { kind = k }

a_name : (k : TokenKind) → has names (kind_class k) ≡ true → (n : ℕ) × (k ≡ kind.Name n)
a_name (kind.Name n) e = (n, refl)
a_name (kind.Int x) e = absurd (true≢false (sym e))
a_name (kind.Real x) e = absurd (true≢false (sym e))
a_name (kind.Char x) e = absurd (true≢false (sym e))
a_name (kind.Str x) e = absurd (true≢false (sym e))
a_name (kind.Bits x) e = absurd (true≢false (sym e))
a_name (kind.Word w.Abs) e = absurd (true≢false (sym e))
a_name (kind.Word _) e = absurd (true≢false (sym e))
a_name (kind.Mark m.Comma) e = absurd (true≢false (sym e))
a_name (kind.Mark _) e = absurd (true≢false (sym e))

-- the only kind of this number
abbrev IsMark : Mark → Type 0
IsMark x = (k : TokenKind) → has (M x ∷ []) (kind_class k) ≡ true → k ≡ kind.Mark x

is_arrow : IsMark m.Arrow
is_arrow (kind.Name zero) e = absurd (true≢false (sym e))
is_arrow (kind.Name (suc zero)) e = absurd (true≢false (sym e))
is_arrow (kind.Name (suc (suc zero))) e = absurd (true≢false (sym e))
is_arrow (kind.Name (suc (suc (suc zero)))) e = absurd (true≢false (sym e))
is_arrow (kind.Name (suc (suc (suc (suc n))))) e = absurd (true≢false (sym e))
is_arrow (kind.Mark m.Arrow) e = refl
is_arrow (kind.Mark _) e = absurd (true≢false (sym e))
is_arrow (kind.Word w.Abs) e = absurd (true≢false (sym e))
is_arrow (kind.Word _) e = absurd (true≢false (sym e))
is_arrow _ e = absurd (true≢false (sym e))

is_less_equal : IsMark m.LessEqual
is_less_equal (kind.Name zero) e = absurd (true≢false (sym e))
is_less_equal (kind.Name (suc zero)) e = absurd (true≢false (sym e))
is_less_equal (kind.Name (suc (suc zero))) e = absurd (true≢false (sym e))
is_less_equal (kind.Name (suc (suc (suc zero)))) e = absurd (true≢false (sym e))
is_less_equal (kind.Name (suc (suc (suc (suc n))))) e = absurd (true≢false (sym e))
is_less_equal (kind.Mark m.LessEqual) e = refl
is_less_equal (kind.Mark _) e = absurd (true≢false (sym e))
is_less_equal (kind.Word w.Abs) e = absurd (true≢false (sym e))
is_less_equal (kind.Word _) e = absurd (true≢false (sym e))
is_less_equal _ e = absurd (true≢false (sym e))

is_colon : IsMark m.Colon
is_colon (kind.Name zero) e = absurd (true≢false (sym e))
is_colon (kind.Name (suc zero)) e = absurd (true≢false (sym e))
is_colon (kind.Name (suc (suc zero))) e = absurd (true≢false (sym e))
is_colon (kind.Name (suc (suc (suc zero)))) e = absurd (true≢false (sym e))
is_colon (kind.Name (suc (suc (suc (suc n))))) e = absurd (true≢false (sym e))
is_colon (kind.Mark m.Colon) e = refl
is_colon (kind.Mark _) e = absurd (true≢false (sym e))
is_colon (kind.Word w.Abs) e = absurd (true≢false (sym e))
is_colon (kind.Word _) e = absurd (true≢false (sym e))
is_colon _ e = absurd (true≢false (sym e))

-- ---- an identifier is an expression

nothing_more : {A B : Type 0} (L : Rule A) (M : A → Rule B) (a : A) (b : B) (ts : List Token) → L.spells a ts 0 → (M a).spells b [] 0 → (L >>= M).spells b ts 0
nothing_more L M a b ts s e = record { first = a; front = ts; back = []; front_count = 0; back_count = 0; tokens = sym (append-nil ts); count = refl; spells_front = s; spells_back = e }

nothing : {A : Type 0} (a : A) → SpellsNothing a a [] 0
nothing a = record { tree = refl; tokens = refl; count = refl }

module _ (allowed : Bool) (inner : Rule Expr) (t : Token) (x : Name) (is : name_of t ≡ Some x) where
  primary_name : (G.primary allowed inner).spells (e.Name x) (t ∷ []) 0
  unfolding G.primary G.named
  primary_name = inr (inr (inl (nothing_more (one name_of) (G.named allowed inner 1) x _ (t ∷ []) (record { token = t; tokens = refl; tree = is; count = refl; allows = refl }) (inr (inr (nothing _))))))

  factor_name : (G.factor allowed inner).spells (e.Name x) (t ∷ []) 0
  unfolding G.factor G.power
  factor_name = inr (nothing_more (G.primary allowed inner) _ (e.Name x) _ (t ∷ []) primary_name (inr (nothing _)))

  simple_name : (G.simple allowed inner).spells (e.Name x) (t ∷ []) 0
  unfolding G.simple G.signed G.term
  simple_name = nothing_more (G.signed allowed inner) _ (e.Name x) _ (t ∷ [])
      (inr (nothing_more (G.factor allowed inner) _ (e.Name x) _ (t ∷ []) factor_name ([], refl, record { tokens = refl; count = refl })))
      ([], refl, record { tokens = refl; count = refl })

  logical_name : (G.logical allowed inner).spells (e.Name x) (t ∷ []) 0
  unfolding G.logical G.rel G.shift
  logical_name = nothing_more (G.rel allowed inner) _ (e.Name x) _ (t ∷ [])
      (nothing_more (G.shift allowed inner) _ (e.Name x) _ (t ∷ []) (nothing_more (G.simple allowed inner) _ (e.Name x) _ (t ∷ []) simple_name (inr (nothing _))) (inr (nothing _)))
      (inr (inr (inr (inr (inr (inr (nothing _)))))))

module _ (l d : ℕ) (t : Token) (is : has names (class t) ≡ true) where
  pub a_simple_expression : (x : Expr) × (G.simple_expression l d).spells x (t ∷ []) 0
  unfolding G.simple_expr
  a_simple_expression = let x = name_seen t is in (e.Name x.0, record { inside = 0; within = omega arith; spells = simple_name (allows d) (lower G.expr d) t x.0 x.1; count = refl })

  pub an_expression : (x : Expr) × (G.expression l d).spells x (t ∷ []) 0
  an_expression =
      let x = name_seen t is in
      (e.Name x.0, record { inside = 0; within = omega arith; spells = subst (λ L. L.spells (e.Name x.0) (t ∷ []) 0) (sym (expr_is d)) (logical_name (allows d) (lower G.expr d) t x.0 x.1); count = refl })

-- a rule does not have more levels or operators than itself
pub not_exceeded : (l d : ℕ) → Exceeded l d l d → ⊥
not_exceeded l d (inl o) = omega (arith, o)
not_exceeded l d (inr o) = omega (arith, o)

module _ (l d : ℕ) (t : Token) (is : has names (class t) ≡ true) (us : List Token) (c : ℕ) where
  simple_read : starts simple_next us ≡ false → (x : Expr) × (P.simple_expression l d (state (t ∷ us) c) ≡ Ok (x, state us c))
  simple_read stops = let x = a_simple_expression l d t is in (x.0, exactly_read (not_exceeded l d) x.0 us c _ stops ((simple_expression_covers l d l d).spelled x.0 (t ∷ []) 0 x.1 us c))

  expression_read : starts expr_next us ≡ false → (x : Expr) × (P.expression l d (state (t ∷ us) c) ≡ Ok (x, state us c))
  expression_read stops = let x = an_expression l d t is in (x.0, exactly_read (not_exceeded l d) x.0 us c _ stops ((expression_covers l d l d).spelled x.0 (t ∷ []) 0 x.1 us c))

-- ---- what is read is that identifier alone

-- no more than the identifier is taken
abbrev StopsAt : {A : Type 0} → Mark → Parser A → Type 0
StopsAt x Q = (t u : Token) (ts : List Token) (c : ℕ) → has names (class t) ≡ true → has (M x ∷ []) (class u) ≡ true → left (Q (state (t ∷ u ∷ ts) c)) ≡ suc (length ts)

-- the same of tokens of these kinds
abbrev KindsStop : {A : Type 0} → Mark → Parser A → Type 0
KindsStop x Q = (n : ℕ) (p q : Token) (ts : List Token) (c : ℕ) → left (Q (state (token (kind.Name n) p ∷ token (kind.Mark x) q ∷ ts) c)) ≡ suc (length ts)

stops_at : {A : Type 0} (x : Mark) (Q : Parser A) → IsMark x → KindsStop x Q → StopsAt x Q
stops_at x Q is h t u ts c e f =
    let k = a_name t.kind e in
    subst (λ y. left (Q (state (token y t ∷ u ∷ ts) c)) ≡ suc (length ts)) (sym k.1)
    (subst (λ y. left (Q (state (token (kind.Name k.0) t ∷ token y u ∷ ts) c)) ≡ suc (length ts)) (sym (is u.kind f)) (h k.0 t u ts c))

named_kind : (n : ℕ) → has names (kind_class (kind.Name n)) ≡ true
named_kind zero = refl
named_kind (suc zero) = refl
named_kind (suc (suc zero)) = refl
named_kind (suc (suc (suc zero))) = refl
named_kind (suc (suc (suc (suc n)))) = refl

-- what stands behind the left side of an equation
abbrev right_side : ℕ → ℕ → Expr → Parser Equation
right_side l d x = reading.◌>>◌ (reading.one (terminals.mark m.DoubleEqual)) (reading.◌>>=◌ (P.simple_expression l d) (λ y. reading.◌>>◌ (reading.one (terminals.mark m.Semicolon)) (reading.pure (record { left = x; right = y }))))

module _ (l d : ℕ) where
  actual_kinds : KindsStop m.Arrow (R.actual l d None)
  unfolding R.actual terminals.of_class
  actual_kinds n p q ts c = go n
    where
      behind : (n : ℕ) → left (and_then (P.expression l d (state (token (kind.Name n) p ∷ token (kind.Mark m.Arrow) q ∷ ts) c)) (λ x. reading.pure (association.Actual None x))) ≡ suc (length ts)
      behind n = ap (λ o. left (and_then o (λ x. reading.pure (association.Actual None x)))) (expression_read l d (token (kind.Name n) p) (named_kind n) (token (kind.Mark m.Arrow) q ∷ ts) c refl).1

      go : (n : ℕ) → left (R.actual l d None (state (token (kind.Name n) p ∷ token (kind.Mark m.Arrow) q ∷ ts) c)) ≡ suc (length ts)
      go zero = behind zero
      go (suc zero) = behind 1
      go (suc (suc zero)) = behind 2
      go (suc (suc (suc zero))) = behind 3
      go (suc (suc (suc (suc n)))) = behind (suc (suc (suc (suc n))))

  pub equation_stops : StopsAt m.LessEqual (reading.◌>>=◌ (R.equation l d) (λ x. reading.pure (conc.Equation x)))
  unfolding R.equation terminals.of_class
  equation_stops = stops_at m.LessEqual (reading.◌>>=◌ (R.equation l d) (λ x. reading.pure (conc.Equation x))) is_less_equal
      (λ n p q ts c. ap (λ o. left (and_then (and_then o (right_side l d)) (λ x. reading.pure (conc.Equation x)))) (simple_read l d (token (kind.Name n) p) (named_kind n) (token (kind.Mark m.LessEqual) q ∷ ts) c refl).1)

  pub actual_stops : StopsAt m.Arrow (R.actual l d None)
  actual_stops = stops_at m.Arrow (R.actual l d None) is_arrow actual_kinds

  -- without a label
  abbrev bare : Parser Concurrent
  bare = reading.◌>>=◌ (R.unlabelled l d) (λ x. reading.pure (record { label = None; statement = x }))

  unlabelled_kinds : KindsStop m.Colon bare
  unfolding R.unlabelled R.assignment_or_equation R.equation R.name_then terminals.of_class terminals.name_of
  unlabelled_kinds n p q ts c = go n
    where
      behind : (n : ℕ) → left (and_then (and_then (R.equation l d (state (token (kind.Name n) p ∷ token (kind.Mark m.Colon) q ∷ ts) c)) (λ x. reading.pure (conc.Equation x))) (λ x. reading.pure {A = Concurrent} (record { label = None; statement = x }))) ≡ suc (length ts)
      behind n = ap (λ o. left (and_then (and_then (and_then o (right_side l d)) (λ x. reading.pure (conc.Equation x))) (λ x. reading.pure {A = Concurrent} (record { label = None; statement = x }))))
          (simple_read l d (token (kind.Name n) p) (named_kind n) (token (kind.Mark m.Colon) q ∷ ts) c refl).1

      go : (n : ℕ) → left (bare (state (token (kind.Name n) p ∷ token (kind.Mark m.Colon) q ∷ ts) c)) ≡ suc (length ts)
      go zero = behind zero
      go (suc zero) = behind 1
      go (suc (suc zero)) = behind 2
      go (suc (suc (suc zero))) = behind 3
      go (suc (suc (suc (suc n)))) = behind (suc (suc (suc (suc n))))

  pub unlabelled_stops : StopsAt m.Colon bare
  unlabelled_stops = stops_at m.Colon bare is_colon unlabelled_kinds
