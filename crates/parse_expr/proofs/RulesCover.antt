-- Each rule of expressions is covered by its reading, with the kinds of token that begin it and that may follow.
use Rattle.std.proofs.Common.{◌≡◌, ◌⊎◌, ℕ, zero, suc, ◌<◌, Bool, true, false, IsTrue, List, [], ◌∷◌, ◌++◌, refl, sym, subst, inl, inr, arith, true≢false, length, Err, le_refl}
use Rattle.ams_token.specs.declared.token.Token.{Token}
use Rattle.ams_token.specs.declared.word.Word.TheVariants as w
use Rattle.ams_token.specs.declared.mark.Mark.TheVariants as m
use Rattle.ams_tree.specs.declared.expression.Name.{Name}
use Rattle.ams_tree.specs.declared.expression.BinaryOperator.{BinaryOperator}
use Rattle.ams_tree.specs.declared.expression.Expr.{Expr}
use Rattle.ams_tree.specs.Terminals.{of_class, mark, word, name_of, number_of, literal_of, multiplying, adding, shifting, sign, prefix, relating, event, dot, above}
use Rattle.ams_tree.specs.Rule.{Rule}
use Rattle.ams_tree.specs.Rule as rule
use Rattle.ams_tree.specs.Expressions as G
use Rattle.ams_tree.specs.Expressions.{nowhere, lower, allows}
use Rattle.parse_steps.specs.declared.reader.Stop.TheVariants.{TooDeep}
use Rattle.parse_steps.specs.Reading.{Parser}
use Rattle.parse_steps.specs.Reading as reading
use Rattle.parse_steps.proofs.Sets.{apart}
use Rattle.parse_steps.proofs.Covers.{Covers, pure_covers, token_covers, resized, nothing_covers, deep_covers, fresh_covers, no_tokens}
use Rattle.parse_steps.proofs.Covering.{then_, ends, reads, takes_, or_, again, fits, maybe}
use Rattle.parse_steps.proofs.KindSets.{W, M, class_tells, names, numbers, literals, multipliers, adders, shifters, signs, prefixes, relators, name_of_tells, number_of_tells, literal_of_tells, multiplying_tells, adding_tells, shifting_tells, sign_tells, prefix_tells, relating_tells}
use Rattle.parse_expr.specs.Parsing as R
use Rattle.parse_expr.specs.Parsing.{nested}

-- ---- the kinds of token that begin a text of a rule, and those with which a whole text may go on

-- a literal, a name or a parenthesis
abbrev pub primary_first : List ℕ
primary_first = M m.LeftParen ∷ 0 ∷ 1 ∷ 2 ∷ 3 ∷ 4 ∷ 5 ∷ 6 ∷ 7 ∷ 8 ∷ 9 ∷ []

-- a prefix operator, or a primary
abbrev pub factor_first : List ℕ
factor_first = W w.Abs ∷ W w.Not ∷ primary_first

-- a sign, or a factor
abbrev pub expr_first : List ℕ
expr_first = M m.Plus ∷ M m.Minus ∷ factor_first

-- arguments or a tick
abbrev pub name_next : List ℕ
name_next = M m.Tick ∷ M m.LeftParen ∷ []

-- a unit, arguments or a tick
abbrev pub primary_next : List ℕ
primary_next = 0 ∷ 1 ∷ 2 ∷ 3 ∷ 4 ∷ name_next

abbrev pub factor_next : List ℕ
factor_next = M m.DoubleStar ∷ primary_next

abbrev pub term_next : List ℕ
term_next = M m.Star ∷ M m.Slash ∷ W w.Mod ∷ W w.Rem ∷ factor_next

abbrev pub simple_next : List ℕ
simple_next = M m.Plus ∷ M m.Minus ∷ M m.Ampersand ∷ term_next

abbrev pub shift_next : List ℕ
shift_next = W w.Sll ∷ W w.Srl ∷ W w.Sla ∷ W w.Sra ∷ W w.Rol ∷ W w.Ror ∷ simple_next

abbrev pub rel_next : List ℕ
rel_next = M m.Equal ∷ M m.NotEqual ∷ M m.Less ∷ M m.LessEqual ∷ M m.Greater ∷ M m.GreaterEqual ∷ shift_next

abbrev pub expr_next : List ℕ
expr_next = W w.And ∷ W w.Or ∷ W w.Xor ∷ W w.Xnor ∷ W w.Nand ∷ W w.Nor ∷ rel_next

module _ (Over : Type 0) (allowed_rule allowed : Bool) (inner_rule : Rule Expr) (inner : Parser Expr) (over : IsTrue allowed_rule → allowed ≡ false → Over) (h : Covers Over false expr_first expr_next inner_rule inner) where
  opens : (cost : ℕ) → Covers Over false (M m.LeftParen ∷ []) [] (rule.terminal allowed_rule cost (mark m.LeftParen)) (reading.terminal allowed cost (mark m.LeftParen))
  opens cost = token_covers Over allowed_rule allowed cost (M m.LeftParen ∷ []) (mark m.LeftParen) (class_tells (M m.LeftParen)) over

  grouped : Covers Over false (M m.LeftParen ∷ []) [] (G.grouped allowed_rule inner_rule) (R.grouped allowed inner)
  unfolding G.grouped R.grouped
  grouped = then_ (opens 0) (λ place. then_ h (λ x. then_ (takes_ Over 0 (M m.RightParen)) (λ _. pure_covers Over (place, x)) refl) refl) refl

  arguments : (cost : ℕ) → Covers Over false (M m.LeftParen ∷ []) [] (G.arguments allowed_rule inner_rule cost) (R.arguments allowed inner cost)
  unfolding G.arguments R.arguments R.more_arguments
  arguments cost = then_ (opens cost) (λ _. then_ h (λ first. then_ (again (mark m.Comma) (class_tells (M m.Comma)) G.last (then_ (takes_ Over 0 (M m.Comma)) (λ _. h) refl) refl (first ∷ []))
      (λ all. then_ (takes_ Over 0 (M m.RightParen)) (λ _. pure_covers Over all) refl) refl) refl) refl

  ramp_times : Covers Over false (M m.LeftParen ∷ []) [] (G.ramp_times allowed_rule inner_rule) (R.ramp_times allowed inner)
  unfolding G.ramp_times R.ramp_times R.ramp_fall
  ramp_times = then_ (opens 0) (λ _. then_ h (λ rise. then_ (maybe (mark m.Comma) (class_tells (M m.Comma)) (then_ (takes_ Over 0 (M m.Comma)) (λ _. h) refl))
      (λ fall. then_ (takes_ Over 0 (M m.RightParen)) (λ _. pure_covers Over _) refl) refl) refl) refl

  attribute : Covers Over false (0 ∷ 1 ∷ W w.Reference ∷ 2 ∷ 3 ∷ []) (M m.LeftParen ∷ []) (G.attribute allowed_rule inner_rule) (R.attribute allowed inner)
  unfolding G.attribute R.attribute R.ramped
  attribute = or_ event (class_tells 0) (ends _ (takes_ Over 0 0))
      (or_ dot (class_tells 1) (ends _ (takes_ Over 0 1))
      (or_ (word w.Reference) (class_tells (W w.Reference)) (ends _ (takes_ Over 0 (W w.Reference)))
      (or_ above (class_tells 2) (then_ (takes_ Over 0 2) (λ _. ends _ grouped) refl)
      (then_ (takes_ Over 0 3) (λ _. or_ (mark m.LeftParen) (class_tells (M m.LeftParen)) ramp_times (pure_covers Over _) refl) refl) refl) refl) refl) refl

  pub named : (cost : ℕ) (x : Name) → Covers Over true (M m.LeftParen ∷ M m.Tick ∷ []) name_next (G.named allowed_rule inner_rule cost x) (R.named allowed inner cost x)
  unfolding G.named R.named
  named cost x = fits (M m.LeftParen ∷ M m.Tick ∷ []) name_next (or_ (mark m.LeftParen) (class_tells (M m.LeftParen)) (ends _ (arguments cost))
      (or_ (mark m.Tick) (class_tells (M m.Tick)) (then_ (takes_ Over cost (M m.Tick)) (λ _. ends _ attribute) refl) (pure_covers Over _) refl) refl) refl refl refl

  number : Covers Over false numbers names (G.number allowed_rule inner_rule) (R.number allowed inner)
  unfolding G.number R.number R.unit
  number = fits numbers names (then_ (reads Over 0 numbers number_of number_of_tells) (λ n. ends _ (maybe name_of name_of_tells (reads Over 0 names name_of name_of_tells))) refl) refl refl refl

  primary : Covers Over false primary_first primary_next (G.primary allowed_rule inner_rule) (R.primary allowed inner)
  unfolding G.primary R.primary
  primary = fits primary_first primary_next (or_ number_of number_of_tells number
      (or_ literal_of literal_of_tells (ends _ (reads Over 0 literals literal_of literal_of_tells))
      (or_ name_of name_of_tells (then_ (reads Over 0 names name_of name_of_tells) (named 1) refl) (ends _ grouped) refl) refl) refl) refl refl refl

  power : Covers Over false primary_first factor_next (G.power allowed_rule inner_rule) (R.power allowed inner)
  unfolding G.power R.power
  power = fits primary_first factor_next (then_ primary (λ base. or_ (mark m.DoubleStar) (class_tells (M m.DoubleStar)) (then_ (takes_ Over 1 (M m.DoubleStar)) (λ _. ends _ primary) refl) (pure_covers Over base) refl) refl) refl refl refl

  factor : Covers Over false factor_first factor_next (G.factor allowed_rule inner_rule) (R.factor allowed inner)
  unfolding G.factor R.factor
  factor = fits factor_first factor_next (or_ prefix prefix_tells (then_ (reads Over 1 prefixes prefix prefix_tells) (λ op. ends _ primary) refl) power refl) refl refl refl

  term : Covers Over false factor_first term_next (G.term allowed_rule inner_rule) (R.term allowed inner)
  unfolding G.term R.term R.more_factors
  term = fits factor_first term_next (then_ factor (λ first. again multiplying multiplying_tells G.linked (then_ (reads Over 1 multipliers multiplying multiplying_tells) (λ op. ends _ factor) refl) refl first) refl) refl refl refl

  signed : Covers Over false expr_first term_next (G.signed allowed_rule inner_rule) (R.signed allowed inner)
  unfolding G.signed R.signed
  signed = fits expr_first term_next (or_ sign sign_tells (then_ (reads Over 1 signs sign sign_tells) (λ op. ends _ term) refl) term refl) refl refl refl

  pub simple : Covers Over false expr_first simple_next (G.simple allowed_rule inner_rule) (R.simple allowed inner)
  unfolding G.simple R.simple R.more_terms
  simple = fits expr_first simple_next (then_ signed (λ first. again adding adding_tells G.linked (then_ (reads Over 1 adders adding adding_tells) (λ op. ends _ term) refl) refl first) refl) refl refl refl

  shift : Covers Over false expr_first shift_next (G.shift allowed_rule inner_rule) (R.shift allowed inner)
  unfolding G.shift R.shift
  shift = fits expr_first shift_next (then_ simple (λ left. or_ shifting shifting_tells (then_ (reads Over 1 shifters shifting shifting_tells) (λ op. ends _ simple) refl) (pure_covers Over left) refl) refl) refl refl refl

  rel : Covers Over false expr_first rel_next (G.rel allowed_rule inner_rule) (R.rel allowed inner)
  unfolding G.rel R.rel
  rel = fits expr_first rel_next (then_ shift (λ left. or_ relating relating_tells (then_ (reads Over 1 relators relating relating_tells) (λ op. ends _ shift) refl) (pure_covers Over left) refl) refl) refl refl refl

  once : (c : ℕ) (op : BinaryOperator) (left : Expr) → Covers Over false (c ∷ []) rel_next (G.once allowed_rule inner_rule (of_class c) op left) (R.once allowed inner (of_class c) op left)
  unfolding G.once R.once
  once c op left = then_ (takes_ Over 1 c) (λ _. ends _ rel) refl

  chain : (c : ℕ) (op : BinaryOperator) (left : Expr) → apart rel_next (c ∷ []) ≡ true → Covers Over false (c ∷ []) (c ∷ (rel_next ++ rel_next)) (G.chain allowed_rule inner_rule (of_class c) op left) (R.chain allowed inner (of_class c) op left)
  unfolding G.chain R.chain R.more_links
  chain c op left sep = then_ (once c op left) (λ first. again (of_class c) (class_tells c) _ (then_ (takes_ Over 1 c) (λ _. rel) refl) sep first) sep

  pub logical : Covers Over false expr_first expr_next (G.logical allowed_rule inner_rule) (R.logical allowed inner)
  unfolding G.logical R.logical R.more_relations
  logical = fits expr_first expr_next (then_ rel (λ left.
      or_ (word w.And) (class_tells (W w.And)) (chain (W w.And) _ left refl)
      (or_ (word w.Or) (class_tells (W w.Or)) (chain (W w.Or) _ left refl)
      (or_ (word w.Xor) (class_tells (W w.Xor)) (chain (W w.Xor) _ left refl)
      (or_ (word w.Xnor) (class_tells (W w.Xnor)) (chain (W w.Xnor) _ left refl)
      (or_ (word w.Nand) (class_tells (W w.Nand)) (once (W w.Nand) _ left)
      (or_ (word w.Nor) (class_tells (W w.Nor)) (once (W w.Nor) _ left)
      (pure_covers Over left) refl) refl) refl) refl) refl) refl) refl) refl refl refl

-- ---- to any depth

pub expr_is : (d : ℕ) → G.expr d ≡ G.logical (allows d) (lower G.expr d)
unfolding G.expr
expr_is zero = refl
expr_is (suc d) = refl

pub over_levels : (d n : ℕ) → IsTrue (allows d) → allows n ≡ false → n < d
over_levels zero n ok e = absurd (true≢false (sym ok))
over_levels (suc d) zero ok e = omega arith
over_levels (suc d) (suc n) ok e = absurd (true≢false e)

nothing_begins : (ts : List Token) (n : ℕ) → (nowhere {A = Expr}).begins ts n → ts ≡ []
nothing_begins ts n b = b.tokens

-- with no level left
none_left : (d : ℕ) → Covers (0 < d) false expr_first expr_next (lower G.expr d) (nested 0)
unfolding nested
none_left zero = deep_covers (0 < 0) expr_first expr_next nowhere (λ a ts n s. absurd s) (λ a t ts n s. absurd s) (λ t ts n b. absurd (cons_nil t ts b.tokens)) (λ t ts n b. absurd (cons_nil t ts b.tokens)) (λ a n s. s) (λ a ts n s. absurd s)
    (λ ts us n b. (n, le_refl n, record { tokens = no_tokens ts us b.tokens; count = b.count }))
  where
    cons_nil : (t : Token) (ts : List Token) → t ∷ ts ≡ [] → ⊥
    cons_nil t ts e = cc
none_left (suc d) = go (none_left d)
  where
    go : Covers (0 < d) false expr_first expr_next (lower G.expr d) (nested 0) → Covers (0 < suc d) false expr_first expr_next (G.expr d) (λ s. Err (TooDeep (length s.rest)))
    go h =
        let more : 0 < d → 0 < suc d = λ o. omega (arith, o) in
        let one : 0 < suc d = omega arith in
        let c = subst (λ L. Covers (0 < suc d) false expr_first expr_next L (R.logical false (nested 0))) (sym (expr_is d))
        (logical (0 < suc d) (allows d) false (lower G.expr d) (nested 0) (λ ok e. one) (resized more expr_first expr_next h refl refl refl)) in
        deep_covers (0 < suc d) expr_first expr_next (G.expr d) (λ a ts n s. one) c.first_spelled c.first_begun (λ t ts n b. one) (λ a n s. true≢false (sym (c.empty_spelled a n s))) c.whole c.fronts

one_more : (n : ℕ) → ((d : ℕ) → Covers (n < d) false expr_first expr_next (lower G.expr d) (nested n)) → (d : ℕ) → Covers (suc n < suc d) false expr_first expr_next (G.expr d) (nested (suc n))
unfolding nested
one_more n h d =
    let more : n < d → suc n < suc d = λ o. omega (arith, o) in
    subst (λ L. Covers (suc n < suc d) false expr_first expr_next L (R.logical (allows n) (nested n))) (sym (expr_is d))
    (logical (suc n < suc d) (allows d) (allows n) (lower G.expr d) (nested n) (λ ok e. more (over_levels d n ok e)) (resized more expr_first expr_next (h d) refl refl refl))

pub nested_covers : (n d : ℕ) → Covers (n < d) false expr_first expr_next (lower G.expr d) (nested n)
nested_covers zero d = none_left d
nested_covers (suc n) zero = nothing_covers (one_more n (nested_covers n) 0) (λ a ts k s. s) nothing_begins
nested_covers (suc n) (suc d) = one_more n (nested_covers n) d

pub expr_covers : (n d : ℕ) → Covers (n < d) false expr_first expr_next (G.expr d) (R.expr n)
unfolding R.expr
expr_covers n d =
    subst (λ L. Covers (n < d) false expr_first expr_next L (R.logical (allows n) (nested n))) (sym (expr_is d))
    (logical (n < d) (allows d) (allows n) (lower G.expr d) (nested n) (over_levels d n) (nested_covers n d))

pub expression_covers : (c n l d : ℕ) → Covers ((n < d) ⊎ (c < l)) false expr_first expr_next (G.expression l d) (R.expression c n)
unfolding R.expression
expression_covers c n l d = fresh_covers _ l c (λ o. inl o) (λ o. inr o) (expr_covers n d)

pub simple_expression_covers : (c n l d : ℕ) → Covers ((n < d) ⊎ (c < l)) false expr_first simple_next (G.simple_expression l d) (R.simple_expression c n)
unfolding R.simple_expression R.simple_expr G.simple_expr
simple_expression_covers c n l d = fresh_covers _ l c (λ o. inl o) (λ o. inr o) (simple (n < d) (allows d) (allows n) (lower G.expr d) (nested n) (over_levels d n) (nested_covers n d))

pub listed_name_covers : (c n l d : ℕ) → Covers ((n < d) ⊎ (c < l)) false names name_next (G.listed_name l d) (R.listed_name c n)
unfolding R.listed_name G.listed_name
listed_name_covers c n l d = fits names name_next (then_ (reads _ 0 names name_of name_of_tells)
    (named ((n < d) ⊎ (c < l)) (allows d) (allows n) _ _ (λ ok e. inl (over_levels d n ok e)) (fresh_covers _ l c (λ o. inl o) (λ o. inr o) (nested_covers n d)) 0) refl) refl refl refl
