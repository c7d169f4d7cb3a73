-- What is read by the rules of expressions is a text of them.
use Rattle.std.proofs.Common.{◌≡◌, ℕ, zero, suc, ◌<◌, ◌≤◌, Bool, true, IsTrue, [], ◌∷◌, Option, refl, sym, subst, arith, true≢false}
use Rattle.ams_token.specs.declared.token.Place.{Place}
use Rattle.ams_token.specs.declared.token.Token.{Token}
use Rattle.ams_token.specs.declared.word.Word.TheVariants as w
use Rattle.ams_token.specs.declared.mark.Mark.TheVariants as m
use Rattle.ams_tree.specs.declared.expression.Name.{Name}
use Rattle.ams_tree.specs.declared.expression.BinaryOperator.{BinaryOperator}
use Rattle.ams_tree.specs.declared.expression.Expr.{Expr}
use Rattle.ams_tree.specs.Terminals.{mark, word, name_of, number_of, literal_of, multiplying, adding, shifting, sign, prefix, relating, event, dot, above}
use Rattle.ams_tree.specs.Rule.{Rule}
use Rattle.ams_tree.specs.Expressions as G
use Rattle.ams_tree.specs.Expressions.{lower, allows}
use Rattle.parse_steps.specs.Reading.{Parser}
use Rattle.parse_steps.proofs.Sound.{Sound, pure_sound, token_sound, opened_sound, sound_over, fresh_sound}
use Rattle.parse_steps.proofs.Sounding.{then_, ends, free, op_, or_, again, maybe}
use Rattle.parse_expr.specs.Parsing as R
use Rattle.parse_expr.specs.Parsing.{nested}
use Rattle.parse_expr.proofs.RulesCover.{expr_is}

module _ (Over : Type 0) (allowed_rule allowed : Bool) (deeper : Rule Expr) (inner : Parser Expr) (may : allowed ≡ true → IsTrue allowed_rule) (over : Over → IsTrue allowed_rule) (h : allowed ≡ true → Sound Over deeper inner) where
  grouped : Sound Over (G.grouped allowed_rule deeper) (R.grouped allowed inner)
  unfolding G.grouped R.grouped
  grouped = opened_sound Over allowed_rule allowed 0 (mark m.LeftParen) may over (omega arith) _ _ (λ e place. then_ (h e) (λ x. then_ (free Over _) (λ _. pure_sound Over (place, x))))

  arguments : (cost : ℕ) → cost ≤ 1 → Sound Over (G.arguments allowed_rule deeper cost) (R.arguments allowed inner cost)
  unfolding G.arguments R.arguments R.more_arguments
  arguments cost small = opened_sound Over allowed_rule allowed cost (mark m.LeftParen) may over small _ _ (λ e _. then_ (h e) (λ first. then_ (again (mark m.Comma) G.last (then_ (free Over _) (λ _. h e)) (first ∷ []))
      (λ all. then_ (free Over _) (λ _. pure_sound Over all))))

  ramp_times : Sound Over (G.ramp_times allowed_rule deeper) (R.ramp_times allowed inner)
  unfolding G.ramp_times R.ramp_times R.ramp_fall
  ramp_times = opened_sound Over allowed_rule allowed 0 (mark m.LeftParen) may over (omega arith) _ _ (λ e _. then_ (h e) (λ rise. then_ (maybe (mark m.Comma) (then_ (free Over _) (λ _. h e)))
      (λ fall. then_ (free Over _) (λ _. pure_sound Over _))))

  attribute : Sound Over (G.attribute allowed_rule deeper) (R.attribute allowed inner)
  unfolding G.attribute R.attribute R.ramped
  attribute = or_ event (ends _ (free Over _)) (or_ dot (ends _ (free Over _)) (or_ (word w.Reference) (ends _ (free Over _)) (or_ above (then_ (free Over _) (λ _. ends _ grouped))
      (then_ (free Over _) (λ _. or_ (mark m.LeftParen) ramp_times (pure_sound Over _))))))

  pub named : (cost : ℕ) → cost ≤ 1 → (x : Name) → Sound Over (G.named allowed_rule deeper cost x) (R.named allowed inner cost x)
  unfolding G.named R.named
  named cost small x = or_ (mark m.LeftParen) (ends _ (arguments cost small)) (or_ (mark m.Tick) (then_ (token_sound Over true true cost (mark m.Tick) (λ e. refl) (λ o. refl) small) (λ _. ends _ attribute)) (pure_sound Over _))

  number : Sound Over (G.number allowed_rule deeper) (R.number allowed inner)
  unfolding G.number R.number R.unit
  number = then_ (free Over _) (λ n. ends _ (maybe name_of (free Over _)))

  primary : Sound Over (G.primary allowed_rule deeper) (R.primary allowed inner)
  unfolding G.primary R.primary
  primary = or_ number_of number (or_ literal_of (ends _ (free Over _)) (or_ name_of (then_ (free Over _) (named 1 (omega arith))) (ends _ grouped)))

  power : Sound Over (G.power allowed_rule deeper) (R.power allowed inner)
  unfolding G.power R.power
  power = then_ primary (λ base. or_ (mark m.DoubleStar) (then_ (op_ Over _) (λ _. ends _ primary)) (pure_sound Over base))

  factor : Sound Over (G.factor allowed_rule deeper) (R.factor allowed inner)
  unfolding G.factor R.factor
  factor = or_ prefix (then_ (op_ Over _) (λ op. ends _ primary)) power

  term : Sound Over (G.term allowed_rule deeper) (R.term allowed inner)
  unfolding G.term R.term R.more_factors
  term = then_ factor (λ first. again multiplying G.linked (then_ (op_ Over _) (λ op. ends _ factor)) first)

  signed : Sound Over (G.signed allowed_rule deeper) (R.signed allowed inner)
  unfolding G.signed R.signed
  signed = or_ sign (then_ (op_ Over _) (λ op. ends _ term)) term

  pub simple : Sound Over (G.simple allowed_rule deeper) (R.simple allowed inner)
  unfolding G.simple R.simple R.more_terms
  simple = then_ signed (λ first. again adding G.linked (then_ (op_ Over _) (λ op. ends _ term)) first)

  shift : Sound Over (G.shift allowed_rule deeper) (R.shift allowed inner)
  unfolding G.shift R.shift
  shift = then_ simple (λ left. or_ shifting (then_ (op_ Over _) (λ op. ends _ simple)) (pure_sound Over left))

  rel : Sound Over (G.rel allowed_rule deeper) (R.rel allowed inner)
  unfolding G.rel R.rel
  rel = then_ shift (λ left. or_ relating (then_ (op_ Over _) (λ op. ends _ shift)) (pure_sound Over left))

  once : (f : Token → Option Place) (op : BinaryOperator) (left : Expr) → Sound Over (G.once allowed_rule deeper f op left) (R.once allowed inner f op left)
  unfolding G.once R.once
  once f op left = then_ (op_ Over f) (λ _. ends _ rel)

  chain : (f : Token → Option Place) (op : BinaryOperator) (left : Expr) → Sound Over (G.chain allowed_rule deeper f op left) (R.chain allowed inner f op left)
  unfolding G.chain R.chain R.more_links
  chain f op left = then_ (once f op left) (λ first. again f _ (then_ (op_ Over f) (λ _. rel)) first)

  pub logical : Sound Over (G.logical allowed_rule deeper) (R.logical allowed inner)
  unfolding G.logical R.logical R.more_relations
  logical = then_ rel (λ left. or_ (word w.And) (chain _ _ left) (or_ (word w.Or) (chain _ _ left) (or_ (word w.Xor) (chain _ _ left) (or_ (word w.Xnor) (chain _ _ left) (or_ (word w.Nand) (once _ _ left) (or_ (word w.Nor) (once _ _ left) (pure_sound Over left)))))))

-- ---- to any depth

pub may_levels : (n d : ℕ) → n ≤ d → allows n ≡ true → IsTrue (allows d)
may_levels zero d le e = absurd (true≢false (sym e))
may_levels (suc n) zero le e = absurd (omega (arith, le))
may_levels (suc n) (suc d) le e = refl

pub over_allows : (n d : ℕ) → n < d → IsTrue (allows d)
over_allows n zero lt = absurd (omega (arith, lt))
over_allows n (suc d) lt = refl

pub nested_sound : (n d : ℕ) → n ≤ d → allows n ≡ true → Sound (n < d) (lower G.expr d) (nested n)
unfolding nested
nested_sound zero d le e = absurd (true≢false (sym e))
nested_sound (suc n) zero le e = absurd (omega (arith, le))
nested_sound (suc n) (suc d) le e =
    let below : n ≤ d = omega (arith, le) in
    let less : suc n < suc d → n < d = λ o. omega (arith, o) in
    subst (λ L. Sound (suc n < suc d) L (R.logical (allows n) (nested n))) (sym (expr_is d))
    (logical (suc n < suc d) (allows d) (allows n) (lower G.expr d) (nested n) (may_levels n d below) (λ o. over_allows n d (less o)) (λ f. sound_over _ less (nested_sound n d below f)))

pub expr_sound : (n d : ℕ) → n ≤ d → Sound (n < d) (G.expr d) (R.expr n)
unfolding R.expr
expr_sound n d le =
    subst (λ L. Sound (n < d) L (R.logical (allows n) (nested n))) (sym (expr_is d))
    (logical (n < d) (allows d) (allows n) (lower G.expr d) (nested n) (may_levels n d le) (over_allows n d) (nested_sound n d le))

-- ---- with a limit of operators

-- more levels and more operators
abbrev pub More : ℕ → ℕ → ℕ → ℕ → Type 0
More c n l d = (n < d) × (c < l)

past : (c n l d : ℕ) → More c n l d → suc c ≤ l
past c n l d o = let lt : c < l = o.1 in omega (arith, lt)

pub expression_sound : (c n l d : ℕ) → c ≤ l → n ≤ d → Sound (More c n l d) (G.expression l d) (R.expression c n)
unfolding R.expression
expression_sound c n l d le1 le2 = fresh_sound _ l c (λ o. o.0) le1 (past c n l d) (expr_sound n d le2)

pub simple_expression_sound : (c n l d : ℕ) → c ≤ l → n ≤ d → Sound (More c n l d) (G.simple_expression l d) (R.simple_expression c n)
unfolding R.simple_expression R.simple_expr G.simple_expr
simple_expression_sound c n l d le1 le2 = fresh_sound _ l c (λ o. o.0) le1 (past c n l d) (simple (n < d) (allows d) (allows n) (lower G.expr d) (nested n) (may_levels n d le2) (over_allows n d) (nested_sound n d le2))

pub listed_name_sound : (c n l d : ℕ) → c ≤ l → n ≤ d → Sound (More c n l d) (G.listed_name l d) (R.listed_name c n)
unfolding R.listed_name G.listed_name
listed_name_sound c n l d le1 le2 = then_ (free _ name_of)
    (named (More c n l d) (allows d) (allows n) _ _ (may_levels n d le2) (λ o. over_allows n d o.0) (λ e. fresh_sound _ l c (λ o. o.0) le1 (past c n l d) (nested_sound n d le2 e)) 0 (omega arith))
