-- What is read by the rules of sequential statements is a text of them.
use Rattle.std.proofs.Common.{◌≡◌, ℕ, zero, suc, ◌≤◌, Bool, true, IsTrue, [], ◌∷◌, refl, sym, subst, arith, true≢false}
use Rattle.ams_token.specs.declared.token.Place.{Place}
use Rattle.ams_token.specs.declared.word.Word.{Word}
use Rattle.ams_token.specs.declared.word.Word.TheVariants as w
use Rattle.ams_token.specs.declared.mark.Mark.TheVariants as m
use Rattle.ams_tree.specs.declared.sequential.Iteration.{Iteration}
use Rattle.ams_tree.specs.declared.sequential.Branch.{Branch}
use Rattle.ams_tree.specs.declared.sequential.Seq.{Seq}
use Rattle.ams_tree.specs.Terminals.{mark, word, name_of}
use Rattle.ams_tree.specs.Rule.{Rule}
use Rattle.ams_tree.specs.Rule as rule
use Rattle.ams_tree.specs.Expressions.{last, lower, allows, below, expression}
use Rattle.ams_tree.specs.Statements as G
use Rattle.parse_steps.specs.Reading.{Parser}
use Rattle.parse_steps.specs.Reading as reading
use Rattle.parse_steps.proofs.Sound.{Sound, opened_sound, sound_over}
use Rattle.parse_steps.proofs.Sounding.{then_, ends, free, or_, again, maybe}
use Rattle.parse_expr.specs.Parsing as expr
use Rattle.parse_expr.proofs.RulesSound.{More, expression_sound, may_levels, over_allows}
use Rattle.parse_parts.proofs.Levels.{to_below, below_le}
use Rattle.parse_parts.proofs.PartsSound as P
use Rattle.parse_seq.specs.Parsing as R
use Rattle.parse_seq.specs.Parsing.{begins_simple, begins_statement}
use Rattle.parse_seq.proofs.SeqCover.{statement_is}

semicolon : {A : Type 0} (Over : Type 0) (x : A) → Sound Over (rule.◌>>◌ (rule.one (mark m.Semicolon)) (rule.pure x)) (reading.◌>>◌ (reading.one (mark m.Semicolon)) (reading.pure x))
semicolon Over x = ends _ (free Over _)

-- ---- statements in which no other one stands

module _ (c n l d : ℕ) (le1 : c ≤ l) (le2 : n ≤ d) where
  assignment : Sound (More c n l d) (G.assignment l d) (R.assignment c n)
  unfolding G.assignment R.assignment R.signal_assignment R.variable_assignment
  assignment = then_ (free _ _) (λ target. or_ (mark m.LessEqual)
      (then_ (free _ _) (λ _. then_ (P.maybe_delay c n l d le1 le2) (λ how. then_ (P.waveform c n l d le1 le2) (λ wave. semicolon _ _))))
      (then_ (free _ _) (λ _. then_ (expression_sound c n l d le1 le2) (λ value. semicolon _ _))))

  exit_statement : Sound (More c n l d) (G.exit_statement l d) (R.exit_statement c n)
  unfolding G.exit_statement R.exit_statement
  exit_statement = then_ (free _ _) (λ place. then_ (P.condition c n l d le1 le2) (λ x. semicolon _ _))

  next_statement : Sound (More c n l d) (G.next_statement l d) (R.next_statement c n)
  unfolding G.next_statement R.next_statement
  next_statement = then_ (free _ _) (λ place. then_ (P.condition c n l d le1 le2) (λ x. semicolon _ _))

  behind : (x : Word) → Sound (More c n l d) (rule.optional (rule.◌>>◌ (rule.one (word x)) (expression l d))) (R.behind c n x)
  unfolding R.behind
  behind x = maybe (word x) (then_ (free _ _) (λ _. expression_sound c n l d le1 le2))

  wait_statement : Sound (More c n l d) (G.wait_statement l d) (R.wait_statement c n)
  unfolding G.wait_statement R.wait_statement
  wait_statement = then_ (free _ _) (λ place. then_ (P.names_on c n l d le1 le2) (λ on. then_ (behind w.Until) (λ until. then_ (behind w.For) (λ time. semicolon _ _))))

  report_statement : Sound (More c n l d) (G.report_statement l d) R.report_statement
  unfolding G.report_statement R.report_statement
  report_statement = then_ (free _ _) (λ place. then_ (free _ _) (λ message. then_ (P.severity _ l d) (λ level. semicolon _ _)))

  break_statement : Sound (More c n l d) (G.break_statement l d) (R.break_statement c n)
  unfolding G.break_statement R.break_statement
  break_statement = then_ (free _ _) (λ place. then_ (P.break_elements c n l d le1 le2) (λ elements. then_ (P.condition c n l d le1 le2) (λ x. semicolon _ _)))

  null_statement : Sound (More c n l d) (G.null_statement l d) R.null_statement
  unfolding G.null_statement R.null_statement
  null_statement = then_ (free _ _) (λ place. semicolon _ _)

  simple_statement : Sound (More c n l d) (G.simple_statement l d) (R.simple_statement c n)
  unfolding G.simple_statement R.simple_statement
  simple_statement = or_ name_of assignment (or_ (word w.Exit) exit_statement (or_ (word w.Next) next_statement (or_ (word w.Wait) wait_statement
      (or_ (word w.Assert) (ends _ (P.assertion c n l d le1 le2)) (or_ (word w.Report) report_statement (or_ (word w.Break) break_statement null_statement))))))

-- ---- statements in which others stand, with the limits inside

module _ (Over : Type 0) (allowed_rule allowed : Bool) (inner_rule : Rule Seq) (inner : Parser Seq) (c n l d : ℕ) (le1 : c ≤ l) (le2 : n ≤ d)
    (may : allowed ≡ true → IsTrue allowed_rule) (over : Over → IsTrue allowed_rule) (less : allowed ≡ true → Over → More c n l d) (h : allowed ≡ true → Sound Over inner_rule inner) where
  opens : {A : Type 0} (x : Word) (M : Place → Rule A) (Q : Place → Parser A) → (allowed ≡ true → (place : Place) → Sound Over (M place) (Q place))
      → Sound Over (rule.◌>>=◌ (rule.terminal allowed_rule 0 (word x)) M) (reading.◌>>=◌ (reading.terminal allowed 0 (word x)) Q)
  opens x M Q k = opened_sound Over allowed_rule allowed 0 (word x) may over (omega arith) M Q k

  whole_expression : allowed ≡ true → Sound Over (expression l d) (expr.expression c n)
  whole_expression e = sound_over Over (less e) (expression_sound c n l d le1 le2)

  body : allowed ≡ true → Sound Over (G.body allowed_rule inner_rule l d) (R.body allowed inner c n)
  unfolding G.body R.body
  body e = again begins_statement last (h e) []

  branch : allowed ≡ true → Sound Over (G.branch allowed_rule inner_rule l d) (R.branch allowed inner c n)
  unfolding G.branch R.branch
  branch e = then_ (whole_expression e) (λ x. then_ (free Over _) (λ _. ends _ (body e)))

  rest_of_if : allowed ≡ true → (place : Place) (first : Branch) → Sound Over (G.rest_of_if allowed_rule inner_rule l d place first) (R.rest_of_if allowed inner c n place first)
  unfolding G.rest_of_if R.rest_of_if R.more_branches R.otherwise
  rest_of_if e place first = then_ (again (word w.Elsif) last (then_ (free Over _) (λ _. branch e)) (first ∷ []))
      (λ all. then_ (maybe (word w.Else) (then_ (free Over _) (λ _. body e))) (λ other. ends _ (P.ending Over w.If)))

  if_statement : Sound Over (G.if_statement allowed_rule inner_rule l d) (R.if_statement allowed inner c n)
  unfolding G.if_statement R.if_statement
  if_statement = opens w.If _ _ (λ e place. then_ (branch e) (rest_of_if e place))

  alternative : allowed ≡ true → Sound Over (G.alternative allowed_rule inner_rule l d) (R.alternative allowed inner c n)
  unfolding G.alternative R.alternative
  alternative e = then_ (sound_over Over (less e) (P.choices c n l d le1 le2)) (λ xs. ends _ (body e))

  alternatives : allowed ≡ true → Sound Over (G.alternatives allowed_rule inner_rule l d) (R.alternatives allowed inner c n)
  unfolding G.alternatives R.alternatives R.more_alternatives
  alternatives e = then_ (alternative e) (λ first. again (word w.When) last (alternative e) (first ∷ []))

  case_statement : Sound Over (G.case_statement allowed_rule inner_rule l d) (R.case_statement allowed inner c n)
  unfolding G.case_statement R.case_statement
  case_statement = opens w.Case _ _ (λ e place. then_ (whole_expression e) (λ x. then_ (free Over _) (λ _. then_ (alternatives e) (λ all. ends _ (P.ending Over w.Case)))))

  rest_of_loop : allowed ≡ true → (place : Place) (how : Iteration) → Sound Over (G.rest_of_loop allowed_rule inner_rule l d place how) (R.rest_of_loop allowed inner c n place how)
  unfolding G.rest_of_loop R.rest_of_loop
  rest_of_loop e place how = then_ (body e) (λ all. ends _ (P.ending Over w.Loop))

  parameter : allowed ≡ true → Sound Over (G.parameter allowed_rule inner_rule l d) (R.parameter allowed inner c n)
  unfolding G.parameter R.parameter
  parameter e = then_ (free Over _) (λ name. then_ (free Over _) (λ _. ends _ (sound_over Over (less e) (P.range c n l d le1 le2))))

  compound_statement : Sound Over (G.compound_statement allowed_rule inner_rule l d) (R.compound_statement allowed inner c n)
  unfolding G.compound_statement R.compound_statement G.loop_statement R.while_loop R.for_loop R.plain_loop
  compound_statement = or_ (word w.If) if_statement (or_ (word w.Case) case_statement
      (or_ (word w.While) (opens w.While _ _ (λ e place. then_ (whole_expression e) (λ x. then_ (free Over _) (λ _. rest_of_loop e place _))))
      (or_ (word w.For) (opens w.For _ _ (λ e place. then_ (parameter e) (λ how. then_ (free Over _) (λ _. rest_of_loop e place how))))
      (opens w.Loop _ _ (λ e place. rest_of_loop e place _)))))

-- ---- to any depth

any_sound : (inner : Parser Seq) (c n l d : ℕ) → c ≤ l → n ≤ d → (allows n ≡ true → Sound (More c n l d) (lower (G.statement l) d) inner) → Sound (More c n l d) (G.statement l d) (R.any_statement inner c n)
unfolding R.any_statement
any_sound inner c n l d le1 le2 h =
    subst (λ L. Sound (More c n l d) L (reading.choose (reading.at begins_simple) (R.simple_statement c n) (R.compound_statement (allows n) inner c (below n)))) (sym (statement_is l d))
    (or_ begins_simple (simple_statement c n l d le1 le2)
    (compound_statement (More c n l d) (allows d) (allows n) (lower (G.statement l) d) inner c (below n) l (below d) le1 (below_le n d le2) (may_levels n d le2) (λ o. over_allows n d o.0) (λ e o. to_below c n l d e o) h))

nested_sound : (c n l d : ℕ) → c ≤ l → n ≤ d → allows n ≡ true → Sound (More c n l d) (lower (G.statement l) d) (R.nested c n)
unfolding R.nested
nested_sound c zero l d le1 le2 e = absurd (true≢false (sym e))
nested_sound c (suc n) l zero le1 le2 e = absurd (omega (arith, le2))
nested_sound c (suc n) l (suc d) le1 le2 e =
    let fewer : n ≤ d = omega (arith, le2) in
    sound_over (More c (suc n) l (suc d)) (λ o. to_below c (suc n) l (suc d) refl o) (any_sound (R.nested c n) c n l d le1 fewer (nested_sound c n l d le1 fewer))

pub statement_sound : (c n l d : ℕ) → c ≤ l → n ≤ d → Sound (More c n l d) (G.statement l d) (R.statement c n)
unfolding R.statement
statement_sound c n l d le1 le2 = any_sound (R.nested c n) c n l d le1 le2 (nested_sound c n l d le1 le2)
