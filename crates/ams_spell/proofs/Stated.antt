-- The tokens of each sequential statement are those of its spelling.
use Rattle.std.proofs.Common.{◌≡◌, ℕ, zero, suc, Bool, true, false, List, [], ◌∷◌, map, Option, Some, None, refl, sym, subst, append_assoc, append-nil}
use Rattle.ams_token.specs.declared.token.Place.{Place}
use Rattle.ams_token.specs.declared.token.Token.{Token}
use Rattle.ams_token.specs.declared.token.TokenKind.{TokenKind}
use Rattle.ams_token.specs.declared.word.Word.{Word}
use Rattle.ams_token.specs.declared.word.Word.TheVariants as w
use Rattle.ams_token.specs.declared.mark.Mark.TheVariants as m
use Rattle.ams_tree.specs.declared.expression.Expr.{Expr}
use Rattle.ams_tree.specs.declared.sequential.Iteration.{Iteration}
use Rattle.ams_tree.specs.declared.sequential.Iteration.TheVariants as iteration
use Rattle.ams_tree.specs.declared.sequential.Branch.{Branch}
use Rattle.ams_tree.specs.declared.sequential.Seq.{Seq}
use Rattle.ams_tree.specs.Rule.{Rule, one, pure, ◌>>◌, ◌<|>◌}
use Rattle.ams_tree.specs.Terminals.{word as word_in}
use Rattle.ams_tree.specs.Expressions.{nowhere}
use Rattle.ams_tree.specs.Statements as G
use Rattle.expr_spell.specs.Kinds.{optional, joined}
use Rattle.expr_spell.specs.Spelling.{spelling}
use Rattle.expr_spell.proofs.Writes.{Writes, ends, then_, or_, part, mark_, word_, maybe, items_, more_, list_}
use Rattle.expr_spell.proofs.Spelled.{expression, simple_expression, listed_name}
use Rattle.ams_spell.specs.Parts.{◌⊕◌, mark, word}
use Rattle.ams_spell.specs.Statements.{name_list_kinds, on_kinds, when_kinds, delay_kinds, element_kinds, waveform_kinds, severity_kinds, assertion_kinds, break_element_kinds, break_kinds, choice_kinds, choices_kinds, iteration_kinds, statement_kinds, branch_kinds, alternative_kinds}
use Rattle.ams_spell.proofs.More.{as_, name_, string_, not_empty}
use Rattle.ams_spell.proofs.Declared.{range}
use Rattle.ams_spell.proofs.Equations.{branch_spelling, alternative_spelling, signal_spelling, variable_spelling, if_spelling, case_spelling, loop_spelling, exit_spelling, next_spelling, wait_spelling, assert_spelling, report_spelling, break_spelling, null_spelling}

pub ending : {before : List TokenKind} (x : Word) → Writes before (λ _. before ⊕ word w.End ⊕ word x ⊕ mark m.Semicolon) (G.ending x)
unfolding G.ending
ending x = then_ (word_ w.End) (λ _. then_ (word_ x) (λ _. mark_ m.Semicolon))

module _ (limit depth : ℕ) where
  pub name_list : {before : List TokenKind} → Writes before (λ xs. before ⊕ name_list_kinds xs) (G.name_list limit depth)
  unfolding G.name_list
  name_list {before = before} = then_ (part (listed_name limit depth)) (λ first. list_ before spelling (then_ (mark_ m.Comma) (λ _. part (listed_name limit depth))))

  pub on_names : {before : List TokenKind} → Writes before (λ xs. before ⊕ on_kinds xs) ((one (word_in w.On) >> G.name_list limit depth) <|> pure [])
  unfolding G.name_list
  on_names {before = before} = or_ (as_ written (then_ (word_ w.On) (λ _. name_list))) (ends (append-nil before))
    where
      written : (xs : List Expr) (ts : List Token) (n : ℕ) → (one (word_in w.On) >> G.name_list limit depth).spells xs ts n → before ⊕ on_kinds xs ≡ before ⊕ word w.On ⊕ name_list_kinds xs
      written xs ts n s =
          let some = not_empty xs s.back s.back_count s.spells_back in
          subst (λ xs. before ⊕ on_kinds xs ≡ before ⊕ word w.On ⊕ name_list_kinds xs) (sym some.2) (sym (append_assoc before (word w.On) (name_list_kinds (some.0 ∷ some.1))))

  pub delay_mechanism : Writes [] delay_kinds (G.delay_mechanism limit depth)
  unfolding G.delay_mechanism
  delay_mechanism = or_ (then_ (word_ w.Transport) (λ place. ends refl))
      (or_ (then_ (word_ w.Reject) (λ place. then_ (part (expression limit depth)) (λ x. then_ (word_ w.Inertial) (λ _. ends refl))))
      (then_ (word_ w.Inertial) (λ place. ends refl)))

  waveform_element : Writes [] element_kinds (G.waveform_element limit depth)
  unfolding G.waveform_element
  waveform_element = then_ (expression limit depth) (λ x. then_ (maybe (then_ (word_ w.After) (λ _. part (expression limit depth)))) (λ y. ends refl))

  pub waveform : {before : List TokenKind} → Writes before (λ xs. before ⊕ waveform_kinds xs) (G.waveform limit depth)
  unfolding G.waveform
  waveform {before = before} = then_ (part waveform_element) (λ first. list_ before element_kinds (then_ (mark_ m.Comma) (λ _. part waveform_element)))

  severity : {before : List TokenKind} → Writes before (λ x. before ⊕ optional severity_kinds x) (G.severity limit depth)
  unfolding G.severity
  severity = maybe (then_ (word_ w.Severity) (λ _. name_))

  pub assertion : Writes [] assertion_kinds (G.assertion limit depth)
  unfolding G.assertion
  assertion = then_ (word_ w.Assert) (λ at. then_ (part (expression limit depth)) (λ x. then_ (maybe (then_ (word_ w.Report) (λ _. string_))) (λ text. then_ severity
      (λ level. then_ (mark_ m.Semicolon) (λ _. ends refl)))))

  broken : (of : Option Expr) → Writes (optional (λ y. word w.For ⊕ spelling y ⊕ word w.Use) of) break_element_kinds (G.broken limit depth of)
  unfolding G.broken
  broken of = then_ (part (listed_name limit depth)) (λ x. then_ (mark_ m.Arrow) (λ _. then_ (part (expression limit depth)) (λ y. ends refl)))

  break_element : Writes [] break_element_kinds (G.break_element limit depth)
  unfolding G.break_element
  break_element = or_ (then_ (word_ w.For) (λ _. then_ (part (listed_name limit depth)) (λ of. then_ (word_ w.Use) (λ _. broken (Some of))))) (broken None)

  pub break_elements : {before : List TokenKind} → Writes before (λ xs. before ⊕ break_kinds xs) (G.break_elements limit depth)
  unfolding G.break_elements G.break_list
  break_elements {before = before} = or_ (then_ (part break_element) (λ first. list_ before break_element_kinds (then_ (mark_ m.Comma) (λ _. part break_element)))) (ends (append-nil before))

  pub condition : {before : List TokenKind} → Writes before (λ x. before ⊕ optional when_kinds x) (G.condition limit depth)
  unfolding G.condition
  condition = maybe (then_ (word_ w.When) (λ _. part (expression limit depth)))

  one_choice : Writes [] choice_kinds (G.one_choice limit depth)
  unfolding G.one_choice
  one_choice = or_ (then_ (word_ w.Others) (λ place. ends refl)) (then_ (simple_expression limit depth) (λ x. ends refl))

  pub choices : Writes [] choices_kinds (G.choices limit depth)
  unfolding G.choices
  choices = then_ (word_ w.When) (λ _. then_ (part one_choice) (λ first. then_ (list_ (word w.When) choice_kinds (then_ (mark_ m.Bar) (λ _. part one_choice)))
      (λ all. then_ (mark_ m.Arrow) (λ _. ends refl))))

  assignment : Writes [] statement_kinds (G.assignment limit depth)
  unfolding G.assignment
  assignment = then_ name_ (λ target.
      or_ (then_ (mark_ m.LessEqual) (λ _. then_ (maybe delay_mechanism) (λ how. then_ waveform (λ wave. then_ (mark_ m.Semicolon) (λ _. ends (signal_spelling target how wave))))))
      (then_ (mark_ m.Assign) (λ _. then_ (part (expression limit depth)) (λ value. then_ (mark_ m.Semicolon) (λ _. ends (variable_spelling target value))))))

  exit_statement : Writes [] statement_kinds (G.exit_statement limit depth)
  unfolding G.exit_statement
  exit_statement = then_ (word_ w.Exit) (λ place. then_ condition (λ x. then_ (mark_ m.Semicolon) (λ _. ends (exit_spelling place x))))

  next_statement : Writes [] statement_kinds (G.next_statement limit depth)
  unfolding G.next_statement
  next_statement = then_ (word_ w.Next) (λ place. then_ condition (λ x. then_ (mark_ m.Semicolon) (λ _. ends (next_spelling place x))))

  wait_statement : Writes [] statement_kinds (G.wait_statement limit depth)
  unfolding G.wait_statement
  wait_statement = then_ (word_ w.Wait) (λ place. then_ on_names (λ on. then_ (maybe (then_ (word_ w.Until) (λ _. part (expression limit depth))))
      (λ until. then_ (maybe (then_ (word_ w.For) (λ _. part (expression limit depth)))) (λ time. then_ (mark_ m.Semicolon) (λ _. ends (wait_spelling place on until time))))))

  report_statement : Writes [] statement_kinds (G.report_statement limit depth)
  unfolding G.report_statement
  report_statement = then_ (word_ w.Report) (λ place. then_ string_ (λ text. then_ severity (λ level. then_ (mark_ m.Semicolon) (λ _. ends (report_spelling place _)))))

  break_statement : Writes [] statement_kinds (G.break_statement limit depth)
  unfolding G.break_statement
  break_statement = then_ (word_ w.Break) (λ place. then_ break_elements (λ elements. then_ condition (λ x. then_ (mark_ m.Semicolon) (λ _. ends (break_spelling place elements x)))))

  null_statement : Writes [] statement_kinds (G.null_statement limit depth)
  unfolding G.null_statement
  null_statement = then_ (word_ w.Null) (λ place. then_ (mark_ m.Semicolon) (λ _. ends (null_spelling place)))

  simple_statement : Writes [] statement_kinds (G.simple_statement limit depth)
  unfolding G.simple_statement
  simple_statement = or_ assignment (or_ exit_statement (or_ next_statement (or_ wait_statement
      (or_ (then_ assertion (λ x. ends (assert_spelling x))) (or_ report_statement (or_ break_statement null_statement))))))

module _ (allowed : Bool) (inner : Rule Seq) (limit depth : ℕ) (h : Writes [] statement_kinds inner) where
  body : {before : List TokenKind} → Writes before (λ all. before ⊕ joined (map statement_kinds all)) (G.body allowed inner limit depth)
  unfolding G.body
  body = items_ h

  branch : Writes [] branch_kinds (G.branch allowed inner limit depth)
  unfolding G.branch
  branch = then_ (expression limit depth) (λ x. then_ (word_ w.Then) (λ _. then_ body (λ all. ends (branch_spelling x all))))

  rest_of_if : (place : Place) (first : Branch) → Writes (word w.If ⊕ branch_kinds first) statement_kinds (G.rest_of_if allowed inner limit depth place first)
  unfolding G.rest_of_if
  rest_of_if place first = then_ (list_ (word w.If) branch_kinds (then_ (word_ w.Elsif) (λ _. part branch))) (λ all. then_ (maybe (then_ (word_ w.Else) (λ _. body)))
      (λ other. then_ (ending w.If) (λ _. ends (if_spelling place all other))))

  if_statement : Writes [] statement_kinds (G.if_statement allowed inner limit depth)
  unfolding G.if_statement
  if_statement = then_ (word_ w.If) (λ place. then_ (part branch) (λ first. rest_of_if place first))

  alternative : Writes [] alternative_kinds (G.alternative allowed inner limit depth)
  unfolding G.alternative
  alternative = then_ (choices limit depth) (λ xs. then_ body (λ all. ends (alternative_spelling xs all)))

  case_statement : Writes [] statement_kinds (G.case_statement allowed inner limit depth)
  unfolding G.case_statement G.alternatives
  case_statement = then_ (word_ w.Case) (λ place. then_ (part (expression limit depth)) (λ x. then_ (word_ w.Is)
      (λ _. then_ (then_ (part alternative) (λ first. more_ (word w.Case ⊕ spelling x ⊕ word w.Is) alternative)) (λ all. then_ (ending w.Case) (λ _. ends (case_spelling place x all))))))

  rest_of_loop : (place : Place) (how : Iteration) → Writes (iteration_kinds how ⊕ word w.Loop) statement_kinds (G.rest_of_loop allowed inner limit depth place how)
  unfolding G.rest_of_loop
  rest_of_loop place how = then_ body (λ all. then_ (ending w.Loop) (λ _. ends (loop_spelling place how all)))

  parameter : Writes (word w.For) iteration_kinds (G.parameter allowed inner limit depth)
  unfolding G.parameter
  parameter = then_ name_ (λ id. then_ (word_ w.In) (λ _. then_ (part (range limit depth)) (λ x. ends refl)))

  loop_statement : Writes [] statement_kinds (G.loop_statement allowed inner limit depth)
  unfolding G.loop_statement
  loop_statement = or_ (then_ (word_ w.While) (λ place. then_ (part (expression limit depth)) (λ x. then_ (word_ w.Loop) (λ _. rest_of_loop place (iteration.While x)))))
      (or_ (then_ (word_ w.For) (λ place. then_ parameter (λ how. then_ (word_ w.Loop) (λ _. rest_of_loop place how))))
      (then_ (word_ w.Loop) (λ place. rest_of_loop place iteration.Endless)))

  compound_statement : Writes [] statement_kinds (G.compound_statement allowed inner limit depth)
  unfolding G.compound_statement
  compound_statement = or_ if_statement (or_ case_statement loop_statement)

none : Writes [] statement_kinds nowhere
none = record { written = λ a ts n s. absurd s }

pub statement : (limit depth : ℕ) → Writes [] statement_kinds (G.statement limit depth)
unfolding G.statement
statement limit zero = or_ (simple_statement limit zero) (compound_statement false nowhere limit zero none)
statement limit (suc depth) = or_ (simple_statement limit (suc depth)) (compound_statement true (G.statement limit depth) limit depth (statement limit depth))
