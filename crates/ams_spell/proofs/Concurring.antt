-- The tokens of each concurrent statement are those of its spelling.
use Rattle.std.proofs.Common.{◌≡◌, ℕ, Bool, List, [], ◌++◌, map, Option, Some, None, refl, ◌∙◌, ap, append_assoc, append-nil}
use Rattle.ams_token.specs.declared.token.Place.{Place}
use Rattle.ams_token.specs.declared.token.TokenKind.{TokenKind}
use Rattle.ams_token.specs.declared.token.TokenKind.TheVariants as kind
use Rattle.ams_token.specs.declared.word.Word.TheVariants as w
use Rattle.ams_token.specs.declared.mark.Mark.TheVariants as m
use Rattle.ams_tree.specs.declared.expression.Name.{Name}
use Rattle.ams_tree.specs.declared.expression.Expr.{Expr}
use Rattle.ams_tree.specs.declared.sequential.WaveformElement.{WaveformElement}
use Rattle.ams_tree.specs.declared.concurrent.ConditionalWaveform.{ConditionalWaveform}
use Rattle.ams_tree.specs.Expressions.{allows, below}
use Rattle.ams_tree.specs.Concurrents as G
use Rattle.ams_tree.specs.Concurrents.{when_else}
use Rattle.expr_spell.specs.Kinds.{optional, joined, separated, name}
use Rattle.expr_spell.specs.Spelling.{spelling}
use Rattle.expr_spell.proofs.Writes.{Writes, ends, then_, or_, part, mark_, word_, maybe, again, items_, more_, list_}
use Rattle.expr_spell.proofs.Loops.{joined_last}
use Rattle.expr_spell.proofs.Spelled.{expression, simple_expression}
use Rattle.ams_spell.specs.Parts.{◌⊕◌, mark, word, present}
use Rattle.ams_spell.specs.Declarations.{process_declaration_kinds}
use Rattle.ams_spell.specs.Statements.{when_kinds, waveform_kinds, statement_kinds}
use Rattle.ams_spell.specs.Concurrents.{equation_kinds, equations_kinds, conditional_kinds, formal_kinds, association_kinds, map_kinds, simultaneous_branch_kinds, simultaneous_alternative_kinds, sensitivity_kinds, concurrent_statement_kinds, concurrent_kinds}
use Rattle.ams_spell.proofs.More.{from_, present_, name_}
use Rattle.ams_spell.proofs.Declared.{process_declaration}
use Rattle.ams_spell.proofs.Stated.{ending, name_list, on_names, delay_mechanism, waveform, assertion, break_elements, condition, choices, statement}

-- a waveform more, behind one that gets a condition
regrouped : (before waves wave x next : List TokenKind) → before ⊕ (waves ++ (wave ⊕ word w.When ⊕ x ⊕ word w.Else)) ⊕ next ≡ before ⊕ waves ⊕ wave ⊕ (word w.When ⊕ x ⊕ word w.Else ⊕ next)
regrouped before waves wave x next = simp append_assoc refl

module _ (limit depth : ℕ) where
  equation : Writes [] equation_kinds (G.equation limit depth)
  unfolding G.equation
  equation = then_ (simple_expression limit depth) (λ x. then_ (mark_ m.DoubleEqual) (λ _. then_ (part (simple_expression limit depth)) (λ y. then_ (mark_ m.Semicolon) (λ _. ends refl))))

  equations : {before : List TokenKind} → Writes before (λ all. before ⊕ equations_kinds all) (G.equations limit depth)
  unfolding G.equations
  equations = items_ equation

  otherwise : Writes [] (λ more. word w.When ⊕ spelling more.0 ⊕ word w.Else ⊕ waveform_kinds more.1) (G.otherwise limit depth)
  unfolding G.otherwise
  otherwise = then_ (word_ w.When) (λ _. then_ (part (expression limit depth)) (λ x. then_ (word_ w.Else) (λ _. then_ (waveform limit depth) (λ wave. ends refl))))

  conditional_waveforms : (before : List TokenKind) → Writes before (λ x. before ⊕ joined (map conditional_kinds x.0) ⊕ waveform_kinds x.1 ⊕ optional when_kinds x.2) (G.conditional_waveforms limit depth)
  unfolding G.conditional_waveforms
  conditional_waveforms before = then_ (waveform limit depth) (λ first. then_
      (from_ (ap (λ v. v ⊕ waveform_kinds first) (append-nil before)) (again {f = so_far} {h = λ more. word w.When ⊕ spelling more.0 ⊕ word w.Else ⊕ waveform_kinds more.1} {a = ([], first)} one_more otherwise))
      (λ waves. then_ (condition limit depth) (λ x. ends refl)))
    where
      so_far : List ConditionalWaveform × List WaveformElement → List TokenKind
      so_far x = before ⊕ joined (map conditional_kinds x.0) ⊕ waveform_kinds x.1

      one_more : (x : List ConditionalWaveform × List WaveformElement) (more : Expr × List WaveformElement)
          → so_far (when_else x more) ≡ so_far x ++ (word w.When ⊕ spelling more.0 ⊕ word w.Else ⊕ waveform_kinds more.1)
      one_more x more =
          ap (λ v. before ⊕ v ⊕ waveform_kinds more.1) (joined_last conditional_kinds x.0 (record { elements = x.1; condition = more.0 }))
          ∙ regrouped before (joined (map conditional_kinds x.0)) (waveform_kinds x.1) (spelling more.0) (waveform_kinds more.1)

  concurrent_assignment : Writes [] concurrent_statement_kinds (G.concurrent_assignment limit depth)
  unfolding G.concurrent_assignment
  concurrent_assignment = then_ name_ (λ target. then_ (mark_ m.LessEqual) (λ _. then_ (maybe (delay_mechanism limit depth)) (λ how. then_ (conditional_waveforms _)
      (λ waves. then_ (mark_ m.Semicolon) (λ _. ends refl)))))

  concurrent_break : Writes [] concurrent_statement_kinds (G.concurrent_break limit depth)
  unfolding G.concurrent_break
  concurrent_break = then_ (word_ w.Break) (λ place. then_ (break_elements limit depth) (λ elements. then_ (on_names limit depth) (λ on. then_ (condition limit depth)
      (λ x. then_ (mark_ m.Semicolon) (λ _. ends refl)))))

  actual : (formal : Option Name) → Writes (optional formal_kinds formal) association_kinds (G.actual limit depth formal)
  unfolding G.actual
  actual formal = or_ (then_ (word_ w.Open) (λ place. ends refl)) (then_ (part (expression limit depth)) (λ x. ends refl))

  one_association : Writes [] association_kinds (G.one_association limit depth)
  unfolding G.one_association
  one_association = or_ (then_ name_ (λ formal. then_ (mark_ m.Arrow) (λ _. actual (Some formal)))) (actual None)

  associations : (before : List TokenKind) → Writes before (λ all. before ⊕ separated (kind.Mark m.Comma) (map association_kinds all)) (G.associations limit depth)
  unfolding G.associations
  associations before = then_ (part one_association) (λ first. list_ before association_kinds (then_ (mark_ m.Comma) (λ _. part one_association)))

  simultaneous_branch : Writes [] simultaneous_branch_kinds (G.simultaneous_branch limit depth)
  unfolding G.simultaneous_branch
  simultaneous_branch = then_ (expression limit depth) (λ x. then_ (word_ w.Use) (λ _. then_ equations (λ all. ends refl)))

  simultaneous_alternative : Writes [] simultaneous_alternative_kinds (G.simultaneous_alternative limit depth)
  unfolding G.simultaneous_alternative
  simultaneous_alternative = then_ (choices limit depth) (λ xs. then_ equations (λ all. ends refl))

  map_aspect : (allowed : Bool) → Writes [] map_kinds (G.map_aspect limit depth allowed)
  unfolding G.map_aspect
  map_aspect allowed = then_ (word_ w.Map) (λ _. then_ (mark_ m.LeftParen) (λ _. then_ (associations (word w.Map ⊕ mark m.LeftParen)) (λ all. then_ (mark_ m.RightParen) (λ _. ends refl))))

  simultaneous_if : (place : Place) → Writes (word w.If) concurrent_statement_kinds (G.simultaneous_if limit depth place)
  unfolding G.simultaneous_if
  simultaneous_if place = then_ (part simultaneous_branch) (λ first. then_ (list_ (word w.If) simultaneous_branch_kinds (then_ (word_ w.Elsif) (λ _. part simultaneous_branch)))
      (λ all. then_ (maybe (then_ (word_ w.Else) (λ _. equations))) (λ other. then_ (ending w.Use) (λ _. ends refl))))

  simultaneous_case : (place : Place) → Writes (word w.Case) concurrent_statement_kinds (G.simultaneous_case limit depth place)
  unfolding G.simultaneous_case G.simultaneous_alternatives
  simultaneous_case place = then_ (part (expression limit depth)) (λ x. then_ (word_ w.Use)
      (λ _. then_ (then_ (part simultaneous_alternative) (λ first. more_ (word w.Case ⊕ spelling x ⊕ word w.Use) simultaneous_alternative)) (λ all. then_ (ending w.Case) (λ _. ends refl))))

sensitivity : (limit depth : ℕ) → Writes [] sensitivity_kinds (G.sensitivity limit depth)
unfolding G.sensitivity
sensitivity limit depth = then_ (mark_ m.LeftParen) (λ _. then_ (name_list limit (below depth)) (λ all. then_ (mark_ m.RightParen) (λ _. ends refl)))

module _ (limit depth : ℕ) where
  process_head : Writes (word w.Process)
      (λ x. word w.Process ⊕ optional sensitivity_kinds x.0 ⊕ present (word w.Is) x.1 ⊕ joined (map process_declaration_kinds x.2) ⊕ word w.Begin) (G.process_head limit depth)
  unfolding G.process_head
  process_head = then_ (maybe (sensitivity limit depth)) (λ names. then_ (present_ (word w.Is) (word_ w.Is)) (λ said. then_ (items_ (process_declaration limit depth))
      (λ locals. then_ (word_ w.Begin) (λ _. ends refl))))

  process_body : {before : List TokenKind} → Writes before (λ y. before ⊕ joined (map statement_kinds y.0) ⊕ word w.End ⊕ word w.Process ⊕ optional name y.1 ⊕ mark m.Semicolon) (G.process_body limit depth)
  unfolding G.process_body
  process_body = then_ (items_ (statement limit depth)) (λ all. then_ (word_ w.End) (λ _. then_ (word_ w.Process) (λ _. then_ (maybe name_) (λ id. then_ (mark_ m.Semicolon) (λ _. ends refl)))))

  process_parts : (place : Place) → Writes (word w.Process) concurrent_statement_kinds (G.process_parts limit depth place)
  unfolding G.process_parts
  process_parts place = then_ process_head (λ x. then_ process_body (λ y. ends refl))

module _ (limit depth : ℕ) where
  entity_name : (first : Name) → Writes (word w.Entity ⊕ name first) (λ x. word w.Entity ⊕ optional (λ y. name y ⊕ mark m.Point) x.0 ⊕ name x.1) (G.entity_name limit depth first)
  unfolding G.entity_name
  entity_name first = or_ (then_ (mark_ m.Point) (λ _. then_ name_ (λ second. ends refl))) (ends refl)

  architecture_name : Writes [] (λ y. mark m.LeftParen ⊕ name y ⊕ mark m.RightParen) (G.architecture_name limit depth)
  unfolding G.architecture_name
  architecture_name = then_ (mark_ m.LeftParen) (λ _. then_ name_ (λ id. then_ (mark_ m.RightParen) (λ _. ends refl)))

  instance : Writes [] concurrent_statement_kinds (G.instance limit depth)
  unfolding G.instance G.entity_aspect G.maps
  instance = then_ (then_ (word_ w.Entity) (λ at. then_ name_ (λ first. then_ (entity_name first) (λ names. then_ (maybe architecture_name)
      (λ of. ends {f = λ x. word w.Entity ⊕ optional (λ y. name y ⊕ mark m.Point) x.1.0 ⊕ name x.1.1 ⊕ optional (λ y. mark m.LeftParen ⊕ name y ⊕ mark m.RightParen) x.2} refl)))))
      (λ aspect. then_ (maybe (then_ (word_ w.Generic) (λ _. part (map_aspect limit (below depth) (allows depth)))))
      (λ xs. then_ (maybe (then_ (word_ w.Port) (λ _. part (map_aspect limit (below depth) (allows depth))))) (λ ys. then_ (mark_ m.Semicolon) (λ _. ends refl))))

  unlabelled : Writes [] concurrent_statement_kinds (G.unlabelled limit depth)
  unfolding G.unlabelled
  unlabelled = or_ (then_ (word_ w.Process) (λ place. process_parts limit (below depth) place))
      (or_ (then_ (word_ w.If) (λ place. simultaneous_if limit (below depth) place))
      (or_ (then_ (word_ w.Case) (λ place. simultaneous_case limit (below depth) place))
      (or_ (then_ (assertion limit depth) (λ x. ends refl))
      (or_ (concurrent_break limit depth)
      (or_ (concurrent_assignment limit depth)
      (then_ (equation limit depth) (λ x. ends refl)))))))

  pub concurrent : Writes [] concurrent_kinds (G.concurrent limit depth)
  unfolding G.concurrent
  concurrent = or_ (then_ name_ (λ id. then_ (mark_ m.Colon) (λ _. then_ (part (or_ instance unlabelled)) (λ x. ends refl)))) (then_ unlabelled (λ x. ends refl))
