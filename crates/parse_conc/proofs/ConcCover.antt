-- Each rule of concurrent statements is covered by its reading, with the kinds of token that begin it and that may follow.
use Rattle.std.proofs.Common.{◌≡◌, ℕ, zero, suc, true, false, List, [], ◌∷◌, length, Option, Some, None, is_some, refl, inl, inr}
use Rattle.ams_token.specs.declared.token.Place.{Place}
use Rattle.ams_token.specs.declared.token.Token.{Token}
use Rattle.ams_token.specs.declared.token.TokenKind.{TokenKind}
use Rattle.ams_token.specs.declared.token.TokenKind.TheVariants as kind
use Rattle.ams_token.specs.declared.word.Word.{Word}
use Rattle.ams_token.specs.declared.word.Word.TheVariants as w
use Rattle.ams_token.specs.declared.mark.Mark.TheVariants as m
use Rattle.ams_token.specs.Classes.{class, kind_class}
use Rattle.ams_tree.specs.declared.expression.Name.{Name}
use Rattle.ams_tree.specs.declared.concurrent.ConcurrentStatement.TheVariants as conc
use Rattle.ams_tree.specs.Terminals.{of_class, mark, word, name_of}
use Rattle.ams_tree.specs.Rule as rule
use Rattle.ams_tree.specs.Expressions.{last, allows, below}
use Rattle.ams_tree.specs.Statements as S
use Rattle.ams_tree.specs.Concurrents as G
use Rattle.ams_tree.specs.Concurrents.{when_else}
use Rattle.parse_steps.specs.Reading as reading
use Rattle.parse_steps.proofs.Sets.{has}
use Rattle.parse_steps.proofs.Covers.{Covers, Tells, pure_covers, token_covers, resized}
use Rattle.parse_steps.proofs.Covering.{then_, ends, reads, takes_, or_, again, fits, maybe}
use Rattle.parse_steps.proofs.KindSets.{W, M, class_tells, names, name_of_tells}
use Rattle.parse_expr.proofs.RulesCover.{expr_first, expr_next, name_next, expression_covers, simple_expression_covers, over_levels}
use Rattle.parse_parts.proofs.Levels.{Exceeded, from_below}
use Rattle.parse_parts.proofs.PartsCover as part
use Rattle.parse_parts.proofs.PartsCover.{delays, wave_next, break_first, break_next}
use Rattle.parse_decl.proofs.DeclCover.{process_declaration_first, process_declaration_covers}
use Rattle.parse_decl.specs.Parsing.{word_said}
use Rattle.parse_decl.specs.Firsts.{begins_process_declaration}
use Rattle.parse_decl.proofs.FirstKinds.{process_declaration_tells}
use Rattle.parse_seq.specs.Parsing.{begins_statement}
use Rattle.parse_seq.proofs.SeqCover.{seq_first, statement_tells, statement_covers}
use Rattle.parse_conc.specs.Parsing as R
use Rattle.parse_conc.specs.Parsing.{begins_expression, expression_in, begins_concurrent, concurrent_in, name_then}
use Rattle.parse_conc.proofs.Waves.{Turns, loop_covers}
use Rattle.parse_conc.proofs.Choice.{named_or, never_goes_on}
use Rattle.parse_conc.proofs.ConcSound.{Waves, with_condition, Head, Tail, otherwise_is}
use Rattle.parse_conc.proofs.Ahead.{not_exceeded, a_simple_expression, an_expression, actual_stops, equation_stops, unlabelled_stops}

-- ---- the kinds of token that begin a rule, and those with which a whole text may go on

expression_tells : Tells expr_first begins_expression
unfolding begins_expression
expression_tells t = go t.kind
  where
    go : (k : TokenKind) → has expr_first (kind_class k) ≡ is_some (expression_in k)
    go (kind.Name zero) = refl
    go (kind.Name (suc zero)) = refl
    go (kind.Name (suc (suc zero))) = refl
    go (kind.Name (suc (suc (suc zero)))) = refl
    go (kind.Name (suc (suc (suc (suc n))))) = refl
    go (kind.Int x) = refl
    go (kind.Real x) = refl
    go (kind.Char x) = refl
    go (kind.Str x) = refl
    go (kind.Bits x) = refl
    go (kind.Word w.Abs) = refl
    go (kind.Word _) = refl
    go (kind.Mark m.Comma) = refl
    go (kind.Mark _) = refl

abbrev pub waves_next : List ℕ
waves_next = W w.When ∷ W w.Else ∷ wave_next

abbrev pub association_first : List ℕ
association_first = W w.Open ∷ expr_first

abbrev pub association_next : List ℕ
association_next = M m.Arrow ∷ expr_next

abbrev pub conc_first : List ℕ
conc_first = W w.Process ∷ W w.If ∷ W w.Case ∷ W w.Assert ∷ W w.Break ∷ expr_first

abbrev pub conc_next : List ℕ
conc_next = M m.Colon ∷ M m.LessEqual ∷ []

pub concurrent_tells : Tells conc_first begins_concurrent
unfolding begins_concurrent
concurrent_tells t = go t.kind
  where
    go : (k : TokenKind) → has conc_first (kind_class k) ≡ is_some (concurrent_in k)
    go (kind.Name zero) = refl
    go (kind.Name (suc zero)) = refl
    go (kind.Name (suc (suc zero))) = refl
    go (kind.Name (suc (suc (suc zero)))) = refl
    go (kind.Name (suc (suc (suc (suc n))))) = refl
    go (kind.Int x) = refl
    go (kind.Real x) = refl
    go (kind.Char x) = refl
    go (kind.Str x) = refl
    go (kind.Bits x) = refl
    go (kind.Word w.Abs) = refl
    go (kind.Word _) = refl
    go (kind.Mark m.Comma) = refl
    go (kind.Mark _) = refl

module _ (c n l d : ℕ) where
  equation : Covers (Exceeded c n l d) false expr_first [] (G.equation l d) (R.equation c n)
  unfolding G.equation R.equation
  equation = then_ (simple_expression_covers c n l d) (λ x. then_ (takes_ _ 0 (M m.DoubleEqual)) (λ _. then_ (simple_expression_covers c n l d) (λ y. then_ (takes_ _ 0 (M m.Semicolon)) (λ _. pure_covers _ _) refl) refl) refl) refl

  equations : Covers (Exceeded c n l d) true expr_first expr_first (G.equations l d) (R.equations c n)
  unfolding G.equations R.equations
  equations = fits expr_first expr_first (again begins_expression expression_tells last equation refl []) refl refl refl

  head : Covers (Exceeded c n l d) false (W w.When ∷ []) expr_next (Head l d) (R.when_condition c n)
  unfolding R.when_condition
  head = then_ (takes_ _ 0 (W w.When)) (λ _. expression_covers c n l d) refl

  tail : Covers (Exceeded c n l d) false (W w.Else ∷ []) wave_next (Tail l d) (R.else_waveform c n)
  unfolding R.else_waveform
  tail = then_ (takes_ _ 0 (W w.Else)) (λ _. part.waveform c n l d) refl

  -- one turn and more, each of which reads a condition, and then a waveform
  turns_covers : (k : ℕ) (so_far : Waves) → Covers (Exceeded c n l d) true (W w.When ∷ []) waves_next (Turns (Head l d) (Tail l d) (G.otherwise l d) when_else with_condition (otherwise_is l d) (suc k) so_far) (R.wave_turns c n (suc k) so_far)
  turns_covers zero so_far = fits (W w.When ∷ []) waves_next (or_ (word w.When) (class_tells (W w.When)) (then_ head
      (λ x. or_ (word w.Else) (class_tells (W w.Else)) (then_ tail (λ more. pure_covers _ _) refl) (pure_covers _ _) refl) refl) (pure_covers _ _) refl) refl refl refl
  turns_covers (suc k) so_far = fits (W w.When ∷ []) waves_next (or_ (word w.When) (class_tells (W w.When)) (then_ head
      (λ x. or_ (word w.Else) (class_tells (W w.Else)) (then_ tail (λ more. turns_covers k (when_else so_far (x, more))) refl) (pure_covers _ _) refl) refl) (pure_covers _ _) refl) refl refl refl

  conditional_waveforms : Covers (Exceeded c n l d) false expr_first waves_next (G.conditional_waveforms l d) (R.conditional_waveforms c n)
  unfolding G.conditional_waveforms R.conditional_waveforms R.more_waveforms S.condition
  conditional_waveforms = fits expr_first waves_next (then_ (part.waveform c n l d)
      (λ first. loop_covers (Head l d) (Tail l d) (G.otherwise l d) when_else with_condition (otherwise_is l d) (Exceeded c n l d) (W w.When ∷ []) waves_next (R.wave_turns c n) turns_covers (λ a k. refl) ([], first)) refl) refl refl refl

  concurrent_break : Covers (Exceeded c n l d) false (W w.Break ∷ []) [] (G.concurrent_break l d) (R.concurrent_break c n)
  unfolding G.concurrent_break R.concurrent_break
  concurrent_break = then_ (takes_ _ 0 (W w.Break)) (λ place. then_ (part.break_elements c n l d) (λ elements. then_ (part.names_on c n l d)
      (λ on. then_ (part.condition c n l d) (λ x. then_ (takes_ _ 0 (M m.Semicolon)) (λ _. pure_covers _ _) refl) refl) refl) refl) refl

  actual : (formal : Option Name) → Covers (Exceeded c n l d) false association_first expr_next (G.actual l d formal) (R.actual c n formal)
  unfolding G.actual R.actual
  actual formal = fits association_first expr_next (or_ (word w.Open) (class_tells (W w.Open)) (ends _ (takes_ _ 0 (W w.Open))) (ends _ (expression_covers c n l d)) refl) refl refl refl

  simultaneous_branch : Covers (Exceeded c n l d) false expr_first expr_first (G.simultaneous_branch l d) (R.simultaneous_branch c n)
  unfolding G.simultaneous_branch R.simultaneous_branch
  simultaneous_branch = fits expr_first expr_first (then_ (expression_covers c n l d) (λ x. then_ (takes_ _ 0 (W w.Use)) (λ _. ends _ equations) refl) refl) refl refl refl

  simultaneous_alternative : Covers (Exceeded c n l d) false (W w.When ∷ []) expr_first (G.simultaneous_alternative l d) (R.simultaneous_alternative c n)
  unfolding G.simultaneous_alternative R.simultaneous_alternative
  simultaneous_alternative = fits (W w.When ∷ []) expr_first (then_ (part.choices c n l d) (λ xs. ends _ equations) refl) refl refl refl

  simultaneous_if : (place : Place) → Covers (Exceeded c n l d) false expr_first [] (G.simultaneous_if l d place) (R.simultaneous_if c n place)
  unfolding G.simultaneous_if R.simultaneous_if R.more_branches R.other_equations
  simultaneous_if place = then_ simultaneous_branch
      (λ first. then_ (again (word w.Elsif) (class_tells (W w.Elsif)) last (then_ (takes_ _ 0 (W w.Elsif)) (λ _. simultaneous_branch) refl) refl (first ∷ []))
      (λ all. then_ (maybe (word w.Else) (class_tells (W w.Else)) (then_ (takes_ _ 0 (W w.Else)) (λ _. equations) refl)) (λ other. ends _ (part.ending _ w.Use)) refl) refl) refl

  alternatives : Covers (Exceeded c n l d) false (W w.When ∷ []) (W w.When ∷ expr_first) (G.simultaneous_alternatives l d) (R.simultaneous_alternatives c n)
  unfolding G.simultaneous_alternatives R.simultaneous_alternatives R.more_alternatives
  alternatives = fits (W w.When ∷ []) (W w.When ∷ expr_first) (then_ simultaneous_alternative
      (λ first. again (word w.When) (class_tells (W w.When)) last simultaneous_alternative refl (first ∷ [])) refl) refl refl refl

  simultaneous_case : (place : Place) → Covers (Exceeded c n l d) false expr_first [] (G.simultaneous_case l d place) (R.simultaneous_case c n place)
  unfolding G.simultaneous_case R.simultaneous_case
  simultaneous_case place = then_ (expression_covers c n l d) (λ x. then_ (takes_ _ 0 (W w.Use)) (λ _. then_ alternatives (λ all. ends _ (part.ending _ w.Case)) refl) refl) refl

  -- a token that opens a level
  opens : (f : ℕ) → Covers (Exceeded c n l d) false (f ∷ []) [] (rule.terminal (allows d) 0 (of_class f)) (reading.terminal (allows n) 0 (of_class f))
  opens f = token_covers (Exceeded c n l d) (allows d) (allows n) 0 (f ∷ []) (of_class f) (class_tells f) (λ ok e. inl (over_levels d n ok e))

-- ---- choices by the second token

-- where the rule has no more levels and operators than its reading
actual_alone : (l d : ℕ) (t : Token) → has names (class t) ≡ true → (G.actual l d None).begins (t ∷ []) 0
unfolding G.actual
actual_alone l d t is = let x = an_expression l d t is in inr (inl ((expression_covers l d l d).whole x.0 (t ∷ []) 0 x.1))

equation_alone : (l d : ℕ) (t : Token) → has names (class t) ≡ true → (G.equation l d).begins (t ∷ []) 0
unfolding G.equation
equation_alone l d t is = let x = a_simple_expression l d t is in inl ((simple_expression_covers l d l d).whole x.0 (t ∷ []) 0 x.1)

module _ (c n l d : ℕ) where
  one_association : Covers (Exceeded c n l d) false association_first association_next (G.one_association l d) (R.one_association c n)
  unfolding G.one_association R.one_association R.named_association
  one_association = fits association_first association_next (named_or (Exceeded c n l d) m.Arrow (λ formal. actual c n l d (Some formal)) (fits association_first association_next (actual c n l d None) refl refl refl)
      (actual_alone l d) (λ t u ts k is arrow. never_goes_on (not_exceeded l d) (actual l d l d None) (t ∷ u ∷ ts) (length ts) k (λ s. actual_stops l d t u ts s is arrow)) refl refl) refl refl refl

  associations : Covers (Exceeded c n l d) false association_first (M m.Comma ∷ association_next) (G.associations l d) (R.associations c n)
  unfolding G.associations R.associations R.more_associations
  associations = fits association_first (M m.Comma ∷ association_next) (then_ one_association
      (λ first. again (mark m.Comma) (class_tells (M m.Comma)) last (then_ (takes_ _ 0 (M m.Comma)) (λ _. one_association) refl) refl (first ∷ [])) refl) refl refl refl

module _ (c n l d : ℕ) where
  assignment_or_equation : Covers (Exceeded c n l d) false expr_first (M m.LessEqual ∷ []) (rule.◌<|>◌ (G.concurrent_assignment l d) (rule.◌>>=◌ (G.equation l d) (λ x. rule.pure (conc.Equation x)))) (R.assignment_or_equation c n)
  unfolding R.assignment_or_equation G.concurrent_assignment R.concurrent_assignment
  assignment_or_equation = fits expr_first (M m.LessEqual ∷ []) (named_or (Exceeded c n l d) m.LessEqual
      (λ target. then_ (part.maybe_delay c n l d) (λ how. then_ (conditional_waveforms c n l d) (λ waves. then_ (takes_ _ 0 (M m.Semicolon)) (λ _. pure_covers _ _) refl) refl) refl)
      (fits expr_first (M m.LessEqual ∷ []) (ends _ (equation c n l d)) refl refl refl)
      (λ t is. inl (equation_alone l d t is)) (λ t u ts k is less. never_goes_on (not_exceeded l d) (ends _ (equation l d l d)) (t ∷ u ∷ ts) (length ts) k (λ s. equation_stops l d t u ts s is less)) refl refl) refl refl refl

  -- ---- processes

  sensitivity : Covers (Exceeded c n l d) false (M m.LeftParen ∷ []) [] (G.sensitivity l d) (R.sensitivity c n)
  unfolding G.sensitivity R.sensitivity
  sensitivity = then_ (opens c n l d (M m.LeftParen)) (λ _. then_ (resized (from_below c n l d) names (M m.Comma ∷ name_next) (part.name_list c (below n) l (below d)) refl refl refl) (λ all. then_ (takes_ _ 0 (M m.RightParen)) (λ _. pure_covers _ all) refl) refl) refl

  process_head : Covers (Exceeded c n l d) false (M m.LeftParen ∷ W w.Is ∷ W w.Begin ∷ process_declaration_first) [] (G.process_head l d) (R.process_head c n)
  unfolding G.process_head R.process_head R.maybe_sensitivity word_said R.declarations
  process_head = fits (M m.LeftParen ∷ W w.Is ∷ W w.Begin ∷ process_declaration_first) [] (then_ (maybe (mark m.LeftParen) (class_tells (M m.LeftParen)) sensitivity)
      (λ names. then_ (or_ (word w.Is) (class_tells (W w.Is)) (then_ (takes_ _ 0 (W w.Is)) (λ _. pure_covers _ true) refl) (pure_covers _ false) refl)
      (λ is. then_ (again begins_process_declaration process_declaration_tells last (process_declaration_covers c n l d) refl []) (λ locals. then_ (takes_ _ 0 (W w.Begin)) (λ _. pure_covers _ _) refl) refl) refl) refl) refl refl refl

  process_body : Covers (Exceeded c n l d) false (W w.End ∷ seq_first) [] (G.process_body l d) (R.process_body c n)
  unfolding G.process_body R.process_body R.statements R.maybe_name
  process_body = fits (W w.End ∷ seq_first) [] (then_ (again begins_statement statement_tells last (statement_covers c n l d) refl [])
      (λ all. then_ (takes_ _ 0 (W w.End)) (λ _. then_ (takes_ _ 0 (W w.Process)) (λ _. then_ (maybe name_of name_of_tells (reads _ 0 names name_of name_of_tells))
      (λ name. then_ (takes_ _ 0 (M m.Semicolon)) (λ _. pure_covers _ _) refl) refl) refl) refl) refl) refl refl refl

  process_parts : (place : Place) → Covers (Exceeded c n l d) false (M m.LeftParen ∷ W w.Is ∷ W w.Begin ∷ process_declaration_first) [] (G.process_parts l d place) (R.process_parts c n place)
  unfolding G.process_parts R.process_parts
  process_parts place = then_ process_head (λ x. ends _ process_body) refl

  -- ---- instances

  entity_name : (first : Name) → Covers (Exceeded c n l d) true (M m.Point ∷ []) (M m.Point ∷ []) (G.entity_name l d first) (R.entity_name first)
  unfolding G.entity_name R.entity_name
  entity_name first = fits (M m.Point ∷ []) (M m.Point ∷ []) (or_ (mark m.Point) (class_tells (M m.Point)) (then_ (takes_ _ 0 (M m.Point)) (λ _. ends _ (reads _ 0 names name_of name_of_tells)) refl) (pure_covers _ _) refl) refl refl refl

  architecture_name : Covers (Exceeded c n l d) false (M m.LeftParen ∷ []) [] (G.architecture_name l d) (R.architecture_name c n)
  unfolding G.architecture_name R.architecture_name
  architecture_name = then_ (opens c n l d (M m.LeftParen)) (λ _. then_ (reads _ 0 names name_of name_of_tells) (λ name. then_ (takes_ _ 0 (M m.RightParen)) (λ _. pure_covers _ name) refl) refl) refl

  entity_aspect : Covers (Exceeded c n l d) false (W w.Entity ∷ []) (M m.Point ∷ M m.LeftParen ∷ []) (G.entity_aspect l d) (R.entity_aspect c n)
  unfolding G.entity_aspect R.entity_aspect R.maybe_architecture
  entity_aspect = fits (W w.Entity ∷ []) (M m.Point ∷ M m.LeftParen ∷ []) (then_ (takes_ _ 0 (W w.Entity)) (λ place. then_ (reads _ 0 names name_of name_of_tells)
      (λ first. then_ (entity_name first) (λ of. ends _ (maybe (mark m.LeftParen) (class_tells (M m.LeftParen)) architecture_name)) refl) refl) refl) refl refl refl

  map_aspect : Covers (Exceeded c n l d) false (W w.Map ∷ []) [] (G.map_aspect l (below d) (allows d)) (R.map_aspect c (below n) (allows n))
  unfolding G.map_aspect R.map_aspect
  map_aspect = then_ (takes_ _ 0 (W w.Map)) (λ _. then_ (opens c n l d (M m.LeftParen)) (λ _. then_ (resized (from_below c n l d) association_first (M m.Comma ∷ association_next) (associations c (below n) l (below d)) refl refl refl) (λ all. then_ (takes_ _ 0 (M m.RightParen)) (λ _. pure_covers _ all) refl) refl) refl) refl

  maybe_map : (x : Word) → Covers (Exceeded c n l d) true (W x ∷ []) (W x ∷ []) (rule.optional (rule.◌>>◌ (rule.one (word x)) (G.map_aspect l (below d) (allows d)))) (R.maybe_map c n x)
  unfolding R.maybe_map
  maybe_map x = maybe (word x) (class_tells (W x)) (then_ (takes_ _ 0 (W x)) (λ _. map_aspect) refl)

  instance : Covers (Exceeded c n l d) false (W w.Entity ∷ []) [] (G.instance l d) (R.instance c n)
  unfolding G.instance R.instance G.maps R.maps
  instance = then_ entity_aspect (λ aspect. then_ (maybe_map w.Generic) (λ xs. then_ (maybe_map w.Port) (λ ys. then_ (takes_ _ 0 (M m.Semicolon)) (λ _. pure_covers _ _) refl) refl) refl) refl

-- ---- any statement

module _ (c n l d : ℕ) where
  unlabelled : Covers (Exceeded c n l d) false conc_first (M m.LessEqual ∷ []) (G.unlabelled l d) (R.unlabelled c n)
  unfolding G.unlabelled R.unlabelled
  unlabelled = fits conc_first (M m.LessEqual ∷ [])
      (or_ (word w.Process) (class_tells (W w.Process)) (then_ (opens c n l d (W w.Process)) (λ place. resized (from_below c n l d) (M m.LeftParen ∷ W w.Is ∷ W w.Begin ∷ process_declaration_first) [] (process_parts c (below n) l (below d) place) refl refl refl) refl)
      (or_ (word w.If) (class_tells (W w.If)) (then_ (opens c n l d (W w.If)) (λ place. resized (from_below c n l d) expr_first [] (simultaneous_if c (below n) l (below d) place) refl refl refl) refl)
      (or_ (word w.Case) (class_tells (W w.Case)) (then_ (opens c n l d (W w.Case)) (λ place. resized (from_below c n l d) expr_first [] (simultaneous_case c (below n) l (below d) place) refl refl refl) refl)
      (or_ (word w.Assert) (class_tells (W w.Assert)) (ends _ (part.assertion c n l d))
      (or_ (word w.Break) (class_tells (W w.Break)) (concurrent_break c n l d)
      (assignment_or_equation c n l d) refl) refl) refl) refl) refl) refl refl refl

unlabelled_alone : (l d : ℕ) (t : Token) → has names (class t) ≡ true → (G.unlabelled l d).begins (t ∷ []) 0
unfolding G.unlabelled
unlabelled_alone l d t is = inr (inr (inr (inr (inr (inr (inl (equation_alone l d t is)))))))

pub concurrent_covers : (c n l d : ℕ) → Covers (Exceeded c n l d) false conc_first conc_next (G.concurrent l d) (R.concurrent c n)
unfolding G.concurrent R.concurrent R.labelled R.labelled_statement
concurrent_covers c n l d = fits conc_first conc_next (named_or (Exceeded c n l d) m.Colon
    (λ name. ends _ (or_ (word w.Entity) (class_tells (W w.Entity)) (instance c n l d) (unlabelled c n l d) refl))
    (fits conc_first conc_next (ends _ (unlabelled c n l d)) refl refl refl)
    (λ t is. inl (unlabelled_alone l d t is)) (λ t u ts k is colon. never_goes_on (not_exceeded l d) (ends _ (unlabelled l d l d)) (t ∷ u ∷ ts) (length ts) k (λ s. unlabelled_stops l d t u ts s is colon)) refl refl) refl refl refl
