-- Each rule of sequential statements is covered by its reading, with the kinds of token that begin it and that may follow.
use Rattle.std.proofs.Common.{◌≡◌, ℕ, zero, suc, Bool, true, false, IsTrue, List, [], ◌∷◌, ◌++◌, length, Err, is_some, refl, sym, subst, inl, inr, arith, true≢false, le_refl}
use Rattle.ams_token.specs.declared.token.Place.{Place}
use Rattle.ams_token.specs.declared.token.Token.{Token}
use Rattle.ams_token.specs.declared.token.TokenKind.{TokenKind}
use Rattle.ams_token.specs.declared.token.TokenKind.TheVariants as kind
use Rattle.ams_token.specs.declared.word.Word.{Word}
use Rattle.ams_token.specs.declared.word.Word.TheVariants as w
use Rattle.ams_token.specs.declared.mark.Mark.TheVariants as m
use Rattle.ams_token.specs.Classes.{kind_class}
use Rattle.ams_tree.specs.declared.sequential.Iteration.{Iteration}
use Rattle.ams_tree.specs.declared.sequential.Branch.{Branch}
use Rattle.ams_tree.specs.declared.sequential.Seq.{Seq}
use Rattle.ams_tree.specs.Terminals.{mark, word, name_of, string_of}
use Rattle.ams_tree.specs.Rule.{Rule}
use Rattle.ams_tree.specs.Rule as rule
use Rattle.ams_tree.specs.Expressions.{last, nowhere, lower, allows, below, expression}
use Rattle.ams_tree.specs.Statements as G
use Rattle.parse_steps.specs.declared.reader.Stop.TheVariants.{TooDeep}
use Rattle.parse_steps.specs.Reading.{Parser}
use Rattle.parse_steps.specs.Reading as reading
use Rattle.parse_steps.proofs.Sets.{has}
use Rattle.parse_steps.proofs.Covers.{Covers, Tells, token_covers, resized, nothing_covers, deep_covers, no_tokens}
use Rattle.parse_steps.proofs.Covering.{then_, ends, reads, takes_, or_, again, fits, maybe}
use Rattle.parse_steps.proofs.KindSets.{W, M, class_tells, names, strings, name_of_tells, string_of_tells}
use Rattle.parse_expr.specs.Parsing as expr
use Rattle.parse_expr.proofs.RulesCover.{expr_first, expr_next, simple_next, expression_covers, over_levels}
use Rattle.parse_parts.proofs.Levels.{Exceeded, from_below}
use Rattle.parse_parts.proofs.PartsCover as P
use Rattle.parse_seq.specs.Parsing as R
use Rattle.parse_seq.specs.Parsing.{begins_simple, simple_in, begins_statement, statement_in}

-- ---- the kinds of token that begin a statement

abbrev pub simple_first : List ℕ
simple_first = W w.Exit ∷ W w.Next ∷ W w.Wait ∷ W w.Assert ∷ W w.Report ∷ W w.Break ∷ W w.Null ∷ names

abbrev pub compound_first : List ℕ
compound_first = W w.If ∷ W w.Case ∷ W w.While ∷ W w.For ∷ W w.Loop ∷ []

abbrev pub seq_first : List ℕ
seq_first = W w.If ∷ W w.Case ∷ W w.While ∷ W w.For ∷ W w.Loop ∷ simple_first

simple_tells : Tells simple_first begins_simple
unfolding begins_simple
simple_tells t = go t.kind
  where
    go : (k : TokenKind) → has simple_first (kind_class k) ≡ is_some (simple_in k)
    go (kind.Name zero) = refl
    go (kind.Name (suc zero)) = refl
    go (kind.Name (suc (suc zero))) = refl
    go (kind.Name (suc (suc (suc zero)))) = refl
    go (kind.Name (suc (suc (suc (suc n))))) = refl
    go (kind.Int x) = refl
    go (kind.Real x) = refl
    go (kind.Char x) = refl
    go (kind.Str x) = refl
    go (kind.Bits x) = refl
    go (kind.Word w.Abs) = refl
    go (kind.Word _) = refl
    go (kind.Mark m.Comma) = refl
    go (kind.Mark _) = refl

pub statement_tells : Tells seq_first begins_statement
unfolding begins_statement
statement_tells t = go t.kind
  where
    go : (k : TokenKind) → has seq_first (kind_class k) ≡ is_some (statement_in k)
    go (kind.Name zero) = refl
    go (kind.Name (suc zero)) = refl
    go (kind.Name (suc (suc zero))) = refl
    go (kind.Name (suc (suc (suc zero)))) = refl
    go (kind.Name (suc (suc (suc (suc n))))) = refl
    go (kind.Int x) = refl
    go (kind.Real x) = refl
    go (kind.Char x) = refl
    go (kind.Str x) = refl
    go (kind.Bits x) = refl
    go (kind.Word w.Abs) = refl
    go (kind.Word _) = refl
    go (kind.Mark m.Comma) = refl
    go (kind.Mark _) = refl

semicolon : {A : Type 0} (Over : Type 0) (x : A) → Covers Over false (M m.Semicolon ∷ []) [] (rule.◌>>◌ (rule.one (mark m.Semicolon)) (rule.pure x)) (reading.◌>>◌ (reading.one (mark m.Semicolon)) (reading.pure x))
semicolon Over x = ends _ (takes_ Over 0 (M m.Semicolon))

-- ---- statements in which no other one stands

module _ (c n l d : ℕ) where
  assignment : Covers (Exceeded c n l d) false names [] (G.assignment l d) (R.assignment c n)
  unfolding G.assignment R.assignment R.signal_assignment R.variable_assignment
  assignment = then_ (reads _ 0 names name_of name_of_tells) (λ target. or_ (mark m.LessEqual) (class_tells (M m.LessEqual))
      (then_ (takes_ _ 0 (M m.LessEqual)) (λ _. then_ (P.maybe_delay c n l d) (λ how. then_ (P.waveform c n l d) (λ wave. semicolon _ _) refl) refl) refl)
      (then_ (takes_ _ 0 (M m.Assign)) (λ _. then_ (expression_covers c n l d) (λ value. semicolon _ _) refl) refl) refl) refl

  exit_statement : Covers (Exceeded c n l d) false (W w.Exit ∷ []) [] (G.exit_statement l d) (R.exit_statement c n)
  unfolding G.exit_statement R.exit_statement
  exit_statement = then_ (takes_ _ 0 (W w.Exit)) (λ place. then_ (P.condition c n l d) (λ x. semicolon _ _) refl) refl

  next_statement : Covers (Exceeded c n l d) false (W w.Next ∷ []) [] (G.next_statement l d) (R.next_statement c n)
  unfolding G.next_statement R.next_statement
  next_statement = then_ (takes_ _ 0 (W w.Next)) (λ place. then_ (P.condition c n l d) (λ x. semicolon _ _) refl) refl

  behind : (x : Word) → Covers (Exceeded c n l d) true ((W x ∷ []) ++ []) (((expr_next ++ []) ++ []) ++ (W x ∷ [])) (rule.optional (rule.◌>>◌ (rule.one (word x)) (expression l d))) (R.behind c n x)
  unfolding R.behind
  behind x = maybe (word x) (class_tells (W x)) (then_ (takes_ _ 0 (W x)) (λ _. expression_covers c n l d) refl)

  wait_statement : Covers (Exceeded c n l d) false (W w.Wait ∷ []) [] (G.wait_statement l d) (R.wait_statement c n)
  unfolding G.wait_statement R.wait_statement
  wait_statement = then_ (takes_ _ 0 (W w.Wait)) (λ place. then_ (P.names_on c n l d) (λ on. then_ (behind w.Until) (λ until. then_ (behind w.For) (λ time. semicolon _ _) refl) refl) refl) refl

  report_statement : Covers (Exceeded c n l d) false (W w.Report ∷ []) [] (G.report_statement l d) R.report_statement
  unfolding G.report_statement R.report_statement
  report_statement = then_ (takes_ _ 0 (W w.Report)) (λ place. then_ (reads _ 0 strings string_of string_of_tells) (λ message. then_ (P.severity _ l d) (λ level. semicolon _ _) refl) refl) refl

  break_statement : Covers (Exceeded c n l d) false (W w.Break ∷ []) [] (G.break_statement l d) (R.break_statement c n)
  unfolding G.break_statement R.break_statement
  break_statement = then_ (takes_ _ 0 (W w.Break)) (λ place. then_ (P.break_elements c n l d) (λ elements. then_ (P.condition c n l d) (λ x. semicolon _ _) refl) refl) refl

  null_statement : Covers (Exceeded c n l d) false (W w.Null ∷ []) [] (G.null_statement l d) R.null_statement
  unfolding G.null_statement R.null_statement
  null_statement = then_ (takes_ _ 0 (W w.Null)) (λ place. semicolon _ _) refl

  simple_statement : Covers (Exceeded c n l d) false simple_first [] (G.simple_statement l d) (R.simple_statement c n)
  unfolding G.simple_statement R.simple_statement
  simple_statement = fits simple_first [] (or_ name_of name_of_tells assignment
      (or_ (word w.Exit) (class_tells (W w.Exit)) exit_statement
      (or_ (word w.Next) (class_tells (W w.Next)) next_statement
      (or_ (word w.Wait) (class_tells (W w.Wait)) wait_statement
      (or_ (word w.Assert) (class_tells (W w.Assert)) (ends _ (P.assertion c n l d))
      (or_ (word w.Report) (class_tells (W w.Report)) report_statement
      (or_ (word w.Break) (class_tells (W w.Break)) break_statement
      null_statement refl) refl) refl) refl) refl) refl) refl) refl refl refl

-- ---- statements in which others stand, with the limits inside

module _ (Over : Type 0) (allowed_rule allowed : Bool) (inner_rule : Rule Seq) (inner : Parser Seq) (c n l d : ℕ) (over : IsTrue allowed_rule → allowed ≡ false → Over) (more : Exceeded c n l d → Over)
    (h : Covers Over false seq_first [] inner_rule inner) where
  opens : (x : Word) → Covers Over false (W x ∷ []) [] (rule.terminal allowed_rule 0 (word x)) (reading.terminal allowed 0 (word x))
  opens x = token_covers Over allowed_rule allowed 0 (W x ∷ []) (word x) (class_tells (W x)) over

  whole_expression : Covers Over false expr_first expr_next (expression l d) (expr.expression c n)
  whole_expression = resized more expr_first expr_next (expression_covers c n l d) refl refl refl

  body : Covers Over true seq_first seq_first (G.body allowed_rule inner_rule l d) (R.body allowed inner c n)
  unfolding G.body R.body
  body = again begins_statement statement_tells last h refl []

  branch : Covers Over false expr_first seq_first (G.branch allowed_rule inner_rule l d) (R.branch allowed inner c n)
  unfolding G.branch R.branch
  branch = then_ whole_expression (λ x. then_ (takes_ Over 0 (W w.Then)) (λ _. ends _ body) refl) refl

  rest_of_if : (place : Place) (first : Branch) → Covers Over false (W w.Elsif ∷ W w.Else ∷ W w.End ∷ []) [] (G.rest_of_if allowed_rule inner_rule l d place first) (R.rest_of_if allowed inner c n place first)
  unfolding G.rest_of_if R.rest_of_if R.more_branches R.otherwise
  rest_of_if place first = then_ (again (word w.Elsif) (class_tells (W w.Elsif)) last (then_ (takes_ Over 0 (W w.Elsif)) (λ _. branch) refl) refl (first ∷ []))
      (λ all. then_ (maybe (word w.Else) (class_tells (W w.Else)) (then_ (takes_ Over 0 (W w.Else)) (λ _. body) refl)) (λ other. ends _ (P.ending Over w.If)) refl) refl

  if_statement : Covers Over false (W w.If ∷ []) [] (G.if_statement allowed_rule inner_rule l d) (R.if_statement allowed inner c n)
  unfolding G.if_statement R.if_statement
  if_statement = then_ (opens w.If) (λ place. then_ branch (rest_of_if place) refl) refl

  alternative : Covers Over false (W w.When ∷ []) seq_first (G.alternative allowed_rule inner_rule l d) (R.alternative allowed inner c n)
  unfolding G.alternative R.alternative
  alternative = then_ (resized more (W w.When ∷ []) [] (P.choices c n l d) refl refl refl) (λ xs. ends _ body) refl

  alternatives : Covers Over false (W w.When ∷ []) (W w.When ∷ seq_first) (G.alternatives allowed_rule inner_rule l d) (R.alternatives allowed inner c n)
  unfolding G.alternatives R.alternatives R.more_alternatives
  alternatives = fits (W w.When ∷ []) (W w.When ∷ seq_first) (then_ alternative (λ first. again (word w.When) (class_tells (W w.When)) last alternative refl (first ∷ [])) refl) refl refl refl

  case_statement : Covers Over false (W w.Case ∷ []) [] (G.case_statement allowed_rule inner_rule l d) (R.case_statement allowed inner c n)
  unfolding G.case_statement R.case_statement
  case_statement = then_ (opens w.Case) (λ place. then_ whole_expression (λ x. then_ (takes_ Over 0 (W w.Is)) (λ _. then_ alternatives (λ all. ends _ (P.ending Over w.Case)) refl) refl) refl) refl

  rest_of_loop : (place : Place) (how : Iteration) → Covers Over false (seq_first ++ W w.End ∷ []) [] (G.rest_of_loop allowed_rule inner_rule l d place how) (R.rest_of_loop allowed inner c n place how)
  unfolding G.rest_of_loop R.rest_of_loop
  rest_of_loop place how = then_ body (λ all. ends _ (P.ending Over w.Loop)) refl

  parameter : Covers Over false names simple_next (G.parameter allowed_rule inner_rule l d) (R.parameter allowed inner c n)
  unfolding G.parameter R.parameter
  parameter = then_ (reads Over 0 names name_of name_of_tells) (λ name. then_ (takes_ Over 0 (W w.In)) (λ _. ends _ (resized more expr_first simple_next (P.range c n l d) refl refl refl)) refl) refl

  loop_statement : Covers Over false (W w.While ∷ W w.For ∷ W w.Loop ∷ []) [] (G.loop_statement allowed_rule inner_rule l d) (reading.choose (reading.at (word w.While)) (R.while_loop allowed inner c n) (reading.choose (reading.at (word w.For)) (R.for_loop allowed inner c n) (R.plain_loop allowed inner c n)))
  unfolding G.loop_statement R.while_loop R.for_loop R.plain_loop
  loop_statement = or_ (word w.While) (class_tells (W w.While)) (then_ (opens w.While) (λ place. then_ whole_expression (λ x. then_ (takes_ Over 0 (W w.Loop)) (λ _. rest_of_loop place _) refl) refl) refl)
      (or_ (word w.For) (class_tells (W w.For)) (then_ (opens w.For) (λ place. then_ parameter (λ how. then_ (takes_ Over 0 (W w.Loop)) (λ _. rest_of_loop place how) refl) refl) refl)
      (then_ (opens w.Loop) (λ place. rest_of_loop place _) refl) refl) refl

  compound_statement : Covers Over false compound_first [] (G.compound_statement allowed_rule inner_rule l d) (R.compound_statement allowed inner c n)
  unfolding G.compound_statement R.compound_statement
  compound_statement = fits compound_first [] (or_ (word w.If) (class_tells (W w.If)) if_statement (or_ (word w.Case) (class_tells (W w.Case)) case_statement loop_statement refl) refl) refl refl refl

-- ---- to any depth

pub statement_is : (l d : ℕ) → G.statement l d ≡ rule.◌<|>◌ (G.simple_statement l d) (G.compound_statement (allows d) (lower (G.statement l) d) l (below d))
unfolding G.statement
statement_is l zero = refl
statement_is l (suc d) = refl

any_covers : (Over : Type 0) (inner : Parser Seq) (c n l d : ℕ) → (Exceeded c n l d → Over) → Covers Over false seq_first [] (lower (G.statement l) d) inner → Covers Over false seq_first [] (G.statement l d) (R.any_statement inner c n)
unfolding R.any_statement
any_covers Over inner c n l d more h =
    subst (λ L. Covers Over false seq_first [] L (reading.choose (reading.at begins_simple) (R.simple_statement c n) (R.compound_statement (allows n) inner c (below n)))) (sym (statement_is l d))
    (fits seq_first [] (or_ begins_simple simple_tells (resized more simple_first [] (simple_statement c n l d) refl refl refl)
    (compound_statement Over (allows d) (allows n) (lower (G.statement l) d) inner c (below n) l (below d) (λ ok e. more (inl (over_levels d n ok e))) (λ o. more (from_below c n l d o)) h) refl) refl refl refl)

-- with no level left
none_left : (c l d : ℕ) → Covers (Exceeded c 0 l d) false seq_first [] (lower (G.statement l) d) (R.nested c 0)
unfolding R.nested
none_left c l zero = deep_covers (Exceeded c 0 l 0) seq_first [] nowhere (λ a ts n s. absurd s) (λ a t ts n s. absurd s) (λ t ts n b. absurd (cons_nil t ts b.tokens)) (λ t ts n b. absurd (cons_nil t ts b.tokens)) (λ a n s. s) (λ a ts n s. absurd s)
    (λ ts us n b. (n, le_refl n, record { tokens = no_tokens ts us b.tokens; count = b.count }))
  where
    cons_nil : (t : Token) (ts : List Token) → t ∷ ts ≡ [] → ⊥
    cons_nil t ts e = cc
none_left c l (suc d) = go (none_left c l d)
  where
    go : Covers (Exceeded c 0 l d) false seq_first [] (lower (G.statement l) d) (R.nested c 0) → Covers (Exceeded c 0 l (suc d)) false seq_first [] (G.statement l d) (λ s. Err (TooDeep (length s.rest)))
    go h =
        let one : Exceeded c 0 l (suc d) = inl (omega arith) in
        let k = any_covers (Exceeded c 0 l d) (R.nested c 0) c 0 l d (λ o. o) h in
        deep_covers (Exceeded c 0 l (suc d)) seq_first [] (G.statement l d) (λ a ts n s. one) k.first_spelled k.first_begun (λ t ts n b. one) (λ a n s. true≢false (sym (k.empty_spelled a n s))) k.whole k.fronts

one_deeper : (c n l d : ℕ) → Exceeded c n l d → Exceeded c (suc n) l (suc d)
one_deeper c n l d (inl o) = inl (omega (arith, o))
one_deeper c n l d (inr o) = inr o

one_more : (c n l d : ℕ) → Covers (Exceeded c n l d) false seq_first [] (lower (G.statement l) d) (R.nested c n) → Covers (Exceeded c (suc n) l (suc d)) false seq_first [] (G.statement l d) (R.nested c (suc n))
unfolding R.nested
one_more c n l d h = resized (one_deeper c n l d) seq_first [] (any_covers (Exceeded c n l d) (R.nested c n) c n l d (λ o. o) h) refl refl refl

nested_covers : (c n l d : ℕ) → Covers (Exceeded c n l d) false seq_first [] (lower (G.statement l) d) (R.nested c n)
nested_covers c zero l d = none_left c l d
nested_covers c (suc n) l zero = nothing_covers (one_more c n l 0 (nested_covers c n l 0)) (λ a ts k s. s) (λ ts k b. b.tokens)
nested_covers c (suc n) l (suc d) = one_more c n l d (nested_covers c n l d)

pub statement_covers : (c n l d : ℕ) → Covers (Exceeded c n l d) false seq_first [] (G.statement l d) (R.statement c n)
unfolding R.statement
statement_covers c n l d = any_covers (Exceeded c n l d) (R.nested c n) c n l d (λ o. o) (nested_covers c n l d)
