-- Each shared part is covered by its reading, with the kinds of token that begin it and that may follow.
use Rattle.std.proofs.Common.{◌≡◌, ℕ, zero, suc, true, false, List, [], ◌∷◌, Option, Some, None, is_some, refl}
use Rattle.ams_token.specs.declared.token.TokenKind.{TokenKind}
use Rattle.ams_token.specs.declared.token.TokenKind.TheVariants as kind
use Rattle.ams_token.specs.declared.word.Word.{Word}
use Rattle.ams_token.specs.declared.word.Word.TheVariants as w
use Rattle.ams_token.specs.declared.mark.Mark.TheVariants as m
use Rattle.ams_token.specs.Classes.{kind_class}
use Rattle.ams_tree.specs.declared.expression.Name.{Name}
use Rattle.ams_tree.specs.declared.expression.Expr.{Expr}
use Rattle.ams_tree.specs.Terminals.{mark, word, name_of, string_of, direction_of}
use Rattle.ams_tree.specs.Rule as rule
use Rattle.ams_tree.specs.Expressions.{last}
use Rattle.ams_tree.specs.Declarations as G
use Rattle.ams_tree.specs.Statements as S
use Rattle.parse_steps.proofs.Sets.{has}
use Rattle.parse_steps.proofs.Covers.{Covers, Tells, pure_covers}
use Rattle.parse_steps.proofs.Covering.{then_, ends, reads, takes_, or_, again, fits, maybe}
use Rattle.parse_steps.proofs.KindSets.{W, M, class_tells, names, strings, directions, name_of_tells, string_of_tells, direction_of_tells}
use Rattle.parse_expr.proofs.RulesCover.{expr_first, expr_next, simple_next, name_next, expression_covers, simple_expression_covers, listed_name_covers}
use Rattle.parse_parts.specs.Parsing as R
use Rattle.parse_parts.specs.Parsing.{delaying, delaying_in, breaking, breaking_in}
use Rattle.parse_parts.proofs.Levels.{Exceeded}

module _ (Over : Type 0) where
  pub more_names : (first : Name) → Covers Over true (M m.Comma ∷ []) (M m.Comma ∷ []) (G.more_names first) (R.more_names first)
  unfolding G.more_names R.more_names
  more_names first = again (mark m.Comma) (class_tells (M m.Comma)) last (then_ (takes_ Over 0 (M m.Comma)) (λ _. reads Over 0 names name_of name_of_tells) refl) refl (first ∷ [])

  pub names_covers : Covers Over false names (M m.Comma ∷ []) G.names R.names
  unfolding G.names R.names
  names_covers = fits names (M m.Comma ∷ []) (then_ (reads Over 0 names name_of name_of_tells) more_names refl) refl refl refl

  pub name_after : (x : Word) → Covers Over false (W x ∷ []) [] (G.name_after x) (R.name_after x)
  unfolding G.name_after R.name_after
  name_after x = then_ (takes_ Over 0 (W x)) (λ _. reads Over 0 names name_of name_of_tells) refl

module _ (c n l d : ℕ) where
  pub range : Covers (Exceeded c n l d) false expr_first simple_next (G.range l d) (R.range c n)
  unfolding G.range R.range
  range = fits expr_first simple_next (then_ (simple_expression_covers c n l d) (λ left. then_ (reads _ 0 directions direction_of direction_of_tells)
      (λ way. then_ (simple_expression_covers c n l d) (λ right. pure_covers _ _) refl) refl) refl) refl refl refl

-- ---- parts of statements

abbrev pub delays : List ℕ
delays = W w.Transport ∷ W w.Reject ∷ W w.Inertial ∷ []

pub delaying_tells : Tells delays delaying
unfolding delaying
delaying_tells t = go t.kind
  where
    go : (k : TokenKind) → has delays (kind_class k) ≡ is_some (delaying_in k)
    go (kind.Name zero) = refl
    go (kind.Name (suc zero)) = refl
    go (kind.Name (suc (suc zero))) = refl
    go (kind.Name (suc (suc (suc zero)))) = refl
    go (kind.Name (suc (suc (suc (suc n))))) = refl
    go (kind.Int x) = refl
    go (kind.Real x) = refl
    go (kind.Char x) = refl
    go (kind.Str x) = refl
    go (kind.Bits x) = refl
    go (kind.Word w.Abs) = refl
    go (kind.Word _) = refl
    go (kind.Mark m.Comma) = refl
    go (kind.Mark _) = refl

abbrev pub break_first : List ℕ
break_first = W w.For ∷ names

pub breaking_tells : Tells break_first breaking
unfolding breaking
breaking_tells t = go t.kind
  where
    go : (k : TokenKind) → has break_first (kind_class k) ≡ is_some (breaking_in k)
    go (kind.Name zero) = refl
    go (kind.Name (suc zero)) = refl
    go (kind.Name (suc (suc zero))) = refl
    go (kind.Name (suc (suc (suc zero)))) = refl
    go (kind.Name (suc (suc (suc (suc n))))) = refl
    go (kind.Int x) = refl
    go (kind.Real x) = refl
    go (kind.Char x) = refl
    go (kind.Str x) = refl
    go (kind.Bits x) = refl
    go (kind.Word w.Abs) = refl
    go (kind.Word _) = refl
    go (kind.Mark m.Comma) = refl
    go (kind.Mark _) = refl

abbrev pub wave_next : List ℕ
wave_next = M m.Comma ∷ W w.After ∷ expr_next

abbrev pub break_next : List ℕ
break_next = M m.Comma ∷ W w.For ∷ expr_next

module _ (Over : Type 0) where
  pub ending : (x : Word) → Covers Over false (W w.End ∷ []) [] (S.ending x) (R.ending x)
  unfolding S.ending R.ending
  ending x = then_ (takes_ Over 0 (W w.End)) (λ _. then_ (takes_ Over 0 (W x)) (λ _. takes_ Over 0 (M m.Semicolon)) refl) refl

  pub severity : (l d : ℕ) → Covers Over true (W w.Severity ∷ []) (W w.Severity ∷ []) (S.severity l d) R.severity
  unfolding S.severity R.severity
  severity l d = fits (W w.Severity ∷ []) (W w.Severity ∷ []) (maybe (word w.Severity) (class_tells (W w.Severity)) (then_ (takes_ Over 0 (W w.Severity)) (λ _. reads Over 0 names name_of name_of_tells) refl)) refl refl refl

  pub message : Covers Over true (W w.Report ∷ []) (W w.Report ∷ []) (rule.optional (rule.◌>>◌ (rule.one (word w.Report)) (rule.one string_of))) R.message
  unfolding R.message
  message = fits (W w.Report ∷ []) (W w.Report ∷ []) (maybe (word w.Report) (class_tells (W w.Report)) (then_ (takes_ Over 0 (W w.Report)) (λ _. reads Over 0 strings string_of string_of_tells) refl)) refl refl refl

module _ (c n l d : ℕ) where
  pub name_list : Covers (Exceeded c n l d) false names (M m.Comma ∷ name_next) (S.name_list l d) (R.name_list c n)
  unfolding S.name_list R.name_list R.more_listed
  name_list = fits names (M m.Comma ∷ name_next) (then_ (listed_name_covers c n l d)
      (λ first. again (mark m.Comma) (class_tells (M m.Comma)) last (then_ (takes_ _ 0 (M m.Comma)) (λ _. listed_name_covers c n l d) refl) refl (first ∷ [])) refl) refl refl refl

  pub names_on : Covers (Exceeded c n l d) true (W w.On ∷ []) (W w.On ∷ M m.Comma ∷ name_next) (rule.◌<|>◌ (rule.◌>>◌ (rule.one (word w.On)) (S.name_list l d)) (rule.pure [])) (R.names_on c n)
  unfolding R.names_on
  names_on = fits (W w.On ∷ []) (W w.On ∷ M m.Comma ∷ name_next) (or_ (word w.On) (class_tells (W w.On)) (then_ (takes_ _ 0 (W w.On)) (λ _. name_list) refl) (pure_covers _ []) refl) refl refl refl

  pub delay_mechanism : Covers (Exceeded c n l d) false delays [] (S.delay_mechanism l d) (R.delay_mechanism c n)
  unfolding S.delay_mechanism R.delay_mechanism R.rejection
  delay_mechanism = fits delays [] (or_ (word w.Transport) (class_tells (W w.Transport)) (ends _ (takes_ _ 0 (W w.Transport)))
      (or_ (word w.Reject) (class_tells (W w.Reject)) (then_ (takes_ _ 0 (W w.Reject)) (λ place. then_ (expression_covers c n l d) (λ x. then_ (takes_ _ 0 (W w.Inertial)) (λ _. pure_covers _ _) refl) refl) refl)
      (ends _ (takes_ _ 0 (W w.Inertial))) refl) refl) refl refl refl

  pub maybe_delay : Covers (Exceeded c n l d) true delays delays (rule.optional (S.delay_mechanism l d)) (R.maybe_delay c n)
  unfolding R.maybe_delay
  maybe_delay = fits delays delays (maybe delaying delaying_tells delay_mechanism) refl refl refl

  pub waveform_element : Covers (Exceeded c n l d) false expr_first (W w.After ∷ expr_next) (S.waveform_element l d) (R.waveform_element c n)
  unfolding S.waveform_element R.waveform_element R.after
  waveform_element = fits expr_first (W w.After ∷ expr_next) (then_ (expression_covers c n l d)
      (λ x. ends _ (maybe (word w.After) (class_tells (W w.After)) (then_ (takes_ _ 0 (W w.After)) (λ _. expression_covers c n l d) refl))) refl) refl refl refl

  pub waveform : Covers (Exceeded c n l d) false expr_first wave_next (S.waveform l d) (R.waveform c n)
  unfolding S.waveform R.waveform R.more_elements
  waveform = fits expr_first wave_next (then_ waveform_element
      (λ first. again (mark m.Comma) (class_tells (M m.Comma)) last (then_ (takes_ _ 0 (M m.Comma)) (λ _. waveform_element) refl) refl (first ∷ [])) refl) refl refl refl

  pub assertion : Covers (Exceeded c n l d) false (W w.Assert ∷ []) [] (S.assertion l d) (R.assertion c n)
  unfolding S.assertion R.assertion
  assertion = then_ (takes_ _ 0 (W w.Assert)) (λ place. then_ (expression_covers c n l d) (λ x. then_ (message _) (λ text. then_ (severity _ l d)
      (λ level. then_ (takes_ _ 0 (M m.Semicolon)) (λ _. pure_covers _ _) refl) refl) refl) refl) refl

  pub broken : (of : Option Expr) → Covers (Exceeded c n l d) false names expr_next (S.broken l d of) (R.broken c n of)
  unfolding S.broken R.broken
  broken of = fits names expr_next (then_ (listed_name_covers c n l d) (λ x. then_ (takes_ _ 0 (M m.Arrow)) (λ _. ends _ (expression_covers c n l d)) refl) refl) refl refl refl

  pub break_element : Covers (Exceeded c n l d) false break_first expr_next (S.break_element l d) (R.break_element c n)
  unfolding S.break_element R.break_element R.selected
  break_element = fits break_first expr_next (or_ (word w.For) (class_tells (W w.For)) (then_ (takes_ _ 0 (W w.For)) (λ _. then_ (listed_name_covers c n l d)
      (λ of. then_ (takes_ _ 0 (W w.Use)) (λ _. broken (Some of)) refl) refl) refl) (broken None) refl) refl refl refl

  pub break_list : Covers (Exceeded c n l d) false break_first break_next (S.break_list l d) (R.break_list c n)
  unfolding S.break_list R.break_list R.more_breaks
  break_list = fits break_first break_next (then_ break_element
      (λ first. again (mark m.Comma) (class_tells (M m.Comma)) last (then_ (takes_ _ 0 (M m.Comma)) (λ _. break_element) refl) refl (first ∷ [])) refl) refl refl refl

  pub break_elements : Covers (Exceeded c n l d) true break_first break_next (S.break_elements l d) (R.break_elements c n)
  unfolding S.break_elements R.break_elements
  break_elements = fits break_first break_next (or_ breaking breaking_tells break_list (pure_covers _ []) refl) refl refl refl

  pub condition : Covers (Exceeded c n l d) true (W w.When ∷ []) (W w.When ∷ expr_next) (S.condition l d) (R.condition c n)
  unfolding S.condition R.condition
  condition = fits (W w.When ∷ []) (W w.When ∷ expr_next) (maybe (word w.When) (class_tells (W w.When)) (then_ (takes_ _ 0 (W w.When)) (λ _. expression_covers c n l d) refl)) refl refl refl

  pub one_choice : Covers (Exceeded c n l d) false (W w.Others ∷ expr_first) simple_next (S.one_choice l d) (R.one_choice c n)
  unfolding S.one_choice R.one_choice
  one_choice = fits (W w.Others ∷ expr_first) simple_next (or_ (word w.Others) (class_tells (W w.Others)) (ends _ (takes_ _ 0 (W w.Others))) (ends _ (simple_expression_covers c n l d)) refl) refl refl refl

  pub choices : Covers (Exceeded c n l d) false (W w.When ∷ []) [] (S.choices l d) (R.choices c n)
  unfolding S.choices R.choices R.more_choices
  choices = then_ (takes_ _ 0 (W w.When)) (λ _. then_ one_choice
      (λ first. then_ (again (mark m.Bar) (class_tells (M m.Bar)) last (then_ (takes_ _ 0 (M m.Bar)) (λ _. one_choice) refl) refl (first ∷ []))
      (λ all. then_ (takes_ _ 0 (M m.Arrow)) (λ _. pure_covers _ all) refl) refl) refl) refl
