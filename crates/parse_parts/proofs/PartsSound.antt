-- What is read by the shared parts is a text of them.
use Rattle.std.proofs.Common.{ℕ, ◌≤◌, [], ◌∷◌, Option, Some, None}
use Rattle.ams_token.specs.declared.word.Word.{Word}
use Rattle.ams_token.specs.declared.word.Word.TheVariants as w
use Rattle.ams_token.specs.declared.mark.Mark.TheVariants as m
use Rattle.ams_tree.specs.declared.expression.Name.{Name}
use Rattle.ams_tree.specs.declared.expression.Expr.{Expr}
use Rattle.ams_tree.specs.Terminals.{mark, word, string_of}
use Rattle.ams_tree.specs.Rule as rule
use Rattle.ams_tree.specs.Expressions as E
use Rattle.ams_tree.specs.Expressions.{last}
use Rattle.ams_tree.specs.Declarations as G
use Rattle.ams_tree.specs.Statements as S
use Rattle.parse_steps.proofs.Sound.{Sound, pure_sound}
use Rattle.parse_steps.proofs.Sounding.{then_, ends, free, or_, again, maybe}
use Rattle.parse_expr.proofs.RulesSound.{More, expression_sound, simple_expression_sound, listed_name_sound}
use Rattle.parse_expr.specs.Parsing as P
use Rattle.parse_parts.specs.Parsing as R
use Rattle.parse_parts.specs.Parsing.{delaying, breaking}

module _ (Over : Type 0) where
  pub more_names : (first : Name) → Sound Over (G.more_names first) (R.more_names first)
  unfolding G.more_names R.more_names
  more_names first = again (mark m.Comma) last (then_ (free Over _) (λ _. free Over _)) (first ∷ [])

  pub names_sound : Sound Over G.names R.names
  unfolding G.names R.names
  names_sound = then_ (free Over _) more_names

  pub name_after : (x : Word) → Sound Over (G.name_after x) (R.name_after x)
  unfolding G.name_after R.name_after
  name_after x = then_ (free Over _) (λ _. free Over _)

module _ (c n l d : ℕ) (le1 : c ≤ l) (le2 : n ≤ d) where
  pub range : Sound (More c n l d) (G.range l d) (R.range c n)
  unfolding G.range R.range
  range = then_ (simple_expression_sound c n l d le1 le2) (λ left. then_ (free _ _) (λ way. then_ (simple_expression_sound c n l d le1 le2) (λ right. pure_sound _ _)))

-- ---- parts of statements

module _ (Over : Type 0) where
  pub ending : (x : Word) → Sound Over (S.ending x) (R.ending x)
  unfolding S.ending R.ending
  ending x = then_ (free Over _) (λ _. then_ (free Over _) (λ _. free Over _))

  pub severity : (l d : ℕ) → Sound Over (S.severity l d) R.severity
  unfolding S.severity R.severity
  severity l d = maybe (word w.Severity) (then_ (free Over _) (λ _. free Over _))

  pub message : Sound Over (rule.optional (rule.◌>>◌ (rule.one (word w.Report)) (rule.one string_of))) R.message
  unfolding R.message
  message = maybe (word w.Report) (then_ (free Over _) (λ _. free Over _))

module _ (c n l d : ℕ) (le1 : c ≤ l) (le2 : n ≤ d) where
  own : Sound (More c n l d) (E.expression l d) (P.expression c n)
  own = expression_sound c n l d le1 le2

  listed : Sound (More c n l d) (E.listed_name l d) (P.listed_name c n)
  listed = listed_name_sound c n l d le1 le2

  pub name_list : Sound (More c n l d) (S.name_list l d) (R.name_list c n)
  unfolding S.name_list R.name_list R.more_listed
  name_list = then_ listed (λ first. again (mark m.Comma) last (then_ (free _ _) (λ _. listed)) (first ∷ []))

  pub names_on : Sound (More c n l d) (rule.◌<|>◌ (rule.◌>>◌ (rule.one (word w.On)) (S.name_list l d)) (rule.pure [])) (R.names_on c n)
  unfolding R.names_on
  names_on = or_ (word w.On) (then_ (free _ _) (λ _. name_list)) (pure_sound _ [])

  pub delay_mechanism : Sound (More c n l d) (S.delay_mechanism l d) (R.delay_mechanism c n)
  unfolding S.delay_mechanism R.delay_mechanism R.rejection
  delay_mechanism = or_ (word w.Transport) (ends _ (free _ _)) (or_ (word w.Reject) (then_ (free _ _) (λ place. then_ own (λ x. then_ (free _ _) (λ _. pure_sound _ _)))) (ends _ (free _ _)))

  pub maybe_delay : Sound (More c n l d) (rule.optional (S.delay_mechanism l d)) (R.maybe_delay c n)
  unfolding R.maybe_delay
  maybe_delay = maybe delaying delay_mechanism

  pub waveform_element : Sound (More c n l d) (S.waveform_element l d) (R.waveform_element c n)
  unfolding S.waveform_element R.waveform_element R.after
  waveform_element = then_ own (λ x. ends _ (maybe (word w.After) (then_ (free _ _) (λ _. own))))

  pub waveform : Sound (More c n l d) (S.waveform l d) (R.waveform c n)
  unfolding S.waveform R.waveform R.more_elements
  waveform = then_ waveform_element (λ first. again (mark m.Comma) last (then_ (free _ _) (λ _. waveform_element)) (first ∷ []))

  pub assertion : Sound (More c n l d) (S.assertion l d) (R.assertion c n)
  unfolding S.assertion R.assertion
  assertion = then_ (free _ _) (λ place. then_ own (λ x. then_ (message _) (λ text. then_ (severity _ l d) (λ level. then_ (free _ _) (λ _. pure_sound _ _)))))

  pub broken : (of : Option Expr) → Sound (More c n l d) (S.broken l d of) (R.broken c n of)
  unfolding S.broken R.broken
  broken of = then_ listed (λ x. then_ (free _ _) (λ _. ends _ own))

  pub break_element : Sound (More c n l d) (S.break_element l d) (R.break_element c n)
  unfolding S.break_element R.break_element R.selected
  break_element = or_ (word w.For) (then_ (free _ _) (λ _. then_ listed (λ of. then_ (free _ _) (λ _. broken (Some of))))) (broken None)

  pub break_list : Sound (More c n l d) (S.break_list l d) (R.break_list c n)
  unfolding S.break_list R.break_list R.more_breaks
  break_list = then_ break_element (λ first. again (mark m.Comma) last (then_ (free _ _) (λ _. break_element)) (first ∷ []))

  pub break_elements : Sound (More c n l d) (S.break_elements l d) (R.break_elements c n)
  unfolding S.break_elements R.break_elements
  break_elements = or_ breaking break_list (pure_sound _ [])

  pub condition : Sound (More c n l d) (S.condition l d) (R.condition c n)
  unfolding S.condition R.condition
  condition = maybe (word w.When) (then_ (free _ _) (λ _. own))

  pub one_choice : Sound (More c n l d) (S.one_choice l d) (R.one_choice c n)
  unfolding S.one_choice R.one_choice
  one_choice = or_ (word w.Others) (ends _ (free _ _)) (ends _ (simple_expression_sound c n l d le1 le2))

  pub choices : Sound (More c n l d) (S.choices l d) (R.choices c n)
  unfolding S.choices R.choices R.more_choices
  choices = then_ (free _ _) (λ _. then_ one_choice (λ first. then_ (again (mark m.Bar) last (then_ (free _ _) (λ _. one_choice)) (first ∷ [])) (λ all. then_ (free _ _) (λ _. pure_sound _ all))))
