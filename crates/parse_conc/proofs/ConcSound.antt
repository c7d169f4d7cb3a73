-- What is read by the rules of concurrent statements is a text of them.
use Rattle.std.proofs.Common.{◌≡◌, ℕ, zero, suc, ◌≤◌, ◌<◌, true, IsTrue, List, [], ◌∷◌, length, Option, Some, None, ap, arith}
use Rattle.ams_token.specs.declared.token.Place.{Place}
use Rattle.ams_token.specs.declared.token.Token.{Token}
use Rattle.ams_token.specs.declared.word.Word.{Word}
use Rattle.ams_token.specs.declared.word.Word.TheVariants as w
use Rattle.ams_token.specs.declared.mark.Mark.TheVariants as m
use Rattle.ams_tree.specs.declared.expression.Name.{Name}
use Rattle.ams_tree.specs.declared.expression.Expr.{Expr}
use Rattle.ams_tree.specs.declared.sequential.WaveformElement.{WaveformElement}
use Rattle.ams_tree.specs.declared.concurrent.ConditionalWaveform.{ConditionalWaveform}
use Rattle.ams_tree.specs.declared.concurrent.ConcurrentStatement.TheVariants as conc
use Rattle.ams_tree.specs.Terminals.{mark, word, name_of}
use Rattle.ams_tree.specs.Rule.{Rule, SpellsToken}
use Rattle.ams_tree.specs.Rule as rule
use Rattle.ams_tree.specs.Expressions as E
use Rattle.ams_tree.specs.Expressions.{last, allows, below}
use Rattle.ams_tree.specs.Statements as S
use Rattle.ams_tree.specs.Concurrents as G
use Rattle.ams_tree.specs.Concurrents.{when_else}
use Rattle.parse_steps.proofs.Sound.{Sound, pure_sound, choose_sound, opened_sound, sound_over}
use Rattle.parse_steps.proofs.Sounding.{then_, ends, free, or_, again, maybe, said}
use Rattle.parse_expr.specs.Parsing as P
use Rattle.parse_expr.proofs.RulesSound.{More, expression_sound, simple_expression_sound, may_levels, over_allows}
use Rattle.parse_parts.proofs.Levels.{to_below, below_le}
use Rattle.parse_parts.proofs.PartsCover as part_covers
use Rattle.parse_parts.proofs.PartsSound as part
use Rattle.parse_decl.specs.Parsing.{word_said}
use Rattle.parse_decl.specs.Firsts.{begins_process_declaration}
use Rattle.parse_decl.proofs.DeclSound.{process_declaration_sound}
use Rattle.parse_seq.specs.Parsing.{begins_statement}
use Rattle.parse_seq.proofs.SeqSound.{statement_sound}
use Rattle.parse_conc.specs.Parsing as R
use Rattle.parse_conc.specs.Parsing.{begins_expression, name_then}
use Rattle.parse_conc.proofs.Waves.{IsItem, item_is, Turns, loop_sound}

-- ---- the waveforms of a conditional assignment

abbrev pub Waves : Type 0
Waves = List ConditionalWaveform × List WaveformElement

-- the waveforms, and the condition of the last one
abbrev pub with_condition : Waves → Option Expr → List ConditionalWaveform × List WaveformElement × Option Expr
with_condition so_far x = (so_far.0, so_far.1, x)

abbrev pub Head : ℕ → ℕ → Rule Expr
Head l d = rule.◌>>◌ (rule.one (word w.When)) (E.expression l d)

abbrev pub Tail : ℕ → ℕ → Rule (List WaveformElement)
Tail l d = rule.◌>>◌ (rule.one (word w.Else)) (S.waveform l d)

one_token : (x : Word) (p : Place) (ts : List Token) (n : ℕ) → (rule.one (word x)).spells p ts n → 0 < length ts
one_token x p ts n s = omega (arith, ap length s.tokens)

pub otherwise_is : (l d : ℕ) → IsItem (Head l d) (Tail l d) (G.otherwise l d)
unfolding G.otherwise
otherwise_is l d = item_is (rule.one (word w.When)) (E.expression l d) (rule.one (word w.Else)) (S.waveform l d) (part_covers.waveform l d l d).whole (one_token w.When) (one_token w.Else)

module _ (c n l d : ℕ) (le1 : c ≤ l) (le2 : n ≤ d) where
  own : Sound (More c n l d) (E.expression l d) (P.expression c n)
  own = expression_sound c n l d le1 le2

  simple : Sound (More c n l d) (E.simple_expression l d) (P.simple_expression c n)
  simple = simple_expression_sound c n l d le1 le2

  pub equation : Sound (More c n l d) (G.equation l d) (R.equation c n)
  unfolding G.equation R.equation
  equation = then_ simple (λ x. then_ (free _ _) (λ _. then_ simple (λ y. then_ (free _ _) (λ _. pure_sound _ _))))

  equations : Sound (More c n l d) (G.equations l d) (R.equations c n)
  unfolding G.equations R.equations
  equations = again begins_expression last equation []

  -- so many turns, each of which reads a condition, and then a waveform
  turns_sound : (k : ℕ) (so_far : Waves) → Sound (More c n l d) (Turns (Head l d) (Tail l d) (G.otherwise l d) when_else with_condition (otherwise_is l d) k so_far) (R.wave_turns c n k so_far)
  unfolding R.when_condition R.else_waveform
  turns_sound zero so_far = pure_sound _ _
  turns_sound (suc k) so_far = or_ (word w.When) (then_ (then_ (free _ _) (λ _. own))
      (λ x. or_ (word w.Else) (then_ (then_ (free _ _) (λ _. part.waveform c n l d le1 le2)) (λ more. turns_sound k (when_else so_far (x, more)))) (pure_sound _ _))) (pure_sound _ _)

  conditional_waveforms : Sound (More c n l d) (G.conditional_waveforms l d) (R.conditional_waveforms c n)
  unfolding G.conditional_waveforms R.conditional_waveforms R.more_waveforms S.condition
  conditional_waveforms = then_ (part.waveform c n l d le1 le2) (λ first. loop_sound (Head l d) (Tail l d) (G.otherwise l d) when_else with_condition (otherwise_is l d) (More c n l d) (R.wave_turns c n) turns_sound ([], first))

  concurrent_assignment : Sound (More c n l d) (G.concurrent_assignment l d) (R.concurrent_assignment c n)
  unfolding G.concurrent_assignment R.concurrent_assignment
  concurrent_assignment = then_ (free _ _) (λ target. then_ (free _ _) (λ _. then_ (part.maybe_delay c n l d le1 le2) (λ how. then_ conditional_waveforms (λ waves. then_ (free _ _) (λ _. pure_sound _ _)))))

  concurrent_break : Sound (More c n l d) (G.concurrent_break l d) (R.concurrent_break c n)
  unfolding G.concurrent_break R.concurrent_break
  concurrent_break = then_ (free _ _) (λ place. then_ (part.break_elements c n l d le1 le2) (λ elements. then_ (part.names_on c n l d le1 le2) (λ on. then_ (part.condition c n l d le1 le2) (λ x. then_ (free _ _) (λ _. pure_sound _ _)))))

  pub actual : (formal : Option Name) → Sound (More c n l d) (G.actual l d formal) (R.actual c n formal)
  unfolding G.actual R.actual
  actual formal = or_ (word w.Open) (ends _ (free _ _)) (ends _ own)

  one_association : Sound (More c n l d) (G.one_association l d) (R.one_association c n)
  unfolding G.one_association R.one_association R.named_association
  one_association = choose_sound _ _ _ _ _ _ (then_ (free _ _) (λ formal. then_ (free _ _) (λ _. actual (Some formal)))) (actual None)

  associations : Sound (More c n l d) (G.associations l d) (R.associations c n)
  unfolding G.associations R.associations R.more_associations
  associations = then_ one_association (λ first. again (mark m.Comma) last (then_ (free _ _) (λ _. one_association)) (first ∷ []))

  simultaneous_branch : Sound (More c n l d) (G.simultaneous_branch l d) (R.simultaneous_branch c n)
  unfolding G.simultaneous_branch R.simultaneous_branch
  simultaneous_branch = then_ own (λ x. then_ (free _ _) (λ _. ends _ equations))

  simultaneous_alternative : Sound (More c n l d) (G.simultaneous_alternative l d) (R.simultaneous_alternative c n)
  unfolding G.simultaneous_alternative R.simultaneous_alternative
  simultaneous_alternative = then_ (part.choices c n l d le1 le2) (λ xs. ends _ equations)

  simultaneous_if : (place : Place) → Sound (More c n l d) (G.simultaneous_if l d place) (R.simultaneous_if c n place)
  unfolding G.simultaneous_if R.simultaneous_if R.more_branches R.other_equations
  simultaneous_if place = then_ simultaneous_branch (λ first. then_ (again (word w.Elsif) last (then_ (free _ _) (λ _. simultaneous_branch)) (first ∷ []))
      (λ all. then_ (maybe (word w.Else) (then_ (free _ _) (λ _. equations))) (λ other. ends _ (part.ending _ w.Use))))

  simultaneous_case : (place : Place) → Sound (More c n l d) (G.simultaneous_case l d place) (R.simultaneous_case c n place)
  unfolding G.simultaneous_case R.simultaneous_case G.simultaneous_alternatives R.simultaneous_alternatives R.more_alternatives
  simultaneous_case place = then_ own (λ x. then_ (free _ _) (λ _. then_ (then_ simultaneous_alternative (λ first. again (word w.When) last simultaneous_alternative (first ∷ []))) (λ all. ends _ (part.ending _ w.Case))))

  entity_name : (first : Name) → Sound (More c n l d) (G.entity_name l d first) (R.entity_name first)
  unfolding G.entity_name R.entity_name
  entity_name first = or_ (mark m.Point) (then_ (free _ _) (λ _. ends _ (free _ _))) (pure_sound _ _)

module _ (c n l d : ℕ) (le1 : c ≤ l) (le2 : n ≤ d) where
  may : allows n ≡ true → IsTrue (allows d)
  may = may_levels n d le2

  over : More c n l d → IsTrue (allows d)
  over o = over_allows n d o.0

  sensitivity : Sound (More c n l d) (G.sensitivity l d) (R.sensitivity c n)
  unfolding G.sensitivity R.sensitivity
  sensitivity = opened_sound _ (allows d) (allows n) 0 (mark m.LeftParen) may over (omega arith) _ _
      (λ e _. then_ (sound_over _ (to_below c n l d e) (part.name_list c (below n) l (below d) le1 (below_le n d le2))) (λ all. then_ (free _ _) (λ _. pure_sound _ all)))

  process_head : Sound (More c n l d) (G.process_head l d) (R.process_head c n)
  unfolding G.process_head R.process_head R.maybe_sensitivity word_said R.declarations
  process_head = then_ (maybe (mark m.LeftParen) sensitivity) (λ names. then_ (said (word w.Is) (free _ _)) (λ is. then_ (again begins_process_declaration last (process_declaration_sound c n l d le1 le2) []) (λ locals. then_ (free _ _) (λ _. pure_sound _ _))))

  process_body : Sound (More c n l d) (G.process_body l d) (R.process_body c n)
  unfolding G.process_body R.process_body R.statements R.maybe_name
  process_body = then_ (again begins_statement last (statement_sound c n l d le1 le2) []) (λ all. then_ (free _ _) (λ _. then_ (free _ _) (λ _. then_ (maybe name_of (free _ _)) (λ name. then_ (free _ _) (λ _. pure_sound _ _)))))

  process_parts : (place : Place) → Sound (More c n l d) (G.process_parts l d place) (R.process_parts c n place)
  unfolding G.process_parts R.process_parts
  process_parts place = then_ process_head (λ x. ends _ process_body)

  architecture_name : Sound (More c n l d) (G.architecture_name l d) (R.architecture_name c n)
  unfolding G.architecture_name R.architecture_name
  architecture_name = opened_sound _ (allows d) (allows n) 0 (mark m.LeftParen) may over (omega arith) _ _ (λ e _. then_ (free _ _) (λ name. then_ (free _ _) (λ _. pure_sound _ name)))

  entity_aspect : Sound (More c n l d) (G.entity_aspect l d) (R.entity_aspect c n)
  unfolding G.entity_aspect R.entity_aspect R.maybe_architecture
  entity_aspect = then_ (free _ _) (λ place. then_ (free _ _) (λ first. then_ (entity_name c n l d le1 le2 first) (λ names. ends _ (maybe (mark m.LeftParen) architecture_name))))

  map_aspect : Sound (More c n l d) (G.map_aspect l (below d) (allows d)) (R.map_aspect c (below n) (allows n))
  unfolding G.map_aspect R.map_aspect
  map_aspect = then_ (free _ _) (λ _. opened_sound _ (allows d) (allows n) 0 (mark m.LeftParen) may over (omega arith) _ _
      (λ e _. then_ (sound_over _ (to_below c n l d e) (associations c (below n) l (below d) le1 (below_le n d le2))) (λ all. then_ (free _ _) (λ _. pure_sound _ all))))

  instance : Sound (More c n l d) (G.instance l d) (R.instance c n)
  unfolding G.instance R.instance G.maps R.maps R.maybe_map
  instance = then_ entity_aspect (λ aspect. then_ (maybe (word w.Generic) (then_ (free _ _) (λ _. map_aspect))) (λ xs. then_ (maybe (word w.Port) (then_ (free _ _) (λ _. map_aspect))) (λ ys. then_ (free _ _) (λ _. pure_sound _ _))))

module _ (c n l d : ℕ) (le1 : c ≤ l) (le2 : n ≤ d) where
  pub assignment_or_equation : Sound (More c n l d) (rule.◌<|>◌ (G.concurrent_assignment l d) (rule.◌>>=◌ (G.equation l d) (λ x. rule.pure (conc.Equation x)))) (R.assignment_or_equation c n)
  unfolding R.assignment_or_equation
  assignment_or_equation = choose_sound _ _ _ _ _ _ (concurrent_assignment c n l d le1 le2) (ends _ (equation c n l d le1 le2))

  pub unlabelled : Sound (More c n l d) (G.unlabelled l d) (R.unlabelled c n)
  unfolding G.unlabelled R.unlabelled
  unlabelled =
      or_ (word w.Process) (opened_sound _ (allows d) (allows n) 0 (word w.Process) (may c n l d le1 le2) (over c n l d le1 le2) (omega arith) _ _ (λ e place. sound_over _ (to_below c n l d e) (process_parts c (below n) l (below d) le1 (below_le n d le2) place)))
      (or_ (word w.If) (opened_sound _ (allows d) (allows n) 0 (word w.If) (may c n l d le1 le2) (over c n l d le1 le2) (omega arith) _ _ (λ e place. sound_over _ (to_below c n l d e) (simultaneous_if c (below n) l (below d) le1 (below_le n d le2) place)))
      (or_ (word w.Case) (opened_sound _ (allows d) (allows n) 0 (word w.Case) (may c n l d le1 le2) (over c n l d le1 le2) (omega arith) _ _ (λ e place. sound_over _ (to_below c n l d e) (simultaneous_case c (below n) l (below d) le1 (below_le n d le2) place)))
      (or_ (word w.Assert) (ends _ (part.assertion c n l d le1 le2))
      (or_ (word w.Break) (concurrent_break c n l d le1 le2)
      assignment_or_equation))))

  pub concurrent_sound : Sound (More c n l d) (G.concurrent l d) (R.concurrent c n)
  unfolding G.concurrent R.concurrent R.labelled R.labelled_statement
  concurrent_sound = choose_sound _ _ _ _ _ _ (then_ (free _ _) (λ name. then_ (free _ _) (λ _. ends _ (or_ (word w.Entity) (instance c n l d le1 le2) unlabelled)))) (ends _ unlabelled)
