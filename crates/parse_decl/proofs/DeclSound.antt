-- What is read by the rules of declarations is a text of them.
use Rattle.std.proofs.Common.{ℕ, ◌≤◌, List, Option, Some, None, arith}
use Rattle.ams_token.specs.declared.token.Place.{Place}
use Rattle.ams_token.specs.declared.word.Word.{Word}
use Rattle.ams_token.specs.declared.word.Word.TheVariants as w
use Rattle.ams_token.specs.declared.mark.Mark.TheVariants as m
use Rattle.ams_tree.specs.declared.expression.Name.{Name}
use Rattle.ams_tree.specs.Terminals.{mark, word, mode_of}
use Rattle.ams_tree.specs.Rule as rule
use Rattle.ams_tree.specs.Expressions.{allows, below}
use Rattle.ams_tree.specs.Declarations as G
use Rattle.parse_steps.proofs.Sound.{Sound, pure_sound, choose_sound, opened_sound, sound_over}
use Rattle.parse_steps.proofs.Sounding.{then_, ends, free, or_, maybe, said}
use Rattle.parse_expr.proofs.RulesSound.{More, expression_sound, simple_expression_sound, may_levels, over_allows}
use Rattle.parse_parts.proofs.Levels.{to_below, below_le}
use Rattle.parse_parts.proofs.PartsSound.{more_names, names_sound, name_after, range}
use Rattle.parse_decl.specs.Parsing as R

module _ (Over : Type 0) where
  pub names_colon : Sound Over G.names_colon R.names_colon
  unfolding G.names_colon R.names_colon
  names_colon = then_ (names_sound Over) (λ ids. then_ (free Over _) (λ _. pure_sound Over ids))

  pub word_place : (x : Word) → Sound Over (rule.optional (rule.one (word x))) (R.word_place x)
  unfolding R.word_place
  word_place x = maybe (word x) (free Over _)

  pub word_said : (x : Word) → Sound Over (rule.present (rule.one (word x))) (R.word_said x)
  unfolding R.word_said
  word_said x = said (word x) (free Over _)

  pub mode : Sound Over (rule.optional (rule.one mode_of)) R.mode
  unfolding R.mode
  mode = maybe mode_of (free Over _)

module _ (c n l d : ℕ) (le1 : c ≤ l) (le2 : n ≤ d) where
  pub bounds : Sound (More c n l d) (G.bounds l d) (R.bounds c n)
  unfolding G.bounds R.bounds
  bounds = then_ (free _ _) (λ _. then_ (simple_expression_sound c n l d le1 le2) (λ low. then_ (free _ _) (λ _. then_ (simple_expression_sound c n l d le1 le2) (λ high. pure_sound _ _))))

  pub default : Sound (More c n l d) (G.default l d) (R.default c n)
  unfolding G.default R.default
  default = maybe (mark m.Assign) (then_ (free _ _) (λ _. expression_sound c n l d le1 le2))

pub index : (c n l d : ℕ) → c ≤ l → n ≤ d → Sound (More c n l d) (G.index l d) (R.index c n)
unfolding G.index R.index
index c n l d le1 le2 = opened_sound (More c n l d) (allows d) (allows n) 0 (mark m.LeftParen) (may_levels n d le2) (λ o. over_allows n d o.0) (omega arith) _ _
    (λ e _. then_ (sound_over (More c n l d) (to_below c n l d e) (range c (below n) l (below d) le1 (below_le n d le2))) (λ x. then_ (free _ _) (λ _. pure_sound _ x)))

module _ (c n l d : ℕ) (le1 : c ≤ l) (le2 : n ≤ d) where
  pub indication : Sound (More c n l d) (G.indication l d) (R.indication c n)
  unfolding G.indication R.indication R.some_index R.some_bounds
  indication = then_ (free _ _) (λ name. then_ (maybe (mark m.LeftParen) (index c n l d le1 le2)) (λ x. then_ (maybe (word w.Range) (bounds c n l d le1 le2)) (λ y. pure_sound _ _)))

  signal_declaration : Sound (More c n l d) (G.signal_declaration l d) (R.signal_declaration c n)
  unfolding G.signal_declaration R.signal_declaration
  signal_declaration = then_ (free _ _) (λ place. then_ (names_colon _) (λ ids. then_ indication (λ type. then_ (default c n l d le1 le2) (λ value. then_ (free _ _) (λ _. pure_sound _ _)))))

  pub constant_parts : Sound (More c n l d) (G.constant_parts l d) (R.constant_parts c n)
  unfolding G.constant_parts R.constant_parts R.constant_end
  constant_parts = then_ (names_colon _) (λ ids. then_ indication (λ type. then_ (free _ _) (λ _. then_ (expression_sound c n l d le1 le2) (λ value. then_ (free _ _) (λ _. pure_sound _ _)))))

  terminal_declaration : Sound (More c n l d) (G.terminal_declaration l d) R.terminal_declaration
  unfolding G.terminal_declaration R.terminal_declaration
  terminal_declaration = then_ (free _ _) (λ place. then_ (names_colon _) (λ ids. then_ (free _ _) (λ nature. then_ (free _ _) (λ _. pure_sound _ _))))

  across_ends : (place : Place) (across : List Name) (through : Option (List Name)) (from : Name) → Sound (More c n l d) (G.across_ends l d place across through from) (R.across_ends place across through from)
  unfolding G.across_ends R.across_ends R.to_name
  across_ends place across through from = then_ (maybe (word w.To) (name_after _ w.To)) (λ to. then_ (free _ _) (λ _. pure_sound _ _))

  across_branch : (place : Place) (ids : List Name) → Sound (More c n l d) (G.across_branch l d place ids) (R.across_branch place ids)
  unfolding G.across_branch R.across_branch R.across_through
  across_branch place ids = then_ (name_after _ w.Across) (λ first. choose_sound _ _ _ _ _ _
      (then_ (more_names _ first) (λ through. then_ (name_after _ w.Through) (λ from. across_ends place ids (Some through) from))) (across_ends place ids None first))

  through_branch : (place : Place) (ids : List Name) → Sound (More c n l d) (G.through_branch l d place ids) (R.through_branch place ids)
  unfolding G.through_branch R.through_branch R.to_name
  through_branch place ids = then_ (name_after _ w.Through) (λ from. then_ (maybe (word w.To) (name_after _ w.To)) (λ to. then_ (free _ _) (λ _. pure_sound _ _)))

  free_quantity : (place : Place) (ids : List Name) → Sound (More c n l d) (G.free_quantity l d place ids) (R.free_quantity c n place ids)
  unfolding G.free_quantity R.free_quantity
  free_quantity place ids = then_ (free _ _) (λ _. then_ indication (λ type. then_ (default c n l d le1 le2) (λ value. then_ (free _ _) (λ _. pure_sound _ _))))

  quantity_declaration : Sound (More c n l d) (G.quantity_declaration l d) (R.quantity_declaration c n)
  unfolding G.quantity_declaration R.quantity_declaration
  quantity_declaration = then_ (free _ _) (λ place. then_ (names_sound _) (λ ids. or_ (mark m.Colon) (free_quantity place ids) (or_ (word w.Across) (across_branch place ids) (through_branch place ids))))

  rest_of_nature : (place : Place) (name across : Name) → Sound (More c n l d) (G.rest_of_nature l d place name across) (R.rest_of_nature place name across)
  unfolding G.rest_of_nature R.rest_of_nature
  rest_of_nature place name across = then_ (name_after _ w.Across) (λ through. then_ (name_after _ w.Through) (λ reference. then_ (free _ _) (λ _. then_ (free _ _) (λ _. pure_sound _ _))))

  nature_declaration : Sound (More c n l d) (G.nature_declaration l d) R.nature_declaration
  unfolding G.nature_declaration R.nature_declaration
  nature_declaration = then_ (free _ _) (λ place. then_ (free _ _) (λ name. then_ (name_after _ w.Is) (λ across. rest_of_nature place name across)))

  enumerated : Sound (More c n l d) (G.enumerated l d) (R.enumerated c n)
  unfolding G.enumerated R.enumerated
  enumerated = opened_sound (More c n l d) (allows d) (allows n) 0 (mark m.LeftParen) (may_levels n d le2) (λ o. over_allows n d o.0) (omega arith) _ _
      (λ e _. then_ (names_sound _) (λ literals. then_ (free _ _) (λ _. pure_sound _ literals)))

  enumeration_declaration : Sound (More c n l d) (G.enumeration_declaration l d) (R.enumeration_declaration c n)
  unfolding G.enumeration_declaration R.enumeration_declaration
  enumeration_declaration = then_ (free _ _) (λ place. then_ (free _ _) (λ name. then_ (free _ _) (λ _. then_ enumerated (λ literals. then_ (free _ _) (λ _. pure_sound _ _)))))

  subtype_declaration : Sound (More c n l d) (G.subtype_declaration l d) (R.subtype_declaration c n)
  unfolding G.subtype_declaration R.subtype_declaration
  subtype_declaration = then_ (free _ _) (λ place. then_ (free _ _) (λ name. then_ (free _ _) (λ _. then_ indication (λ type. then_ (free _ _) (λ _. pure_sound _ _)))))

  pub declaration_sound : Sound (More c n l d) (G.declaration l d) (R.declaration c n)
  unfolding G.declaration R.declaration R.constant_declaration
  declaration_sound = or_ (word w.Signal) signal_declaration
      (or_ (word w.Constant) (then_ (free _ _) (λ place. ends _ constant_parts))
      (or_ (word w.Terminal) terminal_declaration
      (or_ (word w.Quantity) quantity_declaration
      (or_ (word w.Nature) nature_declaration
      (or_ (word w.Type) enumeration_declaration subtype_declaration)))))

  -- ---- declarations of a process

  variable_declaration : Sound (More c n l d) (G.variable_declaration l d) (R.variable_declaration c n)
  unfolding G.variable_declaration R.variable_declaration
  variable_declaration = then_ (free _ _) (λ place. then_ (names_colon _) (λ ids. then_ indication (λ type. then_ (default c n l d le1 le2) (λ value. then_ (free _ _) (λ _. pure_sound _ _)))))

  pub process_declaration_sound : Sound (More c n l d) (G.process_declaration l d) (R.process_declaration c n)
  unfolding G.process_declaration R.process_declaration R.local_constant
  process_declaration_sound = or_ (word w.Variable) variable_declaration (then_ (free _ _) (λ place. ends _ constant_parts))

  -- ---- generics and ports

  pub generic_sound : Sound (More c n l d) (G.generic l d) (R.generic c n)
  unfolding G.generic R.generic
  generic_sound = then_ (word_place _ w.Constant) (λ place. then_ (names_colon _) (λ ids. then_ (word_said _ w.In) (λ how. then_ indication (λ type. then_ (default c n l d le1 le2) (λ value. pure_sound _ _)))))

  signal_port : (place : Option Place) → Sound (More c n l d) (G.signal_port l d place) (R.signal_port c n place)
  unfolding G.signal_port R.signal_port
  signal_port place = then_ (names_colon _) (λ ids. then_ (mode _) (λ how. then_ indication (λ type. then_ (default c n l d le1 le2) (λ value. pure_sound _ _))))

  pub port_declaration_sound : Sound (More c n l d) (G.port_declaration l d) (R.port_declaration c n)
  unfolding G.port_declaration R.port_declaration R.terminal_port R.quantity_port
  port_declaration_sound = or_ (word w.Terminal) (then_ (free _ _) (λ place. then_ (names_colon _) (λ ids. then_ (free _ _) (λ nature. pure_sound _ _))))
      (or_ (word w.Quantity) (then_ (free _ _) (λ place. then_ (names_colon _) (λ ids. then_ (mode _) (λ how. then_ indication (λ type. pure_sound _ _)))))
      (then_ (word_place _ w.Signal) signal_port))
