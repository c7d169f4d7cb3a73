-- Each rule of declarations is covered by its reading, with the kinds of token that begin it and that may follow.
use Rattle.std.proofs.Common.{◌≡◌, ◌∙◌, ap, ℕ, Bool, true, false, ◌||◌, nat_eq, is_some, if◌then◌else◌, List, [], ◌∷◌, ◌++◌, append-nil, Option, Some, None, refl, sym, inl}
use Rattle.ams_token.specs.declared.token.Place.{Place}
use Rattle.ams_token.specs.declared.token.Token.{Token}
use Rattle.ams_token.specs.declared.word.Word.{Word}
use Rattle.ams_token.specs.declared.word.Word.TheVariants as w
use Rattle.ams_token.specs.declared.mark.Mark.TheVariants as m
use Rattle.ams_token.specs.Classes.{class}
use Rattle.ams_tree.specs.declared.expression.Name.{Name}
use Rattle.ams_tree.specs.Terminals.{of_class, mark, word, name_of, mode_of}
use Rattle.ams_tree.specs.Rule as rule
use Rattle.ams_tree.specs.Expressions.{allows, below}
use Rattle.ams_tree.specs.Declarations as G
use Rattle.parse_steps.specs.Reading as reading
use Rattle.parse_steps.proofs.Sets.{starts, apart}
use Rattle.parse_steps.proofs.Covers.{Covers, Tells, pure_covers, token_covers, choose_covers, resized}
use Rattle.parse_steps.proofs.Covering.{then_, ends, reads, takes_, or_, fits, maybe}
use Rattle.parse_steps.proofs.KindSets.{W, M, test_is, class_tells, names, modes, name_of_tells, mode_of_tells}
use Rattle.parse_expr.proofs.RulesCover.{expr_first, expr_next, simple_next, expression_covers, simple_expression_covers, over_levels}
use Rattle.parse_parts.proofs.Levels.{Exceeded, from_below}
use Rattle.parse_parts.proofs.PartsCover.{more_names, names_covers, name_after, range}
use Rattle.parse_decl.specs.Parsing as R

-- the kinds that begin a bounds, an index or a default value, and those with which a type or an expression goes on
abbrev pub indication_next : List ℕ
indication_next = M m.LeftParen ∷ W w.Range ∷ simple_next

abbrev pub valued_next : List ℕ
valued_next = M m.Assign ∷ expr_next

-- a test of two kinds
pub either_is : (c d : ℕ) (ts : List Token) → (reading.at (of_class c) ts || reading.at (of_class d) ts) ≡ starts (c ∷ d ∷ []) ts
unfolding of_class
either_is c d [] = refl
either_is c d (t ∷ ts) = go (nat_eq (class t) c) (nat_eq (class t) d)
  where
    go : (a b : Bool) → (is_some (if a then Some t.place else None) || is_some (if b then Some t.place else None)) ≡ (a || (b || false))
    go true b = refl
    go false true = refl
    go false false = refl

module _ (Over : Type 0) where
  pub names_colon : Covers Over false names [] G.names_colon R.names_colon
  unfolding G.names_colon R.names_colon
  names_colon = then_ (names_covers Over) (λ ids. then_ (takes_ Over 0 (M m.Colon)) (λ _. pure_covers Over ids) refl) refl

  -- whether a part stands there that may be left out
  pub said : {A X : Type 0} {f1 n1 : List ℕ} {L : rule.Rule A} {P : reading.Parser A} (f : Token → Option X) → Tells f1 f → Covers Over false f1 n1 L P
      → Covers Over true ((f1 ++ []) ++ []) ((n1 ++ []) ++ (f1 ++ [])) (rule.present L) (reading.present (reading.at f) P)
  said {f1 = f1} f tells h = choose_covers _ _ _ _ _ _ _ _ _ _ _ (tests f tells) (ends (λ _. true) h) (pure_covers _ false) (apart_nil (f1 ++ []))
    where
      tests : {X : Type 0} (f : Token → Option X) → Tells f1 f → (ts : List Token) → reading.at f ts ≡ starts (f1 ++ []) ts
      tests f tells ts = test_is f1 f tells ts ∙ ap (λ F. starts F ts) (sym (append-nil f1))

      apart_nil : (xs : List ℕ) → apart xs [] ≡ true
      apart_nil [] = refl
      apart_nil (x ∷ xs) = apart_nil xs

  pub word_place : (x : Word) → Covers Over true (W x ∷ []) (W x ∷ []) (rule.optional (rule.one (word x))) (R.word_place x)
  unfolding R.word_place
  word_place x = maybe (word x) (class_tells (W x)) (takes_ Over 0 (W x))

  pub word_said : (x : Word) → Covers Over true (W x ∷ []) (W x ∷ []) (rule.present (rule.one (word x))) (R.word_said x)
  unfolding R.word_said
  word_said x = said (word x) (class_tells (W x)) (takes_ Over 0 (W x))

  pub mode : Covers Over true modes modes (rule.optional (rule.one mode_of)) R.mode
  unfolding R.mode
  mode = maybe mode_of mode_of_tells (reads Over 0 modes mode_of mode_of_tells)

module _ (c n l d : ℕ) where
  pub bounds : Covers (Exceeded c n l d) false (W w.Range ∷ []) simple_next (G.bounds l d) (R.bounds c n)
  unfolding G.bounds R.bounds
  bounds = fits (W w.Range ∷ []) simple_next (then_ (takes_ _ 0 (W w.Range)) (λ _. then_ (simple_expression_covers c n l d) (λ low. then_ (takes_ _ 0 (W w.To))
      (λ _. then_ (simple_expression_covers c n l d) (λ high. pure_covers _ _) refl) refl) refl) refl) refl refl refl

  pub default : Covers (Exceeded c n l d) true (M m.Assign ∷ []) valued_next (G.default l d) (R.default c n)
  unfolding G.default R.default
  default = fits (M m.Assign ∷ []) valued_next (maybe (mark m.Assign) (class_tells (M m.Assign)) (then_ (takes_ _ 0 (M m.Assign)) (λ _. expression_covers c n l d) refl)) refl refl refl

pub index : (c n l d : ℕ) → Covers (Exceeded c n l d) false (M m.LeftParen ∷ []) [] (G.index l d) (R.index c n)
unfolding G.index R.index
index c n l d = then_ (token_covers _ (allows d) (allows n) 0 (M m.LeftParen ∷ []) (mark m.LeftParen) (class_tells (M m.LeftParen)) (λ ok e. inl (over_levels d n ok e)))
    (λ _. then_ (resized (from_below c n l d) expr_first simple_next (range c (below n) l (below d)) refl refl refl) (λ x. then_ (takes_ _ 0 (M m.RightParen)) (λ _. pure_covers _ x) refl) refl) refl

module _ (c n l d : ℕ) where
  pub indication : Covers (Exceeded c n l d) false names indication_next (G.indication l d) (R.indication c n)
  unfolding G.indication R.indication R.some_index R.some_bounds
  indication = fits names indication_next (then_ (reads _ 0 names name_of name_of_tells) (λ name. then_ (maybe (mark m.LeftParen) (class_tells (M m.LeftParen)) (index c n l d))
      (λ x. then_ (maybe (word w.Range) (class_tells (W w.Range)) (bounds c n l d)) (λ y. pure_covers _ _) refl) refl) refl) refl refl refl

  signal_declaration : Covers (Exceeded c n l d) false (W w.Signal ∷ []) [] (G.signal_declaration l d) (R.signal_declaration c n)
  unfolding G.signal_declaration R.signal_declaration
  signal_declaration = then_ (takes_ _ 0 (W w.Signal)) (λ place. then_ (names_colon _) (λ ids. then_ indication (λ type. then_ (default c n l d)
      (λ value. then_ (takes_ _ 0 (M m.Semicolon)) (λ _. pure_covers _ _) refl) refl) refl) refl) refl

  pub constant_parts : Covers (Exceeded c n l d) false names [] (G.constant_parts l d) (R.constant_parts c n)
  unfolding G.constant_parts R.constant_parts R.constant_end
  constant_parts = then_ (names_colon _) (λ ids. then_ indication (λ type. then_ (takes_ _ 0 (M m.Assign)) (λ _. then_ (expression_covers c n l d)
      (λ value. then_ (takes_ _ 0 (M m.Semicolon)) (λ _. pure_covers _ _) refl) refl) refl) refl) refl

  terminal_declaration : Covers (Exceeded c n l d) false (W w.Terminal ∷ []) [] (G.terminal_declaration l d) R.terminal_declaration
  unfolding G.terminal_declaration R.terminal_declaration
  terminal_declaration = then_ (takes_ _ 0 (W w.Terminal)) (λ place. then_ (names_colon _) (λ ids. then_ (reads _ 0 names name_of name_of_tells)
      (λ nature. then_ (takes_ _ 0 (M m.Semicolon)) (λ _. pure_covers _ _) refl) refl) refl) refl

  across_ends : (place : Place) (across : List Name) (through : Option (List Name)) (from : Name) → Covers (Exceeded c n l d) false (W w.To ∷ M m.Semicolon ∷ []) [] (G.across_ends l d place across through from) (R.across_ends place across through from)
  unfolding G.across_ends R.across_ends R.to_name
  across_ends place across through from = then_ (maybe (word w.To) (class_tells (W w.To)) (name_after _ w.To)) (λ to. then_ (takes_ _ 0 (M m.Semicolon)) (λ _. pure_covers _ _) refl) refl

  across_branch : (place : Place) (ids : List Name) → Covers (Exceeded c n l d) false (W w.Across ∷ []) [] (G.across_branch l d place ids) (R.across_branch place ids)
  unfolding G.across_branch R.across_branch R.across_through
  across_branch place ids = fits (W w.Across ∷ []) [] (then_ (name_after _ w.Across) (λ first.
      choose_covers _ _ _ _ _ _ _ _ _ _ _ (either_is (M m.Comma) (W w.Through))
      (fits (M m.Comma ∷ W w.Through ∷ []) [] (then_ (more_names _ first) (λ through. then_ (name_after _ w.Through) (λ from. across_ends place ids (Some through) from) refl) refl) refl refl refl)
      (across_ends place ids None first) refl) refl) refl refl refl

  through_branch : (place : Place) (ids : List Name) → Covers (Exceeded c n l d) false (W w.Through ∷ []) [] (G.through_branch l d place ids) (R.through_branch place ids)
  unfolding G.through_branch R.through_branch R.to_name
  through_branch place ids = then_ (name_after _ w.Through) (λ from. then_ (maybe (word w.To) (class_tells (W w.To)) (name_after _ w.To)) (λ to. then_ (takes_ _ 0 (M m.Semicolon)) (λ _. pure_covers _ _) refl) refl) refl

  free_quantity : (place : Place) (ids : List Name) → Covers (Exceeded c n l d) false (M m.Colon ∷ []) [] (G.free_quantity l d place ids) (R.free_quantity c n place ids)
  unfolding G.free_quantity R.free_quantity
  free_quantity place ids = then_ (takes_ _ 0 (M m.Colon)) (λ _. then_ indication (λ type. then_ (default c n l d) (λ value. then_ (takes_ _ 0 (M m.Semicolon)) (λ _. pure_covers _ _) refl) refl) refl) refl

  quantity_declaration : Covers (Exceeded c n l d) false (W w.Quantity ∷ []) [] (G.quantity_declaration l d) (R.quantity_declaration c n)
  unfolding G.quantity_declaration R.quantity_declaration
  quantity_declaration = then_ (takes_ _ 0 (W w.Quantity)) (λ place. then_ (names_covers _) (λ ids. or_ (mark m.Colon) (class_tells (M m.Colon)) (free_quantity place ids)
      (or_ (word w.Across) (class_tells (W w.Across)) (across_branch place ids) (through_branch place ids) refl) refl) refl) refl

  rest_of_nature : (place : Place) (name across : Name) → Covers (Exceeded c n l d) false (W w.Across ∷ []) [] (G.rest_of_nature l d place name across) (R.rest_of_nature place name across)
  unfolding G.rest_of_nature R.rest_of_nature
  rest_of_nature place name across = then_ (name_after _ w.Across) (λ through. then_ (name_after _ w.Through) (λ reference. then_ (takes_ _ 0 (W w.Reference)) (λ _. then_ (takes_ _ 0 (M m.Semicolon)) (λ _. pure_covers _ _) refl) refl) refl) refl

  nature_declaration : Covers (Exceeded c n l d) false (W w.Nature ∷ []) [] (G.nature_declaration l d) R.nature_declaration
  unfolding G.nature_declaration R.nature_declaration
  nature_declaration = then_ (takes_ _ 0 (W w.Nature)) (λ place. then_ (reads _ 0 names name_of name_of_tells) (λ name. then_ (name_after _ w.Is) (λ across. rest_of_nature place name across) refl) refl) refl

  enumerated : Covers (Exceeded c n l d) false (M m.LeftParen ∷ []) [] (G.enumerated l d) (R.enumerated c n)
  unfolding G.enumerated R.enumerated
  enumerated = then_ (token_covers _ (allows d) (allows n) 0 (M m.LeftParen ∷ []) (mark m.LeftParen) (class_tells (M m.LeftParen)) (λ ok e. inl (over_levels d n ok e)))
      (λ _. then_ (names_covers _) (λ literals. then_ (takes_ _ 0 (M m.RightParen)) (λ _. pure_covers _ literals) refl) refl) refl

  enumeration_declaration : Covers (Exceeded c n l d) false (W w.Type ∷ []) [] (G.enumeration_declaration l d) (R.enumeration_declaration c n)
  unfolding G.enumeration_declaration R.enumeration_declaration
  enumeration_declaration = then_ (takes_ _ 0 (W w.Type)) (λ place. then_ (reads _ 0 names name_of name_of_tells) (λ name. then_ (takes_ _ 0 (W w.Is)) (λ _. then_ enumerated
      (λ literals. then_ (takes_ _ 0 (M m.Semicolon)) (λ _. pure_covers _ _) refl) refl) refl) refl) refl

  subtype_declaration : Covers (Exceeded c n l d) false (W w.Subtype ∷ []) [] (G.subtype_declaration l d) (R.subtype_declaration c n)
  unfolding G.subtype_declaration R.subtype_declaration
  subtype_declaration = then_ (takes_ _ 0 (W w.Subtype)) (λ place. then_ (reads _ 0 names name_of name_of_tells) (λ name. then_ (takes_ _ 0 (W w.Is)) (λ _. then_ indication
      (λ type. then_ (takes_ _ 0 (M m.Semicolon)) (λ _. pure_covers _ _) refl) refl) refl) refl) refl

abbrev pub declaration_first : List ℕ
declaration_first = W w.Signal ∷ W w.Constant ∷ W w.Terminal ∷ W w.Quantity ∷ W w.Nature ∷ W w.Type ∷ W w.Subtype ∷ []

pub declaration_covers : (c n l d : ℕ) → Covers (Exceeded c n l d) false declaration_first [] (G.declaration l d) (R.declaration c n)
unfolding G.declaration R.declaration R.constant_declaration
declaration_covers c n l d = fits declaration_first [] (or_ (word w.Signal) (class_tells (W w.Signal)) (signal_declaration c n l d)
    (or_ (word w.Constant) (class_tells (W w.Constant)) (then_ (takes_ _ 0 (W w.Constant)) (λ place. ends _ (constant_parts c n l d)) refl)
    (or_ (word w.Terminal) (class_tells (W w.Terminal)) (terminal_declaration c n l d)
    (or_ (word w.Quantity) (class_tells (W w.Quantity)) (quantity_declaration c n l d)
    (or_ (word w.Nature) (class_tells (W w.Nature)) (nature_declaration c n l d)
    (or_ (word w.Type) (class_tells (W w.Type)) (enumeration_declaration c n l d)
    (subtype_declaration c n l d) refl) refl) refl) refl) refl) refl) refl refl refl

-- ---- declarations of a process

variable_declaration : (c n l d : ℕ) → Covers (Exceeded c n l d) false (W w.Variable ∷ []) [] (G.variable_declaration l d) (R.variable_declaration c n)
unfolding G.variable_declaration R.variable_declaration
variable_declaration c n l d = then_ (takes_ _ 0 (W w.Variable)) (λ place. then_ (names_colon _) (λ ids. then_ (indication c n l d) (λ type. then_ (default c n l d)
    (λ value. then_ (takes_ _ 0 (M m.Semicolon)) (λ _. pure_covers _ _) refl) refl) refl) refl) refl

abbrev pub process_declaration_first : List ℕ
process_declaration_first = W w.Variable ∷ W w.Constant ∷ []

pub process_declaration_covers : (c n l d : ℕ) → Covers (Exceeded c n l d) false process_declaration_first [] (G.process_declaration l d) (R.process_declaration c n)
unfolding G.process_declaration R.process_declaration R.local_constant
process_declaration_covers c n l d = fits process_declaration_first [] (or_ (word w.Variable) (class_tells (W w.Variable)) (variable_declaration c n l d)
    (then_ (takes_ _ 0 (W w.Constant)) (λ place. ends _ (constant_parts c n l d)) refl) refl) refl refl refl

-- ---- generics and ports

-- those with which a type goes on that may get a value
abbrev pub interface_next : List ℕ
interface_next = valued_next ++ indication_next

abbrev pub generic_first : List ℕ
generic_first = W w.Constant ∷ names

pub generic_covers : (c n l d : ℕ) → Covers (Exceeded c n l d) false generic_first interface_next (G.generic l d) (R.generic c n)
unfolding G.generic R.generic
generic_covers c n l d = fits generic_first interface_next (then_ (word_place _ w.Constant) (λ place. then_ (names_colon _) (λ ids. then_ (word_said _ w.In) (λ how. then_ (indication c n l d)
    (λ type. then_ (default c n l d) (λ value. pure_covers _ _) refl) refl) refl) refl) refl) refl refl refl

abbrev pub port_first : List ℕ
port_first = W w.Terminal ∷ W w.Quantity ∷ W w.Signal ∷ names

module _ (c n l d : ℕ) where
  signal_port : (place : Option Place) → Covers (Exceeded c n l d) false names interface_next (G.signal_port l d place) (R.signal_port c n place)
  unfolding G.signal_port R.signal_port
  signal_port place = fits names interface_next (then_ (names_colon _) (λ ids. then_ (mode _) (λ how. then_ (indication c n l d)
      (λ type. then_ (default c n l d) (λ value. pure_covers _ _) refl) refl) refl) refl) refl refl refl

  pub port_declaration_covers : Covers (Exceeded c n l d) false port_first interface_next (G.port_declaration l d) (R.port_declaration c n)
  unfolding G.port_declaration R.port_declaration R.terminal_port R.quantity_port
  port_declaration_covers = fits port_first interface_next (or_ (word w.Terminal) (class_tells (W w.Terminal))
      (then_ (takes_ _ 0 (W w.Terminal)) (λ place. then_ (names_colon _) (λ ids. then_ (reads _ 0 names name_of name_of_tells) (λ nature. pure_covers _ _) refl) refl) refl)
      (or_ (word w.Quantity) (class_tells (W w.Quantity))
      (then_ (takes_ _ 0 (W w.Quantity)) (λ place. then_ (names_colon _) (λ ids. then_ (mode _) (λ how. then_ (indication c n l d) (λ type. pure_covers _ _) refl) refl) refl) refl)
      (then_ (word_place _ w.Signal) signal_port refl) refl) refl) refl refl refl
