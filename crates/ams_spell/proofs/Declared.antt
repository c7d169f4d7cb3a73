-- The tokens of each declaration are those of its spelling.
use Rattle.std.proofs.Common.{◌≡◌, ℕ, List, [], ◌∷◌, ◌++◌, Option, Some, None, refl, sym, ◌∙◌, ap, append_assoc, append-nil}
use Rattle.ams_token.specs.declared.token.Place.{Place}
use Rattle.ams_token.specs.declared.token.TokenKind.{TokenKind}
use Rattle.ams_token.specs.declared.token.TokenKind.TheVariants as kind
use Rattle.ams_token.specs.declared.word.Word.{Word}
use Rattle.ams_token.specs.declared.word.Word.TheVariants as w
use Rattle.ams_token.specs.declared.mark.Mark.TheVariants as m
use Rattle.ams_tree.specs.declared.expression.Name.{Name}
use Rattle.ams_tree.specs.declared.declaration.Direction.{Direction}
use Rattle.ams_tree.specs.declared.declaration.Mode.{Mode}
use Rattle.ams_tree.specs.Rule.{one}
use Rattle.ams_tree.specs.Terminals.{direction_in, direction_of, mode_in, mode_of}
use Rattle.ams_tree.specs.Expressions.{below}
use Rattle.ams_tree.specs.Declarations as G
use Rattle.expr_spell.specs.Kinds.{name}
use Rattle.expr_spell.specs.Kinds as kinds
use Rattle.expr_spell.specs.Spelling.{spelling}
use Rattle.expr_spell.proofs.Writes.{Writes, ends, then_, or_, part, mark_, word_, maybe, list_}
use Rattle.expr_spell.proofs.Spelled.{expression, simple_expression}
use Rattle.ams_spell.specs.Parts.{◌⊕◌, mark, word, present}
use Rattle.ams_spell.specs.Parts as parts
use Rattle.ams_spell.specs.Declarations.{direction_kinds, mode_kinds, range_kinds, bounds_kinds, index_kinds, indication_kinds, default_kinds, generic_kinds, port_kinds, through_kinds, declaration_kinds, process_declaration_kinds}
use Rattle.ams_spell.proofs.More.{from_, present_, name_}

-- ---- single tokens

direction_is : {before : List TokenKind} → Writes before (λ x. before ++ direction_kinds x) (one direction_of)
unfolding direction_of
direction_is {before = before} = record { written = λ x ts n s. ap (λ v. before ++ v) (go s.token.kind x s.tree) ∙ ap (λ us. before ++ kinds.kinds us) (sym s.tokens) }
  where
    go : (k : TokenKind) (x : Direction) → direction_in k ≡ Some x → direction_kinds x ≡ k ∷ []
    go (kind.Word w.To) x e = cc
    go (kind.Word w.Downto) x e = cc
    go _ x e = cc

mode_is : {before : List TokenKind} → Writes before (λ x. before ++ mode_kinds x) (one mode_of)
unfolding mode_of
mode_is {before = before} = record { written = λ x ts n s. ap (λ v. before ++ v) (go s.token.kind x s.tree) ∙ ap (λ us. before ++ kinds.kinds us) (sym s.tokens) }
  where
    go : (k : TokenKind) (x : Mode) → mode_in k ≡ Some x → mode_kinds x ≡ k ∷ []
    go (kind.Word w.In) x e = cc
    go (kind.Word w.Out) x e = cc
    go _ x e = cc

-- ---- names

pub more_names : (before : List TokenKind) (first : Name) → Writes (before ⊕ name first) (λ ids. before ⊕ parts.names ids) (G.more_names first)
unfolding G.more_names
more_names before first = list_ before name (then_ (mark_ m.Comma) (λ _. name_))

pub names : {before : List TokenKind} → Writes before (λ ids. before ⊕ parts.names ids) G.names
unfolding G.names
names {before = before} = then_ name_ (more_names before)

pub names_colon : {before : List TokenKind} → Writes before (λ ids. before ⊕ parts.names ids ⊕ mark m.Colon) G.names_colon
unfolding G.names_colon
names_colon = then_ names (λ ids. then_ (mark_ m.Colon) (λ _. ends refl))

pub name_after : {before : List TokenKind} (x : Word) → Writes before (λ id. before ⊕ word x ⊕ name id) (G.name_after x)
unfolding G.name_after
name_after x = then_ (word_ x) (λ _. name_)

-- ---- types and values

module _ (limit depth : ℕ) where
  pub range : Writes [] range_kinds (G.range limit depth)
  unfolding G.range
  range = then_ (simple_expression limit depth) (λ left. then_ direction_is (λ way. then_ (part (simple_expression limit depth)) (λ right. ends refl)))

  bounds : Writes [] bounds_kinds (G.bounds limit depth)
  unfolding G.bounds
  bounds = then_ (word_ w.Range) (λ _. then_ (part (simple_expression limit depth)) (λ low. then_ (word_ w.To) (λ _. then_ (part (simple_expression limit depth)) (λ high. ends refl))))

  default : {before : List TokenKind} → Writes before (λ x. before ⊕ kinds.optional default_kinds x) (G.default limit depth)
  unfolding G.default
  default = maybe (then_ (mark_ m.Assign) (λ _. part (expression limit depth)))

index : (limit depth : ℕ) → Writes [] index_kinds (G.index limit depth)
unfolding G.index
index limit depth = then_ (mark_ m.LeftParen) (λ _. then_ (part (range limit (below depth))) (λ x. then_ (mark_ m.RightParen) (λ _. ends refl)))

module _ (limit depth : ℕ) where
  indication : Writes [] indication_kinds (G.indication limit depth)
  unfolding G.indication
  indication = then_ name_ (λ id. then_ (maybe (index limit depth)) (λ x. then_ (maybe (bounds limit depth)) (λ y. ends refl)))

  pub generic : Writes [] generic_kinds (G.generic limit depth)
  unfolding G.generic
  generic = then_ (maybe (word_ w.Constant)) (λ place. then_ names_colon (λ ids. then_ (present_ (word w.In) (word_ w.In)) (λ way. then_ (part indication) (λ type. then_ (default limit depth) (λ value. ends refl)))))

  signal_port : (place : Option Place) → Writes (kinds.optional (λ _. word w.Signal) place) port_kinds (G.signal_port limit depth place)
  unfolding G.signal_port
  signal_port place = then_ names_colon (λ ids. then_ (maybe mode_is) (λ way. then_ (part indication) (λ type. then_ (default limit depth) (λ value. ends refl))))

  pub port_declaration : Writes [] port_kinds (G.port_declaration limit depth)
  unfolding G.port_declaration
  port_declaration = or_ (then_ (word_ w.Terminal) (λ place. then_ names_colon (λ ids. then_ name_ (λ nature. ends refl))))
      (or_ (then_ (word_ w.Quantity) (λ place. then_ names_colon (λ ids. then_ (maybe mode_is) (λ way. then_ (part indication) (λ type. ends refl)))))
      (then_ (maybe (word_ w.Signal)) signal_port))

  signal_declaration : Writes [] declaration_kinds (G.signal_declaration limit depth)
  unfolding G.signal_declaration
  signal_declaration = then_ (word_ w.Signal) (λ place. then_ names_colon (λ ids. then_ (part indication) (λ type. then_ (default limit depth) (λ value. then_ (mark_ m.Semicolon) (λ _. ends refl)))))

  constant_parts : {before : List TokenKind} → Writes before (λ x. before ⊕ parts.names x.0 ⊕ mark m.Colon ⊕ indication_kinds x.1 ⊕ mark m.Assign ⊕ spelling x.2 ⊕ mark m.Semicolon) (G.constant_parts limit depth)
  unfolding G.constant_parts
  constant_parts = then_ names_colon (λ ids. then_ (part indication) (λ type. then_ (mark_ m.Assign) (λ _. then_ (part (expression limit depth)) (λ value. then_ (mark_ m.Semicolon) (λ _. ends refl)))))

  terminal_declaration : Writes [] declaration_kinds (G.terminal_declaration limit depth)
  unfolding G.terminal_declaration
  terminal_declaration = then_ (word_ w.Terminal) (λ place. then_ names_colon (λ ids. then_ name_ (λ nature. then_ (mark_ m.Semicolon) (λ _. ends refl))))

  -- up to the first word of a branch that has across quantities
  abbrev head : List Name → List TokenKind
  head ids = word w.Quantity ⊕ parts.names ids ⊕ word w.Across

  across_ends : (place : Place) (across : List Name) (through : Option (List Name)) (from : Name)
      → Writes (head across ⊕ kinds.optional through_kinds through ⊕ name from) declaration_kinds (G.across_ends limit depth place across through from)
  unfolding G.across_ends
  across_ends place across through from = then_ (maybe (name_after w.To)) (λ to. then_ (mark_ m.Semicolon) (λ _. ends refl))

  across_branch : (place : Place) (ids : List Name) → Writes (word w.Quantity ⊕ parts.names ids) declaration_kinds (G.across_branch limit depth place ids)
  unfolding G.across_branch
  across_branch place ids = then_ (name_after w.Across) (λ first. or_
      (then_ (more_names (head ids) first) (λ through. then_ (name_after w.Through)
      (λ from. from_ (ap (λ v. v ⊕ name from) (sym (append_assoc (head ids) (parts.names through) (word w.Through)))) (across_ends place ids (Some through) from))))
      (from_ (ap (λ v. v ⊕ name first) (append-nil (head ids))) (across_ends place ids None first)))

  through_branch : (place : Place) (ids : List Name) → Writes (word w.Quantity ⊕ parts.names ids) declaration_kinds (G.through_branch limit depth place ids)
  unfolding G.through_branch
  through_branch place ids = then_ (name_after w.Through) (λ from. then_ (maybe (name_after w.To)) (λ to. then_ (mark_ m.Semicolon) (λ _. ends refl)))

  free_quantity : (place : Place) (ids : List Name) → Writes (word w.Quantity ⊕ parts.names ids) declaration_kinds (G.free_quantity limit depth place ids)
  unfolding G.free_quantity
  free_quantity place ids = then_ (mark_ m.Colon) (λ _. then_ (part indication) (λ type. then_ (default limit depth) (λ value. then_ (mark_ m.Semicolon) (λ _. ends refl))))

  quantity_declaration : Writes [] declaration_kinds (G.quantity_declaration limit depth)
  unfolding G.quantity_declaration
  quantity_declaration = then_ (word_ w.Quantity) (λ place. then_ names (λ ids. or_ (free_quantity place ids) (or_ (across_branch place ids) (through_branch place ids))))

  rest_of_nature : (place : Place) (id across : Name) → Writes (word w.Nature ⊕ name id ⊕ word w.Is ⊕ name across) declaration_kinds (G.rest_of_nature limit depth place id across)
  unfolding G.rest_of_nature
  rest_of_nature place id across = then_ (name_after w.Across) (λ through. then_ (name_after w.Through) (λ reference. then_ (word_ w.Reference) (λ _. then_ (mark_ m.Semicolon) (λ _. ends refl))))

  nature_declaration : Writes [] declaration_kinds (G.nature_declaration limit depth)
  unfolding G.nature_declaration
  nature_declaration = then_ (word_ w.Nature) (λ place. then_ name_ (λ id. then_ (name_after w.Is) (λ across. rest_of_nature place id across)))

  enumerated : {before : List TokenKind} → Writes before (λ ids. before ⊕ mark m.LeftParen ⊕ parts.names ids ⊕ mark m.RightParen) (G.enumerated limit depth)
  unfolding G.enumerated
  enumerated = then_ (mark_ m.LeftParen) (λ _. then_ names (λ ids. then_ (mark_ m.RightParen) (λ _. ends refl)))

  enumeration_declaration : Writes [] declaration_kinds (G.enumeration_declaration limit depth)
  unfolding G.enumeration_declaration
  enumeration_declaration = then_ (word_ w.Type) (λ place. then_ name_ (λ id. then_ (word_ w.Is) (λ _. then_ enumerated (λ ids. then_ (mark_ m.Semicolon) (λ _. ends refl)))))

  subtype_declaration : Writes [] declaration_kinds (G.subtype_declaration limit depth)
  unfolding G.subtype_declaration
  subtype_declaration = then_ (word_ w.Subtype) (λ place. then_ name_ (λ id. then_ (word_ w.Is) (λ _. then_ (part indication) (λ type. then_ (mark_ m.Semicolon) (λ _. ends refl)))))

  pub declaration : Writes [] declaration_kinds (G.declaration limit depth)
  unfolding G.declaration
  declaration = or_ signal_declaration
      (or_ (then_ (word_ w.Constant) (λ place. then_ constant_parts (λ x. ends refl)))
      (or_ terminal_declaration (or_ quantity_declaration (or_ nature_declaration (or_ enumeration_declaration subtype_declaration)))))

  variable_declaration : Writes [] process_declaration_kinds (G.variable_declaration limit depth)
  unfolding G.variable_declaration
  variable_declaration = then_ (word_ w.Variable) (λ place. then_ names_colon (λ ids. then_ (part indication) (λ type. then_ (default limit depth) (λ value. then_ (mark_ m.Semicolon) (λ _. ends refl)))))

  pub process_declaration : Writes [] process_declaration_kinds (G.process_declaration limit depth)
  unfolding G.process_declaration
  process_declaration = or_ variable_declaration (then_ (word_ w.Constant) (λ place. then_ constant_parts (λ x. ends refl)))
