-- The tokens of each design file are those of its spelling.
use Rattle.std.proofs.Common.{◌≡◌, ℕ, List, [], ◌∷◌, ◌++◌, map, refl, sym, ap, subst, append-nil}
use Rattle.ams_token.specs.declared.token.TokenKind.{TokenKind}
use Rattle.ams_token.specs.declared.token.TokenKind.TheVariants as kind
use Rattle.ams_token.specs.declared.word.Word.{Word}
use Rattle.ams_token.specs.declared.word.Word.TheVariants as w
use Rattle.ams_token.specs.declared.mark.Mark.TheVariants as m
use Rattle.ams_tree.specs.declared.expression.Name.{Name}
use Rattle.ams_tree.specs.Rule.{pure, ◌<|>◌}
use Rattle.ams_tree.specs.Expressions.{below}
use Rattle.ams_tree.specs.Designs as G
use Rattle.expr_spell.specs.Kinds.{joined, behind, separated, name}
use Rattle.expr_spell.proofs.Writes.{Writes, ends, then_, or_, part, mark_, word_, maybe, items_, more_, list_}
use Rattle.ams_spell.specs.Parts.{◌⊕◌, mark, word}
use Rattle.ams_spell.specs.Declarations.{generic_kinds, port_kinds}
use Rattle.ams_spell.specs.Designs.{prefix_kinds, path_kinds, clause_kinds, end_kinds, unit_kinds, file_kinds}
use Rattle.ams_spell.proofs.More.{present_, name_, not_empty, then_where}
use Rattle.ams_spell.proofs.Declared.{names, name_after, generic, port_declaration, declaration}
use Rattle.ams_spell.proofs.Concurring.{concurrent}

prefix_name : Writes [] prefix_kinds G.prefix_name
unfolding G.prefix_name
prefix_name = then_ name_ (λ id. then_ (mark_ m.Point) (λ _. ends refl))

-- points between names, or one behind each but the last
pointed_behind : (xs : List Name) (x : Name) → behind (kind.Mark m.Point) (map name (xs ++ x ∷ [])) ≡ kind.Mark m.Point ∷ (joined (map prefix_kinds xs) ++ name x)
pointed_behind [] x = refl
pointed_behind (y ∷ ys) x = ap (λ v. kind.Mark m.Point ∷ kind.Name y.number ∷ v) (pointed_behind ys x)

pointed : (xs : List Name) (x : Name) → separated (kind.Mark m.Point) (map name (xs ++ x ∷ [])) ≡ joined (map prefix_kinds xs) ++ name x
pointed [] x = refl
pointed (y ∷ ys) x = ap (λ v. kind.Name y.number ∷ v) (pointed_behind ys x)

path : Writes [] path_kinds G.path
unfolding G.path
path = then_ prefix_name (λ first. then_ (more_ [] prefix_name) (λ front. or_ (then_ name_ (λ last. ends (pointed front last))) (then_ (word_ w.All) (λ _. ends refl))))

unit_end : (x : Word) → Writes [] (λ e. end_kinds x e.0 e.1) (G.unit_end x)
unfolding G.unit_end
unit_end x = then_ (word_ w.End) (λ _. then_ (present_ (word x) (word_ x)) (λ said. then_ (maybe name_) (λ again. then_ (mark_ m.Semicolon) (λ _. ends refl))))

library_clause : Writes [] unit_kinds G.library_clause
unfolding G.library_clause
library_clause = then_ (word_ w.Library) (λ _. then_ names (λ ids. then_ (mark_ m.Semicolon) (λ _. ends refl)))

use_clause : Writes [] unit_kinds G.use_clause
unfolding G.use_clause
use_clause = then_ (word_ w.Use) (λ _. then_ (part path) (λ first. then_ (list_ (word w.Use) path_kinds (then_ (mark_ m.Comma) (λ _. part path))) (λ all. then_ (mark_ m.Semicolon) (λ _. ends refl))))

abbrev IsSome : {X : Type 0} → List X → Type 0
IsSome {X} all = (x : X) × (xs : List X) × (all ≡ x ∷ xs)

clause_of_some : {X : Type 0} (x : Word) (s : X → List TokenKind) (all : List X) → IsSome all
    → clause_kinds x (map s all) ≡ word x ⊕ mark m.LeftParen ⊕ separated (kind.Mark m.Semicolon) (map s all) ⊕ mark m.RightParen ⊕ mark m.Semicolon
clause_of_some x s all some =
    subst (λ all. clause_kinds x (map s all) ≡ word x ⊕ mark m.LeftParen ⊕ separated (kind.Mark m.Semicolon) (map s all) ⊕ mark m.RightParen ⊕ mark m.Semicolon) (sym some.2) refl

module _ (limit depth : ℕ) where
  generics : (before : List TokenKind) → Writes before (λ all. before ⊕ separated (kind.Mark m.Semicolon) (map generic_kinds all)) (G.generics limit depth)
  unfolding G.generics
  generics before = then_ (part (generic limit depth)) (λ first. list_ before generic_kinds (then_ (mark_ m.Semicolon) (λ _. part (generic limit depth))))

  ports : (before : List TokenKind) → Writes before (λ all. before ⊕ separated (kind.Mark m.Semicolon) (map port_kinds all)) (G.ports limit depth)
  unfolding G.ports
  ports before = then_ (part (port_declaration limit depth)) (λ first. list_ before port_kinds (then_ (mark_ m.Semicolon) (λ _. part (port_declaration limit depth))))

module _ (limit depth : ℕ) where
  generic_clause : {before : List TokenKind} → Writes before (λ xs. before ⊕ clause_kinds w.Generic (map generic_kinds xs)) (G.generic_clause limit depth <|> pure [])
  unfolding G.generic_clause G.generics
  generic_clause {before = before} = or_ (part (then_ (word_ w.Generic) (λ _. then_ (mark_ m.LeftParen) (λ _. then_where IsSome not_empty (generics limit (below depth) (word w.Generic ⊕ mark m.LeftParen))
      (λ all some. then_ (mark_ m.RightParen) (λ _. then_ (mark_ m.Semicolon) (λ _. ends (clause_of_some w.Generic generic_kinds all some)))))))) (ends (append-nil before))

  port_clause : {before : List TokenKind} → Writes before (λ xs. before ⊕ clause_kinds w.Port (map port_kinds xs)) (G.port_clause limit depth <|> pure [])
  unfolding G.port_clause G.ports
  port_clause {before = before} = or_ (part (then_ (word_ w.Port) (λ _. then_ (mark_ m.LeftParen) (λ _. then_where IsSome not_empty (ports limit (below depth) (word w.Port ⊕ mark m.LeftParen))
      (λ all some. then_ (mark_ m.RightParen) (λ _. then_ (mark_ m.Semicolon) (λ _. ends (clause_of_some w.Port port_kinds all some)))))))) (ends (append-nil before))

  entity : Writes [] unit_kinds (G.entity limit depth)
  unfolding G.entity G.entity_head
  entity = then_ (then_ (word_ w.Entity) (λ _. then_ name_ (λ id. then_ (word_ w.Is) (λ _. ends {f = λ id. word w.Entity ⊕ name id ⊕ word w.Is} refl))))
      (λ id. then_ generic_clause (λ xs. then_ port_clause (λ ys. then_ (part (unit_end w.Entity)) (λ e. ends refl))))

  architecture : Writes [] unit_kinds (G.architecture limit depth)
  unfolding G.architecture G.architecture_head
  architecture = then_ (then_ (word_ w.Architecture) (λ _. then_ name_ (λ id. then_ (name_after w.Of) (λ of. then_ (word_ w.Is)
      (λ _. ends {f = λ x. word w.Architecture ⊕ name x.0 ⊕ word w.Of ⊕ name x.1 ⊕ word w.Is} refl)))))
      (λ head. then_ (items_ (declaration limit depth)) (λ xs. then_ (word_ w.Begin) (λ _. then_ (items_ (concurrent limit depth)) (λ ys. then_ (part (unit_end w.Architecture)) (λ e. ends refl)))))

  design_unit : Writes [] unit_kinds (G.design_unit limit depth)
  unfolding G.design_unit
  design_unit = or_ library_clause (or_ use_clause (or_ entity architecture))

  pub design_file : Writes [] file_kinds (G.design_file limit depth)
  unfolding G.design_file
  design_file = then_ (items_ design_unit) (λ all. ends refl)
