-- Each rule of context clauses and entities is covered by its reading, with the kinds of token that begin it and that may
-- follow.
use Rattle.std.proofs.Common.{◌≡◌, ℕ, zero, suc, true, false, List, [], ◌∷◌, refl, inl}
use Rattle.ams_token.specs.declared.word.Word.{Word}
use Rattle.ams_token.specs.declared.word.Word.TheVariants as w
use Rattle.ams_token.specs.declared.mark.Mark.TheVariants as m
use Rattle.ams_tree.specs.declared.expression.Name.{Name}
use Rattle.ams_tree.specs.Terminals.{mark, word, name_of}
use Rattle.ams_tree.specs.Expressions.{last, allows, below}
use Rattle.ams_tree.specs.Designs as G
use Rattle.parse_steps.proofs.Sets.{apart}
use Rattle.parse_steps.proofs.Covers.{Covers, pure_covers, token_covers, resized}
use Rattle.parse_steps.proofs.Covering.{then_, ends, reads, takes_, or_, again, fits, maybe}
use Rattle.parse_steps.proofs.KindSets.{W, M, class_tells, names, name_of_tells}
use Rattle.parse_expr.proofs.RulesCover.{over_levels}
use Rattle.parse_parts.proofs.Levels.{Exceeded, from_below}
use Rattle.parse_parts.proofs.PartsCover.{names_covers}
use Rattle.parse_decl.proofs.DeclCover.{interface_next, generic_first, port_first, word_said, generic_covers, port_declaration_covers}
use Rattle.ams_parser.proofs.Turns.{turns_cover}
use Rattle.ams_parser.proofs.PathTurns.{all_names, steps, in_turns}
use Rattle.ams_parser.specs.Parsing as R

module _ (Over : Type 0) where
  prefix_name : Covers Over false names [] G.prefix_name R.prefix_name
  unfolding G.prefix_name R.prefix_name
  prefix_name = then_ (reads Over 0 names name_of name_of_tells) (λ name. then_ (takes_ Over 0 (M m.Point)) (λ _. pure_covers Over name) refl) refl

  all_of : (front : List Name) → Covers Over false (W w.All ∷ []) [] (all_names front) (R.all_of front)
  unfolding R.all_of
  all_of front = ends _ (takes_ Over 0 (W w.All))

  -- a name, or the last word
  abbrev path_first : List ℕ
  path_first = W w.All ∷ names

  path_turns : (k : ℕ) (front : List Name) → Covers Over false path_first (M m.Point ∷ []) (steps k front) (R.path_turns k front)
  unfolding R.path_end
  path_turns zero front = fits path_first (M m.Point ∷ []) (or_ name_of name_of_tells (ends _ (reads Over 0 names name_of name_of_tells)) (all_of front) refl) refl refl refl
  path_turns (suc k) front = fits path_first (M m.Point ∷ []) (or_ name_of name_of_tells
      (then_ (reads Over 0 names name_of name_of_tells) (λ name. or_ (mark m.Point) (class_tells (M m.Point)) (then_ (takes_ Over 0 (M m.Point)) (λ _. path_turns k (last front name)) refl) (pure_covers Over _) refl) refl)
      (all_of front) refl) refl refl refl

  pub path : Covers Over false names (M m.Point ∷ []) G.path R.path
  unfolding G.path G.prefix_name R.path R.rest_of_path
  path = then_ prefix_name (λ first. turns_cover (λ k. R.path_turns k (first ∷ [])) (in_turns (first ∷ [])) (λ k. path_turns k (first ∷ []))) refl

  pub unit_end : (x : Word) → apart (W x ∷ []) (0 ∷ 1 ∷ 2 ∷ 3 ∷ 4 ∷ M m.Semicolon ∷ []) ≡ true → Covers Over false (W w.End ∷ []) [] (G.unit_end x) (R.unit_end x)
  unfolding G.unit_end R.unit_end R.some_name
  unit_end x sep = then_ (takes_ Over 0 (W w.End)) (λ _. then_ (word_said Over x) (λ said. then_ (maybe name_of name_of_tells (reads Over 0 names name_of name_of_tells))
      (λ again. then_ (takes_ Over 0 (M m.Semicolon)) (λ _. pure_covers Over _) refl) refl) sep) refl

  pub library_clause : Covers Over false (W w.Library ∷ []) [] G.library_clause R.library_clause
  unfolding G.library_clause R.library_clause
  library_clause = then_ (takes_ Over 0 (W w.Library)) (λ _. then_ (names_covers Over) (λ ids. ends _ (takes_ Over 0 (M m.Semicolon))) refl) refl

  pub use_clause : Covers Over false (W w.Use ∷ []) [] G.use_clause R.use_clause
  unfolding G.use_clause R.use_clause R.more_paths
  use_clause = then_ (takes_ Over 0 (W w.Use)) (λ _. then_ path (λ first. then_ (again (mark m.Comma) (class_tells (M m.Comma)) last (then_ (takes_ Over 0 (M m.Comma)) (λ _. path) refl) refl (first ∷ []))
      (λ all. ends _ (takes_ Over 0 (M m.Semicolon))) refl) refl) refl

module _ (c n l d : ℕ) where
  generics : Covers (Exceeded c n l d) false generic_first (M m.Semicolon ∷ interface_next) (G.generics l d) (R.generics c n)
  unfolding G.generics R.generics R.more_generics
  generics = fits generic_first (M m.Semicolon ∷ interface_next) (then_ (generic_covers c n l d) (λ first. again (mark m.Semicolon) (class_tells (M m.Semicolon)) last
      (then_ (takes_ _ 0 (M m.Semicolon)) (λ _. generic_covers c n l d) refl) refl (first ∷ [])) refl) refl refl refl

  ports : Covers (Exceeded c n l d) false port_first (M m.Semicolon ∷ interface_next) (G.ports l d) (R.ports c n)
  unfolding G.ports R.ports R.more_ports
  ports = fits port_first (M m.Semicolon ∷ interface_next) (then_ (port_declaration_covers c n l d) (λ first. again (mark m.Semicolon) (class_tells (M m.Semicolon)) last
      (then_ (takes_ _ 0 (M m.Semicolon)) (λ _. port_declaration_covers c n l d) refl) refl (first ∷ [])) refl) refl refl refl

module _ (c n l d : ℕ) where
  generic_clause : Covers (Exceeded c n l d) false (W w.Generic ∷ []) [] (G.generic_clause l d) (R.generic_clause c n)
  unfolding G.generic_clause R.generic_clause
  generic_clause = then_ (takes_ _ 0 (W w.Generic)) (λ _.
      then_ (token_covers _ (allows d) (allows n) 0 (M m.LeftParen ∷ []) (mark m.LeftParen) (class_tells (M m.LeftParen)) (λ ok e. inl (over_levels d n ok e)))
      (λ _. then_ (resized (from_below c n l d) generic_first (M m.Semicolon ∷ interface_next) (generics c (below n) l (below d)) refl refl refl)
      (λ all. then_ (takes_ _ 0 (M m.RightParen)) (λ _. then_ (takes_ _ 0 (M m.Semicolon)) (λ _. pure_covers _ all) refl) refl) refl) refl) refl

  port_clause : Covers (Exceeded c n l d) false (W w.Port ∷ []) [] (G.port_clause l d) (R.port_clause c n)
  unfolding G.port_clause R.port_clause
  port_clause = then_ (takes_ _ 0 (W w.Port)) (λ _.
      then_ (token_covers _ (allows d) (allows n) 0 (M m.LeftParen ∷ []) (mark m.LeftParen) (class_tells (M m.LeftParen)) (λ ok e. inl (over_levels d n ok e)))
      (λ _. then_ (resized (from_below c n l d) port_first (M m.Semicolon ∷ interface_next) (ports c (below n) l (below d)) refl refl refl)
      (λ all. then_ (takes_ _ 0 (M m.RightParen)) (λ _. then_ (takes_ _ 0 (M m.Semicolon)) (λ _. pure_covers _ all) refl) refl) refl) refl) refl

  pub entity : Covers (Exceeded c n l d) false (W w.Entity ∷ []) [] (G.entity l d) (R.entity c n)
  unfolding G.entity G.entity_head R.entity R.entity_head R.some_generics R.some_ports
  entity = then_ (then_ (takes_ _ 0 (W w.Entity)) (λ _. then_ (reads _ 0 names name_of name_of_tells) (λ id. ends _ (takes_ _ 0 (W w.Is))) refl) refl)
      (λ id. then_ (or_ (word w.Generic) (class_tells (W w.Generic)) generic_clause (pure_covers _ []) refl)
      (λ xs. then_ (or_ (word w.Port) (class_tells (W w.Port)) port_clause (pure_covers _ []) refl)
      (λ ys. then_ (unit_end _ w.Entity refl) (λ ends. pure_covers _ _) refl) refl) refl) refl
