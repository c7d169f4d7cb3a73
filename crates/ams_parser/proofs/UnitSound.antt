-- What is read by the rules of context clauses and entities is a text of them.
use Rattle.std.proofs.Common.{ℕ, zero, suc, ◌≤◌, List, [], ◌∷◌, arith}
use Rattle.ams_token.specs.declared.word.Word.{Word}
use Rattle.ams_token.specs.declared.word.Word.TheVariants as w
use Rattle.ams_token.specs.declared.mark.Mark.TheVariants as m
use Rattle.ams_tree.specs.declared.expression.Name.{Name}
use Rattle.ams_tree.specs.Terminals.{mark, word, name_of}
use Rattle.ams_tree.specs.Expressions.{last, allows, below}
use Rattle.ams_tree.specs.Designs as G
use Rattle.parse_steps.proofs.Sound.{Sound, pure_sound, opened_sound, sound_over}
use Rattle.parse_steps.proofs.Sounding.{then_, ends, free, or_, again, maybe}
use Rattle.parse_expr.proofs.RulesSound.{More, may_levels, over_allows}
use Rattle.parse_parts.proofs.Levels.{to_below, below_le}
use Rattle.parse_parts.proofs.PartsSound.{names_sound}
use Rattle.parse_decl.proofs.DeclSound.{word_said, generic_sound, port_declaration_sound}
use Rattle.ams_parser.proofs.Turns.{turns_sound}
use Rattle.ams_parser.proofs.PathTurns.{all_names, steps, in_turns}
use Rattle.ams_parser.specs.Parsing as R

module _ (Over : Type 0) where
  prefix_name : Sound Over G.prefix_name R.prefix_name
  unfolding G.prefix_name R.prefix_name
  prefix_name = then_ (free Over _) (λ name. then_ (free Over _) (λ _. pure_sound Over name))

  all_of : (front : List Name) → Sound Over (all_names front) (R.all_of front)
  unfolding R.all_of
  all_of front = ends _ (free Over _)

  path_turns : (k : ℕ) (front : List Name) → Sound Over (steps k front) (R.path_turns k front)
  unfolding R.path_end
  path_turns zero front = or_ name_of (ends _ (free Over _)) (all_of front)
  path_turns (suc k) front = or_ name_of (then_ (free Over _) (λ name. or_ (mark m.Point) (then_ (free Over _) (λ _. path_turns k (last front name))) (pure_sound Over _))) (all_of front)

  pub path : Sound Over G.path R.path
  unfolding G.path G.prefix_name R.path R.rest_of_path
  path = then_ prefix_name (λ first. turns_sound (λ k. R.path_turns k (first ∷ [])) (in_turns (first ∷ [])) (λ k. path_turns k (first ∷ [])))

  pub unit_end : (x : Word) → Sound Over (G.unit_end x) (R.unit_end x)
  unfolding G.unit_end R.unit_end R.some_name
  unit_end x = then_ (free Over _) (λ _. then_ (word_said Over x) (λ said. then_ (maybe name_of (free Over _)) (λ again. then_ (free Over _) (λ _. pure_sound Over _))))

  pub library_clause : Sound Over G.library_clause R.library_clause
  unfolding G.library_clause R.library_clause
  library_clause = then_ (free Over _) (λ _. then_ (names_sound Over) (λ ids. ends _ (free Over _)))

  pub use_clause : Sound Over G.use_clause R.use_clause
  unfolding G.use_clause R.use_clause R.more_paths
  use_clause = then_ (free Over _) (λ _. then_ path (λ first. then_ (again (mark m.Comma) last (then_ (free Over _) (λ _. path)) (first ∷ [])) (λ all. ends _ (free Over _))))

module _ (c n l d : ℕ) (le1 : c ≤ l) (le2 : n ≤ d) where
  generics : Sound (More c n l d) (G.generics l d) (R.generics c n)
  unfolding G.generics R.generics R.more_generics
  generics = then_ (generic_sound c n l d le1 le2) (λ first. again (mark m.Semicolon) last (then_ (free _ _) (λ _. generic_sound c n l d le1 le2)) (first ∷ []))

  ports : Sound (More c n l d) (G.ports l d) (R.ports c n)
  unfolding G.ports R.ports R.more_ports
  ports = then_ (port_declaration_sound c n l d le1 le2) (λ first. again (mark m.Semicolon) last (then_ (free _ _) (λ _. port_declaration_sound c n l d le1 le2)) (first ∷ []))

module _ (c n l d : ℕ) (le1 : c ≤ l) (le2 : n ≤ d) where
  generic_clause : Sound (More c n l d) (G.generic_clause l d) (R.generic_clause c n)
  unfolding G.generic_clause R.generic_clause
  generic_clause = then_ (free _ _) (λ _. opened_sound (More c n l d) (allows d) (allows n) 0 (mark m.LeftParen) (may_levels n d le2) (λ o. over_allows n d o.0) (omega arith) _ _
      (λ e _. then_ (sound_over (More c n l d) (to_below c n l d e) (generics c (below n) l (below d) le1 (below_le n d le2)))
      (λ all. then_ (free _ _) (λ _. then_ (free _ _) (λ _. pure_sound _ all)))))

  port_clause : Sound (More c n l d) (G.port_clause l d) (R.port_clause c n)
  unfolding G.port_clause R.port_clause
  port_clause = then_ (free _ _) (λ _. opened_sound (More c n l d) (allows d) (allows n) 0 (mark m.LeftParen) (may_levels n d le2) (λ o. over_allows n d o.0) (omega arith) _ _
      (λ e _. then_ (sound_over (More c n l d) (to_below c n l d e) (ports c (below n) l (below d) le1 (below_le n d le2)))
      (λ all. then_ (free _ _) (λ _. then_ (free _ _) (λ _. pure_sound _ all)))))

  pub entity : Sound (More c n l d) (G.entity l d) (R.entity c n)
  unfolding G.entity G.entity_head R.entity R.entity_head R.some_generics R.some_ports
  entity = then_ (then_ (free _ _) (λ _. then_ (free _ _) (λ id. ends _ (free _ _))))
      (λ id. then_ (or_ (word w.Generic) generic_clause (pure_sound _ []))
      (λ xs. then_ (or_ (word w.Port) port_clause (pure_sound _ []))
      (λ ys. then_ (unit_end _ w.Entity) (λ ends. pure_sound _ _))))
