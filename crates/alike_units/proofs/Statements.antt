-- The statements of an architecture, read twice.
use Rattle.std.proofs.Common.{ℕ, IsTrue, List, [], ◌∷◌, Option}
use Rattle.std.specs.List.{fold}
use Rattle.ams_tree.specs.declared.expression.Name.{Name}
use Rattle.ams_tree.specs.declared.concurrent.Concurrent.{Concurrent}
use Rattle.ams_tree.specs.declared.concurrent.ConcurrentStatement.{ConcurrentStatement}
use Rattle.ams_tree.specs.declared.concurrent.ConcurrentStatement.TheVariants as conc
use Rattle.ams_tree.specs.declared.design.DesignUnit.{DesignUnit}
use Rattle.name_scope.specs.declared.scope.Scope.{Scope}
use Rattle.elab_meaning.specs.declared.fault.Notes.{Notes}
use Rattle.unit_meaning.specs.Settings.{Setting}
use Rattle.unit_meaning.specs.Units.{statement_notes, judged_statement}
use Rattle.alike_books.specs.Books.{PartsFollow}
use Rattle.alike_parts.specs.Follows.{BothRead}
use Rattle.alike_parts.proofs.Follows.{Follows, same_follows, on_follows}
use Rattle.alike_processes.proofs.Processes.{each_statement_follows}
use Rattle.alike_maps.specs.Maps.{IsOutside}
use Rattle.alike_maps.proofs.Maps.{maps_follow}
use Rattle.alike_units.specs.Units.{AllStatementsFollow}

module _ (G : Type 0) (natures : List ℕ) (v w : Setting) (c i : Scope) (premise : BothRead G natures v w c i) (parts : PartsFollow) (start : Scope) (outside : IsOutside start) (units : List DesignUnit) where
  statement_follows : (label : Option Name) (x : ConcurrentStatement) (n m : Notes) → Follows G n m (statement_notes v start units c label x n) (statement_notes w start units i label x m)
  statement_follows label (conc.Instance x) n m = maps_follow G natures v w c i premise start outside units x n m
  statement_follows label (conc.Process p) n m = each_statement_follows G natures v w c i premise parts label (conc.Process p) n m
  statement_follows label (conc.Assign x delay all last when) n m = each_statement_follows G natures v w c i premise parts label (conc.Assign x delay all last when) n m
  statement_follows label (conc.Assert a) n m = each_statement_follows G natures v w c i premise parts label (conc.Assert a) n m
  statement_follows label (conc.Break place elements names when) n m = each_statement_follows G natures v w c i premise parts label (conc.Break place elements names when) n m
  statement_follows label (conc.Equation q) n m = each_statement_follows G natures v w c i premise parts label (conc.Equation q) n m
  statement_follows label (conc.If place all last) n m = each_statement_follows G natures v w c i premise parts label (conc.If place all last) n m
  statement_follows label (conc.Case place x all) n m = each_statement_follows G natures v w c i premise parts label (conc.Case place x all) n m

  all_follow : (all : List Concurrent) (n m : Notes) → Follows G n m (fold (judged_statement v start units c) n all) (fold (judged_statement w start units i) m all)
  all_follow [] n m = same_follows G n m
  all_follow (x ∷ more) n m =
      let a = judged_statement v start units c n x in
      let b = judged_statement w start units i m x in
      on_follows G n m a b (fold (judged_statement v start units c) a more) (fold (judged_statement w start units i) b more) (statement_follows x.label x.statement n m) (all_follow more a b)

pub each_list_follows : (G : Type 0) (natures : List ℕ) (v w : Setting) (c i : Scope) → BothRead G natures v w c i → PartsFollow → (start : Scope) → IsOutside start → (units : List DesignUnit) (all : List Concurrent)
    (n m : Notes) → Follows G n m (fold (judged_statement v start units c) n all) (fold (judged_statement w start units i) m all)
each_list_follows G natures v w c i premise parts start outside units all n m = all_follow G natures v w c i premise parts start outside units all n m

pub all_statements_follow : AllStatementsFollow
all_statements_follow b natures v w c i premise parts start outside units all n m = each_list_follows (IsTrue b) natures v w c i premise parts start outside units all n m
