-- What an instance of a file without faults breaks, as the laws of the walk ask it.
use Rattle.std.proofs.Common.{◌≡◌, ℕ, IsTrue, List, None}
use Rattle.std.proofs.lemmas.List.Elements.{All-weaker}
use Rattle.ams_tree.specs.declared.concurrent.Concurrent.{Concurrent}
use Rattle.ams_tree.specs.declared.concurrent.ConcurrentStatement.{ConcurrentStatement}
use Rattle.ams_tree.specs.declared.concurrent.ConcurrentStatement.TheVariants as conc
use Rattle.ams_tree.specs.declared.design.DesignUnit.{DesignUnit}
use Rattle.unit_meaning.specs.declared.request.Request.{Request}
use Rattle.unit_meaning.specs.Units.{type_fault, nature_fault}
use Rattle.unit_meaning.specs.Walk.{Around}
use Rattle.walk_laws.specs.Steps.{around_body}
use Rattle.alike_maps.specs.Maps.{actuals_fit}
use Rattle.instance_laws.specs.Instances.{InnerFits, InstancesBreakNothing}
use Rattle.instance_laws.proofs.Whole.{instances_follow}
use Rattle.site_invariant_laws.specs.Premises.{InnerKeeps, InstancesAreFine}
use Rattle.tally_laws.specs.Tally.{InnerKeeps as InnerCounts}
use Rattle.made_count_laws.specs.Counts.{InstancesAreFine as InstancesCount, StatementsBreakAlike}
use Rattle.again_process_laws.proofs.Whole.{statements_break_alike}

abbrev pub Fits : List DesignUnit → Request → Type 0
Fits units r = IsTrue (actuals_fit units r)

module _ (texts : List (List ℕ)) (units : List DesignUnit) (types : type_fault texts units ≡ None) (natures : nature_fault texts units ≡ None) where
  follow : InstancesBreakNothing texts units
  follow = instances_follow texts units types natures

  inner_keeps : (at : Around) (x : ConcurrentStatement) → InnerFits units at x → InnerKeeps (Fits units) units at x
  inner_keeps at (conc.Instance i) k = k
  inner_keeps at _ k = tt

  inner_counts : (at : Around) (x : ConcurrentStatement) → InnerFits units at x → InnerCounts (Fits units) units at x
  inner_counts at (conc.Instance i) k = k
  inner_counts at _ k = tt

  pub instances_are_fine : InstancesAreFine texts units (Fits units)
  instances_are_fine = record {
    top = follow.top;
    inner = λ r s e a entry q h.
        let at = around_body texts r a entry s in
        All-weaker (λ (c : Concurrent). InnerFits units at c.statement) (λ (c : Concurrent). InnerKeeps (Fits units) units at c.statement) (λ c k. inner_keeps at c.statement k) a.statements (follow.inner r s e a entry q h);
    fine = λ r s e a entry q h. follow.fine r s e a entry q h;
  }

  pub instances_count : InstancesCount texts units (Fits units)
  instances_count = record {
    top = follow.top;
    inner = λ r s e a entry q h.
        let at = around_body texts r a entry s in
        All-weaker (λ (c : Concurrent). InnerFits units at c.statement) (λ (c : Concurrent). InnerCounts (Fits units) units at c.statement) (λ c k. inner_counts at c.statement k) a.statements (follow.inner r s e a entry q h);
    fine = λ r s e a entry q h. follow.fine r s e a entry q h;
  }

pub breaks_alike : StatementsBreakAlike
breaks_alike w start units scope label x n m =
    let k = statements_break_alike w start units scope label x n m in
    record { more = k.more; first = k.first; second = k.second }
