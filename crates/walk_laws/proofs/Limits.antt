-- The limits that are tested where an instance is entered hold of what the walk makes.
use Rattle.std.proofs.Common.{◌≡◌, ℕ, List, [], ◌∷◌, Option, Some, None, Result, Ok, Err}
use Rattle.ams_tree.specs.declared.expression.Name.{Name}
use Rattle.ams_tree.specs.declared.concurrent.Concurrent.{Concurrent}
use Rattle.ams_tree.specs.declared.concurrent.ConcurrentStatement.TheVariants as conc
use Rattle.ams_tree.specs.declared.concurrent.Instance.{Instance as Written}
use Rattle.ams_tree.specs.declared.design.Architecture.{Architecture}
use Rattle.ams_tree.specs.declared.design.DesignUnit.{DesignUnit}
use Rattle.ams_tree.specs.declared.design.Entity.{Entity}
use Rattle.flat_design.specs.Limits.{instance_limit}
use Rattle.flat_design.specs.declared.objects.Objects.{Objects}
use Rattle.elab_meaning.specs.declared.fault.Notes.{Notes}
use Rattle.unit_meaning.specs.declared.draft.Made.{Made}
use Rattle.unit_meaning.specs.declared.draft.Made.TheVariants as made
use Rattle.unit_meaning.specs.declared.request.Request.{Request}
use Rattle.unit_meaning.specs.declared.site.Site.{Site}
use Rattle.unit_meaning.specs.Concurrent.{concurrent}
use Rattle.unit_meaning.specs.Walk.{Around, Entry, numbering, with_made, with_statement, first_site, top_request, walked}
use Rattle.walk_laws.specs.Steps.{begun, around_body, IsWithin, IsEntered, IsNoInstance}
use Rattle.walk_laws.specs.Walked.{WalkKeepsLimits}
use Rattle.walk_laws.proofs.Induction.{WalkRules, walk_keeps, no_answer}

abbrev Enters : Request → Site → Site → Type 0
Enters r s t = IsWithin t

abbrev Runs : Around → List Concurrent → Site → Site → Type 0
Runs at all s t = IsWithin s → IsWithin t

stays : (n : Notes) (m : Made) (s : Site) → IsWithin s → IsWithin (with_statement (n, m) s)
stays n (made.Process p) s h = record { unknowns = h.unknowns; signals = h.signals; processes = h.processes; thresholds = h.thresholds }
stays n (made.Equation q) s h = record { unknowns = h.unknowns; signals = h.signals; processes = h.processes; thresholds = h.thresholds }
stays n made.Nothing s h = record { unknowns = h.unknowns; signals = h.signals; processes = h.processes; thresholds = h.thresholds }

rules : (texts : List (List ℕ)) (units : List DesignUnit) → WalkRules texts units Enters Runs
rules texts units =
    record {
      nothing = λ at s h. h;
      instance = λ at c more x i s u t l k a b h. b a;
      unlabelled = λ at c more i s t l k b h. b h;
      statement = λ at c more s t plain b h.
          let found = concurrent at.setting at.scope c.label c.statement (numbering s) in
          b (stays found.0 found.1 s h);
      body = λ r s t e a entry h b. b h.limits;
    }

pub walk_keeps_limits : WalkKeepsLimits
walk_keeps_limits texts units top None s h = no_answer _ s h
walk_keeps_limits texts units top (Some x) s h = walk_keeps texts units Enters Runs (rules texts units) instance_limit [] (top_request top x) first_site s h
