-- The flat design that a walk leaves is well formed, but for drivers of two processes, limits and counts.
use Rattle.std.specs.Prelude.{◌≡◌, ℕ, List, Option, Ok, IsTrue}
use Rattle.std.specs.Prelude.{Bool}
use Rattle.ams_tree.specs.declared.design.DesignUnit.{DesignUnit}
use Rattle.unit_meaning.specs.declared.request.Request.{Request}
use Rattle.unit_meaning.specs.declared.site.Site.{Site}
use Rattle.unit_meaning.specs.Walk.{walked}
use Rattle.site_invariant_laws.specs.Sites.{SiteHolds}
use Rattle.site_invariant_laws.specs.Premises.{Premises}

-- for the design itself as the final one
abbrev pub SitesHold : Type 0
SitesHold =
    (texts : List (List ℕ)) (units : List DesignUnit) (top : List ℕ) (x : Option ℕ) (s : Site) (keeps : Request → Bool)
    → Premises texts units s.objects (λ r. IsTrue (keeps r)) → walked texts units top x ≡ Ok s → SiteHolds s.objects s
