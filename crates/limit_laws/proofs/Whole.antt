-- A flat design keeps its limits.
use Rattle.std.proofs.Common.{◌≡◌, ◌≤◌, ℕ, List, length, position, Option, Ok, sym, subst, arith}
use Rattle.std.specs.List.{All}
use Rattle.std.specs.Str.{bytes_eq}
use Rattle.ams_tree.specs.declared.design.DesignUnit.{DesignUnit}
use Rattle.flat_design.specs.declared.objects.Objects.{Objects}
use Rattle.unit_meaning.specs.declared.site.Site.{Site}
use Rattle.unit_meaning.specs.Drivers.{flattened}
use Rattle.unit_meaning.specs.Walk.{walked}
use Rattle.flat_design.specs.Limits.{frame_limit}
use Rattle.flat_design.specs.Reads.{frame_of}
use Rattle.checked_laws.proofs.Whole.{flat_designs_are_checked}
use Rattle.member_laws.proofs.Members.{few_members}
use Rattle.site_laws.specs.Sites.{WalkedSite}
use Rattle.site_laws.proofs.Whole.{walked_sites_hold}
use Rattle.short_laws.specs.Short.{UnitIsShort}
use Rattle.limit_laws.specs.Limits.{MadeFew, IsNumbered, IsLimited, FlatDesignsKeepLimits}
use Rattle.limit_laws.proofs.Equations.{few_equations}

limited : (s : Site) → WalkedSite s → MadeFew s → IsNumbered s → length (frame_of s.objects) ≤ frame_limit → IsLimited s.objects
limited s w m n f =
    let dots : length s.objects.dots ≤ length s.dots = few_members.numbers s.objects.dots s.dots n.dots_once n.dots in
    let thresholds : length s.objects.thresholds ≤ length s.thresholds = few_members.thresholds s.objects.thresholds s.thresholds n.thresholds_once n.thresholds in
    record {
      numbers =
          record {
            signals = omega (arith, w.within.signals);
            quantities = omega (arith, w.within.unknowns);
            nodes = omega (arith, w.within.unknowns);
            equations = m.equations;
            dots = omega (arith, w.within.unknowns, dots);
            thresholds = omega (arith, w.within.thresholds, thresholds);
          };
      limits =
          record {
            unknowns = omega (arith, w.within.unknowns, dots);
            frame = f;
            signals = w.within.signals;
            processes = w.processes;
            thresholds = omega (arith, w.within.thresholds, thresholds);
            instances = w.instances;
            branches = m.branches;
          };
      domain = w.domain;
    }

whole : (texts : List (List ℕ)) (units : List DesignUnit) (top : List ℕ) (objects : Objects) → All UnitIsShort units → flattened texts units top ≡ Ok objects
    → ((x : Option ℕ) (s : Site) → walked texts units top x ≡ Ok s → IsNumbered s) → IsLimited objects
whole texts units top objects short h numbered =
    let flat = flat_designs_are_checked.flat texts units top objects h in
    let x = position (bytes_eq top) texts in
    subst IsLimited flat.objects_are
    (limited flat.site (walked_sites_hold.whole texts units top x flat.site flat.walked_is) (few_equations texts units short top x flat.site flat.walked_is) (numbered x flat.site flat.walked_is)
    (subst (λ (o : Objects). length (frame_of o) ≤ frame_limit) (sym flat.objects_are) flat.frame))

pub flat_designs_keep_limits : FlatDesignsKeepLimits
flat_designs_keep_limits = record {
  made = λ texts units top x s short h. few_equations texts units short top x s h;
  whole = λ texts units top objects short h numbered. whole texts units top objects short h numbered;
}
