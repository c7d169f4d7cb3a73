-- An accepted flat design, field by field.
use Rattle.std.proofs.Common.{◌≡◌, ◌≤◌, ℕ, List, length, position, Option, Ok, sym, subst, arith}
use Rattle.std.specs.List.{All}
use Rattle.std.specs.Str.{bytes_eq}
use Rattle.std.proofs.lemmas.List.Elements.{All-nil}
use Rattle.ams_token.specs.declared.tokens.Tokens.{Tokens}
use Rattle.ams_tree.specs.declared.design.DesignFile.{DesignFile}
use Rattle.flat_design.specs.declared.objects.Objects.{Objects}
use Rattle.flat_design.specs.Order.{unknown_count, equation_names}
use Rattle.unit_meaning.specs.declared.site.Site.{Site}
use Rattle.unit_meaning.specs.Walk.{walked}
use Rattle.design_rules.specs.Design.{IsDesign, IsRamp, IsSolvable}
use Rattle.alike_maps.specs.Maps.{actuals_fit}
use Rattle.short_laws.specs.Short.{most_tokens, UnitIsShort}
use Rattle.short_laws.proofs.Whole.{texts_write_short_trees}
use Rattle.checked_laws.specs.Checked.{IsFlattened, HasDrivers, DriversOnce}
use Rattle.checked_laws.proofs.Whole.{flat_designs_are_checked}
use Rattle.site_laws.specs.Sites.{WalkedSite}
use Rattle.site_laws.proofs.Whole.{walked_sites_hold}
use Rattle.limit_laws.specs.Limits.{IsNumbered, IsLimited}
use Rattle.limit_laws.proofs.Whole.{flat_designs_keep_limits}
use Rattle.count_laws.proofs.Whole.{equations_match_unknowns}
use Rattle.site_invariant_laws.specs.Sites.{SiteHolds}
use Rattle.site_invariant_laws.proofs.Whole.{sites_hold}
use Rattle.accepted_laws.specs.Accepted.{IsFileOf, IsAccepted, AcceptedAreDesigns}
use Rattle.accepted_laws.proofs.Instances.{instances_count, breaks_alike}
use Rattle.accepted_laws.proofs.Premises.{premises}

numbered : (s : Site) → SiteHolds s.objects s → IsNumbered s
numbered s h = record {
  dots = h.counted.dots;
  dots_once = h.counted.noted.dots_once;
  thresholds = h.counted.thresholds;
  thresholds_once = h.counted.noted.thresholds_once;
}

-- what is shown of the whole
record Rest (objects : Objects) : Type 0 where
  limited : IsLimited objects
  count : length (equation_names objects) ≡ unknown_count objects
  solvable : All IsSolvable objects.instances
  drivers : DriversOnce objects

-- the parts of the design together
design_of_site : (s : Site) → SiteHolds s.objects s → WalkedSite s → Rest s.objects → IsDesign s.objects
design_of_site s h walk rest = record {
  numbers = rest.limited.numbers;
  limits = rest.limited.limits;
  domain = rest.limited.domain;
  enumeration_count = h.objects.enumeration_count;
  enumerations = h.objects.enumerations;
  signals = h.objects.signals;
  quantities = h.objects.quantities;
  dots = h.counted.noted.dots;
  dots_once = h.counted.noted.dots_once;
  thresholds = h.counted.noted.thresholds;
  thresholds_once = h.counted.noted.thresholds_once;
  equations = h.equations;
  count = rest.count;
  instances = rest.solvable;
  processes = h.processes;
  drivers_once = rest.drivers;
  ramps = subst (All (IsRamp s.objects)) (sym walk.ramps) (All-nil (IsRamp s.objects));
}

module _ (text : List ℕ) (tokens : Tokens) (file : DesignFile) (top : List ℕ) (is : IsFileOf text tokens file) where
  short_trees : All UnitIsShort file.units
  short_trees =
      let few : length tokens.list.items ≤ most_tokens = omega (arith, texts_write_short_trees.tokens text tokens is.has, is.short) in
      texts_write_short_trees.trees is.levels is.operators file tokens.list.items few is.spells

  module _ (objects : Objects) (accepted : IsAccepted tokens.names file.units top objects) where
    holds : (x : Option ℕ) (s : Site) → walked tokens.names file.units top x ≡ Ok s → SiteHolds s.objects s
    holds x s walk = sites_hold tokens.names file.units top x s (actuals_fit file.units) (premises text tokens file is s.objects accepted.types accepted.natures) walk

    limited : IsLimited objects
    limited = flat_designs_keep_limits.whole tokens.names file.units top objects short_trees accepted.flat (λ x s walk. numbered s (holds x s walk))

    count : length (equation_names objects) ≡ unknown_count objects
    count =
        equations_match_unknowns.flat tokens.names file.units top objects (actuals_fit file.units) breaks_alike (instances_count tokens.names file.units accepted.types accepted.natures)
        accepted.flat accepted.solvable

    flat : IsFlattened tokens.names file.units top objects
    flat = flat_designs_are_checked.flat tokens.names file.units top objects accepted.flat

    is_design : IsDesign objects
    is_design =
        let x = position (bytes_eq top) tokens.names in
        let s = flat.site in
        let h = holds x s flat.walked_is in
        let drives : All (HasDrivers objects) objects.processes = subst (λ (o : Objects). All (HasDrivers o) o.processes) flat.objects_are h.drivers in
        let walk = walked_sites_hold.whole tokens.names file.units top x s flat.walked_is in
        let rest : Rest objects = record { limited = limited; count = count; solvable = flat_designs_are_checked.instances objects accepted.solvable; drivers = flat.drivers drives } in
        subst IsDesign flat.objects_are (design_of_site s h walk (subst Rest (sym flat.objects_are) rest))

pub accepted_are_designs : AcceptedAreDesigns
accepted_are_designs text tokens file top objects is accepted = is_design text tokens file top is objects accepted
