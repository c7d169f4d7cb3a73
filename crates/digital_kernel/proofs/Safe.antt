-- A safe state, under other names.
use Rattle.std.proofs.Common.{◌≡◌, sym, subst}
use Rattle.flat_design.specs.declared.objects.Objects.{Objects}
use Rattle.step_model.specs.System.{Digital}
use Rattle.run_laws.specs.Safe.{IsSafe}

pub safe_there : (o p : Objects) (d s : Digital) → p ≡ o → s ≡ d → IsSafe o d → IsSafe p s
safe_there o p d s eo es h = subst (λ (q : Objects). IsSafe q s) (sym eo) (subst (IsSafe o) (sym es) h)
