-- The options that a run may have.
use Rattle.std.specs.Prelude.{◌≤◌}
use Rattle.step_data.specs.declared.outcome.Options.{Options}

pub record IsAllowed (o : Options) : Type 0 where
  pub stop_least : 1 ≤ o.stop
  pub stop_most : o.stop ≤ 1000000000000000
  pub ahead_most : o.ahead ≤ 4096
  pub hmin_least : 1 ≤ o.hmin
  pub h0_least : o.hmin ≤ o.h0
  pub h0_most : o.h0 ≤ o.hmax
  pub hmax_most : o.hmax ≤ 1000000000000
  pub tol_least : 1 ≤ o.tol
  pub tol_most : o.tol ≤ 1000000000000000
  pub ltol_least : 1 ≤ o.ltol
  pub ltol_most : o.ltol ≤ 1000000000000000
  pub xres_least : 1 ≤ o.xres
  pub xres_most : o.xres ≤ 1000000000
