use Rattle.std.proofs.Common.{◌≡◌, IfOk, subst}
use Rattle.unit_index.specs.Index.{known}
use Rattle.unit_meaning.specs.Settings.{Setting}
use Rattle.unit_meaning.specs.Walk as spec
use Rattle.instance_walk.proofs.walk.read_request.Goals as goal

pub returns-clause-value : goal.returns-clause-value
returns-clause-value c =
    subst
    (λ (w : Setting). IfOk c.request_of.result (λ request. request ≡ spec.request_of w (known c.args.units.now) c.args.scope.now c.args.path.now c.args.number c.args.label c.args.instance.now c.args.site.now))
    c.setting_with-setting.ensures c.request_of.ensures.value
