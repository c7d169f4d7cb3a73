use Rattle.std.proofs.Common.{◌≡◌, ◌-◌, ◌<◌, Option, sym, subst, arith}
use Rattle.ams_tree.specs.declared.expression.Name.{Name}
use Rattle.unit_index.specs.Index.{known}
use Rattle.unit_meaning.specs.declared.request.Request.{Request}
use Rattle.unit_meaning.specs.Walk as spec
use Rattle.walk_answers.specs.Answers.{Walks, setting_with}
use Rattle.instance_walk.specs.Kinds.{around_at, instance_walked}
use Rattle.instance_walk.proofs.Steps.{at_zero, next, body_failed}
use Rattle.instance_walk.proofs.walk.+walk.Goals as goal

pub enter-returns-then-depth-eq0 : goal.enter-returns-then-depth-eq0
enter-returns-then-depth-eq0 t c =
    subst (λ m. Walks m c.too_many.result c.args.site.now)
    (sym (at_zero c.args.names.now (known c.args.units.now) c.args.above.now c.args.request.now c.args.site.now c.args.depth (omega arith)))
    (c.too_many.ensures c.args.site.now)

pub enter-returns : goal.enter-returns
enter-returns t c =
    subst (λ m. Walks m c.enter_next.result c.enter_next.new.site)
    (sym (next c.args.names.now (known c.args.units.now) c.args.above.now c.args.request.now c.args.site.now c.args.depth (omega arith)))
    c.enter_next.ensures

pub enter_unit-returns-in-Err : goal.enter_unit-returns-in-Err
enter_unit-returns-in-Err t c =
    body_failed (spec.enter c.args.names.now (known c.args.units.now) c.args.depth c.args.above.now) c.args.names.now (known c.args.units.now) c.args.request.now c.args.entity.now c.args.architecture.now c.args.start.now
    (spec.entry_of_instance c.args.names.now c.args.request.now c.args.entity.now c.args.site.now) c.args.number c.args.site.now c.requires.start c.requires.number c.in-Err.stop c.enter_body.new.site c.in-Err.ensures.opened

pub walk_labelled-enter-requires : goal.walk_labelled-enter-requires
walk_labelled-enter-requires t c = (omega (arith, c.decreases), (c.requires.start, c.in-Ok.ensures.sound))

pub walk_labelled-returns-in-Ok : goal.walk_labelled-returns-in-Ok
walk_labelled-returns-in-Ok t c =
    subst (λ (r : Request). Walks (spec.enter c.args.names.now (known c.args.units.now) c.args.depth c.args.above.now r c.args.site.now) c.enter.result c.enter.new.site)
    c.in-Ok.ensures.value c.enter.ensures

pub walk_instance-returns-in-Some : goal.walk_instance-returns-in-Some
walk_instance-returns-in-Some t c =
    subst
    (λ (label : Option Name).
    Walks
    (instance_walked (spec.enter c.args.names.now (known c.args.units.now) c.args.depth c.args.above.now) (known c.args.units.now)
    (around_at (setting_with c.args.names.now c.args.enumerations.now c.args.selectors.now) c.args.scope.now c.args.path.now c.args.number) label c.args.instance.now c.args.site.now)
    c.walk_labelled.result c.walk_labelled.new.site)
    (sym c.in-Some.is) c.walk_labelled.ensures
