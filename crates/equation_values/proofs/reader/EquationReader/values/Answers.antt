use Rattle.std.proofs.Common.{◌≡◌, length, take, drop, refl, sym, ap, subst, ◌∙◌}
use Rattle.flat_design.specs.declared.objects.Objects.{Objects}
use Rattle.design_meaning.specs.Reading.{readings_of}
use Rattle.equation_values.specs.declared.values.EquationValues.{EquationValues}
use Rattle.equation_values.specs.Reading.{readings_in}
use Rattle.equation_values.proofs.Places.{readings}
use Rattle.equation_values.proofs.reader.EquationReader.values.Goals as goal

pub returns : goal.returns
returns c =
    let objects = c.self.inside.flat.now in
    let x = c.args.point.now in
    let lent = c.as_slice.ensures in
    let quantities = c.quantities.ensures in
    let nodes = c.nodes.ensures in
    let front = c.split_at.ensures.front in
    let back = c.split_at.ensures.back in
    let first = c.split_at-2.ensures.front in
    let rest = c.split_at-2.ensures.back in
    let eq : c.split_at.result.0.now ≡ take (length objects.quantities) x = cc in
    let eo : c.split_at.result.1.now ≡ drop (length objects.quantities) x = cc in
    let er : c.split_at-2.result.0.now ≡ take (length objects.nodes) c.split_at.result.1.now = cc in
    let ed : c.split_at-2.result.1.now ≡ drop (length objects.nodes) c.split_at.result.1.now = cc in
    let v : EquationValues = record {
      signals = c.as_slice-2.result;
      thresholds = c.as_slice-3.result;
      frame = c.as_slice-4.result;
      kind = c.args.kind;
      time = c.args.time;
      quantities = c.split_at.result.0;
      references = c.split_at-2.result.0;
      dots = c.split_at-2.result.1;
    } in
    subst (λ (z : Objects). readings_in v ≡ readings_of z c.args.frame.now c.args.kind c.args.time x) c.self.view_is
    (readings v objects c.args.frame.now c.args.kind c.args.time x c.split_at.result.1.now
    (record { signals_are = c.as_slice-2.ensures.value ∙ c.self.invariant.signals_are; thresholds_are = c.as_slice-3.ensures.value ∙ c.self.invariant.thresholds_are })
    c.as_slice-4.ensures refl refl eq eo er ed)
