use Rattle.std.proofs.Common.{◌≡◌, ℕ, List, IfOk, subst}
use Rattle.flat_design.specs.declared.objects.Objects.{Objects}
use Rattle.port_entry.specs.Entries.{some_entry}
use Rattle.instance_entry.specs.Instances.{entry_with}
use Rattle.instance_body.proofs.entries.take_entry.Goals as goal

pub returns-clause-value : goal.returns-clause-value
returns-clause-value c =
    let with_parts =
    λ (objects : Objects) (used : List (ℕ × ℕ)).
    IfOk c.entry_of_instance.result (λ found. some_entry found ≡ entry_with c.args.names.now c.args.request.now c.args.entity.now objects used) in
    subst (λ objects. with_parts objects c.args.site.now.used) c.replace-objects.ensures.value
    (subst (λ used. with_parts c.replace-objects.result used) c.replace-used.ensures.value c.entry_of_instance.ensures.value)
