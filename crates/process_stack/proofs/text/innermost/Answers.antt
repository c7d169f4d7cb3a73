use Rattle.std.proofs.Common.{◌≡◌, ◌∙◌, refl, ap, sym, length, ◌-◌, Some, None, subst}
use Rattle.std.specs.List.{slice_get}
use Rattle.process_stack.proofs.Rounds.{innermost_is, not_found}
use Rattle.process_stack.proofs.text.innermost.Goals as goal

pub returns-in-Some-statement_at : goal.returns-in-Some-statement_at
returns-in-Some-statement_at c = (
  innermost_is c.args.text.now c.args.frames.now c.in-Some.frame c.in-Some-statement_at.statement.now c.requires
      (let value = c.last.ensures.value in let copied = c.copied.ensures in let is = c.in-Some.is in cc)
      (c.in-Some-statement_at.ensures.value ∙ ap (λ list. slice_get list c.in-Some.frame.statement) c.body_at-list.ensures),
  refl,
)

pub returns-in-None-statement_at : goal.returns-in-None-statement_at
returns-in-None-statement_at c =
    absurd (not_found c.args.text.now c.args.frames.now c.in-Some.frame c.requires
    (let value = c.last.ensures.value in let copied = c.copied.ensures in let is = c.in-Some.is in cc)
    (c.in-None-statement_at.ensures.value ∙ ap (λ list. slice_get list c.in-Some.frame.statement) c.body_at-list.ensures))
