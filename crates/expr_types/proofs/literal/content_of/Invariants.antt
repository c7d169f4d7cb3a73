use Rattle.std.proofs.Common.{◌≡◌, ◌<◌, ◌^◌, Some, IfSome, drop}
use Rattle.std.specs.List.{fold}
use Rattle.elab_meaning.specs.Literals as spec
use Rattle.expr_types.proofs.literal.content_of.Given as goal

abbrev pub invariant-loop-c : goal.invariant-loop-c
invariant-loop-c l =
    record {
      told : fold spec.with_element l.content (drop l.c-index l.text) ≡ fold spec.with_element (Some 0) l.text;
      bound : IfSome l.content (λ a. a < 2 ^ l.c-index);
    }
