-- Break elements by their selectors.
use Rattle.std.specs.Prelude.{◌≢◌, ℕ, List, Option, Some, None}
use Rattle.std.specs.List.{AllPairs}
use Rattle.message_codes.specs.Codes.{double_break}
use Rattle.step_data.specs.declared.breaks.Element.{Element}
use Rattle.break_set.specs.declared.AddFault.{AddFault}
use Rattle.break_set.specs.declared.AddFault.TheVariants.{Double, Memory}

-- no two elements are for one selector
abbrev pub OnePerSelector : List Element → Type 0
OnePerSelector elements = AllPairs (λ a b. a.selector ≢ b.selector) elements

abbrev pub code_of : AddFault → Option ℕ
code_of (Double selector) = Some double_break
code_of Memory = None
