-- Break elements by their selectors.
use Rattle.std.specs.Prelude.{ℕ, Bool, nat_eq, List}
use Rattle.std.specs.List.{list_any}
use Rattle.step_data.specs.declared.breaks.Element.{Element}

-- some element is for this selector
abbrev pub has_selector : ℕ → List Element → Bool
has_selector selector elements = list_any (λ (e : Element). nat_eq e.selector selector) elements
