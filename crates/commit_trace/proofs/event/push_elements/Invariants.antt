use Rattle.std.proofs.Common.{◌≡◌, ◌++◌, flat_map, take}
use Rattle.trace_text.specs.Trace.{element_fields}
use Rattle.commit_trace.specs.Added.{fields_text}
use Rattle.commit_trace.proofs.event.push_elements.Given as goal

-- the elements so far are added
abbrev pub invariant-loop-element : goal.invariant-loop-element
invariant-loop-element l = l.out.items ≡ l.fn.out.items ++ fields_text (flat_map element_fields (take l.element-index l.elements))
