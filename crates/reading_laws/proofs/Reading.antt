-- Reading an expression only adds to the notes.
use Rattle.std.proofs.Common.{ℕ, List, Option, Some, None, IfSome}
use Rattle.name_scope.specs.declared.scope.Scope.{Scope}
use Rattle.elab_meaning.specs.declared.fault.Notes.{Notes}
use Rattle.elab_meaning.specs.declared.typed.Typed.{Typed}
use Rattle.reading_laws.specs.Growing.{ReadingAddsNotes}
use Rattle.reading_laws.proofs.Closing.{IsClosed, reading_keeps}

anything : (o : Option Typed) → IfSome o (λ (t : Typed). Unit {0})
anything (Some t) = tt
anything None = tt

nothing_asked : (texts : List (List ℕ)) (scope : Scope) → IsClosed texts scope (λ (n : Notes). Unit {0}) (λ (t : Typed). Unit {0})
nothing_asked texts scope =
    record {
      down = λ a b g k. tt;
      number = λ x unit n. anything _;
      literal = λ x n. anything _;
      name = λ c x n. anything _;
      call = λ c x all n h. anything _;
      event = λ c x n. anything _;
      dot = λ c x n k. anything _;
      reference = λ c x n. anything _;
      above = λ x level n k. anything _;
      ramp = λ x fine n. anything _;
      paren = λ place a n h. anything _;
      unary = λ op place a n h. anything _;
      binary = λ op a b n h k. anything _;
    }

pub reading_adds_notes : ReadingAddsNotes
reading_adds_notes texts scope x c n =
    (reading_keeps texts scope (λ (n : Notes). Unit {0}) (λ (t : Typed). Unit {0}) (nothing_asked texts scope) x c n).grows
