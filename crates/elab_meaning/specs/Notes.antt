-- What is noted while a text is read, and which fault is the first.
use Rattle.std.specs.Prelude.{ℕ, nat_eq, nat_lt, nat_le, Bool, true, false, ◌&&◌, ◌||◌, if◌then◌else◌, List, [], ◌∷◌, ◌++◌, length, Option, Some, None, unwrap_or}
use Rattle.std.specs.List.{fold, slice_get}
use Rattle.message_codes.specs.Codes as code
use Rattle.ams_token.specs.declared.token.Place.{Place}
use Rattle.flat_design.specs.Limits.{unknown_limit, threshold_limit}
use Rattle.flat_design.specs.Lists.{with_dot, with_threshold}
use Rattle.flat_design.specs.declared.objects.Threshold.{Threshold}
use Rattle.elab_meaning.specs.declared.fault.Cause.{Cause}
use Rattle.elab_meaning.specs.declared.fault.Cause.TheVariants.{Unknown, WrongType, NotStatic, Duplicate, NatureMismatch, UnequalBranches}
use Rattle.elab_meaning.specs.declared.fault.Fault.{Fault}
use Rattle.elab_meaning.specs.declared.fault.Notes.{Notes}
use Rattle.elab_meaning.specs.declared.typed.Context.{Context}
use Rattle.elab_meaning.specs.declared.typed.Typed.{Typed}

abbrev pub no_notes : Notes
no_notes = record { faults = []; dots = []; thresholds = [] }

-- one more broken rule
abbrev pub noted : Place → Cause → Notes → Notes
noted place cause n = record { faults = n.faults ++ record { place = place; cause = cause } ∷ []; dots = n.dots; thresholds = n.thresholds }

-- what reading an expression gives: the notes behind it, and the expression, where it keeps the rules
abbrev pub Found : Type 0
Found = Notes × Option Typed

-- the expression breaks a rule itself
abbrev pub wrong : Place → Notes → Found
wrong place n = (noted place WrongType n, None)

-- a name whose value changes is read
abbrev pub changing : Context → Place → Notes → Notes
changing c place n = if c.is_static then noted place NotStatic n else n

-- of more dots or thresholds than a design may have one is enough to tell
unfoldable pub dotted : ℕ → Notes → Notes
dotted q n = if nat_le (length n.dots) unknown_limit then record { faults = n.faults; dots = with_dot q n.dots; thresholds = n.thresholds } else n

unfoldable pub watched : Threshold → Notes → Notes
watched t n = if nat_le (length n.thresholds) threshold_limit then record { faults = n.faults; dots = n.dots; thresholds = with_threshold t n.thresholds } else n

-- ---- the first fault in text order

abbrev pub code_of : Cause → ℕ
code_of (Unknown x) = code.unknown_name
code_of WrongType = code.wrong_type
code_of NotStatic = code.not_static
code_of (Duplicate x) = code.duplicate
code_of NatureMismatch = code.nature_mismatch
code_of UnequalBranches = code.unequal_branches

abbrev pub stands_before : Place → Place → Bool
stands_before p q = nat_lt p.line q.line || (nat_eq p.line q.line && nat_lt p.column q.column)

abbrev pub same_place : Place → Place → Bool
same_place p q = nat_eq p.line q.line && nat_eq p.column q.column

-- of two faults at one place the one with the lower code comes first
abbrev pub is_before : Fault → Fault → Bool
is_before f g = stands_before f.place g.place || (same_place f.place g.place && nat_lt (code_of f.cause) (code_of g.cause))

abbrev pub first_of : Option Fault → Fault → Option Fault
first_of None f = Some f
first_of (Some g) f = if is_before f g then Some f else Some g

-- the first of those that a stage answers
abbrev pub if_told : (Cause → Bool) → Option Fault → Fault → Option Fault
if_told tells first f = if tells f.cause then first_of first f else first

abbrev pub first_fault : (Cause → Bool) → List Fault → Option Fault
first_fault tells faults = fold (if_told tells) None faults

-- what the stage of types answers, that of natures, and an instance
abbrev pub is_of_types : Cause → Bool
is_of_types NatureMismatch = false
is_of_types cause = true

abbrev pub is_of_natures : Cause → Bool
is_of_natures NatureMismatch = true
is_of_natures cause = false

abbrev pub is_of_instances : Cause → Bool
is_of_instances WrongType = true
is_of_instances cause = false

-- ---- texts

-- the text of a name or of a string by its number in the table of names
abbrev pub text_of : List (List ℕ) → ℕ → List ℕ
text_of texts x = unwrap_or (slice_get texts x) []
