-- The text of a trace (own): lines of fields that are parted by one space.
use Rattle.std.specs.Prelude.{ℕ, zero, suc, ◌+◌, ◌/◌, ◌%◌, ◌^◌, Bool, true, false, ℤ, pos, unsigned_abs, nat_eq, List, [], ◌∷◌, ◌++◌, map, codes, decimal, Option, Some, None}
use Rattle.std.specs.List.{slice_get, slice_index_or, flat_map}
use Rattle.fix_core.specs.Text.{sign_text, text_of}
use Rattle.ams_value.specs.declared.val.Val.{Val}
use Rattle.ams_value.specs.declared.val.Val.TheVariants as val
use Rattle.flat_design.specs.declared.objects.Enumeration.{Enumeration}
use Rattle.flat_design.specs.declared.objects.Signal.{Signal}
use Rattle.flat_design.specs.declared.objects.Threshold.{Threshold}
use Rattle.flat_design.specs.declared.objects.Objects.{Objects}
use Rattle.flat_design.specs.Order.{unknowns, unknown_name}
use Rattle.flat_expr.specs.declared.expr.Unknown.{Unknown}
use Rattle.step_data.specs.declared.breaks.Element.{Element}
use Rattle.step_data.specs.declared.event.Event.{Event}
use Rattle.step_data.specs.declared.event.Event.TheVariants as event
use Rattle.step_data.specs.declared.outcome.End.{End}
use Rattle.step_data.specs.declared.outcome.End.TheVariants as end
use Rattle.step_data.specs.declared.outcome.Options.{Options}

-- ---- lines

-- a line: a letter, the fields with a space before each, and a line feed
abbrev pub line_of : List ℕ → List (List ℕ) → List ℕ
line_of letter fields = letter ++ flat_map (λ f. codes " " ++ f) fields ++ codes "\n"

-- ---- values

abbrev pub whole_text : ℤ → List ℕ
whole_text z = sign_text z ++ decimal (unsigned_abs z)

abbrev pub truth_text : Bool → List ℕ
truth_text true = codes "true"
truth_text false = codes "false"

abbrev pub bit_text : Bool → List ℕ
bit_text true = codes "1"
bit_text false = codes "0"

-- so many bits, the highest first
abbrev pub bits_text : ℕ → ℕ → List ℕ
bits_text zero content = []
bits_text (suc k) content = bit_text (nat_eq (content / 2 ^ k % 2) 1) ++ bits_text k content

abbrev pub literal_in : Option Enumeration → ℕ → List ℕ
literal_in None position = []
literal_in (Some e) position = literal_at (slice_get e.literals position)
  where
    literal_at : Option (List ℕ) → List ℕ
    literal_at None = []
    literal_at (Some text) = text

abbrev pub value_text : List Enumeration → Val → List ℕ
value_text enums (val.Bool b) = truth_text b
value_text enums (val.Bit b) = bit_text b
value_text enums (val.Int i) = whole_text i
value_text enums (val.Real r) = text_of r
value_text enums (val.Time t) = whole_text t
value_text enums (val.Enum number position) = literal_in (slice_get enums number) position
value_text enums (val.Bits length content) = bits_text length content

-- ---- events

-- the name of a severity by its number, in the order of their declaration
abbrev pub severity_text : ℕ → List ℕ
severity_text s = slice_index_or (codes "note" ∷ codes "warning" ∷ codes "error" ∷ []) s (codes "failure")

abbrev pub element_fields : Element → List (List ℕ)
element_fields e = decimal e.selector ∷ decimal e.quantity ∷ text_of e.value ∷ []

-- a point, a change of a threshold, of a signal and of DOMAIN, a break, a report, and the branch of a choice
abbrev pub event_line : List Enumeration → Event → List ℕ
event_line enums (event.Solved t n x) = line_of (codes "P") (decimal t ∷ decimal n ∷ map text_of x)
event_line enums (event.Cross t n k on) = line_of (codes "X") (decimal t ∷ decimal n ∷ decimal k ∷ truth_text on ∷ [])
event_line enums (event.Signal t n i v) = line_of (codes "S") (decimal t ∷ decimal n ∷ decimal i ∷ value_text enums v ∷ [])
event_line enums (event.Domain t n) = line_of (codes "D") (decimal t ∷ decimal n ∷ [])
event_line enums (event.Broke t n elements) = line_of (codes "B") (decimal t ∷ decimal n ∷ flat_map element_fields elements)
event_line enums (event.Report t n severity text) = line_of (codes "R") (decimal t ∷ decimal n ∷ severity_text severity ∷ text ∷ [])
event_line enums (event.Branch t n k b) = line_of (codes "C") (decimal t ∷ decimal n ∷ decimal k ∷ decimal b ∷ [])

abbrev pub detail_field : Option ℕ → List (List ℕ)
detail_field None = []
detail_field (Some d) = decimal d ∷ []

-- the last line: the stop time was reached, or a refusal
abbrev pub end_line : End → List ℕ
end_line (end.Reached t) = line_of (codes "E") (decimal t ∷ [])
end_line (end.Refused t r) = line_of (codes "F") (decimal t ∷ decimal r.code ∷ detail_field r.detail)

-- ---- the header

abbrev pub numbered : {A : Type 0} → (ℕ → A → List ℕ) → ℕ → List A → List ℕ
numbered line i [] = []
numbered line i (x ∷ more) = line i x ++ numbered line (i + 1) more

abbrev pub option_fields : Options → List (List ℕ)
option_fields o = map decimal (o.stop ∷ o.h0 ∷ o.hmin ∷ o.hmax ∷ o.tol ∷ o.ltol ∷ o.xres ∷ [])

abbrev pub unknown_line : Objects → ℕ → Unknown → List ℕ
unknown_line objects i u = line_of (codes "U") (decimal i ∷ unknown_name objects u ∷ [])

abbrev pub signal_line : ℕ → Signal → List ℕ
signal_line i s = line_of (codes "N") (decimal i ∷ s.path ∷ [])

abbrev pub threshold_line : ℕ → Threshold → List ℕ
threshold_line k threshold = line_of (codes "V") (decimal k ∷ decimal threshold.quantity ∷ text_of threshold.level ∷ [])

-- the version, the top and the options; the unknowns, the signals and the thresholds by number
unfoldable pub header : Objects → List ℕ → Options → List ℕ
header objects top options =
    line_of (codes "A") (codes "2" ∷ top ∷ option_fields options)
    ++ numbered (unknown_line objects) 0 (unknowns objects)
    ++ numbered signal_line 0 objects.signals
    ++ numbered threshold_line 0 objects.thresholds

-- the whole: the header, a line for each event, and the last line
unfoldable pub trace_text : Objects → List ℕ → Options → List Event → End → List ℕ
trace_text objects top options events last =
    header objects top options ++ flat_map (event_line objects.enumerations) events ++ end_line last
