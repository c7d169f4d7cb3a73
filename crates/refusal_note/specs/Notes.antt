-- The note of a text or a design that is refused: one line.
use Rattle.std.specs.Prelude.{ℕ, List, [], ◌∷◌, ◌++◌, codes, decimal, Option, Some, None}
use Rattle.std.specs.List.{slice_get}
use Rattle.message_codes.specs.Codes.{bad_character, bad_literal, unclosed_string, not_ascii, syntax, too_deep, no_top, port_mismatch, multiple_drivers, recursive, too_many, unsolvable}
use Rattle.ams_token.specs.declared.token.Place.{Place}
use Rattle.ams_token.specs.declared.token.Token.{Token}
use Rattle.ams_token.specs.declared.tokens.Tokens.{Tokens}
use Rattle.ams_lexer.specs.declared.fault.LexFault.{LexFault}
use Rattle.ams_lexer.specs.declared.fault.LexFault.TheVariants as lexing
use Rattle.parse_steps.specs.declared.fault.ParseFault.{ParseFault}
use Rattle.parse_steps.specs.declared.fault.ParseFault.TheVariants as parsing
use Rattle.flat_design.specs.declared.objects.Instance.{Instance}
use Rattle.flat_design.specs.declared.objects.Objects.{Objects}
use Rattle.flat_design.specs.Limits.{unknown_limit, frame_limit, signal_limit, process_limit, threshold_limit, instance_limit}
use Rattle.elab_meaning.specs.declared.fault.Cause.{Cause}
use Rattle.elab_meaning.specs.declared.fault.Cause.TheVariants as causes
use Rattle.elab_meaning.specs.declared.fault.Fault.{Fault}
use Rattle.elab_meaning.specs.Notes.{code_of, text_of}
use Rattle.unit_meaning.specs.declared.site.Limit.{Limit}
use Rattle.unit_meaning.specs.declared.site.Limit.TheVariants as limits
use Rattle.unit_meaning.specs.declared.site.Refusal.{Refusal}
use Rattle.unit_meaning.specs.declared.site.Refusal.TheVariants as refusals
use Rattle.trace_text.specs.Trace.{line_of}

-- `error`, the number of the message, and what stands behind it
abbrev pub error_note : ℕ → List (List ℕ) → List ℕ
error_note code fields = line_of (codes "error") (decimal code ∷ fields)

-- line and column
abbrev pub place_fields : Place → List (List ℕ)
place_fields place = decimal place.line ∷ decimal place.column ∷ []

abbrev pub place_note : ℕ → Place → List ℕ
place_note code place = error_note code (place_fields place)

-- ---- a text that has no tokens; want of memory has no note

abbrev pub lex_note : LexFault → List ℕ
lex_note (lexing.BadCharacter place) = place_note bad_character place
lex_note (lexing.BadLiteral place) = place_note bad_literal place
lex_note (lexing.UnclosedString place) = place_note unclosed_string place
lex_note (lexing.NotAscii place) = place_note not_ascii place
lex_note lexing.Memory = []

-- ---- tokens that are no design file

-- the place of a token, or the text's end behind the last one
abbrev pub token_place : Option Token → Place → Place
token_place (Some token) end = token.place
token_place None end = end

abbrev pub token_note : ℕ → Tokens → ℕ → List ℕ
token_note code tokens number =
    error_note code (place_fields (token_place (slice_get tokens.list.items number) tokens.end) ++ decimal number ∷ [])

abbrev pub parse_note : Tokens → ParseFault → List ℕ
parse_note tokens (parsing.Syntax number) = token_note syntax tokens number
parse_note tokens (parsing.TooDeep number) = token_note too_deep tokens number
parse_note tokens parsing.Memory = []

-- ---- a file that breaks a rule of types or natures

-- the name that a broken rule is told with
abbrev pub name_fields : List (List ℕ) → Cause → List (List ℕ)
name_fields texts (causes.Unknown name) = text_of texts name ∷ []
name_fields texts (causes.Duplicate name) = text_of texts name ∷ []
name_fields texts causes.WrongType = []
name_fields texts causes.NotStatic = []
name_fields texts causes.NatureMismatch = []
name_fields texts causes.UnequalBranches = []

abbrev pub fault_note : List (List ℕ) → Fault → List ℕ
fault_note texts fault = error_note (code_of fault.cause) (place_fields fault.place ++ name_fields texts fault.cause)

-- ---- a top that has no flat design

-- what there may be no more of
abbrev pub limit_name : Limit → List ℕ
limit_name limits.Unknowns = codes "unknowns"
limit_name limits.Frame = codes "frame"
limit_name limits.Signals = codes "signals"
limit_name limits.Processes = codes "processes"
limit_name limits.Thresholds = codes "thresholds"
limit_name limits.Instances = codes "instances"

abbrev pub most_of : Limit → ℕ
most_of limits.Unknowns = unknown_limit
most_of limits.Frame = frame_limit
most_of limits.Signals = signal_limit
most_of limits.Processes = process_limit
most_of limits.Thresholds = threshold_limit
most_of limits.Instances = instance_limit

-- a name or a path
abbrev pub path_note : ℕ → List ℕ → List ℕ
path_note code path = error_note code (path ∷ [])

abbrev pub refusal_note : List (List ℕ) → Refusal → List ℕ
refusal_note texts (refusals.Broken fault) = fault_note texts fault
refusal_note texts (refusals.NoTop name) = path_note no_top name
refusal_note texts (refusals.PortMismatch path) = path_note port_mismatch path
refusal_note texts (refusals.MultipleDrivers path) = path_note multiple_drivers path
refusal_note texts (refusals.Recursive path) = path_note recursive path
refusal_note texts (refusals.TooMany limit) = error_note too_many (limit_name limit ∷ decimal (most_of limit) ∷ [])

-- ---- an instance that hasn't as many equations as unknowns

abbrev pub count_note : Option Instance → List ℕ
count_note (Some i) = error_note unsolvable (i.path ∷ decimal i.equations ∷ decimal i.unknowns ∷ [])
count_note None = []

-- of the instance of this number
abbrev pub unsolvable_note : Objects → ℕ → List ℕ
unsolvable_note objects number = count_note (slice_get objects.instances number)
