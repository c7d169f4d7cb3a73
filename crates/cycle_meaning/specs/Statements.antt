-- A statement of a process (IEEE 1076, clause 10; break statement: IEEE 1076.1). Expressions are evaluated in the order in
-- which they are written, and the first fault is the process's refusal.
use Rattle.std.specs.Prelude.{ℕ, ◌-◌, Bool, true, false, not, ◌&&◌, ◌||◌, ℤ, pos, negsuc, int_lt, if◌then◌else◌, List, [], ◌∷◌, ◌++◌, Option, Some, None, Result, Ok, Err}
use Rattle.std.specs.List.{slice_get, slice_set, list_any}
use Rattle.message_codes.specs.Codes.{range, failure, double_break}
use Rattle.fix_core.specs.Passes.{◌>>=◌}
use Rattle.ams_value.specs.declared.val.Val.{Val}
use Rattle.ams_value.specs.declared.val.Val.TheVariants as val
use Rattle.ams_value.specs.Values.{equals, is_true, units_of, ticks_of}
use Rattle.flat_expr.specs.declared.expr.FlatExpr.{FlatExpr}
use Rattle.flat_expr.specs.declared.expr.Direction.{Direction}
use Rattle.flat_expr.specs.declared.expr.Direction.TheVariants.{To, Downto}
use Rattle.flat_expr.specs.declared.subtype.Constraint.{Constraint}
use Rattle.flat_expr.specs.declared.subtype.Constraint.TheVariants.{Whole}
use Rattle.flat_expr.specs.Subtype.{lies_in}
use Rattle.flat_expr.specs.declared.statement.Branch.{Branch, out-Branch}
use Rattle.flat_expr.specs.declared.statement.Alternative.{Alternative, out-Alternative}
use Rattle.flat_expr.specs.declared.statement.BreakElement.{BreakElement}
use Rattle.flat_expr.specs.declared.statement.WaveElement.{WaveElement}
use Rattle.flat_expr.specs.declared.statement.DelayMechanism.{DelayMechanism}
use Rattle.flat_expr.specs.declared.statement.DelayMechanism.TheVariants as mechanism
use Rattle.flat_expr.specs.declared.statement.Severity.{Severity}
use Rattle.flat_expr.specs.declared.statement.Severity.TheVariants as severity
use Rattle.flat_expr.specs.declared.statement.Statement.{Statement}
use Rattle.flat_expr.specs.declared.statement.Statement.TheOpen.{Statement-F}
use Rattle.flat_design.specs.declared.objects.Signal.{Signal}
use Rattle.step_data.specs.declared.trans.Trans.{Trans}
use Rattle.waveform.specs.declared.trans.DelayKind.{DelayKind}
use Rattle.waveform.specs.declared.trans.DelayKind.TheVariants.{Transport, Inertial}
use Rattle.waveform.specs.Projected.{projected}
use Rattle.step_data.specs.declared.breaks.Element.{Element}
use Rattle.step_data.specs.Selectors.{has_selector}
use Rattle.step_data.specs.declared.event.Event.TheVariants as event
use Rattle.step_data.specs.declared.outcome.Refusal.{Refusal}
use Rattle.cycle_meaning.specs.Task.{Task, again, first_turn, Layer, statements, behind_loop, at_next_turn}
use Rattle.cycle_meaning.specs.World.{Context, Local, refusal, refused_where, evaluated, holds, time_after, pending_of, with_pending, with_event}

-- what a statement leads to: the process goes on; it waits, at a numbered wait and until a time where one is given; or a refusal, after these events
pub data Step : Type 0 where
  goes_on : List Task → Local → Step
  waits : ℕ → Option ℕ → List Task → Local → Step
  refuses : Local → Refusal → Step

abbrev pub or_refuses : {A : Type 0} → Local → (A → Step) → Result A Refusal → Step
or_refuses l go (Ok a) = go a
or_refuses l go (Err r) = refuses l r

-- ---- signal assignment

abbrev pub constraint_of : Option Signal → Constraint
constraint_of (Some s) = s.constraint
constraint_of None = Whole

-- the delay of an element, 0 ps where none is written
abbrev pub delay_of : Context → Local → Option FlatExpr → Result Val Refusal
delay_of here l None = Ok (val.Time (pos 0))
delay_of here l (Some e) = evaluated here l e

-- a delay is refused where it is negative, where it isn't above the one before, or, at the first element, where it is below the rejection limit
abbrev pub bad_delay : Option ℤ → Option ℤ → ℤ → Bool
bad_delay limit None d = int_lt d (pos 0) || below_limit limit d
  where
    below_limit : Option ℤ → ℤ → Bool
    below_limit None d = false
    below_limit (Some r) d = int_lt d r
bad_delay limit (Some before) d = int_lt d (pos 0) || not (int_lt before d)

-- the transactions of a waveform, and the delay of its first element. At each element the value and the delay are
-- evaluated, and then tested: the value's subtype, the delay, the time
unfoldable pub transactions : Context → Local → (Val → Bool) → Option ℤ → Option ℤ → List WaveElement → Result (List Trans) Refusal
transactions here l fits limit before [] = Ok []
transactions here l fits limit before (e ∷ more) = do
  v ← evaluated here l e.value
  d ← delay_of here l e.delay
  tested ← refused_where (not (fits v)) (refusal here range) v
  delay ← refused_where (bad_delay limit before (ticks_of d)) (refusal here range) (ticks_of d)
  at ← time_after here d
  later ← transactions here l fits limit (Some delay) more
  Ok (record { at = at; value = tested } ∷ later)

-- the rejection limit that is written; a negative one is refused
abbrev pub limit_of : Context → Local → DelayMechanism → Result (Option ℤ) Refusal
limit_of here l mechanism.Transport = Ok None
limit_of here l (mechanism.Inertial None) = Ok None
limit_of here l (mechanism.Inertial (Some e)) = do
  r ← evaluated here l e
  limit ← refused_where (int_lt (ticks_of r) (pos 0)) (refusal here range) (ticks_of r)
  Ok (Some limit)

abbrev pub delay_kind_of : DelayMechanism → DelayKind
delay_kind_of mechanism.Transport = Transport
delay_kind_of (mechanism.Inertial limit) = Inertial

abbrev pub magnitude : ℤ → ℕ
magnitude (pos n) = n
magnitude (negsuc n) = 0

-- without a written limit it is the first element's delay
abbrev pub rejection : ℕ → Option ℤ → List Trans → ℕ
rejection t (Some r) new = magnitude r
rejection t None [] = 0
rejection t None (first ∷ more) = first.at - t

-- the projected waveform with the new transactions
abbrev pub assigned : Context → ℕ → DelayMechanism → Option ℤ → List Trans → Local → Local
assigned here i m limit new l =
    record l { world = with_pending here.objects i (projected (delay_kind_of m) (rejection here.t limit new) (pending_of here.objects l.world i) new) l.world }

abbrev pub signal_assignment : Context → Local → ℕ → Constraint → DelayMechanism → List WaveElement → Result Local Refusal
signal_assignment here l i constraint m wave = do
  limit ← limit_of here l m
  new ← transactions here l (λ v. lies_in constraint v && lies_in (constraint_of (slice_get here.objects.signals i)) v) limit None wave
  Ok (assigned here i m limit new l)

-- ---- variables, if, case and loops

abbrev pub variable_assignment : Context → Local → ℕ → Constraint → FlatExpr → Result Local Refusal
variable_assignment here l i constraint e = do
  v ← evaluated here l e
  tested ← refused_where (not (lies_in constraint v)) (refusal here range) v
  Ok (record l { variables = slice_set l.variables i tested })

abbrev pub body_if : Bool → List Statement → Result (List Statement) Refusal → Result (List Statement) Refusal
body_if true body others = Ok body
body_if false body others = others

-- the statements of the first branch whose condition is TRUE, else those after `else`
unfoldable pub branch_taken : Context → Local → List Branch → List Statement → Result (List Statement) Refusal
branch_taken here l [] last = Ok last
branch_taken here l (b ∷ more) last =
    evaluated here l (out-Branch b).condition >>= (λ v. body_if (is_true v) (out-Branch b).body (branch_taken here l more last))

abbrev pub first_body : (Alternative → Bool) → List Alternative → Option (List Statement)
first_body test [] = None
first_body test (a ∷ more) = if test a then Some (out-Alternative a).body else first_body test more

abbrev pub either : Option (List Statement) → Option (List Statement) → List Statement
either (Some body) others = body
either None (Some body) = body
either None None = []

-- the statements of the alternative that names the value, else those of `others`
abbrev pub alternative_taken : List Alternative → Val → List Statement
alternative_taken alternatives v =
    either (first_body (λ (a : Alternative). list_any (equals v) (out-Alternative a).choices) alternatives) (first_body (λ (a : Alternative). (out-Alternative a).others) alternatives)

abbrev pub integer_of : Val → ℤ
integer_of (val.Int i) = i
integer_of _ = pos 0

-- a range from left to right has no value where left is past right
abbrev pub is_empty : Direction → ℤ → ℤ → Bool
is_empty To left right = int_lt right left
is_empty Downto left right = int_lt left right

abbrev pub for_loop : Context → Local → ℕ → FlatExpr → Direction → FlatExpr → List Statement → Result (List Task) Refusal
for_loop here l p left direction right body = do
  a ← evaluated here l left
  b ← evaluated here l right
  Ok (if is_empty direction (integer_of a) (integer_of b) then [] else first_turn p direction (integer_of a) (integer_of b) body ∷ [])

-- ---- reports and breaks

abbrev pub number_of_severity : Severity → ℕ
number_of_severity severity.Note = 0
number_of_severity severity.Warning = 1
number_of_severity severity.Error = 2
number_of_severity severity.Failure = 3

abbrev pub with_report : Context → ℕ → List ℕ → Local → Local
with_report here s text l = record l { world = with_event (event.Report here.t here.n s text) l.world }

-- a report of severity FAILURE is given, and then refuses the process
abbrev pub reported : Context → Severity → List ℕ → List Task → Local → Step
reported here severity.Failure text rest l = refuses (with_report here (number_of_severity severity.Failure) text l) (refusal here failure)
reported here s text rest l = goes_on rest (with_report here (number_of_severity s) text l)

abbrev pub asserted : Bool → Step → List Task → Local → Step
asserted true report rest l = goes_on rest l
asserted false report rest l = report

abbrev pub executed_element : BreakElement → Val → Element
executed_element e v = record { selector = e.selector; quantity = e.quantity; value = units_of v }

-- the executed elements, one after the other: the value, and then the refusal of a second one with the selector in this cycle
unfoldable pub elements_of : Context → Local → List Element → List BreakElement → Result (List Element) Refusal
elements_of here l earlier [] = Ok []
elements_of here l earlier (e ∷ more) = do
  v ← evaluated here l e.value
  made ← refused_where (has_selector e.selector earlier) (record { code = double_break; detail = Some e.selector }) (executed_element e v)
  later ← elements_of here l (earlier ++ made ∷ []) more
  Ok (made ∷ later)

abbrev pub with_elements : Context → List Element → Local → Local
with_elements here made l =
    record l { world = with_event (event.Broke here.t here.n made) (record l.world { elements = l.world.elements ++ made; broke = true }) }

abbrev pub break_by : Context → Local → List BreakElement → Bool → Result Local Refusal
break_by here l elements false = Ok l
break_by here l elements true = do
  made ← elements_of here l l.world.elements elements
  Ok (with_elements here made l)

-- ---- wait

abbrev pub timeout_of : Context → Local → Option FlatExpr → Result (Option ℕ) Refusal
timeout_of here l None = Ok None
timeout_of here l (Some e) = do
  d ← evaluated here l e
  at ← time_after here d
  Ok (Some at)

-- ---- the statements by cases; `rest` is what is left behind the statement

abbrev pub goes : List Task → Local → Step
goes rest l = goes_on rest l

abbrev pub executed : Context → Local → List Task → Layer → Step
executed here l rest (Statement-F.SignalAssignment i constraint m wave) = or_refuses l (goes rest) (signal_assignment here l i constraint m wave)
executed here l rest (Statement-F.VariableAssignment i constraint e) = or_refuses l (goes rest) (variable_assignment here l i constraint e)
executed here l rest (Statement-F.If branches last) =
    or_refuses l (λ (body : List Statement). goes_on (statements body ++ rest) l) (branch_taken here l branches last)
executed here l rest (Statement-F.Case e alternatives) =
    or_refuses l (λ (v : Val). goes_on (statements (alternative_taken alternatives v) ++ rest) l) (evaluated here l e)
executed here l rest (Statement-F.Loop condition body) = goes_on (again condition body ∷ rest) l
executed here l rest (Statement-F.For p left direction right body) =
    or_refuses l (λ (turn : List Task). goes_on (turn ++ rest) l) (for_loop here l p left direction right body)
executed here l rest (Statement-F.Exit condition) =
    or_refuses l (λ (b : Bool). goes_on (if b then behind_loop rest else rest) l) (holds here l condition)
executed here l rest (Statement-F.Next condition) =
    or_refuses l (λ (b : Bool). goes_on (if b then at_next_turn rest else rest) l) (holds here l condition)
executed here l rest (Statement-F.Wait number on condition timeout) =
    or_refuses l (λ (at : Option ℕ). waits number at rest l) (timeout_of here l timeout)
executed here l rest (Statement-F.Assert e text s) =
    or_refuses l (λ (v : Val). asserted (is_true v) (reported here s text rest l) rest l) (evaluated here l e)
executed here l rest (Statement-F.Report text s) = reported here s text rest l
executed here l rest (Statement-F.Break elements condition) =
    or_refuses l (goes rest) (holds here l condition >>= break_by here l elements)
executed here l rest Statement-F.Null = goes_on rest l
