-- The numbers of the messages by which a text, a design or a run is refused.
use Rattle.std.specs.Prelude.{ℕ}

-- ---- faults of numbers

-- a number is out of range
abbrev pub overflow : ℕ
overflow = 1

-- a number is divided by 0
abbrev pub divide_by_zero : ℕ
divide_by_zero = 2

-- a function is not defined at its argument
abbrev pub domain_fault : ℕ
domain_fault = 3

-- ---- texts

-- a byte begins no token
abbrev pub bad_character : ℕ
bad_character = 10

-- a literal is malformed
abbrev pub bad_literal : ℕ
bad_literal = 11

-- a string has no end on its line
abbrev pub unclosed_string : ℕ
unclosed_string = 12

-- a byte of 128 or more
abbrev pub not_ascii : ℕ
not_ascii = 13

-- a token with which no text of the grammar goes on
abbrev pub syntax : ℕ
syntax = 20

-- a token past a limit of nesting or of operators
abbrev pub too_deep : ℕ
too_deep = 21

-- ---- values

-- a value is outside what is asked of it
abbrev pub range : ℕ
range = 30

-- a result is outside its type
abbrev pub value_overflow : ℕ
value_overflow = 31

-- an operator divides by 0
abbrev pub value_divide_by_zero : ℕ
value_divide_by_zero = 32

-- ---- designs

-- a name has no declaration
abbrev pub unknown_name : ℕ
unknown_name = 40

-- a rule of types and ranges is broken
abbrev pub wrong_type : ℕ
wrong_type = 41

-- an expression is not static
abbrev pub not_static : ℕ
not_static = 42

-- a name is declared twice
abbrev pub duplicate : ℕ
duplicate = 43

-- two terminals have different natures
abbrev pub nature_mismatch : ℕ
nature_mismatch = 44

-- an entity or architecture is missing
abbrev pub no_top : ℕ
no_top = 45

-- an association does not fit
abbrev pub port_mismatch : ℕ
port_mismatch = 46

-- two processes assign one signal
abbrev pub multiple_drivers : ℕ
multiple_drivers = 47

-- an entity contains itself
abbrev pub recursive : ℕ
recursive = 48

-- a design has more of something than its limit
abbrev pub too_many : ℕ
too_many = 49

-- the numbers of equations and unknowns differ
abbrev pub unsolvable : ℕ
unsolvable = 50

-- the branches of a simultaneous statement have different numbers of equations
abbrev pub unequal_branches : ℕ
unequal_branches = 51

-- ---- solver

-- a column has no pivot
abbrev pub singular : ℕ
singular = 60

-- elimination or correction overflows
abbrev pub solver_overflow : ℕ
solver_overflow = 61

-- Newton's method does not converge
abbrev pub no_convergence : ℕ
no_convergence = 62

-- the error of a step is above its tolerance
abbrev pub error_too_large : ℕ
error_too_large = 63

-- a step would have to be below the least one
abbrev pub step_too_small : ℕ
step_too_small = 64

-- ---- run

-- a time is past the greatest one
abbrev pub time_overflow : ℕ
time_overflow = 70

-- a process executes too many statements at once
abbrev pub process_budget : ℕ
process_budget = 71

-- too many deltas at one time
abbrev pub delta_limit : ℕ
delta_limit = 72

-- a report or assertion of severity failure
abbrev pub failure : ℕ
failure = 73

-- two break elements for one selector in one cycle
abbrev pub double_break : ℕ
double_break = 74

-- too many cycles
abbrev pub cycle_limit : ℕ
cycle_limit = 75

-- too many attempts
abbrev pub attempt_limit : ℕ
attempt_limit = 76
