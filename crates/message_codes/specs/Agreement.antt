-- The constants of the code are the numbers of `Codes`.
use Rattle.std.specs.Prelude.{◌≡◌}
use Rattle.message_codes.specs.Codes.{overflow, divide_by_zero, domain_fault, bad_character, bad_literal, unclosed_string, not_ascii, syntax, too_deep, range, value_overflow, value_divide_by_zero, unknown_name, wrong_type, not_static, duplicate, nature_mismatch, no_top, port_mismatch, multiple_drivers, recursive, too_many, unsolvable, unequal_branches, singular, solver_overflow, no_convergence, error_too_large, step_too_small, time_overflow, process_budget, delta_limit, failure, double_break, cycle_limit, attempt_limit}
use Rattle.message_codes.specs.declared.TheConstants.{OVERFLOW, DIVIDE_BY_ZERO, DOMAIN_FAULT, BAD_CHARACTER, BAD_LITERAL, UNCLOSED_STRING, NOT_ASCII, SYNTAX, TOO_DEEP, RANGE, VALUE_OVERFLOW, VALUE_DIVIDE_BY_ZERO, UNKNOWN_NAME, WRONG_TYPE, NOT_STATIC, DUPLICATE, NATURE_MISMATCH, NO_TOP, PORT_MISMATCH, MULTIPLE_DRIVERS, RECURSIVE, TOO_MANY, UNSOLVABLE, UNEQUAL_BRANCHES, SINGULAR, SOLVER_OVERFLOW, NO_CONVERGENCE, ERROR_TOO_LARGE, STEP_TOO_SMALL, TIME_OVERFLOW, PROCESS_BUDGET, DELTA_LIMIT, FAILURE, DOUBLE_BREAK, CYCLE_LIMIT, ATTEMPT_LIMIT}

pub record ConstantsAgree : Type 0 where
  pub overflow_is : OVERFLOW ≡ overflow
  pub divide_by_zero_is : DIVIDE_BY_ZERO ≡ divide_by_zero
  pub domain_fault_is : DOMAIN_FAULT ≡ domain_fault
  pub bad_character_is : BAD_CHARACTER ≡ bad_character
  pub bad_literal_is : BAD_LITERAL ≡ bad_literal
  pub unclosed_string_is : UNCLOSED_STRING ≡ unclosed_string
  pub not_ascii_is : NOT_ASCII ≡ not_ascii
  pub syntax_is : SYNTAX ≡ syntax
  pub too_deep_is : TOO_DEEP ≡ too_deep
  pub range_is : RANGE ≡ range
  pub value_overflow_is : VALUE_OVERFLOW ≡ value_overflow
  pub value_divide_by_zero_is : VALUE_DIVIDE_BY_ZERO ≡ value_divide_by_zero
  pub unknown_name_is : UNKNOWN_NAME ≡ unknown_name
  pub wrong_type_is : WRONG_TYPE ≡ wrong_type
  pub not_static_is : NOT_STATIC ≡ not_static
  pub duplicate_is : DUPLICATE ≡ duplicate
  pub nature_mismatch_is : NATURE_MISMATCH ≡ nature_mismatch
  pub no_top_is : NO_TOP ≡ no_top
  pub port_mismatch_is : PORT_MISMATCH ≡ port_mismatch
  pub multiple_drivers_is : MULTIPLE_DRIVERS ≡ multiple_drivers
  pub recursive_is : RECURSIVE ≡ recursive
  pub too_many_is : TOO_MANY ≡ too_many
  pub unsolvable_is : UNSOLVABLE ≡ unsolvable
  pub unequal_branches_is : UNEQUAL_BRANCHES ≡ unequal_branches
  pub singular_is : SINGULAR ≡ singular
  pub solver_overflow_is : SOLVER_OVERFLOW ≡ solver_overflow
  pub no_convergence_is : NO_CONVERGENCE ≡ no_convergence
  pub error_too_large_is : ERROR_TOO_LARGE ≡ error_too_large
  pub step_too_small_is : STEP_TOO_SMALL ≡ step_too_small
  pub time_overflow_is : TIME_OVERFLOW ≡ time_overflow
  pub process_budget_is : PROCESS_BUDGET ≡ process_budget
  pub delta_limit_is : DELTA_LIMIT ≡ delta_limit
  pub failure_is : FAILURE ≡ failure
  pub double_break_is : DOUBLE_BREAK ≡ double_break
  pub cycle_limit_is : CYCLE_LIMIT ≡ cycle_limit
  pub attempt_limit_is : ATTEMPT_LIMIT ≡ attempt_limit
