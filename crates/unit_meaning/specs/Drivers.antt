-- What is asked of a flat design as a whole: drivers, the frame, and the solvability count (IEEE 1076.1, 15.1, for single design entities).
use Rattle.std.specs.Prelude.{ℕ, suc, nat_eq, nat_lt, Bool, not, if◌then◌else◌, List, [], ◌∷◌, length, position, Option, Some, None, Result, Ok, Err}
use Rattle.std.specs.List.{list_any, slice_get, range_with_len, find}
use Rattle.std.specs.Str.{bytes_eq}
use Rattle.fix_core.specs.Passes.{and_then, ◌>>=◌}
use Rattle.ams_tree.specs.declared.design.DesignUnit.{DesignUnit}
use Rattle.flat_design.specs.Limits.{frame_limit}
use Rattle.flat_design.specs.Reads.{frame_of}
use Rattle.flat_design.specs.declared.objects.Instance.{Instance}
use Rattle.flat_design.specs.declared.objects.Objects.{Objects}
use Rattle.flat_design.specs.declared.objects.Process.{Process}
use Rattle.flat_design.specs.declared.objects.Signal.{Signal}
use Rattle.unit_meaning.specs.declared.site.Limit.TheVariants as limit
use Rattle.unit_meaning.specs.declared.site.Refusal.{Refusal}
use Rattle.unit_meaning.specs.declared.site.Refusal.TheVariants.{MultipleDrivers, TooMany}
use Rattle.unit_meaning.specs.declared.site.Site.{Site}
use Rattle.unit_meaning.specs.Walk.{walked}

-- the processes that assign a signal
abbrev pub driver_count : List Process → ℕ → ℕ
driver_count [] i = 0
driver_count (p ∷ more) i = if list_any (nat_eq i) p.drivers then suc (driver_count more i) else driver_count more i

abbrev pub signal_path : Option Signal → List ℕ
signal_path (Some s) = s.path
signal_path None = []

-- the first signal that two processes assign
abbrev pub doubly_driven : Objects → Option ℕ
doubly_driven o = find (λ (i : ℕ). nat_lt 1 (driver_count o.processes i)) (range_with_len 0 (length o.signals))

abbrev pub driven : Objects → Option ℕ → Result Objects Refusal
driven o (Some i) = Err (MultipleDrivers (signal_path (slice_get o.signals i)))
driven o None = Ok o

abbrev pub framed : Objects → Result Objects Refusal
framed o = if nat_lt frame_limit (length (frame_of o)) then Err (TooMany limit.Frame) else Ok o

abbrev pub objects_of : Site → Result Objects Refusal
objects_of s = driven s.objects (doubly_driven s.objects)

-- the flat design of a top in the units of a file that keeps the rules, or why there is none
abbrev pub flattened : List (List ℕ) → List DesignUnit → List ℕ → Result Objects Refusal
flattened texts units top = walked texts units top (position (bytes_eq top) texts) >>= objects_of >>= framed

-- ---- count

abbrev pub unequal : Instance → Bool
unequal i = not (nat_eq i.equations i.unknowns)

abbrev pub unsolvable_in : List Instance → Option ℕ
unsolvable_in all = position unequal all

-- the first instance in the order of the walk whose numbers of equations and of unknowns differ
abbrev pub unsolvable : Objects → Option ℕ
unsolvable o = unsolvable_in o.instances

-- the two numbers of an instance
abbrev pub numbers_of : Option Instance → Option (ℕ × ℕ)
numbers_of (Some i) = Some (i.equations, i.unknowns)
numbers_of None = None

abbrev pub numbers_at : Objects → ℕ → Option (ℕ × ℕ)
numbers_at o i = numbers_of (slice_get o.instances i)
