-- Counting the processes that assign each signal, as far as two.
use Rattle.std.specs.Prelude.{ℕ, zero, suc, Bool, true, false, List, [], ◌∷◌}
use Rattle.std.specs.List.{fold}
use Rattle.flat_design.specs.declared.objects.Process.{Process}
use Rattle.driver_check.specs.declared.count.Drivers.{Drivers}
use Rattle.driver_check.specs.declared.count.Drivers.TheVariants.{Zero, One, Several}

-- one more process, where it is the first
abbrev pub first : Drivers → Drivers
first Zero = One
first One = One
first Several = Several

-- one more process, where it isn't the first
abbrev pub second : Drivers → Drivers
second Zero = Zero
second One = Several
second Several = Several

abbrev pub is_several : Drivers → Bool
is_several Several = true
is_several _ = false

-- the counts of the signals, that of one of them changed
abbrev pub changed : (Drivers → Drivers) → List Drivers → ℕ → List Drivers
changed f [] i = []
changed f (c ∷ more) zero = f c ∷ more
changed f (c ∷ more) (suc i) = c ∷ changed f more i

-- the counts with those that a process assigns
abbrev pub with_process : List Drivers → Process → List Drivers
with_process counts p = fold (changed first) (fold (changed second) counts p.drivers) p.drivers
