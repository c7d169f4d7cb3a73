-- The order of an agenda's times.
use Rattle.std.specs.Prelude.{◌≡◌, ℕ}
use Rattle.std.specs.BTreeSet.{contains}
use Rattle.agenda.specs.Times.{pair_cmp, stands}
use Rattle.agenda.specs.declared.Agenda.TheInside.{Inside}

-- the order has exactly the times of the sources
abbrev pub IsInOrder : Inside → Type 0
IsInOrder a = (t s : ℕ) → contains pair_cmp a.order (t, s) ≡ stands a.times.items t s
