-- What one call of a source or of a sink does.
use Rattle.std.specs.Prelude.{ℕ, ◌≤◌, ◌<◌, ◌≡◌, List, [], take, Option, IfSome}
use Rattle.port_base.specs.Faults.{Rose}
use Rattle.port_base.specs.Told.{with_front, with_more}
use Rattle.port_io.specs.declared.port.Got.{Got}
use Rattle.port_io.specs.declared.port.Got.TheVariants.{Bytes, End, Failed}
use Rattle.port_io.specs.declared.port.Put.{Put}
use Rattle.port_io.specs.declared.port.Put.TheVariants as put

-- n bytes come, at least one and at most as many as there are places
abbrev pub GotWithin : Got → ℕ → Type 0
GotWithin (Bytes n) places = (0 < n) × (n ≤ places)
GotWithin End places = Unit {0}
GotWithin Failed places = Unit {0}

-- the first bytes left come and aren't left any more; at the end none is left; a fault leaves all
abbrev pub Reads : Option (List ℕ) → Option (List ℕ) → Got → List ℕ → Type 0
Reads old new (Bytes n) buf = old ≡ with_front (take n buf) new
Reads old new End buf = (new ≡ old) × IfSome old (λ left. left ≡ [])
Reads old new Failed buf = new ≡ old

-- a fault is answered only where the count of faults rose
abbrev pub ReadFaults : Got → ℕ → ℕ → Type 0
ReadFaults (Bytes n) before now = before ≤ now
ReadFaults End before now = before ≤ now
ReadFaults Failed before now = (before ≤ now) × Rose before now

-- n bytes are taken, at least one and at most the whole piece
abbrev pub TookWithin : Put → ℕ → Type 0
TookWithin (put.Took n) len = (0 < n) × (n ≤ len)
TookWithin put.Failed len = Unit {0}

-- the first bytes of the piece stand behind what was held; a fault leaves it
abbrev pub Writes : Option (List ℕ) → Option (List ℕ) → Put → List ℕ → Type 0
Writes old new (put.Took n) piece = new ≡ with_more old (take n piece)
Writes old new put.Failed piece = new ≡ old

abbrev pub WriteFaults : Put → ℕ → ℕ → Type 0
WriteFaults (put.Took n) before now = before ≤ now
WriteFaults put.Failed before now = (before ≤ now) × Rose before now

-- some of the first bytes that were left aren't left any more
abbrev pub LosesFront : Option (List ℕ) → Option (List ℕ) → Type 0
LosesFront old new = (front : List ℕ) × (old ≡ with_front front new)
