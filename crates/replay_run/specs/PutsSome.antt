-- A call that writes the first of some lines.
use Rattle.std.specs.Prelude.{ℕ, ◌≤◌, List, Option, Result, OnOk, OnErr}
use Rattle.trace_sink.specs.Puts.{Puts, Written}
use Rattle.trace_sink.specs.declared.TraceFault.{TraceFault}

-- Behind it the rest is still to be written. Where it fails it leaves what a call leaves that fails to write them all.
pub record PutsSome {T : Type 0} (result : Result T TraceFault) (lines rest : List (List ℕ)) (before now : Option (List ℕ)) (faults faults_now : ℕ) : Type 0 where
  pub ok : OnOk result (Written before now lines rest)
  pub err : OnErr result (Puts result lines before now faults faults_now)
  pub later : faults ≤ faults_now
