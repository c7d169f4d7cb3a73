-- What a sink holds behind what it held, line by line.
use Rattle.std.specs.Prelude.{ℕ, ◌≡◌, ◌≤◌, List, ◌++◌, Option, Result, Err, OnOk, length, take}
use Rattle.port_base.specs.Faults.{Rose}
use Rattle.port_base.specs.Told.{with_more}
use Rattle.port_base.specs.Lines.{text_of_lines, GainsLines, GainsFront}
use Rattle.trace_sink.specs.declared.TraceFault.{TraceFault}
use Rattle.trace_sink.specs.declared.TraceFault.TheVariants.{WriteFault, Memory}

-- A call that writes these lines: all of them, or whole lines until memory ran out, or a front of their text until
-- the sink failed.
pub record Puts {T : Type 0} (result : Result T TraceFault) (lines : List (List ℕ)) (before now : Option (List ℕ)) (faults faults_now : ℕ) : Type 0 where
  pub ok : OnOk result (now ≡ with_more before (text_of_lines lines))
  pub memory : result ≡ Err Memory → GainsLines before now lines
  pub fault : result ≡ Err WriteFault → Rose faults faults_now
  pub front : result ≡ Err WriteFault → GainsFront before now (text_of_lines lines)
  pub later : faults ≤ faults_now

-- The same of one line.
pub record PutsLine {T : Type 0} (result : Result T TraceFault) (line : List ℕ) (before now : Option (List ℕ)) (faults faults_now : ℕ) : Type 0 where
  pub ok : OnOk result (now ≡ with_more before line)
  pub memory : result ≡ Err Memory → now ≡ before
  pub fault : result ≡ Err WriteFault → Rose faults faults_now
  pub front : result ≡ Err WriteFault → (n : ℕ) × (n ≤ length line) × (now ≡ with_more before (take n line))
  pub later : faults ≤ faults_now

-- of these lines the rest is still to be written
pub record Written (before now : Option (List ℕ)) (lines rest : List (List ℕ)) : Type 0 where
  pub done : List (List ℕ)
  pub split : done ++ rest ≡ lines
  pub held : now ≡ with_more before (text_of_lines done)
