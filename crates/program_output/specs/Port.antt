-- A source or a sink before a call and behind it.
use Rattle.std.specs.Prelude.{◌≡◌, ℕ, List, [], Option, IfSome}
use Rattle.port_base.specs.Faults.{Rose}
use Rattle.port_base.specs.Told.{with_front, with_more}
use Rattle.port_base.specs.Lines.{GainsFront}

-- what it tells (the bytes that a source has left, or those that a sink holds), and how often it has failed
pub record Port : Type 0 where
  pub before : Option (List ℕ)
  pub now : Option (List ℕ)
  pub faults : ℕ
  pub faults_now : ℕ

abbrev pub port : Option (List ℕ) → Option (List ℕ) → ℕ → ℕ → Port
port before now faults faults_now = record { before = before; now = now; faults = faults; faults_now = faults_now }

-- its count of faults rose
abbrev pub Fails : Port → Type 0
Fails p = Rose p.faults p.faults_now

abbrev pub Stays : Port → Type 0
Stays p = p.now ≡ p.before

-- a sink has gained this text
abbrev pub Gains : Port → List ℕ → Type 0
Gains p text = p.now ≡ with_more p.before text

-- a sink failed, and has gained a front of this text
abbrev pub FailsIn : Port → List ℕ → Type 0
FailsIn p text = Fails p × GainsFront p.before p.now text

-- a source is read to its end, and this is all that it had left
abbrev pub ReadsAll : Port → List ℕ → Type 0
ReadsAll p text = (p.before ≡ with_front text p.now) × IfSome p.now (λ rest. rest ≡ [])
