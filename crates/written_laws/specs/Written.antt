-- Trees whose lists have a first member where the grammar asks for one.
use Rattle.std.specs.Prelude.{ℕ, ◌<◌, nat_lt, Bool, true, ◌&&◌, IsTrue, List, [], ◌∷◌, length, Option, Some, None}
use Rattle.std.specs.List.{All}
use Rattle.ams_token.specs.declared.token.Token.{Token}
use Rattle.ams_tree.specs.Answer.{SpellsWithin}
use Rattle.ams_tree.specs.Designs.{design_file}
use Rattle.ams_tree.specs.declared.concurrent.Concurrent.{Concurrent}
use Rattle.ams_tree.specs.declared.concurrent.ConcurrentStatement.{ConcurrentStatement}
use Rattle.ams_tree.specs.declared.concurrent.ConcurrentStatement.TheVariants as conc
use Rattle.ams_tree.specs.declared.concurrent.ConditionalWaveform.{ConditionalWaveform}
use Rattle.ams_tree.specs.declared.concurrent.SimultaneousAlternative.{SimultaneousAlternative}
use Rattle.ams_tree.specs.declared.declaration.Declaration.{Declaration}
use Rattle.ams_tree.specs.declared.declaration.Declaration.TheVariants as declare
use Rattle.ams_tree.specs.declared.design.DesignFile.{DesignFile}
use Rattle.ams_tree.specs.declared.design.DesignUnit.{DesignUnit}
use Rattle.ams_tree.specs.declared.design.DesignUnit.TheVariants as unit
use Rattle.ams_tree.specs.declared.sequential.Seq.{Seq}
use Rattle.ams_tree.specs.declared.sequential.Seq.TheOpen.{Branch-F, Alternative-F, Seq-F}
use Rattle.ams_tree.specs.declared.sequential.Seq.TheFolds.{fold-Seq}

-- ---- sequential statements: a waveform has an element, a case an alternative, an alternative a choice

abbrev pub has_some : {A : Type 0} → List A → Bool
has_some all = nat_lt 0 (length all)

abbrev pub all_true : List Bool → Bool
all_true [] = true
all_true (b ∷ more) = b && all_true more

abbrev pub all_true_in : Option (List Bool) → Bool
all_true_in None = true
all_true_in (Some all) = all_true all

abbrev pub written_step : Seq-F Bool Bool Bool → Bool
written_step (Seq-F.Signal x delay wave) = has_some wave
written_step (Seq-F.If place all last) = all_true all && all_true_in last
written_step (Seq-F.Case place x all) = has_some all && all_true all
written_step (Seq-F.Loop place how all) = all_true all
written_step _ = true

abbrev pub alternative_step : Alternative-F Bool Bool Bool → Bool
alternative_step a = has_some a.choices && all_true a.body

abbrev pub branch_step : Branch-F Bool Bool Bool → Bool
branch_step b = all_true b.body

abbrev pub is_written : Seq → Bool
is_written = fold-Seq Bool Bool Bool written_step alternative_step branch_step

abbrev pub AreWritten : List Seq → Type 0
AreWritten all = All (λ (s : Seq). IsTrue (is_written s)) all

-- ---- declarations: an enumeration type has a literal

abbrev pub HasLiterals : Declaration → Type 0
HasLiterals (declare.Enumeration place name literals) = 0 < length literals
HasLiterals _ = Unit {0}

-- ---- concurrent and simultaneous statements

abbrev pub IsWritten : ConcurrentStatement → Type 0
IsWritten (conc.Process p) = AreWritten p.body
IsWritten (conc.Assign x delay all last when) = All (λ (w : ConditionalWaveform). 0 < length w.elements) all × (0 < length last)
IsWritten (conc.Case place x all) = (0 < length all) × All (λ (a : SimultaneousAlternative). 0 < length a.choices) all
IsWritten _ = Unit {0}

-- ---- units

abbrev pub UnitIsWritten : DesignUnit → Type 0
UnitIsWritten (unit.Architecture a) = All HasLiterals a.declarations × All (λ (c : Concurrent). IsWritten c.statement) a.statements
UnitIsWritten _ = Unit {0}

abbrev pub FileIsWritten : DesignFile → Type 0
FileIsWritten file = All UnitIsWritten file.units

-- a tree that tokens spell has these members
abbrev pub TextsWriteTrees : Type 0
TextsWriteTrees = (levels operators : ℕ) (file : DesignFile) (ts : List Token) → SpellsWithin design_file levels operators file ts → FileIsWritten file
