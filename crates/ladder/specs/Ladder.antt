-- The generated design: a ladder of resistors and capacitors behind a source that steps between 0 and 5 V.
use Rattle.std.specs.Prelude.{ℕ, ◌+◌, zero, suc, List, [], ◌∷◌, ◌++◌, codes, decimal}

abbrev pub Text : Type 0
Text = List ℕ

-- each text with the number behind it
abbrev pub written : List (Text × ℕ) → Text
written [] = []
written (p ∷ parts) = p.0 ++ decimal p.1 ++ written parts

-- the clock, the level and the source
abbrev pub beginning : Text
beginning =
    codes "entity ladder is end;\narchitecture made of ladder is\nsignal clk : bit;\nsignal lev : real := 0.0;\nterminal n0 : electrical;\nquantity v0 across j0 through n0;\n"

-- the node and the branches of the section behind j sections
abbrev pub declaration : ℕ → Text
declaration j = written (
    (codes "terminal n", j + 1) ∷ (codes " : electrical;\nquantity vr", j + 1) ∷ (codes " across ir", j + 1) ∷ (codes " through n", j) ∷ (codes " to n", j + 1)
    ∷ (codes ";\nquantity vc", j + 1) ∷ (codes " across ic", j + 1) ∷ (codes " through n", j + 1) ∷ []) ++ codes ";\n"

abbrev pub middle : Text
middle = codes "begin\nv0 == lev;\n"

-- the equations of that section: 1000 ohms and 1 nF
abbrev pub equations : ℕ → Text
equations j = written (
    (codes "vr", j + 1) ∷ (codes " == 1.0e3 * ir", j + 1) ∷ (codes ";\nic", j + 1) ∷ (codes " == 1.0e-9 * vc", j + 1) ∷ []) ++ codes "'dot;\n"

-- the process that steps the level
abbrev pub ending : Text
ending =
    codes "process begin\nwait for 500 ns; clk <= not clk; wait on clk;\nif clk = '1' then lev <= 5.0; else lev <= 0.0; end if;\nend process;\nbreak on lev;\nend;\n"

-- the texts of so many sections
abbrev pub sections : (ℕ → Text) → ℕ → Text
sections section zero = []
sections section (suc j) = sections section j ++ section j

unfoldable pub ladder_text : ℕ → Text
ladder_text size = beginning ++ sections declaration size ++ middle ++ sections equations size ++ ending
