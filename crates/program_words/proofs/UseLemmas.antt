-- One use of an option that takes one value.
use Rattle.std.proofs.Common.{◌≡◌, ◌&&◌, ◌||◌, Bool, true, false, not, cond, List, [], ◌∷◌, ◌++◌, map, Option, Some, None, refl, sym, ap, ◌∙◌}
use Rattle.std.specs.Prelude.{bytes_eq, find, slice_get, option_and_then}
use Rattle.std.specs.List.{list_any, fold}
use Rattle.std.proofs.lemmas.List.{map-append}
use Rattle.clap.specs.declared.parser.matches.ValueSource.TheVariants.{CommandLine}
use Rattle.clap.specs.Walk.{Row, Rule, has_row, at_row, without, used as used_rows, first_of, arg_by_id, arg_by_long, reading_by, with_default, more_values}
use Rattle.clap.specs.Simple.{filled}
use Rattle.clap.specs.Takes.{use_passes}
use Rattle.word_rules.specs.Words.{Text}
use Rattle.program_words.specs.Command.{given_rule}
use Rattle.word_rules.proofs.ValueLemmas.{bytes_same}

-- an option's name and its value
abbrev pub Use : Type 0
Use = Text × Text

abbrev pub plain_rule : Text → Rule
plain_rule name = filled (given_rule name)

abbrev pub row_of_use : Use → Row
row_of_use u = record { id = u.0; values = u.1 ∷ []; count = None; source = Some CommandLine; reading = reading_by (plain_rule u.0) }

abbrev pub rows_of_uses : List Use → List Row
rows_of_uses uses = map row_of_use uses

abbrev pub is_used : Text → List Use → Bool
is_used name uses = list_any (λ u. bytes_eq u.0 name) uses

-- the value of the first use of an option
abbrev pub found_in : Text → List Use → Option Text
found_in name [] = None
found_in name (u ∷ uses) = cond (bytes_eq u.0 name) (Some u.1) (found_in name uses)

pub has_row_is : (name : Text) (uses : List Use) → has_row name (rows_of_uses uses) ≡ is_used name uses
has_row_is name [] = refl
has_row_is name (u ∷ uses) = ap (λ b. bytes_eq u.0 name || b) (has_row_is name uses)

first_at : (b : Bool) (u : Use) (rest : Option Row) (found : Option Text) → option_and_then (λ (r : Row). slice_get r.values 0) rest ≡ found → option_and_then (λ (r : Row). slice_get r.values 0) (cond b (Some (row_of_use u)) rest) ≡ cond b (Some u.1) found
first_at true u rest found h = refl
first_at false u rest found h = h

pub first_is : (name : Text) (uses : List Use) → first_of name (rows_of_uses uses) ≡ found_in name uses
first_is name [] = refl
first_is name (u ∷ uses) = first_at (bytes_eq u.0 name) u (find (λ r. bytes_eq r.id name) (rows_of_uses uses)) (found_in name uses) (first_is name uses)

row_skips : (b : Bool) (r : Row) (changed rows more : List Row) → b ≡ false → rows ≡ more → cond b changed (r ∷ rows) ≡ r ∷ more
row_skips true r changed rows more h e = absurd (cc)
row_skips false r changed rows more h e = ap (λ l. r ∷ l) e

or_parts : (a b : Bool) → (a || b) ≡ false → (a ≡ false) × (b ≡ false)
or_parts true b h = absurd (cc)
or_parts false b h = (refl, h)

row_added : (name : Text) (change : Row → List Row) (missing rows : List Row) → has_row name rows ≡ false → at_row name change missing rows ≡ rows ++ missing
row_added name change missing [] h = refl
row_added name change missing (r ∷ rows) h =
    let parts = or_parts (bytes_eq r.id name) (has_row name rows) h in
    row_skips (bytes_eq r.id name) r (change r ++ rows) (at_row name change missing rows) (rows ++ missing) parts.0 (row_added name change missing rows parts.1)

nothing_behind : (rows : List Row) → rows ++ [] ≡ rows
nothing_behind [] = refl
nothing_behind (r ∷ rows) = ap (λ l. r ∷ l) (nothing_behind rows)

none_without : (name : Text) (rows : List Row) → has_row name rows ≡ false → without name rows ≡ rows
none_without name rows h = row_added name (λ _. []) [] rows h ∙ nothing_behind rows

rows_with_use : (name value : Text) (rows : List Row) → has_row name rows ≡ false → used_rows (plain_rule name) (value ∷ []) rows ≡ rows ++ row_of_use (name, value) ∷ []
rows_with_use name value rows h =
    ap (λ l. at_row name (more_values CommandLine (value ∷ [])) (row_of_use (name, value) ∷ []) l) (none_without name rows h)
    ∙ row_added name (more_values CommandLine (value ∷ [])) (row_of_use (name, value) ∷ []) rows h

-- the first use of an option comes behind the others
pub use_added : (name value : Text) (uses : List Use) → is_used name uses ≡ false → used_rows (plain_rule name) (value ∷ []) (rows_of_uses uses) ≡ rows_of_uses (uses ++ (name, value) ∷ [])
use_added name value uses h =
    rows_with_use name value (rows_of_uses uses) (has_row_is name uses ∙ h) ∙ sym (map-append row_of_use uses ((name, value) ∷ []))

pub use_passes_first : (name value : Text) (rows : List Row) → has_row name rows ≡ false → use_passes false (plain_rule name) (value ∷ []) rows ≡ true
use_passes_first name value rows h = ap (λ b. (not b || false) && true) h

-- the rule of an option, among those of a list of names
found_rule : (b : Bool) (x name : Text) (p : Option Rule) → bytes_eq x name ≡ b → (b ≡ false → p ≡ Some (plain_rule name)) → cond (b || false) (Some (plain_rule x)) p ≡ Some (plain_rule name)
found_rule true x name p e h = ap (λ n. Some (plain_rule n)) (bytes_same x name e)
found_rule false x name p e h = h refl

rest_of : (b c : Bool) → (b || c) ≡ true → b ≡ false → c ≡ true
rest_of true c h e = absurd (cc)
rest_of false c h e = h

pub rule_by_long : (name : Text) (xs : List Text) → list_any (λ x. bytes_eq x name) xs ≡ true → arg_by_long (map plain_rule xs) name ≡ Some (plain_rule name)
rule_by_long name [] h = absurd (cc)
rule_by_long name (x ∷ xs) h =
    found_rule (bytes_eq x name) x name (arg_by_long (map plain_rule xs) name) refl
    (λ e. rule_by_long name xs (rest_of (bytes_eq x name) (list_any (λ y. bytes_eq y name) xs) h e))

same_or : (b : Bool) (x : Text) (p : Option Rule) → cond b (Some (plain_rule x)) p ≡ cond (b || false) (Some (plain_rule x)) p
same_or true x p = refl
same_or false x p = refl

pub rule_by_id : (name : Text) (xs : List Text) → list_any (λ x. bytes_eq x name) xs ≡ true → arg_by_id (map plain_rule xs) name ≡ Some (plain_rule name)
rule_by_id name [] h = absurd (cc)
rule_by_id name (x ∷ xs) h =
    same_or (bytes_eq x name) x (arg_by_id (map plain_rule xs) name)
    ∙ found_rule (bytes_eq x name) x name (arg_by_id (map plain_rule xs) name) refl
    (λ e. rule_by_id name xs (rest_of (bytes_eq x name) (list_any (λ y. bytes_eq y name) xs) h e))

either_way : (b : Bool) (rows : List Row) → cond b rows rows ≡ rows
either_way true rows = refl
either_way false rows = refl

-- no option has a default
pub no_defaults : (xs : List Text) (rows : List Row) → fold with_default rows (map plain_rule xs) ≡ rows
no_defaults [] rows = refl
no_defaults (x ∷ xs) rows = ap (λ l. fold with_default l (map plain_rule xs)) (either_way (has_row x rows) rows) ∙ no_defaults xs rows
