-- Alternatives, one after the other.
use Rattle.std.proofs.Common.{◌≡◌, ℕ, suc, ◌+◌, Bool, true, false, cond, List, [], ◌∷◌, refl, sym, ap, ◌∙◌, arith}
use Rattle.std.specs.Prelude.{Option, Some, None, option_map, if◌then◌else◌}
use Rattle.std.specs.List.{position, position_from}
use Rattle.std.proofs.lemmas.Iterator.Adapters.{position_from-zero}
use Rattle.flat_expr.specs.declared.statement.Alternative.{Alternative, out-Alternative}
use Rattle.flat_expr.specs.declared.statement.Statement.{Statement}
use Rattle.cycle_meaning.specs.Task.{alternative_body}
use Rattle.cycle_meaning.specs.Statements.{first_body, either}
use Rattle.statement_lists.specs.Alternatives.{names, has_others, else_number, numbered_body, AlternativesAreTaken}

by_next : (t : Bool) (i : ℕ) (here later : Option ℕ) → later ≡ option_map suc here → cond t (Some (i + 1)) later ≡ option_map suc (cond t (Some i) here)
by_next true i here later e = ap Some (omega arith)
by_next false i here later e = e

-- numbers that begin one later
one_later : (test : Alternative → Bool) (alternatives : List Alternative) (i : ℕ) → position_from test (i + 1) alternatives ≡ option_map suc (position_from test i alternatives)
one_later test [] i = refl
one_later test (a ∷ more) i = by_next (test a) i (position_from test (i + 1) more) (position_from test (i + 1 + 1) more) (one_later test more (i + 1))

behind_first : (a : Alternative) (more : List Alternative) (number : Option ℕ) →
    option_map (alternative_body more) number ≡ option_map (alternative_body (a ∷ more)) (option_map suc number)
behind_first a more (Some b) = refl
behind_first a more None = refl

by_test : (a : Alternative) (more : List Alternative) (t : Bool) (found : Option (List Statement)) (number later : Option ℕ) →
    found ≡ option_map (alternative_body more) number → later ≡ option_map suc number →
    (if t then Some (out-Alternative a).body else found) ≡ option_map (alternative_body (a ∷ more)) (cond t (Some 0) later)
by_test a more true found number later same next = refl
by_test a more false found number later same next = same ∙ behind_first a more number ∙ ap (option_map (alternative_body (a ∷ more))) (sym next)

found_from : (test : Alternative → Bool) (alternatives : List Alternative) → first_body test alternatives ≡ option_map (alternative_body alternatives) (position_from test 0 alternatives)
found_from test [] = refl
found_from test (a ∷ more) =
    by_test a more (test a) (first_body test more) (position_from test 0 more) (position_from test 1 more) (found_from test more) (one_later test more 0)

first_found : (test : Alternative → Bool) (alternatives : List Alternative) → first_body test alternatives ≡ option_map (alternative_body alternatives) (position test alternatives)
first_found test alternatives = found_from test alternatives ∙ ap (option_map (alternative_body alternatives)) (sym (position_from-zero test alternatives))

joined_bodies : (alternatives : List Alternative) (named others : Option ℕ) →
    either (option_map (alternative_body alternatives) named) (option_map (alternative_body alternatives) others) ≡ numbered_body alternatives (else_number named others)
joined_bodies alternatives (Some b) others = refl
joined_bodies alternatives None (Some b) = refl
joined_bodies alternatives None None = refl

pub alternatives : AlternativesAreTaken
alternatives all v = rw (first_found (names v) all, first_found has_others all) (joined_bodies all (position (names v) all) (position has_others all))
