-- What is kept, and its room.
use Rattle.std.proofs.Common.{◌≡◌, ℕ, ◌+◌, ◌<◌, ◌≤◌, ◌^◌, Bool, true, false, ℤ, List, [], ◌∷◌, ◌++◌, length, drop, set, get_or, Result, Ok, Err, refl, sym, ap, subst, ◌∙◌, arith}
use Rattle.std.proofs.lemmas.List.{length-map, length-append, with_items_is}
use Rattle.std.proofs.lemmas.List.Elements.{All-head, All-tail, All-cons, All-nil, All-append}
use Rattle.std.specs.List.{All}
use Rattle.std.specs.Prelude.{is_ok, OnOk}
use Rattle.std.specs.Global.{Vec}
use Rattle.std.specs.Vec.{with_items}
use Rattle.fix_core.specs.Passes.{and_then, answer}
use Rattle.lin_solve.specs.declared.LinFault.{LinFault}
use Rattle.lin_solve.specs.Elimination.{coefficient, coefficients, solution_of}
use Rattle.number_ratio.specs.Kept.{Divisor}
use Rattle.kept_elimination.specs.Kept.{matrix_of, right_sides, solved, eliminated}
use Rattle.kept_elimination.specs.Shape.{IsElimination, Passes, Ends}
use Rattle.kept_elimination.proofs.Shape.{gives_solution}
use Rattle.kept_elimination.proofs.Steps.{coefficients-length}
use Rattle.kept_rows.specs.declared.column.Column.{Column as Held}
use Rattle.kept_rows.specs.Held.{column_of, kept_columns, HasRoom, Divides}
use Rattle.kept_rows.specs.Whole.{IsKept, kept_of}

-- ---- room that is made column by column

-- each pivot row is so wide, and each column has factors for the rows that are left
abbrev pub IsRoom : ℕ → ℕ → List Held → Type 0
IsRoom n at [] = Unit {0}
IsRoom n at (h ∷ hs) = (length h.pivot ≡ n) × (length h.factors + at + 1 ≡ n) × IsRoom n (at + 1) hs

pub room_more : (n at : ℕ) (hs : List Held) (h : Held) → IsRoom n at hs → length h.pivot ≡ n → length h.factors + at + length hs + 1 ≡ n → IsRoom n at (hs ++ h ∷ [])
room_more n at [] h room pivot factors = (pivot, omega (arith, factors), tt)
room_more n at (x ∷ hs) h room pivot factors = (room.0, room.1, room_more n (at + 1) hs h room.2 pivot (omega (arith, factors)))

pub room_whole : (n at : ℕ) (hs : List Held) → IsRoom n at hs → at + length hs ≡ n → HasRoom n hs
room_whole n at [] room count = tt
room_whole n at (h ∷ hs) room count = (room.0, omega (arith, room.1, count), room_whole n (at + 1) hs room.2 (omega (arith, count)))

-- ---- the first column and the others, as the code parts them

pub room_first : (n : ℕ) (hs front others : List Held) (d : Held) → HasRoom n hs → hs ≡ front ++ others → length front ≡ 1 → (length (get_or front 0 d).pivot ≡ n) × (length (get_or front 0 d).factors ≡ length others) × HasRoom n others
room_first n hs [] others d room e one = absurd (omega (arith, one))
room_first n hs (a ∷ b ∷ front) others d room e one = absurd (omega (arith, one))
room_first n hs (a ∷ []) others d room e one = subst (HasRoom n) e room

pub room_joined : (n : ℕ) (front new : List Held) (h : Held) → length front ≡ 1 → h ≡ get_or front 0 h → length h.pivot ≡ n → length h.factors ≡ length new → HasRoom n new → HasRoom n (front ++ new)
room_joined n [] new h one e pivot factors room = absurd (omega (arith, one))
room_joined n (a ∷ b ∷ front) new h one e pivot factors room = absurd (omega (arith, one))
room_joined n (a ∷ []) new h one e pivot factors room = subst (λ (x : Held). HasRoom n (x ∷ new)) e (pivot, factors, room)

pub divides_joined : (at : ℕ) (front new : List Held) (h : Held) → length front ≡ 1 → h ≡ get_or front 0 h → h.quotient ≡ Divisor (coefficient at h.pivot) → Divides (at + 1) new → Divides at (front ++ new)
divides_joined at [] new h one e q more = absurd (omega (arith, one))
divides_joined at (a ∷ b ∷ front) new h one e q more = absurd (omega (arith, one))
divides_joined at (a ∷ []) new h one e q more = subst (λ (x : Held). Divides at (x ∷ new)) e (q, more)

pub columns_joined : (front new : List Held) (h : Held) → length front ≡ 1 → h ≡ get_or front 0 h → kept_columns (front ++ new) ≡ column_of h ∷ kept_columns new
columns_joined [] new h one e = absurd (omega (arith, one))
columns_joined (a ∷ b ∷ front) new h one e = absurd (omega (arith, one))
columns_joined (a ∷ []) new h one e = ap (λ (x : Held). column_of x ∷ kept_columns new) (sym e)

-- ---- a first column of a list

pub passes_first : (hs : List Held) (h : Held) → 0 < length hs → h ≡ get_or hs 0 h → Passes (kept_columns hs) → (h.place ≤ length (drop 1 hs)) × (length h.factors ≡ length (drop 1 hs)) × Passes (kept_columns (drop 1 hs))
passes_first [] h some e shape = absurd (omega (arith, some))
passes_first (k ∷ hs) h some e shape =
    let few : length (kept_columns hs) ≡ length hs = length-map hs column_of in
    subst (λ (x : Held). (x.place ≤ length hs) × (length x.factors ≡ length hs) × Passes (kept_columns hs)) (sym e) (omega (arith, shape.0, few), shape.1 ∙ few, shape.2)

pub divides_first : (at : ℕ) (hs : List Held) (h : Held) → 0 < length hs → h ≡ get_or hs 0 h → Divides at hs → (h.quotient ≡ Divisor (coefficient at h.pivot)) × Divides (at + 1) (drop 1 hs)
divides_first at [] h some e d = absurd (omega (arith, some))
divides_first at (k ∷ hs) h some e d = subst (λ (x : Held). (x.quotient ≡ Divisor (coefficient at x.pivot)) × Divides (at + 1) hs) (sym e) d

pub ends_first : (at : ℕ) (hs : List Held) (h : Held) → 0 < length hs → h ≡ get_or hs 0 h → Ends at (kept_columns hs) → (length h.pivot ≡ at + length hs) × Ends (at + 1) (kept_columns (drop 1 hs))
ends_first at [] h some e d = absurd (omega (arith, some))
ends_first at (k ∷ hs) h some e d =
    let few : length (kept_columns hs) ≡ length hs = length-map hs column_of in
    subst (λ (x : Held). (length x.pivot ≡ at + length (k ∷ hs)) × Ends (at + 1) (kept_columns hs)) (sym e) (omega (arith, d.0, few), d.1)

pub none_kept : (hs : List Held) → length hs ≡ 0 → kept_columns hs ≡ []
none_kept [] h = refl
none_kept (x ∷ hs) h = absurd (omega (arith, h))

kept_set : (front new : List Held) (h : Held) → length front ≡ 1 → kept_columns (set front 0 h ++ new) ≡ column_of h ∷ kept_columns new
kept_set [] new h one = absurd (omega (arith, one))
kept_set (a ∷ b ∷ front) new h one = absurd (omega (arith, one))
kept_set (a ∷ []) new h one = refl

pub kept_more : (r : Result (Unit {0}) LinFault) (front new : List Held) (h : Held) → length front ≡ 1 → and_then (λ more. Ok (column_of h ∷ more)) (answer r (kept_columns new)) ≡ answer r (kept_columns (set front 0 h ++ new))
kept_more (Ok u) front new h one = ap Ok (sym (kept_set front new h one))
kept_more (Err x) front new h one = refl

-- ---- what is kept

-- room alone
pub room_of : (matrix rows : List (List ℤ)) (turns : List ℕ) (columns : List Held) (spare : List ℤ) (is_kept : Bool) → IsKept matrix rows turns columns spare is_kept → IsKept matrix rows turns columns spare false
room_of matrix rows turns columns spare is_kept h = record {
  small = h.small;
  square = h.square;
  row_count = h.row_count;
  widths = h.widths;
  turn_count = h.turn_count;
  column_count = h.column_count;
  room = h.room;
  spare_width = h.spare_width;
  gives = λ e. absurd (cc);
  divides = λ e. absurd (cc);
}

matrix-square : (rows : List (List ℤ)) (n : ℕ) → All (λ row. length row ≡ n + 1) rows → All (λ row. length row ≡ n) (matrix_of rows)
matrix-square [] n all = All-nil (λ row. length row ≡ n)
matrix-square (row ∷ rows) n all = All-cons (λ row. length row ≡ n) (coefficients row) (matrix_of rows) (coefficients-length row n (All-head (λ row. length row ≡ n + 1) row rows all)) (matrix-square rows n (All-tail (λ row. length row ≡ n + 1) row rows all))

pub square : (rows : List (List ℤ)) (n : ℕ) → All (λ row. length row ≡ n + 1) rows → n ≡ length rows → All (λ row. length row ≡ length (matrix_of rows)) (matrix_of rows)
square rows n all e = let count : n ≡ length (matrix_of rows) = e ∙ sym (length-map rows coefficients) in subst (λ (m : ℕ). All (λ row. length row ≡ m) (matrix_of rows)) count (matrix-square rows n all)

-- the unknowns by what is kept
pub by_kept : (matrix : List (List ℤ)) (turns : List ℕ) (columns : List Held) (rows : List (List ℤ)) (bs : List ℤ) → IsElimination matrix turns (kept_columns columns) → All (λ row. length row ≡ length rows + 1) rows → matrix ≡ matrix_of rows → bs ≡ right_sides rows → solution_of rows ≡ solved (kept_of turns columns) bs
by_kept matrix turns columns rows bs h all em eb = gives_solution matrix turns (kept_columns columns) rows bs h all (sym em) (sym eb)

-- what is kept, written back into its vectors
pub kept_written : (m r : Vec (List ℤ)) (t : Vec ℕ) (c : Vec Held) (ms rs : List (List ℤ)) (ts : List ℕ) (cs : List Held) (spare : List ℤ) (b : Bool) → length ms ≡ m.len → length rs ≡ r.len → length ts ≡ t.len → length cs ≡ c.len → IsKept ms rs ts cs spare b → IsKept (with_items m ms).items (with_items r rs).items (with_items t ts).items (with_items c cs).items spare b
kept_written m r t c ms rs ts cs spare b hm hr ht hc h = rw (with_items_is m ms hm, with_items_is r rs hr, with_items_is t ts ht, with_items_is c cs hc) h

ok_answer : {A : Type 0} (r : Result (Unit {0}) LinFault) (a : A) → is_ok r ≡ true → answer r a ≡ Ok a
ok_answer (Ok u) a h = refl
ok_answer (Err x) a h = absurd (cc)

on_ok : (r : Result (Unit {0}) LinFault) (P : Type 0) → OnOk r P → is_ok r ≡ true → P
on_ok (Ok u) P p h = p
on_ok (Err x) P p h = absurd (cc)

-- what was made of a matrix and its copy
pub kept_made : (from m copy rows : List (List ℤ)) (turns : List ℕ) (columns : List Held) (spare : List ℤ) (r : Result (Unit {0}) LinFault) (b : Bool) → All (λ row. length row ≡ length from + 1) from → m ≡ matrix_of from → copy ≡ matrix_of from → length m < 2 ^ 32 → b ≡ is_ok r → eliminated copy ≡ answer r (kept_of turns columns) → OnOk r (Divides 0 columns) → length rows ≡ length copy → All (λ row. length row ≡ length copy) rows → length turns ≡ length copy → length columns ≡ length copy → HasRoom (length copy) columns → length spare ≡ length copy → IsKept m rows turns columns spare b
kept_made from m copy rows turns columns spare r b all em ec small eb gives divides row_count widths turn_count column_count room width =
    let same : copy ≡ m = ec ∙ sym em in
    let long : length copy ≡ length m = ap length same in
    let whole : All (λ row. length row ≡ length m) m = subst (λ (z : List (List ℤ)). All (λ row. length row ≡ length z) z) (sym em) (square from (length from) all refl) in
    record {
      small = small;
      square = whole;
      row_count = row_count ∙ long;
      widths = subst (λ (n : ℕ). All (λ row. length row ≡ n) rows) long widths;
      turn_count = turn_count ∙ long;
      column_count = column_count ∙ long;
      room = subst (λ (n : ℕ). HasRoom n columns) long room;
      spare_width = width ∙ long;
      gives = λ e. record { square = whole; gives = ap eliminated (sym same) ∙ gives ∙ ok_answer r (kept_of turns columns) (sym eb ∙ e) };
      divides = λ e. on_ok r (Divides 0 columns) divides (sym eb ∙ e);
    }

-- ---- a new one

pub grown : (n : ℕ) (xs : List (List ℤ)) (x : List ℤ) (new : List (List ℤ)) → All (λ row. length row ≡ n) xs → length x ≡ n → new ≡ xs ++ x ∷ [] → All (λ row. length row ≡ n) new
grown n xs x new all h e = subst (All (λ row. length row ≡ n)) (sym e) (All-append (λ row. length row ≡ n) xs (x ∷ []) all (All-cons (λ row. length row ≡ n) x [] h (All-nil (λ row. length row ≡ n))))

pub counted : {A : Type 0} (xs : List A) (x : A) (new : List A) (k : ℕ) → length xs ≡ k → new ≡ xs ++ x ∷ [] → length new ≡ k + 1
counted xs x new k h e = ap length e ∙ length-append xs (x ∷ []) ∙ ap (λ (z : ℕ). z + 1) h

pub new_sound : (n : ℕ) (matrix rows : List (List ℤ)) (turns : List ℕ) (columns : List Held) (spare : List ℤ) → n < 2 ^ 32 → All (λ row. length row ≡ n) matrix → length matrix ≡ n → All (λ row. length row ≡ n) rows → length rows ≡ n → length turns ≡ n → IsRoom n 0 columns → length columns ≡ n → length spare ≡ n → IsKept matrix rows turns columns spare false
new_sound n matrix rows turns columns spare small square count widths row_count turn_count room column_count width = record {
  small = omega (arith, small, count);
  square = subst (λ (m : ℕ). All (λ row. length row ≡ m) matrix) (sym count) square;
  row_count = row_count ∙ sym count;
  widths = subst (λ (m : ℕ). All (λ row. length row ≡ m) rows) (sym count) widths;
  turn_count = turn_count ∙ sym count;
  column_count = column_count ∙ sym count;
  room = subst (λ (m : ℕ). HasRoom m columns) (sym count) (room_whole n 0 columns room (omega (arith, column_count)));
  spare_width = width ∙ sym count;
  gives = λ e. absurd (cc);
  divides = λ e. absurd (cc);
}
