-- Lines that are written one behind the other.
use Rattle.std.proofs.Common.{◌≡◌, ℕ, ◌+◌, ◌≤◌, ◌<◌, Vec, vec_items, List, [], ◌∷◌, ◌++◌, Option, Result, Ok, Err, length, take, drop, map, get_or, refl, sym, ap, subst, ◌∙◌, arith, append_assoc, add-one}
use Rattle.std.proofs.lemmas.List.{append-nil, take-append-le, take-append-drop}
use Rattle.std.proofs.lemmas.Result.{on_ok_weaker}
use Rattle.std.proofs.Math.Seq.{take-append-add, take-append_seam, drop-cons}
use Rattle.std.specs.declared.alloc.Global.{Global}
use Rattle.port_base.specs.Faults.{Rose}
use Rattle.port_base.specs.Told.{with_more, with_more_nil, with_more_twice}
use Rattle.port_base.specs.Lines.{text_of_lines, text_append}
use Rattle.trace_sink.specs.Puts.{Puts, PutsLine, Written}
use Rattle.trace_sink.specs.declared.TraceFault.{TraceFault}
use Rattle.trace_sink.specs.declared.TraceFault.TheVariants.{Memory}

pub written_start : (before : Option (List ℕ)) (lines : List (List ℕ)) → Written before before lines lines
written_start before lines = record { done = []; split = refl; held = sym (with_more_nil before) }

pub written_line : (before mid now : Option (List ℕ)) (lines rest : List (List ℕ)) (line : List ℕ) → Written before mid lines (line ∷ rest) → now ≡ with_more mid line → Written before now lines rest
written_line before mid now lines rest line w h = record {
  done = w.done ++ line ∷ [];
  split = append_assoc w.done (line ∷ []) rest ∙ w.split;
  held = h ∙ ap (λ m. with_more m line) w.held ∙ with_more_twice before (text_of_lines w.done) line
      ∙ ap (with_more before) (ap (λ l. text_of_lines w.done ++ l) (sym (append-nil line)) ∙ sym (text_append w.done (line ∷ [])));
}

-- what stands behind the lines that are written
text_split : (before now : Option (List ℕ)) (lines rest : List (List ℕ)) (w : Written before now lines rest) → text_of_lines lines ≡ text_of_lines w.done ++ text_of_lines rest
text_split before now lines rest w = ap text_of_lines (sym w.split) ∙ text_append w.done rest

pub line_fails : {T U : Type 0} (r : Result T TraceFault) (e : TraceFault) (before mid now : Option (List ℕ)) (lines rest : List (List ℕ)) (line : List ℕ) (f f' f'' : ℕ) →
    Written before mid lines (line ∷ rest) → PutsLine r line mid now f' f'' → f ≤ f' → r ≡ Err e → Puts {T = U} (Err e) lines before now f f''
line_fails {U = U} r e before mid now lines rest line f f' f'' w p older h = record {
  ok = tt;
  memory = λ m. (
    length w.done,
    p.memory (h ∙ ap Err (cc)) ∙ w.held ∙ ap (λ l. with_more before (text_of_lines l)) (sym (ap (take (length w.done)) (sym w.split) ∙ take-append_seam w.done (line ∷ rest))),
  );
  fault = λ m. let rose : Rose f' f'' = p.fault (h ∙ ap Err (cc)) in omega arith;
  front = λ m. let part = p.front (h ∙ ap Err (cc)) in (
    length (text_of_lines w.done) + part.0,
    part.2 ∙ ap (λ o. with_more o (take part.0 line)) w.held ∙ with_more_twice before (text_of_lines w.done) (take part.0 line)
        ∙ ap (with_more before) (sym (ap (take (length (text_of_lines w.done) + part.0)) (text_split before mid lines (line ∷ rest) w)
        ∙ take-append-add (text_of_lines w.done) (line ++ text_of_lines rest) part.0
        ∙ ap (λ l. text_of_lines w.done ++ l) (take-append-le part.0 line (text_of_lines rest) part.1))),
  );
  later = let l = p.later in omega arith;
}

pub written_rest : (before now : Option (List ℕ)) (lines rest next : List (List ℕ)) → Written before now lines rest → rest ≡ next → Written before now lines next
written_rest before now lines rest next w e = record { done = w.done; split = ap (λ l. w.done ++ l) (sym e) ∙ w.split; held = w.held }

-- all lines are written
pub written_all : (before now : Option (List ℕ)) (lines : List (List ℕ)) → Written before now lines [] → now ≡ with_more before (text_of_lines lines)
written_all before now lines w = w.held ∙ ap (λ l. with_more before (text_of_lines l)) (sym (append-nil w.done) ∙ w.split)

-- the next line of a vector
pub line_ahead : (lines : List (Vec ℕ Global)) (i : ℕ) (line : Vec ℕ Global) (text : List ℕ) → i < length lines → line ≡ get_or lines i line → text ≡ line.items →
    map vec_items (drop i lines) ≡ text ∷ map vec_items (drop (i + 1) lines)
line_ahead lines i line text h e t =
    ap (map vec_items) (drop-cons lines i line h ∙ ap (λ k. get_or lines i line ∷ drop k lines) (sym (add-one i)))
    ∙ ap (λ l. l ∷ map vec_items (drop (i + 1) lines)) (sym (t ∙ ap (λ (v : Vec ℕ Global). v.items) e))

-- nothing is written for want of memory
pub puts_nothing : {T : Type 0} (lines : List (List ℕ)) (held : Option (List ℕ)) (f : ℕ) → Puts {T = T} (Err Memory) lines held held f f
puts_nothing lines held f = record {
  ok = tt;
  memory = λ m. (0, sym (with_more_nil held));
  fault = λ m. cc;
  front = λ m. cc;
  later = omega arith;
}

-- one line alone
pub puts_line : {T : Type 0} (r : Result T TraceFault) (line : List ℕ) (before now : Option (List ℕ)) (f f' : ℕ) → PutsLine r line before now f f' → Puts r (line ∷ []) before now f f'
puts_line r line before now f f' p = record {
  ok = on_ok_weaker r (λ h. h ∙ ap (with_more before) (sym (append-nil line))) p.ok;
  memory = λ m. (0, p.memory m ∙ sym (with_more_nil before));
  fault = p.fault;
  front = λ m. let part = p.front m in (part.0, part.2 ∙ ap (with_more before) (ap (take part.0) (sym (append-nil line))));
  later = p.later;
}

-- first these lines, and then those
pub puts_then : {T U : Type 0} (x : T) (r : Result U TraceFault) (a b : List (List ℕ)) (before mid now : Option (List ℕ)) (f f' f'' : ℕ) →
    Puts {T = T} (Ok x) a before mid f f' → Puts r b mid now f' f'' → Puts r (a ++ b) before now f f''
puts_then x r a b before mid now f f' f'' p q =
    let joins : (l : List ℕ) → with_more mid l ≡ with_more before (text_of_lines a ++ l) = λ l. ap (λ m. with_more m l) p.ok ∙ with_more_twice before (text_of_lines a) l in
    record {
      ok = on_ok_weaker r (λ h. h ∙ joins (text_of_lines b) ∙ ap (with_more before) (sym (text_append a b))) q.ok;
      memory = λ m. let part = q.memory m in (
        length a + part.0,
        part.1 ∙ joins (text_of_lines (take part.0 b)) ∙ ap (with_more before) (sym (text_append a (take part.0 b)) ∙ ap text_of_lines (sym (take-append-add a b part.0))),
      );
      fault = λ m. let rose : Rose f' f'' = q.fault m in let l = p.later in omega arith;
      front = λ m. let part = q.front m in (
        length (text_of_lines a) + part.0,
        part.1 ∙ joins (take part.0 (text_of_lines b)) ∙ ap (with_more before) (sym (take-append-add (text_of_lines a) (text_of_lines b) part.0) ∙ ap (take (length (text_of_lines a) + part.0)) (sym (text_append a b))),
      );
      later = let l = p.later in let m = q.later in omega arith;
    }

front_of_front : {A : Type 0} (n : ℕ) (a b : List A) → take (length (take n a)) (a ++ b) ≡ take n a
front_of_front n a b =
    ap (λ l. take (length (take n a)) (l ++ b)) (sym (take-append-drop n a))
    ∙ ap (take (length (take n a))) (append_assoc (take n a) (drop n a) b) ∙ take-append_seam (take n a) (drop n a ++ b)

-- a fault ends it
pub puts_stops : {T U : Type 0} (r : Result T TraceFault) (e : TraceFault) (a b : List (List ℕ)) (before now : Option (List ℕ)) (f f' : ℕ) → Puts r a before now f f' → r ≡ Err e → Puts {T = U} (Err e) (a ++ b) before now f f'
puts_stops r e a b before now f f' p h = record {
  ok = tt;
  memory = λ m. let part = p.memory (h ∙ ap Err (cc)) in (length (take part.0 a), part.1 ∙ ap (λ l. with_more before (text_of_lines l)) (sym (front_of_front part.0 a b)));
  fault = λ m. p.fault (h ∙ ap Err (cc));
  front = λ m. let part = p.front (h ∙ ap Err (cc)) in (
    length (take part.0 (text_of_lines a)),
    part.1 ∙ ap (with_more before) (sym (front_of_front part.0 (text_of_lines a) (text_of_lines b)) ∙ ap (take (length (take part.0 (text_of_lines a)))) (sym (text_append a b))),
  );
  later = p.later;
}

-- another value at the end
pub puts_value : {T U : Type 0} (x : T) (y : U) (lines : List (List ℕ)) (before now : Option (List ℕ)) (f f' : ℕ) → Puts {T = T} (Ok x) lines before now f f' → Puts {T = U} (Ok y) lines before now f f'
puts_value x y lines before now f f' p = record { ok = p.ok; memory = λ m. cc; fault = λ m. cc; front = λ m. cc; later = p.later }

pub puts_all : {T : Type 0} (x : T) (before now : Option (List ℕ)) (lines rest : List (List ℕ)) (f f' : ℕ) → Written before now lines rest → rest ≡ [] → f ≤ f' → Puts {T = T} (Ok x) lines before now f f'
puts_all x before now lines rest f f' w e later = record {
  ok = written_all before now lines (written_rest before now lines rest [] w e);
  memory = λ m. cc;
  fault = λ m. cc;
  front = λ m. cc;
  later = later;
}

pub puts_of : {T : Type 0} (r : Result T TraceFault) (a b : List (List ℕ)) (before now : Option (List ℕ)) (f f' : ℕ) → Puts r a before now f f' → a ≡ b → Puts r b before now f f'
puts_of r a b before now f f' p e = let P = λ (l : List (List ℕ)). Puts r l before now f f' in subst P e p
