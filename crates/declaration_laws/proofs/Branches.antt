-- Branches and natures.
use Rattle.std.proofs.Common.{ℕ, pos, Bool, true, false, if◌then◌else◌, List, [], Option, Some, None, arith}
use Rattle.std.specs.Prelude.{nat_eq, ◌+◌}
use Rattle.ams_token.specs.declared.token.Place.{Place}
use Rattle.ams_tree.specs.declared.expression.Name.{Name}
use Rattle.flat_design.specs.declared.objects.QuantityKind.TheVariants as flat
use Rattle.flat_design.specs.declared.objects.Objects.{Objects}
use Rattle.flat_design.specs.declared.objects.Terminal.{Terminal}
use Rattle.flat_design.specs.declared.objects.Terminal.TheVariants as terminal
use Rattle.name_scope.specs.declared.thing.QuantityClass.TheVariants as class
use Rattle.name_scope.specs.declared.thing.Thing.{Thing}
use Rattle.name_scope.specs.declared.thing.Thing.TheVariants as thing
use Rattle.name_scope.specs.Scopes.{lookup}
use Rattle.elab_meaning.specs.declared.book.Book.{Book}
use Rattle.elab_meaning.specs.declared.fault.Cause.TheVariants.{NatureMismatch}
use Rattle.elab_meaning.specs.declared.fault.Notes.{Notes}
use Rattle.elab_meaning.specs.declared.part.Part.{Part}
use Rattle.elab_meaning.specs.declared.part.Part.TheVariants.{Kept, Wrong, Hidden}
use Rattle.elab_meaning.specs.Notes.{noted}
use Rattle.elab_meaning.specs.Parts.{both, closed, found_thing}
use Rattle.elab_meaning.specs.Declarations.{declared, with_notes, faulty, declaring_each, new_nature, with_nature, nature_of_part, nature, terminal_of, terminal_named, matched, matched_ends, ends, to_reference, branch, across_of, through_of, branch_quantities}
use Rattle.design_rules.specs.Types.{equation_scope}
use Rattle.design_rules.specs.Design.{IsTerminal}
use Rattle.reading_laws.specs.Growing.{Grows}
use Rattle.reading_laws.proofs.Growing.{grows_same, grows_on, grows_noted}
use Rattle.typed_laws.specs.Fitting.{FitsTerminal}
use Rattle.part_laws.specs.Parts.{OnKept}
use Rattle.part_laws.proofs.Parts.{judged_kept, both_kept}
use Rattle.scope_laws.specs.Holds.{HasNoFaults}
use Rattle.scope_laws.proofs.Scopes.{scopes_hold}
use Rattle.asked_laws.proofs.Notes.{faults_before}
use Rattle.subtype_laws.proofs.Growth.{grows_found}
use Rattle.subtype_laws.proofs.Indications.{thing_kept}
use Rattle.declaration_laws.specs.Books.{BookHolds, KeepsBook}
use Rattle.declaration_laws.proofs.Steps.{rest_same, rest_on, Keeps, weaker, given, book_on, Holds, declared_keeps, faulty_keeps, notes_keep, each_of_keeps, grows_closed, PartRight, declaring_keeps}
use Rattle.declaration_laws.proofs.Objects.{IsNewQuantity, quantity_keeps}

module _ (final : Objects) where
  -- ---- ends of a branch

  abbrev IsEnd : Terminal × ℕ → Type 0
  IsEnd end = IsTerminal final end.0

  record AreEnds (found : Terminal × Terminal) : Type 0 where
    plus : IsTerminal final found.0
    minus : IsTerminal final found.1

  end_of : (end : Terminal) → FitsTerminal (equation_scope final) end → IsTerminal final end
  end_of (terminal.Node i) h = h
  end_of terminal.Reference h = tt

  terminal_kept : (x : Thing) → Holds final x → OnKept IsEnd (terminal_of x)
  terminal_kept (thing.Terminal end m) h = end_of end h.fits
  terminal_kept _ h = tt

  named_right : (x : Name) (b : Book) (n : Notes) → BookHolds final b → OnKept IsEnd (terminal_named x b n).1
  named_right x b n h =
      judged_kept Thing (Terminal × ℕ) (Holds final) IsEnd terminal_of terminal_kept (found_thing x (lookup b.scope x.number) n).1
      (thing_kept (equation_scope final) [] [] [] b.scope h.scope x n)

  grows_matched : (place : Place) (m k : ℕ) (n : Notes) → Grows n (matched place m k n)
  grows_matched place m k n = go (nat_eq m k)
    where
      go : (b : Bool) → Grows n (if b then n else noted place NatureMismatch n)
      go true = grows_same n
      go false = grows_noted place NatureMismatch n

  grows_ends : (place : Place) (p q : Part (Terminal × ℕ)) (n : Notes) → Grows n (matched_ends place p q n)
  grows_ends place (Kept plus) (Kept minus) n = grows_matched place plus.1 minus.1 n
  grows_ends place (Kept plus) Wrong n = grows_same n
  grows_ends place (Kept plus) Hidden n = grows_same n
  grows_ends place Wrong q n = grows_same n
  grows_ends place Hidden q n = grows_same n

  grows_terminal : (x : Name) (b : Book) (n : Notes) → Grows n (terminal_named x b n).0
  grows_terminal x b n = grows_found x (lookup b.scope x.number) n

  grows_branch : (plus : Name) (minus : Option Name) (b : Book) → Grows b.notes (branch plus minus b).0
  grows_branch plus None b = grows_terminal plus b b.notes
  grows_branch plus (Some minus) b =
      let p = terminal_named plus b b.notes in
      let m = terminal_named minus b p.0 in
      let whole = matched_ends minus.place p.1 m.1 m.0 in
      grows_on b.notes p.0 whole (grows_terminal plus b b.notes) (grows_on p.0 m.0 whole (grows_terminal minus b p.0) (grows_ends minus.place p.1 m.1 m.0))

  branch_right : (plus : Name) (minus : Option Name) (b : Book) → PartRight final (Terminal × Terminal) AreEnds (branch plus minus b) b
  branch_right plus None b h f =
      judged_kept (Terminal × ℕ) (Terminal × Terminal) IsEnd AreEnds to_reference (λ p c. record { plus = c; minus = tt }) (terminal_named plus b b.notes).1 (named_right plus b b.notes h)
  branch_right plus (Some minus) b h f =
      let p = terminal_named plus b b.notes in
      both_kept (Terminal × ℕ) (Terminal × ℕ) (Terminal × Terminal) IsEnd IsEnd AreEnds ends (λ x y c d. record { plus = c; minus = d }) p.1 (terminal_named minus b p.0).1
      (named_right plus b b.notes h) (named_right minus b p.0 h)

  -- ---- branch quantities

  across_keeps : (texts : List (List ℕ)) (found : Terminal × Terminal) (x : Name) (b : Book) → Keeps final (AreEnds found) b (across_of texts found x b)
  across_keeps texts found x b =
      weaker final (AreEnds found) (IsNewQuantity final (flat.Across found.0 found.1) (pos 0)) b (across_of texts found x b) (λ c. record { terminals = (c.plus, c.minus); number = omega arith })
      (quantity_keeps final texts (flat.Across found.0 found.1) class.Across (pos 0) x b)

  through_keeps : (texts : List (List ℕ)) (found : Terminal × Terminal) (x : Name) (b : Book) → Keeps final (AreEnds found) b (through_of texts found x b)
  through_keeps texts found x b =
      weaker final (AreEnds found) (IsNewQuantity final (flat.Through found.0 found.1) (pos 0)) b (through_of texts found x b) (λ c. record { terminals = (c.plus, c.minus); number = omega arith })
      (quantity_keeps final texts (flat.Through found.0 found.1) class.Through (pos 0) x b)

  quantities_keep : (texts : List (List ℕ)) (place : Place) (across through : List Name) (found : Notes × Part (Terminal × Terminal)) (b : Book)
      → Grows b.notes found.0 → PartRight final (Terminal × Terminal) AreEnds found b → KeepsBook final b (branch_quantities texts place across through found b)
  quantities_keep texts place across through found b g part =
      let mid = declaring_each (across_of texts) place across found b in
      let behind = branch_quantities texts place across through found b in
      let first = declaring_keeps final (Terminal × Terminal) AreEnds (across_of texts) (across_keeps texts) place across found b g part in
      let rest = each_of_keeps final (Terminal × Terminal) AreEnds (through_of texts) (through_keeps texts) found.1 through mid in
      let here = with_notes (closed place found.1 found.0) b in
      let names = each_of_keeps final (Terminal × Terminal) AreEnds (across_of texts) (across_keeps texts) found.1 across here in
      record {
        grows = grows_on b.notes mid.notes behind.notes first.grows rest.grows;
        stands = scopes_hold.on b.objects mid.objects behind.objects first.stands rest.stands;
        leaves = rest_on b.objects mid.objects behind.objects first.leaves rest.leaves;
        right = λ f s h.
            let before : HasNoFaults mid.notes = faults_before mid.notes behind.notes rest.grows f in
            let start : HasNoFaults found.0 =
            faults_before found.0 here.notes (grows_closed final (Terminal × Terminal) place found.1 found.0) (faults_before here.notes mid.notes names.grows before) in
            rest.right (part h start) f s (first.right before (scopes_hold.on mid.objects behind.objects final rest.stands s) h);
      }

  pub branch_keeps : (texts : List (List ℕ)) (place : Place) (across through : List Name) (plus : Name) (minus : Option Name) (b : Book)
      → KeepsBook final b (branch_quantities texts place across through (branch plus minus b) b)
  branch_keeps texts place across through plus minus b = quantities_keep texts place across through (branch plus minus b) b (grows_branch plus minus b) (branch_right plus minus b)

  -- ---- natures

  counted : (b : Book) → KeepsBook final b (record b { natures = b.natures + 1 })
  counted b =
      record {
        grows = grows_same b.notes;
        stands = scopes_hold.same b.objects;
        leaves = rest_same b.objects;
        right = λ f s h. record { scope = h.scope; objects = h.objects };
      }

  simple : (t : Thing) (x : Name) (b : Book) → Holds final t → KeepsBook final b (declared t x b)
  simple t x b h = given final (Unit {0}) b (declared t x b) (declared_keeps final (Unit {0}) t x b (λ c s. h)) tt

  with_nature_keeps : (name reference : Name) (b : Book) → KeepsBook final b (with_nature name reference b)
  with_nature_keeps name reference b =
      let start = record b { natures = b.natures + 1 } in
      let mid = declared (thing.Nature b.natures) name start in
      book_on final b start (with_nature name reference b) (counted b)
      (book_on final start mid (with_nature name reference b) (simple (thing.Nature b.natures) name start (record { fits = tt; also = tt }))
      (simple (thing.Terminal terminal.Reference b.natures) reference mid (record { fits = tt; also = tt })))

  both_faulty : (name reference : Name) (b : Book) → KeepsBook final b (faulty reference (faulty name b))
  both_faulty name reference b = book_on final b (faulty name b) (faulty reference (faulty name b)) (faulty_keeps final name b) (faulty_keeps final reference (faulty name b))

  part_keeps : (name reference : Name) (p : Part Bool) (b : Book) → KeepsBook final b (nature_of_part name reference p b)
  part_keeps name reference (Kept fine) b = with_nature_keeps name reference b
  part_keeps name reference Wrong b = both_faulty name reference b
  part_keeps name reference Hidden b = both_faulty name reference b

  pub nature_keeps : (place : Place) (name across through reference : Name) (b : Book) → KeepsBook final b (nature place name across through reference b)
  nature_keeps place name across through reference b =
      let a = found_thing across (lookup b.scope across.number) b.notes in
      let c = found_thing through (lookup b.scope through.number) a.0 in
      let made = both new_nature a.1 c.1 in
      let here = closed place made c.0 in
      let start = with_notes here b in
      book_on final b start (nature_of_part name reference made start)
      (notes_keep final here b
      (grows_on b.notes a.0 here (grows_found across (lookup b.scope across.number) b.notes)
      (grows_on a.0 c.0 here (grows_found through (lookup b.scope through.number) a.0) (grows_closed final Bool place made c.0))))
      (part_keeps name reference made start)
