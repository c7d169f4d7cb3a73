use Rattle.std.proofs.Common.{◌≡◌, ◌++◌, map, IfOk, sym, ap, ◌∙◌, subst}
use Rattle.elab_meaning.specs.declared.book.Book.{Book}
use Rattle.expr_types.specs.Known.{IsSoundScope}
use Rattle.unit_meaning.specs.Associations.{new_book}
use Rattle.unit_meaning.specs.Units.{start_of}
use Rattle.formal_lists.specs.Pairs.{generic_pair}
use Rattle.formal_lists.specs.Reading.{formals_from}
use Rattle.formal_lists.proofs.ReadOnce.{all_generics}
use Rattle.formal_lists.proofs.reading.generic_formals.Goals as goal

pub add_generics-read-requires : goal.add_generics-read-requires
add_generics-read-requires c = subst (λ (b : Book). IsSoundScope b.scope) (sym c.new_book-book.ensures) c.in_ok-start_of.ensures.sound

pub returns : goal.returns
returns c =
    let from = formals_from c.args.names.now in
    let generics = c.as_slice.result.now in
    let read =
    c.in_ok-read.ensures
    ∙ (ap (λ xs. xs ++ from c.new_book-book.result generics) c.new-entries.ensures
    ∙ (ap (λ b. from b generics) (c.new_book-book.ensures ∙ ap new_book c.in_ok-start_of.ensures.value) ∙ ap (from (new_book (start_of c.args.names.now))) c.as_slice.ensures)) in
    subst (λ xs. IfOk c.new.result (λ formals. formals ≡ xs)) (ap (map generic_pair) read ∙ all_generics c.args.names.now (new_book (start_of c.args.names.now)) c.args.entity.now.generics) c.new.ensures
