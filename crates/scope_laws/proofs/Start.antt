-- The predefined names.
use Rattle.std.proofs.Common.{◌≡◌, ℕ, arith, true, List, [], ◌∷◌, length, Option, Some, None, IfSome, ◌<◌, get_or, refl, ap, sym, subst, ◌∙◌}
use Rattle.std.specs.Prelude.{nat_lt, position}
use Rattle.std.specs.List.{fold, slice_get}
use Rattle.std.specs.Option.{option_map}
use Rattle.std.proofs.lemmas.Option.{slice_get-map, get_or_from_slice_get}
use Rattle.std.specs.Str.{bytes_eq}
use Rattle.flat_design.specs.declared.objects.Enumeration.{Enumeration}
use Rattle.flat_design.specs.declared.objects.Objects.{Objects}
use Rattle.ams_value.specs.declared.value_type.ValueType.TheVariants as t
use Rattle.ams_value.specs.declared.val.Val.TheVariants as val
use Rattle.name_scope.specs.declared.thing.Thing.{Thing}
use Rattle.name_scope.specs.declared.thing.Thing.TheVariants as thing
use Rattle.name_scope.specs.Scopes.{Region, declared_in, visible, lookup}
use Rattle.unit_meaning.specs.Units.{predefined, with_numbered, with_predefined, start_of}
use Rattle.design_rules.specs.Types.{sizes_of, equation_scope}
use Rattle.design_rules.specs.Design.{domain_type}
use Rattle.scope_laws.specs.Laws.{ThingHolds}
use Rattle.scope_laws.proofs.Names.{with_one}

module _ (R : Thing → Type 0) where
  abbrev EachHolds : Region → Type 0
  EachHolds region = (x : ℕ) → IfSome (declared_in region x) R

  abbrev Every : List (List ℕ × Thing) → Type 0
  Every [] = Unit {0}
  Every (p ∷ more) = R p.1 × Every more

  with_number : (o : Option ℕ) (t : Thing) (region : Region) → EachHolds region → R t → EachHolds (with_numbered o t region)
  with_number (Some name) t region h g x = with_one (λ (found : Option Thing). IfSome found R) region name t x (h x) (λ k. g)
  with_number None t region h g x = h x

  with_all : (texts : List (List ℕ)) (all : List (List ℕ × Thing)) (region : Region) → EachHolds region → Every all → EachHolds (fold (with_predefined texts) region all)
  with_all texts [] region h g = h
  with_all texts (p ∷ more) region h g = with_all texts more (with_predefined texts region p) (with_number (position (bytes_eq p.0) texts) p.1 region h g.0) g.1

  seen : (o : Option Thing) → IfSome o R → IfSome (visible o) R
  seen None h = tt
  seen (Some thing.Label) h = tt
  seen (Some _) h = h

  start_each : (texts : List (List ℕ)) → Every predefined → (x : ℕ) → IfSome (lookup (start_of texts) x) R
  start_each texts h x = seen (declared_in (fold (with_predefined texts) [] predefined) x) (with_all texts predefined [] (λ y. tt) h x)

module _ (objects : Objects) (domain : slice_get objects.enumerations 0 ≡ Some domain_type) where
  -- DOMAIN_TYPE has three literals
  three : get_or (sizes_of objects) 0 0 ≡ 3
  three =
      let mapped : slice_get (sizes_of objects) 0 ≡ option_map (λ (x : Enumeration). length x.literals) (slice_get objects.enumerations 0) = slice_get-map (λ (x : Enumeration). length x.literals) objects.enumerations 0 in
      get_or_from_slice_get (sizes_of objects) 0 3 0 (mapped ∙ ap (option_map (λ (x : Enumeration). length x.literals)) domain)

  abbrev Holds : Thing → Type 0
  Holds t = ThingHolds (equation_scope objects) [] [] t

  some_literals : 0 < get_or (sizes_of objects) 0 0
  some_literals = subst (λ (n : ℕ). 0 < n) (sym three) (omega arith)

  literal : (i : ℕ) → nat_lt i 3 ≡ true → Holds (thing.Literal (val.Enum 0 i))
  literal i h = record { fits = subst (λ (n : ℕ). nat_lt i n ≡ true) (sym three) h; also = tt }

  abbrev sizes : List ℕ
  sizes = sizes_of objects

  each : Every Holds predefined
  each = (
    record { fits = tt; also = record { kind = t.Boolean; kind_is = refl; range = tt; values = tt; indexed = tt } },
    (
      record { fits = tt; also = record { kind = t.Bit; kind_is = refl; range = tt; values = tt; indexed = tt } },
      (
        record { fits = tt; also = record { kind = t.Integer; kind_is = refl; range = tt; values = tt; indexed = tt } },
        (
          record { fits = tt; also = record { kind = t.Integer; kind_is = refl; range = (refl, refl); values = tt; indexed = tt } },
          (
            record { fits = tt; also = record { kind = t.Integer; kind_is = refl; range = (refl, refl); values = tt; indexed = tt } },
            (
              record { fits = tt; also = record { kind = t.Real; kind_is = refl; range = tt; values = tt; indexed = tt } },
              (
                record { fits = tt; also = record { kind = t.Real; kind_is = refl; range = tt; values = tt; indexed = tt } },
                (
                  record { fits = tt; also = record { kind = t.Real; kind_is = refl; range = tt; values = tt; indexed = tt } },
                  (
                    record { fits = tt; also = record { kind = t.Time; kind_is = refl; range = tt; values = tt; indexed = tt } },
                    (
                      record { fits = tt; also = record { kind = t.Enumeration 0; kind_is = refl; range = tt; values = some_literals; indexed = tt } },
                      (
                        record { fits = tt; also = tt },
                        (
                          record { fits = refl; also = tt },
                          (
                            record { fits = refl; also = tt },
                            (
                              record { fits = refl; also = tt },
                              (
                                record { fits = refl; also = tt },
                                (
                                  record { fits = refl; also = tt },
                                  (
                                    record { fits = refl; also = tt },
                                    (
                                      record { fits = record { kind_is = refl; range = refl }; also = record { kind = t.Real; kind_is = refl; range = tt; values = tt; indexed = tt } },
                                      (
                                        record { fits = record { kind_is = refl; range = refl }; also = record { kind = t.Real; kind_is = refl; range = tt; values = tt; indexed = tt } },
                                        (
                                          record { fits = tt; also = tt },
                                          (
                                            record { fits = tt; also = tt },
                                            (
                                              record { fits = tt; also = tt },
                                              (
                                                record { fits = tt; also = tt },
                                                (
                                                  literal 0 refl,
                                                  (
                                                    literal 1 refl,
                                                    (
                                                      literal 2 refl,
                                                      tt,
                                                    ),
                                                  ),
                                                ),
                                              ),
                                            ),
                                          ),
                                        ),
                                      ),
                                    ),
                                  ),
                                ),
                              ),
                            ),
                          ),
                        ),
                      ),
                    ),
                  ),
                ),
              ),
            ),
          ),
        ),
      ),
    ),
  )

  -- each predefined name stands for something that the design has
  pub start_holds : (texts : List (List ℕ)) → (x : ℕ) → IfSome (lookup (start_of texts) x) Holds
  start_holds texts = start_each Holds texts each
