-- What is prepared for a design.
use Rattle.std.specs.Prelude.{◌≡◌, List, map}
use Rattle.flat_expr.specs.declared.expr.Unknown.{Unknown}
use Rattle.flat_design.specs.declared.objects.Objects.{Objects}
use Rattle.flat_design.specs.Order.{unknowns}
use Rattle.common_rows.specs.declared.entries.Entry.{Entry}
use Rattle.common_rows.specs.declared.forms.CommonForm.{CommonForm}
use Rattle.common_rows.specs.Forms.{forms_of, slope_by}
use Rattle.common_rows.specs.Entries.{entries_from}

-- its unknowns, the equations, and the entries of their rows
pub record ArePrepared (objects : Objects) (all : List Unknown) (forms : List CommonForm) (entries : List (List Entry)) : Type 0 where
  pub unknowns_are : all ≡ unknowns objects
  pub forms_are : forms ≡ forms_of objects
  pub entries_are : entries ≡ map (λ form. entries_from (slope_by form) 0 all) forms
