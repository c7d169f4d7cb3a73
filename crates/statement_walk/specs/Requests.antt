-- What stands at an instance, by the parts that are read for it.
use Rattle.std.specs.Prelude.{ℕ, List}
use Rattle.ams_tree.specs.declared.concurrent.Instance.{Instance}
use Rattle.ams_tree.specs.declared.design.DesignUnit.{DesignUnit}
use Rattle.name_scope.specs.declared.scope.Scope.{Scope}
use Rattle.unit_meaning.specs.declared.request.Assigned.{Assigned}
use Rattle.unit_meaning.specs.declared.request.Request.{Request}
use Rattle.unit_meaning.specs.declared.site.Site.{Site}
use Rattle.unit_meaning.specs.Associations.{instance_maps}
use Rattle.unit_meaning.specs.Settings.{Setting}
use Rattle.unit_meaning.specs.Units.{start_of}
use Rattle.unit_meaning.specs.Walk.{numbering, name_number}

-- the associations of an instance, with numbers behind the flat design so far
abbrev pub maps_at : Setting → List DesignUnit → Scope → Instance → Site → List Assigned × List Assigned
maps_at w units scope i s = (instance_maps w.texts (start_of w.texts) units scope i (numbering s)).1

abbrev pub request_with : List ℕ → ℕ → Instance → List Assigned × List Assigned → Request
request_with path outer i maps =
    record { path = path; entity = i.entity.number; architecture = name_number i.architecture; generics = maps.0; ports = maps.1; outer = outer }
