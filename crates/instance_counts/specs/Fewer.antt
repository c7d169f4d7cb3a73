-- An instance with fewer unknowns.
use Rattle.std.specs.Prelude.{ℕ, ◌-◌}
use Rattle.flat_design.specs.declared.objects.Instance.{Instance}

abbrev pub fewer : ℕ → Instance → Instance
fewer k x = record x { unknowns = x.unknowns - k }
