-- An instance while its ports are entered.
use Rattle.std.specs.Prelude.{Option, Some, None}
use Rattle.unit_meaning.specs.Walk.{Entry}
use Rattle.port_entry.specs.declared.entry.Entry.{Entry as Held}

-- the entry that a value of the program is
abbrev pub entry_of : Held → Entry
entry_of e = record { book = e.book; used = e.used }

abbrev pub some_entry : Option Held → Option Entry
some_entry (Some e) = Some (entry_of e)
some_entry None = None
