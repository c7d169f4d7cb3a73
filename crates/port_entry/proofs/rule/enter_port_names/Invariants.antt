use Rattle.std.proofs.Common.{◌≡◌, drop}
use Rattle.unit_meaning.specs.Walk.{names_entered}
use Rattle.expr_types.specs.Known.{IsSoundScope}
use Rattle.port_entry.specs.Entries.{entry_of}
use Rattle.port_entry.specs.Rules.{rule_of}
use Rattle.port_entry.proofs.rule.enter_port_names.Given as goal

abbrev pub invariant-loop-name : goal.invariant-loop-name
invariant-loop-name l =
    record {
      told : names_entered (rule_of l.names l.rule) l.given l.place (drop l.name-index l.declared) (entry_of l.entry) ≡ names_entered (rule_of l.names l.rule) l.given l.first l.declared (entry_of l.fn.entry);
      sound : IsSoundScope l.entry.book.scope;
    }
