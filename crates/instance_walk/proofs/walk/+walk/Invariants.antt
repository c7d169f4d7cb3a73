use Rattle.std.proofs.Common.{◌≡◌, ◌+◌, ◌*◌, drop}
use Rattle.unit_index.specs.Index.{known}
use Rattle.unit_meaning.specs.Walk as spec
use Rattle.expr_types.specs.Known.{IsSoundScope}
use Rattle.walk_answers.specs.Answers.{setting_with}
use Rattle.instance_walk.specs.Kinds.{around_at}
use Rattle.instance_walk.proofs.walk.+walk.Given as goal

-- each call goes down in this order: enter, enter_next, enter_entity, enter_architecture, enter_unit, walk_body, walk_statements, walk_statement, walk_instance, walk_labelled
abbrev pub decreases-enter : goal.decreases-enter
decreases-enter l = 10 * l.depth

abbrev pub decreases-enter_next : goal.decreases-enter_next
decreases-enter_next l = 10 * l.depth + 9

abbrev pub decreases-enter_entity : goal.decreases-enter_entity
decreases-enter_entity l = 10 * l.depth + 8

abbrev pub decreases-enter_architecture : goal.decreases-enter_architecture
decreases-enter_architecture l = 10 * l.depth + 7

abbrev pub decreases-enter_unit : goal.decreases-enter_unit
decreases-enter_unit l = 10 * l.depth + 6

abbrev pub decreases-walk_body : goal.decreases-walk_body
decreases-walk_body l = 10 * l.depth + 5

abbrev pub decreases-walk_statements : goal.decreases-walk_statements
decreases-walk_statements l = 10 * l.depth + 4

abbrev pub decreases-walk_statement : goal.decreases-walk_statement
decreases-walk_statement l = 10 * l.depth + 3

abbrev pub decreases-walk_instance : goal.decreases-walk_instance
decreases-walk_instance l = 10 * l.depth + 2

abbrev pub decreases-walk_labelled : goal.decreases-walk_labelled
decreases-walk_labelled l = 10 * l.depth + 1

abbrev pub invariant-walk_statements-loop-one : goal.invariant-walk_statements-loop-one
invariant-walk_statements-loop-one l =
    record {
      told :
          spec.statements_walked (spec.enter l.names (known l.units) l.depth l.above) (known l.units) (around_at (setting_with l.names l.enumerations l.selectors) l.scope l.path l.number) (drop l.one-index l.all) l.site
          ≡ spec.statements_walked (spec.enter l.names (known l.units) l.depth l.above) (known l.units) (around_at (setting_with l.names l.enumerations l.selectors) l.fn.scope l.path l.number) l.all l.fn.site;
      same : l.scope ≡ l.fn.scope;
      sound : IsSoundScope l.scope;
    }
