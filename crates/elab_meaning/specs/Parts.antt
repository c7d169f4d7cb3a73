-- Parts of a declaration or statement: it is judged as a whole only where all that it holds keeps the rules.
use Rattle.std.specs.Prelude.{Bool, if◌then◌else◌, Option, Some, None}
use Rattle.ams_token.specs.declared.token.Place.{Place}
use Rattle.ams_tree.specs.declared.expression.Name.{Name}
use Rattle.name_scope.specs.declared.thing.Thing.{Thing}
use Rattle.name_scope.specs.declared.thing.Thing.TheVariants as thing
use Rattle.elab_meaning.specs.declared.fault.Cause.TheVariants.{Unknown, WrongType}
use Rattle.elab_meaning.specs.declared.fault.Notes.{Notes}
use Rattle.elab_meaning.specs.declared.part.Part.{Part}
use Rattle.elab_meaning.specs.declared.part.Part.TheVariants.{Kept, Wrong, Hidden}
use Rattle.elab_meaning.specs.Notes.{noted}

abbrev pub part_of : {A : Type 0} → Option A → Part A
part_of (Some a) = Kept a
part_of None = Hidden

abbrev pub kept : {A : Type 0} → Part A → Option A
kept (Kept a) = Some a
kept _ = None

-- a rule of what holds it
abbrev pub where_true : {A : Type 0} → Bool → A → Part A
where_true b a = if b then Kept a else Wrong

-- a further rule of a part that keeps the others
abbrev pub judged : {A B : Type 0} → (A → Part B) → Part A → Part B
judged rule (Kept a) = rule a
judged rule Wrong = Wrong
judged rule Hidden = Hidden

-- of two parts: what is hidden in one of them hides what is wrong in the other
abbrev pub both : {A B C : Type 0} → (A → B → Part C) → Part A → Part B → Part C
both rule (Kept a) b = judged (rule a) b
both rule Wrong Hidden = Hidden
both rule Wrong b = Wrong
both rule Hidden b = Hidden

-- the declaration or statement at this place breaks a rule itself
abbrev pub closed : {A : Type 0} → Place → Part A → Notes → Notes
closed place Wrong n = noted place WrongType n
closed place part n = n

-- what a name stands for, in a declaration or statement
abbrev pub found_thing : Name → Option Thing → Notes → Notes × Part Thing
found_thing x None n = (noted x.place (Unknown x.number) n, Hidden)
found_thing x (Some thing.Faulty) n = (n, Hidden)
found_thing x (Some t) n = (n, Kept t)
