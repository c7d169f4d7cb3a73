use Rattle.place_laws.proofs.Places.{none_stands, one_more_stands, whole_stands, drivers_are_found}
use Rattle.place_laws.proofs.places_are_found.Goals as goal

pub returns-clause-whole : goal.returns-clause-whole
returns-clause-whole c = whole_stands

pub returns-clause-none : goal.returns-clause-none
returns-clause-none c = none_stands

pub returns-clause-one_more : goal.returns-clause-one_more
returns-clause-one_more c = one_more_stands

pub returns-clause-drivers : goal.returns-clause-drivers
returns-clause-drivers c = drivers_are_found
