use Rattle.point_laws.proofs.Meeting.{points_meet, run_meets, texts_meet}
use Rattle.point_laws.proofs.laws.points_meet_their_equations.Goals as goal

pub returns-clause-events : goal.returns-clause-events
returns-clause-events c = λ objects options. points_meet c.solutions_are_within_tolerance.ensures objects options

pub returns-clause-works : goal.returns-clause-works
returns-clause-works c = λ objects options. run_meets c.solutions_are_within_tolerance.ensures objects options

pub returns-clause-text : goal.returns-clause-text
returns-clause-text c = λ objects top options. texts_meet c.solutions_are_within_tolerance.ensures objects options top
