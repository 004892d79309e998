use Rattle.two_phase.specs.declared.completion.Standing.{Standing as State}
use Rattle.two_phase.specs.declared.completion.Standing.TheVariants as states
use Rattle.two_phase.specs.declared.completion.Completion.TheInside.{Inside}
use Rattle.two_phase.specs.Stages.{Standing, Waiting, Going}

-- a state, as contracts see it
abbrev pub seen : State → Standing
seen (states.Waiting room) = Waiting room
seen (states.Going c) = Going c

-- the same, by the fields
abbrev pub shown : Inside → Standing
shown c = seen c.state
