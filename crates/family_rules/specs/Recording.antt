-- What is recorded of a family that decides to commit.
use Rattle.std.specs.Prelude.{List}
use Rattle.decision_journal.specs.declared.record.JournalRecord.{JournalRecord}
use Rattle.decision_journal.specs.declared.record.JournalRecord.TheVariants.{Decision}
use Rattle.decision_journal.specs.declared.record.Registration.{Registration as Recorded}
use Rattle.resource_votes.specs.declared.registration.Registration.{Registration}
use Rattle.two_phase.specs.Stages as stages
use Rattle.coordinator.specs.Family.{Family}
use Rattle.coordinator.specs.Hearing.{commit_key}

-- a registration, as a record names it
abbrev pub recorded : Registration → Recorded
recorded r = record { index = r.index; reference = r.to }

-- the decision record of a family that names these registrations
abbrev pub decides : Family → List Recorded → JournalRecord
decides f named = Decision f.key.life f.key.slot f.key.generation (commit_key f) (stages.asked f.completion) named
