use Rattle.std.proofs.Common.{◌≡◌, take}
use Rattle.family_step.specs.Callers.{AreAnswered}
use Rattle.family_step.proofs.callers.Callers.note_answers.Given as goal

-- the answers so far
abbrev pub invariant-loop-answer : goal.invariant-loop-answer
invariant-loop-answer l = record {
  answered : AreAnswered l.entries (take l.answer-index l.answers) l.place l.initial.self.places l.self.places;
  room : l.self.room ≡ l.initial.self.room;
}
