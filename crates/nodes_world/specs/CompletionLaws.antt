-- The laws of completions of trees on which laws of worlds rest: what stands behind an outcome, for whose answer a word waits, and
-- what an answer changes.
use Rattle.two_phase.specs.LawsOfAnswers.{AnswersChangeOne, WordsWaitForAnswers}
use Rattle.two_phase.specs.LawsOfOutcomes.{OutcomesHaveCauses}

pub record CompletionLaws : Type 0 where
  pub causes : OutcomesHaveCauses
  pub waits : WordsWaitForAnswers
  pub changes : AnswersChangeOne
