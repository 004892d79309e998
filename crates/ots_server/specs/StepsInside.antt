-- How far the words of a step have gone, and what its call is answered so far.
use Rattle.std.specs.Prelude.{◌≡◌, ◌⊎◌, ℕ, Bool, List, [], ◌∷◌, flat_map, Option, Some, None, if◌then◌else◌}
use Rattle.std.specs.Option.{option_map}
use Rattle.ots_calls.specs.declared.answer.Answer.{Answer}
use Rattle.ots_calls.specs.declared.call.Called.{Called}
use Rattle.ots_context.specs.declared.context.Context.{Context}
use Rattle.ots_model.specs.declared.service.Endpoint.{Endpoint}
use Rattle.ots_model.specs.declared.tree.Heard.{Heard}
use Rattle.ots_model.specs.declared.tree.Outward.{Outward}
use Rattle.coordinator.specs.History.{answer_among, is_later}
use Rattle.coordinator.specs.declared.said.Finished.{Finished}
use Rattle.coordinator.specs.declared.said.StepAnswer.{StepAnswer}
use Rattle.ots_server.specs.Answers.{answer_after}
use Rattle.ots_server.specs.Said.{answer_of}
use Rattle.ots_server.specs.Site.{Site}
use Rattle.ots_server.specs.Telling.{HaveGone, IsTelling, IsToldTo, IsToldToNobody, Telling, is_starved, is_want}
use Rattle.outward_calls.specs.Moment.{LinkMoment}

-- these words have gone out, and whether memory was wanted for one of them
pub record HaveGoneSo {D : Type 0} (s : Site D) (now : ℕ) (words : List Outward) (before : LinkMoment) (starved : Bool) (more : List Outward) (after : LinkMoment) : Type 0 where
  pub tellings : List Telling
  pub gone : HaveGone s now words before tellings more after
  pub starved_is : starved ≡ is_starved tellings

-- the first word has gone out
pub record HasGoneNext {D : Type 0} (s : Site D) (now : ℕ) (words : List Outward) (before : LinkMoment) (starved : Bool) (finished : List Finished) (more : List Outward) (after : LinkMoment) : Type 0 where
  pub word : Outward
  pub rest : List Outward
  pub words_are : words ≡ word ∷ rest
  pub telling : Telling
  pub told : IsTelling s now word telling rest more before after
  pub starved_is : starved ≡ is_want telling.heard
  pub finished_are : finished ≡ telling.finished

-- the answer of a call, or, where it has none yet, the one that it has among these
abbrev pub or_among : Endpoint → Called → ℕ → List Finished → Option Answer → Option Answer
or_among at called position finished (Some answer) = Some answer
or_among at called position finished None =
    option_map (answer_of at called.key called.call None) (answer_among position finished)

-- what the step of a call answers it at once
abbrev pub at_once : Endpoint → Called → StepAnswer → Option Context → Option Answer
at_once at called answer context =
    if is_later answer.said then or_among at called answer.position answer.finished None
    else Some (answer_of at called.key called.call context answer.said)

abbrev pub finished_in : List Telling → List Finished
finished_in tellings = flat_map (λ (t : Telling). t.finished) tellings

-- these words have gone out, and what the call is answered so far that had this answer before
pub record AreTold {D : Type 0} (s : Site D) (now : ℕ) (called : Called) (position : ℕ) (words : List Outward) (before : LinkMoment) (first : Option Answer)
    (starved : Bool) (answer : Option Answer) (more : List Outward) (after : LinkMoment) : Type 0 where
  pub tellings : List Telling
  pub gone : HaveGone s now words before tellings more after
  pub starved_is : starved ≡ is_starved tellings
  pub answer_is : answer ≡ or_among s.room.at called position (finished_in tellings) first

-- all words of a step have gone out, and this is the answer
pub record EndsStep {D : Type 0} (s : Site D) (now : ℕ) (called : Called) (step : StepAnswer) (context : Option Context) (words : List Outward) (before after : LinkMoment) (a : Answer) : Type 0 where
  pub tellings : List Telling
  pub gone : HaveGone s now words before tellings [] after
  pub answer_is : a ≡ answer_after s.room.at called step context tellings

-- what was heard of a word is told, and these calls were answered by it
abbrev pub IsToldBy : {D : Type 0} → Site D → ℕ → Outward → Heard → List Finished → List Outward → List Outward → Type 0
IsToldBy s now word heard finished rest more =
    IsToldTo s now word (record { heard = heard; finished = finished }) rest more
    ⊎ IsToldToNobody s now word (record { heard = heard; finished = finished }) rest more
