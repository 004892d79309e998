-- The laws of worlds on which agreement of a replay rests (our profile).
use Rattle.nodes_world.specs.Agreement.{ReachedDonesAreComplete, ReachedIsKnown, ReadNamesAreNames}
use Rattle.nodes_world.specs.StandingDecisions.{StandingIsTold}
use Rattle.nodes_world.specs.ToldAgain.{ReachedTellAgain}
use Rattle.nodes_told.specs.Reached.{ReachedLinesAreTold}
use Rattle.nodes_told.specs.Reading.{PartsHaveNoFeed, ReadLinesAreSafe}
use Rattle.nodes_steps.specs.Steps.{LinesKeepAgreement}

pub record WorldsAgree : Type 0 where
  pub lines : LinesKeepAgreement
  pub known : ReachedIsKnown
  pub standing : StandingIsTold
  pub dones : ReachedDonesAreComplete
  pub again : ReachedTellAgain
  pub named : ReadNamesAreNames
  pub told : ReachedLinesAreTold
  pub read : ReadLinesAreSafe
  pub parts : PartsHaveNoFeed
