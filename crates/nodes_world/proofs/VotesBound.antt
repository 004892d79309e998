-- A vote for commit comes from a resource that is bound: it was asked by prepare, and how it stands follows from its vote.
use Rattle.std.proofs.Common.{ℕ, List, refl}
use Rattle.ots_model.specs.declared.line.Line.{Line}
use Rattle.ots_model.specs.declared.completion.Vote.TheVariants.{VoteCommit}
use Rattle.resource_end.specs.declared.state.State.{State}
use Rattle.resource_end.specs.declared.state.State.TheVariants as states
use Rattle.nodes_world.specs.Told.{Told}
use Rattle.nodes_world.specs.World.{World}
use Rattle.nodes_world.specs.Agreement.{IsBound, IsWord, VotesAreBound}
use Rattle.nodes_world.specs.AgreementInside.{HasAnswered, HasVotedCommit, Known}
use Rattle.nodes_world.proofs.KnownLines.{lines_of, referred_named}

voted_is_bound : (s : State) (name : List ℕ) (h : List Line) → HasVotedCommit s name h → IsBound s
voted_is_bound states.Fresh name h is = is
voted_is_bound states.Working name h is = is
voted_is_bound states.Refused name h is = is
voted_is_bound states.Prepared name h is = tt
voted_is_bound states.Applied name h is = tt
voted_is_bound states.Undone name h is = tt
voted_is_bound states.ChoseCommit name h is = tt
voted_is_bound states.ChoseRollback name h is = tt
voted_is_bound states.Forgotten name h is = tt

pub votes_are_bound : (w : World) (told : List Told) → Known w told → VotesAreBound w
votes_are_bound w told k number place from m request o name r replied says asked is refers there =
    voted_is_bound r.state name.name (lines_of told)
    ((k.resources name.name name.key r (referred_named w told k o.to name refers) there).commit answered)
  where
    word : IsWord w place from o
    word = (request, asked, is)

    answered : HasAnswered w name.name VoteCommit
    answered = (place, from, number, o, name, m, word, k.words.voters number place from m VoteCommit o replied says word, refers, refl, replied, says)
