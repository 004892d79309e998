-- To whom a word goes, what an answer changes, and what decides, in every completion of a tree (Transaction Service, the
-- operations of interface Resource).
use Rattle.std.specs.Prelude.{◌≡◌, false, List, slice_set, Some, None}
use Rattle.std.specs.List.{slice_get}
use Rattle.ots_model.specs.declared.completion.Heard.{Heard}
use Rattle.two_phase.specs.Course.{Course, by_votes, decides_alone, errand, heard_at, heard_by, outcome}
use Rattle.two_phase.specs.CourseInside.{IsOpen}
use Rattle.two_phase.specs.LawsOfReached.{IsReached}
use Rattle.two_phase.specs.declared.party.Party.{Party}
use Rattle.two_phase.specs.declared.party.Stage.TheVariants as stages
use Rattle.two_phase.specs.declared.party.Errand.{Errand}

-- the next word goes to a participant that hasn't answered it
abbrev pub NextIsOpen : Type 0
NextIsOpen = (c : Course) (e : Errand) → errand c ≡ Some e → IsOpen c.parties (Some e)

-- the word that is out goes to a participant that hasn't answered it, and one that asks is out only while the outcome is open
pub record WaitsForAnswer (c : Course) : Type 0 where
  pub unheard : IsOpen c.parties c.out
  pub asking : (e : Errand) → c.out ≡ Some e → e.stage ≡ stages.Asking → outcome c ≡ None

abbrev pub WordsWaitForAnswers : Type 0
WordsWaitForAnswers = (c : Course) → IsReached c → WaitsForAnswer c

-- an answer changes the participant whose it is, and no other one
abbrev pub AnswersChangeOne : Type 0
AnswersChangeOne = (parties : List Party) (e : Errand) (h : Heard) (p : Party) → slice_get parties e.place ≡ Some p
    → heard_by parties e h ≡ slice_set parties e.place (heard_at e.stage h p)

-- where nothing came from outside, and no participant decides alone, the outcome is that of the votes and the record
abbrev pub VotesDecide : Type 0
VotesDecide = (c : Course) → c.overtaken ≡ None → decides_alone c ≡ false → outcome c ≡ by_votes c
