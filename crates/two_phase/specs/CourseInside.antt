use Rattle.std.specs.Prelude.{◌≡◌, ℕ, suc, ◌+◌, ◌*◌, ◌^◌, ◌<◌, ◌≤◌, ◌==◌, if◌then◌else◌, max, min, List, [], ◌∷◌, length, take, drop, sum_by, true, Option, Some, None, vec_len}
use Rattle.std.specs.List.{slice_get, list_all}
use Rattle.ots_model.specs.Limits.{reference_limit, registration_limit}
use Rattle.ots_model.specs.declared.completion.Heard.{Heard}
use Rattle.ots_model.specs.declared.tree.Reason.{Reason}
use Rattle.two_phase.specs.Course.{Course}
use Rattle.two_phase.specs.Parties.{answers, has_consented, is_unasked, has_been_told}
use Rattle.two_phase.specs.StockInside.{AreRoomy}
use Rattle.two_phase.specs.declared.party.Party.{Party}
use Rattle.two_phase.specs.declared.party.Stage.{Stage}
use Rattle.two_phase.specs.declared.party.Stage.TheVariants as stages
use Rattle.two_phase.specs.declared.party.Errand.{Errand}
use Rattle.two_phase.specs.declared.course.Course.TheInside.{Inside}

-- what was told and heard
abbrev pub shown : Inside → Course
shown c = record {
  parties = c.parties.items;
  asked = c.asked;
  one_phase = c.one_phase;
  number = c.number;
  out = c.out;
  overtaken = c.overtaken;
  stood = c.stood;
  reread = c.reread;
}

-- what a participant has answered at this stage
abbrev pub answer_at : Stage → Party → Option Heard
answer_at stages.Asking p = p.ballot
answer_at stages.Telling p = p.told
answer_at stages.Forgetting p = p.forgot

abbrev pub OpenAt : Stage → Option Party → Type 0
OpenAt stage None = ⊥
OpenAt stage (Some p) = answer_at stage p ≡ None

-- a word that is out goes to a participant that hasn't answered it
abbrev pub IsOpen : List Party → Option Errand → Type 0
IsOpen parties None = Unit {0}
IsOpen parties (Some e) = OpenAt e.stage (slice_get parties e.place)

abbrev pub if_out : Option Errand → ℕ
if_out None = 0
if_out (Some e) = 1

abbrev pub if_overtaken : Option Reason → ℕ
if_overtaken None = 0
if_overtaken (Some reason) = 1

-- how many words were answered or overtaken
abbrev pub done : List Party → Option Reason → ℕ
done parties overtaken = sum_by answers parties + if_overtaken overtaken

-- a word that asks goes to the first behind those that have consented
abbrev pub ConsentedBefore : Stage → ℕ → List Party → Type 0
ConsentedBefore stages.Asking place parties = list_all has_consented (take place parties) ≡ true
ConsentedBefore stages.Telling place parties = Unit {0}
ConsentedBefore stages.Forgetting place parties = Unit {0}

-- how many in front have consented, once such a word goes out
abbrev pub passed : Stage → ℕ → ℕ → ℕ
passed stages.Asking place consented = place
passed stages.Telling place consented = consented
passed stages.Forgetting place consented = consented

-- how many in front were told the outcome, once such a word was answered
abbrev pub told_past : Stage → ℕ → ℕ → ℕ
told_past stages.Asking place told = told
told_past stages.Telling place told = if place == told then suc told else told
told_past stages.Forgetting place told = told

-- a word that asks is out to the first behind those that have consented
abbrev pub AsksAt : Stage → ℕ → ℕ → Type 0
AsksAt stages.Asking place consented = place ≡ consented
AsksAt stages.Telling place consented = Unit {0}
AsksAt stages.Forgetting place consented = Unit {0}

abbrev pub IsAskedAt : Option Errand → ℕ → Type 0
IsAskedAt None consented = Unit {0}
IsAskedAt (Some e) consented = AsksAt e.stage e.place consented

-- how long the longest of their references is, where none is longer than the limit
abbrev pub longest : List Party → ℕ
longest [] = 0
longest (p ∷ ps) = max (length p.to) (longest ps)

abbrev pub reach : List Party → ℕ
reach parties = min (longest parties) reference_limit

-- the numbers don't end, the first so many have consented, behind the next one nobody was asked, the first so many were told the outcome,
-- and there is a buffer for each word to come, with room for each reference
pub record IsSound (c : Inside) : Type 0 where
  pub few : vec_len c.parties ≤ registration_limit
  pub serial : c.number.serial ≤ 2 ^ 31 + done c.parties.items c.overtaken
  pub unheard : IsOpen c.parties.items c.out
  pub blanks : 0 < vec_len c.parties → 3 * vec_len c.parties + 1 ≤ vec_len c.blanks + done c.parties.items c.overtaken + if_out c.out
  pub roomy : AreRoomy (reach c.parties.items) c.blanks.items
  pub consented : list_all has_consented (take c.consented c.parties.items) ≡ true
  pub unasked : list_all is_unasked (drop (suc c.consented) c.parties.items) ≡ true
  pub asked_at : IsAskedAt c.out c.consented
  pub told : list_all has_been_told (take c.told c.parties.items) ≡ true
