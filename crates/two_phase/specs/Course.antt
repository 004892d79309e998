-- The completion of a tree of transactions: whom it asks and tells next, and its outcome (Transaction Service, the
-- operations of interface Resource; that words go out one at a time and in list order, and what becomes of a record that
-- nobody knows of, are our profile).
use Rattle.std.specs.Prelude.{ℕ, ◌+◌, ◌==◌, Bool, true, false, not, ◌&&◌, ◌||◌, List, length, map, take, drop, find, position, slice_set, Option, Some, None, is_none, is_some, if◌then◌else◌}
use Rattle.std.specs.List.{slice_get, list_any, list_all}
use Rattle.std.specs.Option.{option_map, option_and_then}
use Rattle.ots_model.specs.declared.completion.CallNumber.{CallNumber}
use Rattle.ots_model.specs.declared.completion.Heard.{Heard}
use Rattle.ots_model.specs.declared.completion.Stood.{Stood}
use Rattle.ots_model.specs.declared.completion.Stood.TheVariants as answers
use Rattle.ots_model.specs.declared.completion.Receipt.{Receipt}
use Rattle.ots_model.specs.declared.completion.Ground.TheVariants.{Record, Nobody}
use Rattle.ots_model.specs.declared.tree.Word.{Word}
use Rattle.ots_model.specs.declared.completion.Word.TheVariants as phases
use Rattle.ots_model.specs.declared.tree.Word.TheVariants as words
use Rattle.ots_model.specs.declared.tree.Reason.{Reason}
use Rattle.ots_model.specs.declared.completion.Reason.TheVariants as phase_reasons
use Rattle.ots_model.specs.declared.tree.Reason.TheVariants as reasons
use Rattle.ots_model.specs.Numbered.{Outcome}
use Rattle.ots_model.specs.declared.completion.Outcome.TheVariants as outcomes
use Rattle.ots_model.specs.declared.tree.Outward.{Outward}
use Rattle.resource_votes.specs.declared.registration.Registration.{Registration}
use Rattle.two_phase.specs.Parties.{party_of, has_consented, has_refused, has_voted_commit, is_unasked, has_answered, reason_of, by_answer, is_untold, is_incomplete, is_unforgotten}
use Rattle.two_phase.specs.declared.party.Party.{Party}
use Rattle.two_phase.specs.declared.party.Stage.{Stage}
use Rattle.two_phase.specs.declared.party.Stage.TheVariants as stages
use Rattle.two_phase.specs.declared.party.Errand.{Errand}

-- a completion under way
pub record Course : Type 0 where
  -- the participants, in list order, each with its answers
  pub parties : List Party
  -- whether the client asked for reports of heuristic outcomes
  pub asked : Bool
  -- whether a single participant may decide alone
  pub one_phase : Bool
  -- the number of the word that is out, or else of the next one
  pub number : CallNumber
  -- the word that is out
  pub out : Option Errand
  -- why it was rolled back from outside, before its outcome was fixed
  pub overtaken : Option Reason
  -- what the journal answered, once it was asked
  pub stood : Option Stood
  -- where nobody knew whether the record stands: the place that a reread found it at, or that it found none
  pub reread : Option (Option ℕ)

-- a completion that begins
abbrev pub begun : List Registration → Bool → CallNumber → Bool → Course
begun participants asked first one_phase = record {
  parties = map party_of participants;
  asked = asked;
  one_phase = one_phase;
  number = first;
  out = None;
  overtaken = None;
  stood = None;
  reread = None;
}

-- a reason that comes from outside: neither an answer nor the record gives it
abbrev pub is_outside : Reason → Bool
is_outside reasons.Asked = true
is_outside reasons.Marked = true
is_outside reasons.Timeout = true
is_outside (reasons.SyncLost sync) = true
is_outside (reasons.SyncStarved sync) = true
is_outside reasons.Superior = true
is_outside reasons.NotEnlisted = true
is_outside _ = false

-- a completion that begins with a rollback from outside, so nobody is asked
abbrev pub begun_rollback : List Registration → Bool → CallNumber → Bool → Reason → Course
begun_rollback participants asked first one_phase reason =
    record (begun participants asked first one_phase) { overtaken = if is_outside reason then Some reason else None }

-- there is a single participant, which is to decide alone
abbrev pub decides_alone : Course → Bool
decides_alone c = c.one_phase && length c.parties == 1

-- each participant has consented
unfoldable pub all_consent : Course → Bool
all_consent c = list_all has_consented c.parties

-- one of them has voted commit, and waits for the outcome
unfoldable pub some_commit : Course → Bool
some_commit c = list_any has_voted_commit c.parties

-- the outcome by the record: where the journal was unsure, a reread says
abbrev pub by_reread : Option (Option ℕ) → Option Outcome
by_reread None = None
by_reread (Some (Some place)) = Some (outcomes.Commit Record)
by_reread (Some None) = Some (outcomes.Rollback reasons.NotStored)

abbrev pub by_record : Option Stood → Option (Option ℕ) → Option Outcome
by_record None reread = None
by_record (Some (answers.Stands place)) reread = Some (outcomes.Commit Record)
by_record (Some (answers.Full used need)) reread =
    Some (outcomes.Rollback (reasons.Phase (phase_reasons.JournalFull used need)))
by_record (Some (answers.Unsure why)) reread = by_reread reread

-- the outcome where one was asked to decide alone
abbrev pub by_one : Option Party → Option Outcome
by_one None = None
by_one (Some p) = option_map (by_answer p.index) p.ballot

-- the first participant whose answer is no consent
unfoldable pub first_refuser : List Party → Option Party
first_refuser parties = find has_refused parties

-- the outcome by its answer
abbrev pub by_refusal : Party → Option Outcome
by_refusal p = option_map (λ h. outcomes.Rollback (reason_of p.index h)) p.ballot

-- the outcome by the votes: rollback by the first that is no consent; commit where all are read-only, none included; else
-- by the record
abbrev pub by_votes : Course → Option Outcome
by_votes c = elim (first_refuser c.parties) [
  | Some p ↦ by_refusal p
  | None ↦ if not (all_consent c) then None
      else if some_commit c then by_record c.stood c.reread
      else Some (outcomes.Commit Nobody)
]

-- the outcome, as soon as it is fixed
unfoldable pub outcome : Course → Option Outcome
outcome c = elim c.overtaken [
  | Some reason ↦ Some (outcomes.Rollback reason)
  | None ↦ if decides_alone c then by_one (slice_get c.parties 0) else by_votes c
]

-- a decision is wanted once: where each has consented and one waits for the outcome
abbrev pub wants_decision : Course → Bool
wants_decision c = not (decides_alone c) && is_none c.overtaken && is_none c.stood && all_consent c && some_commit c

-- nobody knows whether the record stands, until a reread tells
abbrev pub is_unsure : Option Stood → Bool
is_unsure (Some (answers.Unsure why)) = true
is_unsure _ = false

abbrev pub is_doubtful : Course → Bool
is_doubtful c = is_unsure c.stood && is_none c.reread

-- the place at which the record stands
abbrev pub record_place : Option Stood → Option (Option ℕ) → Option ℕ
record_place (Some (answers.Stands place)) reread = Some place
record_place (Some (answers.Unsure why)) (Some found) = found
record_place _ reread = None

-- a superior has the record of this completion, and tells forget itself
abbrev pub is_overtaken_prepared : Course → Bool
is_overtaken_prepared c = is_some c.overtaken && all_consent c && some_commit c

unfoldable pub waits_for_superior : Course → Bool
waits_for_superior c = not c.one_phase && (is_some (record_place c.stood c.reread) || is_overtaken_prepared c)

-- one was told the outcome and has not completed
unfoldable pub some_incomplete : Course → Bool
some_incomplete c = list_any is_incomplete c.parties

-- forget goes out once the outcome was told; after a commit only where all have completed
abbrev pub may_forget : Course → Outcome → Bool
may_forget c (outcomes.Commit basis) = not (waits_for_superior c) && not (some_incomplete c)
may_forget c _ = not (waits_for_superior c)

-- the places of the next one that is asked, that is told the outcome, and that is told to forget
unfoldable pub next_asked : List Party → Option ℕ
next_asked parties = position is_unasked parties

unfoldable pub next_told : Bool → Outcome → List Party → Option ℕ
next_told alone fixed parties = position (is_untold alone fixed) parties

unfoldable pub next_forgetting : List Party → Option ℕ
next_forgetting parties = position is_unforgotten parties

-- a word of this stage to the participant at this place
abbrev pub errand_at : Stage → Option ℕ → Option Errand
errand_at stage place = option_map (λ at. record { stage = stage; place = at }) place

-- the next one that is told to forget
abbrev pub forgetting : Course → Outcome → Option Errand
forgetting c fixed = if may_forget c fixed then errand_at stages.Forgetting (next_forgetting c.parties) else None

-- the next one that is told the outcome, and then to forget
abbrev pub telling : Course → Outcome → Option Errand
telling c fixed = elim (next_told (decides_alone c) fixed c.parties) [
  | Some place ↦ Some (record { stage = stages.Telling; place = place })
  | None ↦ forgetting c fixed
]

-- the next one that is asked
abbrev pub asking : Course → Option Errand
asking c = errand_at stages.Asking (next_asked c.parties)

-- who is sent a word next, and which: each is asked in list order; then the outcome is told in list order; then forget
unfoldable pub errand : Course → Option Errand
errand c = elim (outcome c) [ Some fixed ↦ telling c fixed | None ↦ asking c ]

-- the word of each stage
abbrev pub first_word : Bool → Word
first_word alone = if alone then (words.Phase phases.CommitOnePhase) else (words.Phase phases.Prepare)

abbrev pub outcome_word : Option Outcome → Word
outcome_word (Some (outcomes.Commit basis)) = words.Phase phases.Commit
outcome_word _ = words.Phase phases.Rollback

abbrev pub word_of : Course → Stage → Word
word_of c stages.Asking = first_word (decides_alone c)
word_of c stages.Telling = outcome_word (outcome c)
word_of c stages.Forgetting = words.Forget

-- the record that a commit word rests on
abbrev pub receipt_of : Word → Option ℕ → ℕ → Option Receipt
receipt_of (words.Phase phases.Commit) (Some place) registration =
    Some (record { place = place; registration = registration })
receipt_of _ _ _ = None

-- a word to a participant, as a call
abbrev pub outward : Course → Word → Party → Outward
outward c word p = record {
  number = c.number;
  registration = p.index;
  to = p.to;
  word = word;
  receipt = receipt_of word (record_place c.stood c.reread) p.index;
}

abbrev pub outward_of : Course → Errand → Option Outward
outward_of c e = option_map (outward c (word_of c e.stage)) (slice_get c.parties e.place)

-- the word that goes out next: at most one is out at a time
unfoldable pub next_word : Course → Option Outward
next_word c = if is_some c.out then None else option_and_then (outward_of c) (errand c)

-- it is out until it is answered or overtaken
abbrev pub after_next : Course → Course
after_next c = if is_some c.out then c else record c { out = errand c }

-- the registration whose vote the word that is out asks for
abbrev pub voter_at : Course → Errand → Option ℕ
voter_at c e = elim e.stage [
  | stages.Asking ↦ if decides_alone c then None else option_map (λ (p : Party). p.index) (slice_get c.parties e.place)
  | stages.Telling ↦ None
  | stages.Forgetting ↦ None
]

abbrev pub voter : Course → Option ℕ
voter c = option_and_then (voter_at c) c.out

-- each participant but the one at this place has answered its first word
unfoldable pub others_have_answered : ℕ → List Party → Bool
others_have_answered place parties = list_all has_answered (take place parties) && list_all has_answered (drop (place + 1) parties)

-- the word that is out is the last that asks: each other participant has answered its own
abbrev pub asks_last : List Party → Errand → Bool
asks_last parties e = elim e.stage [
  | stages.Asking ↦ others_have_answered e.place parties
  | stages.Telling ↦ false
  | stages.Forgetting ↦ false
]

abbrev pub is_last_asked : Course → Bool
is_last_asked c = elim c.out [ Some e ↦ asks_last c.parties e | None ↦ false ]

-- the next number
abbrev pub following : CallNumber → CallNumber
following n = record n { serial = n.serial + 1 }

-- what a participant has answered then
abbrev pub heard_at : Stage → Heard → Party → Party
heard_at stages.Asking h p = record p { ballot = Some h }
heard_at stages.Telling h p = record p { told = Some h }
heard_at stages.Forgetting h p = record p { forgot = Some h }

abbrev pub heard_by : List Party → Errand → Heard → List Party
heard_by parties e h = elim (slice_get parties e.place) [ Some p ↦ slice_set parties e.place (heard_at e.stage h p) | None ↦ parties ]

-- an answer counts for the word that is out; with any other number it changes nothing
abbrev pub answered : Heard → Course → Errand → Course
answered h c e = record c { parties = heard_by c.parties e h; number = following c.number; out = None }

-- two numbers name the same call
abbrev pub same_number : CallNumber → CallNumber → Bool
same_number a b = a.life == b.life && a.slot == b.slot && a.generation == b.generation && a.serial == b.serial

abbrev pub after_answer : CallNumber → Heard → Course → Course
after_answer n h c = elim c.out [ Some e ↦ if same_number n c.number then answered h c e else c | None ↦ c ]

-- the journal's answer, where it is wanted
abbrev pub after_decided : Stood → Course → Course
after_decided stood c = if wants_decision c then record c { stood = Some stood } else c

-- what a reread found, where nobody knew
abbrev pub after_reread : Option ℕ → Course → Course
after_reread found c = if is_doubtful c then record c { reread = Some found } else c

-- a rollback from outside comes before the outcome is fixed and before the journal was asked, and never once the only
-- participant was told to decide
abbrev pub may_roll_back : Course → Bool
may_roll_back c = is_none (outcome c) && is_none c.stood && not (decides_alone c && is_some c.out)

-- a word that is out then is heard no more
abbrev pub overtaken_number : Course → CallNumber
overtaken_number c = if is_some c.out then following c.number else c.number

abbrev pub after_rollback : Reason → Course → Course
after_rollback reason c =
    if is_outside reason && may_roll_back c then record c { overtaken = Some reason; out = None; number = overtaken_number c } else c

-- the decision record names the registrations that have voted commit
abbrev pub is_named : Course → ℕ → Bool
is_named c g = list_any (λ p. p.index == g && has_voted_commit p) c.parties
