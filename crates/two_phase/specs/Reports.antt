-- What a completion reports: what became of the updates and what that makes together (exceptions HeuristicMixed and
-- HeuristicHazard of module CosTransactions), whether all have completed, and who is still to be told.
use Rattle.std.specs.Prelude.{ℕ, Bool, true, false, not, ◌&&◌, ◌||◌, List, [], map, filter, Option, Some, None, if◌then◌else◌}
use Rattle.std.specs.List.{flat_map, list_all, list_any}
use Rattle.ots_model.specs.declared.line.Decision.{Decision}
use Rattle.ots_model.specs.declared.line.Decision.TheVariants.{Commit, Rollback}
use Rattle.ots_model.specs.declared.completion.Disposition.{Disposition}
use Rattle.ots_model.specs.declared.service.Join.{Join}
use Rattle.ots_model.specs.declared.service.Join.TheVariants as joins
use Rattle.ots_model.specs.Numbered.{Outcome}
use Rattle.ots_model.specs.declared.completion.Outcome.TheVariants as outcomes
use Rattle.heuristic_join.specs.Join.{join_root, join_sub}
use Rattle.two_phase.specs.Course.{Course, decides_alone, outcome, waits_for_superior}
use Rattle.two_phase.specs.Parties.{dispositions_of, is_through, is_owed}
use Rattle.two_phase.specs.declared.party.Party.{Party}
use Rattle.two_phase.specs.declared.party.Stage.{Stage}
use Rattle.two_phase.specs.declared.party.Stage.TheVariants as stages

-- what is decided: what isn't committed is rolled back
abbrev pub decision_by : Option Outcome → Decision
decision_by (Some (outcomes.Commit basis)) = Commit
decision_by _ = Rollback

-- what was heard of the updates of these participants, in list order
unfoldable pub gathered : Decision → List Party → List Disposition
gathered told parties = flat_map (dispositions_of told) parties

-- what was heard of the updates so far
abbrev pub dispositions : Course → List Disposition
dispositions c = gathered (decision_by (outcome c)) c.parties

-- what an outcome and these dispositions make together at a root; where the only participant was to decide and didn't tell,
-- nobody knows
abbrev pub joined_at_root : Option Outcome → List Disposition → Join
joined_at_root None list = joins.Nothing
joined_at_root (Some outcomes.Unknown) list = joins.Hazard
joined_at_root (Some (outcomes.Commit basis)) list = join_root Commit list
joined_at_root (Some (outcomes.Rollback reason)) list = join_root Rollback list

abbrev pub root_join : Course → Join
root_join c = joined_at_root (outcome c) (dispositions c)

-- the same at a subordinate, which was told that outcome
abbrev pub joined_below : Option Outcome → List Disposition → Join
joined_below None list = joins.Nothing
joined_below (Some outcomes.Unknown) list = joins.Hazard
joined_below (Some (outcomes.Commit basis)) list = join_sub Commit list
joined_below (Some (outcomes.Rollback reason)) list = join_sub Rollback list

abbrev pub sub_join : Course → Join
sub_join c = joined_below (outcome c) (dispositions c)

-- these participants have completed, as far as they were to be told
unfoldable pub all_through : Bool → Outcome → List Party → Bool
all_through alone fixed parties = list_all (is_through alone fixed) parties

-- all have completed
abbrev pub all_completed : Course → Bool
all_completed c = elim (outcome c) [ Some fixed ↦ all_through (decides_alone c) fixed c.parties | None ↦ false ]

-- some of these participants is owed such a word
unfoldable pub some_owed : Stage → List Party → Bool
some_owed stage parties = list_any (is_owed stage) parties

-- all have completed, and nobody keeps a heuristic outcome: the record may be named done
abbrev pub is_settled : Course → Bool
is_settled c = all_completed c && not (some_owed stages.Forgetting c.parties)

-- the numbers of those that are owed such a word, in list order
unfoldable pub owed_numbers : Stage → List Party → List ℕ
owed_numbers stage parties = map (λ (p : Party). p.index) (filter (is_owed stage) parties)

-- the outcome is commit
abbrev pub is_commit : Option Outcome → Bool
is_commit (Some (outcomes.Commit basis)) = true
is_commit _ = false

-- whether a word of this stage may be owed: after a commit, and a forget also where a superior tells it
abbrev pub may_owe : Stage → Course → Bool
may_owe stages.Forgetting c = is_commit (outcome c) || waits_for_superior c
may_owe _ c = is_commit (outcome c)

-- nothing is owed where it may not
abbrev pub owed_by : Stage → Course → List ℕ
owed_by stage c = if may_owe stage c then owed_numbers stage c.parties else []

-- who is still to be told to commit, and who to forget
abbrev pub pending_commits : Course → List ℕ
pending_commits c = owed_by stages.Telling c

abbrev pub pending_forgets : Course → List ℕ
pending_forgets c = owed_by stages.Forgetting c
