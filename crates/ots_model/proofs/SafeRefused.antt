-- Short lists that aren't safe.
use Rattle.std.proofs.Common.{◌≡◌, ℕ, true, false, inl, inr, List, [], ◌∷◌, ◌++◌, Some, refl, ap, arith, subst}
use Rattle.ots_model.specs.declared.completion.Vote.TheVariants.{VoteRollback}
use Rattle.ots_model.specs.declared.completion.Word.{Word}
use Rattle.ots_model.specs.declared.completion.Word.TheVariants as words
use Rattle.ots_model.specs.declared.completion.Ground.TheVariants.{Nobody}
use Rattle.ots_model.specs.declared.completion.Outcome.TheVariants.{Commit}
use Rattle.ots_model.specs.declared.line.Decision.TheVariants as decisions
use Rattle.ots_model.specs.declared.line.Line.{Line}
use Rattle.ots_model.specs.declared.line.Line.TheVariants as lines
use Rattle.ots_model.specs.Safe as safe
use Rattle.ots_model.specs.Safe.{Stands, IsFamily, TakesPart, IsCommittedUp, IsForParticipants, AreSafe}
use Rattle.ots_model.specs.SafeExamples.{node, end, top, below, low, one, other, tell, applied, undone, consents, records, voted, decided, told, told_alone, half_voted, goes_on, nested, nested_twice, joined}
use Rattle.ots_model.proofs.SafeTests.{line_at, stands, any, initial, makes_family, ends, decides, votes_for, not_family, not_registered, registered_at, top_at}
use Rattle.ots_model.proofs.SafePassing.{under_top}
use Rattle.ots_model.proofs.SafeRefusing.{agrees, commits_one, unrecorded, vote_open, part_of_top, unready, still_active, never_told}

-- One way
pub rollback_after_commit : ¬ (AreSafe (told ++ tell words.Rollback ∷ []))
rollback_after_commit s =
    let all = told ++ tell words.Rollback ∷ [] in
    (agrees all s).one_way one (inl (1, stands 5 all (tell words.Commit) refl)) (1, stands 6 all (tell words.Rollback) refl)

pub rollback_after_one_phase : ¬ (AreSafe (told_alone ++ tell words.Rollback ∷ []))
rollback_after_one_phase s =
    let all = told_alone ++ tell words.Rollback ∷ [] in
    (agrees all s).one_way one (inr (1, stands 2 all (tell words.CommitOnePhase) refl)) (1, stands 3 all (tell words.Rollback) refl)

pub commit_after_rollback : ¬ (AreSafe (decided ++ tell words.Rollback ∷ tell words.Commit ∷ []))
commit_after_rollback s =
    let all = decided ++ tell words.Rollback ∷ tell words.Commit ∷ [] in
    (agrees all s).one_way one (inl (1, stands 6 all (tell words.Commit) refl)) (1, stands 5 all (tell words.Rollback) refl)

pub one_phase_after_rollback : ¬ (AreSafe (voted ++ tell words.Rollback ∷ tell words.CommitOnePhase ∷ []))
one_phase_after_rollback s =
    let all = voted ++ tell words.Rollback ∷ tell words.CommitOnePhase ∷ [] in
    (agrees all s).one_way one (inr (1, stands 5 all (tell words.CommitOnePhase) refl)) (1, stands 4 all (tell words.Rollback) refl)

-- By decision: the vote of the second resource
other_open : (before behind : List Line) → line_at 0 (commits_one before behind) ≡ Some (lines.Top top node)
    → line_at 1 (commits_one before behind) ≡ Some (lines.Reg one top end) → line_at 2 (commits_one before behind) ≡ Some (lines.Reg other top end)
    → any (votes_for other) before ≡ false → ¬ (AreSafe (commits_one before behind))
other_open before behind at_top at_one at_other none =
    let all = commits_one before behind in
    vote_open before behind top top top other (under_top 1 0 all one top at_one at_top) (safe.itself top) (safe.itself top) (part_of_top 2 0 all other top end at_other at_top) none

pub with_a_vote_open : ¬ (AreSafe (half_voted ++ goes_on top))
with_a_vote_open = other_open (half_voted ++ records top ∷ []) [] refl refl refl refl

pub with_a_vote_for_rollback : ¬ (AreSafe (half_voted ++ lines.Voted other VoteRollback ∷ goes_on top))
with_a_vote_for_rollback = other_open (half_voted ++ lines.Voted other VoteRollback ∷ records top ∷ []) [] refl refl refl refl

pub with_a_vote_behind : ¬ (AreSafe (half_voted ++ goes_on top ++ consents other ∷ []))
with_a_vote_behind = other_open (half_voted ++ records top ∷ []) (consents other ∷ []) refl refl refl refl

-- and the record
top_open : (before behind : List Line) → line_at 0 (commits_one before behind) ≡ Some (lines.Top top node)
    → line_at 1 (commits_one before behind) ≡ Some (lines.Reg one top end) → any (decides top) before ≡ false → ¬ (AreSafe (commits_one before behind))
top_open before behind at_top at_one none = unrecorded before behind top top (under_top 1 0 (commits_one before behind) one top at_one at_top) none

pub without_a_record : ¬ (AreSafe (voted ++ tell words.Commit ∷ []))
without_a_record = top_open voted [] refl refl refl

pub on_another_ground : ¬ (AreSafe (voted ++ lines.Decide top (Commit Nobody) ∷ tell words.Commit ∷ []))
on_another_ground = top_open (voted ++ lines.Decide top (Commit Nobody) ∷ []) [] refl refl refl

pub recorded_behind : ¬ (AreSafe (voted ++ tell words.Commit ∷ records top ∷ []))
recorded_behind = top_open voted (records top ∷ []) refl refl refl

-- To participants
pub of_unregistered : ¬ (AreSafe (lines.Top top node ∷ tell words.Prepare ∷ []))
of_unregistered s =
    let all = lines.Top top node ∷ tell words.Prepare ∷ [] in
    let is = ((agrees all s).to_participants (lines.Top top node ∷ []) [] 1 words.Prepare one tt refl).registered in
    not_registered one is.0 all refl is.1

of_nested : (before behind : List Line) (word : Word) → IsForParticipants word → line_at 2 (before ++ (tell word ∷ behind)) ≡ Some (lines.Reg one below end)
    → any (makes_family below) (before ++ (tell word ∷ behind)) ≡ false → any (ends below) before ≡ false → ¬ (AreSafe (before ++ (tell word ∷ behind)))
of_nested before behind word for at_one no_family none =
    let all = before ++ (tell word ∷ behind) in
    unready before behind word below for (registered_at 2 all one below end at_one) (still_active all before below no_family none)

pub of_active : ¬ (AreSafe (nested ++ tell words.Prepare ∷ []))
of_active = of_nested nested [] words.Prepare tt refl refl refl

pub of_rolled_back : ¬ (AreSafe (nested ++ lines.SubDone below false ∷ tell words.Prepare ∷ []))
of_rolled_back = of_nested (nested ++ lines.SubDone below false ∷ []) [] words.Prepare tt refl refl refl

pub committed_behind : ¬ (AreSafe (nested ++ tell words.CommitOnePhase ∷ lines.SubDone below true ∷ []))
committed_behind = of_nested nested (lines.SubDone below true ∷ []) words.CommitOnePhase tt refl refl refl

-- below a parent that is active
abbrev asked : List Line
asked = nested_twice ++ tell words.Prepare ∷ []

other_name : below ≡ low → ⊥
other_name e = let n : ◌≡◌ {A = ℕ} 115 117 = ap initial e in absurd (omega arith)

only_parent : (parent : List ℕ) → Stands (lines.Sub low parent) asked → parent ≡ below
only_parent parent (inl same) = absurd (cc)
only_parent parent (inr (inl same)) = absurd (other_name (cc))
only_parent parent (inr (inr (inl same))) = cc
only_parent parent (inr (inr (inr (inl same)))) = absurd (cc)
only_parent parent (inr (inr (inr (inr (inl same))))) = absurd (cc)
only_parent parent (inr (inr (inr (inr (inr (inl same)))))) = absurd (cc)
only_parent parent (inr (inr (inr (inr (inr (inr s)))))) = absurd s

low_active : (t : List ℕ) → t ≡ low → IsCommittedUp asked nested_twice t → ⊥
low_active _ e (safe.IsCommittedUp.own t family) = not_family low asked refl (subst (λ (x : List ℕ). IsFamily x asked) e family)
low_active _ e (safe.IsCommittedUp.committed t parent done s up) =
    let at = only_parent parent (subst (λ (x : List ℕ). Stands (lines.Sub x parent) asked) e s) in
    still_active asked nested_twice below refl refl (subst (λ (x : List ℕ). IsCommittedUp asked nested_twice x) at up)

pub below_an_active : ¬ (AreSafe (nested_twice ++ tell words.Prepare ∷ []))
below_an_active = unready nested_twice [] words.Prepare low tt (registered_at 3 asked one low end refl) (low_active low refl)

-- Joined
abbrev joined_recorded : List Line
joined_recorded = joined ++ consents one ∷ records top ∷ []

pub joined_vote_open : ¬ (AreSafe (joined ++ consents one ∷ goes_on top))
joined_vote_open =
    let all = commits_one joined_recorded [] in
    let top_joined = safe.IsJoined.own (inl (top_at 0 all top node refl)) in
    let is_joined = safe.IsJoined.committed below top (stands 4 all (lines.SubDone below true) refl) (stands 2 all (lines.Sub below top) refl) top_joined in
    let takes : TakesPart other top all = (below, registered_at 3 all other below end refl, is_joined) in
    vote_open joined_recorded [] top top top other (under_top 1 0 all one top refl refl) (safe.itself top) (safe.itself top) takes refl

-- Kept
pub applied_untold : ¬ (AreSafe (decided ++ applied ∷ []))
applied_untold = never_told decided [] refl refl

pub applied_before : ¬ (AreSafe (decided ++ applied ∷ tell words.Commit ∷ []))
applied_before = never_told decided (tell words.Commit ∷ []) refl refl

pub rollback_learnt : ¬ (AreSafe (decided ++ lines.Learn one decisions.Rollback ∷ applied ∷ []))
rollback_learnt = never_told (decided ++ lines.Learn one decisions.Rollback ∷ []) [] refl refl

pub applied_on_rollback : ¬ (AreSafe (voted ++ tell words.Rollback ∷ lines.Learn one decisions.Commit ∷ applied ∷ []))
applied_on_rollback s =
    let all = voted ++ tell words.Rollback ∷ lines.Learn one decisions.Commit ∷ applied ∷ [] in
    (agrees all s).kept.not_applied one (1, stands 4 all (tell words.Rollback) refl) (stands 6 all applied refl)

pub undone_when_told : ¬ (AreSafe (told ++ undone ∷ []))
undone_when_told s =
    let all = told ++ undone ∷ [] in
    (agrees all s).kept.not_undone one (1, stands 5 all (tell words.Commit) refl) (stands 6 all undone refl)

pub told_when_undone : ¬ (AreSafe (decided ++ undone ∷ tell words.Commit ∷ []))
told_when_undone s =
    let all = decided ++ undone ∷ tell words.Commit ∷ [] in
    (agrees all s).kept.not_undone one (1, stands 6 all (tell words.Commit) refl) (stands 5 all undone refl)

pub both_states : ¬ (AreSafe (told_alone ++ applied ∷ undone ∷ []))
both_states s =
    let all = told_alone ++ applied ∷ undone ∷ [] in
    (agrees all s).kept.one_state one (stands 3 all applied refl) (stands 4 all undone refl)
