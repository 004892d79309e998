-- Short lists that aren't safe, with several families, or with a line that comes too late.
use Rattle.std.proofs.Common.{◌≡◌, ℕ, true, false, inl, inr, List, [], ◌∷◌, ◌++◌, Some, refl}
use Rattle.ots_model.specs.declared.completion.Word.TheVariants as words
use Rattle.ots_model.specs.declared.line.Line.{Line}
use Rattle.ots_model.specs.declared.line.Line.TheVariants as lines
use Rattle.ots_model.specs.Safe as safe
use Rattle.ots_model.specs.Safe.{IsSent, IsTop, IsUpFrom, TakesPart, IsDecidedBy, IsUnder, AreSafe}
use Rattle.ots_model.specs.SafeExamples.{node, end, top, below, low, middle, one, other, third, consents, records, registered, decided, told, goes_on, both_consented, all_consented, subordinate, alone, told_beside, told_below}
use Rattle.ots_model.proofs.SafeTests.{line_at, stands, any, lets_decide, decides, registered_at, top_at, imported_at}
use Rattle.ots_model.proofs.SafePassing.{under_top, under_imported, decided_above}
use Rattle.ots_model.proofs.SafeRefusing.{commits_one, unrecorded, vote_open, part_of_top, part_of_imported}

-- families one above the other
record AreImported (all : List Line) : Type 0 where
  at_top : line_at 0 all ≡ Some (lines.Top top node)
  at_middle : line_at 1 all ≡ Some (lines.Imp middle top node)
  at_low : line_at 3 all ≡ Some (lines.Imp low middle node)
  at_one : line_at 5 all ≡ Some (lines.Reg one low end)
  middle_waits : any (lets_decide middle) all ≡ false
  low_waits : any (lets_decide low) all ≡ false

under_low : (all : List Line) → AreImported all → IsUnder one low top all
under_low all are =
    let is_top : IsTop top all = top_at 0 all top node are.at_top in
    let by_top : IsDecidedBy all top middle = decided_above 1 all top middle top are.at_middle are.middle_waits (inl is_top) (safe.alone (inl is_top)) in
    let is_middle = imported_at 1 all middle top node are.at_middle in
    under_imported 5 3 all one low middle top are.at_one are.at_low (decided_above 3 all top low middle are.at_low are.low_waits (inr (top, is_middle)) by_top)

middle_up : (all : List Line) → AreImported all → IsUpFrom all middle top
middle_up all are =
    safe.above middle top top top (imported_at 1 all middle top node are.at_middle) (safe.IsOf.own (inl (top_at 0 all top node are.at_top))) (safe.itself top)

low_up : (all : List Line) (x : List ℕ) → AreImported all → IsUpFrom all middle x → IsUpFrom all low x
low_up all x are up =
    let is_middle = imported_at 1 all middle top node are.at_middle in
    safe.above low middle middle x (imported_at 3 all low middle node are.at_low) (safe.IsOf.own (inr (top, is_middle))) up

-- without the record of the highest
abbrev own_record : List Line
own_record = all_consented ++ records low ∷ []

pub by_its_own_record : ¬ (AreSafe (all_consented ++ goes_on low))
by_its_own_record = unrecorded own_record [] low top (under_low (commits_one own_record []) (record { at_top = refl; at_middle = refl; at_low = refl; at_one = refl; middle_waits = refl; low_waits = refl })) refl

abbrev next_record : List Line
next_record = all_consented ++ records middle ∷ []

pub by_the_next_record : ¬ (AreSafe (all_consented ++ goes_on middle))
by_the_next_record = unrecorded next_record [] low top (under_low (commits_one next_record []) (record { at_top = refl; at_middle = refl; at_low = refl; at_one = refl; middle_waits = refl; low_waits = refl })) refl

-- with a vote open
abbrev but_one : List Line
but_one = both_consented ++ consents other ∷ consents third ∷ records top ∷ []

pub its_own_vote_open : ¬ (AreSafe (both_consented ++ consents other ∷ consents third ∷ goes_on top))
its_own_vote_open =
    let all = commits_one but_one [] in
    let are : AreImported all = record { at_top = refl; at_middle = refl; at_low = refl; at_one = refl; middle_waits = refl; low_waits = refl } in
    vote_open but_one [] low top low one (under_low all are) (safe.itself low) (low_up all top are (middle_up all are)) (part_of_imported 5 3 all one low middle end refl refl) refl

abbrev but_other : List Line
but_other = both_consented ++ consents one ∷ consents third ∷ records top ∷ []

pub vote_between_open : ¬ (AreSafe (both_consented ++ consents one ∷ consents third ∷ goes_on top))
vote_between_open =
    let all = commits_one but_other [] in
    let are : AreImported all = record { at_top = refl; at_middle = refl; at_low = refl; at_one = refl; middle_waits = refl; low_waits = refl } in
    vote_open but_other [] low top middle other (under_low all are) (low_up all middle are (safe.itself middle)) (middle_up all are) (part_of_imported 6 1 all other middle top end refl refl) refl

abbrev but_third : List Line
but_third = both_consented ++ consents one ∷ consents other ∷ records top ∷ []

pub vote_above_open : ¬ (AreSafe (both_consented ++ consents one ∷ consents other ∷ goes_on top))
vote_above_open =
    let all = commits_one but_third [] in
    let are : AreImported all = record { at_top = refl; at_middle = refl; at_low = refl; at_one = refl; middle_waits = refl; low_waits = refl } in
    vote_open but_third [] low top top third (under_low all are) (low_up all top are (middle_up all are)) (safe.itself top) (part_of_top 7 0 all third top end refl refl) refl

-- a subordinate that decides alone
alone_open : (before behind : List Line) → line_at 1 (commits_one before behind) ≡ Some (lines.Imp low top node)
    → line_at 3 (commits_one before behind) ≡ Some (lines.Reg one low end) → IsSent words.CommitOnePhase low (commits_one before behind)
    → any (decides low) before ≡ false → ¬ (AreSafe (commits_one before behind))
alone_open before behind at_low at_one is_told none =
    unrecorded before behind low low (under_imported 3 1 (commits_one before behind) one low top low at_one at_low (safe.alone (inr is_told))) none

abbrev superior_recorded : List Line
superior_recorded = alone ++ consents low ∷ records top ∷ []

pub by_its_superiors_record : ¬ (AreSafe (alone ++ consents low ∷ goes_on top))
by_its_superiors_record =
    let all = commits_one superior_recorded [] in
    alone_open superior_recorded [] refl refl (2, stands 5 all (lines.Send 2 words.CommitOnePhase low) refl) refl

abbrev own_recorded : List Line
own_recorded = subordinate ++ consents low ∷ records low ∷ []

pub by_its_own_record_untold : ¬ (AreSafe (subordinate ++ consents low ∷ goes_on low))
by_its_own_record_untold =
    let all = commits_one own_recorded [] in
    let is_top : IsTop top all = top_at 0 all top node refl in
    let by : IsDecidedBy all top low = decided_above 1 all top low top refl refl (inl is_top) (safe.alone (inl is_top)) in
    unrecorded own_recorded [] low top (under_imported 3 1 all one low top top refl refl by) refl

-- too late
pub registered_late : ¬ (AreSafe (told ++ lines.Reg other top end ∷ []))
registered_late =
    let late = lines.Reg other top end ∷ [] in
    let all = commits_one decided late in
    vote_open decided late top top top other (under_top 1 0 all one top refl refl) (safe.itself top) (safe.itself top) (part_of_top 6 0 all other top end refl refl) refl

abbrev recorded_below : List Line
recorded_below = subordinate ++ consents low ∷ records top ∷ []

pub registered_late_above : ¬ (AreSafe (told_below ++ lines.Reg other top end ∷ []))
registered_late_above =
    let late = lines.Reg other top end ∷ [] in
    let all = commits_one recorded_below late in
    let is_top : IsTop top all = top_at 0 all top node refl in
    let by : IsDecidedBy all top low = decided_above 1 all top low top refl refl (inl is_top) (safe.alone (inl is_top)) in
    let up : IsUpFrom all low top = safe.above low top top top (imported_at 1 all low top node refl) (safe.IsOf.own (inl is_top)) (safe.itself top) in
    vote_open recorded_below late low top top other (under_imported 3 1 all one low top top refl refl by) up (safe.itself top) (part_of_top 8 0 all other top end refl refl) refl

abbrev beside : List Line
beside = registered ++ lines.Sub below top ∷ lines.Reg other below end ∷ consents one ∷ records top ∷ []

pub committed_late : ¬ (AreSafe (told_beside ++ lines.SubDone below true ∷ []))
committed_late =
    let late = lines.SubDone below true ∷ [] in
    let all = commits_one beside late in
    let top_joined = safe.IsJoined.own (inl (top_at 0 all top node refl)) in
    let joined = safe.IsJoined.committed below top (stands 7 all (lines.SubDone below true) refl) (stands 2 all (lines.Sub below top) refl) top_joined in
    let takes : TakesPart other top all = (below, registered_at 3 all other below end refl, joined) in
    vote_open beside late top top top other (under_top 1 0 all one top refl refl) (safe.itself top) (safe.itself top) takes refl

abbrev below_recorded : List Line
below_recorded = subordinate ++ consents low ∷ records top ∷ []

pub told_alone_late : ¬ (AreSafe (told_below ++ lines.Send 2 words.CommitOnePhase low ∷ []))
told_alone_late =
    let late = lines.Send 2 words.CommitOnePhase low ∷ [] in
    let all = commits_one below_recorded late in
    alone_open below_recorded late refl refl (2, stands 8 all (lines.Send 2 words.CommitOnePhase low) refl) refl
