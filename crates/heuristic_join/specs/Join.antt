-- What becomes of several participants' updates together: exceptions HeuristicMixed and HeuristicHazard of module
-- CosTransactions. That a root's decision counts as known, and the case Opposite, are our profile.
use Rattle.std.specs.Prelude.{◌&&◌, ◌||◌, Bool, true, false, List, length, nat_lt, if◌then◌else◌}
use Rattle.std.specs.List.{list_any, list_all}
use Rattle.ots_model.specs.declared.completion.Disposition.{Disposition}
use Rattle.ots_model.specs.declared.completion.Disposition.TheVariants.{Committed, RolledBack, Mixed, Unknown}
use Rattle.ots_model.specs.declared.line.Decision.{Decision}
use Rattle.ots_model.specs.declared.line.Decision.TheVariants.{Commit, Rollback}
use Rattle.ots_model.specs.declared.service.Join.{Join}
use Rattle.ots_model.specs.declared.service.Join.TheVariants as join

-- some updates are known to be committed
abbrev pub is_committed : Disposition → Bool
is_committed Committed = true
is_committed _ = false

-- some updates are known to be rolled back
abbrev pub is_rolled_back : Disposition → Bool
is_rolled_back RolledBack = true
is_rolled_back _ = false

-- both is known of one participant
abbrev pub is_mixed : Disposition → Bool
is_mixed Mixed = true
is_mixed _ = false

-- what became of the updates isn't known
abbrev pub is_unknown : Disposition → Bool
is_unknown Unknown = true
is_unknown _ = false

-- the other thing than was told
abbrev pub is_other : Decision → Disposition → Bool
is_other Commit d = is_rolled_back d
is_other Rollback d = is_committed d

-- some updates were committed and others rolled back, where these are known beside the list
abbrev pub are_mixed : Bool → Bool → List Disposition → Bool
are_mixed committed rolled_back list =
    list_any is_mixed list
    || ((committed || list_any is_committed list) && (rolled_back || list_any is_rolled_back list))

-- the decision is to commit
abbrev pub is_commit : Decision → Bool
is_commit Commit = true
is_commit Rollback = false

-- the decision is to roll back
abbrev pub is_rollback : Decision → Bool
is_rollback Commit = false
is_rollback Rollback = true

-- at a root: its decision is known, as each member that committed or rolled back is
abbrev pub join_root : Decision → List Disposition → Join
join_root decision list =
    if are_mixed (is_commit decision) (is_rollback decision) list then join.Mixed
    else if list_any is_unknown list then join.Hazard
    else join.Nothing

-- there are participants, and each did the other thing than it was told
abbrev pub are_opposite : Decision → List Disposition → Bool
are_opposite told list = nat_lt 0 (length list) && list_all (is_other told) list

-- at a subordinate: what it was told isn't known of anybody
abbrev pub join_sub : Decision → List Disposition → Join
join_sub told list =
    if are_mixed false false list then join.Mixed
    else if list_any is_unknown list then join.Hazard
    else if are_opposite told list then join.Opposite
    else join.Nothing
