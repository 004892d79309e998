-- What these scripts tell, line by line, up to the journals at their ends; and the journal of the short one (our profile).
use Rattle.std.specs.Prelude.{ℕ, List, [], ◌∷◌, ◌++◌, codes}
use Rattle.nodes_world.specs.Told.{Told}
use Rattle.nodes_plays.specs.Lines.{up, down, top, sub, call_register, call_sub, call_status, call_commit, call_rollback, reg, ans, ans_made, ans_not_exist, ans_rolled_back, ans_status, subdone_committed, subdone_rolled_back, send_prepare, send_commit, send_rollback, recv, prepared, applied, undone, back, back_commit, back_rollback, vote_commit, vote_rollback, decide_commit, decide_nobody, decide_rollback, done, journal}
use Rattle.nodes_plays.specs.Scripts.{n1, e1, t1, t2, t3, g1, g2, g3}

-- ---- of the first three scripts

-- two resources are registered with the transaction of a node, commit is called, and the first votes commit
abbrev pub first_voted : List Told
first_voted =
    up n1 1
    ∷ up e1 1
    ∷ top t1 n1
    ∷ call_register 1 t1
    ∷ reg g1 t1 e1
    ∷ ans_made 1 1
    ∷ call_register 2 t1
    ∷ reg g2 t1 e1
    ∷ ans_made 2 2
    ∷ call_commit 3 t1
    ∷ send_prepare 4 g1
    ∷ recv 4
    ∷ prepared g1
    ∷ back_commit 5 4
    ∷ recv 5
    ∷ vote_commit g1
    ∷ []

-- the second votes commit too
abbrev pub second_voted : List Told
second_voted =
    send_prepare 6 g2
    ∷ recv 6
    ∷ prepared g2
    ∷ back_commit 7 6
    ∷ recv 7
    ∷ vote_commit g2
    ∷ []

-- `commit.script`: the decision is recorded, and both are told commit
abbrev pub commit_lines : List Told
commit_lines =
    first_voted
    ++ second_voted
    ++ decide_commit t1
    ∷ send_commit 8 g1
    ∷ recv 8
    ∷ applied g1
    ∷ back 9 8
    ∷ recv 9
    ∷ send_commit 10 g2
    ∷ recv 10
    ∷ applied g2
    ∷ back 11 10
    ∷ recv 11
    ∷ done t1
    ∷ ans 3
    ∷ []

-- `rollback.script`: the second votes rollback, and the first is told rollback
abbrev pub rollback_lines : List Told
rollback_lines =
    first_voted
    ++ send_prepare 6 g2
    ∷ recv 6
    ∷ undone g2
    ∷ back_rollback 7 6
    ∷ recv 7
    ∷ vote_rollback g2
    ∷ decide_rollback t1 g2
    ∷ send_rollback 8 g1
    ∷ recv 8
    ∷ undone g1
    ∷ back 9 8
    ∷ recv 9
    ∷ ans_rolled_back 3
    ∷ []

-- `crash.script`: the node goes down in the write of its decision, and tells it again in its next life
abbrev pub crash_lines : List Told
crash_lines =
    first_voted
    ++ second_voted
    ++ down n1
    ∷ up n1 2
    ∷ decide_commit t1
    ∷ send_commit 8 g1
    ∷ send_commit 9 g2
    ∷ recv 8
    ∷ applied g1
    ∷ back 10 8
    ∷ recv 9
    ∷ applied g2
    ∷ back 11 9
    ∷ recv 10
    ∷ recv 11
    ∷ done t1
    ∷ []

-- ---- `nested.script`

-- two subtransactions are made, and a resource is registered with each of the three
abbrev pub nested_made : List Told
nested_made =
    up n1 1
    ∷ up e1 1
    ∷ top t1 n1
    ∷ call_sub 1 t1
    ∷ sub t2 t1
    ∷ ans_made 1 1
    ∷ call_sub 2 t1
    ∷ sub t3 t1
    ∷ ans_made 2 2
    ∷ call_register 3 t2
    ∷ reg g1 t2 e1
    ∷ ans_made 3 1
    ∷ call_register 4 t1
    ∷ reg g2 t1 e1
    ∷ ans_made 4 2
    ∷ call_register 5 t3
    ∷ reg g3 t3 e1
    ∷ ans_made 5 3
    ∷ []

-- the first is committed, and the second rolled back
abbrev pub nested_ended : List Told
nested_ended =
    call_commit 6 t2
    ∷ subdone_committed t2
    ∷ ans 6
    ∷ call_rollback 7 t3
    ∷ subdone_rolled_back t3
    ∷ send_rollback 8 g3
    ∷ recv 8
    ∷ undone g3
    ∷ back 9 8
    ∷ recv 9
    ∷ ans 7
    ∷ call_status 10 t3
    ∷ ans_status 10
    ∷ []

-- the resource of the first takes part in the two phases
abbrev pub nested_lines : List Told
nested_lines =
    nested_made
    ++ nested_ended
    ++ call_commit 11 t1
    ∷ send_prepare 12 g2
    ∷ recv 12
    ∷ prepared g2
    ∷ back_commit 13 12
    ∷ recv 13
    ∷ vote_commit g2
    ∷ send_prepare 14 g1
    ∷ recv 14
    ∷ prepared g1
    ∷ back_commit 15 14
    ∷ recv 15
    ∷ vote_commit g1
    ∷ decide_commit t1
    ∷ send_commit 16 g2
    ∷ recv 16
    ∷ applied g2
    ∷ back 17 16
    ∷ recv 17
    ∷ send_commit 18 g1
    ∷ recv 18
    ∷ applied g1
    ∷ back 19 18
    ∷ recv 19
    ∷ done t1
    ∷ ans 11
    ∷ []

-- ---- the short script

-- the call that comes again finds no object
abbrev pub short_lines : List Told
short_lines =
    up n1 1
    ∷ top t1 n1
    ∷ call_commit 1 t1
    ∷ decide_nobody t1
    ∷ ans 1
    ∷ down n1
    ∷ up n1 2
    ∷ call_commit 2 t1
    ∷ ans_not_exist 2
    ∷ []

-- its journal: the header, two lives, and a closed gate
abbrev pub two_lives : List ℕ
two_lives = codes "OTSJ" ++ 0 ∷ 0 ∷ 0 ∷ 1 ∷ 0 ∷ 0 ∷ 0 ∷ 0 ∷ 0 ∷ 0 ∷ 0 ∷ 1
    ∷ 1 ∷ 0 ∷ 0 ∷ 0 ∷ 5 ∷ 1 ∷ 0 ∷ 0 ∷ 0 ∷ 1 ∷ 1 ∷ 0 ∷ 0 ∷ 0 ∷ 5 ∷ 1 ∷ 0 ∷ 0 ∷ 0 ∷ 2 ∷ 0 ∷ []

abbrev pub short_journals : List Told
short_journals = journal n1 two_lives ∷ []
