-- When a completion is settled.
use Rattle.std.proofs.Common.{◌≡◌, refl, ℕ, zero, suc, cond, List, [], ◌∷◌, map, filter, Option, Some, None, ap, sym, ◌∙◌, ◌&&◌, ◌||◌, not, Bool, true, false, if◌then◌else◌}
use Rattle.std.specs.List.{slice_get, list_all, list_any}
use Rattle.std.specs.Option.{option_map_or}
use Rattle.std.proofs.lemmas.Option.{same_Some}
use Rattle.ots_model.specs.declared.completion.Ground.{Ground}
use Rattle.ots_model.specs.Numbered.{Outcome}
use Rattle.ots_model.specs.declared.completion.Outcome.TheVariants as outcomes
use Rattle.two_phase.specs.Course.{Course, decides_alone, outcome, waits_for_superior}
use Rattle.two_phase.specs.LawsOfSettling.{AllComplete, AllLetGo, IsThrough}
use Rattle.two_phase.specs.Parties.{is_told, is_through, is_owed, has_completed, has_raised, has_voted_commit, lets_go}
use Rattle.two_phase.specs.Reports.{all_through, some_owed, owed_numbers, owed_by, may_owe, is_commit, is_settled, pending_commits, pending_forgets}
use Rattle.two_phase.specs.declared.party.Party.{Party}
use Rattle.two_phase.specs.declared.party.Stage.{Stage}
use Rattle.two_phase.specs.declared.party.Stage.TheVariants as stages

-- truth values
both : (a b : Bool) → (a && b) ≡ true → (a ≡ true) × (b ≡ true)
both true b e = (refl, e)
both false b e = absurd (cc (e))

both_so : (a b : Bool) → a ≡ true → b ≡ true → (a && b) ≡ true
both_so true b e f = f
both_so false b e f = absurd (cc (e))

neither : (a b : Bool) → (a || b) ≡ false → (a ≡ false) × (b ≡ false)
neither true b e = absurd (cc (e))
neither false b e = (refl, e)

not_so : (b : Bool) → not b ≡ true → b ≡ false
not_so true e = absurd (cc (e))
not_so false e = refl

follows : (a b : Bool) → (not a || b) ≡ true → a ≡ true → b ≡ true
follows true b e is = e
follows false b e is = absurd (cc (is))

follows_so : (a b : Bool) → (a ≡ true → b ≡ true) → (not a || b) ≡ true
follows_so true b h = h refl
follows_so false b h = refl

let_go : (a b : Bool) → (a && not b) ≡ false → a ≡ true → b ≡ true
let_go true true e is = refl
let_go true false e is = absurd (cc (e))
let_go false b e is = absurd (cc (is))

let_go_so : (a b : Bool) → (a ≡ true → b ≡ true) → (a && not b) ≡ false
let_go_so true b h = rw (h refl) refl
let_go_so false b h = refl

-- what each participant passes, by its place
each_passes : (test : Party → Bool) (ps : List Party) → list_all test ps ≡ true → (place : ℕ) (p : Party) → slice_get ps place ≡ Some p → test p ≡ true
each_passes test [] e place p there = absurd (cc (there))
each_passes test (x ∷ xs) e zero p there = ap test (sym (same_Some x p there)) ∙ (both (test x) (list_all test xs) e).0
each_passes test (x ∷ xs) e (suc place) p there = each_passes test xs (both (test x) (list_all test xs) e).1 place p there

all_pass : (test : Party → Bool) (ps : List Party) → ((place : ℕ) (p : Party) → slice_get ps place ≡ Some p → test p ≡ true) → list_all test ps ≡ true
all_pass test [] each = refl
all_pass test (x ∷ xs) each = both_so (test x) (list_all test xs) (each 0 x refl) (all_pass test xs (λ place p there. each (suc place) p there))

each_fails : (test : Party → Bool) (ps : List Party) → list_any test ps ≡ false → (place : ℕ) (p : Party) → slice_get ps place ≡ Some p → test p ≡ false
each_fails test [] e place p there = absurd (cc (there))
each_fails test (x ∷ xs) e zero p there = ap test (sym (same_Some x p there)) ∙ (neither (test x) (list_any test xs) e).0
each_fails test (x ∷ xs) e (suc place) p there = each_fails test xs (neither (test x) (list_any test xs) e).1 place p there

none_passes : (test : Party → Bool) (ps : List Party) → ((place : ℕ) (p : Party) → slice_get ps place ≡ Some p → test p ≡ false) → list_any test ps ≡ false
none_passes test [] each = refl
none_passes test (x ∷ xs) each = rw (each 0 x refl, none_passes test xs (λ place p there. each (suc place) p there)) refl

-- the numbers of those that pass
abbrev numbers : (Party → Bool) → List Party → List ℕ
numbers test ps = map (λ (p : Party). p.index) (filter test ps)

no_numbers : (test : Party → Bool) (ps : List Party) → list_any test ps ≡ false → numbers test ps ≡ []
no_numbers test [] e = refl
no_numbers test (x ∷ xs) e =
    let parts = neither (test x) (list_any test xs) e in
    ap (λ b. map (λ (p : Party). p.index) (cond b (x ∷ filter test xs) (filter test xs))) parts.0 ∙ no_numbers test xs parts.1

numbers_none : (test : Party → Bool) (ps : List Party) → numbers test ps ≡ [] → list_any test ps ≡ false
numbers_none test [] e = refl
numbers_none test (x ∷ xs) e = by_head (λ h. numbers_none test xs h) (test x) refl e
  where
    by_head : (numbers test xs ≡ [] → list_any test xs ≡ false) → (b : Bool) → test x ≡ b → map (λ (p : Party). p.index) (cond b (x ∷ filter test xs) (filter test xs)) ≡ [] → (test x || list_any test xs) ≡ false
    by_head behind true is h = absurd (cc (h))
    by_head behind false is h = rw (is, behind h) refl

-- the same of what a completion owes
owed_none : (stage : Stage) (ps : List Party) → some_owed stage ps ≡ false → owed_numbers stage ps ≡ []
unfolding some_owed owed_numbers
owed_none stage ps e = no_numbers (is_owed stage) ps e

none_owed : (stage : Stage) (ps : List Party) → owed_numbers stage ps ≡ [] → some_owed stage ps ≡ false
unfolding some_owed owed_numbers
none_owed stage ps e = numbers_none (is_owed stage) ps e

empty_if : (b : Bool) (xs : List ℕ) → xs ≡ [] → ◌≡◌ {A = List ℕ} (if b then xs else []) []
empty_if true xs e = e
empty_if false xs e = refl

all_empty : (stage : Stage) (c : Course) → some_owed stage c.parties ≡ false → owed_by stage c ≡ []
all_empty stage c e = empty_if (may_owe stage c) (owed_numbers stage c.parties) (owed_none stage c.parties e)

none_where : (stage : Stage) (c : Course) → may_owe stage c ≡ true → owed_by stage c ≡ [] → some_owed stage c.parties ≡ false
none_where stage c may e = none_owed stage c.parties (ap (λ b. if b then owed_numbers stage c.parties else []) (sym may) ∙ e)

-- after a commit each has completed exactly where nobody is owed the commit
told_and_owed : (v d : Bool) → (not v || d) ≡ not (v && not d)
told_and_owed true true = refl
told_and_owed true false = refl
told_and_owed false d = refl

through_each : (alone : Bool) (basis : Ground) (ps : List Party) → all_through alone (outcomes.Commit basis) ps ≡ true → some_owed stages.Telling ps ≡ false
unfolding all_through some_owed
through_each alone basis ps e = none_passes (is_owed stages.Telling) ps (λ place p there.
    not_so (is_owed stages.Telling p) (sym (told_and_owed (has_voted_commit p) (has_completed p)) ∙ each_passes (is_through alone (outcomes.Commit basis)) ps e place p there))

each_through : (alone : Bool) (basis : Ground) (ps : List Party) → some_owed stages.Telling ps ≡ false → all_through alone (outcomes.Commit basis) ps ≡ true
unfolding all_through some_owed
each_through alone basis ps e = all_pass (is_through alone (outcomes.Commit basis)) ps (λ place p there.
    told_and_owed (has_voted_commit p) (has_completed p) ∙ ap not (each_fails (is_owed stages.Telling) ps e place p there))

-- by each participant
completed : (c : Course) (fixed : Outcome) → all_through (decides_alone c) fixed c.parties ≡ true → AllComplete fixed c
unfolding all_through
completed c fixed e place p there told =
    follows (is_told (decides_alone c) fixed p) (has_completed p) (each_passes (is_through (decides_alone c) fixed) c.parties e place p there) told

complete : (c : Course) (fixed : Outcome) → AllComplete fixed c → all_through (decides_alone c) fixed c.parties ≡ true
unfolding all_through
complete c fixed each = all_pass (is_through (decides_alone c) fixed) c.parties (λ place p there.
    follows_so (is_told (decides_alone c) fixed p) (has_completed p) (each place p there))

released : (c : Course) → some_owed stages.Forgetting c.parties ≡ false → AllLetGo c
unfolding some_owed
released c e place p there raised =
    let_go (has_raised p) (option_map_or lets_go p.forgot false) (each_fails (is_owed stages.Forgetting) c.parties e place p there) raised

release : (c : Course) → AllLetGo c → some_owed stages.Forgetting c.parties ≡ false
unfolding some_owed
release c each = none_passes (is_owed stages.Forgetting) c.parties (λ place p there.
    let_go_so (has_raised p) (option_map_or lets_go p.forgot false) (each place p there))

-- what is settled is through, and the other way
through_by : (c : Course) (o : Option Outcome) → outcome c ≡ o
    → (elim o [ Some fixed ↦ all_through (decides_alone c) fixed c.parties | None ↦ false ] && not (some_owed stages.Forgetting c.parties)) ≡ true → IsThrough c
through_by c None is e = absurd (cc (e))
through_by c (Some fixed) is e =
    let parts = both (all_through (decides_alone c) fixed c.parties) (not (some_owed stages.Forgetting c.parties)) e in
    (fixed, is, completed c fixed parts.0, released c (not_so (some_owed stages.Forgetting c.parties) parts.1))

pub through : (c : Course) → is_settled c ≡ true → IsThrough c
through c e = through_by c (outcome c) refl e

settles : (t o : Bool) → t ≡ true → o ≡ false → (t && not o) ≡ true
settles t o through free = rw (through, free) refl

pub settled : (c : Course) → IsThrough c → is_settled c ≡ true
settled c (fixed, is, complete_all, free) =
    ap (λ (o : Option Outcome). elim o [ Some x ↦ all_through (decides_alone c) x c.parties | None ↦ false ] && not (some_owed stages.Forgetting c.parties)) is
    ∙ settles (all_through (decides_alone c) fixed c.parties) (some_owed stages.Forgetting c.parties) (complete c fixed complete_all) (release c free)

-- after a commit
commit_owes : (b w : Bool) → b ≡ true → (b || w) ≡ true
commit_owes true w e = refl
commit_owes false w e = absurd (cc (e))

by_commit : (c : Course) (basis : Ground) → outcome c ≡ Some (outcomes.Commit basis)
    → is_settled c ≡ (all_through (decides_alone c) (outcomes.Commit basis) c.parties && not (some_owed stages.Forgetting c.parties))
by_commit c basis is =
    ap (λ (o : Option Outcome). elim o [ Some x ↦ all_through (decides_alone c) x c.parties | None ↦ false ] && not (some_owed stages.Forgetting c.parties)) is

pub nothing_pending : (c : Course) (basis : Ground) → outcome c ≡ Some (outcomes.Commit basis) → is_settled c ≡ true
    → (pending_commits c ≡ []) × (pending_forgets c ≡ [])
nothing_pending c basis is e =
    let parts = both (all_through (decides_alone c) (outcomes.Commit basis) c.parties) (not (some_owed stages.Forgetting c.parties)) (sym (by_commit c basis is) ∙ e) in
    (all_empty stages.Telling c (through_each (decides_alone c) basis c.parties parts.0), all_empty stages.Forgetting c (not_so (some_owed stages.Forgetting c.parties) parts.1))

pub pending_nothing : (c : Course) (basis : Ground) → outcome c ≡ Some (outcomes.Commit basis)
    → (pending_commits c ≡ []) × (pending_forgets c ≡ []) → is_settled c ≡ true
pending_nothing c basis is (commits, forgets) =
    by_commit c basis is
    ∙ settles (all_through (decides_alone c) (outcomes.Commit basis) c.parties) (some_owed stages.Forgetting c.parties)
    (each_through (decides_alone c) basis c.parties (none_where stages.Telling c (ap is_commit is) commits))
    (none_where stages.Forgetting c (commit_owes (is_commit (outcome c)) (waits_for_superior c) (ap is_commit is)) forgets)
