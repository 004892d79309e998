-- The participants of the top are the registrations with the numbers in its list.
use Rattle.std.proofs.Common.{◌≡◌, ℕ, ◌+◌, ◌<◌, Bool, true, zero, suc, List, [], ◌∷◌, ◌++◌, length, map, Option, Some, None, refl, ap, sym, ◌∙◌, arith}
use Rattle.std.proofs.lemmas.Option.{slice_get_within}
use Rattle.std.specs.List.{slice_get, filter_map}
use Rattle.std.specs.Option.{option_map_or, option_and_then}
use Rattle.txn_tree.specs.declared.row.Row.{Row}
use Rattle.txn_tree.specs.Rows.{is_committed_up}
use Rattle.txn_tree.specs.Laws.{CommitFollowsParents, TreesStayTrees}
use Rattle.resource_votes.specs.Lists.{list_at}
use Rattle.resource_votes.specs.declared.registration.Registration.{Registration}
use Rattle.resource_votes.specs.Ballots.{Ballots, numbered, participants}
use Rattle.resource_votes.specs.History.{times, joined, share, Leave}
use Rattle.resource_votes.specs.History.Leave.{nothing, creates, marks, registers, registers_aware, registers_sync, votes, rolls_back, commits}
use Rattle.resource_votes.proofs.Tallies.{tallied, counted, times_append, times_itself}

-- registrations with their numbers, of which the first one has this
abbrev Indexed : ℕ → List Registration → Type 0
Indexed k [] = Unit {0}
Indexed k (r ∷ rs) = (r.index ≡ k) × Indexed (suc k) rs

indexed_more : (k : ℕ) (rs : List Registration) (r : Registration) → Indexed k rs → r.index ≡ k + length rs → Indexed k (rs ++ r ∷ [])
indexed_more k [] r h is = (omega (arith, is), tt)
indexed_more k (x ∷ rs) r h is = (h.0, indexed_more (suc k) rs r h.1 (omega (arith, is)))

index_at : (k : ℕ) (rs : List Registration) (i : ℕ) (r : Registration) → Indexed k rs → slice_get rs i ≡ Some r → r.index ≡ k + i
index_at k [] i r h e = absurd (cc (e))
index_at k (x ∷ rs) zero r h e = ap (λ (o : Option Registration). option_map_or (λ (y : Registration). y.index) o 0) (sym e) ∙ h.0 ∙ omega arith
index_at k (x ∷ rs) (suc i) r h e = let n = index_at (suc k) rs i r h.1 e in omega (arith, n)

-- each call leaves them so
indexed : (rows : List Row) (b : Ballots) (e : List (Option ℕ)) → Leave rows b e → Indexed 1 b.registrations
indexed _ _ _ nothing = tt
indexed _ _ _ (creates rows b e p l within allowed) = indexed rows b e l
indexed _ _ _ (marks rows b e p l within allowed) = indexed rows b e l
indexed _ _ _ (registers rows b e p to aware l within allowed) =
    indexed_more 1 b.registrations (record { index = length b.registrations + 1; branch = p; to = to; aware = aware }) (indexed rows b e l) (omega arith)
indexed _ _ _ (registers_aware rows b e p to l within allowed) =
    indexed_more 1 b.registrations (record { index = length b.registrations + 1; branch = p; to = to; aware = true }) (indexed rows b e l) (omega arith)
indexed _ _ _ (registers_sync rows b e p to l within allowed) = indexed rows b e l
indexed _ _ _ (votes rows b e registration v l some there) = indexed rows b e l
indexed _ _ _ (rolls_back rows b e p l within allowed) = indexed rows b e l
indexed _ _ _ (commits rows b e child p l within its allowed) = indexed rows b e l

found : (rs : List Registration) (i : ℕ) → i < length rs → (r : Registration) × (slice_get rs i ≡ Some r)
found [] i h = absurd (omega (arith, h))
found (x ∷ rs) zero h = (x, refl)
found (x ∷ rs) (suc i) h = found rs i (omega (arith, h))

-- what has a share has joined, so it was registered
shared : (o : Option ℕ) (f : ℕ → Bool) → 0 < option_map_or (λ t. counted (f t)) o 0 → (t : ℕ) × (o ≡ Some t)
shared None f h = absurd (omega (arith, h))
shared (Some t) f h = (t, refl)

inner : (o : Option (Option ℕ)) (t : ℕ) → option_and_then (λ (x : Option ℕ). x) o ≡ Some t → o ≡ Some (Some t)
inner None t e = absurd (cc (e))
inner (Some x) t e = ap (λ (y : Option ℕ). Some y) e

-- the registration with a number
record IsNamed (rs : List Registration) (x : ℕ) : Type 0 where
  it : Registration
  there : numbered rs x ≡ Some it
  index : it.index ≡ x

named : (rs : List Registration) (e : List (Option ℕ)) → Indexed 1 rs → length e ≡ length rs → (x t : ℕ) → joined e x ≡ Some t → IsNamed rs x
named rs e h same zero t j = absurd (cc (j))
named rs e h same (suc x) t j =
    let within = slice_get_within e x (Some t) (inner (slice_get e x) t j) in
    let f = found rs x (omega (arith, within, same)) in
    let n = index_at 1 rs x f.0 h f.1 in
    record { it = f.0; there = f.1; index = omega (arith, n) }

-- numbers of registrations that are there
one_first : (x : ℕ) (xs : List ℕ) → 0 < times x (x ∷ xs)
one_first x xs = let s = times_append x (x ∷ []) xs in let o = times_itself x x refl in omega (arith, s, o)

more_times : (x y : ℕ) (xs : List ℕ) → 0 < times y xs → 0 < times y (x ∷ xs)
more_times x y xs h = let s = times_append y (x ∷ []) xs in omega (arith, s, h)

numbers_named : (rs : List Registration) (xs : List ℕ) → ((x : ℕ) → 0 < times x xs → IsNamed rs x) → map (λ (r : Registration). r.index) (filter_map (numbered rs) xs) ≡ xs
numbers_named rs [] says = refl
numbers_named rs (x ∷ xs) says =
    let n = says x (one_first x xs) in
    rw n.there (ap (λ ys. n.it.index ∷ ys) (numbers_named rs xs (λ y h. says y (more_times x y xs h))) ∙ ap (λ i. i ∷ xs) n.index)

pub members : CommitFollowsParents → TreesStayTrees → (rows : List Row) (b : Ballots) (e : List (Option ℕ)) → Leave rows b e
    → (i : ℕ) → times i (map (λ (r : Registration). r.index) (participants 0 b)) ≡ share rows 0 e i
members law stays rows b e l i =
    let h = tallied law stays rows b e l in
    let tally : (x : ℕ) → times x (list_at b.lists 0) ≡ share rows 0 e x = λ x. h.shares 0 x h.tree.some h.top_open in
    ap (λ xs. times i xs) (numbers_named b.registrations (list_at b.lists 0) (λ x some.
    let s = shared (joined e x) (λ t. is_committed_up rows 0 t) (omega (arith, some, tally x)) in
    named b.registrations e (indexed rows b e l) h.as_many x s.0 s.1))
    ∙ tally i
