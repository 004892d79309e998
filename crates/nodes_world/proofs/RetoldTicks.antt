-- At each tick a node tells commit to each registration of a record that it holds, and that waits for it.
use Rattle.std.proofs.Common.{◌≡◌, ◌⊎◌, inl, inr, ℕ, ◌==◌, nat_lt, Bool, true, false, cond, if◌then◌else◌, List, [], ◌∷◌, ◌++◌, map, filter, filter_map, Contains, Option, Some, None, refl, sym, ap, subst, ◌∙◌, arith}
use Rattle.std.specs.List.{cons_option, flat_map}
use Rattle.std.specs.Option.{option_and_then}
use Rattle.std.proofs.lemmas.Bool.Decides.{nat_tests}
use Rattle.std.proofs.lemmas.List.Elements.{Contains-append_cases, Contains-append_left, Contains-append_right}
use Rattle.std.proofs.lemmas.List.Folds.{list_any-from_Any}
use Rattle.ots_model.specs.declared.completion.Word.TheVariants as phase_words
use Rattle.ots_model.specs.declared.tree.Outward.{Outward}
use Rattle.ots_model.specs.declared.tree.Word.TheVariants as words
use Rattle.decision_journal.specs.Journal.{Found}
use Rattle.recovery_coord.specs.Held.{before, behind, is_complete, is_decided, is_held, taken}
use Rattle.recovery_coord.specs.Telling as telling
use Rattle.recovery_coord.specs.Telling.{recalled, retold}
use Rattle.recovery_coord.specs.declared.held.Due.TheVariants as due
use Rattle.recovery_coord.specs.declared.held.Held.{Held}
use Rattle.recovery_coord.specs.declared.held.Party.{Party}
use Rattle.coordinator.specs.Family.{Family}
use Rattle.coordinator.specs.Node.{Node, life}
use Rattle.coordinator.specs.NodeSlots.{held_for, left_record, takes_over}
use Rattle.coordinator.specs.NodeTick.{takes_all_over, ticked, ticks}
use Rattle.nodes_world.proofs.LoadedNodes.{one_of}

-- ---- lists

filtered_in : {A : Type 0} (t : A → Bool) (xs : List A) (x : A) → Contains xs x → t x ≡ true → Contains (filter t xs) x
filtered_in t [] x (i, less, is) so = absurd (omega (arith, less))
filtered_in t (y ∷ xs) x c so = elim (Contains-append_cases (y ∷ []) xs x c) [
  | inl first ↦ subst (λ (b : Bool). Contains (cond b (y ∷ filter t xs) (filter t xs)) x) (sym (ap t (one_of y x first) ∙ so)) (0, omega arith, one_of y x first)
  | inr later ↦ by (t y) (filtered_in t xs x later so)
]
  where
    by : (b : Bool) → Contains (filter t xs) x → Contains (cond b (y ∷ filter t xs) (filter t xs)) x
    by true c = Contains-append_right (y ∷ []) (filter t xs) x c
    by false c = c

given_in : {A B : Type 0} (f : A → Option B) (xs : List A) (x : A) (y : B) → Contains xs x → f x ≡ Some y → Contains (filter_map f xs) y
given_in f [] x y (i, less, at) is = absurd (omega (arith, less))
given_in {B = B} f (z ∷ xs) x y c is = elim (Contains-append_cases (z ∷ []) xs x c) [
  | inl first ↦ subst (λ o. Contains (cons_option o (filter_map f xs)) y) (sym (ap f (one_of z x first) ∙ is)) (0, omega arith, refl)
  | inr later ↦ by (f z) (given_in f xs x y later is)
]
  where
    by : (o : Option B) → Contains (filter_map f xs) y → Contains (cons_option o (filter_map f xs)) y
    by (Some g) c = Contains-append_right (g ∷ []) (filter_map f xs) y c
    by None c = c

flat_in : {A B : Type 0} (f : A → List B) (xs : List A) (x : A) (y : B) → Contains xs x → Contains (f x) y → Contains (flat_map f xs) y
flat_in f [] x y (i, less, at) one = absurd (omega (arith, less))
flat_in f (z ∷ xs) x y c one = elim (Contains-append_cases (z ∷ []) xs x c) [
  | inl first ↦ Contains-append_left (f z) (flat_map f xs) y (subst (λ v. Contains (f v) y) (sym (one_of z x first)) one)
  | inr later ↦ Contains-append_right (f z) (flat_map f xs) y (flat_in f xs x y later one)
]

mapped_in : {A B : Type 0} (f : A → B) (xs : List A) (x : A) → Contains xs x → Contains (map f xs) (f x)
mapped_in f [] x (i, less, at) = absurd (omega (arith, less))
mapped_in f (z ∷ xs) x c = elim (Contains-append_cases (z ∷ []) xs x c) [
  | inl first ↦ (0, omega arith, ap f (one_of z x first))
  | inr later ↦ Contains-append_right (f z ∷ []) (map f xs) (f x) (mapped_in f xs x later)
]

-- ---- what is held is held still, where records are taken over

taken_in : (o : Option Held) (xs : List Held) (h : Held) → Contains xs h → Contains (taken o xs) h
taken_in None xs h c = c
taken_in (Some r) xs h c = by (is_held r.place xs) refl
  where
    beside : (a b : ℕ) → a == b ≡ false → (nat_lt a b ≡ true) ⊎ (nat_lt b a ≡ true)
    beside a b is = grind (arith, nat_tests)

    no : true ≡ false → ⊥
    no e = cc

    other : is_held r.place xs ≡ false → h.place == r.place ≡ false
    other none = by_place (h.place == r.place) refl
      where
        by_place : (t : Bool) → h.place == r.place ≡ t → t ≡ false
        by_place true is = absurd (no (sym (list_any-from_Any (λ (x : Held). x.place == r.place) xs (c.0, h, c.1, c.2, is)) ∙ none))
        by_place false is = refl

    by : (t : Bool) → is_held r.place xs ≡ t → Contains (if t then xs else before r.place xs ++ r ∷ behind r.place xs) h
    by true is = c
    by false is = elim (beside h.place r.place (other is)) [
      | inl less ↦
          Contains-append_left (before r.place xs) (r ∷ behind r.place xs) h (filtered_in (λ (x : Held). nat_lt x.place r.place) xs h c less)
      | inr more ↦
          Contains-append_right (before r.place xs) (r ∷ behind r.place xs) h
          (Contains-append_right (r ∷ []) (behind r.place xs) h (filtered_in (λ (x : Held). nat_lt r.place x.place) xs h c more))
    ]

over_in : (found : Found) (o : Option Family) (xs : List Held) (h : Held) → Contains xs h → Contains (takes_over found o xs) h
over_in found None xs h c = c
over_in found (Some f) xs h c = taken_in (option_and_then (held_for f) (left_record found f)) xs h c

all_over_in : (found : Found) (fs : List (Option Family)) (xs : List Held) (h : Held) → Contains xs h → Contains (takes_all_over found fs xs) h
all_over_in found [] xs h c = c
all_over_in found (o ∷ fs) xs h c = all_over_in found fs (takes_over found o xs) h (over_in found o xs h c)

-- ---- the word

-- the commit word to a registration of the record at a place
abbrev pub commit_word : ℕ → ℕ → Party → Outward
commit_word in_life place p =
    telling.outward in_life place p (words.Phase phase_words.Commit) (Some (record { place = place; registration = p.index }))

waiting_word : (in_life place : ℕ) (decided : Bool) (ps : List Party) (p : Party) → Contains ps p → p.due ≡ due.Commit
    → Contains (filter_map (telling.word_to in_life place decided) ps) (commit_word in_life place p)
waiting_word in_life place decided ps p c waits =
    given_in (telling.word_to in_life place decided) ps p (commit_word in_life place p) c (ap (telling.word_by in_life place decided p) waits)

retold_word : (in_life : ℕ) (h : Held) (p : Party) → Contains h.parties p → p.due ≡ due.Commit
    → Contains (telling.words_of in_life (retold h)) (commit_word in_life h.place p)
retold_word in_life h p c waits = by (is_complete h)
  where
    by : (t : Bool) → Contains (telling.words_of in_life (if t then record h { parties = map recalled h.parties } else h)) (commit_word in_life h.place p)
    by true = waiting_word in_life h.place (is_decided h.kind) (map recalled h.parties) (recalled p) (mapped_in recalled h.parties p c) refl
    by false = waiting_word in_life h.place (is_decided h.kind) h.parties p c waits

pub tick_tells : (now : ℕ) (n : Node) (h : Held) (p : Party) → Contains n.recovered h → Contains h.parties p → p.due ≡ due.Commit
    → Contains (ticks now n).words (commit_word (life n) h.place p)
unfolding ticks
tick_tells now n h p among one waits =
    let records = takes_all_over n.found (map (ticked now) n.families) n.recovered in
    flat_in (telling.words_of (life n)) (map retold records) (retold h) (commit_word (life n) h.place p)
    (mapped_in retold records h (all_over_in n.found (map (ticked now) n.families) n.recovered h among)) (retold_word (life n) h p one waits)
