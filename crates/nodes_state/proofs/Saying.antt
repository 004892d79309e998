-- The lines of what happened to a family, one after another.
use Rattle.std.proofs.Common.{◌≡◌, ℕ, ◌+◌, ◌<◌, ◌≤◌, Bool, List, ◌++◌, length, drop, get_or, Option, Some, None, Result, refl, sym, subst, ◌∙◌}
use Rattle.std.specs.List.{flat_map}
use Rattle.std.proofs.lemmas.List.{at_drop_all, at_drop_more}
use Rattle.std.proofs.lemmas.List.Concat.{flat_map-cons}
use Rattle.ots_model.specs.declared.completion.Vote.{Vote}
use Rattle.ots_model.specs.declared.line.Line.TheVariants as lines
use Rattle.ots_model.specs.Numbered.{Outcome}
use Rattle.coordinator.specs.declared.effect.Effect.{Effect}
use Rattle.coordinator.specs.declared.effect.Effect.TheVariants as effects
use Rattle.coordinator.specs.declared.said.Entry.{Entry}
use Rattle.coordinator.specs.declared.said.Finished.{Finished}
use Rattle.nodes_world.specs.Told.{Told, Answered, Doubted, Known, Marked, spelled}
use Rattle.nodes_world.specs.World.{World}
use Rattle.nodes_world.specs.Happenings.{Cast, answer_lines, branch_name, call_number, decided_lines, effect_lines, finished_lines, naming, outcome_lines, registered}
use Rattle.nodes_lines.specs.Telling.{IsTold}
use Rattle.nodes_state.specs.Telling.{Tells, TellsOne}
use Rattle.nodes_state.proofs.Doing.{naming_none, naming_told, none_told, one_told}
use Rattle.nodes_state.proofs.Progress.{IsTelling, telling_ends, telling_goes_on}

-- ---- one thing that happened

module _ {E : Type 0} (w : World) (c : Cast) (e : Effect) (before after : List ℕ) (result : Result (Unit {0}) E) where
  abbrev Says : Effect → Type 0
  Says x = TellsOne (effect_lines w c x) before after result

  pub says_vote : (number : ℕ) (vote : Vote) (name : List ℕ) → e ≡ effects.Voted number vote → registered w c number ≡ Some name
      → IsTold result (Known (lines.Voted name vote)) before after → Says e
  unfolding effect_lines
  says_vote number vote name is there told =
      subst Says (sym is) (naming_told (λ (n : List ℕ). Known (lines.Voted n vote)) (registered w c number) name before after result there told)

  pub says_outcome : (outcome : Outcome) (name : List ℕ) → e ≡ effects.Decided outcome → branch_name w c 0 ≡ Some name
      → TellsOne (outcome_lines w c outcome name) before after result → Says e
  unfolding effect_lines
  says_outcome outcome name is there told =
      subst Says (sym is) (subst (λ o. TellsOne (decided_lines w c outcome o) before after result) (sym there) told)

  pub says_ended : (branch : ℕ) (committed : Bool) (o : Option (List ℕ)) → e ≡ effects.SubtransactionEnded branch committed → branch_name w c branch ≡ o
      → TellsOne (naming (λ (n : List ℕ). Known (lines.SubDone n committed)) o) before after result → Says e
  unfolding effect_lines
  says_ended branch committed o is there told =
      subst Says (sym is) (subst (λ x. TellsOne (naming (λ (n : List ℕ). Known (lines.SubDone n committed)) x) before after result) (sym there) told)

  pub says_marked : (branch : ℕ) (name : List ℕ) → e ≡ effects.Marked branch → branch_name w c branch ≡ Some name → IsTold result (Marked name) before after → Says e
  unfolding effect_lines
  says_marked branch name is there told = subst Says (sym is) (naming_told Marked (branch_name w c branch) name before after result there told)

  pub says_doubt : (name : List ℕ) → e ≡ effects.Doubted → branch_name w c 0 ≡ Some name → IsTold result (Doubted name) before after → Says e
  unfolding effect_lines
  says_doubt name is there told = subst Says (sym is) (naming_told Doubted (branch_name w c 0) name before after result there told)

  pub says_done : (name : List ℕ) → e ≡ effects.Done → branch_name w c 0 ≡ Some name → IsTold result (Known (lines.Done name)) before after → Says e
  unfolding effect_lines
  says_done name is there told =
      subst Says (sym is) (naming_told (λ (n : List ℕ). Known (lines.Done n)) (branch_name w c 0) name before after result there told)

-- ---- one of which nothing has a name

module _ (w : World) (c : Cast) (e : Effect) (before : List ℕ) where
  abbrev IsUntold : Effect → Type 0
  IsUntold x = Tells (effect_lines w c x) before before

  unnamed : (say : List ℕ → Told) (o : Option (List ℕ)) → o ≡ None → Tells (naming say o) before before
  unnamed say o none = naming_none say o before before none refl

  pub no_vote : (number : ℕ) (vote : Vote) → e ≡ effects.Voted number vote → registered w c number ≡ None → IsUntold e
  unfolding effect_lines
  no_vote number vote is none = subst IsUntold (sym is) (unnamed (λ (n : List ℕ). Known (lines.Voted n vote)) (registered w c number) none)

  pub no_outcome : (outcome : Outcome) → e ≡ effects.Decided outcome → branch_name w c 0 ≡ None → IsUntold e
  unfolding effect_lines
  no_outcome outcome is none =
      subst IsUntold (sym is) (subst (λ o. Tells (decided_lines w c outcome o) before before) (sym none) (unnamed Marked None refl))

  pub no_mark : (branch : ℕ) → e ≡ effects.Marked branch → branch_name w c branch ≡ None → IsUntold e
  unfolding effect_lines
  no_mark branch is none = subst IsUntold (sym is) (unnamed Marked (branch_name w c branch) none)

  pub no_doubt : e ≡ effects.Doubted → branch_name w c 0 ≡ None → IsUntold e
  unfolding effect_lines
  no_doubt is none = subst IsUntold (sym is) (unnamed Doubted (branch_name w c 0) none)

  pub no_done : e ≡ effects.Done → branch_name w c 0 ≡ None → IsUntold e
  unfolding effect_lines
  no_done is none = subst IsUntold (sym is) (unnamed (λ (n : List ℕ). Known (lines.Done n)) (branch_name w c 0) none)

-- ---- an answer to a call

pub says_answer : (entries : List Entry) (a : Finished) (message : ℕ) (before after : List ℕ) → call_number entries a.position ≡ Some message
    → after ≡ before ++ spelled (Answered message a.said) → Tells (finished_lines entries a) before after
says_answer entries a message before after there told =
    subst (λ o. Tells (answer_lines a.said o) before after) (sym there) (one_told (Answered message a.said) before after told)

pub no_answer : (entries : List Entry) (a : Finished) (before after : List ℕ) → call_number entries a.position ≡ None → after ≡ before
    → Tells (finished_lines entries a) before after
no_answer entries a before after none same =
    subst (λ o. Tells (answer_lines a.said o) before after) (sym none) (none_told before after same)

-- ---- one after another

module _ {X : Type 0} (f : X → List Told) (xs : List X) (i : ℕ) (total : List Told) (before now : List ℕ) where
  abbrev TellsFrom : ℕ → List ℕ → Type 0
  TellsFrom k lines = IsTelling total before (flat_map f (drop k xs)) lines

  pub each_told : (d : X) (next : List ℕ) → i < length xs → TellsFrom i now → Tells (f (get_or xs i d)) now next → TellsFrom (i + 1) next
  each_told d next within telling t =
      telling_goes_on total (f (get_or xs i d)) (flat_map f (drop (i + 1) xs)) before now next
      (subst (λ ls. IsTelling total before ls now) (at_drop_more (λ ys. flat_map f ys) xs i d within ∙ flat_map-cons f (get_or xs i d) (drop (i + 1) xs)) telling) t

  pub all_told : length xs ≤ i → TellsFrom i now → Tells total before now
  all_told past telling = telling_ends total before now (subst (λ ls. IsTelling total before ls now) (at_drop_all (λ ys. flat_map f ys) xs i past) telling)
