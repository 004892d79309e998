-- Which lines tell of what happened to a family, and of which of these things each line tells.
use Rattle.std.proofs.Common.{◌≡◌, inl, inr, ℕ, zero, suc, ◌<◌, Bool, IsTrue, is_some, List, [], ◌∷◌, length, get_or, Contains, Option, Some, None, refl, sym, ap, subst, arith}
use Rattle.std.specs.List.{AllByRecursion}
use Rattle.std.proofs.lemmas.List.Elements.{Contains-append_cases, Contains-append_left, Contains-append_right}
use Rattle.ots_model.specs.Safe.{Stands}
use Rattle.ots_model.specs.declared.completion.Ground.{Ground}
use Rattle.ots_model.specs.Numbered.{LineOutcome}
use Rattle.ots_model.specs.declared.completion.Reason.{Reason as ToldReason}
use Rattle.ots_model.specs.declared.completion.Vote.{Vote}
use Rattle.ots_model.specs.declared.completion.Reason.TheVariants as phase_reasons
use Rattle.ots_model.specs.declared.line.Line.{Line}
use Rattle.ots_model.specs.declared.line.Line.TheVariants as lines
use Rattle.ots_model.specs.Numbered.{Outcome}
use Rattle.ots_model.specs.declared.completion.Outcome.TheVariants as outcomes
use Rattle.ots_model.specs.declared.tree.Reason.{Reason}
use Rattle.ots_model.specs.declared.tree.Reason.TheVariants as reasons
use Rattle.coordinator.specs.declared.effect.Effect.{Effect}
use Rattle.coordinator.specs.declared.effect.Effect.TheVariants as effects
use Rattle.nodes_world.specs.Agreement as agreed
use Rattle.nodes_world.specs.Agreement.{IsRolledBack}
use Rattle.nodes_world.specs.Happenings.{Cast, all_effect_lines, branch_name, decided_lines, effect_lines, naming, registered, rollback_lines, synchronized}
use Rattle.nodes_world.specs.Told as tell
use Rattle.nodes_world.specs.Told.{Told, known}
use Rattle.nodes_world.specs.World.{World}

-- ---- lines among what is told

at_first : {A : Type 0} (x y : A) (xs : List A) → x ≡ y → Contains (x ∷ xs) y
at_first x y xs is = (0, omega arith, is)

behind : {A : Type 0} (x y : A) (xs : List A) → Contains xs y → Contains (x ∷ xs) y
behind x y xs c = Contains-append_right (x ∷ []) xs y c

pub stands_told : (xs : List Told) (line : Line) → Stands line (known xs) → Contains xs (tell.Known line)
stands_told [] line s = absurd s
stands_told (tell.Known first ∷ xs) line (inl e) = at_first (tell.Known first) (tell.Known line) xs (ap tell.Known e)
stands_told (tell.Known first ∷ xs) line (inr s) = behind (tell.Known first) (tell.Known line) xs (stands_told xs line s)
stands_told (tell.Down server ∷ xs) line s = behind _ (tell.Known line) xs (stands_told xs line s)
stands_told (tell.Aware resource transaction end ∷ xs) line s = behind _ (tell.Known line) xs (stands_told xs line s)
stands_told (tell.Called message operation transaction ∷ xs) line s = behind _ (tell.Known line) xs (stands_told xs line s)
stands_told (tell.Answered message answer ∷ xs) line s = behind _ (tell.Known line) xs (stands_told xs line s)
stands_told (tell.Sent message operation registration ∷ xs) line s = behind _ (tell.Known line) xs (stands_told xs line s)
stands_told (tell.Back message request answer ∷ xs) line s = behind _ (tell.Known line) xs (stands_told xs line s)
stands_told (tell.Dropped message ∷ xs) line s = behind _ (tell.Known line) xs (stands_told xs line s)
stands_told (tell.RolledBack transaction reason ∷ xs) line s = behind _ (tell.Known line) xs (stands_told xs line s)
stands_told (tell.RolledBackBy transaction reason synchronization ∷ xs) line s = behind _ (tell.Known line) xs (stands_told xs line s)
stands_told (tell.Marked transaction ∷ xs) line s = behind _ (tell.Known line) xs (stands_told xs line s)
stands_told (tell.Doubted transaction ∷ xs) line s = behind _ (tell.Known line) xs (stands_told xs line s)
stands_told (tell.Refused word answer ∷ xs) line s = behind _ (tell.Known line) xs (stands_told xs line s)
stands_told (tell.Journal server octets ∷ xs) line s = behind _ (tell.Known line) xs (stands_told xs line s)

-- one more line leaves those that stand
known_behind : (t : Told) (xs : List Told) (line : Line) → Stands line (known xs) → Stands line (known (t ∷ xs))
known_behind (tell.Known first) xs line s = inr s
known_behind (tell.Down server) xs line s = s
known_behind (tell.Aware resource transaction end) xs line s = s
known_behind (tell.Called message operation transaction) xs line s = s
known_behind (tell.Answered message answer) xs line s = s
known_behind (tell.Sent message operation registration) xs line s = s
known_behind (tell.Back message request answer) xs line s = s
known_behind (tell.Dropped message) xs line s = s
known_behind (tell.RolledBack transaction reason) xs line s = s
known_behind (tell.RolledBackBy transaction reason synchronization) xs line s = s
known_behind (tell.Marked transaction) xs line s = s
known_behind (tell.Doubted transaction) xs line s = s
known_behind (tell.Refused word answer) xs line s = s
known_behind (tell.Journal server octets) xs line s = s

pub told_stands : (xs : List Told) (line : Line) → Contains xs (tell.Known line) → Stands line (known xs)
told_stands xs line c = go xs c.0 c.1 c.2
  where
    go : (ys : List Told) (i : ℕ) → i < length ys → get_or ys i (tell.Known line) ≡ tell.Known line → Stands line (known ys)
    go [] i l e = absurd (omega (arith, l))
    go (y ∷ ys) zero l e = subst (λ (t : Told). Stands line (known (t ∷ ys))) (sym e) (inl refl)
    go (y ∷ ys) (suc i) l e = known_behind y ys line (go ys i (omega (arith, l)) e)

-- ---- what each line says

abbrev pub IsSaidAs : Outcome → LineOutcome → Type 0
IsSaidAs (outcomes.Commit basis) told = told ≡ outcomes.Commit basis
IsSaidAs (outcomes.Rollback reason) told = (said : ToldReason (List ℕ)) × (told ≡ outcomes.Rollback said)
IsSaidAs outcomes.Unknown told = told ≡ outcomes.Unknown

-- a line tells of this, by the name of whom it speaks
abbrev pub Says : World → Cast → Effect → Told → Type 0
Says w c e (tell.Known (lines.Voted name vote)) = (g : ℕ) × (e ≡ effects.Voted g vote) × (registered w c g ≡ Some name)
Says w c e (tell.Known (lines.Decide name told)) = (fixed : Outcome) × (e ≡ effects.Decided fixed) × (branch_name w c 0 ≡ Some name) × IsSaidAs fixed told
Says w c e (tell.Known (lines.SubDone t committed)) = (b : ℕ) × (e ≡ effects.SubtransactionEnded b committed) × (branch_name w c b ≡ Some t)
Says w c e (tell.Known (lines.Done name)) = (e ≡ effects.Done) × (branch_name w c 0 ≡ Some name)
Says w c e (tell.Known line) = ⊥
Says w c e (tell.RolledBack name reason) = (why : Reason) × (e ≡ effects.Decided (outcomes.Rollback why)) × (branch_name w c 0 ≡ Some name)
Says w c e (tell.RolledBackBy name reason synchronization) = (why : Reason) × (e ≡ effects.Decided (outcomes.Rollback why)) × (branch_name w c 0 ≡ Some name)
Says w c e (tell.Marked name) = Unit {0}
Says w c e (tell.Doubted name) = Unit {0}
Says w c e _ = ⊥

module _ (w : World) (c : Cast) where
  naming_says : (e : Effect) (say : List ℕ → Told) (o : Option (List ℕ)) → ((name : List ℕ) → o ≡ Some name → Says w c e (say name)) → AllByRecursion (Says w c e) (naming say o)
  naming_says e say (Some name) says = (says name refl, tt)
  naming_says e say None says = tt

  rollback_says : (reason : Reason) (name : List ℕ) → branch_name w c 0 ≡ Some name
      → AllByRecursion (Says w c (effects.Decided (outcomes.Rollback reason))) (rollback_lines w c name reason)
  rollback_says reasons.Asked name is = ((reasons.Asked, refl, is), tt)
  rollback_says reasons.Marked name is = ((reasons.Marked, refl, is), tt)
  rollback_says reasons.Timeout name is = ((reasons.Timeout, refl, is), tt)
  rollback_says (reasons.Phase (phase_reasons.Vote g)) name is = naming_says _ _ (registered w c g) (λ object named. (outcomes.Rollback (reasons.Phase (phase_reasons.Vote g)), refl, is, (_, refl)))
  rollback_says (reasons.Phase (phase_reasons.PrepareLost g)) name is = naming_says _ _ (registered w c g) (λ object named. (outcomes.Rollback (reasons.Phase (phase_reasons.PrepareLost g)), refl, is, (_, refl)))
  rollback_says (reasons.Phase (phase_reasons.PrepareStarved g)) name is = naming_says _ _ (registered w c g) (λ object named. (outcomes.Rollback (reasons.Phase (phase_reasons.PrepareStarved g)), refl, is, (_, refl)))
  rollback_says (reasons.Phase (phase_reasons.PrepareFault g)) name is = naming_says _ _ (registered w c g) (λ object named. (outcomes.Rollback (reasons.Phase (phase_reasons.PrepareFault g)), refl, is, (_, refl)))
  rollback_says (reasons.SyncLost s) name is = naming_says _ _ (synchronized w c s) (λ object named. (reasons.SyncLost s, refl, is))
  rollback_says (reasons.SyncStarved s) name is = naming_says _ _ (synchronized w c s) (λ object named. (reasons.SyncStarved s, refl, is))
  rollback_says (reasons.Phase (phase_reasons.JournalFull used need)) name is = ((outcomes.Rollback (reasons.Phase (phase_reasons.JournalFull used need)), refl, is, (_, refl)), tt)
  rollback_says reasons.NotStored name is = ((reasons.NotStored, refl, is), tt)
  rollback_says reasons.Superior name is = ((reasons.Superior, refl, is), tt)
  rollback_says reasons.NotEnlisted name is = ((reasons.NotEnlisted, refl, is), tt)

  decided_says : (outcome : Outcome) (o : Option (List ℕ)) → branch_name w c 0 ≡ o → AllByRecursion (Says w c (effects.Decided outcome)) (decided_lines w c outcome o)
  decided_says outcome None is = tt
  decided_says (outcomes.Commit basis) (Some name) is = ((outcomes.Commit basis, refl, is, refl), tt)
  decided_says (outcomes.Rollback reason) (Some name) is = rollback_says reason name is
  decided_says outcomes.Unknown (Some name) is = ((outcomes.Unknown, refl, is, refl), tt)

  effect_says : (e : Effect) → AllByRecursion (Says w c e) (effect_lines w c e)
  unfolding effect_lines
  effect_says (effects.Voted g vote) = naming_says _ _ (registered w c g) (λ name named. (g, refl, named))
  effect_says (effects.Decided outcome) = decided_says outcome (branch_name w c 0) refl
  effect_says (effects.SubtransactionEnded b committed) = naming_says _ _ (branch_name w c b) (λ name named. (b, refl, named))
  effect_says (effects.Marked b) = naming_says _ _ (branch_name w c b) (λ name named. tt)
  effect_says effects.Doubted = naming_says _ _ (branch_name w c 0) (λ name named. tt)
  effect_says effects.Done = naming_says _ _ (branch_name w c 0) (λ name named. (refl, named))

  all_here : {A : Type 0} (P : A → Type 0) (xs : List A) (x : A) → AllByRecursion P xs → Contains xs x → P x
  all_here {A = A} P xs x all at = go xs at.0 all at.1 at.2
    where
      go : (ys : List A) (i : ℕ) → AllByRecursion P ys → i < length ys → get_or ys i x ≡ x → P x
      go [] i all l e = absurd (omega (arith, l))
      go (y ∷ ys) zero all l e = subst P e all.0
      go (y ∷ ys) (suc i) all l e = go ys i all.1 (omega (arith, l)) e

  -- each line tells of one of the things that happened
  pub effects_say : (some : List Effect) (t : Told) → Contains (all_effect_lines w c some) t → (e : Effect) × Contains some e × Says w c e t
  effects_say [] t at = let l = at.1 in absurd (omega (arith, l))
  effects_say (e ∷ others) t at = elim (Contains-append_cases (effect_lines w c e) (all_effect_lines w c others) t at) [
    | inl here ↦ (e, at_first e e others refl, all_here (Says w c e) (effect_lines w c e) t (effect_says e) here)
    | inr there ↦ let later = effects_say others t there in (later.0, behind e later.0 others later.1, later.2)
  ]

  -- and what one of them tells is told
  pub effect_among : (some : List Effect) (e : Effect) (t : Told) → Contains some e → Contains (effect_lines w c e) t → Contains (all_effect_lines w c some) t
  effect_among some e t at told = go some at.0 at.1 at.2
    where
      go : (ys : List Effect) (i : ℕ) → i < length ys → get_or ys i e ≡ e → Contains (all_effect_lines w c ys) t
      go [] i l is = absurd (omega (arith, l))
      go (y ∷ ys) zero l is =
          Contains-append_left (effect_lines w c y) (all_effect_lines w c ys) t (subst (λ (x : Effect). Contains (effect_lines w c x) t) (sym is) told)
      go (y ∷ ys) (suc i) l is = Contains-append_right (effect_lines w c y) (all_effect_lines w c ys) t (go ys i (omega (arith, l)) is)

  named_told : (say : List ℕ → Told) (o : Option (List ℕ)) (name : List ℕ) → o ≡ Some name → Contains (naming say o) (say name)
  named_told say (Some other) name is = at_first (say other) (say name) [] (ap say (inner is))
    where
      inner : {a b : List ℕ} → Some a ≡ Some b → a ≡ b
      inner e = cc
  named_told say None name is = absurd cc

  pub voted_told : (some : List Effect) (number : ℕ) (vote : Vote) (name : List ℕ) → Contains some (effects.Voted number vote) → registered w c number ≡ Some name
      → Contains (all_effect_lines w c some) (tell.Known (lines.Voted name vote))
  unfolding effect_lines
  voted_told some number vote name among named =
      effect_among some (effects.Voted number vote) _ among (named_told (λ (x : List ℕ). tell.Known (lines.Voted x vote)) (registered w c number) name named)

  pub end_told : (some : List Effect) (b : ℕ) (committed : Bool) (t : List ℕ) → Contains some (effects.SubtransactionEnded b committed) → branch_name w c b ≡ Some t
      → Contains (all_effect_lines w c some) (tell.Known (lines.SubDone t committed))
  unfolding effect_lines
  end_told some b committed t among named = effect_among some _ _ among (named_told _ (branch_name w c b) t named)

  pub commit_told : (some : List Effect) (basis : Ground) (name : List ℕ) → Contains some (effects.Decided (outcomes.Commit basis)) → branch_name w c 0 ≡ Some name
      → Contains (all_effect_lines w c some) (tell.Known (lines.Decide name (outcomes.Commit basis)))
  unfolding effect_lines
  commit_told some basis name among named = effect_among some _ _ among (by (branch_name w c 0) named)
    where
      by : (o : Option (List ℕ)) → o ≡ Some name → Contains (decided_lines w c (outcomes.Commit basis) o) (tell.Known (lines.Decide name (outcomes.Commit basis)))
      by (Some other) is = at_first _ _ [] (ap (λ (n : List ℕ). tell.Known (lines.Decide n (outcomes.Commit basis))) (inner is))
        where
          inner : {a b : List ℕ} → Some a ≡ Some b → a ≡ b
          inner e = cc
      by None is = absurd cc

-- what is among these lines tells of a rollback among those
pub rolled_among : (a b : List Told) (name : List ℕ) → ((t : Told) → Contains a t → Contains b t) → IsRolledBack a name → IsRolledBack b name
rolled_among a b name on (agreed.IsRolledBack.by_known reason s) = agreed.IsRolledBack.by_known reason (told_stands b _ (on _ (stands_told a _ s)))
rolled_among a b name on (agreed.IsRolledBack.by_other reason c) = agreed.IsRolledBack.by_other reason (on _ c)
rolled_among a b name on (agreed.IsRolledBack.by_synchronization reason synchronization c) = agreed.IsRolledBack.by_synchronization reason synchronization (on _ c)

other_told : (name reason : List ℕ) → IsRolledBack (tell.RolledBack name reason ∷ []) name
other_told name reason = agreed.IsRolledBack.by_other reason (at_first _ _ [] refl)

-- whom a rollback's reason speaks of has a name, and is no synchronization
abbrev pub IsNamedReason : World → Cast → Reason → Type 0
IsNamedReason w c (reasons.Phase (phase_reasons.Vote g)) = IsTrue (is_some (registered w c g))
IsNamedReason w c (reasons.Phase (phase_reasons.PrepareLost g)) = IsTrue (is_some (registered w c g))
IsNamedReason w c (reasons.Phase (phase_reasons.PrepareStarved g)) = IsTrue (is_some (registered w c g))
IsNamedReason w c (reasons.Phase (phase_reasons.PrepareFault g)) = IsTrue (is_some (registered w c g))
IsNamedReason w c (reasons.SyncLost s) = ⊥
IsNamedReason w c (reasons.SyncStarved s) = ⊥
IsNamedReason w c _ = Unit {0}

reason_named : (why : List ℕ → ToldReason (List ℕ)) (name : List ℕ) (o : Option (List ℕ)) → IsTrue (is_some o)
    → IsRolledBack (naming (λ (object : List ℕ). tell.Known (lines.Decide name (outcomes.Rollback (why object)))) o) name
reason_named why name (Some object) there = agreed.IsRolledBack.by_known (why object) (inl refl)
reason_named why name None there = absurd cc

module _ (w : World) (c : Cast) where
  reason_told : (why : Reason) (name : List ℕ) → IsNamedReason w c why → IsRolledBack (rollback_lines w c name why) name
  reason_told reasons.Asked name plain = other_told name _
  reason_told reasons.Marked name plain = other_told name _
  reason_told reasons.Timeout name plain = other_told name _
  reason_told (reasons.Phase (phase_reasons.Vote g)) name there = reason_named phase_reasons.Vote name (registered w c g) there
  reason_told (reasons.Phase (phase_reasons.PrepareLost g)) name there = reason_named phase_reasons.PrepareLost name (registered w c g) there
  reason_told (reasons.Phase (phase_reasons.PrepareStarved g)) name there = reason_named phase_reasons.PrepareStarved name (registered w c g) there
  reason_told (reasons.Phase (phase_reasons.PrepareFault g)) name there = reason_named phase_reasons.PrepareFault name (registered w c g) there
  reason_told (reasons.SyncLost s) name plain = absurd plain
  reason_told (reasons.SyncStarved s) name plain = absurd plain
  reason_told (reasons.Phase (phase_reasons.JournalFull used need)) name plain = agreed.IsRolledBack.by_known (phase_reasons.JournalFull used need) (inl refl)
  reason_told reasons.NotStored name plain = other_told name _
  reason_told reasons.Superior name plain = other_told name _
  reason_told reasons.NotEnlisted name plain = other_told name _

  -- a rollback for such a reason is told
  pub rollback_told : (some : List Effect) (why : Reason) (name : List ℕ) → IsNamedReason w c why → Contains some (effects.Decided (outcomes.Rollback why))
      → branch_name w c 0 ≡ Some name → IsRolledBack (all_effect_lines w c some) name
  unfolding effect_lines
  rollback_told some why name plain among named =
      rolled_among (rollback_lines w c name why) (all_effect_lines w c some) name
      (λ t at. effect_among w c some _ t among (subst (λ (o : Option (List ℕ)). Contains (decided_lines w c (outcomes.Rollback why) o) t) (sym named) at))
      (reason_told why name plain)
