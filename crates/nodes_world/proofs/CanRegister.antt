-- By what is known, a new name may be made, and what is still open may be registered with and end.
use Rattle.std.proofs.Common.{◌≡◌, ◌⊎◌, inl, inr, ℕ, ◌<◌, ◌==◌, Bool, true, false, cond, IsTrue, List, Option, Some, None, refl, sym, subst, arith}
use Rattle.std.specs.Option.{option_map, option_map_or}
use Rattle.std.proofs.lemmas.Bool.Decides.{nat_tests}
use Rattle.ior_refs.specs.declared.key.ObjectKey.{ObjectKey}
use Rattle.ots_model.specs.Safe.{IsOf}
use Rattle.ots_model.specs.SafeByLine.{IsNew, IsOpen}
use Rattle.ots_model.specs.Numbered.{Outcome}
use Rattle.ots_model.specs.declared.completion.Outcome.TheVariants as outcomes
use Rattle.txn_tree.specs.Rows.{IsTree, parent, state, shown, is_live, is_live_branch}
use Rattle.txn_tree.specs.declared.row.Row.{Row}
use Rattle.txn_tree.specs.declared.row.State.{State as BranchState}
use Rattle.txn_tree.specs.declared.row.State.TheVariants as rows
use Rattle.two_phase.specs.Stages as stages
use Rattle.two_phase.specs.Stages.{Standing, Waiting, Going as UnderWay}
use Rattle.coordinator.specs.declared.phase.Column.TheVariants as columns
use Rattle.coordinator.specs.declared.phase.Phase.TheVariants as phases
use Rattle.coordinator.specs.declared.call.Stage.{Stage}
use Rattle.coordinator.specs.declared.call.Stage.TheVariants.{Going, Finishing, Completing, Over}
use Rattle.coordinator.specs.Family.{Family}
use Rattle.coordinator.specs.Node.{is_of}
use Rattle.coordinator.specs.Phases.{column, ended_phase, ending_phase, is_before, is_ending, is_open, live_column, phase, phase_by, sub_column, top_column}
use Rattle.family_laws.specs.Sound.{IsAsking, IsWaiting, NoneLive}
use Rattle.nodes_world.specs.AgreementInside.{Known, IsBranch}
use Rattle.nodes_world.specs.Told.{Told}
use Rattle.nodes_world.specs.World.{World, family_at, thing}
use Rattle.nodes_world.proofs.KnownLines.{lines_of, of_key, up_same, not_free, same_key}
use Rattle.nodes_world.proofs.KnownFamilies.{commits_asking, parent_before}

-- ---- what is still open in a family

-- nobody was asked yet for the outcome of the top-level transaction; or it is a subtransaction that has not ended
abbrev pub IsOpenBranch : Family → ℕ → Type 0
IsOpenBranch f b = ((b ≡ 0) × IsTrue (is_before f.stage)) ⊎ ((0 < b) × IsTrue (is_live_branch f.rows b))

not_open_phase : (a b : Bool) → IsTrue (is_open (top_column (cond a phases.Doubt (cond b phases.OnePhase phases.Preparing)))) → ⊥
not_open_phase true b is = absurd cc
not_open_phase false true is = absurd cc
not_open_phase false false is = absurd cc

not_open_ending : (s : Standing) (o : Option Outcome) → IsTrue (is_open (top_column (ending_phase s o))) → ⊥
not_open_ending s None is = not_open_phase (stages.is_doubtful s) (stages.decides_alone s) is
not_open_ending s (Some (outcomes.Commit basis)) is = absurd cc
not_open_ending s (Some (outcomes.Rollback reason)) is = absurd cc
not_open_ending s (Some outcomes.Unknown) is = absurd cc

not_open_ended : (s : Standing) (o : Option Outcome) → IsTrue (is_open (top_column (ended_phase s o))) → ⊥
not_open_ended s None is = not_open_phase (stages.is_doubtful s) (stages.decides_alone s) is
not_open_ended s (Some (outcomes.Commit basis)) is = absurd cc
not_open_ended s (Some (outcomes.Rollback reason)) is = absurd cc
not_open_ended s (Some outcomes.Unknown) is = absurd cc

open_top : (stage : Stage) (f : Family) → IsTrue (is_open (top_column (phase_by stage f))) → IsTrue (is_before stage)
open_top Going f is = refl
open_top Finishing f is = refl
open_top Completing f is = absurd (not_open_ending f.completion (stages.outcome f.completion) is)
open_top Over f is = absurd (not_open_ended f.completion (stages.outcome f.completion) is)

top_of_phase : (f : Family) → IsTrue (is_open (top_column (phase f))) → IsTrue (is_before f.stage)
unfolding phase
top_of_phase f is = open_top f.stage f is

open_live : (o : Option BranchState) → IsTrue (is_open (live_column (option_map shown o))) → IsTrue (option_map_or is_live o false)
open_live None is = absurd cc
open_live (Some rows.Active) is = refl
open_live (Some rows.Marked) is = refl
open_live (Some rows.Committed) is = absurd cc
open_live (Some rows.RolledBack) is = absurd cc

open_sub : (ending : Bool) (o : Option BranchState) → IsTrue (is_open (cond ending columns.Past (live_column (option_map shown o))))
    → IsTrue (option_map_or is_live o false)
open_sub true o is = absurd cc
open_sub false o is = open_live o is

open_by : (f : Family) (b : ℕ) (first : Bool) → (first ≡ true → b ≡ 0) → (first ≡ false → 0 < b)
    → IsTrue (is_open (cond first (top_column (phase f)) (sub_column f b))) → IsOpenBranch f b
open_by f b true top below is = inl (top refl, top_of_phase f is)
open_by f b false top below is = inr (below refl, open_sub (is_ending f b) (state f.rows b) is)

-- where something may be registered with a branch, it is open
pub open_column : (f : Family) (b : ℕ) → IsTrue (is_open (column f b)) → IsOpenBranch f b
unfolding column
open_column f b is = open_by f b (b == 0) (first b) (below b) is
  where
    first : (b : ℕ) → b == 0 ≡ true → b ≡ 0
    first b e = grind (arith, nat_tests)

    below : (b : ℕ) → b == 0 ≡ false → 0 < b
    below b e = grind (arith, nat_tests)

-- so is one that may be committed
pub first_parent : (rs : List Row) (b : ℕ) → IsTree rs → b ≡ 0 → (p : ℕ) → parent rs b ≡ Some p → ⊥
first_parent rs b tree is p e =
    let within = tree.some in
    let before = parent_before b (parent rs b) p (tree.parents b (omega (arith, is, within))) e in
    omega (arith, before, is)

-- a family that asks has nothing open
pub not_asking : (f : Family) (s : Standing) (b : ℕ) → IsAsking s → (IsAsking s → NoneLive f.rows) → (IsTrue (is_before f.stage) → IsWaiting s) → IsOpenBranch f b → ⊥
not_asking f (Waiting room) b asking none waits may = absurd asking
not_asking f (UnderWay c) b asking none waits (inl (is, early)) = waits early
not_asking f (UnderWay c) b asking none waits (inr (below, live)) = none asking b below live

module _ (w : World) (told : List Told) (k : Known w told) where
  -- a free name may be made a transaction's
  pub can_make : (t : List ℕ) → thing w t ≡ None → IsNew t (lines_of told)
  can_make t free = record {
    no_top = λ top. let at = k.names.tops t top.0 top.1 in not_free (thing w t) _ at.1 free;
    no_import = λ superior imported. k.names.no_import t superior imported.0 imported.1;
    no_import_of = λ f imported. k.names.no_import f t imported.0 imported.1;
    no_sub = λ parent sub. let at = k.names.subs t parent sub in not_free (thing w t) _ at.2 free;
    no_sub_of = λ s sub. let at = k.names.subs s t sub in not_free (thing w t) _ at.3 free;
    no_registration = λ g registered. let at = k.names.registered g t registered in not_free (thing w t) _ at.3 free;
  }

  -- in a family of which something is open, no commit was told
  pub open_family : (t : List ℕ) (b : ℕ) (key : ObjectKey) (f : Family) → family_at w key ≡ Some f → IsBranch w f t b → IsOpenBranch f b
      → IsOpen t (lines_of told)
  open_family t b key f there branch may family of told_in =
      let up = up_same w told k told_in.family family told_in.up in
      let within : IsOf (lines_of told) family told_in.under.transaction =
      subst (λ (x : List ℕ). IsOf (lines_of told) x told_in.under.transaction) (sym up) told_in.under.of_family in
      let at = k.names.registered told_in.registration told_in.under.transaction told_in.under.registered in
      let same : record branch.0 { index = 0 } ≡ record at.1 { index = 0 } =
      same_key (thing w family) _ _ (of_key w told k family t branch.0 of branch.1) (of_key w told k family told_in.under.transaction at.1 within at.3) in
      let other : IsBranch w f told_in.under.transaction at.1.index =
      (at.1, at.3, subst (λ (x : ObjectKey). IsTrue (is_of x f)) same branch.2, refl) in
      let commits = k.open_words.commit told_in.registration told_in.under.transaction at.1.index key f told_in.sent told_in.under.registered there other in
      let sound = (k.families key f there).sound.completion in
      not_asking f f.completion b (commits_asking f.completion commits) sound.asking sound.begun.0 may
