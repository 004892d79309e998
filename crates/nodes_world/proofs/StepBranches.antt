-- The branches of a family as a step leaves it that makes no subtransaction: they are those of before, under the same parents.
use Rattle.std.proofs.Common.{◌≡◌, ◌↔◌, ◌==◌, ◌&&◌, ℕ, zero, suc, ◌<◌, List, [], ◌∷◌, length, slice_set, Contains, Some, refl, sym, ap, subst, ◌∙◌}
use Rattle.ior_refs.specs.declared.key.ObjectKey.{ObjectKey}
use Rattle.ots_model.specs.Safe.{Stands, IsRegistered}
use Rattle.ots_model.specs.declared.line.Line.TheVariants as lines
use Rattle.resource_votes.specs.declared.registration.Registration.{Registration}
use Rattle.txn_tree.specs.Calls.{ended, marked}
use Rattle.txn_tree.specs.Rows.{parent}
use Rattle.txn_tree.specs.declared.row.Row.{Row}
use Rattle.coordinator.specs.declared.effect.Effect.{Effect}
use Rattle.coordinator.specs.declared.effect.Effect.TheVariants as effects
use Rattle.coordinator.specs.Family.{Family}
use Rattle.family_laws.specs.LawsOfTelling.{rows_told}
use Rattle.nodes_world.specs.declared.thing.Thing.{Thing}
use Rattle.nodes_world.specs.Agreement.{IsTransaction}
use Rattle.nodes_world.specs.AgreementInside.{Known, FamilyIsKnown, IsBranch}
use Rattle.nodes_world.specs.Told.{Told}
use Rattle.nodes_world.specs.World.{World, NamedKey, family_at, referred, thing_in}
use Rattle.nodes_world.proofs.KnownLines.{among_back, among_turned, lines_of}
use Rattle.nodes_world.proofs.EffectsTold.{TellsEffects}
use Rattle.nodes_world.proofs.EndsOpen.{parent_set}

set_length : (rs : List Row) (b : ℕ) (one : Row) → length (slice_set rs b one) ≡ length rs
set_length [] b one = refl
set_length (z ∷ rs) zero one = refl
set_length (z ∷ rs) (suc b) one = ap suc (set_length rs b one)

-- ends and marks leave as many rows
pub rows_length : (some : List Effect) (rs : List Row) → length (rows_told some rs) ≡ length rs
rows_length [] rs = refl
rows_length (effects.Voted g vote ∷ others) rs = rows_length others rs
rows_length (effects.Decided fixed ∷ others) rs = rows_length others rs
rows_length (effects.SubtransactionEnded b committed ∷ others) rs = rows_length others (ended rs b committed) ∙ set_length rs b _
rows_length (effects.Marked b ∷ others) rs = rows_length others (marked rs b) ∙ set_length rs b _
rows_length (effects.Doubted ∷ others) rs = rows_length others rs
rows_length (effects.Done ∷ others) rs = rows_length others rs

-- under the same parents
pub rows_parents : (some : List Effect) (rs : List Row) (b : ℕ) → parent (rows_told some rs) b ≡ parent rs b
rows_parents [] rs c = refl
rows_parents (effects.Voted g vote ∷ others) rs c = rows_parents others rs c
rows_parents (effects.Decided fixed ∷ others) rs c = rows_parents others rs c
rows_parents (effects.SubtransactionEnded b committed ∷ others) rs c = rows_parents others (ended rs b committed) c ∙ parent_set rs b c _ refl
rows_parents (effects.Marked b ∷ others) rs c = rows_parents others (marked rs b) c ∙ parent_set rs b c _ refl
rows_parents (effects.Doubted ∷ others) rs c = rows_parents others rs c
rows_parents (effects.Done ∷ others) rs c = rows_parents others rs c

branch_by : (w v : World) (f g : Family) → v.names ≡ w.names → g.key ≡ f.key → (t : List ℕ) (b : ℕ) → IsBranch w f t b → IsBranch v g t b
branch_by w v f g names same t b (key, named, of, is) = (
  key,
  ap (λ (ns : List (List ℕ × Thing)). thing_in ns t) names ∙ named,
  ap (λ (x : ObjectKey). key.service == x.service && key.life == x.life && key.slot == x.slot && key.generation == x.generation) same ∙ of,
  is,
)

module _ (w v : World) (told more : List Told) (k : Known w told) (names : v.names ≡ w.names) (tells : TellsEffects told more)
    (key : ObjectKey) (f g : Family) (there : family_at w key ≡ Some f) (same : g.key ≡ f.key) (some : List Effect) (rows : g.rows ≡ rows_told some f.rows) where
  abbrev pub old : FamilyIsKnown w (lines_of told) f
  old = k.families key f there

  pub branch_on : (t : List ℕ) (b : ℕ) → IsBranch w f t b → IsBranch v g t b
  branch_on t b branch = branch_by w v f g names same t b branch

  pub branch_back : (t : List ℕ) (b : ℕ) → IsBranch v g t b → IsBranch w f t b
  branch_back t b branch = branch_by v w g f (sym names) (sym same) t b branch

  as_many : length g.rows ≡ length f.rows
  as_many = ap length rows ∙ rows_length some f.rows

  pub step_branches : (b : ℕ) → b < length g.rows → (t : List ℕ) × IsBranch v g t b
  step_branches b less = let at = old.branches b (subst (λ (n : ℕ). b < n) as_many less) in (at.0, branch_on at.0 b at.1)

  pub step_no_further : (t : List ℕ) (b : ℕ) → IsBranch v g t b → b < length g.rows
  step_no_further t b branch = subst (λ (n : ℕ). b < n) (sym as_many) (old.no_further t b (branch_back t b branch))

  pub step_parents : (t above : List ℕ) (b p : ℕ) → IsBranch v g t b → IsBranch v g above p
      → Stands (lines.Sub t above) (lines_of more) ↔ (parent g.rows b ≡ Some p)
  step_parents t above b p branch higher =
      let was = old.parents t above b p (branch_back t b branch) (branch_back above p higher) in
      let kept : parent g.rows b ≡ parent f.rows b = ap (λ (rs : List Row). parent rs b) rows ∙ rows_parents some f.rows b in (
        λ s. kept ∙ was.0 (among_turned _ _ (tells.back _ refl (among_back _ _ s))),
        λ e. among_turned _ _ (tells.on _ (among_back _ _ (was.1 (sym kept ∙ e)))),
      )

  pub step_of_name : IsTransaction v old.name g.key
  step_of_name =
      ap (λ (ns : List (List ℕ × Thing)). thing_in ns old.name) names
      ∙ subst (λ (x : ObjectKey). IsTransaction w old.name x) (sym same) old.of_name

  pub step_top : g.key.index ≡ 0
  step_top = ap (λ (x : ObjectKey). x.index) same ∙ old.top

  -- where the same are registered, those of which a line tells are so with the branches that they had
  pub step_own : g.ballots.registrations ≡ f.ballots.registrations → ((to : List ℕ) → referred v to ≡ referred w to)
      → (r : Registration) (object : NamedKey) (t : List ℕ) → Contains g.ballots.registrations r → referred v r.to ≡ Some object
      → IsRegistered object.name t (lines_of more) → IsBranch v g t r.branch
  step_own ballots refers r object t among to registered =
      branch_on t r.branch
      (old.own r object t (subst (λ (rs : List Registration). Contains rs r) ballots among) (sym (refers r.to) ∙ to)
      (registered.0, among_turned _ _ (tells.back _ refl (among_back _ _ registered.1))))
