-- How many transactions there are after a rule, and where nothing comes of one.
use Rattle.std.proofs.Common.{◌≡◌, ◌∙◌, refl, ap, sym, ℕ, Bool, List, length, Option}
use Rattle.std.proofs.lemmas.List.{append-nil}
use Rattle.ots_model.specs.declared.completion.CallNumber.{CallNumber}
use Rattle.ots_model.specs.declared.completion.Stood.{Stood}
use Rattle.ots_model.specs.declared.tree.Heard.{Heard}
use Rattle.ots_model.specs.declared.tree.Outward.{Outward}
use Rattle.ots_model.specs.declared.tree.Reason.{Reason}
use Rattle.coordinator.specs.Closing.{begins, rolling_back}
use Rattle.coordinator.specs.Family.{Family, waiting_for}
use Rattle.coordinator.specs.Hearing.{settles}
use Rattle.coordinator.specs.Moves.{after, completes_as, only, ◌▹◌}
use Rattle.coordinator.specs.Step.{answered, goes_on_at, hears, hears_for}
use Rattle.coordinator.specs.declared.effect.Effect.{Effect}
use Rattle.coordinator.specs.declared.said.Finished.{Finished}
use Rattle.family_rules.specs.Changes.{DraftParts, so_far}

pub begun_count : (asked : Bool) (reason : Reason) (f : Family) → length (begins (rolling_back asked reason f) f).family.rows ≡ length f.rows
unfolding begins completes_as
begun_count asked reason f = refl

-- an answer is heard by the call that waits for it
pub answered_at : (o : Option ℕ) (n : CallNumber) (h : Heard) (stood : Option Stood) (f : Family) → waiting_for f n ≡ o
    → (hears_for o n h f ▹ settles stood ▹ goes_on_at o) ≡ answered n h stood f
unfolding answered hears
answered_at o n h stood f is = sym (ap (λ (x : Option ℕ). hears_for x n h f ▹ settles stood ▹ goes_on_at x) is)

-- nothing comes of it
pub nothing_more : (f : Family) (d : DraftParts) → so_far f d ≡ after (so_far f d) (only f)
nothing_more f d =
    ap (λ (ws : List Outward). record (so_far f d) { words = ws }) (sym (append-nil d.changes.words))
    ∙ (ap (λ (xs : List Finished). record (after (so_far f d) (only f)) { finished = xs; effects = d.changes.effects }) (sym (append-nil d.changes.finished))
    ∙ ap (λ (xs : List Effect). record (after (so_far f d) (only f)) { effects = xs }) (sym (append-nil d.changes.effects)))
