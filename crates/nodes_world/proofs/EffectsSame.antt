-- What is told of a family is the same in each world with the same names, to which references lead alike.
use Rattle.std.proofs.Common.{◌≡◌, ℕ, ◌==◌, List, [], ◌∷◌, ◌++◌, find, Option, Some, None, refl, ap, ap₂, ◌∙◌}
use Rattle.std.specs.Option.{option_and_then, option_map}
use Rattle.ior_refs.specs.declared.key.ObjectKey.{ObjectKey}
use Rattle.ots_model.specs.Numbered.{Outcome}
use Rattle.ots_model.specs.declared.completion.Outcome.TheVariants as outcomes
use Rattle.ots_model.specs.declared.tree.Reason.{Reason}
use Rattle.ots_model.specs.declared.completion.Reason.TheVariants as phase_reasons
use Rattle.ots_model.specs.declared.tree.Reason.TheVariants as reasons
use Rattle.resource_votes.specs.declared.registration.Registration.{Registration}
use Rattle.coordinator.specs.declared.effect.Effect.{Effect}
use Rattle.coordinator.specs.declared.effect.Effect.TheVariants as effects
use Rattle.nodes_world.specs.declared.thing.Thing.{Thing}
use Rattle.nodes_world.specs.Happenings.{Cast, all_effect_lines, branch_name, decided_lines, effect_lines, name_numbered, naming, rollback_lines}
use Rattle.nodes_world.specs.Told.{Told}
use Rattle.nodes_world.specs.World.{World, NamedKey, referred, transaction_name}

module _ (w v : World) (names : v.names ≡ w.names) (refers : (to : List ℕ) → referred v to ≡ referred w to) where
  transaction_same : (key : ObjectKey) → transaction_name v key ≡ transaction_name w key
  unfolding transaction_name
  transaction_same key = ap (λ (ns : List (List ℕ × Thing)). transaction_name (record w { names = ns }) key) names

  found_same : (o : Option Registration) → option_map (λ (r : NamedKey). r.name) (option_and_then (λ (r : Registration). referred v r.to) o)
      ≡ option_map (λ (r : NamedKey). r.name) (option_and_then (λ (r : Registration). referred w r.to) o)
  found_same (Some r) = ap (option_map (λ (x : NamedKey). x.name)) (refers r.to)
  found_same None = refl

  numbered_same : (some : List Registration) (number : ℕ) → name_numbered v some number ≡ name_numbered w some number
  numbered_same some number = found_same (find (λ (r : Registration). r.index == number) some)

  module _ (c : Cast) where
    naming_same : (say : List ℕ → Told) (some : List Registration) (number : ℕ) → naming say (name_numbered v some number) ≡ naming say (name_numbered w some number)
    naming_same say some number = ap (naming say) (numbered_same some number)

    branch_same : (say : List ℕ → Told) (b : ℕ) → naming say (branch_name v c b) ≡ naming say (branch_name w c b)
    branch_same say b = ap (naming say) (transaction_same _)

    rollback_same : (reason : Reason) (name : List ℕ) → rollback_lines v c name reason ≡ rollback_lines w c name reason
    rollback_same reasons.Asked name = refl
    rollback_same reasons.Marked name = refl
    rollback_same reasons.Timeout name = refl
    rollback_same (reasons.Phase (phase_reasons.Vote g)) name = naming_same _ c.registrations g
    rollback_same (reasons.Phase (phase_reasons.PrepareLost g)) name = naming_same _ c.registrations g
    rollback_same (reasons.Phase (phase_reasons.PrepareStarved g)) name = naming_same _ c.registrations g
    rollback_same (reasons.Phase (phase_reasons.PrepareFault g)) name = naming_same _ c.registrations g
    rollback_same (reasons.SyncLost s) name = naming_same _ c.synchronizations s
    rollback_same (reasons.SyncStarved s) name = naming_same _ c.synchronizations s
    rollback_same (reasons.Phase (phase_reasons.JournalFull used need)) name = refl
    rollback_same reasons.NotStored name = refl
    rollback_same reasons.Superior name = refl
    rollback_same reasons.NotEnlisted name = refl

    outcome_same : (outcome : Outcome) (o : Option (List ℕ)) → decided_lines v c outcome o ≡ decided_lines w c outcome o
    outcome_same outcome None = refl
    outcome_same (outcomes.Commit basis) (Some name) = refl
    outcome_same (outcomes.Rollback reason) (Some name) = rollback_same reason name
    outcome_same outcomes.Unknown (Some name) = refl

    pub effect_same : (e : Effect) → effect_lines v c e ≡ effect_lines w c e
    unfolding effect_lines
    effect_same (effects.Voted g vote) = naming_same _ c.registrations g
    effect_same (effects.Decided outcome) = ap (decided_lines v c outcome) (transaction_same _) ∙ outcome_same outcome (branch_name w c 0)
    effect_same (effects.SubtransactionEnded b committed) = branch_same _ b
    effect_same (effects.Marked b) = branch_same _ b
    effect_same effects.Doubted = branch_same _ 0
    effect_same effects.Done = branch_same _ 0

    -- so are the lines of all that a step does
    pub effects_same : (some : List Effect) → all_effect_lines v c some ≡ all_effect_lines w c some
    effects_same [] = refl
    effects_same (e ∷ others) = ap₂ (λ (a b : List Told). a ++ b) (effect_same e) (effects_same others)
