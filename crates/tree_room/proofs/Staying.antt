-- A node that lies behind a lock stays of its service, and in its life.
use Rattle.std.proofs.Common.{◌≡◌, ◌∙◌, ◌⊎◌, inl, inr, ap, sym, ℕ, Result}
use Rattle.ior_refs.specs.declared.key.ObjectKey.{ObjectKey}
use Rattle.decision_journal.specs.Journal.{Found}
use Rattle.decision_journal.specs.State.{JournalState}
use Rattle.coordinator.specs.declared.node.NodeFault.{NodeFault}
use Rattle.coordinator.specs.NodeSlots.{Created}
use Rattle.service_node.specs.NodeState.{HangsTogether, IsMadeOrStarved, NodeState, StaysInLife}
use Rattle.tree_room.specs.Room.{IsNamed}

module _ {D : Type 0} (service number : ℕ) (before after : NodeState D) (whole : HangsTogether before) (later : HangsTogether after)
    (named : IsNamed service number before) where
  pub stays_named : StaysInLife before after → IsNamed service number after
  stays_named stays = record {
    service_is = later.service_is ∙ stays.service_is ∙ sym whole.service_is ∙ named.service_is;
    life_is = ap (λ (f : Found). f.life) later.found_is ∙ stays.life_is ∙ sym (ap (λ (f : Found). f.life) whole.found_is) ∙ named.life_is;
  }

  pub stays_with : after.journal ≡ before.journal → IsNamed service number after
  stays_with same = stays_named (record {
    service_is = ap (λ (j : JournalState D). j.service) same;
    life_is = ap (λ (j : JournalState D). j.found.life) same;
  })

  pub stays_by_create : (said : Result ObjectKey NodeFault) (created : Created) → IsMadeOrStarved before after said created → IsNamed service number after
  stays_by_create said created (inl made) = stays_with made.journal
  stays_by_create said created (inr starved) = stays_with (ap (λ (n : NodeState D). n.journal) starved.same)
