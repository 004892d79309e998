-- The context that a node tells has the null tail.
use Rattle.std.proofs.Common.{◌≡◌, ◌∙◌, ◌⊎◌, ◌&&◌, inl, inr, ap, sym, ℕ, List, Bool, true, false, Option, Some, None, Ok, if◌then◌else◌}
use Rattle.std.specs.Option.{option_and_then}
use Rattle.ior_refs.specs.declared.key.ObjectKey.{ObjectKey}
use Rattle.ots_model.specs.declared.service.Endpoint.{Endpoint}
use Rattle.ots_context.specs.declared.context.AnyTail.{AnyTail}
use Rattle.ots_context.specs.declared.context.AnyTail.TheVariants.{Null}
use Rattle.ots_context.specs.declared.context.Context.{Context}
use Rattle.coordinator.specs.Contexts.{context_in, context_named, context_of}
use Rattle.ots_model.specs.declared.tree.Outward.{Outward}
use Rattle.ots_outside.specs.Disk.{DiskState}
use Rattle.coordinator.specs.Family.{Family}
use Rattle.coordinator.specs.declared.event.Event.{Event}
use Rattle.coordinator.specs.declared.said.StepAnswer.{StepAnswer}
use Rattle.service_node.specs.Applying.{IsApplied, IsUnapplied}
use Rattle.service_node.specs.NodeState.{NodeState}
use Rattle.coordinator.specs.Node.{Node, family_of}
use Rattle.coordinator.specs.Table.{has_branch}

module _ (at : Endpoint) (now b : ℕ) (c : Context) where
  by_branch : (there : Bool) (f : Family) → (if there then Some (context_of at f now b) else None) ≡ Some c → c.tail ≡ Null
  by_branch true f is = let same : context_of at f now b ≡ c = cc (is) in ap (λ (x : Context). x.tail) (sym same)
  by_branch false f is = absurd (cc (is))

  by_family : (o : Option Family) → option_and_then (context_in at now b) o ≡ Some c → c.tail ≡ Null
  by_family None is = absurd (cc (is))
  by_family (Some f) is = by_branch (has_branch f b) f is

pub told_tail : (at : Endpoint) (now : ℕ) (k : ObjectKey) (n : Node) (c : Context) → context_named at now k n ≡ Some c → c.tail ≡ Null
unfolding context_named
told_tail at now k n c is = by_family at now k.index c (family_of k n) is

-- a context that was found where it was asked for, and is given where the call was done
pub given_where : (asked plain : Bool) (named found given : Option Context) → found ≡ (if asked then named else None)
    → given ≡ (if plain then found else None) → given ≡ (if asked && plain then named else None)
given_where true true named found given found_is given_is = given_is ∙ found_is
given_where true false named found given found_is given_is = given_is
given_where false true named found given found_is given_is = given_is ∙ found_is
given_where false false named found given found_is given_is = given_is

-- a call that is answered was made
pub applied_where : {D : Type 0} (wants : Bool) (told : D → Option DiskState) (counts : D → ℕ) (k : ObjectKey) (e : Event) (before after : NodeState D)
    (answer : StepAnswer) (words more : List Outward)
    → IsApplied wants told counts k e before after (Ok answer) words more ⊎ IsUnapplied k e before after (Ok answer) words more
    → IsApplied wants told counts k e before after (Ok answer) words more
applied_where wants told counts k e before after answer words more (inl applied) = applied
applied_where wants told counts k e before after answer words more (inr unapplied) = absurd (cc (unapplied.fault))
