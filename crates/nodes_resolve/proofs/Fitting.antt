-- A family of a sound node has no more lists than there may be.
use Rattle.std.proofs.Common.{◌≡◌, ◌≤◌, Bool, true, false, length, Option, Some, None, if◌then◌else◌, arith}
use Rattle.std.specs.Option.{option_and_then}
use Rattle.ior_refs.specs.declared.key.ObjectKey.{ObjectKey}
use Rattle.resource_votes.specs.Limits.{list_count}
use Rattle.coordinator.specs.Family.{Family}
use Rattle.coordinator.specs.Node.{Node, family_in, family_of, is_of, only_of}
use Rattle.family_laws.specs.SoundNode.{IsSoundNode}

of_key : (k : ObjectKey) (o : Option Family) (f : Family) → option_and_then (only_of k) o ≡ Some f → o ≡ Some f
of_key k None f e = absurd (cc e)
of_key k (Some g) f e = go (is_of k g) e
  where
    go : (t : Bool) → (if t then Some g else None) ≡ Some f → Some g ≡ Some f
    go true x = x
    go false x = absurd (cc x)

in_slot : (k : ObjectKey) (n : Node) (f : Family) → family_of k n ≡ Some f → family_in n.families k.slot ≡ Some f
unfolding family_of
in_slot k n f e = of_key k (family_in n.families k.slot) f e

pub lists_fit : (n : Node) (k : ObjectKey) (f : Family) → IsSoundNode n → family_of k n ≡ Some f
    → length f.ballots.lists ≤ list_count
lists_fit n k f sound e =
    let room = ((sound.families k.slot f (in_slot k n f e)).1).lists.room in
    omega arith
