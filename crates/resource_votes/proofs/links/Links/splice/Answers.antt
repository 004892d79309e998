use Rattle.std.proofs.Common.{◌≡◌, ◌<◌, ◌++◌, length, take, drop, ◌∙◌, ap, arith}
use Rattle.resource_votes.specs.LinksInside.{NumberLists, ends_at, emptied, joined_next, joined_at, all_linked}
use Rattle.resource_votes.specs.Lists.{handed_lists}
use Rattle.resource_votes.proofs.Handed.{last_there, handed, emptied_linked, AreNow, kept_count, IsWritten, written}
use Rattle.resource_votes.proofs.links.Links.splice.Goals as goal

pub hand_over-requires-clause-last : goal.hand_over-requires-clause-last
hand_over-requires-clause-last c =
    let from_there : c.args.from < length c.self.inside.ends.items = omega (arith, c.requires.there.0, c.self.invariant.size) in
    let to_there : c.args.to < length (emptied c.self.inside.ends.items c.args.from) = rw (kept_count _ _ _) (omega (arith, c.requires.there.1, c.self.invariant.size)) in
    rw (c.deref_mut.ensures.value, c.deref_mut-2.ensures.value)
    (last_there _ _ (emptied_linked _ _ _ c.self.invariant.are_linked from_there) _ to_there)

-- the vectors after the call
vectors : (c : goal.After-self-2-1) → IsWritten (take c.self.inside.next.len (c.hand_over.new.next ++ drop (length c.hand_over.new.next) c.self.inside.next.items)) (take c.self.inside.ends.len (c.hand_over.new.ends ++ drop (length c.hand_over.new.ends) c.self.inside.ends.items)) (handed_lists (all_linked c.self.inside.next.items c.self.inside.ends.items) c.args.from c.args.to)
vectors c =
    let from_there : c.args.from < length c.self.inside.ends.items = omega (arith, c.requires.there.0, c.self.invariant.size) in
    let to_there : c.args.to < length c.self.inside.ends.items = omega (arith, c.requires.there.1, c.self.invariant.size) in
    let next_is : c.hand_over.new.next ≡ joined_next c.self.inside.next.items (ends_at (emptied c.self.inside.ends.items c.args.from) c.args.to) (ends_at c.self.inside.ends.items c.args.from) =
    rw (c.deref_mut.ensures.value, c.deref_mut-2.ensures.value) at c.hand_over.ensures.next in
    let ends_are : c.hand_over.new.ends ≡ joined_at (emptied c.self.inside.ends.items c.args.from) c.args.to (ends_at c.self.inside.ends.items c.args.from) =
    rw c.deref_mut-2.ensures.value at c.hand_over.ensures.ends in
    let now : AreNow c.hand_over.new.next c.hand_over.new.ends (handed_lists (all_linked c.self.inside.next.items c.self.inside.ends.items) c.args.from c.args.to) =
    rw (next_is, ends_are) (handed c.self.inside.next.items c.self.inside.ends.items c.args.from c.args.to c.self.invariant.are_linked from_there to_there c.requires.differ) in
    written _ _ _ _ _ _ _ (omega arith) (omega arith) (omega arith) (omega arith) (omega arith) now

pub invariant_of-self : goal.invariant_of-self
invariant_of-self c = record { size = (vectors c).size; are_linked = (vectors c).now.are_linked }

pub returns-clause-lists : goal.returns-clause-lists
returns-clause-lists c = (vectors c).now.lists_are ∙ ap (λ (v : NumberLists). handed_lists v.lists c.args.from c.args.to) c.self.view_is
