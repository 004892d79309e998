use Rattle.std.proofs.Common.{◌≡◌, ◌<◌, ◌+◌, ℕ, [], ◌∷◌, ◌++◌, length, take, drop, ◌∙◌, ap, arith}
use Rattle.resource_votes.specs.Lists.{added_to}
use Rattle.resource_votes.specs.LinksInside.{NumberLists, ends_at, joined_next, joined_at, all_linked}
use Rattle.resource_votes.proofs.Handed.{last_there, pushed, AreNow, IsWritten, written}
use Rattle.resource_votes.proofs.Joined.{grown_linked}
use Rattle.resource_votes.proofs.links.Links.push.Goals as goal

pub append-requires-clause-last : goal.append-requires-clause-last
append-requires-clause-last c =
    let there : c.args.list < length c.self.inside.ends.items = omega (arith, c.requires.there, c.self.invariant.size) in
    rw (c.deref_mut-2.ensures.value, c.deref_mut.ensures.value, c.push_reserved.ensures.items)
    (last_there _ _ (grown_linked _ _ c.self.invariant.are_linked) c.args.list there)

-- the vectors after the call
vectors : (c : goal.After-self-2-1) → IsWritten (take c.push_reserved.new.self.len (c.append.new.next ++ drop (length c.append.new.next) c.push_reserved.new.self.items)) (take c.self.inside.ends.len (c.append.new.ends ++ drop (length c.append.new.ends) c.self.inside.ends.items)) (added_to (all_linked c.self.inside.next.items c.self.inside.ends.items) c.args.list c.len-number.result)
vectors c =
    let there : c.args.list < length c.self.inside.ends.items = omega (arith, c.requires.there, c.self.invariant.size) in
    let number : c.len-number.result ≡ length c.self.inside.next.items + 1 = omega arith in
    let next_is : c.append.new.next ≡ joined_next (c.self.inside.next.items ++ 0 ∷ []) (ends_at c.self.inside.ends.items c.args.list) (record { first = c.len-number.result; last = c.len-number.result }) =
    rw (c.deref_mut-2.ensures.value, c.deref_mut.ensures.value, c.push_reserved.ensures.items) at c.append.ensures.next in
    let ends_are : c.append.new.ends ≡ joined_at c.self.inside.ends.items c.args.list (record { first = c.len-number.result; last = c.len-number.result }) =
    rw c.deref_mut-2.ensures.value at c.append.ensures.ends in
    let now : AreNow c.append.new.next c.append.new.ends (added_to (all_linked c.self.inside.next.items c.self.inside.ends.items) c.args.list c.len-number.result) =
    rw (next_is, ends_are) (pushed c.self.inside.next.items c.self.inside.ends.items c.args.list c.len-number.result c.self.invariant.are_linked there number) in
    written _ _ _ _ _ _ _ (omega arith) (omega arith) (omega arith) (omega arith) (omega arith) now

pub invariant_of-self : goal.invariant_of-self
invariant_of-self c = record { size = (vectors c).size; are_linked = (vectors c).now.are_linked }

pub returns-clause-lists : goal.returns-clause-lists
returns-clause-lists c =
    let number : c.len-number.result ≡ c.args.self.now.count + 1 = omega (arith, ap (λ (v : NumberLists). v.count) c.self.view_is) in
    (vectors c).now.lists_are ∙ ap (λ (v : NumberLists). added_to v.lists c.args.list c.len-number.result) c.self.view_is
    ∙ ap (λ (n : ℕ). added_to c.args.self.now.lists c.args.list n) number
