use Rattle.std.proofs.Common.{◌≡◌, ◌<◌, ◌≤◌, ℕ, List, [], length, sym, subst, ◌∙◌, ap, arith}
use Rattle.std.proofs.lemmas.List.{get_or_default, length-map}
use Rattle.std.proofs.lemmas.List.Sums.{get_or-le-sum_by}
use Rattle.resource_votes.specs.Lists.{list_at}
use Rattle.resource_votes.specs.LinksInside.{NumberLists, ends_at, no_ends, linked, all_linked}
use Rattle.resource_votes.specs.declared.links.Ends.{Ends}
use Rattle.resource_votes.proofs.Joined.{all_at}
use Rattle.resource_votes.proofs.ChainLemmas.{chain_numbers}
use Rattle.resource_votes.proofs.links.Links.numbers.Goals as goal

-- the first number is that of the list's ends
first_is : (c : goal.After-as_slice) → c.index.result.now.first ≡ (ends_at c.self.inside.ends.items c.args.list).first
first_is c = ap (λ (e : Ends). e.first) (c.index.ensures ∙ get_or_default c.self.inside.ends.items c.args.list _ no_ends (omega (arith, c.requires, c.self.invariant.size)))

pub invariant_of-result : goal.invariant_of-result
unfolding linked
invariant_of-result c = rw (c.as_slice.ensures.value, first_is c) (c.self.invariant.are_linked.chains c.args.list (omega (arith, c.requires, c.self.invariant.size)))

pub returns-clause-numbers : goal.returns-clause-numbers
unfolding linked
returns-clause-numbers c = rw (c.as_slice.ensures.value, first_is c)
    (sym (all_at c.self.inside.next.items c.self.inside.ends.items c.args.list (omega (arith, c.requires, c.self.invariant.size)))
    ∙ ap (λ (v : NumberLists). list_at v.lists c.args.list) c.self.view_is)

pub returns-clause-within : goal.returns-clause-within
unfolding linked
returns-clause-within c =
    let count : length c.self.inside.next.items ≡ c.args.self.now.count = ap (λ (v : NumberLists). v.count) c.self.view_is in
    rw (← count, c.as_slice.ensures.value, first_is c)
    (chain_numbers c.self.inside.next.items _ _ (c.self.invariant.are_linked.chains c.args.list (omega (arith, c.requires, c.self.invariant.size))))

pub returns-clause-few : goal.returns-clause-few
unfolding linked
returns-clause-few c =
    let count : length c.self.inside.next.items ≡ c.args.self.now.count = ap (λ (v : NumberLists). v.count) c.self.view_is in
    let within : c.args.list < length c.self.inside.ends.items = omega (arith, c.requires, c.self.invariant.size) in
    let shares : length (list_at (all_linked c.self.inside.next.items c.self.inside.ends.items) c.args.list) ≤ length c.self.inside.next.items =
    let one = get_or-le-sum_by (λ (xs : List ℕ). length xs) (all_linked c.self.inside.next.items c.self.inside.ends.items) c.args.list [] (subst (λ n. c.args.list < n) (sym (length-map c.self.inside.ends.items (linked c.self.inside.next.items))) within) in
    omega (arith, one, c.self.invariant.are_linked.few) in
    rw (← count, c.as_slice.ensures.value, first_is c)
    (subst (λ (xs : List ℕ). length xs ≤ length c.self.inside.next.items) (all_at c.self.inside.next.items c.self.inside.ends.items c.args.list within) shares)
