use Rattle.std.proofs.Common.{[], refl}
use Rattle.std.specs.Prelude.{replicate}
use Rattle.resource_votes.specs.Limits.{list_count}
use Rattle.resource_votes.proofs.Handed.{IsWritten, begun_of}
use Rattle.resource_votes.proofs.links.Links.new.Goals as goal

vectors : (c : goal.In_ok-vec) → IsWritten c.new.result.items c.in_ok-vec.field-0.items (replicate list_count [])
vectors c = begun_of list_count c.new.result.items c.in_ok-vec.field-0.items c.new.ensures.items (c.in_ok-vec.ensures.items_if_clones_equal (λ y h. h)) refl

pub invariant_of-result : goal.invariant_of-result
invariant_of-result c = record { size = (vectors c).size; are_linked = (vectors c).now.are_linked }

pub returns-clause-empty : goal.returns-clause-empty
returns-clause-empty c = (vectors c).now.lists_are
