-- Which octets are a context (Transaction Service 1.4, module CosTransactions, struct PropagationContext): its timeout,
-- the current identity, the parents from the immediate one up to the top level, and an any; in a service context an
-- encapsulation of these. How many parents it has is our profile.
use Rattle.std.specs.Prelude.{◌≡◌, ℕ, ◌≤◌, List, ◌∷◌, ◌++◌, length, map, IsTrue}
use Rattle.std.specs.List.{list_all}
use Rattle.cdr_values.specs.Value.{ULong}
use Rattle.cdr_values.specs.Values.{ReadsAll}
use Rattle.cdr_values.specs.Reading.{Reading}
use Rattle.cdr_values.specs.Encapsulation.{IsEncapsulation}
use Rattle.cdr_values.specs.Sequence.{sequence_values}
use Rattle.ots_context.specs.Limits.{parent_limit}
use Rattle.ots_context.specs.Identity.{Fields, allows_fields, fields_values, identity_of}
use Rattle.ots_context.specs.Tail.{IsTail}
use Rattle.ots_context.specs.declared.context.Context.{Context}

-- what a reader has left is this context
pub record StandsAsContext (c : Context) (reader : Reading) : Type 0 where
  pub current : Fields
  pub parents : List Fields
  pub is_current : c.current ≡ identity_of current
  pub are_parents : c.parents ≡ map identity_of parents
  pub current_allowed : IsTrue (allows_fields current)
  pub parents_allowed : IsTrue (list_all allows_fields parents)
  pub few : length parents ≤ parent_limit
  pub behind : Reading
  pub stand : ReadsAll reader
      (ULong c.timeout ∷ (fields_values current ++ sequence_values fields_values parents)) behind
  pub tail : IsTail c.tail behind

-- the octets are this context
pub record IsContext (c : Context) (octets : List ℕ) : Type 0 where
  pub reader : Reading
  pub opened : IsEncapsulation octets reader
  pub stands : StandsAsContext c reader
