-- Writing a context, and what refuses it (our profile). A context is written big endian, with padding 0.
use Rattle.std.specs.Prelude.{ℕ, nat_lt, List, ◌∷◌, ◌++◌, length, Result, Ok, Err, if◌then◌else◌}
use Rattle.cdr_values.specs.declared.order.Order.TheVariants.{Big}
use Rattle.cdr_values.specs.declared.fault.CdrFault.TheVariants.{TooLong}
use Rattle.cdr_values.specs.Limits.{output_limit}
use Rattle.cdr_values.specs.Value.{ULong}
use Rattle.cdr_values.specs.Values.{with_values}
use Rattle.cdr_values.specs.Writing.{Writing, place_of}
use Rattle.cdr_values.specs.Encapsulation.{begun}
use Rattle.cdr_values.specs.Sequence.{sequence_values}
use Rattle.ots_context.specs.Limits.{parent_limit}
use Rattle.ots_context.specs.Identity.{identity_values}
use Rattle.ots_context.specs.Tail.{can_stand, octets_of_tail}
use Rattle.ots_context.specs.declared.fault.ContextFault.{ContextFault}
use Rattle.ots_context.specs.declared.fault.ContextFault.TheVariants.{Cdr, TooMany, TailPlace}
use Rattle.ots_context.specs.declared.context.Context.{Context}
use Rattle.ots_context.specs.declared.context.AnyTail.{AnyTail}
use Rattle.ots_context.specs.declared.context.AnyTail.TheVariants.{Null, Kept}

-- a writer that has written what stands in front of the parents of a context
unfoldable pub behind_current : Writing → Context → Writing
behind_current w c = with_values w (ULong c.timeout ∷ identity_values c.current)

-- and the parents
unfoldable pub behind_parents : Writing → Context → Writing
behind_parents w c = with_values (behind_current w c) (sequence_values identity_values c.parents)

-- the octets with a tail behind them
unfoldable pub with_tail : Writing → AnyTail → Result (List ℕ) ContextFault
with_tail w tail =
    let octets = w.octets ++ octets_of_tail (place_of w) tail in
    if nat_lt output_limit (length octets) then Err (Cdr (TooLong (place_of w) (length octets))) else
    if can_stand (place_of w) tail then Ok octets else Err TailPlace

-- the octets of a writer with a context behind them, or why it isn't written
unfoldable pub with_context : Writing → Context → Result (List ℕ) ContextFault
with_context w c =
    if nat_lt parent_limit (length c.parents) then Err (TooMany (place_of (behind_current w c))) else
    with_tail (behind_parents w c) c.tail

-- the octets of a context, or why it isn't written
abbrev pub written : Context → Result (List ℕ) ContextFault
written c = with_context (begun Big) c

-- how many octets a tail has that is kept
abbrev pub kept_length : AnyTail → ℕ
kept_length Null = 0
kept_length (Kept order modulo octets) = length octets
