-- What reading and writing contexts have to do with each other.
use Rattle.std.specs.Prelude.{◌≡◌, ◌↔◌, ◌<◌, ◌^◌, ℕ, true, All, List, ◌++◌, Ok}
use Rattle.cdr_values.specs.declared.order.Order.TheVariants.{Big}
use Rattle.cdr_values.specs.Again.{standing}
use Rattle.cdr_values.specs.Reading.{Reading}
use Rattle.cdr_values.specs.Writing.{Writing, place_of}
use Rattle.ots_context.specs.Context.{IsContext, StandsAsContext}
use Rattle.ots_context.specs.Identity.{IsIdentity}
use Rattle.ots_context.specs.Writing.{with_context, written}
use Rattle.ots_context.specs.Reading.{context_at, context_in}
use Rattle.ots_context.specs.Tail.{can_stand, octets_of_tail, tail_at}
use Rattle.ots_context.specs.declared.context.Context.{Context}
use Rattle.ots_context.specs.declared.context.AnyTail.{AnyTail}

-- octets are read as a context exactly where they are that context
abbrev pub ContextsAreReadExactly : Type 0
ContextsAreReadExactly = (octets : List ℕ) (c : Context) → (context_in octets ≡ Ok c) ↔ IsContext c octets

-- what a reader has left is read as a context exactly where it is that context
abbrev pub ContextsStandExactly : Type 0
ContextsStandExactly = (r : Reading) (c : Context) → (context_at r ≡ Ok c) ↔ StandsAsContext c r

-- a tail can stand at an offset exactly where its octets are read there as that tail again
abbrev pub TailsStandWhereReadAgain : Type 0
TailsStandWhereReadAgain = (place : ℕ) (tail : AnyTail)
    → (can_stand place tail ≡ true) ↔ (tail_at (standing Big place (octets_of_tail place tail)) ≡ tail)

-- what a context can be
pub record IsSound (c : Context) : Type 0 where
  pub timeout : c.timeout < 2 ^ 32
  pub current : IsIdentity c.current
  pub parents : All IsIdentity c.parents

-- a context that was written is read again, whatever its tail
abbrev pub WrittenContextsAreReadAgain : Type 0
WrittenContextsAreReadAgain = (c : Context) (octets : List ℕ) → IsSound c → written c ≡ Ok octets
    → context_in octets ≡ Ok c

-- the same of one that was written behind what a writer had
abbrev pub ContextsAreReadWhereWritten : Type 0
ContextsAreReadWhereWritten = (w : Writing) (c : Context) (octets : List ℕ) → w.order ≡ Big → IsSound c
    → with_context w c ≡ Ok octets
    → (spelled : List ℕ) × (octets ≡ w.octets ++ spelled) × (context_at (standing Big (place_of w) spelled) ≡ Ok c)
